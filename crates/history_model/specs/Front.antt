-- What the head of a file says.
use Rattle.std.specs.Prelude.{Option}
use Rattle.std.specs.Option.{option_map}
use Rattle.tuple_bytes.specs.declared.header.Header.{Header}
use Rattle.history_model.specs.declared.format.Format.{Format}
use Rattle.history_model.specs.declared.head.Front.{Front}

-- its header
abbrev pub header_in : Option Front → Option Header
header_in front = option_map (λ f. f.header) front

-- its format
abbrev pub format_in : Option Front → Option Format
format_in front = option_map (λ f. f.format) front
