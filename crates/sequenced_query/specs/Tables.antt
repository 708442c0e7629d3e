-- A table that is kept, as a query over a span reads it.
use Rattle.std.specs.Prelude.{◌≡◌, ℕ, Option, Some, List, map}
use Rattle.std.specs.Option.{option_map}
use Rattle.tuple_bytes.specs.declared.value.Value.{Value}
use Rattle.tuple_bytes.specs.declared.op.Column.{Column}
use Rattle.tt_table.specs.declared.version.Version.{Version}
use Rattle.tt_table.specs.Tables.{TableVersions}
use Rattle.tt_table.specs.Versions.{keyed}

-- its columns, the moment of its Create, and its keys with their versions
pub record ShowsTable (cs : List Column) (m : ℕ) (es : List (Value × List Version)) (o : Option TableVersions) : Type 0 where
  pub columns : Some cs ≡ option_map (λ t. t.columns) o
  pub made : Some m ≡ option_map (λ t. t.created) o
  pub keys : Some (map keyed es) ≡ option_map (λ t. t.keys) o
