-- A history that can be spelled.
use Rattle.std.specs.List.{All}
use Rattle.tuple_bytes.specs.Spelling.{FitsHeader, FitsItem}
use Rattle.history_model.specs.History.{History}

-- a history whose header and items have spellings
pub record HasSpelling (h : History) : Type 0 where
  pub header : FitsHeader h.header
  pub items : All FitsItem h.items
