-- What was read of a file.
use Rattle.std.specs.Prelude.{◌≡◌, ℕ, List, ◌++◌, length, take, Some}
use Rattle.tuple_bytes.specs.declared.item.Item.{Item}
use Rattle.history_model.specs.declared.head.Front.{Front}
use Rattle.history_model.specs.Heads.{is_segmented, format_by}
use Rattle.history_model.specs.Stored.{max_file, items_of, front_header}
use Rattle.store_inspect.specs.declared.store_file.StoreFile.{StoreFile}

-- the length, and the bytes up to the limit
pub record HasBytes (file : StoreFile) (bytes : List ℕ) : Type 0 where
  pub size : file.size ≡ length bytes
  pub front : file.front.items ≡ take max_file bytes

-- what a run holds was added to items, and ends at this gate
pub record IsRun (before : List Item) (found : List (List ℕ) × ℕ) (items : List Item) (gate : ℕ) : Type 0 where
  pub items_are : items ≡ before ++ items_of found.0
  pub gate_is : gate ≡ found.1

-- the bytes have this header and this format
pub record HasFront (front : Front) (bytes : List ℕ) : Type 0 where
  pub header : front_header bytes ≡ Some front.header
  pub format : front.format ≡ format_by (is_segmented bytes)
