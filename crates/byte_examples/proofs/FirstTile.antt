-- The first tile of a store ends within the granules, whatever policies it has.
use Rattle.std.proofs.Common.{◌≤◌, List, arith}
use Rattle.std.specs.List.{All}
use Rattle.tuple_bytes.specs.declared.header.Header.{Header}
use Rattle.tuple_bytes.specs.declared.item.Item.{Item}
use Rattle.tuple_bytes.specs.Spelling.{FitsHeader}
use Rattle.history_model.specs.History.{History, history}
use Rattle.history_model.specs.Stored.{IsStorable}
use Rattle.digest_model.specs.Layout.{layout, end_granule, max_granules}
use Rattle.digest_model.proofs.Spelled.{has_spelling}
use Rattle.digest_model.proofs.Eras.{first_at_most}
use Rattle.digest_model.proofs.Layouts.{adjoin}

pub first_tile_ends : (header : Header) (items : List Item) → FitsHeader header → All IsStorable items → end_granule (layout (history header items)) 0 ≤ max_granules
first_tile_ends header items fits storable =
    let h : History = history header items in
    let ends = adjoin (layout h) 0 in
    let few = first_at_most h 1 (has_spelling h (record { header = fits; items = storable })) in
    omega (arith, ends, few)
