-- The texts of names.
use Rattle.std.specs.Prelude.{ℕ, ◌==◌, if◌then◌else◌, List, ◌++◌, codes}
use Rattle.byte_grammar.specs.Numbered.{numbered}
use Rattle.notary_link.specs.declared.name.Name.{Name}
use Rattle.notary_link.specs.declared.name.Name.TheVariants as names
use Rattle.notary_link.specs.Batches.{whole_tile}

-- a part of a tile
abbrev pub part_text : ℕ → List ℕ
part_text part = if part == whole_tile then codes " whole" else numbered (codes " bit ") part

unfoldable pub name_text : Name → List ℕ
name_text names.Header = codes "header"
name_text (names.Cum tile) = numbered (codes "cum ") tile
name_text (names.Tile tile part) = numbered (codes "tile ") tile ++ part_text part
name_text (names.Node level index) = numbered (codes "node ") level ++ numbered (codes " ") index
name_text (names.Era era) = numbered (codes "era ") era
name_text (names.EraNode era level index) = numbered (codes "node ") era ++ (numbered (codes " ") level ++ numbered (codes " ") index)
