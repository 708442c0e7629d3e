-- A row of the table of findings, as it is printed.
use Rattle.std.specs.Prelude.{ℕ, List, ◌++◌, codes}
use Rattle.file_findings.specs.declared.table.Row.{Row}

-- a word, and what it says, on a line
abbrev pub field : List ℕ → List ℕ → List ℕ
field word text = word ++ (text ++ codes "\n")

abbrev pub row_text : Row → List ℕ
row_text r =
    field (codes "name ") r.name.now ++ field (codes "rank ") r.ranks.now ++ field (codes "words ") r.words.now
    ++ field (codes "means ") r.meaning.now ++ field (codes "next ") r.next.now ++ field (codes "page docs/FINDINGS.md#") r.name.now
