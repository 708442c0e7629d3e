-- The text of an examination.
use Rattle.std.specs.Prelude.{ℕ, Bool, true, false, List, [], ◌∷◌, ◌++◌, length, codes, Option, Some, None}
use Rattle.std.specs.List.{flat_map, count_by}
use Rattle.byte_grammar.specs.Numbered.{numbered}
use Rattle.notary_link.specs.declared.answer.Answer.{Answer}
use Rattle.notary_link.specs.declared.answer.Answer.TheVariants.{Same, Differs, Absent}
use Rattle.notary_link.specs.Batches.{Batch}
use Rattle.digest_model.specs.Layout.{Layout}
use Rattle.evidence_file.specs.declared.entry.Entry.{Entry}
use Rattle.evidence_file.specs.Shown.{list_answer, leaf_name}

-- the answer for a list of a granule, under the name of the granule's leaf
abbrev pub shown_as : List Batch → Layout → ℕ → List (List ℕ) → Answer
shown_as batches l g spelled = list_answer batches (leaf_name l g) g spelled

abbrev pub line : List ℕ → List ℕ
line words = words ++ 10 ∷ []

-- what a list is called by its answer; none is called so where that is Absent
abbrev pub called : Answer → List ℕ
called Same = codes " as notarized"
called Differs = codes " not as notarized"
called Absent = []

-- the second list, where there is one
abbrev pub original_words : List Batch → Layout → ℕ → Option (List (List ℕ)) → List ℕ
original_words batches l g None = []
original_words batches l g (Some ts) = numbered (codes " original ") (length ts) ++ called (shown_as batches l g ts)

-- an entry
abbrev pub entry_line : List Batch → Layout → Entry → List ℕ
entry_line batches l e =
    line (numbered (codes "granule ") e.granule ++ called (shown_as batches l e.granule e.shown)
    ++ numbered (codes " shown ") (length e.shown) ++ original_words batches l e.granule e.original)

abbrev pub differs : Answer → Bool
differs Differs = true
differs Same = false
differs Absent = false

-- what the file shows for a granule is not as notarized
abbrev pub is_confirmed : List Batch → Layout → Entry → Bool
is_confirmed batches l e = differs (shown_as batches l e.granule e.shown)

-- how many entries there are, and how many of them are confirmed
abbrev pub last_line : ℕ → ℕ → List ℕ
last_line entries confirmed = line (numbered (codes "examined ") entries ++ numbered (codes " confirmed ") confirmed)

-- a line for each entry, and the last one
unfoldable pub lines_of : List Batch → Layout → List Entry → List ℕ
lines_of batches l es = flat_map (entry_line batches l) es ++ last_line (length es) (count_by (is_confirmed batches l) es)
