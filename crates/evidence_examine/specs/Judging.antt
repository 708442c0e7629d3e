-- The program's own values of what is answered for an entry, and the lines that they make.
use Rattle.std.specs.Prelude.{◌+◌, ℕ, Bool, List, [], ◌++◌, length, codes, Option, Some, None}
use Rattle.std.specs.List.{flat_map, count_by}
use Rattle.std.specs.Option.{option_map}
use Rattle.byte_grammar.specs.Numbered.{numbered}
use Rattle.notary_link.specs.declared.name.Name.{Name}
use Rattle.notary_link.specs.Batches.{Batch}
use Rattle.digest_model.specs.Layout.{Layout}
use Rattle.evidence_file.specs.declared.entry.Entry.{Entry}
use Rattle.evidence_file.specs.Shown.{list_answer, leaf_name}
use Rattle.evidence_examine.specs.declared.judged.Listed.{Listed}
use Rattle.evidence_examine.specs.declared.judged.Judged.{Judged}
use Rattle.evidence_examine.specs.Texts.{line, called, differs, last_line}

-- ---- what is answered

abbrev pub listed : List Batch → Name → ℕ → List (List ℕ) → Listed
listed batches name g spelled = record { count = length spelled; answer = list_answer batches name g spelled }

abbrev pub judged_at : List Batch → Name → Entry → Judged
judged_at batches name e = record { granule = e.granule; shown = listed batches name e.granule e.shown; original = option_map (listed batches name e.granule) e.original }

-- under the name of its leaf
abbrev pub judged : List Batch → Layout → Entry → Judged
judged batches l e = judged_at batches (leaf_name l e.granule) e

-- ---- what is hashed

abbrev pub txns_in : Option (List (List ℕ)) → ℕ
txns_in None = 0
txns_in (Some ts) = length ts

-- how many transactions are shown
abbrev pub txn_count : Entry → ℕ
txn_count e = length e.shown + txns_in e.original

-- ---- the lines

abbrev pub listed_words : Option Listed → List ℕ
listed_words None = []
listed_words (Some l) = numbered (codes " original ") l.count ++ called l.answer

abbrev pub judged_line : Judged → List ℕ
judged_line j = line (numbered (codes "granule ") j.granule ++ called j.shown.answer ++ numbered (codes " shown ") j.shown.count ++ listed_words j.original)

abbrev pub is_other : Judged → Bool
is_other j = differs j.shown.answer

unfoldable pub judged_text : List Judged → List ℕ
judged_text js = flat_map judged_line js ++ last_line (length js) (count_by is_other js)
