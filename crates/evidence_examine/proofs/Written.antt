-- The lines of answers are those of the entries.
use Rattle.std.proofs.Common.{◌≡◌, ℕ, ◌+◌, cond, List, [], ◌∷◌, ◌++◌, length, map, codes, refl, ap, ◌∙◌, Option, Some, None}
use Rattle.std.specs.List.{flat_map, count_by}
use Rattle.std.specs.Option.{option_map}
use Rattle.std.proofs.lemmas.List.{length-map}
use Rattle.std.proofs.lemmas.List.Folds.{fold-map}
use Rattle.byte_grammar.specs.Numbered.{numbered}
use Rattle.notary_link.specs.Batches.{Batch}
use Rattle.digest_model.specs.Layout.{Layout}
use Rattle.evidence_file.specs.declared.entry.Entry.{Entry}
use Rattle.evidence_file.specs.Shown.{leaf_name}
use Rattle.evidence_examine.specs.declared.judged.Judged.{Judged}
use Rattle.evidence_examine.specs.Texts.{line, called, shown_as, original_words, entry_line, is_confirmed, last_line, lines_of}
use Rattle.evidence_examine.specs.Judging.{listed, judged, listed_words, judged_line, is_other, judged_text}

original_is : (batches : List Batch) (l : Layout) (g : ℕ) (o : Option (List (List ℕ))) → listed_words (option_map (listed batches (leaf_name l g) g) o) ≡ original_words batches l g o
original_is batches l g None = refl
original_is batches l g (Some ts) = refl

line_is : (batches : List Batch) (l : Layout) (e : Entry) → judged_line (judged batches l e) ≡ entry_line batches l e
line_is batches l e =
    ap (λ (words : List ℕ). line (numbered (codes "granule ") e.granule ++ called (shown_as batches l e.granule e.shown) ++ numbered (codes " shown ") (length e.shown) ++ words)) (original_is batches l e.granule e.original)

lines_are : (batches : List Batch) (l : Layout) (es : List Entry) → flat_map judged_line (map (judged batches l) es) ≡ flat_map (entry_line batches l) es
lines_are batches l [] = refl
lines_are batches l (e ∷ es) =
    ap (λ (text : List ℕ). text ++ flat_map judged_line (map (judged batches l) es)) (line_is batches l e)
    ∙ ap (λ (text : List ℕ). entry_line batches l e ++ text) (lines_are batches l es)

others_are : (batches : List Batch) (l : Layout) (es : List Entry) → count_by is_other (map (judged batches l) es) ≡ count_by (is_confirmed batches l) es
others_are batches l es = fold-map (λ (n : ℕ) (j : Judged). n + cond (is_other j) 1 0) (judged batches l) 0 es

pub text_is : (batches : List Batch) (l : Layout) (es : List Entry) → judged_text (map (judged batches l) es) ≡ lines_of batches l es
unfolding judged_text lines_of
text_is batches l es =
    ap (λ (text : List ℕ). text ++ last_line (length (map (judged batches l) es)) (count_by is_other (map (judged batches l) es))) (lines_are batches l es)
    ∙ ap (λ (n : ℕ). flat_map (entry_line batches l) es ++ last_line n (count_by is_other (map (judged batches l) es))) (length-map es (judged batches l))
    ∙ ap (λ (n : ℕ). flat_map (entry_line batches l) es ++ last_line (length es) n) (others_are batches l es)
