-- Numbers, with one item more.
use Rattle.std.proofs.Common.{◌≡◌, ℕ, ◌+◌, ◌==◌, not, List, [], ◌∷◌, ◌++◌, refl, sym, ap, ◌∙◌}
use Rattle.std.proofs.lemmas.List.Sums.{fold_push}
use Rattle.tuple_bytes.specs.declared.item.Item.{Item}
use Rattle.tuple_bytes.specs.declared.item.Item.TheVariants as items
use Rattle.tuple_bytes.specs.declared.item.Txn.{Txn}
use Rattle.file_findings.specs.declared.finding.Finding.{Finding}
use Rattle.file_findings.specs.declared.finding.Finding.TheVariants.{NumberGap}
use Rattle.store_inspect.specs.declared.numbers.Numbers.{Numbers}
use Rattle.file_findings.specs.Along.{listed}
use Rattle.store_inspect.specs.Items.{next_place, after_number, number_gap}
use Rattle.store_inspect.specs.Known.{KnowsNumbers}
use Rattle.store_inspect.proofs.Others.{IsOther, of_other}
use Rattle.file_findings.proofs.Along.{found_none, found_with}

-- a gap, if it is one
abbrev pub gap_at : ℕ → ℕ → ℕ → List Finding
gap_at place last number = listed (not (number == last + 1)) (NumberGap place last number)

pub numbers_txn : (old new : Numbers) (t : Txn) (place : ℕ) → new.last ≡ t.number → new.gaps.items ≡ old.gaps.items ++ gap_at place old.last t.number
    → (before : List Item) → place ≡ next_place before → KnowsNumbers old before → KnowsNumbers new (before ++ items.Txn t ∷ [])
numbers_txn old new t place last gaps before at known = record {
  last = last ∙ sym (fold_push after_number 0 before (items.Txn t));
  gaps = found_with number_gap before (items.Txn t) old.gaps.items new.gaps.items (gap_at place old.last t.number) gaps
      (ap (λ (p : ℕ). gap_at p old.last t.number) at ∙ ap (λ (l : ℕ). gap_at (next_place before) l t.number) known.last) known.gaps;
}

-- an item that is no transaction
pub numbers_other : (n : Numbers) (item : Item) → ((last : ℕ) → after_number last item ≡ last) → ((before : List Item) → number_gap before item ≡ [])
    → (before : List Item) → KnowsNumbers n before → KnowsNumbers n (before ++ item ∷ [])
numbers_other n item stays none before known = record {
  last = known.last ∙ sym (stays _) ∙ sym (fold_push after_number 0 before item);
  gaps = known.gaps ∙ sym (found_none number_gap before item (none before));
}

pub numbers_others : (n : Numbers) (item : Item) → IsOther item → (before : List Item) → KnowsNumbers n before → KnowsNumbers n (before ++ item ∷ [])
numbers_others n item other before known = of_other (λ i. KnowsNumbers n (before ++ i ∷ []))
    (λ m. numbers_other n (items.Frontier m) (λ last. refl) (λ b. refl) before known)
    (λ tile granule k algs. numbers_other n (items.Policy tile granule k algs) (λ last. refl) (λ b. refl) before known) item other
