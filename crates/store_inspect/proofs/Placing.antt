-- Where items stand, with one item more.
use Rattle.std.proofs.Common.{◌≡◌, ℕ, Bool, true, false, not, ◌&&◌, eqb, nat_le, cond, List, [], ◌∷◌, ◌++◌, length-append, refl, sym, ap, ◌∙◌, arith}
use Rattle.std.proofs.lemmas.Bool.{eq-eqb, ne_eqb}
use Rattle.tuple_bytes.specs.declared.header.Header.{Header}
use Rattle.tuple_bytes.specs.declared.item.Item.{Item}
use Rattle.tuple_bytes.specs.declared.item.Item.TheVariants as items
use Rattle.tuple_bytes.specs.declared.item.Txn.{Txn}
use Rattle.history_model.specs.History.{granule_of}
use Rattle.digest_model.specs.Layout.{Era, Policy, policy_of, with_item, offered, is_next, max_granules}
use Rattle.policy_eras.specs.Policy.{count_of}
use Rattle.file_findings.specs.declared.finding.Finding.{Finding}
use Rattle.file_findings.specs.declared.finding.Finding.TheVariants.{IdlePolicy, OddFrontier, Beyond}
use Rattle.store_inspect.specs.declared.granules.Granules.{Granules}
use Rattle.file_findings.specs.Along.{listed}
use Rattle.store_inspect.specs.Items.{next_place, moment_before, eras_before, begins_tile, tile_at, idle_policy, odd_frontier, filing_of, beyond}
use Rattle.store_inspect.specs.Known.{KnowsGranules}
use Rattle.file_findings.proofs.Along.{found_none, found_with}
use Rattle.std.proofs.lemmas.List.Sums.{fold_push}
use Rattle.digest_model.specs.Layout.{first_era}

pub eras_none : (header : Header) → eras_before header [] ≡ first_era header
unfolding policy_of
eras_none header = refl

-- the eras with one item more
eras_more : (header : Header) (before : List Item) (item : Item) → eras_before header (before ++ item ∷ []) ≡ with_item (eras_before header before) item
unfolding policy_of
eras_more header before item = fold_push with_item (first_era header) before item

-- one era more is counted, where it begins
pub idle_is : (p : Policy) (e : Era) (granule : ℕ) → eqb (count_of (offered p e granule)) (count_of p) ≡ not (is_next p e granule)
idle_is p e granule = by (is_next p e granule)
  where
    by : (next : Bool) → eqb (count_of (cond next (record { first = p.first; later = p.later ++ e ∷ [] }) p)) (count_of p) ≡ not next
    by true = ne_eqb _ _ (λ same. absurd (omega (arith, same, length-append p.later (e ∷ []))))
    by false = eq-eqb _ _ refl

pub granules_txn : (old new : Granules) (t : Txn) (place : ℕ) → new.width ≡ old.width → new.eras ≡ old.eras → new.idle.items ≡ old.idle.items → new.odd.items ≡ old.odd.items → new.filed.items ≡ old.filed.items
    → new.beyond.items ≡ old.beyond.items ++ listed (nat_le max_granules (granule_of old.width t.moment)) (Beyond place t.moment)
    → (header : Header) (before : List Item) → place ≡ next_place before → KnowsGranules header old before → KnowsGranules header new (before ++ items.Txn t ∷ [])
granules_txn old new t place width eras idle odd filed more header before at known = record {
  width = width ∙ known.width;
  eras = eras ∙ known.eras ∙ sym (eras_more header before (items.Txn t));
  idle = idle ∙ known.idle ∙ sym (found_none (idle_policy header) before (items.Txn t) refl);
  odd = odd ∙ known.odd ∙ sym (found_none (odd_frontier header) before (items.Txn t) refl);
  filed = filed ∙ known.filed ∙ sym (found_none (filing_of header) before (items.Txn t) refl);
  beyond_last = found_with (beyond header) before (items.Txn t) old.beyond.items new.beyond.items _ more
      (ap (λ (p : ℕ). listed (nat_le max_granules (granule_of old.width t.moment)) (Beyond p t.moment)) at
      ∙ ap (λ (w : ℕ). listed (nat_le max_granules (granule_of w t.moment)) (Beyond (next_place before) t.moment)) known.width) known.beyond_last;
}

-- a Frontier: odd where it files, and no tile begins there
abbrev pub odd_at : ℕ → ℕ → Policy → ℕ → ℕ → List Finding
odd_at place width eras last moment = listed (not (eqb moment last) && not (begins_tile width eras moment)) (OddFrontier place moment)

-- and else a filing
abbrev pub filed_at : ℕ → Policy → ℕ → ℕ → List ℕ
filed_at width eras last moment = listed (not (eqb moment last) && begins_tile width eras moment) (tile_at width eras moment)

pub granules_frontier : (old new : Granules) (moment place last : ℕ) → new.width ≡ old.width → new.eras ≡ old.eras → new.idle.items ≡ old.idle.items → new.beyond.items ≡ old.beyond.items
    → new.odd.items ≡ old.odd.items ++ odd_at place old.width old.eras last moment → new.filed.items ≡ old.filed.items ++ filed_at old.width old.eras last moment
    → (header : Header) (before : List Item) → place ≡ next_place before → last ≡ moment_before before → KnowsGranules header old before → KnowsGranules header new (before ++ items.Frontier moment ∷ [])
granules_frontier old new moment place last width eras idle far more files header before at was known = record {
  width = width ∙ known.width;
  eras = eras ∙ known.eras ∙ sym (eras_more header before (items.Frontier moment));
  idle = idle ∙ known.idle ∙ sym (found_none (idle_policy header) before (items.Frontier moment) refl);
  odd = found_with (odd_frontier header) before (items.Frontier moment) old.odd.items new.odd.items _ more
      (ap (λ (p : ℕ). odd_at p old.width old.eras last moment) at
      ∙ ap (λ (w : ℕ). odd_at (next_place before) w old.eras last moment) known.width
      ∙ ap (λ (e : Policy). odd_at (next_place before) header.width e last moment) known.eras
      ∙ ap (λ (l : ℕ). odd_at (next_place before) header.width (eras_before header before) l moment) was) known.odd;
  filed = found_with (filing_of header) before (items.Frontier moment) old.filed.items new.filed.items _ files
      (ap (λ (w : ℕ). filed_at w old.eras last moment) known.width
      ∙ ap (λ (e : Policy). filed_at header.width e last moment) known.eras
      ∙ ap (λ (l : ℕ). filed_at header.width (eras_before header before) l moment) was) known.filed;
  beyond_last = far ∙ known.beyond_last ∙ sym (found_none (beyond header) before (items.Frontier moment) refl);
}

abbrev pub idle_at : ℕ → Policy → Era → ℕ → List Finding
idle_at place eras e granule = listed (eqb (count_of (offered eras e granule)) (count_of eras)) (IdlePolicy place)

pub granules_policy : (old new : Granules) (e : Era) (granule place : ℕ) → new.width ≡ old.width → new.odd.items ≡ old.odd.items → new.filed.items ≡ old.filed.items → new.beyond.items ≡ old.beyond.items
    → new.eras ≡ offered old.eras e granule → new.idle.items ≡ old.idle.items ++ idle_at place old.eras e granule
    → (header : Header) (before : List Item) → place ≡ next_place before → KnowsGranules header old before → KnowsGranules header new (before ++ items.Policy e.tile granule e.k e.algs ∷ [])
granules_policy old new e granule place width odd filed far eras more header before at known = record {
  width = width ∙ known.width;
  eras = eras ∙ ap (λ (p : Policy). offered p e granule) known.eras ∙ sym (eras_more header before (items.Policy e.tile granule e.k e.algs));
  idle = found_with (idle_policy header) before (items.Policy e.tile granule e.k e.algs) old.idle.items new.idle.items _ more
      (ap (λ (p : ℕ). idle_at p old.eras e granule) at
      ∙ ap (λ (p : Policy). idle_at (next_place before) p e granule) known.eras
      ∙ ap (λ (b : Bool). listed b (IdlePolicy (next_place before))) (idle_is (eras_before header before) e granule)) known.idle;
  odd = odd ∙ known.odd ∙ sym (found_none (odd_frontier header) before (items.Policy e.tile granule e.k e.algs) refl);
  filed = filed ∙ known.filed ∙ sym (found_none (filing_of header) before (items.Policy e.tile granule e.k e.algs) refl);
  beyond_last = far ∙ known.beyond_last ∙ sym (found_none (beyond header) before (items.Policy e.tile granule e.k e.algs) refl);
}
