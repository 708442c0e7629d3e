-- The eras of a history, each with the first granule of its tile, are each the next one.
use Rattle.std.proofs.Common.{◌≡◌, ℕ, ◌+◌, ◌<◌, ◌≤◌, Bool, true, cond, inl, inr, List, [], ◌∷◌, ◌++◌, length, map, refl, sym, ap, subst, ◌∙◌, append-nil, append_assoc, arith}
use Rattle.std.specs.Prelude.{fold}
use Rattle.std.specs.List.{All, AllByRecursion}
use Rattle.std.proofs.lemmas.Bool.{cases_Bool, and_from}
use Rattle.std.proofs.lemmas.List.{length-append, length-map}
use Rattle.std.proofs.lemmas.List.Elements.{All-head, All-tail}
use Rattle.tuple_bytes.specs.declared.item.Item.{Item}
use Rattle.tuple_bytes.specs.declared.item.Item.TheVariants as items
use Rattle.tuple_bytes.specs.Spelling.{FitsItem}
use Rattle.history_model.specs.History.{History}
use Rattle.digest_model.specs.Layout.{Era as LayoutEra, Layout, Policy, SameTiles, layout_by, layout, max_later, policy_of, first_era, first_granule, last_tile, is_next, offered, with_item}
use Rattle.digest_model.proofs.EraLaws.{itself, then_alike, later_era}
use Rattle.digest_model.proofs.Eras.{next_is}
use Rattle.digest_model.proofs.Layouts as layouts
use Rattle.policy_eras.specs.declared.era.Era.{Era}
use Rattle.policy_eras.specs.Policy.{as_era}
use Rattle.policy_eras.proofs.Histories.{layout_is}
use Rattle.evidence_file.specs.Evidence.{FitsEra, are_next}
use Rattle.evidence_file.specs.Gathering.{placed}

-- the granule is the first one of the era's tile
abbrev pub IsPlacedIn : Policy → Era → Type 0
IsPlacedIn q e = e.granule ≡ first_granule (layout_by q) e.tile

-- from some eras others come by taking these
pub record Taken (p q : Policy) : Type 0 where
  pub eras : List Era
  pub later : q.later ≡ p.later ++ map as_era eras
  pub next : are_next p eras ≡ true
  pub fit : AllByRecursion FitsEra eras
  pub placed : AllByRecursion (IsPlacedIn q) eras
  pub same : (n : ℕ) → n ≤ last_tile p.first p.later → SameTiles n (layout_by p) (layout_by q)
  pub few : length p.later ≤ max_later → length q.later ≤ max_later

last_pushed : (first : LayoutEra) (later : List LayoutEra) (e : LayoutEra) → last_tile first (later ++ e ∷ []) ≡ e.tile
unfolding last_tile
last_pushed first [] e = refl
last_pushed first (x ∷ xs) e = last_pushed x xs e

none_taken : (p : Policy) → Taken p p
unfolding are_next
none_taken p = record {
  eras = [];
  later = sym (append-nil p.later);
  next = refl;
  fit = tt;
  placed = tt;
  same = λ n le. itself n (layout_by p);
  few = λ le. le;
}

abbrev behind : Policy → LayoutEra → Policy
behind p e = record { first = p.first; later = p.later ++ e ∷ [] }

one_taken : (p q : Policy) (e : Era) → FitsEra e → is_next p (as_era e) e.granule ≡ true → Taken (behind p (as_era e)) q → Taken p q
unfolding are_next
one_taken p q e fits next t =
    let terms = next_is p (as_era e) e.granule next in
    let few : length p.later < 255 = terms.0 in
    let low : last_tile p.first p.later ≤ e.tile = terms.1 in
    let one : offered p (as_era e) e.granule ≡ behind p (as_era e) = ap (λ (b : Bool). cond b (behind p (as_era e)) p) next in
    let upto : (n : ℕ) → n ≤ e.tile → SameTiles n (layout_by p) (layout_by q) = λ n le.
    then_alike n (layout_by p) (layout_by (behind p (as_era e))) (layout_by q) (later_era p (as_era e) n le)
    (t.same n (omega (arith, le, last_pushed p.first p.later (as_era e)))) in
    record {
      eras = e ∷ t.eras;
      later = t.later ∙ append_assoc p.later (as_era e ∷ []) (map as_era t.eras);
      next = and_from (is_next p (as_era e) e.granule) (are_next (offered p (as_era e) e.granule) t.eras) next (subst (λ (x : Policy). are_next x t.eras ≡ true) (sym one) t.next);
      fit = (fits, t.fit);
      placed = (terms.2 ∙ layouts.same_first (layout_by p) (layout_by q) e.tile e.tile (omega arith) (upto e.tile (omega arith)), t.placed);
      same = λ n le. upto n (omega (arith, le, low));
      few = λ le. t.few (omega (arith, few, length-append p.later (as_era e ∷ [])));
    }

change_taken : (p q : Policy) (e : Era) → FitsEra e → Taken (offered p (as_era e) e.granule) q → Taken p q
change_taken p q e fits t = elim (cases_Bool (is_next p (as_era e) e.granule)) [
  | inl next ↦ one_taken p q e fits next (subst (λ (x : Policy). Taken x q) (ap (λ (b : Bool). cond b (behind p (as_era e)) p) next) t)
  | inr other ↦ subst (λ (x : Policy). Taken x q) (ap (λ (b : Bool). cond b (behind p (as_era e)) p) other) t
]

items_taken : (p : Policy) (is : List Item) → All FitsItem is → Taken p (fold with_item p is)
items_taken p [] fits = none_taken p
items_taken p (items.Txn t ∷ is) fits = items_taken p is (All-tail FitsItem (items.Txn t) is fits)
items_taken p (items.Frontier moment ∷ is) fits = items_taken p is (All-tail FitsItem (items.Frontier moment) is fits)
items_taken p (items.Policy tile granule k algs ∷ is) fits =
    let e : Era = record { tile = tile; granule = granule; k = k; algs = algs } in
    let rest = items_taken (offered p (as_era e) granule) is (All-tail FitsItem (items.Policy tile granule k algs) is fits) in
    change_taken p (fold with_item (offered p (as_era e) granule) is) e (All-head FitsItem (items.Policy tile granule k algs) is fits) rest

placed_again : (s : History) (es : List Era) → AllByRecursion (IsPlacedIn (policy_of s)) es → map (placed s) (map as_era es) ≡ es
placed_again s [] h = refl
placed_again s (e ∷ es) h =
    let granule : first_granule (layout s) e.tile ≡ e.granule = sym (h.0 ∙ ap (λ (l : Layout). first_granule l e.tile) (layout_is s {p = policy_of s} refl)) in
    let one : placed s (as_era e) ≡ e = ap (λ (g : ℕ). let x : Era = record { tile = e.tile; granule = g; k = e.k; algs = e.algs } in x) granule in
    ap (λ (x : Era). x ∷ map (placed s) (map as_era es)) one ∙ ap (λ (xs : List Era). e ∷ xs) (placed_again s es h.1)

-- the eras that a file shows of a history
pub record ErasFit (s : History) (eras : List Era) : Type 0 where
  pub few : length eras ≤ max_later
  pub fit : AllByRecursion FitsEra eras
  pub next : are_next (first_era s.header) eras ≡ true

pub eras_fit : (s : History) → All FitsItem s.items → ErasFit s (map (placed s) (policy_of s).later)
unfolding policy_of
eras_fit s fits =
    let t : Taken (first_era s.header) (policy_of s) = items_taken (first_era s.header) s.items fits in
    let are : t.eras ≡ map (placed s) (policy_of s).later = sym (ap (map (placed s)) t.later ∙ placed_again s t.eras t.placed) in
    let few : length (policy_of s).later ≤ 255 = t.few (omega arith) in
    subst (ErasFit s) are (record { few = omega (arith, few, ap (length {A = Era}) are, length-map (policy_of s).later (placed s)); fit = t.fit; next = t.next })
