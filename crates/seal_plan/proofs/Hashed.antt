-- Where some tile takes the digests of its granules, some era has a chain.
use Rattle.std.proofs.Common.{◌≡◌, ℕ, ◌||◌, nat_le, Bool, true, false, cond, List, [], ◌∷◌, refl, sym, subst, ◌∙◌, inl, inr}
use Rattle.std.specs.List.{list_any}
use Rattle.std.proofs.lemmas.Bool.{cases_Bool}
use Rattle.digest_model.specs.Layout.{Era, Policy, layout_by, era_in}
use Rattle.digest_model.proofs.Layouts.{chains_bit, tree_bit}
use Rattle.policy_eras.specs.Policy.{is_hashed, has_leaves}
use Rattle.tile_seals.specs.Places.{takes_leaves}

or_here : (a b : Bool) → a ≡ true → (a || b) ≡ true
or_here true b e = refl
or_here false b e = absurd cc

or_there : (a b : Bool) → b ≡ true → (a || b) ≡ true
or_there true b e = refl
or_there false b e = e

or_either : (a b c : Bool) → (b || c) ≡ true → (a || (b || c)) ≡ true
or_either a b c e = or_there a (b || c) e

or_past : (a b c : Bool) → (a || c) ≡ true → (a || (b || c)) ≡ true
or_past true b c e = refl
or_past false true c e = refl
or_past false false c e = e

some_hashed : (e : Era) (later : List Era) (tile : ℕ) → is_hashed (era_in e later tile) ≡ true → (is_hashed e || list_any is_hashed later) ≡ true
unfolding era_in
some_hashed e [] tile is = or_here (is_hashed e) false is
some_hashed e (next ∷ later) tile is = elim (cases_Bool (nat_le next.tile tile)) [
  | inl reached ↦ or_either (is_hashed e) (is_hashed next) (list_any is_hashed later) (some_hashed next later tile (subst (λ (b : Bool). is_hashed (era_in (cond b next e) later tile) ≡ true) reached is))
  | inr not_yet ↦ or_past (is_hashed e) (is_hashed next) (list_any is_hashed later) (some_hashed e later tile (subst (λ (b : Bool). is_hashed (era_in (cond b next e) later tile) ≡ true) not_yet is))
]

pub takes_hashed : (p : Policy) (tile : ℕ) → takes_leaves (layout_by p) tile ≡ true → has_leaves p ≡ true
takes_hashed p tile is =
    let hashed : takes_leaves (layout_by p) tile ≡ is_hashed (era_in p.first p.later tile) = rw (chains_bit (layout_by p) tile, tree_bit (layout_by p) tile) refl in
    some_hashed p.first p.later tile (sym hashed ∙ is)
