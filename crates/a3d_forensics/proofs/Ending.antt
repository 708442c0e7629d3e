-- When a descent comes to its end.
use Rattle.std.proofs.Common.{◌≡◌, ◌≢◌, ◌⊎◌, ℕ, zero, suc, ◌+◌, ◌*◌, ◌/◌, ◌%◌, ◌^◌, ◌<◌, Option, None, refl, sym, ap, subst, ◌∙◌, inl, inr, arith}
use Rattle.std.specs.Prelude.{if◌then◌else◌}
use Rattle.std.proofs.lemmas.Bool.{cases_eq}
use Rattle.notary_link.specs.declared.answer.Answer.{Answer}
use Rattle.notary_link.specs.declared.answer.Answer.TheVariants.{Same, Differs, Absent}
use Rattle.notary_link.specs.declared.fail.AskFail.{AskFail}
use Rattle.digest_model.specs.Roots.{roots_of}
use Rattle.digest_model.proofs.Roots.{root_in, is_root}
use Rattle.audit_model.specs.Names.{node_name}
use Rattle.audit_model.specs.Tree.{Reached, as_root, as_child, IsConsistent, is_different}
use Rattle.audit_model.specs.Asked.{stop_at}
use Rattle.audit_model.proofs.Stops.{neither, both_end, none_stops, no_stop}
use Rattle.a3d_forensics.specs.Descent.{stop_at_children, stop_below, stop_from, stop_of}

half_even : (i : ℕ) → (2 * i) / 2 ≡ i
half_even i = omega arith

half_odd : (i : ℕ) → (2 * i + 1) / 2 ≡ i
half_odd i = omega arith

parity : (i : ℕ) → (i ≡ 2 * (i / 2)) ⊎ (i ≡ 2 * (i / 2) + 1)
parity i = elim (cases_eq (i % 2) 0) [
  | inl even ↦ inl (omega (arith, even))
  | inr odd ↦ inr (omega (arith, odd))
]

-- ---- nothing stopped

not_below : (a : Answer) (p : Option AskFail) → (if is_different a then p else None) ≡ None → a ≡ Differs → p ≡ None
not_below Differs p e d = e
not_below Same p e d = absurd cc
not_below Absent p e d = absurd cc

one_differs : (era : ℕ) (a b : Answer) (level index : ℕ) → stop_at_children era a b level index ≡ None → (a ≡ Differs) ⊎ (b ≡ Differs)
one_differs era Absent b level index e = absurd cc
one_differs era Same Absent level index e = absurd cc
one_differs era Differs Absent level index e = absurd cc
one_differs era Same Same level index e = absurd cc
one_differs era Same Differs level index e = inr refl
one_differs era Differs Same level index e = inl refl
one_differs era Differs Differs level index e = inl refl

module _ (era leaves : ℕ) (nodes : ℕ → ℕ → Answer) (small : leaves < 2 ^ 32) (ended : stop_of era leaves nodes ≡ None) where
  parts : (level index : ℕ) → stop_below era nodes (suc level) index ≡ None
      → (stop_at_children era (nodes level (2 * index)) (nodes level (2 * index + 1)) level index ≡ None)
      × (nodes level (2 * index) ≡ Differs → stop_below era nodes level (2 * index) ≡ None)
      × (nodes level (2 * index + 1) ≡ Differs → stop_below era nodes level (2 * index + 1) ≡ None)
  unfolding stop_below
  parts level index e =
      let first = neither (stop_at_children era (nodes level (2 * index)) (nodes level (2 * index + 1)) level index) _ e in
      let next = neither (if is_different (nodes level (2 * index)) then stop_below era nodes level (2 * index) else None) _ first.1 in
      (first.0, not_below (nodes level (2 * index)) _ next.0, not_below (nodes level (2 * index + 1)) _ next.1)

  reached_ends : (level index : ℕ) → Reached leaves nodes level index → nodes level index ≡ Differs → stop_below era nodes level index ≡ None
  reached_ends level index (as_root root) differs =
      let none = none_stops (stop_from era nodes) (roots_of leaves) (level, index) ended (root_in leaves level index small root) in
      not_below (nodes level index) (stop_below era nodes level index) (neither (stop_at (nodes level index) (node_name era level index)) _ none).1 differs
  reached_ends level index (as_child above e) differs =
      let p = parts level (index / 2) (reached_ends (suc level) (index / 2) above e) in
      elim (parity index) [
        | inl even ↦ subst (λ i. stop_below era nodes level i ≡ None) (sym even) (p.1 (ap (nodes level) (sym even) ∙ differs))
        | inr odd ↦ subst (λ i. stop_below era nodes level i ≡ None) (sym odd) (p.2 (ap (nodes level) (sym odd) ∙ differs))
      ]

  pub consistent : IsConsistent leaves nodes
  consistent level index reached differs =
      one_differs era (nodes level (2 * index)) (nodes level (2 * index + 1)) level index (parts level index (reached_ends (suc level) index reached differs)).0

-- ---- nothing will stop it

branch_ends : (a : Answer) (p : Option AskFail) → (a ≡ Differs → p ≡ None) → (if is_different a then p else None) ≡ None
branch_ends Same p f = refl
branch_ends Absent p f = refl
branch_ends Differs p f = f refl

children_end : (era : ℕ) (a b : Answer) (level index : ℕ) → a ≢ Absent → b ≢ Absent → (a ≡ Differs) ⊎ (b ≡ Differs) → stop_at_children era a b level index ≡ None
children_end era Absent b level index left right is = absurd (left refl)
children_end era Same Absent level index left right is = absurd (right refl)
children_end era Differs Absent level index left right is = absurd (right refl)
children_end era Same Same level index left right (inl e) = absurd cc
children_end era Same Same level index left right (inr e) = absurd cc
children_end era Same Differs level index left right is = refl
children_end era Differs Same level index left right is = refl
children_end era Differs Differs level index left right is = refl

root_ends : (era : ℕ) (a : Answer) (level index : ℕ) → a ≢ Absent → stop_at a (node_name era level index) ≡ None
root_ends era Same level index there_it = refl
root_ends era Differs level index there_it = refl
root_ends era Absent level index there_it = absurd (there_it refl)

module _ (era leaves : ℕ) (nodes : ℕ → ℕ → Answer) (sound : IsConsistent leaves nodes) (filed : (level index : ℕ) → Reached leaves nodes level index → nodes level index ≢ Absent) where
  left_reached : (level index : ℕ) → Reached leaves nodes (suc level) index → nodes (suc level) index ≡ Differs → Reached leaves nodes level (2 * index)
  left_reached level index r e = let back = half_even index in
      as_child (subst (λ (i : ℕ). Reached leaves nodes (suc level) i) (sym back) r) (ap (nodes (suc level)) back ∙ e)

  right_reached : (level index : ℕ) → Reached leaves nodes (suc level) index → nodes (suc level) index ≡ Differs → Reached leaves nodes level (2 * index + 1)
  right_reached level index r e = let back = half_odd index in
      as_child (subst (λ (i : ℕ). Reached leaves nodes (suc level) i) (sym back) r) (ap (nodes (suc level)) back ∙ e)

  below_ends : (level index : ℕ) → Reached leaves nodes level index → nodes level index ≡ Differs → stop_below era nodes level index ≡ None
  unfolding stop_below
  below_ends zero index r e = refl
  below_ends (suc level) index r e =
      let left = left_reached level index r e in
      let right = right_reached level index r e in
      both_end (stop_at_children era (nodes level (2 * index)) (nodes level (2 * index + 1)) level index) _
      (children_end era (nodes level (2 * index)) (nodes level (2 * index + 1)) level index (filed level (2 * index) left) (filed level (2 * index + 1) right) (sound level index r e))
      (both_end (if is_different (nodes level (2 * index)) then stop_below era nodes level (2 * index) else None) _
      (branch_ends (nodes level (2 * index)) (stop_below era nodes level (2 * index)) (below_ends level (2 * index) left))
      (branch_ends (nodes level (2 * index + 1)) (stop_below era nodes level (2 * index + 1)) (below_ends level (2 * index + 1) right)))

  pub ends : stop_of era leaves nodes ≡ None
  ends = no_stop (stop_from era nodes) (roots_of leaves) (λ root is.
      let r = as_root (is_root leaves root is) in
      both_end (stop_at (nodes root.0 root.1) (node_name era root.0 root.1)) _ (root_ends era (nodes root.0 root.1) root.0 root.1 (filed root.0 root.1 r))
      (branch_ends (nodes root.0 root.1) (stop_below era nodes root.0 root.1) (below_ends root.0 root.1 r)))
