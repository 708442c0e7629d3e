use Rattle.std.proofs.Common.{◌≡◌, ℕ, ◌<◌, ◌≤◌, sym, ap, ◌∙◌, arith}
use Rattle.std.proofs.lemmas.Bool.{eq-eqb}
use Rattle.digest_model.specs.Layout.{Layout, layout}
use Rattle.policy_eras.proofs.Histories.{layout_is}
use Rattle.a3d_forensics.specs.Chains.{has_of}
use Rattle.a3d_forensics.proofs.Has.{none_have, first_has}
use Rattle.a3d_forensics.proofs.Ranges.{up}
use Rattle.a3d_forensics.proofs.range.era_has.Goals as goal

pub returns-then-begin-tiles_before : goal.returns-then-begin-tiles_before
returns-then-begin-tiles_before c = λ h is.
    eq-eqb c.tiles_before-begin.result c.tiles_before.result c.if-begin-tiles_before.true
    ∙ none_have h c.args.chains c.args.tiles c.args.era (sym (c.tiles_before-begin.ensures.value h is) ∙ c.if-begin-tiles_before.true ∙ c.tiles_before.ensures.value h is)

pub returns-else-begin-tiles_before : goal.returns-else-begin-tiles_before
returns-else-begin-tiles_before c = λ h is.
    let begin = c.tiles_before-begin.ensures.value h is in
    let end = c.tiles_before.ensures.value h is in
    let le = up (layout h) c.args.tiles c.args.era in
    c.tile_has.ensures
    ∙ ap (λ (l : Layout). has_of c.args.chains l c.tiles_before-begin.result) (layout_is h is)
    ∙ ap (has_of c.args.chains (layout h)) begin
    ∙ first_has h c.args.chains c.args.tiles c.args.era (less _ _ _ _ begin end le c.if-begin-tiles_before.false)
  where
    less : (a b x y : ℕ) → x ≡ a → y ≡ b → a ≤ b → (x ≡ y → ⊥) → a < b
    less a b x y is_a is_b le other = omega (arith, is_a, is_b, le, other)
