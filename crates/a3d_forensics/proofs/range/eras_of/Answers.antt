use Rattle.std.proofs.Common.{◌≡◌, ℕ, ◌+◌, ◌-◌, ◌≤◌, length, Option, sym, ap, subst, ◌∙◌, arith}
use Rattle.std.specs.Prelude.{IfSome}
use Rattle.std.specs.List.{range_with_len}
use Rattle.digest_model.specs.Layout.{layout_by, sealed_eras}
use Rattle.a3d_forensics.specs.Trees.{eras_in}
use Rattle.a3d_forensics.proofs.range.eras_of.Goals as goal

pub overflow_add-result : goal.overflow_add-result
overflow_add-result c = (let small : c.in-Some.number ≤ 255 = subst (λ (era : Option ℕ). IfSome era (λ number. number ≤ 255)) c.in-Some.is c.requires.small in omega (arith, small))

pub returns-in-Some-clause-small : goal.returns-in-Some-clause-small
returns-in-Some-clause-small c = (let small : c.in-Some.number ≤ 255 = subst (λ (era : Option ℕ). IfSome era (λ number. number ≤ 255)) c.in-Some.is c.requires.small in omega (arith, small))

pub returns-in-Some-clause-value : goal.returns-in-Some-clause-value
returns-in-Some-clause-value c =
    let one : c.in-Some.number + 1 - c.in-Some.number ≡ 1 = omega arith in
    ap (range_with_len c.in-Some.number) one ∙ ap (λ (era : Option ℕ). eras_in era (layout_by c.args.eras.now) c.args.tiles) (sym c.in-Some.is)

pub returns-in-None-clause-value : goal.returns-in-None-clause-value
returns-in-None-clause-value c =
    let is = c.sealed.ensures.value in
    let all : c.sealed.result + 1 - 0 ≡ length (sealed_eras (layout_by c.args.eras.now) c.args.tiles) + 1 = omega (arith, is) in
    ap (range_with_len 0) all ∙ ap (λ (era : Option ℕ). eras_in era (layout_by c.args.eras.now) c.args.tiles) (sym c.in-None.is)
