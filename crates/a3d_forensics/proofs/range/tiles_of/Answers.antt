use Rattle.std.proofs.Common.{◌≡◌, ℕ, ◌-◌, Option, sym, ap, ◌∙◌, arith}
use Rattle.std.specs.List.{range_with_len}
use Rattle.digest_model.specs.Layout.{layout}
use Rattle.audit_model.specs.Ranges.{range_of}
use Rattle.a3d_forensics.specs.Trees.{tiles_before}
use Rattle.a3d_forensics.proofs.Ranges.{up, era_range, whole_range}
use Rattle.a3d_forensics.proofs.range.tiles_of.Goals as goal

pub returns-in-Some-clause-value : goal.returns-in-Some-clause-value
returns-in-Some-clause-value c = λ h is.
    let begin = c.tiles_before.ensures.value h is in
    let end = c.tiles_before-in-Some.ensures.value h is in
    ap (λ (a : ℕ). range_with_len a (c.tiles_before-in-Some.result - a)) begin
    ∙ ap (λ (b : ℕ). range_with_len (tiles_before (layout h) c.args.tiles c.in-Some.number) (b - tiles_before (layout h) c.args.tiles c.in-Some.number)) end
    ∙ sym (era_range (layout h) c.args.tiles c.in-Some.number)
    ∙ ap (λ (era : Option ℕ). range_of era (layout h) c.args.tiles) (sym c.in-Some.is)

pub returns-in-Some-clause-within : goal.returns-in-Some-clause-within
returns-in-Some-clause-within c = λ h is.
    let begin = c.tiles_before.ensures.value h is in
    let end = c.tiles_before-in-Some.ensures.value h is in
    let le = up (layout h) c.args.tiles c.in-Some.number in
    omega (arith, begin, end, le)

pub returns-in-None-clause-value : goal.returns-in-None-clause-value
returns-in-None-clause-value c = λ h is.
    let all : c.args.tiles - 0 ≡ c.args.tiles = omega arith in
    ap (range_with_len 0) all ∙ sym (whole_range (layout h) c.args.tiles) ∙ ap (λ (era : Option ℕ). range_of era (layout h) c.args.tiles) (sym c.in-None.is)
