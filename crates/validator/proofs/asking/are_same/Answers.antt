use Rattle.std.proofs.Common.{rules, ◌≡◌, ◌≤◌, ◌+◌, ◌-◌, ◌<◌, ◌∙◌, true, false, Err, refl, arith, List}
use Rattle.outside_words.proofs.Told.{told_map, told_same}
use Rattle.notary_link.specs.Notary.{Lists}
use Rattle.notary_link.proofs.Frame.{goes_on_same, goes_on_then}
use Rattle.notary_link.proofs.Unchanged.{unchanged_same, unchanged_then}
use Rattle.notary_link.proofs.Reading.{reads_then}
use Rattle.validator.proofs.Asked.{AreSame, AllAre, OneIs, same_more, not_same, all_same}
use Rattle.validator.proofs.asking.are_same.Goals as goal

pub loop-number-init : goal.loop-number-init
loop-number-init g c =
    let S = g.N.Notary.state in
    record {
      some = omega arith;
      told = told_same (S c.args.notary.now).lists (S c.args.notary.now).lists (λ (before after : Lists). AreSame c.args.eras.now (1 - 1) (before.batches c.args.id)) refl (λ lists h is. refl);
      same = unchanged_same (S c.args.notary.now);
      few = omega arith;
      frame = goes_on_same (S c.args.notary.now);
      counted = λ shows. refl;
    }

pub returns-in_err-is_same-clause-same : goal.returns-in_err-is_same-clause-same
returns-in_err-is_same-clause-same g c = unchanged_then _ _ _ c.loop-number.invariant.frame c.in_err-is_same.ensures.frame c.loop-number.invariant.same c.in_err-is_same.ensures.same

pub returns-in_err-is_same-clause-frame : goal.returns-in_err-is_same-clause-frame
returns-in_err-is_same-clause-frame g c = goes_on_then _ _ _ c.loop-number.invariant.frame c.in_err-is_same.ensures.frame

pub returns-in_err-is_same-clause-asked : goal.returns-in_err-is_same-clause-asked
returns-in_err-is_same-clause-asked g c = omega (arith, c.loop-number.invariant.few, c.loop-number.invariant.some, c.in_err-is_same.ensures.asked, c.loop-number-test.true)

pub returns-in_err-is_same-clause-counted : goal.returns-in_err-is_same-clause-counted
returns-in_err-is_same-clause-counted g c =
    let same : c.from_residual.result ≡ Err c.in_err-is_same.field-0.0 = search rules in
    rw same (λ shows none. c.in_err-is_same.ensures.counted (c.loop-number.invariant.frame.shows ∙ shows) none ∙ c.loop-number.invariant.counted shows)

pub returns-then-not-branch-clause-told : goal.returns-then-not-branch-clause-told
returns-then-not-branch-clause-told g c =
    let S = g.N.Notary.state in
    let on = c.loop-number.invariant in
    let asked = c.in_ok-is_same.ensures in
    let eras = c.args.eras.now in
    let number = c.loop-number.number in
    let differs : c.in_ok-is_same.field-0 ≡ false = c.if-not-branch.true in
    (reads_then c.args.id (AreSame eras (number - 1)) (OneIs eras number false) (AllAre eras c.args.sealed false)
    (S c.args.notary.now) (S c.loop-number.notary) (S c.is_same.new.notary)
    (record { told = on.told; same = on.same; frame = on.frame }) (record { told = rw differs at asked.told; same = asked.same; frame = asked.frame })
    (λ batches all here. not_same eras number c.args.sealed batches on.some (omega (arith, c.loop-number-test.true)) here)).told

pub returns-then-not-branch-clause-same : goal.returns-then-not-branch-clause-same
returns-then-not-branch-clause-same g c = unchanged_then _ _ _ c.loop-number.invariant.frame c.in_ok-is_same.ensures.frame c.loop-number.invariant.same c.in_ok-is_same.ensures.same

pub returns-then-not-branch-clause-frame : goal.returns-then-not-branch-clause-frame
returns-then-not-branch-clause-frame g c = goes_on_then _ _ _ c.loop-number.invariant.frame c.in_ok-is_same.ensures.frame

pub returns-then-not-branch-clause-asked : goal.returns-then-not-branch-clause-asked
returns-then-not-branch-clause-asked g c = omega (arith, c.loop-number.invariant.few, c.loop-number.invariant.some, c.in_ok-is_same.ensures.asked, c.loop-number-test.true)

pub loop-number-preserved : goal.loop-number-preserved
loop-number-preserved g c =
    let S = g.N.Notary.state in
    let on = c.loop-number.invariant in
    let asked = c.in_ok-is_same.ensures in
    let eras = c.args.eras.now in
    let number = c.loop-number.number in
    let same : c.in_ok-is_same.field-0 ≡ true = c.if-not-branch.false in
    let both = reads_then c.args.id (AreSame eras (number - 1)) (OneIs eras number true) (AreSame eras (number + 1 - 1))
    (S c.args.notary.now) (S c.loop-number.notary) (S c.is_same.new.notary)
    (record { told = on.told; same = on.same; frame = on.frame }) (record { told = rw same at asked.told; same = asked.same; frame = asked.frame })
    (λ batches all here. same_more eras number batches on.some all here) in
    record {
      some = omega arith;
      told = both.told;
      same = both.same;
      few = omega (arith, on.few, on.some, asked.asked);
      frame = both.frame;
      counted = λ shows. asked.counted (on.frame.shows ∙ shows) ∙ on.counted shows;
    }

pub returns-clause-told : goal.returns-clause-told
returns-clause-told g c =
    let S = g.N.Notary.state in
    let number = c.loop-number.number in
    told_map (S c.args.notary.now).lists (S c.loop-number.notary).lists (λ (before after : Lists). AreSame c.args.eras.now (number - 1) (before.batches c.args.id)) (λ (before after : Lists). AllAre c.args.eras.now c.args.sealed true (before.batches c.args.id))
    c.loop-number.invariant.told (λ before after all. all_same c.args.eras.now number c.args.sealed (before.batches c.args.id) (omega (arith, c.loop-number-test.false)) all)
