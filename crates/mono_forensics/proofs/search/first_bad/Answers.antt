use Rattle.std.proofs.Common.{rules, arith, ◌≡◌, ◌+◌, ◌-◌, ◌/◌, ◌∙◌, length, true, false, Ok, Err}
use Rattle.outside_words.proofs.Told.{told_map}
use Rattle.notary_link.proofs.Frame.{goes_on_then}
use Rattle.notary_link.proofs.Unchanged.{unchanged_then}
use Rattle.mono_forensics.specs.Finds.{link_answers, Compares}
use Rattle.mono_forensics.proofs.Halving.{questions_at_first, one_less}
use Rattle.mono_forensics.proofs.Between.{AreBetween, all_between, lower, upper, told_more}
use Rattle.mono_forensics.proofs.search.first_bad.Goals as goal

pub loop-low-init : goal.loop-low-init
loop-low-init g c =
    let last = length c.args.links.now - 1 in
    let asked = c.in_ok-differs.ensures in
    let is_last : c.in_ok-differs.field-0 ≡ true = search rules in record {
      some = omega arith;
      within = omega (arith, c.requires.some);
      told = told_map _ _ _ _ (rw is_last at asked.value) (λ before after is. all_between (link_answers before c.args.id c.args.links.now) last is);
      same = asked.same;
      few = questions_at_first (length c.args.links.now) _ _ _ (omega (arith, c.requires.few)) (omega arith) (omega (arith, c.in_ok-differs.ensures.asked));
      frame = asked.frame;
      counted = asked.counted;
    }

-- the middle one differs

pub loop-low-preserved-then-branch : goal.loop-low-preserved-then-branch
loop-low-preserved-then-branch g c =
    let S = g.N.Notary.state in
    let last = length c.args.links.now - 1 in
    let low = c.loop-low.low in
    let high = c.loop-low.high in
    let middle = c.loop-low.low + (c.loop-low.high - c.loop-low.low) / 2 in
    let on = c.loop-low.invariant in
    let asked = c.in_ok-differs-2.ensures in
    let is_middle : c.in_ok-differs-2.field-0 ≡ true = search rules in record {
      some = omega arith;
      within = omega (arith, c.loop-low-test.true, c.loop-low.invariant.within);
      told = told_more c.args.id c.args.links.now
          (λ answers. AreBetween answers last low high) (λ answers. Compares answers middle (Ok true)) (λ answers. AreBetween answers last low middle) _ _ _
          asked.frame.told.untold on.same.lists on.told (rw is_middle at asked.value) (λ answers are is. lower answers last low high middle are is);
      same = unchanged_then _ _ _ on.frame asked.frame on.same asked.same;
      few = one_less (high - low) _ (S c.loop-low.notary).asked _ _ (omega (arith, c.loop-low-test.true)) (omega (arith, c.loop-low-test.true)) asked.asked on.few;
      frame = goes_on_then _ _ _ on.frame asked.frame;
      counted = λ shows. asked.counted (on.frame.shows ∙ shows) ∙ on.counted shows;
    }

-- the middle one is the same

pub loop-low-preserved : goal.loop-low-preserved
loop-low-preserved g c =
    let S = g.N.Notary.state in
    let last = length c.args.links.now - 1 in
    let low = c.loop-low.low in
    let high = c.loop-low.high in
    let middle = c.loop-low.low + (c.loop-low.high - c.loop-low.low) / 2 in
    let on = c.loop-low.invariant in
    let asked = c.in_ok-differs-2.ensures in
    let is_middle : c.in_ok-differs-2.field-0 ≡ false = search rules in record {
      some = omega (arith, c.loop-low-test.true);
      within = on.within;
      told = told_more c.args.id c.args.links.now
          (λ answers. AreBetween answers last low high) (λ answers. Compares answers middle (Ok false)) (λ answers. AreBetween answers last (middle + 1) high) _ _ _
          asked.frame.told.untold on.same.lists on.told (rw is_middle at asked.value) (λ answers are is. upper answers last low high middle are is);
      same = unchanged_then _ _ _ on.frame asked.frame on.same asked.same;
      few = one_less (high - low) _ (S c.loop-low.notary).asked _ _ (omega (arith, c.loop-low-test.true)) (omega (arith, c.loop-low-test.true)) asked.asked on.few;
      frame = goes_on_then _ _ _ on.frame asked.frame;
      counted = λ shows. asked.counted (on.frame.shows ∙ shows) ∙ on.counted shows;
    }

pub returns-in_err-differs-2-clause-same : goal.returns-in_err-differs-2-clause-same
returns-in_err-differs-2-clause-same g c = unchanged_then _ _ _ c.loop-low.invariant.frame c.in_err-differs-2.ensures.frame c.loop-low.invariant.same c.in_err-differs-2.ensures.same

pub returns-in_err-differs-2-clause-frame : goal.returns-in_err-differs-2-clause-frame
returns-in_err-differs-2-clause-frame g c = goes_on_then _ _ _ c.loop-low.invariant.frame c.in_err-differs-2.ensures.frame

pub returns-in_err-differs-2-clause-counted : goal.returns-in_err-differs-2-clause-counted
returns-in_err-differs-2-clause-counted g c =
    let same : c.from_residual-in_err-differs-2.result ≡ Err c.in_err-differs-2.field-0.0 = search rules in
    rw same (λ shows none. c.in_err-differs-2.ensures.counted (c.loop-low.invariant.frame.shows ∙ shows) none ∙ c.loop-low.invariant.counted shows)
