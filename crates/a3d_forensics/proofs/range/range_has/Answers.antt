use Rattle.std.proofs.Common.{◌≡◌, ℕ, true, List, [], ◌∷◌, ◌++◌, All, Some, sym, ap, subst, ◌∙◌, append-nil, arith}
use Rattle.std.specs.List.{Contains, list_all}
use Rattle.std.proofs.lemmas.List.Elements.{All-push}
use Rattle.digest_model.specs.Layout.{Layout, layout}
use Rattle.policy_eras.proofs.Histories.{layout_is}
use Rattle.audit_model.specs.Ranges.{range_of}
use Rattle.a3d_forensics.specs.Chains.{has_of}
use Rattle.a3d_forensics.specs.Trees.{eras_in}
use Rattle.a3d_forensics.proofs.Has.{no_era, lists, of_header, all_have, one_lacks}
use Rattle.a3d_forensics.proofs.Ranges.{among, moved, none_left}
use Rattle.a3d_forensics.proofs.range.range_has.Goals as goal

pub returns-then-tiles-eq0 : goal.returns-then-tiles-eq0
returns-then-tiles-eq0 c = λ h is.
    c.header_has.ensures h is ∙ sym (of_header (has_of c.args.chains) c.args.era h c.args.tiles (no_era c.args.era c.if-is_none.ensures) c.if-tiles-eq0.true)

pub returns-then-not-era_has : goal.returns-then-not-era_has
returns-then-not-era_has c = λ h is.
    let on = c.loop-number.invariant in
    let it = c.loop-number.number-iterator in
    let steps = c.in-Some.ensures.steps in
    let has = has_of c.args.chains in
    let one = among _ on.parts.0 it.start it.end c.in-Some.number on.parts.1 steps.1.0 steps.1.1 in
    let in_h : Contains (eras_in c.args.era (layout h) c.args.tiles) c.in-Some.number = subst (λ (l : Layout). Contains (eras_in c.args.era l c.args.tiles) c.in-Some.number) (layout_is h is) one in
    sym (lists has c.args.era h c.args.tiles on.some
    ∙ one_lacks (layout h) (has (layout h)) c.args.era c.args.tiles c.in-Some.number in_h (sym (c.era_has.ensures h is) ∙ c.if-not-era_has.true))

pub loop-number-preserved : goal.loop-number-preserved
loop-number-preserved c =
    let on = c.loop-number.invariant in
    let it = c.loop-number.number-iterator in
    let steps = c.in-Some.ensures.steps in
    record {
      parts = (
        on.parts.0 ++ c.in-Some.number ∷ [],
        moved _ on.parts.0 it.start it.end c.in-Some.number on.parts.1 steps.1.0 steps.1.1 c.next.new.self.start c.next.new.self.end steps.0 steps.1.2,
        λ h is. All-push (λ number. list_all (has_of c.args.chains (layout h)) (range_of (Some number) (layout h) c.args.tiles) ≡ true) on.parts.0 c.in-Some.number (on.parts.2 h is)
            (sym (c.era_has.ensures h is) ∙ c.if-not-era_has.false),
      );
      small = (let end = steps.0 in let few = on.small in omega (arith, end, few));
      some = on.some;
    }

pub returns : goal.returns
returns c = λ h is.
    let on = c.loop-number.invariant in
    let it = c.loop-number.number-iterator in
    let has = has_of c.args.chains in
    let steps = c.in-None.ensures.steps in
    let done : eras_in c.args.era (layout h) c.args.tiles ≡ on.parts.0 =
    ap (λ (l : Layout). eras_in c.args.era l c.args.tiles) (sym (layout_is h is)) ∙ on.parts.1 ∙ ap (λ (ns : List ℕ). on.parts.0 ++ ns) (none_left it.start it.end steps.1.0) ∙ append-nil on.parts.0 in
    let all : All (λ number. list_all (has_of c.args.chains (layout h)) (range_of (Some number) (layout h) c.args.tiles) ≡ true) (eras_in c.args.era (layout h) c.args.tiles) =
    subst (λ (ns : List ℕ). All (λ number. list_all (has_of c.args.chains (layout h)) (range_of (Some number) (layout h) c.args.tiles) ≡ true) ns) (sym done) (on.parts.2 h is) in
    sym (lists has c.args.era h c.args.tiles on.some ∙ all_have (layout h) (has (layout h)) c.args.era c.args.tiles all)
