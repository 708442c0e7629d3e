use Rattle.std.proofs.Common.{◌≡◌, ℕ, ◌≤◌, true, List, length, get_or, sym, subst, ◌∙◌, arith}
use Rattle.tuple_bytes.specs.declared.item.Item.{Item}
use Rattle.tuple_bytes.specs.declared.item.Item.TheVariants.{Frontier}
use Rattle.tuple_bytes.specs.Limits.{max_payload}
use Rattle.tuple_bytes.specs.Spelling.{Spells}
use Rattle.chain_state.specs.Chained.{IsItemTaken, IsItemRefused}
use Rattle.audit_steps.proofs.Taking.{when, otherwise, spells, short, steps_next, steps_few, next_taken, next_refused, taken_under}
use Rattle.audit_steps.proofs.piece.take_all.Goals as goal

pub take-requires-clause-spelled : goal.take-requires-clause-spelled
take-requires-clause-spelled g c = (
  get_or c.args.items.now c.loop-spelling.spelling-index (Frontier 0),
  subst (Spells (get_or c.args.items.now c.loop-spelling.spelling-index (Frontier 0))) (sym c.as_slice.ensures.value)
      (spells c.args.items.now c.as_slice-spelling-items.result.now c.loop-spelling.spelling-index c.spelling-item.result c.as_slice-spelling-items.ensures.fit c.as_slice-spelling-items.ensures.value c.loop-spelling-test.true c.spelling-item.is),
)

pub take-requires-clause-short : goal.take-requires-clause-short
take-requires-clause-short g c =
    subst (λ (x : List ℕ). length x ≤ max_payload) (sym c.as_slice.ensures.value)
    (short c.args.items.now c.as_slice-spelling-items.result.now c.loop-spelling.spelling-index c.spelling-item.result c.as_slice-spelling-items.ensures.fit c.as_slice-spelling-items.ensures.value c.loop-spelling-test.true c.spelling-item.is c.requires.storable)

pub loop-spelling-preserved : goal.loop-spelling-preserved
loop-spelling-preserved g c =
    let b = c.spelling-item.result in
    let i = c.loop-spelling.spelling-index in
    let xs = c.args.items.now in
    let it : Item = get_or c.args.items.now c.loop-spelling.spelling-index (Frontier 0) in
    let own = subst (Spells (get_or c.args.items.now c.loop-spelling.spelling-index (Frontier 0))) (sym c.as_slice.ensures.value)
    (spells xs c.as_slice-spelling-items.result.now i b c.as_slice-spelling-items.ensures.fit c.as_slice-spelling-items.ensures.value c.loop-spelling-test.true c.spelling-item.is) in
    let done : c.in_ok-take.field-0 ≡ true = c.if-not-branch.false in
    let took = when c.in_ok-take.field-0 (IsItemTaken it c.loop-spelling.chains c.take.new.self) (IsItemRefused it c.loop-spelling.chains) done (c.in_ok-take.ensures.value it own) in
    let count = steps_next xs c.as_slice-spelling-items.result.now i b c.as_slice-spelling-items.ensures.fit c.as_slice-spelling-items.ensures.value c.loop-spelling-test.true c.spelling-item.is in
    let exact = c.in_ok-take.ensures.exact it own done in
    let was = c.loop-spelling.invariant.steps in
    record {
      taken = λ header taken were. next_taken xs c.as_slice-spelling-items.result.now i b c.as_slice-spelling-items.ensures.fit c.as_slice-spelling-items.ensures.value c.loop-spelling-test.true c.spelling-item.is header taken c.loop-spelling.chains (c.loop-spelling.invariant.taken header taken were) c.take.new.self took;
      under = taken_under it c.loop-spelling.chains c.take.new.self took ∙ c.loop-spelling.invariant.under;
      steps = omega (arith, count, exact, was);
    }

pub returns-in_err-take-clause-steps : goal.returns-in_err-take-clause-steps
returns-in_err-take-clause-steps g c =
    let b = c.spelling-item.result in
    let i = c.loop-spelling.spelling-index in
    let xs = c.args.items.now in
    let it : Item = get_or c.args.items.now c.loop-spelling.spelling-index (Frontier 0) in
    let own = subst (Spells (get_or c.args.items.now c.loop-spelling.spelling-index (Frontier 0))) (sym c.as_slice.ensures.value)
    (spells xs c.as_slice-spelling-items.result.now i b c.as_slice-spelling-items.ensures.fit c.as_slice-spelling-items.ensures.value c.loop-spelling-test.true c.spelling-item.is) in
    let count = steps_next xs c.as_slice-spelling-items.result.now i b c.as_slice-spelling-items.ensures.fit c.as_slice-spelling-items.ensures.value c.loop-spelling-test.true c.spelling-item.is in
    let few = steps_few xs c.as_slice-spelling-items.result.now i b c.as_slice-spelling-items.ensures.fit c.as_slice-spelling-items.ensures.value c.loop-spelling-test.true c.spelling-item.is in
    let most = c.take.ensures.steps it own in
    let was = c.loop-spelling.invariant.steps in
    omega (arith, count, few, most, was)

pub returns-then-not-branch-clause-steps : goal.returns-then-not-branch-clause-steps
returns-then-not-branch-clause-steps g c =
    let b = c.spelling-item.result in
    let i = c.loop-spelling.spelling-index in
    let xs = c.args.items.now in
    let it : Item = get_or c.args.items.now c.loop-spelling.spelling-index (Frontier 0) in
    let own = subst (Spells (get_or c.args.items.now c.loop-spelling.spelling-index (Frontier 0))) (sym c.as_slice.ensures.value)
    (spells xs c.as_slice-spelling-items.result.now i b c.as_slice-spelling-items.ensures.fit c.as_slice-spelling-items.ensures.value c.loop-spelling-test.true c.spelling-item.is) in
    let count = steps_next xs c.as_slice-spelling-items.result.now i b c.as_slice-spelling-items.ensures.fit c.as_slice-spelling-items.ensures.value c.loop-spelling-test.true c.spelling-item.is in
    let few = steps_few xs c.as_slice-spelling-items.result.now i b c.as_slice-spelling-items.ensures.fit c.as_slice-spelling-items.ensures.value c.loop-spelling-test.true c.spelling-item.is in
    let most = c.take.ensures.steps it own in
    let was = c.loop-spelling.invariant.steps in
    omega (arith, count, few, most, was)

pub returns-then-not-branch-clause-value : goal.returns-then-not-branch-clause-value
returns-then-not-branch-clause-value g c =
    let b = c.spelling-item.result in
    let i = c.loop-spelling.spelling-index in
    let xs = c.args.items.now in
    let it : Item = get_or c.args.items.now c.loop-spelling.spelling-index (Frontier 0) in
    let own = subst (Spells (get_or c.args.items.now c.loop-spelling.spelling-index (Frontier 0))) (sym c.as_slice.ensures.value)
    (spells xs c.as_slice-spelling-items.result.now i b c.as_slice-spelling-items.ensures.fit c.as_slice-spelling-items.ensures.value c.loop-spelling-test.true c.spelling-item.is) in
    let refused = otherwise c.in_ok-take.field-0 (IsItemTaken it c.loop-spelling.chains c.take.new.self) (IsItemRefused it c.loop-spelling.chains) c.if-not-branch.true (c.in_ok-take.ensures.value it own) in
    λ header taken were. next_refused xs c.as_slice-spelling-items.result.now i b c.as_slice-spelling-items.ensures.fit c.as_slice-spelling-items.ensures.value c.loop-spelling-test.true c.spelling-item.is header taken c.loop-spelling.chains (c.loop-spelling.invariant.taken header taken were) refused
