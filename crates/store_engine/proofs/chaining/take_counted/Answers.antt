use Rattle.std.proofs.Common.{◌≡◌, [], ◌∷◌, ◌++◌, None, sym, subst, arith}
use Rattle.tuple_bytes.proofs.ItemLaws.{some_spelled}
use Rattle.store_engine.specs.Taking.{HaveTaken}
use Rattle.store_engine.proofs.Taken.{taken_no_more, taken_or_ended}
use Rattle.store_engine.proofs.chaining.take_counted.Goals as goal

pub take-requires-clause-spelled : goal.take-requires-clause-spelled
take-requires-clause-spelled g c = some_spelled c.args.payload.now (λ i. omega (arith, c.type_inv.payload i)) c.requires.fits.accepted

pub returns-in_default : goal.returns-in_default
returns-in_default g c =
    let payload = c.args.payload.now in
    let it = some_spelled c.args.payload.now (λ i. omega (arith, c.type_inv.payload i)) c.requires.fits.accepted in
    let is : c.args.chains.now ≡ None = c.in_default.is in
    record { value = λ header payloads were. subst (HaveTaken header (payloads ++ payload ∷ [])) (sym is) (taken_no_more header payloads payload it.0 it.1 (subst (HaveTaken header payloads) is were)) }

pub returns-then-branch : goal.returns-then-branch
returns-then-branch g c =
    let payload = c.args.payload.now in
    let it = some_spelled c.args.payload.now (λ i. omega (arith, c.type_inv.payload i)) c.requires.fits.accepted in
    record { value = λ header payloads were. (taken_or_ended header payloads payload it.0 c.in-Some.kept c.take.new.self c.in_ok-take.field-0 it.1 (c.in_ok-take.ensures.value it.0 it.1) (subst (HaveTaken header payloads) c.in-Some.is were)).0 c.if-branch.true }

pub returns : goal.returns
returns g c =
    let payload = c.args.payload.now in
    let it = some_spelled c.args.payload.now (λ i. omega (arith, c.type_inv.payload i)) c.requires.fits.accepted in
    record { value = λ header payloads were. (taken_or_ended header payloads payload it.0 c.in-Some.kept c.take.new.self c.in_ok-take.field-0 it.1 (c.in_ok-take.ensures.value it.0 it.1) (subst (HaveTaken header payloads) c.in-Some.is were)).1 c.if-branch.false }
