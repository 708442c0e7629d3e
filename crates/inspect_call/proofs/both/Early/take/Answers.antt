use Rattle.std.proofs.Common.{◌++◌, ◌∷◌, [], refl, sym, subst}
use Rattle.std.proofs.lemmas.Result.{on_ok_weaker}
use Rattle.notary_link.specs.Notary.{file, batch_of}
use Rattle.inspect_call.specs.Known.{KnowsEarly}
use Rattle.inspect_call.proofs.Early.{early_batch, early_other, early_mark}
use Rattle.inspect_call.proofs.both.Early.take.Goals as goal

pub returns-then-of-id-clause-value : goal.returns-then-of-id-clause-value
returns-then-of-id-clause-value c =
    let k = c.args.known.now in
    let id = c.args.id in
    let old = c.args.self.now in
    let new = c.take_batch.new.self in
    let b = c.in-File in
    on_ok_weaker c.take_batch.result (λ t calls known. rw c.in-File.is (subst (λ i. KnowsEarly k id new (calls ++ file i b.index (batch_of b.moment b.seals) ∷ [])) (sym c.if-of-id.true)
    (early_batch k id old new calls known b.index (batch_of b.moment b.seals) t))) c.take_batch.ensures.value

pub returns-else-of-id-clause-value : goal.returns-else-of-id-clause-value
returns-else-of-id-clause-value c = λ calls known. rw c.in-File.is (early_other c.args.known.now c.args.id c.args.self.now c.args.self.now calls known c.in-File.of c.in-File.index (batch_of c.in-File.moment c.in-File.seals) c.if-of-id.false refl refl)

pub returns-in-Note-clause-value : goal.returns-in-Note-clause-value
returns-in-Note-clause-value c = λ calls known. rw c.in-Note.is (early_mark c.args.known.now c.args.id c.args.self.now c.args.self.now calls known c.in-Note.id c.in-Note.mark refl refl)
