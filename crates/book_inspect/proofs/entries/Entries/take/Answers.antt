use Rattle.std.proofs.Common.{◌++◌, ◌∷◌, [], refl, sym, subst}
use Rattle.std.proofs.lemmas.Result.{on_ok_weaker}
use Rattle.notary_link.specs.Notary.{file, note, batch_of}
use Rattle.book_inspect.specs.KnownEntries.{KnowsEntries, TakesBatch}
use Rattle.book_inspect.proofs.Filing.{batch_known, mark_known, other_batch, other_mark}
use Rattle.book_inspect.proofs.entries.Entries.take.Goals as goal

pub returns-then-id-self-clause-value : goal.returns-then-id-self-clause-value
returns-then-id-self-clause-value c =
    let old = c.args.self.now in
    let new = c.take_batch.new.self in
    let b = c.in-File in
    on_ok_weaker c.take_batch.result (λ t calls known. rw c.in-File.is (subst (λ i. KnowsEntries old.id new (calls ++ file i b.index (batch_of b.moment b.seals) ∷ [])) (sym c.if-id-self.true)
    (batch_known old.id old new calls known b.index b.moment b.seals (subst (λ s. TakesBatch b.moment s old new) c.as_slice.ensures.value t)))) c.take_batch.ensures.value

pub returns-else-id-self-clause-value : goal.returns-else-id-self-clause-value
returns-else-id-self-clause-value c = λ calls known. rw c.in-File.is (other_batch c.args.self.now.id c.args.self.now _ calls known c.in-File.id c.in-File.index (batch_of c.in-File.moment c.in-File.seals) c.if-id-self.false
    (record { entries = refl; batches = refl; marks = refl; filed = refl; marked = refl; missing = refl; over = refl; falls = refl; altered = refl }))

pub returns-then-id-self-2-clause-value : goal.returns-then-id-self-2-clause-value
returns-then-id-self-2-clause-value c =
    let old = c.args.self.now in
    let new = c.take_mark.new.self in
    let m = c.in-Note in
    on_ok_weaker c.take_mark.result (λ t calls known. rw c.in-Note.is (subst (λ i. KnowsEntries old.id new (calls ++ note i m.mark ∷ [])) (sym c.if-id-self-2.true) (mark_known old.id old new calls known m.mark t))) c.take_mark.ensures.value

pub returns-else-id-self-2-clause-value : goal.returns-else-id-self-2-clause-value
returns-else-id-self-2-clause-value c = λ calls known. rw c.in-Note.is (other_mark c.args.self.now.id c.args.self.now _ calls known c.in-Note.id c.in-Note.mark c.if-id-self-2.false
    (record { entries = refl; batches = refl; marks = refl; filed = refl; marked = refl; missing = refl; over = refl; falls = refl; altered = refl }))
