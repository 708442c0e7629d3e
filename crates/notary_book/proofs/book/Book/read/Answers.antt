use Rattle.std.proofs.Common.{◌≡◌, Some, sym, ◌∙◌, subst}
use Rattle.notary_book.specs.Kept.{Holds, IsReadFrom}
use Rattle.notary_book.proofs.Keeping.{keeps_read, settled_some, opens_some}
use Rattle.notary_book.proofs.Looking.{looks_kept}
use Rattle.notary_book.proofs.book.Book.read.Goals as goal

pub invariant_of-self : goal.invariant_of-self
invariant_of-self g c =
    let s = g.D.Disk.state c.open_book.new.disk in
    let kept = c.in-Ok-Some.kept in
    let e = c.in-Ok-Some.field-0-is in
    let is : c.in-Ok-Some.field-0 ≡ Some kept = cc in
    let holds : Holds s.reads kept = subst (IsReadFrom s.reads) is c.in-Ok-Some.ensures.value in
    record { keeps = keeps_read s.reads kept holds; settled = settled_some s kept c.in-Ok-Some.ensures.settled; opens = opens_some kept holds.is_open }

pub returns-then-is_some-clause-looks : goal.returns-then-is_some-clause-looks
returns-then-is_some-clause-looks g c =
    let self = c.args.self.now in
    looks_kept (g.D.Disk.state self.disk) self.kept self.unreadable (g.met.D.Disk.only_now self.disk) self.keeps (sym c.is_some.ensures ∙ c.if-is_some.true)
