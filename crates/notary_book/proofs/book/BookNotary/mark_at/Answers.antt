use Rattle.std.proofs.Common.{◌≡◌, ◌∙◌, List, None, Some, ap, arith}
use Rattle.std.proofs.lemmas.Result.{err_from_is_err_and}
use Rattle.std.specs.List.{slice_get}
use Rattle.notary_link.specs.declared.mark.Mark.{Mark}
use Rattle.notary_link.specs.Notary.{Lists}
use Rattle.notary_book.proofs.Asking.{kept_none, looks_failed}
use Rattle.notary_book.proofs.Keeping.{knows_of}
use Rattle.notary_book.proofs.Telling.{gives, quiet, unchanged}
use Rattle.notary_book.proofs.book.BookNotary.mark_at.Goals as goal

pub returns-in-Some-clause-value : goal.returns-in-Some-clause-value
returns-in-Some-clause-value g c =
    let S = g.D.Disk.state in
    let old = S c.args.self.now.disk in
    let now = c.read.new.self in
    let kept = c.in-Some.kept in
    let v = c.in-Some.is in
    let is : now.kept ≡ Some kept = cc in
    let k = knows_of (S now.disk).reads kept (λ x bytes e told. now.keeps x bytes (is ∙ e) told) in
    gives old.reads (S now.disk).reads kept k (λ (lists : Lists). c.mark.result ≡ slice_get (lists.marks c.args.id) c.args.place) c.in_ok-read.ensures.reads (λ stands. c.mark.ensures.value ∙ ap (λ (l : List Mark). slice_get l c.args.place) (stands.shelves_are c.args.id).marks_are)

pub returns-in-Some-clause-same : goal.returns-in-Some-clause-same
returns-in-Some-clause-same g c =
    let was = c.args.self.now in
    let now = c.read.new.self in
    unchanged (g.D.Disk.state was.disk) (g.D.Disk.state now.disk) was.asked now.asked was.unreadable now.unreadable c.in_ok-read.ensures.reads

pub returns-in-Some-clause-frame : goal.returns-in-Some-clause-frame
returns-in-Some-clause-frame g c =
    let was = c.args.self.now in
    let now = c.read.new.self in
    quiet (g.D.Disk.state was.disk) (g.D.Disk.state now.disk) was.asked now.asked was.unreadable now.unreadable c.in_ok-read.ensures.reads c.in_ok-read.ensures.faults (omega arith) c.in_ok-read.ensures.unreadable

pub returns-in-None : goal.returns-in-None
returns-in-None g c =
    let v = c.in-None.is in
    let is : c.read.new.self.kept ≡ None = cc in
    absurd (kept_none c.read.new.self.kept c.in_ok-read.ensures.looks.keeps is)

pub returns-in_err-read-clause-same : goal.returns-in_err-read-clause-same
returns-in_err-read-clause-same g c =
    let was = c.args.self.now in
    let now = c.read.new.self in
    unchanged (g.D.Disk.state was.disk) (g.D.Disk.state now.disk) was.asked now.asked was.unreadable now.unreadable c.in_err-read.ensures.reads

pub returns-in_err-read-clause-frame : goal.returns-in_err-read-clause-frame
returns-in_err-read-clause-frame g c =
    let was = c.args.self.now in
    let now = c.read.new.self in
    quiet (g.D.Disk.state was.disk) (g.D.Disk.state now.disk) was.asked now.asked was.unreadable now.unreadable c.in_err-read.ensures.reads c.in_err-read.ensures.faults (omega arith) c.in_err-read.ensures.unreadable

pub returns-in_err-read-clause-looks : goal.returns-in_err-read-clause-looks
returns-in_err-read-clause-looks g c =
    let S = g.D.Disk.state in
    let was = c.args.self.now in
    let now = c.read.new.self in
    let p = err_from_is_err_and c.from_residual.result c.from_residual.ensures.1 in
    rw (p.1, p.2) (looks_failed c.in_err-read.field-0.0 (S was.disk) (S now.disk) was.kept now.kept was.unreadable now.unreadable c.in_err-read.ensures.looks)
