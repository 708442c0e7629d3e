use Rattle.std.proofs.Common.{◌≡◌, ◌∙◌, ℕ, None, Some, subst}
use Rattle.notary_link.specs.Notary.{file, batch_of, Answers}
use Rattle.notary_book.specs.State.{book_state}
use Rattle.notary_book.proofs.Asking.{kept_none}
use Rattle.notary_book.proofs.Leaving.{leaves_read, leaves_behind}
use Rattle.notary_book.proofs.Looking.{alters_behind}
use Rattle.notary_book.proofs.Telling.{answers_behind}
use Rattle.notary_book.proofs.book.BookNotary.file.Goals as goal

pub file_behind-requires-clause-keeps : goal.file_behind-requires-clause-keeps
file_behind-requires-clause-keeps g c =
    let v = c.in-Some.ensures.value in
    let is : c.read.new.self.kept ≡ Some c.in-Some.kept = cc in
    λ k bytes e told. c.read.new.self.keeps k bytes (is ∙ e) told

pub file_behind-requires-clause-settled : goal.file_behind-requires-clause-settled
file_behind-requires-clause-settled g c =
    let v = c.in-Some.ensures.value in
    let is : c.read.new.self.kept ≡ Some c.in-Some.kept = cc in
    λ k bytes e told. c.read.new.self.settled k bytes (is ∙ e) told

pub returns-in-Some-clause-change : goal.returns-in-Some-clause-change
returns-in-Some-clause-change g c =
    let S = g.D.Disk.state in
    let old = c.args.self.now in
    let mid = c.read.new.self in
    let new = c.file_behind.new.self in
    let call = file c.args.id c.args.index (batch_of c.args.moment c.args.seals.now) in
    let behind = subst (λ (n : ℕ). Answers call c.file_behind.result (book_state (S mid.disk) n mid.unreadable) (book_state (S new.disk) new.asked new.unreadable)) c.in_ok-read.ensures.asked c.file_behind.ensures.change in
    answers_behind call c.file_behind.result (S old.disk) (S mid.disk) (S new.disk) old.asked old.unreadable mid.unreadable new.asked new.unreadable c.in_ok-read.ensures.reads behind

pub returns-in_err-read-clause-images : goal.returns-in_err-read-clause-images
returns-in_err-read-clause-images g c =
    let S = g.D.Disk.state in
    leaves_read (file c.args.id c.args.index (batch_of c.args.moment c.args.seals.now)) (S c.args.self.now.disk) (S c.read.new.self.disk) c.in_err-read.ensures.told

pub returns-in-None : goal.returns-in-None
returns-in-None g c =
    let v = c.in-None.ensures.value in
    let is : c.read.new.self.kept ≡ None = cc in
    absurd (kept_none c.read.new.self.kept c.in_ok-read.ensures.looks.keeps is)

pub returns-in-Some-clause-images : goal.returns-in-Some-clause-images
returns-in-Some-clause-images g c =
    let S = g.D.Disk.state in
    let mid = c.read.new.self in
    leaves_behind (file c.args.id c.args.index (batch_of c.args.moment c.args.seals.now)) (S c.args.self.now.disk) (S mid.disk) (S c.file_behind.new.self.disk) c.in_ok-read.ensures.reads (g.met.D.Disk.counts_now mid.disk) c.in_ok-read.ensures.told c.file_behind.ensures.images

pub returns-in-Some-clause-alters : goal.returns-in-Some-clause-alters
returns-in-Some-clause-alters g c =
    let S = g.D.Disk.state in
    let old = c.args.self.now in
    let mid = c.read.new.self in
    let new = c.file_behind.new.self in
    alters_behind c.file_behind.result (S old.disk) (S mid.disk) (S new.disk) old.kept mid.kept c.in-Some.kept new.kept old.unreadable mid.unreadable new.unreadable c.in_ok-read.ensures.looks c.file_behind.ensures.alters
