use Rattle.std.proofs.Common.{◌≡◌, ◌++◌, ◌∷◌, [], true, false, Ok, Err, Some, refl, sym, ◌∙◌, arith, rules}
use Rattle.notary_link.specs.declared.fail.NotaryFail.TheVariants.{OutOfTurn, Full, NoMemory}
use Rattle.notary_link.specs.declared.fail.NotaryFail.{NotaryFail}
use Rattle.notary_link.specs.Notary.{Call, file, batch_of}
use Rattle.notary_book.proofs.Bytes.{told_file}
use Rattle.notary_book.proofs.Ends.{placed, stays_short}
use Rattle.notary_book.proofs.Leaving.{leaves_same, leaves_added}
use Rattle.notary_book.proofs.Keeping.{knows_of, settled_of, open_of, keeps_some, settled_some, opens_some}
use Rattle.notary_book.proofs.Looking.{found, alters_kept, alters_none, alters_added}
use Rattle.notary_book.proofs.Sizes.{fits_record, spelled_in}
use Rattle.notary_book.proofs.Telling.{if_map, if_alike, told_calls, quiet, refused, adds_on, adds_told, nothing_done, adds_stopped, adds_unknown, adds_done, either, stored, stays_settled, asked_is, out_of_turn, full, batch_within, batch_next}
use Rattle.notary_book.proofs.book.Book.file_behind.Goals as goal

pub returns-then-index-count-clause-change : goal.returns-then-index-count-clause-change
returns-then-index-count-clause-change g c =
    let S = g.D.Disk.state in
    let self = c.args.self.now in
    let s = S self.disk in
    let kept = c.args.kept in
    let k = knows_of s.reads kept c.requires.keeps in
    let call : Call = file c.args.id c.args.index (batch_of c.args.moment c.args.seals.now) in
    let before = told_calls s.reads kept k in
    refused call (OutOfTurn c.count-count.result) s self.asked self.unreadable k.calls before (out_of_turn s.reads kept k c.args.id c.args.index (batch_of c.args.moment c.args.seals.now) c.count-count.result c.count-count.ensures.value c.if-index-count.true)

pub returns-then-index-count-clause-frame : goal.returns-then-index-count-clause-frame
returns-then-index-count-clause-frame g c =
    let S = g.D.Disk.state in
    let self = c.args.self.now in
    let s = S self.disk in
    let kept = c.args.kept in
    let k = knows_of s.reads kept c.requires.keeps in
    let call : Call = file c.args.id c.args.index (batch_of c.args.moment c.args.seals.now) in
    let before = told_calls s.reads kept k in
    quiet s s self.asked self.asked self.unreadable self.unreadable refl (omega arith) (omega arith) (omega arith)

pub returns-then-not-has_room-clause-change : goal.returns-then-not-has_room-clause-change
returns-then-not-has_room-clause-change g c =
    let S = g.D.Disk.state in
    let self = c.args.self.now in
    let s = S self.disk in
    let kept = c.args.kept in
    let k = knows_of s.reads kept c.requires.keeps in
    let call : Call = file c.args.id c.args.index (batch_of c.args.moment c.args.seals.now) in
    let before = told_calls s.reads kept k in
    let h = c.if-not-has_room.true in
    let none : c.has_room.result ≡ false = grind (arith, h) in
    refused call Full s self.asked self.unreadable k.calls before (full s.reads kept k c.args.id c.args.index (batch_of c.args.moment c.args.seals.now) (let t = c.if-index-count.false in let turn : c.args.index ≡ c.count-count.result = grind (arith, t) in turn ∙ c.count-count.ensures.value) (sym c.has_room.ensures.value ∙ none))

pub returns-then-not-has_room-clause-frame : goal.returns-then-not-has_room-clause-frame
returns-then-not-has_room-clause-frame g c =
    let S = g.D.Disk.state in
    let self = c.args.self.now in
    let s = S self.disk in
    let kept = c.args.kept in
    let k = knows_of s.reads kept c.requires.keeps in
    let call : Call = file c.args.id c.args.index (batch_of c.args.moment c.args.seals.now) in
    let before = told_calls s.reads kept k in
    quiet s s self.asked self.asked self.unreadable self.unreadable refl (omega arith) (omega arith) (omega arith)

pub returns-in_err-payload-clause-frame : goal.returns-in_err-payload-clause-frame
returns-in_err-payload-clause-frame g c =
    let S = g.D.Disk.state in
    let self = c.args.self.now in
    let s = S self.disk in
    let kept = c.args.kept in
    let k = knows_of s.reads kept c.requires.keeps in
    let call : Call = file c.args.id c.args.index (batch_of c.args.moment c.args.seals.now) in
    let before = told_calls s.reads kept k in
    quiet s s self.asked self.asked self.unreadable self.unreadable refl (omega arith) (omega arith) (omega arith)

pub add-requires-clause-fits : goal.add-requires-clause-fits
add-requires-clause-fits g c = rw c.deref.ensures.value (fits_record (file c.args.id c.args.index (batch_of c.args.moment c.args.seals.now)) c.in_ok-payload.payload.items c.in_ok-payload.ensures)

pub add-requires-clause-open : goal.add-requires-clause-open
add-requires-clause-open g c = open_of c.args.kept c.requires.open

pub returns-in_err-journal-clause-change : goal.returns-in_err-journal-clause-change
returns-in_err-journal-clause-change g c =
    let S = g.D.Disk.state in
    let self = c.args.self.now in
    let s = S self.disk in
    let kept = c.args.kept in
    let k = knows_of s.reads kept c.requires.keeps in
    let call : Call = file c.args.id c.args.index (batch_of c.args.moment c.args.seals.now) in
    let before = told_calls s.reads kept k in
    let h = c.if-not-has_room.false in
    let room : c.has_room.result ≡ true = grind (arith, h) in
    let n = c.add.new.self in
    let s' = S n.disk in
    let spelled = spelled_in call c.in_ok-payload.payload.items c.in_ok-payload.ensures in
    let settled = settled_of s kept c.requires.settled in
    let next = batch_next s.reads kept k c.args.id c.args.index (batch_of c.args.moment c.args.seals.now) (let t = c.if-index-count.false in let turn : c.args.index ≡ c.count-count.result = grind (arith, t) in turn ∙ c.count-count.ensures.value) (sym c.has_room.ensures.value ∙ room) in
    let e = c.in_err-journal.field-0.0 in
    let same : c.from_residual-in_err-journal.result ≡ Err e = search rules in
    let told = rw c.deref.ensures.value at c.in_err-journal.ensures.told in
    let after = either k.calls call kept.journal c.in_ok-payload.payload.items (Err e) s s' c.in_err-journal.ensures.frame spelled next k.in_file settled told (g.met.D.Disk.reads_image n.disk) (g.met.D.Disk.counts_now n.disk) in
    let within = batch_within s.reads kept k c.args.id c.args.index (batch_of c.args.moment c.args.seals.now) (let t = c.if-index-count.false in let turn : c.args.index ≡ c.count-count.result = grind (arith, t) in turn ∙ c.count-count.ensures.value) (sym c.has_room.ensures.value ∙ room) in
    rw (same, c.in_err-journal.ensures.asked) (adds_stopped k.calls call s s' self.asked self.unreadable n.unreadable c.in_err-journal.ensures.frame c.in_err-journal.ensures.unreadable before after within e (asked_is e c.in_err-journal.ensures.only))

pub returns-in_err-journal-clause-frame : goal.returns-in_err-journal-clause-frame
returns-in_err-journal-clause-frame g c =
    let S = g.D.Disk.state in
    let self = c.args.self.now in
    let s = S self.disk in
    let kept = c.args.kept in
    let k = knows_of s.reads kept c.requires.keeps in
    let call : Call = file c.args.id c.args.index (batch_of c.args.moment c.args.seals.now) in
    let before = told_calls s.reads kept k in
    let h = c.if-not-has_room.false in
    let room : c.has_room.result ≡ true = grind (arith, h) in
    let n = c.add.new.self in
    let s' = S n.disk in
    let spelled = spelled_in call c.in_ok-payload.payload.items c.in_ok-payload.ensures in
    let settled = settled_of s kept c.requires.settled in
    let next = batch_next s.reads kept k c.args.id c.args.index (batch_of c.args.moment c.args.seals.now) (let t = c.if-index-count.false in let turn : c.args.index ≡ c.count-count.result = grind (arith, t) in turn ∙ c.count-count.ensures.value) (sym c.has_room.ensures.value ∙ room) in
    let e = c.in_err-journal.field-0.0 in
    let told = rw c.deref.ensures.value at c.in_err-journal.ensures.told in
    let after = either k.calls call kept.journal c.in_ok-payload.payload.items (Err e) s s' c.in_err-journal.ensures.frame spelled next k.in_file settled told (g.met.D.Disk.reads_image n.disk) (g.met.D.Disk.counts_now n.disk) in
    rw c.in_err-journal.ensures.asked (adds_on k.calls call s s' self.asked self.unreadable n.unreadable c.in_err-journal.ensures.frame c.in_err-journal.ensures.unreadable before after)

pub returns-in_err-add_batch-clause-change : goal.returns-in_err-add_batch-clause-change
returns-in_err-add_batch-clause-change g c =
    let S = g.D.Disk.state in
    let self = c.args.self.now in
    let s = S self.disk in
    let kept = c.args.kept in
    let k = knows_of s.reads kept c.requires.keeps in
    let call : Call = file c.args.id c.args.index (batch_of c.args.moment c.args.seals.now) in
    let before = told_calls s.reads kept k in
    let h = c.if-not-has_room.false in
    let room : c.has_room.result ≡ true = grind (arith, h) in
    let n = c.add.new.self in
    let s' = S n.disk in
    let spelled = spelled_in call c.in_ok-payload.payload.items c.in_ok-payload.ensures in
    let settled = settled_of s kept c.requires.settled in
    let next = batch_next s.reads kept k c.args.id c.args.index (batch_of c.args.moment c.args.seals.now) (let t = c.if-index-count.false in let turn : c.args.index ≡ c.count-count.result = grind (arith, t) in turn ∙ c.count-count.ensures.value) (sym c.has_room.ensures.value ∙ room) in
    let told = rw c.deref.ensures.value at c.in_ok-journal.ensures.told in
    let after = either k.calls call kept.journal c.in_ok-payload.payload.items (Ok c.in_ok-journal.journal) s s' c.in_ok-journal.ensures.frame spelled next k.in_file settled told (g.met.D.Disk.reads_image n.disk) (g.met.D.Disk.counts_now n.disk) in
    let same : c.from_residual-in_err-add_batch.result ≡ Err NoMemory = search rules in
    let within = batch_within s.reads kept k c.args.id c.args.index (batch_of c.args.moment c.args.seals.now) (let t = c.if-index-count.false in let turn : c.args.index ≡ c.count-count.result = grind (arith, t) in turn ∙ c.count-count.ensures.value) (sym c.has_room.ensures.value ∙ room) in
    rw (same, c.in_ok-journal.ensures.asked) (adds_unknown k.calls call s s' self.asked self.unreadable n.unreadable c.in_ok-journal.ensures.frame c.in_ok-journal.ensures.unreadable before after within)

pub returns-in_err-add_batch-clause-frame : goal.returns-in_err-add_batch-clause-frame
returns-in_err-add_batch-clause-frame g c =
    let S = g.D.Disk.state in
    let self = c.args.self.now in
    let s = S self.disk in
    let kept = c.args.kept in
    let k = knows_of s.reads kept c.requires.keeps in
    let call : Call = file c.args.id c.args.index (batch_of c.args.moment c.args.seals.now) in
    let before = told_calls s.reads kept k in
    let h = c.if-not-has_room.false in
    let room : c.has_room.result ≡ true = grind (arith, h) in
    let n = c.add.new.self in
    let s' = S n.disk in
    let spelled = spelled_in call c.in_ok-payload.payload.items c.in_ok-payload.ensures in
    let settled = settled_of s kept c.requires.settled in
    let next = batch_next s.reads kept k c.args.id c.args.index (batch_of c.args.moment c.args.seals.now) (let t = c.if-index-count.false in let turn : c.args.index ≡ c.count-count.result = grind (arith, t) in turn ∙ c.count-count.ensures.value) (sym c.has_room.ensures.value ∙ room) in
    let told = rw c.deref.ensures.value at c.in_ok-journal.ensures.told in
    let after = either k.calls call kept.journal c.in_ok-payload.payload.items (Ok c.in_ok-journal.journal) s s' c.in_ok-journal.ensures.frame spelled next k.in_file settled told (g.met.D.Disk.reads_image n.disk) (g.met.D.Disk.counts_now n.disk) in
    rw c.in_ok-journal.ensures.asked (adds_on k.calls call s s' self.asked self.unreadable n.unreadable c.in_ok-journal.ensures.frame c.in_ok-journal.ensures.unreadable before after)

pub invariant_of-self-2 : goal.invariant_of-self-2
invariant_of-self-2 g c =
    let S = g.D.Disk.state in
    let self = c.args.self.now in
    let s = S self.disk in
    let kept = c.args.kept in
    let k = knows_of s.reads kept c.requires.keeps in
    let call : Call = file c.args.id c.args.index (batch_of c.args.moment c.args.seals.now) in
    let before = told_calls s.reads kept k in
    let h = c.if-not-has_room.false in
    let room : c.has_room.result ≡ true = grind (arith, h) in
    let n = c.add.new.self in
    let s' = S n.disk in
    let spelled = spelled_in call c.in_ok-payload.payload.items c.in_ok-payload.ensures in
    let settled = settled_of s kept c.requires.settled in
    let next = batch_next s.reads kept k c.args.id c.args.index (batch_of c.args.moment c.args.seals.now) (let t = c.if-index-count.false in let turn : c.args.index ≡ c.count-count.result = grind (arith, t) in turn ∙ c.count-count.ensures.value) (sym c.has_room.ensures.value ∙ room) in
    let told = rw c.deref.ensures.value at c.in_ok-journal.ensures.told in
    let after = either k.calls call kept.journal c.in_ok-payload.payload.items (Ok c.in_ok-journal.journal) s s' c.in_ok-journal.ensures.frame spelled next k.in_file settled told (g.met.D.Disk.reads_image n.disk) (g.met.D.Disk.counts_now n.disk) in
    let in_file = stored k.calls call NotaryFail kept.journal c.in_ok-payload.payload.items c.in_ok-journal.journal s s' c.in_ok-journal.ensures.frame spelled next k.in_file settled told in
    let still = stays_settled k.calls call NotaryFail kept.journal c.in_ok-payload.payload.items c.in_ok-journal.journal s s' c.in_ok-journal.ensures.frame spelled next k.in_file settled told in
    let stands = if_alike _ s.reads s'.reads c.in_ok-journal.ensures.frame.told (if_map s.reads k.stands (λ b stands. c.in_ok-add_batch.ensures.stands k.calls c.args.index stands)) in
    let end = rw c.deref.ensures.value at c.in_ok-journal.ensures.gate in
    let short = if_alike _ s.reads s'.reads c.in_ok-journal.ensures.frame.told (stays_short s.reads kept k c.in_ok-payload.payload.items call c.in_ok-journal.journal c.add_batch.new.self c.in_ok-payload.ensures (λ stands. c.in_ok-add_batch.ensures.stands k.calls c.args.index stands) end) in
    record { keeps = keeps_some (k.calls ++ call ∷ []) s'.reads _ stands in_file short; settled = settled_some s' _ still; opens = opens_some _ c.in_ok-journal.ensures.open }

pub returns-clause-durable : goal.returns-clause-durable
returns-clause-durable g c =
    let S = g.D.Disk.state in
    let self = c.args.self.now in
    let s = S self.disk in
    let kept = c.args.kept in
    let k = knows_of s.reads kept c.requires.keeps in
    let call : Call = file c.args.id c.args.index (batch_of c.args.moment c.args.seals.now) in
    let before = told_calls s.reads kept k in
    let h = c.if-not-has_room.false in
    let room : c.has_room.result ≡ true = grind (arith, h) in
    let n = c.add.new.self in
    let s' = S n.disk in
    let spelled = spelled_in call c.in_ok-payload.payload.items c.in_ok-payload.ensures in
    let settled = settled_of s kept c.requires.settled in
    let next = batch_next s.reads kept k c.args.id c.args.index (batch_of c.args.moment c.args.seals.now) (let t = c.if-index-count.false in let turn : c.args.index ≡ c.count-count.result = grind (arith, t) in turn ∙ c.count-count.ensures.value) (sym c.has_room.ensures.value ∙ room) in
    let told = rw c.deref.ensures.value at c.in_ok-journal.ensures.told in
    stays_settled k.calls call NotaryFail kept.journal c.in_ok-payload.payload.items c.in_ok-journal.journal s s' c.in_ok-journal.ensures.frame spelled next k.in_file settled told

pub returns-clause-change : goal.returns-clause-change
returns-clause-change g c =
    let S = g.D.Disk.state in
    let self = c.args.self.now in
    let s = S self.disk in
    let kept = c.args.kept in
    let k = knows_of s.reads kept c.requires.keeps in
    let call : Call = file c.args.id c.args.index (batch_of c.args.moment c.args.seals.now) in
    let before = told_calls s.reads kept k in
    let h = c.if-not-has_room.false in
    let room : c.has_room.result ≡ true = grind (arith, h) in
    let n = c.add.new.self in
    let s' = S n.disk in
    let spelled = spelled_in call c.in_ok-payload.payload.items c.in_ok-payload.ensures in
    let settled = settled_of s kept c.requires.settled in
    let next = batch_next s.reads kept k c.args.id c.args.index (batch_of c.args.moment c.args.seals.now) (let t = c.if-index-count.false in let turn : c.args.index ≡ c.count-count.result = grind (arith, t) in turn ∙ c.count-count.ensures.value) (sym c.has_room.ensures.value ∙ room) in
    let told = rw c.deref.ensures.value at c.in_ok-journal.ensures.told in
    let after = either k.calls call kept.journal c.in_ok-payload.payload.items (Ok c.in_ok-journal.journal) s s' c.in_ok-journal.ensures.frame spelled next k.in_file settled told (g.met.D.Disk.reads_image n.disk) (g.met.D.Disk.counts_now n.disk) in
    let in_file = stored k.calls call NotaryFail kept.journal c.in_ok-payload.payload.items c.in_ok-journal.journal s s' c.in_ok-journal.ensures.frame spelled next k.in_file settled told in
    let within = batch_within s.reads kept k c.args.id c.args.index (batch_of c.args.moment c.args.seals.now) (let t = c.if-index-count.false in let turn : c.args.index ≡ c.count-count.result = grind (arith, t) in turn ∙ c.count-count.ensures.value) (sym c.has_room.ensures.value ∙ room) in
    rw c.in_ok-journal.ensures.asked (adds_done k.calls call s s' self.asked self.unreadable n.unreadable before (if_map s'.reads in_file (λ b f. told_file (k.calls ++ call ∷ []) (Some c.in_ok-journal.journal) b f)) within)

pub returns-clause-frame : goal.returns-clause-frame
returns-clause-frame g c =
    let S = g.D.Disk.state in
    let self = c.args.self.now in
    let s = S self.disk in
    let kept = c.args.kept in
    let k = knows_of s.reads kept c.requires.keeps in
    let call : Call = file c.args.id c.args.index (batch_of c.args.moment c.args.seals.now) in
    let before = told_calls s.reads kept k in
    let h = c.if-not-has_room.false in
    let room : c.has_room.result ≡ true = grind (arith, h) in
    let n = c.add.new.self in
    let s' = S n.disk in
    let spelled = spelled_in call c.in_ok-payload.payload.items c.in_ok-payload.ensures in
    let settled = settled_of s kept c.requires.settled in
    let next = batch_next s.reads kept k c.args.id c.args.index (batch_of c.args.moment c.args.seals.now) (let t = c.if-index-count.false in let turn : c.args.index ≡ c.count-count.result = grind (arith, t) in turn ∙ c.count-count.ensures.value) (sym c.has_room.ensures.value ∙ room) in
    let told = rw c.deref.ensures.value at c.in_ok-journal.ensures.told in
    let after = either k.calls call kept.journal c.in_ok-payload.payload.items (Ok c.in_ok-journal.journal) s s' c.in_ok-journal.ensures.frame spelled next k.in_file settled told (g.met.D.Disk.reads_image n.disk) (g.met.D.Disk.counts_now n.disk) in
    rw c.in_ok-journal.ensures.asked (adds_on k.calls call s s' self.asked self.unreadable n.unreadable c.in_ok-journal.ensures.frame c.in_ok-journal.ensures.unreadable before after)

pub returns-then-index-count-clause-images : goal.returns-then-index-count-clause-images
returns-then-index-count-clause-images g c =
    let S = g.D.Disk.state in
    let self = c.args.self.now in
    let s = S self.disk in
    let kept = c.args.kept in
    let k = knows_of s.reads kept c.requires.keeps in
    let call : Call = file c.args.id c.args.index (batch_of c.args.moment c.args.seals.now) in
    let before = told_calls s.reads kept k in
    leaves_same call s (g.met.D.Disk.only_now self.disk)

pub returns-then-not-has_room-clause-images : goal.returns-then-not-has_room-clause-images
returns-then-not-has_room-clause-images g c =
    let S = g.D.Disk.state in
    let self = c.args.self.now in
    let s = S self.disk in
    let kept = c.args.kept in
    let k = knows_of s.reads kept c.requires.keeps in
    let call : Call = file c.args.id c.args.index (batch_of c.args.moment c.args.seals.now) in
    let before = told_calls s.reads kept k in
    leaves_same call s (g.met.D.Disk.only_now self.disk)

pub returns-in_err-payload-clause-images : goal.returns-in_err-payload-clause-images
returns-in_err-payload-clause-images g c =
    let S = g.D.Disk.state in
    let self = c.args.self.now in
    let s = S self.disk in
    let kept = c.args.kept in
    let k = knows_of s.reads kept c.requires.keeps in
    let call : Call = file c.args.id c.args.index (batch_of c.args.moment c.args.seals.now) in
    let before = told_calls s.reads kept k in
    leaves_same call s (g.met.D.Disk.only_now self.disk)

pub returns-in_err-journal-clause-images : goal.returns-in_err-journal-clause-images
returns-in_err-journal-clause-images g c =
    let S = g.D.Disk.state in
    let self = c.args.self.now in
    let s = S self.disk in
    let kept = c.args.kept in
    let k = knows_of s.reads kept c.requires.keeps in
    let call : Call = file c.args.id c.args.index (batch_of c.args.moment c.args.seals.now) in
    let before = told_calls s.reads kept k in
    let h = c.if-not-has_room.false in
    let room : c.has_room.result ≡ true = grind (arith, h) in
    let n = c.add.new.self in
    let s' = S n.disk in
    let spelled = spelled_in call c.in_ok-payload.payload.items c.in_ok-payload.ensures in
    let settled = settled_of s kept c.requires.settled in
    let next = batch_next s.reads kept k c.args.id c.args.index (batch_of c.args.moment c.args.seals.now) (let t = c.if-index-count.false in let turn : c.args.index ≡ c.count-count.result = grind (arith, t) in turn ∙ c.count-count.ensures.value) (sym c.has_room.ensures.value ∙ room) in
    let e = c.in_err-journal.field-0.0 in
    let told = rw c.deref.ensures.value at c.in_err-journal.ensures.told in
    leaves_added k.calls call kept.journal c.in_ok-payload.payload.items (Err e) s s' c.in_err-journal.ensures.frame spelled next k.in_file settled before told

pub returns-in_err-add_batch-clause-images : goal.returns-in_err-add_batch-clause-images
returns-in_err-add_batch-clause-images g c =
    let S = g.D.Disk.state in
    let self = c.args.self.now in
    let s = S self.disk in
    let kept = c.args.kept in
    let k = knows_of s.reads kept c.requires.keeps in
    let call : Call = file c.args.id c.args.index (batch_of c.args.moment c.args.seals.now) in
    let before = told_calls s.reads kept k in
    let h = c.if-not-has_room.false in
    let room : c.has_room.result ≡ true = grind (arith, h) in
    let n = c.add.new.self in
    let s' = S n.disk in
    let spelled = spelled_in call c.in_ok-payload.payload.items c.in_ok-payload.ensures in
    let settled = settled_of s kept c.requires.settled in
    let next = batch_next s.reads kept k c.args.id c.args.index (batch_of c.args.moment c.args.seals.now) (let t = c.if-index-count.false in let turn : c.args.index ≡ c.count-count.result = grind (arith, t) in turn ∙ c.count-count.ensures.value) (sym c.has_room.ensures.value ∙ room) in
    let told = rw c.deref.ensures.value at c.in_ok-journal.ensures.told in
    leaves_added k.calls call kept.journal c.in_ok-payload.payload.items (Ok c.in_ok-journal.journal) s s' c.in_ok-journal.ensures.frame spelled next k.in_file settled before told

pub returns-clause-images : goal.returns-clause-images
returns-clause-images g c =
    let S = g.D.Disk.state in
    let self = c.args.self.now in
    let s = S self.disk in
    let kept = c.args.kept in
    let k = knows_of s.reads kept c.requires.keeps in
    let call : Call = file c.args.id c.args.index (batch_of c.args.moment c.args.seals.now) in
    let before = told_calls s.reads kept k in
    let h = c.if-not-has_room.false in
    let room : c.has_room.result ≡ true = grind (arith, h) in
    let n = c.add.new.self in
    let s' = S n.disk in
    let spelled = spelled_in call c.in_ok-payload.payload.items c.in_ok-payload.ensures in
    let settled = settled_of s kept c.requires.settled in
    let next = batch_next s.reads kept k c.args.id c.args.index (batch_of c.args.moment c.args.seals.now) (let t = c.if-index-count.false in let turn : c.args.index ≡ c.count-count.result = grind (arith, t) in turn ∙ c.count-count.ensures.value) (sym c.has_room.ensures.value ∙ room) in
    let told = rw c.deref.ensures.value at c.in_ok-journal.ensures.told in
    leaves_added k.calls call kept.journal c.in_ok-payload.payload.items (Ok c.in_ok-journal.journal) s s' c.in_ok-journal.ensures.frame spelled next k.in_file settled before told

pub returns-then-index-count-clause-alters : goal.returns-then-index-count-clause-alters
returns-then-index-count-clause-alters g c =
    let S = g.D.Disk.state in
    let self = c.args.self.now in
    let s = S self.disk in
    let kept = c.args.kept in
    alters_none (Err (OutOfTurn c.count-count.result)) s kept _ self.unreadable refl refl (found s.reads (Some kept) c.requires.keeps refl)

pub returns-then-not-has_room-clause-alters : goal.returns-then-not-has_room-clause-alters
returns-then-not-has_room-clause-alters g c =
    let S = g.D.Disk.state in
    let self = c.args.self.now in
    let s = S self.disk in
    let kept = c.args.kept in
    alters_none (Err Full) s kept _ self.unreadable refl refl (found s.reads (Some kept) c.requires.keeps refl)

pub returns-in_err-payload-clause-change : goal.returns-in_err-payload-clause-change
returns-in_err-payload-clause-change g c =
    let S = g.D.Disk.state in
    let self = c.args.self.now in
    let s = S self.disk in
    let kept = c.args.kept in
    let k = knows_of s.reads kept c.requires.keeps in
    let call : Call = file c.args.id c.args.index (batch_of c.args.moment c.args.seals.now) in
    let same : c.from_residual.result ≡ Err NoMemory = search rules in
    rw same (refused call NoMemory s self.asked self.unreadable k.calls (told_calls s.reads kept k) (nothing_done s.reads kept k call))

pub returns-in_err-payload-clause-alters : goal.returns-in_err-payload-clause-alters
returns-in_err-payload-clause-alters g c =
    let S = g.D.Disk.state in
    let self = c.args.self.now in
    let s = S self.disk in
    let kept = c.args.kept in
    let same : c.from_residual.result ≡ Err NoMemory = search rules in
    rw same (alters_none (Err NoMemory) s kept self.kept self.unreadable c.requires.none refl tt)

pub returns-in_err-journal-clause-alters : goal.returns-in_err-journal-clause-alters
returns-in_err-journal-clause-alters g c =
    let S = g.D.Disk.state in
    let self = c.args.self.now in
    let s = S self.disk in
    let kept = c.args.kept in
    let k = knows_of s.reads kept c.requires.keeps in
    let call : Call = file c.args.id c.args.index (batch_of c.args.moment c.args.seals.now) in
    let before = told_calls s.reads kept k in
    let h = c.if-not-has_room.false in
    let room : c.has_room.result ≡ true = grind (arith, h) in
    let n = c.add.new.self in
    let s' = S n.disk in
    let spelled = spelled_in call c.in_ok-payload.payload.items c.in_ok-payload.ensures in
    let settled = settled_of s kept c.requires.settled in
    let next = batch_next s.reads kept k c.args.id c.args.index (batch_of c.args.moment c.args.seals.now) (let t = c.if-index-count.false in let turn : c.args.index ≡ c.count-count.result = grind (arith, t) in turn ∙ c.count-count.ensures.value) (sym c.has_room.ensures.value ∙ room) in
    let e = c.in_err-journal.field-0.0 in
    let told = rw c.deref.ensures.value at c.in_err-journal.ensures.told in
    let counts = rw c.deref.ensures.value at c.in_err-journal.ensures.counts in
    let after = either k.calls call kept.journal c.in_ok-payload.payload.items (Err e) s s' c.in_err-journal.ensures.frame spelled next k.in_file settled told (g.met.D.Disk.reads_image n.disk) (g.met.D.Disk.counts_now n.disk) in
    let same : c.from_residual-in_err-journal.result ≡ Err e = search rules in
    rw same (alters_added e s s' kept n.kept self.unreadable n.unreadable c.in_err-journal.ensures.only c.in_err-journal.ensures.none (counts (placed s.reads kept k c.in_ok-payload.payload.items (fits_record call c.in_ok-payload.payload.items c.in_ok-payload.ensures))) (adds_told k.calls call s s' self.asked self.unreadable n.unreadable c.in_err-journal.ensures.frame c.in_err-journal.ensures.unreadable before after) c.in_err-journal.ensures.frame)

pub returns-in_err-add_batch-clause-alters : goal.returns-in_err-add_batch-clause-alters
returns-in_err-add_batch-clause-alters g c =
    let S = g.D.Disk.state in
    let self = c.args.self.now in
    let s = S self.disk in
    let kept = c.args.kept in
    let k = knows_of s.reads kept c.requires.keeps in
    let call : Call = file c.args.id c.args.index (batch_of c.args.moment c.args.seals.now) in
    let before = told_calls s.reads kept k in
    let h = c.if-not-has_room.false in
    let room : c.has_room.result ≡ true = grind (arith, h) in
    let n = c.add.new.self in
    let s' = S n.disk in
    let spelled = spelled_in call c.in_ok-payload.payload.items c.in_ok-payload.ensures in
    let settled = settled_of s kept c.requires.settled in
    let next = batch_next s.reads kept k c.args.id c.args.index (batch_of c.args.moment c.args.seals.now) (let t = c.if-index-count.false in let turn : c.args.index ≡ c.count-count.result = grind (arith, t) in turn ∙ c.count-count.ensures.value) (sym c.has_room.ensures.value ∙ room) in
    let told = rw c.deref.ensures.value at c.in_ok-journal.ensures.told in
    let counts = rw c.deref.ensures.value at c.in_ok-journal.ensures.counts in
    let after = either k.calls call kept.journal c.in_ok-payload.payload.items (Ok c.in_ok-journal.journal) s s' c.in_ok-journal.ensures.frame spelled next k.in_file settled told (g.met.D.Disk.reads_image n.disk) (g.met.D.Disk.counts_now n.disk) in
    let same : c.from_residual-in_err-add_batch.result ≡ Err NoMemory = search rules in
    rw same (alters_kept (Err NoMemory) s s' kept n.kept self.unreadable n.unreadable c.in_ok-journal.ensures.none (counts (placed s.reads kept k c.in_ok-payload.payload.items (fits_record call c.in_ok-payload.payload.items c.in_ok-payload.ensures))) tt (adds_told k.calls call s s' self.asked self.unreadable n.unreadable c.in_ok-journal.ensures.frame c.in_ok-journal.ensures.unreadable before after) tt c.in_ok-journal.ensures.frame)

pub returns-clause-alters : goal.returns-clause-alters
returns-clause-alters g c =
    let S = g.D.Disk.state in
    let self = c.args.self.now in
    let s = S self.disk in
    let kept = c.args.kept in
    let k = knows_of s.reads kept c.requires.keeps in
    let call : Call = file c.args.id c.args.index (batch_of c.args.moment c.args.seals.now) in
    let before = told_calls s.reads kept k in
    let h = c.if-not-has_room.false in
    let room : c.has_room.result ≡ true = grind (arith, h) in
    let n = c.add.new.self in
    let s' = S n.disk in
    let spelled = spelled_in call c.in_ok-payload.payload.items c.in_ok-payload.ensures in
    let settled = settled_of s kept c.requires.settled in
    let next = batch_next s.reads kept k c.args.id c.args.index (batch_of c.args.moment c.args.seals.now) (let t = c.if-index-count.false in let turn : c.args.index ≡ c.count-count.result = grind (arith, t) in turn ∙ c.count-count.ensures.value) (sym c.has_room.ensures.value ∙ room) in
    let told = rw c.deref.ensures.value at c.in_ok-journal.ensures.told in
    let counts = rw c.deref.ensures.value at c.in_ok-journal.ensures.counts in
    let after = either k.calls call kept.journal c.in_ok-payload.payload.items (Ok c.in_ok-journal.journal) s s' c.in_ok-journal.ensures.frame spelled next k.in_file settled told (g.met.D.Disk.reads_image n.disk) (g.met.D.Disk.counts_now n.disk) in
    alters_kept (Ok tt) s s' kept _ self.unreadable n.unreadable refl (counts (placed s.reads kept k c.in_ok-payload.payload.items (fits_record call c.in_ok-payload.payload.items c.in_ok-payload.ensures))) (found s.reads (Some kept) c.requires.keeps refl) (adds_told k.calls call s s' self.asked self.unreadable n.unreadable c.in_ok-journal.ensures.frame c.in_ok-journal.ensures.unreadable before after) tt c.in_ok-journal.ensures.frame
