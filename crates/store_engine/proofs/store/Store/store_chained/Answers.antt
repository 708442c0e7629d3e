use Rattle.std.proofs.Common.{◌≡◌, true, Ok, Err, refl, sym, ap, subst, ◌∙◌, length, arith}
use Rattle.std.specs.Option.{option_map}
use Rattle.outside_words.specs.Told.{WhereTold}
use Rattle.disk_words.proofs.Frame.{goes_on_same}
use Rattle.tuple_bytes.specs.declared.item.Item.{Item}
use Rattle.tuple_bytes.specs.declared.item.Item.TheVariants as items
use Rattle.tuple_bytes.specs.Spelling.{Spells}
use Rattle.tuple_bytes.proofs.ItemLaws.{spelled_some, whole_again}
use Rattle.history_model.specs.History.{granule_of}
use Rattle.segment_file.specs.Append.{Standing}
use Rattle.chain_state.specs.Chained.{without_room, with_chained}
use Rattle.store_engine.specs.declared.fail.StoreFail.TheVariants as fails
use Rattle.store_engine.specs.Opened.{Opened}
use Rattle.store_engine.specs.declared.contents.Contents.{Contents}
use Rattle.store_engine.specs.Contents.{lent_item, after_item, with_tables}
use Rattle.store_engine.specs.Commits.{Adds}
use Rattle.store_engine.specs.Adding.{stands_at}
use Rattle.store_engine.proofs.Adding.{told_failed, told_done, told_unknown, told_wanting}
use Rattle.store_engine.proofs.Taken.{reserved_reached, reserved_shown, added_reached, above_open, room_made}
use Rattle.store_engine.proofs.Standing.{opened_as, failed_end, far_behind, shown_more, behind_txn}
use Rattle.store_engine.proofs.store.Store.store_chained.Goals as goal

pub invariant_of-self-inside : goal.invariant_of-self-inside
invariant_of-self-inside g c =
    let s = c.self.inside in
    let kept = reserved_reached s.header s.contents.eras s.contents.last _ s.chains c.reserve_chained.new.chains c.reserve_chained.result c.reserve_chained.ensures.room c.reserve_chained.ensures.same s.chained in
    (s.header_fits, (s.few, (s.in_time, (kept, ((λ _. refl), tt)))))

pub returns-then-is_err-clause-told : goal.returns-then-is_err-clause-told
returns-then-is_err-clause-told g c = told_wanting (lent_item c.args.txn.now) c.args.self.now _ (g.D.Disk.state c.args.disk.now) (g.met.D.Disk.only_now c.args.disk.now)

pub returns-then-is_err-clause-frame : goal.returns-then-is_err-clause-frame
returns-then-is_err-clause-frame g c = goes_on_same _

pub append-requires-clause-fits : goal.append-requires-clause-fits
append-requires-clause-fits g c = record { accepted = spelled_some c.args.payload.now (lent_item c.args.txn.now) c.requires.spelled; short = c.requires.short }

pub invariant_of-self-inside-in-Err-1 : goal.invariant_of-self-inside-in-Err-1
invariant_of-self-inside-in-Err-1 g c =
    let s = c.self.inside in
    let kept = reserved_reached s.header s.contents.eras s.contents.last _ s.chains c.reserve_chained.new.chains c.reserve_chained.result c.reserve_chained.ensures.room c.reserve_chained.ensures.same s.chained in
    let end = failed_end c.args.payload.now c.in-Err.fail (stands_at s.file s.is_closed) (stands_at c.append.new.file c.append.new.is_closed) c.in-Err.ensures.stands in
    (s.header_fits, (omega (arith, end, s.few), (s.in_time, (kept, (c.append.ensures.closed_too, tt)))))

pub add-known-requires-clause-spelled : goal.add-known-requires-clause-spelled
add-known-requires-clause-spelled g c = whole_again c.args.payload.now (lent_item c.args.txn.now) c.requires.spelled

pub returns-in-Err-clause-told : goal.returns-in-Err-clause-told
returns-in-Err-clause-told g c =
    let S = g.D.Disk.state in
    let old = S c.args.disk.now in
    let new = S c.append.new.disk in
    let item = lent_item c.args.txn.now in
    let at = stands_at c.self.inside.file c.self.inside.is_closed in
    let stand : Opened = opened_as c.self.inside.header c.self.inside.contents (option_map without_room c.self.inside.chains) (stands_at c.self.inside.file c.self.inside.is_closed) in
    let later : Opened = opened_as c.self.inside.header c.self.inside.contents (option_map without_room c.reserve_chained.new.chains) (stands_at c.append.new.file c.append.new.is_closed) in
    subst (λ (s : Opened). WhereTold old.reads new.reads (Adds {A = Unit {0}} item (Err c.in-Err.fail) s later old new)) c.self.view_is
    (told_failed item c.args.payload.now c.requires.spelled at old new stand later refl c.in-Err.fail c.in-Err.ensures.told)

pub add_chained-requires-clause-above : goal.add_chained-requires-clause-above
add_chained-requires-clause-above g c =
    let s = c.self.inside in
    let kept = reserved_reached s.header s.contents.eras s.contents.last _ s.chains c.reserve_chained.new.chains c.reserve_chained.result c.reserve_chained.ensures.room c.reserve_chained.ensures.same s.chained in
    let last : s.contents.last ≡ c.args.self.now.last = ap (λ (o : Opened). o.last) c.self.view_is in
    above_open s.header s.contents.eras s.contents.last c.args.moment c.reserve_chained.new.chains kept (let follows = c.requires.next.follows in omega (arith, follows, last)) s.header_fits.width.0

pub add_chained-requires-clause-room : goal.add_chained-requires-clause-room
add_chained-requires-clause-room g c =
    let s = c.self.inside in
    room_made s.header s.contents.eras s.contents.last c.args.moment c.granule-number.result s.chains c.reserve_chained.new.chains c.reserve_chained.result (sym c.is_err.ensures.value ∙ c.if-is_err.false) c.reserve_chained.ensures.room s.chained c.granule-number.ensures.value

pub invariant_of-self-inside-in-Ok : goal.invariant_of-self-inside-in-Ok
invariant_of-self-inside-in-Ok g c =
    let s = c.self.inside in
    let payload = c.args.payload.now in
    let t = c.requires.next.txn in
    let it = c.requires.next.is in
    let spells = subst (λ (i : Item). Spells i payload) it c.requires.spelled in
    let kept = reserved_reached s.header s.contents.eras s.contents.last _ s.chains c.reserve_chained.new.chains c.reserve_chained.result c.reserve_chained.ensures.room c.reserve_chained.ensures.same s.chained in
    let added = c.add_chained.ensures.value t spells.0 spells.1 in
    let known : c.add-known.new.self ≡ after_item c.self.inside.contents (items.Txn c.requires.next.txn) = c.in-Ok.ensures.ok ∙ ap (after_item s.contents) it in
    let last = ap (λ (x : Contents). x.last) known in
    let count = ap (λ (x : Contents). x.count) known in
    let eras = ap (λ (x : Contents). x.eras) known in
    let end = ap (λ (x : Standing). x.end) c.in_default.ensures.stands in
    let reached = added_reached s.header s.contents.eras c.add-known.new.self.eras s.contents.last c.add-known.new.self.last t c.reserve_chained.new.chains c.add_chained.new.chains added kept eras (omega (arith, last)) in
    (s.header_fits, (omega (arith, count, end, far_behind s.file.end (length payload), s.few), (c.add-known.ensures.in_time s.in_time, (reached, (c.append.ensures.closed_too, tt)))))

pub invariant_of-self-inside-in-Err-known : goal.invariant_of-self-inside-in-Err-known
invariant_of-self-inside-in-Err-known g c =
    let s = c.self.inside in
    let payload = c.args.payload.now in
    let t = c.requires.next.txn in
    let it = c.requires.next.is in
    let spells = subst (λ (i : Item). Spells i payload) it c.requires.spelled in
    let kept = reserved_reached s.header s.contents.eras s.contents.last _ s.chains c.reserve_chained.new.chains c.reserve_chained.result c.reserve_chained.ensures.room c.reserve_chained.ensures.same s.chained in
    let added = c.add_chained.ensures.value t spells.0 spells.1 in
    let cut = c.in-Err-known.ensures.err in
    let known : c.add-known.new.self ≡ with_tables c.in-Err-known.ensures.err.0 (after_item c.self.inside.contents (items.Txn c.requires.next.txn)) = cut.1 ∙ ap (λ (i : Item). with_tables cut.0 (after_item s.contents i)) it in
    let last = ap (λ (x : Contents). x.last) known in
    let count = ap (λ (x : Contents). x.count) known in
    let eras = ap (λ (x : Contents). x.eras) known in
    let end = ap (λ (x : Standing). x.end) c.in_default.ensures.stands in
    let reached = added_reached s.header s.contents.eras c.add-known.new.self.eras s.contents.last c.add-known.new.self.last t c.reserve_chained.new.chains c.add_chained.new.chains added kept eras (omega (arith, last)) in
    (s.header_fits, (omega (arith, count, end, far_behind s.file.end (length payload), s.few), (c.add-known.ensures.in_time s.in_time, (reached, ((λ _. refl), tt)))))

pub returns-in-Ok-clause-told : goal.returns-in-Ok-clause-told
returns-in-Ok-clause-told g c =
    let S = g.D.Disk.state in
    let old = S c.args.disk.now in
    let new = S c.append.new.disk in
    let s = c.self.inside in
    let payload = c.args.payload.now in
    let item = lent_item c.args.txn.now in
    let t = c.requires.next.txn in
    let it = c.requires.next.is in
    let spells = subst (λ (i : Item). Spells i payload) it c.requires.spelled in
    let at = stands_at c.self.inside.file c.self.inside.is_closed in
    let now = stands_at c.append.new.file c.append.new.is_closed in
    let shown = option_map without_room c.self.inside.chains in
    let stand : Opened = opened_as c.self.inside.header c.self.inside.contents (option_map without_room c.self.inside.chains) (stands_at c.self.inside.file c.self.inside.is_closed) in
    let later : Opened = opened_as c.self.inside.header c.add-known.new.self (option_map without_room c.add_chained.new.chains) (stands_at c.append.new.file c.append.new.is_closed) in
    let kept = reserved_shown s.header s.contents.eras s.contents.last _ s.chains c.reserve_chained.new.chains c.reserve_chained.result c.reserve_chained.ensures.room c.reserve_chained.ensures.same in
    let adds : option_map without_room c.add_chained.new.chains ≡ option_map (with_chained c.requires.next.txn) (option_map without_room c.self.inside.chains) =
    ap (option_map without_room) (c.add_chained.ensures.value t spells.0 spells.1) ∙ shown_more t c.reserve_chained.new.chains ∙ ap (option_map (with_chained t)) kept in
    let last = ap (λ (o : Opened). o.last) c.self.view_is in
    let moment = c.requires.next.moment_is in
    let follows = c.requires.next.follows in
    let small = c.requires.next.small in
    let same : granule_of c.self.inside.header.width c.requires.next.txn.moment ≡ granule_of c.args.self.now.header.width c.args.moment =
    ap (λ (o : Opened). granule_of o.header.width t.moment) c.self.view_is ∙ ap (granule_of c.args.self.now.header.width) moment in
    subst (λ (s : Opened). WhereTold old.reads new.reads (Adds {A = Unit {0}} item (Ok tt) s later old new)) c.self.view_is
    (told_done item payload c.requires.spelled at old new stand later refl
    (behind_txn s.header s.contents c.add-known.new.self shown at now item payload c.requires.spelled.1 c.in_default.ensures.stands t it (option_map without_room c.add_chained.new.chains) adds s.header_fits.width.0 (omega (arith, last, moment, follows)) (omega (arith, same, small)) (c.in-Ok.ensures.tells s.header))
    c.in_default.ensures.told)

pub returns-in-Err-known-clause-told : goal.returns-in-Err-known-clause-told
returns-in-Err-known-clause-told g c =
    let S = g.D.Disk.state in
    let old = S c.args.disk.now in
    let new = S c.append.new.disk in
    let item = lent_item c.args.txn.now in
    let at = stands_at c.self.inside.file c.self.inside.is_closed in
    let stand : Opened = opened_as c.self.inside.header c.self.inside.contents (option_map without_room c.self.inside.chains) (stands_at c.self.inside.file c.self.inside.is_closed) in
    let later : Opened = opened_as c.self.inside.header c.add-known.new.self (option_map without_room c.add_chained.new.chains) (stands_at c.append.new.file true) in
    subst (λ (s : Opened). WhereTold old.reads new.reads (Adds {A = Unit {0}} item (Err fails.NoMemory) s later old new)) c.self.view_is
    (told_unknown item c.args.payload.now c.requires.spelled at old new stand later refl c.in_default.ensures.told)
