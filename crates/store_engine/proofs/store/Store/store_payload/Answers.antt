use Rattle.std.proofs.Common.{Ok, Err, refl, ap, subst, ◌∙◌}
use Rattle.std.specs.Option.{option_map}
use Rattle.outside_words.specs.Told.{WhereTold}
use Rattle.tuple_bytes.proofs.ItemLaws.{spelled_some, whole_again}
use Rattle.chain_state.specs.Chained.{without_room}
use Rattle.store_engine.specs.Opened.{Opened}
use Rattle.store_engine.specs.Contents.{lent_item, with_tables}
use Rattle.store_engine.specs.Commits.{Adds}
use Rattle.store_engine.specs.Adding.{stands_at}
use Rattle.store_engine.proofs.Adding.{told_failed, told_done}
use Rattle.store_engine.proofs.Counting.{few_behind, last_behind, eras_behind}
use Rattle.store_engine.proofs.Taken.{turned_by_item}
use Rattle.store_engine.proofs.Standing.{opened_as, shown_with, behind_other}
use Rattle.store_engine.proofs.store.Store.store_payload.Goals as goal

pub invariant_of-self-inside-2 : goal.invariant_of-self-inside-2
invariant_of-self-inside-2 g c =
    let s = c.self.inside in
    let item = lent_item c.args.item.now in
    let more = c.note.new.self in
    let few = few_behind s.contents more item more.tables s.file c.append.new.file s.is_closed c.append.new.is_closed c.args.payload.now s.few (ap (with_tables more.tables) c.note.ensures.value) c.in_default.ensures.stands in
    let is = ap (with_tables more.tables) c.note.ensures.value in
    let later = turned_by_item s.header s.contents.eras more.eras s.contents.last more.last item c.requires.other s.chains c.turn_chained.new.chains c.turn_chained.ensures.value s.chained (eras_behind s.contents more item more.tables is) (last_behind s.contents more item more.tables is) in
    (s.header_fits, (few, (c.note.ensures.in_time s.in_time, (later, (c.append.ensures.closed_too, tt)))))

pub append-requires-clause-fits : goal.append-requires-clause-fits
append-requires-clause-fits g c = record { accepted = spelled_some c.args.payload.now (lent_item c.args.item.now) c.requires.spelled; short = c.requires.short }

pub note-requires-clause-spelled : goal.note-requires-clause-spelled
note-requires-clause-spelled g c = whole_again c.args.payload.now (lent_item c.args.item.now) c.requires.spelled

pub returns-in-Err-clause-told : goal.returns-in-Err-clause-told
returns-in-Err-clause-told g c =
    let S = g.D.Disk.state in
    let old = S c.args.disk.now in
    let new = S c.append.new.disk in
    let item = lent_item c.args.item.now in
    let at = stands_at c.self.inside.file c.self.inside.is_closed in
    let known = c.self.inside.contents in
    let shown = option_map without_room c.self.inside.chains in
    let stand : Opened = opened_as c.self.inside.header c.self.inside.contents (option_map without_room c.self.inside.chains) (stands_at c.self.inside.file c.self.inside.is_closed) in
    let later : Opened = opened_as c.self.inside.header c.self.inside.contents (option_map without_room c.self.inside.chains) (stands_at c.append.new.file c.append.new.is_closed) in
    subst (λ (s : Opened). WhereTold old.reads new.reads (Adds {A = Unit {0}} item (Err c.in-Err.fail) s later old new)) c.self.view_is
    (told_failed item c.args.payload.now c.requires.spelled at old new stand later refl c.in-Err.fail c.in-Err.ensures.told)

pub returns-clause-told : goal.returns-clause-told
returns-clause-told g c =
    let S = g.D.Disk.state in
    let old = S c.args.disk.now in
    let new = S c.append.new.disk in
    let item = lent_item c.args.item.now in
    let at = stands_at c.self.inside.file c.self.inside.is_closed in
    let now = stands_at c.append.new.file c.append.new.is_closed in
    let known = c.self.inside.contents in
    let shown = option_map without_room c.self.inside.chains in
    let stand : Opened = opened_as c.self.inside.header c.self.inside.contents (option_map without_room c.self.inside.chains) (stands_at c.self.inside.file c.self.inside.is_closed) in
    let later : Opened = opened_as c.self.inside.header c.note.new.self (option_map without_room c.turn_chained.new.chains) (stands_at c.append.new.file c.append.new.is_closed) in
    subst (λ (s : Opened). WhereTold old.reads new.reads (Adds {A = Unit {0}} item (Ok tt) s later old new)) c.self.view_is
    (told_done item c.args.payload.now c.requires.spelled at old new stand later refl
    (behind_other c.self.inside.header known c.note.new.self shown at now item c.args.payload.now c.requires.spelled.1 c.in_default.ensures.stands c.requires.other (option_map without_room c.turn_chained.new.chains) (ap (option_map without_room) c.turn_chained.ensures.value ∙ shown_with item c.self.inside.chains) (c.note.ensures.tells c.self.inside.header))
    c.in_default.ensures.told)
