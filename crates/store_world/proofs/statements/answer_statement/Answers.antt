use Rattle.std.proofs.Common.{Ok, Err, refl, subst}
use Rattle.std.specs.Prelude.{⊤}
use Rattle.std.proofs.lemmas.Result.{err_from_is_err_and}
use Rattle.disk_words.specs.Disk.{turn}
use Rattle.tuple_bytes.specs.Spelling.{FitsHeader}
use Rattle.store_world.specs.declared.fail.LineFail.TheVariants.{NoMemory}
use Rattle.store_world.specs.Answers.{fault_of}
use Rattle.stmt_text.specs.Kinds.{line_kind}
use Rattle.store_world.proofs.Faults.{ends_unasked, ends_wanting}
use Rattle.store_world.proofs.LineKinds.{goes_to_tables}
use Rattle.store_world.proofs.Tables.{beside, answered_as, not_notary}
use Rattle.store_world.proofs.Sounds.{stays_sound}
use Rattle.store_world.proofs.statements.answer_statement.Goals as goal

pub returns-in_err-reply-clause-told : goal.returns-in_err-reply-clause-told
returns-in_err-reply-clause-told g c auditing =
    let S = g.D.Disk.state in
    let p = err_from_is_err_and c.from_residual.result c.from_residual.ensures.1 in
    rw (p.1, p.2) (beside c.args.sessions.now c.step.new.self c.args.store.now c.step.new.store c.step.ensures.header (S c.args.disk.now) (S c.step.new.disk) auditing c.args.line.now c.args.now c.requires.statement
    (Err c.in_err-reply.field-0.0) (Err (fault_of c.in_err-reply.field-0.0)) refl c.in_err-reply.ensures.told)

pub returns-in_err-print_reply-clause-told : goal.returns-in_err-print_reply-clause-told
returns-in_err-print_reply-clause-told g c auditing =
    let S = g.D.Disk.state in
    let p = err_from_is_err_and c.from_residual-in_err-print_reply.result c.from_residual-in_err-print_reply.ensures.1 in
    rw (p.1, p.2) (beside c.args.sessions.now c.step.new.self c.args.store.now c.step.new.store c.step.ensures.header (S c.args.disk.now) (S c.step.new.disk) auditing c.args.line.now c.args.now c.requires.statement
    (Ok c.in_ok-reply.reply) (Err NoMemory) tt c.in_ok-reply.ensures.told)

pub returns-clause-told : goal.returns-clause-told
returns-clause-told g c auditing =
    let S = g.D.Disk.state in
    beside c.args.sessions.now c.step.new.self c.args.store.now c.step.new.store c.step.ensures.header (S c.args.disk.now) (S c.step.new.disk) auditing c.args.line.now c.args.now c.requires.statement (Ok c.in_ok-reply.reply) _
    (answered_as c.is_refusal.result c.in_ok-print_reply.field-0 c.in_ok-reply.reply c.is_refusal.ensures.value c.in_ok-print_reply.ensures.value) c.in_ok-reply.ensures.told

pub returns-in_err-reply-clause-sound : goal.returns-in_err-reply-clause-sound
returns-in_err-reply-clause-sound g c =
    let S = g.D.Disk.state in
    stays_sound c.args.sessions.now c.step.new.self c.args.store.now c.step.new.store c.args.line.now c.args.now c.step.result (S c.args.disk.now) (S c.step.new.disk)
    (subst FitsHeader c.header-header.ensures.value c.header-header.ensures.fits)
    (λ x le image. g.met.D.Disk.counts_now c.step.new.disk (turn (S c.args.disk.now)) x le image)
    (g.met.D.Disk.reads_image c.args.disk.now) c.step.ensures.told

pub returns-in_err-print_reply-clause-sound : goal.returns-in_err-print_reply-clause-sound
returns-in_err-print_reply-clause-sound g c =
    let S = g.D.Disk.state in
    stays_sound c.args.sessions.now c.step.new.self c.args.store.now c.step.new.store c.args.line.now c.args.now c.step.result (S c.args.disk.now) (S c.step.new.disk)
    (subst FitsHeader c.header-header.ensures.value c.header-header.ensures.fits)
    (λ x le image. g.met.D.Disk.counts_now c.step.new.disk (turn (S c.args.disk.now)) x le image)
    (g.met.D.Disk.reads_image c.args.disk.now) c.step.ensures.told

pub returns-clause-sound : goal.returns-clause-sound
returns-clause-sound g c =
    let S = g.D.Disk.state in
    stays_sound c.args.sessions.now c.step.new.self c.args.store.now c.step.new.store c.args.line.now c.args.now c.step.result (S c.args.disk.now) (S c.step.new.disk)
    (subst FitsHeader c.header-header.ensures.value c.header-header.ensures.fits)
    (λ x le image. g.met.D.Disk.counts_now c.step.new.disk (turn (S c.args.disk.now)) x le image)
    (g.met.D.Disk.reads_image c.args.disk.now) c.step.ensures.told

pub returns-in_err-reply-clause-only : goal.returns-in_err-reply-clause-only
returns-in_err-reply-clause-only g c =
    let p = err_from_is_err_and c.from_residual.result c.from_residual.ensures.1 in
    rw (p.1, p.2) (ends_unasked (line_kind c.args.line.now) (goes_to_tables c.args.line.now c.requires.statement).kind (fault_of c.in_err-reply.field-0.0) (not_notary c.in_err-reply.field-0.0))

pub returns-in_err-print_reply-clause-only : goal.returns-in_err-print_reply-clause-only
returns-in_err-print_reply-clause-only g c =
    let p = err_from_is_err_and c.from_residual-in_err-print_reply.result c.from_residual-in_err-print_reply.ensures.1 in
    rw p.1 (ends_wanting ⊤ (line_kind c.args.line.now) (Err p.0) p.2)
