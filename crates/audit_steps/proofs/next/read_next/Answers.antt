use Rattle.audit_steps.proofs.Nexts.{told_last, told_going, told_few, told_nowhere}
use Rattle.audit_steps.proofs.next.read_next.Goals as goal

pub returns-in_err-piece-in-Some-clause-steps : goal.returns-in_err-piece-in-Some-clause-steps
returns-in_err-piece-in-Some-clause-steps g c =
    let S = g.D.Disk.state in
    told_few c.args.id c.args.under_way c.in-Some.auditing c.args.steps.now c.read_piece.new.steps (S c.args.disk.now).reads (S c.take_up.new.disk).reads c.in_ok-auditing.ensures.same.reads (rw c.in-Some.is at c.in_ok-auditing.ensures.value) c.read_piece.ensures.steps

pub returns-then-piece-clause-steps : goal.returns-then-piece-clause-steps
returns-then-piece-clause-steps g c =
    let S = g.D.Disk.state in
    told_few c.args.id c.args.under_way c.in-Some.auditing c.args.steps.now c.read_piece.new.steps (S c.args.disk.now).reads (S c.take_up.new.disk).reads c.in_ok-auditing.ensures.same.reads (rw c.in-Some.is at c.in_ok-auditing.ensures.value) c.read_piece.ensures.steps

pub returns-else-piece-clause-steps : goal.returns-else-piece-clause-steps
returns-else-piece-clause-steps g c =
    let S = g.D.Disk.state in
    told_few c.args.id c.args.under_way c.in-Some.auditing c.args.steps.now c.read_piece.new.steps (S c.args.disk.now).reads (S c.take_up.new.disk).reads c.in_ok-auditing.ensures.same.reads (rw c.in-Some.is at c.in_ok-auditing.ensures.value) c.read_piece.ensures.steps

pub returns-then-piece-clause-value : goal.returns-then-piece-clause-value
returns-then-piece-clause-value g c =
    let S = g.D.Disk.state in
    told_last c.args.id c.args.under_way c.in-Some.auditing c.in_ok-piece-in-Some.piece (S c.args.disk.now).reads (S c.take_up.new.disk).reads c.in_ok-auditing.ensures.same.reads (rw c.in-Some.is at c.in_ok-auditing.ensures.value) c.in_ok-piece-in-Some.ensures.value c.if-piece.true

pub returns-else-piece-clause-value : goal.returns-else-piece-clause-value
returns-else-piece-clause-value g c =
    let S = g.D.Disk.state in
    told_going c.args.id c.args.under_way c.in-Some.auditing c.in_ok-piece-in-Some.piece (S c.args.disk.now).reads (S c.take_up.new.disk).reads c.in_ok-auditing.ensures.same.reads (rw c.in-Some.is at c.in_ok-auditing.ensures.value) c.in_ok-piece-in-Some.ensures.value c.if-piece.false

pub returns-in-None-clause-value : goal.returns-in-None-clause-value
returns-in-None-clause-value g c = told_nowhere c.args.id c.args.under_way c.in_ok-auditing.field-0 (g.D.Disk.state c.args.disk.now).reads c.in-None.is c.in_ok-auditing.ensures.none
