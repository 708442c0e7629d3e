use Rattle.std.proofs.Common.{◌≡◌, true, false, List, ℕ, [], ◌∷◌, ◌++◌, ◌∙◌, subst, arith}
use Rattle.store_engine.specs.Taking.{HaveTaken}
use Rattle.store_engine.specs.Replay.{IsRead}
use Rattle.disk_words.proofs.Frame.{goes_on_same}
use Rattle.segment_file.proofs.Collecting.{all_collected}
use Rattle.store_engine.proofs.Telling.{few_txns}
use Rattle.store_engine.proofs.Taken.{chains_reached}
use Rattle.store_engine.proofs.Replaying.{has_read_none, has_read_more, replays}
use Rattle.store_engine.proofs.opening.read_in_file_order.Goals as goal

pub returns-in_err-chains-clause-frame : goal.returns-in_err-chains-clause-frame
returns-in_err-chains-clause-frame g c = goes_on_same _

pub returns-in_err-contents-clause-frame : goal.returns-in_err-contents-clause-frame
returns-in_err-contents-clause-frame g c = goes_on_same _

pub records-init : goal.records-init
records-init g c = record {
  payloads = [];
  so_far = has_read_none (g.D.Disk.state c.args.disk.now) c.args.records c.requires.begins;
  read = record { tells = c.in_ok-contents.ensures.tells; in_time = c.in_ok-contents.ensures.in_time };
  taken = c.in_ok-chains.ensures.value;
}

pub read_next-requires : goal.read_next-requires
read_next-requires g c =
    let before = c.records.invariant in
    record { room = omega (arith, few_txns before.payloads, before.read.tells.count, before.so_far.few, before.so_far.within) }

pub records-preserved : goal.records-preserved
records-preserved g c =
    let S = g.D.Disk.state in
    let found : c.in_ok-advance.field-0 ≡ true = c.if-branch.true in
    let reads = rw found at c.in_ok-advance.ensures.value in
    let moves = rw found at c.in_ok-advance.ensures.moves in
    let h = c.if-not-follows.false in
    let follows : c.in_ok-follows.follows ≡ true = grind (arith, h) in
    let before = c.records.invariant in
    let payload = c.advance.new.self.reading.payload in
    record {
      payloads = before.payloads ++ payload ∷ [];
      so_far = has_read_more (S c.args.disk.now) (S c.records.disk) (S c.advance.new.disk) c.args.records c.records.records c.advance.new.self before.payloads before.so_far reads c.advance.ensures.seen c.advance.ensures.same c.advance.ensures.frame c.in_ok-advance.ensures.counted moves;
      read = subst (λ (p : List ℕ). IsRead c.args.header.now (before.payloads ++ p ∷ []) c.read_next.new.contents) c.payload.ensures.value (c.in_ok-follows.ensures.value follows c.args.header.now before.payloads before.read);
      taken = subst (λ (p : List ℕ). HaveTaken c.args.header.now (before.payloads ++ p ∷ []) c.take_next.new.chains) c.payload-in-records.ensures.value (c.in_ok-take_next.ensures.value c.args.header.now before.payloads before.taken);
    }

pub file-requires : goal.file-requires
file-requires g c =
    let done : c.in_ok-advance.field-0 ≡ false = c.if-branch.false in
    let moves = rw done at c.in_ok-advance.ensures.moves in
    record { within = moves.within c.records.invariant.so_far.within }

pub returns-clause-value : goal.returns-clause-value
returns-clause-value g c =
    let S = g.D.Disk.state in
    let w = c.advance.new.self in
    let before = c.records.invariant in
    let done : c.in_ok-advance.field-0 ≡ false = c.if-branch.false in
    let reads = rw done at c.in_ok-advance.ensures.value in
    let all = all_collected (S c.args.disk.now) (S c.records.disk) c.args.records c.records.records w _ before.so_far.collecting reads in
    let same = c.advance.ensures.same.reads ∙ before.so_far.collecting.same.reads in
    replays (S c.args.disk.now).reads (S c.advance.new.disk).reads c.args.records w before.payloads c.args.header.now c.records.contents c.records.chains c.in_ok-file.file same before.read before.taken c.in_ok-file.ensures.value all

pub take_next-requires : goal.take_next-requires
take_next-requires g c =
    let found : c.in_ok-advance.field-0 ≡ true = c.if-branch.true in
    let moves = rw found at c.in_ok-advance.ensures.moves in
    rw c.payload-in-records.ensures.value (record { fits = moves.fits })

pub returns-clause-chained : goal.returns-clause-chained
returns-clause-chained g c =
    let before = c.records.invariant in
    chains_reached c.args.header.now before.payloads c.records.chains c.records.contents.eras c.records.contents.last before.taken before.read.tells.eras before.read.tells.last

pub invariant_of-result : goal.invariant_of-result
invariant_of-result g c =
    let before = c.records.invariant in
    let done : c.in_ok-advance.field-0 ≡ false = c.if-branch.false in
    let moves = rw done at c.in_ok-advance.ensures.moves in
    record {
      few = omega (arith, few_txns before.payloads, before.read.tells.count, before.so_far.few, moves.on, c.in_ok-file.ensures.end);
      in_time = before.read.in_time;
      fresh = c.in_ok-file.ensures.fresh;
    }
