use Rattle.std.proofs.Common.{◌≡◌, true, false, List, ℕ, [], ◌∷◌, ◌++◌, length, ap, ◌∙◌, subst, arith}
use Rattle.tuple_bytes.specs.declared.item.Txn.{Txn}
use Rattle.history_model.specs.Stored.{items_of}
use Rattle.disk_words.proofs.Frame.{goes_on_same}
use Rattle.segment_file.proofs.Collecting.{all_collected}
use Rattle.store_engine.specs.Taking.{HaveTaken}
use Rattle.store_engine.specs.Replay.{IsRead, IsGathered}
use Rattle.store_engine.proofs.Telling.{few_txns}
use Rattle.store_engine.proofs.Taken.{chains_reached}
use Rattle.store_engine.proofs.Replaying.{has_read_none, has_read_more, replays}
use Rattle.store_engine.proofs.opening.read_in_order_of_moments.Goals as goal

pub returns-in_err-chains-clause-frame : goal.returns-in_err-chains-clause-frame
returns-in_err-chains-clause-frame g c = goes_on_same _

pub returns-in_err-gathered-clause-frame : goal.returns-in_err-gathered-clause-frame
returns-in_err-gathered-clause-frame g c = goes_on_same _

pub records-init : goal.records-init
records-init g c = record {
  payloads = [];
  so_far = has_read_none (g.D.Disk.state c.args.disk.now) c.args.records c.requires.begins;
  gathered = c.in_ok-gathered.ensures.value;
  taken = c.in_ok-chains.ensures.value;
}

pub take_next-requires : goal.take_next-requires
take_next-requires g c =
    let found : c.in_ok-advance.field-0 ≡ true = c.if-branch.true in
    let moves = rw found at c.in_ok-advance.ensures.moves in
    rw c.payload-payload.ensures.value (record { fits = moves.fits })

pub records-preserved : goal.records-preserved
records-preserved g c =
    let S = g.D.Disk.state in
    let found : c.in_ok-advance.field-0 ≡ true = c.if-branch.true in
    let reads = rw found at c.in_ok-advance.ensures.value in
    let moves = rw found at c.in_ok-advance.ensures.moves in
    let before = c.records.invariant in
    let payload = c.advance.new.self.reading.payload in
    record {
      payloads = before.payloads ++ payload ∷ [];
      so_far = has_read_more (S c.args.disk.now) (S c.records.disk) (S c.advance.new.disk) c.args.records c.records.records c.advance.new.self before.payloads before.so_far reads c.advance.ensures.seen c.advance.ensures.same c.advance.ensures.frame c.in_ok-advance.ensures.counted moves;
      gathered = subst (λ (p : List ℕ). IsGathered c.args.header.now c.add.new.self (items_of (before.payloads ++ p ∷ []))) c.payload-payload.ensures.value (c.in_ok-add.ensures.value c.args.header.now before.payloads before.gathered);
      taken = subst (λ (p : List ℕ). HaveTaken c.args.header.now (before.payloads ++ p ∷ []) c.take_next.new.chains) c.payload-payload.ensures.value (c.in_ok-take_next.ensures.value c.args.header.now before.payloads before.taken);
    }

pub in_order_of_moments-requires : goal.in_order_of_moments-requires
in_order_of_moments-requires g c =
    let before = c.records.invariant in
    let many = ap (λ (ts : List Txn). length ts) before.gathered.txns_are in
    record { few = omega (arith, few_txns before.payloads, many, before.so_far.few, before.so_far.within) }

pub file-requires : goal.file-requires
file-requires g c =
    let done : c.in_ok-advance.field-0 ≡ false = c.if-branch.false in
    let moves = rw done at c.in_ok-advance.ensures.moves in
    record { within = moves.within c.records.invariant.so_far.within }

pub returns-clause-value : goal.returns-clause-value
returns-clause-value g c =
    let S = g.D.Disk.state in
    let w = c.advance.new.self in
    let before = c.records.invariant in
    let done : c.in_ok-advance.field-0 ≡ false = c.if-branch.false in
    let reads = rw done at c.in_ok-advance.ensures.value in
    let all = all_collected (S c.args.disk.now) (S c.records.disk) c.args.records c.records.records w _ before.so_far.collecting reads in
    let same = c.advance.ensures.same.reads ∙ before.so_far.collecting.same.reads in
    let read : IsRead c.args.header.now before.payloads c.in_ok-contents.contents = c.in_ok-contents.ensures.value c.args.header.now before.payloads before.gathered in
    replays (S c.args.disk.now).reads (S c.advance.new.disk).reads c.args.records w before.payloads c.args.header.now c.in_ok-contents.contents c.records.chains c.in_ok-file.file same read before.taken c.in_ok-file.ensures.value all

pub returns-clause-chained : goal.returns-clause-chained
returns-clause-chained g c =
    let before = c.records.invariant in
    let read : IsRead c.args.header.now before.payloads c.in_ok-contents.contents = c.in_ok-contents.ensures.value c.args.header.now before.payloads before.gathered in
    chains_reached c.args.header.now before.payloads c.records.chains c.in_ok-contents.contents.eras c.in_ok-contents.contents.last before.taken read.tells.eras read.tells.last

pub invariant_of-result : goal.invariant_of-result
invariant_of-result g c =
    let before = c.records.invariant in
    let done : c.in_ok-advance.field-0 ≡ false = c.if-branch.false in
    let moves = rw done at c.in_ok-advance.ensures.moves in
    let read : IsRead c.args.header.now before.payloads c.in_ok-contents.contents = c.in_ok-contents.ensures.value c.args.header.now before.payloads before.gathered in
    record {
      few = omega (arith, few_txns before.payloads, read.tells.count, before.so_far.few, moves.on, c.in_ok-file.ensures.end);
      in_time = read.in_time;
      fresh = c.in_ok-file.ensures.fresh;
    }
