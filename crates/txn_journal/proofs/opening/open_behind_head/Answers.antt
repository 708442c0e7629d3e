use Rattle.std.proofs.Common.{◌≡◌, true, false, List, ℕ, [], ◌∷◌, ◌++◌, Some, length, length-append, ap, sym, subst, ◌∙◌, arith}
use Rattle.std.specs.List.{All}
use Rattle.std.proofs.lemmas.List.Elements.{All-push}
use Rattle.std.specs.Prelude.{◌==◌, slice_index}
use Rattle.byte_grammar.specs.Gated.{FitsRecord, open_gate}
use Rattle.txn_journal.specs.Reading.{ahead}
use Rattle.txn_journal.specs.Held.{Standing}
use Rattle.txn_journal.proofs.Gathering.{starts, one_more, all_gathered, stands}
use Rattle.txn_journal.proofs.opening.open_behind_head.Goals as goal

pub records-init : goal.records-init
records-init g c = rw c.new-payloads.ensures.value (record {
  gathering = starts (λ (p : List ℕ). Some p) g.S.Shape.shape (g.D.Disk.state c.args.disk.now) c.args.records c.requires.begins.limit;
  fit = λ k d none. absurd (omega arith);
  few = omega (arith, c.requires.begins.place);
  within = omega (arith, c.requires.begins.place);
})

pub records-preserved : goal.records-preserved
records-preserved g c =
    let S = g.D.Disk.state in
    let found : c.in_ok-advance.field-0 ≡ true = c.if-branch.true in
    let reads = rw found at c.in_ok-advance.ensures.value in
    let moves = rw found at c.in_ok-advance.ensures.moves in
    let kept : c.keep.new.payloads ≡ c.records.payloads ++ c.advance.new.self.payload ∷ [] = c.in_ok-keep.ensures.ok ∙ ap (λ (p : List ℕ). c.records.payloads ++ p ∷ []) c.payload.ensures.value in
    record {
      gathering = one_more (λ (p : List ℕ). Some p) g.S.Shape.shape (S c.args.disk.now) (S c.records.disk) (S c.advance.new.disk) c.args.records c.records.records c.advance.new.self c.records.payloads c.keep.new.payloads c.records.invariant.gathering reads c.advance.ensures.seen c.advance.ensures.limit c.advance.ensures.same c.advance.ensures.frame c.in_ok-advance.ensures.counted kept;
      fit = subst (λ (ps : List (List ℕ)). All (FitsRecord g.S.Shape.shape) ps) (sym kept) (All-push (FitsRecord g.S.Shape.shape) c.records.payloads c.advance.new.self.payload c.records.invariant.fit moves.fits);
      few = omega (arith, ap (λ (ps : List (List ℕ)). length ps) kept, length-append c.records.payloads (c.advance.new.self.payload ∷ []), moves.place, c.records.invariant.few);
      within = omega (arith, moves.within, c.records.invariant.gathering.limit);
    }

pub returns-clause-value : goal.returns-clause-value
returns-clause-value g c =
    let S = g.D.Disk.state in
    let s = c.advance.new.self in
    let done : c.in_ok-advance.field-0 ≡ false = c.if-branch.false in
    let reads = rw done at c.in_ok-advance.ensures.value in
    let place = rw done at c.in_ok-advance.ensures.moves in
    let all = all_gathered (λ (p : List ℕ). Some p) g.S.Shape.shape (S c.args.disk.now) (S c.records.disk) c.args.records c.records.records s c.records.payloads c.records.invariant.gathering c.requires.begins.place reads place c.advance.ensures.limit in
    let end : c.journal.result.end ≡ s.place = ap (λ (at : Standing). at.end) c.journal.ensures.value in
    let gate : c.journal.result.gate_is_open ≡ (slice_index (ahead s) 0 == open_gate) = ap (λ (at : Standing). at.gate_is_open) c.journal.ensures.value in
    stands g.S.Shape.is_head g.S.Shape.shape (S c.args.disk.now).reads c.args.records s c.args.head c.records.payloads c.journal.result end gate all
