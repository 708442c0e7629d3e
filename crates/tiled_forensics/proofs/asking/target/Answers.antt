use Rattle.std.proofs.Common.{◌≡◌, ℕ, suc, ◌+◌, ◌*◌, ◌%◌, ◌^◌, ◌<◌, List, Some, None, refl, Ok, Err, arith, ◌∙◌, sym, ap}
use Rattle.std.specs.Int.{from_bool}
use Rattle.std.proofs.lemmas.Bool.{false≢true}
use Rattle.std.proofs.lemmas.Result.{err_from_is_err_and}
use Rattle.outside_words.proofs.Told.{told_same, told_map}
use Rattle.notary_link.proofs.Frame.{goes_on_same, goes_on_then}
use Rattle.notary_link.specs.Batches.{Batch}
use Rattle.notary_link.specs.Notary.{Lists}
use Rattle.notary_link.specs.declared.fail.AskFail.TheVariants.{NotSealedSo}
use Rattle.digest_model.specs.Layout.{layout, exponent, whole}
use Rattle.audit_model.specs.Asked.{IsTold}
use Rattle.tiled_forensics.specs.Asking.{part_told}
use Rattle.tiled_forensics.specs.Target.{parts, tile_told}
use Rattle.notary_link.proofs.Reading.{reads_then}
use Rattle.notary_link.proofs.Unchanged.{unchanged_then}
use Rattle.tiled_forensics.proofs.Bits.{IsSoFar, whole_same, whole_stops, begins, chain_stops, goes_on, ends, shifted, small_more, bit_at_most, of_tile}
use Rattle.tiled_forensics.proofs.Fails.{not_unsealed}
use Rattle.tiled_forensics.proofs.asking.target.Goals as goal

-- ---- a tile without chains

pub returns-then-not-has_tile_chains-clause-value : goal.returns-then-not-has_tile_chains-clause-value
returns-then-not-has_tile_chains-clause-value g c =
    let none = sym (c.has_tile_chains.ensures) ∙ c.if-not-has_tile_chains.true in
    told_same _ _ (λ (before after : Lists). IsTold (tile_told (before.batches c.args.id) c.args.plan.now.history c.args.tile) (Err NotSealedSo)) refl (λ lists. rw none refl)

pub returns-then-not-has_tile_chains-clause-sealed_so : goal.returns-then-not-has_tile_chains-clause-sealed_so
returns-then-not-has_tile_chains-clause-sealed_so g c = (λ _. sym (c.has_tile_chains.ensures) ∙ c.if-not-has_tile_chains.true, λ _. refl)

pub returns-then-not-has_tile_chains-clause-frame : goal.returns-then-not-has_tile_chains-clause-frame
returns-then-not-has_tile_chains-clause-frame g c = goes_on_same _

-- ---- the whole of a tile

pub part_is_same-requires-clause-chains : goal.part_is_same-requires-clause-chains
part_is_same-requires-clause-chains g c = sym (c.has_tile_chains.ensures) ∙ c.if-not-has_tile_chains.false

pub returns-in_err-part_is_same-clause-value : goal.returns-in_err-part_is_same-clause-value
returns-in_err-part_is_same-clause-value g c =
    let has = sym (c.has_tile_chains.ensures) ∙ c.if-not-has_tile_chains.false in
    let h = c.args.plan.now.history in
    let fail = c.in_err-part_is_same.field-0.0 in
    let p = err_from_is_err_and c.from_residual.result c.from_residual.ensures.1 in
    rw (p.1, p.2) (told_map _ _ _ _ c.in_err-part_is_same.ensures.value (λ (before after : Lists) told.
    of_tile (before.batches c.args.id) h c.args.tile (Err fail) has (whole_stops (parts (before.batches c.args.id) h c.args.tile) (exponent (layout h) c.args.tile) c.args.tile fail told)))

pub returns-in_err-part_is_same-clause-sealed_so : goal.returns-in_err-part_is_same-clause-sealed_so
returns-in_err-part_is_same-clause-sealed_so g c =
    let has = sym (c.has_tile_chains.ensures) ∙ c.if-not-has_tile_chains.false in
    let never = not_unsealed c.args.tile whole c.in_err-part_is_same.field-0.0 c.in_err-part_is_same.ensures.only in
    let p = err_from_is_err_and c.from_residual.result c.from_residual.ensures.1 in
    rw (p.1, p.2) (λ no. absurd (never (cc)), λ none. absurd (false≢true (sym none ∙ has)))

pub returns-then-branch-clause-value : goal.returns-then-branch-clause-value
returns-then-branch-clause-value g c =
    let has = sym (c.has_tile_chains.ensures) ∙ c.if-not-has_tile_chains.false in
    let h = c.args.plan.now.history in
    let same = c.if-branch.true in
    told_map _ _ _ _ (rw same at c.in_ok-part_is_same.ensures.value) (λ (before after : Lists) told.
    of_tile (before.batches c.args.id) h c.args.tile (Ok None) has (whole_same (parts (before.batches c.args.id) h c.args.tile) (exponent (layout h) c.args.tile) c.args.tile told))

pub returns-then-branch-clause-sealed_so : goal.returns-then-branch-clause-sealed_so
returns-then-branch-clause-sealed_so g c =
    let has = sym (c.has_tile_chains.ensures) ∙ c.if-not-has_tile_chains.false in
    (λ no. absurd cc, λ none. absurd (false≢true (sym none ∙ has)))

-- ---- the chains

pub loop-bit-init : goal.loop-bit-init
loop-bit-init g c =
    let h = c.args.plan.now.history in
    let asked = c.in_ok-part_is_same.ensures in
    let differs = c.if-branch.false in
    record {
      chains = sym (c.has_tile_chains.ensures) ∙ c.if-not-has_tile_chains.false;
      size = c.chain_count-bit-end.ensures.value;
      few_bits = c.chain_count-bit-end.ensures.few;
      small = omega arith;
      told = told_map _ _ _ _ (rw differs at asked.value) (λ (before after : Lists) told. begins (parts (before.batches c.args.id) h c.args.tile) (exponent (layout h) c.args.tile) c.args.tile told);
      same = asked.same;
      few = omega (arith, asked.asked);
      frame = asked.frame;
      counted = asked.counted;
    }

pub returns-in_err-same-clause-value : goal.returns-in_err-same-clause-value
returns-in_err-same-clause-value g c =
    let S = g.N.Notary.state in
    let h = c.args.plan.now.history in
    let at = λ (batches : List Batch). parts batches h c.args.tile in
    let on = c.loop-bit.invariant in
    let bit = c.loop-bit.bit in
    let fail = c.in_err-same.field-0.0 in
    let asked = c.in_err-same.ensures in
    let below : bit < exponent (layout h) c.args.tile = omega (arith, c.loop-bit-test.true, on.size) in
    let p = err_from_is_err_and c.from_residual-in_err-same.result c.from_residual-in_err-same.ensures.1 in
    rw (p.1, p.2) (reads_then c.args.id
    (λ (batches : List Batch). IsSoFar (at batches) bit c.loop-bit.target)
    (λ (batches : List Batch). IsTold (part_told (at batches bit) c.args.tile bit) (Err fail))
    (λ (batches : List Batch). IsTold (tile_told batches h c.args.tile) (Err fail))
    (S c.args.notary.now) (S c.loop-bit.notary) (S c.part_is_same-in-loop-bit.new.notary)
    (record { told = on.told; same = on.same; frame = on.frame })
    (record { told = asked.value; same = asked.same; frame = asked.frame })
    (λ batches one two. of_tile batches h c.args.tile (Err fail) on.chains (chain_stops (at batches) (exponent (layout h) c.args.tile) c.args.tile bit c.loop-bit.target fail below one two))).told

pub loop-bit-preserved : goal.loop-bit-preserved
loop-bit-preserved g c =
    let S = g.N.Notary.state in
    let h = c.args.plan.now.history in
    let at = λ (batches : List Batch). parts batches h c.args.tile in
    let on = c.loop-bit.invariant in
    let bit = c.loop-bit.bit in
    let same = c.in_ok-same.same in
    let asked = c.in_ok-same.ensures in
    let next : c.loop-bit.bit + 1 ≡ suc c.loop-bit.bit = omega arith in
    let is : c.loop-bit.target + c.from.result * 2 ^ c.loop-bit.bit % 65536 ≡ c.loop-bit.target + from_bool c.in_ok-same.same * 2 ^ c.loop-bit.bit =
    ap (λ (x : ℕ). c.loop-bit.target + x * 2 ^ c.loop-bit.bit % 65536) c.from.ensures ∙ ap (λ (x : ℕ). c.loop-bit.target + x) (shifted bit same (omega (arith, c.loop-bit-test.true, on.few_bits))) in
    let both = reads_then c.args.id
    (λ (batches : List Batch). IsSoFar (at batches) bit c.loop-bit.target)
    (λ (batches : List Batch). IsTold (part_told (at batches bit) c.args.tile bit) (Ok same))
    (λ (batches : List Batch). IsSoFar (at batches) (bit + 1) (c.loop-bit.target + c.from.result * 2 ^ c.loop-bit.bit % 65536))
    (S c.args.notary.now) (S c.loop-bit.notary) (S c.part_is_same-in-loop-bit.new.notary)
    (record { told = on.told; same = on.same; frame = on.frame })
    (record { told = asked.value; same = asked.same; frame = asked.frame })
    (λ batches one two. goes_on (at batches) (exponent (layout h) c.args.tile) c.args.tile bit (bit + 1) c.loop-bit.target (c.loop-bit.target + c.from.result * 2 ^ c.loop-bit.bit % 65536) same next is one two) in
    record {
      chains = on.chains;
      size = on.size;
      few_bits = on.few_bits;
      small = (let more = small_more bit c.loop-bit.target (from_bool same) (bit_at_most same) on.small in omega (arith, is, more));
      told = both.told;
      same = both.same;
      few = omega (arith, on.few, asked.asked);
      frame = both.frame;
      counted = λ shows. asked.counted (on.frame.shows ∙ shows) ∙ on.counted shows;
    }

pub returns-clause-value : goal.returns-clause-value
returns-clause-value g c =
    let h = c.args.plan.now.history in
    let on = c.loop-bit.invariant in
    let all : c.loop-bit.bit ≡ exponent (layout h) c.args.tile = omega (arith, c.loop-bit-test.false, on.size) in
    told_map _ _ _ _ on.told (λ (before after : Lists) so_far.
    of_tile (before.batches c.args.id) h c.args.tile (Ok (Some c.loop-bit.target)) on.chains
    (ends (parts (before.batches c.args.id) h c.args.tile) (exponent (layout h) c.args.tile) c.args.tile c.loop-bit.bit c.loop-bit.target all so_far))

-- ---- what stays behind a chain that was not told

pub returns-in_err-same-clause-same : goal.returns-in_err-same-clause-same
returns-in_err-same-clause-same g c = unchanged_then _ _ _ c.loop-bit.invariant.frame c.in_err-same.ensures.frame c.loop-bit.invariant.same c.in_err-same.ensures.same

pub returns-in_err-same-clause-frame : goal.returns-in_err-same-clause-frame
returns-in_err-same-clause-frame g c = goes_on_then _ _ _ c.loop-bit.invariant.frame c.in_err-same.ensures.frame

pub returns-in_err-same-clause-counted : goal.returns-in_err-same-clause-counted
returns-in_err-same-clause-counted g c =
    let p = err_from_is_err_and c.from_residual-in_err-same.result c.from_residual-in_err-same.ensures.1 in
    rw (p.1, p.2) (λ shows none. c.in_err-same.ensures.counted (c.loop-bit.invariant.frame.shows ∙ shows) none ∙ c.loop-bit.invariant.counted shows)
