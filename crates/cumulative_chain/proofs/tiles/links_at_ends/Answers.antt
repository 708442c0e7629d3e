use Rattle.std.proofs.Common.{◌≡◌, ℕ, zero, suc, ◌+◌, ◌-◌, ◌<◌, ◌≤◌, List, [], ◌∷◌, ◌++◌, length, take, map, sym, ap, subst, ◌∙◌, arith}
use Rattle.std.specs.Prelude.{slice_index, slice_index_or}
use Rattle.std.proofs.lemmas.List.{take_more, map-append}
use Rattle.digest_model.specs.Digests.{seed, link_of_spelled}
use Rattle.cumulative_chain.specs.Tiles.{Granule, Ascend, end_before, last_end, link_below, front, spelled_below, IsSplit}
use Rattle.cumulative_chain.proofs.Fronts.{front_none, split_front, below_grows}
use Rattle.cumulative_chain.proofs.tiles.links_at_ends.Goals as goal

begins : (ends : List ℕ) → end_before ends 0 ≡ 0
unfolding end_before
begins ends = omega arith

next_end : (ends : List ℕ) (i : ℕ) → end_before ends (i + 1) ≡ slice_index ends i
unfolding end_before
next_end ends i = (let next : i + 1 ≡ suc i = omega arith in rw next (omega arith))

-- the granules go on behind those before
rises : (ends : List ℕ) → Ascend ends → (i : ℕ) → i < length ends → end_before ends i ≤ slice_index ends i
unfolding end_before
rises ends ascend zero below = omega arith
rises ends ascend (suc i) below = ascend i (suc i) (omega arith) below

-- and end with the last
below_last : (ends : List ℕ) → Ascend ends → (i : ℕ) → i < length ends → slice_index ends i ≤ last_end ends
below_last ends ascend i below = ascend i (length ends - 1) (omega (arith, below)) (omega (arith, below))

last : (ends : List ℕ) (i : ℕ) → i ≡ length ends → end_before ends i ≡ last_end ends
unfolding end_before
last [] zero is = omega arith
last (e ∷ es) zero is = absurd (omega (arith, is))
last ends (suc i) is = (let place : length ends - 1 ≡ i = omega (arith, is) in rw place (omega arith))

moved : (xs gs : List Granule) (ends : List ℕ) (p i : ℕ) → xs ≡ gs → IsSplit xs p (slice_index ends i) → IsSplit gs p (end_before ends (i + 1))
moved xs gs ends p i same s = subst (λ (m : ℕ). IsSplit gs p m) (sym (next_end ends i)) (subst (λ (x : List Granule). IsSplit x p (slice_index ends i)) same s)

pub loop-end-init : goal.loop-end-init
loop-end-init g c =
    let none = begins c.args.ends.now in
    record {
      links = c.in_ok-links.ensures.items;
      value = c.seed-value.ensures.value ∙ ap (link_of_spelled c.args.header.now) (sym (front_none c.args.granules.now));
      split = record { within = omega arith; below = λ i h. absurd (omega arith); stop = λ h. omega (arith, none) };
      steps = (let empty = ap length (front_none c.args.granules.now) in omega (arith, empty));
    }

pub link_below-place-requires-clause-below : goal.link_below-place-requires-clause-below
link_below-place-requires-clause-below g c i below =
    let before = c.loop-end.invariant.split.below i below in
    let slice = ap (λ (x : List Granule). (slice_index_or x i (0, [])).0) c.as_slice.ensures.value in
    let up = rises c.args.ends.now c.requires.ends c.loop-end.end-index (omega arith) in
    omega (arith, before, slice, up)

pub returns-in_err-push-clause-few : goal.returns-in_err-push-clause-few
returns-in_err-push-clause-few g c =
    let gs = c.args.granules.now in
    let ends = c.args.ends.now in
    let i = c.loop-end.end-index in
    let p = c.link_below-place.result in
    let s = moved c.as_slice.result.now gs ends p i c.as_slice.ensures.value c.link_below-place.ensures.split in
    let end = next_end ends i in
    let long = ap length (split_front gs p (end_before ends (i + 1)) c.requires.ascend s) in
    let up = below_last ends c.requires.ends i (omega arith) in
    let more = below_grows gs (end_before ends (i + 1)) (last_end ends) (omega (arith, end, up)) in
    let before = ap (λ (x : List Granule). length (front x c.loop-end.place)) c.as_slice.ensures.value in
    let after = ap (λ (x : List Granule). length (front x c.link_below-place.result)) c.as_slice.ensures.value in
    omega (arith, long, more, before, after, c.link_below-place.ensures.steps, c.loop-end.invariant.steps)

pub loop-end-preserved : goal.loop-end-preserved
loop-end-preserved g c =
    let h = c.args.header.now in
    let gs = c.args.granules.now in
    let ends = c.args.ends.now in
    let i = c.loop-end.end-index in
    let p = c.link_below-place.result in
    let s = moved c.as_slice.result.now gs ends p i c.as_slice.ensures.value c.link_below-place.ensures.split in
    let value = c.link_below-place.ensures.value (seed h) (c.loop-end.invariant.value ∙ ap (λ (x : List Granule). link_of_spelled h (front x c.loop-end.place)) (sym c.as_slice.ensures.value))
    ∙ ap (λ (x : List Granule). link_of_spelled h (front x p)) c.as_slice.ensures.value in
    let here = value ∙ ap (link_of_spelled h) (sym (split_front gs p (end_before ends (i + 1)) c.requires.ascend s)) ∙ ap (link_below h gs) (next_end ends i) in
    let before = ap (λ (x : List Granule). length (front x c.loop-end.place)) c.as_slice.ensures.value in
    let after = ap (λ (x : List Granule). length (front x c.link_below-place.result)) c.as_slice.ensures.value in
    record {
      links = c.in_ok-push.ensures.items
          ∙ ap (λ (x : List (List ℕ)). x ++ c.link_below-place.new.value ∷ []) c.loop-end.invariant.links
          ∙ ap (λ (v : List ℕ). map (link_below h gs) (take i ends) ++ v ∷ []) here
          ∙ sym (ap (map (link_below h gs)) (take_more ends i 0 (omega arith)) ∙ map-append (link_below h gs) (take i ends) (slice_index ends i ∷ []));
      value = value;
      split = s;
      steps = omega (arith, before, after, c.link_below-place.ensures.steps, c.loop-end.invariant.steps);
    }

pub returns-clause-steps : goal.returns-clause-steps
returns-clause-steps g c =
    let ends = c.args.ends.now in
    let gs = c.args.granules.now in
    let all : c.loop-end.end-index ≡ length c.args.ends.now = omega arith in
    let s = split_front gs c.loop-end.place (end_before ends c.loop-end.end-index) c.requires.ascend c.loop-end.invariant.split in
    let long = ap length (ap (spelled_below gs) (sym (last ends c.loop-end.end-index all)) ∙ s) in
    omega (arith, long, c.loop-end.invariant.steps)

pub returns-clause-few : goal.returns-clause-few
returns-clause-few g c = (let all = returns-clause-steps g c in omega (arith, all))
