-- Which lines of an input were read, by what its reader has given out.
use Rattle.std.proofs.Common.{◌≡◌, ◌<◌, ◌≤◌, ◌+◌, ◌-◌, ℕ, true, false, List, [], ◌∷◌, ◌++◌, length, take, drop, sym, ap, ◌∙◌, arith, length-append, inr, ⊎_elim}
use Rattle.std.proofs.lemmas.List.{append-nil, length-take, take_all}
use Rattle.std.proofs.Math.Seq.{take-append_seam, drop-append_seam}
use Rattle.line_input.specs.Limits.{input_limit, piece_limit}
use Rattle.line_input.specs.Lines.{IsFeedless, lines_of, complete_lines, joined}
use Rattle.line_input.specs.Reader.{Reading, IsAtLimit}
use Rattle.line_input.specs.Giving.{IsFront, IsAll, HasGiven}
use Rattle.line_input.specs.Front.{taken_of, AreFirst, AreAll, AreComplete, AreWithinLimit, TakesLittle, TakesFront}
use Rattle.line_input.proofs.Splits.{complete_joined}
use Rattle.line_input.proofs.Giving.{joined_more, lines_joined, lines_long, given_all}

left_none : (xs ys : List ℕ) → xs ++ ys ≡ [] → ys ≡ []
left_none [] ys e = e
left_none (x ∷ xs) ys e = absurd (cc e)

short_take : (n : ℕ) (xs : List ℕ) → length (take n xs) ≤ length xs
short_take n xs = omega (arith, length-take n xs)

front_of : (xs all left : List ℕ) → all ≡ xs ++ left → left ≡ drop (length all - length left) all
front_of xs all left e =
    let n : length all - length left ≡ length xs = omega (arith, ap length e, length-append xs left) in
    rw n (sym (ap (drop (length xs)) e ∙ drop-append_seam xs left))

module _ (input : List ℕ) (lines : List (List ℕ)) (r : Reading) (left : List ℕ) (so_far : HasGiven input lines r left) where
  pub first_given : AreFirst lines input
  first_given = ⊎_elim
      (λ (front : IsFront input lines r left).
      let whole : lines_of input ≡ lines ++ lines_of (r.pending ++ left) = ap lines_of front.split ∙ lines_joined lines (r.pending ++ left) front.feedless in
      sym (ap (take (length lines)) whole ∙ take-append_seam lines (lines_of (r.pending ++ left))))
      (λ (all : IsAll input lines r left). all.all ∙ sym (take_all (length lines) (lines_of input) (omega (arith, ap length all.all))))
      so_far.given

  pub front_given : r.taken ≤ input_limit → TakesFront input left
  front_given within = record {
    within = omega (arith, so_far.counted, within);
    front = ⊎_elim
        (λ (front : IsFront input lines r left). front_of (joined lines r.pending) input left (front.split ∙ joined_more lines r.pending left))
        (λ (all : IsAll input lines r left).
        let none : left ≡ [] = left_none r.pending left all.none in
        front_of input input left (sym (ap (λ (x : List ℕ). input ++ x) none ∙ append-nil input)))
        so_far.given;
  }

  -- what was taken
  taken_is : IsFront input lines r left → taken_of input left ≡ joined lines r.pending
  taken_is front =
      let e : input ≡ joined lines r.pending ++ left = front.split ∙ joined_more lines r.pending left in
      let n : length input - length left ≡ length (joined lines r.pending) = omega (arith, ap length e, length-append (joined lines r.pending) left) in
      ap (λ (k : ℕ). take k input) n ∙ ap (take (length (joined lines r.pending))) e ∙ take-append_seam (joined lines r.pending) left

  complete_of : IsFeedless r.pending → IsFront input lines r left → AreComplete lines input left
  complete_of feedless front = sym (ap complete_lines (taken_is front) ∙ complete_joined lines r.pending front.feedless feedless)

  all_taken : lines ≡ lines_of input → length (taken_of input left) < length (joined lines []) + piece_limit
  all_taken all =
      let taken : length (taken_of input left) ≤ length input = short_take (length input - length left) input in
      omega (arith, taken, lines_long input, ap (λ (ls : List (List ℕ)). length (joined ls [])) all)

  -- less than a piece beyond the lines
  pub little_given : length r.pending < piece_limit → TakesLittle lines input left
  little_given less = ⊎_elim
      (λ (front : IsFront input lines r left).
      let taken : length (taken_of input left) ≡ length (joined lines r.pending) = ap length (taken_is front) in
      let parts : length (joined lines r.pending) ≡ length (joined lines [] ++ r.pending) = ap length (joined_more lines [] r.pending) in
      let more : length (taken_of input left) < length (joined lines []) + piece_limit = omega (arith, taken, parts, length-append (joined lines []) r.pending, less) in
      inr more)
      (λ (all : IsAll input lines r left). inr (all_taken all.all))
      so_far.given

  -- where a read failed, and the end was not seen
  pub complete_given : IsFeedless r.pending → r.is_ended ≡ false → AreComplete lines input left
  complete_given feedless before = ⊎_elim
      (λ (front : IsFront input lines r left). complete_of feedless front)
      (λ (all : IsAll input lines r left). let both : true ≡ false = sym all.ended ∙ before in absurd (cc both))
      so_far.given

  -- at the limit
  pub within_given : IsAtLimit r → AreWithinLimit lines input left
  within_given at = (
    ⊎_elim
        (λ (front : IsFront input lines r left). complete_of at.feedless front)
        (λ (all : IsAll input lines r left). let below = all.below in let full = at.full in absurd (omega (arith, below, full)))
        so_far.given,
    (let full = at.full in omega (arith, so_far.counted, full)),
  )

  -- at the end
  pub end_given : r.pending ++ left ≡ [] → r.taken < input_limit → AreAll lines input left
  end_given none below = let all = given_all input lines r left so_far none below in (all.0, left_none r.pending left none, all.1)
