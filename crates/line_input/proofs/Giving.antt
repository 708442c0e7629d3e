-- What was given out, from call to call, of a whole input.
use Rattle.std.proofs.Common.{◌≡◌, ◌<◌, ◌≤◌, ◌+◌, ℕ, Bool, true, false, List, [], ◌∷◌, ◌++◌, Option, Some, None, length, take, refl, sym, ap, ◌∙◌, append_assoc, arith, length-append, inl, inr}
use Rattle.std.specs.Prelude.{◌⊎◌, Ok, Err}
use Rattle.std.specs.List.{All}
use Rattle.std.proofs.lemmas.List.{append-nil}
use Rattle.std.proofs.lemmas.List.Elements.{All-nil, All-push, All-head, All-tail}
use Rattle.std.proofs.Math.Seq.{take-append_seam}
use Rattle.outside_words.specs.Told.{WhereTold, TellsAlike}
use Rattle.outside_words.proofs.Told.{told_then}
use Rattle.outside_io.specs.Source.{State}
use Rattle.line_input.specs.declared.fail.InputFail.{InputFail}
use Rattle.line_input.specs.Limits.{input_limit}
use Rattle.line_input.specs.Lines.{feed, IsFeedless, lines_of, complete_lines, unended, where_any, joined}
use Rattle.line_input.specs.Reader.{Reading, Gives, IsLastLine, IsAtLimit, Tells, Takes, SeesEnd}
use Rattle.line_input.specs.Giving.{IsFront, IsAll, HasGiven}
use Rattle.line_input.proofs.Lines.{lines_first, lines_none}
use Rattle.line_input.proofs.Splits.{complete_joined, is_split}

-- a line more, before what stands behind the last feed
joined_push : (lines : List (List ℕ)) (line rest : List ℕ) → joined (lines ++ line ∷ []) rest ≡ joined lines (line ++ feed ∷ rest)
joined_push [] line rest = refl
joined_push (l ∷ lines) line rest = ap (λ (x : List ℕ). l ++ feed ∷ x) (joined_push lines line rest)

-- more behind the last feed
pub joined_more : (lines : List (List ℕ)) (rest more : List ℕ) → joined lines (rest ++ more) ≡ joined lines rest ++ more
joined_more [] rest more = refl
joined_more (l ∷ lines) rest more = ap (λ (x : List ℕ). l ++ feed ∷ x) (joined_more lines rest more) ∙ sym (append_assoc l (feed ∷ joined lines rest) more)

pub lines_joined : (lines : List (List ℕ)) (rest : List ℕ) → All IsFeedless lines → lines_of (joined lines rest) ≡ lines ++ lines_of rest
lines_joined [] rest each = refl
lines_joined (line ∷ lines) rest each = lines_first line (joined lines rest) (All-head IsFeedless line lines each) ∙ ap (λ (x : List (List ℕ)). line ∷ x) (lines_joined lines rest (All-tail IsFeedless line lines each))

-- a reader that took nothing yet
pub given_none : (bytes : List ℕ) → HasGiven bytes [] (record { line = []; pending = []; taken = 0; is_ended = false }) bytes
given_none bytes = record { counted = omega arith; given = inl (record { feedless = All-nil IsFeedless; split = refl }); ends = λ is. absurd cc }

push_line : (bytes : List ℕ) (lines : List (List ℕ)) (old new : Reading) (x a : List ℕ) → IsFront bytes lines old x → Gives new (old.pending ++ x) (new.pending ++ a) → IsFeedless new.line → (old.pending ++ x ≡ new.line ++ feed ∷ (new.pending ++ a)) ⊎ IsLastLine new (old.pending ++ x) (new.pending ++ a) → IsFront bytes (lines ++ new.line ∷ []) new a ⊎ IsAll bytes (lines ++ new.line ∷ []) new a
push_line bytes lines old new x a front line feedless (inl ended) = inl (record {
  feedless = All-push IsFeedless lines new.line front.feedless feedless;
  split = front.split ∙ ap (joined lines) ended ∙ sym (joined_push lines new.line (new.pending ++ a));
})
push_line bytes lines old new x a front line feedless (inr last) =
    let all : lines_of bytes ≡ lines ++ lines_of (old.pending ++ x) = ap lines_of front.split ∙ lines_joined lines (old.pending ++ x) front.feedless in
    let one : lines_of (old.pending ++ x) ≡ new.line ∷ [] = line.lines ∙ ap (λ (y : List ℕ). new.line ∷ lines_of y) last.end ∙ ap (λ (y : List (List ℕ)). new.line ∷ y) lines_none in
    inr (record { all = sym (all ∙ ap (λ (y : List (List ℕ)). lines ++ y) one); none = last.end; below = last.below; ended = last.ended })

one_more : (bytes : List ℕ) (lines : List (List ℕ)) (old new : Reading) (x a : List ℕ) → IsFront bytes lines old x ⊎ IsAll bytes lines old x → Gives new (old.pending ++ x) (new.pending ++ a) → IsFeedless new.line → IsFront bytes (lines ++ new.line ∷ []) new a ⊎ IsAll bytes (lines ++ new.line ∷ []) new a
one_more bytes lines old new x a (inl front) line feedless = push_line bytes lines old new x a front line feedless line.ends
one_more bytes lines old new x a (inr all) line feedless =
    let none : [] ≡ new.line ∷ lines_of (new.pending ++ a) = sym (ap lines_of all.none ∙ lines_none) ∙ line.lines in
    absurd (cc none)

-- a line was given out
pub given_line : (bytes : List ℕ) (lines : List (List ℕ)) (old new : Reading) (x a : List ℕ) → HasGiven bytes lines old x → Gives new (old.pending ++ x) (new.pending ++ a) → IsFeedless new.line → new.taken + length a ≡ old.taken + length x → HasGiven bytes (lines ++ new.line ∷ []) new a
given_line bytes lines old new x a so_far line feedless taken = record {
  counted = omega (arith, so_far.counted, taken);
  given = one_more bytes lines old new x a so_far.given line feedless;
  ends = line.last;
}

-- all lines, each with its feed, are no shorter than the bytes
lines_with : (lines : List (List ℕ)) (rest : List ℕ) → length (joined lines rest) ≤ length (joined (lines ++ where_any rest) [])
lines_with lines [] = rw (append-nil lines) (omega arith)
lines_with lines (b ∷ rest) =
    let pushed : length (joined (lines ++ (b ∷ rest) ∷ []) []) ≡ length (joined lines ((b ∷ rest) ++ feed ∷ [])) = ap length (joined_push lines (b ∷ rest) []) in
    let more : length (joined lines ((b ∷ rest) ++ feed ∷ [])) ≡ length (joined lines (b ∷ rest) ++ feed ∷ []) = ap length (joined_more lines (b ∷ rest) (feed ∷ [])) in
    omega (arith, pushed, more, length-append (joined lines (b ∷ rest)) (feed ∷ []))

pub lines_long : (bytes : List ℕ) → length bytes ≤ length (joined (lines_of bytes) [])
lines_long bytes =
    let whole : joined (complete_lines bytes) (unended bytes) ≡ bytes = (is_split bytes).whole in
    omega (arith, lines_with (complete_lines bytes) (unended bytes), ap length whole)

pub nothing_left : (xs ys : List ℕ) → xs ++ ys ≡ [] → length ys ≡ 0
nothing_left xs ys e = omega (arith, length-append xs ys, ap length e)

-- none was given out, and as much is unread
module _ (bytes : List ℕ) (lines : List (List ℕ)) (old new : Reading) (x a : List ℕ) (so_far : HasGiven bytes lines old x) (same : new.pending ++ a ≡ old.pending ++ x) (taken : new.taken + length a ≡ old.taken + length x) where
  module _ (stays : old.is_ended ≡ true → new.is_ended ≡ true) (ends : new.is_ended ≡ true → old.pending ++ x ≡ []) where
    by_same : IsFront bytes lines old x ⊎ IsAll bytes lines old x → IsFront bytes lines new a ⊎ IsAll bytes lines new a
    by_same (inl front) = inl (record { feedless = front.feedless; split = front.split ∙ ap (joined lines) (sym same) })
    by_same (inr all) =
        let none : new.pending ++ a ≡ [] = same ∙ all.none in
        inr (record { all = all.all; none = none; below = omega (arith, all.below, taken, nothing_left old.pending x all.none, nothing_left new.pending a none); ended = stays all.ended })

    given_same : HasGiven bytes lines new a
    given_same = record { counted = omega (arith, so_far.counted, taken); given = by_same so_far.given; ends = λ is. same ∙ ends is }

  -- where the end was not seen
  pub given_kept : old.is_ended ≡ false → new.is_ended ≡ false → HasGiven bytes lines new a
  given_kept before still = given_same
      (λ is. let both : true ≡ false = sym is ∙ before in absurd (cc both))
      (λ is. let both : true ≡ false = sym is ∙ still in absurd (cc both))

  -- at the end, where none was unread
  none_unread : (old.is_ended ≡ false → old.pending ++ x ≡ []) → old.pending ++ x ≡ []
  none_unread none = by old.is_ended refl
    where
      by : (b : Bool) → old.is_ended ≡ b → old.pending ++ x ≡ []
      by true is = so_far.ends is
      by false is = none is

  pub given_end : (old.is_ended ≡ false → old.pending ++ x ≡ []) → new.is_ended ≡ true → HasGiven bytes lines new a × (new.pending ++ a ≡ [])
  given_end none ended = (given_same (λ is. ended) (λ is. none_unread none), same ∙ none_unread none)

all_given : (bytes : List ℕ) (lines : List (List ℕ)) (r : Reading) (x : List ℕ) → IsFront bytes lines r x ⊎ IsAll bytes lines r x → r.pending ++ x ≡ [] → lines ≡ lines_of bytes
all_given bytes lines r x (inl front) none = sym (ap lines_of (front.split ∙ ap (joined lines) none) ∙ lines_joined lines [] front.feedless ∙ ap (λ (y : List (List ℕ)). lines ++ y) lines_none ∙ append-nil lines)
all_given bytes lines r x (inr all) none = all.all

-- at the end of input all lines were given out
pub given_all : (bytes : List ℕ) (lines : List (List ℕ)) (r : Reading) (x : List ℕ) → HasGiven bytes lines r x → r.pending ++ x ≡ [] → r.taken < input_limit → (lines ≡ lines_of bytes) × (length bytes < input_limit)
given_all bytes lines r x so_far none below = (all_given bytes lines r x so_far.given none, omega (arith, so_far.counted, nothing_left r.pending x none))

complete_given : (bytes : List ℕ) (lines : List (List ℕ)) (r : Reading) (x : List ℕ) → r.taken + length x ≡ length bytes → IsFront bytes lines r x → IsFeedless r.pending → lines ≡ complete_lines (take r.taken bytes)
complete_given bytes lines r x counted front feedless =
    let whole : bytes ≡ joined lines r.pending ++ x = front.split ∙ joined_more lines r.pending x in
    let len : length (joined lines r.pending) ≡ r.taken = omega (arith, counted, ap length whole, length-append (joined lines r.pending) x) in
    let read : take r.taken bytes ≡ joined lines r.pending = ap (λ (n : ℕ). take n bytes) (sym len) ∙ ap (take (length (joined lines r.pending))) whole ∙ take-append_seam (joined lines r.pending) x in
    sym (ap complete_lines read ∙ complete_joined lines r.pending front.feedless feedless)

-- where no line ends in what is pending, the lines are those that are complete in what was taken, or all
pub given_taken : (bytes : List ℕ) (lines : List (List ℕ)) (r : Reading) (x : List ℕ) → HasGiven bytes lines r x → IsFeedless r.pending → (lines ≡ complete_lines (take r.taken bytes)) ⊎ IsAll bytes lines r x
given_taken bytes lines r x so_far feedless = elim so_far.given [ inl front ↦ inl (complete_given bytes lines r x so_far.counted front feedless) | inr all ↦ inr all ]

-- at the limit all lines that are complete before it were given out
pub given_limit : (bytes : List ℕ) (lines : List (List ℕ)) (r : Reading) (x : List ℕ) → HasGiven bytes lines r x → IsAtLimit r → (lines ≡ complete_lines (take input_limit bytes)) × (input_limit ≤ length bytes)
given_limit bytes lines r x so_far at =
    let long : input_limit ≤ length bytes = omega (arith, so_far.counted, at.full) in
    elim (given_taken bytes lines r x so_far at.feedless) [
      | inl complete ↦ (complete ∙ ap (λ (n : ℕ). complete_lines (take n bytes)) at.full, long)
      | inr all ↦ absurd (omega (arith, all.below, at.full))
    ]

module _ {A : Type 0} where
  both_told : (o n : Option A) (P Q : A → A → Type 0) → WhereTold o n P → WhereTold o n Q → WhereTold o n (λ b a. P b a × Q b a)
  both_told (Some b) (Some a) P Q p q = (p, q)
  both_told (Some b) None P Q p q = tt
  both_told None n P Q p q = tt

-- The same where the source tells what it has left, from its state at the beginning on.
module _ (from to later : State) (lines : List (List ℕ)) (old new : Reading) where
  pub told_line : TellsAlike from.rest to.rest → WhereTold from.rest to.rest (λ bytes rest. HasGiven bytes lines old rest) → Tells (Ok true) old new to later → IsFeedless new.line → Takes old new to later → WhereTold from.rest later.rest (λ bytes rest. HasGiven bytes (lines ++ new.line ∷ []) new rest)
  told_line alike so_far tells feedless takes =
      told_then from.rest to.rest later.rest _ _ _ alike so_far (both_told to.rest later.rest _ _ tells takes.as_lost) (λ bytes x a given next. given_line bytes lines old new x a given next.0 feedless next.1)

  -- at the end
  pub told_end : TellsAlike from.rest to.rest → WhereTold from.rest to.rest (λ bytes rest. HasGiven bytes lines old rest) → Tells (Ok false) old new to later → SeesEnd (Ok false) old new → Takes old new to later → WhereTold from.rest later.rest (λ bytes rest. HasGiven bytes lines new rest × (new.pending ++ rest ≡ []))
  told_end alike so_far tells sees takes =
      told_then from.rest to.rest later.rest _ _ _ alike so_far (both_told to.rest later.rest _ _ tells takes.as_lost) (λ bytes x a given next. given_end bytes lines old new x a given next.0.same next.1 next.0.none sees)

  -- after a refusal
  pub told_refused : (fail : InputFail) → TellsAlike from.rest to.rest → WhereTold from.rest to.rest (λ bytes rest. HasGiven bytes lines old rest) → Tells (Err fail) old new to later → SeesEnd (Err fail) old new → Takes old new to later → WhereTold from.rest later.rest (λ bytes rest. HasGiven bytes lines new rest)
  told_refused fail alike so_far tells sees takes =
      told_then from.rest to.rest later.rest _ _ _ alike so_far (both_told to.rest later.rest _ _ tells takes.as_lost) (λ bytes x a given next. given_kept bytes lines old new x a given next.0 next.1 sees.0 sees.1)
