-- Gathering a line, from piece to piece.
use Rattle.std.proofs.Common.{◌≡◌, ◌<◌, ◌≤◌, ◌+◌, ℕ, zero, suc, Bool, true, false, List, [], ◌∷◌, ◌++◌, length, refl, sym, ap, ◌∙◌, subst, append_assoc, arith, length-append, inl, inr}
use Rattle.std.specs.Prelude.{IsTrue, Ok, Err, not, ◌==◌}
use Rattle.std.proofs.lemmas.Bool.{eqb-true}
use Rattle.std.proofs.lemmas.List.{append-nil}
use Rattle.outside_words.specs.Told.{WhereTold}
use Rattle.outside_words.proofs.Told.{told_map, told_then, told_same}
use Rattle.outside_io.specs.Source.{State, Unchanged, GoesOn}
use Rattle.line_input.specs.declared.fail.InputFail.{InputFail}
use Rattle.line_input.specs.declared.gathering.Gathering.{Gathering}
use Rattle.line_input.specs.Limits.{input_limit, piece_limit}
use Rattle.line_input.specs.Lines.{feed, has_feed, IsFeedless, lines_of}
use Rattle.line_input.specs.Piece.{rest_of}
use Rattle.line_input.specs.Reader.{Reading, Answers, GivesMore, SeesEnd, IsPast}
use Rattle.line_input.specs.Gathering.{reading_of, held_by, Moves, GathersLine, TakesPiece}
use Rattle.line_input.proofs.Lines.{lines_first, lines_last, lines_none}

-- nothing, where it doesn't add up to more
rest_nil : (rest : List ℕ) (m n : ℕ) → n ≡ m + length rest → (m < n → ⊥) → rest ≡ []
rest_nil [] m n sum never = refl
rest_nil (x ∷ rest) m n sum never = absurd (never (omega arith))

nil_both : (xs ys : List ℕ) → xs ≡ [] → ys ≡ [] → xs ++ ys ≡ []
nil_both xs ys e f = ap (λ (x : List ℕ). x ++ ys) e ∙ f

nil_from_length : (xs : List ℕ) → length xs ≡ 0 → xs ≡ []
nil_from_length [] e = refl
nil_from_length (x ∷ xs) e = absurd (omega arith)

-- what a turn of the loop keeps: no byte is lost, and where a feed was there nothing was taken
pub record IsGoing (old new : Gathering) (from to : State) : Type 0 where
  pub held : WhereTold from.rest to.rest (λ before after. held_by old ++ before ≡ held_by new ++ after)
  pub lost : WhereTold from.rest to.rest (λ before after. new.taken + length after ≡ old.taken + length before)
  pub rises : old.taken ≤ new.taken
  pub sum : new.taken + length (held_by old) ≡ old.taken + length (held_by new)
  pub at_once : IsTrue (has_feed (held_by old)) → (new.taken ≡ old.taken) × (held_by new ≡ held_by old)
  pub frame : GoesOn from to

pub going_same : (g : Gathering) (s : State) → IsGoing g g s s
going_same g s = record {
  held = told_same s.rest s.rest _ refl (λ b. refl);
  lost = told_same s.rest s.rest _ refl (λ b. refl);
  rises = omega arith;
  sum = refl;
  at_once = λ has. (refl, refl);
  frame = record { told = refl; faults = omega arith };
}

-- as much is held, and nothing was taken
pub going_moved : (old mid new : Gathering) (from to : State) → IsGoing old mid from to → held_by new ≡ held_by mid → new.taken ≡ mid.taken → IsGoing old new from to
going_moved old mid new from to so_far same taken = record {
  held = told_map from.rest to.rest _ _ so_far.held (λ b a e. e ∙ ap (λ (x : List ℕ). x ++ a) (sym same));
  lost = told_map from.rest to.rest _ _ so_far.lost (λ b a e. omega (arith, e));
  rises = omega (arith, so_far.rises);
  sum = omega (arith, so_far.sum, taken, ap length same);
  at_once = λ has. let h = so_far.at_once has in (taken ∙ h.0, same ∙ h.1);
  frame = so_far.frame;
}

-- nothing came of the source
pub going_still : (old mid new : Gathering) (from to later : State) → IsGoing old mid from to → held_by new ≡ held_by mid → new.taken ≡ mid.taken → Unchanged to later → GoesOn to later → IsGoing old new from later
going_still old mid new from to later so_far same taken unchanged on =
    let moved = going_moved old mid new from to so_far same taken in
    record {
      held = subst (λ (rest : _). WhereTold from.rest rest (λ before after. held_by old ++ before ≡ held_by new ++ after)) (sym unchanged) moved.held;
      lost = subst (λ (rest : _). WhereTold from.rest rest (λ before after. new.taken + length after ≡ old.taken + length before)) (sym unchanged) moved.lost;
      rises = moved.rises;
      sum = moved.sum;
      at_once = moved.at_once;
      frame = record { told = on.told ∙ so_far.frame.told; faults = omega (arith, on.faults, so_far.frame.faults) };
    }

-- where the piece is used up, the line is all that is held
pub held_used : (g : Gathering) → rest_of g.piece ≡ [] → held_by g ≡ g.line.items
held_used g used = ap (λ (x : List ℕ). g.line.items ++ x) used ∙ append-nil g.line.items

-- a piece was taken behind a line that has no feed
pub going_on : (old mid new : Gathering) (from to later : State) (some : Bool) → IsGoing old mid from to → rest_of mid.piece ≡ [] → new.line ≡ mid.line → TakesPiece mid new to later some → GoesOn to later → IsGoing old new from later
going_on old mid new from to later some so_far used line takes on =
    let held_mid = held_used mid used in
    let clear : IsFeedless (held_by mid) = ap has_feed held_mid ∙ mid.feedless in
    record {
      held = told_then from.rest to.rest later.rest _ _ _ so_far.frame.told so_far.held takes.moved (λ b x a first next.
          let ahead : held_by new ++ a ≡ mid.line.items ++ x = append_assoc new.line.items (rest_of new.piece) a ∙ ap (λ (y : List ℕ). new.line.items ++ y) (sym next.whole) ∙ ap (λ (l : _). l.items ++ x) line in
          first ∙ ap (λ (y : List ℕ). y ++ x) held_mid ∙ sym ahead);
      lost = told_then from.rest to.rest later.rest _ _ _ so_far.frame.told so_far.lost takes.moved (λ b x a first next. omega (arith, first, takes.taken, ap length next.whole, length-append (rest_of new.piece) a));
      rises = omega (arith, so_far.rises, takes.taken);
      sum = omega (arith, so_far.sum, takes.taken, ap length held_mid, length-append new.line.items (rest_of new.piece), ap (λ (l : _). length l.items) line);
      at_once = λ has. let h = so_far.at_once has in let no : true ≡ false = sym has ∙ ap has_feed (sym h.1) ∙ clear in absurd (cc no);
      frame = record { told = on.told ∙ so_far.frame.told; faults = omega (arith, on.faults, so_far.frame.faults) };
    }

-- a call that gives out nothing
pub moves_none : (old new : Gathering) (from to : State) (fail : InputFail) → IsGoing old new from to → old.is_ended ≡ false → new.is_ended ≡ false → Moves (Err fail) old new from to
moves_none old new from to fail going first before = record {
  told = told_map from.rest to.rest _ _ going.held (λ b a e. sym e);
  taken = record { within = new.limited; rises = going.rises; as_lost = going.lost };
  at_once = record { none_taken = λ has. (going.at_once has).0; little_more = tt };
  more = tt;
  sees = (first, before);
}

-- a line that a feed ends
pub moves_line : (old mid new : Gathering) (from to : State) → IsGoing old mid from to → GathersLine mid new → new.taken ≡ mid.taken → old.is_ended ≡ false → new.is_ended ≡ false → Moves (Ok true) old new from to
moves_line old mid new from to going line taken first before = record {
  told = told_map from.rest to.rest _ _ going.held (λ b a e.
      let whole : held_by old ++ b ≡ new.line.items ++ feed ∷ (rest_of new.piece ++ a) = e ∙ ap (λ (x : List ℕ). x ++ a) line.held ∙ append_assoc new.line.items (feed ∷ rest_of new.piece) a in
      record { lines = ap lines_of whole ∙ lines_first new.line.items (rest_of new.piece ++ a) new.feedless; ends = inl whole; last = λ is. let never : true ≡ false = sym is ∙ before in absurd (cc never) });
  taken = record { within = new.limited; rises = omega (arith, going.rises, taken); as_lost = told_map from.rest to.rest _ _ going.lost (λ b a e. omega (arith, e, taken)) };
  at_once = record { none_taken = λ has. taken ∙ (going.at_once has).0; little_more = line.less };
  more = omega (arith, going.sum, taken, ap length line.held, length-append new.line.items (feed ∷ rest_of new.piece));
  sees = first;
}

above_zero : (n : ℕ) → (n == 0) ≡ false → 0 < n
above_zero zero e = absurd (cc e)
above_zero (suc n) e = omega arith

little : (is_empty : Bool) (new : Gathering) → is_empty ≡ (length new.line.items == 0) → rest_of new.piece ≡ [] → length (reading_of (not is_empty) new).pending < piece_limit
little true new empty used =
    let none : new.line.items ≡ [] = nil_from_length new.line.items (eqb-true (length new.line.items) 0 (sym empty)) in
    rw (nil_both new.line.items (rest_of new.piece) none used) (omega arith)
little false new empty used = rw used (omega arith)

-- the end of input, behind a line or behind none
answers_end : (is_empty : Bool) (old : Reading) (new : Gathering) (before after : List ℕ) → is_empty ≡ (length new.line.items == 0) → rest_of new.piece ≡ [] → after ≡ [] → before ≡ new.line.items → new.taken < input_limit → new.is_ended ≡ true → Answers (Ok (not is_empty)) old (reading_of (not is_empty) new) before ((reading_of (not is_empty) new).pending ++ after)
answers_end true old new before after empty used end whole below ended =
    let none : new.line.items ≡ [] = nil_from_length new.line.items (eqb-true (length new.line.items) 0 (sym empty)) in
    let nothing : before ≡ [] = whole ∙ none in
    record { none = λ before_end. nothing; same = nil_both (new.line.items ++ rest_of new.piece) after (nil_both new.line.items (rest_of new.piece) none used) end ∙ sym nothing }
answers_end false old new before after empty used end whole below ended =
    let some : 0 < length new.line.items = above_zero (length new.line.items) (sym empty) in
    let nothing : rest_of new.piece ++ after ≡ [] = nil_both (rest_of new.piece) after used end in
    record {
      lines = ap lines_of whole ∙ lines_last new.line.items new.feedless some ∙ ap (λ (x : List (List ℕ)). new.line.items ∷ x) (sym (ap lines_of nothing ∙ lines_none));
      ends = inr (record { whole = whole; some = some; end = nothing; below = below; ended = ended });
      last = λ is. nothing;
    }

more_end : (is_empty : Bool) (old new : Gathering) → is_empty ≡ (length new.line.items == 0) → rest_of new.piece ≡ [] → new.taken + length (held_by old) ≡ old.taken + length (held_by new) → GivesMore (Ok (not is_empty)) (reading_of false old) (reading_of (not is_empty) new)
more_end true old new empty used sum = tt
more_end false old new empty used sum =
    let some : 0 < length new.line.items = above_zero (length new.line.items) (sym empty) in
    omega (arith, sum, some, ap length used, length-append new.line.items (rest_of new.piece))

sees_end : (is_empty : Bool) (old new : Reading) → old.is_ended ≡ false → new.is_ended ≡ true → SeesEnd (Ok (not is_empty)) old new
sees_end true old new first ended = ended
sees_end false old new first ended = first

pending_none : (is_empty : Bool) (new : Gathering) → is_empty ≡ (length new.line.items == 0) → rest_of new.piece ≡ [] → (reading_of (not is_empty) new).pending ≡ []
pending_none true new empty used = nil_both new.line.items (rest_of new.piece) (nil_from_length new.line.items (eqb-true (length new.line.items) 0 (sym empty))) used
pending_none false new empty used = used

-- a line that the end of input ends, or none
module _ (old mid new : Gathering) (from to later : State) (is_empty : Bool) (empty : is_empty ≡ (length new.line.items == 0)) (going : IsGoing old mid from to) (used : rest_of mid.piece ≡ []) (line : new.line ≡ mid.line) (takes : TakesPiece mid new to later false) (on : GoesOn to later) where
  used_new : rest_of new.piece ≡ []
  used_new = rest_nil (rest_of new.piece) mid.taken new.taken takes.taken (λ l. let h : false ≡ true = takes.some.1 l in absurd (cc h))

  below : new.taken < input_limit
  below = omega (arith, takes.taken, takes.below, ap length used_new)

  pub past_end : IsPast (reading_of (not is_empty) new)
  past_end = record { none = pending_none is_empty new empty used_new; below = below }

  pub moves_end : old.is_ended ≡ false → Moves (Ok (not is_empty)) old new from later
  moves_end first =
      let on_going = going_on old mid new from to later false going used line takes on in
      let held_mid = held_used mid used in
      record {
        told = told_then from.rest to.rest later.rest _ _ _ going.frame.told going.held takes.moved (λ b x a first next.
            let none : x ≡ [] = next.some used_new in
            let end : a ≡ [] = ap (λ (y : List ℕ). y ++ a) (sym used_new) ∙ sym next.whole ∙ none in
            let whole : held_by old ++ b ≡ new.line.items = first ∙ ap (λ (y : List ℕ). held_by mid ++ y) none ∙ append-nil (held_by mid) ∙ held_mid ∙ ap (λ (l : _). l.items) (sym line) in
            answers_end is_empty (reading_of false old) new (held_by old ++ b) a empty used_new end whole below takes.ended);
        taken = record { within = new.limited; rises = on_going.rises; as_lost = on_going.lost };
        at_once = record { none_taken = λ has. (on_going.at_once has).0; little_more = little is_empty new empty used_new };
        more = more_end is_empty old new empty used_new on_going.sum;
        sees = sees_end is_empty (reading_of false old) (reading_of (not is_empty) new) first takes.ended;
      }
