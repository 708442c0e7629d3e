-- The lines of bytes, with and without a feed.
use Rattle.std.proofs.Common.{◌≡◌, ◌<◌, ℕ, Bool, true, false, List, [], ◌∷◌, ◌++◌, length, refl, sym, ◌∙◌, arith}
use Rattle.std.specs.Prelude.{◌==◌, ◌||◌}
use Rattle.std.proofs.lemmas.List.Folds.{list_any-append}
use Rattle.line_input.specs.Lines.{feed, has_feed, IsFeedless, complete_lines, unended, lines_of}

-- neither of two, where not one of them
pub neither : (x y : Bool) → (x || y) ≡ false → (x ≡ false) × (y ≡ false)
neither true y h = absurd cc
neither false y h = (refl, h)

pub has_feed_append : (xs ys : List ℕ) → has_feed (xs ++ ys) ≡ (has_feed xs || has_feed ys)
has_feed_append xs ys = list_any-append (λ b. b == feed) xs ys

pub feedless_append : (xs ys : List ℕ) → IsFeedless xs → IsFeedless ys → IsFeedless (xs ++ ys)
feedless_append xs ys f g = rw (has_feed_append xs ys, f, g) refl

pub feedless_parts : (xs ys : List ℕ) → IsFeedless (xs ++ ys) → IsFeedless xs × IsFeedless ys
feedless_parts xs ys f = neither (has_feed xs) (has_feed ys) (sym (has_feed_append xs ys) ∙ f)

-- bytes in which a feed stands
pub has_feed_there : (line rest : List ℕ) → has_feed (line ++ feed ∷ rest) ≡ true
has_feed_there [] rest = refl
has_feed_there (b ∷ line) rest = elim (b == feed) as (λ v. (v || has_feed (line ++ feed ∷ rest)) ≡ true) [ true ↦ refl | false ↦ has_feed_there line rest ]

-- no line of bytes without a feed is complete
pub complete_none : (bytes : List ℕ) → IsFeedless bytes → complete_lines bytes ≡ []
unfolding complete_lines
complete_none [] f = refl
complete_none (b ∷ bytes) f =
    let h = neither (b == feed) (has_feed bytes) f in
    rw (h.0, complete_none bytes h.1) refl

-- and all of them stand behind the last feed
pub unended_none : (bytes : List ℕ) → IsFeedless bytes → unended bytes ≡ bytes
unfolding unended
unended_none [] f = refl
unended_none (b ∷ bytes) f = rw f refl

-- the first line of bytes in which a feed stands
pub complete_first : (line rest : List ℕ) → IsFeedless line → complete_lines (line ++ feed ∷ rest) ≡ line ∷ complete_lines rest
unfolding complete_lines
complete_first [] rest f = refl
complete_first (b ∷ line) rest f =
    let h = neither (b == feed) (has_feed line) f in
    rw (h.0, complete_first line rest h.1) refl

-- a line before the last feed changes nothing behind it
pub unended_first : (line rest : List ℕ) → unended (line ++ feed ∷ rest) ≡ unended rest
unfolding unended
unended_first [] rest = refl
unended_first (b ∷ line) rest = rw (has_feed_there (b ∷ line) rest, unended_first line rest) refl

pub lines_first : (line rest : List ℕ) → IsFeedless line → lines_of (line ++ feed ∷ rest) ≡ line ∷ lines_of rest
lines_first line rest f = rw (complete_first line rest f, unended_first line rest) refl

pub lines_none : lines_of [] ≡ []
unfolding complete_lines unended
lines_none = refl

-- bytes without a feed are one line, where there are any
pub lines_last : (line : List ℕ) → IsFeedless line → 0 < length line → lines_of line ≡ line ∷ []
lines_last [] f some = absurd (omega arith)
lines_last (b ∷ line) f some = rw (complete_none (b ∷ line) f, unended_none (b ∷ line) f) refl
