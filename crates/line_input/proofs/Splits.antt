-- Bytes are split into lines in one way.
use Rattle.std.proofs.Common.{◌≡◌, ℕ, Bool, true, false, List, [], ◌∷◌, refl, sym, ap, ◌∙◌, subst}
use Rattle.std.specs.Prelude.{◌==◌}
use Rattle.std.specs.List.{All}
use Rattle.std.proofs.lemmas.Bool.{eqb-true}
use Rattle.std.proofs.lemmas.List.Elements.{All-nil, All-cons, All-head, All-tail}
use Rattle.line_input.specs.Lines.{feed, IsFeedless, joined, IsSplit, complete_lines, unended}
use Rattle.line_input.proofs.Lines.{complete_none, unended_none, complete_first, unended_first}

-- lines and a rest that the bytes are
record Split (bytes : List ℕ) : Type 0 where
  lines : List (List ℕ)
  rest : List ℕ
  is : IsSplit bytes lines rest

-- a byte more at the front
with_feed : (bytes : List ℕ) → Split bytes → Split (feed ∷ bytes)
with_feed bytes s = record {
  lines = [] ∷ s.lines;
  rest = s.rest;
  is = record {
    whole = ap (λ (x : List ℕ). feed ∷ x) s.is.whole;
    lines_feedless = All-cons IsFeedless [] s.lines refl s.is.lines_feedless;
    rest_feedless = s.is.rest_feedless;
  };
}

with_byte : (b : ℕ) (bytes : List ℕ) → (b == feed) ≡ false → (lines : List (List ℕ)) (rest : List ℕ) → IsSplit bytes lines rest → Split (b ∷ bytes)
with_byte b bytes n [] rest s = record {
  lines = [];
  rest = b ∷ rest;
  is = record {
    whole = ap (λ (x : List ℕ). b ∷ x) s.whole;
    lines_feedless = All-nil IsFeedless;
    rest_feedless = rw (n, s.rest_feedless) refl;
  };
}
with_byte b bytes n (line ∷ lines) rest s = record {
  lines = (b ∷ line) ∷ lines;
  rest = rest;
  is = record {
    whole = ap (λ (x : List ℕ). b ∷ x) s.whole;
    lines_feedless = All-cons IsFeedless (b ∷ line) lines (rw (n, All-head IsFeedless line lines s.lines_feedless) refl) (All-tail IsFeedless line lines s.lines_feedless);
    rest_feedless = s.rest_feedless;
  };
}

with_front : (b : ℕ) (bytes : List ℕ) (is_feed : Bool) → (b == feed) ≡ is_feed → Split bytes → Split (b ∷ bytes)
with_front b bytes true is s = subst (λ (f : ℕ). Split (f ∷ bytes)) (sym (eqb-true b feed is)) (with_feed bytes s)
with_front b bytes false is s = with_byte b bytes is s.lines s.rest s.is

split : (bytes : List ℕ) → Split bytes
split [] = record { lines = []; rest = []; is = record { whole = refl; lines_feedless = All-nil IsFeedless; rest_feedless = refl } }
split (b ∷ bytes) = with_front b bytes (b == feed) refl (split bytes)

-- the lines that bytes are made of
pub complete_joined : (lines : List (List ℕ)) (rest : List ℕ) → All IsFeedless lines → IsFeedless rest → complete_lines (joined lines rest) ≡ lines
complete_joined [] rest each f = complete_none rest f
complete_joined (line ∷ lines) rest each f =
    complete_first line (joined lines rest) (All-head IsFeedless line lines each) ∙ ap (λ (x : List (List ℕ)). line ∷ x) (complete_joined lines rest (All-tail IsFeedless line lines each) f)

unended_joined : (lines : List (List ℕ)) (rest : List ℕ) → IsFeedless rest → unended (joined lines rest) ≡ rest
unended_joined [] rest f = unended_none rest f
unended_joined (line ∷ lines) rest f = unended_first line (joined lines rest) ∙ unended_joined lines rest f

pub lines_only : (bytes rest : List ℕ) (lines : List (List ℕ)) → IsSplit bytes lines rest → lines ≡ complete_lines bytes
lines_only bytes rest lines s = sym (complete_joined lines rest s.lines_feedless s.rest_feedless) ∙ ap complete_lines s.whole

pub rest_only : (bytes rest : List ℕ) (lines : List (List ℕ)) → IsSplit bytes lines rest → rest ≡ unended bytes
rest_only bytes rest lines s = sym (unended_joined lines rest s.rest_feedless) ∙ ap unended s.whole

pub is_split : (bytes : List ℕ) → IsSplit bytes (complete_lines bytes) (unended bytes)
is_split bytes =
    let s = split bytes in
    let at_lines : IsSplit bytes (complete_lines bytes) s.rest = subst (λ (lines : List (List ℕ)). IsSplit bytes lines s.rest) (lines_only bytes s.rest s.lines s.is) s.is in
    subst (λ (rest : List ℕ). IsSplit bytes (complete_lines bytes) rest) (rest_only bytes s.rest s.lines s.is) at_lines
