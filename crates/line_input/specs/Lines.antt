-- The lines of bytes: a line is what stands before a feed, or before the end where it isn't empty.
use Rattle.std.specs.Prelude.{◌≡◌, ◌==◌, ◌++◌, ℕ, Bool, false, List, [], ◌∷◌, if◌then◌else◌}
use Rattle.std.specs.List.{list_any, All}

-- the byte that ends a line
abbrev pub feed : ℕ
feed = 10

abbrev pub has_feed : List ℕ → Bool
has_feed bytes = list_any (λ b. b == feed) bytes

abbrev pub IsFeedless : List ℕ → Type 0
IsFeedless bytes = has_feed bytes ≡ false

-- a byte more at the front of the first line, where there is one
abbrev pub into_first : ℕ → List (List ℕ) → List (List ℕ)
into_first b [] = []
into_first b (line ∷ lines) = (b ∷ line) ∷ lines

-- the lines whose feed is there
unfoldable pub complete_lines : List ℕ → List (List ℕ)
complete_lines [] = []
complete_lines (b ∷ bytes) = if b == feed then [] ∷ complete_lines bytes else into_first b (complete_lines bytes)

-- what stands behind the last feed
unfoldable pub unended : List ℕ → List ℕ
unended [] = []
unended (b ∷ bytes) = if has_feed (b ∷ bytes) then unended bytes else b ∷ bytes

-- a line that no feed ends is one where it isn't empty
abbrev pub where_any : List ℕ → List (List ℕ)
where_any [] = []
where_any (b ∷ bytes) = (b ∷ bytes) ∷ []

-- all lines of bytes behind which nothing comes
abbrev pub lines_of : List ℕ → List (List ℕ)
lines_of bytes = complete_lines bytes ++ where_any (unended bytes)

-- these lines, each with its feed, and this behind them
abbrev pub joined : List (List ℕ) → List ℕ → List ℕ
joined [] rest = rest
joined (line ∷ lines) rest = line ++ feed ∷ joined lines rest

-- the bytes are these lines, each with its feed, and this rest, which has none
pub record IsSplit (bytes : List ℕ) (lines : List (List ℕ)) (rest : List ℕ) : Type 0 where
  pub whole : joined lines rest ≡ bytes
  pub lines_feedless : All IsFeedless lines
  pub rest_feedless : IsFeedless rest
