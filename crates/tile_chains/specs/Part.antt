-- The granules of a part, given the digests of a tile's granules.
use Rattle.std.specs.Prelude.{ℕ, List, [], length, map, slice_index_or}
use Rattle.digest_model.specs.Layout.{numbers_in_part}

-- the digest of the granule of a number within the tile
abbrev pub digest_at : List (List ℕ) → ℕ → List ℕ
digest_at digests number = slice_index_or digests number []

-- the digests of a part, among the granules of the first numbers within the tile
unfoldable pub digests_among : ℕ → List (List ℕ) → ℕ → List (List ℕ)
digests_among part digests size = map (digest_at digests) (numbers_in_part part size)

-- the digests of a part, in the order of the granules
abbrev pub digests_in_part : ℕ → List (List ℕ) → List (List ℕ)
digests_in_part part digests = digests_among part digests (length digests)
