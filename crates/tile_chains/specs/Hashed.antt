-- What a hash of a granule in progress stands for.
use Rattle.std.specs.Prelude.{ℕ, List}
use Rattle.sha2.specs.Hashers.{Holds256}
use Rattle.digest_model.specs.Digests.{granule_input}
use Rattle.tile_chains.specs.declared.granule.GranuleHash.{GranuleHash}

-- the granule's number and these spellings were hashed so far
abbrev pub HasHashed : GranuleHash → ℕ → List (List ℕ) → Type 0
HasHashed hash granule spelled = Holds256 hash.hasher (granule_input granule spelled)
