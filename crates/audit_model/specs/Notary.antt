-- A notary that holds the batches of a history, and what it answers of another.
use Rattle.std.specs.Prelude.{◌≡◌, ℕ, ◌+◌, ◌≤◌, ◌&&◌, if◌then◌else◌, Bool, true, false, List, length, map}
use Rattle.std.specs.List.{list_all, range_with_len}
use Rattle.notary_link.specs.declared.name.Name.{Name}
use Rattle.notary_link.specs.declared.name.Name.TheVariants.{Header, Cum, Era}
use Rattle.notary_link.specs.declared.answer.Answer.{Answer}
use Rattle.notary_link.specs.declared.answer.Answer.TheVariants.{Same, Differs}
use Rattle.notary_link.specs.Batches.{Batch, answer}
use Rattle.history_model.specs.History.{History}
use Rattle.digest_model.specs.Layout.{layout, first_granule, max_granules, sealed_eras}
use Rattle.digest_model.specs.Digests.{no_digest}
use Rattle.audit_model.specs.Asked.{is_absent}
use Rattle.audit_model.specs.Names.{digest, node_name, batch}

-- the answer for the digest of a history under a name
abbrev pub answers : List Batch → History → Name → Answer
answers batches s name = answer batches name (digest s name)

-- the answers for the values of a history's chain
abbrev pub cums : List Batch → History → ℕ → Answer
cums batches h tile = answers batches h (Cum tile)

-- the answers for the nodes of an era
abbrev pub nodes_of : List Batch → History → ℕ → ℕ → ℕ → Answer
nodes_of batches s era level index = answers batches s (node_name era level index)

abbrev pub is_same : Answer → Bool
is_same Same = true
is_same _ = false

-- an era of a history is answered the same; they are counted from 1 on
abbrev pub is_era_same : List Batch → History → ℕ → Bool
is_era_same batches s era = is_same (answers batches s (Era era))

-- no digest is known under an era's name
abbrev pub is_no_era : List Batch → ℕ → Bool
is_no_era batches era = is_absent (answer batches (Era era) no_digest)

-- the eras of a file's n sealed tiles are all the same, and no further one is known
unfoldable pub era_check : List Batch → History → ℕ → Bool
era_check batches s n =
    list_all (is_era_same batches s) (range_with_len 1 (length (sealed_eras (layout s) n))) && is_no_era batches (length (sealed_eras (layout s) n) + 1)

-- the header's answer, where the eras are as filed
abbrev pub with_eras : Answer → Bool → Answer
with_eras Same eras = if eras then Same else Differs
with_eras a eras = a

-- what the answers show of a file's header and of the eras of its n sealed tiles: the same, other ones, or that the header's seal is missing
unfoldable pub header_answer : List Batch → History → ℕ → Answer
header_answer batches s n = with_eras (answers batches s Header) (era_check batches s n)

-- the batches under an id are those of a history with n sealed tiles
pub record NotaryOf (batches : List Batch) (id : ℕ) (h : History) (n : ℕ) : Type 0 where
  pub seals : map (λ b. b.seals) batches ≡ map (batch h) (range_with_len 0 (n + 1))
  pub header : h.header.id ≡ id
  pub within : first_granule (layout h) n ≤ max_granules
