-- What is known of the batches of a book by a store, after some entries.
use Rattle.std.specs.Prelude.{◌≡◌, ℕ, ◌+◌, ◌++◌, nat_lt, length, List, Option, Some, None}
use Rattle.policy_eras.specs.declared.era.Era.{Era}
use Rattle.file_findings.specs.declared.finding.Finding.{Finding}
use Rattle.file_findings.specs.declared.finding.Finding.TheVariants.{UnsealedEra}
use Rattle.notary_link.specs.Notary.{Call}
use Rattle.store_inspect.specs.declared.seen.StoreKnown.{StoreKnown}
use Rattle.book_inspect.specs.Entries.{batches_of}
use Rattle.file_findings.specs.Along.{listed, found_along}
use Rattle.inspect_call.specs.declared.both.Early.{Early}
use Rattle.inspect_call.specs.Both.{early_at, batch_early}

pub record KnowsEarly (k : StoreKnown) (id : ℕ) (e : Early) (calls : List Call) : Type 0 where
  pub batches : e.batches ≡ length (batches_of id calls)
  pub found : e.found.items ≡ found_along (batch_early k id) calls

-- a batch was taken
pub record TakesEarly (k : StoreKnown) (second : ℕ) (old new : Early) : Type 0 where
  pub batches : new.batches ≡ old.batches + 1
  pub found : new.found.items ≡ old.found.items ++ early_at k old.batches second

-- an era was told, where there is one that begins at a tile which is not sealed
abbrev pub NotesEra : Option Era → ℕ → ℕ → List Finding → List Finding → Type 0
NotesEra None number sealed old new = new ≡ old
NotesEra (Some e) number sealed old new = new ≡ old ++ listed (nat_lt sealed e.tile) (UnsealedEra number e.tile sealed)
