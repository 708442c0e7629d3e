-- What is known after some entries of a book under an id.
use Rattle.std.specs.Prelude.{◌≡◌, ℕ, ◌+◌, ◌-◌, ◌++◌, ◌||◌, nat_lt, max, not, List, length}
use Rattle.notary_link.specs.declared.mark.Mark.{Mark}
use Rattle.notary_link.specs.declared.seal.Seal.{Seal}
use Rattle.notary_link.specs.Notary.{Call, batch_of}
use Rattle.file_findings.specs.declared.finding.Finding.TheVariants.{SealMissing, MarkOver, SecondsFall, AlteredMark}
use Rattle.book_inspect.specs.declared.entries.Entries.{Entries}
use Rattle.file_findings.specs.Along.{listed, found_along}
use Rattle.book_inspect.specs.Entries.{batches_of, marks_of, latest_filed, latest_marked, has_own_seal, is_other_tile, is_altered, altered_of, seal_missing, mark_over, seconds_fall, altered_mark}

pub record KnowsEntries (id : ℕ) (e : Entries) (calls : List Call) : Type 0 where
  pub entries : e.count ≡ length calls
  pub batches : e.batches ≡ length (batches_of id calls)
  pub marks : e.marks ≡ length (marks_of id calls)
  pub latest_of_batches : e.latest_filed ≡ latest_filed id calls
  pub latest_of_marks : e.latest_marked ≡ latest_marked id calls
  pub missing : e.missing.items ≡ found_along (seal_missing id) calls
  pub over : e.over.items ≡ found_along (mark_over id) calls
  pub falls : e.falls.items ≡ found_along (seconds_fall id) calls
  pub altered : e.altered.items ≡ found_along (altered_mark id) calls
  pub count : length e.altered.items ≡ length (altered_of (marks_of id calls))

-- a batch was taken
pub record TakesBatch (moment : ℕ) (seals : List Seal) (old new : Entries) : Type 0 where
  pub entries : new.count ≡ old.count + 1
  pub batches : new.batches ≡ old.batches + 1
  pub marks : new.marks ≡ old.marks
  pub filed : new.latest_filed ≡ max old.latest_filed moment
  pub marked : new.latest_marked ≡ old.latest_marked
  pub missing : new.missing.items ≡ old.missing.items ++ listed (not (has_own_seal old.batches (batch_of moment seals))) (SealMissing old.batches)
  pub over : new.over.items ≡ old.over.items
  pub falls : new.falls.items ≡ old.falls.items ++ listed (nat_lt moment old.latest_filed) (SecondsFall (old.count + 1) old.latest_filed moment)
  pub altered : new.altered.items ≡ old.altered.items

-- a mark was taken
pub record TakesMark (mark : Mark) (old new : Entries) : Type 0 where
  pub entries : new.count ≡ old.count + 1
  pub batches : new.batches ≡ old.batches
  pub marks : new.marks ≡ old.marks + 1
  pub filed : new.latest_filed ≡ old.latest_filed
  pub marked : new.latest_marked ≡ max old.latest_marked mark.moment
  pub missing : new.missing.items ≡ old.missing.items
  pub over : new.over.items ≡ old.over.items ++ listed (nat_lt (old.batches - 1) mark.tiles || is_other_tile mark.tiles mark.outcome) (MarkOver (old.marks + 1) mark.tiles (old.batches - 1))
  pub falls : new.falls.items ≡ old.falls.items ++ listed (nat_lt mark.moment (max old.latest_filed old.latest_marked)) (SecondsFall (old.count + 1) (max old.latest_filed old.latest_marked) mark.moment)
  pub altered : new.altered.items ≡ old.altered.items ++ listed (is_altered mark.outcome) (AlteredMark (old.marks + 1) mark.moment (length old.altered.items + 1))
