-- What adding to the file of a book may answer, and where the next gate is then.
use Rattle.std.proofs.Common.{◌≡◌, ℕ, List, [], length, Option, None, Some, Ok, Err, IfSome, sym, ap, ◌∙◌, arith}
use Rattle.std.proofs.lemmas.Option.{same_Some}
use Rattle.outside_words.specs.Told.{WhereTold, TellsAlike}
use Rattle.disk_words.specs.declared.DiskFail.{DiskFail}
use Rattle.disk_words.specs.declared.DiskFail.TheVariants.{Failed, NoMemory}
use Rattle.disk_words.specs.Disk.{State, GoesOn}
use Rattle.txn_journal.specs.declared.fail.JournalFail.{JournalFail}
use Rattle.txn_journal.specs.declared.fail.JournalFail.TheVariants as fails
use Rattle.txn_journal.specs.Create.{Refuses, Creates}
use Rattle.txn_journal.specs.Fail.{fail_of}
use Rattle.txn_journal.specs.Held.{Held, Standing, StandsIn, held_under, held_by, new_file}
use Rattle.txn_journal.specs.Opening.{held_of, IsOfDisk, IsNoFile}
use Rattle.txn_journal.specs.Reading.{left}
use Rattle.notary_book.specs.Adding.{Clears}
use Rattle.notary_book.specs.Books.{book_head, is_book_head, book_shape}

pub of_disk : (e : DiskFail) → IsOfDisk (fail_of e)
of_disk Failed = tt
of_disk NoMemory = tt

create_refused : (fail : JournalFail) (x : List ℕ) → x ≡ [] → Refuses x (Err fail) → IsOfDisk fail
create_refused fails.AlreadyThere x e taken = absurd (omega (arith, ap length e, taken.0))
create_refused fails.DiskFault x e r = tt
create_refused fails.NoMemory x e r = tt
create_refused fails.NotAStore x e r = absurd r
create_refused fails.StoreFull x e r = absurd r
create_refused fails.Closed x e r = absurd r

open_refused : (fail : JournalFail) (a : List ℕ) → held_by is_book_head book_shape a ≡ Some (new_file book_head) → IsNoFile is_book_head a fail → IsOfDisk fail
open_refused fails.NotAStore a holds none =
    let wrong : None ≡ Some (new_file book_head) = sym (ap (λ (o : Option (List ℕ)). held_under o (left book_shape 64 a)) none) ∙ holds in
    absurd cc
open_refused fails.DiskFault a holds r = tt
open_refused fails.NoMemory a holds r = tt
open_refused fails.AlreadyThere a holds r = absurd r
open_refused fails.StoreFull a holds r = absurd r
open_refused fails.Closed a holds r = absurd r

module _ (old mid next : State) (on : GoesOn old mid) (cleared : WhereTold old.reads mid.reads (Clears (Ok tt) old mid)) (on_next : GoesOn mid next) where
  pub only_created : (fail : JournalFail) → WhereTold mid.reads next.reads (Creates is_book_head book_shape book_head (Err fail) mid next) → IfSome old.reads (λ b. IsOfDisk fail)
  only_created fail created = by old.reads mid.reads next.reads on.told on_next.told cleared created
    where
      by : (o x n : Option (List ℕ)) → TellsAlike o x → TellsAlike x n → WhereTold o x (Clears (Ok tt) old mid) → WhereTold x n (Creates is_book_head book_shape book_head (Err fail) mid next) → IfSome o (λ b. IsOfDisk fail)
      by None x n t u c d = tt
      by (Some b) None n t u c d = absurd cc
      by (Some b) (Some x) None t u c d = absurd cc
      by (Some b) (Some x) (Some a) t u c d = create_refused fail x c.cleared d.refused

  module _ (created : WhereTold mid.reads next.reads (Creates is_book_head book_shape book_head (Ok tt) mid next)) where
    behind_made : (P : Type 0) (Q : List ℕ → Type 0) → IfSome next.reads Q → ((a : List ℕ) → held_by is_book_head book_shape a ≡ Some (new_file book_head) → Q a → P) → IfSome old.reads (λ b. P)
    behind_made P Q q f = by old.reads mid.reads next.reads on.told on_next.told created q
      where
        by : (o x n : Option (List ℕ)) → TellsAlike o x → TellsAlike x n → WhereTold x n (Creates is_book_head book_shape book_head (Ok tt) mid next) → IfSome n Q → IfSome o (λ b. P)
        by None x n t u d q = tt
        by (Some b) None n t u d q = absurd cc
        by (Some b) (Some x) None t u d q = absurd cc
        by (Some b) (Some x) (Some a) t u d q = f a d.holds q

    pub only_opened : (fail : JournalFail) → IfSome next.reads (λ a. IsNoFile is_book_head a fail) → IfSome old.reads (λ b. IsOfDisk fail)
    only_opened fail none = behind_made (IsOfDisk fail) (λ a. IsNoFile is_book_head a fail) none (λ a holds r. open_refused fail a holds r)

    pub end_opened : (head : List ℕ) (payloads : List (List ℕ)) (at : Standing) → IfSome next.reads (StandsIn is_book_head book_shape at (held_of head payloads at)) → IfSome old.reads (λ b. at.end ≡ 64)
    end_opened head payloads at stands = behind_made (at.end ≡ 64) (StandsIn is_book_head book_shape at (held_of head payloads at)) stands (λ a holds s. ap (λ (held : Held). held.end) (same_Some _ _ (sym s.holds ∙ holds)))
