-- What is known of a book that is held against other lists, after some payloads.
use Rattle.std.specs.Prelude.{◌≡◌, ℕ, ◌+◌, ◌++◌, if◌then◌else◌, List, length}
use Rattle.file_findings.specs.Along.{found_along}
use Rattle.book_inspect.specs.declared.copies.Compared.{Compared}
use Rattle.book_inspect.specs.declared.copies.Lists.{Lists}
use Rattle.book_inspect.specs.declared.copies.Own.{Own}
use Rattle.book_inspect.specs.Copies.{is_batch, is_mark, filed_of, noted_of, apart_by, apart}

pub record KnowsApart (id : ℕ) (other : Lists) (c : Compared) (before : List (List ℕ)) : Type 0 where
  pub entries : c.entries ≡ length before
  pub batches : c.batches ≡ length (filed_of id before)
  pub marks : c.marks ≡ length (noted_of id before)
  pub found : c.found.items ≡ found_along (apart id other) before

-- an entry was taken
pub record TakesOwn (own : Own) (other : Lists) (payload : List ℕ) (old new : Compared) : Type 0 where
  pub entries : new.entries ≡ old.entries + 1
  pub batches : new.batches ≡ old.batches + (if is_batch own then 1 else 0)
  pub marks : new.marks ≡ old.marks + (if is_mark own then 1 else 0)
  pub found : new.found.items ≡ old.found.items ++ apart_by own other (old.entries + 1) old.batches old.marks payload
