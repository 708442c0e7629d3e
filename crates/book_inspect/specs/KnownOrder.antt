-- What is known of the order of some entries.
use Rattle.std.specs.Prelude.{◌≡◌, ℕ, ◌+◌, ◌==◌, nat_eq, not, unwrap_or, if◌then◌else◌, List, ◌++◌, length, Option, Some, None}
use Rattle.std.specs.declared.alloc.Global.{Global}
use Rattle.std.specs.Ordering.{nat_cmp}
use Rattle.std.specs.BTreeMap.{get}
use Rattle.std.specs.declared.collections.btree_map.BTreeMap.{BTreeMap}
use Rattle.notary_link.specs.Notary.{Call}
use Rattle.file_findings.specs.declared.finding.Finding.TheVariants.{DamagedList}
use Rattle.file_findings.specs.Along.{listed, found_along}
use Rattle.book_inspect.specs.declared.order.Order.{Order}
use Rattle.book_inspect.specs.Entries.{batches_of}
use Rattle.book_inspect.specs.Order.{first_id, out_of_turn}

-- how many batches were counted under an id
abbrev pub count_in : Order → ℕ → ℕ
count_in o id = unwrap_or (get nat_cmp o.counts id) 0

-- the first id, which stays
abbrev pub first_or : Option ℕ → ℕ → Option ℕ
first_or None id = Some id
first_or (Some first) id = Some first

pub record KnowsOrder (o : Order) (calls : List Call) : Type 0 where
  pub entries : o.entries ≡ length calls
  pub first : o.first ≡ first_id calls
  pub counts : (id : ℕ) → count_in o id ≡ length (batches_of id calls)
  pub found : o.found.items ≡ found_along out_of_turn calls

-- a batch was taken
pub record TakesTurn (id index : ℕ) (old new : Order) : Type 0 where
  pub entries : new.entries ≡ old.entries + 1
  pub first : new.first ≡ first_or old.first id
  pub counts : (q : ℕ) → count_in new q ≡ (if id == q then count_in old q + 1 else count_in old q)
  pub found : new.found.items ≡ old.found.items ++ listed (not (index == count_in old id)) (DamagedList (old.entries + 1))

-- a mark was taken
pub record TakesNone (id : ℕ) (old new : Order) : Type 0 where
  pub entries : new.entries ≡ old.entries + 1
  pub first : new.first ≡ first_or old.first id
  pub counts : (q : ℕ) → count_in new q ≡ count_in old q
  pub found : new.found.items ≡ old.found.items
