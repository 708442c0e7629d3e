-- What is odd about a store and a book together. `k` is what is known of the store, and `b` of the book.
use Rattle.std.specs.Prelude.{ℕ, ◌+◌, ◌-◌, ◌*◌, ◌^◌, ◌==◌, nat_lt, min, if◌then◌else◌, List, [], ◌++◌, length}
use Rattle.std.specs.List.{flat_map}
use Rattle.digest_model.specs.Layout.{Era, layout_by, first_granule}
use Rattle.notary_link.specs.Notary.{Call, file, note}
use Rattle.notary_book.specs.Books.{calls_in}
use Rattle.file_findings.specs.declared.finding.Finding.{Finding}
use Rattle.file_findings.specs.declared.finding.Finding.TheVariants.{StoreBehind, UnsealedEra, UnsealedFrontier, BatchEarly}
use Rattle.file_findings.specs.Along.{listed, found_along}
use Rattle.store_inspect.specs.declared.seen.StoreKnown.{StoreKnown}
use Rattle.book_inspect.specs.declared.book.BookSeen.{BookSeen}
use Rattle.book_inspect.specs.Entries.{batches_of}

-- how many tiles are sealed: the first batch is the header's
abbrev pub sealed_by : BookSeen → ℕ
sealed_by b = b.batches - 1

-- the moment at which the first so many tiles have ended, as far as a number of 64 bits goes
abbrev pub end_of : StoreKnown → ℕ → ℕ
end_of k tiles = min (first_granule (layout_by k.eras) (min tiles (2 ^ 32 - 1)) * k.header.width) (2 ^ 64 - 1)

-- ---- the store

-- the last sealed tile ends after the store's last moment
abbrev pub store_behind : StoreKnown → ℕ → List Finding
store_behind k sealed = listed (nat_lt k.last (end_of k sealed)) (StoreBehind (sealed - 1) (end_of k sealed) k.last)

-- ---- the book

-- an era, which stands after those before it, begins at a tile that isn't sealed. The header's is era 0
abbrev pub unsealed_era : ℕ → List Era → Era → List Finding
unsealed_era sealed before e = listed (nat_lt sealed e.tile) (UnsealedEra (length before + 1) e.tile sealed)

-- so many tiles had ended at the Frontier of a filing, and not all of them are sealed
abbrev pub unsealed_frontier : ℕ → ℕ → List Finding
unsealed_frontier sealed tiles = listed (nat_lt sealed tiles) (UnsealedFrontier (tiles - 1) sealed)

-- the second at which the tile of the batch of an index had ended; the header's batch may be of any
abbrev pub end_second : StoreKnown → ℕ → ℕ
end_second k index = if index == 0 then 0 else min (k.header.epoch + end_of k index) (2 ^ 64 - 1)

-- the batch of an index is of a second before its tile had ended
abbrev pub early_at : StoreKnown → ℕ → ℕ → List Finding
early_at k index second = listed (nat_lt second (end_second k index)) (BatchEarly index second (end_second k index))

abbrev pub batch_early : StoreKnown → ℕ → List Call → Call → List Finding
batch_early k id before (file i index batch) = if i == id then early_at k (length (batches_of id before)) batch.moment else []
batch_early k id before (note i mark) = []

-- what is odd about a book by the store
abbrev pub of_both : StoreKnown → ℕ → BookSeen → List Finding
of_both k id b =
    found_along (unsealed_era (sealed_by b)) k.eras.later
    ++ (flat_map (unsealed_frontier (sealed_by b)) k.filed.items ++ found_along (batch_early k id) (calls_in b.payloads))
