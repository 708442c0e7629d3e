-- Spans around blocks of spots.
use Rattle.std.specs.Prelude.{ℕ, ◌+◌, ◌-◌, ◌<◌, ◌≤◌, nat_lt, min, max, Bool, ◌&&◌, List, length, slice_index_or}
use Rattle.std.specs.Int.Bits.{bit_and}
use Rattle.sequenced_query.specs.declared.span.Span.{Span}
use Rattle.sequenced_query.specs.declared.blocks.Entry.{Entry}

-- each of two spans begins before the other ends
abbrev pub meets : Span → Span → Bool
meets a b = nat_lt a.from b.to && nat_lt b.from a.to

abbrev pub around : Span → Span → Span
around a b = record { from = min a.from b.from; to = max a.to b.to }

abbrev pub IsInside : Span → Span → Type 0
IsInside a b = (b.from ≤ a.from) × (a.to ≤ b.to)

-- how many of the first n entries are before the block that the last of them closes: n without its lowest bit
abbrev pub block_start : ℕ → ℕ
block_start n = bit_and n (n - 1)

-- the parts of the entries of each block are inside the span that its last entry knows
abbrev pub AreBlocks : List Entry → Type 0
AreBlocks es = (k j : ℕ) (d : Entry) → k < length es → block_start (k + 1) ≤ j → j ≤ k → IsInside (slice_index_or es j d).spot.part (slice_index_or es k d).block
