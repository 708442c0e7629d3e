-- Items that are no transactions.
use Rattle.std.proofs.Common.{◌≡◌, ◌⊎◌, ℕ, inl, inr, sym, subst}
use Rattle.tuple_bytes.specs.declared.item.Item.{Item}
use Rattle.tuple_bytes.specs.declared.item.Item.TheVariants as items

-- a Frontier or a policy, as an arm of a match has it
abbrev pub IsOther : Item → Type 0
IsOther item = ((m : ℕ) × (item ≡ items.Frontier m)) ⊎ ((tile : ℕ) × (granule : ℕ) × (k : ℕ) × (algs : ℕ) × (item ≡ items.Policy tile granule k algs))

-- what holds of both holds of it
pub of_other : (P : Item → Type 0) → ((m : ℕ) → P (items.Frontier m)) → ((tile granule k algs : ℕ) → P (items.Policy tile granule k algs)) → (item : Item) → IsOther item → P item
of_other P frontier policy item (inl f) = subst P (sym f.1) (frontier f.0)
of_other P frontier policy item (inr p) = subst P (sym p.4) (policy p.0 p.1 p.2 p.3)
