-- The last leaf under a node.
use Rattle.std.proofs.Common.{◌≡◌, ℕ, ◌+◌, ◌-◌, ◌*◌, ◌/◌, ◌%◌, ◌^◌, arith}
use Rattle.std.proofs.lemmas.Nat.{shr_split}

pub last_leaf : (leaf level : ℕ) → (leaf + 1) % 2 ^ level ≡ 0 → ((leaf + 1) / 2 ^ level - 1 + 1) * 2 ^ level ≡ leaf + 1
last_leaf leaf level divides =
    let split = shr_split (leaf + 1) level in
    let none : (leaf + 1) / 2 ^ level ≡ 0 → ⊥ = λ e. (let z : 0 * 2 ^ level + (leaf + 1) % 2 ^ level ≡ leaf + 1 = rw e at split in omega (arith, z, divides)) in
    let e : (leaf + 1) / 2 ^ level - 1 + 1 ≡ (leaf + 1) / 2 ^ level = omega (arith, none) in
    rw e (omega (arith, split, divides))
