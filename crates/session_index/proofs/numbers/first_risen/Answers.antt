use Rattle.std.proofs.Common.{◌≡◌, rules, nat_le, true, false, arith}
use Rattle.std.specs.List.Sorted.{IsPartitionPoint}
use Rattle.std.proofs.lemmas.Fn.{always_returns_same}
use Rattle.std.proofs.lemmas.List.Sorted.{IsPartitionedBy-leb}
use Rattle.session_index.proofs.Rising.{first_is, none_is}
use Rattle.session_index.proofs.numbers.first_risen.Goals as goal

pub returns-then-first-numbers : goal.returns-then-first-numbers
returns-then-first-numbers c =
    let xs = c.args.numbers.now in
    let parted : IsPartitionPoint (λ y. nat_le y c.args.begun ≡ true) (λ y. nat_le y c.args.begun ≡ false) c.args.numbers.now c.partition_point-first.result =
    c.partition_point-first.ensures.partitioned (λ y. nat_le y c.args.begun) (always_returns_same _ _ _ (λ a r f' called. (search rules, search rules))) (IsPartitionedBy-leb (λ k. k) xs c.args.begun c.requires.rise) in
    record { value = first_is c.args.begun xs c.partition_point-first.result parted.0 parted.1 (omega arith) }

pub returns-else-first-numbers : goal.returns-else-first-numbers
returns-else-first-numbers c =
    let xs = c.args.numbers.now in
    let parted : IsPartitionPoint (λ y. nat_le y c.args.begun ≡ true) (λ y. nat_le y c.args.begun ≡ false) c.args.numbers.now c.partition_point-first.result =
    c.partition_point-first.ensures.partitioned (λ y. nat_le y c.args.begun) (always_returns_same _ _ _ (λ a r f' called. (search rules, search rules))) (IsPartitionedBy-leb (λ k. k) xs c.args.begun c.requires.rise) in
    record { value = none_is c.args.begun xs (λ k d from to. parted.0 k d from (omega arith)) }
