use Rattle.std.proofs.Common.{◌≡◌, ◌-◌, ◌*◌, ◌%◌, ◌^◌, ◌≤◌, arith}
use Rattle.std.proofs.lemmas.Nat.{mul-le}
use Rattle.std.proofs.Math.Pow.{pow_mono}
use Rattle.policy_eras.proofs.Reaching.{first_is, small_exponent, alone_first}
use Rattle.policy_eras.proofs.finding.first_of.Goals as goal

pub returns-then-is_empty : goal.returns-then-is_empty
returns-then-is_empty c =
    let small : 2 ^ c.args.first.k ≤ 2 ^ 10 = pow_mono c.requires.head.1 in
    let most : c.args.tile * 2 ^ c.args.first.k ≤ 4294967296 * 2 ^ 10 = mul-le c.args.tile (2 ^ c.args.first.k) 4294967296 (2 ^ 10) (let f = c.ranges.tile.fits in omega (arith, f)) small in
    let formula = alone_first c.args.first c.args.later.now c.args.tile c.requires c.if-is_empty.ensures in
    let a = c.from.ensures in
    let shifted : c.from.result * 2 ^ c.args.first.k % 18446744073709551616 ≡ c.args.tile * 2 ^ c.args.first.k = rw a (omega (arith, most)) in
    record {
      value = omega (arith, formula, shifted);
      small = omega (arith, shifted, most);
    }

pub returns : goal.returns
returns c =
    let era = c.era_at-era.result in
    let is = c.era_at-era.ensures in
    let k = small_exponent c.args.first c.args.later.now c.args.tile c.era_at-era.result c.requires c.era_at-era.ensures in
    let small : 2 ^ c.era_at-era.result.k ≤ 2 ^ 10 = pow_mono k in
    let most : (c.args.tile - c.era_at-era.result.tile) * 2 ^ c.era_at-era.result.k ≤ 4294967296 * 2 ^ 10 = mul-le (c.args.tile - c.era_at-era.result.tile) (2 ^ c.era_at-era.result.k) 4294967296 (2 ^ 10) (let f = c.ranges.tile.fits in omega (arith, f)) small in
    let formula = first_is c.args.first c.args.later.now c.args.tile c.era_at-era.result c.requires c.era_at-era.ensures in
    let a = c.from-2.ensures in
    let b = c.from-3.ensures in
    let shifted : c.from-3.result * 2 ^ c.era_at-era.result.k % 18446744073709551616 ≡ (c.args.tile - c.era_at-era.result.tile) * 2 ^ c.era_at-era.result.k = rw b (omega (arith, most)) in
    record {
      value = omega (arith, formula, a, shifted);
      small = (let range = c.era_at-era.type_inv in omega (arith, a, shifted, most, range));
    }
