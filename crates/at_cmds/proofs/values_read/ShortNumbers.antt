-- Values of short runs of digits.
use Rattle.std.specs.Prelude.{ℕ, ◌^◌, ◌<◌, ◌≤◌}
use Rattle.std.proofs.Common.{arith}
use Rattle.std.proofs.Math.Nat.{pow-le-pow_right}

-- the value of fewer than eight hexadecimal digits leaves room for one more in 32 bits
pub below_eight : (i n value : ℕ) → value < 16 ^ i → i < n → n ≤ 8 → value < 268435456
below_eight i n value below more short =
    let seven : i ≤ 7 = omega arith in
    let sixteen : 0 < 16 = omega arith in
    let most : 16 ^ i ≤ 16 ^ 7 = pow-le-pow_right sixteen seven in
    omega arith
