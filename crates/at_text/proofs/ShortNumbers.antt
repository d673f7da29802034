-- Values of short runs of digits.
use Rattle.std.specs.Prelude.{ℕ, ◌^◌, ◌<◌, ◌≤◌}
use Rattle.std.proofs.Common.{arith}
use Rattle.std.proofs.Math.Nat.{pow-le-pow_right}

-- the value of fewer than nine digits leaves room for one more in 32 bits
pub below_nine : (i n value : ℕ) → value < 10 ^ i → i < n → n ≤ 9 → value < 100000000
below_nine i n value below more short =
    let eight : i ≤ 8 = omega arith in
    let ten : 0 < 10 = omega arith in
    let most : 10 ^ i ≤ 10 ^ 8 = pow-le-pow_right ten eight in
    omega arith
