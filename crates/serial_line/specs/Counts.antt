-- Counts that stop at u64::MAX.
use Rattle.std.specs.Prelude.{ℕ, ◌+◌, ◌-◌, ◌^◌, ◌==◌, ◌&&◌, nat_lt, min, if◌then◌else◌}

-- a count that stays at u64::MAX
abbrev pub saturated : ℕ → ℕ
saturated n = min n (2 ^ 64 - 1)

-- one more
abbrev pub one_more : ℕ → ℕ
one_more n = saturated (n + 1)

-- a count of calls that moved nothing, after a call that could move so many octets and moved n
abbrev pub counted_if_none : (could n count : ℕ) → ℕ
counted_if_none could n count = if nat_lt 0 could && (n == 0) then one_more count else count
