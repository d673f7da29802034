-- What a line in memory lets through.
use Rattle.std.specs.Prelude.{ℕ, ◌-◌, ◌^◌, nat_lt, min, List, [], ◌∷◌, Result, Ok, Err, if◌then◌else◌}
use Rattle.serial_line.specs.declared.cuts.Cut.{Cut}
use Rattle.serial_line.specs.declared.cuts.Cut.TheVariants.{Upto, Fault}
use Rattle.serial_line.specs.declared.line.LineFault.{LineFault}

-- what a call that could move n octets comes to, by the first of the entries that are left, after so many
-- failures: with none left there is no limit, and no fault is given once the count of failures is at its end
abbrev pub outcome_of : List Cut → ℕ → ℕ → Result ℕ LineFault
outcome_of [] failures n = Ok n
outcome_of (Upto k ∷ cuts) failures n = Ok (min n k)
outcome_of (Fault ∷ cuts) failures n = if nat_lt failures (2 ^ 64 - 1) then Err (record {}) else Ok 0
