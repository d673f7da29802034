-- Registration (27.007, 7.2).
use Rattle.std.specs.Prelude.{ℕ, nat_eq, List, [], ◌∷◌, drop, Option, Some, None, if◌then◌else◌, codes}
use Rattle.std.specs.List.{starts_with}
use Rattle.at_cmds.specs.declared.registration.Registration.{Registration}
use Rattle.at_cmds.specs.Params.{◌>>=◌, parameters, number_of, cell_code_of, optional}

-- AcT: left out with its comma, left out behind it, or a number
abbrev pub act_of : List (List ℕ) → Option (Option ℕ)
act_of [] = Some None
act_of (act ∷ more) = optional number_of act

-- stat, or stat, lac, ci and optionally AcT; what follows AcT is passed over
unfoldable pub registration_of : List (List ℕ) → Option Registration
registration_of [] = None
registration_of (stat ∷ []) = do
  s ← number_of stat
  Some (record { stat = s; lac = None; ci = None; act = None })
registration_of (stat ∷ lac ∷ []) = None
registration_of (stat ∷ lac ∷ ci ∷ more) = do
  s ← number_of stat
  l ← optional cell_code_of lac
  c ← optional cell_code_of ci
  a ← act_of more
  Some (record { stat = s; lac = l; ci = c; act = a })

-- the unsolicited form: the name, then the parameters
unfoldable pub reported_of : List ℕ → Option Registration
reported_of line =
    if starts_with nat_eq line (codes "+CREG:") then registration_of (parameters (drop 6 line)) else None
