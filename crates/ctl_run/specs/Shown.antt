-- What `bench` prints.
use Rattle.std.specs.Prelude.{ℕ, ◌+◌, List, [], ◌∷◌, ◌++◌}
use Rattle.modem_desk.specs.declared.request.Outcome.{Outcome}
use Rattle.ctl_text.specs.Texts.{told_text}

-- what a caller was told of its lines from this place on
abbrev pub told_from : ℕ → ℕ → List Outcome → List ℕ
told_from caller place [] = []
told_from caller place (o ∷ outcomes) =
    told_text caller place o.answer ++ told_from caller (place + 1) outcomes

-- what the callers from this one on were told
abbrev pub callers_from : ℕ → List (List Outcome) → List ℕ
callers_from caller [] = []
callers_from caller (outcomes ∷ more) = told_from caller 1 outcomes ++ callers_from (caller + 1) more

-- what the callers were told
abbrev pub outcomes_text : List (List Outcome) → List ℕ
outcomes_text all = callers_from 0 all
