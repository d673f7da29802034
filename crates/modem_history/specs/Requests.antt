-- Requests by their caller, and by what they ask for.
use Rattle.std.specs.Prelude.{ℕ, ◌==◌, ◌&&◌, not, Bool, true, List, [], ◌∷◌, if◌then◌else◌}
use Rattle.std.specs.List.{list_all}
use Rattle.modem_desk.specs.declared.request.Request.{Request}
use Rattle.modem_history.specs.Information.{command_on}

-- the request is a command on d
abbrev pub commands_on : ℕ → Request → Bool
commands_on d q = command_on d q.ask

-- the requests have different callers, or different numbers
abbrev pub is_apart : Request → Request → Bool
is_apart q r = not ((q.caller == r.caller) && (q.number == r.number))

-- no caller uses a number twice
abbrev pub are_distinct : List Request → Bool
are_distinct [] = true
are_distinct (q ∷ qs) = list_all (is_apart q) qs && are_distinct qs

-- the first of a list that passes a test is left out
abbrev pub without_first : (Request → Bool) → List Request → List Request
without_first test [] = []
without_first test (q ∷ qs) = if test q then qs else q ∷ without_first test qs
