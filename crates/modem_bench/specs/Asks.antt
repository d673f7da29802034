-- What the callers of a bench ask for.
use Rattle.std.specs.Prelude.{◌≡◌, ℕ, zero, suc, ◌==◌, ◌||◌, Bool, List, [], ◌∷◌, ◌++◌, Option, None, Some, filter, map, if◌then◌else◌}
use Rattle.std.specs.List.{list_any}
use Rattle.modem_desk.specs.declared.request.Ask.{Ask}
use Rattle.modem_desk.specs.declared.request.Ask.TheVariants as ask
use Rattle.modem_bench.specs.declared.submission.Submission.{Submission}

-- one of the submissions is for this connection
abbrev pub is_named : List Submission → ℕ → Bool
is_named all d = list_any (λ (s : Submission). s.dlci.number == d) all

-- the command of a submission
abbrev pub command_of : Submission → Ask
command_of s = ask.Command s.dlci s.line

-- what this caller asks for, in order
abbrev pub asks_for : ℕ → List Submission → List Ask
asks_for caller all = map command_of (filter (λ (s : Submission). s.caller == caller) all)

-- 0, and the connections below this one that the submissions are for, in rising order
abbrev pub channels_below : List Submission → ℕ → List ℕ
channels_below all zero = []
channels_below all (suc n) =
    if (n == 0) || is_named all n then channels_below all n ++ n ∷ [] else channels_below all n

-- the connection that is to be opened
abbrev pub opened_by : Ask → Option ℕ
opened_by (ask.OpenChannel d) = Some d.number
opened_by _ = None

-- these asks open 0, and then each connection below this one that the submissions are for, in rising order
abbrev pub AreOpenings : List Submission → ℕ → List Ask → Type 0
AreOpenings all n asks = map opened_by asks ≡ map Some (channels_below all n)
