-- Information of a connection and the commands that were accepted on it, read over the past.
use Rattle.std.specs.Prelude.{ℕ, ◌==◌, ◌&&◌, nat_lt, Bool, false, List, [], ◌∷◌, ◌++◌, length, map, Option, Some, None, if◌then◌else◌}
use Rattle.mux_station.specs.declared.role.Role.{Role}
use Rattle.mux_station.specs.Acts as station
use Rattle.mux_station.specs.Opening.{is_open, opens_now}
use Rattle.modem_desk.specs.declared.request.Ask.{Ask}
use Rattle.modem_desk.specs.declared.request.Ask.TheVariants.{Command}
use Rattle.modem_desk.specs.declared.request.Request.{Request}
use Rattle.modem_history.specs.Limits.{most_in_hand}
use Rattle.modem_history.specs.Acts.{Act, Took, Got, wire_act, wire, in_hand}
use Rattle.modem_history.specs.Connections.{information_got, information_sent}
pub use Rattle.modem_history.specs.Connections.{carries, info_of, info_got, info_sent}

-- information in, and out, of d since it opened
abbrev pub information_in : Role → ℕ → List Act → List ℕ
information_in r d past = information_got r d (wire past)

abbrev pub information_out : Role → ℕ → List Act → List ℕ
information_out r d past = information_sent r d (wire past)

-- the request is a command on d
abbrev pub command_on : ℕ → Ask → Bool
command_on d (Command e line) = e.number == d
command_on d _ = false

-- the act opens d
abbrev pub opens_by : Role → ℕ → List Act → Option station.Act → Bool
opens_by r d past None = false
opens_by r d past (Some a) = opens_now r d (wire past) a

abbrev pub opens_here : Role → ℕ → List Act → Act → Bool
opens_here r d past a = opens_by r d past (wire_act a)

-- a command taken while d is open is accepted, but for one that is told Busy since 128 requests are in hand
abbrev pub is_accepted : Role → ℕ → List Act → Request → Bool
is_accepted r d past q = is_open r d (wire past) && (command_on d q.ask && nat_lt (length (in_hand past)) most_in_hand)

-- the commands that were accepted on d since it opened, in order
abbrev pub accepted : Role → ℕ → List Act → List Request
accepted r d [] = []
accepted r d (Took q ∷ past) =
    if is_accepted r d past q then accepted r d past ++ q ∷ [] else accepted r d past
accepted r d (a ∷ past) = if opens_here r d past a then [] else accepted r d past

-- the commands that were accepted in each opening of d but the last, in turn; before the first there are none
abbrev pub earlier_accepted : Role → ℕ → List Act → List (List Request)
earlier_accepted r d [] = []
earlier_accepted r d (Got f ∷ past) =
    earlier_accepted r d past ++ (if opens_here r d past (Got f) then accepted r d past ∷ [] else [])
earlier_accepted r d (_ ∷ past) = earlier_accepted r d past

abbrev pub all_accepted : Role → ℕ → List Act → List (List Request)
all_accepted r d past = earlier_accepted r d past ++ accepted r d past ∷ []

-- the command line that is asked to be sent, or nothing
abbrev pub line_in : Ask → List ℕ
line_in (Command d line) = line
line_in _ = []

-- the text of the command
abbrev pub line_of : Request → List ℕ
line_of q = line_in q.ask

abbrev pub lines_by_opening : List (List Request) → List (List (List ℕ))
lines_by_opening qss = map (λ (qs : List Request). map line_of qs) qss

-- commands as they go out: each its text and CR
abbrev pub texts : List Request → List (List ℕ)
texts qs = map (λ (q : Request). line_of q ++ 13 ∷ []) qs
