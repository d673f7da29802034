-- What goes out next (27.010, 5.4): the control queue in its order, and where it is empty data. It says
-- which of several lawful frames goes. A session's history and a replay's pieces keep it; another end's
-- history need not, so it is no part of `Lawful`.
use Rattle.std.specs.Prelude.{◌≡◌, ℕ, ◌+◌, ◌-◌, ◌==◌, ◌&&◌, not, Bool, List, [], ◌∷◌, length, take, drop, find, Option, None, Some, option_map, true, false, if◌then◌else◌}
use Rattle.std.specs.List.{concat, range_with_len}
use Rattle.mux_frame.specs.Frames.{Frame}
use Rattle.mux_frame.specs.declared.frame.Kind.TheVariants.{Uih}
use Rattle.mux_station.specs.declared.role.Role.{Role}
use Rattle.mux_station.specs.Written.{written}
use Rattle.mux_station.specs.Opening.{is_open}
use Rattle.mux_station.specs.Stopping.{is_stopped}
use Rattle.mux_station.specs.Offering.{last_sender}
use Rattle.mux_station.specs.Sending.{queue}
use Rattle.mux_station.specs.GivenFrames.{Outgoing, with_freshness}
use Rattle.at_text.specs.Dialects.{Dialect}
use Rattle.at_text.specs.Windows.{answered}
use Rattle.modem_history.specs.Acts.{Act, Sent, Given, wire}
use Rattle.modem_history.specs.Information.{accepted, texts, information_out}
use Rattle.modem_history.specs.Placing.{marks}
use Rattle.modem_history.specs.Calls.{Setting, is_lost}
use Rattle.modem_history.specs.Lawful.{OnData}

-- ## Data

-- what may leave d: the accepted commands, joined as far as the first whose answer isn't whole
abbrev pub may_leave : Dialect → Role → ℕ → List Act → List ℕ
may_leave dialect r d past = concat (texts (take (answered dialect (marks r d past) + 1) (accepted r d past)))

-- what waits on d: what may leave it, without what left already
abbrev pub waits_on : Dialect → Role → ℕ → List Act → List ℕ
waits_on dialect r d past = drop (length (information_out r d past)) (may_leave dialect r d past)

-- d is open and not stopped, and octets wait on it
abbrev pub may_send : Dialect → Role → List Act → ℕ → Bool
may_send dialect r past d =
    is_open r d (wire past) && (not (is_stopped r d (wire past)) && not (length (waits_on dialect r d past) == 0))

-- the connections from d on, in rising order
abbrev pub from_on : ℕ → List ℕ
from_on d = range_with_len d (62 - d)

abbrev pub else_by : Option ℕ → Option ℕ → Option ℕ
else_by (Some d) o = Some d
else_by None o = o

-- the connection whose turn it is: the least that is ready above the one that last sent data, else the least that is
-- ready
abbrev pub next_to_send : Dialect → Role → List Act → Option ℕ
next_to_send dialect r past =
    else_by (find (may_send dialect r past) (from_on (last_sender (wire past) + 1)))
    (find (may_send dialect r past) (from_on 1))

-- the data frame of d: as many octets as wait, at most N1
abbrev pub data_of : Setting → List Act → ℕ → Frame
data_of s past d = written s.role Uih d (take s.n1 (waits_on s.dialect s.role d past))

-- ## What goes out

-- the first of the queued frames, or else data, which is fresh
abbrev pub out_by : Setting → List Act → List Frame → Option Outgoing
out_by s past (f ∷ fs) = Some (with_freshness false f)
out_by s past [] = option_map (λ (d : ℕ). with_freshness true (data_of s past d)) (next_to_send s.dialect s.role past)

-- what goes out next; nothing after a loss
abbrev pub next_out : Setting → List Act → Option Outgoing
next_out s past = if is_lost past then None else out_by s past (queue (wire past))

-- data is sent as it goes out; a control frame was sent when it was queued, and is marked as given on
abbrev pub act_out : Outgoing → Act
act_out o = if o.fresh then Sent o.frame else Given

abbrev pub with_out : Option Outgoing → List Act → List Act
with_out None past = past
with_out (Some o) past = act_out o ∷ past

abbrev pub after_out : Setting → List Act → List Act
after_out s past = with_out (next_out s past) past

-- each data frame was the next to go out when it was sent: of the connection whose turn it was, and with as
-- many octets as waited there, at most N1
abbrev pub SendsInTurn : Setting → List Act → Type 0
SendsInTurn s [] = Unit {0}
SendsInTurn s (a ∷ past) =
    OnData (λ (f : Frame). next_out s past ≡ Some (with_freshness true f)) a × SendsInTurn s past
