-- Whether a connection is stopped (27.010, 5.4.6.3.1, 5.4.6.3.2, 5.4.6.3.7), read over the past.
use Rattle.std.specs.Prelude.{ℕ, ◌==◌, ◌&&◌, ◌||◌, not, Bool, true, false, List, [], ◌∷◌, Option, Some, None, if◌then◌else◌, unwrap_or}
use Rattle.mux_station.specs.declared.role.Role.{Role}
use Rattle.mux_station.specs.Messages.{Message, message_in, msc, fcon, fcoff, msc_dlci, msc_stops}
use Rattle.mux_station.specs.Acts.{Act, Got}
use Rattle.mux_station.specs.Opening.{since, is_open}

-- what the last of the acts (newest first) that says something says
abbrev pub last_said : (Act → Option Bool) → List Act → Bool
last_said say [] = false
last_said say (a ∷ acts) = unwrap_or (say a) (last_said say acts)

-- an MSC command for d stops it or starts it
abbrev pub msc_says : ℕ → Message → Option Bool
msc_says d m = if (m.octet == msc) && (msc_dlci m.value == d) then Some (msc_stops m.value) else None

-- FCoff stops all connections but 0, FCon starts them
abbrev pub flow_says : Message → Option Bool
flow_says m = if m.octet == fcoff then Some true else (if m.octet == fcon then Some false else None)

abbrev pub if_message : (Message → Option Bool) → Option Message → Option Bool
if_message say None = None
if_message say (Some m) = say m

abbrev pub got_says : (Message → Option Bool) → Act → Option Bool
got_says say (Got f) = if_message say (message_in f)
got_says say _ = None

-- d is stopped by its own MSC, or with all connections by FCoff
abbrev pub is_stopped : Role → ℕ → List Act → Bool
is_stopped r d past =
    not (d == 0)
    && ((is_open r d past && last_said (got_says (msc_says d)) (since r d past))
    || (is_open r 0 past && last_said (got_says flow_says) (since r 0 past)))
