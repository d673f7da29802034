-- What a station does at a tick, one connection after the other (27.010, 5.4.1, 5.4.2 and 5.7.3).
use Rattle.std.specs.Prelude.{zero, suc, ℕ, ◌+◌, ◌==◌, Bool, false, List, [], ◌∷◌, ◌++◌, Option, Some, None, if◌then◌else◌, slice_set}
use Rattle.mux_frame.specs.Frames.{Frame}
use Rattle.mux_frame.specs.declared.frame.Kind.TheVariants.{Sabm, Disc}
use Rattle.mux_station.specs.declared.role.Role.{Role}
use Rattle.mux_station.specs.Written.{written}
use Rattle.mux_station.specs.States.{State, IsShut, IsOpening, IsOpened, IsClosing, IsStopping}
use Rattle.mux_station.specs.Tables.{again, if_room, has_room, octets_of}
use Rattle.mux_station.specs.Sending.{Waiting}
use Rattle.mux_station.specs.Stations.{Station, channel_at, asked_in}

-- what is given up at a tick
pub data Up : Type 0 where
  UpChannel : (dlci : ℕ) → Up
  UpProbe : Up

-- a connection is given up at its fourth tick, an opening where its DISC fits
abbrev pub gives_up : State → List Frame → Bool
gives_up (IsOpening n) [] = false
gives_up (IsOpening n) (f ∷ fs) = n == 3
gives_up (IsClosing n) fs = n == 3
gives_up (IsStopping n) fs = n == 3
gives_up s fs = false

-- the connections that are given up, of so many from d on, behind what this tick queued already
abbrev pub given_up : Role → ℕ → (ℕ → State) → ℕ → ℕ → ℕ → List Up
given_up r n1 state queued d zero = []
given_up r n1 state queued d (suc count) =
    let here = if_room n1 queued (again r d (state d)) in
    (if gives_up (state d) here then UpChannel d ∷ [] else [])
    ++ given_up r n1 state (queued + octets_of here) (d + 1) count

-- the probe is given up at its fourth tick
abbrev pub probe_up : Option Waiting → List Up
probe_up None = []
probe_up (Some w) = if w.ticks == 3 then UpProbe ∷ [] else []

-- what a tick gives up of so many connections from d on, by what a station keeps
unfoldable pub given_up_in : Station → ℕ → ℕ → List Up
given_up_in v d count = given_up v.role v.n1 (λ e. (channel_at v e).state) (octets_of v.queue) d count

-- what a tick gives up: connections in rising order, then the probe
abbrev pub noticed : Station → List Up
noticed v = given_up_in v 0 62 ++ probe_up v.probe

-- ## The station

-- the station, d turned to another state, everything of it afresh
abbrev pub turned_in : Station → ℕ → State → Station
turned_in v d state = record v {
  channels = slice_set v.channels d (record { state = state; is_stopped = false; waiting = [] });
}

-- where the frame fits it is queued and d turned
abbrev pub asked_if : Station → ℕ → State → Frame → Station
asked_if v d state f = if has_room v.n1 (octets_of v.queue) f then asked_in v d state f else v

-- the station after a tick of d, which is in this state
abbrev pub ticked_by : Station → ℕ → State → Station
ticked_by v d IsShut = v
ticked_by v d IsOpened = v
ticked_by v d (IsOpening n) =
    if n == 3 then asked_if v d IsShut (written v.role Disc d [])
    else asked_if v d (IsOpening (n + 1)) (written v.role Sabm d [])
ticked_by v d (IsClosing n) =
    if n == 3 then turned_in v d IsShut else asked_if v d (IsClosing (n + 1)) (written v.role Disc d [])
ticked_by v d (IsStopping n) = turned_in v d (if n == 3 then IsShut else IsStopping (n + 1))

-- the station after a tick of d
abbrev pub ticked_one : Station → ℕ → Station
ticked_one v d = ticked_by v d (channel_at v d).state

-- the station after a tick of so many connections from d on
unfoldable pub ticked_all : Station → ℕ → ℕ → Station
ticked_all v d zero = v
ticked_all v d (suc count) = ticked_all (ticked_one v d) (d + 1) count

-- the probe after a tick, if it still waits
abbrev pub ticked_probe : Option Waiting → Option Waiting
ticked_probe None = None
ticked_probe (Some w) = if w.ticks == 3 then None else Some (record w { ticks = w.ticks + 1 })

abbrev pub ticked_in : Station → Station
ticked_in v = let w = ticked_all v 0 62 in record w { probe = ticked_probe v.probe }
