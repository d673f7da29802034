-- Steps of a responder, by its table and the control messages (27.010, 5.4).
use Rattle.std.specs.Prelude.{ℕ, false, List, [], ◌∷◌, None}
use Rattle.mux_frame.specs.Frames.{Frame}
use Rattle.mux_frame.specs.declared.frame.Kind.{Kind}
use Rattle.mux_frame.specs.declared.frame.Kind.TheVariants.{Sabm, Ua, Dm, Disc, Uih}
use Rattle.mux_station.specs.declared.role.Role.TheVariants.{Initiator, Responder}
use Rattle.mux_station.specs.declared.error.StationError.TheVariants.{NotOpen, Busy, ControlChannel}
use Rattle.mux_station.specs.declared.noted.Noted.TheVariants.{Opened, Closed, Reset, AllClosed, Nothing}
use Rattle.mux_station.specs.Acts.{Close, Probe, Stop, Flow}
use Rattle.mux_station.specs.States.{IsShut, IsOpened, IsClosing, IsStopping}
use Rattle.mux_station.specs.Written.{written}
use Rattle.mux_station.specs.StepRows.{Step, comes, asks, refuses, ticks, stands, waiting}

abbrev pub come : Kind → ℕ → List ℕ → Frame
come k d info = written Initiator k d info

abbrev pub out : Kind → ℕ → List ℕ → Frame
out k d info = written Responder k d info

abbrev pub of_a_responder : List Step
of_a_responder =
    -- while 0 is shut a SABM on another connection is refused; then 0, 1 and 2 are opened, each told its
    -- signals
    comes (come Sabm 1 []) Nothing (out Dm 1 [] ∷ []) (stands IsShut IsShut IsShut [] None)
    ∷ comes (come Sabm 0 []) Opened (out Ua 0 [] ∷ []) (stands IsOpened IsShut IsShut [] None)
    ∷ comes (come Sabm 1 []) Opened (out Ua 1 [] ∷ out Uih 0 (227 ∷ 5 ∷ 7 ∷ 141 ∷ []) ∷ [])
    (stands IsOpened IsOpened IsShut [] None)
    ∷ comes (come Sabm 2 []) Opened (out Ua 2 [] ∷ out Uih 0 (227 ∷ 5 ∷ 11 ∷ 141 ∷ []) ∷ [])
    (stands IsOpened IsOpened IsOpened [] None)
    -- one probe at a time
    ∷ asks (Probe (65 ∷ [])) (out Uih 0 (35 ∷ 3 ∷ 65 ∷ []) ∷ [])
    (stands IsOpened IsOpened IsOpened [] (waiting (65 ∷ []) 0))
    ∷ refuses (Probe (66 ∷ [])) Busy
    -- FCoff stops all but 0; a SABM on an open connection opens it afresh, and the stop of all stays
    ∷ comes (come Uih 0 (99 ∷ 1 ∷ [])) Nothing (out Uih 0 (97 ∷ 1 ∷ []) ∷ [])
    (stands IsOpened IsOpened IsOpened (1 ∷ 2 ∷ []) (waiting (65 ∷ []) 0))
    ∷ comes (come Sabm 1 []) Reset (out Ua 1 [] ∷ out Uih 0 (227 ∷ 5 ∷ 7 ∷ 141 ∷ []) ∷ [])
    (stands IsOpened IsOpened IsOpened (1 ∷ 2 ∷ []) (waiting (65 ∷ []) 0))
    -- an MSC stops its connection alone; a SABM on 0 opens 0 afresh, forgets stops and probe and shuts all
    -- others
    ∷ comes (come Uih 0 (227 ∷ 5 ∷ 11 ∷ 143 ∷ [])) Nothing (out Uih 0 (225 ∷ 5 ∷ 11 ∷ 143 ∷ []) ∷ [])
    (stands IsOpened IsOpened IsOpened (1 ∷ 2 ∷ []) (waiting (65 ∷ []) 0))
    ∷ comes (come Sabm 0 []) Reset (out Ua 0 [] ∷ []) (stands IsOpened IsShut IsShut [] None)
    -- a UA on a shut connection is nothing
    ∷ comes (come Ua 1 []) Nothing [] (stands IsOpened IsShut IsShut [] None)
    ∷ comes (come Sabm 1 []) Opened (out Ua 1 [] ∷ out Uih 0 (227 ∷ 5 ∷ 7 ∷ 141 ∷ []) ∷ [])
    (stands IsOpened IsOpened IsShut [] None)
    -- a DISC and a SABM that cross a closing: DM, and the closing goes on; by a SABM it is open again
    ∷ asks (Close 1) (out Disc 1 [] ∷ []) (stands IsOpened (IsClosing 0) IsShut [] None)
    ∷ comes (come Disc 1 []) Nothing (out Dm 1 [] ∷ []) (stands IsOpened (IsClosing 0) IsShut [] None)
    ∷ comes (come Sabm 1 []) Opened (out Ua 1 [] ∷ out Uih 0 (227 ∷ 5 ∷ 7 ∷ 141 ∷ []) ∷ [])
    (stands IsOpened IsOpened IsShut [] None)
    -- a closing is asked for again at a tick, and done by UA; a DM and a DISC on a shut connection
    ∷ asks (Close 1) (out Disc 1 [] ∷ []) (stands IsOpened (IsClosing 0) IsShut [] None)
    ∷ ticks (out Disc 1 [] ∷ []) (stands IsOpened (IsClosing 1) IsShut [] None)
    ∷ comes (come Ua 1 []) Closed [] (stands IsOpened IsShut IsShut [] None)
    ∷ comes (come Dm 1 []) Nothing [] (stands IsOpened IsShut IsShut [] None)
    ∷ comes (come Disc 2 []) Nothing (out Dm 2 [] ∷ []) (stands IsOpened IsShut IsShut [] None)
    -- a DM closes
    ∷ comes (come Sabm 1 []) Opened (out Ua 1 [] ∷ out Uih 0 (227 ∷ 5 ∷ 7 ∷ 141 ∷ []) ∷ [])
    (stands IsOpened IsOpened IsShut [] None)
    ∷ comes (come Dm 1 []) Closed [] (stands IsOpened IsShut IsShut [] None)
    -- flow of one connection and of all; a stop shuts all but 0, which is Stopping
    ∷ comes (come Sabm 1 []) Opened (out Ua 1 [] ∷ out Uih 0 (227 ∷ 5 ∷ 7 ∷ 141 ∷ []) ∷ [])
    (stands IsOpened IsOpened IsShut [] None)
    ∷ asks (Flow 1 false) (out Uih 0 (227 ∷ 5 ∷ 7 ∷ 143 ∷ []) ∷ []) (stands IsOpened IsOpened IsShut [] None)
    ∷ asks (Flow 0 false) (out Uih 0 (99 ∷ 1 ∷ []) ∷ []) (stands IsOpened IsOpened IsShut [] None)
    ∷ asks Stop (out Uih 0 (195 ∷ 1 ∷ []) ∷ []) (stands (IsStopping 0) IsShut IsShut [] None)
    -- Stopping answers a DISC by DM and a Test not at all; a SABM on 0 opens it
    ∷ comes (come Disc 0 []) Nothing (out Dm 0 [] ∷ []) (stands (IsStopping 0) IsShut IsShut [] None)
    ∷ comes (come Uih 0 (35 ∷ 3 ∷ 65 ∷ [])) Nothing [] (stands (IsStopping 0) IsShut IsShut [] None)
    ∷ comes (come Sabm 0 []) Opened (out Ua 0 [] ∷ []) (stands IsOpened IsShut IsShut [] None)
    -- a stop ends by its response
    ∷ asks Stop (out Uih 0 (195 ∷ 1 ∷ []) ∷ []) (stands (IsStopping 0) IsShut IsShut [] None)
    ∷ comes (come Uih 0 (193 ∷ 1 ∷ [])) AllClosed [] (stands IsShut IsShut IsShut [] None)
    -- a stop ends by a DM
    ∷ comes (come Sabm 0 []) Opened (out Ua 0 [] ∷ []) (stands IsOpened IsShut IsShut [] None)
    ∷ asks Stop (out Uih 0 (195 ∷ 1 ∷ []) ∷ []) (stands (IsStopping 0) IsShut IsShut [] None)
    ∷ comes (come Dm 0 []) AllClosed [] (stands IsShut IsShut IsShut [] None)
    ∷ comes (come Dm 0 []) Nothing [] (stands IsShut IsShut IsShut [] None)
    -- the initiator stops
    ∷ comes (come Sabm 0 []) Opened (out Ua 0 [] ∷ []) (stands IsOpened IsShut IsShut [] None)
    ∷ comes (come Sabm 1 []) Opened (out Ua 1 [] ∷ out Uih 0 (227 ∷ 5 ∷ 7 ∷ 141 ∷ []) ∷ [])
    (stands IsOpened IsOpened IsShut [] None)
    ∷ comes (come Uih 0 (195 ∷ 1 ∷ [])) AllClosed (out Uih 0 (193 ∷ 1 ∷ []) ∷ [])
    (stands IsShut IsShut IsShut [] None)
    -- the initiator closes 0
    ∷ comes (come Sabm 0 []) Opened (out Ua 0 [] ∷ []) (stands IsOpened IsShut IsShut [] None)
    ∷ comes (come Disc 0 []) AllClosed (out Ua 0 [] ∷ []) (stands IsShut IsShut IsShut [] None)
    ∷ []

abbrev pub ticks_of_a_responder : List Step
ticks_of_a_responder =
    -- a closing is asked for at three ticks and given up at the fourth
    comes (come Sabm 0 []) Opened (out Ua 0 [] ∷ []) (stands IsOpened IsShut IsShut [] None)
    ∷ comes (come Sabm 1 []) Opened (out Ua 1 [] ∷ out Uih 0 (227 ∷ 5 ∷ 7 ∷ 141 ∷ []) ∷ [])
    (stands IsOpened IsOpened IsShut [] None)
    ∷ asks (Close 1) (out Disc 1 [] ∷ []) (stands IsOpened (IsClosing 0) IsShut [] None)
    ∷ ticks (out Disc 1 [] ∷ []) (stands IsOpened (IsClosing 1) IsShut [] None)
    ∷ ticks (out Disc 1 [] ∷ []) (stands IsOpened (IsClosing 2) IsShut [] None)
    ∷ ticks (out Disc 1 [] ∷ []) (stands IsOpened (IsClosing 3) IsShut [] None)
    ∷ ticks [] (stands IsOpened IsShut IsShut [] None)
    -- a probe is given up at the fourth tick, and nothing is sent again
    ∷ asks (Probe (65 ∷ [])) (out Uih 0 (35 ∷ 3 ∷ 65 ∷ []) ∷ [])
    (stands IsOpened IsShut IsShut [] (waiting (65 ∷ []) 0))
    ∷ ticks [] (stands IsOpened IsShut IsShut [] (waiting (65 ∷ []) 1))
    ∷ ticks [] (stands IsOpened IsShut IsShut [] (waiting (65 ∷ []) 2))
    ∷ ticks [] (stands IsOpened IsShut IsShut [] (waiting (65 ∷ []) 3))
    ∷ ticks [] (stands IsOpened IsShut IsShut [] None)
    -- so is a stop; then nothing can be asked
    ∷ asks Stop (out Uih 0 (195 ∷ 1 ∷ []) ∷ []) (stands (IsStopping 0) IsShut IsShut [] None)
    ∷ ticks [] (stands (IsStopping 1) IsShut IsShut [] None)
    ∷ ticks [] (stands (IsStopping 2) IsShut IsShut [] None)
    ∷ ticks [] (stands (IsStopping 3) IsShut IsShut [] None)
    ∷ ticks [] (stands IsShut IsShut IsShut [] None)
    ∷ refuses (Close 0) ControlChannel
    ∷ refuses (Close 1) NotOpen
    ∷ refuses Stop NotOpen
    ∷ []
