-- Steps of an initiator, by its table and the control messages (27.010, 5.4).
use Rattle.std.specs.Prelude.{ℕ, List, [], ◌∷◌, None, replicate}
use Rattle.mux_frame.specs.Frames.{Frame}
use Rattle.mux_frame.specs.declared.frame.Kind.{Kind}
use Rattle.mux_frame.specs.declared.frame.Kind.TheVariants.{Sabm, Ua, Dm, Disc, Uih}
use Rattle.mux_station.specs.declared.role.Role.TheVariants.{Initiator, Responder}
use Rattle.mux_station.specs.declared.error.StationError.TheVariants.{NotOpen, AlreadyOpen, Busy, TooLong}
use Rattle.mux_station.specs.declared.noted.Noted.TheVariants.{Opened, Refused, Closed, ProbeBack, ProbeRefused, AllClosed, Nothing}
use Rattle.mux_station.specs.Acts.{Open, Probe}
use Rattle.mux_station.specs.States.{IsShut, IsOpening, IsOpened}
use Rattle.mux_station.specs.Written.{written}
use Rattle.mux_station.specs.StepRows.{Step, comes, asks, refuses, ticks, stands, waiting}

abbrev pub come : Kind → ℕ → List ℕ → Frame
come k d info = written Responder k d info

abbrev pub out : Kind → ℕ → List ℕ → Frame
out k d info = written Initiator k d info

abbrev pub of_an_initiator : List Step
of_an_initiator =
    -- 0 is opened first, and a second time not
    refuses (Open 1) NotOpen
    ∷ asks (Open 0) (out Sabm 0 [] ∷ []) (stands (IsOpening 0) IsShut IsShut [] None)
    ∷ refuses (Open 0) Busy
    ∷ comes (come Ua 0 []) Opened [] (stands IsOpened IsShut IsShut [] None)
    ∷ comes (come Ua 0 []) Nothing [] (stands IsOpened IsShut IsShut [] None)
    ∷ refuses (Open 0) AlreadyOpen
    -- information while it is Opening is nothing; a DISC refuses, and a UA after that opens nothing
    ∷ asks (Open 1) (out Sabm 1 [] ∷ []) (stands IsOpened (IsOpening 0) IsShut [] None)
    ∷ comes (come Uih 1 (120 ∷ [])) Nothing [] (stands IsOpened (IsOpening 0) IsShut [] None)
    ∷ comes (come Disc 1 []) Refused (out Dm 1 [] ∷ []) (stands IsOpened IsShut IsShut [] None)
    ∷ comes (come Ua 1 []) Nothing [] (stands IsOpened IsShut IsShut [] None)
    -- 1 is opened and told its signals; an MSC stops and frees it; FCoff, here with an octet too many, stops
    -- all, and FCon frees all
    ∷ asks (Open 1) (out Sabm 1 [] ∷ []) (stands IsOpened (IsOpening 0) IsShut [] None)
    ∷ comes (come Ua 1 []) Opened (out Uih 0 (227 ∷ 5 ∷ 7 ∷ 141 ∷ []) ∷ [])
    (stands IsOpened IsOpened IsShut [] None)
    ∷ comes (come Uih 0 (227 ∷ 5 ∷ 7 ∷ 143 ∷ [])) Nothing (out Uih 0 (225 ∷ 5 ∷ 7 ∷ 143 ∷ []) ∷ [])
    (stands IsOpened IsOpened IsShut (1 ∷ []) None)
    ∷ comes (come Uih 0 (99 ∷ 3 ∷ 122 ∷ [])) Nothing (out Uih 0 (97 ∷ 3 ∷ 122 ∷ []) ∷ [])
    (stands IsOpened IsOpened IsShut (1 ∷ 2 ∷ []) None)
    ∷ comes (come Uih 0 (227 ∷ 5 ∷ 7 ∷ 141 ∷ [])) Nothing (out Uih 0 (225 ∷ 5 ∷ 7 ∷ 141 ∷ []) ∷ [])
    (stands IsOpened IsOpened IsShut (1 ∷ 2 ∷ []) None)
    ∷ comes (come Uih 0 (163 ∷ 1 ∷ [])) Nothing (out Uih 0 (161 ∷ 1 ∷ []) ∷ [])
    (stands IsOpened IsOpened IsShut [] None)
    -- a SABM from the responder closes
    ∷ comes (come Sabm 1 []) Closed (out Dm 1 [] ∷ []) (stands IsOpened IsShut IsShut [] None)
    -- an opening is asked for at three ticks and given up at the fourth with a DISC; a late UA opens nothing
    ∷ asks (Open 1) (out Sabm 1 [] ∷ []) (stands IsOpened (IsOpening 0) IsShut [] None)
    ∷ ticks (out Sabm 1 [] ∷ []) (stands IsOpened (IsOpening 1) IsShut [] None)
    ∷ ticks (out Sabm 1 [] ∷ []) (stands IsOpened (IsOpening 2) IsShut [] None)
    ∷ ticks (out Sabm 1 [] ∷ []) (stands IsOpened (IsOpening 3) IsShut [] None)
    ∷ ticks (out Disc 1 [] ∷ []) (stands IsOpened IsShut IsShut [] None)
    ∷ comes (come Ua 1 []) Nothing [] (stands IsOpened IsShut IsShut [] None)
    -- an NSC with two octets refuses no probe, one with one octet does
    ∷ asks (Probe (65 ∷ 66 ∷ [])) (out Uih 0 (35 ∷ 5 ∷ 65 ∷ 66 ∷ []) ∷ [])
    (stands IsOpened IsShut IsShut [] (waiting (65 ∷ 66 ∷ []) 0))
    ∷ comes (come Uih 0 (17 ∷ 5 ∷ 35 ∷ 33 ∷ [])) Nothing []
    (stands IsOpened IsShut IsShut [] (waiting (65 ∷ 66 ∷ []) 0))
    ∷ comes (come Uih 0 (17 ∷ 3 ∷ 33 ∷ [])) ProbeRefused [] (stands IsOpened IsShut IsShut [] None)
    -- a probe of 17 octets; PN is not supported; an NSC command, an MSC for 0 and a response of another probe
    -- are nothing
    ∷ asks (Probe (65 ∷ 66 ∷ [])) (out Uih 0 (35 ∷ 5 ∷ 65 ∷ 66 ∷ []) ∷ [])
    (stands IsOpened IsShut IsShut [] (waiting (65 ∷ 66 ∷ []) 0))
    ∷ refuses (Probe (replicate 17 120)) TooLong
    ∷ comes (come Uih 0 (131 ∷ 1 ∷ [])) Nothing (out Uih 0 (17 ∷ 3 ∷ 131 ∷ []) ∷ [])
    (stands IsOpened IsShut IsShut [] (waiting (65 ∷ 66 ∷ []) 0))
    ∷ comes (come Uih 0 (19 ∷ 1 ∷ [])) Nothing []
    (stands IsOpened IsShut IsShut [] (waiting (65 ∷ 66 ∷ []) 0))
    ∷ comes (come Uih 0 (227 ∷ 5 ∷ 3 ∷ 143 ∷ [])) Nothing []
    (stands IsOpened IsShut IsShut [] (waiting (65 ∷ 66 ∷ []) 0))
    ∷ comes (come Uih 0 (33 ∷ 5 ∷ 65 ∷ 66 ∷ [])) ProbeBack [] (stands IsOpened IsShut IsShut [] None)
    -- a probe of no octets; a DISC on 0 closes all, and another is answered by DM; then a Test is nothing
    ∷ asks (Probe []) (out Uih 0 (35 ∷ 1 ∷ []) ∷ []) (stands IsOpened IsShut IsShut [] (waiting [] 0))
    ∷ comes (come Disc 0 []) AllClosed (out Ua 0 [] ∷ []) (stands IsShut IsShut IsShut [] None)
    ∷ comes (come Disc 0 []) Nothing (out Dm 0 [] ∷ []) (stands IsShut IsShut IsShut [] None)
    ∷ comes (come Uih 0 (35 ∷ 3 ∷ 65 ∷ [])) Nothing [] (stands IsShut IsShut IsShut [] None)
    ∷ []
