-- The frames that the tables call for (27.010, 5.4).
use Rattle.std.specs.Prelude.{◌≡◌, zero, suc, ℕ, ◌+◌, ◌*◌, ◌==◌, ◌&&◌, ◌||◌, not, nat_le, Bool, true, false, List, [], ◌∷◌, ◌++◌, Option, Some, None, if◌then◌else◌}
use Rattle.mux_frame.specs.Frames.{Frame}
use Rattle.mux_frame.specs.declared.frame.Kind.{Kind}
use Rattle.mux_frame.specs.declared.frame.Kind.TheVariants.{Sabm, Ua, Dm, Disc, Uih}
use Rattle.mux_station.specs.declared.role.Role.{Role}
use Rattle.mux_station.specs.declared.role.Role.TheVariants.{Initiator, Responder}
use Rattle.mux_station.specs.Written.{is_on, written, written_length}
use Rattle.mux_station.specs.Messages.{Message, message_in, spelled_message, is_command, response_of, test, fcoff, fcon, cld, msc, nsc, brings_command}
use Rattle.mux_station.specs.States.{State, IsOpening, IsOpened, IsClosing, IsStopping, is_opened}

-- ## Single frames

-- the frame that brings a message of this type and value
abbrev pub message_frame : Role → ℕ → List ℕ → Frame
message_frame r octet value = written r Uih 0 (spelled_message octet value)

-- the signals of an MSC: DV, RTR, RTC and EA
abbrev pub ready : ℕ
ready = 0x8d

-- the signals of an MSC with FC
abbrev pub held_up : ℕ
held_up = 0x8f

-- MSC for d with these signals
abbrev pub msc_frame : Role → ℕ → ℕ → Frame
msc_frame r d signals = message_frame r msc ((4 * d + 3) ∷ signals ∷ [])

-- a SABM or DISC is answered by UA where it opens, or closes what is Opened, else by DM
abbrev pub ua_or_dm : Role → ℕ → Bool → Frame
ua_or_dm r d accepts = written r (if accepts then Ua else Dm) d []

abbrev pub msc_after_opening : Role → ℕ → List Frame
msc_after_opening r d = if d == 0 then [] else msc_frame r d ready ∷ []

-- ## A frame that comes

abbrev pub is_opening : State → Bool
is_opening (IsOpening n) = true
is_opening _ = false

-- the initiator's and the responder's table, of the state of 0 and that of the frame's connection
abbrev pub by_table : Role → ℕ → State → State → Kind → List Frame
by_table Initiator d channel own Ua = if is_opening own then msc_after_opening Initiator d else []
by_table Initiator d channel own Sabm = ua_or_dm Initiator d false ∷ []
by_table Responder d channel own Sabm =
    if (d == 0) || is_opened channel
    then ua_or_dm Responder d true ∷ msc_after_opening Responder d
    else ua_or_dm Responder d false ∷ []
by_table r d channel own Disc = ua_or_dm r d (is_opened own) ∷ []
by_table r d channel own _ = []

-- a message of this type is supported
abbrev pub is_supported : ℕ → Bool
is_supported octet =
    (octet == test) || ((octet == fcoff) || ((octet == fcon) || ((octet == cld) || (octet == msc))))

-- what answers a message: the response to a supported command, NSC to any other command but NSC, else
-- nothing
abbrev pub response : Role → Message → List Frame
response r m =
    if is_supported m.octet then message_frame r (response_of m.octet) m.value ∷ []
    else if is_command m && not (m.octet == nsc) then message_frame r (response_of nsc) (m.octet ∷ []) ∷ []
    else []

abbrev pub response_to : Role → Option Message → List Frame
response_to r None = []
response_to r (Some m) = response r m

-- while 0 is Opened each command is answered, in Stopping a CLD alone
abbrev pub by_message : Role → State → Frame → List Frame
by_message r IsOpened f = response_to r (message_in f)
by_message r (IsStopping n) f = if brings_command cld f then response_to r (message_in f) else []
by_message r _ f = []

-- what a frame calls for
abbrev pub by_frame : Role → (ℕ → State) → Frame → List Frame
by_frame r state f =
    if is_on Uih 0 f then by_message r (state 0) f else by_table r f.dlci (state 0) (state f.dlci) f.kind

-- ## Room and ticks

-- how many octets frames are as written
abbrev pub octets_of : List Frame → ℕ
octets_of [] = 0
octets_of (f ∷ fs) = written_length f + octets_of fs

-- a frame fits into the control queue of an end with this N1, behind so many octets that wait there
abbrev pub has_room : ℕ → ℕ → Frame → Bool
has_room n1 queued f = nat_le (queued + written_length f) (4096 + n1)

-- these frames fit one after the other; no frames always do
abbrev pub have_room : ℕ → ℕ → List Frame → Bool
have_room n1 queued [] = true
have_room n1 queued (f ∷ fs) = has_room n1 queued f && have_room n1 (queued + written_length f) fs

-- frames fit where the sum of their octets does
abbrev pub HasRoomBySum : ℕ → ℕ → Frame → List Frame → Type 0
HasRoomBySum n1 queued f fs = have_room n1 queued (f ∷ fs) ≡ nat_le (queued + octets_of (f ∷ fs)) (4096 + n1)

-- a tick's frame for a connection: the SABM or DISC again, and at the fourth tick of an opening DISC
abbrev pub again : Role → ℕ → State → Option Frame
again r d (IsOpening n) = Some (written r (if n == 3 then Disc else Sabm) d [])
again r d (IsClosing n) = if n == 3 then None else Some (written r Disc d [])
again r d _ = None

-- the frame, where it fits into the control queue
abbrev pub if_room : ℕ → ℕ → Option Frame → List Frame
if_room n1 queued None = []
if_room n1 queued (Some f) = if has_room n1 queued f then f ∷ [] else []

-- over so many connections from d on, behind what this tick queued already; one whose frame doesn't fit is
-- left out
abbrev pub ticked : Role → ℕ → (ℕ → State) → ℕ → ℕ → ℕ → List Frame
ticked r n1 state queued d zero = []
ticked r n1 state queued d (suc count) =
    let here = if_room n1 queued (again r d (state d)) in
    here ++ ticked r n1 state (queued + octets_of here) (d + 1) count

-- what a tick calls for
abbrev pub by_tick : Role → ℕ → (ℕ → State) → ℕ → List Frame
by_tick r n1 state queued = ticked r n1 state queued 0 62

-- an MSC of its own for a connection that is Opened
abbrev pub by_flow : Role → (ℕ → State) → ℕ → ℕ → List Frame
by_flow r state d signals = if is_opened (state d) then msc_frame r d signals ∷ [] else []
