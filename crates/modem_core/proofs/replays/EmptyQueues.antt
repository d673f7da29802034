-- A replay begins each call with an empty control queue, into which all fits.
use Rattle.std.specs.Prelude.{◌≡◌, ℕ, zero, suc, ◌+◌, ◌*◌, ◌≤◌, ◌==◌, ◌&&◌, nat_le, Bool, true, false, List, [], ◌∷◌, ◌++◌, length, map, refl, Option, None, Some, option_to_list, if◌then◌else◌}
use Rattle.std.specs.List.{flat_map, range_with_len}
use Rattle.std.proofs.Common.{ap, arith}
use Rattle.std.proofs.lemmas.Bool.{le-leb}
use Rattle.mux_frame.specs.Frames.{Frame}
use Rattle.mux_frame.specs.Spelling.{most_info}
use Rattle.mux_station.specs.declared.role.Role.TheVariants.{Initiator}
use Rattle.mux_station.specs.States.{State, IsShut, IsOpening, IsOpened, IsClosing, IsStopping}
use Rattle.mux_station.specs.Tables.{again, by_frame, has_room, have_room, if_room, message_frame, octets_of, ticked}
use Rattle.mux_station.specs.Sending.{queue}
use Rattle.mux_frame.specs.declared.frame.Kind.TheVariants.{Sabm, Disc}
use Rattle.mux_station.specs.Messages.{test, cld}
use Rattle.mux_station.specs.Written.{written, written_length}
use Rattle.modem_desk.specs.declared.request.Ask.{Ask}
use Rattle.modem_desk.specs.declared.request.Ask.TheVariants.{OpenChannel, CloseChannel, Command, Probe, Stop}
use Rattle.modem_history.specs.Acts.{Act, Sent, after, wire}
use Rattle.modem_history.specs.Calls.{HistoryView, Setting, all_have_room, asking, replaying}
use Rattle.modem_core.specs.declared.event.Event.{Event}
use Rattle.modem_history.specs.GoingOut.{next_out}
use Rattle.modem_core.specs.Replays.{Piece, after_call, with_piece, GoOutInTurn, ArePieces}
use Rattle.modem_core.specs.Room.{BeginEmpty, EachBeginsEmpty, FitsEmpty, probe_size}
use Rattle.modem_core.specs.Receiving.{answer_room}
use Rattle.modem_core.proofs.replays.Pieces.{queue_drained}
use Rattle.modem_core.proofs.frames.StationAfterFrame.{answer_short}
use Rattle.modem_core.proofs.frames.QueueRoom.{at_most, short_fits, with_flags}

none_left : (s : Setting) (past : List Act) (fs : List Frame) → GoOutInTurn s past fs → next_out s (after past (map Sent fs)) ≡ None
none_left s past [] h = h
none_left s past (f ∷ fs) h = none_left s (Sent f ∷ past) fs h.1

begin_from : (s : Setting) (ps : List Piece) (past : List Act) → queue (wire past) ≡ [] → ArePieces s past ps → BeginEmpty past ps
unfolding BeginEmpty
begin_from s [] past e k = tt
begin_from s (p ∷ ps) past e k =
    let drained : queue (wire (with_piece past p)) ≡ [] = queue_drained s (with_piece past p) k.0.keeps.lawful (none_left s (after_call past p) p.data_frames k.0.goes_out) in
    (e, begin_from s ps (with_piece past p) drained k.1)

-- in every replay no control frame waits where a piece begins
pub begin_empty : (n1 : ℕ) (events : List Event) (acts : List Act) → EachBeginsEmpty n1 events acts
unfolding EachBeginsEmpty
begin_empty n1 events acts r = begin_from (replaying n1) r.pieces [] refl r.are_pieces

-- ## All fits

one_fits : (n1 queued : ℕ) (f : Frame) → queued ≡ 0 → length f.info ≤ 18 → (has_room n1 queued f && true) ≡ true
one_fits n1 queued f e l =
    let w = with_flags (length f.info) (nat_le (length f.info) 127) in
    ap (λ (b : Bool). b && true) (le-leb (queued + written_length f) (4096 + n1) (omega (arith, e, l, w)))

asked : (n1 : ℕ) (v : HistoryView) (ask : Ask) → v.queued ≡ 0 → probe_size ask ≤ 16 → all_have_room (replaying n1) v (asking Initiator ask) ≡ true
asked n1 v (OpenChannel d) e l = one_fits n1 v.queued (written Initiator Sabm d.number []) e (omega arith)
asked n1 v (CloseChannel d) e l = one_fits n1 v.queued (written Initiator Disc d.number []) e (omega arith)
asked n1 v (Command d line) e l = refl
asked n1 v (Probe octets) e l = one_fits n1 v.queued (message_frame Initiator test octets) e (omega (arith, l))
asked n1 v Stop e l = one_fits n1 v.queued (message_frame Initiator cld []) e (omega arith)

framed : (n1 : ℕ) (state : ℕ → State) (f : Frame) → length f.info ≤ most_info n1 f.kind → have_room n1 0 (by_frame Initiator state f) ≡ true
framed n1 state f short =
    let most = at_most n1 f.kind in
    short_fits n1 (answer_room f) (by_frame Initiator state f) (answer_short state f) (omega (arith, short, most))

-- the frame stands where there is room, and the others behind it
stands : (b : Bool) (f : Frame) (queued : ℕ) (rest : ℕ → List Frame) (later : List Frame) → b ≡ true → rest (queued + (written_length f + 0)) ≡ later
    → (if b then f ∷ [] else []) ++ rest (queued + octets_of (if b then f ∷ [] else [])) ≡ f ∷ later
stands true f queued rest later h e = ap (λ (fs : List Frame). f ∷ fs) e
stands false f queued rest later h e = cc

-- a connection's frame stands there, whatever its state, and the others behind it
one_again : (n1 : ℕ) (later : ℕ → List Frame) (others : List Frame) (queued count d : ℕ) → queued + 6 * suc count ≤ 4096 → ((q : ℕ) → q + 6 * count ≤ 4096 → later q ≡ others) → (st : State)
    → if_room n1 queued (again Initiator d st) ++ later (queued + octets_of (if_room n1 queued (again Initiator d st))) ≡ option_to_list (again Initiator d st) ++ others
one_again n1 later others queued count d l more st = by_state st
  where
    none : later (queued + 0) ≡ others
    none = more (queued + 0) (omega (arith, l))

    sent : (f : Frame) → written_length f ≡ 6 → (if has_room n1 queued f then f ∷ [] else []) ++ later (queued + octets_of (if has_room n1 queued f then f ∷ [] else [])) ≡ f ∷ others
    sent f six = stands (has_room n1 queued f) f queued later others (le-leb (queued + written_length f) (4096 + n1) (omega (arith, l, six))) (more (queued + (written_length f + 0)) (omega (arith, l, six)))

    closing : (b : Bool) → let o : Option Frame = if b then None else Some (written Initiator Disc d []) in if_room n1 queued o ++ later (queued + octets_of (if_room n1 queued o)) ≡ option_to_list o ++ others
    closing true = none
    closing false = sent (written Initiator Disc d []) refl

    by_state : (st : State) → if_room n1 queued (again Initiator d st) ++ later (queued + octets_of (if_room n1 queued (again Initiator d st))) ≡ option_to_list (again Initiator d st) ++ others
    by_state IsShut = none
    by_state IsOpened = none
    by_state (IsStopping n) = none
    by_state (IsOpening n) = sent (written Initiator (if n == 3 then Disc else Sabm) d []) refl
    by_state (IsClosing n) = closing (n == 3)

all_again : (n1 : ℕ) (state : ℕ → State) (count queued d : ℕ) → queued + 6 * count ≤ 4096
    → ticked Initiator n1 state queued d count ≡ flat_map (λ e. option_to_list (again Initiator e (state e))) (range_with_len d count)
all_again n1 state zero queued d l = refl
all_again n1 state (suc count) queued d l =
    one_again n1 (λ q. ticked Initiator n1 state q (d + 1) count) (flat_map (λ e. option_to_list (again Initiator e (state e))) (range_with_len (d + 1) count)) queued count d l (λ q h. all_again n1 state count q (d + 1) h) (state d)

-- where none waits there is room for all that a request, a frame or a tick calls for
pub fits_empty : (n1 : ℕ) → FitsEmpty n1
fits_empty n1 = record { asks = asked n1; frames = framed n1; ticks = λ state. all_again n1 state 62 0 0 (omega arith) }
