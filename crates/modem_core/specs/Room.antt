-- Why want of room doesn't come up in a replay: the control queue is empty where a call begins, and then all
-- fits.
use Rattle.std.specs.Prelude.{◌≡◌, ℕ, ◌≤◌, ◌||◌, not, nat_le, nat_lt, Bool, true, false, List, [], ◌∷◌, length, option_to_list}
use Rattle.std.specs.List.{flat_map, list_any, range_with_len}
use Rattle.mux_frame.specs.Frames.{Frame}
use Rattle.mux_frame.specs.Spelling.{most_info}
use Rattle.mux_station.specs.declared.role.Role.TheVariants.{Initiator}
use Rattle.mux_station.specs.States.{State, is_opened, is_shut, state_of}
use Rattle.mux_station.specs.Tables.{again, by_frame, by_tick, have_room, octets_of}
use Rattle.mux_station.specs.Sending.{queue}
use Rattle.modem_desk.specs.declared.request.Ask.{Ask}
use Rattle.modem_desk.specs.declared.request.Ask.TheVariants.{OpenChannel, CloseChannel, Probe}
use Rattle.modem_desk.specs.declared.request.Answer.{Answer}
use Rattle.modem_desk.specs.declared.request.Answer.TheVariants.{Busy}
use Rattle.modem_history.specs.Limits.{most_in_hand}
use Rattle.modem_history.specs.Acts.{Act, Took, Got, Told, Tick, wire}
use Rattle.modem_history.specs.Calls.{HistoryView, all_have_room, asking, probe_waits, replaying, seen}
use Rattle.modem_core.specs.declared.event.Event.{Event}
use Rattle.modem_core.specs.Replays.{Piece, Replays, with_piece}

-- before each piece all control frames are given on
unfoldable pub BeginEmpty : List Act → List Piece → Type 0
BeginEmpty past [] = Unit {0}
BeginEmpty past (p ∷ ps) = (queue (wire past) ≡ []) × BeginEmpty (with_piece past p) ps

-- in every replay each piece begins where all control frames are given on
unfoldable pub EachBeginsEmpty : ℕ → List Event → List Act → Type 0
EachBeginsEmpty n1 events acts = (r : Replays n1 events acts) → BeginEmpty [] r.pieces

abbrev pub probe_size : Ask → ℕ
probe_size (Probe octets) = length octets
probe_size _ = 0

-- Where nothing waits, all that is called for has room: by a request, whose probe has 16 octets at most; by a frame as
-- long as its kind may be; and by a tick, which leaves no connection out.
pub record FitsEmpty (n1 : ℕ) : Type 0 where
  pub asks : (v : HistoryView) (ask : Ask) → v.queued ≡ 0 → probe_size ask ≤ 16
      → all_have_room (replaying n1) v (asking Initiator ask) ≡ true
  pub frames : (state : ℕ → State) (f : Frame) → length f.info ≤ most_info n1 f.kind
      → have_room n1 0 (by_frame Initiator state f) ≡ true
  pub ticks : (state : ℕ → State) → by_tick Initiator n1 state 0
      ≡ flat_map (λ d. option_to_list (again Initiator d (state d))) (range_with_len 0 62)

-- ## A replay never meets want of room

abbrev pub says_busy : Answer → Bool
says_busy Busy = true
says_busy _ = false

abbrev pub tells_busy : Act → Bool
tells_busy (Told o) = says_busy o.answer
tells_busy _ = false

-- what is asked can't be done now, whatever room there is: the connection isn't Shut, or isn't Opened, or a
-- probe waits
abbrev pub is_under_way : HistoryView → Ask → Bool
is_under_way v (OpenChannel d) = not (is_shut (v.state d.number))
is_under_way v (CloseChannel d) = not (is_opened (v.state d.number))
is_under_way v (Probe octets) = probe_waits v.waiting
is_under_way v _ = false

-- the act takes a request that may be told Busy whatever room there is: 128 are in hand, what it asks can't be done
-- now, or it is a probe of more than 16 octets
abbrev pub is_busy_by : HistoryView → Act → Bool
is_busy_by v (Took q) = nat_le most_in_hand (length v.hand) || (is_under_way v q.ask || nat_lt 16 (probe_size q.ask))
is_busy_by v _ = false

-- all that a frame calls for has room, and a tick leaves no connection out
abbrev pub AllFits : ℕ → List Act → Act → Type 0
AllFits n1 past (Got f) =
    have_room n1 (octets_of (queue (wire past)))
    (by_frame Initiator (λ d. state_of Initiator d (wire past)) f) ≡ true
AllFits n1 past Tick =
    by_tick Initiator n1 (λ d. state_of Initiator d (wire past)) (octets_of (queue (wire past)))
    ≡ flat_map (λ d. option_to_list (again Initiator d (state_of Initiator d (wire past))))
    (range_with_len 0 62)
AllFits n1 past _ = Unit {0}

-- in a piece Busy is told only for another cause than want of room, and what a frame or a tick calls for has room
pub record FindsRoom (n1 : ℕ) (past : List Act) (p : Piece) : Type 0 where
  pub busy : list_any tells_busy p.more ≡ true → is_busy_by (seen (replaying n1) past) p.first ≡ true
  pub fits : AllFits n1 past p.first

abbrev pub FindRoom : ℕ → List Act → List Piece → Type 0
FindRoom n1 past [] = Unit {0}
FindRoom n1 past (p ∷ ps) = FindsRoom n1 past p × FindRoom n1 (with_piece past p) ps

-- in every replay no request is told Busy for want of room, and no frame that comes is refused for it
unfoldable pub NeverWantsRoom : ℕ → List Event → List Act → Type 0
NeverWantsRoom n1 events acts = (r : Replays n1 events acts) → FindRoom n1 [] r.pieces
