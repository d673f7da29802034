-- What goes out comes to an end.
use Rattle.std.specs.Prelude.{IfNone, ◌||◌, zero, suc, ◌≡◌, ℕ, ◌+◌, ◌-◌, ◌<◌, ◌≤◌, ◌==◌, ◌&&◌, ◌||◌, not, nat_lt, Bool, true, false, List, [], ◌∷◌, length, drop, Option, Some, None, option_map, refl, if◌then◌else◌}
use Rattle.std.specs.List.{sum_by}
use Rattle.std.proofs.Common.{◌∙◌, ap, sym, subst, arith, get_or}
use Rattle.std.proofs.lemmas.Bool.{and_parts, eqb-false}
use Rattle.std.proofs.lemmas.Bool.Decides.{nat_tests}
use Rattle.std.proofs.lemmas.List.{length-drop}
use Rattle.std.proofs.lemmas.List.Sums.{sum_by-set}
use Rattle.mux_frame.specs.Frames.{Frame}
use Rattle.mux_station.specs.States.{is_opened}
use Rattle.mux_station.specs.Stations.{Station, Channel, channel_at, shut_channel, stopped_in}
use Rattle.mux_station.specs.Giving as giving
use Rattle.mux_station.specs.Giving.{is_ready, first_ready, else_first, data_given, station_after, next_given, next_sender}
use Rattle.mux_station.specs.GivenFrames.{Outgoing, Turn, as_turn, with_freshness}
use Rattle.mux_station.specs.declared.turn.Turn as asked
use Rattle.mux_station.proofs.turns.ReadyConnections.{none_next}
use Rattle.modem_core.specs.Cores.{Core}
use Rattle.modem_core.specs.Running.{CoreIsIdle}
use Rattle.modem_core.specs.CoreGoing.{begun_on, begun_next, gone_on, turn_in, left_to_go, LeavesLess}
use Rattle.modem_core.proofs.outgoing.CoreAfterFrame.{SendsTruly}

-- the octets that wait in the send rings
abbrev total : List Channel → ℕ
total cs = sum_by (λ (c : Channel). length c.waiting) cs

-- ## Whose turn it is has octets

ready_of : (v : Station) (d count e : ℕ) → first_ready v d count ≡ Some e → is_ready v e ≡ true
ready_of v d zero e h = cc
ready_of v d (suc count) e h = by_test (is_ready v d) refl (ready_of v (d + 1) count e) h
  where
    by_test : (b : Bool) → is_ready v d ≡ b → (first_ready v (d + 1) count ≡ Some e → is_ready v e ≡ true) → (if b then Some d else first_ready v (d + 1) count) ≡ Some e → is_ready v e ≡ true
    by_test true r k h = let same : d ≡ e = cc in subst (λ (x : ℕ). is_ready v x ≡ true) same r
    by_test false r k h = k h

else_is : (a b : Option ℕ) (d : ℕ) (P : ℕ → Type 0) → else_first a b ≡ Some d → (a ≡ Some d → P d) → (b ≡ Some d → P d) → P d
else_is None b d P h k m = m h
else_is (Some e) b d P h k m = k h

turn_ready : (v : Station) (d : ℕ) → giving.next_turn v ≡ Some d → is_ready v d ≡ true
turn_ready v d h =
    else_is (giving.ready_from v (v.last + 1)) (giving.ready_from v 1) d (λ x. is_ready v x ≡ true) h
    (λ e. ready_of v (v.last + 1) (62 - (v.last + 1)) d e) (λ e. ready_of v 1 (62 - 1) d e)

not_true : (b : Bool) → not b ≡ true → b ≡ false
not_true true h = cc
not_true false h = refl

ready_waits : (v : Station) (d : ℕ) → is_ready v d ≡ true → 0 < length (channel_at v d).waiting
ready_waits v d h =
    let p = and_parts (is_opened (channel_at v d).state) (not (stopped_in v d) && not (length (channel_at v d).waiting == 0)) h in
    let q = and_parts (not (stopped_in v d)) (not (length (channel_at v d).waiting == 0)) p.1 in
    let n = eqb-false (length (channel_at v d).waiting) 0 (not_true (length (channel_at v d).waiting == 0) q.1) in
    omega arith

-- a connection behind the last has nothing
behind_last : (cs : List Channel) (d : ℕ) → length cs ≤ d → get_or cs d shut_channel ≡ shut_channel
behind_last [] d h = refl
behind_last (c ∷ cs) zero h = let x : ⊥ = omega arith in absurd x
behind_last (c ∷ cs) (suc d) h = behind_last cs d (omega arith)

in_range : (v : Station) (d : ℕ) → 0 < length (channel_at v d).waiting → d < length v.channels
in_range v d h = by_case (nat_lt d (length v.channels)) refl
  where
    by_case : (b : Bool) → nat_lt d (length v.channels) ≡ b → d < length v.channels
    by_case true e = grind (arith, nat_tests)
    by_case false k0 = let k : length v.channels ≤ d = grind (arith, nat_tests) in let e : length (channel_at v d).waiting ≡ 0 = ap (λ (c : Channel). length c.waiting) (behind_last v.channels d k) in let x : ⊥ = omega (arith, e, h) in absurd x

-- ## Less is left

data_less : (v : Station) (d : ℕ) → 0 < v.n1 → 0 < length (channel_at v d).waiting → total (data_given v (Some d)).channels < total v.channels
data_less v d n h =
    let w = (channel_at v d).waiting in
    let c : Channel = record (channel_at v d) { waiting = drop v.n1 w } in
    let sum = sum_by-set (λ (c : Channel). length c.waiting) v.channels d c shut_channel (in_range v d h) in
    let fewer = length-drop v.n1 w in
    omega (arith, sum, fewer)

abbrev Less : Core → Core → Type 0
Less new old = left_to_go new < left_to_go old

turn_less : (v : Core) (o : Option ℕ) (f : Frame) → giving.next_turn v.station ≡ o → option_map (giving.data_frame v.station) o ≡ Some f → 0 < v.station.n1 → v.station.queue ≡ []
    → length (data_given v.station o).queue + total (data_given v.station o).channels < length v.station.queue + total v.station.channels
turn_less v None f e h n q = cc
turn_less v (Some d) f e h n q = let x = data_less v.station d n (ready_waits v.station d (turn_ready v.station d e)) in omega (arith, x)

queue_less : (v : Core) (fs : List Frame) (f : Frame) → v.station.queue ≡ fs → next_given v.station fs ≡ Some f → 0 < v.station.n1
    → length (station_after v.station fs).queue + total (station_after v.station fs).channels < length v.station.queue + total v.station.channels
queue_less v (g ∷ fs) f e h n = let x = ap length e in omega (arith, x)
queue_less v [] f e h n = turn_less v (giving.next_turn v.station) f refl h n e

if_given : (o : Option Frame) (b : Bool) (v : Core) → ((f : Frame) → o ≡ Some f → Less (gone_on v) v) → LeavesLess v (option_map (with_freshness b) o)
if_given None b v h = tt
if_given (Some f) b v h = h f refl

-- while the line isn't lost, each frame that goes out leaves less to go
pub leaves_less : (v : Core) (o : Option Outgoing) → 0 < v.station.n1 → v.lost ≡ false → o ≡ option_map (with_freshness (length v.station.queue == 0)) (next_given v.station v.station.queue) → LeavesLess v o
leaves_less v o n live e =
    subst (LeavesLess v) (sym e)
    (if_given (next_given v.station v.station.queue) (length v.station.queue == 0) v
    (λ f h. subst (λ (b : Bool). left_to_go (if b then v else record (begun_next v) { station = station_after v.station v.station.queue }) < left_to_go v) (sym live) (queue_less v v.station.queue f refl h n)))

-- ## Nothing is left

empty_queue : (v : Core) (fs : List Frame) → v.station.queue ≡ fs → option_map (with_freshness (length v.station.queue == 0)) (next_given v.station fs) ≡ None → CoreIsIdle v
unfolding CoreIsIdle
empty_queue v (f ∷ fs) q h = cc
empty_queue v [] q h = ap (λ (fs : List Frame). v.lost || (length fs == 0)) q ∙ or_true v.lost
  where
    or_true : (b : Bool) → (b || true) ≡ true
    or_true true = refl
    or_true false = refl

-- a core whose line is lost is idle
pub idle_lost : (v : Core) → v.lost ≡ true → CoreIsIdle v
unfolding CoreIsIdle
idle_lost v h = ap (λ (b : Bool). b || (length v.station.queue == 0)) h

-- so is one where no frame goes out next
pub idle_none : (v : Core) → next_given v.station v.station.queue ≡ None → CoreIsIdle v
idle_none v e = empty_queue v v.station.queue refl (ap (option_map (with_freshness (length v.station.queue == 0))) e)

-- ## Nothing goes out

no_sender : (v : Core) (fs : List Frame) → v.station.queue ≡ fs → next_given v.station fs ≡ None → record (begun_on v (next_sender v.station fs)) { station = station_after v.station fs } ≡ v
no_sender v (f ∷ fs) q h = cc
no_sender v [] q h = by_turn (giving.next_turn v.station) h
  where
    by_turn : (o : Option ℕ) → option_map (giving.data_frame v.station) o ≡ None → record (begun_on v o) { station = data_given v.station o } ≡ v
    by_turn None e = refl
    by_turn (Some d) e = cc

-- nobody's data is next where no frame is
pub sends_none : (v : Station) → next_given v v.queue ≡ None → SendsTruly v
unfolding SendsTruly
sends_none v h d seen e f = absurd (by_queue v v.queue h d e)
  where
    by_turn : (v : Station) (o : Option ℕ) (d : ℕ) → option_map (giving.data_frame v) o ≡ None → o ≡ Some d → ⊥
    by_turn v None d h e = cc
    by_turn v (Some x) d h e = cc

    by_queue : (v : Station) (fs : List Frame) → next_given v fs ≡ None → (d : ℕ) → next_sender v fs ≡ Some d → ⊥
    by_queue v (f ∷ fs) h d e = cc
    by_queue v [] h d e = by_turn v (giving.next_turn v) d h e

-- what is promised where it is nobody's turn is promised where the code names none
pub if_no_turn : (o : Option asked.Turn) (t : Option Turn) (P : Type 0) → option_map as_turn o ≡ t → (t ≡ None → P) → IfNone o P
if_no_turn None t P e h = h (sym e)
if_no_turn (Some x) t P e h = tt

-- where it is nobody's turn the core stays
pub no_turn_stays : (v : Core) → turn_in v ≡ None → gone_on v ≡ v
no_turn_stays v h = by_lost v.lost h
  where
    by_lost : (b : Bool) → (if b then None else giving.turn_at v.station v.station.queue) ≡ None → (if b then v else record (begun_next v) { station = station_after v.station v.station.queue }) ≡ v
    by_lost true h = refl
    by_lost false h = no_sender v v.station.queue refl (none_next v.station v.station.queue h)
