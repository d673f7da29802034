-- The frames that a tick calls for.
use Rattle.std.specs.Prelude.{zero, suc, ◌≡◌, ℕ, ◌+◌, ◌<◌, ◌≤◌, ◌==◌, ◌||◌, not, Bool, true, false, List, [], ◌∷◌, ◌++◌, length, map, take, drop, refl, Option, Some, None, if◌then◌else◌}
use Rattle.std.specs.List.{list_any}
use Rattle.std.proofs.Common.{ap, sym, ◌∙◌, subst, arith, append_assoc, append-nil, length-append}
use Rattle.std.proofs.lemmas.Bool.{and_parts}
use Rattle.std.proofs.lemmas.Bool.Decides.{nat_tests}
use Rattle.std.proofs.lemmas.List.{map-append, take_all}
use Rattle.mux_frame.specs.Frames.{Frame}
use Rattle.mux_frame.specs.declared.frame.Kind.TheVariants.{Sabm, Disc}
use Rattle.mux_station.specs.declared.role.Role.{Role}
use Rattle.mux_station.specs.declared.tick.GivenUp.{GivenUp}
use Rattle.mux_station.specs.Acts as station
use Rattle.mux_station.specs.Written.{is_on, written, is_data_frame}
use Rattle.mux_station.specs.Messages.{cld, brings_command}
use Rattle.mux_station.specs.States.{State, IsShut, IsOpening, IsOpened, IsClosing, IsStopping, state_of, at_tick, at_sent}
use Rattle.mux_station.specs.Tables.{again, has_room, if_room, ticked, by_tick, octets_of}
use Rattle.mux_station.specs.Sending as sending
use Rattle.mux_station.specs.Sending.{Waiting, queue, sent_after, probe_of, probe_after, zero_stays}
use Rattle.mux_station.specs.Stations.{Station, channel_at}
use Rattle.mux_station.specs.Noticing.{up_of}
use Rattle.mux_station.specs.Ticking.{Up, UpChannel, UpProbe, gives_up, given_up, given_up_in, probe_up, noticed}
use Rattle.mux_station.proofs.law_proofs.OwedFrames.{Controls}
use Rattle.mux_station.proofs.states.StatesAfterActs.{state_next}
use Rattle.mux_station.proofs.user_calls.CallFrames.{state_sent, probe_sent, probe_none}
use Rattle.mux_station.proofs.ticks.WholeTicks.{ticked_same}
use Rattle.modem_core.specs.Ticked.{bared, queued_from, is_asking, asking_from, is_probe_up, is_probe_given}

-- those of a station
pub tick_frames : Station → List Frame
tick_frames v = by_tick v.role v.n1 (λ d. (channel_at v d).state) (octets_of v.queue)

-- by the states that it has, they are what the tick calls for
pub frames_so : (v : Station) (x : ℕ → State) → ((e : ℕ) → e < 62 → x e ≡ (channel_at v e).state) → by_tick v.role v.n1 x (octets_of v.queue) ≡ tick_frames v
unfolding tick_frames
frames_so v x h = ticked_same v.role v.n1 x (λ d. (channel_at v d).state) (octets_of v.queue) 0 62 (λ e k l. h e (omega (arith, l)))

-- ## How many, and with what information

here_few : (r : Role) (n1 q d : ℕ) (s : State) → length (if_room n1 q (again r d s)) ≤ (if is_asking s then 1 else 0)
here_few r n1 q d IsShut = omega arith
here_few r n1 q d IsOpened = omega arith
here_few r n1 q d (IsStopping n) = omega arith
here_few r n1 q d (IsOpening n) = by_room (has_room n1 q (written r (if n == 3 then Disc else Sabm) d []))
  where
    by_room : (b : Bool) → length (if b then written r (if n == 3 then Disc else Sabm) d [] ∷ [] else []) ≤ 1
    by_room true = omega arith
    by_room false = omega arith
here_few r n1 q d (IsClosing n) = by_last (n == 3) (has_room n1 q (written r Disc d []))
  where
    by_last : (l b : Bool) → length (if_room n1 q (if l then None else Some (written r Disc d []))) ≤ 1
    by_last true b = omega arith
    by_last false b = by_room (has_room n1 q (written r Disc d []))
      where
        by_room : (b : Bool) → length (if b then written r Disc d [] ∷ [] else []) ≤ 1
        by_room true = omega arith
        by_room false = omega arith

few_from : (v : Station) (q d count : ℕ) → length (ticked v.role v.n1 (λ e. (channel_at v e).state) q d count) ≤ asking_from v d count
unfolding asking_from
few_from v q d zero = omega arith
few_from v q d (suc count) =
    let here = if_room v.n1 q (again v.role d (channel_at v d).state) in
    let rest = ticked v.role v.n1 (λ e. (channel_at v e).state) (q + octets_of here) (d + 1) count in
    let a = here_few v.role v.n1 q d (channel_at v d).state in
    let b = few_from v (q + octets_of here) (d + 1) count in
    let c = length-append here rest in
    omega (arith, a, b, c)

-- one at most of each connection that waits for an answer
pub frames_few : (v : Station) → length (tick_frames v) ≤ asking_from v 0 62
unfolding tick_frames
frames_few v = few_from v (octets_of v.queue) 0 62

here_bared : (r : Role) (n1 q d : ℕ) (s : State) → map bared (if_room n1 q (again r d s)) ≡ if_room n1 q (again r d s)
here_bared r n1 q d IsShut = refl
here_bared r n1 q d IsOpened = refl
here_bared r n1 q d (IsStopping n) = refl
here_bared r n1 q d (IsOpening n) = by_room (has_room n1 q (written r (if n == 3 then Disc else Sabm) d []))
  where
    by_room : (b : Bool) → map bared (if b then written r (if n == 3 then Disc else Sabm) d [] ∷ [] else []) ≡ (if b then written r (if n == 3 then Disc else Sabm) d [] ∷ [] else [])
    by_room true = refl
    by_room false = refl
here_bared r n1 q d (IsClosing n) = by_last (n == 3)
  where
    by_room : (b : Bool) → map bared (if b then written r Disc d [] ∷ [] else []) ≡ (if b then written r Disc d [] ∷ [] else [])
    by_room true = refl
    by_room false = refl

    by_last : (l : Bool) → map bared (if_room n1 q (if l then None else Some (written r Disc d []))) ≡ if_room n1 q (if l then None else Some (written r Disc d []))
    by_last true = refl
    by_last false = by_room (has_room n1 q (written r Disc d []))

bared_from : (r : Role) (n1 : ℕ) (x : ℕ → State) (q d count : ℕ) → map bared (ticked r n1 x q d count) ≡ ticked r n1 x q d count
bared_from r n1 x q d zero = refl
bared_from r n1 x q d (suc count) =
    let here = if_room n1 q (again r d (x d)) in
    let rest = ticked r n1 x (q + octets_of here) (d + 1) count in
    map-append bared here rest ∙ (ap (λ (fs : List Frame). fs ++ map bared rest) (here_bared r n1 q d (x d)) ∙ ap (λ (fs : List Frame). here ++ fs) (bared_from r n1 x (q + octets_of here) (d + 1) count))

-- none has information
pub frames_bared : (v : Station) → map bared (tick_frames v) ≡ tick_frames v
unfolding tick_frames
frames_bared v = bared_from v.role v.n1 (λ e. (channel_at v e).state) (octets_of v.queue) 0 62

-- ## The queue

not_data : (b : Bool) → not b ≡ true → b ≡ false
not_data false h = refl
not_data true h = cc

-- control frames that are sent wait behind those that waited
pub queue_sents : (fs : List Frame) (x : List station.Act) → Controls fs → queue (sent_after fs x) ≡ queue x ++ fs
queue_sents [] x h = sym (append-nil (queue x))
queue_sents (f ∷ fs) x h =
    let hs = and_parts (not (is_data_frame f)) _ h in
    queue_sents fs (station.Sent f ∷ x) hs.1
    ∙ (ap (λ (b : Bool). (queue x ++ (if b then [] else f ∷ [])) ++ fs) (not_data (is_data_frame f) hs.0) ∙ append_assoc (queue x) (f ∷ []) fs)

drop_front : (xs ys : List Frame) → drop (length xs) (xs ++ ys) ≡ ys
drop_front [] ys = refl
drop_front (x ∷ xs) ys = drop_front xs ys

-- what is read of the queue behind what was there before
pub read_back : (v : Station) (q : List Frame) → q ≡ v.queue ++ tick_frames v → queued_from q (length v.queue) (asking_from v 0 62) ≡ tick_frames v
read_back v q h =
    ap (λ (fs : List Frame). map bared (take (asking_from v 0 62) fs)) (ap (drop (length v.queue)) h ∙ drop_front v.queue (tick_frames v))
    ∙ (ap (map bared) (take_all (asking_from v 0 62) (tick_frames v) (frames_few v)) ∙ frames_bared v)

-- ## Connection 0, while it is Opened

record Away (f : Frame) : Type 0 where
  not_zero : (f.dlci == 0) ≡ false
  no_close_down : brings_command cld f ≡ false
  no_disc : is_on Disc 0 f ≡ false

AllAway : List Frame → Type 0
AllAway [] = Unit {0}
AllAway (f ∷ fs) = Away f × AllAway fs

away_both : (fs gs : List Frame) → AllAway fs → AllAway gs → AllAway (fs ++ gs)
unfolding AllAway
away_both [] gs h k = k
away_both (f ∷ fs) gs h k = (h.0, away_both fs gs h.1 k)

sabm_away : (r : Role) (d : ℕ) → (d == 0) ≡ false → Away (written r Sabm d [])
sabm_away r d z = record { not_zero = z; no_close_down = refl; no_disc = refl }

disc_away : (r : Role) (d : ℕ) → (d == 0) ≡ false → Away (written r Disc d [])
disc_away r d z = record { not_zero = z; no_close_down = refl; no_disc = z }

asked_away : (r : Role) (d : ℕ) (b : Bool) → (d == 0) ≡ false → Away (written r (if b then Disc else Sabm) d [])
asked_away r d true z = disc_away r d z
asked_away r d false z = sabm_away r d z

here_away : (r : Role) (n1 q d : ℕ) (s : State) → (d == 0) ≡ false → AllAway (if_room n1 q (again r d s))
unfolding AllAway
here_away r n1 q d IsShut z = tt
here_away r n1 q d IsOpened z = tt
here_away r n1 q d (IsStopping n) z = tt
here_away r n1 q d (IsOpening n) z = by_room (has_room n1 q (written r (if n == 3 then Disc else Sabm) d []))
  where
    by_room : (b : Bool) → AllAway (if b then written r (if n == 3 then Disc else Sabm) d [] ∷ [] else [])
    by_room true = (asked_away r d (n == 3) z, tt)
    by_room false = tt
here_away r n1 q d (IsClosing n) z = by_last (n == 3)
  where
    by_room : (b : Bool) → AllAway (if b then written r Disc d [] ∷ [] else [])
    by_room true = (disc_away r d z, tt)
    by_room false = tt

    by_last : (l : Bool) → AllAway (if_room n1 q (if l then None else Some (written r Disc d [])))
    by_last true = tt
    by_last false = by_room (has_room n1 q (written r Disc d []))

past_zero : (d : ℕ) → (d + 1 == 0) ≡ false
past_zero d = grind (arith, nat_tests)

away_from : (r : Role) (n1 : ℕ) (x : ℕ → State) (q d count : ℕ) → AllAway (ticked r n1 x q (d + 1) count)
unfolding AllAway
away_from r n1 x q d zero = tt
away_from r n1 x q d (suc count) =
    let here = if_room n1 q (again r (d + 1) (x (d + 1))) in
    away_both here (ticked r n1 x (q + octets_of here) (d + 1 + 1) count) (here_away r n1 q (d + 1) (x (d + 1)) (past_zero d)) (away_from r n1 x (q + octets_of here) (d + 1) count)

first_off : (r : Role) (n1 : ℕ) (x : ℕ → State) (q count : ℕ) → x 0 ≡ IsOpened → AllAway (ticked r n1 x q 0 (suc count))
first_off r n1 x q count h =
    subst (λ (s : State). AllAway (if_room n1 q (again r 0 s) ++ ticked r n1 x (q + octets_of (if_room n1 q (again r 0 s))) (0 + 1) count)) (sym h)
    (away_from r n1 x (q + 0) 0 count)

frames_away : (v : Station) → (channel_at v 0).state ≡ IsOpened → AllAway (tick_frames v)
unfolding tick_frames
frames_away v h = first_off v.role v.n1 (λ d. (channel_at v d).state) (octets_of v.queue) 61 h

zero_same : (r : Role) (f : Frame) (x : List station.Act) → Away f → state_of r 0 (station.Sent f ∷ x) ≡ state_of r 0 x
zero_same r f x a = state_sent r 0 x f a.no_close_down a.no_disc ∙ ap (λ (b : Bool). if b then at_sent (state_of r 0 x) f.kind else state_of r 0 x) a.not_zero

zero_sents : (r : Role) (fs : List Frame) (x : List station.Act) → AllAway fs → state_of r 0 (sent_after fs x) ≡ state_of r 0 x
unfolding AllAway
zero_sents r [] x h = refl
zero_sents r (f ∷ fs) x h = zero_sents r fs (station.Sent f ∷ x) h.1 ∙ zero_same r f x h.0

probe_sents : (s : sending.StationSetting) (fs : List Frame) (x : List station.Act) → AllAway fs → probe_of s (sent_after fs x) ≡ probe_of s x
unfolding AllAway
probe_sents s [] x h = refl
probe_sents s (f ∷ fs) x h = probe_sents s fs (station.Sent f ∷ x) h.1 ∙ probe_sent s x f (zero_same s.role f x h.0)

-- 0 stays Opened, and the probe counts on
pub zero_stays_on : (v : Station) (past : List station.Act) → (channel_at v 0).state ≡ IsOpened → state_of v.role 0 past ≡ IsOpened → state_of v.role 0 (sent_after (tick_frames v) (station.Tick ∷ past)) ≡ IsOpened
zero_stays_on v past h k =
    zero_sents v.role (tick_frames v) (station.Tick ∷ past) (frames_away v h) ∙ (state_next v.role 0 past station.Tick ∙ ap at_tick k)

-- while 0 is Opened, a probe that waits has one tick more, or is given up at its fourth
pub probe_counts : (v : Station) (s : sending.StationSetting) (past : List station.Act) → (channel_at v 0).state ≡ IsOpened → (x : Waiting) → probe_of s past ≡ Some x
    → probe_of s (sent_after (tick_frames v) (station.Tick ∷ past)) ≡ (if x.ticks == 3 then None else Some (record x { ticks = x.ticks + 1 }))
probe_counts v s past h x e =
    probe_sents s (tick_frames v) (station.Tick ∷ past) (frames_away v h) ∙ ap (λ (o : Option Waiting). probe_after s (zero_stays s past station.Tick) o station.Tick) e

none_sents : (s : sending.StationSetting) (fs : List Frame) (x : List station.Act) → probe_of s x ≡ None → probe_of s (sent_after fs x) ≡ None
none_sents s [] x h = h
none_sents s (f ∷ fs) x h = none_sents s fs (station.Sent f ∷ x) (probe_none s x f h)

-- where none waits, none does after the tick
pub probe_still_none : (v : Station) (s : sending.StationSetting) (past : List station.Act) → probe_of s past ≡ None → probe_of s (sent_after (tick_frames v) (station.Tick ∷ past)) ≡ None
probe_still_none v s past e = none_sents s (tick_frames v) (station.Tick ∷ past) (ap (λ (o : Option Waiting). probe_after s (zero_stays s past station.Tick) o station.Tick) e)

-- ## What was given up

any_both : (xs ys : List Up) → list_any is_probe_up (xs ++ ys) ≡ (list_any is_probe_up xs || list_any is_probe_up ys)
any_both [] ys = refl
any_both (UpChannel d ∷ xs) ys = any_both xs ys
any_both (UpProbe ∷ xs) ys = refl

one_channel : (b : Bool) (d : ℕ) → list_any is_probe_up (if b then UpChannel d ∷ [] else []) ≡ false
one_channel true d = refl
one_channel false d = refl

no_probe_up : (r : Role) (n1 : ℕ) (x : ℕ → State) (q d count : ℕ) → list_any is_probe_up (given_up r n1 x q d count) ≡ false
no_probe_up r n1 x q d zero = refl
no_probe_up r n1 x q d (suc count) =
    let here = if_room n1 q (again r d (x d)) in
    let rest = given_up r n1 x (q + octets_of here) (d + 1) count in
    any_both (if gives_up (x d) here then UpChannel d ∷ [] else []) rest
    ∙ (ap (λ (b : Bool). b || list_any is_probe_up rest) (one_channel (gives_up (x d) here) d) ∙ no_probe_up r n1 x (q + octets_of here) (d + 1) count)

none_of_channels : (v : Station) (d count : ℕ) → list_any is_probe_up (given_up_in v d count) ≡ false
unfolding given_up_in
none_of_channels v d count = no_probe_up v.role v.n1 (λ e. (channel_at v e).state) (octets_of v.queue) d count

-- the probe is given up at its fourth tick
unfoldable pub is_given_up : Option Waiting → Bool
is_given_up None = false
is_given_up (Some w) = w.ticks == 3

if_probe : (b : Bool) → list_any is_probe_up (if b then UpProbe ∷ [] else []) ≡ b
if_probe true = refl
if_probe false = refl

up_so : (o : Option Waiting) → list_any is_probe_up (probe_up o) ≡ is_given_up o
unfolding is_given_up
up_so None = refl
up_so (Some w) = if_probe (w.ticks == 3)

any_map : (ups : List GivenUp) → list_any is_probe_given ups ≡ list_any is_probe_up (map up_of ups)
any_map [] = refl
any_map (u ∷ us) = ap (λ (b : Bool). is_probe_up (up_of u) || b) (any_map us)

-- the tick gave the probe up just where it was its fourth
pub given_so : (v : Station) (ups : List GivenUp) → map up_of ups ≡ noticed v → list_any is_probe_given ups ≡ is_given_up v.probe
given_so v ups h =
    any_map ups ∙ (ap (list_any is_probe_up) h
    ∙ (any_both (given_up_in v 0 62) (probe_up v.probe) ∙ (ap (λ (b : Bool). b || list_any is_probe_up (probe_up v.probe)) (none_of_channels v 0 62) ∙ up_so v.probe)))
