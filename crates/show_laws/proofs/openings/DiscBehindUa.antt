-- A driver sends no DISC on a connection before a UA on it came, where it asks for each connection once.
use Rattle.std.specs.Prelude.{◌≡◌, zero, suc, ℕ, ◌+◌, ◌==◌, ◌≤◌, ◌&&◌, ◌||◌, not, nat_le, Bool, true, false, List, [], ◌∷◌, ◌++◌, drop, length, filter, Some, None, refl, is_none, if◌then◌else◌}
use Rattle.std.proofs.Common.{ap, arith, sym, ◌∙◌, subst, eqb-true}
use Rattle.std.proofs.lemmas.Bool.{and_parts}
use Rattle.mux_frame.specs.Frames.{Frame}
use Rattle.mux_frame.specs.declared.frame.Kind.{Kind}
use Rattle.mux_frame.specs.declared.frame.Kind.TheVariants.{Sabm, Ua, Dm, Disc, Uih}
use Rattle.mux_station.specs.declared.role.Role.{Role}
use Rattle.mux_station.specs.declared.role.Role.TheVariants.{Initiator}
use Rattle.mux_station.specs.States.{State, IsShut, IsOpening, IsOpened, IsClosing, IsStopping, is_opened, is_shut, state_of}
use Rattle.mux_station.specs.Tables.{again, by_flow, by_frame, has_room, held_up, if_room, msc_frame, octets_of, ready, ticked, ua_or_dm}
use Rattle.mux_station.specs.Written.{is_data_frame, is_kind, is_on, written}
use Rattle.modem_desk.specs.declared.request.Ask.{Ask}
use Rattle.modem_desk.specs.declared.request.Ask.TheVariants.{OpenChannel, CloseChannel, Command, Probe, Stop}
use Rattle.modem_desk.specs.declared.request.Answer.TheVariants.{LineLost, Busy, ControlChannel, NotOpen}
use Rattle.modem_desk.specs.declared.request.Request.{Request}
use Rattle.modem_history.specs.Acts.{Act, Took, Got, Sent, Told, Heard, Tick, Lost, Held, Freed, Given, wire}
use Rattle.modem_history.specs.Calls.{HistoryView, Setting, all_have_room, asking, at_once, calls_behind, frames_by, refused_ask, seen_behind}
use Rattle.modem_history.specs.Lawful.{IsNext, Lawful, When, owed, unsent}
use Rattle.modem_history.specs.TwoEnds.{AsksOnce, frames_got, frames_sent}
use Rattle.modem_history.proofs.commands.FramesOnLine.{asks_fewer}
use Rattle.show_laws.proofs.counts.ManyFrames.{few_if, many, many_both, unit}
use Rattle.show_laws.proofs.counts.DriverCounts.{called, dropped, sends, sends_both, unsent_none}
use Rattle.show_laws.proofs.openings.DriverStates.{Says, state_says}
use Rattle.show_laws.proofs.openings.ModeAnswers.{modes_few}

-- a DISC on d
abbrev pub discs : ℕ → Frame → Bool
discs d f = is_on Disc d f

either_of : {P : Type 0} → (m n k : ℕ) → 1 ≤ (m + n) + k → (1 ≤ m + k → P) → (1 ≤ n → P) → P
either_of m zero k h f g = f (omega (arith, h))
either_of m (suc n) k h f g = g (omega arith)

none_here : {P : Type 0} → (n : ℕ) → n ≤ 0 → 1 ≤ n → P
none_here n h k = absurd (omega (arith, h, k))

-- ## Ticks

-- where both count together the second holds
pub same_place : (b c : Bool) → 1 ≤ unit (b && c) → c ≡ true
same_place true true h = refl
same_place true false h = absurd (omega (arith, h))
same_place false c h = absurd (omega (arith, h))

-- a frame that is counted where it fits passes
pub one_of : (t : Frame → Bool) (n1 queued : ℕ) (f : Frame) → 1 ≤ many t (if_room n1 queued (Some f)) → 1 ≤ unit (t f)
one_of t n1 queued f h = by_room (has_room n1 queued f) h
  where
    by_room : (b : Bool) → 1 ≤ many t (if b then f ∷ [] else []) → 1 ≤ unit (t f)
    by_room true h = omega (arith, h)
    by_room false h = absurd (omega (arith, h))

here_disc : {P : Type 0} → (r : Role) (n1 queued d e : ℕ) (own : State) → ((e == d) ≡ true → (n : ℕ) → own ≡ IsClosing n → P) → ((e == d) ≡ true → (n : ℕ) → own ≡ IsOpening n → (n == 3) ≡ true → P) → 1 ≤ many (discs d) (if_room n1 queued (again r e own)) → P
here_disc r n1 queued d e IsShut c o h = absurd (omega (arith, h))
here_disc r n1 queued d e IsOpened c o h = absurd (omega (arith, h))
here_disc r n1 queued d e (IsStopping n) c o h = absurd (omega (arith, h))
here_disc {P} r n1 queued d e (IsOpening n) c o h = opening (n == 3) refl h
  where
    opening : (b : Bool) → (n == 3) ≡ b → 1 ≤ many (discs d) (if_room n1 queued (Some (written r (if b then Disc else Sabm) e []))) → P
    opening true k h = o (same_place true (e == d) (one_of (discs d) n1 queued (written r Disc e []) h)) n refl k
    opening false k h = let x = one_of (discs d) n1 queued (written r Sabm e []) h in absurd (omega (arith, x))
here_disc {P} r n1 queued d e (IsClosing n) c o h = closing (n == 3) h
  where
    closing : (b : Bool) → 1 ≤ many (discs d) (if_room n1 queued (if b then None else Some (written r Disc e []))) → P
    closing true h = absurd (omega (arith, h))
    closing false h = c (same_place true (e == d) (one_of (discs d) n1 queued (written r Disc e []) h)) n refl

-- a tick calls for DISC on d where d is Closing, or is Opening and given up
pub tick_disc : {P : Type 0} → (r : Role) (n1 d : ℕ) (state : ℕ → State) → ((n : ℕ) → state d ≡ IsClosing n → P) → ((n : ℕ) → state d ≡ IsOpening n → (n == 3) ≡ true → P) → (queued e count : ℕ) → 1 ≤ many (discs d) (ticked r n1 state queued e count) → P
tick_disc r n1 d state c o queued e zero h = absurd (omega (arith, h))
tick_disc {P} r n1 d state c o queued e (suc count) h =
    let here = if_room n1 queued (again r e (state e)) in
    let rest = ticked r n1 state (queued + octets_of here) (e + 1) count in
    let parts = many_both (discs d) here rest in
    either_of (many (discs d) here) (many (discs d) rest) 0 (omega (arith, h, parts))
    (λ k. here_disc r n1 queued d e (state e) (λ same n is. c n (at same ∙ is)) (λ same n is three. o n (at same ∙ is) three) (omega (arith, k)))
    (λ k. tick_disc r n1 d state c o (queued + octets_of here) (e + 1) count k)
  where
    at : (e == d) ≡ true → state d ≡ state e
    at same = ap state (sym (eqb-true e d same))

-- ## Requests

not_refused : (a b c e o r : Bool) → is_none (if a then Some LineLost else (if b then Some Busy else (if c then Some ControlChannel else (if e then Some NotOpen else (if not (o && r) then Some Busy else None))))) ≡ true → o ≡ true
not_refused true b c e o r h = cc
not_refused false true c e o r h = cc
not_refused false false true e o r h = cc
not_refused false false false true o r h = cc
not_refused false false false false true r h = refl
not_refused false false false false false r h = cc

asked_disc : {P : Type 0} → (s : Setting) (v : HistoryView) (q : Request) (d : ℕ) (b : Bool) → is_none (at_once s v q) ≡ b → (ask : Ask) → q.ask ≡ ask → (is_opened (v.state d) ≡ true → P) → 1 ≤ many (discs d) (if b then asking s.role ask else []) → P
asked_disc s v q d false e ask is open_there h = absurd (omega (arith, h))
asked_disc s v q d true e (OpenChannel c) is open_there h = absurd (omega (arith, h))
asked_disc s v q d true e (Command c line) is open_there h = absurd (omega (arith, h))
asked_disc s v q d true e (Probe octets) is open_there h = absurd (omega (arith, h))
asked_disc s v q d true e Stop is open_there h = absurd (omega (arith, h))
asked_disc s v q d true e (CloseChannel c) is open_there h =
    let none : is_none (if v.lost then Some LineLost else (if nat_le 128 (length v.hand) then Some Busy else refused_ask s v (CloseChannel c))) ≡ true =
    sym (ap (λ (x : Ask). is_none (if v.lost then Some LineLost else (if nat_le 128 (length v.hand) then Some Busy else refused_ask s v x))) is) ∙ e in
    let opened = not_refused v.lost (nat_le 128 (length v.hand)) (c.number == 0) (is_shut (v.state c.number)) (is_opened (v.state c.number)) (all_have_room s v (asking s.role (CloseChannel c))) none in
    let same = eqb-true c.number d (same_place true (c.number == d) (omega (arith, h))) in
    open_there (ap (λ n. is_opened (v.state n)) (sym same) ∙ opened)

-- ## The past

-- no frame that comes calls for a DISC
pub disc_never : (d : ℕ) (r : Role) (state : ℕ → State) (f : Frame) → many (discs d) (by_frame r state f) ≤ 0
disc_never d r state f =
    let e = modes_few (discs d) (λ n. false) (record { uih = λ q e info. refl; answer = λ q e b. either q e b }) r state f in
    let z = none (is_kind f.kind Sabm || is_kind f.kind Disc) in
    omega (arith, e, z)
  where
    either : (q : Role) (e : ℕ) (b : Bool) → unit (is_on Disc d (ua_or_dm q e b)) ≤ 0
    either q e true = omega arith
    either q e false = omega arith

    none : (b : Bool) → unit (b && false) ≤ 0
    none true = omega arith
    none false = omega arith

flow_never : (d : ℕ) (r : Role) (state : ℕ → State) (e signals : ℕ) → many (discs d) (by_flow r state e signals) ≤ 0
flow_never d r state e signals = few_if (discs d) 0 (is_opened (state e)) (msc_frame r e signals ∷ []) [] (omega arith) (omega arith)

-- no more are counted than a filter leaves
pub once_many : (t : Frame → Bool) (fs : List Frame) → many t fs ≤ length (filter t fs)
once_many t [] = omega arith
once_many t (f ∷ fs) = by_test (t f) (once_many t fs)
  where
    by_test : (b : Bool) → many t fs ≤ length (filter t fs) → unit b + many t fs ≤ length (if b then f ∷ filter t fs else filter t fs)
    by_test true k = omega (arith, k)
    by_test false k = omega (arith, k)

abbrev uas : ℕ → List Act → ℕ
uas d past = many (is_on Ua d) (frames_got (wire past))

abbrev Behind : Setting → ℕ → List Act → Type 0
Behind s d past = 1 ≤ sends (discs d) (owed s past) + many (discs d) (frames_sent (wire past)) → 1 ≤ uas d past

calls_on : (s : Setting) (d : ℕ) (past : List Act) (a : Act) → (1 ≤ many (discs d) (frames_by s (seen_behind s past (owed s past)) a) → 1 ≤ uas d past) → Behind s d past
    → 1 ≤ sends (discs d) (owed s past ++ calls_behind s past (owed s past) a) + many (discs d) (frames_sent (wire past)) → 1 ≤ uas d past
calls_on s d past a h k some =
    let c = calls_behind s past (owed s past) a in
    let v = seen_behind s past (owed s past) in
    let parts = sends_both (discs d) (owed s past) c in
    let few = called (discs d) (many (discs d) (frames_by s v a)) s v a (omega arith) in
    either_of (sends (discs d) (owed s past)) (many (discs d) (frames_by s v a)) (many (discs d) (frames_sent (wire past))) (omega (arith, some, parts, few)) k h

says_there : (s : Setting) (d : ℕ) (past : List Act) → s.role ≡ Initiator → Says (uas d past) (many (is_on Sabm d) (frames_sent (wire past))) (state_of s.role d (wire past))
says_there s d past is = subst (λ (r : Role). Says (uas d past) (many (is_on Sabm d) (frames_sent (wire past))) (state_of r d (wire past))) (sym is) (state_says d (wire past))

-- where the state is Opened a UA came
pub from_opened : (ua sabm : ℕ) (s : State) → Says ua sabm s → is_opened s ≡ true → 1 ≤ ua
from_opened ua sabm IsOpened h o = h
from_opened ua sabm IsShut h o = cc
from_opened ua sabm (IsOpening n) h o = cc
from_opened ua sabm (IsClosing n) h o = cc
from_opened ua sabm (IsStopping n) h o = cc

from_closing : (ua sabm n : ℕ) (s : State) → Says ua sabm s → s ≡ IsClosing n → 1 ≤ ua
from_closing ua sabm n s h e = subst (Says ua sabm) e h

from_opening : (ua sabm n : ℕ) (s : State) → Says ua sabm s → s ≡ IsOpening n → (n == 3) ≡ true → sabm ≤ 1 → 1 ≤ ua
from_opening ua sabm n s h e three few =
    let x : n + 1 ≤ sabm = subst (Says ua sabm) e h in
    let y = eqb-true n 3 three in
    absurd (omega (arith, x, y, few))

sent_on : (s : Setting) (d : ℕ) (past : List Act) (f : Frame) (b : Bool) → is_data_frame f ≡ b → (b ≡ true → discs d f ≡ false) → When (not b) (IsNext (owed s past) (Sent f)) → Behind s d past
    → 1 ≤ sends (discs d) (if b then owed s past else drop 1 (owed s past)) + (unit (discs d f) + many (discs d) (frames_sent (wire past))) → 1 ≤ uas d past
sent_on s d past f true is plain n k some = let e : unit (discs d f) ≡ 0 = ap unit (plain refl) in k (omega (arith, some, e))
sent_on s d past f false is plain n k some =
    let e : sends (discs d) (owed s past) ≡ unit (discs d f) + sends (discs d) n.later = ap (sends (discs d)) n.is_next in
    let x : sends (discs d) (drop 1 (owed s past)) ≡ sends (discs d) n.later = ap (λ (xs : List Act). sends (discs d) (drop 1 xs)) n.is_next in
    k (omega (arith, some, e, x))

data_no_disc : (k : Kind) (x : Bool) → is_kind k Uih ≡ true → (is_kind k Disc && x) ≡ false
data_no_disc Uih x h = refl
data_no_disc Sabm x h = cc
data_no_disc Ua x h = cc
data_no_disc Dm x h = cc
data_no_disc Disc x h = cc

behind : (s : Setting) (d : ℕ) (past : List Act) → s.role ≡ Initiator → Lawful s past → AsksOnce (wire past) → Behind s d past
unfolding Lawful
behind s d [] is l once some = absurd (omega (arith, some))
behind s d (Sent f ∷ past) is l once some =
    sent_on s d past f (is_data_frame f) refl (λ e. data_no_disc f.kind (f.dlci == d) (and_parts (is_kind f.kind Uih) (not (f.dlci == 0)) e).0) l.0.controlled
    (behind s d past is l.1 (λ e. asks_fewer e f (frames_sent (wire past)) (once e))) some
behind s d (Told o ∷ past) is l once some = let x = dropped (discs d) (owed s past) in behind s d past is l.1 once (omega (arith, some, x))
behind s d (Heard u e line ∷ past) is l once some = let x = dropped (discs d) (owed s past) in behind s d past is l.1 once (omega (arith, some, x))
behind s d (Given ∷ past) is l once some = behind s d past is l.1 once some
behind s d (Lost ∷ past) is l once some =
    let parts = sends_both (discs d) (unsent (owed s past)) (calls_behind s past (owed s past) Lost) in
    let none = unsent_none (discs d) (owed s past) in
    let none_called = called (discs d) 0 s (seen_behind s past (owed s past)) Lost (omega arith) in
    behind s d past is l.1 once (omega (arith, some, parts, none, none_called))
behind s d (Took q ∷ past) is l once some =
    let v = seen_behind s past (owed s past) in
    calls_on s d past (Took q)
    (λ k. asked_disc s v q d (is_none (at_once s v q)) refl q.ask refl (λ o. from_opened (uas d past) (many (is_on Sabm d) (frames_sent (wire past))) (state_of s.role d (wire past)) (says_there s d past is) o) k)
    (behind s d past is l.1 once) some
behind s d (Held e ∷ past) is l once some =
    calls_on s d past (Held e) (λ k. none_here (many (discs d) (by_flow s.role (seen_behind s past (owed s past)).state e held_up)) (flow_never d s.role (seen_behind s past (owed s past)).state e held_up) k) (behind s d past is l.1 once) some
behind s d (Freed e ∷ past) is l once some =
    calls_on s d past (Freed e) (λ k. none_here (many (discs d) (by_flow s.role (seen_behind s past (owed s past)).state e ready)) (flow_never d s.role (seen_behind s past (owed s past)).state e ready) k) (behind s d past is l.1 once) some
behind s d (Got f ∷ past) is l once some =
    let v = seen_behind s past (owed s past) in
    let x = calls_on s d past (Got f) (λ k. none_here (many (discs d) (by_frame s.role v.state f)) (disc_never d s.role v.state f) k) (behind s d past is l.1 once) some in
    omega (arith, x)
behind s d (Tick ∷ past) is l once some =
    let v = seen_behind s past (owed s past) in
    let says = says_there s d past is in
    let few = once_many (is_on Sabm d) (frames_sent (wire past)) in
    let one = once d in
    calls_on s d past Tick
    (λ k.
    tick_disc s.role s.n1 d v.state (λ n c. from_closing (uas d past) (many (is_on Sabm d) (frames_sent (wire past))) n (state_of s.role d (wire past)) says c)
    (λ n o three. from_opening (uas d past) (many (is_on Sabm d) (frames_sent (wire past))) n (state_of s.role d (wire past)) says o three (omega (arith, few, one))) v.queued 0 62 k)
    (behind s d past is l.1 once) some

-- once a DISC on d was sent a UA on d has come
pub disc_behind : (s : Setting) (d : ℕ) (past : List Act) → s.role ≡ Initiator → Lawful s past → AsksOnce (wire past) → 1 ≤ many (is_on Disc d) (frames_sent (wire past)) → 1 ≤ many (is_on Ua d) (frames_got (wire past))
disc_behind s d past is l once some = behind s d past is l once (omega (arith, some))
