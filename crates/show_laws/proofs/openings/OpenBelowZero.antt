-- A driver's connection is open while 0 is.
use Rattle.std.specs.Prelude.{◌≡◌, zero, suc, ℕ, ◌+◌, ◌==◌, ◌≤◌, ◌&&◌, ◌||◌, not, nat_le, Bool, true, false, List, [], ◌∷◌, ◌++◌, drop, length, Option, Some, None, refl, is_none, if◌then◌else◌}
use Rattle.std.proofs.Common.{ap, arith, sym, ◌∙◌, eqb-true}
use Rattle.std.proofs.lemmas.Bool.{and_parts, or_from, or_left, or_parts, or_right}
use Rattle.mux_frame.specs.Frames.{Frame}
use Rattle.mux_frame.specs.declared.frame.Kind.{Kind}
use Rattle.mux_frame.specs.declared.frame.Kind.TheVariants.{Sabm, Ua, Dm, Disc, Uih}
use Rattle.mux_station.specs.declared.role.Role.{Role}
use Rattle.mux_station.specs.declared.role.Role.TheVariants.{Initiator}
use Rattle.mux_station.specs.Acts as station
use Rattle.mux_station.specs.Messages.{brings_command, cld, message_of, octet_is}
use Rattle.mux_station.specs.Opening.{asks, ends, is_mode_frame, is_open, opens, opens_now}
use Rattle.mux_station.specs.States.{State, IsShut, IsOpening, IsOpened, IsClosing, IsStopping, is_opened, is_shut, state_of}
use Rattle.mux_station.specs.Tables.{again, held_up, if_room, is_opening, msc_frame, octets_of, ready, ticked}
use Rattle.mux_station.specs.Written.{is_data_frame, is_kind, is_on, written}
use Rattle.mux_station.proofs.states.OpeningSteps.{is_open_after, opening_asked}
use Rattle.modem_desk.specs.declared.request.Ask.{Ask}
use Rattle.modem_desk.specs.declared.request.Ask.TheVariants.{OpenChannel, CloseChannel, Command, Probe, Stop}
use Rattle.modem_desk.specs.declared.request.Answer.{Answer}
use Rattle.modem_desk.specs.declared.request.Answer.TheVariants.{AlreadyOpen, Busy, LineLost, NotOpen}
use Rattle.modem_desk.specs.declared.request.Request.{Request}
use Rattle.modem_history.specs.Acts.{Act, Took, Got, Sent, Told, Heard, Tick, Lost, Held, Freed, Given, wire}
use Rattle.modem_history.specs.Calls.{HistoryView, Setting, all_have_room, asking, at_once, calls_behind, frames_by, refused_ask, seen_behind}
use Rattle.modem_history.specs.Lawful.{IsNext, Lawful, When, owed, owes_frame, unsent}
use Rattle.modem_history.specs.TwoEnds.{frames_got, frames_sent}
use Rattle.show_laws.proofs.asks.AnswerShapes.{or_elim}
use Rattle.show_laws.proofs.counts.ManyFrames.{few_if, many, many_both, none_one, unit}
use Rattle.show_laws.proofs.counts.BalancedTables.{tick_none}
use Rattle.show_laws.proofs.counts.DriverCounts.{called, dropped, none_owed, sends, sends_both, unsent_none}
use Rattle.show_laws.proofs.openings.DiscBehindUa.{discs, from_opened, one_of, same_place, tick_disc}
use Rattle.show_laws.proofs.openings.DriverStates.{state_says}
use Rattle.show_laws.proofs.openings.ModeAnswers.{sabm_never}
use Rattle.show_laws.proofs.openings.QuietFrames.{EndsNone, asked_at, ends_none, itself_zero, kept_zero, open_at, unended, zero_at}
use Rattle.show_laws.proofs.openings.UaBehindSabm.{none_of}

-- the frame ends 0 where it is sent
abbrev pub ends_zero : Frame → Bool
ends_zero f = is_on Disc 0 f || brings_command cld f

-- Where d is open or asked for, 0 is open. So it is where a SABM on d is owed, and then nothing is that ends 0.
pub record Below (s : Setting) (d : ℕ) (past : List Act) : Type 0 where
  pub up : (open_at d (wire past) || asked_at d (wire past)) ≡ true → zero_at d (wire past) ≡ true
  pub owes : 1 ≤ sends (is_on Sabm d) (owed s past) → (zero_at d (wire past) ≡ true) × (sends ends_zero (owed s past) ≤ 0)

-- ## One act of the station

keeps : (d : ℕ) (p : List station.Act) (a : station.Act) → ends (zero_at d p) 0 a ≡ false → zero_at d p ≡ true → zero_at d (a ∷ p) ≡ true
keeps d p a e z = is_open_after Initiator 0 p a ∙ kept_zero (opens_now Initiator 0 p a) (zero_at d p) (ends (zero_at d p) 0 a) z e

up_step : (d : ℕ) (p : List station.Act) (a : station.Act) → (d == 0) ≡ false → ((open_at d p || asked_at d p) ≡ true → zero_at d p ≡ true)
    → (opens Initiator (zero_at d p) (asked_at d p) d a ≡ true → (asked_at d p ≡ true) × (ends (zero_at d p) 0 a ≡ false))
    → (asks d a ≡ true → (zero_at d p ≡ true) × (ends (zero_at d p) 0 a ≡ false))
    → (open_at d (a ∷ p) || asked_at d (a ∷ p)) ≡ true → zero_at d (a ∷ p) ≡ true
up_step d p a apart h opening asking_it w =
    or_elim (open_at d (a ∷ p)) (asked_at d (a ∷ p)) w
    (λ o.
    or_elim (opens Initiator (zero_at d p) (asked_at d p) d a) (open_at d p && not (ends (zero_at d p) d a)) (sym (is_open_after Initiator d p a) ∙ o)
    (λ x. let q = opening x in keeps d p a q.1 (h (or_right (open_at d p) (asked_at d p) q.0)))
    (λ x. let q = unended (open_at d p) (ends (zero_at d p) d a) x in keeps d p a (itself_zero (zero_at d p) a d apart q.1) (h (or_left (open_at d p) (asked_at d p) q.0))))
    (λ k.
    or_elim (asks d a) (asked_at d p && not (is_mode_frame d a || ends (zero_at d p) d a)) k
    (λ x. let q = asking_it x in keeps d p a q.1 q.0)
    (λ x.
    let q = unended (asked_at d p) (is_mode_frame d a || ends (zero_at d p) d a) x in
    let e = or_parts (is_mode_frame d a) (ends (zero_at d p) d a) q.1 in
    keeps d p a (itself_zero (zero_at d p) a d apart e.1) (h (or_right (open_at d p) (asked_at d p) q.0))))

ua_alone : (k : Kind) (x y c : Bool) → (is_kind k Ua && x) ≡ true → (((is_kind k Disc && y) ≡ false) × ((is_kind k Dm && y) ≡ false)) × (((is_kind k Sabm && y) ≡ false) × (((is_kind k Uih && y) && c) ≡ false))
ua_alone Ua x y c h = ((refl, refl), (refl, refl))
ua_alone Sabm x y c h = cc
ua_alone Dm x y c h = cc
ua_alone Disc x y c h = cc
ua_alone Uih x y c h = cc

ua_keeps : (z : Bool) (d : ℕ) (f : Frame) → is_on Ua d f ≡ true → ends z 0 (station.Got f) ≡ false
ua_keeps z d f h =
    let k = ua_alone f.kind (f.dlci == d) (f.dlci == 0) (octet_is (λ n. n) cld (message_of f.info)) h in
    let none : EndsNone 0 f = record { disc = k.0.0; dm = k.0.1; sabm = k.1.0 } in
    ends_none z 0 f none none k.1.1

sabm_alone : (k : Kind) (x y c : Bool) → (is_kind k Sabm && x) ≡ true → ((is_kind k Disc && y) || ((is_kind k Uih && y) && c)) ≡ false
sabm_alone Sabm x y c h = refl
sabm_alone Ua x y c h = cc
sabm_alone Dm x y c h = cc
sabm_alone Disc x y c h = cc
sabm_alone Uih x y c h = cc

data_alone : (k : Kind) (y c : Bool) → (is_kind k Uih && not y) ≡ true → ((is_kind k Disc && y) || ((is_kind k Uih && y) && c)) ≡ false
data_alone Uih true c h = cc
data_alone Uih false c h = refl
data_alone Sabm y c h = cc
data_alone Ua y c h = cc
data_alone Dm y c h = cc
data_alone Disc y c h = cc

-- what doesn't end 0 when it is sent leaves it open
sent_ends : (z : Bool) (f : Frame) → ends_zero f ≡ false → ends z 0 (station.Sent f) ≡ false
sent_ends z f h = or_from (ends_zero f) false h refl

-- ## What is owed

-- no more pass one of two tests than pass the first and the second
pub many_or : (a b : Frame → Bool) (fs : List Frame) → many (λ f. a f || b f) fs ≤ many a fs + many b fs
many_or a b [] = omega arith
many_or a b (f ∷ fs) = let x = one (a f) (b f) in let y = many_or a b fs in omega (arith, x, y)
  where
    one : (p q : Bool) → unit (p || q) ≤ unit p + unit q
    one true q = omega arith
    one false q = omega arith

-- what can't be 1 or more is 0
pub none_when : (n : ℕ) → (1 ≤ n → ⊥) → n ≤ 0
none_when zero h = omega arith
none_when (suc n) h = absurd (h (omega arith))

-- an act of which the first calls: before it no frame is owed
pub first_owes : (s : Setting) (past : List Act) (a : Act) (u : Frame → Bool) → owes_frame (owed s past) ≡ false → sends u (owed s past ++ calls_behind s past (owed s past) a) ≤ many u (frames_by s (seen_behind s past (owed s past)) a)
first_owes s past a u prompt =
    let v = seen_behind s past (owed s past) in
    let parts = sends_both u (owed s past) (calls_behind s past (owed s past) a) in
    let before = none_owed u (owed s past) prompt in
    let few = called u (many u (frames_by s v a)) s v a (omega arith) in
    omega (arith, parts, before, few)

no_sabm_owed : {P : Type 0} → (n m : ℕ) → 1 ≤ n → n ≤ m → m ≤ 0 → P
no_sabm_owed n m some few none = absurd (omega (arith, some, few, none))

zero_from : (s : Setting) (d : ℕ) (past : List Act) → s.role ≡ Initiator → is_opened (state_of s.role 0 (wire past)) ≡ true → zero_at d (wire past) ≡ true
zero_from s d past is h = sym (ap (λ (r : Role). is_opened (state_of r 0 (wire past))) is) ∙ h

zero_opened : (s : Setting) (d : ℕ) (past : List Act) → s.role ≡ Initiator → zero_at d (wire past) ≡ true → is_opened (state_of s.role 0 (wire past)) ≡ true
zero_opened s d past is h = ap (λ (r : Role). is_opened (state_of r 0 (wire past))) is ∙ h

-- ## Requests

-- a request that is told nothing at once finds open what must be
pub open_not_refused : (a b c : Bool) (o : Option Answer) → is_none (if a then Some LineLost else (if b then Some Busy else (if c then Some NotOpen else o))) ≡ true → c ≡ false
open_not_refused true b c o h = cc
open_not_refused false true c o h = cc
open_not_refused false false true o h = cc
open_not_refused false false false o h = refl

asked_sabm : {P : Type 0} → (s : Setting) (v : HistoryView) (q : Request) (d : ℕ) (b : Bool) → is_none (at_once s v q) ≡ b → (ask : Ask) → q.ask ≡ ask → (d == 0) ≡ false
    → (is_opened (v.state 0) ≡ true → many ends_zero (if b then asking s.role ask else []) ≤ 0 → P) → 1 ≤ many (is_on Sabm d) (if b then asking s.role ask else []) → P
asked_sabm s v q d false e ask is apart there h = absurd (omega (arith, h))
asked_sabm s v q d true e (CloseChannel c) is apart there h = absurd (omega (arith, h))
asked_sabm s v q d true e (Command c line) is apart there h = absurd (omega (arith, h))
asked_sabm s v q d true e (Probe octets) is apart there h = absurd (omega (arith, h))
asked_sabm s v q d true e Stop is apart there h = absurd (omega (arith, h))
asked_sabm s v q d true e (OpenChannel c) is apart there h =
    let rest : Option Answer = if is_opened (v.state c.number) then Some AlreadyOpen else (if not (is_shut (v.state c.number) && all_have_room s v (asking s.role (OpenChannel c))) then Some Busy else None) in
    let none : is_none (if v.lost then Some LineLost else (if nat_le 128 (length v.hand) then Some Busy else refused_ask s v (OpenChannel c))) ≡ true =
    sym (ap (λ (x : Ask). is_none (if v.lost then Some LineLost else (if nat_le 128 (length v.hand) then Some Busy else refused_ask s v x))) is) ∙ e in
    let passed = open_not_refused v.lost (nat_le 128 (length v.hand)) (not (c.number == 0) && not (is_opened (v.state 0))) rest none in
    let same = eqb-true c.number d (same_place true (c.number == d) (omega (arith, h))) in
    let away : (c.number == 0) ≡ false = ap (λ n. n == 0) same ∙ apart in
    there (turned (is_opened (v.state 0)) (sym (ap (λ (x : Bool). not x && not (is_opened (v.state 0))) away) ∙ passed)) (none_one ends_zero (written s.role Sabm c.number []) refl)
  where
    turned : (x : Bool) → not x ≡ false → x ≡ true
    turned true h = refl
    turned false h = cc

-- ## Ticks

here_sabm : {P : Type 0} → (r : Role) (n1 queued d e : ℕ) (own : State) → ((e == d) ≡ true → is_opening own ≡ true → P) → 1 ≤ many (is_on Sabm d) (if_room n1 queued (again r e own)) → P
here_sabm r n1 queued d e IsShut o h = absurd (omega (arith, h))
here_sabm r n1 queued d e IsOpened o h = absurd (omega (arith, h))
here_sabm r n1 queued d e (IsStopping n) o h = absurd (omega (arith, h))
here_sabm {P} r n1 queued d e (IsClosing n) o h = closing (n == 3) h
  where
    closing : (b : Bool) → 1 ≤ many (is_on Sabm d) (if_room n1 queued (if b then None else Some (written r Disc e []))) → P
    closing true h = absurd (omega (arith, h))
    closing false h = let x = one_of (is_on Sabm d) n1 queued (written r Disc e []) h in absurd (omega (arith, x))
here_sabm {P} r n1 queued d e (IsOpening n) o h = opening (n == 3) h
  where
    opening : (b : Bool) → 1 ≤ many (is_on Sabm d) (if_room n1 queued (Some (written r (if b then Disc else Sabm) e []))) → P
    opening true h = let x = one_of (is_on Sabm d) n1 queued (written r Disc e []) h in absurd (omega (arith, x))
    opening false h = o (same_place true (e == d) (one_of (is_on Sabm d) n1 queued (written r Sabm e []) h)) refl

either_of : {P : Type 0} → (m n : ℕ) → 1 ≤ m + n → (1 ≤ m → P) → (1 ≤ n → P) → P
either_of zero n h f g = g (omega (arith, h))
either_of (suc m) n h f g = f (omega arith)

tick_sabm : {P : Type 0} → (r : Role) (n1 d : ℕ) (state : ℕ → State) → (is_opening (state d) ≡ true → P) → (queued e count : ℕ) → 1 ≤ many (is_on Sabm d) (ticked r n1 state queued e count) → P
tick_sabm r n1 d state o queued e zero h = absurd (omega (arith, h))
tick_sabm {P} r n1 d state o queued e (suc count) h =
    let here = if_room n1 queued (again r e (state e)) in
    let rest = ticked r n1 state (queued + octets_of here) (e + 1) count in
    let parts = many_both (is_on Sabm d) here rest in
    either_of (many (is_on Sabm d) here) (many (is_on Sabm d) rest) (omega (arith, h, parts))
    (λ k. here_sabm r n1 queued d e (state e) (λ same is. o (ap (λ n. is_opening (state n)) (sym (eqb-true e d same)) ∙ is)) k)
    (λ k. tick_sabm r n1 d state o (queued + octets_of here) (e + 1) count k)

opened_not : {P : Type 0} → (s : State) (n : ℕ) → is_opened s ≡ true → s ≡ IsClosing n → P
opened_not s n o e = let t : true ≡ false = sym o ∙ ap is_opened e in cc

opened_not_opening : {P : Type 0} → (s : State) (n : ℕ) → is_opened s ≡ true → s ≡ IsOpening n → P
opened_not_opening s n o e = let t : true ≡ false = sym o ∙ ap is_opened e in cc

-- a tick calls for nothing that ends 0, where 0 is Opened
tick_keeps : (r : Role) (n1 : ℕ) (state : ℕ → State) (queued : ℕ) → is_opened (state 0) ≡ true → many ends_zero (ticked r n1 state queued 0 62) ≤ 0
tick_keeps r n1 state queued o =
    let disc = none_when (many (discs 0) (ticked r n1 state queued 0 62)) (λ some. tick_disc r n1 0 state (λ n e. opened_not (state 0) n o e) (λ n e three. opened_not_opening (state 0) n o e) queued 0 62 some) in
    let down = tick_none r (brings_command cld) (λ e. refl) (λ e. refl) n1 state queued 0 62 in
    let all = many_or (is_on Disc 0) (brings_command cld) (ticked r n1 state queued 0 62) in
    omega (arith, disc, down, all)

-- ## The past

sent_below : (s : Setting) (d : ℕ) (past : List Act) (f : Frame) (b : Bool) → (d == 0) ≡ false → is_data_frame f ≡ b → When (not b) (IsNext (owed s past) (Sent f)) → Below s d past → Below s d (Sent f ∷ past)
sent_below s d past f true apart is n h =
    let p = wire past in
    let quiet : ends_zero f ≡ false = data_alone f.kind (f.dlci == 0) (octet_is (λ n. n) cld (message_of f.info)) is in
    let same : owed s (Sent f ∷ past) ≡ owed s past = ap (λ (b : Bool). if b then owed s past else drop 1 (owed s past)) is in
    record {
      up = up_step d p (station.Sent f) apart h.up (λ x. cc) (λ x. let t : true ≡ false = sym x ∙ data_no_sabm f.kind (f.dlci == d) (f.dlci == 0) is in cc);
      owes = λ some.
          let one : sends (is_on Sabm d) (owed s (Sent f ∷ past)) ≡ sends (is_on Sabm d) (owed s past) = ap (sends (is_on Sabm d)) same in
          let k = h.owes (omega (arith, some, one)) in
          let none : sends ends_zero (owed s (Sent f ∷ past)) ≡ sends ends_zero (owed s past) = ap (sends ends_zero) same in
          let few = k.1 in
          (keeps d p (station.Sent f) (sent_ends (zero_at d p) f quiet) k.0, omega (arith, none, few));
    }
  where
    data_no_sabm : (k : Kind) (x y : Bool) → (is_kind k Uih && not y) ≡ true → (is_kind k Sabm && x) ≡ false
    data_no_sabm Uih x y h = refl
    data_no_sabm Sabm x y h = cc
    data_no_sabm Ua x y h = cc
    data_no_sabm Dm x y h = cc
    data_no_sabm Disc x y h = cc
sent_below s d past f false apart is n h =
    let p = wire past in
    let same : owed s (Sent f ∷ past) ≡ n.later = ap (λ (b : Bool). if b then owed s past else drop 1 (owed s past)) is ∙ ap (λ (xs : List Act). drop 1 xs) n.is_next in
    record {
      up = up_step d p (station.Sent f) apart h.up (λ x. cc) (λ x.
          let one : sends (is_on Sabm d) (owed s past) ≡ unit (is_on Sabm d f) + sends (is_on Sabm d) n.later = ap (sends (is_on Sabm d)) n.is_next in
          let here : unit (is_on Sabm d f) ≡ 1 = ap unit x in
          let k = h.owes (omega (arith, one, here)) in
          (k.0, sent_ends (zero_at d p) f (sabm_alone f.kind (f.dlci == d) (f.dlci == 0) (octet_is (λ n. n) cld (message_of f.info)) x)));
      owes = λ some.
          let one : sends (is_on Sabm d) (owed s past) ≡ unit (is_on Sabm d f) + sends (is_on Sabm d) n.later = ap (sends (is_on Sabm d)) n.is_next in
          let rest : sends (is_on Sabm d) (owed s (Sent f ∷ past)) ≡ sends (is_on Sabm d) n.later = ap (sends (is_on Sabm d)) same in
          let k = h.owes (omega (arith, some, one, rest)) in
          let all : sends ends_zero (owed s past) ≡ unit (ends_zero f) + sends ends_zero n.later = ap (sends ends_zero) n.is_next in
          let left : sends ends_zero (owed s (Sent f ∷ past)) ≡ sends ends_zero n.later = ap (sends ends_zero) same in
          let few = k.1 in
          let quiet = none_of ends_zero f (sends ends_zero n.later) (omega (arith, few, all)) in
          (keeps d p (station.Sent f) (sent_ends (zero_at d p) f quiet) k.0, omega (arith, few, all, left));
    }

told_below : (s : Setting) (d : ℕ) (past : List Act) → Below s d past → 1 ≤ sends (is_on Sabm d) (drop 1 (owed s past)) → (zero_at d (wire past) ≡ true) × (sends ends_zero (drop 1 (owed s past)) ≤ 0)
told_below s d past h some =
    let x = dropped (is_on Sabm d) (owed s past) in
    let y = dropped ends_zero (owed s past) in
    let k = h.owes (omega (arith, some, x)) in
    let few = k.1 in
    (k.0, omega (arith, few, y))

-- at a lawful initiator this is so of each connection but 0
pub below : (s : Setting) (d : ℕ) (past : List Act) → s.role ≡ Initiator → (d == 0) ≡ false → Lawful s past → Below s d past
unfolding Lawful
below s d [] is apart l = record { up = λ w. cc; owes = λ some. absurd (omega (arith, some)) }
below s d (Sent f ∷ past) is apart l = sent_below s d past f (is_data_frame f) apart refl l.0.controlled (below s d past is apart l.1)
below s d (Told o ∷ past) is apart l = let h = below s d past is apart l.1 in record { up = h.up; owes = told_below s d past h }
below s d (Heard u e line ∷ past) is apart l = let h = below s d past is apart l.1 in record { up = h.up; owes = told_below s d past h }
below s d (Given ∷ past) is apart l =
    let h = below s d past is apart l.1 in
    record {
      up = up_step d (wire past) station.Given apart h.up (λ x. cc) (λ x. cc);
      owes = λ some. let k = h.owes some in (keeps d (wire past) station.Given refl k.0, k.1);
    }
below s d (Lost ∷ past) is apart l =
    let h = below s d past is apart l.1 in
    let parts = sends_both (is_on Sabm d) (unsent (owed s past)) (calls_behind s past (owed s past) Lost) in
    let none = unsent_none (is_on Sabm d) (owed s past) in
    let none_called = called (is_on Sabm d) 0 s (seen_behind s past (owed s past)) Lost (omega arith) in
    record {
      up = up_step d (wire past) station.Lost apart h.up (λ x. cc) (λ x. cc);
      owes = λ some. absurd (omega (arith, some, parts, none, none_called));
    }
below s d (Got f ∷ past) is apart l =
    let h = below s d past is apart l.1 in
    let p = wire past in
    record {
      up = up_step d p (station.Got f) apart h.up (λ x. let q = and_parts (is_on Ua d f) (asked_at d p) x in (q.1, ua_keeps (zero_at d p) d f q.0)) (λ x. cc);
      owes = λ some.
          no_sabm_owed (sends (is_on Sabm d) (owed s (Got f ∷ past))) (many (is_on Sabm d) (frames_by s (seen_behind s past (owed s past)) (Got f))) some
          (first_owes s past (Got f) (is_on Sabm d) l.0.prompt) (sabm_never d s.role (seen_behind s past (owed s past)).state f);
    }
below s d (Took q ∷ past) is apart l =
    let h = below s d past is apart l.1 in
    let v = seen_behind s past (owed s past) in
    record {
      up = h.up;
      owes = λ some.
          let first = first_owes s past (Took q) (is_on Sabm d) l.0.prompt in
          asked_sabm s v q d (is_none (at_once s v q)) refl q.ask refl apart
          (λ o none. let few = first_owes s past (Took q) ends_zero l.0.prompt in (zero_from s d past is o, omega (arith, few, none))) (omega (arith, some, first));
    }
below s d (Tick ∷ past) is apart l =
    let h = below s d past is apart l.1 in
    let p = wire past in
    let v = seen_behind s past (owed s past) in
    record {
      up = up_step d p station.Tick apart h.up (λ x. cc) (λ x. cc);
      owes = λ some.
          let first = first_owes s past Tick (is_on Sabm d) l.0.prompt in
          tick_sabm s.role s.n1 d v.state
          (λ o.
          let asked = and_parts (asked_at d p) (not (open_at d p)) (sym (opening_asked d p) ∙ (sym (ap (λ (r : Role). is_opening (state_of r d p)) is) ∙ o)) in
          let z = h.up (or_right (open_at d p) (asked_at d p) asked.0) in
          let few = first_owes s past Tick ends_zero l.0.prompt in
          let none = tick_keeps s.role s.n1 v.state v.queued (zero_opened s d past is z) in
          (keeps d p station.Tick refl z, omega (arith, few, none))) v.queued 0 62 (omega (arith, some, first));
    }
below s d (Held e ∷ past) is apart l =
    let h = below s d past is apart l.1 in
    let v = seen_behind s past (owed s past) in
    record {
      up = h.up;
      owes = λ some.
          no_sabm_owed (sends (is_on Sabm d) (owed s (Held e ∷ past))) (many (is_on Sabm d) (frames_by s v (Held e))) some (first_owes s past (Held e) (is_on Sabm d) l.0.prompt)
          (few_if (is_on Sabm d) 0 (is_opened (v.state e)) (msc_frame s.role e held_up ∷ []) [] (omega arith) (omega arith));
    }
below s d (Freed e ∷ past) is apart l =
    let h = below s d past is apart l.1 in
    let v = seen_behind s past (owed s past) in
    record {
      up = h.up;
      owes = λ some.
          no_sabm_owed (sends (is_on Sabm d) (owed s (Freed e ∷ past))) (many (is_on Sabm d) (frames_by s v (Freed e))) some (first_owes s past (Freed e) (is_on Sabm d) l.0.prompt)
          (few_if (is_on Sabm d) 0 (is_opened (v.state e)) (msc_frame s.role e ready ∷ []) [] (omega arith) (omega arith));
    }

-- so where it is open 0 is open
pub open_below : (s : Setting) (d : ℕ) (past : List Act) → s.role ≡ Initiator → (d == 0) ≡ false → Lawful s past → open_at d (wire past) ≡ true → is_open Initiator 0 (wire past) ≡ true
open_below s d past is apart l o = (below s d past is apart l).up (or_left (open_at d (wire past)) (asked_at d (wire past)) o)

-- ## The UA on 0

zero_came : (d : ℕ) (p : List station.Act) → zero_at d p ≡ true → 1 ≤ many (is_on Ua 0) (frames_got p)
zero_came d p z =
    from_opened (many (is_on Ua 0) (frames_got p)) (many (is_on Sabm 0) (frames_sent p)) (state_of Initiator 0 p) (state_says 0 p) z

-- a SABM on another connection is sent behind it
pub sabm_behind : (s : Setting) (d : ℕ) (past : List Act) → s.role ≡ Initiator → (d == 0) ≡ false → Lawful s past → 1 ≤ many (is_on Sabm d) (frames_sent (wire past)) → 1 ≤ many (is_on Ua 0) (frames_got (wire past))
unfolding Lawful
sabm_behind s d [] is apart l some = absurd (omega (arith, some))
sabm_behind s d (Sent f ∷ past) is apart l some = by_sabm (is_on Sabm d f) refl some (λ k. sabm_behind s d past is apart l.1 k)
  where
    by_sabm : (b : Bool) → is_on Sabm d f ≡ b → 1 ≤ unit b + many (is_on Sabm d) (frames_sent (wire past)) → (1 ≤ many (is_on Sabm d) (frames_sent (wire past)) → 1 ≤ many (is_on Ua 0) (frames_got (wire past)))
        → 1 ≤ many (is_on Ua 0) (frames_got (wire past))
    by_sabm false e k rest = rest (omega (arith, k))
    by_sabm true e k rest =
        let asked : asked_at d (wire (Sent f ∷ past)) ≡ true = or_left (is_on Sabm d f) _ e in
        zero_came d (wire (Sent f ∷ past)) ((below s d (Sent f ∷ past) is apart l).up (or_right (open_at d (wire (Sent f ∷ past))) (asked_at d (wire (Sent f ∷ past))) asked))
sabm_behind s d (Got f ∷ past) is apart l some = let k = sabm_behind s d past is apart l.1 some in omega (arith, k)
sabm_behind s d (Took q ∷ past) is apart l some = sabm_behind s d past is apart l.1 some
sabm_behind s d (Told o ∷ past) is apart l some = sabm_behind s d past is apart l.1 some
sabm_behind s d (Heard u e line ∷ past) is apart l some = sabm_behind s d past is apart l.1 some
sabm_behind s d (Tick ∷ past) is apart l some = sabm_behind s d past is apart l.1 some
sabm_behind s d (Lost ∷ past) is apart l some = sabm_behind s d past is apart l.1 some
sabm_behind s d (Held e ∷ past) is apart l some = sabm_behind s d past is apart l.1 some
sabm_behind s d (Freed e ∷ past) is apart l some = sabm_behind s d past is apart l.1 some
sabm_behind s d (Given ∷ past) is apart l some = sabm_behind s d past is apart l.1 some
