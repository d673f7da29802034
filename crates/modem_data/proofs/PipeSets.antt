-- Each call of several pipes leads on.
use Rattle.std.specs.Prelude.{◌≡◌, ◌≢◌, ℕ, ◌+◌, ◌*◌, ◌/◌, ◌<◌, ◌≤◌, ◌==◌, ◌&&◌, nat_lt, not, Bool, true, false, List, [], ◌∷◌, length, map, All, Option, Some, None, refl, if◌then◌else◌, unwrap_or, slice_index_or, slice_set}
use Rattle.std.proofs.Common.{ap, sym, ◌∙◌, subst, arith, suc, zero}
use Rattle.std.proofs.lemmas.Bool.{eqb-true, eqb-false, ne_eqb, eq-eqb, ltb-true, ltb-false}
use Rattle.std.proofs.lemmas.List.{length-map, length-set, get_or-map, get_or-set_same, get_or-set_other}
use Rattle.std.proofs.lemmas.List.Elements.{All-map, All-weaker, All-get_or, All-from_get_or}
use Rattle.mux_frame.specs.Frames.{Frame}
use Rattle.mux_frame.specs.declared.frame.Kind.TheVariants.{Uih}
use Rattle.mux_station.specs.Acts as station
use Rattle.mux_station.specs.declared.role.Role.{Role}
use Rattle.mux_station.specs.Opening.{is_open}
use Rattle.mux_station.specs.Messages.{is_good_msc}
use Rattle.mux_station.specs.Stopping.{got_says, if_message, msc_says}
use Rattle.mux_station.specs.Written.{is_on, is_kind, is_data_frame}
use Rattle.modem_data.specs.declared.switch.LineCut.{LineCut}
use Rattle.modem_data.specs.Switching.{Idle, is_idle}
use Rattle.modem_data.specs.Watching.{Watch}
use Rattle.modem_data.specs.Passing.{Pass, wire, Came, Went, Flowed, Lost, is_info, is_data, opens_here, ends_here, drops_here, carries, holds, driver_holds, unread, waiting, flow_by, flow_frame, AllowsPass, IsDue, LawfulPasses}
use Rattle.modem_data.specs.Pipes.{Pipe, PipeFits, Leads, HandsOn, saw_pipe, sent_pipe, lost_pipe}
use Rattle.modem_data.specs.PipeSets.{PipeSet, PipesFit, IsPlain, AllLead, AllHand, BeginsAll, NoneOf, AreApart, connections, turn_of}
use Rattle.modem_data.proofs.Pipes.{saw_fits, went_fits, lost_fits, kind_of, other_came, idle_behind, idle_gone, idle_sent}

-- ## Their connections

same_connections : (g : Pipe → Pipe) (ps : List Pipe) → ((p : Pipe) → (g p).watch.dlci ≡ p.watch.dlci) → connections (map g ps) ≡ connections ps
same_connections g [] same = refl
same_connections g (p ∷ ps) same = rw (same p) (ap (λ ds. p.watch.dlci ∷ ds) (same_connections g ps same))

-- a pipe in the place of another of its connection
set_connections : (ps : List Pipe) (i : ℕ) (w : Pipe) → w.watch.dlci ≡ (slice_index_or ps i w).watch.dlci → connections (slice_set ps i w) ≡ connections ps
set_connections [] i w e = refl
set_connections (p ∷ ps) zero w e = ap (λ d. d ∷ connections ps) e
set_connections (p ∷ ps) (suc i) w e = ap (λ ds. p.watch.dlci ∷ ds) (set_connections ps i w e)

-- the connection at a place is that of the pipe there
pub number_at : (ps : List Pipe) (j : ℕ) (p : Pipe) (x : ℕ) → j < length ps → slice_index_or (connections ps) j x ≡ (slice_index_or ps j p).watch.dlci
number_at ps j p x there = get_or-map (λ (q : Pipe). q.watch.dlci) ps j p x there

-- the place of a pipe is that of a connection
pub in_there : (ps : List Pipe) (j : ℕ) → j < length ps → j < length (connections ps)
in_there ps j there = subst (λ n. j < n) (sym (length-map ps (λ (p : Pipe). p.watch.dlci))) there

-- a place of one that they are all other than
other_than : (ps : List Pipe) (e : ℕ) (j : ℕ) (p : Pipe) → NoneOf (connections ps) e → j < length ps → ((slice_index_or ps j p).watch.dlci == e) ≡ false
unfolding NoneOf
other_than ps e j p none there = subst (λ d. (d == e) ≡ false) (number_at ps j p p.watch.dlci there) (none j p.watch.dlci (in_there ps j there))

-- ## A plain connection

-- a plain connection stays plain by a frame that comes
pub plain_came : (role : Role) (e : ℕ) (past : List Pass) (f : Frame) → IsPlain role e past → IsPlain role e (Came f ∷ past)
plain_came role e past f h = record {
  idle = idle_behind (is_info role e past f) (ends_here role e past (station.Got f)) (drops_here role e past f) (carries role e past) f.info h.idle;
  held_is = ap (λ b. if opens_here role e past (station.Got f) then false else b) h.held_is;
}

-- and by a frame of the driver's that goes
pub plain_went : (role : Role) (e : ℕ) (past : List Pass) (f : Frame) → IsPlain role e past → IsPlain role e (Went f ∷ past)
plain_went role e past f h = record {
  idle = idle_gone (ends_here role e past (station.Sent f)) (is_info role e past f) (carries role e past) f.info h.idle;
  held_is = ap (λ b. unwrap_or (got_says (msc_says e) (station.Got f)) b) h.held_is;
}

-- nothing is to be said of it
by_none : (b : Bool) → flow_by b b 0 ≡ None
by_none true = refl
by_none false = refl

-- of a plain connection nothing is due
pub plain_due : (role : Role) (e : ℕ) (past : List Pass) (go : Bool) → IsPlain role e past → ¬ IsDue role e past go
plain_due role e past go h due =
    let none : flow_by (holds role e past) (driver_holds role e past) (waiting role e past) ≡ None = ap (λ c. flow_by (holds role e past) (driver_holds role e past) (if is_idle c then 0 else unread role e past)) h.idle ∙ (ap (λ b. flow_by b (driver_holds role e past) 0) h.held_is ∙ by_none (driver_holds role e past)) in
    let x : None ≡ Some go = sym none ∙ due.due in
    cc

-- an MSC of another connection says nothing of it
its_number : (d : ℕ) → (4 * d + 3) / 4 ≡ d
its_number d = omega arith

by_good : (d e signals : ℕ) (bad : Bool) → (d == e) ≡ false → if_message (msc_says e) (if bad then None else Some (record { octet = 0xe3; value = (4 * d + 3) ∷ signals ∷ [] })) ≡ None
by_good d e signals true other = refl
by_good d e signals false other = rw (its_number d, other) refl

-- an MSC of the relay for one connection says nothing of another
pub none_said : (role : Role) (d e : ℕ) (go : Bool) → (d == e) ≡ false → got_says (msc_says e) (station.Got (flow_frame role d go)) ≡ None
none_said role d e true other = by_good d e 0x8d (not (is_good_msc ((4 * d + 3) ∷ 0x8d ∷ []))) other
none_said role d e false other = by_good d e 0x8f (not (is_good_msc ((4 * d + 3) ∷ 0x8f ∷ []))) other

-- a plain connection stays plain by what the relay says of the flow, since that is another's
pub plain_flowed : (role : Role) (n1 e : ℕ) (past : List Pass) (f : Frame) → AllowsPass role n1 past (Flowed f) → IsPlain role e past → IsPlain role e (Flowed f ∷ past)
plain_flowed role n1 e past f allowed h = record {
  idle = idle_sent (ends_here role e past (station.Sent f)) (carries role e past) h.idle;
  held_is = rw (ap (λ g. got_says (msc_says e) (station.Got g)) allowed.as_written ∙ none_said role allowed.dlci e allowed.go (not_it (allowed.dlci == e) refl)) h.held_is;
}
  where
    not_it : (b : Bool) → (allowed.dlci == e) ≡ b → (allowed.dlci == e) ≡ false
    not_it false q = q
    not_it true q = absurd (plain_due role e past allowed.go h (subst (λ d. IsDue role d past allowed.go) (eqb-true allowed.dlci e q) allowed.is_due))

-- ## All of them

each_by : (role : Role) (n1 : ℕ) (past later : List Pass) (g : Pipe → Pipe) (ps : List Pipe) → ((p : Pipe) → (g p).watch.dlci ≡ p.watch.dlci) → ((p : Pipe) → PipeFits role n1 p.watch.dlci p past → PipeFits role n1 p.watch.dlci (g p) later) → All (λ p. PipeFits role n1 p.watch.dlci p past) ps → All (λ p. PipeFits role n1 p.watch.dlci p later) (map g ps)
each_by role n1 past later g ps same fits each =
    All-map (λ p. PipeFits role n1 p.watch.dlci p later) g ps
    (All-weaker (λ p. PipeFits role n1 p.watch.dlci p past) (λ p. PipeFits role n1 (g p).watch.dlci (g p) later) (λ p h. subst (λ d. PipeFits role n1 d (g p) later) (sym (same p)) (fits p h)) ps each)

-- all lead on by an act by which each does, if it is allowed, leaves plain connections plain and moves no turn
pub all_by : (role : Role) (n1 : ℕ) (ds : List ℕ) (past : List Pass) (a : Pass) (g : Pipe → Pipe) (v w : PipeSet) → w ≡ record v { each = map g v.each } → ((p : Pipe) → (g p).watch.dlci ≡ p.watch.dlci) → ((p : Pipe) → PipeFits role n1 p.watch.dlci p past → PipeFits role n1 p.watch.dlci (g p) (a ∷ past)) → LawfulPasses role n1 (a ∷ past) → ((e : ℕ) → IsPlain role e past → IsPlain role e (a ∷ past)) → turn_of ds (a ∷ past) ≡ turn_of ds past → PipesFit role n1 ds v past → PipesFit role n1 ds w (a ∷ past)
all_by role n1 ds past a g v w e same fits lawful idle turn h = rw e (record {
  role_is = h.role_is;
  lawful = lawful;
  connections_are = same_connections g v.each same ∙ h.connections_are;
  apart = h.apart;
  each = each_by role n1 past (a ∷ past) g v.each same fits h.each;
  others = λ c none. idle c (h.others c none);
  turn_is = h.turn_is ∙ sym turn;
})

-- each pipe sees a frame of the driver's that goes, and all lead on
pub all_went : (v w : PipeSet) (f : Frame) → w ≡ record v { each = map (sent_pipe f) v.each } → AllLead v w (Went f)
unfolding AllLead LawfulPasses
all_went v w f e role n1 ds past h = all_by role n1 ds past (Went f) (sent_pipe f) v w e (λ p. refl) (λ p k. went_fits role n1 p.watch.dlci p past f k) (tt, h.lawful) (λ c k. plain_went role c past f k) refl h

-- each sees the loss of the line, and all lead on
pub all_lost : (v w : PipeSet) → w ≡ record v { each = map lost_pipe v.each } → AllLead v w Lost
unfolding AllLead LawfulPasses
all_lost v w e role n1 ds past h = all_by role n1 ds past Lost lost_pipe v w e (λ p. refl) (λ p k. lost_fits role n1 p.watch.dlci p past k) (tt, h.lawful) (λ c k. record { idle = refl; held_is = k.held_is }) refl h

-- a frame that is no information, or is on 0, is none on another connection
off : (d : ℕ) (f : Frame) → (d == 0) ≡ false → is_data_frame f ≡ false → is_on Uih d f ≡ false
off d f z none = at (is_kind f.kind Uih) (f.dlci == 0) refl none
  where
    at : (k c : Bool) → (f.dlci == 0) ≡ c → k && not c ≡ false → k && (f.dlci == d) ≡ false
    at false c e n = refl
    at true false e n = cc
    at true true e n = ne_eqb f.dlci d (λ q. eqb-false d 0 z (sym q ∙ eqb-true f.dlci 0 e))

-- each sees a frame that came, if it is no information or is on 0, and all lead on
pub all_saw : (v w : PipeSet) (f : Frame) → is_data_frame f ≡ false → w ≡ record v { each = map (saw_pipe f) v.each } → AllLead v w (Came f)
unfolding AllLead LawfulPasses
all_saw v w f none e role n1 ds past h = all_by role n1 ds past (Came f) (saw_pipe f) v w e (λ p. refl) (λ p k. saw_fits role n1 p.watch.dlci p past f (off p.watch.dlci f k.not_control none) k) (tt, h.lawful) (λ c k. plain_came role c past f k) refl h

-- ## One of them

-- one pipe fits by itself what it took; the others fit what passes by them
pub one_by : (role : Role) (n1 : ℕ) (ds : List ℕ) (past : List Pass) (a : Pass) (v w : PipeSet) (i : ℕ) (p : Pipe) → i < length v.each → p.watch.dlci ≡ (slice_index_or v.each i p).watch.dlci → w.each ≡ slice_set v.each i p → w.turn ≡ turn_of ds (a ∷ past) → w.role ≡ v.role → PipeFits role n1 p.watch.dlci p (a ∷ past) → ((q : Pipe) → (q.watch.dlci == p.watch.dlci) ≡ false → PipeFits role n1 q.watch.dlci q past → PipeFits role n1 q.watch.dlci q (a ∷ past)) → ((e : ℕ) → (e == p.watch.dlci) ≡ false → IsPlain role e past → IsPlain role e (a ∷ past)) → PipesFit role n1 ds v past → PipesFit role n1 ds w (a ∷ past)
unfolding AreApart NoneOf
one_by role n1 ds past a v w i p there same is turn end fits by idle h = record {
  role_is = end ∙ h.role_is;
  lawful = fits.lawful;
  connections_are = ap connections is ∙ (set_connections v.each i p same ∙ h.connections_are);
  apart = h.apart;
  each = subst (λ (ps : List Pipe). All (λ q. PipeFits role n1 q.watch.dlci q (a ∷ past)) ps) (sym is) (All-from_get_or (λ q. PipeFits role n1 q.watch.dlci q (a ∷ past)) (slice_set v.each i p) p (λ j short. at j (j == i) refl (subst (λ n. j < n) (length-set v.each i p) short)));
  others = λ e none. idle e (not_it e none) (h.others e none);
  turn_is = turn;
}
  where
    apart_here : AreApart (connections v.each)
    apart_here = subst AreApart (sym h.connections_are) h.apart

    not_it : (e : ℕ) → NoneOf ds e → (e == p.watch.dlci) ≡ false
    not_it e none =
        let here : (p.watch.dlci == e) ≡ false = subst (λ d. (d == e) ≡ false) (sym same) (other_than v.each e i p (subst (λ cs. NoneOf cs e) (sym h.connections_are) none) there) in
        ne_eqb e p.watch.dlci (λ q. eqb-false p.watch.dlci e here (sym q))

    differs : (j : ℕ) → j < length v.each → j ≢ i → ((slice_index_or v.each j p).watch.dlci == p.watch.dlci) ≡ false
    differs j short other =
        subst (λ d. ((slice_index_or v.each j p).watch.dlci == d) ≡ false) (number_at v.each i p p.watch.dlci there ∙ sym same)
        (subst (λ d. (d == slice_index_or (connections v.each) i p.watch.dlci) ≡ false) (number_at v.each j p p.watch.dlci short)
        (apart_here i j p.watch.dlci (in_there v.each i there) (in_there v.each j short) other))

    at : (j : ℕ) (b : Bool) → (j == i) ≡ b → j < length v.each → PipeFits role n1 (slice_index_or (slice_set v.each i p) j p).watch.dlci (slice_index_or (slice_set v.each i p) j p) (a ∷ past)
    at j true e short = subst (λ (q : Pipe). PipeFits role n1 q.watch.dlci q (a ∷ past)) (sym (get_or-set_same v.each i p p there) ∙ ap (λ k. slice_index_or (slice_set v.each i p) k p) (sym (eqb-true j i e))) fits
    at j false e short =
        let other : j ≢ i = λ q. eqb-false j i e q in
        subst (λ (q : Pipe). PipeFits role n1 q.watch.dlci q (a ∷ past)) (sym (get_or-set_other v.each i j p p other))
        (by (slice_index_or v.each j p) (differs j short other) (All-get_or (λ q. PipeFits role n1 q.watch.dlci q past) v.each j p short h.each))

-- ## A frame that came

data_kind : (f : Frame) → is_data_frame f ≡ true → f.kind ≡ Uih
data_kind f e = kind_of f.kind (not (f.dlci == 0)) e

data_dlci : (f : Frame) → is_data_frame f ≡ true → (f.dlci == 0) ≡ false
data_dlci f e = at (is_kind f.kind Uih) (f.dlci == 0) e
  where
    at : (k c : Bool) → k && not c ≡ true → c ≡ false
    at true true x = cc
    at true false x = refl
    at false c x = cc

-- a data frame is information on its own connection
pub own_info : (d : ℕ) (f : Frame) → is_data_frame f ≡ true → d ≡ f.dlci → is_on Uih d f ≡ true
own_info d f e is = rw (data_kind f e) (eq-eqb f.dlci d (sym is))

other_info : (role : Role) (d : ℕ) (past : List Pass) (f : Frame) → (d == f.dlci) ≡ false → is_data role d past f ≡ false
other_info role d past f e = at (is_kind f.kind Uih) (f.dlci == d) (ne_eqb f.dlci d (λ q. eqb-false d f.dlci e (sym q)))
  where
    at : (k c : Bool) → c ≡ false → ((k && c) && is_open role d (wire past)) && not (is_idle (carries role d past)) ≡ false
    at true true x = cc
    at true false x = refl
    at false c x = refl

-- one pipe takes it
pub one_info : (v w : PipeSet) (i : ℕ) (p : Pipe) (f : Frame) → is_data_frame f ≡ true → i < length v.each → (slice_index_or v.each i p).watch.dlci ≡ f.dlci → Leads (slice_index_or v.each i p) p (Came f) → p.watch ≡ (slice_index_or v.each i p).watch → w ≡ record v { each = slice_set v.each i p } → AllLead v w (Came f)
unfolding AllLead Leads
one_info v w i p f e there here leads same is role n1 ds past h =
    let one = ap (λ (x : Watch). x.dlci) same in
    let it = one ∙ here in
    let old = All-get_or (λ q. PipeFits role n1 q.watch.dlci q past) v.each i p there h.each in
    one_by role n1 ds past (Came f) v w i p there one (ap (λ (x : PipeSet). x.each) is) (ap (λ (x : PipeSet). x.turn) is ∙ h.turn_is) (ap (λ (x : PipeSet). x.role) is) (subst (λ d. PipeFits role n1 d p (Came f ∷ past)) (sym one) (leads role n1 (slice_index_or v.each i p).watch.dlci past old))
    (λ q other k. other_came role n1 q.watch.dlci q past f (data_kind f e) (data_dlci f e) (other_info role q.watch.dlci past f (subst (λ d. (q.watch.dlci == d) ≡ false) it other)) k)
    (λ c other k. plain_came role c past f k) h

-- what the pipe of a frame's connection hands on to the driver is what all do
pub one_hand : (v : PipeSet) (i : ℕ) (p : Pipe) (f : Frame) (cut : Option LineCut) → i < length v.each → (slice_index_or v.each i p).watch.dlci ≡ f.dlci → HandsOn (slice_index_or v.each i p) f cut → AllHand v f cut
unfolding AllHand HandsOn
one_hand v i p f None there here hands = λ role n1 ds past h. hands role n1 f.dlci past (subst (λ d. PipeFits role n1 d (slice_index_or v.each i p) past) here (All-get_or (λ q. PipeFits role n1 q.watch.dlci q past) v.each i p there h.each))
one_hand v i p f (Some cut) there here hands = λ role n1 ds past h. hands role n1 f.dlci past (subst (λ d. PipeFits role n1 d (slice_index_or v.each i p) past) here (All-get_or (λ q. PipeFits role n1 q.watch.dlci q past) v.each i p there h.each))

-- none does
nothing : (x : Bool) → x && false ≡ false
nothing true = refl
nothing false = refl

no_lane_there : (role : Role) (e : ℕ) (past : List Pass) (f : Frame) → carries role e past ≡ Idle → is_data role e past f ≡ false
no_lane_there role e past f idle = rw idle (nothing (is_info role e past f))

of_them : (role : Role) (n1 : ℕ) (ds : List ℕ) (v : PipeSet) (past : List Pass) (e : ℕ) → PipesFit role n1 ds v past → NoneOf (connections v.each) e → NoneOf ds e
of_them role n1 ds v past e h none = subst (λ cs. NoneOf cs e) h.connections_are none

-- where no pipe has its connection, the whole frame goes on
pub none_hands : (v : PipeSet) (f : Frame) → NoneOf (connections v.each) f.dlci → AllHand v f None
unfolding AllHand
none_hands v f none role n1 ds past h = no_lane_there role f.dlci past f (h.others f.dlci (of_them role n1 ds v past f.dlci h none)).idle

none_zero : (role : Role) (n1 : ℕ) (ps : List Pipe) (past : List Pass) → All (λ p. PipeFits role n1 p.watch.dlci p past) ps → NoneOf (connections ps) 0
unfolding NoneOf
none_zero role n1 ps past each =
    All-map (λ d. (d == 0) ≡ false) (λ (p : Pipe). p.watch.dlci) ps
    (All-weaker (λ p. PipeFits role n1 p.watch.dlci p past) (λ p. (p.watch.dlci == 0) ≡ false) (λ p h. h.not_control) ps each)

-- so does one that is no information or is on 0
pub control_hands : (v : PipeSet) (f : Frame) → is_data_frame f ≡ false → AllHand v f None
unfolding AllHand
control_hands v f none role n1 ds past h = at (is_kind f.kind Uih) (f.dlci == 0) refl refl none
  where
    at : (k c : Bool) → is_kind f.kind Uih ≡ k → (f.dlci == 0) ≡ c → k && not c ≡ false → is_data role f.dlci past f ≡ false
    at false c ek ec x = rw ek refl
    at true false ek ec x = cc
    at true true ek ec x = no_lane_there role f.dlci past f (h.others f.dlci (of_them role n1 ds v past f.dlci h (subst (λ d. NoneOf (connections v.each) d) (sym (eqb-true f.dlci 0 ec)) (none_zero role n1 v.each past h.each)))).idle

-- information on a connection without a pipe comes, and all pipes stay as they are
pub none_came : (v : PipeSet) (f : Frame) → is_data_frame f ≡ true → NoneOf (connections v.each) f.dlci → AllLead v v (Came f)
unfolding AllLead LawfulPasses
none_came v f e none role n1 ds past h = record {
  role_is = h.role_is;
  lawful = (tt, h.lawful);
  connections_are = h.connections_are;
  apart = h.apart;
  each = λ j p there. other_came role n1 (slice_index_or v.each j p).watch.dlci (slice_index_or v.each j p) past f (data_kind f e) (data_dlci f e) (other_info role (slice_index_or v.each j p).watch.dlci past f (other_than v.each f.dlci j p none there)) (All-get_or (λ q. PipeFits role n1 q.watch.dlci q past) v.each j p there h.each);
  others = λ c off. plain_came role c past f (h.others c off);
  turn_is = h.turn_is;
}

-- ## The beginning

-- new pipes of these connections, which are apart, with the first turn, begin
pub all_begin : (role : Role) (v : PipeSet) (ds : List ℕ) → v.role ≡ role → connections v.each ≡ ds → AreApart ds → All (λ p. (n1 : ℕ) → PipeFits role n1 p.watch.dlci p []) v.each → v.turn ≡ 0 → BeginsAll role ds v
unfolding BeginsAll LawfulPasses
all_begin role v ds end are apart each turn n1 = record {
  role_is = end;
  lawful = tt;
  connections_are = are;
  apart = apart;
  each = All-weaker (λ p. (n : ℕ) → PipeFits role n p.watch.dlci p []) (λ p. PipeFits role n1 p.watch.dlci p []) (λ p h. h n1) v.each each;
  others = λ e none. record { idle = refl; held_is = refl };
  turn_is = turn;
}

-- ## A place that is looked for

-- if none before a place is this connection, nor the pipe there, none is up to it and with it
pub none_so_far : (ps : List Pipe) (i e : ℕ) (p : Pipe) → i < length ps → ((slice_index_or ps i p).watch.dlci == e) ≡ false → ((j x : ℕ) → j < i → (slice_index_or (connections ps) j x == e) ≡ false) → (j x : ℕ) → j < i + 1 → (slice_index_or (connections ps) j x == e) ≡ false
none_so_far ps i e p there other before j x near = at (nat_lt j i) refl
  where
    at : (b : Bool) → nat_lt j i ≡ b → (slice_index_or (connections ps) j x == e) ≡ false
    at true q = before j x (ltb-true j i q)
    at false q =
        let late = ltb-false j i q in
        let here : j ≡ i = omega (arith, late, near) in
        subst (λ n. (slice_index_or (connections ps) n x == e) ≡ false) (sym here) (ap (λ n. n == e) (number_at ps i p x there) ∙ other)

-- if none before the end is this connection, no pipe has it
pub none_of_all : (ps : List Pipe) (n e : ℕ) → length ps ≤ n → ((j x : ℕ) → j < n → (slice_index_or (connections ps) j x == e) ≡ false) → NoneOf (connections ps) e
unfolding NoneOf
none_of_all ps n e all before j x there =
    let long = length-map ps (λ (p : Pipe). p.watch.dlci) in
    before j x (omega (arith, long, there, all))
