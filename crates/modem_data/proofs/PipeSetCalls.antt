-- What a caller of several pipes does leads on, and what it is answered holds of every past.
use Rattle.std.specs.Prelude.{◌≡◌, ◌≢◌, ◌⊎◌, ℕ, ◌+◌, ◌-◌, ◌<◌, ◌≤◌, ◌==◌, ◌&&◌, ◌||◌, ◌↔◌, nat_le, nat_lt, min, not, Bool, true, false, if◌then◌else◌, List, [], ◌∷◌, ◌++◌, length, take, map, All, Option, Some, None, Result, Ok, Err, IfOk, IfSome, OnOk, refl, slice_index_or, slice_set}
use Rattle.std.proofs.Common.{ap, sym, ◌∙◌, subst, arith, suc, zero, inl, inr}
use Rattle.std.proofs.lemmas.Bool.{eqb-true, eqb-false, ne_eqb, eq-eqb, and_parts, leb-true, leb-false, ltb-true, ltb-false, le-leb, lt-leb, or_cases}
use Rattle.std.proofs.lemmas.List.{length-append, length-map, get_or_default}
use Rattle.std.proofs.lemmas.List.Elements.{All-get_or, All-nil, All-cons}
use Rattle.mux_frame.specs.Frames.{Frame}
use Rattle.mux_station.specs.declared.role.Role.{Role}
use Rattle.mux_station.specs.Opening.{is_open}
use Rattle.modem_data.specs.declared.begin.Begin.{Begin}
use Rattle.modem_data.specs.declared.begin.Until.{Until}
use Rattle.modem_data.specs.Switching.{Carries, Idle, ended_by_call, is_behind_lines, is_idle, lets_leave, takes_given}
use Rattle.modem_data.specs.DataLanes.{most_to_go}
use Rattle.modem_data.specs.Watching.{Watch}
use Rattle.modem_data.specs.Passing.{Pass, wire, Came, Flowed, Left, Began, EndedLane, Gave, Read, AllowsPass, carries, data_came, data_read, given, left, to_go, unread, LawfulPasses, IsOver, IsDue, flow_frame}
use Rattle.modem_data.specs.Pipes.{Pipe, PipeFits, Leads, LeadsLeft, HasNoneToSend, MayLeave, IsShut, TakesNone, HasUnread, SaysBehind, SaysFlow, SaysLane, SaysOver, flowed_pipe}
use Rattle.modem_data.specs.PipeSets.{PipeSet, PipesFit, IsPlain, AllLead, OfEachPast, HasPipe, IsNotData, NoneOf, NoneLeaves, AreApart, IsNext, IsFlowOf, LeavesInTurn, NonesIn, comes_before, connections, place_behind}
use Rattle.modem_data.proofs.Watching.{watched_sent_info}
use Rattle.modem_data.proofs.Pipes.{flowed_fits, open_there}
use Rattle.modem_data.specs.declared.pipe_set.Flow.{Flow}
use Rattle.mux_station.specs.Written.{is_data_frame}
use Rattle.modem_data.proofs.PipeSets.{all_by, one_by, one_info, number_at, plain_due, plain_flowed}

-- ## A caller's call on one connection

apart_from : (d e : ℕ) → (d == e) ≡ false → (e == d) ≡ false
apart_from d e x = ne_eqb e d (λ q. eqb-false d e x (sym q))

other_began : (role : Role) (n1 d e : ℕ) (how : Begin) (until : Until) (past : List Pass) (p : Pipe) → (e == d) ≡ false → AllowsPass role n1 past (Began e how until) → PipeFits role n1 d p past → PipeFits role n1 d p (Began e how until ∷ past)
unfolding LawfulPasses
other_began role n1 d e how until past p x allowed h = record {
  role_is = h.role_is;
  dlci_is = h.dlci_is;
  not_control = h.not_control;
  lawful = (allowed, h.lawful);
  watched = h.watched;
  carries_is = rw x h.carries_is;
  until_is = rw x h.until_is;
  came_is = rw x h.came_is;
  to_go_is = rw x h.to_go_is;
  held_is = h.held_is;
  by_driver_is = h.by_driver_is;
}

other_ended : (role : Role) (n1 d e : ℕ) (past : List Pass) (p : Pipe) → (e == d) ≡ false → PipeFits role n1 d p past → PipeFits role n1 d p (EndedLane e ∷ past)
unfolding LawfulPasses
other_ended role n1 d e past p x h = record {
  role_is = h.role_is;
  dlci_is = h.dlci_is;
  not_control = h.not_control;
  lawful = (tt, h.lawful);
  watched = h.watched;
  carries_is = rw x h.carries_is;
  until_is = h.until_is;
  came_is = h.came_is;
  to_go_is = h.to_go_is;
  held_is = h.held_is;
  by_driver_is = h.by_driver_is;
}

other_gave : (role : Role) (n1 d e : ℕ) (octets : List ℕ) (past : List Pass) (p : Pipe) → (e == d) ≡ false → AllowsPass role n1 past (Gave e octets) → PipeFits role n1 d p past → PipeFits role n1 d p (Gave e octets ∷ past)
unfolding LawfulPasses
other_gave role n1 d e octets past p x allowed h = record {
  role_is = h.role_is;
  dlci_is = h.dlci_is;
  not_control = h.not_control;
  lawful = (allowed, h.lawful);
  watched = h.watched;
  carries_is = h.carries_is;
  until_is = h.until_is;
  came_is = h.came_is;
  to_go_is = rw x h.to_go_is;
  held_is = h.held_is;
  by_driver_is = h.by_driver_is;
}

other_read : (role : Role) (n1 d e : ℕ) (octets : List ℕ) (past : List Pass) (p : Pipe) → (e == d) ≡ false → AllowsPass role n1 past (Read e octets) → PipeFits role n1 d p past → PipeFits role n1 d p (Read e octets ∷ past)
unfolding LawfulPasses
other_read role n1 d e octets past p x allowed h = record {
  role_is = h.role_is;
  dlci_is = h.dlci_is;
  not_control = h.not_control;
  lawful = (allowed, h.lawful);
  watched = h.watched;
  carries_is = h.carries_is;
  until_is = h.until_is;
  came_is = rw x h.came_is;
  to_go_is = h.to_go_is;
  held_is = h.held_is;
  by_driver_is = h.by_driver_is;
}

first_allowed : (role : Role) (n1 : ℕ) (past : List Pass) (a : Pass) → LawfulPasses role n1 (a ∷ past) → AllowsPass role n1 past a
unfolding LawfulPasses
first_allowed role n1 past a h = h.0

-- what the pipe at a place fits
fits_at : (role : Role) (n1 : ℕ) (ds : List ℕ) (past : List Pass) (v : PipeSet) (i : ℕ) (p : Pipe) (e : ℕ) → i < length v.each → (slice_index_or v.each i p).watch.dlci ≡ e → PipesFit role n1 ds v past → PipeFits role n1 e (slice_index_or v.each i p) past
fits_at role n1 ds past v i p e there here h = subst (λ d. PipeFits role n1 d (slice_index_or v.each i p) past) here (All-get_or (λ q. PipeFits role n1 q.watch.dlci q past) v.each i p there h.each)

each_is : (v w : PipeSet) (ps : List Pipe) → w ≡ record v { each = ps } → w.each ≡ ps
each_is v w ps is = ap (λ (x : PipeSet). x.each) is

turn_is : (v w : PipeSet) (ps : List Pipe) → w ≡ record v { each = ps } → w.turn ≡ v.turn
turn_is v w ps is = ap (λ (x : PipeSet). x.turn) is

role_same : (v w : PipeSet) (ps : List Pipe) → w ≡ record v { each = ps } → w.role ≡ v.role
role_same v w ps is = ap (λ (x : PipeSet). x.role) is

-- one pipe begins its lane, and all pipes lead on
pub one_began : (v w : PipeSet) (i : ℕ) (p : Pipe) (e : ℕ) (how : Begin) (until : Until) → i < length v.each → (slice_index_or v.each i p).watch.dlci ≡ e → Leads (slice_index_or v.each i p) p (Began e how until) → p.watch ≡ (slice_index_or v.each i p).watch → w ≡ record v { each = slice_set v.each i p } → AllLead v w (Began e how until)
unfolding AllLead Leads
one_began v w i p e how until there here leads same is role n1 ds past h =
    let one = ap (λ (x : Watch). x.dlci) same in
    let it = one ∙ here in
    let fits = subst (λ d. PipeFits role n1 d p (Began e how until ∷ past)) (sym it) (leads role n1 e past (fits_at role n1 ds past v i p e there here h)) in
    let off : (c : ℕ) → (c == p.watch.dlci) ≡ false → (e == c) ≡ false = λ c x. apart_from c e (subst (λ d. (c == d) ≡ false) it x) in
    one_by role n1 ds past (Began e how until) v w i p there one (each_is v w (slice_set v.each i p) is) (turn_is v w (slice_set v.each i p) is ∙ h.turn_is) (role_same v w (slice_set v.each i p) is) fits
    (λ q x k. other_began role n1 q.watch.dlci e how until past q (off q.watch.dlci x) (first_allowed role n1 past (Began e how until) fits.lawful) k)
    (λ c x k. record { idle = rw (off c x) k.idle; held_is = k.held_is }) h

-- an idle connection stays idle, whether a call ends its lane or another's
pub still_idle : (b : Bool) (c : Carries) → c ≡ Idle → (if b then ended_by_call c else c) ≡ Idle
still_idle true c e = rw e refl
still_idle false c e = e

-- one pipe's lane is ended by a call, and all lead on
pub one_ended : (v w : PipeSet) (i : ℕ) (p : Pipe) (e : ℕ) → i < length v.each → (slice_index_or v.each i p).watch.dlci ≡ e → Leads (slice_index_or v.each i p) p (EndedLane e) → p.watch ≡ (slice_index_or v.each i p).watch → w ≡ record v { each = slice_set v.each i p } → AllLead v w (EndedLane e)
unfolding AllLead Leads
one_ended v w i p e there here leads same is role n1 ds past h =
    let one = ap (λ (x : Watch). x.dlci) same in
    let it = one ∙ here in
    let fits = subst (λ d. PipeFits role n1 d p (EndedLane e ∷ past)) (sym it) (leads role n1 e past (fits_at role n1 ds past v i p e there here h)) in
    one_by role n1 ds past (EndedLane e) v w i p there one (each_is v w (slice_set v.each i p) is) (turn_is v w (slice_set v.each i p) is ∙ h.turn_is) (role_same v w (slice_set v.each i p) is) fits
    (λ q x k. other_ended role n1 q.watch.dlci e past q (apart_from q.watch.dlci e (subst (λ d. (q.watch.dlci == d) ≡ false) it x)) k)
    (λ c x k. record { idle = still_idle (e == c) (carries role c past) k.idle; held_is = k.held_is }) h

-- one pipe is given octets, and all lead on
pub one_gave : (v w : PipeSet) (i : ℕ) (p : Pipe) (e : ℕ) (octets : List ℕ) → i < length v.each → (slice_index_or v.each i p).watch.dlci ≡ e → Leads (slice_index_or v.each i p) p (Gave e octets) → p.watch ≡ (slice_index_or v.each i p).watch → w ≡ record v { each = slice_set v.each i p } → AllLead v w (Gave e octets)
unfolding AllLead Leads
one_gave v w i p e octets there here leads same is role n1 ds past h =
    let one = ap (λ (x : Watch). x.dlci) same in
    let it = one ∙ here in
    let fits = subst (λ d. PipeFits role n1 d p (Gave e octets ∷ past)) (sym it) (leads role n1 e past (fits_at role n1 ds past v i p e there here h)) in
    one_by role n1 ds past (Gave e octets) v w i p there one (each_is v w (slice_set v.each i p) is) (turn_is v w (slice_set v.each i p) is ∙ h.turn_is) (role_same v w (slice_set v.each i p) is) fits
    (λ q x k. other_gave role n1 q.watch.dlci e octets past q (apart_from q.watch.dlci e (subst (λ d. (q.watch.dlci == d) ≡ false) it x)) (first_allowed role n1 past (Gave e octets) fits.lawful) k)
    (λ c x k. record { idle = k.idle; held_is = k.held_is }) h

-- one pipe's octets are read, and all lead on
pub one_read : (v w : PipeSet) (i : ℕ) (p : Pipe) (e : ℕ) (octets : List ℕ) → i < length v.each → (slice_index_or v.each i p).watch.dlci ≡ e → Leads (slice_index_or v.each i p) p (Read e octets) → p.watch ≡ (slice_index_or v.each i p).watch → w ≡ record v { each = slice_set v.each i p } → AllLead v w (Read e octets)
unfolding AllLead Leads
one_read v w i p e octets there here leads same is role n1 ds past h =
    let one = ap (λ (x : Watch). x.dlci) same in
    let it = one ∙ here in
    let fits = subst (λ d. PipeFits role n1 d p (Read e octets ∷ past)) (sym it) (leads role n1 e past (fits_at role n1 ds past v i p e there here h)) in
    one_by role n1 ds past (Read e octets) v w i p there one (each_is v w (slice_set v.each i p) is) (turn_is v w (slice_set v.each i p) is ∙ h.turn_is) (role_same v w (slice_set v.each i p) is) fits
    (λ q x k. other_read role n1 q.watch.dlci e octets past q (apart_from q.watch.dlci e (subst (λ d. (q.watch.dlci == d) ≡ false) it x)) (first_allowed role n1 past (Read e octets) fits.lawful) k)
    (λ c x k. record { idle = k.idle; held_is = k.held_is }) h

-- ## What it is answered

-- the pipe at a place has a lane, so its connection has one
pub under_way_at : (v : PipeSet) (i : ℕ) (p : Pipe) (e : ℕ) → i < length v.each → (slice_index_or v.each i p).watch.dlci ≡ e → SaysLane (slice_index_or v.each i p) true → OfEachPast v (λ role past. is_idle (carries role e past) ≡ false)
unfolding OfEachPast SaysLane
under_way_at v i p e there here says role n1 ds past h = at (is_idle (carries role e past)) (says role n1 e past (fits_at role n1 ds past v i p e there here h))
  where
    at : (b : Bool) → true ≡ not b → b ≡ false
    at true q = cc
    at false q = refl

-- the pipe has data left to read, so its connection is idle with some unread
pub unread_at : (v : PipeSet) (i : ℕ) (p : Pipe) (e : ℕ) → i < length v.each → (slice_index_or v.each i p).watch.dlci ≡ e → HasUnread (slice_index_or v.each i p) → OfEachPast v (λ role past. (carries role e past ≡ Idle) × (data_read e past ≢ data_came role e past))
unfolding OfEachPast HasUnread
unread_at v i p e there here says role n1 ds past h = says role n1 e past (fits_at role n1 ds past v i p e there here h)

-- the pipe is shut, so its connection is
pub shut_at : (v : PipeSet) (i : ℕ) (p : Pipe) (e : ℕ) → i < length v.each → (slice_index_or v.each i p).watch.dlci ≡ e → IsShut (slice_index_or v.each i p) → OfEachPast v (λ role past. is_open role e (wire past) ≡ false)
unfolding OfEachPast IsShut
shut_at v i p e there here says role n1 ds past h = says role n1 e past (fits_at role n1 ds past v i p e there here h)

-- the pipe takes no octets, so its connection takes none
pub takes_none_at : (v : PipeSet) (i : ℕ) (p : Pipe) (e : ℕ) → i < length v.each → (slice_index_or v.each i p).watch.dlci ≡ e → TakesNone (slice_index_or v.each i p) → OfEachPast v (λ role past. takes_given (carries role e past) ≡ false)
unfolding OfEachPast TakesNone
takes_none_at v i p e there here says role n1 ds past h = says role n1 e past (fits_at role n1 ds past v i p e there here h)

-- the pipe is open and takes octets, so its connection is and does
pub let_at : (v : PipeSet) (i : ℕ) (p : Pipe) (e : ℕ) → i < length v.each → (slice_index_or v.each i p).watch.dlci ≡ e → (slice_index_or v.each i p).watch.own.is_open ≡ true → takes_given (slice_index_or v.each i p).lane.carries ≡ true → OfEachPast v (λ role past. (is_open role e (wire past) ≡ true) × (takes_given (carries role e past) ≡ true))
unfolding OfEachPast
let_at v i p e there here up takes role n1 ds past h =
    let k = fits_at role n1 ds past v i p e there here h in
    (sym (open_there role n1 e (slice_index_or v.each i p) past k) ∙ up, ap takes_given (sym k.carries_is) ∙ takes)

-- the pipe is open, so its connection is
pub open_at : (v : PipeSet) (i : ℕ) (p : Pipe) (e : ℕ) → i < length v.each → (slice_index_or v.each i p).watch.dlci ≡ e → (slice_index_or v.each i p).watch.own.is_open ≡ true → OfEachPast v (λ role past. is_open role e (wire past) ≡ true)
unfolding OfEachPast
open_at v i p e there here up role n1 ds past h = sym (open_there role n1 e (slice_index_or v.each i p) past (fits_at role n1 ds past v i p e there here h)) ∙ up

unread_is : (x y z : List ℕ) → x ++ y ≡ z → length y ≡ length z - length x
unread_is x y z e =
    let n = length-append x y in
    let m = ap (λ (xs : List ℕ). length xs) e in
    omega (arith, n, m)

-- as many octets are read as wait unread on the pipe's connection, up to the room
pub reads_at : (v : PipeSet) (i : ℕ) (p : Pipe) (e : ℕ) (count room : ℕ) → i < length v.each → (slice_index_or v.each i p).watch.dlci ≡ e → count ≡ min (length (slice_index_or v.each i p).lane.came) room → OfEachPast v (λ role past. count ≡ min (unread role e past) room)
unfolding OfEachPast
reads_at v i p e count room there here is role n1 ds past h =
    let k = fits_at role n1 ds past v i p e there here h in
    is ∙ ap (λ n. min n room) (unread_is (data_read e past) (slice_index_or v.each i p).lane.came (data_came role e past) k.came_is)

-- as many octets are taken as are offered, up to what may still wait on the pipe's connection
pub gives_at : (v : PipeSet) (i : ℕ) (p : Pipe) (e : ℕ) (count many : ℕ) → i < length v.each → (slice_index_or v.each i p).watch.dlci ≡ e → count ≡ min many (most_to_go - length (slice_index_or v.each i p).lane.to_go) → OfEachPast v (λ role past. count ≡ min many (most_to_go - (length (given e past) - length (left e past))))
unfolding OfEachPast
gives_at v i p e count many there here is role n1 ds past h =
    let k = fits_at role n1 ds past v i p e there here h in
    is ∙ ap (λ n. min many (most_to_go - n)) (unread_is (left e past) (slice_index_or v.each i p).lane.to_go (given e past) k.to_go_is)

-- whether the pipe's lane is over is whether its connection's is
pub over_at : (v : PipeSet) (i : ℕ) (p : Pipe) (e : ℕ) (b : Bool) → i < length v.each → (slice_index_or v.each i p).watch.dlci ≡ e → SaysOver (slice_index_or v.each i p) b → OfEachPast v (λ role past. b ≡ true ↔ IsOver role e past)
unfolding OfEachPast SaysOver
over_at v i p e b there here says role n1 ds past h = says role n1 e past (fits_at role n1 ds past v i p e there here h)

-- as many octets wait in the pipe as wait to leave its connection
pub to_go_at : (v : PipeSet) (i : ℕ) (p : Pipe) (e : ℕ) (count : ℕ) → i < length v.each → (slice_index_or v.each i p).watch.dlci ≡ e → count ≡ length (slice_index_or v.each i p).lane.to_go → OfEachPast v (λ role past. count ≡ to_go e past)
unfolding OfEachPast
to_go_at v i p e count there here is role n1 ds past h =
    let k = fits_at role n1 ds past v i p e there here h in
    is ∙ unread_is (left e past) (slice_index_or v.each i p).lane.to_go (given e past) k.to_go_is

-- whether the pipe's lane is behind its lines is whether its connection's is
pub behind_at : (v : PipeSet) (i : ℕ) (p : Pipe) (e : ℕ) (b : Bool) → i < length v.each → (slice_index_or v.each i p).watch.dlci ≡ e → SaysBehind (slice_index_or v.each i p) b → OfEachPast v (λ role past. b ≡ is_behind_lines (carries role e past))
unfolding OfEachPast SaysBehind
behind_at v i p e b there here says role n1 ds past h = says role n1 e past (fits_at role n1 ds past v i p e there here h)

-- a connection without a pipe is never behind lines
pub not_behind : (v : PipeSet) (e : ℕ) → NoneOf (connections v.each) e → OfEachPast v (λ role past. false ≡ is_behind_lines (carries role e past))
unfolding OfEachPast
not_behind v e none role n1 ds past h = ap is_behind_lines (sym (h.others e (subst (λ cs. NoneOf cs e) h.connections_are none)).idle)

-- a connection whose pipe is at a place is one of the connections of data, whatever the call answers
pub has_pipe : {A X : Type 0} (v : PipeSet) (i : ℕ) (p : Pipe) (e : ℕ) (r : Result A X) → i < length v.each → (slice_index_or v.each i p).watch.dlci ≡ e → OnOk r (HasPipe v e)
unfolding HasPipe
has_pipe v i p e (Err x) there here = tt
has_pipe v i p e (Ok x) there here = λ role n1 ds past h.
    let long : length ds ≡ length v.each = ap (λ (cs : List ℕ). length cs) (sym h.connections_are) ∙ length-map v.each (λ (q : Pipe). q.watch.dlci) in
    record {
      place = i;
      there = omega (arith, long, there);
      here = λ x. ap (λ (cs : List ℕ). slice_index_or cs i x) (sym h.connections_are) ∙ (number_at v.each i p x there ∙ here);
    }

-- a connection that none of the pipes has is none of them
pub not_data : (v : PipeSet) (e : ℕ) → NoneOf (connections v.each) e → IsNotData v e
unfolding IsNotData
not_data v e none role n1 ds past h = subst (λ cs. NoneOf cs e) h.connections_are none

-- ## Each connection is one of them, or none

record IsAt (ps : List Pipe) (e : ℕ) : Type 0 where
  place : ℕ
  pipe : Pipe
  there : place < length ps
  here : (slice_index_or ps place pipe).watch.dlci ≡ e

find : (ps : List Pipe) (e : ℕ) → IsAt ps e ⊎ NoneOf (connections ps) e
unfolding NoneOf
find [] e = inr (All-nil (λ d. (d == e) ≡ false))
find (p ∷ ps) e = at (p.watch.dlci == e) refl (find ps e)
  where
    at : (b : Bool) → (p.watch.dlci == e) ≡ b → IsAt ps e ⊎ All (λ d. (d == e) ≡ false) (connections ps) → IsAt (p ∷ ps) e ⊎ All (λ d. (d == e) ≡ false) (p.watch.dlci ∷ connections ps)
    at true q later = inl (record { place = 0; pipe = p; there = omega arith; here = eqb-true p.watch.dlci e q })
    at false q (inl i) = inl (record { place = suc i.place; pipe = i.pipe; there = let l = i.there in omega (arith, l); here = i.here })
    at false q (inr none) = inr (All-cons (λ d. (d == e) ≡ false) p.watch.dlci (connections ps) q none)

-- what holds of the pipe of each connection, and of those that have none, holds of all
pub each_one : (v : PipeSet) (P : Role → List Pass → ℕ → Type 0) → ((j : ℕ) (p : Pipe) → j < length v.each → (role : Role) (n1 : ℕ) (past : List Pass) → PipeFits role n1 (slice_index_or v.each j p).watch.dlci (slice_index_or v.each j p) past → P role past (slice_index_or v.each j p).watch.dlci) → ((role : Role) (past : List Pass) (e : ℕ) → IsPlain role e past → P role past e) → OfEachPast v (λ role past. (e : ℕ) → P role past e)
unfolding OfEachPast
each_one v P own other role n1 ds past h e = at (find v.each e)
  where
    at : IsAt v.each e ⊎ NoneOf (connections v.each) e → P role past e
    at (inr none) = other role past e (h.others e (subst (λ cs. NoneOf cs e) h.connections_are none))
    at (inl i) = subst (λ d. P role past d) i.here (own i.place i.pipe i.there role n1 past (All-get_or (λ q. PipeFits role n1 q.watch.dlci q past) v.each i.place i.pipe i.there h.each))

-- ## Flow

-- what the pipe at a place says of the flow is to be said of one of the pipes
pub flow_of : (ps : List Pipe) (i d : ℕ) (go : Bool) → i < length ps → ((p : Pipe) → (slice_index_or ps i p).watch.dlci ≡ d) → ((p : Pipe) → SaysFlow (slice_index_or ps i p) (Some go)) → IsFlowOf ps d go
flow_of ps i d go there here says = record { place = i; there = there; here = here; says = says }

-- a pipe of those, where there is one
pub some_pipe : (ps : List Pipe) (i : ℕ) → i < length ps → Pipe
some_pipe [] i there = absurd (omega (arith, there))
some_pipe (p ∷ ps) i there = p

-- what is to be said of one of the pipes is due on its connection
pub due_of : (v : PipeSet) (d : ℕ) (go : Bool) → IsFlowOf v.each d go → OfEachPast v (λ role past. IsDue role d past go)
unfolding OfEachPast SaysFlow
due_of v d go f role n1 ds past h =
    let p = some_pipe v.each f.place f.there in
    f.says p role n1 d past (fits_at role n1 ds past v f.place p d f.there (f.here p) h)

-- nothing is to be said of any pipe
pub none_due : (v : PipeSet) → ((j : ℕ) (p : Pipe) → j < length v.each → SaysFlow (slice_index_or v.each j p) None) → OfEachPast v (λ role past. (e : ℕ) (go : Bool) → ¬ IsDue role e past go)
unfolding SaysFlow
none_due v say =
    each_one v (λ role past e. (go : Bool) → ¬ IsDue role e past go)
    (λ j p there role n1 past k go due. say j p there role n1 (slice_index_or v.each j p).watch.dlci past go k due)
    (λ role past e plain go due. plain_due role e past go plain due)

-- what is due is said, and each pipe sees it
pub all_flowed : (v w : PipeSet) (d : ℕ) (go : Bool) (f : Frame) → OfEachPast v (λ role past. IsDue role d past go) → f ≡ flow_frame v.role d go → w ≡ record v { each = map (flowed_pipe f) v.each } → AllLead v w (Flowed f)
unfolding AllLead LawfulPasses OfEachPast
all_flowed v w d go f due written e role n1 ds past h =
    let allowed : AllowsPass role n1 past (Flowed f) = record { dlci = d; go = go; is_due = due role n1 ds past h; as_written = written ∙ ap (λ r. flow_frame r d go) h.role_is } in
    all_by role n1 ds past (Flowed f) (flowed_pipe f) v w e (λ p. refl) (λ p k. flowed_fits role n1 p.watch.dlci p past f allowed k) (allowed, h.lawful) (λ c k. plain_flowed role n1 c past f allowed k) refl h

-- ## Data leaves

-- nothing may leave any
pub none_leaves : (v : PipeSet) → ((j : ℕ) (p : Pipe) → j < length v.each → HasNoneToSend (slice_index_or v.each j p)) → OfEachPast v (λ role past. (e : ℕ) → NoneLeaves role past e)
unfolding HasNoneToSend
none_leaves v none =
    each_one v (λ role past e. NoneLeaves role past e)
    (λ j p there role n1 past k. none j p there role n1 (slice_index_or v.each j p).watch.dlci past k)
    (λ role past e plain lets may.
    let x : false ≡ true = ap lets_leave (sym plain.idle) ∙ lets in
    cc)

-- the first that may send, from the turn on, or else from the beginning
pub next_later : (v : PipeSet) (i : ℕ) → v.turn ≤ i → i < length v.each → ((p : Pipe) → MayLeave (slice_index_or v.each i p)) → NonesIn v.each v.turn i → IsNext v i
unfolding NonesIn
next_later v i later there may none = record {
  there = there;
  may = may;
  none_before = λ j p short before.
      let is : nat_le v.turn j && nat_lt j i ≡ true = subst (λ (b : Bool). (if b then nat_le v.turn j && nat_lt j i else (nat_le v.turn j || nat_lt j i)) ≡ true) (le-leb v.turn i later) before in
      let parts = and_parts (nat_le v.turn j) (nat_lt j i) is in
      none j p (leb-true v.turn j parts.0) (ltb-true j i parts.1);
}

-- else, where none from the turn on may send, the first from the beginning that may
pub next_round : (v : PipeSet) (i : ℕ) → i < v.turn → v.turn ≤ length v.each → ((p : Pipe) → MayLeave (slice_index_or v.each i p)) → NonesIn v.each v.turn (length v.each) → NonesIn v.each 0 i → IsNext v i
unfolding NonesIn
next_round v i before all may later first = record {
  there = omega (arith, before, all);
  may = may;
  none_before = λ j p short b. at j p short (or_cases (nat_le v.turn j) (nat_lt j i) (subst (λ (x : Bool). (if x then nat_le v.turn j && nat_lt j i else (nat_le v.turn j || nat_lt j i)) ≡ true) (lt-leb v.turn i before) b));
}
  where
    at : (j : ℕ) (p : Pipe) → j < length v.each → (nat_le v.turn j ≡ true) ⊎ (nat_lt j i ≡ true) → HasNoneToSend (slice_index_or v.each j p)
    at j p short (inl e) = later j p (leb-true v.turn j e) short
    at j p short (inr f) = first j p (omega arith) (ltb-true j i f)

-- none from the turn on has any to send, nor any before it: none of them has
pub none_at_all : (v : PipeSet) → NonesIn v.each v.turn (length v.each) → NonesIn v.each 0 v.turn → (j : ℕ) (p : Pipe) → j < length v.each → HasNoneToSend (slice_index_or v.each j p)
unfolding NonesIn
none_at_all v later first j p there = at (nat_le v.turn j) refl
  where
    at : (b : Bool) → nat_le v.turn j ≡ b → HasNoneToSend (slice_index_or v.each j p)
    at true e = later j p (leb-true v.turn j e) there
    at false e =
        let l = leb-false v.turn j e in
        first j p (omega arith) (omega (arith, l))

-- the place behind a connection's, which is one of them alone
behind_there : (ds : List ℕ) (i e : ℕ) → i < length ds → ((x : ℕ) → slice_index_or ds i x ≡ e) → ((j x : ℕ) → j < i → (slice_index_or ds j x == e) ≡ false) → place_behind ds e ≡ i + 1
behind_there [] i e there here before = absurd (omega (arith, there))
behind_there (d ∷ ds) zero e there here before = rw (eq-eqb d e (here 0)) refl
behind_there (d ∷ ds) (suc i) e there here before =
    let later = behind_there ds i e (omega (arith, there)) here (λ j x l. before (suc j) x (omega (arith, l))) in
    rw (before 0 0 (omega arith)) (omega (arith, later))

other_left : (role : Role) (n1 d : ℕ) (f : Frame) (past : List Pass) (p : Pipe) → (f.dlci == d) ≡ false → (f.dlci == 0) ≡ false → AllowsPass role n1 past (Left f) → PipeFits role n1 d p past → PipeFits role n1 d p (Left f ∷ past)
unfolding LawfulPasses
other_left role n1 d f past p x z allowed h = record {
  role_is = h.role_is;
  dlci_is = h.dlci_is;
  not_control = h.not_control;
  lawful = (allowed, h.lawful);
  watched = watched_sent_info p.watch (wire past) f (ap (λ (g : Frame). g.kind) allowed.as_written) z h.watched;
  carries_is = h.carries_is;
  until_is = h.until_is;
  came_is = h.came_is;
  to_go_is = rw x h.to_go_is;
  held_is = h.held_is;
  by_driver_is = h.by_driver_is;
}

-- the pipe whose turn it is lets a frame leave, in its turn; the next turn is the one behind it
pub leaves : (n1 : ℕ) (v w : PipeSet) (i : ℕ) (p : Pipe) (f : Frame) → IsNext v i → LeadsLeft n1 (slice_index_or v.each i p) p f → f.dlci ≡ (slice_index_or v.each i p).watch.dlci → p.watch ≡ (slice_index_or v.each i p).watch → w.each ≡ slice_set v.each i p → w.turn ≡ i + 1 → w.role ≡ v.role → LeavesInTurn n1 v w f
unfolding LeavesInTurn LeadsLeft AreApart HasNoneToSend
leaves n1 v w i p f next leads on same is turn end role ds past h = (
  one_by role n1 ds past (Left f) v w i p next.there one is (turn ∙ sym behind) end fits
      (λ q x k. other_left role n1 q.watch.dlci f past q (apart_from q.watch.dlci f.dlci (subst (λ d. (q.watch.dlci == d) ≡ false) it x)) not_zero (first_allowed role n1 past (Left f) fits.lawful) k)
      (λ c x k. record { idle = k.idle; held_is = k.held_is }) h,
  record {
    place = i;
    there = omega (arith, long, there);
    here = here;
    none_before = λ j x short before.
        let near : j < length v.each = omega (arith, long, short) in
        let is_number : (slice_index_or v.each j p).watch.dlci ≡ slice_index_or ds j x = sym (number_at v.each j p x near) ∙ ap (λ (cs : List ℕ). slice_index_or cs j x) h.connections_are in
        let k = All-get_or (λ q. PipeFits role n1 q.watch.dlci q past) v.each j p near h.each in
        subst (λ d. NoneLeaves role past d) is_number (next.none_before j p near (subst (λ t. comes_before t j i ≡ true) (sym h.turn_is) before) role n1 (slice_index_or v.each j p).watch.dlci past k);
  },
)
  where
    there : i < length v.each
    there = next.there

    one : p.watch.dlci ≡ (slice_index_or v.each i p).watch.dlci
    one = ap (λ (x : Watch). x.dlci) same

    it : p.watch.dlci ≡ f.dlci
    it = one ∙ sym on

    old : PipeFits role n1 (slice_index_or v.each i p).watch.dlci (slice_index_or v.each i p) past
    old = All-get_or (λ q. PipeFits role n1 q.watch.dlci q past) v.each i p next.there h.each

    fits : PipeFits role n1 p.watch.dlci p (Left f ∷ past)
    fits = subst (λ d. PipeFits role n1 d p (Left f ∷ past)) (sym one) (leads role (slice_index_or v.each i p).watch.dlci past old)

    not_zero : (f.dlci == 0) ≡ false
    not_zero = ap (λ d. d == 0) on ∙ old.not_control

    long : length ds ≡ length v.each
    long = ap (λ (cs : List ℕ). length cs) (sym h.connections_are) ∙ length-map v.each (λ (q : Pipe). q.watch.dlci)

    here : (x : ℕ) → slice_index_or ds i x ≡ f.dlci
    here x = ap (λ (cs : List ℕ). slice_index_or cs i x) (sym h.connections_are) ∙ (number_at v.each i p x next.there ∙ sym on)

    behind : place_behind ds f.dlci ≡ i + 1
    behind =
        let there_ds : i < length ds = omega (arith, long, there) in
        behind_there ds i f.dlci there_ds here (λ j x before.
        let near : j < length ds = omega (arith, before, there_ds) in
        subst (λ d. (slice_index_or ds j x == d) ≡ false) (here x) (h.apart i j x there_ds near (λ q. omega (arith, q, before))))

-- ## A place that is looked for

-- between a place and itself no pipe has any to send
pub nones_none : (ps : List Pipe) (n : ℕ) → NonesIn ps n n
unfolding NonesIn
nones_none ps n j p late early = absurd (omega (arith, late, early))

-- if the next pipe has none to send either, none up to it and with it has
pub nones_more : (ps : List Pipe) (from i : ℕ) (p : Pipe) → i < length ps → HasNoneToSend (slice_index_or ps i p) → NonesIn ps from i → NonesIn ps from (i + 1)
unfolding NonesIn
nones_more ps from i p there none before j q late near = at (nat_lt j i) refl
  where
    at : (b : Bool) → nat_lt j i ≡ b → HasNoneToSend (slice_index_or ps j q)
    at true e = before j q late (ltb-true j i e)
    at false e =
        let far = ltb-false j i e in
        let here : i ≡ j = omega (arith, far, near) in
        subst (λ n. HasNoneToSend (slice_index_or ps n q)) here (subst HasNoneToSend (get_or_default ps i p q there) none)

-- ## What a call answers

-- where the call is Ok, the pipe began its lane, and all lead on
pub began_by : {A X : Type 0} (v w : PipeSet) (i : ℕ) (p : Pipe) (e : ℕ) (how : Begin) (until : Until) (r : Result A X) → i < length v.each → (slice_index_or v.each i p).watch.dlci ≡ e → OnOk r (Leads (slice_index_or v.each i p) p (Began e how until)) → p.watch ≡ (slice_index_or v.each i p).watch → w ≡ record v { each = slice_set v.each i p } → OnOk r (AllLead v w (Began e how until))
began_by v w i p e how until (Ok x) there here leads same is = one_began v w i p e how until there here leads same is
began_by v w i p e how until (Err x) there here leads same is = tt

-- where the call is Ok, the pipe was given as many octets as it counts, and all lead on
pub gave_by : {X : Type 0} (v w : PipeSet) (i : ℕ) (p : Pipe) (e : ℕ) (octets : List ℕ) (r : Result ℕ X) → i < length v.each → (slice_index_or v.each i p).watch.dlci ≡ e → IfOk r (λ count. Leads (slice_index_or v.each i p) p (Gave e (take count octets))) → p.watch ≡ (slice_index_or v.each i p).watch → w ≡ record v { each = slice_set v.each i p } → IfOk r (λ count. AllLead v w (Gave e (take count octets)))
gave_by v w i p e octets (Ok count) there here leads same is = one_gave v w i p e (take count octets) there here leads same is
gave_by v w i p e octets (Err x) there here leads same is = tt

-- where the call is Ok, it counts those offered, up to what may still wait on the pipe's connection
pub gives_by : {X : Type 0} (v : PipeSet) (i : ℕ) (p : Pipe) (e many : ℕ) (r : Result ℕ X) → i < length v.each → (slice_index_or v.each i p).watch.dlci ≡ e → IfOk r (λ count. count ≡ min many (most_to_go - length (slice_index_or v.each i p).lane.to_go)) → IfOk r (λ count. OfEachPast v (λ role past. count ≡ min many (most_to_go - (length (given e past) - length (left e past)))))
gives_by v i p e many (Ok count) there here is = gives_at v i p e count many there here is
gives_by v i p e many (Err x) there here is = tt

-- where the call is Ok, the pipe took the information of a frame, and all lead on
pub came_by : {A X : Type 0} (v w : PipeSet) (i : ℕ) (p : Pipe) (f : Frame) (r : Result A X) → is_data_frame f ≡ true → i < length v.each → (slice_index_or v.each i p).watch.dlci ≡ f.dlci → OnOk r (Leads (slice_index_or v.each i p) p (Came f)) → p.watch ≡ (slice_index_or v.each i p).watch → w ≡ record v { each = slice_set v.each i p } → OnOk r (AllLead v w (Came f))
came_by v w i p f (Ok x) e there here leads same is = one_info v w i p f e there here leads same is
came_by v w i p f (Err x) e there here leads same is = tt

-- where the call is Ok, the pipe was open and took octets, so its connection did
pub let_by : {A X : Type 0} (v : PipeSet) (i : ℕ) (p : Pipe) (e : ℕ) (r : Result A X) → i < length v.each → (slice_index_or v.each i p).watch.dlci ≡ e → OnOk r (((slice_index_or v.each i p).watch.own.is_open ≡ true) × (takes_given (slice_index_or v.each i p).lane.carries ≡ true)) → OnOk r (OfEachPast v (λ role past. (is_open role e (wire past) ≡ true) × (takes_given (carries role e past) ≡ true)))
let_by v i p e (Ok x) there here is = let_at v i p e there here is.0 is.1
let_by v i p e (Err x) there here is = tt

-- a flow that is answered is due
pub due_by : (v : PipeSet) (r : Option Flow) → IfSome r (λ f. IsFlowOf v.each f.dlci.number f.go) → IfSome r (λ f. OfEachPast v (λ role past. IsDue role f.dlci.number past f.go))
due_by v (Some f) is = due_of v f.dlci.number f.go is
due_by v None is = tt
