-- What a caller of a pipe does leads on, and what it is answered holds of every past.
use Rattle.std.specs.Prelude.{◌≡◌, ℕ, ◌+◌, ◌-◌, ◌≤◌, ◌==◌, ◌&&◌, Bool, true, false, List, [], ◌∷◌, ◌++◌, take, drop, length, nat_le, IsTrue, if◌then◌else◌, Option, Some, None, refl}
use Rattle.std.proofs.Common.{ap, sym, ◌∙◌, subst, arith}
use Rattle.std.proofs.lemmas.Bool.{eqb-true, eq-eqb}
use Rattle.std.proofs.lemmas.List.{append_assoc, append-nil, nil_from_length, take-append-drop, length-append, length-take}
use Rattle.mux_frame.specs.declared.frame.Kind.TheVariants.{Uih}
use Rattle.mux_station.specs.declared.role.Role.{Role}
use Rattle.mux_station.specs.Written.{written}
use Rattle.modem_data.specs.declared.begin.Begin.{Begin}
use Rattle.modem_data.specs.declared.begin.Until.{Until}
use Rattle.modem_data.specs.Switching.{ended_by_call, is_idle, lets_leave, takes_given, is_behind_lines}
use Rattle.modem_data.specs.DataLanes.{DataLane, begun_lane, lane_waiting, left_lane, most_to_go}
use Rattle.modem_data.specs.Watching.{SaysMayLeave, may_leave}
use Rattle.modem_data.specs.Passing.{Pass, Began, EndedLane, Gave, Read, wire, begin_of, carries, data_came, data_read, given, left, holds, driver_holds, flow_by, waiting, IsOver, AllowsPass, LawfulPasses}
use Rattle.modem_data.specs.Pipes.{Pipe, PipeFits, Leads, LeadsLeft, HasNoneToSend, MayLeave, next_data, SaysOver, SaysLane, SaysBehind, HasUnread, IsShut, TakesNone, SaysFlow}
use Rattle.modem_data.proofs.Watching.{watched_sent_info}
use Rattle.modem_data.proofs.Pipes.{open_there, idle_is}

same : (role : Role) (n1 d : ℕ) (v : Pipe) (past : List Pass) → PipeFits role n1 d v past → (v.watch.dlci == d) ≡ true
same role n1 d v past h = eq-eqb v.watch.dlci d h.dlci_is

is_none : (o : List ℕ) → (length o == 0) ≡ true → o ≡ []
is_none o e = nil_from_length o (eqb-true (length o) 0 e)

-- ## A lane begins

all_read : (role : Role) (n1 d : ℕ) (v : Pipe) (past : List Pass) → v.lane.came ≡ [] → PipeFits role n1 d v past → data_read d past ≡ data_came role d past
all_read role n1 d v past none h = sym (append-nil (data_read d past)) ∙ (ap (λ x. data_read d past ++ x) (sym none) ∙ h.came_is)

-- a lane begins where none is under way and nothing waits to be read
pub leads_began : (v : Pipe) (l : DataLane) (how : Begin) (until : Until) → is_idle v.lane.carries ≡ true → (length v.lane.came == 0) ≡ true → l ≡ begun_lane v.lane (begin_of how) → Leads v (record v { lane = l; until = until }) (Began v.watch.dlci how until)
unfolding Leads LawfulPasses
leads_began v l how until idle none e role n1 d past h =
    let here = same role n1 d v past h in
    let empty = is_none v.lane.came none in
    rw e (record {
      role_is = h.role_is;
      dlci_is = h.dlci_is;
      not_control = h.not_control;
      lawful = (subst (λ e. IsOver role e past) (sym h.dlci_is) (record { idle = sym h.carries_is ∙ idle_is v.lane.carries idle; all_read = all_read role n1 d v past empty h }), h.lawful);
      watched = h.watched;
      carries_is = rw here refl;
      until_is = rw here refl;
      came_is = rw here empty;
      to_go_is = rw here refl;
      held_is = h.held_is;
      by_driver_is = h.by_driver_is;
    })

-- a call ends the lane
pub leads_ended : (v w : Pipe) → w ≡ record v { lane = left_lane v.lane } → Leads v w (EndedLane v.watch.dlci)
unfolding Leads LawfulPasses
leads_ended v w e role n1 d past h =
    let here = same role n1 d v past h in
    rw e (record {
      role_is = h.role_is;
      dlci_is = h.dlci_is;
      not_control = h.not_control;
      lawful = (tt, h.lawful);
      watched = h.watched;
      carries_is = rw here (ap ended_by_call h.carries_is);
      until_is = h.until_is;
      came_is = h.came_is;
      to_go_is = h.to_go_is;
      held_is = h.held_is;
      by_driver_is = h.by_driver_is;
    })

-- a pipe that isn't idle answers that its connection has a lane
pub a_lane_is : (v : Pipe) → is_idle v.lane.carries ≡ false → SaysLane v true
unfolding SaysLane
a_lane_is v lane role n1 d past h = rw (sym h.carries_is) (rw lane refl)

none_later : (xs ys : List ℕ) → xs ≡ xs ++ ys → (length ys == 0) ≡ true
none_later xs [] e = refl
none_later xs (y ∷ ys) e =
    let n = ap (λ (zs : List ℕ). length zs) e in
    let m = length-append xs (y ∷ ys) in
    let x : ⊥ = omega (arith, n, m) in absurd x

-- it answers whether the lane is behind its lines
pub says_behind : (v : Pipe) (b : Bool) → b ≡ is_behind_lines v.lane.carries → SaysBehind v b
unfolding SaysBehind
says_behind v b e role n1 d past h = e ∙ ap is_behind_lines h.carries_is

-- an idle pipe in which octets wait has data that came and wasn't read
pub has_unread : (v : Pipe) → is_idle v.lane.carries ≡ true → (length v.lane.came == 0) ≡ false → HasUnread v
unfolding HasUnread
has_unread v idle some role n1 d past h = (
  sym h.carries_is ∙ idle_is v.lane.carries idle,
  λ e.
      let x : true ≡ false = sym (none_later (data_read d past) v.lane.came (e ∙ sym h.came_is)) ∙ some in
      cc,
)

-- ## Octets are read and given

-- the next octets that wait are read
pub leads_read : (v : Pipe) (l : DataLane) (n : ℕ) (octets : List ℕ) → l ≡ record v.lane { came = drop n v.lane.came } → octets ≡ take n v.lane.came → Leads v (record v { lane = l }) (Read v.watch.dlci octets)
unfolding Leads LawfulPasses
leads_read v l n octets e o role n1 d past h =
    let here = same role n1 d v past h in
    let split : data_came role d past ≡ data_read d past ++ (take n v.lane.came ++ drop n v.lane.came) = sym (ap (λ x. data_read d past ++ x) (take-append-drop n v.lane.came) ∙ h.came_is) in
    rw (e, o) (record {
      role_is = h.role_is;
      dlci_is = h.dlci_is;
      not_control = h.not_control;
      lawful = (record { later = drop n v.lane.came; is_next = subst (λ e. data_came role e past ≡ data_read e past ++ (take n v.lane.came ++ drop n v.lane.came)) (sym h.dlci_is) split }, h.lawful);
      watched = h.watched;
      carries_is = h.carries_is;
      until_is = h.until_is;
      came_is = rw here (append_assoc (data_read d past) (take n v.lane.came) (drop n v.lane.came) ∙ sym split);
      to_go_is = h.to_go_is;
      held_is = h.held_is;
      by_driver_is = h.by_driver_is;
    })

both : (a b : Bool) → a && b ≡ true → (a ≡ true) × (b ≡ true)
both true b e = (refl, e)
both false b e = cc

-- a pipe answers that its lane is over just where it is idle and nothing waits
pub says_over : (v : Pipe) (b : Bool) → b ≡ (is_idle v.lane.carries && (length v.lane.came == 0)) → SaysOver v b
unfolding SaysOver
says_over v b e role n1 d past h = (
  λ t. let x = both (is_idle v.lane.carries) (length v.lane.came == 0) (sym e ∙ t) in
      record { idle = sym h.carries_is ∙ idle_is v.lane.carries x.0; all_read = all_read role n1 d v past (is_none v.lane.came x.1) h },
  λ over. e ∙ (ap (λ c. is_idle c && (length v.lane.came == 0)) (h.carries_is ∙ over.idle) ∙ none_later (data_read d past) v.lane.came (over.all_read ∙ sym h.came_is)),
)

few_wait : (xs ys zs os : List ℕ) (n : ℕ) → xs ++ ys ≡ zs → length ys + n ≤ most_to_go → length zs + length (take n os) ≤ length xs + most_to_go
few_wait xs ys zs os n e few =
    let m = ap (λ (s : List ℕ). length s) e in
    let l = length-append xs ys in
    let t = length-take n os in
    omega (arith, m, l, few, t)

-- octets are given where the connection is open, the lane takes them, and no more wait than may
pub leads_gave : (v : Pipe) (l : DataLane) (octets : List ℕ) (n : ℕ) → v.watch.own.is_open ≡ true → takes_given v.lane.carries ≡ true → length v.lane.to_go + n ≤ most_to_go → l ≡ record v.lane { to_go = v.lane.to_go ++ take n octets } → Leads v (record v { lane = l }) (Gave v.watch.dlci (take n octets))
unfolding Leads LawfulPasses
leads_gave v l octets n up c few e role n1 d past h =
    let here = same role n1 d v past h in
    rw e (record {
      role_is = h.role_is;
      dlci_is = h.dlci_is;
      not_control = h.not_control;
      lawful = (
        subst (λ e. AllowsPass role n1 past (Gave e (take n octets))) (sym h.dlci_is) (record {
          open_there = sym (open_there role n1 d v past h) ∙ up;
          takes = ap takes_given (sym h.carries_is) ∙ c;
          few = few_wait (left d past) v.lane.to_go (given d past) octets n h.to_go_is few;
        }),
        h.lawful,
      );
      watched = h.watched;
      carries_is = h.carries_is;
      until_is = h.until_is;
      came_is = h.came_is;
      to_go_is = rw here (sym (append_assoc (left d past) v.lane.to_go (take n octets)) ∙ ap (λ o. o ++ take n octets) h.to_go_is);
      held_is = h.held_is;
      by_driver_is = h.by_driver_is;
    })

-- a pipe that its watch says is not open has a shut connection
pub is_shut : (v : Pipe) → v.watch.own.is_open ≡ false → IsShut v
unfolding IsShut
is_shut v shut role n1 d past h = sym (open_there role n1 d v past h) ∙ shut

-- one whose lane takes no octets answers so
pub takes_none : (v : Pipe) → takes_given v.lane.carries ≡ false → TakesNone v
unfolding TakesNone
takes_none v none role n1 d past h = ap takes_given (sym h.carries_is) ∙ none

-- ## The flow

unread_is : (x y z : List ℕ) → x ++ y ≡ z → length y ≡ length z - length x
unread_is x y z e =
    let n = length-append x y in
    let m = ap (λ (xs : List ℕ). length xs) e in
    omega (arith, n, m)

due_is : (role : Role) (n1 d : ℕ) (v : Pipe) (past : List Pass) → PipeFits role n1 d v past → flow_by v.held v.by_driver (lane_waiting v.lane) ≡ flow_by (holds role d past) (driver_holds role d past) (waiting role d past)
due_is role n1 d v past h =
    rw (h.held_is, h.by_driver_is)
    (ap (λ n. flow_by (holds role d past) (driver_holds role d past) n)
    (ap (λ c. if is_idle c then 0 else length v.lane.came) h.carries_is
    ∙ ap (λ n. if is_idle (carries role d past) then 0 else n) (unread_is (data_read d past) v.lane.came (data_came role d past) h.came_is)))

-- on an open connection a pipe says of the flow what is due
pub says_flow : (v : Pipe) (o : Option Bool) → v.watch.own.is_open ≡ true → o ≡ flow_by v.held v.by_driver (lane_waiting v.lane) → SaysFlow v o
unfolding SaysFlow
says_flow v (Some go) up e = λ role n1 d past h. record {
  open_there = sym (open_there role n1 d v past h) ∙ up;
  due = sym (due_is role n1 d v past h) ∙ sym e;
}
says_flow v None up e = λ role n1 d past go h due.
    let x : None ≡ Some go = e ∙ (due_is role n1 d v past h ∙ due.due) in
    cc

-- on a shut one nothing
pub shut_flow : (v : Pipe) → v.watch.own.is_open ≡ false → SaysFlow v None
unfolding SaysFlow
shut_flow v shut role n1 d past go h due =
    let x : false ≡ true = sym shut ∙ (open_there role n1 d v past h ∙ due.open_there) in
    cc

-- ## Data leaves

-- of a pipe that may send, a frame of the next octets, from 1 to N1, leaves
pub leads_left : (n1 : ℕ) (v w : Pipe) (n : ℕ) → MayLeave v → IsTrue (nat_le 1 (length (take n1 v.lane.to_go))) → IsTrue (nat_le (length (take n1 v.lane.to_go)) n1) → w ≡ record v { lane = record v.lane { to_go = drop n v.lane.to_go } } → drop n v.lane.to_go ≡ drop n1 v.lane.to_go → LeadsLeft n1 v w (next_data n1 v)
unfolding LeadsLeft LawfulPasses SaysMayLeave
leads_left n1 v w n may some fits e dropped role d past h =
    let here = same role n1 d v past h in
    let go : given d past ≡ left d past ++ (take n1 v.lane.to_go ++ drop n1 v.lane.to_go) = sym (ap (λ x. left d past ++ x) (take-append-drop n1 v.lane.to_go) ∙ h.to_go_is) in
    rw e (record {
      role_is = h.role_is;
      dlci_is = h.dlci_is;
      not_control = h.not_control;
      lawful = (
        record {
          lets = ap (λ e. lets_leave (carries role e past)) h.dlci_is ∙ (ap lets_leave (sym h.carries_is) ∙ may.lets);
          may = ap (λ r. may_leave r v.watch.dlci (wire past)) (sym h.role_is) ∙ sym (may.may (wire past) h.watched);
          as_written = ap (λ r. written r Uih v.watch.dlci (take n1 v.lane.to_go)) h.role_is;
          some = some;
          fits = fits;
          later = drop n1 v.lane.to_go;
          is_next = subst (λ e. given e past ≡ left e past ++ (take n1 v.lane.to_go ++ drop n1 v.lane.to_go)) (sym h.dlci_is) go;
        },
        h.lawful,
      );
      watched = watched_sent_info v.watch (wire past) (next_data n1 v) refl (ap (λ e. e == 0) h.dlci_is ∙ h.not_control) h.watched;
      carries_is = h.carries_is;
      until_is = h.until_is;
      came_is = h.came_is;
      to_go_is = rw here (ap (λ r. left d past ++ take n1 v.lane.to_go ++ r) dropped ∙ (append_assoc (left d past) (take n1 v.lane.to_go) (drop n1 v.lane.to_go) ∙ sym go));
      held_is = h.held_is;
      by_driver_is = h.by_driver_is;
    })

-- a frame may leave where the lane lets it, the connection may send, and octets wait
pub may_go : (v : Pipe) → lets_leave v.lane.carries ≡ true → SaysMayLeave v.watch true → (length v.lane.to_go == 0) ≡ false → MayLeave v
may_go v c may some = record { lets = c; may = may; some = some }

-- none may leave where the lane lets none
pub none_by_lines : (v : Pipe) → lets_leave v.lane.carries ≡ false → HasNoneToSend v
unfolding HasNoneToSend
none_by_lines v none role n1 d past h c may =
    let x : true ≡ false = sym c ∙ (ap lets_leave (sym h.carries_is) ∙ none) in
    cc

-- nor where the connection is shut or stopped, or is 0
pub none_by_watch : (v : Pipe) → SaysMayLeave v.watch false → HasNoneToSend v
unfolding HasNoneToSend SaysMayLeave
none_by_watch v says role n1 d past h c may =
    let x : false ≡ true = says (wire past) h.watched ∙ (ap (λ r. may_leave r v.watch.dlci (wire past)) h.role_is ∙ (ap (λ e. may_leave role e (wire past)) h.dlci_is ∙ may)) in
    cc

-- nor where none waits
pub none_wait : (v : Pipe) → (length v.lane.to_go == 0) ≡ true → HasNoneToSend v
unfolding HasNoneToSend
none_wait v none role n1 d past h c may = sym (append-nil (left d past)) ∙ (ap (λ o. left d past ++ o) (sym (is_none v.lane.to_go none)) ∙ h.to_go_is)
