-- Backlogs are checked, one connection after the other.
use Rattle.std.proofs.Common.{ap, sym, ◌∙◌, inl, inr, subst, arith, ⊎_elim}
use Rattle.std.proofs.lemmas.Bool.{and_from, eqb-true, le-leb, lt-ltb, or_parts}
use Rattle.std.proofs.lemmas.Bool.Decides.{eqb_tells}
use Rattle.std.proofs.lemmas.List.{append-nil}
use Rattle.std.proofs.lemmas.List.Folds.{list_all-append, list_any-append}
use Rattle.std.specs.Prelude.{◌≡◌, ◌≢◌, ℕ, zero, suc, ◌+◌, ◌≤◌, ◌<◌, ◌==◌, ◌&&◌, ◌||◌, ◌⊎◌, not, Bool, true, false, List, [], ◌∷◌, ◌++◌, length, map, refl, Option, None, Some, if◌then◌else◌, IfSome}
use Rattle.std.specs.List.{list_all, list_any}
use Rattle.mux_station.specs.declared.role.Role.TheVariants.{Initiator}
use Rattle.mux_station.specs.Opening.{is_open}
use Rattle.mux_frame.specs.declared.dlci.Dlci.{Dlci}
use Rattle.modem_desk.specs.declared.request.Outcome.{Outcome}
use Rattle.modem_desk.specs.declared.request.Urc.{Urc}
use Rattle.modem_desk.specs.Ends.{DriverView}
use Rattle.modem_history.specs.Acts.{Act, Took, Got, Sent, Told, Heard, Tick, Lost, Held, Freed, Given, after, wire}
use Rattle.modem_history.specs.Information.{opens_here}
use Rattle.modem_history.specs.Holding.{last_held, is_held}
use Rattle.modem_history.specs.Calls.{Setting, is_lost}
use Rattle.modem_history.specs.Lawful.{Lawful}
use Rattle.modem_history.specs.Sessions.{Beginning, LineView, SessionView, driving, backlog_in, gots, heard_as}
use Rattle.modem_history.specs.Turns.{HoldsByBacklog, HoldsWhereRoom, LacksMscRoom, outcomes_told, lines_heard, may_act}
use Rattle.modem_history.proofs.calls.StatesAfterActs.{after_both}
use Rattle.modem_core.specs.Holding.{CallsForNothing, due_by, flow_due}
use Rattle.modem_driver.specs.BacklogChecks.{ChecksOne, SettlesOne}
use Rattle.modem_queues.specs.LineQueues.{AreFewOnEach}
use Rattle.modem_history.specs.EveryTurn.{is_check}
use Rattle.modem_driver.specs.SessionStates.{Machine, MachineGoes, seen_by, end_of}
use Rattle.modem_driver.specs.TurnSteps.{Leads, AddsAll, Checks, turn_state, is_more}
use Rattle.modem_driver.proofs.sessions.steps.CoreCalls.{FitsMachine}
use Rattle.modem_core.proofs.sessions.steps.CollectedActs.{told_both}
use Rattle.modem_core.proofs.sessions.steps.ListenedLines.{heard_both}
use Rattle.modem_driver.proofs.sessions.steps.OneFrame.{none_both}
use Rattle.modem_driver.proofs.sessions.meanings.TurnFaults.{none_loses}
use Rattle.modem_driver.proofs.sessions.steps.OneBacklog.{checks_one}
use Rattle.modem_history.proofs.rules.MadeLaws.{laws_of}

-- ## 0 is never held

unless : (c x : Bool) → x ≡ false → (if c then false else x) ≡ false
unless true x e = refl
unless false x e = e

neither : (c x : Bool) → x ≡ false → (not c && x) ≡ false
neither true x e = refl
neither false x e = e

held_elsewhere : (e o x : Bool) → (not e && o) ≡ true → x ≡ false → (e || x) ≡ false
held_elsewhere true o x h k = cc
held_elsewhere false o x h k = k

zero_free : (s : Setting) (past : List Act) → Lawful s past → last_held s.role 0 past ≡ false
unfolding Lawful
zero_free s [] l = refl
zero_free s (Held e ∷ past) l = held_elsewhere (e == 0) _ (last_held s.role 0 past) l.0.held (zero_free s past l.1)
zero_free s (Freed e ∷ past) l = neither (e == 0) (last_held s.role 0 past) (zero_free s past l.1)
zero_free s (Took q ∷ past) l = unless (opens_here s.role 0 past (Took q)) (last_held s.role 0 past) (zero_free s past l.1)
zero_free s (Got f ∷ past) l = unless (opens_here s.role 0 past (Got f)) (last_held s.role 0 past) (zero_free s past l.1)
zero_free s (Sent f ∷ past) l = unless (opens_here s.role 0 past (Sent f)) (last_held s.role 0 past) (zero_free s past l.1)
zero_free s (Told o ∷ past) l = unless (opens_here s.role 0 past (Told o)) (last_held s.role 0 past) (zero_free s past l.1)
zero_free s (Heard k d line ∷ past) l = unless (opens_here s.role 0 past (Heard k d line)) (last_held s.role 0 past) (zero_free s past l.1)
zero_free s (Tick ∷ past) l = unless (opens_here s.role 0 past Tick) (last_held s.role 0 past) (zero_free s past l.1)
zero_free s (Lost ∷ past) l = unless (opens_here s.role 0 past Lost) (last_held s.role 0 past) (zero_free s past l.1)
zero_free s (Given ∷ past) l = unless (opens_here s.role 0 past Given) (last_held s.role 0 past) (zero_free s past l.1)

-- ## Nothing is called for: each is held by its backlog

many_held : (opened held : Bool) (n : ℕ) → opened ≡ true → 256 ≤ n → flow_due opened held n ≡ None → held ≡ true
many_held false held n o big e = cc
many_held true true n o big e = refl
many_held true false n o big e = absurd (some_none (sym (ap (λ (c : Bool). if c then Some false else None) (le-leb 256 n big)) ∙ e))
  where
    some_none : Some false ≡ None → ⊥
    some_none h = cc

few_held : (opened held : Bool) (n : ℕ) → n < 128 → (opened && held) ≡ true → flow_due opened (opened && held) n ≡ None → ⊥
few_held false held n small h e = false_true h
  where
    false_true : false ≡ true → ⊥
    false_true k = cc
few_held true false n small h e = false_true h
  where
    false_true : false ≡ true → ⊥
    false_true k = cc
few_held true true n small h e = some_none (sym (ap (λ (c : Bool). if c then Some true else None) (lt-ltb n 128 small)) ∙ e)
  where
    some_none : Some true ≡ None → ⊥
    some_none k = cc

one_at_least : (m : ℕ) → (m == 0) ≡ false → 1 ≤ m
one_at_least zero e = cc
one_at_least (suc m) e = omega arith

and_false : (o x : Bool) → x ≡ false → (o && x) ≡ false
and_false true x e = e
and_false false x e = refl

-- of each connection but 0 its backlog calls for nothing
abbrev pub NoneDue : Beginning → List Act → List Urc → ℕ → Type 0
NoneDue b past us number = (m : ℕ) → 1 ≤ m → m < number → due_by (driving b) past m (backlog_in m us) ≡ None

flow_none : (b : Beginning) (past : List Act) (us : List Urc) → is_lost past ≡ false → NoneDue b past us 62 → (d : ℕ) → d < 62 → (d == 0) ≡ false → flow_due (is_open Initiator d (wire past)) (is_held Initiator d past) (backlog_in d us) ≡ None
flow_none b past us live none d lt nz =
    sym (ap (λ (x : Bool). if x || (d == 0) then None else flow_due (is_open Initiator d (wire past)) (is_held Initiator d past) (backlog_in d us)) live
    ∙ ap (λ (x : Bool). if x then None else flow_due (is_open Initiator d (wire past)) (is_held Initiator d past) (backlog_in d us)) nz)
    ∙ none d (one_at_least d nz) lt

holds_by : (b : Beginning) (v : SessionView) (past : List Act) (us : List Urc) → v.unannounced ≡ us → is_lost past ≡ false → Lawful (driving b) past → NoneDue b past us 62 → HoldsByBacklog v past
holds_by b v past us same live lawful none = record {
  many = λ d lt nz o big. many_held (is_open Initiator d (wire past)) (is_held Initiator d past) (backlog_in d us) o (subst (λ (xs : List Urc). 256 ≤ backlog_in d xs) same big) (flow_none b past us live none d lt nz);
  few = λ d lt small. by_zero d lt (subst (λ (xs : List Urc). backlog_in d xs < 128) same small) (d == 0) refl;
}
  where
    by_held : (d : ℕ) → d < 62 → backlog_in d us < 128 → (d == 0) ≡ false → (c : Bool) → is_held Initiator d past ≡ c → is_held Initiator d past ≡ false
    by_held d lt small nz false e = e
    by_held d lt small nz true e = absurd (few_held (is_open Initiator d (wire past)) (last_held Initiator d past) (backlog_in d us) small e (flow_none b past us live none d lt nz))

    by_zero : (d : ℕ) → d < 62 → backlog_in d us < 128 → (c : Bool) → (d == 0) ≡ c → is_held Initiator d past ≡ false
    by_zero d lt small false e = by_held d lt small e (is_held Initiator d past) refl
    by_zero d lt small true e = subst (λ (m : ℕ). is_held Initiator m past ≡ false) (sym (eqb-true d 0 e)) (and_false (is_open Initiator 0 (wire past)) (last_held Initiator 0 past) (zero_free (driving b) past lawful))

-- ## One after the other

-- those below this number were checked
pub record ChecksSo (first now : Machine) (number : ℕ) (moved : Bool) : Type 0 where
  pub acts : List Act
  pub goes : MachineGoes first now acts
  pub none_told : outcomes_told acts ≡ []
  pub none_heard : lines_heard acts ≡ []
  pub none_got : gots acts ≡ []
  pub moved_is : moved ≡ list_any is_more acts
  pub may : (b : Beginning) (l : LineView) (e : DriverView) (past : List Act) → FitsMachine b l e first past → list_all (may_act first.unannounced) acts ≡ true
  pub settled : (b : Beginning) (l : LineView) (e : DriverView) (past : List Act) → FitsMachine b l e first past → now.core.station.queue ≡ [] → (acts ≡ []) × NoneDue b past first.unannounced number
  pub looked : moved ≡ false
      → (acts ≡ []) × ((b : Beginning) (l : LineView) (e : DriverView) (past : List Act) → FitsMachine b l e first past → NoneDue b past first.unannounced number ⊎ LacksMscRoom b past)
  pub are_checks : list_all is_check acts ≡ true
  pub flowed : (b : Beginning) (l : LineView) (e : DriverView) (past : List Act) → FitsMachine b l e first past → NoneDue b (after past acts) first.unannounced number ⊎ LacksMscRoom b (after past acts)
  pub stays : now ≡ record first { core = now.core }

-- at first none but 0 was checked
pub checks_first : (k : Machine) → ChecksSo k k 1 false
unfolding MachineGoes
checks_first k = record {
  acts = [];
  goes = λ b l e past f. f;
  none_told = refl;
  none_heard = refl;
  none_got = refl;
  moved_is = refl;
  may = λ b l e past f. refl;
  settled = λ b l e past f empty. (refl, λ m least lt. absurd (omega arith));
  looked = λ still. (refl, λ b l e past f. inl (λ m least lt. absurd (omega arith)));
  are_checks = refl;
  flowed = λ b l e past f. inl (λ m least lt. absurd (omega arith));
  stays = refl;
}

none_more : (b : Beginning) (past acts : List Act) (us vs : List Urc) (number : ℕ) → acts ≡ [] → vs ≡ us → NoneDue b past us number → due_by (driving b) (after past acts) number (backlog_in number vs) ≡ None → NoneDue b past us (number + 1)
none_more b past acts us vs number none same before here m least lt =
    ⊎_elim
    (λ (y : (m == number) ≡ true × m ≡ number). subst (λ (j : ℕ). due_by (driving b) past j (backlog_in j us) ≡ None) (sym y.1)
    (subst (λ (xs : List Act). due_by (driving b) (after past xs) number (backlog_in number us) ≡ None) none
    (subst (λ (xs : List Urc). due_by (driving b) (after past acts) number (backlog_in number xs) ≡ None) same here)))
    (λ (y : (m == number) ≡ false × m ≢ number). before m least (below y.1))
    (eqb_tells m number)
  where
    below : m ≢ number → m < number
    below other = omega arith

both_looked : (b : Beginning) (past acts : List Act) (us vs : List Urc) (number : ℕ) → acts ≡ [] → vs ≡ us → NoneDue b past us number ⊎ LacksMscRoom b past
    → (due_by (driving b) (after past acts) number (backlog_in number vs) ≡ None) ⊎ LacksMscRoom b (after past acts) → NoneDue b past us (number + 1) ⊎ LacksMscRoom b past
both_looked b past acts us vs number none same (inr full) here = inr full
both_looked b past acts us vs number none same (inl before) (inr full) = inr (subst (λ (xs : List Act). LacksMscRoom b (after past xs)) none full)
both_looked b past acts us vs number none same (inl before) (inl here) = inl (none_more b past acts us vs number none same before here)

-- one more connection is settled
flowed_more : (b : Beginning) (past acts : List Act) (us : List Urc) (number : ℕ) → NoneDue b past us number ⊎ LacksMscRoom b past → SettlesOne b past acts number us → NoneDue b (after past acts) us (number + 1) ⊎ LacksMscRoom b (after past acts)
flowed_more b past acts us number (inr full) one = inr (one.full full)
flowed_more b past acts us number (inl none) one = ⊎_elim (λ (here : due_by (driving b) (after past acts) number (backlog_in number us) ≡ None). inl (all here)) (λ (full : LacksMscRoom b (after past acts)). inr full) one.here
  where
    all : due_by (driving b) (after past acts) number (backlog_in number us) ≡ None → NoneDue b (after past acts) us (number + 1)
    all here m least lt =
        ⊎_elim
        (λ (y : (m == number) ≡ true × m ≡ number). subst (λ (j : ℕ). due_by (driving b) (after past acts) j (backlog_in j us) ≡ None) (sym y.1) here)
        (λ (y : (m == number) ≡ false × m ≢ number). let other = y.1 in one.others m (backlog_in m us) y.1 ∙ none m least (omega (arith, other, lt)))
        (eqb_tells m number)

-- the next connection was checked
pub checks_more : (first now next : Machine) (number : ℕ) (moved earlier : Bool) → ChecksOne number now next moved → ChecksSo first now number earlier → ChecksSo first next (number + 1) (earlier || moved)
unfolding MachineGoes
checks_more first now next number moved earlier one so = record {
  acts = so.acts ++ one.acts;
  goes = λ b l e past f. subst (FitsMachine b l e next) (sym (after_both so.acts one.acts past)) (one.goes b l e (after past so.acts) (so.goes b l e past f));
  none_told = told_both so.acts one.acts ∙ (ap (λ (os : List Outcome). os ++ outcomes_told one.acts) so.none_told ∙ one.none_told);
  none_heard = heard_both so.acts one.acts ∙ (ap (λ (hs : List Act). hs ++ lines_heard one.acts) so.none_heard ∙ one.none_heard);
  none_got = none_both so.acts one.acts so.none_got one.none_got;
  moved_is = ap (λ (x : Bool). x || moved) so.moved_is ∙ (ap (λ (x : Bool). list_any is_more so.acts || x) one.moved_is ∙ sym (list_any-append is_more so.acts one.acts));
  may = λ b l e past f.
      list_all-append (may_act first.unannounced) so.acts one.acts
      ∙ and_from (list_all (may_act first.unannounced) so.acts) (list_all (may_act first.unannounced) one.acts) (so.may b l e past f)
      (subst (λ (us : List Urc). list_all (may_act us) one.acts ≡ true) (ap (λ (k : Machine). k.unannounced) so.stays) (one.may b l e (after past so.acts) (so.goes b l e past f)));
  settled = λ b l e past f empty.
      let here = one.settles b l e (after past so.acts) (so.goes b l e past f) empty in
      let before = so.settled b l e past f (sym (ap (λ (k : Machine). k.core.station.queue) here.1.0) ∙ empty) in
      (ap (λ (xs : List Act). xs ++ one.acts) before.0 ∙ here.0, none_more b past so.acts first.unannounced now.unannounced number before.0 (ap (λ (k : Machine). k.unannounced) so.stays) before.1 here.1.1);
  looked = λ still.
      let parts = or_parts earlier moved still in
      let before = so.looked parts.0 in
      let here = one.looks parts.1 in (
        ap (λ (xs : List Act). xs ++ one.acts) before.0 ∙ here.0,
        λ b l e past f.
            both_looked b past so.acts first.unannounced now.unannounced number before.0 (ap (λ (k : Machine). k.unannounced) so.stays) (before.1 b l e past f)
            (here.1 b l e (after past so.acts) (so.goes b l e past f)),
      );
  are_checks = list_all-append is_check so.acts one.acts ∙ and_from (list_all is_check so.acts) (list_all is_check one.acts) so.are_checks one.are_checks;
  flowed = λ b l e past f.
      let there = so.goes b l e past f in
      let one_is = subst (λ (us : List Urc). SettlesOne b (after past so.acts) one.acts number us) (ap (λ (k : Machine). k.unannounced) so.stays) (one.flows b l e (after past so.acts) there) in
      subst (λ (p : List Act). NoneDue b p first.unannounced (number + 1) ⊎ LacksMscRoom b p) (sym (after_both so.acts one.acts past))
      (flowed_more b (after past so.acts) one.acts first.unannounced number (so.flowed b l e past f) one_is);
  stays = one.stays ∙ ap (λ (k : Machine). record k { core = next.core }) so.stays;
}

few_none : (k : Machine) (d : ℕ) → d < 62 → AreFewOnEach k.unannounced → CallsForNothing k.core → ChecksOne d k k false
unfolding CallsForNothing
few_none k d b few free = checks_one k k.core d [] None refl (free d (backlog_in d k.unannounced) b (few d b))

-- where none is held and fewer than 256 lines of each connection wait, none is to be
pub checks_few : (k : Machine) (n : ℕ) → n < 62 → AreFewOnEach k.unannounced → CallsForNothing k.core → ChecksSo k k (n + 1) false
checks_few k zero b few free = checks_first k
checks_few k (suc n) b few free = checks_more k k k (suc n) false false (few_none k (suc n) b few free) (subst (λ (m : ℕ). ChecksSo k k m false) (omega arith) (checks_few k n (omega arith) few free))

-- the connection of a number
pub same_number : (o : Option Dlci) (x : Dlci) (n : ℕ) → IfSome o (λ d. d.number ≡ n) → o ≡ Some x → x.number ≡ n
same_number o x n h e = subst (λ (y : Option Dlci). IfSome y (λ d. d.number ≡ n)) e h

-- ## All of them

adds_none : (first now : Machine) (number : ℕ) (moved : Bool) → (so : ChecksSo first now number moved) → (l : LineView) (d : DriverView) → AddsAll (turn_state l d first) (turn_state l d now) first.unannounced 0 so.acts
unfolding AddsAll
adds_none first now number moved so l d b past f = record {
  outcomes = ap (λ (k : Machine). k.unplaced) so.stays ∙ (sym (append-nil first.unplaced) ∙ ap (λ (os : List Outcome). first.unplaced ++ os) (sym so.none_told));
  lines = ap (λ (k : Machine). map heard_as k.unannounced) so.stays ∙ (sym (append-nil (map heard_as first.unannounced)) ∙ ap (λ (hs : List Act). map heard_as first.unannounced ++ hs) (sym so.none_heard));
  may = so.may b l d past f;
  few_got = let none = ap length so.none_got in omega arith;
}

leads_by : (first now : Machine) (acts : List Act) → MachineGoes first now acts → (l : LineView) (d : DriverView) → Leads (turn_state l d first) (turn_state l d now) acts
unfolding Leads MachineGoes
leads_by first now acts goes l d b past f = goes b l d past f

all_held : (first now : Machine) (moved : Bool) → (so : ChecksSo first now 62 moved) → (l : LineView) (d : DriverView) (b : Beginning) (past : List Act) → FitsMachine b l d first past → now.core.lost ≡ false → now.core.station.queue ≡ []
    → HoldsByBacklog (seen_by l (end_of d) now) (after past so.acts)
unfolding MachineGoes
all_held first now moved so l d b past f live empty =
    let s = so.settled b l d past f empty in
    let fits = so.goes b l d past f in
    let here : is_lost past ≡ false = subst (λ (xs : List Act). is_lost (after past xs) ≡ false) s.0 (fits.inside.fits.lost_is ∙ live) in
    subst (λ (xs : List Act). HoldsByBacklog (seen_by l (end_of d) now) (after past xs)) (sym s.0)
    (holds_by b (seen_by l (end_of d) now) past first.unannounced (ap (λ (k : Machine). k.unannounced) so.stays) here (laws_of f.session.history).lawful s.1)

all_looked : (first now : Machine) (us : List Urc) (l : LineView) (d : DriverView) (b : Beginning) (past : List Act) → now.unannounced ≡ us → is_lost past ≡ false → FitsMachine b l d first past → NoneDue b past us 62 ⊎ LacksMscRoom b past
    → HoldsWhereRoom b (seen_by l (end_of d) now) past
all_looked first now us l d b past same live f (inl none) = inl (holds_by b (seen_by l (end_of d) now) past us same live (laws_of f.session.history).lawful none)
all_looked first now us l d b past same live f (inr full) = inr full

all_flowed : (first now : Machine) (l : LineView) (d : DriverView) (b : Beginning) (past acts : List Act) → now.unannounced ≡ first.unannounced → is_lost (after past acts) ≡ false → FitsMachine b l d now (after past acts)
    → NoneDue b (after past acts) first.unannounced 62 ⊎ LacksMscRoom b (after past acts) → HoldsWhereRoom b (seen_by l (end_of d) now) (after past acts)
all_flowed first now l d b past acts same live f (inl none) = inl (holds_by b (seen_by l (end_of d) now) (after past acts) first.unannounced same live (laws_of f.session.history).lawful none)
all_flowed first now l d b past acts same live f (inr full) = inr full

-- once all 62 were, backlogs are checked
pub checks_all : (first now : Machine) (number : ℕ) (moved : Bool) → number ≡ 62 → ChecksSo first now number moved → (l : LineView) (d : DriverView) → Checks (turn_state l d first) (turn_state l d now) moved
unfolding MachineGoes
checks_all first now number moved last any l d = by_last (subst (λ (n : ℕ). ChecksSo first now n moved) last any)
  where
    by_last : ChecksSo first now 62 moved → Checks (turn_state l d first) (turn_state l d now) moved
    by_last so = record {
      acts = so.acts;
      leads = leads_by first now so.acts so.goes l d;
      adds = adds_none first now 62 moved so l d;
      moved_is = so.moved_is;
      held = λ b past f live empty. all_held first now moved so l d b past f live empty;
      looks = λ still.
          let k = so.looked still in
          (k.0, λ b past f live. all_looked first now first.unannounced l d b past (ap (λ (v : Machine). v.unannounced) so.stays) live f (k.1 b l d past f));
      are_checks = so.are_checks;
      looked = λ b past f live.
          let there = so.goes b l d past f in
          all_flowed first now l d b past so.acts (ap (λ (v : Machine). v.unannounced) so.stays) (none_loses first.unannounced so.acts past (so.may b l d past f) live) there (so.flowed b l d past f);
      stays = ap (turn_state l d) so.stays;
    }
