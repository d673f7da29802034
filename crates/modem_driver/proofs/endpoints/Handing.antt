-- Outcomes and lines that are given.
use Rattle.std.proofs.Common.{ap, sym, ◌∙◌, subst, arith, ⊎_elim}
use Rattle.std.proofs.lemmas.Bool.{and_parts, eq-eqb}
use Rattle.std.proofs.lemmas.Bool.Decides.{eqb_tells}
use Rattle.std.proofs.lemmas.List.{append-nil}
use Rattle.std.specs.Prelude.{◌≡◌, ◌≢◌, ◌==◌, ℕ, Bool, true, false, List, [], ◌∷◌, ◌++◌, length, map, refl, Option, None, Some, MatchOption, if◌then◌else◌}
use Rattle.std.specs.List.{list_all}
use mathlib.Core.Option.{some, some-injective}
use lib.ListN.{get_elem?}
use Rattle.at_text.specs.declared.unsolicited.UrcKind.{UrcKind}
use Rattle.modem_desk.specs.declared.request.Outcome.{Outcome}
use Rattle.modem_desk.specs.declared.request.Request.{Request}
use Rattle.modem_desk.specs.declared.request.Urc.{Urc}
use Rattle.modem_desk.specs.Ends.{DriverView, Announces, Appends}
use Rattle.at_text.specs.Kinds.{kind_place}
use Rattle.modem_history.specs.Kinds.{is_listened}
use Rattle.modem_history.specs.Sessions.{LineView, at_place, heard_as}
use Rattle.modem_core.specs.Placing.{Gave, Stay, goes_first, caller_of}
use Rattle.modem_queues.specs.LineQueues.{of_key, place_of}
use Rattle.modem_driver.specs.Endpoints.{EndpointState, GivesLine, GivesOutcome, LeadsOver, Leaves}
use Rattle.modem_driver.specs.SessionStates.{Machine, seen_by, end_of}
use Rattle.modem_driver.proofs.sessions.steps.DeskOffers.{grows_told, heard_more, none_beyond, told_more}
use Rattle.at_text.proofs.SameKinds.{same_place}
use Rattle.modem_driver.proofs.sessions.steps.LineOctets.{loss_with}
use Rattle.modem_core.proofs.sessions.steps.OutcomeCounts.{is_callers}
use Rattle.modem_core.proofs.sessions.steps.RemainingItems.{stay_all}
use Rattle.modem_driver.proofs.sessions.polls.StopProgress.{begins_whole, come_on, grows_none}
use Rattle.modem_driver.proofs.sessions.steps.WaitingDeliveries.{told_part, heard_part, sent_part, received_part}

abbrev state_of : ℕ → Machine → EndpointState
state_of next k = record { machine = k; next = next }

-- ## An outcome

-- its caller was told it, and no other anything
one_told : (o : Outcome) (ps : List Outcome) (before now : List (List Outcome)) → Appends o.caller o before now → (c : ℕ) → Gave caller_of before now (o ∷ ps) ps c c
one_told o ps before now a c = ⊎_elim
    (λ (y : (o.caller == c) ≡ true × o.caller ≡ c). here y.0 y.1)
    (λ (y : (o.caller == c) ≡ false × o.caller ≢ c). there y.0 y.1)
    (eqb_tells o.caller c)
  where
    here : (o.caller == c) ≡ true → o.caller ≡ c → Gave caller_of before now (o ∷ ps) ps c c
    here t e = record {
      since = o ∷ [];
      given_are = subst (λ (n : ℕ). at_place n now ≡ at_place n before ++ o ∷ []) e a.here;
      rest_are = ap (λ (x : Bool). if x then o ∷ of_key caller_of c ps else of_key caller_of c ps) (sym t);
    }

    there : (o.caller == c) ≡ false → o.caller ≢ c → Gave caller_of before now (o ∷ ps) ps c c
    there t e = record {
      since = [];
      given_are = a.others c (λ same. e (sym same)) ∙ sym (append-nil (at_place c before));
      rest_are = ap (λ (x : Bool). if x then o ∷ of_key caller_of c ps else of_key caller_of c ps) (sym t);
    }

-- over a desk's end that told it alone
tells_alone : (l : LineView) (d : DriverView) (old : Machine) (o : Outcome) (ps : List Outcome) (told : List (List Outcome)) (next : ℕ) → old.unplaced ≡ o ∷ ps → Appends o.caller o d.told told
    → LeadsOver l l d (record d { told = told }) (record { machine = old; next = next }) (record { machine = record old { unplaced = ps }; next = next }) []
unfolding LeadsOver
tells_alone l d old o ps told next first a b past fit =
    let f = fit.stands in
    let e : DriverView = record d { told = told } in
    let new : Machine = record old { unplaced = ps } in
    let v = seen_by l (end_of d) old in
    let w = seen_by l (end_of e) new in
    let s = f.session in
    let few = s.requests.few in
    let long = ap (length {A = Outcome}) first in
    let gave : (c : ℕ) → Gave caller_of d.told told old.unplaced ps c c = λ c. subst (λ (os : List Outcome). Gave caller_of d.told told os ps c c) (sym first) (one_told o ps d.told told a c) in
    let callers : list_all (is_callers b.callers) (o ∷ ps) ≡ true = sym (ap (list_all (is_callers b.callers)) first) ∙ s.told.callers in
    record {
      stands = record {
        session = record {
          history = s.history;
          loss = loss_with b v w past s (omega arith);
          requests = record { taken_are = s.requests.taken_are; once = s.requests.once; callers = s.requests.callers; few = omega (arith, few, long) };
          received = received_part b v w past past s.received refl refl refl refl;
          sent = sent_part b v w past past s.sent refl refl refl;
          told = told_more b v w past s.told gave (and_parts (is_callers b.callers o) (list_all (is_callers b.callers) ps) callers).1;
          heard = heard_part b v w past [] s.heard refl (sym (append-nil (map heard_as old.unannounced))) refl;
        };
        inside = record {
          setting = f.inside.setting;
          fits = f.inside.fits;
          holds = f.inside.holds;
          kinds_are = f.inside.kinds_are;
          callers_are = f.inside.callers_are;
          sound = f.inside.sound;
          by_fault = f.inside.by_fault;
          one_stop = f.inside.one_stop;
          delays_are = f.inside.delays_are;
          come = come_on b v w past [] old.course (λ h. h) (grows_told v w gave (begins_whole l.sent)) f.inside.come;
        };
      };
      numbers = fit.numbers;
    }

-- the first outcome that waits is given, and waits no more
pub gives_outcome : (old new : Machine) (next : ℕ) (o : Outcome) → old.unplaced ≡ o ∷ new.unplaced → new ≡ record old { unplaced = new.unplaced }
    → GivesOutcome (record { machine = old; next = next }) (record { machine = new; next = next }) o
gives_outcome old new next o first stays = record {
  first = first;
  stays = ap (λ (k : Machine). record { machine = k; next = next }) stays;
  leads = λ l d e tells.
      subst (λ (k : Machine). LeadsOver l l d e (record { machine = old; next = next }) (record { machine = k; next = next }) []) (sym stays)
      (subst (λ (x : DriverView). LeadsOver l l d x (record { machine = old; next = next }) (record { machine = record old { unplaced = new.unplaced }; next = next }) []) (sym tells.stays)
      (tells_alone l d old o new.unplaced e.told next first tells.told));
}

-- a call gives that one, or none where none waits
pub polls_outcome : (r : Option Outcome) (old new : Machine) (next : ℕ) → MatchOption r ((old.unplaced ≡ []) × (new ≡ old)) (λ o. (old.unplaced ≡ o ∷ new.unplaced) × (new ≡ record old { unplaced = new.unplaced }))
    → MatchOption r ((old.unplaced ≡ []) × (state_of next new ≡ state_of next old)) (λ o. GivesOutcome (record { machine = old; next = next }) (record { machine = new; next = next }) o)
polls_outcome None old new next h = (h.0, ap (state_of next) h.1)
polls_outcome (Some o) old new next h = gives_outcome old new next o h.0 h.1

-- ## A line

same_kind : (k m : UrcKind) → kind_place k ≡ kind_place m → k ≡ m
same_kind k m e = same_place k m (eq-eqb (kind_place k) (kind_place m) e)

-- the listeners of its kind were announced it, and no other anything
one_announced : (kinds : List UrcKind) (u : Urc) (vs : List Urc) (before now : List (List Urc)) → Announces kinds u before now → (i : ℕ) (k : UrcKind) → get_elem? kinds i ≡ some k → Gave place_of before now (u ∷ vs) vs (kind_place k) i
one_announced kinds u vs before now a i k at = ⊎_elim
    (λ (y : (place_of u == kind_place k) ≡ true × place_of u ≡ kind_place k). here y.0 y.1)
    (λ (y : (place_of u == kind_place k) ≡ false × place_of u ≢ kind_place k). there y.0 y.1)
    (eqb_tells (place_of u) (kind_place k))
  where
    here : (place_of u == kind_place k) ≡ true → place_of u ≡ kind_place k → Gave place_of before now (u ∷ vs) vs (kind_place k) i
    here t e = record {
      since = u ∷ [];
      given_are = a.here i (at ∙ ap some (sym (same_kind u.kind k e)));
      rest_are = ap (λ (x : Bool). if x then u ∷ of_key place_of (kind_place k) vs else of_key place_of (kind_place k) vs) (sym t);
    }

    there : (place_of u == kind_place k) ≡ false → place_of u ≢ kind_place k → Gave place_of before now (u ∷ vs) vs (kind_place k) i
    there t e = record {
      since = [];
      given_are = a.others i (λ h. e (ap kind_place (some-injective u.kind k (sym h ∙ at)))) ∙ sym (append-nil (at_place i before));
      rest_are = ap (λ (x : Bool). if x then u ∷ of_key place_of (kind_place k) vs else of_key place_of (kind_place k) vs) (sym t);
    }

-- over a desk's end that announced it alone
announces_alone : (l : LineView) (d : DriverView) (old : Machine) (u : Urc) (vs : List Urc) (announced : List (List Urc)) (next : ℕ) → old.unannounced ≡ u ∷ vs → Announces d.desk.kinds u d.announced announced
    → LeadsOver l l d (record d { announced = announced }) (record { machine = old; next = next }) (record { machine = record old { unannounced = vs }; next = next }) []
unfolding LeadsOver
announces_alone l d old u vs announced next first a b past fit =
    let f = fit.stands in
    let e : DriverView = record d { announced = announced } in
    let new : Machine = record old { unannounced = vs } in
    let v = seen_by l (end_of d) old in
    let w = seen_by l (end_of e) new in
    let s = f.session in
    let kinds : d.desk.kinds ≡ b.kinds = f.inside.kinds_are in
    let here : Announces b.kinds u d.announced announced = subst (λ (ks : List UrcKind). Announces ks u d.announced announced) kinds a in
    let listens : list_all (λ (x : Urc). is_listened b.kinds x.kind) (u ∷ vs) ≡ true = sym (ap (list_all (λ (x : Urc). is_listened b.kinds x.kind)) first) ∙ s.heard.listened in
    record {
      stands = record {
        session = record {
          history = s.history;
          loss = loss_with b v w past s (omega arith);
          requests = record { taken_are = s.requests.taken_are; once = s.requests.once; callers = s.requests.callers; few = s.requests.few };
          received = received_part b v w past past s.received refl refl refl refl;
          sent = sent_part b v w past past s.sent refl refl refl;
          told = told_part b v w past [] s.told refl (sym (append-nil old.unplaced)) refl;
          heard = heard_more b v w past s.heard
              (λ i k at. subst (λ (us : List Urc). Gave place_of d.announced announced us vs (kind_place k) i) (sym first) (one_announced b.kinds u vs d.announced announced here i k at))
              (and_parts (is_listened b.kinds u.kind) (list_all (λ (x : Urc). is_listened b.kinds x.kind) vs) listens).1
              (subst (λ (us : List Urc). Stay place_of us vs) (sym first) (goes_first u vs vs (stay_all place_of vs)))
              (λ i far. here.others i (λ at. none_beyond b.kinds i u.kind far at));
        };
        inside = record {
          setting = f.inside.setting;
          fits = f.inside.fits;
          holds = f.inside.holds;
          kinds_are = f.inside.kinds_are;
          callers_are = f.inside.callers_are;
          sound = f.inside.sound;
          by_fault = f.inside.by_fault;
          one_stop = f.inside.one_stop;
          delays_are = f.inside.delays_are;
          come = come_on b v w past [] old.course (λ h. h) (grows_none v w refl refl) f.inside.come;
        };
      };
      numbers = fit.numbers;
    }

-- the first line that waits is given, and waits no more
pub gives_line : (old new : Machine) (next : ℕ) (u : Urc) → old.unannounced ≡ u ∷ new.unannounced → new ≡ record old { unannounced = new.unannounced }
    → GivesLine (record { machine = old; next = next }) (record { machine = new; next = next }) u
gives_line old new next u first stays = record {
  first = first;
  stays = ap (λ (k : Machine). record { machine = k; next = next }) stays;
  leads = λ l d e tells.
      subst (λ (k : Machine). LeadsOver l l d e (record { machine = old; next = next }) (record { machine = k; next = next }) []) (sym stays)
      (subst (λ (x : DriverView). LeadsOver l l d x (record { machine = old; next = next }) (record { machine = record old { unannounced = new.unannounced }; next = next }) []) (sym tells.stays)
      (announces_alone l d old u new.unannounced e.announced next first tells.announced));
}

-- a call gives that one, or none where none waits
pub polls_line : (r : Option Urc) (old new : Machine) (next : ℕ) → MatchOption r ((old.unannounced ≡ []) × (new ≡ old)) (λ u. (old.unannounced ≡ u ∷ new.unannounced) × (new ≡ record old { unannounced = new.unannounced }))
    → MatchOption r ((old.unannounced ≡ []) × (state_of next new ≡ state_of next old)) (λ u. GivesLine (record { machine = old; next = next }) (record { machine = new; next = next }) u)
polls_line None old new next h = (h.0, ap (state_of next) h.1)
polls_line (Some u) old new next h = gives_line old new next u h.0 h.1

-- ## What is left

-- the requests in hand, and the outcomes and lines that wait
pub leaves : (e : EndpointState) (hand : List Request) (outcomes : List Outcome) (lines : List Urc) → hand ≡ e.machine.core.hand → outcomes ≡ e.machine.unplaced → lines ≡ e.machine.unannounced
    → Leaves e hand outcomes lines
leaves e hand outcomes lines all outcomes_are lines_are = record {
  hand = λ b l d past fit. all ∙ sym fit.stands.inside.fits.hand_is;
  outcomes_are = outcomes_are;
  lines_are = lines_are;
}
