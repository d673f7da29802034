-- What waits was offered to the desk: the session fits its history as before.
use Rattle.std.proofs.Common.{ap, sym, ◌∙◌, subst, arith}
use Rattle.std.proofs.lemmas.Bool.{eqb-true, eqb-false}
use Rattle.std.proofs.lemmas.List.{append_assoc}
use Rattle.std.proofs.lemmas.List.Elements.{Contains-append_right}
use Rattle.std.specs.Prelude.{◌≡◌, ◌≢◌, ℕ, zero, suc, ◌<◌, ◌≤◌, ◌==◌, ◌||◌, not, nat_lt, Bool, true, false, List, [], ◌∷◌, ◌++◌, length, map, take, drop, filter, refl, Contains, if◌then◌else◌}
use Rattle.std.specs.List.{list_all}
use mathlib.Core.Option.{some, some-injective, some-ne-none}
use lib.ListN.{get_elem?}
use Rattle.at_text.specs.declared.unsolicited.UrcKind.{UrcKind}
use Rattle.modem_desk.specs.declared.request.Request.{Request}
use Rattle.modem_desk.specs.declared.request.Outcome.{Outcome}
use Rattle.modem_desk.specs.declared.request.Urc.{Urc}
use Rattle.modem_desk.specs.Ends.{DriverView, DeskId}
use Rattle.modem_history.specs.Acts.{Act}
use Rattle.modem_history.specs.Requests.{are_distinct}
use Rattle.at_text.specs.Kinds.{kind_place}
use Rattle.modem_history.specs.Kinds.{of_kind, is_listened}
use Rattle.modem_history.specs.Sessions.{Beginning, LineView, SessionView, FitsTold, FitsHeard, at_place, caller_outcomes, heard_as}
use Rattle.modem_history.specs.EveryTurn.{count_at}
use Rattle.modem_history.specs.Turns.{amount, counted}
use Rattle.modem_history.specs.Wholes.{IsPrefixOf}
use Rattle.modem_core.specs.Placing.{Gave, Stay, Placed, TellsAlone, AnnouncesAlone, caller_of, IsRingOf, IsCaller, IsListenerOf, IsHeard, Rings, caller_rings, listener_rings}
use Rattle.modem_queues.specs.LineQueues.{of_key, place_of}
use Rattle.modem_driver.specs.SessionStates.{Machine, seen_by, end_of}
use Rattle.modem_driver.specs.TurnSteps.{Leads, Places, turn_state}
use Rattle.modem_core.proofs.sessions.steps.OutcomeCounts.{is_callers, is_caller}
use Rattle.modem_driver.proofs.sessions.polls.StopProgress.{Grows, begins_whole, come_on}
use Rattle.modem_driver.proofs.sessions.steps.LineOctets.{loss_with}
use Rattle.modem_driver.proofs.sessions.steps.WaitingDeliveries.{sent_part, received_part}
use Rattle.modem_driver.proofs.sessions.meanings.HeardOrder.{kinds_of, behind_fewer}

-- ## The first of each key

abbrev firsts : {X : Type 0} (key : X → ℕ) → List X → List X
firsts key [] = []
firsts key (x ∷ xs) = x ∷ filter (λ y. not (key y == key x)) (firsts key xs)

none_left : {X : Type 0} (key : X → ℕ) (n m : ℕ) (ys : List X) → m ≡ n → of_key key n (filter (λ y. not (key y == m)) ys) ≡ []
none_left key n m [] e = refl
none_left {X} key n m (y ∷ ys) e = by_test (key y == m) refl (none_left key n m ys e)
  where
    by_test : (c : Bool) → (key y == m) ≡ c → of_key key n (filter (λ z. not (key z == m)) ys) ≡ []
        → of_key key n (if not c then y ∷ filter (λ z. not (key z == m)) ys else filter (λ z. not (key z == m)) ys) ≡ []
    by_test true t h = h
    by_test false t h = ap (λ (c : Bool). if c then y ∷ of_key key n (filter (λ z. not (key z == m)) ys) else of_key key n (filter (λ z. not (key z == m)) ys)) (ap (λ (k : ℕ). key y == k) (sym e) ∙ t) ∙ h

others_stay : {X : Type 0} (key : X → ℕ) (n m : ℕ) (ys : List X) → m ≢ n → of_key key n (filter (λ y. not (key y == m)) ys) ≡ of_key key n ys
others_stay key n m [] e = refl
others_stay {X} key n m (y ∷ ys) e = by_tests (key y == m) (key y == n) refl refl (others_stay key n m ys e)
  where
    by_tests : (c d : Bool) → (key y == m) ≡ c → (key y == n) ≡ d → of_key key n (filter (λ z. not (key z == m)) ys) ≡ of_key key n ys
        → of_key key n (if not c then y ∷ filter (λ z. not (key z == m)) ys else filter (λ z. not (key z == m)) ys) ≡ (if d then y ∷ of_key key n ys else of_key key n ys)
    by_tests true true t u h = absurd (e (sym (eqb-true (key y) m t) ∙ eqb-true (key y) n u))
    by_tests true false t u h = h
    by_tests false true t u h = ap (λ (c : Bool). if c then y ∷ of_key key n (filter (λ z. not (key z == m)) ys) else of_key key n (filter (λ z. not (key z == m)) ys)) u ∙ ap (λ (zs : List X). y ∷ zs) h
    by_tests false false t u h = ap (λ (c : Bool). if c then y ∷ of_key key n (filter (λ z. not (key z == m)) ys) else of_key key n (filter (λ z. not (key z == m)) ys)) u ∙ h

firsts_are : {X : Type 0} (key : X → ℕ) (n : ℕ) (xs : List X) → of_key key n (firsts key xs) ≡ take 1 (of_key key n xs)
firsts_are key n [] = refl
firsts_are {X} key n (x ∷ xs) = by_test (key x == n) refl (firsts_are key n xs)
  where
    by_test : (c : Bool) → (key x == n) ≡ c → of_key key n (firsts key xs) ≡ take 1 (of_key key n xs)
        → (if c then x ∷ of_key key n (filter (λ y. not (key y == key x)) (firsts key xs)) else of_key key n (filter (λ y. not (key y == key x)) (firsts key xs))) ≡ take 1 (if c then x ∷ of_key key n xs else of_key key n xs)
    by_test true e h = ap (λ (ys : List X). x ∷ ys) (none_left key n (key x) (firsts key xs) (eqb-true (key x) n e))
    by_test false e h = others_stay key n (key x) (firsts key xs) (eqb-false (key x) n e) ∙ h

-- ## Kinds

-- behind the last of the kinds there is none
pub none_beyond : (ks : List UrcKind) (i : ℕ) (k : UrcKind) → length ks ≤ i → get_elem? ks i ≡ some k → ⊥
none_beyond [] i k far e = some-ne-none k (sym e)
none_beyond (m ∷ ks) zero k far e = omega arith
none_beyond (m ∷ ks) (suc i) k far e = none_beyond ks i k (omega arith) e

has_at : (ks : List UrcKind) (i : ℕ) (k : UrcKind) → get_elem? ks i ≡ some k → Contains ks k
has_at [] i k e = absurd (some-ne-none k (sym e))
has_at (m ∷ ks) zero k e = (0, omega arith, some-injective m k e)
has_at (m ∷ ks) (suc i) k e = Contains-append_right (m ∷ []) ks k (has_at ks i k e)

-- ## What was told and announced

-- what each caller was told, with what still waits, is what it was to be told
pub told_more : (b : Beginning) (old new : SessionView) (past : List Act) → FitsTold b old past → ((c : ℕ) → Gave caller_of old.desk.told new.desk.told old.unplaced new.unplaced c c)
    → list_all (is_callers b.callers) new.unplaced ≡ true → FitsTold b new past
told_more b old new past f gave callers = record {
  each = λ c.
      let t = f.each c in
      let g = gave c in
      record {
        since = t.since ++ g.since;
        told_are = g.given_are ∙ (ap (λ (os : List Outcome). os ++ g.since) t.told_are ∙ append_assoc (at_place c b.desk.told) t.since g.since);
        outcomes_are = append_assoc t.since g.since (caller_outcomes c new.unplaced) ∙ (ap (λ (os : List Outcome). t.since ++ os) g.rest_are ∙ t.outcomes_are);
      };
  callers = callers;
}

-- and so it is with what each listener was announced
pub heard_more : (b : Beginning) (old new : SessionView) (past : List Act) → FitsHeard b old past
    → ((i : ℕ) (k : UrcKind) → get_elem? b.kinds i ≡ some k → Gave place_of old.desk.announced new.desk.announced old.unannounced new.unannounced (kind_place k) i)
    → list_all (λ (u : Urc). is_listened b.kinds u.kind) new.unannounced ≡ true → Stay place_of old.unannounced new.unannounced
    → ((i : ℕ) → length b.kinds ≤ i → at_place i new.desk.announced ≡ at_place i old.desk.announced) → FitsHeard b new past
heard_more b old new past f gave listened stay elsewhere = record {
  each = λ i k at.
      let a = f.each i k at in
      let g = gave i k at in
      let rest : g.since ++ of_kind k new.unannounced ≡ of_kind k old.unannounced = ap (λ (us : List Urc). g.since ++ us) (kinds_of k new.unannounced) ∙ (g.rest_are ∙ sym (kinds_of k old.unannounced)) in
      record {
        since = a.since ++ g.since;
        announced_are = g.given_are ∙ (ap (λ (us : List Urc). us ++ g.since) a.announced_are ∙ append_assoc (at_place i b.desk.announced) a.since g.since);
        lines_are = ap (λ (us : List Urc). map heard_as us) (append_assoc a.since g.since (of_kind k new.unannounced) ∙ ap (λ (us : List Urc). a.since ++ us) rest) ∙ a.lines_are;
      };
  listened = listened;
  in_order = behind_fewer old new past f.in_order stay;
  nowhere_else = λ i far. elsewhere i far ∙ f.nowhere_else i far;
}

-- ## The step

-- what waited was offered, and nothing else changed
pub record PlacedBoth (d e : DriverView) (os ps : List Outcome) (us vs : List Urc) (told announced : Bool) : Type 0 where
  pub outcomes : Placed caller_of IsRingOf (IsCaller d.desk) (caller_rings d) (caller_rings e) os ps told
  pub lines : Placed place_of (IsListenerOf d.desk.kinds) (IsHeard d.desk.kinds) (listener_rings d) (listener_rings e) us vs announced
  pub desk : e.desk ≡ d.desk
  pub taken : e.taken ≡ d.taken
  pub found_none : e.found_none ≡ d.found_none

both : (d m e : DriverView) (os ps : List Outcome) (us vs : List Urc) (told announced : Bool) → Placed caller_of IsRingOf (IsCaller d.desk) (caller_rings d) (caller_rings m) os ps told → TellsAlone d m
    → Placed place_of (IsListenerOf m.desk.kinds) (IsHeard m.desk.kinds) (listener_rings m) (listener_rings e) us vs announced → AnnouncesAlone m e → PlacedBoth d e os ps us vs told announced
both d m e os ps us vs told announced p t q a = record {
  outcomes = subst (λ (r : Rings Outcome). Placed caller_of IsRingOf (IsCaller d.desk) (caller_rings d) r os ps told) (sym a.callers) p;
  lines =
      subst (λ (k : DeskId). Placed place_of (IsListenerOf k.kinds) (IsHeard k.kinds) (listener_rings d) (listener_rings e) us vs announced) t.desk
      (subst (λ (r : Rings Urc). Placed place_of (IsListenerOf m.desk.kinds) (IsHeard m.desk.kinds) r (listener_rings e) us vs announced) t.listeners q);
  desk = a.desk ∙ t.desk;
  taken = a.taken ∙ t.taken;
  found_none = a.found_none ∙ t.found_none;
}

-- each caller has what it had, and then more
pub grows_told : (v w : SessionView) → ((c : ℕ) → Gave caller_of v.desk.told w.desk.told v.unplaced w.unplaced c c) → IsPrefixOf v.line.sent w.line.sent → Grows v w
grows_told v w gave sent = record {
  sent = sent;
  told = λ c. let g = gave c in record { rest = g.since; joins = sym g.given_are };
}

placed_fits : (l : LineView) (d e : DriverView) (old : Machine) (ps : List Outcome) (vs : List Urc) (told announced : Bool) → PlacedBoth d e old.unplaced ps old.unannounced vs told announced
    → Leads (turn_state l d old) (turn_state l e (record old { unplaced = ps; unannounced = vs })) []
unfolding Leads
placed_fits l d e old ps vs told announced p b past f =
    let new : Machine = record old { unplaced = ps; unannounced = vs } in
    let v = seen_by l (end_of d) old in
    let w = seen_by l (end_of e) new in
    let s = f.session in
    let fewer = p.outcomes.fewer in
    let few = s.requests.few in
    let kinds : d.desk.kinds ≡ b.kinds = f.inside.kinds_are in
    record {
      session = record {
        history = s.history;
        loss = loss_with b v w past s (omega arith);
        requests = record {
          taken_are = p.taken ∙ s.requests.taken_are;
          once = ap (λ (qs : List Request). are_distinct (drop (length b.desk.taken) qs)) p.taken ∙ s.requests.once;
          callers = ap (λ (qs : List Request). list_all (is_caller b.callers) (drop (length b.desk.taken) qs)) p.taken ∙ s.requests.callers;
          few = omega arith;
        };
        received = received_part b v w past past s.received refl refl refl refl;
        sent = sent_part b v w past past s.sent refl refl refl;
        told = told_more b v w past s.told (λ c. p.outcomes.each c c refl) (p.outcomes.all (is_callers b.callers) s.told.callers);
        heard = heard_more b v w past s.heard (λ i k at. p.lines.each (kind_place k) i (record { kind = k; is_place = refl; is_at = subst (λ (ks : List UrcKind). get_elem? ks i ≡ some k) (sym kinds) at }))
            (p.lines.all (λ (u : Urc). is_listened b.kinds u.kind) s.heard.listened) p.lines.in_order
            (λ i far. p.lines.elsewhere i (λ n subscription. none_beyond b.kinds i subscription.kind far (subst (λ (ks : List UrcKind). get_elem? ks i ≡ some subscription.kind) kinds subscription.is_at)));
      };
      inside = record {
        setting = f.inside.setting;
        fits = f.inside.fits;
        holds = f.inside.holds;
        kinds_are = ap (λ (k : DeskId). k.kinds) p.desk ∙ f.inside.kinds_are;
        callers_are = ap (λ (k : DeskId). length k.rings) p.desk ∙ f.inside.callers_are;
        sound = f.inside.sound;
        by_fault = f.inside.by_fault;
        one_stop = f.inside.one_stop;
        delays_are = f.inside.delays_are;
        come = come_on b v w past [] old.course (λ h. h) (grows_told v w (λ c. p.outcomes.each c c refl) (begins_whole l.sent)) f.inside.come;
      };
    }

-- so what waits is placed
pub places : (d m e : DriverView) (old : Machine) (ps : List Outcome) (vs : List Urc) (told announced : Bool) → Placed caller_of IsRingOf (IsCaller d.desk) (caller_rings d) (caller_rings m) old.unplaced ps told → TellsAlone d m
    → Placed place_of (IsListenerOf m.desk.kinds) (IsHeard m.desk.kinds) (listener_rings m) (listener_rings e) old.unannounced vs announced → AnnouncesAlone m e
    → (l : LineView) → Places (turn_state l d old) (turn_state l e (record old { unplaced = ps; unannounced = vs })) (told || announced)
places d m e old ps vs told announced p t q a l =
    let h = both d m e old.unplaced ps old.unannounced vs told announced p t q a in
    record {
      told_back = firsts caller_of ps;
      heard_back = firsts place_of vs;
      leads = placed_fits l d e old ps vs told announced h;
      outcomes_back = λ c. firsts_are caller_of c ps;
      lines_back = λ k. kinds_of k (firsts place_of vs) ∙ (firsts_are place_of (kind_place k) vs ∙ ap (take 1) (sym (kinds_of k vs)));
      rings_full = λ c lt some_wait. h.outcomes.full c c refl (subst (λ (k : DeskId). c < length k.rings) h.desk lt) some_wait;
      lines_full = λ i k at some_wait.
          let here : get_elem? d.desk.kinds i ≡ some k = ap (λ (x : DeskId). get_elem? x.kinds i) (sym h.desk) ∙ at in
          h.lines.full (kind_place k) i (record { kind = k; is_place = refl; is_at = here }) (record { kind = k; is_place = refl; listened = has_at d.desk.kinds i k here }) (λ none. some_wait (kinds_of k vs ∙ none));
      each_told = λ c. let g = h.outcomes.each c c refl in record { given = g.since; given_are = g.given_are; rest_are = g.rest_are };
      each_announced = λ i k at.
          let g = h.lines.each (kind_place k) i (record { kind = k; is_place = refl; is_at = at }) in
          record {
            given = g.since;
            given_are = g.given_are;
            rest_are = ap (λ (us : List Urc). g.since ++ us) (kinds_of k vs) ∙ (g.rest_are ∙ sym (kinds_of k old.unannounced));
          };
      elsewhere = λ i o. h.lines.elsewhere i (λ n e. o e.kind e.is_at);
      told_counts = λ c lt. h.outcomes.counts c c refl lt ∙ ap (λ (os : List Outcome). counted (count_at c d.told_back) (length os)) (sym (firsts_are caller_of c ps));
      announced_counts = λ i k at.
          h.lines.counts (kind_place k) i (record { kind = k; is_place = refl; is_at = at }) (record { kind = k; is_place = refl; listened = has_at d.desk.kinds i k at })
          ∙ ap (λ (us : List Urc). counted (count_at i d.announced_back) (length us)) (sym (kinds_of k (firsts place_of vs) ∙ firsts_are place_of (kind_place k) vs));
      found_stays = h.found_none;
      moved_is = ap (λ (x : Bool). x || announced) h.outcomes.moved_is ∙ ap (λ (x : Bool). nat_lt (amount d.told) (amount e.told) || x) h.lines.moved_is;
      told_grows = h.outcomes.grows;
      announced_grows = h.lines.grows;
      taken_stays = h.taken;
      desk_stays = h.desk;
      stays = refl;
    }
