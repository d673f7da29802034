-- A pass of a desk without a line, and passes one after the other.
use Rattle.std.proofs.Common.{ap, sym, ◌∙◌, subst}
use Rattle.std.proofs.lemmas.Bool.{and_from}
use Rattle.std.proofs.lemmas.List.{append_assoc, map-append}
use Rattle.std.proofs.lemmas.List.Elements.{filter-append}
use Rattle.std.proofs.lemmas.List.Folds.{list_all-append}
use Rattle.std.specs.Prelude.{◌≡◌, ◌<◌, ◌==◌, ◌||◌, nat_lt, Bool, true, false, List, [], ◌++◌, length, map, take, refl}
use Rattle.std.specs.List.{list_all}
use Rattle.serial_line.specs.LineViews.{unused_line}
use lib.ListN.{get_elem?}
use Rattle.modem_desk.specs.declared.request.Request.{Request}
use Rattle.modem_desk.specs.declared.request.Outcome.{Outcome}
use Rattle.modem_desk.specs.declared.request.Urc.{Urc}
use Rattle.modem_desk.specs.Ends.{DriverView, DeskId}
use Rattle.modem_history.specs.EveryTurn.{GivesSome, count_at}
use Rattle.modem_history.specs.Kinds.{of_kind}
use Rattle.modem_history.specs.Sessions.{at_place, caller_outcomes}
use Rattle.modem_history.specs.Turns.{amount, counted}
use Rattle.modem_driver.specs.declared.session.turn.Turn.{Turn}
use Rattle.modem_core.specs.Placing.{Placed, TellsAlone, AnnouncesAlone, caller_of, IsRingOf, IsCaller, IsListenerOf, IsHeard, caller_rings, listener_rings}
use Rattle.modem_queues.specs.LineQueues.{place_of}
use Rattle.modem_driver.specs.SessionStates.{Machine, new_machine}
use Rattle.modem_driver.specs.TurnSteps.{Places, turn_state}
use Rattle.modem_driver.specs.TurningAway.{TurnsOn, RefusesOne, PassesAway, PassSays, line_lost, moves}
use Rattle.modem_core.specs.WaitingLists.{WaitingLists}
use Rattle.modem_driver.proofs.sessions.steps.DeskOffers.{places}

-- ## One pass

-- a session that keeps what waits, and nothing else
abbrev keeping : WaitingLists → Machine
keeping w = record (new_machine 31 []) { unplaced = w.outcomes; unannounced = w.lines }

or_both : (a b c : Bool) → ((a || b) || c) ≡ (a || (b || c))
or_both true b c = refl
or_both false b c = refl

-- a request was refused, and then what waited was offered
pub passes : (b d m e : DriverView) (first w : WaitingLists) (ps : List Outcome) (vs : List Urc) (took told announced : Bool) (says : Turn) → RefusesOne first w b d took
    → Placed caller_of IsRingOf (IsCaller d.desk) (caller_rings d) (caller_rings m) w.outcomes ps told → TellsAlone d m
    → Placed place_of (IsListenerOf m.desk.kinds) (IsHeard m.desk.kinds) (listener_rings m) (listener_rings e) w.lines vs announced → AnnouncesAlone m e
    → PassSays (record { unplaced = ps; unannounced = vs }) ((took || told) || announced) says
    → PassesAway (record { unplaced = first.outcomes; unannounced = first.lines }) (record { unplaced = ps; unannounced = vs }) b e says
passes b d m e first w ps vs took told announced says r p t q a says_so =
    let h : Places (turn_state unused_line d (keeping w)) (turn_state unused_line e (record (keeping w) { unplaced = ps; unannounced = vs })) (told || announced)
    = places d m e (keeping w) ps vs told announced p t q a unused_line in
    let desk : e.desk ≡ b.desk = h.desk_stays ∙ ap (λ (x : DriverView). x.desk) r.stays in
    let same : d.desk ≡ b.desk = ap (λ (x : DriverView). x.desk) r.stays in
    let moved : ((took || told) || announced) ≡ moves b e r.taken
    = or_both took told announced
    ∙ (ap (λ (x : Bool). x || (told || announced)) r.took_is
    ∙ (ap (λ (x : Bool). nat_lt 0 (length r.taken) || x) h.moved_is
    ∙ ap (λ (x : DriverView). nat_lt 0 (length r.taken) || (nat_lt (amount x.told) (amount e.told) || nat_lt (amount x.announced) (amount e.announced))) r.stays)) in
    record {
      taken = r.taken;
      turns = record {
        taken_are = h.taken_stays ∙ ap (λ (x : DriverView). x.taken) r.stays;
        callers = r.callers;
        outcomes = λ c.
            let g = h.each_told c in
            record {
              given = g.given;
              given_are = g.given_are ∙ ap (λ (x : DriverView). at_place c x.told ++ g.given) r.stays;
              rest_are = g.rest_are ∙ ap (caller_outcomes c) r.outcomes;
            };
        lines = λ i k at.
            let g = h.each_announced i k (ap (λ (x : DeskId). get_elem? x.kinds i) same ∙ at) in
            record {
              given = g.given;
              given_are = g.given_are ∙ ap (λ (x : DriverView). at_place i x.announced ++ g.given) r.stays;
              rest_are = g.rest_are ∙ ap (of_kind k) r.lines;
            };
        elsewhere = λ i o. h.elsewhere i (λ k at. o k (ap (λ (x : DeskId). get_elem? x.kinds i) (sym same) ∙ at)) ∙ ap (λ (x : DriverView). at_place i x.announced) r.stays;
        desk = desk;
      };
      few = r.few;
      found_none = h.found_stays ∙ ap (λ (x : DriverView). x.found_none) r.stays;
      rings_full = λ c lt wait. h.rings_full c (subst (λ (x : DeskId). c < length x.rings) (sym desk) lt) wait;
      lines_full = λ i k at wait. h.lines_full i k (ap (λ (x : DeskId). get_elem? x.kinds i) desk ∙ at) wait;
      told_back = λ c lt.
          h.told_counts c (subst (λ (x : DeskId). c < length x.rings) (sym same) lt)
          ∙ (ap (λ (os : List Outcome). counted (count_at c d.told_back) (length os)) (h.outcomes_back c) ∙ ap (λ (x : DriverView). counted (count_at c x.told_back) (length (take 1 (caller_outcomes c ps)))) r.stays);
      announced_back = λ i k at.
          h.announced_counts i k (ap (λ (x : DeskId). get_elem? x.kinds i) same ∙ at)
          ∙ (ap (λ (us : List Urc). counted (count_at i d.announced_back) (length us)) (h.lines_back k) ∙ ap (λ (x : DriverView). counted (count_at i x.announced_back) (length (take 1 (of_kind k vs)))) r.stays);
      answers = subst (λ (x : Bool). PassSays (record { unplaced = ps; unannounced = vs }) x says) moved says_so;
    }

-- ## Passes

-- a ring that was given some, and then some of the rest and of what came behind, was given some of it all
pub gives_on : {A : Type 0} (before mid now waited between waits later : List A) → GivesSome before mid waited between → GivesSome mid now (between ++ later) waits → GivesSome before now (waited ++ later) waits
gives_on before mid now waited between waits later g h = record {
  given = g.given ++ h.given;
  given_are = h.given_are ∙ (ap (λ xs. xs ++ h.given) g.given_are ∙ append_assoc before g.given h.given);
  rest_are = append_assoc g.given h.given waits ∙ (ap (λ xs. g.given ++ xs) h.rest_are ∙ (sym (append_assoc g.given between later) ∙ ap (λ xs. xs ++ later) g.rest_are));
}

-- the same where nothing came behind
pub gives_then : {A : Type 0} (before mid now waited between waits : List A) → GivesSome before mid waited between → GivesSome mid now between waits → GivesSome before now waited waits
gives_then before mid now waited between waits g h = record {
  given = g.given ++ h.given;
  given_are = h.given_are ∙ (ap (λ xs. xs ++ h.given) g.given_are ∙ append_assoc before g.given h.given);
  rest_are = append_assoc g.given h.given waits ∙ (ap (λ xs. g.given ++ xs) h.rest_are ∙ g.rest_are);
}

-- passes one after the other turn away all that each of them did
pub turns_on : TurnsOn
unfolding TurnsOn
turns_on old mid new before between after first second g h = record {
  taken_are = h.taken_are ∙ (ap (λ (qs : List Request). qs ++ second) g.taken_are ∙ append_assoc before.taken first second);
  callers =
      list_all-append (λ (q : Request). nat_lt q.caller (length before.desk.rings)) first second
      ∙ and_from (list_all (λ (q : Request). nat_lt q.caller (length before.desk.rings)) first) (list_all (λ (q : Request). nat_lt q.caller (length before.desk.rings)) second) g.callers
      (ap (λ (x : DeskId). list_all (λ (q : Request). nat_lt q.caller (length x.rings)) second) (sym g.desk) ∙ h.callers);
  outcomes = λ c.
      let own = λ (o : Outcome). o.caller == c in
      let lost = λ (qs : List Request). map line_lost qs in
      let all : caller_outcomes c ((old.unplaced ++ lost first) ++ lost second) ≡ caller_outcomes c (old.unplaced ++ lost (first ++ second))
      = ap (caller_outcomes c) (append_assoc old.unplaced (lost first) (lost second) ∙ ap (λ (os : List Outcome). old.unplaced ++ os) (sym (map-append line_lost first second))) in
      subst (λ (os : List Outcome). GivesSome (at_place c before.told) (at_place c after.told) os (caller_outcomes c new.unplaced)) (sym (filter-append own (old.unplaced ++ lost first) (lost second)) ∙ all)
      (gives_on (at_place c before.told) (at_place c between.told) (at_place c after.told) (caller_outcomes c (old.unplaced ++ lost first)) (caller_outcomes c mid.unplaced) (caller_outcomes c new.unplaced) (caller_outcomes c (lost second)) (g.outcomes c)
      (subst (λ (os : List Outcome). GivesSome (at_place c between.told) (at_place c after.told) os (caller_outcomes c new.unplaced)) (filter-append own mid.unplaced (lost second)) (h.outcomes c)));
  lines = λ i k at.
      gives_then (at_place i before.announced) (at_place i between.announced) (at_place i after.announced) (of_kind k old.unannounced) (of_kind k mid.unannounced) (of_kind k new.unannounced) (g.lines i k at)
      (h.lines i k (ap (λ (x : DeskId). get_elem? x.kinds i) g.desk ∙ at));
  elsewhere = λ i o. h.elsewhere i (λ k at. o k (ap (λ (x : DeskId). get_elem? x.kinds i) (sym g.desk) ∙ at)) ∙ g.elsewhere i o;
  desk = h.desk ∙ g.desk;
}
