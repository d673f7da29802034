-- Turns that end in a fault.
use Rattle.std.proofs.Common.{ap, sym, ◌∙◌, subst, arith}
use Rattle.std.proofs.lemmas.Bool.{and_from, and_parts}
use Rattle.std.proofs.lemmas.List.{append_assoc}
use Rattle.std.proofs.lemmas.List.Folds.{list_all-append}
use Rattle.std.specs.Prelude.{◌≡◌, ℕ, length, Bool, true, false, List, [], ◌∷◌, ◌++◌, map, refl, None}
use Rattle.std.specs.List.{list_all}
use Rattle.modem_desk.specs.declared.request.Outcome.{Outcome}
use Rattle.modem_desk.specs.declared.request.Request.{Request}
use Rattle.modem_desk.specs.declared.request.Urc.{Urc}
use Rattle.modem_history.specs.Acts.{Act, Took, Got, Sent, Told, Heard, Tick, Lost, Held, Freed, Given, after, in_hand}
use Rattle.modem_history.specs.Calls.{is_lost}
use Rattle.modem_history.specs.Sessions.{heard_as}
use Rattle.modem_history.specs.Turns.{Exchange, TurnFault, PlacesAlone, outcomes_told, lines_heard, may_act, may_fail}
use Rattle.modem_history.specs.EveryTurn.{GoesFault}
use Rattle.modem_history.proofs.calls.StatesAfterActs.{after_both}
use Rattle.modem_driver.specs.SessionStates.{Machine, MachineGoes, MachineLoses, end_of}
use Rattle.modem_driver.specs.TurnSteps.{TurnState, StandingFits, Leads, Places, view_of, inside}
use Rattle.modem_core.proofs.sessions.steps.CollectedActs.{told_both}
use Rattle.modem_core.proofs.sessions.steps.ListenedLines.{heard_both}
use Rattle.modem_driver.proofs.sessions.steps.LineLoss.{fail_all}
use Rattle.modem_driver.proofs.sessions.steps.OneFrame.{few_both}
use Rattle.modem_driver.proofs.sessions.meanings.WholeTurns.{Went, placed, went_placed, taken_still, offers_what_waits, offers_on, same_desk}

-- acts that a turn may have don't lose the line
pub none_loses : (us : List Urc) (acts past : List Act) → list_all (may_act us) acts ≡ true → is_lost past ≡ false → is_lost (after past acts) ≡ false
none_loses us [] past h live = live
none_loses us (a ∷ acts) past h live =
    let parts = and_parts (may_act us a) (list_all (may_act us) acts) h in
    none_loses us acts (a ∷ past) parts.1 (one_loses a parts.0)
  where
    one_loses : (a : Act) → may_act us a ≡ true → is_lost (a ∷ past) ≡ false
    one_loses Lost e = let x : false ≡ true = e in cc
    one_loses Tick e = live
    one_loses (Took r) e = live
    one_loses (Got f) e = live
    one_loses (Sent f) e = live
    one_loses (Told o) e = live
    one_loses (Heard k d line) e = live
    one_loses (Held d) e = live
    one_loses (Freed d) e = live
    one_loses Given e = live

-- there was no memory for a step of a turn
pub wants_memory : (s0 s : TurnState) (t : Exchange) (acts : List Act) → Went s0 s t 1 acts → s.machine.faulty ≡ false → s0.machine.core.lost ≡ false
    → GoesFault (view_of s0) (view_of s) (λ b. inside b s0) (λ b. inside b s) TurnFault.NoMemory
unfolding Leads
wants_memory s0 s t acts w sound live = record {
  acts = acts;
  exchange = t;
  goes = w.leads;
  offers = λ b past f. offers_what_waits b s0 s t past f w.offers;
  fault = λ b past f.
      let adds = w.adds b past f in
      record {
        exchanges = record {
          came = w.came;
          room = w.room;
          went = w.went;
          calls = w.calls;
          taken = w.taken;
          hands_back = w.hands_back;
          outcomes_wait = adds.outcomes;
          lines_wait = adds.lines;
          unfed = w.unfed;
          reads_fed = w.reads_fed;
          one_got = adds.few_got;
        };
        acts_may = fail_all t.still_heard acts adds.may;
        means = record {
          live = none_loses t.still_heard acts past adds.may (f.inside.fits.lost_is ∙ live);
          sound = (w.leads b past f).inside.sound sound;
        };
      };
}

-- the line is lost after so much of a turn
lost_there : (s0 s1 : TurnState) (new : Machine) (t : Exchange) (xs : List Act) → t.next ≡ None → Went s0 s1 t 1 xs → MachineLoses s1.machine new → s0.machine.core.lost ≡ false
    → GoesFault (view_of s0) (view_of (record s1 { machine = new })) (λ b. inside b s0) (λ b. inside b (record s1 { machine = new })) TurnFault.LineFailed
unfolding Leads MachineGoes
lost_there s0 s1 new t xs none w k live =
    let still = taken_still s0 s1 t 1 xs none w in
    let unfed : length new.unfed ≡ length s1.machine.unfed = ap (λ (v : Machine). length v.unfed) k.stays in
    record {
      acts = xs ++ k.acts;
      exchange = t;
      offers = λ b past f. offers_what_waits b s0 (record s1 { machine = new }) t past f (offers_on s0 s1 (record s1 { machine = new }) t w.offers (same_desk s1.driver s1.driver refl));
      goes = λ b past f.
          subst (StandingFits b (record s1 { machine = new })) (sym (after_both xs k.acts past)) (k.goes b s1.line s1.driver (after past xs) (w.leads b past f));
      fault = λ b past f.
          let at : StandingFits b s1 (after past xs) = w.leads b past f in
          let first = w.adds b past f in
          let more = k.adds b s1.line s1.driver (after past xs) at in
          let lost = k.loses b s1.line s1.driver (after past xs) at in
          let both = after_both xs k.acts past in
          record {
            exchanges = record {
              came = w.came;
              room = w.room;
              went = w.went;
              calls = w.calls;
              taken = w.taken;
              hands_back = w.hands_back;
              outcomes_wait =
                  more.outcomes
                  ∙ (ap (λ (os : List Outcome). os ++ outcomes_told k.acts) first.outcomes
                  ∙ (append_assoc t.still_told (outcomes_told xs) (outcomes_told k.acts)
                  ∙ ap (λ (os : List Outcome). t.still_told ++ os) (sym (told_both xs k.acts))));
              lines_wait =
                  more.lines
                  ∙ (ap (λ (hs : List Act). hs ++ lines_heard k.acts) first.lines
                  ∙ (append_assoc (map heard_as t.still_heard) (lines_heard xs) (lines_heard k.acts)
                  ∙ ap (λ (hs : List Act). map heard_as t.still_heard ++ hs) (sym (heard_both xs k.acts))));
              unfed = let before = w.unfed in omega (arith, before, unfed);
              reads_fed = w.reads_fed;
              one_got = few_both xs k.acts 1 0 first.few_got (let none = ap length more.none_got in omega arith);
            };
            acts_may =
                list_all-append (may_fail t.still_heard) xs k.acts
                ∙ and_from (list_all (may_fail t.still_heard) xs) (list_all (may_fail t.still_heard) k.acts) (fail_all t.still_heard xs first.may) (more.may t.still_heard);
            means = record {
              live = f.inside.fits.lost_is ∙ live;
              gone = ap is_lost both ∙ lost.gone;
              by_fault = lost.by_fault;
              none_taken = still;
              before = xs ++ lost.before;
              told = lost.told;
              acts_are = ap (λ (ys : List Act). xs ++ ys) lost.acts_are ∙ sym (append_assoc xs lost.before (Lost ∷ map Told lost.told));
              none_in_hand = ap in_hand both ∙ lost.none_in_hand;
            };
          };
    }

-- so the turn ends in LineFailed
pub loses_line : (s0 s1 s2 : TurnState) (t : Exchange) (xs : List Act) → t.next ≡ None → Went s0 s1 t 1 xs → s2 ≡ record s1 { machine = s2.machine } → MachineLoses s1.machine s2.machine → s0.machine.core.lost ≡ false
    → GoesFault (view_of s0) (view_of s2) (λ b. inside b s0) (λ b. inside b s2) TurnFault.LineFailed
loses_line s0 s1 s2 t xs none w same k live =
    subst (λ (s : TurnState). GoesFault (view_of s0) (view_of s) (λ b. inside b s0) (λ b. inside b s) TurnFault.LineFailed) (sym same) (lost_there s0 s1 s2.machine t xs none w k live)

-- what waits was placed, and nothing else is done
pub places_alone : (s0 s1 : TurnState) (moved : Bool) → Places s0 s1 moved → PlacesAlone (view_of s0) (view_of s1) []
places_alone s0 s1 moved p = record {
  no_acts = refl;
  stays =
      ap view_of p.stays
      ∙ (ap (λ (qs : List Request). record (view_of s0) { desk = record (end_of s1.driver) { taken = qs }; unplaced = s1.machine.unplaced; unannounced = s1.machine.unannounced }) p.taken_stays
      ∙ ap (λ (n : ℕ). record (view_of s0) { desk = record (end_of s1.driver) { taken = s0.driver.taken; found_none = n }; unplaced = s1.machine.unplaced; unannounced = s1.machine.unannounced }) p.found_stays);
}

-- the line was lost before
pub has_failed : (s0 s1 : TurnState) (moved : Bool) → Places s0 s1 moved → s0.machine.core.lost ≡ true
    → GoesFault (view_of s0) (view_of s1) (λ b. inside b s0) (λ b. inside b s1) TurnFault.Failed
unfolding Leads
has_failed s0 s1 moved p lost =
    let w = went_placed s0 s1 moved p in
    record {
      acts = [];
      exchange = placed p;
      goes = w.leads;
      offers = λ b past f. offers_what_waits b s0 s1 (placed p) past f w.offers;
      fault = λ b past f.
          let adds = w.adds b past f in
          record {
            exchanges = record {
              came = w.came;
              room = w.room;
              went = w.went;
              calls = w.calls;
              taken = w.taken;
              hands_back = w.hands_back;
              outcomes_wait = adds.outcomes;
              lines_wait = adds.lines;
              unfed = w.unfed;
              reads_fed = w.reads_fed;
              one_got = omega arith;
            };
            acts_may = refl;
            means = record { gone = f.inside.fits.lost_is ∙ lost; places = places_alone s0 s1 moved p };
          };
    }
