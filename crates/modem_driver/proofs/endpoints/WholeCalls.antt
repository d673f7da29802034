-- Steps of what is kept, said of the endpoint.
use Rattle.std.proofs.Common.{ap, sym, ◌∙◌, subst}
use Rattle.std.proofs.lemmas.Bool.{and_from}
use Rattle.std.proofs.lemmas.List.Folds.{list_all-append}
use Rattle.std.specs.Prelude.{◌≡◌, ℕ, Bool, true, false, List, ◌++◌, Option, is_some}
use Rattle.std.specs.List.{list_all}
use Rattle.modem_desk.specs.declared.request.Urc.{Urc}
use Rattle.modem_desk.specs.Ends.{DriverView}
use Rattle.modem_history.specs.Acts.{Act, after}
use Rattle.modem_history.specs.Sessions.{Beginning, LineView}
use Rattle.modem_history.specs.Turns.{HoldsWhereRoom, may_act}
use Rattle.modem_history.proofs.calls.StatesAfterActs.{after_both}
use Rattle.modem_driver.specs.EndpointSteps.{GivesOut, HandLacksRoom, HandlesFrames, MachineIsDrained, Passes, TakesFrom, with_received, with_sent}
use Rattle.modem_driver.specs.Endpoints.{GivesOctets, HandlesAll, HandlesAlone, HoldsNothingBack, LeadsOver, TakesOctets}
use Rattle.modem_driver.specs.SessionStates.{Machine}
use Rattle.modem_driver.specs.TurnSteps.{TurnState, StandingFits, AddsAll, Checks, Leads, turn_state, view_of}
use Rattle.modem_driver.specs.declared.endpoint.Blocked.{Blocked}
use Rattle.modem_driver.proofs.sessions.meanings.TurnFaults.{none_loses}
use Rattle.modem_driver.proofs.sessions.meanings.WholeTurns.{leads_on}

-- where the desk's end and the next number stay
pub leads_over : (l m : LineView) (d : DriverView) (k0 k1 : Machine) (next : ℕ) (acts : List Act) → Leads (turn_state l d k0) (turn_state m d k1) acts
    → LeadsOver l m d d (record { machine = k0; next = next }) (record { machine = k1; next = next }) acts
unfolding Leads LeadsOver
leads_over l m d k0 k1 next acts leads b past f = record { stands = leads b past f.stands; numbers = f.numbers }

-- ## Frames at hand

-- some were handled, and nothing else changed
pub handled_alone : (k0 k1 : Machine) (next : ℕ) → HandlesFrames k0 k1 → (l : LineView) (d : DriverView)
    → HandlesAlone l d (record { machine = k0; next = next }) (record { machine = k1; next = next })
unfolding HandlesFrames
handled_alone k0 k1 next handles l d =
    let h = handles l d in
    record {
      acts = h.acts;
      leads = leads_over l l d k0 k1 next h.acts h.leads;
      may = λ b past f waiting. h.may waiting b past f.stands;
    }

-- all were, but for one that lacks room
pub handled_all : (k0 k1 : Machine) (next : ℕ) → HandlesFrames k0 k1 → HandLacksRoom k1 → (l : LineView) (d : DriverView)
    → HandlesAll l d (record { machine = k0; next = next }) (record { machine = k1; next = next })
handled_all k0 k1 next handles lacks l d = record { alone = handled_alone k0 k1 next handles l d; lacks = lacks }

-- ## Octets for the line

-- octets that went out
pub gives_octets : (k0 k1 : Machine) (next : ℕ) (octets : List ℕ) → GivesOut k0 k1 octets → (l : LineView) (d : DriverView)
    → GivesOctets l d (record { machine = k0; next = next }) (record { machine = k1; next = next }) octets
unfolding GivesOut
gives_octets k0 k1 next octets gives l d =
    let g = gives l d in
    record {
      acts = g.acts;
      leads = leads_over l (with_sent l octets) d k0 k1 next g.acts g.leads;
      are_out = λ b past f. g.are_out b past f.stands;
    }

-- nothing waits for the line
pub holds_nothing : (k : Machine) (next : ℕ) → MachineIsDrained k → HoldsNothingBack (record { machine = k; next = next })
unfolding MachineIsDrained HoldsNothingBack
holds_nothing k next drained = drained

-- ## Octets that come

-- where it is blocked, no backlog was looked at
pub takes_blocked : (k0 k1 : Machine) (next : ℕ) (octets : List ℕ) (why : Option Blocked) → TakesFrom k0 k1 octets → is_some why ≡ true → (l : LineView) (d : DriverView)
    → TakesOctets l d (record { machine = k0; next = next }) (record { machine = k1; next = next }) octets why
unfolding TakesFrom
takes_blocked k0 k1 next octets why takes some l d =
    let t = takes l d in
    record {
      acts = t.acts;
      leads = leads_over l (with_received l octets) d k0 k1 next t.acts t.leads;
      may = λ b past f. t.may k1.unannounced b past f.stands;
      held = λ b past f live none. absurd (apart (sym some ∙ ap is_some none));
    }
  where
    apart : true ≡ false → ⊥
    apart e = cc

-- what looking at the backlogs adds
record Checked (l : LineView) (d : DriverView) (k0 k1 k2 : Machine) (acts : List Act) : Type 0 where
  leads : Leads (turn_state l d k1) (turn_state l d k2) acts
  may : (b : Beginning) (past : List Act) → StandingFits b (turn_state l d k1) past → list_all (may_act k1.unannounced) acts ≡ true
  stays : k2.unannounced ≡ k1.unannounced

checked_may : (l : LineView) (d : DriverView) (k0 k1 k2 : Machine) (octets : List ℕ) (acts : List Act) → (t : Passes (turn_state l d k0) (turn_state (with_received l octets) d k1)) → Checked (with_received l octets) d k0 k1 k2 acts
    → (b : Beginning) (past : List Act) → StandingFits b (turn_state l d k0) past → list_all (may_act k2.unannounced) (t.acts ++ acts) ≡ true
unfolding Leads
checked_may l d k0 k1 k2 octets acts t c b past f =
    subst (λ (us : List Urc). list_all (may_act us) (t.acts ++ acts) ≡ true) (sym c.stays)
    (list_all-append (may_act k1.unannounced) t.acts acts
    ∙ and_from (list_all (may_act k1.unannounced) t.acts) (list_all (may_act k1.unannounced) acts) (t.may k1.unannounced b past f) (c.may b (after past t.acts) (t.leads b past f)))

-- where the backlogs were looked at
pub takes_octets : (k0 k1 k2 : Machine) (next : ℕ) (octets : List ℕ) (moved : Bool) (why : Option Blocked) → TakesFrom k0 k1 octets → ((l : LineView) (d : DriverView) → Checks (turn_state l d k1) (turn_state l d k2) moved) → (l : LineView) (d : DriverView)
    → TakesOctets l d (record { machine = k0; next = next }) (record { machine = k2; next = next }) octets why
unfolding TakesFrom AddsAll Leads
takes_octets k0 k1 k2 next octets moved why takes checks l d =
    let m = with_received l octets in
    let t = takes l d in
    let c = checks m d in
    let all = leads_on (turn_state l d k0) (turn_state m d k1) (turn_state m d k2) t.acts c.acts t.leads c.leads in
    let checked : Checked m d k0 k1 k2 c.acts = record { leads = c.leads; may = λ b past f. (c.adds b past f).may; stays = ap (λ (s : TurnState). s.machine.unannounced) c.stays } in
    record {
      acts = t.acts ++ c.acts;
      leads = leads_over l m d k0 k2 next (t.acts ++ c.acts) all;
      may = λ b past f. checked_may l d k0 k1 k2 octets c.acts t checked b past f.stands;
      held = λ b past f live none.
          let g = t.leads b past f.stands in
          let still = none_loses k1.unannounced t.acts past (t.may k1.unannounced b past f.stands) live in
          subst (λ (p : List Act). HoldsWhereRoom b (view_of (turn_state m d k2)) p) (sym (after_both t.acts c.acts past)) (c.looked b (after past t.acts) g still);
    }
