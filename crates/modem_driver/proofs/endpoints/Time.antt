-- A tick passes, and the line is lost.
use Rattle.std.proofs.Common.{ap, ◌∙◌}
use Rattle.std.specs.Prelude.{◌≡◌, ℕ, true, List, [], refl}
use Rattle.modem_desk.specs.Ends.{DriverView}
use Rattle.modem_history.specs.Acts.{Act}
use Rattle.modem_history.specs.Sessions.{LineView}
use Rattle.modem_driver.specs.EndpointSteps.{HandLacksRoom, HandlesFrames}
use Rattle.modem_driver.specs.Endpoints.{Loses, Ticks, with_failure}
use Rattle.modem_driver.specs.SessionStates.{Machine, MachineGoes, MachineLoses, MachineMoves, MachineTicks}
use Rattle.modem_driver.specs.TurnSteps.{Leads, turn_state}
use Rattle.modem_driver.proofs.endpoints.WholeCalls.{handled_all, leads_over}
use Rattle.modem_driver.proofs.sessions.steps.LineOctets.{fault_goes}
use Rattle.modem_driver.proofs.sessions.meanings.WholeTurns.{leads_on}

leads_by : (old new : Machine) (acts : List Act) → MachineGoes old new acts → (l : LineView) (d : DriverView) → Leads (turn_state l d old) (turn_state l d new) acts
unfolding Leads MachineGoes
leads_by old new acts goes l d b past f = goes b l d past f

-- frames at hand are handled, and then a tick passes
pub ticks : (k0 k1 k2 : Machine) (next : ℕ) → HandlesFrames k0 k1 → HandLacksRoom k1 → MachineTicks k1 k2 → (l : LineView) (d : DriverView) → Ticks l d (record { machine = k0; next = next }) (record { machine = k2; next = next })
ticks k0 k1 k2 next handles lacks tick l d = record {
  between = record { machine = k1; next = next };
  frames = handled_all k0 k1 next handles lacks l d;
  acts = tick.acts;
  leads = leads_over l l d k1 k2 next tick.acts (leads_by k1 k2 tick.acts tick.goes l d);
  tick = λ b past f.
      let t = tick.tick b l d past f.stands in
      record { live = t.live; more = t.more; acts_are = t.acts_are; follow = t.follow };
}

-- a call has failed
fails : (k : Machine) (l : LineView) (d : DriverView) → Leads (turn_state l d k) (turn_state (with_failure l) d (record k { faulty = true })) []
unfolding Leads MachineMoves
fails k l d b past f = fault_goes l (with_failure l) k refl refl refl b d past f

-- frames at hand are handled, a call fails, and the line is lost
pub loses_after_frames : (k0 k1 k2 : Machine) (next : ℕ) → HandlesFrames k0 k1 → HandLacksRoom k1 → MachineLoses (record k1 { faulty = true }) k2 → (l : LineView) (d : DriverView) → Loses l d (record { machine = k0; next = next }) (record { machine = k2; next = next })
unfolding Leads
loses_after_frames k0 k1 k2 next handles lacks loss l d =
    let m = with_failure l in
    let faulty : Machine = record k1 { faulty = true } in
    record {
      between = record { machine = k1; next = next };
      frames = handled_all k0 k1 next handles lacks l d;
      acts = loss.acts;
      leads = leads_over l m d k1 k2 next loss.acts (leads_on (turn_state l d k1) (turn_state m d faulty) (turn_state m d k2) [] loss.acts (fails k1 l d) (leads_by faulty k2 loss.acts loss.goes m d));
      loss = λ b past f.
          let g = fails k1 l d b past f.stands in
          let t = loss.loses b m d past g in
          let a = loss.adds b m d past g in
          record { live = t.live; gone = t.gone; before = t.before; told = t.told; acts_are = t.acts_are; may = a.may; none_got = a.none_got; none_in_hand = t.none_in_hand };
    }

-- the octets are all fed
pub fed_lost : (k1 k2 : Machine) → MachineLoses (record k1 { faulty = true }) k2 → k1.unfed ≡ [] → k2.unfed ≡ []
fed_lost k1 k2 loss fed = ap (λ (k : Machine). k.unfed) loss.stays ∙ fed
