-- Calls on other matters keep what is held.
use Rattle.std.specs.Prelude.{◌≡◌, ℕ, ◌&&◌, Bool, true, false, List, [], ◌∷◌, refl}
use Rattle.std.proofs.Common.{ap, sym, ◌∙◌, subst}
use Rattle.mux_station.specs.declared.role.Role.{Role}
use Rattle.mux_station.specs.declared.role.Role.TheVariants.{Initiator}
use Rattle.mux_station.specs.Opening.{is_open}
use Rattle.mux_station.proofs.states.OpeningSteps.{is_open_after}
use Rattle.modem_desk.specs.declared.request.Request.{Request}
use Rattle.mux_station.specs.Acts as station
use Rattle.modem_history.specs.Acts.{Act, Took, Tick, Lost, after, wire}
use Rattle.modem_history.specs.Information.{opens_here}
use Rattle.modem_history.specs.Calls.{Setting}
use Rattle.modem_core.specs.Lanes.{Lane}
use Rattle.modem_core.specs.Cores.{Core, Handles, lane_at}
use Rattle.modem_history.specs.Holding.{last_held}
use Rattle.modem_core.specs.Holding.{HoldsFit, KeepsHeld}
use Rattle.modem_history.proofs.calls.CallEnds.{ended}
use Rattle.modem_history.proofs.requests.CommandsInStep.{open_first}
use Rattle.modem_core.proofs.cores.UnchangedParts.{opens_tick, tick_was}
use Rattle.modem_core.proofs.holds.HeldAndFreed.{call_held, if_not}

-- an act that holds nothing and frees nothing, and after whose call no other connection is open
record Keeps (a : Act) : Type 0 where
  lasts : (d : ℕ) (past : List Act) → last_held Initiator d (a ∷ past) ≡ last_held Initiator d past
  was_open : (s : Setting) (d : ℕ) (past : List Act) → s.role ≡ Initiator → is_open Initiator d (wire (ended s past a)) ≡ true → is_open Initiator d (wire past) ≡ true

keeps_by : (old new : Core) (a : Act) (acts : List Act) → Keeps a → new.lanes ≡ old.lanes → Handles old new a acts → KeepsHeld old new a acts
unfolding Handles KeepsHeld
keeps_by old new a acts k n h s past m f =
    let g = h s past m in
    let there : HoldsFit new (ended s past a) = record {
      held_are = λ d b z o.
          call_held s past a Initiator d ∙ (k.lasts d past ∙ (f.held_are d b z (k.was_open s d past m.setting.role_is o) ∙ ap (λ (ls : List Lane). (lane_at (record old { lanes = ls }) d).held) (sym n)));
    } in
    subst (λ (x : List Act). HoldsFit new (after past x)) (sym g.called) there

first_open : (s : Setting) (d : ℕ) (past : List Act) (a : Act) → s.role ≡ Initiator → is_open Initiator d (wire (ended s past a)) ≡ true → is_open Initiator d (wire (a ∷ past)) ≡ true
first_open s d past a r o =
    subst (λ (x : Role). is_open x d (wire (a ∷ past)) ≡ true) r (open_first s d past a (ap (λ (x : Role). is_open x d (wire (ended s past a))) r ∙ o))

took_keeps : (q : Request) → Keeps (Took q)
took_keeps q = record { lasts = λ d past. refl; was_open = λ s d past r o. first_open s d past (Took q) r o }

tick_keeps : Keeps Tick
tick_keeps = record {
  lasts = λ d past. if_not (opens_here Initiator d past Tick) (last_held Initiator d past) (opens_tick Initiator d (wire past));
  was_open = λ s d past r o. tick_was Initiator d (wire past) (first_open s d past Tick r o);
}

-- a request that leaves the lanes as they are keeps what is held
pub keeps_sent : (old new : Core) (q : Request) (acts : List Act) → new.lanes ≡ old.lanes → Handles old new (Took q) acts → KeepsHeld old new (Took q) acts
keeps_sent old new q acts n h = keeps_by old new (Took q) acts (took_keeps q) n h

-- so does a tick
pub keeps_tick : (old new : Core) (acts : List Act) → new.lanes ≡ old.lanes → Handles old new Tick acts → KeepsHeld old new Tick acts
keeps_tick old new acts n h = keeps_by old new Tick acts tick_keeps n h

lost_shut : (d : ℕ) (past : List Act) → is_open Initiator d (wire (Lost ∷ past)) ≡ false
lost_shut d past = is_open_after Initiator d (wire past) station.Lost ∙ none (is_open Initiator d (wire past))
  where
    none : (b : Bool) → (b && false) ≡ false
    none true = refl
    none false = refl

-- after a loss none is open
pub keeps_lost : (old new : Core) (acts : List Act) → Handles old new Lost acts → KeepsHeld old new Lost acts
unfolding Handles KeepsHeld
keeps_lost old new acts h s past m f =
    let g = h s past m in
    let there : HoldsFit new (ended s past Lost) = record {
      held_are = λ d b z o. absurd (let x : true ≡ false = sym (first_open s d past Lost m.setting.role_is o) ∙ lost_shut d past in cc);
    } in
    subst (λ (x : List Act). HoldsFit new (after past x)) (sym g.called) there

-- before any act no connection is open, so nothing is held
pub nothing_held : (v : Core) → HoldsFit v []
nothing_held v = record { held_are = λ d b z o. absurd (let x : false ≡ true = o in cc) }
