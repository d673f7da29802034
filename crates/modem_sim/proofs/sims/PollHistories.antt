-- The turns of a poll, through each history of the state before them.
use Rattle.std.specs.Prelude.{ℕ, List, [], Option, Result, Ok, refl}
use Rattle.serial_line.specs.LineViews.{LineView}
use Rattle.modem_sim.specs.declared.error.SimError.{SimError}
use Rattle.modem_sim.specs.declared.sim.SimTurn.{SimTurn}
use Rattle.modem_sim.specs.declared.sim.SimTurn.TheVariants.{Moved, Idle, Ended}
use Rattle.modem_sim.specs.Acts.{Act, End}
use Rattle.modem_sim.specs.Cores.{IsLater}
use Rattle.modem_sim.specs.Sims.{FitsSim, SimState}
use Rattle.modem_sim.specs.Polls.{MovesOn, MovesThrough, Runs, RunsInHistories, Turned, TurnsTo, ends, ends_through, fails, fails_through, goes_on, goes_on_through, moves_none, moves_once, moves_through, moves_through_none, rests, rests_through}
use Rattle.modem_sim.proofs.ends.OfferedPieces.{later_then}

-- so many turns went on to a past
record MovedTo {X : Type 0} (see : X → LineView) (at : LineView) (e : End) (old : SimState X) (past : List Act) (n : ℕ) (new : SimState X) : Type 0 where
  now : List Act
  later : IsLater past now
  fits : FitsSim see at e new now
  moves : MovesThrough see at e old past n new now

-- one more did
record TurnedTo {X : Type 0} (see : X → LineView) (at : LineView) (e : End) (past : List Act) (old new : SimState X) (says : SimTurn) : Type 0 where
  now : List Act
  later : IsLater past now
  fits : FitsSim see at e new now
  turns : TurnsTo see at e past now old new says

module _ {X : Type 0} (see : X → LineView) (at : LineView) (e : End) (past : List Act) where
  turned_to : (between : List Act) (mid new : SimState X) (says : SimTurn) → Turned see mid new (Ok says) → FitsSim see at e mid between → TurnedTo see at e between mid new says
  turned_to between mid new says turned fits =
      let from = turned.turn.turn at e between fits in
      record { now = from.now; later = from.later; fits = from.fits; turns = record { turned = turned; from = from; now_is = refl } }

  moved_to : (old new : SimState X) (n : ℕ) → MovesOn see old n new → FitsSim see at e old past → MovedTo see at e old past n new
  moved_to old _ _ moves_none fits = record { now = past; later = record { newer = []; joins = refl }; fits = fits; moves = moves_through_none }
  moved_to old _ _ (moves_once n mid new moves turn) fits =
      let before = moved_to old mid n moves fits in
      let one = turned_to before.now mid new Moved turn before.fits in
      record {
        now = one.now;
        later = later_then past before.now one.now before.later one.later;
        fits = one.fits;
        moves = moves_through n mid new before.now one.now before.moves one.turns;
      }

-- whatever past a simulated modem fitted, the turns of a poll go on from it, each true of its part
pub runs_in_histories : {X : Type 0} (see : X → LineView) (old new : SimState X) (given : Option (Result SimTurn SimError)) → Runs see old new given → RunsInHistories see old new given
runs_in_histories see old new _ (goes_on moves) at e past fits =
    let all = moved_to see at e past old new 64 moves fits in
    record { now = all.now; later = all.later; fits = all.fits; runs = goes_on_through all.moves }
runs_in_histories see old new _ (rests n mid few moves turn) at e past fits =
    let before = moved_to see at e past old mid n moves fits in
    let one = turned_to see at e past before.now mid new Idle turn before.fits in
    record { now = one.now; later = later_then past before.now one.now before.later one.later; fits = one.fits; runs = rests_through n mid before.now few before.moves one.turns }
runs_in_histories see old new _ (ends n mid few moves turn) at e past fits =
    let before = moved_to see at e past old mid n moves fits in
    let one = turned_to see at e past before.now mid new Ended turn before.fits in
    record { now = one.now; later = later_then past before.now one.now before.later one.later; fits = one.fits; runs = ends_through n mid before.now few before.moves one.turns }
runs_in_histories see old new _ (fails n mid why few moves turn) at e past fits =
    let before = moved_to see at e past old mid n moves fits in
    let from = turn.goes at e before.now before.fits in
    record {
      now = from.now;
      later = later_then past before.now from.now before.later from.later;
      fits = from.fits;
      runs = fails_through n mid before.now why few before.moves (record { turned = turn; later = from.later; fits = from.fits });
    }
