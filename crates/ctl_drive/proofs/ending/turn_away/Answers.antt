-- A pass more.
use Rattle.std.proofs.Common.{◌∙◌}
use Rattle.ctl_drive.proofs.Ends.{turns_more}
use Rattle.ctl_drive.proofs.Lines.{goes_then}
use Rattle.ctl_drive.proofs.ending.turn_away.Goals as goal

pub returns-in_err-shown-clause-same : goal.returns-in_err-shown-clause-same
returns-in_err-shown-clause-same g c = c.show.ensures.same ∙ c.loop.invariant.same

pub returns-then-is_empty-clause-turns : goal.returns-then-is_empty-clause-turns
returns-then-is_empty-clause-turns g c = turns_more _ _ _ _ _ _ c.turn_away-said.result c.loop.invariant.turns c.turn_away-said.ensures

pub returns-then-is_empty-clause-goes : goal.returns-then-is_empty-clause-goes
returns-then-is_empty-clause-goes g c = goes_then _ _ _ _ _ _ c.loop.invariant.goes c.in_ok-shown.ensures.goes

pub returns-then-is_empty-clause-same : goal.returns-then-is_empty-clause-same
returns-then-is_empty-clause-same g c = c.show.ensures.same ∙ c.loop.invariant.same

pub returns-then-is_empty-clause-submits_none : goal.returns-then-is_empty-clause-submits_none
returns-then-is_empty-clause-submits_none g c = c.in_ok-shown.ensures.submits_none ∙ c.loop.invariant.submits_none

pub loop-preserved : goal.loop-preserved
loop-preserved g c = record {
  turns = turns_more _ _ _ _ _ _ c.turn_away-said.result c.loop.invariant.turns c.turn_away-said.ensures;
  goes = goes_then _ _ _ _ _ _ c.loop.invariant.goes c.in_ok-shown.ensures.goes;
  same = c.show.ensures.same ∙ c.loop.invariant.same;
  submits_none = c.in_ok-shown.ensures.submits_none ∙ c.loop.invariant.submits_none;
}
