-- The next listener was asked.
use Rattle.std.proofs.Common.{◌∙◌}
use Rattle.ctl_drive.proofs.Lines.{goes_then}
use Rattle.ctl_drive.proofs.Looking.{through_more}
use Rattle.ctl_drive.proofs.users.Users.show_lines.Goals as goal

pub loop-place-preserved : goal.loop-place-preserved
loop-place-preserved g c = record {
  on = goes_then _ _ _ _ _ _ c.loop-place.invariant.on c.in_ok-any.ensures.goes;
  many = c.in_ok-any.ensures.as_many ∙ c.loop-place.invariant.many;
  few = c.loop-place.invariant.few;
  same = c.in_ok-any.ensures.submits_none ∙ c.loop-place.invariant.same;
  looks = through_more _ _ _ _ _ _ c.loop-place.invariant.looks c.in_ok-any.ensures.looks;
}
