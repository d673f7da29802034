-- A queue has one more.
use Rattle.std.specs.VecDeque.{deque_items}
use Rattle.std.proofs.Common.{rules, ◌∙◌}
use Rattle.ctl_drive.proofs.QueueTexts.{pushed_of}
use Rattle.ctl_drive.proofs.queues.Queues.push.Goals as goal

pub returns : goal.returns
returns c =
    pushed_of deque_items c.self.inside.lines c.args.self.now c.from.result c.args.dlci.number c.index-self-from.result _ c.args.line c.self.view_is
    (c.from.ensures ∙ c.number.ensures.number) (search rules) c.index-self-from.is c.in_ok-push_back.ensures.items
