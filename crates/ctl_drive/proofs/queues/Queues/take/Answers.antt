-- The first of a queue, or none.
use Rattle.std.specs.VecDeque.{deque_items}
use Rattle.std.proofs.Common.{rules, ◌∙◌}
use Rattle.ctl_drive.proofs.QueueTexts.{taken_of}
use Rattle.ctl_drive.proofs.queues.Queues.take.Goals as goal

pub returns : goal.returns
returns c =
    taken_of deque_items c.self.inside.lines c.args.self.now c.from.result c.args.dlci.number c.index-self-from.result _ c.pop_front.result c.self.view_is
    (c.from.ensures ∙ c.number.ensures.number) (search rules) c.index-self-from.is c.pop_front.ensures.items c.pop_front.ensures.rest
