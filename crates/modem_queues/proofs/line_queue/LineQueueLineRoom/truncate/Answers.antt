-- What is announced by the first is the first that is announced.
use Rattle.std.proofs.Common.{◌∙◌, ap, sym}
use Rattle.std.proofs.lemmas.List.{take-map}
use Rattle.std.specs.Prelude.{map}
use Rattle.modem_history.specs.Sessions.{heard_as}
use Rattle.modem_queues.proofs.line_queue.LineQueueLineRoom.truncate.Goals as goal

pub returns : goal.returns
returns c = ap (map heard_as) c.keep_first.ensures ∙ sym (take-map heard_as c.args.count c.args.self.now.items)
