-- The four things that are said of a file.
use Rattle.file_threads.proofs.FileEnds.{said_file}
use Rattle.file_threads.proofs.saying.say_file.Goals as goal

pub returns : goal.returns
returns g c = said_file c.args.line.now.line.relay.pipes _ _ _ _ _ c.args.file.now _ _ c.ungiven.result c.unsent.result c.saturating_add.result c.dropped.result _ _ _ c.has_ended.ensures c.is_broken.ensures c.ungiven.ensures c.unsent.ensures c.saturating_add.ensures c.dropped.ensures c.saturating_add-2.ensures c.unwritten.ensures c.dlci-dlci.ensures
    c.say_if.ensures c.say_if-2.ensures c.say_count.ensures c.say_count-2.ensures
