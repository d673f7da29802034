-- None are left, or some are.
use Rattle.std.proofs.Common.{rules, ◌≡◌, ◌==◌, true, false}
use Rattle.file_threads.proofs.FileEnds.{count_none, count_some}
use Rattle.file_threads.proofs.saying.say_count.Goals as goal

pub returns-then-count-eq0 : goal.returns-then-count-eq0
returns-then-count-eq0 g c =
    let none : (c.args.count == 0) ≡ true = search rules in
    count_none _ c.args.dlci.number c.args.count c.args.words.now none

pub returns : goal.returns
returns g c =
    let some : (c.args.count == 0) ≡ false = search rules in
    count_some _ _ _ c.args.dlci.number c.args.count c.args.words.now some c.say_of.ensures c.say_octets.ensures
