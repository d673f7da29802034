use Rattle.std.proofs.Common.{sym, ◌∙◌}
use Rattle.ctl_run.proofs.inputs.Dumps.{word_more}
use Rattle.ctl_run.proofs.dump.push_pairs.Goals as goal

pub loop-left-preserved : goal.loop-left-preserved
loop-left-preserved c =
    sym (word_more c.loop-left.octets.items c.in_ok-pairs.pairs.items c.loop-left.left.now c.next_word.result.0.now c.next_word.result.1.now c.extend_from_slice.new.self.items
    c.next_word.ensures.cut c.in_ok-pairs.ensures (rw c.as_slice.ensures.value at c.in_ok-extend_from_slice.ensures.items))
    ∙ c.loop-left.invariant
