use Rattle.std.specs.Prelude.{List}
use Rattle.std.proofs.Common.{◌∙◌, ap}
use Rattle.mux_frame.specs.Frames.{frame_of}
use Rattle.modem_show.specs.Asking.{Ask, is_in_doubt}
use Rattle.modem_show.specs.Judging.{Side}
use Rattle.modem_show.proofs.Passing.{steps_pass, steps_judge}
use Rattle.modem_show.proofs.watcher.pass.Goals as goal

pub returns-clause-fits : goal.returns-clause-fits
returns-clause-fits c = λ direction.
    steps_pass c.args.stamp direction (frame_of c.args.frame) c.args.from.now c.ask.new.self c.send.new.self c.args.to.now c.take_answer-answered.new.self c.get.new.self
    c.take_answer-answered.result
    c.ask.ensures.end c.in_ok-ask.ensures.ok c.take_answer-answered.ensures.end c.take_answer-answered.ensures.taken c.take_answer-answered.ensures.rest
    c.send.ensures.role c.send.ensures.asks c.send.ensures.past c.get.ensures.role c.get.ensures.asks c.get.ensures.past

pub returns-clause-faults : goal.returns-clause-faults
returns-clause-faults c = λ direction.
    steps_judge c.args.n1 c.args.stamp direction (frame_of c.args.frame) c.args.from.now c.ask.new.self c.args.to.now c.take_answer-answered.result
    c.is_unasked.result c.is_in_doubt-in_doubt.result c.judge-faults.result
    c.args.frame.dlci.in_range c.ask.ensures.end c.take_answer-answered.ensures.taken c.is_unasked.ensures
    (c.is_in_doubt-in_doubt.ensures ∙ ap (λ (xs : List Ask). is_in_doubt (frame_of c.args.frame).dlci xs) c.as_slice.ensures.value
    ∙ ap (λ (s : Side). is_in_doubt (frame_of c.args.frame).dlci s.asks) c.to.view_is) c.judge-faults.ensures
