-- A turn that moved something, and a poll behind it.
use Rattle.std.proofs.Common.{◌∙◌, sym}
use Rattle.modem_driver.specs.SessionTurns.{turn_answer}
use Rattle.modem_bench.proofs.StandStills.{advances_moved}
use Rattle.modem_bench.proofs.driving.poll.Goals as goal

pub returns-then-is_moved-clause-polled : goal.returns-then-is_moved-clause-polled
returns-then-is_moved-clause-polled g c =
    let look = g.L.SerialLine.seen in
    advances_moved look c.args.session.now c.turn.new.self c.advance.new.self (turn_answer c.in_ok-said.said) c.advance.result
    c.in_ok-said.ensures.turns c.in_ok-said.ensures.turned c.in_ok-said.ensures.takes (sym c.is_moved.ensures ∙ c.if-is_moved.true) c.advance.ensures.polls c.advance.ensures.goes c.advance.ensures.takes
