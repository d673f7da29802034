-- One bit is set or cleared, and the others stay.
use Rattle.std.proofs.Common.{◌∙◌, sym, ap}
use Rattle.mux_station.specs.Marks.{bit_of}
use Rattle.mux_station.proofs.turns.SenderMarks.{set_alone, cleared_alone}
use Rattle.mux_station.proofs.channels.marked.Goals as goal

pub returns-then-sends-clause-same : goal.returns-then-sends-clause-same
returns-then-sends-clause-same c = (set_alone c.args.senders c.args.dlci.number c.number.result c.args.dlci.in_range c.number.ensures.number).same ∙ sym (ap bit_of c.if-sends.true)

pub returns-then-sends-clause-others : goal.returns-then-sends-clause-others
returns-then-sends-clause-others c = (set_alone c.args.senders c.args.dlci.number c.number.result c.args.dlci.in_range c.number.ensures.number).others

pub returns-else-sends-clause-same : goal.returns-else-sends-clause-same
returns-else-sends-clause-same c = (cleared_alone c.args.senders c.args.dlci.number c.number.result c.ranges.senders.fits c.args.dlci.in_range c.number.ensures.number).same ∙ sym (ap bit_of c.if-sends.false)

pub returns-else-sends-clause-others : goal.returns-else-sends-clause-others
returns-else-sends-clause-others c = (cleared_alone c.args.senders c.args.dlci.number c.number.result c.ranges.senders.fits c.args.dlci.in_range c.number.ensures.number).others
