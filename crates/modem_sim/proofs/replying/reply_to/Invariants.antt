use Rattle.std.proofs.Common.{drop}
use Rattle.modem_sim.proofs.connections.OctetReplies.{IsGoing}
use Rattle.modem_sim.proofs.replying.reply_to.Given as goal

-- the lines of the octets so far are replied to, and the others will be
abbrev pub invariant-loop-octet : goal.invariant-loop-octet
invariant-loop-octet l =
    IsGoing l.echo l.initial.modem l.initial.reader l.octets l.initial.out.items l.initial.calls l.modem l.reader (drop l.octet-index l.octets) l.out.items l.calls l.count l.octet-index
