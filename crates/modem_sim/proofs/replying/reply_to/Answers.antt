use Rattle.std.proofs.Common.{drop}
use Rattle.std.proofs.Math.ListN.{drop_of_length-le}
use Rattle.modem_sim.proofs.connections.OctetReplies.{goes_on_at, ends_so}
use Rattle.modem_sim.proofs.replying.reply_to.Goals as goal

pub loop-octet-preserved : goal.loop-octet-preserved
loop-octet-preserved c =
    goes_on_at c.args.echo c.args.modem.now c.args.reader.now c.args.octets.now c.args.out.now.items c.args.calls.now
    c.loop-octet.modem c.loop-octet.reader c.loop-octet.out.items c.loop-octet.calls c.loop-octet.count c.loop-octet.octet-index
    c.reply_to_octet.new.modem c.reply_to_octet.new.reader c.reply_to_octet.new.out.items c.reply_to_octet.new.calls c.in_ok-count.field-0
    c.loop-octet-test.true c.loop-octet.invariant
    c.in_ok-count.ensures.count c.in_ok-count.ensures.one c.in_ok-count.ensures.replies c.in_ok-count.ensures.state c.in_ok-count.ensures.kept c.in_ok-count.ensures.calls

pub returns-clause-count : goal.returns-clause-count
returns-clause-count c =
    (ends_so c.args.echo c.args.modem.now c.args.reader.now c.args.octets.now c.args.out.now.items c.args.calls.now c.loop-octet.modem c.loop-octet.reader
    (drop c.loop-octet.octet-index c.args.octets.now) c.loop-octet.out.items c.loop-octet.calls c.loop-octet.count c.loop-octet.octet-index
    (drop_of_length-le c.args.octets.now c.loop-octet-test.false) c.loop-octet.invariant).counted

pub returns-clause-replies : goal.returns-clause-replies
returns-clause-replies c =
    (ends_so c.args.echo c.args.modem.now c.args.reader.now c.args.octets.now c.args.out.now.items c.args.calls.now c.loop-octet.modem c.loop-octet.reader
    (drop c.loop-octet.octet-index c.args.octets.now) c.loop-octet.out.items c.loop-octet.calls c.loop-octet.count c.loop-octet.octet-index
    (drop_of_length-le c.args.octets.now c.loop-octet-test.false) c.loop-octet.invariant).said

pub returns-clause-state : goal.returns-clause-state
returns-clause-state c =
    (ends_so c.args.echo c.args.modem.now c.args.reader.now c.args.octets.now c.args.out.now.items c.args.calls.now c.loop-octet.modem c.loop-octet.reader
    (drop c.loop-octet.octet-index c.args.octets.now) c.loop-octet.out.items c.loop-octet.calls c.loop-octet.count c.loop-octet.octet-index
    (drop_of_length-le c.args.octets.now c.loop-octet-test.false) c.loop-octet.invariant).state

pub returns-clause-calls : goal.returns-clause-calls
returns-clause-calls c =
    (ends_so c.args.echo c.args.modem.now c.args.reader.now c.args.octets.now c.args.out.now.items c.args.calls.now c.loop-octet.modem c.loop-octet.reader
    (drop c.loop-octet.octet-index c.args.octets.now) c.loop-octet.out.items c.loop-octet.calls c.loop-octet.count c.loop-octet.octet-index
    (drop_of_length-le c.args.octets.now c.loop-octet-test.false) c.loop-octet.invariant).calls
