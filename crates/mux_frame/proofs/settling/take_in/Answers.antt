use Rattle.std.proofs.Common.{◌≡◌, [], ap, arith, drop, length}
use Rattle.std.proofs.lemmas.List.{drop_all}
use Rattle.mux_frame.proofs.deframers.DeframerOctets.{octets-drop}
use Rattle.mux_frame.proofs.deframers.SearchedOctets.{settles_first, settles_short}
use Rattle.mux_frame.proofs.readings.ComputedReadings.{octets_both}
use Rattle.mux_frame.proofs.settling.take_in.Goals as goal

pub returns-then-len-passed-clause-settles : goal.returns-then-len-passed-clause-settles
returns-then-len-passed-clause-settles c =
    let len = c.len.ensures.len in
    let t = c.if-len-passed.true in
    let gone : drop c.args.passed.now c.args.octets.now.items ≡ [] = drop_all c.args.passed.now c.args.octets.now.items (omega (arith, len, t)) in
    settles_first c.args.n1 _ c.args.more.now _ c.take_first.result gone c.take_first.ensures.settles

pub settle_all-requires : goal.settle_all-requires
settle_all-requires c = rw c.append.ensures (octets_both (drop c.args.passed.now c.args.octets.now.items) c.args.more.now (octets-drop c.args.passed.now c.args.octets.now.items c.requires.octets) c.requires.more)

pub returns-then-len-least-clause-octets : goal.returns-then-len-least-clause-octets
returns-then-len-least-clause-octets c = rw c.append.ensures (octets_both (drop c.args.passed.now c.args.octets.now.items) c.args.more.now (octets-drop c.args.passed.now c.args.octets.now.items c.requires.octets) c.requires.more)

pub returns-then-len-least-clause-settles : goal.returns-then-len-least-clause-settles
returns-then-len-least-clause-settles c =
    let short = c.if-len-least.true in
    let len = c.len-2.ensures.len in
    let size = ap (λ b. length b.items) c.append.ensures in
    let left = drop c.args.passed.now c.args.octets.now.items in
    let octets = octets_both left c.args.more.now (octets-drop c.args.passed.now c.args.octets.now.items c.requires.octets) c.requires.more in
    let least = c.len_to_check-least.ensures in
    rw c.append.ensures (settles_short c.args.n1 left c.args.more.now octets c.requires.decided (omega (arith, short, len, size, least)))
