-- What the length octets of the frame say.
use Rattle.std.specs.Prelude.{drop}
use Rattle.std.proofs.Common.{◌∙◌, sym, arith, get_or-drop}
use Rattle.mux_station.proofs.queues.FrameOctets.{front_fits, lead_odd, lead_even, lead_some}
use Rattle.mux_station.proofs.control_octets.extent_at.Goals as goal

pub overflow_add-place : goal.overflow_add-place
overflow_add-place c = omega (arith, c.len.ensures.within, c.len.ensures.len, front_fits c.args.octets.now.items c.args.place c.requires)

pub octet_at-first-requires : goal.octet_at-first-requires
octet_at-first-requires c =
    omega (arith, front_fits c.args.octets.now.items c.args.place c.requires, lead_some (drop c.args.place c.args.octets.now.items))

pub returns-then-first-eq1-clause-lead : goal.returns-then-first-eq1-clause-lead
returns-then-first-eq1-clause-lead c =
    sym (lead_odd (drop c.args.place c.args.octets.now.items) c.octet_at-first.result (get_or-drop c.args.place c.args.octets.now.items 3 0 ∙ sym c.octet_at-first.ensures) c.if-first-eq1.true).0

pub returns-then-first-eq1-clause-info : goal.returns-then-first-eq1-clause-info
returns-then-first-eq1-clause-info c =
    c.from-low.ensures ∙ sym (lead_odd (drop c.args.place c.args.octets.now.items) c.octet_at-first.result (get_or-drop c.args.place c.args.octets.now.items 3 0 ∙ sym c.octet_at-first.ensures) c.if-first-eq1.true).1

pub overflow_add-place-2 : goal.overflow_add-place-2
overflow_add-place-2 c = omega (arith, c.len.ensures.within, c.len.ensures.len, front_fits c.args.octets.now.items c.args.place c.requires)

pub octet_at-second-requires : goal.octet_at-second-requires
octet_at-second-requires c =
    let e = lead_even (drop c.args.place c.args.octets.now.items) c.octet_at-first.result (get_or-drop c.args.place c.args.octets.now.items 3 0 ∙ sym c.octet_at-first.ensures) c.if-first-eq1.false in
    omega (arith, front_fits c.args.octets.now.items c.args.place c.requires, e.0)

pub returns-clause-lead : goal.returns-clause-lead
returns-clause-lead c =
    sym (lead_even (drop c.args.place c.args.octets.now.items) c.octet_at-first.result (get_or-drop c.args.place c.args.octets.now.items 3 0 ∙ sym c.octet_at-first.ensures) c.if-first-eq1.false).0

pub returns-clause-info : goal.returns-clause-info
returns-clause-info c =
    let e = lead_even (drop c.args.place c.args.octets.now.items) c.octet_at-first.result (get_or-drop c.args.place c.args.octets.now.items 3 0 ∙ sym c.octet_at-first.ensures) c.if-first-eq1.false in
    let second = get_or-drop c.args.place c.args.octets.now.items 4 0 ∙ sym c.octet_at-second.ensures in
    omega (arith, e.1, second, c.from-low.ensures)

pub returns-clause-within : goal.returns-clause-within
returns-clause-within c =
    let e = lead_even (drop c.args.place c.args.octets.now.items) c.octet_at-first.result (get_or-drop c.args.place c.args.octets.now.items 3 0 ∙ sym c.octet_at-first.ensures) c.if-first-eq1.false in
    let second = get_or-drop c.args.place c.args.octets.now.items 4 0 ∙ sym c.octet_at-second.ensures in
    omega (arith, e.0, e.1, second, c.from-low.ensures, front_fits c.args.octets.now.items c.args.place c.requires)

pub returns-then-first-eq1-clause-within : goal.returns-then-first-eq1-clause-within
returns-then-first-eq1-clause-within c =
    let e = lead_odd (drop c.args.place c.args.octets.now.items) c.octet_at-first.result (get_or-drop c.args.place c.args.octets.now.items 3 0 ∙ sym c.octet_at-first.ensures) c.if-first-eq1.true in
    omega (arith, e.0, e.1, c.from-low.ensures, front_fits c.args.octets.now.items c.args.place c.requires)
