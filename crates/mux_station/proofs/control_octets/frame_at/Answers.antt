-- The frame is the one in front.
use Rattle.std.specs.Prelude.{Option, drop, refl, unwrap_or}
use Rattle.std.proofs.Common.{◌∙◌, ap, sym, arith, get_or-drop}
use Rattle.mux_frame.specs.declared.frame.Kind.{Kind}
use Rattle.mux_frame.specs.declared.frame.Kind.TheVariants.{Uih}
use Rattle.mux_station.proofs.queues.FrameOctets.{info_short, front_number, front_plain, front_built, part_of}
use Rattle.mux_station.proofs.control_octets.frame_at.Goals as goal

pub overflow_add-place : goal.overflow_add-place
overflow_add-place c = let e = c.extent_at-extent.ensures in omega (arith, e.within, e.bounded)

pub octet_at-address-requires : goal.octet_at-address-requires
octet_at-address-requires c = let e = c.extent_at-extent.ensures in omega (arith, e.within, e.some)

pub overflow_add-place-2 : goal.overflow_add-place-2
overflow_add-place-2 c = let e = c.extent_at-extent.ensures in omega (arith, e.within, e.bounded)

pub octet_at-control-requires : goal.octet_at-control-requires
octet_at-control-requires c = let e = c.extent_at-extent.ensures in omega (arith, e.within, e.some)

pub overflow_add-place-3 : goal.overflow_add-place-3
overflow_add-place-3 c = let e = c.extent_at-extent.ensures in omega (arith, e.within, e.bounded)

pub octets_from-info-requires-clause-there : goal.octets_from-info-requires-clause-there
octets_from-info-requires-clause-there c = let e = c.extent_at-extent.ensures in omega (arith, e.within)

pub octets_from-info-requires-clause-short : goal.octets_from-info-requires-clause-short
octets_from-info-requires-clause-short c =
    let e = c.extent_at-extent.ensures in
    omega (arith, e.info, info_short (drop c.args.place c.args.octets.now.items) c.requires)

pub invariant_of-result : goal.invariant_of-result
invariant_of-result c =
    let octets = drop c.args.place c.args.octets.now.items in
    record { in_range = front_number octets c.octet_at-address.result c.requires (get_or-drop c.args.place c.args.octets.now.items 1 0 ∙ sym c.octet_at-address.ensures) }

pub invariant_of-result-2 : goal.invariant_of-result-2
invariant_of-result-2 c =
    let items = c.args.octets.now.items in
    let octets = drop c.args.place items in
    let e = c.extent_at-extent.ensures in
    record {
      plain =
          front_plain octets c.octets_from-info.result.items c.octet_at-control.result c.unwrap_or.result c.requires (get_or-drop c.args.place items 2 0 ∙ sym c.octet_at-control.ensures) (c.unwrap_or.ensures ∙ ap (λ (k : Option Kind). unwrap_or k Uih) c.kind_of.ensures)
          (part_of items c.octets_from-info.result.items c.args.place c.extent_at-extent.result.lead c.extent_at-extent.result.info octets refl e.lead e.info c.octets_from-info.ensures);
    }

pub returns : goal.returns
returns c =
    let items = c.args.octets.now.items in
    let octets = drop c.args.place items in
    let e = c.extent_at-extent.ensures in
    front_built octets c.octets_from-info.result.items c.octet_at-address.result c.octet_at-control.result c.unwrap_or.result (get_or-drop c.args.place items 1 0 ∙ sym c.octet_at-address.ensures) (get_or-drop c.args.place items 2 0 ∙ sym c.octet_at-control.ensures) (c.unwrap_or.ensures ∙ ap (λ (k : Option Kind). unwrap_or k Uih) c.kind_of.ensures)
    (part_of items c.octets_from-info.result.items c.args.place c.extent_at-extent.result.lead c.extent_at-extent.result.info octets refl e.lead e.info c.octets_from-info.ensures)
