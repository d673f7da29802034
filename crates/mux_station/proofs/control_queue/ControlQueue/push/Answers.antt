-- The frame's octets are put behind the others.
use Rattle.std.specs.Prelude.{◌+◌, ◌≤◌, ℕ, length}
use Rattle.std.proofs.Common.{◌∙◌, ap, sym, subst, arith}
use Rattle.circular_buffer.specs.Buffer.{Buffer}
use Rattle.mux_frame.specs.Frames.{Frame}
use Rattle.mux_frame.specs.Spelling.{most_info, spelled}
use Rattle.mux_station.specs.ControlFrames.{control_frame}
use Rattle.mux_station.specs.ControlOctets.{IsControlFrame}
use Rattle.mux_station.proofs.queues.ControlQueues.{seen_put, seen_octets, seen_room, put_read, put_spelled, count_small, all_passed, plain_fits}
use Rattle.mux_station.proofs.control_queue.ControlQueue.push.Goals as goal

pub overflow_add-self : goal.overflow_add-self
overflow_add-self c =
    let i = c.self.inside in
    omega (arith, count_small i.octets.items i.count c.self.invariant.spelled, c.len.ensures.len, c.len.ensures.within)

pub invariant_of-self : goal.invariant_of-self
invariant_of-self c =
    let i = c.self.inside in
    let q = c.args.self.now in
    let f : Frame = control_frame c.args.frame in
    let is : IsControlFrame f = record { dlci_in_range = c.args.frame.dlci.in_range; plain = c.args.frame.plain } in
    let octets = seen_octets q i.octets.items i.count i.octets.capacity c.self.view_is c.self.invariant.spelled in
    let room = seen_room q i.octets.items i.count i.octets.capacity c.self.view_is in
    let spelt = c.as_slice-spelled.ensures ∙ (c.put.ensures.octets (subst (λ (g : Frame). length g.info ≤ most_info 1024 g.kind) (sym c.view.ensures) (plain_fits f.kind (length f.info) c.args.frame.plain)) ∙ ap spelled c.view.ensures) in
    record {
      spelled =
          put_spelled i.octets.items i.count c.self.invariant.spelled f is c.fill_from_slice.new.self c.as_slice-spelled.result.now c.fill_from_slice.result i.octets.capacity spelt c.fill_from_slice.ensures.items c.fill_from_slice.ensures.count
          (omega (arith, octets, room, c.requires));
      none_half = all_passed c.put.new.self c.as_slice-spelled.result.now c.pass.new.self c.as_slice-spelled.ensures c.pass.ensures;
    }

pub returns : goal.returns
returns c =
    let i = c.self.inside in
    let q = c.args.self.now in
    let f : Frame = control_frame c.args.frame in
    let is : IsControlFrame f = record { dlci_in_range = c.args.frame.dlci.in_range; plain = c.args.frame.plain } in
    let octets = seen_octets q i.octets.items i.count i.octets.capacity c.self.view_is c.self.invariant.spelled in
    let room = seen_room q i.octets.items i.count i.octets.capacity c.self.view_is in
    let spelt = c.as_slice-spelled.ensures ∙ (c.put.ensures.octets (subst (λ (g : Frame). length g.info ≤ most_info 1024 g.kind) (sym c.view.ensures) (plain_fits f.kind (length f.info) c.args.frame.plain)) ∙ ap spelled c.view.ensures) in
    let read =
    put_read i.octets.items i.count c.self.invariant.spelled f is c.fill_from_slice.new.self c.as_slice-spelled.result.now c.fill_from_slice.result i.octets.capacity spelt c.fill_from_slice.ensures.items c.fill_from_slice.ensures.count
    (omega (arith, octets, room, c.requires)) in
    seen_put q i.octets.items i.count i.octets.capacity c.self.view_is f c.fill_from_slice.new.self (i.count + 1) read (ap (λ (b : Buffer ℕ). b.capacity) c.fill_from_slice.ensures.items)
