-- The first frame's octets go.
use Rattle.std.specs.Prelude.{◌-◌, ◌<◌, ℕ, Some, length, refl}
use Rattle.std.proofs.Common.{◌∙◌, ap, arith}
use Rattle.circular_buffer.specs.Buffer.{Buffer}
use Rattle.mux_frame.specs.Frames.{Frame}
use Rattle.mux_station.specs.Written.{written_length}
use Rattle.mux_station.proofs.queues.ControlQueues.{seen_at, seen_taken, seen_some, front_whole, front_written, front_first, taken_read, taken_spelled, plain_short}
use Rattle.mux_station.proofs.control_queue.ControlQueue.take.Goals as goal

pub frame_at-self-inside-requires : goal.frame_at-self-inside-requires
frame_at-self-inside-requires c =
    let i = c.self.inside in
    front_whole i.octets.items i.count c.self.invariant.spelled (seen_some c.args.self.now i.octets.items i.count i.octets.capacity c.self.view_is c.requires)

pub overflow_sub-len : goal.overflow_sub-len
overflow_sub-len c =
    let i = c.self.inside in
    let some : 0 < i.count = seen_some c.args.self.now i.octets.items i.count i.octets.capacity c.self.view_is c.requires in
    let w = front_written i.octets.items i.count c.self.invariant.spelled some in
    let h = front_whole i.octets.items i.count c.self.invariant.spelled some in
    let same = ap written_length c.frame_at-self-inside.ensures in
    omega (arith, w, h.whole, same, c.written_len-length.ensures.octets, c.len.ensures.len)

pub overflow_sub-self : goal.overflow_sub-self
overflow_sub-self c =
    let i = c.self.inside in
    let some : 0 < i.count = seen_some c.args.self.now i.octets.items i.count i.octets.capacity c.self.view_is c.requires in omega (arith, some)

pub invariant_of-self : goal.invariant_of-self
invariant_of-self c =
    let i = c.self.inside in
    let some : 0 < i.count = seen_some c.args.self.now i.octets.items i.count i.octets.capacity c.self.view_is c.requires in
    let w = front_written i.octets.items i.count c.self.invariant.spelled some in
    let h = front_whole i.octets.items i.count c.self.invariant.spelled some in
    let same = ap written_length c.frame_at-self-inside.ensures in
    record {
      spelled =
          taken_spelled i.octets.items i.count c.self.invariant.spelled some c.truncate_front.new.self (c.len.result - c.written_len-length.result) i.octets.capacity c.truncate_front.ensures
          (omega (arith, w, h.whole, same, c.written_len-length.ensures.octets, c.len.ensures.len));
      none_half = c.self.invariant.none_half;
    }

pub returns : goal.returns
returns c =
    let i = c.self.inside in
    let q = c.args.self.now in
    let some : 0 < i.count = seen_some c.args.self.now i.octets.items i.count i.octets.capacity c.self.view_is c.requires in
    let w = front_written i.octets.items i.count c.self.invariant.spelled some in
    let h = front_whole i.octets.items i.count c.self.invariant.spelled some in
    let same = ap written_length c.frame_at-self-inside.ensures in
    let read = taken_read i.octets.items i.count c.self.invariant.spelled some c.truncate_front.new.self (c.len.result - c.written_len-length.result) i.octets.capacity c.truncate_front.ensures (omega (arith, w, h.whole, same, c.written_len-length.ensures.octets, c.len.ensures.len)) in
    let front = c.frame_at-self-inside.result in (
      (refl, λ _. tt, seen_taken q i.octets.items i.count i.octets.capacity c.self.view_is c.truncate_front.new.self (i.count - 1) read (ap (λ (b : Buffer ℕ). b.capacity) c.truncate_front.ensures)),
      record {
        frame = ap Some (c.view.ensures ∙ c.frame_at-self-inside.ensures) ∙ (front_first i.octets.items i.count c.self.invariant.spelled some ∙ seen_at q i.octets.items i.count i.octets.capacity c.self.view_is 0);
        short = omega (arith, ap (λ (f : Frame). length f.info) c.view.ensures, plain_short front.kind (length front.info.items) front.plain);
        after = tt;
      },
    )
