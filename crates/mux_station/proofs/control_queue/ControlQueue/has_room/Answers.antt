-- The octets that are kept are those of the frames.
use Rattle.std.specs.Prelude.{ℕ, ◌≡◌, ◌+◌, ◌-◌, length, nat_le}
use Rattle.std.proofs.Common.{◌∙◌, ap, arith}
use Rattle.mux_station.proofs.queues.ControlQueues.{seen_octets, seen_room, room_left}
use Rattle.mux_station.proofs.control_queue.ControlQueue.has_room.Goals as goal

pub returns-clause-fits : goal.returns-clause-fits
returns-clause-fits c =
    let i = c.self.inside in
    let q = c.args.self.now in
    let octets = seen_octets q i.octets.items i.count i.octets.capacity c.self.view_is c.self.invariant.spelled in
    let room = seen_room q i.octets.items i.count i.octets.capacity c.self.view_is in
    let left : c.capacity.result - c.len.result ≡ i.octets.capacity - length i.octets.items = omega (arith, c.capacity.ensures.capacity, c.len.ensures.len) in
    ap (nat_le c.args.more) left
    ∙ (room_left c.args.more i.octets.capacity (length i.octets.items) (omega (arith, c.len.ensures.within, c.len.ensures.len))
    ∙ (ap (λ (n : ℕ). nat_le (n + c.args.more) i.octets.capacity) octets ∙ ap (nat_le _) room))
