use Rattle.circular_buffer.specs.Buffer.{buffer}
use Rattle.std.proofs.Common.{◌≡◌, ◌∙◌, ◌-◌, ◌++◌, min, length, take, drop, ap}
use Rattle.mux_frame.proofs.deframers.TurnedOctets.{turned_piece}
use Rattle.mux_frame.proofs.straight.turn_piece.Goals as goal

pub returns : goal.returns
returns c =
    let old = c.args.octets.now in
    let mid = c.read_into.ensures.items in
    let filled : c.fill_from_slice.result ≡ min (length c.read_into.new.dst) (old.capacity - length (drop c.read_into.result old.items)) = rw mid at c.fill_from_slice.ensures.count in
    let new : c.fill_from_slice.new.self ≡ buffer (drop c.read_into.result old.items ++ take c.fill_from_slice.result c.read_into.new.dst) old.capacity = rw mid at c.fill_from_slice.ensures.items in
    new ∙ ap (λ xs. buffer xs old.capacity) (turned_piece old.items c.args.piece.now c.read_into.new.dst old.capacity c.read_into.result c.fill_from_slice.result
    c.requires.within c.requires.room c.read_into.ensures.count c.read_into.ensures.read filled)
