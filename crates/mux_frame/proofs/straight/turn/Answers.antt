use Rattle.std.proofs.Common.{◌≡◌, ◌∙◌, length, ap, arith}
use Rattle.std.proofs.lemmas.List.{length-drop, length-take-le}
use Rattle.mux_frame.specs.Places.{turned}
use Rattle.mux_frame.proofs.deframers.TurnedOctets.{turned_on, turned_length}
use Rattle.mux_frame.proofs.straight.turn.Goals as goal

pub turn_piece-requires-clause-within : goal.turn_piece-requires-clause-within
turn_piece-requires-clause-within c =
    let some = c.min-some.ensures in
    let moved = c.loop-moved.invariant.1 in
    let within = c.requires.within in
    let size = length-take-le c.min-some.result c.loop-moved.piece (omega (arith, some)) in
    let all : length c.loop-moved.octets.items ≡ length c.args.octets.now.items = ap (λ b. length b.items) c.loop-moved.invariant.0 ∙ turned_length c.loop-moved.moved c.args.octets.now (omega (arith, moved, within)) in
    omega (arith, some, within, size, all)

pub turn_piece-requires-clause-room : goal.turn_piece-requires-clause-room
turn_piece-requires-clause-room c =
    let moved = c.loop-moved.invariant.1 in
    let within = c.requires.within in
    let room = c.requires.room in
    let all : length c.loop-moved.octets.items ≡ length c.args.octets.now.items = ap (λ b. length b.items) c.loop-moved.invariant.0 ∙ turned_length c.loop-moved.moved c.args.octets.now (omega (arith, moved, within)) in
    let same = ap (λ b. b.capacity) c.loop-moved.invariant.0 in
    omega (arith, room, all, same)

pub loop-moved-preserved : goal.loop-moved-preserved
loop-moved-preserved c =
    let some = c.min-some.ensures in
    let moved = c.loop-moved.invariant.1 in
    let within = c.requires.within in
    let test = c.loop-moved-test.true in
    let size = length-take-le c.min-some.result c.loop-moved.piece (omega (arith, some)) in
    let left = length-drop c.loop-moved.moved c.args.octets.now.items in (
      c.turn_piece.ensures ∙ ap (λ n. turned n c.loop-moved.octets) size ∙ ap (turned c.min-some.result) c.loop-moved.invariant.0 ∙ turned_on c.loop-moved.moved c.min-some.result c.args.octets.now (omega (arith, some, within, test, left)),
      omega (arith, some, test),
    )
