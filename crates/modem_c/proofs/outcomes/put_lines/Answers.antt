-- One line more stands behind those before it.
use Rattle.std.proofs.Common.{◌≡◌, ◌<◌, ◌++◌, ap, sym, subst, List, ℕ, length, take, drop, arith, length-append}
use Rattle.std.specs.List.{flat_map}
use Rattle.at_text.specs.AnswerParts.{line_of}
use Rattle.modem_c.specs.Texts.{line_text}
use Rattle.modem_c.proofs.Rooms.{one_more, put_after, room_for_one}
use Rattle.modem_c.proofs.outcomes.put_lines.Goals as goal

pub put_line-place-requires : goal.put_line-place-requires
put_line-place-requires c =
    let inside : c.loop-i.i < length c.args.lines.now = subst (λ (n : ℕ). c.loop-i.i < n) c.len-i-end.ensures c.loop-i-test.true in
    let r = room_for_one c.args.lines.now c.loop-i.i (line_of c.line.result.now) inside c.line.ensures in
    let p = c.loop-i.invariant.place in
    let s = c.loop-i.auto.room in
    let q = c.requires in
    omega (arith, r, p, s, q)

pub loop-i-preserved : goal.loop-i-preserved
loop-i-preserved c =
    let before = flat_map line_text (take c.loop-i.i c.args.lines.now) in
    let inside : c.loop-i.i < length c.args.lines.now = subst (λ (n : ℕ). c.loop-i.i < n) c.len-i-end.ensures c.loop-i-test.true in
    let m = one_more c.args.lines.now c.loop-i.i (line_of c.line.result.now) inside c.line.ensures in
    let n = c.put_line-place.result in
    let new = c.put_line-place.new.room in
    let l = ap (λ (xs : List ℕ). length xs) m in
    let a = length-append before (line_text (line_of c.line.result.now)) in
    let p = c.loop-i.invariant.place in
    let q = c.put_line-place.ensures.place in
    record {
      place = omega (arith, l, a, p, q);
      room = subst (λ (xs : List ℕ). new ≡ xs ++ drop n c.args.room.now) (sym m)
          (put_after c.loop-i.place n c.args.room.now before (line_text (line_of c.line.result.now)) c.loop-i.room new c.loop-i.invariant.room c.loop-i.invariant.place c.put_line-place.ensures.place c.put_line-place.ensures.room);
    }
