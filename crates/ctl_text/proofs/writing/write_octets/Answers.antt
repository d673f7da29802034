use Rattle.std.proofs.Common.{◌≡◌, arith, length, refl, rules}
use Rattle.ctl_text.proofs.Written.{IsLeft, begun_left, left_all, left_less, left_same, whole_left}
use Rattle.ctl_text.proofs.writing.write_octets.Goals as goal
use Rattle.ctl_text.proofs.writing.write_octets.Goals.{in-Ok, in-Err}

pub loop-preserved : goal.loop-preserved
loop-preserved g c =
    elim c.match-write.branch [
      | in-Ok w ↦ let k = rw w.in-Ok.is at c.write.ensures.bytes in
          rw w.left-is (left_less _ _ _ c.args.octets.now c.loop.left.now _ w.in-Ok.count c.loop.invariant k (search rules))
      | in-Err w ↦ let k = rw w.in-Err.is at c.write.ensures.bytes in
          rw w.left-is (left_same _ _ _ c.args.octets.now c.loop.left.now c.loop.invariant k)
    ]

pub returns-then-is_empty-clause-part : goal.returns-then-is_empty-clause-part
returns-then-is_empty-clause-part g c = begun_left _ _ c.args.octets.now c.args.octets.now (left_all _ c.args.octets.now)

pub returns-in-Ok-eq0-clause-whole : goal.returns-in-Ok-eq0-clause-whole
returns-in-Ok-eq0-clause-whole g c all = absurd (cc)

pub returns-in-Ok-eq0-clause-part : goal.returns-in-Ok-eq0-clause-part
returns-in-Ok-eq0-clause-part g c =
    let k = rw c.in-Ok-eq0.is at c.write.ensures.bytes in
    begun_left _ _ c.args.octets.now _ (left_less _ _ _ c.args.octets.now c.loop.left.now _ c.in-Ok-eq0.field-0 c.loop.invariant k refl)

pub returns-in-Err-2-clause-whole : goal.returns-in-Err-2-clause-whole
returns-in-Err-2-clause-whole g c all = absurd (cc)

pub returns-in-Err-2-clause-part : goal.returns-in-Err-2-clause-part
returns-in-Err-2-clause-part g c = begun_left _ _ c.args.octets.now c.loop.left.now (left_same _ _ _ c.args.octets.now c.loop.left.now c.loop.invariant c.in-Err-2.ensures.bytes)

pub returns-clause-part : goal.returns-clause-part
returns-clause-part g c = begun_left _ _ c.args.octets.now c.loop.left.now c.loop.invariant

pub returns-then-is_empty-2-clause-whole : goal.returns-then-is_empty-2-clause-whole
returns-then-is_empty-2-clause-whole g c _ =
    let after : IsLeft (g.W.Write.contents c.args.output.now) (g.W.Write.contents c.write.new.self) c.args.octets.now c.match-write.left.now = elim c.match-write.branch [
      | in-Ok w ↦ let k = rw w.in-Ok.is at c.write.ensures.bytes in
          rw w.left-is (left_less _ _ _ c.args.octets.now c.loop.left.now _ w.in-Ok.count c.loop.invariant k (search rules))
      | in-Err w ↦ let k = rw w.in-Err.is at c.write.ensures.bytes in
          rw w.left-is (left_same _ _ _ c.args.octets.now c.loop.left.now c.loop.invariant k)
    ] in
    let none : length c.match-write.left.now ≡ 0 = grind (arith, c.is_empty-in-loop.ensures, c.if-is_empty-2.true) in
    whole_left _ _ c.args.octets.now c.match-write.left.now after none

pub returns-then-is_empty-2-clause-part : goal.returns-then-is_empty-2-clause-part
returns-then-is_empty-2-clause-part g c =
    let after : IsLeft (g.W.Write.contents c.args.output.now) (g.W.Write.contents c.write.new.self) c.args.octets.now c.match-write.left.now = elim c.match-write.branch [
      | in-Ok w ↦ let k = rw w.in-Ok.is at c.write.ensures.bytes in
          rw w.left-is (left_less _ _ _ c.args.octets.now c.loop.left.now _ w.in-Ok.count c.loop.invariant k (search rules))
      | in-Err w ↦ let k = rw w.in-Err.is at c.write.ensures.bytes in
          rw w.left-is (left_same _ _ _ c.args.octets.now c.loop.left.now c.loop.invariant k)
    ] in
    begun_left _ _ c.args.octets.now c.match-write.left.now after
