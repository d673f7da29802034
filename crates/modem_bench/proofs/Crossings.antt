-- Two lines of which each was given what the other's octets gave on: what is carried leaves them so, a stray or a lost octet
-- doesn't.
use Rattle.std.proofs.Common.{◌∙◌, ap, sym, append_assoc, arith}
use Rattle.std.proofs.lemmas.List.{length-append, length-take}
use Rattle.std.specs.Prelude.{◌≡◌, ℕ, ◌<◌, List, [], ◌∷◌, ◌++◌, length, take}
use Rattle.serial_line.specs.CutLine.{CutState, after_carry, carried, unmoved}
use Rattle.modem_bench.specs.OneLine.{AreCrossed, RightCrossings, WrongCrossings}
use Rattle.modem_bench.proofs.OneLine.{carried_one}

-- behind what was given nothing more can stand
no_more : (a w t more : List ℕ) → a ++ w ≡ t → a ++ (w ++ more) ≡ t → 0 < length more → ⊥
no_more a w t more e f some =
    let all = ap (length {A = ℕ}) (append_assoc a w more ∙ (f ∙ sym e)) in
    let both = length-append (a ++ w) more in
    omega (arith, all, both, some)

fewer : (a w t xs : List ℕ) (x : ℕ) → w ≡ x ∷ xs → a ++ w ≡ t → a ++ xs ≡ t → ⊥
fewer a w t xs x is e f =
    let all = ap (length {A = ℕ}) (f ∙ sym e) in
    let one = length-append a xs in
    let two = length-append a w in
    let long = ap (length {A = ℕ}) is in
    omega (arith, all, one, two, long)

-- with an octet more, or one fewer, that waits at one of them the lines aren't crossed
pub wrong_crossings : WrongCrossings
wrong_crossings = record {
  stray_at_far = λ near far x c d. no_more far.received far.waiting (take near.moved near.sent) (x ∷ []) c.to_far d.to_far (omega arith);
  lost_at_far = λ near far x xs is c d. fewer far.received far.waiting (take near.moved near.sent) xs x is c.to_far d.to_far;
  stray_at_near = λ near far x c d. no_more near.received near.waiting (take far.moved far.sent) (x ∷ []) c.to_near d.to_near (omega arith);
}

crossed_once : (cut : ℕ) (near far : CutState) → AreCrossed near far → AreCrossed (after_carry cut near far) (after_carry cut far near)
crossed_once cut near far c = record { to_far = carried_one cut near far c.to_far; to_near = carried_one cut far near c.to_near }

-- as many octets as went over
went_over : (cut : ℕ) (from to : CutState) → 0 < carried cut from to → 0 < length (take (carried cut from to) (unmoved from))
went_over cut from to some = let e = length-take (carried cut from to) (unmoved from) in omega (arith, e, some)

-- carried once the octets leave them crossed, carried twice they don't
pub right_crossings : RightCrossings
right_crossings = record {
  once = crossed_once;
  twice = λ cut near far c some d.
      let far_then = after_carry cut far near in
      let near_then = after_carry cut near far in
      no_more far_then.received far_then.waiting (take near_then.moved near_then.sent) (take (carried cut near far) (unmoved near)) (crossed_once cut near far c).to_far d.to_far (went_over cut near far some);
}
