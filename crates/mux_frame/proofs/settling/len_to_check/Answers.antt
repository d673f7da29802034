use Rattle.std.proofs.Common.{◌≡◌, ◌∙◌, ◌+◌, ◌*◌, ◌/◌, None, Some, ap, drop, refl, slice_get, sym}
use Rattle.circular_buffer.proofs.Places.{slice_get-drop}
use Rattle.mux_frame.proofs.candidates.ShortOctets.{len_even, len_told, len_untold, len_none}
use Rattle.mux_frame.proofs.settling.len_to_check.Goals as goal

pub returns-in_default : goal.returns-in_default
returns-in_default c =
    let u = c.args.octets.now.items in
    let e : None ≡ slice_get u (c.args.place + 4) = rw c.in_default.is at c.get.ensures in
    len_untold (drop c.args.place u) (e ∙ sym (slice_get-drop c.args.place u 4 (c.args.place + 4) refl))

pub returns-in_default-get : goal.returns-in_default-get
returns-in_default-get c =
    let u = c.args.octets.now.items in
    let e : None ≡ slice_get u (c.args.place + 3) = rw c.in_default-get.is at c.get-2.ensures in
    len_none (drop c.args.place u) (e ∙ sym (slice_get-drop c.args.place u 3 (c.args.place + 3) refl))

pub returns-then-first-eq1 : goal.returns-then-first-eq1
returns-then-first-eq1 c =
    let u = c.args.octets.now.items in
    let e : Some c.in-Some.second.now ≡ slice_get u (c.args.place + 4) = rw c.in-Some.is at c.get.ensures in
    let f : Some c.in-Some-get.first.now ≡ slice_get u (c.args.place + 3) = rw c.in-Some-get.is at c.get-2.ensures in
    let t = len_told (drop c.args.place u) c.in-Some-get.first.now c.in-Some.second.now (f ∙ sym (slice_get-drop c.args.place u 3 (c.args.place + 3) refl)) (e ∙ sym (slice_get-drop c.args.place u 4 (c.args.place + 4) refl)) in
    ap (λ i. 4 + i) c.from-low.ensures ∙ (rw c.if-first-eq1.true at t)

pub returns-else-first-eq1 : goal.returns-else-first-eq1
returns-else-first-eq1 c =
    let u = c.args.octets.now.items in
    let e : Some c.in-Some.second.now ≡ slice_get u (c.args.place + 4) = rw c.in-Some.is at c.get.ensures in
    let f : Some c.in-Some-get.first.now ≡ slice_get u (c.args.place + 3) = rw c.in-Some-get.is at c.get-2.ensures in
    let t = len_even (drop c.args.place u) c.in-Some-get.first.now c.in-Some.second.now (f ∙ sym (slice_get-drop c.args.place u 3 (c.args.place + 3) refl)) (e ∙ sym (slice_get-drop c.args.place u 4 (c.args.place + 4) refl)) c.if-first-eq1.false in
    ap (λ i. 5 + i + 128 * c.from.result) c.from-low.ensures ∙ ap (λ i. 5 + c.in-Some-get.first.now / 2 + 128 * i) c.from.ensures ∙ t
