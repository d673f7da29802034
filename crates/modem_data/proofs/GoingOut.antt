-- Octets go to the line.
use Rattle.std.specs.Prelude.{◌≡◌, ℕ, ◌+◌, ◌≤◌, ◌==◌, ◌++◌, true, List, [], length, take, drop, None, refl}
use Rattle.std.proofs.Common.{ap, sym, ◌∙◌, subst, arith, take_all}
use Rattle.std.proofs.Math.Seq.{drop-append-add, drop-length, take-append-add}
use Rattle.std.proofs.lemmas.Bool.{eqb-true}
use Rattle.std.proofs.lemmas.List.{drop-drop, length-append, length-drop, length-take-le, nil_from_length}
use Rattle.mux_frame.specs.Frames.{Frame}
use Rattle.mux_frame.specs.Spelling.{spelled}
use Rattle.mux_frame.specs.Deframing.{IsDeframed}
use Rattle.modem_data.specs.Passing.{Left}
use Rattle.modem_data.specs.PipeSets.{LeavesInTurn}
use Rattle.modem_data.specs.Hops.{Relay, Hops, Wrote, Passed, OneOut, still_out, left_out, GoesOut, wrote_some, wrote_more, wrote_none}
use Rattle.modem_data.proofs.Relays.{hops_left, hops_wrote}

-- a frame more may have been made for the line, and the first of the octets that wait went
pub goes_out : (r s t : Relay) (octets : List ℕ) → OneOut r s → Hops s t (Wrote octets) → GoesOut r t octets
goes_out r s t octets one wrote = wrote_some r s t octets one wrote

-- a frame of data went as it left, in its turn
pub leaves_out : (v w : Relay) (f : Frame) (octets : List ℕ) → IsDeframed → v.inner.next ≡ None → (length v.to_line == 0) ≡ true → LeavesInTurn v.outer.n1 v.pipes w.pipes f → w ≡ record v { pipes = w.pipes } → octets ≡ spelled f → GoesOut v w octets
leaves_out v w f octets law none empty leads e is =
    let nil : v.to_line ≡ [] = nil_from_length v.to_line (eqb-true (length v.to_line) 0 empty) in
    let between : Relay = record w { to_line = spelled f } in
    let left : Hops v between (Passed (Left f)) = hops_left v between f law none leads (sym (ap (λ xs. xs ++ spelled f) nil)) (ap (λ (x : Relay). record x { to_line = spelled f }) e) in
    let gone : w.to_line ≡ drop (length (spelled f)) (spelled f) = ap (λ (x : Relay). x.to_line) e ∙ (nil ∙ sym (drop-length (spelled f))) in
    let wrote : Hops between w (Wrote octets) = hops_wrote between w octets (length (spelled f)) (is ∙ sym (take_all (length (spelled f)) (spelled f) (omega arith))) gone refl in
    wrote_some v between w octets (left_out (record { frame = f; leads = left })) wrote

-- at first none went
pub none_goes : (v : Relay) → GoesOut v v []
none_goes v = wrote_none v v (still_out refl)

-- what went and the first of what goes are the first of both
pub more_are : (m n : ℕ) (old new : List ℕ) → m ≤ length old → take (m + n) (take m old ++ new) ≡ take m old ++ take n new
more_are m n old new few = ap (λ k. take (k + n) (take m old ++ new)) (sym (length-take-le m old few)) ∙ take-append-add (take m old) new n

-- a frame more went
pub more_goes : (v w x : Relay) (m n : ℕ) (old new : List ℕ) → m ≤ length old → GoesOut v w (take m old) → GoesOut w x (take n new) → GoesOut v x (take (m + n) (take m old ++ new))
more_goes v w x m n old new few first more = subst (λ xs. GoesOut v x xs) (sym (more_are m n old new few)) (wrote_more v w x (take m old) (take n new) first more)

-- the room is as long as before
pub long_more : (m : ℕ) (old new : List ℕ) → m ≤ length old → length new ≡ length (drop m old) → length (take m old ++ new) ≡ length old
long_more m old new few same =
    let joined = length-append (take m old) new in
    let first = length-take-le m old few in
    let rest = length-drop m old in
    omega (arith, joined, first, rest, same)

-- behind the frames and the one more, the room is as it was at first
pub behind_more : (m n : ℕ) (old new initial : List ℕ) → m ≤ length old → drop n new ≡ drop n (drop m old) → drop m old ≡ drop m initial → drop (m + n) (take m old ++ new) ≡ drop (m + n) initial
behind_more m n old new initial few same before =
    ap (λ k. drop (k + n) (take m old ++ new)) (sym (length-take-le m old few))
    ∙ (drop-append-add (take m old) new n ∙ (same ∙ (ap (drop n) before ∙ drop-drop n m initial)))
