-- Flags behind one another.
use Rattle.std.proofs.Common.{◌≡◌, ℕ, zero, suc, ◌+◌, ◌-◌, ◌≤◌, ◌==◌, Bool, true, false, List, [], ◌∷◌, Option, None, Some, length, drop, not, refl, if◌then◌else◌, sym, ap, subst, ◌∙◌, arith}
use Rattle.std.specs.Prelude.{nat_lt, position, unwrap_or}
use Rattle.std.proofs.lemmas.List.Sums.{prefix_len-le-length}
use Rattle.std.proofs.lemmas.Bool.{eqb-true, ltb-false}
use Rattle.std.proofs.lemmas.List.{drop-drop}
use Rattle.mux_frame.specs.Spelling.{flag}
use Rattle.mux_frame.specs.Places.{flags_at_front, from_flag}
use Rattle.mux_frame.specs.Judging.{refused}
use Rattle.mux_frame.specs.Deframing.{decision_on, SameReading}
use Rattle.mux_frame.specs.Laws.{AreOctets}
use Rattle.mux_frame.proofs.deframers.DeframerOctets.{decision_flags, flag_reads, octets-drop, refused_drop, same_reading_none, same_reading_then}

-- the first octet that is no flag stands behind them
others_at : (b : Bool) (r n : ℕ) → n ≤ r → nat_lt n r ≡ b → unwrap_or (if b then Some n else None) r ≡ n
others_at true r n l e = refl
others_at false r n l e = let k = ltb-false n r e in omega (arith, l, k)

-- so its place, or the end where there is none, tells how many flags stand at the front
pub flags_before : (s : List ℕ) (r : Option ℕ) (n : ℕ) → r ≡ position (λ x. not (x == flag)) s → n ≡ unwrap_or r (length s) → n ≡ flags_at_front s
flags_before s r n e h =
    h ∙ ap (λ o. unwrap_or o (length s)) e ∙ others_at (nat_lt (flags_at_front s) (length s)) (length s) (flags_at_front s) (prefix_len-le-length (λ x. not (not (x == flag))) s) refl

-- a flag stands before others
run_decision-at : (n1 x k y : ℕ) (t : List ℕ) (b : Bool) → x ≡ flag → (y == flag) ≡ b → suc k ≡ (if b then 1 + flags_at_front t else 0) → refused ≡ decision_on n1 (x ∷ y ∷ t)
run_decision-at n1 x k y t true e h r = decision_flags n1 x y (x ∷ y ∷ t) (y ∷ t) refl e refl (eqb-true y flag h)
run_decision-at n1 x k y t false e h r = absurd (omega (arith, r))

run_if-at : (b : Bool) (t : List ℕ) → (if (not (not b)) then 1 + flags_at_front t else 0) ≡ (if b then 1 + flags_at_front t else 0)
run_if-at true t = refl
run_if-at false t = refl

run_if : (y : ℕ) (t : List ℕ) → flags_at_front (y ∷ t) ≡ (if y == flag then 1 + flags_at_front t else 0)
run_if y t = run_if-at (y == flag) t

run_decision : (n1 x k : ℕ) (t : List ℕ) → x ≡ flag → suc k ≡ flags_at_front t → refused ≡ decision_on n1 (x ∷ t)
run_decision n1 x k [] e r = absurd (omega (arith, r))
run_decision n1 x k (y ∷ t) e r = run_decision-at n1 x k y t (y == flag) e refl (r ∙ run_if y t)

-- behind a flag stand so many
run_reads : (n1 x r : ℕ) (t : List ℕ) → x ≡ flag → r ≡ flags_at_front t → AreOctets (x ∷ t) → SameReading n1 t (drop (r - 1) t) → SameReading n1 (x ∷ t) (drop r (x ∷ t))
run_reads n1 x zero t e q o h = same_reading_none n1 (x ∷ t)
run_reads n1 x (suc k) t e q o h =
    let one : suc k - 1 ≡ k = omega arith in
    same_reading_then n1 (x ∷ t) t (drop k t) (refused_drop n1 (x ∷ t) (run_decision n1 x k t e q) o) (subst (λ i. SameReading n1 t (drop i t)) one h)

flags_read-at : (n1 x : ℕ) (t : List ℕ) (b : Bool) → (x == flag) ≡ b → AreOctets (x ∷ t) → SameReading n1 t (drop (flags_at_front t - 1) t) → SameReading n1 (x ∷ t) (drop ((if b then 1 + flags_at_front t else 0) - 1) (x ∷ t))
flags_read-at n1 x t true e o h =
    let one : 1 + flags_at_front t - 1 ≡ flags_at_front t = omega arith in
    subst (λ i. SameReading n1 (x ∷ t) (drop i (x ∷ t))) (sym one) (run_reads n1 x (flags_at_front t) t (eqb-true x flag e) refl o h)
flags_read-at n1 x t false e o h =
    let none : 0 - 1 ≡ 0 = omega arith in
    subst (λ i. SameReading n1 (x ∷ t) (drop i (x ∷ t))) (sym none) (same_reading_none n1 (x ∷ t))

-- of flags behind one another all but the last go
pub flags_read : (n1 : ℕ) (s : List ℕ) → AreOctets s → SameReading n1 s (drop (flags_at_front s - 1) s)
flags_read n1 [] o = let none : 0 - 1 ≡ 0 = omega arith in subst (λ i. SameReading n1 [] (drop i [])) (sym none) (same_reading_none n1 [])
flags_read n1 (x ∷ t) o =
    subst (λ i. SameReading n1 (x ∷ t) (drop (i - 1) (x ∷ t))) (sym (run_if x t))
    (flags_read-at n1 x t (x == flag) refl o (flags_read n1 t (λ i. o (suc i))))

-- what stands before the first flag goes, and then all flags but one
pub begin_reads : (n1 place more : ℕ) (s left : List ℕ) → left ≡ drop place s → drop place s ≡ from_flag s → AreOctets s → (AreOctets left → (m : ℕ) → SameReading m left (drop more left)) → SameReading n1 s (drop (place + more) s)
begin_reads n1 place more s left e d o h =
    let r : SameReading n1 s (drop place s) = subst (SameReading n1 s) (sym d) (flag_reads n1 s) in
    let q : SameReading n1 (drop place s) (drop more (drop place s)) = subst (λ z. SameReading n1 z (drop more z)) e (h (subst AreOctets (sym e) (octets-drop place s o)) n1) in
    subst (SameReading n1 s) (drop-drop more place s) (same_reading_then n1 s (drop place s) (drop more (drop place s)) r q)
