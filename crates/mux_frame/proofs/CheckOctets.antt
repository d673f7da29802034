-- The long division, an octet at a time.
use Rattle.std.proofs.Common.{◌≡◌, ℕ, zero, suc, ◌+◌, ◌-◌, ◌*◌, ◌%◌, ◌<◌, ◌≤◌, Bool, true, false, not, List, [], ◌∷◌, ◌++◌, length, drop, map, refl, sym, ap, ◌∙◌, arith, add-one, drop-cons}
use Rattle.std.proofs.lemmas.List.{drop_all}
use Rattle.std.specs.Prelude.{◌==◌, slice_index, nat_lt, bit_xor}
use Rattle.std.specs.Int.{bit_at}
use Rattle.std.proofs.lemmas.Nat.Bits.{bit_at_xor, bit_at-lt}
use Rattle.std.proofs.lemmas.Nat.{xor_lt}
use Rattle.std.proofs.lemmas.Bool.{agree_below, agree_below_at, eqb-true, ltb-true}
use Rattle.mux_frame.specs.CheckOctet.{octet_bits, bits_of, number_of, bit_sum, added, divided_once, divided, remainder, zeros, first_inverted, check_octet_of}
use Rattle.mux_frame.specs.declared.check.TheConstants.{REMAINDERS}

bit_sum_assoc : (x y z : Bool) → bit_sum x (bit_sum y z) ≡ bit_sum (bit_sum x y) z
bit_sum_assoc true true true = refl
bit_sum_assoc true true false = refl
bit_sum_assoc true false true = refl
bit_sum_assoc true false false = refl
bit_sum_assoc false y z = refl

-- what one place of the division makes of eight bits that wait to be added
abbrev shifted : List Bool → List Bool
shifted (r0 ∷ r1 ∷ r2 ∷ r3 ∷ r4 ∷ r5 ∷ r6 ∷ r7 ∷ []) = r1 ∷ r2 ∷ r3 ∷ r4 ∷ r5 ∷ bit_sum r0 r6 ∷ bit_sum r0 r7 ∷ r0 ∷ []
shifted bs = bs

abbrev shifted_times : ℕ → List Bool → List Bool
shifted_times zero bs = bs
shifted_times (suc n) bs = shifted_times n (shifted bs)

module _ (r1 r2 r3 r4 r5 r6 r7 l1 l2 l3 l4 l5 l6 l7 l8 : Bool) (ls : List Bool) where
  divided_at : (r0 : Bool) → divided_once (added (r0 ∷ r1 ∷ r2 ∷ r3 ∷ r4 ∷ r5 ∷ r6 ∷ r7 ∷ []) (false ∷ l1 ∷ l2 ∷ l3 ∷ l4 ∷ l5 ∷ l6 ∷ l7 ∷ l8 ∷ ls)) ≡ added (shifted (r0 ∷ r1 ∷ r2 ∷ r3 ∷ r4 ∷ r5 ∷ r6 ∷ r7 ∷ [])) (l1 ∷ l2 ∷ l3 ∷ l4 ∷ l5 ∷ l6 ∷ l7 ∷ l8 ∷ ls)
  divided_at true = rw (bit_sum_assoc true r6 l6, bit_sum_assoc true r7 l7) refl
  divided_at false = refl

-- eight places, where eight bits wait to be added to an octet of zeros and what follows
divided_eight : (r0 r1 r2 r3 r4 r5 r6 r7 l1 l2 l3 l4 l5 l6 l7 l8 : Bool) (ls : List Bool) → divided 8 (added (r0 ∷ r1 ∷ r2 ∷ r3 ∷ r4 ∷ r5 ∷ r6 ∷ r7 ∷ []) (zeros ++ l1 ∷ l2 ∷ l3 ∷ l4 ∷ l5 ∷ l6 ∷ l7 ∷ l8 ∷ ls)) ≡ added (shifted_times 8 (r0 ∷ r1 ∷ r2 ∷ r3 ∷ r4 ∷ r5 ∷ r6 ∷ r7 ∷ [])) (l1 ∷ l2 ∷ l3 ∷ l4 ∷ l5 ∷ l6 ∷ l7 ∷ l8 ∷ ls)
divided_eight r0 r1 r2 r3 r4 r5 r6 r7 l1 l2 l3 l4 l5 l6 l7 l8 ls =
    ap (divided 7) (divided_at r1 r2 r3 r4 r5 r6 r7 false false false false false false false l1 (l2 ∷ l3 ∷ l4 ∷ l5 ∷ l6 ∷ l7 ∷ l8 ∷ ls) r0)
    ∙ ap (divided 6) (divided_at r2 r3 r4 r5 (bit_sum r0 r6) (bit_sum r0 r7) r0 false false false false false false l1 l2 (l3 ∷ l4 ∷ l5 ∷ l6 ∷ l7 ∷ l8 ∷ ls) r1)
    ∙ ap (divided 5) (divided_at r3 r4 r5 (bit_sum r0 r6) (bit_sum r1 (bit_sum r0 r7)) (bit_sum r1 r0) r1 false false false false false l1 l2 l3 (l4 ∷ l5 ∷ l6 ∷ l7 ∷ l8 ∷ ls) r2)
    ∙ ap (divided 4) (divided_at r4 r5 (bit_sum r0 r6) (bit_sum r1 (bit_sum r0 r7)) (bit_sum r2 (bit_sum r1 r0)) (bit_sum r2 r1) r2 false false false false l1 l2 l3 l4 (l5 ∷ l6 ∷ l7 ∷ l8 ∷ ls) r3)
    ∙ ap (divided 3) (divided_at r5 (bit_sum r0 r6) (bit_sum r1 (bit_sum r0 r7)) (bit_sum r2 (bit_sum r1 r0)) (bit_sum r3 (bit_sum r2 r1)) (bit_sum r3 r2) r3 false false false l1 l2 l3 l4 l5 (l6 ∷ l7 ∷ l8 ∷ ls) r4)
    ∙ ap (divided 2) (divided_at (bit_sum r0 r6) (bit_sum r1 (bit_sum r0 r7)) (bit_sum r2 (bit_sum r1 r0)) (bit_sum r3 (bit_sum r2 r1)) (bit_sum r4 (bit_sum r3 r2)) (bit_sum r4 r3) r4 false false l1 l2 l3 l4 l5 l6 (l7 ∷ l8 ∷ ls) r5)
    ∙ ap (divided 1) (divided_at (bit_sum r1 (bit_sum r0 r7)) (bit_sum r2 (bit_sum r1 r0)) (bit_sum r3 (bit_sum r2 r1)) (bit_sum r4 (bit_sum r3 r2)) (bit_sum r5 (bit_sum r4 r3)) (bit_sum r5 r4) r5 false l1 l2 l3 l4 l5 l6 l7 (l8 ∷ ls) (bit_sum r0 r6))
    ∙ ap (divided 0) (divided_at (bit_sum r2 (bit_sum r1 r0)) (bit_sum r3 (bit_sum r2 r1)) (bit_sum r4 (bit_sum r3 r2)) (bit_sum r5 (bit_sum r4 r3)) (bit_sum (bit_sum r0 r6) (bit_sum r5 r4)) (bit_sum (bit_sum r0 r6) r5) (bit_sum r0 r6) l1 l2 l3 l4 l5 l6 l7 l8 ls (bit_sum r1 (bit_sum r0 r7)))

-- the table is right at each octet
abbrev same_bits : List Bool → List Bool → Bool
same_bits [] [] = true
same_bits (true ∷ xs) (true ∷ ys) = same_bits xs ys
same_bits (false ∷ xs) (false ∷ ys) = same_bits xs ys
same_bits _ _ = false

same_bits_same : (xs ys : List Bool) → same_bits xs ys ≡ true → xs ≡ ys
same_bits_same [] [] e = refl
same_bits_same (true ∷ xs) (true ∷ ys) e = ap (λ zs. true ∷ zs) (same_bits_same xs ys e)
same_bits_same (false ∷ xs) (false ∷ ys) e = ap (λ zs. false ∷ zs) (same_bits_same xs ys e)
same_bits_same [] (y ∷ ys) e = cc
same_bits_same (true ∷ xs) [] e = cc
same_bits_same (false ∷ xs) [] e = cc
same_bits_same (true ∷ xs) (false ∷ ys) e = cc
same_bits_same (false ∷ xs) (true ∷ ys) e = cc

table_computed : agree_below (λ x. same_bits (shifted_times 8 (octet_bits x)) (octet_bits (slice_index REMAINDERS x))) (λ _. true) 256 ≡ true
table_computed = refl

-- eight places of the division make of an octet what the table holds for it
pub table_right : (x : ℕ) → x < 256 → shifted_times 8 (octet_bits x) ≡ octet_bits (slice_index REMAINDERS x)
table_right x h = same_bits_same _ _ (agree_below_at (λ y. same_bits (shifted_times 8 (octet_bits y)) (octet_bits (slice_index REMAINDERS y))) (λ _. true) 256 x table_computed h)

bit_sum_at : (x y : ℕ) → x < 2 → y < 2 → bit_sum (x == 1) (y == 1) ≡ ((x + y) % 2 == 1)
bit_sum_at zero zero h k = refl
bit_sum_at zero (suc zero) h k = refl
bit_sum_at (suc zero) zero h k = refl
bit_sum_at (suc zero) (suc zero) h k = refl
bit_sum_at (suc (suc x)) y h k = absurd (omega arith)
bit_sum_at x (suc (suc y)) h k = absurd (omega arith)

-- the bit of a sum without carry
bit_of_xor : (x y i : ℕ) → bit_sum (bit_at x i == 1) (bit_at y i == 1) ≡ (bit_at (bit_xor x y) i == 1)
bit_of_xor x y i = bit_sum_at (bit_at x i) (bit_at y i) (bit_at-lt x i) (bit_at-lt y i) ∙ ap (λ b. b == 1) (sym (bit_at_xor x y i))

octet_added : (x y : ℕ) (ls : List Bool) → added (octet_bits x) (octet_bits y ++ ls) ≡ octet_bits (bit_xor x y) ++ ls
octet_added x y ls = rw (bit_of_xor x y 0, bit_of_xor x y 1, bit_of_xor x y 2, bit_of_xor x y 3, bit_of_xor x y 4, bit_of_xor x y 5, bit_of_xor x y 6, bit_of_xor x y 7) refl

bit_sum_zero : (b : Bool) → bit_sum b false ≡ b
bit_sum_zero true = refl
bit_sum_zero false = refl

zeros_added : (r0 r1 r2 r3 r4 r5 r6 r7 : Bool) (ls : List Bool) → added (r0 ∷ r1 ∷ r2 ∷ r3 ∷ r4 ∷ r5 ∷ r6 ∷ r7 ∷ []) (zeros ++ ls) ≡ (r0 ∷ r1 ∷ r2 ∷ r3 ∷ r4 ∷ r5 ∷ r6 ∷ r7 ∷ []) ++ ls
zeros_added r0 r1 r2 r3 r4 r5 r6 r7 ls = rw (bit_sum_zero r0, bit_sum_zero r1, bit_sum_zero r2, bit_sum_zero r3, bit_sum_zero r4, bit_sum_zero r5, bit_sum_zero r6, bit_sum_zero r7) refl

-- the register after these octets
abbrev pub registered : ℕ → List ℕ → ℕ
registered r [] = r
registered r (x ∷ xs) = registered (slice_index REMAINDERS (bit_xor r x)) xs

divided_plus : (n m : ℕ) (bs : List Bool) → divided (n + m) bs ≡ divided m (divided n bs)
divided_plus zero m bs = let e : 0 + m ≡ m = omega arith in rw e refl
divided_plus (suc n) m bs = let e : suc n + m ≡ suc (n + m) = omega arith in rw e (divided_plus n m (divided_once bs))

-- one octet of the division: what the table holds waits to be added to what follows
divided_octet : (x : ℕ) (l1 l2 l3 l4 l5 l6 l7 l8 : Bool) (ls : List Bool) → x < 256 → divided 8 (octet_bits x ++ l1 ∷ l2 ∷ l3 ∷ l4 ∷ l5 ∷ l6 ∷ l7 ∷ l8 ∷ ls) ≡ added (octet_bits (slice_index REMAINDERS x)) (l1 ∷ l2 ∷ l3 ∷ l4 ∷ l5 ∷ l6 ∷ l7 ∷ l8 ∷ ls)
divided_octet x l1 l2 l3 l4 l5 l6 l7 l8 ls h =
    ap (divided 8) (sym (zeros_added (bit_at x 0 == 1) (bit_at x 1 == 1) (bit_at x 2 == 1) (bit_at x 3 == 1) (bit_at x 4 == 1) (bit_at x 5 == 1) (bit_at x 6 == 1) (bit_at x 7 == 1) (l1 ∷ l2 ∷ l3 ∷ l4 ∷ l5 ∷ l6 ∷ l7 ∷ l8 ∷ ls)))
    ∙ divided_eight (bit_at x 0 == 1) (bit_at x 1 == 1) (bit_at x 2 == 1) (bit_at x 3 == 1) (bit_at x 4 == 1) (bit_at x 5 == 1) (bit_at x 6 == 1) (bit_at x 7 == 1) l1 l2 l3 l4 l5 l6 l7 l8 ls
    ∙ ap (λ bs. added bs (l1 ∷ l2 ∷ l3 ∷ l4 ∷ l5 ∷ l6 ∷ l7 ∷ l8 ∷ ls)) (table_right x h)

-- the same before the bits that follow a first octet
divided_next : (xs : List ℕ) (x : ℕ) → x < 256 → divided 8 (octet_bits x ++ (bits_of xs ++ zeros)) ≡ added (octet_bits (slice_index REMAINDERS x)) (bits_of xs ++ zeros)
divided_next [] x h = divided_octet x false false false false false false false false [] h
divided_next (y ∷ ys) x h = divided_octet x (bit_at y 0 == 1) (bit_at y 1 == 1) (bit_at y 2 == 1) (bit_at y 3 == 1) (bit_at y 4 == 1) (bit_at y 5 == 1) (bit_at y 6 == 1) (bit_at y 7 == 1) (bits_of ys ++ zeros) h

abbrev entry_small : agree_below (λ x. nat_lt (slice_index REMAINDERS x) 256) (λ _. true) 256 ≡ true
entry_small = refl

entry_lt : (x : ℕ) → x < 256 → slice_index REMAINDERS x < 256
entry_lt x h = ltb-true (slice_index REMAINDERS x) 256 (agree_below_at (λ y. nat_lt (slice_index REMAINDERS y) 256) (λ _. true) 256 x entry_small h)

-- over octets the register stays an octet
pub registered_lt : (xs : List ℕ) (r : ℕ) → r < 256 → ((i : ℕ) → slice_index xs i < 256) → registered r xs < 256
registered_lt [] r h k = h
registered_lt (x ∷ xs) r h k = registered_lt xs (slice_index REMAINDERS (bit_xor r x)) (entry_lt (bit_xor r x) (xor_lt 8 r x h (k 0))) (λ i. k (suc i))

divided_all : (xs : List ℕ) (r : ℕ) → r < 256 → ((i : ℕ) → slice_index xs i < 256) → divided (8 * length xs) (added (octet_bits r) (bits_of xs ++ zeros)) ≡ octet_bits (registered r xs)
divided_all [] r h k = zeros_added (bit_at r 0 == 1) (bit_at r 1 == 1) (bit_at r 2 == 1) (bit_at r 3 == 1) (bit_at r 4 == 1) (bit_at r 5 == 1) (bit_at r 6 == 1) (bit_at r 7 == 1) []
divided_all (x ∷ xs) r h k =
    let n : 8 * length (x ∷ xs) ≡ 8 + 8 * length xs = omega arith in
    let small : bit_xor r x < 256 = xor_lt 8 r x h (k 0) in
    ap (λ m. divided m (added (octet_bits r) (bits_of (x ∷ xs) ++ zeros))) n
    ∙ divided_plus 8 (8 * length xs) (added (octet_bits r) (bits_of (x ∷ xs) ++ zeros))
    ∙ ap (λ bs. divided (8 * length xs) (divided 8 bs)) (octet_added r x (bits_of xs ++ zeros))
    ∙ ap (divided (8 * length xs)) (divided_next xs (bit_xor r x) small)
    ∙ divided_all xs (slice_index REMAINDERS (bit_xor r x)) (entry_lt (bit_xor r x) small) (λ i. k (suc i))

complement_computed : agree_below (λ x. number_of (map not (octet_bits x)) == 255 - x) (λ _. true) 256 ≡ true
complement_computed = refl

complement : (x : ℕ) → x < 256 → number_of (map not (octet_bits x)) ≡ 255 - x
complement x h = eqb-true (number_of (map not (octet_bits x))) (255 - x) (agree_below_at (λ y. number_of (map not (octet_bits y)) == 255 - y) (λ _. true) 256 x complement_computed h)

first_added : (xs : List ℕ) → first_inverted (bits_of xs ++ zeros) ≡ added (octet_bits 255) (bits_of xs ++ zeros)
first_added [] = refl
first_added (x ∷ xs) = refl

length-added : (bs cs : List Bool) → length bs ≤ length cs → length (added bs cs) ≡ length cs
length-added [] cs h = refl
length-added (b ∷ bs) [] h = absurd (omega arith)
length-added (b ∷ bs) (c ∷ cs) h = ap suc (length-added bs cs (omega arith))

length-bits_of : (xs : List ℕ) → length (bits_of xs ++ zeros) ≡ 8 * length xs + 8
length-bits_of [] = refl
length-bits_of (x ∷ xs) = let h = length-bits_of xs in omega (arith, h)

places_of : (xs : List ℕ) → length (added (octet_bits 255) (bits_of xs ++ zeros)) - 8 ≡ 8 * length xs
places_of xs = let h = length-bits_of xs in let l : 8 ≤ length (bits_of xs ++ zeros) = omega (arith, h) in let e = length-added (octet_bits 255) (bits_of xs ++ zeros) l in omega (arith, h, e)

-- the table's way gives the check octet
pub check_octet_registered : (xs : List ℕ) → ((i : ℕ) → slice_index xs i < 256) → check_octet_of xs ≡ 255 - registered 255 xs
unfolding check_octet_of
check_octet_registered xs k =
    let small : 255 < 256 = omega arith in
    ap (λ bs. number_of (map not (remainder bs))) (first_added xs)
    ∙ ap (λ n. number_of (map not (divided n (added (octet_bits 255) (bits_of xs ++ zeros))))) (places_of xs)
    ∙ ap (λ bs. number_of (map not bs)) (divided_all xs 255 small k)
    ∙ complement (registered 255 xs) (registered_lt xs 255 small k)

-- one octet further by the table, the register over the others still comes to what it is over all
pub registered_step : (xs : List ℕ) (i r v : ℕ) → i < length xs → v ≡ bit_xor r (slice_index xs i) → registered r (drop i xs) ≡ registered 255 xs → registered (slice_index REMAINDERS v) (drop (i + 1) xs) ≡ registered 255 xs
registered_step xs i r v h e k =
    let d : drop i xs ≡ slice_index xs i ∷ drop (i + 1) xs = rw (add-one, drop-cons xs i 0) refl in
    rw e (sym (ap (registered r) d) ∙ k)

-- and behind the last octet its complement is the check octet
pub registered_end : (xs : List ℕ) (i r : ℕ) → length xs ≤ i → ((j : ℕ) → slice_index xs j < 256) → registered r (drop i xs) ≡ registered 255 xs → 255 - r ≡ check_octet_of xs
registered_end xs i r h k e =
    let d : drop i xs ≡ [] = drop_all i xs h in
    let same : r ≡ registered 255 xs = sym (ap (registered r) d) ∙ e in
    ap (λ n. 255 - n) same ∙ sym (check_octet_registered xs k)
