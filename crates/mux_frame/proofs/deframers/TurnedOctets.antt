-- A ring whose first octets are moved behind the others.
use Rattle.circular_buffer.specs.Buffer.{Buffer, buffer}
use Rattle.std.proofs.Common.{◌≡◌, ℕ, ◌+◌, ◌-◌, ◌≤◌, List, [], ◌++◌, min, length, take, drop, ap, ◌∙◌, append_assoc, length-append, arith}
use Rattle.std.proofs.lemmas.List.{append-nil, drop-append-le, drop-drop, drop_all, length-drop, length-take-le, take-append-le, take_all}
use Rattle.std.proofs.Math.Seq.{take-add}
use Rattle.mux_frame.specs.Places.{turned}

-- moving on from a place
pub turned_on : (place count : ℕ) (ring : Buffer ℕ) → count ≤ length (drop place ring.items) → turned count (turned place ring) ≡ turned (place + count) ring
turned_on place count ring l =
    let u = ring.items in
    ap (λ xs. buffer xs ring.capacity)
    (rw (drop-append-le count (drop place u) (take place u) l, take-append-le count (drop place u) (take place u) l, drop-drop count place u, take-add place count u)
    (append_assoc (drop (place + count) u) (take place u) (take count (drop place u))))

-- what is read into a piece and appended again
pub turned_piece : (u d e : List ℕ) (capacity n m : ℕ)
    → length d ≤ length u
    → length u ≤ capacity
    → n ≡ min (length d) (length u)
    → e ≡ take n u ++ drop n d
    → m ≡ min (length e) (capacity - length (drop n u))
    → drop n u ++ take m e ≡ drop (length d) u ++ take (length d) u
turned_piece u d e capacity n m within room count read filled =
    let same : n ≡ length d = omega (arith, count, within) in
    let none : drop n d ≡ [] = ap (λ i. drop i d) same ∙ drop_all (length d) d (omega arith) in
    let all : e ≡ take n u = read ∙ ap (λ xs. take n u ++ xs) none ∙ append-nil (take n u) in
    let size : length e ≡ n = ap length all ∙ length-take-le n u (omega (arith, same, within)) in
    let left = length-drop n u in
    let most : m ≡ length e = omega (arith, filled, size, left, room, same, within) in
    let taken : take m e ≡ e = ap (λ i. take i e) most ∙ take_all (length e) e (omega arith) in
    ap (λ xs. drop n u ++ xs) (taken ∙ all) ∙ ap (λ i. drop i u ++ take i u) same

-- no octet comes or goes
pub turned_length : (count : ℕ) (ring : Buffer ℕ) → count ≤ length ring.items → length (turned count ring).items ≡ length ring.items
turned_length count ring l =
    let d = length-drop count ring.items in
    let t = length-take-le count ring.items l in
    let s = length-append (drop count ring.items) (take count ring.items) in
    omega (arith, l, d, t, s)
