-- A frame of data is written in parts.
use Rattle.std.specs.Prelude.{◌≡◌, ℕ, ◌≤◌, ◌+◌, ◌*◌, ◌/◌, ◌%◌, nat_lt, true, false, List, [], ◌∷◌, ◌++◌, length, drop, refl}
use Rattle.std.proofs.Common.{ap, sym, ◌∙◌, arith, slice_set, take}
use Rattle.std.proofs.Math.Seq.{drop-append-add, take-append-add}
use Rattle.std.proofs.lemmas.List.{append_assoc, drop-drop}
use Rattle.mux_frame.specs.CheckOctet.{check_octet_of}
use Rattle.mux_frame.specs.Frames.{Frame}
use Rattle.mux_frame.specs.declared.frame.Kind.TheVariants.{Uih}
use Rattle.mux_frame.specs.Spelling.{flag, address_of, control_of, header, indicator_of, spelled, body_of}

two_set : (x y : ℕ) (rest : List ℕ) → 2 ≤ length rest → slice_set (slice_set rest 0 x) 1 y ≡ x ∷ y ∷ drop 2 rest
two_set x y [] long = absurd (omega (arith, long))
two_set x y (a ∷ []) long = absurd (omega (arith, long))
two_set x y (a ∷ b ∷ rest) long = refl

-- two parts, and two octets set behind them
pub two_behind : (a b rest : List ℕ) (x y : ℕ) → 2 ≤ length rest → take (length a + (length b + 2)) (a ++ (b ++ slice_set (slice_set rest 0 x) 1 y)) ≡ a ++ (b ++ x ∷ y ∷ [])
two_behind a b rest x y long =
    rw (two_set x y rest long) (take-append-add a (b ++ x ∷ y ∷ drop 2 rest) (length b + 2) ∙ ap (λ xs. a ++ xs) (take-append-add b (x ∷ y ∷ drop 2 rest) 2))

-- behind these stands what stood there
pub rest_behind : (a b all : List ℕ) (x y : ℕ) → 2 ≤ length (drop (length b) (drop (length a) all)) → drop (length a + (length b + 2)) (a ++ (b ++ slice_set (slice_set (drop (length b) (drop (length a) all)) 0 x) 1 y)) ≡ drop (length a + (length b + 2)) all
rest_behind a b all x y long =
    let rest = drop (length b) (drop (length a) all) in
    rw (two_set x y rest long) (drop-append-add a (b ++ x ∷ y ∷ drop 2 rest) (length b + 2)
    ∙ (drop-append-add b (x ∷ y ∷ drop 2 rest) 2 ∙ (drop-drop 2 (length b) (drop (length a) all) ∙ drop-drop (length b + 2) (length a) all)))

joined : (h i c g : List ℕ) → h ++ (i ++ (c ++ g)) ≡ ((h ++ i) ++ c) ++ g
joined h i c g = simp append_assoc

-- the octets before the information, the information, its check octet and a flag are a frame of data
parts_spelled : (f : Frame) (indicator : List ℕ) → f.kind ≡ Uih → f.pf ≡ false → indicator ≡ indicator_of (length f.info) → (flag ∷ address_of f ∷ 239 ∷ indicator) ++ (f.info ++ check_octet_of (address_of f ∷ 239 ∷ indicator) ∷ flag ∷ []) ≡ spelled f
unfolding body_of
parts_spelled f indicator k p e =
    let control : control_of f ≡ 239 = rw (k, p) refl in
    let h = header f (indicator_of (length f.info)) in
    rw (e, sym control) (ap (λ x. flag ∷ x) (joined h f.info (check_octet_of h ∷ []) (flag ∷ [])))

-- so it is where a length octet is enough
pub short_spelled : (f : Frame) (a : ℕ) (out : List ℕ) → f.kind ≡ Uih → f.pf ≡ false → nat_lt (length f.info) 128 ≡ true → a ≡ address_of f → out ≡ (flag ∷ a ∷ 239 ∷ (1 + 2 * length f.info) ∷ []) ++ (f.info ++ check_octet_of (a ∷ 239 ∷ (1 + 2 * length f.info) ∷ []) ∷ flag ∷ []) → out ≡ spelled f
short_spelled f a out k p few is e = e ∙ rw is (parts_spelled f ((1 + 2 * length f.info) ∷ []) k p (rw few refl))

-- and where it takes two
pub long_spelled : (f : Frame) (a : ℕ) (out : List ℕ) → f.kind ≡ Uih → f.pf ≡ false → nat_lt (length f.info) 128 ≡ false → a ≡ address_of f → out ≡ (flag ∷ a ∷ 239 ∷ (2 * (length f.info % 128)) ∷ (length f.info / 128) ∷ []) ++ (f.info ++ check_octet_of (a ∷ 239 ∷ (2 * (length f.info % 128)) ∷ (length f.info / 128) ∷ []) ∷ flag ∷ []) → out ≡ spelled f
long_spelled f a out k p many is e = e ∙ rw is (parts_spelled f ((2 * (length f.info % 128)) ∷ (length f.info / 128) ∷ []) k p (rw many refl))
