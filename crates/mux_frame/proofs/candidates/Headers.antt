-- The header of a frame that is whole at the front.
use Rattle.std.specs.Prelude.{◌≡◌, ℕ, ◌+◌, ◌-◌, ◌*◌, ◌/◌, ◌%◌, ◌<◌, ◌≤◌, ◌==◌, nat_lt, Bool, true, false, List, [], ◌∷◌, length, take, drop, Option, None, Some, slice_get, slice_index, unwrap_or, if◌then◌else◌}
use Rattle.std.proofs.Common.{refl, sym, ap, subst, arith, ◌∙◌}
use Rattle.std.proofs.lemmas.List.{drop-drop}
use Rattle.std.proofs.lemmas.Bool.{eqb-true, eqb-false, ltb-true}
use Rattle.mux_frame.specs.Spelling.{flag, most_info}
use Rattle.mux_frame.specs.declared.frame.Kind.{Kind}
use Rattle.mux_frame.specs.declared.frame.Kind.TheVariants.{Uih}
use Rattle.mux_frame.specs.Judging.{Header, Verdict, unfinished, refused, fits, frame_at, cr_in, pf_in, kind_in, header_of, by_second_length, by_kind, by_control, by_flag, by_end, by_rest, by_header, verdict_on}
use Rattle.mux_frame.specs.Deframing.{decision_on, next_in}
use Rattle.mux_frame.specs.Frames.{Frame}
use Rattle.mux_frame.specs.Judged.{IsAtPlace}

-- verdicts that fit have one header
pub same_header : (h k : Header) → fits h ≡ fits k → h ≡ k
same_header h k e = cc

not_unfinished : (h : Header) → unfinished ≡ fits h → ⊥
not_unfinished h e = cc

-- what is refused doesn't fit
pub not_refused : (h : Header) → refused ≡ fits h → ⊥
not_refused h e = cc

by_flag-at : (b : Bool) (h k : Header) → (if b then fits h else refused) ≡ fits k → h ≡ k
by_flag-at true h k e = same_header h k e
by_flag-at false h k e = absurd (not_refused k e)

by_flag_same : (h k : Header) (close : Option ℕ) → by_flag h close ≡ fits k → h ≡ k
by_flag_same h k None e = absurd (not_unfinished k e)
by_flag_same h k (Some x) e = by_flag-at (x == flag) h k e

by_check-at : (b : Bool) (h k : Header) (close : Option ℕ) → (if b then by_flag h close else refused) ≡ fits k → h ≡ k
by_check-at true h k close e = by_flag_same h k close e
by_check-at false h k close e = absurd (not_refused k e)

by_end_same : (h k : Header) (check close : Option ℕ) → by_end h check close ≡ fits k → h ≡ k
unfolding by_end
by_end_same h k None close e = absurd (not_unfinished k e)
by_end_same h k (Some x) close e = by_check-at (x == h.check) h k close e

by_rest_same : (t : List ℕ) (v : Verdict) (k : Header) → by_rest t v ≡ fits k → v ≡ fits k
by_rest_same t unfinished k e = absurd (not_unfinished k e)
by_rest_same t refused k e = absurd (not_refused k e)
by_rest_same t (fits h) k e = ap fits (by_end_same h k _ _ e)

verdict_same : (n1 : ℕ) (t : List ℕ) (k : Header) → verdict_on n1 t ≡ fits k → by_header n1 (slice_get t 0) (slice_get t 1) (slice_get t 2) (slice_get t 3) ≡ fits k
unfolding verdict_on
verdict_same n1 t k e = by_rest_same t _ k e

decision-at : (b : Bool) (n1 : ℕ) (t : List ℕ) (k : Header) → (if b then verdict_on n1 t else refused) ≡ fits k → by_header n1 (slice_get t 0) (slice_get t 1) (slice_get t 2) (slice_get t 3) ≡ fits k
decision-at true n1 t k e = verdict_same n1 t k e
decision-at false n1 t k e = absurd (not_refused k e)

-- it is the header that the first four octets behind the flag say
pub front_header : (n1 : ℕ) (u : List ℕ) (k : Header) → fits k ≡ decision_on n1 u → by_header n1 (slice_get u 1) (slice_get u 2) (slice_get u 3) (slice_get u 4) ≡ fits k
front_header n1 [] k e = absurd (not_unfinished k (sym e))
front_header n1 (x ∷ t) k e = decision-at (x == flag) n1 t k (sym e)

-- What a header's fields are.

pub record IsHeaderOf (x y l : ℕ) (h : Header) : Type 0 where
  pub dlci : h.dlci ≡ x / 4
  pub low : x / 4 < 62
  pub kind : kind_in y ≡ Some h.kind
  pub cr : h.cr ≡ cr_in x
  pub pf : h.pf ≡ pf_in y
  pub size : h.size ≡ 4 - l % 2

odd_length : (l : ℕ) → (l % 2 == 1) ≡ true → 3 ≡ 4 - l % 2
odd_length l e = let o = eqb-true (l % 2) 1 e in omega (arith, o)

even_length : (l : ℕ) → (l % 2 == 1) ≡ false → 4 ≡ 4 - l % 2
even_length l e = let o = eqb-false (l % 2) 1 e in omega (arith, o)

module _ (most x y l : ℕ) (k : Kind) (low : x / 4 < 62) (kind : kind_in y ≡ Some k) where
  header_with : (h : Header) (n : ℕ) (indicator : List ℕ) → 2 + length indicator ≡ 4 - l % 2 → header_of x y k n indicator ≡ h → IsHeaderOf x y l h
  header_with h n indicator e same = subst (IsHeaderOf x y l) same (record { dlci = refl; low = low; kind = kind; cr = refl; pf = refl; size = e })

  second-at : (m : ℕ) (h : Header) (b : Bool) → 4 ≡ 4 - l % 2 → (if b then refused else fits (header_of x y k (l / 2 + 128 * m) (l ∷ m ∷ []))) ≡ fits h → IsHeaderOf x y l h
  second-at m h true e d = absurd (not_refused h d)
  second-at m h false e d = header_with h (l / 2 + 128 * m) (l ∷ m ∷ []) e (same_header _ h d)

  second_parts : (m : Option ℕ) (h : Header) → 4 ≡ 4 - l % 2 → by_second_length most x y k l m ≡ fits h → IsHeaderOf x y l h
  second_parts None h e d = absurd (not_unfinished h d)
  second_parts (Some m) h e d = second-at m h (nat_lt most (l / 2 + 128 * m)) e d

  first-at : (m : Option ℕ) (h : Header) (b c : Bool) → (l % 2 == 1) ≡ c → (if b then refused else (if c then fits (header_of x y k (l / 2) (l ∷ [])) else by_second_length most x y k l m)) ≡ fits h → IsHeaderOf x y l h
  first-at m h true c e d = absurd (not_refused h d)
  first-at m h false true e d = header_with h (l / 2) (l ∷ []) (odd_length l e) (same_header _ h d)
  first-at m h false false e d = second_parts m h (even_length l e) d

kind_parts : (n1 x y l : ℕ) (m : Option ℕ) (o : Option Kind) (h : Header) → x / 4 < 62 → kind_in y ≡ o → by_kind n1 x y o (Some l) m ≡ fits h → IsHeaderOf x y l h
kind_parts n1 x y l m None h low e d = absurd (not_refused h d)
kind_parts n1 x y l m (Some k) h low e d = first-at (most_info n1 k) x y l k low e m h (nat_lt (most_info n1 k) (l / 2)) (l % 2 == 1) refl d

address_parts : (n1 x y l : ℕ) (m : Option ℕ) (h : Header) (b c : Bool) → nat_lt (x / 4) 62 ≡ c → (if b then (if c then by_control n1 x (Some y) (Some l) m else refused) else refused) ≡ fits h → IsHeaderOf x y l h
address_parts n1 x y l m h false c e d = absurd (not_refused h d)
address_parts n1 x y l m h true false e d = absurd (not_refused h d)
address_parts n1 x y l m h true true e d = kind_parts n1 x y l m (kind_in y) h (ltb-true (x / 4) 62 e) refl d

header_parts : (n1 x y l : ℕ) (m : Option ℕ) (h : Header) → by_header n1 (Some x) (Some y) (Some l) m ≡ fits h → IsHeaderOf x y l h
unfolding by_header
header_parts n1 x y l m h d = address_parts n1 x y l m h (x % 2 == 1) (nat_lt (x / 4) 62) refl d

-- so the fields are those of the three octets behind the flag
pub front_parts : (n1 : ℕ) (u : List ℕ) (h : Header) → fits h ≡ decision_on n1 u → 4 ≤ length u → IsHeaderOf (slice_index u 1) (slice_index u 2) (slice_index u 3) h
front_parts n1 [] h d n = absurd (omega (arith, n))
front_parts n1 (f ∷ []) h d n = absurd (omega (arith, n))
front_parts n1 (f ∷ x ∷ []) h d n = absurd (omega (arith, n))
front_parts n1 (f ∷ x ∷ y ∷ []) h d n = absurd (omega (arith, n))
front_parts n1 (f ∷ x ∷ y ∷ l ∷ t) h d n = header_parts n1 x y l (slice_get t 0) h (front_header n1 (f ∷ x ∷ y ∷ l ∷ t) h d)

abbrev frame_with_fields : ℕ → ℕ → Kind → List ℕ → Option Frame
frame_with_fields x y k info = Some (record { dlci = x / 4; kind = k; cr = cr_in x; pf = pf_in y; info = info })

same_frame : (x y : ℕ) (k : Kind) (info : List ℕ) (h : Header) (t : List ℕ) → h.dlci ≡ x / 4 → k ≡ h.kind → h.cr ≡ cr_in x → h.pf ≡ pf_in y → info ≡ take h.info_len (drop h.size t) → frame_with_fields x y k info ≡ Some (frame_at h t)
same_frame x y k info h t d e c p i = rw (← d, e, ← c, ← p, i) refl

-- and the frame is that of those fields and of what stands between them and the check octet
pub front_view : (n1 place size : ℕ) (u : List ℕ) (k : Kind) (o : Option Kind) (a : IsAtPlace n1 u place) → 4 ≤ length u → k ≡ unwrap_or o Uih → o ≡ kind_in (slice_index u 2) → size ≡ 4 - slice_index u 3 % 2 → frame_with_fields (slice_index u 1) (slice_index u 2) k (take (1 + place - (1 + size)) (drop (1 + size) u)) ≡ next_in n1 u
front_view n1 place size u k o a n e f g =
    let p = front_parts n1 u a.header a.decision n in
    let same : k ≡ a.header.kind = e ∙ ap (λ (z : Option Kind). unwrap_or z Uih) (f ∙ p.kind) in
    let s : size ≡ a.header.size = g ∙ sym p.size in
    let l = a.place_is in
    let i : 1 + place - (1 + size) ≡ a.header.info_len = omega (arith, l, s) in
    let d : drop (1 + size) u ≡ drop a.header.size (drop 1 u) = ap (λ z. drop (1 + z) u) s ∙ sym (drop-drop a.header.size 1 u) in
    same_frame (slice_index u 1) (slice_index u 2) k (take (1 + place - (1 + size)) (drop (1 + size) u)) a.header (drop 1 u) p.dlci same p.cr p.pf (ap (λ z. take z (drop (1 + size) u)) i ∙ ap (take a.header.info_len) d) ∙ a.frame
