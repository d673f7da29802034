-- What verdicts mean.
use Rattle.std.proofs.Common.{◌≡◌, ◌≢◌, ℕ, zero, suc, ◌+◌, ◌-◌, ◌*◌, ◌/◌, ◌%◌, ◌<◌, ◌≤◌, ◌==◌, Bool, true, false, List, [], ◌∷◌, ◌++◌, Option, None, Some, length, take, drop, refl, if◌then◌else◌, sym, ap, subst, ◌∙◌, arith, append_assoc, bit_or, length-append}
use Rattle.std.proofs.lemmas.List.{append-nil, length-replicate}
use Rattle.std.proofs.Math.Seq.{drop-append_seam, take-append_seam}
use Rattle.mux_frame.proofs.readings.LaterTexts.{cut_none}
use Rattle.std.specs.Prelude.{nat_lt, slice_get, slice_index, replicate}
use Rattle.std.proofs.lemmas.Bool.{agree_below, agree_below_at, eqb-true, ltb-true, ltb-false, eqb-false}
use Rattle.mux_frame.specs.CheckOctet.{check_octet_of}
use Rattle.mux_frame.specs.Frames.{Frame}
use Rattle.mux_frame.specs.Spelling.{flag, address_of, control_of, control_of_kind, Indicates, short, long, most_info, header, Spells}
use Rattle.mux_frame.specs.Reading.{IsCutShort}
use Rattle.mux_frame.specs.Judging.{Header, Verdict, refused, fits, cr_in, pf_in, kind_in, header_of, by_second_length, by_length, by_kind, by_control, by_header, by_flag, by_end, by_rest, verdict_on, IsRefused, IsWhole, Means}
use Rattle.mux_frame.specs.declared.frame.Kind.{Kind}
use Rattle.mux_frame.specs.declared.frame.Kind.TheVariants.{Sabm, Ua, Dm, Disc, Uih}
use Rattle.mux_frame.proofs.Spellings.{head_same, tail_same, indicator_tells, front_tells, regroup}

-- Octets and the fields that they hold.

kind_back : (k : Kind) (p : Bool) → kind_in (control_of_kind k + (if p then 0x10 else 0)) ≡ Some k
kind_back Sabm true = refl
kind_back Sabm false = refl
kind_back Ua true = refl
kind_back Ua false = refl
kind_back Dm true = refl
kind_back Dm false = refl
kind_back Disc true = refl
kind_back Disc false = refl
kind_back Uih true = refl
kind_back Uih false = refl

-- whether a control octet that has a kind is the one of that kind and its P/F
abbrev control_right : ℕ → Option Kind → Bool
control_right x None = true
control_right x (Some k) = x == control_of_kind k + (if pf_in x then 0x10 else 0)

control_computed : agree_below (λ x. control_right x (kind_in x)) (λ _. true) 256 ≡ true
control_computed = refl

control_is : (x : ℕ) (k : Kind) → x < 256 → kind_in x ≡ Some k → x ≡ control_of_kind k + (if pf_in x then 0x10 else 0)
control_is x k h e =
    let r : control_right x (kind_in x) ≡ true = agree_below_at (λ y. control_right y (kind_in y)) (λ _. true) 256 x control_computed h in
    eqb-true x (control_of_kind k + (if pf_in x then 0x10 else 0)) (subst (λ o. control_right x o ≡ true) e r)

-- both control octets of UIH, in one comparison
abbrev is_uih : Option Kind → Bool
is_uih None = false
is_uih (Some Sabm) = false
is_uih (Some Ua) = false
is_uih (Some Dm) = false
is_uih (Some Disc) = false
is_uih (Some Uih) = true

is_uih-true : (o : Option Kind) → is_uih o ≡ true → Some Uih ≡ o
is_uih-true None e = cc
is_uih-true (Some Sabm) e = cc
is_uih-true (Some Ua) e = cc
is_uih-true (Some Dm) e = cc
is_uih-true (Some Disc) e = cc
is_uih-true (Some Uih) e = refl

uih_computed : agree_below (λ x. if bit_or x 0x10 == 0xFF then is_uih (kind_in x) else true) (λ _. true) 256 ≡ true
uih_computed = refl

-- an octet that is FF once its P/F is set is a control octet of UIH
pub uih_octet : (x : ℕ) → x < 256 → bit_or x 0x10 ≡ 0xFF → Some Uih ≡ kind_in x
uih_octet x h e =
    let r : (if bit_or x 0x10 == 0xFF then is_uih (kind_in x) else true) ≡ true = agree_below_at (λ y. if bit_or y 0x10 == 0xFF then is_uih (kind_in y) else true) (λ _. true) 256 x uih_computed h in
    is_uih-true (kind_in x) (rw e at r)

address_is-at : (b : Bool) (x : ℕ) → (x / 2 % 2 == 1) ≡ b → x % 2 ≡ 1 → x ≡ 1 + (if b then 2 else 0) + 4 * (x / 4)
address_is-at true x e h = let k = eqb-true (x / 2 % 2) 1 e in omega (arith, k)
address_is-at false x e h = let k = eqb-false (x / 2 % 2) 1 e in omega (arith, k)

address_is : (x : ℕ) → x % 2 ≡ 1 → x ≡ 1 + (if cr_in x then 2 else 0) + 4 * (x / 4)
address_is x h = address_is-at (cr_in x) x refl h

-- the parts of an address octet
address_odd : (c : Bool) (d x : ℕ) → 1 + (if c then 2 else 0) + 4 * d ≡ x → x % 2 ≡ 1
address_odd true d x e = omega arith
address_odd false d x e = omega arith

address_dlci : (c : Bool) (d x : ℕ) → 1 + (if c then 2 else 0) + 4 * d ≡ x → x / 4 ≡ d
address_dlci true d x e = omega arith
address_dlci false d x e = omega arith

-- A spelling before a flag, and what a text that goes with it begins with.

module _ (n1 : ℕ) (b v : List ℕ) (f : Frame) (s : Spells n1 b f) where
  abbrev wanted : ℕ
  wanted = check_octet_of (header f s.indicator)

  spelling_text : b ++ flag ∷ v ≡ address_of f ∷ control_of f ∷ (s.indicator ++ (f.info ++ (wanted ∷ flag ∷ v)))
  spelling_text = ap (λ z. z ++ flag ∷ v) s.octets ∙ ap (λ u. address_of f ∷ control_of f ∷ u) (regroup s.indicator f.info (wanted ∷ []) (flag ∷ v))

  first_octet : (x : ℕ) (t z : List ℕ) → b ++ flag ∷ v ≡ (x ∷ t) ++ z → address_of f ≡ x
  first_octet x t z e = head_same (address_of f) x _ (t ++ z) (sym spelling_text ∙ e)

  after_first : (x : ℕ) (t z : List ℕ) → b ++ flag ∷ v ≡ (x ∷ t) ++ z → control_of f ∷ (s.indicator ++ (f.info ++ (wanted ∷ flag ∷ v))) ≡ t ++ z
  after_first x t z e = tail_same (address_of f) x _ (t ++ z) (sym spelling_text ∙ e)

  second_octet : (x y : ℕ) (t z : List ℕ) → b ++ flag ∷ v ≡ (x ∷ y ∷ t) ++ z → control_of f ≡ y
  second_octet x y t z e = head_same (control_of f) y _ (t ++ z) (after_first x (y ∷ t) z e)

  after_second : (x y : ℕ) (t z : List ℕ) → b ++ flag ∷ v ≡ (x ∷ y ∷ t) ++ z → s.indicator ++ (f.info ++ (wanted ∷ flag ∷ v)) ≡ t ++ z
  after_second x y t z e = tail_same (control_of f) y _ (t ++ z) (after_first x (y ∷ t) z e)

  its_kind : (x y : ℕ) (t z : List ℕ) (o : Option Kind) → kind_in y ≡ o → b ++ flag ∷ v ≡ (x ∷ y ∷ t) ++ z → o ≡ Some f.kind
  its_kind x y t z o h e = sym h ∙ ap kind_in (sym (second_octet x y t z e)) ∙ kind_back f.kind f.pf

-- What is refused.

refuse_even : (n1 x : ℕ) (t : List ℕ) → (x % 2 == 1) ≡ false → IsRefused n1 (x ∷ t)
refuse_even n1 x t h b v z f s e = eqb-false (x % 2) 1 h (address_odd f.cr f.dlci x (first_octet n1 b v f s x t z e))

refuse_dlci : (n1 x : ℕ) (t : List ℕ) → nat_lt (x / 4) 62 ≡ false → IsRefused n1 (x ∷ t)
refuse_dlci n1 x t h b v z f s e =
    let k = ltb-false (x / 4) 62 h in
    let d = address_dlci f.cr f.dlci x (first_octet n1 b v f s x t z e) in
    let l = s.dlci in
    omega (arith, k, d, l)

refuse_kind : (n1 x y : ℕ) (t : List ℕ) → kind_in y ≡ None → IsRefused n1 (x ∷ y ∷ t)
refuse_kind n1 x y t h b v z f s e = let k = its_kind n1 b v f s x y t z None h e in cc

-- no length up to a bound is indicated so
abbrev IsTooLong : ℕ → List ℕ → Type 0
IsTooLong most u = (xs v z : List ℕ) (n : ℕ) → Indicates xs n → n ≤ most → xs ++ v ≡ u ++ z → ⊥

some_kind : (k l : Kind) → Some k ≡ Some l → k ≡ l
some_kind k l e = cc

refuse_length : (n1 x y : ℕ) (k : Kind) (u : List ℕ) → kind_in y ≡ Some k → IsTooLong (most_info n1 k) u → IsRefused n1 (x ∷ y ∷ u)
refuse_length n1 x y k u h l b v z f s e =
    let same : f.kind ≡ k = sym (some_kind k f.kind (its_kind n1 b v f s x y u z (Some k) h e)) in
    l s.indicator (f.info ++ (check_octet_of (header f s.indicator) ∷ flag ∷ v)) z (length f.info) s.indicates (subst (λ j. length f.info ≤ most_info n1 j) same s.room) (after_second n1 b v f s x y u z e)

first_too_long : (most l : ℕ) (u : List ℕ) → nat_lt most (l / 2) ≡ true → IsTooLong most (l ∷ u)
first_too_long most l u h _ v z n (short _ k) r e =
    let m = ltb-true most (l / 2) h in
    let a = head_same (1 + 2 * n) l v (u ++ z) e in
    omega (arith, m, a)
first_too_long most l u h _ v z n (long _ k) r e =
    let m = ltb-true most (l / 2) h in
    let a = head_same (2 * (n % 128)) l ((n / 128) ∷ v) (u ++ z) e in
    omega (arith, m, a)

second_too_long : (most l h : ℕ) (u : List ℕ) → (l % 2 == 1) ≡ false → nat_lt most (l / 2 + 128 * h) ≡ true → IsTooLong most (l ∷ h ∷ u)
second_too_long most l h u p q _ v z n (short _ k) r e =
    let a = head_same (1 + 2 * n) l v (h ∷ u ++ z) e in
    eqb-false (l % 2) 1 p (omega (arith, a))
second_too_long most l h u p q _ v z n (long _ k) r e =
    let m = ltb-true most (l / 2 + 128 * h) q in
    let a = head_same (2 * (n % 128)) l ((n / 128) ∷ v) (h ∷ u ++ z) e in
    let c = head_same (n / 128) h v (u ++ z) (tail_same (2 * (n % 128)) l ((n / 128) ∷ v) (h ∷ u ++ z) e) in
    omega (arith, m, a, c)

-- What is a beginning of a frame, and what is a frame.

no_nil : (x : ℕ) (xs : List ℕ) → (x ∷ xs) ≢ []
no_nil x xs e = cc

no_nil_right : (xs ys : List ℕ) → ys ≢ [] → (xs ++ ys) ≢ []
no_nil_right [] ys h e = h e
no_nil_right (x ∷ xs) ys h e = cc

-- a part of a spelling is a beginning of a frame
cut_from : (n1 : ℕ) (b t w : List ℕ) (f : Frame) → Spells n1 b f → b ≡ t ++ w → IsCutShort n1 t
cut_from n1 b t w f s e = record {
  frame = f;
  octets = b;
  missing = w ++ flag ∷ [];
  text = ap (λ z. z ++ flag ∷ []) e ∙ append_assoc t w (flag ∷ []);
  proper = no_nil_right w (flag ∷ []) (no_nil flag []);
  spells = s;
}

length-replicate_zero : (n : ℕ) → length {A = ℕ} (replicate n 0) ≡ n
length-replicate_zero n = let z : ℕ = 0 in length-replicate n z

-- `xs`, then `ys` and `zs` in one, then `us`
regrouped : (xs ys zs us : List ℕ) → xs ++ (ys ++ zs) ++ us ≡ (xs ++ ys) ++ (zs ++ us)
regrouped xs ys zs us = simp append_assoc

three_same : (a x c y : ℕ) (xs ys : List ℕ) → a ≡ x → c ≡ y → xs ≡ ys → a ∷ c ∷ xs ≡ x ∷ y ∷ ys
three_same a x c y xs ys e f g = cc

drop_header : (x y : ℕ) (xs w : List ℕ) → drop (2 + length xs) (x ∷ y ∷ (xs ++ w)) ≡ w
drop_header x y xs w =
    let e : 2 + length xs ≡ length (x ∷ y ∷ xs) = omega arith in
    rw e (drop-append_seam (x ∷ y ∷ xs) w)

take_front : (u w : List ℕ) (n : ℕ) → length u ≡ n → take n (u ++ w) ≡ u
take_front u w n h = rw (← h) (take-append_seam u w)

two_ends : (xs u v : List ℕ) (c g k : ℕ) → c ≡ k → g ≡ flag → xs ++ (u ++ c ∷ g ∷ v) ≡ xs ++ (u ++ (k ∷ [] ++ flag ∷ v))
two_ends xs u v c g k d e = ap (λ z. xs ++ (u ++ z)) (three_same c k g flag v v d e refl)

length_with : (x y k : ℕ) (xs u : List ℕ) (n : ℕ) → length u ≡ n → length (x ∷ y ∷ (xs ++ u ++ k ∷ [])) ≡ 2 + length xs + n + 1
length_with x y k xs u n h = simp length-append (omega arith)

-- the place n of a list: past its end, or at an element
data Reached : List ℕ → ℕ → Type 0 where
  past : {w : List ℕ} {n : ℕ} → length w ≤ n → slice_get w n ≡ None → Reached w n
  reached : {n : ℕ} (u : List ℕ) (c : ℕ) (later : List ℕ) → length u ≡ n → Reached (u ++ c ∷ later) n

reached_next : (x : ℕ) (xs : List ℕ) (n : ℕ) → Reached xs n → Reached (x ∷ xs) (suc n)
reached_next x _ _ (past h e) = past (omega arith) e
reached_next x _ n (reached u c later h) = reached (x ∷ u) c later (ap suc h)

reach : (w : List ℕ) (n : ℕ) → Reached w n
reach [] n = past (omega arith) refl
reach (c ∷ later) zero = reached [] c later refl
reach (x ∷ xs) (suc n) = reached_next x xs n (reach xs n)

get_end : (u : List ℕ) (c : ℕ) (later : List ℕ) (n : ℕ) → length u ≡ n → slice_get (u ++ c ∷ later) n ≡ Some c
get_end [] c later n h = rw (← h) refl
get_end (x ∷ u) c later n h = rw (← h) (get_end u c later (length u) refl)

get_next : (u : List ℕ) (c : ℕ) (later : List ℕ) (n : ℕ) → length u ≡ n → slice_get (u ++ c ∷ later) (n + 1) ≡ slice_get later 0
get_next [] c later n h = rw (← h) refl
get_next (x ∷ u) c later n h = let e : suc (length u) + 1 ≡ suc (length u + 1) = omega arith in rw (← h, e) (get_next u c later (length u) refl)

get_past : (xs w : List ℕ) (n : ℕ) → slice_get (xs ++ w) (length xs + n) ≡ slice_get w n
get_past [] w n = let e : 0 + n ≡ n = omega arith in rw e refl
get_past (x ∷ xs) w n = let e : suc (length xs) + n ≡ suc (length xs + n) = omega arith in rw e (get_past xs w n)

get_after : (x y : ℕ) (xs w : List ℕ) (n : ℕ) → slice_get (x ∷ y ∷ (xs ++ w)) (2 + length xs + n) ≡ slice_get w n
get_after x y xs w n = let e : 2 + length xs + n ≡ suc (suc (length xs + n)) = omega arith in rw e (get_past xs w n)

get_after_one : (x y : ℕ) (xs w : List ℕ) (n : ℕ) → slice_get (x ∷ y ∷ (xs ++ w)) (2 + length xs + n + 1) ≡ slice_get w (n + 1)
get_after_one x y xs w n = let e : 2 + length xs + n + 1 ≡ suc (suc (length xs + (n + 1))) = omega arith in rw e (get_past xs w (n + 1))

even_from : (l : ℕ) → (l % 2 ≡ 1 → ⊥) → l % 2 ≡ 0
even_from l h = omega arith

two_listed : (a b l h : ℕ) → a ≡ l → b ≡ h → a ∷ b ∷ [] ≡ l ∷ h ∷ []
two_listed a b l h e f = cc

-- A header that is known: an address, a control octet of a kind, and an indicator of a length.
module _ (n1 x y : ℕ) (k : Kind) (odd : (x % 2 == 1) ≡ true) (low : nat_lt (x / 4) 62 ≡ true) (small : y < 256) (known : kind_in y ≡ Some k) where
  abbrev with_info : List ℕ → Frame
  with_info info = record { dlci = x / 4; kind = k; cr = cr_in x; pf = pf_in y; info = info }

  abbrev octets_with : List ℕ → List ℕ → List ℕ
  octets_with indicator info = x ∷ y ∷ (indicator ++ info ++ check_octet_of (x ∷ y ∷ indicator) ∷ [])

  two_same : (a c : ℕ) (indicator info : List ℕ) → x ≡ a → y ≡ c → octets_with indicator info ≡ a ∷ c ∷ (indicator ++ info ++ check_octet_of (a ∷ c ∷ indicator) ∷ [])
  two_same a c indicator info e h = cc

  spells_with : (indicator info : List ℕ) → Indicates indicator (length info) → length info ≤ most_info n1 k → Spells n1 (octets_with indicator info) (with_info info)
  spells_with indicator info i r = record {
    indicator = indicator;
    octets = two_same (address_of (with_info info)) (control_of (with_info info)) indicator info (address_is x (eqb-true (x % 2) 1 odd)) (control_is y k small known);
    dlci = ltb-true (x / 4) 62 low;
    indicates = i;
    room = r;
  }

  cut_control : IsCutShort n1 (x ∷ y ∷ [])
  cut_control = cut_from n1 (octets_with (1 ∷ []) []) (x ∷ y ∷ []) (1 ∷ check_octet_of (x ∷ y ∷ 1 ∷ []) ∷ []) (with_info []) (spells_with (1 ∷ []) [] (short 0 (omega arith)) (omega arith)) refl

  module _ (indicator : List ℕ) (n : ℕ) (indicates : Indicates indicator n) (room : n ≤ most_info n1 k) where
    abbrev check : ℕ
    check = check_octet_of (x ∷ y ∷ indicator)

    padded : (u : List ℕ) → length u ≤ n → length (u ++ replicate (n - length u) 0) ≡ n
    padded u h = let l = length-append u (replicate (n - length u) 0) in let m = length-replicate_zero (n - length u) in omega (arith, l, m)

    cut_info : (u : List ℕ) → length u ≤ n → IsCutShort n1 (x ∷ y ∷ (indicator ++ u))
    cut_info u h =
        let info = u ++ replicate (n - length u) 0 in
        let l : length info ≡ n = padded u h in
        let e : octets_with indicator info ≡ (x ∷ y ∷ (indicator ++ u)) ++ (replicate (n - length u) 0 ++ check ∷ []) = ap (λ z. x ∷ y ∷ z) (regrouped indicator u (replicate (n - length u) 0) (check ∷ [])) in
        cut_from n1 (octets_with indicator info) (x ∷ y ∷ (indicator ++ u)) (replicate (n - length u) 0 ++ check ∷ []) (with_info info) (spells_with indicator info (subst (Indicates indicator) (sym l) indicates) (omega (arith, l))) e

    cut_check : (u : List ℕ) (c : ℕ) → length u ≡ n → c ≡ check → IsCutShort n1 (x ∷ y ∷ (indicator ++ (u ++ c ∷ [])))
    cut_check u c h d =
        let e : octets_with indicator u ≡ (x ∷ y ∷ (indicator ++ (u ++ c ∷ []))) ++ [] = ap (λ z. x ∷ y ∷ z) (append_assoc indicator u (check ∷ []) ∙ ap (λ z. indicator ++ (u ++ z ∷ [])) (sym d) ∙ sym (append-nil (indicator ++ (u ++ c ∷ [])))) in
        cut_from n1 (octets_with indicator u) (x ∷ y ∷ (indicator ++ (u ++ c ∷ []))) [] (with_info u) (spells_with indicator u (subst (Indicates indicator) (sym h) indicates) (omega (arith, h))) e

    whole : (u v : List ℕ) (c g : ℕ) → length u ≡ n → c ≡ check → g ≡ flag → IsWhole n1 (x ∷ y ∷ (indicator ++ (u ++ c ∷ g ∷ v))) (header_of x y k n indicator)
    whole u v c g h d e =
        let w = u ++ c ∷ g ∷ v in
        let t = x ∷ y ∷ (indicator ++ w) in
        let i : take n (drop (2 + length indicator) t) ≡ u = ap (take n) (drop_header x y indicator w) ∙ take_front u (c ∷ g ∷ v) n h in
        let l : length u ≡ length u = refl in
        record {
          octets = octets_with indicator u;
          later = v;
          text = ap (λ z. x ∷ y ∷ z) (two_ends indicator u v c g check d e ∙ sym (regroup indicator u (check ∷ []) (flag ∷ v)));
          spells = subst (λ z. Spells n1 (octets_with indicator u) (with_info z)) (sym i) (spells_with indicator u (subst (Indicates indicator) (sym h) indicates) (omega (arith, h)));
          size = length_with x y check indicator u n h;
        }

    -- what a frame that goes with the text has after its indicator
    its_rest : (b w u z : List ℕ) (f : Frame) (s : Spells n1 b f) → b ++ flag ∷ w ≡ (x ∷ y ∷ (indicator ++ u)) ++ z → (length f.info ≡ n) × (f.info ++ (check ∷ flag ∷ w) ≡ u ++ z)
    its_rest b w u z f s e =
        let a : address_of f ≡ x = first_octet n1 b w f s x (y ∷ (indicator ++ u)) z e in
        let c : control_of f ≡ y = second_octet n1 b w f s x y (indicator ++ u) z e in
        let t = after_second n1 b w f s x y (indicator ++ u) z e ∙ append_assoc indicator u z in
        let i = indicator_tells s.indicator indicator (f.info ++ (check_octet_of (header f s.indicator) ∷ flag ∷ w)) (u ++ z) (length f.info) n s.indicates indicates t in
        let same : check_octet_of (header f s.indicator) ≡ check = ap check_octet_of (three_same (address_of f) x (control_of f) y s.indicator indicator a c i.0) in
        (i.1, ap (λ q. f.info ++ (q ∷ flag ∷ w)) (sym same) ∙ i.2)

    refuse_check : (u v : List ℕ) (c : ℕ) → length u ≡ n → (c == check) ≡ false → IsRefused n1 (x ∷ y ∷ (indicator ++ (u ++ c ∷ v)))
    refuse_check u v c h d b w z f s e =
        let r = its_rest b w (u ++ c ∷ v) z f s e in
        let q = front_tells f.info u (check ∷ flag ∷ w) (c ∷ (v ++ z)) (r.0 ∙ sym h) (r.1 ∙ append_assoc u (c ∷ v) z) in
        eqb-false c check d (sym (head_same check c (flag ∷ w) (v ++ z) q.1))

    refuse_flag : (u v : List ℕ) (c g : ℕ) → length u ≡ n → (g == flag) ≡ false → IsRefused n1 (x ∷ y ∷ (indicator ++ (u ++ c ∷ g ∷ v)))
    refuse_flag u v c g h d b w z f s e =
        let r = its_rest b w (u ++ c ∷ g ∷ v) z f s e in
        let q = front_tells f.info u (check ∷ flag ∷ w) (c ∷ g ∷ (v ++ z)) (r.0 ∙ sym h) (r.1 ∙ append_assoc u (c ∷ g ∷ v) z) in
        eqb-false g flag d (sym (head_same flag g w (v ++ z) (tail_same check c (flag ∷ w) (g ∷ (v ++ z)) q.1)))

    abbrev head : Header
    head = header_of x y k n indicator

    by_flag_means : (u v : List ℕ) (c g : ℕ) (b : Bool) → length u ≡ n → c ≡ check → (g == flag) ≡ b → Means n1 (x ∷ y ∷ (indicator ++ (u ++ c ∷ g ∷ v))) (if b then fits head else refused)
    by_flag_means u v c g true h d e = whole u v c g h d (eqb-true g flag e)
    by_flag_means u v c g false h d e = refuse_flag u v c g h e

    by_check_means : (u later : List ℕ) (c : ℕ) (b : Bool) → length u ≡ n → (c == check) ≡ b → Means n1 (x ∷ y ∷ (indicator ++ (u ++ c ∷ later))) (if b then by_flag head (slice_get later 0) else refused)
    by_check_means u later c false h e = refuse_check u later c h e
    by_check_means u [] c true h e = cut_check u c h (eqb-true c check e)
    by_check_means u (g ∷ v) c true h e = by_flag_means u v c g (g == flag) h (eqb-true c check e) refl

    by_end_means : (w : List ℕ) → Reached w n → Means n1 (x ∷ y ∷ (indicator ++ w)) (by_end head (slice_get w n) (slice_get w (n + 1)))
    unfolding by_end
    by_end_means w (past h e) = rw e (cut_info w h)
    by_end_means _ (reached u c later h) = rw (get_end u c later n h, get_next u c later n h) (by_check_means u later c (c == check) h refl)

    known_means : (w : List ℕ) → Means n1 (x ∷ y ∷ (indicator ++ w)) (by_rest (x ∷ y ∷ (indicator ++ w)) (fits head))
    known_means w =
        rw (get_after x y indicator w n, get_after_one x y indicator w n) (by_end_means w (reach w n))

-- the length in one octet
short_is : (l : ℕ) → (l % 2 == 1) ≡ true → l < 256 → Indicates (l ∷ []) (l / 2)
short_is l e h =
    let o = eqb-true (l % 2) 1 e in
    let same : 1 + 2 * (l / 2) ≡ l = omega (arith, o) in
    subst (λ z. Indicates (z ∷ []) (l / 2)) same (short (l / 2) (omega arith))

-- the length in two octets
long_is : (l h : ℕ) → (l % 2 == 1) ≡ false → l < 256 → h < 256 → Indicates (l ∷ h ∷ []) (l / 2 + 128 * h)
long_is l h e k m =
    let o = eqb-false (l % 2) 1 e in
    let even : l % 2 ≡ 0 = even_from l o in
    let a : 2 * ((l / 2 + 128 * h) % 128) ≡ l = omega (arith, even) in
    let b : (l / 2 + 128 * h) / 128 ≡ h = omega (arith, even) in
    subst (λ xs. Indicates xs (l / 2 + 128 * h)) (two_listed (2 * ((l / 2 + 128 * h) % 128)) ((l / 2 + 128 * h) / 128) l h a b) (long (l / 2 + 128 * h) (omega arith))

module _ (n1 x y : ℕ) (k : Kind) (odd : (x % 2 == 1) ≡ true) (low : nat_lt (x / 4) 62 ≡ true) (small : y < 256) (known : kind_in y ≡ Some k) where
  second_means : (l h : ℕ) (w : List ℕ) (b : Bool) → (l % 2 == 1) ≡ false → l < 256 → h < 256 → nat_lt (most_info n1 k) (l / 2 + 128 * h) ≡ b → Means n1 (x ∷ y ∷ l ∷ h ∷ w) (by_rest (x ∷ y ∷ l ∷ h ∷ w) (if b then refused else fits (header_of x y k (l / 2 + 128 * h) (l ∷ h ∷ []))))
  second_means l h w true o p q e = refuse_length n1 x y k (l ∷ h ∷ w) known (second_too_long (most_info n1 k) l h w o e)
  second_means l h w false o p q e = known_means n1 x y k odd low small known (l ∷ h ∷ []) (l / 2 + 128 * h) (long_is l h o p q) (ltb-false (most_info n1 k) (l / 2 + 128 * h) e) w

  cut_second : (l : ℕ) → (l % 2 == 1) ≡ false → l < 256 → l / 2 ≤ most_info n1 k → IsCutShort n1 (x ∷ y ∷ l ∷ [])
  cut_second l o p r =
      let info : List ℕ = replicate (l / 2) 0 in
      let n : length info ≡ l / 2 = length-replicate_zero (l / 2) in
      let e : l / 2 + 128 * 0 ≡ length info = omega (arith, n) in
      let i : Indicates (l ∷ 0 ∷ []) (length info) = subst (Indicates (l ∷ 0 ∷ [])) e (long_is l 0 o p (omega arith)) in
      cut_from n1 (octets_with n1 x y k odd low small known (l ∷ 0 ∷ []) info) (x ∷ y ∷ l ∷ []) (0 ∷ (info ++ check_octet_of (x ∷ y ∷ l ∷ 0 ∷ []) ∷ [])) (with_info n1 x y k odd low small known info) (spells_with n1 x y k odd low small known (l ∷ 0 ∷ []) info i (omega (arith, n))) refl

  first_means : (l : ℕ) (u : List ℕ) (b c : Bool) → ((i : ℕ) → slice_index (l ∷ u) i < 256) → nat_lt (most_info n1 k) (l / 2) ≡ b → (l % 2 == 1) ≡ c → Means n1 (x ∷ y ∷ l ∷ u) (by_rest (x ∷ y ∷ l ∷ u) (if b then refused else (if c then fits (header_of x y k (l / 2) (l ∷ [])) else by_second_length (most_info n1 k) x y k l (slice_get u 0))))
  first_means l u true c o e f = refuse_length n1 x y k (l ∷ u) known (first_too_long (most_info n1 k) l u e)
  first_means l u false true o e f = known_means n1 x y k odd low small known (l ∷ []) (l / 2) (short_is l f (o 0)) (ltb-false (most_info n1 k) (l / 2) e) u
  first_means l [] false false o e f = cut_second l f (o 0) (ltb-false (most_info n1 k) (l / 2) e)
  first_means l (h ∷ w) false false o e f = second_means l h w (nat_lt (most_info n1 k) (l / 2 + 128 * h)) f (o 0) (o 1) refl

  length_means : (u : List ℕ) → ((i : ℕ) → slice_index u i < 256) → Means n1 (x ∷ y ∷ u) (by_rest (x ∷ y ∷ u) (by_length (most_info n1 k) x y k (slice_get u 0) (slice_get u 1)))
  length_means [] o = cut_control n1 x y k odd low small known
  length_means (l ∷ u) o = first_means l u (nat_lt (most_info n1 k) (l / 2)) (l % 2 == 1) o refl refl

kind_means : (n1 x y : ℕ) (u : List ℕ) (o : Option Kind) → (x % 2 == 1) ≡ true → nat_lt (x / 4) 62 ≡ true → ((i : ℕ) → slice_index (y ∷ u) i < 256) → kind_in y ≡ o → Means n1 (x ∷ y ∷ u) (by_rest (x ∷ y ∷ u) (by_kind n1 x y o (slice_get u 0) (slice_get u 1)))
kind_means n1 x y u None odd low h e = refuse_kind n1 x y u e
kind_means n1 x y u (Some k) odd low h e = length_means n1 x y k odd low (h 0) e u (λ i. h (suc i))

control_means : (n1 x : ℕ) (t : List ℕ) → (x % 2 == 1) ≡ true → nat_lt (x / 4) 62 ≡ true → ((i : ℕ) → slice_index t i < 256) → Means n1 (x ∷ t) (by_rest (x ∷ t) (by_control n1 x (slice_get t 0) (slice_get t 1) (slice_get t 2)))
control_means n1 x [] odd low h =
    let m : 0x2F < 256 = omega arith in
    cut_from n1 (octets_with n1 x 0x2F Sabm odd low m refl (1 ∷ []) []) (x ∷ []) (0x2F ∷ 1 ∷ check_octet_of (x ∷ 0x2F ∷ 1 ∷ []) ∷ []) (with_info n1 x 0x2F Sabm odd low m refl []) (spells_with n1 x 0x2F Sabm odd low m refl (1 ∷ []) [] (short 0 (omega arith)) (omega arith)) refl
control_means n1 x (y ∷ u) odd low h = kind_means n1 x y u (kind_in y) odd low h refl

address_means : (n1 x : ℕ) (t : List ℕ) (b c : Bool) → (x % 2 == 1) ≡ b → nat_lt (x / 4) 62 ≡ c → ((i : ℕ) → slice_index t i < 256) → Means n1 (x ∷ t) (by_rest (x ∷ t) (if b then (if c then by_control n1 x (slice_get t 0) (slice_get t 1) (slice_get t 2) else refused) else refused))
address_means n1 x t false c e f h = refuse_even n1 x t e
address_means n1 x t true false e f h = refuse_dlci n1 x t f
address_means n1 x t true true e f h = control_means n1 x t e f h

-- what the verdict on octets means
pub verdict_means : (n1 : ℕ) (t : List ℕ) → ((i : ℕ) → slice_index t i < 256) → Means n1 t (verdict_on n1 t)
unfolding verdict_on by_header
verdict_means n1 [] h = cut_none n1
verdict_means n1 (x ∷ t) h = address_means n1 x t (x % 2 == 1) (nat_lt (x / 4) 62) refl refl (λ i. h (suc i))

-- so does a verdict that is known to be the one on these octets
pub means_from : (n1 : ℕ) (t : List ℕ) (v : Verdict) → ((i : ℕ) → slice_index t i < 256) → v ≡ verdict_on n1 t → Means n1 t v
means_from n1 t v o e = subst (Means n1 t) (sym e) (verdict_means n1 t o)
