-- Octets spell one frame.
use Rattle.std.proofs.Common.{◌≡◌, ℕ, ◌+◌, ◌-◌, ◌*◌, ◌/◌, ◌%◌, ◌<◌, ◌≤◌, Bool, true, false, ◌==◌, List, [], ◌∷◌, ◌++◌, length, refl, if◌then◌else◌, sym, ap, ◌∙◌, arith, append_assoc, length-append}
use Rattle.std.specs.Prelude.{nat_lt}
use Rattle.std.proofs.lemmas.Bool.{ltb-true, ltb-false}
use Rattle.mux_frame.specs.CheckOctet.{check_octet_of}
use Rattle.mux_frame.specs.Frames.{Frame}
use Rattle.mux_frame.specs.Spelling.{flag, address_of, control_of, control_of_kind, short_indicator, long_indicator, Indicates, short, long, most_info, header, Spells, indicator_of, body_of, spelled}
use Rattle.mux_frame.specs.declared.frame.Kind.{Kind}
use Rattle.mux_frame.specs.declared.frame.Kind.TheVariants.{Sabm, Ua, Dm, Disc, Uih}

-- address octets tell C/R and DLCI
address_tells : (c d : Bool) (m n : ℕ) → 1 + (if c then 2 else 0) + 4 * m ≡ 1 + (if d then 2 else 0) + 4 * n → (c ≡ d) × (m ≡ n)
address_tells true true m n e = (refl, omega arith)
address_tells true false m n e = absurd (omega arith)
address_tells false true m n e = absurd (omega arith)
address_tells false false m n e = (refl, omega arith)

-- the kind and P/F of a control octet
abbrev pf_in : ℕ → Bool
pf_in x = x / 16 % 2 == 1

abbrev kind_at : ℕ → Kind
kind_at x = if x == 0x2F then Sabm else (if x == 0x63 then Ua else (if x == 0x0F then Dm else (if x == 0x43 then Disc else Uih)))

abbrev kind_in : ℕ → Kind
kind_in x = kind_at (x - (if pf_in x then 0x10 else 0))

pf_kept : (k : Kind) (p : Bool) → pf_in (control_of_kind k + (if p then 0x10 else 0)) ≡ p
pf_kept Sabm true = refl
pf_kept Sabm false = refl
pf_kept Ua true = refl
pf_kept Ua false = refl
pf_kept Dm true = refl
pf_kept Dm false = refl
pf_kept Disc true = refl
pf_kept Disc false = refl
pf_kept Uih true = refl
pf_kept Uih false = refl

kind_kept : (k : Kind) (p : Bool) → kind_in (control_of_kind k + (if p then 0x10 else 0)) ≡ k
kind_kept Sabm true = refl
kind_kept Sabm false = refl
kind_kept Ua true = refl
kind_kept Ua false = refl
kind_kept Dm true = refl
kind_kept Dm false = refl
kind_kept Disc true = refl
kind_kept Disc false = refl
kind_kept Uih true = refl
kind_kept Uih false = refl

-- control octets tell kind and P/F
control_tells : (k l : Kind) (p q : Bool) → control_of_kind k + (if p then 0x10 else 0) ≡ control_of_kind l + (if q then 0x10 else 0) → (k ≡ l) × (p ≡ q)
control_tells k l p q e = (sym (kind_kept k p) ∙ ap kind_in e ∙ kind_kept l q, sym (pf_kept k p) ∙ ap pf_in e ∙ pf_kept l q)

-- lists that are the same begin with the same octet
pub head_same : (x y : ℕ) (xs ys : List ℕ) → x ∷ xs ≡ y ∷ ys → x ≡ y
head_same x y xs ys e = cc

-- and go on with the same ones
pub tail_same : (x y : ℕ) (xs ys : List ℕ) → x ∷ xs ≡ y ∷ ys → xs ≡ ys
tail_same x y xs ys e = cc

-- length indicators tell the length, and none is the beginning of another
pub indicator_tells : (a b x y : List ℕ) (m n : ℕ) → Indicates a m → Indicates b n → a ++ x ≡ b ++ y → (a ≡ b) × (m ≡ n) × (x ≡ y)
indicator_tells _ _ x y m n (short _ h) (short _ k) e =
    let h0 = head_same (1 + 2 * m) (1 + 2 * n) x y e in
    let same : m ≡ n = omega (arith, h0) in
    (ap short_indicator same, same, tail_same (1 + 2 * m) (1 + 2 * n) x y e)
indicator_tells _ _ x y m n (short _ h) (long _ k) e =
    let h0 = head_same (1 + 2 * m) (2 * (n % 128)) x ((n / 128) ∷ y) e in
    absurd (omega (arith, h0))
indicator_tells _ _ x y m n (long _ h) (short _ k) e =
    let h0 = head_same (2 * (m % 128)) (1 + 2 * n) ((m / 128) ∷ x) y e in
    absurd (omega (arith, h0))
indicator_tells _ _ x y m n (long _ h) (long _ k) e =
    let h0 = head_same (2 * (m % 128)) (2 * (n % 128)) ((m / 128) ∷ x) ((n / 128) ∷ y) e in
    let t0 = tail_same (2 * (m % 128)) (2 * (n % 128)) ((m / 128) ∷ x) ((n / 128) ∷ y) e in
    let h1 = head_same (m / 128) (n / 128) x y t0 in
    let same : m ≡ n = omega (arith, h0, h1) in
    (ap long_indicator same, same, tail_same (m / 128) (n / 128) x y t0)

-- lists of one length, each followed by more
pub front_tells : (a b x y : List ℕ) → length a ≡ length b → a ++ x ≡ b ++ y → (a ≡ b) × (x ≡ y)
front_tells [] [] x y l e = (refl, e)
front_tells [] (b ∷ bs) x y l e = absurd (omega arith)
front_tells (a ∷ xs) [] x y l e = absurd (omega arith)
front_tells (a ∷ xs) (b ∷ ys) x y l e =
    let r = front_tells xs ys x y (omega arith) (tail_same a b (xs ++ x) (ys ++ y) e) in
    let h = head_same a b (xs ++ x) (ys ++ y) e in
    (cc, r.1)

abbrev frame_with : ℕ → Kind → Bool → Bool → List ℕ → Frame
frame_with d k c p i = record { dlci = d; kind = k; cr = c; pf = p; info = i }

frame_same : (f g : Frame) → f.dlci ≡ g.dlci → f.kind ≡ g.kind → f.cr ≡ g.cr → f.pf ≡ g.pf → f.info ≡ g.info → f ≡ g
frame_same f g d k c p i =
    ap (λ x. frame_with x f.kind f.cr f.pf f.info) d
    ∙ ap (λ x. frame_with g.dlci x f.cr f.pf f.info) k
    ∙ ap (λ x. frame_with g.dlci g.kind x f.pf f.info) c
    ∙ ap (λ x. frame_with g.dlci g.kind g.cr x f.info) p
    ∙ ap (λ x. frame_with g.dlci g.kind g.cr g.pf x) i

-- four lists joined from the left are the same as joined from the right
pub regroup : (xs ys zs us : List ℕ) → ((xs ++ ys) ++ zs) ++ us ≡ xs ++ (ys ++ (zs ++ us))
regroup xs ys zs us = simp append_assoc

-- the octets of a frame, from its parts
abbrev octets_of : Frame → List ℕ → List ℕ
octets_of f indicator = header f indicator ++ f.info ++ check_octet_of (header f indicator) ∷ []

octets_same : (f g : Frame) (xs ys : List ℕ) → f ≡ g → xs ≡ ys → octets_of f xs ≡ octets_of g ys
octets_same f g xs ys e h = ap (λ u. octets_of u xs) e ∙ ap (octets_of g) h

-- octets spell one frame, and no spelling is the beginning of another
pub one_spelling : (n m : ℕ) (b c x y : List ℕ) (f g : Frame) → Spells n b f → Spells m c g → b ++ x ≡ c ++ y → (b ≡ c) × (f ≡ g) × (x ≡ y)
one_spelling n m b c x y f g sb sc e =
    let k : ℕ = check_octet_of (header f sb.indicator) in
    let l : ℕ = check_octet_of (header g sc.indicator) in
    let long : octets_of f sb.indicator ++ x ≡ octets_of g sc.indicator ++ y = ap (λ z. z ++ x) (sym sb.octets) ∙ e ∙ ap (λ z. z ++ y) sc.octets in
    let a0 : address_of f ≡ address_of g = head_same (address_of f) (address_of g) _ _ long in
    let t0 = tail_same (address_of f) (address_of g) _ _ long in
    let a1 : control_of f ≡ control_of g = head_same (control_of f) (control_of g) _ _ t0 in
    let t1 = tail_same (control_of f) (control_of g) _ _ t0 in
    let t2 : sb.indicator ++ (f.info ++ (k ∷ x)) ≡ sc.indicator ++ (g.info ++ (l ∷ y)) = sym (regroup sb.indicator f.info (k ∷ []) x) ∙ t1 ∙ regroup sc.indicator g.info (l ∷ []) y in
    let i = indicator_tells sb.indicator sc.indicator (f.info ++ (k ∷ x)) (g.info ++ (l ∷ y)) (length f.info) (length g.info) sb.indicates sc.indicates t2 in
    let j = front_tells f.info g.info (k ∷ x) (l ∷ y) i.1 i.2 in
    let a = address_tells f.cr g.cr f.dlci g.dlci a0 in
    let q = control_tells f.kind g.kind f.pf g.pf a1 in
    let same : f ≡ g = frame_same f g a.1 q.0 a.0 q.1 j.0 in
    (sb.octets ∙ octets_same f g sb.indicator sc.indicator same i.0 ∙ sym sc.octets, same, tail_same k l x y j.1)

indicates_at : (b : Bool) (n : ℕ) → nat_lt n 128 ≡ b → n < 32768 → Indicates (if b then short_indicator n else long_indicator n) n
indicates_at true n e h = short n (ltb-true n 128 e)
indicates_at false n e h = long n h

indicates_of : (n : ℕ) → n < 32768 → Indicates (indicator_of n) n
indicates_of n h = indicates_at (nat_lt n 128) n refl h

-- a frame that has a spelling has that one
pub spells_body : (n1 : ℕ) (f : Frame) → f.dlci < 62 → length f.info ≤ most_info n1 f.kind → length f.info < 32768 → Spells n1 (body_of f) f
unfolding body_of
spells_body n1 f d r h = record { indicator = indicator_of (length f.info); octets = refl; dlci = d; indicates = indicates_of (length f.info) h; room = r }

-- a length that is indicated is less than 32768
pub length_small : (xs : List ℕ) (n : ℕ) → Indicates xs n → n < 32768
length_small _ n (short _ h) = omega arith
length_small _ n (long _ h) = h

shortest_at : (b : Bool) (xs : List ℕ) (n : ℕ) → nat_lt n 128 ≡ b → Indicates xs n → length (if b then short_indicator n else long_indicator n) ≤ length xs
shortest_at true _ n e (short _ h) = omega arith
shortest_at true _ n e (long _ h) = omega arith
shortest_at false _ n e (short _ h) = let k = ltb-false n 128 e in absurd (omega (arith, k))
shortest_at false _ n e (long _ h) = omega arith

length-octets_of : (f : Frame) (xs : List ℕ) → length (octets_of f xs) ≡ 3 + length xs + length f.info
length-octets_of f xs = simp (length-append) (omega arith)

-- a frame that has a spelling has the shortest form as one, and no spelling is shorter
pub spells_shortest : (n1 : ℕ) (b : List ℕ) (f : Frame) → Spells n1 b f → Spells n1 (body_of f) f × (length (body_of f) ≤ length b)
unfolding body_of
spells_shortest n1 b f s =
    let k = shortest_at (nat_lt (length f.info) 128) s.indicator (length f.info) refl s.indicates in
    let l = length-octets_of f (indicator_of (length f.info)) in
    let m = length-octets_of f s.indicator in
    let e = ap length s.octets in
    (spells_body n1 f s.dlci s.room (length_small s.indicator (length f.info) s.indicates), omega (arith, k, l, m, e))

-- A frame is written.

joined : (a b c d e f : List ℕ) → ((((a ++ b) ++ c) ++ d) ++ e) ++ f ≡ a ++ (b ++ (((c ++ d) ++ e) ++ f))
joined a b c d e f = simp append_assoc

-- flag, header, information, check octet and flag, put behind one another, are the spelled frame
pub written : (old a b d e g : List ℕ) (f : Frame) → a ≡ old ++ flag ∷ [] → b ≡ a ++ header f (indicator_of (length f.info)) → d ≡ b ++ f.info → e ≡ d ++ check_octet_of (header f (indicator_of (length f.info))) ∷ [] → g ≡ e ++ flag ∷ [] → g ≡ old ++ spelled f
unfolding body_of
written old a b d e g f p q r s t = rw (t, s, r, q, p) (joined old (flag ∷ []) (header f (indicator_of (length f.info))) f.info (check_octet_of (header f (indicator_of (length f.info))) ∷ []) (flag ∷ []))
