-- A frame that is spelled in front is the one that is read there.
use Rattle.std.specs.Prelude.{◌≡◌, ◌≢◌, ℕ, ◌+◌, ◌*◌, ◌/◌, ◌%◌, ◌<◌, ◌≤◌, nat_lt, nat_le, Bool, true, false, List, [], ◌∷◌, ◌++◌, length, take, drop, slice_index, refl, if◌then◌else◌, unwrap_or}
use Rattle.std.proofs.Common.{◌∙◌, ap, sym, subst, arith, append_assoc, length-append, length-drop}
use Rattle.std.proofs.lemmas.List.{length-take-le, drop-drop}
use Rattle.std.proofs.lemmas.Bool.Decides.{nat_tests}
use Rattle.std.proofs.Math.Seq.{take-append_seam, drop-append_seam, drop-append-add}
use Rattle.mux_frame.specs.CheckOctet.{check_octet_of}
use Rattle.mux_frame.specs.Frames.{Frame}
use Rattle.mux_frame.specs.Spelling.{flag, address_of, control_of_kind, control_of, short_indicator, long_indicator, most_info, header, indicator_of, body_of, spelled}
use Rattle.mux_frame.specs.Judging.{cr_in, pf_in, kind_in}
use Rattle.mux_frame.specs.declared.frame.Kind.{Kind}
use Rattle.mux_frame.specs.declared.frame.Kind.TheVariants.{Sabm, Ua, Dm, Disc, Uih}
use Rattle.mux_station.specs.Written.{written_length}
use Rattle.mux_station.specs.ControlOctets.{lead_len, info_len, front_len, front_frame, HasFront}

-- ## Address and control octets

dlci_kept : (c : Bool) (d : ℕ) → (1 + (if c then 2 else 0) + 4 * d) / 4 ≡ d
dlci_kept true d = omega arith
dlci_kept false d = omega arith

cr_kept : (c : Bool) (d : ℕ) → cr_in (1 + (if c then 2 else 0) + 4 * d) ≡ c
cr_kept true d = grind (arith, nat_tests)
cr_kept false d = grind (arith, nat_tests)

pf_kept : (k : Kind) (p : Bool) → pf_in (control_of_kind k + (if p then 0x10 else 0)) ≡ p
pf_kept Sabm true = refl
pf_kept Sabm false = refl
pf_kept Ua true = refl
pf_kept Ua false = refl
pf_kept Dm true = refl
pf_kept Dm false = refl
pf_kept Disc true = refl
pf_kept Disc false = refl
pf_kept Uih true = refl
pf_kept Uih false = refl

kind_kept : (k : Kind) (p : Bool) → unwrap_or (kind_in (control_of_kind k + (if p then 0x10 else 0))) Uih ≡ k
kind_kept Sabm true = refl
kind_kept Sabm false = refl
kind_kept Ua true = refl
kind_kept Ua false = refl
kind_kept Dm true = refl
kind_kept Dm false = refl
kind_kept Disc true = refl
kind_kept Disc false = refl
kind_kept Uih true = refl
kind_kept Uih false = refl

-- the frame with this connection, kind, C/R, P/F and information
abbrev pub frame_with : ℕ → Kind → Bool → Bool → List ℕ → Frame
frame_with d k c p i = record { dlci = d; kind = k; cr = c; pf = p; info = i }

frame_same : (f : Frame) (d : ℕ) (k : Kind) (c p : Bool) (i : List ℕ) → d ≡ f.dlci → k ≡ f.kind → c ≡ f.cr → p ≡ f.pf → i ≡ f.info → frame_with d k c p i ≡ f
frame_same f d k c p i e g h m n =
    ap (λ x. frame_with x k c p i) e
    ∙ ap (λ x. frame_with f.dlci x c p i) g
    ∙ ap (λ x. frame_with f.dlci f.kind x p i) h
    ∙ ap (λ x. frame_with f.dlci f.kind f.cr x i) m
    ∙ ap (λ x. frame_with f.dlci f.kind f.cr f.pf x) n

-- octets with this address and control octet, whose information is the frame's
front_is : (f : Frame) (octets : List ℕ) → slice_index octets 1 ≡ address_of f → slice_index octets 2 ≡ control_of f → take (info_len octets) (drop (lead_len octets) octets) ≡ f.info → front_frame octets ≡ f
unfolding front_frame
front_is f octets a c i =
    frame_same f _ _ _ _ _
    (ap (λ (n : ℕ). n / 4) a ∙ dlci_kept f.cr f.dlci)
    (ap (λ (n : ℕ). unwrap_or (kind_in n) Uih) c ∙ kind_kept f.kind f.pf)
    (ap cr_in a ∙ cr_kept f.cr f.dlci)
    (ap pf_in c ∙ pf_kept f.kind f.pf)
    i

-- ## Length octets

-- what is said of octets that begin with a frame, and with others behind it
pub record Fronted (f : Frame) (octets later : List ℕ) : Type 0 where
  pub is_frame : front_frame octets ≡ f
  pub is_long : front_len octets ≡ written_length f
  pub leaves : drop (front_len octets) octets ≡ later
  pub all : length octets ≡ written_length f + length later

module _ (f : Frame) (lead behind later : List ℕ) where
  abbrev whole : List ℕ
  whole = lead ++ (f.info ++ behind)

  fronted_by : lead_len whole ≡ length lead → info_len whole ≡ length f.info → drop 2 behind ≡ later → length behind ≡ 2 + length later
      → length lead + length f.info + 2 ≡ written_length f → slice_index whole 1 ≡ address_of f → slice_index whole 2 ≡ control_of f → Fronted f whole later
  unfolding front_len
  fronted_by size info two long counts address control =
      let at_info : drop (lead_len whole) whole ≡ f.info ++ behind = ap (λ (n : ℕ). drop n whole) size ∙ drop-append_seam lead (f.info ++ behind) in
      let the_info : take (info_len whole) (drop (lead_len whole) whole) ≡ f.info =
      ap (λ (n : ℕ). take n (drop (lead_len whole) whole)) info ∙ (ap (take (length f.info)) at_info ∙ take-append_seam f.info behind) in
      let len : front_len whole ≡ length lead + (length f.info + 2) = omega (arith, size, info) in
      record {
        is_frame = front_is f whole address control the_info;
        is_long = omega (arith, len, counts);
        leaves = ap (λ (n : ℕ). drop n whole) len ∙ (drop-append-add lead (f.info ++ behind) (length f.info + 2) ∙ (drop-append-add f.info behind 2 ∙ two));
        all = omega (arith, length-append lead (f.info ++ behind), length-append f.info behind, counts, long);
      }

abbrev spelled_by : Frame → List ℕ → List ℕ
spelled_by f i = flag ∷ ((address_of f ∷ control_of f ∷ i) ++ f.info ++ check_octet_of (header f i) ∷ []) ++ flag ∷ []

spelled_is : (f : Frame) → spelled f ≡ spelled_by f (indicator_of (length f.info))
unfolding body_of
spelled_is f = refl

abbrev behind_info : Frame → List ℕ → List ℕ → List ℕ
behind_info f i later = check_octet_of (header f i) ∷ flag ∷ later

regroup : (f : Frame) (i later : List ℕ) → spelled_by f i ++ later ≡ (flag ∷ address_of f ∷ control_of f ∷ i) ++ (f.info ++ behind_info f i later)
regroup f i later = simp append_assoc

short_long : (n : ℕ) → nat_lt n 128 ≡ true → 4 + n + 2 ≡ n + (if nat_le n 127 then 6 else 7)
short_long n h = grind (arith, nat_tests)

long_long : (n : ℕ) → nat_lt n 128 ≡ false → 5 + n + 2 ≡ n + (if nat_le n 127 then 6 else 7)
long_long n h = grind (arith, nat_tests)

-- in one length octet
short_lead : (octets : List ℕ) (n : ℕ) → slice_index octets 3 ≡ 1 + 2 * n → (lead_len octets ≡ 4) × (info_len octets ≡ n)
unfolding lead_len info_len
short_lead octets n e = rw e (grind (arith, nat_tests), grind (arith, nat_tests))

-- in two
long_lead : (octets : List ℕ) (n : ℕ) → slice_index octets 3 ≡ 2 * (n % 128) → slice_index octets 4 ≡ n / 128 → (lead_len octets ≡ 5) × (info_len octets ≡ n)
unfolding lead_len info_len
long_lead octets n e h = rw (e, h) (grind (arith, nat_tests), grind (arith, nat_tests))

fronted_short : (f : Frame) (later : List ℕ) → nat_lt (length f.info) 128 ≡ true → Fronted f (spelled_by f (short_indicator (length f.info)) ++ later) later
fronted_short f later h =
    let i = short_indicator (length f.info) in
    let lead = flag ∷ address_of f ∷ control_of f ∷ i in
    let behind = behind_info f i later in
    let l = short_lead (lead ++ (f.info ++ behind)) (length f.info) refl in
    rw (regroup f i later) (fronted_by f lead behind later l.0 l.1 refl (omega arith) (short_long (length f.info) h) refl refl)

fronted_long : (f : Frame) (later : List ℕ) → nat_lt (length f.info) 128 ≡ false → Fronted f (spelled_by f (long_indicator (length f.info)) ++ later) later
fronted_long f later h =
    let i = long_indicator (length f.info) in
    let lead = flag ∷ address_of f ∷ control_of f ∷ i in
    let behind = behind_info f i later in
    let l = long_lead (lead ++ (f.info ++ behind)) (length f.info) refl refl in
    rw (regroup f i later) (fronted_by f lead behind later l.0 l.1 refl (omega arith) (long_long (length f.info) h) refl refl)

fronted_at : (f : Frame) (later : List ℕ) (b : Bool) → nat_lt (length f.info) 128 ≡ b → Fronted f (spelled_by f (if b then short_indicator (length f.info) else long_indicator (length f.info)) ++ later) later
fronted_at f later true h = fronted_short f later h
fronted_at f later false h = fronted_long f later h

-- so it is of a spelled frame, whatever stands behind it
pub fronted : (f : Frame) (later : List ℕ) → Fronted f (spelled f ++ later) later
fronted f later = subst (λ (xs : List ℕ). Fronted f (xs ++ later) later) (sym (spelled_is f)) (fronted_at f later (nat_lt (length f.info) 128) refl)

-- ## The octets of a frame in front, at a place

-- a whole frame at a place ends within the octets
pub front_fits : (items : List ℕ) (place : ℕ) → HasFront (drop place items) → place + (lead_len (drop place items) + info_len (drop place items) + 2) ≤ length items
unfolding front_len
front_fits items place h = omega (arith, h.whole, length-drop place items)

-- what the first length octet says
pub lead_odd : (octets : List ℕ) (first : ℕ) → slice_index octets 3 ≡ first → first % 2 ≡ 1 → (lead_len octets ≡ 4) × (info_len octets ≡ first / 2)
unfolding lead_len info_len
lead_odd octets first e o = rw e (grind (arith, nat_tests), grind (arith, nat_tests))

-- an even one has a second behind it, which tells the multiples of 128
pub lead_even : (octets : List ℕ) (first : ℕ) → slice_index octets 3 ≡ first → first % 2 ≢ 1 → (lead_len octets ≡ 5) × (info_len octets ≡ first / 2 + 128 * slice_index octets 4)
unfolding lead_len info_len
lead_even octets first e o = rw e (grind (arith, nat_tests), grind (arith, nat_tests))

-- four octets at least stand before the information
pub lead_some : (octets : List ℕ) → 4 ≤ lead_len octets
unfolding lead_len
lead_some octets = grind (arith, nat_tests)

-- ## The frame in front, built

-- the control frame in front has 129 octets of information at most
pub info_short : (octets : List ℕ) → HasFront octets → info_len octets ≤ 129
unfolding front_frame front_len
info_short octets h =
    let long : length (take (info_len octets) (drop (lead_len octets) octets)) ≡ info_len octets = length-take-le (info_len octets) (drop (lead_len octets) octets) (omega (arith, h.whole, length-drop (lead_len octets) octets)) in
    omega (arith, long, h.control.plain, at_most (front_frame octets).kind)
  where
    at_most : (k : Kind) → most_info 129 k ≤ 129
    at_most Sabm = omega arith
    at_most Ua = omega arith
    at_most Dm = omega arith
    at_most Disc = omega arith
    at_most Uih = omega arith

-- and an address below connection 62
pub front_number : (octets : List ℕ) (address : ℕ) → HasFront octets → slice_index octets 1 ≡ address → address / 4 < 62
unfolding front_frame
front_number octets address h e = subst (λ (n : ℕ). n / 4 < 62) e h.control.dlci_in_range

-- and no more information than its kind may have
pub front_plain : (octets info : List ℕ) (control : ℕ) (k : Kind) → HasFront octets → slice_index octets 2 ≡ control → k ≡ unwrap_or (kind_in control) Uih → info ≡ take (info_len octets) (drop (lead_len octets) octets) → length info ≤ most_info 129 k
unfolding front_frame
front_plain octets info control k h e kind is =
    let same : k ≡ (front_frame octets).kind = kind ∙ ap (λ (n : ℕ). unwrap_or (kind_in n) Uih) (sym e) in
    subst (λ (x : Kind). length info ≤ most_info 129 x) (sym same) (subst (λ (xs : List ℕ). length xs ≤ most_info 129 (front_frame octets).kind) (sym is) h.control.plain)

-- it is what address, control octet and information make
pub front_built : (octets info : List ℕ) (address control : ℕ) (k : Kind) → slice_index octets 1 ≡ address → slice_index octets 2 ≡ control → k ≡ unwrap_or (kind_in control) Uih → info ≡ take (info_len octets) (drop (lead_len octets) octets)
    → frame_with (address / 4) k (cr_in address) (pf_in control) info ≡ front_frame octets
unfolding front_frame
front_built octets info address control k a c kind is =
    frame_same (front_frame octets) _ _ _ _ _
    (ap (λ (n : ℕ). n / 4) (sym a))
    (kind ∙ ap (λ (n : ℕ). unwrap_or (kind_in n) Uih) (sym c))
    (ap cr_in (sym a))
    (ap pf_in (sym c))
    is

-- to leave out so many octets and then more is to leave out all of them
pub dropped : (items : List ℕ) (place more : ℕ) → drop (place + more) items ≡ drop more (drop place items)
dropped items place more = sym (drop-drop more place items)

-- its information may be taken from all the octets, behind its place
pub part_of : (items info : List ℕ) (place start count : ℕ) (octets : List ℕ) → octets ≡ drop place items → start ≡ lead_len octets → count ≡ info_len octets → info ≡ take count (drop (place + start) items) → info ≡ take (info_len octets) (drop (lead_len octets) octets)
part_of items info place start count octets o s c is =
    is ∙ (ap (take count) (dropped items place start) ∙ (ap (λ (xs : List ℕ). take count (drop start xs)) (sym o) ∙ (ap (λ (n : ℕ). take n (drop start octets)) c ∙ ap (λ (n : ℕ). take (info_len octets) (drop n octets)) s)))
