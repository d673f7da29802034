-- What a candidate's octets at hand say, for the clauses of private functions. `Means` says what they mean: a candidate
-- that fits is a frame, one that is refused can't become one, and one that is unfinished can.
use Rattle.std.specs.Prelude.{◌≡◌, ℕ, ◌+◌, ◌*◌, ◌/◌, ◌%◌, ◌==◌, nat_lt, Bool, ◌||◌, List, [], ◌∷◌, ◌++◌, length, take, drop, Option, None, Some, slice_get, if◌then◌else◌}
use Rattle.mux_frame.specs.CheckOctet.{check_octet_of}
use Rattle.mux_frame.specs.Frames.{Frame}
use Rattle.mux_frame.specs.Spelling.{flag, most_info, Spells}
use Rattle.mux_frame.specs.Reading.{IsCutShort}
use Rattle.mux_frame.specs.declared.frame.Kind.{Kind}
use Rattle.mux_frame.specs.declared.frame.Kind.TheVariants.{Sabm, Ua, Dm, Disc, Uih}

-- the fields of a header, how many octets it has, and the check octet that it calls for
pub record Header : Type 0 where
  pub dlci : ℕ
  pub kind : Kind
  pub cr : Bool
  pub pf : Bool
  pub size : ℕ
  pub info_len : ℕ
  pub check : ℕ

pub data Verdict : Type 0 where
  unfinished : Verdict
  refused : Verdict
  fits : Header → Verdict

-- C/R of an address octet
abbrev pub cr_in : ℕ → Bool
cr_in x = x / 2 % 2 == 1

-- P/F of a control octet
abbrev pub pf_in : ℕ → Bool
pf_in x = x / 16 % 2 == 1

-- the kind of a control octet
abbrev pub kind_in : ℕ → Option Kind
kind_in x =
    if x == 0x2F || x == 0x3F then Some Sabm else
    (if x == 0x63 || x == 0x73 then Some Ua else
    (if x == 0x0F || x == 0x1F then Some Dm else
    (if x == 0x43 || x == 0x53 then Some Disc else
    (if x == 0xEF || x == 0xFF then Some Uih else None))))

-- the header of an address and a control octet, a kind, a length and its indicator
abbrev pub header_of : ℕ → ℕ → Kind → ℕ → List ℕ → Header
header_of x y k n indicator = record {
  dlci = x / 4;
  kind = k;
  cr = cr_in x;
  pf = pf_in y;
  size = 2 + length indicator;
  info_len = n;
  check = check_octet_of (x ∷ y ∷ indicator);
}

-- the verdict by the second length octet, where the first has EA not set
abbrev pub by_second_length : ℕ → ℕ → ℕ → Kind → ℕ → Option ℕ → Verdict
by_second_length most x y k l None = unfinished
by_second_length most x y k l (Some h) =
    if nat_lt most (l / 2 + 128 * h) then refused else fits (header_of x y k (l / 2 + 128 * h) (l ∷ h ∷ []))

-- the verdict by the length octets
abbrev pub by_length : ℕ → ℕ → ℕ → Kind → Option ℕ → Option ℕ → Verdict
by_length most x y k None h = unfinished
by_length most x y k (Some l) h =
    if nat_lt most (l / 2) then refused else
    (if l % 2 == 1 then fits (header_of x y k (l / 2) (l ∷ [])) else by_second_length most x y k l h)

-- the verdict by the control octet and those after it
abbrev pub by_kind : ℕ → ℕ → ℕ → Option Kind → Option ℕ → Option ℕ → Verdict
by_kind n1 x y None l h = refused
by_kind n1 x y (Some k) l h = by_length (most_info n1 k) x y k l h

abbrev pub by_control : ℕ → ℕ → Option ℕ → Option ℕ → Option ℕ → Verdict
by_control n1 x None l h = unfinished
by_control n1 x (Some y) l h = by_kind n1 x y (kind_in y) l h

-- the verdict by the first four octets after a flag
unfoldable pub by_header : ℕ → Option ℕ → Option ℕ → Option ℕ → Option ℕ → Verdict
by_header n1 None y l h = unfinished
by_header n1 (Some x) y l h =
    if x % 2 == 1 then (if nat_lt (x / 4) 62 then by_control n1 x y l h else refused) else refused

-- the verdict by the octet where the closing flag should stand
abbrev pub by_flag : Header → Option ℕ → Verdict
by_flag h None = unfinished
by_flag h (Some x) = if x == flag then fits h else refused

-- the verdict by the octets where the check octet and the closing flag should stand
unfoldable pub by_end : Header → Option ℕ → Option ℕ → Verdict
by_end h None close = unfinished
by_end h (Some x) close = if x == h.check then by_flag h close else refused

-- the verdict by the octets behind the header
abbrev pub by_rest : List ℕ → Verdict → Verdict
by_rest t unfinished = unfinished
by_rest t refused = refused
by_rest t (fits h) = by_end h (slice_get t (h.size + h.info_len)) (slice_get t (h.size + h.info_len + 1))

-- what the octets after a flag say
unfoldable pub verdict_on : ℕ → List ℕ → Verdict
verdict_on n1 t = by_rest t (by_header n1 (slice_get t 0) (slice_get t 1) (slice_get t 2) (slice_get t 3))

-- the frame of a header and its information
abbrev pub frame_with : Header → List ℕ → Frame
frame_with h info = record { dlci = h.dlci; kind = h.kind; cr = h.cr; pf = h.pf; info = info }

-- the frame that the octets after a flag begin with
abbrev pub frame_at : Header → List ℕ → Frame
frame_at h t = frame_with h (take h.info_len (drop h.size t))

-- no frame begins with these octets
abbrev pub IsRefused : ℕ → List ℕ → Type 0
IsRefused n1 t = (b x z : List ℕ) (f : Frame) → Spells n1 b f → b ++ flag ∷ x ≡ t ++ z → ⊥

-- the text begins with this frame and its closing flag
pub record IsWhole (n1 : ℕ) (t : List ℕ) (h : Header) : Type 0 where
  pub octets : List ℕ
  pub later : List ℕ
  pub text : t ≡ octets ++ flag ∷ later
  pub spells : Spells n1 octets (frame_at h t)
  pub size : length octets ≡ h.size + h.info_len + 1

-- what a verdict means
abbrev pub Means : ℕ → List ℕ → Verdict → Type 0
Means n1 t unfinished = IsCutShort n1 t
Means n1 t refused = IsRefused n1 t
Means n1 t (fits h) = IsWhole n1 t h
