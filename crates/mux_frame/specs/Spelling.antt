-- How frames are spelled (27.010, 5.2.1).
use Rattle.std.specs.Prelude.{◌≡◌, ℕ, ◌+◌, ◌*◌, ◌/◌, ◌%◌, ◌<◌, ◌≤◌, ◌⊎◌, nat_lt, List, [], ◌∷◌, ◌++◌, length, if◌then◌else◌}
use Rattle.mux_frame.specs.CheckOctet.{check_octet_of}
use Rattle.mux_frame.specs.Frames.{Frame}
use Rattle.mux_frame.specs.declared.frame.Kind.{Kind}
use Rattle.mux_frame.specs.declared.frame.Kind.TheVariants.{Sabm, Ua, Dm, Disc, Uih}

-- the flag (27.010, 5.2.1.1)
abbrev pub flag : ℕ
flag = 0xF9

-- the address octet: EA, C/R and the DLCI (27.010, 5.2.1.2)
abbrev pub address_of : Frame → ℕ
address_of f = 1 + (if f.cr then 2 else 0) + 4 * f.dlci

-- the control octet of a kind, P/F not set (27.010, 5.2.1.3)
abbrev pub control_of_kind : Kind → ℕ
control_of_kind Sabm = 0x2F
control_of_kind Ua = 0x63
control_of_kind Dm = 0x0F
control_of_kind Disc = 0x43
control_of_kind Uih = 0xEF

-- the control octet: its kind and P/F (27.010, 5.2.1.3)
abbrev pub control_of : Frame → ℕ
control_of f = control_of_kind f.kind + (if f.pf then 0x10 else 0)

-- the length indicator in one octet, EA set, and in two, EA not set in the first (27.010, 5.2.1.5)
abbrev pub short_indicator : ℕ → List ℕ
short_indicator n = (1 + 2 * n) ∷ []

abbrev pub long_indicator : ℕ → List ℕ
long_indicator n = (2 * (n % 128)) ∷ (n / 128) ∷ []

-- these octets indicate the length n (27.010, 5.2.1.5)
pub data Indicates : List ℕ → ℕ → Type 0 where
  short : (n : ℕ) → n < 128 → Indicates (short_indicator n) n
  long : (n : ℕ) → n < 32768 → Indicates (long_indicator n) n

-- N1 is out of range, which is 31 to 32767: its default, and the most that a length indicator says (27.010, 5.7.2 and 5.2.1.5)
abbrev pub IsBadN1 : ℕ → Type 0
IsBadN1 n1 = (n1 < 31) ⊎ (32767 < n1)

-- how much information a frame of this kind may have, where UIH may have n1 (27.010, 5.2.1.4 and 5.7.2)
abbrev pub most_info : ℕ → Kind → ℕ
most_info n1 Sabm = 0
most_info n1 Ua = 0
most_info n1 Dm = 0
most_info n1 Disc = 0
most_info n1 Uih = n1

-- what the check octet covers: address, control and length (27.010, 5.2.1.6)
abbrev pub header : Frame → List ℕ → List ℕ
header f indicator = address_of f ∷ control_of f ∷ indicator

-- b is the frame without its flags: address, control, length, information, check octet (27.010, 5.2.1)
pub record Spells (n1 : ℕ) (b : List ℕ) (f : Frame) : Type 0 where
  pub indicator : List ℕ
  pub octets : b ≡ header f indicator ++ f.info ++ check_octet_of (header f indicator) ∷ []
  pub dlci : f.dlci < 62
  pub indicates : Indicates indicator (length f.info)
  pub room : length f.info ≤ most_info n1 f.kind

-- no octets are this frame
abbrev pub HasNoSpelling : ℕ → Frame → Type 0
HasNoSpelling n1 f = (b : List ℕ) → ¬ Spells n1 b f

-- the shortest length indicator
abbrev pub indicator_of : ℕ → List ℕ
indicator_of n = if nat_lt n 128 then short_indicator n else long_indicator n

-- the frame without its flags, its length in the shortest form
unfoldable pub body_of : Frame → List ℕ
body_of f =
    header f (indicator_of (length f.info)) ++ f.info
    ++ check_octet_of (header f (indicator_of (length f.info))) ∷ []

-- the frame as it is written: between its two flags, its length in the shortest form
abbrev pub spelled : Frame → List ℕ
spelled f = flag ∷ body_of f ++ flag ∷ []
