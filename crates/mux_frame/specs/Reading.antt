-- How frames are read (27.010, 5.2.3, 5.2.5 and 5.2.6.1).
use Rattle.std.specs.Prelude.{◌≡◌, ◌≢◌, ℕ, ◌==◌, List, [], ◌∷◌, ◌++◌, Option, None, Some, if◌then◌else◌}
use Rattle.mux_frame.specs.Frames.{Frame}
use Rattle.mux_frame.specs.Spelling.{flag, Spells}

-- the text after the first flag
abbrev pub after_flag : List ℕ → Option (List ℕ)
after_flag [] = None
after_flag (x ∷ xs) = if x == flag then Some xs else after_flag xs

-- the text begins with a flag
pub record IsFill (t : List ℕ) : Type 0 where
  pub later : List ℕ
  pub text : t ≡ flag ∷ later

-- the text begins with a frame and its closing flag
pub record HasFrame (n1 : ℕ) (t : List ℕ) : Type 0 where
  pub frame : Frame
  pub octets : List ℕ
  pub later : List ℕ
  pub text : t ≡ octets ++ flag ∷ later
  pub spells : Spells n1 octets frame

-- the text is a proper beginning of a frame and its closing flag
pub record IsCutShort (n1 : ℕ) (t : List ℕ) : Type 0 where
  pub frame : Frame
  pub octets : List ℕ
  pub missing : List ℕ
  pub text : octets ++ flag ∷ [] ≡ t ++ missing
  pub proper : missing ≢ []
  pub spells : Spells n1 octets frame

-- The frames in a text, and its rest (27.010, 5.2.3, 5.2.5 and 5.2.6.1). Reading goes by the text t after the
-- first flag.
pub data Reads (n1 : ℕ) : List ℕ → List Frame → List ℕ → Type 0 where
  -- 1. no flag: no frame, and no rest
  no_flag : (s : List ℕ) → after_flag s ≡ None → Reads n1 s [] []
  -- 2. t begins with a flag: fill, and reading goes on from t
  fill : (s t : List ℕ) (fs : List Frame) (rest : List ℕ)
      → after_flag s ≡ Some (flag ∷ t)
      → Reads n1 (flag ∷ t) fs rest
      → Reads n1 s fs rest
  -- 3. t begins with a frame and a flag: it is read, and reading goes on from that flag
  frame : (s b x : List ℕ) (f : Frame) (fs : List Frame) (rest : List ℕ)
      → after_flag s ≡ Some (b ++ flag ∷ x)
      → Spells n1 b f
      → Reads n1 (flag ∷ x) fs rest
      → Reads n1 s (f ∷ fs) rest
  -- 4. t is a proper beginning of such a text, as nothing is: no more frames, and the rest is the flag and t
  cut_short : (s t : List ℕ) → after_flag s ≡ Some t → IsCutShort n1 t → Reads n1 s [] (flag ∷ t)
  -- 5. otherwise only the flag is dropped, and reading goes on in t
  other : (s t : List ℕ) (fs : List Frame) (rest : List ℕ)
      → after_flag s ≡ Some t
      → ¬ IsFill t
      → ¬ HasFrame n1 t
      → ¬ IsCutShort n1 t
      → Reads n1 t fs rest
      → Reads n1 s fs rest
