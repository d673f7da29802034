-- The first frame of a text, and what stands behind it (27.010, 5.2.3, 5.2.5 and 5.2.6.1).
use Rattle.std.specs.Prelude.{◌≡◌, ℕ, List, ◌∷◌, ◌++◌, Some}
use Rattle.mux_frame.specs.Frames.{Frame}
use Rattle.mux_frame.specs.Spelling.{flag, Spells}
use Rattle.mux_frame.specs.Reading.{after_flag, IsFill, HasFrame, IsCutShort, Reads}

-- The text is read as this frame first, as `Reads` reads it, and x stands behind the frame's closing flag. Where the first flag begins
-- no frame, the octets behind it are looked at again.
pub data ReadsFirst (n1 : ℕ) : (s : List ℕ) (f : Frame) (x : List ℕ) → Type 0 where
  fill :
      (s t x : List ℕ) (f : Frame) → after_flag s ≡ Some (flag ∷ t) → ReadsFirst n1 (flag ∷ t) f x
      → ReadsFirst n1 s f x
  first : (s b x : List ℕ) (f : Frame) → after_flag s ≡ Some (b ++ flag ∷ x) → Spells n1 b f → ReadsFirst n1 s f x
  other :
      (s t x : List ℕ) (f : Frame) → after_flag s ≡ Some t → ¬ IsFill t → ¬ HasFrame n1 t → ¬ IsCutShort n1 t
      → ReadsFirst n1 t f x → ReadsFirst n1 s f x

-- ## Laws

-- a text has at most one first frame, and what stands behind that is told by the text
abbrev pub OneFirst : Type 0
OneFirst =
    (n1 : ℕ) (s x y : List ℕ) (f g : Frame) → ReadsFirst n1 s f x → ReadsFirst n1 s g y → (f ≡ g) × (x ≡ y)

-- reading goes on from the frame's closing flag
abbrev pub FirstIsRead : Type 0
FirstIsRead =
    (n1 : ℕ) (s x : List ℕ) (f : Frame) (fs : List Frame) (rest : List ℕ) → ReadsFirst n1 s f x
    → Reads n1 (flag ∷ x) fs rest → Reads n1 s (f ∷ fs) rest

-- more octets change neither the frame nor where it ends
abbrev pub FirstStays : Type 0
FirstStays = (n1 : ℕ) (s x z : List ℕ) (f : Frame) → ReadsFirst n1 s f x → ReadsFirst n1 (s ++ z) f (x ++ z)
