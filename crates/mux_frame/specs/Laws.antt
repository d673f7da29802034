-- Laws of spelling and reading.
use Rattle.std.specs.Prelude.{◌≡◌, ℕ, ◌<◌, ◌≤◌, List, ◌∷◌, ◌++◌, length, slice_index, flat_map, All, []}
use Rattle.mux_frame.specs.Frames.{Frame}
use Rattle.mux_frame.specs.Spelling.{flag, body_of, Spells, spelled}
use Rattle.mux_frame.specs.Reading.{Reads}

-- octets spell one frame, and no spelling is the beginning of another
abbrev pub OneSpelling : Type 0
OneSpelling =
    (n m : ℕ) (b c x y : List ℕ) (f g : Frame)
    → Spells n b f
    → Spells m c g
    → b ++ x ≡ c ++ y
    → (b ≡ c) × (f ≡ g) × (x ≡ y)

-- a text has one reading
abbrev pub IsFunction : Type 0
IsFunction =
    (n1 : ℕ) (s : List ℕ) (fs gs : List Frame) (rest other : List ℕ)
    → Reads n1 s fs rest
    → Reads n1 s gs other
    → (fs ≡ gs) × (rest ≡ other)

-- reading on from the rest and the octets after it gives what reading all octets anew gives
abbrev pub ReadsOn : Type 0
ReadsOn =
    (n1 : ℕ) (s x : List ℕ) (fs gs : List Frame) (rest later : List ℕ)
    → Reads n1 s fs rest
    → Reads n1 (rest ++ x) gs later
    → Reads n1 (s ++ x) (fs ++ gs) later

-- a frame between its flags is read, whatever follows
abbrev pub ReadsWritten : Type 0
ReadsWritten =
    (n1 : ℕ) (b x : List ℕ) (f : Frame) (fs : List Frame) (rest : List ℕ)
    → Spells n1 b f
    → Reads n1 (flag ∷ x) fs rest
    → Reads n1 (flag ∷ b ++ flag ∷ x) (f ∷ fs) rest

-- a frame that is written is spelled, and no spelling of it is shorter
abbrev pub SpellsShortest : Type 0
SpellsShortest =
    (n1 : ℕ) (b : List ℕ) (f : Frame)
    → Spells n1 b f
    → Spells n1 (body_of f) f × (length (body_of f) ≤ length b)

-- these are octets
abbrev pub AreOctets : List ℕ → Type 0
AreOctets xs = (i : ℕ) → slice_index xs i < 256

-- the frames and the rest of a text
pub record Reading (n1 : ℕ) (s : List ℕ) : Type 0 where
  pub frames : List Frame
  pub rest : List ℕ
  pub reads : Reads n1 s frames rest

-- all octets have a reading
abbrev pub IsTotal : Type 0
IsTotal = (n1 : ℕ) (s : List ℕ) → AreOctets s → Reading n1 s

-- the second list of frames is the first and more
pub record GoesOn (fs gs : List Frame) : Type 0 where
  pub later : List Frame
  pub frames : gs ≡ fs ++ later

-- what is read of the beginning of octets is the beginning of what is read of them all
abbrev pub ReadsBeginning : Type 0
ReadsBeginning =
    (n1 : ℕ) (s x : List ℕ) (fs gs : List Frame) (rest last : List ℕ)
    → AreOctets (s ++ x)
    → Reads n1 s fs rest
    → Reads n1 (s ++ x) gs last
    → GoesOn fs gs

-- a frame that has a spelling
pub record HasSpelling (n1 : ℕ) (f : Frame) : Type 0 where
  pub octets : List ℕ
  pub spells : Spells n1 octets f

-- what written frames leave as rest: the last closing flag
abbrev pub last_flag : List Frame → List ℕ
last_flag [] = []
last_flag (f ∷ fs) = flag ∷ []

-- frames that are written one after the other are read as those frames
abbrev pub ReadsSpelled : Type 0
ReadsSpelled =
    (n1 : ℕ) (fs : List Frame) → All (HasSpelling n1) fs → Reads n1 (flat_map spelled fs) fs (last_flag fs)
