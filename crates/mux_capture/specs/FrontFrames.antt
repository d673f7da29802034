-- What octets at the front of a text are, whatever follows (27.010, 5.2.3, 5.2.5 and 5.2.6.1).
use Rattle.std.specs.Prelude.{◌≡◌, ℕ, ◌+◌, ◌≤◌, nat_le, Bool, false, List, [], ◌∷◌, ◌++◌, length, take, drop}
use Rattle.mux_frame.specs.Frames.{Frame}
use Rattle.mux_frame.specs.Spelling.{flag, Spells}
use Rattle.mux_frame.specs.Laws.{AreOctets}
use Rattle.mux_frame.specs.Reading.{Reads}
use Rattle.mux_capture.specs.declared.finding.Found.{Found}
use Rattle.mux_capture.specs.declared.finding.Found.TheVariants as found
use Rattle.mux_capture.specs.declared.finding.Front.{Front}
use Rattle.mux_capture.specs.declared.finding.Front.TheVariants as front
use Rattle.mux_capture.specs.FirstFrame.{ReadsFirst}

-- what is read of t, with more behind it, is read of s, with the same behind it
pub record PassesOver (n1 : ℕ) (s t : List ℕ) : Type 0 where
  pub no_longer : length t ≤ length s
  pub first : (z x : List ℕ) (f : Frame) → ReadsFirst n1 (t ++ z) f x → ReadsFirst n1 (s ++ z) f x
  pub none : (z rest : List ℕ) → Reads n1 (t ++ z) [] rest → Reads n1 (s ++ z) [] rest

-- the text is a frame, from flag to flag
pub record IsFrameText (n1 : ℕ) (text : List ℕ) : Type 0 where
  pub frame : Frame
  pub octets : List ℕ
  pub text_is : text ≡ flag ∷ octets ++ flag ∷ []
  pub spells : Spells n1 octets frame
  pub octets_are : AreOctets text

-- the first of these frames can be as long as a text of so many octets: beside its information a frame has two flags, address, control,
-- one or two length octets, and the check octet
abbrev pub can_fill : List Frame → ℕ → Bool
can_fill [] n = false
can_fill (f ∷ fs) n = nat_le n (length f.info + 7)

-- all of the text can become a frame; a front of it is one; or none begins with its first octet
abbrev pub IsFront : ℕ → List ℕ → Front → Type 0
IsFront n1 text front.Begins = Reads n1 text [] text
IsFront n1 text (front.Frame count) = (count ≤ length text) × IsFrameText n1 (take count text)
IsFront n1 text front.Other = PassesOver n1 text (drop 1 text)

-- The text is these octets, which begin no frame, and behind them what can become one; or a frame, and what stands behind that.
abbrev pub IsFound : ℕ → List ℕ → Found → Type 0
IsFound n1 text (found.None front rest) = (text ≡ front.now ++ rest.now) × PassesOver n1 text rest.now × Reads n1 rest.now [] rest.now
IsFound n1 text (found.Frame front frame behind) =
    (text ≡ front.now ++ (frame.now ++ behind.now)) × PassesOver n1 text (frame.now ++ behind.now) × IsFrameText n1 frame.now
