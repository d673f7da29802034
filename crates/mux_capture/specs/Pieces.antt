-- What octets that pass one way come to: frames, and between them octets that are none (27.010, 5.2.3, 5.2.5 and 5.2.6.1).
use Rattle.std.specs.Prelude.{◌≡◌, ◌≢◌, ℕ, ◌==◌, List, [], ◌∷◌, ◌++◌, take, drop, if◌then◌else◌}
use Rattle.std.specs.List.{flat_map}
use Rattle.mux_frame.specs.Frames.{Frame}
use Rattle.mux_frame.specs.Reading.{Reads}
use Rattle.mux_frame.specs.Spelling.{flag, Spells}
use Rattle.mux_capture.specs.FirstFrame.{ReadsFirst}

-- a frame, by its octets between its flags; or octets that are none
pub data Piece : Type 0 where
  framed : (octets : List ℕ) (frame : Frame) → Piece
  damage : (octets : List ℕ) → Piece

-- the octets behind the flags at their front
abbrev pub behind_flags : List ℕ → List ℕ
behind_flags [] = []
behind_flags (x ∷ xs) = if x == flag then behind_flags xs else x ∷ xs

-- the most octets of a piece that is no frame
abbrev pub most_damage : ℕ
most_damage = 65532

-- the octets are no frame: they are one piece, or as many as their number needs
pub data AreDamage : (octets : List ℕ) → List Piece → Type 0 where
  none : AreDamage [] []
  some :
      (octets : List ℕ) (more : List Piece) → octets ≢ [] → AreDamage (drop most_damage octets) more
      → AreDamage octets (damage (take most_damage octets) ∷ more)

-- The text is these pieces in their order, and the rest can become a frame. What stands in front of a frame, or of the rest, and is read
-- as none is damage, without the flags at its front. The closing flag of a frame can be the first of the next.
pub data Shows (n1 : ℕ) : (text : List ℕ) → List Piece → (rest : List ℕ) → Type 0 where
  ends :
      (front rest : List ℕ) (pieces : List Piece) → Reads n1 (front ++ rest) [] rest → AreDamage (behind_flags front) pieces
      → Shows n1 (front ++ rest) pieces rest
  frame :
      (front b x rest : List ℕ) (f : Frame) (pieces more : List Piece) → Spells n1 b f
      → ReadsFirst n1 (front ++ (flag ∷ b ++ flag ∷ x)) f x → AreDamage (behind_flags front) pieces → Shows n1 (flag ∷ x) more rest
      → Shows n1 (front ++ (flag ∷ b ++ flag ∷ x)) (pieces ++ framed b f ∷ more) rest

-- the frames among pieces, in order
abbrev pub frames_of : List Piece → List Frame
frames_of [] = []
frames_of (framed b f ∷ more) = f ∷ frames_of more
frames_of (damage d ∷ more) = frames_of more

-- ## Laws

-- the octets of a text, without its flags
abbrev pub unflagged : List ℕ → List ℕ
unflagged [] = []
unflagged (x ∷ xs) = if x == flag then unflagged xs else x ∷ unflagged xs

abbrev pub octets_of : Piece → List ℕ
octets_of (framed b f) = b
octets_of (damage d) = d

-- the frames among the pieces of a text are those that the text is read as
abbrev pub ShowsFrames : Type 0
ShowsFrames = (n1 : ℕ) (text rest : List ℕ) (pieces : List Piece) → Shows n1 text pieces rest → Reads n1 text (frames_of pieces) rest

-- but for flags, the octets are those of the pieces in their order, and then those of the rest
abbrev pub IsAll : (octets : List ℕ) → List Piece → (rest : List ℕ) → Type 0
IsAll octets pieces rest = unflagged octets ≡ flat_map (λ p. unflagged (octets_of p)) pieces ++ unflagged rest

-- nothing of a text is missing
abbrev pub ShowsAll : Type 0
ShowsAll = (n1 : ℕ) (text rest : List ℕ) (pieces : List Piece) → Shows n1 text pieces rest → IsAll text pieces rest
