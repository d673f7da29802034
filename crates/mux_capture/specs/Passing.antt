-- What passes on a line, and what is captured of it.
use Rattle.std.specs.Prelude.{◌≡◌, ℕ, Bool, true, false, List, [], ◌∷◌, ◌++◌, Option, map, if◌then◌else◌}
use Rattle.std.specs.List.{flat_map}
use Rattle.std.specs.Io.KnownBytes.{Appends}
use Rattle.mux_frame.specs.Frames.{Frame}
use Rattle.mux_frame.specs.Reading.{Reads}
use Rattle.mux_frame.specs.Spelling.{flag}
use Rattle.mux_capture.specs.declared.packet.Direction.{Direction}
use Rattle.mux_capture.specs.declared.packet.Direction.TheVariants.{ToModem, FromModem}
use Rattle.mux_capture.specs.declared.packet.Kind.TheVariants as kind
use Rattle.mux_capture.specs.declared.packet.Stamp.{Stamp}
use Rattle.mux_capture.specs.Pcap.{file_header, packet}
use Rattle.mux_capture.specs.Pieces.{AreDamage, Piece, IsAll, Shows, behind_flags, damage, framed, frames_of}

-- octets that passed, when, and which way
pub record Passed : Type 0 where
  pub stamp : Stamp
  pub direction : Direction
  pub octets : List ℕ

-- a frame that passed, when, and which way it went
pub record Caught : Type 0 where
  pub stamp : Stamp
  pub direction : Direction
  pub frame : Frame

-- a piece that was captured, when, and which way it went
pub record Packed : Type 0 where
  pub stamp : Stamp
  pub direction : Direction
  pub piece : Piece

-- its packet: a frame stands there from flag to flag
abbrev pub piece_packet : Stamp → Direction → Piece → List ℕ
piece_packet stamp direction (framed b f) = packet kind.Frame stamp direction (flag ∷ b ++ flag ∷ [])
piece_packet stamp direction (damage d) = packet kind.Damage stamp direction d

abbrev pub packet_with : Packed → List ℕ
packet_with p = piece_packet p.stamp p.direction p.piece

abbrev pub is_same : (a b : Direction) → Bool
is_same ToModem ToModem = true
is_same FromModem FromModem = true
is_same ToModem FromModem = false
is_same FromModem ToModem = false

-- all octets that passed this way, in order
abbrev pub octets_in : Direction → List Passed → List ℕ
octets_in d [] = []
octets_in d (p ∷ more) = if is_same p.direction d then p.octets ++ octets_in d more else octets_in d more

-- the captured pieces that went this way, in order
abbrev pub pieces_in : Direction → List Packed → List Piece
pieces_in d [] = []
pieces_in d (p ∷ more) = if is_same p.direction d then p.piece ∷ pieces_in d more else pieces_in d more

abbrev pub passed_at : Stamp → Direction → List ℕ → Passed
passed_at stamp direction octets = record { stamp = stamp; direction = direction; octets = octets }

abbrev pub packed_at : Stamp → Direction → Piece → Packed
packed_at stamp direction piece = record { stamp = stamp; direction = direction; piece = piece }

-- As octets passed, the pieces were captured that they come to, each way behind what could still become a frame: `to` and `from` is
-- what still can. A frame may have so much information.
pub data Catches (n1 : ℕ) : List Passed → List Packed → (to from : List ℕ) → Type 0 where
  none : Catches n1 [] [] [] []
  to_modem :
      (passed : List Passed) (packed : List Packed) (to from octets rest : List ℕ) (stamp : Stamp) (pieces : List Piece)
      → Catches n1 passed packed to from → Shows n1 (to ++ octets) pieces rest
      → Catches n1 (passed ++ passed_at stamp ToModem octets ∷ []) (packed ++ map (packed_at stamp ToModem) pieces) rest from
  from_modem :
      (passed : List Passed) (packed : List Packed) (to from octets rest : List ℕ) (stamp : Stamp) (pieces : List Piece)
      → Catches n1 passed packed to from → Shows n1 (from ++ octets) pieces rest
      → Catches n1 (passed ++ passed_at stamp FromModem octets ∷ []) (packed ++ map (packed_at stamp FromModem) pieces) to rest

-- what a capture has: what its writer holds, where that is known; how much information a frame may have; the octets each way that can
-- become a frame; and whether it failed
pub record CaptureState : Type 0 where
  pub written : Option (List ℕ)
  pub n1 : ℕ
  pub to_modem : List ℕ
  pub from_modem : List ℕ
  pub failed : Bool

-- Octets that could still become a frame each way came to none: they are damage, which was captured at this time.
pub record AreRests (stamp : Stamp) (to from : List ℕ) (packed : List Packed) : Type 0 where
  pub sent : List Piece
  pub came : List Piece
  pub sent_are : AreDamage (behind_flags to) sent
  pub came_are : AreDamage (behind_flags from) came
  pub packed_is : packed ≡ map (packed_at stamp ToModem) sent ++ map (packed_at stamp FromModem) came

-- what passed while a frame might have so much information
pub record Stretch : Type 0 where
  pub n1 : ℕ
  pub passed : List Passed

-- a stretch is over: what was captured of it, the rests behind its pieces
pub record IsOver (s : Stretch) (packed : List Packed) : Type 0 where
  pub before : List Packed
  pub to : List ℕ
  pub from : List ℕ
  pub catches : Catches s.n1 s.passed before to from
  pub stamp : Stamp
  pub rests : List Packed
  pub are_rests : AreRests stamp to from rests
  pub packed_is : packed ≡ before ++ rests

-- all of these are, one after the other
pub data AreOver : List Stretch → List Packed → Type 0 where
  none_over : AreOver [] []
  one_over :
      (over : List Stretch) (s : Stretch) (packed more : List Packed) → AreOver over packed → IsOver s more
      → AreOver (over ++ s ∷ []) (packed ++ more)

-- It hasn't failed, and since its writer held this, it wrote the header of a file and a packet for each piece of what passed: in
-- stretches that are over, and then in one that goes on.
pub record HasStretches (before : Option (List ℕ)) (over : List Stretch) (passed : List Passed) (s : CaptureState) : Type 0 where
  pub good : s.failed ≡ false
  pub ended : List Packed
  pub are_over : AreOver over ended
  pub packed : List Packed
  pub catches : Catches s.n1 passed packed s.to_modem s.from_modem
  pub written : Appends before s.written (file_header ++ flat_map packet_with (ended ++ packed))

-- the same in one stretch, which goes on
abbrev pub HasCaptured : (before : Option (List ℕ)) (passed : List Passed) → CaptureState → Type 0
HasCaptured before passed = HasStretches before [] passed

-- whatever it captured before, it captures this too
unfoldable pub Captures : (old new : CaptureState) → Passed → Type 0
Captures old new p =
    (before : Option (List ℕ)) (over : List Stretch) (passed : List Passed) → HasStretches before over passed old
    → HasStretches before over (passed ++ p ∷ []) new

-- whatever it captured before, the stretch that went on is over, and nothing has passed in the next
unfoldable pub Renews : (old new : CaptureState) → Type 0
Renews old new =
    (before : Option (List ℕ)) (over : List Stretch) (passed : List Passed) → HasStretches before over passed old
    → HasStretches before (over ++ record { n1 = old.n1; passed = passed } ∷ []) [] new

-- ## Laws

-- the captured frames that went this way, in order
abbrev pub frames_in : Direction → List Packed → List Frame
frames_in d packed = frames_of (pieces_in d packed)

-- What was captured each way are the frames that all octets that passed that way are read as.
abbrev pub CatchesFrames : Type 0
CatchesFrames =
    (n1 : ℕ) (passed : List Passed) (packed : List Packed) (to from : List ℕ) → Catches n1 passed packed to from
    → Reads n1 (octets_in ToModem passed) (frames_in ToModem packed) to
    × Reads n1 (octets_in FromModem passed) (frames_in FromModem packed) from

-- nothing that passed is missing
abbrev pub CatchesAll : Type 0
CatchesAll =
    (n1 : ℕ) (passed : List Passed) (packed : List Packed) (to from : List ℕ) → Catches n1 passed packed to from
    → IsAll (octets_in ToModem passed) (pieces_in ToModem packed) to × IsAll (octets_in FromModem passed) (pieces_in FromModem packed) from

-- Of a stretch that is over the frames captured that way are those that all its octets are read as, and but for flags nothing is missing.
pub record IsReadWhole (d : Direction) (s : Stretch) (packed : List Packed) : Type 0 where
  pub rest : List ℕ
  pub reads : Reads s.n1 (octets_in d s.passed) (frames_in d packed) rest
  pub all : IsAll (octets_in d s.passed) (pieces_in d packed) []

-- each way
abbrev pub OverIsRead : Type 0
OverIsRead = (s : Stretch) (packed : List Packed) → IsOver s packed → IsReadWhole ToModem s packed × IsReadWhole FromModem s packed
