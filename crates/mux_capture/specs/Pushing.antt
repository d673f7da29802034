-- Packets are written for the pieces of a text.
use Rattle.std.specs.Prelude.{◌≡◌, ℕ, Bool, true, false, List, [], ◌++◌, Option}
use Rattle.std.specs.List.{flat_map}
use Rattle.std.specs.Io.KnownBytes.{Appends}
use Rattle.mux_capture.specs.declared.packet.Direction.{Direction}
use Rattle.mux_capture.specs.declared.packet.Stamp.{Stamp}
use Rattle.mux_capture.specs.Passing.{AreRests, Packed, packet_with, piece_packet}
use Rattle.mux_capture.specs.Pieces.{AreDamage, Piece, Shows, behind_flags}

-- packets of these pieces stand behind what stood before
abbrev pub ArePushed : Stamp → Direction → List Piece → (before after : List ℕ) → Type 0
ArePushed stamp direction pieces before after = after ≡ before ++ flat_map (piece_packet stamp direction) pieces

-- of octets that are no frame
pub record PushesDamage (stamp : Stamp) (direction : Direction) (octets before after : List ℕ) : Type 0 where
  pub pieces : List Piece
  pub are : AreDamage (behind_flags octets) pieces
  pub pushed : ArePushed stamp direction pieces before after

-- Of a text: with `more`, of all up to a frame, and the text goes on from that frame's closing flag; else of all that there are.
pub record PushesFirst (n1 : ℕ) (stamp : Stamp) (direction : Direction) (text left : List ℕ) (more : Bool) (before after : List ℕ) : Type 0 where
  pub pieces : List Piece
  pub goes_on : (next : List Piece) (rest : List ℕ) → more ≡ true → Shows n1 left next rest → Shows n1 text (pieces ++ next) rest
  pub ends : more ≡ false → Shows n1 text pieces left
  pub pushed : ArePushed stamp direction pieces before after

-- of all that a text comes to
pub record PushesAll (n1 : ℕ) (stamp : Stamp) (direction : Direction) (text rest before after : List ℕ) : Type 0 where
  pub pieces : List Piece
  pub shows : Shows n1 text pieces rest
  pub pushed : ArePushed stamp direction pieces before after

-- the packets of what octets come to, behind those that could become a frame, are written; the rest can become one
pub record Passes (n1 : ℕ) (stamp : Stamp) (direction : Direction) (kept octets rest : List ℕ) (before after : Option (List ℕ)) : Type 0 where
  pub pieces : List Piece
  pub shows : Shows n1 (kept ++ octets) pieces rest
  pub written : Appends before after (flat_map (piece_packet stamp direction) pieces)

-- the packets of what could still become a frame each way are written, as damage, and nothing of it is kept
pub record PushesRests (stamp : Stamp) (to from to_left from_left : List ℕ) (before after : Option (List ℕ)) : Type 0 where
  pub packed : List Packed
  pub are : AreRests stamp to from packed
  pub none_to : to_left ≡ []
  pub none_from : from_left ≡ []
  pub written : Appends before after (flat_map packet_with packed)
