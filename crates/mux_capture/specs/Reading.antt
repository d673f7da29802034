-- Captures are read: the inverse of writing them.
use Rattle.std.specs.Prelude.{◌≡◌, ℕ, ◌<◌, ◌^◌, List, ◌++◌, take, drop}
use Rattle.mux_capture.specs.declared.packet.Direction.{Direction}
use Rattle.mux_capture.specs.declared.packet.Kind.{Kind}
use Rattle.mux_capture.specs.declared.packet.Stamp.{Stamp}
use Rattle.mux_capture.specs.Pcap.{little_endian, packet}

-- numbers that four octets can tell
pub record IsStamp (stamp : Stamp) : Type 0 where
  pub seconds : stamp.seconds < 2 ^ 32
  pub micros : stamp.micros < 2 ^ 32

-- octets that begin with the head of a packet of so many octets
abbrev pub headed : Stamp → ℕ → List ℕ → List ℕ
headed stamp kept more =
    little_endian 4 stamp.seconds
    ++ (little_endian 4 stamp.micros ++ (little_endian 4 kept ++ (little_endian 4 kept ++ more)))

-- the octets begin with this packet, and go on so
abbrev pub StartsWith : List ℕ → Kind → Stamp → Direction → (held more : List ℕ) → Type 0
StartsWith octets kind stamp direction held more = octets ≡ packet kind stamp direction held ++ more

-- the octets are a header of 24, whose first four say the order of octets and that times have microseconds, and whose last four are the
-- link type of 27.010; and then these
pub record IsHeaded (octets rest : List ℕ) : Type 0 where
  pub magic : take 4 octets ≡ little_endian 4 0xa1b2c3d4
  pub link : take 4 (drop 20 octets) ≡ little_endian 4 236
  pub behind : drop 24 octets ≡ rest
