-- Captures in the file format of tcpdump (pcap, version 2.4), each number with its lowest octet first, of link type 236: frames of
-- 3GPP TS 27.010, each behind two octets, and octets that are no frame behind three.
use Rattle.std.specs.Prelude.{ℕ, ◌/◌, ◌%◌, min, List, [], ◌∷◌, ◌++◌, length}
use Rattle.std.specs.Int.{bytes_low_first}
use Rattle.mux_capture.specs.declared.packet.Direction.{Direction}
use Rattle.mux_capture.specs.declared.packet.Direction.TheVariants.{ToModem, FromModem}
use Rattle.mux_capture.specs.declared.packet.Kind.{Kind}
use Rattle.mux_capture.specs.declared.packet.Kind.TheVariants as kind
use Rattle.mux_capture.specs.declared.packet.Stamp.{Stamp}

-- a number in so many octets, the lowest first
abbrev pub little_endian : ℕ → ℕ → List ℕ
little_endian octets n = bytes_low_first 0 octets n

-- the stamp of a time in nanoseconds: its whole seconds, as far as a stamp tells them, and the microseconds beyond those
abbrev pub stamp_of : ℕ → Stamp
stamp_of nanos = record { seconds = min (nanos / 1000000000) 4294967295; micros = nanos % 1000000000 / 1000 }

-- The header of a file: the number that says that times have microseconds, and the order of octets; version 2.4; no offset and no
-- accuracy of times; the most octets that are kept of a packet; the link type.
abbrev pub file_header : List ℕ
file_header =
    little_endian 4 0xa1b2c3d4 ++ (little_endian 2 2 ++ (little_endian 2 4
    ++ (little_endian 4 0 ++ (little_endian 4 0
    ++ (little_endian 4 65535 ++ little_endian 4 236)))))

-- which end sent the octets: 0 where they go to the modem, 1 where they come from there
abbrev pub direction_octet : Direction → ℕ
direction_octet ToModem = 0
direction_octet FromModem = 1

-- What stands in front of the octets: how many octets a further head has, that head, and the direction. A frame has no further head;
-- octets that are no frame have one of a single octet, 1.
abbrev pub head_of : Kind → Direction → List ℕ
head_of kind.Frame direction = 0 ∷ direction_octet direction ∷ []
head_of kind.Damage direction = 1 ∷ 1 ∷ direction_octet direction ∷ []

-- A packet: when it was captured, in seconds and microseconds; how many of its octets are kept, and how many it had; and those.
abbrev pub packet_of : Stamp → List ℕ → List ℕ
packet_of stamp octets =
    little_endian 4 stamp.seconds ++ (little_endian 4 stamp.micros
    ++ (little_endian 4 (length octets) ++ (little_endian 4 (length octets) ++ octets)))

-- the packet of a frame from flag to flag, or of octets that are none
abbrev pub packet : Kind → Stamp → Direction → List ℕ → List ℕ
packet kind stamp direction octets = packet_of stamp (head_of kind direction ++ octets)
