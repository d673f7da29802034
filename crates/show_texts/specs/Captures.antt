-- What is printed of a capture.
use Rattle.std.specs.Prelude.{◌≡◌, ℕ, ◌&&◌, Bool, List, [], ◌∷◌, ◌++◌, Option, IfSome, codes, if◌then◌else◌}
use Rattle.std.specs.Io.KnownBytes.{Appends, Consumes, IsAtEnd}
use Rattle.mux_frame.specs.Frames.{Frame}
use Rattle.mux_frame.specs.Reading.{Reads}
use Rattle.mux_capture.specs.Passing.{Passed}
use Rattle.mux_capture.specs.Pcap.{packet}
use Rattle.mux_capture.specs.declared.packet.Kind.{Kind}
use Rattle.mux_capture.specs.declared.packet.Kind.TheVariants as kind
use Rattle.modem_show.specs.Ways.{caught}
use Rattle.mux_capture.specs.Reading.{IsHeaded}
use Rattle.ctl_text.specs.Writing.{IsBegun}
use Rattle.show_texts.specs.declared.fault.ShowFault.{ShowFault}
use Rattle.show_texts.specs.Telling.{Damage, Framed, Item, Setting, Teller, TellerFits, has_complaint, setting_of, shown_text}

-- ## Packets, the newest first

-- whether it has a frame, and what passed
pub record Packet : Type 0 where
  pub kind : Kind
  pub passed : Passed

-- the octets of these packets in a file
abbrev pub packets_octets : List Packet → List ℕ
packets_octets [] = []
packets_octets (p ∷ packets) =
    packets_octets packets ++ packet p.kind p.passed.stamp p.passed.direction p.passed.octets

-- with the frames of a packet
abbrev pub with_frames : Passed → List Frame → List Item → List Item
with_frames p [] items = items
with_frames p (f ∷ frames) items = with_frames p frames (Framed (caught p.stamp p.direction f) ∷ items)

-- damage has no frame, and a packet that no frame is read in is damage too
abbrev pub with_packet : Passed → List Frame → List Item → List Item
with_packet p [] items = Damage p ∷ items
with_packet p (f ∷ frames) items = with_frames p (f ∷ frames) items

-- The octets of a packet, by themselves, are read as these frames. A frame may have as much information as a length indicator can tell.
pub record ReadsFrames (octets : List ℕ) (frames : List Frame) : Type 0 where
  pub rest : List ℕ
  pub reads : Reads 32767 octets frames rest

abbrev pub IsReadAs : Kind → List ℕ → List Frame → Type 0
IsReadAs kind.Frame octets frames = ReadsFrames octets frames
IsReadAs kind.Damage octets frames = frames ≡ []

-- the packets come to these items
pub data AreItems : List Packet → List Item → Type 0 where
  none : AreItems [] []
  more :
      (packets : List Packet) (items : List Item) (p : Packet) (frames : List Frame)
      → AreItems packets items → IsReadAs p.kind p.passed.octets frames
      → AreItems (p ∷ packets) (with_packet p.passed frames items)

-- ## The whole

-- The file, where it is known, is a header of a capture and these packets. This was printed of them, and it is known whether there is
-- a complaint.
pub record IsShown (s : Setting) (wrong : Bool) (file before after : Option (List ℕ)) : Type 0 where
  pub head : List ℕ
  pub packets : List Packet
  pub items : List Item
  pub headed : IsHeaded head []
  pub whole : IfSome file (λ all. all ≡ head ++ packets_octets packets)
  pub are : AreItems packets items
  pub printed : Appends before after (shown_text s items)
  pub is_wrong : wrong ≡ has_complaint s items

-- the status says whether there is a complaint, where that is asked
pub record HasShown (s : Setting) (strict : Bool) (file before after : Option (List ℕ)) (status : ℕ) : Type 0 where
  pub wrong : Bool
  pub shown : IsShown s wrong file before after
  pub status_is : status ≡ (if strict && wrong then 3 else 0)

-- ## Faults

abbrev pub fault_words : ShowFault → List ℕ
fault_words ShowFault.NoMemory = codes "fault: no memory"
fault_words ShowFault.Input = codes "fault: input"
fault_words ShowFault.CutShort = codes "fault: the capture is cut short"
fault_words ShowFault.BadPacket = codes "fault: a packet of the capture can't be read"
fault_words ShowFault.Endless = codes "fault: gave up: the capture has no end"
fault_words ShowFault.Output = codes "fault: output"
fault_words ShowFault.NoCapture = codes "error: the file is no capture of frames of 27.010 (pcap, link type 236)"

abbrev pub fault_line : ShowFault → List ℕ
fault_line fault = fault_words fault ++ 10 ∷ []

-- 2 where the file is no capture, else 1
abbrev pub fault_status : ShowFault → ℕ
fault_status ShowFault.NoCapture = 2
fault_status ShowFault.NoMemory = 1
fault_status ShowFault.Input = 1
fault_status ShowFault.CutShort = 1
fault_status ShowFault.BadPacket = 1
fault_status ShowFault.Endless = 1
fault_status ShowFault.Output = 1

-- of a file that isn't shown to its end this is said, or a beginning of it
pub record SaysFault (before after : Option (List ℕ)) (status : ℕ) : Type 0 where
  pub fault : ShowFault
  pub has_status : status ≡ fault_status fault
  pub said : IsBegun before after (fault_line fault)

-- ## Steps

-- one packet more is told
pub record TellsPacket (old new : Teller) (k : Kind) (p : Passed) : Type 0 where
  pub setting : setting_of new ≡ setting_of old
  pub frames : List Frame
  pub reads : IsReadAs k p.octets frames
  pub fits :
      (written : List ℕ) (items : List Item) → TellerFits written old items
      → TellerFits written new (with_packet p frames items)

-- these frames of a packet are told
pub record TellsFrames (old new : Teller) (p : Passed) (frames : List Frame) : Type 0 where
  pub setting : setting_of new ≡ setting_of old
  pub fits :
      (written : List ℕ) (items : List Item) → TellerFits written old items
      → TellerFits written new (with_frames p frames items)

-- a part of the text, or none, is written
pub record Writes (old new : Teller) (before after : Option (List ℕ)) : Type 0 where
  pub setting : setting_of new ≡ setting_of old
  pub part : List ℕ
  pub appended : Appends before after part
  pub fits :
      (written : List ℕ) (items : List Item) → TellerFits written old items → TellerFits (written ++ part) new items

-- octets are read behind others
pub record ReadsMore (before after : Option (List ℕ)) (old new : List ℕ) : Type 0 where
  pub more : List ℕ
  pub read : Consumes before after more
  pub kept : new ≡ old ++ more

-- these packets were read and told
pub record ToldSoFar (old new : Teller) (input left before after : Option (List ℕ)) : Type 0 where
  pub packets : List Packet
  pub items : List Item
  pub written : List ℕ
  pub setting : setting_of new ≡ setting_of old
  pub read : Consumes input left (packets_octets packets)
  pub are : AreItems packets items
  pub appended : Appends before after written
  pub fits : TellerFits [] old [] → TellerFits written new items

-- octets of a file are a packet, which is told
pub record TellsOctets (old new : Teller) (octets : List ℕ) : Type 0 where
  pub k : Kind
  pub p : Passed
  pub is : octets ≡ packet k p.stamp p.direction p.octets
  pub tells : TellsPacket old new k p

-- the same, and a part of the text, or none, is written
pub record ShowsOctets (old new : Teller) (octets : List ℕ) (before after : Option (List ℕ)) : Type 0 where
  pub mid : Teller
  pub tells : TellsOctets old mid octets
  pub writes : Writes mid new before after

-- all packets that a reader had were read and told
pub record IsToldWhole (old new : Teller) (input before after : Option (List ℕ)) : Type 0 where
  pub left : Option (List ℕ)
  pub end : IsAtEnd left
  pub told : ToldSoFar old new input left before after
