-- What is printed of a frame, beside what is wrong with it.
use Rattle.std.specs.Prelude.{ℕ, ◌==◌, Bool, List, [], ◌∷◌, ◌++◌, length, codes, Option, None, Some, if◌then◌else◌}
use Rattle.std.specs.Fmt.{decimal}
use Rattle.std.specs.List.{flat_map}
use Rattle.hex.specs.Hex.{encode_lower}
use Rattle.at_text.specs.Rules.{Rules}
use Rattle.mux_frame.specs.Frames.{Frame}
use Rattle.mux_frame.specs.declared.frame.Kind.{Kind}
use Rattle.mux_frame.specs.declared.frame.Kind.TheVariants.{Sabm, Ua, Dm, Disc, Uih}
use Rattle.mux_capture.specs.declared.packet.Direction.{Direction}
use Rattle.mux_capture.specs.declared.packet.Stamp.{Stamp}
use Rattle.mux_station.specs.Messages.{Message, message_of, is_msc, msc_dlci, msc_stops}
use Rattle.modem_show.specs.declared.told.Told.{Told}
use Rattle.show_texts.specs.Lines.{told_line}
use Rattle.show_texts.specs.Words.{head_text}

-- SABM, UA, DM and DISC by what they do, where the kind of the frame that an answer answers is given (27.010, 5.4.1 and 5.4.2)
abbrev pub mode_word : Kind → Option Kind → List ℕ
mode_word Sabm answered = codes "open"
mode_word Disc answered = codes "close"
mode_word Ua (Some Sabm) = codes "opened"
mode_word Ua (Some Disc) = codes "closed"
mode_word Ua answered = codes "UA"
mode_word Dm (Some Sabm) = codes "refused"
mode_word Dm (Some Disc) = codes "closed"
mode_word Dm answered = codes "DM"
mode_word Uih answered = codes "UIH"

abbrev pub mode_text : Kind → Option Kind → (d : ℕ) → List ℕ
mode_text kind answered d = mode_word kind answered ++ codes " " ++ decimal d ++ codes "\n"

-- the types of control messages, as commands and as responses (27.010, 5.4.6.3)
abbrev pub message_word : ℕ → List ℕ
message_word octet =
    if octet == 0x23 then codes "test" else if octet == 0x21 then codes "test answered"
    else if octet == 0x63 then codes "stop all" else if octet == 0x61 then codes "stop all answered"
    else if octet == 0xa3 then codes "go all" else if octet == 0xa1 then codes "go all answered"
    else if octet == 0xc3 then codes "close down" else if octet == 0xc1 then codes "close down answered"
    else if octet == 0xe3 then codes "status" else if octet == 0xe1 then codes "status answered"
    else if octet == 0x13 then codes "unsupported" else if octet == 0x11 then codes "unsupported answered"
    else codes "message"

-- octets in hexadecimal behind a blank; nothing where there is none
abbrev pub octets_part : List ℕ → List ℕ
octets_part [] = []
octets_part (x ∷ octets) = codes " " ++ encode_lower (x ∷ octets)

-- the connection that an MSC names, and whether it stops it or lets it go on; of another message its value
abbrev pub value_text : Message → List ℕ
value_text m =
    if is_msc m.octet
    then codes " " ++ decimal (msc_dlci m.value) ++ (if msc_stops m.value then codes " stop" else codes " go")
    else octets_part m.value

-- information on 0: a control message with its type octet and its value, or none
abbrev pub control_text : List ℕ → Option Message → List ℕ
control_text info None = codes "no message" ++ octets_part info ++ codes "\n"
control_text info (Some m) = message_word m.octet ++ value_text m ++ codes "\n"

-- so much data passed on a connection
abbrev pub data_text : (d count : ℕ) → List ℕ
data_text d count = codes "data " ++ decimal d ++ codes " " ++ decimal count ++ codes "\n"

-- UIH: a control message, data in its count, or the lines that end in it
abbrev pub uih_text : Rules → Stamp → Direction → (asked : Option Stamp) → (is_data : Bool) → Frame → List Told → List ℕ
uih_text rules s d asked is_data f told =
    if f.dlci == 0 then head_text s d ++ control_text f.info (message_of f.info)
    else if is_data then head_text s d ++ data_text f.dlci (length f.info)
    else flat_map (told_line rules s d asked f) told

-- any other frame by what it does
abbrev pub by_kind : Kind → (mode uih : List ℕ) → List ℕ
by_kind Uih mode uih = uih
by_kind Sabm mode uih = mode
by_kind Ua mode uih = mode
by_kind Dm mode uih = mode
by_kind Disc mode uih = mode

abbrev pub event_text : Rules → Stamp → Direction → (answered : Option Kind) → (asked : Option Stamp) → (is_data : Bool) → Frame → List Told → List ℕ
event_text rules s d answered asked is_data f told =
    by_kind f.kind (head_text s d ++ mode_text f.kind answered f.dlci) (uih_text rules s d asked is_data f told)
