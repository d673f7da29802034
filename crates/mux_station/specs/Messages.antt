-- Control messages, read from the information of a UIH frame on 0 (27.010, 5.4.6).
use Rattle.std.specs.Prelude.{ℕ, ◌-◌, ◌+◌, ◌*◌, ◌/◌, ◌%◌, ◌==◌, ◌&&◌, ◌||◌, not, nat_le, nat_lt, Bool, false, List, [], ◌∷◌, length, take, Option, Some, None, if◌then◌else◌}
use Rattle.mux_station.specs.Written.{is_on}
use Rattle.mux_frame.specs.Frames.{Frame}
use Rattle.mux_frame.specs.declared.frame.Kind.TheVariants.{Uih}

-- the type octet as read, and the value
pub record Message : Type 0 where
  pub octet : ℕ
  pub value : List ℕ

-- the types, each as its command
abbrev pub test : ℕ
test = 0x23

abbrev pub fcoff : ℕ
fcoff = 0x63

abbrev pub fcon : ℕ
fcon = 0xa3

abbrev pub cld : ℕ
cld = 0xc3

abbrev pub msc : ℕ
msc = 0xe3

abbrev pub nsc : ℕ
nsc = 0x13

-- a command has C/R 1 in its type octet, and its response 0
abbrev pub is_command : Message → Bool
is_command m = (m.octet / 2) % 2 == 1

-- the type octet of the command that a response answers
abbrev pub command_of : ℕ → ℕ
command_of octet = octet + 2

-- the type octet of the response to a command
abbrev pub response_of : ℕ → ℕ
response_of octet = octet - 2

-- the connection that an MSC names; 0 where it has no value
abbrev pub msc_dlci : List ℕ → ℕ
msc_dlci [] = 0
msc_dlci (d ∷ rest) = d / 4

-- the FC bit of an MSC says that no frames can be accepted
abbrev pub msc_stops : List ℕ → Bool
msc_stops [] = false
msc_stops (d ∷ []) = false
msc_stops (d ∷ signals ∷ rest) = (signals / 2) % 2 == 1

abbrev pub is_msc : ℕ → Bool
is_msc octet = (octet == msc) || (command_of octet == msc)

-- an MSC has two value octets at least, and a connection from 1 to 61
abbrev pub is_good_msc : List ℕ → Bool
is_good_msc value = nat_le 2 (length value) && (nat_lt 0 (msc_dlci value) && nat_le (msc_dlci value) 61)

abbrev pub if_good : Message → Option Message
if_good m = if is_msc m.octet && not (is_good_msc m.value) then None else Some m

-- type, length field and value; what follows is passed over
abbrev pub message_of : List ℕ → Option Message
message_of [] = None
message_of (t ∷ []) = None
message_of (t ∷ l ∷ rest) =
    if (t % 2 == 1) && ((l % 2 == 1) && nat_le (l / 2) (length rest))
    then if_good (record { octet = t; value = take (l / 2) rest })
    else None

-- the information that spells a message
abbrev pub spelled_message : ℕ → List ℕ → List ℕ
spelled_message octet value = octet ∷ (2 * length value + 1) ∷ value

-- the message that a frame brings
abbrev pub message_in : Frame → Option Message
message_in f = if is_on Uih 0 f then message_of f.info else None

abbrev pub octet_is : (ℕ → ℕ) → ℕ → Option Message → Bool
octet_is f octet None = false
octet_is f octet (Some m) = f m.octet == octet

-- the frame brings a command of this type; the frame brings its response
abbrev pub brings_command : ℕ → Frame → Bool
brings_command octet f = is_on Uih 0 f && octet_is (λ n. n) octet (message_of f.info)

abbrev pub brings_response : ℕ → Frame → Bool
brings_response octet f = is_on Uih 0 f && octet_is command_of octet (message_of f.info)
