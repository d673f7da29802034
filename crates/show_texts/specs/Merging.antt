-- The octets of both ways, of which it isn't known when they passed.
use Rattle.std.specs.Prelude.{◌≡◌, ℕ, ◌&&◌, ◌||◌, Bool, true, false, List, [], ◌∷◌, Option, IfSome, if◌then◌else◌}
use Rattle.std.specs.Io.KnownBytes.{Appends}
use Rattle.mux_frame.specs.Frames.{Frame}
use Rattle.mux_capture.specs.Passing.{Caught}
use Rattle.mux_capture.specs.declared.packet.Direction.{Direction}
use Rattle.mux_capture.specs.declared.packet.Direction.TheVariants.{ToModem, FromModem}
use Rattle.mux_capture.specs.declared.packet.Stamp.{Stamp}
use Rattle.modem_show.specs.Judging.{is_unasked}
use Rattle.modem_show.specs.Ways.{caught}
use Rattle.show_texts.specs.Captures.{ReadsFrames}
use Rattle.show_texts.specs.Telling.{Framed, Item, Setting, Teller, TellerFits, frames_of, has_complaint, is_unfinished_on, setting_of, shown_text, some_unanswered}

-- no time is known
abbrev pub untimed : Stamp
untimed = record { seconds = 0; micros = 0 }

abbrev pub untimed_item : Direction → Frame → Item
untimed_item d f = Framed (caught untimed d f)

-- A frame of the driver waits for the modem's next: it answers what isn't asked yet, or the driver asked and waits for its answer, or a
-- command is under way on the frame's connection.
abbrev pub waits : Setting → List Caught → Frame → Bool
waits s line f =
    is_unasked line (caught untimed ToModem f)
    || (some_unanswered ToModem line || is_unfinished_on s f.dlci line)

-- which of the frames of both ways comes next behind these items, and what is left of each: the driver's, unless it waits, or there is none
pub data Comes (s : Setting) (items : List Item) : (to from : List Frame) → Direction → Frame → (to_left from_left : List Frame) → Type 0 where
  driver_alone : (f : Frame) (to : List Frame) → Comes s items (f ∷ to) [] ToModem f to []
  modem_alone : (g : Frame) (from : List Frame) → Comes s items [] (g ∷ from) FromModem g [] from
  driver :
      (f g : Frame) (to from : List Frame) → waits s (frames_of items) f ≡ false
      → Comes s items (f ∷ to) (g ∷ from) ToModem f to (g ∷ from)
  modem :
      (f g : Frame) (to from : List Frame) → waits s (frames_of items) f ≡ true
      → Comes s items (f ∷ to) (g ∷ from) FromModem g (f ∷ to) from

-- the frames of both ways in one order, behind these items, the newest first
pub data Merges (s : Setting) : (items : List Item) (to from : List Frame) (all : List Item) → Type 0 where
  none : (items : List Item) → Merges s items [] [] items
  more :
      (items all : List Item) (to from to_left from_left : List Frame) (d : Direction) (f : Frame)
      → Comes s items to from d f to_left from_left → Merges s (untimed_item d f ∷ items) to_left from_left all
      → Merges s items to from all

-- the octets that a reader has, where these are known, are read as these frames
pub record HasFrames (input : Option (List ℕ)) (frames : List Frame) : Type 0 where
  pub octets : List ℕ
  pub are : IfSome input (λ all. all ≡ octets)
  pub read : ReadsFrames octets frames

-- this was printed of these frames, and it is known whether there is a complaint
pub record PrintsBoth (s : Setting) (wrong : Bool) (to from : List Frame) (before after : Option (List ℕ)) : Type 0 where
  pub items : List Item
  pub merged : Merges s [] to from items
  pub printed : Appends before after (shown_text s items)
  pub is_wrong : wrong ≡ has_complaint s items

-- this was printed of the octets of each way
pub record IsShownUntimed (s : Setting) (wrong : Bool) (to from before after : Option (List ℕ)) : Type 0 where
  pub to_frames : List Frame
  pub from_frames : List Frame
  pub to_read : HasFrames to to_frames
  pub from_read : HasFrames from from_frames
  pub prints : PrintsBoth s wrong to_frames from_frames before after

-- the status says whether there is a complaint, where that is asked
pub record HasShownUntimed (s : Setting) (strict : Bool) (to from before after : Option (List ℕ)) (status : ℕ) : Type 0 where
  pub wrong : Bool
  pub shown : IsShownUntimed s wrong to from before after
  pub status_is : status ≡ (if strict && wrong then 3 else 0)

-- ## Steps

-- the frames of both ways are told, where nothing was told before
pub record TellsBoth (old new : Teller) (to from : List Frame) : Type 0 where
  pub setting : setting_of new ≡ setting_of old
  pub items : List Item
  pub fits : TellerFits [] old [] → TellerFits [] new items
  pub merged : TellerFits [] old [] → Merges (setting_of old) [] to from items

-- so many of them are told, and the others are left
pub record BothSoFar (old new : Teller) (to from to_left from_left : List Frame) : Type 0 where
  pub setting : setting_of new ≡ setting_of old
  pub items : List Item
  pub fits : TellerFits [] old [] → TellerFits [] new items
  pub merged :
      TellerFits [] old [] → (all : List Item) → Merges (setting_of old) items to_left from_left all
      → Merges (setting_of old) [] to from all
