-- The past of an end, as a line shows it.
use Rattle.std.specs.Prelude.{◌≡◌, ℕ, ◌<◌, ◌==◌, ◌&&◌, ◌||◌, not, Bool, true, false, List, [], ◌∷◌, ◌++◌, Option, None, Some, if◌then◌else◌, unwrap_or, slice_index_or}
use Rattle.mux_frame.specs.Frames.{Frame}
use Rattle.mux_capture.specs.Passing.{Caught}
use Rattle.mux_frame.specs.declared.frame.Kind.TheVariants.{Dm}
use Rattle.mux_station.specs.declared.role.Role.{Role}
use Rattle.mux_station.specs.Written.{is_kind}
use Rattle.mux_station.specs.Messages.{Message}
use Rattle.mux_station.specs.Acts as act
use Rattle.mux_station.specs.Acts.{Act}
use Rattle.mux_station.specs.Opening.{opens, ends, since}
use Rattle.mux_station.specs.OpeningRule.{Standing, standing, standing_after, not_open}
use Rattle.mux_station.specs.Stopping.{last_said, got_says, msc_says, flow_says}
use Rattle.modem_show.specs.declared.place.Place.{Place}
use Rattle.modem_show.specs.Ways.{other, is_from}
use Rattle.modem_show.specs.Asking.{Ask, is_ask, is_again, answered_by, waiting}

-- The frame that an end has read when it answers it. An answer to a SABM or DISC that was sent again is no sign that the end
-- has read that just now.
abbrev pub handled : Option Ask → List Act
handled None = []
handled (Some a) = if is_again a then [] else act.Got a.frame ∷ []

-- The acts of an end once a frame came to it: one that asks is read later. A DM opens nothing, and where nothing asked for it, no frame
-- shows when it was read.
abbrev pub come : Frame → List Act → List Act
come f past = if is_ask f || is_kind f.kind Dm then past else act.Got f ∷ past

-- The acts of an end, the newest first. A frame that comes to it passed before the end has read it: one that asks counts where it
-- is answered, any other but a DM where it passed.
abbrev pub own : Role → List Caught → List Act
own r [] = []
own r (c ∷ line) =
    if is_from r c then act.Sent c.frame ∷ (handled (answered_by c.frame (waiting (other r) line)) ++ own r line)
    else come c.frame (own r line)

-- ## What is kept of a connection

-- Whether it is open, whether its last SABM, UA, DM or DISC is a SABM that was sent, and what the last message about its stop said:
-- at 0 that of all connections, else its own.
abbrev pub place : Standing → Bool → Place
place s stopped = record { is_open = s.is_open; is_asked = s.is_asked; is_stopped = stopped }

abbrev pub standing_at : Place → Standing
standing_at p = record { is_open = p.is_open; is_asked = p.is_asked }

-- a connection of which nothing came
abbrev pub shut_place : Place
shut_place = place not_open false

-- what a message says of the stop that is kept at d
abbrev pub says_at : ℕ → Message → Option Bool
says_at d = if d == 0 then flow_says else msc_says d

abbrev pub place_of : Role → ℕ → List Act → Place
place_of r d past = place (standing r d past) (last_said (got_says (says_at d)) (since r d past))

-- the stop that is kept, where the act opens the connection, or belongs to its time of being open
abbrev pub stop_after : Bool → Bool → Option Bool → Bool → Bool
stop_after true belonging said before = false
stop_after false true said before = unwrap_or said before
stop_after false false said before = before

-- one step, where zero says whether 0 is open before it
abbrev pub place_after : Role → Bool → ℕ → Place → Act → Place
place_after r zero d p a =
    place
    (standing_after r zero d (standing_at p) a)
    (stop_after (opens r zero p.is_asked d a) (p.is_open && not (ends zero d a)) (got_says (says_at d) a) p.is_stopped)

-- an end, and what is kept of each connection
pub record End : Type 0 where
  pub role : Role
  pub places : List Place

abbrev pub place_at : End → ℕ → Place
place_at e d = slice_index_or e.places d shut_place

-- each place is kept on, where zero says whether 0 is open before the act
pub record PlacesAfter (r : Role) (zero : Bool) (a : Act) (old new : List Place) : Type 0 where
  pub each :
      (d : ℕ) → d < 62
      → slice_index_or new d shut_place ≡ place_after r zero d (slice_index_or old d shut_place) a

-- d is open, and it is stopped, by what is kept
abbrev pub is_open_at : End → ℕ → Bool
is_open_at e d = (place_at e d).is_open

abbrev pub stop_in : ℕ → Place → Place → Bool
stop_in d own all = not (d == 0) && ((own.is_open && own.is_stopped) || (all.is_open && all.is_stopped))

abbrev pub is_stopped_at : End → ℕ → Bool
is_stopped_at e d = stop_in d (place_at e d) (place_at e 0)

-- what is kept is what the past says
pub record EndFits (e : End) (past : List Act) : Type 0 where
  pub each : (d : ℕ) → d < 62 → place_at e d ≡ place_of e.role d past
