-- Whether a connection may send, and whether it has a carrier, as told by the frames that pass an end of the line (27.010, 5.4).
use Rattle.std.specs.Prelude.{◌≡◌, ℕ, ◌/◌, ◌%◌, ◌==◌, ◌&&◌, ◌||◌, not, Bool, true, false, List, [], ◌∷◌, Option, Some, None, unwrap_or, if◌then◌else◌}
use Rattle.mux_station.specs.declared.role.Role.{Role}
use Rattle.mux_station.specs.Acts.{Act}
use Rattle.mux_station.specs.Messages.{Message, msc, msc_dlci}
use Rattle.mux_station.specs.Opening.{opens, ends, since, is_open, opens_now, belongs}
use Rattle.mux_station.specs.OpeningRule.{Standing, standing, standing_after, not_open}
use Rattle.mux_station.specs.Stopping.{last_said, got_says, msc_says, flow_says, is_stopped}

-- ## The carrier, as the modem says it (27.010, 5.4.6.3.7)

-- the DV bit of an MSC's signals, the eighth: a carrier is detected (circuit 109 of V.24)
abbrev pub msc_dv : List ℕ → Bool
msc_dv [] = false
msc_dv (d ∷ []) = false
msc_dv (d ∷ signals ∷ rest) = (signals / 128) % 2 == 1

-- an MSC command for d says whether d has a carrier
abbrev pub dv_says : ℕ → Message → Option Bool
dv_says d m = if (m.octet == msc) && (msc_dlci m.value == d) then Some (msc_dv m.value) else None

-- d is open, and the last one that came since it opened said that it has
abbrev pub has_carrier : Role → ℕ → List Act → Bool
has_carrier role d past = is_open role d past && last_said (got_says (dv_says d)) (since role d past)

-- d has a carrier, and the act says that it has none
abbrev pub loses_carrier : Role → ℕ → List Act → Act → Bool
loses_carrier role d past a = has_carrier role d past && not (unwrap_or (got_says (dv_says d) a) true)

-- ## What is kept of it

-- which end of the line it is, how 0 and the connection stand, whether the last message stopped it, or all, and whether it said that there is a carrier
pub record Watch : Type 0 where
  pub role : Role
  pub dlci : ℕ
  pub zero : Standing
  pub own : Standing
  pub own_stop : Bool
  pub all_stop : Bool
  pub carrier : Bool

-- nothing has passed yet
abbrev pub new_watch : Role → ℕ → Watch
new_watch role d = record { role = role; dlci = d; zero = not_open; own = not_open; own_stop = false; all_stop = false; carrier = false }

-- what was said last, after an act: nothing where the act opens; what the act says, where it belongs to the time of being open
abbrev pub said_last : (opening belonging : Bool) → Option Bool → Bool → Bool
said_last true belonging say was = false
said_last false true say was = unwrap_or say was
said_last false false say was = was

-- after an act
abbrev pub watched : Watch → Act → Watch
watched w a = record {
  role = w.role;
  dlci = w.dlci;
  zero = standing_after w.role w.zero.is_open 0 w.zero a;
  own = standing_after w.role w.zero.is_open w.dlci w.own a;
  own_stop = said_last (opens w.role w.zero.is_open w.own.is_asked w.dlci a)
      (w.own.is_open && not (ends w.zero.is_open w.dlci a)) (got_says (msc_says w.dlci) a) w.own_stop;
  all_stop = said_last (opens w.role w.zero.is_open w.zero.is_asked 0 a)
      (w.zero.is_open && not (ends w.zero.is_open 0 a)) (got_says flow_says a) w.all_stop;
  carrier = said_last (opens w.role w.zero.is_open w.own.is_asked w.dlci a)
      (w.own.is_open && not (ends w.zero.is_open w.dlci a)) (got_says (dv_says w.dlci) a) w.carrier;
}

-- the watch has seen this past
pub record HasWatched (w : Watch) (past : List Act) : Type 0 where
  pub zero_is : w.zero ≡ standing w.role 0 past
  pub own_is : w.own ≡ standing w.role w.dlci past
  pub own_stop_is : w.own_stop ≡ last_said (got_says (msc_says w.dlci)) (since w.role w.dlci past)
  pub all_stop_is : w.all_stop ≡ last_said (got_says flow_says) (since w.role 0 past)
  pub carrier_is : w.carrier ≡ last_said (got_says (dv_says w.dlci)) (since w.role w.dlci past)

-- an act is seen, whatever passed before
unfoldable pub Watches : Watch → Watch → Act → Type 0
Watches old new a = (past : List Act) → HasWatched old past → HasWatched new (a ∷ past)

-- data may leave the connection: it isn't 0, is open and isn't stopped
abbrev pub may_leave : Role → ℕ → List Act → Bool
may_leave role d past = not (d == 0) && (is_open role d past && not (is_stopped role d past))

unfoldable pub SaysMayLeave : Watch → Bool → Type 0
SaysMayLeave w b = (past : List Act) → HasWatched w past → b ≡ may_leave w.role w.dlci past

-- the act ends an opening of d: d was open, and is shut then, or opened anew
abbrev pub ends_now : Role → ℕ → List Act → Act → Bool
ends_now role d past a = is_open role d past && (opens_now role d past a || not (belongs role d past a))

-- the same, by what the watch keeps
abbrev pub watch_opens : Watch → Act → Bool
watch_opens w a = opens w.role w.zero.is_open w.own.is_asked w.dlci a

abbrev pub watch_ends : Watch → Act → Bool
watch_ends w a = w.own.is_open && (watch_opens w a || not (w.own.is_open && not (ends w.zero.is_open w.dlci a)))

abbrev pub watch_loses : Watch → Act → Bool
watch_loses w a = (w.own.is_open && w.carrier) && not (unwrap_or (got_says (dv_says w.dlci) a) true)
