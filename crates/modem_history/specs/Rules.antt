-- How a history comes about (27.010, 5.4), in three rules.
use Rattle.std.specs.Prelude.{◌≡◌, ◌≤◌, nat_lt, Bool, true, false, List, [], ◌∷◌, length, Some}
use Rattle.mux_station.specs.GivenFrames.{Outgoing}
use Rattle.modem_history.specs.Limits.{most_in_hand}
use Rattle.modem_history.specs.Acts.{Act, Took, Got, Tick, Lost, Held, Freed, after, in_hand}
use Rattle.modem_history.specs.Calls.{Setting, calls}
use Rattle.modem_history.specs.Holding.{may_hold, is_held}
use Rattle.modem_history.specs.GoingOut.{next_out, act_out}

-- A call may begin with this act. A request is taken where fewer than 128 are in hand. A connection is held where it may
-- be, and freed where it is held. A frame, a tick or a loss may come at any time.
abbrev pub may_begin : Setting → List Act → Act → Bool
may_begin s past (Took r) = nat_lt (length (in_hand past)) most_in_hand
may_begin s past (Got f) = true
may_begin s past Tick = true
may_begin s past Lost = true
may_begin s past (Held d) = may_hold s.role d past
may_begin s past (Freed d) = is_held s.role d past
may_begin s past _ = false

-- A history. Nothing happened, where a frame takes an octet at least. Or a call came: an act that a call may begin with,
-- and then all that it calls for, in order. Or what goes out next went out.
pub data Made (s : Setting) : List Act → Type 0 where
  nothing : 1 ≤ s.n1 → Made s []
  call :
      (past : List Act) (a : Act) → Made s past → may_begin s past a ≡ true
      → Made s (after past (a ∷ calls s past a))
  goes_out : (past : List Act) (o : Outgoing) → Made s past → next_out s past ≡ Some o → Made s (act_out o ∷ past)
