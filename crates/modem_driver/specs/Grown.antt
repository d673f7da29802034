-- One history of a session, and what was seen of the session while it grew.
use Rattle.std.specs.Prelude.{List, [], ◌∷◌}
use Rattle.modem_history.specs.Acts.{Act, after}
use Rattle.modem_history.specs.Sessions.{Beginning, SessionFits, SessionView}

-- The history of a session that was seen so, newest first. It was empty where the session was seen first. From each sight
-- to the next it went on by some acts. At each the session fits it.
pub data HasGrown (b : Beginning) : (seen : List SessionView) → (past : List Act) → Type 0 where
  seen_first : (v : SessionView) → SessionFits b v [] → HasGrown b (v ∷ []) []
  seen_later : (v : SessionView) (seen : List SessionView) (past acts : List Act) → HasGrown b seen past
      → SessionFits b v (after past acts) → HasGrown b (v ∷ seen) (after past acts)
