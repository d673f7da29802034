-- Turns that would be right, but not by this exchange with their line and their desk.
use Rattle.std.specs.Prelude.{List, [], ◌∷◌, ◌++◌, Some, None, drop}
use Rattle.modem_desk.specs.declared.request.Answer.TheVariants.{Opened}
use Rattle.modem_desk.specs.declared.request.Outcome.{Outcome}
use Rattle.modem_history.specs.Acts.{after}
use Rattle.modem_history.specs.SessionRows.{TurnRow, beginning, sabm_zero, outcome_of, ring, last_flag}
use Rattle.modem_history.specs.Turns.{Exchange, IsTurn}
use Rattle.modem_history.specs.GoodTurns.{exchanged, offers, other_outcome, both_outcomes, outcome_back, outcomes_back, lines_back, creg, writes_on, takes_request, writes_nothing, waits_for_zero, waits_for_both, blocked_by_ring, blocked_by_the_first, idle_at_first}

-- a turn and its exchange
pub record ExchangeRow : Type 0 where
  pub turn : TurnRow
  pub exchange : Exchange

abbrev pub by_exchange : TurnRow → Exchange → ExchangeRow
by_exchange row t = record { turn = row; exchange = t }

abbrev pub IsWrongExchange : ExchangeRow → Type 0
IsWrongExchange row =
    ¬ IsTurn beginning row.turn.old row.turn.new row.exchange (after [] row.turn.before) row.turn.acts
    row.turn.says

-- ## In each of them

-- the desk wasn't asked for a request
abbrev pub unasked : Exchange → Exchange
unasked t = record t { next = None }

-- the line was read with no room for an octet
abbrev pub without_room : Exchange → Exchange
without_room t = record t { read = Some (record { room = 0; octets = [] }) }

-- ## Moved

-- four octets were sent, and the line took three
abbrev pub moved_by_fewer : ExchangeRow
moved_by_fewer = by_exchange writes_on (exchanged (offers (drop 2 sabm_zero) 3) None)

-- a request was taken that the desk didn't give
abbrev pub moved_unasked : ExchangeRow
moved_unasked = by_exchange takes_request (unasked (exchanged None None))

-- ## Idle

abbrev pub idle_unasked : ExchangeRow
idle_unasked = by_exchange idle_at_first (unasked (exchanged None None))

abbrev pub idle_without_room : ExchangeRow
idle_without_room = by_exchange idle_at_first (without_room (exchanged None None))

-- the one call on the line was a write
abbrev pub idle_unread : ExchangeRow
idle_unread = by_exchange idle_at_first (record (exchanged (offers last_flag 0) None) { read = None })

-- ## WriterFull

abbrev pub full_unasked : ExchangeRow
full_unasked = by_exchange writes_nothing (unasked (exchanged (offers (drop 2 sabm_zero) 0) None))

abbrev pub full_without_room : ExchangeRow
full_without_room = by_exchange writes_nothing (without_room (exchanged (offers (drop 2 sabm_zero) 0) None))

-- the first octet that waits was left out
abbrev pub full_of_later : ExchangeRow
full_of_later = by_exchange writes_nothing (exchanged (offers (drop 3 sabm_zero) 0) None)

-- more was offered than waits
abbrev pub full_of_more : ExchangeRow
full_of_more = by_exchange writes_nothing (exchanged (offers (drop 2 sabm_zero ++ last_flag) 0) None)

-- no octets were offered
abbrev pub full_of_none : ExchangeRow
full_of_none = by_exchange writes_nothing (exchanged (offers [] 0) None)

-- ## Waiting

abbrev pub opened : Outcome
opened = outcome_of 1 Opened

abbrev pub waiting_unasked : ExchangeRow
waiting_unasked = by_exchange waits_for_zero (unasked (outcome_back opened))

abbrev pub waiting_without_room : ExchangeRow
waiting_without_room = by_exchange waits_for_zero (without_room (outcome_back opened))

-- the outcome wasn't handed back: its ring wasn't tried
abbrev pub waiting_unoffered : ExchangeRow
waiting_unoffered = by_exchange waits_for_zero (record (outcome_back opened) { told_back = [] })

-- another caller's was
abbrev pub waiting_for_its_like : ExchangeRow
waiting_for_its_like =
    by_exchange waits_for_zero (record (outcome_back opened) { told_back = other_outcome ∷ [] })

-- it was offered again behind itself
abbrev pub waiting_offered_on : ExchangeRow
waiting_offered_on =
    by_exchange waits_for_zero (record (outcome_back opened) { told_back = opened ∷ opened ∷ [] })

-- the first caller's ring is full, and that of the second wasn't tried
abbrev pub waiting_with_untried : ExchangeRow
waiting_with_untried =
    by_exchange waits_for_both (record (outcomes_back both_outcomes) { told_back = opened ∷ [] })

-- ## Blocked

abbrev pub blocked_unasked : ExchangeRow
blocked_unasked = by_exchange blocked_by_ring (unasked (lines_back (ring ∷ [])))

abbrev pub blocked_without_room : ExchangeRow
blocked_without_room = by_exchange blocked_by_ring (without_room (lines_back (ring ∷ [])))

-- the line wasn't handed back: its ring wasn't tried
abbrev pub blocked_unoffered : ExchangeRow
blocked_unoffered = by_exchange blocked_by_ring (record (lines_back (ring ∷ [])) { heard_back = [] })

-- it was offered again behind itself
abbrev pub blocked_offered_on : ExchangeRow
blocked_offered_on =
    by_exchange blocked_by_ring (record (lines_back (ring ∷ [])) { heard_back = ring ∷ ring ∷ [] })

-- the ring of +CREG: is full, and that of RING wasn't tried
abbrev pub blocked_with_untried : ExchangeRow
blocked_with_untried =
    by_exchange blocked_by_the_first (record (lines_back (creg ∷ ring ∷ [])) { heard_back = creg ∷ [] })

-- the ring of RING is full, and that of +CREG: wasn't tried
abbrev pub blocked_by_another_ring : ExchangeRow
blocked_by_another_ring =
    by_exchange blocked_by_the_first (record (lines_back (creg ∷ ring ∷ [])) { heard_back = ring ∷ [] })

abbrev pub wrong_exchanges : List ExchangeRow
wrong_exchanges =
    moved_by_fewer ∷ moved_unasked ∷ idle_unasked ∷ idle_without_room ∷ idle_unread ∷ full_unasked ∷
    full_without_room ∷ full_of_later ∷ full_of_more ∷ full_of_none ∷ waiting_unasked ∷ waiting_without_room ∷
    waiting_unoffered ∷ waiting_for_its_like ∷ waiting_offered_on ∷ waiting_with_untried ∷ blocked_unasked ∷
    blocked_without_room ∷ blocked_unoffered ∷ blocked_offered_on ∷ blocked_with_untried ∷
    blocked_by_another_ring ∷ []
