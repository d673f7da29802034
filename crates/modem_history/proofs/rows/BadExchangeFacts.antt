-- The rows of wrong exchange, computed.
use Rattle.std.proofs.Common.{ap, arith, lit<, inl, inr}
use Rattle.std.specs.Prelude.{◌≡◌, ◌⊎◌, ℕ, ◌<◌, ◌≤◌, List, [], ◌∷◌, drop, take, refl, Option, Some, None}
use Rattle.at_text.specs.declared.unsolicited.UrcKind.TheVariants.{Ring, Creg}
use Rattle.modem_desk.specs.declared.request.Request.{Request}
use Rattle.modem_history.specs.SessionRows.{Each}
use Rattle.modem_history.specs.Turns.{Read, ReadsNothing, Exchange}
use Rattle.modem_history.specs.BadExchanges.{IsWrongExchange, wrong_exchanges, moved_by_fewer, moved_unasked, idle_unasked, idle_without_room, idle_unread, full_unasked, full_without_room, full_of_later, full_of_more, full_of_none, waiting_unasked, waiting_without_room, waiting_unoffered, waiting_for_its_like, waiting_offered_on, waiting_with_untried, blocked_unasked, blocked_without_room, blocked_unoffered, blocked_offered_on, blocked_with_untried, blocked_by_another_ring}
use Rattle.modem_history.proofs.rows.SessionTests.{octets_differ}

not_empty : {A : Type 0} {x : A} {xs : List A} → x ∷ xs ≡ [] → ⊥
not_empty e = cc

empty_not : {A : Type 0} {x : A} {xs : List A} → [] ≡ x ∷ xs → ⊥
empty_not e = cc

-- the desk has to be asked where fewer than 128 are in hand
wants_a_question : (next : Option (Option Request)) (n : ℕ) → next ≡ None → n < 128 → (next ≡ Some None) ⊎ (n ≡ 128) → ⊥
wants_a_question next n none few (inl e) = cc
wants_a_question next n none few (inr e) = omega (arith, e, few)

abbrev room_of : Option Read → ℕ
room_of None = 0
room_of (Some r) = r.room

-- the line has to be read, and with room
wants_room : (t : Exchange) → room_of t.read ≡ 0 → ReadsNothing t → ⊥
wants_room t none reads =
    let same : room_of t.read ≡ reads.room = ap room_of reads.nothing in
    let some : 1 ≤ reads.room = reads.some in
    omega (arith, none, same, some)

-- ## Moved

moved_by_fewer_wrong : IsWrongExchange moved_by_fewer
moved_by_fewer_wrong turn = octets_differ _ _ refl turn.exchanges.went

moved_unasked_wrong : IsWrongExchange moved_unasked
moved_unasked_wrong turn = not_empty turn.exchanges.taken

-- ## Idle

idle_unasked_wrong : IsWrongExchange idle_unasked
idle_unasked_wrong turn = wants_a_question None 0 refl (lit< tt) turn.means.rest.no_request

idle_without_room_wrong : IsWrongExchange idle_without_room
idle_without_room_wrong turn = wants_room idle_without_room.exchange refl turn.means.rest.nothing_came

idle_unread_wrong : IsWrongExchange idle_unread
idle_unread_wrong turn = wants_room idle_unread.exchange refl turn.means.rest.nothing_came

-- ## WriterFull

full_unasked_wrong : IsWrongExchange full_unasked
full_unasked_wrong turn = wants_a_question None 1 refl (lit< tt) turn.means.no_request

full_without_room_wrong : IsWrongExchange full_without_room
full_without_room_wrong turn = wants_room full_without_room.exchange refl (turn.means.reads refl)

full_of_later_wrong : IsWrongExchange full_of_later
full_of_later_wrong turn = octets_differ (0x01 ∷ []) (0x3F ∷ []) refl (ap (take 1) turn.offers.first.joins)

full_of_more_wrong : IsWrongExchange full_of_more
full_of_more_wrong turn = not_empty (ap (drop 4) turn.offers.first.joins)

full_of_none_wrong : IsWrongExchange full_of_none
full_of_none_wrong turn = let some : 1 ≤ 0 = turn.offers.some in omega (arith, some)

-- ## Waiting

waiting_unasked_wrong : IsWrongExchange waiting_unasked
waiting_unasked_wrong turn = wants_a_question None 1 refl (lit< tt) turn.means.rest.no_request

waiting_without_room_wrong : IsWrongExchange waiting_without_room
waiting_without_room_wrong turn = wants_room waiting_without_room.exchange refl turn.means.rest.nothing_came

waiting_unoffered_wrong : IsWrongExchange waiting_unoffered
waiting_unoffered_wrong turn = empty_not (turn.exchanges.hands_back.outcomes 0)

waiting_for_its_like_wrong : IsWrongExchange waiting_for_its_like
waiting_for_its_like_wrong turn = empty_not (turn.exchanges.hands_back.outcomes 0)

waiting_offered_on_wrong : IsWrongExchange waiting_offered_on
waiting_offered_on_wrong turn = not_empty (ap (drop 1) (turn.exchanges.hands_back.outcomes 0))

waiting_with_untried_wrong : IsWrongExchange waiting_with_untried
waiting_with_untried_wrong turn = empty_not (turn.exchanges.hands_back.outcomes 1)

-- ## Blocked

blocked_unasked_wrong : IsWrongExchange blocked_unasked
blocked_unasked_wrong turn = wants_a_question None 0 refl (lit< tt) turn.means.rest.no_request

blocked_without_room_wrong : IsWrongExchange blocked_without_room
blocked_without_room_wrong turn = wants_room blocked_without_room.exchange refl turn.means.rest.nothing_came

blocked_unoffered_wrong : IsWrongExchange blocked_unoffered
blocked_unoffered_wrong turn = empty_not (turn.exchanges.hands_back.lines Ring)

blocked_offered_on_wrong : IsWrongExchange blocked_offered_on
blocked_offered_on_wrong turn = not_empty (ap (drop 1) (turn.exchanges.hands_back.lines Ring))

blocked_with_untried_wrong : IsWrongExchange blocked_with_untried
blocked_with_untried_wrong turn = empty_not (turn.exchanges.hands_back.lines Ring)

blocked_by_another_ring_wrong : IsWrongExchange blocked_by_another_ring
blocked_by_another_ring_wrong turn = empty_not (turn.exchanges.hands_back.lines Creg)

-- none of the wrong exchanges is that of its turn
pub all_wrong_exchanges : Each IsWrongExchange wrong_exchanges
all_wrong_exchanges = (moved_by_fewer_wrong, (moved_unasked_wrong, (idle_unasked_wrong, (idle_without_room_wrong, (idle_unread_wrong, (full_unasked_wrong, (full_without_room_wrong, (full_of_later_wrong, (full_of_more_wrong, (full_of_none_wrong, (waiting_unasked_wrong, (waiting_without_room_wrong, (waiting_unoffered_wrong, (waiting_for_its_like_wrong, (waiting_offered_on_wrong, (waiting_with_untried_wrong, (blocked_unasked_wrong, (blocked_without_room_wrong, (blocked_unoffered_wrong, (blocked_offered_on_wrong, (blocked_with_untried_wrong, (blocked_by_another_ring_wrong, tt))))))))))))))))))))))
