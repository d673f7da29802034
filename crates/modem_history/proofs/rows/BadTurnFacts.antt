-- The rows of wrong turns, computed.
use Rattle.std.proofs.Common.{append-nil, ap, sym, ◌∙◌, subst, arith, lit<, lit≤, inl, inr}
use Rattle.std.proofs.lemmas.List.{append_cancel_left, length-map}
use Rattle.std.proofs.lemmas.Bool.{and_parts, leb-true, eq-eqb}
use Rattle.std.specs.Prelude.{◌≡◌, ◌⊎◌, ℕ, zero, suc, ◌+◌, ◌-◌, ◌^◌, ◌<◌, ◌≤◌, ◌==◌, min, nat_le, true, false, List, [], ◌∷◌, ◌++◌, length, map, refl, Option, Some, None}
use Rattle.mux_frame.specs.CheckOctet.{check_octet_of}
use Rattle.mux_frame.specs.Spelling.{body_of}
use Rattle.mux_frame.specs.Judging.{verdict_on, by_header, by_end}
use Rattle.mux_frame.specs.Reading.{Reads}
use Rattle.mux_frame.specs.declared.frame.Kind.TheVariants.{Ua}
use Rattle.mux_station.specs.declared.role.Role.TheVariants.{Responder}
use Rattle.mux_station.specs.Written.{written}
use Rattle.mux_frame.proofs.readings.TextReadings.{one_reading}
use Rattle.modem_desk.specs.declared.request.Answer.TheVariants.{Opened}
use Rattle.modem_desk.specs.declared.request.Request.{Request}
use Rattle.modem_desk.specs.declared.request.Outcome.{Outcome}
use Rattle.modem_desk.specs.declared.request.Urc.{Urc}
use Rattle.modem_history.specs.Acts.{Act, after}
use Rattle.modem_history.specs.Sessions.{driving, gots, heard_as, backlog_in}
use Rattle.modem_history.specs.SessionRows.{TurnRow, IsWrongTurn, Each, beginning, entry_answer, zero_came, one_came, ring_one, test_command_info, outcome_of, ring}
use Rattle.modem_history.specs.Turns.{counted, calls_made, octets_read, octets_written, request_given, AllAreGot, IsOffer, Offers, Read, Write}
use Rattle.modem_history.specs.BadTurns.{test_frame, idle_with_frame, idle_with_unfed, idle_half_unfed, idle_with_unsent, idle_with_queued, idle_with_outcome, idle_with_line, idle_with_command, idle_after_read, idle_without_read, idle_though_told, idle_though_sent, idle_though_announced, idle_with_lost_frame, idle_with_dropped_request, idle_and_still_held, idle_and_failed, moved_by_nothing, moved_by_a_mark, unfed_grows, full_unoffered, full_but_taken, full_of_nothing, full_without_read, full_with_frame, full_with_unfed, full_with_test, full_though_told, full_though_read, full_though_taken, full_with_dropped_request, full_and_not_held, full_and_still_held, full_and_failed}
use Rattle.modem_history.specs.BadWaits.{wrong_turns, waiting_but_told, waiting_for_another, waiting_for_the_greater, waiting_with_unsent, waiting_with_frame, waiting_without_read, waiting_for_none, waiting_untried, waiting_half_unfed, waiting_with_lost_frame, waiting_with_queued, waiting_with_command, waiting_and_not_held, waiting_and_still_held, waiting_and_failed, blocked_by_none, blocked_by_a_later, blocked_with_command, blocked_and_not_held, blocked_and_still_held, blocked_by_another, blocked_though_announced, blocked_untried, blocked_with_unsent, blocked_with_outcome, blocked_with_frame, blocked_half_unfed, blocked_without_read, blocked_with_queued, blocked_and_failed, tick_in_a_turn, loss_in_a_turn, failed_and_moved, three_calls, read_twice, read_while_unfed, two_frames, two_requests, told_at_once, held_too_early, moved_by_dropped_request}
use Rattle.at_text.specs.Kinds.{kind_place}
use Rattle.modem_history.proofs.rows.HistoryTests.{unquiet}
use Rattle.modem_history.proofs.rows.TurnTests.{no_more}
use Rattle.modem_history.proofs.rows.SessionTests.{all_small, frames_read, rest_of, read_in, octets_differ}

never : false ≡ true → ⊥
never e = cc

never_back : true ≡ false → ⊥
never_back e = cc

not_empty : {A : Type 0} {x : A} {xs : List A} → x ∷ xs ≡ [] → ⊥
not_empty e = cc

empty_not : {A : Type 0} {x : A} {xs : List A} → [] ≡ x ∷ xs → ⊥
empty_not e = cc

-- numbers differ
numbers_differ : (n m : ℕ) → (n == m) ≡ false → n ≡ m → ⊥
numbers_differ n m h e = never_back (sym (eq-eqb n m e) ∙ h)

-- ## Idle

-- the octets received aren't read as what was got
unread : (row : TurnRow) (octets : List ℕ) → row.new.line.received ≡ entry_answer ++ octets → all_small octets ≡ true
    → (length (frames_read octets) == length (gots (after (after [] row.before) row.acts))) ≡ false → AllAreGot beginning row.new (after (after [] row.before) row.acts) → ⊥
unread row octets e small h g =
    let same : octets ≡ g.octets = append_cancel_left entry_answer octets g.octets (sym e ∙ g.since) in
    let reads = subst (λ x. Reads 31 x (gots (after (after [] row.before) row.acts)) g.rest) (sym same) g.reads in
    let one = one_reading 31 octets (frames_read octets) (gots (after (after [] row.before) row.acts)) (rest_of octets) g.rest (read_in octets small) reads in
    numbers_differ (length (frames_read octets)) (length (gots (after (after [] row.before) row.acts))) h (ap length one.0)

idle_with_frame_wrong : IsWrongTurn idle_with_frame
unfolding check_octet_of verdict_on by_header by_end
idle_with_frame_wrong t turn = unread idle_with_frame zero_came refl refl refl turn.means.rest.all_got

idle_with_unfed_wrong : IsWrongTurn idle_with_unfed
unfolding check_octet_of verdict_on by_header by_end
idle_with_unfed_wrong t turn = unread idle_with_unfed zero_came refl refl refl turn.means.rest.all_got

idle_half_unfed_wrong : IsWrongTurn idle_half_unfed
idle_half_unfed_wrong t turn = not_empty turn.means.rest.fed

idle_with_unsent_wrong : IsWrongTurn idle_with_unsent
unfolding check_octet_of body_of
idle_with_unsent_wrong t turn = octets_differ _ _ refl turn.means.rest.sent

idle_with_queued_wrong : IsWrongTurn idle_with_queued
unfolding check_octet_of body_of
idle_with_queued_wrong t turn = octets_differ _ _ refl turn.means.rest.sent

some_none : {A : Type 0} {a : A} → Some a ≡ None → ⊥
some_none e = cc

idle_with_outcome_wrong : IsWrongTurn idle_with_outcome
idle_with_outcome_wrong t turn = not_empty turn.means.placed

idle_with_line_wrong : IsWrongTurn idle_with_line
idle_with_line_wrong t turn = not_empty turn.means.announced

idle_with_command_wrong : IsWrongTurn idle_with_command
idle_with_command_wrong t turn = unquiet (driving beginning) (after [] idle_with_command.before) 1 (lit< tt) refl turn.means.rest.quiet

idle_after_read_wrong : IsWrongTurn idle_after_read
idle_after_read_wrong t turn = never_back turn.moved

-- a call was made, and isn't counted
uncounted : (w r n : ℕ) → n ≡ w + r → 1 ≤ n → 40 ≡ counted 40 n → ⊥
uncounted w r zero e some h = omega arith
uncounted w r (suc k) e some h = let x : 40 ≡ min (40 + suc k) (2 ^ 64 - 1) = h in omega arith

idle_without_read_wrong : IsWrongTurn idle_without_read
idle_without_read_wrong t turn =
    let made : calls_made t.read ≡ 1 = ap calls_made turn.means.rest.nothing_came.nothing in
    uncounted (calls_made t.write) (calls_made t.read) (calls_made t.write + calls_made t.read) refl (omega arith) turn.exchanges.calls

idle_though_told_wrong : IsWrongTurn idle_though_told
idle_though_told_wrong t turn = never_back turn.moved

idle_though_sent_wrong : IsWrongTurn idle_though_sent
idle_though_sent_wrong t turn = never_back turn.moved

idle_though_announced_wrong : IsWrongTurn idle_though_announced
idle_though_announced_wrong t turn = never_back turn.moved

idle_with_lost_frame_wrong : IsWrongTurn idle_with_lost_frame
unfolding check_octet_of verdict_on by_header by_end
idle_with_lost_frame_wrong t turn = unread idle_with_lost_frame zero_came refl refl refl turn.means.rest.all_got

-- a request was given, and fewer than 128 are in hand
given_and_few : (next : Option (Option Request)) (before later : List Request) → length before < length later → later ≡ before ++ request_given next → (n : ℕ) → n < 128 → (next ≡ Some None) ⊎ (n ≡ 128) → ⊥
given_and_few next before later more e n few (inl none) =
    let same : later ≡ before = e ∙ (ap (λ (o : Option (Option Request)). before ++ request_given o) none ∙ append-nil before) in
    let size = ap length same in
    omega (arith, more, size)
given_and_few next before later more e n few (inr full) = omega (arith, full, few)

idle_with_dropped_request_wrong : IsWrongTurn idle_with_dropped_request
idle_with_dropped_request_wrong t turn = given_and_few t.next idle_with_dropped_request.old.desk.taken idle_with_dropped_request.new.desk.taken (lit< tt) turn.exchanges.taken 0 (lit< tt) turn.means.rest.no_request

idle_and_still_held_wrong : IsWrongTurn idle_and_still_held
idle_and_still_held_wrong t turn = never_back (turn.means.rest.held.few 1 (lit< tt) (lit< tt))

idle_and_failed_wrong : IsWrongTurn idle_and_failed
idle_and_failed_wrong t turn = numbers_differ 1 0 refl turn.sound

-- ## Moved

moved_by_nothing_wrong : IsWrongTurn moved_by_nothing
moved_by_nothing_wrong t turn = never turn.moved

moved_by_a_mark_wrong : IsWrongTurn moved_by_a_mark
moved_by_a_mark_wrong t turn = never turn.moved

nothing_read : (read : Option Read) (before : List ℕ) → before ≡ before ++ octets_read read → octets_read read ≡ []
nothing_read read before e = sym (append_cancel_left before [] (octets_read read) (append-nil before ∙ e))

unfed_grows_wrong : IsWrongTurn unfed_grows
unfed_grows_wrong t turn =
    let none = nothing_read t.read unfed_grows.old.line.received turn.exchanges.came in
    let few : 6 ≤ 0 + length (octets_read t.read) = turn.exchanges.unfed in
    let zero_read : length (octets_read t.read) ≡ 0 = ap length none in
    let x : ⊥ = omega arith in
    x

-- ## WriterFull

full_unoffered_wrong : IsWrongTurn full_unoffered
full_unoffered_wrong t turn =
    let made : calls_made t.write ≡ 1 = ap calls_made turn.means.took_none in
    uncounted (calls_made t.write) (calls_made t.read) (calls_made t.write + calls_made t.read) refl (omega arith) turn.exchanges.calls

full_but_taken_wrong : IsWrongTurn full_but_taken
full_but_taken_wrong t turn = never_back turn.moved

full_of_nothing_wrong : IsWrongTurn full_of_nothing
full_of_nothing_wrong t turn = turn.means.waits refl

full_without_read_wrong : IsWrongTurn full_without_read
full_without_read_wrong t turn =
    let wrote : calls_made t.write ≡ 1 = ap calls_made turn.means.took_none in
    let read : calls_made t.read ≡ 1 = ap calls_made (turn.means.reads refl).nothing in
    two_calls (calls_made t.write) (calls_made t.read) wrote read turn.exchanges.calls
  where
    two_calls : (w r : ℕ) → w ≡ 1 → r ≡ 1 → 41 ≡ counted 40 (w + r) → ⊥
    two_calls w r x y e =
        let both : 41 ≡ counted 40 2 = e ∙ (ap (λ (n : ℕ). counted 40 (n + r)) x ∙ ap (λ (n : ℕ). counted 40 (1 + n)) y) in
        omega arith

full_with_frame_wrong : IsWrongTurn full_with_frame
full_with_frame_wrong t turn = never_back (turn.means.no_room (written Responder Ua 0 []) refl)

full_with_unfed_wrong : IsWrongTurn full_with_unfed
full_with_unfed_wrong t turn = not_empty (turn.means.fed refl)

full_with_test_wrong : IsWrongTurn full_with_test
full_with_test_wrong t turn = never_back (turn.means.no_room test_frame refl)

full_though_told_wrong : IsWrongTurn full_though_told
full_though_told_wrong t turn = never_back turn.moved

full_though_read_wrong : IsWrongTurn full_though_read
full_though_read_wrong t turn = never_back turn.moved

full_though_taken_wrong : IsWrongTurn full_though_taken
full_though_taken_wrong t turn = never_back turn.moved

full_with_dropped_request_wrong : IsWrongTurn full_with_dropped_request
full_with_dropped_request_wrong t turn = given_and_few t.next full_with_dropped_request.old.desk.taken full_with_dropped_request.new.desk.taken (lit< tt) turn.exchanges.taken 0 (lit< tt) turn.means.no_request

-- an MSC has a place where nothing waits in the control queue
held_or_full : {P : Type 0} → P ⊎ ((d : ℕ) → 4127 < 10) → P
held_or_full (inl h) = h
held_or_full (inr h) = let x : 4127 < 10 = h 1 in let y : ⊥ = omega arith in absurd y

full_and_not_held_wrong : IsWrongTurn full_and_not_held
full_and_not_held_wrong t turn = never ((held_or_full turn.means.held).many 1 (lit< tt) refl refl (lit≤ tt))

full_and_still_held_wrong : IsWrongTurn full_and_still_held
full_and_still_held_wrong t turn = never_back ((held_or_full turn.means.held).few 1 (lit< tt) (lit< tt))

full_and_failed_wrong : IsWrongTurn full_and_failed
full_and_failed_wrong t turn = numbers_differ 1 0 refl turn.sound

-- ## Waiting

waiting_but_told_wrong : IsWrongTurn waiting_but_told
waiting_but_told_wrong t turn = never_back turn.moved

waiting_for_another_wrong : IsWrongTurn waiting_for_another
waiting_for_another_wrong t turn = empty_not turn.means.waits

waiting_for_the_greater_wrong : IsWrongTurn waiting_for_the_greater
waiting_for_the_greater_wrong t turn = never turn.means.least

waiting_with_unsent_wrong : IsWrongTurn waiting_with_unsent
waiting_with_unsent_wrong t turn = not_empty turn.means.written

waiting_with_frame_wrong : IsWrongTurn waiting_with_frame
unfolding check_octet_of verdict_on by_header by_end
waiting_with_frame_wrong t turn = unread waiting_with_frame zero_came refl refl refl turn.means.rest.all_got

waiting_without_read_wrong : IsWrongTurn waiting_without_read
waiting_without_read_wrong t turn =
    let made : calls_made t.read ≡ 1 = ap calls_made turn.means.rest.nothing_came.nothing in
    uncounted (calls_made t.write) (calls_made t.read) (calls_made t.write + calls_made t.read) refl (omega arith) turn.exchanges.calls

waiting_for_none_wrong : IsWrongTurn waiting_for_none
waiting_for_none_wrong t turn = empty_not turn.means.waits

waiting_untried_wrong : IsWrongTurn waiting_untried
waiting_untried_wrong t turn = never_back turn.moved

waiting_half_unfed_wrong : IsWrongTurn waiting_half_unfed
waiting_half_unfed_wrong t turn = not_empty turn.means.rest.fed

waiting_with_lost_frame_wrong : IsWrongTurn waiting_with_lost_frame
unfolding check_octet_of verdict_on by_header by_end
waiting_with_lost_frame_wrong t turn = unread waiting_with_lost_frame (zero_came ++ test_command_info) refl refl refl turn.means.rest.all_got

waiting_with_queued_wrong : IsWrongTurn waiting_with_queued
unfolding check_octet_of body_of
waiting_with_queued_wrong t turn = octets_differ _ _ refl turn.means.rest.sent

waiting_with_command_wrong : IsWrongTurn waiting_with_command
waiting_with_command_wrong t turn = unquiet (driving beginning) (after [] waiting_with_command.before) 1 (lit< tt) refl turn.means.rest.quiet

waiting_and_not_held_wrong : IsWrongTurn waiting_and_not_held
waiting_and_not_held_wrong t turn = never (turn.means.rest.held.many 1 (lit< tt) refl refl (lit≤ tt))

waiting_and_still_held_wrong : IsWrongTurn waiting_and_still_held
waiting_and_still_held_wrong t turn = never_back (turn.means.rest.held.few 1 (lit< tt) (lit< tt))

waiting_and_failed_wrong : IsWrongTurn waiting_and_failed
waiting_and_failed_wrong t turn = numbers_differ 1 0 refl turn.sound

-- ## Blocked

blocked_by_none_wrong : IsWrongTurn blocked_by_none
blocked_by_none_wrong t turn = empty_not turn.means.waits

blocked_by_a_later_wrong : IsWrongTurn blocked_by_a_later
blocked_by_a_later_wrong t turn =
    octets_differ (2 ∷ []) (0 ∷ []) refl (ap (map (λ (u : Urc). kind_place u.kind)) turn.means.waits ∙ ap (λ k. kind_place k ∷ []) turn.means.is_of)

blocked_with_command_wrong : IsWrongTurn blocked_with_command
blocked_with_command_wrong t turn = unquiet (driving beginning) (after [] blocked_with_command.before) 1 (lit< tt) refl turn.means.rest.quiet

blocked_and_not_held_wrong : IsWrongTurn blocked_and_not_held
blocked_and_not_held_wrong t turn = never (turn.means.rest.held.many 1 (lit< tt) refl refl (lit≤ tt))

blocked_and_still_held_wrong : IsWrongTurn blocked_and_still_held
blocked_and_still_held_wrong t turn = never_back (turn.means.rest.held.few 1 (lit< tt) (lit< tt))

blocked_by_another_wrong : IsWrongTurn blocked_by_another
blocked_by_another_wrong t turn = octets_differ (0 ∷ []) (2 ∷ []) refl (ap (map (λ (u : Urc). kind_place u.kind)) turn.means.waits ∙ ap (λ k. kind_place k ∷ []) turn.means.is_of)

blocked_though_announced_wrong : IsWrongTurn blocked_though_announced
blocked_though_announced_wrong t turn = never_back turn.moved

blocked_untried_wrong : IsWrongTurn blocked_untried
blocked_untried_wrong t turn = never_back turn.moved

blocked_with_unsent_wrong : IsWrongTurn blocked_with_unsent
blocked_with_unsent_wrong t turn = not_empty turn.means.written

blocked_with_outcome_wrong : IsWrongTurn blocked_with_outcome
blocked_with_outcome_wrong t turn = not_empty turn.means.placed

blocked_with_frame_wrong : IsWrongTurn blocked_with_frame
unfolding check_octet_of verdict_on by_header by_end
blocked_with_frame_wrong t turn = unread blocked_with_frame (one_came ++ ring_one ++ ring_one) refl refl refl turn.means.rest.all_got

blocked_half_unfed_wrong : IsWrongTurn blocked_half_unfed
blocked_half_unfed_wrong t turn = not_empty turn.means.rest.fed

blocked_without_read_wrong : IsWrongTurn blocked_without_read
blocked_without_read_wrong t turn =
    let made : calls_made t.read ≡ 1 = ap calls_made turn.means.rest.nothing_came.nothing in
    uncounted (calls_made t.write) (calls_made t.read) (calls_made t.write + calls_made t.read) refl (omega arith) turn.exchanges.calls

blocked_with_queued_wrong : IsWrongTurn blocked_with_queued
unfolding check_octet_of body_of
blocked_with_queued_wrong t turn = octets_differ _ _ refl turn.means.rest.sent

blocked_and_failed_wrong : IsWrongTurn blocked_and_failed
blocked_and_failed_wrong t turn = numbers_differ 1 0 refl turn.sound

-- ## Acts of a turn

tick_in_a_turn_wrong : IsWrongTurn tick_in_a_turn
tick_in_a_turn_wrong t turn = never turn.acts_may

loss_in_a_turn_wrong : IsWrongTurn loss_in_a_turn
loss_in_a_turn_wrong t turn = never turn.acts_may

failed_and_moved_wrong : IsWrongTurn failed_and_moved
failed_and_moved_wrong t turn = numbers_differ 1 0 refl turn.sound

at_most_two : {A B : Type 0} (w : Option A) (r : Option B) → 43 ≡ counted 40 (calls_made w + calls_made r) → ⊥
at_most_two None None e = omega arith
at_most_two None (Some r) e = omega arith
at_most_two (Some w) None e = omega arith
at_most_two (Some w) (Some r) e = omega arith

three_calls_wrong : IsWrongTurn three_calls
three_calls_wrong t turn = at_most_two t.write t.read turn.exchanges.calls

nothing_joined : (xs ys : List ℕ) → xs ++ ys ≡ [] → 1 ≤ length xs → ⊥
nothing_joined [] ys e some = omega arith
nothing_joined (x ∷ xs) ys e some = not_empty e

-- where nothing waits, and nothing was sent, nothing can have been offered
none_offered : (w : Write) (before : List ℕ) → before ≡ before ++ octets_written (Some w) → IsOffer w [] → ⊥
none_offered w before e offer =
    let none : octets_written (Some w) ≡ [] = sym (append_cancel_left before [] (octets_written (Some w)) (append-nil before ∙ e)) in
    nothing_joined w.offered offer.first.rest (offer.first.joins ∙ ap (λ (xs : List ℕ). xs ++ []) none) offer.some

one_read : (w : Option Write) (r : Option Read) (before : List ℕ) → Offers w [] → before ≡ before ++ octets_written w → 42 ≡ counted 40 (calls_made w + calls_made r) → ⊥
one_read None None before offers e calls = omega arith
one_read None (Some r) before offers e calls = omega arith
one_read (Some w) r before offers e calls = none_offered w before e offers

read_twice_wrong : IsWrongTurn read_twice
read_twice_wrong t turn = one_read t.write t.read read_twice.old.line.sent turn.offers turn.exchanges.went turn.exchanges.calls

-- octets came, so the line was read
was_read : (read : Option Read) (before later : List ℕ) → length before < length later → later ≡ before ++ octets_read read → read ≡ None → ⊥
was_read read before later more e none =
    let same : later ≡ before = e ∙ (ap (λ (r : Option Read). before ++ octets_read r) none ∙ append-nil before) in
    let size = ap length same in
    omega (arith, more, size)

read_while_unfed_wrong : IsWrongTurn read_while_unfed
read_while_unfed_wrong t turn = not_empty (turn.exchanges.reads_fed (was_read t.read read_while_unfed.old.line.received read_while_unfed.new.line.received (lit< tt) turn.exchanges.came))

two_frames_wrong : IsWrongTurn two_frames
two_frames_wrong t turn = let few : 2 ≤ 1 = turn.exchanges.one_got in omega arith

one_given : (next : Option (Option Request)) → 2 ≡ length (request_given next) → ⊥
one_given None e = omega arith
one_given (Some None) e = omega arith
one_given (Some (Some q)) e = omega arith

two_requests_wrong : IsWrongTurn two_requests
two_requests_wrong t turn = one_given t.next (ap length turn.exchanges.taken)

none_behind : (os : List Outcome) (o : Outcome) → [] ≡ os ++ o ∷ [] → ⊥
none_behind [] o e = empty_not e
none_behind (p ∷ os) o e = empty_not e

told_at_once_wrong : IsWrongTurn told_at_once
told_at_once_wrong t turn = none_behind t.still_told (outcome_of 1 Opened) turn.exchanges.outcomes_wait

few_wait : (waiting : List Urc) (n : ℕ) (lines : List Act) → length lines ≡ n → n < 256 → lines ≡ map heard_as waiting ++ [] → nat_le 256 (backlog_in 1 waiting) ≡ true → ⊥
few_wait waiting n lines len few e h =
    let all : length (map heard_as waiting ++ []) ≡ length waiting = ap length (append-nil (map heard_as waiting)) ∙ length-map waiting heard_as in
    let same : length lines ≡ length waiting = ap length e ∙ all in
    let le : backlog_in 1 waiting ≤ length waiting = no_more (λ (u : Urc). u.dlci.number == 1) waiting in
    let many : 256 ≤ backlog_in 1 waiting = leb-true 256 (backlog_in 1 waiting) h in
    omega arith

held_too_early_wrong : IsWrongTurn held_too_early
held_too_early_wrong t turn =
    few_wait t.still_heard 1 (heard_as ring ∷ []) refl (lit< tt) turn.exchanges.lines_wait (and_parts (nat_le 256 (backlog_in 1 t.still_heard)) true turn.acts_may).0

moved_by_dropped_request_wrong : IsWrongTurn moved_by_dropped_request
moved_by_dropped_request_wrong t turn = never turn.moved

-- none of the wrong turns is a turn, whatever it exchanged with its line and its desk
pub all_wrong_turns : Each IsWrongTurn wrong_turns
all_wrong_turns = (idle_with_frame_wrong, (idle_with_unfed_wrong, (idle_half_unfed_wrong, (idle_with_unsent_wrong, (idle_with_queued_wrong, (idle_with_outcome_wrong, (idle_with_line_wrong, (idle_with_command_wrong, (idle_after_read_wrong, (idle_without_read_wrong, (idle_though_told_wrong, (idle_though_sent_wrong, (idle_though_announced_wrong, (idle_with_lost_frame_wrong, (idle_with_dropped_request_wrong, (idle_and_still_held_wrong, (idle_and_failed_wrong, (moved_by_nothing_wrong, (moved_by_a_mark_wrong, (unfed_grows_wrong, (full_unoffered_wrong, (full_but_taken_wrong, (full_of_nothing_wrong, (full_without_read_wrong, (full_with_frame_wrong, (full_with_unfed_wrong, (full_with_test_wrong, (full_though_told_wrong, (full_though_read_wrong, (full_though_taken_wrong, (full_with_dropped_request_wrong, (full_and_not_held_wrong, (full_and_still_held_wrong, (full_and_failed_wrong, (waiting_but_told_wrong, (waiting_for_another_wrong, (waiting_for_the_greater_wrong, (waiting_with_unsent_wrong, (waiting_with_frame_wrong, (waiting_without_read_wrong, (waiting_for_none_wrong, (waiting_untried_wrong, (waiting_half_unfed_wrong, (waiting_with_lost_frame_wrong, (waiting_with_queued_wrong, (waiting_with_command_wrong, (waiting_and_not_held_wrong, (waiting_and_still_held_wrong, (waiting_and_failed_wrong, (blocked_by_none_wrong, (blocked_by_a_later_wrong, (blocked_with_command_wrong, (blocked_and_not_held_wrong, (blocked_and_still_held_wrong, (blocked_by_another_wrong, (blocked_though_announced_wrong, (blocked_untried_wrong, (blocked_with_unsent_wrong, (blocked_with_outcome_wrong, (blocked_with_frame_wrong, (blocked_half_unfed_wrong, (blocked_without_read_wrong, (blocked_with_queued_wrong, (blocked_and_failed_wrong, (tick_in_a_turn_wrong, (loss_in_a_turn_wrong, (failed_and_moved_wrong, (three_calls_wrong, (read_twice_wrong, (read_while_unfed_wrong, (two_frames_wrong, (two_requests_wrong, (told_at_once_wrong, (held_too_early_wrong, (moved_by_dropped_request_wrong, tt)))))))))))))))))))))))))))))))))))))))))))))))))))))))))))))))))))))))))))
