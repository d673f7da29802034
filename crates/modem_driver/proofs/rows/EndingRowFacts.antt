-- The worked ends of a session, computed by the definitions.
use Rattle.std.proofs.Common.{ap, sym, ◌∙◌, subst, arith}
use Rattle.std.proofs.lemmas.List.{append-nil, length-append}
use Rattle.std.specs.Prelude.{◌≡◌, ℕ, ◌<◌, true, false, List, [], ◌∷◌, ◌++◌, drop, length, refl}
use Rattle.std.specs.List.{list_all, list_any}
use Rattle.mux_frame.specs.CheckOctet.{check_octet_of}
use Rattle.mux_frame.specs.Spelling.{body_of}
use Rattle.modem_desk.specs.declared.request.Answer.TheVariants.{Opened, Stopped}
use Rattle.modem_desk.specs.declared.request.Outcome.{Outcome}
use Rattle.modem_history.specs.Acts.{Act, after}
use Rattle.modem_history.specs.Wholes.{IsPrefixOf, outcomes}
use Rattle.modem_history.specs.Sessions.{SessionView, at_place, octets_of_frames, caller_outcomes, sents}
use Rattle.modem_history.specs.SessionRows.{beginning}
use Rattle.modem_history.proofs.rows.SessionTests.{nothing_before, told_is}
use Rattle.modem_driver.specs.Endings.{HasEnded}
use Rattle.modem_queues.specs.Stops.{has_stopped}
use Rattle.modem_driver.specs.EndingRows.{AreNoEndings, IsNoGoing, IsRightEnding, StaysEnded, stop_answered, ends_in, going_rows, later, ending_outcome, stopped_rows}
use Rattle.modem_driver.proofs.sessions.polls.StopProgress.{stopped_after}

-- in these a Stop has ended
pub all_stopped : list_all ends_in stopped_rows ≡ true
all_stopped = refl

-- in these none has
pub none_stopped : list_any ends_in going_rows ≡ false
none_stopped = refl

-- ## What is an end

-- each caller has all of them
all_placed : (c : ℕ) → IsPrefixOf (at_place c beginning.desk.told ++ caller_outcomes c (outcomes (after [] stop_answered))) (at_place c ((ending_outcome 1 Opened ∷ ending_outcome 2 Stopped ∷ []) ∷ [] ∷ []))
all_placed c =
    let os = outcomes (after [] stop_answered) in
    let told = (ending_outcome 1 Opened ∷ ending_outcome 2 Stopped ∷ []) ∷ [] ∷ [] in
    record {
      rest = [];
      joins =
          append-nil (at_place c beginning.desk.told ++ caller_outcomes c os)
          ∙ (ap (λ (xs : List Outcome). xs ++ caller_outcomes c os) (nothing_before c)
          ∙ (sym (told_is told [] os (record { zero = refl; one = refl; told_two = refl; waiting_two = refl; said_two = refl }) c) ∙ append-nil (at_place c told)));
    }

-- a session has ended once all is written and told
pub right_ending : IsRightEnding
unfolding IsRightEnding body_of check_octet_of
right_ending = record { before = after [] stop_answered; since = []; past_is = refl; stopped = refl; written = record { rest = []; joins = refl }; placed = all_placed }

-- and after more was asked and told it still has
pub stays_ended : StaysEnded
unfolding StaysEnded body_of check_octet_of
stays_ended = record { before = after [] stop_answered; since = later; past_is = refl; stopped = refl; written = record { rest = []; joins = refl }; placed = all_placed }

-- ## What isn't

-- a history with its newest act
record Newest (before since : List Act) (a : Act) : Type 0 where
  act : Act
  rest : List Act
  is : after before (a ∷ since) ≡ act ∷ after before rest

newest : (a : Act) (since before : List Act) → Newest before since a
newest a [] before = record { act = a; rest = []; is = refl }
newest a (c ∷ since) before = let n = newest c since (a ∷ before) in record { act = n.act; rest = a ∷ n.rest; is = n.is }

-- where the Stop is answered by the newest act, the beginning in which it is answered is the whole
whole : (past before since : List Act) → past ≡ after before since → has_stopped (drop 1 past) ≡ false → has_stopped before ≡ true → before ≡ past
whole past before [] e none some = sym e
whole past before (a ∷ since) e none some =
    let n = newest a since before in
    let older : drop 1 past ≡ after before n.rest = ap (drop 1) (e ∙ n.is) in
    let both : true ≡ false = sym (stopped_after n.rest before some) ∙ (ap has_stopped (sym older) ∙ none) in
    absurd (let x : true ≡ false = both in cc)

too_short : {X : Type 0} (xs ys : List X) → length ys < length xs → IsPrefixOf xs ys → ⊥
too_short xs ys less b = let all = sym (length-append xs b.rest) ∙ ap length b.joins in omega (arith, less, all)

-- its beginning is the whole history, of which all must be written and told
needs_all : (v : SessionView) → HasEnded beginning v (after [] stop_answered)
    → IsPrefixOf (beginning.line.sent ++ octets_of_frames (sents (after [] stop_answered))) v.line.sent × IsPrefixOf (caller_outcomes 0 (outcomes (after [] stop_answered))) (at_place 0 v.desk.told)
needs_all v h =
    let same : h.before ≡ after [] stop_answered = whole (after [] stop_answered) h.before h.since h.past_is refl h.stopped in (
      subst (λ (past : List Act). IsPrefixOf (beginning.line.sent ++ octets_of_frames (sents past)) v.line.sent) same h.written,
      subst (λ (past : List Act). IsPrefixOf (caller_outcomes 0 (outcomes past)) (at_place 0 v.desk.told)) same (h.placed 0),
    )

-- it has not while an octet or the Stop's outcome is missing
pub no_endings : AreNoEndings
unfolding AreNoEndings body_of check_octet_of
no_endings = ((λ h. too_short _ _ (omega arith) (needs_all _ h).0), (λ h. too_short _ _ (omega arith) (needs_all _ h).1))

-- where Stopped was told it is wrong that no Stop was answered
pub no_going : IsNoGoing
unfolding IsNoGoing
no_going v e = cc
