-- The rows of right turns, computed.
use Rattle.std.proofs.Common.{inl, inr, arith, eqb-true, lit<, lit≤}
use Rattle.std.specs.Prelude.{◌≡◌, ◌≢◌, ℕ, ◌==◌, Bool, true, false, List, [], ◌∷◌, ◌++◌, take, drop, replicate, refl, Option, Some, None, if◌then◌else◌}
use Rattle.std.specs.List.{concat}
use Rattle.mux_frame.specs.Frames.{Frame}
use Rattle.mux_frame.specs.CheckOctet.{check_octet_of}
use Rattle.mux_frame.specs.Spelling.{body_of}
use Rattle.mux_frame.specs.Judging.{verdict_on, by_header, by_end}
use Rattle.modem_desk.specs.declared.request.Request.{Request}
use Rattle.modem_desk.specs.declared.request.Answer.TheVariants.{Opened}
use Rattle.modem_history.specs.Acts.{Act, after}
use Rattle.modem_history.specs.Kinds.{of_kind}
use Rattle.modem_history.specs.Sessions.{SessionView, SessionFits, driving, caller_outcomes}
use Rattle.modem_history.specs.SessionRows.{IsRight, IsRightTurn, beginning, lf_octet, zero_came, one_came, msc_one, test_command_info, ring_one, creg_one, sabm_zero, last_flag, first_request, outcome_of, ring}
use Rattle.modem_history.specs.GoodSessions.{left_zero, asked_zero, asked_csq, ring_came}
use Rattle.modem_history.specs.Rows.{opening_zero}
use Rattle.modem_history.specs.Turns.{Write, HandsBack}
use Rattle.modem_history.specs.GoodTurns.{AreRightTurns, at_calls, exchanged, offers, outcome_back, outcomes_back, lines_back, other_outcome, both_outcomes, both_wait, other_told, both_came, one_waits, two_lines_wait, creg, writes_on, takes_request, gets_frame, places_outcome, writes_nothing, gives_on_in_vain, long_test_came, held_and_full, queue_full, full_and_held, waits_for_zero, waits_for_one, waits_for_both, blocked_by_ring, blocked_by_the_first, idle_at_first, idle_under_way}
use Rattle.modem_history.proofs.rows.HistoryTests.{good}
use Rattle.modem_history.proofs.rows.SessionTests.{read_in, fits_none}
use Rattle.modem_history.proofs.rows.SessionRowFacts.{sabm_queued_right, sabm_half_sent_right, ua_at_hand_right, zero_opened_right, outcome_waits_right, csq_sent_right, ring_waits_right}
use Rattle.modem_history.proofs.rows.TurnTests.{of_kinds, first_own, one_back, none_held, turn_by}

-- what a session fits doesn't hang on the count of calls
pub still_fits : (n : ℕ) (v : SessionView) (past : List Act) → SessionFits beginning v past → SessionFits beginning (at_calls n v) past
still_fits n v past f = record {
  history = f.history;
  loss = record { one = f.loss.one; by_fault = f.loss.by_fault };
  requests = record { taken_are = f.requests.taken_are; once = f.requests.once; callers = f.requests.callers; few = f.requests.few };
  received = record { fed = f.received.fed; received_are = f.received.received_are; bound = f.received.bound; deframes = f.received.deframes };
  sent = record { since = f.sent.since; sent_are = f.sent.sent_are; frames_are = f.sent.frames_are; written = f.sent.written; of_last = f.sent.of_last };
  told = record { each = λ c. let g = f.told.each c in record { since = g.since; told_are = g.told_are; outcomes_are = g.outcomes_are }; callers = f.told.callers };
  heard = record { each = λ i k at. let g = f.heard.each i k at in record { since = g.since; announced_are = g.announced_are; lines_are = g.lines_are }; listened = f.heard.listened; in_order = f.heard.in_order; nowhere_else = f.heard.nowhere_else };
}

not_empty : {x : ℕ} {xs : List ℕ} → x ∷ xs ≢ []
not_empty e = cc

none_at_hand : {f : Frame} → None ≡ Some f → ⊥
none_at_hand e = cc

nothing_back : (write : Option Write) (next : Option Request) → HandsBack (exchanged write next)
nothing_back write next = record { outcomes = λ c. refl; lines = λ k. refl }

none_blank : IsRight (record { view = takes_request.old; acts = [] })
unfolding check_octet_of body_of verdict_on by_header by_end
none_blank = fits_none (record { view = takes_request.old; acts = [] }) lf_octet [] 0 refl refl refl (read_in lf_octet refl) (read_in [] refl) refl

writes_right : IsRightTurn writes_on (exchanged (offers (drop 2 sabm_zero) 4) None)
unfolding check_octet_of body_of verdict_on by_header by_end
writes_right = record {
  fitted = sabm_half_sent_right;
  fits = fits_none (record { view = writes_on.new; acts = left_zero }) lf_octet [] 6 refl refl refl (read_in lf_octet refl) (read_in [] refl) refl;
  turn = turn_by writes_on.old writes_on.new (exchanged (offers (drop 2 sabm_zero) 4) None) (after [] writes_on.before) writes_on.acts writes_on.says refl refl refl (lit≤ tt)
      (record { some = lit≤ tt; bound = lit≤ tt; first = record { rest = []; joins = refl } }) (nothing_back _ _) tt;
}

takes_right : IsRightTurn takes_request (exchanged None (Some first_request))
takes_right = record {
  fitted = none_blank;
  fits = still_fits 41 _ (after [] asked_zero) sabm_queued_right;
  turn = turn_by takes_request.old takes_request.new (exchanged None (Some first_request)) (after [] takes_request.before) takes_request.acts takes_request.says refl refl refl (lit≤ tt)
      refl (nothing_back _ _) tt;
}

gets_right : IsRightTurn gets_frame (exchanged None None)
gets_right = record {
  fitted = ua_at_hand_right;
  fits = still_fits 41 _ (after [] opening_zero) outcome_waits_right;
  turn = turn_by gets_frame.old gets_frame.new (exchanged None None) (after [] gets_frame.before) gets_frame.acts gets_frame.says refl refl refl (lit≤ tt)
      refl (nothing_back _ _) tt;
}

places_right : IsRightTurn places_outcome (exchanged None None)
places_right = record {
  fitted = outcome_waits_right;
  fits = still_fits 41 _ (after [] opening_zero) zero_opened_right;
  turn = turn_by places_outcome.old places_outcome.new (exchanged None None) (after [] places_outcome.before) places_outcome.acts places_outcome.says refl refl refl (lit≤ tt)
      refl (nothing_back _ _) tt;
}

full_right : IsRightTurn writes_nothing (exchanged (offers (drop 2 sabm_zero) 0) None)
full_right = record {
  fitted = sabm_half_sent_right;
  fits = still_fits 42 _ (after [] left_zero) sabm_half_sent_right;
  turn = turn_by writes_nothing.old writes_nothing.new (exchanged (offers (drop 2 sabm_zero) 0) None) (after [] writes_nothing.before) writes_nothing.acts writes_nothing.says refl refl refl (lit≤ tt)
      (record { some = lit≤ tt; bound = lit≤ tt; first = record { rest = []; joins = refl } }) (nothing_back _ _) (record { waits = not_empty; offered = drop 2 sabm_zero; some = not_empty; took_none = refl; reads = λ e. record { room = 64; some = lit≤ tt; nothing = refl }; fed = λ _. refl; no_room = λ f e. absurd (none_at_hand e); held = inl (none_held writes_nothing.new (after [] writes_nothing.before) refl refl); no_request = inl refl });
}

gives_right : IsRightTurn gives_on_in_vain (exchanged (offers sabm_zero 0) None)
unfolding check_octet_of body_of verdict_on by_header by_end
gives_right = record {
  fitted = sabm_queued_right;
  fits = fits_none (record { view = gives_on_in_vain.new; acts = left_zero }) lf_octet [] 0 refl refl refl (read_in lf_octet refl) (read_in [] refl) refl;
  turn = turn_by gives_on_in_vain.old gives_on_in_vain.new (exchanged (offers sabm_zero 0) None) (after [] gives_on_in_vain.before) gives_on_in_vain.acts gives_on_in_vain.says refl refl refl (lit≤ tt)
      (record { some = lit≤ tt; bound = lit≤ tt; first = record { rest = []; joins = refl } }) (nothing_back _ _) (record { waits = not_empty; offered = sabm_zero; some = not_empty; took_none = refl; reads = λ e. record { room = 64; some = lit≤ tt; nothing = refl }; fed = λ _. refl; no_room = λ f e. absurd (none_at_hand e); held = inl (none_held gives_on_in_vain.new (after [] gives_on_in_vain.before) refl refl); no_request = inl refl });
}

-- what came of the full queue
full_came : List ℕ
full_came = one_came ++ concat (replicate 111 long_test_came) ++ test_command_info

queue_full_right : IsRight (record { view = queue_full; acts = held_and_full })
unfolding check_octet_of body_of verdict_on by_header by_end full_came
queue_full_right = fits_none (record { view = queue_full; acts = held_and_full }) full_came last_flag 2 refl refl refl (read_in full_came refl) (read_in last_flag refl) refl

full_held_right : IsRightTurn full_and_held (exchanged (offers (drop 2 msc_one) 0) None)
full_held_right = record {
  fitted = queue_full_right;
  fits = still_fits 42 _ (after [] held_and_full) queue_full_right;
  turn = turn_by full_and_held.old full_and_held.new (exchanged (offers (drop 2 msc_one) 0) None) (after [] full_and_held.before) full_and_held.acts full_and_held.says refl refl refl (lit≤ tt)
      (record { some = lit≤ tt; bound = lit≤ tt; first = record { rest = []; joins = refl } }) (nothing_back _ _) (record { waits = not_empty; offered = drop 2 msc_one; some = not_empty; took_none = refl; reads = λ e. record { room = 64; some = lit≤ tt; nothing = refl }; fed = λ _. refl; no_room = λ f e. absurd (none_at_hand e); held = inr (λ d. lit< tt); no_request = inl refl });
}

one_waits_right : IsRight (record { view = one_waits; acts = other_told })
unfolding check_octet_of body_of verdict_on by_header by_end
one_waits_right = fits_none (record { view = one_waits; acts = other_told }) zero_came last_flag 6 refl refl refl (read_in zero_came refl) (read_in last_flag refl) refl

two_lines_right : IsRight (record { view = two_lines_wait; acts = both_came })
unfolding check_octet_of body_of verdict_on by_header by_end
two_lines_right = fits_none (record { view = two_lines_wait; acts = both_came }) (one_came ++ creg_one 0x31 ++ ring_one) last_flag 10 refl refl refl (read_in (one_came ++ creg_one 0x31 ++ ring_one) refl) (read_in last_flag refl) refl

waits_zero_right : IsRightTurn waits_for_zero (outcome_back (outcome_of 1 Opened))
unfolding check_octet_of body_of verdict_on by_header by_end
waits_zero_right = record {
  fitted = outcome_waits_right;
  fits = still_fits 41 _ (after [] opening_zero) outcome_waits_right;
  turn = turn_by waits_for_zero.old waits_for_zero.new (outcome_back (outcome_of 1 Opened)) (after [] waits_for_zero.before) waits_for_zero.acts waits_for_zero.says refl refl refl (lit≤ tt)
      refl (record { outcomes = one_back (outcome_of 1 Opened); lines = λ k. refl }) (record {
        written = refl;
        outcome = outcome_of 1 Opened;
        waits = refl;
        handed_back = refl;
        least = refl;
        rest = record {
          quiet = (good (driving beginning) waits_for_zero.before refl refl refl).quiet;
          sent = refl;
          nothing_came = record { room = 64; some = lit≤ tt; nothing = refl };
          fed = refl;
          all_got = record { octets = zero_came; since = refl; rest = last_flag; reads = read_in zero_came refl };
          no_request = inl refl;
          held = none_held waits_for_zero.new (after [] waits_for_zero.before) refl refl;
        };
      });
}

waits_one_right : IsRightTurn waits_for_one (outcome_back other_outcome)
unfolding check_octet_of body_of verdict_on by_header by_end
waits_one_right = record {
  fitted = one_waits_right;
  fits = still_fits 41 _ (after [] other_told) one_waits_right;
  turn = turn_by waits_for_one.old waits_for_one.new (outcome_back other_outcome) (after [] waits_for_one.before) waits_for_one.acts waits_for_one.says refl refl refl (lit≤ tt)
      refl (record { outcomes = one_back other_outcome; lines = λ k. refl }) (record {
        written = refl;
        outcome = other_outcome;
        waits = refl;
        handed_back = refl;
        least = refl;
        rest = record {
          quiet = (good (driving beginning) waits_for_one.before refl refl refl).quiet;
          sent = refl;
          nothing_came = record { room = 64; some = lit≤ tt; nothing = refl };
          fed = refl;
          all_got = record { octets = zero_came; since = refl; rest = last_flag; reads = read_in zero_came refl };
          no_request = inl refl;
          held = none_held waits_for_one.new (after [] waits_for_one.before) refl refl;
        };
      });
}

both_waiting_right : IsRight (record { view = both_wait; acts = other_told })
unfolding check_octet_of body_of verdict_on by_header by_end
both_waiting_right = fits_none (record { view = both_wait; acts = other_told }) zero_came last_flag 6 refl refl refl (read_in zero_came refl) (read_in last_flag refl) refl

two_back : (c : ℕ) → caller_outcomes c both_outcomes ≡ take 1 (caller_outcomes c both_outcomes)
two_back c = by_callers (0 == c) (1 == c) refl refl
  where
    by_callers : (a b : Bool) → (0 == c) ≡ a → (1 == c) ≡ b
        → (if a then outcome_of 1 Opened ∷ (if b then other_outcome ∷ [] else []) else (if b then other_outcome ∷ [] else []))
        ≡ take 1 (if a then outcome_of 1 Opened ∷ (if b then other_outcome ∷ [] else []) else (if b then other_outcome ∷ [] else []))
    by_callers true true e h = let same : 0 ≡ c = eqb-true 0 c e in let other : 1 ≡ c = eqb-true 1 c h in let x : ⊥ = omega (arith, same, other) in absurd x
    by_callers true false e h = refl
    by_callers false true e h = refl
    by_callers false false e h = refl

waits_both_right : IsRightTurn waits_for_both (outcomes_back both_outcomes)
unfolding check_octet_of body_of verdict_on by_header by_end
waits_both_right = record {
  fitted = both_waiting_right;
  fits = still_fits 41 _ (after [] other_told) both_waiting_right;
  turn = turn_by waits_for_both.old waits_for_both.new (outcomes_back both_outcomes) (after [] waits_for_both.before) waits_for_both.acts waits_for_both.says refl refl refl (lit≤ tt)
      refl (record { outcomes = two_back; lines = λ k. refl }) (record {
        written = refl;
        outcome = outcome_of 1 Opened;
        waits = refl;
        handed_back = refl;
        least = refl;
        rest = record {
          quiet = (good (driving beginning) waits_for_both.before refl refl refl).quiet;
          sent = refl;
          nothing_came = record { room = 64; some = lit≤ tt; nothing = refl };
          fed = refl;
          all_got = record { octets = zero_came; since = refl; rest = last_flag; reads = read_in zero_came refl };
          no_request = inl refl;
          held = none_held waits_for_both.new (after [] waits_for_both.before) refl refl;
        };
      });
}

ring_waits_turn : IsRightTurn blocked_by_ring (lines_back (ring ∷ []))
unfolding check_octet_of body_of verdict_on by_header by_end
ring_waits_turn = record {
  fitted = ring_waits_right;
  fits = still_fits 41 _ (after [] ring_came) ring_waits_right;
  turn = turn_by blocked_by_ring.old blocked_by_ring.new (lines_back (ring ∷ [])) (after [] blocked_by_ring.before) blocked_by_ring.acts blocked_by_ring.says refl refl refl (lit≤ tt)
      refl (record { outcomes = λ c. refl; lines = of_kinds (λ k. of_kind k (ring ∷ []) ≡ take 1 (of_kind k (ring ∷ []))) (record { ring = refl; cring = refl; creg = refl; cgreg = refl; cgev = refl; ciev = refl; other = refl; own = λ number. first_own number (ring ∷ []) (ring ∷ []) refl refl }) }) (record {
        written = refl;
        placed = refl;
        line = ring;
        waits = refl;
        is_of = refl;
        handed_back = refl;
        rest = record {
          quiet = (good (driving beginning) blocked_by_ring.before refl refl refl).quiet;
          sent = refl;
          nothing_came = record { room = 64; some = lit≤ tt; nothing = refl };
          fed = refl;
          all_got = record { octets = (one_came ++ ring_one); since = refl; rest = last_flag; reads = read_in (one_came ++ ring_one) refl };
          no_request = inl refl;
          held = none_held blocked_by_ring.new (after [] blocked_by_ring.before) refl refl;
        };
      });
}

both_wait_right : IsRightTurn blocked_by_the_first (lines_back (creg ∷ ring ∷ []))
unfolding check_octet_of body_of verdict_on by_header by_end
both_wait_right = record {
  fitted = two_lines_right;
  fits = still_fits 41 _ (after [] both_came) two_lines_right;
  turn = turn_by blocked_by_the_first.old blocked_by_the_first.new (lines_back (creg ∷ ring ∷ [])) (after [] blocked_by_the_first.before) blocked_by_the_first.acts blocked_by_the_first.says refl refl refl (lit≤ tt)
      refl (record { outcomes = λ c. refl; lines = of_kinds (λ k. of_kind k (creg ∷ ring ∷ []) ≡ take 1 (of_kind k (creg ∷ ring ∷ []))) (record { ring = refl; cring = refl; creg = refl; cgreg = refl; cgev = refl; ciev = refl; other = refl; own = λ number. first_own number (creg ∷ ring ∷ []) (creg ∷ ring ∷ []) refl refl }) }) (record {
        written = refl;
        placed = refl;
        line = creg;
        waits = refl;
        is_of = refl;
        handed_back = refl;
        rest = record {
          quiet = (good (driving beginning) blocked_by_the_first.before refl refl refl).quiet;
          sent = refl;
          nothing_came = record { room = 64; some = lit≤ tt; nothing = refl };
          fed = refl;
          all_got = record { octets = (one_came ++ creg_one 0x31 ++ ring_one); since = refl; rest = last_flag; reads = read_in (one_came ++ creg_one 0x31 ++ ring_one) refl };
          no_request = inl refl;
          held = none_held blocked_by_the_first.new (after [] blocked_by_the_first.before) refl refl;
        };
      });
}

idles_right : IsRightTurn idle_at_first (exchanged None None)
unfolding check_octet_of body_of verdict_on by_header by_end
idles_right = record {
  fitted = none_blank;
  fits = still_fits 41 _ (after [] []) none_blank;
  turn = turn_by idle_at_first.old idle_at_first.new (exchanged None None) (after [] idle_at_first.before) idle_at_first.acts idle_at_first.says refl refl refl (lit≤ tt)
      refl (nothing_back _ _) (record {
        written = refl;
        placed = refl;
        announced = refl;
        rest = record {
          quiet = (good (driving beginning) idle_at_first.before refl refl refl).quiet;
          sent = refl;
          nothing_came = record { room = 64; some = lit≤ tt; nothing = refl };
          fed = refl;
          all_got = record { octets = lf_octet; since = refl; rest = []; reads = read_in lf_octet refl };
          no_request = inl refl;
          held = none_held idle_at_first.new (after [] idle_at_first.before) refl refl;
        };
      });
}

idles_on_right : IsRightTurn idle_under_way (exchanged None None)
unfolding check_octet_of body_of verdict_on by_header by_end
idles_on_right = record {
  fitted = csq_sent_right;
  fits = still_fits 41 _ (after [] asked_csq) csq_sent_right;
  turn = turn_by idle_under_way.old idle_under_way.new (exchanged None None) (after [] idle_under_way.before) idle_under_way.acts idle_under_way.says refl refl refl (lit≤ tt)
      refl (nothing_back _ _) (record {
        written = refl;
        placed = refl;
        announced = refl;
        rest = record {
          quiet = (good (driving beginning) idle_under_way.before refl refl refl).quiet;
          sent = refl;
          nothing_came = record { room = 64; some = lit≤ tt; nothing = refl };
          fed = refl;
          all_got = record { octets = one_came; since = refl; rest = last_flag; reads = read_in one_came refl };
          no_request = inl refl;
          held = none_held idle_under_way.new (after [] idle_under_way.before) refl refl;
        };
      });
}

-- each right turn is one, by its exchange, and its session fits before it and after it
pub are_right : AreRightTurns
are_right = record {
  writes = writes_right;
  takes = takes_right;
  gets = gets_right;
  places = places_right;
  full = full_right;
  gives = gives_right;
  full_held = full_held_right;
  waits_zero = waits_zero_right;
  waits_one = waits_one_right;
  waits_both = waits_both_right;
  ring_waits = ring_waits_turn;
  both_wait = both_wait_right;
  idles = idles_right;
  idles_on = idles_on_right;
}
