-- The rows of faults and ticks, computed.
use Rattle.std.proofs.Common.{ap, sym, ◌∙◌, lit<, lit≤, arith}
use Rattle.std.specs.Prelude.{◌≡◌, ℕ, ◌<◌, ◌==◌, true, false, List, [], ◌∷◌, ◌++◌, length, drop, map, refl, None}
use Rattle.std.specs.List.{list_all}
use Rattle.std.proofs.lemmas.Bool.{eq-eqb}
use Rattle.modem_history.specs.Wholes.{is_said}
use Rattle.mux_frame.specs.Frames.{Frame}
use Rattle.modem_desk.specs.declared.request.Outcome.{Outcome}
use Rattle.mux_frame.specs.CheckOctet.{check_octet_of}
use Rattle.mux_frame.specs.Spelling.{body_of}
use Rattle.mux_frame.specs.Judging.{verdict_on, by_header, by_end}
use Rattle.modem_desk.specs.declared.request.Answer.TheVariants.{LineLost}
use Rattle.modem_history.specs.Acts.{Act, Sent, Told, Lost, after}
use Rattle.modem_history.specs.Sessions.{SessionView, EndView, at_place}
use Rattle.modem_history.specs.SessionRows.{IsRight, Each, zero_came, sabm_one, outcome_of, last_flag}
use Rattle.modem_history.specs.GoodSessions.{loss_told}
use Rattle.modem_history.specs.GoodTurns.{exchanged, offers}
use Rattle.modem_history.specs.FaultRows.{AreRightFaults, IsRightFault, IsWrongFault, IsRightTick, IsWrongTick, wrong_faults, right_ticks, wrong_ticks, asked_one, one_half_sent, fails, fails_again, keeps_frame, fails_unfailed, lost_before, failed_too_soon, calls_lost_line, memory_for_loss, loss_untold, loss_and_request, sends_behind_loss, feeds_when_lost, goes_on_faulty, failure_passed_over, places_faulty, sends_again, only_ticks, tick_left_out, two_ticks, data_at_tick, places_at_tick, ticks_when_lost}
use Rattle.modem_history.proofs.rows.SessionTests.{read_in, fits_none, outcomes_differ}
use Rattle.modem_history.proofs.rows.SessionRowFacts.{ring_comes_right, line_lost_right}
use Rattle.modem_history.proofs.rows.GoodTurnFacts.{still_fits}

one_half_sent_right : IsRight (record { view = one_half_sent; acts = asked_one })
unfolding check_octet_of body_of verdict_on by_header by_end
one_half_sent_right = fits_none (record { view = one_half_sent; acts = asked_one }) zero_came last_flag 2 refl refl refl (read_in zero_came refl) (read_in last_flag refl) refl

fails_again_right : IsRight (record { view = fails_again.new; acts = loss_told })
unfolding check_octet_of body_of verdict_on by_header by_end
fails_again_right = fits_none (record { view = fails_again.new; acts = loss_told }) zero_came last_flag 2 refl refl refl (read_in zero_came refl) (read_in last_flag refl) refl

first_right : IsRightFault fails (record (exchanged (offers (drop 2 sabm_one) 0) None) { read = None; next = None })
first_right = record {
  fitted = one_half_sent_right;
  fits = still_fits 41 _ (after [] loss_told) line_lost_right;
  fault = record {
    exchanges = record { came = refl; room = tt; went = refl; calls = refl; taken = refl; hands_back = record { outcomes = λ c. refl; lines = λ k. refl }; outcomes_wait = refl; lines_wait = refl; unfed = lit≤ tt; reads_fed = λ _. refl; one_got = lit≤ tt };
    acts_may = refl;
    means = record { live = refl; gone = refl; by_fault = lit< tt; none_taken = refl; before = []; told = outcome_of 2 LineLost ∷ []; acts_are = refl; none_in_hand = refl };
  };
}

later_right : IsRightFault fails_again (record (exchanged None None) { read = None; next = None })
later_right = record {
  fitted = line_lost_right;
  fits = fails_again_right;
  fault = record {
    exchanges = record { came = refl; room = tt; went = refl; calls = refl; taken = refl; hands_back = record { outcomes = λ c. refl; lines = λ k. refl }; outcomes_wait = refl; lines_wait = refl; unfed = lit≤ tt; reads_fed = λ _. refl; one_got = lit≤ tt };
    acts_may = refl;
    means = record { gone = refl; places = record { no_acts = refl; stays = refl } };
  };
}

memory_right : IsRightFault keeps_frame (record (exchanged None None) { read = None; next = None })
memory_right = record {
  fitted = ring_comes_right;
  fits = ring_comes_right;
  fault = record {
    exchanges = record { came = refl; room = tt; went = refl; calls = refl; taken = refl; hands_back = record { outcomes = λ c. refl; lines = λ k. refl }; outcomes_wait = refl; lines_wait = refl; unfed = lit≤ tt; reads_fed = λ _. refl; one_got = lit≤ tt };
    acts_may = refl;
    means = record { live = refl; sound = refl };
  };
}

-- right are the faults at a write that fails, in a later turn, and where there is no memory
pub are_right_faults : AreRightFaults
are_right_faults = record { first = first_right; later = later_right; memory = memory_right }

never : false ≡ true → ⊥
never e = cc

never_back : true ≡ false → ⊥
never_back e = cc

numbers_differ : (n m : ℕ) → (n == m) ≡ false → n ≡ m → ⊥
numbers_differ n m h e = never_back (sym (eq-eqb n m e) ∙ h)

fails_unfailed_wrong : IsWrongFault fails_unfailed
fails_unfailed_wrong t f = let failed : 0 < 0 = f.means.by_fault in omega arith

lost_before_wrong : IsWrongFault lost_before
lost_before_wrong t f = never_back f.means.live

failed_too_soon_wrong : IsWrongFault failed_too_soon
failed_too_soon_wrong t f = never f.means.gone

calls_lost_line_wrong : IsWrongFault calls_lost_line
calls_lost_line_wrong t f = numbers_differ 41 40 refl (ap (λ (v : SessionView). v.line.calls) f.means.places.stays)

memory_for_loss_wrong : IsWrongFault memory_for_loss
memory_for_loss_wrong t f = never_back f.means.live

loss_untold_wrong : IsWrongFault loss_untold
loss_untold_wrong t f = numbers_differ 1 0 refl (ap length f.means.none_in_hand)

loss_and_request_wrong : IsWrongFault loss_and_request
loss_and_request_wrong t f = numbers_differ 3 2 refl (ap length f.means.none_taken)

not_empty : {a : Act} {acts : List Act} → a ∷ acts ≡ [] → ⊥
not_empty e = cc

empty_not : {a : Act} {acts : List Act} → [] ≡ a ∷ acts → ⊥
empty_not e = cc

sends_behind_loss_wrong : IsWrongFault sends_behind_loss
sends_behind_loss_wrong t f = by_before f.means.before f.means.told f.means.acts_are
  where
    by_told : {a : Frame} {xs : List Act} → (os : List Outcome) → Sent a ∷ xs ≡ map Told os → ⊥
    by_told [] e = not_empty e
    by_told (o ∷ os) e = cc

    by_before : (before : List Act) (os : List Outcome) → sends_behind_loss.acts ≡ before ++ Lost ∷ map Told os → ⊥
    by_before [] os e = by_told os (ap (drop 1) e)
    by_before (a ∷ []) os e = cc
    by_before (a ∷ b ∷ []) os e = cc
    by_before (a ∷ b ∷ c ∷ []) os e = empty_not (ap (drop 3) e)
    by_before (a ∷ b ∷ c ∷ d ∷ more) os e = empty_not (ap (drop 3) e)

feeds_when_lost_wrong : IsWrongFault feeds_when_lost
feeds_when_lost_wrong t f = numbers_differ 0 1 refl (ap (λ (v : SessionView). length v.unfed) f.means.places.stays)

goes_on_faulty_wrong : IsWrongFault goes_on_faulty
goes_on_faulty_wrong t f = numbers_differ 1 0 refl f.means.sound

failure_passed_over_wrong : IsWrongFault failure_passed_over
failure_passed_over_wrong t f = numbers_differ 1 0 refl f.means.sound

places_faulty_wrong : IsWrongFault places_faulty
places_faulty_wrong t f = numbers_differ 1 0 refl f.means.sound

-- none of the wrong faults is one, whatever the turn exchanged
pub all_wrong_faults : Each IsWrongFault wrong_faults
all_wrong_faults = (fails_unfailed_wrong, (lost_before_wrong, (failed_too_soon_wrong, (calls_lost_line_wrong, (memory_for_loss_wrong, (loss_untold_wrong, (loss_and_request_wrong, (sends_behind_loss_wrong, (feeds_when_lost_wrong, (goes_on_faulty_wrong, (failure_passed_over_wrong, (places_faulty_wrong, tt))))))))))))

-- ## Ticks

sends_again_right : IsRightTick sends_again
sends_again_right = record { live = refl; more = drop 1 sends_again.acts; acts_are = refl; follow = refl; line_stays = refl; desk_stays = refl; unfed_stay = refl }

only_ticks_right : IsRightTick only_ticks
only_ticks_right = record { live = refl; more = []; acts_are = refl; follow = refl; line_stays = refl; desk_stays = refl; unfed_stay = refl }

-- each right tick is one
pub all_right_ticks : Each IsRightTick right_ticks
all_right_ticks = (sends_again_right, (only_ticks_right, tt))

tick_left_out_wrong : IsWrongTick tick_left_out
tick_left_out_wrong k = empty_not k.acts_are
  where
    empty_not : {a : Act} {acts : List Act} → [] ≡ a ∷ acts → ⊥
    empty_not e = cc

two_ticks_wrong : IsWrongTick two_ticks
two_ticks_wrong k = never (ap (list_all is_said) (ap (drop 1) k.acts_are) ∙ k.follow)

places_at_tick_wrong : IsWrongTick places_at_tick
places_at_tick_wrong k = outcomes_differ _ _ refl (ap (λ (d : EndView). at_place 0 d.told) k.desk_stays)

ticks_when_lost_wrong : IsWrongTick ticks_when_lost
ticks_when_lost_wrong k = never_back k.live

data_at_tick_wrong : IsWrongTick data_at_tick
data_at_tick_wrong k = never (ap (list_all is_said) (ap (drop 1) k.acts_are) ∙ k.follow)

-- and no wrong one is
pub all_wrong_ticks : Each IsWrongTick wrong_ticks
all_wrong_ticks = (tick_left_out_wrong, (two_ticks_wrong, (data_at_tick_wrong, (places_at_tick_wrong, (ticks_when_lost_wrong, tt)))))
