-- The rows of refused, incomplete and unquiet histories, computed.
use Rattle.std.proofs.Common.{lit<}
use Rattle.std.specs.Prelude.{◌≡◌, [], true, false, refl}
use Rattle.modem_history.specs.Acts.{after}
use Rattle.modem_history.specs.Calls.{replaying}
use Rattle.modem_history.specs.Rows.{IsRefused, IsIncomplete, IsUnquiet, AllAre}
use Rattle.modem_history.specs.BadRows.{NotItsOwn, refused_rows, incomplete_rows, unquiet_rows, answer_to_the_second, done_twice, second_while_under_way, second_in_the_same_frame, swapped_commands, command_after_close, command_again_after_reopening, command_after_stop, ring_in_the_answer, ring_twice, echo_in_the_answer, late_ua_opens, late_ua_data, data_while_stopped_by_all, data_while_stopped, rest_while_stopped, ok_before_whole, ok_before_whole_at_once, opened_before_msc, test_answered_otherwise, nsc_to_a_response, shut_told_when_all_close, told_out_of_order, give_up_early, sabm_at_tick_four, probe_up_early, probe_of_other_data, sent_after_loss, data_after_loss, closed_for_lost, stopped_at_a_tick, stopped_early, invented_busy, invented_notopen, ua_to_sabm, dm_to_disc, closing_done_by_disc, wrong_cr, empty_data, data_past_n1, told_before_sent, held_before_msc, freed_with_stop, refused_without_answer, stopped_without_answer, shut_without_answer, held_zero, held_twice, held_shut, given_from_nothing, data_overtakes, taken_too_early, tick_too_early, freed_first, freed_after_reopening, told_early, told_another, data_before_opening, answer_of_another_connection, heard_as_another_kind, heard_elsewhere, ring_dropped, msc_missing, test_unanswered, closed_not_told, give_up_not_told, no_repeat, loss_not_told, not_sent, half_sent}
use Rattle.modem_history.proofs.rows.HistoryTests.{refused, incomplete, unquiet}

answer_to_the_second_refused : IsRefused answer_to_the_second
answer_to_the_second_refused = refused (replaying 31) (after [] answer_to_the_second) refl

done_twice_refused : IsRefused done_twice
done_twice_refused = refused (replaying 31) (after [] done_twice) refl

second_while_under_way_refused : IsRefused second_while_under_way
second_while_under_way_refused = refused (replaying 31) (after [] second_while_under_way) refl

second_in_the_same_frame_refused : IsRefused second_in_the_same_frame
second_in_the_same_frame_refused = refused (replaying 31) (after [] second_in_the_same_frame) refl

swapped_commands_refused : IsRefused swapped_commands
swapped_commands_refused = refused (replaying 31) (after [] swapped_commands) refl

command_after_close_refused : IsRefused command_after_close
command_after_close_refused = refused (replaying 31) (after [] command_after_close) refl

command_again_after_reopening_refused : IsRefused command_again_after_reopening
command_again_after_reopening_refused = refused (replaying 31) (after [] command_again_after_reopening) refl

command_after_stop_refused : IsRefused command_after_stop
command_after_stop_refused = refused (replaying 31) (after [] command_after_stop) refl

ring_in_the_answer_refused : IsRefused ring_in_the_answer
ring_in_the_answer_refused = refused (replaying 31) (after [] ring_in_the_answer) refl

ring_twice_refused : IsRefused ring_twice
ring_twice_refused = refused (replaying 31) (after [] ring_twice) refl

echo_in_the_answer_refused : IsRefused echo_in_the_answer
echo_in_the_answer_refused = refused (replaying 31) (after [] echo_in_the_answer) refl

late_ua_opens_refused : IsRefused late_ua_opens
late_ua_opens_refused = refused (replaying 31) (after [] late_ua_opens) refl

late_ua_data_refused : IsRefused late_ua_data
late_ua_data_refused = refused (replaying 31) (after [] late_ua_data) refl

data_while_stopped_by_all_refused : IsRefused data_while_stopped_by_all
data_while_stopped_by_all_refused = refused (replaying 31) (after [] data_while_stopped_by_all) refl

data_while_stopped_refused : IsRefused data_while_stopped
data_while_stopped_refused = refused (replaying 31) (after [] data_while_stopped) refl

rest_while_stopped_refused : IsRefused rest_while_stopped
rest_while_stopped_refused = refused (replaying 31) (after [] rest_while_stopped) refl

ok_before_whole_refused : IsRefused ok_before_whole
ok_before_whole_refused = refused (replaying 31) (after [] ok_before_whole) refl

ok_before_whole_at_once_refused : IsRefused ok_before_whole_at_once
ok_before_whole_at_once_refused = refused (replaying 31) (after [] ok_before_whole_at_once) refl

opened_before_msc_refused : IsRefused opened_before_msc
opened_before_msc_refused = refused (replaying 31) (after [] opened_before_msc) refl

test_answered_otherwise_refused : IsRefused test_answered_otherwise
test_answered_otherwise_refused = refused (replaying 31) (after [] test_answered_otherwise) refl

nsc_to_a_response_refused : IsRefused nsc_to_a_response
nsc_to_a_response_refused = refused (replaying 31) (after [] nsc_to_a_response) refl

shut_told_when_all_close_refused : IsRefused shut_told_when_all_close
shut_told_when_all_close_refused = refused (replaying 31) (after [] shut_told_when_all_close) refl

told_out_of_order_refused : IsRefused told_out_of_order
told_out_of_order_refused = refused (replaying 31) (after [] told_out_of_order) refl

give_up_early_refused : IsRefused give_up_early
give_up_early_refused = refused (replaying 31) (after [] give_up_early) refl

sabm_at_tick_four_refused : IsRefused sabm_at_tick_four
sabm_at_tick_four_refused = refused (replaying 31) (after [] sabm_at_tick_four) refl

probe_up_early_refused : IsRefused probe_up_early
probe_up_early_refused = refused (replaying 31) (after [] probe_up_early) refl

probe_of_other_data_refused : IsRefused probe_of_other_data
probe_of_other_data_refused = refused (replaying 31) (after [] probe_of_other_data) refl

sent_after_loss_refused : IsRefused sent_after_loss
sent_after_loss_refused = refused (replaying 31) (after [] sent_after_loss) refl

data_after_loss_refused : IsRefused data_after_loss
data_after_loss_refused = refused (replaying 31) (after [] data_after_loss) refl

closed_for_lost_refused : IsRefused closed_for_lost
closed_for_lost_refused = refused (replaying 31) (after [] closed_for_lost) refl

stopped_at_a_tick_refused : IsRefused stopped_at_a_tick
stopped_at_a_tick_refused = refused (replaying 31) (after [] stopped_at_a_tick) refl

stopped_early_refused : IsRefused stopped_early
stopped_early_refused = refused (replaying 31) (after [] stopped_early) refl

invented_busy_refused : IsRefused invented_busy
invented_busy_refused = refused (replaying 31) (after [] invented_busy) refl

invented_notopen_refused : IsRefused invented_notopen
invented_notopen_refused = refused (replaying 31) (after [] invented_notopen) refl

ua_to_sabm_refused : IsRefused ua_to_sabm
ua_to_sabm_refused = refused (replaying 31) (after [] ua_to_sabm) refl

dm_to_disc_refused : IsRefused dm_to_disc
dm_to_disc_refused = refused (replaying 31) (after [] dm_to_disc) refl

closing_done_by_disc_refused : IsRefused closing_done_by_disc
closing_done_by_disc_refused = refused (replaying 31) (after [] closing_done_by_disc) refl

wrong_cr_refused : IsRefused wrong_cr
wrong_cr_refused = refused (replaying 31) (after [] wrong_cr) refl

empty_data_refused : IsRefused empty_data
empty_data_refused = refused (replaying 31) (after [] empty_data) refl

data_past_n1_refused : IsRefused data_past_n1
data_past_n1_refused = refused (replaying 31) (after [] data_past_n1) refl

told_before_sent_refused : IsRefused told_before_sent
told_before_sent_refused = refused (replaying 31) (after [] told_before_sent) refl

held_before_msc_refused : IsRefused held_before_msc
held_before_msc_refused = refused (replaying 31) (after [] held_before_msc) refl

freed_with_stop_refused : IsRefused freed_with_stop
freed_with_stop_refused = refused (replaying 31) (after [] freed_with_stop) refl

refused_without_answer_refused : IsRefused refused_without_answer
refused_without_answer_refused = refused (replaying 31) (after [] refused_without_answer) refl

stopped_without_answer_refused : IsRefused stopped_without_answer
stopped_without_answer_refused = refused (replaying 31) (after [] stopped_without_answer) refl

shut_without_answer_refused : IsRefused shut_without_answer
shut_without_answer_refused = refused (replaying 31) (after [] shut_without_answer) refl

held_zero_refused : IsRefused held_zero
held_zero_refused = refused (replaying 31) (after [] held_zero) refl

held_twice_refused : IsRefused held_twice
held_twice_refused = refused (replaying 31) (after [] held_twice) refl

held_shut_refused : IsRefused held_shut
held_shut_refused = refused (replaying 31) (after [] held_shut) refl

given_from_nothing_refused : IsRefused given_from_nothing
given_from_nothing_refused = refused (replaying 31) (after [] given_from_nothing) refl

data_overtakes_refused : IsRefused data_overtakes
data_overtakes_refused = refused (replaying 31) (after [] data_overtakes) refl

taken_too_early_refused : IsRefused taken_too_early
taken_too_early_refused = refused (replaying 31) (after [] taken_too_early) refl

tick_too_early_refused : IsRefused tick_too_early
tick_too_early_refused = refused (replaying 31) (after [] tick_too_early) refl

freed_first_refused : IsRefused freed_first
freed_first_refused = refused (replaying 31) (after [] freed_first) refl

freed_after_reopening_refused : IsRefused freed_after_reopening
freed_after_reopening_refused = refused (replaying 31) (after [] freed_after_reopening) refl

told_early_refused : IsRefused told_early
told_early_refused = refused (replaying 31) (after [] told_early) refl

told_another_refused : IsRefused told_another
told_another_refused = refused (replaying 31) (after [] told_another) refl

data_before_opening_refused : IsRefused data_before_opening
data_before_opening_refused = refused (replaying 31) (after [] data_before_opening) refl

answer_of_another_connection_refused : IsRefused answer_of_another_connection
answer_of_another_connection_refused = refused (replaying 31) (after [] answer_of_another_connection) refl

heard_as_another_kind_refused : IsRefused heard_as_another_kind
heard_as_another_kind_refused = refused (replaying 31) (after [] heard_as_another_kind) refl

heard_elsewhere_refused : IsRefused heard_elsewhere
heard_elsewhere_refused = refused (replaying 31) (after [] heard_elsewhere) refl

ring_dropped_incomplete : IsIncomplete ring_dropped
ring_dropped_incomplete = incomplete (replaying 31) (after [] ring_dropped) refl

msc_missing_incomplete : IsIncomplete msc_missing
msc_missing_incomplete = incomplete (replaying 31) (after [] msc_missing) refl

test_unanswered_incomplete : IsIncomplete test_unanswered
test_unanswered_incomplete = incomplete (replaying 31) (after [] test_unanswered) refl

closed_not_told_incomplete : IsIncomplete closed_not_told
closed_not_told_incomplete = incomplete (replaying 31) (after [] closed_not_told) refl

give_up_not_told_incomplete : IsIncomplete give_up_not_told
give_up_not_told_incomplete = incomplete (replaying 31) (after [] give_up_not_told) refl

no_repeat_incomplete : IsIncomplete no_repeat
no_repeat_incomplete = incomplete (replaying 31) (after [] no_repeat) refl

loss_not_told_incomplete : IsIncomplete loss_not_told
loss_not_told_incomplete = incomplete (replaying 31) (after [] loss_not_told) refl

not_sent_unquiet : IsUnquiet not_sent
not_sent_unquiet = unquiet (replaying 31) (after [] not_sent) 1 (lit< tt) refl

half_sent_unquiet : IsUnquiet half_sent
half_sent_unquiet = unquiet (replaying 31) (after [] half_sent) 1 (lit< tt) refl

-- no refused one is lawful
pub all_refused : AllAre IsRefused refused_rows
all_refused = (
  answer_to_the_second_refused,
  (
    done_twice_refused,
    (
      second_while_under_way_refused,
      (
        second_in_the_same_frame_refused,
        (
          swapped_commands_refused,
          (
            command_after_close_refused,
            (
              command_again_after_reopening_refused,
              (
                command_after_stop_refused,
                (
                  ring_in_the_answer_refused,
                  (
                    ring_twice_refused,
                    (
                      echo_in_the_answer_refused,
                      (
                        late_ua_opens_refused,
                        (
                          late_ua_data_refused,
                          (
                            data_while_stopped_by_all_refused,
                            (
                              data_while_stopped_refused,
                              (
                                rest_while_stopped_refused,
                                (
                                  ok_before_whole_refused,
                                  (
                                    ok_before_whole_at_once_refused,
                                    (
                                      opened_before_msc_refused,
                                      (
                                        test_answered_otherwise_refused,
                                        (
                                          nsc_to_a_response_refused,
                                          (
                                            shut_told_when_all_close_refused,
                                            (
                                              told_out_of_order_refused,
                                              (
                                                give_up_early_refused,
                                                (
                                                  sabm_at_tick_four_refused,
                                                  (
                                                    probe_up_early_refused,
                                                    (
                                                      probe_of_other_data_refused,
                                                      (
                                                        sent_after_loss_refused,
                                                        (
                                                          data_after_loss_refused,
                                                          (
                                                            closed_for_lost_refused,
                                                            (
                                                              stopped_at_a_tick_refused,
                                                              (
                                                                stopped_early_refused,
                                                                (
                                                                  invented_busy_refused,
                                                                  (
                                                                    invented_notopen_refused,
                                                                    (
                                                                      ua_to_sabm_refused,
                                                                      (
                                                                        dm_to_disc_refused,
                                                                        (
                                                                          closing_done_by_disc_refused,
                                                                          (
                                                                            wrong_cr_refused,
                                                                            (
                                                                              empty_data_refused,
                                                                              (
                                                                                data_past_n1_refused,
                                                                                (
                                                                                  told_before_sent_refused,
                                                                                  (
                                                                                    held_before_msc_refused,
                                                                                    (
                                                                                      freed_with_stop_refused,
                                                                                      (
                                                                                        refused_without_answer_refused,
                                                                                        (
                                                                                          stopped_without_answer_refused,
                                                                                          (
                                                                                            shut_without_answer_refused,
                                                                                            (
                                                                                              held_zero_refused,
                                                                                              (
                                                                                                held_twice_refused,
                                                                                                (
                                                                                                  held_shut_refused,
                                                                                                  (
                                                                                                    given_from_nothing_refused,
                                                                                                    (
                                                                                                      data_overtakes_refused,
                                                                                                      (
                                                                                                        taken_too_early_refused,
                                                                                                        (
                                                                                                          tick_too_early_refused,
                                                                                                          (
                                                                                                            freed_first_refused,
                                                                                                            (
                                                                                                              freed_after_reopening_refused,
                                                                                                              (
                                                                                                                told_early_refused,
                                                                                                                (
                                                                                                                  told_another_refused,
                                                                                                                  (
                                                                                                                    data_before_opening_refused,
                                                                                                                    (
                                                                                                                      answer_of_another_connection_refused,
                                                                                                                      (
                                                                                                                        heard_as_another_kind_refused,
                                                                                                                        (heard_elsewhere_refused, tt),
                                                                                                                      ),
                                                                                                                    ),
                                                                                                                  ),
                                                                                                                ),
                                                                                                              ),
                                                                                                            ),
                                                                                                          ),
                                                                                                        ),
                                                                                                      ),
                                                                                                    ),
                                                                                                  ),
                                                                                                ),
                                                                                              ),
                                                                                            ),
                                                                                          ),
                                                                                        ),
                                                                                      ),
                                                                                    ),
                                                                                  ),
                                                                                ),
                                                                              ),
                                                                            ),
                                                                          ),
                                                                        ),
                                                                      ),
                                                                    ),
                                                                  ),
                                                                ),
                                                              ),
                                                            ),
                                                          ),
                                                        ),
                                                      ),
                                                    ),
                                                  ),
                                                ),
                                              ),
                                            ),
                                          ),
                                        ),
                                      ),
                                    ),
                                  ),
                                ),
                              ),
                            ),
                          ),
                        ),
                      ),
                    ),
                  ),
                ),
              ),
            ),
          ),
        ),
      ),
    ),
  ),
)

-- no incomplete one is complete
pub all_incomplete : AllAre IsIncomplete incomplete_rows
all_incomplete = (
  ring_dropped_incomplete,
  (
    msc_missing_incomplete,
    (
      test_unanswered_incomplete,
      (
        closed_not_told_incomplete,
        (
          give_up_not_told_incomplete,
          (
            no_repeat_incomplete,
            (loss_not_told_incomplete, tt),
          ),
        ),
      ),
    ),
  ),
)

-- no unquiet one is quiet
pub all_unquiet : AllAre IsUnquiet unquiet_rows
all_unquiet =
    (not_sent_unquiet, (half_sent_unquiet, tt))

-- two commands of one text are two
pub not_its_own : NotItsOwn
not_its_own info ls own = let e : false ≡ true = own.was_open in cc
