-- The rows of good histories, computed.
use Rattle.std.specs.Prelude.{refl}
use Rattle.modem_history.specs.Calls.{replaying}
use Rattle.modem_history.specs.Rows.{IsGood, AllAre}
use Rattle.modem_history.specs.GoodRows.{good_rows, csq, open_zero, open_refused, ring_inside, creg_both, early_ok, echo_once, stopped_midway_stopped, stopped_midway, stop_of_all_and_probe, unsupported_command, test_command, probe_unanswered, probe_refused, response_is_no_stop, close_gives_up, close_drops, give_up, modem_closes, modem_opens, stop_and_loss, last_connection, loss_tells, stop_gives_up, stop_ended_by_dm, stops_cross, zero_closed, zero_disc, turns, stop_forgotten, line_before_window, lines_after_final, closing_disc, busy_states, shut_frames, held_and_freed}
use Rattle.modem_history.proofs.rows.HistoryTests.{good}

csq_good : IsGood csq
csq_good = good (replaying 31) csq refl refl refl

open_zero_good : IsGood open_zero
open_zero_good = good (replaying 31) open_zero refl refl refl

open_refused_good : IsGood open_refused
open_refused_good = good (replaying 31) open_refused refl refl refl

ring_inside_good : IsGood ring_inside
ring_inside_good = good (replaying 31) ring_inside refl refl refl

creg_both_good : IsGood creg_both
creg_both_good = good (replaying 31) creg_both refl refl refl

early_ok_good : IsGood early_ok
early_ok_good = good (replaying 31) early_ok refl refl refl

echo_once_good : IsGood echo_once
echo_once_good = good (replaying 31) echo_once refl refl refl

stopped_midway_stopped_good : IsGood stopped_midway_stopped
stopped_midway_stopped_good = good (replaying 31) stopped_midway_stopped refl refl refl

stopped_midway_good : IsGood stopped_midway
stopped_midway_good = good (replaying 31) stopped_midway refl refl refl

stop_of_all_and_probe_good : IsGood stop_of_all_and_probe
stop_of_all_and_probe_good = good (replaying 31) stop_of_all_and_probe refl refl refl

unsupported_command_good : IsGood unsupported_command
unsupported_command_good = good (replaying 31) unsupported_command refl refl refl

test_command_good : IsGood test_command
test_command_good = good (replaying 31) test_command refl refl refl

probe_unanswered_good : IsGood probe_unanswered
probe_unanswered_good = good (replaying 31) probe_unanswered refl refl refl

probe_refused_good : IsGood probe_refused
probe_refused_good = good (replaying 31) probe_refused refl refl refl

response_is_no_stop_good : IsGood response_is_no_stop
response_is_no_stop_good = good (replaying 31) response_is_no_stop refl refl refl

close_gives_up_good : IsGood close_gives_up
close_gives_up_good = good (replaying 31) close_gives_up refl refl refl

close_drops_good : IsGood close_drops
close_drops_good = good (replaying 31) close_drops refl refl refl

give_up_good : IsGood give_up
give_up_good = good (replaying 31) give_up refl refl refl

modem_closes_good : IsGood modem_closes
modem_closes_good = good (replaying 31) modem_closes refl refl refl

modem_opens_good : IsGood modem_opens
modem_opens_good = good (replaying 31) modem_opens refl refl refl

stop_and_loss_good : IsGood stop_and_loss
stop_and_loss_good = good (replaying 31) stop_and_loss refl refl refl

last_connection_good : IsGood last_connection
last_connection_good = good (replaying 31) last_connection refl refl refl

loss_tells_good : IsGood loss_tells
loss_tells_good = good (replaying 31) loss_tells refl refl refl

stop_gives_up_good : IsGood stop_gives_up
stop_gives_up_good = good (replaying 31) stop_gives_up refl refl refl

stop_ended_by_dm_good : IsGood stop_ended_by_dm
stop_ended_by_dm_good = good (replaying 31) stop_ended_by_dm refl refl refl

stops_cross_good : IsGood stops_cross
stops_cross_good = good (replaying 31) stops_cross refl refl refl

zero_closed_good : IsGood zero_closed
zero_closed_good = good (replaying 31) zero_closed refl refl refl

zero_disc_good : IsGood zero_disc
zero_disc_good = good (replaying 31) zero_disc refl refl refl

turns_good : IsGood turns
turns_good = good (replaying 31) turns refl refl refl

stop_forgotten_good : IsGood stop_forgotten
stop_forgotten_good = good (replaying 31) stop_forgotten refl refl refl

line_before_window_good : IsGood line_before_window
line_before_window_good = good (replaying 31) line_before_window refl refl refl

lines_after_final_good : IsGood lines_after_final
lines_after_final_good = good (replaying 31) lines_after_final refl refl refl

closing_disc_good : IsGood closing_disc
closing_disc_good = good (replaying 31) closing_disc refl refl refl

busy_states_good : IsGood busy_states
busy_states_good = good (replaying 31) busy_states refl refl refl

shut_frames_good : IsGood shut_frames
shut_frames_good = good (replaying 31) shut_frames refl refl refl

held_and_freed_good : IsGood held_and_freed
held_and_freed_good = good (replaying 31) held_and_freed refl refl refl

-- each good history is lawful, complete and quiet
pub all_good : AllAre IsGood good_rows
all_good = (
  csq_good,
  (
    open_zero_good,
    (
      open_refused_good,
      (
        ring_inside_good,
        (
          creg_both_good,
          (
            early_ok_good,
            (
              echo_once_good,
              (
                stopped_midway_stopped_good,
                (
                  stopped_midway_good,
                  (
                    stop_of_all_and_probe_good,
                    (
                      unsupported_command_good,
                      (
                        test_command_good,
                        (
                          probe_unanswered_good,
                          (
                            probe_refused_good,
                            (
                              response_is_no_stop_good,
                              (
                                close_gives_up_good,
                                (
                                  close_drops_good,
                                  (
                                    give_up_good,
                                    (
                                      modem_closes_good,
                                      (
                                        modem_opens_good,
                                        (
                                          stop_and_loss_good,
                                          (
                                            last_connection_good,
                                            (
                                              loss_tells_good,
                                              (
                                                stop_gives_up_good,
                                                (
                                                  stop_ended_by_dm_good,
                                                  (
                                                    stops_cross_good,
                                                    (
                                                      zero_closed_good,
                                                      (
                                                        zero_disc_good,
                                                        (
                                                          turns_good,
                                                          (
                                                            stop_forgotten_good,
                                                            (
                                                              line_before_window_good,
                                                              (
                                                                lines_after_final_good,
                                                                (
                                                                  closing_disc_good,
                                                                  (busy_states_good, (shut_frames_good, (held_and_freed_good, tt))),
                                                                ),
                                                              ),
                                                            ),
                                                          ),
                                                        ),
                                                      ),
                                                    ),
                                                  ),
                                                ),
                                              ),
                                            ),
                                          ),
                                        ),
                                      ),
                                    ),
                                  ),
                                ),
                              ),
                            ),
                          ),
                        ),
                      ),
                    ),
                  ),
                ),
              ),
            ),
          ),
        ),
      ),
    ),
  ),
)
