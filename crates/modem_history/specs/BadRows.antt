-- Histories that a bad driver would make.
use Rattle.std.specs.Prelude.{ℕ, List, [], ◌∷◌, ◌++◌, codes}
use Rattle.mux_frame.specs.declared.frame.Kind.TheVariants.{Sabm, Ua, Dm, Disc, Uih}
use Rattle.mux_station.specs.declared.role.Role.TheVariants.{Responder}
use Rattle.mux_station.specs.Written.{written}
use Rattle.at_text.specs.declared.answer.AnswerLine.{AnswerLine}
use Rattle.at_text.specs.declared.unsolicited.UrcKind.TheVariants.{Ring, Other}
use Rattle.modem_desk.specs.declared.request.Ask.TheVariants.{OpenChannel, CloseChannel, Command, Probe, Stop}
use Rattle.modem_desk.specs.declared.request.Answer.TheVariants.{Opened, Shut, ProbeBack, Stopped, NotOpen, Refused, NoAnswer, Closed, LineLost, Busy}
use Rattle.modem_history.specs.Acts.{Act, after, Sent, Heard, Tick, Lost, Held, Freed, Given}
use Rattle.modem_history.specs.Calls.{replaying}
use Rattle.modem_history.specs.Wholes.{IsOwnAnswer}
use Rattle.modem_history.specs.Rows.{asks, zero, one, two, takes, tells, tells_done, sends, comes, msc_command, msc_response, fcoff_command, fcoff_response, fcon_command, fcon_response, cld_command, cld_response, cr, framed, opening_zero, opening_one}

-- the answer is told to the request taken after
abbrev pub answer_to_the_second : List Act
answer_to_the_second =
    opening_one ++ takes 3 (Command one (codes "AT+CSQ")) ∷ sends Uih 1 (codes "AT+CSQ" ++ cr) ∷
    takes 4 (Command one (codes "AT")) ∷ comes Uih 1 (framed (codes "OK")) ∷
    tells_done 4 (codes "OK" ∷ []) ∷ []

-- an outcome twice
abbrev pub done_twice : List Act
done_twice =
    opening_one ++ takes 3 (Command one (codes "AT+CSQ")) ∷ sends Uih 1 (codes "AT+CSQ" ++ cr) ∷
    takes 4 (Command one (codes "AT")) ∷ comes Uih 1 (framed (codes "OK")) ∷
    tells_done 3 (codes "OK" ∷ []) ∷ tells_done 3 (codes "OK" ∷ []) ∷ []

-- a second command while one is under way
abbrev pub second_while_under_way : List Act
second_while_under_way =
    opening_one ++ takes 3 (Command one (codes "AT+CSQ")) ∷ sends Uih 1 (codes "AT+CSQ" ++ cr) ∷
    takes 4 (Command one (codes "AT")) ∷ sends Uih 1 (codes "AT" ++ cr) ∷ []

-- two commands in one frame
abbrev pub second_in_the_same_frame : List Act
second_in_the_same_frame =
    opening_one ++ comes Uih 0 fcoff_command ∷ sends Uih 0 fcoff_response ∷ Given ∷
    takes 3 (Command one (codes "AT")) ∷ takes 4 (Command one (codes "ATX")) ∷ comes Uih 0 fcon_command ∷
    sends Uih 0 fcon_response ∷ Given ∷ sends Uih 1 (codes "AT" ++ cr ++ codes "ATX" ++ cr) ∷ []

-- the second command first
abbrev pub swapped_commands : List Act
swapped_commands =
    opening_one ++ comes Uih 0 fcoff_command ∷ sends Uih 0 fcoff_response ∷ Given ∷
    takes 3 (Command one (codes "AT")) ∷ takes 4 (Command one (codes "ATX")) ∷ comes Uih 0 fcon_command ∷
    sends Uih 0 fcon_response ∷ Given ∷ sends Uih 1 (codes "ATX" ++ cr) ∷ []

-- the rest of a queue after DISC
abbrev pub command_after_close : List Act
command_after_close =
    opening_one ++ takes 3 (Command one (codes "AT+CSQ")) ∷ sends Uih 1 (codes "AT+CSQ" ++ cr) ∷
    takes 4 (Command one (codes "AT")) ∷ takes 5 (CloseChannel one) ∷ sends Disc 1 [] ∷ tells 3 Closed ∷
    tells 4 Closed ∷ Given ∷ sends Uih 1 (codes "AT" ++ cr) ∷ []

-- a command again after a reopening
abbrev pub command_again_after_reopening : List Act
command_again_after_reopening =
    opening_one ++ takes 3 (Command one (codes "AT+CSQ")) ∷ sends Uih 1 (codes "AT+CSQ" ++ cr) ∷
    takes 4 (CloseChannel one) ∷ sends Disc 1 [] ∷ tells 3 Closed ∷ Given ∷ comes Ua 1 [] ∷ tells 4 Shut ∷
    takes 5 (OpenChannel one) ∷ sends Sabm 1 [] ∷ Given ∷ comes Ua 1 [] ∷ sends Uih 0 (msc_command 1 0x8d) ∷
    tells 5 Opened ∷ Given ∷ sends Uih 1 (codes "AT+CSQ" ++ cr) ∷ []

-- a command after CLD
abbrev pub command_after_stop : List Act
command_after_stop =
    opening_one ++ comes Uih 0 fcoff_command ∷ sends Uih 0 fcoff_response ∷ Given ∷
    takes 3 (Command one (codes "AT+CSQ")) ∷ takes 4 Stop ∷ sends Uih 0 cld_command ∷ tells 3 Closed ∷ Given ∷
    sends Uih 1 (codes "AT+CSQ" ++ cr) ∷ []

-- an unsolicited line in the answer
abbrev pub ring_in_the_answer : List Act
ring_in_the_answer =
    opening_one ++ takes 3 (Command one (codes "AT+CSQ")) ∷ sends Uih 1 (codes "AT+CSQ" ++ cr) ∷
    comes Uih 1 (framed (codes "RING")) ∷ Heard Ring 1 (codes "RING") ∷ comes Uih 1 (framed (codes "OK")) ∷
    tells_done 3 (codes "RING" ∷ codes "OK" ∷ []) ∷ []

-- a line heard twice
abbrev pub ring_twice : List Act
ring_twice =
    opening_one ++ comes Uih 1 (framed (codes "RING")) ∷ Heard Ring 1 (codes "RING") ∷
    Heard Ring 1 (codes "RING") ∷ []

-- the echo in the answer
abbrev pub echo_in_the_answer : List Act
echo_in_the_answer =
    opening_one ++ takes 3 (Command one (codes "AT+CSQ")) ∷ sends Uih 1 (codes "AT+CSQ" ++ cr) ∷
    comes Uih 1 (codes "AT+CSQ" ++ cr ++ framed (codes "OK")) ∷
    tells_done 3 (codes "AT+CSQ" ∷ codes "OK" ∷ []) ∷ []

-- a late UA answered by MSC
abbrev pub late_ua_opens : List Act
late_ua_opens =
    opening_zero ++ takes 2 (OpenChannel one) ∷ sends Sabm 1 [] ∷ Given ∷ Tick ∷ sends Sabm 1 [] ∷ Given ∷
    Tick ∷ sends Sabm 1 [] ∷ Given ∷ Tick ∷ sends Sabm 1 [] ∷ Given ∷ Tick ∷ sends Disc 1 [] ∷
    tells 2 NoAnswer ∷ Given ∷ comes Ua 1 [] ∷ sends Uih 0 (msc_command 1 0x8d) ∷ []

-- data after a late UA
abbrev pub late_ua_data : List Act
late_ua_data =
    opening_zero ++ takes 2 (OpenChannel one) ∷ sends Sabm 1 [] ∷ Given ∷ Tick ∷ sends Sabm 1 [] ∷ Given ∷
    Tick ∷ sends Sabm 1 [] ∷ Given ∷ Tick ∷ sends Sabm 1 [] ∷ Given ∷ Tick ∷ sends Disc 1 [] ∷
    tells 2 NoAnswer ∷ Given ∷ comes Ua 1 [] ∷ takes 3 (Command one (codes "AT")) ∷ tells 3 NotOpen ∷
    sends Uih 1 (codes "AT" ++ cr) ∷ []

-- data while FCoff stands
abbrev pub data_while_stopped_by_all : List Act
data_while_stopped_by_all =
    opening_one ++ comes Uih 0 fcoff_command ∷ sends Uih 0 fcoff_response ∷ Given ∷
    takes 3 (Command one (codes "AT+CSQ")) ∷ sends Uih 1 (codes "AT+CSQ" ++ cr) ∷ []

-- data while MSC with FC 1 stands
abbrev pub data_while_stopped : List Act
data_while_stopped =
    opening_one ++ comes Uih 0 (msc_command 1 0x8f) ∷ sends Uih 0 (msc_response 1 0x8f) ∷ Given ∷
    takes 3 (Command one (codes "AT+CSQ")) ∷ sends Uih 1 (codes "AT+CSQ" ++ cr) ∷ []

-- the rest of a started command while stopped
abbrev pub rest_while_stopped : List Act
rest_while_stopped =
    opening_one ++ takes 3 (Command one (codes "AT+CGDCONT=1,\"IP\",\"internet.example\"")) ∷
    sends Uih 1 (codes "AT+CGDCONT=1,\"IP\",\"internet.exa") ∷ comes Uih 0 (msc_command 1 0xf) ∷
    sends Uih 0 (msc_response 1 0xf) ∷ sends Uih 1 (codes "mple\"" ++ cr) ∷ []

-- an answer whose final code came before the command was wholly sent
abbrev pub ok_before_whole : List Act
ok_before_whole =
    opening_one ++ takes 3 (Command one (codes "AT+CGDCONT=1,\"IP\",\"internet.example\"")) ∷
    sends Uih 1 (codes "AT+CGDCONT=1,\"IP\",\"internet.exa") ∷ comes Uih 1 (framed (codes "OK")) ∷
    Heard Other 1 (codes "OK") ∷ sends Uih 1 (codes "mple\"" ++ cr) ∷ tells_done 3 (codes "OK" ∷ []) ∷ []

-- the same, told at once
abbrev pub ok_before_whole_at_once : List Act
ok_before_whole_at_once =
    opening_one ++ takes 3 (Command one (codes "AT+CGDCONT=1,\"IP\",\"internet.example\"")) ∷
    sends Uih 1 (codes "AT+CGDCONT=1,\"IP\",\"internet.exa") ∷ comes Uih 1 (framed (codes "OK")) ∷
    tells_done 3 (codes "OK" ∷ []) ∷ []

-- Opened told before the MSC of the opening
abbrev pub opened_before_msc : List Act
opened_before_msc =
    opening_zero ++ takes 2 (OpenChannel one) ∷ sends Sabm 1 [] ∷ Given ∷ comes Ua 1 [] ∷ tells 2 Opened ∷
    []

-- a Test answered with another value
abbrev pub test_answered_otherwise : List Act
test_answered_otherwise =
    opening_one ++ comes Uih 0 (0x23 ∷ 5 ∷ 0x41 ∷ 0x42 ∷ []) ∷ sends Uih 0 (0x21 ∷ 3 ∷ 0x41 ∷ []) ∷ []

-- NSC to a response
abbrev pub nsc_to_a_response : List Act
nsc_to_a_response =
    opening_one ++ comes Uih 0 (0x81 ∷ 1 ∷ []) ∷ sends Uih 0 (0x11 ∷ 3 ∷ 0x81 ∷ []) ∷ []

-- Shut told where 0 closed
abbrev pub shut_told_when_all_close : List Act
shut_told_when_all_close =
    opening_one ++ takes 3 (CloseChannel one) ∷ sends Disc 1 [] ∷ Given ∷ comes Dm 0 [] ∷ tells 3 Shut ∷ []

-- told in another order than taken
abbrev pub told_out_of_order : List Act
told_out_of_order =
    opening_one ++ takes 3 (Command one (codes "AT+CSQ")) ∷ sends Uih 1 (codes "AT+CSQ" ++ cr) ∷
    takes 4 (Command one (codes "AT")) ∷ comes Dm 0 [] ∷ tells 4 Closed ∷ []

-- NoAnswer told at tick 3
abbrev pub give_up_early : List Act
give_up_early =
    opening_one ++ takes 3 (CloseChannel one) ∷ sends Disc 1 [] ∷ Given ∷ Tick ∷ sends Disc 1 [] ∷ Given ∷
    Tick ∷ sends Disc 1 [] ∷ Given ∷ Tick ∷ sends Disc 1 [] ∷ tells 3 NoAnswer ∷ []

-- SABM again at tick 4
abbrev pub sabm_at_tick_four : List Act
sabm_at_tick_four =
    opening_zero ++ takes 2 (OpenChannel one) ∷ sends Sabm 1 [] ∷ Given ∷ Tick ∷ sends Sabm 1 [] ∷ Given ∷
    Tick ∷ sends Sabm 1 [] ∷ Given ∷ Tick ∷ sends Sabm 1 [] ∷ Given ∷ Tick ∷ sends Sabm 1 [] ∷ []

-- a probe given up at tick 3
abbrev pub probe_up_early : List Act
probe_up_early =
    opening_one ++ takes 3 (Probe (codes "A")) ∷ sends Uih 0 (0x23 ∷ 3 ∷ 0x41 ∷ []) ∷ Given ∷ Tick ∷ Tick ∷
    Tick ∷ tells 3 NoAnswer ∷ []

-- a probe back with other data
abbrev pub probe_of_other_data : List Act
probe_of_other_data =
    opening_one ++ takes 3 (Probe (codes "A")) ∷ sends Uih 0 (0x23 ∷ 3 ∷ 0x41 ∷ []) ∷ Given ∷
    comes Uih 0 (0x21 ∷ 3 ∷ 0x42 ∷ []) ∷ tells 3 ProbeBack ∷ []

-- a frame after the loss
abbrev pub sent_after_loss : List Act
sent_after_loss =
    opening_one ++ Lost ∷ comes Disc 1 [] ∷ sends Dm 1 [] ∷ []

-- data after the loss
abbrev pub data_after_loss : List Act
data_after_loss =
    opening_one ++ takes 3 (Command one (codes "AT")) ∷ Lost ∷ tells 3 LineLost ∷
    sends Uih 1 (codes "AT" ++ cr) ∷ []

-- Closed told where the line is lost
abbrev pub closed_for_lost : List Act
closed_for_lost =
    opening_one ++ takes 3 (Command one (codes "AT+CSQ")) ∷ sends Uih 1 (codes "AT+CSQ" ++ cr) ∷ Lost ∷
    tells 3 Closed ∷ []

-- Stopped told where the stop is given up
abbrev pub stopped_at_a_tick : List Act
stopped_at_a_tick =
    opening_one ++ takes 3 Stop ∷ sends Uih 0 cld_command ∷ Given ∷ Tick ∷ Tick ∷ Tick ∷ Tick ∷
    tells 3 Stopped ∷
    []

-- Stopped told without its end
abbrev pub stopped_early : List Act
stopped_early =
    opening_one ++ takes 3 Stop ∷ sends Uih 0 cld_command ∷ Given ∷ comes Uih 0 (msc_response 1 0x8d) ∷
    tells 3 Stopped ∷ []

-- Busy told where there is room
abbrev pub invented_busy : List Act
invented_busy =
    opening_one ++ takes 3 (OpenChannel two) ∷ tells 3 Busy ∷ []

-- NotOpen told for a connection that is open
abbrev pub invented_notopen : List Act
invented_notopen =
    opening_one ++ takes 3 (Command one (codes "AT")) ∷ tells 3 NotOpen ∷ []

-- UA to a SABM by the initiator
abbrev pub ua_to_sabm : List Act
ua_to_sabm =
    opening_one ++ comes Sabm 1 [] ∷ sends Ua 1 [] ∷ []

-- DM to a DISC of an open connection
abbrev pub dm_to_disc : List Act
dm_to_disc =
    opening_one ++ comes Disc 1 [] ∷ sends Dm 1 [] ∷ []

-- a close done by a crossing DISC
abbrev pub closing_done_by_disc : List Act
closing_done_by_disc =
    opening_one ++ takes 3 (CloseChannel one) ∷ sends Disc 1 [] ∷ Given ∷ comes Disc 1 [] ∷ sends Dm 1 [] ∷
    tells 3 Shut ∷ []

-- data with C/R 0 from the initiator
abbrev pub wrong_cr : List Act
wrong_cr =
    opening_one ++ takes 3 (Command one (codes "AT")) ∷ Sent (written Responder Uih 1 (codes "AT" ++ cr)) ∷
    []

-- a data frame without octets
abbrev pub empty_data : List Act
empty_data =
    opening_one ++ takes 3 (Command one (codes "AT")) ∷ sends Uih 1 [] ∷ []

-- a data frame past N1
abbrev pub data_past_n1 : List Act
data_past_n1 =
    opening_one ++ takes 3 (Command one (codes "AT+CGDCONT=1,\"IP\",\"internet.example\"")) ∷
    sends Uih 1 (codes "AT+CGDCONT=1,\"IP\",\"internet.exam") ∷ []

-- a close told shut at once
abbrev pub told_before_sent : List Act
told_before_sent =
    opening_one ++ takes 3 (CloseChannel one) ∷ tells 3 Shut ∷ []

-- data before the MSC of a Held
abbrev pub held_before_msc : List Act
held_before_msc =
    opening_one ++ takes 3 (Command one (codes "AT")) ∷ Held 1 ∷ sends Uih 1 (codes "AT" ++ cr) ∷ []

-- FC 1 at a Freed
abbrev pub freed_with_stop : List Act
freed_with_stop =
    opening_one ++ Held 1 ∷ sends Uih 0 (msc_command 1 0x8f) ∷ Freed 1 ∷ sends Uih 0 (msc_command 1 0x8f) ∷ []

-- an opening is told Refused although nothing but junk came, since its SABM was still owed when that came
abbrev pub refused_without_answer : List Act
refused_without_answer =
    takes 1 (OpenChannel zero) ∷ comes Uih 5 [] ∷ sends Sabm 0 [] ∷ tells 1 Refused ∷ []

-- a stop is told Stopped although no CLD came
abbrev pub stopped_without_answer : List Act
stopped_without_answer =
    opening_one ++ takes 3 Stop ∷ comes Uih 5 [] ∷ sends Uih 0 cld_command ∷ tells 3 Stopped ∷ []

-- a close is told NoAnswer at the first tick
abbrev pub shut_without_answer : List Act
shut_without_answer =
    opening_one ++ takes 3 (CloseChannel one) ∷ Tick ∷ sends Disc 1 [] ∷ tells 3 NoAnswer ∷ []

-- the control channel is held: an MSC for connection 0
abbrev pub held_zero : List Act
held_zero =
    opening_one ++ Held 0 ∷ sends Uih 0 (msc_command 0 0x8f) ∷ []

-- held twice
abbrev pub held_twice : List Act
held_twice =
    opening_one ++ Held 1 ∷ sends Uih 0 (msc_command 1 0x8f) ∷ Held 1 ∷ sends Uih 0 (msc_command 1 0x8f) ∷ []

-- held and freed while it is shut
abbrev pub held_shut : List Act
held_shut =
    Held 5 ∷ Freed 5 ∷ Freed 5 ∷ []

-- frames given on from an empty queue
abbrev pub given_from_nothing : List Act
given_from_nothing =
    Given ∷ Given ∷ takes 1 (OpenChannel zero) ∷ sends Sabm 0 [] ∷ Given ∷ []

-- data leaves ahead of a control frame that waits
abbrev pub data_overtakes : List Act
data_overtakes =
    opening_one ++ comes Uih 0 fcon_command ∷ sends Uih 0 fcon_response ∷ takes 3 (Command one (codes "AT")) ∷
    sends Uih 1 (codes "AT" ++ cr) ∷ []

-- a request is taken before the SABM of the one before it is sent
abbrev pub taken_too_early : List Act
taken_too_early = takes 1 (OpenChannel zero) ∷ takes 2 (OpenChannel zero) ∷ []

-- a tick comes before the SABM of a request is sent
abbrev pub tick_too_early : List Act
tick_too_early = takes 1 (OpenChannel zero) ∷ Tick ∷ []

-- freed without having been held
abbrev pub freed_first : List Act
freed_first = opening_one ++ Freed 1 ∷ []

-- held, closed and opened anew, and then freed: a close forgets that it was held
abbrev pub freed_after_reopening : List Act
freed_after_reopening =
    opening_one ++ Held 1 ∷ sends Uih 0 (msc_command 1 0x8f) ∷ Given ∷ takes 3 (CloseChannel one) ∷
    sends Disc 1 [] ∷
    Given ∷ comes Ua 1 [] ∷ tells 3 Shut ∷ takes 4 (OpenChannel one) ∷ sends Sabm 1 [] ∷ Given ∷
    comes Ua 1 [] ∷ sends Uih 0 (msc_command 1 0x8d) ∷ tells 4 Opened ∷ Given ∷ Freed 1 ∷ []

-- an answer told before its final code
abbrev pub told_early : List Act
told_early =
    opening_one ++ takes 3 (Command one (codes "AT+CSQ")) ∷ sends Uih 1 (codes "AT+CSQ" ++ cr) ∷
    comes Uih 1 (framed (codes "+CSQ: 18,99")) ∷ tells_done 3 (codes "+CSQ: 18,99" ∷ []) ∷ []

-- a second outcome, where the first came late
abbrev pub told_another : List Act
told_another =
    takes 1 (OpenChannel zero) ∷ sends Sabm 0 [] ∷ Given ∷ comes Ua 0 [] ∷ comes Dm 0 [] ∷ tells 1 Opened ∷
    tells 1 Refused ∷ []

-- data on a connection that isn't open
abbrev pub data_before_opening : List Act
data_before_opening =
    opening_zero ++ takes 2 (Command one (codes "AT")) ∷ tells 2 NotOpen ∷ sends Uih 1 (codes "AT" ++ cr) ∷ []

-- a frame of another connection read as an answer
abbrev pub answer_of_another_connection : List Act
answer_of_another_connection =
    opening_one ++ takes 3 (OpenChannel two) ∷ sends Sabm 2 [] ∷ Given ∷ comes Ua 2 [] ∷
    sends Uih 0 (msc_command 2 0x8d) ∷ tells 3 Opened ∷ Given ∷ takes 4 (Command one (codes "AT+CSQ")) ∷
    sends Uih 1 (codes "AT+CSQ" ++ cr) ∷ comes Uih 2 (framed (codes "OK")) ∷
    tells_done 4 (codes "OK" ∷ []) ∷ []

-- a line of a kind that nobody knows heard as RING
abbrev pub heard_as_another_kind : List Act
heard_as_another_kind =
    opening_one ++ comes Uih 1 (framed (codes "HELLO")) ∷ Heard Ring 1 (codes "HELLO") ∷ []

-- a line heard on another connection
abbrev pub heard_elsewhere : List Act
heard_elsewhere = opening_one ++ comes Uih 1 (framed (codes "RING")) ∷ Heard Ring 2 (codes "RING") ∷ []

-- an unsolicited line dropped
abbrev pub ring_dropped : List Act
ring_dropped =
    opening_one ++ takes 3 (Command one (codes "AT+CSQ")) ∷ sends Uih 1 (codes "AT+CSQ" ++ cr) ∷
    comes Uih 1 (framed (codes "RING")) ∷ []

-- no MSC at an opening
abbrev pub msc_missing : List Act
msc_missing =
    opening_zero ++ takes 2 (OpenChannel one) ∷ sends Sabm 1 [] ∷ Given ∷ comes Ua 1 [] ∷ []

-- a Test command not answered
abbrev pub test_unanswered : List Act
test_unanswered =
    opening_one ++ comes Uih 0 (0x23 ∷ 5 ∷ 0x41 ∷ 0x42 ∷ []) ∷ []

-- Closed not told when 0 closes
abbrev pub closed_not_told : List Act
closed_not_told =
    opening_one ++ takes 3 (Command one (codes "AT+CSQ")) ∷ sends Uih 1 (codes "AT+CSQ" ++ cr) ∷
    comes Uih 0 cld_command ∷ sends Uih 0 cld_response ∷ []

-- NoAnswer not told at tick 4
abbrev pub give_up_not_told : List Act
give_up_not_told =
    opening_one ++ takes 3 (CloseChannel one) ∷ sends Disc 1 [] ∷ Given ∷ Tick ∷ sends Disc 1 [] ∷ Given ∷
    Tick ∷ sends Disc 1 [] ∷ Given ∷ Tick ∷ sends Disc 1 [] ∷ Given ∷ Tick ∷ []

-- no SABM at tick 1
abbrev pub no_repeat : List Act
no_repeat =
    opening_zero ++ takes 2 (OpenChannel one) ∷ sends Sabm 1 [] ∷ Given ∷ Tick ∷ []

-- LineLost not told
abbrev pub loss_not_told : List Act
loss_not_told =
    opening_one ++ takes 3 (Command one (codes "AT+CSQ")) ∷ sends Uih 1 (codes "AT+CSQ" ++ cr) ∷ Lost ∷ []

-- a command that could leave stays
abbrev pub not_sent : List Act
not_sent =
    opening_one ++ takes 3 (Command one (codes "AT")) ∷ []

-- the rest of a command that could leave stays
abbrev pub half_sent : List Act
half_sent =
    opening_one ++ takes 3 (Command one (codes "AT+CGDCONT=1,\"IP\",\"internet.example\"")) ∷
    sends Uih 1 (codes "AT+CGDCONT=1,\"IP\",\"internet.exa") ∷ []

-- two commands of one text: the first is answered, the second has not left
abbrev pub two_alike : List Act
two_alike =
    opening_one ++ takes 3 (Command one (codes "AT")) ∷ sends Uih 1 (codes "AT" ++ cr) ∷
    comes Uih 1 (codes "OK" ++ cr) ∷ tells_done 3 (codes "OK" ∷ []) ∷ takes 4 (Command one (codes "AT")) ∷
    []

-- whatever comes then, the answer of the first is not the second's own
abbrev pub NotItsOwn : Type 0
NotItsOwn =
    (info : List ℕ) (ls : List AnswerLine)
    → ¬ IsOwnAnswer (replaying 31) (after [] two_alike) (written Responder Uih 1 info)
    (asks 4 (Command one (codes "AT"))) ls

-- some act of each may not stand where it stands
abbrev pub refused_rows : List (List Act)
refused_rows =
    answer_to_the_second ∷ done_twice ∷ second_while_under_way ∷ second_in_the_same_frame ∷
    swapped_commands ∷ command_after_close ∷ command_again_after_reopening ∷ command_after_stop ∷
    ring_in_the_answer ∷ ring_twice ∷ echo_in_the_answer ∷ late_ua_opens ∷ late_ua_data ∷
    data_while_stopped_by_all ∷ data_while_stopped ∷ rest_while_stopped ∷ ok_before_whole ∷
    ok_before_whole_at_once ∷ opened_before_msc ∷ test_answered_otherwise ∷ nsc_to_a_response ∷
    shut_told_when_all_close ∷ told_out_of_order ∷ give_up_early ∷ sabm_at_tick_four ∷ probe_up_early ∷
    probe_of_other_data ∷ sent_after_loss ∷ data_after_loss ∷ closed_for_lost ∷ stopped_at_a_tick ∷
    stopped_early ∷ invented_busy ∷ invented_notopen ∷ ua_to_sabm ∷ dm_to_disc ∷ closing_done_by_disc ∷
    wrong_cr ∷ empty_data ∷ data_past_n1 ∷ told_before_sent ∷ held_before_msc ∷ freed_with_stop ∷
    refused_without_answer ∷ stopped_without_answer ∷ shut_without_answer ∷ held_zero ∷ held_twice ∷
    held_shut ∷ given_from_nothing ∷ data_overtakes ∷ taken_too_early ∷ tick_too_early ∷ freed_first ∷
    freed_after_reopening ∷ told_early ∷ told_another ∷ data_before_opening ∷ answer_of_another_connection ∷
    heard_as_another_kind ∷ heard_elsewhere ∷ []

-- of each something is missing
abbrev pub incomplete_rows : List (List Act)
incomplete_rows =
    ring_dropped ∷ msc_missing ∷ test_unanswered ∷ closed_not_told ∷ give_up_not_told ∷ no_repeat ∷
    loss_not_told ∷ []

-- in each a command stays that could leave on connection 1
abbrev pub unquiet_rows : List (List Act)
unquiet_rows =
    not_sent ∷ half_sent ∷ []
