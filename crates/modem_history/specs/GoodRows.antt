-- Histories of a right driver.
use Rattle.std.specs.Prelude.{List, [], ◌∷◌, ◌++◌, codes}
use Rattle.mux_frame.specs.declared.frame.Kind.TheVariants.{Sabm, Ua, Dm, Disc, Uih}
use Rattle.at_text.specs.declared.unsolicited.UrcKind.TheVariants.{Ring, Creg, Other}
use Rattle.modem_desk.specs.declared.request.Ask.TheVariants.{OpenChannel, CloseChannel, Command, Probe, Stop}
use Rattle.modem_desk.specs.declared.request.Answer.TheVariants.{Opened, Shut, ProbeBack, Stopped, NotOpen, AlreadyOpen, Refused, NoAnswer, Closed, ControlChannel, LineLost, Busy}
use Rattle.modem_history.specs.Acts.{Act, Heard, Tick, Lost, Held, Freed, Given}
use Rattle.modem_history.specs.Rows.{zero, one, two, sixty_one, takes, tells, tells_done, sends, comes, msc_command, msc_response, fcoff_command, fcoff_response, fcon_command, fcon_response, cld_command, cld_response, cr, framed, opening_zero, opening_one}

-- csq
abbrev pub csq : List Act
csq =
    opening_one ++ takes 3 (Command one (codes "AT+CSQ")) ∷ sends Uih 1 (codes "AT+CSQ" ++ cr) ∷
    comes Uih 1 (framed (codes "+CSQ: 18,99")) ∷ comes Uih 1 (framed (codes "OK")) ∷
    tells_done 3 (codes "+CSQ: 18,99" ∷ codes "OK" ∷ []) ∷ []

-- open zero
abbrev pub open_zero : List Act
open_zero =
    opening_zero ++ takes 2 (OpenChannel zero) ∷ tells 2 AlreadyOpen ∷ []

-- open refused
abbrev pub open_refused : List Act
open_refused =
    takes 1 (OpenChannel one) ∷ tells 1 NotOpen ∷ takes 2 (OpenChannel zero) ∷ sends Sabm 0 [] ∷ Given ∷
    comes Ua 0 [] ∷ tells 2 Opened ∷ takes 3 (OpenChannel one) ∷ sends Sabm 1 [] ∷ Given ∷ comes Dm 1 [] ∷
    tells 3 Refused ∷ []

-- ring inside
abbrev pub ring_inside : List Act
ring_inside =
    opening_one ++ takes 3 (Command one (codes "AT+CSQ")) ∷ sends Uih 1 (codes "AT+CSQ" ++ cr) ∷
    comes Uih 1 (framed (codes "+CSQ: 18,99")) ∷ comes Uih 1 (framed (codes "RING")) ∷
    Heard Ring 1 (codes "RING") ∷ comes Uih 1 (framed (codes "OK")) ∷
    tells_done 3 (codes "+CSQ: 18,99" ∷ codes "OK" ∷ []) ∷ []

-- creg both
abbrev pub creg_both : List Act
creg_both =
    opening_one ++ takes 3 (Command one (codes "AT+CREG?")) ∷ sends Uih 1 (codes "AT+CREG?" ++ cr) ∷
    comes Uih 1 (framed (codes "+CREG: 2")) ∷ Heard Creg 1 (codes "+CREG: 2") ∷
    comes Uih 1 (framed (codes "+CREG: 0,1")) ∷ comes Uih 1 (framed (codes "OK")) ∷
    tells_done 3 (codes "+CREG: 0,1" ∷ codes "OK" ∷ []) ∷ []

-- early ok
abbrev pub early_ok : List Act
early_ok =
    opening_one ++ comes Uih 1 (framed (codes "OK")) ∷ Heard Other 1 (codes "OK") ∷
    takes 3 (Command one (codes "AT+CSQ")) ∷ sends Uih 1 (codes "AT+CSQ" ++ cr) ∷
    comes Uih 1 (framed (codes "OK")) ∷ tells_done 3 (codes "OK" ∷ []) ∷ []

-- echo once
abbrev pub echo_once : List Act
echo_once =
    opening_one ++ takes 3 (Command one (codes "AT+CSQ")) ∷ sends Uih 1 (codes "AT+CSQ" ++ cr) ∷
    comes Uih 1 (codes "AT+CSQ" ++ cr) ∷ comes Uih 1 (codes "AT+CSQ" ++ cr) ∷
    comes Uih 1 (framed (codes "OK")) ∷ tells_done 3 (codes "AT+CSQ" ∷ codes "OK" ∷ []) ∷ []

-- stopped midway: while it is stopped
abbrev pub stopped_midway_stopped : List Act
stopped_midway_stopped =
    opening_one ++ takes 3 (Command one (codes "AT+CGDCONT=1,\"IP\",\"internet.example\"")) ∷
    sends Uih 1 (codes "AT+CGDCONT=1,\"IP\",\"internet.exa") ∷ comes Uih 0 (msc_command 1 0xf) ∷
    sends Uih 0 (msc_response 1 0xf) ∷ Given ∷ []

-- stopped midway
abbrev pub stopped_midway : List Act
stopped_midway =
    opening_one ++ takes 3 (Command one (codes "AT+CGDCONT=1,\"IP\",\"internet.example\"")) ∷
    sends Uih 1 (codes "AT+CGDCONT=1,\"IP\",\"internet.exa") ∷ comes Uih 0 (msc_command 1 0xf) ∷
    sends Uih 0 (msc_response 1 0xf) ∷ Given ∷ comes Uih 0 (msc_command 1 0xd) ∷
    sends Uih 0 (msc_response 1 0xd) ∷
    Given ∷ sends Uih 1 (codes "mple\"" ++ cr) ∷ []

-- stop of all and probe
abbrev pub stop_of_all_and_probe : List Act
stop_of_all_and_probe =
    opening_one ++ comes Uih 0 fcoff_command ∷ sends Uih 0 fcoff_response ∷ Given ∷
    takes 3 (Command one (codes "AT+CSQ")) ∷ takes 4 (Probe (codes "AB")) ∷
    sends Uih 0 (0x23 ∷ 5 ∷ 0x41 ∷ 0x42 ∷ []) ∷ Given ∷ takes 5 (Probe (codes "C")) ∷ tells 5 Busy ∷
    comes Uih 0 (0x21 ∷ 5 ∷ 0x41 ∷ 0x42 ∷ []) ∷ tells 4 ProbeBack ∷ comes Uih 0 fcon_command ∷
    sends Uih 0 fcon_response ∷ Given ∷ sends Uih 1 (codes "AT+CSQ" ++ cr) ∷ []

-- unsupported command
abbrev pub unsupported_command : List Act
unsupported_command =
    opening_one ++ comes Uih 0 (0x83 ∷ 0x11 ∷ 1 ∷ 0 ∷ 0 ∷ 0xa ∷ 0x1f ∷ 0 ∷ 3 ∷ 2 ∷ []) ∷
    sends Uih 0 (0x11 ∷ 3 ∷ 0x83 ∷ []) ∷ Given ∷ []

-- test command
abbrev pub test_command : List Act
test_command =
    opening_one ++ comes Uih 0 (0x23 ∷ 5 ∷ 0x41 ∷ 0x42 ∷ []) ∷ sends Uih 0 (0x21 ∷ 5 ∷ 0x41 ∷ 0x42 ∷ []) ∷
    Given ∷ comes Uih 0 (0x23 ∷ 4 ∷ 0 ∷ 0x41 ∷ 0x42 ∷ []) ∷ []

-- probe unanswered
abbrev pub probe_unanswered : List Act
probe_unanswered =
    opening_one ++ takes 3 (Probe (codes "AB")) ∷ sends Uih 0 (0x23 ∷ 5 ∷ 0x41 ∷ 0x42 ∷ []) ∷ Given ∷
    Tick ∷ Tick ∷ Tick ∷ Tick ∷ tells 3 NoAnswer ∷ []

-- probe refused
abbrev pub probe_refused : List Act
probe_refused =
    opening_one ++ takes 3 (Probe (codes "AB")) ∷ sends Uih 0 (0x23 ∷ 5 ∷ 0x41 ∷ 0x42 ∷ []) ∷ Given ∷
    comes Uih 0 (0x11 ∷ 5 ∷ 0x23 ∷ 0 ∷ []) ∷ comes Uih 0 (0x11 ∷ 3 ∷ 0x23 ∷ []) ∷ tells 3 Refused ∷ []

-- response is no stop
abbrev pub response_is_no_stop : List Act
response_is_no_stop =
    opening_one ++ comes Uih 0 (msc_response 1 0xf) ∷ takes 3 (Command one (codes "AT+CSQ")) ∷
    sends Uih 1 (codes "AT+CSQ" ++ cr) ∷ []

-- close gives up
abbrev pub close_gives_up : List Act
close_gives_up =
    opening_one ++ takes 3 (CloseChannel one) ∷ sends Disc 1 [] ∷ Given ∷ Tick ∷ sends Disc 1 [] ∷ Given ∷
    Tick ∷ sends Disc 1 [] ∷ Given ∷ Tick ∷ sends Disc 1 [] ∷ Given ∷ Tick ∷ tells 3 NoAnswer ∷ []

-- close drops
abbrev pub close_drops : List Act
close_drops =
    opening_one ++ takes 3 (Command one (codes "AT+CSQ")) ∷ sends Uih 1 (codes "AT+CSQ" ++ cr) ∷
    takes 4 (Command one (codes "AT+CGATT?")) ∷ takes 5 (Command one (codes "AT+COPS?")) ∷
    takes 6 (CloseChannel one) ∷ sends Disc 1 [] ∷ tells 3 Closed ∷ tells 4 Closed ∷ tells 5 Closed ∷
    Given ∷ comes Uih 1 (framed (codes "OK")) ∷ comes Ua 1 [] ∷ tells 6 Shut ∷ takes 7 (OpenChannel one) ∷
    sends Sabm 1 [] ∷ Given ∷ comes Ua 1 [] ∷ sends Uih 0 (msc_command 1 0x8d) ∷ tells 7 Opened ∷ Given ∷ []

-- give up
abbrev pub give_up : List Act
give_up =
    opening_zero ++ takes 2 (OpenChannel one) ∷ sends Sabm 1 [] ∷ Given ∷ Tick ∷ sends Sabm 1 [] ∷ Given ∷
    Tick ∷ sends Sabm 1 [] ∷ Given ∷ Tick ∷ sends Sabm 1 [] ∷ Given ∷ Tick ∷ sends Disc 1 [] ∷
    tells 2 NoAnswer ∷ Given ∷ comes Ua 1 [] ∷ takes 3 (Command one (codes "AT")) ∷ tells 3 NotOpen ∷ []

-- modem closes: with a command in hand
abbrev pub modem_closes : List Act
modem_closes =
    opening_one ++ takes 3 (Command one (codes "AT+CSQ")) ∷ sends Uih 1 (codes "AT+CSQ" ++ cr) ∷
    comes Disc 1 [] ∷ sends Ua 1 [] ∷ tells 3 Closed ∷ Given ∷ []

-- modem closes by SABM: with a command in hand
abbrev pub modem_opens : List Act
modem_opens =
    opening_one ++ takes 3 (Command one (codes "AT+CSQ")) ∷ sends Uih 1 (codes "AT+CSQ" ++ cr) ∷
    comes Sabm 1 [] ∷ sends Dm 1 [] ∷ tells 3 Closed ∷ Given ∷ []

-- stop and loss
abbrev pub stop_and_loss : List Act
stop_and_loss =
    opening_one ++ takes 3 (Command one (codes "AT+CSQ")) ∷ sends Uih 1 (codes "AT+CSQ" ++ cr) ∷
    takes 4 Stop ∷ sends Uih 0 cld_command ∷ tells 3 Closed ∷ Given ∷ comes Uih 0 cld_response ∷
    tells 4 Stopped ∷
    takes 5 (Command one (codes "AT")) ∷ tells 5 NotOpen ∷ takes 6 (Command zero (codes "AT")) ∷
    tells 6 ControlChannel ∷ Lost ∷ takes 7 (OpenChannel zero) ∷ tells 7 LineLost ∷ []

-- last connection
abbrev pub last_connection : List Act
last_connection =
    opening_zero ++ takes 2 (OpenChannel sixty_one) ∷ sends Sabm 61 [] ∷ Given ∷ comes Ua 61 [] ∷
    sends Uih 0 (msc_command 61 0x8d) ∷ tells 2 Opened ∷ Given ∷ []

-- loss tells: and what comes after the loss
abbrev pub loss_tells : List Act
loss_tells =
    opening_one ++ takes 3 (Command one (codes "AT+CSQ")) ∷ sends Uih 1 (codes "AT+CSQ" ++ cr) ∷ Lost ∷
    tells 3 LineLost ∷ takes 4 (OpenChannel zero) ∷ tells 4 LineLost ∷ Tick ∷ Lost ∷ comes Ua 0 [] ∷ []

-- a stop tells Closed to all else in hand at once, and is given up at tick 4
abbrev pub stop_gives_up : List Act
stop_gives_up =
    opening_one ++ takes 3 (Probe (codes "A")) ∷ sends Uih 0 (0x23 ∷ 3 ∷ 0x41 ∷ []) ∷ Given ∷
    takes 4 (OpenChannel two) ∷ sends Sabm 2 [] ∷ Given ∷ takes 5 Stop ∷ sends Uih 0 cld_command ∷
    tells 3 Closed ∷
    tells 4 Closed ∷ Given ∷ Tick ∷ Tick ∷ Tick ∷ Tick ∷ tells 5 NoAnswer ∷ takes 6 (OpenChannel zero) ∷
    sends Sabm 0 [] ∷ Given ∷ []

-- in Stopping: DISC gets DM, UA and Test nothing, DM ends it
abbrev pub stop_ended_by_dm : List Act
stop_ended_by_dm =
    opening_one ++ takes 3 Stop ∷ sends Uih 0 cld_command ∷ Given ∷ comes Disc 0 [] ∷ sends Dm 0 [] ∷ Given ∷
    comes Ua 0 [] ∷ comes Uih 0 (0x23 ∷ 3 ∷ 0x41 ∷ []) ∷ comes Dm 0 [] ∷ tells 3 Stopped ∷ comes Dm 0 [] ∷
    []

-- two CLD commands cross
abbrev pub stops_cross : List Act
stops_cross =
    opening_one ++ takes 3 Stop ∷ sends Uih 0 cld_command ∷ Given ∷ comes Uih 0 (0xc3 ∷ 3 ∷ 0x7a ∷ []) ∷
    sends Uih 0 (0xc1 ∷ 3 ∷ 0x7a ∷ []) ∷ tells 3 Stopped ∷ Given ∷ comes Uih 0 cld_response ∷ []

-- CLD from the modem with a command, an opening and a probe in hand; the late UA opens nothing
abbrev pub zero_closed : List Act
zero_closed =
    opening_one ++ takes 3 (Command one (codes "AT+CSQ")) ∷ sends Uih 1 (codes "AT+CSQ" ++ cr) ∷
    takes 4 (OpenChannel two) ∷ sends Sabm 2 [] ∷ Given ∷ takes 5 (Probe (codes "A")) ∷
    sends Uih 0 (0x23 ∷ 3 ∷ 0x41 ∷ []) ∷ Given ∷ comes Uih 0 cld_command ∷ sends Uih 0 cld_response ∷
    tells 3 Closed ∷ tells 4 Closed ∷ tells 5 Closed ∷ Given ∷ comes Ua 2 [] ∷ []

-- DISC on 0 with a command, an opening, a closing and a probe in hand
abbrev pub zero_disc : List Act
zero_disc =
    opening_one ++ takes 3 (Command one (codes "AT+CSQ")) ∷ sends Uih 1 (codes "AT+CSQ" ++ cr) ∷
    takes 4 (OpenChannel two) ∷ sends Sabm 2 [] ∷ Given ∷ takes 5 (Probe (codes "A")) ∷
    sends Uih 0 (0x23 ∷ 3 ∷ 0x41 ∷ []) ∷ Given ∷ takes 6 (OpenChannel sixty_one) ∷ sends Sabm 61 [] ∷
    Given ∷ comes Ua 61 [] ∷ sends Uih 0 (msc_command 61 0x8d) ∷ tells 6 Opened ∷ Given ∷
    takes 7 (CloseChannel sixty_one) ∷ sends Disc 61 [] ∷ Given ∷ comes Disc 0 [] ∷ sends Ua 0 [] ∷
    tells 3 Closed ∷ tells 4 Closed ∷ tells 5 Closed ∷ tells 7 Closed ∷ Given ∷ []

-- two connections, both started by FCon
abbrev pub turns : List Act
turns =
    opening_one ++ takes 3 (OpenChannel two) ∷ sends Sabm 2 [] ∷ Given ∷ comes Ua 2 [] ∷
    sends Uih 0 (msc_command 2 0x8d) ∷ tells 3 Opened ∷ Given ∷ comes Uih 0 fcoff_command ∷
    sends Uih 0 fcoff_response ∷
    Given ∷ takes 4 (Command one (codes "AT+CSQ")) ∷
    takes 5 (Command two (codes "AT+CGDCONT=1,\"IP\",\"internet.example\"")) ∷ comes Uih 0 fcon_command ∷
    sends Uih 0 fcon_response ∷ Given ∷ sends Uih 1 (codes "AT+CSQ" ++ cr) ∷
    sends Uih 2 (codes "AT+CGDCONT=1,\"IP\",\"internet.exa") ∷ sends Uih 2 (codes "mple\"" ++ cr) ∷ []

-- a stop is forgotten by close and reopening
abbrev pub stop_forgotten : List Act
stop_forgotten =
    opening_one ++ comes Uih 0 (msc_command 1 0x8f) ∷ sends Uih 0 (msc_response 1 0x8f) ∷ Given ∷
    takes 3 (CloseChannel one) ∷ sends Disc 1 [] ∷ Given ∷ comes Ua 1 [] ∷ tells 3 Shut ∷
    takes 4 (OpenChannel one) ∷ sends Sabm 1 [] ∷ Given ∷ comes Ua 1 [] ∷ sends Uih 0 (msc_command 1 0x8d) ∷
    tells 4 Opened ∷ Given ∷ takes 5 (Command one (codes "AT+CSQ")) ∷ sends Uih 1 (codes "AT+CSQ" ++ cr) ∷
    []

-- a line that began before its window belongs to the answer and uses the place of the echo
abbrev pub line_before_window : List Act
line_before_window =
    opening_one ++ comes Uih 1 (codes "+CS") ∷ takes 3 (Command one (codes "AT+CSQ")) ∷
    sends Uih 1 (codes "AT+CSQ" ++ cr) ∷
    comes Uih 1 (codes "Q: 1,2" ++ cr ++ codes "AT+CSQ" ++ cr ++ codes "OK" ++ cr) ∷
    tells_done 3 (codes "+CSQ: 1,2" ∷ codes "AT+CSQ" ∷ codes "OK" ∷ []) ∷ []

-- lines after the final code in the same frame are Other, although a second command waits
abbrev pub lines_after_final : List Act
lines_after_final =
    opening_one ++ takes 3 (Command one (codes "AT+CSQ")) ∷ sends Uih 1 (codes "AT+CSQ" ++ cr) ∷
    takes 4 (Command one (codes "AT")) ∷
    comes Uih 1 (codes "OK" ++ cr ++ codes "OK" ++ cr ++ codes "RING" ++ cr) ∷
    tells_done 3 (codes "OK" ∷ []) ∷ Heard Other 1 (codes "OK") ∷ Heard Ring 1 (codes "RING") ∷
    sends Uih 1 (codes "AT" ++ cr) ∷ comes Uih 1 (framed (codes "OK")) ∷ tells_done 4 (codes "OK" ∷ []) ∷
    []

-- DISC and SABM while Closing get DM and the close goes on; data then is nobody's
abbrev pub closing_disc : List Act
closing_disc =
    opening_one ++ takes 3 (CloseChannel one) ∷ sends Disc 1 [] ∷ Given ∷ comes Disc 1 [] ∷ sends Dm 1 [] ∷
    Given ∷ comes Sabm 1 [] ∷ sends Dm 1 [] ∷ Given ∷ comes Uih 1 (codes "RING" ++ cr) ∷ comes Dm 1 [] ∷
    tells 3 Shut ∷ []

-- Busy, NotOpen and ControlChannel by the states
abbrev pub busy_states : List Act
busy_states =
    opening_zero ++ takes 2 (OpenChannel one) ∷ sends Sabm 1 [] ∷ Given ∷ takes 3 (OpenChannel one) ∷
    tells 3 Busy ∷ takes 4 (CloseChannel one) ∷ tells 4 Busy ∷ takes 5 (Probe (codes "A")) ∷
    sends Uih 0 (0x23 ∷ 3 ∷ 0x41 ∷ []) ∷ Given ∷ takes 6 (Probe (codes "B")) ∷ tells 6 Busy ∷
    takes 7 (CloseChannel two) ∷ tells 7 NotOpen ∷ takes 8 (CloseChannel zero) ∷ tells 8 ControlChannel ∷
    takes 9 Stop ∷ sends Uih 0 cld_command ∷ tells 2 Closed ∷ tells 5 Closed ∷ Given ∷ []

-- frames on what is Shut: DISC and SABM get DM, the rest nothing
abbrev pub shut_frames : List Act
shut_frames =
    comes Disc 5 [] ∷ sends Dm 5 [] ∷ Given ∷ comes Sabm 5 [] ∷ sends Dm 5 [] ∷ Given ∷ comes Ua 5 [] ∷
    comes Dm 5 [] ∷ comes Uih 5 (codes "RING" ++ cr) ∷ comes Uih 0 (0x23 ∷ 3 ∷ 0x41 ∷ []) ∷ []

-- row held-back: held, then freed
abbrev pub held_and_freed : List Act
held_and_freed =
    opening_one ++ Held 1 ∷ sends Uih 0 (msc_command 1 0x8f) ∷ Given ∷ Freed 1 ∷
    sends Uih 0 (msc_command 1 0x8d) ∷ Given ∷
    []

-- all of them
abbrev pub good_rows : List (List Act)
good_rows =
    csq ∷ open_zero ∷ open_refused ∷ ring_inside ∷ creg_both ∷ early_ok ∷ echo_once ∷
    stopped_midway_stopped ∷ stopped_midway ∷ stop_of_all_and_probe ∷ unsupported_command ∷ test_command ∷
    probe_unanswered ∷ probe_refused ∷ response_is_no_stop ∷ close_gives_up ∷ close_drops ∷ give_up ∷
    modem_closes ∷ modem_opens ∷ stop_and_loss ∷ last_connection ∷ loss_tells ∷ stop_gives_up ∷
    stop_ended_by_dm ∷ stops_cross ∷ zero_closed ∷ zero_disc ∷ turns ∷ stop_forgotten ∷ line_before_window ∷
    lines_after_final ∷ closing_disc ∷ busy_states ∷ shut_frames ∷ held_and_freed ∷ []
