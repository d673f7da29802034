-- Worked lanes of the modem's end (27.010, 5.2.1.2: a responder; V.250, 6.3.1): the driver is the modem. 0, 1 and 2 are open there.
use Rattle.std.specs.Prelude.{◌≡◌, ℕ, true, false, List, [], ◌∷◌, ◌++◌, None, codes}
use Rattle.mux_frame.specs.declared.frame.Kind.TheVariants.{Uih}
use Rattle.mux_station.specs.declared.role.Role.TheVariants.{Initiator, Responder}
use Rattle.mux_station.specs.Opening.{is_open}
use Rattle.mux_station.specs.Tables.{msc_frame}
use Rattle.modem_data.specs.declared.begin.Begin.TheVariants.{AtOnce, ByConnect, ByOwnConnect}
use Rattle.modem_data.specs.declared.begin.Until.TheVariants.{Close, CarrierLoss}
use Rattle.modem_data.specs.Switching.{Carries, Answered, Data, Idle, Lines, Owns, carries_sent, is_behind_lines, lets_leave, takes_given}
use Rattle.modem_data.specs.Watching.{may_leave}
use Rattle.modem_data.specs.Passing.{Came, Went, Flowed, Left, Lost, Began, EndedLane, wire, carries, data_came, flow_frame, holds}
use Rattle.modem_data.specs.WholeLanes.{under_way}
use Rattle.modem_data.specs.Hops.{Hop, Passed, for_driver, for_line, passes}
use Rattle.modem_data.specs.RelayRows.{sabm, ua, disc, says, told, connect}

-- 0, 1 and 2 are open at the modem's end, and a lane of 2 begins; newest first
abbrev pub called : List Hop
called = Passed (Went (ua 2)) ∷ Passed (Came (sabm 2)) ∷ Passed (Went (ua 1)) ∷ Passed (Came (sabm 1)) ∷ Passed (Went (ua 0)) ∷ Passed (Came (sabm 0)) ∷ []

abbrev pub waits : List Hop
waits = Passed (Began 2 ByOwnConnect Close) ∷ called

abbrev pub dial : List ℕ
dial = codes "ATD*99#" ++ 13 ∷ []

abbrev pub dialled : List Hop
dialled = Passed (Came (told 2 dial)) ∷ waits

-- the modem's answer: CR LF CONNECT CR LF
abbrev pub answer : List ℕ
answer = 13 ∷ 10 ∷ connect

abbrev pub online : List Hop
online = Passed (Went (says 2 answer)) ∷ dialled

abbrev pub no_carrier : List ℕ
no_carrier = 13 ∷ 10 ∷ codes "NO CARRIER" ++ (13 ∷ 10 ∷ [])

-- what 2 carries behind these acts
abbrev pub carried : List Hop → Carries
carried past = carries Responder 2 (passes past)

-- the CONNECT line cut in two frames, the second of which ends with its CR
abbrev pub half : List Hop
half = Passed (Went (says 2 (13 ∷ 10 ∷ codes "CONN"))) ∷ dialled

abbrev pub with_cr : List Hop
with_cr = Passed (Went (says 2 (codes "ECT" ++ 13 ∷ []))) ∷ half

abbrev pub with_lf : List Hop
with_lf = Passed (Went (says 2 (10 ∷ []))) ∷ with_cr

-- ## Which line turns it to data

pub record AnswersSo : Type 0 where
  -- the modem's CONNECT with its CR LF; with a text behind a blank; behind the command's echo
  pub before : carried dialled ≡ Owns []
  pub by_it : carried online ≡ Data
  pub with_speed : carries_sent (Owns []) (codes "CONNECT 150000000" ++ (13 ∷ 10 ∷ [])) ≡ Data
  pub behind_echo : carries_sent (Owns []) (dial ++ answer) ≡ Data
  -- cut in two frames, and between its CR and its LF; an octet that isn't an LF is as good, and none is not
  pub in_half : carried half ≡ Owns (codes "CONN")
  pub cut_in_end : carried with_cr ≡ Answered
  pub lf_later : carried with_lf ≡ Data
  pub other_later : carries_sent Answered (65 ∷ []) ≡ Data
  pub none_later : carries_sent Answered [] ≡ Answered
  -- an LF that ends the line has none behind it
  pub by_lf : carries_sent (Owns []) (codes "CONNECT" ++ 10 ∷ []) ≡ Data
  -- other lines are none: CONNECTED, OK, NO CARRIER, a command; and a CONNECT that hasn't ended
  pub other_word : carries_sent (Owns []) (codes "CONNECTED" ++ (13 ∷ 10 ∷ [])) ≡ Owns []
  pub ok : carries_sent (Owns []) (13 ∷ 10 ∷ codes "OK" ++ (13 ∷ 10 ∷ [])) ≡ Owns []
  pub refused : carries_sent (Owns []) no_carrier ≡ Owns []
  pub a_command : carries_sent (Owns []) (codes "AT+CONNECT" ++ 13 ∷ []) ≡ Owns []
  pub no_end : carries_sent (Owns []) (codes "CONNECT") ≡ Owns (codes "CONNECT")
  -- the client's CONNECT line is a line for the modem, and turns nothing
  pub by_client : carried (Passed (Came (told 2 connect)) ∷ waits) ≡ Owns []
  pub client_in_half : carried (Passed (Came (told 2 (codes "ECT" ++ 13 ∷ []))) ∷ half) ≡ Owns (codes "CONN")
  pub for_modem : for_driver Responder (Passed (Came (told 2 connect)) ∷ waits) ≡ for_driver Responder waits ++ told 2 connect ∷ []
  -- nor does the modem's on another connection, or while 2 is shut; and on 2 it turns no lane that waits for the client's
  pub on_another : carried (Passed (Went (says 1 answer)) ∷ dialled) ≡ Owns []
  pub while_shut : carried (Passed (Went (says 2 answer)) ∷ Passed (Began 2 ByOwnConnect Close) ∷ []) ≡ Owns []
  pub no_own : carried (Passed (Went (says 2 answer)) ∷ Passed (Began 2 ByConnect Close) ∷ called) ≡ Lines []
  pub without_lane : carried (Passed (Went (says 2 answer)) ∷ called) ≡ Idle

-- ## What passes

pub record PassesSo : Type 0 where
  -- a command goes on to the modem; octets can't be given, nor leave
  pub a_command : for_driver Responder dialled ≡ for_driver Responder waits ++ told 2 dial ∷ []
  pub none_given : takes_given (carried dialled) ≡ false
  pub none_leaves : lets_leave (carried dialled) ≡ false
  pub lines_yet : is_behind_lines (carried half) ≡ false
  -- behind the CR of the modem's CONNECT what comes is data, and octets can be given, but they leave behind its LF
  pub comes_at_once : data_came Responder 2 (passes (Passed (Came (told 2 (126 ∷ 13 ∷ []))) ∷ with_cr)) ≡ 126 ∷ 13 ∷ []
  pub given_at_once : takes_given (carried with_cr) ≡ true
  pub not_between : lets_leave (carried with_cr) ≡ false
  pub behind_lf : lets_leave (carried with_lf) ≡ true
  pub still_data : data_came Responder 2 (passes (Passed (Came (told 2 (10 ∷ []))) ∷ with_lf)) ≡ 10 ∷ []
  -- then it goes to nobody else
  pub none_for_modem : for_driver Responder (Passed (Came (told 2 dial)) ∷ online) ≡ for_driver Responder online
  -- the modem's answer goes to the line whole, before data, and so does what the modem writes then
  pub whole : for_line (Passed (Left (says 2 (1 ∷ 2 ∷ []))) ∷ online) ≡ ua 0 ∷ ua 1 ∷ ua 2 ∷ says 2 answer ∷ says 2 (1 ∷ 2 ∷ []) ∷ []
  pub goes_on : for_line (Passed (Went (says 2 no_carrier)) ∷ online) ≡ for_line online ++ says 2 no_carrier ∷ []
  pub data_yet : carried (Passed (Went (says 2 no_carrier)) ∷ online) ≡ Data
  pub may : may_leave Responder 2 (wire (passes online)) ≡ true
  -- a responder's C/R: 0 in what it writes on its own; the client's is 1
  pub its_cr : says 2 (1 ∷ []) ≡ record { dlci = 2; kind = Uih; cr = false; pf = false; info = 1 ∷ [] }
  pub its_msc : flow_frame Responder 2 false ≡ record { dlci = 0; kind = Uih; cr = false; pf = false; info = 0xe3 ∷ 5 ∷ 11 ∷ 0x8f ∷ [] }
  pub client_msc : flow_frame Initiator 2 false ≡ record { dlci = 0; kind = Uih; cr = true; pf = false; info = 0xe3 ∷ 5 ∷ 11 ∷ 0x8f ∷ [] }
  -- it opens at the SABM that comes, where 0 is open; the UA that goes opens nothing at the client's end
  pub open_there : is_open Responder 2 (wire (passes called)) ≡ true
  pub not_alone : is_open Responder 2 (wire (passes (Passed (Came (sabm 2)) ∷ []))) ≡ false
  pub not_there : is_open Initiator 2 (wire (passes called)) ≡ false
  -- the client holds it up by its MSC, and its own word of flow is the relay's until the next opening
  pub stopped : may_leave Responder 2 (wire (passes (Passed (Came (flow_frame Initiator 2 false)) ∷ online))) ≡ false
  pub held : holds Responder 2 (passes (Passed (Flowed (flow_frame Responder 2 false)) ∷ online)) ≡ true
  pub freed : holds Responder 2 (passes (Passed (Came (sabm 2)) ∷ Passed (Flowed (flow_frame Responder 2 false)) ∷ online)) ≡ false

-- ## What ends it

-- the client's MSC says that 2 has a carrier, and then that it hasn't
abbrev pub until_loss : List Hop
until_loss = Passed (Went (says 2 answer)) ∷ Passed (Came (msc_frame Initiator 2 0x8d)) ∷ Passed (Began 2 ByOwnConnect CarrierLoss) ∷ called

abbrev pub loss : Hop
loss = Passed (Came (msc_frame Initiator 2 0x0d))

pub record EndsSo : Type 0 where
  -- a DISC of the client's, of 2 or of 0, one of the modem's, another SABM, a loss of the line, a call
  pub by_disc : carried (Passed (Came (disc 2)) ∷ online) ≡ Idle
  pub by_disc_of_0 : carried (Passed (Came (disc 0)) ∷ online) ≡ Idle
  pub of_another : carried (Passed (Came (disc 1)) ∷ online) ≡ Data
  pub by_modem : carried (Passed (Went (disc 2)) ∷ online) ≡ Idle
  pub opened_again : carried (Passed (Came (sabm 2)) ∷ online) ≡ Idle
  pub by_loss : carried (Passed Lost ∷ online) ≡ Idle
  pub by_call : carried (Passed (EndedLane 2) ∷ online) ≡ Idle
  pub before_connect : carried (Passed (EndedLane 2) ∷ half) ≡ Idle
  pub in_its_end : carried (Passed (Came (disc 2)) ∷ with_cr) ≡ Idle
  pub none_under_way : under_way Responder 2 (passes (Passed (Came (disc 2)) ∷ online)) ≡ None
  pub none_leaves : lets_leave (carried (Passed (Came (disc 2)) ∷ online)) ≡ false
  -- then a lane may begin anew: in the next opening the modem's CONNECT turns it to data again, and no line of before counts
  pub anew : carried (Passed (Began 2 ByOwnConnect Close) ∷ Passed (Came (disc 2)) ∷ online) ≡ Owns []
  pub once_more : carried (Passed (Went (says 2 answer)) ∷ Passed (Came (sabm 2)) ∷ Passed (Began 2 ByOwnConnect Close) ∷ Passed (Came (disc 2)) ∷ online) ≡ Data
  pub from_its_begin : carried (Passed (Went (says 2 (codes "ECT" ++ (13 ∷ 10 ∷ [])))) ∷ Passed (Began 2 ByOwnConnect Close) ∷ Passed (EndedLane 2) ∷ half) ≡ Owns []
  -- the loss of the carrier ends data that is under way, if it was begun so, behind a lone CR too; a lane that waits goes on
  pub by_carrier : carried (loss ∷ until_loss) ≡ Idle
  pub behind_cr : carried (loss ∷ Passed (Went (says 2 (codes "CONNECT" ++ 13 ∷ []))) ∷ Passed (Came (msc_frame Initiator 2 0x8d)) ∷ Passed (Began 2 ByOwnConnect CarrierLoss) ∷ called) ≡ Idle
  pub while_waiting : carried (loss ∷ Passed (Came (msc_frame Initiator 2 0x8d)) ∷ Passed (Began 2 ByOwnConnect CarrierLoss) ∷ called) ≡ Owns []
  pub by_close : carried (loss ∷ Passed (Came (msc_frame Initiator 2 0x8d)) ∷ online) ≡ Data
  -- at the modem's end a lane may begin at once too
  pub at_once : data_came Responder 2 (passes (Passed (Came (told 2 (7 ∷ []))) ∷ Passed (Began 2 AtOnce Close) ∷ called)) ≡ 7 ∷ []
