-- Worked losses of a carrier (27.010, 5.4.6.3.7): DV is bit 8 of the signals, 80; 8D has it, 0D hasn't. 0, 1 and 2 are open.
use Rattle.std.specs.Prelude.{◌≡◌, ℕ, true, false, Bool, List, [], ◌∷◌, ◌++◌, None, codes}
use Rattle.mux_frame.specs.Frames.{Frame}
use Rattle.mux_station.specs.declared.role.Role.TheVariants.{Initiator, Responder}
use Rattle.mux_station.specs.Acts.{Got, Sent}
use Rattle.mux_station.specs.Tables.{msc_frame}
use Rattle.modem_data.specs.declared.begin.Begin.TheVariants.{AtOnce, ByConnect, ByPrompt}
use Rattle.modem_data.specs.declared.begin.Until.TheVariants.{Close, CarrierLoss}
use Rattle.modem_data.specs.Switching.{Data, Idle, Lines, Marked, lets_leave, takes_given}
use Rattle.modem_data.specs.Watching.{loses_carrier}
use Rattle.modem_data.specs.Passing.{Came, Went, Began, EndedLane, wire, carries, data_came}
use Rattle.modem_data.specs.WholeLanes.{under_way}
use Rattle.modem_data.specs.Hops.{Hop, Passed, for_driver, passes}
use Rattle.modem_data.specs.RelayRows.{sabm, ua, disc, says, opened, connect}

-- the modem's MSC for d, with DV and without
abbrev pub with_dv : ℕ → Frame
with_dv d = msc_frame Responder d 0x8d

abbrev pub without_dv : ℕ → Frame
without_dv d = msc_frame Responder d 0x0d

-- the modem's information on 0, of these octets
abbrev pub control : List ℕ → Frame
control octets = says 0 octets

-- ## Which frame takes the carrier of 2

-- so it is of a frame that comes behind these acts
abbrev pub falls : List Hop → Frame → Bool
falls past f = loses_carrier Initiator 2 (wire (passes past)) (Got f)

abbrev pub carried : List Hop
carried = Passed (Came (with_dv 2)) ∷ opened

abbrev pub opened_again : List Hop
opened_again = Passed (Came (ua 2)) ∷ Passed (Went (sabm 2)) ∷ Passed (Went (disc 2)) ∷ carried

pub record FallsSo : Type 0 where
  -- DV falls
  pub fall : falls carried (without_dv 2) ≡ true
  -- it stays, or rises; it was never there, or it has fallen before
  pub stays : falls carried (with_dv 2) ≡ false
  pub rises : falls (Passed (Came (without_dv 2)) ∷ opened) (with_dv 2) ≡ false
  pub first : falls opened (without_dv 2) ≡ false
  pub again : falls (Passed (Came (without_dv 2)) ∷ carried) (without_dv 2) ≡ false
  pub once_more : falls (Passed (Came (with_dv 2)) ∷ Passed (Came (without_dv 2)) ∷ carried) (without_dv 2) ≡ true
  -- it was there in an earlier opening; 2 is shut
  pub earlier : falls opened_again (without_dv 2) ≡ false
  pub shut : falls (Passed (Went (disc 2)) ∷ carried) (without_dv 2) ≡ false
  -- the MSC is another connection's
  pub of_another : falls carried (without_dv 1) ≡ false
  pub only_another : falls (Passed (Came (with_dv 1)) ∷ opened) (without_dv 2) ≡ false
  -- another message, or another connection's, between the two changes nothing
  pub between : falls (Passed (Came (without_dv 1)) ∷ Passed (Came (says 2 (7 ∷ []))) ∷ carried) (without_dv 2) ≡ true
  -- a response has the driver's own signals, and says nothing of the modem's; nor does what the driver sends
  pub response : falls carried (control (0xe1 ∷ 5 ∷ 11 ∷ 0x0d ∷ [])) ≡ false
  pub behind_response : falls (Passed (Came (control (0xe1 ∷ 5 ∷ 11 ∷ 0x8d ∷ []))) ∷ opened) (without_dv 2) ≡ false
  pub sent : loses_carrier Initiator 2 (wire (passes carried)) (Sent (without_dv 2)) ≡ false
  pub behind_sent : falls (Passed (Went (with_dv 2)) ∷ opened) (without_dv 2) ≡ false
  -- the other bits are none of it: FC; none but EA; all but DV
  pub fc : falls carried (msc_frame Responder 2 0x8f) ≡ false
  pub dv_alone : falls carried (msc_frame Responder 2 0x81) ≡ false
  pub all_but_dv : falls carried (msc_frame Responder 2 0x7f) ≡ true
  -- a break octet behind the signals; octets behind the message
  pub with_break : falls carried (control (0xe3 ∷ 7 ∷ 11 ∷ 0x0c ∷ 1 ∷ [])) ≡ true
  pub more_behind : falls carried (control (0xe3 ∷ 5 ∷ 11 ∷ 0x0d ∷ 0x8d ∷ [])) ≡ true
  -- no message: EA 0 in its type or its length, fewer octets than its length, no signals
  pub type_goes_on : falls carried (control (0xe2 ∷ 5 ∷ 11 ∷ 0x0d ∷ [])) ≡ false
  pub length_goes_on : falls carried (control (0xe3 ∷ 4 ∷ 11 ∷ 0x0d ∷ [])) ≡ false
  pub too_long : falls carried (control (0xe3 ∷ 7 ∷ 11 ∷ 0x0d ∷ [])) ≡ false
  pub no_signals : falls carried (control (0xe3 ∷ 3 ∷ 11 ∷ 0x0d ∷ [])) ≡ false
  -- the same octets on a connection of data
  pub as_data : falls carried (says 1 (0xe3 ∷ 5 ∷ 11 ∷ 0x0d ∷ [])) ≡ false

-- ## What it ends

-- 2 has a carrier, and a lane until that is lost; then CONNECT and two octets of data
abbrev pub dialling : List Hop
dialling = Passed (Began 2 ByConnect CarrierLoss) ∷ carried

abbrev pub with_data : List Hop → List Hop
with_data past = Passed (Came (says 2 (connect ++ (126 ∷ 255 ∷ [])))) ∷ past

abbrev pub hung_up : List Hop
hung_up = Passed (Came (without_dv 2)) ∷ with_data dialling

abbrev pub no_carrier : List ℕ
no_carrier = 13 ∷ 10 ∷ codes "NO CARRIER" ++ (13 ∷ 10 ∷ [])

-- the same without the option
abbrev pub by_close : List Hop
by_close = Passed (Came (without_dv 2)) ∷ with_data (Passed (Began 2 ByConnect Close) ∷ carried)

pub record HangsUpSo : Type 0 where
  -- data is over with that frame, which goes on; what comes then are lines; nothing that was given leaves
  pub before : carries Initiator 2 (passes (with_data dialling)) ≡ Data
  pub over : carries Initiator 2 (passes hung_up) ≡ Idle
  pub none_under_way : under_way Initiator 2 (passes hung_up) ≡ None
  pub goes_on : for_driver Initiator hung_up ≡ for_driver Initiator (with_data dialling) ++ without_dv 2 ∷ []
  pub lines_again : for_driver Initiator (Passed (Came (says 2 no_carrier)) ∷ hung_up) ≡ for_driver Initiator hung_up ++ says 2 no_carrier ∷ []
  pub none_leaves : lets_leave (carries Initiator 2 (passes hung_up)) ≡ false
  pub none_given : takes_given (carries Initiator 2 (passes hung_up)) ≡ false
  pub stays_readable : data_came Initiator 2 (passes (Passed (Came (says 2 no_carrier)) ∷ hung_up)) ≡ 126 ∷ 255 ∷ []
  -- what came before that frame is data, whatever it says
  pub in_data : data_came Initiator 2 (passes (Passed (Came (without_dv 2)) ∷ Passed (Came (says 2 no_carrier)) ∷ with_data dialling)) ≡ 126 ∷ 255 ∷ no_carrier
  pub by_words : carries Initiator 2 (passes (Passed (Came (says 2 no_carrier)) ∷ with_data dialling)) ≡ Data
  -- without the option it changes nothing
  pub goes_on_with_data : carries Initiator 2 (passes by_close) ≡ Data
  pub no_lines : for_driver Initiator (Passed (Came (says 2 no_carrier)) ∷ by_close) ≡ for_driver Initiator by_close
  pub all_data : data_came Initiator 2 (passes (Passed (Came (says 2 no_carrier)) ∷ by_close)) ≡ 126 ∷ 255 ∷ no_carrier
  -- the last lane's option isn't the next one's
  pub next_by_close : carries Initiator 2 (passes (Passed (Came (without_dv 2)) ∷ Passed (Came (with_dv 2)) ∷ Passed (Began 2 AtOnce Close) ∷ hung_up)) ≡ Data
  pub next_by_carrier : carries Initiator 2 (passes (Passed (Came (without_dv 2)) ∷ Passed (Came (with_dv 2)) ∷ Passed (Began 2 AtOnce CarrierLoss) ∷ by_close)) ≡ Idle
  -- a lane that waits for its CONNECT still does; the carrier is then lost anew, or not at all
  pub waits : carries Initiator 2 (passes (Passed (Came (without_dv 2)) ∷ dialling)) ≡ Lines []
  pub then_data : carries Initiator 2 (passes (Passed (Came (without_dv 2)) ∷ with_data (Passed (Came (without_dv 2)) ∷ dialling))) ≡ Data
  pub then_over : carries Initiator 2 (passes (Passed (Came (without_dv 2)) ∷ with_data (Passed (Came (with_dv 2)) ∷ Passed (Came (without_dv 2)) ∷ dialling))) ≡ Idle
  -- CONNECT has ended, and no octet came behind it
  pub just_connected : carries Initiator 2 (passes (Passed (Came (without_dv 2)) ∷ Passed (Came (says 2 (codes "CONNECT" ++ 13 ∷ []))) ∷ dialling)) ≡ Idle
  -- data at once, begun in this opening or before it
  pub at_once : carries Initiator 2 (passes (Passed (Came (without_dv 2)) ∷ Passed (Began 2 AtOnce CarrierLoss) ∷ carried)) ≡ Idle
  pub first_without : carries Initiator 2 (passes (Passed (Came (without_dv 2)) ∷ opened ++ Passed (Began 2 AtOnce CarrierLoss) ∷ [])) ≡ Data
  pub from_the_opening : carries Initiator 2 (passes (Passed (Came (without_dv 2)) ∷ carried ++ Passed (Began 2 AtOnce CarrierLoss) ∷ [])) ≡ Idle
  -- another connection's carrier
  pub of_another : carries Initiator 2 (passes (Passed (Came (without_dv 1)) ∷ Passed (Came (with_dv 1)) ∷ with_data dialling)) ≡ Data
  -- a text: its prompt hasn't come, or it has
  pub half_a_prompt : carries Initiator 2 (passes (Passed (Came (without_dv 2)) ∷ Passed (Came (says 2 (62 ∷ []))) ∷ Passed (Began 2 ByPrompt CarrierLoss) ∷ carried)) ≡ Marked
  pub behind_it : carries Initiator 2 (passes (Passed (Came (without_dv 2)) ∷ Passed (Came (says 2 (62 ∷ 32 ∷ []))) ∷ Passed (Began 2 ByPrompt CarrierLoss) ∷ carried)) ≡ Idle
  -- a lane that a call has ended stays so
  pub ended : carries Initiator 2 (passes (Passed (Came (without_dv 2)) ∷ Passed (EndedLane 2) ∷ with_data dialling)) ≡ Idle
