-- Worked pasts of a relay: connections 0, 1 and 2 are open, and 2 carries a lane, with data behind its CONNECT line.
use Rattle.std.specs.Prelude.{◌≡◌, ℕ, true, false, List, [], ◌∷◌, ◌++◌, Bool, Option, Some, None, codes}
use Rattle.mux_frame.specs.Frames.{Frame}
use Rattle.mux_frame.specs.declared.frame.Kind.TheVariants.{Sabm, Ua, Disc, Uih}
use Rattle.mux_station.specs.declared.role.Role.TheVariants.{Initiator, Responder}
use Rattle.mux_frame.specs.Spelling.{spelled}
use Rattle.mux_station.specs.Written.{written}
use Rattle.modem_data.specs.declared.begin.Begin.TheVariants.{AtOnce, ByConnect, ByPrompt}
use Rattle.modem_data.specs.declared.begin.Until.TheVariants.{Close}
use Rattle.modem_data.specs.Switching.{Data, Idle, Owes, lets_leave, takes_given, is_behind_lines}
use Rattle.modem_data.specs.Watching.{may_leave}
use Rattle.modem_data.specs.Passing.{Came, Went, Flowed, Left, Lost, Began, EndedLane, wire, carries, data_came, holds, driver_holds, waiting, flow_by, flow_frame}
use Rattle.modem_data.specs.PipeSets.{comes_before, turn_of}
use Rattle.modem_data.specs.Hops.{DriverFirst, Hop, Passed, Took, for_driver, for_line, passes}

abbrev pub sabm : ℕ → Frame
sabm d = written Initiator Sabm d []

abbrev pub ua : ℕ → Frame
ua d = written Responder Ua d []

abbrev pub disc : ℕ → Frame
disc d = written Initiator Disc d []

-- information that comes from the modem, or goes to it
abbrev pub says : ℕ → List ℕ → Frame
says d info = written Responder Uih d info

abbrev pub told : ℕ → List ℕ → Frame
told d info = written Initiator Uih d info

-- 0, 1 and 2 are open, and a lane of 2 begins; newest first
abbrev pub opened : List Hop
opened = Passed (Came (ua 2)) ∷ Passed (Went (sabm 2)) ∷ Passed (Came (ua 1)) ∷ Passed (Went (sabm 1)) ∷ Passed (Came (ua 0)) ∷ Passed (Went (sabm 0)) ∷ []

abbrev pub armed : List Hop
armed = Passed (Began 2 ByConnect Close) ∷ opened

abbrev pub connect : List ℕ
connect = codes "CONNECT" ++ (13 ∷ 10 ∷ [])

-- CONNECT and two octets of data in one frame, between two frames of 1
abbrev pub between : List Hop → List Hop
between past = Passed (Came (says 1 (codes "OK" ++ 13 ∷ []))) ∷ Passed (Came (says 2 (connect ++ (126 ∷ 255 ∷ [])))) ∷ Passed (Came (says 1 (65 ∷ 84 ∷ 13 ∷ []))) ∷ past

abbrev pub all_frames : List Frame
all_frames = ua 0 ∷ ua 1 ∷ ua 2 ∷ says 1 (65 ∷ 84 ∷ 13 ∷ []) ∷ says 2 (connect ++ (126 ∷ 255 ∷ [])) ∷ says 1 (codes "OK" ++ 13 ∷ []) ∷ []

-- what is to be said of the flow of 2
abbrev pub to_say : List Hop → Option Bool
to_say past = flow_by (holds Initiator 2 (passes past)) (driver_holds Initiator 2 (passes past)) (waiting Initiator 2 (passes past))

pub record RelaysSo : Type 0 where
  -- no lane began: all that came goes on, as it came
  pub as_they_came : for_driver Initiator (between opened) ≡ all_frames
  -- the CONNECT line goes on in a frame of its own, in its place; the octets behind it don't
  pub in_one_frame : for_driver Initiator (between armed) ≡ ua 0 ∷ ua 1 ∷ ua 2 ∷ says 1 (65 ∷ 84 ∷ 13 ∷ []) ∷ says 2 (codes "CONNECT" ++ 13 ∷ []) ∷ says 1 (codes "OK" ++ 13 ∷ []) ∷ []
  pub data_is : data_came Initiator 2 (passes (between armed)) ≡ 126 ∷ 255 ∷ []
  -- then a frame of data on 2 is nothing to the driver
  pub no_lines : for_driver Initiator (Passed (Came (says 2 (13 ∷ 10 ∷ []))) ∷ between armed) ≡ for_driver Initiator (between armed)
  -- with data at once, the first octets that come are data
  pub at_once : data_came Initiator 2 (passes (Passed (Came (says 2 (65 ∷ 13 ∷ []))) ∷ Passed (Began 2 AtOnce Close) ∷ opened)) ≡ 65 ∷ 13 ∷ []
  -- data goes to the line between two frames of the driver's
  pub between_two : for_line (Passed (Went (told 1 (65 ∷ []))) ∷ Passed (Left (told 2 (1 ∷ 2 ∷ []))) ∷ Passed (Went (told 1 (66 ∷ []))) ∷ []) ≡ told 1 (66 ∷ []) ∷ told 2 (1 ∷ 2 ∷ []) ∷ told 1 (65 ∷ []) ∷ []
  -- behind a DISC of 2 that went, one of 0, or a loss, no data may leave, and the lane is over
  pub before_disc : may_leave Initiator 2 (wire (passes (between armed))) ≡ true
  pub behind_disc : may_leave Initiator 2 (wire (passes (Passed (Went (disc 2)) ∷ between armed))) ≡ false
  pub behind_all : may_leave Initiator 2 (wire (passes (Passed (Went (disc 0)) ∷ between armed))) ≡ false
  pub behind_loss : may_leave Initiator 2 (wire (passes (Passed Lost ∷ between armed))) ≡ false
  pub lane_there : carries Initiator 2 (passes (between armed)) ≡ Data
  pub over_by_disc : carries Initiator 2 (passes (Passed (Went (disc 2)) ∷ between armed)) ≡ Idle
  pub over_by_all : carries Initiator 2 (passes (Passed (Went (disc 0)) ∷ between armed)) ≡ Idle
  pub over_by_loss : carries Initiator 2 (passes (Passed Lost ∷ between armed)) ≡ Idle
  -- what came and wasn't read stays
  pub stays_readable : data_came Initiator 2 (passes (Passed (Went (disc 2)) ∷ between armed)) ≡ 126 ∷ 255 ∷ []
  -- at the next opening all that comes is the driver's, until a lane begins
  pub anew : for_driver Initiator (Passed (Came (says 2 (7 ∷ []))) ∷ Passed (Came (ua 2)) ∷ Passed (Went (sabm 2)) ∷ Passed (Went (disc 2)) ∷ between armed) ≡ for_driver Initiator (between armed) ++ (ua 2 ∷ says 2 (7 ∷ []) ∷ [])
  -- the relay's own word of flow holds until the other, or the next opening
  pub held : holds Initiator 2 (passes (Passed (Flowed (flow_frame Initiator 2 false)) ∷ between armed)) ≡ true
  pub freed : holds Initiator 2 (passes (Passed (Flowed (flow_frame Initiator 2 true)) ∷ Passed (Flowed (flow_frame Initiator 2 false)) ∷ between armed)) ≡ false
  pub opened_again : holds Initiator 2 (passes (Passed (Came (ua 2)) ∷ Passed (Went (sabm 2)) ∷ Passed (Went (disc 2)) ∷ Passed (Flowed (flow_frame Initiator 2 false)) ∷ between armed)) ≡ false
  -- the driver's own MSC, that 2 may go on, undoes it; one that holds 2 isn't undone by the relay
  pub undone : holds Initiator 2 (passes (Passed (Went (flow_frame Initiator 2 true)) ∷ Passed (Flowed (flow_frame Initiator 2 false)) ∷ between armed)) ≡ false
  pub driver_holds_it : flow_by (holds Initiator 2 (passes (Passed (Went (flow_frame Initiator 2 false)) ∷ between armed))) (driver_holds Initiator 2 (passes (Passed (Went (flow_frame Initiator 2 false)) ∷ between armed))) 0 ≡ None
  -- 8191 octets may wait, and 8192 not; then 4096 are still too many, and 4095 not
  pub full : flow_by false false 8192 ≡ Some false
  pub not_full : flow_by false false 8191 ≡ None
  pub still_full : flow_by true false 4096 ≡ None
  pub free : flow_by true false 4095 ≡ Some true
  -- a lane that is ended is over, and what comes then is the driver's again
  pub ended : carries Initiator 2 (passes (Passed (EndedLane 2) ∷ between armed)) ≡ Idle
  pub lines_again : for_driver Initiator (Passed (Came (says 2 (7 ∷ []))) ∷ Passed (EndedLane 2) ∷ between armed) ≡ for_driver Initiator (between armed) ++ (says 2 (7 ∷ []) ∷ [])
  -- behind its end nothing that waits to be read holds back the lines: the relay says go on, if it had said stop
  pub two_wait : waiting Initiator 2 (passes (between armed)) ≡ 2
  pub none_waits : waiting Initiator 2 (passes (Passed (EndedLane 2) ∷ between armed)) ≡ 0
  pub freed_at_its_end : to_say (Passed (EndedLane 2) ∷ Passed (Flowed (flow_frame Initiator 2 false)) ∷ between armed) ≡ Some true
  pub only_once : to_say (Passed (Flowed (flow_frame Initiator 2 true)) ∷ Passed (EndedLane 2) ∷ Passed (Flowed (flow_frame Initiator 2 false)) ∷ between armed) ≡ None
  pub never_held : to_say (Passed (EndedLane 2) ∷ between armed) ≡ None
  pub held_by_driver : to_say (Passed (EndedLane 2) ∷ Passed (Went (flow_frame Initiator 2 false)) ∷ between armed) ≡ None
  -- of 2, 3 and 5 it is the turn of 2 at first, and of the one behind that whose data left last, round
  pub first_turn : turn_of (2 ∷ 3 ∷ 5 ∷ []) (passes armed) ≡ 0
  pub behind_2 : turn_of (2 ∷ 3 ∷ 5 ∷ []) (Left (told 2 (1 ∷ [])) ∷ Left (told 5 (1 ∷ [])) ∷ passes armed) ≡ 1
  pub behind_5 : turn_of (2 ∷ 3 ∷ 5 ∷ []) (Left (told 5 (1 ∷ [])) ∷ Left (told 2 (1 ∷ [])) ∷ passes armed) ≡ 3
  pub before_itself : comes_before 1 1 0 ≡ true
  pub not_itself : comes_before 1 0 1 ≡ false
  pub round_first : comes_before 1 2 0 ≡ true
  pub past_the_last : comes_before 3 0 1 ≡ true
  pub not_past_it : comes_before 3 1 0 ≡ false

-- ## A lane by prompt

abbrev pub prompted : List Hop
prompted = Passed (Began 2 ByPrompt Close) ∷ opened

-- CR LF and the prompt, cut between its two octets
abbrev pub half : List Hop
half = Passed (Came (says 2 (13 ∷ 10 ∷ 62 ∷ []))) ∷ prompted

abbrev pub asked : List Hop
asked = Passed (Came (says 2 (32 ∷ []))) ∷ half

-- a `>` alone in its line
abbrev pub one_mark : List Hop
one_mark = Passed (Came (says 2 (62 ∷ []))) ∷ prompted

abbrev pub error : List ℕ
error = 13 ∷ 10 ∷ codes "+CMS ERROR: 304" ++ (13 ∷ 10 ∷ [])

pub record PromptsBySo : Type 0 where
  -- the prompt goes nowhere, wherever it is cut; the lines before and behind it go on
  pub cut_there : for_driver Initiator asked ≡ for_driver Initiator opened ++ says 2 (13 ∷ 10 ∷ []) ∷ []
  pub in_one : for_driver Initiator (Passed (Came (says 2 (13 ∷ 10 ∷ 62 ∷ 32 ∷ 13 ∷ 10 ∷ 79 ∷ []))) ∷ prompted) ≡ for_driver Initiator opened ++ (says 2 (13 ∷ 10 ∷ []) ∷ says 2 (13 ∷ 10 ∷ 79 ∷ []) ∷ [])
  pub behind_it : for_driver Initiator (Passed (Came (says 2 (13 ∷ 62 ∷ 32 ∷ []))) ∷ asked) ≡ for_driver Initiator asked ++ says 2 (13 ∷ 62 ∷ 32 ∷ []) ∷ []
  pub no_data : data_came Initiator 2 (passes (Passed (Came (says 2 (13 ∷ 62 ∷ 32 ∷ []))) ∷ asked)) ≡ []
  -- a text may be given before the prompt and behind it, and leave behind it alone; no command may go then
  pub none_before : lets_leave (carries Initiator 2 (passes half)) ≡ false
  pub then_it_may : lets_leave (carries Initiator 2 (passes asked)) ≡ true
  pub given_before : takes_given (carries Initiator 2 (passes half)) ≡ true
  pub given_behind : takes_given (carries Initiator 2 (passes asked)) ≡ true
  pub command_before : is_behind_lines (carries Initiator 2 (passes half)) ≡ false
  pub none_behind : is_behind_lines (carries Initiator 2 (passes asked)) ≡ true
  -- a `>` that isn't the prompt's goes on before what comes, in a frame of its own
  pub a_line : for_driver Initiator (Passed (Came (says 2 (65 ∷ 13 ∷ []))) ∷ one_mark) ≡ for_driver Initiator opened ++ (says 2 (62 ∷ []) ∷ says 2 (65 ∷ 13 ∷ []) ∷ [])
  -- a final code in place of the prompt goes on, and no text may leave
  pub refused : for_driver Initiator (Passed (Came (says 2 error)) ∷ prompted) ≡ for_driver Initiator opened ++ says 2 error ∷ []
  pub none_then : lets_leave (carries Initiator 2 (passes (Passed (EndedLane 2) ∷ Passed (Came (says 2 error)) ∷ prompted))) ≡ false
  -- the lane is ended while a `>` is held back: it goes on before what comes, and the lane is over with that
  pub owed : carries Initiator 2 (passes (Passed (EndedLane 2) ∷ one_mark)) ≡ Owes
  pub none_owed : takes_given (carries Initiator 2 (passes (Passed (EndedLane 2) ∷ one_mark))) ≡ false
  pub paid : for_driver Initiator (Passed (Came (says 2 (32 ∷ 65 ∷ []))) ∷ Passed (EndedLane 2) ∷ one_mark) ≡ for_driver Initiator opened ++ (says 2 (62 ∷ []) ∷ says 2 (32 ∷ 65 ∷ []) ∷ [])
  pub then_over : carries Initiator 2 (passes (Passed (Came (says 2 (32 ∷ 65 ∷ []))) ∷ Passed (EndedLane 2) ∷ one_mark)) ≡ Idle
  -- without one it is over at once
  pub ended_before : carries Initiator 2 (passes (Passed (EndedLane 2) ∷ prompted)) ≡ Idle
  pub ended_behind : carries Initiator 2 (passes (Passed (EndedLane 2) ∷ asked)) ≡ Idle
  -- where the opening ends its unfinished line does, and the `>` with it
  pub closed : carries Initiator 2 (passes (Passed (Went (disc 2)) ∷ one_mark)) ≡ Idle
  pub closed_owed : carries Initiator 2 (passes (Passed (Went (disc 2)) ∷ Passed (EndedLane 2) ∷ one_mark)) ≡ Idle
  pub lost : carries Initiator 2 (passes (Passed Lost ∷ one_mark)) ≡ Idle

-- a DISC of the driver's that was taken and hasn't gone: no data may leave
abbrev pub DiscWaits : Type 0
DiscWaits = ¬ DriverFirst 31 (Took (spelled (disc 2)) ∷ [])
