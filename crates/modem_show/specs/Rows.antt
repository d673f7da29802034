-- Worked examples: the smallest capture with each fault, and one nearly like it without.
use Rattle.std.specs.Prelude.{◌≡◌, ℕ, true, false, List, [], ◌∷◌, ◌++◌, map, replicate, codes}
use Rattle.mux_frame.specs.Frames.{Frame}
use Rattle.mux_frame.specs.declared.frame.Kind.{Kind}
use Rattle.mux_frame.specs.declared.frame.Kind.TheVariants.{Sabm, Ua, Dm, Disc, Uih}
use Rattle.mux_capture.specs.declared.packet.Direction.TheVariants.{ToModem, FromModem}
use Rattle.mux_capture.specs.Passing.{Caught}
use Rattle.mux_station.specs.declared.role.Role.TheVariants.{Initiator, Responder}
use Rattle.mux_station.specs.Written.{written}
use Rattle.modem_show.specs.declared.faults.Faults.{Faults}
use Rattle.modem_show.specs.Ways.{caught}
use Rattle.modem_show.specs.Asking.{Ask}
use Rattle.modem_show.specs.Judging.{faults_from, unanswered}

-- a frame of the driver, and one of the modem
abbrev pub out : Kind → ℕ → List ℕ → Caught
out k d info = caught (record { seconds = 0; micros = 0 }) ToModem (written Initiator k d info)

abbrev pub back : Kind → ℕ → List ℕ → Caught
back k d info = caught (record { seconds = 0; micros = 0 }) FromModem (written Responder k d info)

-- 0 is opened, then 1
abbrev pub opened_0 : List Caught
opened_0 = out Sabm 0 [] ∷ back Ua 0 [] ∷ []

abbrev pub opened_1 : List Caught
opened_1 = opened_0 ++ (out Sabm 1 [] ∷ back Ua 1 [] ∷ [])

-- MSC for 1 that stops it or frees it, as a command and as its response
abbrev pub stop : List ℕ
stop = 0xe3 ∷ 5 ∷ 7 ∷ 0x8f ∷ []

abbrev pub stop_back : List ℕ
stop_back = 0xe1 ∷ 5 ∷ 7 ∷ 0x8f ∷ []

abbrev pub go : List ℕ
go = 0xe3 ∷ 5 ∷ 7 ∷ 0x8d ∷ []

abbrev pub go_back : List ℕ
go_back = 0xe1 ∷ 5 ∷ 7 ∷ 0x8d ∷ []

-- Test with the value A
abbrev pub probe : List ℕ
probe = 0x23 ∷ 3 ∷ 65 ∷ []

abbrev pub probe_back : List ℕ
probe_back = 0x21 ∷ 3 ∷ 65 ∷ []

abbrev pub text : List ℕ
text = codes "AT" ++ 13 ∷ []

-- ## Faults

abbrev pub sound : Faults
sound = record { unasked = false; unopened = false; unstopped = false; too_long = false; astray = false }

abbrev pub unasked : Faults
unasked = record sound { unasked = true }

abbrev pub unopened : Faults
unopened = record sound { unopened = true }

abbrev pub unstopped : Faults
unstopped = record sound { unstopped = true }

abbrev pub too_long : Faults
too_long = record sound { too_long = true }

abbrev pub astray : Faults
astray = record sound { astray = true }

-- the last frame, behind others that are sound, has these faults
abbrev pub EndsWith : Faults → List Caught → Caught → Type 0
EndsWith faults before c = faults_from 31 [] (before ++ c ∷ []) ≡ map (λ b. sound) before ++ faults ∷ []

pub record AreJudged : Type 0 where
  pub opening :
      EndsWith sound
      (opened_1
      ++ (out Uih 0 go ∷ back Uih 0 go ∷ out Uih 0 go_back ∷ back Uih 0 go_back ∷ out Uih 1 text ∷ []))
      (back Uih 1 (codes "OK" ++ 13 ∷ []))
  -- UA twice; SABM twice and UA twice
  pub twice : EndsWith unasked opened_0 (back Ua 0 [])
  pub sent_again : EndsWith sound (out Sabm 0 [] ∷ out Sabm 0 [] ∷ back Ua 0 [] ∷ []) (back Ua 0 [])
  -- a Test and its response; a response with another value; an NSC that names it; a response to nothing
  pub echo : EndsWith sound (opened_0 ++ out Uih 0 probe ∷ []) (back Uih 0 probe_back)
  pub other_echo : EndsWith unasked (opened_0 ++ out Uih 0 probe ∷ []) (back Uih 0 (0x21 ∷ 3 ∷ 66 ∷ []))
  pub refused : EndsWith sound (opened_0 ++ out Uih 0 probe ∷ []) (back Uih 0 (0x11 ∷ 3 ∷ 0x23 ∷ []))
  pub never_asked : EndsWith unasked opened_0 (back Uih 0 probe_back)
  -- PN, which the table doesn't have, and its response with another value; both ends close at once
  pub negotiated : EndsWith sound (opened_0 ++ out Uih 0 (0x83 ∷ 3 ∷ 1 ∷ []) ∷ []) (back Uih 0 (0x81 ∷ 3 ∷ 2 ∷ []))
  pub both_close : EndsWith sound (opened_1 ++ (out Disc 1 [] ∷ back Disc 1 [] ∷ out Dm 1 [] ∷ [])) (back Dm 1 [])
  -- the modem asks to open 1 too, and the driver's DM answers that: the modem's data behind its UA, and without it
  pub both_open :
      EndsWith sound
      (opened_0 ++ (out Sabm 1 [] ∷ back Sabm 1 [] ∷ out Dm 1 [] ∷ back Ua 1 [] ∷ []))
      (back Uih 1 text)
  pub refused_open :
      EndsWith unopened (opened_0 ++ (out Sabm 1 [] ∷ back Sabm 1 [] ∷ out Dm 1 [] ∷ [])) (back Uih 1 text)
  -- data before the UA, and after a DM; the modem's before it answers DISC, after it, and after CLD
  pub not_open : EndsWith unopened (opened_0 ++ out Sabm 1 [] ∷ []) (out Uih 1 text)
  pub refused_opening : EndsWith unopened (opened_0 ++ (out Sabm 1 [] ∷ back Dm 1 [] ∷ [])) (out Uih 1 text)
  pub closing : EndsWith sound (opened_1 ++ out Disc 1 [] ∷ []) (back Uih 1 text)
  pub closed : EndsWith unopened (opened_1 ++ (out Disc 1 [] ∷ back Ua 1 [] ∷ [])) (back Uih 1 text)
  pub down : EndsWith unopened (opened_1 ++ (out Uih 0 (0xc3 ∷ 1 ∷ []) ∷ back Uih 0 (0xc1 ∷ 1 ∷ []) ∷ [])) (back Uih 1 text)
  -- the driver's before it answers the modem's CLD, and after it
  pub closing_down : EndsWith sound (opened_1 ++ back Uih 0 (0xc3 ∷ 1 ∷ []) ∷ []) (out Uih 1 text)
  pub closed_down :
      EndsWith unopened (opened_1 ++ (back Uih 0 (0xc3 ∷ 1 ∷ []) ∷ out Uih 0 (0xc1 ∷ 1 ∷ []) ∷ [])) (out Uih 1 text)
  -- data before the stop is answered, after it, and after it is freed; the stop of all; a response stops nothing
  pub under_way : EndsWith sound (opened_1 ++ back Uih 0 stop ∷ []) (out Uih 1 text)
  pub stopped : EndsWith unstopped (opened_1 ++ (back Uih 0 stop ∷ out Uih 0 stop_back ∷ [])) (out Uih 1 text)
  pub freed :
      EndsWith sound
      (opened_1 ++ (back Uih 0 stop ∷ out Uih 0 stop_back ∷ back Uih 0 go ∷ out Uih 0 go_back ∷ []))
      (out Uih 1 text)
  pub stop_of_all :
      EndsWith unstopped (opened_1 ++ (back Uih 0 (0x63 ∷ 1 ∷ []) ∷ out Uih 0 (0x61 ∷ 1 ∷ []) ∷ [])) (out Uih 1 text)
  pub response_stops_none :
      EndsWith sound (opened_1 ++ (out Uih 0 stop ∷ back Uih 0 stop_back ∷ [])) (out Uih 1 text)
  -- the driver's data that crosses a DM, for which nothing asked
  pub crosses_dm :
      faults_from 31 [] (opened_1 ++ (back Dm 1 [] ∷ out Uih 1 text ∷ []))
      ≡ map (λ b. sound) opened_1 ++ unasked ∷ sound ∷ []
  -- a SABM that was sent again crosses a DISC: the second UA answers that SABM, or the DISC; the third shows that both were answered
  pub crosses_again :
      EndsWith sound
      (opened_0 ++ (out Sabm 1 [] ∷ out Sabm 1 [] ∷ back Ua 1 [] ∷ out Disc 1 [] ∷ back Ua 1 [] ∷ []))
      (back Uih 1 text)
  pub closed_at_last :
      EndsWith unopened
      (opened_0 ++ (out Sabm 1 [] ∷ out Sabm 1 [] ∷ back Ua 1 [] ∷ out Disc 1 [] ∷ back Ua 1 [] ∷ back Ua 1 [] ∷ []))
      (back Uih 1 text)
  -- a DISC that was sent again is answered by DM, and the SABM behind it by UA
  pub closed_again :
      EndsWith sound
      (opened_1 ++ (out Disc 1 [] ∷ out Disc 1 [] ∷ back Ua 1 [] ∷ out Sabm 1 [] ∷ back Dm 1 [] ∷ back Ua 1 [] ∷ []))
      (back Uih 1 text)
  -- as much information as N1 allows, here 31, and one octet more
  pub most : EndsWith sound opened_1 (out Uih 1 (replicate 31 65))
  pub one_more : EndsWith too_long opened_1 (out Uih 1 (replicate 32 65))
  -- CLD on 1, and its octets in a longer text
  pub close_as_data : EndsWith astray opened_1 (out Uih 1 (0xc3 ∷ 1 ∷ []))
  pub close_in_text : EndsWith sound opened_1 (out Uih 1 (0xc3 ∷ 1 ∷ 13 ∷ []))
  -- the end of a long command that spells a whole Test
  pub test_in_command : EndsWith sound opened_1 (out Uih 1 (0x23 ∷ 0x21 ∷ (replicate 15 65 ++ 13 ∷ [])))

-- ## Answers that never came

-- the frames with which an end asked and that were never answered, the newest first
abbrev pub never_answered : List Ask → List Frame
never_answered asks = map (λ a. a.frame) asks

-- the newest first
abbrev pub lines_of : List Caught → List Caught → List Caught
lines_of line [] = line
lines_of line (c ∷ more) = lines_of (c ∷ line) more

abbrev pub of_driver : List Caught → List Frame
of_driver frames = never_answered (unanswered Initiator (lines_of [] frames))

abbrev pub of_modem : List Caught → List Frame
of_modem frames = never_answered (unanswered Responder (lines_of [] frames))

pub record AreAnswered : Type 0 where
  -- a probe without its echo, and with it
  pub unechoed : of_driver (opened_0 ++ out Uih 0 probe ∷ []) ≡ written Initiator Uih 0 probe ∷ []
  pub echoed : of_driver (opened_0 ++ (out Uih 0 probe ∷ back Uih 0 probe_back ∷ [])) ≡ []
  -- an MSC that is never answered, and one that is
  pub unanswered_status : of_modem (opened_1 ++ back Uih 0 go ∷ []) ≡ written Responder Uih 0 go ∷ []
  pub answered_status : of_modem (opened_1 ++ (back Uih 0 go ∷ out Uih 0 go_back ∷ [])) ≡ []
  -- an opening that is never answered, and one that was sent again and answered once
  pub opening : of_driver (out Sabm 0 [] ∷ []) ≡ written Initiator Sabm 0 [] ∷ []
  pub sent_again : of_driver (out Sabm 0 [] ∷ out Sabm 0 [] ∷ back Ua 0 [] ∷ []) ≡ []
  -- an opening and a probe of both ends, which the driver alone answers
  pub both_open :
      of_driver (opened_0 ++ (out Sabm 1 [] ∷ back Sabm 1 [] ∷ out Dm 1 [] ∷ [])) ≡ written Initiator Sabm 1 [] ∷ []
  pub both_probe :
      of_driver (opened_0 ++ (out Uih 0 probe ∷ back Uih 0 probe ∷ out Uih 0 probe_back ∷ []))
      ≡ written Initiator Uih 0 probe ∷ []
  -- an MSC on its way as 0 is closed down; the close down itself
  pub dropped : of_modem (opened_1 ++ (back Uih 0 go ∷ out Uih 0 (0xc3 ∷ 1 ∷ []) ∷ [])) ≡ []
  -- an MSC that passes behind the close down, which the driver doesn't answer any more; before the response it is still awaited
  pub behind_down :
      of_modem (opened_1 ++ (out Uih 0 (0xc3 ∷ 1 ∷ []) ∷ back Uih 0 go ∷ back Uih 0 (0xc1 ∷ 1 ∷ []) ∷ [])) ≡ []
  pub awaited :
      of_modem (opened_1 ++ (out Uih 0 (0xc3 ∷ 1 ∷ []) ∷ back Uih 0 go ∷ [])) ≡ written Responder Uih 0 go ∷ []
  pub down : of_driver (opened_1 ++ out Uih 0 (0xc3 ∷ 1 ∷ []) ∷ []) ≡ written Initiator Uih 0 (0xc3 ∷ 1 ∷ []) ∷ []
