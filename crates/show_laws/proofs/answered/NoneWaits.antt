-- Where nothing is under way no ask waits that isn't excused.
use Rattle.std.specs.Prelude.{◌≡◌, ℕ, ◌+◌, ◌==◌, ◌≤◌, ◌||◌, not, Bool, true, false, List, [], ◌∷◌, filter, refl, if◌then◌else◌}
use Rattle.std.specs.List.{list_any}
use Rattle.std.proofs.Common.{ap, arith, sym, subst, ◌∙◌}
use Rattle.std.proofs.lemmas.Bool.{and_parts, or_parts}
use Rattle.mux_frame.specs.Frames.{Frame}
use Rattle.mux_capture.specs.Passing.{Caught}
use Rattle.mux_station.specs.declared.role.Role.{Role}
use Rattle.mux_station.specs.declared.role.Role.TheVariants.{Initiator, Responder}
use Rattle.mux_station.specs.Acts as station
use Rattle.mux_station.specs.Messages.{brings_command, brings_response, cld, message_in}
use Rattle.mux_station.specs.Opening.{is_open}
use Rattle.mux_station.specs.Sending.{StationComplete, owed_frames}
use Rattle.mux_station.specs.States.{is_opened, is_stopping, state_of}
use Rattle.modem_history.specs.Acts.{wire}
use Rattle.modem_history.specs.Calls.{Setting}
use Rattle.modem_history.specs.Lawful.{Complete, owed}
use Rattle.modem_history.specs.TwoEnds.{frames_got, frames_sent}
use Rattle.modem_show.specs.Asking.{Ask, is_answer, is_ask, is_mode_answer, is_mode_command, message_answers, message_asks, waiting}
use Rattle.modem_show.specs.Judging.{unanswered}
use Rattle.show_laws.specs.Lines.{IsDone, IsLawfulLine, LineAct, ReadsInTime, StopsAsking, captured, closes, driver_past, is_in_time, modem_past, responding}
use Rattle.show_laws.specs.Laws.{AnswersAll}
use Rattle.show_laws.proofs.answered.DriverStops.{driver_stops}
use Rattle.show_laws.proofs.answered.EnoughCalled.{clds_enough, frame_enough, modes_enough}
use Rattle.show_laws.proofs.answered.EnoughSent.{CallsEach, driver_enough, station_enough}
use Rattle.show_laws.proofs.answered.ExcusedAsks.{excused, none_open}
use Rattle.show_laws.proofs.answered.FewWait.{IsTriple, few_wait}
use Rattle.show_laws.proofs.asks.AnswerShapes.{or_elim}
use Rattle.show_laws.proofs.asks.WaitingAsks.{frames_of, frames_to, many_asks}
use Rattle.show_laws.proofs.counts.ManyFrames.{many, many_fewer, many_none, none_many, unit}
use Rattle.show_laws.proofs.counts.DriverCounts.{sends}
use Rattle.show_laws.proofs.lines.CapturedFrames.{shows}
use Rattle.show_laws.proofs.openings.FreshAsks.{mode_answers}
use Rattle.show_laws.proofs.openings.QuietFrames.{cld_asks}
use Rattle.show_laws.proofs.openings.ResponderCalls.{down_answers, each_frame}
use Rattle.show_laws.proofs.talks.TalkingLines.{down_is_answer}

-- ## Three kinds of asks, and their answers

-- all asks and all answers are such a triple
pub all_asks : IsTriple each_frame is_ask is_answer
all_asks = record {
  asked = λ f e. let u : unit (is_ask f) ≡ 1 = ap unit e in omega (arith, u);
  answer = λ g e. e;
  of = λ f g shape e k. refl;
}

modes : IsTriple is_mode_command is_mode_command is_mode_answer
modes = record {
  asked = λ f e. omega arith;
  answer = λ g e. ap (λ (b : Bool). b || message_answers (message_in g)) e;
  of = λ f g shape e k. (and_parts (is_mode_command f) (f.dlci == g.dlci) (sym (mode_answers f g g.dlci e refl) ∙ k)).0;
}

downs : IsTriple (brings_command cld) (brings_command cld) (brings_response cld)
downs = record {
  asked = λ f e. omega arith;
  answer = λ g e. down_is_answer g e;
  of = λ f g shape e k. down_answers f g shape e k;
}

-- ## What each calls for

modes_called : (r : Role) (past : List station.Act) → CallsEach r is_mode_command is_mode_answer past
modes_called r [] = tt
modes_called r (station.Got f ∷ past) = (modes_enough r (λ e. state_of r e past) f, modes_called r past)
modes_called r (station.Sent f ∷ past) = modes_called r past
modes_called r (station.Called c ∷ past) = modes_called r past
modes_called r (station.Tick ∷ past) = modes_called r past
modes_called r (station.Lost ∷ past) = modes_called r past
modes_called r (station.Given ∷ past) = modes_called r past

asking : (f : Frame) → brings_command cld f ≡ true → message_asks (message_in f) ≡ true
asking f c = by_asks (message_asks (message_in f)) refl
  where
    by_asks : (b : Bool) → message_asks (message_in f) ≡ b → b ≡ true
    by_asks true e = refl
    by_asks false e = let t : true ≡ false = sym c ∙ cld_asks f e in cc

down_in_time : (r : Role) (f : Frame) (past : List station.Act) → is_in_time r f past ≡ true → brings_command cld f ≡ true → (is_opened (state_of r 0 past) || is_stopping (state_of r 0 past)) ≡ true
down_in_time r f past h c =
    sym (ap (λ (b : Bool). is_open r 0 past || (if b then is_stopping (state_of r 0 past) else list_any (brings_command cld) (frames_sent past))) c) ∙ h

downs_called : (r : Role) (past : List station.Act) → ReadsInTime r past → CallsEach r (brings_command cld) (brings_response cld) past
downs_called r [] h = tt
downs_called r (station.Got f ∷ past) h = (clds_enough r (λ e. state_of r e past) f (λ c. down_in_time r f past (h.0 (asking f c)) c), downs_called r past h.1)
downs_called r (station.Sent f ∷ past) h = downs_called r past h
downs_called r (station.Called c ∷ past) h = downs_called r past h
downs_called r (station.Tick ∷ past) h = downs_called r past h
downs_called r (station.Lost ∷ past) h = downs_called r past h
downs_called r (station.Given ∷ past) h = downs_called r past h

-- where no CLD came or was sent each command comes while 0 is open
open_in_time : (r : Role) (f : Frame) (past : List station.Act) → is_in_time r f past ≡ true → brings_command cld f ≡ false → list_any (brings_command cld) (frames_sent past) ≡ false → is_open r 0 past ≡ true
open_in_time r f past h c none =
    let x : (is_open r 0 past || list_any (brings_command cld) (frames_sent past)) ≡ true = sym (ap (λ (b : Bool). is_open r 0 past || (if b then is_stopping (state_of r 0 past) else list_any (brings_command cld) (frames_sent past))) c) ∙ h in
    or_elim (is_open r 0 past) (list_any (brings_command cld) (frames_sent past)) x (λ o. o) (λ o. let t : true ≡ false = sym o ∙ none in cc)

all_called : (r : Role) (past : List station.Act) → ReadsInTime r past → list_any closes (frames_got past) ≡ false → list_any (brings_command cld) (frames_sent past) ≡ false → CallsEach r is_ask is_answer past
all_called r [] h got sent = tt
all_called r (station.Got f ∷ past) h got sent =
    let g = or_parts (closes f) (list_any closes (frames_got past)) got in
    let c = (or_parts (brings_command cld f) (brings_response cld f) g.0).0 in
    (frame_enough r (λ e. state_of r e past) f (λ asks. open_in_time r f past (h.0 asks) c sent), all_called r past h.1 g.1 sent)
all_called r (station.Sent f ∷ past) h got sent = all_called r past h got (or_parts (brings_command cld f) (list_any (brings_command cld) (frames_sent past)) sent).1
all_called r (station.Called c ∷ past) h got sent = all_called r past h got sent
all_called r (station.Tick ∷ past) h got sent = all_called r past h got sent
all_called r (station.Lost ∷ past) h got sent = all_called r past h got sent
all_called r (station.Given ∷ past) h got sent = all_called r past h got sent

-- ## At the end

-- where none is counted no ask is left
pub none_left : (asks : List Ask) → many_asks each_frame asks ≤ 0 → asks ≡ []
none_left [] h = refl
none_left (a ∷ asks) h = absurd (omega (arith, h))

-- the asks that aren't excused
abbrev pub open_asks : List Ask → List Ask
open_asks asks = filter (λ a. not a.is_excused) asks

-- one end asks, and the other has answered enough of each kind
record HasAnswered (r : Role) (line : List Caught) (asking_sent answering_sent : List Frame) : Type 0 where
  stops : StopsAsking (frames_of r line)
  sent : frames_of r line ≡ asking_sent
  came : frames_to r line ≡ answering_sent
  few_modes : many_asks is_mode_command (waiting r line) + many is_mode_answer (frames_to r line) ≤ many is_mode_command (frames_of r line)
  few_downs : many_asks (brings_command cld) (waiting r line) + many (brings_response cld) (frames_to r line) ≤ many (brings_command cld) (frames_of r line)
  few : many_asks each_frame (waiting r line) + many is_answer (frames_to r line) ≤ many is_ask (frames_of r line)
  modes_done : many is_mode_command asking_sent ≤ many is_mode_answer answering_sent
  downs_done : many (brings_command cld) asking_sent ≤ many (brings_response cld) answering_sent
  downs_back : many (brings_command cld) answering_sent ≤ many (brings_response cld) asking_sent
  all_done : list_any closes asking_sent ≡ false → list_any (brings_command cld) answering_sent ≡ false → many is_ask asking_sent ≤ many is_answer answering_sent

none_unanswered : (r : Role) (line : List Caught) (a b : List Frame) → HasAnswered r line a b → unanswered r line ≡ []
none_unanswered r line a b h = by_closes (list_any closes a) refl
  where
    by_closes : (c : Bool) → list_any closes a ≡ c → unanswered r line ≡ []
    by_closes true e =
        let over = excused r line h.stops (ap (list_any closes) h.sent ∙ e) in
        let mo : many is_mode_command (frames_of r line) ≡ many is_mode_command a = ap (many is_mode_command) h.sent in
        let mt : many is_mode_answer (frames_to r line) ≡ many is_mode_answer b = ap (many is_mode_answer) h.came in
        let sent_downs : many (brings_command cld) (frames_of r line) ≡ many (brings_command cld) a = ap (many (brings_command cld)) h.sent in
        let dt : many (brings_response cld) (frames_to r line) ≡ many (brings_response cld) b = ap (many (brings_response cld)) h.came in
        let m = h.few_modes in
        let d = h.few_downs in
        let md = h.modes_done in
        let dd = h.downs_done in
        none_open (waiting r line) over (omega (arith, mo, mt, m, md)) (omega (arith, sent_downs, dt, d, dd))
    by_closes false e =
        let responses = many_fewer (brings_response cld) closes a (λ f k. or_right_of (brings_command cld f) (brings_response cld f) k) in
        let none = none_many closes a e in
        let back = h.downs_back in
        let no_cld = many_none (brings_command cld) b (omega (arith, responses, none, back)) in
        let all = h.all_done e no_cld in
        let o : many is_ask (frames_of r line) ≡ many is_ask a = ap (many is_ask) h.sent in
        let t : many is_answer (frames_to r line) ≡ many is_answer b = ap (many is_answer) h.came in
        let f = h.few in
        ap open_asks (none_left (waiting r line) (omega (arith, o, t, f, all)))
      where
        or_right_of : (x y : Bool) → y ≡ true → (x || y) ≡ true
        or_right_of true y k = refl
        or_right_of false y k = k

-- how many frames the driver has sent by now, and the modem
driver_done : (s : Setting) (n1 : ℕ) (line : List LineAct) (t u : Frame → Bool) → IsLawfulLine s n1 line → IsDone s n1 line → CallsEach Initiator t u (wire (driver_past line)) → many t (frames_sent (modem_past line)) ≤ many u (frames_sent (wire (driver_past line)))
unfolding Complete
driver_done s n1 line t u h done each =
    let past = driver_past line in
    let enough = driver_enough s t u past h.driver_lawful done.driver_live (subst (λ (r : Role). CallsEach r t u (wire past)) (sym h.is_initiator) each) in
    let none : sends u (owed s past) ≡ 0 = ap (sends u) done.driver_complete in
    let came : many t (frames_got (wire past)) ≡ many t (frames_sent (modem_past line)) = ap (many t) done.at_driver in
    omega (arith, enough, none, came)

modem_done : (s : Setting) (n1 : ℕ) (line : List LineAct) (t u : Frame → Bool) → IsLawfulLine s n1 line → IsDone s n1 line → CallsEach Responder t u (modem_past line) → many t (frames_sent (wire (driver_past line))) ≤ many u (frames_sent (modem_past line))
unfolding StationComplete
modem_done s n1 line t u h done each =
    let past = modem_past line in
    let enough = station_enough (responding n1) t u past h.modem_lawful done.modem_live each in
    let none : many u (owed_frames (responding n1) past) ≡ 0 = ap (many u) done.modem_complete in
    let came : many t (frames_got past) ≡ many t (frames_sent (wire (driver_past line))) = ap (many t) done.at_modem in
    omega (arith, enough, none, came)

-- where nothing is under way, each connection was asked for once and commands came in time, each ask was answered or needn't be
pub answers_all : (s : Setting) (n1 : ℕ) (line : List LineAct) → AnswersAll s n1 line
unfolding AnswersAll
answers_all s n1 line h done once at_driver at_modem by_modem stamps =
    let cs = captured stamps line in
    let seen = shows stamps line in
    let d = frames_sent (wire (driver_past line)) in
    let m = frames_sent (modem_past line) in
    let few = few_wait s n1 stamps each_frame is_ask is_answer all_asks line h in
    let few_modes = few_wait s n1 stamps is_mode_command is_mode_command is_mode_answer modes line h in
    let few_downs = few_wait s n1 stamps (brings_command cld) (brings_command cld) (brings_response cld) downs line h in
    let modes_d = driver_done s n1 line is_mode_command is_mode_answer h done (modes_called Initiator (wire (driver_past line))) in
    let modes_m = modem_done s n1 line is_mode_command is_mode_answer h done (modes_called Responder (modem_past line)) in
    let downs_d = driver_done s n1 line (brings_command cld) (brings_response cld) h done (downs_called Initiator (wire (driver_past line)) at_driver) in
    let downs_m = modem_done s n1 line (brings_command cld) (brings_response cld) h done (downs_called Responder (modem_past line) at_modem) in (
      none_unanswered Initiator cs d m
          (record {
            stops = subst (λ (fs : List Frame). StopsAsking fs) (sym seen.driver_frames) (driver_stops s n1 line (record { lawful = h; once = once }));
            sent = seen.driver_frames;
            came = seen.to_driver;
            few_modes = few_modes.0;
            few_downs = few_downs.0;
            few = few.0;
            modes_done = modes_m;
            downs_done = downs_m;
            downs_back = downs_d;
            all_done = λ none no_cld. modem_done s n1 line is_ask is_answer h done (all_called Responder (modem_past line) at_modem (ap (list_any closes) done.at_modem ∙ none) no_cld);
          }),
      none_unanswered Responder cs m d
          (record {
            stops = subst (λ (fs : List Frame). StopsAsking fs) (sym seen.modem_frames) by_modem;
            sent = seen.modem_frames;
            came = seen.to_modem;
            few_modes = few_modes.1;
            few_downs = few_downs.1;
            few = few.1;
            modes_done = modes_d;
            downs_done = downs_d;
            downs_back = downs_m;
            all_done = λ none no_cld. driver_done s n1 line is_ask is_answer h done (all_called Initiator (wire (driver_past line)) at_driver (ap (list_any closes) done.at_driver ∙ none) no_cld);
          }),
    )
