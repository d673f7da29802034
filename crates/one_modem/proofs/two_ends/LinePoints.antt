-- What stands of the two ends at every point of their line.
use Rattle.std.specs.Prelude.{◌≡◌, ℕ, ◌==◌, ◌&&◌, ◌||◌, Bool, true, false, List, [], ◌∷◌, ◌++◌, map, filter, Option, Some, None, refl, if◌then◌else◌}
use Rattle.std.proofs.Common.{sym, ap, ◌∙◌, subst, append_assoc, append-nil}
use Rattle.std.proofs.lemmas.List.Elements.{filter-append}
use Rattle.mux_frame.specs.Frames.{Frame}
use Rattle.mux_frame.specs.declared.frame.Kind.TheVariants.{Sabm}
use Rattle.mux_station.specs.declared.role.Role.TheVariants.{Initiator, Responder}
use Rattle.mux_station.specs.Acts as station
use Rattle.mux_station.specs.Offering.{data_out}
use Rattle.mux_station.specs.Opening.{is_open, opens_now}
use Rattle.mux_station.specs.Sending as sending
use Rattle.mux_station.specs.Written.{is_on}
use Rattle.at_text.specs.Dialects.{standard, is_solicited}
use Rattle.at_text.specs.Lines.{lines, kept_run}
use Rattle.at_text.specs.Windows.{Mark, lines_of}
use Rattle.at_text.proofs.lines.UnfinishedLines.{reads_on}
use Rattle.modem_history.specs.Acts as driver
use Rattle.modem_history.specs.Acts.{Took, Got, Sent, Told, Heard, Tick, Lost, Held, Freed, Given}
use Rattle.modem_history.specs.Calls.{Setting}
use Rattle.modem_history.specs.Connections.{carries, information_got, information_sent, lines_ended, lines_got, lines_on, lines_with, begun_in}
use Rattle.modem_history.specs.Information.{accepted, information_out, line_of}
use Rattle.modem_history.specs.Lawful as driver_laws
use Rattle.modem_history.specs.Placing.{marks}
use Rattle.modem_history.specs.TwoEnds.{AsksOnce, ComesInOrder, TakesCommandLines, frames_got, frames_sent}
use Rattle.modem_history.specs.Placements.{AreCommandLines, AreMarksPlaced, ReadsAccepted}
use Rattle.modem_history.specs.Wholes.{BeginsInTurn, IsPrefixOf}
use Rattle.modem_history.specs.Connections.{PlacesAll}
use Rattle.modem_history.proofs.commands.BegunCommands.{begins_in_turn}
use Rattle.modem_history.proofs.commands.SentCommands.{are_lines, asks_of, sent_behind, while_open}
use Rattle.modem_history.proofs.commands.FramesOnLine.{AsksOne, ComesBehind, asked_first, asks_fewer, asks_older, behind_first, behind_older, hears, info_in, sabm_carries_none}
use Rattle.modem_history.proofs.connections.InformationGrowth.{got_grows, got_same}
use Rattle.modem_history.proofs.lines.MarkPlaces.{are_marks_placed}
use Rattle.modem_history.proofs.commands.CommandPlaces.{places_all}
use Rattle.modem_history.proofs.lines.LinePlaces.{on_both, read_on, with_on}
use Rattle.modem_history.proofs.commands.ReadCommands.{reads_accepted}
use Rattle.modem_sim.specs.Acts as modem
use Rattle.modem_sim.specs.Acts.{End, Wire, Did}
use Rattle.modem_sim.specs.declared.script.StepAct.TheVariants.{Announce, Flow, Hold, Disconnect, CloseDown}
use Rattle.modem_sim.specs.Heard.{heard}
use Rattle.modem_sim.specs.Histories as modem_laws
use Rattle.modem_sim.specs.Histories.{EachAllowed}
use Rattle.modem_sim.specs.Replied.{AnnouncesUnsolicited, IsModem, SendsReplies, all_of, replied_on}
use Rattle.modem_sim.proofs.replies.ReplyOrder.{sends_replies}
use Rattle.one_modem.specs.OneModem.{AtDriver, AtModem, ComesBothWays, EndAct, IsOneLine, IsOneModem, driver_past, driver_wire, modem_past, modem_wire}
use Rattle.one_modem.proofs.two_ends.ResponderFrames.{IsTimeless, answering}
use Rattle.one_modem.proofs.two_ends.InitiatorFrames.{Both, Near, Far, Point, Points, comes_back, far, info_later, near, prefix_more, prefix_then, same_prefix, whole_prefix}

-- ## What a responder gets

-- what came since d opened is the beginning of all that came
heard_first : (d : ℕ) (past : List station.Act) → AsksOne d (frames_got past) → ComesBehind d (frames_got past) → IsPrefixOf (information_got Responder d past) (info_in d (frames_got past))
heard_first d [] one behind = record { rest = []; joins = refl }
heard_first d (station.Got f ∷ past) one behind =
    same_prefix _ _ (if opens_now Responder d past (station.Got f) then [] else (if carries d f && is_open Responder d past then information_got Responder d past ++ f.info else information_got Responder d past)) (info_in d (f ∷ frames_got past))
    (got_grows Responder d past f) refl
    (by_opens d past f (opens_now Responder d past (station.Got f)) (carries d f) (is_open Responder d past) refl refl
    (heard_first d past (asks_fewer d f (frames_got past) one) behind.1) ((hears d past (asks_fewer d f (frames_got past) one) behind.1).all))
  where
    by_opens : (d : ℕ) (past : List station.Act) (f : Frame) (o c i : Bool) → carries d f ≡ c → is_open Responder d past ≡ i → IsPrefixOf (information_got Responder d past) (info_in d (frames_got past))
        → (is_open Responder d past ≡ true → information_got Responder d past ≡ info_in d (frames_got past))
        → IsPrefixOf (if o then [] else (if c && i then information_got Responder d past ++ f.info else information_got Responder d past)) (info_in d (frames_got past) ++ (if c then f.info else []))
    by_opens d past f true c i e g h all = record { rest = info_in d (frames_got past) ++ (if c then f.info else []); joins = refl }
    by_opens d past f false true true e g h all = whole_prefix _ _ (ap (λ z. z ++ f.info) (all g))
    by_opens d past f false true false e g h all = prefix_more (information_got Responder d past) (info_in d (frames_got past)) f.info h
    by_opens d past f false false i e g h all = prefix_more (information_got Responder d past) (info_in d (frames_got past)) [] h
heard_first d (station.Sent f ∷ past) one behind = same_prefix _ _ _ _ (got_same Responder d past (station.Sent f) refl) refl (heard_first d past one behind)
heard_first d (station.Called c ∷ past) one behind = same_prefix _ _ _ _ (got_same Responder d past (station.Called c) refl) refl (heard_first d past one behind)
heard_first d (station.Tick ∷ past) one behind = same_prefix _ _ _ _ (got_same Responder d past station.Tick refl) refl (heard_first d past one behind)
heard_first d (station.Lost ∷ past) one behind = same_prefix _ _ _ _ (got_same Responder d past station.Lost refl) refl (heard_first d past one behind)
heard_first d (station.Given ∷ past) one behind = same_prefix _ _ _ _ (got_same Responder d past station.Given refl) refl (heard_first d past one behind)

none_first : (xs ys : List ℕ) → IsPrefixOf xs ys → ys ≡ [] → xs ≡ []
none_first [] ys h e = refl
none_first (x ∷ xs) ys h e = let g : x ∷ (xs ++ h.rest) ≡ [] = h.joins ∙ e in cc

-- its lines on d are those of its information since d opened
pub lines_heard : (d : ℕ) (past : List station.Act) → AsksOne d (frames_got past) → ComesBehind d (frames_got past) → lines_on d (lines_got Responder past) ≡ lines (information_got Responder d past)
lines_heard d [] one behind = refl
lines_heard d (station.Got f ∷ past) one behind =
    on_both d (lines_got Responder past) (lines_with Responder past f)
    ∙ (ap (λ z. z ++ lines_on d (lines_with Responder past f)) (lines_heard d past (asks_fewer d f (frames_got past) one) behind.1)
    ∙ (ap (λ z. lines (information_got Responder d past) ++ z) (with_on Responder d past f (f.dlci == d) refl)
    ∙ (by_opens d past f one behind.1 (is_on Sabm d f) ((d == 0) || is_open Responder 0 past) (carries d f) (is_open Responder d past) refl refl
    ∙ ap lines (sym (got_grows Responder d past f)))))
  where
    by_opens : (d : ℕ) (past : List station.Act) (f : Frame) → AsksOne d (f ∷ frames_got past) → ComesBehind d (frames_got past) → (o z c i : Bool) → is_on Sabm d f ≡ o → carries d f ≡ c
        → lines (information_got Responder d past) ++ (if c && i then lines_ended Responder d past f else []) ≡ lines (if o && z then [] else (if c && i then information_got Responder d past ++ f.info else information_got Responder d past))
    by_opens d past f one behind true true c i e g =
        let bare : c ≡ false = sabm_carries_none d f c g e in
        let nothing : information_got Responder d past ≡ [] =
        none_first _ _ (heard_first d past (asks_fewer d f (frames_got past) one) behind) (behind_first d (frames_got past) behind (asked_first d f (frames_got past) one e)) in
        ap (λ (b : Bool). lines (information_got Responder d past) ++ (if b && i then lines_ended Responder d past f else [])) bare
        ∙ (append-nil (lines (information_got Responder d past)) ∙ ap lines nothing)
    by_opens d past f one behind true false true true e g = sym (read_on Responder d past f)
    by_opens d past f one behind true false true false e g = append-nil (lines (information_got Responder d past))
    by_opens d past f one behind true false false i e g = append-nil (lines (information_got Responder d past))
    by_opens d past f one behind false z true true e g = sym (read_on Responder d past f)
    by_opens d past f one behind false z true false e g = append-nil (lines (information_got Responder d past))
    by_opens d past f one behind false z false i e g = append-nil (lines (information_got Responder d past))
lines_heard d (station.Sent f ∷ past) one behind = lines_heard d past one behind ∙ ap lines (sym (got_same Responder d past (station.Sent f) refl))
lines_heard d (station.Called c ∷ past) one behind = lines_heard d past one behind ∙ ap lines (sym (got_same Responder d past (station.Called c) refl))
lines_heard d (station.Tick ∷ past) one behind = lines_heard d past one behind ∙ ap lines (sym (got_same Responder d past station.Tick refl))
lines_heard d (station.Lost ∷ past) one behind = lines_heard d past one behind ∙ ap lines (sym (got_same Responder d past station.Lost refl))
lines_heard d (station.Given ∷ past) one behind = lines_heard d past one behind ∙ ap lines (sym (got_same Responder d past station.Given refl))

-- ## Along the line

-- what of the premise holds at every point
pub record Along (s : Setting) (e : End) (line : List EndAct) : Type 0 where
  pub role : s.role ≡ Initiator
  pub driver_lawful : driver_laws.Lawful s (driver_past line)
  pub commands : TakesCommandLines (driver_past line)
  pub station_lawful : sending.StationLawful (answering e.n1) (modem_wire line)
  pub allowed : EachAllowed e (modem_past line)
  pub modem_is : IsModem e.modem
  pub announced : AnnouncesUnsolicited (modem_past line)
  pub one_line : IsOneLine line
  pub once : AsksOnce (driver_wire line)

-- so it is of the whole line of a driver and a modem
pub along : (s : Setting) (e : End) (line : List EndAct) → IsOneModem s e line → Along s e line
along s e line p = record {
  role = p.is_initiator;
  driver_lawful = p.driver_lawful;
  commands = p.commands;
  station_lawful = p.modem_lawful.at_station;
  allowed = p.modem_lawful.acts;
  modem_is = p.modem_is;
  announced = p.announced;
  one_line = p.one_line;
  once = p.once;
}

-- a driver given command lines alone was given such alone before
pub fewer_lines : (a : driver.Act) (past : List driver.Act) → TakesCommandLines (a ∷ past) → TakesCommandLines past
fewer_lines (Took q) past h = h.1
fewer_lines (Got f) past h = h
fewer_lines (Sent f) past h = h
fewer_lines (Told o) past h = h
fewer_lines (Heard k d line) past h = h
fewer_lines Tick past h = h
fewer_lines Lost past h = h
fewer_lines (Held d) past h = h
fewer_lines (Freed d) past h = h
fewer_lines Given past h = h

fewer_asked : (a : driver.Act) (past : List driver.Act) → AsksOnce (driver.wire (a ∷ past)) → AsksOnce (driver.wire past)
fewer_asked (Took q) past h = h
fewer_asked (Got f) past h = h
fewer_asked (Sent f) past h = λ d. asks_fewer d f (frames_sent (driver.wire past)) (h d)
fewer_asked (Told o) past h = h
fewer_asked (Heard k d line) past h = h
fewer_asked Tick past h = h
fewer_asked Lost past h = h
fewer_asked (Held d) past h = h
fewer_asked (Freed d) past h = h
fewer_asked Given past h = h

-- and before the driver's newest act
pub driver_earlier : (s : Setting) (e : End) (a : driver.Act) (line : List EndAct) → Along s e (AtDriver a ∷ line) → Along s e line
unfolding driver_laws.Lawful
driver_earlier s e a line p = record {
  role = p.role;
  driver_lawful = p.driver_lawful.1;
  commands = fewer_lines a (driver_past line) p.commands;
  station_lawful = p.station_lawful;
  allowed = p.allowed;
  modem_is = p.modem_is;
  announced = p.announced;
  one_line = p.one_line.1;
  once = fewer_asked a (driver_past line) p.once;
}

fewer_announced : (a : modem.Act) (past : List modem.Act) → AnnouncesUnsolicited (a ∷ past) → AnnouncesUnsolicited past
fewer_announced (Did (Announce d line)) past h = h.1
fewer_announced (Did (Flow d go)) past h = h
fewer_announced (Did (Hold d n)) past h = h
fewer_announced (Did (Disconnect d)) past h = h
fewer_announced (Did CloseDown) past h = h
fewer_announced (Wire a) past h = h

lawful_before : (n1 : ℕ) (a : modem.Act) (past : List modem.Act) → sending.StationLawful (answering n1) (modem.wire (a ∷ past)) → sending.StationLawful (answering n1) (modem.wire past)
unfolding sending.StationLawful
lawful_before n1 (Did step) past h = h
lawful_before n1 (Wire (station.Sent f)) past h = h.1
lawful_before n1 (Wire (station.Got f)) past h = h
lawful_before n1 (Wire (station.Called c)) past h = h
lawful_before n1 (Wire station.Tick) past h = h
lawful_before n1 (Wire station.Lost) past h = h
lawful_before n1 (Wire station.Given) past h = h

-- and before the modem's
pub modem_earlier : (s : Setting) (e : End) (a : modem.Act) (line : List EndAct) → Along s e (AtModem a ∷ line) → Along s e line
modem_earlier s e a line p = record {
  role = p.role;
  driver_lawful = p.driver_lawful;
  commands = p.commands;
  station_lawful = lawful_before e.n1 a (modem_past line) p.station_lawful;
  allowed = p.allowed.1;
  modem_is = p.modem_is;
  announced = fewer_announced a (modem_past line) p.announced;
  one_line = p.one_line.1;
  once = p.once;
}

-- a simulated modem has no ticks, and loses no line
pub timeless : (e : End) (past : List modem.Act) → EachAllowed e past → IsTimeless (modem.wire past)
timeless e [] may = tt
timeless e (Did step ∷ past) may = timeless e past may.1
timeless e (Wire (station.Got f) ∷ past) may = timeless e past may.1
timeless e (Wire (station.Sent f) ∷ past) may = timeless e past may.1
timeless e (Wire (station.Called c) ∷ past) may = timeless e past may.1
timeless e (Wire station.Given ∷ past) may = timeless e past may.1
timeless e (Wire station.Tick ∷ past) may = absurd may.0
timeless e (Wire station.Lost ∷ past) may = absurd may.0

-- what came at each end of one line are the first frames that the other sent
pub both_ways : (line : List EndAct) → IsOneLine line → ComesBothWays line
both_ways [] h = record { at_modem = record { later = []; sent_are = refl }; at_driver = record { later = []; sent_are = refl } }
both_ways (a ∷ line) h = h.0

-- ## The stations' acts

driven : driver.Act → List Both → List Both
driven a line = onto (driver.wire_act a)
  where
    onto : Option station.Act → List Both
    onto None = line
    onto (Some w) = Near w ∷ line

abbrev stations : List EndAct → List Both
stations [] = []
stations (AtDriver a ∷ line) = driven a (stations line)
stations (AtModem (Wire a) ∷ line) = Far a ∷ stations line
stations (AtModem (Did step) ∷ line) = stations line

near_driven : (a : driver.Act) (line : List Both) (past : List driver.Act) → near line ≡ driver.wire past → near (driven a line) ≡ driver.wire (a ∷ past)
unfolding driven
near_driven (Took q) line past h = h
near_driven (Got f) line past h = ap (λ z. station.Got f ∷ z) h
near_driven (Sent f) line past h = ap (λ z. station.Sent f ∷ z) h
near_driven (Told o) line past h = h
near_driven (Heard k d l) line past h = h
near_driven Tick line past h = ap (λ z. station.Tick ∷ z) h
near_driven Lost line past h = ap (λ z. station.Lost ∷ z) h
near_driven (Held d) line past h = h
near_driven (Freed d) line past h = h
near_driven Given line past h = ap (λ z. station.Given ∷ z) h

far_driven : (a : driver.Act) (line : List Both) → far (driven a line) ≡ far line
unfolding driven
far_driven (Took q) line = refl
far_driven (Got f) line = refl
far_driven (Sent f) line = refl
far_driven (Told o) line = refl
far_driven (Heard k d l) line = refl
far_driven Tick line = refl
far_driven Lost line = refl
far_driven (Held d) line = refl
far_driven (Freed d) line = refl
far_driven Given line = refl

near_is : (line : List EndAct) → near (stations line) ≡ driver_wire line
near_is [] = refl
near_is (AtDriver a ∷ line) = near_driven a (stations line) (driver_past line) (near_is line)
near_is (AtModem (Wire a) ∷ line) = near_is line
near_is (AtModem (Did step) ∷ line) = near_is line

far_is : (line : List EndAct) → far (stations line) ≡ modem_wire line
far_is [] = refl
far_is (AtDriver a ∷ line) = far_driven a (stations line) ∙ far_is line
far_is (AtModem (Wire a) ∷ line) = ap (λ z. a ∷ z) (far_is line)
far_is (AtModem (Did step) ∷ line) = far_is line

point_at : (s : Setting) (e : End) (line : List EndAct) (both : List Both) → near both ≡ driver_wire line → far both ≡ modem_wire line → Along s e line → Point e.n1 both
point_at s e line both n f p =
    let ways = both_ways line p.one_line in
    record {
      there = subst (λ w. ComesInOrder w (far both)) (sym n) (subst (λ w. ComesInOrder (driver_wire line) w) (sym f) ways.at_modem);
      back = subst (λ w. ComesInOrder w (near both)) (sym f) (subst (λ w. ComesInOrder (modem_wire line) w) (sym n) ways.at_driver);
      once = subst (λ w. AsksOnce w) (sym n) p.once;
      timeless = subst (λ w. IsTimeless w) (sym f) (timeless e (modem_past line) p.allowed);
      lawful = subst (λ w. sending.StationLawful (answering e.n1) w) (sym f) p.station_lawful;
    }

points_driven : (n1 : ℕ) (a : driver.Act) (line : List Both) → Point n1 (driven a line) → Points n1 line → Points n1 (driven a line)
unfolding driven
points_driven n1 (Took q) line p ps = ps
points_driven n1 (Got f) line p ps = (p, ps)
points_driven n1 (Sent f) line p ps = (p, ps)
points_driven n1 (Told o) line p ps = ps
points_driven n1 (Heard k d l) line p ps = ps
points_driven n1 Tick line p ps = (p, ps)
points_driven n1 Lost line p ps = (p, ps)
points_driven n1 (Held d) line p ps = ps
points_driven n1 (Freed d) line p ps = ps
points_driven n1 Given line p ps = (p, ps)

points : (s : Setting) (e : End) (line : List EndAct) → Along s e line → Points e.n1 (stations line)
points s e [] p = point_at s e [] [] refl refl p
points s e (AtDriver a ∷ line) p =
    points_driven e.n1 a (stations line) (point_at s e (AtDriver a ∷ line) (driven a (stations line)) (near_is (AtDriver a ∷ line)) (far_is (AtDriver a ∷ line)) p)
    (points s e line (driver_earlier s e a line p))
points s e (AtModem (Wire a) ∷ line) p =
    (point_at s e (AtModem (Wire a) ∷ line) (Far a ∷ stations line) (near_is (AtModem (Wire a) ∷ line)) (far_is (AtModem (Wire a) ∷ line)) p, points s e line (modem_earlier s e (Wire a) line p))
points s e (AtModem (Did step) ∷ line) p = points s e line (modem_earlier s e (Did step) line p)

-- ## What was read and what came back

-- the marks of d at the driver
abbrev pub marks_at : Setting → ℕ → List EndAct → List Mark
marks_at s d line = marks s.role d (driver_past line)

-- the modem's replies to the lines on d
abbrev pub replies_at : End → ℕ → List EndAct → List (List (List ℕ))
replies_at e d line = replied_on e.echo d e.modem (heard (modem_past line))

-- at the modem each connection was asked for once at most
pub once_there : (s : Setting) (e : End) (line : List EndAct) → Along s e line → (d : ℕ) → AsksOne d (frames_got (modem_wire line))
once_there s e line p d =
    let ways = both_ways line p.one_line in
    asks_older d ways.at_modem.later (frames_got (modem_wire line)) (subst (AsksOne d) ways.at_modem.sent_are (p.once d))

-- and information came on it behind its SABM alone
pub behind_there : (s : Setting) (e : End) (line : List EndAct) → Along s e line → (d : ℕ) → ComesBehind d (frames_got (modem_wire line))
behind_there s e line p d =
    let ways = both_ways line p.one_line in
    behind_older d ways.at_modem.later (frames_got (modem_wire line))
    (subst (ComesBehind d) ways.at_modem.sent_are (sent_behind d (driver_wire line) (p.once d) (while_open s (driver_past line) p.role p.driver_lawful)))

lines_first : (x y : List ℕ) → IsPrefixOf x y → IsPrefixOf (lines x) (lines y)
lines_first x y h = record { rest = lines (kept_run x ++ h.rest); joins = sym (reads_on x h.rest).reads_kept ∙ ap lines h.joins }

-- the same as a beginning is a beginning of the same as the whole
pub first_same : {A : Type 0} (xs us ys vs : List A) → xs ≡ us → ys ≡ vs → IsPrefixOf us vs → IsPrefixOf xs ys
first_same xs us ys vs e g h = record { rest = h.rest; joins = ap (λ z. z ++ h.rest) e ∙ (h.joins ∙ sym g) }

-- a beginning of a beginning is one of the whole
pub first_then : {A : Type 0} (xs ys zs : List A) → IsPrefixOf xs ys → IsPrefixOf ys zs → IsPrefixOf xs zs
first_then xs ys zs h g = record { rest = h.rest ++ g.rest; joins = sym (append_assoc xs h.rest g.rest) ∙ (ap (λ z. z ++ g.rest) h.joins ∙ g.joins) }

-- the lines on d that the modem read are the first of the commands that began there
pub read_first : (s : Setting) (e : End) (line : List EndAct) → Along s e line → (d : ℕ) → IsPrefixOf (lines_on d (heard (modem_past line))) (begun_in (marks_at s d line))
unfolding ReadsAccepted BeginsInTurn
read_first s e line p d =
    let past = driver_past line in
    let w = driver_wire line in
    let ways = both_ways line p.one_line in
    let one = once_there s e line p d in
    let behind = behind_there s e line p d in
    let all : information_sent Initiator d w ≡ info_in d (frames_sent w) = (asks_of d w (p.once d) (while_open s past p.role p.driver_lawful)).all in
    let sent : info_in d (ways.at_modem.later ++ frames_got (modem_wire line)) ≡ information_out s.role d past =
    ap (info_in d) (sym ways.at_modem.sent_are) ∙ (sym all ∙ ap (λ r. information_sent r d w) (sym p.role)) in
    let came = prefix_then (information_got Responder d (modem_wire line)) (info_in d (frames_got (modem_wire line))) (information_out s.role d past)
    (heard_first d (modem_wire line) one behind)
    (same_prefix (info_in d (frames_got (modem_wire line))) (information_out s.role d past) (info_in d (frames_got (modem_wire line))) (info_in d (ways.at_modem.later ++ frames_got (modem_wire line))) refl (sym sent) (info_later d ways.at_modem.later (frames_got (modem_wire line)))) in
    let texts : AreCommandLines (map line_of (accepted s.role d past)) = subst (λ r. AreCommandLines (map line_of (accepted r d past))) (sym p.role) (are_lines d past p.commands) in
    let began : begun_in (marks_at s d line) ≡ lines (information_out s.role d past) = (begins_in_turn s past p.driver_lawful d).first ∙ sym (reads_accepted s past p.driver_lawful d texts) in
    first_same (lines_on d (heard (modem_past line))) (lines (information_got Responder d (modem_wire line))) (begun_in (marks_at s d line)) (lines (information_out s.role d past))
    (lines_heard d (modem_wire line) one behind) began (lines_first _ _ came)

-- of the lines that are placed on d those that aren't unsolicited are the first of the replies
pub replied_first : (s : Setting) (e : End) (line : List EndAct) → Along s e line → (d : ℕ) → IsPrefixOf (filter (is_solicited standard) (lines_of (marks_at s d line))) (filter (is_solicited standard) (all_of (replies_at e d line)))
unfolding SendsReplies AreMarksPlaced PlacesAll
replied_first s e line p d =
    let past = driver_past line in
    let one = once_there s e line p d in
    let placed_so = are_marks_placed s past p.driver_lawful d in
    let lines_so : lines_of (marks_at s d line) ≡ lines (information_got Initiator d (driver_wire line)) =
    ap lines_of placed_so ∙ ((places_all s.role (driver_wire line) d (map line_of (accepted s.role d past))).lines_are ∙ ap (λ r. lines (information_got r d (driver_wire line))) p.role) in
    let back = comes_back e.n1 d (stations line) (points s e line p) (subst (λ w. AsksOne d (frames_got w)) (sym (far_is line)) one) in
    let came : IsPrefixOf (information_got Initiator d (driver_wire line)) (data_out Responder d (modem_wire line)) =
    same_prefix _ _ (information_got Initiator d (near (stations line))) (data_out Responder d (far (stations line))) (ap (information_got Initiator d) (sym (near_is line))) (ap (data_out Responder d) (sym (far_is line))) back in
    let first = lines_first _ _ came in
    let lawful : modem_laws.SimLawful e (modem_past line) = record { at_station = p.station_lawful; acts = p.allowed } in
    let solicited : IsPrefixOf (filter (is_solicited standard) (lines_of (marks_at s d line))) (filter (is_solicited standard) (lines (data_out Responder d (modem_wire line)))) =
    record { rest = filter (is_solicited standard) first.rest; joins = ap (λ z. filter (is_solicited standard) z ++ filter (is_solicited standard) first.rest) lines_so ∙ (sym (filter-append (is_solicited standard) (lines (information_got Initiator d (driver_wire line))) first.rest) ∙ ap (filter (is_solicited standard)) first.joins) } in
    first_then _ _ _ solicited (sends_replies e (modem_past line) lawful p.modem_is p.announced d one)
