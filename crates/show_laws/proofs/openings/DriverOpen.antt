-- The driver sends data where what passed says that the connection is open.
use Rattle.std.specs.Prelude.{◌≡◌, zero, ℕ, ◌+◌, ◌==◌, ◌≤◌, ◌&&◌, ◌||◌, not, Bool, true, false, List, [], ◌∷◌, ◌++◌, drop, filter, suc, Option, Some, None, refl, is_none, if◌then◌else◌}
use Rattle.std.specs.List.{list_all}
use Rattle.std.proofs.Common.{ap, arith, sym, ◌∙◌, eqb-true}
use Rattle.std.proofs.lemmas.Bool.{and_parts, or_from, or_parts}
use Rattle.mux_frame.specs.Frames.{Frame}
use Rattle.mux_frame.specs.declared.frame.Kind.{Kind}
use Rattle.mux_frame.specs.declared.frame.Kind.TheVariants.{Sabm, Ua, Dm, Disc, Uih}
use Rattle.mux_capture.specs.declared.packet.Stamp.{Stamp}
use Rattle.mux_station.specs.declared.role.Role.{Role}
use Rattle.mux_station.specs.declared.role.Role.TheVariants.{Initiator, Responder}
use Rattle.mux_station.specs.Acts as station
use Rattle.mux_station.specs.Messages.{Message, cld, command_of, test, brings_command, message_in, message_of, octet_is}
use Rattle.mux_station.specs.Opening.{ends, is_mode_frame_on, is_open}
use Rattle.mux_station.specs.States.{ends_itself, State, IsShut, IsOpening, IsOpened, IsClosing, IsStopping, is_opened, is_stopping, state_of}
use Rattle.mux_station.specs.Tables.{by_frame, by_message, by_table, held_up, is_opening, message_frame, ready}
use Rattle.mux_station.specs.Written.{is_data_frame, is_kind, is_on}
use Rattle.mux_station.proofs.states.OpeningSteps.{is_open_after, opening_asked}
use Rattle.modem_history.specs.Acts.{Act, Took, Got, Sent, Told, Heard, Tick, Lost, Held, Freed, Given, wire}
use Rattle.modem_history.specs.Calls.{Setting, asking, at_once, calls_behind, frames_by, seen_behind}
use Rattle.modem_history.specs.Lawful.{IsNext, Lawful, When, owed, owes_frame, unsent}
use Rattle.modem_history.specs.TwoEnds.{AsksOnce, frames_got, frames_sent}
use Rattle.modem_history.proofs.commands.FramesOnLine.{asked_first, asks_fewer}
use Rattle.modem_show.specs.Asking.{Ask, answered_by, answers, both_respond, is_again, is_mode_answer, is_mode_command, waiting}
use Rattle.modem_show.specs.Ends.{handled, own}
use Rattle.show_laws.specs.Lines.{AtDriver, AtModem, IsLawfulLine, LineAct, captured, driver_past, modem_past}
use Rattle.show_laws.proofs.asks.AnswerShapes.{is_shaped, message_no_mode, or_elim}
use Rattle.show_laws.proofs.asks.AnswersCalled.{AnyProbe}
use Rattle.show_laws.proofs.asks.NoneUnasked.{any_asked, driver_shaped}
use Rattle.show_laws.proofs.asks.WaitingAsks.{many_asks}
use Rattle.show_laws.proofs.counts.ManyFrames.{few_if, many, unit}
use Rattle.show_laws.proofs.counts.BalancedTables.{Balanced, none_of_flow, none_of_tick}
use Rattle.show_laws.proofs.counts.DriverCounts.{asked, called, dropped, none_owed, sends, sends_both, unsent_none}
use Rattle.show_laws.proofs.lines.CapturedFrames.{both_ways, came_few}
use Rattle.show_laws.proofs.lines.EveryFrame.{lawful_before}
use Rattle.show_laws.proofs.openings.ModeAnswers.{ending_balanced, ending_modes, is_ending, messaged, sabm_never, tabled}
use Rattle.show_laws.proofs.openings.OpenBelowZero.{below, many_or}
use Rattle.show_laws.proofs.openings.ResponderCalls.{any_down_called, down_balanced, down_frames, each_frame, is_down, not_cld, table_not_down}
use Rattle.show_laws.proofs.openings.UaBehindSabm.{ua_behind}
use Rattle.show_laws.proofs.openings.QuietFrames.{Quiet, asked_at, ender_shuts, is_ender, open_at, quiet_asked, quiet_open, zero_at}
use Rattle.show_laws.proofs.openings.DriverFollows.{Follows, fewer_step, got_step, passed_step, sent_step}
use Rattle.show_laws.proofs.openings.SentRequests.{found_one}

-- ## What is answered is quiet

off_and : (a x : Bool) → x ≡ false → (a && x) ≡ false
off_and true x h = h
off_and false x h = refl

off_four : (a b c e : Bool) → a ≡ false → b ≡ false → c ≡ false → e ≡ false → (a || (b || (c || e))) ≡ false
off_four true b c e g h i j = cc
off_four false true c e g h i j = cc
off_four false false true e g h i j = cc
off_four false false false e g h i j = j

off_place : (a b c e x : Bool) → x ≡ false → ((a && x) || ((b && x) || ((c && x) || (e && x)))) ≡ false
off_place a b c e x h = off_four (a && x) (b && x) (c && x) (e && x) (off_and a x h) (off_and b x h) (off_and c x h) (off_and e x h)

off_kinds : (a b c e x : Bool) → (a || e) ≡ false → (b || c) ≡ false → ((a && x) || ((b && x) || ((c && x) || (e && x)))) ≡ false
off_kinds true b c e x h k = cc
off_kinds false b c true x h k = cc
off_kinds false true c false x h k = cc
off_kinds false false true false x h k = cc
off_kinds false false false false x h k = refl

-- what is answered by a frame but a UA or DM on d or 0 is quiet on d, if it is no CLD
pub quiet_one : (d : ℕ) (f g : Frame) → answers f g ≡ true → is_ending d g ≡ false → brings_command cld f ≡ false → Quiet d f
quiet_one d f g h e no_cld =
    or_elim ((is_mode_command f && is_mode_answer g) && (f.dlci == g.dlci)) (both_respond (message_in f) (message_in g)) h
    (λ k.
    let p = and_parts (is_mode_command f && is_mode_answer g) (f.dlci == g.dlci) k in
    let q = and_parts (is_mode_command f) (is_mode_answer g) p.0 in
    let same = eqb-true f.dlci g.dlci p.1 in
    let away = or_parts (g.dlci == d) (g.dlci == 0) (sym (ap (λ (b : Bool). b && ((g.dlci == d) || (g.dlci == 0))) q.1) ∙ e) in
    record { mode = at d (ap (λ n. n == d) same ∙ away.0); mode_of_zero = at 0 (ap (λ n. n == 0) same ∙ away.1); no_cld = no_cld })
    (λ k. by_message (message_in f) refl k)
  where
    at : (n : ℕ) → (f.dlci == n) ≡ false → is_mode_frame_on n f ≡ false
    at n h = off_place (is_kind f.kind Sabm) (is_kind f.kind Ua) (is_kind f.kind Dm) (is_kind f.kind Disc) (f.dlci == n) h

    by_message : (o : Option Message) → message_in f ≡ o → both_respond o (message_in g) ≡ true → Quiet d f
    by_message None m k = cc
    by_message (Some m) is k =
        let n = message_no_mode f m is in
        record {
          mode = off_kinds (is_kind f.kind Sabm) (is_kind f.kind Ua) (is_kind f.kind Dm) (is_kind f.kind Disc) (f.dlci == d) n.0 n.1;
          mode_of_zero = off_kinds (is_kind f.kind Sabm) (is_kind f.kind Ua) (is_kind f.kind Dm) (is_kind f.kind Disc) (f.dlci == 0) n.0 n.1;
          no_cld = no_cld;
        }

-- the answers by which d may end, and the response to a CLD
abbrev pub ends_by : ℕ → Frame → Bool
ends_by d g = is_ending d g || is_down g

quiet_handled : (d : ℕ) (g : Frame) (asks : List Ask) (q : List station.Act) (o : Option Ask) → answered_by g asks ≡ o → is_shaped g ≡ true → ends_by d g ≡ false
    → (open_at d (handled o ++ q) ≡ open_at d q) × (asked_at d (handled o ++ q) ≡ asked_at d q)
quiet_handled d g asks q None e shape ending = (refl, refl)
quiet_handled d g asks q (Some a) e shape ending =
    let p = (found_one (λ f. false) (λ f. answers f g) asks a e (none_pass asks)).0 in
    let parts = or_parts (is_ending d g) (is_down g) ending in
    by_again (is_again a) (quiet_one d a.frame g p parts.0 (not_cld a.frame g shape p parts.1))
  where
    none_pass : (xs : List Ask) → many_asks (λ f. false) xs ≤ 0
    none_pass [] = omega arith
    none_pass (x ∷ xs) = let k = none_pass xs in omega (arith, k)

    by_again : (b : Bool) → Quiet d a.frame → (open_at d ((if b then [] else station.Got a.frame ∷ []) ++ q) ≡ open_at d q) × (asked_at d ((if b then [] else station.Got a.frame ∷ []) ++ q) ≡ asked_at d q)
    by_again true h = (refl, refl)
    by_again false h = (quiet_open d a.frame q h, quiet_asked d a.frame q h)

-- ## The line

-- where a filter leaves none, none is counted
pub none_filtered : (t : Frame → Bool) (fs : List Frame) → filter t fs ≡ [] → many t fs ≤ 0
none_filtered t [] h = omega arith
none_filtered t (f ∷ fs) h = by_test (t f) refl h (none_filtered t fs)
  where
    by_test : (b : Bool) → t f ≡ b → (if b then f ∷ filter t fs else filter t fs) ≡ [] → (filter t fs ≡ [] → many t fs ≤ 0) → unit (t f) + many t fs ≤ 0
    by_test true e h rest = cc
    by_test false e h rest = let x : unit (t f) ≡ 0 = ap unit e in let y = rest h in omega (arith, x, y)

-- a lawful line on which each connection is asked for once
pub record IsOnceLine (s : Setting) (n1 : ℕ) (line : List LineAct) : Type 0 where
  pub lawful : IsLawfulLine s n1 line
  pub once : AsksOnce (wire (driver_past line))

-- where each connection was asked for once with an act, it was so before it
pub once_before : (a : Act) (past : List Act) → AsksOnce (wire (a ∷ past)) → AsksOnce (wire past)
once_before (Sent f) past h = λ d. asks_fewer d f (frames_sent (wire past)) (h d)
once_before (Took q) past h = h
once_before (Got f) past h = h
once_before (Told o) past h = h
once_before (Heard k d l) past h = h
once_before Tick past h = h
once_before Lost past h = h
once_before (Held d) past h = h
once_before (Freed d) past h = h
once_before Given past h = h

-- so it is of a line
pub once_line_before : (s : Setting) (n1 : ℕ) (x : LineAct) (line : List LineAct) → IsOnceLine s n1 (x ∷ line) → IsOnceLine s n1 line
once_line_before s n1 (AtDriver a) line h = record { lawful = lawful_before s n1 (AtDriver a) line h.lawful; once = once_before a (driver_past line) h.once }
once_line_before s n1 (AtModem a) line h = record { lawful = lawful_before s n1 (AtModem a) line h.lawful; once = h.once }

-- the acts of the driver by what passed
abbrev pub seen_by : (ℕ → Stamp) → List LineAct → List station.Act
seen_by stamps line = own Initiator (captured stamps line)

-- how many answers it owes by which d may end
abbrev pub ending_owed : Setting → ℕ → List Act → ℕ
ending_owed s d past = sends (ends_by d) (owed s past)

-- how many SABM on d it owes
abbrev pub sabms_owed : Setting → ℕ → List Act → ℕ
sabms_owed s d past = sends (is_on Sabm d) (owed s past)

-- how many UA on d the modem sent
abbrev pub uas_sent : ℕ → List LineAct → ℕ
uas_sent d line = many (is_on Ua d) (frames_sent (modem_past line))

-- and how many came to the driver
abbrev pub uas_got : ℕ → List Act → ℕ
uas_got d past = many (is_on Ua d) (frames_got (wire past))

-- the driver's past beside what passed, with these counts
abbrev pub FollowsAt : Setting → ℕ → (ℕ → Stamp) → List LineAct → Type 0
FollowsAt s d stamps line =
    Follows d (wire (driver_past line)) (seen_by stamps line) (ending_owed s d (driver_past line)) (sabms_owed s d (driver_past line)) (uas_sent d line) (uas_got d (driver_past line))

-- a SABM is sent where no UA on its connection is under way
level : (s : Setting) (n1 d : ℕ) (f : Frame) (line : List LineAct) → IsOnceLine s n1 (AtDriver (Sent f) ∷ line) → is_on Sabm d f ≡ true → uas_sent d line ≤ uas_got d (driver_past line)
level s n1 d f line h is =
    let first = none_filtered (is_on Sabm d) (frames_sent (wire (driver_past line))) (asked_first d f (frames_sent (wire (driver_past line))) (h.once d) is) in
    let came = came_few (is_on Sabm d) (wire (driver_past line)) (modem_past line) (both_ways line h.lawful.one_line.1).at_modem in
    let none = ua_behind n1 d (modem_past line) h.lawful.modem_lawful (omega (arith, first, came)) in
    omega (arith, none)

-- a frame that is sent, and those owed after it, are no more of a test than were owed, where data is none
pub sent_counts : (s : Setting) (d : ℕ) (u t : Frame → Bool) (past : List Act) (f : Frame) (b : Bool) → is_data_frame f ≡ b → (b ≡ true → u f ≡ false) → When (not b) (IsNext (owed s past) (Sent f))
    → sends u (if b then owed s past else drop 1 (owed s past)) + unit (u f) ≤ sends u (owed s past)
sent_counts s d u t past f true is plain n = let e : unit (u f) ≡ 0 = ap unit (plain refl) in omega (arith, e)
sent_counts s d u t past f false is plain n =
    let e : sends u (owed s past) ≡ unit (u f) + sends u n.later = ap (sends u) n.is_next in
    let k : sends u (drop 1 (owed s past)) ≡ sends u n.later = ap (λ (xs : List Act). sends u (drop 1 xs)) n.is_next in
    omega (arith, e, k)

data_no_sabm : (k : Kind) (x : Bool) → is_kind k Uih ≡ true → (is_kind k Sabm && x) ≡ false
data_no_sabm Uih x h = refl
data_no_sabm Sabm x h = cc
data_no_sabm Ua x h = cc
data_no_sabm Dm x h = cc
data_no_sabm Disc x h = cc

-- data is no answer by which a connection may end
pub data_no_ending : (k : Kind) (x y c : Bool) → is_kind k Uih ≡ true → y ≡ false → (((is_kind k Ua || is_kind k Dm) && x) || ((is_kind k Uih && y) && c)) ≡ false
data_no_ending Uih x true c h e = cc
data_no_ending Uih x false c h e = refl
data_no_ending Sabm x y c h e = cc
data_no_ending Ua x y c h e = cc
data_no_ending Dm x y c h e = cc
data_no_ending Disc x y c h e = cc

driver_sent : (s : Setting) (n1 d : ℕ) (stamps : ℕ → Stamp) (f : Frame) (line : List LineAct) → IsOnceLine s n1 (AtDriver (Sent f) ∷ line) → FollowsAt s d stamps line → FollowsAt s d stamps (AtDriver (Sent f) ∷ line)
unfolding Lawful
driver_sent s n1 d stamps f line h k =
    let past = driver_past line in
    let q = seen_by stamps line in
    let waits = waiting Responder (captured stamps line) in
    let kind = λ (is : is_data_frame f ≡ true). (and_parts (is_kind f.kind Uih) (not (f.dlci == 0)) is).0 in
    let place = λ (is : is_data_frame f ≡ true). turned (f.dlci == 0) (and_parts (is_kind f.kind Uih) (not (f.dlci == 0)) is).1 in
    let owing = h.lawful.driver_lawful.0.controlled in
    let shape = (and_parts (is_shaped f) (list_all is_shaped (frames_sent (wire past))) (driver_shaped s (Sent f ∷ past) h.lawful.driver_lawful)).0 in
    sent_step d (wire past) q (handled (answered_by f waits) ++ q) (ending_owed s d past) (ending_owed s d (Sent f ∷ past)) (sabms_owed s d past) (sabms_owed s d (Sent f ∷ past)) (uas_sent d line) (uas_got d past) f (ends_by d f) k
    (sent_counts s d (ends_by d) (ends_by d) past f (is_data_frame f) refl (λ is. data_no_ending f.kind ((f.dlci == d) || (f.dlci == 0)) (f.dlci == 0) (octet_is command_of cld (message_of f.info)) (kind is) (place is)) owing)
    (sent_counts s d (is_on Sabm d) (is_on Sabm d) past f (is_data_frame f) refl (λ is. data_no_sabm f.kind (f.dlci == d) (kind is)) owing)
    (level s n1 d f line h)
    (λ ending. quiet_handled d f waits q (answered_by f waits) refl shape ending)
  where
    turned : (b : Bool) → not b ≡ true → b ≡ false
    turned false e = refl
    turned true e = cc

-- ## What ends a connection

no_other : (a b : Bool) → a ≡ false → (a && b) ≡ false
no_other true b e = cc
no_other false b e = refl

-- a CLD that is answered shuts all
down_shuts : (s : Setting) (d : ℕ) (past : List Act) (f : Frame) → s.role ≡ Initiator → Lawful s past → ((is_opened (state_of s.role 0 (wire past)) || is_stopping (state_of s.role 0 (wire past))) ≡ true) → brings_command cld f ≡ true
    → (open_at d (station.Got f ∷ wire past) ≡ false) × (asked_at d (station.Got f ∷ wire past) ≡ false)
down_shuts s d past f is l stands down =
    or_elim (is_opened (state_of s.role 0 p)) (is_stopping (state_of s.role 0 p)) stands
    (λ o.
    let z = sym (ap (λ (r : Role). is_opened (state_of r 0 p)) is) ∙ o in
    let e = ended z in
    (is_open_after Initiator d p (station.Got f) ∙ closed (open_at d p) (ends (zero_at d p) d (station.Got f)) e, unasked (asked_at d p) (is_mode_frame_on d f) (ends (zero_at d p) d (station.Got f)) e))
    (λ o. let t = neither (stopping_state o) in (is_open_after Initiator d p (station.Got f) ∙ kept_shut (open_at d p) (ends (zero_at d p) d (station.Got f)) t.0, no_other (asked_at d p) (not (is_mode_frame_on d f || ends (zero_at d p) d (station.Got f))) t.1))
  where
    p : List station.Act
    p = wire past

    bare : is_on Ua d f ≡ false
    bare = no_ua f.kind (f.dlci == 0) (f.dlci == d) (octet_is (λ n. n) cld (message_of f.info)) down
      where
        no_ua : (k : Kind) (y x c : Bool) → ((is_kind k Uih && y) && c) ≡ true → (is_kind k Ua && x) ≡ false
        no_ua Uih y x c h = refl
        no_ua Sabm y x c h = cc
        no_ua Ua y x c h = cc
        no_ua Dm y x c h = cc
        no_ua Disc y x c h = cc

    ended : zero_at d p ≡ true → ends (zero_at d p) d (station.Got f) ≡ true
    ended z = ap (λ (b : Bool). b || (not (d == 0) && ends_itself (zero_at d p) 0 (station.Got f))) (last (is_on Disc d f) (is_on Dm d f) (is_on Sabm d f) (zero_at d p) (brings_command cld f) z down)
      where
        last : (a b c z k : Bool) → z ≡ true → k ≡ true → (a || (b || (c || (z && k)))) ≡ true
        last true b c z k e g = refl
        last false true c z k e g = refl
        last false false true z k e g = refl
        last false false false true k e g = g
        last false false false false k e g = cc

    closed : (o e : Bool) → e ≡ true → ((is_on Ua d f && asked_at d p) || (o && not e)) ≡ false
    closed o true g = or_from (is_on Ua d f && asked_at d p) (o && false) (no_other (is_on Ua d f) (asked_at d p) bare) (off o)
      where
        off : (b : Bool) → (b && false) ≡ false
        off true = refl
        off false = refl
    closed o false g = cc

    unasked : (k m e : Bool) → e ≡ true → (k && not (m || e)) ≡ false
    unasked k m false h = cc
    unasked true true true h = refl
    unasked true false true h = refl
    unasked false m true h = refl

    kept_shut : (o e : Bool) → o ≡ false → ((is_on Ua d f && asked_at d p) || (o && not e)) ≡ false
    kept_shut true e g = cc
    kept_shut false e g = or_from (is_on Ua d f && asked_at d p) false (no_other (is_on Ua d f) (asked_at d p) bare) refl

    stopping_state : is_stopping (state_of s.role 0 p) ≡ true → is_stopping (state_of Initiator 0 p) ≡ true
    stopping_state o = sym (ap (λ (r : Role). is_stopping (state_of r 0 p)) is) ∙ o

    not_both : (x : State) → is_stopping x ≡ true → (is_opened x ≡ false) × (is_opening x ≡ false)
    not_both (IsStopping n) h = (refl, refl)
    not_both IsShut h = cc
    not_both (IsOpening n) h = cc
    not_both IsOpened h = cc
    not_both (IsClosing n) h = cc

    parts : (a b : Bool) → (a && not b) ≡ false → b ≡ false → a ≡ false
    parts true true h e = cc
    parts true false h e = cc
    parts false b h e = refl

    -- 0 is neither open nor asked for while it is Stopping, and so is d
    neither : is_stopping (state_of Initiator 0 p) ≡ true → (open_at d p ≡ false) × (asked_at d p ≡ false)
    neither o = by_zero (d == 0) refl
      where
        shut_zero : is_open Initiator 0 p ≡ false
        shut_zero = (not_both (state_of Initiator 0 p) o).0

        unasked_zero : asked_at 0 p ≡ false
        unasked_zero = parts (asked_at 0 p) (open_at 0 p) (sym (opening_asked 0 p) ∙ (not_both (state_of Initiator 0 p) o).1) shut_zero

        by_up : (b : Bool) → (open_at d p || asked_at d p) ≡ b → (d == 0) ≡ false → (open_at d p ≡ false) × (asked_at d p ≡ false)
        by_up false e apart = or_parts (open_at d p) (asked_at d p) e
        by_up true e apart = absurd (let t : true ≡ false = sym ((below s d past is apart l).up e) ∙ shut_zero in cc)

        by_zero : (b : Bool) → (d == 0) ≡ b → (open_at d p ≡ false) × (asked_at d p ≡ false)
        by_zero false apart = by_up (open_at d p || asked_at d p) refl apart
        by_zero true e = (ap (λ n. open_at n p) (eqb-true d 0 e) ∙ shut_zero, ap (λ n. asked_at n p) (eqb-true d 0 e) ∙ unasked_zero)

one_ender : (b : Bool) → 1 ≤ unit b → b ≡ true
one_ender true h = refl
one_ender false h = absurd (omega (arith, h))

driver_got : (s : Setting) (n1 d : ℕ) (stamps : ℕ → Stamp) (f : Frame) (line : List LineAct) → IsOnceLine s n1 (AtDriver (Got f) ∷ line) → FollowsAt s d stamps line → FollowsAt s d stamps (AtDriver (Got f) ∷ line)
unfolding Lawful
driver_got s n1 d stamps f line h k =
    let past = driver_past line in
    let owing = owed s past in
    let v = seen_behind s past owing in
    let prompt = h.lawful.driver_lawful.0.prompt in
    let came = came_few (is_on Ua d) (modem_past line) (wire (Got f ∷ past)) (both_ways (AtDriver (Got f) ∷ line) h.lawful.one_line).at_driver in
    let parts = sends_both (ends_by d) owing (calls_behind s past owing (Got f)) in
    let before = none_owed (ends_by d) owing prompt in
    let few = called (ends_by d) (many (ends_by d) (frames_by s v (Got f))) s v (Got f) (omega arith) in
    let sabm_parts = sends_both (is_on Sabm d) owing (calls_behind s past owing (Got f)) in
    let sabm_before = none_owed (is_on Sabm d) owing prompt in
    let sabm_few = called (is_on Sabm d) 0 s v (Got f) (sabm_never d s.role v.state f) in
    got_step d (wire past) (seen_by stamps line) (ending_owed s d past) (ending_owed s d (Got f ∷ past)) (sabms_owed s d past) (sabms_owed s d (Got f ∷ past)) (uas_sent d line) (uas_got d past) f k
    came (λ some. shuts_by s n1 d f line h (omega (arith, some, parts, before, few))) (omega (arith, sabm_parts, sabm_before, sabm_few))
  where
    either_of : {P : Type 0} → (m n : ℕ) → 1 ≤ m + n → (1 ≤ m → P) → (1 ≤ n → P) → P
    either_of zero n h f g = g (omega (arith, h))
    either_of (suc m) n h f g = f (omega arith)

    shuts_by : (s : Setting) (n1 d : ℕ) (f : Frame) (line : List LineAct) → IsOnceLine s n1 (AtDriver (Got f) ∷ line) → 1 ≤ many (ends_by d) (by_frame s.role (seen_behind s (driver_past line) (owed s (driver_past line))).state f)
        → (open_at d (station.Got f ∷ wire (driver_past line)) ≡ false) × (asked_at d (station.Got f ∷ wire (driver_past line)) ≡ false)
    shuts_by s n1 d f line h some =
        let state = (seen_behind s (driver_past line) (owed s (driver_past line))).state in
        let all = many_or (is_ending d) is_down (by_frame s.role state f) in
        either_of (many (is_ending d) (by_frame s.role state f)) (many is_down (by_frame s.role state f)) (omega (arith, some, all))
        (λ x. let few = (ending_balanced s.n1 s.role d).frame state f in ender_shuts d f (wire (driver_past line)) (one_ender (is_ender d f) (omega (arith, x, few))))
        (λ x. let c = any_down_called s.role state f x in down_shuts s d (driver_past line) f h.lawful.is_initiator (once_line_before s n1 (AtDriver (Got f)) line h).lawful.driver_lawful c.0 c.1)

-- what comes calls for one at most, and nothing else calls for any
ends_few : (r : Role) (d : ℕ) (state : ℕ → State) (f : Frame) → many (ends_by d) (by_frame r state f) ≤ 1
ends_few r d state f =
    few_if (ends_by d) 1 (is_on Uih 0 f) (by_message r (state 0) f) (by_table r f.dlci (state 0) (state f.dlci) f.kind)
    (let a = many_or (is_ending d) is_down (by_message r (state 0) f) in
    let x = messaged (is_ending d) (λ n. (n == d) || (n == 0)) (ending_modes d) r (state 0) f in
    let y = down_frames r (state 0) f in
    omega (arith, a, x, y))
    (let a = many_or (is_ending d) is_down (by_table r f.dlci (state 0) (state f.dlci) f.kind) in
    let x = tabled (is_ending d) (λ n. (n == d) || (n == 0)) (ending_modes d) r f.dlci (state 0) (state f.dlci) f.kind in
    let y = table_not_down r f.dlci (state 0) (state f.dlci) f.kind in
    let u = one ((is_kind f.kind Sabm || is_kind f.kind Disc) && ((f.dlci == d) || (f.dlci == 0))) in
    omega (arith, a, x, y, u))
  where
    one : (b : Bool) → unit b ≤ 1
    one true = omega arith
    one false = omega arith

ends_balanced : (most : ℕ) (r : Role) (d : ℕ) → Balanced AnyProbe most r (ends_by d) each_frame
ends_balanced most r d = record {
  frame = λ state f. ends_few r d state f;
  plain = λ f is few. or_from (is_ending d f) (is_down f) ((ending_balanced most r d).plain f is few) ((down_balanced most r).plain f is few);
  sabm = λ e. refl;
  disc = λ e. refl;
  command = λ octet value is few. or_from (is_ending d (message_frame r octet value)) (is_down (message_frame r octet value)) refl ((down_balanced most r).command octet value is few);
  probe = λ octets h. or_from (is_ending d (message_frame r test octets)) (is_down (message_frame r test octets)) refl ((down_balanced most r).probe octets h);
  short = λ octets h. tt;
}

-- an act that calls for no such answer
driver_calls : (s : Setting) (d : ℕ) (stamps : ℕ → Stamp) (a : Act) (line : List LineAct) → many (ends_by d) (frames_by s (seen_behind s (driver_past line) (owed s (driver_past line))) a) ≤ 0 → owes_frame (owed s (driver_past line)) ≡ false
    → sends (ends_by d) (owed s (driver_past line) ++ calls_behind s (driver_past line) (owed s (driver_past line)) a) ≤ 0
driver_calls s d stamps a line none prompt =
    let past = driver_past line in
    let owing = owed s past in
    let parts = sends_both (ends_by d) owing (calls_behind s past owing a) in
    let before = none_owed (ends_by d) owing prompt in
    let few = called (ends_by d) 0 s (seen_behind s past owing) a none in
    omega (arith, parts, before, few)

-- at each point of such a line what passed says of d what the driver's past does
pub follows : (s : Setting) (n1 d : ℕ) (stamps : ℕ → Stamp) (line : List LineAct) → IsOnceLine s n1 line → FollowsAt s d stamps line
unfolding Lawful
follows s n1 d stamps [] h = record { opens = λ k. k; asks = λ k. cc; owes = λ k. absurd (omega (arith, k)); free = λ k. omega arith }
follows s n1 d stamps (AtDriver (Sent f) ∷ line) h = driver_sent s n1 d stamps f line h (follows s n1 d stamps line (once_line_before s n1 (AtDriver (Sent f)) line h))
follows s n1 d stamps (AtDriver (Got f) ∷ line) h = driver_got s n1 d stamps f line h (follows s n1 d stamps line (once_line_before s n1 (AtDriver (Got f)) line h))
follows s n1 d stamps (AtDriver (Took q) ∷ line) h =
    let past = driver_past line in
    let v = seen_behind s past (owed s past) in
    let none = driver_calls s d stamps (Took q) line (few_if (ends_by d) 0 (is_none (at_once s v q)) (asking s.role q.ask) [] (asked AnyProbe s.n1 s.role (ends_by d) each_frame (ends_balanced s.n1 s.role d) q.ask (any_asked q.ask)) (omega arith)) h.lawful.driver_lawful.0.prompt in
    fewer_step d (wire past) (wire past) (seen_by stamps line) (ending_owed s d past) (ending_owed s d (Took q ∷ past)) (sabms_owed s d past) (sabms_owed s d (Took q ∷ past)) (uas_sent d line) (uas_got d past)
    (follows s n1 d stamps line (once_line_before s n1 (AtDriver (Took q)) line h)) (λ k. k) (λ k. k) (λ k. absurd (omega (arith, k, none))) (λ k. absurd (omega (arith, k, none)))
follows s n1 d stamps (AtDriver Tick ∷ line) h =
    let past = driver_past line in
    let v = seen_behind s past (owed s past) in
    let none = driver_calls s d stamps Tick line (none_of_tick AnyProbe s.n1 s.role (ends_by d) each_frame (ends_balanced s.n1 s.role d) s.n1 v.state v.queued 0 62) h.lawful.driver_lawful.0.prompt in
    fewer_step d (wire past) (wire (Tick ∷ past)) (seen_by stamps line) (ending_owed s d past) (ending_owed s d (Tick ∷ past)) (sabms_owed s d past) (sabms_owed s d (Tick ∷ past)) (uas_sent d line) (uas_got d past)
    (follows s n1 d stamps line (once_line_before s n1 (AtDriver Tick) line h))
    (λ k. (and_parts (open_at d (wire past)) (not (ends (zero_at d (wire past)) d station.Tick)) (sym (is_open_after Initiator d (wire past) station.Tick) ∙ k)).0) (λ k. (and_parts (asked_at d (wire past)) (not (ends (zero_at d (wire past)) d station.Tick)) k).0)
    (λ k. absurd (omega (arith, k, none))) (λ k. absurd (omega (arith, k, none)))
follows s n1 d stamps (AtDriver (Held e) ∷ line) h =
    let past = driver_past line in
    let v = seen_behind s past (owed s past) in
    let none = driver_calls s d stamps (Held e) line (none_of_flow AnyProbe s.n1 s.role (ends_by d) each_frame (ends_balanced s.n1 s.role d) v.state e held_up) h.lawful.driver_lawful.0.prompt in
    fewer_step d (wire past) (wire past) (seen_by stamps line) (ending_owed s d past) (ending_owed s d (Held e ∷ past)) (sabms_owed s d past) (sabms_owed s d (Held e ∷ past)) (uas_sent d line) (uas_got d past)
    (follows s n1 d stamps line (once_line_before s n1 (AtDriver (Held e)) line h)) (λ k. k) (λ k. k) (λ k. absurd (omega (arith, k, none))) (λ k. absurd (omega (arith, k, none)))
follows s n1 d stamps (AtDriver (Freed e) ∷ line) h =
    let past = driver_past line in
    let v = seen_behind s past (owed s past) in
    let none = driver_calls s d stamps (Freed e) line (none_of_flow AnyProbe s.n1 s.role (ends_by d) each_frame (ends_balanced s.n1 s.role d) v.state e ready) h.lawful.driver_lawful.0.prompt in
    fewer_step d (wire past) (wire past) (seen_by stamps line) (ending_owed s d past) (ending_owed s d (Freed e ∷ past)) (sabms_owed s d past) (sabms_owed s d (Freed e ∷ past)) (uas_sent d line) (uas_got d past)
    (follows s n1 d stamps line (once_line_before s n1 (AtDriver (Freed e)) line h)) (λ k. k) (λ k. k) (λ k. absurd (omega (arith, k, none))) (λ k. absurd (omega (arith, k, none)))
follows s n1 d stamps (AtDriver (Told o) ∷ line) h =
    let past = driver_past line in
    let x = dropped (ends_by d) (owed s past) in
    let y = dropped (is_on Sabm d) (owed s past) in
    fewer_step d (wire past) (wire past) (seen_by stamps line) (ending_owed s d past) (ending_owed s d (Told o ∷ past)) (sabms_owed s d past) (sabms_owed s d (Told o ∷ past)) (uas_sent d line) (uas_got d past)
    (follows s n1 d stamps line (once_line_before s n1 (AtDriver (Told o)) line h)) (λ k. k) (λ k. k) (λ k. omega (arith, k, x)) (λ k. omega (arith, y))
follows s n1 d stamps (AtDriver (Heard u e l) ∷ line) h =
    let past = driver_past line in
    let x = dropped (ends_by d) (owed s past) in
    let y = dropped (is_on Sabm d) (owed s past) in
    fewer_step d (wire past) (wire past) (seen_by stamps line) (ending_owed s d past) (ending_owed s d (Heard u e l ∷ past)) (sabms_owed s d past) (sabms_owed s d (Heard u e l ∷ past)) (uas_sent d line) (uas_got d past)
    (follows s n1 d stamps line (once_line_before s n1 (AtDriver (Heard u e l)) line h)) (λ k. k) (λ k. k) (λ k. omega (arith, k, x)) (λ k. omega (arith, y))
follows s n1 d stamps (AtDriver Given ∷ line) h =
    let past = driver_past line in
    fewer_step d (wire past) (wire (Given ∷ past)) (seen_by stamps line) (ending_owed s d past) (ending_owed s d (Given ∷ past)) (sabms_owed s d past) (sabms_owed s d (Given ∷ past)) (uas_sent d line) (uas_got d past)
    (follows s n1 d stamps line (once_line_before s n1 (AtDriver Given) line h))
    (λ k. (and_parts (open_at d (wire past)) (not (ends (zero_at d (wire past)) d station.Given)) (sym (is_open_after Initiator d (wire past) station.Given) ∙ k)).0) (λ k. (and_parts (asked_at d (wire past)) (not (ends (zero_at d (wire past)) d station.Given)) k).0)
    (λ k. k) (λ k. omega arith)
follows s n1 d stamps (AtDriver Lost ∷ line) h =
    let past = driver_past line in
    let parts = sends_both (ends_by d) (unsent (owed s past)) (calls_behind s past (owed s past) Lost) in
    let none = unsent_none (ends_by d) (owed s past) in
    let none_called = called (ends_by d) 0 s (seen_behind s past (owed s past)) Lost (omega arith) in
    fewer_step d (wire past) (wire (Lost ∷ past)) (seen_by stamps line) (ending_owed s d past) (ending_owed s d (Lost ∷ past)) (sabms_owed s d past) (sabms_owed s d (Lost ∷ past)) (uas_sent d line) (uas_got d past)
    (follows s n1 d stamps line (once_line_before s n1 (AtDriver Lost) line h))
    (λ k. (and_parts (open_at d (wire past)) (not (ends (zero_at d (wire past)) d station.Lost)) (sym (is_open_after Initiator d (wire past) station.Lost) ∙ k)).0) (λ k. (and_parts (asked_at d (wire past)) (not (ends (zero_at d (wire past)) d station.Lost)) k).0)
    (λ k. absurd (omega (arith, k, parts, none, none_called))) (λ k. absurd (omega (arith, k, parts, none, none_called)))
follows s n1 d stamps (AtModem (station.Sent f) ∷ line) h =
    passed_step d (wire (driver_past line)) (seen_by stamps line) (ending_owed s d (driver_past line)) (sabms_owed s d (driver_past line)) (uas_sent d line) (uas_got d (driver_past line)) f
    (follows s n1 d stamps line (once_line_before s n1 (AtModem (station.Sent f)) line h))
follows s n1 d stamps (AtModem (station.Called c) ∷ line) h = follows s n1 d stamps line (once_line_before s n1 (AtModem (station.Called c)) line h)
follows s n1 d stamps (AtModem (station.Got f) ∷ line) h = follows s n1 d stamps line (once_line_before s n1 (AtModem (station.Got f)) line h)
follows s n1 d stamps (AtModem station.Tick ∷ line) h = follows s n1 d stamps line (once_line_before s n1 (AtModem station.Tick) line h)
follows s n1 d stamps (AtModem station.Lost ∷ line) h = follows s n1 d stamps line (once_line_before s n1 (AtModem station.Lost) line h)
follows s n1 d stamps (AtModem station.Given ∷ line) h = follows s n1 d stamps line (once_line_before s n1 (AtModem station.Given) line h)
