-- At each point of a line the modem's connection is open by what passed where it is so by its past, and its UA was sent.
use Rattle.std.specs.Prelude.{◌≡◌, zero, suc, ℕ, ◌+◌, ◌==◌, ◌≤◌, ◌&&◌, ◌||◌, not, Bool, true, false, List, [], ◌∷◌, ◌++◌, drop, Option, Some, None, refl, if◌then◌else◌}
use Rattle.std.specs.List.{find, list_all, list_any}
use Rattle.std.proofs.Common.{ap, arith, sym, ◌∙◌, eqb-true}
use Rattle.std.proofs.lemmas.Bool.{and_from, and_parts, or_parts}
use Rattle.mux_frame.specs.Frames.{Frame}
use Rattle.mux_frame.specs.declared.frame.Kind.{Kind}
use Rattle.mux_frame.specs.declared.frame.Kind.TheVariants.{Sabm, Ua, Dm, Disc, Uih}
use Rattle.mux_capture.specs.declared.packet.Stamp.{Stamp}
use Rattle.mux_station.specs.declared.role.Role.TheVariants.{Initiator, Responder}
use Rattle.mux_station.specs.Acts as station
use Rattle.mux_station.specs.Messages.{cld, brings_command, message_in}
use Rattle.mux_station.specs.Opening.{ends, is_mode_frame_on}
use Rattle.mux_station.proofs.states.OpeningSteps.{is_open_after}
use Rattle.mux_station.specs.Sending.{Sends, StationLawful, called_frames, is_loss, owed_frames}
use Rattle.mux_station.specs.States.{state_of}
use Rattle.mux_station.specs.Tables.{by_frame}
use Rattle.mux_station.specs.Written.{is_data_frame, is_kind, is_on}
use Rattle.modem_history.specs.Acts as driver
use Rattle.modem_history.specs.Acts.{wire}
use Rattle.modem_history.specs.Calls.{Setting}
use Rattle.modem_history.specs.TwoEnds.{frames_got, frames_sent}
use Rattle.modem_show.specs.Asking.{Ask, answered_by, answers, is_again, is_ask, is_mode_answer, is_mode_command, message_asks, waiting}
use Rattle.modem_show.specs.Ends.{come, handled, own}
use Rattle.show_laws.specs.Lines.{AtDriver, AtModem, LineAct, captured, driver_past, modem_past, responding}
use Rattle.show_laws.proofs.asks.AnswerShapes.{is_shaped, or_elim}
use Rattle.show_laws.proofs.asks.AnswersCalled.{AnyProbe}
use Rattle.show_laws.proofs.asks.NoneUnasked.{modem_shaped}
use Rattle.show_laws.proofs.asks.WaitingAsks.{frames_of, frames_to}
use Rattle.show_laws.proofs.counts.ManyFrames.{many, many_both, unit}
use Rattle.show_laws.proofs.counts.StationCounts.{station_sends}
use Rattle.show_laws.proofs.lines.CapturedFrames.{both_ways, came_few, shows}
use Rattle.show_laws.proofs.openings.ModemAnswers.{IsSabm, answer_on, ask_on, open_m, opened_there, read_alone, uas_fewer, zero_m}
use Rattle.show_laws.proofs.openings.ModemCloses.{clds_closed, discs_closed}
use Rattle.show_laws.proofs.openings.ModemOpen.{above, asks_parts, has_fresh}
use Rattle.show_laws.proofs.openings.QuietFrames.{EndsNone, Quiet, cld_asks, ends_none}
use Rattle.show_laws.proofs.openings.ClosersBehindSabm.{modem_unclosed}
use Rattle.show_laws.proofs.openings.DriverOpen.{IsOnceLine, once_line_before, quiet_one}
use Rattle.show_laws.proofs.openings.OpenBelowZero.{sabm_behind}
use Rattle.show_laws.proofs.openings.DiscBehindUa.{once_many}
use Rattle.show_laws.proofs.openings.ResponderCalls.{answer_balanced, down_by_cld, is_down, not_cld, opening_answered}
use Rattle.show_laws.proofs.openings.UaBehindSabm.{none_of, shut, ua_behind}

-- ## Quiet frames at a responder

no_mode : (e : ℕ) (f : Frame) → is_mode_frame_on e f ≡ false → EndsNone e f
no_mode e f h =
    let a = or_parts (is_on Sabm e f) (is_on Ua e f || (is_on Dm e f || is_on Disc e f)) h in
    let b = or_parts (is_on Ua e f) (is_on Dm e f || is_on Disc e f) a.1 in
    let c = or_parts (is_on Dm e f) (is_on Disc e f) b.1 in
    record { disc = c.1; dm = c.0; sabm = a.0 }

keep : (u k o e : Bool) → u ≡ false → e ≡ false → ((u && k) || (o && not e)) ≡ o
keep true k o e g h = cc
keep false k o true g h = cc
keep false k true false g h = refl
keep false k false false g h = refl

quiet_open_m : (d : ℕ) (f : Frame) (past : List station.Act) → Quiet d f → open_m d (station.Got f ∷ past) ≡ open_m d past
quiet_open_m d f past h =
    let n = no_mode d f h.mode in
    is_open_after Responder d past (station.Got f)
    ∙ keep (is_on Sabm d f) ((d == 0) || zero_m d past) (open_m d past) (ends (zero_m d past) d (station.Got f)) n.sabm (ends_none (zero_m d past) d f n (no_mode 0 f h.mode_of_zero) h.no_cld)

-- the ask that is found passes
pub found_passes : (p : Frame → Bool) (asks : List Ask) (a : Ask) → find (λ x. p x.frame) asks ≡ Some a → p a.frame ≡ true
found_passes p [] a e = cc
found_passes p (x ∷ asks) a e = by_test (p x.frame) refl e (found_passes p asks a)
  where
    by_test : (b : Bool) → p x.frame ≡ b → (if b then Some x else find (λ y. p y.frame) asks) ≡ Some a → (find (λ y. p y.frame) asks ≡ Some a → p a.frame ≡ true) → p a.frame ≡ true
    by_test true h k rest = sym (ap of_option k) ∙ h
      where
        of_option : Option Ask → Bool
        of_option None = true
        of_option (Some y) = p y.frame
    by_test false h k rest = rest k

no_ending : (a b c : Bool) → (a && b) ≡ false → (a && c) ≡ false → (a && (b || c)) ≡ false
no_ending true true c h k = cc
no_ending true false c h k = k
no_ending false b c h k = refl

quiet_handled_m : (d : ℕ) (g : Frame) (asks : List Ask) (q : List station.Act) (o : Option Ask) → answered_by g asks ≡ o → is_shaped g ≡ true → answer_on d g ≡ false → answer_on 0 g ≡ false → is_down g ≡ false → open_m d (handled o ++ q) ≡ open_m d q
quiet_handled_m d g asks q None e s a z n = refl
quiet_handled_m d g asks q (Some x) e s a z n =
    let p = found_passes (λ f. answers f g) asks x e in
    by_again (is_again x) (quiet_one d x.frame g p (no_ending (is_mode_answer g) (g.dlci == d) (g.dlci == 0) a z) (not_cld x.frame g s p n))
  where
    by_again : (b : Bool) → Quiet d x.frame → open_m d ((if b then [] else station.Got x.frame ∷ []) ++ q) ≡ open_m d q
    by_again true h = refl
    by_again false h = quiet_open_m d x.frame q h

-- ## Few answers

-- at most one UA or DM was sent on d, and on 0, and no response to a CLD
pub record AnsweredOnce (d : ℕ) (sent : List Frame) : Type 0 where
  pub own : many (answer_on d) sent ≤ 1
  pub zero : many (answer_on 0) sent ≤ 1
  pub down : many is_down sent ≤ 0

fewer_answers : (d : ℕ) (f : Frame) (sent : List Frame) → AnsweredOnce d (f ∷ sent) → AnsweredOnce d sent
fewer_answers d f sent h = let a = h.own in let b = h.zero in let c = h.down in record { own = omega (arith, a); zero = omega (arith, b); down = omega (arith, c) }

at_zero : (d : ℕ) (sent : List Frame) → AnsweredOnce d sent → AnsweredOnce 0 sent
at_zero d sent h = record { own = h.zero; zero = h.zero; down = h.down }

-- ## One act of the modem

abbrev Opens : ℕ → (ℕ → Stamp) → List LineAct → Type 0
Opens d stamps line =
    open_m d (modem_past line) ≡ true → 1 ≤ many (is_on Ua d) (frames_sent (modem_past line)) → AnsweredOnce d (frames_sent (modem_past line))
    → open_m d (own Responder (captured stamps line)) ≡ true

-- where d is open a SABM on it came
asked_there : (s : Setting) (n1 d : ℕ) (line : List LineAct) → IsOnceLine s n1 line → open_m d (modem_past line) ≡ true → 1 ≤ many (is_on Sabm d) (frames_got (modem_past line))
asked_there s n1 d line h o = by_count (many (is_on Sabm d) (frames_got (modem_past line))) refl
  where
    by_count : (n : ℕ) → many (is_on Sabm d) (frames_got (modem_past line)) ≡ n → 1 ≤ n
    by_count (suc n) e = omega arith
    by_count zero e = absurd (let x : true ≡ false = sym o ∙ (shut n1 d (modem_past line) h.lawful.modem_lawful (omega (arith, e))).open_not in cc)

-- what the modem answers with a UA or DM on d, as the first of its answers there while d is open
sabm_answered : (s : Setting) (n1 d : ℕ) (stamps : ℕ → Stamp) (f : Frame) (line : List LineAct) → IsOnceLine s n1 line → answer_on d f ≡ true → open_m d (modem_past line) ≡ true
    → many (answer_on d) (frames_sent (modem_past line)) ≤ 0 → IsSabm d (answered_by f (waiting Initiator (captured stamps line)))
sabm_answered s n1 d stamps f line h a o none =
    let got = asked_there s n1 d line h o in
    let came = came_few (is_on Sabm d) (wire (driver_past line)) (modem_past line) (both_ways line h.lawful.one_line).at_modem in
    let seen = shows stamps line in
    let of_driver : many (is_on Sabm d) (frames_of Initiator (captured stamps line)) ≡ many (is_on Sabm d) (frames_sent (wire (driver_past line))) = ap (many (is_on Sabm d)) seen.driver_frames in
    let to_driver : many (answer_on d) (frames_to Initiator (captured stamps line)) ≡ many (answer_on d) (frames_sent (modem_past line)) = ap (many (answer_on d)) seen.to_driver in
    let r = has_fresh s n1 d stamps line h (omega (arith, got, came, of_driver)) (omega (arith, none, to_driver)) in
    let p = and_parts (is_mode_answer f) (f.dlci == d) a in
    record { ask = r.ask; is = r.found f p.0 (eqb-true f.dlci d p.1); sabm = r.sabm; new = r.new }

-- where another connection is open the UA on 0 was sent
zero_answered : (s : Setting) (n1 d : ℕ) (line : List LineAct) → IsOnceLine s n1 line → (d == 0) ≡ false → open_m d (modem_past line) ≡ true → 1 ≤ many (is_on Ua 0) (frames_sent (modem_past line))
zero_answered s n1 d line h apart o =
    let got = asked_there s n1 d line h o in
    let ways = both_ways line h.lawful.one_line in
    let sent = came_few (is_on Sabm d) (wire (driver_past line)) (modem_past line) ways.at_modem in
    let behind = sabm_behind s d (driver_past line) h.lawful.is_initiator apart h.lawful.driver_lawful (omega (arith, got, sent)) in
    let came = came_few (is_on Ua 0) (modem_past line) (wire (driver_past line)) ways.at_driver in
    omega (arith, behind, came)

modem_sent : (s : Setting) (n1 d : ℕ) (stamps : ℕ → Stamp) (f : Frame) (line : List LineAct) → IsOnceLine s n1 (AtModem (station.Sent f) ∷ line) → Opens d stamps line → Opens 0 stamps line → Opens d stamps (AtModem (station.Sent f) ∷ line)
modem_sent s n1 d stamps f line h before before_zero o some few =
    let p = and_parts (open_m d (modem_past line)) (not (ends (zero_m d (modem_past line)) d (station.Sent f))) (sym (is_open_after Responder d (modem_past line) (station.Sent f)) ∙ o) in
    is_open_after Responder d (handled answered ++ q) (station.Sent f)
    ∙ and_from (open_m d (handled answered ++ q)) (not (ends (zero_m d (modem_past line)) d (station.Sent f))) (by_answer (answer_on d f) refl p.0) p.1
  where
    q : List station.Act
    q = own Responder (captured stamps line)

    answered : Option Ask
    answered = answered_by f (waiting Initiator (captured stamps line))

    sent : List Frame
    sent = frames_sent (modem_past line)

    older : IsOnceLine s n1 line
    older = once_line_before s n1 (AtModem (station.Sent f)) line h

    shape : is_shaped f ≡ true
    shape = (and_parts (is_shaped f) (list_all is_shaped (frames_sent (modem_past line))) (modem_shaped n1 (station.Sent f ∷ modem_past line) h.lawful.modem_lawful)).0

    zero_there : (b : Bool) → (d == 0) ≡ b → open_m d (modem_past line) ≡ true → (b || zero_m d q) ≡ true
    zero_there true e k = refl
    zero_there false e k =
        before_zero (above d (modem_past line) e k) (zero_answered s n1 d line older e k) (at_zero d (frames_sent (modem_past line)) (fewer_answers d f (frames_sent (modem_past line)) few))

    not_zero : (b : Bool) → (d == 0) ≡ b → answer_on d f ≡ false → open_m d (modem_past line) ≡ true → answer_on 0 f ≡ false
    not_zero true e a k = ap (λ n. is_mode_answer f && (f.dlci == n)) (sym (eqb-true d 0 e)) ∙ a
    not_zero false e a k =
        let ua = zero_answered s n1 d line older e k in
        let fewer = uas_fewer 0 (frames_sent (modem_past line)) in
        let z = few.zero in
        none_of (answer_on 0) f 0 (omega (arith, ua, fewer, z))

    by_answer : (b : Bool) → answer_on d f ≡ b → open_m d (modem_past line) ≡ true → open_m d (handled answered ++ q) ≡ true
    by_answer true a k =
        let u : unit (answer_on d f) ≡ 1 = ap unit a in
        let w = few.own in
        let r = sabm_answered s n1 d stamps f line older a k (omega (arith, u, w)) in
        ap (λ (xs : List station.Act). open_m d (xs ++ q)) (read_alone answered r.ask r.is r.new) ∙ opened_there d r.ask.frame q r.sabm (zero_there (d == 0) refl k)
    by_answer false a k =
        let fewer = uas_fewer d (f ∷ []) in
        let u : unit (answer_on d f) ≡ 0 = ap unit a in
        let w = few.down in
        quiet_handled_m d f (waiting Initiator (captured stamps line)) q answered refl shape a (not_zero (d == 0) refl a k) (none_of is_down f (many is_down (frames_sent (modem_past line))) w)
        ∙ before k (omega (arith, some, fewer, u)) (fewer_answers d f (frames_sent (modem_past line)) few)

-- the first UA is sent behind the SABM
modem_got : (s : Setting) (n1 d : ℕ) (stamps : ℕ → Stamp) (f : Frame) (line : List LineAct) → IsOnceLine s n1 (AtModem (station.Got f) ∷ line) → Opens d stamps line → Opens d stamps (AtModem (station.Got f) ∷ line)
modem_got s n1 d stamps f line h before o some few =
    let past = modem_past line in
    let z = zero_m d past in
    or_elim (is_on Sabm d f && ((d == 0) || z)) (open_m d past && not (ends z d (station.Got f))) (sym (is_open_after Responder d past (station.Got f)) ∙ o)
    (λ k.
    let now = came_few (is_on Sabm d) (wire (driver_past line)) (modem_past (AtModem (station.Got f) ∷ line)) (both_ways (AtModem (station.Got f) ∷ line) h.lawful.one_line).at_modem in
    let once = h.once d in
    let sent = once_many (is_on Sabm d) (frames_sent (wire (driver_past line))) in
    let one : unit (is_on Sabm d f) ≡ 1 = ap unit (and_parts (is_on Sabm d f) ((d == 0) || z) k).0 in
    let ua = ua_behind n1 d past (once_line_before s n1 (AtModem (station.Got f)) line h).lawful.modem_lawful (omega (arith, now, once, sent, one)) in
    absurd (omega (arith, some, ua)))
    (λ k. before (and_parts (open_m d past) (not (ends z d (station.Got f))) k).0 some few)

-- ## A frame passes to the modem

plain_kinds : (k : Kind) (x : Bool) → (is_kind k Sabm || is_kind k Disc) ≡ false → is_kind k Dm ≡ false → ((is_kind k Disc && x) ≡ false) × (((is_kind k Dm && x) ≡ false) × ((is_kind k Sabm && x) ≡ false))
plain_kinds Ua x h g = (refl, (refl, refl))
plain_kinds Uih x h g = (refl, (refl, refl))
plain_kinds Sabm x h g = cc
plain_kinds Disc x h g = cc
plain_kinds Dm x h g = cc

come_open : (d : ℕ) (f : Frame) (q : List station.Act) → open_m d q ≡ true → open_m d (come f q) ≡ true
come_open d f q o = by_come (is_ask f || is_kind f.kind Dm) refl
  where
    plain : (e : ℕ) → is_mode_command f ≡ false → is_kind f.kind Dm ≡ false → EndsNone e f
    plain e h g = let k = plain_kinds f.kind (f.dlci == e) h g in record { disc = k.0; dm = k.1.0; sabm = k.1.1 }

    kept : (u o e : Bool) → o ≡ true → e ≡ false → (u || (o && not e)) ≡ true
    kept true o e g h = refl
    kept false true false g h = refl
    kept false true true g h = cc
    kept false false e g h = cc

    by_come : (b : Bool) → (is_ask f || is_kind f.kind Dm) ≡ b → open_m d (if b then q else station.Got f ∷ q) ≡ true
    by_come true e = o
    by_come false e =
        let p = or_parts (is_ask f) (is_kind f.kind Dm) e in
        let a = or_parts (is_mode_command f) (message_asks (message_in f)) p.0 in
        is_open_after Responder d q (station.Got f)
        ∙ kept (is_on Sabm d f && ((d == 0) || zero_m d q)) (open_m d q) (ends (zero_m d q) d (station.Got f)) o
        (ends_none (zero_m d q) d f (plain d a.0 p.1) (plain 0 a.0 p.1) (cld_asks f a.1))

-- ## The whole line

-- where d is open at the modem, and its UA was sent and no other answer, it is open by what passed
pub modem_line : (s : Setting) (n1 d : ℕ) (stamps : ℕ → Stamp) (line : List LineAct) → IsOnceLine s n1 line → Opens d stamps line
modem_line s n1 d stamps [] h o some few = absurd (omega (arith, some))
modem_line s n1 d stamps (AtModem (station.Sent f) ∷ line) h o some few =
    let k = once_line_before s n1 (AtModem (station.Sent f)) line h in
    modem_sent s n1 d stamps f line h (modem_line s n1 d stamps line k) (modem_line s n1 0 stamps line k) o some few
modem_line s n1 d stamps (AtModem (station.Got f) ∷ line) h o some few = modem_got s n1 d stamps f line h (modem_line s n1 d stamps line (once_line_before s n1 (AtModem (station.Got f)) line h)) o some few
modem_line s n1 d stamps (AtModem (station.Called c) ∷ line) h o some few =
    modem_line s n1 d stamps line (once_line_before s n1 (AtModem (station.Called c)) line h) (and_parts (open_m d (modem_past line)) (not (ends (zero_m d (modem_past line)) d (station.Called c))) (sym (is_open_after Responder d (modem_past line) (station.Called c)) ∙ o)).0 some few
modem_line s n1 d stamps (AtModem station.Tick ∷ line) h o some few =
    modem_line s n1 d stamps line (once_line_before s n1 (AtModem station.Tick) line h) (and_parts (open_m d (modem_past line)) (not (ends (zero_m d (modem_past line)) d station.Tick)) (sym (is_open_after Responder d (modem_past line) station.Tick) ∙ o)).0 some few
modem_line s n1 d stamps (AtModem station.Lost ∷ line) h o some few =
    modem_line s n1 d stamps line (once_line_before s n1 (AtModem station.Lost) line h) (and_parts (open_m d (modem_past line)) (not (ends (zero_m d (modem_past line)) d station.Lost)) (sym (is_open_after Responder d (modem_past line) station.Lost) ∙ o)).0 some few
modem_line s n1 d stamps (AtModem station.Given ∷ line) h o some few =
    modem_line s n1 d stamps line (once_line_before s n1 (AtModem station.Given) line h) (and_parts (open_m d (modem_past line)) (not (ends (zero_m d (modem_past line)) d station.Given)) (sym (is_open_after Responder d (modem_past line) station.Given) ∙ o)).0 some few
modem_line s n1 d stamps (AtDriver (driver.Sent f) ∷ line) h o some few =
    come_open d f (own Responder (captured stamps line)) (modem_line s n1 d stamps line (once_line_before s n1 (AtDriver (driver.Sent f)) line h) o some few)
modem_line s n1 d stamps (AtDriver (driver.Took q) ∷ line) h o some few = modem_line s n1 d stamps line (once_line_before s n1 (AtDriver (driver.Took q)) line h) o some few
modem_line s n1 d stamps (AtDriver (driver.Got f) ∷ line) h o some few = modem_line s n1 d stamps line (once_line_before s n1 (AtDriver (driver.Got f)) line h) o some few
modem_line s n1 d stamps (AtDriver (driver.Told u) ∷ line) h o some few = modem_line s n1 d stamps line (once_line_before s n1 (AtDriver (driver.Told u)) line h) o some few
modem_line s n1 d stamps (AtDriver (driver.Heard k e l) ∷ line) h o some few = modem_line s n1 d stamps line (once_line_before s n1 (AtDriver (driver.Heard k e l)) line h) o some few
modem_line s n1 d stamps (AtDriver driver.Tick ∷ line) h o some few = modem_line s n1 d stamps line (once_line_before s n1 (AtDriver driver.Tick) line h) o some few
modem_line s n1 d stamps (AtDriver driver.Lost ∷ line) h o some few = modem_line s n1 d stamps line (once_line_before s n1 (AtDriver driver.Lost) line h) o some few
modem_line s n1 d stamps (AtDriver (driver.Held e) ∷ line) h o some few = modem_line s n1 d stamps line (once_line_before s n1 (AtDriver (driver.Held e)) line h) o some few
modem_line s n1 d stamps (AtDriver (driver.Freed e) ∷ line) h o some few = modem_line s n1 d stamps line (once_line_before s n1 (AtDriver (driver.Freed e)) line h) o some few
modem_line s n1 d stamps (AtDriver driver.Given ∷ line) h o some few = modem_line s n1 d stamps line (once_line_before s n1 (AtDriver driver.Given) line h) o some few

-- ## Where data is sent

-- where d is open its UA was sent, or is owed
pub ua_called : (n1 d : ℕ) (past : List station.Act) → StationLawful (responding n1) past → list_any is_loss past ≡ false → open_m d past ≡ true
    → 1 ≤ many (is_on Ua d) (owed_frames (responding n1) past) + many (is_on Ua d) (frames_sent past)
unfolding StationLawful Sends
ua_called n1 d [] l live o = cc
ua_called n1 d (station.Sent f ∷ past) l live o =
    let p = and_parts (open_m d past) (not (ends (zero_m d past) d (station.Sent f))) (sym (is_open_after Responder d past (station.Sent f)) ∙ o) in
    by_data (is_data_frame f) refl l.0 (ua_called n1 d past l.1 live p.0)
  where
    by_data : (b : Bool) → is_data_frame f ≡ b → Sends (responding n1) past f b → 1 ≤ many (is_on Ua d) (owed_frames (responding n1) past) + many (is_on Ua d) (frames_sent past)
        → 1 ≤ many (is_on Ua d) (if b then owed_frames (responding n1) past else drop 1 (owed_frames (responding n1) past)) + (unit (is_on Ua d f) + many (is_on Ua d) (frames_sent past))
    by_data true is g k = omega (arith, k)
    by_data false is g k =
        let first : many (is_on Ua d) (owed_frames (responding n1) past) ≡ unit (is_on Ua d f) + many (is_on Ua d) g.later = ap (many (is_on Ua d)) g.is_next in
        let rest : many (is_on Ua d) (drop 1 (owed_frames (responding n1) past)) ≡ many (is_on Ua d) g.later = ap (λ (fs : List Frame). many (is_on Ua d) (drop 1 fs)) g.is_next in
        omega (arith, k, first, rest)
ua_called n1 d (station.Got f ∷ past) l live o =
    let st = responding n1 in
    let z = zero_m d past in
    let both = many_both (is_on Ua d) (owed_frames st past) (called_frames st past (station.Got f)) in
    or_elim (is_on Sabm d f && ((d == 0) || z)) (open_m d past && not (ends z d (station.Got f))) (sym (is_open_after Responder d past (station.Got f)) ∙ o)
    (λ k.
    let p = and_parts (is_on Sabm d f) ((d == 0) || z) k in
    let some = opening_answered d (λ e. state_of Responder e past) f p.0 p.1 in
    let same : many (is_on Ua d) (called_frames st past (station.Got f)) ≡ many (is_on Ua d) (by_frame Responder (λ e. state_of Responder e past) f) =
    ap (λ (b : Bool). many (is_on Ua d) (if b then [] else by_frame Responder (λ e. state_of Responder e past) f)) live in
    omega (arith, both, some, same))
    (λ k. let w = ua_called n1 d past l live (and_parts (open_m d past) (not (ends z d (station.Got f))) k).0 in omega (arith, both, w))
ua_called n1 d (station.Called c ∷ past) l live o =
    let both = many_both (is_on Ua d) (owed_frames (responding n1) past) (called_frames (responding n1) past (station.Called c)) in
    let w = ua_called n1 d past l live (and_parts (open_m d past) (not (ends (zero_m d past) d (station.Called c))) (sym (is_open_after Responder d past (station.Called c)) ∙ o)).0 in
    omega (arith, both, w)
ua_called n1 d (station.Tick ∷ past) l live o =
    let both = many_both (is_on Ua d) (owed_frames (responding n1) past) (called_frames (responding n1) past station.Tick) in
    let w = ua_called n1 d past l live (and_parts (open_m d past) (not (ends (zero_m d past) d station.Tick)) (sym (is_open_after Responder d past station.Tick) ∙ o)).0 in
    omega (arith, both, w)
ua_called n1 d (station.Given ∷ past) l live o =
    let both = many_both (is_on Ua d) (owed_frames (responding n1) past) (called_frames (responding n1) past station.Given) in
    let w = ua_called n1 d past l live (and_parts (open_m d past) (not (ends (zero_m d past) d station.Given)) (sym (is_open_after Responder d past station.Given) ∙ o)).0 in
    omega (arith, both, w)
ua_called n1 d (station.Lost ∷ past) l live o = absurd (let x : true ≡ false = live in cc)

-- while d is open only the SABM on it was answered
few_on : (s : Setting) (n1 d : ℕ) (line : List LineAct) → IsOnceLine s n1 line → open_m d (modem_past line) ≡ true → many (answer_on d) (frames_sent (modem_past line)) ≤ 1
few_on s n1 d line h o =
    let past = modem_past line in
    let sent = station_sends AnyProbe (responding n1) (answer_on d) (ask_on d) (answer_balanced n1 Responder d) past h.lawful.modem_lawful in
    let parts = asks_parts d (frames_got past) in
    let came = came_few (is_on Sabm d) (wire (driver_past line)) past (both_ways line h.lawful.one_line).at_modem in
    let many_sent = once_many (is_on Sabm d) (frames_sent (wire (driver_past line))) in
    let once = h.once d in
    let none = modem_unclosed s n1 d line h o in
    let discs = discs_closed d (frames_got past) in
    omega (arith, sent, parts, came, many_sent, once, none, discs)

-- while a connection but 0 is open at the modem, one UA or DM was sent on it at most, and one on 0, and no response to a CLD
pub answered_once : (s : Setting) (n1 d : ℕ) (line : List LineAct) → IsOnceLine s n1 line → (d == 0) ≡ false → open_m d (modem_past line) ≡ true → AnsweredOnce d (frames_sent (modem_past line))
answered_once s n1 d line h apart o =
    let past = modem_past line in
    let zero_open = above d past apart o in
    let sent = station_sends AnyProbe (responding n1) is_down (brings_command cld) (down_by_cld n1 Responder) past h.lawful.modem_lawful in
    let none = modem_unclosed s n1 0 line h zero_open in
    let clds = clds_closed (frames_got past) in
    record { own = few_on s n1 d line h o; zero = few_on s n1 0 line h zero_open; down = omega (arith, sent, none, clds) }
