-- Where a connection can't be open no data was sent on it.
use Rattle.std.specs.Prelude.{◌≡◌, ℕ, ◌==◌, ◌≤◌, not, Bool, true, false, List, [], ◌∷◌, ◌++◌, refl}
use Rattle.std.specs.List.{list_any}
use Rattle.std.proofs.Common.{ap, append-nil, arith, sym, ◌∙◌, subst, eqb-true}
use Rattle.std.proofs.lemmas.Bool.{and_from, and_parts}
use Rattle.mux_frame.specs.Frames.{Frame}
use Rattle.mux_frame.specs.declared.frame.Kind.TheVariants.{Sabm, Ua, Uih}
use Rattle.mux_station.specs.declared.role.Role.TheVariants.{Initiator, Responder}
use Rattle.mux_station.specs.Acts as station
use Rattle.mux_station.specs.Opening.{is_open}
use Rattle.mux_station.specs.Sending.{StationGated, StationLawful, is_loss, owed_frames}
use Rattle.mux_station.specs.States.{state_of}
use Rattle.mux_station.specs.Written.{is_data_frame, is_kind, is_on}
use Rattle.modem_history.specs.Acts as driver
use Rattle.modem_history.specs.Acts.{wire}
use Rattle.modem_history.specs.Calls.{Setting}
use Rattle.modem_history.specs.Connections.{carries}
use Rattle.modem_history.specs.Lawful.{Lawful}
use Rattle.modem_history.specs.TwoEnds.{frames_got, frames_sent}
use Rattle.modem_history.proofs.commands.FramesOnLine.{info_in, info_none}
use Rattle.modem_history.proofs.commands.SentCommands.{while_open}
use Rattle.show_laws.specs.Lines.{responding}
use Rattle.show_laws.proofs.counts.ManyFrames.{many}
use Rattle.show_laws.proofs.openings.BothOpen.{data_gated}
use Rattle.show_laws.proofs.openings.DiscBehindUa.{from_opened}
use Rattle.show_laws.proofs.openings.DriverStates.{state_says}
use Rattle.show_laws.proofs.openings.UaBehindSabm.{shut}
use Rattle.show_laws.proofs.stops.StopsBehindSabm.{unasked_yet}
use Rattle.show_laws.proofs.stops.StopsBehindUa.{behind, older_frames}

-- a frame that carries octets of d is data, and on d
pub carried_data : (d : ℕ) (f : Frame) → carries d f ≡ true → (is_data_frame f ≡ true) × (f.dlci ≡ d)
carried_data d f e =
    let p = and_parts (not (d == 0)) (is_on Uih d f) e in
    let q = and_parts (is_kind f.kind Uih) (f.dlci == d) p.1 in
    let same : f.dlci ≡ d = eqb-true f.dlci d q.1 in
    (and_from (is_kind f.kind Uih) (not (f.dlci == 0)) q.0 (ap (λ n. not (n == 0)) same ∙ p.0), same)

-- a frame that carries nothing on d
pub nothing_more : (d : ℕ) (f : Frame) (fs : List Frame) → carries d f ≡ false → info_in d (f ∷ fs) ≡ info_in d fs
nothing_more d f fs e = ap (λ z. info_in d fs ++ z) (info_none d f e) ∙ append-nil (info_in d fs)

-- ## The driver

driver_silent : (s : Setting) (d : ℕ) → s.role ≡ Initiator → (C : List driver.Act → Type 0) → ((a : driver.Act) (past : List driver.Act) → C (a ∷ past) → C past)
    → ((past : List driver.Act) → Lawful s past → C past → is_open Initiator d (wire past) ≡ false) → (past : List driver.Act) → Lawful s past → C past → info_in d (frames_sent (wire past)) ≡ []
unfolding Lawful
driver_silent s d is C before none [] l c = refl
driver_silent s d is C before none (driver.Sent f ∷ past) l c = by_carry (carries d f) refl (driver_silent s d is C before none past l.1 (before (driver.Sent f) past c))
  where
    by_carry : (b : Bool) → carries d f ≡ b → info_in d (frames_sent (wire past)) ≡ [] → info_in d (f ∷ frames_sent (wire past)) ≡ []
    by_carry false e rest = nothing_more d f (frames_sent (wire past)) e ∙ rest
    by_carry true e rest =
        let o = (while_open s (driver.Sent f ∷ past) is l).0 d e in
        absurd (let t : true ≡ false = sym o ∙ none past l.1 (before (driver.Sent f) past c) in cc)
driver_silent s d is C before none (driver.Took q ∷ past) l c = driver_silent s d is C before none past l.1 (before (driver.Took q) past c)
driver_silent s d is C before none (driver.Got f ∷ past) l c = driver_silent s d is C before none past l.1 (before (driver.Got f) past c)
driver_silent s d is C before none (driver.Told o ∷ past) l c = driver_silent s d is C before none past l.1 (before (driver.Told o) past c)
driver_silent s d is C before none (driver.Heard u e line ∷ past) l c = driver_silent s d is C before none past l.1 (before (driver.Heard u e line) past c)
driver_silent s d is C before none (driver.Tick ∷ past) l c = driver_silent s d is C before none past l.1 (before driver.Tick past c)
driver_silent s d is C before none (driver.Lost ∷ past) l c = driver_silent s d is C before none past l.1 (before driver.Lost past c)
driver_silent s d is C before none (driver.Held e ∷ past) l c = driver_silent s d is C before none past l.1 (before (driver.Held e) past c)
driver_silent s d is C before none (driver.Freed e ∷ past) l c = driver_silent s d is C before none past l.1 (before (driver.Freed e) past c)
driver_silent s d is C before none (driver.Given ∷ past) l c = driver_silent s d is C before none past l.1 (before driver.Given past c)

-- an earlier past has no more frames
pub few_sent : (t : Frame → Bool) (a : driver.Act) (past : List driver.Act) → many t (frames_sent (wire (a ∷ past))) ≤ 0 → many t (frames_sent (wire past)) ≤ 0
few_sent t (driver.Sent f) past h = omega (arith, h)
few_sent t (driver.Took q) past h = h
few_sent t (driver.Got f) past h = h
few_sent t (driver.Told o) past h = h
few_sent t (driver.Heard u e line) past h = h
few_sent t driver.Tick past h = h
few_sent t driver.Lost past h = h
few_sent t (driver.Held e) past h = h
few_sent t (driver.Freed e) past h = h
few_sent t driver.Given past h = h

few_got : (t : Frame → Bool) (a : driver.Act) (past : List driver.Act) → many t (frames_got (wire (a ∷ past))) ≤ 0 → many t (frames_got (wire past)) ≤ 0
few_got t (driver.Got f) past h = omega (arith, h)
few_got t (driver.Took q) past h = h
few_got t (driver.Sent f) past h = h
few_got t (driver.Told o) past h = h
few_got t (driver.Heard u e line) past h = h
few_got t driver.Tick past h = h
few_got t driver.Lost past h = h
few_got t (driver.Held e) past h = h
few_got t (driver.Freed e) past h = h
few_got t driver.Given past h = h

-- d is open only while e is
abbrev pub Under : Setting → ℕ → ℕ → Type 0
Under s d e = (past : List driver.Act) → Lawful s past → is_open Initiator d (wire past) ≡ true → is_open Initiator e (wire past) ≡ true

shut_under : (s : Setting) (d e : ℕ) (past : List driver.Act) → Under s d e → Lawful s past → is_open Initiator e (wire past) ≡ false → is_open Initiator d (wire past) ≡ false
shut_under s d e past up l none = by_test (is_open Initiator d (wire past)) refl
  where
    by_test : (b : Bool) → is_open Initiator d (wire past) ≡ b → b ≡ false
    by_test false k = refl
    by_test true k = let t : true ≡ false = sym (up past l k) ∙ none in cc

-- before its SABM on e was sent, and before a UA on e came
pub before_sabm : (s : Setting) (d e : ℕ) (past : List driver.Act) → s.role ≡ Initiator → Under s d e → Lawful s past → many (is_on Sabm e) (frames_sent (wire past)) ≤ 0 → info_in d (frames_sent (wire past)) ≡ []
before_sabm s d e past is up l none =
    driver_silent s d is (λ p. many (is_on Sabm e) (frames_sent (wire p)) ≤ 0) (λ a p c. few_sent (is_on Sabm e) a p c) (λ p k c. shut_under s d e p up k (unasked_yet s e p is k c).shut) past l none

-- before a UA on e came the driver sent nothing on d
pub before_ua : (s : Setting) (d e : ℕ) (past : List driver.Act) → s.role ≡ Initiator → Under s d e → Lawful s past → many (is_on Ua e) (frames_got (wire past)) ≤ 0 → info_in d (frames_sent (wire past)) ≡ []
before_ua s d e past is up l none =
    driver_silent s d is (λ p. many (is_on Ua e) (frames_got (wire p)) ≤ 0) (λ a p c. few_got (is_on Ua e) a p c) (λ p k c. shut_under s d e p up k (not_open p c)) past l none
  where
    not_open : (p : List driver.Act) → many (is_on Ua e) (frames_got (wire p)) ≤ 0 → is_open Initiator e (wire p) ≡ false
    not_open p c = by_test (is_open Initiator e (wire p)) refl
      where
        by_test : (b : Bool) → is_open Initiator e (wire p) ≡ b → b ≡ false
        by_test false k = refl
        by_test true k =
            let x = from_opened (many (is_on Ua e) (frames_got (wire p))) (many (is_on Sabm e) (frames_sent (wire p))) (state_of Initiator e (wire p)) (state_says e (wire p)) (k) in
            absurd (omega (arith, x, c))

-- ## The modem

modem_silent : (n1 d : ℕ) → (C : List station.Act → Type 0) → ((a : station.Act) (past : List station.Act) → C (a ∷ past) → C past)
    → ((past : List station.Act) (f : Frame) → StationLawful (responding n1) past → StationGated (responding n1) past f → f.dlci ≡ d → C past → ⊥) → (past : List station.Act) → StationLawful (responding n1) past → C past → info_in d (frames_sent past) ≡ []
unfolding StationLawful
modem_silent n1 d C before none [] l c = refl
modem_silent n1 d C before none (station.Sent f ∷ past) l c = by_carry (carries d f) refl (modem_silent n1 d C before none past l.1 (before (station.Sent f) past c))
  where
    by_carry : (b : Bool) → carries d f ≡ b → info_in d (frames_sent past) ≡ [] → info_in d (f ∷ frames_sent past) ≡ []
    by_carry false e rest = nothing_more d f (frames_sent past) e ∙ rest
    by_carry true e rest = let k = carried_data d f e in absurd (none past f l.1 (data_gated n1 past f l k.0) k.1 (before (station.Sent f) past c))
modem_silent n1 d C before none (station.Called x ∷ past) l c = modem_silent n1 d C before none past l (before (station.Called x) past c)
modem_silent n1 d C before none (station.Got f ∷ past) l c = modem_silent n1 d C before none past l (before (station.Got f) past c)
modem_silent n1 d C before none (station.Tick ∷ past) l c = modem_silent n1 d C before none past l (before station.Tick past c)
modem_silent n1 d C before none (station.Lost ∷ past) l c = modem_silent n1 d C before none past l (before station.Lost past c)
modem_silent n1 d C before none (station.Given ∷ past) l c = modem_silent n1 d C before none past l (before station.Given past c)

few_sent_m : (t : Frame → Bool) (a : station.Act) (past : List station.Act) → many t (frames_sent (a ∷ past)) ≤ 0 → many t (frames_sent past) ≤ 0
few_sent_m t (station.Sent f) past h = omega (arith, h)
few_sent_m t (station.Called c) past h = h
few_sent_m t (station.Got f) past h = h
few_sent_m t station.Tick past h = h
few_sent_m t station.Lost past h = h
few_sent_m t station.Given past h = h

few_got_m : (t : Frame → Bool) (a : station.Act) (past : List station.Act) → many t (frames_got (a ∷ past)) ≤ 0 → many t (frames_got past) ≤ 0
few_got_m t (station.Got f) past h = omega (arith, h)
few_got_m t (station.Called c) past h = h
few_got_m t (station.Sent f) past h = h
few_got_m t station.Tick past h = h
few_got_m t station.Lost past h = h
few_got_m t station.Given past h = h

-- so it is at the modem
abbrev pub UnderM : ℕ → ℕ → Type 0
UnderM d e = (past : List station.Act) → is_open Responder d past ≡ true → is_open Responder e past ≡ true

-- where the modem may send data on d, e is open
pub gate_open : (n1 d e : ℕ) (past : List station.Act) (f : Frame) → UnderM d e → StationGated (responding n1) past f → f.dlci ≡ d → is_open Responder e past ≡ true
gate_open n1 d e past f up g same = up past (subst (λ (n : ℕ). is_open Responder n past ≡ true) same g.is_open)

-- before a SABM on e came, and before its UA on e was sent
pub before_sabm_m : (n1 d e : ℕ) (past : List station.Act) → UnderM d e → StationLawful (responding n1) past → many (is_on Sabm e) (frames_got past) ≤ 0 → info_in d (frames_sent past) ≡ []
before_sabm_m n1 d e past up l none =
    modem_silent n1 d (λ p. many (is_on Sabm e) (frames_got p) ≤ 0) (λ a p c. few_got_m (is_on Sabm e) a p c)
    (λ p f k g same c. let t : true ≡ false = sym (gate_open n1 d e p f up g same) ∙ (shut n1 e p k c).open_not in cc) past l none

not_lost : (b : Bool) → not b ≡ true → b ≡ false
not_lost false e = refl
not_lost true e = cc

-- before its UA on e was sent the modem sent nothing on d
pub before_ua_m : (n1 d e : ℕ) (past : List station.Act) → UnderM d e → StationLawful (responding n1) past → many (is_on Ua e) (frames_sent past) ≤ 0 → info_in d (frames_sent past) ≡ []
before_ua_m n1 d e past up l none =
    modem_silent n1 d (λ p. many (is_on Ua e) (frames_sent p) ≤ 0) (λ a p c. few_sent_m (is_on Ua e) a p c)
    (λ p f k g same c.
    let some = (behind n1 e p k c).open_owes (not_lost (list_any is_loss p) g.live) (gate_open n1 d e p f up g same) in
    let nothing : many (is_on Ua e) (owed_frames (responding n1) p) ≡ 0 = ap (many (is_on Ua e)) g.behind in
    omega (arith, some, nothing)) past l none

-- of the frames that it sent first, those without a UA on e have none
pub first_before_ua : (n1 d e : ℕ) (past : List station.Act) (later fs : List Frame) → UnderM d e → StationLawful (responding n1) past → frames_sent past ≡ later ++ fs → many (is_on Ua e) fs ≤ 0 → info_in d fs ≡ []
first_before_ua n1 d e past later fs up l is none =
    let o = older_frames n1 past later fs l is in
    let ua : many (is_on Ua e) (frames_sent o.past) ≡ many (is_on Ua e) fs = ap (many (is_on Ua e)) o.sent_are in
    sym (ap (info_in d) o.sent_are) ∙ before_ua_m n1 d e o.past up o.lawful (omega (arith, ua, none))
