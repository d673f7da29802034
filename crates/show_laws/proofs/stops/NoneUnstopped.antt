-- No data is judged to be on a stopped connection, where the driver asks for each connection once.
use Rattle.std.specs.Prelude.{◌≡◌, ℕ, ◌==◌, ◌&&◌, ◌||◌, not, Bool, true, false, List, [], ◌∷◌, length, Option, refl, if◌then◌else◌}
use Rattle.std.proofs.Common.{ap, arith, sym, ◌∙◌, subst}
use Rattle.std.proofs.lemmas.Bool.{and_parts, or_from, or_parts}
use Rattle.mux_frame.specs.Frames.{Frame}
use Rattle.mux_frame.specs.declared.frame.Kind.TheVariants.{Sabm, Ua, Uih}
use Rattle.mux_capture.specs.declared.packet.Direction.TheVariants.{ToModem, FromModem}
use Rattle.mux_capture.specs.declared.packet.Stamp.{Stamp}
use Rattle.mux_station.specs.declared.role.Role.{Role}
use Rattle.mux_station.specs.declared.role.Role.TheVariants.{Initiator, Responder}
use Rattle.mux_station.specs.Acts as station
use Rattle.mux_station.specs.Opening.{is_open, opens_now, since}
use Rattle.mux_station.specs.Stopping.{flow_says, got_says, is_stopped, last_said, msc_says}
use Rattle.mux_station.specs.Written.{is_data_frame, is_kind, is_on}
use Rattle.modem_history.specs.Acts as driver
use Rattle.modem_history.specs.Acts.{wire}
use Rattle.modem_history.specs.Calls.{Setting}
use Rattle.modem_history.specs.Lawful.{Lawful}
use Rattle.modem_history.specs.TwoEnds.{frames_got, frames_sent}
use Rattle.modem_show.specs.declared.rule.Rule.TheVariants.{Unstopped}
use Rattle.modem_show.specs.Ends.{own, says_at}
use Rattle.modem_show.specs.Judging.{is_unstopped}
use Rattle.modem_show.specs.Ways.{caught}
use Rattle.show_laws.specs.Lines.{AtDriver, AtModem, LineAct, captured, driver_past, modem_past, responding}
use Rattle.show_laws.specs.Laws.{HeedsStops}
use Rattle.show_laws.proofs.counts.ManyFrames.{unit}
use Rattle.show_laws.proofs.lines.CapturedFrames.{both_ways, came_few}
use Rattle.show_laws.proofs.lines.EveryFrame.{every}
use Rattle.show_laws.proofs.openings.BothOpen as modem_data
use Rattle.show_laws.proofs.openings.DiscBehindUa.{once_many}
use Rattle.show_laws.proofs.openings.ModemOpen.{above}
use Rattle.show_laws.proofs.openings.NoneUnopened as driver_data
use Rattle.show_laws.proofs.openings.QuietFrames.{asked_at}
use Rattle.show_laws.proofs.openings.AskedLines.{waits_for_ua}
use Rattle.show_laws.proofs.openings.DriverOpen.{IsOnceLine, once_line_before}
use Rattle.show_laws.proofs.stops.DriverKept.{driver_kept}
use Rattle.show_laws.proofs.stops.KeptStops.{kept_stop, none_kept}
use Rattle.show_laws.proofs.stops.ModemKept.{modem_kept}
use Rattle.show_laws.proofs.openings.OpenBelowZero.{open_below}
use Rattle.show_laws.proofs.stops.SeenStops.{driver_seen, modem_seen}
use Rattle.show_laws.proofs.stops.SinceOpening.{OpensFirst, kept_off, since_said}
use Rattle.show_laws.proofs.stops.StopsBehindSabm.{stops_behind_sabm}
use Rattle.show_laws.proofs.stops.StopsBehindUa.{stops_behind_ua}

-- ## Nothing is kept of a stop where a connection is opened

ua_opens : (s : Setting) (n1 d : ℕ) (f : Frame) (line : List LineAct) → IsOnceLine s n1 line → opens_now Initiator d (wire (driver_past line)) (station.Got f) ≡ true → kept_stop Initiator d (wire (driver_past line)) ≡ false
ua_opens s n1 d f line h o =
    let past = wire (driver_past line) in
    let came = (both_ways line h.lawful.one_line).at_driver in
    let none = waits_for_ua s n1 d line h (and_parts (is_on Ua d f) (asked_at d past) o).1 in
    none_kept Initiator d past (stops_behind_ua n1 d (modem_past line) came.later (frames_got past) h.lawful.modem_lawful came.sent_are none)

sabm_opens : (s : Setting) (n1 d : ℕ) (f : Frame) (line : List LineAct) → IsOnceLine s n1 (AtModem (station.Got f) ∷ line) → opens_now Responder d (modem_past line) (station.Got f) ≡ true → kept_stop Responder d (modem_past line) ≡ false
sabm_opens s n1 d f line h o =
    let past = modem_past line in
    let sabm = (and_parts (is_on Sabm d f) ((d == 0) || is_open Responder 0 past) o).0 in
    let all = came_few (is_on Sabm d) (wire (driver_past line)) (station.Got f ∷ past) (both_ways (AtModem (station.Got f) ∷ line) h.lawful.one_line).at_modem in
    let few = once_many (is_on Sabm d) (frames_sent (wire (driver_past line))) in
    let one = h.once d in
    let this : unit (is_on Sabm d f) ≡ 1 = ap unit sabm in
    let came = (both_ways line h.lawful.one_line.1).at_modem in
    none_kept Responder d past (stops_behind_sabm s d (driver_past line) came.later (frames_got past) h.lawful.is_initiator h.lawful.driver_lawful came.sent_are (omega (arith, all, few, one, this)))

-- 0 is open while d is, by these pasts of the driver
abbrev IsBelow : Setting → ℕ → Type 0
IsBelow s d = (past : List driver.Act) → Lawful s past → is_open Initiator d (wire past) ≡ true → is_open Initiator 0 (wire past) ≡ true

driver_first : (s : Setting) (n1 d : ℕ) (line : List LineAct) → IsBelow s d → IsOnceLine s n1 line → OpensFirst Initiator d (wire (driver_past line))
driver_first s n1 d [] b h = tt
driver_first s n1 d (AtModem a ∷ line) b h = driver_first s n1 d line b (once_line_before s n1 (AtModem a) line h)
driver_first s n1 d (AtDriver (driver.Got f) ∷ line) b h =
    let k = once_line_before s n1 (AtDriver (driver.Got f)) line h in
    (record { none = ua_opens s n1 d f line k; below = b (driver_past line) k.lawful.driver_lawful }, driver_first s n1 d line b k)
driver_first s n1 d (AtDriver (driver.Sent f) ∷ line) b h =
    let k = once_line_before s n1 (AtDriver (driver.Sent f)) line h in
    (record { none = λ o. cc; below = b (driver_past line) k.lawful.driver_lawful }, driver_first s n1 d line b k)
driver_first s n1 d (AtDriver driver.Tick ∷ line) b h =
    let k = once_line_before s n1 (AtDriver driver.Tick) line h in
    (record { none = λ o. cc; below = b (driver_past line) k.lawful.driver_lawful }, driver_first s n1 d line b k)
driver_first s n1 d (AtDriver driver.Lost ∷ line) b h =
    let k = once_line_before s n1 (AtDriver driver.Lost) line h in
    (record { none = λ o. cc; below = b (driver_past line) k.lawful.driver_lawful }, driver_first s n1 d line b k)
driver_first s n1 d (AtDriver driver.Given ∷ line) b h =
    let k = once_line_before s n1 (AtDriver driver.Given) line h in
    (record { none = λ o. cc; below = b (driver_past line) k.lawful.driver_lawful }, driver_first s n1 d line b k)
driver_first s n1 d (AtDriver (driver.Took q) ∷ line) b h = driver_first s n1 d line b (once_line_before s n1 (AtDriver (driver.Took q)) line h)
driver_first s n1 d (AtDriver (driver.Told o) ∷ line) b h = driver_first s n1 d line b (once_line_before s n1 (AtDriver (driver.Told o)) line h)
driver_first s n1 d (AtDriver (driver.Heard u e l) ∷ line) b h = driver_first s n1 d line b (once_line_before s n1 (AtDriver (driver.Heard u e l)) line h)
driver_first s n1 d (AtDriver (driver.Held e) ∷ line) b h = driver_first s n1 d line b (once_line_before s n1 (AtDriver (driver.Held e)) line h)
driver_first s n1 d (AtDriver (driver.Freed e) ∷ line) b h = driver_first s n1 d line b (once_line_before s n1 (AtDriver (driver.Freed e)) line h)

modem_first : (s : Setting) (n1 d : ℕ) (line : List LineAct) → ((past : List station.Act) → is_open Responder d past ≡ true → is_open Responder 0 past ≡ true) → IsOnceLine s n1 line → OpensFirst Responder d (modem_past line)
modem_first s n1 d [] b h = tt
modem_first s n1 d (AtDriver a ∷ line) b h = modem_first s n1 d line b (once_line_before s n1 (AtDriver a) line h)
modem_first s n1 d (AtModem (station.Got f) ∷ line) b h =
    (record { none = sabm_opens s n1 d f line h; below = b (modem_past line) }, modem_first s n1 d line b (once_line_before s n1 (AtModem (station.Got f)) line h))
modem_first s n1 d (AtModem (station.Sent f) ∷ line) b h = (record { none = λ o. cc; below = b (modem_past line) }, modem_first s n1 d line b (once_line_before s n1 (AtModem (station.Sent f)) line h))
modem_first s n1 d (AtModem (station.Called c) ∷ line) b h = (record { none = λ o. cc; below = b (modem_past line) }, modem_first s n1 d line b (once_line_before s n1 (AtModem (station.Called c)) line h))
modem_first s n1 d (AtModem station.Tick ∷ line) b h = (record { none = λ o. cc; below = b (modem_past line) }, modem_first s n1 d line b (once_line_before s n1 (AtModem station.Tick) line h))
modem_first s n1 d (AtModem station.Lost ∷ line) b h = (record { none = λ o. cc; below = b (modem_past line) }, modem_first s n1 d line b (once_line_before s n1 (AtModem station.Lost) line h))
modem_first s n1 d (AtModem station.Given ∷ line) b h = (record { none = λ o. cc; below = b (modem_past line) }, modem_first s n1 d line b (once_line_before s n1 (AtModem station.Given) line h))

-- ## One end

not_said : (say : station.Act → Option Bool) (r : Role) (d : ℕ) (q : List station.Act) → last_said say q ≡ false → (is_open r d q && last_said say (since r d q)) ≡ false
not_said say r d q h = by_open (is_open r d q) (last_said say (since r d q)) refl refl
  where
    by_open : (a b : Bool) → is_open r d q ≡ a → last_said say (since r d q) ≡ b → (a && b) ≡ false
    by_open false b e g = refl
    by_open true false e g = refl
    by_open true true e g = let t : true ≡ false = sym (since_said say r d q e g) ∙ h in cc

-- what isn't stopped by the past p isn't stopped by q, where q says of the last message about each stop what p does
unstopped : (r : Role) (d : ℕ) (p q : List station.Act) → not (d == 0) ≡ true → is_open r d p ≡ true → is_open r 0 p ≡ true → is_stopped r d p ≡ false → OpensFirst r d p → OpensFirst r 0 p
    → last_said (got_says (says_at d)) q ≡ kept_stop r d p → last_said (got_says (says_at 0)) q ≡ kept_stop r 0 p → is_stopped r d q ≡ false
unstopped r d p q apart o zero_open goes first zero_first said zero_said =
    let w = words (not (d == 0)) (is_open r d p) (is_open r 0 p) (last_said (got_says (msc_says d)) (since r d p)) (last_said (got_says flow_says) (since r 0 p)) apart o zero_open goes in
    let alike : (past : List station.Act) → last_said (got_says (says_at d)) past ≡ last_said (got_says (msc_says d)) past = λ past. ap (λ (z : Bool). last_said (got_says (if z then flow_says else msc_says d)) past) (turned (d == 0) apart) in
    let own_said = sym (alike q) ∙ (said ∙ kept_off r d p first o (alike (since r d p) ∙ w.0)) in
    let all_said = zero_said ∙ kept_off r 0 p zero_first zero_open w.1 in
    second (not (d == 0)) ((is_open r d q && last_said (got_says (msc_says d)) (since r d q)) || (is_open r 0 q && last_said (got_says flow_says) (since r 0 q)))
    (or_from (is_open r d q && last_said (got_says (msc_says d)) (since r d q)) (is_open r 0 q && last_said (got_says flow_says) (since r 0 q))
    (not_said (got_says (msc_says d)) r d q own_said) (not_said (got_says flow_says) r 0 q all_said))
  where
    words : (n a b x y : Bool) → n ≡ true → a ≡ true → b ≡ true → (n && ((a && x) || (b && y))) ≡ false → (x ≡ false) × (y ≡ false)
    words true true true x y e f g h = or_parts x y h
    words false a b x y e f g h = cc
    words true false b x y e f g h = cc
    words true true false x y e f g h = cc

    turned : (z : Bool) → not z ≡ true → z ≡ false
    turned false e = refl
    turned true e = cc

    second : (a b : Bool) → b ≡ false → (a && b) ≡ false
    second true b e = e
    second false b e = refl

apart_is : (f : Frame) → is_data_frame f ≡ true → not (f.dlci == 0) ≡ true
apart_is f is = (and_parts (is_kind f.kind Uih) (not (f.dlci == 0)) is).1

turned_not : (z : Bool) → not z ≡ true → z ≡ false
turned_not false e = refl
turned_not true e = cc

by_data : (a b : Bool) → (a ≡ true → b ≡ false) → (a && b) ≡ false
by_data false b k = refl
by_data true b k = k refl

driver_goes : (s : Setting) (n1 : ℕ) (stamps : ℕ → Stamp) (f : Frame) (line : List LineAct) → IsOnceLine s n1 (AtDriver (driver.Sent f) ∷ line) → is_unstopped (captured stamps line) (caught (stamps (length (captured stamps line))) ToModem f) ≡ false
driver_goes s n1 stamps f line h =
    by_data (is_data_frame f) (is_stopped Initiator f.dlci (own Initiator (captured stamps line))) (λ is.
    let past = driver_past line in
    let p = wire past in
    let d = f.dlci in
    let k = once_line_before s n1 (AtDriver (driver.Sent f)) line h in
    let gated = driver_data.driver_gated s past f h.lawful.driver_lawful is in
    let apart = apart_is f is in
    let below = λ (older : List driver.Act) (l : Lawful s older) (o : is_open Initiator d (wire older) ≡ true). open_below s d older k.lawful.is_initiator (turned_not (d == 0) apart) l o in
    let o : is_open Initiator d p ≡ true = subst (λ (r : Role). is_open r d p ≡ true) k.lawful.is_initiator gated.is_open in
    let goes : is_stopped Initiator d p ≡ false = subst (λ (r : Role). is_stopped r d p ≡ false) k.lawful.is_initiator gated.goes in
    let kept : (e : ℕ) → last_said (got_says (says_at e)) (own Initiator (captured stamps line)) ≡ kept_stop Initiator e p =
    λ e. driver_seen s n1 e stamps line k.lawful ∙ (driver_kept s e past k.lawful.driver_lawful gated.live gated.behind ∙ ap (λ (r : Role). kept_stop r e p) k.lawful.is_initiator) in
    unstopped Initiator d p (own Initiator (captured stamps line)) apart o (below past k.lawful.driver_lawful o) goes
    (driver_first s n1 d line below k) (driver_first s n1 0 line (λ older l o. o) k) (kept d) (kept 0))

modem_goes : (s : Setting) (n1 : ℕ) (stamps : ℕ → Stamp) (f : Frame) (line : List LineAct) → IsOnceLine s n1 (AtModem (station.Sent f) ∷ line) → is_unstopped (captured stamps line) (caught (stamps (length (captured stamps line))) FromModem f) ≡ false
modem_goes s n1 stamps f line h =
    by_data (is_data_frame f) (is_stopped Responder f.dlci (own Responder (captured stamps line))) (λ is.
    let p = modem_past line in
    let d = f.dlci in
    let k = once_line_before s n1 (AtModem (station.Sent f)) line h in
    let gated = modem_data.data_gated n1 p f h.lawful.modem_lawful is in
    let apart = apart_is f is in
    let below = λ (older : List station.Act) (o : is_open Responder d older ≡ true). above d older (turned_not (d == 0) apart) o in
    let kept : (e : ℕ) → last_said (got_says (says_at e)) (own Responder (captured stamps line)) ≡ kept_stop Responder e p =
    λ e. modem_seen s n1 e stamps line k.lawful ∙ modem_kept (responding n1) e p k.lawful.modem_lawful (turned_not _ gated.live) gated.behind in
    unstopped Responder d p (own Responder (captured stamps line)) apart gated.is_open (below p gated.is_open) (turned_not (is_stopped Responder d p) gated.goes)
    (modem_first s n1 d line below k) (modem_first s n1 0 line (λ older o. o) k) (kept d) (kept 0))

-- on a lawful line whose driver asks for each connection once no data is sent on a stopped one, whichever end stops it
pub heeds_stops : (s : Setting) (n1 : ℕ) (line : List LineAct) → HeedsStops s n1 line
unfolding HeedsStops
heeds_stops s n1 line h once stamps most =
    every (IsOnceLine s n1) (λ x line k. once_line_before s n1 x line k) Unstopped most stamps (λ f line k. driver_goes s n1 stamps f line k) (λ f line k. modem_goes s n1 stamps f line k) line
    (record { lawful = h; once = once })
