-- What frames that are sent, and the calls that asked for them, leave as it was.
use Rattle.std.specs.Prelude.{◌≡◌, ℕ, ◌&&◌, ◌||◌, not, Bool, true, false, List, [], ◌∷◌, ◌++◌, refl, Option, Some, None}
use Rattle.std.specs.List.{list_all}
use Rattle.std.proofs.Common.{ap, sym, ◌∙◌, append-nil}
use Rattle.std.proofs.lemmas.Bool.{and_parts}
use Rattle.mux_frame.specs.Frames.{Frame}
use Rattle.mux_station.specs.declared.role.Role.{Role}
use Rattle.mux_station.specs.declared.role.Role.TheVariants.{Initiator, Responder}
use Rattle.mux_station.specs.Acts as station
use Rattle.mux_station.specs.Opening.{since, opens_now, is_open, ends}
use Rattle.mux_station.proofs.states.OpeningSteps.{is_open_after}
use Rattle.mux_station.specs.Offering.{octets_offered, joined_octets, offered}
use Rattle.mux_station.specs.Sending.{Waiting, sent_after}
use Rattle.mux_station.specs.Traces.{without_calls}
use Rattle.mux_station.proofs.states.StatesAfterActs.{since_goes_on}
use Rattle.mux_station.proofs.user_calls.CallFrames.{opens_sent, opens_called}
use Rattle.mux_station.proofs.law_proofs.PastsWithoutCalls.{same_open}
use Rattle.modem_desk.specs.declared.request.Ask.{Ask}
use Rattle.modem_desk.specs.declared.request.Ask.TheVariants.{OpenChannel, CloseChannel, Command, Probe, Stop}
use Rattle.modem_desk.specs.declared.request.Request.{Request}
use Rattle.modem_history.specs.Acts.{Act, Took, Got, Sent, Told, Heard, Tick, Lost, Held, Freed, Given, after}
use Rattle.modem_history.specs.Information.{info_got}
use Rattle.modem_history.specs.Calls.{ticks_since}
use Rattle.modem_history.specs.Wholes.{is_said}
use Rattle.modem_core.specs.Cores.{probe_or, probe_in}

-- ## The station's past

-- a connection is open by a past as it is without the calls
pub open_plain : (r : Role) (d : ℕ) (x : List station.Act) → is_open r d x ≡ is_open r d (without_calls x)
open_plain r d x = sym (same_open r d x)

was_open : (o b e : Bool) → (o || (b && e)) ≡ true → o ≡ false → b ≡ true
was_open false true e h k = refl
was_open false false e h k = cc
was_open true b e h k = cc

-- a connection that is open once a frame is sent was open before
pub sent_was : (r : Role) (d : ℕ) (f : Frame) (x : List station.Act) → is_open r d (station.Sent f ∷ x) ≡ true → is_open r d x ≡ true
sent_was r d f x h = was_open _ (is_open r d x) (not (ends (is_open r 0 x) d (station.Sent f))) (sym (is_open_after r d x (station.Sent f)) ∙ h) (opens_sent r d x f)

-- so was one that is open once some frames are sent
pub all_was : (r : Role) (d : ℕ) (fs : List Frame) (x : List station.Act) → is_open r d (sent_after fs x) ≡ true → is_open r d x ≡ true
all_was r d [] x h = h
all_was r d (f ∷ fs) x h = sent_was r d f x (all_was r d fs (station.Sent f ∷ x) h)

-- a tick opens no connection
pub opens_tick : (r : Role) (d : ℕ) (x : List station.Act) → opens_now r d x station.Tick ≡ false
opens_tick Initiator d x = refl
opens_tick Responder d x = refl

-- one that is open after a tick was open before
pub tick_was : (r : Role) (d : ℕ) (x : List station.Act) → is_open r d (station.Tick ∷ x) ≡ true → is_open r d x ≡ true
tick_was r d x h = was_open _ (is_open r d x) (not (ends (is_open r 0 x) d station.Tick)) (sym (is_open_after r d x station.Tick) ∙ h) (opens_tick r d x)

-- a tick brings no information
pub info_tick : (r : Role) (d : ℕ) (x : List station.Act) → is_open r d (station.Tick ∷ x) ≡ true → info_got d (since r d (station.Tick ∷ x)) ≡ info_got d (since r d x)
info_tick r d x h = ap (info_got d) (since_goes_on r d x station.Tick (opens_tick r d x) h)

-- and after a tick the same is offered on it
pub offered_tick : (r : Role) (d : ℕ) (x : List station.Act) → is_open r d (station.Tick ∷ x) ≡ true → offered r d (station.Tick ∷ x) ≡ offered r d x
offered_tick r d x h = ap (joined_octets (octets_offered d)) (since_goes_on r d x station.Tick (opens_tick r d x) h) ∙ append-nil (offered r d x)

since_sent : (r : Role) (d : ℕ) (fs : List Frame) (x : List station.Act) → is_open r d (sent_after fs x) ≡ true → since r d (sent_after fs x) ≡ sent_after fs (since r d x)
since_sent r d [] x h = refl
since_sent r d (f ∷ fs) x h =
    since_sent r d fs (station.Sent f ∷ x) h ∙ ap (sent_after fs) (since_goes_on r d x (station.Sent f) (opens_sent r d x f) (all_was r d fs (station.Sent f ∷ x) h))

info_sent_after : (d : ℕ) (fs : List Frame) (x : List station.Act) → info_got d (sent_after fs x) ≡ info_got d x
info_sent_after d [] x = refl
info_sent_after d (f ∷ fs) x = info_sent_after d fs (station.Sent f ∷ x)

-- no information comes by frames that are sent
pub info_same : (r : Role) (d : ℕ) (fs : List Frame) (x : List station.Act) → is_open r d (sent_after fs x) ≡ true → info_got d (since r d (sent_after fs x)) ≡ info_got d (since r d x)
info_same r d fs x h = ap (info_got d) (since_sent r d fs x h) ∙ info_sent_after d fs (since r d x)

offered_sent : (d : ℕ) (fs : List Frame) (x : List station.Act) → joined_octets (octets_offered d) (sent_after fs x) ≡ joined_octets (octets_offered d) x
offered_sent d [] x = refl
offered_sent d (f ∷ fs) x = offered_sent d fs (station.Sent f ∷ x) ∙ append-nil (joined_octets (octets_offered d) x)

-- nothing is offered by frames that are sent
pub offered_same : (r : Role) (d : ℕ) (fs : List Frame) (x : List station.Act) → is_open r d (sent_after fs x) ≡ true → offered r d (sent_after fs x) ≡ offered r d x
offered_same r d fs x h = ap (joined_octets (octets_offered d)) (since_sent r d fs x h) ∙ offered_sent d fs (since r d x)

-- and by a call just what it offers
pub offered_called : (r : Role) (d : ℕ) (c : station.Call) (x : List station.Act) → is_open r d (station.Called c ∷ x) ≡ true
    → offered r d (station.Called c ∷ x) ≡ offered r d x ++ octets_offered d (station.Called c)
offered_called r d c x h = ap (joined_octets (octets_offered d)) (since_goes_on r d x (station.Called c) (opens_called r d x c) h)

-- ## Ticks

-- what a call is called for counts no ticks
pub ticks_behind : (r : Request) (acts past : List Act) → list_all is_said acts ≡ true → ticks_since r (after past acts) ≡ ticks_since r past
ticks_behind r [] past h = refl
ticks_behind r (Sent f ∷ acts) past h = ticks_behind r acts (Sent f ∷ past) (and_parts (is_said (Sent f)) (list_all is_said acts) h).1
ticks_behind r (Told o ∷ acts) past h = ticks_behind r acts (Told o ∷ past) h
ticks_behind r (Heard k d line ∷ acts) past h = ticks_behind r acts (Heard k d line ∷ past) h
ticks_behind r (Took q ∷ acts) past h = absurd (let e : false ≡ true = h in cc)
ticks_behind r (Got f ∷ acts) past h = absurd (let e : false ≡ true = h in cc)
ticks_behind r (Tick ∷ acts) past h = absurd (let e : false ≡ true = h in cc)
ticks_behind r (Lost ∷ acts) past h = absurd (let e : false ≡ true = h in cc)
ticks_behind r (Held d ∷ acts) past h = absurd (let e : false ≡ true = h in cc)
ticks_behind r (Freed d ∷ acts) past h = absurd (let e : false ≡ true = h in cc)
ticks_behind r (Given ∷ acts) past h = absurd (let e : false ≡ true = h in cc)

-- ## The probe in hand

-- ticks that are the same for each leave the probe as it is
pub record SameTicks (past later : List Act) (r : Request) : Type 0 where
  pub ticks_same : ticks_since r later ≡ ticks_since r past

-- each of these requests has as many ticks behind it by both pasts
unfoldable pub EachSame : List Act → List Act → List Request → Type 0
EachSame past later [] = Unit {0}
EachSame past later (r ∷ rs) = SameTicks past later r × EachSame past later rs

probe_on : (past later : List Act) (r : Request) (ask : Ask) (o p : Option Waiting) → ticks_since r later ≡ ticks_since r past → o ≡ p → probe_or later r ask o ≡ probe_or past r ask p
probe_on past later r (Probe octets) o p h e = ap (λ (n : ℕ). Some (let w : Waiting = record { data_octets = octets; ticks = n } in w)) h
probe_on past later r (OpenChannel d) o p h e = e
probe_on past later r (CloseChannel d) o p h e = e
probe_on past later r (Command d line) o p h e = e
probe_on past later r Stop o p h e = e

-- so the probe among them is the same by both
pub probe_same : (past later : List Act) (rs : List Request) → EachSame past later rs → probe_in later rs ≡ probe_in past rs
unfolding EachSame
probe_same past later [] h = refl
probe_same past later (r ∷ rs) h = probe_on past later r r.ask (probe_in later rs) (probe_in past rs) h.0.ticks_same (probe_same past later rs h.1)

-- it asks for a probe
abbrev pub is_probe : Ask → Bool
is_probe (Probe octets) = true
is_probe _ = false

-- one more that is no probe
pub probe_more : (past : List Act) (rs : List Request) (q : Request) → is_probe q.ask ≡ false → probe_in past (rs ++ q ∷ []) ≡ probe_in past rs
probe_more past [] q h = by_ask q.ask h
  where
    by_ask : (ask : Ask) → is_probe ask ≡ false → probe_or past q ask None ≡ None
    by_ask (Probe octets) e = cc
    by_ask (OpenChannel d) e = refl
    by_ask (CloseChannel d) e = refl
    by_ask (Command d line) e = refl
    by_ask Stop e = refl
probe_more past (r ∷ rs) q h = ap (probe_or past r r.ask) (probe_more past rs q h)
