-- The station's probe after a frame is the one that is still in hand.
use Rattle.std.specs.Prelude.{◌≡◌, ℕ, ◌&&◌, ◌||◌, not, Bool, true, false, List, [], ◌∷◌, refl, Option, None, Some, is_none, if◌then◌else◌}
use Rattle.std.proofs.Common.{ap, sym, ◌∙◌, arith}
use Rattle.std.proofs.lemmas.Bool.{and_from}
use Rattle.mux_frame.specs.Frames.{Frame}
use Rattle.mux_frame.specs.declared.frame.Kind.TheVariants.{Ua}
use Rattle.mux_station.specs.declared.role.Role.{Role}
use Rattle.mux_station.specs.declared.role.Role.TheVariants.{Initiator}
use Rattle.mux_station.specs.declared.noted.Noted.{Noted}
use Rattle.mux_station.specs.Acts.{Act, Got, Sent}
use Rattle.mux_station.specs.Written.{is_on}
use Rattle.mux_station.specs.Messages.{Message, message_in}
use Rattle.mux_station.specs.States.{State, IsShut, IsOpening, IsOpened, IsClosing, IsStopping, is_opened, state_of}
use Rattle.mux_station.specs.Stages.{as_shown}
use Rattle.mux_station.specs.Opening.{is_open, opens, opens_now, ends, is_asked}
use Rattle.mux_station.proofs.states.OpeningSteps.{is_open_after}
use Rattle.mux_station.specs.Sending.{StationSetting, Waiting, brings_probe_back, refuses_probe, probe_of, probe_after, zero_stays, sent_after}
use Rattle.mux_station.specs.Stations.{Station, channel_at, setting_of}
use Rattle.mux_station.specs.Fitting.{StationFits}
use Rattle.mux_station.proofs.user_calls.CallFrames.{probe_needs, opens_sent}
use Rattle.modem_desk.specs.declared.request.Ask.{Ask}
use Rattle.modem_desk.specs.declared.request.Ask.TheVariants.{Probe}
use Rattle.modem_desk.specs.declared.request.Answer.{Answer}
use Rattle.modem_desk.specs.declared.request.Answer.TheVariants.{Closed, ProbeBack, Refused}
use Rattle.modem_core.specs.declared.telling.Happened.{Happened}
use Rattle.modem_core.specs.declared.telling.Happened.TheVariants as happened
use Rattle.modem_history.specs.Calls.{probe_answer}
use Rattle.modem_core.specs.Telling.{told_by, probe_told, probe_happened, probe_noted, why_shut}
use Rattle.modem_core.specs.Cores.{state_shown}
use Rattle.modem_core.proofs.outgoing.CoreAfterFrame.{state_in}
use Rattle.modem_core.proofs.probes.ProbeAnswers.{still}

-- ## Frames that are sent

and_left : (b c : Bool) → (b && c) ≡ true → b ≡ true
and_left true c h = refl
and_left false c h = cc

or_off : (o b : Bool) → o ≡ false → (o || b) ≡ true → b ≡ true
or_off false b e h = h
or_off true b e h = cc

-- 0 was Opened before a frame that was sent, where it is after it
sent_was : (r : Role) (f : Frame) (past : List Act) → is_opened (state_of r 0 (Sent f ∷ past)) ≡ true → is_opened (state_of r 0 past) ≡ true
sent_was r f past h =
    let o : is_open r 0 (Sent f ∷ past) ≡ true = h in
    and_left (is_open r 0 past) (not (ends (is_open r 0 past) 0 (Sent f))) (or_off (opens_now r 0 past (Sent f)) (is_open r 0 past && not (ends (is_open r 0 past) 0 (Sent f))) (opens_sent r 0 past f) (sym (is_open_after r 0 past (Sent f)) ∙ o))

stays_by : (s : StationSetting) (b : Bool) (o : Option Waiting) (f : Frame) → b ≡ true → probe_after s b o (Sent f) ≡ o
stays_by s b None f e = refl
stays_by s true (Some w) f e = refl
stays_by s false (Some w) f e = cc

record Kept (s : StationSetting) (past later : List Act) : Type 0 where
  probe_same : probe_of s later ≡ probe_of s past
  was : is_opened (state_of s.role 0 past) ≡ true

sends_keep : (s : StationSetting) (fs : List Frame) (past : List Act) → is_opened (state_of s.role 0 (sent_after fs past)) ≡ true → Kept s past (sent_after fs past)
sends_keep s [] past h = record { probe_same = refl; was = h }
sends_keep s (f ∷ fs) past h =
    let rest = sends_keep s fs (Sent f ∷ past) h in
    let stays : zero_stays s past (Sent f) ≡ true = and_from (is_opened (state_of s.role 0 (Sent f ∷ past))) (not (opens_now s.role 0 past (Sent f))) rest.was (ap not (opens_sent s.role 0 past f)) in
    record {
      probe_same = rest.probe_same ∙ stays_by s (zero_stays s past (Sent f)) (probe_of s past) f stays;
      was = sent_was s.role f past rest.was;
    }

-- ## The frame itself

and_off : (b c : Bool) → c ≡ false → (b && c) ≡ false
and_off true false h = refl
and_off false false h = refl
and_off b true h = cc

kept_by : (s : StationSetting) (b : Bool) (w : Waiting) (f : Frame) → b ≡ true
    → probe_after s b (Some w) (Got f) ≡ (if is_none (probe_answer w.data_octets (message_in f)) then Some w else None)
kept_by s true w f e = by_message (message_in f)
  where
    by_tests : (b c : Bool) → (if not (b || c) then Some w else None) ≡ (if is_none (if b then Some ProbeBack else (if c then Some Refused else None)) then Some w else None)
    by_tests true c = refl
    by_tests false true = refl
    by_tests false false = refl

    by_message : (o : Option Message) → (if not (brings_probe_back w.data_octets o || refuses_probe o) then Some w else None) ≡ (if is_none (probe_answer w.data_octets o) then Some w else None)
    by_message None = refl
    by_message (Some m) = by_tests (brings_probe_back w.data_octets (Some m)) (refuses_probe (Some m))
kept_by s false w f e = cc

opened_told : (x : State) (h : Happened) (why : Answer) → is_opened x ≡ true → probe_told (as_shown x) h why ≡ probe_happened h
opened_told IsOpened h why e = refl
opened_told IsShut h why e = cc
opened_told (IsOpening n) h why e = cc
opened_told (IsClosing n) h why e = cc
opened_told (IsStopping n) h why e = cc

shut_told : (x : State) (h : Happened) (why : Answer) → is_opened x ≡ false → probe_told (as_shown x) h why ≡ Some why
shut_told IsShut h why e = refl
shut_told (IsOpening n) h why e = refl
shut_told (IsClosing n) h why e = refl
shut_told (IsStopping n) h why e = refl
shut_told IsOpened h why e = cc

still_none : (says : Ask → Option Answer) (o : Option Waiting) → ((octets : List ℕ) → is_none (says (Probe octets)) ≡ false) → still says o ≡ None
still_none says None h = refl
still_none says (Some w) h = ap (λ (b : Bool). if b then Some w else None) (h w.data_octets)

-- a probe waits only while 0 is Opened
pub needs_open : (s : StationSetting) (past : List Act) (w : Waiting) → probe_of s past ≡ Some w → is_opened (state_of s.role 0 past) ≡ true
needs_open s past w e = by_opened (is_opened (state_of s.role 0 past)) refl
  where
    by_opened : (b : Bool) → is_opened (state_of s.role 0 past) ≡ b → b ≡ true
    by_opened true h = refl
    by_opened false h = absurd (let g : None ≡ Some w = sym (probe_needs s past h) ∙ e in cc)

-- the states of 0 in a station and its past
zero_is : (v : Station) (past : List Act) → v.role ≡ Initiator → StationFits v past → (channel_at v 0).state ≡ state_of Initiator 0 past
zero_is v past r h = state_in v past 0 r h (omega arith)

-- the station's probe stays just where its request is told nothing
pub probe_then : (v st : Station) (seen : List Act) (f : Frame) (fs : List Frame) (n : Noted) (ended : Bool) → v.role ≡ Initiator → setting_of st ≡ setting_of v → StationFits v seen → StationFits st (sent_after fs (Got f ∷ seen))
    → ((w : Waiting) → v.probe ≡ Some w → probe_answer w.data_octets (message_in f) ≡ probe_noted n)
    → st.probe ≡ still (told_by (happened.Got n) ended (λ d. state_shown st false d)) v.probe
probe_then v st seen f fs n ended r e h g says = by_zero (is_opened (channel_at st 0).state) refl
  where
    later : List Act
    later = sent_after fs (Got f ∷ seen)

    tells : Ask → Option Answer
    tells = told_by (happened.Got n) ended (λ d. state_shown st false d)

    role : st.role ≡ Initiator
    role = ap (λ (s : StationSetting). s.role) e ∙ r

    probe_is : st.probe ≡ probe_of (setting_of v) later
    probe_is = sym g.probe_is ∙ ap (λ (s : StationSetting). probe_of s later) e

    opened : (b : Bool) → is_opened (channel_at st 0).state ≡ b → is_opened (state_of v.role 0 later) ≡ b
    opened b z = ap (λ (x : Role). is_opened (state_of x 0 later)) r ∙ (ap is_opened (sym (zero_is st later role g)) ∙ z)

    one_stays : (w : Waiting) → v.probe ≡ Some w → is_opened (channel_at st 0).state ≡ true → probe_of (setting_of v) later ≡ still tells (Some w)
    one_stays w p z =
        let k = sends_keep (setting_of v) fs (Got f ∷ seen) (opened true z) in
        let was : is_opened (state_of v.role 0 seen) ≡ true = needs_open (setting_of v) seen w (h.probe_is ∙ p) in
        let unasked : (is_asked v.role 0 seen) ≡ false = (h.channels_are 0 (omega arith)).unasked (ap is_opened (sym (h.channels_are 0 (omega arith)).state_is) ∙ was) in
        let never : opens_now v.role 0 seen (Got f) ≡ false
        = ap (λ (x : Role). opens x (is_open v.role 0 seen) (is_asked v.role 0 seen) 0 (Got f)) r ∙ and_off (is_on Ua 0 f) (is_asked v.role 0 seen) unasked in
        let stays : zero_stays (setting_of v) seen (Got f) ≡ true = and_from (is_opened (state_of v.role 0 (Got f ∷ seen))) (not (opens_now v.role 0 seen (Got f))) k.was (ap not never) in
        let kept : probe_of (setting_of v) (Got f ∷ seen) ≡ (if is_none (probe_answer w.data_octets (message_in f)) then Some w else None)
        = ap (λ (o : Option Waiting). probe_after (setting_of v) (zero_stays (setting_of v) seen (Got f)) o (Got f)) (h.probe_is ∙ p) ∙ kept_by (setting_of v) (zero_stays (setting_of v) seen (Got f)) w f stays in
        let told : tells (Probe w.data_octets) ≡ probe_answer w.data_octets (message_in f)
        = opened_told (channel_at st 0).state (happened.Got n) (why_shut (happened.Got n) ended Closed) z ∙ sym (says w p) in
        k.probe_same ∙ (kept ∙ ap (λ (o : Option Answer). if is_none o then Some w else None) (sym told))

    none_comes : v.probe ≡ None → is_opened (channel_at st 0).state ≡ true → probe_of (setting_of v) later ≡ None
    none_comes p z =
        let k = sends_keep (setting_of v) fs (Got f ∷ seen) (opened true z) in
        k.probe_same ∙ ap (λ (o : Option Waiting). probe_after (setting_of v) (zero_stays (setting_of v) seen (Got f)) o (Got f)) (h.probe_is ∙ p)

    by_probe : (o : Option Waiting) → v.probe ≡ o → is_opened (channel_at st 0).state ≡ true → st.probe ≡ still tells o
    by_probe None p z = probe_is ∙ none_comes p z
    by_probe (Some w) p z = probe_is ∙ one_stays w p z

    by_zero : (b : Bool) → is_opened (channel_at st 0).state ≡ b → st.probe ≡ still tells v.probe
    by_zero true z = by_probe v.probe refl z
    by_zero false z =
        probe_is
        ∙ (probe_needs (setting_of v) later (opened false z)
        ∙ sym (still_none tells v.probe (λ octets. ap is_none (shut_told (channel_at st 0).state (happened.Got n) (why_shut (happened.Got n) ended Closed) z))))
