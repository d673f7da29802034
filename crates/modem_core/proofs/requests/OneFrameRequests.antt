-- A request for which the station is asked to send one frame.
use Rattle.std.specs.Prelude.{◌≡◌, ℕ, ◌<◌, ◌≤◌, ◌&&◌, not, Bool, true, false, List, [], ◌∷◌, ◌++◌, length, refl, Option, None, is_none, if◌then◌else◌}
use Rattle.std.proofs.Common.{ap, sym, ◌∙◌, subst, arith}
use Rattle.mux_frame.specs.Frames.{Frame}
use Rattle.mux_station.specs.declared.role.Role.{Role}
use Rattle.mux_station.specs.Acts as station
use Rattle.mux_station.specs.States.{State, is_opened, state_of}
use Rattle.mux_station.specs.Offering.{octets_offered}
use Rattle.mux_station.specs.Sending as sending
use Rattle.mux_station.specs.Sending.{Waiting, refused, sent_after}
use Rattle.mux_station.specs.Stations.{Station, channel_at, setting_of, seen_in}
use Rattle.mux_station.specs.Fitting as station_fits
use Rattle.mux_station.specs.Fitting.{call_dlci}
use Rattle.mux_station.specs.Traces.{without_calls}
use Rattle.modem_desk.specs.declared.request.Ask.{Ask}
use Rattle.modem_desk.specs.declared.request.Ask.TheVariants.{OpenChannel, CloseChannel, Command, Probe, Stop}
use Rattle.modem_desk.specs.declared.request.Request.{Request}
use Rattle.modem_desk.specs.declared.request.Answer.{Answer}
use Rattle.modem_core.specs.declared.telling.Happened.TheVariants as happened
use Rattle.modem_history.specs.Acts.{Act, Took, wire}
use Rattle.modem_history.specs.Information.{command_on}
use Rattle.modem_history.specs.Calls.{Setting, seen, asking, at_once, refused_ask}
use Rattle.modem_core.specs.Telling.{told_by, left_by}
use Rattle.modem_core.specs.Cores.{Core, may_wait, state_shown, probe_or, probe_in}
use Rattle.modem_history.proofs.calls.CallEnds.{now_in, ended}
use Rattle.modem_core.proofs.requests.TakenRequests.{Live, asked_frames}
use Rattle.modem_core.proofs.requests.AcceptedRequests.{Accepts, called_fits, once_is, state_then, plain_state, plain_offered}

-- the call was taken, and asks for the frame that the request asks for
pub record Asks (v : Core) (w : Station) (q : Request) (c : station.Call) (f : Role → Frame) : Type 0 where
  pub asks : (r : Role) → asking r q.ask ≡ f r ∷ []
  pub call_asks : (r : Role) → sending.frames_asked r c ≡ f r ∷ []
  pub in_range : call_dlci c < 62
  pub taken_on : refused (setting_of v.station) (seen_in v.station) c ≡ None
  pub goes_on : station_fits.StationHandles v.station w (station.Called c)
  pub no_offer : (d : ℕ) → octets_offered d (station.Called c) ≡ []
  pub no_command : (d : ℕ) → command_on d q.ask ≡ false

-- the station's past then
abbrev pub past_then : (s : Setting) (v : Core) (past : List Act) → Live s v past → station.Call → (Role → Frame) → List station.Act
past_then s v past l c f = station.Sent (f v.station.role) ∷ station.Called c ∷ l.runs.seen

-- which the station fits once it took the call
pub asked_fits : (v : Core) (w : Station) (q : Request) (c : station.Call) (f : Role → Frame) (s : Setting) (past : List Act) → Asks v w q c f → (l : Live s v past) → station_fits.StationFits w (past_then s v past l c f)
asked_fits v w q c f s past a l =
    subst (λ (fs : List Frame). station_fits.StationFits w (sent_after fs (station.Called c ∷ l.runs.seen))) (a.call_asks v.station.role) (called_fits v.station w l.runs.seen c l.runs.fits a.in_range a.taken_on a.goes_on)

-- the states that it keeps then
pub kept_states : (v : Core) (w : Station) (q : Request) (c : station.Call) (f : Role → Frame) (s : Setting) (past : List Act) → Asks v w q c f → (l : Live s v past)
    → (e : ℕ) → e < 62 → (channel_at w e).state ≡ state_of v.station.role e (past_then s v past l c f)
kept_states v w q c f s past a l e b =
    sym ((asked_fits v w q c f s past a l).channels_are e b).state_is ∙ ap (λ (x : sending.StationSetting). state_of x.role e (past_then s v past l c f)) a.goes_on.setting

asked_same : (v : Core) (w : Station) (q : Request) (c : station.Call) (f : Role → Frame) (s : Setting) (past : List Act) → Asks v w q c f → (l : Live s v past)
    → without_calls (past_then s v past l c f) ≡ sent_after (asking s.role q.ask) (wire past)
asked_same v w q c f s past a l =
    ap (λ (x : List station.Act). station.Sent (f v.station.role) ∷ x) l.runs.same
    ∙ (ap (λ (r : Role). station.Sent (f r) ∷ wire past) (sym l.same_role) ∙ ap (λ (gs : List Frame). sent_after gs (wire past)) (sym (a.asks s.role)))

-- a request that nothing refuses is told nothing at once, where there is room in hand
pub asked_once : (s : Setting) (v : Core) (past : List Act) (q : Request) → Live s v past → length v.hand < 128 → refused_ask s (seen s past) q.ask ≡ None → at_once s (seen s past) q ≡ None
asked_once s v past q l few h = once_is s v past q l few ∙ h

-- the states of the call's end are those that it keeps
pub now_kept : (v : Core) (w : Station) (q : Request) (c : station.Call) (f : Role → Frame) (s : Setting) (past : List Act) → Asks v w q c f → (l : Live s v past) → at_once s (seen s past) q ≡ None
    → (e : ℕ) → e < 62 → now_in s past (Took q) e ≡ (channel_at w e).state
now_kept v w q c f s past a l once e b =
    let fs = asking s.role q.ask in
    let acts = past_then s v past l c f in
    state_then s past q fs e (asked_frames s past q l.lost_is once)
    ∙ (ap (state_of s.role e) (sym (asked_same v w q c f s past a l))
    ∙ (plain_state s.role e acts ∙ (ap (λ (r : Role). state_of r e acts) l.same_role ∙ sym (kept_states v w q c f s past a l e b))))

-- what is left to show of such a request
pub asked_accepts : (v : Core) (w : Station) (q : Request) (c : station.Call) (f : Role → Frame) (e : Bool) → length v.hand < 128 → Asks v w q c f → (s : Setting) (past : List Act) → (l : Live s v past)
    → refused_ask s (seen s past) q.ask ≡ None → (is_opened (channel_at v.station 0).state && not (is_opened (channel_at w 0).state)) ≡ e → may_wait (state_shown w false) q.ask ≡ true
    → probe_in (ended s past (Took q)) (left_by (told_by happened.Took e (state_shown w false)) v.hand ++ q ∷ []) ≡ w.probe → Accepts s v past q w e
asked_accepts v w q c f e few a s past l asked ends waits probe =
    let once = asked_once s v past q l few asked in
    let same = asked_same v w q c f s past a l in
    let now0 = now_kept v w q c f s past a l once 0 (omega arith) in
    record {
      once = once;
      acts_seen = past_then s v past l c f;
      fits = asked_fits v w q c f s past a l;
      setting = a.goes_on.setting;
      same = same;
      ends = ap (λ (x : State). is_opened x && not (is_opened (now_in s past (Took q) 0))) (l.states_are 0 (omega arith)) ∙ (ap (λ (x : State). is_opened (channel_at v.station 0).state && not (is_opened x)) now0 ∙ ends);
      waits = waits;
      probe_is = probe;
      offered_are = λ d b z h. plain_offered s v past q c (f v.station.role ∷ []) d l b z same h (a.no_offer d) (a.no_command d);
    }

-- ## Those who are left

-- no more are left than there were
pub few_left : (says : Ask → Option Answer) (rs : List Request) → length (left_by says rs) ≤ length rs
few_left says [] = omega arith
few_left says (r ∷ rs) = by_told (is_none (says r.ask)) (few_left says rs)
  where
    by_told : (b : Bool) → length (left_by says rs) ≤ length rs → length (if b then r ∷ left_by says rs else left_by says rs) ≤ length (r ∷ rs)
    by_told true h = omega (arith, h)
    by_told false h = omega (arith, h)

-- where the probe is told nothing it is among them
pub probe_left : (past : List Act) (says : Ask → Option Answer) (rs : List Request) → ((octets : List ℕ) → says (Probe octets) ≡ None) → probe_in past (left_by says rs) ≡ probe_in past rs
probe_left past says [] h = refl
probe_left past says (r ∷ rs) h = by_ask r.ask refl (probe_left past says rs h)
  where
    others : (b : Bool) (o p : Option Waiting) (left : List Request) → probe_in past left ≡ p → probe_in past (r ∷ left) ≡ probe_in past left → probe_in past (if b then r ∷ left else left) ≡ p
    others true o p left e k = k ∙ e
    others false o p left e k = e

    by_ask : (ask : Ask) → r.ask ≡ ask → probe_in past (left_by says rs) ≡ probe_in past rs → probe_in past (if is_none (says r.ask) then r ∷ left_by says rs else left_by says rs) ≡ probe_or past r r.ask (probe_in past rs)
    by_ask (Probe octets) e k =
        ap (λ (b : Bool). probe_in past (if b then r ∷ left_by says rs else left_by says rs)) (ap (λ (x : Ask). is_none (says x)) e ∙ ap is_none (h octets)) ∙ ap (probe_or past r r.ask) k
    by_ask (OpenChannel d) e k = others (is_none (says r.ask)) None (probe_in past rs) (left_by says rs) k (ap (λ (x : Ask). probe_or past r x (probe_in past (left_by says rs))) e) ∙ sym (ap (λ (x : Ask). probe_or past r x (probe_in past rs)) e)
    by_ask (CloseChannel d) e k = others (is_none (says r.ask)) None (probe_in past rs) (left_by says rs) k (ap (λ (x : Ask). probe_or past r x (probe_in past (left_by says rs))) e) ∙ sym (ap (λ (x : Ask). probe_or past r x (probe_in past rs)) e)
    by_ask (Command d line) e k = others (is_none (says r.ask)) None (probe_in past rs) (left_by says rs) k (ap (λ (x : Ask). probe_or past r x (probe_in past (left_by says rs))) e) ∙ sym (ap (λ (x : Ask). probe_or past r x (probe_in past rs)) e)
    by_ask Stop e k = others (is_none (says r.ask)) None (probe_in past rs) (left_by says rs) k (ap (λ (x : Ask). probe_or past r x (probe_in past (left_by says rs))) e) ∙ sym (ap (λ (x : Ask). probe_or past r x (probe_in past rs)) e)

-- where it is told something there is none among them
pub probe_gone : (past : List Act) (says : Ask → Option Answer) (rs : List Request) → ((octets : List ℕ) → is_none (says (Probe octets)) ≡ false) → probe_in past (left_by says rs) ≡ None
probe_gone past says [] h = refl
probe_gone past says (r ∷ rs) h = by_ask r.ask refl (probe_gone past says rs h)
  where
    others : (b : Bool) (left : List Request) → probe_in past left ≡ None → probe_in past (r ∷ left) ≡ probe_in past left → probe_in past (if b then r ∷ left else left) ≡ None
    others true left e k = k ∙ e
    others false left e k = e

    by_ask : (ask : Ask) → r.ask ≡ ask → probe_in past (left_by says rs) ≡ None → probe_in past (if is_none (says r.ask) then r ∷ left_by says rs else left_by says rs) ≡ None
    by_ask (Probe octets) e k = ap (λ (b : Bool). probe_in past (if b then r ∷ left_by says rs else left_by says rs)) (ap (λ (x : Ask). is_none (says x)) e ∙ h octets) ∙ k
    by_ask (OpenChannel d) e k = others (is_none (says r.ask)) (left_by says rs) k (ap (λ (x : Ask). probe_or past r x (probe_in past (left_by says rs))) e)
    by_ask (CloseChannel d) e k = others (is_none (says r.ask)) (left_by says rs) k (ap (λ (x : Ask). probe_or past r x (probe_in past (left_by says rs))) e)
    by_ask (Command d line) e k = others (is_none (says r.ask)) (left_by says rs) k (ap (λ (x : Ask). probe_or past r x (probe_in past (left_by says rs))) e)
    by_ask Stop e k = others (is_none (says r.ask)) (left_by says rs) k (ap (λ (x : Ask). probe_or past r x (probe_in past (left_by says rs))) e)
