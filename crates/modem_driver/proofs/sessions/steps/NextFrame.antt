-- The next frame goes into the output.
use Rattle.std.proofs.Common.{ap, sym, ◌∙◌, subst, arith, eqb-true}
use Rattle.std.proofs.lemmas.Bool.{and_parts}
use Rattle.std.proofs.lemmas.List.{append-nil, nil_from_length}
use Rattle.std.proofs.lemmas.Grind.{flat_map-append}
use Rattle.std.specs.Prelude.{◌≡◌, ◌≢◌, ℕ, ◌+◌, ◌≤◌, ◌==◌, ◌||◌, not, nat_lt, Bool, true, false, List, [], ◌∷◌, ◌++◌, length, take, filter, map, refl, Option, None, Some, option_map, if◌then◌else◌}
use Rattle.std.specs.List.{list_all, list_any}
use Rattle.mux_frame.specs.Frames.{Frame}
use Rattle.mux_frame.specs.declared.frame.Kind.{Kind}
use Rattle.mux_frame.specs.declared.frame.Kind.TheVariants.{Sabm, Ua, Dm, Disc, Uih}
use Rattle.mux_frame.specs.Spelling.{most_info, spelled}
use Rattle.mux_station.specs.Written.{is_kind, is_data_frame}
use Rattle.mux_station.specs.Sending.{queue}
use Rattle.mux_station.specs.GivenFrames.{Outgoing, with_freshness}
use Rattle.modem_desk.specs.declared.request.Outcome.{Outcome}
use Rattle.modem_desk.specs.declared.request.Request.{Request}
use Rattle.modem_desk.specs.declared.request.Urc.{Urc}
use Rattle.modem_desk.specs.Ends.{DriverView}
use Rattle.modem_history.specs.Acts.{Act, Sent, Given, wire, in_hand}
use Rattle.modem_history.specs.Calls.{Setting, is_loss, is_lost}
use Rattle.modem_history.specs.Lawful.{Lawful, Complete, IsNext, When, owed}
use Rattle.modem_history.specs.Wholes.{taken_requests}
use Rattle.modem_history.specs.Sessions.{Beginning, LineView, TakesWithRoom, driving, gots, given_on, octets_of_frames, last_octets, heard_as}
use Rattle.modem_history.specs.Turns.{outcomes_told, lines_heard, may_act}
use Rattle.modem_driver.specs.WaitingTicks.{AreDelays}
use Rattle.modem_driver.specs.declared.machine.delays.Delay.{Delay}
use Rattle.modem_core.specs.CoreGoing.{StandsIn, GoesOut, CoreGoesOn, gone_on}
use Rattle.modem_history.specs.EveryTurn.{acts_out, octets_out, goes_in}
use Rattle.modem_history.specs.GoingOut.{next_out, out_by, next_to_send, data_of, with_out, after_out}
use Rattle.modem_core.specs.Holding.{HoldsFit, KeepsHeldOut}
use Rattle.modem_core.specs.Running.{CoreIsIdle}
use Rattle.modem_driver.specs.SessionStates.{Machine, seen_by, end_of}
use Rattle.modem_driver.specs.TurnSteps.{AddsAll, Leads, is_more, turn_state, view_of}
use Rattle.modem_driver.specs.SendingSteps.{MachineSends}
use Rattle.modem_core.proofs.sessions.steps.LongerHistories.{has_listener}
use Rattle.modem_driver.proofs.sessions.steps.CoreCalls.{FitsMachine, is_run}
use Rattle.modem_driver.proofs.sessions.polls.StopProgress.{come_on, grows_none}
use Rattle.modem_driver.proofs.sessions.steps.WaitingDeliveries.{told_part, heard_part, received_part}
use Rattle.modem_driver.proofs.sessions.steps.QueuedInformation.{queue_plain}
use Rattle.mux_station.proofs.law_proofs.ControlFrames.{is_plain}
use Rattle.modem_driver.proofs.sessions.polls.StopsInHand.{ends, none_ends}
use Rattle.modem_queues.specs.Stops.{is_stop}
use Rattle.modem_history.specs.Rules.{goes_out}

-- ## What goes out of a history

-- a control frame is the first that waits, and a data frame leaves where none waits
record IsFirst (past : List Act) (f : Frame) : Type 0 where
  later : List Frame
  first : queue (wire past) ≡ f ∷ later

abbrev fresh_in : Option Outgoing → Bool
fresh_in None = false
fresh_in (Some o) = o.fresh

abbrev frame_in : Frame → Option Outgoing → Frame
frame_in f None = f
frame_in f (Some o) = o.frame

unsound : {P : Type 0} → true ≡ false → P
unsound e = cc

first_out : (s : Setting) (past : List Act) (f : Frame) (fs : List Frame) → queue (wire past) ≡ fs → out_by s past fs ≡ Some (with_freshness false f) → IsFirst past f
first_out s past f (g ∷ fs) e h = record { later = fs; first = e ∙ ap (λ (o : Option Outgoing). frame_in f o ∷ fs) h }
first_out s past f [] e h = by_turn (next_to_send s.dialect s.role past) h
  where
    by_turn : (o : Option ℕ) → option_map (λ (d : ℕ). with_freshness true (data_of s past d)) o ≡ Some (with_freshness false f) → IsFirst past f
    by_turn None k = absurd (let x : None ≡ Some (with_freshness false f) = k in cc)
    by_turn (Some d) k = unsound (ap fresh_in k)

control_out : (s : Setting) (past : List Act) (f : Frame) → next_out s past ≡ Some (with_freshness false f) → IsFirst past f
control_out s past f h = by_loss (is_lost past) h
  where
    by_loss : (b : Bool) → (if b then None else out_by s past (queue (wire past))) ≡ Some (with_freshness false f) → IsFirst past f
    by_loss true k = absurd (let x : None ≡ Some (with_freshness false f) = k in cc)
    by_loss false k = first_out s past f (queue (wire past)) refl k

first_plain : (s : Setting) (past : List Act) (f : Frame) → Lawful s past → IsFirst past f → is_plain f ≡ true
first_plain s past f l i = (and_parts (is_plain f) (list_all is_plain i.later) (sym (ap (list_all is_plain) i.first) ∙ queue_plain s past l)).0

-- a frame that leaves where nothing is owed is data
fresh_data : (s : Setting) (past : List Act) (f : Frame) → Lawful s (Sent f ∷ past) → Complete s past → is_data_frame f ≡ true
unfolding Lawful Complete
fresh_data s past f l c = by_test (is_data_frame f) refl l.0.controlled
  where
    by_test : (b : Bool) → is_data_frame f ≡ b → When (not b) (IsNext (owed s past) (Sent f)) → is_data_frame f ≡ true
    by_test true e n = e
    by_test false e n = let x : [] ≡ Sent f ∷ n.later = sym c ∙ n.is_next in cc

-- ## Its information

plain_short : (f : Frame) → is_plain f ≡ true → length f.info ≤ 1024 → length f.info ≤ most_info 1024 f.kind
plain_short f p h = by_kind f.kind p
  where
    none : length f.info == 0 ≡ true → length f.info ≤ 0
    none e = let x = eqb-true (length f.info) 0 e in omega (arith, x)

    by_kind : (k : Kind) → (is_kind k Uih || (length f.info == 0)) ≡ true → length f.info ≤ most_info 1024 k
    by_kind Uih e = h
    by_kind Sabm e = none e
    by_kind Ua e = none e
    by_kind Dm e = none e
    by_kind Disc e = none e

data_plain : (f : Frame) → is_data_frame f ≡ true → is_plain f ≡ true
data_plain f h = let k = (and_parts (is_kind f.kind Uih) (not (f.dlci == 0)) h).0 in ap (λ (b : Bool). b || (length f.info == 0)) k

-- ## The octets of what was given on

-- the act that a frame goes out by
abbrev out_act : (fresh : Bool) → Frame → Act
out_act c f = if c then Sent f else Given

-- it is given on, and has information only where it may
record GivenOut (past : List Act) (c : Bool) (f : Frame) : Type 0 where
  given : given_on (out_act c f ∷ past) ≡ given_on past ++ f ∷ []
  plain : is_plain f ≡ true

given_out : (s : Setting) (past : List Act) (c : Bool) (f : Frame) → Some (with_freshness c f) ≡ next_out s past → Lawful s past → Complete s past → Lawful s (out_act c f ∷ past) → GivenOut past c f
given_out s past true f e l w n =
    let out = fresh_data s past f n w in
    record { given = ap (λ (b : Bool). if b then given_on past ++ f ∷ [] else given_on past) out; plain = data_plain f out }
given_out s past false f e l w n =
    let i = control_out s past f (sym e) in
    record { given = ap (λ (fs : List Frame). given_on past ++ take 1 fs) i.first; plain = first_plain s past f l i }

last_of : (fs : List Frame) (f : Frame) → last_octets (fs ++ f ∷ []) ≡ spelled f
last_of [] f = refl
last_of (g ∷ []) f = refl
last_of (g ∷ h ∷ fs) f = last_of (h ∷ fs) f

octets_more : (fs : List Frame) (f : Frame) → octets_of_frames (fs ++ f ∷ []) ≡ octets_of_frames fs ++ spelled f
octets_more fs f = flat_map-append spelled fs (f ∷ []) ∙ ap (λ (xs : List ℕ). octets_of_frames fs ++ xs) (append-nil (spelled f))

-- ## What else is read off the history

record IsOut (a : Act) (past : List Act) : Type 0 where
  taken_is : taken_requests (a ∷ past) ≡ taken_requests past
  hand_is : in_hand (a ∷ past) ≡ in_hand past
  room_is : TakesWithRoom past → TakesWithRoom (a ∷ past)
  gots_are : gots (a ∷ past) ≡ gots past
  losses_are : filter is_loss (a ∷ past) ≡ filter is_loss past
  lost_is : is_lost (a ∷ past) ≡ is_lost past
  told_are : outcomes_told (a ∷ []) ≡ []
  heard_are : lines_heard (a ∷ []) ≡ []
  may : (us : List Urc) → list_all (may_act us) (a ∷ []) ≡ true

is_out : (c : Bool) (f : Frame) (past : List Act) → IsOut (out_act c f) past
is_out true f past = record { taken_is = refl; hand_is = refl; room_is = λ h. h; gots_are = refl; losses_are = refl; lost_is = refl; told_are = refl; heard_are = refl; may = λ us. refl }
is_out false f past = record { taken_is = refl; hand_is = refl; room_is = λ h. h; gots_are = refl; losses_are = refl; lost_is = refl; told_are = refl; heard_are = refl; may = λ us. refl }

out_few : (c : Bool) (f : Frame) → length (gots (out_act c f ∷ [])) ≤ 0
out_few true f = omega arith
out_few false f = omega arith

delays_out : (delays : List (Option Delay)) (c : Bool) (f : Frame) (past : List Act) → AreDelays delays past → AreDelays delays (out_act c f ∷ past)
delays_out delays true f past are = are
delays_out delays false f past are = are

counts : (c : Bool) (f : Frame) → c ≡ list_any is_more (out_act c f ∷ [])
counts true f = refl
counts false f = refl

-- ## The step

-- the core stands in each history that the session fits
pub stands_in : (b : Beginning) (l : LineView) (d : DriverView) (k : Machine) (past : List Act) → FitsMachine b l d k past → StandsIn (driving b) k.core past
stands_in b l d k past f = record { setting = f.inside.setting; fits = f.inside.fits; run = is_run b l d k past f }

out_fits : (old : Machine) (c : Bool) (f : Frame) (out : List ℕ) → old.unwritten ≡ [] → length f.info ≤ 1024 → GoesOut old.core (Some (with_freshness c f)) → CoreGoesOn old.core → KeepsHeldOut old.core → (length f.info ≤ most_info 1024 f.kind → out ≡ spelled f)
    → (b : Beginning) (l : LineView) (d : DriverView) (past : List Act) → FitsMachine b l d old past → FitsMachine b l d (record old { core = gone_on old.core; unwritten = out }) (out_act c f ∷ past)
unfolding GoesOut CoreGoesOn KeepsHeldOut
out_fits old c f out none short goes on holds writes b l d past fit =
    let s = driving b in
    let a = out_act c f in
    let new : Machine = record old { core = gone_on old.core; unwritten = out } in
    let v = seen_by l (end_of d) old in
    let w = seen_by l (end_of d) new in
    let stands = stands_in b l d old past fit in
    let next : Some (with_freshness c f) ≡ next_out s past = goes s past stands in
    let later : after_out s past ≡ a ∷ past = ap (λ (o : Option Outgoing). with_out o past) (sym next) in
    let goes_on : StandsIn s (gone_on old.core) (a ∷ past) = subst (StandsIn s (gone_on old.core)) later (on s past stands) in
    let held : HoldsFit (gone_on old.core) (a ∷ past) = subst (HoldsFit (gone_on old.core)) later (holds s past stands fit.inside.holds) in
    let is : GivenOut past c f = given_out s past c f next stands.run.lawful stands.run.complete goes_on.run.lawful in
    let more : IsOut a past = is_out c f past in
    let written : out ≡ spelled f = writes (plain_short f is.plain short) in
    let h = fit.session in
    let sent = h.sent in
    let before : sent.since ≡ octets_of_frames (given_on past) = sym (append-nil sent.since) ∙ (ap (λ (xs : List ℕ). sent.since ++ xs) (sym none) ∙ sent.frames_are) in
    record {
      session = record {
        history = goes_out past (with_freshness c f) h.history (sym next);
        loss = record {
          one = subst (λ (xs : List Act). length xs ≤ 1) (sym more.losses_are) h.loss.one;
          by_fault = λ gone. h.loss.by_fault (sym more.lost_is ∙ gone);
        };
        requests = record {
          taken_are = h.requests.taken_are ∙ ap (λ (qs : List Request). b.desk.taken ++ qs) (sym more.taken_is);
          once = h.requests.once;
          callers = h.requests.callers;
          few = subst (λ (qs : List Request). length qs + length old.unplaced ≤ 128) (sym more.hand_is) h.requests.few;
        };
        received = received_part b v w past (a ∷ past) h.received refl refl refl more.gots_are;
        sent = record {
          since = sent.since;
          sent_are = sent.sent_are;
          frames_are =
              ap (λ (xs : List ℕ). xs ++ out) before
              ∙ (ap (λ (xs : List ℕ). octets_of_frames (given_on past) ++ xs) written
              ∙ (sym (octets_more (given_on past) f) ∙ ap octets_of_frames (sym is.given)));
          written = 0;
          of_last = written ∙ (sym (last_of (given_on past) f) ∙ ap last_octets (sym is.given));
        };
        told = told_part b v w past (a ∷ []) h.told refl (sym (append-nil old.unplaced) ∙ ap (λ (os : List Outcome). old.unplaced ++ os) (sym more.told_are)) (ap (list_all (λ (o : Outcome). nat_lt o.caller b.callers)) more.told_are);
        heard = heard_part b v w past (a ∷ []) h.heard refl (sym (append-nil (map heard_as old.unannounced)) ∙ ap (λ (xs : List Act). map heard_as old.unannounced ++ xs) (sym more.heard_are)) (ap (list_all (has_listener b.kinds)) more.heard_are);
      };
      inside = record {
        setting = goes_on.setting;
        fits = goes_on.fits;
        holds = held;
        kinds_are = fit.inside.kinds_are;
        callers_are = fit.inside.callers_are;
        sound = fit.inside.sound;
        by_fault = fit.inside.by_fault;
        one_stop = subst (λ (qs : List Request). length (filter is_stop qs) ≤ 1) (sym more.hand_is) fit.inside.one_stop;
        delays_are = delays_out old.delays c f past fit.inside.delays_are;
        come = come_on b v w past (a ∷ []) old.course (none_ends (a ∷ []) past more.taken_is (ap (list_any ends) more.told_are)) (grows_none v w refl refl) fit.inside.come;
      };
    }

-- the frame that goes into the empty output
goes_now : (b : Beginning) (l : LineView) (d : DriverView) (old : Machine) (o : Outgoing) (past : List Act) → old.unwritten ≡ [] → Some o ≡ next_out (driving b) past → Some o ≡ goes_in b (view_of (turn_state l d old)) past
goes_now b l d old o past none next = next ∙ ap (λ (xs : List ℕ). if length xs == 0 then next_out (driving b) past else None) (sym none)

-- the next frame goes into the empty output
pub send_goes : (old : Machine) (o : Outgoing) (out : List ℕ) → old.unwritten ≡ [] → length o.frame.info ≤ 1024 → GoesOut old.core (Some o) → CoreGoesOn old.core → KeepsHeldOut old.core → out ≢ [] → (length o.frame.info ≤ most_info 1024 o.frame.kind → out ≡ spelled o.frame)
    → MachineSends old (record old { core = gone_on old.core; unwritten = out }) o.fresh
unfolding MachineSends Leads AddsAll GoesOut CoreGoesOn
send_goes old o out none short goes on holds some writes l d =
    let a = out_act o.fresh o.frame in
    record {
      acts = a ∷ [];
      leads = λ b past fit. out_fits old o.fresh o.frame out none short goes on holds writes b l d past fit;
      adds = λ waiting b past fit.
          let more : IsOut a past = is_out o.fresh o.frame past in
          record {
            outcomes = sym (append-nil old.unplaced) ∙ ap (λ (os : List Outcome). old.unplaced ++ os) (sym more.told_are);
            lines = sym (append-nil (map heard_as old.unannounced)) ∙ ap (λ (xs : List Act). map heard_as old.unannounced ++ xs) (sym more.heard_are);
            may = more.may waiting;
            few_got = out_few o.fresh o.frame;
          };
      moved_is = counts o.fresh o.frame;
      idle = λ e. absurd (some e);
      none_left = λ e. absurd (some e);
      busy = λ m e. absurd (e none);
      acts_are = λ b past fit. ap acts_out (goes_now b l d old o past none (goes (driving b) past (stands_in b l d old past fit)));
      octets_are = λ b past fit.
          let s = driving b in
          let stands = stands_in b l d old past fit in
          let next : Some o ≡ next_out s past = goes s past stands in
          let goes_on : StandsIn s (gone_on old.core) (a ∷ past) = subst (StandsIn s (gone_on old.core)) (ap (λ (x : Option Outgoing). with_out x past) (sym next)) (on s past stands) in
          let is : GivenOut past o.fresh o.frame = given_out s past o.fresh o.frame next stands.run.lawful stands.run.complete goes_on.run.lawful in
          writes (plain_short o.frame is.plain short)
          ∙ (ap octets_out (goes_now b l d old o past none next) ∙ ap (λ (xs : List ℕ). xs ++ octets_out (goes_in b (view_of (turn_state l d old)) past)) (sym none));
      stays = refl;
    }

-- where octets wait nothing is done
pub send_busy : (old : Machine) → old.unwritten ≢ [] → MachineSends old old false
unfolding MachineSends Leads AddsAll
send_busy old some l d = record {
  acts = [];
  leads = λ b past fit. fit;
  adds = λ waiting b past fit. record { outcomes = sym (append-nil old.unplaced); lines = sym (append-nil (map heard_as old.unannounced)); may = refl; few_got = omega arith };
  moved_is = refl;
  idle = λ e. absurd (some e);
  none_left = λ e. absurd (some e);
  busy = λ m e. (refl, refl);
  acts_are = λ b past fit. ap acts_out (sym (none_goes b old past some));
  octets_are = λ b past fit. sym (append-nil old.unwritten) ∙ ap (λ (o : Option Outgoing). old.unwritten ++ octets_out o) (sym (none_goes b old past some));
  stays = refl;
}
  where
    none_goes : (b : Beginning) (k : Machine) (past : List Act) → k.unwritten ≢ [] → (if length k.unwritten == 0 then next_out (driving b) past else None) ≡ None
    none_goes b k past wait = by_length (length k.unwritten == 0) refl
      where
        by_length : (c : Bool) → (length k.unwritten == 0) ≡ c → (if c then next_out (driving b) past else None) ≡ None
        by_length true e = absurd (wait (nil_from_length k.unwritten (eqb-true (length k.unwritten) 0 e)))
        by_length false e = refl

-- and where nothing is left to send
pub send_none : (old : Machine) → GoesOut old.core None → CoreIsIdle old.core → old.unwritten ≡ [] → MachineSends old old false
unfolding MachineSends Leads AddsAll GoesOut
send_none old goes idle none l d = record {
  acts = [];
  leads = λ b past fit. fit;
  adds = λ waiting b past fit. record { outcomes = sym (append-nil old.unplaced); lines = sym (append-nil (map heard_as old.unannounced)); may = refl; few_got = omega arith };
  moved_is = refl;
  idle = λ e. (refl, (refl, idle));
  none_left = λ e b past fit. sym (goes (driving b) past (stands_in b l d old past fit));
  busy = λ m e. absurd (e none);
  acts_are = λ b past fit. ap acts_out (nothing b past fit);
  octets_are = λ b past fit. sym (append-nil old.unwritten) ∙ ap (λ (o : Option Outgoing). old.unwritten ++ octets_out o) (nothing b past fit);
  stays = refl;
}
  where
    nothing : (b : Beginning) (past : List Act) → FitsMachine b l d old past → None ≡ goes_in b (view_of (turn_state l d old)) past
    nothing b past fit = goes (driving b) past (stands_in b l d old past fit) ∙ ap (λ (xs : List ℕ). if length xs == 0 then next_out (driving b) past else None) (sym none)

-- ## Whether octets wait

-- where their count is 0 no octets wait
pub none_wait : (xs : List ℕ) → (length xs == 0) ≡ true → xs ≡ []
none_wait xs h = nil_from_length xs (eqb-true (length xs) 0 h)

-- and else some do
pub some_wait : (xs : List ℕ) → (length xs == 0) ≡ false → xs ≢ []
some_wait xs h e = unsound (sym (ap (λ (ys : List ℕ). length ys == 0) e) ∙ h)
