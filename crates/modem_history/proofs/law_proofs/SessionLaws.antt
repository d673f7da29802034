-- What it says of a session that it fits a history.
use Rattle.std.proofs.Common.{ap, sym, ◌∙◌, subst, arith, lit≤}
use Rattle.std.proofs.lemmas.List.{append-nil, append_assoc, append_cancel_left}
use Rattle.std.proofs.lemmas.List.Concat.{flat_map-append}
use Rattle.std.specs.Prelude.{◌≡◌, true, false, nat_lt, ℕ, List, [], ◌∷◌, ◌++◌, length, drop, refl, filter, ◌≤◌}
use Rattle.mux_frame.specs.Frames.{Frame}
use Rattle.mux_frame.specs.Spelling.{spelled}
use Rattle.mux_frame.specs.Laws.{AreOctets}
use Rattle.mux_frame.specs.Reading.{Reads}
use Rattle.mux_frame.proofs.readings.ComputedReadings.{found_in, found_reads, octets_both}
use Rattle.mux_frame.proofs.deframers.DeframerPasts.{past_none}
use Rattle.modem_desk.specs.declared.request.Request.{Request}
use Rattle.std.proofs.Math.Seq.{drop-append_seam}
use Rattle.modem_history.specs.Acts.{Act, after, is_for, in_hand}
use Rattle.modem_history.specs.Wholes.{taken_requests, outcomes}
use Rattle.modem_desk.specs.declared.request.Outcome.{Outcome}
use Rattle.modem_history.proofs.outcomes.WholeCounts.{answers_once}
use Rattle.modem_history.proofs.outcomes.SingleOutcomes.{of_its_caller, uses_once}
use Rattle.modem_history.proofs.calls.StatesAfterActs.{after_both}
use Rattle.modem_history.proofs.requests.UntoldRequests.{hand_is}
use Rattle.modem_history.proofs.requests.RequestsAfterCalls.{distinct_front}
use Rattle.modem_history.specs.Requests.{are_distinct}
use Rattle.std.specs.List.{list_all}
use Rattle.modem_history.specs.Rules.{nothing}
use Rattle.modem_history.proofs.rules.MadeLaws.{laws_of}
use Rattle.modem_history.specs.Sessions.{Beginning, SessionView, SessionFits, FitsSent, FitsWith, AreOnce, driving, taken_since, gots, given_on, octets_of_frames, at_place, caller_outcomes}
use Rattle.modem_history.specs.SessionLaws.{BeginsFitting, GotAreRead, SendsSpellings, HasMarks, TellsOnce, FitsSays, RunsOn, KeepsHistory, CallsRunOn, CallsKeepHistory, by_test, untold}
use Rattle.modem_history.specs.SessionRows.{HasNone, beginning, first_request, opened_zero}
use Rattle.modem_history.specs.BadSessions.{told_and_kept}
use Rattle.modem_history.proofs.connections.FrameOrder.{gives_in_order}

never : false ≡ true → ⊥
never e = cc

-- ## Octets that leave

-- what was sent in all, and what waits
sent_whole : (b : Beginning) (v : SessionView) (past : List Act) → FitsSent b v past → v.line.sent ++ v.unwritten ≡ b.line.sent ++ octets_of_frames (given_on past)
sent_whole b v past f =
    ap (λ (xs : List ℕ). xs ++ v.unwritten) f.sent_are
    ∙ (append_assoc b.line.sent f.since v.unwritten ∙ ap (λ (xs : List ℕ). b.line.sent ++ xs) f.frames_are)

-- the octets that a fitting session sent are the first of the spellings of the frames sent
pub sends_spellings : (b : Beginning) (v : SessionView) (past : List Act) → SessionFits b v past → SendsSpellings b v past
sends_spellings b v past f =
    let order = gives_in_order (driving b) past (laws_of f.history).lawful in
    let later = octets_of_frames order.later in
    let given = octets_of_frames (given_on past) in
    record {
      rest = v.unwritten ++ later;
      joins =
          sym (append_assoc v.line.sent v.unwritten later)
          ∙ (ap (λ (xs : List ℕ). xs ++ later) (sent_whole b v past f.sent)
          ∙ (append_assoc b.line.sent given later
          ∙ (ap (λ (xs : List ℕ). b.line.sent ++ xs) (sym (flat_map-append spelled (given_on past) order.later))
          ∙ ap (λ (fs : List Frame). b.line.sent ++ octets_of_frames fs) (sym order.sent_are))));
    }

record AreFirst (fs gs : List Frame) : Type 0 where
  more : List Frame
  are : gs ≡ fs ++ more

first_same : (g w : Frame) (gs ws : List Frame) → g ∷ gs ≡ w ∷ ws → g ≡ w
first_same g w gs ws e = cc

-- frames of which no more is spelled than of others, where both begin one list
spelled_first : (whole given later other : List Frame) (x : List ℕ) → given ++ other ≡ whole ++ later → octets_of_frames given ≡ octets_of_frames whole ++ x → AreFirst whole given
spelled_first [] given later other x e h = record { more = given; are = refl }
spelled_first (w ∷ whole) [] later other x e h = absurd (no_octets h)
  where
    no_octets : {a : ℕ} {xs : List ℕ} → [] ≡ a ∷ xs → ⊥
    no_octets e = cc
spelled_first (w ∷ whole) (g ∷ given) later other x e h =
    let tails : given ++ other ≡ whole ++ later = ap (drop 1) e in
    let octets : spelled g ++ octets_of_frames given ≡ spelled g ++ (octets_of_frames whole ++ x) =
    h ∙ (ap (λ (f : Frame). spelled f ++ octets_of_frames whole ++ x) (sym (first_same g w (given ++ other) (whole ++ later) e)) ∙ append_assoc (spelled g) (octets_of_frames whole) x) in
    let k = spelled_first whole given later other x tails (append_cancel_left (spelled g) (octets_of_frames given) (octets_of_frames whole ++ x) octets) in
    record { more = k.more; are = ap (λ (fs : List Frame). g ∷ fs) k.are ∙ ap (λ (f : Frame). f ∷ (whole ++ k.more)) (first_same g w (given ++ other) (whole ++ later) e) }

-- the frames that are wholly among these octets have been given on
pub has_marks : (b : Beginning) (v : SessionView) (past : List Act) → SessionFits b v past → HasMarks b v past
has_marks b v past f whole later rest e h =
    let order = gives_in_order (driving b) past (laws_of f.history).lawful in
    let wholes = octets_of_frames whole in
    let both : b.line.sent ++ octets_of_frames (given_on past) ≡ b.line.sent ++ (wholes ++ (rest ++ v.unwritten)) =
    sym (sent_whole b v past f.sent)
    ∙ (ap (λ (xs : List ℕ). xs ++ v.unwritten) h
    ∙ (append_assoc (b.line.sent ++ wholes) rest v.unwritten
    ∙ append_assoc b.line.sent wholes (rest ++ v.unwritten))) in
    let k = spelled_first whole (given_on past) later order.later (rest ++ v.unwritten) (sym order.sent_are ∙ e) (append_cancel_left b.line.sent (octets_of_frames (given_on past)) (wholes ++ (rest ++ v.unwritten)) both) in
    record { more = k.more; given_are = k.are }

-- ## Octets that come

-- the frames got are the first of those read in what was received, where what is unfed are octets
pub got_are_read : (b : Beginning) (v : SessionView) (past : List Act) → SessionFits b v past → AreOctets v.unfed → GotAreRead b v past
got_are_read b v past f octets =
    let r = f.received in
    let left = v.deframer.undecided ++ v.unfed in
    let found = found_in v.deframer.n1 (length left) left in
    let on = found_reads v.deframer.n1 (length left) left (omega arith) (octets_both v.deframer.undecided v.unfed r.deframes.octets octets) in
    record {
      octets = r.fed ++ v.unfed;
      since = r.received_are ∙ append_assoc b.line.received r.fed v.unfed;
      later = found.frames;
      rest = found.rest;
      reads = subst (λ n. Reads n (r.fed ++ v.unfed) (gots past ++ found.frames) found.rest) r.bound (r.deframes.reads v.unfed found.frames found.rest on);
    }

-- ## The beginning

drop_own : (qs : List Request) → drop (length qs) qs ≡ []
drop_own [] = refl
drop_own (q ∷ qs) = drop_own qs

-- a new session fits the empty history, where a frame takes an octet at least
pub begins_fitting : (b : Beginning) → BeginsFitting b
unfolding BeginsFitting
begins_fitting b n = record {
  history = nothing n;
  loss = record { one = lit≤ tt; by_fault = λ gone. absurd (never gone) };
  requests = record {
    taken_are = sym (append-nil b.desk.taken);
    once = ap are_distinct (drop_own b.desk.taken);
    callers = ap (list_all (λ (q : Request). nat_lt q.caller b.callers)) (drop_own b.desk.taken);
    few = lit≤ tt;
  };
  received = record { fed = []; received_are = sym (append-nil (b.line.received ++ []) ∙ append-nil b.line.received); bound = refl; deframes = past_none b.n1 };
  sent = record { since = []; sent_are = sym (append-nil b.line.sent); frames_are = refl; written = 0; of_last = refl };
  told = record { each = λ c. record { since = []; told_are = sym (append-nil (at_place c b.desk.told)); outcomes_are = refl }; callers = refl };
  heard = record { each = λ i k at. record { since = []; announced_are = sym (append-nil (at_place i b.desk.announced)); lines_are = refl }; listened = refl; in_order = refl; nowhere_else = λ i far. refl };
}

-- ## Requests

-- what was taken since the session began is what the history took
pub since_are : (b : Beginning) (v : SessionView) (past : List Act) → SessionFits b v past → taken_since b v ≡ taken_requests past
since_are b v past f = ap (drop (length b.desk.taken)) f.requests.taken_are ∙ drop-append_seam b.desk.taken (taken_requests past)

-- so no caller used a number twice
pub distinct_taken : (b : Beginning) (v : SessionView) (past : List Act) → SessionFits b v past → are_distinct (taken_requests past) ≡ true
distinct_taken b v past f = sym (ap are_distinct (since_are b v past f)) ∙ f.requests.once

-- the requests in hand are those taken and not told, in order
pub hand_is_untold : (b : Beginning) (v : SessionView) (past : List Act) → SessionFits b v past → in_hand past ≡ untold past
hand_is_untold b v past f = hand_is (driving b) past (laws_of f.history).lawful (distinct_taken b v past f)

-- no request has two outcomes among those told since the session began and those that wait
pub tells_once : (b : Beginning) (v : SessionView) (past : List Act) → SessionFits b v past → TellsOnce b v
tells_once b v past f r since e =
    let to = f.told.each r.caller in
    let same : since ≡ to.since = append_cancel_left (at_place r.caller b.desk.told) since to.since (sym e ∙ to.told_are) in
    let whole : since ++ caller_outcomes r.caller v.unplaced ≡ caller_outcomes r.caller (outcomes past) = ap (λ (os : List Outcome). os ++ caller_outcomes r.caller v.unplaced) same ∙ to.outcomes_are in
    let theirs : filter (λ o. is_for r o) (since ++ caller_outcomes r.caller v.unplaced) ≡ filter (λ o. is_for r o) (outcomes past) = ap (filter (λ o. is_for r o)) whole ∙ of_its_caller r (outcomes past) in
    let few = (answers_once (driving b) past (laws_of f.history).lawful).once (uses_once (taken_requests past) (distinct_taken b v past f)) r in
    subst (λ (os : List Outcome). length os ≤ 1) (sym theirs) few

-- all this follows where a session fits a history
pub fits_says : (b : Beginning) (v : SessionView) (past : List Act) → FitsSays b v past
unfolding FitsSays
fits_says b v past f = record {
  read = got_are_read b v past f;
  order = gives_in_order (driving b) past (laws_of f.history).lawful;
  spelled = sends_spellings b v past f;
  marked = has_marks b v past f;
  in_hand = hand_is_untold b v past f;
  once = tells_once b v past f;
}

-- ## Calls

-- what was taken since the session began grows by what is taken more
pub since_more : (b : Beginning) (old new : SessionView) (past : List Act) (more : List Request) → SessionFits b old past → new.desk.taken ≡ old.desk.taken ++ more → taken_since b new ≡ taken_since b old ++ more
since_more b old new past more f e =
    let since = taken_requests past in
    ap (drop (length b.desk.taken)) (e ∙ (ap (λ (qs : List Request). qs ++ more) f.requests.taken_are ∙ append_assoc b.desk.taken since more))
    ∙ (drop-append_seam b.desk.taken (since ++ more)
    ∙ ap (λ (qs : List Request). qs ++ more) (sym (since_are b old past f)))

-- so no number was used twice between two calls
pub once_between : (b : Beginning) (old mid new : SessionView) (past : List Act) (xs ys : List Request) → SessionFits b old past → mid.desk.taken ≡ old.desk.taken ++ xs → new.desk.taken ≡ mid.desk.taken ++ ys
    → AreOnce b new → AreOnce b mid
once_between b old mid new past xs ys f e h once =
    let all : new.desk.taken ≡ old.desk.taken ++ (xs ++ ys) = h ∙ (ap (λ (qs : List Request). qs ++ ys) e ∙ append_assoc old.desk.taken xs ys) in
    let since : taken_since b new ≡ taken_since b mid ++ ys =
    since_more b old new past (xs ++ ys) f all
    ∙ (sym (append_assoc (taken_since b old) xs ys)
    ∙ ap (λ (qs : List Request). qs ++ ys) (sym (since_more b old mid past xs f e))) in
    (distinct_front (taken_since b mid) ys (sym (ap are_distinct since) ∙ once)).0

-- two calls in a row are as one, whatever is said of the core before, between and after
pub runs_on : (old mid new : SessionView) (first second third : Beginning → List Act → Type 0) → RunsOn old mid new first second third
runs_on old mid new first second third one other = record {
  acts = one.acts ++ other.acts;
  more = one.more ++ other.more;
  takes_more = other.takes_more ∙ (ap (λ (qs : List Request). qs ++ other.more) one.takes_more ∙ append_assoc old.desk.taken one.more other.more);
  goes = λ b past f.
      let there = other.goes b (after past one.acts) (one.goes b past f) in
      subst (FitsWith b new (third b)) (sym (after_both one.acts other.acts past)) there;
}

-- a session with a history has one after a call, whatever is said of its core
pub keeps_history : (b : Beginning) (old new : SessionView) (core later : Beginning → List Act → Type 0) → KeepsHistory b old new core later
keeps_history b old new core later h g = record { past = after h.past g.acts; fits = g.goes b h.past h.fits }

-- the same of two calls, for all tests of a core
pub calls_run_on : CallsRunOn
unfolding CallsRunOn
calls_run_on old mid new first second third = runs_on old mid new (by_test first) (by_test second) (by_test third)

-- and the same of one call
pub calls_keep_history : (b : Beginning) → CallsKeepHistory b
unfolding CallsKeepHistory
calls_keep_history b old new core later = keeps_history b old new (by_test core) (by_test later)

-- an outcome that was told and waits again has no history
pub kept_has_none : HasNone told_and_kept
kept_has_none past fits =
    let few : 2 ≤ 1 = tells_once beginning told_and_kept.view past fits first_request opened_zero refl in
    omega arith
