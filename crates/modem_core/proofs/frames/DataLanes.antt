-- What data of an open connection makes of what is kept of it.
use Rattle.std.specs.Prelude.{suc, ◌≡◌, ℕ, ◌+◌, ◌<◌, ◌≤◌, ◌==◌, ◌&&◌, not, min, Bool, true, false, List, [], ◌∷◌, ◌++◌, length, take, drop, map, refl, Option, None, Some, is_some, if◌then◌else◌}
use Rattle.std.specs.List.{concat}
use Rattle.std.proofs.Common.{ap, sym, ◌∙◌, subst, arith, append-nil, length-append}
use Rattle.std.proofs.Math.Seq.{take-append_seam}
use Rattle.std.proofs.lemmas.Bool.{and_from}
use Rattle.std.proofs.lemmas.List.{length-take, take-append-drop}
use Rattle.std.proofs.lemmas.List.Folds.{concat-append}
use Rattle.mux_frame.specs.Frames.{Frame}
use Rattle.mux_station.specs.declared.role.Role.{Role}
use Rattle.mux_station.specs.declared.role.Role.TheVariants.{Initiator}
use Rattle.mux_station.specs.Acts as station
use Rattle.mux_station.specs.Written.{is_data_frame}
use Rattle.mux_station.specs.Opening.{since, belongs, opens_now, is_open, is_asked}
use Rattle.mux_station.specs.States.{is_opened}
use Rattle.mux_station.specs.Offering.{octets_offered, joined_octets, offered, data_out}
use Rattle.mux_station.specs.Sending.{called_frames as station_calls}
use Rattle.mux_station.specs.Stations.{Station, channel_at, setting_of}
use Rattle.mux_station.specs.Fitting as station_fits
use Rattle.mux_station.proofs.states.StatesAfterActs.{since_goes_on}
use Rattle.mux_station.proofs.states.StationPasts.{open_fits}
use Rattle.at_text.specs.Dialects.{Dialect}
use Rattle.at_text.specs.Lines.{lines, kept_run}
use Rattle.at_text.proofs.lines.UnfinishedLines.{reads_on}
use Rattle.at_text.specs.Windows.{Mark, Line, Window, answered, open_window, IsInTurn}
use Rattle.at_text.specs.declared.unsolicited.UrcKind.{UrcKind}
use Rattle.modem_desk.specs.declared.request.Request.{Request}
use Rattle.modem_core.specs.Lanes.{Lane}
use Rattle.modem_history.specs.Acts.{Act, Got, wire, in_hand}
use Rattle.modem_history.specs.Information.{carries, info_got, information_in, information_out, accepted, texts}
use Rattle.modem_history.specs.Placing.{marks, run_on, whole_in}
use Rattle.modem_history.specs.Calls.{Setting, first_on, is_lost}
use Rattle.modem_core.specs.SentTexts.{text_of}
use Rattle.modem_history.specs.Begun.{begun_count}
use Rattle.modem_history.specs.Wholes.{commands_for, InStep}
use Rattle.modem_core.specs.Cores.{dialect_in, Core, LaneFits, Runs, IsRun}
use Rattle.modem_history.proofs.requests.RequestsAfterCalls.{first_head, head_of}
use Rattle.modem_history.proofs.requests.ClosedWindows.{closed_stays}
use Rattle.modem_history.proofs.commands.CommandOrder.{open_count, counts}
use Rattle.modem_history.proofs.commands.BegunCommands as begins
use Rattle.modem_history.proofs.commands.BegunCommands.{turns_lines}
use Rattle.modem_history.proofs.requests.StepsOfHistory.{stays_in_step}
use Rattle.modem_history.specs.Wholes.{StaysInStep}
use Rattle.modem_core.proofs.commands.SentTexts.{texts_both, length_texts}
use Rattle.modem_history.proofs.calls.CallEnds.{ended, end_of}
use Rattle.modem_history.proofs.requests.CommandsInStep.{open_first}
use Rattle.modem_history.proofs.requests.StepOfFrame.{closes, data_opens_none, got_accepted, got_marks, data_carries, begun_same}
use Rattle.modem_core.proofs.commands.NextCommand.{whole_least, began, take_one, take_all}
use Rattle.modem_core.proofs.outgoing.WaitingData.{given_seen}
use Rattle.modem_core.proofs.outgoing.CoreAfterFrame.{IsSound, own}
use Rattle.modem_core.proofs.outgoing.LanesAfterFrame.{offered_after}
use Rattle.modem_core.proofs.frames.StationAfterFrame.{seen_then, same_then}
use Rattle.modem_core.proofs.frames.LanesAfterFrame.{opens_seen, offered_sent, since_by, run_end}

-- ## How many answers there are

counted : (c : Bool) (o p : Option Window) (k k' n n' : ℕ) → (is_some o && not (is_some p)) ≡ c → (o ≡ None → p ≡ None) → k + open_count o ≡ n → k' + open_count p ≡ n' → n' ≡ n → k' ≡ k + (if c then 1 else 0)
counted true (Some w) None k k' n n' e s a b m = omega (arith, a, b, m)
counted true None p k k' n n' e s a b m = cc
counted true (Some w) (Some v) k k' n n' e s a b m = cc
counted false (Some w) (Some v) k k' n n' e s a b m = omega (arith, a, b, m)
counted false None None k k' n n' e s a b m = omega (arith, a, b, m)
counted false None (Some v) k k' n n' e s a b m = absurd (let x : Some v ≡ None = s refl in cc)
counted false (Some w) None k k' n n' e s a b m = cc

-- a window more has its answer where the lines close one
answered_then : (dialect : Dialect) (ms : List Mark) (ls : List (List ℕ)) (out : List ℕ) (qs : List Request) → begins.KeptCommands dialect ms out qs → answered dialect (ms ++ map Line ls) ≡ answered dialect ms + (if closes dialect ms ls then 1 else 0)
answered_then dialect ms ls out qs k =
    counted (closes dialect ms ls) (open_window dialect ms) (open_window dialect (ms ++ map Line ls)) (answered dialect ms) (answered dialect (ms ++ map Line ls)) (begun_count ms) (begun_count (ms ++ map Line ls)) refl (closed_stays dialect ms ls)
    (counts dialect ms k.turns.order) (counts dialect (ms ++ map Line ls) (turns_lines dialect ls ms k.turns).order) (begun_same ms ls)

-- ## What is known after the frame

pub record DataKept (v : Core) (l : UrcKind → Bool) (past : List Act) (r : Runs v past) (f : Frame) (lane : Lane) : Type 0 where
  pub marks_are : marks Initiator f.dlci (ended (own v l) past (Got f)) ≡ marks Initiator f.dlci past ++ map Line (lines (lane.kept ++ f.info))
  pub accepted_are : accepted Initiator f.dlci (ended (own v l) past (Got f)) ≡ accepted Initiator f.dlci past
  pub run_is : run_on Initiator f.dlci (ended (own v l) past (Got f)) ≡ kept_run (lane.kept ++ f.info)
  pub in_turn : IsInTurn (dialect_in v) (marks Initiator f.dlci (ended (own v l) past (Got f)))
  pub offered_same : offered Initiator f.dlci (seen_then v r.seen f) ≡ offered Initiator f.dlci r.seen
  pub answered_are : answered (dialect_in v) (marks Initiator f.dlci (ended (own v l) past (Got f))) ≡ answered (dialect_in v) (marks Initiator f.dlci past) + (if closes (dialect_in v) (marks Initiator f.dlci past) (lines (lane.kept ++ f.info)) then 1 else 0)

-- on a connection open before the data and after it, its lines are placed, and nothing more is accepted or offered
pub data_kept : (v : Core) (l : UrcKind → Bool) (past : List Act) (r : Runs v past) (f : Frame) (lane : Lane) → is_data_frame f ≡ true → (f.dlci == 0) ≡ false → IsRun (own v l) past
    → is_open Initiator f.dlci (wire past) ≡ true → is_open Initiator f.dlci (wire (ended (own v l) past (Got f))) ≡ true → LaneFits (dialect_in v) f.dlci r.seen past lane → DataKept v l past r f lane
data_kept v l past r f lane h z run was o k =
    let s = own v l in
    let d = f.dlci in
    let a = Got f in
    let g = end_of s past a d in
    let ms = marks Initiator d past in
    let never : opens_now Initiator d (wire past) (station.Got f) ≡ false = data_opens_none Initiator refl (is_open Initiator 0 (wire past)) (is_asked Initiator d (wire past)) d f h in
    let brings : carries d f ≡ true = data_carries d f h z refl in
    let here : (carries d f && is_open Initiator d (wire past)) ≡ true = and_from (carries d f) (is_open Initiator d (wire past)) brings was in
    let same_lines : lines (run_on Initiator d past ++ f.info) ≡ lines (lane.kept ++ f.info) = ap (λ (x : List ℕ). lines (x ++ f.info)) k.kept_is in
    let ls = lines (lane.kept ++ f.info) in
    let placed : marks Initiator d (ended s past a) ≡ ms ++ map Line ls
    = g.marks_are ∙ (got_marks s d past f true never here ∙ ap (λ (x : List (List ℕ)). ms ++ map Line x) same_lines) in
    let x = information_in Initiator d past in
    let more : since Initiator d (station.Got f ∷ wire past) ≡ station.Got f ∷ since Initiator d (wire past) = since_goes_on Initiator d (wire past) (station.Got f) never (open_first s d past a o) in
    let run_is : run_on Initiator d (ended s past a) ≡ kept_run (lane.kept ++ f.info)
    = run_end v l past f d
    ∙ (ap (λ (w : List station.Act). kept_run (info_got d w)) more
    ∙ (ap (λ (b : Bool). kept_run (x ++ (if b then f.info else []))) brings
    ∙ ((reads_on x f.info).keeps ∙ ap (λ (w : List ℕ). kept_run (w ++ f.info)) k.kept_is))) in
    let kept = begins.kept s past run.lawful d in
    record {
      marks_are = placed;
      accepted_are = g.accepted_is ∙ got_accepted s d past f never;
      run_is = run_is;
      in_turn = subst (IsInTurn (dialect_in v)) (sym placed) (turns_lines (dialect_in v) ls ms kept.turns).in_turn;
      offered_same =
          offered_sent d (station_calls (setting_of v.station) r.seen (station.Got f)) (station.Got f ∷ r.seen)
          ∙ (ap (λ (b : Bool). joined_octets (octets_offered d) (since_by b d (station.Got f) r.seen)) (opens_seen d r.seen past (station.Got f) r.same ∙ never)
          ∙ offered_after (belongs Initiator d r.seen (station.Got f)) (station.Got f) d (since Initiator d r.seen) refl);
      answered_are = ap (answered (dialect_in v)) placed ∙ answered_then (dialect_in v) ms ls (information_out Initiator d past) (accepted Initiator d past) kept;
    }

-- ## The ring

one_more : (b : Bool) (k : ℕ) → b ≡ true → k + (if b then 1 else 0) ≡ k + 1
one_more true k h = refl
one_more false k h = cc

none_more : (b : Bool) (k : ℕ) → b ≡ false → k + (if b then 1 else 0) ≡ k
none_more false k h = omega arith
none_more true k h = cc

no_octets : (xs : List ℕ) → length xs ≤ 0 → xs ≡ []
no_octets [] h = refl
no_octets (x ∷ xs) h = absurd (let e : suc (length xs) ≤ 0 = h in omega (arith, e))

closed_now : (o p : Option Window) → (is_some o && not (is_some p)) ≡ true → open_count p ≡ 0
closed_now (Some w) None h = refl
closed_now (Some w) (Some v) h = cc
closed_now None p h = cc

-- where a command has its answer, nothing of it waits
pub ring_answered : (v : Core) (l : UrcKind → Bool) (past : List Act) (r : Runs v past) (f : Frame) (lane : Lane) (st : Station) → IsSound v → is_lost past ≡ false → (f.dlci == 0) ≡ false → f.dlci < 62
    → IsRun (own v l) (ended (own v l) past (Got f)) → is_open Initiator f.dlci (wire (ended (own v l) past (Got f))) ≡ true → is_open Initiator f.dlci (seen_then v r.seen f) ≡ true → LaneFits (dialect_in v) f.dlci r.seen past lane
    → DataKept v l past r f lane → closes (dialect_in v) (marks Initiator f.dlci past) (lines (lane.kept ++ f.info)) ≡ true → st.role ≡ Initiator → station_fits.StationFits st (seen_then v r.seen f) → (channel_at st f.dlci).waiting ≡ []
ring_answered v l past r f lane st i live z range run o seen_open k c done role h =
    let s = own v l in
    let d = f.dlci in
    let w = (channel_at st d).waiting in
    let out = information_out Initiator d (ended s past (Got f)) in
    let qs = accepted Initiator d past in
    let n = answered (dialect_in v) (marks Initiator d past) in
    let opened : is_opened (channel_at st d).state ≡ true = sym (subst (λ (x : Role). is_open x d (seen_then v r.seen f) ≡ is_opened (channel_at st d).state) role (open_fits st (seen_then v r.seen f) d h range)) ∙ seen_open in
    let ring : offered Initiator d (seen_then v r.seen f) ≡ data_out Initiator d (seen_then v r.seen f) ++ w
    = subst (λ (x : Role). offered x d (seen_then v r.seen f) ≡ data_out x d (seen_then v r.seen f) ++ w) role ((h.channels_are d range).ring_is opened) in
    let gone : data_out Initiator d (seen_then v r.seen f) ≡ out = given_seen Initiator d (seen_then v r.seen f) (ended s past (Got f)) (same_then v l past r f i live) z in
    let all : concat (texts (take (n + 1) qs)) ≡ out ++ w = sym (c.offered_same ∙ k.offered_is) ∙ (ring ∙ ap (λ (x : List ℕ). x ++ w) gone) in
    let sizes = ap length all ∙ length-append out w in
    let kept = subst (λ (q : List Request). begins.KeptCommands (dialect_in v) (marks Initiator d (ended s past (Got f))) out q) c.accepted_are (begins.kept s (ended s past (Got f)) run.lawful d) in
    let whole = began (dialect_in v) (marks Initiator d (ended s past (Got f))) out qs kept in
    let all_counted = counts (dialect_in v) (marks Initiator d (ended s past (Got f))) kept.turns.order in
    let none : open_count (open_window (dialect_in v) (marks Initiator d (ended s past (Got f)))) ≡ 0
    = ap (λ (x : List Mark). open_count (open_window (dialect_in v) x)) c.marks_are ∙ closed_now (open_window (dialect_in v) (marks Initiator d past)) (open_window (dialect_in v) (marks Initiator d past ++ map Line (lines (lane.kept ++ f.info)))) done in
    let count = c.answered_are ∙ one_more (closes (dialect_in v) (marks Initiator d past) (lines (lane.kept ++ f.info))) n done in
    let split : texts qs ≡ texts (take (n + 1) qs) ++ texts (drop (n + 1) qs) = ap texts (sym (take-append-drop (n + 1) qs)) ∙ texts_both (take (n + 1) qs) (drop (n + 1) qs) in
    let parts : whole_in (length out) (texts qs) ≡ whole_in (length out) (texts (take (n + 1) qs) ++ texts (drop (n + 1) qs)) = ap (whole_in (length out)) split in
    let few : length (texts (take (n + 1) qs)) ≡ min (n + 1) (length qs) = length_texts (take (n + 1) qs) ∙ length-take (n + 1) qs in
    let least : length (concat (texts (take (n + 1) qs))) ≤ length out = whole_least (length out) (texts (take (n + 1) qs)) (texts (drop (n + 1) qs)) (omega (arith, whole, all_counted, none, count, parts, few)) in
    no_octets w (omega (arith, least, sizes))

-- ## What may leave then

-- the text of the next command
abbrev pub text_next : Option Request → List ℕ
text_next None = []
text_next (Some c) = text_of c

next_text : (before cs : List Request) → concat (texts before) ++ text_next (head_of cs) ≡ concat (texts (take (length before + 1) (before ++ cs)))
next_text before [] = append-nil (concat (texts before)) ∙ ap (λ (qs : List Request). concat (texts qs)) (sym (take_all before))
next_text before (c ∷ rest) =
    sym (
    ap (λ (qs : List Request). concat (texts qs)) (take_one before rest c)
    ∙ (ap concat (texts_both before (c ∷ [])) ∙ (concat-append (texts before) (text_of c ∷ []) ∙ ap (λ (v : List ℕ). concat (texts before) ++ v) (append-nil (text_of c)))))

-- on an open connection the commands in hand are the last that were accepted
pub step_of : (s : Setting) (past : List Act) (d : ℕ) → s.role ≡ Initiator → IsRun s past → is_lost past ≡ false → (d == 0) ≡ false → is_open s.role d (wire past) ≡ true → InStep s d past
unfolding StaysInStep
step_of s past d r run live z o = (stays_in_step s past run.lawful r run.whole run.numbers live run.complete d z).while_open o

-- what was offered on it, and the next command where one has its answer, is what may leave then
pub offered_then : (v : Core) (l : UrcKind → Bool) (past : List Act) (r : Runs v past) (f : Frame) (lane : Lane) (done : Bool) → is_lost (ended (own v l) past (Got f)) ≡ false → (f.dlci == 0) ≡ false
    → IsRun (own v l) (ended (own v l) past (Got f)) → is_open Initiator f.dlci (wire (ended (own v l) past (Got f))) ≡ true → LaneFits (dialect_in v) f.dlci r.seen past lane → DataKept v l past r f lane
    → closes (dialect_in v) (marks Initiator f.dlci past) (lines (lane.kept ++ f.info)) ≡ done
    → offered Initiator f.dlci (seen_then v r.seen f) ++ (if done then text_next (first_on f.dlci (in_hand (ended (own v l) past (Got f)))) else [])
    ≡ concat (texts (take (answered (dialect_in v) (marks Initiator f.dlci (ended (own v l) past (Got f))) + 1) (accepted Initiator f.dlci (ended (own v l) past (Got f)))))
offered_then v l past r f lane false live z run o k c e =
    let d = f.dlci in
    append-nil (offered Initiator d (seen_then v r.seen f))
    ∙ (c.offered_same ∙ (k.offered_is
    ∙ (ap (λ (n : ℕ). concat (texts (take (n + 1) (accepted Initiator d past)))) (sym (c.answered_are ∙ none_more (closes (dialect_in v) (marks Initiator d past) (lines (lane.kept ++ f.info))) (answered (dialect_in v) (marks Initiator d past)) e))
    ∙ ap (λ (qs : List Request). concat (texts (take (answered (dialect_in v) (marks Initiator d (ended (own v l) past (Got f))) + 1) qs))) (sym c.accepted_are))))
offered_then v l past r f lane true live z run o k c e = by_step in_step_then
  where
    in_step_then : InStep (own v l) f.dlci (ended (own v l) past (Got f))
    in_step_then = step_of (own v l) (ended (own v l) past (Got f)) f.dlci refl run live z o

    by_step : InStep (own v l) f.dlci (ended (own v l) past (Got f))
        → offered Initiator f.dlci (seen_then v r.seen f) ++ text_next (first_on f.dlci (in_hand (ended (own v l) past (Got f))))
        ≡ concat (texts (take (answered (dialect_in v) (marks Initiator f.dlci (ended (own v l) past (Got f))) + 1) (accepted Initiator f.dlci (ended (own v l) past (Got f)))))
    by_step i =
        let d = f.dlci in
        let later = ended (own v l) past (Got f) in
        let cs = commands_for d (in_hand later) in
        let count : answered (dialect_in v) (marks Initiator d past) + 1 ≡ length i.before
        = sym (c.answered_are ∙ one_more (closes (dialect_in v) (marks Initiator d past) (lines (lane.kept ++ f.info))) (answered (dialect_in v) (marks Initiator d past)) e) ∙ i.answered_are in
        let first : take (answered (dialect_in v) (marks Initiator d past) + 1) (accepted Initiator d past) ≡ i.before
        = ap (λ (n : ℕ). take n (accepted Initiator d past)) count ∙ (ap (take (length i.before)) (sym c.accepted_are ∙ i.accepted_are) ∙ take-append_seam i.before cs) in
        ap (λ (x : List ℕ). x ++ text_next (first_on d (in_hand later))) (c.offered_same ∙ (k.offered_is ∙ ap (λ (qs : List Request). concat (texts qs)) first))
        ∙ (ap (λ (q : Option Request). concat (texts i.before) ++ text_next q) (first_head d (in_hand later))
        ∙ (next_text i.before cs
        ∙ (ap (λ (qs : List Request). concat (texts (take (length i.before + 1) qs))) (sym i.accepted_are)
        ∙ ap (λ (n : ℕ). concat (texts (take (n + 1) (accepted Initiator d later)))) (sym i.answered_are))))
