-- A frame comes, and the commands stay in step.
use Rattle.std.specs.Prelude.{◌≡◌, ℕ, ◌+◌, ◌≤◌, ◌==◌, ◌&&◌, not, Bool, true, false, List, [], ◌∷◌, ◌++◌, length, map, refl, if◌then◌else◌, Option, Some, None, is_some}
use Rattle.std.specs.List.{list_all}
use Rattle.std.proofs.Common.{ap, sym, ◌∙◌, subst, arith, append_assoc, append-nil, length-append, eqb-true}
use Rattle.std.proofs.lemmas.Bool.{and_parts, and_from, eq-eqb}
use Rattle.std.proofs.lemmas.List.{length-map, length-take-le}
use Rattle.mux_frame.specs.Frames.{Frame}
use Rattle.mux_station.specs.declared.role.Role.{Role}
use Rattle.mux_station.specs.declared.role.Role.TheVariants.{Initiator, Responder}
use Rattle.mux_station.specs.Acts as station
use Rattle.mux_frame.specs.declared.frame.Kind.TheVariants.{Uih}
use Rattle.mux_station.specs.Written.{is_kind, is_data_frame}
use Rattle.mux_station.specs.Opening.{opens, opens_now, ends, is_open, is_asked}
use Rattle.mux_station.proofs.states.OpeningSteps.{is_open_after}
use Rattle.mux_station.specs.States.{is_opened}
use Rattle.at_text.specs.Dialects.{Dialect}
use Rattle.at_text.specs.Lines.{lines}
use Rattle.at_text.specs.Windows.{Mark, Line, Window, answered, open_window}
use Rattle.modem_desk.specs.declared.request.Request.{Request}
use Rattle.modem_desk.specs.declared.request.Answer.TheVariants.{Opened}
use Rattle.modem_history.specs.Acts.{Act, Got, wire, in_hand, is_for}
use Rattle.modem_history.specs.Information.{accepted, information_out, carries, line_of, texts}
use Rattle.modem_history.specs.Placing.{marks, run_on, whole_in, whole_after}
use Rattle.modem_history.specs.Calls.{Setting, seen, by_lines, lines_said, tolds, first_on}
use Rattle.modem_history.specs.Lawful.{Lawful}
use Rattle.modem_history.specs.Begun.{begun_count}
use Rattle.modem_history.specs.Requests.{is_apart, are_distinct, commands_on}
use Rattle.modem_history.specs.Wholes.{begun_in, commands_for, InStep}
use Rattle.modem_history.proofs.requests.RequestsInHand.{outcome_of, all_apart, all_swap, without_apart}
use Rattle.modem_history.proofs.outcomes.OutcomesAndLines.{taken_off}
use Rattle.modem_history.proofs.requests.RequestsAfterCalls.{off_between, off_swap, commands_stay, commands_go, distinct_filter, apart_other, head_of, first_head, filter_swap}
use Rattle.modem_history.proofs.requests.ClosedWindows.{minus, closed_off, closed_stays, open_off}
use Rattle.modem_history.proofs.commands.CommandOrder.{open_count, counts}
use Rattle.modem_history.proofs.commands.WholeTexts.{whole_few}
use Rattle.modem_history.proofs.commands.BegunCommands as begins
use Rattle.modem_history.proofs.commands.BegunCommands.{Carried, carried, begun_append, begun_lines, begun_counted, turns_lines, texts_counted}
use Rattle.modem_history.proofs.connections.NoSecondOpening.{got_free, got_unasked, opens_shut}
use Rattle.modem_history.proofs.outcomes.OutcomeCounts.{is_data}
use Rattle.modem_history.proofs.calls.CallEnds.{now_in, ended, end_of, if_false}
use Rattle.modem_history.proofs.requests.CommandsInStep.{Kept, told_off_all, left_in, seen_open, open_first, unasked_end, in_step, open_left, or_right}

-- ## Lines and requests

-- the lines of the frame close a window
abbrev pub closes : Dialect → List Mark → List (List ℕ) → Bool
closes dialect ms ls = is_some (open_window dialect ms) && not (is_some (open_window dialect (ms ++ map Line ls)))

-- the requests left in hand: without the owner where the window closes, else all
abbrev pub left_by : Bool → Option Request → List Request → List Request
left_by c owner hand = if c then minus owner hand else hand

lines_off : (s : Setting) (d : ℕ) (owner : Option Request) (ms : List Mark) (ls : List (List ℕ)) (hand : List Request) → taken_off (by_lines s d owner ms ls) hand ≡ left_by (closes s.dialect ms ls) owner hand
lines_off s d owner ms ls hand = by_window (open_window s.dialect ms) refl
  where
    turned : (b : Bool) → (if b then hand else minus owner hand) ≡ left_by (not b) owner hand
    turned true = refl
    turned false = refl

    by_window : (o : Option Window) → open_window s.dialect ms ≡ o → taken_off (by_lines s d owner ms ls) hand ≡ left_by (is_some o && not (is_some (open_window s.dialect (ms ++ map Line ls)))) owner hand
    by_window None e = closed_off s d owner ms ls hand e
    by_window (Some w) e = open_off s d owner ms ls hand w e ∙ turned (is_some (open_window s.dialect (ms ++ map Line ls)))

left_swap : (acts : List Act) (c : Bool) (owner : Option Request) (hand : List Request) → taken_off acts (left_by c owner hand) ≡ left_by c owner (taken_off acts hand)
left_swap acts false owner hand = refl
left_swap acts true None hand = refl
left_swap acts true (Some r) hand = off_swap acts (outcome_of r Opened) hand

-- the request that owns the window on d: the first command on d in hand
abbrev pub owner_of : List Act → ℕ → Option Request
owner_of past d = first_on d (in_hand past)

-- the requests in hand at the end, where the frame carries data
pub data_hand : (s : Setting) (past : List Act) (f : Frame) → is_opened ((seen s past).state f.dlci) && is_data_frame f ≡ true → are_distinct (in_hand past) ≡ true
    → in_hand (ended s past (Got f)) ≡ left_by (closes s.dialect (marks s.role f.dlci past) (lines (run_on s.role f.dlci past ++ f.info))) (owner_of past f.dlci) (left_in s past (Got f))
data_hand s past f b h =
    let a = Got f in
    let d = f.dlci in
    let v = seen s past in
    let hand = in_hand past in
    let owner = owner_of past d in
    let ms = marks s.role d past in
    let ls = lines (run_on s.role d past ++ f.info) in
    let later = tolds v (now_in s past a) a in
    let said : lines_said s v a ≡ by_lines s d owner ms ls = ap (λ (x : Bool). if x then by_lines s d owner ms ls else []) b in
    (end_of s past a 0).hand_is
    ∙ (ap (λ (acts : List Act). taken_off later (taken_off acts hand)) said
    ∙ (ap (taken_off later) (lines_off s d owner ms ls hand)
    ∙ (left_swap later (closes s.dialect ms ls) owner hand ∙ ap (left_by (closes s.dialect ms ls) owner) (told_off_all s past a h))))

-- the commands on d that are left
left_commands : (d : ℕ) (r : Request) (hand : List Request) → commands_for d (minus (Some r) hand) ≡ minus (Some r) (commands_for d hand)
left_commands d r hand = filter_swap (commands_on d) (λ (q : Request). not (is_for q (outcome_of r Opened))) hand

-- on another connection all are
others_left : (d e : ℕ) (c : Bool) (hand left : List Request) (owner : Option Request) → (d == e) ≡ false → are_distinct hand ≡ true → first_on e hand ≡ owner → commands_for d left ≡ commands_for d hand
    → commands_for d (left_by c owner left) ≡ commands_for d hand
others_left d e false hand left owner n h k same = same
others_left d e true hand left None n h k same = same
others_left d e true hand left (Some r) n h k same =
    left_commands d r left ∙ (ap (minus (Some r)) same ∙ without_apart r Opened (commands_for d hand) (apart_other d e hand r n h k))

-- ## On the connection itself

-- a window that closes answers the first command
record Answers (before commands left : List Request) (count : ℕ) : Type 0 where
  done : List Request
  same : before ++ commands ≡ done ++ left
  counted : count ≡ length done

first_answers : (before cs left : List Request) (n m k : ℕ) → are_distinct cs ≡ true → n ≡ length before → m ≡ n + 1 → n + 1 ≤ length before + length cs → left ≡ minus (head_of cs) cs → Answers before cs left m
first_answers before [] left n m k h a b c e = absurd (omega (arith, a, c))
first_answers before (r ∷ rest) left n m k h a b c e =
    let apart : all_apart r rest ≡ true = all_swap r rest (and_parts (list_all (is_apart r) rest) (are_distinct rest) h).0 in
    let gone : minus (Some r) (r ∷ rest) ≡ rest = off_between r Opened [] rest refl apart in
    record {
      done = before ++ r ∷ [];
      same = sym (append_assoc before (r ∷ []) rest) ∙ ap (λ (v : List Request). (before ++ r ∷ []) ++ v) (sym (e ∙ gone));
      counted = omega (arith, a, b, length-append before (r ∷ []));
    }

none_answers : (before cs left : List Request) (n m : ℕ) → n ≡ length before → m ≡ n → left ≡ cs → Answers before cs left m
none_answers before cs left n m a b e = record { done = before; same = ap (λ (v : List Request). before ++ v) (sym e); counted = b ∙ a }

commands_left : (d : ℕ) (c : Bool) (hand left : List Request) → commands_for d left ≡ commands_for d hand → commands_for d (left_by c (first_on d hand) left) ≡ (if c then minus (head_of (commands_for d hand)) (commands_for d hand) else commands_for d hand)
commands_left d false hand left same = same
commands_left d true hand left same = by_owner (first_on d hand) (first_head d hand)
  where
    by_owner : (o : Option Request) → o ≡ head_of (commands_for d hand) → commands_for d (minus o left) ≡ minus (head_of (commands_for d hand)) (commands_for d hand)
    by_owner None e = same ∙ ap (λ (x : Option Request). minus x (commands_for d hand)) e
    by_owner (Some r) e = left_commands d r left ∙ (ap (minus (Some r)) same ∙ ap (λ (x : Option Request). minus x (commands_for d hand)) e)

-- how many commands have begun, before and after lines
pub begun_same : (ms : List Mark) (ls : List (List ℕ)) → begun_count (ms ++ map Line ls) ≡ begun_count ms
begun_same ms ls =
    sym (begun_counted (ms ++ map Line ls))
    ∙ (ap length (begun_append ms (map Line ls) ∙ (ap (λ (v : List (List ℕ)). begun_in ms ++ v) (begun_lines ls) ∙ append-nil (begun_in ms))) ∙ begun_counted ms)

begun_few : (dialect : Dialect) (ms : List Mark) (out : List ℕ) (qs : List Request) → begins.KeptCommands dialect ms out qs → begun_count ms ≤ length qs
begun_few dialect ms out qs k =
    let n = whole_in (length out) (texts qs) in
    let few : n ≤ length qs = omega (arith, whole_few (length out) (texts qs), texts_counted qs) in
    let size : begun_count ms ≡ n = sym (begun_counted ms) ∙ (ap length k.first ∙ (length-map (whole_after (length out) qs) line_of ∙ length-take-le n qs few)) in
    omega (arith, size, few)

data_answers : (s : Setting) (d : ℕ) (past : List Act) (ls : List (List ℕ)) (before cs left : List Request) → Lawful s past → are_distinct cs ≡ true
    → accepted s.role d past ≡ before ++ cs → answered s.dialect (marks s.role d past) ≡ length before
    → left ≡ (if closes s.dialect (marks s.role d past) ls then minus (head_of cs) cs else cs) → Answers before cs left (answered s.dialect (marks s.role d past ++ map Line ls))
data_answers s d past ls before cs left l h acc ans e = by_windows (open_window s.dialect ms) (open_window s.dialect (ms ++ map Line ls)) refl refl
  where
    ms : List Mark
    ms = marks s.role d past

    kept : begins.KeptCommands s.dialect ms (information_out s.role d past) (accepted s.role d past)
    kept = begins.kept s past l d

    by_windows : (o p : Option Window) → open_window s.dialect ms ≡ o → open_window s.dialect (ms ++ map Line ls) ≡ p → Answers before cs left (answered s.dialect (ms ++ map Line ls))
    by_windows o p x y =
        let c = counts s.dialect ms kept.turns.order in
        let c' = counts s.dialect (ms ++ map Line ls) (turns_lines s.dialect ls ms kept.turns).order in
        let b = begun_same ms ls in
        let few = begun_few s.dialect ms (information_out s.role d past) (accepted s.role d past) kept in
        let size : length (accepted s.role d past) ≡ length before + length cs = ap length acc ∙ length-append before cs in
        by_cases o p (ap open_count x) (ap open_count y) (ap is_some x) (ap is_some y) (closed_stays s.dialect ms ls) c c' b few size
      where
        by_cases : (o p : Option Window) → open_count (open_window s.dialect ms) ≡ open_count o → open_count (open_window s.dialect (ms ++ map Line ls)) ≡ open_count p
            → is_some (open_window s.dialect ms) ≡ is_some o → is_some (open_window s.dialect (ms ++ map Line ls)) ≡ is_some p → (open_window s.dialect ms ≡ None → open_window s.dialect (ms ++ map Line ls) ≡ None)
            → answered s.dialect ms + open_count (open_window s.dialect ms) ≡ begun_count ms → answered s.dialect (ms ++ map Line ls) + open_count (open_window s.dialect (ms ++ map Line ls)) ≡ begun_count (ms ++ map Line ls)
            → begun_count (ms ++ map Line ls) ≡ begun_count ms → begun_count ms ≤ length (accepted s.role d past) → length (accepted s.role d past) ≡ length before + length cs
            → Answers before cs left (answered s.dialect (ms ++ map Line ls))
        by_cases None None a b x y z c c' m few size =
            none_answers before cs left (answered s.dialect ms) (answered s.dialect (ms ++ map Line ls)) ans (omega (arith, a, b, c, c', m))
            (e ∙ ap (λ (q : Bool). if q && not (is_some (open_window s.dialect (ms ++ map Line ls))) then minus (head_of cs) cs else cs) x)
        by_cases (Some w) (Some w') a b x y z c c' m few size =
            none_answers before cs left (answered s.dialect ms) (answered s.dialect (ms ++ map Line ls)) ans (omega (arith, a, b, c, c', m))
            (e ∙ (ap (λ (q : Bool). if q && not (is_some (open_window s.dialect (ms ++ map Line ls))) then minus (head_of cs) cs else cs) x
            ∙ ap (λ (q : Bool). if not q then minus (head_of cs) cs else cs) y))
        by_cases (Some w) None a b x y z c c' m few size =
            first_answers before cs left (answered s.dialect ms) (answered s.dialect (ms ++ map Line ls)) 0 h ans (omega (arith, a, b, c, c', m)) (omega (arith, a, c, few, size))
            (e ∙ (ap (λ (q : Bool). if q && not (is_some (open_window s.dialect (ms ++ map Line ls))) then minus (head_of cs) cs else cs) x
            ∙ ap (λ (q : Bool). if not q then minus (head_of cs) cs else cs) y))
        by_cases None (Some w) a b x y z c c' m few size = absurd (omega (arith, none_count (open_window s.dialect ms) a z, b))
          where
            none_count : (g : Option Window) → open_count g ≡ 0 → (g ≡ None → open_window s.dialect (ms ++ map Line ls) ≡ None) → open_count (open_window s.dialect (ms ++ map Line ls)) ≡ 0
            none_count None i j = ap open_count (j refl)
            none_count (Some g) i j = absurd (omega (arith, i))

-- ## The whole call

-- at an initiator data opens no connection
pub data_opens_none : (r : Role) → r ≡ Initiator → (z k : Bool) (d : ℕ) (f : Frame) → is_data_frame f ≡ true → opens r z k d (station.Got f) ≡ false
data_opens_none Initiator e z k d f h = ap (λ (g : Frame). opens Initiator z k d (station.Got g)) (is_data f h)
data_opens_none Responder e z k d f h = cc

unasked_got : (r : Role) → r ≡ Initiator → (d : ℕ) (f : Frame) (w : List station.Act) → (is_open r d w ≡ true → is_asked r d w ≡ false) → is_open r d (station.Got f ∷ w) ≡ true
    → is_asked r d (station.Got f ∷ w) ≡ false
unasked_got Initiator e d f w h k = got_unasked d f w h k
unasked_got Responder e d f w h k = cc

shut_opens : (r : Role) → r ≡ Initiator → (d : ℕ) (f : Frame) (w : List station.Act) → (is_open r d w ≡ true → is_asked r d w ≡ false) → opens_now r d w (station.Got f) ≡ true → is_open r d w ≡ false
shut_opens Initiator e d f w h k = opens_shut d f w h k
shut_opens Responder e d f w h k = cc

-- an open connection that this frame doesn't open was open before it
pub got_was : (s : Setting) (d : ℕ) (past : List Act) (f : Frame) → opens_now s.role d (wire past) (station.Got f) ≡ false → is_open s.role d (wire (ended s past (Got f))) ≡ true → is_open s.role d (wire past) ≡ true
got_was s d past f n o =
    open_left (is_open s.role d (wire past)) (not (ends (is_open s.role 0 (wire past)) d (station.Got f))) (or_right (opens_now s.role d (wire past) (station.Got f)) _ n (sym (is_open_after s.role d (wire past) (station.Got f)) ∙ open_first s d past (Got f) o))

-- the frame is data on an open connection
abbrev pub is_read : Setting → List Act → Frame → Bool
is_read s past f = is_opened ((seen s past).state f.dlci) && is_data_frame f

-- where no line of a frame is read, just the requests that are told later are off at the end
pub unread_hand : (s : Setting) (past : List Act) (f : Frame) → is_read s past f ≡ false → are_distinct (in_hand past) ≡ true → in_hand (ended s past (Got f)) ≡ left_in s past (Got f)
unread_hand s past f b h =
    let a = Got f in
    let v = seen s past in
    let d = f.dlci in
    let none : lines_said s v a ≡ [] = ap (λ (x : Bool). if x then by_lines s d (owner_of past d) (marks s.role d past) (lines (run_on s.role d past ++ f.info)) else []) b in
    (end_of s past a 0).hand_is ∙ (ap (λ (acts : List Act). taken_off (tolds v (now_in s past a) a) (taken_off acts (in_hand past))) none ∙ told_off_all s past a h)

-- it places no lines
pub unread_marks : (s : Setting) (d : ℕ) (past : List Act) (f : Frame) → is_read s past f ≡ false → (b c : Bool) → carries d f ≡ b → is_open s.role d (wire past) ≡ c → (b && c) ≡ false
unread_marks s d past f n true true e g =
    let c = carried d f e in
    let there : is_opened ((seen s past).state f.dlci) ≡ true = seen_open s f.dlci past (ap (λ (m : ℕ). is_open s.role m (wire past)) c.same ∙ g) in
    absurd (let x : false ≡ true = sym n ∙ and_from (is_opened ((seen s past).state f.dlci)) (is_data_frame f) there c.is_data in cc)
unread_marks s d past f n true false e g = refl
unread_marks s d past f n false c e g = refl

-- what a frame makes of what was accepted and placed, where it opens nothing
pub got_accepted : (s : Setting) (d : ℕ) (past : List Act) (f : Frame) → opens_now s.role d (wire past) (station.Got f) ≡ false → accepted s.role d (Got f ∷ past) ≡ accepted s.role d past
got_accepted s d past f n = if_false (opens_now s.role d (wire past) (station.Got f)) [] (accepted s.role d past) n

-- where it opens nothing, its lines are placed on d if it carries information on d and d is open, else nothing is
pub got_marks : (s : Setting) (d : ℕ) (past : List Act) (f : Frame) (b : Bool) → opens_now s.role d (wire past) (station.Got f) ≡ false → (carries d f && is_open s.role d (wire past)) ≡ b
    → marks s.role d (Got f ∷ past) ≡ (if b then marks s.role d past ++ map Line (lines (run_on s.role d past ++ f.info)) else marks s.role d past)
got_marks s d past f b n e =
    let ms = marks s.role d past in
    let more = ms ++ map Line (lines (run_on s.role d past ++ f.info)) in
    if_false (opens_now s.role d (wire past) (station.Got f)) [] (if carries d f && is_open s.role d (wire past) then more else ms) n ∙ ap (λ (x : Bool). if x then more else ms) e

-- data on d carries information on d
pub data_carries : (d : ℕ) (f : Frame) → is_data_frame f ≡ true → (d == 0) ≡ false → f.dlci ≡ d → carries d f ≡ true
data_carries d f h z e =
    let kind = (and_parts (is_kind f.kind Uih) (not (f.dlci == 0)) h).0 in
    and_from (not (d == 0)) (is_kind f.kind Uih && (f.dlci == d)) (ap not z) (and_from (is_kind f.kind Uih) (f.dlci == d) kind (eq-eqb f.dlci d e))

-- a frame on another connection carries none on d, open or not
pub carries_apart : (d : ℕ) (f : Frame) (o : Bool) → (d == f.dlci) ≡ false → (carries d f && o) ≡ false
carries_apart d f o e = by_carried (carries d f) refl
  where
    by_carried : (b : Bool) → carries d f ≡ b → (b && o) ≡ false
    by_carried false h = refl
    by_carried true h = absurd (let x : false ≡ true = sym e ∙ eq-eqb d f.dlci (sym (carried d f h).same) in cc)

unread_open : (s : Setting) (d : ℕ) (past : List Act) (f : Frame) → s.role ≡ Initiator → is_read s past f ≡ false → are_distinct (in_hand past) ≡ true → Kept s d past → (o : Bool) → opens_now s.role d (wire past) (station.Got f) ≡ o
    → is_open s.role d (wire (ended s past (Got f))) ≡ true → InStep s d (ended s past (Got f))
unread_open s d past f r n h k false e o =
    let a = Got f in
    let g = end_of s past a d in
    in_step s d past (ended s past a) (k.on.while_open (got_was s d past f e o)) (g.accepted_is ∙ got_accepted s d past f e)
    (g.marks_are ∙ got_marks s d past f false e (unread_marks s d past f n (carries d f) (is_open s.role d (wire past)) refl refl))
    (ap (commands_for d) (unread_hand s past f n h) ∙ commands_stay (seen s past) (now_in s past a) a d (in_hand past) (sym g.open_is ∙ o))
unread_open s d past f r n h k true e o =
    let a = Got f in
    let g = end_of s past a d in
    let ms = marks s.role d past in
    let more = ms ++ map Line (lines (run_on s.role d past ++ f.info)) in
    let none : commands_for d (in_hand (ended s past a)) ≡ [] =
    ap (commands_for d) (unread_hand s past f n h)
    ∙ (commands_stay (seen s past) (now_in s past a) a d (in_hand past) (sym g.open_is ∙ o) ∙ k.on.while_shut (shut_opens s.role r d f (wire past) k.unasked e)) in
    record {
      before = [];
      accepted_are = g.accepted_is ∙ (ap (λ (x : Bool). if x then [] else accepted s.role d past) e ∙ sym none);
      answered_are = ap (answered s.dialect) (g.marks_are ∙ ap (λ (x : Bool). if x then [] else (if carries d f && is_open s.role d (wire past) then more else ms)) e);
    }

-- data on the connection itself
read_here : (s : Setting) (d : ℕ) (past : List Act) (f : Frame) → s.role ≡ Initiator → Lawful s past → is_read s past f ≡ true → (d == 0) ≡ false → are_distinct (in_hand past) ≡ true → Kept s d past → f.dlci ≡ d
    → is_open s.role d (wire (ended s past (Got f))) ≡ true → InStep s d (ended s past (Got f))
read_here s d past f r l n z h k same o =
    let a = Got f in
    let g = end_of s past a d in
    let parts = and_parts (is_opened ((seen s past).state f.dlci)) (is_data_frame f) n in
    let e : opens_now s.role d (wire past) (station.Got f) ≡ false = data_opens_none s.role r _ _ d f parts.1 in
    let was = got_was s d past f e o in
    let i = k.on.while_open was in
    let cs = commands_for d (in_hand past) in
    let ls = lines (run_on s.role d past ++ f.info) in
    let carried_on : (carries d f && is_open s.role d (wire past)) ≡ true = and_from (carries d f) (is_open s.role d (wire past)) (data_carries d f parts.1 z same) was in
    let placed : marks s.role d (ended s past a) ≡ marks s.role d past ++ map Line ls = g.marks_are ∙ got_marks s d past f true e carried_on in
    let stay : commands_for d (left_in s past a) ≡ cs = commands_stay (seen s past) (now_in s past a) a d (in_hand past) (sym g.open_is ∙ o) in
    let hand : in_hand (ended s past a) ≡ left_by (closes s.dialect (marks s.role d past) ls) (owner_of past d) (left_in s past a) =
    subst (λ (m : ℕ). in_hand (ended s past a) ≡ left_by (closes s.dialect (marks s.role m past) (lines (run_on s.role m past ++ f.info))) (owner_of past m) (left_in s past a)) same (data_hand s past f n h) in
    let left : commands_for d (in_hand (ended s past a)) ≡ (if closes s.dialect (marks s.role d past) ls then minus (head_of cs) cs else cs) =
    ap (commands_for d) hand ∙ commands_left d (closes s.dialect (marks s.role d past) ls) (in_hand past) (left_in s past a) stay in
    let done = data_answers s d past ls i.before cs (commands_for d (in_hand (ended s past a))) l (distinct_filter (commands_on d) (in_hand past) h) i.accepted_are i.answered_are left in
    record {
      before = done.done;
      accepted_are = g.accepted_is ∙ (got_accepted s d past f e ∙ (i.accepted_are ∙ done.same));
      answered_are = ap (answered s.dialect) placed ∙ done.counted;
    }

-- data on another connection
read_there : (s : Setting) (d : ℕ) (past : List Act) (f : Frame) → s.role ≡ Initiator → is_read s past f ≡ true → are_distinct (in_hand past) ≡ true → Kept s d past → (d == f.dlci) ≡ false
    → is_open s.role d (wire (ended s past (Got f))) ≡ true → InStep s d (ended s past (Got f))
read_there s d past f r n h k apart o =
    let a = Got f in
    let g = end_of s past a d in
    let e' = f.dlci in
    let parts = and_parts (is_opened ((seen s past).state f.dlci)) (is_data_frame f) n in
    let e : opens_now s.role d (wire past) (station.Got f) ≡ false = data_opens_none s.role r _ _ d f parts.1 in
    let stay : commands_for d (left_in s past a) ≡ commands_for d (in_hand past) = commands_stay (seen s past) (now_in s past a) a d (in_hand past) (sym g.open_is ∙ o) in
    let c = closes s.dialect (marks s.role e' past) (lines (run_on s.role e' past ++ f.info)) in
    in_step s d past (ended s past a) (k.on.while_open (got_was s d past f e o)) (g.accepted_is ∙ got_accepted s d past f e)
    (g.marks_are ∙ got_marks s d past f false e (carries_apart d f (is_open s.role d (wire past)) apart))
    (ap (commands_for d) (data_hand s past f n h) ∙ others_left d e' c (in_hand past) (left_in s past a) (owner_of past e') apart h refl stay)

-- where it is shut at the end
shut_left : (d : ℕ) (c : Bool) (owner : Option Request) (left : List Request) → commands_for d left ≡ [] → commands_for d (left_by c owner left) ≡ []
shut_left d false owner left h = h
shut_left d true None left h = h
shut_left d true (Some r) left h = left_commands d r left ∙ ap (minus (Some r)) h

got_shut : (s : Setting) (d : ℕ) (past : List Act) (f : Frame) → are_distinct (in_hand past) ≡ true → (b : Bool) → is_read s past f ≡ b → is_open s.role d (wire (ended s past (Got f))) ≡ false
    → commands_for d (in_hand (ended s past (Got f))) ≡ []
got_shut s d past f h false n o =
    ap (commands_for d) (unread_hand s past f n h) ∙ commands_go (seen s past) (now_in s past (Got f)) (Got f) d (in_hand past) (sym (end_of s past (Got f) d).open_is ∙ o)
got_shut s d past f h true n o =
    ap (commands_for d) (data_hand s past f n h)
    ∙ shut_left d _ (owner_of past f.dlci) (left_in s past (Got f)) (commands_go (seen s past) (now_in s past (Got f)) (Got f) d (in_hand past) (sym (end_of s past (Got f) d).open_is ∙ o))

got_open : (s : Setting) (d : ℕ) (past : List Act) (f : Frame) → s.role ≡ Initiator → Lawful s past → (d == 0) ≡ false → are_distinct (in_hand past) ≡ true → Kept s d past → (b c : Bool) → is_read s past f ≡ b → (d == f.dlci) ≡ c
    → is_open s.role d (wire (ended s past (Got f))) ≡ true → InStep s d (ended s past (Got f))
got_open s d past f r l z h k false c n e o = unread_open s d past f r n h k (opens_now s.role d (wire past) (station.Got f)) refl o
got_open s d past f r l z h k true true n e o = read_here s d past f r l n z h k (sym (eqb-true d f.dlci e)) o
got_open s d past f r l z h k true false n e o = read_there s d past f r n h k e o

-- a frame that comes, with all that it calls for, keeps the commands of a lawful initiator in step on d, which is another than 0
pub kept_got : (s : Setting) (d : ℕ) (past : List Act) (f : Frame) → s.role ≡ Initiator → Lawful s past → (d == 0) ≡ false → are_distinct (in_hand past) ≡ true → Kept s d past → Kept s d (ended s past (Got f))
kept_got s d past f r l z h k = record {
  on = record {
    while_open = λ o. got_open s d past f r l z h k (is_read s past f) (d == f.dlci) refl refl o;
    while_shut = λ o. got_shut s d past f h (is_read s past f) refl o;
  };
  unasked = λ o. unasked_end s d past (Got f) (got_free s (seen s past) f d) (unasked_got s.role r d f (wire past) k.unasked (open_first s d past (Got f) o));
}
