-- The lines that a call announces: of listened kinds alone, and none where no frame came.
use Rattle.std.proofs.Common.{ap, ◌∙◌}
use Rattle.std.proofs.lemmas.List.{append-nil}
use Rattle.std.proofs.lemmas.Bool.{and_from, and_parts}
use Rattle.std.proofs.lemmas.List.Folds.{list_all-append}
use Rattle.std.specs.Prelude.{◌≡◌, ℕ, ◌&&◌, Bool, true, false, List, [], ◌∷◌, ◌++◌, map, filter_map, refl, Option, None, Some, option_map, if◌then◌else◌}
use Rattle.std.specs.List.{list_all, cons_option}
use Rattle.mux_frame.specs.Frames.{Frame}
use Rattle.mux_station.specs.States.{State, is_opened}
use Rattle.mux_station.specs.Written.{is_data_frame}
use Rattle.at_text.specs.declared.unsolicited.UrcKind.{UrcKind}
use Rattle.at_text.specs.declared.unsolicited.UrcKind.TheVariants.{Other}
use Rattle.at_text.specs.declared.answer.AnswerLine.{AnswerLine}
use Rattle.at_text.specs.declared.window.Seen as line_is
use Rattle.at_text.specs.declared.window.Seen.TheVariants.{Echo, Kept, Unsolicited}
use Rattle.at_text.specs.Lines.{lines}
use Rattle.at_text.specs.Windows.{Mark, Line}
use Rattle.at_text.specs.Seeing.{seen_after}
use Rattle.modem_desk.specs.declared.request.Request.{Request}
use Rattle.modem_desk.specs.declared.request.Answer.{Answer}
use Rattle.modem_history.specs.Acts.{Act, Took, Got, Sent, Told, Heard, Tick, Lost, Held, Freed, Given, told}
use Rattle.modem_history.specs.Calls.{Setting, HistoryView, calls_seeing, frames, lines_said, tolds, told_later, later, said_at_once, said_of, at_once, states_now, by_lines, by_seen, done, heard, first_on}
use Rattle.modem_history.specs.Kinds.{is_listened}
use Rattle.modem_history.specs.Sessions.{Beginning, driving}
use Rattle.modem_history.specs.Turns.{lines_heard}
use Rattle.modem_core.proofs.sessions.steps.LongerHistories.{has_listener}

-- a line of a kind that is listened to, or no line
abbrev pub hears : Setting → Act → Bool
hears s (Heard kind d line) = s.listens kind
hears s a = true

-- each of these acts is so
abbrev pub Hear : Setting → List Act → Type 0
Hear s acts = list_all (hears s) acts ≡ true

hear_both : (s : Setting) (xs ys : List Act) → Hear s xs → Hear s ys → Hear s (xs ++ ys)
hear_both s xs ys h k = list_all-append (hears s) xs ys ∙ and_from (list_all (hears s) xs) (list_all (hears s) ys) h k

hear_frames : (s : Setting) (fs : List Frame) → Hear s (map Sent fs)
hear_frames s [] = refl
hear_frames s (f ∷ fs) = hear_frames s fs

hear_said : (s : Setting) (r : Request) (o : Option Answer) → Hear s (said_of r o)
hear_said s r None = refl
hear_said s r (Some why) = refl

hear_once : (s : Setting) (v : HistoryView) (a : Act) → Hear s (said_at_once s v a)
hear_once s v (Took r) = hear_said s r (at_once s v r)
hear_once s v (Got f) = refl
hear_once s v (Sent f) = refl
hear_once s v (Told o) = refl
hear_once s v (Heard k d line) = refl
hear_once s v Tick = refl
hear_once s v Lost = refl
hear_once s v (Held d) = refl
hear_once s v (Freed d) = refl
hear_once s v Given = refl

hear_later : (s : Setting) (v : HistoryView) (now : ℕ → State) (a : Act) (rs : List Request) → Hear s (filter_map (told_later v now a) rs)
hear_later s v now a [] = refl
hear_later s v now a (r ∷ rs) = by_answer (later v now a r r.ask) (hear_later s v now a rs)
  where
    by_answer : (o : Option Answer) → Hear s (filter_map (told_later v now a) rs) → Hear s (cons_option (option_map (told r) o) (filter_map (told_later v now a) rs))
    by_answer None h = h
    by_answer (Some why) h = h

hear_if : (s : Setting) (d : ℕ) (kind : UrcKind) (line : List ℕ) → Hear s (heard s d kind line)
hear_if s d kind line = by_test (s.listens kind) refl
  where
    by_test : (b : Bool) → s.listens kind ≡ b → Hear s (if b then Heard kind d line ∷ [] else [])
    by_test true e = ap (λ (x : Bool). x && true) e
    by_test false e = refl

hear_done : (s : Setting) (owner : Option Request) (ls : List AnswerLine) → Hear s (done owner ls)
hear_done s None ls = refl
hear_done s (Some r) ls = refl

hear_seen : (s : Setting) (d : ℕ) (owner : Option Request) (line : List ℕ) (v : line_is.Seen) → Hear s (by_seen s d owner line v)
hear_seen s d owner line Echo = refl
hear_seen s d owner line Kept = refl
hear_seen s d owner line (line_is.TheVariants.Done ls) = hear_done s owner ls
hear_seen s d owner line (Unsolicited kind) = hear_if s d kind line
hear_seen s d owner line line_is.TheVariants.Other = hear_if s d Other line

hear_lines : (s : Setting) (d : ℕ) (owner : Option Request) (ms : List Mark) (ls : List (List ℕ)) → Hear s (by_lines s d owner ms ls)
hear_lines s d owner ms [] = refl
hear_lines s d owner ms (line ∷ rest) =
    hear_both s (by_seen s d owner line (seen_after s.dialect ms line)) (by_lines s d owner (ms ++ Line line ∷ []) rest) (hear_seen s d owner line (seen_after s.dialect ms line)) (hear_lines s d owner (ms ++ Line line ∷ []) rest)

hear_got : (s : Setting) (v : HistoryView) (a : Act) → Hear s (lines_said s v a)
hear_got s v (Got f) = by_test (is_opened (v.state f.dlci) && is_data_frame f)
  where
    by_test : (b : Bool) → Hear s (if b then by_lines s f.dlci (first_on f.dlci v.waiting) (v.marks f.dlci) (lines (v.run f.dlci ++ f.info)) else [])
    by_test true = hear_lines s f.dlci (first_on f.dlci v.waiting) (v.marks f.dlci) (lines (v.run f.dlci ++ f.info))
    by_test false = refl
hear_got s v (Took r) = refl
hear_got s v (Sent f) = refl
hear_got s v (Told o) = refl
hear_got s v (Heard k d line) = refl
hear_got s v Tick = refl
hear_got s v Lost = refl
hear_got s v (Held d) = refl
hear_got s v (Freed d) = refl
hear_got s v Given = refl

-- what a call announces is listened to
pub calls_hear : (s : Setting) (v : HistoryView) (a : Act) → Hear s (calls_seeing s v a)
calls_hear s v a =
    let sent = map Sent (frames s v a) in
    let now = states_now s v (a ∷ sent) in
    hear_both s sent (said_at_once s v a ++ (lines_said s v a ++ tolds v now a)) (hear_frames s (frames s v a))
    (hear_both s (said_at_once s v a) (lines_said s v a ++ tolds v now a) (hear_once s v a)
    (hear_both s (lines_said s v a) (tolds v now a) (hear_got s v a) (hear_later s v now a v.waiting)))

-- ## The lines of a call

-- the lines of joined acts are joined
pub heard_both : (xs ys : List Act) → lines_heard (xs ++ ys) ≡ lines_heard xs ++ lines_heard ys
heard_both [] ys = refl
heard_both (Heard k d line ∷ xs) ys = ap (λ (hs : List Act). Heard k d line ∷ hs) (heard_both xs ys)
heard_both (Took r ∷ xs) ys = heard_both xs ys
heard_both (Got f ∷ xs) ys = heard_both xs ys
heard_both (Sent f ∷ xs) ys = heard_both xs ys
heard_both (Told o ∷ xs) ys = heard_both xs ys
heard_both (Tick ∷ xs) ys = heard_both xs ys
heard_both (Lost ∷ xs) ys = heard_both xs ys
heard_both (Held d ∷ xs) ys = heard_both xs ys
heard_both (Freed d ∷ xs) ys = heard_both xs ys
heard_both (Given ∷ xs) ys = heard_both xs ys

none_frames : (fs : List Frame) → lines_heard (map Sent fs) ≡ []
none_frames [] = refl
none_frames (f ∷ fs) = none_frames fs

none_said : (r : Request) (o : Option Answer) → lines_heard (said_of r o) ≡ []
none_said r None = refl
none_said r (Some why) = refl

none_once : (s : Setting) (v : HistoryView) (a : Act) → lines_heard (said_at_once s v a) ≡ []
none_once s v (Took r) = none_said r (at_once s v r)
none_once s v (Got f) = refl
none_once s v (Sent f) = refl
none_once s v (Told o) = refl
none_once s v (Heard k d line) = refl
none_once s v Tick = refl
none_once s v Lost = refl
none_once s v (Held d) = refl
none_once s v (Freed d) = refl
none_once s v Given = refl

none_later : (v : HistoryView) (now : ℕ → State) (a : Act) (rs : List Request) → lines_heard (filter_map (told_later v now a) rs) ≡ []
none_later v now a [] = refl
none_later v now a (r ∷ rs) = by_answer (later v now a r r.ask) (none_later v now a rs)
  where
    by_answer : (o : Option Answer) → lines_heard (filter_map (told_later v now a) rs) ≡ [] → lines_heard (cons_option (option_map (told r) o) (filter_map (told_later v now a) rs)) ≡ []
    by_answer None h = h
    by_answer (Some why) h = h

-- the lines of a call are those of the frame that came
pub lines_of_call : (s : Setting) (v : HistoryView) (a : Act) → lines_heard (calls_seeing s v a) ≡ lines_heard (lines_said s v a)
lines_of_call s v a =
    let sent = map Sent (frames s v a) in
    let now = states_now s v (a ∷ sent) in
    let once = said_at_once s v a in
    let said = lines_said s v a in
    heard_both sent (once ++ (said ++ tolds v now a))
    ∙ (ap (λ (xs : List Act). xs ++ lines_heard (once ++ (said ++ tolds v now a))) (none_frames (frames s v a))
    ∙ (heard_both once (said ++ tolds v now a)
    ∙ (ap (λ (xs : List Act). xs ++ lines_heard (said ++ tolds v now a)) (none_once s v a)
    ∙ (heard_both said (tolds v now a)
    ∙ (ap (λ (xs : List Act). lines_heard said ++ xs) (none_later v now a v.waiting)
    ∙ append-nil (lines_heard said))))))

-- by the kinds of a desk
pub all_listened : (b : Beginning) (acts : List Act) → Hear (driving b) acts → list_all (has_listener b.kinds) (lines_heard acts) ≡ true
all_listened b [] h = refl
all_listened b (Heard k d line ∷ acts) h =
    let parts = and_parts (is_listened b.kinds k) (list_all (hears (driving b)) acts) h in
    and_from (is_listened b.kinds k) (list_all (has_listener b.kinds) (lines_heard acts)) parts.0 (all_listened b acts parts.1)
all_listened b (Took r ∷ acts) h = all_listened b acts h
all_listened b (Got f ∷ acts) h = all_listened b acts h
all_listened b (Sent f ∷ acts) h = all_listened b acts h
all_listened b (Told o ∷ acts) h = all_listened b acts h
all_listened b (Tick ∷ acts) h = all_listened b acts h
all_listened b (Lost ∷ acts) h = all_listened b acts h
all_listened b (Held d ∷ acts) h = all_listened b acts h
all_listened b (Freed d ∷ acts) h = all_listened b acts h
all_listened b (Given ∷ acts) h = all_listened b acts h
