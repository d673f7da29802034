-- Each answer that is told is that of a window, at its place.
use Rattle.std.specs.Prelude.{◌≡◌, ℕ, ◌==◌, ◌&&◌, ◌||◌, not, nat_le, Bool, true, false, List, [], ◌∷◌, ◌++◌, length, map, take, filter_map, refl, if◌then◌else◌, Option, Some, None, option_map}
use Rattle.std.specs.List.{cons_option}
use Rattle.std.proofs.Common.{ap, sym, subst, ◌∙◌, append_assoc, append-nil}
use Rattle.std.proofs.Math.Seq.{take-append_seam}
use Rattle.mux_frame.specs.Frames.{Frame}
use Rattle.mux_station.specs.Written.{is_data_frame}
use Rattle.mux_station.specs.Messages.{Message, message_in, command_of, test, nsc}
use Rattle.mux_station.specs.Sending.{names_test}
use Rattle.mux_station.specs.States.{State, IsShut, IsOpening, IsOpened, IsClosing, IsStopping, is_opened, is_shut, is_stopping}
use Rattle.std.specs.Str.{bytes_eq}
use Rattle.at_text.specs.declared.answer.AnswerLine.{AnswerLine}
use Rattle.at_text.specs.declared.unsolicited.UrcKind.{UrcKind}
use Rattle.at_text.specs.declared.unsolicited.UrcKind.TheVariants.{Other}
use Rattle.at_text.specs.declared.window.Seen as line_is
use Rattle.at_text.specs.declared.window.Seen.TheVariants.{Echo, Kept, Unsolicited}
use Rattle.at_text.specs.Dialects.{Dialect}
use Rattle.at_text.specs.Lines.{lines}
use Rattle.at_text.specs.Windows.{Mark, Line, Window, answer_of, is_answered, more_of, open_of, last_window, window_more}
use Rattle.at_text.specs.Seeing.{answer_lines, is_fresh, by_kind, solicited_in, seen_after}
use Rattle.at_text.proofs.windows.AnswerWindows.{last_window-line}
use Rattle.modem_desk.specs.declared.request.Ask.{Ask}
use Rattle.modem_desk.specs.declared.request.Ask.TheVariants.{OpenChannel, CloseChannel, Command, Probe, Stop}
use Rattle.modem_desk.specs.declared.request.Request.{Request}
use Rattle.modem_desk.specs.declared.request.Outcome.{Outcome}
use Rattle.modem_desk.specs.declared.request.Answer.{Answer}
use Rattle.modem_desk.specs.declared.request.Answer.TheVariants.{Done, Shut, ProbeBack, NotOpen, AlreadyOpen, Refused, NoAnswer, Closed, ControlChannel, LineLost, Busy}
use Rattle.modem_history.specs.Acts.{Act, Took, Got, Sent, Told, Heard, Tick, Lost, Held, Freed, Given, told}
use Rattle.modem_history.specs.Placing.{marks, run_on}
use Rattle.modem_history.specs.Calls.{Setting, HistoryView, seen_behind, calls_behind, states_now, frames, at_once, refused_ask, all_have_room, asking, probe_waits, said_of, said_at_once, lines_said, by_lines, by_seen, done, first_on, tolds, told_later, later, open_later, close_later, probe_later, probe_answer, stop_ended, cause}
use Rattle.modem_history.specs.Lawful.{Lawful, unsent, owed}
use Rattle.modem_history.specs.Wholes.{called, stands, EndsWindow, HasAnswer, TellsAnswers}
use Rattle.modem_history.proofs.law_proofs.WholeHistories.{beginning}
use Rattle.modem_history.proofs.outcomes.WholeCounts.{lawful_part}
use Rattle.modem_history.proofs.requests.RequestsInHand.{outcome_of}

-- ## Answers that are no Done

abbrev is_plain : Answer → Bool
is_plain (Done ls) = false
is_plain _ = true

abbrev is_plain_if : Option Answer → Bool
is_plain_if None = true
is_plain_if (Some x) = is_plain x

if_plain : (b : Bool) (x y : Answer) → is_plain x ≡ true → is_plain y ≡ true → is_plain (if b then x else y) ≡ true
if_plain true x y e h = e
if_plain false x y e h = h

either_plain : (b : Bool) (x y : Option Answer) → is_plain_if x ≡ true → is_plain_if y ≡ true → is_plain_if (if b then x else y) ≡ true
either_plain true x y e h = e
either_plain false x y e h = h

refused_plain : (s : Setting) (v : HistoryView) (ask : Ask) → is_plain_if (refused_ask s v ask) ≡ true
refused_plain s v (OpenChannel d) =
    either_plain (not (d.number == 0) && not (is_opened (v.state 0))) (Some NotOpen) _ refl
    (either_plain (is_opened (v.state d.number)) (Some AlreadyOpen) _ refl
    (either_plain (not (is_shut (v.state d.number) && all_have_room s v (asking s.role (OpenChannel d)))) (Some Busy) None refl refl))
refused_plain s v (CloseChannel d) =
    either_plain (d.number == 0) (Some ControlChannel) _ refl
    (either_plain (is_shut (v.state d.number)) (Some NotOpen) _ refl
    (either_plain (not (is_opened (v.state d.number) && all_have_room s v (asking s.role (CloseChannel d)))) (Some Busy) None refl refl))
refused_plain s v (Command d line) =
    either_plain (d.number == 0) (Some ControlChannel) _ refl (either_plain (not (is_opened (v.state d.number))) (Some NotOpen) None refl refl)
refused_plain s v (Probe octets) =
    either_plain (not (is_opened (v.state 0))) (Some NotOpen) _ refl
    (either_plain (probe_waits v.waiting || not (all_have_room s v (asking s.role (Probe octets)))) (Some Busy) None refl refl)
refused_plain s v Stop =
    either_plain (not (is_opened (v.state 0))) (Some NotOpen) _ refl (either_plain (not (all_have_room s v (asking s.role Stop))) (Some Busy) None refl refl)

at_once_plain : (s : Setting) (v : HistoryView) (q : Request) → is_plain_if (at_once s v q) ≡ true
at_once_plain s v q =
    either_plain v.lost (Some LineLost) _ refl (either_plain (nat_le 128 (length v.hand)) (Some Busy) _ refl (refused_plain s v q.ask))

cause_plain : (v : HistoryView) (now : ℕ → State) (a : Act) (why : Answer) → is_plain why ≡ true → is_plain (cause v now a why) ≡ true
cause_plain v now Lost why h = refl
cause_plain v now Tick why h = if_plain (is_opened (v.state 0) && not (is_opened (now 0))) Closed NoAnswer refl refl
cause_plain v now (Took q) why h = if_plain (is_opened (v.state 0) && not (is_opened (now 0))) Closed why refl h
cause_plain v now (Got f) why h = if_plain (is_opened (v.state 0) && not (is_opened (now 0))) Closed why refl h
cause_plain v now (Sent f) why h = if_plain (is_opened (v.state 0) && not (is_opened (now 0))) Closed why refl h
cause_plain v now (Told o) why h = if_plain (is_opened (v.state 0) && not (is_opened (now 0))) Closed why refl h
cause_plain v now (Heard k d l) why h = if_plain (is_opened (v.state 0) && not (is_opened (now 0))) Closed why refl h
cause_plain v now (Held d) why h = if_plain (is_opened (v.state 0) && not (is_opened (now 0))) Closed why refl h
cause_plain v now (Freed d) why h = if_plain (is_opened (v.state 0) && not (is_opened (now 0))) Closed why refl h
cause_plain v now Given why h = if_plain (is_opened (v.state 0) && not (is_opened (now 0))) Closed why refl h

open_plain : (x : State) (why : Answer) → is_plain why ≡ true → is_plain_if (open_later x why) ≡ true
open_plain IsOpened why h = refl
open_plain (IsOpening n) why h = refl
open_plain IsShut why h = h
open_plain (IsClosing n) why h = h
open_plain (IsStopping n) why h = h

close_plain : (x : State) (why : Answer) → is_plain why ≡ true → is_plain_if (close_later x why) ≡ true
close_plain (IsClosing n) why h = refl
close_plain IsOpened why h = h
close_plain (IsOpening n) why h = h
close_plain IsShut why h = h
close_plain (IsStopping n) why h = h

answer_plain : (octets : List ℕ) (m : Option Message) → is_plain_if (probe_answer octets m) ≡ true
answer_plain octets None = refl
answer_plain octets (Some m) =
    either_plain ((command_of m.octet == test) && bytes_eq m.value octets) (Some ProbeBack) _ refl
    (either_plain ((command_of m.octet == nsc) && names_test m.value) (Some Refused) None refl refl)

probe_plain : (r : Request) (octets : List ℕ) (v : HistoryView) (a : Act) → is_plain_if (probe_later r octets v a) ≡ true
probe_plain r octets v (Got f) = answer_plain octets (message_in f)
probe_plain r octets v Tick = either_plain (v.ticks r == 3) (Some NoAnswer) None refl refl
probe_plain r octets v Lost = refl
probe_plain r octets v (Took q) = refl
probe_plain r octets v (Sent f) = refl
probe_plain r octets v (Told o) = refl
probe_plain r octets v (Heard k d l) = refl
probe_plain r octets v (Held d) = refl
probe_plain r octets v (Freed d) = refl
probe_plain r octets v Given = refl

stop_plain : (a : Act) → is_plain (stop_ended a) ≡ true
stop_plain Lost = refl
stop_plain Tick = refl
stop_plain (Got f) = refl
stop_plain (Took q) = refl
stop_plain (Sent f) = refl
stop_plain (Told o) = refl
stop_plain (Heard k d l) = refl
stop_plain (Held d) = refl
stop_plain (Freed d) = refl
stop_plain Given = refl

later_plain : (v : HistoryView) (now : ℕ → State) (a : Act) (r : Request) (ask : Ask) → is_plain_if (later v now a r ask) ≡ true
later_plain v now a r (OpenChannel d) = open_plain (now d.number) (cause v now a Refused) (cause_plain v now a Refused refl)
later_plain v now a r (CloseChannel d) = close_plain (now d.number) (cause v now a Shut) (cause_plain v now a Shut refl)
later_plain v now a r (Command d line) = either_plain (is_opened (now d.number)) None (Some (cause v now a Closed)) refl (cause_plain v now a Closed refl)
later_plain v now a r (Probe octets) = either_plain (is_opened (now 0)) (probe_later r octets v a) (Some (cause v now a Closed)) (probe_plain r octets v a) (cause_plain v now a Closed refl)
later_plain v now a r Stop = either_plain (is_stopping (now 0)) None (Some (stop_ended a)) refl (stop_plain a)

-- ## Acts that tell answers

-- the answer that the act tells, if it tells one, is of this kind
abbrev pub Tells : (Outcome → List AnswerLine → Type 0) → Act → Type 0
Tells P (Told o) = (ls : List AnswerLine) → o.answer ≡ Done ls → P o ls
Tells P _ = Unit {0}

-- each answer that one of the acts tells is of this kind
abbrev pub AllTell : (Outcome → List AnswerLine → Type 0) → List Act → Type 0
AllTell P [] = Unit {0}
AllTell P (a ∷ acts) = Tells P a × AllTell P acts

-- where the answers of two lists of acts are, so are those of both joined
pub tell_both : (P : Outcome → List AnswerLine → Type 0) (xs ys : List Act) → AllTell P xs → AllTell P ys → AllTell P (xs ++ ys)
tell_both P [] ys h k = k
tell_both P (a ∷ xs) ys h k = (h.0, tell_both P xs ys h.1 k)

tell_one : (P Q : Outcome → List AnswerLine → Type 0) → ((o : Outcome) (ls : List AnswerLine) → P o ls → Q o ls) → (a : Act) → Tells P a → Tells Q a
tell_one P Q up (Told o) h = λ ls e. up o ls (h ls e)
tell_one P Q up (Took q) h = tt
tell_one P Q up (Got f) h = tt
tell_one P Q up (Sent f) h = tt
tell_one P Q up (Heard k d l) h = tt
tell_one P Q up Tick h = tt
tell_one P Q up Lost h = tt
tell_one P Q up (Held d) h = tt
tell_one P Q up (Freed d) h = tt
tell_one P Q up Given h = tt

-- answers of one kind are of each kind that it implies
pub tell_more : (P Q : Outcome → List AnswerLine → Type 0) → ((o : Outcome) (ls : List AnswerLine) → P o ls → Q o ls) → (xs : List Act) → AllTell P xs → AllTell Q xs
tell_more P Q up [] h = tt
tell_more P Q up (a ∷ xs) h = (tell_one P Q up a h.0, tell_more P Q up xs h.1)

-- and where those of joined acts are of a kind, so are those of the second
pub tell_right : (P : Outcome → List AnswerLine → Type 0) (xs ys : List Act) → AllTell P (xs ++ ys) → AllTell P ys
tell_right P [] ys h = h
tell_right P (a ∷ xs) ys h = tell_right P xs ys h.1

-- frames sent tell no answer
pub none_told : (P : Outcome → List AnswerLine → Type 0) (fs : List Frame) → AllTell P (map Sent fs)
none_told P [] = tt
none_told P (f ∷ fs) = (tt, none_told P fs)

plain_tells : (P : Outcome → List AnswerLine → Type 0) (o : Outcome) (x : Answer) → is_plain x ≡ true → (ls : List AnswerLine) → x ≡ Done ls → P o ls
plain_tells P o x h ls e = absurd (let g : is_plain (Done ls) ≡ true = ap is_plain (sym e) ∙ h in cc)

said_tells : (P : Outcome → List AnswerLine → Type 0) (q : Request) (o : Option Answer) → is_plain_if o ≡ true → AllTell P (said_of q o)
said_tells P q None h = tt
said_tells P q (Some x) h = (plain_tells P (outcome_of q x) x h, tt)

later_tells : (P : Outcome → List AnswerLine → Type 0) (q : Request) (o : Option Answer) (rest : List Act) → is_plain_if o ≡ true → AllTell P rest → AllTell P (cons_option (option_map (told q) o) rest)
later_tells P q None rest h k = k
later_tells P q (Some x) rest h k = (plain_tells P (outcome_of q x) x h, k)

-- nor does what requests are told by the states
pub tolds_tell : (P : Outcome → List AnswerLine → Type 0) (v : HistoryView) (now : ℕ → State) (a : Act) (qs : List Request) → AllTell P (filter_map (told_later v now a) qs)
tolds_tell P v now a [] = tt
tolds_tell P v now a (q ∷ qs) = later_tells P q (later v now a q q.ask) (filter_map (told_later v now a) qs) (later_plain v now a q q.ask) (tolds_tell P v now a qs)

-- nor what one is told at once
pub at_once_tells : (P : Outcome → List AnswerLine → Type 0) (s : Setting) (v : HistoryView) (a : Act) → AllTell P (said_at_once s v a)
at_once_tells P s v (Took q) = said_tells P q (at_once s v q) (at_once_plain s v q)
at_once_tells P s v (Got f) = tt
at_once_tells P s v (Sent f) = tt
at_once_tells P s v (Told o) = tt
at_once_tells P s v (Heard k d l) = tt
at_once_tells P s v Tick = tt
at_once_tells P s v Lost = tt
at_once_tells P s v (Held d) = tt
at_once_tells P s v (Freed d) = tt
at_once_tells P s v Given = tt

-- ## Lines

-- the window of these marks is whole, and this is its answer
pub record Ends (dialect : Dialect) (ms : List Mark) (ls : List AnswerLine) : Type 0 where
  pub window : Window
  pub is_last : last_window ms ≡ Some window
  pub ended : is_answered dialect window ≡ true
  pub answer : ls ≡ answer_lines (answer_of dialect window)

done_same : (xs ls : List AnswerLine) → line_is.TheVariants.Done xs ≡ line_is.TheVariants.Done ls → xs ≡ ls
done_same xs ls e = cc

ended_by : (dialect : Dialect) (ms : List Mark) (w : Window) (l : List ℕ) (ls : List AnswerLine) (k : Option UrcKind) (whole echo final : Bool) → last_window ms ≡ Some w
    → is_answered dialect w ≡ whole → (is_fresh dialect w && bytes_eq l w.command) ≡ echo → is_answered dialect (more_of w l) ≡ final
    → by_kind k (solicited_in dialect (if whole then None else Some w) l) ≡ line_is.TheVariants.Done ls → Ends dialect (ms ++ Line l ∷ []) ls
ended_by dialect ms w l ls (Some kind) whole echo final e a b c h = absurd (let g : Unsolicited kind ≡ line_is.TheVariants.Done ls = h in cc)
ended_by dialect ms w l ls None true echo final e a b c h = absurd (let g : line_is.TheVariants.Other ≡ line_is.TheVariants.Done ls = h in cc)
ended_by dialect ms w l ls None false true final e a b c h = absurd (let g : Echo ≡ line_is.TheVariants.Done ls = ap (λ (x : Bool). if x then Echo else (if is_answered dialect (more_of w l) then line_is.TheVariants.Done (answer_lines (answer_of dialect (more_of w l))) else Kept)) (sym b) ∙ h in cc)
ended_by dialect ms w l ls None false false false e a b c h =
    absurd (let g : Kept ≡ line_is.TheVariants.Done ls =
    ap (λ (x : Bool). if x then line_is.TheVariants.Done (answer_lines (answer_of dialect (more_of w l))) else Kept) (sym c)
    ∙ (ap (λ (x : Bool). if x then Echo else (if is_answered dialect (more_of w l) then line_is.TheVariants.Done (answer_lines (answer_of dialect (more_of w l))) else Kept)) (sym b) ∙ h) in cc)
ended_by dialect ms w l ls None false false true e a b c h =
    let g : line_is.TheVariants.Done (answer_lines (answer_of dialect (more_of w l))) ≡ line_is.TheVariants.Done ls =
    ap (λ (x : Bool). if x then line_is.TheVariants.Done (answer_lines (answer_of dialect (more_of w l))) else Kept) (sym c)
    ∙ (ap (λ (x : Bool). if x then Echo else (if is_answered dialect (more_of w l) then line_is.TheVariants.Done (answer_lines (answer_of dialect (more_of w l))) else Kept)) (sym b) ∙ h) in
    record {
      window = more_of w l;
      is_last = last_window-line ms l ∙ ap (λ (o : Option Window). window_more o l) e;
      ended = c;
      answer = sym (done_same (answer_lines (answer_of dialect (more_of w l))) ls g);
    }

no_window : (dialect : Dialect) (k : Option UrcKind) (l : List ℕ) (ls : List AnswerLine) → by_kind k (solicited_in dialect None l) ≡ line_is.TheVariants.Done ls → ⊥
no_window dialect None l ls h = let g : line_is.TheVariants.Other ≡ line_is.TheVariants.Done ls = h in cc
no_window dialect (Some kind) l ls h = let g : Unsolicited kind ≡ line_is.TheVariants.Done ls = h in cc

done_ends : (dialect : Dialect) (ms : List Mark) (l : List ℕ) (ls : List AnswerLine) → seen_after dialect ms l ≡ line_is.TheVariants.Done ls → Ends dialect (ms ++ Line l ∷ []) ls
done_ends dialect ms l ls h = by_last (last_window ms) refl
  where
    by_last : (o : Option Window) → last_window ms ≡ o → Ends dialect (ms ++ Line l ∷ []) ls
    by_last None e = absurd (no_window dialect (dialect.kind_of l) l ls (ap (λ (o : Option Window). by_kind (dialect.kind_of l) (solicited_in dialect (open_of dialect o) l)) (sym e) ∙ h))
    by_last (Some w) e =
        ended_by dialect ms w l ls (dialect.kind_of l) (is_answered dialect w) (is_fresh dialect w && bytes_eq l w.command) (is_answered dialect (more_of w l)) e refl refl refl
        (ap (λ (o : Option Window). by_kind (dialect.kind_of l) (solicited_in dialect (open_of dialect o) l)) (sym e) ∙ h)

heard_tells : (P : Outcome → List AnswerLine → Type 0) (b : Bool) (kind : UrcKind) (d : ℕ) (l : List ℕ) → AllTell P (if b then Heard kind d l ∷ [] else [])
heard_tells P true kind d l = (tt, tt)
heard_tells P false kind d l = tt

owner_tells : (P : Outcome → List AnswerLine → Type 0) (owner : Option Request) (ls : List AnswerLine) → ((q : Request) → owner ≡ Some q → P (outcome_of q (Done ls)) ls) → AllTell P (done owner ls)
owner_tells P None ls p = tt
owner_tells P (Some q) ls p = (λ more e. subst (P (outcome_of q (Done ls))) (same_lines ls more e) (p q refl), tt)
  where
    same_lines : (xs ys : List AnswerLine) → Done xs ≡ Done ys → xs ≡ ys
    same_lines xs ys e = cc

-- what a line tells is of this kind, where the answer that it ends is so for the owner of the window
pub line_tells : (P : Outcome → List AnswerLine → Type 0) (s : Setting) (d : ℕ) (owner : Option Request) (l : List ℕ) (x : line_is.Seen) → ((q : Request) (ls : List AnswerLine) → owner ≡ Some q → x ≡ line_is.TheVariants.Done ls → P (outcome_of q (Done ls)) ls)
    → AllTell P (by_seen s d owner l x)
line_tells P s d owner l Echo p = tt
line_tells P s d owner l Kept p = tt
line_tells P s d owner l (line_is.TheVariants.Done ls) p = owner_tells P owner ls (λ q e. p q ls e refl)
line_tells P s d owner l (Unsolicited kind) p = heard_tells P (s.listens kind) kind d l
line_tells P s d owner l line_is.TheVariants.Other p = heard_tells P (s.listens Other) Other d l

-- the window of so many of the lines is whole, behind these marks
pub record EndsAt (dialect : Dialect) (base : List Mark) (all : List (List ℕ)) (ls : List AnswerLine) : Type 0 where
  pub count : ℕ
  pub ends : Ends dialect (base ++ map Line (take count all)) ls

map_last : (before : List (List ℕ)) (l : List ℕ) → map Line (before ++ l ∷ []) ≡ map Line before ++ Line l ∷ []
map_last [] l = refl
map_last (x ∷ before) l = ap (λ (ms : List Mark). Line x ∷ ms) (map_last before l)

placed_last : (base : List Mark) (before : List (List ℕ)) (l : List ℕ) → (base ++ map Line before) ++ Line l ∷ [] ≡ base ++ map Line (before ++ l ∷ [])
placed_last base before l = append_assoc base (map Line before) (Line l ∷ []) ∙ ap (λ (ms : List Mark). base ++ ms) (sym (map_last before l))

ends_here : (dialect : Dialect) (base : List Mark) (before rest all : List (List ℕ)) (l : List ℕ) (ls : List AnswerLine) → before ++ l ∷ rest ≡ all → Ends dialect ((base ++ map Line before) ++ Line l ∷ []) ls → EndsAt dialect base all ls
ends_here dialect base before rest all l ls e h =
    let joined : (before ++ l ∷ []) ++ rest ≡ all = append_assoc before (l ∷ []) rest ∙ e in
    let first : take (length (before ++ l ∷ [])) all ≡ before ++ l ∷ [] = ap (λ (xs : List (List ℕ)). take (length (before ++ l ∷ [])) xs) (sym joined) ∙ take-append_seam (before ++ l ∷ []) rest in
    record {
      count = length (before ++ l ∷ []);
      ends = subst (λ (ms : List Mark). Ends dialect ms ls) (placed_last base before l ∙ ap (λ (xs : List (List ℕ)). base ++ map Line xs) (sym first)) h;
    }

-- so is what lines tell, where each answer that one of them ends, behind those before it, is so for the owner
pub lines_tell : (P : Outcome → List AnswerLine → Type 0) (s : Setting) (d : ℕ) (owner : Option Request) (base : List Mark) (all before rest : List (List ℕ)) (ms : List Mark)
    → ((q : Request) (ls : List AnswerLine) → owner ≡ Some q → EndsAt s.dialect base all ls → P (outcome_of q (Done ls)) ls) → before ++ rest ≡ all → ms ≡ base ++ map Line before → AllTell P (by_lines s d owner ms rest)
lines_tell P s d owner base all before [] ms p e m = tt
lines_tell P s d owner base all before (l ∷ rest) ms p e m =
    let here : (q : Request) (ls : List AnswerLine) → owner ≡ Some q → seen_after s.dialect ms l ≡ line_is.TheVariants.Done ls → P (outcome_of q (Done ls)) ls =
    λ q ls o h. p q ls o (ends_here s.dialect base before rest all l ls e (subst (λ (marks_so : List Mark). Ends s.dialect (marks_so ++ Line l ∷ []) ls) m (done_ends s.dialect ms l ls h))) in
    tell_both P (by_seen s d owner l (seen_after s.dialect ms l)) (by_lines s d owner (ms ++ Line l ∷ []) rest)
    (line_tells P s d owner l (seen_after s.dialect ms l) here)
    (lines_tell P s d owner base all (before ++ l ∷ []) rest (ms ++ Line l ∷ []) p (append_assoc before (l ∷ []) rest ∙ e)
    (ap (λ (xs : List Mark). xs ++ Line l ∷ []) m ∙ placed_last base before l))

-- ## Whole histories

abbrev Answered : Setting → List Act → Outcome → List AnswerLine → Type 0
Answered s past o ls = HasAnswer s past ls

-- where so many lines of a frame make a window whole, one of the frame ends it, and this is its answer
pub window_ends : (s : Setting) (past : List Act) (f : Frame) (ls : List AnswerLine) → EndsAt s.dialect (marks s.role f.dlci past) (lines (run_on s.role f.dlci past ++ f.info)) ls → EndsWindow s past f ls
window_ends s past f ls h = record { count = h.count; window = h.ends.window; is_last = h.ends.is_last; ended = h.ends.ended; answer = h.ends.answer }

frame_tells : (s : Setting) (past owing : List Act) (a : Act) → AllTell (Answered s (a ∷ past)) (lines_said s (seen_behind s past owing) a)
frame_tells s past owing (Got f) = by_case (is_opened ((seen_behind s past owing).state f.dlci) && is_data_frame f)
  where
    by_case : (b : Bool) → AllTell (Answered s (Got f ∷ past))
        (if b then by_lines s f.dlci (first_on f.dlci (seen_behind s past owing).waiting) (marks s.role f.dlci past) (lines (run_on s.role f.dlci past ++ f.info)) else [])
    by_case true =
        lines_tell (Answered s (Got f ∷ past)) s f.dlci (first_on f.dlci (seen_behind s past owing).waiting) (marks s.role f.dlci past) (lines (run_on s.role f.dlci past ++ f.info)) []
        (lines (run_on s.role f.dlci past ++ f.info)) (marks s.role f.dlci past)
        (λ q ls o h. record { newer = []; older = past; frame = f; joins = refl; ends = window_ends s past f ls h }) refl (sym (append-nil (marks s.role f.dlci past)))
    by_case false = tt
frame_tells s past owing (Took q) = tt
frame_tells s past owing (Sent f) = tt
frame_tells s past owing (Told o) = tt
frame_tells s past owing (Heard k d l) = tt
frame_tells s past owing Tick = tt
frame_tells s past owing Lost = tt
frame_tells s past owing (Held d) = tt
frame_tells s past owing (Freed d) = tt
frame_tells s past owing Given = tt

call_tells : (s : Setting) (past owing : List Act) (a : Act) → AllTell (Answered s (a ∷ past)) (calls_behind s past owing a)
call_tells s past owing a =
    let P = Answered s (a ∷ past) in
    let v = seen_behind s past owing in
    let now = states_now s v (a ∷ map Sent (frames s v a)) in
    tell_both P (map Sent (frames s v a)) (said_at_once s v a ++ (lines_said s v a ++ tolds v now a)) (none_told P (frames s v a))
    (tell_both P (said_at_once s v a) (lines_said s v a ++ tolds v now a) (at_once_tells P s v a)
    (tell_both P (lines_said s v a) (tolds v now a) (frame_tells s past owing a) (tolds_tell P v now a v.waiting)))

later_answer : (s : Setting) (a : Act) (past : List Act) (o : Outcome) (ls : List AnswerLine) → HasAnswer s past ls → HasAnswer s (a ∷ past) ls
later_answer s a past o ls h = record { newer = a ∷ h.newer; older = h.older; frame = h.frame; joins = ap (λ (acts : List Act). a ∷ acts) h.joins; ends = h.ends }

one_more : (s : Setting) (a : Act) (past : List Act) → AllTell (Answered s past) (called s past)
    → AllTell (Answered s (a ∷ past)) (called s past ++ calls_behind s past (owed s past) a)
one_more s a past h =
    tell_both (Answered s (a ∷ past)) (called s past) (calls_behind s past (owed s past) a)
    (tell_more (Answered s past) (Answered s (a ∷ past)) (later_answer s a past) (called s past) h) (call_tells s past (owed s past) a)

tell_unsent : (P : Outcome → List AnswerLine → Type 0) (xs : List Act) → AllTell P xs → AllTell P (unsent xs)
tell_unsent P [] h = tt
tell_unsent P (Sent f ∷ xs) h = tell_unsent P xs h.1
tell_unsent P (Took q ∷ xs) h = (tt, tell_unsent P xs h.1)
tell_unsent P (Got f ∷ xs) h = (tt, tell_unsent P xs h.1)
tell_unsent P (Told o ∷ xs) h = (h.0, tell_unsent P xs h.1)
tell_unsent P (Heard k d l ∷ xs) h = (tt, tell_unsent P xs h.1)
tell_unsent P (Tick ∷ xs) h = (tt, tell_unsent P xs h.1)
tell_unsent P (Lost ∷ xs) h = (tt, tell_unsent P xs h.1)
tell_unsent P (Held d ∷ xs) h = (tt, tell_unsent P xs h.1)
tell_unsent P (Freed d ∷ xs) h = (tt, tell_unsent P xs h.1)
tell_unsent P (Given ∷ xs) h = (tt, tell_unsent P xs h.1)

tell_left : (P : Outcome → List AnswerLine → Type 0) (xs ys : List Act) → AllTell P (xs ++ ys) → AllTell P xs
tell_left P [] ys h = tt
tell_left P (a ∷ xs) ys h = (h.0, tell_left P xs ys h.1)

lost_tell : (s : Setting) (past : List Act) → stands past ++ owed s past ≡ called s past → AllTell (Answered s past) (called s past)
    → AllTell (Answered s (Lost ∷ past)) (stands past ++ (unsent (owed s past) ++ calls_behind s past (owed s past) Lost))
lost_tell s past e h =
    let P = Answered s (Lost ∷ past) in
    let up = tell_more (Answered s past) P (later_answer s Lost past) in
    let all = subst (λ (acts : List Act). AllTell (Answered s past) acts) (sym e) h in
    let more = calls_behind s past (owed s past) Lost in
    tell_both P (stands past) (unsent (owed s past) ++ more) (up (stands past) (tell_left (Answered s past) (stands past) (owed s past) all))
    (tell_both P (unsent (owed s past)) more (tell_unsent P (owed s past) (up (owed s past) (tell_right (Answered s past) (stands past) (owed s past) all)))
    (call_tells s past (owed s past) Lost))

called_tell : (s : Setting) (past : List Act) → Lawful s past → AllTell (Answered s past) (called s past)
unfolding Lawful
called_tell s [] l = tt
called_tell s (Sent f ∷ past) l = tell_more (Answered s past) (Answered s (Sent f ∷ past)) (later_answer s (Sent f) past) (called s past) (called_tell s past l.1)
called_tell s (Told o ∷ past) l = tell_more (Answered s past) (Answered s (Told o ∷ past)) (later_answer s (Told o) past) (called s past) (called_tell s past l.1)
called_tell s (Heard k d line ∷ past) l = tell_more (Answered s past) (Answered s (Heard k d line ∷ past)) (later_answer s (Heard k d line) past) (called s past) (called_tell s past l.1)
called_tell s (Given ∷ past) l = tell_more (Answered s past) (Answered s (Given ∷ past)) (later_answer s Given past) (called s past) (called_tell s past l.1)
called_tell s (Took q ∷ past) l = one_more s (Took q) past (called_tell s past l.1)
called_tell s (Got f ∷ past) l = one_more s (Got f) past (called_tell s past l.1)
called_tell s (Tick ∷ past) l = one_more s Tick past (called_tell s past l.1)
called_tell s (Lost ∷ past) l = lost_tell s past (beginning s past l.1) (called_tell s past l.1)
called_tell s (Held d ∷ past) l = one_more s (Held d) past (called_tell s past l.1)
called_tell s (Freed d ∷ past) l = one_more s (Freed d) past (called_tell s past l.1)

-- where all that is owed tells answers of this kind, the outcome that is next does
pub first_tells : (P : Outcome → List AnswerLine → Type 0) (o : Outcome) (owing later : List Act) → owing ≡ Told o ∷ later → AllTell P owing → (ls : List AnswerLine) → o.answer ≡ Done ls → P o ls
first_tells P o owing later e h = (subst (λ (acts : List Act). AllTell P acts) e h).0

owed_tells : (s : Setting) (older : List Act) (o : Outcome) → Lawful s (Told o ∷ older) → (ls : List AnswerLine) → o.answer ≡ Done ls → HasAnswer s older ls
unfolding Lawful
owed_tells s older o l ls d =
    let all = subst (λ (acts : List Act). AllTell (Answered s older) acts) (sym (beginning s older l.1)) (called_tell s older l.1) in
    first_tells (Answered s older) o (owed s older) l.0.answered.later l.0.answered.is_next (tell_right (Answered s older) (stands older) (owed s older) all) ls d

-- in a lawful history each answer told is that of a window, which a frame before it ended
pub tells_answers : (s : Setting) (past : List Act) → Lawful s past → TellsAnswers s past
tells_answers s past l newer older o ls e d =
    let part : Lawful s (Told o ∷ older) = lawful_part s newer (Told o ∷ older) (subst (λ (acts : List Act). Lawful s acts) e l) in
    owed_tells s older o part ls d
