-- Each outcome has its request, and no request has two: by counting.
use Rattle.std.specs.Prelude.{◌≡◌, ℕ, zero, ◌+◌, ◌≤◌, ◌==◌, ◌&&◌, not, cond, Bool, true, false, List, [], ◌∷◌, ◌++◌, map, filter_map, refl, if◌then◌else◌, Option, Some, None, option_map, is_none}
use Rattle.std.specs.List.{cons_option}
use Rattle.std.proofs.Common.{ap, sym, ◌∙◌, arith, zero-add, eqb-true}
use Rattle.std.proofs.lemmas.Bool.{and_parts}
use Rattle.std.proofs.lemmas.Bool.Decides.{nat_tests}
use Rattle.mux_frame.specs.Frames.{Frame}
use Rattle.mux_frame.specs.declared.frame.Kind.{Kind}
use Rattle.mux_frame.specs.declared.frame.Kind.TheVariants.{Sabm, Ua, Dm, Disc, Uih}
use Rattle.mux_station.specs.declared.role.Role.{Role}
use Rattle.mux_station.specs.declared.role.Role.TheVariants.{Initiator, Responder}
use Rattle.mux_station.specs.Written.{is_kind, is_data_frame}
use Rattle.mux_station.specs.Acts as station
use Rattle.mux_station.specs.States.{State, IsShut, IsOpening, IsOpened, IsClosing, IsStopping, is_opened, got_by, states_after}
use Rattle.mux_station.specs.Tables.{by_message, by_table}
use Rattle.at_text.specs.declared.unsolicited.UrcKind.{UrcKind}
use Rattle.at_text.specs.declared.unsolicited.UrcKind.TheVariants.{Other}
use Rattle.at_text.specs.declared.answer.AnswerLine.{AnswerLine}
use Rattle.at_text.specs.declared.window.Seen as line_is
use Rattle.at_text.specs.declared.window.Seen.TheVariants.{Echo, Kept, Done, Unsolicited}
use Rattle.at_text.specs.Dialects.{Dialect}
use Rattle.at_text.specs.Windows.{Mark, Line, Window, open_window}
use Rattle.at_text.specs.Seeing.{by_kind, seen_after}
use Rattle.at_text.specs.OpenWindow.{OpenWindow, shown, is_echo, seen_by, after_line}
use Rattle.at_text.proofs.windows.AnswerWindows.{shows_line, seen_line}
use Rattle.modem_desk.specs.declared.request.Ask.{Ask}
use Rattle.modem_desk.specs.declared.request.Ask.TheVariants.{OpenChannel, CloseChannel, Command, Probe, Stop}
use Rattle.modem_desk.specs.declared.request.Request.{Request}
use Rattle.modem_desk.specs.declared.request.Outcome.{Outcome}
use Rattle.modem_desk.specs.declared.request.Answer.{Answer}
use Rattle.modem_history.specs.Acts.{Act, Took, Got, Sent, Told, Heard, Tick, Lost, Held, Freed, Given, is_for, told, without}
use Rattle.modem_history.specs.Information.{command_on}
use Rattle.modem_history.specs.Calls.{Setting, HistoryView, unanswered, states_now, frames, frames_by, said_of, by_lines, by_seen, first_on, told_later, later}
use Rattle.modem_history.specs.Wholes.{is_same}
use Rattle.modem_history.proofs.law_proofs.WholeHistories.{not_true}

-- ## Counts

-- 1 where the test passes, else 0
abbrev pub one : Bool → ℕ
one b = if b then 1 else 0

-- 1 where the act tells the request, else 0
abbrev pub told_one : Request → Act → ℕ
told_one r (Told o) = one (is_for r o)
told_one r _ = 0

-- how many of the acts tell this request an outcome
abbrev pub told_to : Request → List Act → ℕ
told_to r [] = 0
told_to r (a ∷ acts) = told_one r a + told_to r acts

-- how many of the requests are this one
abbrev pub many : Request → List Request → ℕ
many r [] = 0
many r (q ∷ qs) = one (is_same r q) + many r qs

-- what two parts tell a request together is what each tells it
pub told_append : (r : Request) (xs ys : List Act) → told_to r (xs ++ ys) ≡ told_to r xs + told_to r ys
told_append r [] ys = sym (zero-add (told_to r ys))
told_append r (a ∷ xs) ys = let h = told_append r xs ys in omega (arith, h)

-- of joined requests as many are this one as of the first and of the second together
pub many_append : (r : Request) (xs ys : List Request) → many r (xs ++ ys) ≡ many r xs + many r ys
many_append r [] ys = sym (zero-add (many r ys))
many_append r (q ∷ xs) ys = let h = many_append r xs ys in omega (arith, h)

-- ## Requests that wait

-- an outcome is for two requests of the same caller and number alike
pub same_for : (r q : Request) (o : Outcome) → is_same r q ≡ true → is_for q o ≡ is_for r o
same_for r q o h =
    let parts = and_parts (r.caller == q.caller) (r.number == q.number) h in
    let callers : q.caller ≡ r.caller = sym (eqb-true r.caller q.caller parts.0) in
    let numbers : q.number ≡ r.number = sym (eqb-true r.number q.number parts.1) in
    ap (λ (n : ℕ). (n == o.caller) && (q.number == o.number)) callers ∙ ap (λ (n : ℕ). (r.caller == o.caller) && (n == o.number)) numbers

many_cond : (r q : Request) (xs : List Request) (t : Bool) → many r (cond t (q ∷ xs) xs) ≡ cond t (one (is_same r q) + many r xs) (many r xs)
many_cond r q xs true = refl
many_cond r q xs false = refl

without_step : (b c d : Bool) (k n : ℕ) → (c ≡ true → b ≡ d) → k ≡ (if d then 0 else n) → cond (not b) (one c + k) k ≡ (if d then 0 else one c + n)
without_step true true true k n h e = e
without_step false false true k n h e = zero-add k ∙ e
without_step true false true k n h e = e
without_step false true true k n h e = absurd (let g : false ≡ true = h refl in cc)
without_step true true false k n h e = absurd (let g : true ≡ false = h refl in cc)
without_step false true false k n h e = ap (λ (m : ℕ). 1 + m) e
without_step true false false k n h e = e ∙ sym (zero-add n)
without_step false false false k n h e = ap (λ (m : ℕ). 0 + m) e

either_zero : (b : Bool) (z : ℕ) → z ≡ 0 → z ≡ (if b then 0 else z)
either_zero true z e = e
either_zero false z e = refl

-- an outcome takes off all that are the request that it answers, and of any other none
pub many_without : (r : Request) (o : Outcome) (qs : List Request) → many r (without o qs) ≡ (if is_for r o then 0 else many r qs)
many_without r o [] = either_zero (is_for r o) 0 refl
many_without r o (q ∷ qs) =
    many_cond r q (without o qs) (not (is_for q o))
    ∙ without_step (is_for q o) (is_same r q) (is_for r o) (many r (without o qs)) (many r qs) (same_for r q o) (many_without r o qs)

-- so many are left where so many are told
abbrev pub left_of : ℕ → ℕ → ℕ
left_of told_so n = if told_so == 0 then n else 0

none_left : (t n : ℕ) → left_of (1 + t) n ≡ 0
none_left t n = grind (arith, nat_tests)

-- one told more leaves one request fewer, or none
pub left_step : (b : Bool) (t n : ℕ) → (if b then 0 else left_of t n) ≡ left_of (one b + t) n
left_step false t n = ap (λ (m : ℕ). left_of m n) (sym (zero-add t))
left_step true t n = sym (none_left t n)

-- of the requests in hand those are left that the acts told nothing
pub many_unanswered : (r : Request) (xs : List Act) (h : List Request) → many r (unanswered xs h) ≡ left_of (told_to r xs) (many r h)
many_unanswered r [] h = refl
many_unanswered r (Told o ∷ xs) h =
    many_without r o (unanswered xs h) ∙ (ap (λ (n : ℕ). if is_for r o then 0 else n) (many_unanswered r xs h) ∙ left_step (is_for r o) (told_to r xs) (many r h))
many_unanswered r (Took q ∷ xs) h = many_unanswered r xs h ∙ left_step false (told_to r xs) (many r h)
many_unanswered r (Got f ∷ xs) h = many_unanswered r xs h ∙ left_step false (told_to r xs) (many r h)
many_unanswered r (Sent f ∷ xs) h = many_unanswered r xs h ∙ left_step false (told_to r xs) (many r h)
many_unanswered r (Heard k d l ∷ xs) h = many_unanswered r xs h ∙ left_step false (told_to r xs) (many r h)
many_unanswered r (Tick ∷ xs) h = many_unanswered r xs h ∙ left_step false (told_to r xs) (many r h)
many_unanswered r (Lost ∷ xs) h = many_unanswered r xs h ∙ left_step false (told_to r xs) (many r h)
many_unanswered r (Held d ∷ xs) h = many_unanswered r xs h ∙ left_step false (told_to r xs) (many r h)
many_unanswered r (Freed d ∷ xs) h = many_unanswered r xs h ∙ left_step false (told_to r xs) (many r h)
many_unanswered r (Given ∷ xs) h = many_unanswered r xs h ∙ left_step false (told_to r xs) (many r h)

-- ## What one act tells

none_sent : (r : Request) (fs : List Frame) → told_to r (map Sent fs) ≡ 0
none_sent r [] = refl
none_sent r (f ∷ fs) = zero-add (told_to r (map Sent fs)) ∙ none_sent r fs

later_one : (r q : Request) (o : Option Answer) (rest : List Act) → told_to r (cons_option (option_map (told q) o) rest) ≤ one (is_same r q) + told_to r rest
later_one r q None rest = omega arith
later_one r q (Some told_so) rest = omega arith

-- an act tells a request later at most as often as it is in hand
pub tolds_within : (v : HistoryView) (now : ℕ → State) (a : Act) (r : Request) (qs : List Request) → told_to r (filter_map (told_later v now a) qs) ≤ many r qs
tolds_within v now a r [] = omega arith
tolds_within v now a r (q ∷ qs) =
    let h = tolds_within v now a r qs in
    let k = later_one r q (later v now a q q.ask) (filter_map (told_later v now a) qs) in
    omega (arith, h, k)

-- a request is told at once by its own coming alone, and once
pub at_once_within : (r q : Request) (o : Option Answer) → told_to r (said_of q o) ≤ one (is_same r q)
at_once_within r q None = omega arith
at_once_within r q (Some told_so) = omega arith

-- frames, then what is told at once, in lines, and later
pub told_parts : (r : Request) (fs : List Frame) (xs ys zs : List Act) → told_to r (map Sent fs ++ (xs ++ (ys ++ zs))) ≡ told_to r xs + (told_to r ys + told_to r zs)
told_parts r fs xs ys zs =
    let a = told_append r (map Sent fs) (xs ++ (ys ++ zs)) in
    let b = told_append r xs (ys ++ zs) in
    let c = told_append r ys zs in
    let d = none_sent r fs in
    omega (arith, a, b, c, d)

-- ## Lines

abbrev as_list : Option Request → List Request
as_list None = []
as_list (Some q) = q ∷ []

-- a line that ends an answer closes the window
final_closes : (k : Option UrcKind) (echo final : Bool) (o x y : OpenWindow) (got ls : List AnswerLine)
    → by_kind k (if echo then Echo else (if final then Done got else Kept)) ≡ Done ls
    → (if is_none k then (if echo then Some x else (if final then None else Some y)) else Some o) ≡ None
final_closes None true final o x y got ls e = absurd (let g : Echo ≡ Done ls = e in cc)
final_closes None false true o x y got ls e = refl
final_closes None false false o x y got ls e = absurd (let g : Kept ≡ Done ls = e in cc)
final_closes (Some k) echo final o x y got ls e = absurd (let g : Unsolicited k ≡ Done ls = e in cc)

-- a line seen as Other, or as unsolicited instead, ends no answer
pub no_final : (k : Option UrcKind) (ls : List AnswerLine) → by_kind k line_is.TheVariants.Other ≡ Done ls → ⊥
no_final None ls e = let g : line_is.TheVariants.Other ≡ Done ls = e in cc
no_final (Some k) ls e = let g : Unsolicited k ≡ Done ls = e in cc

closed_by : (dialect : Dialect) (w : Option OpenWindow) (l : List ℕ) (ls : List AnswerLine) → seen_by dialect w l ≡ Done ls → after_line dialect w l ≡ None
closed_by dialect None l ls e = absurd (no_final (dialect.kind_of l) ls e)
closed_by dialect (Some o) l ls e =
    final_closes (dialect.kind_of l) (is_echo o l) (dialect.is_final l) o _ _ _ ls e

none_shown : (dialect : Dialect) (o : Option Window) → option_map (shown dialect) o ≡ None → o ≡ None
none_shown dialect None e = refl
none_shown dialect (Some w) e = cc

-- so a line that is Done leaves no window open
pub done_closes : (dialect : Dialect) (ms : List Mark) (l : List ℕ) (ls : List AnswerLine) → seen_after dialect ms l ≡ Done ls → open_window dialect (ms ++ Line l ∷ []) ≡ None
done_closes dialect ms l ls e =
    let seen : seen_by dialect (option_map (shown dialect) (open_window dialect ms)) l ≡ Done ls = seen_line dialect ms l ∙ e in
    none_shown dialect (open_window dialect (ms ++ Line l ∷ [])) (sym (shows_line dialect ms l) ∙ closed_by dialect (option_map (shown dialect) (open_window dialect ms)) l ls seen)

closed_after : (b : Bool) (x y : Option OpenWindow) → x ≡ None → y ≡ None → (if b then x else y) ≡ None
closed_after true x y e h = e
closed_after false x y e h = h

-- where no window is open, a line opens none
pub stays_closed : (dialect : Dialect) (ms : List Mark) (l : List ℕ) → open_window dialect ms ≡ None → open_window dialect (ms ++ Line l ∷ []) ≡ None
stays_closed dialect ms l e =
    none_shown dialect (open_window dialect (ms ++ Line l ∷ []))
    (sym (shows_line dialect ms l) ∙ (ap (λ (w : Option Window). after_line dialect (option_map (shown dialect) w) l) e ∙ closed_after (is_none (dialect.kind_of l)) None None refl refl))

-- nor is it Done there
pub closed_tells_none : (dialect : Dialect) (ms : List Mark) (l : List ℕ) (ls : List AnswerLine) → open_window dialect ms ≡ None → seen_after dialect ms l ≡ Done ls → ⊥
closed_tells_none dialect ms l ls e h =
    no_final (dialect.kind_of l) ls (ap (λ (w : Option Window). seen_by dialect (option_map (shown dialect) w) l) (sym e) ∙ (seen_line dialect ms l ∙ h))

heard_tells_none : (r : Request) (b : Bool) (d : ℕ) (kind : UrcKind) (l : List ℕ) → told_to r (if b then Heard kind d l ∷ [] else []) ≡ 0
heard_tells_none r true d kind l = refl
heard_tells_none r false d kind l = refl

-- a line tells the owner of the window, where it is Done
line_tells : (s : Setting) (d : ℕ) (owner : Option Request) (r : Request) (l : List ℕ) (x : line_is.Seen) → told_to r (by_seen s d owner l x) ≤ many r (as_list owner)
line_tells s d owner r l Echo = omega arith
line_tells s d owner r l Kept = omega arith
line_tells s d None r l (Done ls) = omega arith
line_tells s d (Some q) r l (Done ls) = omega arith
line_tells s d owner r l (Unsolicited kind) = let h = heard_tells_none r (s.listens kind) d kind l in omega (arith, h)
line_tells s d owner r l line_is.TheVariants.Other = let h = heard_tells_none r (s.listens Other) d Other l in omega (arith, h)

-- and tells nobody, where it is not
other_tells_none : (s : Setting) (d : ℕ) (owner : Option Request) (r : Request) (l : List ℕ) (x : line_is.Seen) → ((ls : List AnswerLine) → x ≡ Done ls → ⊥) → told_to r (by_seen s d owner l x) ≡ 0
other_tells_none s d owner r l Echo never = refl
other_tells_none s d owner r l Kept never = refl
other_tells_none s d owner r l (Done ls) never = absurd (never ls refl)
other_tells_none s d owner r l (Unsolicited kind) never = heard_tells_none r (s.listens kind) d kind l
other_tells_none s d owner r l line_is.TheVariants.Other never = heard_tells_none r (s.listens Other) d Other l

closed_lines : (s : Setting) (d : ℕ) (owner : Option Request) (r : Request) (ms : List Mark) (ls : List (List ℕ)) → open_window s.dialect ms ≡ None → told_to r (by_lines s d owner ms ls) ≡ 0
closed_lines s d owner r ms [] e = refl
closed_lines s d owner r ms (l ∷ ls) e =
    let here = other_tells_none s d owner r l (seen_after s.dialect ms l) (λ (x : List AnswerLine). closed_tells_none s.dialect ms l x e) in
    let rest = closed_lines s d owner r (ms ++ Line l ∷ []) ls (stays_closed s.dialect ms l e) in
    told_append r (by_seen s d owner l (seen_after s.dialect ms l)) (by_lines s d owner (ms ++ Line l ∷ []) ls) ∙ omega (arith, here, rest)

-- of the lines from here on at most one is Done
line_first : (s : Setting) (d : ℕ) (owner : Option Request) (r : Request) (ms : List Mark) (l : List ℕ) (ls : List (List ℕ)) (x : line_is.Seen) → seen_after s.dialect ms l ≡ x
    → told_to r (by_lines s d owner (ms ++ Line l ∷ []) ls) ≤ many r (as_list owner)
    → told_to r (by_seen s d owner l x) + told_to r (by_lines s d owner (ms ++ Line l ∷ []) ls) ≤ many r (as_list owner)
line_first s d owner r ms l ls (Done got) e h =
    let here = line_tells s d owner r l (Done got) in
    let rest = closed_lines s d owner r (ms ++ Line l ∷ []) ls (done_closes s.dialect ms l got e) in
    omega (arith, here, rest)
line_first s d owner r ms l ls Echo e h = omega (arith, h)
line_first s d owner r ms l ls Kept e h = omega (arith, h)
line_first s d owner r ms l ls (Unsolicited kind) e h = let here = heard_tells_none r (s.listens kind) d kind l in omega (arith, h, here)
line_first s d owner r ms l ls line_is.TheVariants.Other e h = let here = heard_tells_none r (s.listens Other) d Other l in omega (arith, h, here)

-- lines tell a request at most once, and only where it owns the command under way
pub lines_within : (s : Setting) (d : ℕ) (owner : Option Request) (r : Request) (ms : List Mark) (ls : List (List ℕ)) → told_to r (by_lines s d owner ms ls) ≤ many r (as_list owner)
lines_within s d owner r ms [] = omega arith
lines_within s d owner r ms (l ∷ ls) =
    let both = told_append r (by_seen s d owner l (seen_after s.dialect ms l)) (by_lines s d owner (ms ++ Line l ∷ []) ls) in
    let parts = line_first s d owner r ms l ls (seen_after s.dialect ms l) refl (lines_within s d owner r (ms ++ Line l ∷ []) ls) in
    omega (arith, both, parts)

-- ## A data frame

kind_is : (k : Kind) → is_kind k Uih ≡ true → k ≡ Uih
kind_is Uih e = refl
kind_is Sabm e = cc
kind_is Ua e = cc
kind_is Dm e = cc
kind_is Disc e = cc

-- data on d with the information of this frame, and its C/R and P/F
abbrev pub data_on : ℕ → Frame → Frame
data_on d f = record { dlci = d; kind = Uih; cr = f.cr; pf = f.pf; info = f.info }

-- a data frame is data on its own connection
pub is_data : (f : Frame) → is_data_frame f ≡ true → f ≡ data_on f.dlci f
is_data f e =
    let parts = and_parts (is_kind f.kind Uih) (not (f.dlci == 0)) e in
    ap (λ (k : Kind). record { dlci = f.dlci; kind = k; cr = f.cr; pf = f.pf; info = f.info }) (kind_is f.kind parts.0)

-- and that is another than 0
pub not_zero : (f : Frame) → is_data_frame f ≡ true → (f.dlci == 0) ≡ false
not_zero f e = let parts = and_parts (is_kind f.kind Uih) (not (f.dlci == 0)) e in not_true (f.dlci == 0) parts.1

either_none : (b : Bool) (fs : List Frame) → fs ≡ [] → (if b then [] else fs) ≡ []
either_none true fs e = refl
either_none false fs e = e

tabled_none : (r : Role) (d : ℕ) (channel own : State) → by_table r d channel own Uih ≡ []
tabled_none Initiator d channel own = refl
tabled_none Responder d channel own = refl

-- a data frame calls for no frame
data_calls_none : (s : Setting) (v : HistoryView) (d : ℕ) (f : Frame) → (d == 0) ≡ false → frames s v (Got (data_on d f)) ≡ []
data_calls_none s v d f z =
    either_none v.lost (frames_by s v (Got (data_on d f)))
    (ap (λ (b : Bool). if b then by_message s.role (v.state 0) (data_on d f) else by_table s.role d (v.state 0) (v.state d) Uih) z ∙ tabled_none s.role d (v.state 0) (v.state d))

got_stays : (r : Role) (b : Bool) (s : State) → is_opened s ≡ true → is_opened (got_by r b s Uih) ≡ true
got_stays Initiator b IsOpened e = refl
got_stays Responder b IsOpened e = refl
got_stays r b IsShut e = cc
got_stays r b (IsOpening n) e = cc
got_stays r b (IsClosing n) e = cc
got_stays r b (IsStopping n) e = cc

kept_open : (b c : Bool) (x y : State) → is_opened x ≡ true → is_opened y ≡ true → is_opened (if (b && false) then IsShut else (if c then x else y)) ≡ true
kept_open true true x y e h = e
kept_open false true x y e h = e
kept_open true false x y e h = h
kept_open false false x y e h = h

-- and leaves an Opened connection Opened
data_keeps : (r : Role) (d : ℕ) (f : Frame) (z own : State) → (d == 0) ≡ false → is_opened own ≡ true
    → is_opened (states_after r d (record { zero = z; own = own }) (station.Got (data_on d f))).own ≡ true
data_keeps r d f z own e h = rw e (kept_open (is_opened z) (d == d) (got_by r (is_opened z) own Uih) own (got_stays r (is_opened z) own h) h)

-- data leaves the connection open on which it comes
pub still_open : (s : Setting) (v : HistoryView) (d : ℕ) (f : Frame) → (d == 0) ≡ false → is_opened (v.state d) ≡ true
    → is_opened (states_now s v (Got (data_on d f) ∷ map Sent (frames s v (Got (data_on d f)))) d) ≡ true
still_open s v d f e h =
    ap (λ (fs : List Frame). is_opened (states_now s v (Got (data_on d f) ∷ map Sent fs) d)) (data_calls_none s v d f e)
    ∙ data_keeps s.role d f (v.state 0) (v.state d) e h

-- so a command on it is told nothing but by a line
pub untold : (v : HistoryView) (now : ℕ → State) (a : Act) (d : ℕ) → is_opened (now d) ≡ true → (q : Request) (ask : Ask) → command_on d ask ≡ true → later v now a q ask ≡ None
untold v now a d h q (Command e line) c =
    let same : e.number ≡ d = eqb-true e.number d c in
    let open_now : is_opened (now e.number) ≡ true = ap (λ (n : ℕ). is_opened (now n)) same ∙ h in
    if_open (is_opened (now e.number)) _ open_now
  where
    if_open : (b : Bool) (o : Option Answer) → b ≡ true → (if b then None else o) ≡ None
    if_open true o g = refl
    if_open false o g = cc
untold v now a d h q (OpenChannel e) c = cc
untold v now a d h q (CloseChannel e) c = cc
untold v now a d h q (Probe octets) c = cc
untold v now a d h q Stop c = cc

-- the first command on a connection, and what the requests are told without it
first_step : (r q : Request) (o : Option Answer) (first : Option Request) (rest : List Act) (b : Bool) (n : ℕ) → (b ≡ true → o ≡ None) → many r (as_list first) + told_to r rest ≤ n
    → told_to r rest ≤ n
    → many r (as_list (if b then Some q else first)) + told_to r (cons_option (option_map (told q) o) rest) ≤ one (is_same r q) + n
first_step r q o first rest false n none h k = let g = later_one r q o rest in omega (arith, g, h)
first_step r q None first rest true n none h k = omega (arith, k)
first_step r q (Some told_so) first rest true n none h k = absurd (let g : Some told_so ≡ None = none refl in cc)

-- the first command of an open connection and what is told later tell a request at most as often as it is in hand
pub first_within : (v : HistoryView) (now : ℕ → State) (a : Act) (d : ℕ) → is_opened (now d) ≡ true → (r : Request) (qs : List Request)
    → many r (as_list (first_on d qs)) + told_to r (filter_map (told_later v now a) qs) ≤ many r qs
first_within v now a d h r [] = omega arith
first_within v now a d h r (q ∷ qs) =
    first_step r q (later v now a q q.ask) (first_on d qs) (filter_map (told_later v now a) qs) (command_on d q.ask) (many r qs)
    (untold v now a d h q q.ask) (first_within v now a d h r qs) (tolds_within v now a r qs)
