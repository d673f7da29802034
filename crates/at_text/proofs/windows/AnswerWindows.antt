-- How a window goes on with a line.
use Rattle.std.specs.Prelude.{◌≡◌, ℕ, ◌&&◌, ◌||◌, ◌⊎◌, Bool, true, false, List, [], ◌∷◌, ◌++◌, refl, if◌then◌else◌, map, filter, Option, Some, None, option_map, IsNone}
use Rattle.std.specs.Str.{bytes_eq}
use Rattle.std.proofs.Common.{ap, sym, ◌∙◌, inl, inr, append_assoc}
use Rattle.std.proofs.lemmas.List.{append-nil}
use Rattle.std.specs.List.{last_or}
use Rattle.std.proofs.lemmas.List.Elements.{filter-append}
use Rattle.std.proofs.lemmas.List.Folds.{list_any-append}
use Rattle.at_text.specs.declared.answer.AnswerLine.{AnswerLine}
use Rattle.at_text.specs.declared.unsolicited.UrcKind.{UrcKind}
use Rattle.at_text.specs.declared.window.Seen.{Seen}
use Rattle.at_text.specs.Dialects.{Dialect, is_solicited}
use Rattle.at_text.specs.Windows.{Mark, Line, Begun, lines_of, without_echo, up_to_final, answer, has_final, Window, windows, last_window, is_answered, more_of, window_more, open_of, open_window, IsInTurn}
use Rattle.at_text.specs.Seeing.{answer_lines, is_empty, is_fresh, solicited_in, by_kind, seen_after, seen_from}
use Rattle.at_text.specs.OpenWindow.{OpenWindow, opened, shown, FitsMarks, Sees, is_echo, solicited_by, seen_by, after_solicited, after_line}

-- ## Up to the final code

up_to_final-done : (dialect : Dialect) (ls more : List (List ℕ)) → has_final dialect ls ≡ true → up_to_final dialect (ls ++ more) ≡ up_to_final dialect ls
up_to_final-done dialect [] more done = cc
up_to_final-done dialect (l ∷ ls) more done = at (dialect.is_final l) l ls more (up_to_final-done dialect ls more) done
  where
    at : (b : Bool) (l : List ℕ) (ls more : List (List ℕ)) → (has_final dialect ls ≡ true → up_to_final dialect (ls ++ more) ≡ up_to_final dialect ls) → (b || has_final dialect ls) ≡ true
        → (if b then l ∷ [] else l ∷ up_to_final dialect (ls ++ more)) ≡ (if b then l ∷ [] else l ∷ up_to_final dialect ls)
    at true l ls more h done = refl
    at false l ls more h done = ap (λ (v : List (List ℕ)). l ∷ v) (h done)

up_to_final-on : (dialect : Dialect) (ls more : List (List ℕ)) → has_final dialect ls ≡ false → up_to_final dialect (ls ++ more) ≡ ls ++ up_to_final dialect more
up_to_final-on dialect [] more none = refl
up_to_final-on dialect (l ∷ ls) more none = at (dialect.is_final l) l ls more (up_to_final-on dialect ls more) none
  where
    at : (b : Bool) (l : List ℕ) (ls more : List (List ℕ)) → (has_final dialect ls ≡ false → up_to_final dialect (ls ++ more) ≡ ls ++ up_to_final dialect more) → (b || has_final dialect ls) ≡ false
        → (if b then l ∷ [] else l ∷ up_to_final dialect (ls ++ more)) ≡ (l ∷ ls) ++ up_to_final dialect more
    at true l ls more h none = cc
    at false l ls more h none = ap (λ (v : List (List ℕ)). l ∷ v) (h none)

up_to_final-one : (dialect : Dialect) (l : List ℕ) → up_to_final dialect (l ∷ []) ≡ l ∷ []
up_to_final-one dialect l = at (dialect.is_final l) l
  where
    at : (b : Bool) (l : List ℕ) → (if b then l ∷ [] else l ∷ []) ≡ l ∷ []
    at true l = refl
    at false l = refl

has_final-up_to : (dialect : Dialect) (ls : List (List ℕ)) → has_final dialect (up_to_final dialect ls) ≡ has_final dialect ls
has_final-up_to dialect [] = refl
has_final-up_to dialect (l ∷ ls) = at (dialect.is_final l) l ls refl (has_final-up_to dialect ls)
  where
    at : (b : Bool) (l : List ℕ) (ls : List (List ℕ)) → dialect.is_final l ≡ b → has_final dialect (up_to_final dialect ls) ≡ has_final dialect ls → has_final dialect (if b then l ∷ [] else l ∷ up_to_final dialect ls) ≡ (b || has_final dialect ls)
    at true l ls e h = rw e refl
    at false l ls e h = rw e h

-- ## The answer with one more line

solicited-more : (dialect : Dialect) (ls : List (List ℕ)) (l : List ℕ) (b : Bool) → is_solicited dialect l ≡ b → filter (is_solicited dialect) (ls ++ l ∷ []) ≡ filter (is_solicited dialect) ls ++ (if b then l ∷ [] else [])
solicited-more dialect ls l b e = filter-append (is_solicited dialect) ls (l ∷ []) ∙ rw e refl

without_echo-more : (command s : List ℕ) (ls more : List (List ℕ)) → without_echo command ((s ∷ ls) ++ more) ≡ without_echo command (s ∷ ls) ++ more
without_echo-more command s ls more = at (bytes_eq s command) s ls more
  where
    at : (b : Bool) (s : List ℕ) (ls more : List (List ℕ)) → (if b then ls ++ more else s ∷ (ls ++ more)) ≡ (if b then ls else s ∷ ls) ++ more
    at true s ls more = refl
    at false s ls more = refl

-- an unsolicited line changes no answer
pub answer-unsolicited : (dialect : Dialect) (command : List ℕ) (ls : List (List ℕ)) (l : List ℕ) → is_solicited dialect l ≡ false → answer dialect command (ls ++ l ∷ []) ≡ answer dialect command ls
answer-unsolicited dialect command ls l e = rw (solicited-more dialect ls l false e, append-nil) refl

-- and leaves a window fresh, or not, as it was
pub is_fresh-unsolicited : (dialect : Dialect) (ls : List (List ℕ)) (l : List ℕ) → is_solicited dialect l ≡ false
    → is_empty (filter (is_solicited dialect) (ls ++ l ∷ [])) ≡ is_empty (filter (is_solicited dialect) ls)
is_fresh-unsolicited dialect ls l e = rw (solicited-more dialect ls l false e, append-nil) refl

is_empty-push : (xs : List (List ℕ)) (x : List ℕ) → is_empty (xs ++ x ∷ []) ≡ false
is_empty-push [] x = refl
is_empty-push (y ∷ xs) x = refl

-- behind a line that isn't unsolicited no window is fresh
pub is_fresh-solicited : (dialect : Dialect) (ls : List (List ℕ)) (l : List ℕ) → is_solicited dialect l ≡ true → is_empty (filter (is_solicited dialect) (ls ++ l ∷ [])) ≡ false
is_fresh-solicited dialect ls l e = rw (solicited-more dialect ls l true e) (is_empty-push (filter (is_solicited dialect) ls) l)

-- nor does a line after the final code
with_final : (dialect : Dialect) (command : List ℕ) (xs more : List (List ℕ)) → has_final dialect (up_to_final dialect (without_echo command xs)) ≡ true → up_to_final dialect (without_echo command (xs ++ more)) ≡ up_to_final dialect (without_echo command xs)
with_final dialect command [] more done = cc
with_final dialect command (s ∷ xs) more done =
    rw (without_echo-more command s xs more) (up_to_final-done dialect (without_echo command (s ∷ xs)) more (sym (has_final-up_to dialect (without_echo command (s ∷ xs))) ∙ done))

-- a line behind the final code changes no answer
pub answer-done : (dialect : Dialect) (command : List ℕ) (ls : List (List ℕ)) (l : List ℕ) → has_final dialect (answer dialect command ls) ≡ true → answer dialect command (ls ++ l ∷ []) ≡ answer dialect command ls
answer-done dialect command ls l done = rw (filter-append (is_solicited dialect) ls (l ∷ [])) (with_final dialect command (filter (is_solicited dialect) ls) (filter (is_solicited dialect) (l ∷ [])) done)

-- nor does the echo
by_echo : (dialect : Dialect) (command l : List ℕ) (xs : List (List ℕ)) → (is_empty xs && bytes_eq l command) ≡ true → up_to_final dialect (without_echo command (xs ++ l ∷ [])) ≡ up_to_final dialect (without_echo command xs)
by_echo dialect command l [] e = rw e refl
by_echo dialect command l (x ∷ xs) e = cc

-- the echo changes none
pub answer-echo : (dialect : Dialect) (command : List ℕ) (ls : List (List ℕ)) (l : List ℕ) → is_solicited dialect l ≡ true → (is_empty (filter (is_solicited dialect) ls) && bytes_eq l command) ≡ true → answer dialect command (ls ++ l ∷ []) ≡ answer dialect command ls
answer-echo dialect command ls l s e = rw (solicited-more dialect ls l true s) (by_echo dialect command l (filter (is_solicited dialect) ls) e)

-- any other line goes to its end
by_line : (dialect : Dialect) (command l : List ℕ) (xs : List (List ℕ)) → has_final dialect (up_to_final dialect (without_echo command xs)) ≡ false → (is_empty xs && bytes_eq l command) ≡ false
    → up_to_final dialect (without_echo command (xs ++ l ∷ [])) ≡ up_to_final dialect (without_echo command xs) ++ l ∷ []
by_line dialect command l [] none e = rw e (up_to_final-one dialect l)
by_line dialect command l (x ∷ xs) none e =
    let unended : has_final dialect (without_echo command (x ∷ xs)) ≡ false = sym (has_final-up_to dialect (without_echo command (x ∷ xs))) ∙ none in
    let all : up_to_final dialect (without_echo command (x ∷ xs) ++ []) ≡ without_echo command (x ∷ xs) ++ [] = up_to_final-on dialect (without_echo command (x ∷ xs)) [] unended in
    rw (without_echo-more command x xs (l ∷ []), up_to_final-on dialect (without_echo command (x ∷ xs)) (l ∷ []) unended, up_to_final-one dialect l)
    (ap (λ (v : List (List ℕ)). v ++ l ∷ []) (sym (rw append-nil at all)))

-- any other solicited line goes to the end of an answer that isn't whole
pub answer-more : (dialect : Dialect) (command : List ℕ) (ls : List (List ℕ)) (l : List ℕ) → is_solicited dialect l ≡ true → has_final dialect (answer dialect command ls) ≡ false
    → (is_empty (filter (is_solicited dialect) ls) && bytes_eq l command) ≡ false → answer dialect command (ls ++ l ∷ []) ≡ answer dialect command ls ++ l ∷ []
answer-more dialect command ls l s none e = rw (solicited-more dialect ls l true s) (by_line dialect command l (filter (is_solicited dialect) ls) none e)

-- with which it is whole, if it is a final code
pub has_final-more : (dialect : Dialect) (ls : List (List ℕ)) (l : List ℕ) → has_final dialect ls ≡ false → has_final dialect (ls ++ l ∷ []) ≡ dialect.is_final l
has_final-more dialect ls l none = list_any-append dialect.is_final ls (l ∷ []) ∙ rw none (at (dialect.is_final l))
  where
    at : (b : Bool) → (b || false) ≡ b
    at true = refl
    at false = refl

-- ## The last window with one more mark

-- lines placed later stand behind those before
pub lines_of-append : (xs ys : List Mark) → lines_of (xs ++ ys) ≡ lines_of xs ++ lines_of ys
lines_of-append [] ys = refl
lines_of-append (Line l ∷ xs) ys = ap (λ (v : List (List ℕ)). l ∷ v) (lines_of-append xs ys)
lines_of-append (Begun c ∷ xs) ys = lines_of-append xs ys

-- one more line comes into each window
pub windows-line : (ms : List Mark) (l : List ℕ) → windows (ms ++ Line l ∷ []) ≡ map (λ w. more_of w l) (windows ms)
windows-line [] l = refl
windows-line (Line k ∷ ms) l = windows-line ms l
windows-line (Begun c ∷ ms) l = rw (windows-line ms l, lines_of-append ms (Line l ∷ [])) refl

-- a command that begins adds its window, still empty
pub windows-begun : (ms : List Mark) (c : List ℕ) → windows (ms ++ Begun c ∷ []) ≡ windows ms ++ record { command = c; after = [] } ∷ []
windows-begun [] c = refl
windows-begun (Line k ∷ ms) c = windows-begun ms c
windows-begun (Begun d ∷ ms) c = rw (windows-begun ms c, lines_of-append ms (Begun c ∷ []), append-nil) refl

last_or-map : (o : Option Window) (ws : List Window) (l : List ℕ) → last_or (window_more o l) (map (λ w. more_of w l) ws) ≡ window_more (last_or o ws) l
last_or-map o [] l = refl
last_or-map o (w ∷ ws) l = last_or-map (Some w) ws l

-- the last of some windows, with one more behind, is that one
pub last_or-push : (o : Option Window) (ws : List Window) (w : Window) → last_or o (ws ++ w ∷ []) ≡ Some w
last_or-push o [] w = refl
last_or-push o (v ∷ ws) w = last_or-push (Some v) ws w

-- a line placed comes into the last window
pub last_window-line : (ms : List Mark) (l : List ℕ) → last_window (ms ++ Line l ∷ []) ≡ window_more (last_window ms) l
last_window-line ms l = rw (windows-line ms l) (last_or-map None (windows ms) l)

-- a command that begins has the last one
pub last_window-begun : (ms : List Mark) (c : List ℕ) → last_window (ms ++ Begun c ∷ []) ≡ Some (record { command = c; after = [] })
last_window-begun ms c = rw (windows-begun ms c) (last_or-push None (windows ms) (record { command = c; after = [] }))

-- ## What a window shows with one more mark

-- the window of a command that has just begun shows no line, and may get the echo
pub shows_begun : (dialect : Dialect) (past : List Mark) (c : List ℕ) → Some (opened c) ≡ option_map (shown dialect) (open_window dialect (past ++ Begun c ∷ []))
shows_begun dialect past c = rw (last_window-begun past c) refl

answer_lines-push : (ls : List (List ℕ)) (l : List ℕ) → answer_lines (ls ++ l ∷ []) ≡ answer_lines ls ++ record { text = l } ∷ []
answer_lines-push [] l = refl
answer_lines-push (k ∷ ls) l = ap (λ (v : List AnswerLine). record { text = k } ∷ v) (answer_lines-push ls l)

abbrev Shows : Dialect → Option Window → Option OpenWindow → Type 0
Shows dialect w o = option_map (shown dialect) (open_of dialect w) ≡ o

shows_answered : (dialect : Dialect) (w : Window) → is_answered dialect w ≡ true → Shows dialect (Some w) None
shows_answered dialect w e = rw e refl

shows_open : (dialect : Dialect) (w : Window) (lines : List (List ℕ)) (fresh : Bool) → has_final dialect lines ≡ false → answer dialect w.command w.after ≡ lines → is_fresh dialect w ≡ fresh
    → Shows dialect (Some w) (Some (record { command = w.command; lines = answer_lines lines; fresh = fresh }))
shows_open dialect w lines fresh none a f = rw (a, none, a, f) refl

-- a window that isn't whole yet, with a line that isn't unsolicited
more_solicited : (dialect : Dialect) (w : Window) (l : List ℕ) (e f : Bool) → is_answered dialect w ≡ false → is_solicited dialect l ≡ true → is_echo (shown dialect w) l ≡ e → dialect.is_final l ≡ f
    → Shows dialect (Some (more_of w l)) (after_solicited dialect (Some (shown dialect w)) l)
more_solicited dialect w l true f none s e g =
    rw e (shows_open dialect (more_of w l) (answer dialect w.command w.after) false none (answer-echo dialect w.command w.after l s e) (is_fresh-solicited dialect w.after l s))
more_solicited dialect w l false true none s e g =
    let more : answer dialect w.command (w.after ++ l ∷ []) ≡ answer dialect w.command w.after ++ l ∷ [] = answer-more dialect w.command w.after l s none e in
    rw (e, g) (shows_answered dialect (more_of w l) (ap (has_final dialect) more ∙ (has_final-more dialect (answer dialect w.command w.after) l none ∙ g)))
more_solicited dialect w l false false none s e g =
    let more : answer dialect w.command (w.after ++ l ∷ []) ≡ answer dialect w.command w.after ++ l ∷ [] = answer-more dialect w.command w.after l s none e in
    rw (e, g) (rw (← answer_lines-push (answer dialect w.command w.after) l)
    (shows_open dialect (more_of w l) (answer dialect w.command w.after ++ l ∷ []) false (has_final-more dialect (answer dialect w.command w.after) l none ∙ g) more (is_fresh-solicited dialect w.after l s)))

more_by : (dialect : Dialect) (w : Window) (l : List ℕ) (a s : Bool) → is_answered dialect w ≡ a → is_solicited dialect l ≡ s
    → Shows dialect (Some (more_of w l)) (if s then after_solicited dialect (option_map (shown dialect) (if a then None else Some w)) l else option_map (shown dialect) (if a then None else Some w))
more_by dialect w l true true e s = shows_answered dialect (more_of w l) (ap (has_final dialect) (answer-done dialect w.command w.after l e) ∙ e)
more_by dialect w l true false e s = shows_answered dialect (more_of w l) (ap (has_final dialect) (answer-done dialect w.command w.after l e) ∙ e)
more_by dialect w l false true e s = more_solicited dialect w l (is_echo (shown dialect w) l) (dialect.is_final l) e s refl refl
more_by dialect w l false false e s =
    shows_open dialect (more_of w l) (answer dialect w.command w.after) (is_fresh dialect w) e (answer-unsolicited dialect w.command w.after l s) (is_fresh-unsolicited dialect w.after l s)

-- what a window shows goes on with a line by what it shows alone
shows_more : (dialect : Dialect) (o : Option Window) (l : List ℕ) → Shows dialect (window_more o l) (after_line dialect (option_map (shown dialect) (open_of dialect o)) l)
shows_more dialect None l = at (is_solicited dialect l)
  where
    at : (b : Bool) → Shows dialect None (if b then None else None)
    at true = refl
    at false = refl
shows_more dialect (Some w) l = more_by dialect w l (is_answered dialect w) (is_solicited dialect l) refl refl

-- what a window shows behind one more line follows from what it showed
pub shows_line : (dialect : Dialect) (past : List Mark) (l : List ℕ) → after_line dialect (option_map (shown dialect) (open_window dialect past)) l ≡ option_map (shown dialect) (open_window dialect (past ++ Line l ∷ []))
shows_line dialect past l = sym (rw (last_window-line past l) (shows_more dialect (last_window past) l))

-- ## What a line is

abbrev IsSeen : Dialect → Option Window → List ℕ → Seen → Type 0
IsSeen dialect o l seen = solicited_in dialect (open_of dialect o) l ≡ seen

seen_open : (dialect : Dialect) (w : Window) (l : List ℕ) (e f : Bool) → is_answered dialect w ≡ false → is_solicited dialect l ≡ true → is_echo (shown dialect w) l ≡ e → dialect.is_final l ≡ f
    → IsSeen dialect (Some w) l (solicited_by dialect (Some (shown dialect w)) l)
seen_open dialect w l true f none s e g = rw (none, e) refl
seen_open dialect w l false f none s e g =
    let more : answer dialect w.command (w.after ++ l ∷ []) ≡ answer dialect w.command w.after ++ l ∷ [] = answer-more dialect w.command w.after l s none e in
    rw (none, e) (rw (more, has_final-more dialect (answer dialect w.command w.after) l none, answer_lines-push (answer dialect w.command w.after) l) refl)

-- without a window, or in one that is whole
seen_by_answer : (dialect : Dialect) (w : Window) (l : List ℕ) (a : Bool) → is_answered dialect w ≡ a → is_solicited dialect l ≡ true
    → IsSeen dialect (Some w) l (solicited_by dialect (option_map (shown dialect) (if a then None else Some w)) l)
seen_by_answer dialect w l true e s = rw e refl
seen_by_answer dialect w l false e s = seen_open dialect w l (is_echo (shown dialect w) l) (dialect.is_final l) e s refl refl

seen_solicited : (dialect : Dialect) (o : Option Window) (l : List ℕ) → is_solicited dialect l ≡ true → IsSeen dialect o l (solicited_by dialect (option_map (shown dialect) (open_of dialect o)) l)
seen_solicited dialect None l s = refl
seen_solicited dialect (Some w) l s = seen_by_answer dialect w l (is_answered dialect w) refl s

seen_by_kind : (dialect : Dialect) (k : Option UrcKind) (o : Option Window) (l : List ℕ) → dialect.kind_of l ≡ k
    → by_kind k (solicited_in dialect (open_of dialect o) l) ≡ by_kind k (solicited_by dialect (option_map (shown dialect) (open_of dialect o)) l)
seen_by_kind dialect None o l e = seen_solicited dialect o l (rw e refl)
seen_by_kind dialect (Some k) o l e = refl

-- what a line is follows from what the window shows
pub seen_line : (dialect : Dialect) (past : List Mark) (l : List ℕ) → seen_by dialect (option_map (shown dialect) (open_window dialect past)) l ≡ seen_after dialect past l
seen_line dialect past l = sym (seen_by_kind dialect (dialect.kind_of l) (last_window past) l refl)

-- ## Commands in turn

-- where the last mark stands in a split of a list
split_last : (ms before after : List Mark) (m x : Mark) → ms ++ m ∷ [] ≡ before ++ x ∷ after → ((m ≡ x) × (ms ≡ before)) ⊎ ((rest : List Mark) × (ms ≡ before ++ x ∷ rest))
split_last [] [] after m x e = let same : m ≡ x = cc in inl (same, refl)
split_last [] (y ∷ []) after m x e = cc
split_last [] (y ∷ z ∷ ys) after m x e = cc
split_last (z ∷ zs) [] after m x e = let same : z ≡ x = cc in inr (zs, ap (λ (v : Mark). v ∷ zs) same)
split_last (z ∷ zs) (y ∷ ys) after m x e =
    let first : z ≡ y = cc in
    let rest : zs ++ m ∷ [] ≡ ys ++ x ∷ after = cc in
    elim (split_last zs ys after m x rest) [
      | inl h ↦ let same : zs ≡ ys = h.1 in inl (h.0, cc)
      | inr h ↦ let same : zs ≡ ys ++ x ∷ h.0 = h.1 in inr (h.0, cc)
    ]

in_turn-line : (dialect : Dialect) (ms : List Mark) (l : List ℕ) → IsInTurn dialect ms → IsInTurn dialect (ms ++ Line l ∷ [])
in_turn-line dialect ms l turn before after c e =
    elim (split_last ms before after (Line l) (Begun c) e) [
      | inl h ↦ let differ : Line l ≡ Begun c = h.0 in cc
      | inr h ↦ turn before h.0 c h.1
    ]

in_turn-begun : (dialect : Dialect) (ms : List Mark) (d : List ℕ) → IsInTurn dialect ms → open_window dialect ms ≡ None → IsInTurn dialect (ms ++ Begun d ∷ [])
in_turn-begun dialect ms d turn none before after c e =
    elim (split_last ms before after (Begun d) (Begun c) e) [
      | inl h ↦ rw (← h.1) none
      | inr h ↦ turn before h.0 c h.1
    ]

in_turn-none : (dialect : Dialect) → IsInTurn dialect []
in_turn-none dialect [] after c e = cc
in_turn-none dialect (m ∷ before) after c e = cc

is_none-none : (o : Option OpenWindow) → IsNone o → o ≡ None
is_none-none None e = refl
is_none-none (Some w) e = cc

none_shown : (dialect : Dialect) (o : Option Window) → option_map (shown dialect) o ≡ None → o ≡ None
none_shown dialect None e = refl
none_shown dialect (Some w) e = cc

-- ## As a window's calls say it

-- a window that shows nothing fits where nothing was placed
pub fits_nothing : (dialect : Dialect) (window : Option OpenWindow) → window ≡ None → FitsMarks dialect window []
fits_nothing dialect window none = record { in_turn = in_turn-none dialect; shows = none }

-- one that fits its marks, and goes on with a line, says what the line is and fits it too
pub sees : (dialect : Dialect) (window new : Option OpenWindow) (past : List Mark) (l : List ℕ) (seen : Seen) → FitsMarks dialect window past → seen ≡ seen_by dialect window l → new ≡ after_line dialect window l → Sees dialect past l seen new
sees dialect window new past l seen fits said after = record {
  said = rw (said, fits.shows) (seen_line dialect past l);
  fits = record { in_turn = in_turn-line dialect past l fits.in_turn; shows = rw (after, fits.shows) (shows_line dialect past l) };
}

-- one that shows no command under way, and then a command that begins, fits that too
pub begins : (dialect : Dialect) (window new : Option OpenWindow) (past : List Mark) (c : List ℕ) → FitsMarks dialect window past → IsNone window → new ≡ Some (opened c) → FitsMarks dialect new (past ++ Begun c ∷ [])
begins dialect window new past c fits none opens = record {
  in_turn = in_turn-begun dialect past c fits.in_turn (none_shown dialect (open_window dialect past) (sym fits.shows ∙ is_none-none window none));
  shows = rw opens (shows_begun dialect past c);
}

-- for callers: what lines are goes on with more marks
pub seen_from-append : (dialect : Dialect) (past xs ys : List Mark) → seen_from dialect past (xs ++ ys) ≡ seen_from dialect past xs ++ seen_from dialect (past ++ xs) ys
seen_from-append dialect past [] ys = rw append-nil refl
seen_from-append dialect past (Line l ∷ xs) ys =
    rw (← append_assoc past (Line l ∷ []) xs) (ap (λ (v : List Seen). seen_after dialect past l ∷ v) (seen_from-append dialect (past ++ Line l ∷ []) xs ys))
seen_from-append dialect past (Begun c ∷ xs) ys = rw (← append_assoc past (Begun c ∷ []) xs) (seen_from-append dialect (past ++ Begun c ∷ []) xs ys)
