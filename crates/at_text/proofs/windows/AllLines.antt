-- No line is lost or counted twice.
use Rattle.std.specs.Prelude.{◌≡◌, ℕ, suc, ◌+◌, ◌≤◌, ◌&&◌, not, Bool, true, false, List, [], ◌∷◌, ◌++◌, length, take, map, filter, filter_map, refl, if◌then◌else◌, Option, Some, None}
use Rattle.std.specs.List.{flat_map, last_or}
use Rattle.std.specs.Str.{bytes_eq}
use Rattle.std.proofs.Common.{ap, sym, subst, ◌∙◌, append_assoc, arith}
use Rattle.std.proofs.lemmas.List.{append-nil}
use Rattle.std.proofs.lemmas.List.Elements.{filter-append}
use Rattle.at_text.specs.declared.answer.AnswerLine.{AnswerLine}
use Rattle.at_text.specs.declared.unsolicited.UrcKind.{UrcKind}
use Rattle.at_text.specs.declared.unsolicited.UrcKind.TheVariants.{Other as Uncalled}
use Rattle.at_text.specs.declared.window.Seen.{Seen}
use Rattle.at_text.specs.declared.window.Seen.TheVariants.{Echo, Kept, Done, Unsolicited, Other}
use Rattle.at_text.specs.Dialects.{Dialect, is_solicited, is_called}
use Rattle.at_text.specs.Windows.{Mark, Line, Begun, lines_of, has_final, Window, answer_of, windows, is_answered, more_of, open_of, open_window, IsInTurn}
use Rattle.at_text.specs.Seeing.{answer_lines, is_empty, is_fresh, solicited_in, by_kind, seen_after, seen_from, seen_in}
use Rattle.at_text.specs.Whole.{is_part, is_repeat, parts, done_lines, announced, unsolicited_in, is_of_kind, NoneLost}
use Rattle.at_text.proofs.windows.AnswerWindows.{answer-unsolicited, answer-done, answer-echo, answer-more, is_fresh-solicited, windows-line, windows-begun}

-- ## One window

abbrev part_of : Seen → List ℕ → List (List ℕ)
part_of s l = if is_part s then l ∷ [] else []

abbrev given_of : Seen → List (List AnswerLine)
given_of s = filter_map done_lines (s ∷ [])

abbrev whole_of : Dialect → List (List (List ℕ)) → List (List AnswerLine)
whole_of dialect all = map answer_lines (filter (has_final dialect) all)

-- what a line adds to an answer, and whether the answer is given with it
record Adds (dialect : Dialect) (before after : List (List ℕ)) (l : List ℕ) (s : Seen) : Type 0 where
  parted : after ≡ before ++ part_of s l
  gives : whole_of dialect (after ∷ []) ≡ whole_of dialect (before ∷ []) ++ given_of s

adds_nothing : (dialect : Dialect) (before after : List (List ℕ)) (l : List ℕ) (s : Seen) → is_part s ≡ false → after ≡ before → Adds dialect before after l s
adds_nothing dialect before after l Echo e same = record { parted = same ∙ sym (append-nil before); gives = rw same (sym (append-nil (whole_of dialect (before ∷ [])))) }
adds_nothing dialect before after l (Unsolicited k) e same = record { parted = same ∙ sym (append-nil before); gives = rw same (sym (append-nil (whole_of dialect (before ∷ [])))) }
adds_nothing dialect before after l Other e same = record { parted = same ∙ sym (append-nil before); gives = rw same (sym (append-nil (whole_of dialect (before ∷ [])))) }
adds_nothing dialect before after l Kept e same = cc
adds_nothing dialect before after l (Done ls) e same = cc

adds_line : (dialect : Dialect) (f : Bool) (before after : List (List ℕ)) (l : List ℕ) → has_final dialect before ≡ false → has_final dialect after ≡ f → after ≡ before ++ l ∷ []
    → Adds dialect before after l (if f then Done (answer_lines after) else Kept)
adds_line dialect true before after l none e same = record { parted = same; gives = rw (none, e) refl }
adds_line dialect false before after l none e same = record { parted = same; gives = rw (none, e) refl }

adds_solicited : (dialect : Dialect) (w : Window) (l : List ℕ) (e : Bool) → is_answered dialect w ≡ false → is_solicited dialect l ≡ true → (is_fresh dialect w && bytes_eq l w.command) ≡ e
    → Adds dialect (answer_of dialect w) (answer_of dialect (more_of w l)) l (if e then Echo else (if is_answered dialect (more_of w l) then Done (answer_lines (answer_of dialect (more_of w l))) else Kept))
adds_solicited dialect w l true none s e = adds_nothing dialect (answer_of dialect w) (answer_of dialect (more_of w l)) l Echo refl (answer-echo dialect w.command w.after l s e)
adds_solicited dialect w l false none s e =
    adds_line dialect (is_answered dialect (more_of w l)) (answer_of dialect w) (answer_of dialect (more_of w l)) l none refl (answer-more dialect w.command w.after l s none e)

adds_by_kind : (dialect : Dialect) (k : Option UrcKind) (w : Window) (l : List ℕ) (a : Bool) → dialect.kind_of l ≡ k → is_answered dialect w ≡ a
    → Adds dialect (answer_of dialect w) (answer_of dialect (more_of w l)) l (by_kind k (solicited_in dialect (if a then None else Some w) l))
adds_by_kind dialect (Some k) w l a e f = adds_nothing dialect (answer_of dialect w) (answer_of dialect (more_of w l)) l (Unsolicited k) refl (answer-unsolicited dialect w.command w.after l (rw e refl))
adds_by_kind dialect None w l true e f = adds_nothing dialect (answer_of dialect w) (answer_of dialect (more_of w l)) l Other refl (answer-done dialect w.command w.after l f)
adds_by_kind dialect None w l false e f = adds_solicited dialect w l (is_fresh dialect w && bytes_eq l w.command) f (rw e refl) refl

-- what a line is, after the last of some windows
abbrev seen_at : Dialect → Option Window → List ℕ → Seen
seen_at dialect o l = by_kind (dialect.kind_of l) (solicited_in dialect (open_of dialect o) l)

adds : (dialect : Dialect) (w : Window) (l : List ℕ) → Adds dialect (answer_of dialect w) (answer_of dialect (more_of w l)) l (seen_at dialect (Some w) l)
adds dialect w l = adds_by_kind dialect (dialect.kind_of l) w l (is_answered dialect w) refl refl

-- ## All windows

-- each but the last is whole
abbrev Settled : Dialect → List Window → Type 0
Settled dialect [] = Unit {0}
Settled dialect (w ∷ []) = Unit {0}
Settled dialect (w ∷ v ∷ ws) = (is_answered dialect w ≡ true) × Settled dialect (v ∷ ws)

abbrev all_more : List Window → List ℕ → List Window
all_more ws l = map (λ w. more_of w l) ws

abbrev joined_of : Dialect → List Window → List (List ℕ)
joined_of dialect ws = flat_map (λ ls. ls) (map (answer_of dialect) ws)

settled_more : (dialect : Dialect) (ws : List Window) (l : List ℕ) → Settled dialect ws → Settled dialect (all_more ws l)
settled_more dialect [] l s = tt
settled_more dialect (w ∷ []) l s = tt
settled_more dialect (w ∷ v ∷ ws) l s = (ap (has_final dialect) (answer-done dialect w.command w.after l s.0) ∙ s.0, settled_more dialect (v ∷ ws) l s.1)

settled_push : (dialect : Dialect) (ws : List Window) (w : Window) → Settled dialect ws → open_of dialect (last_or None ws) ≡ None → Settled dialect (ws ++ w ∷ [])
settled_push dialect [] w s e = tt
settled_push dialect (v ∷ []) w s e = (whole (is_answered dialect v) v refl e, tt)
  where
    whole : (b : Bool) (v : Window) → is_answered dialect v ≡ b → (if is_answered dialect v then None else Some v) ≡ None → is_answered dialect v ≡ true
    whole true v f e = f
    whole false v f e = let g : (if false then None else Some v) ≡ None = rw f at e in cc
settled_push dialect (v ∷ u ∷ ws) w s e = (s.0, settled_push dialect (u ∷ ws) w s.1 e)

joined_none : (k : Option UrcKind) (l : List ℕ) → [] ≡ part_of (by_kind k Other) l
joined_none None l = refl
joined_none (Some k) l = refl

given_none : (k : Option UrcKind) → [] ≡ given_of (by_kind k Other)
given_none None = refl
given_none (Some k) = refl

joined-line : (dialect : Dialect) (ws : List Window) (l : List ℕ) → Settled dialect ws → joined_of dialect (all_more ws l) ≡ joined_of dialect ws ++ part_of (seen_at dialect (last_or None ws) l) l
joined-line dialect [] l s = joined_none (dialect.kind_of l) l
joined-line dialect (w ∷ []) l s = rw (append-nil, append-nil) (adds dialect w l).parted
joined-line dialect (w ∷ v ∷ ws) l s =
    let here : answer_of dialect (more_of w l) ≡ answer_of dialect w = answer-done dialect w.command w.after l s.0 in
    rw (here, joined-line dialect (v ∷ ws) l s.1) (sym (append_assoc (answer_of dialect w) (joined_of dialect (v ∷ ws)) (part_of (seen_at dialect (last_or None (v ∷ ws)) l) l)))

whole-line : (dialect : Dialect) (ws : List Window) (l : List ℕ) → Settled dialect ws → whole_of dialect (map (answer_of dialect) (all_more ws l)) ≡ whole_of dialect (map (answer_of dialect) ws) ++ given_of (seen_at dialect (last_or None ws) l)
whole-line dialect [] l s = given_none (dialect.kind_of l)
whole-line dialect (w ∷ []) l s = (adds dialect w l).gives
whole-line dialect (w ∷ v ∷ ws) l s =
    let here : answer_of dialect (more_of w l) ≡ answer_of dialect w = answer-done dialect w.command w.after l s.0 in
    rw (here, s.0) (ap (λ (v : List (List AnswerLine)). answer_lines (answer_of dialect w) ∷ v) (whole-line dialect (v ∷ ws) l s.1))

joined-begun : (dialect : Dialect) (ws : List Window) (c : List ℕ) → joined_of dialect (ws ++ record { command = c; after = [] } ∷ []) ≡ joined_of dialect ws
joined-begun dialect [] c = refl
joined-begun dialect (w ∷ ws) c = ap (λ (v : List (List ℕ)). answer_of dialect w ++ v) (joined-begun dialect ws c)

whole-begun : (dialect : Dialect) (ws : List Window) (c : List ℕ) → whole_of dialect (map (answer_of dialect) (ws ++ record { command = c; after = [] } ∷ [])) ≡ whole_of dialect (map (answer_of dialect) ws)
whole-begun dialect [] c = refl
whole-begun dialect (w ∷ ws) c = at (is_answered dialect w) (whole-begun dialect ws c)
  where
    at : (b : Bool) → whole_of dialect (map (answer_of dialect) (ws ++ record { command = c; after = [] } ∷ [])) ≡ whole_of dialect (map (answer_of dialect) ws)
        → map answer_lines (if b then answer_of dialect w ∷ filter (has_final dialect) (map (answer_of dialect) (ws ++ record { command = c; after = [] } ∷ [])) else filter (has_final dialect) (map (answer_of dialect) (ws ++ record { command = c; after = [] } ∷ [])))
        ≡ map answer_lines (if b then answer_of dialect w ∷ filter (has_final dialect) (map (answer_of dialect) ws) else filter (has_final dialect) (map (answer_of dialect) ws))
    at true h = ap (λ (v : List (List AnswerLine)). answer_lines (answer_of dialect w) ∷ v) h
    at false h = h

-- the answers with their final code are those of the first commands
in_order_of : (dialect : Dialect) (ws : List Window) → Settled dialect ws → filter (has_final dialect) (map (answer_of dialect) ws) ≡ take (length (filter (has_final dialect) (map (answer_of dialect) ws))) (map (answer_of dialect) ws)
in_order_of dialect [] s = refl
in_order_of dialect (w ∷ []) s = at (is_answered dialect w)
  where
    at : (b : Bool) → (if b then answer_of dialect w ∷ [] else []) ≡ take (length (if b then answer_of dialect w ∷ [] else [])) (answer_of dialect w ∷ [])
    at true = refl
    at false = refl
in_order_of dialect (w ∷ v ∷ ws) s = rw s.0 (ap (λ (x : List (List (List ℕ))). answer_of dialect w ∷ x) (in_order_of dialect (v ∷ ws) s.1))

-- ## Echoes

abbrev one_of : Bool → ℕ
one_of true = 1
one_of false = 0

-- how many windows can have no echo any more
abbrev stale_in : Dialect → List Window → ℕ
stale_in dialect [] = 0
stale_in dialect (w ∷ ws) = one_of (not (is_fresh dialect w)) + stale_in dialect ws

stale_in-le : (dialect : Dialect) (ws : List Window) → stale_in dialect ws ≤ length ws
stale_in-le dialect [] = omega arith
stale_in-le dialect (w ∷ ws) = at (is_fresh dialect w) (stale_in-le dialect ws)
  where
    at : (b : Bool) → stale_in dialect ws ≤ length ws → one_of (not b) + stale_in dialect ws ≤ suc (length ws)
    at true h = omega (arith, h)
    at false h = omega (arith, h)

is_empty-append : (xs ys : List (List ℕ)) → is_empty xs ≡ false → is_empty (xs ++ ys) ≡ false
is_empty-append [] ys e = cc
is_empty-append (x ∷ xs) ys e = refl

fresh_more : (dialect : Dialect) (w : Window) (l : List ℕ) → is_fresh dialect w ≡ false → is_fresh dialect (more_of w l) ≡ false
fresh_more dialect w l e = rw (filter-append (is_solicited dialect) w.after (l ∷ [])) (is_empty-append (filter (is_solicited dialect) w.after) (filter (is_solicited dialect) (l ∷ [])) e)

stale_more : (dialect : Dialect) (w : Window) (l : List ℕ) (b : Bool) → is_fresh dialect w ≡ b → one_of (not (is_fresh dialect w)) ≤ one_of (not (is_fresh dialect (more_of w l)))
stale_more dialect w l true e = rw e (omega arith)
stale_more dialect w l false e = rw (e, fresh_more dialect w l e) (omega arith)

-- only in a fresh window a line is the echo
no_repeat : (f e d : Bool) (ls : List AnswerLine) → f ≡ false → is_repeat (if f && e then Echo else (if d then Done ls else Kept)) ≡ false
no_repeat true e d ls h = cc
no_repeat false e true ls h = refl
no_repeat false e false ls h = refl

repeat_stale : (dialect : Dialect) (a : Bool) (w : Window) (l : List ℕ) → is_fresh dialect w ≡ false → is_repeat (solicited_in dialect (if a then None else Some w) l) ≡ false
repeat_stale dialect true w l e = refl
repeat_stale dialect false w l e = no_repeat (is_fresh dialect w) (bytes_eq l w.command) (is_answered dialect (more_of w l)) (answer_lines (answer_of dialect (more_of w l))) e

one_le : (b : Bool) → one_of b ≤ 1
one_le true = omega arith
one_le false = omega arith

stale_solicited : (dialect : Dialect) (w : Window) (l : List ℕ) (s : Seen) (b : Bool) → is_fresh dialect w ≡ b → (is_fresh dialect w ≡ false → is_repeat s ≡ false) → is_fresh dialect (more_of w l) ≡ false
    → one_of (not (is_fresh dialect w)) + one_of (is_repeat s) ≤ one_of (not (is_fresh dialect (more_of w l)))
stale_solicited dialect w l s true e h more = rw (e, more) (omega (arith, one_le (is_repeat s)))
stale_solicited dialect w l s false e h more = rw (h e, e, more) (omega arith)

stale_by : (dialect : Dialect) (k : Option UrcKind) (w : Window) (l : List ℕ) → dialect.kind_of l ≡ k
    → one_of (not (is_fresh dialect w)) + one_of (is_repeat (by_kind k (solicited_in dialect (open_of dialect (Some w)) l))) ≤ one_of (not (is_fresh dialect (more_of w l)))
stale_by dialect (Some k) w l e = omega (arith, stale_more dialect w l (is_fresh dialect w) refl)
stale_by dialect None w l e =
    stale_solicited dialect w l (solicited_in dialect (open_of dialect (Some w)) l) (is_fresh dialect w) refl (λ stale. repeat_stale dialect (is_answered dialect w) w l stale) (is_fresh-solicited dialect w.after l (rw e refl))

no_window : (k : Option UrcKind) → is_repeat (by_kind k Other) ≡ false
no_window None = refl
no_window (Some k) = refl

stale-line : (dialect : Dialect) (ws : List Window) (l : List ℕ) → stale_in dialect ws + one_of (is_repeat (seen_at dialect (last_or None ws) l)) ≤ stale_in dialect (all_more ws l)
stale-line dialect [] l = rw (no_window (dialect.kind_of l)) (omega arith)
stale-line dialect (w ∷ []) l = omega (arith, stale_by dialect (dialect.kind_of l) w l refl)
stale-line dialect (w ∷ v ∷ ws) l = omega (arith, stale_more dialect w l (is_fresh dialect w) refl, stale-line dialect (v ∷ ws) l)

stale-begun : (dialect : Dialect) (ws : List Window) (c : List ℕ) → stale_in dialect (ws ++ record { command = c; after = [] } ∷ []) ≡ stale_in dialect ws
stale-begun dialect [] c = refl
stale-begun dialect (w ∷ ws) c = ap (λ n. one_of (not (is_fresh dialect w)) + n) (stale-begun dialect ws c)

-- ## All marks

record GoesOn (dialect : Dialect) (past later : List Mark) : Type 0 where
  each : length (seen_from dialect past later) ≡ length (lines_of later)
  joined : joined_of dialect (windows (past ++ later)) ≡ joined_of dialect (windows past) ++ parts (lines_of later) (seen_from dialect past later)
  whole : whole_of dialect (map (answer_of dialect) (windows (past ++ later))) ≡ whole_of dialect (map (answer_of dialect) (windows past)) ++ filter_map done_lines (seen_from dialect past later)
  settled : Settled dialect (windows (past ++ later))
  echoes : stale_in dialect (windows past) + length (filter is_repeat (seen_from dialect past later)) ≤ stale_in dialect (windows (past ++ later))

length-filter_one : (s : Seen) (seen : List Seen) → length (filter is_repeat (s ∷ seen)) ≡ one_of (is_repeat s) + length (filter is_repeat seen)
length-filter_one s seen = at (is_repeat s)
  where
    at : (b : Bool) → length (if b then s ∷ filter is_repeat seen else filter is_repeat seen) ≡ one_of b + length (filter is_repeat seen)
    at true = omega arith
    at false = omega arith

parts-cons : (s : Seen) (l : List ℕ) (ls : List (List ℕ)) (seen : List Seen) → part_of s l ++ parts ls seen ≡ parts (l ∷ ls) (s ∷ seen)
parts-cons Echo l ls seen = refl
parts-cons Kept l ls seen = refl
parts-cons (Done a) l ls seen = refl
parts-cons (Unsolicited k) l ls seen = refl
parts-cons Other l ls seen = refl

given-cons : (s : Seen) (seen : List Seen) → given_of s ++ filter_map done_lines seen ≡ filter_map done_lines (s ∷ seen)
given-cons Echo seen = refl
given-cons Kept seen = refl
given-cons (Done a) seen = refl
given-cons (Unsolicited k) seen = refl
given-cons Other seen = refl

goes_on : (dialect : Dialect) (past later : List Mark) → IsInTurn dialect (past ++ later) → Settled dialect (windows past) → GoesOn dialect past later
goes_on dialect past [] turn s = record { each = refl; joined = rw append-nil (sym (append-nil (joined_of dialect (windows past)))); whole = rw append-nil (sym (append-nil (whole_of dialect (map (answer_of dialect) (windows past))))); settled = rw append-nil s; echoes = rw append-nil (omega arith) }
goes_on dialect past (Line l ∷ later) turn s =
    let next : List Mark = past ++ Line l ∷ [] in
    let same : next ++ later ≡ past ++ Line l ∷ later = append_assoc past (Line l ∷ []) later in
    let more : Settled dialect (windows next) = rw (windows-line past l) (settled_more dialect (windows past) l s) in
    let rest : GoesOn dialect next later = goes_on dialect next later (subst (IsInTurn dialect) (sym same) turn) more in
    let seen : List Seen = seen_from dialect next later in
    record {
      each = ap (λ n. suc n) rest.each;
      joined = rw (← same) (rest.joined ∙ rw (windows-line past l, joined-line dialect (windows past) l s) (append_assoc (joined_of dialect (windows past)) (part_of (seen_after dialect past l) l) (parts (lines_of later) seen)
          ∙ ap (λ (v : List (List ℕ)). joined_of dialect (windows past) ++ v) (parts-cons (seen_after dialect past l) l (lines_of later) seen)));
      whole = rw (← same) (rest.whole ∙ rw (windows-line past l, whole-line dialect (windows past) l s) (append_assoc (whole_of dialect (map (answer_of dialect) (windows past))) (given_of (seen_after dialect past l)) (filter_map done_lines seen)
          ∙ ap (λ (v : List (List AnswerLine)). whole_of dialect (map (answer_of dialect) (windows past)) ++ v) (given-cons (seen_after dialect past l) seen)));
      settled = rw (← same) rest.settled;
      echoes =
          let here : stale_in dialect (windows past) + one_of (is_repeat (seen_after dialect past l)) ≤ stale_in dialect (windows next) = rw (windows-line past l) (stale-line dialect (windows past) l) in
          rw (← same) (omega (arith, here, rest.echoes, length-filter_one (seen_after dialect past l) seen));
    }
goes_on dialect past (Begun c ∷ later) turn s =
    let next : List Mark = past ++ Begun c ∷ [] in
    let same : next ++ later ≡ past ++ Begun c ∷ later = append_assoc past (Begun c ∷ []) later in
    let more : Settled dialect (windows next) = rw (windows-begun past c) (settled_push dialect (windows past) (record { command = c; after = [] }) s (turn past later c refl)) in
    let rest : GoesOn dialect next later = goes_on dialect next later (subst (IsInTurn dialect) (sym same) turn) more in
    record {
      each = rest.each;
      joined = rw (← same) (rest.joined ∙ rw (windows-begun past c, joined-begun dialect (windows past) c) refl);
      whole = rw (← same) (rest.whole ∙ rw (windows-begun past c, whole-begun dialect (windows past) c) refl);
      settled = rw (← same) rest.settled;
      echoes =
          let here : stale_in dialect (windows next) ≡ stale_in dialect (windows past) = rw (windows-begun past c) (stale-begun dialect (windows past) c) in
          rw (← same) (omega (arith, here, rest.echoes));
    }

-- ## Each line is one thing

-- each line is counted once
once-of : (ls : List (List ℕ)) (seen : List Seen) → length seen ≡ length ls → length ls ≡ length (parts ls seen) + (length (filter is_repeat seen) + length (announced ls seen))
once-of [] [] e = refl
once-of [] (s ∷ seen) e = absurd (omega (arith, e))
once-of (l ∷ ls) [] e = absurd (omega (arith, e))
once-of (l ∷ ls) (Echo ∷ seen) e = omega (arith, once-of ls seen (omega (arith, e)))
once-of (l ∷ ls) (Kept ∷ seen) e = omega (arith, once-of ls seen (omega (arith, e)))
once-of (l ∷ ls) (Done a ∷ seen) e = omega (arith, once-of ls seen (omega (arith, e)))
once-of (l ∷ ls) (Unsolicited k ∷ seen) e = omega (arith, once-of ls seen (omega (arith, e)))
once-of (l ∷ ls) (Other ∷ seen) e = omega (arith, once-of ls seen (omega (arith, e)))

-- no line is Other by itself
is_of_kind-called : (k : UrcKind) (l : List ℕ) → is_called (Some k) ≡ true → is_of_kind (k, l) ≡ true
is_of_kind-called Uncalled l e = cc
is_of_kind-called k l e = refl

is_of_kind-unsolicited : (dialect : Dialect) (k : UrcKind) (l : List ℕ) → dialect.kind_of l ≡ Some k → is_of_kind (k, l) ≡ true
is_of_kind-unsolicited dialect k l h = is_of_kind-called k l (subst (λ (kind : Option UrcKind). is_called kind ≡ true) h (dialect.never_other l))

abbrev of_kinds_in : List (List ℕ) → List Seen → List (UrcKind × List ℕ)
of_kinds_in ls seen = filter is_of_kind (announced ls seen)

-- a line that isn't unsolicited is announced as no kind but Other
no_kind : (dialect : Dialect) (l : List ℕ) (ls : List (List ℕ)) (seen : List Seen) (o : Option Window) → of_kinds_in (l ∷ ls) (solicited_in dialect o l ∷ seen) ≡ of_kinds_in ls seen
no_kind dialect l ls seen None = refl
no_kind dialect l ls seen (Some w) = at (is_fresh dialect w && bytes_eq l w.command) (is_answered dialect (more_of w l))
  where
    at : (e d : Bool) → of_kinds_in (l ∷ ls) ((if e then Echo else (if d then Done (answer_lines (answer_of dialect (more_of w l))) else Kept)) ∷ seen) ≡ of_kinds_in ls seen
    at true d = refl
    at false true = refl
    at false false = refl

of_kinds-line : (dialect : Dialect) (k : Option UrcKind) (l : List ℕ) (ls : List (List ℕ)) (seen : List Seen) (o : Option Window) → dialect.kind_of l ≡ k → of_kinds_in ls seen ≡ unsolicited_in dialect ls
    → of_kinds_in (l ∷ ls) (by_kind k (solicited_in dialect o l) ∷ seen) ≡ unsolicited_in dialect (l ∷ ls)
of_kinds-line dialect None l ls seen o e rest = rw e (no_kind dialect l ls seen o ∙ rest)
of_kinds-line dialect (Some k) l ls seen o e rest = rw (e, is_of_kind-unsolicited dialect k l e) (ap (λ (v : List (UrcKind × List ℕ)). (k, l) ∷ v) rest)

of_kinds-from : (dialect : Dialect) (past later : List Mark) → of_kinds_in (lines_of later) (seen_from dialect past later) ≡ unsolicited_in dialect (lines_of later)
of_kinds-from dialect past [] = refl
of_kinds-from dialect past (Line l ∷ later) =
    of_kinds-line dialect (dialect.kind_of l) l (lines_of later) (seen_from dialect (past ++ Line l ∷ []) later) (open_window dialect past) refl (of_kinds-from dialect (past ++ Line l ∷ []) later)
of_kinds-from dialect past (Begun c ∷ later) = of_kinds-from dialect (past ++ Begun c ∷ []) later

-- where each command begins with no window open, no line is lost or counted twice
pub none_lost : (dialect : Dialect) (ms : List Mark) → IsInTurn dialect ms → NoneLost dialect ms
none_lost dialect ms turn =
    let all : GoesOn dialect [] ms = goes_on dialect [] ms turn tt in
    record {
      each = all.each;
      once = once-of (lines_of ms) (seen_in dialect ms) all.each;
      joined = sym all.joined;
      whole = sym all.whole;
      in_order = in_order_of dialect (windows ms) all.settled;
      echoes = omega (arith, all.echoes, stale_in-le dialect (windows ms));
      of_kinds = of_kinds-from dialect [] ms;
    }
