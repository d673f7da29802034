-- The prompt that is found octet by octet is the first at the end of whose octets the unfinished line is `>` and a blank.
use Rattle.std.specs.Prelude.{◌≡◌, ◌⊎◌, ℕ, ◌+◌, ◌-◌, ◌<◌, ◌==◌, ◌&&◌, Bool, true, false, List, [], ◌∷◌, ◌++◌, drop, take, length, slice_index_or, refl, if◌then◌else◌}
use Rattle.std.specs.List.{list_any}
use Rattle.std.specs.Str.{bytes_eq}
use Rattle.std.proofs.Common.{ap, sym, ◌∙◌, subst, arith, inl, inr, add-one, drop-cons, drop-drop}
use Rattle.std.proofs.lemmas.Bool.{eqb-true}
use Rattle.std.proofs.lemmas.List.{append_assoc, append-nil, length-drop, take_all}
use Rattle.at_text.specs.Lines.{is_line_end, unfinished, cut, kept_run}
use Rattle.at_text.proofs.lines.UnfinishedLines.{reads_on as reads_lines_on, unfinished-behind, has_end-take, has_end-unfinished}
use Rattle.modem_data.specs.Prompts.{may_prompt, is_mark, before_prompt, behind_prompt, prompts, NeverPrompts, IsUnprompted, IsPrompted, IsPromptSplit}
use Rattle.modem_data.specs.Switching.{Carries, Idle, Prompts, Marked, Sends, Owes, Owns, lines_of, data_of, marked, carries_prompt, carries_after, has_prompt}
use Rattle.modem_data.specs.Splits.{ReadsOn, IsPromptCut}

-- ## The unfinished line, an octet later

abbrev next_run : Bool → List ℕ → ℕ → List ℕ
next_run b k c = if b then [] else cut (k ++ c ∷ [])

run_behind : (b : Bool) (k : List ℕ) (c : ℕ) → list_any is_line_end k ≡ false → is_line_end c ≡ b → kept_run (k ++ c ∷ []) ≡ next_run b k c
run_behind true k c none e = rw (unfinished-behind k (c ∷ []) none) (rw e refl)
run_behind false k c none e = rw (unfinished-behind k (c ∷ []) none) (rw e refl)

run_on : (p : List ℕ) (c : ℕ) → kept_run (p ++ c ∷ []) ≡ next_run (is_line_end c) (kept_run p) c
run_on p c = (reads_lines_on p (c ∷ [])).keeps ∙ run_behind (is_line_end c) (kept_run p) c (has_end-take 512 (unfinished p) (has_end-unfinished p)) refl

-- ## Beginnings of a text

record Is (p x : List ℕ) : Type 0 where
  rest : List ℕ
  joins : p ≡ x ++ rest

abbrev first : List ℕ → ℕ
first [] = 0
first (c ∷ text) = c

none_left : (x y : List ℕ) → [] ≡ x ++ y → x ≡ []
none_left [] y e = refl
none_left (c ∷ x) y e = cc

last_split : (p x y : List ℕ) (c : ℕ) → p ++ c ∷ [] ≡ x ++ y → (x ≡ p ++ c ∷ []) ⊎ Is p x
last_split p [] y c e = inr (record { rest = p; joins = refl })
last_split [] (a ∷ x) y c e = inl (rw (none_left x y (ap (λ (t : List ℕ). drop 1 t) e)) (ap (λ b. b ∷ []) (sym (ap first e))))
last_split (b ∷ p) (a ∷ x) y c e = at (last_split p x y c (ap (λ (t : List ℕ). drop 1 t) e))
  where
    same : b ≡ a
    same = ap first e

    at : (x ≡ p ++ c ∷ []) ⊎ Is p x → (a ∷ x ≡ b ∷ p ++ c ∷ []) ⊎ Is (b ∷ p) (a ∷ x)
    at (inl q) = inl (rw (q, same) refl)
    at (inr i) = inr (record { rest = i.rest; joins = rw same (ap (λ (t : List ℕ). a ∷ t) i.joins) })

never_more : (p : List ℕ) (c : ℕ) → NeverPrompts p → prompts (p ++ c ∷ []) ≡ false → NeverPrompts (p ++ c ∷ [])
unfolding NeverPrompts
never_more p c none here x y e = at (last_split p x y c e)
  where
    at : (x ≡ p ++ c ∷ []) ⊎ Is p x → prompts x ≡ false
    at (inl q) = subst (λ (t : List ℕ). prompts t ≡ false) (sym q) here
    at (inr i) = none x i.rest i.joins

-- ## Where it stands

-- the run isn't empty, isn't the prompt, and doesn't become one by what comes
abbrev GoesOn : List ℕ → List ℕ → Type 0
GoesOn [] text = ⊥
GoesOn (a ∷ []) text = (a == 62) ≡ true → may_prompt text ≡ false
GoesOn (a ∷ b ∷ run) text = bytes_eq (a ∷ b ∷ run) (62 ∷ 32 ∷ []) ≡ false

abbrev StandsAt : List ℕ → Bool → List ℕ → Type 0
StandsAt run true text = run ≡ []
StandsAt run false text = GoesOn run text

-- what an octet makes of the run
record Steps (run : List ℕ) (starts : Bool) (text : List ℕ) : Type 0 where
  stands : StandsAt run starts text
  none : bytes_eq run (62 ∷ 32 ∷ []) ≡ false

and_false : (b : Bool) → b && false ≡ false
and_false true = refl
and_false false = refl

longer : (a b c : ℕ) (run : List ℕ) → bytes_eq (cut ((a ∷ b ∷ run) ++ c ∷ [])) (62 ∷ 32 ∷ []) ≡ false
longer a b c [] = at (a == 62) (b == 32)
  where
    at : (x y : Bool) → x && (y && false) ≡ false
    at true true = refl
    at true false = refl
    at false y = refl
longer a b c (d ∷ run) = at (a == 62) (b == 32)
  where
    at : (x y : Bool) → x && (y && false) ≡ false
    at true true = refl
    at true false = refl
    at false y = refl

two : (a c : ℕ) → ((a == 62) ≡ true → (c == 32) ≡ false) → bytes_eq (a ∷ c ∷ []) (62 ∷ 32 ∷ []) ≡ false
two a c off = at (a == 62) refl
  where
    at : (x : Bool) → (a == 62) ≡ x → x && ((c == 32) && true) ≡ false
    at true e = rw (off e) refl
    at false e = refl

-- at the beginning of a line; elsewhere
from_start : (c : ℕ) (text : List ℕ) → (c == 62) && may_prompt text ≡ false → Steps (c ∷ []) false text
from_start c text off = record { stands = λ e. subst (λ b. b && may_prompt text ≡ false) e off; none = and_false (c == 62) }

from_run : (k : List ℕ) (c : ℕ) (text : List ℕ) → GoesOn k (c ∷ text) → Steps (cut (k ++ c ∷ [])) false text
from_run [] c text g = absurd g
from_run (a ∷ []) c text g = record { stands = two a c g; none = two a c g }
from_run (a ∷ b ∷ []) c text g = record { stands = longer a b c []; none = longer a b c [] }
from_run (a ∷ b ∷ d ∷ run) c text g = record { stands = longer a b c (d ∷ run); none = longer a b c (d ∷ run) }

one_step : (k : List ℕ) (starts : Bool) (c : ℕ) (text : List ℕ) (b : Bool) → StandsAt k starts (c ∷ text) → is_mark starts c text ≡ false → Steps (next_run b k c) b text
one_step k starts c text true s off = record { stands = refl; none = refl }
one_step k true c text false s off = rw s (from_start c text off)
one_step k false c text false s off = from_run k c text s

step : (p : List ℕ) (starts : Bool) (c : ℕ) (text : List ℕ) → StandsAt (kept_run p) starts (c ∷ text) → is_mark starts c text ≡ false → Steps (kept_run (p ++ c ∷ [])) (is_line_end c) text
step p starts c text s off = subst (λ (k : List ℕ). Steps k (is_line_end c) text) (sym (run_on p c)) (one_step (kept_run p) starts c text (is_line_end c) s off)

-- ## The whole

abbrev lines_from_here : Bool → List ℕ → List ℕ
lines_from_here starts text = before_prompt starts text ++ behind_prompt starts text

no_mark : (k : List ℕ) (starts : Bool) → StandsAt k starts [] → bytes_eq k (62 ∷ []) ≡ false
no_mark k true s = rw s refl
no_mark [] false s = absurd s
no_mark (a ∷ []) false s = at (a == 62) refl
  where
    at : (x : Bool) → (a == 62) ≡ x → x && true ≡ false
    at true e = let x : true ≡ false = s e in cc
    at false e = refl
no_mark (a ∷ b ∷ run) false s = and_false (a == 62)

the_end : (p : List ℕ) (starts : Bool) → StandsAt (kept_run p) starts [] → NeverPrompts p → IsUnprompted (p ++ []) (p ++ [])
the_end p starts s none = rw (append-nil p) (record { none = none; all = rw (no_mark (kept_run p) starts s) (sym (append-nil p)) })

-- a `>` that begins a line is there
record IsMark (starts : Bool) (c : ℕ) (text : List ℕ) : Type 0 where
  begins : starts ≡ true
  octet : c ≡ 62
  may : may_prompt text ≡ true

mark_there : (starts : Bool) (c : ℕ) (text : List ℕ) → is_mark starts c text ≡ true → IsMark starts c text
mark_there false c text e = cc
mark_there true c text e = at (c == 62) refl e
  where
    at : (x : Bool) → (c == 62) ≡ x → x && may_prompt text ≡ true → IsMark true c text
    at true q m = record { begins = refl; octet = eqb-true c 62 q; may = m }
    at false q m = cc

run_marked : (p : List ℕ) → kept_run p ≡ [] → kept_run (p ++ 62 ∷ []) ≡ 62 ∷ []
run_marked p e = run_on p 62 ∙ rw e refl

run_prompted : (p : List ℕ) → kept_run p ≡ [] → kept_run (p ++ (62 ∷ 32 ∷ [])) ≡ 62 ∷ 32 ∷ []
run_prompted p e = ap kept_run (sym (append_assoc p (62 ∷ []) (32 ∷ []))) ∙ (run_on (p ++ 62 ∷ []) 32 ∙ rw (run_marked p e) refl)

held_back : (p : List ℕ) → kept_run p ≡ [] → NeverPrompts p → IsUnprompted (p ++ 62 ∷ []) (p ++ [])
held_back p e none = record {
  none = never_more p 62 none (rw (run_marked p e) refl);
  all = rw (run_marked p e) (ap (λ t. t ++ 62 ∷ []) (sym (append-nil p)));
}

found : (p text : List ℕ) → kept_run p ≡ [] → NeverPrompts p → IsPrompted (p ++ (62 ∷ 32 ∷ text)) (p ++ text)
found p text e none = record {
  before = p;
  behind = text;
  joins = refl;
  here = rw (run_prompted p e) refl;
  none_before = never_more p 62 none (rw (run_marked p e) refl);
  lines_are = refl;
}

at_mark : (p text : List ℕ) → kept_run p ≡ [] → NeverPrompts p → may_prompt text ≡ true → IsPromptSplit (p ++ 62 ∷ text) (p ++ drop 1 text) (has_prompt (marked text))
at_mark p [] e none may = held_back p e none
at_mark p (d ∷ text) e none may = subst (λ c. IsPrompted (p ++ (62 ∷ c ∷ text)) (p ++ text)) (sym (eqb-true d 32 may)) (found p text e none)

by_mark : (p : List ℕ) (starts : Bool) (c : ℕ) (text : List ℕ) → StandsAt (kept_run p) starts (c ∷ text) → NeverPrompts p → IsMark starts c text → IsPromptSplit (p ++ c ∷ text) (p ++ drop 1 text) (has_prompt (marked text))
by_mark p true c text s none m = subst (λ o. IsPromptSplit (p ++ o ∷ text) (p ++ drop 1 text) (has_prompt (marked text))) (sym m.octet) (at_mark p text s none m.may)
by_mark p false c text s none m = let x : false ≡ true = m.begins in cc

-- one octet on
cut_at : (p : List ℕ) (starts : Bool) (c : ℕ) (text : List ℕ) (b : Bool) → is_mark starts c text ≡ b → StandsAt (kept_run p) starts (c ∷ text) → NeverPrompts p → (b ≡ false → IsPromptSplit (p ++ c ∷ [] ++ text) (p ++ c ∷ [] ++ lines_from_here (is_line_end c) text) (has_prompt (carries_prompt (is_line_end c) text))) → IsPromptSplit (p ++ c ∷ text) (p ++ ((if b then [] else c ∷ before_prompt (is_line_end c) text) ++ (if b then drop 1 text else behind_prompt (is_line_end c) text))) (has_prompt (if b then marked text else carries_prompt (is_line_end c) text))
cut_at p starts c text true m s none on = by_mark p starts c text s none (mark_there starts c text m)
cut_at p starts c text false m s none on =
    let e = is_line_end c in
    subst (λ t. IsPromptSplit t (p ++ c ∷ lines_from_here e text) (has_prompt (carries_prompt e text))) (append_assoc p (c ∷ []) text)
    (subst (λ t. IsPromptSplit (p ++ c ∷ [] ++ text) t (has_prompt (carries_prompt e text))) (append_assoc p (c ∷ []) (lines_from_here e text)) (on refl))

-- behind a text without a prompt
cut_from : (p : List ℕ) (starts : Bool) (text : List ℕ) → StandsAt (kept_run p) starts text → NeverPrompts p → IsPromptSplit (p ++ text) (p ++ lines_from_here starts text) (has_prompt (carries_prompt starts text))
cut_from p starts [] s none = the_end p starts s none
cut_from p starts (c ∷ text) s none =
    cut_at p starts c text (is_mark starts c text) refl s none
    (λ m. let k = step p starts c text s m in cut_from (p ++ c ∷ []) (is_line_end c) text k.stands (never_more p c none k.none))

none_yet : NeverPrompts []
unfolding NeverPrompts
none_yet x y e = rw (none_left x y e) refl

-- any text is split at its first prompt, and none of it is data
pub prompt_cut : (text : List ℕ) → IsPromptCut text
prompt_cut text = record { is_split = cut_from [] true text refl none_yet; no_data = refl }

-- ## Cuts

lines_marked : (y : List ℕ) (b : Bool) → may_prompt y ≡ b → lines_from_here true (62 ∷ y) ≡ lines_of Marked y
lines_marked y true e = rw e refl
lines_marked y false e = rw e refl

-- the last octet before a cut
lines_at_cut : (starts : Bool) (c : ℕ) (y : List ℕ) (b : Bool) → (c == 62) ≡ b → lines_from_here starts (c ∷ y) ≡ lines_from_here starts (c ∷ []) ++ lines_of (carries_prompt starts (c ∷ [])) y
lines_at_cut false c y b e = refl
lines_at_cut true c y false e = rw e refl
lines_at_cut true c y true e = rw (eqb-true c 62 e) (lines_marked y (may_prompt y) refl)

stands_at_cut : (starts : Bool) (c : ℕ) (y : List ℕ) (b : Bool) → (c == 62) ≡ b → carries_prompt starts (c ∷ y) ≡ carries_after (carries_prompt starts (c ∷ [])) y
stands_at_cut false c y b e = refl
stands_at_cut true c y false e = rw e refl
stands_at_cut true c y true e = rw (eqb-true c 62 e) refl

lines_inside : (starts : Bool) (c d : ℕ) (x y : List ℕ) (b : Bool) → is_mark starts c (d ∷ x) ≡ b → lines_from_here (is_line_end c) (d ∷ x ++ y) ≡ lines_from_here (is_line_end c) (d ∷ x) ++ lines_of (carries_prompt (is_line_end c) (d ∷ x)) y → lines_from_here starts (c ∷ d ∷ x ++ y) ≡ lines_from_here starts (c ∷ d ∷ x) ++ lines_of (carries_prompt starts (c ∷ d ∷ x)) y
lines_inside starts c d x y true e more = rw e (ap (λ t. x ++ t) (sym (append-nil y)))
lines_inside starts c d x y false e more = rw e (ap (λ t. c ∷ t) more)

-- where a lane waits for a prompt, text read on has the lines of text read at once
pub prompt_lines_on : (starts : Bool) (x y : List ℕ) → lines_from_here starts (x ++ y) ≡ lines_from_here starts x ++ lines_of (carries_prompt starts x) y
prompt_lines_on starts [] y = refl
prompt_lines_on starts (c ∷ []) y = lines_at_cut starts c y (c == 62) refl
prompt_lines_on starts (c ∷ d ∷ x) y = lines_inside starts c d x y (is_mark starts c (d ∷ x)) refl (prompt_lines_on (is_line_end c) (d ∷ x) y)

stands_inside : (starts : Bool) (c d : ℕ) (x y : List ℕ) (b : Bool) → is_mark starts c (d ∷ x) ≡ b → carries_prompt (is_line_end c) (d ∷ x ++ y) ≡ carries_after (carries_prompt (is_line_end c) (d ∷ x)) y → carries_prompt starts (c ∷ d ∷ x ++ y) ≡ carries_after (carries_prompt starts (c ∷ d ∷ x)) y
stands_inside starts c d x y true e more = rw e refl
stands_inside starts c d x y false e more = rw e more

-- and leaves the lane standing alike
pub prompt_stands_on : (starts : Bool) (x y : List ℕ) → carries_prompt starts (x ++ y) ≡ carries_after (carries_prompt starts x) y
prompt_stands_on starts [] y = refl
prompt_stands_on starts (c ∷ []) y = stands_at_cut starts c y (c == 62) refl
prompt_stands_on starts (c ∷ d ∷ x) y = stands_inside starts c d x y (is_mark starts c (d ∷ x)) refl (prompt_stands_on (is_line_end c) (d ∷ x) y)

-- nothing is data, before a prompt and behind it
no_data_marked : (x y : List ℕ) → data_of (marked x) y ≡ []
no_data_marked [] y = refl
no_data_marked (c ∷ x) y = refl

-- what comes behind some octets of a lane by prompt is no data
pub no_data_by_prompt : (starts : Bool) (x y : List ℕ) → data_of (carries_prompt starts x) y ≡ []
no_data_by_prompt starts [] y = refl
no_data_by_prompt starts (c ∷ x) y = at (is_mark starts c x) (no_data_by_prompt (is_line_end c) x y)
  where
    at : (b : Bool) → data_of (carries_prompt (is_line_end c) x) y ≡ [] → data_of (if b then marked x else carries_prompt (is_line_end c) x) y ≡ []
    at true h = no_data_marked x y
    at false h = h

-- behind a `>` that is held back
marked_lines : (c : ℕ) (x y : List ℕ) (b : Bool) → (c == 32) ≡ b → lines_of Marked (c ∷ x ++ y) ≡ lines_of Marked (c ∷ x) ++ lines_of (carries_after Marked (c ∷ x)) y
marked_lines c x y true e = rw e (ap (λ t. x ++ t) (sym (append-nil y)))
marked_lines c x y false e = rw e (ap (λ t. 62 ∷ t) (prompt_lines_on false (c ∷ x) y))

marked_stands : (c : ℕ) (x y : List ℕ) (b : Bool) → (c == 32) ≡ b → carries_after Marked (c ∷ x ++ y) ≡ carries_after (carries_after Marked (c ∷ x)) y
marked_stands c x y true e = rw e refl
marked_stands c x y false e = rw e (prompt_stands_on false (c ∷ x) y)

marked_data : (c : ℕ) (x y : List ℕ) (b : Bool) → (c == 32) ≡ b → [] ≡ data_of (carries_after Marked (c ∷ x)) y
marked_data c x y true e = rw e refl
marked_data c x y false e = rw e (sym (no_data_by_prompt false (c ∷ x) y))

-- behind a held `>` text read on is as text read at once
pub marked_on : (x y : List ℕ) → ReadsOn Marked x y
marked_on [] y = record { lines_go_on = refl; data_goes_on = refl; stands = refl }
marked_on (c ∷ x) y = record {
  lines_go_on = marked_lines c x y (c == 32) refl;
  data_goes_on = marked_data c x y (c == 32) refl;
  stands = marked_stands c x y (c == 32) refl;
}

both_whole : (x y : List ℕ) → (x ++ y) ++ [] ≡ (x ++ []) ++ (y ++ [])
both_whole x y = append-nil (x ++ y) ∙ (ap (λ t. x ++ t) (sym (append-nil y)) ∙ ap (λ t. t ++ (y ++ [])) (sym (append-nil x)))

-- so it is behind a prompt, and where there is no lane
pub whole_on : (m : Carries) (x y : List ℕ) → (m ≡ Sends) ⊎ (m ≡ Idle) → ReadsOn m x y
whole_on m x y (inl e) = rw e (record { lines_go_on = both_whole x y; data_goes_on = refl; stands = refl })
whole_on m x y (inr e) = rw e (record { lines_go_on = both_whole x y; data_goes_on = refl; stands = refl })

-- where the lane waits for a CONNECT line of the driver's own
pub owns_on : (kept x y : List ℕ) → ReadsOn (Owns kept) x y
owns_on kept x y = record { lines_go_on = both_whole x y; data_goes_on = refl; stands = refl }

-- where a held `>` is owed
pub owes_on : (x y : List ℕ) → ReadsOn Owes x y
owes_on [] y = record { lines_go_on = refl; data_goes_on = refl; stands = refl }
owes_on (c ∷ x) y = record { lines_go_on = ap (λ t. 62 ∷ t) (both_whole (c ∷ x) y); data_goes_on = refl; stands = refl }

-- and where the lane waits for a prompt
pub prompts_on : (starts : Bool) (x y : List ℕ) → ReadsOn (Prompts starts) x y
prompts_on starts x y = record { lines_go_on = prompt_lines_on starts x y; data_goes_on = sym (no_data_by_prompt starts x y); stands = prompt_stands_on starts x y }

-- ## A `>` that is found

twice_on : (octets : List ℕ) (place : ℕ) → drop 1 (drop (place + 1) octets) ≡ drop (place + 2) octets
twice_on octets place = drop-drop 1 (place + 1) octets ∙ ap (λ n. drop n octets) (let e : (place + 1) + 1 ≡ place + 2 = omega arith in e)

at_place : (octets : List ℕ) (place x : ℕ) → place < length octets → drop place octets ≡ slice_index_or octets place x ∷ drop (place + 1) octets
at_place octets place x there = rw add-one (drop-cons octets place x there)

-- what is left behind some octets is all of it, as counted
pub rest_all : (octets : List ℕ) (n : ℕ) → take (length octets - n) (drop n octets) ≡ drop n octets
rest_all octets n = let long = length-drop n octets in take_all (length octets - n) (drop n octets) (omega (arith, long))

-- the prompt's `>` stands here: what is behind it are the lines behind the prompt, and the lane stands so
pub found_here : (was starts : Bool) (octets : List ℕ) (place x : ℕ) → place < length octets → starts ≡ true → (slice_index_or octets place x == 62) ≡ true → may_prompt (drop (place + 1) octets) ≡ true → behind_prompt was octets ≡ behind_prompt starts (drop place octets) → carries_prompt was octets ≡ carries_prompt starts (drop place octets) → (behind_prompt was octets ≡ drop (place + 2) octets) × (carries_prompt was octets ≡ marked (drop (place + 1) octets))
found_here was starts octets place x there begins octet may behind stands =
    let at = at_place octets place x there in
    let mark : is_mark starts (slice_index_or octets place x) (drop (place + 1) octets) ≡ true = rw (begins, octet, may) refl in (
      behind ∙ (ap (behind_prompt starts) at ∙ rw mark (twice_on octets place)),
      stands ∙ (ap (carries_prompt starts) at ∙ rw mark refl),
    )
