-- Text is split alike however it is cut, and behind the end of its first CONNECT line.
use Rattle.std.specs.Prelude.{◌≡◌, ℕ, ◌==◌, ◌&&◌, Bool, true, false, List, [], ◌∷◌, ◌++◌, refl, if◌then◌else◌}
use Rattle.std.specs.List.{list_any}
use Rattle.std.proofs.Common.{ap, sym, ◌∙◌, subst, inl, inr}
use Rattle.std.proofs.lemmas.List.{append_assoc, append-nil}
use Rattle.std.proofs.lemmas.List.Folds.{list_any-append}
use Rattle.at_text.specs.Lines.{lines, kept_run}
use Rattle.at_text.proofs.lines.UnfinishedLines.{reads_on as reads_lines_on}
use Rattle.modem_data.specs.Switching.{Carries, Idle, Lines, Ended, Data, Prompts, Marked, Sends, Owes, Owns, Answered, answered, as_own, carries_sent, is_behind_lines, is_connect, connects, lines_from, lines_of, data_from, data_of, behind, behind_end, carries_from, carries_after, IsGap, no_gap, its_lf, IsSplit}
use Rattle.modem_data.specs.Splits.{ReadsOn, AreSplit, IsOwnSwitch, SendsOn}
use Rattle.modem_data.proofs.Prompting.{marked_on, owes_on, owns_on, prompts_on, whole_on}

-- ## Cuts

no_lines : (by : ℕ) (x y : List ℕ) → [] ≡ lines_of (behind by x) y
no_lines by [] y = refl
no_lines by (c ∷ x) y = refl

lines_on : (kept x y : List ℕ) → lines_from kept (x ++ y) ≡ lines_from kept x ++ lines_of (carries_from kept x) y
lines_on kept [] y = sym (append-nil (lines_from kept y))
lines_on kept (c ∷ x) y = at (connects kept c) (lines_on (kept_run (kept ++ c ∷ [])) x y)
  where
    at : (b : Bool) → lines_from (kept_run (kept ++ c ∷ [])) (x ++ y) ≡ lines_from (kept_run (kept ++ c ∷ [])) x ++ lines_of (carries_from (kept_run (kept ++ c ∷ [])) x) y → (if b then c ∷ [] else c ∷ lines_from (kept_run (kept ++ c ∷ [])) (x ++ y)) ≡ (if b then c ∷ [] else c ∷ lines_from (kept_run (kept ++ c ∷ [])) x) ++ lines_of (if b then behind c x else carries_from (kept_run (kept ++ c ∷ [])) x) y
    at true h = ap (λ r. c ∷ r) (no_lines c x y)
    at false h = ap (λ r. c ∷ r) h

gap_on : (by c : ℕ) (x y : List ℕ) (b : Bool) → (if b then x ++ y else c ∷ x ++ y) ≡ (if b then x else c ∷ x) ++ y
gap_on by c x y true = refl
gap_on by c x y false = refl

ended_on : (by : ℕ) (x y : List ℕ) → behind_end by (x ++ y) ≡ behind_end by x ++ data_of (behind by x) y
ended_on by [] y = refl
ended_on by (c ∷ x) y = gap_on by c x y ((by == 13) && (c == 10))

data_on : (kept x y : List ℕ) → data_from kept (x ++ y) ≡ data_from kept x ++ data_of (carries_from kept x) y
data_on kept [] y = refl
data_on kept (c ∷ x) y = at (connects kept c) (data_on (kept_run (kept ++ c ∷ [])) x y)
  where
    at : (b : Bool) → data_from (kept_run (kept ++ c ∷ [])) (x ++ y) ≡ data_from (kept_run (kept ++ c ∷ [])) x ++ data_of (carries_from (kept_run (kept ++ c ∷ [])) x) y → (if b then behind_end c (x ++ y) else data_from (kept_run (kept ++ c ∷ [])) (x ++ y)) ≡ (if b then behind_end c x else data_from (kept_run (kept ++ c ∷ [])) x) ++ data_of (if b then behind c x else carries_from (kept_run (kept ++ c ∷ [])) x) y
    at true h = ended_on c x y
    at false h = h

behind_on : (by : ℕ) (x y : List ℕ) → behind by (x ++ y) ≡ carries_after (behind by x) y
behind_on by [] y = refl
behind_on by (c ∷ x) y = refl

stands_on : (kept x y : List ℕ) → carries_from kept (x ++ y) ≡ carries_after (carries_from kept x) y
stands_on kept [] y = refl
stands_on kept (c ∷ x) y = at (connects kept c) (stands_on (kept_run (kept ++ c ∷ [])) x y)
  where
    at : (b : Bool) → carries_from (kept_run (kept ++ c ∷ [])) (x ++ y) ≡ carries_after (carries_from (kept_run (kept ++ c ∷ [])) x) y → (if b then behind c (x ++ y) else carries_from (kept_run (kept ++ c ∷ [])) (x ++ y)) ≡ carries_after (if b then behind c x else carries_from (kept_run (kept ++ c ∷ [])) x) y
    at true h = behind_on c x y
    at false h = h

all_lines : (kept x y : List ℕ) → lines_from kept (x ++ y) ++ [] ≡ (lines_from kept x ++ []) ++ lines_of (carries_from kept x) y
all_lines kept x y = append-nil (lines_from kept (x ++ y)) ∙ (lines_on kept x y ∙ ap (λ t. t ++ lines_of (carries_from kept x) y) (sym (append-nil (lines_from kept x))))

-- however text is cut, its lines and its data are those of the whole
pub reads_on : (m : Carries) (x y : List ℕ) → ReadsOn m x y
reads_on Idle x y = whole_on Idle x y (inr refl)
reads_on (Lines kept) x y = record { lines_go_on = all_lines kept x y; data_goes_on = data_on kept x y; stands = stands_on kept x y }
reads_on (Ended by) x y = record { lines_go_on = no_lines by x y; data_goes_on = ended_on by x y; stands = behind_on by x y }
reads_on Data x y = record { lines_go_on = refl; data_goes_on = refl; stands = refl }
reads_on (Prompts starts) x y = prompts_on starts x y
reads_on Marked x y = marked_on x y
reads_on Sends x y = whole_on Sends x y (inl refl)
reads_on Owes x y = owes_on x y
reads_on (Owns kept) x y = owns_on kept x y
reads_on Answered x y = record { lines_go_on = refl; data_goes_on = refl; stands = refl }

-- ## What the driver writes

own_ended : (b : Bool) (y : List ℕ) → carries_sent (if b then Answered else Data) y ≡ (if b then answered y else Data)
own_ended true y = refl
own_ended false y = refl

still_data : (b : Bool) → Data ≡ (if b then Data else Data)
still_data true = refl
still_data false = refl

own_behind : (by : ℕ) (x y : List ℕ) → as_own (behind by (x ++ y)) ≡ carries_sent (as_own (behind by x)) y
own_behind by [] [] = sym (own_ended (by == 13) [])
own_behind by [] (c ∷ y) = still_data (by == 13) ∙ sym (own_ended (by == 13) (c ∷ y))
own_behind by (c ∷ x) y = refl

own_on : (kept x y : List ℕ) → as_own (carries_from kept (x ++ y)) ≡ carries_sent (as_own (carries_from kept x)) y
own_on kept [] y = refl
own_on kept (c ∷ x) y = at (connects kept c) (own_on (kept_run (kept ++ c ∷ [])) x y)
  where
    at : (b : Bool) → as_own (carries_from (kept_run (kept ++ c ∷ [])) (x ++ y)) ≡ carries_sent (as_own (carries_from (kept_run (kept ++ c ∷ [])) x)) y → as_own (if b then behind c (x ++ y) else carries_from (kept_run (kept ++ c ∷ [])) (x ++ y)) ≡ carries_sent (as_own (if b then behind c x else carries_from (kept_run (kept ++ c ∷ [])) x)) y
    at true h = own_behind c x y
    at false h = h

answered_on : (x y : List ℕ) → answered (x ++ y) ≡ carries_sent (answered x) y
answered_on [] y = refl
answered_on (c ∷ x) y = refl

-- and what the driver writes is as written at once
pub sends_on : (m : Carries) (x y : List ℕ) → SendsOn m x y
sends_on Idle x y = refl
sends_on (Lines kept) x y = refl
sends_on (Ended by) x y = refl
sends_on Data x y = refl
sends_on (Prompts starts) x y = refl
sends_on Marked x y = refl
sends_on Sends x y = refl
sends_on Owes x y = refl
sends_on (Owns kept) x y = own_on kept x y
sends_on Answered x y = answered_on x y

-- ## The whole

-- an octet that ends no CONNECT line behind the text, or ends one
said : (p : List ℕ) (c : ℕ) → list_any is_connect (lines p) ≡ false → list_any is_connect (lines (p ++ c ∷ [])) ≡ connects (kept_run p) c
said p c none = ap (list_any is_connect) (reads_lines_on p (c ∷ [])).reads_kept ∙ list_any-append is_connect (lines p) (lines (kept_run p ++ c ∷ [])) ∙ rw none refl

-- what is left behind the line's end, and the gap before it
pub record HasGap (by : ℕ) (text : List ℕ) : Type 0 where
  pub gap : List ℕ
  pub joins : text ≡ gap ++ behind_end by text
  pub is_gap : IsGap by gap (behind_end by text)

none_zero : (b : Bool) → (b && false) ≡ false
none_zero true = refl
none_zero false = refl

has_gap : (by : ℕ) (text : List ℕ) → HasGap by text
has_gap by [] = record { gap = []; joins = refl; is_gap = no_gap by [] (none_zero (by == 13)) }
has_gap by (c ∷ text) = at ((by == 13) && (c == 10)) refl
  where
    at : (b : Bool) → ((by == 13) && (c == 10)) ≡ b → HasGap by (c ∷ text)
    at true e = record { gap = c ∷ []; joins = rw e refl; is_gap = rw e (its_lf by c text e) }
    at false e = record { gap = []; joins = rw e refl; is_gap = rw e (no_gap by (c ∷ text) e) }

there : (p kept : List ℕ) (c : ℕ) → list_any is_connect (lines p) ≡ false → kept ≡ kept_run p → list_any is_connect (lines (p ++ c ∷ [])) ≡ connects kept c
there p kept c none e = said p c none ∙ ap (λ k. connects k c) (sym e)

later : (p kept : List ℕ) (c : ℕ) → kept ≡ kept_run p → kept_run (kept ++ c ∷ []) ≡ kept_run (p ++ c ∷ [])
later p kept c e = ap (λ k. kept_run (k ++ c ∷ [])) e ∙ sym (reads_lines_on p (c ∷ [])).keeps

-- one octet on
split_at : (p kept : List ℕ) (c : ℕ) (text : List ℕ) (b : Bool) → connects kept c ≡ b → list_any is_connect (lines p) ≡ false → list_any is_connect (lines (p ++ c ∷ [])) ≡ b → (b ≡ false → IsSplit (p ++ c ∷ [] ++ text) (p ++ c ∷ [] ++ lines_from (kept_run (kept ++ c ∷ [])) text) (data_from (kept_run (kept ++ c ∷ [])) text)) → IsSplit (p ++ c ∷ text) (p ++ (if b then c ∷ [] else c ∷ lines_from (kept_run (kept ++ c ∷ [])) text)) (if b then behind_end c text else data_from (kept_run (kept ++ c ∷ [])) text)
split_at p kept c text true b none one on =
    let g = has_gap c text in
    inr (record { before = p; by = c; gap = g.gap; joins = ap (λ t. p ++ c ∷ t) g.joins ∙ sym (append_assoc p (c ∷ []) (g.gap ++ behind_end c text)); lines_are = refl; none_before = none; one_there = one; is_gap = g.is_gap })
split_at p kept c text false b none one on =
    let k = kept_run (kept ++ c ∷ []) in
    subst (λ t. IsSplit t (p ++ c ∷ lines_from k text) (data_from k text)) (append_assoc p (c ∷ []) text)
    (subst (λ t. IsSplit (p ++ c ∷ [] ++ text) t (data_from k text)) (append_assoc p (c ∷ []) (lines_from k text)) (on refl))

-- behind a text without a CONNECT line, of whose last line this is kept
split_from : (p kept text : List ℕ) → list_any is_connect (lines p) ≡ false → kept ≡ kept_run p → IsSplit (p ++ text) (p ++ lines_from kept text) (data_from kept text)
split_from p kept [] none e = inl (record { all = refl; none = rw (append-nil p) none; no_data = refl })
split_from p kept (c ∷ text) none e =
    split_at p kept c text (connects kept c) refl none (there p kept c none e)
    (λ b. split_from (p ++ c ∷ []) (kept_run (kept ++ c ∷ [])) text (there p kept c none e ∙ b) (later p kept c e))

-- any text is split behind the end of its first CONNECT line
pub are_split : (text : List ℕ) → AreSplit text
are_split text = subst (λ (t : List ℕ). IsSplit text t (data_from [] text)) (sym (append-nil (lines_from [] text))) (split_from [] [] text refl refl)

-- ## The driver's own CONNECT line

ended_behind : (b : Bool) → is_behind_lines (if b then Answered else Data) ≡ true
ended_behind true = refl
ended_behind false = refl

own_there : (by : ℕ) (text : List ℕ) → is_behind_lines (as_own (behind by text)) ≡ true
own_there by [] = ended_behind (by == 13)
own_there by (c ∷ text) = refl

-- a CONNECT line stays in a text that goes on
line_stays : (p text : List ℕ) → list_any is_connect (lines p) ≡ true → list_any is_connect (lines (p ++ text)) ≡ true
line_stays p text one = ap (list_any is_connect) (reads_lines_on p text).reads_kept ∙ (list_any-append is_connect (lines p) (lines (kept_run p ++ text)) ∙ rw one refl)

own_at : (p kept : List ℕ) (c : ℕ) (text : List ℕ) (b : Bool) → connects kept c ≡ b → list_any is_connect (lines (p ++ c ∷ [])) ≡ b → (b ≡ false → is_behind_lines (as_own (carries_from (kept_run (kept ++ c ∷ [])) text)) ≡ list_any is_connect (lines ((p ++ c ∷ []) ++ text))) → is_behind_lines (as_own (if b then behind c text else carries_from (kept_run (kept ++ c ∷ [])) text)) ≡ list_any is_connect (lines ((p ++ c ∷ []) ++ text))
own_at p kept c text true e one on = own_there c text ∙ sym (line_stays (p ++ c ∷ []) text one)
own_at p kept c text false e one on = on refl

own_from : (p kept text : List ℕ) → list_any is_connect (lines p) ≡ false → kept ≡ kept_run p → is_behind_lines (as_own (carries_from kept text)) ≡ list_any is_connect (lines (p ++ text))
own_from p kept [] none e = sym (rw (append-nil p) none)
own_from p kept (c ∷ text) none e =
    subst (λ t. is_behind_lines (as_own (carries_from kept (c ∷ text))) ≡ list_any is_connect (lines t)) (append_assoc p (c ∷ []) text)
    (own_at p kept c text (connects kept c) refl (there p kept c none e)
    (λ b. own_from (p ++ c ∷ []) (kept_run (kept ++ c ∷ [])) text (there p kept c none e ∙ b) (later p kept c e)))

-- what the driver writes turns the lane to data just where a CONNECT line is in it
pub own_switch : (text : List ℕ) → IsOwnSwitch text
own_switch text = own_from [] [] text refl refl
