-- What an octet does to the run that is kept.
use Rattle.std.specs.Prelude.{◌≡◌, ℕ, ◌+◌, ◌<◌, ◌≤◌, ◌-◌, nat_le, not, min, take, drop, Bool, true, false, List, [], ◌∷◌, ◌++◌, ◌||◌, zero, suc, Option, None, Some, unwrap_or, Result, Ok, Err, IsOk, OnOk, length, slice_index, refl, if◌then◌else◌}
use Rattle.std.proofs.Common.{arith, sym, ap, ◌∙◌}
use Rattle.std.specs.List.{prefix_len}
use Rattle.std.proofs.lemmas.Grind.{common_steps}
use Rattle.std.proofs.Math.Seq.{take-append-add, take-add}
use Rattle.std.proofs.lemmas.List.{append-nil, append_assoc, take_min, length-take, take_all, take-append-le, length-append, length-drop}
use Rattle.std.proofs.lemmas.List.Folds.{list_any-append}
use Rattle.memchr.specs.Find.{IsFirstByte, Passes, is_byte2}
use Rattle.at_text.specs.Lines.{is_line_end, cut, lines, kept_run}
use Rattle.at_text.specs.Reading.{line_in, HasRead}
use Rattle.at_text.specs.Runs.{LineRun, LeadsBack}
use Rattle.at_text.proofs.lines.UnfinishedLines.{has_end, has_end-take, ended_runs-behind, no_run, unfinished_all, unfinished-behind, reads_on}

-- a run that isn't full takes one more octet
pub cut_room : (run : List ℕ) (octet : ℕ) → length run < 512 → run ++ octet ∷ [] ≡ cut (run ++ octet ∷ [])
cut_room run octet room = sym (take_all 512 (run ++ octet ∷ []) (rw length-append (omega arith)))

-- a full one stays
pub cut_full : (run : List ℕ) (octet : ℕ) → length run ≡ 512 → run ≡ cut (run ++ octet ∷ [])
cut_full run octet full = sym (take-append-le 512 run (octet ∷ []) (omega arith) ∙ take_all 512 run (omega arith))

-- a run of at most 512 octets is kept whole
pub cut_fits : (run : List ℕ) → length run ≤ 512 → cut run ≡ run
cut_fits run fits = take_all 512 run fits

-- a run takes the octets that there is room for
pub cut_more : (run octets : List ℕ) (room count : ℕ) → room + length run ≡ 512 → count ≡ min room (length octets) → run ++ take count octets ≡ cut (run ++ octets)
cut_more run octets room count all e =
    rw e (ap (λ (xs : List ℕ). run ++ xs) (take_min room octets)
    ∙ (sym (take-append-add run octets room)
    ∙ ap (λ (n : ℕ). take n (run ++ octets)) (let whole : length run + room ≡ 512 = omega (arith, all) in whole)))

-- and holds 512 at most with them
pub fits_more : (run octets : List ℕ) (room count : ℕ) → room + length run ≡ 512 → count ≡ min room (length octets) → length run + length (take count octets) ≤ 512
fits_more run octets room count all e = rw (length-take, e) (omega (arith, all))

-- what is told of a call that answers Ok
pub when_ok : {A E : Type 0} (r : Result A E) (P : Type 0) → IsOk r → OnOk r P → P
when_ok (Ok x) P is p = p
when_ok (Err e) P is p = absurd (let x : false ≡ true = is in cc)

-- no line end comes into a run
pub none_dropped : (ended : Bool) (run : List ℕ) → has_end run ≡ false → has_end (if ended then [] else run) ≡ false
none_dropped true run none = refl
none_dropped false run none = none

-- nor with one more octet, which is put there unless it ends the line
pub none_more : (b : Bool) (run : List ℕ) (octet : ℕ) → has_end run ≡ false → is_line_end octet ≡ b → has_end (if b then run else cut (run ++ octet ∷ [])) ≡ false
none_more true run octet none e = none
none_more false run octet none e = has_end-take 512 (run ++ octet ∷ []) (list_any-append is_line_end run (octet ∷ []) ∙ rw (none, e) refl)

-- a line end leaves an empty run, another octet goes behind the run: that is what is kept
pub run_by_end : (b : Bool) (run : List ℕ) (octet : ℕ) → has_end run ≡ false → is_line_end octet ≡ b
    → (if b then [] else (if b then run else cut (run ++ octet ∷ []))) ≡ kept_run (run ++ octet ∷ [])
run_by_end true run octet none e = rw (unfinished-behind run (octet ∷ []) none, e) refl
run_by_end false run octet none e = rw (unfinished-behind run (octet ∷ []) none, e) refl

-- a line end gives the run as a line, if it has octets; another octet gives none
pub line_by_end : (b : Bool) (run : List ℕ) (octet : ℕ) → has_end run ≡ false → is_line_end octet ≡ b
    → line_in (if b then run else cut (run ++ octet ∷ [])) b ≡ lines (run ++ octet ∷ [])
line_by_end true run octet none e = rw (ended_runs-behind run (octet ∷ []) none, e, append-nil) refl
line_by_end false run octet none e = rw (ended_runs-behind run (octet ∷ []) none, e) refl

-- ## Octets none of which ends a line

-- they bring no line end into the run
pub none_kept : (run octets : List ℕ) → has_end run ≡ false → has_end octets ≡ false → has_end (run ++ octets) ≡ false
none_kept run octets none free = list_any-append is_line_end run octets ∙ rw (none, free) refl

-- the run with them, cut, is what is kept
pub run_kept : (run octets : List ℕ) → has_end run ≡ false → has_end octets ≡ false → cut (run ++ octets) ≡ kept_run (run ++ octets)
run_kept run octets none free = rw (unfinished_all (run ++ octets) (none_kept run octets none free)) refl

-- they give no line
pub no_lines : (run octets : List ℕ) → has_end run ≡ false → has_end octets ≡ false → lines (run ++ octets) ≡ []
no_lines run octets none free = rw (no_run (run ++ octets) (none_kept run octets none free)) refl

-- a run that fits and has no line end is what is kept of it
pub run_itself : (run : List ℕ) → has_end run ≡ false → length run ≤ 512 → run ≡ kept_run run
run_itself run none fits = rw (unfinished_all run none) (sym (cut_fits run fits))

-- where octets give no line behind what a reader keeps, they add none to all it has read
pub lines-keep : (reader past octets : List ℕ) → HasRead reader past → lines (reader ++ octets) ≡ [] → lines (past ++ octets) ≡ lines past
lines-keep reader past octets read none =
    (reads_on past octets).reads_kept ∙ (ap (λ (xs : List (List ℕ)). lines past ++ xs) (rw (sym read) none) ∙ append-nil (lines past))

-- ## For callers: what a push says of all octets read so far

-- a reader that keeps what is left of its run with an octet has read that octet too
pub has_read-push : (reader new octets : List ℕ) (octet : ℕ) → HasRead reader octets → HasRead new (reader ++ octet ∷ []) → HasRead new (octets ++ octet ∷ [])
has_read-push reader new octets octet read after = after ∙ rw read (sym (reads_on octets (octet ∷ [])).keeps)

-- and what it gives are the lines that the octet adds to all it has read
pub lines-push : (reader octets : List ℕ) (octet : ℕ) (given : List (List ℕ)) → HasRead reader octets → given ≡ lines (reader ++ octet ∷ []) → lines (octets ++ octet ∷ []) ≡ lines octets ++ given
lines-push reader octets octet given read said = (reads_on octets (octet ∷ [])).reads_kept ∙ rw (said, read) refl

-- ## Where a line ends

none_first : (octets : List ℕ) (n : ℕ) → ((k : ℕ) → k < n → ¬ Passes (is_byte2 13 10) octets k) → n ≤ length octets → has_end (take n octets) ≡ false
none_first octets zero none l = refl
none_first [] (suc n) none l = refl
none_first (c ∷ octets) (suc n) none l =
    let later = none_first octets n (λ k m. none (suc k) (omega (arith, m))) (omega (arith, l)) in
    or_both (is_line_end c) (has_end (take n octets)) (none 0 (omega arith)) later
  where
    or_both : (b h : Bool) → ¬ (b ≡ true) → h ≡ false → (b || h) ≡ false
    or_both true h isn't e = absurd (isn't refl)
    or_both false h isn't e = e

-- before the first CR or LF that is found there is no line end, nor anywhere if none is found
pub free_before : (octets : List ℕ) (r : Option ℕ) (n : ℕ) → IsFirstByte (is_byte2 13 10) octets r → n ≡ unwrap_or r (length octets) → has_end (take n octets) ≡ false
free_before octets None n none e = none_first octets n (λ k l. none k (omega arith) (let m : k < length octets = rw (sym e) l in m)) (omega (arith, e))
free_before octets (Some k) n at e = rw e (none_first octets k (λ j l. at.0.before j (omega arith) l) (let h = at.0.high in omega (arith, h)))

-- ## Where a text ends

above : (c : ℕ) → nat_le c 13 ≡ false → is_line_end c ≡ false
above c e = grind (arith, common_steps)

-- no line end stands before the first octet that isn't above CR
pub low_first : (octets : List ℕ) → has_end (take (prefix_len (λ c. not (nat_le c 13)) octets) octets) ≡ false
low_first [] = refl
low_first (c ∷ octets) = by_test (nat_le c 13) refl (low_first octets)
  where
    by_test : (b : Bool) → nat_le c 13 ≡ b → has_end (take (prefix_len (λ c. not (nat_le c 13)) octets) octets) ≡ false → has_end (take (if not b then 1 + prefix_len (λ c. not (nat_le c 13)) octets else 0) (c ∷ octets)) ≡ false
    by_test true e later = refl
    by_test false e later =
        let n = prefix_len (λ c. not (nat_le c 13)) octets in
        let next : 1 + n ≡ suc n = omega arith in
        ap (λ (k : ℕ). has_end (take k (c ∷ octets))) next ∙ rw (above c e) later

-- none in either part, none in both
pub none_joined : (octets : List ℕ) (low more : ℕ) → low ≤ length octets → has_end (take low octets) ≡ false → has_end (take more (take (length octets - low) (drop low octets))) ≡ false → has_end (take (low + more) octets) ≡ false
none_joined octets low more inside none later =
    let rest : take (length octets - low) (drop low octets) ≡ drop low octets = take_all (length octets - low) (drop low octets) (rw length-drop (omega arith)) in
    ap has_end (take-add low more octets)
    ∙ (list_any-append is_line_end (take low octets) (take more (drop low octets))
    ∙ rw none (ap (λ (xs : List ℕ). has_end (take more xs)) (sym rest) ∙ later))

-- ## A line end where nothing is kept

end_alone : (kept : List ℕ) (c : ℕ) (octets : List ℕ) → kept ≡ [] → is_line_end c ≡ true → lines (kept ++ take 1 (c ∷ octets)) ≡ []
end_alone kept c octets e k = rw (e, k) refl

end_kept : (kept : List ℕ) (c : ℕ) (octets : List ℕ) → kept ≡ [] → is_line_end c ≡ true → kept ≡ kept_run (kept ++ take 1 (c ∷ octets))
end_kept kept c octets e k = rw (e, k) refl

-- it ends no line
pub ends_none : (kept octets : List ℕ) → kept ≡ [] → 0 < length octets → is_line_end (slice_index octets 0) ≡ true → lines (kept ++ take 1 octets) ≡ []
ends_none kept [] e some k = absurd (omega (arith, some))
ends_none kept (c ∷ octets) e some k = end_alone kept c octets e k

-- nothing is kept behind it either
pub keeps_none : (kept octets : List ℕ) → kept ≡ [] → 0 < length octets → is_line_end (slice_index octets 0) ≡ true → kept ≡ kept_run (kept ++ take 1 octets)
keeps_none kept [] e some k = absurd (omega (arith, some))
keeps_none kept (c ∷ octets) e some k = end_kept kept c octets e k

-- what keeps nothing has read nothing
pub none_read : (kept : List ℕ) → kept ≡ [] → HasRead kept kept
none_read kept e = rw e refl

-- ## A line that ends

-- octets behind a run that has some make a line
pub filled_in : (run more : List ℕ) → 0 < length run → cut (run ++ more) ∷ [] ≡ line_in (run ++ more) true
filled_in [] more some = absurd (omega (arith, some))
filled_in (c ∷ run) more some = refl

-- and so do octets of their own
pub line_whole : (octets : List ℕ) (n : ℕ) → n ≡ min 512 (length octets) → 0 < length octets → take n octets ∷ [] ≡ line_in octets true
line_whole [] n e some = absurd (omega (arith, some))
line_whole (c ∷ octets) n e some = rw e (ap (λ (xs : List ℕ). xs ∷ []) (take_min 512 (c ∷ octets)))

-- a line end behind a run and more octets gives the line that they are
pub line_joined : (run more : List ℕ) (c : ℕ) → has_end run ≡ false → has_end more ≡ false → is_line_end c ≡ true → line_in (run ++ more) true ≡ lines (run ++ (more ++ c ∷ []))
line_joined run more c none free e =
    line_by_end true (run ++ more) c (none_kept run more none free) e ∙ ap lines (append_assoc run more (c ∷ []))

-- and nothing is kept behind it
pub none_joined_kept : (run more : List ℕ) (c : ℕ) → has_end run ≡ false → has_end more ≡ false → is_line_end c ≡ true → [] ≡ kept_run (run ++ (more ++ c ∷ []))
none_joined_kept run more c none free e =
    run_by_end true (run ++ more) c (none_kept run more none free) e ∙ ap kept_run (append_assoc run more (c ∷ []))

-- what stood at a mark stands at the front of a run that has grown
pub front_stays : (n : ℕ) (run more : List ℕ) → n ≤ length run → length run ≤ 512 → take n (cut (run ++ more)) ≡ take n run
front_stays n run more few fits =
    let room : length run + (512 - length run) ≡ 512 = omega (arith, fits) in
    let grown : cut (run ++ more) ≡ run ++ take (512 - length run) more = ap (λ (k : ℕ). take k (run ++ more)) (sym room) ∙ take-append-add run more (512 - length run) in
    ap (take n) grown ∙ take-append-le n run (take (512 - length run) more) few

-- so the way back from it is the same
pub back_grown : (was : LineRun) (run more : List ℕ) → length run ≤ 512 → LeadsBack was (record { octets = run; has_ended = false }) → LeadsBack was (record { octets = cut (run ++ more); has_ended = true })
back_grown was run more fits back =
    let n = length was.octets in
    let front : take n run ≡ was.octets = ap (λ (r : LineRun). r.octets) back in
    let few : n ≤ length run = (let l : length (take n run) ≡ n = ap length front in let m = length-take n run in omega (arith, l, m)) in
    ap (λ (xs : List ℕ). let r : LineRun = record { octets = xs; has_ended = was.has_ended } in r) (front_stays n run more few fits) ∙ back
