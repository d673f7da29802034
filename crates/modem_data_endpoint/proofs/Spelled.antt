-- Frames that are read have spellings, and so have those that are due to a driver.
use Rattle.std.specs.Prelude.{◌≡◌, ℕ, ◌≤◌, ◌==◌, ◌&&◌, not, Bool, true, false, List, [], ◌∷◌, ◌++◌, drop, length, refl, if◌then◌else◌}
use Rattle.std.proofs.Common.{arith, lit<}
use Rattle.std.proofs.lemmas.Bool.{and_parts}
use Rattle.std.proofs.lemmas.List.Elements.{All-append, All-cons, All-head, All-nil, All-tail}
use Rattle.mux_frame.specs.Frames.{Frame}
use Rattle.mux_frame.specs.Laws.{HasSpelling}
use Rattle.mux_frame.specs.Reading.{Reads, no_flag, fill, frame, cut_short, other}
use Rattle.mux_frame.specs.Spelling.{body_of, most_info}
use Rattle.mux_frame.specs.Deframing.{Deframes, Deframing}
use Rattle.mux_frame.specs.declared.frame.Kind.{Kind}
use Rattle.mux_frame.specs.declared.frame.Kind.TheVariants.{Sabm, Ua, Dm, Disc, Uih}
use Rattle.mux_frame.proofs.Spellings.{spells_body}
use Rattle.mux_frame.proofs.readings.ComputedReadings.{octets_both, total_reading}
use Rattle.mux_station.specs.declared.role.Role.{Role}
use Rattle.mux_station.specs.Opening.{is_open}
use Rattle.mux_station.specs.Written.{is_kind}
use Rattle.at_text.specs.Lines.{is_line_end, kept_run}
use Rattle.modem_data.specs.Prompts.{before_prompt, behind_prompt, is_mark, mark_if, may_prompt}
use Rattle.modem_data.specs.Switching.{Carries, Idle, Lines, Ended, Data, Prompts, Marked, Sends, Owes, Owns, Answered, is_idle, released, before_of, behind_of, lines_from, connects}
use Rattle.modem_data.specs.Passing.{Pass, Came, Went, Flowed, Left, Lost, Began, EndedLane, Gave, Read, is_data, is_info, carries, wire}
use Rattle.modem_data.specs.Hops.{Hop, Fed, Handed, Took, Wrote, Passed, due, line_frames, with_lines, for_driver, came, passes}
use Rattle.modem_data_endpoint.specs.Beside.{AreSpelled}

-- ## Frames that are read

reads_spelled_ones : (n1 : ℕ) (s : List ℕ) (fs : List Frame) (rest : List ℕ) → Reads n1 s fs rest → AreSpelled n1 fs
reads_spelled_ones n1 s _ _ (no_flag _ e) = All-nil (HasSpelling n1)
reads_spelled_ones n1 s _ _ (fill _ t fs rest e q) = reads_spelled_ones n1 _ fs rest q
reads_spelled_ones n1 s _ _ (frame _ b x f fs rest e k q) = All-cons (HasSpelling n1) f fs (record { octets = b; spells = k }) (reads_spelled_ones n1 _ fs rest q)
reads_spelled_ones n1 s _ _ (cut_short _ t e c) = All-nil (HasSpelling n1)
reads_spelled_ones n1 s _ _ (other _ t fs rest e nf nh nc q) = reads_spelled_ones n1 t fs rest q

-- of frames that have spellings the first have
pub first_spelled : (n1 : ℕ) (fs gs : List Frame) → AreSpelled n1 (fs ++ gs) → AreSpelled n1 fs
first_spelled n1 [] gs h = All-nil (HasSpelling n1)
first_spelled n1 (f ∷ fs) gs h = All-cons (HasSpelling n1) f fs (All-head (HasSpelling n1) f (fs ++ gs) h) (first_spelled n1 fs gs (All-tail (HasSpelling n1) f (fs ++ gs) h))

last_spelled : (n1 : ℕ) (fs : List Frame) (f : Frame) → AreSpelled n1 (fs ++ f ∷ []) → HasSpelling n1 f
last_spelled n1 [] f h = All-head (HasSpelling n1) f [] h
last_spelled n1 (g ∷ fs) f h = last_spelled n1 fs f (All-tail (HasSpelling n1) g (fs ++ f ∷ []) h)

-- those that a deframer handed out have
pub handed_spelled : (taken : List ℕ) (handed : List Frame) (d : Deframing) → Deframes taken handed d → AreSpelled d.n1 handed
handed_spelled taken handed d k =
    let more = total_reading d.n1 (d.undecided ++ []) (octets_both d.undecided [] k.octets (λ i. lit< tt)) in
    first_spelled d.n1 handed more.frames (reads_spelled_ones d.n1 (taken ++ []) (handed ++ more.frames) more.rest (k.reads [] more.frames more.rest more.reads))

-- ## Those that are due to a driver

few_from : (kept text : List ℕ) → length (lines_from kept text) ≤ length text
few_from kept [] = omega arith
few_from kept (c ∷ text) = at (connects kept c) (few_from (kept_run (kept ++ c ∷ [])) text)
  where
    at : (b : Bool) → length (lines_from (kept_run (kept ++ c ∷ [])) text) ≤ length text → length (if b then c ∷ [] else c ∷ lines_from (kept_run (kept ++ c ∷ [])) text) ≤ length (c ∷ text)
    at true h = omega arith
    at false h = omega (arith, h)

few_before : (starts : Bool) (text : List ℕ) → length (before_prompt starts text) ≤ length text
few_before starts [] = omega arith
few_before starts (c ∷ text) = at (is_mark starts c text) (few_before (is_line_end c) text)
  where
    at : (b : Bool) → length (before_prompt (is_line_end c) text) ≤ length text → length (if b then [] else c ∷ before_prompt (is_line_end c) text) ≤ length (c ∷ text)
    at true h = omega arith
    at false h = omega (arith, h)

few_dropped : (text : List ℕ) → length (drop 1 text) ≤ length text
few_dropped [] = omega arith
few_dropped (c ∷ text) = omega arith

few_behind : (starts : Bool) (text : List ℕ) → length (behind_prompt starts text) ≤ length text
few_behind starts [] = omega arith
few_behind starts (c ∷ text) = at (is_mark starts c text) (few_behind (is_line_end c) text)
  where
    at : (b : Bool) → length (behind_prompt (is_line_end c) text) ≤ length text → length (if b then drop 1 text else behind_prompt (is_line_end c) text) ≤ length (c ∷ text)
    at true h = let few = few_dropped text in omega (arith, few)
    at false h = omega (arith, h)

none : (text : List ℕ) → length {A = ℕ} [] ≤ length text
none text = omega arith

few_if : (b : Bool) (x y text : List ℕ) → length x ≤ length text → length y ≤ length text → length (if b then x else y) ≤ length text
few_if true x y text h k = h
few_if false x y text h k = k

few_released : (m : Carries) (text : List ℕ) → length (released m text) ≤ length text
few_released Idle text = none text
few_released (Lines kept) text = none text
few_released (Ended by) text = none text
few_released Data text = none text
few_released (Prompts starts) text = none text
few_released Marked [] = none []
few_released Marked (c ∷ text) = at (c == 32)
  where
    at : (b : Bool) → length (mark_if (not b)) ≤ length (c ∷ text)
    at true = omega arith
    at false = omega arith
few_released Sends text = none text
few_released (Owns kept) text = none text
few_released Answered text = none text
few_released Owes [] = none []
few_released Owes (c ∷ text) = omega arith

few_first : (m : Carries) (text : List ℕ) → length (before_of m text) ≤ length text
few_first Idle text = omega arith
few_first (Lines kept) text = few_from kept text
few_first (Ended by) text = none text
few_first Data text = none text
few_first (Prompts starts) text = few_before starts text
few_first Marked text = few_if (may_prompt text) [] (before_prompt false text) text (none text) (few_before false text)
few_first Sends text = omega arith
few_first Owes text = omega arith
few_first (Owns kept) text = omega arith
few_first Answered text = none text

few_last : (m : Carries) (text : List ℕ) → length (behind_of m text) ≤ length text
few_last Idle text = none text
few_last (Lines kept) text = none text
few_last (Ended by) text = none text
few_last Data text = none text
few_last (Prompts starts) text = few_behind starts text
few_last Marked text = few_if (may_prompt text) (drop 1 text) (behind_prompt false text) text (few_dropped text) (few_behind false text)
few_last Sends text = none text
few_last Owes text = none text
few_last (Owns kept) text = none text
few_last Answered text = none text

most_uih : (n1 n m : ℕ) (k : Kind) → is_kind k Uih ≡ true → n ≤ m → m ≤ most_info n1 k → (n ≤ most_info n1 k) × (n ≤ n1)
most_uih n1 n m Sabm e few fits = cc
most_uih n1 n m Ua e few fits = cc
most_uih n1 n m Dm e few fits = cc
most_uih n1 n m Disc e few fits = cc
most_uih n1 n m Uih e few fits = let h : m ≤ n1 = fits in (omega (arith, few, h), omega (arith, few, h))

lines_spelled : (n1 : ℕ) (f : Frame) (text : List ℕ) → n1 ≤ 32767 → HasSpelling n1 f → is_kind f.kind Uih ≡ true → length text ≤ length f.info → AreSpelled n1 (with_lines f text)
lines_spelled n1 f [] high h k few = All-nil (HasSpelling n1)
lines_spelled n1 f (c ∷ text) high h k few =
    let fits = most_uih n1 (length (c ∷ text)) (length f.info) f.kind k few h.spells.room in
    let low = fits.1 in
    let g : Frame = record f { info = c ∷ text } in
    All-cons (HasSpelling n1) g [] (record { octets = body_of g; spells = spells_body n1 g h.spells.dlci fits.0 (omega (arith, low, high)) }) (All-nil (HasSpelling n1))

frames_spelled : (n1 : ℕ) (f : Frame) (m : Carries) → n1 ≤ 32767 → HasSpelling n1 f → is_kind f.kind Uih ≡ true → AreSpelled n1 (line_frames m f)
frames_spelled n1 f m high h k =
    let x = released m f.info in
    let y = before_of m f.info in
    let z = behind_of m f.info in
    All-append (HasSpelling n1) (with_lines f x) (with_lines f y ++ with_lines f z) (lines_spelled n1 f x high h k (few_released m f.info))
    (All-append (HasSpelling n1) (with_lines f y) (with_lines f z) (lines_spelled n1 f y high h k (few_first m f.info)) (lines_spelled n1 f z high h k (few_last m f.info)))

due_spelled : (role : Role) (n1 : ℕ) (p : List Pass) (f : Frame) → n1 ≤ 32767 → HasSpelling n1 f → AreSpelled n1 (due role p f)
due_spelled role n1 p f high h = at (is_data role f.dlci p f) refl
  where
    at : (b : Bool) → is_data role f.dlci p f ≡ b → AreSpelled n1 (if b then line_frames (carries role f.dlci p) f else f ∷ [])
    at true e =
        let info = (and_parts (is_info role f.dlci p f) (not (is_idle (carries role f.dlci p))) e).0 in
        let on = (and_parts (is_kind f.kind Uih && (f.dlci == f.dlci)) (is_open role f.dlci (wire p)) info).0 in
        frames_spelled n1 f (carries role f.dlci p) high h (and_parts (is_kind f.kind Uih) (f.dlci == f.dlci) on).0
    at false e = All-cons (HasSpelling n1) f [] h (All-nil (HasSpelling n1))

-- where those that came have, all that are due to the driver have
pub all_due_spelled : (role : Role) (n1 : ℕ) (hops : List Hop) → n1 ≤ 32767 → AreSpelled n1 (came hops) → AreSpelled n1 (for_driver role hops)
all_due_spelled role n1 [] high h = All-nil (HasSpelling n1)
all_due_spelled role n1 (Passed (Came f) ∷ past) high h = All-append (HasSpelling n1) (for_driver role past) (due role (passes past) f) (all_due_spelled role n1 past high (first_spelled n1 (came past) (f ∷ []) h)) (due_spelled role n1 (passes past) f high (last_spelled n1 (came past) f h))
all_due_spelled role n1 (Passed (Went f) ∷ past) high h = all_due_spelled role n1 past high (first_spelled n1 (came past) [] h)
all_due_spelled role n1 (Passed (Flowed f) ∷ past) high h = all_due_spelled role n1 past high (first_spelled n1 (came past) [] h)
all_due_spelled role n1 (Passed (Left f) ∷ past) high h = all_due_spelled role n1 past high (first_spelled n1 (came past) [] h)
all_due_spelled role n1 (Passed Lost ∷ past) high h = all_due_spelled role n1 past high (first_spelled n1 (came past) [] h)
all_due_spelled role n1 (Passed (Began d c u) ∷ past) high h = all_due_spelled role n1 past high (first_spelled n1 (came past) [] h)
all_due_spelled role n1 (Passed (EndedLane d) ∷ past) high h = all_due_spelled role n1 past high (first_spelled n1 (came past) [] h)
all_due_spelled role n1 (Passed (Gave d o) ∷ past) high h = all_due_spelled role n1 past high (first_spelled n1 (came past) [] h)
all_due_spelled role n1 (Passed (Read d o) ∷ past) high h = all_due_spelled role n1 past high (first_spelled n1 (came past) [] h)
all_due_spelled role n1 (Fed o ∷ past) high h = all_due_spelled role n1 past high (first_spelled n1 (came past) [] h)
all_due_spelled role n1 (Handed o ∷ past) high h = all_due_spelled role n1 past high (first_spelled n1 (came past) [] h)
all_due_spelled role n1 (Took o ∷ past) high h = all_due_spelled role n1 past high (first_spelled n1 (came past) [] h)
all_due_spelled role n1 (Wrote o ∷ past) high h = all_due_spelled role n1 past high (first_spelled n1 (came past) [] h)
