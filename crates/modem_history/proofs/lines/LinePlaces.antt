-- The lines that are placed are those of the information, and those of all connections are the lines of each.
use Rattle.std.specs.Prelude.{◌≡◌, ℕ, ◌==◌, ◌&&◌, not, Bool, true, false, List, [], ◌∷◌, ◌++◌, map, refl, if◌then◌else◌}
use Rattle.std.specs.List.{flat_map}
use Rattle.std.proofs.Common.{ap, sym, ◌∙◌, append_assoc, append-nil, eqb-true}
use Rattle.std.proofs.lemmas.Grind.{flat_map-append}
use Rattle.std.proofs.lemmas.List.{map-append}
use Rattle.std.proofs.lemmas.List.Elements.{filter_map-append}
use Rattle.mux_frame.specs.Frames.{Frame}
use Rattle.mux_frame.specs.declared.frame.Kind.TheVariants.{Uih}
use Rattle.mux_station.specs.declared.role.Role.{Role}
use Rattle.mux_station.specs.Acts.{Act, Called, Got, Sent, Tick, Lost, Given}
use Rattle.mux_station.specs.Written.{is_kind}
use Rattle.mux_station.specs.Opening.{since, is_open, opens_now}
use Rattle.at_text.specs.Lines.{lines}
use Rattle.at_text.specs.Windows.{Mark, Line, Begun, lines_of}
use Rattle.at_text.proofs.lines.UnfinishedLines.{reads_on}
use Rattle.at_text.proofs.windows.AnswerWindows.{lines_of-append}
use Rattle.modem_history.specs.Connections.{carries, info_got, information_got, earlier_openings, all_information_got, lines_ended, lines_with, lines_got, lines_on, commands_ended, placed, HasAllLines}
use Rattle.modem_history.proofs.connections.InformationGrowth.{got_grows, got_same, not_opened, is_got}
use Rattle.modem_history.proofs.lines.HeardLines.{opens_bare}

-- ## Marks

-- lines as marks are these lines
pub lines_placed_are : (ls : List (List ℕ)) → lines_of (map Line ls) ≡ ls
lines_placed_are [] = refl
lines_placed_are (l ∷ ls) = ap (λ (v : List (List ℕ)). l ∷ v) (lines_placed_are ls)

-- commands as marks are no lines
pub commands_no_lines : (cs : List (List ℕ)) → lines_of (map Begun cs) ≡ []
commands_no_lines [] = refl
commands_no_lines (c ∷ cs) = commands_no_lines cs

-- marks with their lines, and the information that they are of
pub more_lines : (ms : List Mark) (x y : List ℕ) (ls : List (List ℕ)) → lines_of ms ≡ lines x → lines (x ++ y) ≡ lines x ++ ls → lines_of (ms ++ map Line ls) ≡ lines (x ++ y)
more_lines ms x y ls h e =
    lines_of-append ms (map Line ls)
    ∙ (ap (λ (v : List (List ℕ)). lines_of ms ++ v) (lines_placed_are ls) ∙ (ap (λ (v : List (List ℕ)). v ++ ls) h ∙ sym e))

-- so they are where a frame opens d and nothing is left, where it brings lines, and where it does neither
pub lines_by : (o c : Bool) (ms : List Mark) (x y : List ℕ) (ls : List (List ℕ)) → lines_of ms ≡ lines x → lines (x ++ y) ≡ lines x ++ ls
    → lines_of (if o then [] else (if c then ms ++ map Line ls else ms)) ≡ lines (if o then [] else (if c then x ++ y else x))
lines_by true c ms x y ls h e = refl
lines_by false true ms x y ls h e = more_lines ms x y ls h e
lines_by false false ms x y ls h e = h

-- commands that begin, or none, leave the lines as they were
pub commands_by : (c : Bool) (ms : List Mark) (cs : List (List ℕ)) (x : List (List ℕ)) → lines_of ms ≡ x → lines_of (if c then ms ++ map Begun cs else ms) ≡ x
commands_by true ms cs x h = lines_of-append ms (map Begun cs) ∙ (ap (λ (v : List (List ℕ)). lines_of ms ++ v) (commands_no_lines cs) ∙ (append-nil (lines_of ms) ∙ h))
commands_by false ms cs x h = h

-- lines are read on where information comes
pub read_on : (r : Role) (d : ℕ) (past : List Act) (f : Frame) → lines (information_got r d past ++ f.info) ≡ lines (information_got r d past) ++ lines_ended r d past f
read_on r d past f = (reads_on (information_got r d past) f.info).reads_kept

as_before : (r : Role) (d : ℕ) (past : List Act) (a : Act) (ls : List (List ℕ)) → is_got a ≡ false → ls ≡ lines (information_got r d past) → ls ≡ lines (information_got r d (a ∷ past))
as_before r d past a ls n h = h ∙ ap lines (sym (got_same r d past a n))

-- the lines placed on d are those of the information that came since it opened, whichever commands go out
pub placed_lines : (r : Role) (d : ℕ) (cs : List (List ℕ)) (past : List Act) → lines_of (placed r d cs past) ≡ lines (information_got r d past)
placed_lines r d cs [] = refl
placed_lines r d cs (Got f ∷ past) =
    lines_by (opens_now r d past (Got f)) (carries d f && is_open r d past) (placed r d cs past) (information_got r d past) f.info (lines_ended r d past f) (placed_lines r d cs past) (read_on r d past f)
    ∙ ap lines (sym (got_grows r d past f))
placed_lines r d cs (Sent f ∷ past) =
    as_before r d past (Sent f) _ refl (commands_by (carries d f && is_open r d past) (placed r d cs past) (commands_ended r d cs past f) (lines (information_got r d past)) (placed_lines r d cs past))
placed_lines r d cs (Called c ∷ past) = as_before r d past (Called c) _ refl (placed_lines r d cs past)
placed_lines r d cs (Tick ∷ past) = as_before r d past Tick _ refl (placed_lines r d cs past)
placed_lines r d cs (Lost ∷ past) = as_before r d past Lost _ refl (placed_lines r d cs past)
placed_lines r d cs (Given ∷ past) = as_before r d past Given _ refl (placed_lines r d cs past)

-- ## All connections

-- the lines on d of two lists joined are those of the first, and then those of the second
pub on_both : (d : ℕ) (xs ys : List (ℕ × List ℕ)) → lines_on d (xs ++ ys) ≡ lines_on d xs ++ lines_on d ys
on_both d xs ys = filter_map-append _ xs ys

on_one : (d e : ℕ) (b : Bool) (ls : List (List ℕ)) → (e == d) ≡ b → lines_on d (map (λ (l : List ℕ). (e, l)) ls) ≡ (if b then ls else [])
on_one d e true [] h = refl
on_one d e false [] h = refl
on_one d e true (l ∷ ls) h = rw h (ap (λ (v : List (List ℕ)). l ∷ v) (on_one d e true ls h))
on_one d e false (l ∷ ls) h = rw h (on_one d e false ls h)

on_if : (d e : ℕ) (b c : Bool) (ls : List (List ℕ)) → (e == d) ≡ b → lines_on d (if c then map (λ (l : List ℕ). (e, l)) ls else []) ≡ (if c then (if b then ls else []) else [])
on_if d e b true ls h = on_one d e b ls h
on_if d e b false ls h = refl

if_both : (c : Bool) (ls : List (List ℕ)) → (if c then (if false then ls else []) else []) ≡ []
if_both true ls = refl
if_both false ls = refl

not_on : (z k b i : Bool) (ls : List (List ℕ)) → b ≡ false → [] ≡ (if (not z && (k && b)) && i then ls else [])
not_on true k b i ls e = refl
not_on false true false i ls e = refl
not_on false false b i ls e = refl
not_on false true true i ls e = cc

-- the lines that end in a frame, on d
pub with_on : (r : Role) (d : ℕ) (past : List Act) (f : Frame) (b : Bool) → (f.dlci == d) ≡ b
    → lines_on d (lines_with r past f) ≡ (if carries d f && is_open r d past then lines_ended r d past f else [])
with_on r d past f false h =
    on_if d f.dlci false (carries f.dlci f && is_open r f.dlci past) (lines_ended r f.dlci past f) h
    ∙ (if_both (carries f.dlci f && is_open r f.dlci past) (lines_ended r f.dlci past f)
    ∙ not_on (d == 0) (is_kind f.kind Uih) (f.dlci == d) (is_open r d past) (lines_ended r d past f) h)
with_on r d past f true h =
    on_if d f.dlci true (carries f.dlci f && is_open r f.dlci past) (lines_ended r f.dlci past f) h
    ∙ ap (λ (e : ℕ). if carries e f && is_open r e past then lines_ended r e past f else []) (eqb-true f.dlci d h)

-- one opening more, with so much information
all_by : (d : ℕ) (before : List (List Act)) (last : List Act) → flat_map lines (map (info_got d) (before ++ last ∷ [])) ≡ flat_map lines (map (info_got d) before) ++ lines (info_got d last)
all_by d before last =
    ap (flat_map lines) (map-append (info_got d) before (last ∷ []))
    ∙ (flat_map-append lines (map (info_got d) before) (info_got d last ∷ [])
    ∙ ap (λ (v : List (List ℕ)). flat_map lines (map (info_got d) before) ++ v) (append-nil (lines (info_got d last))))

-- what comes opens d, adds lines, or neither
all_grow : (d : ℕ) (o c : Bool) (before : List (List Act)) (last now : List Act) (y : List ℕ) (ls : List (List ℕ)) → lines (info_got d last ++ y) ≡ lines (info_got d last) ++ ls
    → info_got d now ≡ (if o then [] else (if c then info_got d last ++ y else info_got d last)) → (o ≡ true → c ≡ false)
    → flat_map lines (map (info_got d) (before ++ last ∷ [])) ++ (if c then ls else []) ≡ flat_map lines (map (info_got d) ((before ++ (if o then last ∷ [] else [])) ++ now ∷ []))
all_grow d true true before last now y ls e g h = absurd (let x : true ≡ false = h refl in cc)
all_grow d true false before last now y ls e g h = sym (all_by d (before ++ last ∷ []) now ∙ ap (λ (v : List ℕ). flat_map lines (map (info_got d) (before ++ last ∷ [])) ++ lines v) g)
all_grow d false true before last now y ls e g h =
    let old = flat_map lines (map (info_got d) before) in
    ap (λ (v : List (List ℕ)). v ++ ls) (all_by d before last)
    ∙ (append_assoc old (lines (info_got d last)) ls
    ∙ (ap (λ (v : List (List ℕ)). old ++ v) (sym e ∙ ap lines (sym g))
    ∙ (sym (all_by d before now) ∙ ap (λ (v : List (List Act)). flat_map lines (map (info_got d) (v ++ now ∷ []))) (sym (append-nil before)))))
all_grow d false false before last now y ls e g h =
    append-nil (flat_map lines (map (info_got d) (before ++ last ∷ [])))
    ∙ (all_by d before last
    ∙ (ap (λ (v : List ℕ). flat_map lines (map (info_got d) before) ++ lines v) (sym g)
    ∙ (sym (all_by d before now) ∙ ap (λ (v : List (List Act)). flat_map lines (map (info_got d) (v ++ now ∷ []))) (sym (append-nil before)))))

-- an act by which nothing comes
all_still : (r : Role) (d : ℕ) (past : List Act) (a : Act) (ls : List (List ℕ)) → is_got a ≡ false → ls ≡ flat_map lines (all_information_got r d past) → ls ≡ flat_map lines (all_information_got r d (a ∷ past))
all_still r d past a ls n h =
    let before = earlier_openings r d past in
    h ∙ (all_by d before (since r d past)
    ∙ (ap (λ (v : List ℕ). flat_map lines (map (info_got d) before) ++ lines v) (sym (got_same r d past a n))
    ∙ (sym (all_by d before (since r d (a ∷ past)))
    ∙ ap (λ (v : List (List Act)). flat_map lines (map (info_got d) (v ++ since r d (a ∷ past) ∷ [])))
    (sym (append-nil before) ∙ ap (λ (v : List (List Act)). before ++ v) (sym (not_opened r d past a (since r d past ∷ []) [] n))))))

-- a frame that opens d brings no lines, where none that opens it carries information
pub got_none : (o c i : Bool) → (o ≡ true → c ≡ false) → o ≡ true → (c && i) ≡ false
got_none o true i h e = absurd (let x : true ≡ false = h e in cc)
got_none o false i h e = refl

all_lines : (r : Role) (past : List Act) (d : ℕ) → lines_on d (lines_got r past) ≡ flat_map lines (all_information_got r d past)
all_lines r [] d = refl
all_lines r (Got f ∷ past) d =
    on_both d (lines_got r past) (lines_with r past f)
    ∙ (ap (λ (v : List (List ℕ)). v ++ lines_on d (lines_with r past f)) (all_lines r past d)
    ∙ (ap (λ (v : List (List ℕ)). flat_map lines (all_information_got r d past) ++ v) (with_on r d past f (f.dlci == d) refl)
    ∙ all_grow d (opens_now r d past (Got f)) (carries d f && is_open r d past) (earlier_openings r d past) (since r d past) (since r d (Got f ∷ past)) f.info (lines_ended r d past f)
    (read_on r d past f) (got_grows r d past f) (got_none (opens_now r d past (Got f)) (carries d f) (is_open r d past) (opens_bare r _ _ d f))))
all_lines r (Sent f ∷ past) d = all_still r d past (Sent f) (lines_on d (lines_got r past)) refl (all_lines r past d)
all_lines r (Called c ∷ past) d = all_still r d past (Called c) (lines_on d (lines_got r past)) refl (all_lines r past d)
all_lines r (Tick ∷ past) d = all_still r d past Tick (lines_on d (lines_got r past)) refl (all_lines r past d)
all_lines r (Lost ∷ past) d = all_still r d past Lost (lines_on d (lines_got r past)) refl (all_lines r past d)
all_lines r (Given ∷ past) d = all_still r d past Given (lines_on d (lines_got r past)) refl (all_lines r past d)

-- among the lines of all connections, those of each are the lines of its information over all its openings
pub has_all_lines : (r : Role) (past : List Act) → HasAllLines r past
unfolding HasAllLines
has_all_lines r past d = all_lines r past d
