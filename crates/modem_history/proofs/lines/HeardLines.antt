-- What is heard on a connection is what its lines announce, in order.
use Rattle.std.specs.Prelude.{◌≡◌, ℕ, ◌+◌, length, ◌==◌, ◌&&◌, not, Bool, true, false, List, [], ◌∷◌, ◌++◌, drop, map, filter_map, refl, if◌then◌else◌, Option, Some, None, option_map}
use Rattle.std.specs.List.{cons_option, flat_map}
use Rattle.std.proofs.Common.{ap, sym, subst, ◌∙◌, append_assoc, append-nil, eqb-true}
use Rattle.std.proofs.lemmas.Grind.{flat_map-append}
use Rattle.mux_frame.specs.Frames.{Frame}
use Rattle.mux_frame.specs.declared.frame.Kind.{Kind}
use Rattle.mux_frame.specs.declared.frame.Kind.TheVariants.{Sabm, Ua, Dm, Disc, Uih}
use Rattle.mux_station.specs.declared.role.Role.{Role}
use Rattle.mux_station.specs.declared.role.Role.TheVariants.{Initiator, Responder}
use Rattle.mux_station.specs.Acts as station
use Rattle.mux_station.specs.Written.{is_kind, is_data_frame}
use Rattle.mux_station.specs.Opening.{is_open, opens}
use Rattle.mux_station.specs.States.{State, is_opened, state_of}
use Rattle.at_text.specs.declared.unsolicited.UrcKind.{UrcKind}
use Rattle.at_text.specs.Dialects.{Dialect}
use Rattle.at_text.specs.Lines.{lines}
use Rattle.at_text.specs.Windows.{Mark, Line}
use Rattle.at_text.proofs.windows.AllLines.{none_lost}
use Rattle.modem_desk.specs.declared.request.Request.{Request}
use Rattle.modem_desk.specs.declared.request.Answer.{Answer}
use Rattle.modem_history.specs.Acts.{Act, Took, Got, Sent, Told, Heard, Tick, Lost, Held, Freed, Given, told, wire}
use Rattle.modem_history.specs.Information.{carries, opens_here, accepted, information_out, texts}
use Rattle.modem_history.specs.Placing.{marks, run_on, lines_placed, begun_placed, whole_in, whole_after}
use Rattle.modem_history.specs.Calls.{Setting, HistoryView, seen_behind, calls_behind, states_now, frames, at_once, said_of, said_at_once, lines_said, by_lines, first_on, tolds, told_later, later}
use Rattle.modem_history.specs.Lawful.{Lawful, Complete, IsNext, When, unsent, owed}
use Rattle.modem_history.specs.Hearing.{was_heard, to_be_heard, earlier_marks, all_marks, announced_in, listened, listened_on, AreNoneLost, HearsInOrder, HearsAll}
use Rattle.modem_history.proofs.commands.BegunCommands.{kept}
use Rattle.modem_history.proofs.lines.AnnouncedLines.{announced_from, announced_both, announced_commands, heard_both, listened_both, lines_heard, lines_elsewhere}

abbrev Heards : Type 0
Heards = List (UrcKind × List ℕ)

-- ## What an act calls for

none_sent : (d : ℕ) (fs : List Frame) → to_be_heard d (map Sent fs) ≡ []
none_sent d [] = refl
none_sent d (f ∷ fs) = none_sent d fs

none_said : (d : ℕ) (r : Request) (o : Option Answer) → to_be_heard d (said_of r o) ≡ []
none_said d r None = refl
none_said d r (Some a) = refl

none_at_once : (d : ℕ) (s : Setting) (v : HistoryView) (a : Act) → to_be_heard d (said_at_once s v a) ≡ []
none_at_once d s v (Took r) = none_said d r (at_once s v r)
none_at_once d s v (Got f) = refl
none_at_once d s v (Sent f) = refl
none_at_once d s v (Told f) = refl
none_at_once d s v (Heard k e l) = refl
none_at_once d s v Tick = refl
none_at_once d s v Lost = refl
none_at_once d s v (Held e) = refl
none_at_once d s v (Freed e) = refl
none_at_once d s v Given = refl

none_later : (d : ℕ) (r : Request) (o : Option Answer) (rest : List Act) → to_be_heard d (cons_option (option_map (told r) o) rest) ≡ to_be_heard d rest
none_later d r None rest = refl
none_later d r (Some a) rest = refl

none_told : (d : ℕ) (v : HistoryView) (now : ℕ → State) (a : Act) (rs : List Request) → to_be_heard d (filter_map (told_later v now a) rs) ≡ []
none_told d v now a [] = refl
none_told d v now a (r ∷ rs) = none_later d r (later v now a r r.ask) (filter_map (told_later v now a) rs) ∙ none_told d v now a rs

either_side : (xs ys zs : Heards) → xs ≡ [] → zs ≡ [] → xs ++ (ys ++ zs) ≡ ys
either_side [] ys [] e f = append-nil ys
either_side (x ∷ xs) ys zs e f = cc
either_side [] ys (z ∷ zs) e f = cc

-- of what an act calls for, lines alone are heard
calls_heard : (d : ℕ) (s : Setting) (past owing : List Act) (a : Act) → to_be_heard d (calls_behind s past owing a) ≡ to_be_heard d (lines_said s (seen_behind s past owing) a)
calls_heard d s past owing a =
    let v = seen_behind s past owing in
    let sent = map Sent (frames s v a) in
    let once = said_at_once s v a in
    let said = lines_said s v a in
    let now = states_now s v (a ∷ sent) in
    let rest = once ++ (said ++ tolds v now a) in
    heard_both d sent rest
    ∙ (ap (λ (x : Heards). x ++ to_be_heard d rest) (none_sent d (frames s v a))
    ∙ (heard_both d once (said ++ tolds v now a)
    ∙ (ap (λ (x : Heards). to_be_heard d once ++ x) (heard_both d said (tolds v now a))
    ∙ either_side (to_be_heard d once) (to_be_heard d said) (to_be_heard d (tolds v now a)) (none_at_once d s v a) (none_told d v now a v.waiting))))

-- ## A frame that comes

-- the marks that are placed, or none
abbrev placed_if : Bool → List Mark → List Mark
placed_if b new = if b then new else []

not_carried : (z k b : Bool) → b ≡ false → (not z && (k && b)) ≡ false
not_carried true k b e = refl
not_carried false true b e = e
not_carried false false b e = refl

none_if : (d : ℕ) (c : Bool) (said : List Act) → to_be_heard d said ≡ [] → to_be_heard d (if c then said else []) ≡ []
none_if d true said h = h
none_if d false said h = refl

-- information on an open connection announces its lines, any other frame nothing
lines_if : (d : ℕ) (o k z : Bool) (s : Setting) (said : List Act) (ms new : List Mark) → to_be_heard d said ≡ listened s (announced_from s.dialect ms new)
    → to_be_heard d (if o && (k && not z) then said else []) ≡ listened s (announced_from s.dialect ms (placed_if ((not z && (k && true)) && o) new))
lines_if d true true false s said ms new h = h
lines_if d false true false s said ms new h = refl
lines_if d true false false s said ms new h = refl
lines_if d false false false s said ms new h = refl
lines_if d true true true s said ms new h = refl
lines_if d false true true s said ms new h = refl
lines_if d true false true s said ms new h = refl
lines_if d false false true s said ms new h = refl

-- what a frame on e calls for, as far as it is of lines
abbrev said_on : Setting → List Act → List Act → Frame → ℕ → List Act
said_on s past owing f e =
    let v = seen_behind s past owing in
    if is_opened (state_of s.role e (wire past)) && (is_kind f.kind Uih && not (e == 0))
    then by_lines s e (first_on e v.waiting) (marks s.role e past) (lines (run_on s.role e past ++ f.info)) else []

frame_here : (s : Setting) (past owing : List Act) (f : Frame) (d : ℕ) → (f.dlci == d) ≡ true
    → to_be_heard d (said_on s past owing f d) ≡ listened s (announced_from s.dialect (marks s.role d past) (placed_if (carries d f && is_open s.role d (wire past)) (lines_placed s.role d past f)))
frame_here s past owing f d h =
    let v = seen_behind s past owing in
    let ms = marks s.role d past in
    let ls = lines (run_on s.role d past ++ f.info) in
    let said = by_lines s d (first_on d v.waiting) ms ls in
    let k = is_kind f.kind Uih in
    let z = d == 0 in
    let o = is_open s.role d (wire past) in
    lines_if d o k z s said ms (map Line ls) (lines_heard s d (first_on d v.waiting) ms ls)
    ∙ ap (λ (b : Bool). listened s (announced_from s.dialect ms (placed_if ((not z && (k && b)) && o) (map Line ls)))) (sym h)

frame_by : (s : Setting) (past owing : List Act) (f : Frame) (d : ℕ) (b : Bool) → (f.dlci == d) ≡ b
    → to_be_heard d (said_on s past owing f f.dlci) ≡ listened s (announced_from s.dialect (marks s.role d past) (placed_if (carries d f && is_open s.role d (wire past)) (lines_placed s.role d past f)))
frame_by s past owing f d true h =
    ap (λ (e : ℕ). to_be_heard d (said_on s past owing f e)) (eqb-true f.dlci d h) ∙ frame_here s past owing f d h
frame_by s past owing f d false h =
    let v = seen_behind s past owing in
    let ms = marks s.role f.dlci past in
    let ls = lines (run_on s.role f.dlci past ++ f.info) in
    let c = is_opened (state_of s.role f.dlci (wire past)) && (is_kind f.kind Uih && not (f.dlci == 0)) in
    none_if d c (by_lines s f.dlci (first_on f.dlci v.waiting) ms ls) (lines_elsewhere s d f.dlci (first_on f.dlci v.waiting) ms ls h)
    ∙ ap (λ (b : Bool). listened s (announced_from s.dialect (marks s.role d past) (placed_if (b && is_open s.role d (wire past)) (lines_placed s.role d past f)))) (sym (not_carried (d == 0) (is_kind f.kind Uih) (f.dlci == d) h))

frame_heard : (s : Setting) (past owing : List Act) (f : Frame) (d : ℕ)
    → to_be_heard d (calls_behind s past owing (Got f)) ≡ listened s (announced_from s.dialect (marks s.role d past) (placed_if (carries d f && is_open s.role d (wire past)) (lines_placed s.role d past f)))
frame_heard s past owing f d = calls_heard d s past owing (Got f) ∙ frame_by s past owing f d (f.dlci == d) refl

-- a frame that opens carries nothing
opening_kind : (r : Role) (z asked : Bool) (d : ℕ) (f : Frame) (k : Kind) → f.kind ≡ k → opens r z asked d (station.Got f) ≡ true → is_kind f.kind Uih ≡ false
opening_kind r z asked d f Sabm e h = rw e refl
opening_kind r z asked d f Ua e h = rw e refl
opening_kind r z asked d f Dm e h = rw e refl
opening_kind r z asked d f Disc e h = rw e refl
opening_kind Initiator z asked d f Uih e h = absurd (let g : false ≡ true = rw e at h in cc)
opening_kind Responder z asked d f Uih e h = absurd (let g : false ≡ true = rw e at h in cc)

no_kind : (z k b : Bool) → k ≡ false → (not z && (k && b)) ≡ false
no_kind true k b e = refl
no_kind false true b e = cc
no_kind false false b e = refl

-- so a frame that opens d carries no information on d
pub opens_bare : (r : Role) (z asked : Bool) (d : ℕ) (f : Frame) → opens r z asked d (station.Got f) ≡ true → carries d f ≡ false
opens_bare r z asked d f h = no_kind (d == 0) (is_kind f.kind Uih) (f.dlci == d) (opening_kind r z asked d f f.kind refl h)

-- ## What is owed

kept_unsent : (d : ℕ) (owing : List Act) → to_be_heard d (unsent owing) ≡ to_be_heard d owing
kept_unsent d [] = refl
kept_unsent d (Sent f ∷ owing) = kept_unsent d owing
kept_unsent d (Heard k e line ∷ owing) = ap (λ (v : Heards). (if e == d then (k, line) ∷ [] else []) ++ v) (kept_unsent d owing)
kept_unsent d (Took r ∷ owing) = kept_unsent d owing
kept_unsent d (Got f ∷ owing) = kept_unsent d owing
kept_unsent d (Told o ∷ owing) = kept_unsent d owing
kept_unsent d (Tick ∷ owing) = kept_unsent d owing
kept_unsent d (Lost ∷ owing) = kept_unsent d owing
kept_unsent d (Held e ∷ owing) = kept_unsent d owing
kept_unsent d (Freed e ∷ owing) = kept_unsent d owing
kept_unsent d (Given ∷ owing) = kept_unsent d owing

-- the next of what is owed is no line
silent_next : (d : ℕ) (owing : List Act) (a : Act) → IsNext owing a → ((later : List Act) → to_be_heard d (a ∷ later) ≡ to_be_heard d later) → to_be_heard d (drop 1 owing) ≡ to_be_heard d owing
silent_next d owing a n silent =
    ap (λ (v : List Act). to_be_heard d (drop 1 v)) n.is_next ∙ (sym (silent n.later) ∙ ap (to_be_heard d) (sym n.is_next))

-- or it is one
heard_next : (d e : ℕ) (k : UrcKind) (line : List ℕ) (xs : Heards) (owing : List Act) → IsNext owing (Heard k e line)
    → (xs ++ (if e == d then (k, line) ∷ [] else [])) ++ to_be_heard d (drop 1 owing) ≡ xs ++ to_be_heard d owing
heard_next d e k line xs owing n =
    let here : Heards = if e == d then (k, line) ∷ [] else [] in
    ap (λ (v : List Act). (xs ++ here) ++ to_be_heard d (drop 1 v)) n.is_next
    ∙ (append_assoc xs here (to_be_heard d n.later) ∙ ap (λ (v : List Act). xs ++ to_be_heard d v) (sym n.is_next))

-- ## All that is announced

on_both : (s : Setting) (before : List (List Mark)) (ms : List Mark) → listened s (flat_map (announced_in s.dialect) (before ++ ms ∷ [])) ≡ listened s (flat_map (announced_in s.dialect) before) ++ listened s (announced_in s.dialect ms)
on_both s before ms =
    ap (listened s) (flat_map-append (announced_in s.dialect) before (ms ∷ []))
    ∙ (listened_both s (flat_map (announced_in s.dialect) before) (announced_in s.dialect ms ++ [])
    ∙ ap (λ (v : Heards). listened s (flat_map (announced_in s.dialect) before) ++ listened s v) (append-nil (announced_in s.dialect ms)))

-- more marks are placed
on_more : (s : Setting) (before : List (List Mark)) (ms new : List Mark)
    → listened s (flat_map (announced_in s.dialect) (before ++ (ms ++ new) ∷ [])) ≡ listened s (flat_map (announced_in s.dialect) (before ++ ms ∷ [])) ++ listened s (announced_from s.dialect ms new)
on_more s before ms new =
    let old = listened s (flat_map (announced_in s.dialect) before) in
    on_both s before (ms ++ new)
    ∙ (ap (λ (v : Heards). old ++ listened s v) (announced_both s.dialect [] ms new)
    ∙ (ap (λ (v : Heards). old ++ v) (listened_both s (announced_in s.dialect ms) (announced_from s.dialect ms new))
    ∙ (sym (append_assoc old (listened s (announced_in s.dialect ms)) (listened s (announced_from s.dialect ms new)))
    ∙ ap (λ (v : Heards). v ++ listened s (announced_from s.dialect ms new)) (sym (on_both s before ms)))))

-- an opening begins with nothing
on_next : (s : Setting) (before : List (List Mark)) → listened s (flat_map (announced_in s.dialect) (before ++ [] ∷ [])) ≡ listened s (flat_map (announced_in s.dialect) before)
on_next s before = on_both s before [] ∙ append-nil (listened s (flat_map (announced_in s.dialect) before))

-- a frame opens d, carries information, or neither
got_on : (s : Setting) (o c : Bool) (before : List (List Mark)) (ms new : List Mark) → (o ≡ true → c ≡ false)
    → listened s (flat_map (announced_in s.dialect) ((before ++ (if o then ms ∷ [] else [])) ++ (if o then [] else (if c then ms ++ new else ms)) ∷ []))
    ≡ listened s (flat_map (announced_in s.dialect) (before ++ ms ∷ [])) ++ listened s (announced_from s.dialect ms (placed_if c new))
got_on s true true before ms new h = absurd (let e : true ≡ false = h refl in cc)
got_on s true false before ms new h = on_next s (before ++ ms ∷ []) ∙ sym (append-nil (listened s (flat_map (announced_in s.dialect) (before ++ ms ∷ []))))
got_on s false true before ms new h =
    ap (λ (v : List (List Mark)). listened s (flat_map (announced_in s.dialect) (v ++ (ms ++ new) ∷ []))) (append-nil before) ∙ on_more s before ms new
got_on s false false before ms new h =
    ap (λ (v : List (List Mark)). listened s (flat_map (announced_in s.dialect) (v ++ ms ∷ []))) (append-nil before)
    ∙ sym (append-nil (listened s (flat_map (announced_in s.dialect) (before ++ ms ∷ []))))

-- commands that go out
sent_on : (s : Setting) (c : Bool) (before : List (List Mark)) (ms new : List Mark) → announced_from s.dialect ms new ≡ []
    → listened s (flat_map (announced_in s.dialect) (before ++ (if c then ms ++ new else ms) ∷ [])) ≡ listened s (flat_map (announced_in s.dialect) (before ++ ms ∷ []))
sent_on s true before ms new h = on_more s before ms new ∙ (ap (λ (v : Heards). listened s (flat_map (announced_in s.dialect) (before ++ ms ∷ [])) ++ listened s v) h ∙ append-nil (listened s (flat_map (announced_in s.dialect) (before ++ ms ∷ []))))
sent_on s false before ms new h = refl

-- ## Whole histories

abbrev InOrder : Setting → ℕ → List Act → Type 0
InOrder s d past = was_heard d past ++ to_be_heard d (owed s past) ≡ listened_on s d past

-- an act that calls for so much is announced more
more_owed : (d : ℕ) (xs total more : Heards) (owing calls : List Act) → xs ++ to_be_heard d owing ≡ total → to_be_heard d calls ≡ more → xs ++ to_be_heard d (owing ++ calls) ≡ total ++ more
more_owed d xs total more owing calls h e =
    ap (λ (v : Heards). xs ++ v) (heard_both d owing calls)
    ∙ (sym (append_assoc xs (to_be_heard d owing) (to_be_heard d calls))
    ∙ (ap (λ (v : Heards). v ++ to_be_heard d calls) h ∙ ap (λ (v : Heards). total ++ v) e))

-- and one that calls for no line leaves all as it was
as_owed : (d : ℕ) (xs total : Heards) (owing calls : List Act) → xs ++ to_be_heard d owing ≡ total → to_be_heard d calls ≡ [] → xs ++ to_be_heard d (owing ++ calls) ≡ total
as_owed d xs total owing calls h e = more_owed d xs total [] owing calls h e ∙ append-nil total

sent_by : (d : ℕ) (b : Bool) (owing : List Act) (f : Frame) → When (not b) (IsNext owing (Sent f)) → to_be_heard d (if b then owing else drop 1 owing) ≡ to_be_heard d owing
sent_by d true owing f n = refl
sent_by d false owing f n = silent_next d owing (Sent f) n (λ later. refl)

begun_silent : (dialect : Dialect) (r : Role) (d : ℕ) (past : List Act) (f : Frame) → announced_from dialect (marks r d past) (begun_placed r d past f) ≡ []
begun_silent dialect r d past f =
    let out = length (information_out r d past) in
    let qs = accepted r d past in
    announced_commands dialect (marks r d past) (drop (whole_in out (texts qs)) (whole_after (out + length f.info) qs))

both_false : (a b : Bool) → a ≡ false → (a && b) ≡ false
both_false true b e = cc
both_false false b e = refl

hears : (s : Setting) (past : List Act) → Lawful s past → (d : ℕ) → InOrder s d past
unfolding Lawful
hears s [] l d = refl
hears s (Took r ∷ past) l d = as_owed d (was_heard d past) (listened_on s d past) (owed s past) (calls_behind s past (owed s past) (Took r)) (hears s past l.1 d) (calls_heard d s past (owed s past) (Took r))
hears s (Tick ∷ past) l d = as_owed d (was_heard d past) (listened_on s d past) (owed s past) (calls_behind s past (owed s past) Tick) (hears s past l.1 d) (calls_heard d s past (owed s past) Tick)
hears s (Held e ∷ past) l d = as_owed d (was_heard d past) (listened_on s d past) (owed s past) (calls_behind s past (owed s past) (Held e)) (hears s past l.1 d) (calls_heard d s past (owed s past) (Held e))
hears s (Freed e ∷ past) l d = as_owed d (was_heard d past) (listened_on s d past) (owed s past) (calls_behind s past (owed s past) (Freed e)) (hears s past l.1 d) (calls_heard d s past (owed s past) (Freed e))
hears s (Lost ∷ past) l d =
    as_owed d (was_heard d past) (listened_on s d past) (unsent (owed s past)) (calls_behind s past (owed s past) Lost)
    (ap (λ (v : Heards). was_heard d past ++ v) (kept_unsent d (owed s past)) ∙ hears s past l.1 d) (calls_heard d s past (owed s past) Lost)
hears s (Given ∷ past) l d = hears s past l.1 d
hears s (Told o ∷ past) l d = ap (λ (v : Heards). was_heard d past ++ v) (silent_next d (owed s past) (Told o) l.0.answered (λ later. refl)) ∙ hears s past l.1 d
hears s (Heard k e line ∷ past) l d = heard_next d e k line (was_heard d past) (owed s past) l.0.heard ∙ hears s past l.1 d
hears s (Sent f ∷ past) l d =
    ap (λ (v : Heards). was_heard d past ++ v) (sent_by d (is_data_frame f) (owed s past) f l.0.controlled)
    ∙ (hears s past l.1 d
    ∙ sym (sent_on s (carries d f && is_open s.role d (wire past)) (earlier_marks s.role d past) (marks s.role d past) (begun_placed s.role d past f) (begun_silent s.dialect s.role d past f)))
hears s (Got f ∷ past) l d =
    let c = carries d f && is_open s.role d (wire past) in
    let new = lines_placed s.role d past f in
    more_owed d (was_heard d past) (listened_on s d past) (listened s (announced_from s.dialect (marks s.role d past) (placed_if c new))) (owed s past) (calls_behind s past (owed s past) (Got f))
    (hears s past l.1 d) (frame_heard s past (owed s past) f d)
    ∙ sym (got_on s (opens_here s.role d past (Got f)) c (earlier_marks s.role d past) (marks s.role d past) new
    (λ h. both_false (carries d f) (is_open s.role d (wire past)) (opens_bare s.role _ _ d f h)))

-- no line is lost in any opening
none_lost_more : (dialect : Dialect) (xs : List (List Mark)) (ms : List Mark) → AreNoneLost dialect xs → AreNoneLost dialect (ms ∷ []) → AreNoneLost dialect (xs ++ ms ∷ [])
none_lost_more dialect [] ms h k = k
none_lost_more dialect (x ∷ xs) ms h k = (h.0, none_lost_more dialect xs ms h.1 k)

earlier_if : (dialect : Dialect) (b : Bool) (xs : List (List Mark)) (ms : List Mark) → AreNoneLost dialect xs → AreNoneLost dialect (ms ∷ []) → AreNoneLost dialect (xs ++ (if b then ms ∷ [] else []))
earlier_if dialect true xs ms h k = none_lost_more dialect xs ms h k
earlier_if dialect false xs ms h k = subst (AreNoneLost dialect) (sym (append-nil xs)) h

earlier_kept : (s : Setting) (past : List Act) → Lawful s past → (d : ℕ) → AreNoneLost s.dialect (earlier_marks s.role d past)
unfolding Lawful
earlier_kept s [] l d = tt
earlier_kept s (Got f ∷ past) l d =
    earlier_if s.dialect (opens_here s.role d past (Got f)) (earlier_marks s.role d past) (marks s.role d past)
    (earlier_kept s past l.1 d) (none_lost s.dialect (marks s.role d past) (kept s past l.1 d).turns.in_turn, tt)
earlier_kept s (Took r ∷ past) l d = earlier_kept s past l.1 d
earlier_kept s (Sent f ∷ past) l d = earlier_kept s past l.1 d
earlier_kept s (Told o ∷ past) l d = earlier_kept s past l.1 d
earlier_kept s (Heard k e line ∷ past) l d = earlier_kept s past l.1 d
earlier_kept s (Tick ∷ past) l d = earlier_kept s past l.1 d
earlier_kept s (Lost ∷ past) l d = earlier_kept s past l.1 d
earlier_kept s (Held e ∷ past) l d = earlier_kept s past l.1 d
earlier_kept s (Freed e ∷ past) l d = earlier_kept s past l.1 d
earlier_kept s (Given ∷ past) l d = earlier_kept s past l.1 d

each_once : (s : Setting) (past : List Act) → Lawful s past → (d : ℕ) → AreNoneLost s.dialect (all_marks s.role d past)
each_once s past l d =
    none_lost_more s.dialect (earlier_marks s.role d past) (marks s.role d past) (earlier_kept s past l d)
    (none_lost s.dialect (marks s.role d past) (kept s past l d).turns.in_turn, tt)

-- in a lawful history what was heard on each connection begins what is announced there; the rest is owed, and none is lost
pub hears_in_order : (s : Setting) (past : List Act) → Lawful s past → HearsInOrder s past
unfolding HearsInOrder
hears_in_order s past l d = record { in_order = hears s past l d; each_once = each_once s past l d }

-- and where nothing is owed, all that is announced there was heard
pub hears_all : (s : Setting) (past : List Act) → Lawful s past → HearsAll s past
unfolding HearsAll Complete
hears_all s past l c d =
    sym (append-nil (was_heard d past)) ∙ (ap (λ (v : List Act). was_heard d past ++ to_be_heard d v) (sym c) ∙ hears s past l d)
