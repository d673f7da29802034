-- The marks of a history are placed by its wire and the commands that were accepted.
use Rattle.std.specs.Prelude.{◌≡◌, ℕ, ◌+◌, ◌≤◌, ◌==◌, ◌&&◌, Bool, true, false, List, [], ◌∷◌, ◌++◌, length, map, take, drop, refl, if◌then◌else◌}
use Rattle.std.specs.List.{concat, flat_map}
use Rattle.std.proofs.Common.{ap, sym, ◌∙◌, subst, arith, append-nil, append_assoc, length-append}
use Rattle.std.proofs.lemmas.Grind.{flat_map-append}
use Rattle.std.proofs.lemmas.List.{map-append, take-map, drop-map}
use Rattle.mux_station.specs.declared.role.Role.{Role}
use Rattle.mux_station.specs.Acts as station
use Rattle.mux_station.specs.Opening.{is_open, opens_now}
use Rattle.at_text.specs.Windows.{Mark, Line, Begun, lines_of}
use Rattle.at_text.proofs.windows.AnswerWindows.{lines_of-append}
use Rattle.modem_desk.specs.declared.request.Request.{Request}
use Rattle.modem_history.specs.Acts.{Act, Took, Got, Sent, Told, Heard, Tick, Lost, Held, Freed, Given, wire}
use Rattle.modem_history.specs.Connections.{carries, information_sent, lines_got, lines_with, lines_on, lines_ended, with_cr, whole_in, wholly_sent, placed}
use Rattle.modem_history.specs.Information.{information_out, accepted, is_accepted, line_of, texts}
use Rattle.modem_history.specs.Placing.{marks, whole_after, begun_placed}
use Rattle.modem_history.specs.Calls.{Setting}
use Rattle.modem_history.specs.Lawful.{Lawful}
use Rattle.modem_history.specs.Wholes.{IsPrefixOf}
use Rattle.modem_history.specs.Hearing.{earlier_marks, all_marks}
use Rattle.modem_history.specs.Placements.{AreMarksPlaced, HaveMarksAllLines}
use Rattle.modem_history.proofs.commands.SentPrefixes.{leaves_once}
use Rattle.modem_history.proofs.connections.InformationGrowth.{is_got, not_opened}
use Rattle.modem_history.proofs.lines.HeardLines.{opens_bare}
use Rattle.modem_history.proofs.lines.LinePlaces.{lines_placed_are, on_both, with_on, got_none}
use Rattle.modem_history.proofs.commands.CommandPlaces.{placed_more}

-- ## Texts

abbrev lines_of_commands : List Request → List (List ℕ)
lines_of_commands qs = map line_of qs

-- the texts of commands are their lines, each with CR
pub texts_are : (qs : List Request) → texts qs ≡ with_cr (map line_of qs)
texts_are [] = refl
texts_are (q ∷ qs) = ap (λ (v : List (List ℕ)). (line_of q ++ 13 ∷ []) ∷ v) (texts_are qs)

begun_are : (qs : List Request) → map (λ (q : Request). Begun (line_of q)) qs ≡ map Begun (map line_of qs)
begun_are [] = refl
begun_are (q ∷ qs) = ap (λ (v : List Mark). Begun (line_of q) ∷ v) (begun_are qs)

-- the commands that octets make whole, as requests and as texts
same_begun : (n k : ℕ) (qs : List Request)
    → map (λ (q : Request). Begun (line_of q)) (drop (whole_in n (texts qs)) (whole_after (n + k) qs)) ≡ map Begun (drop (whole_in n (with_cr (map line_of qs))) (wholly_sent (n + k) (map line_of qs)))
same_begun n k qs =
    let b = whole_in n (texts qs) in
    let m = whole_in (n + k) (texts qs) in
    begun_are (drop b (take m qs))
    ∙ (ap (map Begun) (sym (drop-map line_of b (take m qs)) ∙ ap (drop b) (sym (take-map line_of m qs)))
    ∙ ap (λ (ts : List (List ℕ)). map Begun (drop (whole_in n ts) (take (whole_in (n + k) ts) (map line_of qs)))) (texts_are qs))

within : (out : List ℕ) (qs : List Request) → IsPrefixOf out (concat (texts qs)) → length out ≤ length (concat (with_cr (map line_of qs)))
within out qs p =
    let joined : length out + length p.rest ≡ length (concat (texts qs)) = sym (length-append out p.rest) ∙ ap length p.joins in
    subst (λ (ts : List (List ℕ)). length out ≤ length (concat ts)) (texts_are qs) (omega (arith, joined))

-- ## One act more

taken : (r : Role) (d : ℕ) (b : Bool) (qs : List Request) (q : Request) (w : List station.Act) (ms : List Mark) → IsPrefixOf (information_sent r d w) (concat (texts qs))
    → ms ≡ placed r d (map line_of qs) w → ms ≡ placed r d (map line_of (if b then qs ++ q ∷ [] else qs)) w
taken r d false qs q w ms p h = h
taken r d true qs q w ms p h =
    h ∙ (sym (placed_more r d (map line_of qs) (line_of q) w (within (information_sent r d w) qs p)) ∙ ap (λ (cs : List (List ℕ)). placed r d cs w) (sym (map-append line_of qs (q ∷ []))))

-- an act by which nothing opens
still : (r : Role) (d : ℕ) (past : List station.Act) (a : station.Act) (qs : List Request) (ms : List Mark) → is_got a ≡ false → placed r d (map line_of qs) (a ∷ past) ≡ ms
    → ms ≡ placed r d (map line_of (if opens_now r d past a then [] else qs)) (a ∷ past)
still r d past a qs ms g h = sym h ∙ ap (λ (v : List Request). placed r d (map line_of v) (a ∷ past)) (sym (not_opened r d past a [] qs g))

come : (o c : Bool) (ms : List Mark) (more : List Mark) (P : List (List ℕ) → List Mark) (qs : List Request) → ms ≡ P (map line_of qs)
    → (if o then [] else (if c then ms ++ more else ms)) ≡ (if o then [] else (if c then P (map line_of (if o then [] else qs)) ++ more else P (map line_of (if o then [] else qs))))
come true c ms more P qs h = refl
come false true ms more P qs h = ap (λ (v : List Mark). v ++ more) h
come false false ms more P qs h = h

gone : (c : Bool) (ms ns xs ys : List Mark) → ms ≡ ns → xs ≡ ys → (if c then ns ++ ys else ns) ≡ (if c then ms ++ xs else ms)
gone true ms ns xs ys h e = ap (λ (v : List Mark). v ++ ys) (sym h) ∙ ap (λ (v : List Mark). ms ++ v) (sym e)
gone false ms ns xs ys h e = sym h

-- in a lawful history what is marked on d is its lines and the accepted commands, placed over the wire
pub are_placed : (s : Setting) (past : List Act) → Lawful s past → (d : ℕ) → marks s.role d past ≡ placed s.role d (map line_of (accepted s.role d past)) (wire past)
unfolding Lawful
are_placed s [] l d = refl
are_placed s (Took q ∷ past) l d =
    taken s.role d (is_accepted s.role d past q) (accepted s.role d past) q (wire past) (marks s.role d past) (leaves_once s past l.1 d) (are_placed s past l.1 d)
are_placed s (Told o ∷ past) l d = are_placed s past l.1 d
are_placed s (Heard k e line ∷ past) l d = are_placed s past l.1 d
are_placed s (Held e ∷ past) l d = are_placed s past l.1 d
are_placed s (Freed e ∷ past) l d = are_placed s past l.1 d
are_placed s (Tick ∷ past) l d = still s.role d (wire past) station.Tick (accepted s.role d past) (marks s.role d past) refl (sym (are_placed s past l.1 d))
are_placed s (Lost ∷ past) l d = still s.role d (wire past) station.Lost (accepted s.role d past) (marks s.role d past) refl (sym (are_placed s past l.1 d))
are_placed s (Given ∷ past) l d = still s.role d (wire past) station.Given (accepted s.role d past) (marks s.role d past) refl (sym (are_placed s past l.1 d))
are_placed s (Got f ∷ past) l d =
    come (opens_now s.role d (wire past) (station.Got f)) (carries d f && is_open s.role d (wire past)) (marks s.role d past) (map Line (lines_ended s.role d (wire past) f))
    (λ cs. placed s.role d cs (wire past)) (accepted s.role d past) (are_placed s past l.1 d)
are_placed s (Sent f ∷ past) l d =
    let qs = accepted s.role d past in
    still s.role d (wire past) (station.Sent f) qs (marks s.role d (Sent f ∷ past)) refl
    (gone (carries d f && is_open s.role d (wire past)) (marks s.role d past) (placed s.role d (map line_of qs) (wire past)) (begun_placed s.role d past f) _ (are_placed s past l.1 d)
    (same_begun (length (information_out s.role d past)) (length f.info) qs))

-- and so on every connection
pub are_marks_placed : (s : Setting) (past : List Act) → Lawful s past → AreMarksPlaced s past
unfolding AreMarksPlaced
are_marks_placed s past l d = are_placed s past l d

-- ## All lines

no_lines : (qs : List Request) → lines_of (map (λ (q : Request). Begun (line_of q)) qs) ≡ []
no_lines [] = refl
no_lines (q ∷ qs) = no_lines qs

marks_by : (before : List (List Mark)) (ms : List Mark) → flat_map lines_of (before ++ ms ∷ []) ≡ flat_map lines_of before ++ lines_of ms
marks_by before ms = flat_map-append lines_of before (ms ∷ []) ∙ ap (λ (v : List (List ℕ)). flat_map lines_of before ++ v) (append-nil (lines_of ms))

-- marks that have so many lines more
marks_more : (before : List (List Mark)) (ms more : List Mark) (ls : List (List ℕ)) → lines_of more ≡ ls
    → flat_map lines_of (before ++ (ms ++ more) ∷ []) ≡ flat_map lines_of (before ++ ms ∷ []) ++ ls
marks_more before ms more ls e =
    let old = flat_map lines_of before in
    marks_by before (ms ++ more)
    ∙ (ap (λ (v : List (List ℕ)). old ++ v) (lines_of-append ms more ∙ ap (λ (v : List (List ℕ)). lines_of ms ++ v) e)
    ∙ (sym (append_assoc old (lines_of ms) ls) ∙ ap (λ (v : List (List ℕ)). v ++ ls) (sym (marks_by before ms))))

marks_got : (o c : Bool) (before : List (List Mark)) (ms : List Mark) (ls : List (List ℕ)) → (o ≡ true → c ≡ false)
    → flat_map lines_of ((before ++ (if o then ms ∷ [] else [])) ++ (if o then [] else (if c then ms ++ map Line ls else ms)) ∷ [])
    ≡ flat_map lines_of (before ++ ms ∷ []) ++ (if c then ls else [])
marks_got true true before ms ls h = absurd (let e : true ≡ false = h refl in cc)
marks_got true false before ms ls h = marks_by (before ++ ms ∷ []) []
marks_got false true before ms ls h =
    ap (λ (v : List (List Mark)). flat_map lines_of (v ++ (ms ++ map Line ls) ∷ [])) (append-nil before) ∙ marks_more before ms (map Line ls) ls (lines_placed_are ls)
marks_got false false before ms ls h =
    ap (λ (v : List (List Mark)). flat_map lines_of (v ++ ms ∷ [])) (append-nil before) ∙ sym (append-nil (flat_map lines_of (before ++ ms ∷ [])))

marks_sent : (c : Bool) (before : List (List Mark)) (ms more : List Mark) → lines_of more ≡ []
    → flat_map lines_of (before ++ (if c then ms ++ more else ms) ∷ []) ≡ flat_map lines_of (before ++ ms ∷ [])
marks_sent true before ms more e = marks_more before ms more [] e ∙ append-nil (flat_map lines_of (before ++ ms ∷ []))
marks_sent false before ms more e = refl

have_lines : (s : Setting) (past : List Act) (d : ℕ) → flat_map lines_of (all_marks s.role d past) ≡ lines_on d (lines_got s.role (wire past))
have_lines s [] d = refl
have_lines s (Took q ∷ past) d = have_lines s past d
have_lines s (Told o ∷ past) d = have_lines s past d
have_lines s (Heard k e line ∷ past) d = have_lines s past d
have_lines s (Held e ∷ past) d = have_lines s past d
have_lines s (Freed e ∷ past) d = have_lines s past d
have_lines s (Tick ∷ past) d = have_lines s past d
have_lines s (Lost ∷ past) d = have_lines s past d
have_lines s (Given ∷ past) d = have_lines s past d
have_lines s (Got f ∷ past) d =
    let w = wire past in
    let o = opens_now s.role d w (station.Got f) in
    let c = carries d f && is_open s.role d w in
    let ls = lines_ended s.role d w f in
    marks_got o c (earlier_marks s.role d past) (marks s.role d past) ls (got_none o (carries d f) (is_open s.role d w) (opens_bare s.role _ _ d f))
    ∙ (ap (λ (v : List (List ℕ)). v ++ (if c then ls else [])) (have_lines s past d)
    ∙ (ap (λ (v : List (List ℕ)). lines_on d (lines_got s.role w) ++ v) (sym (with_on s.role d w f (f.dlci == d) refl))
    ∙ sym (on_both d (lines_got s.role w) (lines_with s.role w f))))
have_lines s (Sent f ∷ past) d =
    let out = length (information_out s.role d past) in
    let qs = accepted s.role d past in
    marks_sent (carries d f && is_open s.role d (wire past)) (earlier_marks s.role d past) (marks s.role d past) (begun_placed s.role d past f)
    (no_lines (drop (whole_in out (texts qs)) (whole_after (out + length f.info) qs)))
    ∙ have_lines s past d

-- the lines marked in all openings of a connection are its own among those of all connections
pub have_marks_all_lines : (s : Setting) (past : List Act) → HaveMarksAllLines s past
unfolding HaveMarksAllLines
have_marks_all_lines s past d = have_lines s past d
