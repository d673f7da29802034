-- The commands that begin are the first of those accepted, each where no window is open.
use Rattle.std.specs.Prelude.{◌≡◌, ℕ, suc, ◌+◌, ◌<◌, ◌≤◌, ◌==◌, ◌&&◌, ◌||◌, not, nat_le, Bool, true, false, IsTrue, List, [], ◌∷◌, ◌++◌, length, map, take, drop, refl, if◌then◌else◌, Option, Some, None, option_map, IsNone}
use Rattle.std.specs.List.{concat}
use Rattle.std.proofs.Common.{ap, sym, ◌∙◌, subst, arith, append-nil, append_assoc, length-append, eqb-true, leb-true}
use Rattle.std.proofs.lemmas.Bool.{and_parts, and_from}
use Rattle.std.proofs.lemmas.List.{take-append-drop, take-append-le, length-take-le, map-append, length-map}
use Rattle.mux_frame.specs.Frames.{Frame}
use Rattle.mux_frame.specs.declared.frame.Kind.TheVariants.{Uih}
use Rattle.mux_station.specs.declared.role.Role.{Role}
use Rattle.mux_station.specs.declared.role.Role.TheVariants.{Initiator, Responder}
use Rattle.mux_station.specs.Acts as station
use Rattle.mux_station.specs.Written.{is_kind, is_on, is_data_frame}
use Rattle.mux_station.specs.Messages.{cld, brings_command}
use Rattle.mux_station.specs.Opening.{since, since_after, opens, ends, opens_now, belongs, is_open}
use Rattle.at_text.specs.Dialects.{Dialect}
use Rattle.at_text.specs.Lines.{lines}
use Rattle.at_text.specs.Windows.{Mark, Line, Begun, Window, IsInTurn, answered, open_window}
use Rattle.at_text.specs.OpenWindow.{shown, opened, FitsMarks, seen_by, after_line}
use Rattle.at_text.proofs.windows.AnswerWindows.{fits_nothing, sees, begins}
use Rattle.modem_desk.specs.declared.request.Request.{Request}
use Rattle.modem_history.specs.Acts.{Act, Took, Got, Sent, Told, Heard, Tick, Lost, Held, Freed, Given, wire}
use Rattle.modem_history.specs.Information.{carries, info_sent, accepted, is_accepted, texts, line_of, information_out}
use Rattle.modem_history.specs.Placing.{marks, run_on, whole_in, reached_in, whole_after, begun_placed}
use Rattle.modem_history.specs.Calls.{Setting}
use Rattle.modem_history.specs.Lawful.{Lawful, When, Gated, InTurn, owed}
use Rattle.modem_history.specs.Begun.{begun_count, IsInOrder}
use Rattle.modem_history.specs.Wholes.{begun_in, BeginsInTurn, IsPrefixOf}
use Rattle.modem_history.proofs.commands.TextCounts.{texts_filled}
use Rattle.modem_history.proofs.commands.WholeTexts.{whole_reached, whole_few, whole_more, whole_push, take_within}
use Rattle.modem_history.proofs.commands.CommandOrder.{order_line, order_begun, open_count, counts}
use Rattle.modem_history.proofs.commands.SentPrefixes.{leaves_once, when_true}
use Rattle.modem_history.proofs.law_proofs.WholeHistories.{not_true}
use Rattle.modem_history.proofs.outcomes.OutcomeCounts.{data_on, is_data}

-- ## Marks

-- the commands begun among joined marks are those of the first, and then those of the second
pub begun_append : (xs ys : List Mark) → begun_in (xs ++ ys) ≡ begun_in xs ++ begun_in ys
begun_append [] ys = refl
begun_append (Line l ∷ xs) ys = begun_append xs ys
begun_append (Begun c ∷ xs) ys = ap (λ (v : List (List ℕ)). c ∷ v) (begun_append xs ys)

-- no command begins among lines alone
pub begun_lines : (ls : List (List ℕ)) → begun_in (map Line ls) ≡ []
begun_lines [] = refl
begun_lines (l ∷ ls) = begun_lines ls

-- the marks of commands that begin, each with its text
abbrev pub marks_of : List Request → List Mark
marks_of qs = map (λ (q : Request). Begun (line_of q)) qs

begun_commands : (qs : List Request) → begun_in (marks_of qs) ≡ map line_of qs
begun_commands [] = refl
begun_commands (q ∷ qs) = ap (λ (v : List (List ℕ)). line_of q ∷ v) (begun_commands qs)

-- as many commands have begun as are counted
pub begun_counted : (ms : List Mark) → length (begun_in ms) ≡ begun_count ms
begun_counted [] = refl
begun_counted (Line l ∷ ms) = begun_counted ms
begun_counted (Begun c ∷ ms) = let h = begun_counted ms in omega (arith, h)

-- marks in turn, in both forms
pub record Turns (dialect : Dialect) (ms : List Mark) : Type 0 where
  pub in_turn : IsInTurn dialect ms
  pub order : IsInOrder dialect ms

turns_none : (dialect : Dialect) → Turns dialect []
turns_none dialect = record { in_turn = (fits_nothing dialect None refl).in_turn; order = tt }

fits_itself : (dialect : Dialect) (ms : List Mark) → Turns dialect ms → FitsMarks dialect (option_map (shown dialect) (open_window dialect ms)) ms
fits_itself dialect ms t = record { in_turn = t.in_turn; shows = refl }

turns_line : (dialect : Dialect) (ms : List Mark) (l : List ℕ) → Turns dialect ms → Turns dialect (ms ++ Line l ∷ [])
turns_line dialect ms l t =
    let w = option_map (shown dialect) (open_window dialect ms) in
    record { in_turn = (sees dialect w (after_line dialect w l) ms l (seen_by dialect w l) (fits_itself dialect ms t) refl refl).fits.in_turn; order = order_line dialect ms l t.order }

-- marks in turn stay so with lines behind them
pub turns_lines : (dialect : Dialect) (ls : List (List ℕ)) (ms : List Mark) → Turns dialect ms → Turns dialect (ms ++ map Line ls)
turns_lines dialect [] ms t = subst (Turns dialect) (sym (append-nil ms)) t
turns_lines dialect (l ∷ ls) ms t = subst (Turns dialect) (append_assoc ms (Line l ∷ []) (map Line ls)) (turns_lines dialect ls (ms ++ Line l ∷ []) (turns_line dialect ms l t))

turns_begun : (dialect : Dialect) (ms : List Mark) (c : List ℕ) → open_window dialect ms ≡ None → Turns dialect ms → Turns dialect (ms ++ Begun c ∷ [])
turns_begun dialect ms c none t =
    let w = option_map (shown dialect) (open_window dialect ms) in
    let closed : IsNone w = subst (λ (o : Option Window). IsNone (option_map (shown dialect) o)) (sym none) refl in
    record { in_turn = (begins dialect w (Some (opened c)) ms c (fits_itself dialect ms t) closed refl).in_turn; order = order_begun dialect ms c none t.order }

-- where no open window is counted, none is open
pub no_open_window : (o : Option Window) → open_count o ≡ 0 → o ≡ None
no_open_window None e = refl
no_open_window (Some w) e = cc

-- commands begin, one at most, and only where all before are answered
turns_few : (dialect : Dialect) (ms : List Mark) (qs : List Request) → Turns dialect ms → begun_count ms + length qs ≤ answered dialect ms + 1 → Turns dialect (ms ++ marks_of qs)
turns_few dialect ms [] t h = subst (Turns dialect) (sym (append-nil ms)) t
turns_few dialect ms (q ∷ []) t h =
    let all = counts dialect ms t.order in
    let none : open_count (open_window dialect ms) ≡ 0 = omega (arith, all, h) in
    turns_begun dialect ms (line_of q) (no_open_window (open_window dialect ms) none) t
turns_few dialect ms (q ∷ r ∷ qs) t h = absurd (let all = counts dialect ms t.order in omega (arith, all, h))

-- ## What is kept

pub record KeptCommands (dialect : Dialect) (ms : List Mark) (out : List ℕ) (qs : List Request) : Type 0 where
  pub turns : Turns dialect ms
  pub first : begun_in ms ≡ map line_of (whole_after (length out) qs)

kept_none : (dialect : Dialect) → KeptCommands dialect [] [] []
kept_none dialect = record { turns = turns_none dialect; first = refl }

kept_lines : (dialect : Dialect) (ms : List Mark) (out : List ℕ) (qs : List Request) (ls : List (List ℕ)) → KeptCommands dialect ms out qs → KeptCommands dialect (ms ++ map Line ls) out qs
kept_lines dialect ms out qs ls k = record {
  turns = turns_lines dialect ls ms k.turns;
  first = begun_append ms (map Line ls) ∙ (ap (λ (v : List (List ℕ)). begun_in ms ++ v) (begun_lines ls) ∙ (append-nil (begun_in ms) ∙ k.first));
}

texts_more : (qs : List Request) (q : Request) → texts (qs ++ q ∷ []) ≡ texts qs ++ (line_of q ++ 13 ∷ []) ∷ []
texts_more qs q = map-append (λ (r : Request). line_of r ++ 13 ∷ []) qs (q ∷ [])

-- commands go out as one text each
pub texts_counted : (qs : List Request) → length (texts qs) ≡ length qs
texts_counted [] = refl
texts_counted (q ∷ qs) = ap suc (texts_counted qs)

kept_accepted : (dialect : Dialect) (ms : List Mark) (out : List ℕ) (qs : List Request) (q : Request) → IsPrefixOf out (concat (texts qs)) → KeptCommands dialect ms out qs → KeptCommands dialect ms out (qs ++ q ∷ [])
kept_accepted dialect ms out qs q p k =
    let n = length out in
    let text = line_of q ++ 13 ∷ [] in
    let long : 0 < length text = omega (arith, length-append (line_of q) (13 ∷ [])) in
    let joined : length out + length p.rest ≡ length (concat (texts qs)) = sym (length-append out p.rest) ∙ ap length p.joins in
    let within : n ≤ length (concat (texts qs)) = omega (arith, joined) in
    let same : whole_in n (texts (qs ++ q ∷ [])) ≡ whole_in n (texts qs) = ap (whole_in n) (texts_more qs q) ∙ whole_push n (texts qs) text within long in
    let few : whole_in n (texts qs) ≤ length qs = omega (arith, whole_few n (texts qs), texts_counted qs) in
    let whole : whole_after n (qs ++ q ∷ []) ≡ whole_after n qs = ap (λ (m : ℕ). take m (qs ++ q ∷ [])) same ∙ take-append-le (whole_in n (texts qs)) qs (q ∷ []) few in
    record { turns = k.turns; first = k.first ∙ sym (ap (map line_of) whole) }

kept_sent : (dialect : Dialect) (ms : List Mark) (out chunk : List ℕ) (qs : List Request) → reached_in (length (out ++ chunk)) (texts qs) ≤ answered dialect ms + 1 → KeptCommands dialect ms out qs
    → KeptCommands dialect (ms ++ marks_of (drop (whole_in (length out) (texts qs)) (whole_after (length out + length chunk) qs))) (out ++ chunk) qs
kept_sent dialect ms out chunk qs turn k =
    let n = length out in
    let m = length out + length chunk in
    let size : length (out ++ chunk) ≡ m = length-append out chunk in
    let before = whole_in n (texts qs) in
    let after = whole_in m (texts qs) in
    let more : before ≤ after = whole_more n m (texts qs) (omega arith) in
    let few : after ≤ length qs = omega (arith, whole_few m (texts qs), texts_counted qs) in
    let new = drop before (whole_after m qs) in
    let split : take before (whole_after m qs) ++ new ≡ whole_after m qs = take-append-drop before (whole_after m qs) in
    let old : take before (whole_after m qs) ≡ whole_after n qs = take_within before after qs more in
    let counted : before + length new ≡ after =
    let a : length (whole_after n qs) ≡ before = length-take-le before qs (omega (arith, more, few)) in
    let b : length (whole_after m qs) ≡ after = length-take-le after qs few in
    let c : length (take before (whole_after m qs)) + length new ≡ length (whole_after m qs) = sym (length-append (take before (whole_after m qs)) new) ∙ ap length split in
    let d : length (take before (whole_after m qs)) ≡ length (whole_after n qs) = ap length old in
    omega (arith, a, b, c, d) in
    let begun : begun_count ms ≡ before =
    sym (begun_counted ms) ∙ (ap length k.first ∙ (length-map (whole_after n qs) line_of ∙ length-take-le before qs (omega (arith, more, few)))) in
    let reached : after ≤ reached_in m (texts qs) = whole_reached m (texts qs) (texts_filled qs) in
    let turn_now : reached_in m (texts qs) ≤ answered dialect ms + 1 = subst (λ (x : ℕ). reached_in x (texts qs) ≤ answered dialect ms + 1) size turn in
    let placed : begun_in (ms ++ marks_of new) ≡ map line_of (whole_after m qs) =
    begun_append ms (marks_of new) ∙ (ap (λ (v : List (List ℕ)). v ++ begun_in (marks_of new)) k.first
    ∙ (ap (λ (v : List (List ℕ)). map line_of (whole_after n qs) ++ v) (begun_commands new)
    ∙ (sym (map-append line_of (whole_after n qs) new) ∙ ap (map line_of) (ap (λ (v : List Request). v ++ new) (sym old) ∙ split)))) in
    record {
      turns = turns_few dialect ms new k.turns (omega (arith, counted, begun, reached, turn_now));
      first = placed ∙ ap (λ (x : ℕ). map line_of (whole_after x qs)) (sym size);
    }

-- ## Acts of the station

-- a frame that is sent opens no connection
pub opens_by_sent : (r : Role) (z k : Bool) (d : ℕ) (f : Frame) → opens r z k d (station.Sent f) ≡ false
opens_by_sent Initiator z k d f = refl
opens_by_sent Responder z k d f = refl

-- nor does a tick
pub opens_by_tick : (r : Role) (z k : Bool) (d : ℕ) → opens r z k d station.Tick ≡ false
opens_by_tick Initiator z k d = refl
opens_by_tick Responder z k d = refl

opens_by_loss : (r : Role) (z k : Bool) (d : ℕ) → opens r z k d station.Lost ≡ false
opens_by_loss Initiator z k d = refl
opens_by_loss Responder z k d = refl

-- nor does the mark of a frame given on
pub opens_by_mark : (r : Role) (z k : Bool) (d : ℕ) → opens r z k d station.Given ≡ false
opens_by_mark Initiator z k d = refl
opens_by_mark Responder z k d = refl

-- an act by which nothing opens, and nothing leaves
kept_idle : (dialect : Dialect) (o b : Bool) (d : ℕ) (a : station.Act) (rest : List station.Act) (ms : List Mark) (qs : List Request) → o ≡ false → info_sent d (a ∷ rest) ≡ info_sent d rest
    → KeptCommands dialect ms (info_sent d rest) qs → KeptCommands dialect ms (info_sent d (since_after o b a rest)) (if o then [] else qs)
kept_idle dialect true b d a rest ms qs e h k = cc
kept_idle dialect false true d a rest ms qs e h k = subst (λ (v : List ℕ). KeptCommands dialect ms v qs) (sym h) k
kept_idle dialect false false d a rest ms qs e h k = k

-- a frame that comes
kept_got : (dialect : Dialect) (o b c : Bool) (d : ℕ) (f : Frame) (rest : List station.Act) (ms : List Mark) (qs : List Request) (ls : List (List ℕ)) → KeptCommands dialect ms (info_sent d rest) qs
    → KeptCommands dialect (if o then [] else (if c then ms ++ map Line ls else ms)) (info_sent d (since_after o b (station.Got f) rest)) (if o then [] else qs)
kept_got dialect true b c d f rest ms qs ls k = kept_none dialect
kept_got dialect false true true d f rest ms qs ls k = kept_lines dialect ms (info_sent d rest) qs ls k
kept_got dialect false false true d f rest ms qs ls k = kept_lines dialect ms (info_sent d rest) qs ls k
kept_got dialect false true false d f rest ms qs ls k = k
kept_got dialect false false false d f rest ms qs ls k = k

-- a frame that leaves
kept_leaves : (dialect : Dialect) (o b c i : Bool) (d : ℕ) (f : Frame) (rest : List station.Act) (ms more : List Mark) (qs : List Request) → o ≡ false → carries d f ≡ c → (c ≡ true → (b ≡ true) × (i ≡ true))
    → KeptCommands dialect ms (info_sent d rest) qs → (c ≡ true → KeptCommands dialect (ms ++ more) (info_sent d rest ++ f.info) qs)
    → KeptCommands dialect (if c && i then ms ++ more else ms) (info_sent d (since_after o b (station.Sent f) rest)) (if o then [] else qs)
kept_leaves dialect true b c i d f rest ms more qs e h w k l = cc
kept_leaves dialect false true true true d f rest ms more qs e h w k l = subst (λ (x : Bool). KeptCommands dialect (ms ++ more) (info_sent d rest ++ (if x then f.info else [])) qs) (sym h) (l refl)
kept_leaves dialect false b true false d f rest ms more qs e h w k l = absurd (let g : false ≡ true = (w refl).1 in cc)
kept_leaves dialect false false true true d f rest ms more qs e h w k l = absurd (let g : false ≡ true = (w refl).0 in cc)
kept_leaves dialect false true false i d f rest ms more qs e h w k l =
    subst (λ (x : Bool). KeptCommands dialect ms (info_sent d rest ++ (if x then f.info else [])) qs) (sym h) (subst (λ (v : List ℕ). KeptCommands dialect ms v qs) (sym (append-nil (info_sent d rest))) k)
kept_leaves dialect false false false i d f rest ms more qs e h w k l = k

-- ## Whole histories

le_of : (a b : ℕ) → IsTrue (nat_le a b) → a ≤ b
le_of a b h = leb-true a b h

none_or : (x y : Bool) → x ≡ false → (x || (y && x)) ≡ false
none_or false true e = refl
none_or false false e = refl
none_or true y e = cc

-- data ends nothing
pub data_ends_none : (z : Bool) (d e : ℕ) (f : Frame) → (e == 0) ≡ false → ends z d (station.Sent (data_on e f)) ≡ false
data_ends_none z d e f h = none_or (brings_command cld (data_on e f)) (not (d == 0)) (rw h refl)

-- what a frame is that carries information on d
pub record Carried (d : ℕ) (f : Frame) : Type 0 where
  pub is_data : is_data_frame f ≡ true
  pub same : f.dlci ≡ d
  pub apart : (d == 0) ≡ false

-- a frame that carries information on d is data on d, and d isn't 0
pub carried : (d : ℕ) (f : Frame) → carries d f ≡ true → Carried d f
carried d f e =
    let parts = and_parts (not (d == 0)) (is_on Uih d f) e in
    let more = and_parts (is_kind f.kind Uih) (f.dlci == d) parts.1 in
    let same : f.dlci ≡ d = eqb-true f.dlci d more.1 in
    let apart : not (f.dlci == 0) ≡ true = ap (λ (m : ℕ). not (m == 0)) same ∙ parts.0 in
    record { is_data = and_from (is_kind f.kind Uih) (not (f.dlci == 0)) more.0 apart; same = same; apart = not_true (d == 0) parts.0 }

belongs_by : (b c : Bool) → b ≡ true → c ≡ false → (b && not c) ≡ true
belongs_by true false e h = refl
belongs_by true true e h = cc
belongs_by false c e h = cc

data_belongs : (s : Setting) (d : ℕ) (past : List Act) (f : Frame) → Carried d f → is_open s.role d (wire past) ≡ true → belongs s.role d (wire past) (station.Sent f) ≡ true
data_belongs s d past f c h =
    let z = is_open s.role 0 (wire past) in
    let as_data : f ≡ data_on d f = is_data f c.is_data ∙ ap (λ (e : ℕ). data_on e f) c.same in
    belongs_by (is_open s.role d (wire past)) (ends z d (station.Sent f)) h (ap (λ (g : Frame). ends z d (station.Sent g)) as_data ∙ data_ends_none z d d f c.apart)

kept_taken : (dialect : Dialect) (b : Bool) (ms : List Mark) (out : List ℕ) (qs : List Request) (q : Request) → IsPrefixOf out (concat (texts qs)) → KeptCommands dialect ms out qs → KeptCommands dialect ms out (if b then qs ++ q ∷ [] else qs)
kept_taken dialect true ms out qs q p k = kept_accepted dialect ms out qs q p k
kept_taken dialect false ms out qs q p k = k

-- a data frame is gated, and in its turn
gated_open : (s : Setting) (past owing : List Act) (d : ℕ) (f : Frame) → When (is_data_frame f) (Gated s past owing f) → Carried d f → is_open s.role d (wire past) ≡ true
gated_open s past owing d f w c = subst (λ (m : ℕ). is_open s.role m (wire past) ≡ true) c.same (when_true (is_data_frame f) c.is_data w).is_open

turn_on : (s : Setting) (past : List Act) (d : ℕ) (f : Frame) → When (is_data_frame f) (InTurn s past f) → Carried d f
    → reached_in (length (information_out s.role d past ++ f.info)) (texts (accepted s.role d past)) ≤ answered s.dialect (marks s.role d past) + 1
turn_on s past d f w c =
    subst (λ (m : ℕ). reached_in (length (information_out s.role m past ++ f.info)) (texts (accepted s.role m past)) ≤ answered s.dialect (marks s.role m past) + 1) c.same
    (le_of _ _ (when_true (is_data_frame f) c.is_data w))

-- in a lawful history the marks of each connection are in turn, and the commands begun are the accepted ones wholly sent
pub kept : (s : Setting) (past : List Act) → Lawful s past → (d : ℕ) → KeptCommands s.dialect (marks s.role d past) (information_out s.role d past) (accepted s.role d past)
unfolding Lawful
kept s [] l d = kept_none s.dialect
kept s (Took q ∷ past) l d =
    kept_taken s.dialect (is_accepted s.role d past q) (marks s.role d past) (information_out s.role d past) (accepted s.role d past) q (leaves_once s past l.1 d) (kept s past l.1 d)
kept s (Told o ∷ past) l d = kept s past l.1 d
kept s (Heard kind e line ∷ past) l d = kept s past l.1 d
kept s (Held e ∷ past) l d = kept s past l.1 d
kept s (Freed e ∷ past) l d = kept s past l.1 d
kept s (Got f ∷ past) l d =
    kept_got s.dialect (opens_now s.role d (wire past) (station.Got f)) (belongs s.role d (wire past) (station.Got f)) (carries d f && is_open s.role d (wire past)) d f (since s.role d (wire past))
    (marks s.role d past) (accepted s.role d past) (lines (run_on s.role d past ++ f.info)) (kept s past l.1 d)
kept s (Tick ∷ past) l d =
    kept_idle s.dialect (opens_now s.role d (wire past) station.Tick) (belongs s.role d (wire past) station.Tick) d station.Tick (since s.role d (wire past))
    (marks s.role d past) (accepted s.role d past) (opens_by_tick s.role _ _ d) refl (kept s past l.1 d)
kept s (Lost ∷ past) l d =
    kept_idle s.dialect (opens_now s.role d (wire past) station.Lost) (belongs s.role d (wire past) station.Lost) d station.Lost (since s.role d (wire past))
    (marks s.role d past) (accepted s.role d past) (opens_by_loss s.role _ _ d) refl (kept s past l.1 d)
kept s (Given ∷ past) l d =
    kept_idle s.dialect (opens_now s.role d (wire past) station.Given) (belongs s.role d (wire past) station.Given) d station.Given (since s.role d (wire past))
    (marks s.role d past) (accepted s.role d past) (opens_by_mark s.role _ _ d) refl (kept s past l.1 d)
kept s (Sent f ∷ past) l d =
    let before = kept s past l.1 d in
    let gone : carries d f ≡ true → is_open s.role d (wire past) ≡ true = λ e. gated_open s past (owed s past) d f l.0.gated (carried d f e) in
    kept_leaves s.dialect (opens_now s.role d (wire past) (station.Sent f)) (belongs s.role d (wire past) (station.Sent f)) (carries d f) (is_open s.role d (wire past)) d f (since s.role d (wire past))
    (marks s.role d past) (begun_placed s.role d past f) (accepted s.role d past) (opens_by_sent s.role _ _ d f) refl
    (λ e. (data_belongs s d past f (carried d f e) (gone e), gone e)) before
    (λ e. kept_sent s.dialect (marks s.role d past) (information_out s.role d past) f.info (accepted s.role d past) (turn_on s past d f l.0.in_turn (carried d f e)) before)

-- so in a lawful history commands begin in turn on every connection
pub begins_in_turn : (s : Setting) (past : List Act) → Lawful s past → BeginsInTurn s past
unfolding BeginsInTurn
begins_in_turn s past l d = let k = kept s past l d in record { in_turn = k.turns.in_turn; first = k.first }
