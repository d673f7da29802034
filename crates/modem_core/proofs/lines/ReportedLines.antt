-- What is said of lines, whatever is listened to.
use Rattle.std.specs.Prelude.{suc, ◌≡◌, ℕ, ◌+◌, ◌≤◌, ◌↔◌, Bool, true, false, List, [], ◌∷◌, ◌++◌, ◌-◌, length, take, drop, refl, Option, option_map, Result, Ok, Err, OnOk, OnErr, if◌then◌else◌}
use Rattle.std.specs.List.{Contains}
use Rattle.std.proofs.Common.{ap, sym, ◌∙◌, subst, arith, append-nil, append_assoc, length-append}
use Rattle.std.proofs.Math.Seq.{drop-append_seam}
use Rattle.std.proofs.lemmas.List.{drop-drop, length-drop, take_all, take-append-drop}
use Rattle.at_text.specs.declared.unsolicited.UrcKind.{UrcKind}
use Rattle.at_text.specs.Dialects.{Dialect}
use Rattle.at_text.specs.Lines.{lines, kept_run, ReadsOn}
use Rattle.at_text.specs.OpenWindow.{OpenWindow, seen_by, after_line}
use Rattle.at_text.specs.UnderWay.{UnderWay, window_of}
use Rattle.modem_queues.specs.declared.asker.Asker.{Asker}
use Rattle.mux_frame.specs.Frames.{Frame}
use Rattle.modem_history.specs.Acts.{Act, Got, Heard}
use Rattle.modem_history.specs.Calls.{first_on}
use Rattle.modem_core.specs.Cores.{dialect_in, Core, lane_at}
use Rattle.modem_core.specs.Lanes.{Lane, awaits_echo}
use Rattle.modem_core.specs.Handing.{ReadsFrame, text_on, window_by}
use Rattle.modem_queues.specs.Stops.{asker_of}
use Rattle.modem_core.specs.Reports.{Listens, heard_by, said_as, said_lines, Read, after_all, read_on, read_each, ReadingView, ReadsAll, ReportSays}
use Rattle.modem_history.specs.Kinds.{is_listened}
use Rattle.modem_core.proofs.lines.LateLines.{reads_late}
use Rattle.modem_core.proofs.sessions.steps.Kinds.{in_listened, listened_in}

-- where nothing is said the acts stay as they are
pub nothing_said : (r : ReadingView) (xs : List Act) → ReportSays r (λ listens. []) xs xs
unfolding ReportSays
nothing_said r xs listens h = sym (append-nil xs)

-- what is said whatever is listened to goes behind the acts
pub said_so : (r : ReadingView) (said old new : List Act) → new ≡ old ++ said → ReportSays r (λ listens. said) old new
unfolding ReportSays
said_so r said old new e listens h = e

-- a line of a kind that nobody listens to says nothing
pub unheard : (r : ReadingView) (kind : UrcKind) (line : List ℕ) (xs : List Act) (b : Bool) → b ≡ false → (b ≡ true) ↔ Contains r.kinds kind → ReportSays r (λ listens. heard_by listens r.dlci kind line) xs xs
unfolding ReportSays Listens
unheard r kind line xs b n e listens h = by_kind (listens kind) refl
  where
    by_kind : (l : Bool) → listens kind ≡ l → xs ≡ xs ++ (if l then Heard kind r.dlci line ∷ [] else [])
    by_kind false g = sym (append-nil xs)
    by_kind true g = absurd (let t : b ≡ true = e.1 ((h kind).0 g) in let x : false ≡ true = sym n ∙ t in cc)

-- a line of a kind that is listened to is heard
pub heard : (r : ReadingView) (kind : UrcKind) (line : List ℕ) (old new : List Act) (b : Bool) → b ≡ true → (b ≡ true) ↔ Contains r.kinds kind
    → new ≡ old ++ Heard kind r.dlci line ∷ [] → ReportSays r (λ listens. heard_by listens r.dlci kind line) old new
unfolding ReportSays Listens
heard r kind line old new b t e g listens h =
    let on : listens kind ≡ true = (h kind).1 (e.0 t) in
    g ∙ ap (λ (l : Bool). old ++ (if l then Heard kind r.dlci line ∷ [] else [])) (sym on)

-- ## Octets

one_line : (dialect : Dialect) (listens : UrcKind → Bool) (d : ℕ) (owner : Option Asker) (old : Read) (octets l : List ℕ) (new : Read) → lines (old.kept ++ octets) ≡ l ∷ [] → new.kept ≡ kept_run (old.kept ++ octets) → new.window ≡ after_line dialect old.window l
    → new.acts ≡ old.acts ++ said_as listens d owner l (seen_by dialect old.window l) → new ≡ read_on dialect listens d owner old octets
one_line dialect listens d owner old octets l new e k w a =
    ap (λ (x : List ℕ). let v : Read = record { kept = x; window = new.window; acts = new.acts } in v) k
    ∙ (ap (λ (x : Option OpenWindow). let v : Read = record { kept = kept_run (old.kept ++ octets); window = x; acts = new.acts } in v) (w ∙ ap (after_all dialect old.window) (sym e))
    ∙ ap (λ (x : List Act). let v : Read = record { kept = kept_run (old.kept ++ octets); window = after_all dialect old.window (lines (old.kept ++ octets)); acts = x } in v)
    (a ∙ (ap (λ (x : List Act). old.acts ++ x) (sym (append-nil (said_as listens d owner l (seen_by dialect old.window l)))) ∙ ap (λ (ls : List (List ℕ)). old.acts ++ said_lines dialect listens d owner old.window ls) (sym e))))

-- octets none of which ends a line are kept
none_said : (dialect : Dialect) (listens : UrcKind → Bool) (d : ℕ) (owner : Option Asker) (old new : Read) (octets : List ℕ) → [] ≡ lines (old.kept ++ octets) → new.kept ≡ kept_run (old.kept ++ octets) → new.window ≡ old.window → new.acts ≡ old.acts
    → new ≡ read_on dialect listens d owner old octets
none_said dialect listens d owner old new octets e k w a =
    ap (λ (x : List ℕ). let v : Read = record { kept = x; window = new.window; acts = new.acts } in v) k
    ∙ (ap (λ (x : Option OpenWindow). let v : Read = record { kept = kept_run (old.kept ++ octets); window = x; acts = new.acts } in v) (w ∙ ap (after_all dialect old.window) e)
    ∙ ap (λ (x : List Act). let v : Read = record { kept = kept_run (old.kept ++ octets); window = after_all dialect old.window (lines (old.kept ++ octets)); acts = x } in v)
    (a ∙ (sym (append-nil old.acts) ∙ ap (λ (ls : List (List ℕ)). old.acts ++ said_lines dialect listens d owner old.window ls) e)))

each_append : (dialect : Dialect) (listens : UrcKind → Bool) (d : ℕ) (owner : Option Asker) (v : Read) (xs ys : List ℕ) → read_each dialect listens d owner v (xs ++ ys) ≡ read_each dialect listens d owner (read_each dialect listens d owner v xs) ys
each_append dialect listens d owner v [] ys = refl
each_append dialect listens d owner v (c ∷ xs) ys = each_append dialect listens d owner (read_on dialect listens d owner v (c ∷ [])) xs ys

-- ## All of them at once

after_both : (dialect : Dialect) (w : Option OpenWindow) (xs ys : List (List ℕ)) → after_all dialect w (xs ++ ys) ≡ after_all dialect (after_all dialect w xs) ys
after_both dialect w [] ys = refl
after_both dialect w (x ∷ xs) ys = after_both dialect (after_line dialect w x) xs ys

said_both : (dialect : Dialect) (listens : UrcKind → Bool) (d : ℕ) (owner : Option Asker) (w : Option OpenWindow) (xs ys : List (List ℕ))
    → said_lines dialect listens d owner w (xs ++ ys) ≡ said_lines dialect listens d owner w xs ++ said_lines dialect listens d owner (after_all dialect w xs) ys
said_both dialect listens d owner w [] ys = refl
said_both dialect listens d owner w (x ∷ xs) ys =
    ap (λ (v : List Act). said_as listens d owner x (seen_by dialect w x) ++ v) (said_both dialect listens d owner (after_line dialect w x) xs ys)
    ∙ sym (append_assoc (said_as listens d owner x (seen_by dialect w x)) (said_lines dialect listens d owner (after_line dialect w x) xs) (said_lines dialect listens d owner (after_all dialect (after_line dialect w x) xs) ys))

none_more : (xs ys : List (List ℕ)) → xs ≡ xs ++ ys → ys ≡ []
none_more xs [] h = refl
none_more xs (y ∷ ys) h = absurd (let n : length xs ≡ length xs + suc (length ys) = ap length h ∙ length-append xs (y ∷ ys) in omega (arith, n))

-- from what is kept of some text, reading octets one by one is reading them all
pub each_is : (dialect : Dialect) (listens : UrcKind → Bool) (d : ℕ) (owner : Option Asker) (v : Read) (x octets : List ℕ) → ((x y : List ℕ) → ReadsOn x y) → v.kept ≡ kept_run x → read_each dialect listens d owner v octets ≡ read_on dialect listens d owner v octets
each_is dialect listens d owner v x [] on k =
    let e = on x [] in
    let same : kept_run (v.kept ++ []) ≡ v.kept = ap (λ (w : List ℕ). kept_run (w ++ [])) k ∙ (sym e.keeps ∙ (ap kept_run (append-nil x) ∙ sym k)) in
    let none : lines (v.kept ++ []) ≡ [] = ap (λ (w : List ℕ). lines (w ++ [])) k ∙ none_more (lines x) (lines (kept_run x ++ [])) (sym (ap lines (append-nil x)) ∙ e.reads_kept) in
    sym (
    ap (λ (w : List ℕ). let r : Read = record { kept = w; window = after_all dialect v.window (lines (v.kept ++ [])); acts = v.acts ++ said_lines dialect listens d owner v.window (lines (v.kept ++ [])) } in r) same
    ∙ (ap (λ (ls : List (List ℕ)). let r : Read = record { kept = v.kept; window = after_all dialect v.window ls; acts = v.acts ++ said_lines dialect listens d owner v.window ls } in r) none
    ∙ ap (λ (acts : List Act). let r : Read = record { kept = v.kept; window = v.window; acts = acts } in r) (append-nil v.acts)))
each_is dialect listens d owner v x (c ∷ octets) on k =
    let one = read_on dialect listens d owner v (c ∷ []) in
    let y = x ++ c ∷ [] in
    let kept : one.kept ≡ kept_run y = ap (λ (w : List ℕ). kept_run (w ++ c ∷ [])) k ∙ sym (on x (c ∷ [])).keeps in
    let more = each_is dialect listens d owner one y octets on kept in
    let split = on (v.kept ++ c ∷ []) octets in
    let join : (v.kept ++ c ∷ []) ++ octets ≡ v.kept ++ c ∷ octets = append_assoc v.kept (c ∷ []) octets in
    let all_lines : lines (v.kept ++ c ∷ octets) ≡ lines (v.kept ++ c ∷ []) ++ lines (one.kept ++ octets) = ap lines (sym join) ∙ split.reads_kept in
    let kept_all : kept_run (one.kept ++ octets) ≡ kept_run (v.kept ++ c ∷ octets) = sym split.keeps ∙ ap kept_run join in
    more
    ∙ (ap (λ (w : List ℕ). let r : Read = record { kept = w; window = after_all dialect one.window (lines (one.kept ++ octets)); acts = one.acts ++ said_lines dialect listens d owner one.window (lines (one.kept ++ octets)) } in r) kept_all
    ∙ (ap (λ (w : Option OpenWindow). let r : Read = record { kept = kept_run (v.kept ++ c ∷ octets); window = w; acts = one.acts ++ said_lines dialect listens d owner one.window (lines (one.kept ++ octets)) } in r)
    (sym (after_both dialect v.window (lines (v.kept ++ c ∷ [])) (lines (one.kept ++ octets))) ∙ ap (after_all dialect v.window) (sym all_lines))
    ∙ ap (λ (acts : List Act). let r : Read = record { kept = kept_run (v.kept ++ c ∷ octets); window = after_all dialect v.window (lines (v.kept ++ c ∷ octets)); acts = acts } in r)
    (append_assoc v.acts (said_lines dialect listens d owner v.window (lines (v.kept ++ c ∷ []))) (said_lines dialect listens d owner one.window (lines (one.kept ++ octets)))
    ∙ (ap (λ (w : List Act). v.acts ++ w) (sym (said_both dialect listens d owner v.window (lines (v.kept ++ c ∷ [])) (lines (one.kept ++ octets))))
    ∙ ap (λ (ls : List (List ℕ)). v.acts ++ said_lines dialect listens d owner v.window ls) (sym all_lines)))))

-- octets none of which ends a line
pub keeps_run : (r : ReadingView) (old new : Read) (run : List ℕ) → ((x y : List ℕ) → ReadsOn x y) → old.kept ≡ kept_run old.kept → lines (old.kept ++ run) ≡ [] → new.kept ≡ kept_run (old.kept ++ run) → new.window ≡ old.window → new.acts ≡ old.acts
    → ReadsAll r run old new
unfolding ReadsAll
keeps_run r old new run on before none k w a listens h =
    none_said r.dialect listens r.dlci r.owner old new run (sym none) k w a
    ∙ sym (each_is r.dialect listens r.dlci r.owner old old.kept run on before)

-- of no octets nothing is read
pub keeps_none : (r : ReadingView) (v : Read) (run : List ℕ) → run ≡ [] → ReadsAll r run v v
unfolding ReadsAll
keeps_none r v run e listens h = ap (read_each r.dialect listens r.dlci r.owner v) (sym e)

-- octets that end a line: the line is placed, and what it says is said
pub line_ends : (r : ReadingView) (old new : Read) (octets l : List ℕ) → ((x y : List ℕ) → ReadsOn x y) → old.kept ≡ kept_run old.kept → lines (old.kept ++ octets) ≡ l ∷ [] → new.kept ≡ kept_run (old.kept ++ octets) → new.window ≡ after_line r.dialect old.window l
    → ReportSays r (λ listens. said_as listens r.dlci r.owner l (seen_by r.dialect old.window l)) old.acts new.acts → ReadsAll r octets old new
unfolding ReportSays ReadsAll
line_ends r old new octets l on before e k w a listens h =
    one_line r.dialect listens r.dlci r.owner old octets l new e k w (a listens h)
    ∙ sym (each_is r.dialect listens r.dlci r.owner old old.kept octets on before)

-- the same octets
pub reads_same : (r : ReadingView) (old new : Read) (octets all : List ℕ) → all ≡ octets → ReadsAll r octets old new → ReadsAll r all old new
reads_same r old new octets all e h = subst (λ (xs : List ℕ). ReadsAll r xs old new) (sym e) h

-- some octets are read, and then some more
pub reads_both : (r : ReadingView) (old between new : Read) (first more all : List ℕ) → all ≡ first ++ more → ReadsAll r first old between → ReadsAll r more between new → ReadsAll r all old new
unfolding ReadsAll
reads_both r old between new first more all e s t listens h =
    t listens h
    ∙ (ap (λ (v : Read). read_each r.dialect listens r.dlci r.owner v more) (s listens h)
    ∙ (sym (each_append r.dialect listens r.dlci r.owner old first more) ∙ ap (λ (w : List ℕ). read_each r.dialect listens r.dlci r.owner old w) (sym e)))

-- ## Runs of the octets

-- what is lent from a place on is what is left there
pub left_all : (place : ℕ) (all : List ℕ) → take (length all - place) (drop place all) ≡ drop place all
left_all place all = take_all (length all - place) (drop place all) (rw length-drop (omega arith))

-- a run is the first of what is left
pub left_over : (n place : ℕ) (all : List ℕ) → place ≤ length all → n ≤ length (drop place all) → (place + n ≤ length all) × (drop place all ≡ take n (drop place all) ++ drop (place + n) all)
left_over n place all inside few =
    let counted : length (drop place all) ≡ length all - place = length-drop place all in
    let rest : drop n (drop place all) ≡ drop (place + n) all = drop-drop n place all in
    (omega (arith, inside, few, counted), sym (take-append-drop n (drop place all)) ∙ ap (λ (xs : List ℕ). take n (drop place all) ++ xs) rest)

-- so many first of what is left, and what is left behind them
pub reads_rest : (r : ReadingView) (old between new : Read) (n : ℕ) (all : List ℕ) → ReadsAll r (take n all) old between → ReadsAll r (take (length all - n) (drop n all)) between new → ReadsAll r all old new
reads_rest r old between new n all s t =
    reads_both r old between new (take n all) (take (length all - n) (drop n all)) all
    (sym (take-append-drop n all) ∙ ap (λ (xs : List ℕ). take n all ++ xs) (sym (left_all n all))) s t

-- ## What the calls say

-- where a call succeeds, what follows from its promise is so too
pub on_ok : {A E : Type 0} (P Q : Type 0) (r : Result A E) → (P → Q) → OnOk r P → OnOk r Q
on_ok P Q (Ok a) f p = f p
on_ok P Q (Err e) f p = tt

-- what is so in any case is so where it fails
pub on_err : {A E : Type 0} (P : Type 0) (r : Result A E) → P → OnErr r P
on_err P (Ok a) p = tt
on_err P (Err e) p = p

-- ## What was said before

led : List Act → Read → Read
led before r = record { kept = r.kept; window = r.window; acts = before ++ r.acts }

on_led : (dialect : Dialect) (listens : UrcKind → Bool) (d : ℕ) (owner : Option Asker) (before : List Act) (r : Read) (octets : List ℕ) → read_on dialect listens d owner (led before r) octets ≡ led before (read_on dialect listens d owner r octets)
unfolding led
on_led dialect listens d owner before r octets =
    ap (λ (acts : List Act). let v : Read = record { kept = kept_run (r.kept ++ octets); window = after_all dialect r.window (lines (r.kept ++ octets)); acts = acts } in v)
    (append_assoc before r.acts (said_lines dialect listens d owner r.window (lines (r.kept ++ octets))))

-- what is said goes behind acts of before
each_led : (dialect : Dialect) (listens : UrcKind → Bool) (d : ℕ) (owner : Option Asker) (before : List Act) (r : Read) (octets : List ℕ) → read_each dialect listens d owner (led before r) octets ≡ led before (read_each dialect listens d owner r octets)
each_led dialect listens d owner before r [] = refl
each_led dialect listens d owner before r (c ∷ octets) =
    ap (λ (v : Read). read_each dialect listens d owner v octets) (on_led dialect listens d owner before r (c ∷ []))
    ∙ each_led dialect listens d owner before (read_on dialect listens d owner r (c ∷ [])) octets

-- how the lines of d are read by a core
abbrev pub reading_in : Core → ℕ → ReadingView
reading_in v d = record { dialect = dialect_in v; kinds = v.kinds; dlci = d; owner = option_map asker_of (first_on d v.hand) }

-- the text that is lent while a frame of d is read: once a line of the answer has come none is needed
abbrev pub text_lent : Core → ℕ → List ℕ
text_lent v d = if awaits_echo (lane_at v d).under_way then text_on d v.hand else []

-- a frame is read, and behind what was said before stands what is said of it
pub record FrameSays (v : Core) (f : Frame) (lane : Lane) (was now : List Act) : Type 0 where
  pub said : List Act
  pub now_is : now ≡ was ++ said
  pub reads : ReadsFrame v f lane (Got f ∷ said)

reads_so : (v : Core) (f : Frame) (lane : Lane) (was now : List Act)
    → ReadsAll (reading_in v f.dlci) f.info (record { kept = (lane_at v f.dlci).kept; window = window_by v.hand f.dlci (lane_at v f.dlci); acts = was })
    (record { kept = lane.kept; window = window_by v.hand f.dlci lane; acts = now }) → FrameSays v f lane was now
unfolding ReadsAll ReadsFrame Listens led
reads_so v f lane was now reads = record {
  said = drop (length was) now;
  now_is = ap (λ (r : Read). r.acts) (last (is_listened v.kinds) (λ kind. (listened_in v.kinds kind, in_listened v.kinds kind))) ∙ ap (λ (xs : List Act). was ++ xs) (sym (behind (is_listened v.kinds) (λ kind. (listened_in v.kinds kind, in_listened v.kinds kind))));
  reads = λ listens h.
      let r = end listens in
      ap (λ (x : Read). let y : Read = record { kept = x.kept; window = x.window; acts = Got f ∷ drop (length was) x.acts } in y) (last listens h)
      ∙ (ap (λ (xs : List Act). let y : Read = record { kept = r.kept; window = r.window; acts = Got f ∷ xs } in y) (drop-append_seam was r.acts)
      ∙ sym (each_led (dialect_in v) listens f.dlci owner (Got f ∷ []) start f.info));
}
  where
    owner : Option Asker
    owner = option_map asker_of (first_on f.dlci v.hand)

    start : Read
    start = record { kept = (lane_at v f.dlci).kept; window = window_by v.hand f.dlci (lane_at v f.dlci); acts = [] }

    end : (UrcKind → Bool) → Read
    end listens = read_each (dialect_in v) listens f.dlci owner start f.info

    last : (listens : UrcKind → Bool) → ((kind : UrcKind) → (listens kind ≡ true) ↔ Contains v.kinds kind) → (let x : Read = record { kept = lane.kept; window = window_by v.hand f.dlci lane; acts = now } in x ≡ led was (end listens))
    last listens h =
        reads listens h
        ∙ (ap (λ (xs : List Act). let x : Read = record start { acts = xs } in read_each (dialect_in v) listens f.dlci owner x f.info) (sym (append-nil was))
        ∙ each_led (dialect_in v) listens f.dlci owner was start f.info)

    behind : (listens : UrcKind → Bool) → ((kind : UrcKind) → (listens kind ≡ true) ↔ Contains v.kinds kind) → drop (length was) now ≡ (end listens).acts
    behind listens h = ap (λ (r : Read). drop (length was) r.acts) (last listens h) ∙ drop-append_seam was (end listens).acts

-- with the text that is lent as with the command's own
own_text : (r : ReadingView) (octets text own : List ℕ) (was now : Option UnderWay) (kept left : List ℕ) (acts more : List Act) (b : Bool) → awaits_echo was ≡ b → text ≡ (if b then own else [])
    → ReadsAll r octets (record { kept = kept; window = window_of text was; acts = acts }) (record { kept = left; window = window_of text now; acts = more })
    → ReadsAll r octets (record { kept = kept; window = window_of own was; acts = acts }) (record { kept = left; window = window_of own now; acts = more })
own_text r octets text own was now kept left acts more true e t reads =
    subst (λ (x : List ℕ). ReadsAll r octets (record { kept = kept; window = window_of x was; acts = acts }) (record { kept = left; window = window_of x now; acts = more })) t reads
own_text r octets text own was now kept left acts more false e t reads = reads_late r octets text own was now kept left acts more e reads

-- a frame is read from what is kept of its connection, with the text of the first command in hand there where an echo may come
pub reads_frame : (v : Core) (f : Frame) (kinds : List UrcKind) (text : List ℕ) (lane : Lane) (was now : List Act) → kinds ≡ v.kinds → text ≡ text_lent v f.dlci
    → ReadsAll (record (reading_in v f.dlci) { kinds = kinds }) f.info (record { kept = (lane_at v f.dlci).kept; window = window_of text (lane_at v f.dlci).under_way; acts = was })
    (record { kept = lane.kept; window = window_of text lane.under_way; acts = now }) → FrameSays v f lane was now
reads_frame v f kinds text lane was now same t reads =
    let under_way = (lane_at v f.dlci).under_way in
    let kept = (lane_at v f.dlci).kept in
    let start : Read = record { kept = kept; window = window_of text under_way; acts = was } in
    let last : Read = record { kept = lane.kept; window = window_of text lane.under_way; acts = now } in
    reads_so v f lane was now
    (own_text (reading_in v f.dlci) f.info text (text_on f.dlci v.hand) under_way lane.under_way kept lane.kept was now (awaits_echo under_way) refl t
    (subst (λ (x : List UrcKind). ReadsAll (record (reading_in v f.dlci) { kinds = x }) f.info start last) same reads))
