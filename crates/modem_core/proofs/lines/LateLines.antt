-- Once a line of the answer has come, none is the echo: what is read is the same whatever text the command has.
use Rattle.std.specs.Prelude.{◌≡◌, ℕ, ◌&&◌, Bool, true, false, List, [], ◌∷◌, ◌++◌, refl, Option, None, Some, if◌then◌else◌}
use Rattle.std.proofs.Common.{ap, sym, ◌∙◌}
use Rattle.at_text.specs.declared.unsolicited.UrcKind.{UrcKind}
use Rattle.at_text.specs.Dialects.{Dialect, is_solicited}
use Rattle.at_text.specs.InPlace.{mark_of}
use Rattle.at_text.specs.declared.under_way.WindowMark.{WindowMark}
use Rattle.at_text.specs.Lines.{lines, kept_run}
use Rattle.at_text.specs.OpenWindow.{OpenWindow, with_line, solicited_by, seen_by, after_line}
use Rattle.at_text.specs.Seeing.{by_kind}
use Rattle.at_text.specs.UnderWay.{UnderWay, window_of}
use Rattle.modem_history.specs.Acts.{Act}
use Rattle.modem_queues.specs.declared.asker.Asker.{Asker}
use Rattle.modem_core.specs.Lanes.{awaits_echo}
use Rattle.modem_core.specs.Reports.{said_as, said_lines, Read, ReadingView, after_all, read_on, read_each, ReadsAll}

-- the window of the same answer, where the command has this text
with_text : List ℕ → Option OpenWindow → Option OpenWindow
with_text c None = None
with_text c (Some o) = Some (record o { command = c })

is_fresh : Option OpenWindow → Bool
is_fresh None = false
is_fresh (Some o) = o.fresh

-- ## A line

solicited_same : (dialect : Dialect) (c line : List ℕ) (o : OpenWindow) (b : Bool) → b ≡ false → solicited_by dialect (Some (record o { command = c; fresh = b })) line ≡ solicited_by dialect (Some (record o { fresh = b })) line
solicited_same dialect c line o true e = cc
solicited_same dialect c line o false e = refl

seen_same : (dialect : Dialect) (c line : List ℕ) (w : Option OpenWindow) → is_fresh w ≡ false → seen_by dialect (with_text c w) line ≡ seen_by dialect w line
unfolding with_text is_fresh
seen_same dialect c line None e = refl
seen_same dialect c line (Some o) e = ap (by_kind (dialect.kind_of line)) (solicited_same dialect c line o o.fresh e)

after_none : (c : List ℕ) (s : Bool) → (if s then None else None) ≡ with_text c (if s then None else None)
unfolding with_text
after_none c true = refl
after_none c false = refl

-- s: the line isn't unsolicited; f: it is a final code; x, y: it is the text
after_some : (c line : List ℕ) (o : OpenWindow) (s f x y b : Bool) → b ≡ false
    → (if s then (if b && x then Some (record o { command = c; fresh = false }) else if f then None else Some (with_line (record o { command = c }) line)) else Some (record o { command = c }))
    ≡ with_text c (if s then (if b && y then Some (record o { fresh = false }) else if f then None else Some (with_line o line)) else Some o)
unfolding with_text
after_some c line o s f x y true e = cc
after_some c line o false f x y false e = refl
after_some c line o true true x y false e = refl
after_some c line o true false x y false e = refl

after_same : (dialect : Dialect) (c line : List ℕ) (w : Option OpenWindow) → is_fresh w ≡ false → after_line dialect (with_text c w) line ≡ with_text c (after_line dialect w line)
unfolding with_text is_fresh
after_same dialect c line None e = after_none c (is_solicited dialect line)
after_same dialect c line (Some o) e = after_some c line o (is_solicited dialect line) (dialect.is_final line) _ _ o.fresh e

late_some : (line : List ℕ) (o : OpenWindow) (s f y b : Bool) → b ≡ false → b ≡ o.fresh
    → is_fresh (if s then (if b && y then Some (record o { fresh = false }) else if f then None else Some (with_line o line)) else Some o) ≡ false
unfolding is_fresh
late_some line o s f y true e g = cc
late_some line o false f y false e g = sym g
late_some line o true true y false e g = refl
late_some line o true false y false e g = refl

late_none : (s : Bool) → is_fresh (if s then None else None) ≡ false
unfolding is_fresh
late_none true = refl
late_none false = refl

late_after : (dialect : Dialect) (line : List ℕ) (w : Option OpenWindow) → is_fresh w ≡ false → is_fresh (after_line dialect w line) ≡ false
unfolding is_fresh
late_after dialect line None e = late_none (is_solicited dialect line)
late_after dialect line (Some o) e = late_some line o (is_solicited dialect line) (dialect.is_final line) _ o.fresh e refl

-- ## Lines

all_same : (dialect : Dialect) (c : List ℕ) (w : Option OpenWindow) (ls : List (List ℕ)) → is_fresh w ≡ false → after_all dialect (with_text c w) ls ≡ with_text c (after_all dialect w ls)
all_same dialect c w [] e = refl
all_same dialect c w (l ∷ ls) e = ap (λ (x : Option OpenWindow). after_all dialect x ls) (after_same dialect c l w e) ∙ all_same dialect c (after_line dialect w l) ls (late_after dialect l w e)

late_all : (dialect : Dialect) (w : Option OpenWindow) (ls : List (List ℕ)) → is_fresh w ≡ false → is_fresh (after_all dialect w ls) ≡ false
late_all dialect w [] e = e
late_all dialect w (l ∷ ls) e = late_all dialect (after_line dialect w l) ls (late_after dialect l w e)

said_same : (dialect : Dialect) (listens : UrcKind → Bool) (d : ℕ) (owner : Option Asker) (c : List ℕ) (w : Option OpenWindow) (ls : List (List ℕ)) → is_fresh w ≡ false
    → said_lines dialect listens d owner (with_text c w) ls ≡ said_lines dialect listens d owner w ls
said_same dialect listens d owner c w [] e = refl
said_same dialect listens d owner c w (l ∷ ls) e =
    let told = said_as listens d owner l (seen_by dialect w l) in
    ap (λ s. said_as listens d owner l s ++ said_lines dialect listens d owner (after_line dialect (with_text c w) l) ls) (seen_same dialect c l w e)
    ∙ (ap (λ (x : Option OpenWindow). told ++ said_lines dialect listens d owner x ls) (after_same dialect c l w e)
    ∙ ap (λ (xs : List Act). told ++ xs) (said_same dialect listens d owner c (after_line dialect w l) ls (late_after dialect l w e)))

-- ## Octets

with_own : List ℕ → Read → Read
with_own c v = record { kept = v.kept; window = with_text c v.window; acts = v.acts }

on_same : (dialect : Dialect) (listens : UrcKind → Bool) (d : ℕ) (owner : Option Asker) (c : List ℕ) (v : Read) (octets : List ℕ) → is_fresh v.window ≡ false
    → read_on dialect listens d owner (with_own c v) octets ≡ with_own c (read_on dialect listens d owner v octets)
unfolding with_own
on_same dialect listens d owner c v octets e =
    let ls = lines (v.kept ++ octets) in
    let kept = kept_run (v.kept ++ octets) in
    ap (λ (w : Option OpenWindow). let x : Read = record { kept = kept; window = w; acts = v.acts ++ said_lines dialect listens d owner (with_text c v.window) ls } in x) (all_same dialect c v.window ls e)
    ∙ ap (λ (acts : List Act). let x : Read = record { kept = kept; window = with_text c (after_all dialect v.window ls); acts = v.acts ++ acts } in x) (said_same dialect listens d owner c v.window ls e)

each_same : (dialect : Dialect) (listens : UrcKind → Bool) (d : ℕ) (owner : Option Asker) (c : List ℕ) (v : Read) (octets : List ℕ) → is_fresh v.window ≡ false
    → read_each dialect listens d owner (with_own c v) octets ≡ with_own c (read_each dialect listens d owner v octets)
each_same dialect listens d owner c v [] e = refl
each_same dialect listens d owner c v (x ∷ octets) e =
    ap (λ (r : Read). read_each dialect listens d owner r octets) (on_same dialect listens d owner c v (x ∷ []) e)
    ∙ each_same dialect listens d owner c (read_on dialect listens d owner v (x ∷ [])) octets (late_all dialect v.window (lines (v.kept ++ x ∷ [])) e)

text_put : (a c : List ℕ) (u : Option UnderWay) → with_text c (window_of a u) ≡ window_of c u
unfolding with_text
text_put a c None = refl
text_put a c (Some u) = refl

late_window : (a : List ℕ) (u : Option UnderWay) → awaits_echo u ≡ false → is_fresh (window_of a u) ≡ false
unfolding is_fresh
late_window a None e = refl
late_window a (Some u) e = e

-- what a mark says of it
pub fresh_marked : (u : Option UnderWay) (m : WindowMark) → ((c : List ℕ) → m ≡ mark_of (window_of c u)) → m.fresh ≡ awaits_echo u
fresh_marked None m marks = ap (λ (x : WindowMark). x.fresh) (marks [])
fresh_marked (Some u) m marks = ap (λ (x : WindowMark). x.fresh) (marks [])

-- where no echo is awaited, what is read with one text is read with any other
pub reads_late : (r : ReadingView) (octets a c : List ℕ) (was now : Option UnderWay) (kept left : List ℕ) (acts more : List Act) → awaits_echo was ≡ false
    → ReadsAll r octets (record { kept = kept; window = window_of a was; acts = acts }) (record { kept = left; window = window_of a now; acts = more })
    → ReadsAll r octets (record { kept = kept; window = window_of c was; acts = acts }) (record { kept = left; window = window_of c now; acts = more })
unfolding ReadsAll with_own
reads_late r octets a c was now kept left acts more e reads listens h =
    let old : Read = record { kept = kept; window = window_of a was; acts = acts } in
    ap (λ (w : Option OpenWindow). let x : Read = record { kept = left; window = w; acts = more } in x) (sym (text_put a c now))
    ∙ (ap (with_own c) (reads listens h)
    ∙ (sym (each_same r.dialect listens r.dlci r.owner c old octets (late_window a was e))
    ∙ ap (λ (w : Option OpenWindow). let x : Read = record { kept = kept; window = w; acts = acts } in read_each r.dialect listens r.dlci r.owner x octets) (text_put a c was)))
