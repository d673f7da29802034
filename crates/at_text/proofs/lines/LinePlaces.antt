-- Lines stand in the same places however octets are cut.
use Rattle.std.specs.Prelude.{◌≡◌, ℕ, List, [], ◌∷◌, ◌++◌, refl, map}
use Rattle.std.proofs.Common.{ap, sym, ◌∙◌, append_assoc}
use Rattle.std.proofs.lemmas.List.{append-nil, map-append}
use Rattle.at_text.specs.Lines.{lines, kept_run}
use Rattle.at_text.specs.Windows.{Mark, Line, Begun, lines_of}
use Rattle.at_text.specs.Placing.{Part, Octets, Command, octets_of, marks_from, PlacesLines}
use Rattle.at_text.proofs.lines.UnfinishedLines.{reads_on}
use Rattle.at_text.proofs.windows.AnswerWindows.{lines_of-append}

lines_of-map : (ls : List (List ℕ)) → lines_of (map Line ls) ≡ ls
lines_of-map [] = refl
lines_of-map (l ∷ ls) = ap (λ (v : List (List ℕ)). l ∷ v) (lines_of-map ls)

-- all lines, after some text that was read before
lines_placed : (text : List ℕ) (parts : List Part) → lines (text ++ octets_of parts) ≡ lines text ++ lines_of (marks_from (kept_run text) parts)
lines_placed text [] = rw append-nil (sym (append-nil (lines text)))
lines_placed text (Command c ∷ parts) = lines_placed text parts
lines_placed text (Octets more ∷ parts) =
    let on : lines (text ++ more) ≡ lines text ++ lines (kept_run text ++ more) = (reads_on text more).reads_kept in
    let kept : kept_run (text ++ more) ≡ kept_run (kept_run text ++ more) = (reads_on text more).keeps in
    let rest : lines ((text ++ more) ++ octets_of parts) ≡ lines (text ++ more) ++ lines_of (marks_from (kept_run (text ++ more)) parts) = lines_placed (text ++ more) parts in
    let here : List (List ℕ) = lines (kept_run text ++ more) in
    let later : List Mark = marks_from (kept_run (kept_run text ++ more)) parts in
    let split : lines_of (map Line here ++ later) ≡ here ++ lines_of later = lines_of-append (map Line here) later ∙ ap (λ (v : List (List ℕ)). v ++ lines_of later) (lines_of-map here) in
    ap lines (sym (append_assoc text more (octets_of parts))) ∙ (rest ∙ (rw (kept, on) (append_assoc (lines text) here (lines_of later)) ∙ ap (λ (v : List (List ℕ)). lines text ++ v) (sym split)))

cut_here : (run x y : List ℕ) (parts : List Part) → marks_from run (Octets (x ++ y) ∷ parts) ≡ marks_from run (Octets x ∷ Octets y ∷ parts)
cut_here run x y parts =
    let first : List (List ℕ) = lines (run ++ x) in
    let second : List (List ℕ) = lines (kept_run (run ++ x) ++ y) in
    let later : List Mark = marks_from (kept_run (kept_run (run ++ x) ++ y)) parts in
    rw (← append_assoc run x y) (rw ((reads_on (run ++ x) y).reads_kept, (reads_on (run ++ x) y).keeps)
    (ap (λ (v : List Mark). v ++ later) (map-append Line first second) ∙ append_assoc (map Line first) (map Line second) later))

cut_later : (run : List ℕ) (before : List Part) (x y : List ℕ) (parts : List Part) → marks_from run (before ++ Octets (x ++ y) ∷ parts) ≡ marks_from run (before ++ Octets x ∷ Octets y ∷ parts)
cut_later run [] x y parts = cut_here run x y parts
cut_later run (Octets text ∷ before) x y parts = ap (λ (v : List Mark). map Line (lines (run ++ text)) ++ v) (cut_later (kept_run (run ++ text)) before x y parts)
cut_later run (Command c ∷ before) x y parts = ap (λ (v : List Mark). Begun c ∷ v) (cut_later run before x y parts)

-- the lines placed are those of all octets, wherever these are cut and whatever commands come between
pub places_lines : (parts : List Part) → PlacesLines parts
places_lines parts = record { all = sym (lines_placed [] parts); cut = λ before x y. cut_later [] before x y parts }
