-- The answer of a command under way, and the window that it is with the command's text.
use Rattle.std.specs.Prelude.{◌≡◌, ℕ, ◌++◌, ◌∷◌, List, [], refl, Option, Some, None, IsNone, option_map}
use Rattle.std.proofs.Common.{ap, sym, ◌∙◌}
use Rattle.at_text.specs.Dialects.{Dialect}
use Rattle.at_text.specs.Windows.{Mark, Begun, Window, open_window}
use Rattle.at_text.specs.OpenWindow.{OpenWindow, shown, FitsMarks}
use Rattle.at_text.specs.UnderWay.{UnderWay, unanswered, window_of, answer_shown, FitsUnderWay}
use Rattle.at_text.proofs.windows.AnswerWindows.{begins, fits_nothing}

-- the window but for the command's text
answer_in : Option OpenWindow → Option UnderWay
answer_in None = None
answer_in (Some o) = Some (record { lines = o.lines; fresh = o.fresh })

in_window : (command : List ℕ) (u : Option UnderWay) → answer_in (window_of command u) ≡ u
unfolding answer_in
in_window command None = refl
in_window command (Some u) = refl

-- the same window with the same text has the same answer
pub same_answer : (command : List ℕ) (u v : Option UnderWay) → window_of command u ≡ window_of command v → u ≡ v
same_answer command u v e = sym (in_window command u) ∙ (ap answer_in e ∙ in_window command v)

-- no window, no command under way
pub none_of : (command : List ℕ) (u : Option UnderWay) → IsNone (window_of command u) → IsNone u
none_of command None h = h
none_of command (Some u) h = cc

-- no command under way, no window
pub window_none : (command : List ℕ) (u : Option UnderWay) → IsNone u → IsNone (window_of command u)
window_none command None h = h
window_none command (Some u) h = cc

answer_of_shown : (dialect : Dialect) (o : Option Window) → answer_in (option_map (shown dialect) o) ≡ option_map (answer_shown dialect) o
unfolding answer_in
answer_of_shown dialect None = refl
answer_of_shown dialect (Some w) = refl

-- a window that fits marks has an answer that does
pub answer_fits : (dialect : Dialect) (command : List ℕ) (u : Option UnderWay) (past : List Mark) → FitsMarks dialect (window_of command u) past → FitsUnderWay dialect u past
answer_fits dialect command u past f = record {
  in_turn = f.in_turn;
  shows = sym (in_window command u) ∙ (ap answer_in f.shows ∙ answer_of_shown dialect (open_window dialect past));
}

-- the text is that of the command whose window is open
abbrev pub IsOpenText : Dialect → List ℕ → List Mark → Type 0
IsOpenText dialect command past = (w : Window) → open_window dialect past ≡ Some w → command ≡ w.command

shown_with : (dialect : Dialect) (command : List ℕ) (o : Option Window) → ((w : Window) → o ≡ Some w → command ≡ w.command) → window_of command (option_map (answer_shown dialect) o) ≡ option_map (shown dialect) o
shown_with dialect command None h = refl
shown_with dialect command (Some w) h = ap (λ (c : List ℕ). window_of c (Some (answer_shown dialect w))) (h w refl)

-- an answer that fits marks is, with the text of the command whose window is open, a window that fits them
pub window_fits : (dialect : Dialect) (command : List ℕ) (u : Option UnderWay) (past : List Mark) → IsOpenText dialect command past → FitsUnderWay dialect u past → FitsMarks dialect (window_of command u) past
window_fits dialect command u past h f = record {
  in_turn = f.in_turn;
  shows = ap (window_of command) f.shows ∙ shown_with dialect command (open_window dialect past) h;
}

-- where nothing was placed no command is under way
pub none_fits : (dialect : Dialect) (u : Option UnderWay) → u ≡ None → FitsUnderWay dialect u []
none_fits dialect u none = answer_fits dialect [] u [] (fits_nothing dialect (window_of [] u) (ap (window_of []) none))

none_open : (dialect : Dialect) (o : Option Window) → option_map (answer_shown dialect) o ≡ None → o ≡ None
none_open dialect None e = refl
none_open dialect (Some w) e = cc

is_none-none : (u : Option UnderWay) → IsNone u → u ≡ None
is_none-none None h = refl
is_none-none (Some u) h = cc

-- a command that begins where none was under way
pub answer_begins : (dialect : Dialect) (u v : Option UnderWay) (past : List Mark) (c : List ℕ) → FitsUnderWay dialect u past → IsNone u → v ≡ Some unanswered → FitsUnderWay dialect v (past ++ Begun c ∷ [])
answer_begins dialect u v past c f none begun =
    let closed : open_window dialect past ≡ None = none_open dialect (open_window dialect past) (sym f.shows ∙ is_none-none u none) in
    let fits : FitsMarks dialect None past = record { in_turn = f.in_turn; shows = sym (ap (option_map (shown dialect)) closed) } in
    answer_fits dialect c v (past ++ Begun c ∷ []) (begins dialect None (window_of c v) past c fits refl (ap (window_of c) begun))
