-- What is told of a connection, octet by octet and at once.
use Rattle.std.specs.Prelude.{◌≡◌, ℕ, List, [], ◌∷◌, ◌++◌, map, Option, Result, Ok, Err, OnOk, refl, is_none, is_some, Bool, true, false, if◌then◌else◌}
use Rattle.std.proofs.Common.{ap, sym, ◌∙◌, append_assoc, append-nil}
use Rattle.mux_capture.specs.declared.packet.Direction.{Direction}
use Rattle.mux_capture.specs.declared.packet.Direction.TheVariants.{ToModem, FromModem}
use Rattle.at_text.specs.Dialects.{Dialect}
use Rattle.at_text.specs.Lines.{lines, kept_run, ReadsOn}
use Rattle.at_text.specs.OpenWindow.{OpenWindow}
use Rattle.at_text.specs.Commands.{refusal_of}
use Rattle.modem_show.specs.declared.told.Told.{Told}
use Rattle.modem_show.specs.declared.told.Told.TheVariants.{Command, Text}
use Rattle.modem_show.specs.Talking.{Talk, TellsLines, told, told_each, told_of, told_by, heard, heard_each, window_after, window_by, line_of, run_of}

-- what follows from two facts of a call that went well follows, where it did
pub both_ok : {T E : Type 0} (P Q R : Type 0) (r : Result T E) → (P → Q → R) → OnOk r P → OnOk r Q → OnOk r R
both_ok P Q R (Ok x) f p q = f p q
both_ok P Q R (Err e) f p q = tt

-- the driver's unfinished line and the window behind octets to the modem are what is kept of these
pub driver_says : (dialect : Dialect) (d : Direction) (t : Talk) (octets run : List ℕ) (w : Option OpenWindow) → d ≡ ToModem
    → run ≡ kept_run (t.driver ++ octets) → w ≡ window_after dialect ToModem t.window (lines (t.driver ++ octets))
    → record { driver = run; modem = t.modem; window = w } ≡ heard dialect d t octets
driver_says dialect ToModem t octets run w e a b = cc
driver_says dialect FromModem t octets run w e a b = cc

-- and the modem's, behind octets from there
pub modem_says : (dialect : Dialect) (d : Direction) (t : Talk) (octets run : List ℕ) (w : Option OpenWindow) → d ≡ FromModem
    → run ≡ kept_run (t.modem ++ octets) → w ≡ window_after dialect FromModem t.window (lines (t.modem ++ octets))
    → record { driver = t.driver; modem = run; window = w } ≡ heard dialect d t octets
modem_says dialect FromModem t octets run w e a b = cc
modem_says dialect ToModem t octets run w e a b = cc

-- ## One octet more

-- with one octet more kept on, what is kept behind the rest is what is kept behind all
pub kept_on : (dialect : Dialect) (d : Direction) (t next first : Talk) (octet : ℕ) (left rest all : List ℕ) → left ≡ octet ∷ rest
    → next ≡ heard dialect d t (octet ∷ []) → heard_each dialect d t left ≡ heard_each dialect d first all
    → heard_each dialect d next rest ≡ heard_each dialect d first all
kept_on dialect d t next first octet left rest all e n h =
    ap (λ (v : Talk). heard_each dialect d v rest) n ∙ (ap (λ (os : List ℕ). heard_each dialect d t os) (sym e) ∙ h)

-- and what is told of it and of the rest is what is told of all
pub told_on : (dialect : Dialect) (d : Direction) (t next first : Talk) (octet : ℕ) (left rest all : List ℕ) (before after start : List Told)
    → left ≡ octet ∷ rest → next ≡ heard dialect d t (octet ∷ []) → after ≡ before ++ told dialect d t (octet ∷ [])
    → before ++ told_each dialect d t left ≡ start ++ told_each dialect d first all
    → after ++ told_each dialect d next rest ≡ start ++ told_each dialect d first all
told_on dialect d t next first octet left rest all before after start e n a h =
    ap (λ (xs : List Told). xs ++ told_each dialect d next rest) a
    ∙ (append_assoc before (told dialect d t (octet ∷ [])) (told_each dialect d next rest)
    ∙ (ap (λ (v : Talk). before ++ (told dialect d t (octet ∷ []) ++ told_each dialect d v rest)) n
    ∙ (ap (λ (os : List ℕ). before ++ told_each dialect d t os) (sym e) ∙ h)))

-- ## At once

abbrev talk : List ℕ → List ℕ → Option OpenWindow → Talk
talk driver modem w = record { driver = driver; modem = modem; window = w }

told_join : (dialect : Dialect) (d : Direction) (w : Option OpenWindow) (xs ys : List (List ℕ))
    → told_of dialect d w (xs ++ ys) ≡ told_of dialect d w xs ++ told_of dialect d (window_after dialect d w xs) ys
told_join dialect d w [] ys = refl
told_join dialect d w (x ∷ xs) ys = ap (λ (ts : List Told). told_by dialect d w x ∷ ts) (told_join dialect d (window_by dialect d w x) xs ys)

window_join : (dialect : Dialect) (d : Direction) (w : Option OpenWindow) (xs ys : List (List ℕ))
    → window_after dialect d w (xs ++ ys) ≡ window_after dialect d (window_after dialect d w xs) ys
window_join dialect d w [] ys = refl
window_join dialect d w (x ∷ xs) ys = window_join dialect d (window_by dialect d w x) xs ys

-- every line is told once
driver_line : (w : Option OpenWindow) (l : List ℕ) (b : Bool) → line_of (if b then Command l (is_some w) else Text l) ≡ l
driver_line w l true = refl
driver_line w l false = refl

line_told : (dialect : Dialect) (d : Direction) (w : Option OpenWindow) (l : List ℕ) → line_of (told_by dialect d w l) ≡ l
line_told dialect ToModem w l = driver_line w l (is_none (refusal_of l))
line_told dialect FromModem w l = refl

lines_once : (dialect : Dialect) (d : Direction) (w : Option OpenWindow) (ls : List (List ℕ)) → map line_of (told_of dialect d w ls) ≡ ls
lines_once dialect d w [] = refl
lines_once dialect d w (l ∷ ls) =
    ap (λ (x : List ℕ). x ∷ map line_of (told_of dialect d (window_by dialect d w l) ls)) (line_told dialect d w l)
    ∙ ap (λ (xs : List (List ℕ)). l ∷ xs) (lines_once dialect d (window_by dialect d w l) ls)

-- one octet and then others
lines_split : ((x y : List ℕ) → ReadsOn x y) → (run : List ℕ) (octet : ℕ) (octets : List ℕ)
    → lines (run ++ octet ∷ octets) ≡ lines (run ++ octet ∷ []) ++ lines (kept_run (run ++ octet ∷ []) ++ octets)
lines_split reads run octet octets =
    ap lines (sym (append_assoc run (octet ∷ []) octets)) ∙ (reads (run ++ octet ∷ []) octets).reads_kept

run_split : ((x y : List ℕ) → ReadsOn x y) → (run : List ℕ) (octet : ℕ) (octets : List ℕ)
    → kept_run (run ++ octet ∷ octets) ≡ kept_run (kept_run (run ++ octet ∷ []) ++ octets)
run_split reads run octet octets =
    ap kept_run (sym (append_assoc run (octet ∷ []) octets)) ∙ (reads (run ++ octet ∷ []) octets).keeps

window_split : ((x y : List ℕ) → ReadsOn x y) → (dialect : Dialect) (d : Direction) (w : Option OpenWindow) (run : List ℕ) (octet : ℕ) (octets : List ℕ)
    → window_after dialect d w (lines (run ++ octet ∷ octets))
    ≡ window_after dialect d (window_after dialect d w (lines (run ++ octet ∷ []))) (lines (kept_run (run ++ octet ∷ []) ++ octets))
window_split reads dialect d w run octet octets =
    ap (window_after dialect d w) (lines_split reads run octet octets)
    ∙ window_join dialect d w (lines (run ++ octet ∷ [])) (lines (kept_run (run ++ octet ∷ []) ++ octets))

joined_told : ((x y : List ℕ) → ReadsOn x y) → (dialect : Dialect) (d : Direction) (t : Talk) (octet : ℕ) (octets : List ℕ)
    → told dialect d t (octet ∷ octets) ≡ told dialect d t (octet ∷ []) ++ told dialect d (heard dialect d t (octet ∷ [])) octets
joined_told reads dialect ToModem t octet octets =
    ap (told_of dialect ToModem t.window) (lines_split reads t.driver octet octets)
    ∙ told_join dialect ToModem t.window (lines (t.driver ++ octet ∷ [])) (lines (kept_run (t.driver ++ octet ∷ []) ++ octets))
joined_told reads dialect FromModem t octet octets =
    ap (told_of dialect FromModem t.window) (lines_split reads t.modem octet octets)
    ∙ told_join dialect FromModem t.window (lines (t.modem ++ octet ∷ [])) (lines (kept_run (t.modem ++ octet ∷ []) ++ octets))

joined_heard : ((x y : List ℕ) → ReadsOn x y) → (dialect : Dialect) (d : Direction) (t : Talk) (octet : ℕ) (octets : List ℕ)
    → heard dialect d t (octet ∷ octets) ≡ heard dialect d (heard dialect d t (octet ∷ [])) octets
joined_heard reads dialect ToModem t octet octets =
    ap (λ (run : List ℕ). talk run t.modem (window_after dialect ToModem t.window (lines (t.driver ++ octet ∷ octets)))) (run_split reads t.driver octet octets)
    ∙ ap (λ (w : Option OpenWindow). talk (kept_run (kept_run (t.driver ++ octet ∷ []) ++ octets)) t.modem w) (window_split reads dialect ToModem t.window t.driver octet octets)
joined_heard reads dialect FromModem t octet octets =
    ap (λ (run : List ℕ). talk t.driver run (window_after dialect FromModem t.window (lines (t.modem ++ octet ∷ octets)))) (run_split reads t.modem octet octets)
    ∙ ap (λ (w : Option OpenWindow). talk t.driver (kept_run (kept_run (t.modem ++ octet ∷ []) ++ octets)) w) (window_split reads dialect FromModem t.window t.modem octet octets)

told_whole : ((x y : List ℕ) → ReadsOn x y) → (dialect : Dialect) (d : Direction) (t : Talk) (octet : ℕ) (octets : List ℕ)
    → told_each dialect d t (octet ∷ octets) ≡ told dialect d t (octet ∷ octets)
told_whole reads dialect d t octet [] = append-nil (told dialect d t (octet ∷ []))
told_whole reads dialect d t octet (next ∷ octets) =
    ap (λ (ts : List Told). told dialect d t (octet ∷ []) ++ ts) (told_whole reads dialect d (heard dialect d t (octet ∷ [])) next octets)
    ∙ sym (joined_told reads dialect d t octet (next ∷ octets))

heard_whole : ((x y : List ℕ) → ReadsOn x y) → (dialect : Dialect) (d : Direction) (t : Talk) (octet : ℕ) (octets : List ℕ)
    → heard_each dialect d t (octet ∷ octets) ≡ heard dialect d t (octet ∷ octets)
heard_whole reads dialect d t octet [] = refl
heard_whole reads dialect d t octet (next ∷ octets) =
    heard_whole reads dialect d (heard dialect d t (octet ∷ [])) next octets
    ∙ sym (joined_heard reads dialect d t octet (next ∷ octets))

-- octets tell at once what they tell one by one, each line once and in order
pub tells_lines : ((x y : List ℕ) → ReadsOn x y) → (dialect : Dialect) (d : Direction) (t : Talk) (octet : ℕ) (octets : List ℕ)
    → TellsLines dialect d t octet octets
tells_lines reads dialect d t octet octets = record {
  told_at_once = told_whole reads dialect d t octet octets;
  heard_at_once = heard_whole reads dialect d t octet octets;
  each_once =
      ap (map line_of) (told_whole reads dialect d t octet octets)
      ∙ lines_once dialect d t.window (lines (run_of d t ++ octet ∷ octets));
}
