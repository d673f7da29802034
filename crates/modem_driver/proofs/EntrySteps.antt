-- An entry by a text of the caller's goes on by one step.
use Rattle.std.specs.Prelude.{◌≡◌, ℕ, ◌+◌, ◌-◌, ◌≤◌, ◌<◌, ◌⊎◌, ◌||◌, Bool, false, List, [], ◌∷◌, ◌++◌, length, take, drop, refl, Option, None, Some, is_some}
use Rattle.std.proofs.Common.{inl, inr, ⊎_elim, ap, sym, ◌∙◌, subst, arith, append_assoc, append-nil}
use Rattle.std.proofs.Math.Seq.{take-add, take-length}
use Rattle.std.proofs.lemmas.List.{length-drop, take_rest}
use Rattle.std.proofs.lemmas.List.Folds.{list_any-append}
use Rattle.std.specs.List.{list_any}
use Rattle.at_text.specs.Finals.{is_final, final_of}
use Rattle.at_text.specs.Lines.{lines}
use Rattle.at_text.specs.Reading.{HasRead}
use Rattle.at_text.specs.declared.finals.Final.{Final}
use Rattle.at_text.proofs.FinalLines.{final_is}
use Rattle.at_text.proofs.lines.KeptOctets.{has_read-push}
use Rattle.serial_line.specs.LineViews.{after_read, after_write}
use Rattle.modem_history.specs.Sessions.{LineView}
use Rattle.modem_driver.specs.Entries.{SeesCode, code_in, octet_in}
use Rattle.mux_frame.specs.CheckOctet.{check_octet_of}
use Rattle.mux_frame.specs.Spelling.{spelled, body_of}
use Rattle.modem_driver.specs.EntrySteps.{close_down_frame, EntryView, IsAsked, IsAnswered, StepsTo, EntryStepsOn, step_by}
use Rattle.modem_driver.specs.declared.entry.EntryStep.{EntryStep}
use Rattle.modem_driver.specs.declared.entry.EntryStep.TheVariants.{Moved, Idle}

-- ## The text goes out

-- the line took so many octets of the rest of the text
pub wrote : (first old new : LineView) (was : EntryView) (n : ℕ) → was.written < length was.text → n ≤ length was.text - was.written
    → new.sent ≡ old.sent ++ take n (drop was.written was.text) → new.received ≡ old.received
    → IsAsked first old was → IsAsked first new (record { text = was.text; written = was.written + n; kept = was.kept })
wrote first old new was n more fits sent received h = record {
  few = omega (arith, more, fits);
  sent_are =
      sent ∙ ap (λ (x : List ℕ). x ++ take n (drop was.written was.text)) h.sent_are ∙ append_assoc first.sent (take was.written was.text) (take n (drop was.written was.text))
      ∙ ap (λ (x : List ℕ). first.sent ++ x) (sym (take-add was.written n was.text));
  read = h.read;
  read_are = received ∙ h.read_are;
  in_turn = ⊎_elim (λ (q : h.read ≡ []). inl q) (λ (q : was.written ≡ length was.text). inl (absurd (omega (arith, more, q)))) h.in_turn;
  kept = h.kept;
  none = h.none;
}

-- the slice that was offered is the rest of the text
offered : (text : List ℕ) (written n : ℕ) → n ≤ length (take (length text - written) (drop written text)) → n ≤ length text - written
offered text written n short =
    subst (λ (k : ℕ). n ≤ k) (ap (λ (l : List ℕ). length l) (take_rest text written) ∙ length-drop written text) short

wrote_as : (first old new : LineView) (seen was : EntryView) (n : ℕ) → seen ≡ was → was.written < length was.text
    → n ≤ length (take (length seen.text - seen.written) (drop seen.written seen.text))
    → new ≡ after_write n (take (length seen.text - seen.written) (drop seen.written seen.text)) old
    → IsAsked first old was → IsAsked first new (record { text = seen.text; written = seen.written + n; kept = seen.kept })
wrote_as first old new seen was n same more short went h =
    wrote first old new seen n (subst (λ (e : EntryView). e.written < length e.text) (sym same) more) (offered seen.text seen.written n short)
    (ap (λ (l : LineView). l.sent) went ∙ ap (λ (l : List ℕ). old.sent ++ take n l) (take_rest seen.text seen.written)) (ap (λ (l : LineView). l.received) went) (subst (IsAsked first old) (sym same) h)

-- a step that says Moved leads to an entry that sent what the line took more
pub wrote_some : (old new : LineView) (seen was : EntryView) (n : ℕ) → seen ≡ was → was.written < length was.text
    → n ≤ length (take (length seen.text - seen.written) (drop seen.written seen.text))
    → new ≡ after_write n (take (length seen.text - seen.written) (drop seen.written seen.text)) old
    → EntryStepsOn old new was (record { text = seen.text; written = seen.written + n; kept = seen.kept }) Moved
unfolding EntryStepsOn
wrote_some old new seen was n same more short went first h = wrote_as first old new seen was n same more short went h

-- and so does one that says Idle
pub wrote_none : (old new : LineView) (seen was : EntryView) (n : ℕ) → seen ≡ was → was.written < length was.text
    → n ≤ length (take (length seen.text - seen.written) (drop seen.written seen.text))
    → new ≡ after_write n (take (length seen.text - seen.written) (drop seen.written seen.text)) old
    → EntryStepsOn old new was (record { text = seen.text; written = seen.written + n; kept = seen.kept }) Idle
unfolding EntryStepsOn
wrote_none old new seen was n same more short went first h = wrote_as first old new seen was n same more short went h

-- ## Octets come

-- an octet came where the whole text was sent
pub record Comes (old new : LineView) (was now : EntryView) (octet : ℕ) (given : List (List ℕ)) : Type 0 where
  pub whole : was.written ≡ length was.text
  pub text : now.text ≡ was.text
  pub written : now.written ≡ was.written
  pub sent : new.sent ≡ old.sent
  pub came : new.received ≡ old.received ++ octet ∷ []
  pub keeps : HasRead now.kept (was.kept ++ octet ∷ [])
  pub past : (octets : List ℕ) → HasRead was.kept octets → lines (octets ++ octet ∷ []) ≡ lines octets ++ given

on_from : (first old new : LineView) (was now : EntryView) (octet : ℕ) (given : List (List ℕ)) → Comes old new was now octet given
    → list_any is_final given ≡ false → IsAsked first old was → IsAsked first new now
on_from first old new was now octet given k none h = record {
  few = rw (k.text, k.written) h.few;
  sent_are = rw (k.text, k.written) (k.sent ∙ h.sent_are);
  read = h.read ++ octet ∷ [];
  read_are = k.came ∙ ap (λ (x : List ℕ). x ++ octet ∷ []) h.read_are ∙ append_assoc first.received h.read (octet ∷ []);
  in_turn = inr (k.written ∙ k.whole ∙ ap (λ (l : List ℕ). length l) (sym k.text));
  kept = has_read-push was.kept now.kept h.read octet h.kept k.keeps;
  none =
      ap (list_any is_final) (k.past h.read h.kept) ∙ list_any-append is_final (lines h.read) given
      ∙ ap (λ (b : Bool). b || list_any is_final given) h.none ∙ none;
}

over : (first old new : LineView) (was now : EntryView) (octet : ℕ) (line : List ℕ) (code : Final) → Comes old new was now octet (line ∷ [])
    → final_of line ≡ Some code → IsAsked first old was → IsAnswered first new now.text code
over first old new was now octet line code k is h = record {
  sent_are =
      k.sent ∙ h.sent_are
      ∙ ap (λ (x : List ℕ). first.sent ++ x) (ap (λ (n : ℕ). take n was.text) k.whole ∙ take-length was.text ∙ sym k.text);
  read = h.read ++ octet ∷ [];
  read_are = k.came ∙ ap (λ (x : List ℕ). x ++ octet ∷ []) h.read_are ∙ append_assoc first.received h.read (octet ∷ []);
  line = line;
  ended = record {
    before = h.read;
    line_end = octet;
    octets_are = refl;
    ended = k.past h.read h.kept;
    none_before = h.none;
    final = sym (final_is line) ∙ ap is_some is;
  };
  code_is = is;
}

line_by_code : (first old new : LineView) (was now : EntryView) (octet : ℕ) (line : List ℕ) (code : Option Final) → final_of line ≡ code
    → Comes old new was now octet (line ∷ []) → IsAsked first old was → StepsTo first new now (step_by code)
line_by_code first old new was now octet line None is k h =
    on_from first old new was now octet (line ∷ []) k (ap (λ (b : Bool). b || false) (sym (final_is line) ∙ ap is_some is)) h
line_by_code first old new was now octet line (Some code) is k h = over first old new was now octet line code k is h

given_by : (first old new : LineView) (was now : EntryView) (octet : ℕ) (given : List (List ℕ)) → (given ≡ []) ⊎ ((line : List ℕ) × (given ≡ line ∷ []))
    → Comes old new was now octet given → IsAsked first old was → StepsTo first new now (step_by (code_in given))
given_by first old new was now octet given (inl none) k h =
    subst (λ (g : List (List ℕ)). Comes old new was now octet g → StepsTo first new now (step_by (code_in g))) (sym none) (λ (q : Comes old new was now octet []). on_from first old new was now octet [] q refl h) k
given_by first old new was now octet given (inr one) k h =
    subst (λ (g : List (List ℕ)). Comes old new was now octet g → StepsTo first new now (step_by (code_in g))) (sym one.1)
    (λ (q : Comes old new was now octet (one.0 ∷ [])). line_by_code first old new was now octet one.0 (final_of one.0) refl q h) k

-- an octet came, and ended a code, or none
pub came_as : (old new : LineView) (seen was : EntryView) (kept : List ℕ) (o : Option ℕ) (octet : ℕ) (code : Option Final) (said : EntryStep) → said ≡ step_by code → seen ≡ was → o ≡ Some octet
    → was.written ≡ length was.text → new ≡ after_read 1 (length (octet_in o)) (octet_in o) old
    → HasRead kept (seen.kept ++ octet ∷ []) → SeesCode seen.kept octet code
    → EntryStepsOn old new was (record { text = seen.text; written = seen.written; kept = kept }) said
unfolding EntryStepsOn
came_as old new seen was kept o octet code said says same is whole gave keeps sees first h =
    let one : new ≡ after_read 1 1 (octet ∷ []) old = gave ∙ ap (λ (x : Option ℕ). after_read 1 (length (octet_in x)) (octet_in x) old) is in
    let now : EntryView = record { text = seen.text; written = seen.written; kept = kept } in
    let comes : Comes old new seen now octet sees.given = record {
      whole = subst (λ (e : EntryView). e.written ≡ length e.text) (sym same) whole;
      text = refl;
      written = refl;
      sent = ap (λ (l : LineView). l.sent) one;
      came = ap (λ (l : LineView). l.received) one;
      keeps = keeps;
      past = sees.past;
    } in
    subst (StepsTo first new now) (sym (says ∙ ap step_by sees.code_is))
    (given_by first old new seen now octet sees.given sees.one comes (subst (IsAsked first old) (sym same) h))

-- none came
pub none_came : (old new : LineView) (was : EntryView) (o : Option ℕ) → o ≡ None → new ≡ after_read 1 (length (octet_in o)) (octet_in o) old
    → EntryStepsOn old new was was Idle
unfolding EntryStepsOn
none_came old new was o is gave first h = record {
  few = h.few;
  sent_are = ap (λ (l : LineView). l.sent) gave ∙ h.sent_are;
  read = h.read;
  read_are =
      ap (λ (l : LineView). l.received) gave ∙ ap (λ (x : Option ℕ). old.received ++ take (length (octet_in x)) (octet_in x)) is
      ∙ append-nil old.received ∙ h.read_are;
  in_turn = h.in_turn;
  kept = h.kept;
  none = h.none;
}

-- the CLD frame on the line: eight octets
pub closes_down : spelled close_down_frame ≡ 0xF9 ∷ 0x03 ∷ 0xEF ∷ 0x05 ∷ 0xC3 ∷ 0x01 ∷ 0xF2 ∷ 0xF9 ∷ []
unfolding body_of check_octet_of
closes_down = refl
