-- An entry goes on by one call on the line, or is over with it.
use Rattle.std.specs.Prelude.{◌≡◌, ℕ, zero, suc, ◌+◌, ◌-◌, ◌^◌, ◌≤◌, ◌<◌, ◌==◌, ◌⊎◌, ◌&&◌, ◌||◌, nat_lt, Bool, true, false, List, [], ◌∷◌, ◌++◌, length, take, drop, refl, Option, None, Some, is_some, Result, Ok, Err, OnErr, OnOk, IfErr, nat_eq, codes, if◌then◌else◌}
use Rattle.std.proofs.Common.{inl, inr, ⊎_elim, ap, sym, ◌∙◌, subst, arith, append_assoc, append-nil, lit≤, true≢false}
use Rattle.std.proofs.Math.Nat.{min-le_left, min-eq_left, min-eq_right}
use Rattle.std.proofs.Math.Seq.{take-add}
use Rattle.std.proofs.lemmas.Bool.{cases_lt, lt-ltb, ne_eqb}
use Rattle.std.proofs.lemmas.List.{take-append-drop, take-take, length-take, length-take-le, length-drop, length-append}
use Rattle.std.proofs.lemmas.List.Folds.{list_any-append}
use Rattle.std.proofs.lemmas.Slice.Eq.{bytes_eq-Decides}
use Rattle.std.specs.List.{list_any, starts_with}
use Rattle.std.specs.Str.{bytes_eq}
use Rattle.at_text.specs.Finals.{is_final, final_of}
use Rattle.at_text.specs.Lines.{lines}
use Rattle.at_text.specs.Reading.{HasRead}
use Rattle.at_text.specs.declared.finals.Final.{Final}
use Rattle.at_text.specs.declared.finals.Final.TheVariants.{Good, Error, Cme, Named}
use Rattle.at_text.proofs.FinalLines.{final_is}
use Rattle.at_text.proofs.lines.KeptOctets.{has_read-push}
use Rattle.serial_line.specs.Counts.{one_more, counted_if_none}
use Rattle.serial_line.specs.LineViews.{after_fault, after_read, after_write}
use Rattle.modem_history.specs.Sessions.{LineView}
use Rattle.modem_history.specs.Entering.{EntryAnswer, Entered, Refused, NoAnswer, LineFailed, IsEntry, EndsWithFinal, EntryMeans, FailsBy, entry_text}
use Rattle.modem_driver.specs.Entries.{Entry, IsUnderWay, EntryEnds, Comes, EntryGoesOn, Fails, SeesCode, answer_by, code_in, octet_in, entry_begun, entry_answer}
use Rattle.modem_driver.specs.declared.entering.EntryError.{EntryError}

-- ## Counts

counted : (made a b c : ℕ) → (b ≡ a + made) ⊎ (b ≡ 2 ^ 64 - 1) → c ≡ one_more b → (c ≡ a + (made + 1)) ⊎ (c ≡ 2 ^ 64 - 1)
counted made a b c (inl was) is = ⊎_elim
    (λ (q : b + 1 < 2 ^ 64 - 1). inl (is ∙ min-eq_left (omega (arith, q)) ∙ omega (arith, was)))
    (λ (q : 2 ^ 64 - 1 ≤ b + 1). inr (is ∙ min-eq_right q))
    (cases_lt (b + 1) (2 ^ 64 - 1))
counted made a b c (inr was) is = inr (is ∙ min-eq_right (omega (arith, was)))

no_more : (made a b c : ℕ) → b ≤ a + made → c ≡ one_more b → c ≤ a + (made + 1)
no_more made a b c was is = omega (arith, was, is, min-le_left (b + 1) (2 ^ 64 - 1))

bounded : (made turns a b c : ℕ) → b ≤ a + made → c ≡ one_more b → made + 1 ≤ turns → c ≤ a + turns
bounded made turns a b c was is few = omega (arith, no_more made a b c was is, few)

-- a call that could move octets moved one at least, or counts as one that moved none
moved_or_none : (could n old : ℕ) → 1 ≤ could → (old + 1 ≤ n + counted_if_none could n old) ⊎ (counted_if_none could n old ≡ 2 ^ 64 - 1)
moved_or_none zero n old few = absurd (omega (arith, few))
moved_or_none (suc k) zero old few =
    let rises : counted_if_none (suc k) 0 old ≡ one_more old = ap (λ (b : Bool). if b && (0 == 0) then one_more old else old) (lt-ltb 0 (suc k) (omega arith)) in
    ⊎_elim
    (λ (q : old + 1 < 2 ^ 64 - 1). inl (let same = rises ∙ min-eq_left (omega (arith, q)) in omega (arith, same)))
    (λ (q : 2 ^ 64 - 1 ≤ old + 1). inr (rises ∙ min-eq_right q))
    (cases_lt (old + 1) (2 ^ 64 - 1))
moved_or_none (suc k) (suc n) old few =
    let stays : counted_if_none (suc k) (suc n) old ≡ old = ap (λ (b : Bool). if nat_lt 0 (suc k) && b then one_more old else old) (ne_eqb (suc n) 0 (λ e. omega (arith, e))) ∙ and_no (nat_lt 0 (suc k)) in
    inl (omega (arith, stays))
  where
    and_no : (b : Bool) → (if b && false then one_more old else old) ≡ old
    and_no true = refl
    and_no false = refl

-- a count at its end stays there
stays_at_end : (could n old : ℕ) → old ≡ 2 ^ 64 - 1 → counted_if_none could n old ≡ 2 ^ 64 - 1
stays_at_end could n old end = by_counted (nat_lt 0 could && (n == 0))
  where
    by_counted : (b : Bool) → (if b then one_more old else old) ≡ 2 ^ 64 - 1
    by_counted true = min-eq_right (omega (arith, end))
    by_counted false = end

-- so many calls could move octets, and one more
wrote_with_room : (made e0 s0 e s t a n r : ℕ) → ((0 + 0 + (e0 + s0) + made ≤ a + r + (e + s)) ⊎ ((e ≡ 2 ^ 64 - 1) ⊎ (s ≡ 2 ^ 64 - 1))) → (s + 1 ≤ n + t) ⊎ (t ≡ 2 ^ 64 - 1) → (s ≡ 2 ^ 64 - 1 → t ≡ 2 ^ 64 - 1)
    → (0 + 0 + (e0 + s0) + (made + 1) ≤ a + n + r + (e + t)) ⊎ ((e ≡ 2 ^ 64 - 1) ⊎ (t ≡ 2 ^ 64 - 1))
wrote_with_room made e0 s0 e s t a n r (inr (inl full)) more stays = inr (inl full)
wrote_with_room made e0 s0 e s t a n r (inr (inr full)) more stays = inr (inr (stays full))
wrote_with_room made e0 s0 e s t a n r (inl h) (inr full) stays = inr (inr full)
wrote_with_room made e0 s0 e s t a n r (inl h) (inl more) stays = inl (omega (arith, h, more))

read_with_room : (made e0 s0 e s t a n r : ℕ) → ((0 + 0 + (e0 + s0) + made ≤ a + r + (e + s)) ⊎ ((e ≡ 2 ^ 64 - 1) ⊎ (s ≡ 2 ^ 64 - 1))) → (e + 1 ≤ n + t) ⊎ (t ≡ 2 ^ 64 - 1) → (e ≡ 2 ^ 64 - 1 → t ≡ 2 ^ 64 - 1)
    → (0 + 0 + (e0 + s0) + (made + 1) ≤ a + (r + n) + (t + s)) ⊎ ((t ≡ 2 ^ 64 - 1) ⊎ (s ≡ 2 ^ 64 - 1))
read_with_room made e0 s0 e s t a n r (inr (inl full)) more stays = inr (inl (stays full))
read_with_room made e0 s0 e s t a n r (inr (inr full)) more stays = inr (inr full)
read_with_room made e0 s0 e s t a n r (inl h) (inr full) stays = inr (inl full)
read_with_room made e0 s0 e s t a n r (inl h) (inl more) stays = inl (omega (arith, h, more))

-- ## The text goes out

wrote_more : (first old new text : List ℕ) (written n : ℕ) → old ≡ first ++ take written text → new ≡ old ++ take n (drop written text) → new ≡ first ++ take (written + n) text
wrote_more first old new text written n was is =
    is ∙ ap (λ (x : List ℕ). x ++ take n (drop written text)) was ∙ append_assoc first (take written text) (take n (drop written text))
    ∙ ap (λ (x : List ℕ). first ++ x) (sym (take-add written n text))

-- a write takes some of the text, or none, and the entry is still under way
pub wrote_entry : (old new : LineView) (was now : Entry) (n : ℕ) → was.written < 10 → n ≤ length (take (10 - was.written) (drop was.written entry_text))
    → new ≡ after_write n (take (10 - was.written) (drop was.written entry_text)) old
    → now ≡ record { written = was.written + n; kept = was.kept } → EntryGoesOn old new was now None
unfolding EntryGoesOn
wrote_entry old new was now n few short went is made first h =
    let rest = length (take (10 - was.written) (drop was.written entry_text)) in
    let stalled : new.stalled_writes ≡ counted_if_none rest n old.stalled_writes = ap (λ (l : LineView). l.stalled_writes) went in
    let empty : new.empty_reads ≡ old.empty_reads = ap (λ (l : LineView). l.empty_reads) went in
    let calls : new.calls ≡ one_more old.calls = ap (λ (l : LineView). l.calls) went in
    let behind : length (drop was.written entry_text) ≡ 10 - was.written = length-drop was.written entry_text in
    let whole : rest ≡ 10 - was.written = length-take-le (10 - was.written) (drop was.written entry_text) (omega (arith, behind)) in
    let some : 1 ≤ rest = omega (arith, whole, few) in
    let all_sent : length (take (was.written + n) entry_text) ≡ length (take was.written entry_text) + n = length-take-le (was.written + n) entry_text (omega (arith, few, short, whole)) ∙ sym (ap (λ (k : ℕ). k + n) (length-take-le was.written entry_text (omega (arith, few)))) in
    let room = wrote_with_room made first.empty_reads first.stalled_writes old.empty_reads old.stalled_writes (counted_if_none rest n old.stalled_writes) (length (take was.written entry_text)) n (length h.read) h.with_room (moved_or_none rest n old.stalled_writes some) (stays_at_end rest n old.stalled_writes) in
    let fits : n ≤ 10 - was.written = omega (arith, short, length-take {A = ℕ}) in
    subst (λ (e : Entry). IsUnderWay (made + 1) first new e) (sym is) record {
      read = h.read;
      sent_are =
          wrote_more first.sent old.sent new.sent entry_text was.written n h.sent_are
          (ap (λ (l : LineView). l.sent) went ∙ ap (λ (x : List ℕ). old.sent ++ x) (take-take n (10 - was.written) (drop was.written entry_text) fits));
      few = omega (arith, few, fits);
      read_are = ap (λ (l : LineView). l.received) went ∙ h.read_are;
      kept = h.kept;
      none = h.none;
      in_turn = ⊎_elim (λ (q : h.read ≡ []). inl q) (λ (q : was.written ≡ 10). inl (absurd (omega (arith, few, q)))) h.in_turn;
      counted = counted made first.calls old.calls new.calls h.counted calls;
      with_room = rw (all_sent, empty, stalled) room;
      bounded = no_more made first.calls old.calls new.calls h.bounded calls;
      sound = ap (λ (l : LineView). l.failures) went ∙ h.sound;
    }

-- the same of the entry as the code sees it
pub wrote_as : (old new : LineView) (seen was now : Entry) (n : ℕ) → seen ≡ was → was.written < 10
    → n ≤ length (take (10 - seen.written) (drop seen.written entry_text))
    → new ≡ after_write n (take (10 - seen.written) (drop seen.written entry_text)) old
    → now ≡ record { written = seen.written + n; kept = seen.kept } → EntryGoesOn old new was now None
wrote_as old new seen was now n same few short went is =
    subst (λ (e : Entry). EntryGoesOn old new e now None) same
    (wrote_entry old new seen now n (subst (λ (e : Entry). e.written < 10) (sym same) few) short went is)

-- ## The line fails

said_whole : (written : ℕ) (read : List ℕ) → (read ≡ []) ⊎ (written ≡ 10) → (read ≡ []) ⊎ (take written entry_text ≡ entry_text)
said_whole written read (inl none) = inl none
said_whole written read (inr all) = inr (subst (λ (n : ℕ). take n entry_text ≡ entry_text) (sym all) refl)

-- a call that fails ends the entry in LineFailed
pub failed : (old new : LineView) (was : Entry) → new ≡ after_fault old → Fails old new was
unfolding Fails
failed old new was fault made first h turns few = record {
  sent = take was.written entry_text;
  sent_are = ap (λ (l : LineView). l.sent) fault ∙ h.sent_are;
  beginning = record { rest = drop was.written entry_text; joins = take-append-drop was.written entry_text };
  read = h.read;
  read_are = ap (λ (l : LineView). l.received) fault ∙ h.read_are;
  in_turn = said_whole was.written h.read h.in_turn;
  bounded = bounded made turns first.calls old.calls new.calls h.bounded (ap (λ (l : LineView). l.calls) fault) few;
  failed = ap (λ (l : LineView). l.failures) fault ∙ ap (λ (n : ℕ). n + 1) h.sound;
  means = h.none;
}

-- what holds in any case holds where a call was refused
pub on_err : {T E P : Type 0} (r : Result T E) → P → OnErr r P
on_err (Ok value) p = tt
on_err (Err why) p = p

-- ## Octets come

-- an octet that ends a line is seen with the code that the line is
pub sees_line : (kept : List ℕ) (octet : ℕ) (line : List ℕ) (code : Option Final) → ((octets : List ℕ) → HasRead kept octets → lines (octets ++ octet ∷ []) ≡ lines octets ++ line ∷ [])
    → code ≡ final_of line → SeesCode kept octet code
sees_line kept octet line code past is = record { given = line ∷ []; one = inr (line, refl); past = past; code_is = is }

-- a read that gives nothing leaves the entry under way
gave_none : (old new : LineView) (was : Entry) → new ≡ after_read 1 0 [] old → EntryGoesOn old new was was None
unfolding EntryGoesOn
gave_none old new was came made first h = record {
  read = h.read;
  sent_are = ap (λ (l : LineView). l.sent) came ∙ h.sent_are;
  few = h.few;
  read_are = ap (λ (l : LineView). l.received) came ∙ append-nil old.received ∙ h.read_are;
  kept = h.kept;
  none = h.none;
  in_turn = h.in_turn;
  counted = counted made first.calls old.calls new.calls h.counted (ap (λ (l : LineView). l.calls) came);
  with_room =
      let none : new.empty_reads ≡ counted_if_none 1 0 old.empty_reads = ap (λ (l : LineView). l.empty_reads) came in
      let stalled : new.stalled_writes ≡ old.stalled_writes = ap (λ (l : LineView). l.stalled_writes) came in
      let same : length h.read + 0 ≡ length h.read = omega arith in
      rw (none, stalled, ← same) (read_with_room made first.empty_reads first.stalled_writes old.empty_reads old.stalled_writes (counted_if_none 1 0 old.empty_reads) (length (take was.written entry_text)) 0 (length h.read) h.with_room (moved_or_none 1 0 old.empty_reads (lit≤ tt)) (stays_at_end 1 0 old.empty_reads));
  bounded = no_more made first.calls old.calls new.calls h.bounded (ap (λ (l : LineView). l.calls) came);
  sound = ap (λ (l : LineView). l.failures) came ∙ h.sound;
}

-- the same of a read's octet as the code sees it, where there is none
pub none_came_in : (old new : LineView) (was : Entry) (o : Option ℕ) → o ≡ None → new ≡ after_read 1 (length (octet_in o)) (octet_in o) old → EntryGoesOn old new was was None
none_came_in old new was o is came = gave_none old new was (came ∙ ap (λ (x : Option ℕ). after_read 1 (length (octet_in x)) (octet_in x) old) is)

-- an octet came on a line that took the whole text
pub record OneCame (old new : LineView) (was now : Entry) (octet : ℕ) (given : List (List ℕ)) : Type 0 where
  pub whole : was.written ≡ 10
  pub written : now.written ≡ was.written
  pub sent : new.sent ≡ old.sent
  pub came : new.received ≡ old.received ++ octet ∷ []
  pub calls : new.calls ≡ one_more old.calls
  pub failures : new.failures ≡ old.failures
  pub empty : new.empty_reads ≡ counted_if_none 1 1 old.empty_reads
  pub stalled : new.stalled_writes ≡ old.stalled_writes
  pub keeps : HasRead now.kept (was.kept ++ octet ∷ [])
  pub past : (octets : List ℕ) → HasRead was.kept octets → lines (octets ++ octet ∷ []) ≡ lines octets ++ given

on_from : (old new : LineView) (was now : Entry) (octet : ℕ) (given : List (List ℕ)) → OneCame old new was now octet given
    → list_any is_final given ≡ false → (made : ℕ) (first : LineView) → IsUnderWay made first old was → IsUnderWay (made + 1) first new now
on_from old new was now octet given k none made first h = record {
  read = h.read ++ octet ∷ [];
  sent_are = k.sent ∙ h.sent_are ∙ ap (λ (n : ℕ). first.sent ++ take n entry_text) (sym k.written);
  few = subst (λ (n : ℕ). n ≤ 10) (sym k.written) h.few;
  read_are = k.came ∙ ap (λ (x : List ℕ). x ++ octet ∷ []) h.read_are ∙ append_assoc first.received h.read (octet ∷ []);
  kept = has_read-push was.kept now.kept h.read octet h.kept k.keeps;
  none =
      ap (list_any is_final) (k.past h.read h.kept) ∙ list_any-append is_final (lines h.read) given
      ∙ ap (λ (b : Bool). b || list_any is_final given) h.none ∙ none;
  in_turn = inr (k.written ∙ k.whole);
  counted = counted made first.calls old.calls new.calls h.counted k.calls;
  with_room =
      rw (k.empty, k.stalled, k.written, length-append h.read (octet ∷ []))
      (read_with_room made first.empty_reads first.stalled_writes old.empty_reads old.stalled_writes (counted_if_none 1 1 old.empty_reads) (length (take was.written entry_text)) 1 (length h.read) h.with_room (moved_or_none 1 1 old.empty_reads (lit≤ tt)) (stays_at_end 1 1 old.empty_reads));
  bounded = no_more made first.calls old.calls new.calls h.bounded k.calls;
  sound = k.failures ∙ h.sound;
}

-- so does an octet that ends no line
pub no_line : (old new : LineView) (was now : Entry) (octet : ℕ) → OneCame old new was now octet [] → EntryGoesOn old new was now None
unfolding EntryGoesOn
no_line old new was now octet k made first h = on_from old new was now octet [] k refl made first h

abbrev is_good : Option Final → Bool
is_good (Some Good) = true
is_good (Some Error) = false
is_good (Some (Cme n)) = false
is_good (Some (Named n)) = false
is_good None = false

good_by : (b : Bool) (behind : Option Final) → is_good behind ≡ false → is_good (if b then Some Good else behind) ≡ b
good_by true behind other = refl
good_by false behind other = other

other_by : (b : Bool) (behind : Option Final) → is_good behind ≡ false → is_good (if b then Some Error else behind) ≡ false
other_by true behind other = refl
other_by false behind other = other

number_by : (b : Bool) (n : Option ℕ) → is_good (if b then Some (Cme n) else None) ≡ false
number_by true n = refl
number_by false n = refl

good_is : (line : List ℕ) → is_good (final_of line) ≡ bytes_eq line (codes "OK")
good_is line = good_by (bytes_eq line (codes "OK")) _ (other_by (bytes_eq line (codes "ERROR")) _ (number_by (starts_with nat_eq line (codes "+CME ERROR:")) _))

ends : (line : List ℕ) (read before : List ℕ) (line_end : ℕ) → read ≡ before ++ line_end ∷ [] → lines read ≡ lines before ++ line ∷ []
    → list_any is_final (lines before) ≡ false → is_final line ≡ true → EndsWithFinal read line
ends line read before line_end is ended none final = record {
  before = before;
  line_end = line_end;
  octets_are = is;
  ended = ended;
  none_before = none;
  final = final;
}

over : (old new : LineView) (was now : Entry) (octet : ℕ) (line : List ℕ) (says : EntryAnswer) → OneCame old new was now octet (line ∷ [])
    → ((read : List ℕ) → EndsWithFinal read line → (turns : ℕ) (first : LineView) → EntryMeans turns entry_text read first new says)
    → ((first : LineView) → new.failures ≡ first.failures → FailsBy first new says) → is_final line ≡ true
    → (made : ℕ) (first : LineView) → IsUnderWay made first old was → EntryEnds made first new says
over old new was now octet line says k means sound final made first h turns few = record {
  sent = entry_text;
  sent_are = k.sent ∙ h.sent_are ∙ ap (λ (n : ℕ). first.sent ++ take n entry_text) k.whole;
  beginning = record { rest = []; joins = refl };
  read = h.read ++ octet ∷ [];
  read_are = k.came ∙ ap (λ (x : List ℕ). x ++ octet ∷ []) h.read_are ∙ append_assoc first.received h.read (octet ∷ []);
  in_turn = inr refl;
  bounded = bounded made turns first.calls old.calls new.calls h.bounded k.calls few;
  failed = sound first (k.failures ∙ h.sound);
  means = means (h.read ++ octet ∷ []) (ends line (h.read ++ octet ∷ []) h.read octet refl (k.past h.read h.kept) h.none final) turns first;
}

comes_by : (old new : LineView) (was now : Entry) (octet : ℕ) (line : List ℕ) (code : Option Final) → final_of line ≡ code
    → OneCame old new was now octet (line ∷ []) → (made : ℕ) (first : LineView) → IsUnderWay made first old was → Comes made first new now code
comes_by old new was now octet line None e k made first h =
    on_from old new was now octet (line ∷ []) k (ap (λ (b : Bool). b || false) (sym (final_is line) ∙ ap is_some e)) made first h
comes_by old new was now octet line (Some Good) e k made first h =
    over old new was now octet line Entered k
    (λ read q turns f. record { whole = refl; ok = subst (EndsWithFinal read) ((bytes_eq-Decides line (codes "OK")).0 (sym (good_is line) ∙ ap is_good e)) q })
    (λ f q. q) (sym (final_is line) ∙ ap is_some e) made first h
comes_by old new was now octet line (Some Error) e k made first h =
    over old new was now octet line Refused k
    (λ read q turns f. record { whole = refl; line = line; other = λ ok. true≢false (ap (λ (l : List ℕ). is_good (final_of l)) (sym ok) ∙ ap is_good e); ended = q })
    (λ f q. q) (sym (final_is line) ∙ ap is_some e) made first h
comes_by old new was now octet line (Some (Cme n)) e k made first h =
    over old new was now octet line Refused k
    (λ read q turns f. record { whole = refl; line = line; other = λ ok. true≢false (ap (λ (l : List ℕ). is_good (final_of l)) (sym ok) ∙ ap is_good e); ended = q })
    (λ f q. q) (sym (final_is line) ∙ ap is_some e) made first h
comes_by old new was now octet line (Some (Named n)) e k made first h =
    over old new was now octet line Refused k
    (λ read q turns f. record { whole = refl; line = line; other = λ ok. true≢false (ap (λ (l : List ℕ). is_good (final_of l)) (sym ok) ∙ ap is_good e); ended = q })
    (λ f q. q) (sym (final_is line) ∙ ap is_some e) made first h

-- an octet that ends a line ends the entry where that is a final code
pub one_line : (old new : LineView) (was now : Entry) (octet : ℕ) (line : List ℕ) → OneCame old new was now octet (line ∷ []) → EntryGoesOn old new was now (final_of line)
unfolding EntryGoesOn
one_line old new was now octet line k made first h = comes_by old new was now octet line (final_of line) refl k made first h

comes_from : (old new : LineView) (was now : Entry) (octet : ℕ) (given : List (List ℕ)) → (given ≡ []) ⊎ ((line : List ℕ) × (given ≡ line ∷ []))
    → OneCame old new was now octet given → EntryGoesOn old new was now (code_in given)
comes_from old new was now octet given (inl none) k =
    subst (λ (g : List (List ℕ)). OneCame old new was now octet g → EntryGoesOn old new was now (code_in g)) (sym none) (no_line old new was now octet) k
comes_from old new was now octet given (inr one) k =
    subst (λ (g : List (List ℕ)). OneCame old new was now octet g → EntryGoesOn old new was now (code_in g)) (sym one.1) (one_line old new was now octet one.0) k

-- any octet that comes ends the entry where a final code ends with it, and else leaves it under way
pub one_came : (old new : LineView) (seen was now : Entry) (o : Option ℕ) (octet : ℕ) (code : Option Final) → seen ≡ was → o ≡ Some octet → was.written ≡ 10
    → now.written ≡ seen.written → new ≡ after_read 1 (length (octet_in o)) (octet_in o) old
    → HasRead now.kept (seen.kept ++ octet ∷ []) → SeesCode seen.kept octet code → EntryGoesOn old new was now code
one_came old new seen was now o octet code same is whole written came keeps sees =
    let one : new ≡ after_read 1 1 (octet ∷ []) old = came ∙ ap (λ (x : Option ℕ). after_read 1 (length (octet_in x)) (octet_in x) old) is in
    subst (λ (e : Entry). EntryGoesOn old new e now code) same
    (subst (EntryGoesOn old new seen now) (sym sees.code_is) (comes_from old new seen now octet sees.given sees.one record {
      whole = ap (λ (e : Entry). e.written) same ∙ whole;
      written = written;
      sent = ap (λ (l : LineView). l.sent) one;
      came = ap (λ (l : LineView). l.received) one;
      calls = ap (λ (l : LineView). l.calls) one;
      failures = ap (λ (l : LineView). l.failures) one;
      empty = ap (λ (l : LineView). l.empty_reads) one;
      stalled = ap (λ (l : LineView). l.stalled_writes) one;
      keeps = keeps;
      past = sees.past;
    }))

-- ## From the beginning to the end

-- an entry that has made no call is under way
pub begun : (first : LineView) → IsUnderWay 0 first first entry_begun
begun first = record {
  read = [];
  sent_are = sym (append-nil first.sent);
  few = lit≤ tt;
  read_are = sym (append-nil first.received);
  kept = refl;
  none = refl;
  in_turn = inl refl;
  counted = inl (omega (arith));
  with_room = inl (omega (arith));
  bounded = omega (arith);
  sound = refl;
}

-- one that has made all its calls without a final code ends in NoAnswer
pub none_answered : (made turns : ℕ) (first now : LineView) (entry : Entry) → IsUnderWay made first now entry → made ≡ turns → IsEntry turns first now NoAnswer
none_answered made turns first now entry h all = subst (λ (n : ℕ). IsEntry n first now NoAnswer) all record {
  sent = take entry.written entry_text;
  sent_are = h.sent_are;
  beginning = record { rest = drop entry.written entry_text; joins = take-append-drop entry.written entry_text };
  read = h.read;
  read_are = h.read_are;
  in_turn = said_whole entry.written h.read h.in_turn;
  bounded = h.bounded;
  failed = h.sound;
  means = record { all_made = h.counted; with_room = h.with_room; none = h.none };
}

-- after one call more without a final code it is under way
pub goes_on : (made : ℕ) (first old new : LineView) (was now : Entry) (code : Option Final) → IsUnderWay made first old was
    → EntryGoesOn old new was now code → code ≡ None → IsUnderWay (made + 1) first new now
unfolding EntryGoesOn
goes_on made first old new was now code h goes is = subst (Comes made first new now) is (goes made first h)

-- a call in which a final code came ends it in what the code says
pub ends_by_code : (made turns : ℕ) (first old new : LineView) (was now : Entry) (o : Option Final) (code : Final) → IsUnderWay made first old was
    → EntryGoesOn old new was now o → o ≡ Some code → made < turns → IsEntry turns first new (answer_by code)
unfolding EntryGoesOn
ends_by_code made turns first old new was now o code h goes is few = subst (Comes made first new now) is (goes made first h) turns (omega (arith, few))

-- and a call that failed in LineFailed
pub ends_failed : (made turns : ℕ) (first old new : LineView) (was : Entry) → IsUnderWay made first old was
    → Fails old new was → made < turns → IsEntry turns first new LineFailed
unfolding Fails
ends_failed made turns first old new was h fails few = fails made first h turns (omega (arith, few))

-- where it succeeds its answer is Entered
pub says_entered : {T E : Type 0} (turns : ℕ) (first now : LineView) (said : EntryAnswer) (r : Result T E) → IsEntry turns first now said
    → OnOk r (said ≡ Entered) → OnOk r (IsEntry turns first now Entered)
says_entered turns first now said (Ok x) h is = subst (IsEntry turns first now) is h
says_entered turns first now said (Err why) h is = tt

-- where it is refused the refusal names its answer
pub says_answer : {T : Type 0} (turns : ℕ) (first now : LineView) (said : EntryAnswer) (r : Result T EntryError) → IsEntry turns first now said
    → IfErr r (λ why. said ≡ entry_answer why) → IfErr r (λ why. IsEntry turns first now (entry_answer why))
says_answer turns first now said (Ok x) h is = tt
says_answer turns first now said (Err why) h is = subst (IsEntry turns first now) is h
