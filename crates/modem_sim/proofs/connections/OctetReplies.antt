-- Replies to the lines that octets bring, octet by octet.
use Rattle.std.specs.Prelude.{◌≡◌, ℕ, ◌+◌, ◌<◌, ◌≤◌, ◌||◌, Bool, true, false, List, [], ◌∷◌, ◌++◌, length, drop, map, filter, refl}
use Rattle.std.specs.List.{list_any}
use Rattle.std.proofs.Common.{arith, sym, ap, ◌∙◌, subst, append_assoc, append-nil, add-one, drop-cons, get_or}
use Rattle.std.proofs.lemmas.List.{length-append}
use Rattle.at_text.specs.Lines.{is_line_end, lines, kept_run, cut, is_filled, unfinished}
use Rattle.at_text.proofs.lines.UnfinishedLines.{no_run, has_end-take, has_end-unfinished, reads_on}
use Rattle.modem_sim.specs.declared.state.ModemState.{ModemState}
use Rattle.modem_sim.specs.Outboxes.{any_call}
use Rattle.modem_sim.specs.LineSteps.{any_through, step}
use Rattle.modem_sim.specs.Laws.{after_lines}
use Rattle.modem_sim.specs.Pieces.{pieces_octets, reply, replies}
use Rattle.modem_sim.proofs.law_proofs.Histories.{spelled-append}

-- a modem that executes lines and then others executes all of them
pub after_lines-append : (m : ModemState) (a b : List (List ℕ)) → after_lines m (a ++ b) ≡ after_lines (after_lines m a) b
after_lines-append m [] b = refl
after_lines-append m (line ∷ a) b = after_lines-append (step m line).state a b

replies-append : (echo : Bool) (m : ModemState) (a b : List (List ℕ)) → replies echo m (a ++ b) ≡ replies echo m a ++ replies echo (after_lines m a) b
replies-append echo m [] b = refl
replies-append echo m (line ∷ a) b =
    ap (λ x. reply echo m line ++ x) (replies-append echo (step m line).state a b)
    ∙ sym (append_assoc (reply echo m line) (replies echo (step m line).state a) (replies echo (after_lines (step m line).state a) b))

or_assoc : (a b c : Bool) → ((a || b) || c) ≡ (a || (b || c))
or_assoc true b c = refl
or_assoc false b c = refl

-- a flag stays as it is where nothing else sets it
pub or_none : (a : Bool) → (a || false) ≡ a
or_none true = refl
or_none false = refl

any_call-append : (m : ModemState) (a b : List (List ℕ)) → any_call m (a ++ b) ≡ (any_call m a || any_call (after_lines m a) b)
any_call-append m [] b = refl
any_call-append m (line ∷ a) b =
    let first = any_through (step m line).answer in
    ap (λ x. first || x) (any_call-append (step m line).state a b)
    ∙ sym (or_assoc first (any_call (step m line).state a) (any_call (after_lines (step m line).state a) b))

-- what is kept of an unfinished line is that, read anew
pub kept_again : (text : List ℕ) → kept_run (kept_run text) ≡ kept_run text
kept_again text = ap kept_run (sym (append-nil (kept_run text))) ∙ sym (reads_on text []).keeps ∙ ap kept_run (append-nil text)

-- and no line has ended in it
pub no_lines : (run : List ℕ) → kept_run run ≡ run → lines run ≡ []
no_lines run kept =
    let plain : list_any is_line_end (kept_run run) ≡ false = has_end-take 512 (unfinished run) (has_end-unfinished run) in
    ap lines (sym kept) ∙ ap (λ runs. map cut (filter is_filled runs)) (no_run (kept_run run) plain)

-- after some octets, when these are left
pub record IsGoing (echo : Bool) (m0 : ModemState) (r0 octets out0 : List ℕ) (c0 : Bool) (m : ModemState) (r rest out : List ℕ) (c : Bool) (count i : ℕ) : Type 0 where
  pub counted : count + length (lines (r ++ rest)) ≡ length (lines (r0 ++ octets))
  pub state : after_lines m (lines (r ++ rest)) ≡ after_lines m0 (lines (r0 ++ octets))
  pub said : out ++ pieces_octets (replies echo m (lines (r ++ rest))) ≡ out0 ++ pieces_octets (replies echo m0 (lines (r0 ++ octets)))
  pub calls : (c || any_call m (lines (r ++ rest))) ≡ (c0 || any_call m0 (lines (r0 ++ octets)))
  pub kept : kept_run (r ++ rest) ≡ kept_run (r0 ++ octets)
  pub fits : kept_run r ≡ r
  pub few : count ≤ i

-- so it is before the first octet
pub begun : (echo : Bool) (m : ModemState) (r octets out : List ℕ) (c : Bool) → kept_run r ≡ r → IsGoing echo m r octets out c m r octets out c 0 0
begun echo m r octets out c fits = record { counted = omega arith; state = refl; said = refl; calls = refl; kept = refl; fits = fits; few = omega arith }

-- one octet more
pub goes_on : (echo : Bool) (m0 : ModemState) (r0 octets out0 : List ℕ) (c0 : Bool) (m : ModemState) (r out : List ℕ) (c : Bool) (count i : ℕ) (octet : ℕ) (rest : List ℕ) (m' : ModemState) (r' out' : List ℕ) (c' : Bool) (n : ℕ) → IsGoing echo m0 r0 octets out0 c0 m r (octet ∷ rest) out c count i → n ≡ length (lines (r ++ octet ∷ [])) → n ≤ 1 → out' ≡ out ++ pieces_octets (replies echo m (lines (r ++ octet ∷ []))) → m' ≡ after_lines m (lines (r ++ octet ∷ [])) → r' ≡ kept_run (r ++ octet ∷ []) → c' ≡ (c || any_call m (lines (r ++ octet ∷ []))) → IsGoing echo m0 r0 octets out0 c0 m' r' rest out' c' (count + n) (i + 1)
goes_on echo m0 r0 octets out0 c0 m r out c count i octet rest m' r' out' c' n going ended one wrote state kept called =
    let front = r ++ octet ∷ [] in
    let ls = lines front in
    let on = reads_on front rest in
    let whole : front ++ rest ≡ r ++ octet ∷ rest = append_assoc r (octet ∷ []) rest in
    let left : lines (r ++ octet ∷ rest) ≡ ls ++ lines (r' ++ rest) = ap lines (sym whole) ∙ on.reads_kept ∙ ap (λ x. ls ++ lines (x ++ rest)) (sym kept) in
    let size : length (lines (r ++ octet ∷ rest)) ≡ n + length (lines (r' ++ rest)) = ap length left ∙ length-append ls (lines (r' ++ rest)) ∙ ap (λ x. x + length (lines (r' ++ rest))) (sym ended) in
    record {
      counted = let before = going.counted in omega arith;
      state = ap (λ x. after_lines x (lines (r' ++ rest))) state ∙ sym (after_lines-append m ls (lines (r' ++ rest))) ∙ ap (after_lines m) (sym left) ∙ going.state;
      said = ap (λ x. x ++ pieces_octets (replies echo m' (lines (r' ++ rest)))) wrote
          ∙ append_assoc out (pieces_octets (replies echo m ls)) (pieces_octets (replies echo m' (lines (r' ++ rest))))
          ∙ ap (λ x. out ++ x) (
          sym (spelled-append (replies echo m ls) (replies echo m' (lines (r' ++ rest))))
          ∙ ap (λ x. pieces_octets (replies echo m ls ++ replies echo x (lines (r' ++ rest)))) state
          ∙ ap pieces_octets (sym (replies-append echo m ls (lines (r' ++ rest))) ∙ ap (replies echo m) (sym left)))
          ∙ going.said;
      calls = ap (λ x. x || any_call m' (lines (r' ++ rest))) called
          ∙ or_assoc c (any_call m ls) (any_call m' (lines (r' ++ rest)))
          ∙ ap (λ x. c || (any_call m ls || any_call x (lines (r' ++ rest)))) state
          ∙ ap (λ x. c || x) (sym (any_call-append m ls (lines (r' ++ rest))) ∙ ap (any_call m) (sym left))
          ∙ going.calls;
      kept = ap (λ x. kept_run (x ++ rest)) kept ∙ sym on.keeps ∙ ap kept_run whole ∙ going.kept;
      fits = ap kept_run kept ∙ kept_again front ∙ sym kept;
      few = let before = going.few in omega arith;
    }

-- no octet is left
pub record IsDone (echo : Bool) (m0 : ModemState) (r0 octets out0 : List ℕ) (c0 : Bool) (m : ModemState) (r out : List ℕ) (c : Bool) (count : ℕ) : Type 0 where
  pub counted : count ≡ length (lines (r0 ++ octets))
  pub state : m ≡ after_lines m0 (lines (r0 ++ octets))
  pub said : out ≡ out0 ++ pieces_octets (replies echo m0 (lines (r0 ++ octets)))
  pub calls : c ≡ (c0 || any_call m0 (lines (r0 ++ octets)))
  pub kept : r ≡ kept_run (r0 ++ octets)

-- where none is left all octets are done
pub ends_so : (echo : Bool) (m0 : ModemState) (r0 octets out0 : List ℕ) (c0 : Bool) (m : ModemState) (r rest out : List ℕ) (c : Bool) (count i : ℕ) → rest ≡ [] → IsGoing echo m0 r0 octets out0 c0 m r rest out c count i → IsDone echo m0 r0 octets out0 c0 m r out c count
ends_so echo m0 r0 octets out0 c0 m r rest out c count i over going =
    let nil : r ++ rest ≡ r = ap (λ x. r ++ x) over ∙ append-nil r in
    let none : lines (r ++ rest) ≡ [] = ap lines nil ∙ no_lines r going.fits in
    let zero_left : length (lines (r ++ rest)) ≡ 0 = ap length none in
    record {
      counted = let before = going.counted in omega arith;
      state = sym (ap (after_lines m) none) ∙ going.state;
      said = sym (append-nil out) ∙ ap (λ x. out ++ pieces_octets (replies echo m x)) (sym none) ∙ going.said;
      calls = sym (or_none c) ∙ ap (λ x. c || any_call m x) (sym none) ∙ going.calls;
      kept = sym going.fits ∙ ap kept_run (sym nil) ∙ going.kept;
    }

-- the octet at this place
pub goes_on_at : (echo : Bool) (m0 : ModemState) (r0 octets out0 : List ℕ) (c0 : Bool) (m : ModemState) (r out : List ℕ) (c : Bool) (count i : ℕ) (m' : ModemState) (r' out' : List ℕ) (c' : Bool) (n : ℕ) → i < length octets → IsGoing echo m0 r0 octets out0 c0 m r (drop i octets) out c count i → n ≡ length (lines (r ++ get_or octets i 0 ∷ [])) → n ≤ 1 → out' ≡ out ++ pieces_octets (replies echo m (lines (r ++ get_or octets i 0 ∷ []))) → m' ≡ after_lines m (lines (r ++ get_or octets i 0 ∷ [])) → r' ≡ kept_run (r ++ get_or octets i 0 ∷ []) → c' ≡ (c || any_call m (lines (r ++ get_or octets i 0 ∷ []))) → IsGoing echo m0 r0 octets out0 c0 m' r' (drop (i + 1) octets) out' c' (count + n) (i + 1)
goes_on_at echo m0 r0 octets out0 c0 m r out c count i m' r' out' c' n inside going ended one wrote state kept called =
    let here : drop i octets ≡ get_or octets i 0 ∷ drop (i + 1) octets = rw add-one (drop-cons octets i 0 inside) in
    let Going : List ℕ → Type 0 = λ rest. IsGoing echo m0 r0 octets out0 c0 m r rest out c count i in
    goes_on echo m0 r0 octets out0 c0 m r out c count i (get_or octets i 0) (drop (i + 1) octets) m' r' out' c' n (subst Going here going) ended one wrote state kept called
