-- What a modem with words does at a packet call, and with the rest of its line.
use Rattle.std.specs.Prelude.{◌≡◌, ℕ, Bool, true, false, List, [], ◌∷◌, ◌++◌, codes, fold, map, Option, Some, None, refl}
use Rattle.std.proofs.Common.{ap, append-nil, sym, ◌∙◌}
use Rattle.std.proofs.lemmas.List.Sums.{fold-append}
use Rattle.modem_sim.specs.declared.state.Lock.TheVariants.{Ready}
use Rattle.modem_sim.specs.declared.state.ModemState.{ModemState}
use Rattle.modem_sim.specs.declared.state.Words.{Words}
use Rattle.modem_sim.specs.declared.words.Word.TheVariants.{Dial}
use Rattle.at_cmds.specs.Values.{command_of}
use Rattle.modem_data.specs.Switching.{is_connect}
use Rattle.modem_sim.specs.Steps.{dialled, is_registered, line_of, lock_error, Step}
use Rattle.modem_sim.specs.LineSteps.{announced_as, answered_by, nothing_ran, ran_next, ran_other, is_through, ran_text, ran_unless, ran_word, reports_held, step, with_late, Ran}
use Rattle.modem_sim.specs.WordLaws.{AnswersCalls, EndsAtCalls, HoldsBehindCalls, IsCall}
use Rattle.modem_sim.proofs.law_proofs.WordedModems.{late_by, none_late, whole_line}

-- ## The rest of the line

-- a line that has ended
record IsOver (r : Ran) : Type 0 where
  code : List ℕ
  is : r.ended ≡ Some code

stays_over : (r : Ran) (text : List ℕ) → IsOver r → ran_next r text ≡ r
stays_over r text over = ap (λ o. ran_unless o r text) over.is

rest_over : (texts : List (List ℕ)) (r : Ran) → IsOver r → fold ran_next r texts ≡ r
rest_over [] r over = refl
rest_over (text ∷ texts) r over = ap (λ x. fold ran_next x texts) (stays_over r text over) ∙ rest_over texts r over

word_over : (o : Option ℕ) (w : Words) (r : Ran) (cid : ℕ) → IsOver (ran_word o w r (Dial cid))
word_over None w r cid = record { code = _; is = refl }
word_over (Some number) w r cid = record { code = _; is = refl }

other_over : (words : Option Words) (r : Ran) (cid : ℕ) → IsOver (ran_other words r (Some (Dial cid)))
other_over None r cid = record { code = _; is = refl }
other_over (Some w) r cid = word_over (lock_error r.state.lock) w r cid

-- a call is of the second table
call_read : (r : Ran) (text : List ℕ) (cid : ℕ) → IsCall text cid → ran_text (command_of text) r text ≡ ran_other r.state.words r (Some (Dial cid))
call_read r text cid is = ap (λ o. ran_text o r text) is.other ∙ ap (ran_other r.state.words r) is.call

call_over_at : (o : Option (List ℕ)) (r : Ran) (text : List ℕ) (cid : ℕ) → r.ended ≡ o → IsCall text cid → IsOver (ran_unless o r text)
call_over_at (Some code) r text cid ended is = record { code = code; is = ended }
call_over_at None r text cid ended is = rw (call_read r text cid is) (other_over r.state.words r cid)

call_over : (r : Ran) (text : List ℕ) (cid : ℕ) → IsCall text cid → IsOver (ran_next r text)
call_over r text cid is = call_over_at r.ended r text cid refl is

-- what stands behind a call in its line isn't done
pub ends_at_calls : EndsAtCalls
ends_at_calls r before behind text cid is =
    let front : Ran = fold ran_next r before in
    fold-append ran_next r before (text ∷ behind)
    ∙ rest_over behind (ran_next front text) (call_over front text cid is)
    ∙ sym (fold-append ran_next r before (text ∷ []))

-- ## The answer

-- what a call comes to where the SIM is ready
abbrev called : ModemState → ℕ → Ran
called s cid = record { state = s; told = []; ended = Some (dialled cid s) }

call_ran : (s : ModemState) (w : Words) (text : List ℕ) (cid : ℕ) → s.words ≡ Some w → s.lock ≡ Ready → IsCall text cid → ran_next (nothing_ran s) text ≡ called s cid
call_ran s w text cid some ready is =
    call_read (nothing_ran s) text cid is
    ∙ ap (λ words. ran_other words (nothing_ran s) (Some (Dial cid))) some
    ∙ ap (λ lock. ran_word (lock_error lock) w (nothing_ran s) (Dial cid)) ready

-- nothing is announced where nothing changed
none_announced : (registered : Bool) (s : ModemState) → announced_as registered registered s ≡ []
none_announced true s = refl
none_announced false s = refl

-- a call that changes nothing is all that is said, put through or not
called_alone : (b : Bool) (s : ModemState) (cid : ℕ) → s.late ≡ [] → with_late b (answered_by b s (called s cid)) ≡ record { state = s; answer = line_of (dialled cid s) ∷ [] }
called_alone true s cid none =
    let state_by : List (List ℕ) → ModemState = λ texts. record s { late = reports_held true texts ++ s.late } in
    ap (λ texts. with_late true (record { state = state_by texts; answer = line_of (dialled cid s) ∷ [] })) (none_announced (is_registered s.lock s.oper) s)
    ∙ none_late true (record { state = s; answer = line_of (dialled cid s) ∷ [] }) none
called_alone false s cid none =
    ap (λ texts. with_late false (record { state = s; answer = line_of (dialled cid s) ∷ map line_of texts })) (none_announced (is_registered s.lock s.oper) s)
    ∙ none_late false (record { state = s; answer = line_of (dialled cid s) ∷ [] }) none

-- a line of one call to a ready modem is answered by one result code, and leaves the modem as it was
pub answers_calls : AnswersCalls
answers_calls s w line text cid some ready short own none divided is =
    let by : Ran → Step = λ r. with_late (is_through r.ended) (answered_by (is_through r.ended) s r) in
    whole_line s line w some short own
    ∙ ap (late_by s) divided
    ∙ ap by (call_ran s w text cid some ready is)
    ∙ called_alone (is_connect (dialled cid s)) s cid none

-- ## Behind a CONNECT

-- nothing is said behind a CONNECT: reports, and lines that waited, come behind the next answer
pub holds_behind_calls : HoldsBehindCalls
holds_behind_calls s w line commands some short own divided through =
    let r : Ran = fold ran_next (nothing_ran s) commands in
    let by : Option (List ℕ) → Step = λ o. with_late (is_through o) (answered_by (is_through o) s (record r { ended = o })) in
    let whole : step s line ≡ by (Some (codes "CONNECT")) = whole_line s line w some short own ∙ ap (late_by s) divided ∙ ap by through in
    record {
      answer = ap (λ t. t.answer) whole ∙ append-nil (r.told ++ line_of (codes "CONNECT") ∷ []);
      waiting = ap (λ t. t.state.late) whole;
    }
