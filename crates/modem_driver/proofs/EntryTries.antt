-- An entry goes on by one try, and then by others.
use Rattle.std.specs.Prelude.{◌≡◌, ◌≢◌, ℕ, zero, suc, ◌+◌, ◌-◌, ◌^◌, ◌<◌, ◌≤◌, ◌==◌, Bool, true, false, List, [], ◌∷◌, ◌++◌, take, drop, length, refl, Option, None, Some, is_some, Result, Ok, Err, IfOk, OnOk, if◌then◌else◌}
use Rattle.std.proofs.Math.Seq.{take-length}
use Rattle.std.proofs.Common.{ap, inr, sym, ◌∙◌, subst, arith, rules, ⊎_elim}
use Rattle.std.proofs.lemmas.List.{append_assoc, append-nil, take-append-drop}
use Rattle.std.specs.List.{list_any}
use Rattle.modem_history.specs.Acts.{Act, in_hand}
use Rattle.modem_history.specs.Sessions.{Beginning, LineView}
use Rattle.modem_driver.specs.Endpoints.{wants_time}
use Rattle.modem_driver.specs.SessionStates.{FitsAll, SessionState}
use Rattle.serial_line.specs.Counts.{one_more}
use Rattle.serial_line.specs.LineViews.{after_read}
use Rattle.modem_driver.specs.Entries.{octet_in}
use Rattle.mux_frame.specs.Spelling.{spelled}
use Rattle.at_text.specs.declared.finals.Final.{Final}
use Rattle.modem_driver.specs.EntrySteps.{CountsIdle, EntryView, EntryStepsOn, IsAsked, IsAnswered, IsUnanswering, MovesBy, MovesSome, StepsTo, close_down_frame}
use Rattle.modem_driver.specs.EntryTries.{AsksEach, HasNoReply, HasTried, IsAsking, IsNeverRepliedTo, IsPartlySent, IsRepliedTo, IsSent, IsTried, IsUnanswered, SaysWhy, asked_none, asked_ranges, closing, fill, flags, no_code, no_ranges, not_answered, ranges_text}
use Rattle.modem_driver.specs.declared.entering.EntryError.{EntryError}
use Rattle.modem_driver.specs.declared.entering.EntryError.TheVariants as error
use Rattle.at_text.specs.declared.finals.Final.TheVariants.{Good}
use Rattle.modem_driver.specs.declared.entry.EntryStep.{EntryStep}
use Rattle.modem_driver.specs.declared.entry.EntryStep.TheVariants.{Moved, Idle, Answered}

-- what is in hand is so by every history that fits
pub hand_wants : {X : Type 0} (look : X → LineView) (s : SessionState X) (says : Bool) → says ≡ list_any wants_time s.machine.core.hand
    → (b : Beginning) (past : List Act) → FitsAll b look s past → says ≡ list_any wants_time (in_hand past)
hand_wants look s says e b past h = e ∙ ap (list_any wants_time) (sym h.inside.fits.hand_is)

-- ## Asking

-- before the first step nothing has answered
pub asking : (line : LineView) (text : List ℕ) (entry : EntryView) (count : ℕ) → entry.text ≡ text → IsAsked line line entry → IsAsking line line text 0 entry count count
asking line text entry count is asked = record { asked = asked; text_is = is; sound = refl; made_is = omega arith; keeps_up = omega arith }

-- a step that moved something, or none
goes_on : (first old new : LineView) (text : List ℕ) (made : ℕ) (was now : EntryView) (a b c : ℕ) → IsAsking first old text made was a b → IsAsked first new now
    → now.text ≡ was.text → new.failures ≡ old.failures → new.calls ≡ one_more old.calls → c ≡ one_more b → IsAsking first new text (made + 1) now a c
goes_on first old new text made was now a b c h asked same sound counted more =
    let made_is = h.made_is in
    let keeps = h.keeps_up in
    record {
      asked = asked;
      text_is = same ∙ h.text_is;
      sound = sound ∙ h.sound;
      made_is = omega (arith, made_is, counted);
      keeps_up = omega (arith, keeps, counted, more);
    }

-- after a step that says Moved nothing has
pub on_moved : (first old new : LineView) (text : List ℕ) (made : ℕ) (was now : EntryView) (a b c : ℕ) (said : EntryStep) → said ≡ Moved → IsAsking first old text made was a b → EntryStepsOn old new was now said
    → now.text ≡ was.text → new.failures ≡ old.failures → new.calls ≡ one_more old.calls → c ≡ one_more b → IsAsking first new text (made + 1) now a c
unfolding EntryStepsOn
on_moved first old new text made was now a b c said is h steps same sound counted more =
    goes_on first old new text made was now a b c h (subst (StepsTo first new now) is (steps first h.asked)) same sound counted more

-- nor after one that says Idle
pub on_idle : (first old new : LineView) (text : List ℕ) (made : ℕ) (was now : EntryView) (a b c : ℕ) (said : EntryStep) → said ≡ Idle → IsAsking first old text made was a b → EntryStepsOn old new was now said
    → now.text ≡ was.text → new.failures ≡ old.failures → new.calls ≡ one_more old.calls → c ≡ one_more b → IsAsking first new text (made + 1) now a c
unfolding EntryStepsOn
on_idle first old new text made was now a b c said is h steps same sound counted more =
    goes_on first old new text made was now a b c h (subst (StepsTo first new now) is (steps first h.asked)) same sound counted more

-- a step that says Answered: this code answered the text
pub answered : (first old new : LineView) (text : List ℕ) (made : ℕ) (was now : EntryView) (a b : ℕ) (said : EntryStep) (code : Final) → said ≡ Answered code → IsAsking first old text made was a b → EntryStepsOn old new was now said
    → now.text ≡ was.text → IsAnswered first new text code
unfolding EntryStepsOn
answered first old new text made was now a b said code is h steps same =
    subst (λ (t : List ℕ). IsAnswered first new t code) (same ∙ h.text_is) (subst (StepsTo first new now) is (steps first h.asked))

-- where no step says so the text wasn't answered
pub unanswered : (first now : LineView) (text : List ℕ) (made : ℕ) (entry : EntryView) (a b : ℕ) → IsAsking first now text made entry a b → IsUnanswered first now text
unanswered first now text made entry a b h = record { entry = entry; text_is = h.text_is; asked = h.asked }

-- ## What patience is asked

-- before any call of the line patience needn't be asked
pub asks_none : (line : LineView) (a i : ℕ) → AsksEach 0 line line a a i i
asks_none line a i =
    record { each = λ below. record { calls = omega arith; reads = omega arith; writes = omega arith; asked = omega arith; each = omega arith; idle = refl } }

-- one call more, as the counts below u64::MAX say it
asks_then : (but more db dr dw : ℕ) (first old new : LineView) (a b c i j k : ℕ) → but + 1 ≤ more + db → (new.calls < 2 ^ 64 - 1 → new.calls ≡ old.calls + 1)
    → (new.empty_reads < 2 ^ 64 - 1 → new.empty_reads ≡ old.empty_reads + dr) → (new.stalled_writes < 2 ^ 64 - 1 → new.stalled_writes ≡ old.stalled_writes + dw)
    → (c < 2 ^ 64 - 1 → c ≡ b + db) → (k < 2 ^ 64 - 1 → k ≡ j + (dr + dw)) → AsksEach but first old a b i j → AsksEach more first new a c i k
asks_then but more db dr dw first old new a b c i j k enough calls reads writes asked idle h = record {
  each = λ below.
      let c_is = calls below.calls in
      let r_is = reads below.reads in
      let w_is = writes below.writes in
      let a_is = asked below.asked in
      let i_is = idle below.idle in
      let c_less = below.calls in
      let r_less = below.reads in
      let w_less = below.writes in
      let a_less = below.asked in
      let i_less = below.idle in
      let e = h.each (record {
        calls = omega (arith, c_is, c_less);
        reads = omega (arith, r_is, r_less);
        writes = omega (arith, w_is, w_less);
        asked = omega (arith, a_is, a_less);
        idle = omega (arith, i_is, i_less);
      }) in
      let e_calls = e.calls in
      let e_reads = e.reads in
      let e_writes = e.writes in
      let e_asked = e.asked in
      let e_each = e.each in
      let e_idle = e.idle in
      record {
        calls = omega (arith, c_is, e_calls);
        reads = omega (arith, r_is, e_reads);
        writes = omega (arith, w_is, e_writes);
        asked = omega (arith, a_is, e_asked);
        each = omega (arith, c_is, a_is, e_each, enough);
        idle = omega (arith, i_is, r_is, w_is, e_idle);
      };
}

counts_on : (n m : ℕ) → m ≡ one_more n → m < 2 ^ 64 - 1 → m ≡ n + 1
counts_on n m is less = omega (arith, is, less)

stays_at : (n m : ℕ) → m ≡ n → m < 2 ^ 64 - 1 → m ≡ n + 0
stays_at n m is less = omega (arith, is)

-- patience was asked after a call in which octets moved
pub asks_moved : (but : ℕ) (first old new : LineView) (a b c i j k : ℕ) → new.empty_reads ≡ old.empty_reads → new.stalled_writes ≡ old.stalled_writes → new.calls ≡ one_more old.calls
    → c ≡ one_more b → k ≡ j → AsksEach but first old a b i j → AsksEach but first new a c i k
asks_moved but first old new a b c i j k reads writes calls asked idle h =
    asks_then but but 1 0 0 first old new a b c i j k (omega arith) (counts_on _ _ calls) (stays_at _ _ reads) (stays_at _ _ writes) (counts_on _ _ asked) (stays_at _ _ idle) h

-- it was asked after a call in which none moved
pub asks_idle : (but : ℕ) (first old new : LineView) (a b c i j k : ℕ) → CountsIdle old new → new.calls ≡ one_more old.calls
    → c ≡ one_more b → k ≡ one_more j → AsksEach but first old a b i j → AsksEach but first new a c i k
asks_idle but first old new a b c i j k counts calls asked idle h =
    ⊎_elim
    (λ (e : (new.stalled_writes ≡ one_more old.stalled_writes) × (new.empty_reads ≡ old.empty_reads)).
    asks_then but but 1 0 1 first old new a b c i j k (omega arith) (counts_on _ _ calls) (stays_at _ _ e.1) (counts_on _ _ e.0) (counts_on _ _ asked) (counts_on _ _ idle) h)
    (λ (e : (new.empty_reads ≡ one_more old.empty_reads) × (new.stalled_writes ≡ old.stalled_writes)).
    asks_then but but 1 1 0 first old new a b c i j k (omega arith) (counts_on _ _ calls) (counts_on _ _ e.0) (stays_at _ _ e.1) (counts_on _ _ asked) (counts_on _ _ idle) h)
    counts

-- it wasn't asked after the last call, in which octets moved
pub asks_answered : (but : ℕ) (first old new : LineView) (a b i j : ℕ) (said : EntryStep) (code : Final) → said ≡ Answered code → MovesBy said old new → new.calls ≡ one_more old.calls
    → AsksEach but first old a b i j → AsksEach (but + 1) first new a b i j
asks_answered but first old new a b i j said code is moves calls h =
    let m : MovesSome old new = subst (λ (s : EntryStep). MovesBy s old new) is moves in
    asks_then but (but + 1) 0 0 0 first old new a b b i j j (omega arith) (counts_on _ _ calls) (stays_at _ _ m.reads) (stays_at _ _ m.writes) (stays_at _ _ refl) (stays_at _ _ refl) h

-- patience was asked after a step that says Moved
pub asks_on_moved : (but : ℕ) (first old new : LineView) (a b c i j k : ℕ) (said : EntryStep) (m : Bool) → said ≡ Moved → m ≡ true → MovesBy said old new → new.calls ≡ one_more old.calls
    → c ≡ one_more b → k ≡ (if m then j else one_more j) → AsksEach but first old a b i j → AsksEach but first new a c i k
asks_on_moved but first old new a b c i j k said m is so moves calls asked idle h =
    let s : MovesSome old new = subst (λ (s : EntryStep). MovesBy s old new) is moves in
    asks_moved but first old new a b c i j k s.reads s.writes calls asked (idle ∙ ap (λ (x : Bool). if x then j else one_more j) so) h

-- it was asked after one that says Idle, and told that nothing moved
pub asks_on_idle : (but : ℕ) (first old new : LineView) (a b c i j k : ℕ) (said : EntryStep) (m : Bool) → said ≡ Idle → m ≡ false → MovesBy said old new → new.calls ≡ one_more old.calls
    → c ≡ one_more b → k ≡ (if m then j else one_more j) → AsksEach but first old a b i j → AsksEach but first new a c i k
asks_on_idle but first old new a b c i j k said m is so moves calls asked idle h =
    asks_idle but first old new a b c i j k (subst (λ (s : EntryStep). MovesBy s old new) is moves).2 calls asked (idle ∙ ap (λ (x : Bool). if x then j else one_more j) so) h

-- an octet was asked for, and came or didn't
pub asks_read : (but : ℕ) (first old new : LineView) (a b c i j k : ℕ) (o : Option ℕ) → new ≡ after_read 1 (length (octet_in o)) (octet_in o) old → c ≡ one_more b → k ≡ (if is_some o then j else one_more j) → AsksEach but first old a b i j → AsksEach but first new a c i k
asks_read but first old new a b c i j k None came asked idle h =
    asks_idle but first old new a b c i j k (inr (ap (λ (l : LineView). l.empty_reads) came, ap (λ (l : LineView). l.stalled_writes) came)) (ap (λ (l : LineView). l.calls) came) asked idle h
asks_read but first old new a b c i j k (Some octet) came asked idle h =
    asks_moved but first old new a b c i j k (ap (λ (l : LineView). l.empty_reads) came) (ap (λ (l : LineView). l.stalled_writes) came) (ap (λ (l : LineView). l.calls) came) asked idle h

-- one behind the other
pub asks_both : (m n more : ℕ) (first mid now : LineView) (a b c i j k : ℕ) → m + n ≤ more → AsksEach m first mid a b i j → AsksEach n mid now b c j k → AsksEach more first now a c i k
asks_both m n more first mid now a b c i j k enough x y = record {
  each = λ below.
      let later = y.each below in
      let l_calls = later.calls in
      let l_reads = later.reads in
      let l_writes = later.writes in
      let l_asked = later.asked in
      let l_each = later.each in
      let l_idle = later.idle in
      let c_less = below.calls in
      let r_less = below.reads in
      let w_less = below.writes in
      let a_less = below.asked in
      let i_less = below.idle in
      let e = x.each (record {
        calls = omega (arith, l_calls, c_less);
        reads = omega (arith, l_reads, r_less);
        writes = omega (arith, l_writes, w_less);
        asked = omega (arith, l_asked, a_less);
        idle = omega (arith, l_idle, l_reads, l_writes, i_less);
      }) in
      let e_calls = e.calls in
      let e_reads = e.reads in
      let e_writes = e.writes in
      let e_asked = e.asked in
      let e_each = e.each in
      let e_idle = e.idle in
      record {
        calls = omega (arith, l_calls, e_calls);
        reads = omega (arith, l_reads, e_reads);
        writes = omega (arith, l_writes, e_writes);
        asked = omega (arith, l_asked, e_asked);
        each = omega (arith, l_each, e_each, enough);
        idle = omega (arith, l_idle, e_idle);
      };
}

-- the same, where the wait was begun afresh between them
pub asks_behind : (m n more : ℕ) (first mid now : LineView) (a b d c i j l k : ℕ) → m + n ≤ more → d ≡ b → l ≡ j → AsksEach m first mid a b i j → AsksEach n mid now d c l k → AsksEach more first now a c i k
asks_behind m n more first mid now a b d c i j l k enough asked idle x y =
    asks_both m n more first mid now a b c i j k enough x (subst (λ (n1 : ℕ). AsksEach n mid now n1 c j k) asked (subst (λ (n2 : ℕ). AsksEach n mid now d c n2 k) idle y))

-- where it was asked after each call but few, so it was but for more
pub asks_at_most : (m more : ℕ) (first now : LineView) (a b i j : ℕ) → m ≤ more → AsksEach m first now a b i j → AsksEach more first now a b i j
asks_at_most m more first now a b i j enough h = asks_both m 0 more first now now a b b i j j (omega (arith, enough)) h (asks_none now b j)

-- ## Octets that are sent

equal : (m n : ℕ) → (m == n) ≡ true → m ≡ n
equal m n h = search rules

-- once all of a text is written it was sent
pub sent_whole : (first now : LineView) (octets : List ℕ) (made : ℕ) (entry : EntryView) (a b : ℕ) → IsAsking first now octets made entry a b → (entry.written == length entry.text) ≡ true → IsSent first now octets
sent_whole first now octets made entry a b h whole =
    let all : entry.written ≡ length entry.text = equal entry.written (length entry.text) whole in
    record {
      sent_are =
          h.asked.sent_are
          ∙ ap (λ (x : List ℕ). first.sent ++ x) (ap (λ (n : ℕ). take n entry.text) all ∙ take-length entry.text ∙ h.text_is);
      read = h.asked.read;
      read_are = h.asked.read_are;
    }

-- where the text isn't sent no code answers
pub none_answers : (first now : LineView) (text : List ℕ) (made : ℕ) (entry : EntryView) (a b : ℕ) (said : EntryStep) (code : Final) → IsAsking first now text made entry a b
    → (entry.written == length entry.text) ≡ false → (entry.written < length entry.text → IsUnanswering said) → said ≡ Answered code → ⊥
none_answers first now text made entry a b said code h unsent none is = subst IsUnanswering is (none (below entry.written (length entry.text) h.asked.few unsent))
  where
    below : (m n : ℕ) → m ≤ n → (m == n) ≡ false → m < n
    below m n few other = grind arith

-- a text that was answered was sent
pub sent_by : (first now : LineView) (octets : List ℕ) (code : Final) → IsAnswered first now octets code → IsSent first now octets
sent_by first now octets code h = record { sent_are = h.sent_are; read = h.read; read_are = h.read_are }

-- of a text that nothing answered a beginning was sent
pub partly_sent : (first now : LineView) (octets : List ℕ) (made : ℕ) (entry : EntryView) (a b : ℕ) → IsAsking first now octets made entry a b → IsPartlySent first now octets
partly_sent first now octets made entry a b h = record {
  begun = take entry.written octets;
  rest = drop entry.written octets;
  octets_are = sym (take-append-drop entry.written octets);
  sent = record {
    sent_are = h.asked.sent_are ∙ ap (λ (t : List ℕ). first.sent ++ take entry.written t) h.text_is;
    read = h.asked.read;
    read_are = h.asked.read_are;
  };
}

-- at first no octets were sent
pub sent_none : (line : LineView) → IsSent line line []
sent_none line = record { sent_are = sym (append-nil line.sent); read = []; read_are = sym (append-nil line.received) }

-- a read sends none
pub sent_none_more : (first old new : LineView) (o : Option ℕ) → new ≡ after_read 1 (length (octet_in o)) (octet_in o) old → IsSent first old [] → IsSent first new []
sent_none_more first old new o came h = record {
  sent_are = ap (λ (l : LineView). l.sent) came ∙ h.sent_are;
  read = h.read ++ octet_in o;
  read_are =
      ap (λ (l : LineView). l.received) came
      ∙ (ap (λ (s : List ℕ). old.received ++ s) (take-length (octet_in o))
      ∙ (ap (λ (s : List ℕ). s ++ octet_in o) h.read_are ∙ append_assoc first.received h.read (octet_in o)));
}

-- octets that are sent behind others
pub sent_both : (first mid now : LineView) (xs ys : List ℕ) → IsSent first mid xs → IsSent mid now ys → IsSent first now (xs ++ ys)
sent_both first mid now xs ys a b = record {
  sent_are = b.sent_are ∙ (ap (λ (s : List ℕ). s ++ ys) a.sent_are ∙ append_assoc first.sent xs ys);
  read = a.read ++ b.read;
  read_are = b.read_are ∙ (ap (λ (s : List ℕ). s ++ b.read) a.read_are ∙ append_assoc first.received a.read b.read);
}

-- a beginning of octets behind others, and before others
pub sent_partly : (first mid now : LineView) (xs ys zs all : List ℕ) → all ≡ xs ++ (ys ++ zs) → IsSent first mid xs → IsPartlySent mid now ys → IsPartlySent first now all
sent_partly first mid now xs ys zs all is a p = record {
  begun = xs ++ p.begun;
  rest = p.rest ++ zs;
  octets_are =
      is
      ∙ (ap (λ (o : List ℕ). xs ++ (o ++ zs)) p.octets_are
      ∙ (ap (λ (o : List ℕ). xs ++ o) (append_assoc p.begun p.rest zs) ∙ sym (append_assoc xs p.begun (p.rest ++ zs))));
  sent = sent_both first mid now xs p.begun a p.sent;
}

-- ## The fill

none_more : (n : ℕ) → 0 + n ≡ n
none_more n = omega arith

flags_behind : (m n : ℕ) → flags (m + n) ≡ flags m ++ flags n
flags_behind zero n = ap flags (none_more n)
flags_behind (suc m) n =
    let one : suc (m + n) ≡ suc m + n = omega arith in
    subst (λ (k : ℕ). flags k ≡ flags (suc m) ++ flags n) one (ap (λ (xs : List ℕ). 0xF9 ∷ xs) (flags_behind m n))

-- one flag more was sent
pub flag_more : (first mid now : LineView) (count : ℕ) → IsSent first mid (flags count) → IsSent mid now (0xF9 ∷ []) → IsSent first now (flags (count + 1))
flag_more first mid now count a b = subst (IsSent first now) (sym (flags_behind count 1)) (sent_both first mid now (flags count) (0xF9 ∷ []) a b)

-- a part of one flag more is a part of the flags
pub flag_partly : (first mid now : LineView) (count all : ℕ) → count < all → IsSent first mid (flags count) → IsPartlySent mid now (0xF9 ∷ []) → IsPartlySent first now (flags all)
flag_partly first mid now count all less a p =
    let rest = all - (count + 1) in
    let sum : count + suc rest ≡ all = omega (arith, less) in
    let whole : flags all ≡ flags count ++ (0xF9 ∷ flags rest) = subst (λ (n : ℕ). flags n ≡ flags count ++ (0xF9 ∷ flags rest)) sum (flags_behind count (suc rest)) in
    sent_partly first mid now (flags count) (0xF9 ∷ []) (flags rest) (flags all) whole a p

-- N1 and three flags are the fill
pub flags_all : (first now : LineView) (count n1 : ℕ) → count ≡ n1 + 3 → IsSent first now (flags count) → IsSent first now (fill n1)
flags_all first now count n1 is a = subst (λ (n : ℕ). IsSent first now (flags n)) is a

-- ## The fill and the CLD frame

-- fill and CLD frame were sent, and what came then was read
pub closed_by : (first mid later now : LineView) (n1 : ℕ) → IsSent first mid (fill n1) → IsSent mid later (spelled close_down_frame) → IsSent later now [] → IsSent first now (closing n1)
closed_by first mid later now n1 a b c =
    let both = sent_both first mid later (fill n1) (spelled close_down_frame) a b in
    subst (IsSent first now) (append-nil (closing n1)) (sent_both first later now (closing n1) [] both c)

-- the same where the wait behind them was done
pub closed_if : (first mid later now : LineView) (n1 : ℕ) (cld : List ℕ) (r : Result Unit EntryError) → cld ≡ spelled close_down_frame → IsSent first mid (fill n1) → IsSent mid later cld
    → OnOk r (IsSent later now []) → OnOk r (IsSent first now (closing n1))
closed_if first mid later now n1 cld (Ok x) is a b c = closed_by first mid later now n1 a (subst (IsSent mid later) is b) c
closed_if first mid later now n1 cld (Err why) is a b c = tt

-- what holds of a call that was done or refused, where the line didn't fail
pub waited_if : (r : Result Unit EntryError) (W : Type 0) → OnOk r W → (r ≡ Err error.NoAnswer → W) → r ≢ Err error.Refused → r ≢ Err error.Line → W
waited_if (Ok x) W done refused none sound = done
waited_if (Err error.Refused) W done refused none sound = absurd (none refl)
waited_if (Err error.NoAnswer) W done refused none sound = refused refl
waited_if (Err error.Line) W done refused none sound = absurd (sound refl)

-- a beginning of the fill is one of fill and CLD frame
pub fill_partly : (first now : LineView) (n1 : ℕ) → IsPartlySent first now (fill n1) → IsPartlySent first now (closing n1)
fill_partly first now n1 p =
    sent_partly first first now [] (fill n1) (spelled close_down_frame) (closing n1) refl (sent_none first) p

-- so is the fill with a beginning of the CLD frame
pub cld_partly : (first mid now : LineView) (n1 : ℕ) (cld : List ℕ) → cld ≡ spelled close_down_frame → IsSent first mid (fill n1) → IsPartlySent mid now cld → IsPartlySent first now (closing n1)
cld_partly first mid now n1 cld is a p =
    sent_partly first mid now (fill n1) (spelled close_down_frame) [] (closing n1) (ap (λ (o : List ℕ). fill n1 ++ o) (sym (append-nil (spelled close_down_frame)))) a
    (subst (IsPartlySent mid now) is p)

-- ## A try

-- the final code of a try, or why there is none
abbrev pub Code : Type 0
Code = Result Final EntryError

-- a try without the ranges, whose text this code answered
pub tried_at : (first now : LineView) (text : List ℕ) (code : Final) → IsAnswered first now text code → IsTried first now false text code
tried_at first now text code h = record { mid = first; before = asked_none; answered = h }

-- a try with the ranges, once they were answered
pub tried_behind : (first mid now : LineView) (text : List ℕ) (code other : Final) → IsAnswered mid now text code → IsAnswered first mid ranges_text other → IsTried first now true text code
tried_behind first mid now text code other h before = record { mid = mid; before = asked_ranges mid other before; answered = h }

-- a try without the ranges, whose text nothing answered
pub no_reply_at : (first now : LineView) (ranges : Bool) (text : List ℕ) → ranges ≡ false → IsUnanswered first now text → HasNoReply first now ranges text
no_reply_at first now ranges text is h = subst (λ (b : Bool). HasNoReply first now b text) (sym is) (no_code first asked_none h)

-- a try whose ranges were answered, but not its text
pub no_reply_behind : (first mid now : LineView) (ranges : Bool) (text : List ℕ) (other : Final) → ranges ≡ true → IsUnanswered mid now text → IsAnswered first mid ranges_text other → HasNoReply first now ranges text
no_reply_behind first mid now ranges text other is h before =
    subst (λ (b : Bool). HasNoReply first now b text) (sym is) (no_code mid (asked_ranges mid other before) h)

-- a try whose ranges nothing answered
pub no_ranges_told : (first now : LineView) (text : List ℕ) → IsUnanswered first now ranges_text → HasNoReply first now true text
no_ranges_told first now text h = no_ranges refl h

-- ## Three tries

-- a try that is answered, behind two at most that weren't, answers the entry
pub replied_at : (first before now : LineView) (n1 : ℕ) (ranges : Bool) (text : List ℕ) (code : Final) (tries : ℕ) → tries ≤ 2 → HasTried n1 ranges text first tries before → IsTried before now ranges text code → IsRepliedTo first now n1 ranges text code
replied_at first before now n1 ranges text code tries few tried h = record { tries = tries; few = few; before = before; tried = tried; answered = h }

-- so it is of a try's result where that is a code
pub replied_last : (first before now : LineView) (n1 : ℕ) (ranges : Bool) (text : List ℕ) (result : Code) (tries : ℕ) → tries ≤ 2 → HasTried n1 ranges text first tries before
    → IfOk result (λ code. IsTried before now ranges text code) → IfOk result (λ code. IsRepliedTo first now n1 ranges text code)
replied_last first before now n1 ranges text (Ok code) tries few tried h = replied_at first before now n1 ranges text code tries few tried h
replied_last first before now n1 ranges text (Err why) tries few tried h = tt

-- where two tries weren't answered, nor the third, nothing answers the entry
pub never_last : (first before now : LineView) (n1 : ℕ) (ranges : Bool) (text : List ℕ) (tries : ℕ) → tries ≡ 2 → HasTried n1 ranges text first tries before → HasNoReply before now ranges text → IsNeverRepliedTo first now n1 ranges text
never_last first before now n1 ranges text tries all tried h = not_answered before (subst (λ (n : ℕ). HasTried n1 ranges text first n before) all tried) h

-- a try that was refused for this
abbrev pub refused : EntryError → Code
refused why = Err why

-- the same refusal, of a call that gives nothing else
abbrev pub unsent : EntryError → Result (Unit {0}) EntryError
unsent why = Err why

refusal_in : Code → EntryError
refusal_in (Ok code) = error.NoAnswer
refusal_in (Err why) = why

-- refusals that are the same of a try are the same of a call that gives nothing else
pub same_refusal : (why other : EntryError) → refused why ≡ refused other → unsent why ≡ unsent other
unfolding refusal_in
same_refusal why other is = ap (λ (r : Code). unsent (refusal_in r)) is

-- a try that was refused for NoAnswer
pub is_no_answer : (why : EntryError) → why ≡ error.NoAnswer → refused why ≡ refused error.NoAnswer
is_no_answer why is = ap refused is

-- a call that was done, and gave this
abbrev pub ok_of : {A : Type 0} → A → Result A EntryError
ok_of x = Ok x

-- where it isn't the line that failed
not_line : error.NoAnswer ≡ error.Line → ⊥
not_line e = cc

-- a refusal for NoAnswer isn't one for the line
pub no_failure : (why : EntryError) → why ≡ error.NoAnswer → refused why ≢ refused error.Line
unfolding refusal_in
no_failure why is same = not_line (sym is ∙ ap refusal_in same)

why_in : Result Unit EntryError → EntryError
why_in (Ok x) = error.NoAnswer
why_in (Err why) = why

-- where it isn't the line that failed, of the two types of results
pub not_line_of : (why : EntryError) → refused why ≢ refused error.Line → unsent why ≢ unsent error.Line
unfolding why_in
not_line_of why other same = other (ap (λ (r : Result Unit EntryError). refused (why_in r)) same)

-- nor is a call that was done
pub ok_no_failure : {A : Type 0} (x : A) → ok_of x ≢ Err error.Line
ok_no_failure x e = cc

-- ## What a refusal says

-- an entry that a code other than OK answered is refused for that
pub turned_down : (first now : LineView) (n1 : ℕ) (ranges : Bool) (text : List ℕ) (code : Final) (why : EntryError) → IsRepliedTo first now n1 ranges text code → (why ≡ error.Refused) × (code ≢ Good) → SaysWhy why first now n1 ranges text
turned_down first now n1 ranges text code why h other =
    subst (λ (w : EntryError). SaysWhy w first now n1 ranges text) (sym other.0) (record { code = code; other = other.1; replied = h })

-- a refusal for NoAnswer or for the line says what was sent and what came, or that a call failed
pub says_why : (first now : LineView) (n1 : ℕ) (ranges : Bool) (text : List ℕ) (result : Code) (why : EntryError) → result ≡ Err why
    → (result ≡ Err error.NoAnswer → IsNeverRepliedTo first now n1 ranges text) → (result ≡ Err error.Line → now.failures ≡ first.failures + 1) → result ≢ Err error.Refused
    → SaysWhy why first now n1 ranges text
says_why first now n1 ranges text result error.Refused is never failed none = absurd (none is)
says_why first now n1 ranges text result error.NoAnswer is never failed none = never is
says_why first now n1 ranges text result error.Line is never failed none = failed is
