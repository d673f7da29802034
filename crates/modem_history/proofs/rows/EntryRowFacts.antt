-- The rows of entries and of ends, computed.
use Rattle.std.proofs.Common.{inl, inr, ap, sym, ◌∙◌, subst, arith, lit≤, length-append}
use Rattle.std.proofs.lemmas.List.{append_cancel_left}
use Rattle.std.specs.Prelude.{◌≡◌, ℕ, ◌+◌, ◌-◌, ◌^◌, ◌<◌, ◌≤◌, ◌==◌, ◌⊎◌, true, false, List, [], ◌∷◌, ◌++◌, length, take, refl, codes}
use Rattle.std.specs.List.{list_any}
use Rattle.std.specs.Str.{bytes_eq}
use Rattle.std.proofs.lemmas.Bool.{eq-eqb}
use Rattle.at_text.specs.Finals.{is_final}
use Rattle.at_text.specs.Lines.{lines}
use Rattle.modem_history.specs.Wholes.{IsPrefixOf}
use Rattle.modem_history.specs.SessionRows.{Each}
use Rattle.modem_history.specs.Sessions.{LineView, EndView, at_place}
use Rattle.modem_history.specs.Entering.{IsEntry, EndsWithFinal, entry_text}
use Rattle.modem_history.specs.EntryRows.{EntryRow, IsRightEntry, IsWrongEntry, line_before, right_entries, wrong_entries, entered, entered_after_ring, refused_plainly, refused_by_number, unanswered_entry, no_turns, failed_midway, failed_reading, entered_on_error, refused_on_ok, read_on, entered_at_second, entered_by_old_ok, entered_half_sent, read_before, sent_more, sent_another, read_without_room, offered_nothing, gave_up_too_soon, gave_up_on_ok, called_too_often, failed_without_fault, fault_passed_over}
use Rattle.modem_history.specs.FinishRows.{IsRightEnd, IsWrongEnd, right_ends, wrong_ends, both_handed_back, outcome_handed_back, line_handed_back, first_left_out, last_left_out, last_first, told_in_hand, outcome_left_out, line_left_out, line_called, told_at_end}
use Rattle.modem_history.proofs.rows.SessionTests.{octets_differ, outcomes_differ, requests_differ}

-- ## Right entries

entered_right : IsRightEntry entered
entered_right = record {
  sent = entry_text;
  sent_are = refl;
  beginning = record { rest = []; joins = refl };
  read = codes "AT+CMUX=0\r\r\nOK\r";
  read_are = refl;
  in_turn = inr refl;
  bounded = lit≤ tt;
  failed = refl;
  means = record {
    whole = refl;
    ok = record { before = codes "AT+CMUX=0\r\r\nOK"; line_end = 13; octets_are = refl; ended = refl; none_before = refl; final = refl };
  };
}

entered_after_ring_right : IsRightEntry entered_after_ring
entered_after_ring_right = record {
  sent = entry_text;
  sent_are = refl;
  beginning = record { rest = []; joins = refl };
  read = codes "\r\nRING\r\nOK\r";
  read_are = refl;
  in_turn = inr refl;
  bounded = lit≤ tt;
  failed = refl;
  means = record {
    whole = refl;
    ok = record { before = codes "\r\nRING\r\nOK"; line_end = 13; octets_are = refl; ended = refl; none_before = refl; final = refl };
  };
}

refused_plainly_right : IsRightEntry refused_plainly
refused_plainly_right = record {
  sent = entry_text;
  sent_are = refl;
  beginning = record { rest = []; joins = refl };
  read = codes "\r\nERROR\r";
  read_are = refl;
  in_turn = inr refl;
  bounded = lit≤ tt;
  failed = refl;
  means = record {
    whole = refl;
    line = codes "ERROR";
    other = λ e. octets_differ _ _ refl e;
    ended = record { before = codes "\r\nERROR"; line_end = 13; octets_are = refl; ended = refl; none_before = refl; final = refl };
  };
}

refused_by_number_right : IsRightEntry refused_by_number
refused_by_number_right = record {
  sent = entry_text;
  sent_are = refl;
  beginning = record { rest = []; joins = refl };
  read = codes "\r\n+CME ERROR: 4\r";
  read_are = refl;
  in_turn = inr refl;
  bounded = lit≤ tt;
  failed = refl;
  means = record {
    whole = refl;
    line = codes "+CME ERROR: 4";
    other = λ e. octets_differ _ _ refl e;
    ended = record { before = codes "\r\n+CME ERROR: 4"; line_end = 13; octets_are = refl; ended = refl; none_before = refl; final = refl };
  };
}

unanswered_right : IsRightEntry unanswered_entry
unanswered_right = record {
  sent = entry_text;
  sent_are = refl;
  beginning = record { rest = []; joins = refl };
  read = [];
  read_are = refl;
  in_turn = inr refl;
  bounded = lit≤ tt;
  failed = refl;
  means = record { all_made = inl refl; with_room = inl (lit≤ tt); none = refl };
}

no_turns_right : IsRightEntry no_turns
no_turns_right = record {
  sent = [];
  sent_are = refl;
  beginning = record { rest = entry_text; joins = refl };
  read = [];
  read_are = refl;
  in_turn = inl refl;
  bounded = lit≤ tt;
  failed = refl;
  means = record { all_made = inl refl; with_room = inl (lit≤ tt); none = refl };
}

failed_midway_right : IsRightEntry failed_midway
failed_midway_right = record {
  sent = codes "AT+C";
  sent_are = refl;
  beginning = record { rest = codes "MUX=0\r"; joins = refl };
  read = [];
  read_are = refl;
  in_turn = inl refl;
  bounded = lit≤ tt;
  failed = refl;
  means = refl;
}

failed_reading_right : IsRightEntry failed_reading
failed_reading_right = record {
  sent = entry_text;
  sent_are = refl;
  beginning = record { rest = []; joins = refl };
  read = codes "\r\nO";
  read_are = refl;
  in_turn = inr refl;
  bounded = lit≤ tt;
  failed = refl;
  means = refl;
}

-- each right entry is one
pub all_right_entries : Each IsRightEntry right_entries
all_right_entries = (
  entered_right,
  (
    entered_after_ring_right,
    (
      refused_plainly_right,
      (
        refused_by_number_right,
        (
          unanswered_right,
          (no_turns_right, (failed_midway_right, (failed_reading_right, tt))),
        ),
      ),
    ),
  ),
)

-- ## Wrong entries

never : false ≡ true → ⊥
never e = cc

never_back : true ≡ false → ⊥
never_back e = cc

neither : {A B : Type 0} → (A → ⊥) → (B → ⊥) → A ⊎ B → ⊥
neither f g (inl a) = f a
neither f g (inr b) = g b

-- what an entry sent and read, where that is known
sent_is : (row : EntryRow) (sent : List ℕ) → row.after.sent ≡ line_before.sent ++ sent → (i : IsEntry row.turns line_before row.after row.says) → i.sent ≡ sent
sent_is row sent e i = append_cancel_left line_before.sent i.sent sent (sym i.sent_are ∙ e)

read_is : (row : EntryRow) (read : List ℕ) → row.after.received ≡ line_before.received ++ read → (i : IsEntry row.turns line_before row.after row.says) → i.read ≡ read
read_is row read e i = append_cancel_left line_before.received i.read read (sym i.read_are ∙ e)

-- all but the last, and the last
abbrev init_of : {A : Type 0} → List A → List A
init_of [] = []
init_of (x ∷ []) = []
init_of (x ∷ y ∷ xs) = x ∷ init_of (y ∷ xs)

abbrev last_line : List (List ℕ) → List ℕ
last_line [] = []
last_line (x ∷ []) = x
last_line (x ∷ y ∷ xs) = last_line (y ∷ xs)

last_is : (xs : List (List ℕ)) (x : List ℕ) → last_line (xs ++ x ∷ []) ≡ x
last_is [] x = refl
last_is (y ∷ []) x = refl
last_is (y ∷ z ∷ xs) x = last_is (z ∷ xs) x

-- the line that ends what was read is its last
last_ends : (read line : List ℕ) → EndsWithFinal read line → last_line (lines read) ≡ line
last_ends read line f = ap last_line f.ended ∙ last_is (lines f.before) line

init_is : (xs : List ℕ) (x : ℕ) → init_of (xs ++ x ∷ []) ≡ xs
init_is [] x = refl
init_is (y ∷ []) x = refl
init_is (y ∷ z ∷ xs) x = ap (λ ys. y ∷ ys) (init_is (z ∷ xs) x)

-- a final code came before the last octet
too_early : (read line : List ℕ) → EndsWithFinal read line → list_any is_final (lines (init_of read)) ≡ true → ⊥
too_early read line f h =
    let before : init_of read ≡ f.before = ap init_of f.octets_are ∙ init_is f.before f.line_end in
    never_back (sym h ∙ (ap (λ xs. list_any is_final (lines xs)) before ∙ f.none_before))

entered_on_error_wrong : IsWrongEntry entered_on_error
entered_on_error_wrong i =
    let read = read_is entered_on_error (codes "\r\nERROR\r") refl i in
    octets_differ (codes "ERROR") (codes "OK") refl (ap (λ xs. last_line (lines xs)) (sym read) ∙ last_ends i.read (codes "OK") i.means.ok)

refused_on_ok_wrong : IsWrongEntry refused_on_ok
refused_on_ok_wrong i =
    let read = read_is refused_on_ok (codes "\r\nOK\r") refl i in
    i.means.other (sym (ap (λ xs. last_line (lines xs)) (sym read) ∙ last_ends i.read i.means.line i.means.ended))

read_on_wrong : IsWrongEntry read_on
read_on_wrong i =
    let read = read_is read_on (codes "\r\nOK\r\n") refl i in
    too_early i.read (codes "OK") i.means.ok (ap (λ xs. list_any is_final (lines (init_of xs))) read)

entered_at_second_wrong : IsWrongEntry entered_at_second
entered_at_second_wrong i =
    let read = read_is entered_at_second (codes "\r\nERROR\r\nOK\r") refl i in
    too_early i.read (codes "OK") i.means.ok (ap (λ xs. list_any is_final (lines (init_of xs))) read)

entered_by_old_ok_wrong : IsWrongEntry entered_by_old_ok
entered_by_old_ok_wrong i =
    let read = read_is entered_by_old_ok [] refl i in
    let more : length i.read ≡ length i.means.ok.before + 1 = ap length i.means.ok.octets_are ∙ length-append i.means.ok.before (i.means.ok.line_end ∷ []) in
    let none : length i.read ≡ 0 = ap length read in
    omega arith

entered_half_sent_wrong : IsWrongEntry entered_half_sent
entered_half_sent_wrong i =
    let sent = sent_is entered_half_sent (codes "AT+CM") refl i in
    octets_differ (codes "AT+CM") entry_text refl (sym sent ∙ i.means.whole)

take_own : (xs ys : List ℕ) → take (length xs) (xs ++ ys) ≡ xs
take_own [] ys = refl
take_own (x ∷ xs) ys = ap (λ zs. x ∷ zs) (take_own xs ys)

read_before_wrong : IsWrongEntry read_before
read_before_wrong i =
    let sent = sent_is read_before (codes "AT+CM") refl i in
    let read = read_is read_before (codes "\r\n") refl i in
    neither (λ e. octets_differ (codes "\r\n") [] refl (sym read ∙ e)) (λ e. octets_differ (codes "AT+CM") entry_text refl (sym sent ∙ e)) i.in_turn

-- a list that isn't a beginning
no_beginning : (xs ys : List ℕ) → bytes_eq xs (take (length xs) ys) ≡ false → IsPrefixOf xs ys → ⊥
no_beginning xs ys h p = octets_differ xs (take (length xs) ys) h (sym (take_own xs p.rest) ∙ ap (take (length xs)) p.joins)

sent_more_wrong : IsWrongEntry sent_more
sent_more_wrong i =
    let sent = sent_is sent_more (entry_text ++ codes "A") refl i in
    no_beginning (entry_text ++ codes "A") entry_text refl (subst (λ xs. IsPrefixOf xs entry_text) sent i.beginning)

sent_another_wrong : IsWrongEntry sent_another
sent_another_wrong i =
    let sent = sent_is sent_another (codes "AT+CMUX=1") refl i in
    no_beginning (codes "AT+CMUX=1") entry_text refl (subst (λ xs. IsPrefixOf xs entry_text) sent i.beginning)

numbers_differ : (n m : ℕ) → (n == m) ≡ false → n ≡ m → ⊥
numbers_differ n m h e = never_back (sym (eq-eqb n m e) ∙ h)

-- the calls could move nothing
no_room : (sent read : List ℕ) → length sent + length read < 100 → (0 + 0 + (0 + 0) + 100 ≤ length sent + length read + (0 + 0)) ⊎ ((0 ≡ 2 ^ 64 - 1) ⊎ (0 ≡ 2 ^ 64 - 1)) → ⊥
no_room sent read small (inl h) = omega (arith, small, h)
no_room sent read small (inr (inl h)) = numbers_differ 0 (2 ^ 64 - 1) refl h
no_room sent read small (inr (inr h)) = numbers_differ 0 (2 ^ 64 - 1) refl h

-- no more was sent than the text
few_sent : (sent : List ℕ) → IsPrefixOf sent entry_text → length sent ≤ 10
few_sent sent p =
    let all : length (sent ++ p.rest) ≡ 10 = ap length p.joins in
    let both = length-append sent p.rest in
    omega (arith, all, both)

read_without_room_wrong : IsWrongEntry read_without_room
read_without_room_wrong i =
    let read = ap length (read_is read_without_room [] refl i) in
    let sent = few_sent i.sent i.beginning in
    no_room i.sent i.read (omega (arith, read, sent)) i.means.with_room

offered_nothing_wrong : IsWrongEntry offered_nothing
offered_nothing_wrong i =
    let read = ap length (read_is offered_nothing [] refl i) in
    let sent = few_sent i.sent i.beginning in
    no_room i.sent i.read (omega (arith, read, sent)) i.means.with_room

gave_up_too_soon_wrong : IsWrongEntry gave_up_too_soon
gave_up_too_soon_wrong i = neither (numbers_differ 102 103 refl) (numbers_differ 102 (2 ^ 64 - 1) refl) i.means.all_made

gave_up_on_ok_wrong : IsWrongEntry gave_up_on_ok
gave_up_on_ok_wrong i =
    let read = read_is gave_up_on_ok (codes "\r\nOK\r") refl i in
    never_back (ap (λ xs. list_any is_final (lines xs)) (sym read) ∙ i.means.none)

called_too_often_wrong : IsWrongEntry called_too_often
called_too_often_wrong i = let few : 30 ≤ 23 = i.bounded in omega arith

failed_without_fault_wrong : IsWrongEntry failed_without_fault
failed_without_fault_wrong i = numbers_differ 0 1 refl i.failed

fault_passed_over_wrong : IsWrongEntry fault_passed_over
fault_passed_over_wrong i = numbers_differ 1 0 refl i.failed

-- and no wrong one is
pub all_wrong_entries : Each IsWrongEntry wrong_entries
all_wrong_entries = (entered_on_error_wrong, (refused_on_ok_wrong, (read_on_wrong, (entered_at_second_wrong, (entered_by_old_ok_wrong, (entered_half_sent_wrong, (read_before_wrong, (sent_more_wrong, (sent_another_wrong, (read_without_room_wrong, (offered_nothing_wrong, (gave_up_too_soon_wrong, (gave_up_on_ok_wrong, (called_too_often_wrong, (failed_without_fault_wrong, (fault_passed_over_wrong, tt))))))))))))))))

-- ## Ends

both_handed_back_right : IsRightEnd both_handed_back
both_handed_back_right = record { line_stays = refl; desk_stays = refl; hand_is = refl; unplaced_are = refl; unannounced_are = refl }

outcome_handed_back_right : IsRightEnd outcome_handed_back
outcome_handed_back_right = record { line_stays = refl; desk_stays = refl; hand_is = refl; unplaced_are = refl; unannounced_are = refl }

line_handed_back_right : IsRightEnd line_handed_back
line_handed_back_right = record { line_stays = refl; desk_stays = refl; hand_is = refl; unplaced_are = refl; unannounced_are = refl }

-- each right end is what `finish` gives
pub all_right_ends : Each IsRightEnd right_ends
all_right_ends = (both_handed_back_right, (outcome_handed_back_right, (line_handed_back_right, tt)))

first_left_out_wrong : IsWrongEnd first_left_out
first_left_out_wrong f = requests_differ _ _ refl f.hand_is

last_left_out_wrong : IsWrongEnd last_left_out
last_left_out_wrong f = requests_differ _ _ refl f.hand_is

last_first_wrong : IsWrongEnd last_first
last_first_wrong f = requests_differ _ _ refl f.hand_is

told_in_hand_wrong : IsWrongEnd told_in_hand
told_in_hand_wrong f = requests_differ _ _ refl f.hand_is

outcome_left_out_wrong : IsWrongEnd outcome_left_out
outcome_left_out_wrong f = outcomes_differ _ _ refl f.unplaced_are

line_left_out_wrong : IsWrongEnd line_left_out
line_left_out_wrong f = numbers_differ 0 1 refl (ap length f.unannounced_are)

line_called_wrong : IsWrongEnd line_called
line_called_wrong f = numbers_differ 41 40 refl (ap (λ (l : LineView). l.calls) f.line_stays)

told_at_end_wrong : IsWrongEnd told_at_end
told_at_end_wrong f = outcomes_differ _ _ refl (ap (λ (d : EndView). at_place 0 d.told) f.desk_stays)

-- and no wrong one is
pub all_wrong_ends : Each IsWrongEnd wrong_ends
all_wrong_ends = (
  first_left_out_wrong,
  (
    last_left_out_wrong,
    (
      last_first_wrong,
      (
        told_in_hand_wrong,
        (
          outcome_left_out_wrong,
          (line_left_out_wrong, (line_called_wrong, (told_at_end_wrong, tt))),
        ),
      ),
    ),
  ),
)
