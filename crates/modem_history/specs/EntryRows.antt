-- Entries of the multiplexer, right and wrong, on a line that had given an OK and taken an AT before.
use Rattle.std.specs.Prelude.{ℕ, List, [], ◌∷◌, ◌++◌, codes}
use Rattle.modem_history.specs.Sessions.{LineView}
use Rattle.modem_history.specs.Entering.{EntryAnswer, Entered, Refused, NoAnswer, LineFailed, IsEntry, entry_text}

-- the line before it
abbrev pub line_before : LineView
line_before = record { received = codes "\r\nOK\r"; sent = codes "AT\r"; calls = 3; failures = 0; empty_reads = 0; stalled_writes = 0 }

-- the line after it: these octets were sent and read, by so many calls, of which so many failed
abbrev pub line_after : (sent read : List ℕ) → (calls failures : ℕ) → LineView
line_after sent read calls failures = record {
  received = codes "\r\nOK\r" ++ read;
  sent = codes "AT\r" ++ sent;
  calls = calls;
  failures = failures;
  empty_reads = 0;
  stalled_writes = 0;
}

-- an entry of so many turns
pub record EntryRow : Type 0 where
  pub turns : ℕ
  pub after : LineView
  pub says : EntryAnswer

abbrev pub IsRightEntry : EntryRow → Type 0
IsRightEntry row = IsEntry row.turns line_before row.after row.says

abbrev pub IsWrongEntry : EntryRow → Type 0
IsWrongEntry row = ¬ IsEntry row.turns line_before row.after row.says

-- ## Right entries

-- the echo and OK came
abbrev pub entered : EntryRow
entered = record {
  turns = 100;
  after = line_after entry_text (codes "AT+CMUX=0\r\r\nOK\r") 30 0;
  says = Entered;
}

-- another line came before the OK
abbrev pub entered_after_ring : EntryRow
entered_after_ring = record {
  turns = 100;
  after = line_after entry_text (codes "\r\nRING\r\nOK\r") 30 0;
  says = Entered;
}

-- ERROR came
abbrev pub refused_plainly : EntryRow
refused_plainly = record {
  turns = 100;
  after = line_after entry_text (codes "\r\nERROR\r") 20 0;
  says = Refused;
}

-- +CME ERROR came
abbrev pub refused_by_number : EntryRow
refused_by_number = record {
  turns = 100;
  after = line_after entry_text (codes "\r\n+CME ERROR: 4\r") 30 0;
  says = Refused;
}

-- nothing came in a hundred turns
abbrev pub unanswered_entry : EntryRow
unanswered_entry = record {
  turns = 100;
  after = record (line_after entry_text [] 103 0) { empty_reads = 99 };
  says = NoAnswer;
}

-- there are no turns
abbrev pub no_turns : EntryRow
no_turns = record { turns = 0; after = line_after [] [] 3 0; says = NoAnswer }

-- a write failed midway
abbrev pub failed_midway : EntryRow
failed_midway = record { turns = 100; after = line_after (codes "AT+C") [] 6 1; says = LineFailed }

-- a read failed
abbrev pub failed_reading : EntryRow
failed_reading = record { turns = 100; after = line_after entry_text (codes "\r\nO") 10 1; says = LineFailed }

abbrev pub right_entries : List EntryRow
right_entries =
    entered ∷ entered_after_ring ∷ refused_plainly ∷ refused_by_number ∷ unanswered_entry ∷ no_turns ∷
    failed_midway ∷ failed_reading ∷ []

-- ## Wrong entries

-- ERROR came, and it says that it entered
abbrev pub entered_on_error : EntryRow
entered_on_error = record {
  turns = 100;
  after = line_after entry_text (codes "\r\nERROR\r") 20 0;
  says = Entered;
}

-- OK came, and it says that it was refused
abbrev pub refused_on_ok : EntryRow
refused_on_ok = record { turns = 100; after = line_after entry_text (codes "\r\nOK\r") 20 0; says = Refused }

-- an octet behind the final code was read
abbrev pub read_on : EntryRow
read_on = record { turns = 100; after = line_after entry_text (codes "\r\nOK\r\n") 20 0; says = Entered }

-- ERROR came, and then OK
abbrev pub entered_at_second : EntryRow
entered_at_second = record {
  turns = 100;
  after = line_after entry_text (codes "\r\nERROR\r\nOK\r") 20 0;
  says = Entered;
}

-- the OK came before it
abbrev pub entered_by_old_ok : EntryRow
entered_by_old_ok = record { turns = 100; after = line_after entry_text [] 20 0; says = Entered }

-- OK came, and not all of the text was sent
abbrev pub entered_half_sent : EntryRow
entered_half_sent = record {
  turns = 100;
  after = line_after (codes "AT+CM") (codes "\r\nOK\r") 20 0;
  says = Entered;
}

-- octets were read before the text was sent
abbrev pub read_before : EntryRow
read_before = record { turns = 100; after = line_after (codes "AT+CM") (codes "\r\n") 103 0; says = NoAnswer }

-- more than the text was sent
abbrev pub sent_more : EntryRow
sent_more = record { turns = 100; after = line_after (entry_text ++ codes "A") [] 103 0; says = NoAnswer }

-- another text was sent
abbrev pub sent_another : EntryRow
sent_another = record { turns = 100; after = line_after (codes "AT+CMUX=1") [] 103 0; says = NoAnswer }

-- the calls behind the text could move nothing: none counts as a read that gave none
abbrev pub read_without_room : EntryRow
read_without_room = record { turns = 100; after = line_after entry_text [] 103 0; says = NoAnswer }

-- nothing was offered
abbrev pub offered_nothing : EntryRow
offered_nothing = record { turns = 100; after = line_after [] [] 103 0; says = NoAnswer }

-- turns are left
abbrev pub gave_up_too_soon : EntryRow
gave_up_too_soon = record { turns = 100; after = line_after entry_text [] 102 0; says = NoAnswer }

-- OK came
abbrev pub gave_up_on_ok : EntryRow
gave_up_on_ok = record { turns = 5; after = line_after entry_text (codes "\r\nOK\r") 8 0; says = NoAnswer }

-- more calls than turns
abbrev pub called_too_often : EntryRow
called_too_often = record {
  turns = 20;
  after = line_after entry_text (codes "\r\nOK\r") 30 0;
  says = Entered;
}

-- no call failed
abbrev pub failed_without_fault : EntryRow
failed_without_fault = record { turns = 100; after = line_after entry_text [] 20 0; says = LineFailed }

-- a call failed
abbrev pub fault_passed_over : EntryRow
fault_passed_over = record {
  turns = 100;
  after = line_after entry_text (codes "\r\nOK\r") 20 1;
  says = Entered;
}

abbrev pub wrong_entries : List EntryRow
wrong_entries =
    entered_on_error ∷ refused_on_ok ∷ read_on ∷ entered_at_second ∷ entered_by_old_ok ∷ entered_half_sent ∷
    read_before ∷ sent_more ∷ sent_another ∷ read_without_room ∷ offered_nothing ∷ gave_up_too_soon ∷ gave_up_on_ok ∷ called_too_often ∷
    failed_without_fault ∷ fault_passed_over ∷ []
