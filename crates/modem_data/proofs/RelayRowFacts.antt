-- The worked pasts hold.
use Rattle.std.specs.Prelude.{◌≡◌, ℕ, List, [], ◌∷◌, All, refl}
use Rattle.std.proofs.Common.{subst, arith}
use Rattle.std.proofs.lemmas.List.{append-nil}
use Rattle.std.proofs.lemmas.List.Elements.{All-cons, All-nil}
use Rattle.mux_frame.specs.Frames.{Frame}
use Rattle.mux_frame.specs.Laws.{HasSpelling, last_flag}
use Rattle.mux_frame.specs.Reading.{Reads}
use Rattle.mux_frame.proofs.readings.LaterTexts.{reads_spelled}
use Rattle.mux_frame.proofs.readings.TextReadings.{one_reading}
use Rattle.mux_frame.specs.Spelling.{body_of, spelled}
use Rattle.mux_frame.proofs.Spellings.{spells_body}
use Rattle.modem_data.specs.RelayRows.{RelaysSo, PromptsBySo, DiscWaits, disc}

-- the worked pasts of a relay come to what they say
pub relays_so : RelaysSo
relays_so = record {
  as_they_came = refl;
  in_one_frame = refl;
  data_is = refl;
  no_lines = refl;
  at_once = refl;
  between_two = refl;
  before_disc = refl;
  behind_disc = refl;
  behind_all = refl;
  behind_loss = refl;
  lane_there = refl;
  over_by_disc = refl;
  over_by_all = refl;
  over_by_loss = refl;
  stays_readable = refl;
  anew = refl;
  held = refl;
  freed = refl;
  opened_again = refl;
  undone = refl;
  driver_holds_it = refl;
  full = refl;
  not_full = refl;
  still_full = refl;
  free = refl;
  ended = refl;
  lines_again = refl;
  two_wait = refl;
  none_waits = refl;
  freed_at_its_end = refl;
  only_once = refl;
  never_held = refl;
  held_by_driver = refl;
  first_turn = refl;
  behind_2 = refl;
  behind_5 = refl;
  before_itself = refl;
  not_itself = refl;
  round_first = refl;
  past_the_last = refl;
  not_past_it = refl;
}

-- so do those of a lane by prompt
pub prompts_by_so : PromptsBySo
prompts_by_so = record {
  cut_there = refl;
  in_one = refl;
  behind_it = refl;
  no_data = refl;
  none_before = refl;
  then_it_may = refl;
  given_before = refl;
  given_behind = refl;
  command_before = refl;
  none_behind = refl;
  a_line = refl;
  refused = refl;
  none_then = refl;
  owed = refl;
  none_owed = refl;
  paid = refl;
  then_over = refl;
  ended_before = refl;
  ended_behind = refl;
  closed = refl;
  closed_owed = refl;
  lost = refl;
}

disc_spelled : All (HasSpelling 31) (disc 2 ∷ [])
disc_spelled = All-cons (HasSpelling 31) (disc 2) [] (record { octets = body_of (disc 2); spells = spells_body 31 (disc 2) (omega arith) (omega arith) (omega arith) }) (All-nil (HasSpelling 31))

none_or_one : (f : Frame) → [] ≡ f ∷ [] → ⊥
none_or_one f e = cc

-- while a DISC of the driver's that was taken hasn't gone, no data may leave
pub disc_waits : DiscWaits
disc_waits first =
    let read = subst (λ (s : List ℕ). Reads 31 s (disc 2 ∷ []) (last_flag (disc 2 ∷ []))) (append-nil (spelled (disc 2))) (reads_spelled 31 (disc 2 ∷ []) disc_spelled) in
    none_or_one (disc 2) (one_reading 31 (spelled (disc 2)) [] (disc 2 ∷ []) first.rest (last_flag (disc 2 ∷ [])) first.all_went read).0
