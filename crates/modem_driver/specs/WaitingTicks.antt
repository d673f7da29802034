-- How long a connection's command has waited for its answer.
use Rattle.std.specs.Prelude.{◌≡◌, ℕ, ◌+◌, ◌<◌, ◌==◌, ◌&&◌, Bool, false, List, [], ◌∷◌, Option, None, Some, option_map, if◌then◌else◌, slice_index_or}
use Rattle.serial_line.specs.Counts.{one_more}
use Rattle.modem_desk.specs.declared.request.Request.{Request}
use Rattle.modem_history.specs.Acts.{Act, Tick, in_hand}
use Rattle.modem_history.specs.Calls.{first_on}
use Rattle.modem_queues.specs.Stops.{asker_of}
use Rattle.modem_queues.specs.declared.asker.Asker.{Asker}
use Rattle.modem_driver.specs.declared.machine.delays.Delay.{Delay}

-- ## What a history says

-- the asker of the first command in hand on a connection; the others of that connection wait behind it
abbrev pub first_command : ℕ → List Request → Option Asker
first_command d hand = option_map asker_of (first_on d hand)

abbrev pub is_same : Asker → Asker → Bool
is_same who other = (who.caller == other.caller) && (who.number == other.number)

abbrev pub is_first : Asker → Option Asker → Bool
is_first who None = false
is_first who (Some first) = is_same who first

-- how many ticks in a row, counted back from now, found this asker's command the first on the connection
abbrev pub ticks_waited : ℕ → Asker → List Act → ℕ
ticks_waited d who [] = 0
ticks_waited d who (Tick ∷ past) =
    if is_first who (first_command d (in_hand past)) then one_more (ticks_waited d who past) else 0
ticks_waited d who (_ ∷ past) = ticks_waited d who past

-- how many ticks the first command in hand on a connection has waited, if there is one
abbrev pub waiting_ticks : ℕ → List Act → Option ℕ
waiting_ticks d past = option_map (λ who. ticks_waited d who past) (first_command d (in_hand past))

-- ## What is kept

-- the ticks that are kept for this asker
abbrev pub ticks_kept : Option Delay → Asker → ℕ
ticks_kept None who = 0
ticks_kept (Some delay) who = if is_same who delay.asker then delay.ticks else 0

-- what is kept of a connection after a tick that found this asker's command its first
abbrev pub delay_after : Option Delay → (first : Option Asker) → Option Delay
delay_after delay None = None
delay_after delay (Some who) = Some (record { asker = who; ticks = one_more (ticks_kept delay who) })

abbrev pub delay_at : List (Option Delay) → ℕ → Option Delay
delay_at delays d = slice_index_or delays d None

-- what is kept after a tick that found these requests in hand
abbrev pub CountsTick : (old new : List (Option Delay)) → (hand : List Request) → Type 0
CountsTick old new hand =
    (d : ℕ) → d < 62 → delay_at new d ≡ delay_after (delay_at old d) (first_command d hand)

-- what is kept of each connection is what the history says
abbrev pub AreDelays : List (Option Delay) → List Act → Type 0
AreDelays delays past =
    (d : ℕ) → d < 62 → (who : Asker) → ticks_kept (delay_at delays d) who ≡ ticks_waited d who past

-- the ticks that are answered for a connection
abbrev pub ticks_shown : List (Option Delay) → (hand : List Request) → ℕ → Option ℕ
ticks_shown delays hand d = option_map (ticks_kept (delay_at delays d)) (first_command d hand)
