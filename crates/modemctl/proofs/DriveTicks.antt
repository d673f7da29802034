-- The time from tick to tick that the words give.
use Rattle.std.specs.Prelude.{◌≡◌, ◌*◌, ℕ, Option}
use Rattle.clap.specs.Words.{Text}
use Rattle.modemctl.specs.Drives.{IsTick}
use Rattle.modemctl.specs.Words.{IsNumberOf}

-- so many milliseconds, which are the number of the words
pub ticks_of : (text : Option Text) (tick nanos : ℕ) → IsNumberOf 100 text tick → nanos ≡ tick * 1000000 → IsTick text nanos
ticks_of text tick nanos said same = record { tick = tick; said = said; same = same }
