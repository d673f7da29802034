-- How times and ways are written.
use Rattle.std.specs.Prelude.{ℕ, ◌/◌, ◌%◌, List, ◌++◌, codes}
use Rattle.std.specs.Fmt.{decimal}
use Rattle.mux_capture.specs.declared.packet.Direction.{Direction}
use Rattle.mux_capture.specs.declared.packet.Direction.TheVariants.{ToModem, FromModem}
use Rattle.mux_capture.specs.declared.packet.Stamp.{Stamp}

-- the last six digits of a number
abbrev pub six_digits : ℕ → List ℕ
six_digits n =
    decimal (n / 100000 % 10) ++ decimal (n / 10000 % 10) ++ decimal (n / 1000 % 10) ++ decimal (n / 100 % 10)
    ++ decimal (n / 10 % 10) ++ decimal (n % 10)

-- a span of microseconds, in seconds
abbrev pub span_text : ℕ → List ℕ
span_text n = decimal (n / 1000000) ++ codes "." ++ six_digits n

-- a time, in seconds
abbrev pub time_text : Stamp → List ℕ
time_text s = decimal s.seconds ++ codes "." ++ six_digits s.micros

-- to the modem, and from there
abbrev pub way_text : Direction → List ℕ
way_text ToModem = codes ">"
way_text FromModem = codes "<"

-- how each line of an event begins: when it was, and which way it went
abbrev pub head_text : Stamp → Direction → List ℕ
head_text s d = time_text s ++ codes " " ++ way_text d ++ codes " "
