-- The project's own limits.
use Rattle.std.specs.Prelude.{ℕ}

-- so many requests are in hand at most, with the outcomes that wait
abbrev pub most_in_hand : ℕ
most_in_hand = 128

-- so many lines of a connection that wait for the desk hold it
abbrev pub holding_lines : ℕ
holding_lines = 256

-- below so many a connection that is held is freed
abbrev pub freeing_lines : ℕ
freeing_lines = 128
