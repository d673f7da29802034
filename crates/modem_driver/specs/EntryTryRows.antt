-- Worked calls of an entry and what patience is asked after them, and what closes a multiplexer down.
use Rattle.std.specs.Prelude.{◌≡◌, ℕ, List, [], ◌∷◌, length}
use Rattle.mux_frame.specs.Spelling.{spelled}
use Rattle.serial_line.specs.LineViews.{unused_line}
use Rattle.modem_history.specs.Sessions.{LineView}
use Rattle.modem_driver.specs.EntrySteps.{close_down_frame}
use Rattle.modem_driver.specs.EntryTries.{AsksEach, IsSent, closing, fill}

-- a line on which nothing happened, after a read that gave nothing, and after one that gave an octet
abbrev pub after_none : LineView
after_none = record unused_line { calls = 1; empty_reads = 1 }

abbrev pub after_one : LineView
after_one = record unused_line { received = 13 ∷ []; calls = 1 }

-- it took these octets
abbrev pub after_octets : List ℕ → LineView
after_octets octets = record unused_line { sent = octets; calls = 1 }

-- patience was asked once after either, and told that nothing moved after the first; or it wasn't asked behind an answer
pub record AsksRight : Type 0 where
  pub none : AsksEach 0 unused_line after_none 0 1 0 1
  pub one : AsksEach 0 unused_line after_one 0 1 0 0
  pub answer : AsksEach 1 unused_line after_one 0 0 0 0

-- it was told that octets moved where none did, that none did where one came, or wasn't asked
pub record AsksWrong : Type 0 where
  pub moved : AsksEach 0 unused_line after_none 0 1 0 0 → ⊥
  pub idle : AsksEach 0 unused_line after_one 0 1 0 1 → ⊥
  pub silent : AsksEach 0 unused_line after_one 0 0 0 0 → ⊥

-- at N1 31: 34 flags, and the eight octets of a CLD frame
pub record ClosesRight : Type 0 where
  pub flags : length (fill 31) ≡ 34
  pub all : length (closing 31) ≡ 42
  pub sent : IsSent unused_line (after_octets (closing 31)) (closing 31)

-- the frame alone doesn't end a frame that another driver began
pub record ClosesWrong : Type 0 where
  pub bare : IsSent unused_line (after_octets (spelled close_down_frame)) (closing 31) → ⊥
