-- A line over a reader and a writer.
use Rattle.std.specs.Prelude.{◌≡◌, ◌⊎◌, ◌+◌, ◌-◌, ◌^◌, ◌<◌, ℕ, Bool, true, false, List, [], Option, Result, Ok, Err}
use Rattle.std.specs.declared.io.ErrorKind.{ErrorKind}
use Rattle.std.specs.declared.io.ErrorKind.TheVariants.{Interrupted, WouldBlock, TimedOut}
use Rattle.serial_line.specs.Counts.{one_more}
use Rattle.serial_line.specs.LineViews.{LineView}
use Rattle.serial_line.specs.declared.line.LineFault.{LineFault}
use Rattle.serial_line.specs.declared.stream_line.ZeroRead.{ZeroRead}

-- a line over a reader and a writer, as contracts see it
pub record StreamState : Type 0 where
  pub received : List ℕ  -- what its reads gave
  pub sent : List ℕ  -- what its writes took
  pub left : Option (List ℕ)  -- what the reader is still to give, where that is known
  pub held : Option (List ℕ)  -- what the writer holds, where that is known
  pub zero : ZeroRead  -- what a read of nothing says
  pub calls : ℕ
  pub failures : ℕ
  pub empty_reads : ℕ  -- so many reads could give octets and gave none
  pub stalled_writes : ℕ  -- so many writes could take octets and took none
  pub refusals : ℕ  -- so many calls the reader or the writer refused for now

-- a line on which nothing has happened yet
abbrev pub new_stream : (left held : Option (List ℕ)) → ZeroRead → StreamState
new_stream left held zero = record {
  received = [];
  sent = [];
  left = left;
  held = held;
  zero = zero;
  calls = 0;
  failures = 0;
  empty_reads = 0;
  stalled_writes = 0;
  refusals = 0;
}

-- what is seen of it as of any line
abbrev pub stream_view : StreamState → LineView
stream_view s = record {
  received = s.received;
  sent = s.sent;
  calls = s.calls;
  failures = s.failures;
  empty_reads = s.empty_reads;
  stalled_writes = s.stalled_writes;
}

-- the reader or the writer refused this call for now
abbrev pub IsRefused : (old new : StreamState) → Type 0
IsRefused old new = new.refusals ≡ one_more old.refusals

-- of a call that moved so many octets: a refused one moves none and is counted, and no other is
abbrev pub CountsRefusal : (moved : ℕ) → (old new : StreamState) → Type 0
CountsRefusal moved old new = ((moved ≡ 0) × IsRefused old new) ⊎ (new.refusals ≡ old.refusals)

-- What a call comes to whose reader or writer answered an error. Where that is for now, the call moves nothing, and is counted as
-- refused. Else it fails, and that is counted; but where the count of failures is at its end, it is as if refused for now.
abbrev pub ComesOfError : (is_for_now : Bool) → (failures refusals failures_then refusals_then : ℕ) → Result ℕ LineFault → Type 0
ComesOfError is_for_now failures refusals failures_then refusals_then (Ok n) =
    (n ≡ 0) × (failures_then ≡ failures) × (refusals_then ≡ one_more refusals) × ((is_for_now ≡ true) ⊎ (failures ≡ 2 ^ 64 - 1))
ComesOfError is_for_now failures refusals failures_then refusals_then (Err _) =
    (is_for_now ≡ false) × (failures < 2 ^ 64 - 1) × (failures_then ≡ failures + 1) × (refusals_then ≡ refusals)

-- the kinds of errors by which a reader or a writer says that it refuses a call for now
abbrev pub is_passing : ErrorKind → Bool
is_passing Interrupted = true
is_passing WouldBlock = true
is_passing TimedOut = true
is_passing _ = false
