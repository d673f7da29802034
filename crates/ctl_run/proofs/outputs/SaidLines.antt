-- The lines that are said of a run that ended without its output.
use Rattle.std.specs.Prelude.{◌≡◌, ℕ, Bool, true, false, List, [], Option, refl}
use Rattle.std.proofs.KnownBytes.{Appends-nil}
use Rattle.std.specs.Io.KnownBytes.{Appends}
use Rattle.ctl_run.specs.Statuses.{stop_line, stop_lines, stop_reason_line}
use Rattle.ctl_run.specs.declared.stop.Stop.{Stop}
use Rattle.ctl_text.specs.Writing.{IsBegun}
use Rattle.ctl_text.proofs.Written.{begun_after, begun_first}

-- nothing was said
pub begun_none : (a : Option (List ℕ)) → IsBegun a a []
begun_none a = record { part = []; left = []; split = refl; appended = Appends-nil a }

-- a beginning of the first line is one of all lines
pub begun_line : (explained : Bool) (stop : Stop) (a b : Option (List ℕ)) → IsBegun a b (stop_line stop) → IsBegun a b (stop_lines explained stop)
begun_line true stop a b h = begun_first a b (stop_line stop) (stop_reason_line stop) h
begun_line false stop a b h = h

-- the first line, and a beginning of the second
pub begun_reason : (explained : Bool) (stop : Stop) (a b c : Option (List ℕ)) → explained ≡ true → Appends a b (stop_line stop) → IsBegun b c (stop_reason_line stop) → IsBegun a c (stop_lines explained stop)
begun_reason true stop a b c e p h = begun_after a b c (stop_line stop) (stop_reason_line stop) p h
begun_reason false stop a b c e p h = absurd (cc)
