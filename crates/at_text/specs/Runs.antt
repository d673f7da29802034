-- The run of a line as it is kept, and the way back to it.
use Rattle.std.specs.Prelude.{◌≡◌, ℕ, Bool, List, [], length, take, if◌then◌else◌}
use Rattle.at_text.specs.declared.line_run.RunMark.{RunMark}

-- the octets of a line so far, and whether it has ended: then they go with the next octet that is kept
pub record LineRun : Type 0 where
  pub octets : List ℕ
  pub has_ended : Bool

-- what is kept of the line that hasn't ended yet
abbrev pub kept_in : LineRun → List ℕ
kept_in r = if r.has_ended then [] else r.octets

-- how far a line has come
abbrev pub mark_in : LineRun → RunMark
mark_in r = record { len = length r.octets; has_ended = r.has_ended }

-- a line as it was at a mark
abbrev pub back_to : RunMark → LineRun → LineRun
back_to mark r = record { octets = take mark.len r.octets; has_ended = mark.has_ended }

-- from a line that has become this there is a way back
abbrev pub LeadsBack : (was now : LineRun) → Type 0
LeadsBack was now = back_to (mark_in was) now ≡ was
