-- The run goes on, and no line ends.
use Rattle.std.specs.Prelude.{◌≡◌, ℕ, false, List, [], ◌++◌, if◌then◌else◌}
use Rattle.std.proofs.Common.{sym}
use Rattle.at_text.proofs.lines.UnfinishedLines.{has_end, has_end-take}
use Rattle.at_text.proofs.lines.KeptOctets.{none_dropped, none_kept, run_kept, no_lines, run_itself}
use Rattle.at_text.proofs.line_run.LineRun.keep.Goals as goal

pub invariant_of-self : goal.invariant_of-self
invariant_of-self c =
    let run : List ℕ = if c.self.inside.has_ended then [] else c.self.inside.octets.items in
    let none : has_end run ≡ false = none_dropped c.self.inside.has_ended c.self.inside.octets.items c.self.invariant in
    rw (c.append_cut.ensures.all, c.drop_ended.ensures) (has_end-take 512 (run ++ c.args.octets.now) (none_kept run c.args.octets.now none c.requires))

pub returns-clause-kept : goal.returns-clause-kept
returns-clause-kept c =
    let run : List ℕ = if c.self.inside.has_ended then [] else c.self.inside.octets.items in
    let none : has_end run ≡ false = none_dropped c.self.inside.has_ended c.self.inside.octets.items c.self.invariant in
    rw (← c.self.view_is, c.append_cut.ensures.all, c.drop_ended.ensures) (run_kept run c.args.octets.now none c.requires)

pub returns-clause-none : goal.returns-clause-none
returns-clause-none c =
    let run : List ℕ = if c.self.inside.has_ended then [] else c.self.inside.octets.items in
    let none : has_end run ≡ false = none_dropped c.self.inside.has_ended c.self.inside.octets.items c.self.invariant in
    rw (← c.self.view_is) (no_lines run c.args.octets.now none c.requires)

pub returns-clause-before : goal.returns-clause-before
returns-clause-before c =
    let run : List ℕ = if c.self.inside.has_ended then [] else c.self.inside.octets.items in
    let none : has_end run ≡ false = none_dropped c.self.inside.has_ended c.self.inside.octets.items c.self.invariant in
    rw (← c.self.view_is) (run_itself run none (rw (sym c.drop_ended.ensures) c.append_cut.ensures.fits))
