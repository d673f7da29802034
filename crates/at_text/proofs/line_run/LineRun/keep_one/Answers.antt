-- An octet is kept, and no line ends.
use Rattle.std.specs.Prelude.{◌≡◌, ℕ, false, List, [], ◌∷◌, ◌++◌, refl, if◌then◌else◌}
use Rattle.at_text.proofs.lines.UnfinishedLines.{has_end, has_end-take}
use Rattle.at_text.proofs.lines.KeptOctets.{none_dropped, none_kept, run_kept, no_lines}
use Rattle.at_text.proofs.line_run.LineRun.keep_one.Goals as goal

pub invariant_of-self : goal.invariant_of-self
invariant_of-self c =
    let run : List ℕ = if c.self.inside.has_ended then [] else c.self.inside.octets.items in
    let none : has_end run ≡ false = none_dropped c.self.inside.has_ended c.self.inside.octets.items c.self.invariant in
    let free : has_end (c.args.octet ∷ []) ≡ false = rw c.requires refl in
    rw (c.push_cut.ensures, c.drop_ended.ensures) (has_end-take 512 (run ++ c.args.octet ∷ []) (none_kept run (c.args.octet ∷ []) none free))

pub returns-clause-kept : goal.returns-clause-kept
returns-clause-kept c =
    let run : List ℕ = if c.self.inside.has_ended then [] else c.self.inside.octets.items in
    let none : has_end run ≡ false = none_dropped c.self.inside.has_ended c.self.inside.octets.items c.self.invariant in
    let free : has_end (c.args.octet ∷ []) ≡ false = rw c.requires refl in
    rw (← c.self.view_is, c.push_cut.ensures, c.drop_ended.ensures) (run_kept run (c.args.octet ∷ []) none free)

pub returns-clause-none : goal.returns-clause-none
returns-clause-none c =
    let run : List ℕ = if c.self.inside.has_ended then [] else c.self.inside.octets.items in
    let none : has_end run ≡ false = none_dropped c.self.inside.has_ended c.self.inside.octets.items c.self.invariant in
    let free : has_end (c.args.octet ∷ []) ≡ false = rw c.requires refl in
    rw (← c.self.view_is) (no_lines run (c.args.octet ∷ []) none free)
