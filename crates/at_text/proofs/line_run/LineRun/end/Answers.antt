-- The line ends, in the octets or behind what is kept.
use Rattle.std.proofs.Common.{◌≡◌, ◌∙◌, ℕ, List, [], ◌∷◌, ◌++◌, Bool, true, refl, ap, sym, subst}
use Rattle.at_text.specs.Runs.{LineRun, LeadsBack, kept_in}
use Rattle.at_text.proofs.lines.UnfinishedLines.{has_end-take}
use Rattle.at_text.proofs.lines.KeptOctets.{none_kept, filled_in, line_joined, none_joined_kept, run_itself, back_grown}
use Rattle.at_text.proofs.line_run.LineRun.end.Goals as goal

pub returns-then-is_empty : goal.returns-then-is_empty
returns-then-is_empty c =
    let more = c.args.octets.now in
    let v : LineRun = record { octets = c.self.inside.octets.items; has_ended = c.self.inside.has_ended } in
    let none : kept_in v ≡ [] = c.is_empty.ensures.empty c.if-is_empty.true in
    rw (← c.self.view_is) (
      (refl, λ _. tt, (λ k e. rw none (none_joined_kept [] more k refl c.requires e), λ was back. back)),
      record { line = λ k e. c.whole_line.ensures ∙ (rw none (line_joined [] more k refl c.requires e)); before = rw none refl; after = tt },
    )

pub invariant_of-self-2 : goal.invariant_of-self-2
invariant_of-self-2 c = rw c.append_cut.ensures.all (has_end-take 512 (c.self.inside.octets.items ++ c.args.octets.now) (none_kept c.self.inside.octets.items c.args.octets.now c.self.invariant c.requires))

pub returns : goal.returns
returns c =
    let run = c.self.inside.octets.items in
    let more = c.args.octets.now in
    let v : LineRun = record { octets = run; has_ended = c.self.inside.has_ended } in
    let some = c.is_empty.ensures.some c.if-is_empty.false in
    let kept : kept_in v ≡ run = rw some.0 refl in
    rw (← c.self.view_is) (
      (
        refl,
        λ _. tt,
        (
          λ k e. rw kept (none_joined_kept run more k c.self.invariant c.requires e),
          λ was back.
              subst (λ (xs : List ℕ). LeadsBack was (record { octets = xs; has_ended = true })) (sym c.append_cut.ensures.all)
              (back_grown was run more c.append_cut.ensures.fits (subst (λ (b : Bool). LeadsBack was (record { octets = run; has_ended = b })) some.0 back)),
        ),
      ),
      record {
        line = λ k e.
            ap (λ (xs : List ℕ). xs ∷ []) (c.as_slice.ensures.value ∙ c.append_cut.ensures.all)
            ∙ (filled_in run more some.1
            ∙ rw kept (line_joined run more k c.self.invariant c.requires e));
        before = rw kept (run_itself run c.self.invariant c.append_cut.ensures.fits);
        after = tt;
      },
    )
