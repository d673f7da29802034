-- One packet more is told, and its octets are counted.
use Rattle.std.specs.Prelude.{◌≡◌, true, false, List, ℕ}
use Rattle.std.proofs.Common.{rules, subst}
use Rattle.show_texts.specs.Captures.{ShowsOctets}
use Rattle.show_texts.specs.Progress.{Counts}
use Rattle.show_texts.proofs.Progressing.{all_read, part_read, read_counted}
use Rattle.show_texts.proofs.Shown.{packet_so_far}
use Rattle.show_texts.proofs.run.show_packets.Goals as goal

pub loop-preserved : goal.loop-preserved
loop-preserved g c =
    let some : c.in_ok-read_octets.field-0 ≡ true = search rules in (
      packet_so_far c.args.teller.now c.loop.teller c.show_octets.new.teller (g.I.Read.remaining c.args.input.now) (g.I.Read.remaining c.loop.input)
          (g.I.Read.remaining c.read_octets.new.input) (g.W.Write.contents c.args.output.now) (g.W.Write.contents c.loop.output)
          (g.W.Write.contents c.show_octets.new.output) c.read_octets.new.octets.items c.loop.invariant.0 (c.in_ok-read_octets.ensures.more some)
          (subst (λ (l : List ℕ). ShowsOctets c.loop.teller c.show_octets.new.teller l (g.W.Write.contents c.loop.output) (g.W.Write.contents c.show_octets.new.output)) c.as_slice.ensures.value c.in_ok-show_octets.ensures.shows),
      read_counted (g.I.Read.remaining c.args.input.now) (g.I.Read.remaining c.loop.input) (g.I.Read.remaining c.read_octets.new.input) c.args.progress.now c.loop.progress c.add.new.self
          c.read_octets.new.octets.items c.loop.invariant.1 (c.in_ok-read_octets.ensures.more some)
          (subst (λ (n : ℕ). Counts c.loop.progress c.add.new.self n) (search rules) c.add.ensures.counts),
      search rules,
    )

pub returns-in_err-read_octets-clause-part :
    goal.returns-in_err-read_octets-clause-part
returns-in_err-read_octets-clause-part g c = part_read _ _ _ _ c.loop.invariant.1

pub returns-then-not-branch-clause-part :
    goal.returns-then-not-branch-clause-part
returns-then-not-branch-clause-part g c = part_read _ _ _ _ c.loop.invariant.1

pub returns-then-not-branch-clause-all : goal.returns-then-not-branch-clause-all
returns-then-not-branch-clause-all g c =
    let none : c.in_ok-read_octets.field-0 ≡ false = search rules in
    let end = c.in_ok-read_octets.ensures.end none in
    all_read _ _ _ _ _ c.loop.invariant.1 end.0 end.1

pub returns-in_err-show_octets-clause-part :
    goal.returns-in_err-show_octets-clause-part
returns-in_err-show_octets-clause-part g c = part_read _ _ _ _ c.loop.invariant.1

pub returns-clause-part : goal.returns-clause-part
returns-clause-part g c = part_read _ _ _ _ c.loop.invariant.1
