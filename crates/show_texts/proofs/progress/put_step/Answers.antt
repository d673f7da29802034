-- A text of three parts.
use Rattle.std.specs.Prelude.{◌*◌, ◌++◌, codes, ℕ, List}
use Rattle.std.proofs.Common.{rules, subst}
use Rattle.std.proofs.KnownBytes.{Appends-trans}
use Rattle.std.specs.Io.KnownBytes.{Appends}
use Rattle.ctl_text.specs.Writing.{IsBegun}
use Rattle.std.specs.Fmt.{decimal}
use Rattle.ctl_text.proofs.Written.{begun_after, begun_first}
use Rattle.show_texts.proofs.progress.put_step.Goals as goal

pub returns-then-not-write_octets-clause-part : goal.returns-then-not-write_octets-clause-part
returns-then-not-write_octets-clause-part g c =
    begun_first _ _ (codes "read " ++ decimal (4 * c.args.step)) (codes " MiB\r")
    (begun_first _ _ (codes "read ") (decimal (4 * c.args.step)) c.write_octets.ensures.part)

pub returns-then-not-write_octets-2-clause-part : goal.returns-then-not-write_octets-2-clause-part
returns-then-not-write_octets-2-clause-part g c =
    begun_first _ _ (codes "read " ++ decimal (4 * c.args.step)) (codes " MiB\r")
    (begun_after _ (g.P.Write.contents c.write_octets.new.output) _ (codes "read ") (decimal (4 * c.args.step)) (c.write_octets.ensures.whole cc)
    (subst (λ (l : List ℕ). IsBegun (g.P.Write.contents c.write_octets.new.output) (g.P.Write.contents c.write_octets-2.new.output) l) (search rules) c.write_octets-2.ensures.part))

pub returns-clause-part : goal.returns-clause-part
returns-clause-part g c =
    begun_after _ (g.P.Write.contents c.write_octets-2.new.output) _ (codes "read " ++ decimal (4 * c.args.step)) (codes " MiB\r")
    (Appends-trans _ (g.P.Write.contents c.write_octets.new.output) _ (codes "read ") (decimal (4 * c.args.step)) (c.write_octets.ensures.whole cc) (subst (λ (l : List ℕ). Appends (g.P.Write.contents c.write_octets.new.output) (g.P.Write.contents c.write_octets-2.new.output) l) (search rules) (c.write_octets-2.ensures.whole cc)))
    c.put_octets.ensures.part

pub returns-clause-whole : goal.returns-clause-whole
returns-clause-whole g c whole =
    Appends-trans _ (g.P.Write.contents c.write_octets-2.new.output) _ (codes "read " ++ decimal (4 * c.args.step)) (codes " MiB\r")
    (Appends-trans _ (g.P.Write.contents c.write_octets.new.output) _ (codes "read ") (decimal (4 * c.args.step)) (c.write_octets.ensures.whole cc) (subst (λ (l : List ℕ). Appends (g.P.Write.contents c.write_octets.new.output) (g.P.Write.contents c.write_octets-2.new.output) l) (search rules) (c.write_octets-2.ensures.whole cc)))
    (c.put_octets.ensures.whole whole)
