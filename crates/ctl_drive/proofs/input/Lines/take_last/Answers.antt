-- The last line, or none.
use Rattle.std.proofs.Common.{rules, ◌≡◌, ◌==◌, false, length, ◌∙◌, ℕ, sym, subst, ap}
use Rattle.std.specs.declared.vec.Vec.{Vec}
use Rattle.std.specs.declared.alloc.Global.{Global}
use Rattle.std.specs.Str.Iter.{LacksByte}
use Rattle.ctl_drive.specs.Input.{LinesView}
use Rattle.ctl_drive.proofs.Reading.{reads_from, reads_none, reads_rest}
use Rattle.ctl_drive.proofs.input.Lines.take_last.Goals as goal

pub returns-then-not-self : goal.returns-then-not-self
returns-then-not-self g c = reads_none c.args.self.now

pub returns : goal.returns
returns g c =
    let some : false ≡ (length c.self.inside.text.items == 0) = search rules in
    reads_from _ _ _ _ c.self.view_is
    (reads_rest (g.I.Read.remaining c.self.inside.input) c.self.inside.text.items c.replace.new.dest.items c.replace.result.items c.self.inside.ended c.self.inside.failed c.if-not-self.false
    (ap (λ (v : Vec ℕ Global). v.items) c.replace.ensures.after ∙ c.new.ensures.items) (ap (λ (v : Vec ℕ Global). v.items) c.replace.ensures.value)
    (subst (λ (v : LinesView). LacksByte 10 v.text) (sym c.self.view_is) c.requires) some)
