-- What the reader gave.
use Rattle.std.proofs.Common.{◌≡◌, ◌∙◌, ◌<◌, ◌++◌, ℕ, Bool, Option, take, Ok, Result, sym, subst, ap, refl, arith, List, [], false, length}
use Rattle.ctl_drive.specs.Input.{LinesView, Reads}
use Rattle.std.specs.Io.KnownBytes.{Consumes, IsAtEnd, ReadConsumes}
use Rattle.ctl_drive.proofs.Reading.{reads_ended, reads_failed, reads_from, reads_nothing, reads_piece}
use Rattle.ctl_drive.proofs.input.Lines.read_on.Goals as goal

gave_none : {E : Type 0} (left later : Option (List ℕ)) (r : Result ℕ E) (n : ℕ) (buf : List ℕ) → ReadConsumes left later r buf → r ≡ Ok n → n ≡ 0 → 0 < length buf → Consumes left later [] × IsAtEnd later
gave_none {E} left later r n buf h is zero some =
    let gave : Consumes left later (take 0 buf) × (0 ≡ 0 → 0 < length buf → IsAtEnd later) = subst (λ (s : Result ℕ E). ReadConsumes left later s buf) (is ∙ ap (λ (m : ℕ). Ok m) zero) h in
    (gave.0, gave.1 refl some)

pub returns-in-Ok-eq0 : goal.returns-in-Ok-eq0
returns-in-Ok-eq0 g c =
    let gave = gave_none (g.I.Read.remaining c.self.inside.input) (g.I.Read.remaining c.read.new.self) c.read.result c.in-Ok-eq0.field-0 c.read.new.buf c.read.ensures.bytes c.in-Ok-eq0.is c.in-Ok-eq0.field-0-test (let l = c.read.auto.buf in omega (arith, l)) in
    reads_from _ _ _ _ c.self.view_is
    (reads_ended (g.I.Read.remaining c.self.inside.input) (g.I.Read.remaining c.read.new.self) c.self.inside.text.items c.self.inside.ended c.self.inside.failed gave.0 gave.1)

pub returns-in_ok-extend_from_slice-in-Ok : goal.returns-in_ok-extend_from_slice-in-Ok
returns-in_ok-extend_from_slice-in-Ok g c =
    reads_piece c.args.self.now _ (take c.in-Ok.count c.read.new.buf) c.requires
    (subst (λ (v : LinesView). Consumes v.left (g.I.Read.remaining c.read.new.self) (take c.in-Ok.count c.read.new.buf)) c.self.view_is c.in-Ok.ensures.bytes.0)
    (c.in_ok-extend_from_slice-in-Ok.ensures.items ∙ ap (λ (v : LinesView). v.text ++ take c.in-Ok.count c.read.new.buf) c.self.view_is)
    (ap (λ (v : LinesView). v.ended) c.self.view_is)

pub returns-in-Err : goal.returns-in-Err
returns-in-Err g c =
    let going : c.self.inside.ended ≡ false = ap (λ (v : LinesView). v.ended) c.self.view_is ∙ c.requires in
    reads_from _ _ _ _ c.self.view_is
    (subst (λ (e : Bool). Reads (record { left = g.I.Read.remaining c.self.inside.input; text = c.self.inside.text.items; ended = e; failed = c.self.inside.failed }) (record { left = g.I.Read.remaining c.read.new.self; text = c.self.inside.text.items; ended = e; failed = c.self.inside.failed }) []) (sym going)
    (reads_nothing (g.I.Read.remaining c.self.inside.input) (g.I.Read.remaining c.read.new.self) c.self.inside.text.items c.self.inside.failed c.in-Err.ensures.bytes))

pub returns-in-Err-2 : goal.returns-in-Err-2
returns-in-Err-2 g c =
    reads_from _ _ _ _ c.self.view_is
    (reads_failed (g.I.Read.remaining c.self.inside.input) (g.I.Read.remaining c.read.new.self) c.self.inside.text.items c.self.inside.ended c.self.inside.failed c.in-Err-2.ensures.bytes)
