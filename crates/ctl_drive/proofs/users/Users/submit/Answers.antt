-- A line more is under way.
use Rattle.std.specs.Prelude.{◌≡◌, ℕ, ◌+◌, List, [], ◌∷◌, ◌++◌, refl, set, slice_index_or}
use Rattle.std.proofs.Common.{ap, arith, ◌∙◌}
use Rattle.modem_desk.specs.declared.request.Ask.TheVariants as ask
use Rattle.ctl_drive.specs.declared.users.UnderWay.{UnderWay}
use Rattle.ctl_drive.proofs.Asks.{submitted_more}
use Rattle.ctl_drive.proofs.Lines.{submits}
use Rattle.ctl_drive.proofs.users.Users.submit.Goals as goal

pub returns-clause-goes : goal.returns-clause-goes
returns-clause-goes g c =
    let line : UnderWay = record { number = c.in-Ok.number; dlci = c.args.dlci; place = c.in-Some.place } in
    let from = c.from-d.ensures in
    let number = c.number.ensures.number in
    let same : c.from-d.result ≡ c.args.dlci.number = omega (arith, from, number) in
    λ out.
    submits out c.args.self.now _
    (record { caller = c.args.self.now.caller.place.number; number = c.in-Ok.number; ask = ask.Command c.args.dlci c.args.line })
    line
    (record {
      one = record {
        place = c.in-Ok.ensures.place.0;
        submitted = c.in-Ok.ensures.submitted;
        got = c.in-Ok.ensures.place.1;
        before = c.in-Ok.ensures.got_before;
      };
      number = c.in-Ok.ensures.next;
      on = λ d. refl;
      told = c.requires.told;
      free = c.requires.free;
      asked = refl;
      channels = c.note_submitted.ensures;
      listeners = refl;
      under_way = c.push_reserved.ensures.items ∙ ap (λ (x : List UnderWay). x ++ line ∷ []) c.try_reserve.ensures.items;
      counts = ap (λ (n : ℕ). set c.args.self.now.counts n c.in-Some.place) same;
      counted = c.in-Some.ensures.1 ∙ ap (λ (n : ℕ). slice_index_or c.args.self.now.counts n 0 + 1) same;
      known = c.args.dlci.in_range;
      dialect = refl;
    })

pub returns-clause-asks : goal.returns-clause-asks
returns-clause-asks g c =
    submitted_more c.submit.new.self.submitted c.args.self.now.caller.submitted
    (record { caller = c.args.self.now.caller.place.number; number = c.in-Ok.number; ask = ask.Command c.args.dlci c.args.line }) c.in-Ok.ensures.submitted
