-- The listener at a place took a line, or none.
use Rattle.std.specs.Prelude.{refl}
use Rattle.ctl_drive.proofs.Lines.{hears, hears_none}
use Rattle.ctl_drive.proofs.Looking.{looks_none, looks_some, none_known}
use Rattle.ctl_drive.proofs.users.Users.show_line.Goals as goal

pub returns-in_ok-write_line-in-Some-clause-goes : goal.returns-in_ok-write_line-in-Some-clause-goes
returns-in_ok-write_line-in-Some-clause-goes g c =
    hears _ _ c.args.self.now _ c.args.place c.index_mut.result.now c.take.new.self c.in-Some.line
    (record {
      within = c.requires;
      was_is = c.index_mut.ensures.value;
      caller = refl;
      asked = refl;
      channels = refl;
      listeners = refl;
      subscription = c.take.ensures.subscription;
      under_way = refl;
      counts = refl;
      dialect = refl;
    })
    c.in-Some.ensures.heard c.in_ok-write_line-in-Some.ensures

pub returns-in-None-clause-goes : goal.returns-in-None-clause-goes
returns-in-None-clause-goes g c =
    hears_none _ c.args.self.now _ c.args.place c.index_mut.result.now c.take.new.self
    (record {
      within = c.requires;
      was_is = c.index_mut.ensures.value;
      caller = refl;
      asked = refl;
      channels = refl;
      listeners = refl;
      subscription = c.take.ensures.subscription;
      under_way = refl;
      counts = refl;
      dialect = refl;
    })
    c.in-None.ensures.heard

pub returns-in_ok-write_line-in-Some-clause-looks : goal.returns-in_ok-write_line-in-Some-clause-looks
returns-in_ok-write_line-in-Some-clause-looks g c =
    looks_some c.args.self.now _ c.args.place c.index_mut.result.now c.take.new.self c.in-Some.line c.requires c.index_mut.ensures.value refl c.in-Some.ensures.heard refl

pub returns-in-None-clause-looks : goal.returns-in-None-clause-looks
returns-in-None-clause-looks g c =
    looks_none c.args.self.now _ c.args.place c.index_mut.result.now c.take.new.self c.requires c.index_mut.ensures.value refl c.in-None.ensures.heard
    (none_known c.index_mut.result.now.seen c.take.result c.in-None.is c.take.ensures.finds) c.in-None.ensures.seen refl
