-- The desk is the same one, with the same users.
use Rattle.std.specs.Prelude.{refl, IsOk}
use Rattle.std.proofs.Common.{ap, ◌∙◌}
use Rattle.std.proofs.lemmas.Result.{IfOk-at_ok}
use Rattle.modem_desk.specs.Ends.{DriverView}
use Rattle.modem_driver.specs.SessionStates.{end_of}
use Rattle.ctl_drive.specs.Ending.{AllHeard}
use Rattle.ctl_drive.proofs.Ends.{done_ok, ends_drive, known_done, on_both, still_subscribed, still_whole}
use Rattle.ctl_drive.proofs.ending.end_drive.Goals as goal

pub settle_turned-settled-requires-clause-whole : goal.settle_turned-settled-requires-clause-whole
settle_turned-settled-requires-clause-whole g c =
    on_both _ _ _ c.turn_left_away-turned.result c.turn_left_away-turned.ensures.turns c.turn_left_away-turned.ensures.goes (λ t goes.
    still_whole c.args.session.driver.desk c.turn_left_away-turned.new.driver.desk c.args.users c.turn_left_away-turned.new.users
    (t.turned.turns.desk ∙ ap (λ (d : DriverView). d.desk) c.finish-line.ensures.same.1) goes.places c.requires.whole)

pub settle_turned-settled-requires-clause-subscribed : goal.settle_turned-settled-requires-clause-subscribed
settle_turned-settled-requires-clause-subscribed g c =
    on_both _ _ _ c.turn_left_away-turned.result c.turn_left_away-turned.ensures.turns c.turn_left_away-turned.ensures.goes (λ t goes.
    still_subscribed c.args.session.driver.desk c.turn_left_away-turned.new.driver.desk c.args.users c.turn_left_away-turned.new.users
    (t.turned.turns.desk ∙ ap (λ (d : DriverView). d.desk) c.finish-line.ensures.same.1) goes.places c.requires.subscribed)

pub returns-clause-ends : goal.returns-clause-ends
returns-clause-ends g c =
    let left = c.finish-line.result in
    let turned = c.turn_left_away-turned in
    let done : IsOk turned.result = known_done (IsOk turned.result) c.settle_turned-settled.result c.in_ok-settled.settled c.in_ok-settled.ensures.made c.settle_turned-settled.ensures.turned in
    ends_drive g.L.SerialLine.seen c.args.session c.args.users turned.new.users left.driver turned.new.driver
    (record {
      line = g.L.SerialLine.seen left.line;
      desk = end_of left.driver;
      in_hand = left.in_hand.items;
      unplaced = left.unplaced.items;
      unannounced = left.unannounced.items;
    })
    (g.W.Write.contents c.args.output.now) (g.W.Write.contents turned.new.output) c.in_ok-settled.settled
    c.finish-line.ensures.same.1 c.finish-line.ensures.left refl
    (done_ok _ turned.result done turned.ensures.turns)
    (done_ok _ turned.result done turned.ensures.goes)
    (done_ok _ turned.result done turned.ensures.none)
    (done_ok _ turned.result done turned.ensures.submits_none)
    (IfOk-at_ok AllHeard c.in_ok-settled.ensures.made c.settle_turned-settled.ensures.heard)
    (IfOk-at_ok _ c.in_ok-settled.ensures.made c.settle_turned-settled.ensures.books)
