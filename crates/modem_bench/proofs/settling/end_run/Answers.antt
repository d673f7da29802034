-- The session is finished, and the desk is settled with the driver's end that it gives back.
use Rattle.std.proofs.Common.{ap, map, subst, sym}
use Rattle.std.specs.Prelude.{vec_items}
use Rattle.modem_desk.specs.Ends.{AreSubscribed, DeskId, DriverView, IsWhole, subscription_of, place_of}
use Rattle.modem_desk.specs.Books.{DeskBooks}
use Rattle.modem_driver.specs.SessionStates.{end_of}
use Rattle.modem_bench.proofs.settling.end_run.Goals as goal

pub settle-requires-clause-callers : goal.settle-requires-clause-callers
settle-requires-clause-callers g c =
    subst (λ (d : DeskId). IsWhole d (map place_of c.args.callers.items)) (ap (λ (v : DriverView). v.desk) (sym c.finish-finished.ensures.same.1)) c.requires.callers

pub settle-requires-clause-listeners : goal.settle-requires-clause-listeners
settle-requires-clause-listeners g c =
    subst (λ (d : DeskId). AreSubscribed d (map subscription_of c.args.listeners.items)) (ap (λ (v : DriverView). v.desk) (sym c.finish-finished.ensures.same.1)) c.requires.listeners

pub returns-in-Ok-clause-over : goal.returns-in-Ok-clause-over
returns-in-Ok-clause-over g c =
    let look = g.L.SerialLine.seen in
    let f = c.finish-finished.result in
    record {
      leftovers = record {
        line = look f.line;
        desk = end_of f.driver;
        in_hand = f.in_hand.items;
        unplaced = f.unplaced.items;
        unannounced = f.unannounced.items;
      };
      ends = c.finish-finished.ensures.left;
      desk = ap end_of c.finish-finished.ensures.same.1;
      books = subst (λ (v : DriverView). DeskBooks v c.args.callers.items c.args.listeners.items c.in-Ok.settled.left.items (map vec_items c.in-Ok.settled.untaken.items) (map vec_items c.in-Ok.settled.unheard.items)) c.finish-finished.ensures.same.1 c.in-Ok.ensures.books;
    }
