-- Everyone was told.
use Rattle.std.specs.Prelude.{[], ◌∷◌, IfOk, IsOk, map, refl, vec_items, Result}
use Rattle.std.proofs.Common.{sym, subst}
use Rattle.modem_desk.specs.Books.{DeskBooks}
use Rattle.modem_desk.specs.Ends.{AreSubscribed, DriverView, IsWhole, place_of, subscription_of}
use Rattle.ctl_drive.specs.declared.fault.DriveFault.{DriveFault}
use Rattle.ctl_drive.specs.declared.users.Users.{Users}
use Rattle.ctl_drive.proofs.Ends.{heard_then, known_done, on_ok, same_settled}
use Rattle.ctl_drive.proofs.ending.settle_turned.Goals as goal

pub settle_all-requires-clause-whole : goal.settle_all-requires-clause-whole
settle_all-requires-clause-whole g c =
    subst (λ (x : DriverView × Users). IsWhole x.0.desk (map place_of (x.1.caller ∷ []))) (sym c.in_ok-driver.ensures.kept) (known_done _ c.args.turned _ c.in_ok-driver.ensures.made c.requires.whole)

pub settle_all-requires-clause-subscribed : goal.settle_all-requires-clause-subscribed
settle_all-requires-clause-subscribed g c =
    subst (λ (x : DriverView × Users). AreSubscribed x.0.desk (map subscription_of x.1.listeners.items)) (sym c.in_ok-driver.ensures.kept) (known_done _ c.args.turned _ c.in_ok-driver.ensures.made c.requires.subscribed)

pub returns-clause-books : goal.returns-clause-books
returns-clause-books g c =
    subst (λ (x : DriverView × Users). IfOk c.unless_unheard.result (λ s. DeskBooks x.0 (x.1.caller ∷ []) x.1.listeners.items s.left.items (map vec_items s.untaken.items) (map vec_items s.unheard.items)))
    c.in_ok-driver.ensures.kept
    (same_settled _ c.in_ok-settled.settled c.unless_unheard.result c.in_ok-settled.ensures c.unless_unheard.ensures)

pub returns-clause-turned : goal.returns-clause-turned
returns-clause-turned g c = on_ok (IsOk c.args.turned) c.unless_unheard.result (subst (λ (r : Result (Unit {0}) DriveFault). IsOk r) (sym c.in_ok-driver.ensures.made) refl)

pub returns-clause-heard : goal.returns-clause-heard
returns-clause-heard g c = heard_then c.in_ok-settled.settled c.unless_unheard.result c.unless_unheard.ensures
