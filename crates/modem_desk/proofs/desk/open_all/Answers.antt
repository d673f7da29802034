use Rattle.std.proofs.Common.{◌∙◌, ap, sym, length}
use Rattle.modem_desk.specs.Ends.{AreNewCallers, DriverView}
use Rattle.modem_desk.proofs.desk_places.DeskPlaces.{new_callers_on, new_callers_whole, new_subscriptions}
use Rattle.modem_desk.proofs.desk.open_all.Goals as goal

pub returns-clause-opened : goal.returns-clause-opened
returns-clause-opened c =
    let v = c.in_ok-driver.ensures in
    let a = c.in_ok-all.ensures in
    let b = c.in_ok-listeners.ensures in
    let new_callers : AreNewCallers c.add_listeners.new.driver.desk c.args.first c.in_ok-all.all.items =
    new_callers_on c.add_callers.new.driver.desk c.add_listeners.new.driver.desk c.args.first c.in_ok-all.all.items (ap (λ (d : DriverView). d.desk.queue) b.same) (ap (λ (d : DriverView). d.desk.rings) b.same) a.callers.2 in
    let rings = ap (λ (d : DriverView). length d.desk.rings) b.same ∙ a.callers.0 in
    record {
      rings = rings;
      kinds = ap (λ (d : DriverView). d.desk.kinds) b.same;
      taken = ap (λ (d : DriverView). d.taken) b.same ∙ ap (λ (d : DriverView). d.taken) a.same ∙ v.3;
      told = ap (λ (d : DriverView). d.told) b.same ∙ ap (λ (d : DriverView). d.told) a.same;
      announced = ap (λ (d : DriverView). d.announced) b.same;
      free = (ap (λ (d : DriverView). d.free) b.same ∙ ap (λ (d : DriverView). d.free) a.same, ap (λ (d : DriverView). d.free_lines) b.same);
      none_found = ap (λ (d : DriverView). d.found_none) b.same ∙ ap (λ (d : DriverView). d.found_none) a.same ∙ v.8;
      none_back = (ap (λ (d : DriverView). d.told_back) b.same ∙ ap (λ (d : DriverView). d.told_back) a.same, ap (λ (d : DriverView). d.announced_back) b.same);
      callers = (a.callers.1, new_callers);
      listeners = b.listeners;
      whole = new_callers_whole c.add_listeners.new.driver.desk c.args.first c.in_ok-all.all.items (rings ∙ sym a.callers.1) new_callers;
      subscribed = new_subscriptions c.add_listeners.new.driver.desk c.in_ok-listeners.listeners.items b.listeners.1;
    }
