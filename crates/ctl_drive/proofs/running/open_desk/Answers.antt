-- The users of a desk that is opened.
use Rattle.std.specs.Prelude.{None, refl, replicate}
use Rattle.std.proofs.Common.{◌∙◌}
use Rattle.ctl_drive.specs.declared.users.Users.{Users}
use Rattle.ctl_drive.proofs.Begins.{AreUsers, new_desk, new_order, new_users, none_submitted, one_is, subscribed_users, whole_users}
use Rattle.ctl_drive.proofs.running.open_desk.Goals as goal

pub returns : goal.returns
returns c =
    let opened = c.in-Ok.ensures.opened in
    let users : Users = record {
      caller = c.remove-caller.result;
      listeners = c.in-Ok.listeners;
      under_way = c.new.result;
      asked = None;
      channels = c.new-2.result;
      counts = replicate 62 0;
      dialect = c.in_ok-dialect.dialect;
    } in
    let are : AreUsers _ c.in-Ok.driver c.in-Ok.callers.items c.in-Ok.listeners.items users = record {
      opened = opened;
      callers = one_is c.in-Ok.callers.items c.remove-caller.result opened.callers.0 c.remove-caller.ensures.value;
      listeners = refl;
      none = c.new.ensures.items;
      asked = refl;
      wanted = c.args.wanted.now;
      channels = c.new-2.ensures;
      counts = refl;
    } in
    record {
      new = new_desk c.args.dialect.now _ c.in-Ok.driver c.in-Ok.callers.items c.in-Ok.listeners.items (c.as_slice.ensures.value ∙ c.in_ok-kinds.ensures) opened;
      whole = whole_users _ c.in-Ok.driver c.in-Ok.callers.items c.in-Ok.listeners.items users are;
      subscribed = subscribed_users _ c.in-Ok.driver c.in-Ok.callers.items c.in-Ok.listeners.items users are;
      shown = new_users _ c.in-Ok.driver c.in-Ok.callers.items c.in-Ok.listeners.items users are;
      none_asked = none_submitted _ c.in-Ok.driver c.in-Ok.callers.items c.in-Ok.listeners.items users are;
      order = new_order _ c.in-Ok.driver c.in-Ok.callers.items c.in-Ok.listeners.items users are;
      dialect = c.in_ok-dialect.ensures;
    }
