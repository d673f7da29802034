use Rattle.std.proofs.Common.{◌∙◌, ap, sym, ◌++◌, [], ◌∷◌, subst, List, length, ◌+◌}
use Rattle.std.proofs.lemmas.List.{length_push, replicate_more}
use Rattle.modem_desk.specs.Ends.{CallerView, DriverView, AreNewCallers}
use Rattle.modem_desk.proofs.desk_places.DeskPlaces.{new_callers_more}
use Rattle.modem_desk.proofs.desk.add_callers.Goals as goal

pub loop-preserved : goal.loop-preserved
loop-preserved c =
    let i = c.loop.invariant in
    let e = c.in_ok-caller.ensures in
    let was = c.args.driver.now in
    let rings = c.loop.driver.desk.rings ++ c.in_ok-caller.caller.place.ring ∷ [] in
    let more : DriverView → DriverView = λ v. record v { desk = record v.desk { rings = rings }; told = v.told ++ [] ∷ []; free = v.free ++ 8 ∷ []; told_back = v.told_back ++ 0 ∷ [] } in
    let now = sym (ap (λ (d : DriverView). d.desk.rings) e.same) in
    record {
      same = e.same ∙ ap more i.same
          ∙ (λ j. record was { desk = record was.desk { rings = now j }; told = replicate_more c.loop.counter [] j; free = replicate_more c.loop.counter 8 j; told_back = replicate_more c.loop.counter 0 j });
      callers = ap (λ (d : DriverView). length d.desk.rings) e.same ∙ length_push c.loop.driver.desk.rings c.in_ok-caller.caller.place.ring ∙ ap (λ n. n + 1) i.callers;
      length = ap (length {A = CallerView}) c.in_ok-push.ensures.items ∙ length_push c.loop.all.items c.in_ok-caller.caller ∙ ap (λ n. n + 1) i.length;
      new_callers = subst (λ (l : List CallerView). AreNewCallers c.add_caller.new.self.desk c.args.first l) (sym c.in_ok-push.ensures.items)
          (new_callers_more c.loop.driver.desk _ _ _ _ i.new_callers (ap (λ (d : DriverView). d.desk) e.same) (i.callers ∙ sym i.length) e.caller.0 (e.caller.1 ∙ i.callers ∙ sym i.length) e.caller.2 e.caller.3);
    }
