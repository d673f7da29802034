use Rattle.std.proofs.Common.{◌≡◌, ◌∙◌, ap, sym, ◌++◌, [], ◌∷◌, subst, List, length, get_or, ◌+◌, arith}
use Rattle.std.proofs.lemmas.List.{length_push, replicate_more, take_more, length-take-le}
use Rattle.std.specs.Prelude.{Contains}
use Rattle.at_text.specs.declared.unsolicited.UrcKind.TheVariants.{Ring}
use Rattle.modem_desk.specs.Ends.{ListenerView, DriverView, AreNewListeners}
use Rattle.modem_desk.proofs.desk_places.DeskPlaces.{new_listeners_more}
use Rattle.modem_desk.proofs.desk_places.KindPlaces.{not_before}
use Rattle.modem_desk.proofs.desk.add_listeners.Goals as goal

pub add_listener-requires : goal.add_listener-requires
add_listener-requires c =
    let lt = c.loop-kind-test.true in
    subst (λ (d : DriverView). ¬ Contains d.desk.kinds (get_or c.args.kinds.now c.loop-kind.kind-index Ring)) (sym c.loop-kind.invariant.same)
    (not_before c.args.kinds.now c.loop-kind.kind-index Ring c.requires.0 lt)

pub loop-kind-preserved : goal.loop-kind-preserved
loop-kind-preserved c =
    let i = c.loop-kind.invariant in
    let e = c.in_ok-listener.ensures in
    let lt = c.loop-kind-test.true in
    let n = c.loop-kind.kind-index in
    let was = c.args.driver.now in
    let kind = get_or c.args.kinds.now n Ring in
    let rings = c.loop-kind.driver.desk.line_rings ++ c.in_ok-listener.listener.subscription.ring ∷ [] in
    let more : DriverView → DriverView = λ v. record v { desk = record v.desk { kinds = v.desk.kinds ++ kind ∷ []; line_rings = rings }; announced = v.announced ++ [] ∷ []; free_lines = v.free_lines ++ 256 ∷ []; announced_back = v.announced_back ++ 0 ∷ [] } in
    let many : length c.loop-kind.driver.desk.kinds ≡ n = ap (λ (d : DriverView). length d.desk.kinds) i.same ∙ length-take-le n c.args.kinds.now (omega arith) in
    let now = sym (ap (λ (d : DriverView). d.desk.line_rings) e.same) in
    let kinds = sym (take_more c.args.kinds.now n Ring lt) in
    record {
      same = e.same ∙ ap more i.same
          ∙ (λ j. record was { desk = record was.desk { kinds = kinds j; line_rings = now j }; announced = replicate_more n [] j; free_lines = replicate_more n 256 j; announced_back = replicate_more n 0 j });
      line_rings = ap (λ (d : DriverView). length d.desk.line_rings) e.same ∙ length_push c.loop-kind.driver.desk.line_rings c.in_ok-listener.listener.subscription.ring ∙ ap (λ n. n + 1) i.line_rings;
      length = ap (length {A = ListenerView}) c.in_ok-push.ensures.items ∙ length_push c.loop-kind.all.items c.in_ok-listener.listener ∙ ap (λ n. n + 1) i.length;
      new_listeners = subst (λ (l : List ListenerView). AreNewListeners c.add_listener.new.self.desk l) (sym c.in_ok-push.ensures.items)
          (new_listeners_more c.loop-kind.driver.desk _ _ _ _ i.new_listeners (ap (λ (d : DriverView). d.desk) e.same) (many ∙ sym i.length) (i.line_rings ∙ sym i.length) (e.listener.0 ∙ many ∙ sym i.length) e.listener.2 e.listener.3 e.listener.4);
    }
