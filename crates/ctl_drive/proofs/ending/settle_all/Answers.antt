-- The caller is handed in.
use Rattle.std.specs.Prelude.{◌≡◌, List, [], ◌∷◌, ◌++◌, map}
use Rattle.std.proofs.Common.{ap, sym, subst, ◌∙◌}
use Rattle.std.proofs.lemmas.Result.{IfOk-at_ok}
use Rattle.std.specs.declared.vec.Vec.{Vec}
use Rattle.std.specs.declared.alloc.Global.{Global}
use Rattle.modem_desk.specs.Ends.{AreSubscribed, CallerView, DriverView, IsWhole, place_of, subscription_of}
use Rattle.ctl_drive.specs.declared.users.Users.{Users}
use Rattle.ctl_drive.proofs.ending.settle_all.Goals as goal

pub settle-requires-clause-callers : goal.settle-requires-clause-callers
settle-requires-clause-callers g c =
    let kept = c.in_ok-callers.ensures.kept in
    let driver : c.in_ok-callers.driver ≡ c.args.driver = ap (λ (p : DriverView × Users). p.0) kept in
    let users : c.in_ok-callers.users ≡ c.args.users = ap (λ (p : DriverView × Users). p.1) kept in
    let none : c.in_ok-callers.callers.items ≡ [] = IfOk-at_ok (λ (v : Vec CallerView Global). v.items ≡ []) c.in_ok-callers.ensures.made c.with_capacity.ensures.items in
    let callers : c.push_reserved.new.self.items ≡ c.args.users.caller ∷ [] =
    c.push_reserved.ensures.items ∙ ap (λ (l : List CallerView). l ++ c.in_ok-callers.users.caller ∷ []) none ∙ ap (λ (u : Users). u.caller ∷ []) users in
    subst (λ (x : DriverView × List CallerView). IsWhole x.0.desk (map place_of x.1)) (λ i. (sym driver i, sym callers i)) c.requires.whole

pub settle-requires-clause-listeners : goal.settle-requires-clause-listeners
settle-requires-clause-listeners g c =
    let kept = c.in_ok-callers.ensures.kept in
    subst (λ (x : DriverView × Users). AreSubscribed x.0.desk (map subscription_of x.1.listeners.items)) (sym kept) c.requires.subscribed
