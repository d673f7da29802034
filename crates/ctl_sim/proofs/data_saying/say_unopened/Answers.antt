-- The file is named.
use Rattle.std.specs.Prelude.{◌≡◌, List, ℕ, IfSome}
use Rattle.std.specs.Fmt.{debug_str}
use Rattle.std.proofs.Common.{subst, sym}
use Rattle.ctl_sim.proofs.DataEnding.{names_file}
use Rattle.ctl_sim.proofs.data_saying.say_unopened.Goals as goal

pub returns-in-Ok-behind_path-clause-said : goal.returns-in-Ok-behind_path-clause-said
returns-in-Ok-behind_path-clause-said g c =
    names_file c.args.fault _ _ c.args.path.now c.as_str.result.now c.as_str-in-Ok-behind_path.result.now c.in-Ok-behind_path.ensures
    (subst (λ (q : List ℕ). IfSome (debug_str c.args.path.now) (λ text. q ≡ text)) (sym c.as_str.ensures.value) c.in-Ok.ensures) c.say_line.ensures
