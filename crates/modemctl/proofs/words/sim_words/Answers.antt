use Rattle.std.proofs.Common.{◌≡◌, ◌⊎◌, List, Option, ℕ, inl, inr, refl, subst, is_some, codes}
use Rattle.clap.specs.Words.{Text, first_value, found_of}
use Rattle.clap.specs.declared.ArgMatches.{ArgMatches}
use Rattle.ctl_sim.specs.Leaving.{SaysBad}
use Rattle.ctl_sim.specs.declared.serving.SimOptions.{SimOptions}
use Rattle.modemctl.specs.Benches.{AreMatched}
use Rattle.modemctl.specs.Sims.{FailsClient, HasBadMatched, HasNoCapture, IsNotBegun, LeavesWith, SimFiles, files_matched}
use Rattle.modemctl.proofs.words.sim_words.Goals as goal

left_by : {I O F : Type 0} (texts : Text → Option (List ℕ)) (n1 : ℕ) (m : ArgMatches) (options : SimOptions) (files : SimFiles) (input rest before after told_after : Option (List ℕ)) (contents : F → Option (List ℕ)) (was is : I) (old new : O) (start told : F)
    → told ≡ start → AreMatched texts n1 m options
    → (is ≡ was) × (new ≡ old) × HasNoCapture files.capture (contents told) told_after
    ⊎ FailsClient (is_some (first_value (found_of m) (codes "capture"))) options input rest before after (contents told) told_after
    → IsNotBegun files was is old new (contents start) told_after ⊎ LeavesWith texts n1 m input rest before after (contents start) told_after
left_by texts n1 m options files input rest before after told_after contents was is old new start told same matched (inl none) =
    inl (record { unread = none.0; nothing = none.1; said = inr (inr (inr (subst (λ (f : _). HasNoCapture files.capture (contents f) told_after) same none.2))) })
left_by texts n1 m options files input rest before after told_after contents was is old new start told same matched (inr fails) =
    inr (record { options = options; matched = matched; fails = subst (λ (f : _). FailsClient (is_some (first_value (found_of m) (codes "capture"))) options input rest before after (contents f) told_after) same fails })

pub returns-in-Ok-clause-served : goal.returns-in-Ok-clause-served
returns-in-Ok-clause-served g c zero = record {
  options = c.in-Ok.options;
  matched = c.in-Ok.ensures.matched;
  served = c.sim_with.ensures.served zero;
  captured = c.sim_with.ensures.captured zero;
}

pub returns-in-Ok-clause-left : goal.returns-in-Ok-clause-left
returns-in-Ok-clause-left g c one =
    left_by (g.R.TextFiles.text_of c.args.rt.now) c.args.n1 c.args.matches.now c.in-Ok.options (files_matched c.args.matches.now) _ _ _ _ _ g.E.Write.contents _ _ _ _ _ _ c.in-Ok.ensures.silent c.in-Ok.ensures.matched
    (c.sim_with.ensures.left one)

pub returns-in-Err-clause-left : goal.returns-in-Err-clause-left
returns-in-Err-clause-left g c one = inl (record { unread = refl; nothing = refl; said = c.in-Err.ensures.left one })

bad_by : {F : Type 0} (texts : Text → Option (List ℕ)) (n1 : ℕ) (m : ArgMatches) (options : SimOptions) (contents : F → Option (List ℕ)) (start told : F) (told_after : Option (List ℕ)) → told ≡ start → AreMatched texts n1 m options → SaysBad options (contents told) told_after
    → HasBadMatched texts n1 m (contents start) told_after
bad_by texts n1 m options contents start told told_after same matched says = record { options = options; matched = matched; says = subst (λ (f : _). SaysBad options (contents f) told_after) same says }

pub returns-in-Ok-clause-told : goal.returns-in-Ok-clause-told
returns-in-Ok-clause-told g c two =
    inr (bad_by (g.R.TextFiles.text_of c.args.rt.now) c.args.n1 c.args.matches.now c.in-Ok.options g.E.Write.contents _ _ _ c.in-Ok.ensures.silent c.in-Ok.ensures.matched (c.sim_with.ensures.told two))

pub returns-in-Err-clause-told : goal.returns-in-Err-clause-told
returns-in-Err-clause-told g c two = inl (c.in-Err.ensures.told two)
