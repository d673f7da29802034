-- The options of a modem for a client.
use Rattle.std.proofs.Common.{◌≡◌, List, Option, ℕ, ap, codes, inl, inr, refl, subst, true}
use Rattle.clap.specs.Words.{Text}
use Rattle.modemctl.specs.Files.{IsNoText}
use Rattle.modemctl.specs.Sims.{SaysBadAnswer, SaysNotBegun, SimFiles, files_matched}
use Rattle.modemctl.proofs.words.sims.sim_options_of.Goals as goal

pub returns-clause-matched : goal.returns-clause-matched
returns-clause-matched g c = record { n1_is = refl; pin_is = c.in-Ok.ensures; echo_is = c.echo_of.ensures; steps_are = c.in-Ok-steps_of.ensures.given; answers_are = c.in-Ok-answers_of.ensures.given }

no_script : (files : SimFiles) (before after : Option (List ℕ)) (status : ℕ) → status ≡ 1 → (status ≡ 1 → IsNoText true (codes "script") files.script before after status) → SaysNotBegun files before after
no_script files before after status one said = inr (inl (subst (λ (n : ℕ). IsNoText true (codes "script") files.script before after n) one (said one)))

pub returns-in-Err-clause-left : goal.returns-in-Err-clause-left
returns-in-Err-clause-left g c one = no_script (files_matched c.args.matches.now) _ _ _ one c.in-Err.ensures.refused

no_answers : (files : SimFiles) (start before after : Option (List ℕ)) (status : ℕ) → before ≡ start → status ≡ 1 → (status ≡ 1 → IsNoText true (codes "answers") files.answers before after status) → SaysNotBegun files start after
no_answers files start before after status same one said =
    inr (inr (inl (subst (λ (b : Option (List ℕ)). IsNoText true (codes "answers") files.answers b after 1) same (subst (λ (n : ℕ). IsNoText true (codes "answers") files.answers before after n) one (said one)))))

pub returns-in-Err-answers_of-clause-left : goal.returns-in-Err-answers_of-clause-left
returns-in-Err-answers_of-clause-left g c one = no_answers (files_matched c.args.matches.now) _ _ _ _ (ap g.E.Write.contents c.in-Ok-steps_of.ensures.silent) one c.in-Err-answers_of.ensures.refused

bad_answer : (texts : Text → Option (List ℕ)) (path : Option Text) (start before after : Option (List ℕ)) → before ≡ start → SaysBadAnswer texts path before after → SaysBadAnswer texts path start after
bad_answer texts path start before after same says = subst (λ (b : Option (List ℕ)). SaysBadAnswer texts path b after) same says

pub returns-in-Err-answers_of-clause-told : goal.returns-in-Err-answers_of-clause-told
returns-in-Err-answers_of-clause-told g c two = inr (bad_answer (g.R.TextFiles.text_of c.args.rt.now) _ _ _ _ (ap g.E.Write.contents c.in-Ok-steps_of.ensures.silent) (c.in-Err-answers_of.ensures.told two))
