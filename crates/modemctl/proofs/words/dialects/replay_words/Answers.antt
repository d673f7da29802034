-- A replay by the dialect of the words.
use Rattle.std.proofs.Common.{◌≡◌, ℕ, Bool, List, Option, ap, arith, inl, inr, subst}
use Rattle.clap.specs.Words.{Text}
use Rattle.ctl_run.specs.LineFaults.{EventFault}
use Rattle.ctl_run.specs.Script.{IsNoOrder}
use Rattle.ctl_run.specs.Stopping.{HasGivenUp, IsRunStop}
use Rattle.modemctl.specs.Dialects.{PrintsActs}
use Rattle.modemctl.specs.Files.{NamesCause}
use Rattle.modemctl.specs.Refusals.{StopsBadly}
use Rattle.modemctl.proofs.FileFaults.{names_cause}
use Rattle.modemctl.proofs.Refused.{no_text_two, stops_two}
use Rattle.modemctl.proofs.words.dialects.replay_words.Goals as goal

pub returns-in_default-clause-done : goal.returns-in_default-clause-done
returns-in_default-clause-done g c zero =
    subst (λ (t : Option Text). PrintsActs (g.R.TextFiles.text_of c.args.rt.now) t c.args.n1 (g.I.Read.remaining c.args.input.now) (g.W.Write.contents c.args.output.now) (g.W.Write.contents c.replay_run_explained.new.output)) c.in_default.ensures (c.replay_run_explained.ensures.done zero)

pub returns-in-Ok-clause-done : goal.returns-in-Ok-clause-done
returns-in-Ok-clause-done g c zero =
    subst (λ (t : Option Text). PrintsActs (g.R.TextFiles.text_of c.args.rt.now) t c.args.n1 (g.I.Read.remaining c.args.input.now) (g.W.Write.contents c.args.output.now) (g.W.Write.contents c.replay_with_dialect_run_explained.new.output)) c.in-Some.ensures
    (record { rules = c.in-Ok.dialect; named = c.in-Ok.ensures.named; printed = c.replay_with_dialect_run_explained.ensures.done zero })

pub returns-in-Err-clause-done : goal.returns-in-Err-clause-done
returns-in-Err-clause-done g c zero = let some = c.in-Err.ensures.bad.0 in absurd (omega (arith, some, zero))

names : {E O : Type 0} (explained : Bool) (contents : E → Option (List ℕ)) (path : Option Text) (old new : O) (start before after : E) (status : ℕ) → before ≡ start
    → HasGivenUp explained old new (contents before) (contents after) status → NamesCause explained path old new (contents start) (contents after) status
names explained contents path old new start before after status same gave = inl (subst (λ (e : _). HasGivenUp explained old new (contents e) (contents after) status) same gave)

pub returns-in_default-clause-nothing : goal.returns-in_default-clause-nothing
returns-in_default-clause-nothing g c one = inl (c.replay_run_explained.ensures.nothing one)

pub returns-in-Ok-clause-nothing : goal.returns-in-Ok-clause-nothing
returns-in-Ok-clause-nothing g c one =
    names c.args.explained g.E.Write.contents _ c.args.output.now c.replay_with_dialect_run_explained.new.output c.args.faults.now c.dialect_by.new.faults c.replay_with_dialect_run_explained.new.faults _ c.in-Ok.ensures.silent (c.replay_with_dialect_run_explained.ensures.nothing one)

pub returns-in-Err-clause-nothing : goal.returns-in-Err-clause-nothing
returns-in-Err-clause-nothing g c one =
    subst (λ (t : Option Text). NamesCause c.args.explained t c.args.output.now c.args.output.now (g.E.Write.contents c.args.faults.now) (g.E.Write.contents c.dialect_by.new.faults) c.in-Err.status) c.in-Some.ensures
    (names_cause c.args.explained _ c.args.output.now _ _ _ c.in-Err.ensures.refused)

pub returns-in_default-clause-refused : goal.returns-in_default-clause-refused
returns-in_default-clause-refused g c two = inr (stops_two _ _ _ _ _ _ _ _ _ _ c.replay_run_explained.ensures.stopped two)

pub returns-in-Ok-clause-refused : goal.returns-in-Ok-clause-refused
returns-in-Ok-clause-refused g c two =
    inr (subst (λ (o : Option (List ℕ)). StopsBadly c.args.explained (IsRunStop c.args.n1 IsNoOrder EventFault (g.I.Read.remaining c.args.input.now)) o (g.E.Write.contents c.replay_with_dialect_run_explained.new.faults)) (ap g.E.Write.contents c.in-Ok.ensures.silent)
    (stops_two _ _ _ _ _ _ _ _ _ _ c.replay_with_dialect_run_explained.ensures.stopped two))

pub returns-in-Err-clause-refused : goal.returns-in-Err-clause-refused
returns-in-Err-clause-refused g c two = inl (no_text_two _ _ _ _ _ _ _ c.in-Some.ensures two c.in-Err.ensures.refused)
