-- What was set is what is told later.
use Rattle.std.specs.Prelude.{◌≡◌, ℕ, zero, suc, ◌==◌, Bool, true, false, List, [], ◌∷◌, map, find, cond, Option, Some, None, option_map, Ok, refl, if◌then◌else◌}
use Rattle.std.specs.Fmt.{digits}
use Rattle.std.proofs.Common.{arith, sym, ap, ◌∙◌, subst}
use Rattle.std.proofs.lemmas.Bool.Decides.{nat_tests}
use Rattle.at_text.specs.declared.answer.AnswerLine.{AnswerLine}
use Rattle.at_cmds.specs.declared.command.Command.{Command}
use Rattle.at_cmds.specs.declared.command.Command.TheVariants.{RegReport, RegQuery, OperQuery, OperChoose, ContextSet, ContextQuery, AttachSet, AttachQuery, ErrorMode, Multiplex}
use Rattle.at_cmds.specs.declared.command.OperChoice.{OperChoice}
use Rattle.at_cmds.specs.declared.command.OperChoice.TheVariants.{Automatic, Deregister, Manual}
use Rattle.at_cmds.specs.declared.error.CmdError.TheVariants.{BadNumber}
use Rattle.at_cmds.specs.declared.reply.Context.{Context}
use Rattle.at_cmds.specs.declared.reply.Reply.TheVariants.{Attached}
use Rattle.at_cmds.specs.Commands.{pdp_text}
use Rattle.at_cmds.specs.Forms.{is_mode}
use Rattle.modem_sim.specs.declared.contexts.PdpContext.{PdpContext}
use Rattle.modem_sim.specs.declared.modem.ModemStart.{ModemStart}
use Rattle.modem_sim.specs.declared.state.Lock.TheVariants.{Ready}
use Rattle.modem_sim.specs.declared.state.ModemState.{ModemState}
use Rattle.modem_sim.specs.Steps.{after_command, attach_error, context_made, error_text, is_registered, lock_error, refusal_of}
use Rattle.modem_sim.specs.Meanings.{meant_unless, oper_reply, told_context}
use Rattle.modem_sim.specs.Laws.{IsStart, context_of}
use Rattle.modem_sim.specs.SettingLaws.{KeepsAttached, KeepsContext, KeepsErrors, KeepsOper, KeepsReports, TellsContext, TellsOper, TellsReports, refused_as, sets_attached, sets_context, sets_errors, sets_oper, sets_reports}
use Rattle.modem_sim.proofs.law_proofs.ContextOrder.{sets_one}
use Rattle.modem_sim.proofs.law_proofs.StateRuns.{command_step, no_error, set_ready, set_so, set_tells, was_set}
use Rattle.modem_sim.proofs.modem_steps.StandardModems.{no_words}

carried_reports : (s : ModemState) (c : Command) → sets_reports c ≡ false → (after_command s c).reports ≡ s.reports
carried_reports s (RegReport n) other = cc
carried_reports s (OperChoose Automatic) other = refl
carried_reports s (OperChoose Deregister) other = refl
carried_reports s (OperChoose (Manual oper)) other = refl
carried_reports s c other = refl

-- how registration is reported, once set, is told until it is set again
pub keeps_reports : (start : ModemStart) → IsStart start → KeepsReports start
keeps_reports start is n s set =
    let w = was_set start (RegReport n) sets_reports s is set in
    set_tells start (RegReport n) sets_reports s RegQuery (TellsReports n) is w
    (set_so start (RegReport n) sets_reports s (λ t. t.reports) w (λ t l. refl) carried_reports)

carried_errors : (s : ModemState) (c : Command) → sets_errors c ≡ false → (after_command s c).errors ≡ s.errors
carried_errors s (OperChoose Automatic) other = refl
carried_errors s (OperChoose Deregister) other = refl
carried_errors s (OperChoose (Manual oper)) other = refl
carried_errors s (ErrorMode n) other = cc
carried_errors s c other = refl

may_be : (n : ℕ) (b : Bool) → is_mode n ≡ b → (if b then None else Some BadNumber) ≡ None → is_mode n ≡ true
may_be n true is may = is
may_be n false is may = cc

error_as : (n : ℕ) → is_mode n ≡ true → error_text n 3 ≡ refused_as n
unfolding digits
error_as zero is = refl
error_as (suc zero) is = refl
error_as (suc (suc zero)) is = refl
error_as (suc (suc (suc n))) is = absurd (grind (arith, nat_tests))

-- how errors are told, once set, stays until it is set again
pub keeps_errors : (start : ModemStart) → IsStart start → KeepsErrors start
keeps_errors start is n s set line text =
    let w = was_set start (ErrorMode n) sets_errors s is set in
    let same = set_so start (ErrorMode n) sets_errors s (λ t. t.errors) w (λ t l. refl) carried_errors in
    ap (λ t. map (λ (l : AnswerLine). l.text) t.answer) (command_step s line Multiplex (ap (λ (t : ModemState). t.words) w.is_reached ∙ no_words start w.all) text)
    ∙ ap (λ m. error_text m 3 ∷ []) same
    ∙ ap (λ xs. xs ∷ []) (error_as n (may_be n (is_mode n) refl set.is_text.written))

carried_attached : (s : ModemState) (c : Command) → sets_attached c ≡ false → (after_command s c).attached ≡ s.attached
carried_attached s (OperChoose Automatic) other = refl
carried_attached s (OperChoose Deregister) other = cc
carried_attached s (OperChoose (Manual oper)) other = refl
carried_attached s (AttachSet on) other = cc
carried_attached s c other = refl

may_attach : (o : Option ℕ) (registered : Bool) → attach_error o registered ≡ None → o ≡ None
may_attach None registered is = refl
may_attach (Some number) registered is = cc

attach_ready : (s : ModemState) (on : Bool) → (if on then attach_error (lock_error s.lock) (is_registered s.lock s.oper) else lock_error s.lock) ≡ None → s.lock ≡ Ready
attach_ready s true none = no_error s.lock (may_attach (lock_error s.lock) (is_registered s.lock s.oper) none)
attach_ready s false none = no_error s.lock none

-- attachment, once set, is told until it is set again
pub keeps_attached : (start : ModemStart) → IsStart start → KeepsAttached start
keeps_attached start is on s set =
    let w = was_set start (AttachSet on) sets_attached s is set in
    let same = set_so start (AttachSet on) sets_attached s (λ t. t.attached) w (λ t l. refl) carried_attached in
    let ready = set_ready start (AttachSet on) sets_attached s w (by_on w.mid on w.carried) in
    set_tells start (AttachSet on) sets_attached s AttachQuery (λ r. r ≡ Ok (Attached on)) is w
    (ap (λ l. meant_unless (lock_error l) s AttachQuery) ready ∙ ap (λ b. Ok (Attached b)) same)
  where
    by_on : (mid : ModemState) (on : Bool) → refusal_of mid (AttachSet on) ≡ None → mid.lock ≡ Ready
    by_on mid true none = attach_ready mid true none
    by_on mid false none = attach_ready mid false none

carried_context : (cid : ℕ) (s : ModemState) (c : Command) → sets_context cid c ≡ false → context_of cid (after_command s c).contexts ≡ context_of cid s.contexts
carried_context cid s (OperChoose Automatic) other = refl
carried_context cid s (OperChoose Deregister) other = refl
carried_context cid s (OperChoose (Manual oper)) other = refl
carried_context cid s (ContextSet n pdp apn) other = sets_one (context_made n pdp apn) s.contexts cid ∙ ap (λ (b : Bool). if b then Some (context_made n pdp apn) else context_of cid s.contexts) other
carried_context cid s c other = refl

found_told_at : (n : ℕ) (c : PdpContext) (rest : Option PdpContext) (told : Option Context) (b : Bool) → told ≡ option_map told_context rest → cond b (Some (told_context c)) told ≡ option_map told_context (cond b (Some c) rest)
found_told_at n c rest told true same = refl
found_told_at n c rest told false same = same

found_told : (n : ℕ) (cs : List PdpContext) → find (λ (x : Context). x.cid == n) (map told_context cs) ≡ option_map told_context (context_of n cs)
found_told n [] = refl
found_told n (c ∷ cs) = found_told_at n c (context_of n cs) (find (λ (x : Context). x.cid == n) (map told_context cs)) (c.cid == n) (found_told n cs)

-- a context, once set, is told until its number is set again
pub keeps_context : (start : ModemStart) → IsStart start → KeepsContext start
keeps_context start is cid pdp apn s set =
    let c = ContextSet cid pdp apn in
    let new = context_made cid pdp apn in
    let w = was_set start c (sets_context cid) s is set in
    let here : (cid == cid) ≡ true = grind (arith, nat_tests) in
    let same : context_of cid s.contexts ≡ Some new =
    set_so start c (sets_context cid) s (λ t. context_of cid t.contexts) w (λ t l. refl) (carried_context cid)
    ∙ sets_one new w.mid.contexts cid ∙ ap (λ (b : Bool). if b then Some new else context_of cid w.mid.contexts) here in
    let ready = set_ready start c (sets_context cid) s w (no_error w.mid.lock w.carried) in
    let told = found_told cid s.contexts ∙ ap (option_map told_context) same in
    let Holds = TellsContext (record { cid = cid; pdp = pdp_text pdp; apn = apn }) in
    set_tells start c (sets_context cid) s ContextQuery Holds is w
    (subst Holds (sym (ap (λ l. meant_unless (lock_error l) s ContextQuery) ready)) told)

carried_oper : (s : ModemState) (c : Command) → sets_oper c ≡ false → (after_command s c).oper ≡ s.oper
carried_oper s (OperChoose choice) other = cc
carried_oper s c other = refl

oper_chosen : (s : ModemState) (choice : OperChoice) → (after_command s (OperChoose choice)).oper ≡ choice
oper_chosen s Automatic = refl
oper_chosen s Deregister = refl
oper_chosen s (Manual oper) = refl

lock_chosen : (s : ModemState) (choice : OperChoice) → (after_command s (OperChoose choice)).lock ≡ s.lock
lock_chosen s Automatic = refl
lock_chosen s Deregister = refl
lock_chosen s (Manual oper) = refl

told_oper : (choice : OperChoice) → TellsOper choice (Ok (oper_reply choice))
told_oper Automatic = refl
told_oper Deregister = (refl, refl)
told_oper (Manual oper) = (refl, (refl, refl))

-- the choice of an operator, once made, is told until it is made again
pub keeps_oper : (start : ModemStart) → IsStart start → KeepsOper start
keeps_oper start is choice s set =
    let c = OperChoose choice in
    let w = was_set start c sets_oper s is set in
    let same = set_so start c sets_oper s (λ t. t.oper) w (λ t l. refl) carried_oper ∙ oper_chosen w.mid choice in
    let ready = set_ready start c sets_oper s w (lock_chosen w.mid choice ∙ no_error w.mid.lock w.carried) in
    let Holds = TellsOper choice in
    set_tells start c sets_oper s OperQuery Holds is w
    (subst Holds (sym (ap (λ l. meant_unless (lock_error l) s OperQuery) ready ∙ ap (λ o. Ok (oper_reply o)) same)) (told_oper choice))
