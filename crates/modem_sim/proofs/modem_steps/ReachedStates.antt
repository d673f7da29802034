-- What every state that a modem reaches has.
use Rattle.std.specs.Prelude.{◌≡◌, ℕ, ◌<◌, ◌≤◌, ◌==◌, nat_lt, Bool, true, false, List, [], ◌∷◌, Option, Some, None, refl, if◌then◌else◌}
use Rattle.std.specs.List.{list_any}
use Rattle.std.proofs.Common.{arith, subst, sym}
use Rattle.std.proofs.lemmas.Bool.Decides.{nat_tests}
use Rattle.at_text.specs.Octets.{is_digit, is_quote}
use Rattle.at_cmds.specs.declared.command.Command.{Command}
use Rattle.at_cmds.specs.declared.command.Command.TheVariants.{PinEnter, RegReport, OperChoose, ContextSet, AttachSet, ErrorMode}
use Rattle.at_cmds.specs.declared.command.OperChoice.{OperChoice}
use Rattle.at_cmds.specs.declared.command.OperChoice.TheVariants.{Automatic, Deregister, Manual}
use Rattle.at_cmds.specs.declared.error.CmdError.TheVariants.{BadNumber}
use Rattle.at_cmds.specs.Forms.{is_oper, is_apn, is_in_apn, is_cid, is_mode}
use Rattle.at_cmds.specs.Commands.{refused_for}
use Rattle.at_cmds.proofs.command_texts.CommandLines.{run_is, cid_small}
use Rattle.at_cmds.proofs.command_texts.TextTable.{not_refused, none_quoted, digit_not_quote, apn_not_quote, context_may-at}
use Rattle.modem_sim.specs.declared.contexts.PdpContext.{PdpContext}
use Rattle.modem_sim.specs.declared.modem.ModemStart.{ModemStart}
use Rattle.modem_sim.specs.declared.state.ModemState.{ModemState}
use Rattle.modem_sim.specs.Contexts.{with_context}
use Rattle.at_cmds.specs.Values.{command_of}
use Rattle.modem_sim.specs.Reading.{is_attention}
use Rattle.modem_sim.specs.Steps.{Step, standard_step, started, step_by, refusal_of, obeyed_unless, after_refusal, after_command}
use Rattle.modem_sim.specs.LineSteps.{step}
use Rattle.modem_sim.specs.Laws.{IsStart, after_lines, reached}
use Rattle.at_cmds.proofs.command_texts.ReadCommands.{command_reads}
use Rattle.modem_sim.proofs.modem_steps.StandardModems.{step_standard}

-- a number stands for itself, a name is one and holds no quote
pub record IsContextKept (c : PdpContext) : Type 0 where
  pub cid : c.cid < 256
  pub apn : list_any is_quote c.apn ≡ false
  pub name : is_apn c.apn ≡ true

-- so it is of each context
abbrev pub AreContextsKept : List PdpContext → Type 0
AreContextsKept [] = Unit {0}
AreContextsKept (c ∷ contexts) = IsContextKept c × AreContextsKept contexts

-- an operator chosen by hand is one, and holds no quote
abbrev pub IsOperKept : OperChoice → Type 0
IsOperKept Automatic = Unit {0}
IsOperKept Deregister = Unit {0}
IsOperKept (Manual oper) = (list_any is_quote oper ≡ false) × (is_oper oper ≡ true)

pub record IsKept (s : ModemState) : Type 0 where
  pub reports : s.reports < 256
  pub oper : IsOperKept s.oper
  pub contexts : AreContextsKept s.contexts
  pub rssi : s.rssi < 256
  pub ber : s.ber < 256
  pub words : s.words ≡ None

started_kept : (start : ModemStart) → IsStart start → IsKept (started start)
started_kept start is = record { reports = omega arith; oper = tt; contexts = tt; rssi = is.rssi; ber = is.ber; words = refl }

new_kept : (new : PdpContext) → is_cid new.cid ≡ true → is_apn new.apn ≡ true → IsContextKept new
new_kept new number name =
    let small = cid_small new.cid number in
    record { cid = omega arith; apn = none_quoted is_in_apn apn_not_quote new.apn (run_is is_in_apn 1 63 new.apn name).all; name = name }

with_kept_at : (new c : PdpContext) (contexts rest : List PdpContext) (below same : Bool) → IsContextKept new → IsContextKept c → AreContextsKept contexts → AreContextsKept rest → AreContextsKept (if below then c ∷ rest else if same then new ∷ contexts else new ∷ c ∷ contexts)
with_kept_at new c contexts rest true same n k ks rs = (k, rs)
with_kept_at new c contexts rest false true n k ks rs = (n, ks)
with_kept_at new c contexts rest false false n k ks rs = (n, (k, ks))

with_kept : (new : PdpContext) (contexts : List PdpContext) → IsContextKept new → AreContextsKept contexts → AreContextsKept (with_context new contexts)
with_kept new [] n ks = (n, tt)
with_kept new (c ∷ contexts) n ks = with_kept_at new c contexts (with_context new contexts) (nat_lt c.cid new.cid) (c.cid == new.cid) n ks.0 ks.1 (with_kept new contexts n ks.1)

mode_small : (n : ℕ) → is_mode n ≡ true → n < 256
mode_small n is = let small : n ≤ 2 = grind (arith, nat_tests) in omega arith

after_kept : (s : ModemState) (c : Command) → IsKept s → refused_for c ≡ None → IsKept (after_command s c)
after_kept s (PinEnter pin) kept may = record { reports = kept.reports; oper = kept.oper; contexts = kept.contexts; rssi = kept.rssi; ber = kept.ber; words = kept.words }
after_kept s (RegReport n) kept may = record { reports = mode_small n (not_refused (is_mode n) BadNumber may); oper = kept.oper; contexts = kept.contexts; rssi = kept.rssi; ber = kept.ber; words = kept.words }
after_kept s (OperChoose Automatic) kept may = record { reports = kept.reports; oper = tt; contexts = kept.contexts; rssi = kept.rssi; ber = kept.ber; words = kept.words }
after_kept s (OperChoose Deregister) kept may = record { reports = kept.reports; oper = tt; contexts = kept.contexts; rssi = kept.rssi; ber = kept.ber; words = kept.words }
after_kept s (OperChoose (Manual oper)) kept may =
    let number = not_refused (is_oper oper) BadNumber may in
    let run = run_is is_digit 5 6 oper number in
    record { reports = kept.reports; oper = (none_quoted is_digit digit_not_quote oper run.all, number); contexts = kept.contexts; rssi = kept.rssi; ber = kept.ber; words = kept.words }
after_kept s (ContextSet cid pdp apn) kept may =
    let tests = context_may-at (is_cid cid) (is_apn apn) may in
    let new : PdpContext = record { cid = cid; pdp = pdp; apn = apn } in
    record { reports = kept.reports; oper = kept.oper; contexts = with_kept new s.contexts (new_kept new tests.0 tests.1) kept.contexts; rssi = kept.rssi; ber = kept.ber; words = kept.words }
after_kept s (AttachSet on) kept may = record { reports = kept.reports; oper = kept.oper; contexts = kept.contexts; rssi = kept.rssi; ber = kept.ber; words = kept.words }
after_kept s (ErrorMode n) kept may = record { reports = kept.reports; oper = kept.oper; contexts = kept.contexts; rssi = kept.rssi; ber = kept.ber; words = kept.words }
after_kept s c kept may = kept

refused_kept : (s : ModemState) (c : Command) → IsKept s → IsKept (after_refusal s c)
refused_kept s (PinEnter pin) kept = record { reports = kept.reports; oper = kept.oper; contexts = kept.contexts; rssi = kept.rssi; ber = kept.ber; words = kept.words }
refused_kept s c kept = kept

obeyed_kept : (o : Option ℕ) (s : ModemState) (c : Command) → IsKept s → refused_for c ≡ None → IsKept (obeyed_unless o s c).state
obeyed_kept None s c kept may = after_kept s c kept may
obeyed_kept (Some number) s c kept may = refused_kept s c kept

-- the command of a line may be written
command_written : (line : List ℕ) (o : Option Command) → command_of line ≡ o → (s : ModemState) → IsKept s → IsKept (step_by s o).state
command_written line None is s kept = kept
command_written line (Some c) is s kept =
    let reads = rw is at (command_reads line) in
    obeyed_kept (refusal_of s c) s c kept reads.is.written

step_kept_at : (s : ModemState) (line : List ℕ) (at : Bool) → IsKept s → is_attention line ≡ at → IsKept (standard_step s line).state
step_kept_at s line true kept is = rw is kept
step_kept_at s line false kept is = rw is (command_written line (command_of line) refl s kept)

step_kept : (s : ModemState) (line : List ℕ) → IsKept s → IsKept (step s line).state
step_kept s line kept = subst (λ (t : Step). IsKept t.state) (sym (step_standard s line kept.words)) (step_kept_at s line (is_attention line) kept refl)

lines_kept : (s : ModemState) (lines : List (List ℕ)) → IsKept s → IsKept (after_lines s lines)
lines_kept s [] kept = kept
lines_kept s (line ∷ lines) kept = lines_kept (step s line).state lines (step_kept s line kept)

-- so it is of each state that a modem reaches from such a start
pub reached_kept : (start : ModemStart) (lines : List (List ℕ)) → IsStart start → IsKept (reached start lines)
reached_kept start lines is = lines_kept (started start) lines (started_kept start is)
