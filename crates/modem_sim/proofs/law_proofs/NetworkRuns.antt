-- A modem follows its network.
use Rattle.std.specs.Prelude.{◌≡◌, ℕ, ◌==◌, ◌&&◌, Bool, true, false, Option, Some, None, Ok, refl}
use Rattle.std.proofs.Common.{sym, ap, ◌∙◌}
use Rattle.at_cmds.specs.declared.command.Command.{Command}
use Rattle.at_cmds.specs.declared.command.Command.TheVariants.{PinQuery, PinEnter, RegQuery, OperQuery, OperChoose, AttachSet, AttachQuery}
use Rattle.at_cmds.specs.declared.command.OperChoice.{OperChoice}
use Rattle.at_cmds.specs.declared.command.OperChoice.TheVariants.{Automatic, Deregister, Manual}
use Rattle.at_cmds.specs.declared.reply.Reply.TheVariants.{Accepted, Attached}
use Rattle.modem_sim.specs.declared.modem.ModemStart.{ModemStart}
use Rattle.modem_sim.specs.declared.state.Lock.{Lock}
use Rattle.modem_sim.specs.declared.state.Lock.TheVariants.{Ready, NeedPin, NeedPuk}
use Rattle.modem_sim.specs.declared.state.ModemState.{ModemState}
use Rattle.modem_sim.specs.Steps.{after_wrong_pin, attach_error, is_on_network, is_registered, lock_error, obeyed_unless, refusal_of, started}
use Rattle.modem_sim.specs.Meanings.{meant, meant_unless, registration}
use Rattle.modem_sim.specs.Laws.{IsStart, reached}
use Rattle.modem_sim.specs.SettingLaws.{answered}
use Rattle.modem_sim.specs.PinLaws.{FollowsNetworkAlways, is_home, is_on, is_ready}
use Rattle.modem_sim.proofs.law_proofs.StateRuns.{answered_is, by_lines}

-- ## Registered

home_at : (n : ℕ) (registered two : Bool) → (n == 2) ≡ two → ((registration n registered).stat == 1) ≡ registered
home_at n false two is = refl
home_at n true true is = rw is refl
home_at n true false is = rw is refl

home_is : (s : ModemState) → is_home (meant s RegQuery) ≡ is_registered s.lock s.oper
home_is s = home_at s.reports (is_registered s.lock s.oper) (s.reports == 2) refl

network_is : (s : ModemState) (l : Lock) (o : OperChoice) → s.lock ≡ l → s.oper ≡ o → is_registered s.lock s.oper ≡ (is_ready (meant s PinQuery) && is_on (meant s OperQuery))
network_is s Ready Automatic lock oper = rw (lock, oper) refl
network_is s Ready (Manual number) lock oper = rw (lock, oper) refl
network_is s Ready Deregister lock oper = rw (lock, oper) refl
network_is s (NeedPin pin tries) o lock oper = rw lock refl
network_is s NeedPuk o lock oper = rw lock refl

attaches_at : (s : ModemState) (l : Lock) (o : OperChoice) → s.lock ≡ l → s.oper ≡ o → is_registered l o ≡ true → meant s (AttachSet true) ≡ Ok Accepted
attaches_at s Ready o lock oper registered = rw (lock, oper, registered) refl
attaches_at s (NeedPin pin tries) o lock oper registered = cc
attaches_at s NeedPuk o lock oper registered = cc

-- ## Attached

abbrev IsAtHome : ModemState → Type 0
IsAtHome s = s.attached ≡ true → is_registered s.lock s.oper ≡ true

ready_there : (l : Lock) (o : OperChoice) → is_registered l o ≡ true → l ≡ Ready
ready_there Ready o is = refl
ready_there (NeedPin pin tries) o is = cc
ready_there NeedPuk o is = cc

at_home : (l m : Lock) (o p : OperChoice) → is_registered l o ≡ true → (l ≡ Ready → m ≡ Ready) → (is_on_network o ≡ true → is_on_network p ≡ true) → is_registered m p ≡ true
at_home Ready m o p is stays chosen = ap (λ x. is_registered x p) (stays refl) ∙ chosen is
at_home (NeedPin pin tries) m o p is stays chosen = cc
at_home NeedPuk m o p is stays chosen = cc

may_attach : (l : Lock) (o : OperChoice) (registered : Bool) → is_registered l o ≡ registered → attach_error (lock_error l) registered ≡ None → is_registered l o ≡ true
may_attach l o true is none = is
may_attach Ready o false is none = cc
may_attach (NeedPin pin tries) o false is none = cc
may_attach NeedPuk o false is none = cc

obeyed_at_home : (o : Option ℕ) (s : ModemState) (c : Command) → o ≡ refusal_of s c → IsAtHome s → IsAtHome (obeyed_unless o s c).state
obeyed_at_home (Some number) s (PinEnter pin) is home = λ there. at_home s.lock (after_wrong_pin s.lock) s.oper s.oper (home there) (λ ready. ap after_wrong_pin ready) (λ on. on)
obeyed_at_home (Some number) s c is home = home
obeyed_at_home None s (PinEnter pin) is home = λ there. at_home s.lock Ready s.oper s.oper (home there) (λ ready. refl) (λ on. on)
obeyed_at_home None s (OperChoose Automatic) is home = λ there. at_home s.lock s.lock s.oper Automatic (home there) (λ ready. ready) (λ on. refl)
obeyed_at_home None s (OperChoose (Manual oper)) is home = λ there. at_home s.lock s.lock s.oper (Manual oper) (home there) (λ ready. ready) (λ on. refl)
obeyed_at_home None s (OperChoose Deregister) is home = λ there. cc
obeyed_at_home None s (AttachSet true) is home = λ there. may_attach s.lock s.oper (is_registered s.lock s.oper) refl (sym is)
obeyed_at_home None s (AttachSet false) is home = λ there. cc
obeyed_at_home None s c is home = home

started_at_home : (start : ModemStart) → IsAtHome (started start)
started_at_home start there = cc

told_attached : (o : Option ℕ) (s : ModemState) → meant_unless o s AttachQuery ≡ Ok (Attached true) → s.attached ≡ true
told_attached None s is = cc
told_attached (Some number) s is = cc

-- after whatever lines, registration, PIN, operator and attachment go together
pub follows_network : (start : ModemStart) → IsStart start → FollowsNetworkAlways start
follows_network start is lines reg pin oper attached attach asks =
    let s = reached start lines in
    let home = ap is_home (answered_is start lines RegQuery reg is asks.reg_is) ∙ home_is s in
    record {
      registered = home ∙ network_is s s.lock s.oper refl refl
          ∙ sym (ap (λ r. is_ready r && is_on (meant s OperQuery)) (answered_is start lines PinQuery pin is asks.pin_is))
          ∙ sym (ap (λ r. is_ready (answered s PinQuery pin) && is_on r) (answered_is start lines OperQuery oper is asks.oper_is));
      attaches = λ there. answered_is start lines (AttachSet true) attach is asks.attach_is ∙ attaches_at s s.lock s.oper refl refl (sym home ∙ there);
      attached = λ there. home ∙ by_lines IsAtHome (λ t c at. obeyed_at_home (refusal_of t c) t c refl at) (started start) lines refl (started_at_home start)
          (told_attached (lock_error s.lock) s (sym (answered_is start lines AttachQuery attached is asks.attached_is) ∙ there));
    }
