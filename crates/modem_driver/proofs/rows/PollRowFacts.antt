-- A session whose line is lost is one, and what isn't a poll of it.
use Rattle.std.proofs.Common.{ap, sym, ◌∙◌, lit≤, lit<}
use Rattle.std.specs.Prelude.{◌≡◌, true, false, Bool, [], ◌∷◌, refl, Result, Ok, Err}
use Rattle.mux_station.specs.declared.role.Role.TheVariants.{Initiator}
use Rattle.mux_station.specs.Acts as station
use Rattle.mux_station.proofs.states.OpeningSteps.{is_open_after}
use Rattle.modem_desk.specs.Ends.{DeskId}
use Rattle.mux_frame.proofs.deframers.DeframerPasts.{past_none}
use Rattle.modem_history.specs.Acts.{Lost}
use Rattle.modem_history.specs.Lawful.{Lawful, Complete}
use Rattle.modem_history.specs.Sessions.{LineView}
use Rattle.modem_driver.proofs.sessions.steps.WaitedTicks.{delays_none}
use Rattle.modem_driver.specs.declared.session.ending.Ended.{Ended}
use Rattle.modem_driver.specs.declared.session.ending.Ended.TheVariants.{Stopped}
use Rattle.modem_driver.specs.declared.session.error.SessionFault.{SessionFault}
use Rattle.modem_driver.specs.declared.session.error.SessionFault.TheVariants as fault
use Rattle.modem_driver.specs.SessionStates.{beginning_of}
use Rattle.modem_driver.specs.PollLaws.{IsSession, LostFails, LostGivesFailed}
use Rattle.modem_driver.specs.PollRows.{AreNoPolls, IsLostSession, bare_desk, lost_session}
use Rattle.at_text.proofs.NoRules.{no_rules_standard}
use Rattle.serial_line.specs.LineViews.{unused_line}
use Rattle.modem_core.proofs.sessions.steps.Kinds.{in_listened, listened_in}
use Rattle.modem_driver.proofs.sessions.polls.PollLaws.{lost_fails, lost_gives_failed}
use Rattle.modem_history.specs.Rules.{call, nothing}

never : {P : Type 0} → false ≡ true → P
never e = cc

-- a session whose line is lost has the loss as its history
pub is_lost_session : IsLostSession
unfolding IsLostSession Lawful Complete
is_lost_session at = record {
  session = record {
    history = call [] Lost (nothing (lit≤ tt)) refl;
    loss = record { one = lit≤ tt; by_fault = λ gone. lit< tt };
    requests = record { taken_are = refl; once = refl; callers = refl; few = lit≤ tt };
    received = record { fed = []; received_are = refl; bound = refl; deframes = past_none 31 };
    sent = record { since = []; sent_are = refl; frames_are = refl; written = 0; of_last = refl };
    told = record { each = λ c. record { since = []; told_are = refl; outcomes_are = refl }; callers = refl };
    heard = record { each = λ i k at. record { since = []; announced_are = refl; lines_are = refl }; listened = refl; in_order = refl; nowhere_else = λ i far. refl };
  };
  inside = record {
    setting = record { role_is = refl; n1_is = refl; dialect_is = sym no_rules_standard; listens_are = λ kind. (listened_in [] kind, in_listened [] kind) };
    fits = record { hand_is = refl; lost_is = refl; runs = refl };
    holds = record { held_are = λ d small own asked. never (sym (is_open_after Initiator d [] station.Lost) ∙ asked) };
    kinds_are = refl;
    callers_are = refl;
    sound = λ e. never (sym e);
    by_fault = λ e. lit< tt;
    one_stop = lit≤ tt;
    delays_are = delays_none;
    come = refl;
  };
}

is_one : (at : DeskId) → IsSession (λ (l : LineView). l) (lost_session at)
unfolding IsLostSession
is_one at = record { b = beginning_of 31 unused_line (bare_desk at); past = Lost ∷ []; fits = is_lost_session at }

abbrev ran_well : Result Bool SessionFault → Bool
ran_well (Ok _) = true
ran_well (Err _) = false

abbrev gave_other : Result Ended SessionFault → Bool
gave_other (Err fault.Failed) = false
gave_other _ = true

-- neither doing nothing nor keeping the loss back is a poll of it, nor does it give Stopped or Line
pub no_polls : AreNoPolls
unfolding AreNoPolls LostFails LostGivesFailed
no_polls at = (
  (λ more runs. never (sym (ap ran_well (lost_fails (λ (l : LineView). l) (lost_session at) (lost_session at) (Ok more) (is_one at) refl runs)))),
  (
    (λ new more runs. never (sym (ap ran_well (lost_fails (λ (l : LineView). l) (lost_session at) new (Ok more) (is_one at) refl runs)))),
    (
      (λ g. never (sym (ap gave_other (lost_gives_failed (λ (l : LineView). l) (lost_session at) (Ok Stopped) (is_one at) refl refl g)))),
      (λ g. never (sym (ap gave_other (lost_gives_failed (λ (l : LineView). l) (lost_session at) (Err fault.Line) (is_one at) refl refl g)))),
    ),
  ),
)
