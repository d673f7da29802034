-- A drive, from its line to its end.
use Rattle.std.specs.Prelude.{◌≡◌, ℕ, Bool, List, [], ◌∷◌, ◌++◌, Option, None, false, length, map, replicate}
use Rattle.at_text.specs.declared.finals.Final.TheVariants.{Good}
use Rattle.at_text.specs.declared.unsolicited.UrcKind.{UrcKind}
use Rattle.at_text.specs.Rules.{Rules, dialect_of}
use Rattle.modem_desk.specs.declared.settling.Settled.{Settled}
use Rattle.modem_desk.specs.Ends.{AreSubscribed, DriverView, IsWhole, place_of, subscription_of}
use Rattle.modem_history.specs.Kinds.{standard_kinds}
use Rattle.modem_history.specs.Sessions.{LineView}
use Rattle.modem_core.specs.DialectReplays.{own_kinds}
use Rattle.modem_driver.specs.EntryTries.{IsRepliedTo}
use Rattle.modem_driver.specs.SessionStates.{FitsAll, SessionState, beginning_by}
use Rattle.ctl_drive.specs.Asking.{HasAsked, PlanView, ReadsAll}
use Rattle.ctl_drive.specs.Channels.{KeepsOrder, OpensFirst, StopsLast}
use Rattle.ctl_drive.specs.Ending.{HasDriven}
use Rattle.ctl_drive.specs.declared.fault.DriveFault.{DriveFault}
use Rattle.ctl_drive.specs.Showing.{HasShown}
use Rattle.ctl_drive.specs.declared.users.Users.{Users}

-- the kinds of lines by these rules: those of the standards, Other, and one of one's own for each rule of unsolicited lines
abbrev pub kinds_by : Rules → List UrcKind
kinds_by rules = standard_kinds ++ own_kinds (length rules.urcs)

-- a desk of one caller and a listener for each kind of lines by these rules, which has done nothing yet
pub record IsNewDesk (rules : Rules) (d : DriverView) : Type 0 where
  pub kinds_are : d.desk.kinds ≡ kinds_by rules
  pub none_taken : d.taken ≡ []
  pub none_told : d.told ≡ replicate 1 []
  pub none_announced : d.announced ≡ replicate (length (kinds_by rules)) []

-- a session over this line, at a modem with the codes of these rules beside the standards', on a desk that has done nothing yet, of
-- which these are all users; nothing is printed yet
pub record Begins {X : Type 0} (look : X → LineView) (rules : Rules) (n1 : ℕ) (line : X) (s : SessionState X) (users : Users) :
    Type 0 where
  pub new : IsNewDesk rules s.driver
  pub at_line : s.line ≡ line
  pub fits : FitsAll (beginning_by (dialect_of rules) n1 (look line) s.driver) look s []
  pub whole : IsWhole s.driver.desk (map place_of (users.caller ∷ []))
  pub subscribed : AreSubscribed s.driver.desk (map subscription_of users.listeners.items)
  pub shown : (out : Option (List ℕ)) → HasShown out out users
  pub none_asked : users.caller.submitted ≡ []
  pub order : KeepsOrder users.channels users.caller
  pub dialect : users.dialect ≡ rules

-- the multiplexer was entered by this text, at one of three tries
abbrev pub HasEntered : (n1 : ℕ) (text : List ℕ) → (first now : LineView) → Type 0
HasEntered n1 text first now = IsRepliedTo first now n1 false text Good

-- nothing of this input was read yet
abbrev pub plan_begun : Option (List ℕ) → PlanView
plan_begun input = record {
  input = record { left = input; text = []; ended = false; failed = false };
  count = 0;
  was_bad = false;
  waiting = replicate 62 [];
  stopping = false;
}

-- a session went on to its end with the lines of this input
pub record DrivesInput {X : Type 0} (look : X → LineView) (period : ℕ) (s : SessionState X) (users : Users)
    (input before after silent said : Option (List ℕ)) (end : Option DriveFault) (was_bad : Bool) (left : Settled) (last : X) : Type 0 where
  pub through : PlanView
  pub driven : HasDriven look period s users (plan_begun input) through before after silent said end left last
  pub bad_is : was_bad ≡ through.was_bad

-- A session with this N1 and the codes of these rules began on the line, went on with ticks of this period, and ended, and all that came for its users was
-- printed. The commands that were submitted, and told before the end, are of each connection the first of those that the lines are which
-- were read, in order and each once, and the bad ones of those lines were named: was_bad says whether there was any. Before each of them
-- the caller had taken what an opening of its connection was told, and before a Stop all outcomes. Without a fault all lines of the
-- input were read. The line is as it is last.
pub record DroveFrom {X : Type 0} (look : X → LineView) (rules : Rules) (n1 period : ℕ) (first last : X)
    (input before after silent said : Option (List ℕ)) (end : Option DriveFault) (was_bad : Bool) (left : Settled) : Type 0 where
  pub session : SessionState X
  pub users : Users
  pub begins : Begins look rules n1 first session users
  pub through : PlanView
  pub driven : HasDriven look period session users (plan_begun input) through before after silent said end left last
  pub read : HasAsked input through driven.ends.ended.caller.submitted silent said
  pub opens_first : OpensFirst driven.ends.ended.caller
  pub stops_last : StopsLast driven.ends.ended.caller
  pub bad_is : was_bad ≡ through.was_bad
  pub asked : end ≡ None → ReadsAll input driven.ends.ended.caller.submitted was_bad silent said

-- the multiplexer was entered by this text, and then the line was driven so
pub record Drove {X : Type 0} (look : X → LineView) (rules : Rules) (text : List ℕ) (n1 period : ℕ) (line last : X)
    (input before after silent said : Option (List ℕ)) (end : Option DriveFault) (was_bad : Bool) (left : Settled) : Type 0 where
  pub first : X
  pub entered : HasEntered n1 text (look line) (look first)
  pub from : DroveFrom look rules n1 period first last input before after silent said end was_bad left
