-- What connections want whose commands wait, and whose turn it is.
use Rattle.std.specs.Prelude.{◌≡◌, ◌⊎◌, ℕ, ◌+◌, ◌<◌, ◌≤◌, ◌==◌, ◌&&◌, ◌||◌, not, Bool, true, false, List, is_some, length}
use Rattle.ctl_drive.specs.Asking.{PlanView, waits_at}
use Rattle.ctl_drive.specs.Channels.{is_wanted, state_at}
use Rattle.ctl_drive.specs.Showing.{is_busy}
use Rattle.ctl_drive.specs.declared.channels.ChannelState.{ChannelState}
use Rattle.ctl_drive.specs.declared.channels.ChannelState.TheVariants as state
use Rattle.ctl_drive.specs.declared.turns.Want.{Want}
use Rattle.ctl_drive.specs.declared.turns.Want.TheVariants as want
use Rattle.ctl_drive.specs.declared.users.Users.{Users}

-- it isn't open, and is to be opened for its next command
abbrev pub is_unopened : ChannelState → Bool
is_unopened state.Untold = true
is_unopened state.Wanted = true
is_unopened state.Shut = true
is_unopened state.Refused = false
is_unopened state.Open = false

-- What connection d wants by itself, where a command of it waits: to be opened; or, once it is open or an opening was refused, that the
-- command is submitted, but not while another of it is under way.
abbrev pub wants : Want → List (List (List ℕ)) → Users → ℕ → Bool
wants want.Opening waiting u d =
    is_wanted (state_at u.channels d) || (not (length (waits_at waiting d) == 0) && is_unopened (state_at u.channels d))
wants want.Submission waiting u d =
    not (length (waits_at waiting d) == 0) && (not (is_unopened (state_at u.channels d)) && not (is_busy d u.under_way.items))

abbrev pub NoneWants : Want → List (List (List ℕ)) → Users → Type 0
NoneWants w waiting u = (d : ℕ) → d < 62 → wants w waiting u d ≡ false

-- going round from behind `last`, e comes before d
abbrev pub ComesBefore : (last e d : ℕ) → Type 0
ComesBefore last e d = ((last < e) × (e < d)) ⊎ ((d ≤ last) × ((last < e) ⊎ (e < d)))

-- connection d wants it, and none that comes before it, going round from behind `last`
pub record IsNext (w : Want) (waiting : List (List (List ℕ))) (u : Users) (last d : ℕ) : Type 0 where
  pub wanted : wants w waiting u d ≡ true
  pub none_before : (e : ℕ) → e < 62 → ComesBefore last e d → wants w waiting u e ≡ false

-- how many lines were read, and how many requests submitted
abbrev pub steps_of : PlanView → Users → ℕ
steps_of p u = p.count + length u.caller.submitted

abbrev pub one_if : Bool → ℕ
one_if true = 1
one_if false = 0

-- Nothing can be asked now. A connection that is to be opened waits only while something asked beside the lines has no outcome yet, or
-- the multiplexer is to end. A command that could be submitted waits only while lines of 15 connections are under way.
pub record MayRest (p : PlanView) (u : Users) : Type 0 where
  pub openings : (p.stopping ≡ true) ⊎ ((is_some u.asked ≡ true) ⊎ NoneWants want.Opening p.waiting u)
  pub lines : (15 ≤ length u.under_way.items) ⊎ NoneWants want.Submission p.waiting u
