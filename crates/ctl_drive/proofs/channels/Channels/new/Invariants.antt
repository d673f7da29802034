-- Those so far are wanted.
use Rattle.std.specs.Prelude.{◌≡◌, ◌≤◌, ◌-◌, drop, length, replicate}
use Rattle.ctl_drive.specs.Channels.{wanted_states}
use Rattle.ctl_drive.specs.declared.channels.ChannelState.TheVariants as state
use Rattle.ctl_drive.proofs.channels.Channels.new.Given as goal

abbrev pub invariant-loop-place : goal.invariant-loop-place
invariant-loop-place l = record {
  few : l.place ≤ length l.wanted;
  wants : wanted_states (drop l.place l.wanted) l.channels ≡ wanted_states l.wanted (replicate 62 state.Untold);
}

abbrev pub decreases-loop-place : goal.decreases-loop-place
decreases-loop-place l = length l.wanted - l.place
