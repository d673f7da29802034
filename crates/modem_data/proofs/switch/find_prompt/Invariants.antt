-- What is left is read as all is, behind the octets that were read.
use Rattle.std.proofs.Common.{length, ◌-◌, ◌≡◌, ◌≤◌, ◌++◌, take, drop}
use Rattle.modem_data.specs.Prompts.{before_prompt, behind_prompt}
use Rattle.modem_data.specs.Switching.{carries_prompt}
use Rattle.modem_data.proofs.switch.find_prompt.Given as goal

abbrev pub invariant-loop-place : goal.invariant-loop-place
invariant-loop-place l = record {
  within : l.place ≤ length l.octets;
  before : before_prompt l.fn.starts l.octets ≡ take l.place l.octets ++ before_prompt l.starts (drop l.place l.octets);
  behind : behind_prompt l.fn.starts l.octets ≡ behind_prompt l.starts (drop l.place l.octets);
  stands : carries_prompt l.fn.starts l.octets ≡ carries_prompt l.starts (drop l.place l.octets);
}

abbrev pub decreases-loop-place : goal.decreases-loop-place
decreases-loop-place l = length l.octets - l.place
