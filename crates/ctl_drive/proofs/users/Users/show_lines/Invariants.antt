-- The listeners before this place were asked.
use Rattle.std.specs.Prelude.{◌≡◌, length}
use Rattle.ctl_drive.specs.Showing.{GoOn, LooksThrough}
use Rattle.ctl_drive.proofs.users.Users.show_lines.Given as goal

pub record Asked (goes as_many within none looked : Type 0) : Type 0 where
  pub on : goes
  pub many : as_many
  pub few : within
  pub same : none
  pub looks : looked

abbrev pub invariant-loop-place : goal.invariant-loop-place
invariant-loop-place g l =
    Asked (GoOn (g.W.Write.contents l.initial.output) (g.W.Write.contents l.output) l.initial.self l.self)
    (length l.self.listeners.items ≡ length l.initial.self.listeners.items)
    (l.place-end ≡ length l.initial.self.listeners.items)
    (l.self.caller.submitted ≡ l.initial.self.caller.submitted)
    (LooksThrough l.initial.self l.self l.place l.any)
