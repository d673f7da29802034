-- Those who are told nothing may wait on.
use Rattle.std.specs.Prelude.{◌≡◌, ℕ, Bool, true, false, List, [], ◌∷◌, refl, is_none, if◌then◌else◌}
use Rattle.std.specs.List.{list_all}
use Rattle.std.proofs.lemmas.Bool.{and_from}
use Rattle.mux_station.specs.declared.role.ChannelState.{ChannelState}
use Rattle.mux_station.specs.declared.role.ChannelState.TheVariants as is
use Rattle.modem_desk.specs.declared.request.Ask.{Ask}
use Rattle.modem_desk.specs.declared.request.Ask.TheVariants.{OpenChannel, CloseChannel, Command, Probe, Stop}
use Rattle.modem_desk.specs.declared.request.Request.{Request}
use Rattle.modem_desk.specs.declared.request.Answer.{Answer}
use Rattle.modem_core.specs.declared.telling.Happened.{Happened}
use Rattle.modem_core.specs.Telling.{told_by, open_told, close_told, command_told, probe_told, stop_told, left_by}
use Rattle.modem_core.specs.Cores.{may_wait, shows_opening, is_closing, shows_opened, shows_stopping}

open_waits : (c : ChannelState) (why : Answer) → is_none (open_told c why) ≡ true → shows_opening c ≡ true
open_waits is.Opening why h = refl
open_waits is.Opened why h = cc
open_waits is.Shut why h = cc
open_waits is.Closing why h = cc
open_waits is.Stopping why h = cc

close_waits : (c : ChannelState) (why : Answer) → is_none (close_told c why) ≡ true → is_closing c ≡ true
close_waits is.Closing why h = refl
close_waits is.Opened why h = cc
close_waits is.Shut why h = cc
close_waits is.Opening why h = cc
close_waits is.Stopping why h = cc

command_waits : (c : ChannelState) (why : Answer) → is_none (command_told c why) ≡ true → shows_opened c ≡ true
command_waits is.Opened why h = refl
command_waits is.Closing why h = cc
command_waits is.Shut why h = cc
command_waits is.Opening why h = cc
command_waits is.Stopping why h = cc

probe_waits : (c : ChannelState) (h : Happened) (why : Answer) → is_none (probe_told c h why) ≡ true → shows_opened c ≡ true
probe_waits is.Opened h why e = refl
probe_waits is.Closing h why e = cc
probe_waits is.Shut h why e = cc
probe_waits is.Opening h why e = cc
probe_waits is.Stopping h why e = cc

stop_waits : (c : ChannelState) (h : Happened) → is_none (stop_told c h) ≡ true → shows_stopping c ≡ true
stop_waits is.Stopping h e = refl
stop_waits is.Opened h e = cc
stop_waits is.Shut h e = cc
stop_waits is.Opening h e = cc
stop_waits is.Closing h e = cc

untold_waits : (h : Happened) (ended : Bool) (now : ℕ → ChannelState) (ask : Ask) → is_none (told_by h ended now ask) ≡ true → may_wait now ask ≡ true
untold_waits h ended now (OpenChannel d) e = open_waits (now d.number) _ e
untold_waits h ended now (CloseChannel d) e = close_waits (now d.number) _ e
untold_waits h ended now (Command d line) e = command_waits (now d.number) _ e
untold_waits h ended now (Probe octets) e = probe_waits (now 0) h _ e
untold_waits h ended now Stop e = stop_waits (now 0) h e

-- so all who are left may wait
pub left_waits : (h : Happened) (ended : Bool) (now : ℕ → ChannelState) (rs : List Request) → list_all (λ (r : Request). may_wait now r.ask) (left_by (told_by h ended now) rs) ≡ true
left_waits h ended now [] = refl
left_waits h ended now (r ∷ rs) = by_told (is_none (told_by h ended now r.ask)) refl (left_waits h ended now rs)
  where
    left : List Request
    left = left_by (told_by h ended now) rs

    by_told : (b : Bool) → is_none (told_by h ended now r.ask) ≡ b → list_all (λ (q : Request). may_wait now q.ask) left ≡ true → list_all (λ (q : Request). may_wait now q.ask) (if b then r ∷ left else left) ≡ true
    by_told true e k = and_from (may_wait now r.ask) (list_all (λ (q : Request). may_wait now q.ask) left) (untold_waits h ended now r.ask e) k
    by_told false e k = k
