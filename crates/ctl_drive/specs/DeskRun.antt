-- A drive as a run of its desk: one session, from the opening of the desk to its settlement.
use Rattle.std.specs.Prelude.{◌≡◌, ℕ, Bool, List, [], ◌∷◌, Option, map, vec_items}
use Rattle.at_text.specs.Rules.{Rules, dialect_of}
use Rattle.modem_desk.specs.declared.settling.Settled.{Settled}
use mathlib.Core.Option.{some}
use lib.ListN.{get_elem?}
use Rattle.modem_desk.specs.Ends.{ListenerView}
use Rattle.modem_history.specs.Acts.{Act}
use Rattle.modem_history.specs.Sessions.{LineView, heard_as, heards}
use Rattle.modem_driver.specs.DeskHeadline.{DeskHeadline, DeskRun, IsDeskSettled, Spell}
use Rattle.modem_driver.specs.OneSession.{seen_by_calls}
use Rattle.modem_driver.specs.SessionStates.{beginning_by, session_view}
use Rattle.ctl_drive.specs.Running.{DroveFrom}
use Rattle.ctl_drive.specs.Showing.{HasShown}
use Rattle.ctl_drive.specs.declared.fault.DriveFault.{DriveFault}

-- what each listener took is all that the history heard of its kind, in order
abbrev pub HeardAll : List ListenerView → List Act → Type 0
HeardAll listeners past =
    (i : ℕ) (l : ListenerView) → get_elem? listeners i ≡ some l → map heard_as l.heard ≡ heards l.subscription.kind past

-- The desk's run of a drive: its only session began with the drive's codes and N1 on its line, and was seen so between the
-- drive's polls and ticks; its desk was settled with the drive's callers and listeners, and with what the drive was given. All that
-- its listeners took was printed, and they took every line that was heard.
pub record RunsDesk {X : Type 0} (look : X → LineView) (rules : Rules) (n1 period : ℕ) (first last : X)
    (input before after silent said : Option (List ℕ)) (end : Option DriveFault) (was_bad : Bool) (left : Settled)
    (d : DroveFrom look rules n1 period first last input before after silent said end was_bad left) : Type 0 where
  pub spell : Spell
  pub start_is : spell.start ≡ beginning_by (dialect_of rules) n1 (look first) d.session.driver
  pub seen_are : spell.session ∷ spell.earlier
      ≡ seen_by_calls (session_view look d.session) d.driven.drives.calls.calls
  pub session_is : spell.session ≡ session_view look d.driven.stopped
  pub run : DeskRun
  pub spells_are : run.spells ≡ spell ∷ []
  pub driver_is : run.driver ≡ d.driven.ends.driver
  pub callers_are : run.callers ≡ d.driven.ends.ended.caller ∷ []
  pub listeners_are : run.listeners ≡ d.driven.ends.ended.listeners.items
  pub settlement_is : run.settlement ≡ record {
    left = left.left.items;
    untaken = map vec_items left.untaken.items;
    unheard = map vec_items left.unheard.items;
  }
  pub settled : IsDeskSettled run
  pub headline : DeskHeadline run
  pub shown : HasShown before after d.driven.ends.ended
  pub heard : HeardAll d.driven.ends.ended.listeners.items spell.past

-- the law: each drive is a settled run of its desk, and has the headline
unfoldable pub DrivesSettle : {X : Type 0} → (X → LineView) → Type 0
DrivesSettle {X} look =
    (rules : Rules) (n1 period : ℕ) (first last : X) (input before after silent said : Option (List ℕ))
    (end : Option DriveFault) (was_bad : Bool) (left : Settled)
    (d : DroveFrom look rules n1 period first last input before after silent said end was_bad left)
    → RunsDesk look rules n1 period first last input before after silent said end was_bad left d
