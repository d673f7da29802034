-- Callers that were told enough before they submitted, and callers that weren't; and listeners that took less than was heard.
use Rattle.std.proofs.Common.{lit<}
use Rattle.std.specs.Prelude.{ℕ, List, [], ◌∷◌, codes}
use Rattle.at_text.specs.declared.unsolicited.UrcKind.TheVariants.{Creg}
use Rattle.mux_frame.specs.declared.dlci.Dlci.{Dlci}
use Rattle.modem_desk.specs.Ends.{CallerView, ListenerView, Place, Subscription}
use Rattle.modem_desk.specs.declared.request.Answer.TheVariants.{Opened}
use Rattle.modem_desk.specs.declared.request.Ask.{Ask}
use Rattle.modem_desk.specs.declared.request.Ask.TheVariants.{Command, OpenChannel, Stop}
use Rattle.modem_desk.specs.declared.request.Outcome.{Outcome}
use Rattle.modem_desk.specs.declared.request.Request.{Request}
use Rattle.modem_history.specs.Acts.{Act, Heard}
use Rattle.ctl_drive.specs.Channels.{OpensFirst, StopsLast}
use Rattle.ctl_drive.specs.DeskRun.{HeardAll}

abbrev pub one : Dlci
one = record { number = 1; in_range = lit< tt }

-- a caller's request of this number
abbrev pub asks : ℕ → Ask → Request
asks n ask = record { caller = 0; number = n; ask = ask }

abbrev pub opens_one : Request
opens_one = asks 1 (OpenChannel one)

abbrev pub commands_one : ℕ → Request
commands_one n = asks n (Command one (codes "AT"))

-- the opening of connection 1 was told so
abbrev pub told_opened : Outcome
told_opened = record { caller = 0; number = 1; answer = Opened }

-- a caller that submitted these, each once it had taken so many outcomes, and that took these
abbrev pub asker : Place → List Request → List ℕ → List Outcome → CallerView
asker place submitted got_before got = record {
  place = record place { first = 1 };
  submitted = submitted;
  got_before = got_before;
  got = got;
  seen = [];
  untaken = 0;
}

-- a listener that took nothing
abbrev pub idler : Subscription → ListenerView
idler subscription = record { subscription = record subscription { kind = Creg }; heard = []; seen = [] }

-- these callers were told enough
pub record WereTold (p : Place) : Type 0 where
  pub opened : OpensFirst (asker p (opens_one ∷ commands_one 2 ∷ []) (0 ∷ 1 ∷ []) (told_opened ∷ []))
  pub stopped : StopsLast (asker p (opens_one ∷ asks 2 Stop ∷ []) (0 ∷ 1 ∷ []) (told_opened ∷ []))

-- and these not: a command on a connection that was never to be opened, one that came before its opening was told anything, a Stop
-- while a command is under way; and a line that was heard is nowhere
pub record WereNot (p : Place) (e : Subscription) : Type 0 where
  pub never_asked : OpensFirst (asker p (commands_one 1 ∷ []) (0 ∷ []) []) → ⊥
  pub too_early : OpensFirst (asker p (opens_one ∷ commands_one 2 ∷ []) (0 ∷ 0 ∷ []) (told_opened ∷ [])) → ⊥
  pub own_stop : StopsLast (asker p (opens_one ∷ commands_one 2 ∷ asks 3 Stop ∷ []) (0 ∷ 1 ∷ 1 ∷ []) (told_opened ∷ [])) → ⊥
  pub unheard : HeardAll (idler e ∷ []) (Heard Creg 1 (codes "+CREG: 1") ∷ []) → ⊥
