-- What contracts see of outcomes and lines that wait.
use Rattle.std.specs.Prelude.{◌≡◌, ℕ, ◌+◌, ◌≤◌, nat_le, true, List, [], ◌∷◌, ◌++◌, length, map, take}
use Rattle.std.specs.List.{list_all}
use Rattle.at_text.specs.declared.unsolicited.UrcKind.{UrcKind}
use Rattle.modem_desk.specs.declared.request.Outcome.{Outcome}
use Rattle.modem_desk.specs.declared.request.Urc.{Urc}
use Rattle.modem_history.specs.Acts.{Act}
use Rattle.modem_history.specs.Sessions.{caller_outcomes, heard_as}
use Rattle.modem_history.specs.Turns.{outcomes_told, lines_heard}

-- the outcomes and the lines
pub record WaitingLists : Type 0 where
  pub outcomes : List Outcome
  pub lines : List Urc

-- what acts tell and announce waits behind the others, where the outcomes are 128 at most
pub record Keeps (old new : WaitingLists) (acts : List Act) : Type 0 where
  pub outcomes : length old.outcomes + length (outcomes_told acts) ≤ 128
      → new.outcomes ≡ old.outcomes ++ outcomes_told acts
  pub lines : map heard_as new.lines ≡ map heard_as old.lines ++ lines_heard acts

-- this caller has one of these outcomes, and no caller with a lower number has any
pub record IsLeast (c : ℕ) (os : List Outcome) : Type 0 where
  pub outcome : Outcome
  pub first : take 1 (caller_outcomes c os) ≡ outcome ∷ []
  pub least : list_all (λ (o : Outcome). nat_le c o.caller) os ≡ true

-- the first of these lines is of this kind
pub record IsFirstOf (kind : UrcKind) (us : List Urc) : Type 0 where
  pub line : Urc
  pub first : take 1 us ≡ line ∷ []
  pub is_of : line.kind ≡ kind
