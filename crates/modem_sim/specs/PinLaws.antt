-- What PINs make of a modem, and what a network makes of it, over runs of lines (27.007, 7.2, 7.3, 8.3, 10.1.9).
use Rattle.std.specs.Prelude.{◌≡◌, ◌≢◌, ℕ, ◌+◌, ◌<◌, ◌≤◌, ◌==◌, ◌&&◌, not, Bool, true, false, List, [], ◌∷◌, ◌++◌, None, Ok, IsErr}
use Rattle.at_cmds.specs.declared.command.Command.{Command}
use Rattle.at_cmds.specs.declared.command.Command.TheVariants.{AttachQuery, AttachSet, ContextQuery, ContextSet, OperChoose, OperQuery, PinEnter, PinQuery, RegQuery}
use Rattle.at_cmds.specs.declared.reply.PinState.TheVariants as state
use Rattle.at_cmds.specs.declared.reply.Reply.TheVariants.{Accepted, Attached, Oper, Pin, Reg}
use Rattle.at_cmds.specs.Commands.{IsTextOf}
use Rattle.modem_sim.specs.declared.modem.ModemStart.{ModemStart}
use Rattle.modem_sim.specs.declared.state.ModemState.{ModemState}
use Rattle.modem_sim.specs.Laws.{reached}
use Rattle.modem_sim.specs.SettingLaws.{Answer, Tells, answered}

-- ## PINs (8.3)

-- no line enters this PIN, and so many enter another one
pub data WrongTries (pin : List ℕ) : List (List ℕ) → ℕ → Type 0 where
  no_line : WrongTries pin [] 0
  wrong_try :
      (entered line : List ℕ) (lines : List (List ℕ)) (n : ℕ) → WrongTries pin lines n
      → IsTextOf line (PinEnter entered) → entered ≢ pin → WrongTries pin (lines ++ line ∷ []) (n + 1)
  no_try :
      (line : List ℕ) (lines : List (List ℕ)) (n : ℕ) → WrongTries pin lines n
      → ((entered : List ℕ) → ¬ IsTextOf line (PinEnter entered)) → WrongTries pin (lines ++ line ∷ []) n

-- a modem wants its PIN, while fewer than three tries were wrong and none was right
abbrev pub WantsPin : ModemStart → List ℕ → Type 0
WantsPin start pin =
    (lines : List (List ℕ)) (n : ℕ) → WrongTries pin lines n → n < 3
    → Tells (reached start lines) PinQuery (λ r. r ≡ Ok (Pin state.SimPin))

-- three wrong tries lock it, whatever lines come then
abbrev pub Locks : ModemStart → List ℕ → Type 0
Locks start pin =
    (lines later : List (List ℕ)) (n : ℕ) → WrongTries pin lines n → 3 ≤ n
    → Tells (reached start (lines ++ later)) PinQuery (λ r. r ≡ Ok (Pin state.SimPuk))

-- the right one before that makes it ready, and so it stays
abbrev pub Opens : ModemStart → List ℕ → Type 0
Opens start pin =
    (lines later : List (List ℕ)) (line : List ℕ) (n : ℕ) → WrongTries pin lines n → n < 3
    → IsTextOf line (PinEnter pin)
    → Tells (reached start (lines ++ line ∷ later)) PinQuery (λ r. r ≡ Ok (Pin state.Ready))

-- commands that need the SIM and change something, or tell it
abbrev pub changes_network : Command → Bool
changes_network (OperChoose choice) = true
changes_network (ContextSet cid pdp apn) = true
changes_network (AttachSet on) = true
changes_network _ = false

abbrev pub tells_network : Command → Bool
tells_network OperQuery = true
tells_network ContextQuery = true
tells_network AttachQuery = true
tells_network _ = false

-- before the modem is ready, commands that change something of the network are refused
abbrev pub RefusesBefore : ModemStart → List ℕ → Type 0
RefusesBefore start pin =
    (lines : List (List ℕ)) (n : ℕ) (c : Command) → WrongTries pin lines n → changes_network c ≡ true
    → Tells (reached start lines) c IsErr

-- the same modem without a PIN
abbrev pub unlocked_start : ModemStart → ModemStart
unlocked_start start = record start { pin = None }

-- what a modem is told before it is ready changes nothing of it: once ready it tells the same as a modem that starts
-- without a PIN
abbrev pub ChangesNothingBefore : ModemStart → List ℕ → Type 0
ChangesNothingBefore start pin =
    (lines : List (List ℕ)) (line : List ℕ) (n : ℕ) (c : Command) → WrongTries pin lines n → n < 3
    → IsTextOf line (PinEnter pin) → tells_network c ≡ true → (ask : List ℕ) → IsTextOf ask c
    → answered (reached start (lines ++ line ∷ [])) c ask ≡ answered (reached (unlocked_start start) []) c ask

-- the laws of a modem with this PIN
pub record KeepsPin (start : ModemStart) (pin : List ℕ) : Type 0 where
  pub wants : WantsPin start pin
  pub locks : Locks start pin
  pub opens : Opens start pin
  pub refuses : RefusesBefore start pin
  pub changes_nothing : ChangesNothingBefore start pin

-- a modem without a PIN is ready
abbrev pub IsReadyAlways : ModemStart → Type 0
IsReadyAlways start =
    (lines : List (List ℕ)) → Tells (reached start lines) PinQuery (λ r. r ≡ Ok (Pin state.Ready))

-- ## The network (7.2, 7.3, 10.1.9)

-- the answer says that the modem is registered at home; that the SIM is ready; that the modem isn't deregistered
abbrev pub is_home : Answer → Bool
is_home (Ok (Reg n registration)) = registration.stat == 1
is_home _ = false

abbrev pub is_ready : Answer → Bool
is_ready (Ok (Pin state.Ready)) = true
is_ready _ = false

abbrev pub is_on : Answer → Bool
is_on (Ok (Oper mode named)) = not (mode == 2)
is_on _ = false

-- The lines ask for the registration, the PIN, the operator and the attachment, and attach.
pub record Asks (reg pin oper attachment attach : List ℕ) : Type 0 where
  pub reg_is : IsTextOf reg RegQuery
  pub pin_is : IsTextOf pin PinQuery
  pub oper_is : IsTextOf oper OperQuery
  pub attached_is : IsTextOf attachment AttachQuery
  pub attach_is : IsTextOf attach (AttachSet true)

-- The modem is registered where the SIM is ready and it isn't deregistered; it may attach where it is registered, and
-- is attached nowhere else.
pub record FollowsNetwork (s : ModemState) (reg pin oper attachment attach : List ℕ) : Type 0 where
  pub registered :
      is_home (answered s RegQuery reg)
      ≡ (is_ready (answered s PinQuery pin) && is_on (answered s OperQuery oper))
  pub attaches : is_home (answered s RegQuery reg) ≡ true → answered s (AttachSet true) attach ≡ Ok Accepted
  pub attached :
      answered s AttachQuery attachment ≡ Ok (Attached true) → is_home (answered s RegQuery reg) ≡ true

-- the law: whatever lines a modem was given, registration, PIN and attachment go together
abbrev pub FollowsNetworkAlways : ModemStart → Type 0
FollowsNetworkAlways start =
    (lines : List (List ℕ)) (reg pin oper attachment attach : List ℕ) → Asks reg pin oper attachment attach
    → FollowsNetwork (reached start lines) reg pin oper attachment attach
