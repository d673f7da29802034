-- The lines of a script.
use Rattle.std.specs.Prelude.{◌≡◌, ◌≢◌, ℕ, ◌+◌, ◌≤◌, List, [], ◌∷◌, ◌++◌, length, None, Ok, codes}
use Rattle.hex.specs.Hex.{decode_of}
use Rattle.at_text.specs.Commands.{refusal_of}
use Rattle.modem_desk.specs.declared.request.Ask.TheVariants as ask
use Rattle.modem_core.specs.declared.event.Event.{Event}
use Rattle.modem_core.specs.declared.event.Event.TheVariants as event
use Rattle.ctl_text.specs.Words.{number_text}
use Rattle.ctl_run.specs.declared.script.Order.{Order}
use Rattle.ctl_run.specs.declared.script.Order.TheVariants as order

-- pairs of hexadecimal digits, at least one, are these octets
abbrev pub ArePairsOf : List ℕ → List ℕ → Type 0
ArePairsOf octets pairs = (decode_of pairs ≡ Ok octets) × (octets ≢ [])

-- the line says this
abbrev pub Says : List ℕ → Order → Type 0
Says line (order.Ask (ask.OpenChannel d)) = line ≡ codes "open " ++ number_text d.number
Says line (order.Ask (ask.CloseChannel d)) = line ≡ codes "close " ++ number_text d.number
Says line (order.Ask (ask.Command d text)) =
    (refusal_of text ≡ None) × (line ≡ codes "cmd " ++ number_text d.number ++ 32 ∷ text)
Says line (order.Ask (ask.Probe octets)) =
    (pairs : List ℕ) × (line ≡ codes "probe " ++ pairs) × ArePairsOf octets pairs × (length octets ≤ 16)
Says line (order.Ask ask.Stop) = line ≡ codes "stop"
Says line (order.Octets octets) = (pairs : List ℕ) × (line ≡ codes "in " ++ pairs) × ArePairsOf octets pairs
Says line order.Tick = line ≡ codes "tick"
Says line order.Lost = line ≡ codes "lost"

-- the line isn't one of the words that stand alone
abbrev pub IsNoWord : List ℕ → Type 0
IsNoWord line = (line ≢ codes "stop") × (line ≢ codes "tick") × (line ≢ codes "lost")

-- the line doesn't begin with a word that wants more, and a blank
pub record BeginsNone (line : List ℕ) : Type 0 where
  pub no_open : (rest : List ℕ) → line ≢ codes "open " ++ rest
  pub no_close : (rest : List ℕ) → line ≢ codes "close " ++ rest
  pub no_cmd : (rest : List ℕ) → line ≢ codes "cmd " ++ rest
  pub no_probe : (rest : List ℕ) → line ≢ codes "probe " ++ rest
  pub no_in : (rest : List ℕ) → line ≢ codes "in " ++ rest

-- the line says nothing
abbrev pub SaysNothing : List ℕ → Type 0
SaysNothing line = (o : Order) → Says line o → ⊥

-- the line isn't empty, and says nothing
abbrev pub IsNoOrder : List ℕ → Type 0
IsNoOrder line = (line ≢ []) × SaysNothing line

-- the events are what the lines that aren't empty say, in order; requests are caller 0's, with the numbers
-- from this one on
abbrev pub IsScript : ℕ → List (List ℕ) → List Event → Type 0
IsScript n [] [] = Unit {0}
IsScript n [] (e ∷ events) = ⊥
IsScript n ([] ∷ lines) events = IsScript n lines events
IsScript n ((c ∷ line) ∷ lines) [] = ⊥
IsScript n ((c ∷ line) ∷ lines) (event.Ask q ∷ events) =
    Says (c ∷ line) (order.Ask q.ask) × (q.caller ≡ 0) × (q.number ≡ n) × IsScript (n + 1) lines events
IsScript n ((c ∷ line) ∷ lines) (event.Octets x ∷ events) =
    Says (c ∷ line) (order.Octets x) × IsScript n lines events
IsScript n ((c ∷ line) ∷ lines) (event.Tick ∷ events) = Says (c ∷ line) order.Tick × IsScript n lines events
IsScript n ((c ∷ line) ∷ lines) (event.Lost ∷ events) = Says (c ∷ line) order.Lost × IsScript n lines events
