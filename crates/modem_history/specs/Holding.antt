-- Which connections are held because too many of their lines wait for a listener. The bounds are this
-- driver's own; a hold is an MSC of 27.010, 5.4.6.3.7.
use Rattle.std.specs.Prelude.{◌≡◌, ℕ, ◌==◌, ◌&&◌, ◌||◌, not, Bool, true, false, List, [], ◌∷◌, if◌then◌else◌}
use Rattle.mux_station.specs.declared.role.Role.{Role}
use Rattle.mux_station.specs.Opening.{is_open}
use Rattle.modem_history.specs.Acts.{Act, Held, Freed, wire}
use Rattle.modem_history.specs.Information.{opens_here}

-- of the acts Held and Freed of d since it opened, the last is a Held
abbrev pub last_held : Role → ℕ → List Act → Bool
last_held r d [] = false
last_held r d (Held e ∷ past) = (e == d) || last_held r d past
last_held r d (Freed e ∷ past) = not (e == d) && last_held r d past
last_held r d (a ∷ past) = if opens_here r d past a then false else last_held r d past

-- d is held: it is open, and was held since it opened and not freed since; so a close forgets it
abbrev pub is_held : Role → ℕ → List Act → Bool
is_held r d past = is_open r d (wire past) && last_held r d past

-- d may be held: it isn't 0, is open and isn't held
abbrev pub may_hold : Role → ℕ → List Act → Bool
may_hold r d past = not (d == 0) && (is_open r d (wire past) && not (is_held r d past))

-- an act Held stands where its connection may be held, an act Freed where it is held
abbrev pub OnHeld : Role → List Act → Act → Type 0
OnHeld r past (Held d) = may_hold r d past ≡ true
OnHeld r past (Freed d) = is_held r d past ≡ true
OnHeld r past _ = Unit {0}
