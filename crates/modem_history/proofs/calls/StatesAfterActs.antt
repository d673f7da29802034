-- A past and then some acts.
use Rattle.std.specs.Prelude.{◌≡◌, ℕ, List, [], ◌∷◌, ◌++◌, refl}
use Rattle.mux_station.specs.declared.role.Role.{Role}
use Rattle.mux_station.specs.States.{states, states_then}
use Rattle.modem_history.specs.Acts.{Act, Took, Got, Sent, Told, Heard, Tick, Lost, Held, Freed, Given, after, wire}

-- the past and then two lists of acts is the past and the first, and then the second
pub after_both : (xs ys past : List Act) → after past (xs ++ ys) ≡ after (after past xs) ys
after_both [] ys past = refl
after_both (x ∷ xs) ys past = after_both xs ys (x ∷ past)

-- the states after them
pub then_is : (r : Role) (d : ℕ) (acts past : List Act) → states_then r d (states r d (wire past)) (wire acts) ≡ states r d (wire (after past acts))
then_is r d [] past = refl
then_is r d (Took q ∷ acts) past = then_is r d acts (Took q ∷ past)
then_is r d (Got f ∷ acts) past = then_is r d acts (Got f ∷ past)
then_is r d (Sent f ∷ acts) past = then_is r d acts (Sent f ∷ past)
then_is r d (Told o ∷ acts) past = then_is r d acts (Told o ∷ past)
then_is r d (Heard k e line ∷ acts) past = then_is r d acts (Heard k e line ∷ past)
then_is r d (Tick ∷ acts) past = then_is r d acts (Tick ∷ past)
then_is r d (Lost ∷ acts) past = then_is r d acts (Lost ∷ past)
then_is r d (Held e ∷ acts) past = then_is r d acts (Held e ∷ past)
then_is r d (Freed e ∷ acts) past = then_is r d acts (Freed e ∷ past)
then_is r d (Given ∷ acts) past = then_is r d acts (Given ∷ past)
