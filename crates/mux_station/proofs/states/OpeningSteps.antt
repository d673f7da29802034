-- The table keeps the rule of openings: one act further, by whether 0 and the connection are open and asked for.
use Rattle.std.specs.Prelude.{◌≡◌, ℕ, ◌&&◌, ◌||◌, not, Bool, List, [], ◌∷◌, refl}
use Rattle.std.proofs.Common.{ap, sym, ◌∙◌}
use Rattle.mux_station.specs.declared.role.Role.{Role}
use Rattle.mux_station.specs.declared.role.Role.TheVariants.{Initiator}
use Rattle.mux_station.specs.Acts.{Act}
use Rattle.mux_station.specs.Opening.{is_open, is_asked, is_mode_frame, asks, ends, opens, opens_now, belongs}
use Rattle.mux_station.specs.States.{state_of}
use Rattle.mux_station.specs.Tables.{is_opening}
use Rattle.mux_station.specs.OpeningRule.{Standing, standing, standing_after, standings}
use Rattle.mux_station.proofs.states.OpenedStates.{opened_is_open, opening_is_asked}

own_zero : (r : Role) (past : List Act) → (standings r 0 past).own ≡ (standings r 0 past).zero
own_zero r [] = refl
own_zero r (a ∷ past) = ap (λ (t : Standing). standing_after r (standings r 0 past).zero.is_open 0 t a) (own_zero r past)

both_zero : (r : Role) (d : ℕ) (past : List Act) → (standings r d past).zero ≡ (standings r 0 past).zero
both_zero r d [] = refl
both_zero r d (a ∷ past) = ap (λ (t : Standing). standing_after r t.is_open 0 t a) (both_zero r d past)

-- 0 is read alike beside each connection
pub zero_same : (r : Role) (d : ℕ) (past : List Act) → (standings r d past).zero.is_open ≡ is_open r 0 past
zero_same r d past = ap (λ (t : Standing). t.is_open) (both_zero r d past ∙ sym (own_zero r past)) ∙ sym (opened_is_open r past 0)

-- a connection is asked for where the rule has it so
pub asked_same : (r : Role) (d : ℕ) (past : List Act) → (standings r d past).own.is_asked ≡ is_asked r d past
asked_same r d [] = refl
asked_same r d (a ∷ past) =
    ap (λ (b : Bool). asks d a || (b && not (is_mode_frame d a || ends (standings r d past).zero.is_open d a))) (asked_same r d past)
    ∙ ap (λ (b : Bool). asks d a || (is_asked r d past && not (is_mode_frame d a || ends b d a))) (zero_same r d past)

-- the act opens the connection where it does so by the rule
pub opens_same : (r : Role) (d : ℕ) (past : List Act) (a : Act) → opens r (standings r d past).zero.is_open (standings r d past).own.is_asked d a ≡ opens_now r d past a
opens_same r d past a =
    ap (λ (b : Bool). opens r b (standings r d past).own.is_asked d a) (zero_same r d past)
    ∙ ap (λ (b : Bool). opens r (is_open r 0 past) b d a) (asked_same r d past)

-- and it belongs to the connection's time of being open
pub belongs_same : (r : Role) (d : ℕ) (past : List Act) (a : Act) → ((standings r d past).own.is_open && not (ends (standings r d past).zero.is_open d a)) ≡ belongs r d past a
belongs_same r d past a =
    ap (λ (b : Bool). b && not (ends (standings r d past).zero.is_open d a)) (sym (opened_is_open r past d))
    ∙ ap (λ (b : Bool). is_open r d past && not (ends b d a)) (zero_same r d past)

-- after an act a connection is open where the act opens it, or it was open and the act doesn't end it
pub is_open_after : (r : Role) (d : ℕ) (past : List Act) (a : Act) → is_open r d (a ∷ past) ≡ (opens_now r d past a || belongs r d past a)
is_open_after r d past a =
    let s = standings r d past in
    opened_is_open r (a ∷ past) d
    ∙ (ap (λ (b : Bool). b || (s.own.is_open && not (ends s.zero.is_open d a))) (opens_same r d past a)
    ∙ ap (λ (b : Bool). opens_now r d past a || b) (belongs_same r d past a))

-- an initiator's connection is Opening exactly where it is asked for and isn't open
pub opening_asked : (d : ℕ) (past : List Act) → is_opening (state_of Initiator d past) ≡ (is_asked Initiator d past && not (is_open Initiator d past))
opening_asked d past =
    opening_is_asked d past
    ∙ (ap (λ (b : Bool). b && not (standings Initiator d past).own.is_open) (asked_same Initiator d past)
    ∙ ap (λ (b : Bool). is_asked Initiator d past && not b) (sym (opened_is_open Initiator past d)))

-- a connection stands after an act as the rule says
pub stands_after : (r : Role) (d : ℕ) (past : List Act) (a : Act) → standing r d (a ∷ past) ≡ standing_after r (is_open r 0 past) d (standing r d past) a
stands_after r d past a = ap (λ (b : Bool). record { is_open = b; is_asked = is_asked r d (a ∷ past) }) (is_open_after r d past a)
