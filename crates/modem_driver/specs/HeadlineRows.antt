-- Worked examples: right and wrong places of a request at the end of a run, and commands that leave in a
-- wrong order.
use Rattle.std.specs.Prelude.{ℕ, List, [], ◌∷◌, ◌++◌, codes}
use Rattle.modem_desk.specs.declared.request.Ask.TheVariants.{Command, Stop}
use Rattle.modem_desk.specs.declared.request.Answer.TheVariants.{NotOpen, Stopped}
use Rattle.modem_desk.specs.declared.request.Outcome.{Outcome}
use Rattle.modem_desk.specs.declared.request.Request.{Request}
use Rattle.modem_history.specs.Acts.{Act, after}
use Rattle.modem_history.specs.Rows.{asks, one, opening_one, takes}
use Rattle.modem_driver.specs.Headline.{HasOnePlace, InSubmittedOrder}

-- the outcomes that a caller holds, the requests in hand, and those that were left
pub record RowPlaces : Type 0 where
  pub outcomes : List Outcome
  pub in_hand : List Request
  pub left : List Request

abbrev pub places : List Outcome → (in_hand left : List Request) → RowPlaces
places os hand left = record { outcomes = os; in_hand = hand; left = left }

-- caller 0's requests 3 and 4
abbrev pub third : Request
third = asks 3 Stop

abbrev pub fourth : Request
fourth = asks 4 Stop

abbrev pub outcome : (caller number : ℕ) → Outcome
outcome c n = record { caller = c; number = n; answer = NotOpen }

abbrev pub stopped : (caller number : ℕ) → Outcome
stopped c n = record { caller = c; number = n; answer = Stopped }

abbrev pub right_places : List RowPlaces
right_places =
    -- it has its outcome
    places (outcome 0 2 ∷ outcome 0 3 ∷ []) (fourth ∷ []) []
    -- it is in hand
    ∷ places (outcome 0 2 ∷ []) (third ∷ fourth ∷ []) []
    -- it was left, and another caller's request of that number has its outcome
    ∷ places (outcome 1 3 ∷ []) [] (third ∷ fourth ∷ [])
    ∷ []

abbrev pub wrong_places : List RowPlaces
wrong_places =
    -- it is nowhere
    places (outcome 0 2 ∷ []) (fourth ∷ []) []
    -- another caller has its outcome
    ∷ places (outcome 1 3 ∷ []) (fourth ∷ []) []
    -- it has the same outcome twice
    ∷ places (outcome 0 3 ∷ outcome 0 3 ∷ []) [] []
    -- it has two outcomes
    ∷ places (outcome 0 3 ∷ stopped 0 3 ∷ []) [] []
    -- it has its outcome, and is in hand
    ∷ places (outcome 0 3 ∷ []) (third ∷ []) []
    -- it has its outcome, and was left
    ∷ places (outcome 0 3 ∷ []) [] (third ∷ [])
    -- it is in hand, and was left
    ∷ places [] (third ∷ []) (third ∷ [])
    -- it is in hand twice
    ∷ places [] (third ∷ fourth ∷ third ∷ []) []
    ∷ []

abbrev pub Has : RowPlaces → Type 0
Has p = HasOnePlace p.outcomes p.in_hand p.left third

abbrev pub AreRight : List RowPlaces → Type 0
AreRight [] = Unit {0}
AreRight (p ∷ ps) = Has p × AreRight ps

abbrev pub AreWrong : List RowPlaces → Type 0
AreWrong [] = Unit {0}
AreWrong (p ∷ ps) = (¬ Has p) × AreWrong ps

-- ## What leaves

-- caller 0 submits 3 and then 4, and 4 is accepted on 1 before 3
abbrev pub csq_then_cops : List Request
csq_then_cops = asks 3 (Command one (codes "AT+CSQ")) ∷ asks 4 (Command one (codes "AT+COPS?")) ∷ []

abbrev pub turned_round : List Act
turned_round =
    opening_one ++ takes 4 (Command one (codes "AT+COPS?")) ∷ takes 3 (Command one (codes "AT+CSQ")) ∷ []

-- that is refused at this moment, even where 1 closes and opens again later
unfoldable pub IsOtherOrder : Type 0
IsOtherOrder = ¬ InSubmittedOrder 1 (after [] turned_round) 0 csq_then_cops
