-- Connections one after the other, as they were told.
use Rattle.std.specs.Prelude.{◌≡◌, ℕ, ◌+◌, ◌<◌, ◌≤◌, List, length}
use Rattle.std.proofs.Common.{arith, subst, ⊎_elim}
use Rattle.std.proofs.lemmas.Bool.{cases_lt}
use Rattle.modem_driver.specs.Endpoints.{EndpointState}
use Rattle.modem_c.specs.States.{AreTold, state_of, told_of}

-- no connection was told yet
pub none_told : (e : EndpointState) (told : List ℕ) → AreTold e told 0
unfolding AreTold
none_told e told d inside place = absurd (omega (arith, inside))

-- there are places for no more
pub no_places : (e : EndpointState) (told : List ℕ) (n : ℕ) → AreTold e told n → length told ≤ n → AreTold e told 62
unfolding AreTold
no_places e told n h short d inside place = h d (omega (arith, place, short)) place

-- all 62 were told
pub all_told : (e : EndpointState) (told : List ℕ) (n : ℕ) → AreTold e told n → 62 ≤ n → AreTold e told 62
unfolding AreTold
all_told e told n h over d inside place = h d (omega (arith, inside, over)) place

-- one connection more
pub one_told : (e : EndpointState) (told : List ℕ) (n : ℕ) → AreTold e told n → state_of e n ≡ told_of told n → AreTold e told (n + 1)
unfolding AreTold
one_told e told n h same d inside place = ⊎_elim
    (λ (q : d < n). h d q place)
    (λ (q : n ≤ d). let is : n ≡ d = omega (arith, inside, q) in subst (λ (m : ℕ). state_of e m ≡ told_of told m) is same)
    (cases_lt d n)
