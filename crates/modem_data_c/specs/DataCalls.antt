-- What calls from C do, said of the relay that is held.
use Rattle.std.specs.Prelude.{◌≡◌, ◌⊎◌, ℕ, ◌<◌, List, length, Option, None, Some, slice_index_or}
use Rattle.mux_frame.specs.Spelling.{IsBadN1}
use Rattle.modem_data.specs.declared.begin.Begin.{Begin}
use Rattle.modem_data.specs.declared.begin.Begin.TheVariants.{AtOnce, ByConnect, ByPrompt, ByOwnConnect}
use Rattle.modem_data.specs.declared.begin.Until.{Until}
use Rattle.modem_data.specs.declared.begin.Until.TheVariants.{Close, CarrierLoss}
use Rattle.modem_data.specs.PipeSets.{IsAmong, IsTwice}
use Rattle.modem_data.specs.Hops.{Relay}
use Rattle.modem_data_c.specs.declared.held_data.CimbalotyData.{CimbalotyData}

-- the relay that is held, if any
abbrev pub relay_of : CimbalotyData → Option Relay
relay_of c = c.handle.held

abbrev pub HoldsRelay : Option Relay → (Relay → Type 0) → Type 0
HoldsRelay None p = ⊥
HoldsRelay (Some r) p = p r

-- a relay is held, and this is true of it
abbrev pub Keeps : CimbalotyData → (Relay → Type 0) → Type 0
Keeps c p = HoldsRelay (relay_of c) p

-- a relay was held before, one is held now, and this is true of the two
abbrev pub Becomes : (old new : CimbalotyData) → (Relay → Relay → Type 0) → Type 0
Becomes old new p = Keeps old (λ r. Keeps new (p r))

-- how a lane begins, as a number; no call of C begins one by a CONNECT line of the driver's own, which is the modem's
abbrev pub begin_number : Begin → ℕ
begin_number AtOnce = 0
begin_number ByConnect = 1
begin_number ByPrompt = 2
begin_number ByOwnConnect = 3

-- until when it lasts, as a number
abbrev pub until_number : Until → ℕ
until_number Close = 0
until_number CarrierLoss = 1

-- this is true of the beginning and the end that have these numbers
pub record BeginsBy (how until : ℕ) (p : Begin → Until → Type 0) : Type 0 where
  pub begin : Begin
  pub end : Until
  pub numbered : how ≡ begin_number begin
  pub end_numbered : until ≡ until_number end
  pub true_of_it : p begin end

-- one of these numbers is above 61
pub record HasHigh (octets : List ℕ) : Type 0 where
  pub place : ℕ
  pub there : place < length octets
  pub high : (x : ℕ) → 61 < slice_index_or octets place x

-- Why no relay is made: 1, memory was refused; 18, a connection isn't 0 to 61; else the number of the relay's refusal: 2, N1 isn't 31
-- to 32767; 5, there are more than 8 connections; 3, 0 is among them; 4, one is named twice.
abbrev pub IsRefused : (n1 : ℕ) (octets : List ℕ) → (number : ℕ) → Type 0
IsRefused n1 octets number =
    (number ≡ 1) ⊎ (((number ≡ 18) × HasHigh octets) ⊎ (((number ≡ 2) × IsBadN1 n1)
    ⊎ (((number ≡ 5) × (8 < length octets)) ⊎ (((number ≡ 3) × IsAmong octets (length octets) 0) ⊎ ((number ≡ 4) × IsTwice octets)))))
