-- Worked examples of a modem's answers.
use Rattle.std.specs.Prelude.{◌≡◌, ℕ, List, [], ◌∷◌, map, Some, None, codes}
use Rattle.modem_sim.specs.declared.modem.ModemStart.{ModemStart}
use Rattle.modem_sim.specs.declared.state.ModemState.{ModemState}
use Rattle.modem_sim.specs.Steps.{started}
use Rattle.modem_sim.specs.LineSteps.{step}

-- the answers to lines, one after the other
abbrev pub answers_to : ModemState → List (List ℕ) → List (List (List ℕ))
answers_to s [] = []
answers_to s (line ∷ lines) =
    map (λ answer. answer.text) (step s line).answer ∷ answers_to (step s line).state lines

-- a modem whose SIM wants the PIN 1234
abbrev pub locked : ModemStart
locked = record { pin = Some (codes "1234"); rssi = 18; ber = 99 }

abbrev pub unlocked : ModemStart
unlocked = record { pin = None; rssi = 18; ber = 99 }

abbrev pub ok : List (List ℕ)
ok = codes "OK" ∷ []

-- the PIN is entered, once wrong, then right
abbrev pub PinEntered : Type 0
PinEntered =
    answers_to (started locked)
    (codes "AT+CMEE=1" ∷ codes "AT+COPS?" ∷ codes "AT+CPIN=\"0000\"" ∷ codes "AT+CPIN=\"1234\""
    ∷ codes "at+cpin?"
    ∷ codes "AT+CREG?" ∷ codes "AT+FOO" ∷ [])
    ≡ ok
    ∷ (codes "+CME ERROR: 11" ∷ [])
    ∷ (codes "+CME ERROR: 16" ∷ [])
    ∷ ok
    ∷ (codes "+CPIN: READY" ∷ ok)
    ∷ (codes "+CREG: 0,1" ∷ ok)
    ∷ (codes "ERROR" ∷ [])
    ∷ []

-- three wrong PINs in a row want the PUK, and an error at mode 0 has no number
abbrev pub ThreeWrongPins : Type 0
ThreeWrongPins =
    answers_to (started locked)
    (codes "AT+CPIN=\"0000\"" ∷ codes "AT+CPIN=\"1111\"" ∷ codes "AT+CPIN=\"2222\"" ∷ codes "AT+CPIN?"
    ∷ codes "AT+CPIN=\"1234\"" ∷ codes "AT+CMEE=2" ∷ codes "AT+CGATT?" ∷ [])
    ≡ (codes "ERROR" ∷ [])
    ∷ (codes "ERROR" ∷ [])
    ∷ (codes "ERROR" ∷ [])
    ∷ (codes "+CPIN: SIM PUK" ∷ ok)
    ∷ (codes "ERROR" ∷ [])
    ∷ ok
    ∷ (codes "+CME ERROR: SIM PUK required" ∷ [])
    ∷ []

-- errors are told in words
abbrev pub ErrorInWords : Type 0
ErrorInWords =
    answers_to (started locked) (codes "AT+CMEE=2" ∷ codes "AT+COPS?" ∷ [])
    ≡ ok ∷ (codes "+CME ERROR: SIM PIN required" ∷ []) ∷ []

-- the registration has the cell at mode 2, and leaving the network detaches
abbrev pub NetworkLeft : Type 0
NetworkLeft =
    answers_to (started unlocked)
    (codes "AT+CREG=2" ∷ codes "AT+CREG?" ∷ codes "AT+CGATT=1" ∷ codes "AT+COPS=2" ∷ codes "AT+CGATT?"
    ∷ codes "AT+CREG?" ∷ codes "AT+COPS?" ∷ [])
    ≡ ok
    ∷ (codes "+CREG: 2,1,\"00A1\",\"01B2C3D4\",7" ∷ ok)
    ∷ ok
    ∷ ok
    ∷ (codes "+CGATT: 0" ∷ ok)
    ∷ (codes "+CREG: 2,0" ∷ ok)
    ∷ (codes "+COPS: 2" ∷ ok)
    ∷ []
