-- Vocabulary of histories that are worked by hand: caller 0's requests at an initiator with N1 31.
use Rattle.std.proofs.Common.{lit<}
use Rattle.std.specs.Prelude.{ℕ, ◌+◌, ◌*◌, List, [], ◌∷◌, ◌++◌}
use Rattle.mux_frame.specs.declared.frame.Kind.{Kind}
use Rattle.mux_frame.specs.declared.frame.Kind.TheVariants.{Sabm, Ua, Uih}
use Rattle.mux_frame.specs.declared.dlci.Dlci.{Dlci}
use Rattle.mux_station.specs.declared.role.Role.TheVariants.{Initiator, Responder}
use Rattle.mux_station.specs.Written.{written}
use Rattle.at_text.specs.Seeing.{answer_lines}
use Rattle.modem_desk.specs.declared.request.Ask.{Ask}
use Rattle.modem_desk.specs.declared.request.Ask.TheVariants.{OpenChannel}
use Rattle.modem_desk.specs.declared.request.Request.{Request}
use Rattle.modem_desk.specs.declared.request.Answer.{Answer}
use Rattle.modem_desk.specs.declared.request.Answer.TheVariants.{Opened, Done}
use Rattle.modem_history.specs.Acts.{Act, Took, Got, Sent, Told, Given, after}
use Rattle.modem_history.specs.Calls.{replaying}
use Rattle.modem_history.specs.Lawful.{Lawful, Complete, Quiet, Keeps}

-- ## Connections, requests and outcomes

abbrev pub zero : Dlci
zero = record { number = 0; in_range = lit< tt }

abbrev pub one : Dlci
one = record { number = 1; in_range = lit< tt }

abbrev pub two : Dlci
two = record { number = 2; in_range = lit< tt }

abbrev pub sixty_one : Dlci
sixty_one = record { number = 61; in_range = lit< tt }

-- caller 0's request of this number
abbrev pub asks : ℕ → Ask → Request
asks n ask = record { caller = 0; number = n; ask = ask }

abbrev pub takes : ℕ → Ask → Act
takes n ask = Took (asks n ask)

-- caller 0's outcome of this number
abbrev pub tells : ℕ → Answer → Act
tells n answer = Told (record { caller = 0; number = n; answer = answer })

abbrev pub tells_done : ℕ → List (List ℕ) → Act
tells_done n ls = tells n (Done (answer_lines ls))

-- ## Frames

-- the initiator sends it; it comes from the modem
abbrev pub sends : Kind → ℕ → List ℕ → Act
sends k d info = Sent (written Initiator k d info)

abbrev pub comes : Kind → ℕ → List ℕ → Act
comes k d info = Got (written Responder k d info)

abbrev pub cr : List ℕ
cr = 0xd ∷ []

abbrev pub lf : List ℕ
lf = 0xa ∷ []

-- CR LF, text, CR LF
abbrev pub framed : List ℕ → List ℕ
framed text = cr ++ lf ++ text ++ cr ++ lf

-- control messages (27.010, 5.4.6.3)
abbrev pub msc_command : ℕ → ℕ → List ℕ
msc_command d signals = 0xe3 ∷ 5 ∷ (4 * d + 3) ∷ signals ∷ []

abbrev pub msc_response : ℕ → ℕ → List ℕ
msc_response d signals = 0xe1 ∷ 5 ∷ (4 * d + 3) ∷ signals ∷ []

abbrev pub fcoff_command : List ℕ
fcoff_command = 0x63 ∷ 1 ∷ []

abbrev pub fcoff_response : List ℕ
fcoff_response = 0x61 ∷ 1 ∷ []

abbrev pub fcon_command : List ℕ
fcon_command = 0xa3 ∷ 1 ∷ []

abbrev pub fcon_response : List ℕ
fcon_response = 0xa1 ∷ 1 ∷ []

abbrev pub cld_command : List ℕ
cld_command = 0xc3 ∷ 1 ∷ []

abbrev pub cld_response : List ℕ
cld_response = 0xc1 ∷ 1 ∷ []

-- ## What most rows begin with

abbrev pub opening_zero : List Act
opening_zero = takes 1 (OpenChannel zero) ∷ sends Sabm 0 [] ∷ Given ∷ comes Ua 0 [] ∷ tells 1 Opened ∷ []

abbrev pub opening_one : List Act
opening_one =
    opening_zero ++ takes 2 (OpenChannel one) ∷ sends Sabm 1 [] ∷ Given ∷ comes Ua 1 [] ∷
    sends Uih 0 (msc_command 1 0x8d) ∷ tells 2 Opened ∷ Given ∷ []

-- ## What is said of rows

-- it is lawful, complete and quiet
abbrev pub IsGood : List Act → Type 0
IsGood acts = Keeps (replaying 31) (after [] acts)

abbrev pub IsRefused : List Act → Type 0
IsRefused acts = ¬ Lawful (replaying 31) (after [] acts)

abbrev pub IsIncomplete : List Act → Type 0
IsIncomplete acts = ¬ Complete (replaying 31) (after [] acts)

abbrev pub IsUnquiet : List Act → Type 0
IsUnquiet acts = ¬ Quiet (replaying 31) (after [] acts)

abbrev pub AllAre : (List Act → Type 0) → List (List Act) → Type 0
AllAre P [] = Unit {0}
AllAre P (row ∷ rows) = P row × AllAre P rows
