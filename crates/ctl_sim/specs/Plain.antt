-- A modem at plain command lines, before the multiplexer (V.250, 5; 27.007, 5.7).
use Rattle.std.specs.Prelude.{ℕ, ◌&&◌, Bool, true, false, List, [], ◌∷◌, ◌++◌, fold, Option, Some, None, if◌then◌else◌, codes}
use Rattle.at_text.specs.Lines.{cut, is_line_end}
use Rattle.at_cmds.specs.CommandLines.{begins_with_at, is_letter_a, is_letter_t}
use Rattle.modem_sim.specs.declared.state.ModemState.{ModemState}
use Rattle.modem_sim.specs.Pieces.{framed, pieces_octets, reply}
use Rattle.modem_sim.specs.LineSteps.{echoes, step}
use Rattle.ctl_sim.specs.Entry.{mux_entry}

-- ## Command lines

-- octets begin with AT, its letters in either case, or may with octets behind them (5.2.1)
abbrev pub may_begin : List ℕ → Bool
may_begin [] = true
may_begin (a ∷ []) = is_letter_a a
may_begin (a ∷ t ∷ rest) = is_letter_a a && is_letter_t t

-- what of octets is a command line or can become one: octets before AT are passed over, however many (5.2.1)
abbrev pub from_at : List ℕ → List ℕ
from_at [] = []
from_at (c ∷ rest) = if may_begin (c ∷ rest) then c ∷ rest else from_at rest

-- what is kept of a line, of at most 512 octets, behind one more octet
abbrev pub run_by : List ℕ → ℕ → List ℕ
run_by run c = if is_line_end c then [] else cut (from_at (run ++ c ∷ []))

-- the command line that an octet ends, if it ends one; a line without AT isn't for the modem
abbrev pub ended_by : List ℕ → ℕ → Option (List ℕ)
ended_by run c = if is_line_end c && begins_with_at run then Some run else None

-- ## Answers

-- N1 where a line doesn't name it; what is kept of the line that hasn't ended; the modem; what it has said; the N1 of the multiplexer once a line
-- has entered it, and the octets behind that line, which are the multiplexer's
pub record Plain : Type 0 where
  pub n1 : ℕ
  pub run : List ℕ
  pub modem : ModemState
  pub said : List ℕ
  pub entered : Option ℕ
  pub behind : List ℕ

-- plain lines begin
abbrev pub plain_begun : ℕ → ModemState → Plain
plain_begun n1 modem = record { n1 = n1; run = []; modem = modem; said = []; entered = None; behind = [] }

-- the line repeated, where that is on
abbrev pub repeated_as : Bool → List ℕ → List ℕ
repeated_as true line = line ++ 0xd ∷ []
repeated_as false line = []

-- what is said to a line that enters the multiplexer
unfoldable pub said_entering : Bool → List ℕ → List ℕ
said_entering echo line = repeated_as echo line ++ framed (codes "OK")

-- what is said to a line, by the N1 of the multiplexer where it enters that
unfoldable pub said_to : Option ℕ → ModemState → List ℕ → List ℕ
said_to None m line = pieces_octets (reply false m line)
said_to (Some n1) m line = said_entering (echoes false m) line

-- the modem after a line
abbrev pub modem_by : Option ℕ → ModemState → List ℕ → ModemState
modem_by None m line = (step m line).state
modem_by (Some n1) m line = m

-- what is said to the line that an octet ends, if it ends one
abbrev pub said_to_ended : ℕ → ModemState → Option (List ℕ) → List ℕ
said_to_ended n1 m None = []
said_to_ended n1 m (Some line) = said_to (mux_entry n1 line) m line

abbrev pub modem_by_ended : ℕ → ModemState → Option (List ℕ) → ModemState
modem_by_ended n1 m None = m
modem_by_ended n1 m (Some line) = modem_by (mux_entry n1 line) m line

abbrev pub entered_by_ended : ℕ → Option (List ℕ) → Option ℕ
entered_by_ended n1 None = None
entered_by_ended n1 (Some line) = mux_entry n1 line

-- a line is answered; or it enters the multiplexer, whose OK is the last that is said
abbrev pub plain_line : Option (List ℕ) → Plain → Plain
plain_line ended p = record p {
  modem = modem_by_ended p.n1 p.modem ended;
  said = p.said ++ said_to_ended p.n1 p.modem ended;
  entered = entered_by_ended p.n1 ended;
}

abbrev pub plain_by : Option ℕ → Plain → ℕ → Plain
plain_by (Some n1) p c = record p { behind = p.behind ++ c ∷ [] }
plain_by None p c = plain_line (ended_by p.run c) (record p { run = run_by p.run c })

-- one more octet: it belongs to a line, or to the multiplexer once a line has entered that
abbrev pub plain_octet : Plain → ℕ → Plain
plain_octet p c = plain_by p.entered p c

-- plain lines after octets, one after the other
unfoldable pub plain_after : Plain → List ℕ → Plain
plain_after p octets = fold plain_octet p octets
