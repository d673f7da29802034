-- What a simulated modem writes on a connection, piece by piece (V.250, 5.2.3, 5.7.1).
use Rattle.std.specs.Prelude.{ℕ, Bool, List, [], ◌∷◌, ◌++◌, map, if◌then◌else◌}
use Rattle.std.specs.List.{flat_map}
use Rattle.at_text.specs.declared.answer.AnswerLine.{AnswerLine}
use Rattle.modem_sim.specs.declared.state.ModemState.{ModemState}
use Rattle.modem_sim.specs.LineSteps.{repeats, step}

pub data Piece : Type 0 where
  -- a command, repeated
  Echo : (line : List ℕ) → Piece
  -- a line of the answer to a command
  Answer : (line : List ℕ) → Piece
  -- a line that no command asked for
  Announced : (line : List ℕ) → Piece

-- CR LF, text, CR LF
abbrev pub framed : List ℕ → List ℕ
framed text = 0xd ∷ 0xa ∷ (text ++ 0xd ∷ 0xa ∷ [])

abbrev pub octets_of : Piece → List ℕ
octets_of (Echo line) = line ++ 0xd ∷ []
octets_of (Answer line) = framed line
octets_of (Announced line) = framed line

-- the octets of pieces, joined
abbrev pub pieces_octets : List Piece → List ℕ
pieces_octets pieces = flat_map octets_of pieces

-- the lines of an answer, as pieces
abbrev pub answers : List AnswerLine → List Piece
answers ls = map (λ l. Answer l.text) ls

-- the command line repeated, where that is on
abbrev pub echoed : Bool → List ℕ → List Piece
echoed echo line = if echo then Echo line ∷ [] else []

-- what a modem writes for a command line: the line repeated, where that is on, and the answer
abbrev pub reply : Bool → ModemState → List ℕ → List Piece
reply echo m line = echoed (repeats echo m line) line ++ answers (step m line).answer

-- what a modem writes for command lines, one after the other
abbrev pub replies : Bool → ModemState → List (List ℕ) → List Piece
replies echo m [] = []
replies echo m (line ∷ lines) = reply echo m line ++ replies echo (step m line).state lines

-- the pieces without the lines that no command asked for
abbrev pub asked_for : List Piece → List Piece
asked_for [] = []
asked_for (Announced line ∷ pieces) = asked_for pieces
asked_for (Echo line ∷ pieces) = Echo line ∷ asked_for pieces
asked_for (Answer line ∷ pieces) = Answer line ∷ asked_for pieces
