-- An entry that C drives: octets in, octets out (27.007, 5.7).
use Rattle.std.specs.Prelude.{◌≡◌, ◌≢◌, ℕ, ◌+◌, ◌-◌, Bool, true, false, List, [], ◌∷◌, ◌++◌, length, take, drop, replicate, Option, None, if◌then◌else◌}
use Rattle.at_text.specs.declared.finals.Final.{Final}
use Rattle.at_text.specs.declared.finals.Final.TheVariants.{Good}
use Rattle.mux_frame.specs.Spelling.{flag, spelled}
use Rattle.modem_history.specs.Sessions.{LineView}
use Rattle.modem_driver.specs.EndpointSteps.{with_received, with_sent}
use Rattle.modem_driver.specs.declared.entry.EntryStep.{EntryStep}
use Rattle.modem_driver.specs.EntrySteps.{EntryView, IsAnswered, IsAsked, StepsTo, close_down_frame, step_by}

-- ## What is kept

-- a text of which nothing was given yet, and behind which nothing came
abbrev pub begun : List ℕ → EntryView
begun text = record { text = text; written = 0; kept = [] }

-- an entry: its text, and what closes down a modem that was left in the multiplexer; whether that is under way; and how
-- often the text may be sent again
pub record EntryState : Type 0 where
  pub asking : EntryView
  pub closing : EntryView
  pub is_closing : Bool
  pub left : ℕ

-- what is under way
abbrev pub now_of : EntryState → EntryView
now_of e = if e.is_closing then e.closing else e.asking

-- a command line, and a CR behind it
abbrev pub entry_line : List ℕ → List ℕ
entry_line text = text ++ 13 ∷ []

-- what closes down a multiplexer (27.010, 5.4.6.3.3): flags that end a frame of at most N1 octets of information that was
-- left unfinished; CLD; and a CR, so that it is a line of its own to a modem at plain commands
abbrev pub closing_text : ℕ → List ℕ
closing_text n1 = replicate (n1 + 3) flag ++ (spelled close_down_frame ++ 13 ∷ [])

-- an entry by this command line, which is sent so many times more at most
abbrev pub entry_begun : (text : List ℕ) → (n1 left : ℕ) → EntryState
entry_begun text n1 left = record { asking = begun (entry_line text); closing = begun (closing_text n1); is_closing = false; left = left }

-- ## What it does

-- the next octets of what is under way were given, and nothing else changed
abbrev pub Gives : EntryState → EntryState → List ℕ → Type 0
Gives e f octets = (octets ≡ take (length octets) (drop (now_of e).written (now_of e).text))
    × (f ≡ (if e.is_closing
    then record e { closing = record e.closing { written = e.closing.written + length octets } }
    else record e { asking = record e.asking { written = e.asking.written + length octets } }))

-- octets came behind the text, of which the last ended a final code, or none did
unfoldable pub Hears : EntryView → EntryView → List ℕ → EntryStep → Type 0
Hears was now octets said = (first l : LineView) → IsAsked first l was → StepsTo first (with_received l octets) now said

-- While it closes down, what comes is dropped. Else it came behind the text: the last octet ended the first final code,
-- this one, or none came.
abbrev pub HearsBy : Bool → EntryState → EntryState → List ℕ → Option Final → Type 0
HearsBy true e f octets code = (f ≡ e) × (code ≡ None)
HearsBy false e f octets code = (f ≡ record e { asking = f.asking }) × ((f.asking.text ≡ e.asking.text)
    × ((f.asking.written ≡ e.asking.written) × Hears e.asking f.asking octets (step_by code)))

abbrev pub HearsIn : EntryState → EntryState → List ℕ → Option Final → Type 0
HearsIn e f octets code = HearsBy e.is_closing e f octets code

-- the last of these octets ended the first final code behind the text, this one
abbrev pub Ends : EntryState → List ℕ → Final → Type 0
Ends e octets code = (e.is_closing ≡ false) × ((first l : LineView) → IsAsked first l e.asking
    → IsAnswered first (with_received l octets) e.asking.text code)

-- it is another code than OK
pub record IsTurnedDown (e : EntryState) (octets : List ℕ) : Type 0 where
  pub code : Final
  pub other : code ≢ Good
  pub ends : Ends e octets code

-- what is under way was given up: it closes down, or sends the text again
abbrev pub next_part : EntryState → EntryState
next_part e = if e.is_closing
    then record e { asking = begun e.asking.text; is_closing = false }
    else record e { closing = begun e.closing.text; is_closing = true; left = e.left - 1 }

-- ## Whole runs

-- where an entry begins, or sends its text again, nothing was given or taken since
unfoldable pub EntriesBegin : Type 0
EntriesBegin = (l : LineView) (text : List ℕ) → IsAsked l l (begun text)

-- what was given of the text went out behind what was given of it before
unfoldable pub EntriesGive : Type 0
EntriesGive = (first l : LineView) (e f : EntryState) (octets : List ℕ) → Gives e f octets → e.is_closing ≡ false
    → IsAsked first l e.asking → IsAsked first (with_sent l octets) f.asking
