-- What a drive asks: of each connection the commands that the lines of its input are, in order.
use Rattle.std.specs.Prelude.{◌≡◌, ℕ, ◌+◌, ◌==◌, Bool, true, false, List, [], ◌∷◌, ◌++◌, flat_map, length, slice_index_or, Option, IfSome, if◌then◌else◌}
use Rattle.modem_desk.specs.declared.request.Ask.{Ask}
use Rattle.modem_desk.specs.declared.request.Ask.TheVariants as ask
use Rattle.modem_desk.specs.declared.request.Request.{Request}
use Rattle.ctl_text.specs.Words.{IsCommand, IsNoCommand}
use Rattle.ctl_text.specs.Input.{input_lines}
use Rattle.ctl_drive.specs.Input.{HasRead, LinesView}
use Rattle.ctl_drive.specs.Saying.{Names, NamesBad}

-- what a line asks: this command on a connection, or nothing where the line is no command
abbrev pub LineAsks : List ℕ → List Ask → Type 0
LineAsks line [] = IsNoCommand line
LineAsks line (ask.Command d text ∷ []) = IsCommand line d.number text
LineAsks line (_ ∷ _) = ⊥

-- the lines ask this, one line behind the other
pub data LinesAsk : (lines : List (List ℕ)) → (asks : List Ask) → Type 0 where
  ask_none : LinesAsk [] []
  ask_next : (lines : List (List ℕ)) (asks : List Ask) (line : List ℕ) (said : List Ask) → LinesAsk lines asks → LineAsks line said
      → LinesAsk (lines ++ line ∷ []) (asks ++ said)

-- it is a command on d
abbrev pub is_on : ℕ → Ask → Bool
is_on d (ask.Command e line) = e.number == d
is_on d _ = false

-- its text, where it is a command on connection d
abbrev pub text_on : ℕ → Ask → List (List ℕ)
text_on d (ask.Command e text) = if e.number == d then text ∷ [] else []
text_on d _ = []

-- the texts of the commands on connection d among these, in order
abbrev pub texts_on : ℕ → List Ask → List (List ℕ)
texts_on d asks = flat_map (text_on d) asks

abbrev pub submitted_on : ℕ → List Request → List (List ℕ)
submitted_on d requests = flat_map (λ (r : Request). text_on d r.ask) requests

-- of the texts that wait, those on connection d, in order
abbrev pub waits_at : List (List (List ℕ)) → ℕ → List (List ℕ)
waits_at waiting d = slice_index_or waiting d []

-- On each connection the first of these commands were submitted, in order and each once, and the others wait.
abbrev pub AreInTurn : List Ask → List Request → List (List (List ℕ)) → Type 0
AreInTurn asks submitted waiting = (d : ℕ) → texts_on d asks ≡ submitted_on d submitted ++ waits_at waiting d

-- where the first request has this number, the request of that number asks this
pub record IsAskedAs (first : ℕ) (submitted : List Request) (number : ℕ) (what : Ask) : Type 0 where
  pub before : List Request
  pub request : Request
  pub later : List Request
  pub submitted_are : submitted ≡ before ++ request ∷ later
  pub number_is : number ≡ first + length before
  pub ask_is : request.ask ≡ what

-- how far the asking has come: the rest of the input, how many of its lines were given and whether one of them was bad, for each
-- connection the commands that are read and not yet submitted, and whether all were told and the multiplexer is to end
pub record PlanView : Type 0 where
  pub input : LinesView
  pub count : ℕ
  pub was_bad : Bool
  pub waiting : List (List (List ℕ))
  pub stopping : Bool

-- all lines were given, and no command waits
pub record IsThrough (p : PlanView) : Type 0 where
  pub ended : p.input.ended ≡ true
  pub no_text : p.input.text ≡ []
  pub none_waits : (d : ℕ) → waits_at p.waiting d ≡ []

-- Since the reader had this left, what its lines ask of each connection was submitted, in order and each once, but for what waits; and
-- the bad ones of the same lines were named to a writer. Where the multiplexer is to end none waits, and all lines were given.
pub record HasAsked (first : Option (List ℕ)) (p : PlanView) (submitted : List Request) (silent said : Option (List ℕ)) : Type 0 where
  pub lines : List (List ℕ)
  pub read : HasRead first p.input lines
  pub counted : p.count ≡ length lines
  pub asks : List Ask
  pub asked : LinesAsk lines asks
  pub in_turn : AreInTurn asks submitted p.waiting
  pub named : NamesBad lines p.was_bad silent said
  pub through : p.stopping ≡ true → IsThrough p

-- what was asked and named before, and more
pub record AsksOn (old new : PlanView) (before after : List Request) (said more : Option (List ℕ)) : Type 0 where
  pub on : (first silent : Option (List ℕ)) → HasAsked first old before silent said → HasAsked first new after silent more

-- Some of it was asked and named before the drive could go on no more.
pub record StopsOn (old : PlanView) (before : List Request) (said more : Option (List ℕ)) : Type 0 where
  pub last : PlanView
  pub submitted : List Request
  pub asks : AsksOn old last before submitted said more

-- One line was given: what it asks waits behind all that its connection waits for, and it was named if it is bad.
pub record ReadsLine (old new : PlanView) (line : List ℕ) (before after : Option (List ℕ)) : Type 0 where
  pub said : List Ask
  pub asks : LineAsks line said
  pub waits : (d : ℕ) → waits_at new.waiting d ≡ waits_at old.waiting d ++ texts_on d said
  pub names : Names (old.count + 1) line old.was_bad new.was_bad before after
  pub stays : new ≡ record old { count = old.count + 1; was_bad = new.was_bad; waiting = new.waiting }

-- All that the reader had was read, these octets. What their lines ask of each connection was submitted, in order and each once, and
-- the bad ones were named.
pub record ReadsAll (had : Option (List ℕ)) (submitted : List Request) (was_bad : Bool) (silent said : Option (List ℕ)) : Type 0 where
  pub octets : List ℕ
  pub all : IfSome had (λ known. octets ≡ known)
  pub asks : List Ask
  pub asked : LinesAsk (input_lines octets) asks
  pub each : (d : ℕ) → texts_on d asks ≡ submitted_on d submitted
  pub named : NamesBad (input_lines octets) was_bad silent said

-- Some lines of the reader were read, in order from its first, and the bad ones of these were named.
pub record NamesRead (had : Option (List ℕ)) (silent said : Option (List ℕ)) : Type 0 where
  pub input : LinesView
  pub lines : List (List ℕ)
  pub read : HasRead had input lines
  pub was_bad : Bool
  pub named : NamesBad lines was_bad silent said
