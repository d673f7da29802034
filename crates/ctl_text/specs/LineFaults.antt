-- The first part of a line, read from its front, that isn't as it must be.
use Rattle.std.specs.Prelude.{◌≡◌, ◌≢◌, ◌⊎◌, ℕ, ◌==◌, ◌<◌, ◌≤◌, List, [], ◌∷◌, ◌++◌, None, codes, if◌then◌else◌}
use Rattle.at_text.specs.Commands.{refusal_of}
use Rattle.ctl_text.specs.Words.{number_text}
use Rattle.ctl_text.specs.declared.expected.Expected.{Expected}
use Rattle.ctl_text.specs.declared.refusal.Refusal.{Refusal}

-- ## Words

-- what stands before the first blank; the whole, where there is none
abbrev pub first_word : List ℕ → List ℕ
first_word [] = []
first_word (c ∷ text) = if c == 32 then [] else c ∷ first_word text

-- what stands behind the first blank; nothing, where there is none
abbrev pub behind_word : List ℕ → List ℕ
behind_word [] = []
behind_word (c ∷ text) = if c == 32 then text else behind_word text

-- the word is a connection
pub record IsConnection (word : List ℕ) : Type 0 where
  pub number : ℕ
  pub known : number < 62
  pub word_is : word ≡ number_text number

-- the word is a connection that carries commands
pub record IsCarrier (word : List ℕ) : Type 0 where
  pub number : ℕ
  pub carries : 1 ≤ number
  pub known : number < 62
  pub word_is : word ≡ number_text number

-- ## Parts of a line, one behind the other

-- a part that isn't as wanted has this fault; behind one that is, a later part has one
abbrev pub Wants : (Wanted : Type 0) → Expected → (Later : Expected → Type 0) → Expected → Type 0
Wants Wanted fault Later why = ((Wanted → ⊥) × (why ≡ fault)) ⊎ (Wanted × Later why)

-- no more is wanted
abbrev pub WantsNoMore : Expected → Type 0
WantsNoMore why = ⊥

-- a connection, and the end of the line
abbrev pub ConnectionFault : List ℕ → Expected → Type 0
ConnectionFault words =
    Wants (IsConnection (first_word words)) Expected.Connection
    (Wants (first_word words ≡ words) Expected.End WantsNoMore)

-- a connection that carries commands, and a command line
abbrev pub CommandFault : List ℕ → Expected → Type 0
CommandFault words =
    Wants (IsCarrier (first_word words)) Expected.Carrier
    (Wants (refusal_of (behind_word words) ≡ None) Expected.Command WantsNoMore)

-- a line that was refused as bad has this fault
abbrev pub HasFault : (Expected → Type 0) → Refusal → Type 0
HasFault Has (Refusal.Bad why) = Has why
HasFault Has Refusal.NoMemory = Unit {0}

-- how an error is told: a refusal of memory as NoMemory, any other error as this fault
abbrev pub IsToldAs : {E : Type 0} → (out error : E) → Expected → Refusal → Type 0
IsToldAs out error fault refusal =
    ((error ≡ out) × (refusal ≡ Refusal.NoMemory)) ⊎ ((error ≢ out) × (refusal ≡ Refusal.Bad fault))

-- ## What is said

-- that the line of this number is bad
abbrev pub bad_line : (number : List ℕ) → List ℕ
bad_line number = codes "bad line " ++ number ++ 10 ∷ []

-- what has to stand there
abbrev pub reason_text : Expected → List ℕ
reason_text Expected.Event = codes "a line begins with open, close, cmd, probe, in, stop, tick or lost"
reason_text Expected.Count = codes "a step begins with a decimal number below 2^64, without leading zeros"
reason_text Expected.Deed = codes "behind the number stands announce, stop, go, hold, disconnect or closedown"
reason_text Expected.Caller = codes "a caller is below the number of --callers, without leading zeros"
reason_text Expected.Connection = codes "a connection is 0 to 61, without leading zeros"
reason_text Expected.Carrier = codes "a connection is 1 to 61, without leading zeros"
reason_text Expected.Command = codes "a command line is AT or at and octets 20 to 7E, at most 256 in all"
reason_text Expected.Text = codes "behind the connection stand one blank and a text"
reason_text Expected.Octets = codes "octets are pairs of hexadecimal digits, at least one, without blanks"
reason_text Expected.Probe = codes "a probe has 1 to 16 octets"
reason_text Expected.Pairs = codes "a line is pairs of hexadecimal digits, without blanks inside a pair"
reason_text Expected.End = codes "the line has a word or a blank too many"

-- the line behind it: which file it is of, if that is named, and what has to stand there
abbrev pub reason_line : (file : List ℕ) → Expected → List ℕ
reason_line file why = file ++ reason_text why ++ 10 ∷ []
