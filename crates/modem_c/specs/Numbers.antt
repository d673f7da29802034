-- Numbers and bits for C.
use Rattle.std.specs.Prelude.{ℕ, ◌+◌, Bool, false, not, nat_eq, List, [], ◌∷◌, ◌++◌, filter, map}
use Rattle.std.specs.Int.{bit_at}
use Rattle.std.specs.Int.Bits.{bit_and}
use Rattle.std.specs.List.{range_with_len}
use Rattle.at_text.specs.declared.dialect_error.DialectError.{DialectError}
use Rattle.at_text.specs.declared.rules.Form.{Form}
use Rattle.at_text.specs.declared.unsolicited.UrcKind.{UrcKind}
use Rattle.at_text.specs.Kinds.{kind_place}
use Rattle.mux_station.specs.declared.role.ChannelState.{ChannelState}

-- ## Kinds of unsolicited lines

-- the place of a kind, from 1 on: first those of the standards, then those of a dialect's own
abbrev pub kind_number : UrcKind → ℕ
kind_number kind = kind_place kind + 1

-- the bit of a kind in a set of kinds
abbrev pub kind_bit : UrcKind → ℕ
kind_bit UrcKind.Ring = 1
kind_bit UrcKind.Cring = 2
kind_bit UrcKind.Creg = 4
kind_bit UrcKind.Cgreg = 8
kind_bit UrcKind.Cgev = 16
kind_bit UrcKind.Ciev = 32
kind_bit UrcKind.Other = 64
kind_bit (UrcKind.Own number) = 128

abbrev pub all_kinds : List UrcKind
all_kinds = UrcKind.Ring ∷ UrcKind.Cring ∷ UrcKind.Creg ∷ UrcKind.Cgreg ∷ UrcKind.Cgev ∷ UrcKind.Ciev ∷ UrcKind.Other ∷ []

-- the kind is in the set
abbrev pub is_in : ℕ → UrcKind → Bool
is_in kinds kind = not (nat_eq (bit_and kinds (kind_bit kind)) 0)

-- the kinds of the set
abbrev pub kinds_in : ℕ → List UrcKind
kinds_in kinds = filter (is_in kinds) all_kinds

-- the kinds of a dialect's own: 64 places, since a dialect has at most 64 rules
abbrev pub own_kinds : List UrcKind
own_kinds = map UrcKind.Own (range_with_len 0 64)

-- the kind of a dialect's own at this place is in the set
abbrev pub is_own_in : ℕ → UrcKind → Bool
is_own_in own (UrcKind.Own place) = nat_eq (bit_at own place) 1
is_own_in own kind = false

-- the kinds of a dialect's own of the set
abbrev pub own_kinds_in : ℕ → List UrcKind
own_kinds_in own = filter (is_own_in own) own_kinds

-- the kinds of both sets
abbrev pub kinds_of_sets : (kinds own : ℕ) → List UrcKind
kinds_of_sets kinds own = kinds_in kinds ++ own_kinds_in own

-- ## Forms of a rule

abbrev pub form_number : Form → ℕ
form_number Form.Line = 1
form_number Form.Prefix = 2
form_number Form.Quoted = 3
form_number Form.Report = 4
form_number Form.OpenReport = 5

-- ## Refusals of a dialect

-- a dialect's refusal is 48 and its number; that of memory is 1, as everywhere
abbrev pub dialect_refusal : DialectError → ℕ
dialect_refusal DialectError.TooManyRules = 49
dialect_refusal DialectError.NoText = 50
dialect_refusal DialectError.TextTooLong = 51
dialect_refusal DialectError.LineEnd = 52
dialect_refusal DialectError.BadName = 53
dialect_refusal DialectError.Command = 54
dialect_refusal DialectError.Ambiguous = 55
dialect_refusal DialectError.NoMemory = 1

-- ## States of a connection

abbrev pub state_number : ChannelState → ℕ
state_number ChannelState.Shut = 1
state_number ChannelState.Opening = 2
state_number ChannelState.Opened = 3
state_number ChannelState.Closing = 4
state_number ChannelState.Stopping = 5
