-- Only one part of a line is the first that isn't as it must be.
use Rattle.std.specs.Prelude.{◌≡◌, ℕ, List}
use Rattle.std.proofs.Common.{sym, inl, inr, ◌∙◌}
use Rattle.ctl_text.specs.LineFaults.{CommandFault, ConnectionFault, IsCarrier, IsConnection, Wants, WantsNoMore, first_word}
use Rattle.ctl_text.specs.declared.expected.Expected.{Expected}

-- what has one fault at most
abbrev pub HasOne : (Expected → Type 0) → Type 0
HasOne Has = (a b : Expected) → Has a → Has b → a ≡ b

-- a part, and what is wanted behind it, have one fault at most, if the latter has
pub one_wanted : (Wanted : Type 0) (fault : Expected) (Later : Expected → Type 0) → HasOne Later → HasOne (Wants Wanted fault Later)
one_wanted Wanted fault Later later a b (inl x) (inl y) = x.1 ∙ sym y.1
one_wanted Wanted fault Later later a b (inl x) (inr y) = absurd (x.0 y.0)
one_wanted Wanted fault Later later a b (inr x) (inl y) = absurd (y.0 x.0)
one_wanted Wanted fault Later later a b (inr x) (inr y) = later a b x.1 y.1

one_none : HasOne WantsNoMore
one_none a b x y = absurd x

-- so has the last part of a line
pub one_last : (Wanted : Type 0) (fault : Expected) → HasOne (Wants Wanted fault WantsNoMore)
one_last Wanted fault = one_wanted Wanted fault WantsNoMore one_none

-- a connection at the end of a line has one fault at most
pub one_connection : (words : List ℕ) → HasOne (ConnectionFault words)
one_connection words = one_wanted (IsConnection (first_word words)) Expected.Connection _ (one_last (first_word words ≡ words) Expected.End)

-- and so has a command on a connection
pub one_command : (words : List ℕ) → HasOne (CommandFault words)
one_command words = one_wanted (IsCarrier (first_word words)) Expected.Carrier _ (one_last _ Expected.Command)
