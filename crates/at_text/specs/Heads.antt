-- The places of the rules that take a line, by its third and fourth octet.
use Rattle.std.specs.Prelude.{◌≡◌, ◌<◌, ◌≤◌, ℕ, ◌+◌, ◌*◌, ◌%◌, nat_le, Bool, true, List, length, map, Some, slice_index, slice_index_or}
use Rattle.std.specs.List.{slice_get}
use Rattle.at_text.specs.declared.heads.Span.{Span}
use Rattle.at_text.specs.declared.rules.Form.{Form}
use Rattle.at_text.specs.declared.rules.Form.TheVariants.{Line}
use Rattle.at_text.specs.declared.rules.Pattern.{Pattern}
use Rattle.at_text.specs.Rules.{Rules, takes}
use Rattle.at_text.specs.Refusals.{IsSound}

-- a number below 64, where what is missing of a line counts as 0
abbrev pub head : List ℕ → ℕ
head line = (slice_index line 2 * 31 + slice_index line 3) % 64

-- all lines of a rule have the head of its text
abbrev pub is_headed : Form → List ℕ → Bool
is_headed Line text = true
is_headed _ text = nat_le 4 (length text)

-- the span of no places
abbrev pub no_places : Span
no_places = record { start = 0; end = 0 }

-- the span of a head
abbrev pub span_at : List Span → ℕ → Span
span_at spans k = slice_index_or spans k no_places

-- a place is in a span
pub record IsIn (place : ℕ) (span : Span) : Type 0 where
  pub from : span.start ≤ place
  pub below : place < span.end

-- whenever the rule at a place takes a line, the place is in the span of the line's head
abbrev pub AreSpanned : List Pattern → List Span → Type 0
AreSpanned rules spans =
    (place : ℕ) (rule : Pattern) (line : List ℕ)
    → slice_get rules place ≡ Some rule → takes rule line ≡ true → IsIn place (span_at spans (head line))

-- what a dialect keeps: sound rules, and spans of the final and of the unsolicited ones
pub record IsKept (rules : Rules) (final_spans urc_spans : List Span) : Type 0 where
  pub sound : IsSound rules
  pub finals : AreSpanned rules.finals final_spans
  pub urcs : AreSpanned (map (λ u. u.pattern) rules.urcs) urc_spans
