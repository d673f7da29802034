-- Kinds of unsolicited lines, compared.
use Rattle.std.specs.Prelude.{ℕ, ◌+◌, nat_eq, Bool}
use Rattle.std.specs.Ordering.{on}
use Rattle.at_text.specs.declared.unsolicited.UrcKind.{UrcKind}
use Rattle.at_text.specs.declared.unsolicited.UrcKind.TheVariants.{Ring, Cring, Creg, Cgreg, Cgev, Ciev, Other, Own}

-- the place of a kind: first those of the standards, then those of one's own
abbrev pub kind_place : UrcKind → ℕ
kind_place Ring = 0
kind_place Cring = 1
kind_place Creg = 2
kind_place Cgreg = 3
kind_place Cgev = 4
kind_place Ciev = 5
kind_place Other = 6
kind_place (Own number) = 7 + number

-- two kinds are the same: they have one place
abbrev pub is_same_kind : UrcKind → UrcKind → Bool
is_same_kind = on kind_place nat_eq
