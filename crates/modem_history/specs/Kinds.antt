-- Kinds of lines, compared and listened to.
use Rattle.std.specs.Prelude.{ℕ, ◌==◌, Bool, List, [], ◌∷◌, filter}
use Rattle.std.specs.List.{list_any}
use Rattle.at_text.specs.declared.unsolicited.UrcKind.{UrcKind}
use Rattle.at_text.specs.declared.unsolicited.UrcKind.TheVariants.{Ring, Cring, Creg, Cgreg, Cgev, Ciev, Other}
use Rattle.at_text.specs.Kinds.{is_same_kind}
use Rattle.modem_desk.specs.declared.request.Urc.{Urc}

-- the kinds of the standards, and Other
abbrev pub standard_kinds : List UrcKind
standard_kinds = Ring ∷ Cring ∷ Creg ∷ Cgreg ∷ Cgev ∷ Ciev ∷ Other ∷ []

-- the kind is among these
abbrev pub is_listened : List UrcKind → UrcKind → Bool
is_listened kinds k = list_any (is_same_kind k) kinds

-- the lines of this kind, and those that came on d
abbrev pub of_kind : UrcKind → List Urc → List Urc
of_kind k lines = filter (λ (u : Urc). is_same_kind k u.kind) lines

abbrev pub on_channel : ℕ → List Urc → List Urc
on_channel d lines = filter (λ (u : Urc). u.dlci.number == d) lines
