-- The names of the dialects that come ready.
use Rattle.std.specs.Prelude.{ℕ, List, Option, None, Some, codes, if◌then◌else◌}
use Rattle.std.specs.Str.{bytes_eq}
use Rattle.at_text.specs.KnownRules.{common, dialling}
use Rattle.at_text.specs.Rules.{Rules}

-- the rules of the dialect that comes ready under a name
abbrev pub dialect_with_name : List ℕ → Option Rules
dialect_with_name name =
    if bytes_eq name (codes "common") then Some common
    else if bytes_eq name (codes "dialling") then Some dialling
    else None
