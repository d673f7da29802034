-- The dialect of an input, and why it has none.
use Rattle.std.specs.Prelude.{ℕ, List, Option, IfSome}
use Rattle.at_text.specs.Rules.{Rules}
use Rattle.ctl_text.specs.DialectTexts.{AreLinesOf, IsDialectRefusal}
use Rattle.ctl_text.specs.Input.{input_lines}
use Rattle.ctl_text.specs.declared.dialects.DialectRefusal.{DialectRefusal}
use Rattle.ctl_run.specs.declared.stop.DialectFault.{DialectFault}
use Rattle.ctl_run.specs.declared.stop.Stop.{Stop}

-- some text is that of these rules, where what the input had is nobody's to say
pub record HasText (rules : Rules) : Type 0 where
  pub text : List ℕ
  pub lines : AreLinesOf (input_lines text) rules

-- a line of it is the first bad one, and is so for this reason
abbrev pub IsDialectFault : (input : Option (List ℕ)) → DialectFault → Type 0
IsDialectFault input (DialectFault.NoRule place wrong) =
    IfSome input (λ text. IsDialectRefusal (input_lines text) (DialectRefusal.NoRule place wrong))
IsDialectFault input (DialectFault.Clashes place found) =
    IfSome input (λ text. IsDialectRefusal (input_lines text) (DialectRefusal.Clashes place found))
IsDialectFault input (DialectFault.Refused place why) =
    IfSome input (λ text. IsDialectRefusal (input_lines text) (DialectRefusal.Refused place why))

-- the causes for which there is no dialect: memory was refused, the reader failed, or a line is bad
abbrev pub IsDialectStop : (input : Option (List ℕ)) → Stop → Type 0
IsDialectStop input Stop.NoMemory = Unit {0}
IsDialectStop input Stop.Input = Unit {0}
IsDialectStop input (Stop.Dialect fault) = IsDialectFault input fault
IsDialectStop input (Stop.BadLine place why) = ⊥
IsDialectStop input Stop.Output = ⊥
IsDialectStop input Stop.Line = ⊥
IsDialectStop input (Stop.GaveUp cause) = ⊥
IsDialectStop input Stop.BadN1 = ⊥
IsDialectStop input Stop.BadCallers = ⊥
IsDialectStop input Stop.BadCut = ⊥
