-- Worked inputs, each with its bad lines; and what stands on a writer that was given two texts.
use Rattle.std.specs.Prelude.{◌≡◌, List, ℕ, [], ◌∷◌, Some, codes}
use Rattle.ctl_text.specs.Input.{input_lines}
use Rattle.ctl_text.specs.declared.expected.Expected.{Expected}
use Rattle.ctl_text.specs.declared.expected.Expected.TheVariants.{Carrier, Command}
use Rattle.file_threads.specs.Said.{AreSaid}
use Rattle.ctl_drive.specs.Saying.{AreBad, BadLine, bad_text}

abbrev pub bad_at : ℕ → Expected → List BadLine → List BadLine
bad_at place why more = record { place = place; why = why } ∷ more

-- the bad one is the second of three lines
abbrev pub three_lines : List ℕ
three_lines = codes "1 AT\nx\n2 AT\n"

-- these are the bad lines
pub record AreWorked : Type 0 where
  pub no_input : AreBad (input_lines []) []
  pub between : AreBad (input_lines three_lines) (bad_at 2 Carrier [])
  pub empty_line : AreBad (input_lines (codes "\nx")) (bad_at 2 Carrier [])
  pub cr_before_lf : AreBad (input_lines (codes "1 AT\r\n")) []
  pub cr_alone : AreBad (input_lines (codes "1 AT\r")) (bad_at 1 Command [])
  pub text : bad_text 2 Carrier ≡ codes "bad line 2\na connection is 1 to 61, without leading zeros\n"

-- and these aren't
pub record AreRefused : Type 0 where
  pub place_before : AreBad (input_lines three_lines) (bad_at 1 Carrier []) → ⊥
  pub another_reason : AreBad (input_lines three_lines) (bad_at 2 Command []) → ⊥
  pub none : AreBad (input_lines three_lines) [] → ⊥
  pub all : AreBad (input_lines three_lines) (bad_at 1 Carrier (bad_at 2 Carrier (bad_at 3 Carrier []))) → ⊥
  pub twice : AreBad (input_lines three_lines) (bad_at 2 Carrier (bad_at 2 Carrier [])) → ⊥
  pub empty_line : AreBad (input_lines (codes "\n")) (bad_at 1 Carrier []) → ⊥

-- two texts of an octet each
abbrev pub two_texts : List (List ℕ)
two_texts = (1 ∷ []) ∷ (2 ∷ []) ∷ []

-- a writer that takes both, one that takes nothing of the first, and one that takes nothing
pub record AreTaken : Type 0 where
  pub both : AreSaid (Some []) (Some (1 ∷ 2 ∷ [])) two_texts
  pub second : AreSaid (Some []) (Some (2 ∷ [])) two_texts
  pub nothing : AreSaid (Some []) (Some []) two_texts

-- what doesn't come of them: the first again, the other order, another octet behind them, and what was there before lost
pub record AreNotTaken : Type 0 where
  pub again : AreSaid (Some []) (Some (1 ∷ 1 ∷ [])) two_texts → ⊥
  pub turned : AreSaid (Some []) (Some (2 ∷ 1 ∷ [])) two_texts → ⊥
  pub more : AreSaid (Some []) (Some (1 ∷ 2 ∷ 3 ∷ [])) two_texts → ⊥
  pub lost : AreSaid (Some (3 ∷ [])) (Some (1 ∷ 2 ∷ [])) two_texts → ⊥
