-- Worked prompts (27.005, 3.3.1, 3.5.1): CR LF `>` blank, 0D 0A 3E 20.
use Rattle.std.specs.Prelude.{◌≡◌, ℕ, true, false, List, [], ◌∷◌, ◌++◌, codes}
use Rattle.modem_data.specs.Switching.{Idle, Prompts, Marked, Sends, Owes, released, before_of, behind_of}
use Rattle.modem_data.specs.SwitchRows.{IsCutSo, crlf}

abbrev prompt : List ℕ
prompt = 62 ∷ 32 ∷ []

pub record PromptsSo : Type 0 where
  -- the prompt as the standard has it: its two octets are no line, what stands before and behind is
  pub whole : IsCutSo (Prompts true) (crlf ++ prompt) crlf [] Sends
  pub behind_echo : IsCutSo (Prompts true) (codes "AT+CMGS=1" ++ (13 ∷ crlf ++ prompt)) (codes "AT+CMGS=1" ++ (13 ∷ crlf)) [] Sends
  pub behind_it : IsCutSo (Prompts true) (crlf ++ prompt ++ crlf ++ codes "+CMGS: 5" ++ crlf) (crlf ++ crlf ++ codes "+CMGS: 5" ++ crlf) [] Sends
  -- cut between the two octets: the first is held back
  pub cut_in_it : IsCutSo (Prompts true) (crlf ++ 62 ∷ []) crlf [] Marked
  pub blank_later : IsCutSo Marked (32 ∷ []) [] [] Sends
  pub nothing_later : IsCutSo Marked [] [] [] Marked
  pub more_later : IsCutSo Marked (32 ∷ crlf) crlf [] Sends
  -- held back, and no prompt: it goes before what comes
  pub other_later : IsCutSo Marked (65 ∷ []) (62 ∷ 65 ∷ []) [] (Prompts false)
  pub end_later : IsCutSo Marked crlf (62 ∷ crlf) [] (Prompts true)
  pub prompt_later : IsCutSo Marked (13 ∷ prompt) (62 ∷ 13 ∷ []) [] Sends
  pub it_goes_first : released Marked (13 ∷ prompt ++ crlf) ≡ 62 ∷ []
  pub before_later : before_of Marked (13 ∷ prompt ++ crlf) ≡ 13 ∷ []
  pub behind_later : behind_of Marked (13 ∷ prompt ++ crlf) ≡ crlf
  -- no prompts: `>>`, `>` and a line end, `> ` in the middle of a line, and one that a line end or a blank stands in
  pub two_marks : IsCutSo (Prompts true) (62 ∷ prompt) (62 ∷ prompt) [] (Prompts false)
  pub ended_mark : IsCutSo (Prompts true) (62 ∷ crlf) (62 ∷ crlf) [] (Prompts true)
  pub in_a_line : IsCutSo (Prompts true) (65 ∷ prompt) (65 ∷ prompt) [] (Prompts false)
  pub at_its_end : IsCutSo (Prompts false) (62 ∷ []) (62 ∷ []) [] (Prompts false)
  pub parted : IsCutSo (Prompts true) (62 ∷ 13 ∷ 32 ∷ []) (62 ∷ 13 ∷ 32 ∷ []) [] (Prompts false)
  pub blank_first : IsCutSo (Prompts true) (32 ∷ prompt) (32 ∷ prompt) [] (Prompts false)
  -- a final code in place of the prompt
  pub refused : IsCutSo (Prompts true) (crlf ++ codes "+CMS ERROR: 500" ++ crlf) (crlf ++ codes "+CMS ERROR: 500" ++ crlf) [] (Prompts true)
  -- behind the first prompt all are lines
  pub once : IsCutSo Sends (crlf ++ prompt) (crlf ++ prompt) [] Sends
  -- the lane was ended while a `>` was held back
  pub owed_first : IsCutSo Owes (65 ∷ 13 ∷ []) (62 ∷ 65 ∷ 13 ∷ []) [] Idle
  pub owed_blank : IsCutSo Owes (32 ∷ []) (62 ∷ 32 ∷ []) [] Idle
  pub owed_still : IsCutSo Owes [] [] [] Owes
