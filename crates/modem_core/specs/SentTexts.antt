-- A command as it goes out.
use Rattle.std.specs.Prelude.{ℕ, List, [], ◌∷◌, ◌++◌}
use Rattle.modem_desk.specs.declared.request.Request.{Request}
use Rattle.modem_history.specs.Information.{line_of}

-- a command's text and its CR
abbrev pub text_of : Request → List ℕ
text_of q = line_of q ++ 13 ∷ []
