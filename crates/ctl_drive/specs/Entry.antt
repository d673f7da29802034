-- What enters the multiplexer (27.007, 5.7).
use Rattle.std.specs.Prelude.{ℕ, ◌==◌, List, [], ◌++◌, Option, None, Some, option_map, codes, if◌then◌else◌}
use Rattle.std.specs.Fmt.{decimal}
use denote.Ref.{Bor}

-- AT+CMUX=0, with N1 where it isn't 31, and CR
abbrev pub entry_text : ℕ → List ℕ
entry_text n1 =
    codes "AT+CMUX=0" ++ (if n1 == 31 then [] else codes ",0,," ++ decimal n1) ++ codes "\r"

-- the text that was given, and CR; where none was, that of this N1
abbrev pub entry_for : (given : Option (List ℕ)) → (n1 : ℕ) → List ℕ
entry_for (Some given) n1 = given ++ codes "\r"
entry_for None n1 = entry_text n1

-- the text that the settings give, if they give one
abbrev pub given_text : Option (Bor (List ℕ)) → Option (List ℕ)
given_text given = option_map (λ t. t.now) given
