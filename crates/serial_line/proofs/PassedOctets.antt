-- Octets that have passed.
use Rattle.std.proofs.Common.{◌≡◌, ◌∙◌, sym, ℕ, ◌+◌, ◌++◌, List, length, take, drop, refl}
use Rattle.std.proofs.Math.Seq.{take-add, take-append_seam}
use Rattle.std.proofs.lemmas.List.{drop-drop}
use Rattle.serial_line.specs.Tape.{Track, with_passed}

-- first so many pass, and then so many more
pub passes_more : (octets : List ℕ) (p n room : ℕ)
    → let track : Track = record { gone = take p octets; ahead = drop p octets; room = room } in record { gone = take (p + n) octets; ahead = drop (p + n) octets; room = room } ≡ with_passed track n
passes_more octets p n room = rw (take-add p n octets, drop-drop n p octets) refl

-- what has passed stays where more comes
pub passed_stay : (gone ahead more : List ℕ) → take (length gone) (gone ++ (ahead ++ more)) ≡ take (length gone) (gone ++ ahead)
passed_stay gone ahead more = take-append_seam gone (ahead ++ more) ∙ sym (take-append_seam gone ahead)
