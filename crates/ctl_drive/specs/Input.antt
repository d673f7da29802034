-- The lines of an input, as they come.
use Rattle.std.specs.Prelude.{◌≡◌, ℕ, Bool, true, false, List, [], ◌∷◌, ◌++◌, Option, None, Some}
use Rattle.std.specs.Io.KnownBytes.{Consumes, IsAtEnd}
use Rattle.ctl_text.specs.Input.{input_lines}
use Rattle.std.specs.declared.vec.Vec.{Vec}
use Rattle.std.specs.declared.alloc.Global.{Global}

-- what the reader has left, where that is known; the octets read of which no line is given yet; whether the reader gave its
-- end or failed, and whether it failed
pub record LinesView : Type 0 where
  pub left : Option (List ℕ)
  pub text : List ℕ
  pub ended : Bool
  pub failed : Bool

-- Since the reader had this left, these lines were given, in order: whatever still comes, they are the first lines of all that
-- came and comes. Where the reader has ended, nothing comes any more; unless it failed, it has nothing left.
pub record HasRead (first : Option (List ℕ)) (l : LinesView) (lines : List (List ℕ)) : Type 0 where
  pub came : List ℕ
  pub consumed : Consumes first l.left came
  pub lines_are : (more : List ℕ) → (l.ended ≡ true → more ≡ [])
      → input_lines (came ++ more) ≡ lines ++ input_lines (l.text ++ more)
  pub at_end : l.ended ≡ true → l.failed ≡ false → IsAtEnd l.left

-- some lines more were given: these
unfoldable pub Reads : (old new : LinesView) → List (List ℕ) → Type 0
Reads old new more =
    (first : Option (List ℕ)) (lines : List (List ℕ)) → HasRead first old lines → HasRead first new (lines ++ more)

-- the line that was given, if one was
abbrev pub line_in : Option (Vec ℕ Global) → List (List ℕ)
line_in None = []
line_in (Some line) = line.items ∷ []
