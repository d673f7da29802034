-- A line is a final code just where it says one.
use Rattle.std.specs.Prelude.{◌≡◌, ◌||◌, ℕ, nat_eq, Bool, true, false, List, Option, Some, None, is_some, refl, if◌then◌else◌, codes}
use Rattle.std.specs.List.{starts_with}
use Rattle.std.specs.Str.{bytes_eq}
use Rattle.at_text.specs.Finals.{final_of, is_final}

some_by : {T : Type 0} (a b c : Bool) (x y z : T) → is_some (if a then Some x else if b then Some y else if c then Some z else None) ≡ (a || (b || c))
some_by true b c x y z = refl
some_by false true c x y z = refl
some_by false false true x y z = refl
some_by false false false x y z = refl

-- a line is a final code just where `final_of` says which
pub final_is : (line : List ℕ) → is_some (final_of line) ≡ is_final line
final_is line = some_by (bytes_eq line (codes "OK")) (bytes_eq line (codes "ERROR")) (starts_with nat_eq line (codes "+CME ERROR:")) _ _ _
