-- What follows a comma that was searched for.
use Rattle.std.specs.Prelude.{◌≡◌, ℕ, zero, suc, ◌+◌, ◌-◌, ◌<◌, Bool, true, false, List, [], ◌∷◌, length, take, drop, Option, None, Some, refl, if◌then◌else◌}
use Rattle.std.proofs.Common.{arith, add-one}
use Rattle.std.proofs.lemmas.List.{take_all, length-drop}
use Rattle.memchr.specs.Find.{IsFirst, Passes, is_byte}
use Rattle.at_text.specs.Octets.{is_comma, after_comma}

abbrev IsComma : List ℕ → ℕ → Type 0
IsComma text k = Passes (is_byte 44) text k

past_no_comma : (b : Bool) (text : List ℕ) (r : Option (List ℕ)) → ¬ (b ≡ true) → after_comma text ≡ r → (if b then Some text else after_comma text) ≡ r
past_no_comma true text r absent h = absurd (absent refl)
past_no_comma false text r absent h = h

-- where no octet is a comma, nothing follows one
pub after_no_comma : (text : List ℕ) → ((k : ℕ) → k < length text → ¬ IsComma text k) → after_comma text ≡ None
after_no_comma [] none = refl
after_no_comma (c ∷ text) none =
    past_no_comma (is_comma c) text None (none 0 (omega arith)) (after_no_comma text (λ k l. none (suc k) (omega (arith, l))))

-- where a first one is, what stands behind it follows
pub after_first_comma : (text : List ℕ) (k : ℕ) → k < length text → ((j : ℕ) → j < k → ¬ IsComma text j) → IsComma text k → after_comma text ≡ Some (drop (suc k) text)
after_first_comma [] k l none is = absurd (omega (arith, l))
after_first_comma (c ∷ text) zero l none is = rw is refl
after_first_comma (c ∷ text) (suc k) l none is =
    past_no_comma (is_comma c) text (Some (drop (suc k) text)) (none 0 (omega arith))
    (after_first_comma text k (omega (arith, l)) (λ j m. none (suc j) (omega (arith, m))) is)

-- a search that finds no comma says that nothing follows one
pub behind_none : (text : List ℕ) → IsFirst (IsComma text) 0 (length text) None → after_comma text ≡ None
behind_none text none = after_no_comma text (λ k l. none k (omega arith) l)

-- one that finds it says where what follows stands
pub behind_some : (text : List ℕ) (k : ℕ) → IsFirst (IsComma text) 0 (length text) (Some k) → after_comma text ≡ Some (take (length text - (k + 1)) (drop (k + 1) text))
behind_some text k at =
    let all : take (length text - (k + 1)) (drop (k + 1) text) ≡ drop (k + 1) text = take_all (length text - (k + 1)) (drop (k + 1) text) (rw length-drop (omega arith)) in
    rw all (rw add-one (after_first_comma text k at.0.high (λ j l. at.0.before j (omega arith) l) at.1))
