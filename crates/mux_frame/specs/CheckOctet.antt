-- The check octet (27.010, 5.2.1.6).
use Rattle.std.specs.Prelude.{ℕ, zero, suc, ◌+◌, ◌-◌, ◌*◌, ◌==◌, Bool, true, false, not, List, [], ◌∷◌, ◌++◌, length, take, drop, map, flat_map, if◌then◌else◌}
use Rattle.std.specs.Int.{bit_at}

-- the bits of an octet, low bit first
abbrev pub octet_bits : ℕ → List Bool
octet_bits x = map (λ i. bit_at x i == 1) (0 ∷ 1 ∷ 2 ∷ 3 ∷ 4 ∷ 5 ∷ 6 ∷ 7 ∷ [])

-- the bits of octets, in the order in which they are sent
abbrev pub bits_of : List ℕ → List Bool
bits_of octets = flat_map octet_bits octets

-- the number of these bits, low bit first
abbrev pub number_of : List Bool → ℕ
number_of [] = 0
number_of (b ∷ bs) = (if b then 1 else 0) + 2 * number_of bs

-- the sum of two bits, without carry
abbrev pub bit_sum : Bool → Bool → Bool
bit_sum true b = not b
bit_sum false b = b

-- the bits, with the first list added to their front
abbrev pub added : List Bool → List Bool → List Bool
added [] bs = bs
added (x ∷ xs) [] = []
added (x ∷ xs) (b ∷ bs) = bit_sum x b ∷ added xs bs

-- x^8 + x^2 + x + 1, highest power first
abbrev pub generator : List Bool
generator = true ∷ false ∷ false ∷ false ∷ false ∷ false ∷ true ∷ true ∷ true ∷ []

-- one step of the long division: the generator is added where the first bit is set, and that bit is gone
abbrev pub divided_once : List Bool → List Bool
divided_once [] = []
divided_once (b ∷ bs) = drop 1 (if b then added generator (b ∷ bs) else b ∷ bs)

-- what n steps of the long division leave
abbrev pub divided : ℕ → List Bool → List Bool
divided zero bs = bs
divided (suc n) bs = divided n (divided_once bs)

-- the remainder by the generator: eight bits, highest power first
abbrev pub remainder : List Bool → List Bool
remainder bs = divided (length bs - 8) bs

-- eight zeros
abbrev pub zeros : List Bool
zeros = false ∷ false ∷ false ∷ false ∷ false ∷ false ∷ false ∷ false ∷ []

-- the bits, the first eight of them inverted
abbrev pub first_inverted : List Bool → List Bool
first_inverted bs = map not (take 8 bs) ++ drop 8 bs

-- The check octet of these octets. The last bits of the division are complemented, and the bit of the highest
-- power is the octet's low bit.
unfoldable pub check_octet_of : List ℕ → ℕ
check_octet_of octets = number_of (map not (remainder (first_inverted (bits_of octets ++ zeros))))
