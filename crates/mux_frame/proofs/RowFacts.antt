-- The worked examples, computed.
use Rattle.std.proofs.Common.{◌≡◌, ℕ, zero, suc, Bool, true, ◌&&◌, List, [], ◌∷◌, ◌++◌, length, refl, arith, lit<}
use Rattle.std.specs.Prelude.{nat_lt, replicate}
use Rattle.std.proofs.lemmas.Bool.{ltb-true, and_parts}
use Rattle.mux_frame.specs.CheckOctet.{check_octet_of}
use Rattle.mux_frame.specs.Spelling.{body_of}
use Rattle.mux_frame.specs.Reading.{Reads}
use Rattle.mux_frame.specs.Judging.{verdict_on, by_header, by_end}
use Rattle.mux_frame.specs.Laws.{AreOctets}
use Rattle.mux_frame.specs.Rows.{AreSpelled, AreRead}
use Rattle.mux_frame.proofs.readings.ComputedReadings.{found_in, found_reads}

-- the frames of the examples are spelled so
pub spelled_so : AreSpelled
unfolding check_octet_of body_of
spelled_so = refl

abbrev all_small : List ℕ → Bool
all_small [] = true
all_small (x ∷ xs) = nat_lt x 256 && all_small xs

small_octets : (xs : List ℕ) → all_small xs ≡ true → AreOctets xs
small_octets [] e i = lit< tt
small_octets (x ∷ xs) e zero = ltb-true x 256 (and_parts (nat_lt x 256) (all_small xs) e).0
small_octets (x ∷ xs) e (suc i) = small_octets xs (and_parts (nat_lt x 256) (all_small xs) e).1 i

-- the reading of these octets
reading : (s : List ℕ) → all_small s ≡ true → Reads 31 s (found_in 31 (length s) s).frames (found_in 31 (length s) s).rest
reading s e = found_reads 31 (length s) s (omega arith) (small_octets s e)

-- and their texts are read so
pub read_so : AreRead
unfolding check_octet_of verdict_on by_header by_end
read_so = record {
  cut_by_next = reading (0xF9 ∷ 0x05 ∷ 0xEF ∷ 0x0D ∷ 0x41 ∷ 0x42 ∷ 0xF9 ∷ 0x03 ∷ 0x73 ∷ 0x01 ∷ 0xD7 ∷ 0xF9 ∷ []) refl;
  one_off = reading (0xF9 ∷ 0x03 ∷ 0x73 ∷ 0x01 ∷ 0xD6 ∷ 0xF9 ∷ 0x07 ∷ 0x73 ∷ 0x01 ∷ 0x15 ∷ 0xF9 ∷ []) refl;
  flags_inside = reading (0xF9 ∷ 0x05 ∷ 0xEF ∷ 0x05 ∷ 0xF9 ∷ 0xF9 ∷ 0x51 ∷ 0xF9 ∷ []) refl;
  most = reading (0xF9 ∷ 0x05 ∷ 0xEF ∷ 0x3F ∷ (replicate 31 0x41 ++ 0x98 ∷ 0xF9 ∷ [])) refl;
  too_long = reading (0xF9 ∷ 0x05 ∷ 0xEF ∷ 0x41 ∷ (replicate 32 0x41 ++ 0x26 ∷ 0xF9 ∷ [])) refl;
  two_octets = reading (0xF9 ∷ 0x05 ∷ 0xEF ∷ 0x0A ∷ 0x00 ∷ 0x41 ∷ 0x41 ∷ 0x41 ∷ 0x41 ∷ 0x41 ∷ 0xE5 ∷ 0xF9 ∷ []) refl;
  two_zeros = reading (0xF9 ∷ 0x03 ∷ 0x3F ∷ 0x00 ∷ 0x00 ∷ 0x48 ∷ 0xF9 ∷ []) refl;
  dropped_length = reading (0xF9 ∷ 0x05 ∷ 0xEF ∷ 0x41 ∷ []) refl;
  dropped_long_length = reading (0xF9 ∷ 0x05 ∷ 0xEF ∷ 0x40 ∷ []) refl;
  dropped_check = reading (0xF9 ∷ 0x03 ∷ 0x73 ∷ 0x01 ∷ 0xD6 ∷ []) refl;
  kept_long_length = reading (0xF9 ∷ 0x05 ∷ 0xEF ∷ 0x3E ∷ []) refl;
  nothing = reading [] refl;
  only_flags = reading (0x00 ∷ 0xF9 ∷ 0xF9 ∷ 0xF9 ∷ []) refl;
}
