-- The worked faults of lines.
use Rattle.std.specs.Prelude.{◌≡◌, ◌≢◌, ℕ, ◌+◌, ◌/◌, ◌%◌, ◌<◌, ◌≤◌, nat_lt, Bool, true, false, List, [], ◌∷◌, length, codes, Some, None, Result, Ok, Err, refl, if◌then◌else◌}
use Rattle.std.specs.Fmt.{decimal}
use Rattle.std.proofs.Common.{sym, ap, arith, inl, inr, ◌∙◌}
use Rattle.std.proofs.lemmas.Fmt.{decimal_digit, decimal_nonempty}
use Rattle.hex.specs.Hex.{decode_of, decode_pairs}
use Rattle.hex.specs.declared.error.FromHexError.{FromHexError}
use Rattle.hex.specs.declared.error.FromHexError.TheVariants.{OddLength}
use Rattle.ctl_text.specs.LineFaults.{IsCarrier, IsConnection}
use Rattle.ctl_text.specs.Words.{number_text}
use Rattle.ctl_run.specs.LineFaultRows.{AreDumpFaults, AreEventFaults, AreStepFaults, AreSubmissionFaults}
use Rattle.ctl_run.specs.LineFaults.{HasOctets, HasProbe, IsCaller, IsCount}
use Rattle.ctl_run.proofs.inputs.WordFaults.{no_octets}

-- ## Numbers

none_at : (b : Bool) (one high low : ℕ) → [] ≡ (if b then one ∷ [] else high ∷ low ∷ []) → ⊥
none_at true one high low e = cc
none_at false one high low e = cc

empty_is_none : (n : ℕ) → [] ≢ number_text n
empty_is_none n e = none_at (nat_lt n 10) _ _ _ e

two_at : (b : Bool) (n high low : ℕ) → high ∷ low ∷ [] ≡ (if b then (48 + n) ∷ [] else (48 + n / 10) ∷ (48 + n % 10) ∷ []) → (high ≡ 48 + n / 10) × (low ≡ 48 + n % 10)
two_at true n high low e = absurd (cc)
two_at false n high low e = (cc, cc)

sixty_two : (n : ℕ) → n < 62 → codes "62" ≢ number_text n
sixty_two n l e = let d = two_at (nat_lt n 10) n 54 50 e in let h = d.0 in let k = d.1 in omega (arith, h, k, l)

one_at : (b : Bool) (n digit : ℕ) → digit ∷ [] ≡ (if b then (48 + n) ∷ [] else (48 + n / 10) ∷ (48 + n % 10) ∷ []) → digit ≡ 48 + n
one_at true n digit e = cc
one_at false n digit e = absurd (cc)

no_such_caller : (n : ℕ) → n < 2 → codes "2" ≢ number_text n
no_such_caller n l e = let d = one_at (nat_lt n 10) n 50 e in omega (arith, d, l)

control_alone : (n : ℕ) → 1 ≤ n → codes "0" ≢ number_text n
control_alone n l e = let d = one_at (nat_lt n 10) n 48 e in omega (arith, d, l)

zero : IsConnection (codes "0")
zero = record { number = 0; known = omega arith; word_is = refl }

one : IsConnection (codes "1")
one = record { number = 1; known = omega arith; word_is = refl }

-- ## Octets

abbrev seventeen_octets : List ℕ
seventeen_octets = 0 ∷ 1 ∷ 2 ∷ 3 ∷ 4 ∷ 5 ∷ 6 ∷ 7 ∷ 8 ∷ 9 ∷ 10 ∷ 11 ∷ 12 ∷ 13 ∷ 14 ∷ 15 ∷ 16 ∷ []

ok_is : (x y : List ℕ) (r : Result (List ℕ) FromHexError) → r ≡ Ok x → r ≡ Ok y → x ≡ y
ok_is x y r e f = let same : Ok x ≡ Ok y = sym e ∙ f in cc

decodes : decode_of (codes "000102030405060708090a0b0c0d0e0f10") ≡ Ok seventeen_octets
unfolding decode_pairs
decodes = refl

many : HasProbe (codes "000102030405060708090a0b0c0d0e0f10") → ⊥
many h =
    let same : seventeen_octets ≡ h.octets = ok_is seventeen_octets h.octets (decode_of (codes "000102030405060708090a0b0c0d0e0f10")) decodes h.are.0 in
    let long : 17 ≡ length h.octets = ap length same in
    let few = h.few in
    omega (arith, long, few)

seventeen : HasOctets (codes "000102030405060708090a0b0c0d0e0f10")
seventeen = record { octets = seventeen_octets; are = (decodes, λ e. cc) }

odd : (x : List ℕ) (r : Result (List ℕ) FromHexError) → r ≡ Err OddLength → r ≡ Ok x → ⊥
odd x r e f = let same : Err OddLength ≡ Ok x = sym e ∙ f in cc

-- ## Rows

-- the worked lines of a replay's script have these faults
pub event_faults : AreEventFaults
event_faults = record {
  other_word = refl;
  upper_case = refl;
  blank_first = refl;
  word_alone = inl (λ h. empty_is_none h.number h.word_is, refl);
  too_great = inl (λ h. sixty_two h.number h.known h.word_is, refl);
  blank_twice = inl (λ h. empty_is_none h.number h.word_is, refl);
  no_line = inr (one, inl (λ e. cc, refl));
  no_prefix = inr (one, inl (λ e. cc, refl));
  half_an_octet = inl (λ h. odd h.octets (decode_of (codes "f9037")) refl h.are.0, refl);
  blank_between = inl (λ h. odd h.octets (decode_of (codes "f9 03")) refl h.are.0, refl);
  no_octets = inl (no_octets, refl);
  seventeen = inr (seventeen, inl (many, refl));
  blank_behind = inr (zero, inl (λ e. cc, refl));
  word_behind = inl (λ e. cc, refl);
}

no_count : IsCount [] → ⊥
no_count h =
    let some = decimal_nonempty h.number h.small in
    let none : 0 ≡ length (decimal h.number) = ap length h.word_is in
    omega (arith, some, none)

one_command : IsCount (codes "1")
one_command = record { number = 1; small = omega arith; word_is = sym (decimal_digit 1 (omega arith)) }

-- and those of a modem's script
pub step_faults : AreStepFaults
step_faults = record {
  blank_first = inl (no_count, refl);
  number_alone = inr (one_command, refl);
  upper_case = inr (one_command, refl);
  one_of_two = inr (one_command, inr (one, inl (λ h. empty_is_none h.number h.word_is, refl)));
  no_text = inr (one_command, inr (one, inl (λ n. n refl, refl)));
  word_behind = inr (one_command, inl (λ e. cc, refl));
}

first_caller : IsCaller 2 (codes "0")
first_caller = record { number = 0; below = omega arith; word_is = refl }

first_carrier : IsCarrier (codes "1")
first_carrier = record { number = 1; carries = omega arith; known = omega arith; word_is = refl }

-- and those of a bench's input
pub submission_faults : AreSubmissionFaults
submission_faults = record {
  too_great = inl (λ h. no_such_caller h.number h.below h.word_is, refl);
  control = inr (first_caller, inl (λ h. control_alone h.number h.carries h.word_is, refl));
  no_line = inr (first_caller, inr (first_carrier, inl (λ e. cc, refl)));
}

none_isnt : (x : List ℕ) → None ≡ Some x → ⊥
none_isnt x e = cc

-- and those of octets
pub dump_faults : AreDumpFaults
dump_faults = record {
  half_an_octet = inl (λ h. none_isnt h.octets h.are, refl);
  pair_parted = inl (λ h. none_isnt h.octets h.are, refl);
}
