-- The tables call for no frame that is longer than what comes.
use Rattle.std.specs.Prelude.{◌≡◌, ℕ, ◌+◌, ◌*◌, ◌/◌, ◌%◌, ◌==◌, ◌≤◌, ◌&&◌, ◌||◌, not, nat_le, nat_lt, Bool, true, false, List, [], ◌∷◌, length, take, Option, Some, None, refl, if◌then◌else◌}
use Rattle.std.proofs.Common.{ap, arith}
use Rattle.std.proofs.lemmas.Bool.{leb-true, ltb-true, lt-ltb}
use Rattle.std.proofs.lemmas.List.{length-take}
use Rattle.mux_frame.specs.Frames.{Frame}
use Rattle.mux_frame.specs.declared.frame.Kind.{Kind}
use Rattle.mux_frame.specs.declared.frame.Kind.TheVariants.{Sabm, Ua, Dm, Disc, Uih}
use Rattle.mux_station.specs.declared.role.Role.{Role}
use Rattle.mux_station.specs.declared.role.Role.TheVariants.{Initiator, Responder}
use Rattle.mux_station.specs.Written.{is_on, written}
use Rattle.mux_station.specs.Messages.{Message, message_in, message_of, if_good, is_msc, is_good_msc, is_command, response_of, msc, nsc, cld, test, brings_command}
use Rattle.mux_station.specs.States.{State, IsShut, IsOpening, IsOpened, IsClosing, IsStopping, is_opened}
use Rattle.mux_station.specs.Tables.{by_message, by_table, is_opening, is_supported, message_frame, msc_after_opening, msc_frame, ready, response_to, ua_or_dm}
use Rattle.show_laws.proofs.counts.ManyFrames.{few_if, many, none_one, unit}
use Rattle.show_laws.proofs.counts.BalancedTables.{Balanced}

-- more information than this
abbrev pub is_long : ℕ → Frame → Bool
is_long most f = nat_lt most (length f.info)

-- at most 16 octets
abbrev pub IsShort : List ℕ → Type 0
IsShort octets = length octets ≤ 16

-- what is no more than this isn't longer
pub not_long : (m n : ℕ) → n ≤ m → nat_lt m n ≡ false
not_long m n h = by_test (nat_lt m n) refl
  where
    by_test : (b : Bool) → nat_lt m n ≡ b → nat_lt m n ≡ false
    by_test false e = e
    by_test true e = let k = ltb-true m n e in absurd (omega (arith, k, h))

long_by : (n m k : ℕ) → k ≤ m → unit (nat_lt n k) ≤ unit (nat_lt n m)
long_by n m k h = by_test (nat_lt n k) refl
  where
    by_test : (b : Bool) → nat_lt n k ≡ b → unit b ≤ unit (nat_lt n m)
    by_test false e = omega arith
    by_test true e =
        let x = ltb-true n k e in
        let y : unit (nat_lt n m) ≡ 1 = ap unit (lt-ltb n m (omega (arith, x, h))) in
        omega (arith, y)

message_size : (most : ℕ) (r : Role) (octet : ℕ) (value : List ℕ) → length value + 2 ≤ most → is_long most (message_frame r octet value) ≡ false
message_size most r octet value h = not_long most (length (octet ∷ (2 * length value + 1) ∷ value)) (omega (arith, h))

msc_size : (most : ℕ) (r : Role) (d signals : ℕ) → 18 ≤ most → is_long most (msc_frame r d signals) ≡ false
msc_size most r d signals low = message_size most r msc ((4 * d + 3) ∷ signals ∷ []) (omega (arith, low))

-- the value of a message is shorter than the information that brought it
abbrev Fits : ℕ → Option Message → Type 0
Fits n None = Unit {0}
Fits n (Some m) = length m.value + 2 ≤ n

fits_if : (n : ℕ) (b : Bool) (o p : Option Message) → Fits n o → Fits n p → Fits n (if b then o else p)
fits_if n true o p h k = h
fits_if n false o p h k = k

fits_in : (info : List ℕ) → Fits (length info) (message_of info)
fits_in [] = tt
fits_in (t ∷ []) = tt
fits_in (t ∷ l ∷ rest) =
    let value = take (l / 2) rest in
    let few = length-take (l / 2) rest in
    fits_if (length (t ∷ l ∷ rest)) ((t % 2 == 1) && ((l % 2 == 1) && nat_le (l / 2) (length rest))) (if_good (record { octet = t; value = value })) None
    (fits_if (length (t ∷ l ∷ rest)) (is_msc t && not (is_good_msc value)) None (Some (record { octet = t; value = value })) tt (omega (arith, few))) tt

one_long : (most : ℕ) (f : Frame) (n : ℕ) → length f.info ≤ n → many (is_long most) (f ∷ []) ≤ unit (nat_lt most n)
one_long most f n h = let e = long_by most n (length f.info) h in omega (arith, e)

respond_long : (most : ℕ) (r : Role) (m : Message) (n : ℕ) → 18 ≤ most → length m.value + 2 ≤ n → (b c : Bool)
    → many (is_long most) (if b then message_frame r (response_of m.octet) m.value ∷ [] else if c then message_frame r (response_of nsc) (m.octet ∷ []) ∷ [] else []) ≤ unit (nat_lt most n)
respond_long most r m n low h true c = one_long most (message_frame r (response_of m.octet) m.value) n (omega (arith, h))
respond_long most r m n low h false true = let e = none_one (is_long most) (message_frame r (response_of nsc) (m.octet ∷ [])) (message_size most r (response_of nsc) (m.octet ∷ []) (omega (arith, low))) in omega (arith, e)
respond_long most r m n low h false false = omega arith

response_long : (most : ℕ) (r : Role) (o : Option Message) (n : ℕ) → 18 ≤ most → Fits n o → many (is_long most) (response_to r o) ≤ unit (nat_lt most n)
response_long most r None n low h = omega arith
response_long most r (Some m) n low h = respond_long most r m n low h (is_supported m.octet) (is_command m && not (m.octet == nsc))

message_long : (most : ℕ) (r : Role) (s : State) (f : Frame) → 18 ≤ most → Fits (length f.info) (message_in f) → many (is_long most) (by_message r s f) ≤ unit (is_long most f)
message_long most r IsOpened f low h = response_long most r (message_in f) (length f.info) low h
message_long most r (IsStopping n) f low h = few_if (is_long most) (unit (is_long most f)) (brings_command cld f) (response_to r (message_in f)) [] (response_long most r (message_in f) (length f.info) low h) (omega arith)
message_long most r IsShut f low h = omega arith
message_long most r (IsOpening n) f low h = omega arith
message_long most r (IsClosing n) f low h = omega arith

bare : (most : ℕ) (r : Role) (k : Kind) (d : ℕ) → is_long most (written r k d []) ≡ false
bare most r k d = not_long most 0 (omega arith)

opened_long : (most : ℕ) (r : Role) (d : ℕ) → 18 ≤ most → many (is_long most) (msc_after_opening r d) ≤ 0
opened_long most r d low = few_if (is_long most) 0 (d == 0) [] (msc_frame r d ready ∷ []) (omega arith) (none_one (is_long most) (msc_frame r d ready) (msc_size most r d ready low))

bare_long : (most : ℕ) (r : Role) (d : ℕ) (b : Bool) → many (is_long most) (ua_or_dm r d b ∷ []) ≤ 0
bare_long most r d b = none_one (is_long most) (ua_or_dm r d b) (bare most r (if b then Ua else Dm) d)

table_long : (most : ℕ) (r : Role) (d : ℕ) (channel own : State) (k : Kind) → 18 ≤ most → many (is_long most) (by_table r d channel own k) ≤ 0
table_long most Initiator d channel own Ua low = few_if (is_long most) 0 (is_opening own) (msc_after_opening Initiator d) [] (opened_long most Initiator d low) (omega arith)
table_long most Initiator d channel own Sabm low = bare_long most Initiator d false
table_long most Initiator d channel own Dm low = omega arith
table_long most Initiator d channel own Uih low = omega arith
table_long most Initiator d channel own Disc low = bare_long most Initiator d (is_opened own)
table_long most Responder d channel own Ua low = omega arith
table_long most Responder d channel own Dm low = omega arith
table_long most Responder d channel own Uih low = omega arith
table_long most Responder d channel own Disc low = bare_long most Responder d (is_opened own)
table_long most Responder d channel own Sabm low =
    few_if (is_long most) 0 ((d == 0) || is_opened channel) (ua_or_dm Responder d true ∷ msc_after_opening Responder d) (ua_or_dm Responder d false ∷ [])
    (let a = bare_long most Responder d true in let e = opened_long most Responder d low in omega (arith, a, e))
    (bare_long most Responder d false)

on_zero : (b : Bool) (n : ℕ) (o : Option Message) → Fits n o → Fits n (if b then o else None)
on_zero true n o h = h
on_zero false n o h = tt

-- an end of an N1 that is no greater calls for no longer frames, where probes are short
pub sizes_balanced : (n1 most : ℕ) (r : Role) → 18 ≤ most → n1 ≤ most → Balanced IsShort n1 r (is_long most) (is_long most)
sizes_balanced n1 most r low high = record {
  frame = λ state f.
      few_if (is_long most) (unit (is_long most f)) (is_on Uih 0 f) (by_message r (state 0) f) (by_table r f.dlci (state 0) (state f.dlci) f.kind)
      (message_long most r (state 0) f low (on_zero (is_on Uih 0 f) (length f.info) (message_of f.info) (fits_in f.info)))
      (let e = table_long most r f.dlci (state 0) (state f.dlci) f.kind low in omega (arith, e));
  plain = λ f is few. let e = leb-true (length f.info) n1 few in not_long most (length f.info) (omega (arith, e, high));
  sabm = λ d. bare most r Sabm d;
  disc = λ d. bare most r Disc d;
  command = λ octet value is few. message_size most r octet value (omega (arith, low, few));
  probe = λ octets h. message_size most r test octets (omega (arith, low, h));
  short = λ octets h. leb-true (length octets) 16 h;
}
