-- What a frame calls for fits into a control queue in which nothing waits.
use Rattle.std.specs.Prelude.{◌≡◌, ℕ, ◌+◌, ◌/◌, ◌%◌, ◌≤◌, ◌==◌, ◌&&◌, ◌||◌, not, nat_le, Bool, true, false, List, [], ◌∷◌, length, take, min, Option, Some, None, refl, if◌then◌else◌}
use Rattle.std.proofs.Common.{ap, sym, ◌∙◌, arith, length-take}
use Rattle.std.proofs.lemmas.Bool.{le-leb}
use Rattle.mux_frame.specs.Frames.{Frame}
use Rattle.mux_frame.specs.declared.frame.Kind.{Kind}
use Rattle.mux_frame.specs.declared.frame.Kind.TheVariants.{Sabm, Ua, Dm, Disc, Uih}
use Rattle.mux_station.specs.declared.role.Role.TheVariants.{Responder}
use Rattle.mux_station.specs.States.{State, IsShut, IsOpening, IsOpened, IsClosing, IsStopping, is_opened}
use Rattle.mux_station.specs.Written.{is_on, written_length}
use Rattle.mux_station.specs.Messages.{Message, brings_command, cld, is_command, is_good_msc, is_msc, message_in, message_of, nsc, response_of}
use Rattle.mux_station.specs.Tables.{by_frame, by_message, by_table, has_room, have_room, is_supported, message_frame, msc_frame, ready, response, response_to, ua_or_dm}

with_flags : (n : ℕ) (b : Bool) → n + (if b then 6 else 7) ≤ n + 7
with_flags n true = omega arith
with_flags n false = omega arith

one_fits : (n1 : ℕ) (f : Frame) → length f.info ≤ n1 + 4 → have_room n1 0 (f ∷ []) ≡ true
one_fits n1 f short =
    let long = with_flags (length f.info) (nat_le (length f.info) 127) in
    let fits : has_room n1 0 f ≡ true = le-leb (0 + written_length f) (4096 + n1) (omega (arith, short, long)) in
    ap (λ (b : Bool). b && true) fits

two_fit : (n1 : ℕ) (f g : Frame) → length f.info ≤ 4 → length g.info ≤ 4 → have_room n1 0 (f ∷ g ∷ []) ≡ true
two_fit n1 f g short short_too =
    let long = with_flags (length f.info) (nat_le (length f.info) 127) in
    let long_too = with_flags (length g.info) (nat_le (length g.info) 127) in
    let fits : has_room n1 0 f ≡ true = le-leb (0 + written_length f) (4096 + n1) (omega (arith, short, long)) in
    let fit : has_room n1 (0 + written_length f) g ≡ true = le-leb ((0 + written_length f) + written_length g) (4096 + n1) (omega (arith, short, long, short_too, long_too)) in
    ap (λ (b : Bool). b && (has_room n1 (0 + written_length f) g && true)) fits ∙ ap (λ (b : Bool). b && true) fit

-- a message's value is no longer than the information in which it stands
value_short : (info : List ℕ) (m : Message) → message_of info ≡ Some m → length m.value + 2 ≤ length info
value_short [] m is = cc
value_short (t ∷ []) m is = cc
value_short (t ∷ l ∷ rest) m is =
    by_tests ((t % 2 == 1) && ((l % 2 == 1) && nat_le (l / 2) (length rest))) (is_msc t && not (is_good_msc (take (l / 2) rest))) is
  where
    some_value : (octet : ℕ) (value : List ℕ) → Some (record { octet = octet; value = value }) ≡ Some m → value ≡ m.value
    some_value octet value same = cc

    by_tests : (a b : Bool) → (if a then (if b then None else Some (record { octet = t; value = take (l / 2) rest })) else None) ≡ Some m → length m.value + 2 ≤ length (t ∷ l ∷ rest)
    by_tests true true same = cc
    by_tests true false same =
        let value = ap length (some_value t (take (l / 2) rest) same) in
        let long = length-take (l / 2) rest in
        let few : min (l / 2) (length rest) ≤ length rest = omega arith in
        omega (arith, value, long, few)
    by_tests false b same = cc

by_response : (n1 : ℕ) (m : Message) → length m.value + 2 ≤ n1 → have_room n1 0 (response Responder m) ≡ true
by_response n1 m short = by_tests (is_supported m.octet) (is_command m && not (m.octet == nsc))
  where
    by_tests : (a b : Bool) → have_room n1 0 (if a then message_frame Responder (response_of m.octet) m.value ∷ [] else if b then message_frame Responder (response_of nsc) (m.octet ∷ []) ∷ [] else []) ≡ true
    by_tests true b = one_fits n1 (message_frame Responder (response_of m.octet) m.value) (omega (arith, short))
    by_tests false true = one_fits n1 (message_frame Responder (response_of nsc) (m.octet ∷ [])) (omega (arith, short))
    by_tests false false = refl

by_response_to : (n1 : ℕ) (info : List ℕ) (o : Option Message) → message_of info ≡ o → length info ≤ n1 → have_room n1 0 (response_to Responder o) ≡ true
by_response_to n1 info None is short = refl
by_response_to n1 info (Some m) is short = let value = value_short info m is in by_response n1 m (omega (arith, short, value))

message_there : (f : Frame) → is_on Uih 0 f ≡ true → message_in f ≡ message_of f.info
message_there f is = ap (λ (b : Bool). if b then message_of f.info else None) is

by_state : (n1 : ℕ) (s : State) (f : Frame) → is_on Uih 0 f ≡ true → length f.info ≤ n1 → have_room n1 0 (by_message Responder s f) ≡ true
by_state n1 IsOpened f is short = by_response_to n1 f.info (message_in f) (sym (message_there f is)) short
by_state n1 (IsStopping n) f is short = by_test (brings_command cld f)
  where
    by_test : (b : Bool) → have_room n1 0 (if b then response_to Responder (message_in f) else []) ≡ true
    by_test true = by_response_to n1 f.info (message_in f) (sym (message_there f is)) short
    by_test false = refl
by_state n1 IsShut f is short = refl
by_state n1 (IsOpening n) f is short = refl
by_state n1 (IsClosing n) f is short = refl

by_kind : (n1 d : ℕ) (channel own : State) (k : Kind) → have_room n1 0 (by_table Responder d channel own k) ≡ true
by_kind n1 d channel own Sabm = by_tests ((d == 0) || is_opened channel) (d == 0)
  where
    by_tests : (a b : Bool) → have_room n1 0 (if a then ua_or_dm Responder d true ∷ (if b then [] else msc_frame Responder d ready ∷ []) else ua_or_dm Responder d false ∷ []) ≡ true
    by_tests true true = one_fits n1 (ua_or_dm Responder d true) (omega arith)
    by_tests true false = two_fit n1 (ua_or_dm Responder d true) (msc_frame Responder d ready) (omega arith) (omega arith)
    by_tests false b = one_fits n1 (ua_or_dm Responder d false) (omega arith)
by_kind n1 d channel own Disc = one_fits n1 (ua_or_dm Responder d (is_opened own)) (omega arith)
by_kind n1 d channel own Ua = refl
by_kind n1 d channel own Dm = refl
by_kind n1 d channel own Uih = refl

-- so all that a frame calls for fits, where its information is no longer than N1
pub empty_fits : (n1 : ℕ) (state : ℕ → State) (f : Frame) → length f.info ≤ n1 → have_room n1 0 (by_frame Responder state f) ≡ true
empty_fits n1 state f short = by_test (is_on Uih 0 f) refl
  where
    by_test : (b : Bool) → is_on Uih 0 f ≡ b → have_room n1 0 (if b then by_message Responder (state 0) f else by_table Responder f.dlci (state 0) (state f.dlci) f.kind) ≡ true
    by_test true is = by_state n1 (state 0) f is short
    by_test false is = by_kind n1 f.dlci (state 0) (state f.dlci) f.kind
