-- The tables answer each ask, a message where 0 is Opened.
use Rattle.std.specs.Prelude.{◌≡◌, ℕ, ◌+◌, ◌*◌, ◌/◌, ◌%◌, ◌==◌, ◌≤◌, ◌&&◌, ◌||◌, not, nat_le, Bool, true, false, List, [], ◌∷◌, length, take, Option, Some, None, refl, unwrap_or, if◌then◌else◌}
use Rattle.std.proofs.Common.{ap, arith, eqb-true, sym, ◌∙◌, subst}
use Rattle.std.proofs.lemmas.Bool.{and_from, and_parts, eq-eqb, le-leb}
use Rattle.std.proofs.lemmas.List.{take_all}
use Rattle.mux_frame.specs.Frames.{Frame}
use Rattle.mux_frame.specs.declared.frame.Kind.{Kind}
use Rattle.mux_frame.specs.declared.frame.Kind.TheVariants.{Sabm, Ua, Dm, Disc, Uih}
use Rattle.mux_station.specs.declared.role.Role.{Role}
use Rattle.mux_station.specs.declared.role.Role.TheVariants.{Initiator, Responder}
use Rattle.mux_station.specs.Written.{is_kind, is_on}
use Rattle.mux_station.specs.Messages.{Message, brings_command, brings_response, cld, command_of, message_in, message_of, is_msc, is_good_msc, is_command, octet_is, response_of, nsc}
use Rattle.mux_station.specs.States.{State, IsShut, IsOpening, IsOpened, IsClosing, IsStopping, is_opened, is_stopping}
use Rattle.mux_station.specs.Tables.{by_frame, by_message, by_table, is_supported, message_frame, msc_after_opening, response_to, ua_or_dm}
use Rattle.modem_show.specs.Asking.{is_answer, is_ask, is_mode_answer, is_mode_command, message_answers, message_asks}
use Rattle.show_laws.proofs.asks.AnswerShapes.{message_no_mode, supported_by}
use Rattle.show_laws.proofs.counts.ManyFrames.{many, unit}
use Rattle.show_laws.proofs.counts.BalancedTables.{is_command_octet}

-- ## A response is read

-- a message as it is read: its type octet is odd, and an MSC is good
record IsSound (m : Message) : Type 0 where
  odd : (m.octet % 2 == 1) ≡ true
  good : (is_msc m.octet && not (is_good_msc m.value)) ≡ false

sound_if : (b c : Bool) (x m : Message) → (b ≡ true → (x.octet % 2 == 1) ≡ true) → (is_msc x.octet && not (is_good_msc x.value)) ≡ c → (if b then (if c then None else Some x) else None) ≡ Some m → IsSound m
sound_if false c x m odd e h = cc
sound_if true true x m odd e h = cc
sound_if true false x m odd e h = let same : x ≡ m = ap (λ (o : Option Message). unwrap_or o x) h in subst IsSound same (record { odd = odd refl; good = e })

message_sound : (f : Frame) (m : Message) → message_in f ≡ Some m → IsSound m
message_sound f m h = by_on (is_on Uih 0 f) h
  where
    by_info : (info : List ℕ) → message_of info ≡ Some m → IsSound m
    by_info [] e = cc
    by_info (t ∷ []) e = cc
    by_info (t ∷ l ∷ rest) e =
        let value = take (l / 2) rest in
        sound_if ((t % 2 == 1) && ((l % 2 == 1) && nat_le (l / 2) (length rest))) (is_msc t && not (is_good_msc value)) (record { octet = t; value = value }) m
        (λ k. (and_parts (t % 2 == 1) ((l % 2 == 1) && nat_le (l / 2) (length rest)) k).0) refl e

    by_on : (b : Bool) → (if b then message_of f.info else None) ≡ Some m → IsSound m
    by_on true e = by_info f.info e
    by_on false e = cc

-- a message of an odd type, and good if it is an MSC, is read as it was spelled
pub read_back : (r : Role) (octet : ℕ) (value : List ℕ) → (octet % 2 == 1) ≡ true → (is_msc octet && not (is_good_msc value)) ≡ false → message_in (message_frame r octet value) ≡ Some (record { octet = octet; value = value })
read_back r octet value odd good =
    let n = (2 * length value + 1) / 2 in
    let whole : take n value ≡ value = take_all n value (omega arith) in
    let l_odd : ((2 * length value + 1) % 2 == 1) ≡ true = eq-eqb ((2 * length value + 1) % 2) 1 (omega arith) in
    let fits : nat_le n (length value) ≡ true = le-leb n (length value) (omega arith) in
    let all : ((octet % 2 == 1) && (((2 * length value + 1) % 2 == 1) && nat_le n (length value))) ≡ true =
    and_from (octet % 2 == 1) (((2 * length value + 1) % 2 == 1) && nat_le n (length value)) odd (and_from ((2 * length value + 1) % 2 == 1) (nat_le n (length value)) l_odd fits) in
    ap (λ (b : Bool). if b then (if is_msc octet && not (is_good_msc (take n value)) then None else Some (record { octet = octet; value = take n value })) else None) all
    ∙ (ap (λ (v : List ℕ). if is_msc octet && not (is_good_msc v) then None else Some (record { octet = octet; value = v })) whole
    ∙ ap (λ (b : Bool). if b then None else Some (record { octet = octet; value = value })) good)

answer_by : (f : Frame) (m : Message) → message_in f ≡ Some m → is_command m ≡ false → is_answer f ≡ true
answer_by f m e h =
    ap (λ (b : Bool). b || message_answers (message_in f)) (message_no_mode f m e).1 ∙ (ap message_answers e ∙ ap not h)

-- ## The tables

one_more : (u : Frame → Bool) (f : Frame) (fs : List Frame) (b : Bool) → u f ≡ true → unit b ≤ many u (f ∷ fs)
one_more u f fs true h = let e : unit (u f) ≡ 1 = ap unit h in omega (arith, e)
one_more u f fs false h = omega arith

-- the response to a supported command has no type of a command
pub not_command : (o : ℕ) → is_supported o ≡ true → is_command_octet (response_of o) ≡ false
not_command o s = supported_by (λ n. is_command_octet (response_of n) ≡ false) o s refl refl refl refl refl

odd_back : (o : ℕ) → is_supported o ≡ true → ((response_of o) % 2 == 1) ≡ true
odd_back o s = supported_by (λ n. ((response_of n) % 2 == 1) ≡ true) o s refl refl refl refl refl

msc_back : (o : ℕ) → is_supported o ≡ true → is_msc (response_of o) ≡ is_msc o
msc_back o s = supported_by (λ n. is_msc (response_of n) ≡ is_msc n) o s refl refl refl refl refl

respond_enough : (r : Role) (m : Message) (b c : Bool) → is_supported m.octet ≡ b → (is_command m && not (m.octet == nsc)) ≡ c → IsSound m
    → unit c ≤ many is_answer (if b then message_frame r (response_of m.octet) m.value ∷ [] else if c then message_frame r (response_of nsc) (m.octet ∷ []) ∷ [] else [])
respond_enough r m true c s k h =
    let good : (is_msc (response_of m.octet) && not (is_good_msc m.value)) ≡ false = ap (λ (b : Bool). b && not (is_good_msc m.value)) (msc_back m.octet s) ∙ h.good in
    let e = read_back r (response_of m.octet) m.value (odd_back m.octet s) good in
    one_more is_answer (message_frame r (response_of m.octet) m.value) [] c (answer_by (message_frame r (response_of m.octet) m.value) (record { octet = response_of m.octet; value = m.value }) e (not_command m.octet s))
respond_enough r m false true s k h =
    let e = read_back r (response_of nsc) (m.octet ∷ []) refl refl in
    one_more is_answer (message_frame r (response_of nsc) (m.octet ∷ [])) [] true (answer_by (message_frame r (response_of nsc) (m.octet ∷ [])) (record { octet = response_of nsc; value = m.octet ∷ [] }) e refl)
respond_enough r m false false s k h = omega arith

messages_enough : (r : Role) (f : Frame) (o : Option Message) → message_in f ≡ o → unit (message_asks o) ≤ many is_answer (response_to r o)
messages_enough r f None e = omega arith
messages_enough r f (Some m) e = respond_enough r m (is_supported m.octet) (is_command m && not (m.octet == nsc)) refl refl (message_sound f m e)

opened_enough : (r : Role) (s : State) (f : Frame) → (message_asks (message_in f) ≡ true → is_opened s ≡ true) → unit (message_asks (message_in f)) ≤ many is_answer (by_message r s f)
opened_enough r IsOpened f h = messages_enough r f (message_in f) refl
opened_enough r IsShut f h = shut (message_asks (message_in f)) h
  where
    shut : (b : Bool) → (b ≡ true → false ≡ true) → unit b ≤ 0
    shut true h = absurd (let x : false ≡ true = h refl in cc)
    shut false h = omega arith
opened_enough r (IsOpening n) f h = shut (message_asks (message_in f)) h
  where
    shut : (b : Bool) → (b ≡ true → false ≡ true) → unit b ≤ 0
    shut true h = absurd (let x : false ≡ true = h refl in cc)
    shut false h = omega arith
opened_enough r (IsClosing n) f h = shut (message_asks (message_in f)) h
  where
    shut : (b : Bool) → (b ≡ true → false ≡ true) → unit b ≤ 0
    shut true h = absurd (let x : false ≡ true = h refl in cc)
    shut false h = omega arith
opened_enough r (IsStopping n) f h = shut (message_asks (message_in f)) h (many is_answer (by_message r (IsStopping n) f))
  where
    shut : (b : Bool) → (b ≡ true → false ≡ true) → (n : ℕ) → unit b ≤ n
    shut true h n = absurd (let x : false ≡ true = h refl in cc)
    shut false h n = omega arith

-- a UA or DM, by a test that both pass
abbrev PassesModes : (Frame → Bool) → Type 0
PassesModes u = (r : Role) (d : ℕ) (b : Bool) → u (ua_or_dm r d b) ≡ true

table_enough : (u : Frame → Bool) → PassesModes u → (r : Role) (d : ℕ) (channel own : State) (k : Kind) → unit (is_kind k Sabm || is_kind k Disc) ≤ many u (by_table r d channel own k)
table_enough u h Initiator d channel own Ua = omega arith
table_enough u h Initiator d channel own Sabm = one_more u (ua_or_dm Initiator d false) [] true (h Initiator d false)
table_enough u h Initiator d channel own Dm = omega arith
table_enough u h Initiator d channel own Uih = omega arith
table_enough u h Initiator d channel own Disc = one_more u (ua_or_dm Initiator d (is_opened own)) [] true (h Initiator d (is_opened own))
table_enough u h Responder d channel own Ua = omega arith
table_enough u h Responder d channel own Dm = omega arith
table_enough u h Responder d channel own Uih = omega arith
table_enough u h Responder d channel own Disc = one_more u (ua_or_dm Responder d (is_opened own)) [] true (h Responder d (is_opened own))
table_enough u h Responder d channel own Sabm = either ((d == 0) || is_opened channel)
  where
    either : (b : Bool) → 1 ≤ many u (if b then ua_or_dm Responder d true ∷ msc_after_opening Responder d else ua_or_dm Responder d false ∷ [])
    either true = one_more u (ua_or_dm Responder d true) (msc_after_opening Responder d) true (h Responder d true)
    either false = one_more u (ua_or_dm Responder d false) [] true (h Responder d false)

uih_unasked : (k : Kind) (x : Bool) → (is_kind k Uih && x) ≡ true → (is_kind k Sabm || is_kind k Disc) ≡ false
uih_unasked Uih x h = refl
uih_unasked Sabm x h = cc
uih_unasked Ua x h = cc
uih_unasked Dm x h = cc
uih_unasked Disc x h = cc

answers_modes : PassesModes is_answer
answers_modes r d true = refl
answers_modes r d false = refl

-- what asks is answered
pub frame_enough : (r : Role) (state : ℕ → State) (f : Frame) → (message_asks (message_in f) ≡ true → is_opened (state 0) ≡ true) → unit (is_ask f) ≤ many is_answer (by_frame r state f)
frame_enough r state f h = by_on (is_on Uih 0 f) refl (opened_enough r (state 0) f h)
  where
    by_on : (b : Bool) → is_on Uih 0 f ≡ b → unit (message_asks (message_in f)) ≤ many is_answer (by_message r (state 0) f)
        → unit (is_mode_command f || message_asks (message_in f)) ≤ many is_answer (if b then by_message r (state 0) f else by_table r f.dlci (state 0) (state f.dlci) f.kind)
    by_on true e k =
        let x : unit (is_mode_command f || message_asks (message_in f)) ≡ unit (message_asks (message_in f)) = ap (λ (b : Bool). unit (b || message_asks (message_in f))) (uih_unasked f.kind (f.dlci == 0) e) in
        omega (arith, x, k)
    by_on false e k =
        let none : message_asks (message_in f) ≡ false = ap (λ (b : Bool). message_asks (if b then message_of f.info else None)) e in
        let t = table_enough is_answer answers_modes r f.dlci (state 0) (state f.dlci) f.kind in
        let x = drop_second (is_mode_command f) (message_asks (message_in f)) none in
        omega (arith, x, t)
      where
        drop_second : (a b : Bool) → b ≡ false → unit (a || b) ≤ unit a
        drop_second true b e = omega arith
        drop_second false true e = let x : true ≡ false = e in cc
        drop_second false false e = omega arith

-- a SABM or DISC is answered by UA or DM
pub modes_enough : (r : Role) (state : ℕ → State) (f : Frame) → unit (is_mode_command f) ≤ many is_mode_answer (by_frame r state f)
modes_enough r state f = by_on (is_on Uih 0 f) refl
  where
    passes : PassesModes is_mode_answer
    passes r d true = refl
    passes r d false = refl

    by_on : (b : Bool) → is_on Uih 0 f ≡ b → unit (is_mode_command f) ≤ many is_mode_answer (if b then by_message r (state 0) f else by_table r f.dlci (state 0) (state f.dlci) f.kind)
    by_on true e = let x : unit (is_mode_command f) ≡ 0 = ap unit (uih_unasked f.kind (f.dlci == 0) e) in omega (arith, x)
    by_on false e = table_enough is_mode_answer passes r f.dlci (state 0) (state f.dlci) f.kind

-- a CLD by its response, while 0 is Opened or Stopping
down_frame : (r : Role) (octet : ℕ) (value : List ℕ) → octet ≡ cld → brings_response cld (message_frame r (response_of octet) value) ≡ true
down_frame r octet value e =
    ap (λ n. brings_response cld (message_frame r (response_of n) value)) e ∙ ap (octet_is command_of cld) (read_back r (response_of cld) value refl refl)

-- a CLD that comes is answered by its response, if it comes while 0 is Opened or Stopping
pub clds_enough : (r : Role) (state : ℕ → State) (f : Frame) → (brings_command cld f ≡ true → (is_opened (state 0) || is_stopping (state 0)) ≡ true) → unit (brings_command cld f) ≤ many (brings_response cld) (by_frame r state f)
clds_enough r state f h = by_cld (brings_command cld f) refl
  where
    responded : (m : Message) (b : Bool) → is_supported m.octet ≡ b → m.octet ≡ cld
        → 1 ≤ many (brings_response cld) (if b then message_frame r (response_of m.octet) m.value ∷ [] else if is_command m && not (m.octet == nsc) then message_frame r (response_of nsc) (m.octet ∷ []) ∷ [] else [])
    responded m true s e = one_more (brings_response cld) (message_frame r (response_of m.octet) m.value) [] true (down_frame r m.octet m.value e)
    responded m false s e = absurd (let t : true ≡ false = sym (ap is_supported e) ∙ s in cc)

    by_message_in : (o : Option Message) → octet_is (λ n. n) cld o ≡ true → 1 ≤ many (brings_response cld) (response_to r o)
    by_message_in None e = cc
    by_message_in (Some m) e = responded m (is_supported m.octet) refl (eqb-true m.octet cld e)

    by_state : (s : State) → (is_opened s || is_stopping s) ≡ true → brings_command cld f ≡ true → octet_is (λ n. n) cld (message_in f) ≡ true → 1 ≤ many (brings_response cld) (by_message r s f)
    by_state IsOpened o c m = by_message_in (message_in f) m
    by_state (IsStopping n) o c m =
        let k = by_message_in (message_in f) m in
        let e : many (brings_response cld) (by_message r (IsStopping n) f) ≡ many (brings_response cld) (response_to r (message_in f)) = ap (λ (b : Bool). many (brings_response cld) (if b then response_to r (message_in f) else [])) c in
        omega (arith, e, k)
    by_state IsShut o c m = cc
    by_state (IsOpening n) o c m = cc
    by_state (IsClosing n) o c m = cc

    by_cld : (b : Bool) → brings_command cld f ≡ b → unit b ≤ many (brings_response cld) (by_frame r state f)
    by_cld false e = omega arith
    by_cld true e =
        let p = and_parts (is_on Uih 0 f) (octet_is (λ n. n) cld (message_of f.info)) e in
        let there : octet_is (λ n. n) cld (message_in f) ≡ true = ap (λ (b : Bool). octet_is (λ n. n) cld (if b then message_of f.info else None)) p.0 ∙ p.1 in
        let k = by_state (state 0) (h e) e there in
        let same : many (brings_response cld) (by_frame r state f) ≡ many (brings_response cld) (by_message r (state 0) f) =
        ap (λ (b : Bool). many (brings_response cld) (if b then by_message r (state 0) f else by_table r f.dlci (state 0) (state f.dlci) f.kind)) p.0 in
        omega (arith, same, k)
