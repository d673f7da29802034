-- The tables call for no more answers of one shape than what comes asks for.
use Rattle.std.specs.Prelude.{◌≡◌, ℕ, ◌+◌, ◌*◌, ◌/◌, ◌%◌, ◌==◌, ◌≤◌, ◌&&◌, ◌||◌, not, nat_le, Bool, true, false, List, [], ◌∷◌, length, take, Option, Some, None, refl, if◌then◌else◌}
use Rattle.std.specs.Str.{bytes_eq}
use Rattle.std.proofs.Common.{ap, arith, sym, ◌∙◌, subst, eqb-true}
use Rattle.std.proofs.lemmas.Bool.{and_from, and_parts, eq-eqb}
use Rattle.std.proofs.lemmas.List.{take_all}
use Rattle.std.proofs.lemmas.Slice.Eq.{bytes_eq-Decides}
use Rattle.mux_frame.specs.Frames.{Frame}
use Rattle.mux_frame.specs.declared.frame.Kind.{Kind}
use Rattle.mux_frame.specs.declared.frame.Kind.TheVariants.{Sabm, Ua, Dm, Disc, Uih}
use Rattle.mux_station.specs.declared.role.Role.{Role}
use Rattle.mux_station.specs.declared.role.Role.TheVariants.{Initiator, Responder}
use Rattle.mux_station.specs.Written.{is_data_frame, is_kind, is_on}
use Rattle.mux_station.specs.Messages.{Message, message_in, message_of, is_msc, is_good_msc, is_command, response_of, msc, nsc, cld, test, brings_command}
use Rattle.mux_station.specs.States.{State, IsShut, IsOpening, IsOpened, IsClosing, IsStopping, is_opened}
use Rattle.mux_station.specs.Tables.{by_message, by_table, is_opening, is_supported, message_frame, msc_after_opening, msc_frame, ready, response_to, ua_or_dm}
use Rattle.modem_show.specs.Asking.{answers, both_respond, is_answer, is_mode_answer, is_mode_command, message_asks, names, responds}
use Rattle.show_laws.proofs.counts.ManyFrames.{few_if, many, none_one, unit}
use Rattle.show_laws.proofs.counts.BalancedTables.{Balanced, is_command_octet}
use Rattle.show_laws.proofs.asks.AnswerShapes.{answer_no_command, is_alike, is_refused_type, is_shaped, same_message, shaped_message, supported_by}

-- any octets may be probed with
abbrev pub AnyProbe : List ℕ → Type 0
AnyProbe octets = Unit {0}

-- ## A message that is spelled

-- it is read as it is, or not at all
pub data IsRead (octet : ℕ) (value : List ℕ) : Option Message → Type 0 where
  as_it_is : IsRead octet value (Some (record { octet = octet; value = value }))
  unread : IsRead octet value None

read_if : (octet : ℕ) (value : List ℕ) (b c : Bool) → IsRead octet value (if b then (if c then None else Some (record { octet = octet; value = value })) else None)
read_if octet value true true = unread
read_if octet value true false = as_it_is
read_if octet value false c = unread

-- what the frame of a message brings is read so
pub is_read : (r : Role) (octet : ℕ) (value : List ℕ) → IsRead octet value (message_in (message_frame r octet value))
is_read r octet value =
    let n = (2 * length value + 1) / 2 in
    let whole : take n value ≡ value = take_all n value (omega arith) in
    let kept : Bool = (octet % 2 == 1) && (((2 * length value + 1) % 2 == 1) && nat_le n (length value)) in
    subst (λ (v : List ℕ). IsRead octet value (if kept then (if is_msc octet && not (is_good_msc v) then None else Some (record { octet = octet; value = v })) else None)) (sym whole)
    (read_if octet value kept (is_msc octet && not (is_good_msc value)))

-- ## Shapes

-- a frame whose message is neither a command nor a response as the tables give it
abbrev pub misshapen : Frame → Bool
misshapen h = not (is_shaped h)

shaped_none : (h : Frame) → is_shaped h ≡ true → misshapen h ≡ false
shaped_none h e = ap not e

shaped_read : (octet : ℕ) (value : List ℕ) (o : Option Message) → IsRead octet value o → shaped_message (Some (record { octet = octet; value = value })) ≡ true → shaped_message o ≡ true
shaped_read octet value _ as_it_is h = h
shaped_read octet value _ unread h = refl

message_shaped : (r : Role) (octet : ℕ) (value : List ℕ) → shaped_message (Some (record { octet = octet; value = value })) ≡ true → misshapen (message_frame r octet value) ≡ false
message_shaped r octet value h = shaped_none (message_frame r octet value) (shaped_read octet value (message_in (message_frame r octet value)) (is_read r octet value) h)

either_false : (a b : Bool) → a ≡ true → (a || b) ≡ true
either_false true b h = refl
either_false false b h = cc

command_shaped : (r : Role) (octet : ℕ) (value : List ℕ) → is_command_octet octet ≡ true → misshapen (message_frame r octet value) ≡ false
command_shaped r octet value h = message_shaped r octet value (either_false (is_command_octet octet) _ h)

second : (a b : Bool) → b ≡ true → (a || b) ≡ true
second true b e = refl
second false b e = e

respond_shaped : (r : Role) (m : Message) (b c : Bool) → is_supported m.octet ≡ b → (is_command m && not (m.octet == nsc)) ≡ c
    → many misshapen (if b then message_frame r (response_of m.octet) m.value ∷ [] else if c then message_frame r (response_of nsc) (m.octet ∷ []) ∷ [] else []) ≤ 0
respond_shaped r m true c s k =
    none_one misshapen (message_frame r (response_of m.octet) m.value)
    (message_shaped r (response_of m.octet) m.value
    (second (is_command_octet (response_of m.octet)) (is_supported (response_of m.octet + 2) || ((response_of m.octet == response_of nsc) && is_refused_type m.value))
    (either_false (is_supported (response_of m.octet + 2)) ((response_of m.octet == response_of nsc) && is_refused_type m.value)
    (supported_by (λ o. is_supported (response_of o + 2) ≡ true) m.octet s refl refl refl refl refl))))
respond_shaped r m false true s k =
    let p = and_parts (is_command m) (not (m.octet == nsc)) k in
    none_one misshapen (message_frame r (response_of nsc) (m.octet ∷ []))
    (message_shaped r (response_of nsc) (m.octet ∷ []) (and_from (is_command_octet m.octet) (not (is_supported m.octet)) p.0 (ap not s)))
respond_shaped r m false false s k = omega arith

response_shaped : (r : Role) (o : Option Message) → many misshapen (response_to r o) ≤ 0
response_shaped r None = omega arith
response_shaped r (Some m) = respond_shaped r m (is_supported m.octet) (is_command m && not (m.octet == nsc)) refl refl

by_message_shaped : (r : Role) (s : State) (f : Frame) → many misshapen (by_message r s f) ≤ 0
by_message_shaped r IsOpened f = response_shaped r (message_in f)
by_message_shaped r (IsStopping n) f = few_if misshapen 0 (brings_command cld f) (response_to r (message_in f)) [] (response_shaped r (message_in f)) (omega arith)
by_message_shaped r IsShut f = omega arith
by_message_shaped r (IsOpening n) f = omega arith
by_message_shaped r (IsClosing n) f = omega arith

opened_shaped : (r : Role) (d : ℕ) → many misshapen (msc_after_opening r d) ≤ 0
opened_shaped r d = few_if misshapen 0 (d == 0) [] (msc_frame r d ready ∷ []) (omega arith) (none_one misshapen (msc_frame r d ready) (command_shaped r msc ((4 * d + 3) ∷ ready ∷ []) refl))

mode_shaped : (r : Role) (d : ℕ) (b : Bool) → misshapen (ua_or_dm r d b) ≡ false
mode_shaped r d true = refl
mode_shaped r d false = refl

table_shaped : (r : Role) (d : ℕ) (channel own : State) (k : Kind) → many misshapen (by_table r d channel own k) ≤ 0
table_shaped Initiator d channel own Ua = few_if misshapen 0 (is_opening own) (msc_after_opening Initiator d) [] (opened_shaped Initiator d) (omega arith)
table_shaped Initiator d channel own Sabm = none_one misshapen (ua_or_dm Initiator d false) (mode_shaped Initiator d false)
table_shaped Initiator d channel own Dm = omega arith
table_shaped Initiator d channel own Uih = omega arith
table_shaped Initiator d channel own Disc = none_one misshapen (ua_or_dm Initiator d (is_opened own)) (mode_shaped Initiator d (is_opened own))
table_shaped Responder d channel own Ua = omega arith
table_shaped Responder d channel own Dm = omega arith
table_shaped Responder d channel own Uih = omega arith
table_shaped Responder d channel own Disc = none_one misshapen (ua_or_dm Responder d (is_opened own)) (mode_shaped Responder d (is_opened own))
table_shaped Responder d channel own Sabm =
    few_if misshapen 0 ((d == 0) || is_opened channel) (ua_or_dm Responder d true ∷ msc_after_opening Responder d) (ua_or_dm Responder d false ∷ [])
    (let a = none_one misshapen (ua_or_dm Responder d true) (mode_shaped Responder d true) in let e = opened_shaped Responder d in omega (arith, a, e))
    (none_one misshapen (ua_or_dm Responder d false) (mode_shaped Responder d false))

by_zero : (a z : Bool) → (a && not z) ≡ true → (a && z) ≡ false
by_zero true true h = cc
by_zero true false h = refl
by_zero false z h = refl

-- data brings no message
pub data_no_message : (f : Frame) → is_data_frame f ≡ true → message_in f ≡ None
data_no_message f h = ap (λ (b : Bool). if b then message_of f.info else None) (by_zero (is_kind f.kind Uih) (f.dlci == 0) h)

-- the tables, requests and calls call for no misshapen frame, and no data is one
pub shapes_balanced : (most : ℕ) (r : Role) → Balanced AnyProbe most r misshapen (λ (f : Frame). false)
shapes_balanced most r = record {
  frame = λ state f. few_if misshapen 0 (is_on Uih 0 f) (by_message r (state 0) f) (by_table r f.dlci (state 0) (state f.dlci) f.kind) (by_message_shaped r (state 0) f) (table_shaped r f.dlci (state 0) (state f.dlci) f.kind);
  plain = λ f is few. shaped_none f (ap shaped_message (data_no_message f is));
  sabm = λ d. refl;
  disc = λ d. refl;
  command = λ octet value is few. command_shaped r octet value is;
  probe = λ octets h. command_shaped r test octets refl;
  short = λ octets h. tt;
}

-- ## Answers like g

same_read : (octet : ℕ) (value : List ℕ) (o p : Option Message) → IsRead octet value o → same_message o p ≡ true → same_message (Some (record { octet = octet; value = value })) p ≡ true
same_read octet value _ p as_it_is h = h
same_read octet value _ p unread h = cc

-- a message that is alike is that of g
message_alike : (g : Frame) (r : Role) (octet : ℕ) (value : List ℕ) → is_alike g (message_frame r octet value) ≡ true → same_message (Some (record { octet = octet; value = value })) (message_in g) ≡ true
message_alike g r octet value h = same_read octet value (message_in (message_frame r octet value)) (message_in g) (is_read r octet value) h

command_apart : (g : Frame) (m : Message) (p : Option Message) → is_answer g ≡ true → message_in g ≡ p → is_command m ≡ true → same_message (Some m) p ≡ false
command_apart g m None answer e is = refl
command_apart g m (Some n) answer e is = by_octet (m.octet == n.octet) refl
  where
    by_octet : (b : Bool) → (m.octet == n.octet) ≡ b → (b && bytes_eq m.value n.value) ≡ false
    by_octet false h = refl
    by_octet true h =
        let off = answer_no_command g n answer e in
        let on : is_command n ≡ true = subst (λ (x : ℕ). is_command_octet x ≡ true) (eqb-true m.octet n.octet h) is in
        absurd (let x : true ≡ false = sym on ∙ off in cc)

-- a test that can't be true is false
pub test_false : (b : Bool) → (b ≡ true → true ≡ false) → b ≡ false
test_false true h = let x : true ≡ false = h refl in cc
test_false false h = refl

command_unlike : (g : Frame) (r : Role) (octet : ℕ) (value : List ℕ) → is_answer g ≡ true → is_command_octet octet ≡ true → is_alike g (message_frame r octet value) ≡ false
command_unlike g r octet value answer is =
    test_false (is_alike g (message_frame r octet value)) (λ h. sym (message_alike g r octet value h) ∙ command_apart g (record { octet = octet; value = value }) (message_in g) answer refl is)

asks_back : (m : Message) → is_supported m.octet ≡ true → message_asks (Some m) ≡ true
asks_back m s = supported_by (λ o. (is_command_octet o && not (o == nsc)) ≡ true) m.octet s refl refl refl refl refl

-- a response that is alike responds to the command
response_alike : (g : Frame) (r : Role) (m : Message) (p : Option Message) → message_in g ≡ p → is_supported m.octet ≡ true → same_message (Some (record { octet = response_of m.octet; value = m.value })) p ≡ true → both_respond (Some m) p ≡ true
response_alike g r m None e s h = cc
response_alike g r m (Some n) e s h =
    let q = and_parts (response_of m.octet == n.octet) (bytes_eq m.value n.value) h in
    let octet = eqb-true (response_of m.octet) n.octet q.0 in
    let value = (bytes_eq-Decides m.value n.value).0 q.1 in
    and_from (message_asks (Some m)) (responds m n) (asks_back m s)
    (either_false ((n.octet == response_of m.octet) && (not (is_supported m.octet) || bytes_eq n.value m.value)) ((n.octet == response_of nsc) && names m.octet n.value)
    (and_from (n.octet == response_of m.octet) (not (is_supported m.octet) || bytes_eq n.value m.value) (eq-eqb n.octet (response_of m.octet) (sym octet))
    (second (not (is_supported m.octet)) (bytes_eq n.value m.value) ((bytes_eq-Decides n.value m.value).1 (sym value)))))

refusal_alike : (g : Frame) (r : Role) (m : Message) (p : Option Message) → message_in g ≡ p → message_asks (Some m) ≡ true → same_message (Some (record { octet = response_of nsc; value = m.octet ∷ [] })) p ≡ true → both_respond (Some m) p ≡ true
refusal_alike g r m None e asks h = cc
refusal_alike g r m (Some n) e asks h =
    let q = and_parts (response_of nsc == n.octet) (bytes_eq (m.octet ∷ []) n.value) h in
    let octet = eqb-true (response_of nsc) n.octet q.0 in
    let value = (bytes_eq-Decides (m.octet ∷ []) n.value).0 q.1 in
    and_from (message_asks (Some m)) (responds m n) asks
    (second ((n.octet == response_of m.octet) && (not (is_supported m.octet) || bytes_eq n.value m.value)) ((n.octet == response_of nsc) && names m.octet n.value)
    (and_from (n.octet == response_of nsc) (names m.octet n.value) (eq-eqb n.octet (response_of nsc) (sym octet))
    (subst (λ (v : List ℕ). names m.octet v ≡ true) value (either_false (m.octet == m.octet) (m.octet == response_of m.octet) (eq-eqb m.octet m.octet refl)))))

one_at_most : (u : Frame → Bool) (f : Frame) (n : Bool) → (u f ≡ true → n ≡ true) → many u (f ∷ []) ≤ unit n
one_at_most u f n h = by_test (u f) refl
  where
    by_test : (b : Bool) → u f ≡ b → unit b + 0 ≤ unit n
    by_test false e = omega arith
    by_test true e = let k : unit n ≡ 1 = ap unit (h e) in omega (arith, k)

respond_few : (g : Frame) (r : Role) (m : Message) (b c : Bool) → is_supported m.octet ≡ b → (is_command m && not (m.octet == nsc)) ≡ c
    → many (is_alike g) (if b then message_frame r (response_of m.octet) m.value ∷ [] else if c then message_frame r (response_of nsc) (m.octet ∷ []) ∷ [] else []) ≤ unit (both_respond (Some m) (message_in g))
respond_few g r m true c s k =
    one_at_most (is_alike g) (message_frame r (response_of m.octet) m.value) (both_respond (Some m) (message_in g))
    (λ h. response_alike g r m (message_in g) refl s (message_alike g r (response_of m.octet) m.value h))
respond_few g r m false true s k =
    one_at_most (is_alike g) (message_frame r (response_of nsc) (m.octet ∷ [])) (both_respond (Some m) (message_in g))
    (λ h. refusal_alike g r m (message_in g) refl k (message_alike g r (response_of nsc) (m.octet ∷ []) h))
respond_few g r m false false s k = omega arith

response_few : (g : Frame) (r : Role) (o : Option Message) → many (is_alike g) (response_to r o) ≤ unit (both_respond o (message_in g))
response_few g r None = omega arith
response_few g r (Some m) = respond_few g r m (is_supported m.octet) (is_command m && not (m.octet == nsc)) refl refl

by_message_few : (g : Frame) (r : Role) (s : State) (f : Frame) → many (is_alike g) (by_message r s f) ≤ unit (both_respond (message_in f) (message_in g))
by_message_few g r IsOpened f = response_few g r (message_in f)
by_message_few g r (IsStopping n) f =
    few_if (is_alike g) (unit (both_respond (message_in f) (message_in g))) (brings_command cld f) (response_to r (message_in f)) [] (response_few g r (message_in f)) (omega arith)
by_message_few g r IsShut f = omega arith
by_message_few g r (IsOpening n) f = omega arith
by_message_few g r (IsClosing n) f = omega arith

-- whether a SABM or DISC on d is what g answers
abbrev asked_by_mode : Frame → ℕ → Bool
asked_by_mode g d = is_mode_answer g && (d == g.dlci)

mode_few : (g : Frame) (r : Role) (d : ℕ) (b : Bool) → unit (is_alike g (ua_or_dm r d b)) ≤ unit (asked_by_mode g d)
mode_few g r d true = same (is_mode_answer g) (d == g.dlci)
  where
    same : (x y : Bool) → unit ((x && y) || false) ≤ unit (x && y)
    same true true = omega arith
    same true false = omega arith
    same false y = omega arith
mode_few g r d false = same (is_mode_answer g) (d == g.dlci)
  where
    same : (x y : Bool) → unit ((x && y) || false) ≤ unit (x && y)
    same true true = omega arith
    same true false = omega arith
    same false y = omega arith

opened_few : (g : Frame) (r : Role) (d : ℕ) → is_answer g ≡ true → many (is_alike g) (msc_after_opening r d) ≤ 0
opened_few g r d answer = few_if (is_alike g) 0 (d == 0) [] (msc_frame r d ready ∷ []) (omega arith) (none_one (is_alike g) (msc_frame r d ready) (command_unlike g r msc ((4 * d + 3) ∷ ready ∷ []) answer refl))

alone_few : (g : Frame) (r : Role) (d : ℕ) (b : Bool) → many (is_alike g) (ua_or_dm r d b ∷ []) ≤ unit (asked_by_mode g d)
alone_few g r d b = let a = mode_few g r d b in omega (arith, a)

table_few : (g : Frame) (r : Role) (d : ℕ) (channel own : State) (k : Kind) → is_answer g ≡ true → many (is_alike g) (by_table r d channel own k) ≤ unit (((is_kind k Sabm || is_kind k Disc) && is_mode_answer g) && (d == g.dlci))
table_few g Initiator d channel own Ua answer = few_if (is_alike g) 0 (is_opening own) (msc_after_opening Initiator d) [] (opened_few g Initiator d answer) (omega arith)
table_few g Initiator d channel own Sabm answer = alone_few g Initiator d false
table_few g Initiator d channel own Dm answer = omega arith
table_few g Initiator d channel own Uih answer = omega arith
table_few g Initiator d channel own Disc answer = alone_few g Initiator d (is_opened own)
table_few g Responder d channel own Ua answer = omega arith
table_few g Responder d channel own Dm answer = omega arith
table_few g Responder d channel own Uih answer = omega arith
table_few g Responder d channel own Disc answer = alone_few g Responder d (is_opened own)
table_few g Responder d channel own Sabm answer =
    few_if (is_alike g) (unit (asked_by_mode g d)) ((d == 0) || is_opened channel) (ua_or_dm Responder d true ∷ msc_after_opening Responder d) (ua_or_dm Responder d false ∷ [])
    (let a = mode_few g Responder d true in let e = opened_few g Responder d answer in omega (arith, a, e))
    (alone_few g Responder d false)

first_unit : (n : ℕ) (a b : Bool) → n ≤ unit a → n ≤ unit (a || b)
first_unit n true b h = h
first_unit n false b h = omega (arith, h)

second_unit : (n : ℕ) (a b : Bool) → n ≤ unit b → n ≤ unit (a || b)
second_unit n true true h = h
second_unit n true false h = omega (arith, h)
second_unit n false b h = h

uih_unlike : (k : Kind) (g : Frame) (d : ℕ) → is_kind k Uih ≡ true → (((is_kind k Ua || is_kind k Dm) && is_mode_answer g) && (d == g.dlci)) ≡ false
uih_unlike Uih g d h = refl
uih_unlike Sabm g d h = cc
uih_unlike Ua g d h = cc
uih_unlike Dm g d h = cc
uih_unlike Disc g d h = cc

data_unlike : (g f : Frame) → is_data_frame f ≡ true → is_alike g f ≡ false
data_unlike g f h =
    let a = uih_unlike f.kind g f.dlci (and_parts (is_kind f.kind Uih) (not (f.dlci == 0)) h).0 in
    ap (λ (b : Bool). b || same_message (message_in f) (message_in g)) a ∙ ap (λ (o : Option Message). same_message o (message_in g)) (data_no_message f h)

-- they call for no more answers like g than frames come that g answers
pub answers_balanced : (most : ℕ) (r : Role) (g : Frame) → is_answer g ≡ true → Balanced AnyProbe most r (is_alike g) (λ (f : Frame). answers f g)
answers_balanced most r g answer = record {
  frame = λ state f.
      few_if (is_alike g) (unit (answers f g)) (is_on Uih 0 f) (by_message r (state 0) f) (by_table r f.dlci (state 0) (state f.dlci) f.kind)
      (second_unit (many (is_alike g) (by_message r (state 0) f)) ((is_mode_command f && is_mode_answer g) && (f.dlci == g.dlci)) (both_respond (message_in f) (message_in g)) (by_message_few g r (state 0) f))
      (first_unit (many (is_alike g) (by_table r f.dlci (state 0) (state f.dlci) f.kind)) ((is_mode_command f && is_mode_answer g) && (f.dlci == g.dlci)) (both_respond (message_in f) (message_in g)) (table_few g r f.dlci (state 0) (state f.dlci) f.kind answer));
  plain = λ f is few. data_unlike g f is;
  sabm = λ d. refl;
  disc = λ d. refl;
  command = λ octet value is few. command_unlike g r octet value answer is;
  probe = λ octets h. command_unlike g r test octets answer refl;
  short = λ octets h. tt;
}
