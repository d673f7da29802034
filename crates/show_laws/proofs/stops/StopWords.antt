-- What a frame says of the stop of a connection, as a message and as its response, and which frames say nothing.
use Rattle.std.specs.Prelude.{◌≡◌, ℕ, ◌+◌, ◌*◌, ◌/◌, ◌%◌, ◌==◌, ◌≤◌, ◌&&◌, ◌||◌, not, nat_le, Bool, true, false, List, [], ◌∷◌, length, take, Option, Some, None, refl, is_some, if◌then◌else◌}
use Rattle.std.proofs.Common.{ap, arith, sym, ◌∙◌, subst, eqb-true, take_all}
use Rattle.std.proofs.lemmas.Bool.{eq-eqb, le-leb}
use Rattle.mux_frame.specs.Frames.{Frame}
use Rattle.mux_frame.specs.declared.frame.Kind.{Kind}
use Rattle.mux_frame.specs.declared.frame.Kind.TheVariants.{Sabm, Ua, Dm, Disc, Uih}
use Rattle.mux_station.specs.declared.role.Role.{Role}
use Rattle.mux_station.specs.declared.role.Role.TheVariants.{Initiator, Responder}
use Rattle.mux_station.specs.Written.{is_kind, is_on}
use Rattle.mux_station.specs.Messages.{Message, brings_command, cld, command_of, fcoff, fcon, if_good, is_command, is_good_msc, is_msc, message_in, message_of, msc, msc_dlci, msc_stops, nsc, octet_is, response_of, test}
use Rattle.mux_station.specs.Stopping.{flow_says, if_message, msc_says}
use Rattle.mux_station.specs.States.{State, IsShut, IsOpening, IsOpened, IsClosing, IsStopping, is_opened}
use Rattle.mux_station.specs.Tables.{by_flow, by_frame, by_message, by_table, is_opening, is_supported, message_frame, msc_after_opening, msc_frame, ready, response_to, ua_or_dm}
use Rattle.modem_show.specs.Ends.{says_at}
use Rattle.show_laws.proofs.asks.AnswerShapes.{supported_by}
use Rattle.show_laws.proofs.asks.AnswersCalled.{AnyProbe, IsRead, as_it_is, data_no_message, is_read, unread}
use Rattle.show_laws.proofs.counts.ManyFrames.{few_if, many, none_one, unit}
use Rattle.show_laws.proofs.counts.BalancedTables.{Balanced, is_command_octet}
use Rattle.show_laws.proofs.openings.ResponderCalls.{each_frame}

-- what a frame says of the stop that is kept at d
abbrev pub says_on : ℕ → Frame → Option Bool
says_on d f = if_message (says_at d) (message_in f)

-- the frame says something of it
abbrev pub speaks : ℕ → Frame → Bool
speaks d f = is_some (says_on d f)

-- what the message says to which this one responds
abbrev pub says_back : ℕ → Message → Option Bool
says_back d m = says_at d (record { octet = command_of m.octet; value = m.value })

-- what a frame says of it as a response
abbrev pub answer_says : ℕ → Frame → Option Bool
answer_says d f = if_message (says_back d) (message_in f)

-- the frame says something of it as a response
abbrev pub speaks_back : ℕ → Frame → Bool
speaks_back d f = is_some (answer_says d f)

-- ## Messages

-- a message of another type says nothing
pub unsaid : (d octet : ℕ) (value : List ℕ) → (octet == msc) ≡ false → (octet == fcoff) ≡ false → (octet == fcon) ≡ false → says_at d (record { octet = octet; value = value }) ≡ None
unsaid d octet value a b c = by_place (d == 0)
  where
    flow : (x y : Bool) → x ≡ false → y ≡ false → (if x then Some true else (if y then Some false else None)) ≡ None
    flow true y e g = cc
    flow false true e g = cc
    flow false false e g = refl

    status : (x y s : Bool) → x ≡ false → (if x && y then Some s else None) ≡ None
    status true y s e = cc
    status false y s e = refl

    by_place : (z : Bool) → (if z then flow_says else msc_says d) (record { octet = octet; value = value }) ≡ None
    by_place true = flow (octet == fcoff) (octet == fcon) b c
    by_place false = status (octet == msc) (msc_dlci value == d) (msc_stops value) a

-- a message that is spelled says what it says, or isn't read
pub spelled_quiet : (r : Role) (octet : ℕ) (value : List ℕ) (say : Message → Option Bool) → say (record { octet = octet; value = value }) ≡ None → is_some (if_message say (message_in (message_frame r octet value))) ≡ false
spelled_quiet r octet value say h = by_read (message_in (message_frame r octet value)) (is_read r octet value)
  where
    by_read : (o : Option Message) → IsRead octet value o → is_some (if_message say o) ≡ false
    by_read _ as_it_is = ap is_some h
    by_read _ unread = refl

-- nor does the frame of such a message
pub message_quiet : (r : Role) (d octet : ℕ) (value : List ℕ) → (octet == msc) ≡ false → (octet == fcoff) ≡ false → (octet == fcon) ≡ false → speaks d (message_frame r octet value) ≡ false
message_quiet r d octet value a b c = spelled_quiet r octet value (says_at d) (unsaid d octet value a b c)

-- an MSC for another connection says nothing
pub status_quiet : (r : Role) (d e signals : ℕ) → (e == d) ≡ false → speaks d (msc_frame r e signals) ≡ false
status_quiet r d e signals apart = spelled_quiet r msc ((4 * e + 3) ∷ signals ∷ []) (says_at d) (by_place (d == 0))
  where
    here : ((4 * e + 3) / 4 == d) ≡ false
    here = let same : (4 * e + 3) / 4 ≡ e = omega arith in ap (λ n. n == d) same ∙ apart

    by_place : (z : Bool) → (if z then flow_says else msc_says d) (record { octet = msc; value = (4 * e + 3) ∷ signals ∷ [] }) ≡ None
    by_place true = refl
    by_place false = ap (λ (b : Bool). if b then Some (msc_stops ((4 * e + 3) ∷ signals ∷ [])) else None) here

-- FCon and FCoff say nothing of one connection
pub flow_quiet : (r : Role) (d : ℕ) (go : Bool) → (d == 0) ≡ false → speaks d (message_frame r (if go then 0xa3 else 0x63) []) ≡ false
flow_quiet r d true apart = spelled_quiet r 0xa3 [] (says_at d) (ap (λ (z : Bool). (if z then flow_says else msc_says d) (record { octet = 0xa3; value = [] })) apart)
flow_quiet r d false apart = spelled_quiet r 0x63 [] (says_at d) (ap (λ (z : Bool). (if z then flow_says else msc_says d) (record { octet = 0x63; value = [] })) apart)

-- ## What the tables call for

-- UA and DM say nothing
pub mode_quiet : (r : Role) (d e : ℕ) (b : Bool) → many (speaks d) (ua_or_dm r e b ∷ []) ≤ 0
mode_quiet r d e true = omega arith
mode_quiet r d e false = omega arith

responds_quiet : (r : Role) (d : ℕ) (m : Message) (b c : Bool) → is_supported m.octet ≡ b
    → many (speaks d) (if b then message_frame r (response_of m.octet) m.value ∷ [] else if c then message_frame r (response_of nsc) (m.octet ∷ []) ∷ [] else []) ≤ 0
responds_quiet r d m true c s =
    none_one (speaks d) (message_frame r (response_of m.octet) m.value)
    (supported_by (λ o. speaks d (message_frame r (response_of o) m.value) ≡ false) m.octet s
    (message_quiet r d (response_of test) m.value refl refl refl) (message_quiet r d (response_of fcoff) m.value refl refl refl) (message_quiet r d (response_of fcon) m.value refl refl refl)
    (message_quiet r d (response_of cld) m.value refl refl refl) (message_quiet r d (response_of msc) m.value refl refl refl))
responds_quiet r d m false true s = none_one (speaks d) (message_frame r (response_of nsc) (m.octet ∷ [])) (message_quiet r d (response_of nsc) (m.octet ∷ []) refl refl refl)
responds_quiet r d m false false s = omega arith

response_quiet : (r : Role) (d : ℕ) (o : Option Message) → many (speaks d) (response_to r o) ≤ 0
response_quiet r d None = omega arith
response_quiet r d (Some m) = responds_quiet r d m (is_supported m.octet) (is_command m && not (m.octet == nsc)) refl

answers_quiet : (r : Role) (d : ℕ) (s : State) (f : Frame) → many (speaks d) (by_message r s f) ≤ 0
answers_quiet r d IsOpened f = response_quiet r d (message_in f)
answers_quiet r d (IsStopping n) f = few_if (speaks d) 0 (brings_command cld f) (response_to r (message_in f)) [] (response_quiet r d (message_in f)) (omega arith)
answers_quiet r d IsShut f = omega arith
answers_quiet r d (IsOpening n) f = omega arith
answers_quiet r d (IsClosing n) f = omega arith

after_quiet : (r : Role) (d e : ℕ) → (e == d) ≡ false → many (speaks d) (msc_after_opening r e) ≤ 0
after_quiet r d e apart = few_if (speaks d) 0 (e == 0) [] (msc_frame r e ready ∷ []) (omega arith) (none_one (speaks d) (msc_frame r e ready) (status_quiet r d e ready apart))

-- an initiator tells its signals where it was opening
asked_quiet : (d e : ℕ) (channel own : State) (k : Kind) → ((e == d) ≡ true → is_opening own ≡ false) → many (speaks d) (by_table Initiator e channel own k) ≤ 0
asked_quiet d e channel own Ua h = by_here (e == d) refl
  where
    by_here : (b : Bool) → (e == d) ≡ b → many (speaks d) (if is_opening own then msc_after_opening Initiator e else []) ≤ 0
    by_here true here = let x : many (speaks d) (if is_opening own then msc_after_opening Initiator e else []) ≡ 0 = ap (λ (b : Bool). many (speaks d) (if b then msc_after_opening Initiator e else [])) (h here) in omega (arith, x)
    by_here false apart = few_if (speaks d) 0 (is_opening own) (msc_after_opening Initiator e) [] (after_quiet Initiator d e apart) (omega arith)
asked_quiet d e channel own Sabm h = mode_quiet Initiator d e false
asked_quiet d e channel own Disc h = mode_quiet Initiator d e (is_opened own)
asked_quiet d e channel own Dm h = omega arith
asked_quiet d e channel own Uih h = omega arith

-- where d isn't Opening, a frame that comes to an initiator calls for none that says something
pub initiator_quiet : (d : ℕ) (state : ℕ → State) (f : Frame) → is_opening (state d) ≡ false → many (speaks d) (by_frame Initiator state f) ≤ 0
initiator_quiet d state f h =
    few_if (speaks d) 0 (is_on Uih 0 f) (by_message Initiator (state 0) f) (by_table Initiator f.dlci (state 0) (state f.dlci) f.kind) (answers_quiet Initiator d (state 0) f)
    (asked_quiet d f.dlci (state 0) (state f.dlci) f.kind (λ here. ap (λ n. is_opening (state n)) (eqb-true f.dlci d here) ∙ h))

-- a responder tells its signals where a SABM comes
opened_quiet : (d e : ℕ) (channel own : State) (k : Kind) → (is_kind k Sabm && (e == d)) ≡ false → many (speaks d) (by_table Responder e channel own k) ≤ 0
opened_quiet d e channel own Sabm apart =
    few_if (speaks d) 0 ((e == 0) || is_opened channel) (ua_or_dm Responder e true ∷ msc_after_opening Responder e) (ua_or_dm Responder e false ∷ [])
    (let a = mode_quiet Responder d e true in let c = after_quiet Responder d e apart in omega (arith, a, c)) (mode_quiet Responder d e false)
opened_quiet d e channel own Disc apart = mode_quiet Responder d e (is_opened own)
opened_quiet d e channel own Ua apart = omega arith
opened_quiet d e channel own Dm apart = omega arith
opened_quiet d e channel own Uih apart = omega arith

-- nor does one that comes to a responder, unless it is a SABM on d
pub responder_quiet : (d : ℕ) (state : ℕ → State) (f : Frame) → is_on Sabm d f ≡ false → many (speaks d) (by_frame Responder state f) ≤ 0
responder_quiet d state f unasked =
    few_if (speaks d) 0 (is_on Uih 0 f) (by_message Responder (state 0) f) (by_table Responder f.dlci (state 0) (state f.dlci) f.kind) (answers_quiet Responder d (state 0) f)
    (opened_quiet d f.dlci (state 0) (state f.dlci) f.kind unasked)

-- nor does a connection that is held or freed, while d isn't Opened
pub by_flow_quiet : (r : Role) (d : ℕ) (state : ℕ → State) (e signals : ℕ) → is_opened (state d) ≡ false → many (speaks d) (by_flow r state e signals) ≤ 0
by_flow_quiet r d state e signals shut = by_here (e == d) refl
  where
    by_here : (b : Bool) → (e == d) ≡ b → many (speaks d) (by_flow r state e signals) ≤ 0
    by_here true here =
        let none : is_opened (state e) ≡ false = ap (λ n. is_opened (state n)) (eqb-true e d here) ∙ shut in
        let x : many (speaks d) (by_flow r state e signals) ≡ 0 = ap (λ (b : Bool). many (speaks d) (if b then msc_frame r e signals ∷ [] else [])) none in
        omega (arith, x)
    by_here false apart = few_if (speaks d) 0 (is_opened (state e)) (msc_frame r e signals ∷ []) [] (none_one (speaks d) (msc_frame r e signals) (status_quiet r d e signals apart)) (omega arith)

-- ## Responses

apart_by : (octet x : ℕ) → is_command_octet octet ≡ true → is_command_octet (response_of x) ≡ false → (command_of octet == x) ≡ false
apart_by octet x h off = by_test (command_of octet == x) refl
  where
    by_test : (b : Bool) → (command_of octet == x) ≡ b → b ≡ false
    by_test false e = refl
    by_test true e =
        let same = eqb-true (command_of octet) x e in
        let back : octet ≡ response_of x = omega (arith, same) in
        let on : is_command_octet (response_of x) ≡ true = subst (λ n. is_command_octet n ≡ true) back h in
        let t : true ≡ false = sym on ∙ off in cc

-- a command responds to nothing
pub command_back : (r : Role) (d octet : ℕ) (value : List ℕ) → is_command_octet octet ≡ true → speaks_back d (message_frame r octet value) ≡ false
command_back r d octet value h =
    spelled_quiet r octet value (says_back d) (unsaid d (command_of octet) value (apart_by octet msc h refl) (apart_by octet fcoff h refl) (apart_by octet fcon h refl))

one_at_most : (d : ℕ) (f : Frame) → many (speaks_back d) (f ∷ []) ≤ 1
one_at_most d f = by_test (speaks_back d f)
  where
    by_test : (b : Bool) → unit b + 0 ≤ 1
    by_test true = omega arith
    by_test false = omega arith

response_back : (r : Role) (d : ℕ) (o : Option Message) → many (speaks_back d) (response_to r o) ≤ 1
response_back r d None = omega arith
response_back r d (Some m) =
    few_if (speaks_back d) 1 (is_supported m.octet) (message_frame r (response_of m.octet) m.value ∷ []) (if is_command m && not (m.octet == nsc) then message_frame r (response_of nsc) (m.octet ∷ []) ∷ [] else [])
    (one_at_most d (message_frame r (response_of m.octet) m.value))
    (few_if (speaks_back d) 1 (is_command m && not (m.octet == nsc)) (message_frame r (response_of nsc) (m.octet ∷ []) ∷ []) [] (one_at_most d (message_frame r (response_of nsc) (m.octet ∷ []))) (omega arith))

answers_back : (r : Role) (d : ℕ) (s : State) (f : Frame) → many (speaks_back d) (by_message r s f) ≤ 1
answers_back r d IsOpened f = response_back r d (message_in f)
answers_back r d (IsStopping n) f = few_if (speaks_back d) 1 (brings_command cld f) (response_to r (message_in f)) [] (response_back r d (message_in f)) (omega arith)
answers_back r d IsShut f = omega arith
answers_back r d (IsOpening n) f = omega arith
answers_back r d (IsClosing n) f = omega arith

mode_back : (r : Role) (d e : ℕ) (b : Bool) → many (speaks_back d) (ua_or_dm r e b ∷ []) ≤ 0
mode_back r d e true = omega arith
mode_back r d e false = omega arith

after_back : (r : Role) (d e : ℕ) → many (speaks_back d) (msc_after_opening r e) ≤ 0
after_back r d e = few_if (speaks_back d) 0 (e == 0) [] (msc_frame r e ready ∷ []) (omega arith) (none_one (speaks_back d) (msc_frame r e ready) (command_back r d msc ((4 * e + 3) ∷ ready ∷ []) refl))

-- what comes without a message calls for no response that says something
pub table_back : (r : Role) (d e : ℕ) (channel own : State) (k : Kind) → many (speaks_back d) (by_table r e channel own k) ≤ 0
table_back Initiator d e channel own Ua = few_if (speaks_back d) 0 (is_opening own) (msc_after_opening Initiator e) [] (after_back Initiator d e) (omega arith)
table_back Initiator d e channel own Sabm = mode_back Initiator d e false
table_back Initiator d e channel own Disc = mode_back Initiator d e (is_opened own)
table_back Initiator d e channel own Dm = omega arith
table_back Initiator d e channel own Uih = omega arith
table_back Responder d e channel own Sabm =
    few_if (speaks_back d) 0 ((e == 0) || is_opened channel) (ua_or_dm Responder e true ∷ msc_after_opening Responder e) (ua_or_dm Responder e false ∷ [])
    (let a = mode_back Responder d e true in let c = after_back Responder d e in omega (arith, a, c)) (mode_back Responder d e false)
table_back Responder d e channel own Disc = mode_back Responder d e (is_opened own)
table_back Responder d e channel own Ua = omega arith
table_back Responder d e channel own Dm = omega arith
table_back Responder d e channel own Uih = omega arith

-- responses that say something are called for by what comes alone
pub back_balanced : (most : ℕ) (r : Role) (d : ℕ) → Balanced AnyProbe most r (speaks_back d) each_frame
back_balanced most r d = record {
  frame = λ state f.
      few_if (speaks_back d) 1 (is_on Uih 0 f) (by_message r (state 0) f) (by_table r f.dlci (state 0) (state f.dlci) f.kind) (answers_back r d (state 0) f)
      (let x = table_back r d f.dlci (state 0) (state f.dlci) f.kind in omega (arith, x));
  plain = λ f is few. ap (λ (o : Option Message). is_some (if_message (says_back d) o)) (data_no_message f is);
  sabm = λ e. refl;
  disc = λ e. refl;
  command = λ octet value is few. command_back r d octet value is;
  probe = λ octets h. command_back r d test octets refl;
  short = λ octets h. tt;
}

-- ## The response to what says something

-- a message is read as it is spelled, where its type is odd, and an MSC is good
spelled_read : (r : Role) (octet : ℕ) (value : List ℕ) → (octet % 2 == 1) ≡ true → (is_msc octet && not (is_good_msc value)) ≡ false → message_in (message_frame r octet value) ≡ Some (record { octet = octet; value = value })
spelled_read r octet value odd good =
    let n = (2 * length value + 1) / 2 in
    let whole : take n value ≡ value = take_all n value (omega arith) in
    let extended : ((2 * length value + 1) % 2 == 1) ≡ true = eq-eqb ((2 * length value + 1) % 2) 1 (omega arith) in
    let fits : nat_le n (length value) ≡ true = le-leb n (length value) (omega arith) in
    ap (λ (b : Bool). if b && (((2 * length value + 1) % 2 == 1) && nat_le n (length value)) then if_good (record { octet = octet; value = take n value }) else None) odd
    ∙ (ap (λ (b : Bool). if b && nat_le n (length value) then if_good (record { octet = octet; value = take n value }) else None) extended
    ∙ (ap (λ (b : Bool). if b then if_good (record { octet = octet; value = take n value }) else None) fits
    ∙ (ap (λ (v : List ℕ). if_good (record { octet = octet; value = v })) whole
    ∙ ap (λ (b : Bool). if b then None else Some (record { octet = octet; value = value })) good)))

-- an MSC that was read is good
if_good_is : (x m : Message) → if_good x ≡ Some m → (is_msc m.octet && not (is_good_msc m.value)) ≡ false
if_good_is x m e = by_test (is_msc x.octet && not (is_good_msc x.value)) refl e
  where
    of_option : Option Message → Bool
    of_option None = false
    of_option (Some y) = is_msc y.octet && not (is_good_msc y.value)

    by_test : (b : Bool) → (is_msc x.octet && not (is_good_msc x.value)) ≡ b → (if b then None else Some x) ≡ Some m → (is_msc m.octet && not (is_good_msc m.value)) ≡ false
    by_test true is k = cc
    by_test false is k = sym (ap of_option k) ∙ is

-- no message that was read is an MSC that isn't good
pub good_read : (info : List ℕ) (m : Message) → message_of info ≡ Some m → (is_msc m.octet && not (is_good_msc m.value)) ≡ false
good_read [] m e = cc
good_read (t ∷ []) m e = cc
good_read (t ∷ l ∷ rest) m e = by_test ((t % 2 == 1) && ((l % 2 == 1) && nat_le (l / 2) (length rest))) e
  where
    by_test : (b : Bool) → (if b then if_good (record { octet = t; value = take (l / 2) rest }) else None) ≡ Some m → (is_msc m.octet && not (is_good_msc m.value)) ≡ false
    by_test true k = if_good_is (record { octet = t; value = take (l / 2) rest }) m k
    by_test false k = cc

-- the response to a supported message says what the message says
pub same_back : (r : Role) (d : ℕ) (m : Message) → is_supported m.octet ≡ true → (is_msc m.octet && not (is_good_msc m.value)) ≡ false → answer_says d (message_frame r (response_of m.octet) m.value) ≡ says_at d m
same_back r d m s good =
    supported_by (λ o. (is_msc o && not (is_good_msc m.value)) ≡ false → answer_says d (message_frame r (response_of o) m.value) ≡ says_at d (record { octet = o; value = m.value })) m.octet s
    (λ g. quiet_read test (message_in (message_frame r (response_of test) m.value)) (is_read r (response_of test) m.value) refl (unsaid d test m.value refl refl refl))
    (λ g. ap (if_message (says_back d)) (spelled_read r (response_of fcoff) m.value refl refl))
    (λ g. ap (if_message (says_back d)) (spelled_read r (response_of fcon) m.value refl refl))
    (λ g. quiet_read cld (message_in (message_frame r (response_of cld) m.value)) (is_read r (response_of cld) m.value) refl (unsaid d cld m.value refl refl refl))
    (λ g. ap (if_message (says_back d)) (spelled_read r (response_of msc) m.value refl g))
    good
  where
    quiet_read : (o : ℕ) (p : Option Message) → IsRead (response_of o) m.value p → command_of (response_of o) ≡ o → says_at d (record { octet = o; value = m.value }) ≡ None → if_message (says_back d) p ≡ says_at d (record { octet = o; value = m.value })
    quiet_read o _ as_it_is back none = ap (λ (x : ℕ). says_at d (record { octet = x; value = m.value })) back
    quiet_read o _ unread back none = sym none

-- a message that isn't supported says nothing
pub unsupported_unsaid : (d : ℕ) (m : Message) → is_supported m.octet ≡ false → says_at d m ≡ None
unsupported_unsaid d m h = unsaid d m.octet m.value (last (m.octet == test) (m.octet == fcoff) (m.octet == fcon) (m.octet == cld) (m.octet == msc) h) (second (m.octet == test) (m.octet == fcoff) (m.octet == fcon) (m.octet == cld) (m.octet == msc) h) (third (m.octet == test) (m.octet == fcoff) (m.octet == fcon) (m.octet == cld) (m.octet == msc) h)
  where
    second : (a b c e f : Bool) → (a || (b || (c || (e || f)))) ≡ false → b ≡ false
    second true b c e f h = cc
    second false true c e f h = cc
    second false false c e f h = refl

    third : (a b c e f : Bool) → (a || (b || (c || (e || f)))) ≡ false → c ≡ false
    third true b c e f h = cc
    third false true c e f h = cc
    third false false true e f h = cc
    third false false false e f h = refl

    last : (a b c e f : Bool) → (a || (b || (c || (e || f)))) ≡ false → f ≡ false
    last true b c e f h = cc
    last false true c e f h = cc
    last false false true e f h = cc
    last false false false true f h = cc
    last false false false false f h = h

-- a refusal responds to nothing about a stop, nor does the response to a CLD
pub refusal_back : (r : Role) (d octet : ℕ) → many (speaks_back d) (message_frame r (response_of nsc) (octet ∷ []) ∷ []) ≤ 0
refusal_back r d octet = none_one (speaks_back d) (message_frame r (response_of nsc) (octet ∷ [])) (spelled_quiet r (response_of nsc) (octet ∷ []) (says_back d) (unsaid d nsc (octet ∷ []) refl refl refl))

-- what answers a CLD says nothing either
pub closing_back : (r : Role) (d : ℕ) (o : Option Message) → octet_is (λ n. n) cld o ≡ true → many (speaks_back d) (response_to r o) ≤ 0
closing_back r d None h = cc
closing_back r d (Some m) h =
    subst (λ (x : ℕ). many (speaks_back d) (response_to r (Some (record { octet = x; value = m.value }))) ≤ 0) (sym (eqb-true m.octet cld h))
    (none_one (speaks_back d) (message_frame r (response_of cld) m.value) (spelled_quiet r (response_of cld) m.value (says_back d) (unsaid d cld m.value refl refl refl)))
