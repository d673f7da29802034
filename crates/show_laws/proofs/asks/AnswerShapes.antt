-- The answers that the tables give, and which asks each of them answers.
use Rattle.std.specs.Prelude.{◌≡◌, ℕ, ◌+◌, ◌/◌, ◌%◌, ◌==◌, ◌≤◌, ◌&&◌, ◌||◌, not, Bool, true, false, List, [], ◌∷◌, Option, Some, None, refl, if◌then◌else◌}
use Rattle.std.specs.Str.{bytes_eq}
use Rattle.std.proofs.Common.{ap, arith, sym, ◌∙◌, subst, eqb-true}
use Rattle.std.proofs.lemmas.Bool.{and_from, and_parts, eq-eqb}
use Rattle.std.proofs.lemmas.Slice.Eq.{bytes_eq-Decides}
use Rattle.mux_frame.specs.Frames.{Frame}
use Rattle.mux_frame.specs.declared.frame.Kind.{Kind}
use Rattle.mux_frame.specs.declared.frame.Kind.TheVariants.{Sabm, Ua, Dm, Disc, Uih}
use Rattle.mux_station.specs.Written.{is_kind, is_on}
use Rattle.mux_station.specs.Messages.{Message, message_in, message_of, is_command, response_of, test, fcoff, fcon, cld, msc, nsc}
use Rattle.mux_station.specs.Tables.{is_supported}
use Rattle.modem_show.specs.Asking.{is_mode_command, is_mode_answer, message_asks, message_answers, is_ask, is_answer, names, responds, both_respond, answers}
use Rattle.show_laws.proofs.counts.BalancedTables.{is_command_octet}

-- what follows from either follows where one of them holds
pub or_elim : {P : Type 0} → (a b : Bool) → (a || b) ≡ true → (a ≡ true → P) → (b ≡ true → P) → P
or_elim true b h f g = f refl
or_elim false b h f g = g h

-- what holds of the five supported types holds of each type that is supported
pub supported_by : (P : ℕ → Type 0) (o : ℕ) → is_supported o ≡ true → P test → P fcoff → P fcon → P cld → P msc → P o
supported_by P o h a b c d e =
    or_elim (o == test) ((o == fcoff) || ((o == fcon) || ((o == cld) || (o == msc)))) h (λ k. subst P (sym (eqb-true o test k)) a)
    (λ h1. or_elim (o == fcoff) ((o == fcon) || ((o == cld) || (o == msc))) h1 (λ k. subst P (sym (eqb-true o fcoff k)) b)
    (λ h2. or_elim (o == fcon) ((o == cld) || (o == msc)) h2 (λ k. subst P (sym (eqb-true o fcon k)) c)
    (λ h3. or_elim (o == cld) (o == msc) h3 (λ k. subst P (sym (eqb-true o cld k)) d) (λ k. subst P (sym (eqb-true o msc k)) e))))

-- ## Shapes

-- the value of an NSC that the tables give: a command that isn't supported
abbrev pub is_refused_type : List ℕ → Bool
is_refused_type (c ∷ []) = is_command_octet c && not (is_supported c)
is_refused_type _ = false

-- a message is a command, or a response as the tables give it
abbrev pub shaped_message : Option Message → Bool
shaped_message None = true
shaped_message (Some m) = is_command m || (is_supported (m.octet + 2) || ((m.octet == response_of nsc) && is_refused_type m.value))

-- so is what the frame brings
abbrev pub is_shaped : Frame → Bool
is_shaped f = shaped_message (message_in f)

-- the same message
abbrev pub same_message : Option Message → Option Message → Bool
same_message None o = false
same_message (Some m) None = false
same_message (Some m) (Some n) = (m.octet == n.octet) && bytes_eq m.value n.value

-- h answers the same asks as g
abbrev pub is_alike : Frame → Frame → Bool
is_alike g h = ((is_mode_answer h && is_mode_answer g) && (h.dlci == g.dlci)) || same_message (message_in h) (message_in g)

-- ## Kinds

uih_no_mode : (k : Kind) → is_kind k Uih ≡ true → ((is_kind k Sabm || is_kind k Disc) ≡ false) × ((is_kind k Ua || is_kind k Dm) ≡ false)
uih_no_mode Uih h = (refl, refl)
uih_no_mode Sabm h = cc
uih_no_mode Ua h = cc
uih_no_mode Dm h = cc
uih_no_mode Disc h = cc

-- a frame with a message is neither a mode command nor a mode answer
pub message_no_mode : (f : Frame) (m : Message) → message_in f ≡ Some m → (is_mode_command f ≡ false) × (is_mode_answer f ≡ false)
message_no_mode f m e = by_on (is_on Uih 0 f) refl e
  where
    by_on : (b : Bool) → is_on Uih 0 f ≡ b → (if b then message_of f.info else None) ≡ Some m → (is_mode_command f ≡ false) × (is_mode_answer f ≡ false)
    by_on true on h = uih_no_mode f.kind (and_parts (is_kind f.kind Uih) (f.dlci == 0) on).0
    by_on false on h = cc

-- the message of an answer is no command
pub answer_no_command : (g : Frame) (n : Message) → is_answer g ≡ true → message_in g ≡ Some n → is_command n ≡ false
answer_no_command g n h e =
    let none = (message_no_mode g n e).1 in
    turned (is_command n) (sym (ap message_answers e) ∙ (sym (ap (λ (b : Bool). b || message_answers (message_in g)) none) ∙ h))
  where
    turned : (b : Bool) → not b ≡ true → b ≡ false
    turned false h = refl
    turned true h = cc

-- ## What is answered

asks_of : (o p : Option Message) → both_respond o p ≡ true → message_asks o ≡ true
asks_of None p h = cc
asks_of (Some a) None h = cc
asks_of (Some a) (Some m) h = (and_parts (message_asks (Some a)) (responds a m) h).0

-- what is answered asks
pub answered_asks : (f g : Frame) → answers f g ≡ true → is_ask f ≡ true
answered_asks f g h =
    or_elim ((is_mode_command f && is_mode_answer g) && (f.dlci == g.dlci)) (both_respond (message_in f) (message_in g)) h
    (λ k.
    let e = (and_parts (is_mode_command f) (is_mode_answer g) (and_parts (is_mode_command f && is_mode_answer g) (f.dlci == g.dlci) k).0).0 in
    ap (λ (b : Bool). b || message_asks (message_in f)) e)
    (λ k. either (is_mode_command f) (message_asks (message_in f)) (asks_of (message_in f) (message_in g) k))
  where
    either : (a b : Bool) → b ≡ true → (a || b) ≡ true
    either true b h = refl
    either false b h = h

-- ## The one response

-- the type of the response to a command: its own where the command is supported, else that of an NSC
abbrev pub response_octet : Bool → ℕ → ℕ
response_octet true octet = response_of octet
response_octet false octet = response_of nsc

-- and its value: that of the command, or the command's type
abbrev pub response_value : Bool → Message → List ℕ
response_value true a = a.value
response_value false a = a.octet ∷ []

no_command_back : (o : ℕ) → is_command_octet o ≡ true → is_command_octet (response_of o) ≡ false
no_command_back o h =
    let k = eqb-true ((o / 2) % 2) 1 h in
    off (response_of o) (omega (arith, k))
  where
    by_zero : (x : ℕ) → x ≤ 0 → (x == 1) ≡ false
    by_zero x h = let e : x ≡ 0 = omega (arith, h) in ap (λ (y : ℕ). y == 1) e

    off : (n : ℕ) → ((n / 2) % 2) ≤ 0 → is_command_octet n ≡ false
    off n h = by_zero ((n / 2) % 2) h

at_least_two : (o : ℕ) → is_command_octet o ≡ true → (response_of o) + 2 ≡ o
at_least_two o h = let k = eqb-true ((o / 2) % 2) 1 h in omega (arith, k)

-- a value that names a type of a command by a refusal of the tables is that type
named : (octet : ℕ) (value : List ℕ) → is_command_octet octet ≡ true → names octet value ≡ true → is_refused_type value ≡ true → (value ≡ octet ∷ []) × (is_supported octet ≡ false)
named octet [] h n r = cc
named octet (c ∷ d ∷ value) h n r = cc
named octet (c ∷ []) h n r =
    let parts = and_parts (is_command_octet c) (not (is_supported c)) r in
    or_elim (c == octet) (c == response_of octet) n
    (λ k.
    let e = eqb-true c octet k in
    (ap (λ (x : ℕ). x ∷ []) e, turned (is_supported octet) (subst (λ (x : ℕ). not (is_supported x) ≡ true) e parts.1)))
    (λ k.
    let e = eqb-true c (response_of octet) k in
    let off = no_command_back octet h in
    let on : is_command_octet (response_of octet) ≡ true = subst (λ (x : ℕ). is_command_octet x ≡ true) e parts.0 in
    absurd (let x : true ≡ false = sym on ∙ off in cc))
  where
    turned : (b : Bool) → not b ≡ true → b ≡ false
    turned false h = refl
    turned true h = cc

-- an answer of the tables to a message is the one that the tables give to it
pub one_response : (a m : Message) → message_asks (Some a) ≡ true → shaped_message (Some m) ≡ true → responds a m ≡ true → (m.octet ≡ response_octet (is_supported a.octet) a.octet) × (m.value ≡ response_value (is_supported a.octet) a)
one_response a m asks shape r =
    let ask = and_parts (is_command a) (not (a.octet == nsc)) asks in
    or_elim ((m.octet == response_of a.octet) && (not (is_supported a.octet) || bytes_eq m.value a.value)) ((m.octet == response_of nsc) && names a.octet m.value) r
    (λ k.
    let p = and_parts (m.octet == response_of a.octet) (not (is_supported a.octet) || bytes_eq m.value a.value) k in
    own (is_supported a.octet) refl ask (eqb-true m.octet (response_of a.octet) p.0) p.1)
    (λ k.
    let p = and_parts (m.octet == response_of nsc) (names a.octet m.value) k in
    let e = eqb-true m.octet (response_of nsc) p.0 in
    let refused : is_refused_type m.value ≡ true = subst (λ (x : ℕ). (is_command_octet x || (is_supported (x + 2) || ((x == response_of nsc) && is_refused_type m.value))) ≡ true) e shape in
    let n = named a.octet m.value ask.0 p.1 refused in
    (e ∙ ap (λ (b : Bool). response_octet b a.octet) (sym n.1), n.0 ∙ ap (λ (b : Bool). response_value b a) (sym n.1)))
  where
    own : (b : Bool) → is_supported a.octet ≡ b → (is_command a ≡ true) × (not (a.octet == nsc) ≡ true) → m.octet ≡ response_of a.octet → (not b || bytes_eq m.value a.value) ≡ true
        → (m.octet ≡ response_octet b a.octet) × (m.value ≡ response_value b a)
    own true s ask e v = (e, (bytes_eq-Decides m.value a.value).0 v)
    own false s ask e v =
        let shaped : (is_command_octet (response_of a.octet) || (is_supported (response_of a.octet + 2) || ((response_of a.octet == response_of nsc) && is_refused_type m.value))) ≡ true =
        subst (λ (x : ℕ). (is_command_octet x || (is_supported (x + 2) || ((x == response_of nsc) && is_refused_type m.value))) ≡ true) e shape in
        let x = ap (λ (c : Bool). c || (is_supported (response_of a.octet + 2) || ((response_of a.octet == response_of nsc) && is_refused_type m.value))) (no_command_back a.octet ask.0) in
        let y = ap (λ (o : ℕ). is_supported o || ((response_of a.octet == response_of nsc) && is_refused_type m.value)) (at_least_two a.octet ask.0) in
        let z = ap (λ (c : Bool). c || ((response_of a.octet == response_of nsc) && is_refused_type m.value)) s in
        let is : ((response_of a.octet == response_of nsc) && is_refused_type m.value) ≡ true = sym z ∙ (sym y ∙ (sym x ∙ shaped)) in
        let same = eqb-true (response_of a.octet) (response_of nsc) (and_parts (response_of a.octet == response_of nsc) (is_refused_type m.value) is).0 in
        let two = at_least_two a.octet ask.0 in
        let nsc_is : a.octet ≡ nsc = omega (arith, same, two) in
        absurd (let g : not (nsc == nsc) ≡ true = subst (λ (o : ℕ). not (o == nsc) ≡ true) nsc_is ask.1 in cc)

-- ## Which answer which

same_by : (a m n : Message) → message_asks (Some a) ≡ true → shaped_message (Some m) ≡ true → shaped_message (Some n) ≡ true → responds a m ≡ true → responds a n ≡ true → same_message (Some m) (Some n) ≡ true
same_by a m n asks sm sn rm rn =
    let x = one_response a m asks sm rm in
    let y = one_response a n asks sn rn in
    and_from (m.octet == n.octet) (bytes_eq m.value n.value) (equal m.octet n.octet (x.0 ∙ sym y.0)) ((bytes_eq-Decides m.value n.value).1 (x.1 ∙ sym y.1))
  where
    equal : (p q : ℕ) → p ≡ q → (p == q) ≡ true
    equal p q e = eq-eqb p q e

messages_alike : (o p q : Option Message) → shaped_message p ≡ true → shaped_message q ≡ true → both_respond o p ≡ true → both_respond o q ≡ true → same_message p q ≡ true
messages_alike None p q sp sq hp hq = cc
messages_alike (Some a) None q sp sq hp hq = cc
messages_alike (Some a) (Some m) None sp sq hp hq = cc
messages_alike (Some a) (Some m) (Some n) sp sq hp hq =
    let x = and_parts (message_asks (Some a)) (responds a m) hp in
    let y = and_parts (message_asks (Some a)) (responds a n) hq in
    same_by a m n x.0 sp sq x.1 y.1

no_response : (o p : Option Message) (f : Frame) → message_in f ≡ o → is_mode_command f ≡ true → both_respond o p ≡ false
no_response None p f e h = refl
no_response (Some a) p f e h = let g : true ≡ false = sym h ∙ (message_no_mode f a e).0 in absurd cc

-- of an ask that both answer they answer all
pub alike : (f g h : Frame) → is_shaped g ≡ true → is_shaped h ≡ true → answers f g ≡ true → answers f h ≡ true → is_alike g h ≡ true
alike f g h sg sh ag ah =
    or_elim ((is_mode_command f && is_mode_answer h) && (f.dlci == h.dlci)) (both_respond (message_in f) (message_in h)) ah by_mode by_message
  where
    mode_too : (is_mode_command f ≡ true) → ((is_mode_command f && is_mode_answer g) && (f.dlci == g.dlci)) ≡ true
    mode_too m = first ((is_mode_command f && is_mode_answer g) && (f.dlci == g.dlci)) (both_respond (message_in f) (message_in g)) (no_response (message_in f) (message_in g) f refl m) ag
      where
        first : (a b : Bool) → b ≡ false → (a || b) ≡ true → a ≡ true
        first true b e h = refl
        first false b e h = absurd (let x : true ≡ false = sym h ∙ e in cc)

    by_mode : ((is_mode_command f && is_mode_answer h) && (f.dlci == h.dlci)) ≡ true → is_alike g h ≡ true
    by_mode k =
        let p = and_parts (is_mode_command f && is_mode_answer h) (f.dlci == h.dlci) k in
        let q = and_parts (is_mode_command f) (is_mode_answer h) p.0 in
        let r = and_parts (is_mode_command f && is_mode_answer g) (f.dlci == g.dlci) (mode_too q.0) in
        let same : h.dlci ≡ g.dlci = sym (eqb-true f.dlci h.dlci p.1) ∙ eqb-true f.dlci g.dlci r.1 in
        let both : ((is_mode_answer h && is_mode_answer g) && (h.dlci == g.dlci)) ≡ true =
        and_from (is_mode_answer h && is_mode_answer g) (h.dlci == g.dlci) (and_from (is_mode_answer h) (is_mode_answer g) q.1 (and_parts (is_mode_command f) (is_mode_answer g) r.0).1) (eq-eqb h.dlci g.dlci same) in
        ap (λ (b : Bool). b || same_message (message_in h) (message_in g)) both

    by_message : both_respond (message_in f) (message_in h) ≡ true → is_alike g h ≡ true
    by_message k =
        or_elim ((is_mode_command f && is_mode_answer g) && (f.dlci == g.dlci)) (both_respond (message_in f) (message_in g)) ag
        (λ m. absurd (let x : true ≡ false = sym k ∙ no_response (message_in f) (message_in h) f refl (and_parts (is_mode_command f) (is_mode_answer g) (and_parts (is_mode_command f && is_mode_answer g) (f.dlci == g.dlci) m).0).0 in cc))
        (λ m. second ((is_mode_answer h && is_mode_answer g) && (h.dlci == g.dlci)) (same_message (message_in h) (message_in g)) (messages_alike (message_in f) (message_in h) (message_in g) sh sg k m))
      where
        second : (a b : Bool) → b ≡ true → (a || b) ≡ true
        second true b e = refl
        second false b e = e
