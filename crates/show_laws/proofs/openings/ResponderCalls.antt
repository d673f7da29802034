-- The answers that a responder's frames and calls bring about.
use Rattle.std.specs.Prelude.{◌≡◌, ℕ, ◌+◌, ◌*◌, ◌==◌, ◌≤◌, ◌&&◌, ◌||◌, not, Bool, true, false, List, [], ◌∷◌, Option, Some, None, refl, if◌then◌else◌}
use Rattle.std.proofs.Common.{ap, arith, sym, ◌∙◌, subst, eqb-true}
use Rattle.std.proofs.lemmas.Bool.{and_from, and_parts, eq-eqb}
use Rattle.mux_frame.specs.Frames.{Frame}
use Rattle.mux_frame.specs.declared.frame.Kind.{Kind}
use Rattle.mux_frame.specs.declared.frame.Kind.TheVariants.{Sabm, Ua, Dm, Disc, Uih}
use Rattle.mux_station.specs.declared.role.Role.{Role}
use Rattle.mux_station.specs.declared.role.Role.TheVariants.{Initiator, Responder}
use Rattle.mux_station.specs.Written.{is_data_frame, is_kind, is_on}
use Rattle.mux_station.specs.Messages.{Message, cld, msc, nsc, test, brings_command, brings_response, command_of, is_command, message_in, message_of, octet_is, response_of}
use Rattle.mux_station.specs.States.{State, IsShut, IsOpening, IsOpened, IsClosing, IsStopping, is_opened, is_stopping}
use Rattle.mux_station.specs.Tables.{by_frame, by_message, by_table, is_opening, is_supported, message_frame, msc_after_opening, msc_frame, ready, response_to, ua_or_dm}
use Rattle.modem_show.specs.Asking.{answers, both_respond, is_mode_answer, is_mode_command, message_asks, responds}
use Rattle.show_laws.proofs.asks.AnswerShapes.{is_shaped, message_no_mode, one_response, or_elim, response_octet, shaped_message, supported_by}
use Rattle.show_laws.proofs.asks.AnswersCalled.{AnyProbe, IsRead, as_it_is, is_read, unread}
use Rattle.show_laws.proofs.counts.ManyFrames.{few_if, many, none_one, unit}
use Rattle.show_laws.proofs.counts.BalancedTables.{Balanced, is_command_octet}
use Rattle.show_laws.proofs.openings.ModeAnswers.{OfModes, modes_balanced, no_answer}
use Rattle.show_laws.proofs.openings.OpenBelowZero.{none_when}
use Rattle.show_laws.proofs.openings.ModemAnswers.{answer_on, ask_on}

-- ## UA and DM

answer_modes : (d : ℕ) → OfModes (answer_on d) (λ n. n == d)
answer_modes d = record { uih = λ r e info. refl; answer = λ r e b. either r e b }
  where
    either : (r : Role) (e : ℕ) (b : Bool) → unit (answer_on d (ua_or_dm r e b)) ≤ unit (e == d)
    either r e true = omega arith
    either r e false = omega arith

-- no more UA and DM on d are called for than SABM and DISC come on it
pub answer_balanced : (most : ℕ) (r : Role) (d : ℕ) → Balanced AnyProbe most r (answer_on d) (ask_on d)
answer_balanced most r d =
    modes_balanced most r (answer_on d) (λ n. n == d) (answer_modes d)
    (λ f is. no_answer f.kind (f.dlci == d) (and_parts (is_kind f.kind Uih) (not (f.dlci == 0)) is).0) (λ e. refl) (λ e. refl)

-- a SABM that opens is answered by UA
opening_table : (d e : ℕ) (channel own : State) (k : Kind) → (is_kind k Sabm && (e == d)) ≡ true → ((e == 0) || is_opened channel) ≡ true → 1 ≤ many (is_on Ua d) (by_table Responder e channel own k)
opening_table d e channel own Sabm h o =
    let x : many (is_on Ua d) (by_table Responder e channel own Sabm) ≡ many (is_on Ua d) (ua_or_dm Responder e true ∷ msc_after_opening Responder e) =
    ap (λ (b : Bool). many (is_on Ua d) (if b then ua_or_dm Responder e true ∷ msc_after_opening Responder e else ua_or_dm Responder e false ∷ [])) o in
    let y : unit (is_on Ua d (ua_or_dm Responder e true)) ≡ 1 = ap unit h in
    omega (arith, x, y)
opening_table d e channel own Ua h o = cc
opening_table d e channel own Dm h o = cc
opening_table d e channel own Disc h o = cc
opening_table d e channel own Uih h o = cc

-- a SABM is no UIH
pub sabm_bare : (k : Kind) (x y : Bool) → (is_kind k Sabm && x) ≡ true → (is_kind k Uih && y) ≡ false
sabm_bare Sabm x y h = refl
sabm_bare Ua x y h = cc
sabm_bare Dm x y h = cc
sabm_bare Disc x y h = cc
sabm_bare Uih x y h = cc

-- a SABM on d that comes to a responder is answered by UA, if d is 0 or 0 is Opened
pub opening_answered : (d : ℕ) (state : ℕ → State) (f : Frame) → is_on Sabm d f ≡ true → ((d == 0) || is_opened (state 0)) ≡ true → 1 ≤ many (is_on Ua d) (by_frame Responder state f)
opening_answered d state f is o =
    let same = eqb-true f.dlci d (and_parts (is_kind f.kind Sabm) (f.dlci == d) is).1 in
    let bare = sabm_bare f.kind (f.dlci == d) (f.dlci == 0) is in
    let e : many (is_on Ua d) (by_frame Responder state f) ≡ many (is_on Ua d) (by_table Responder f.dlci (state 0) (state f.dlci) f.kind) =
    ap (λ (b : Bool). many (is_on Ua d) (if b then by_message Responder (state 0) f else by_table Responder f.dlci (state 0) (state f.dlci) f.kind)) bare in
    let t = opening_table d f.dlci (state 0) (state f.dlci) f.kind is (ap (λ n. (n == 0) || is_opened (state 0)) same ∙ o) in
    omega (arith, e, t)

-- ## The response to a CLD

-- the response to a CLD
abbrev pub is_down : Frame → Bool
is_down g = brings_response cld g

read_octet : (octet : ℕ) (value : List ℕ) (o : Option Message) → IsRead octet value o → octet_is command_of cld o ≡ true → (command_of octet == cld) ≡ true
read_octet octet value _ as_it_is h = h
read_octet octet value _ unread h = cc

down_octet : (r : Role) (octet : ℕ) (value : List ℕ) → is_down (message_frame r octet value) ≡ true → (command_of octet == cld) ≡ true
down_octet r octet value h = read_octet octet value (message_in (message_frame r octet value)) (is_read r octet value) h

none_if : (t : Frame → Bool) (f : Frame) → (t f ≡ true → true ≡ false) → many t (f ∷ []) ≤ 0
none_if t f h = none_one t f (by_test (t f) refl)
  where
    by_test : (b : Bool) → t f ≡ b → b ≡ false
    by_test false e = refl
    by_test true e = let x : true ≡ false = h e in cc

-- a message of another type is none
pub message_not_down : (r : Role) (octet : ℕ) (value : List ℕ) → (command_of octet == cld) ≡ false → is_down (message_frame r octet value) ≡ false
message_not_down r octet value h = by_test (is_down (message_frame r octet value)) refl
  where
    by_test : (b : Bool) → is_down (message_frame r octet value) ≡ b → b ≡ false
    by_test false e = refl
    by_test true e = let x : true ≡ false = sym (down_octet r octet value e) ∙ h in cc

one_some : (f : Frame) → 1 ≤ many is_down (f ∷ []) → is_down f ≡ true
one_some f h = by_test (is_down f) refl h
  where
    by_test : (b : Bool) → is_down f ≡ b → 1 ≤ unit b + 0 → b ≡ true
    by_test true e h = refl
    by_test false e h = absurd (omega (arith, h))

back_again : (o : ℕ) → is_supported o ≡ true → command_of (response_of o) ≡ o
back_again o s = supported_by (λ n. command_of (response_of n) ≡ n) o s refl refl refl refl refl

responded : (r : Role) (m : Message) (b c : Bool) → is_supported m.octet ≡ b → 1 ≤ many is_down (if b then message_frame r (response_of m.octet) m.value ∷ [] else if c then message_frame r (response_of nsc) (m.octet ∷ []) ∷ [] else []) → (m.octet == cld) ≡ true
responded r m true c s h =
    let x = eqb-true (command_of (response_of m.octet)) cld (down_octet r (response_of m.octet) m.value (one_some (message_frame r (response_of m.octet) m.value) h)) in
    eq-eqb m.octet cld (sym (back_again m.octet s) ∙ x)
responded r m false true s h =
    let none = none_one is_down (message_frame r (response_of nsc) (m.octet ∷ [])) (message_not_down r (response_of nsc) (m.octet ∷ []) refl) in
    absurd (omega (arith, h, none))
responded r m false false s h = absurd (omega (arith, h))

response_down : (r : Role) (o : Option Message) → 1 ≤ many is_down (response_to r o) → octet_is (λ n. n) cld o ≡ true
response_down r None h = absurd (omega (arith, h))
response_down r (Some m) h = responded r m (is_supported m.octet) (is_command m && not (m.octet == nsc)) refl h

mode_not_down : (r : Role) (e : ℕ) (b : Bool) → many is_down (ua_or_dm r e b ∷ []) ≤ 0
mode_not_down r e true = omega arith
mode_not_down r e false = omega arith

status_not_down : (r : Role) (e : ℕ) → many is_down (msc_after_opening r e) ≤ 0
status_not_down r e = few_if is_down 0 (e == 0) [] (msc_frame r e ready ∷ []) (omega arith) (none_one is_down (msc_frame r e ready) (message_not_down r msc ((4 * e + 3) ∷ ready ∷ []) refl))

-- SABM, UA, DM and DISC call for none
pub table_not_down : (r : Role) (e : ℕ) (channel own : State) (k : Kind) → many is_down (by_table r e channel own k) ≤ 0
table_not_down Initiator e channel own Ua = few_if is_down 0 (is_opening own) (msc_after_opening Initiator e) [] (status_not_down Initiator e) (omega arith)
table_not_down Initiator e channel own Dm = omega arith
table_not_down Initiator e channel own Uih = omega arith
table_not_down Initiator e channel own Disc = mode_not_down Initiator e (is_opened own)
table_not_down Initiator e channel own Sabm = mode_not_down Initiator e false
table_not_down Responder e channel own Ua = omega arith
table_not_down Responder e channel own Dm = omega arith
table_not_down Responder e channel own Uih = omega arith
table_not_down Responder e channel own Disc = mode_not_down Responder e (is_opened own)
table_not_down Responder e channel own Sabm =
    few_if is_down 0 ((e == 0) || is_opened channel) (ua_or_dm Responder e true ∷ msc_after_opening Responder e) (ua_or_dm Responder e false ∷ [])
    (let a = mode_not_down Responder e true in let c = status_not_down Responder e in omega (arith, a, c)) (mode_not_down Responder e false)

closing_response : (r : Role) (f : Frame) (b : Bool) → brings_command cld f ≡ b → 1 ≤ many is_down (if b then response_to r (message_in f) else []) → b ≡ true
closing_response r f true e h = refl
closing_response r f false e h = absurd (omega (arith, h))

-- what calls for it is a CLD, while 0 is Opened or Stopping
pub data IsDown (s : State) (f : Frame) : Type 0 where
  while_opened : is_opened s ≡ true → octet_is (λ n. n) cld (message_in f) ≡ true → IsDown s f
  while_stopping : is_stopping s ≡ true → brings_command cld f ≡ true → IsDown s f

down_by : (r : Role) (s : State) (f : Frame) → 1 ≤ many is_down (by_message r s f) → IsDown s f
down_by r IsOpened f h = while_opened refl (response_down r (message_in f) h)
down_by r (IsStopping n) f h = while_stopping refl (closing_response r f (brings_command cld f) refl h)
down_by r IsShut f h = absurd (omega (arith, h))
down_by r (IsOpening n) f h = absurd (omega (arith, h))
down_by r (IsClosing n) f h = absurd (omega (arith, h))

-- where one is called for, a CLD came while 0 is Opened or Stopping
pub any_down_called : (r : Role) (state : ℕ → State) (f : Frame) → 1 ≤ many is_down (by_frame r state f) → ((is_opened (state 0) || is_stopping (state 0)) ≡ true) × (brings_command cld f ≡ true)
any_down_called r state f h = by_on (is_on Uih 0 f) refl h
  where
    read : is_on Uih 0 f ≡ true → octet_is (λ n. n) cld (message_in f) ≡ true → brings_command cld f ≡ true
    read e p = and_from (is_on Uih 0 f) (octet_is (λ n. n) cld (message_of f.info)) e (sym (ap (λ (b : Bool). octet_is (λ n. n) cld (if b then message_of f.info else None)) e) ∙ p)

    right : (a b : Bool) → b ≡ true → (a || b) ≡ true
    right true b e = refl
    right false b e = e

    by_state : is_on Uih 0 f ≡ true → IsDown (state 0) f → ((is_opened (state 0) || is_stopping (state 0)) ≡ true) × (brings_command cld f ≡ true)
    by_state e (while_opened o m) = (ap (λ (b : Bool). b || is_stopping (state 0)) o, read e m)
    by_state e (while_stopping o m) = (right (is_opened (state 0)) (is_stopping (state 0)) o, m)

    by_on : (b : Bool) → is_on Uih 0 f ≡ b → 1 ≤ many is_down (if b then by_message r (state 0) f else by_table r f.dlci (state 0) (state f.dlci) f.kind) → ((is_opened (state 0) || is_stopping (state 0)) ≡ true) × (brings_command cld f ≡ true)
    by_on true e h = by_state e (down_by r (state 0) f h)
    by_on false e h = let none = table_not_down r f.dlci (state 0) (state f.dlci) f.kind in absurd (omega (arith, h, none))

-- a CLD is answered by its response
pub cld_answer : (f g : Frame) → brings_command cld f ≡ true → is_shaped g ≡ true → answers f g ≡ true → is_down g ≡ true
cld_answer f g c shape h =
    let p = and_parts (is_on Uih 0 f) (octet_is (λ n. n) cld (message_of f.info)) c in
    by_message (message_in f) refl (ap (λ (b : Bool). octet_is (λ n. n) cld (if b then message_of f.info else None)) p.0 ∙ p.1)
  where
    by_answer : (m : Message) → message_in f ≡ Some m → (m.octet == cld) ≡ true → (q : Option Message) → message_in g ≡ q → both_respond (Some m) q ≡ true → is_down g ≡ true
    by_answer m e o None is k = cc
    by_answer m e o (Some n) is k =
        let r = and_parts (message_asks (Some m)) (responds m n) k in
        let octet = eqb-true m.octet cld o in
        let one = one_response m n r.0 (ap shaped_message (sym is) ∙ shape) r.1 in
        let back : n.octet ≡ response_of cld = one.0 ∙ ap (λ x. response_octet (is_supported x) x) octet in
        let read : octet_is command_of cld (message_in g) ≡ true = ap (octet_is command_of cld) is ∙ ap (λ x. command_of x == cld) back in
        down_by (is_on Uih 0 g) refl read
      where
        down_by : (b : Bool) → is_on Uih 0 g ≡ b → octet_is command_of cld (if b then message_of g.info else None) ≡ true → (b && octet_is command_of cld (message_of g.info)) ≡ true
        down_by true e h = h
        down_by false e h = h

    by_message : (o : Option Message) → message_in f ≡ o → octet_is (λ n. n) cld o ≡ true → is_down g ≡ true
    by_message None e k = cc
    by_message (Some m) e k =
        or_elim ((is_mode_command f && is_mode_answer g) && (f.dlci == g.dlci)) (both_respond (message_in f) (message_in g)) h
        (λ x.
        let y = and_parts (is_mode_command f) (is_mode_answer g) (and_parts (is_mode_command f && is_mode_answer g) (f.dlci == g.dlci) x).0 in
        absurd (let z : true ≡ false = sym y.0 ∙ (message_no_mode f m e).0 in cc))
        (λ x. by_answer m e k (message_in g) refl (sym (ap (λ (o : Option Message). both_respond o (message_in g)) e) ∙ x))

-- the response to a CLD answers a CLD alone
pub down_answers : (x f : Frame) → is_shaped f ≡ true → brings_response cld f ≡ true → answers x f ≡ true → brings_command cld x ≡ true
down_answers x f shape down h =
    or_elim ((is_mode_command x && is_mode_answer f) && (x.dlci == f.dlci)) (both_respond (message_in x) (message_in f)) h
    (λ k.
    let q = (and_parts (is_mode_command x) (is_mode_answer f) (and_parts (is_mode_command x && is_mode_answer f) (x.dlci == f.dlci) k).0).1 in
    absurd (no_mode (message_in f) refl q there))
    (λ k. by_read (message_in x) (message_in f) refl refl there shape k)
  where
    there : octet_is command_of cld (message_in f) ≡ true
    there =
        let p = and_parts (is_on Uih 0 f) (octet_is command_of cld (message_of f.info)) down in
        ap (λ (b : Bool). octet_is command_of cld (if b then message_of f.info else None)) p.0 ∙ p.1

    no_mode : (o : Option Message) → message_in f ≡ o → is_mode_answer f ≡ true → octet_is command_of cld o ≡ true → ⊥
    no_mode None e m k = cc
    no_mode (Some n) e m k = let t : true ≡ false = sym m ∙ (message_no_mode f n e).1 in cc

    brought : (m : Message) → message_in x ≡ Some m → (m.octet == cld) ≡ true → brings_command cld x ≡ true
    brought m e k = by_on (is_on Uih 0 x) refl e
      where
        by_on : (b : Bool) → is_on Uih 0 x ≡ b → (if b then message_of x.info else None) ≡ Some m → (b && octet_is (λ n. n) cld (message_of x.info)) ≡ true
        by_on true on r = ap (octet_is (λ n. n) cld) r ∙ k
        by_on false on r = cc

    by_read : (o p : Option Message) → message_in x ≡ o → message_in f ≡ p → octet_is command_of cld p ≡ true → shaped_message p ≡ true → both_respond o p ≡ true → brings_command cld x ≡ true
    by_read None p e g c sh k = cc
    by_read (Some a) None e g c sh k = cc
    by_read (Some a) (Some n) e g c sh k =
        let q = and_parts (message_asks (Some a)) (responds a n) k in
        let one = one_response a n q.0 sh q.1 in
        brought a e (octet_back (is_supported a.octet) a.octet n.octet refl one.0 c)
      where
        octet_back : (b : Bool) (o m : ℕ) → is_supported o ≡ b → m ≡ response_octet b o → (command_of m == cld) ≡ true → (o == cld) ≡ true
        octet_back true o m s e c = same o (eqb-true (command_of m) cld c) e
          where
            same : (o : ℕ) → command_of m ≡ cld → m ≡ response_of o → (o == cld) ≡ true
            same o c e = let z : o ≡ cld = omega (arith, c, e) in ap (λ n. n == cld) z
        octet_back false o m s e c = let z : true ≡ false = sym c ∙ ap (λ n. command_of n == cld) e in cc

-- what another answer answers is no CLD
pub not_cld : (f g : Frame) → is_shaped g ≡ true → answers f g ≡ true → is_down g ≡ false → brings_command cld f ≡ false
not_cld f g s a d = by_cld (brings_command cld f) refl
  where
    by_cld : (b : Bool) → brings_command cld f ≡ b → b ≡ false
    by_cld false e = refl
    by_cld true e = let x : true ≡ false = sym (cld_answer f g e s a) ∙ d in cc

-- ## The response to a CLD, by counts

-- each frame passes
abbrev pub each_frame : Frame → Bool
each_frame f = true

at_most_one : (f : Frame) → many is_down (f ∷ []) ≤ 1
at_most_one f = by_test (is_down f)
  where
    by_test : (b : Bool) → unit b + 0 ≤ 1
    by_test true = omega arith
    by_test false = omega arith

down_responses : (r : Role) (o : Option Message) → many is_down (response_to r o) ≤ 1
down_responses r None = omega arith
down_responses r (Some m) =
    few_if is_down 1 (is_supported m.octet) (message_frame r (response_of m.octet) m.value ∷ []) (if is_command m && not (m.octet == nsc) then message_frame r (response_of nsc) (m.octet ∷ []) ∷ [] else [])
    (at_most_one (message_frame r (response_of m.octet) m.value))
    (few_if is_down 1 (is_command m && not (m.octet == nsc)) (message_frame r (response_of nsc) (m.octet ∷ []) ∷ []) [] (at_most_one (message_frame r (response_of nsc) (m.octet ∷ []))) (omega arith))

-- a message calls for one response to a CLD at most
pub down_frames : (r : Role) (s : State) (f : Frame) → many is_down (by_message r s f) ≤ 1
down_frames r IsOpened f = down_responses r (message_in f)
down_frames r (IsStopping n) f = few_if is_down 1 (brings_command cld f) (response_to r (message_in f)) [] (down_responses r (message_in f)) (omega arith)
down_frames r IsShut f = omega arith
down_frames r (IsOpening n) f = omega arith
down_frames r (IsClosing n) f = omega arith

data_bare : (f : Frame) → is_data_frame f ≡ true → is_down f ≡ false
data_bare f h = off (is_kind f.kind Uih) (f.dlci == 0) (octet_is command_of cld (message_of f.info)) h
  where
    off : (a z c : Bool) → (a && not z) ≡ true → ((a && z) && c) ≡ false
    off true true c h = cc
    off true false c h = refl
    off false z c h = refl

-- no more of them are called for than frames come
pub down_balanced : (most : ℕ) (r : Role) → Balanced AnyProbe most r is_down each_frame
down_balanced most r = record {
  frame = λ state f.
      few_if is_down 1 (is_on Uih 0 f) (by_message r (state 0) f) (by_table r f.dlci (state 0) (state f.dlci) f.kind) (down_frames r (state 0) f)
      (let x = table_not_down r f.dlci (state 0) (state f.dlci) f.kind in omega (arith, x));
  plain = λ f is few. data_bare f is;
  sabm = λ d. refl;
  disc = λ d. refl;
  command = λ octet value is few. message_not_down r octet value (no_response octet is);
  probe = λ octets e. message_not_down r test octets refl;
  short = λ octets e. tt;
}
  where
    no_response : (octet : ℕ) → is_command_octet octet ≡ true → (command_of octet == cld) ≡ false
    no_response octet h = by_test (command_of octet == cld) refl
      where
        by_test : (b : Bool) → (command_of octet == cld) ≡ b → b ≡ false
        by_test false e = refl
        by_test true e =
            let x = eqb-true (command_of octet) cld e in
            let y : octet ≡ 0xc1 = omega (arith, x) in
            let z : is_command_octet 0xc1 ≡ true = subst (λ n. is_command_octet n ≡ true) y h in
            cc

-- no more of them than CLDs
pub down_by_cld : (most : ℕ) (r : Role) → Balanced AnyProbe most r is_down (brings_command cld)
down_by_cld most r =
    let b = down_balanced most r in
    record { frame = λ state f. by_cld state f (brings_command cld f) refl; plain = b.plain; sabm = b.sabm; disc = b.disc; command = b.command; probe = b.probe; short = b.short }
  where
    by_cld : (state : ℕ → State) (f : Frame) (b : Bool) → brings_command cld f ≡ b → many is_down (by_frame r state f) ≤ unit b
    by_cld state f true e = (down_balanced most r).frame state f
    by_cld state f false e = none_when (many is_down (by_frame r state f)) (λ some. let t : true ≡ false = sym (any_down_called r state f some).1 ∙ e in cc)
