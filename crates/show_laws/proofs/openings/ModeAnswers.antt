-- The tables call for UA and DM where a SABM or DISC comes on the same connection.
use Rattle.std.specs.Prelude.{◌≡◌, ℕ, ◌==◌, ◌≤◌, ◌&&◌, ◌||◌, not, Bool, true, false, List, [], ◌∷◌, Option, Some, None, refl, if◌then◌else◌}
use Rattle.std.proofs.Common.{arith}
use Rattle.std.proofs.lemmas.Bool.{and_parts}
use Rattle.mux_frame.specs.Frames.{Frame}
use Rattle.mux_frame.specs.declared.frame.Kind.{Kind}
use Rattle.mux_frame.specs.declared.frame.Kind.TheVariants.{Sabm, Ua, Dm, Disc, Uih}
use Rattle.mux_station.specs.declared.role.Role.{Role}
use Rattle.mux_station.specs.declared.role.Role.TheVariants.{Initiator, Responder}
use Rattle.mux_station.specs.Written.{is_data_frame, is_kind, is_on, written}
use Rattle.mux_station.specs.Messages.{Message, message_in, is_command, response_of, cld, nsc, brings_command}
use Rattle.mux_station.specs.States.{State, IsShut, IsOpening, IsOpened, IsClosing, IsStopping, is_opened}
use Rattle.mux_station.specs.Tables.{by_frame, by_message, by_table, is_opening, is_supported, message_frame, msc_after_opening, msc_frame, ready, response_to, ua_or_dm}
use Rattle.modem_show.specs.Asking.{is_mode_answer, is_mode_command}
use Rattle.show_laws.proofs.counts.ManyFrames.{few_if, many, none_one, unit}
use Rattle.show_laws.proofs.counts.BalancedTables.{Balanced}
use Rattle.show_laws.proofs.asks.AnswersCalled.{AnyProbe}

-- a test of UA and DM: it passes no UIH, and of the others no more than those on these connections
pub record OfModes (u : Frame → Bool) (w : ℕ → Bool) : Type 0 where
  pub uih : (r : Role) (d : ℕ) (info : List ℕ) → u (written r Uih d info) ≡ false
  pub answer : (r : Role) (d : ℕ) (b : Bool) → unit (u (ua_or_dm r d b)) ≤ unit (w d)

messages : (u : Frame → Bool) (w : ℕ → Bool) → OfModes u w → (r : Role) (o : Option Message) → many u (response_to r o) ≤ 0
messages u w h r None = omega arith
messages u w h r (Some m) =
    few_if u 0 (is_supported m.octet) (message_frame r (response_of m.octet) m.value ∷ []) (if is_command m && not (m.octet == nsc) then message_frame r (response_of nsc) (m.octet ∷ []) ∷ [] else [])
    (none_one u (message_frame r (response_of m.octet) m.value) (h.uih r 0 _))
    (few_if u 0 (is_command m && not (m.octet == nsc)) (message_frame r (response_of nsc) (m.octet ∷ []) ∷ []) [] (none_one u (message_frame r (response_of nsc) (m.octet ∷ [])) (h.uih r 0 _)) (omega arith))

-- no message calls for a frame of such a test
pub messaged : (u : Frame → Bool) (w : ℕ → Bool) → OfModes u w → (r : Role) (s : State) (f : Frame) → many u (by_message r s f) ≤ 0
messaged u w h r IsOpened f = messages u w h r (message_in f)
messaged u w h r (IsStopping n) f = few_if u 0 (brings_command cld f) (response_to r (message_in f)) [] (messages u w h r (message_in f)) (omega arith)
messaged u w h r IsShut f = omega arith
messaged u w h r (IsOpening n) f = omega arith
messaged u w h r (IsClosing n) f = omega arith

opened : (u : Frame → Bool) (w : ℕ → Bool) → OfModes u w → (r : Role) (d : ℕ) → many u (msc_after_opening r d) ≤ 0
opened u w h r d = few_if u 0 (d == 0) [] (msc_frame r d ready ∷ []) (omega arith) (none_one u (msc_frame r d ready) (h.uih r 0 _))

alone : (u : Frame → Bool) (w : ℕ → Bool) → OfModes u w → (r : Role) (d : ℕ) (b : Bool) → many u (ua_or_dm r d b ∷ []) ≤ unit (w d)
alone u w h r d b = let e = h.answer r d b in omega (arith, e)

-- the tables call for one at most, where a SABM or DISC comes on one of the connections
pub tabled : (u : Frame → Bool) (w : ℕ → Bool) → OfModes u w → (r : Role) (d : ℕ) (channel own : State) (k : Kind) → many u (by_table r d channel own k) ≤ unit ((is_kind k Sabm || is_kind k Disc) && w d)
tabled u w h Initiator d channel own Ua = few_if u 0 (is_opening own) (msc_after_opening Initiator d) [] (opened u w h Initiator d) (omega arith)
tabled u w h Initiator d channel own Sabm = alone u w h Initiator d false
tabled u w h Initiator d channel own Dm = omega arith
tabled u w h Initiator d channel own Uih = omega arith
tabled u w h Initiator d channel own Disc = alone u w h Initiator d (is_opened own)
tabled u w h Responder d channel own Ua = omega arith
tabled u w h Responder d channel own Dm = omega arith
tabled u w h Responder d channel own Uih = omega arith
tabled u w h Responder d channel own Disc = alone u w h Responder d (is_opened own)
tabled u w h Responder d channel own Sabm =
    few_if u (unit (w d)) ((d == 0) || is_opened channel) (ua_or_dm Responder d true ∷ msc_after_opening Responder d) (ua_or_dm Responder d false ∷ [])
    (let a = h.answer Responder d true in let e = opened u w h Responder d in omega (arith, a, e))
    (alone u w h Responder d false)

-- what comes calls for one at most, and only a SABM or DISC does
pub modes_few : (u : Frame → Bool) (w : ℕ → Bool) → OfModes u w → (r : Role) (state : ℕ → State) (f : Frame) → many u (by_frame r state f) ≤ unit (is_mode_command f && w f.dlci)
modes_few u w h r state f =
    few_if u (unit (is_mode_command f && w f.dlci)) (is_on Uih 0 f) (by_message r (state 0) f) (by_table r f.dlci (state 0) (state f.dlci) f.kind)
    (let e = messaged u w h r (state 0) f in omega (arith, e)) (tabled u w h r f.dlci (state 0) (state f.dlci) f.kind)

-- so such a test is balanced by SABM and DISC on them, if no data passes, and no SABM nor DISC
pub modes_balanced : (most : ℕ) (r : Role) (u : Frame → Bool) (w : ℕ → Bool) → OfModes u w → ((f : Frame) → is_data_frame f ≡ true → u f ≡ false)
    → ((d : ℕ) → u (written r Sabm d []) ≡ false) → ((d : ℕ) → u (written r Disc d []) ≡ false) → Balanced AnyProbe most r u (λ f. is_mode_command f && w f.dlci)
modes_balanced most r u w h plain sabm disc = record {
  frame = λ state f. modes_few u w h r state f;
  plain = λ f is few. plain f is;
  sabm = sabm;
  disc = disc;
  command = λ octet value is few. h.uih r 0 _;
  probe = λ octets e. h.uih r 0 _;
  short = λ octets e. tt;
}

-- ## UA on a connection

-- UA on d is such a test
pub ua_modes : (d : ℕ) → OfModes (is_on Ua d) (λ n. n == d)
ua_modes d = record {
  uih = λ r e info. refl;
  answer = λ r e b. either r e b;
}
  where
    either : (r : Role) (e : ℕ) (b : Bool) → unit (is_on Ua d (ua_or_dm r e b)) ≤ unit (e == d)
    either r e true = omega arith
    either r e false = omega arith

not_ua : (k : Kind) (b : Bool) → is_kind k Uih ≡ true → (is_kind k Ua && b) ≡ false
not_ua Uih b h = refl
not_ua Sabm b h = cc
not_ua Ua b h = cc
not_ua Dm b h = cc
not_ua Disc b h = cc

-- no more UA on d are called for than SABM and DISC come on it
pub ua_balanced : (most : ℕ) (r : Role) (d : ℕ) → Balanced AnyProbe most r (is_on Ua d) (λ f. is_mode_command f && (f.dlci == d))
ua_balanced most r d =
    modes_balanced most r (is_on Ua d) (λ n. n == d) (ua_modes d)
    (λ f is. not_ua f.kind (f.dlci == d) (and_parts (is_kind f.kind Uih) (not (f.dlci == 0)) is).0) (λ e. refl) (λ e. refl)

-- ## UA and DM by which a connection may end

-- a UA or DM on d, or on 0
abbrev pub is_ending : ℕ → Frame → Bool
is_ending d g = is_mode_answer g && ((g.dlci == d) || (g.dlci == 0))

-- so is UA or DM on d or 0
pub ending_modes : (d : ℕ) → OfModes (is_ending d) (λ n. (n == d) || (n == 0))
ending_modes d = record {
  uih = λ r e info. refl;
  answer = λ r e b. either r e b;
}
  where
    either : (r : Role) (e : ℕ) (b : Bool) → unit (is_ending d (ua_or_dm r e b)) ≤ unit ((e == d) || (e == 0))
    either r e true = omega arith
    either r e false = omega arith

-- a UIH is neither UA nor DM
pub no_answer : (k : Kind) (b : Bool) → is_kind k Uih ≡ true → ((is_kind k Ua || is_kind k Dm) && b) ≡ false
no_answer Uih b h = refl
no_answer Sabm b h = cc
no_answer Ua b h = cc
no_answer Dm b h = cc
no_answer Disc b h = cc

-- no more of them are called for than SABM and DISC come on d and 0
pub ending_balanced : (most : ℕ) (r : Role) (d : ℕ) → Balanced AnyProbe most r (is_ending d) (λ f. is_mode_command f && ((f.dlci == d) || (f.dlci == 0)))
ending_balanced most r d =
    modes_balanced most r (is_ending d) (λ n. (n == d) || (n == 0)) (ending_modes d)
    (λ f is. no_answer f.kind ((f.dlci == d) || (f.dlci == 0)) (and_parts (is_kind f.kind Uih) (not (f.dlci == 0)) is).0) (λ e. refl) (λ e. refl)

-- ## SABM

-- no SABM is called for by what comes
pub sabm_never : (d : ℕ) (r : Role) (state : ℕ → State) (f : Frame) → many (is_on Sabm d) (by_frame r state f) ≤ 0
sabm_never d r state f =
    let e = modes_few (is_on Sabm d) (λ n. false) (record { uih = λ q e info. refl; answer = λ q e b. either q e b }) r state f in
    let z = none (is_mode_command f) in
    omega (arith, e, z)
  where
    either : (q : Role) (e : ℕ) (b : Bool) → unit (is_on Sabm d (ua_or_dm q e b)) ≤ 0
    either q e true = omega arith
    either q e false = omega arith

    none : (b : Bool) → unit (b && false) ≤ 0
    none true = omega arith
    none false = omega arith
