-- What all frames have that the tables, the control messages, ticks and flow call for: all that mode frames and control messages
-- have.
use Rattle.std.specs.Prelude.{◌≡◌, ℕ, zero, suc, ◌+◌, ◌*◌, ◌==◌, ◌&&◌, ◌||◌, not, Bool, true, false, List, [], ◌∷◌, ◌++◌, length, refl, if◌then◌else◌, Option, Some, None}
use Rattle.std.specs.List.{list_all}
use Rattle.std.proofs.Common.{◌∙◌, ap}
use Rattle.std.proofs.lemmas.Bool.{and_from}
use Rattle.std.proofs.lemmas.List.Folds.{list_all-append}
use Rattle.mux_frame.specs.Frames.{Frame}
use Rattle.mux_frame.specs.declared.frame.Kind.{Kind}
use Rattle.mux_frame.specs.declared.frame.Kind.TheVariants.{Sabm, Ua, Dm, Disc, Uih}
use Rattle.mux_station.specs.declared.role.Role.{Role}
use Rattle.mux_station.specs.declared.role.Role.TheVariants.{Initiator, Responder}
use Rattle.mux_station.specs.Written.{is_kind, is_on, written, is_data_frame}
use Rattle.mux_station.specs.Messages.{Message, is_command, msc, nsc, cld, brings_command, message_in, response_of}
use Rattle.mux_station.specs.States.{State, IsShut, IsOpening, IsOpened, IsClosing, IsStopping, is_opened}
use Rattle.mux_station.specs.Tables.{by_frame, by_message, by_table, by_flow, response_to, is_supported, ua_or_dm, msc_after_opening, is_opening, ticked, if_room, again, has_room, octets_of, msc_frame, message_frame, ready}

-- it passes each mode frame and each control message
pub record PassesControl (p : Frame → Bool) : Type 0 where
  pub mode : (r : Role) (k : Kind) (d : ℕ) → is_kind k Uih ≡ false → p (written r k d []) ≡ true
  pub message : (r : Role) (octet : ℕ) (value : List ℕ) → p (message_frame r octet value) ≡ true

-- where all frames of two lists pass, all of both joined do
pub all_both : (p : Frame → Bool) (fs gs : List Frame) → list_all p fs ≡ true → list_all p gs ≡ true → list_all p (fs ++ gs) ≡ true
all_both p fs gs h k = list_all-append p fs gs ∙ and_from (list_all p fs) (list_all p gs) h k

-- and so do all of the list that is chosen
pub all_if : (p : Frame → Bool) (b : Bool) (fs gs : List Frame) → list_all p fs ≡ true → list_all p gs ≡ true → list_all p (if b then fs else gs) ≡ true
all_if p true fs gs h k = h
all_if p false fs gs h k = k

-- with one more in front that passes, all do
pub all_more : (p : Frame → Bool) (f : Frame) (fs : List Frame) → p f ≡ true → list_all p fs ≡ true → list_all p (f ∷ fs) ≡ true
all_more p f fs h k = and_from (p f) (list_all p fs) h k

one : (p : Frame → Bool) (f : Frame) → p f ≡ true → list_all p (f ∷ []) ≡ true
one p f h = all_more p f [] h refl

answered : (p : Frame → Bool) → PassesControl p → (r : Role) (d : ℕ) (b : Bool) → p (ua_or_dm r d b) ≡ true
answered p i r d true = i.mode r Ua d refl
answered p i r d false = i.mode r Dm d refl

opened : (p : Frame → Bool) → PassesControl p → (r : Role) (d : ℕ) → list_all p (msc_after_opening r d) ≡ true
opened p i r d = all_if p (d == 0) [] (msc_frame r d ready ∷ []) refl (one p (msc_frame r d ready) (i.message r msc ((4 * d + 3) ∷ ready ∷ [])))

tabled : (p : Frame → Bool) → PassesControl p → (r : Role) (d : ℕ) (channel own : State) (k : Kind) → list_all p (by_table r d channel own k) ≡ true
tabled p i Initiator d channel own Ua = all_if p (is_opening own) (msc_after_opening Initiator d) [] (opened p i Initiator d) refl
tabled p i Initiator d channel own Sabm = one p (ua_or_dm Initiator d false) (answered p i Initiator d false)
tabled p i Initiator d channel own Dm = refl
tabled p i Initiator d channel own Uih = refl
tabled p i Initiator d channel own Disc = one p (ua_or_dm Initiator d (is_opened own)) (answered p i Initiator d (is_opened own))
tabled p i Responder d channel own Ua = refl
tabled p i Responder d channel own Dm = refl
tabled p i Responder d channel own Uih = refl
tabled p i Responder d channel own Disc = one p (ua_or_dm Responder d (is_opened own)) (answered p i Responder d (is_opened own))
tabled p i Responder d channel own Sabm =
    all_if p ((d == 0) || is_opened channel) (ua_or_dm Responder d true ∷ msc_after_opening Responder d) (ua_or_dm Responder d false ∷ [])
    (all_more p (ua_or_dm Responder d true) (msc_after_opening Responder d) (answered p i Responder d true) (opened p i Responder d))
    (one p (ua_or_dm Responder d false) (answered p i Responder d false))

responded : (p : Frame → Bool) → PassesControl p → (r : Role) (m : Option Message) → list_all p (response_to r m) ≡ true
responded p i r None = refl
responded p i r (Some m) =
    let same = message_frame r (response_of m.octet) m.value in
    let unsupported = message_frame r (response_of nsc) (m.octet ∷ []) in
    all_if p (is_supported m.octet) (same ∷ []) (if is_command m && not (m.octet == nsc) then unsupported ∷ [] else []) (one p same (i.message r (response_of m.octet) m.value))
    (all_if p (is_command m && not (m.octet == nsc)) (unsupported ∷ []) [] (one p unsupported (i.message r (response_of nsc) (m.octet ∷ []))) refl)

messaged : (p : Frame → Bool) → PassesControl p → (r : Role) (s : State) (f : Frame) → list_all p (by_message r s f) ≡ true
messaged p i r IsOpened f = responded p i r (message_in f)
messaged p i r (IsStopping n) f = all_if p (brings_command cld f) (response_to r (message_in f)) [] (responded p i r (message_in f)) refl
messaged p i r IsShut f = refl
messaged p i r (IsOpening n) f = refl
messaged p i r (IsClosing n) f = refl

-- a frame comes
pub all_of_frame : (p : Frame → Bool) → PassesControl p → (r : Role) (state : ℕ → State) (f : Frame) → list_all p (by_frame r state f) ≡ true
all_of_frame p i r state f =
    all_if p (is_on Uih 0 f) (by_message r (state 0) f) (by_table r f.dlci (state 0) (state f.dlci) f.kind)
    (messaged p i r (state 0) f) (tabled p i r f.dlci (state 0) (state f.dlci) f.kind)

kind_if : (p : Frame → Bool) → PassesControl p → (r : Role) (d : ℕ) (b : Bool) → p (written r (if b then Disc else Sabm) d []) ≡ true
kind_if p i r d true = i.mode r Disc d refl
kind_if p i r d false = i.mode r Sabm d refl

fitting : (p : Frame → Bool) (n1 queued : ℕ) (f : Frame) → p f ≡ true → list_all p (if_room n1 queued (Some f)) ≡ true
fitting p n1 queued f h = all_if p (has_room n1 queued f) (f ∷ []) [] (one p f h) refl

roomed : (p : Frame → Bool) → PassesControl p → (r : Role) (n1 queued d : ℕ) (own : State) → list_all p (if_room n1 queued (again r d own)) ≡ true
roomed p i r n1 queued d IsShut = refl
roomed p i r n1 queued d IsOpened = refl
roomed p i r n1 queued d (IsStopping n) = refl
roomed p i r n1 queued d (IsOpening n) = fitting p n1 queued (written r (if n == 3 then Disc else Sabm) d []) (kind_if p i r d (n == 3))
roomed p i r n1 queued d (IsClosing n) = closing (n == 3)
  where
    closing : (b : Bool) → list_all p (if_room n1 queued (if b then None else Some (written r Disc d []))) ≡ true
    closing true = refl
    closing false = fitting p n1 queued (written r Disc d []) (i.mode r Disc d refl)

-- a tick, over so many connections from d on
pub all_of_tick : (p : Frame → Bool) → PassesControl p → (r : Role) (n1 : ℕ) (state : ℕ → State) (queued d count : ℕ) → list_all p (ticked r n1 state queued d count) ≡ true
all_of_tick p i r n1 state queued d zero = refl
all_of_tick p i r n1 state queued d (suc count) =
    let here = if_room n1 queued (again r d (state d)) in
    all_both p here (ticked r n1 state (queued + octets_of here) (d + 1) count) (roomed p i r n1 queued d (state d))
    (all_of_tick p i r n1 state (queued + octets_of here) (d + 1) count)

-- an MSC of its own
pub all_of_flow : (p : Frame → Bool) → PassesControl p → (r : Role) (state : ℕ → State) (d signals : ℕ) → list_all p (by_flow r state d signals) ≡ true
all_of_flow p i r state d signals = all_if p (is_opened (state d)) (msc_frame r d signals ∷ []) [] (one p (msc_frame r d signals) (i.message r msc ((4 * d + 3) ∷ signals ∷ []))) refl

-- ## Two such properties

-- no data
pub control_passes : PassesControl (λ f. not (is_data_frame f))
control_passes = record { mode = λ r k d e. ap (λ (b : Bool). not (b && not (d == 0))) e; message = λ r octet value. refl }

-- a UIH, or without information
abbrev pub is_plain : Frame → Bool
is_plain f = is_kind f.kind Uih || (length f.info == 0)

-- each mode frame and each control message is so
pub plain_passes : PassesControl is_plain
plain_passes = record { mode = λ r k d e. ap (λ (b : Bool). b || true) e; message = λ r octet value. refl }
