-- How a core goes over what its station has at a tick.
use Rattle.std.specs.Prelude.{suc, ◌≡◌, ℕ, ◌+◌, ◌-◌, ◌<◌, ◌≤◌, nat_lt, Bool, true, false, List, [], ◌∷◌, ◌++◌, length, map, take, drop, slice_get, get_or, refl, Option, Some, None, option_map, if◌then◌else◌}
use Rattle.std.proofs.Common.{ap, sym, ◌∙◌, arith, append_assoc}
use Rattle.std.proofs.lemmas.List.{map-append, take_more, take_all, length-drop, get_or-drop}
use Rattle.std.proofs.lemmas.Option.{slice_get_within, get_or_from_slice_get, slice_get-get_or}
use Rattle.std.proofs.lemmas.Bool.Decides.{nat_tests}
use Rattle.mux_frame.specs.declared.frame.Kind.TheVariants.{Uih}
use Rattle.mux_station.specs.declared.role.Role.TheVariants.{Initiator}
use Rattle.mux_station.specs.Written.{written}
use Rattle.mux_frame.specs.Frames.{Frame, kept_frame}
use Rattle.mux_frame.specs.declared.frame.FrameBuf.{FrameBuf}
use Rattle.mux_station.specs.declared.role.ChannelState.{ChannelState}
use Rattle.mux_station.specs.States.{State, IsShut, IsOpening, IsOpened, IsClosing, IsStopping}
use Rattle.mux_station.specs.Stages.{as_shown}
use Rattle.mux_station.specs.Stations.{Station, channel_at}
use Rattle.modem_history.specs.declared.act.Act as code
use Rattle.modem_history.specs.Acts.{Act, Sent, act_of}
use Rattle.modem_core.specs.Ticked.{bared, queued_from, is_asking, shown_asking, asking_from}

-- ## Connections

asking_step : (v : Station) (d count : ℕ) → asking_from v d (suc count) ≡ (if is_asking (channel_at v d).state then 1 else 0) + asking_from v (d + 1) count
unfolding asking_from
asking_step v d count = refl

-- those from d on are d, where it waits for an answer, and those behind it
pub asking_next : (v : Station) (d : ℕ) → d < 62 → asking_from v d (62 - d) ≡ (if is_asking (channel_at v d).state then 1 else 0) + asking_from v (d + 1) (62 - (d + 1))
asking_next v d h = let e : 62 - d ≡ suc (62 - (d + 1)) = omega (arith, h) in ap (asking_from v d) e ∙ asking_step v d (62 - (d + 1))

-- behind the last there are none
pub asking_end : (v : Station) (d : ℕ) → 62 ≤ d → asking_from v d (62 - d) ≡ 0
unfolding asking_from
asking_end v d h = let e : 62 - d ≡ 0 = omega (arith, h) in ap (asking_from v d) e

-- a state is shown as waiting for an answer just where it is
pub asking_shown : (s : State) → shown_asking (as_shown s) ≡ is_asking s
asking_shown IsShut = refl
asking_shown (IsOpening n) = refl
asking_shown IsOpened = refl
asking_shown (IsClosing n) = refl
asking_shown (IsStopping n) = refl

-- one connection is counted, or isn't
pub counted : (v : Station) (d count new : ℕ) (c : ChannelState) (b : Bool) → d < 62 → count + asking_from v d (62 - d) ≡ asking_from v 0 62 → c ≡ as_shown (channel_at v d).state → b ≡ shown_asking c
    → new ≡ count + (if b then 1 else 0) → new + asking_from v (d + 1) (62 - (d + 1)) ≡ asking_from v 0 62
counted v d count new c b l h e k n =
    let is : b ≡ is_asking (channel_at v d).state = k ∙ (ap shown_asking e ∙ asking_shown (channel_at v d).state) in
    let next = asking_next v d l in
    let one : new ≡ count + (if is_asking (channel_at v d).state then 1 else 0) = n ∙ ap (λ (x : Bool). count + (if x then 1 else 0)) is in
    omega (arith, h, next, one)

-- behind the last all are counted
pub all_counted : (v : Station) (d count : ℕ) → 62 ≤ d → count + asking_from v d (62 - d) ≡ asking_from v 0 62 → count ≡ asking_from v 0 62
all_counted v d count l h = let e = asking_end v d l in omega (arith, h, e)

-- ## Frames

-- one frame more
pub queued_more : (fs : List Frame) (place i : ℕ) (f : Frame) → slice_get fs (place + i) ≡ Some f → queued_from fs place (i + 1) ≡ queued_from fs place i ++ bared f ∷ []
queued_more fs place i f h =
    let within = slice_get_within fs (place + i) f h in
    let len = length-drop place fs in
    let here : get_or (drop place fs) i f ≡ f = get_or-drop place fs i f ∙ get_or_from_slice_get fs (place + i) f f h in
    ap (map bared) (take_more (drop place fs) i f (omega (arith, within, len)))
    ∙ (map-append bared (take i (drop place fs)) (get_or (drop place fs) i f ∷ []) ∙ ap (λ (x : Frame). map bared (take i (drop place fs)) ++ bared x ∷ []) here)

some_bared : (o : Option Frame) (f : FrameBuf) → Some (kept_frame f) ≡ option_map bared o → (g : Frame) → o ≡ Some g → kept_frame f ≡ bared g
some_bared o f h g e = let k : Some (kept_frame f) ≡ Some (bared g) = h ∙ ap (option_map bared) e in cc

-- the invariant of the loop
pub pushed_more : (fs : List Frame) (place i : ℕ) (old now more : List code.Act) (f : FrameBuf) → option_map kept_frame (Some f) ≡ option_map bared (slice_get fs (place + i))
    → map act_of now ≡ map act_of old ++ map Sent (queued_from fs place i) → more ≡ now ++ code.TheVariants.Sent f ∷ []
    → map act_of more ≡ map act_of old ++ map Sent (queued_from fs place (i + 1))
pushed_more fs place i old now more f h inv e = by_place (slice_get fs (place + i)) refl
  where
    by_place : (o : Option Frame) → slice_get fs (place + i) ≡ o → map act_of more ≡ map act_of old ++ map Sent (queued_from fs place (i + 1))
    by_place None k = absurd (let x : Some (kept_frame f) ≡ None = h ∙ ap (option_map bared) k in cc)
    by_place (Some g) k =
        ap (map act_of) e
        ∙ (map-append act_of now (code.TheVariants.Sent f ∷ [])
        ∙ (ap (λ (xs : List Act). xs ++ Sent (kept_frame f) ∷ []) inv
        ∙ (append_assoc (map act_of old) (map Sent (queued_from fs place i)) (Sent (kept_frame f) ∷ [])
        ∙ ap (λ (xs : List Act). map act_of old ++ xs)
        (ap (λ (x : Frame). map Sent (queued_from fs place i) ++ Sent x ∷ []) (some_bared (slice_get fs (place + i)) f h g k)
        ∙ (sym (map-append Sent (queued_from fs place i) (bared g ∷ [])) ∙ ap (map Sent) (sym (queued_more fs place i g k)))))))

lt_so : (a b : ℕ) → nat_lt a b ≡ true → a < b
lt_so a b h = grind (arith, nat_tests)

ge_so : (a b : ℕ) → nat_lt a b ≡ false → b ≤ a
ge_so a b h = grind (arith, nat_tests)

-- behind the end there is none more
queued_none : (fs : List Frame) (place i : ℕ) → slice_get fs (place + i) ≡ None → queued_from fs place (i + 1) ≡ queued_from fs place i
queued_none fs place i h = by_place (nat_lt (place + i) (length fs)) refl
  where
    by_place : (b : Bool) → nat_lt (place + i) (length fs) ≡ b → queued_from fs place (i + 1) ≡ queued_from fs place i
    by_place true k =
        let some = slice_get-get_or fs (place + i) (written Initiator Uih 0 []) (lt_so (place + i) (length fs) k) in
        absurd (let x : None ≡ Some (get_or fs (place + i) (written Initiator Uih 0 [])) = sym h ∙ some in cc)
    by_place false k =
        let end = ge_so (place + i) (length fs) k in
        let len = length-drop place fs in
        let more = take_all (i + 1) (drop place fs) (omega (arith, end, len)) in
        let all = take_all i (drop place fs) (omega (arith, end, len)) in
        ap (map bared) (more ∙ sym all)

-- where no frame is left no act is written down
pub pushed_none : (fs : List Frame) (place i : ℕ) (old now : List code.Act) (o : Option FrameBuf) → (o ≡ None) → option_map kept_frame o ≡ option_map bared (slice_get fs (place + i))
    → map act_of now ≡ map act_of old ++ map Sent (queued_from fs place i) → map act_of now ≡ map act_of old ++ map Sent (queued_from fs place (i + 1))
pushed_none fs place i old now o n h inv = inv ∙ ap (λ (xs : List Frame). map act_of old ++ map Sent xs) (sym (queued_none fs place i (by_place (slice_get fs (place + i)) refl)))
  where
    by_place : (p : Option Frame) → slice_get fs (place + i) ≡ p → slice_get fs (place + i) ≡ None
    by_place None k = k
    by_place (Some g) k = absurd (let x : None ≡ Some (bared g) = sym (ap (option_map kept_frame) n) ∙ (h ∙ ap (option_map bared) k) in cc)
