-- What a station gives up at a tick is what each past that it fits says.
use Rattle.std.specs.Prelude.{zero, suc, ◌≡◌, ℕ, ◌+◌, ◌<◌, ◌≤◌, ◌==◌, ◌&&◌, ◌||◌, Bool, true, false, List, [], ◌∷◌, ◌++◌, map, filter, refl, if◌then◌else◌, Option, Some, None}
use Rattle.std.specs.List.{list_any, range_with_len}
use Rattle.std.proofs.Common.{◌∙◌, ap, sym, arith, eq-eqb}
use Rattle.std.proofs.lemmas.Bool.{ne_eqb}
use Rattle.mux_frame.specs.Frames.{Frame}
use Rattle.mux_frame.specs.declared.frame.Kind.TheVariants.{Sabm, Disc}
use Rattle.mux_station.specs.declared.role.Role.{Role}
use Rattle.mux_station.specs.Written.{is_on, written}
use Rattle.mux_station.specs.Acts.{Act, Tick}
use Rattle.mux_station.specs.States.{State, IsShut, IsOpening, IsOpened, IsClosing, IsStopping, state_of}
use Rattle.mux_station.specs.Tables.{again, if_room, has_room, octets_of, ticked}
use Rattle.mux_station.specs.Sending.{Waiting, station_view, called_frames, frames_seeing, queue}
use Rattle.mux_station.specs.Stations.{Station, channel_at, setting_of}
use Rattle.mux_station.specs.Fitting.{StationFits}
use Rattle.mux_station.specs.Ticking.{Up, UpChannel, gives_up, given_up, given_up_in, probe_up}
use Rattle.mux_station.specs.GivenUp.{gives_up_by, gives_up_on, SeesTheTick}
use Rattle.mux_station.proofs.user_calls.OpenAndClose.{seen_queued}
use Rattle.mux_station.proofs.ticks.WholeTicks.{ticked_same}

-- ## A frame of a tick is on its own connection

any_both : (p : Frame → Bool) (fs gs : List Frame) → list_any p (fs ++ gs) ≡ (list_any p fs || list_any p gs)
any_both p [] gs = refl
any_both p (f ∷ fs) gs = at (p f) (any_both p fs gs)
  where
    at : (b : Bool) → list_any p (fs ++ gs) ≡ (list_any p fs || list_any p gs) → (b || list_any p (fs ++ gs)) ≡ ((b || list_any p fs) || list_any p gs)
    at true h = refl
    at false h = h

or_none : (a b : Bool) → a ≡ false → b ≡ false → (a || b) ≡ false
or_none false b e f = f
or_none true b e f = cc

or_left : (a b : Bool) → b ≡ false → (a || b) ≡ a
or_left true b e = refl
or_left false b e = e

or_right : (a b : Bool) → a ≡ false → (a || b) ≡ b
or_right false b e = refl
or_right true b e = cc

and_off : (a b : Bool) → b ≡ false → (a && b) ≡ false
and_off true b e = e
and_off false b e = refl

off_if : (p : Frame → Bool) (b : Bool) (f : Frame) → p f ≡ false → list_any p (if b then f ∷ [] else []) ≡ false
off_if p true f e = ap (λ (c : Bool). c || false) e
off_if p false f e = refl

here_apart : (r : Role) (n1 q d e : ℕ) (s : State) → (d == e) ≡ false → list_any (is_on Disc e) (if_room n1 q (again r d s)) ≡ false
here_apart r n1 q d e IsShut h = refl
here_apart r n1 q d e IsOpened h = refl
here_apart r n1 q d e (IsStopping n) h = refl
here_apart r n1 q d e (IsOpening n) h =
    let f = written r (if n == 3 then Disc else Sabm) d [] in
    off_if (is_on Disc e) (has_room n1 q f) f (and_off _ (d == e) h)
here_apart r n1 q d e (IsClosing n) h = at (n == 3)
  where
    f : Frame
    f = written r Disc d []

    at : (b : Bool) → list_any (is_on Disc e) (if_room n1 q (if b then None else Some f)) ≡ false
    at true = refl
    at false = off_if (is_on Disc e) (has_room n1 q f) f h

-- none is on an earlier one
none_before : (r : Role) (n1 : ℕ) (state : ℕ → State) (q d count e : ℕ) → e < d → list_any (is_on Disc e) (ticked r n1 state q d count) ≡ false
none_before r n1 state q d zero e l = refl
none_before r n1 state q d (suc count) e l =
    let here = if_room n1 q (again r d (state d)) in
    let rest = ticked r n1 state (q + octets_of here) (d + 1) count in
    any_both (is_on Disc e) here rest
    ∙ or_none (list_any (is_on Disc e) here) (list_any (is_on Disc e) rest)
    (here_apart r n1 q d e (state d) (ne_eqb d e (λ (x : d ≡ e). omega (arith, x, l)))) (none_before r n1 state (q + octets_of here) (d + 1) count e (omega (arith, l)))

-- ## What is given up

-- by its state, and by whether its DISC is among what is sent
up_opening : (r : Role) (n1 q d n : ℕ) (b : Bool) → (n == 3) ≡ b
    → gives_up (IsOpening n) (if_room n1 q (Some (written r (if b then Disc else Sabm) d []))) ≡ (b && list_any (is_on Disc d) (if_room n1 q (Some (written r (if b then Disc else Sabm) d []))))
up_opening r n1 q d n true e = at (has_room n1 q (written r Disc d []))
  where
    at : (c : Bool) → gives_up (IsOpening n) (if c then written r Disc d [] ∷ [] else []) ≡ list_any (is_on Disc d) (if c then written r Disc d [] ∷ [] else [])
    at true = e ∙ sym (ap (λ (x : Bool). x || false) (eq-eqb d d refl))
    at false = refl
up_opening r n1 q d n false e = at (has_room n1 q (written r Sabm d []))
  where
    at : (c : Bool) → gives_up (IsOpening n) (if c then written r Sabm d [] ∷ [] else []) ≡ false
    at true = e
    at false = refl

up_here : (r : Role) (n1 q d : ℕ) (s : State) → gives_up s (if_room n1 q (again r d s)) ≡ gives_up_by s (list_any (is_on Disc d) (if_room n1 q (again r d s)))
up_here r n1 q d IsShut = refl
up_here r n1 q d IsOpened = refl
up_here r n1 q d (IsStopping n) = refl
up_here r n1 q d (IsClosing n) = refl
up_here r n1 q d (IsOpening n) = up_opening r n1 q d n (n == 3) refl

filter_same : (p q : ℕ → Bool) (d count : ℕ) → ((e : ℕ) → d ≤ e → e < d + count → p e ≡ q e) → filter p (range_with_len d count) ≡ filter q (range_with_len d count)
filter_same p q d zero h = refl
filter_same p q d (suc count) h =
    ap (λ (b : Bool). if b then d ∷ filter p (range_with_len (d + 1) count) else filter p (range_with_len (d + 1) count)) (h d (omega arith) (omega arith))
    ∙ ap (λ (ds : List ℕ). if q d then d ∷ ds else ds) (filter_same p q (d + 1) count (λ e k x. h e (omega (arith, k)) (omega (arith, x))))

-- of some connections those that a tick's frames give up
abbrev ups_by : (ℕ → State) → List Frame → ℕ → ℕ → List Up
ups_by state fs d count = map UpChannel (filter (λ e. gives_up_by (state e) (list_any (is_on Disc e) fs)) (range_with_len d count))

up_first : (b : Bool) (d : ℕ) (ds : List ℕ) → (if b then UpChannel d ∷ [] else []) ++ map UpChannel ds ≡ map UpChannel (if b then d ∷ ds else ds)
up_first true d ds = refl
up_first false d ds = refl

ups_are : (r : Role) (n1 : ℕ) (state : ℕ → State) (q d count : ℕ) → given_up r n1 state q d count ≡ ups_by state (ticked r n1 state q d count) d count
ups_are r n1 state q d zero = refl
ups_are r n1 state q d (suc count) =
    let here = if_room n1 q (again r d (state d)) in
    let rest = ticked r n1 state (q + octets_of here) (d + 1) count in
    let all = here ++ rest in
    let first : gives_up (state d) here ≡ gives_up_by (state d) (list_any (is_on Disc d) all) =
    up_here r n1 q d (state d)
    ∙ ap (gives_up_by (state d)) (sym (any_both (is_on Disc d) here rest
    ∙ or_left (list_any (is_on Disc d) here) (list_any (is_on Disc d) rest) (none_before r n1 state (q + octets_of here) (d + 1) count d (omega arith)))) in
    let later : (e : ℕ) → d + 1 ≤ e → e < (d + 1) + count → gives_up_by (state e) (list_any (is_on Disc e) rest) ≡ gives_up_by (state e) (list_any (is_on Disc e) all) =
    λ e k x. ap (gives_up_by (state e)) (sym (any_both (is_on Disc e) here rest
    ∙ or_right (list_any (is_on Disc e) here) (list_any (is_on Disc e) rest) (here_apart r n1 q d e (state d) (ne_eqb d e (λ (y : d ≡ e). omega (arith, y, k)))))) in
    let tail = filter (λ e. gives_up_by (state e) (list_any (is_on Disc e) all)) (range_with_len (d + 1) count) in
    ap (λ (us : List Up). (if gives_up (state d) here then UpChannel d ∷ [] else []) ++ us) (ups_are r n1 state (q + octets_of here) (d + 1) count
    ∙ ap (map UpChannel) (filter_same (λ e. gives_up_by (state e) (list_any (is_on Disc e) rest)) (λ e. gives_up_by (state e) (list_any (is_on Disc e) all)) (d + 1) count later))
    ∙ (ap (λ (b : Bool). (if b then UpChannel d ∷ [] else []) ++ map UpChannel tail) first
    ∙ up_first (gives_up_by (state d) (list_any (is_on Disc d) all)) d tail)

-- ## Whole pasts

tick_calls : (v : Station) (past : List Act) → StationFits v past → ticked v.role v.n1 (λ d. (channel_at v d).state) (octets_of v.queue) 0 62 ≡ called_frames (setting_of v) past Tick
tick_calls v past h =
    sym (ap (λ (b : Bool). if b then [] else frames_seeing (setting_of v) (station_view (setting_of v) past) Tick) h.live
    ∙ (ticked_same v.role v.n1 (λ d. state_of v.role d past) (λ d. (channel_at v d).state) (octets_of (queue past)) 0 62 (λ e k x. (h.channels_are e (omega (arith, x))).state_is)
    ∙ ap (λ (q : ℕ). ticked v.role v.n1 (λ d. (channel_at v d).state) q 0 62) (sym (seen_queued v past h))))

ups_fit : (v : Station) (past : List Act) (count : ℕ) → count ≤ 62 → (fs : List Frame) → StationFits v past
    → ups_by (λ d. (channel_at v d).state) fs 0 count ≡ ups_by (λ d. state_of v.role d past) fs 0 count
ups_fit v past count n fs h =
    ap (map UpChannel) (filter_same (λ e. gives_up_by (channel_at v e).state (list_any (is_on Disc e) fs)) (λ e. gives_up_by (state_of v.role e past) (list_any (is_on Disc e) fs)) 0 count
    (λ e k x. ap (λ (s : State). gives_up_by s (list_any (is_on Disc e) fs)) (sym (h.channels_are e (omega (arith, x, n))).state_is)))

channels_noticed : (v : Station) (past : List Act) → StationFits v past → given_up_in v 0 62 ≡ map UpChannel (filter (gives_up_on (setting_of v) past) (range_with_len 0 62))
unfolding given_up_in
channels_noticed v past h =
    ups_are v.role v.n1 (λ d. (channel_at v d).state) (octets_of v.queue) 0 62
    ∙ (ap (λ (fs : List Frame). ups_by (λ d. (channel_at v d).state) fs 0 62) (tick_calls v past h) ∙ ups_fit v past 62 (omega arith) (called_frames (setting_of v) past Tick) h)

-- what a station gives up at a tick is what each past that it fits says
pub sees_the_tick : (v : Station) (past : List Act) → SeesTheTick v past
unfolding SeesTheTick
sees_the_tick v past h =
    ap (λ (us : List Up). us ++ probe_up v.probe) (channels_noticed v past h)
    ∙ ap (λ (o : Option Waiting). map UpChannel (filter (gives_up_on (setting_of v) past) (range_with_len 0 62)) ++ probe_up o) (sym h.probe_is)
