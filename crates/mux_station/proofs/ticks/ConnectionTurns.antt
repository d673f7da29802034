-- The turns of a tick, one after the other.
use Rattle.std.specs.Prelude.{zero, suc, ◌≡◌, ℕ, ◌+◌, ◌-◌, ◌<◌, ◌≤◌, ◌==◌, Bool, true, false, List, [], ◌∷◌, ◌++◌, map, refl, if◌then◌else◌, Option, Some, None, slice_index_or, slice_set}
use Rattle.std.proofs.Common.{◌∙◌, ap, sym, get_or-set_other, arith, append_assoc}
use Rattle.std.proofs.lemmas.Bool.{eqb-false, ne_eqb}
use Rattle.std.proofs.lemmas.List.{map-append}
use Rattle.mux_frame.specs.Frames.{Frame}
use Rattle.mux_frame.specs.declared.frame.Kind.TheVariants.{Sabm, Disc}
use Rattle.mux_station.specs.declared.role.Role.{Role}
use Rattle.mux_station.specs.declared.tick.GivenUp.{GivenUp}
use Rattle.mux_station.specs.Written.{written}
use Rattle.mux_station.specs.States.{State, IsShut, IsOpening, IsOpened, IsClosing, IsStopping}
use Rattle.mux_station.specs.Tables.{again, if_room, has_room, octets_of}
use Rattle.mux_station.specs.Stations.{Channel, Station, shut_channel, channel_at, setting_of, asked_in}
use Rattle.mux_station.specs.Ticking.{Up, UpChannel, gives_up, given_up, given_up_in, probe_up, noticed, turned_in, asked_if, ticked_by, ticked_one, ticked_all, ticked_probe, ticked_in}
use Rattle.mux_station.specs.Sending.{StationSetting, Waiting}
use Rattle.mux_station.specs.Noticing.{up_of}
use Rattle.mux_station.proofs.queues.ControlQueues.{octets_more}

-- what the turn of d leaves, and what it queues
record Changed (w : Station) (d : ℕ) (new : Station) (here : List Frame) : Type 0 where
  role_is : new.role ≡ w.role
  n1_is : new.n1 ≡ w.n1
  octets : octets_of new.queue ≡ octets_of w.queue + octets_of here
  others : (e : ℕ) → (e == d) ≡ false → channel_at new e ≡ channel_at w e

same_changed : (w : Station) (d : ℕ) → Changed w d w []
same_changed w d = record { role_is = refl; n1_is = refl; octets = omega arith; others = λ e k. refl }

there : (w : Station) (d e : ℕ) (c : Channel) → (e == d) ≡ false → slice_index_or (slice_set w.channels d c) e shut_channel ≡ channel_at w e
there w d e c k = get_or-set_other w.channels d e c shut_channel (λ (g : e ≡ d). eqb-false e d k g)

turned_changed : (w : Station) (d : ℕ) (t : State) → Changed w d (turned_in w d t) []
turned_changed w d t = record { role_is = refl; n1_is = refl; octets = omega arith; others = λ e k. there w d e (record { state = t; is_stopped = false; waiting = [] }) k }

one_more : (fs : List Frame) (g : Frame) → octets_of (fs ++ g ∷ []) ≡ octets_of fs + octets_of (g ∷ [])
one_more fs g = let more = octets_more fs g in omega (arith, more)

asked_changed : (w : Station) (d : ℕ) (t : State) (g : Frame) (b : Bool) → Changed w d (if b then asked_in w d t g else w) (if b then g ∷ [] else [])
asked_changed w d t g false = same_changed w d
asked_changed w d t g true = record { role_is = refl; n1_is = refl; octets = one_more w.queue g; others = λ e k. there w d e (record { state = t; is_stopped = false; waiting = [] }) k }

opening_changed : (w : Station) (d n : ℕ) (b : Bool)
    → Changed w d (if b then asked_if w d IsShut (written w.role Disc d []) else asked_if w d (IsOpening (n + 1)) (written w.role Sabm d [])) (if_room w.n1 (octets_of w.queue) (Some (written w.role (if b then Disc else Sabm) d [])))
opening_changed w d n true = let g = written w.role Disc d [] in asked_changed w d IsShut g (has_room w.n1 (octets_of w.queue) g)
opening_changed w d n false = let g = written w.role Sabm d [] in asked_changed w d (IsOpening (n + 1)) g (has_room w.n1 (octets_of w.queue) g)

closing_changed : (w : Station) (d n : ℕ) (b : Bool)
    → Changed w d (if b then turned_in w d IsShut else asked_if w d (IsClosing (n + 1)) (written w.role Disc d [])) (if_room w.n1 (octets_of w.queue) (if b then None else Some (written w.role Disc d [])))
closing_changed w d n true = turned_changed w d IsShut
closing_changed w d n false = let g = written w.role Disc d [] in asked_changed w d (IsClosing (n + 1)) g (has_room w.n1 (octets_of w.queue) g)

changed_by : (w : Station) (d : ℕ) (st : State) → Changed w d (ticked_by w d st) (if_room w.n1 (octets_of w.queue) (again w.role d st))
changed_by w d IsShut = same_changed w d
changed_by w d IsOpened = same_changed w d
changed_by w d (IsOpening n) = opening_changed w d n (n == 3)
changed_by w d (IsClosing n) = closing_changed w d n (n == 3)
changed_by w d (IsStopping n) = turned_changed w d (if n == 3 then IsShut else IsStopping (n + 1))

-- ## One turn, and those that follow

abbrev states_in : Station → ℕ → State
states_in w e = (channel_at w e).state

up_same : (r : Role) (n1 : ℕ) (f g : ℕ → State) (q d count : ℕ) → ((e : ℕ) → d ≤ e → f e ≡ g e) → given_up r n1 f q d count ≡ given_up r n1 g q d count
up_same r n1 f g q d zero h = refl
up_same r n1 f g q d (suc count) h =
    ap (λ (t : State). let here = if_room n1 q (again r d t) in (if gives_up t here then UpChannel d ∷ [] else []) ++ given_up r n1 f (q + octets_of here) (d + 1) count) (h d (omega arith))
    ∙ ap (λ (rest : List Up). (if gives_up (g d) (if_room n1 q (again r d (g d))) then UpChannel d ∷ [] else []) ++ rest) (up_same r n1 f g (q + octets_of (if_room n1 q (again r d (g d)))) (d + 1) count (λ e k. h e (omega (arith, k))))

-- the frame that d's turn queues
abbrev turn_frame : Station → ℕ → List Frame
turn_frame w d = if_room w.n1 (octets_of w.queue) (again w.role d (states_in w d))

up_after : (w : Station) (d count : ℕ) → given_up w.role w.n1 (states_in w) (octets_of w.queue + octets_of (turn_frame w d)) (d + 1) count ≡ given_up_in (ticked_one w d) (d + 1) count
unfolding given_up_in
up_after w d count =
    let new = ticked_one w d in
    let c : Changed w d new (turn_frame w d) = changed_by w d (states_in w d) in
    ap (λ (q : ℕ). given_up w.role w.n1 (states_in w) q (d + 1) count) (sym c.octets)
    ∙ (up_same w.role w.n1 (states_in w) (states_in new) (octets_of new.queue) (d + 1) count (λ e k. ap (λ (x : Channel). x.state) (sym (c.others e (ne_eqb e d (λ (h : e ≡ d). omega (arith, k, h))))))
    ∙ (ap (λ (r : Role). given_up r w.n1 (states_in new) (octets_of new.queue) (d + 1) count) (sym c.role_is)
    ∙ ap (λ (n : ℕ). given_up new.role n (states_in new) (octets_of new.queue) (d + 1) count) (sym c.n1_is)))

up_next : (w : Station) (d : ℕ) → d < 62 → given_up_in w d (62 - d) ≡ (if gives_up (states_in w d) (turn_frame w d) then UpChannel d ∷ [] else []) ++ given_up_in (ticked_one w d) (d + 1) (62 - (d + 1))
unfolding given_up_in
up_next w d l =
    let count : 62 - d ≡ suc (62 - (d + 1)) = omega (arith, l) in
    ap (given_up w.role w.n1 (states_in w) (octets_of w.queue) d) count
    ∙ ap (λ (rest : List Up). (if gives_up (states_in w d) (turn_frame w d) then UpChannel d ∷ [] else []) ++ rest) (up_after w d (62 - (d + 1)))

-- behind the last connection none is given up
pub up_end : (w : Station) (d : ℕ) → 62 ≤ d → given_up_in w d (62 - d) ≡ []
unfolding given_up_in
up_end w d l = let none : 62 - d ≡ 0 = omega (arith, l) in ap (given_up w.role w.n1 (states_in w) (octets_of w.queue) d) none

-- a tick of the connections from d on is d's turn, and then a tick of those above
pub ticked_next : (w new : Station) (d : ℕ) → d < 62 → new ≡ ticked_one w d → ticked_all w d (62 - d) ≡ ticked_all new (d + 1) (62 - (d + 1))
unfolding ticked_all
ticked_next w new d l e =
    let count : 62 - d ≡ suc (62 - (d + 1)) = omega (arith, l) in
    ap (ticked_all w d) count ∙ ap (λ (v : Station). ticked_all v (d + 1) (62 - (d + 1))) (sym e)

-- behind the last connection it changes nothing
pub ticked_end : (w : Station) (d : ℕ) → 62 ≤ d → ticked_all w d (62 - d) ≡ w
unfolding ticked_all
ticked_end w d l = let none : 62 - d ≡ 0 = omega (arith, l) in ap (ticked_all w d) none

-- d was given up, or not
pub up_pushed : (w new : Station) (d : ℕ) (kept now : List GivenUp) (x : GivenUp) (all : List Up) → d < 62 → new ≡ ticked_one w d → now ≡ kept ++ x ∷ [] → up_of x ≡ UpChannel d → gives_up (states_in w d) (turn_frame w d) ≡ true
    → map up_of kept ++ given_up_in w d (62 - d) ≡ all → map up_of now ++ given_up_in new (d + 1) (62 - (d + 1)) ≡ all
up_pushed w new d kept now x all l e n u g h =
    let rest = given_up_in (ticked_one w d) (d + 1) (62 - (d + 1)) in
    let here : given_up_in w d (62 - d) ≡ UpChannel d ∷ rest = up_next w d l ∙ ap (λ (b : Bool). (if b then UpChannel d ∷ [] else []) ++ rest) g in
    let more : map up_of now ≡ map up_of kept ++ UpChannel d ∷ [] = ap (map up_of) n ∙ (map-append up_of kept (x ∷ []) ∙ ap (λ (y : Up). map up_of kept ++ y ∷ []) u) in
    ap (λ (v : Station). map up_of now ++ given_up_in v (d + 1) (62 - (d + 1))) e
    ∙ (ap (λ (ys : List Up). ys ++ rest) more ∙ (append_assoc (map up_of kept) (UpChannel d ∷ []) rest ∙ (ap (λ (ys : List Up). map up_of kept ++ ys) (sym here) ∙ h)))

-- where it wasn't, those given up so far and those still to come are all as before
pub up_passed : (w new : Station) (d : ℕ) (kept : List GivenUp) (all : List Up) → d < 62 → new ≡ ticked_one w d → gives_up (states_in w d) (turn_frame w d) ≡ false
    → map up_of kept ++ given_up_in w d (62 - d) ≡ all → map up_of kept ++ given_up_in new (d + 1) (62 - (d + 1)) ≡ all
up_passed w new d kept all l e g h =
    let rest = given_up_in (ticked_one w d) (d + 1) (62 - (d + 1)) in
    let here : given_up_in w d (62 - d) ≡ rest = up_next w d l ∙ ap (λ (b : Bool). (if b then UpChannel d ∷ [] else []) ++ rest) g in
    ap (λ (v : Station). map up_of kept ++ given_up_in v (d + 1) (62 - (d + 1))) e ∙ (ap (λ (ys : List Up). map up_of kept ++ ys) (sym here) ∙ h)

-- ## The setting

setting_same : (w new : Station) → new.role ≡ w.role → new.n1 ≡ w.n1 → setting_of new ≡ setting_of w
setting_same w new r n = ap (λ (x : Role). let s : StationSetting = record { role = x; n1 = new.n1 } in s) r ∙ ap (λ (x : ℕ). let s : StationSetting = record { role = w.role; n1 = x } in s) n

-- a tick of connections leaves role and N1
pub setting_all : (w : Station) (d count : ℕ) → setting_of (ticked_all w d count) ≡ setting_of w
unfolding ticked_all
setting_all w d zero = refl
setting_all w d (suc count) =
    let c : Changed w d (ticked_one w d) (turn_frame w d) = changed_by w d (states_in w d) in
    setting_all (ticked_one w d) (d + 1) count ∙ setting_same w (ticked_one w d) c.role_is c.n1_is

-- ## The probe

asked_probe : (w : Station) (d : ℕ) (t : State) (g : Frame) (b : Bool) → (if b then asked_in w d t g else w).probe ≡ w.probe
asked_probe w d t g true = refl
asked_probe w d t g false = refl

either_probe : (w x y : Station) (b : Bool) → x.probe ≡ w.probe → y.probe ≡ w.probe → (if b then x else y).probe ≡ w.probe
either_probe w x y true h k = h
either_probe w x y false h k = k

probe_by : (w : Station) (d : ℕ) (st : State) → (ticked_by w d st).probe ≡ w.probe
probe_by w d IsShut = refl
probe_by w d IsOpened = refl
probe_by w d (IsOpening n) =
    let disc = written w.role Disc d [] in
    let sabm = written w.role Sabm d [] in
    either_probe w (asked_if w d IsShut disc) (asked_if w d (IsOpening (n + 1)) sabm) (n == 3)
    (asked_probe w d IsShut disc (has_room w.n1 (octets_of w.queue) disc)) (asked_probe w d (IsOpening (n + 1)) sabm (has_room w.n1 (octets_of w.queue) sabm))
probe_by w d (IsClosing n) =
    let disc = written w.role Disc d [] in
    either_probe w (turned_in w d IsShut) (asked_if w d (IsClosing (n + 1)) disc) (n == 3) refl (asked_probe w d (IsClosing (n + 1)) disc (has_room w.n1 (octets_of w.queue) disc))
probe_by w d (IsStopping n) = refl

probe_all : (w : Station) (d count : ℕ) → (ticked_all w d count).probe ≡ w.probe
unfolding ticked_all
probe_all w d zero = refl
probe_all w d (suc count) = probe_all (ticked_one w d) (d + 1) count ∙ probe_by w d (states_in w d)

-- the station after the turns of all, with its probe ticked, is that after the tick
pub tick_new : (v m new : Station) → m ≡ ticked_all v 0 62 → new ≡ record m { probe = ticked_probe m.probe } → new ≡ ticked_in v
tick_new v m new e h =
    h ∙ (ap (λ (w : Station). let x : Station = record w { probe = ticked_probe w.probe } in x) e
    ∙ ap (λ (p : Option Waiting). let x : Station = record (ticked_all v 0 62) { probe = ticked_probe p } in x) (probe_all v 0 62))

-- the connections given up in all turns, and then the probe, are what the tick gives up
pub tick_up : (v m : Station) (ups : List Up) (last : List Up) → m ≡ ticked_all v 0 62 → ups ≡ given_up_in v 0 62 → probe_up m.probe ≡ last → ups ++ last ≡ noticed v
tick_up v m ups last e h k =
    let kept : m.probe ≡ v.probe = ap (λ (w : Station). w.probe) e ∙ probe_all v 0 62 in
    ap (λ (us : List Up). us ++ last) h ∙ ap (λ (us : List Up). given_up_in v 0 62 ++ us) (sym k ∙ ap probe_up kept)

-- one more that is given up stands behind the others
pub pushed_up : (kept now : List GivenUp) (x : GivenUp) → now ≡ kept ++ x ∷ [] → map up_of now ≡ map up_of kept ++ up_of x ∷ []
pushed_up kept now x h = ap (map up_of) h ∙ map-append up_of kept (x ∷ [])
