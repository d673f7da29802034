-- What waits in a station's rings, and whose turn it is, are what the driver's past says.
use Rattle.std.specs.Prelude.{zero, suc, ◌≡◌, ℕ, ◌+◌, ◌-◌, ◌<◌, ◌≤◌, ◌==◌, ◌&&◌, not, Bool, true, false, cond, List, [], ◌∷◌, ◌++◌, length, drop, find, refl, Option, None, Some, if◌then◌else◌}
use Rattle.std.specs.List.{range_with_len}
use Rattle.std.proofs.Common.{ap, sym, ◌∙◌, subst, arith, append-nil, eqb-true}
use Rattle.std.proofs.Math.Seq.{drop-append_seam}
use Rattle.std.proofs.lemmas.Bool.{ne_eqb}
use Rattle.at_text.specs.Dialects.{Dialect}
use Rattle.mux_frame.specs.Frames.{Frame}
use Rattle.mux_frame.specs.declared.frame.Kind.TheVariants.{Uih}
use Rattle.mux_station.specs.declared.role.Role.{Role}
use Rattle.mux_station.specs.declared.role.Role.TheVariants.{Initiator}
use Rattle.mux_station.specs.Acts as station
use Rattle.mux_station.specs.Written.{is_kind, is_data_frame}
use Rattle.mux_station.specs.Opening.{is_open, since}
use Rattle.mux_station.specs.Stopping.{is_stopped}
use Rattle.mux_station.specs.States.{is_opened}
use Rattle.mux_station.specs.Offering.{octets_sent, joined_octets, offered, data_out, last_sender}
use Rattle.mux_station.specs.Stations.{Station, channel_at, stopped_in}
use Rattle.mux_station.specs.Giving as giving
use Rattle.mux_station.specs.Fitting as station_fits
use Rattle.mux_station.specs.Traces.{without_calls}
use Rattle.mux_station.proofs.law_proofs.PastsWithoutCalls.{same_given}
use Rattle.mux_station.proofs.states.StationPasts.{open_fits, stopped_fits}
use Rattle.modem_history.specs.Acts.{Act, wire}
use Rattle.modem_history.specs.Information.{carries, info_of, info_sent, information_out}
use Rattle.modem_core.specs.Cores.{LaneFits}
use Rattle.modem_core.specs.Lanes.{Lane}
use Rattle.modem_history.specs.GoingOut.{may_leave, waits_on, may_send, from_on, else_by, next_to_send}
use Rattle.modem_core.proofs.cores.StationPasts.{IsSeen, open_seen, stopped_seen}

-- ## What left

same_test : (k z e n : Bool) → n ≡ true → (e ≡ true → z ≡ true) → ((k && z) && e) ≡ (n && (k && e))
same_test true true true true h g = refl
same_test true true false true h g = refl
same_test true false true true h g = let x = g refl in cc
same_test true false false true h g = refl
same_test false z true true h g = refl
same_test false z false true h g = refl
same_test k z e false h g = cc

-- of a connection that isn't 0 what a station gave on is the information that left
info_is : (d : ℕ) (f : Frame) → (d == 0) ≡ false → octets_sent d (station.Sent f) ≡ info_of d f
info_is d f z =
    let same : (is_data_frame f && (f.dlci == d)) ≡ carries d f
    = same_test (is_kind f.kind Uih) (not (f.dlci == 0)) (f.dlci == d) (not (d == 0)) (ap not z) (λ e. ap (λ (m : ℕ). not (m == 0)) (eqb-true f.dlci d e) ∙ ap not z) in
    ap (λ (b : Bool). if b then f.info else []) same

given_info : (d : ℕ) (acts : List station.Act) → (d == 0) ≡ false → joined_octets (octets_sent d) acts ≡ info_sent d acts
given_info d [] z = refl
given_info d (station.Called x ∷ acts) z = append-nil (joined_octets (octets_sent d) acts) ∙ given_info d acts z
given_info d (station.Got f ∷ acts) z = append-nil (joined_octets (octets_sent d) acts) ∙ given_info d acts z
given_info d (station.Sent f ∷ acts) z = ap (λ (v : List ℕ). v ++ octets_sent d (station.Sent f)) (given_info d acts z) ∙ ap (λ (v : List ℕ). info_sent d acts ++ v) (info_is d f z)
given_info d (station.Tick ∷ acts) z = append-nil (joined_octets (octets_sent d) acts) ∙ given_info d acts z
given_info d (station.Lost ∷ acts) z = append-nil (joined_octets (octets_sent d) acts) ∙ given_info d acts z
given_info d (station.Given ∷ acts) z = append-nil (joined_octets (octets_sent d) acts) ∙ given_info d acts z

-- so it is by the station's past and the driver's
pub given_seen : (r : Role) (d : ℕ) (seen : List station.Act) (past : List Act) → IsSeen seen past → (d == 0) ≡ false → data_out r d seen ≡ information_out r d past
given_seen r d seen past h z = sym (same_given r d seen) ∙ (ap (data_out r d) h ∙ given_info d (since r d (wire past)) z)

-- ## What waits

-- a connection is open by the driver's past just where the station has it Opened
pub open_here : (v : Station) (d : ℕ) (seen : List station.Act) (past : List Act) → v.role ≡ Initiator → station_fits.StationFits v seen → IsSeen seen past → d < 62 → is_open Initiator d (wire past) ≡ is_opened (channel_at v d).state
open_here v d seen past r h k l = sym (open_seen Initiator d seen past k) ∙ subst (λ (x : Role). is_open x d seen ≡ is_opened (channel_at v d).state) r (open_fits v seen d h l)

-- of what may leave the beginning left, and the ring holds the rest
pub ring_rest : (dialect : Dialect) (v : Station) (d : ℕ) (seen : List station.Act) (past : List Act) (lane : Lane) → v.role ≡ Initiator → station_fits.StationFits v seen → IsSeen seen past → d < 62 → (d == 0) ≡ false
    → is_open Initiator d (wire past) ≡ true → LaneFits dialect d seen past lane → may_leave dialect Initiator d past ≡ information_out Initiator d past ++ (channel_at v d).waiting
ring_rest dialect v d seen past lane r h k l z o f =
    let opened : is_opened (channel_at v d).state ≡ true = sym (open_here v d seen past r h k l) ∙ o in
    let ring : offered Initiator d seen ≡ data_out Initiator d seen ++ (channel_at v d).waiting = subst (λ (x : Role). offered x d seen ≡ data_out x d seen ++ (channel_at v d).waiting) r ((h.channels_are d l).ring_is opened) in
    sym f.offered_is ∙ (ring ∙ ap (λ (w : List ℕ). w ++ (channel_at v d).waiting) (given_seen Initiator d seen past k z))

-- so what waits on d by the past is what the ring holds
pub waits_in : (dialect : Dialect) (v : Station) (d : ℕ) (seen : List station.Act) (past : List Act) (lane : Lane) → v.role ≡ Initiator → station_fits.StationFits v seen → IsSeen seen past → d < 62 → (d == 0) ≡ false
    → is_open Initiator d (wire past) ≡ true → LaneFits dialect d seen past lane → waits_on dialect Initiator d past ≡ (channel_at v d).waiting
waits_in dialect v d seen past lane r h k l z o f =
    let out = information_out Initiator d past in
    ap (drop (length out)) (ring_rest dialect v d seen past lane r h k l z o f) ∙ drop-append_seam out (channel_at v d).waiting

-- ## Whose turn it is

-- a station that fits, and the lanes of all connections
pub record Lanes_fit (dialect : Dialect) (v : Station) (seen : List station.Act) (past : List Act) (lane : ℕ → Lane) : Type 0 where
  pub role_is : v.role ≡ Initiator
  pub fits : station_fits.StationFits v seen
  pub same : IsSeen seen past
  pub lanes_fit : (d : ℕ) → d < 62 → (d == 0) ≡ false → is_open Initiator d (wire past) ≡ true → LaneFits dialect d seen past (lane d)

and_same : (b x y y' : Bool) → (b ≡ true → y ≡ y') → (b && (x && y)) ≡ (b && (x && y'))
and_same true true y y' h = h refl
and_same true false y y' h = refl
and_same false x y y' h = refl

ready_same : (dialect : Dialect) (v : Station) (seen : List station.Act) (past : List Act) (lane : ℕ → Lane) → Lanes_fit dialect v seen past lane → (d : ℕ) → 1 ≤ d → d < 62 → giving.is_ready v d ≡ may_send dialect Initiator past d
ready_same dialect v seen past lane h d n l =
    let z : (d == 0) ≡ false = ne_eqb d 0 (λ (e : d ≡ 0). omega (arith, e, n)) in
    let o = open_here v d seen past h.role_is h.fits h.same l in
    let stops : stopped_in v d ≡ is_stopped Initiator d (wire past)
    = subst (λ (x : Role). stopped_in v d ≡ is_stopped x d seen) h.role_is (stopped_fits v seen d h.fits l) ∙ stopped_seen Initiator d seen past h.same in
    and_same (is_opened (channel_at v d).state) (not (stopped_in v d)) (not (length (channel_at v d).waiting == 0)) (not (length (waits_on dialect Initiator d past) == 0))
    (λ e. ap (λ (w : List ℕ). not (length w == 0)) (sym (waits_in dialect v d seen past (lane d) h.role_is h.fits h.same l z (o ∙ e) (h.lanes_fit d l z (o ∙ e)))))
    ∙ (ap (λ (b : Bool). b && (not (stopped_in v d) && not (length (waits_on dialect Initiator d past) == 0))) (sym o)
    ∙ ap (λ (b : Bool). is_open Initiator d (wire past) && (not b && not (length (waits_on dialect Initiator d past) == 0))) stops)

first_by : (b c : Bool) (d : ℕ) (x y : Option ℕ) → b ≡ c → x ≡ y → (if b then Some d else x) ≡ cond c (Some d) y
first_by true true d x y e h = refl
first_by false false d x y e h = h
first_by true false d x y e h = cc
first_by false true d x y e h = cc

first_same : (v : Station) (ready : ℕ → Bool) (d count : ℕ) → ((e : ℕ) → d ≤ e → e < d + count → giving.is_ready v e ≡ ready e) → giving.first_ready v d count ≡ find ready (range_with_len d count)
first_same v ready d zero h = refl
first_same v ready d (suc count) h =
    first_by (giving.is_ready v d) (ready d) d (giving.first_ready v (d + 1) count) (find ready (range_with_len (d + 1) count)) (h d (omega arith) (omega arith))
    (first_same v ready (d + 1) count (λ e a b. h e (omega (arith, a)) (omega (arith, b))))

from_same : (dialect : Dialect) (v : Station) (seen : List station.Act) (past : List Act) (lane : ℕ → Lane) → Lanes_fit dialect v seen past lane → (d : ℕ) → 1 ≤ d → giving.ready_from v d ≡ find (may_send dialect Initiator past) (from_on d)
from_same dialect v seen past lane h d n = first_same v (may_send dialect Initiator past) d (62 - d) (λ e a b. ready_same dialect v seen past lane h e (omega (arith, a, n)) (omega (arith, a, b)))

last_same : (acts : List station.Act) → last_sender (without_calls acts) ≡ last_sender acts
last_same [] = refl
last_same (station.Called x ∷ acts) = last_same acts
last_same (station.Got f ∷ acts) = last_same acts
last_same (station.Sent f ∷ acts) = ap (λ (n : ℕ). if is_data_frame f then f.dlci else n) (last_same acts)
last_same (station.Tick ∷ acts) = last_same acts
last_same (station.Lost ∷ acts) = last_same acts
last_same (station.Given ∷ acts) = last_same acts

else_same : (x y : Option ℕ) → giving.else_first x y ≡ else_by x y
else_same (Some d) y = refl
else_same None y = refl

-- it is the turn of the same connection by the station and by the past
pub turn_same : (dialect : Dialect) (v : Station) (seen : List station.Act) (past : List Act) (lane : ℕ → Lane) → Lanes_fit dialect v seen past lane → giving.next_turn v ≡ next_to_send dialect Initiator past
turn_same dialect v seen past lane h =
    let last : v.last ≡ last_sender (wire past) = sym h.fits.last_is ∙ (sym (last_same seen) ∙ ap last_sender h.same) in
    let above : giving.ready_from v (v.last + 1) ≡ find (may_send dialect Initiator past) (from_on (last_sender (wire past) + 1))
    = from_same dialect v seen past lane h (v.last + 1) (omega arith) ∙ ap (λ (n : ℕ). find (may_send dialect Initiator past) (from_on (n + 1))) last in
    let least : giving.ready_from v 1 ≡ find (may_send dialect Initiator past) (from_on 1) = from_same dialect v seen past lane h 1 (omega arith) in
    ap (λ (o : Option ℕ). giving.else_first o (giving.ready_from v 1)) above
    ∙ (ap (λ (o : Option ℕ). giving.else_first (find (may_send dialect Initiator past) (from_on (last_sender (wire past) + 1))) o) least
    ∙ else_same (find (may_send dialect Initiator past) (from_on (last_sender (wire past) + 1))) (find (may_send dialect Initiator past) (from_on 1)))
