-- Octets are handed to a station: what it has seen then.
use Rattle.std.specs.Prelude.{◌≡◌, ℕ, ◌+◌, ◌<◌, ◌≤◌, ◌==◌, ◌&&◌, ◌||◌, not, nat_le, Bool, true, false, List, [], ◌∷◌, ◌++◌, length, refl, None, Some, is_none, if◌then◌else◌}
use Rattle.std.specs.List.{list_any}
use Rattle.std.proofs.Common.{ap, sym, ◌∙◌, subst, arith, append-nil, length-append}
use Rattle.std.proofs.lemmas.Bool.{le-leb, eq-eqb}
use Rattle.mux_frame.specs.Frames.{Frame}
use Rattle.mux_station.specs.declared.role.Role.{Role}
use Rattle.mux_station.specs.declared.role.Role.TheVariants.{Initiator}
use Rattle.mux_station.specs.declared.error.StationError.TheVariants.{NotOpen, ControlChannel, NoRoom}
use Rattle.mux_station.specs.Acts.{Offer, Act, Called}
use Rattle.mux_station.specs.Opening.{since, since_after, belongs, is_open, ends}
use Rattle.mux_station.specs.States.{is_opened}
use Rattle.mux_station.specs.Offering.{octets_offered, joined_octets, offered}
use Rattle.mux_station.specs.Sending.{StationSetting, is_loss, station_view, refused, called_frames, sent_after, probe_of, or_else}
use Rattle.mux_station.specs.Stations.{Station, channel_at, setting_of, offer_refused}
use Rattle.mux_station.specs.Fitting.{StationFits}
use Rattle.mux_station.specs.Traces.{without_calls}
use Rattle.mux_station.proofs.states.StationPasts.{open_fits}
use Rattle.mux_station.proofs.user_calls.CallFrames.{probe_called}
use Rattle.modem_core.specs.Handing.{OffersLine}
use Rattle.modem_core.specs.Offers.{TakesLine}
use Rattle.modem_core.proofs.outgoing.LanesAfterFrame.{offered_after}

-- what it comes to: the station has seen calls, and these octets more are offered on d
pub record Handed (old new : Station) (before : List Act) (d : ℕ) (octets : List ℕ) : Type 0 where
  pub seen : List Act
  pub fits : StationFits new seen
  pub same : without_calls seen ≡ without_calls before
  pub setting : setting_of new ≡ setting_of old
  pub probe : new.probe ≡ old.probe
  pub own : offered Initiator d seen ≡ offered Initiator d before ++ octets
  pub others : (e : ℕ) → (d == e) ≡ false → offered Initiator e seen ≡ offered Initiator e before

if_either : (b c : Bool) → (let none : List Frame = [] in if b then none else (if c then none else none)) ≡ []
if_either true c = refl
if_either false true = refl
if_either false false = refl

-- an offer calls for nothing
none_called : (s : StationSetting) (past : List Act) (d : ℕ) (octets : List ℕ) → called_frames s past (Called (Offer d octets)) ≡ []
none_called s past d octets = if_either (list_any is_loss past) (is_none (refused s (station_view s past) (Offer d octets)))

-- it is taken on a connection that is open, where it fits
taken : (v : Station) (d : ℕ) (octets : List ℕ) → (d == 0) ≡ false → is_opened (channel_at v d).state ≡ true → length (channel_at v d).waiting + length octets ≤ 1024 → offer_refused v d octets ≡ None
taken v d octets z o l =
    by_tests (d == 0) (is_opened (channel_at v d).state) (nat_le (length (channel_at v d).waiting + length octets) 1024) z o (le-leb (length (channel_at v d).waiting + length octets) 1024 l)
  where
    by_tests : (a b c : Bool) → a ≡ false → b ≡ true → c ≡ true
        → or_else (or_else (if a then Some ControlChannel else (if not b then Some NotOpen else None)) None) (if c then None else Some NoRoom) ≡ None
    by_tests false true true x y w = refl
    by_tests true b c x y w = cc
    by_tests a false c x y w = cc
    by_tests a b false x y w = cc

if_same : (b : Bool) (x y : List ℕ) → x ≡ y → (if b then x else y) ≡ y
if_same true x y h = h
if_same false x y h = refl

belongs_here : (b e : Bool) → b ≡ true → e ≡ false → (b && not e) ≡ true
belongs_here true false h g = refl
belongs_here false e h g = cc
belongs_here b true h g = cc

or_off : (b : Bool) → (false || (b && false)) ≡ false
or_off true = refl
or_off false = refl

offered_own : (b : Bool) (d : ℕ) (octets : List ℕ) (rest : List Act) → b ≡ true → joined_octets (octets_offered d) (since_after false b (Called (Offer d octets)) rest) ≡ joined_octets (octets_offered d) rest ++ octets
offered_own true d octets rest h = ap (λ (x : Bool). joined_octets (octets_offered d) rest ++ (if x then octets else [])) (eq-eqb d d refl)
offered_own false d octets rest h = cc

offer_on : (old new : Station) (d : ℕ) (octets : List ℕ) (past : List Act) → old.role ≡ Initiator → setting_of new ≡ setting_of old → TakesLine old new d octets → StationFits old past → d < 62 → (d == 0) ≡ false → is_open Initiator d past ≡ true
    → length (channel_at old d).waiting + length octets ≤ 1024 → Handed old new past d octets
offer_on old new d octets past r keeps f h k z o l =
    let opened : is_opened (channel_at old d).state ≡ true = sym (subst (λ (x : Role). is_open x d past ≡ is_opened (channel_at old d).state) r (open_fits old past d h k)) ∙ o in
    let handles = f.taken (taken old d octets z opened l) in
    let s = setting_of old in
    let there : StationFits new (Called (Offer d octets) ∷ past) = subst (λ (fs : List Frame). StationFits new (sent_after fs (Called (Offer d octets) ∷ past))) (none_called s past d octets) (handles.fits past h) in
    let here : belongs Initiator d past (Called (Offer d octets)) ≡ true = belongs_here (is_open Initiator d past) (ends (is_open Initiator 0 past) d (Called (Offer d octets))) o (or_off (not (d == 0))) in
    record {
      seen = Called (Offer d octets) ∷ past;
      fits = there;
      same = refl;
      setting = keeps;
      probe = sym there.probe_is ∙ (ap (λ (x : StationSetting). probe_of x (Called (Offer d octets) ∷ past)) keeps ∙ (probe_called s past (Offer d octets) refl ∙ h.probe_is));
      own = offered_own (belongs Initiator d past (Called (Offer d octets))) d octets (since Initiator d past) here;
      others = λ e n. offered_after (belongs Initiator e past (Called (Offer d octets))) (Called (Offer d octets)) e (since Initiator e past) (ap (λ (b : Bool). if b then octets else []) n);
    }

-- a command and its CR, where nothing waits
pub line_on : (old new : Station) (d : ℕ) (line : List ℕ) (past : List Act) → old.role ≡ Initiator → OffersLine old new d line → StationFits old past → d < 62 → (d == 0) ≡ false → is_open Initiator d past ≡ true
    → (channel_at old d).waiting ≡ [] → Handed old new past d (line ++ 13 ∷ [])
line_on old new d line past r f h k z o w =
    let short = f.short in
    let none : length (channel_at old d).waiting ≡ 0 = ap length w in
    let long = length-append line (13 ∷ []) in
    offer_on old new d (line ++ 13 ∷ []) past r f.setting f.takes h k z o (omega (arith, short, none, long))

-- a station that stays as it is was offered nothing
pub nothing_on : (old new : Station) (d : ℕ) (past : List Act) → StationFits old past → new ≡ old → Handed old new past d []
nothing_on old new d past h e = record {
  seen = past;
  fits = subst (λ (v : Station). StationFits v past) (sym e) h;
  same = refl;
  setting = ap setting_of e;
  probe = ap (λ (v : Station). v.probe) e;
  own = sym (append-nil (offered Initiator d past));
  others = λ g n. refl;
}
