-- What a station's parts say of each past that it fits.
use Rattle.std.specs.Prelude.{◌≡◌, ℕ, ◌<◌, ◌==◌, ◌&&◌, ◌||◌, not, Bool, true, false, List, [], None, replicate, refl}
use Rattle.std.proofs.Common.{ap, sym, ◌∙◌, subst, arith}
use Rattle.mux_station.specs.declared.role.Role.{Role}
use Rattle.mux_station.specs.Acts.{Act}
use Rattle.mux_station.specs.Opening.{is_open, since}
use Rattle.mux_station.specs.States.{is_opened, state_of}
use Rattle.mux_station.specs.Stopping.{last_said, got_says, msc_says, flow_says, is_stopped}
use Rattle.mux_frame.specs.Frames.{Frame}
use Rattle.std.proofs.lemmas.List.{get_or-replicate}
use Rattle.mux_station.specs.Stations.{Channel, Station, shut_channel, new_station, channel_at, stopped_in}
use Rattle.mux_station.specs.Fitting.{ChannelFits, StationFits}

and_same : (b x y : Bool) → (b ≡ true → x ≡ y) → (b && x) ≡ (b && y)
and_same true x y h = h refl
and_same false x y h = refl

-- a connection is open where its state is Opened
pub open_fits : (v : Station) (past : List Act) (d : ℕ) → StationFits v past → d < 62 → is_open v.role d past ≡ is_opened (channel_at v d).state
open_fits v past d h l = ap is_opened (h.channels_are d l).state_is

-- and stopped where the station has it stopped
pub stopped_fits : (v : Station) (past : List Act) (d : ℕ) → StationFits v past → d < 62 → stopped_in v d ≡ is_stopped v.role d past
stopped_fits v past d h l =
    let own = last_said (got_says (msc_says d)) (since v.role d past) in
    let all = last_said (got_says flow_says) (since v.role 0 past) in
    let here : (is_opened (channel_at v d).state && own) ≡ (is_opened (channel_at v d).state && (channel_at v d).is_stopped) = and_same (is_opened (channel_at v d).state) own (channel_at v d).is_stopped (h.channels_are d l).stop_is in
    let there : (is_opened (channel_at v 0).state && all) ≡ (is_opened (channel_at v 0).state && v.all_stopped) = and_same (is_opened (channel_at v 0).state) all v.all_stopped h.stop_of_all_is in
    let open_here : (is_open v.role d past && own) ≡ (is_opened (channel_at v d).state && own) = ap (λ (b : Bool). b && own) (open_fits v past d h l) in
    let open_there : (is_open v.role 0 past && all) ≡ (is_opened (channel_at v 0).state && all) = ap (λ (b : Bool). b && all) (open_fits v past 0 h (omega arith)) in
    sym (ap (λ (b : Bool). not (d == 0) && (b || (is_open v.role 0 past && all))) (open_here ∙ here)
    ∙ ap (λ (b : Bool). not (d == 0) && ((is_opened (channel_at v d).state && (channel_at v d).is_stopped) || b)) (open_there ∙ there))

shut_fits : (r : Role) (d : ℕ) → ChannelFits r d [] shut_channel
shut_fits r d = record { state_is = none r d; unasked = λ h. refl; stop_is = λ h. refl; ring_is = λ h. refl }
  where
    none : (r : Role) (d : ℕ) → state_of r d [] ≡ shut_channel.state
    none r d = refl

-- as the definitions have it, a new station fits the empty past
pub new_past : (r : Role) (n1 : ℕ) → StationFits (new_station r n1) []
new_past r n1 = record {
  live = refl;
  channels_are = λ d l. subst (λ (c : Channel). ChannelFits r d [] c) (sym (get_or-replicate 62 d shut_channel shut_channel l)) (shut_fits r d);
  others_shut = λ o d l z. ap (λ (c : Channel). c.state) (get_or-replicate 62 d shut_channel shut_channel l);
  stop_of_all_is = λ h. refl;
  probe_is = refl;
  queue_is = refl;
  last_is = refl;
}

-- a new station fits the empty past
pub new_fits : (r : Role) (n1 : ℕ) (channels : List Channel) (frames : List Frame) → channels ≡ replicate 62 shut_channel → frames ≡ []
    → StationFits (record { role = r; n1 = n1; channels = channels; all_stopped = false; probe = None; queue = frames; last = 0 }) []
new_fits r n1 channels frames e f =
    subst (λ (fs : List Frame). StationFits (record { role = r; n1 = n1; channels = channels; all_stopped = false; probe = None; queue = fs; last = 0 }) []) (sym f)
    (subst (λ (cs : List Channel). StationFits (record { role = r; n1 = n1; channels = cs; all_stopped = false; probe = None; queue = []; last = 0 }) []) (sym e) (new_past r n1))
