-- A frame of data that was read: what the call knows of it.
use Rattle.std.specs.Prelude.{◌≡◌, ℕ, ◌<◌, Bool, false, true, List, slice_set, is_some, is_none, ◌&&◌}
use Rattle.std.proofs.Common.{ap, subst}
use Rattle.mux_frame.specs.Frames.{Frame}
use Rattle.mux_station.specs.declared.noted.Noted.{Noted}
use Rattle.mux_station.specs.Acts as station
use Rattle.mux_station.specs.Fitting as station_fits
use Rattle.mux_station.specs.Noting.{noted_of}
use Rattle.mux_station.specs.Sending.{station_view as station_seen}
use Rattle.mux_station.specs.Stations.{Station, setting_of}
use Rattle.modem_history.specs.Acts.{Act}
use Rattle.modem_core.specs.Lanes.{Lane}
use Rattle.modem_core.specs.Cores.{Core, lane_at}
use Rattle.modem_core.specs.Receiving.{reads_data}
use Rattle.modem_core.specs.Handing.{EndedBy, ReadsFrame}
use Rattle.modem_core.proofs.frames.DataFrames.{DataCame}

-- the core once the lane of a connection has become another
abbrev pub HasLane : (old mid : Core) (d : ℕ) (lane : Lane) → Type 0
HasLane old mid d lane = mid ≡ record old { lanes = slice_set old.lanes d lane }

-- what the call knows once the station has taken the frame
pub data_came : (old mid new : Core) (f : Frame) (lane : Lane) (acts : List Act) (done : Bool) (n : Noted) (st : Station) → old.lost ≡ false → reads_data old f ≡ true → f.dlci < 62
    → ReadsFrame old f lane acts → HasLane old mid f.dlci lane
    → done ≡ (is_some (lane_at old f.dlci).under_way && is_none lane.under_way) → station_fits.StationHandles mid.station st (station.Got f)
    → ((past : List station.Act) → station_fits.StationFits mid.station past → n ≡ noted_of mid.station.role (station_seen (setting_of mid.station) past) f)
    → EndedBy done (record mid { station = st }) new f.dlci → DataCame old new f n lane st acts
data_came old mid new f lane acts done n st live is_data in_range reads m closes handles noted ends =
    let same : mid.station ≡ old.station = ap (λ (v : Core). v.station) m in
    record {
      live = live;
      is_data = is_data;
      in_range = in_range;
      reads = reads;
      handles = subst (λ (v : Station). station_fits.StationHandles v st (station.Got f)) same handles;
      noted_is = subst (λ (v : Station). (past : List station.Act) → station_fits.StationFits v past → n ≡ noted_of v.role (station_seen (setting_of v) past) f) same noted;
      ends = subst (λ (b : Bool). EndedBy b (record old { station = st; lanes = slice_set old.lanes f.dlci lane }) new f.dlci) closes
          (subst (λ (v : Core). EndedBy done (record v { station = st }) new f.dlci) m ends);
    }
