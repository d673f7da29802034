-- Control frames that wait as octets, each spelled with both its flags, one after another (27.010, 5.2.1).
use Rattle.std.specs.Prelude.{◌≡◌, zero, suc, ℕ, ◌+◌, ◌*◌, ◌/◌, ◌%◌, ◌==◌, ◌<◌, ◌≤◌, List, [], ◌∷◌, length, take, drop, slice_index, if◌then◌else◌, unwrap_or}
use Rattle.std.specs.List.{flat_map, All}
use Rattle.mux_frame.specs.Frames.{Frame}
use Rattle.mux_frame.specs.Spelling.{most_info, spelled}
use Rattle.mux_frame.specs.Judging.{cr_in, pf_in, kind_in}
use Rattle.mux_frame.specs.declared.frame.Kind.TheVariants.{Uih}

-- ## The frame in front

-- how many octets stand before its information: flag, address, control, and one length octet or two
unfoldable pub lead_len : List ℕ → ℕ
lead_len octets = if slice_index octets 3 % 2 == 1 then 4 else 5

-- how many octets of information its length octets tell
unfoldable pub info_len : List ℕ → ℕ
info_len octets =
    slice_index octets 3 / 2 + (if slice_index octets 3 % 2 == 1 then 0 else 128 * slice_index octets 4)

-- how many octets it has: check octet and closing flag stand behind its information
unfoldable pub front_len : List ℕ → ℕ
front_len octets = lead_len octets + info_len octets + 2

-- the control frame in front
unfoldable pub front_frame : List ℕ → Frame
front_frame octets = record {
  dlci = slice_index octets 1 / 4;
  kind = unwrap_or (kind_in (slice_index octets 2)) Uih;
  cr = cr_in (slice_index octets 1);
  pf = pf_in (slice_index octets 2);
  info = take (info_len octets) (drop (lead_len octets) octets);
}

-- the first so many frames that the octets spell
unfoldable pub read_frames : ℕ → List ℕ → List Frame
read_frames zero octets = []
read_frames (suc n) octets = front_frame octets ∷ read_frames n (drop (front_len octets) octets)

-- ## The frames that are kept

-- a control frame: information, at most 129 octets, in a UIH alone
pub record IsControlFrame (f : Frame) : Type 0 where
  pub dlci_in_range : f.dlci < 62
  pub plain : length f.info ≤ most_info 129 f.kind

-- the octets are those of so many control frames as they are written, and of nothing else
pub record AreSpelled (octets : List ℕ) (count : ℕ) : Type 0 where
  pub spelled_one_by_one : octets ≡ flat_map spelled (read_frames count octets)
  pub each : All IsControlFrame (read_frames count octets)

-- a control frame stands at the front, whole
pub record HasFront (octets : List ℕ) : Type 0 where
  pub whole : front_len octets ≤ length octets
  pub control : IsControlFrame (front_frame octets)

-- the frame of this index, of so many that the octets spell, begins at this place
pub record BeginsAt (octets : List ℕ) (count index place : ℕ) : Type 0 where
  pub within : index < count
  pub later : drop place octets ≡ flat_map spelled (drop index (read_frames count octets))
