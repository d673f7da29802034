-- Frames as an end of the line writes them (27.010, 5.2.1).
use Rattle.std.specs.Prelude.{ℕ, ◌+◌, ◌==◌, ◌&&◌, not, nat_le, Bool, true, false, List, length, if◌then◌else◌}
use Rattle.mux_frame.specs.Frames.{Frame}
use Rattle.mux_frame.specs.declared.frame.Kind.{Kind}
use Rattle.mux_frame.specs.declared.frame.Kind.TheVariants.{Sabm, Ua, Dm, Disc, Uih}
use Rattle.mux_station.specs.declared.role.Role.{Role}
use Rattle.mux_station.specs.declared.role.Role.TheVariants.{Initiator, Responder}

-- the place of a kind in its list
abbrev pub kind_place : Kind → ℕ
kind_place Sabm = 0
kind_place Ua = 1
kind_place Dm = 2
kind_place Disc = 3
kind_place Uih = 4

abbrev pub is_kind : Kind → Kind → Bool
is_kind k m = kind_place k == kind_place m

-- the frame is of this kind and on this connection
abbrev pub is_on : Kind → ℕ → Frame → Bool
is_on k d f = is_kind f.kind k && (f.dlci == d)

abbrev pub is_initiator : Role → Bool
is_initiator Initiator = true
is_initiator Responder = false

-- C/R as this role writes it: commands of the initiator and responses of the responder have it set
abbrev pub written_cr : Role → Kind → Bool
written_cr r Sabm = is_initiator r
written_cr r Disc = is_initiator r
written_cr r Uih = is_initiator r
written_cr r Ua = not (is_initiator r)
written_cr r Dm = not (is_initiator r)

-- the frame as this role writes it: P/F is 1 in every kind but UIH
abbrev pub written : Role → Kind → ℕ → List ℕ → Frame
written r k d info = record { dlci = d; kind = k; cr = written_cr r k; pf = not (is_kind k Uih); info = info }

-- a UIH on another connection than 0
abbrev pub is_data_frame : Frame → Bool
is_data_frame f = is_kind f.kind Uih && not (f.dlci == 0)

-- the octets of the written frame, both flags counted
abbrev pub written_length : Frame → ℕ
written_length f = length f.info + (if nat_le (length f.info) 127 then 6 else 7)
