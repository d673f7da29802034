-- Worked examples of frames.
use Rattle.std.specs.Prelude.{◌≡◌, ℕ, Bool, true, false, List, [], ◌∷◌, ◌++◌, map, replicate}
use Rattle.mux_frame.specs.Frames.{Frame}
use Rattle.mux_frame.specs.Spelling.{spelled}
use Rattle.mux_frame.specs.Reading.{Reads}
use Rattle.mux_frame.specs.declared.frame.Kind.{Kind}
use Rattle.mux_frame.specs.declared.frame.Kind.TheVariants.{Sabm, Ua, Dm, Disc, Uih}

-- a frame from its DLCI, kind, C/R, P/F and information
abbrev pub frame_of_parts : ℕ → Kind → Bool → Bool → List ℕ → Frame
frame_of_parts d k c p info = record { dlci = d; kind = k; cr = c; pf = p; info = info }

-- frames
abbrev pub some_frames : List Frame
some_frames =
    frame_of_parts 0 Sabm true true ([])
    ∷ frame_of_parts 0 Ua true true ([])
    ∷ frame_of_parts 0 Disc true true ([])
    ∷ frame_of_parts 1 Sabm true true ([])
    ∷ frame_of_parts 1 Ua true true ([])
    ∷ frame_of_parts 1 Ua false true ([])
    ∷ frame_of_parts 2 Sabm true true ([])
    ∷ frame_of_parts 2 Ua true true ([])
    ∷ frame_of_parts 1 Disc true true ([])
    ∷ frame_of_parts 1 Disc false true ([])
    ∷ frame_of_parts 1 Dm true true ([])
    ∷ frame_of_parts 1 Dm false true ([])
    ∷ frame_of_parts 0 Uih true false (0xC3 ∷ 0x01 ∷ [])
    ∷ frame_of_parts 0 Uih true false (0xE3 ∷ 0x05 ∷ 0x07 ∷ 0x0D ∷ [])
    ∷ []

-- the same frames, spelled
abbrev pub their_octets : List (List ℕ)
their_octets =
    (0xF9 ∷ 0x03 ∷ 0x3F ∷ 0x01 ∷ 0x1C ∷ 0xF9 ∷ [])
    ∷ (0xF9 ∷ 0x03 ∷ 0x73 ∷ 0x01 ∷ 0xD7 ∷ 0xF9 ∷ [])
    ∷ (0xF9 ∷ 0x03 ∷ 0x53 ∷ 0x01 ∷ 0xFD ∷ 0xF9 ∷ [])
    ∷ (0xF9 ∷ 0x07 ∷ 0x3F ∷ 0x01 ∷ 0xDE ∷ 0xF9 ∷ [])
    ∷ (0xF9 ∷ 0x07 ∷ 0x73 ∷ 0x01 ∷ 0x15 ∷ 0xF9 ∷ [])
    ∷ (0xF9 ∷ 0x05 ∷ 0x73 ∷ 0x01 ∷ 0x74 ∷ 0xF9 ∷ [])
    ∷ (0xF9 ∷ 0x0B ∷ 0x3F ∷ 0x01 ∷ 0x59 ∷ 0xF9 ∷ [])
    ∷ (0xF9 ∷ 0x0B ∷ 0x73 ∷ 0x01 ∷ 0x92 ∷ 0xF9 ∷ [])
    ∷ (0xF9 ∷ 0x07 ∷ 0x53 ∷ 0x01 ∷ 0x3F ∷ 0xF9 ∷ [])
    ∷ (0xF9 ∷ 0x05 ∷ 0x53 ∷ 0x01 ∷ 0x5E ∷ 0xF9 ∷ [])
    ∷ (0xF9 ∷ 0x07 ∷ 0x1F ∷ 0x01 ∷ 0xF4 ∷ 0xF9 ∷ [])
    ∷ (0xF9 ∷ 0x05 ∷ 0x1F ∷ 0x01 ∷ 0x95 ∷ 0xF9 ∷ [])
    ∷ (0xF9 ∷ 0x03 ∷ 0xEF ∷ 0x05 ∷ 0xC3 ∷ 0x01 ∷ 0xF2 ∷ 0xF9 ∷ [])
    ∷ (0xF9 ∷ 0x03 ∷ 0xEF ∷ 0x09 ∷ 0xE3 ∷ 0x05 ∷ 0x07 ∷ 0x0D ∷ 0xFB ∷ 0xF9 ∷ [])
    ∷ []

-- frames are spelled so
abbrev pub AreSpelled : Type 0
AreSpelled = map spelled some_frames ≡ their_octets

-- texts are read so, where N1 is 31
pub record AreRead : Type 0 where
  -- a frame that is cut short by the next one
  pub cut_by_next :
      Reads 31 (0xF9 ∷ 0x05 ∷ 0xEF ∷ 0x0D ∷ 0x41 ∷ 0x42 ∷ 0xF9 ∷ 0x03 ∷ 0x73 ∷ 0x01 ∷ 0xD7 ∷ 0xF9 ∷ [])
      (frame_of_parts 0 Ua true true ([]) ∷ []) (0xF9 ∷ [])
  -- a check octet that is one off, and a shared flag
  pub one_off :
      Reads 31 (0xF9 ∷ 0x03 ∷ 0x73 ∷ 0x01 ∷ 0xD6 ∷ 0xF9 ∷ 0x07 ∷ 0x73 ∷ 0x01 ∷ 0x15 ∷ 0xF9 ∷ [])
      (frame_of_parts 1 Ua true true ([]) ∷ []) (0xF9 ∷ [])
  -- flags as information
  pub flags_inside :
      Reads 31 (0xF9 ∷ 0x05 ∷ 0xEF ∷ 0x05 ∷ 0xF9 ∷ 0xF9 ∷ 0x51 ∷ 0xF9 ∷ [])
      (frame_of_parts 1 Uih false false (0xF9 ∷ 0xF9 ∷ []) ∷ []) (0xF9 ∷ [])
  -- as much information as may be, and one octet more
  pub most :
      Reads 31 (0xF9 ∷ 0x05 ∷ 0xEF ∷ 0x3F ∷ (replicate 31 0x41 ++ 0x98 ∷ 0xF9 ∷ []))
      (frame_of_parts 1 Uih false false (replicate 31 0x41) ∷ []) (0xF9 ∷ [])
  pub too_long : Reads 31 (0xF9 ∷ 0x05 ∷ 0xEF ∷ 0x41 ∷ (replicate 32 0x41 ++ 0x26 ∷ 0xF9 ∷ [])) [] (0xF9 ∷ [])
  -- a short length in two octets
  pub two_octets :
      Reads 31 (0xF9 ∷ 0x05 ∷ 0xEF ∷ 0x0A ∷ 0x00 ∷ 0x41 ∷ 0x41 ∷ 0x41 ∷ 0x41 ∷ 0x41 ∷ 0xE5 ∷ 0xF9 ∷ [])
      (frame_of_parts 1 Uih false false (0x41 ∷ 0x41 ∷ 0x41 ∷ 0x41 ∷ 0x41 ∷ []) ∷ []) (0xF9 ∷ [])
  pub two_zeros :
      Reads 31 (0xF9 ∷ 0x03 ∷ 0x3F ∷ 0x00 ∷ 0x00 ∷ 0x48 ∷ 0xF9 ∷ [])
      (frame_of_parts 0 Sabm true true ([]) ∷ []) (0xF9 ∷ [])
  -- a candidate is dropped at the first octet after which it can become no frame
  pub dropped_length : Reads 31 (0xF9 ∷ 0x05 ∷ 0xEF ∷ 0x41 ∷ []) [] []
  pub dropped_long_length : Reads 31 (0xF9 ∷ 0x05 ∷ 0xEF ∷ 0x40 ∷ []) [] []
  pub dropped_check : Reads 31 (0xF9 ∷ 0x03 ∷ 0x73 ∷ 0x01 ∷ 0xD6 ∷ []) [] []
  pub kept_long_length : Reads 31 (0xF9 ∷ 0x05 ∷ 0xEF ∷ 0x3E ∷ []) [] (0xF9 ∷ 0x05 ∷ 0xEF ∷ 0x3E ∷ [])
  -- nothing, and fill
  pub nothing : Reads 31 [] [] []
  pub only_flags : Reads 31 (0x00 ∷ 0xF9 ∷ 0xF9 ∷ 0xF9 ∷ []) [] (0xF9 ∷ [])
