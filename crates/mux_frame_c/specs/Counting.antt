-- How many frames there are in octets, and how much information.
use Rattle.std.specs.Prelude.{◌≡◌, ℕ, ◌+◌, ◌%◌, ◌^◌, List, ◌++◌, length}
use Rattle.std.specs.List.{sum_by}
use Rattle.mux_frame.specs.Frames.{Frame}
use Rattle.mux_frame.specs.Reading.{Reads}
use Rattle.mux_frame.specs.Deframing.{Deframing, Deframes}
use Rattle.mux_frame_c.specs.declared.counts.Counts.{Counts}

-- the octets of information that frames have in all
abbrev pub information_of : List Frame → ℕ
information_of fs = sum_by (λ f. length f.info) fs

-- the octets are read as so many frames, with so much information
pub record IsCountOf (n1 : ℕ) (octets : List ℕ) (counts : Counts) : Type 0 where
  pub read : List Frame
  pub rest : List ℕ
  pub reads : Reads n1 octets read rest
  pub frames : counts.frames ≡ length read
  pub information : counts.information ≡ information_of read

-- the frames that were handed out in between are counted, in words of 64 bits
pub record CountsOn (old : Deframing) (before : Counts) (new : Deframing) (after : Counts) : Type 0 where
  pub more : List Frame
  pub n1 : new.n1 ≡ old.n1
  pub past :
      (taken : List ℕ) (handed : List Frame) → Deframes taken handed old → Deframes taken (handed ++ more) new
  pub frames : after.frames ≡ (before.frames + length more) % 2 ^ 64
  pub information : after.information ≡ (before.information + information_of more) % 2 ^ 64
