-- What a deframer has, and what it has taken and handed out (27.010, 5.2.3, 5.2.5 and 5.2.6.1).
use Rattle.std.specs.Prelude.{◌≡◌, ◌≢◌, ℕ, ◌+◌, ◌≤◌, ◌==◌, List, [], ◌∷◌, ◌++◌, drop, max, Option, None, Some, if◌then◌else◌}
use Rattle.mux_frame.specs.Frames.{Frame}
use Rattle.mux_frame.specs.Spelling.{flag, Spells}
use Rattle.mux_frame.specs.Reading.{Reads}
use Rattle.mux_frame.specs.Judging.{Header, Verdict, IsWhole, unfinished, refused, fits, verdict_on, frame_at}
use Rattle.mux_frame.specs.Laws.{AreOctets}

-- N1, the octets that are not decided yet, and the frame at hand, if there is one
pub record Deframing : Type 0 where
  pub n1 : ℕ
  pub undecided : List ℕ
  pub next : Option Frame

-- how many octets a deframer has room for: the longest candidate and its flags, and at least 8192
abbrev pub ring_room : ℕ → ℕ
ring_room n1 = max (n1 + 7) 8192

-- what the undecided octets say: nothing yet, no frame at their beginning, or a frame
abbrev pub decision_on : ℕ → List ℕ → Verdict
decision_on n1 [] = unfinished
decision_on n1 (x ∷ t) = if x == flag then verdict_on n1 t else refused

-- the frame of a decision
abbrev pub frame_in : List ℕ → Verdict → Option Frame
frame_in u unfinished = None
frame_in u refused = None
frame_in u (fits h) = Some (frame_at h (drop 1 u))

-- the frame at hand in undecided octets
unfoldable pub next_in : ℕ → List ℕ → Option Frame
next_in n1 u = frame_in u (decision_on n1 u)

-- what a deframer keeps: its room, N1 in its bounds, and no octets that begin no frame
pub record IsSettled (n1 : ℕ) (undecided : List ℕ) (capacity : ℕ) : Type 0 where
  pub room : capacity ≡ ring_room n1
  pub low : 31 ≤ n1
  pub high : n1 ≤ 32767
  pub decided : decision_on n1 undecided ≢ refused
  pub octets : AreOctets undecided

-- the text is a flag, this frame and its closing flag, and more
pub record IsNext (n1 : ℕ) (u : List ℕ) (f : Frame) : Type 0 where
  pub octets : List ℕ
  pub later : List ℕ
  pub text : u ≡ flag ∷ octets ++ flag ∷ later
  pub spells : Spells n1 octets f

-- the text is a flag, a frame of this header and its closing flag, and more
pub record IsFront (n1 : ℕ) (u : List ℕ) (h : Header) : Type 0 where
  pub starts : u ≡ flag ∷ drop 1 u
  pub whole : IsWhole n1 (drop 1 u) h

-- the frame at hand is the next that is read; where there is none, all of the text is its rest
abbrev pub AtHand : ℕ → List ℕ → Option Frame → Type 0
AtHand n1 u None = Reads n1 u [] u
AtHand n1 u (Some f) = IsNext n1 u f

-- whatever follows, reading on in old gives what reading on in new gives
pub record SameReading (n1 : ℕ) (old new : List ℕ) : Type 0 where
  pub reads : (x : List ℕ) (gs : List Frame) (rest : List ℕ)
      → Reads n1 (new ++ x) gs rest
      → Reads n1 (old ++ x) gs rest

-- The deframer has taken these octets and handed out these frames: whatever follows, the octets are read as
-- these frames and then as the undecided octets are read.
pub record Deframes (taken : List ℕ) (handed : List Frame) (d : Deframing) : Type 0 where
  pub reads : (x : List ℕ) (gs : List Frame) (rest : List ℕ)
      → Reads d.n1 (d.undecided ++ x) gs rest
      → Reads d.n1 (taken ++ x) (handed ++ gs) rest
  pub at_hand : AtHand d.n1 d.undecided d.next
  pub octets : AreOctets d.undecided

-- these octets are taken after whatever was taken and handed out before
abbrev pub TakesIn : Deframing → List ℕ → Deframing → Type 0
TakesIn old octets new =
    (taken : List ℕ) (handed : List Frame)
    → Deframes taken handed old
    → Deframes (taken ++ octets) handed new

-- the frame at hand is handed out after whatever was taken and handed out before
abbrev pub HandsOver : Deframing → Deframing → Type 0
HandsOver old new =
    (taken : List ℕ) (handed : List Frame) (f : Frame)
    → old.next ≡ Some f
    → Deframes taken handed old
    → Deframes taken (handed ++ f ∷ []) new

-- these octets are read as these frames, then this one, and then more
pub record ReadsNext (n1 : ℕ) (taken : List ℕ) (handed : List Frame) (f : Frame) : Type 0 where
  pub later : List Frame
  pub rest : List ℕ
  pub reads : Reads n1 taken (handed ++ f ∷ later) rest

-- A deframer hands out just the frames that are read in the octets taken, in order: the frame at hand is the
-- next of them, and where none is at hand there is no next one, and the undecided octets are the rest.
pub record HandsOut (taken : List ℕ) (handed : List Frame) (d : Deframing) : Type 0 where
  pub next : (f : Frame) → d.next ≡ Some f → ReadsNext d.n1 taken handed f
  pub all : d.next ≡ None → Reads d.n1 taken handed d.undecided

-- a deframer hands out what is read, whatever it has taken and handed out
abbrev pub IsDeframed : Type 0
IsDeframed =
    (taken : List ℕ) (handed : List Frame) (d : Deframing) → Deframes taken handed d → HandsOut taken handed d
