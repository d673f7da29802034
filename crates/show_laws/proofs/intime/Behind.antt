-- Control commands behind a frame that opens 0, in the order in which they were sent.
use Rattle.std.specs.Prelude.{◌≡◌, ◌≤◌, Bool, true, List, [], ◌∷◌, ◌++◌}
use Rattle.mux_frame.specs.Frames.{Frame}
use Rattle.show_laws.specs.Lines.{StopsAsking}
use Rattle.show_laws.proofs.answered.DriverStops.{commands}
use Rattle.show_laws.proofs.counts.ManyFrames.{many}

-- of frames, the newest first, each control command stands behind one that passes
abbrev pub Behind : (Frame → Bool) → List Frame → Type 0
Behind t [] = Unit {0}
Behind t (f ∷ older) = (commands f ≡ true → 1 ≤ many t older) × Behind t older

-- where it is so of all frames it is so of the older ones
pub behind_before : (t : Frame → Bool) (later older : List Frame) → Behind t (later ++ older) → Behind t older
behind_before t [] older h = h
behind_before t (f ∷ later) older h = behind_before t later older h.1

-- and where none of all frames asks behind a CLD or its response, none of the older ones does
pub stops_before : (later older : List Frame) → StopsAsking (later ++ older) → StopsAsking older
stops_before [] older h = h
stops_before (f ∷ later) older h = stops_before later older h.1
