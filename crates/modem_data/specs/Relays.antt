-- What a relay keeps of N1, and the room for the next frame for the line.
use Rattle.std.specs.Prelude.{◌≡◌, ◌≤◌, ◌+◌, ℕ}
use Rattle.mux_frame.specs.Deframing.{Deframing}

pub record KeepsN1 (n1 room : ℕ) (outer inner : Deframing) : Type 0 where
  pub outer_is : n1 ≡ outer.n1
  pub inner_is : n1 ≡ inner.n1
  pub some : 31 ≤ n1
  pub bound : n1 ≤ 32767
  pub has_room : n1 + 7 ≤ room
