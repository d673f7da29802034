-- What is on a line's other side, and what was done with the line there.
use Rattle.std.specs.Prelude.{◌≡◌, ℕ, List, [], None, Option, Some}
use Rattle.ring_id.specs.Rings.{RingId}

-- the rings of an end of a line between threads
pub record LineRings : Type 0 where
  pub incoming : RingId
  pub outgoing : RingId

-- what was done with a line on its other side, and the rings that lead there
pub record OtherSide : Type 0 where
  pub given : List ℕ  -- all octets that were given to be read, read or not
  pub passed_on : List ℕ  -- those of the octets that it took that were given on
  pub rings : Option LineRings  -- only a line between threads has rings

-- the other side of a line that doesn't know of it
abbrev pub unknown_side : OtherSide
unknown_side = record { given = []; passed_on = []; rings = None }

-- what the two ends of one line show: each ring leads out of one end and into the other
pub record AreOpposite (a b : OtherSide) : Type 0 where
  pub near : LineRings
  pub far : LineRings
  pub near_is : a.rings ≡ Some near
  pub far_is : b.rings ≡ Some far
  pub there : near.outgoing ≡ far.incoming
  pub back : far.outgoing ≡ near.incoming
