-- Which connections may send, as a set of bits.
use Rattle.std.specs.Prelude.{◌≡◌, ℕ, ◌-◌, ◌==◌, ◌&&◌, not, Bool, true, false, List, length, Option, slice_index_or}
use Rattle.std.specs.Int.{bit_at}
use Rattle.std.specs.List.{find, range_with_len}
use Rattle.mux_station.specs.States.{is_opened}
use Rattle.mux_station.specs.Stations.{Channel, shut_channel}

-- a connection may send: it is Opened, its own stop isn't set, and octets wait in its ring
abbrev pub may_send : Channel → Bool
may_send c = is_opened c.state && (not c.is_stopped && not (length c.waiting == 0))

-- a bit as a number
abbrev pub bit_of : Bool → ℕ
bit_of true = 1
bit_of false = 0

-- every connection there is, and bit d is set where d may send
pub record AreMarked (channels : List Channel) (marks : ℕ) : Type 0 where
  pub all : length channels ≡ 62
  pub marked : (d : ℕ) → bit_at marks d ≡ bit_of (may_send (slice_index_or channels d shut_channel))

-- the least from d on that may send
abbrev pub first_sender : List Channel → ℕ → Option ℕ
first_sender cs d = find (λ e. may_send (slice_index_or cs e shut_channel)) (range_with_len d (62 - d))
