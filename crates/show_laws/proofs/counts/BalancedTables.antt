-- Two tests of frames, of which the first is of frames that the tables call for where frames of the second come.
use Rattle.std.specs.Prelude.{◌≡◌, zero, suc, ℕ, ◌+◌, ◌*◌, ◌/◌, ◌%◌, ◌==◌, ◌≤◌, nat_le, Bool, true, false, List, [], ◌∷◌, length, Some, None, refl, if◌then◌else◌}
use Rattle.std.proofs.Common.{arith}
use Rattle.mux_frame.specs.Frames.{Frame}
use Rattle.mux_frame.specs.declared.frame.Kind.TheVariants.{Sabm, Disc}
use Rattle.mux_station.specs.declared.role.Role.{Role}
use Rattle.mux_station.specs.Written.{is_data_frame, written}
use Rattle.mux_station.specs.Messages.{msc, test}
use Rattle.mux_station.specs.States.{State, IsShut, IsOpening, IsOpened, IsClosing, IsStopping, is_opened}
use Rattle.mux_station.specs.Tables.{again, by_flow, by_frame, has_room, if_room, message_frame, msc_frame, octets_of, ticked}
use Rattle.show_laws.proofs.counts.ManyFrames.{few_both, few_if, many, none_one, unit}

-- a type octet of a command
abbrev pub is_command_octet : ℕ → Bool
is_command_octet octet = (octet / 2) % 2 == 1

-- What comes calls for no more frames of the first test than it is of the second. Nothing else calls for any, and data of as much
-- information as this is none; of probes these may be asked for.
pub record Balanced (IsProbe : List ℕ → Type 0) (most : ℕ) (r : Role) (u t : Frame → Bool) : Type 0 where
  pub frame : (state : ℕ → State) (f : Frame) → many u (by_frame r state f) ≤ unit (t f)
  pub plain : (f : Frame) → is_data_frame f ≡ true → nat_le (length f.info) most ≡ true → u f ≡ false
  pub sabm : (d : ℕ) → u (written r Sabm d []) ≡ false
  pub disc : (d : ℕ) → u (written r Disc d []) ≡ false
  pub command : (octet : ℕ) (value : List ℕ) → is_command_octet octet ≡ true → length value ≤ 2 → u (message_frame r octet value) ≡ false
  pub probe : (octets : List ℕ) → IsProbe octets → u (message_frame r test octets) ≡ false
  pub short : (octets : List ℕ) → nat_le (length octets) 16 ≡ true → IsProbe octets

-- holding or freeing a connection calls for no frame of the first test
pub none_of_flow : (P : List ℕ → Type 0) (most : ℕ) (r : Role) (u t : Frame → Bool) → Balanced P most r u t → (state : ℕ → State) (d signals : ℕ) → many u (by_flow r state d signals) ≤ 0
none_of_flow P most r u t b state d signals =
    few_if u 0 (is_opened (state d)) (msc_frame r d signals ∷ []) []
    (none_one u (msc_frame r d signals) (b.command msc ((4 * d + 3) ∷ signals ∷ []) refl (omega arith))) (omega arith)

kind_if : (r : Role) (u : Frame → Bool) → ((d : ℕ) → u (written r Sabm d []) ≡ false) → ((d : ℕ) → u (written r Disc d []) ≡ false) → (d : ℕ) (c : Bool) → u (written r (if c then Disc else Sabm) d []) ≡ false
kind_if r u sabm disc d true = disc d
kind_if r u sabm disc d false = sabm d

fitting : (u : Frame → Bool) (n1 queued : ℕ) (f : Frame) → u f ≡ false → many u (if_room n1 queued (Some f)) ≤ 0
fitting u n1 queued f h = few_if u 0 (has_room n1 queued f) (f ∷ []) [] (none_one u f h) (omega arith)

roomed : (r : Role) (u : Frame → Bool) → ((d : ℕ) → u (written r Sabm d []) ≡ false) → ((d : ℕ) → u (written r Disc d []) ≡ false) → (n1 queued d : ℕ) (own : State) → many u (if_room n1 queued (again r d own)) ≤ 0
roomed r u sabm disc n1 queued d IsShut = omega arith
roomed r u sabm disc n1 queued d IsOpened = omega arith
roomed r u sabm disc n1 queued d (IsStopping n) = omega arith
roomed r u sabm disc n1 queued d (IsOpening n) = fitting u n1 queued (written r (if n == 3 then Disc else Sabm) d []) (kind_if r u sabm disc d (n == 3))
roomed r u sabm disc n1 queued d (IsClosing n) = closing (n == 3)
  where
    closing : (c : Bool) → many u (if_room n1 queued (if c then None else Some (written r Disc d []))) ≤ 0
    closing true = omega arith
    closing false = fitting u n1 queued (written r Disc d []) (disc d)

-- a tick calls for SABM and DISC alone
pub tick_none : (r : Role) (u : Frame → Bool) → ((d : ℕ) → u (written r Sabm d []) ≡ false) → ((d : ℕ) → u (written r Disc d []) ≡ false) → (n1 : ℕ) (state : ℕ → State) (queued d count : ℕ) → many u (ticked r n1 state queued d count) ≤ 0
tick_none r u sabm disc n1 state queued d zero = omega arith
tick_none r u sabm disc n1 state queued d (suc count) =
    let here = if_room n1 queued (again r d (state d)) in
    few_both u 0 0 here (ticked r n1 state (queued + octets_of here) (d + 1) count) (roomed r u sabm disc n1 queued d (state d)) (tick_none r u sabm disc n1 state (queued + octets_of here) (d + 1) count)

-- so a tick calls for none of the first test either
pub none_of_tick : (P : List ℕ → Type 0) (most : ℕ) (r : Role) (u t : Frame → Bool) → Balanced P most r u t → (n1 : ℕ) (state : ℕ → State) (queued d count : ℕ) → many u (ticked r n1 state queued d count) ≤ 0
none_of_tick P most r u t b n1 state queued d count = tick_none r u b.sabm b.disc n1 state queued d count
