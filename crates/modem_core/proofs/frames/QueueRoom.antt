-- What a frame calls for fits into a control queue in which nothing waits.
use Rattle.std.specs.Prelude.{◌≡◌, ℕ, ◌+◌, ◌≤◌, ◌==◌, ◌&&◌, ◌||◌, nat_le, Bool, true, false, List, [], ◌∷◌, length, refl, Some, None, if◌then◌else◌}
use Rattle.std.proofs.Common.{ap, sym, ◌∙◌, subst, arith, eqb-true}
use Rattle.std.proofs.lemmas.Bool.{le-leb}
use Rattle.std.proofs.lemmas.List.{nil_from_length}
use Rattle.mux_frame.specs.Frames.{Frame}
use Rattle.mux_frame.specs.Spelling.{most_info}
use Rattle.mux_frame.specs.declared.frame.Kind.{Kind}
use Rattle.mux_frame.specs.declared.frame.Kind.TheVariants.{Sabm, Ua, Dm, Disc, Uih}
use Rattle.mux_station.specs.declared.role.Role.{Role}
use Rattle.mux_station.specs.declared.error.StationError.{StationError}
use Rattle.mux_station.specs.declared.error.StationError.TheVariants.{NoRoom}
use Rattle.mux_station.specs.Written.{written_length}
use Rattle.mux_station.specs.Tables.{by_frame, has_room, have_room, octets_of}
use Rattle.mux_station.specs.Sending.{got_refused}
use Rattle.mux_station.specs.Stations.{channel_at, setting_of, seen_in}
use Rattle.modem_core.specs.Cores.{Core}
use Rattle.modem_core.specs.Receiving.{answer_room}
use Rattle.modem_core.specs.Running.{CoreIsIdle}
use Rattle.modem_core.proofs.outgoing.CoreAfterFrame.{IsSound}
use Rattle.modem_core.proofs.frames.StationAfterFrame.{AreShort, answer_short}

-- no kind of frame has more than N1 octets of information
pub at_most : (n1 : ℕ) (k : Kind) → most_info n1 k ≤ n1
at_most n1 Sabm = omega arith
at_most n1 Ua = omega arith
at_most n1 Dm = omega arith
at_most n1 Disc = omega arith
at_most n1 Uih = omega arith

-- beside its information a frame is written in 7 octets at most
pub with_flags : (n : ℕ) (b : Bool) → n + (if b then 6 else 7) ≤ n + 7
with_flags n true = omega arith
with_flags n false = omega arith

-- one frame at most, with N1 + 4 octets of information or fewer, fits into an empty control queue
pub short_fits : (n1 room : ℕ) (fs : List Frame) → AreShort room fs → room ≤ n1 + 4 → have_room n1 0 fs ≡ true
short_fits n1 room [] h l = refl
short_fits n1 room (f ∷ []) h l =
    let w = with_flags (length f.info) (nat_le (length f.info) 127) in
    let fits : has_room n1 0 f ≡ true = le-leb (0 + written_length f) (4096 + n1) (omega (arith, h, l, w)) in
    ap (λ (b : Bool). b && true) fits
short_fits n1 room (f ∷ g ∷ fs) h l = absurd h

queue_empty : (v : Core) → v.lost ≡ false → CoreIsIdle v → v.station.queue ≡ []
unfolding CoreIsIdle
queue_empty v live h =
    nil_from_length v.station.queue (eqb-true (length v.station.queue) 0 (ap (λ (b : Bool). b || (length v.station.queue == 0)) (sym live) ∙ h))

refusal_none : (b : Bool) (e : StationError) → b ≡ true → Some e ≡ (if b then None else Some NoRoom) → ⊥
refusal_none true e h k = cc
refusal_none false e h k = cc

-- while the line isn't lost, a frame no longer than its kind may be is refused only where control frames wait
pub never_full : (v : Core) (f : Frame) (e : StationError) → IsSound v → v.lost ≡ false → length f.info ≤ most_info v.station.n1 f.kind → Some e ≡ got_refused (setting_of v.station) (seen_in v.station) f → ¬ CoreIsIdle v
never_full v f e i live short refused idle =
    let fs = by_frame v.station.role (λ d. (channel_at v.station d).state) f in
    let are : AreShort (answer_room f) fs = subst (λ (r : Role). AreShort (answer_room f) (by_frame r (λ d. (channel_at v.station d).state) f)) (sym i.role_is) (answer_short (λ d. (channel_at v.station d).state) f) in
    let most = at_most v.station.n1 f.kind in
    let room : answer_room f ≤ v.station.n1 + 4 = omega (arith, short, most) in
    let fits : have_room v.station.n1 (octets_of v.station.queue) fs ≡ true = ap (λ (q : List Frame). have_room v.station.n1 (octets_of q) fs) (queue_empty v live idle) ∙ short_fits v.station.n1 (answer_room f) fs are room in
    refusal_none (have_room v.station.n1 (octets_of v.station.queue) fs) e fits refused
