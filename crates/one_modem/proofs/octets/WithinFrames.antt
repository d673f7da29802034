-- Frames that each end of an N1 reads: on a connection of 0 to 61, information in a UIH alone, and at most N1 octets of it.
use Rattle.std.proofs.Common.{arith, eqb-true}
use Rattle.std.proofs.lemmas.Bool.{and_from, and_parts, le-leb, leb-true, lt-ltb, ltb-true}
use Rattle.std.specs.Prelude.{◌≡◌, ℕ, ◌≤◌, ◌==◌, ◌&&◌, ◌||◌, nat_le, nat_lt, Bool, true, List, [], ◌∷◌, length}
use Rattle.std.specs.List.{list_all}
use Rattle.mux_frame.specs.Frames.{Frame}
use Rattle.mux_frame.specs.Laws.{HasSpelling}
use Rattle.mux_frame.specs.Spelling.{body_of, most_info}
use Rattle.mux_frame.specs.declared.frame.Kind.{Kind}
use Rattle.mux_frame.specs.declared.frame.Kind.TheVariants.{Sabm, Ua, Dm, Disc, Uih}
use Rattle.mux_frame.proofs.Spellings.{spells_body}
use Rattle.mux_station.specs.Written.{is_kind}
use Rattle.mux_station.proofs.law_proofs.ControlFrames.{is_plain}

-- the frame is such
abbrev pub is_within : ℕ → Frame → Bool
is_within n1 f = nat_lt f.dlci 62 && (is_plain f && nat_le (length f.info) n1)

-- each of these is
abbrev pub Within : ℕ → List Frame → Type 0
Within n1 fs = list_all (is_within n1) fs ≡ true

none_in : (xs : List ℕ) → (length xs == 0) ≡ true → length xs ≤ 0
none_in xs e = let x = eqb-true (length xs) 0 e in omega (arith, x)

room_in : (n1 : ℕ) (k : Kind) (xs : List ℕ) → (is_kind k Uih || (length xs == 0)) ≡ true → length xs ≤ n1 → length xs ≤ most_info n1 k
room_in n1 Uih xs h few = few
room_in n1 Sabm xs h few = none_in xs h
room_in n1 Ua xs h few = none_in xs h
room_in n1 Dm xs h few = none_in xs h
room_in n1 Disc xs h few = none_in xs h

-- such a frame has a spelling
pub within_spelled : (n1 : ℕ) (f : Frame) → n1 ≤ 32767 → is_within n1 f ≡ true → HasSpelling n1 f
within_spelled n1 f high h =
    let p = and_parts (nat_lt f.dlci 62) (is_plain f && nat_le (length f.info) n1) h in
    let q = and_parts (is_plain f) (nat_le (length f.info) n1) p.1 in
    let few = leb-true (length f.info) n1 q.1 in
    record { octets = body_of f; spells = spells_body n1 f (ltb-true f.dlci 62 p.0) (room_in n1 f.kind f.info q.0 few) (omega (arith, few, high)) }

plain_by : (n1 : ℕ) (k : Kind) (xs : List ℕ) → length xs ≤ most_info n1 k → ((is_kind k Uih || (length xs == 0)) && nat_le (length xs) n1) ≡ true
plain_by n1 Uih xs few = le-leb (length xs) n1 few
plain_by n1 Sabm [] few = le-leb 0 n1 (omega arith)
plain_by n1 Ua [] few = le-leb 0 n1 (omega arith)
plain_by n1 Dm [] few = le-leb 0 n1 (omega arith)
plain_by n1 Disc [] few = le-leb 0 n1 (omega arith)
plain_by n1 Sabm (x ∷ xs) few = absurd (omega (arith, few))
plain_by n1 Ua (x ∷ xs) few = absurd (omega (arith, few))
plain_by n1 Dm (x ∷ xs) few = absurd (omega (arith, few))
plain_by n1 Disc (x ∷ xs) few = absurd (omega (arith, few))

-- and one that has a spelling is such
pub spelled_within : (n1 : ℕ) (f : Frame) → HasSpelling n1 f → is_within n1 f ≡ true
spelled_within n1 f h =
    and_from (nat_lt f.dlci 62) (is_plain f && nat_le (length f.info) n1) (lt-ltb f.dlci 62 h.spells.dlci) (plain_by n1 f.kind f.info h.spells.room)
