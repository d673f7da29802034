-- A frame is written into room for it.
use Rattle.std.proofs.Common.{ap, sym, ◌∙◌, subst, arith}
use Rattle.std.proofs.lemmas.List.{nil_from_length}
use Rattle.std.specs.Prelude.{◌≡◌, ◌≢◌, ◌↔◌, ℕ, ◌+◌, ◌<◌, ◌≤◌, List, [], ◌++◌, length, refl, Result, Ok, Err, OnOk, IsErrOf}
use Rattle.mux_frame.specs.declared.error.FrameError.{FrameError}
use Rattle.mux_frame.specs.declared.error.FrameError.TheVariants.{TooLong, NoMemory, BadN1}
use Rattle.mux_frame.specs.declared.frame.Kind.{Kind}
use Rattle.mux_frame.specs.declared.frame.Kind.TheVariants.{Sabm, Ua, Dm, Disc, Uih}
use Rattle.mux_frame.specs.Frames.{Frame}
use Rattle.mux_frame.specs.Spelling.{most_info, spelled, body_of, HasNoSpelling}
use Rattle.mux_frame.proofs.Spellings.{spells_body}

-- a frame with 1024 octets of information at most is written whole into an empty output with room for 1031
pub put_frame : {X : Type 0} (f : Frame) (r : Result X FrameError) (old out : List ℕ) (room : ℕ) → f.dlci < 62 → length f.info ≤ most_info 1024 f.kind → length f.info ≤ 1024 → old ≡ [] → 1031 ≤ room
    → OnOk r (out ≡ old ++ spelled f) → IsErrOf r TooLong ↔ HasNoSpelling 1024 f → r ≢ Err BadN1 → (r ≡ Err NoMemory → room < length old + (length f.info + 7)) → out ≡ spelled f
put_frame f (Ok x) old out room d most few none cap written long other memory = written ∙ ap (λ (xs : List ℕ). xs ++ spelled f) none
put_frame f (Err TooLong) old out room d most few none cap written long other memory =
    let no : HasNoSpelling 1024 f = long.0 refl in
    absurd (no (body_of f) (spells_body 1024 f d most (omega (arith, few))))
put_frame f (Err BadN1) old out room d most few none cap written long other memory = absurd (other refl)
put_frame f (Err NoMemory) old out room d most few none cap written long other memory =
    let m = memory refl in
    let z : length old ≡ 0 = ap length none in
    let x : ⊥ = omega (arith, m, z, cap, few) in absurd x

-- what a kind may have
pub short_uih : (k : Kind) (n : ℕ) → k ≡ Uih → n ≤ 1024 → n ≤ most_info 1024 k
short_uih k n e h = subst (λ (x : Kind). n ≤ most_info 1024 x) (sym e) h

-- every kind may have no information
pub short_none : (k : Kind) (xs : List ℕ) → xs ≡ [] → length xs ≤ most_info 1024 k
short_none k xs e = let z : length xs ≡ 0 = ap length e in omega (arith, z)

-- and a kind that isn't UIH has none
pub none_else : (k : Kind) (xs : List ℕ) → (k ≡ Uih → ⊥) → length xs ≤ most_info 1024 k → xs ≡ []
none_else Uih xs n h = absurd (n refl)
none_else Sabm xs n h = nil_from_length xs (let k : length xs ≤ 0 = h in omega (arith, k))
none_else Ua xs n h = nil_from_length xs (let k : length xs ≤ 0 = h in omega (arith, k))
none_else Dm xs n h = nil_from_length xs (let k : length xs ≤ 0 = h in omega (arith, k))
none_else Disc xs n h = nil_from_length xs (let k : length xs ≤ 0 = h in omega (arith, k))

-- a frame has octets
pub never_none : (f : Frame) (out : List ℕ) → out ≡ spelled f → out ≢ []
never_none f out e h = let x : spelled f ≡ [] = sym e ∙ h in cc
