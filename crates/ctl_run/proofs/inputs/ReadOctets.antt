-- What a reader gave so far, by names that tactics can cite.
use Rattle.std.specs.Prelude.{◌≡◌, ℕ, List, [], ◌++◌, Option, Some, None, IfSome, refl}
use Rattle.std.proofs.Common.{sym, subst}
use Rattle.std.proofs.lemmas.List.{append-nil}
use Rattle.std.proofs.KnownBytes.{Consumes-kept, Consumes-nil, Consumes-trans}
use Rattle.std.specs.Io.KnownBytes.{Consumes, Keeps, IsAtEnd}

-- nothing was given yet
pub consumed_none : (a : Option (List ℕ)) → Consumes a a []
consumed_none a = Consumes-nil a

-- a piece more was given
pub consumed_more : (a b c : Option (List ℕ)) (octets piece later : List ℕ) → Consumes a b octets → Consumes b c piece → later ≡ octets ++ piece → Consumes a c later
consumed_more a b c octets piece later p q e = subst (λ (l : List ℕ). Consumes a c l) (sym e) (Consumes-trans a b c octets piece p q)

-- or nothing more
pub consumed_same : (a b c : Option (List ℕ)) (octets : List ℕ) → Consumes a b octets → Keeps b c → Consumes a c octets
consumed_same a b c octets p q = Consumes-kept a b c octets p q

-- at its end a reader has given all that it had
pub consumed_all : (a b c : Option (List ℕ)) (octets : List ℕ) → Consumes a b octets → Consumes b c [] → IsAtEnd c → IfSome a (λ all. octets ≡ all)
consumed_all None b c octets p q e = tt
consumed_all (Some x) None c octets p q e = absurd p
consumed_all (Some x) (Some y) None octets p q e = absurd q
consumed_all (Some x) (Some y) (Some z) octets p q e = rw (p, q, e, append-nil octets) refl
