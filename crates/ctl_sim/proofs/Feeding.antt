-- Octets that are taken at plain lines.
use Rattle.std.specs.Prelude.{◌≡◌, ℕ, ◌+◌, ◌<◌, ◌≤◌, List, [], ◌∷◌, ◌++◌, length, take, refl}
use Rattle.std.proofs.Common.{ap, sym, ◌∙◌, get_or, arith}
use Rattle.std.proofs.lemmas.List.{take_all, take_more}
use Rattle.ctl_sim.specs.Plain.{Plain, plain_after, plain_octet}
use Rattle.ctl_sim.proofs.Served.{after_both}

-- no octets are taken yet
pub fed_none : (p : Plain) → p ≡ plain_after p []
unfolding plain_after
fed_none p = refl

one_octet : (p : Plain) (c : ℕ) → plain_after p (c ∷ []) ≡ plain_octet p c
unfolding plain_after
one_octet p c = refl

-- one more octet
pub fed_more : (p q r : Plain) (octets : List ℕ) (i c : ℕ) → i < length octets → q ≡ plain_after p (take i octets) → c ≡ get_or octets i c → r ≡ plain_octet q c → r ≡ plain_after p (take (i + 1) octets)
fed_more p q r octets i c within is read next =
    next ∙ ap (λ (x : Plain). plain_octet x c) is ∙ sym (one_octet (plain_after p (take i octets)) c) ∙ sym (after_both p (take i octets) (c ∷ []))
    ∙ ap (plain_after p) (ap (λ x. take i octets ++ x ∷ []) read ∙ sym (take_more octets i c within))

-- all of them
pub fed_all : (p q : Plain) (octets : List ℕ) (i : ℕ) → length octets ≤ i → q ≡ plain_after p (take i octets) → q ≡ plain_after p (take (length octets) octets)
fed_all p q octets i all is = is ∙ ap (plain_after p) (take_all i octets all ∙ sym (take_all (length octets) octets (omega arith)))
