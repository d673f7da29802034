-- Octets that a writer takes piece by piece.
use Rattle.std.specs.Prelude.{◌≡◌, ℕ, List, [], ◌∷◌, ◌++◌, Option, None, Some, length, take, drop, refl}
use Rattle.std.proofs.Common.{sym, subst, ap, ◌∙◌}
use Rattle.std.proofs.lemmas.List.{append_assoc, append-nil, take-append-drop}
use Rattle.std.specs.Io.KnownBytes.{Appends, Keeps}
use Rattle.ctl_text.specs.Writing.{IsBegun}

-- all but what is left was written
pub record IsLeft (before after : Option (List ℕ)) (octets left : List ℕ) : Type 0 where
  pub part : List ℕ
  pub split : octets ≡ part ++ left
  pub appended : Appends before after part

-- nothing is appended
pub appends_none : (a : Option (List ℕ)) → Appends a a []
appends_none None = tt
appends_none (Some x) = sym (append-nil x)

-- some octets are appended, and then others
pub appends_more : (a b c : Option (List ℕ)) (xs ys : List ℕ) → Appends a b xs → Appends b c ys → Appends a c (xs ++ ys)
appends_more None b c xs ys p q = tt
appends_more (Some x) None c xs ys p q = absurd p
appends_more (Some x) (Some y) None xs ys p q = absurd q
appends_more (Some x) (Some y) (Some z) xs ys p q = q ∙ ap (λ (l : List ℕ). l ++ ys) p ∙ append_assoc x xs ys

appends_kept : (a b c : Option (List ℕ)) (xs : List ℕ) → Appends a b xs → Keeps b c → Appends a c xs
appends_kept None b c xs p q = tt
appends_kept (Some x) None c xs p q = absurd p
appends_kept (Some x) (Some y) None xs p q = absurd q
appends_kept (Some x) (Some y) (Some z) xs p q = q ∙ p

-- all are left
pub left_all : (a : Option (List ℕ)) (octets : List ℕ) → IsLeft a a octets octets
left_all a octets = record { part = []; split = refl; appended = appends_none a }

-- the writer took some of those left
pub left_less : (a b c : Option (List ℕ)) (octets left later : List ℕ) (count : ℕ) → IsLeft a b octets left → Appends b c (take count left) → later ≡ drop count left → IsLeft a c octets later
left_less a b c octets left later count h p e = record {
  part = h.part ++ take count left;
  split = rw (e, append_assoc h.part (take count left) (drop count left), take-append-drop count left) h.split;
  appended = appends_more a b c h.part (take count left) h.appended p;
}

-- it took none
pub left_same : (a b c : Option (List ℕ)) (octets left : List ℕ) → IsLeft a b octets left → Keeps b c → IsLeft a c octets left
left_same a b c octets left h k = record { part = h.part; split = h.split; appended = appends_kept a b c h.part h.appended k }

-- what it took is a beginning
pub begun_left : (a b : Option (List ℕ)) (octets left : List ℕ) → IsLeft a b octets left → IsBegun a b octets
begun_left a b octets left h = record { part = h.part; left = left; split = h.split; appended = h.appended }

none_left : (xs : List ℕ) → length xs ≡ 0 → xs ≡ []
none_left [] e = refl
none_left (x ∷ xs) e = cc

-- where none are left, it took them all
pub whole_left : (a b : Option (List ℕ)) (octets left : List ℕ) → IsLeft a b octets left → length left ≡ 0 → Appends a b octets
whole_left a b octets left h none =
    subst (λ (l : List ℕ). Appends a b l) (sym (h.split ∙ ap (λ (l : List ℕ). h.part ++ l) (none_left left none) ∙ append-nil h.part)) h.appended

-- what was taken whole, and then a beginning of what follows
pub begun_after : (a b c : Option (List ℕ)) (first second : List ℕ) → Appends a b first → IsBegun b c second → IsBegun a c (first ++ second)
begun_after a b c first second p h = record {
  part = first ++ h.part;
  left = h.left;
  split = rw (h.split, append_assoc first h.part h.left) refl;
  appended = appends_more a b c first h.part p h.appended;
}

-- a beginning of the first part is one of the whole
pub begun_first : (a b : Option (List ℕ)) (first second : List ℕ) → IsBegun a b first → IsBegun a b (first ++ second)
begun_first a b first second h = record {
  part = h.part;
  left = h.left ++ second;
  split = rw (h.split, append_assoc h.part h.left second) refl;
  appended = h.appended;
}
