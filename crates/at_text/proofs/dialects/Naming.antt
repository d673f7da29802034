-- The place of a name among rules.
use Rattle.std.specs.Prelude.{◌≡◌, ℕ, zero, suc, ◌+◌, ◌≤◌, nat_lt, Bool, true, false, not, List, [], ◌∷◌, ◌++◌, length, Option, Some, None, option_map, refl, nat_eq, codes, if◌then◌else◌}
use Rattle.std.specs.List.{position, position_or_len, find, slice_get, AllByRecursion, starts_with}
use Rattle.std.specs.Option.{unwrap_or, option_or}
use Rattle.std.specs.Str.{bytes_eq}
use Rattle.std.proofs.Common.{arith, ◌∙◌, ap, subst}
use Rattle.std.proofs.lemmas.Bool.{ltb-false}
use Rattle.std.proofs.lemmas.Slice.Eq.{bytes_eq-Decides}
use Rattle.at_text.specs.declared.rules.Urc.{Urc}
use Rattle.at_text.specs.declared.unsolicited.UrcKind.{UrcKind}
use Rattle.at_text.specs.declared.unsolicited.UrcKind.TheVariants.{Ring, Cring, Creg, Cgreg, Cgev, Ciev, Own}
use Rattle.at_text.specs.Unsolicited.{unsolicited_of, is_report}
use Rattle.at_text.specs.Rules.{Rules, takes, kind_by, name_at, name_by}
use Rattle.at_text.specs.Refusals.{IsSound}
use Rattle.std.proofs.lemmas.List.Sums.{prefix_len-le-length}

or_length : (b : Bool) (k n : ℕ) → nat_lt k n ≡ b → k ≤ n → unwrap_or (if b then Some k else None) n ≡ k
or_length true k n e h = refl
or_length false k n e h = let l : n ≤ k = ltb-false k n e in omega arith

-- the place of the first that passes, or else how many there are
pub place_or_length : {X : Type 0} (test : X → Bool) (xs : List X) → unwrap_or (position test xs) (length xs) ≡ position_or_len test xs
place_or_length test xs =
    or_length (nat_lt (position_or_len test xs) (length xs)) (position_or_len test xs) (length xs) refl (prefix_len-le-length (λ x. not (test x)) xs)

-- ## Names of rules to which one more comes

abbrev name_in : List Urc → ℕ → Option (List ℕ)
name_in us place = option_map (λ u. u.name) (slice_get us place)

-- the name at a place stays when a rule comes behind
pub kept_name : (us : List Urc) (v : Urc) (place : ℕ) (name : List ℕ) → name_in us place ≡ Some name → name_in (us ++ v ∷ []) place ≡ Some name
kept_name [] v place name h = cc
kept_name (u ∷ us) v zero name h = h
kept_name (u ∷ us) v (suc place) name h = kept_name us v place name h

one_more : (k : ℕ) → 1 + k ≡ suc k
one_more k = omega arith

found_name : (us : List Urc) (u v : Urc) (name : List ℕ) (b : Bool) → bytes_eq u.name name ≡ b → name_in (us ++ v ∷ []) (position_or_len (λ w. bytes_eq w.name name) us) ≡ Some name
    → name_in (u ∷ us ++ v ∷ []) (if not b then 1 + position_or_len (λ w. bytes_eq w.name name) us else 0) ≡ Some name
found_name us u v name true e h = ap Some ((bytes_eq-Decides u.name name).0 e)
found_name us u v name false e h = rw (one_more (position_or_len (λ w. bytes_eq w.name name) us)) h

-- a new rule's kind, the place of the first rule of its name, has that name
pub last_name : (us : List Urc) (v : Urc) → name_in (us ++ v ∷ []) (position_or_len (λ w. bytes_eq w.name v.name) us) ≡ Some v.name
last_name [] v = refl
last_name (u ∷ us) v = found_name us u v v.name (bytes_eq u.name v.name) refl (last_name us v)

-- what holds of all, and of one more, holds of all with it
pub all_more : {X : Type 0} (P Q : X → Type 0) → ((x : X) → P x → Q x) → (xs : List X) (y : X) → AllByRecursion P xs → Q y → AllByRecursion Q (xs ++ y ∷ [])
all_more P Q f [] y h q = (q, tt)
all_more P Q f (x ∷ xs) y h q = (f x h.0, all_more P Q f xs y h.1 q)

-- ## The name of a line's kind

found_at : {X : Type 0} (P : X → Type 0) (test : X → Bool) (y : X) (xs : List X) (x : X) (b : Bool) → P y → (find test xs ≡ Some x → P x) → (if b then Some y else find test xs) ≡ Some x → P x
found_at P test y xs x true p more e = let same : y ≡ x = cc in subst P same p
found_at P test y xs x false p more e = more e

found_fact : {X : Type 0} (P : X → Type 0) (test : X → Bool) (xs : List X) (x : X) → AllByRecursion P xs → find test xs ≡ Some x → P x
found_fact P test [] x h e = cc
found_fact P test (y ∷ xs) x h e = found_at P test y xs x (test y) h.0 (found_fact P test xs x h.1) e

not_own_by : (a b c d e f : Bool) (k : ℕ)
    → (if a then Some Ring else if b then Some Cring else if c then Some Creg else if d then Some Cgreg else if e then Some Cgev else if f then Some Ciev else None) ≡ Some (Own k) → ⊥
not_own_by true b c d e f k h = cc
not_own_by false true c d e f k h = cc
not_own_by false false true d e f k h = cc
not_own_by false false false true e f k h = cc
not_own_by false false false false true f k h = cc
not_own_by false false false false false true k h = cc
not_own_by false false false false false false k h = cc

-- the standard's kinds are none of one's own
pub not_own : (line : List ℕ) (k : ℕ) → unsolicited_of line ≡ Some (Own k) → ⊥
not_own line k h =
    not_own_by (bytes_eq line (codes "RING")) (starts_with nat_eq line (codes "+CRING:")) (is_report (codes "+CREG:") line) (is_report (codes "+CGREG:") line)
    (starts_with nat_eq line (codes "+CGEV:")) (starts_with nat_eq line (codes "+CIEV:")) k h

name_found : (rules : Rules) (k : ℕ) (standard : Option UrcKind) (own : Option Urc) → (standard ≡ Some (Own k) → ⊥) → ((u : Urc) → own ≡ Some u → name_at rules u.kind ≡ Some u.name)
    → option_or standard (option_map (λ u. Own u.kind) own) ≡ Some (Own k) → name_at rules k ≡ option_map (λ u. u.name) own
name_found rules k (Some kind) own none fact h = absurd (none h)
name_found rules k None None none fact h = cc
name_found rules k None (Some u) none fact h = let same : k ≡ u.kind = cc in ap (name_at rules) same ∙ fact u refl

-- the name of a line's kind is that of the first rule that takes it
pub name_right : (rules : Rules) → IsSound rules → (line : List ℕ) (k : ℕ) → kind_by rules line ≡ Some (Own k) → name_at rules k ≡ name_by rules line
name_right rules sound line k h =
    name_found rules k (unsolicited_of line) (find (λ u. takes u.pattern line) rules.urcs) (not_own line k)
    (λ u e. found_fact (λ w. name_at rules w.kind ≡ Some w.name) (λ w. takes w.pattern line) rules.urcs u sound.named e) h
