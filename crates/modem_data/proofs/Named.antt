-- The connections that are named as those of data.
use Rattle.std.specs.Prelude.{◌≡◌, ℕ, ◌+◌, ◌<◌, ◌≤◌, ◌==◌, nat_lt, Bool, true, false, List, [], ◌∷◌, ◌++◌, length, take, All, refl, slice_index_or}
use Rattle.std.proofs.Common.{ap, sym, ◌∙◌, subst, arith}
use Rattle.std.proofs.lemmas.Bool.{eqb-true, eqb-false, ne_eqb, ltb-true, ltb-false}
use Rattle.std.proofs.lemmas.List.{get_or-map, length-map, map-append, map_more, take_all}
use Rattle.std.proofs.lemmas.List.Elements.{All-push}
use Rattle.mux_frame.specs.declared.dlci.Dlci.{Dlci}
use Rattle.mux_station.specs.declared.role.Role.{Role}
use Rattle.modem_data.specs.Pipes.{BeginsPipe, Pipe, PipeFits}
use Rattle.modem_data.specs.PipeSets.{AreApart, IsAmong, IsTwice, connections, numbers}

-- the number at a place is that of the connection named there
pub named_at : (named : List Dlci) (i : ℕ) (d : Dlci) (x : ℕ) → i < length named → slice_index_or (numbers named) i x ≡ (slice_index_or named i d).number
named_at named i d x there = get_or-map (λ (c : Dlci). c.number) named i d x there

-- a connection named at one of the first so many places is among them
pub among : (named : List Dlci) (i count e : ℕ) (d : Dlci) → i < count → count ≤ length named → ((slice_index_or named i d).number == e) ≡ true → IsAmong (numbers named) count e
among named i count e d there few same = record {
  place = i;
  there = there;
  here = λ x. named_at named i d x (omega (arith, there, few)) ∙ eqb-true (slice_index_or named i d).number e same;
}

-- one that isn't among the first places, nor named at the next, isn't among these with the next
pub not_so_far : (named : List Dlci) (i e : ℕ) (d : Dlci) → i < length named → ((slice_index_or named i d).number == e) ≡ false → ((j x : ℕ) → j < i → (slice_index_or (numbers named) j x == e) ≡ false) → (j x : ℕ) → j < i + 1 → (slice_index_or (numbers named) j x == e) ≡ false
not_so_far named i e d there other before j x near = at (nat_lt j i) refl
  where
    at : (b : Bool) → nat_lt j i ≡ b → (slice_index_or (numbers named) j x == e) ≡ false
    at true q = before j x (ltb-true j i q)
    at false q =
        let late = ltb-false j i q in
        let here : j ≡ i = omega (arith, late, near) in
        subst (λ n. (slice_index_or (numbers named) n x == e) ≡ false) (sym here) (ap (λ n. n == e) (named_at named i d x there) ∙ other)

-- one that is among those before its place is named twice
pub twice : (named : List Dlci) (i : ℕ) (d : Dlci) → i < length named → IsAmong (numbers named) i (slice_index_or named i d).number → IsTwice (numbers named)
twice named i d there again = record {
  place = i;
  there = subst (λ n. i < n) (sym (length-map named (λ (c : Dlci). c.number))) there;
  again = λ x. subst (λ e. IsAmong (numbers named) i e) (sym (named_at named i d x there)) again;
}

-- those before a place are apart, and the next is none of them: they are apart with it
pub apart_so_far : (named : List Dlci) (k : ℕ) (d : Dlci) → k < length named → ((j x : ℕ) → j < k → (slice_index_or (numbers named) j x == (slice_index_or named k d).number) ≡ false) → ((i j x : ℕ) → i < k → j < i → (slice_index_or (numbers named) j x == slice_index_or (numbers named) i x) ≡ false) → (i j x : ℕ) → i < k + 1 → j < i → (slice_index_or (numbers named) j x == slice_index_or (numbers named) i x) ≡ false
apart_so_far named k d there none before i j x near later = at (nat_lt i k) refl
  where
    at : (b : Bool) → nat_lt i k ≡ b → (slice_index_or (numbers named) j x == slice_index_or (numbers named) i x) ≡ false
    at true q = before i j x (ltb-true i k q) later
    at false q =
        let late = ltb-false i k q in
        let here : i ≡ k = omega (arith, late, near) in
        let first : j < k = omega (arith, here, later) in
        subst (λ n. (slice_index_or (numbers named) j x == slice_index_or (numbers named) n x) ≡ false) (sym here)
        (subst (λ e. (slice_index_or (numbers named) j x == e) ≡ false) (sym (named_at named k d x there)) (none j x first))

-- if none before the end is named again, the connections are apart
pub apart : (named : List Dlci) (n : ℕ) → length named ≤ n → ((i j x : ℕ) → i < n → j < i → (slice_index_or (numbers named) j x == slice_index_or (numbers named) i x) ≡ false) → AreApart (numbers named)
unfolding AreApart
apart named n all before i j x there_i there_j other = at (nat_lt j i) refl (nat_lt i j) refl
  where
    long : length (numbers named) ≡ length named
    long = length-map named (λ (c : Dlci). c.number)

    at : (a : Bool) → nat_lt j i ≡ a → (b : Bool) → nat_lt i j ≡ b → (slice_index_or (numbers named) j x == slice_index_or (numbers named) i x) ≡ false
    at true q b r = before i j x (omega (arith, long, there_i, all)) (ltb-true j i q)
    at false q true r =
        let k = before j i x (omega (arith, long, there_j, all)) (ltb-true i j r) in
        ne_eqb (slice_index_or (numbers named) j x) (slice_index_or (numbers named) i x) (λ e. eqb-false (slice_index_or (numbers named) i x) (slice_index_or (numbers named) j x) k (sym e))
    at false q false r =
        let m = ltb-false j i q in
        let n = ltb-false i j r in
        absurd (other (omega (arith, m, n)))

-- pipes of the first so many named, with the pipe of the next, are those of one more
pub one_more : (ps : List Pipe) (p : Pipe) (named : List Dlci) (i : ℕ) (d : Dlci) → i < length named → connections ps ≡ numbers (take i named) → p.watch.dlci ≡ (slice_index_or named i d).number → connections (ps ++ p ∷ []) ≡ numbers (take (i + 1) named)
one_more ps p named i d there those is =
    map-append (λ (q : Pipe). q.watch.dlci) ps (p ∷ [])
    ∙ (ap (λ cs. cs ++ p.watch.dlci ∷ []) those
    ∙ (ap (λ e. numbers (take i named) ++ e ∷ []) is
    ∙ sym (map_more (λ (c : Dlci). c.number) named i d there)))

-- new pipes, with one more that nothing has passed yet, are new
pub each_more : (role : Role) (ps : List Pipe) (p : Pipe) (e : ℕ) → All (λ (q : Pipe). (n1 : ℕ) → PipeFits role n1 q.watch.dlci q []) ps → BeginsPipe role e p → p.watch.dlci ≡ e → All (λ (q : Pipe). (n1 : ℕ) → PipeFits role n1 q.watch.dlci q []) (ps ++ p ∷ [])
unfolding BeginsPipe
each_more role ps p e each begins is = All-push (λ (q : Pipe). (n1 : ℕ) → PipeFits role n1 q.watch.dlci q []) ps p each (λ n1. subst (λ d. PipeFits role n1 d p []) (sym is) (begins n1))

-- pipes of the first so many named, where that is all, are those of all named
pub those_all : (ps : List Pipe) (named : List Dlci) (n : ℕ) → length named ≤ n → connections ps ≡ numbers (take n named) → connections ps ≡ numbers named
those_all ps named n all those = those ∙ ap numbers (take_all n named all)

-- if none of those named is 0, the one at a place isn't
pub no_control : (named : List Dlci) (i : ℕ) (d : Dlci) → i < length named → ((j x : ℕ) → j < length named → (slice_index_or (numbers named) j x == 0) ≡ false) → ((slice_index_or named i d).number == 0) ≡ false
no_control named i d there none = ap (λ n. n == 0) (sym (named_at named i d 0 there)) ∙ none i 0 there
