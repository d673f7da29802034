-- A line is lost only by its own faults, and is offered what waits for it.
use Rattle.std.specs.Prelude.{◌≡◌, ◌≢◌, ◌⊎◌, ℕ, ◌+◌, ◌≤◌, ◌<◌, Bool, true, false, nat_lt, List, length, None, refl}
use Rattle.std.proofs.Common.{ap, sym, ◌∙◌, subst, inl, inr, arith}
use Rattle.serial_line.specs.LineViews.{LineView, after_fault, after_read, after_write}
use Rattle.modem_data.specs.Hops.{Relay}
use Rattle.std.proofs.lemmas.Bool.{lt-ltb}
use Rattle.serial_line.specs.Counts.{one_more}
use Rattle.modem_data_line.specs.DataLines.{DataLineState}
use Rattle.modem_data_line.specs.Moving.{IsLostBy, IsOffered, NothingGoes}

-- nothing happens to it
pub lost_none : {X : Type 0} (look : X → LineView) (v : DataLineState X) → IsLostBy look v v
lost_none look v = record { more = omega (arith); by_fault = λ e. inl e }

-- nothing failed, and nothing is newly lost
pub lost_sound : {X : Type 0} (look : X → LineView) (v w : DataLineState X) → (look w.line).failures ≡ (look v.line).failures → w.is_lost ≡ v.is_lost → IsLostBy look v w
lost_sound look v w e q = record { more = omega (arith, e); by_fault = λ l. inl (sym q ∙ l) }

-- the line was written to
pub lost_wrote : {X : Type 0} (look : X → LineView) (v w : DataLineState X) (n : ℕ) (octets : List ℕ) → look w.line ≡ after_write n octets (look v.line) → w.is_lost ≡ v.is_lost → IsLostBy look v w
lost_wrote look v w n octets took q = lost_sound look v w (ap (λ (l : LineView). l.failures) took) q

-- it was read
pub lost_read : {X : Type 0} (look : X → LineView) (v w : DataLineState X) (n : ℕ) (octets : List ℕ) → look w.line ≡ after_read 512 n octets (look v.line) → w.is_lost ≡ v.is_lost → IsLostBy look v w
lost_read look v w n octets gave q = lost_sound look v w (ap (λ (l : LineView). l.failures) gave) q

-- a call of the line failed
pub lost_fault : {X : Type 0} (look : X → LineView) (v w : DataLineState X) → look w.line ≡ after_fault (look v.line) → IsLostBy look v w
lost_fault look v w fault =
    let e : (look w.line).failures ≡ (look v.line).failures + 1 = ap (λ (l : LineView). l.failures) fault in
    record { more = omega (arith, e); by_fault = λ l. inr (omega (arith, e)) }

either_fault : {P : Type 0} (a b c : ℕ) → a ≤ b → b ≤ c → P ⊎ (a < b) → P ⊎ (a < c)
either_fault a b c x y (inl p) = inl p
either_fault a b c x y (inr l) = inr (omega (arith, l, y))

then_fault : {P Q : Type 0} (a b c : ℕ) → a ≤ b → b ≤ c → (P → Q ⊎ (a < b)) → P ⊎ (b < c) → Q ⊎ (a < c)
then_fault a b c x y on (inl p) = either_fault a b c x y (on p)
then_fault a b c x y on (inr l) = inr (omega (arith, x, l))

-- it is lost by one of two steps, or by neither
pub lost_then : {X : Type 0} (look : X → LineView) (u v w : DataLineState X) → IsLostBy look u v → IsLostBy look v w → IsLostBy look u w
lost_then look u v w one two = record {
  more = let a = one.more in let b = two.more in omega (arith, a, b);
  by_fault = λ l. then_fault (look u.line).failures (look v.line).failures (look w.line).failures one.more two.more one.by_fault (two.by_fault l);
}

-- ## What waits

by_try : {X : Type 0} (look : X → LineView) (u v : X) (r : Relay) → ((look v).stalled_writes ≡ one_more (look u).stalled_writes) ⊎ NothingGoes true r → (false ≡ true) ⊎ (IsOffered look u v ⊎ NothingGoes true r)
by_try look u v r (inl stalled) = inr (inl (inr stalled))
by_try look u v r (inr nothing) = inr (inr nothing)

-- by what a write answered
pub offered_first : {X : Type 0} (look : X → LineView) (u v : X) (lost : Bool) (r : Relay) (some : Bool) → (some ≡ true → (look v).sent ≢ (look u).sent)
    → (some ≡ false → lost ≡ false → ((look v).stalled_writes ≡ one_more (look u).stalled_writes) ⊎ NothingGoes true r) → (lost ≡ true) ⊎ (IsOffered look u v ⊎ NothingGoes true r)
offered_first look u v true r some grew tried = inl refl
offered_first look u v false r true grew tried = inr (inl (inl (grew refl)))
offered_first look u v false r false grew tried = by_try look u v r (tried refl refl)

refutes : (r : Relay) → NothingGoes true r → (0 < length r.to_line) ⊎ (r.inner.next ≢ None) → ⊥
refutes r n (inl waits) = let none = n.0 in omega (arith, none, waits)
refutes r n (inr at_hand) = at_hand n.1

-- u, before; v, behind the first write; x, behind all, where nothing was taken
pub offered_stuck : {X : Type 0} (look : X → LineView) (u v x : DataLineState X) → (v.is_lost ≡ true) ⊎ (IsOffered look u.line v.line ⊎ NothingGoes true v.relay)
    → x.line ≡ v.line → x.is_lost ≡ v.is_lost → x.relay ≡ v.relay → (0 < length x.relay.to_line) ⊎ (x.relay.inner.next ≢ None) → (x.is_lost ≡ true) ⊎ IsOffered look u.line x.line
offered_stuck look u v x (inl lost) l q r stuck = inl (q ∙ lost)
offered_stuck look u v x (inr (inl offered)) l q r stuck = inr (subst (λ k. IsOffered look u.line k) (sym l) offered)
offered_stuck look u v x (inr (inr nothing)) l q r stuck = absurd (refutes x.relay (subst (λ (k : Relay). NothingGoes true k) (sym r) nothing) stuck)

-- a driver that offered some octets, none of which was taken, is behind
pub behind_of : (n len : ℕ) → n ≡ 0 → 0 < len → nat_lt n len ≡ true
behind_of n len e some = lt-ltb n len (omega (arith, e, some))

-- what was offered between two states was offered between two that are the same
pub offered_or : {X : Type 0} (look : X → LineView) (k l m n : X) (was now : Bool) → l ≡ k → n ≡ m → now ≡ was → (was ≡ true) ⊎ IsOffered look l m → (now ≡ true) ⊎ IsOffered look k n
offered_or look k l m n was now a b c (inl lost) = inl (c ∙ lost)
offered_or look k l m n was now a b c (inr offered) = inr (subst (λ (y : _). IsOffered look y n) a (subst (λ (y : _). IsOffered look l y) (sym b) offered))
