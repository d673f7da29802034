-- A read that counted gave octets, or none.
use Rattle.std.specs.Prelude.{◌≡◌, ◌≢◌, ◌==◌, ◌<◌, ◌≤◌, true, false, nat_lt, ◌⊎◌, ℕ, List, [], ◌∷◌, ◌++◌, length, take, drop, min, None, refl}
use Rattle.std.proofs.Common.{ap, sym, ◌∙◌, inl, inr, arith, zero, suc, true≢false}
use Rattle.std.proofs.Math.Seq.{take-length}
use Rattle.std.proofs.lemmas.List.{nil_from_length}
use Rattle.std.proofs.lemmas.Bool.{eqb-true, lt-ltb}
use Rattle.serial_line.specs.Counts.{one_more, counted_if_none}
use Rattle.serial_line.specs.LineViews.{LineView, after_read}
use Rattle.modem_data_line.specs.DataLines.{DataLineState}
use Rattle.modem_data_line.specs.Moving.{IsAsked}

grown_differs : (xs : List ℕ) (y : ℕ) (ys : List ℕ) → xs ++ (y ∷ ys) ≢ xs
grown_differs [] y ys e = cc
grown_differs (x ∷ xs) y ys e = grown_differs xs y ys (ap (λ (l : List ℕ). drop 1 l) e)

-- octets that a line took are more than it had taken
pub sent_more : (xs ys zs : List ℕ) (n : ℕ) → zs ≡ xs ++ take n ys → n ≤ length ys → 0 < n → zs ≢ xs
sent_more xs ys zs zero e few some = let no : ⊥ = omega (arith, some) in absurd no
sent_more xs [] zs (suc n) e few some = let no : ⊥ = omega (arith, few) in absurd no
sent_more xs (y ∷ ys) zs (suc n) e few some = λ q. grown_differs xs y (take n ys) (sym e ∙ q)

asked : (r0 r1 unfed : List ℕ) (n e0 e1 : ℕ) → r1 ≡ r0 ++ unfed → n ≡ length unfed → e1 ≡ counted_if_none 512 n e0 → (r1 ≢ r0) ⊎ (e1 ≡ one_more e0)
asked r0 r1 [] n e0 e1 cm c e = inr (e ∙ ap (λ (k : ℕ). counted_if_none 512 k e0) c)
asked r0 r1 (y ∷ ys) n e0 e1 cm c e = inl (λ q. grown_differs r0 y ys (sym cm ∙ q))

-- all octets that a read gave came
pub all_came : {X : Type 0} (look : X → LineView) (old new : X) (unfed : List ℕ) (n : ℕ) → look new ≡ after_read 512 n unfed (look old) → n ≡ length unfed
    → (look new).received ≡ (look old).received ++ unfed
all_came look old new unfed n gave c =
    ap (λ (l : LineView). l.received) gave
    ∙ (ap (λ (k : ℕ). (look old).received ++ take k unfed) c ∙ ap (λ (xs : List ℕ). (look old).received ++ xs) (take-length unfed))

-- a read of the line, into a room of 512 octets, gave some, or had none and was counted
pub is_asked : {X : Type 0} (look : X → LineView) (old new : X) (unfed : List ℕ) (n : ℕ) → look new ≡ after_read 512 n unfed (look old) → n ≡ length unfed → IsAsked look old new
is_asked look old new unfed n gave c =
    asked (look old).received (look new).received unfed n (look old).empty_reads (look new).empty_reads (all_came look old new unfed n gave c) c
    (ap (λ (l : LineView). l.empty_reads) gave)

-- octets that came are some
pub some_came : {X : Type 0} (look : X → LineView) (old new : X) (unfed : List ℕ) (n : ℕ) → look new ≡ after_read 512 n unfed (look old) → n ≡ length unfed → 0 < n → (look new).received ≢ (look old).received
some_came look old new [] n gave c some = let no : ⊥ = omega (arith, c, some) in absurd no
some_came look old new (y ∷ ys) n gave c some = λ q. grown_differs (look old).received y ys (sym (all_came look old new (y ∷ ys) n gave c) ∙ q)

-- a read that gave none was counted
pub none_came : {X : Type 0} (look : X → LineView) (old new : X) (unfed : List ℕ) (n : ℕ) → look new ≡ after_read 512 n unfed (look old) → nat_lt 0 n ≡ false → (look new).empty_reads ≡ one_more (look old).empty_reads
none_came look old new unfed zero gave none = ap (λ (l : LineView). l.empty_reads) gave
none_came look old new unfed (suc n) gave none = absurd (true≢false (sym (lt-ltb 0 (suc n) (omega (arith))) ∙ none))

-- octets whose count is 0 are none
pub none_left : (xs : List ℕ) → (length xs == 0) ≡ true → xs ≡ []
none_left xs e = nil_from_length xs (eqb-true (length xs) 0 e)

none_first : (xs ys : List ℕ) → (xs ≢ [] → ys ≡ xs) → ys ≡ [] → xs ≡ []
none_first [] ys still none = refl
none_first (x ∷ xs) ys still none = let q : [] ≡ x ∷ xs = sym none ∙ still (λ e. cc) in cc

none_by_count : (xs : List ℕ) (n k : ℕ) → n ≡ min (length xs) k → n ≡ 0 → 0 < k → xs ≡ []
none_by_count [] n k e z some = refl
none_by_count (x ∷ xs) n k e z some = let no : ⊥ = omega (arith, e, z, some) in absurd no

asked_from : {X : Type 0} (look : X → LineView) (l m n k : X) → (look m).received ≡ (look l).received → (look m).empty_reads ≡ (look l).empty_reads → k ≡ n → IsAsked look m n → IsAsked look l k
asked_from look l m n k a b q (inl differs) = inl (λ z. differs (sym (ap (λ x. (look x).received) q) ∙ (z ∙ sym a)))
asked_from look l m n k a b q (inr one) = inr (ap (λ x. (look x).empty_reads) q ∙ (one ∙ ap one_more b))

-- what was asked between two states was asked between two whose lines had given, and counted, as much
pub asked_or : {X : Type 0} (look : X → LineView) (u v w x : DataLineState X) → (look v.line).received ≡ (look u.line).received → (look v.line).empty_reads ≡ (look u.line).empty_reads → x.line ≡ w.line → x.is_lost ≡ w.is_lost
    → (w.is_lost ≡ true) ⊎ IsAsked look v.line w.line → (x.is_lost ≡ true) ⊎ IsAsked look u.line x.line
asked_or look u v w x a b l lost (inl q) = inl (lost ∙ q)
asked_or look u v w x a b l lost (inr q) = inr (asked_from look u.line v.line w.line x.line a b l q)

-- v, behind a write; w, behind a read; x, behind handing on
pub asked_by_count : {X : Type 0} (look : X → LineView) (u v w x : DataLineState X) (n k : ℕ) → n ≡ min (length w.relay.to_driver) k → n ≡ 0 → 0 < k
    → (look v.line).received ≡ (look u.line).received → (look v.line).empty_reads ≡ (look u.line).empty_reads → v.unfed ≡ u.unfed → x.line ≡ w.line → x.is_lost ≡ w.is_lost → (v.relay.to_driver ≢ [] → w ≡ v)
    → (v.relay.to_driver ≡ [] → v.unfed ≡ [] → (w.is_lost ≡ true) ⊎ IsAsked look v.line w.line) → u.unfed ≡ []
    → (x.is_lost ≡ true) ⊎ IsAsked look u.line x.line
asked_by_count look u v w x n k c z some a b un l lost still asks none =
    let empty = none_by_count w.relay.to_driver n k c z some in
    let first = none_first v.relay.to_driver w.relay.to_driver (λ q. ap (λ (y : DataLineState _). y.relay.to_driver) (still q)) empty in
    asked_or look u v w x a b l lost (asks first (un ∙ none))

-- where none went on to the driver, and octets still wait for the relay, a frame is at hand there
pub blocked_by_count : {X : Type 0} (v w x : DataLineState X) (n k : ℕ) → n ≡ min (length w.relay.to_driver) k → n ≡ 0 → 0 < k
    → x.unfed ≡ w.unfed → x.relay.outer ≡ w.relay.outer → (v.relay.to_driver ≢ [] → w ≡ v)
    → (v.relay.to_driver ≡ [] → w.unfed ≢ [] → w.relay.outer.next ≢ None) → x.unfed ≢ [] → x.relay.outer.next ≢ None
blocked_by_count v w x n k c z some un out still blocks waits =
    let empty = none_by_count w.relay.to_driver n k c z some in
    let first = none_first v.relay.to_driver w.relay.to_driver (λ q. ap (λ (y : DataLineState _). y.relay.to_driver) (still q)) empty in
    λ q. blocks first (λ e. waits (un ∙ e)) (sym (ap (λ d. d.next) out) ∙ q)
