-- Octets that were read of a connection and wait for its file.
use Rattle.std.specs.Prelude.{◌≡◌, ◌⊎◌, ℕ, ◌+◌, ◌-◌, ◌<◌, ◌≤◌, Result, Err, false, List, ◌++◌, drop, take, length, min}
use Rattle.std.proofs.Common.{ap, sym, ◌∙◌, subst, arith, inl, inr, take-append-drop, true≢false}
use Rattle.std.proofs.lemmas.List.{append_assoc, length-append, length-take, take_min}
use Rattle.mux_station.specs.Opening.{is_open}
use Rattle.modem_data.specs.declared.error.DataError.{DataError}
use Rattle.modem_data.specs.declared.error.DataError.TheVariants as error
use Rattle.modem_data.specs.DataLanes.{most_to_go}
use Rattle.modem_data.specs.Switching.{takes_given}
use Rattle.modem_data.specs.Passing.{Gave, Read, carries, given, left, to_go, unread, wire}
use Rattle.modem_data.specs.PipeSets.{IsNotData, OfEachPast, PipeSet}
use Rattle.modem_data.specs.Hops.{Hops, Passed, Relay}
use Rattle.data_files.specs.Moves.{GaveFirst, GivesOn, IsUnread}

-- of a room for 512 octets
in_room : (n : ℕ) (octets : List ℕ) → length octets ≡ 512 → take (min n 512) octets ≡ take n octets
in_room n octets e = ap (λ (k : ℕ). take (min n k) octets) (sym e) ∙ take_min n octets

-- what is read into such a room are its first octets, 512 at most
pub reads_512 : (old new : Relay) (d n : ℕ) (octets : List ℕ) → length octets ≡ 512 → Hops old new (Passed (Read d (take n octets)))
    → Hops old new (Passed (Read d (take (min n 512) octets)))
reads_512 old new d n octets e h = subst (λ (xs : List ℕ). Hops old new (Passed (Read d xs))) (sym (in_room n octets e)) h

-- they are as many as were unread, up to 512
pub counts_512 : (pipes : PipeSet) (d n m : ℕ) (octets : List ℕ) → length octets ≡ 512 → m ≡ 512 → OfEachPast pipes (λ role past. n ≡ min (unread role d past) m)
    → IsUnread pipes d (length (take (min n 512) octets))
unfolding OfEachPast IsUnread
counts_512 pipes d n m octets e q h role n1 ds past fits =
    let count = h role n1 ds past fits in
    let long = length-take (min n 512) octets in
    omega (arith, count, long, e, q)

-- what a file has taken, and what is left for it, are together what they were
pub splits : (a b xs ys : List ℕ) (n : ℕ) → b ≡ a ++ take n xs → ys ≡ drop n xs → b ++ ys ≡ a ++ xs
splits a b xs ys n went rest =
    ap (λ (l : List ℕ). l ++ ys) went ∙ (ap (λ (l : List ℕ). (a ++ take n xs) ++ l) rest ∙ (append_assoc a (take n xs) (drop n xs) ∙ ap (λ (l : List ℕ). a ++ l) (take-append-drop n xs)))

-- one that took some has taken more
pub grew : (a b xs : List ℕ) (n : ℕ) → b ≡ a ++ take n xs → n ≤ length xs → 0 < n → length a < length b
grew a b xs n e few some =
    let part = length-take n xs in
    let long : length b ≡ length a + length (take n xs) = ap length e ∙ length-append a (take n xs) in
    omega (arith, part, long, few, some)

-- ## Octets that wait to be given

-- of the octets that wait the connection took the first, and the others are left
pub gave_first : (old new : Relay) (d n k : ℕ) (before after : List ℕ) → Hops old new (Passed (Gave d (take n before))) → k ≡ min n (length before)
    → after ≡ drop k before → GaveFirst old new d before after
gave_first old new d n k before after h least rest = record {
  octets = take n before;
  split = sym (take-append-drop k before) ∙ (ap (λ (xs : List ℕ). xs ++ drop k before) (ap (λ (m : ℕ). take m before) least ∙ take_min n before) ∙ ap (λ (xs : List ℕ). take n before ++ xs) (sym rest));
  gave = h;
}

-- a call that was Ok gave as many as there was room for
pub gives_ok : (pipes : PipeSet) (d n k : ℕ) (before after : List ℕ)
    → OfEachPast pipes (λ role past. n ≡ min (length before) (most_to_go - (length (given d past) - length (left d past)))) → k ≡ min n (length before) → after ≡ drop k before
    → GivesOn pipes d before after
unfolding OfEachPast
gives_ok pipes d n k before after h least rest = inr (λ role n1 ds past fits carried may.
    let count = h role n1 ds past fits in
    rest ∙ ap (λ (m : ℕ). drop m before) (let both : k ≡ min (length before) (most_to_go - to_go d past) = omega (arith, count, least) in both))

-- one that was refused gave none, since the connection is none of them, is shut, or takes none
pub gives_err : (pipes : PipeSet) (d : ℕ) (before : List ℕ) (r : Result ℕ DataError)
    → (r ≡ Err error.NotData) ⊎ ((r ≡ Err error.NotOpen) ⊎ (r ≡ Err error.Lines)) → (r ≡ Err error.NotData → IsNotData pipes d)
    → (r ≡ Err error.NotOpen → OfEachPast pipes (λ role past. is_open role d (wire past) ≡ false))
    → (r ≡ Err error.Lines → OfEachPast pipes (λ role past. takes_given (carries role d past) ≡ false)) → GivesOn pipes d before before
unfolding OfEachPast
gives_err pipes d before r (inl x) none shut lines = inl (none x)
gives_err pipes d before r (inr (inl x)) none shut lines = inr (λ role n1 ds past fits carried may. absurd (true≢false (sym may ∙ shut x role n1 ds past fits)))
gives_err pipes d before r (inr (inr x)) none shut lines = inr (λ role n1 ds past fits carried may. absurd (true≢false (sym carried ∙ lines x role n1 ds past fits)))
