-- Why data wasn't taken, by its number.
use Rattle.std.specs.Prelude.{◌≡◌, ◌⊎◌, ℕ, false, true, Result, Err}
use Rattle.std.proofs.Common.{ap, sym, ◌∙◌, subst, inl, inr, arith}
use Rattle.mux_station.specs.Opening.{is_open}
use Rattle.modem_data.specs.declared.error.DataError.{DataError}
use Rattle.modem_data.specs.declared.error.DataError.TheVariants.{NotData, NotOpen, Lines}
use Rattle.modem_data.specs.DataErrors.{data_error_number}
use Rattle.modem_data.specs.Switching.{takes_given}
use Rattle.modem_data.specs.Passing.{carries, wire}
use Rattle.modem_data.specs.PipeSets.{PipeSet, HasPipe, IsNotData, OfEachPast}
use Rattle.modem_data_c.proofs.Numbered.{IsOneOf, one_of, not_ok, not_bad, the_last, is_not_data, is_not_open, is_lines}

-- what a number says of the connection, where data wasn't taken for it
pub record IsTurnedDown (pipes : PipeSet) (d n : ℕ) : Type 0 where
  pub not_ok : n ≡ 0 → ⊥
  pub not_bad : n ≡ 18 → ⊥
  pub not_data : n ≡ 6 → IsNotData pipes d
  pub not_open : n ≡ 9 → OfEachPast pipes (λ role past. is_open role d (wire past) ≡ false)
  pub takes_none : n ≡ 10 → OfEachPast pipes (λ role past. takes_given (carries role d past) ≡ false)
  pub named : (n ≡ 9) ⊎ (n ≡ 10) → HasPipe pipes d
  pub open_there : n ≡ 10 → OfEachPast pipes (λ role past. is_open role d (wire past) ≡ true)
  pub others : (n ≡ 6 → ⊥) → (n ≡ 9 → ⊥) → n ≡ 10

-- it is the number of the relay's refusal, which says the same
pub turned_down : {A : Type 0} (pipes : PipeSet) (d e n : ℕ) (r : Result A DataError) (why : DataError) → r ≡ Err why → n ≡ data_error_number why → d ≡ e → (r ≡ Err NotData → IsNotData pipes d) → (r ≡ Err NotOpen → OfEachPast pipes (λ role past. is_open role d (wire past) ≡ false)) → (r ≡ Err Lines → OfEachPast pipes (λ role past. takes_given (carries role d past) ≡ false)) → ((r ≡ Err NotOpen) ⊎ (r ≡ Err Lines) → HasPipe pipes d) → (r ≡ Err Lines → OfEachPast pipes (λ role past. is_open role d (wire past) ≡ true)) → (r ≡ Err NotData) ⊎ ((r ≡ Err NotOpen) ⊎ (r ≡ Err Lines)) → IsTurnedDown pipes e n
turned_down pipes d e n r why is number same shown shut none has up others =
    let one : IsOneOf 6 9 10 n = one_of r why NotData NotOpen Lines n is number others in
    record {
      not_ok = not_ok 6 9 10 n (omega arith) (omega arith) (omega arith) one;
      not_bad = not_bad 6 9 10 n (omega arith) (omega arith) (omega arith) one;
      not_data = λ q. subst (λ (c : ℕ). IsNotData pipes c) same (shown (is ∙ ap (λ (x : DataError). Err x) (is_not_data why (sym number ∙ q))));
      not_open = λ q. subst (λ (c : ℕ). OfEachPast pipes (λ role past. is_open role c (wire past) ≡ false)) same (shut (is ∙ ap (λ (x : DataError). Err x) (is_not_open why (sym number ∙ q))));
      takes_none = λ q. subst (λ (c : ℕ). OfEachPast pipes (λ role past. takes_given (carries role c past) ≡ false)) same (none (is ∙ ap (λ (x : DataError). Err x) (is_lines why (sym number ∙ q))));
      named = λ q. subst (λ (c : ℕ). HasPipe pipes c) same (has (by q));
      open_there = λ q. subst (λ (c : ℕ). OfEachPast pipes (λ role past. is_open role c (wire past) ≡ true)) same (up (is ∙ ap (λ (x : DataError). Err x) (is_lines why (sym number ∙ q))));
      others = the_last 6 9 10 n one;
    }
  where
    by : (n ≡ 9) ⊎ (n ≡ 10) → (r ≡ Err NotOpen) ⊎ (r ≡ Err Lines)
    by (inl q) = inl (is ∙ ap (λ (x : DataError). Err x) (is_not_open why (sym number ∙ q)))
    by (inr q) = inr (is ∙ ap (λ (x : DataError). Err x) (is_lines why (sym number ∙ q)))
