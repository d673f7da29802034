-- Requests that are taken, and refusals that change nothing.
use Rattle.std.specs.Prelude.{◌≡◌, ◌≢◌, ℕ, List, [], refl, Option, Some, None, Result, Ok, Err, IfOk, IfErr, MatchOption, MatchResult}
use Rattle.std.proofs.Common.{subst, sym, ◌∙◌, arith}
use Rattle.at_text.specs.declared.error.TextError.{TextError}
use Rattle.at_text.specs.declared.error.TextError.TheVariants.{NoMemory}
use Rattle.mux_frame.specs.declared.dlci.Dlci.{Dlci}
use Rattle.modem_desk.specs.declared.request.Ask.{Ask}
use Rattle.modem_desk.specs.declared.request.Ask.TheVariants.{Command}
use Rattle.modem_driver.specs.Endpoints.{EndpointState, LeadsOver, Numbers, Refuses}
use Rattle.modem_driver.specs.Numbers.{request_error_number}
use Rattle.modem_driver.specs.declared.endpoint.error.RequestError.{RequestError}
use Rattle.modem_c.specs.Calls.{HoldsSome, NumbersAt}

-- a request's number is that of a request for the connection of this number
pub numbers_at : {E : Type 0} (e f : EndpointState) (asks : Dlci → Ask) (d : Dlci) (r : Result ℕ E)
    → IfOk r (λ n. Numbers e f (asks d) n) → IfOk r (λ n. NumbersAt e f asks d.number n)
numbers_at e f asks d (Ok n) h = record { connection = d; is_it = refl; numbers = h }
numbers_at e f asks d (Err x) h = tt

err_no_ok : {A E : Type 0} {e : E} {x : A} → Err e ≡ Ok x → ⊥
err_no_ok e = subst (λ r. MatchResult r (λ y. ⊥) (λ y. Unit)) e tt

-- so is a command's, whatever else the call that took its text may be refused for
pub asks_text : {E F : Type 0} (e f : EndpointState) (text : List ℕ) (d : Dlci) (r : Result ℕ E) (s : Result ℕ F) (g : E → F)
    → IfOk r (λ n. Numbers e f (Command d text) n) → IfOk r (λ n. s ≡ Ok n) → IfErr r (λ x. s ≡ Err (g x))
    → IfOk s (λ n. NumbersAt e f (λ x. Command x text) d.number n)
asks_text e f text d (Ok n) s g h same other = subst (λ t. IfOk t (λ k. NumbersAt e f (λ x. Command x text) d.number k)) (sym same) (record { connection = d; is_it = refl; numbers = h })
asks_text e f text d (Err x) s g h same other = subst (λ t. IfOk t (λ k. NumbersAt e f (λ x. Command x text) d.number k)) (sym other) tt

-- the command line that was made is the text
pub line_is : (o : Option TextError) (r : Result (List ℕ) TextError) (text line : List ℕ)
    → MatchOption o (MatchResult r (λ l. l ≡ text) (λ e. e ≡ NoMemory)) (λ e. r ≡ Err e) → r ≡ Ok line → line ≡ text
line_is None r text line made is = subst (λ t. MatchResult t (λ l. l ≡ text) (λ e. e ≡ NoMemory)) is made
line_is (Some e) r text line refused is = absurd (err_no_ok (sym refused ∙ is))

-- an endpoint to which nothing happens has refused, and handled no frame
pub refuses_none : (e : EndpointState) → Refuses e e
unfolding LeadsOver
refuses_none e = record {
  number = refl;
  handles = λ l d. record { acts = []; leads = λ b past fit. fit; may = λ b past fit waiting. refl };
}

-- a driver that stays refused
pub stays_refused : (o : Option EndpointState) → o ≢ None → HoldsSome o (λ e. HoldsSome o (Refuses e))
stays_refused None some = absurd (some refl)
stays_refused (Some e) some = refuses_none e

-- what a driver held and holds, by its endpoints
pub goes_by : (p : EndpointState → EndpointState → Type 0) (old new : Option EndpointState) (e f : EndpointState)
    → old ≡ Some e → new ≡ Some f → p e f → HoldsSome old (λ x. HoldsSome new (p x))
goes_by p old new e f was is holds =
    subst (λ o. HoldsSome o (λ x. HoldsSome new (p x))) (sym was) (subst (λ o. HoldsSome o (p e)) (sym is) holds)

-- what is answered by 0 was taken
pub answered : (p : ℕ → Type 0) (r : Result ℕ RequestError) (answer number : ℕ) → IfOk r p → IfOk r (λ n. number ≡ n)
    → IfErr r (λ e. answer ≡ request_error_number e) → answer ≡ 0 → p number
answered p (Ok n) answer number holds is other zero = subst p (sym is) holds
answered p (Err RequestError.NoMemory) answer number holds is other zero = absurd (omega (arith, other, zero))
answered p (Err RequestError.Full) answer number holds is other zero = absurd (omega (arith, other, zero))
