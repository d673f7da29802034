-- At most one probe is in hand, counted by steps.
use Rattle.std.specs.Prelude.{◌≡◌, ℕ, ◌+◌, ◌≤◌, List, [], ◌∷◌, refl}
use Rattle.std.proofs.Common.{ap, sym, subst}
use Rattle.modem_desk.specs.declared.request.Request.{Request}
use Rattle.modem_history.specs.Acts.{Act, in_hand}
use Rattle.modem_history.specs.Calls.{Setting, asks_probe}
use Rattle.modem_core.specs.Cores.{IsRun}
use Rattle.modem_history.proofs.outcomes.OutcomeCounts.{one}
use Rattle.modem_core.proofs.probes.ProbesInHand.{probes_in, few_in_hand}

-- how many of them are probes
abbrev pub probes : List Request → ℕ
probes [] = 0
probes (r ∷ rs) = one (asks_probe r.ask) + probes rs

counted_alike : (rs : List Request) → probes rs ≡ probes_in rs
unfolding probes_in
counted_alike [] = refl
counted_alike (r ∷ rs) = ap (λ (n : ℕ). one (asks_probe r.ask) + n) (counted_alike rs)

-- after each history of whole calls one probe at most is in hand
pub one_probe : (s : Setting) (past : List Act) → IsRun s past → probes (in_hand past) ≤ 1
one_probe s past r = subst (λ (n : ℕ). n ≤ 1) (sym (counted_alike (in_hand past))) (few_in_hand s past r)
