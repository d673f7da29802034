-- Each queue is empty.
use Rattle.std.specs.Prelude.{◌≡◌, ℕ, ◌==◌, true, List, []}
use Rattle.std.specs.VecDeque.{deque_items, deque_len}
use Rattle.std.specs.declared.alloc.Global.{Global}
use Rattle.std.specs.declared.collections.VecDeque.{VecDeque}
use Rattle.std.proofs.Common.{eqb-true, rules, subst, sym, tests, ◌∙◌}
use Rattle.std.proofs.lemmas.List.{nil_from_length}
use Rattle.std.proofs.lemmas.Iterator.{YieldsList-from_slice}
use Rattle.std.proofs.lemmas.Iterator.Search.{all_from_yields_List}
use Rattle.ctl_drive.specs.Asking.{waits_at}
use Rattle.ctl_drive.proofs.QueueTexts.{all_empty}
use Rattle.ctl_drive.proofs.queues.Queues.is_empty.Goals as goal

none_in : (q : VecDeque (List ℕ) Global) → (deque_len q == 0) ≡ true → deque_items q ≡ []
none_in q e = nil_from_length (deque_items q) (sym q.ok.0 ∙ eqb-true (deque_len q) 0 e)

pub returns : goal.returns
returns c empty =
    subst (λ (w : List (List (List ℕ))). (d : ℕ) → waits_at w d ≡ []) c.self.view_is
    (all_empty deque_items (λ q. deque_len q == 0) none_in c.self.inside.lines
    (sym (all_from_yields_List (λ q. deque_len q == 0) _ _ _ c.all.ensures.ran (YieldsList-from_slice c.self.inside.lines cc) (λ x b q k. search (rules, tests))) ∙ empty))
