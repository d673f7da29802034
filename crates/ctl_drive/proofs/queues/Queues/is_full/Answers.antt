-- One queue is full.
use Rattle.std.specs.Prelude.{◌≡◌, ℕ, nat_le, List, length}
use Rattle.std.specs.List.{list_any}
use Rattle.std.specs.VecDeque.{deque_items, deque_len}
use Rattle.std.specs.declared.alloc.Global.{Global}
use Rattle.std.specs.declared.collections.VecDeque.{VecDeque}
use Rattle.std.proofs.Common.{ap, rules, tests, ◌∙◌}
use Rattle.std.proofs.lemmas.Iterator.{YieldsList-from_slice}
use Rattle.std.proofs.lemmas.Iterator.Search.{any_from_yields_List}
use Rattle.ctl_drive.proofs.QueueTexts.{any_same}
use Rattle.ctl_drive.proofs.queues.Queues.is_full.Goals as goal

as_many : (q : VecDeque (List ℕ) Global) → nat_le 1024 (deque_len q) ≡ nat_le 1024 (length (deque_items q))
as_many q = ap (nat_le 1024) q.ok.0

pub returns : goal.returns
returns c =
    any_from_yields_List (λ q. nat_le 1024 (deque_len q)) _ _ _ c.any.ensures.ran (YieldsList-from_slice c.self.inside.lines cc) (λ x b q k. search (rules, tests))
    ∙ any_same deque_items (λ q. nat_le 1024 (deque_len q)) (λ texts. nat_le 1024 (length texts)) as_many c.self.inside.lines
    ∙ ap (list_any (λ (texts : List (List ℕ)). nat_le 1024 (length texts))) c.self.view_is
