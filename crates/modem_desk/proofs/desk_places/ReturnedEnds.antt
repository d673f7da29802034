-- One more caller, or listener, has left.
use Rattle.std.proofs.Common.{◌≡◌, ℕ, ◌<◌, List, [], ◌∷◌, ◌++◌, length, map, sym, refl, ap, ◌∙◌, subst, ⊎_elim, arith}
use Rattle.std.specs.Prelude.{slice_index_or, All, ◌==◌}
use Rattle.std.proofs.lemmas.List.Elements.{filter-append}
use Rattle.std.proofs.lemmas.List.{append-nil, get_or_push, get_or_append_left}
use mathlib.Core.Option.{some}
use lib.ListN.{get_elem?}
use Rattle.crossbeam_queue.proofs.Lists.{at_map}
use Rattle.modem_desk.specs.declared.request.Outcome.{Outcome}
use Rattle.modem_desk.specs.declared.request.Request.{Request}
use Rattle.modem_desk.specs.declared.request.Urc.{Urc}
use Rattle.modem_desk.specs.declared.rule.Known.{Known}
use Rattle.modem_desk.specs.declared.rule.View.{View}
use Rattle.modem_desk.specs.Books.{DeskBooks}
use Rattle.modem_desk.specs.Ends.{CallerView, ListenerView, DriverView, DeskId, Each, IsNumbered}
use Rattle.modem_desk.specs.Rule.{AllLeft, driver, of_caller}
use Rattle.modem_desk.specs.Settling.{known_of, AreWhole, HeldFor, HeardBy}
use Rattle.modem_desk.proofs.queue_rule.CallerPasses.{at_end, below_length}

module _ {A : Type 0} where
  -- the element after those that came
  pub comes : (came rest all : List A) (a : A) → came ++ (a ∷ rest) ≡ all → get_elem? all (length came) ≡ some a
  comes [] rest all a e = ap (λ (l : List A). get_elem? l 0) (sym e)
  comes (x ∷ came) rest all a e = subst (λ (l : List A). get_elem? l (length (x ∷ came)) ≡ some a) e (comes came rest (came ++ (a ∷ rest)) a refl)

  -- where no rest is left, those that came are all
  pub all_came : (came rest all : List A) → came ++ rest ≡ all → length rest ≡ 0 → came ≡ all
  all_came came [] all e none = sym (append-nil came) ∙ e
  all_came came (x ∷ rest) all e none = absurd (omega arith)

  -- one element more
  pub each_more : (P : ℕ → A → Type 0) (xs : List A) (x : A) → Each P xs → P (length xs) x → Each P (xs ++ x ∷ [])
  each_more P xs x each new i a at = ⊎_elim (λ (q : get_elem? xs i ≡ some a). each i a q)
      (λ (q : (i ≡ length xs) × (x ≡ a)). subst (λ (y : ℕ × A). P y.0 y.1) (λ k. (sym q.0 k, q.1 k)) new)
      (at_end xs x a i at)

-- one caller more: what it took, and then what waited for it, is what it was told
pub held_more : (told : List (List Outcome)) (cs : List CallerView) (ws : List (List Outcome)) (c : CallerView) (w : List Outcome) → length ws ≡ length cs
    → HeldFor told cs ws → c.got ++ w ≡ slice_index_or told c.place.number [] → HeldFor told (cs ++ c ∷ []) (ws ++ w ∷ [])
held_more told cs ws c w long held new = each_more (λ i a. a.got ++ slice_index_or (ws ++ w ∷ []) i [] ≡ slice_index_or told a.place.number []) cs c
    (λ i a at.
    let lt : i < length ws = let h = below_length cs i a at in omega arith in
    ap (λ (l : List Outcome). a.got ++ l) (get_or_append_left ws (w ∷ []) [] i lt) ∙ held i a at)
    (ap (λ (l : List Outcome). c.got ++ l) (get_or_push ws w [] (length cs) long) ∙ new)

-- one listener more: what it took, and then what waited for it, is what was announced to it
pub heard_more : (announced : List (List Urc)) (ls : List ListenerView) (ws : List (List Urc)) (l : ListenerView) (w : List Urc) → length ws ≡ length ls
    → HeardBy announced ls ws → l.heard ++ w ≡ slice_index_or announced l.subscription.place [] → HeardBy announced (ls ++ l ∷ []) (ws ++ w ∷ [])
heard_more announced ls ws l w long heard new = each_more (λ i a. a.heard ++ slice_index_or (ws ++ w ∷ []) i [] ≡ slice_index_or announced a.subscription.place []) ls l
    (λ i a at.
    let lt : i < length ws = let h = below_length ls i a at in omega arith in
    ap (λ (k : List Urc). a.heard ++ k) (get_or_append_left ws (w ∷ []) [] i lt) ∙ heard i a at)
    (ap (λ (k : List Urc). l.heard ++ k) (get_or_push ws w [] (length ls) long) ∙ new)

-- when the callers at a whole desk have all left, the driver knows that of each number
pub all_left : (d : DeskId) (n : ℕ) (cs : List CallerView) (taken : List Request) → AreWhole d n cs → AllLeft (driver n taken (map known_of cs))
all_left d n cs taken whole k lt = let w = whole.1 k lt in (w.0, known_of w.1, at_map known_of cs w.0 w.1 w.2, w.3)

-- what the parts of a settlement found are the desk books
pub books : (d : DriverView) (cs : List CallerView) (ls : List ListenerView) (left : List Request) (untaken : List (List Outcome)) (unheard : List (List Urc)) (v : View)
    → v.taken ≡ d.taken → v.known ≡ map known_of cs → v.given ≡ length d.desk.rings
    → ((i : ℕ) (k : Known) → get_elem? v.known i ≡ some k → of_caller k.number (v.taken ++ left) ≡ k.submitted)
    → All (λ r. r.caller < v.given) left
    → Each (λ _ c. IsNumbered c.place.first c.submitted) cs
    → (length untaken ≡ length cs) × HeldFor d.told cs untaken → (length unheard ≡ length ls) × HeardBy d.announced ls unheard
    → DeskBooks d cs ls left untaken unheard
books d cs ls left untaken unheard v taken known given order below numbered held heard =
    record {
      callers = λ i c at. record {
        order = sym (filter-append (λ r. r.caller == c.place.number) d.taken left) ∙ ap (λ (l : List Request). of_caller c.place.number (l ++ left)) (sym taken)
            ∙ order i (known_of c) (ap (λ (l : List Known). get_elem? l i) known ∙ at_map known_of cs i c at);
        numbered = numbered i c at;
        outcomes = held.1 i c at;
      };
      listeners = λ i l at. record { lines = heard.1 i l at };
      one_each = (held.0, heard.0);
      of_callers = subst (λ n. All (λ r. r.caller < n) left) given below;
    }
