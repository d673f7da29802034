use Rattle.std.proofs.Common.{◌≡◌, ◌<◌, ℕ, suc, List, [], ◌∷◌, length, map, get_or, refl, ap, ◌∙◌, arith}
use Rattle.std.specs.declared.thread.PromisedHandle.{PromisedHandle}
use Rattle.desk_tests.specs.declared.threads.SamePlace.{SamePlace}
use Rattle.modem_desk.specs.Ends.{CallerView, place_of}
use Rattle.desk_tests.proofs.threads.bring_back.Goals as goal

same_maps : {A B C : Type 0} (f : A → C) (g : B → C) (hs : List A) (rs : List B) → length rs ≡ length hs
    → ((i : ℕ) (d : B) → i < length hs → (h : A) × (h ≡ get_or hs i h) × (g (get_or rs i d) ≡ f h)) → map g rs ≡ map f hs
same_maps f g [] [] long each = refl
same_maps f g [] (r ∷ rs) long each = absurd (omega arith)
same_maps f g (h ∷ hs) [] long each = absurd (omega arith)
same_maps f g (h ∷ hs) (r ∷ rs) long each =
    let e = each 0 r (omega arith) in
    let head : g r ≡ f h = e.2 ∙ ap f e.1 in
    let tail = same_maps f g hs rs (omega arith) (λ i d lt. each (suc i) d (omega arith)) in
    λ k. head k ∷ tail k

pub returns : goal.returns
returns g c =
    let e = c.in_ok-join_promised.ensures in
    same_maps (λ (h : PromisedHandle CallerView SamePlace). h.promise.0.value.place) place_of c.args.out.items c.in_ok-join_promised.field-0.items (let h = e.len in omega arith)
    (λ i d lt. let k = (e.each i d (omega arith)).1 in (k.handle, k.handle_is, k.kept))
