use Rattle.std.proofs.Common.{rules, ◌≡◌, ◌+◌, ◌<◌, ◌≤◌, Bool, true, false, true≢false, List, [], ◌∷◌, ◌++◌, length, sym, ap, ◌∙◌, subst, refl, append_assoc, length-append, arith}
use Rattle.std.specs.Prelude.{All}
use Rattle.std.proofs.lemmas.List.Elements.{All-push}
use Rattle.crossbeam_queue.specs.Passes.{view}
use Rattle.modem_desk.specs.declared.rule.View.{View}
use Rattle.modem_desk.specs.declared.request.Request.{Request}
use Rattle.modem_desk.specs.Rule.{AllLeft, DrainsOne}
use Rattle.modem_desk.proofs.queue_rule.RuleSteps.{drains, ends}
use Rattle.modem_desk.proofs.settling.drain.Goals as goal

pub pop_as-requires-clause-rule : goal.pop_as-requires-clause-rule
pop_as-requires-clause-rule g c = let i = c.loop.invariant in (drains _ _ i.drives i.all_left, ends _ _ i.drives)

few : (counted : Bool) (n rest : List Request) (waiting : List Request) (x : Request) → (counted ≡ true → length n + length waiting ≤ 64) → (counted ≡ false → n ≡ []) → (counted ≡ true → waiting ≡ x ∷ rest) → length rest + 1 ≤ 64
    → length (n ++ x ∷ []) + length rest ≤ 64
few true n rest waiting x begun fresh is lt = let b = begun refl in let e : length waiting ≡ length (x ∷ rest) = ap (length {A = Request}) (is refl) in omega (arith, length-append n (x ∷ []))
few false n rest waiting x begun fresh is lt = let e : length n ≡ 0 = ap (length {A = Request}) (fresh refl) in omega (arith, length-append n (x ∷ []))

pub loop-preserved : goal.loop-preserved
loop-preserved g c =
    let i = c.loop.invariant in
    let d : DrainsOne (view c.loop.pass) c.in-Some-pop_as.request (view c.pop_as.new.pass) = c.in-Some-pop_as.ensures.rule in
    let w = d.1 in
    let pushed : c.push.new.self.items ≡ c.loop.left.items ++ c.in-Some-pop_as.request ∷ [] = rw c.unwrap.ensures at c.push.ensures.items in
    record {
      of_queue = search rules;
      drives = ap (λ (v : View). v.drives) w;
      all_left = λ n lt. subst AllLeft (sym w) i.all_left n lt;
      known = ap (λ (v : View). v.known) w ∙ i.known;
      taken = ap (λ (v : View). v.taken) w ∙ ap (λ (l : List Request). l ++ c.in-Some-pop_as.request ∷ []) i.taken ∙ append_assoc (view c.args.pass.now).taken c.loop.left.items (c.in-Some-pop_as.request ∷ []) ∙ ap (λ (l : List Request). (view c.args.pass.now).taken ++ l) (sym pushed);
      given = ap (λ (v : View). v.given) w ∙ i.given;
      below = subst (λ (l : List Request). All (λ r. r.caller < (view c.args.pass.now).given) l) (sym pushed)
          (All-push (λ r. r.caller < (view c.args.pass.now).given) c.loop.left.items c.in-Some-pop_as.request i.below (subst (λ n. c.in-Some-pop_as.request.caller < n) i.given d.2));
      room = search rules;
      begun = λ e. rw (pushed, ap (λ (v : View). v.waiting) w) (few (view c.loop.pass).counted c.loop.left.items d.0 (view c.loop.pass).waiting c.in-Some-pop_as.request i.begun i.fresh d.4 (let h = d.3 in omega arith));
      fresh = λ e. absurd (true≢false (sym (ap (λ (v : View). v.counted) w) ∙ e));
    }
