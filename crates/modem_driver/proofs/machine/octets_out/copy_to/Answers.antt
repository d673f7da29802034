-- What stands behind the octets copied stays.
use Rattle.std.proofs.Common.{◌≡◌, ◌+◌, ◌++◌, ℕ, List, length, drop, ap, sym, ◌∙◌, subst}
use Rattle.std.proofs.Math.Seq.{drop-append_seam}
use Rattle.std.proofs.lemmas.List.{drop-drop}
use Rattle.modem_driver.proofs.machine.octets_out.copy_to.Goals as goal

past_front : (n : ℕ) (xs ys : List ℕ) → length xs ≡ n → drop n (xs ++ ys) ≡ ys
past_front n xs ys e = subst (λ (m : ℕ). drop m (xs ++ ys) ≡ ys) e (drop-append_seam xs ys)

behind : (p n : ℕ) (room f g back rest : List ℕ) → length f ≡ p → length g ≡ n → back ≡ drop p room → rest ≡ drop n back → drop (p + n) (f ++ (g ++ rest)) ≡ drop (p + n) room
behind p n room f g back rest front_len copied_len back_is rest_is =
    sym (drop-drop n p (f ++ (g ++ rest)))
    ∙ (ap (drop n) (past_front p f (g ++ rest) front_len)
    ∙ (past_front n g rest copied_len
    ∙ (rest_is
    ∙ (ap (drop n) back_is ∙ drop-drop n p room))))

pub returns-clause-behind : goal.returns-clause-behind
returns-clause-behind c =
    behind c.args.place c.min-count.result c.args.room.now c.split_at_mut-back.result.0.now c.copy_from_slice.new.self c.split_at_mut-back.result.1.now c.split_at_mut-front.result.1.now c.split_at_mut-back.ensures.front_len (c.copy_from_slice.ensures.len ∙ c.split_at_mut-front.ensures.front_len) c.split_at_mut-back.ensures.back c.split_at_mut-front.ensures.back
