-- The worked places of a request and the worked order of commands, computed by the definitions.
use Rattle.std.proofs.Common.{ap, sym, ◌∙◌, arith}
use Rattle.std.proofs.lemmas.List.{append_assoc, length-append, map-append}
use Rattle.std.proofs.lemmas.List.Elements.{filter-append}
use Rattle.std.specs.Prelude.{◌≡◌, ℕ, suc, List, [], ◌∷◌, ◌++◌, length, map, take, refl}
use Rattle.modem_desk.specs.declared.request.Request.{Request}
use Rattle.modem_history.specs.Information.{command_on}
use Rattle.modem_history.specs.Wholes.{commands_for}
use Rattle.modem_history.proofs.rows.SessionTests.{octets_differ}
use Rattle.modem_driver.specs.HeadlineRows.{AreRight, AreWrong, IsOtherOrder, right_places, wrong_places}

-- in each of the right rows the request has one place
pub all_right_places : AreRight right_places
all_right_places = (refl, (refl, (refl, tt)))

-- in none of the wrong ones
pub all_wrong_places : AreWrong wrong_places
all_wrong_places =
    ((λ h. omega (arith, h)), ((λ h. omega (arith, h)), ((λ h. omega (arith, h)), ((λ h. omega (arith, h)), ((λ h. omega (arith, h)), ((λ h. omega (arith, h)), ((λ h. omega (arith, h)), ((λ h. omega (arith, h)), tt))))))))

-- commands accepted in another order than they were submitted are refused
pub other_order : IsOtherOrder
unfolding IsOtherOrder
other_order h = wrong_way (of_numbers h.before) (of_numbers h.later) joins
  where
    of_numbers : List Request → List ℕ
    of_numbers qs = map (λ (q : Request). q.number) (commands_for 1 qs)

    both : (xs ys : List Request) → of_numbers (xs ++ ys) ≡ of_numbers xs ++ of_numbers ys
    both xs ys = ap (map (λ (q : Request). q.number)) (filter-append (λ (q : Request). command_on 1 q.ask) xs ys) ∙ map-append (λ (q : Request). q.number) (commands_for 1 xs) (commands_for 1 ys)

    joins : 3 ∷ 4 ∷ [] ≡ of_numbers h.before ++ 4 ∷ 3 ∷ of_numbers h.later
    joins =
        ap of_numbers h.submitted_are
        ∙ (both (h.before ++ h.stretch) h.later
        ∙ (ap (λ (ns : List ℕ). ns ++ of_numbers h.later) (both h.before h.stretch ∙ ap (λ (ns : List ℕ). of_numbers h.before ++ ns) (sym (ap (map (λ (q : Request). q.number)) h.commands_are)))
        ∙ append_assoc (of_numbers h.before) (4 ∷ 3 ∷ []) (of_numbers h.later)))

    wrong_way : (xs ys : List ℕ) → 3 ∷ 4 ∷ [] ≡ xs ++ 4 ∷ 3 ∷ ys → ⊥
    wrong_way [] ys e = octets_differ (3 ∷ []) (4 ∷ []) refl (ap (take 1) e)
    wrong_way (x ∷ xs) ys e = let size = ap length e ∙ ap suc (length-append xs (4 ∷ 3 ∷ ys)) in omega arith
