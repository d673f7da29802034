-- What callers were told, one more line or one more caller.
use Rattle.std.specs.Prelude.{◌≡◌, ℕ, suc, ◌+◌, ◌<◌, List, [], ◌∷◌, ◌++◌, length, map, take, slice_index_or, vec_items}
use Rattle.std.proofs.Common.{ap, ◌∙◌, sym, arith, append_assoc}
use Rattle.std.proofs.lemmas.List.{append-nil, length-map, length-take-le, map-append}
use Rattle.std.proofs.Math.Seq.{take-suc}
use Rattle.std.specs.declared.vec.Vec.{Vec}
use Rattle.std.specs.declared.alloc.Global.{Global}
use Rattle.modem_desk.specs.declared.request.Outcome.{Outcome}
use Rattle.ctl_text.specs.Texts.{told_text}
use Rattle.ctl_run.specs.Shown.{callers_from, told_from}

-- a caller's next outcome is printed behind its others, for its next line
pub told_more : (caller place : ℕ) (outcomes : List Outcome) (o : Outcome) → told_from caller place (outcomes ++ o ∷ []) ≡ told_from caller place outcomes ++ told_text caller (place + length outcomes) o.answer
told_more caller place [] o = let e : place + 0 ≡ place = omega arith in rw e (append-nil (told_text caller place o.answer))
told_more caller place (x ∷ outcomes) o =
    let e : place + 1 + length outcomes ≡ place + length (x ∷ outcomes) = omega arith in
    let later = told_more caller (place + 1) outcomes o in
    ap (λ t. told_text caller place x.answer ++ t) later ∙ sym (append_assoc (told_text caller place x.answer) (told_from caller (place + 1) outcomes) (told_text caller (place + 1 + length outcomes) o.answer))
    ∙ ap (λ n. (told_text caller place x.answer ++ told_from caller (place + 1) outcomes) ++ told_text caller n o.answer) e

-- the next caller's outcomes are printed behind those of the others
pub callers_more : (caller : ℕ) (all : List (List Outcome)) (outcomes : List Outcome) → callers_from caller (all ++ outcomes ∷ []) ≡ callers_from caller all ++ told_from (caller + length all) 1 outcomes
callers_more caller [] outcomes = let e : caller + 0 ≡ caller = omega arith in rw e (append-nil (told_from caller 1 outcomes))
callers_more caller (x ∷ all) outcomes =
    let e : caller + 1 + length all ≡ caller + length (x ∷ all) = omega arith in
    let later = callers_more (caller + 1) all outcomes in
    ap (λ t. told_from caller 1 x ++ t) later ∙ sym (append_assoc (told_from caller 1 x) (callers_from (caller + 1) all) (told_from (caller + 1 + length all) 1 outcomes))
    ∙ ap (λ n. (told_from caller 1 x ++ callers_from (caller + 1) all) ++ told_from n 1 outcomes) e

take_one_more : {A : Type 0} (all : List A) (i : ℕ) (x : A) → i < length all → x ≡ slice_index_or all i x → take (i + 1) all ≡ take i all ++ x ∷ []
take_one_more all i x lt is =
    let e : i + 1 ≡ suc i = omega arith in
    ap (λ n. take n all) e ∙ take-suc all i x lt ∙ ap (λ y. take i all ++ y ∷ []) (sym is)

taken_long : {A : Type 0} (all : List A) (i : ℕ) → i < length all → length (take i all) ≡ i
taken_long all i lt = length-take-le i all (omega (arith, lt))

-- the same of the first of all its outcomes
pub told_next : (caller : ℕ) (all : List Outcome) (i : ℕ) (o : Outcome) → i < length all → o ≡ slice_index_or all i o → told_from caller 1 (take (i + 1) all) ≡ told_from caller 1 (take i all) ++ told_text caller (i + 1) o.answer
told_next caller all i o lt is =
    let long = taken_long all i lt in
    let e : 1 + length (take i all) ≡ i + 1 = omega (arith, long) in
    ap (told_from caller 1) (take_one_more all i o lt is) ∙ told_more caller 1 (take i all) o ∙ ap (λ n. told_from caller 1 (take i all) ++ told_text caller n o.answer) e

abbrev lists_in : List (Vec Outcome Global) → List (List Outcome)
lists_in all = map vec_items all

-- and of the first of all callers
pub callers_next : (all : List (Vec Outcome Global)) (i : ℕ) (v : Vec Outcome Global) → i < length all → v ≡ slice_index_or all i v → callers_from 0 (map vec_items (take (i + 1) all)) ≡ callers_from 0 (map vec_items (take i all)) ++ told_from i 1 (vec_items v)
callers_next all i v lt is =
    let long = taken_long all i lt in
    let maps : length (lists_in (take i all)) ≡ length (take i all) = length-map (take i all) vec_items in
    let e : 0 + length (lists_in (take i all)) ≡ i = omega (arith, long, maps) in
    ap (λ (l : List (Vec Outcome Global)). callers_from 0 (map vec_items l)) (take_one_more all i v lt is)
    ∙ ap (callers_from 0) (map-append vec_items (take i all) (v ∷ []))
    ∙ callers_more 0 (lists_in (take i all)) (vec_items v)
    ∙ ap (λ n. callers_from 0 (lists_in (take i all)) ++ told_from n 1 (vec_items v)) e
