use Rattle.std.proofs.Common.{◌≡◌, ◌≤◌, ◌-◌, ◌%◌, ◌∙◌, ap, length, arith, rules, subst, sym}
use Rattle.std.specs.Prelude.{slice_index}
use Rattle.mux_frame.specs.Deframing.{next_in}
use Rattle.mux_frame.specs.Judged.{IsAtPlace}
use Rattle.mux_frame.proofs.candidates.Headers.{front_parts, front_view}
use Rattle.mux_frame.proofs.judge.front_frame.Goals as goal

pub slice_bounds-result-count : goal.slice_bounds-result-count
slice_bounds-result-count c =
    let left = c.split_at.result.1.now in
    let at_place : IsAtPlace c.args.n1 left c.args.check_place = subst (λ u. IsAtPlace c.args.n1 u c.args.check_place) (sym c.split_at.ensures.back) c.requires.at_place in
    let n : 4 ≤ length left = subst (λ u. 4 ≤ length u) (sym c.split_at.ensures.back) (search rules) in
    let p = front_parts c.args.n1 left at_place.header at_place.decision n in
    let e = c.from-size.ensures in
    let s = p.size in
    let l = at_place.place_is in
    omega (arith, e, s, l)

pub slice_bounds-result-start : goal.slice_bounds-result-start
slice_bounds-result-start c =
    let left = c.split_at.result.1.now in
    let at_place : IsAtPlace c.args.n1 left c.args.check_place = subst (λ u. IsAtPlace c.args.n1 u c.args.check_place) (sym c.split_at.ensures.back) c.requires.at_place in
    let n : 4 ≤ length left = subst (λ u. 4 ≤ length u) (sym c.split_at.ensures.back) (search rules) in
    let p = front_parts c.args.n1 left at_place.header at_place.decision n in
    let e = c.from-size.ensures in
    let s = p.size in
    let l = at_place.place_is in
    omega (arith, e, s, l)

pub returns : goal.returns
returns c =
    let left = c.split_at.result.1.now in
    let at_place : IsAtPlace c.args.n1 left c.args.check_place = subst (λ u. IsAtPlace c.args.n1 u c.args.check_place) (sym c.split_at.ensures.back) c.requires.at_place in
    let n : 4 ≤ length left = subst (λ u. 4 ≤ length u) (sym c.split_at.ensures.back) (search rules) in
    let s : 4 - c.from-size.result ≡ 4 - slice_index left 3 % 2 = ap (λ i. 4 - i) c.from-size.ensures in
    front_view c.args.n1 c.args.check_place (4 - c.from-size.result) left c.unwrap_or.result c.kind_of.result at_place n c.unwrap_or.ensures c.kind_of.ensures s ∙ ap (next_in c.args.n1) c.split_at.ensures.back
