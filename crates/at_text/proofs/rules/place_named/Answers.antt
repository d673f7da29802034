use Rattle.std.proofs.Common.{rules, tests, ◌≡◌, length, not, ◌∙◌, ap}
use Rattle.std.specs.Option.{unwrap_or}
use Rattle.std.specs.List.{position}
use Rattle.std.specs.Str.{bytes_eq}
use Rattle.std.proofs.lemmas.List.Sums.{prefix_len-le-length}
use Rattle.std.proofs.lemmas.Iterator.{YieldsList-from_slice}
use Rattle.std.proofs.lemmas.Iterator.Search.{position_from_yields_List}
use Rattle.at_text.specs.declared.rules.Urc.{Urc}
use Rattle.at_text.proofs.dialects.Naming.{place_or_length}
use Rattle.at_text.proofs.rules.place_named.Goals as goal

pub returns-clause-place : goal.returns-clause-place
returns-clause-place c =
    let test = λ (u : Urc). bytes_eq u.name c.args.name.now in
    let place : c.position-place.result ≡ position test c.args.urcs.now = position_from_yields_List test _ _ c.position-place.result c.position-place.ensures.ran (YieldsList-from_slice c.args.urcs.now cc) (λ x b q k. search (rules, tests)) in
    let given : c.unwrap_or.result ≡ unwrap_or c.position-place.result (length c.args.urcs.now) = search rules in
    given ∙ ap (λ o. unwrap_or o (length c.args.urcs.now)) place ∙ place_or_length test c.args.urcs.now

pub returns-clause-within : goal.returns-clause-within
returns-clause-within c = rw (returns-clause-place c) (prefix_len-le-length (λ u. not (bytes_eq u.name c.args.name.now)) c.args.urcs.now)
