-- No line end is above CR.
use Rattle.std.proofs.Common.{rules, tests, ◌≡◌, ℕ, length, ◌∙◌, ap}
use Rattle.std.specs.Option.{unwrap_or}
use Rattle.std.specs.List.{position, prefix_len}
use Rattle.std.specs.Prelude.{nat_le, not, take}
use Rattle.std.proofs.lemmas.Iterator.{YieldsList-from_slice}
use Rattle.std.proofs.lemmas.Iterator.Search.{position_from_yields_List}
use Rattle.at_text.proofs.dialects.Naming.{place_or_length}
use Rattle.at_text.proofs.lines.UnfinishedLines.{has_end}
use Rattle.at_text.proofs.lines.KeptOctets.{low_first}
use Rattle.at_text.proofs.reader.ones_len.Goals as goal

pub returns-clause-before : goal.returns-clause-before
returns-clause-before c =
    let octets = c.args.octets.now in
    let test = λ (x : ℕ). nat_le x 13 in
    let place : c.position.result ≡ position test octets = position_from_yields_List test _ _ c.position.result c.position.ensures.ran (YieldsList-from_slice octets cc) (λ x b q k. search (rules, tests)) in
    let given : c.unwrap_or.result ≡ unwrap_or c.position.result (length octets) = search rules in
    let is : c.unwrap_or.result ≡ prefix_len (λ x. not (nat_le x 13)) octets = given ∙ ap (λ o. unwrap_or o (length octets)) place ∙ place_or_length test octets in
    ap (λ (n : ℕ). has_end (take n octets)) is ∙ low_first octets
