-- The `>` is there.
use Rattle.std.proofs.Common.{rules, ◌≡◌, ◌+◌, ◌-◌, ◌==◌, drop, take, length, subst}
use Rattle.std.specs.Prelude.{true, slice_index_or}
use Rattle.modem_data.specs.Prompts.{may_prompt}
use Rattle.modem_data.proofs.Prompting.{found_here, rest_all}
use Rattle.modem_data.proofs.switch.find_prompt.Goals as goal

pub returns-then-may_prompt-clause-there : goal.returns-then-may_prompt-clause-there
returns-then-may_prompt-clause-there c = λ near.
    let octets = c.args.octets.now in
    let place = c.loop-place.place in
    let begins : c.loop-place.starts ≡ true = search rules in
    let octet : (slice_index_or octets place 0 == 62) ≡ true = search rules in
    let cut : may_prompt (take (length octets - (place + 1)) (drop (place + 1) octets)) ≡ true = search rules in
    let may = subst (λ t. may_prompt t ≡ true) (rest_all octets (place + 1)) cut in
    found_here c.args.starts c.loop-place.starts octets place 0 near begins octet may c.loop-place.invariant.behind c.loop-place.invariant.stands
