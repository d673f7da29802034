-- The line that waited first is handed out.
use Rattle.std.proofs.Common.{◌≡◌, ◌++◌, ◌∙◌, ap, List, ℕ, length, drop, subst, arith}
use Rattle.modem_c.specs.Texts.{IsLineHead}
use Rattle.modem_c.proofs.Firsts.{first_is}
use Rattle.modem_c.proofs.lines.hand.Goals as goal

pub returns-clause-ok : goal.returns-clause-ok
returns-clause-ok c _ =
    let line = c.in-Some.line in
    let octets = c.as_slice.result.now in
    let room = c.args.text.now in
    let at = c.put.ensures.place in
    let place : c.put.result ≡ length octets = omega (arith, at) in
    let placed : c.put.new.room ≡ octets ++ drop (length octets) room = c.put.ensures.room ∙ ap (λ (n : ℕ). octets ++ drop n room) place in
    record {
      line = line;
      gives = c.in-Some.ensures;
      head = first_is (IsLineHead c.show-shown.new.head) _ _ line c.in-Some.ensures.first (c.show-shown.ensures.ok (search));
      room = subst (λ (t : List ℕ). c.put.new.room ≡ t ++ drop (length t) room) c.as_slice.ensures placed;
    }
