-- A refusal says its number.
use Rattle.std.specs.Prelude.{◌≡◌, ◌⊎◌, ◌<◌, ◌≤◌, ◌+◌, ℕ, length, refl, true}
use Rattle.std.proofs.Common.{subst, arith}
use Rattle.modem_data.specs.DataLanes.{most_to_go}
use Rattle.mux_station.specs.Opening.{is_open}
use Rattle.modem_data.specs.Switching.{takes_given}
use Rattle.modem_data.specs.Passing.{carries, to_go, wire}
use Rattle.modem_data.specs.PipeSets.{OfEachPast}
use Rattle.modem_data_c.proofs.Refusals.{IsTurnedDown, turned_down}
use Rattle.modem_data_c.proofs.sending.send.Goals as goal

pub returns-in-Err : goal.returns-in-Err
returns-in-Err c =
    let why = c.in-Err.why in
    let pipes = c.args.relay.now.pipes in
    let number = c.in-Some.ensures.number in
    let down : IsTurnedDown pipes c.args.dlci c.number.result = turned_down pipes _ c.args.dlci c.number.result _ why refl c.number.ensures number c.in-Err.ensures.not_data c.in-Err.ensures.not_open c.in-Err.ensures.takes_none c.in-Err.ensures.named c.in-Err.ensures.open_there c.in-Err.ensures.others in
    let near : c.args.dlci < 62 = subst (λ (d : ℕ). d < 62) number c.in-Some.dlci.in_range in
    record {
      ok = λ q. absurd (down.not_ok q);
      taken = λ q. absurd (down.not_ok q);
      rest = λ q. absurd (down.not_ok q);
      some = λ q. absurd (down.not_ok q);
      all = λ q. absurd (down.not_ok q);
      few = λ q. absurd (down.not_ok q);
      behind = λ q. absurd (down.not_ok q);
      bad = (λ q. absurd (down.not_bad q), λ far. absurd (omega (arith, near, far)));
      not_data = down.not_data;
      not_open = down.not_open;
      takes_none = down.takes_none;
      lets = λ q. absurd (down.not_ok q);
      named = down.named;
      open_there = down.open_there;
      refused = λ q. c.in-Err.ensures.err.0;
      room = λ q. c.in-Err.ensures.err.1;
      same = λ q. refl;
      others = λ a b. down.others;
    }

pub returns-in-Ok-clause-lets : goal.returns-in-Ok-clause-lets
returns-in-Ok-clause-lets c = λ e. subst (λ (d : ℕ). OfEachPast c.args.relay.now.pipes (λ role past. (is_open role d (wire past) ≡ true) × (takes_given (carries role d past) ≡ true))) c.in-Some.ensures.number c.in-Ok.ensures.lets

pub returns-in-Ok-clause-rest : goal.returns-in-Ok-clause-rest
returns-in-Ok-clause-rest c = λ e fewer. subst (λ (d : ℕ). (length c.args.room.now < c.in-Ok.done.count + (c.args.relay.now.outer.n1 + 7)) ⊎ OfEachPast c.args.relay.now.pipes (λ role past. most_to_go ≤ to_go d past + c.in-Ok.done.taken)) c.in-Some.ensures.number (c.in-Ok.ensures.rest fewer)
