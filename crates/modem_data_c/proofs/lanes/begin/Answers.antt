-- A refusal says its number.
use Rattle.std.specs.Prelude.{◌≡◌, ◌≢◌, ◌<◌, ℕ, false, Err, refl}
use Rattle.std.proofs.Common.{ap, sym, ◌∙◌, subst, arith}
use Rattle.modem_data.specs.declared.error.DataError.{DataError}
use Rattle.modem_data.specs.declared.error.DataError.TheVariants.{NotData, UnderWay, Unread}
use Rattle.modem_data.specs.Switching.{Idle, is_idle}
use Rattle.modem_data.specs.Passing.{carries, data_came, data_read}
use Rattle.modem_data.specs.PipeSets.{IsNotData, OfEachPast}
use Rattle.modem_data_c.proofs.Numbered.{IsOneOf, one_of, not_ok, not_bad, the_last, is_not_data, is_under_way, is_unread}
use Rattle.modem_data_c.proofs.lanes.begin.Goals as goal

pub returns-in-Err : goal.returns-in-Err
returns-in-Err c =
    let why : DataError = c.in-Err.why in
    let pipes = c.args.relay.now.pipes in
    let number = c.in-Some.ensures.number in
    let one : IsOneOf 6 7 8 c.number.result = one_of _ why NotData UnderWay Unread c.number.result refl c.number.ensures c.in-Err.ensures.others in
    let near : c.args.dlci < 62 = subst (λ (d : ℕ). d < 62) number c.in-Some.dlci.in_range in
    record {
      ok = λ q. absurd (not_ok 6 7 8 c.number.result (omega arith) (omega arith) (omega arith) one q);
      bad = (λ q. absurd (not_bad 6 7 8 c.number.result (omega arith) (omega arith) (omega arith) one q), λ far. absurd (omega (arith, near, far)));
      not_data = λ q. subst (λ (d : ℕ). IsNotData pipes d) number (c.in-Err.ensures.not_data (ap (λ (e : DataError). Err e) (is_not_data why (sym c.number.ensures ∙ q))));
      under_way = λ q. subst (λ (d : ℕ). OfEachPast pipes (λ role past. is_idle (carries role d past) ≡ false)) number (c.in-Err.ensures.under_way (ap (λ (e : DataError). Err e) (is_under_way why (sym c.number.ensures ∙ q))));
      unread = λ q. subst (λ (d : ℕ). OfEachPast pipes (λ role past. (carries role d past ≡ Idle) × (data_read d past ≢ data_came role d past))) number (c.in-Err.ensures.unread (ap (λ (e : DataError). Err e) (is_unread why (sym c.number.ensures ∙ q))));
      refused = λ q. c.in-Err.ensures.err;
      others = λ a b. the_last 6 7 8 c.number.result one;
    }
