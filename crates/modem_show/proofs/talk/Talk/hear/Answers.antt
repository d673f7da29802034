-- The octets go one after the other.
use Rattle.std.specs.Prelude.{◌≡◌, ◌∷◌, ◌+◌, ◌<◌, length, drop}
use Rattle.std.proofs.Common.{drop-cons, add-one, get_or}
use Rattle.at_text.specs.Rules.{dialect_of}
use Rattle.modem_show.proofs.Hearing.{kept_on, told_on}
use Rattle.modem_show.proofs.talk.Talk.hear.Goals as goal

pub loop-octet-preserved : goal.loop-octet-preserved
loop-octet-preserved c =
    let i = c.loop-octet.octet-index in
    let all = c.args.octets.now in
    let inside : i < length all = c.loop-octet-test.true in
    let split : drop i all ≡ get_or all i 0 ∷ drop (i + 1) all = rw (add-one, drop-cons all i 0) in
    record {
      kept = kept_on (dialect_of c.args.dialect.now) c.args.direction c.loop-octet.self c.push.new.self c.args.self.now (get_or all i 0) (drop i all) (drop (i + 1) all) all split c.in_ok-push.ensures.kept c.loop-octet.invariant.kept;
      told = told_on (dialect_of c.args.dialect.now) c.args.direction c.loop-octet.self c.push.new.self c.args.self.now (get_or all i 0) (drop i all) (drop (i + 1) all) all c.loop-octet.out.items c.push.new.out.items c.args.out.now.items split c.in_ok-push.ensures.kept c.in_ok-push.ensures.told c.loop-octet.invariant.told;
    }
