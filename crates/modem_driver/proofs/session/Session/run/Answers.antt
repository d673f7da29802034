-- What the turns of a poll lead to.
use Rattle.std.proofs.Common.{◌≡◌, ◌∙◌, ◌+◌, ◌≤◌, ap, subst, sym, true, false}
use Rattle.std.specs.Prelude.{refl, if◌then◌else◌, Ok, Err, Bool}
use Rattle.modem_driver.specs.declared.session.ending.Ended.TheVariants.{Stopped}
use Rattle.modem_driver.specs.declared.session.polling.Progress.{Progress}
use Rattle.modem_driver.specs.declared.session.polling.Progress.TheVariants as progress
use Rattle.modem_driver.specs.SessionStates.{SessionState, TakesMore}
use Rattle.modem_driver.specs.Polls.{SaysEnd, SessionGoesOn, has_ended, with_end}
use Rattle.modem_driver.proofs.sessions.polls.Polls.{ended_says, ends_failing, ends_stopped, failing_says, goes_then}
use Rattle.modem_driver.proofs.session.Session.run.Goals as goal

-- what is given where it has ended, and where it hasn't
abbrev given_where : (more ended : Bool) → Progress
given_where more ended = if ended then progress.Ended (Ok Stopped) else if more then progress.More else progress.Idle

pub returns-then-has_ended-clause-polls : goal.returns-then-has_ended-clause-polls
returns-then-has_ended-clause-polls g c =
    let ended : has_ended c.turns.new.self.machine ≡ true = sym c.has_ended.ensures ∙ c.if-has_ended.true in
    record { mid = c.turns.new.self; ran = Ok c.in-Ok.more; runs = c.in-Ok.ensures.runs; given_is = sym (ap (given_where c.in-Ok.more) ended); stays = c.keep_end.ensures }

pub returns-then-has_ended-clause-goes : goal.returns-then-has_ended-clause-goes
returns-then-has_ended-clause-goes g c =
    let look = g.L.SerialLine.seen in
    let mid = c.turns.new.self in
    let ended : has_ended mid.machine ≡ true = sym c.has_ended.ensures ∙ c.if-has_ended.true in
    subst (SessionGoesOn look c.args.self.now) (sym c.keep_end.ensures) (goes_then look c.args.self.now mid (with_end (Ok Stopped) mid) c.in-Ok.ensures.goes (ends_stopped look mid ended))

pub returns-then-has_ended-clause-says : goal.returns-then-has_ended-clause-says
returns-then-has_ended-clause-says g c =
    let look = g.L.SerialLine.seen in
    let mid = c.turns.new.self in
    subst (λ (s : SessionState g.row.L.Denot). SaysEnd look s (Ok Stopped)) (sym c.keep_end.ensures) (ended_says look (with_end (Ok Stopped) mid) (Ok Stopped) refl)

pub returns-then-more-clause-polls : goal.returns-then-more-clause-polls
returns-then-more-clause-polls g c =
    let not_yet : has_ended c.turns.new.self.machine ≡ false = sym c.has_ended.ensures ∙ c.if-has_ended.false in
    let all : c.in-Ok.more ≡ true = c.if-more.true in
    record { mid = c.turns.new.self; ran = Ok c.in-Ok.more; runs = c.in-Ok.ensures.runs; given_is = sym (ap (given_where c.in-Ok.more) not_yet ∙ ap (λ (m : Bool). given_where m false) all); stays = refl }

pub returns-else-more-clause-polls : goal.returns-else-more-clause-polls
returns-else-more-clause-polls g c =
    let not_yet : has_ended c.turns.new.self.machine ≡ false = sym c.has_ended.ensures ∙ c.if-has_ended.false in
    let few : c.in-Ok.more ≡ false = c.if-more.false in
    record { mid = c.turns.new.self; ran = Ok c.in-Ok.more; runs = c.in-Ok.ensures.runs; given_is = sym (ap (given_where c.in-Ok.more) not_yet ∙ ap (λ (m : Bool). given_where m false) few); stays = refl }

pub returns-in-Err : goal.returns-in-Err
returns-in-Err g c =
    let look = g.L.SerialLine.seen in
    let old = c.args.self.now in
    let mid = c.turns.new.self in
    let why = c.in-Err.why in
    let kept = c.keep_end-in-Err.ensures in
    let goes : SessionGoesOn look old (with_end (Err why) mid) = goes_then look old mid (with_end (Err why) mid) c.in-Err.ensures.goes (ends_failing look mid why c.in-Err.ensures.lost) in
    let Few : SessionState g.row.L.Denot → Type 0 = λ s. (g.L.SerialLine.seen s.line).calls ≤ (g.L.SerialLine.seen old.line).calls + 128 in
    record {
      polls = record { mid = mid; ran = Err why; runs = c.in-Err.ensures.runs; given_is = refl; stays = kept };
      goes = subst (SessionGoesOn look old) (sym kept) goes;
      says = subst (λ (s : SessionState g.row.L.Denot). SaysEnd look s (Err why)) (sym kept) (failing_says look mid why);
      bounded = subst Few (sym kept) c.in-Err.ensures.bounded;
      takes = subst (λ (s : SessionState g.row.L.Denot). TakesMore old.driver s.driver) (sym kept) c.in-Err.ensures.takes;
      beyond = ap (λ (s : SessionState g.row.L.Denot). g.L.SerialLine.other_side s.line) kept ∙ c.turns.ensures.beyond;
    }
