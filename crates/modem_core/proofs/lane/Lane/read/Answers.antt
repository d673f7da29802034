-- A command is under way no more where its answer is whole.
use Rattle.std.proofs.Common.{◌∙◌, ap, sym, subst}
use Rattle.std.proofs.Math.Seq.{take-length}
use Rattle.std.specs.Prelude.{◌&&◌, is_some, is_none}
use Rattle.at_text.specs.Runs.{kept_in}
use Rattle.at_text.specs.UnderWay.{window_of}
use Rattle.modem_core.specs.Lanes.{Lane}
use Rattle.modem_core.specs.Reports.{Read, ReadsAll, reading_of}
use Rattle.modem_core.specs.Settling.{with_whole}
use Rattle.modem_core.proofs.lines.WholeAnswers.{heard_back, settled_done, settled_read}
use Rattle.modem_core.proofs.lane.Lane.read.Goals as goal

pub returns-in-Ok-clause-read : goal.returns-in-Ok-clause-read
returns-in-Ok-clause-read g c = λ owner.
    let k = c.self.inside in
    let command = c.args.reading.now.command.now in
    let heard = g.P.LineRoom.heard c.read_all.new.lines in
    let first : Read = record { kept = kept_in k.line; window = window_of command k.under_way; acts = g.P.LineRoom.heard c.args.lines.now } in
    let now : Lane = record { kept = kept_in c.read_all.new.line; under_way = c.read_all.new.under_way; held = k.held } in
    rw (← c.self.view_is)
    (subst (λ (x : Read). ReadsAll (reading_of owner c.args.reading.now) c.args.octets.now first x)
    (settled_read command owner c.read_all.new.answer now c.settle.new.self heard (with_whole owner c.settle.result heard) c.settle.ensures.lane (c.settle.ensures.acts owner command heard)) (c.in-Ok.ensures.read owner))

pub returns-in-Ok-clause-done : goal.returns-in-Ok-clause-done
returns-in-Ok-clause-done g c =
    let was = c.self.inside.under_way in
    let command = c.args.reading.now.command.now in
    rw (← c.self.view_is)
    (c.settle.ensures.some ∙ (settled_done command was c.read_all.new.under_way c.read_all.new.answer (g.P.LineRoom.heard c.read_all.new.lines) c.read_all.ensures.grows c.in-Ok.ensures.stands
    ∙ ap (λ (l : Lane). is_some was && is_none l.under_way) (sym c.settle.ensures.lane)))

pub returns-in-Ok-clause-within : goal.returns-in-Ok-clause-within
returns-in-Ok-clause-within g c = c.settle.ensures.within (window_of c.args.reading.now.command.now c.read_all.new.under_way) (g.P.LineRoom.heard c.read_all.new.lines) c.in-Ok.ensures.stands

pub returns-in-Err-clause-unheard : goal.returns-in-Err-clause-unheard
returns-in-Err-clause-unheard g c = heard_back (g.P.LineRoom.heard c.args.lines.now) (g.P.LineRoom.heard c.read_all.new.lines) (g.P.LineRoom.heard c.truncate.new.self) c.len-count.result c.len-count.ensures c.truncate.ensures
    (c.in-Err.ensures.begins (g.P.LineRoom.heard c.args.lines.now) (take-length (g.P.LineRoom.heard c.args.lines.now)))
