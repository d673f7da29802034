use Rattle.std.proofs.Common.{◌++◌, ◌∷◌, []}
use Rattle.ctl_text.proofs.Written.{appends_more, begun_after, begun_first}
use Rattle.ctl_text.proofs.writing.put_line.Goals as goal

pub returns-then-not-write_text-2-clause-part : goal.returns-then-not-write_text-2-clause-part
returns-then-not-write_text-2-clause-part g c =
    begun_first _ _ (c.args.first.now ++ c.args.second.now ++ c.args.third.now) (10 ∷ [])
    (begun_first _ _ (c.args.first.now ++ c.args.second.now) c.args.third.now
    (begun_after _ (g.W.Write.contents c.write_text.new.output) _ c.args.first.now c.args.second.now (c.write_text.ensures.whole cc) c.write_text-2.ensures.part))

pub returns-then-not-write_text-3-clause-part : goal.returns-then-not-write_text-3-clause-part
returns-then-not-write_text-3-clause-part g c =
    begun_first _ _ (c.args.first.now ++ c.args.second.now ++ c.args.third.now) (10 ∷ [])
    (begun_after _ (g.W.Write.contents c.write_text-2.new.output) _ (c.args.first.now ++ c.args.second.now) c.args.third.now
    (appends_more _ (g.W.Write.contents c.write_text.new.output) _ c.args.first.now c.args.second.now (c.write_text.ensures.whole cc) (c.write_text-2.ensures.whole cc))
    c.write_text-3.ensures.part)

pub returns-clause-part : goal.returns-clause-part
returns-clause-part g c =
    begun_after _ (g.W.Write.contents c.write_text-3.new.output) _ (c.args.first.now ++ c.args.second.now ++ c.args.third.now) (10 ∷ [])
    (appends_more _ (g.W.Write.contents c.write_text-2.new.output) _ (c.args.first.now ++ c.args.second.now) c.args.third.now
    (appends_more _ (g.W.Write.contents c.write_text.new.output) _ c.args.first.now c.args.second.now (c.write_text.ensures.whole cc) (c.write_text-2.ensures.whole cc))
    (c.write_text-3.ensures.whole cc))
    c.write_text-4.ensures.part

pub returns-clause-whole : goal.returns-clause-whole
returns-clause-whole g c whole =
    appends_more _ (g.W.Write.contents c.write_text-3.new.output) _ (c.args.first.now ++ c.args.second.now ++ c.args.third.now) (10 ∷ [])
    (appends_more _ (g.W.Write.contents c.write_text-2.new.output) _ (c.args.first.now ++ c.args.second.now) c.args.third.now
    (appends_more _ (g.W.Write.contents c.write_text.new.output) _ c.args.first.now c.args.second.now (c.write_text.ensures.whole cc) (c.write_text-2.ensures.whole cc))
    (c.write_text-3.ensures.whole cc))
    (c.write_text-4.ensures.whole whole)
