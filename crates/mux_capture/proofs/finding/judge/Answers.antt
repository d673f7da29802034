use Rattle.mux_capture.proofs.FirstFrames.{begins, is_other, is_text}
use Rattle.std.proofs.Common.{◌≡◌, ◌≢◌, length, map, rules, arith, true, false}
use Rattle.mux_frame.specs.Frames.{kept_frame}
use Rattle.mux_capture.specs.FrontFrames.{can_fill}
use Rattle.mux_capture.proofs.finding.judge.Goals as goal

pub returns-then-len-text : goal.returns-then-len-text
returns-then-len-text c = begins c.args.n1 c.args.text.now _ _ c.in-Ok.ensures.ok (search rules)

pub returns-then-can_fill : goal.returns-then-can_fill
returns-then-can_fill c =
    let fills : can_fill (map kept_frame c.in-Ok.frames.items) (length c.args.text.now) ≡ true = search rules in
    (search rules, is_text c.args.n1 c.args.text.now _ _ (λ i. let h = c.type_inv.text i in omega (arith, h)) c.requires.some c.requires.front c.in-Ok.ensures.ok fills)

pub returns : goal.returns
returns c =
    let fills : can_fill (map kept_frame c.in-Ok.frames.items) (length c.args.text.now) ≡ false = search rules in
    let size : length c.in-Ok.rest.items ≢ length c.args.text.now = search rules in
    is_other c.args.n1 c.args.text.now _ _ (λ i. let h = c.type_inv.text i in omega (arith, h)) c.requires.some c.requires.front c.in-Ok.ensures.ok size fills
