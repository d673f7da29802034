use Rattle.std.proofs.Common.{arith, rules}
use Rattle.mux_frame.specs.Frames.{frame_of}
use Rattle.mux_frame.specs.Spelling.{body_of, Spells}
use Rattle.mux_frame.proofs.Spellings.{written, spells_body}
use Rattle.mux_frame.proofs.write.write_frame.Goals as goal

pub returns-in_err-reserve-clause-too_long : goal.returns-in_err-reserve-clause-too_long
returns-in_err-reserve-clause-too_long c =
    let s : Spells c.args.n1 (body_of (frame_of c.args.frame)) (frame_of c.args.frame) = spells_body c.args.n1 (frame_of c.args.frame) c.args.frame.dlci.in_range (omega arith) (omega arith) in
    (λ e. search rules, λ none. absurd (none (body_of (frame_of c.args.frame)) s))

pub returns-clause-written : goal.returns-clause-written
returns-clause-written c =
    written c.args.out.now.items c.push_reserved.new.self.items c.extend_from_slice.new.self.items c.extend_from_slice-2.new.self.items c.push_reserved-2.new.self.items c.push_reserved-3.new.self.items (frame_of c.args.frame) (search rules) (search rules) (search rules) (search rules) (search rules)

pub returns-clause-spells : goal.returns-clause-spells
returns-clause-spells c = spells_body c.args.n1 (frame_of c.args.frame) c.args.frame.dlci.in_range (omega arith) (omega arith)

pub returns-clause-too_long : goal.returns-clause-too_long
returns-clause-too_long c =
    let s : Spells c.args.n1 (body_of (frame_of c.args.frame)) (frame_of c.args.frame) = spells_body c.args.n1 (frame_of c.args.frame) c.args.frame.dlci.in_range (omega arith) (omega arith) in
    (λ e. search rules, λ none. absurd (none (body_of (frame_of c.args.frame)) s))
