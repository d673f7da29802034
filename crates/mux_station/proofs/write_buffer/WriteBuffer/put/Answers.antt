-- A frame is written into room for it.
use Rattle.std.proofs.Common.{arith, ap, sym, ◌∙◌, subst, ◌≡◌, ◌≤◌, [], length, ℕ, List}
use Rattle.std.specs.Prelude.{vec_capacity}
use Rattle.mux_frame.specs.Frames.{Frame, frame_of}
use Rattle.mux_frame.specs.Spelling.{spelled}
use Rattle.mux_station.proofs.turns.FrameRoom.{put_frame, short_uih, short_none, none_else, never_none}
use Rattle.mux_station.proofs.write_buffer.WriteBuffer.put.Goals as goal
use Rattle.mux_station.proofs.write_buffer.WriteBuffer.put.Goals.{in-Uih, in_default}

pub returns-clause-some : goal.returns-clause-some
returns-clause-some c =
    let f : List ℕ → Frame = λ xs. record (frame_of c.args.frame) { info = xs } in
    let info = c.match-frame.info.now in
    let e = c.write_frame.ensures in
    let d = c.clear.ensures in
    let out = c.write_frame.new.out.items in
    let room : 1031 ≤ vec_capacity c.clear.new.self = subst (λ (n : ℕ). 1031 ≤ n) (sym d.capacity) c.self.invariant.1 in
    let number = c.args.frame.dlci.in_range in
    elim c.match-frame.branch [
      | in-Uih w ↦
          (let few : length info ≤ 1024 = subst (λ (xs : List ℕ). length xs ≤ 1024) (sym (ap (λ v. v.now) w.info-is)) c.requires.short in
          never_none (f info) out (put_frame (f info) c.write_frame.result c.clear.new.self.items out (vec_capacity c.clear.new.self) number (short_uih c.args.frame.kind (length info) w.in-Uih.is few) few d.items room e.written e.too_long e.others e.no_memory))
      | in_default w ↦
          (let none : info ≡ [] = ap (λ v. v.now) w.info-is in
          let few : length info ≤ 1024 = subst (λ (xs : List ℕ). length xs ≤ 1024) (sym none) (omega arith) in
          never_none (f info) out (put_frame (f info) c.write_frame.result c.clear.new.self.items out (vec_capacity c.clear.new.self) number (short_none c.args.frame.kind info none) few d.items room e.written e.too_long e.others e.no_memory))
    ]

pub returns-clause-octets : goal.returns-clause-octets
returns-clause-octets c h =
    let f : List ℕ → Frame = λ xs. record (frame_of c.args.frame) { info = xs } in
    let info = c.match-frame.info.now in
    let e = c.write_frame.ensures in
    let d = c.clear.ensures in
    let out = c.write_frame.new.out.items in
    let room : 1031 ≤ vec_capacity c.clear.new.self = subst (λ (n : ℕ). 1031 ≤ n) (sym d.capacity) c.self.invariant.1 in
    let number = c.args.frame.dlci.in_range in
    elim c.match-frame.branch [
      | in-Uih w ↦
          (let same : info ≡ c.args.frame.info.now = ap (λ v. v.now) w.info-is in
          let few : length info ≤ 1024 = subst (λ (xs : List ℕ). length xs ≤ 1024) (sym same) c.requires.short in
          put_frame (f info) c.write_frame.result c.clear.new.self.items out (vec_capacity c.clear.new.self) number (short_uih c.args.frame.kind (length info) w.in-Uih.is few) few d.items room e.written e.too_long e.others e.no_memory
          ∙ ap (λ (xs : List ℕ). spelled (f xs)) same)
      | in_default w ↦
          (let none : info ≡ [] = ap (λ v. v.now) w.info-is in
          let same : info ≡ c.args.frame.info.now = none ∙ sym (none_else c.args.frame.kind c.args.frame.info.now w.in_default.not-Uih h) in
          let few : length info ≤ 1024 = subst (λ (xs : List ℕ). length xs ≤ 1024) (sym none) (omega arith) in
          put_frame (f info) c.write_frame.result c.clear.new.self.items out (vec_capacity c.clear.new.self) number (short_none c.args.frame.kind info none) few d.items room e.written e.too_long e.others e.no_memory
          ∙ ap (λ (xs : List ℕ). spelled (f xs)) same)
    ]
