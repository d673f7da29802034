-- What `write_on` wrote flowed out; where nothing came out of the ring, nothing did.
use Rattle.std.proofs.Common.{◌≡◌, ◌∙◌, ◌++◌, ℕ, ◌≤◌, List, ap, arith, length, length-take, take, ⊎_elim}
use Rattle.rtrb.specs.Ring.{received}
use Rattle.device_line.proofs.Written.{none_taken, piece_out}
use Rattle.device_line.proofs.draining.turn.Goals as goal

pub returns-then-count-gt0-clause-flows : goal.returns-then-count-gt0-clause-flows
returns-then-count-gt0-clause-flows g c end =
    let piece : List ℕ = take c.pop_partial_slice-count.result c.pop_partial_slice-count.new.slice in
    let came : received c.pop_partial_slice-count.new.self ≡ received c.args.ring.now ++ piece =
    c.pop_partial_slice-count.ensures.received.1 ∙ ap (λ (l : List ℕ). l ++ piece) c.is_abandoned-last.ensures.1 in
    piece_out 0 0 (received c.args.ring.now) (received c.pop_partial_slice-count.new.self) piece _ _
    (c.write_on.ensures.written (⊎_elim (λ none. none) (λ ended. absurd (c.write_on.ensures.ended ended)) end)) came (omega arith)

pub returns-then-count-gt0-clause-first : goal.returns-then-count-gt0-clause-first
returns-then-count-gt0-clause-first g c =
    let piece : List ℕ = take c.pop_partial_slice-count.result c.pop_partial_slice-count.new.slice in
    let came : received c.pop_partial_slice-count.new.self ≡ received c.args.ring.now ++ piece =
    c.pop_partial_slice-count.ensures.received.1 ∙ ap (λ (l : List ℕ). l ++ piece) c.is_abandoned-last.ensures.1 in
    let few : length piece ≤ 512 = grind (arith, length-take) in
    piece_out 512 (length piece) (received c.args.ring.now) (received c.pop_partial_slice-count.new.self) piece _ _ c.write_on.ensures.first came few

pub returns-then-last-clause-flows : goal.returns-then-last-clause-flows
returns-then-last-clause-flows g c end =
    let piece : List ℕ = take c.pop_partial_slice-count.result c.pop_partial_slice-count.new.slice in
    let few : length piece ≤ 0 = grind (arith, length-take) in
    none_taken 0 (received c.args.ring.now) (received c.is_abandoned-last.new.self) (received c.pop_partial_slice-count.new.self) piece _
    c.is_abandoned-last.ensures.1 c.pop_partial_slice-count.ensures.received.1 few

pub returns-then-last-clause-first : goal.returns-then-last-clause-first
returns-then-last-clause-first g c =
    let piece : List ℕ = take c.pop_partial_slice-count.result c.pop_partial_slice-count.new.slice in
    let few : length piece ≤ 0 = grind (arith, length-take) in
    none_taken 512 (received c.args.ring.now) (received c.is_abandoned-last.new.self) (received c.pop_partial_slice-count.new.self) piece _
    c.is_abandoned-last.ensures.1 c.pop_partial_slice-count.ensures.received.1 few

pub returns-clause-flows : goal.returns-clause-flows
returns-clause-flows g c end =
    let piece : List ℕ = take c.pop_partial_slice-count.result c.pop_partial_slice-count.new.slice in
    let few : length piece ≤ 0 = grind (arith, length-take) in
    none_taken 0 (received c.args.ring.now) (received c.is_abandoned-last.new.self) (received c.pop_partial_slice-count.new.self) piece _
    c.is_abandoned-last.ensures.1 c.pop_partial_slice-count.ensures.received.1 few

pub returns-clause-first : goal.returns-clause-first
returns-clause-first g c =
    let piece : List ℕ = take c.pop_partial_slice-count.result c.pop_partial_slice-count.new.slice in
    let few : length piece ≤ 0 = grind (arith, length-take) in
    none_taken 512 (received c.args.ring.now) (received c.is_abandoned-last.new.self) (received c.pop_partial_slice-count.new.self) piece _
    c.is_abandoned-last.ensures.1 c.pop_partial_slice-count.ensures.received.1 few
