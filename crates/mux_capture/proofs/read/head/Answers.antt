-- Each number is the one that was written.
use Rattle.std.specs.Prelude.{◌≡◌, ℕ, ◌++◌}
use Rattle.std.proofs.Common.{ap, ◌∙◌}
use Rattle.mux_capture.specs.declared.packet.Stamp.{Stamp}
use Rattle.mux_capture.specs.Pcap.{little_endian}
use Rattle.mux_capture.proofs.read.head.Goals as goal

stamped : (a b : ℕ) (stamp : Stamp) → a ≡ stamp.seconds → b ≡ stamp.micros → record { seconds = a; micros = b } ≡ stamp
stamped a b stamp e f =
    ap (λ (s : ℕ). let t : Stamp = record { seconds = s; micros = b } in t) e
    ∙ ap (λ (m : ℕ). let t : Stamp = record { seconds = stamp.seconds; micros = m } in t) f

pub returns-in_err-kept-clause-all : goal.returns-in_err-kept-clause-all
returns-in_err-kept-clause-all c = λ stamp kept more h k e.
    let a = c.in_ok-seconds.ensures.all stamp.seconds (little_endian 4 stamp.micros ++ (little_endian 4 kept ++ (little_endian 4 kept ++ more))) h.seconds e in
    let b = c.in_ok-micros.ensures.all stamp.micros (little_endian 4 kept ++ (little_endian 4 kept ++ more)) h.micros a.1 in
    absurd (c.in_err-kept.ensures.all kept (little_endian 4 kept ++ more) k b.1)

pub returns-then-kept-had-clause-all : goal.returns-then-kept-had-clause-all
returns-then-kept-had-clause-all c = λ stamp kept more h k e.
    let a = c.in_ok-seconds.ensures.all stamp.seconds (little_endian 4 stamp.micros ++ (little_endian 4 kept ++ (little_endian 4 kept ++ more))) h.seconds e in
    let b = c.in_ok-micros.ensures.all stamp.micros (little_endian 4 kept ++ (little_endian 4 kept ++ more)) h.micros a.1 in
    let d = c.in_ok-kept.ensures.all kept (little_endian 4 kept ++ more) k b.1 in
    let f = c.in_ok-had.ensures.all kept more k d.1 in
    let both : record { seconds = c.in_ok-seconds.seconds; micros = c.in_ok-micros.micros } ≡ stamp = stamped c.in_ok-seconds.seconds c.in_ok-micros.micros stamp a.0 b.0 in
    (both, (d.0, f.1))
