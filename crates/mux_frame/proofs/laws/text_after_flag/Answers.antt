use Rattle.std.proofs.Common.{Some, sym, arith, ap, ◌∙◌, ◌≡◌, ◌-◌, ◌+◌, length, take, drop, length-drop}
use Rattle.std.proofs.lemmas.List.{take_all}
use Rattle.mux_frame.proofs.Flags.{found_none, found_some}
use Rattle.mux_frame.proofs.laws.text_after_flag.Goals as goal

pub returns-in_err-place : goal.returns-in_err-place
returns-in_err-place c = rw c.from_residual.ensures (sym (found_none c.args.octets.now c.in_err-place.ensures))

pub returns : goal.returns
returns c =
    let f = found_some c.args.octets.now c.in_ok-place.place c.in_ok-place.ensures in
    let d = drop (c.in_ok-place.place + 1) c.args.octets.now in
    let e : take (length c.args.octets.now - (c.in_ok-place.place + 1)) d ≡ d = take_all _ d (simp length-drop (omega arith)) in
    ap Some e ∙ sym f.after
