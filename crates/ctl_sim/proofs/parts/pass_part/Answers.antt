use Rattle.std.proofs.Common.{List, ℕ, rules, subst, sym, option_map, take, length, ◌++◌, ◌-◌, ◌≡◌, ◌∙◌, ap}
use Rattle.modem_sim.specs.declared.state.ModemState.{ModemState}
use Rattle.ctl_sim.specs.EndlessClients.{ComesToEndless, PassesToEndless}
use Rattle.ctl_sim.specs.Entry.{octets_of}
use Rattle.ctl_sim.specs.Leaving.{IsOfModemBy}
use Rattle.ctl_sim.proofs.EndlessClients.{passes_to_endless}
use Rattle.ctl_sim.proofs.Leaving.{endless_so, given_so}
use Rattle.ctl_sim.specs.Standing.{EndsWith, setting_by}
use Rattle.ctl_sim.specs.Watching.{SeesPart}
use Rattle.ctl_sim.proofs.Stepping.{front_taken, mapped_none}
use Rattle.ctl_sim.proofs.Watched.{passes_part}
use Rattle.ctl_sim.proofs.parts.pass_part.Goals as goal

pub returns-in_err-next-clause-fault : goal.returns-in_err-next-clause-fault
returns-in_err-next-clause-fault g c =
    given_so
    (IsOfModemBy ((m : ModemState) → PassesToEndless g.M.Answering.holds g.M.Answering.undecided g.V.Watcher.sees g.V.Watcher.begins g.M.Answering.endless (setting_by c.args.setup.now m) c.args.now c.args.watcher.now c.args.octets.now))
    _ _ c.from_residual.ensures.1
    (endless_so
    {P = (m : ModemState) → ComesToEndless g.M.Answering.holds g.M.Answering.endless (setting_by c.args.setup.now m) c.args.now c.args.octets.now}
    {Q = (m : ModemState) → PassesToEndless g.M.Answering.holds g.M.Answering.undecided g.V.Watcher.sees g.V.Watcher.begins g.M.Answering.endless (setting_by c.args.setup.now m) c.args.now c.args.watcher.now c.args.octets.now} _
    (λ comes m.
    passes_to_endless g.M.Answering.holds g.M.Answering.undecided g.V.Watcher.sees g.V.Watcher.begins g.M.Answering.endless (setting_by c.args.setup.now m) c.args.now c.args.watcher.now c.args.octets.now (comes m))
    c.in_err-next.ensures.fault)

pub returns-clause-passes : goal.returns-clause-passes
returns-clause-passes g c = λ m.
    let held = g.M.Answering.undecided c.in_ok-next.next in
    let behind = c.in_ok-next.behind.items in
    let ends : EndsWith c.args.pending.now.items (held ++ behind) = subst (λ (l : List ℕ). EndsWith l (held ++ behind)) (sym c.requires) c.in_ok-next.ensures.ends in
    let all : c.len.result ≡ length c.args.pending.now.items = search rules in
    let behind_len : c.len-2.result ≡ length behind = search rules in
    let front : c.split_at.result.0.now ≡ take (c.len.result - c.len-2.result - c.undecided_len.result) c.args.pending.now.items =
    c.split_at.ensures.front ∙ ap (take (c.len.result - c.len-2.result - c.undecided_len.result)) c.deref.ensures.value in
    passes_part g.M.Answering.holds g.M.Answering.undecided g.V.Watcher.sees g.V.Watcher.begins g.met.M.Answering.waits (setting_by c.args.setup.now m) c.args.now c.in_ok-next.next c.args.watcher.now c.tell.new.watcher c.args.octets.now behind c.split_at.result.0.now
    c.new-said.result.items c.take_part.new.out.items c.args.out.now.items c.extend_from_slice.new.self.items (option_map octets_of c.in_ok-next.entered)
    (sym c.requires ∙ front_taken c.args.pending.now.items held behind c.len.result c.len-2.result c.undecided_len.result ends all behind_len c.undecided_len.ensures ∙ ap (λ (l : List ℕ). l ++ (held ++ behind)) (sym front))
    (λ none. c.in_ok-next.ensures.all (mapped_none octets_of c.in_ok-next.entered none)) (c.in_ok-next.ensures.steps m) c.new-said.ensures.items
    (subst (λ (l : List ℕ). SeesPart g.V.Watcher.sees g.V.Watcher.begins c.args.watcher.now c.tell.new.watcher c.split_at.result.0.now l (option_map octets_of c.in_ok-next.entered)) c.as_slice.ensures.value c.tell.ensures)
    c.as_slice-2.result.now c.as_slice-2.ensures.value c.in_ok-extend_from_slice.ensures.items
