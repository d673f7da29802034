-- Nothing goes out of a core whose line is lost, or whose station has nothing.
use Rattle.std.proofs.Common.{◌≡◌, length, ◌∙◌, ap, sym, subst}
use Rattle.std.specs.Prelude.{None, false, true, option_map, ◌==◌, Bool, if◌then◌else◌}
use Rattle.mux_station.specs.Stations.{Station}
use Rattle.mux_station.specs.Giving.{turn_at}
use Rattle.mux_station.specs.GivenFrames.{with_freshness}
use Rattle.mux_station.proofs.turns.ReadyConnections.{none_next}
use Rattle.modem_core.specs.Cores.{Core}
use Rattle.modem_core.specs.CoreGoing.{GoesOut}
use Rattle.modem_core.specs.Running.{CoreIsIdle}
use Rattle.modem_core.proofs.outgoing.CoreAfterFrame.{IsSound, sound, goes_out, goes_none}
use Rattle.modem_core.proofs.outgoing.EndOfSending.{idle_lost, idle_none, if_no_turn, sends_none}
use Rattle.modem_core.proofs.driver.Core.next_turn.Goals as goal

pub returns-then-self-clause-turn : goal.returns-then-self-clause-turn
returns-then-self-clause-turn c =
    let old : Core = c.args.self.now in
    let lost : old.lost ≡ true = sym (ap (λ (v : Core). v.lost) c.self.view_is) ∙ c.if-self.true in
    sym (ap (λ (b : Bool). if b then None else turn_at old.station old.station.queue) lost)

pub returns-then-self-clause-none : goal.returns-then-self-clause-none
returns-then-self-clause-none c =
    let lost : c.args.self.now.lost ≡ true = sym (ap (λ (v : Core). v.lost) c.self.view_is) ∙ c.if-self.true in
    goes_none c.args.self.now lost

pub returns-then-self-clause-idle : goal.returns-then-self-clause-idle
returns-then-self-clause-idle c =
    let lost : c.args.self.now.lost ≡ true = sym (ap (λ (v : Core). v.lost) c.self.view_is) ∙ c.if-self.true in
    idle_lost c.args.self.now lost

pub returns-clause-turn : goal.returns-clause-turn
returns-clause-turn c =
    let old : Core = c.args.self.now in
    let same : c.self.inside.station ≡ old.station = ap (λ (x : Core). x.station) c.self.view_is in
    let live : old.lost ≡ false = sym (ap (λ (x : Core). x.lost) c.self.view_is) ∙ c.if-self.false in
    c.next_turn.ensures.turn
    ∙ (ap (λ (x : Station). turn_at x x.queue) same
    ∙ sym (ap (λ (b : Bool). if b then None else turn_at old.station old.station.queue) live))

pub returns-clause-none : goal.returns-clause-none
returns-clause-none c =
    let old : Core = c.args.self.now in
    let v : Core = record { station = c.self.inside.station; lanes = c.self.inside.lanes; hand = c.self.inside.hand; rules = c.self.inside.dialect; kinds = c.self.inside.kinds.items; lost = c.self.inside.lost } in
    let same : v.station ≡ old.station = ap (λ (x : Core). x.station) c.self.view_is in
    let live : old.lost ≡ false = sym (ap (λ (x : Core). x.lost) c.self.view_is) ∙ c.if-self.false in
    let is_sound : IsSound old = subst IsSound c.self.view_is (sound v c.self.inside.n1 c.self.invariant) in
    if_no_turn c.next_turn.result (turn_at old.station old.station.queue) (GoesOut old None) (c.next_turn.ensures.turn ∙ ap (λ (x : Station). turn_at x x.queue) same)
    (λ none.
    let given = none_next old.station old.station.queue none in
    goes_out old None is_sound (sends_none old.station given) live (ap (option_map (with_freshness (length old.station.queue == 0))) (sym given)))

pub returns-clause-idle : goal.returns-clause-idle
returns-clause-idle c =
    let old : Core = c.args.self.now in
    let same : c.self.inside.station ≡ old.station = ap (λ (x : Core). x.station) c.self.view_is in
    if_no_turn c.next_turn.result (turn_at old.station old.station.queue) (CoreIsIdle old) (c.next_turn.ensures.turn ∙ ap (λ (x : Station). turn_at x x.queue) same)
    (λ none. idle_none old (none_next old.station old.station.queue none))
