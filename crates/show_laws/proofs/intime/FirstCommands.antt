-- A driver sends its control commands behind the SABM on 0.
use Rattle.std.specs.Prelude.{◌≡◌, zero, suc, ℕ, ◌+◌, ◌≤◌, not, Bool, true, false, List, [], ◌∷◌, ◌++◌, drop, refl, is_none, if◌then◌else◌}
use Rattle.std.proofs.Common.{ap, arith, sym, ◌∙◌}
use Rattle.mux_frame.specs.Frames.{Frame}
use Rattle.mux_frame.specs.declared.frame.Kind.TheVariants.{Sabm}
use Rattle.mux_station.specs.declared.role.Role.TheVariants.{Initiator}
use Rattle.mux_station.specs.Tables.{held_up, ready}
use Rattle.mux_station.specs.Written.{is_data_frame, is_on}
use Rattle.modem_history.specs.Acts.{Act, Took, Got, Sent, Told, Heard, Tick, Lost, Held, Freed, Given, wire}
use Rattle.modem_history.specs.Calls.{Setting, at_once, calls_behind, frames_by, seen_behind}
use Rattle.modem_history.specs.Lawful.{IsNext, Lawful, When, owed, unsent}
use Rattle.modem_history.specs.TwoEnds.{frames_sent}
use Rattle.modem_show.specs.Asking.{message_asks}
use Rattle.show_laws.proofs.answered.DriverStops.{asked_quiet, commands, shut_flow, shut_frame}
use Rattle.show_laws.proofs.asks.AnswersCalled.{data_no_message}
use Rattle.show_laws.proofs.counts.BalancedTables.{tick_none}
use Rattle.show_laws.proofs.counts.DriverCounts.{called, dropped, sends, sends_both, unsent_none}
use Rattle.show_laws.proofs.counts.ManyFrames.{many, unit}
use Rattle.show_laws.proofs.intime.Behind.{Behind}
use Rattle.show_laws.proofs.stops.StopsBehindSabm.{opened_state, unasked_yet}

-- data is no control command
pub data_bare : (f : Frame) → is_data_frame f ≡ true → commands f ≡ false
data_bare f is = ap message_asks (data_no_message f is)

-- no control command is owed while no SABM on 0 was sent
sent_bare : (s : Setting) (past : List Act) (f : Frame) (b : Bool) → is_data_frame f ≡ b → When (not b) (IsNext (owed s past) (Sent f)) → sends commands (owed s past) ≤ 0 → sends commands (owed s (Sent f ∷ past)) ≤ 0
sent_bare s past f true is n h =
    let same : sends commands (owed s (Sent f ∷ past)) ≡ sends commands (owed s past) = ap (λ (b : Bool). sends commands (if b then owed s past else drop 1 (owed s past))) is in
    omega (arith, same, h)
sent_bare s past f false is n h =
    let same : sends commands (owed s (Sent f ∷ past)) ≡ sends commands (drop 1 (owed s past)) = ap (λ (b : Bool). sends commands (if b then owed s past else drop 1 (owed s past))) is in
    let x = dropped commands (owed s past) in
    omega (arith, same, x, h)

more_bare : (s : Setting) (past : List Act) (a : Act) → many commands (frames_by s (seen_behind s past (owed s past)) a) ≤ 0 → sends commands (owed s past) ≤ 0 → sends commands (owed s past ++ calls_behind s past (owed s past) a) ≤ 0
more_bare s past a none before =
    let parts = sends_both commands (owed s past) (calls_behind s past (owed s past) a) in
    let few = called commands 0 s (seen_behind s past (owed s past)) a none in
    omega (arith, parts, few, before)

bare_yet : (s : Setting) (past : List Act) → s.role ≡ Initiator → Lawful s past → many (is_on Sabm 0) (frames_sent (wire past)) ≤ 0 → sends commands (owed s past) ≤ 0
unfolding Lawful
bare_yet s [] is l none = omega arith
bare_yet s (Sent f ∷ past) is l none = sent_bare s past f (is_data_frame f) refl l.0.controlled (bare_yet s past is l.1 (omega (arith, none)))
bare_yet s (Told o ∷ past) is l none = let h = bare_yet s past is l.1 none in let x = dropped commands (owed s past) in omega (arith, h, x)
bare_yet s (Heard u e line ∷ past) is l none = let h = bare_yet s past is l.1 none in let x = dropped commands (owed s past) in omega (arith, h, x)
bare_yet s (Given ∷ past) is l none = bare_yet s past is l.1 none
bare_yet s (Lost ∷ past) is l none =
    let parts = sends_both commands (unsent (owed s past)) (calls_behind s past (owed s past) Lost) in
    let x = unsent_none commands (owed s past) in
    let y = called commands 0 s (seen_behind s past (owed s past)) Lost (omega arith) in
    omega (arith, parts, x, y)
bare_yet s (Took q ∷ past) is l none =
    let v = seen_behind s past (owed s past) in
    more_bare s past (Took q) (asked_quiet s v q (is_none (at_once s v q)) refl q.ask refl (opened_state s 0 past is (unasked_yet s 0 past is l.1 none).shut)) (bare_yet s past is l.1 none)
bare_yet s (Got f ∷ past) is l none = more_bare s past (Got f) (shut_frame s past f is l.1 (unasked_yet s 0 past is l.1 none).shut) (bare_yet s past is l.1 none)
bare_yet s (Tick ∷ past) is l none =
    let v = seen_behind s past (owed s past) in
    more_bare s past Tick (tick_none s.role commands (λ d. refl) (λ d. refl) s.n1 v.state v.queued 0 62) (bare_yet s past is l.1 none)
bare_yet s (Held e ∷ past) is l none = more_bare s past (Held e) (shut_flow s past e held_up is l.1 (unasked_yet s 0 past is l.1 none).shut) (bare_yet s past is l.1 none)
bare_yet s (Freed e ∷ past) is l none = more_bare s past (Freed e) (shut_flow s past e ready is l.1 (unasked_yet s 0 past is l.1 none).shut) (bare_yet s past is l.1 none)

first_sent : (s : Setting) (past : List Act) (f : Frame) (b : Bool) → is_data_frame f ≡ b → When (not b) (IsNext (owed s past) (Sent f)) → (many (is_on Sabm 0) (frames_sent (wire past)) ≤ 0 → sends commands (owed s past) ≤ 0) → commands f ≡ true → 1 ≤ many (is_on Sabm 0) (frames_sent (wire past))
first_sent s past f true is n yet c = let t : true ≡ false = sym c ∙ data_bare f is in cc
first_sent s past f false is n yet c = by_count (many (is_on Sabm 0) (frames_sent (wire past))) refl
  where
    by_count : (m : ℕ) → many (is_on Sabm 0) (frames_sent (wire past)) ≡ m → 1 ≤ m
    by_count (suc m) e = omega arith
    by_count zero e =
        let none = yet (omega (arith, e)) in
        let first : sends commands (owed s past) ≡ unit (commands f) + sends commands n.later = ap (sends commands) n.is_next in
        let one : unit (commands f) ≡ 1 = ap unit c in
        absurd (omega (arith, none, first, one))

-- each control command that asks was sent by a lawful initiator behind a SABM on 0
pub behind_sabm : (s : Setting) (past : List Act) → s.role ≡ Initiator → Lawful s past → Behind (is_on Sabm 0) (frames_sent (wire past))
unfolding Lawful
behind_sabm s [] is l = tt
behind_sabm s (Sent f ∷ past) is l = (λ c. first_sent s past f (is_data_frame f) refl l.0.controlled (bare_yet s past is l.1) c, behind_sabm s past is l.1)
behind_sabm s (Told o ∷ past) is l = behind_sabm s past is l.1
behind_sabm s (Heard u e line ∷ past) is l = behind_sabm s past is l.1
behind_sabm s (Given ∷ past) is l = behind_sabm s past is l.1
behind_sabm s (Lost ∷ past) is l = behind_sabm s past is l.1
behind_sabm s (Took q ∷ past) is l = behind_sabm s past is l.1
behind_sabm s (Got f ∷ past) is l = behind_sabm s past is l.1
behind_sabm s (Tick ∷ past) is l = behind_sabm s past is l.1
behind_sabm s (Held e ∷ past) is l = behind_sabm s past is l.1
behind_sabm s (Freed e ∷ past) is l = behind_sabm s past is l.1
