-- What is no turn of a simulated modem, computed.
use Rattle.std.specs.Prelude.{◌≡◌, ◌≢◌, ℕ, ◌+◌, ◌==◌, codes, true, false, List, [], ◌∷◌, ◌++◌, length, Option, Some, None, refl}
use Rattle.std.specs.Fmt.{digits}
use Rattle.std.proofs.Common.{arith, sym, ap, ◌∙◌, lit<}
use Rattle.std.proofs.lemmas.Bool.Decides.{nat_tests}
use Rattle.at_cmds.specs.Params.{parameters, unquoted}
use Rattle.at_cmds.specs.Forms.{numeral_in}
use Rattle.at_cmds.specs.Values.{command_in, command_of}
use Rattle.mux_frame.specs.Frames.{Frame}
use Rattle.mux_frame.specs.declared.frame.Kind.TheVariants.{Sabm, Ua}
use Rattle.mux_station.specs.declared.role.Role.TheVariants.{Initiator}
use Rattle.mux_station.specs.Acts as station
use Rattle.mux_station.specs.Written.{written}
use Rattle.modem_sim.specs.declared.script.StepAct.TheVariants.{Announce}
use Rattle.modem_sim.specs.declared.sim.SimTurn.{SimTurn}
use Rattle.modem_sim.specs.declared.sim.SimTurn.TheVariants.{Moved}
use Rattle.modem_sim.specs.Acts.{Act, after}
use Rattle.modem_sim.specs.Cores.{after_wire_act}
use Rattle.modem_sim.specs.Sims.{SimState, is_ended}
use Rattle.modem_sim.specs.Turns.{DoesSteps, Exchange, GoesTurn, HandsOn, Means, NoneIsThere, TakesAtHand, has_done, has_no_room, has_room_for, is_taken, left_of, none_at_hand}
use Rattle.modem_sim.specs.HistoryRows.{announcing, comes, one, plain, ready_one, sends, silent}
use Rattle.modem_sim.specs.TurnRows.{CallsNothing, WrongCalls, WrongCounts, WrongTurns, unseen}
use Rattle.modem_sim.proofs.rows.TurnRowFacts.{due_now, none_some, unchanged}
use Rattle.modem_history.specs.Turns.{Offers, Read, Write, calls_made, counted, octets_written}

no : {P : Type 0} → false ≡ true → P
no is = cc

some_calls : (w : Option Write) (r : Option Read) → 0 ≡ counted 0 (calls_made w + calls_made r) → (w ≡ None) × (r ≡ None)
some_calls None None same = (refl, refl)
some_calls None (Some r) same = absurd (omega (arith, same))
some_calls (Some w) None same = absurd (omega (arith, same))
some_calls (Some w) (Some r) same = absurd (omega (arith, same))

none_read : (old new : SimState ℕ) (says : SimTurn) → is_ended old.machine ≡ false → old.machine.unfed ≡ [] → ¬ GoesTurn unseen old new says
none_read old new says going fed turn =
    let t = turn.exchange in
    (turn.leaves going).reads fed (some_calls t.write t.read turn.exchanges.calls_are).1

nothing_waits : (w : Option Write) (out : List ℕ) → w ≡ None → Offers w (left_of w out) → octets_written w ++ left_of w out ≡ []
nothing_waits None out is offers = offers
nothing_waits (Some w) out is offers = cc

none_written : (old new : SimState ℕ) (says : SimTurn) → old.machine.out ≢ [] → ¬ GoesTurn unseen old new says
none_written old new says waits turn =
    let t = turn.exchange in
    let none = (some_calls t.write t.read turn.exchanges.calls_are).0 in
    waits (sym turn.exchanges.parts ∙ nothing_waits t.write old.machine.out none turn.exchanges.offers)

-- no turn leaves its line alone where it hasn't ended and nothing is to be fed, nor where octets wait for the line
pub calls_nothing : CallsNothing
calls_nothing = (none_read, none_written)

apart : (m n : ℕ) → m ≡ n → (m == n) ≡ false → ⊥
apart m n same other = grind (arith, nat_tests)

-- a simulated modem isn't idle where its line counts no further empty read or stalled write
pub wrong_counts : WrongCounts
wrong_counts = (λ old new fed idle. apart 0 1 (idle.empty fed) refl, λ old new waits idle. apart 0 1 (idle.stalled waits) refl)

-- no write offers nothing, and no read has no room
pub wrong_calls : WrongCalls
wrong_calls = (
  λ left offer. let some = offer.some in absurd (omega (arith, some)),
  λ old new exchanges. let some = exchanges.some_room _ refl in absurd (omega (arith, some)),
)

nothing_moved : (s : SimState ℕ) (came went : List ℕ) (t : Exchange) (past : List Act) → ¬ Means unseen plain came went s s t [] past Moved
nothing_moved s came went t past (has_done is) = no (sym (unchanged s) ∙ is)

step_left : (past : List Act) → ¬ DoesSteps (announcing 0 one) past (after [] ready_one)
step_left past does = none_some _ (does.none_left (Announce one (codes "RING")) due_now).asked

same_frame : (f g : Frame) → Some f ≡ Some g → f ≡ g
same_frame f g is = cc

some_frame : {f : Frame} → Some f ≡ None → ⊥
some_frame is = cc

frame_left : ¬ TakesAtHand plain (Some (written Initiator Sabm 0 [])) [] []
frame_left (none_at_hand none now) = some_frame none
frame_left (has_no_room f hand full now) = no (sym (ap (has_room_for plain []) (same_frame (written Initiator Sabm 0 []) f hand) ∙ full))
frame_left (is_taken f hand room now) =
    apart 0 2 (ap length (now ∙ ap (λ g. after_wire_act plain [] (station.Got g)) (sym (same_frame (written Initiator Sabm 0 []) f hand)))) refl

answer_left : (past : List Act) → ¬ HandsOn plain past (after [] silent)
unfolding command_of command_in numeral_in unquoted parameters digits
answer_left past hands = apart 6 0 (ap length (hands.all 1 (lit< tt) refl refl)) refl

frame_waits : ¬ NoneIsThere (after [] (comes Sabm 0 [] ∷ sends Ua 0 [] ∷ []))
frame_waits none = apart 1 0 (ap length none.queue) refl

-- no turn says Moved where nothing changed, or leaves undone a step, a frame at hand, an answer or a frame that waits
pub wrong_turns : WrongTurns
wrong_turns = (nothing_moved, step_left, frame_left, answer_left, frame_waits)
