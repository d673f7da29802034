-- What the rules make keeps the laws.
use Rattle.std.specs.Prelude.{◌≡◌, ℕ, ◌≤◌, not, Bool, true, false, List, [], ◌∷◌, length, drop, refl, Option, Some, None}
use Rattle.std.specs.List.{list_all}
use Rattle.std.proofs.Common.{ap, ◌∙◌}
use Rattle.std.proofs.lemmas.Bool.{and_parts, ltb-true}
use Rattle.mux_frame.specs.Frames.{Frame}
use Rattle.mux_station.specs.Written.{is_data_frame}
use Rattle.mux_station.specs.Sending.{queue}
use Rattle.mux_station.specs.GivenFrames.{Outgoing, with_freshness}
use Rattle.modem_history.specs.Acts.{Act, Took, Got, Sent, Told, Heard, Tick, Lost, Held, Freed, Given, after, wire, in_hand}
use Rattle.modem_history.specs.Calls.{Setting, calls, seen}
use Rattle.modem_history.specs.Holding.{OnHeld}
use Rattle.modem_history.specs.Lawful.{Lawful, Complete, owed, some_wait}
use Rattle.modem_history.specs.GoingOut.{SendsInTurn, next_out, data_of, act_out, with_out, after_out}
use Rattle.modem_history.specs.Wholes.{CompleteCalls, CallGoesOn, is_first, is_said}
use Rattle.modem_history.specs.Sessions.{TakesWithRoom}
use Rattle.modem_history.specs.Rules.{Made, may_begin, nothing, call, goes_out}
use Rattle.modem_history.specs.RuleLaws.{KeepsLaws, MadeKeepsLaws}
use Rattle.modem_history.proofs.calls.CalledActs.{Saids, calls_said}
use Rattle.modem_history.proofs.law_proofs.WholeHistories.{call_goes_on, when_is, when_not, not_true, if_true}
use Rattle.modem_history.proofs.rules.NextFrames.{MaySend, Next, Leaves, leaves, data_allowed, queued, fresh}

-- ## Acts that are called for

-- beside lawful and complete
pub record Beside (s : Setting) (past : List Act) : Type 0 where
  pub calls : CompleteCalls s past
  pub room : TakesWithRoom past
  pub in_turn : SendsInTurn s past

unsaid : {P : Type 0} → false ≡ true → P
unsaid e = cc

said_not : {P : Type 0} (b : Bool) → b ≡ true → b ≡ false → P
said_not true h k = cc
said_not false h k = cc

-- an act that is called for leaves the rest as it was
said_beside : (s : Setting) (a : Act) (past : List Act) → is_said a ≡ true → Beside s past → Beside s (a ∷ past)
said_beside s (Sent f) past h b = record {
  calls = ((λ e. said_not (not (is_data_frame f)) h e), b.calls);
  room = b.room;
  in_turn = (when_not (is_data_frame f) _ (not_true (is_data_frame f) h), b.in_turn);
}
said_beside s (Told o) past h b = record { calls = ((λ e. said_not true refl e), b.calls); room = b.room; in_turn = (tt, b.in_turn) }
said_beside s (Heard k d line) past h b = record { calls = ((λ e. said_not true refl e), b.calls); room = b.room; in_turn = (tt, b.in_turn) }
said_beside s (Took r) past h b = unsaid h
said_beside s (Got f) past h b = unsaid h
said_beside s Tick past h b = unsaid h
said_beside s Lost past h b = unsaid h
said_beside s (Held d) past h b = unsaid h
said_beside s (Freed d) past h b = unsaid h
said_beside s Given past h b = unsaid h

saids_beside : (s : Setting) (acts past : List Act) → Saids acts → Beside s past → Beside s (after past acts)
saids_beside s [] past h b = b
saids_beside s (a ∷ acts) past h b =
    let parts = and_parts (is_said a) (list_all is_said acts) h in
    saids_beside s acts (a ∷ past) parts.1 (said_beside s a past parts.0 b)

-- ## A call

-- what an act is that a call may begin with
record Begins (s : Setting) (past : List Act) (a : Act) : Type 0 where
  first : is_first a ≡ true
  held : OnHeld s.role past a
  room : TakesWithRoom past → TakesWithRoom (a ∷ past)
  in_turn : SendsInTurn s past → SendsInTurn s (a ∷ past)

begins : (s : Setting) (past : List Act) (a : Act) → may_begin s past a ≡ true → Begins s past a
begins s past (Took r) h = record { first = refl; held = tt; room = λ few. (ltb-true (length (in_hand past)) 128 h, few); in_turn = λ t. (tt, t) }
begins s past (Got f) h = record { first = refl; held = tt; room = λ few. few; in_turn = λ t. (tt, t) }
begins s past Tick h = record { first = refl; held = tt; room = λ few. few; in_turn = λ t. (tt, t) }
begins s past Lost h = record { first = refl; held = tt; room = λ few. few; in_turn = λ t. (tt, t) }
begins s past (Held d) h = record { first = refl; held = h; room = λ few. few; in_turn = λ t. (tt, t) }
begins s past (Freed d) h = record { first = refl; held = h; room = λ few. few; in_turn = λ t. (tt, t) }
begins s past (Sent f) h = unsaid h
begins s past (Told o) h = unsaid h
begins s past (Heard k d line) h = unsaid h
begins s past Given h = unsaid h

call_keeps : (s : Setting) (past : List Act) (a : Act) → may_begin s past a ≡ true → KeepsLaws s past → KeepsLaws s (after past (a ∷ calls s past a))
unfolding Complete CallGoesOn
call_keeps s past a h k =
    let b = begins s past a h in
    let on = call_goes_on s past a b.first b.held k.lawful k.complete in
    let beside : Beside s (a ∷ past) = record { calls = ((λ e. k.complete), k.calls); room = b.room k.room; in_turn = b.in_turn k.in_turn } in
    let there = saids_beside s (calls s past a) (a ∷ past) (calls_said s (seen s past) a) beside in
    record { lawful = on.lawful; complete = on.complete; calls = there.calls; room = there.room; in_turn = there.in_turn }

-- ## What goes out

given_keeps : (s : Setting) (past : List Act) (f : Frame) (fs : List Frame) → queue (wire past) ≡ f ∷ fs → KeepsLaws s past → KeepsLaws s (Given ∷ past)
unfolding Lawful Complete
given_keeps s past f fs e k = record {
  lawful = (record { gated = tt; once = tt; in_turn = tt; controlled = tt; answered = tt; heard = tt; prompt = tt; held = tt; marked = ap some_wait e }, k.lawful);
  complete = k.complete;
  calls = ((λ said. k.complete), k.calls);
  room = k.room;
  in_turn = (tt, k.in_turn);
}

data_keeps : (s : Setting) (past : List Act) (d : ℕ) → 1 ≤ s.n1 → queue (wire past) ≡ [] → MaySend s past d → Leaves s past (with_freshness true (data_of s past d))
    → next_out s past ≡ Some (with_freshness true (data_of s past d)) → KeepsLaws s past → KeepsLaws s (Sent (data_of s past d) ∷ past)
unfolding Lawful Complete
data_keeps s past d n none m out next k =
    let f = data_of s past d in
    let may = data_allowed s past d n out.live none m k.lawful k.complete in
    record {
      lawful = (may.1, k.lawful);
      complete = if_true (is_data_frame f) (owed s past) (drop 1 (owed s past)) may.0 ∙ k.complete;
      calls = ((λ said. k.complete), k.calls);
      room = k.room;
      in_turn = (when_is (is_data_frame f) _ next, k.in_turn);
    }

out_keeps : (s : Setting) (past : List Act) (o : Outgoing) → 1 ≤ s.n1 → Next s past o → Leaves s past o → next_out s past ≡ Some o → KeepsLaws s past → KeepsLaws s (act_out o ∷ past)
out_keeps s past _ n (queued f fs e) out next k = given_keeps s past f fs e k
out_keeps s past _ n (fresh d none m) out next k = data_keeps s past d n none m out next k

-- ## The law

-- where the rules make a history, a frame takes an octet at least
pub takes_octet : (s : Setting) (past : List Act) → Made s past → 1 ≤ s.n1
takes_octet s _ (nothing n) = n
takes_octet s _ (call past a m h) = takes_octet s past m
takes_octet s _ (goes_out past o m h) = takes_octet s past m

-- what the rules make keeps the laws
pub keeps : (s : Setting) (past : List Act) → Made s past → KeepsLaws s past
unfolding Lawful Complete
keeps s _ (nothing n) = record { lawful = tt; complete = refl; calls = tt; room = tt; in_turn = tt }
keeps s _ (call past a m h) = call_keeps s past a h (keeps s past m)
keeps s _ (goes_out past o m h) =
    let out = leaves s past o h in
    out_keeps s past o (takes_octet s past m) out.next out h (keeps s past m)

-- the same, where setting and history are plain from the rules
pub laws_of : {s : Setting} {past : List Act} → Made s past → KeepsLaws s past
laws_of {s} {past} m = keeps s past m

-- and that is the law, of each setting and history
pub made_keeps_laws : (s : Setting) (past : List Act) → MadeKeepsLaws s past
unfolding MadeKeepsLaws
made_keeps_laws s past m = keeps s past m

-- whatever goes out next, or nothing
pub made_after_out : (s : Setting) (past : List Act) → Made s past → Made s (after_out s past)
made_after_out s past m = by_next (next_out s past) refl
  where
    by_next : (o : Option Outgoing) → next_out s past ≡ o → Made s (with_out o past)
    by_next None e = m
    by_next (Some o) e = goes_out past o m e
