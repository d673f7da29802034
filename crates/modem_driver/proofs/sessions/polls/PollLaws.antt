-- The turns of a poll, in each history of the session.
use Rattle.std.proofs.Common.{ap, sym, ◌∙◌, subst, arith, eqb-true, lit≤}
use Rattle.std.proofs.lemmas.Bool.{and_parts}
use Rattle.std.proofs.lemmas.List.{append-nil, append_assoc, append_cancel_left, nil_from_length, length-append}
use Rattle.std.proofs.lemmas.List.Concat.{flat_map-append}
use Rattle.std.specs.Prelude.{◌≡◌, ◌≢◌, ℕ, zero, suc, ◌+◌, ◌-◌, ◌^◌, ◌<◌, ◌≤◌, ◌==◌, ◌&&◌, ◌||◌, not, min, if◌then◌else◌, Bool, true, false, List, [], ◌∷◌, ◌++◌, length, take, refl, Option, None, Some, Result, Ok, Err}
use Rattle.mux_frame.specs.Frames.{Frame}
use Rattle.mux_frame.specs.Spelling.{spelled}
use Rattle.mux_station.specs.Sending.{queue}
use Rattle.mux_station.specs.Written.{is_data_frame}
use Rattle.modem_history.specs.Acts.{Act, Got, Sent, Given, after, wire}
use Rattle.modem_history.specs.Calls.{is_loss, is_lost}
use Rattle.modem_history.specs.Sessions.{Beginning, LineView, given_on, octets_of_frames}
use Rattle.modem_history.specs.Turns.{Exchange, IsTurn, IsFault, Offers, TurnAnswer, Write, calls_made, counted, octets_written}
use Rattle.modem_driver.specs.declared.machine.course.Course.{Course}
use Rattle.modem_driver.specs.declared.machine.course.Course.TheVariants as course
use Rattle.modem_driver.specs.declared.session.polling.Progress.{Progress}
use Rattle.modem_driver.specs.declared.session.polling.Progress.TheVariants as progress
use Rattle.modem_driver.specs.declared.session.ending.Ended.{Ended}
use Rattle.modem_driver.specs.declared.session.ending.Ended.TheVariants.{Stopped}
use Rattle.modem_driver.specs.declared.session.error.SessionFault.{SessionFault}
use Rattle.modem_driver.specs.declared.session.error.SessionFault.TheVariants as fault
use Rattle.modem_driver.specs.SessionStates.{Machine, SessionState, FitsAll, has_lost_line, session_view}
use Rattle.modem_driver.specs.SessionTurns.{Faults, TakesTurn, fault_of}
use Rattle.modem_driver.specs.Polls.{MovesOn, Polls, PollsFrom, PollsOn, Waits, end_given, end_in, ends, fails, given_by, goes_on, has_ended, is_stopped, moves_none, moves_once, rests, waits_none, waits_once}
use Rattle.modem_driver.specs.PollLaws.{CallsTheLine, LostFails, LostGivesFailed, MovesThrough, NoLossIsKeptBack, NoLossIsStopped, RunsInHistories, RunsThrough, IsSession, all_through, ended_through, fails_through, rests_through, through_none, through_once}

record Through {X : Type 0} (look : X → LineView) (b : Beginning) (old : SessionState X) (past : List Act) (n : ℕ) (new : SessionState X) : Type 0 where
  now : List Act
  fits : FitsAll b look new now
  moves : MovesThrough look b old past n new now

module _ {X : Type 0} (look : X → LineView) where
  moves_through : (b : Beginning) (past : List Act) (old new : SessionState X) (n : ℕ) → FitsAll b look old past → MovesOn look old n new → Through look b old past n new
  unfolding TakesTurn
  moves_through b past old _ _ f moves_none = record { now = past; fits = f; moves = through_none f }
  moves_through b past old _ _ f (moves_once n mid new moves turn) =
      let before = moves_through b past old mid n f moves in
      let acts = turn.turn.acts in
      let here = turn.turn.goes b before.now before.fits in
      record {
        now = after before.now acts;
        fits = here;
        moves = through_once n mid new before.now acts turn.turn.exchange before.moves turn.going here (turn.turn.turn b before.now before.fits) (turn.turn.steps b before.now before.fits);
      }

  -- the turns of a poll are turns of each history that the session fits, one after the other
  pub runs_in_histories : RunsInHistories look
  unfolding RunsInHistories TakesTurn Faults
  runs_in_histories b past old new _ f (goes_on moves) =
      let t = moves_through b past old new 64 f moves in
      record { now = t.now; through = all_through t.now t.moves }
  runs_in_histories b past old new _ f (ends n few moves e) =
      let t = moves_through b past old new n f moves in
      record { now = t.now; through = ended_through n t.now few t.moves e }
  runs_in_histories b past old new _ f (rests n mid says few moves turn other) =
      let t = moves_through b past old mid n f moves in
      let acts = turn.turn.acts in
      record {
        now = after t.now acts;
        through = rests_through n mid t.now acts turn.turn.exchange says few t.moves turn.going (turn.turn.goes b t.now t.fits) (turn.turn.turn b t.now t.fits) (turn.turn.steps b t.now t.fits) other;
      }
  runs_in_histories b past old new _ f (fails n mid why few moves turn) =
      let t = moves_through b past old mid n f moves in
      let acts = turn.fault.acts in
      record {
        now = after t.now acts;
        through = fails_through n mid t.now acts turn.fault.exchange why few t.moves turn.going (turn.fault.goes b t.now t.fits) (turn.fault.fault b t.now t.fits) (turn.fault.offers b t.now t.fits);
      }

-- ## What a turn says of a loss and of the line's calls

or_right : (x y : Bool) → y ≡ true → (x || y) ≡ true
or_right true y e = refl
or_right false y e = e

lost_since : (acts past : List Act) → is_lost past ≡ true → is_lost (after past acts) ≡ true
lost_since [] past h = h
lost_since (a ∷ acts) past h = lost_since acts (a ∷ past) (or_right (is_loss a) (is_lost past) h)

not_so : (c : Bool) → not c ≡ true → c ≡ true → ⊥
not_so false e h = let x : false ≡ true = h in cc
not_so true e h = let x : false ≡ true = e in cc

-- more was given on
record GivesMore (past : List Act) (acts : List Act) : Type 0 where
  more : List Frame
  given : given_on (after past acts) ≡ given_on past ++ more

gives_one : (a : Act) (past : List Act) → GivesMore past (a ∷ [])
gives_one Given past = record { more = take 1 (queue (wire past)); given = refl }
gives_one (Sent f) past = by (is_data_frame f) refl
  where
    by : (c : Bool) → is_data_frame f ≡ c → GivesMore past (Sent f ∷ [])
    by true e = record { more = f ∷ []; given = rw e refl }
    by false e = record { more = []; given = rw e (sym (append-nil (given_on past))) }
gives_one (Got f) past = record { more = []; given = sym (append-nil (given_on past)) }
gives_one _ past = record { more = []; given = sym (append-nil (given_on past)) }

gives_more : (past acts : List Act) → GivesMore past acts
gives_more past [] = record { more = []; given = sym (append-nil (given_on past)) }
gives_more past (a ∷ acts) =
    let one = gives_one a past in
    let rest = gives_more (a ∷ past) acts in
    record {
      more = one.more ++ rest.more;
      given = rest.given ∙ (ap (λ (fs : List Frame). fs ++ rest.more) one.given ∙ append_assoc (given_on past) one.more rest.more);
    }

fewer : (n k m : ℕ) → n < m → n < min (n + suc k) m
fewer n k m less = omega (arith, less)

abbrev counted_to : ℕ → ℕ → ℕ → ℕ
counted_to m n zero = n
counted_to m n (suc k) = min (n + suc k) m

no_fewer : (m n k : ℕ) → n ≤ m → n ≤ counted_to m n k
no_fewer m n zero few = omega arith
no_fewer m n (suc k) few = omega (arith, few)

at_most : (m n k : ℕ) → n ≤ m → counted_to m n k ≤ m
at_most m n zero few = few
at_most m n (suc k) few = omega arith

some_fewer : (m n k : ℕ) → n < m → 1 ≤ k → n < counted_to m n k
some_fewer m n zero less some = omega (arith, some)
some_fewer m n (suc k) less some = fewer n k m less

same_count : (n k : ℕ) → counted n k ≡ counted_to (2 ^ 64 - 1) n k
same_count n zero = refl
same_count n (suc k) = refl

-- ## A turn in a history

module _ {X : Type 0} (look : X → LineView) where
  -- where it isn't a fault the line isn't lost
  sound_turn : (b : Beginning) (old new : SessionState X) (t : Exchange) (before acts : List Act) (says : TurnAnswer) → FitsAll b look new (after before acts)
      → IsTurn b (session_view look old) (session_view look new) t before acts says → is_lost (after before acts) ≡ true → ⊥
  sound_turn b old new t before acts says f turn lost =
      let more = f.session.loss.by_fault lost in
      let same = turn.sound in
      omega (arith, more, same)

  not_ended : (k : Machine) → has_ended k ≡ true → k.core.lost ≡ true → ⊥
  not_ended k e lost =
      let p1 = and_parts (is_stopped k.course) (not k.core.lost && ((length k.unwritten == 0) && ((length k.core.station.queue == 0) && (length k.unplaced == 0)))) e in
      let p2 = and_parts (not k.core.lost) ((length k.unwritten == 0) && ((length k.core.station.queue == 0) && (length k.unplaced == 0))) p1.1 in
      not_so k.core.lost p2.0 lost

  -- a lost line stays so
  lost_through : (b : Beginning) (past : List Act) (old new : SessionState X) (n : ℕ) (now : List Act) → MovesThrough look b old past n new now → is_lost past ≡ true → is_lost now ≡ true
  lost_through b past old _ _ _ (through_none f) lost = lost
  lost_through b past old _ _ _ (through_once n mid new before acts t moves going f turn steps) lost = lost_since acts before (lost_through b past old mid n before moves lost)

  -- so no turn is made that answers Moved
  none_moved : (b : Beginning) (past : List Act) (old new : SessionState X) (n : ℕ) (now : List Act) → 1 ≤ n → MovesThrough look b old past n new now → is_lost now ≡ true → ⊥
  none_moved b past old _ _ _ some (through_none f) lost = omega (arith, some)
  none_moved b past old _ _ _ some (through_once n mid new before acts t moves going f turn steps) lost = sound_turn b mid new t before acts TurnAnswer.Moved f turn lost

  -- an end without a fault is one with a sound line
  sound_run : (b : Beginning) (past : List Act) (old new : SessionState X) (now : List Act) → FitsAll b look new now → (more : Bool) → RunsThrough look b old past new now (Ok more) → is_lost now ≡ true → ⊥
  sound_run b past old new _ f _ (all_through now moves) lost = none_moved b past old new 64 now (lit≤ tt) moves lost
  sound_run b past old new _ f _ (ended_through n now few moves e) lost = not_ended new.machine e (sym f.inside.fits.lost_is ∙ lost)
  sound_run b past old new _ f _ (rests_through n mid before acts t says few moves going g turn steps other) lost = sound_turn b mid new t before acts says g turn lost

  new_fits : (b : Beginning) (past : List Act) (old new : SessionState X) (n : ℕ) (now : List Act) → MovesThrough look b old past n new now → FitsAll b look new now
  new_fits b past old _ _ _ (through_none f) = f
  new_fits b past old _ _ _ (through_once n mid new before acts t moves going f turn steps) = f

  run_fits : (b : Beginning) (past : List Act) (old new : SessionState X) (now : List Act) (ran : Result Bool SessionFault) → RunsThrough look b old past new now ran → FitsAll b look new now
  run_fits b past old new _ _ (all_through now moves) = new_fits b past old new 64 now moves
  run_fits b past old new _ _ (ended_through n now few moves e) = new_fits b past old new n now moves
  run_fits b past old new _ _ (rests_through n mid before acts t says few moves going g turn steps other) = g
  run_fits b past old new _ _ (fails_through n mid before acts t why few moves going g turn offers) = g

  live_fault : (b : Beginning) (old new : SessionState X) (t : Exchange) (before acts : List Act) (why : SessionFault) → IsFault b (session_view look old) (session_view look new) t before acts (fault_of why) → is_lost before ≡ true → why ≡ fault.Failed
  live_fault b old new t before acts fault.NoMemory h lost = let live = h.means.live in let x : false ≡ true = sym live ∙ lost_since acts before lost in absurd (let y : false ≡ true = x in cc)
  live_fault b old new t before acts fault.Line h lost = let live = h.means.live in let x : false ≡ true = sym live ∙ lost in absurd (let y : false ≡ true = x in cc)
  live_fault b old new t before acts fault.Failed h lost = refl

  lost_run : (b : Beginning) (past : List Act) (old new : SessionState X) (now : List Act) (ran : Result Bool SessionFault) → FitsAll b look old past → RunsThrough look b old past new now ran → is_lost past ≡ true → ran ≡ Err fault.Failed
  lost_run b past old new _ _ f (all_through now moves) lost = absurd (none_moved b past old new 64 now (lit≤ tt) moves (lost_through b past old new 64 now moves lost))
  lost_run b past old new _ _ f (ended_through n now few moves e) lost =
      absurd (not_ended new.machine e (sym (new_fits b past old new n now moves).inside.fits.lost_is ∙ lost_through b past old new n now moves lost))
  lost_run b past old new _ _ f (rests_through n mid before acts t says few moves going g turn steps other) lost =
      absurd (sound_turn b mid new t before acts says g turn (lost_since acts before (lost_through b past old mid n before moves lost)))
  lost_run b past old new _ _ f (fails_through n mid before acts t why few moves going g turn offers) lost =
      ap (λ (w : SessionFault). Err w) (live_fault b mid new t before acts why turn (lost_through b past old mid n before moves lost))

  -- ## What isn't a poll

  -- the turns of a session whose line is lost come to Failed
  pub lost_fails : LostFails look
  unfolding LostFails RunsInHistories
  lost_fails old new ran s lost runs =
      let h = runs_in_histories look s.b s.past old new ran s.fits runs in
      lost_run s.b s.past old new h.now ran s.fits h.through (s.fits.inside.fits.lost_is ∙ lost)

  -- turns that leave the line lost end in a fault
  pub no_loss_is_kept_back : NoLossIsKeptBack look
  unfolding NoLossIsKeptBack RunsInHistories
  no_loss_is_kept_back old new more s lost runs =
      let h = runs_in_histories look s.b s.past old new (Ok more) s.fits runs in
      let f = run_fits s.b s.past old new h.now (Ok more) h.through in
      sound_run s.b s.past old new h.now f more h.through (f.inside.fits.lost_is ∙ lost)

  -- where octets wait a turn calls the line
  writes : (b : Beginning) (old new : SessionState X) (t : Exchange) (before acts : List Act) (says : TurnAnswer) → FitsAll b look old before → FitsAll b look new (after before acts)
      → IsTurn b (session_view look old) (session_view look new) t before acts says → old.machine.unwritten ≢ [] → (w : Option Write) → t.write ≡ w → 1 ≤ calls_made w
  writes b old new t before acts says f g turn some (Some w) e = lit≤ tt
  writes b old new t before acts says f g turn some None e =
      let o = f.session.sent in
      let n = g.session.sent in
      let empty : new.machine.unwritten ≡ [] = subst (λ (x : Option Write). Offers x new.machine.unwritten) e turn.offers in
      let went : (look new.line).sent ≡ (look old.line).sent = turn.exchanges.went ∙ (ap (λ (x : Option Write). (look old.line).sent ++ octets_written x) e ∙ append-nil (look old.line).sent) in
      let same : n.since ≡ o.since = append_cancel_left b.line.sent n.since o.since (sym n.sent_are ∙ (went ∙ o.sent_are)) in
      let more = gives_more before acts in
      let later = octets_of_frames more.more in
      let both : o.since ≡ o.since ++ (old.machine.unwritten ++ later) =
      sym same
      ∙ (sym (append-nil n.since)
      ∙ (ap (λ (xs : List ℕ). n.since ++ xs) (sym empty)
      ∙ (n.frames_are
      ∙ (ap octets_of_frames more.given
      ∙ (flat_map-append spelled (given_on before) more.more
      ∙ (ap (λ (xs : List ℕ). xs ++ later) (sym o.frames_are)
      ∙ append_assoc o.since old.machine.unwritten later)))))) in
      let lengths = ap length both ∙ length-append o.since (old.machine.unwritten ++ later) in
      let parts = length-append old.machine.unwritten later in
      let none : length old.machine.unwritten ≡ 0 = omega (arith, lengths, parts) in
      absurd (some (nil_from_length old.machine.unwritten none))

  -- the line has no fewer calls behind such turns, and more where octets waited
  record Called (old new : SessionState X) (n : ℕ) : Type 0 where
    bound : (look new.line).calls ≤ 2 ^ 64 - 1
    none : n ≡ 0 → new ≡ old
    some : 1 ≤ n → (look old.line).calls < (look new.line).calls

  counts : (b : Beginning) (old new : SessionState X) (t : Exchange) (before acts : List Act) (says : TurnAnswer) → IsTurn b (session_view look old) (session_view look new) t before acts says
      → (look new.line).calls ≡ counted_to (2 ^ 64 - 1) (look old.line).calls (calls_made t.write + calls_made t.read)
  counts b old new t before acts says turn = turn.exchanges.calls ∙ same_count (look old.line).calls (calls_made t.write + calls_made t.read)

  within : (b : Beginning) (old new : SessionState X) (t : Exchange) (before acts : List Act) (says : TurnAnswer) → IsTurn b (session_view look old) (session_view look new) t before acts says
      → (look old.line).calls ≤ 2 ^ 64 - 1 → (look new.line).calls ≤ 2 ^ 64 - 1
  within b old new t before acts says turn few =
      subst (λ n. n ≤ 2 ^ 64 - 1) (sym (counts b old new t before acts says turn)) (at_most (2 ^ 64 - 1) (look old.line).calls (calls_made t.write + calls_made t.read) few)

  keeps_calls : (b : Beginning) (old new : SessionState X) (t : Exchange) (before acts : List Act) (says : TurnAnswer) → IsTurn b (session_view look old) (session_view look new) t before acts says
      → (look old.line).calls ≤ 2 ^ 64 - 1 → (look old.line).calls ≤ (look new.line).calls
  keeps_calls b old new t before acts says turn few =
      subst (λ n. (look old.line).calls ≤ n) (sym (counts b old new t before acts says turn)) (no_fewer (2 ^ 64 - 1) (look old.line).calls (calls_made t.write + calls_made t.read) few)

  more_calls : (b : Beginning) (old new : SessionState X) (t : Exchange) (before acts : List Act) (says : TurnAnswer) → IsTurn b (session_view look old) (session_view look new) t before acts says
      → (look old.line).calls < 2 ^ 64 - 1 → 1 ≤ calls_made t.write + calls_made t.read → (look old.line).calls < (look new.line).calls
  more_calls b old new t before acts says turn few some =
      subst (λ n. (look old.line).calls < n) (sym (counts b old new t before acts says turn)) (some_fewer (2 ^ 64 - 1) (look old.line).calls (calls_made t.write + calls_made t.read) few some)

  -- one turn more
  calls_on : (b : Beginning) (old mid new : SessionState X) (n : ℕ) (t : Exchange) (before acts : List Act) (says : TurnAnswer) → old.machine.unwritten ≢ [] → (look old.line).calls < 2 ^ 64 - 1 → FitsAll b look mid before
      → Called old mid n → FitsAll b look new (after before acts) → IsTurn b (session_view look mid) (session_view look new) t before acts says → Called old new (n + 1)
  calls_on b old mid new zero t before acts says some few f so g turn =
      let same = so.none refl in
      let waits : mid.machine.unwritten ≢ [] = λ e. some (sym (ap (λ (s : SessionState X). s.machine.unwritten) same) ∙ e) in
      let wrote = writes b mid new t before acts says f g turn waits t.write refl in
      let here : (look mid.line).calls ≡ (look old.line).calls = ap (λ (s : SessionState X). (look s.line).calls) same in
      let less : (look mid.line).calls < 2 ^ 64 - 1 = subst (λ n. n < 2 ^ 64 - 1) (sym here) few in
      let made : 1 ≤ calls_made t.write + calls_made t.read = omega (arith, wrote) in
      let rises = more_calls b mid new t before acts says turn less made in
      record {
        bound = within b mid new t before acts says turn so.bound;
        none = λ e. absurd (let x : 0 + 1 ≡ 0 = e in omega (arith, x));
        some = λ e. subst (λ n. n < (look new.line).calls) here rises;
      }
  calls_on b old mid new (suc n) t before acts says some few f so g turn =
      let keeps = keeps_calls b mid new t before acts says turn so.bound in
      let one : 1 ≤ suc n = omega arith in
      let rose = so.some one in
      record {
        bound = within b mid new t before acts says turn so.bound;
        none = λ e. absurd (omega (arith, e));
        some = λ e. omega (arith, keeps, rose);
      }

  called : (b : Beginning) (past : List Act) (old new : SessionState X) (n : ℕ) (now : List Act) → old.machine.unwritten ≢ [] → (look old.line).calls < 2 ^ 64 - 1 → MovesThrough look b old past n new now → Called old new n
  called b past old _ _ _ some few (through_none f) = record { bound = omega (arith, few); none = λ e. refl; some = λ e. absurd (omega (arith, e)) }
  called b past old _ _ _ some few (through_once n mid new before acts t moves going f turn steps) =
      calls_on b old mid new n t before acts TurnAnswer.Moved some few (new_fits b past old mid n before moves) (called b past old mid n before some few moves) f turn

  -- where octets wait it hasn't ended
  not_written : (k : Machine) → has_ended k ≡ true → k.unwritten ≡ []
  not_written k e =
      let p1 = and_parts (is_stopped k.course) (not k.core.lost && ((length k.unwritten == 0) && ((length k.core.station.queue == 0) && (length k.unplaced == 0)))) e in
      let p2 = and_parts (not k.core.lost) ((length k.unwritten == 0) && ((length k.core.station.queue == 0) && (length k.unplaced == 0))) p1.1 in
      let p3 = and_parts (length k.unwritten == 0) ((length k.core.station.queue == 0) && (length k.unplaced == 0)) p2.1 in
      nil_from_length k.unwritten (eqb-true (length k.unwritten) 0 p3.0)

  some_moves : (old new : SessionState X) (n : ℕ) → old.machine.unwritten ≢ [] → has_ended new.machine ≡ true → Called old new n → 1 ≤ n
  some_moves old new zero some e so =
      absurd (some (sym (ap (λ (s : SessionState X). s.machine.unwritten) (so.none refl)) ∙ not_written new.machine e))
  some_moves old new (suc n) some e so = omega arith

  ran_calls : (b : Beginning) (past : List Act) (old new : SessionState X) (now : List Act) → old.machine.unwritten ≢ [] → (look old.line).calls < 2 ^ 64 - 1 → (more : Bool) → RunsThrough look b old past new now (Ok more)
      → (look old.line).calls < (look new.line).calls
  ran_calls b past old new _ some few _ (all_through now moves) = (called b past old new 64 now some few moves).some (lit≤ tt)
  ran_calls b past old new _ some few _ (ended_through n now small moves e) =
      let so = called b past old new n now some few moves in
      so.some (some_moves old new n some e so)
  ran_calls b past old new _ some few _ (rests_through n mid before acts t says small moves going g turn steps other) =
      (calls_on b old mid new n t before acts says some few (new_fits b past old mid n before moves) (called b past old mid n before some few moves) g turn).some (omega arith)

  -- where octets wait, a poll without a fault calls the line
  pub calls_the_line : CallsTheLine look
  unfolding CallsTheLine RunsInHistories
  calls_the_line old new more s some few runs =
      let h = runs_in_histories look s.b s.past old new (Ok more) s.fits runs in
      ran_calls s.b s.past old new h.now some few more h.through

  -- Stopped is given where it has ended, with a sound line
  pub no_loss_is_stopped : NoLossIsStopped look
  unfolding NoLossIsStopped
  no_loss_is_stopped old new s lost polls = by polls.ran polls.given_is
    where
      mid_lost : has_lost_line polls.mid ≡ true
      mid_lost = sym (ap has_lost_line polls.stays) ∙ lost

      by_end : (more c : Bool) → has_ended polls.mid.machine ≡ c → progress.Ended (Ok Stopped) ≡ (if c then progress.Ended (Ok Stopped) else if more then progress.More else progress.Idle) → ⊥
      by_end more true e g = not_ended polls.mid.machine e mid_lost
      by_end true false e g = cc
      by_end false false e g = cc

      by : (ran : Result Bool SessionFault) → progress.Ended (Ok Stopped) ≡ given_by polls.mid.machine ran → ⊥
      by (Ok more) g = by_end more (has_ended polls.mid.machine) refl g
      by (Err why) g = let x : Some (Ok Stopped) ≡ Some (Err why) = ap end_in g in cc

  -- ## What a future of it gives

  on_from : (old new : SessionState X) (given : Progress) → end_given old.machine.course ≡ None → Polls look old new given → PollsOn look old new given
  on_from old new given none p = by old.machine.course none p
    where
      by : (c : Course) → end_given c ≡ None → PollsFrom look c old new given → PollsOn look old new given
      by course.GoesOn e p = p
      by course.Stopped e p = p
      by (course.Ended end) e p = let x : Some end ≡ None = e in absurd (let y : Some end ≡ None = x in cc)

  lost_polls : (old new : SessionState X) (given : Progress) → IsSession look old → has_lost_line old ≡ true → end_given old.machine.course ≡ None → Polls look old new given
      → given ≡ progress.Ended (Err fault.Failed)
  unfolding LostFails
  lost_polls old new given s lost none polls =
      let on = on_from old new given none polls in
      let failed = lost_fails old on.mid on.ran s lost on.runs in
      on.given_is ∙ ap (given_by on.mid.machine) failed

  -- where the line is lost and no poll gave an end, the end that is given in the future is Failed
  pub lost_gives_failed : LostGivesFailed look
  unfolding LostGivesFailed
  lost_gives_failed s given here lost none g = by g.mid g.waits g.polls
    where
      same : (x y : Result Ended SessionFault) → progress.Ended x ≡ progress.Ended y → x ≡ y
      same x y e = let some : Some x ≡ Some y = ap end_in e in cc

      no : {x : Result Ended SessionFault} → None ≡ Some x → ⊥
      no e = cc

      by : (mid : SessionState X) → Waits look s mid → Polls look mid g.new (progress.Ended given) → given ≡ Err fault.Failed
      by _ (waits_none _) p = same given (Err fault.Failed) (lost_polls s g.new (progress.Ended given) here lost none p)
      by _ (waits_once _ next mid first polls no_end rest) p = absurd (no (sym no_end ∙ ap end_in (lost_polls s next first here lost none polls)))
