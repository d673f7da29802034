-- One poll after the other.
use Rattle.std.specs.Prelude.{◌≡◌, ◌⊎◌, ℕ, ◌+◌, Bool, true, false, List, [], Option, Some, None, Result, Ok, Err, IsErrOf, refl}
use Rattle.std.proofs.Common.{sym, subst, ap, ◌∙◌, inl, inr}
use Rattle.serial_line.specs.LineViews.{LineView}
use Rattle.modem_sim.specs.declared.error.SimError.{SimError}
use Rattle.modem_sim.specs.declared.error.SimError.TheVariants as why
use Rattle.modem_sim.specs.declared.sim.SimTurn.{SimTurn}
use Rattle.modem_sim.specs.declared.sim.SimTurn.TheVariants.{Moved, Idle, Ended}
use Rattle.modem_sim.specs.Acts.{any_act}
use Rattle.modem_sim.specs.Sims.{SimMachine, SimMachineGoes, SimState, SimGoes, end_given, has_failed}
use Rattle.modem_sim.specs.Polls.{Gives, MovesOn, Polls, PollsFrom, PollsOn, Runs, RunsInHistories, Says, StaysSound, Turned, ends, fails, goes_on, moves_none, moves_once, rests, waits_none, waits_once, with_given}
use Rattle.modem_sim.proofs.sims.SimPasts.{sim_machine_goes, sim_none, sim_then}
use Rattle.modem_sim.proofs.sims.PollHistories.{runs_in_histories}

-- an end that is kept says nothing of the past
machine_ending : (k : SimMachine) (end : Option (Result SimTurn SimError)) → SimMachineGoes any_act k (record k { end = end })
machine_ending k end e came went past fits = record {
  now = past;
  later = record { newer = []; joins = refl };
  only = refl;
  fits = record {
    wired = fits.wired;
    core_fits = fits.core_fits;
    n1_is = fits.n1_is;
    taken = fits.taken;
    came_is = fits.came_is;
    deframes = fits.deframes;
    went_is = fits.went_is;
  };
}

-- so keeping what a poll gave changes nothing of how it goes on
pub goes_given : {X : Type 0} (look : X → LineView) (old mid new : SimState X) (given : Option (Result SimTurn SimError)) → SimGoes look old mid → new ≡ with_given given mid → SimGoes look old new
goes_given look old mid new None goes stays = subst (SimGoes look old) (sym stays) goes
goes_given look old mid new (Some given) goes stays =
    let ended : SimState _ = with_given (Some given) mid in
    subst (SimGoes look old) (sym stays)
    (sim_then look old mid ended goes (sim_machine_goes look mid any_act ended.machine (machine_ending mid.machine ended.machine.end)))

-- ## What is given

never_failed : (r : Bool) (says : Result SimTurn SimError) → ¬ IsErrOf says why.Failed → (r ≡ true → IsErrOf says why.Failed) → r ≡ false
never_failed false says other told = refl
never_failed true says other told = absurd (other (told refl))

not_by_memory : ¬ IsErrOf {T = SimTurn} (Err why.NoMemory) why.Failed
not_by_memory is = cc

not_by_line : ¬ IsErrOf {T = SimTurn} (Err why.Line) why.Failed
not_by_line is = cc

not_by_answer : (turn : SimTurn) → ¬ IsErrOf (Ok turn) why.Failed
not_by_answer turn is = cc

no_other : IsErrOf {T = SimTurn} (Err why.BadN1) why.Line ⊎ (IsErrOf {T = SimTurn} (Err why.BadN1) why.NoMemory ⊎ IsErrOf {T = SimTurn} (Err why.BadN1) why.Failed) → ⊥
no_other (inl is) = cc
no_other (inr (inl is)) = cc
no_other (inr (inr is)) = cc

-- no call of the line failed
record KeepsSound {X : Type 0} (look : X → LineView) (old new : SimState X) : Type 0 where
  failed : has_failed new ≡ has_failed old
  same : (look new.line).failures ≡ (look old.line).failures

module _ {X : Type 0} (see : X → LineView) where
  sound_then : (a b c : SimState X) → KeepsSound see a b → KeepsSound see b c → KeepsSound see a c
  sound_then a b c p q = record { failed = q.failed ∙ p.failed; same = q.same ∙ p.same }

  turn_sound : (old new : SimState X) (turn : SimTurn) → Turned see old new (Ok turn) → KeepsSound see old new
  turn_sound old new turn t = record { failed = t.fails; same = t.sound (λ is. cc) }

  turned_so : (old new : SimState X) (why : SimError) → Turned see old new (Err why) → Says see old new (Err why)
  turned_so old new why.NoMemory t =
      let sound = never_failed (has_failed old) (Err why.NoMemory) not_by_memory t.failed.1 in
      record { before = sound; now = t.fails ∙ sound; none_failed = t.sound (λ is. cc) }
  turned_so old new why.BadN1 t = no_other t.others
  turned_so old new why.Line t =
      record { before = never_failed (has_failed old) (Err why.Line) not_by_line t.failed.1; now = t.fails; one_failed = t.failure refl }
  turned_so old new why.Failed t = record { before = t.failed.0 refl; now = t.fails ∙ t.failed.0 refl; none_failed = t.sound (λ is. cc) }

  ended_so : (old new : SimState X) → Turned see old new (Ok Ended) → Says see old new (Ok Ended)
  ended_so old new t =
      let sound = never_failed (has_failed old) (Ok Ended) (not_by_answer Ended) t.failed.1 in
      record { ended = t.ended refl; sound = record { before = sound; now = t.fails ∙ sound; none_failed = t.sound (λ is. cc) } }

  stays_behind : (old mid new : SimState X) → KeepsSound see old mid → StaysSound see mid new → StaysSound see old new
  stays_behind old mid new keeps so = record { before = sym keeps.failed ∙ so.before; now = so.now; none_failed = so.none_failed ∙ keeps.same }

  -- what it says of what came behind turns in which no call failed it says of them too
  says_behind : (old mid new : SimState X) (given : Result SimTurn SimError) → KeepsSound see old mid → Says see mid new given → Says see old new given
  says_behind old mid new (Ok Moved) keeps so = so
  says_behind old mid new (Ok Idle) keeps so = so
  says_behind old mid new (Ok Ended) keeps so = record { ended = so.ended; sound = stays_behind old mid new keeps so.sound }
  says_behind old mid new (Err why.NoMemory) keeps so = stays_behind old mid new keeps so
  says_behind old mid new (Err why.BadN1) keeps so = so
  says_behind old mid new (Err why.Line) keeps so =
      record { before = sym keeps.failed ∙ so.before; now = so.now; one_failed = so.one_failed ∙ ap (λ n. n + 1) keeps.same }
  says_behind old mid new (Err why.Failed) keeps so =
      record { before = sym keeps.failed ∙ so.before; now = so.now; none_failed = so.none_failed ∙ keeps.same }

  moved_sound : (old new : SimState X) (n : ℕ) → MovesOn see old n new → KeepsSound see old new
  moved_sound old _ _ moves_none = record { failed = refl; same = refl }
  moved_sound old _ _ (moves_once n mid new moves turn) = sound_then old mid new (moved_sound old mid n moves) (turn_sound mid new Moved turn)

  run_sound : (old new : SimState X) → Runs see old new None → KeepsSound see old new
  run_sound old new (goes_on moves) = moved_sound old new 64 moves
  run_sound old new (rests n mid few moves turn) = sound_then old mid new (moved_sound old mid n moves) (turn_sound mid new Idle turn)

  moved_end : (old new : SimState X) (n : ℕ) → MovesOn see old n new → end_given new ≡ end_given old
  moved_end old _ _ moves_none = refl
  moved_end old _ _ (moves_once n mid new moves turn) = turn.end ∙ moved_end old mid n moves

  run_end : (old new : SimState X) (given : Option (Result SimTurn SimError)) → Runs see old new given → end_given new ≡ end_given old
  run_end old new _ (goes_on moves) = moved_end old new 64 moves
  run_end old new _ (rests n mid few moves turn) = turn.end ∙ moved_end old mid n moves
  run_end old new _ (ends n mid few moves turn) = turn.end ∙ moved_end old mid n moves
  run_end old new _ (fails n mid why few moves turn) = turn.end ∙ moved_end old mid n moves

  run_so : (old new : SimState X) (given : Result SimTurn SimError) → Runs see old new (Some given) → Says see old new given
  run_so old new _ (ends n mid few moves turn) = says_behind old mid new (Ok Ended) (moved_sound old mid n moves) (ended_so mid new turn)
  run_so old new _ (fails n mid why few moves turn) = says_behind old mid new (Err why) (moved_sound old mid n moves) (turned_so mid new why turn)

  so_kept : (old s : SimState X) (given end : Result SimTurn SimError) → Says see old s end → Says see old (with_given (Some given) s) end
  so_kept old s given (Ok Moved) so = so
  so_kept old s given (Ok Idle) so = so
  so_kept old s given (Ok Ended) so =
      record { ended = so.ended; sound = record { before = so.sound.before; now = so.sound.now; none_failed = so.sound.none_failed } }
  so_kept old s given (Err why.NoMemory) so = record { before = so.before; now = so.now; none_failed = so.none_failed }
  so_kept old s given (Err why.BadN1) so = so
  so_kept old s given (Err why.Line) so = record { before = so.before; now = so.now; one_failed = so.one_failed }
  so_kept old s given (Err why.Failed) so = record { before = so.before; now = so.now; none_failed = so.none_failed }

  polled : (old new : SimState X) (given : Option (Result SimTurn SimError)) → end_given old ≡ None → Polls see old new given → PollsOn see old new given
  unfolding Polls
  polled old new given none polls = subst (λ end. PollsFrom see end old new given) none polls

  poll_end : (old new : SimState X) → end_given old ≡ None → Polls see old new None → end_given new ≡ None
  poll_end old new none polls =
      let on = polled old new None none polls in
      ap end_given on.stays ∙ run_end old on.mid None on.runs ∙ none

  poll_sound : (old new : SimState X) → end_given old ≡ None → Polls see old new None → KeepsSound see old new
  poll_sound old new none polls =
      let on = polled old new None none polls in
      subst (λ s. KeepsSound see old s) (sym on.stays) (run_sound old on.mid on.runs)

  poll_so : (old new : SimState X) (given : Result SimTurn SimError) → end_given old ≡ None → Polls see old new (Some given) → Says see old new given
  poll_so old new given none polls =
      let on = polled old new (Some given) none polls in
      subst (λ s. Says see old s given) (sym on.stays) (so_kept old on.mid given given (run_so old on.mid given on.runs))

  run_goes : (old new : SimState X) (given : Option (Result SimTurn SimError)) → RunsInHistories see old new given → SimGoes see old new
  run_goes old new given runs at e past fits = let from = runs at e past fits in record { now = from.now; later = from.later; fits = from.fits }

  poll_goes : (old new : SimState X) (given : Option (Result SimTurn SimError)) → Polls see old new given → SimGoes see old new
  unfolding Polls
  poll_goes old new given polls = by_end (end_given old) polls
    where
      by_end : (end : Option (Result SimTurn SimError)) → PollsFrom see end old new given → SimGoes see old new
      by_end (Some end) polls = subst (SimGoes see old) (sym polls.1) (sim_none see old)
      by_end None polls = goes_given see old polls.mid new given (run_goes old polls.mid given polls.through) polls.stays

  -- what it gives from here on it gave before
  pub gives_before : (old new : SimState X) (given : Result SimTurn SimError) → Polls see old new None → Gives see new given → Gives see old given
  gives_before old new given once gives = record {
    mid = gives.mid;
    new = gives.new;
    waits = waits_once old new gives.mid once gives.waits;
    waited = sim_then see old new gives.mid (poll_goes old new None once) gives.waited;
    polls = gives.polls;
    polled = gives.polled;
    says = λ none. says_behind old new gives.new given (poll_sound old new none once) (gives.says (poll_end old new none once));
  }

  -- what the next poll gives is what it gives from here on
  pub gives_now : (old new : SimState X) (given : Result SimTurn SimError) → Polls see old new (Some given) → Gives see old given
  gives_now old new given polls = record { mid = old; new = new; waits = waits_none old; waited = sim_none see old; polls = polls; polled = poll_goes old new (Some given) polls; says = λ none. poll_so old new given none polls }

-- ## A poll

-- where no end is kept
pub polls_on : {X : Type 0} (see : X → LineView) (old mid new : SimState X) (given : Option (Result SimTurn SimError)) → None ≡ old.machine.end → Runs see old mid given → new ≡ with_given given mid → Polls see old new given
unfolding Polls
polls_on see old mid new given none runs stays =
    let From : Option (Result SimTurn SimError) → Type 0 = λ end. PollsFrom see end old new given in
    subst From none (record { mid = mid; runs = runs; through = runs_in_histories see old mid given runs; stays = stays })

-- where one is
pub polls_again : {X : Type 0} (see : X → LineView) (s : SimState X) (end : Result SimTurn SimError) → Some end ≡ s.machine.end → Polls see s s (Some end)
unfolding Polls
polls_again see s end some =
    let From : Option (Result SimTurn SimError) → Type 0 = λ o. PollsFrom see o s s (Some end) in
    subst From some (refl, refl)
