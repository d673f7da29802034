-- Octets that are read, fed and written: the session fits its history as before.
use Rattle.std.proofs.Common.{ap, sym, ◌∙◌, subst, arith, take-append-drop}
use Rattle.std.proofs.lemmas.List.{append_assoc, append-nil, drop-drop}
use Rattle.std.specs.Prelude.{◌≡◌, ℕ, ◌+◌, ◌<◌, ◌≤◌, nat_lt, Bool, true, false, List, [], ◌++◌, length, take, drop, map, refl, Option}
use Rattle.std.specs.List.{list_all}
use Rattle.mux_frame.specs.Deframing.{Deframing, TakesIn}
use Rattle.modem_desk.specs.declared.request.Request.{Request}
use Rattle.modem_desk.specs.declared.request.Outcome.{Outcome}
use Rattle.modem_desk.specs.Ends.{DriverView}
use Rattle.modem_history.specs.Acts.{Act, in_hand}
use Rattle.modem_history.specs.Requests.{are_distinct}
use Rattle.modem_history.specs.Sessions.{Beginning, LineView, EndView, SessionView, SessionFits, FitsLoss, FitsReceived, FitsSent, gots, given_on, last_octets, heard_as, driving}
use Rattle.modem_core.specs.Cores.{Core, Fits, IsSettingOf}
use Rattle.modem_core.specs.Holding.{HoldsFit}
use Rattle.modem_driver.specs.Endings.{HasCome}
use Rattle.modem_driver.specs.WaitingTicks.{AreDelays}
use Rattle.modem_driver.specs.declared.machine.delays.Delay.{Delay}
use Rattle.modem_driver.specs.SessionStates.{Machine, MachineFits, MachineGoes, MachineMoves, seen_by, end_of}
use Rattle.modem_driver.proofs.sessions.polls.StopProgress.{come_on, grows_none, grows_sent}
use Rattle.modem_driver.proofs.sessions.steps.WaitingDeliveries.{told_part, heard_part, sent_part, received_part}

-- where the desk and what waits for it stay
pub session_with : (b : Beginning) (old new : SessionView) (past : List Act) → SessionFits b old past → new.desk ≡ old.desk → new.unplaced ≡ old.unplaced → map heard_as new.unannounced ≡ map heard_as old.unannounced
    → FitsLoss b new past → FitsReceived b new past → FitsSent b new past → SessionFits b new past
session_with b old new past f desk unplaced unannounced loss received sent = record {
  history = f.history;
  loss = loss;
  requests = record {
    taken_are = ap (λ (e : EndView). e.taken) desk ∙ f.requests.taken_are;
    once = ap (λ (e : EndView). are_distinct (drop (length b.desk.taken) e.taken)) desk ∙ f.requests.once;
    callers = ap (λ (e : EndView). list_all (λ (q : Request). nat_lt q.caller b.callers) (drop (length b.desk.taken) e.taken)) desk ∙ f.requests.callers;
    few = subst (λ (os : List Outcome). length (in_hand past) + length os ≤ 128) (sym unplaced) f.requests.few;
  };
  received = received;
  sent = sent;
  told = told_part b old new past [] f.told (ap (λ (e : EndView). e.told) desk) (unplaced ∙ sym (append-nil old.unplaced)) refl;
  heard = heard_part b old new past [] f.heard (ap (λ (e : EndView). e.announced) desk) (unannounced ∙ sym (append-nil (map heard_as old.unannounced))) refl;
}

-- where no fewer calls have failed the history's loss still has its cause
pub loss_with : (b : Beginning) (old new : SessionView) (past : List Act) → SessionFits b old past → old.line.failures ≤ new.line.failures → FitsLoss b new past
loss_with b old new past f more = record {
  one = f.loss.one;
  by_fault = λ gone. let before = f.loss.by_fault gone in omega arith;
}

-- ## Feeding

-- the first of them that wait go into the deframer
pub feed_goes : (old : Machine) (fed : Deframing) (count : ℕ) → TakesIn old.deframer (take count old.unfed) fed → fed.n1 ≡ old.deframer.n1 → MachineGoes old (record old { unfed = drop count old.unfed; deframer = fed }) []
unfolding MachineGoes
feed_goes old fed count takes bound b l d past f =
    let new : Machine = record old { unfed = drop count old.unfed; deframer = fed } in
    let v = seen_by l (end_of d) old in
    let w = seen_by l (end_of d) new in
    let r = f.session.received in
    let head = take count old.unfed in
    let rest = drop count old.unfed in
    record {
      session = session_with b v w past f.session refl refl refl (loss_with b v w past f.session (omega arith))
          (record {
            fed = r.fed ++ head;
            received_are =
                r.received_are
                ∙ (ap (λ (xs : List ℕ). (b.line.received ++ r.fed) ++ xs) (sym (take-append-drop count old.unfed))
                ∙ (sym (append_assoc (b.line.received ++ r.fed) head rest)
                ∙ ap (λ (xs : List ℕ). xs ++ rest) (append_assoc b.line.received r.fed head)));
            bound = bound ∙ r.bound;
            deframes = takes r.fed (gots past) r.deframes;
          })
          (sent_part b v w past past f.session.sent refl refl refl);
      inside = record {
        setting = f.inside.setting;
        fits = f.inside.fits;
        holds = f.inside.holds;
        kinds_are = f.inside.kinds_are;
        callers_are = f.inside.callers_are;
        sound = f.inside.sound;
        by_fault = f.inside.by_fault;
        one_stop = f.inside.one_stop;
        delays_are = f.inside.delays_are;
        come = come_on b v w past [] old.course (λ h. h) (grows_none v w refl refl) f.inside.come;
      };
    }

-- ## Reading and writing

-- what else is kept goes on where no call failed
inside_sound : (b : Beginning) (l m : LineView) (d : DriverView) (old new : Machine) (past : List Act) → MachineFits b l d old past → new.core ≡ old.core → new.delays ≡ old.delays → new.faulty ≡ old.faulty → m.failures ≡ l.failures → HasCome b (seen_by m (end_of d) new) past new.course → MachineFits b m d new past
inside_sound b l m d old new past f core delays faulty same come = record {
  setting = subst (λ (c : Core). IsSettingOf (driving b) c) (sym core) f.setting;
  fits = subst (λ (c : Core). Fits c past) (sym core) f.fits;
  holds = subst (λ (c : Core). HoldsFit c past) (sym core) f.holds;
  kinds_are = f.kinds_are;
  callers_are = f.callers_are;
  sound = λ h. same ∙ f.sound (sym faulty ∙ h);
  by_fault = λ h. let before = f.by_fault (sym faulty ∙ h) in omega arith;
  one_stop = f.one_stop;
  delays_are = subst (λ (ds : List (Option Delay)). AreDelays ds past) (sym delays) f.delays_are;
  come = come;
}

-- and where one did
inside_faulty : (b : Beginning) (l m : LineView) (d : DriverView) (old new : Machine) (past : List Act) → MachineFits b l d old past → new.core ≡ old.core → new.delays ≡ old.delays → new.faulty ≡ true → m.failures ≡ l.failures + 1 → HasCome b (seen_by m (end_of d) new) past new.course → MachineFits b m d new past
inside_faulty b l m d old new past f core delays faulty more come = record {
  setting = subst (λ (c : Core). IsSettingOf (driving b) c) (sym core) f.setting;
  fits = subst (λ (c : Core). Fits c past) (sym core) f.fits;
  holds = subst (λ (c : Core). HoldsFit c past) (sym core) f.holds;
  kinds_are = f.kinds_are;
  callers_are = f.callers_are;
  sound = λ h. no_fault (sym h ∙ faulty);
  by_fault = λ h. by_old old.faulty refl;
  one_stop = f.one_stop;
  delays_are = subst (λ (ds : List (Option Delay)). AreDelays ds past) (sym delays) f.delays_are;
  come = come;
}
  where
    no_fault : {P : Type 0} → false ≡ true → P
    no_fault e = cc

    by_old : (c : Bool) → old.faulty ≡ c → b.line.failures < m.failures
    by_old false e = let same = f.sound e in omega arith
    by_old true e = let before = f.by_fault e in omega arith

-- octets that came wait to be fed
pub read_goes : (l m : LineView) (old : Machine) (came : List ℕ) → old.unfed ≡ [] → m.received ≡ l.received ++ came → m.sent ≡ l.sent → m.failures ≡ l.failures
    → MachineMoves l m old (record old { unfed = came })
unfolding MachineMoves
read_goes l m old came none received sent failures b d past f =
    let new : Machine = record old { unfed = came } in
    let v = seen_by l (end_of d) old in
    let w = seen_by m (end_of d) new in
    let r = f.session.received in
    let before : l.received ≡ b.line.received ++ r.fed = r.received_are ∙ (ap (λ (xs : List ℕ). (b.line.received ++ r.fed) ++ xs) none ∙ append-nil (b.line.received ++ r.fed)) in
    record {
      session = session_with b v w past f.session refl refl refl (loss_with b v w past f.session (omega arith))
          (record {
            fed = r.fed;
            received_are = received ∙ ap (λ (xs : List ℕ). xs ++ came) before;
            bound = r.bound;
            deframes = r.deframes;
          })
          (sent_part b v w past past f.session.sent sent refl refl);
      inside = inside_sound b l m d old new past f.inside refl refl refl failures (come_on b v w past [] old.course (λ h. h) (grows_none v w sent refl) f.inside.come);
    }

-- a call that failed changed neither list
pub fault_goes : (l m : LineView) (old : Machine) → m.received ≡ l.received → m.sent ≡ l.sent → m.failures ≡ l.failures + 1
    → MachineMoves l m old (record old { faulty = true })
unfolding MachineMoves
fault_goes l m old received sent failures b d past f =
    let new : Machine = record old { faulty = true } in
    let v = seen_by l (end_of d) old in
    let w = seen_by m (end_of d) new in
    record {
      session = session_with b v w past f.session refl refl refl (loss_with b v w past f.session (omega arith))
          (received_part b v w past past f.session.received received refl refl refl)
          (sent_part b v w past past f.session.sent sent refl refl);
      inside = inside_faulty b l m d old new past f.inside refl refl refl failures (come_on b v w past [] old.course (λ h. h) (grows_none v w sent refl) f.inside.come);
    }

-- octets that were taken wait no more
pub write_goes : (l m : LineView) (old : Machine) (count : ℕ) → m.received ≡ l.received → m.sent ≡ l.sent ++ take count old.unwritten → m.failures ≡ l.failures
    → MachineMoves l m old (record old { unwritten = drop count old.unwritten })
unfolding MachineMoves
write_goes l m old count received sent failures b d past f =
    let new : Machine = record old { unwritten = drop count old.unwritten } in
    let v = seen_by l (end_of d) old in
    let w = seen_by m (end_of d) new in
    let s = f.session.sent in
    let head = take count old.unwritten in
    let rest = drop count old.unwritten in
    record {
      session = session_with b v w past f.session refl refl refl (loss_with b v w past f.session (omega arith))
          (received_part b v w past past f.session.received received refl refl refl)
          (record {
            since = s.since ++ head;
            sent_are = sent ∙ (ap (λ (xs : List ℕ). xs ++ head) s.sent_are ∙ append_assoc b.line.sent s.since head);
            frames_are = append_assoc s.since head rest ∙ (ap (λ (xs : List ℕ). s.since ++ xs) (take-append-drop count old.unwritten) ∙ s.frames_are);
            written = s.written + count;
            of_last = ap (drop count) s.of_last ∙ drop-drop count s.written (last_octets (given_on past));
          });
      inside = inside_sound b l m d old new past f.inside refl refl refl failures (come_on b v w past [] old.course (λ h. h) (grows_sent v w head sent refl) f.inside.come);
    }
