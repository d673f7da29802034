-- What is told and heard in a call waits behind the others: the parts of what a session fits.
use Rattle.std.proofs.Common.{ap, sym, ◌∙◌, subst}
use Rattle.std.proofs.lemmas.Bool.{and_from}
use Rattle.std.proofs.lemmas.List.{append_assoc, map-append}
use Rattle.std.proofs.lemmas.List.Elements.{filter-append}
use Rattle.std.proofs.lemmas.List.Folds.{list_all-append}
use Rattle.std.specs.Prelude.{◌≡◌, ℕ, ◌==◌, true, List, ◌++◌, filter, map, drop}
use Rattle.std.specs.List.{list_all}
use Rattle.mux_frame.specs.Frames.{Frame}
use Rattle.mux_frame.specs.Deframing.{Deframing, Deframes}
use Rattle.modem_desk.specs.declared.request.Outcome.{Outcome}
use Rattle.modem_history.specs.Acts.{Act, after}
use Rattle.modem_history.specs.Kinds.{of_kind}
use Rattle.modem_history.specs.Wholes.{outcomes}
use Rattle.modem_history.specs.Sessions.{Beginning, SessionView, FitsTold, FitsHeard, FitsSent, FitsReceived, caller_outcomes, at_place, gots, given_on, heard_as, octets_of_frames, last_octets}
use Rattle.modem_history.specs.Turns.{outcomes_told, lines_heard}
use Rattle.modem_core.proofs.sessions.steps.LongerHistories.{outcomes_after, heards_after, heard_of, is_heard_as, kind_heard, listened_heard, has_listener}
use Rattle.modem_core.proofs.sessions.steps.OutcomeCounts.{is_callers}
use Rattle.modem_driver.proofs.sessions.meanings.HeardOrder.{behind_more}

-- outcomes that were told wait behind the others
pub told_part : (b : Beginning) (old new : SessionView) (past acts : List Act) → FitsTold b old past → new.desk.told ≡ old.desk.told → new.unplaced ≡ old.unplaced ++ outcomes_told acts → list_all (is_callers b.callers) (outcomes_told acts) ≡ true
    → FitsTold b new (after past acts)
told_part b old new past acts f desk more callers = record {
  each = λ c.
      let t = f.each c in
      let here : caller_outcomes c new.unplaced ≡ caller_outcomes c old.unplaced ++ caller_outcomes c (outcomes_told acts) = ap (caller_outcomes c) more ∙ filter-append (λ (o : Outcome). o.caller == c) old.unplaced (outcomes_told acts) in
      record {
        since = t.since;
        told_are = ap (at_place c) desk ∙ t.told_are;
        outcomes_are =
            ap (λ (os : List Outcome). t.since ++ os) here
            ∙ (sym (append_assoc t.since (caller_outcomes c old.unplaced) (caller_outcomes c (outcomes_told acts)))
            ∙ (ap (λ (os : List Outcome). os ++ caller_outcomes c (outcomes_told acts)) t.outcomes_are
            ∙ (sym (filter-append (λ (o : Outcome). o.caller == c) (outcomes past) (outcomes_told acts))
            ∙ ap (caller_outcomes c) (sym (outcomes_after acts past)))));
      };
  callers = ap (list_all (is_callers b.callers)) more ∙ (list_all-append (is_callers b.callers) old.unplaced (outcomes_told acts) ∙ and_from (list_all (is_callers b.callers) old.unplaced) (list_all (is_callers b.callers) (outcomes_told acts)) f.callers callers);
}

-- lines that were heard wait behind the others
pub heard_part : (b : Beginning) (old new : SessionView) (past acts : List Act) → FitsHeard b old past → new.desk.announced ≡ old.desk.announced → map heard_as new.unannounced ≡ map heard_as old.unannounced ++ lines_heard acts
    → list_all (has_listener b.kinds) (lines_heard acts) ≡ true → FitsHeard b new (after past acts)
heard_part b old new past acts f desk more listened = record {
  each = λ i k at.
      let a = f.each i k at in
      let waits : map heard_as (of_kind k new.unannounced) ≡ map heard_as (of_kind k old.unannounced) ++ heard_of k acts =
      kind_heard k new.unannounced
      ∙ (ap (filter (is_heard_as k)) more
      ∙ (filter-append (is_heard_as k) (map heard_as old.unannounced) (lines_heard acts)
      ∙ ap (λ (xs : List Act). xs ++ heard_of k acts) (sym (kind_heard k old.unannounced)))) in
      record {
        since = a.since;
        announced_are = ap (at_place i) desk ∙ a.announced_are;
        lines_are =
            map-append heard_as a.since (of_kind k new.unannounced)
            ∙ (ap (λ (xs : List Act). map heard_as a.since ++ xs) waits
            ∙ (sym (append_assoc (map heard_as a.since) (map heard_as (of_kind k old.unannounced)) (heard_of k acts))
            ∙ (ap (λ (xs : List Act). xs ++ heard_of k acts) (sym (map-append heard_as a.since (of_kind k old.unannounced)) ∙ a.lines_are)
            ∙ sym (heards_after k acts past))));
      };
  listened =
      listened_heard b.kinds new.unannounced
      ∙ (ap (list_all (has_listener b.kinds)) more
      ∙ (list_all-append (has_listener b.kinds) (map heard_as old.unannounced) (lines_heard acts)
      ∙ and_from (list_all (has_listener b.kinds) (map heard_as old.unannounced)) (list_all (has_listener b.kinds) (lines_heard acts)) (sym (listened_heard b.kinds old.unannounced) ∙ f.listened) listened));
  in_order = behind_more old new past acts f.in_order more;
  nowhere_else = λ i far. ap (at_place i) desk ∙ f.nowhere_else i far;
}

-- nothing more was given on
pub sent_part : (b : Beginning) (old new : SessionView) (past later : List Act) → FitsSent b old past → new.line.sent ≡ old.line.sent → new.unwritten ≡ old.unwritten → given_on later ≡ given_on past → FitsSent b new later
sent_part b old new past later f line unwritten given = record {
  since = f.since;
  sent_are = line ∙ f.sent_are;
  frames_are = ap (λ (xs : List ℕ). f.since ++ xs) unwritten ∙ (f.frames_are ∙ ap octets_of_frames (sym given));
  written = f.written;
  of_last = unwritten ∙ (f.of_last ∙ ap (λ (fs : List Frame). drop f.written (last_octets fs)) (sym given));
}

-- and nothing more was fed or got
pub received_part : (b : Beginning) (old new : SessionView) (past later : List Act) → FitsReceived b old past → new.line.received ≡ old.line.received → new.unfed ≡ old.unfed → new.deframer ≡ old.deframer → gots later ≡ gots past → FitsReceived b new later
received_part b old new past later f line unfed deframer same = record {
  fed = f.fed;
  received_are = line ∙ (f.received_are ∙ ap (λ (xs : List ℕ). b.line.received ++ f.fed ++ xs) (sym unfed));
  bound = ap (λ (d : Deframing). d.n1) deframer ∙ f.bound;
  deframes = subst (λ (fs : List Frame). Deframes f.fed fs new.deframer) (sym same) (subst (Deframes f.fed (gots past)) (sym deframer) f.deframes);
}
