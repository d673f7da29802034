-- What a turn's answer means where nothing moved.
use Rattle.std.proofs.Common.{inl, inr, ap, sym, ◌∙◌, subst, arith, eqb-true, lit≤}
use Rattle.std.proofs.lemmas.Bool.{eq-eqb, or_parts, ltb-false}
use Rattle.std.proofs.lemmas.List.{append-nil, length-append, length-take-le, nil_from_length}
use Rattle.std.specs.Prelude.{◌≡◌, ◌≢◌, ℕ, ◌+◌, ◌<◌, ◌≤◌, ◌==◌, ◌||◌, ◌⊎◌, nat_lt, Bool, true, false, List, [], ◌∷◌, ◌++◌, length, take, refl, Option, None, Some, if◌then◌else◌}
use Rattle.mux_frame.specs.Frames.{Frame}
use Rattle.at_text.specs.declared.unsolicited.UrcKind.{UrcKind}
use Rattle.modem_desk.specs.declared.request.Outcome.{Outcome}
use Rattle.modem_desk.specs.declared.request.Urc.{Urc}
use Rattle.modem_history.specs.Acts.{Act, after, in_hand}
use Rattle.modem_history.specs.Calls.{is_lost}
use Rattle.at_text.specs.Kinds.{is_same_kind, kind_place}
use Rattle.modem_history.specs.Kinds.{of_kind}
use Rattle.modem_history.specs.Sessions.{Beginning, driving, caller_outcomes, backlog_in}
use Rattle.modem_history.specs.Turns.{TurnAnswer, IsAtRest, Means, says_moved, IsWriterFull, HoldsByBacklog, HoldsWhereRoom, Write, Offers, has_room_for, octets_written}
use Rattle.modem_history.specs.EveryTurn.{GoesTurn}
use Rattle.modem_core.specs.Cores.{Core}
use Rattle.modem_history.specs.GoingOut.{next_out}
use Rattle.modem_core.specs.Running.{CoreIsIdle}
use Rattle.modem_driver.specs.SessionStates.{Machine}
use Rattle.modem_driver.specs.TurnSteps.{TurnState, StandingFits, Leads, view_of, inside}
use Rattle.modem_driver.specs.SessionTurns.{Answers}
use Rattle.modem_core.proofs.outgoing.QuietHistories.{drained_quiet}
use Rattle.modem_driver.proofs.sessions.steps.CoreCalls.{is_run}
use Rattle.modem_driver.proofs.sessions.meanings.EveryStep.{takes_steps}
use Rattle.modem_driver.proofs.sessions.meanings.TurnAnswers.{Run, Still, all_exchange, all_acts, went_out, went_got, went_all, has_moved_all, is_still, sound_five, not_lost, none_queued, all_given, all_sent, all_got}

-- a core that is idle on a sound line has an empty control queue
idle_queue : (v : Core) → v.lost ≡ false → CoreIsIdle v → v.station.queue ≡ []
unfolding CoreIsIdle
idle_queue v live idle = nil_from_length v.station.queue (eqb-true (length v.station.queue) 0 (sym (ap (λ (c : Bool). c || (length v.station.queue == 0)) live) ∙ idle))

holds_still : (b : Beginning) (s t : TurnState) (past : List Act) → t.machine.unannounced ≡ s.machine.unannounced → HoldsByBacklog (view_of s) past → HoldsByBacklog (view_of t) past
holds_still b s t past same h = record {
  many = λ d small z o many. h.many d small z o (subst (λ (us : List Urc). 256 ≤ backlog_in d us) same many);
  few = λ d small few. h.few d small (subst (λ (us : List Urc). backlog_in d us < 128) same few);
}

holds_yet : (b : Beginning) (s t : TurnState) (past : List Act) → t.machine.unannounced ≡ s.machine.unannounced → HoldsWhereRoom b (view_of s) past → HoldsWhereRoom b (view_of t) past
holds_yet b s t past same (inl h) = inl (holds_still b s t past same h)
holds_yet b s t past same (inr h) = inr h

one_frame : {f g : Frame} → Some f ≡ Some g → f ≡ g
one_frame e = cc

-- what was offered where the line took none of what waits
record TookNone (o : Option Write) : Type 0 where
  offered : List ℕ
  some : offered ≢ []
  none : o ≡ Some (record { offered = offered; count = 0 })

offered_none : (before later unwritten : List ℕ) (o : Option Write) → Offers o unwritten → later ≡ before ++ octets_written o → (unwritten ≡ [] → ⊥) → nat_lt (length before) (length later) ≡ false → TookNone o
offered_none before later unwritten None offers went some still = absurd (some offers)
offered_none before later unwritten (Some w) offers went some still =
    let long : length later ≡ length before + length (take w.count w.offered) = ap length went ∙ length-append before (take w.count w.offered) in
    let count : length (take w.count w.offered) ≡ w.count = length-take-le w.count w.offered offers.bound in
    let few = ltb-false (length before) (length later) still in
    let none : w.count ≡ 0 = omega (arith, long, count, few) in
    record {
      offered = w.offered;
      some = λ e. let size = ap length e in let least = offers.some in no_less (ap length e) offers.some;
      none = ap (λ (n : ℕ). Some (record { offered = w.offered; count = n })) none;
    }
  where
    no_less : {n : ℕ} → n ≡ 0 → 1 ≤ n → ⊥
    no_less e some = omega (arith, e, some)

-- the first line of all is the first of its kind
first_of_kind : (k : UrcKind) (line : Urc) (us : List Urc) → line.kind ≡ k → take 1 us ≡ line ∷ [] → take 1 (of_kind k us) ≡ line ∷ []
first_of_kind k line [] same e = cc
first_of_kind k line (u ∷ us) same e =
    let first : u ≡ line = one_line e in
    let is_of : is_same_kind k u.kind ≡ true = eq-eqb (kind_place k) (kind_place u.kind) (ap kind_place (sym (ap (λ (v : Urc). v.kind) first ∙ same))) in
    ap (λ (c : Bool). take 1 (if c then u ∷ of_kind k us else of_kind k us)) is_of ∙ ap (λ (v : Urc). v ∷ []) first
  where
    one_line : u ∷ [] ≡ line ∷ [] → u ≡ line
    one_line h = cc

says_moved_is : (k : Machine) (m : Bool) (says : TurnAnswer) → Answers k m says → m ≡ says_moved says
says_moved_is k m TurnAnswer.Moved a = a
says_moved_is k m TurnAnswer.WriterFull a = a.0
says_moved_is k m (TurnAnswer.Waiting c) a = a.0
says_moved_is k m (TurnAnswer.Blocked kind) a = a.0
says_moved_is k m TurnAnswer.Idle a = a.0

module _ {s0 s1 s2 s3 s4 s5 s6 s7 : TurnState} {m1 m2 m3 m4 m5 m6 m7 : Bool} where
  -- ## By what each step left

  unwritten_four : Run s0 s1 s2 s3 s4 s5 s6 s7 m1 m2 m3 m4 m5 m6 m7 → s7.machine.unwritten ≡ s4.machine.unwritten
  unwritten_four r = ap (λ (s : TurnState). s.machine.unwritten) r.takes.stays ∙ (ap (λ (s : TurnState). s.machine.unwritten) r.reads.stays ∙ ap (λ (s : TurnState). s.machine.unwritten) r.gets.stays)

  sound_three : Run s0 s1 s2 s3 s4 s5 s6 s7 m1 m2 m3 m4 m5 m6 m7 → s3.machine.faulty ≡ false
  sound_three r = ap (λ (s : TurnState). s.machine.faulty) r.sends.stays ∙ (ap (λ (s : TurnState). s.machine.faulty) r.checks.stays ∙ (ap (λ (s : TurnState). s.machine.faulty) r.places.stays ∙ r.sound_first))

  sound_seven : Run s0 s1 s2 s3 s4 s5 s6 s7 m1 m2 m3 m4 m5 m6 m7 → s7.machine.faulty ≡ false
  sound_seven r = ap (λ (s : TurnState). s.machine.faulty) r.takes.stays ∙ r.sound_read

  fits_three : (b : Beginning) (past : List Act) (r : Run s0 s1 s2 s3 s4 s5 s6 s7 m1 m2 m3 m4 m5 m6 m7) → StandingFits b s0 past → StandingFits b s3 (after past (r.checks.acts ++ r.sends.acts))
  unfolding Leads
  fits_three b past r f =
      let w = went_out r in
      w.leads b past f

  fits_seven : (b : Beginning) (past : List Act) (r : Run s0 s1 s2 s3 s4 s5 s6 s7 m1 m2 m3 m4 m5 m6 m7) → StandingFits b s0 past → StandingFits b s7 (after past (all_acts r))
  unfolding Leads
  fits_seven b past r f = (went_all r).leads b past f

  past_is : (past : List Act) (r : Run s0 s1 s2 s3 s4 s5 s6 s7 m1 m2 m3 m4 m5 m6 m7) → Still r → after past (all_acts r) ≡ after past (r.checks.acts ++ r.sends.acts)
  past_is past r q = ap (after past) q.acts_are

  -- no request waits at the desk, or 128 are in hand
  no_request : (b : Beginning) (past : List Act) (r : Run s0 s1 s2 s3 s4 s5 s6 s7 m1 m2 m3 m4 m5 m6 m7) → Still r → StandingFits b s7 past
      → (r.takes.next ≡ Some None) ⊎ (length (in_hand past) + length s7.machine.unplaced ≡ 128)
  no_request b past r q f = by_side (r.takes.no_request q.took)
    where
      by_side : (r.takes.next ≡ Some None) ⊎ ((b : Beginning) (past : List Act) → StandingFits b s7 past → length (in_hand past) + length s7.machine.unplaced ≡ 128)
          → (r.takes.next ≡ Some None) ⊎ (length (in_hand past) + length s7.machine.unplaced ≡ 128)
      by_side (inl e) = inl e
      by_side (inr g) = inr (g b past f)

  -- ## All is written

  record Rests (r : Run s0 s1 s2 s3 s4 s5 s6 s7 m1 m2 m3 m4 m5 m6 m7) : Type 0 where
    written : s3.machine.unwritten ≡ []
    none_sent : r.sends.acts ≡ []
    sent_still : s3 ≡ s2
    idle : CoreIsIdle s3.machine.core
    no_frame : s5.machine.deframer.next ≡ None
    none_unfed : s5.machine.unfed ≡ []
    nothing_came : r.reads.read ≡ Some (record { room = 512; octets = [] })
    kept_still : s7.machine ≡ s3.machine
    unfed_seven : s7.machine.unfed ≡ []
    no_frame_seven : s7.machine.deframer.next ≡ None

  rests : (r : Run s0 s1 s2 s3 s4 s5 s6 s7 m1 m2 m3 m4 m5 m6 m7) → Still r → s7.machine.unwritten ≡ [] → Rests r
  rests r q h =
      let written : s3.machine.unwritten ≡ [] = sym (ap (λ (k : Machine). k.unwritten) q.written) ∙ (sym (unwritten_four r) ∙ h) in
      let idle = r.sends.idle written in
      let idle_four : CoreIsIdle s4.machine.core = subst (λ (k : Machine). CoreIsIdle k.core) (sym q.written) idle.1.1 in
      let no_frame : s5.machine.deframer.next ≡ None = ap (λ (s : TurnState). s.machine.deframer.next) q.got_still ∙ by_frame s4.machine.deframer.next refl (λ f e. (r.gets.no_room f q.got e).0 idle_four) in
      let none : s5.machine.unfed ≡ [] = by_unfed s5.machine.unfed refl (λ some. r.reads.feeds q.read some no_frame) in
      let came = r.reads.nothing_came q.read (sound_five r q) none in
      let kept : s7.machine ≡ s5.machine = q.took_still ∙ came.1 in
      record {
        written = written;
        none_sent = idle.0;
        sent_still = idle.1.0;
        idle = idle.1.1;
        no_frame = no_frame;
        none_unfed = none;
        nothing_came = came.0;
        kept_still = kept ∙ (ap (λ (s : TurnState). s.machine) q.got_still ∙ q.written);
        unfed_seven = ap (λ (k : Machine). k.unfed) kept ∙ none;
        no_frame_seven = ap (λ (k : Machine). k.deframer.next) kept ∙ no_frame;
      }
    where
      by_frame : (o : Option Frame) → s4.machine.deframer.next ≡ o → ((f : Frame) → s4.machine.deframer.next ≡ Some f → ⊥) → s4.machine.deframer.next ≡ None
      by_frame None e out = e
      by_frame (Some f) e out = absurd (out f e)

      by_unfed : (xs : List ℕ) → s5.machine.unfed ≡ xs → (s5.machine.unfed ≢ [] → ⊥) → s5.machine.unfed ≡ []
      by_unfed [] e out = e
      by_unfed (x ∷ xs) e out = absurd (out (λ h. let both : x ∷ xs ≡ [] = sym e ∙ h in cc))

  -- each connection is held by its backlog, since no control frame waits
  held_two : (b : Beginning) (past : List Act) (r : Run s0 s1 s2 s3 s4 s5 s6 s7 m1 m2 m3 m4 m5 m6 m7) → StandingFits b s0 past → s2.machine.core.lost ≡ false → s2.machine.core.station.queue ≡ []
      → HoldsByBacklog (view_of s2) (after past r.checks.acts)
  unfolding Leads
  held_two b past r f live empty =
      r.checks.held b past (r.places.leads b past f) live empty

  -- where nothing moved and all is written, nothing is left to do but to place what waits
  pub at_rest : (b : Beginning) (past : List Act) (r : Run s0 s1 s2 s3 s4 s5 s6 s7 m1 m2 m3 m4 m5 m6 m7) → Still r → StandingFits b s0 past → s7.machine.unwritten ≡ []
      → IsAtRest b (view_of s7) (all_exchange r) (after past (all_acts r))
  at_rest b past r q f h =
      let k = rests r q h in
      let end = after past (all_acts r) in
      let same = past_is past r q in
      let at : StandingFits b s3 (after past (r.checks.acts ++ r.sends.acts)) = fits_three b past r f in
      let here : StandingFits b s3 end = subst (StandingFits b s3) (sym same) at in
      let last : StandingFits b s7 end = fits_seven b past r f in
      let none : next_out (driving b) end ≡ None = r.sends.none_left k.written b end here in
      let live : is_lost end ≡ false = not_lost b s7 end (sound_seven r) last in
      let queued = none_queued b end live none in
      let core : s2.machine.core.lost ≡ false = ap (λ (s : TurnState). s.machine.core.lost) (sym k.sent_still) ∙ (sym here.inside.fits.lost_is ∙ live) in
      let empty : s2.machine.core.station.queue ≡ [] = idle_queue s2.machine.core core (subst (λ (s : TurnState). CoreIsIdle s.machine.core) k.sent_still k.idle) in
      let first : after past r.checks.acts ≡ end = sym (same ∙ (ap (λ (xs : List Act). after past (r.checks.acts ++ xs)) k.none_sent ∙ ap (after past) (append-nil r.checks.acts))) in
      let held : HoldsByBacklog (view_of s2) end = subst (HoldsByBacklog (view_of s2)) first (held_two b past r f core empty) in
      record {
        quiet = drained_quiet (driving b) end refl (is_run b s3.line s3.driver s3.machine end here) none;
        sent = all_sent b s7 end last h (all_given b s7 end last live queued);
        nothing_came = record { room = 512; some = lit≤ tt; nothing = k.nothing_came };
        fed = k.unfed_seven;
        all_got = all_got b s7 end last k.unfed_seven k.no_frame_seven;
        no_request = no_request b end r q last;
        held = holds_still b s2 s7 end (ap (λ (u : Machine). u.unannounced) k.kept_still ∙ ap (λ (s : TurnState). s.machine.unannounced) k.sent_still) held;
      }

  -- octets that are fed move something
  unfed_still : (r : Run s0 s1 s2 s3 s4 s5 s6 s7 m1 m2 m3 m4 m5 m6 m7) → Still r → s6.machine.unfed ≡ [] → s5.machine.unfed ≡ []
  unfed_still r q e =
      let parts = or_parts (nat_lt (length s5.line.received) (length s6.line.received)) (nat_lt (length s6.machine.unfed) (length s5.machine.unfed)) (sym r.reads.moved_is ∙ q.read) in
      let few = ltb-false (length s6.machine.unfed) (length s5.machine.unfed) parts.1 in
      let none = ap length e in
      nil_from_length s5.machine.unfed (omega (arith, few, none))

  fits_four : (b : Beginning) (past : List Act) (r : Run s0 s1 s2 s3 s4 s5 s6 s7 m1 m2 m3 m4 m5 m6 m7) → Still r → StandingFits b s0 past → StandingFits b s4 (after past (all_acts r))
  unfolding Leads
  fits_four b past r q f =
      let acts = (r.checks.acts ++ r.sends.acts) ++ r.gets.acts in
      let five : StandingFits b s5 (after past acts) = (went_got r).leads b past f in
      let same : acts ≡ all_acts r = sym (ap (λ (xs : List Act). acts ++ xs) q.took_none ∙ append-nil acts) in
      subst (λ (s : TurnState). StandingFits b s (after past (all_acts r))) q.got_still (subst (λ (xs : List Act). StandingFits b s5 (after past xs)) same five)

  -- a frame at hand finds no room
  room_none : (b : Beginning) (past : List Act) (r : Run s0 s1 s2 s3 s4 s5 s6 s7 m1 m2 m3 m4 m5 m6 m7) → Still r → StandingFits b s0 past
      → (f : Frame) → s7.machine.deframer.next ≡ Some f → has_room_for b (after past (all_acts r)) f ≡ false
  room_none b past r q f g e = by_frame s4.machine.deframer.next refl
    where
      at_six : s6.machine.deframer.next ≡ Some g
      at_six = sym (ap (λ (k : Machine). k.deframer.next) q.took_still) ∙ e

      five_next : s5.machine.deframer.next ≡ s4.machine.deframer.next
      five_next = ap (λ (s : TurnState). s.machine.deframer.next) q.got_still

      none_at_hand : s4.machine.deframer.next ≡ None → (xs : List ℕ) → s5.machine.unfed ≡ xs → ⊥
      none_at_hand none [] u =
          let came = r.reads.nothing_came q.read (sound_five r q) u in
          let both : Some g ≡ None = sym at_six ∙ (ap (λ (k : Machine). k.deframer.next) came.1 ∙ (five_next ∙ none)) in
          cc
      none_at_hand none (x ∷ xs) u = r.reads.feeds q.read (λ v. let both : x ∷ xs ≡ [] = sym u ∙ v in cc) (five_next ∙ none)

      by_frame : (o : Option Frame) → s4.machine.deframer.next ≡ o → has_room_for b (after past (all_acts r)) g ≡ false
      by_frame None h = absurd (none_at_hand h s5.machine.unfed refl)
      by_frame (Some f') h =
          let six : s6.machine.deframer.next ≡ Some f' = r.reads.frame_stays f' (five_next ∙ h) in
          let same : Some f' ≡ Some g = sym six ∙ at_six in
          subst (λ (x : Frame). has_room_for b (after past (all_acts r)) x ≡ false) (one_frame same) ((r.gets.no_room f' q.got h).1 b (after past (all_acts r)) (fits_four b past r q f))

  -- where no frame is at hand all was fed
  all_fed : (r : Run s0 s1 s2 s3 s4 s5 s6 s7 m1 m2 m3 m4 m5 m6 m7) → Still r → s7.machine.deframer.next ≡ None → s7.machine.unfed ≡ []
  all_fed r q none = by_frame s5.machine.deframer.next refl
    where
      at_six : s6.machine.deframer.next ≡ None
      at_six = sym (ap (λ (k : Machine). k.deframer.next) q.took_still) ∙ none

      by_unfed : (xs : List ℕ) → s5.machine.unfed ≡ xs → s5.machine.deframer.next ≡ None → s7.machine.unfed ≡ []
      by_unfed [] u e = ap (λ (k : Machine). k.unfed) (q.took_still ∙ (r.reads.nothing_came q.read (sound_five r q) u).1) ∙ u
      by_unfed (x ∷ xs) u e = absurd (r.reads.feeds q.read (λ v. let both : x ∷ xs ≡ [] = sym u ∙ v in cc) e)

      by_frame : (o : Option Frame) → s5.machine.deframer.next ≡ o → s7.machine.unfed ≡ []
      by_frame None e = by_unfed s5.machine.unfed refl e
      by_frame (Some f) e = let both : Some f ≡ None = sym (r.reads.frame_stays f e) ∙ at_six in cc

  -- ## Octets wait

  -- the backlogs were looked at
  held_before : (b : Beginning) (past : List Act) (r : Run s0 s1 s2 s3 s4 s5 s6 s7 m1 m2 m3 m4 m5 m6 m7) → Still r → StandingFits b s0 past → HoldsWhereRoom b (view_of s7) past
  unfolding Leads
  held_before b past r q f =
      let one : StandingFits b s1 past = r.places.leads b past f in
      holds_yet b s2 s7 past same ((r.checks.looks q.checked).1 b past one (not_lost b s0 past r.sound_first f))
    where
      same : s7.machine.unannounced ≡ s2.machine.unannounced
      same =
          ap (λ (k : Machine). k.unannounced) q.took_still
          ∙ (ap (λ (s : TurnState). s.machine.unannounced) r.reads.stays
          ∙ (ap (λ (s : TurnState). s.machine.unannounced) q.got_still
          ∙ (ap (λ (k : Machine). k.unannounced) q.written ∙ ap (λ (s : TurnState). s.machine.unannounced) r.sends.stays)))

  -- where nothing moved and octets wait, WriterFull means what it says
  pub is_full : (b : Beginning) (past : List Act) (r : Run s0 s1 s2 s3 s4 s5 s6 s7 m1 m2 m3 m4 m5 m6 m7) → Still r → StandingFits b s0 past → s7.machine.unwritten ≢ []
      → IsWriterFull b (view_of s7) (all_exchange r) past (after past (all_acts r))
  is_full b past r q f waits =
      let end = after past (all_acts r) in
      let last : StandingFits b s7 end = fits_seven b past r f in
      let four = unwritten_four r in
      let offer = offered_none s3.line.sent s4.line.sent s4.machine.unwritten r.writes.write r.writes.offers r.writes.went (λ e. waits (four ∙ e)) (sym r.writes.moved_is ∙ q.wrote) in
      let five = ap (λ (k : Machine). k.unfed) q.took_still in
      record {
        waits = waits;
        offered = offer.offered;
        some = offer.some;
        took_none = offer.none;
        reads = λ e. record { room = 512; some = lit≤ tt; nothing = (r.reads.nothing_came q.read (sound_five r q) (unfed_still r q (sym five ∙ e))).0 };
        fed = λ none. all_fed r q none;
        no_room = λ g e. room_none b past r q f g e;
        held = held_before b past r q f;
        no_request = no_request b end r q last;
      }

  -- ## The answer

  means : (b : Beginning) (past : List Act) (r : Run s0 s1 s2 s3 s4 s5 s6 s7 m1 m2 m3 m4 m5 m6 m7) (says : TurnAnswer) → Answers s7.machine (m1 || (m2 || (m3 || (m4 || (m5 || (m6 || m7)))))) says
      → StandingFits b s0 past → Means b (view_of s7) (all_exchange r) past (after past (all_acts r)) says
  means b past r TurnAnswer.Moved a f = tt
  means b past r TurnAnswer.WriterFull a f = is_full b past r (is_still r a.0) f a.1
  means b past r (TurnAnswer.Waiting c) a f =
      let q = is_still r a.0 in
      let rest = rests r q a.1.written in
      let same : s7.machine.unplaced ≡ s1.machine.unplaced = ap (λ (k : Machine). k.unplaced) rest.kept_still ∙ (ap (λ (s : TurnState). s.machine.unplaced) rest.sent_still ∙ ap (λ (s : TurnState). s.machine.unplaced) r.checks.stays) in
      record {
        written = a.1.written;
        outcome = a.1.waits.outcome;
        waits = a.1.waits.first;
        handed_back = r.places.outcomes_back c ∙ (ap (λ (os : List Outcome). take 1 (caller_outcomes c os)) (sym same) ∙ a.1.waits.first);
        least = a.1.waits.least;
        rest = at_rest b past r q f a.1.written;
      }
  means b past r (TurnAnswer.Blocked k) a f =
      let q = is_still r a.0 in
      let rest = rests r q a.1.written in
      let same : s7.machine.unannounced ≡ s1.machine.unannounced = ap (λ (k : Machine). k.unannounced) rest.kept_still ∙ (ap (λ (s : TurnState). s.machine.unannounced) rest.sent_still ∙ ap (λ (s : TurnState). s.machine.unannounced) r.checks.stays) in
      record {
        written = a.1.written;
        placed = a.1.placed;
        line = a.1.waits.line;
        waits = a.1.waits.first;
        is_of = a.1.waits.is_of;
        handed_back = r.places.lines_back k ∙ (ap (λ (us : List Urc). take 1 (of_kind k us)) (sym same) ∙ first_of_kind k a.1.waits.line s7.machine.unannounced a.1.waits.is_of a.1.waits.first);
        rest = at_rest b past r q f a.1.written;
      }
  means b past r TurnAnswer.Idle a f = record {
    written = a.1.written;
    placed = a.1.placed;
    announced = a.1.announced;
    rest = at_rest b past r (is_still r a.0) f a.1.written;
  }

  -- the steps together are a turn, which ends in the answer that tells what moved or still waits
  pub goes_turn : (r : Run s0 s1 s2 s3 s4 s5 s6 s7 m1 m2 m3 m4 m5 m6 m7) (says : TurnAnswer) → Answers s7.machine (m1 || (m2 || (m3 || (m4 || (m5 || (m6 || m7)))))) says
      → GoesTurn (view_of s0) (view_of s7) (λ b. inside b s0) (λ b. inside b s7) says
  unfolding Leads
  goes_turn r says a =
      let w = went_all r in
      record {
        acts = all_acts r;
        exchange = all_exchange r;
        goes = w.leads;
        steps = λ b past f. takes_steps r b past f;
        turn = λ b past f.
            let adds = w.adds b past f in
            let last : StandingFits b s7 (after past (all_acts r)) = w.leads b past f in
            record {
              exchanges = record {
                came = w.came;
                room = w.room;
                went = w.went;
                calls = w.calls;
                taken = w.taken;
                hands_back = w.hands_back;
                outcomes_wait = adds.outcomes;
                lines_wait = adds.lines;
                unfed = w.unfed;
                reads_fed = w.reads_fed;
                one_got = adds.few_got;
              };
              offers = subst (Offers r.writes.write) (sym (unwritten_four r)) r.writes.offers;
              sound = last.inside.sound (sound_seven r);
              acts_may = adds.may;
              moved = sym (has_moved_all r) ∙ says_moved_is s7.machine (m1 || (m2 || (m3 || (m4 || (m5 || (m6 || m7)))))) says a;
              means = means b past r says a f;
            };
      }
