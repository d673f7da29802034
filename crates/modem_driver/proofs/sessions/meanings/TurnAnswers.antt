-- What a turn's answer means.
use Rattle.std.proofs.Common.{ap, sym, ◌∙◌, subst, arith}
use Rattle.std.proofs.lemmas.Bool.{or_parts}
use Rattle.std.proofs.lemmas.List.{append-nil}
use Rattle.std.proofs.lemmas.List.Folds.{list_any-append}
use Rattle.std.specs.Prelude.{◌≡◌, ℕ, ◌<◌, ◌||◌, nat_lt, Bool, true, false, List, [], ◌∷◌, ◌++◌, length, refl, None, if◌then◌else◌}
use Rattle.std.specs.List.{list_any}
use Rattle.mux_frame.specs.Frames.{Frame}
use Rattle.mux_frame.specs.Reading.{Reads}
use Rattle.mux_frame.specs.Deframing.{AtHand}
use Rattle.mux_station.specs.Sending.{queue}
use Rattle.modem_desk.specs.declared.request.Outcome.{Outcome}
use Rattle.modem_desk.specs.declared.request.Urc.{Urc}
use Rattle.modem_desk.specs.Ends.{DriverView}
use Rattle.modem_history.specs.Acts.{Act, wire}
use Rattle.modem_history.specs.Calls.{is_lost}
use Rattle.modem_history.specs.Sessions.{Beginning, LineView, driving, gots, sents, given_on, octets_of_frames}
use Rattle.modem_history.proofs.connections.FrameOrder.{gives_in_order}
use Rattle.modem_history.specs.GoingOut.{next_out, out_by}
use Rattle.modem_driver.specs.TurnSteps.{TurnState, StandingFits, Places, Checks, SendsOn, Writes, Gets, ReadsOn, TakesOne, view_of, is_more}
use Rattle.modem_driver.proofs.sessions.meanings.WholeTurns.{Went, placed, went_placed, went_step, went_wrote, went_read, went_took}
use Rattle.modem_history.specs.Turns.{Exchange, AllAreGot, has_moved, amount}
use Rattle.modem_history.proofs.rules.MadeLaws.{laws_of}

-- ## Whether anything moved

or_right : (x y : Bool) → y ≡ true → (x || y) ≡ true
or_right true y e = refl
or_right false y e = e

-- what each step says is together what is seen of a turn
all_moves : (told heard backlog out wrote got came fed took : Bool)
    → ((told || heard) || (backlog || (out || (wrote || (got || ((came || fed) || took)))))) ≡ ((((backlog || out) || got) || took) || (came || (wrote || (told || (heard || fed)))))
all_moves true n a o s g r u k = sym (or_right _ _ (or_right r _ (or_right s _ refl)))
all_moves false true a o s g r u k = sym (or_right _ _ (or_right r _ (or_right s _ refl)))
all_moves false false true o s g r u k = refl
all_moves false false false true s g r u k = refl
all_moves false false false false true g r u k = sym (or_right _ _ (or_right r _ refl))
all_moves false false false false false true r u k = refl
all_moves false false false false false false true u k = sym (or_right k _ refl)
all_moves false false false false false false false true k = sym (or_right k _ refl)
all_moves false false false false false false false false true = refl
all_moves false false false false false false false false false = refl

joined : {a b c d e f g a' b' c' d' e' f' g' : Bool} → a ≡ a' → b ≡ b' → c ≡ c' → d ≡ d' → e ≡ e' → f ≡ f' → g ≡ g'
    → (a || (b || (c || (d || (e || (f || g)))))) ≡ (a' || (b' || (c' || (d' || (e' || (f' || g'))))))
joined x y z u v w q = cc

-- ## A session whose line is sound

contradicted : {m n : ℕ} → m < n → n ≡ m → ⊥
contradicted less same = omega (arith, less, same)

-- where no call on it has failed, the line isn't lost
pub not_lost : (b : Beginning) (s : TurnState) (past : List Act) → s.machine.faulty ≡ false → StandingFits b s past → is_lost past ≡ false
not_lost b s past sound f = by_loss (is_lost past) refl
  where
    by_loss : (c : Bool) → is_lost past ≡ c → c ≡ false
    by_loss false e = refl
    by_loss true e = absurd (contradicted (f.session.loss.by_fault e) (f.inside.sound sound))

-- nothing goes out, so no control frame waits
pub none_queued : (b : Beginning) (past : List Act) → is_lost past ≡ false → next_out (driving b) past ≡ None → queue (wire past) ≡ []
none_queued b past live none = by_queue (queue (wire past)) (ap (λ (c : Bool). if c then None else out_by (driving b) past (queue (wire past))) (sym live) ∙ none)
  where
    by_queue : (fs : List Frame) → out_by (driving b) past fs ≡ None → fs ≡ []
    by_queue [] e = refl
    by_queue (f ∷ fs) e = cc

-- and all frames sent were given on
pub all_given : (b : Beginning) (s : TurnState) (past : List Act) → StandingFits b s past → is_lost past ≡ false → queue (wire past) ≡ [] → sents past ≡ given_on past
all_given b s past f live none =
    let order = gives_in_order (driving b) past (laws_of f.session.history).lawful in
    order.sent_are ∙ (ap (λ (fs : List Frame). given_on past ++ fs) (order.waits live ∙ none) ∙ append-nil (given_on past))

-- where no octets wait and all frames sent were given on, all their octets are on the line
pub all_sent : (b : Beginning) (s : TurnState) (past : List Act) → StandingFits b s past → s.machine.unwritten ≡ [] → sents past ≡ given_on past → s.line.sent ≡ b.line.sent ++ octets_of_frames (sents past)
all_sent b s past f written same =
    let q = f.session.sent in
    q.sent_are
    ∙ ap (λ (xs : List ℕ). b.line.sent ++ xs)
    (sym (append-nil q.since) ∙ (ap (λ (xs : List ℕ). q.since ++ xs) (sym written) ∙ (q.frames_are ∙ ap octets_of_frames (sym same))))

-- where no octets wait to be fed and no frame is at hand, every frame was got
pub all_got : (b : Beginning) (s : TurnState) (past : List Act) → StandingFits b s past → s.machine.unfed ≡ [] → s.machine.deframer.next ≡ None → AllAreGot b (view_of s) past
all_got b s past f unfed none =
    let r = f.session.received in
    let d = s.machine.deframer in
    let hand : Reads d.n1 d.undecided [] d.undecided = subst (AtHand d.n1 d.undecided) none r.deframes.at_hand in
    let more : Reads d.n1 (d.undecided ++ []) [] d.undecided = subst (λ (xs : List ℕ). Reads d.n1 xs [] d.undecided) (sym (append-nil d.undecided)) hand in
    let whole : Reads d.n1 (r.fed ++ []) (gots past ++ []) d.undecided = r.deframes.reads [] [] d.undecided more in
    let all : Reads d.n1 r.fed (gots past) d.undecided =
    subst (λ (fs : List Frame). Reads d.n1 r.fed fs d.undecided) (append-nil (gots past)) (subst (λ (xs : List ℕ). Reads d.n1 xs (gots past ++ []) d.undecided) (append-nil r.fed) whole) in
    record {
      octets = r.fed;
      since = r.received_are ∙ (ap (λ (xs : List ℕ). (b.line.received ++ r.fed) ++ xs) unfed ∙ append-nil (b.line.received ++ r.fed));
      rest = d.undecided;
      reads = subst (λ (n : ℕ). Reads n r.fed (gots past) d.undecided) r.bound all;
    }

-- ## A turn

-- the steps of a turn, each after the other, on a sound line
pub record Run (s0 s1 s2 s3 s4 s5 s6 s7 : TurnState) (m1 m2 m3 m4 m5 m6 m7 : Bool) : Type 0 where
  pub places : Places s0 s1 m1
  pub checks : Checks s1 s2 m2
  pub sends : SendsOn s2 s3 m3
  pub writes : Writes s3 s4 m4
  pub gets : Gets s4 s5 m5
  pub reads : ReadsOn s5 s6 m6
  pub takes : TakesOne s6 s7 m7
  pub sound_first : s0.machine.faulty ≡ false
  pub sound_written : s4.machine.faulty ≡ false
  pub sound_read : s6.machine.faulty ≡ false

module _ {s0 s1 s2 s3 s4 s5 s6 s7 : TurnState} {m1 m2 m3 m4 m5 m6 m7 : Bool} where
  abbrev pub all_exchange : Run s0 s1 s2 s3 s4 s5 s6 s7 m1 m2 m3 m4 m5 m6 m7 → Exchange
  all_exchange r = record (placed r.places) { write = r.writes.write; read = r.reads.read; next = r.takes.next }

  abbrev pub all_acts : Run s0 s1 s2 s3 s4 s5 s6 s7 m1 m2 m3 m4 m5 m6 m7 → List Act
  all_acts r = ((r.checks.acts ++ r.sends.acts) ++ r.gets.acts) ++ r.takes.acts

  -- as far as the frame went into the output
  pub went_out : (r : Run s0 s1 s2 s3 s4 s5 s6 s7 m1 m2 m3 m4 m5 m6 m7) → Went s0 s3 (placed r.places) 0 (r.checks.acts ++ r.sends.acts)
  went_out r =
      let t = placed r.places in
      let w1 = went_placed s0 s1 m1 r.places in
      let heard : s1.machine.unannounced ≡ s1.machine.unannounced = refl in
      let w2 = went_step s0 s1 s2 t 0 0 [] r.checks.acts refl w1 r.checks.leads r.checks.adds (ap (λ (s : TurnState). s.line) r.checks.stays) (ap (λ (s : TurnState). s.driver) r.checks.stays) (ap (λ (s : TurnState). s.machine.unfed) r.checks.stays) (λ end e. ap (λ (s : TurnState). s.machine.course) r.checks.stays ∙ e) in
      went_step s0 s2 s3 t 0 0 r.checks.acts r.sends.acts refl w2 r.sends.leads (r.sends.adds t.still_heard) (ap (λ (s : TurnState). s.line) r.sends.stays) (ap (λ (s : TurnState). s.driver) r.sends.stays) (ap (λ (s : TurnState). s.machine.unfed) r.sends.stays) (λ end e. ap (λ (s : TurnState). s.machine.course) r.sends.stays ∙ e)

  -- and as far as the frame at hand was handled
  pub went_got : (r : Run s0 s1 s2 s3 s4 s5 s6 s7 m1 m2 m3 m4 m5 m6 m7) → Went s0 s5 (record (placed r.places) { write = r.writes.write }) 1 ((r.checks.acts ++ r.sends.acts) ++ r.gets.acts)
  went_got r =
      let t = record (placed r.places) { write = r.writes.write } in
      let w4 = went_wrote s0 s3 s4 (placed r.places) 0 (r.checks.acts ++ r.sends.acts) m4 refl refl refl (went_out r) r.writes in
      went_step s0 s4 s5 t 0 1 (r.checks.acts ++ r.sends.acts) r.gets.acts refl w4 r.gets.leads (r.gets.adds (placed r.places).still_heard) (ap (λ (s : TurnState). s.line) r.gets.stays) (ap (λ (s : TurnState). s.driver) r.gets.stays) (ap (λ (s : TurnState). s.machine.unfed) r.gets.stays) r.gets.ended

  -- what was unfed stays but in its own step
  pub unfed_at_five : Run s0 s1 s2 s3 s4 s5 s6 s7 m1 m2 m3 m4 m5 m6 m7 → s5.machine.unfed ≡ s0.machine.unfed
  unfed_at_five r =
      ap (λ (s : TurnState). s.machine.unfed) r.gets.stays
      ∙ (ap (λ (s : TurnState). s.machine.unfed) r.writes.stays
      ∙ (ap (λ (s : TurnState). s.machine.unfed) r.sends.stays
      ∙ (ap (λ (s : TurnState). s.machine.unfed) r.checks.stays ∙ ap (λ (s : TurnState). s.machine.unfed) r.places.stays)))

  -- and as far as all seven steps go
  pub went_all : (r : Run s0 s1 s2 s3 s4 s5 s6 s7 m1 m2 m3 m4 m5 m6 m7) → Went s0 s7 (all_exchange r) 1 (all_acts r)
  went_all r =
      let t = record (placed r.places) { write = r.writes.write } in
      let w6 = went_read s0 s5 s6 t 1 ((r.checks.acts ++ r.sends.acts) ++ r.gets.acts) m6 refl refl (unfed_at_five r) (went_got r) r.reads in
      went_took s0 s6 s7 (record t { read = r.reads.read }) 1 ((r.checks.acts ++ r.sends.acts) ++ r.gets.acts) m7 refl w6 r.takes

  -- ## What moved

  -- the line and the desk's end stay but in their own steps
  pub line_at_three : Run s0 s1 s2 s3 s4 s5 s6 s7 m1 m2 m3 m4 m5 m6 m7 → s3.line ≡ s0.line
  line_at_three r = ap (λ (s : TurnState). s.line) r.sends.stays ∙ (ap (λ (s : TurnState). s.line) r.checks.stays ∙ ap (λ (s : TurnState). s.line) r.places.stays)

  -- asking the desk for a request leaves the line as it was
  pub line_at_seven : Run s0 s1 s2 s3 s4 s5 s6 s7 m1 m2 m3 m4 m5 m6 m7 → s7.line ≡ s6.line
  line_at_seven r = ap (λ (s : TurnState). s.line) r.takes.stays

  -- between the first step and the last the desk's end stays
  pub driver_at_six : Run s0 s1 s2 s3 s4 s5 s6 s7 m1 m2 m3 m4 m5 m6 m7 → s6.driver ≡ s1.driver
  driver_at_six r =
      ap (λ (s : TurnState). s.driver) r.reads.stays
      ∙ (ap (λ (s : TurnState). s.driver) r.gets.stays
      ∙ (ap (λ (s : TurnState). s.driver) r.writes.stays
      ∙ (ap (λ (s : TurnState). s.driver) r.sends.stays ∙ ap (λ (s : TurnState). s.driver) r.checks.stays)))

  received_at_five : Run s0 s1 s2 s3 s4 s5 s6 s7 m1 m2 m3 m4 m5 m6 m7 → s5.line.received ≡ s0.line.received
  received_at_five r = ap (λ (s : TurnState). s.line.received) r.gets.stays ∙ (r.writes.came_none ∙ ap (λ (l : LineView). l.received) (line_at_three r))

  sent_at_seven : Run s0 s1 s2 s3 s4 s5 s6 s7 m1 m2 m3 m4 m5 m6 m7 → s7.line.sent ≡ s4.line.sent
  sent_at_seven r = ap (λ (l : LineView). l.sent) (line_at_seven r) ∙ (r.reads.went_none ∙ ap (λ (s : TurnState). s.line.sent) r.gets.stays)

  -- what the steps say is what is seen of the turn
  pub has_moved_all : (r : Run s0 s1 s2 s3 s4 s5 s6 s7 m1 m2 m3 m4 m5 m6 m7) → (m1 || (m2 || (m3 || (m4 || (m5 || (m6 || m7)))))) ≡ has_moved (view_of s0) (view_of s7) (all_acts r)
  has_moved_all r =
      let told = nat_lt (amount s0.driver.told) (amount s7.driver.told) in
      let heard = nat_lt (amount s0.driver.announced) (amount s7.driver.announced) in
      let came = nat_lt (length s0.line.received) (length s7.line.received) in
      let wrote = nat_lt (length s0.line.sent) (length s7.line.sent) in
      let fed = nat_lt (length s7.machine.unfed) (length s0.machine.unfed) in
      let some : List Act → Bool = λ acts. list_any is_more acts in
      let driver = driver_at_six r in
      let e1 : m1 ≡ (told || heard) =
      r.places.moved_is
      ∙ (ap (λ (xss : List (List Outcome)). nat_lt (amount s0.driver.told) (amount xss) || nat_lt (amount s0.driver.announced) (amount s1.driver.announced)) (sym (r.takes.desk_stays.1.0 ∙ ap (λ (d : DriverView). d.told) driver))
      ∙ ap (λ (xss : List (List Urc)). told || nat_lt (amount s0.driver.announced) (amount xss)) (sym (r.takes.desk_stays.1.1 ∙ ap (λ (d : DriverView). d.announced) driver))) in
      let e4 : m4 ≡ wrote =
      r.writes.moved_is
      ∙ (ap (λ (xs : List ℕ). nat_lt (length xs) (length s4.line.sent)) (ap (λ (l : LineView). l.sent) (line_at_three r))
      ∙ ap (λ (xs : List ℕ). nat_lt (length s0.line.sent) (length xs)) (sym (sent_at_seven r))) in
      let e6 : m6 ≡ (came || fed) =
      r.reads.moved_is
      ∙ (ap (λ (xs : List ℕ). nat_lt (length xs) (length s6.line.received) || nat_lt (length s6.machine.unfed) (length s5.machine.unfed)) (received_at_five r)
      ∙ (ap (λ (xs : List ℕ). nat_lt (length s0.line.received) (length xs) || nat_lt (length s6.machine.unfed) (length s5.machine.unfed)) (sym (ap (λ (l : LineView). l.received) (line_at_seven r)))
      ∙ (ap (λ (xs : List ℕ). came || nat_lt (length xs) (length s5.machine.unfed)) (sym (ap (λ (s : TurnState). s.machine.unfed) r.takes.stays))
      ∙ ap (λ (xs : List ℕ). came || nat_lt (length s7.machine.unfed) (length xs)) (unfed_at_five r)))) in
      let acts = list_any-append is_more ((r.checks.acts ++ r.sends.acts) ++ r.gets.acts) r.takes.acts
      ∙ ap (λ (c : Bool). c || some r.takes.acts) (list_any-append is_more (r.checks.acts ++ r.sends.acts) r.gets.acts
      ∙ ap (λ (c : Bool). c || some r.gets.acts) (list_any-append is_more r.checks.acts r.sends.acts)) in
      joined e1 r.checks.moved_is r.sends.moved_is e4 r.gets.moved_is e6 r.takes.moved_is
      ∙ (all_moves told heard (some r.checks.acts) (some r.sends.acts) wrote (some r.gets.acts) came fed (some r.takes.acts)
      ∙ ap (λ (c : Bool). c || (came || (wrote || (told || (heard || fed))))) (sym acts))

  -- ## Where nothing moved

  -- each step left everything as it was
  pub record Still (r : Run s0 s1 s2 s3 s4 s5 s6 s7 m1 m2 m3 m4 m5 m6 m7) : Type 0 where
    pub checked : m2 ≡ false
    pub sent : m3 ≡ false
    pub written : s4.machine ≡ s3.machine
    pub got_none : r.gets.acts ≡ []
    pub got_still : s5 ≡ s4
    pub got : m5 ≡ false
    pub read : m6 ≡ false
    pub took : m7 ≡ false
    pub took_none : r.takes.acts ≡ []
    pub took_still : s7.machine ≡ s6.machine
    pub acts_are : all_acts r ≡ r.checks.acts ++ r.sends.acts
    pub wrote : m4 ≡ false

  -- so it is where no step says that it moved anything
  pub is_still : (r : Run s0 s1 s2 s3 s4 s5 s6 s7 m1 m2 m3 m4 m5 m6 m7) → (m1 || (m2 || (m3 || (m4 || (m5 || (m6 || m7)))))) ≡ false → Still r
  is_still r h =
      let p1 = or_parts m1 (m2 || (m3 || (m4 || (m5 || (m6 || m7))))) h in
      let p2 = or_parts m2 (m3 || (m4 || (m5 || (m6 || m7)))) p1.1 in
      let p3 = or_parts m3 (m4 || (m5 || (m6 || m7))) p2.1 in
      let p4 = or_parts m4 (m5 || (m6 || m7)) p3.1 in
      let p5 = or_parts m5 (m6 || m7) p4.1 in
      let p6 = or_parts m6 m7 p5.1 in
      let got = r.gets.still p5.0 in
      let took = r.takes.still p6.1 in
      let sound : s3.machine.faulty ≡ false = ap (λ (s : TurnState). s.machine.faulty) r.sends.stays ∙ (ap (λ (s : TurnState). s.machine.faulty) r.checks.stays ∙ (ap (λ (s : TurnState). s.machine.faulty) r.places.stays ∙ r.sound_first)) in
      record {
        checked = p2.0;
        sent = p3.0;
        written = r.writes.still p4.0 (r.sound_written ∙ sym sound);
        got_none = got.0;
        got_still = got.1;
        got = p5.0;
        read = p6.0;
        took = p6.1;
        took_none = took.0;
        took_still = took.1;
        acts_are =
            ap (λ (xs : List Act). ((r.checks.acts ++ r.sends.acts) ++ r.gets.acts) ++ xs) took.0
            ∙ (append-nil ((r.checks.acts ++ r.sends.acts) ++ r.gets.acts)
            ∙ (ap (λ (xs : List Act). (r.checks.acts ++ r.sends.acts) ++ xs) got.0 ∙ append-nil (r.checks.acts ++ r.sends.acts)));
        wrote = p4.0;
      }

  -- a call on the line neither failed nor gave octets
  pub sound_five : (r : Run s0 s1 s2 s3 s4 s5 s6 s7 m1 m2 m3 m4 m5 m6 m7) → Still r → s6.machine.faulty ≡ s5.machine.faulty
  sound_five r q = r.sound_read ∙ sym (ap (λ (s : TurnState). s.machine.faulty) q.got_still ∙ r.sound_written)
