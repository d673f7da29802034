-- How a turn ends, by what each of its steps did.
use Rattle.std.proofs.Common.{ap, sym, ◌∙◌, inl, inr, subst}
use Rattle.std.specs.Prelude.{◌≡◌, ◌⊎◌, ◌||◌, Bool, true, false, List, [], ◌++◌, refl, None}
use Rattle.modem_history.specs.Acts.{Act, after}
use Rattle.modem_history.specs.Calls.{is_lost}
use Rattle.modem_history.specs.Turns.{Exchange, TurnFault, PlacesAlone}
use Rattle.modem_history.specs.EveryTurn.{GoesFault}
use Rattle.modem_driver.specs.declared.session.error.SessionFault.{SessionFault}
use Rattle.modem_driver.specs.SessionStates.{Machine, MachineLoses}
use Rattle.modem_driver.specs.SessionTurns.{HasTurned, LosesOr, fault_of}
use Rattle.modem_driver.specs.TurnSteps.{TurnState, StandingFits, Leads, Places, Checks, SendsOn, Writes, Gets, ReadsOn, TakesOne, view_of, inside}
use Rattle.modem_driver.proofs.sessions.meanings.WholeTurns.{Went, one_at_most, has_turned, placed, went_placed, went_step, went_wrote, went_read, went_took, offers_what_waits}
use Rattle.modem_driver.proofs.sessions.meanings.TurnFaults.{has_failed, places_alone, none_loses, wants_memory, loses_line}

-- a fault of any kind by which a turn ended, and what is so whichever way it ends
pub record FaultBy (s0 s : TurnState) (why : TurnFault) : Type 0 where
  pub fault : GoesFault (view_of s0) (view_of s) (λ b. inside b s0) (λ b. inside b s) why
  pub turned : HasTurned s0 s

-- there was no memory for a step
in_vain : (s0 s : TurnState) (t : Exchange) (acts : List Act) → Went s0 s t 1 acts → s.machine.faulty ≡ false → s0.machine.core.lost ≡ false → FaultBy s0 s TurnFault.NoMemory
in_vain s0 s t acts w sound live = record { fault = wants_memory s0 s t acts w sound live; turned = has_turned s0 s t 1 acts w }

true_false : true ≡ false → ⊥
true_false h = cc

-- a line that isn't lost before a turn isn't lost by what a turn does
lost_before : (s0 s : TurnState) (t : Exchange) (acts : List Act) → Went s0 s t 1 acts → s0.machine.core.lost ≡ false → s.machine.core.lost ≡ true → GoesFault (view_of s0) (view_of s) (λ b. inside b s0) (λ b. inside b s) TurnFault.Failed
unfolding Leads
lost_before s0 s t acts w live lost = record {
  acts = acts;
  exchange = t;
  goes = w.leads;
  offers = λ b past f. offers_what_waits b s0 s t past f w.offers;
  fault = λ b past f.
      let adds = w.adds b past f in
      let here : StandingFits b s (after past acts) = w.leads b past f in
      let still : is_lost (after past acts) ≡ false = none_loses t.still_heard acts past adds.may (f.inside.fits.lost_is ∙ live) in
      absurd (true_false (sym lost ∙ (sym here.inside.fits.lost_is ∙ still)));
}

-- the loss of the line is no call on it
lost_turned : (s0 s1 s2 : TurnState) (t : Exchange) (xs : List Act) → Went s0 s1 t 1 xs → s2 ≡ record s1 { machine = s2.machine } → MachineLoses s1.machine s2.machine → HasTurned s0 s2
lost_turned s0 s1 s2 t xs w same k =
    let h = has_turned s0 s1 t 1 xs w in
    subst (HasTurned s0) (sym same) (record {
      calls = h.calls;
      taken = h.taken;
      told = h.told;
      announced = h.announced;
      ended = λ end e. ap (λ (v : Machine). v.course) k.stays ∙ h.ended end e;
    })

-- the line is lost after some steps of a turn, which ends in that fault
pub lost_after : (why : SessionFault) (s0 s1 s2 : TurnState) (t : Exchange) (xs : List Act) → t.next ≡ None → Went s0 s1 t 1 xs → LosesOr why s1 s2 → (s0.machine.faulty ≡ false) ⊎ PlacesAlone (view_of s0) (view_of s1) xs → s0.machine.core.lost ≡ false → FaultBy s0 s2 (fault_of why)
lost_after SessionFault.Line s0 s1 s2 t xs none w k sound live = record { fault = loses_line s0 s1 s2 t xs none w k.0 k.1 live; turned = lost_turned s0 s1 s2 t xs w k.0 k.1 }
lost_after SessionFault.NoMemory s0 s1 s2 t xs none w k sound live = absurd k
lost_after SessionFault.Failed s0 s1 s2 t xs none w k sound live = subst (λ (s : TurnState). FaultBy s0 s TurnFault.Failed) (sym k.0) (record { fault = lost_before s0 s1 t xs w live k.1; turned = has_turned s0 s1 t 1 xs w })

checked : {s0 s1 s2 : TurnState} {m1 m2 : Bool} → (p : Places s0 s1 m1) (k : Checks s1 s2 m2) → Went s0 s2 (placed p) 0 k.acts
checked {s0} {s1} {s2} {m1} {m2} p k = went_step s0 s1 s2 (placed p) 0 0 [] k.acts refl (went_placed s0 s1 m1 p) k.leads k.adds (ap (λ (s : TurnState). s.line) k.stays) (ap (λ (s : TurnState). s.driver) k.stays) (ap (λ (s : TurnState). s.machine.unfed) k.stays) (λ end e. ap (λ (s : TurnState). s.machine.course) k.stays ∙ e)

sent : {s0 s1 s2 s3 : TurnState} {m1 m2 m3 : Bool} → (p : Places s0 s1 m1) (k : Checks s1 s2 m2) (n : SendsOn s2 s3 m3) → Went s0 s3 (placed p) 0 (k.acts ++ n.acts)
sent {s0} {s1} {s2} {s3} {m1} {m2} {m3} p k n = went_step s0 s2 s3 (placed p) 0 0 k.acts n.acts refl (checked p k) n.leads (n.adds s1.machine.unannounced) (ap (λ (s : TurnState). s.line) n.stays) (ap (λ (s : TurnState). s.driver) n.stays) (ap (λ (s : TurnState). s.machine.unfed) n.stays) (λ end e. ap (λ (s : TurnState). s.machine.course) n.stays ∙ e)

wrote : {s0 s1 s2 s3 s4 : TurnState} {m1 m2 m3 m4 : Bool} → (p : Places s0 s1 m1) (k : Checks s1 s2 m2) (n : SendsOn s2 s3 m3) (w : Writes s3 s4 m4) → Went s0 s4 (record (placed p) { write = w.write }) 0 (k.acts ++ n.acts)
wrote {s0} {s1} {s2} {s3} {s4} {m1} {m2} {m3} {m4} p k n w = went_wrote s0 s3 s4 (placed p) 0 (k.acts ++ n.acts) m4 refl refl refl (sent p k n) w

got : {s0 s1 s2 s3 s4 s5 : TurnState} {m1 m2 m3 m4 m5 : Bool} → (p : Places s0 s1 m1) (k : Checks s1 s2 m2) (n : SendsOn s2 s3 m3) (w : Writes s3 s4 m4) (g : Gets s4 s5 m5) → Went s0 s5 (record (placed p) { write = w.write }) 1 ((k.acts ++ n.acts) ++ g.acts)
got {s0} {s1} {s2} {s3} {s4} {s5} {m1} {m2} {m3} {m4} {m5} p k n w g =
    went_step s0 s4 s5 (record (placed p) { write = w.write }) 0 1 (k.acts ++ n.acts) g.acts refl (wrote p k n w) g.leads (g.adds s1.machine.unannounced) (ap (λ (s : TurnState). s.line) g.stays) (ap (λ (s : TurnState). s.driver) g.stays) (ap (λ (s : TurnState). s.machine.unfed) g.stays) g.ended

-- what was unfed stays but in its own step
unfed_before : {s0 s1 s2 s3 s4 s5 : TurnState} {m1 m2 m3 m4 m5 : Bool} → Places s0 s1 m1 → Checks s1 s2 m2 → SendsOn s2 s3 m3 → Writes s3 s4 m4 → Gets s4 s5 m5 → s5.machine.unfed ≡ s0.machine.unfed
unfed_before p k n w g =
    ap (λ (s : TurnState). s.machine.unfed) g.stays
    ∙ (ap (λ (s : TurnState). s.machine.unfed) w.stays
    ∙ (ap (λ (s : TurnState). s.machine.unfed) n.stays
    ∙ (ap (λ (s : TurnState). s.machine.unfed) k.stays ∙ ap (λ (s : TurnState). s.machine.unfed) p.stays)))

read : {s0 s1 s2 s3 s4 s5 s6 : TurnState} {m1 m2 m3 m4 m5 m6 : Bool} → (p : Places s0 s1 m1) (k : Checks s1 s2 m2) (n : SendsOn s2 s3 m3) (w : Writes s3 s4 m4) (g : Gets s4 s5 m5) (r : ReadsOn s5 s6 m6) → Went s0 s6 (record (placed p) { write = w.write; read = r.read }) 1 ((k.acts ++ n.acts) ++ g.acts)
read {s0} {s1} {s2} {s3} {s4} {s5} {s6} {m1} {m2} {m3} {m4} {m5} {m6} p k n w g r = went_read s0 s5 s6 (record (placed p) { write = w.write }) 1 ((k.acts ++ n.acts) ++ g.acts) m6 refl refl (unfed_before p k n w g) (got p k n w g) r

-- ## The line is lost

-- it was lost before
pub failed_before : {s0 s1 : TurnState} {m1 : Bool} → (p : Places s0 s1 m1) → s0.machine.core.lost ≡ true → FaultBy s0 s1 TurnFault.Failed
failed_before {s0} {s1} {m1} p lost = record { fault = has_failed s0 s1 m1 p lost; turned = has_turned s0 s1 (placed p) 0 [] (went_placed s0 s1 m1 p) }

-- it is lost once what waits was placed
pub lost_first : {s0 s1 : TurnState} {m1 : Bool} → (why : SessionFault) (s : TurnState) (p : Places s0 s1 m1) → LosesOr why s1 s → s0.machine.core.lost ≡ false → FaultBy s0 s (fault_of why)
lost_first {s0} {s1} {m1} why s p k = lost_after why s0 s1 s (placed p) [] refl (one_at_most s0 s1 (placed p) [] (went_placed s0 s1 m1 p)) k (inr (places_alone s0 s1 m1 p))

-- it is lost after the write
pub lost_writing : {s0 s1 s2 s3 s4 : TurnState} {m1 m2 m3 m4 : Bool} → (why : SessionFault) (s : TurnState) (p : Places s0 s1 m1) (k : Checks s1 s2 m2) (n : SendsOn s2 s3 m3) (w : Writes s3 s4 m4) → LosesOr why s4 s → s0.machine.faulty ≡ false → s0.machine.core.lost ≡ false → FaultBy s0 s (fault_of why)
lost_writing {s0} {s1} {s2} {s3} {s4} {m1} {m2} {m3} {m4} why s p k n w l sound =
    let t = record (placed p) { write = w.write } in
    lost_after why s0 s4 s t (k.acts ++ n.acts) refl (one_at_most s0 s4 t (k.acts ++ n.acts) (wrote p k n w)) l (inl sound)

-- it is lost after the read
pub lost_reading : {s0 s1 s2 s3 s4 s5 s6 : TurnState} {m1 m2 m3 m4 m5 m6 : Bool} → (why : SessionFault) (s : TurnState) (p : Places s0 s1 m1) (k : Checks s1 s2 m2) (n : SendsOn s2 s3 m3) (w : Writes s3 s4 m4) (g : Gets s4 s5 m5) (r : ReadsOn s5 s6 m6) → LosesOr why s6 s → s0.machine.faulty ≡ false → s0.machine.core.lost ≡ false → FaultBy s0 s (fault_of why)
lost_reading {s0} {s1} {s2} {s3} {s4} {s5} {s6} {m1} {m2} {m3} {m4} {m5} {m6} why s p k n w g r l sound = lost_after why s0 s6 s (record (placed p) { write = w.write; read = r.read }) ((k.acts ++ n.acts) ++ g.acts) refl (read p k n w g r) l (inl sound)

-- ## There is no memory

-- there is none for the frame at hand, and the turn ends in NoMemory
pub gets_in_vain : {s0 s1 s2 s3 s4 : TurnState} {m1 m2 m3 m4 : Bool} → (s : TurnState) (p : Places s0 s1 m1) (k : Checks s1 s2 m2) (n : SendsOn s2 s3 m3) (w : Writes s3 s4 m4) → s ≡ s4 → s4.machine.faulty ≡ false → s0.machine.core.lost ≡ false → FaultBy s0 s TurnFault.NoMemory
gets_in_vain {s0} {s1} {s2} {s3} {s4} {m1} {m2} {m3} {m4} s p k n w same sound live =
    let t = record (placed p) { write = w.write } in
    subst (λ (s : TurnState). FaultBy s0 s TurnFault.NoMemory) (sym same) (in_vain s0 s4 t (k.acts ++ n.acts) (one_at_most s0 s4 t (k.acts ++ n.acts) (wrote p k n w)) sound live)

-- ## It ends in an answer

-- all seven steps: two calls on the line at most, and the desk's end keeps what it has
pub all_turned : {s0 s1 s2 s3 s4 s5 s6 s7 : TurnState} {m1 m2 m3 m4 m5 m6 m7 : Bool} → Places s0 s1 m1 → Checks s1 s2 m2 → SendsOn s2 s3 m3 → Writes s3 s4 m4 → Gets s4 s5 m5 → ReadsOn s5 s6 m6 → TakesOne s6 s7 m7 → HasTurned s0 s7
all_turned {s0} {s1} {s2} {s3} {s4} {s5} {s6} {s7} {m1} {m2} {m3} {m4} {m5} {m6} {m7} p k n w g r q =
    let acts = (k.acts ++ n.acts) ++ g.acts in
    let t = record (placed p) { write = w.write; read = r.read } in
    has_turned s0 s7 (record t { next = q.next }) 1 (acts ++ q.acts) (went_took s0 s6 s7 t 1 acts m7 refl (read p k n w g r) q)

-- ## What a turn began with

-- placing what waits doesn't lose the line
pub lost_at_first : {s0 s1 : TurnState} {m : Bool} (c : Bool) → Places s0 s1 m → s1.machine.core.lost ≡ c → s0.machine.core.lost ≡ c
lost_at_first c p e = sym (ap (λ (s : TurnState). s.machine.core.lost) p.stays) ∙ e

-- nor does a call on it fail by that
pub faulty_at_first : {s0 s1 : TurnState} {m : Bool} (c : Bool) → Places s0 s1 m → s1.machine.faulty ≡ c → s0.machine.faulty ≡ c
faulty_at_first c p e = sym (ap (λ (s : TurnState). s.machine.faulty) p.stays) ∙ e

-- whether anything moved, the other way round
pub all_or : (a b c d e f g : Bool) → ((((((a || b) || c) || d) || e) || f) || g) ≡ (a || (b || (c || (d || (e || (f || g))))))
all_or true b c d e f g = refl
all_or false true c d e f g = refl
all_or false false true d e f g = refl
all_or false false false true e f g = refl
all_or false false false false true f g = refl
all_or false false false false false true g = refl
all_or false false false false false false g = refl
