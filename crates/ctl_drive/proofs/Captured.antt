-- A capture goes on as octets pass on its line.
use Rattle.std.specs.Prelude.{◌≡◌, ℕ, Bool, true, false, List, [], ◌∷◌, ◌++◌, Option, refl, if◌then◌else◌}
use Rattle.std.proofs.Common.{ap, sym, subst, ◌∙◌, append_assoc, append-nil}
use Rattle.std.proofs.lemmas.Bool.{false≢true}
use Rattle.mux_capture.specs.declared.packet.Direction.{Direction}
use Rattle.mux_capture.specs.declared.packet.Direction.TheVariants.{ToModem, FromModem}
use Rattle.mux_capture.specs.declared.packet.Stamp.{Stamp}
use Rattle.mux_capture.specs.Passing.{CaptureState, Captures, HasCaptured, Passed, is_same, octets_in}
use Rattle.ctl_drive.specs.CapturedLine.{CapturesAll, CapturesUnlessFailed}

split_on : (b : Bool) (octets front back : List ℕ) → (if b then octets ++ (front ++ back) else front ++ back) ≡ (if b then octets ++ front else front) ++ back
split_on true octets front back = sym (append_assoc octets front back)
split_on false octets front back = refl

octets_more : (d : Direction) (ps qs : List Passed) → octets_in d (ps ++ qs) ≡ octets_in d ps ++ octets_in d qs
octets_more d [] qs = refl
octets_more d (p ∷ ps) qs =
    ap (λ (x : List ℕ). if is_same p.direction d then p.octets ++ x else x) (octets_more d ps qs)
    ∙ split_on (is_same p.direction d) p.octets (octets_in d ps) (octets_in d qs)

-- of one history
goes_on : (old new : CaptureState) (before : Option (List ℕ)) (passed : List Passed) (p : Passed) → Captures old new p → HasCaptured before passed old → HasCaptured before (passed ++ p ∷ []) new
unfolding Captures
goes_on old new before passed p h c = h before [] passed c

-- what has failed stays so
was_good : (old new : CaptureState) (b : Bool) → old.failed ≡ b → (old.failed ≡ true → new ≡ old) → new.failed ≡ false → old.failed ≡ false
was_good old new false is over good = is
was_good old new true is over good = absurd (false≢true (sym good ∙ ap (λ (c : CaptureState). c.failed) (over is) ∙ is))

-- what a capture that was given these octets says
pub record Takes (old new : CaptureState) (stamp : Stamp) (direction : Direction) (octets : List ℕ) : Type 0 where
  pub captures : new.failed ≡ false → Captures old new (record { stamp = stamp; direction = direction; octets = octets })
  pub over : old.failed ≡ true → new ≡ old

-- octets came from the modem
pub still_received : (received sent octets : List ℕ) (stamp : Stamp) (old new : CaptureState) → Takes old new stamp FromModem octets → CapturesUnlessFailed received sent old
    → CapturesUnlessFailed (received ++ octets) sent new
still_received received sent octets stamp old new takes holds = λ good.
    let h : CapturesAll received sent old = holds (was_good old new old.failed refl takes.over good) in
    let p : Passed = record { stamp = stamp; direction = FromModem; octets = octets } in
    record {
      before = h.before;
      passed = h.passed ++ p ∷ [];
      captured = goes_on old new h.before h.passed p (takes.captures good) h.captured;
      from_modem =
          octets_more FromModem h.passed (p ∷ []) ∙ ap (λ (x : List ℕ). octets_in FromModem h.passed ++ x) (append-nil octets) ∙ ap (λ (x : List ℕ). x ++ octets) h.from_modem;
      to_modem = octets_more ToModem h.passed (p ∷ []) ∙ append-nil (octets_in ToModem h.passed) ∙ h.to_modem;
    }

-- octets went to it
pub still_sent : (received sent octets : List ℕ) (stamp : Stamp) (old new : CaptureState) → Takes old new stamp ToModem octets → CapturesUnlessFailed received sent old
    → CapturesUnlessFailed received (sent ++ octets) new
still_sent received sent octets stamp old new takes holds = λ good.
    let h : CapturesAll received sent old = holds (was_good old new old.failed refl takes.over good) in
    let p : Passed = record { stamp = stamp; direction = ToModem; octets = octets } in
    record {
      before = h.before;
      passed = h.passed ++ p ∷ [];
      captured = goes_on old new h.before h.passed p (takes.captures good) h.captured;
      from_modem = octets_more FromModem h.passed (p ∷ []) ∙ append-nil (octets_in FromModem h.passed) ∙ h.from_modem;
      to_modem =
          octets_more ToModem h.passed (p ∷ []) ∙ ap (λ (x : List ℕ). octets_in ToModem h.passed ++ x) (append-nil octets) ∙ ap (λ (x : List ℕ). x ++ octets) h.to_modem;
    }

-- of a line with these octets
pub by_line : (received received_is sent sent_is : List ℕ) (c : CaptureState) → received_is ≡ received → sent_is ≡ sent → CapturesUnlessFailed received sent c → CapturesUnlessFailed received_is sent_is c
by_line received received_is sent sent_is c came went h = subst (λ (x : List ℕ × List ℕ). CapturesUnlessFailed x.0 x.1 c) (λ i. (sym came i, sym went i)) h
