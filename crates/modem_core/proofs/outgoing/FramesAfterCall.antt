-- What goes out after a call, one frame after the other.
use Rattle.std.specs.Prelude.{◌||◌, ◌≡◌, ℕ, ◌==◌, Bool, true, false, List, [], ◌∷◌, ◌++◌, length, map, refl, Option, Some, None, if◌then◌else◌}
use Rattle.std.proofs.Common.{arith, eqb-true, ap, sym, ◌∙◌, subst, append-nil, append_assoc}
use Rattle.std.proofs.lemmas.List.{map-append}
use Rattle.mux_frame.specs.Frames.{Frame}
use Rattle.mux_station.specs.Stations.{Station}
use Rattle.mux_station.specs.Giving.{station_after, next_turn, data_given}
use Rattle.mux_station.specs.GivenFrames.{Outgoing, with_freshness}
use Rattle.modem_history.specs.Acts.{Act, Sent, Given}
use Rattle.modem_history.specs.Calls.{Setting}
use Rattle.modem_core.specs.Cores.{Core}
use Rattle.modem_core.specs.CoreGoing.{StandsIn, begun_next, gone_on, GoesOut, CoreGoesOn}
use Rattle.modem_history.specs.GoingOut.{next_out, with_out}
use Rattle.modem_core.specs.Running.{CoreIsIdle, GoesTo, stays, marks, sends, SendsSome, SendsAll}

-- ## One frame more

then_marks : (s : Setting) (past last : List Act) (f : Frame) (fs : List Frame) → GoesTo s past fs last → next_out s last ≡ Some (with_freshness false f) → GoesTo s past fs (Given ∷ last)
then_marks s _ _ f _ (stays past) h = marks past (Given ∷ past) f [] h (stays (Given ∷ past))
then_marks s _ _ f _ (marks past last g fs n k) h = marks past (Given ∷ last) g fs n (then_marks s (Given ∷ past) last f fs k h)
then_marks s _ _ f _ (sends past last g fs n k) h = sends past (Given ∷ last) g fs n (then_marks s (Sent g ∷ past) last f fs k h)

then_sends : (s : Setting) (past last : List Act) (f : Frame) (fs : List Frame) → GoesTo s past fs last → next_out s last ≡ Some (with_freshness true f) → GoesTo s past (fs ++ f ∷ []) (Sent f ∷ last)
then_sends s _ _ f _ (stays past) h = sends past (Sent f ∷ past) f [] h (stays (Sent f ∷ past))
then_sends s _ _ f _ (marks past last g fs n k) h = marks past (Sent f ∷ last) g (fs ++ f ∷ []) n (then_sends s (Given ∷ past) last f fs k h)
then_sends s _ _ f _ (sends past last g fs n k) h = sends past (Sent f ∷ last) g (fs ++ f ∷ []) n (then_sends s (Sent g ∷ past) last f fs k h)

-- at first nothing has gone out
pub nothing_gone_out : (v : Core) (acts : List Act) → SendsSome v v acts acts
nothing_gone_out v acts = record { frames = []; acts_are = sym (append-nil acts); out = λ s past h. record { now = past; goes = stays past; stands = h } }

-- a control frame is given on
pub sends_mark : (old mid new : Core) (before acts : List Act) (o : Outgoing) → SendsSome old mid before acts → GoesOut mid (Some o) → CoreGoesOn mid → o.fresh ≡ false → new ≡ gone_on mid → SendsSome old new before acts
unfolding GoesOut CoreGoesOn
sends_mark old mid new before acts o h out on fresh e =
    record {
      frames = h.frames;
      acts_are = h.acts_are;
      out = λ s past k.
          let w = h.out s past k in
          let next : next_out s w.now ≡ Some (with_freshness false o.frame) = sym (out s w.now w.stands) ∙ ap (λ (b : Bool). Some (with_freshness b o.frame)) fresh in
          let there : StandsIn s (gone_on mid) (Given ∷ w.now) = subst (λ (x : Option Outgoing). StandsIn s (gone_on mid) (with_out x w.now)) next (on s w.now w.stands) in
          record { now = Given ∷ w.now; goes = then_marks s past w.now o.frame h.frames w.goes next; stands = subst (λ (v : Core). StandsIn s v (Given ∷ w.now)) (sym e) there };
    }

-- data is sent
pub sends_data : (old mid new : Core) (before acts acts' : List Act) (o : Outgoing) → SendsSome old mid before acts → GoesOut mid (Some o) → CoreGoesOn mid → o.fresh ≡ true → new ≡ gone_on mid → acts' ≡ acts ++ Sent o.frame ∷ []
    → SendsSome old new before acts'
unfolding GoesOut CoreGoesOn
sends_data old mid new before acts acts' o h out on fresh e more =
    record {
      frames = h.frames ++ o.frame ∷ [];
      acts_are = more ∙ (ap (λ (x : List Act). x ++ Sent o.frame ∷ []) h.acts_are
          ∙ (append_assoc before (map Sent h.frames) (Sent o.frame ∷ []) ∙ ap (λ (x : List Act). before ++ x) (sym (map-append Sent h.frames (o.frame ∷ [])))));
      out = λ s past k.
          let w = h.out s past k in
          let next : next_out s w.now ≡ Some (with_freshness true o.frame) = sym (out s w.now w.stands) ∙ ap (λ (b : Bool). Some (with_freshness b o.frame)) fresh in
          let there : StandsIn s (gone_on mid) (Sent o.frame ∷ w.now) = subst (λ (x : Option Outgoing). StandsIn s (gone_on mid) (with_out x w.now)) next (on s w.now w.stands) in
          record { now = Sent o.frame ∷ w.now; goes = then_sends s past w.now o.frame h.frames w.goes next; stands = subst (λ (v : Core). StandsIn s v (Sent o.frame ∷ w.now)) (sym e) there };
    }

-- nothing may go out any more
pub sends_all : (old mid new : Core) (before acts : List Act) → SendsSome old mid before acts → GoesOut mid None → CoreGoesOn mid → new ≡ gone_on mid → SendsAll old new before acts
unfolding GoesOut CoreGoesOn
sends_all old mid new before acts h out on e =
    let still : (s : Setting) (past : List Act) (k : StandsIn s old past) → StandsIn s new (h.out s past k).now = λ s past k.
    let w = h.out s past k in
    let there : StandsIn s (gone_on mid) w.now = subst (λ (x : Option Outgoing). StandsIn s (gone_on mid) (with_out x w.now)) (sym (out s w.now w.stands)) (on s w.now w.stands) in
    subst (λ (v : Core). StandsIn s v w.now) (sym e) there in
    record {
      some = record {
        frames = h.frames;
        acts_are = h.acts_are;
        out = λ s past k. record { now = (h.out s past k).now; goes = (h.out s past k).goes; stands = still s past k };
      };
      none_left = λ s past k. sym (out s (h.out s past k).now (h.out s past k).stands);
    }

-- ## N1 stays

given_n1 : (v : Station) (fs : List Frame) → (station_after v fs).n1 ≡ v.n1
given_n1 v (f ∷ fs) = refl
given_n1 v [] = by_turn (next_turn v)
  where
    by_turn : (o : Option ℕ) → (data_given v o).n1 ≡ v.n1
    by_turn None = refl
    by_turn (Some d) = refl

-- a frame that goes out leaves N1 as it is
pub n1_stays : (v : Core) → (gone_on v).station.n1 ≡ v.station.n1
n1_stays v = by_loss v.lost
  where
    by_loss : (b : Bool) → (if b then v else record (begun_next v) { station = station_after v.station v.station.queue }).station.n1 ≡ v.station.n1
    by_loss true = refl
    by_loss false = given_n1 v.station v.station.queue

-- what is idle stays so when nothing but data goes out
given_empty : (v : Station) (fs : List Frame) → v.queue ≡ fs → (length fs == 0) ≡ true → (length (station_after v fs).queue == 0) ≡ true
given_empty v (f ∷ fs) e h = let n : length (f ∷ fs) ≡ 0 = eqb-true (length (f ∷ fs)) 0 h in let x : ⊥ = omega (arith, n) in absurd x
given_empty v [] e h = by_turn (next_turn v)
  where
    by_turn : (o : Option ℕ) → (length (data_given v o).queue == 0) ≡ true
    by_turn None = ap (λ (fs : List Frame). length fs == 0) e
    by_turn (Some d) = ap (λ (fs : List Frame). length fs == 0) e

-- an idle core is idle after what goes out next
pub idle_stays : (v : Core) → CoreIsIdle v → CoreIsIdle (gone_on v)
unfolding CoreIsIdle
idle_stays v h = by_loss v.lost refl
  where
    rest : (b : Bool) (c : Bool) → b ≡ false → (b || c) ≡ true → c ≡ true
    rest false c e k = k
    rest true c e k = cc

    or_second : (b c : Bool) → c ≡ true → (b || c) ≡ true
    or_second true c k = refl
    or_second false c k = k

    by_loss : (b : Bool) → v.lost ≡ b → (let w : Core = if b then v else record (begun_next v) { station = station_after v.station v.station.queue } in w.lost || (length w.station.queue == 0)) ≡ true
    by_loss true e = h
    by_loss false e = or_second (begun_next v).lost (length (station_after v.station v.station.queue).queue == 0) (given_empty v.station v.station.queue refl (rest v.lost (length v.station.queue == 0) e h))
