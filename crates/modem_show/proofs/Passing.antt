-- What a frame that passes leaves of both ends.
use Rattle.std.specs.Prelude.{◌≡◌, ℕ, ◌<◌, ◌&&◌, Bool, is_none, List, ◌∷◌, ◌++◌, map, Option, refl}
use Rattle.std.proofs.Common.{ap, sym, ◌∙◌, subst}
use Rattle.mux_frame.specs.Frames.{Frame}
use Rattle.mux_capture.specs.declared.packet.Direction.{Direction}
use Rattle.mux_capture.specs.declared.packet.Direction.TheVariants.{ToModem, FromModem}
use Rattle.mux_capture.specs.declared.packet.Stamp.{Stamp}
use Rattle.mux_capture.specs.Passing.{Caught}
use Rattle.mux_station.specs.declared.role.Role.{Role}
use Rattle.mux_station.specs.declared.role.Role.TheVariants.{Initiator, Responder}
use Rattle.mux_station.specs.Opening.{is_open}
use Rattle.mux_station.specs.Stopping.{is_stopped}
use Rattle.mux_station.specs.Acts as act
use Rattle.mux_station.specs.Acts.{Act}
use Rattle.modem_show.specs.declared.faults.Faults.{Faults}
use Rattle.modem_show.specs.Ways.{caught, sender, other}
use Rattle.modem_show.specs.Asking.{Ask, asked_with, answered_by, unanswered_by, excused_by, is_answer, is_in_doubt, waiting}
use Rattle.modem_show.specs.Ends.{End, EndFits, own, come, handled, is_open_at, is_stopped_at}
use Rattle.modem_show.specs.Judging.{Side, SideFits, Passes, JudgedBy, Watch, WatchFits, faults_of, faults_at}
use Rattle.modem_show.proofs.Keeping.{open_fits, stopped_fits}

-- an end that sends, and the other one, at each moment of the passing
pub record Sends (stamp : Stamp) (f : Frame) (old new : Side) (answered : Option Ask) : Type 0 where
  pub role : new.end.role ≡ old.end.role
  pub asks : new.asks ≡ map (excused_by (act.Sent f)) (asked_with stamp f ++ old.asks)
  pub past : (past : List Act) → EndFits old.end past → EndFits new.end (act.Sent f ∷ (handled answered ++ past))

pub record Gets (f : Frame) (old new : Side) : Type 0 where
  pub role : new.end.role ≡ old.end.role
  pub asks : new.asks ≡ map (excused_by (act.Got f)) (unanswered_by f old.asks)
  pub past : (past : List Act) → EndFits old.end past → EndFits new.end (come f past)

-- the other end's asks, where those of the sender's other end are looked at
sides_fit : (r : Role) (c : Caught) (line : List Caught) (from to from_after to_after : Side)
    → SideFits r from line → SideFits (other r) to line
    → Sends c.stamp c.frame from from_after (answered_by c.frame to.asks) → Gets c.frame to to_after
    → waiting r (c ∷ line) ≡ map (excused_by (act.Sent c.frame)) (asked_with c.stamp c.frame ++ waiting r line)
    → waiting (other r) (c ∷ line) ≡ map (excused_by (act.Got c.frame)) (unanswered_by c.frame (waiting (other r) line))
    → own r (c ∷ line) ≡ act.Sent c.frame ∷ (handled (answered_by c.frame (waiting (other r) line)) ++ own r line)
    → own (other r) (c ∷ line) ≡ come c.frame (own (other r) line)
    → SideFits r from_after (c ∷ line) × SideFits (other r) to_after (c ∷ line)
sides_fit r c line from to from_after to_after hf ht s g w1 w2 o1 o2 = (
  record {
    role = s.role ∙ hf.role;
    asks = s.asks ∙ (ap (λ (xs : List Ask). map (excused_by (act.Sent c.frame)) (asked_with c.stamp c.frame ++ xs)) hf.asks ∙ sym w1);
    end = subst (λ (p : List Act). EndFits from_after.end p) (sym o1)
        (subst (λ (xs : List Ask). EndFits from_after.end (act.Sent c.frame ∷ (handled (answered_by c.frame xs) ++ own r line))) ht.asks
        (s.past (own r line) hf.end));
  },
  record {
    role = g.role ∙ ht.role;
    asks = g.asks ∙ (ap (λ (xs : List Ask). map (excused_by (act.Got c.frame)) (unanswered_by c.frame xs)) ht.asks ∙ sym w2);
    end = subst (λ (p : List Act). EndFits to_after.end p) (sym o2) (g.past (own (other r) line) ht.end);
  },
)

-- where one end sends a frame and the other gets it, both are kept on by it
pub passes : (stamp : Stamp) (direction : Direction) (f : Frame) (from to from_after to_after : Side)
    → Sends stamp f from from_after (answered_by f to.asks) → Gets f to to_after
    → Passes (caught stamp direction f) from to from_after to_after
passes stamp ToModem f from to from_after to_after s g = record {
  fits = λ line hf ht. sides_fit Initiator (caught stamp ToModem f) line from to from_after to_after hf ht s g refl refl refl refl;
}
passes stamp FromModem f from to from_after to_after s g = record {
  fits = λ line hf ht. sides_fit Responder (caught stamp FromModem f) line from to from_after to_after hf ht s g refl refl refl refl;
}

-- the steps of a passing, one after the other
pub steps_pass : (stamp : Stamp) (direction : Direction) (f : Frame) (from from1 from2 to to1 to2 : Side) (taken : Option Ask)
    → from1.end ≡ from.end → from1.asks ≡ asked_with stamp f ++ from.asks
    → to1.end ≡ to.end → taken ≡ answered_by f to.asks → to1.asks ≡ map (excused_by (act.Got f)) (unanswered_by f to.asks)
    → from2.end.role ≡ from1.end.role → from2.asks ≡ map (excused_by (act.Sent f)) from1.asks
    → ((past : List Act) → EndFits from1.end past → EndFits from2.end (act.Sent f ∷ (handled taken ++ past)))
    → to2.end.role ≡ to1.end.role → to2.asks ≡ to1.asks
    → ((past : List Act) → EndFits to1.end past → EndFits to2.end (come f past))
    → Passes (caught stamp direction f) from to from2 to2
steps_pass stamp direction f from from1 from2 to to1 to2 taken e1 a1 t1 k t1a r2 a2 p2 r3 a3 p3 =
    passes stamp direction f from to from2 to2
    (record {
      role = r2 ∙ ap (λ (e : End). e.role) e1;
      asks = a2 ∙ ap (λ (xs : List Ask). map (excused_by (act.Sent f)) xs) a1;
      past = λ past h.
          subst (λ (o : Option Ask). EndFits from2.end (act.Sent f ∷ (handled o ++ past))) k
          (p2 past (subst (λ (e : End). EndFits e past) (sym e1) h));
    })
    (record {
      role = r3 ∙ ap (λ (e : End). e.role) t1;
      asks = a3 ∙ t1a;
      past = λ past h. p3 past (subst (λ (e : End). EndFits e past) (sym t1) h);
    })

-- what is judged by what is kept is judged by the line
pub judged : (n1 : ℕ) (stamp : Stamp) (direction : Direction) (f : Frame) (from to : Side) → f.dlci < 62
    → JudgedBy n1 (caught stamp direction f) from to (faults_at n1 from f (is_answer f && is_none (answered_by f to.asks)) (is_in_doubt f.dlci to.asks))
judged n1 stamp direction f from to l = record {
  says = λ line hf ht.
      let r = sender direction in
      let open_is : is_open_at from.end f.dlci ≡ is_open r f.dlci (own r line) =
      open_fits from.end (own r line) f.dlci hf.end l ∙ ap (λ (s : Role). is_open s f.dlci (own r line)) hf.role in
      let stopped_is : is_stopped_at from.end f.dlci ≡ is_stopped r f.dlci (own r line) =
      stopped_fits from.end (own r line) f.dlci hf.end l ∙ ap (λ (s : Role). is_stopped s f.dlci (own r line)) hf.role in
      cc (open_is, stopped_is, ht.asks);
}

-- the frame is judged after its sender asked with it
pub steps_judge : (n1 : ℕ) (stamp : Stamp) (direction : Direction) (f : Frame) (from from1 to : Side) (taken : Option Ask) (unasked in_doubt : Bool) (faults : Faults)
    → f.dlci < 62 → from1.end ≡ from.end → taken ≡ answered_by f to.asks → unasked ≡ (is_answer f && is_none taken)
    → in_doubt ≡ is_in_doubt f.dlci to.asks → faults ≡ faults_at n1 from1 f unasked in_doubt → JudgedBy n1 (caught stamp direction f) from to faults
steps_judge n1 stamp direction f from from1 to taken unasked in_doubt faults l e k u i j =
    subst (λ (x : Faults). JudgedBy n1 (caught stamp direction f) from to x)
    (sym (j
    ∙ (ap (λ (s : End). faults_at n1 (record { end = s; asks = from1.asks }) f unasked in_doubt) e
    ∙ (ap (λ (b : Bool). faults_at n1 from f b in_doubt) (u ∙ ap (λ (o : Option Ask). is_answer f && is_none o) k)
    ∙ ap (λ (b : Bool). faults_at n1 from f (is_answer f && is_none (answered_by f to.asks)) b) i))))
    (judged n1 stamp direction f from to l)

-- ## Both ways

-- a frame to the modem keeps on both ends
pub watch_to : (w : Watch) (stamp : Stamp) (d : Direction) (f : Frame) (from to : Side) → d ≡ ToModem
    → Passes (caught stamp d f) w.initiator w.responder from to
    → (line : List Caught) → WatchFits w line
    → WatchFits (record { n1 = w.n1; initiator = from; responder = to }) (caught stamp d f ∷ line)
watch_to w stamp ToModem f from to e p line h = let both = p.fits line h.initiator h.responder in record { initiator = both.0; responder = both.1 }
watch_to w stamp FromModem f from to e p line h = cc

-- so does one from there
pub watch_from : (w : Watch) (stamp : Stamp) (d : Direction) (f : Frame) (from to : Side) → d ≡ FromModem
    → Passes (caught stamp d f) w.responder w.initiator from to
    → (line : List Caught) → WatchFits w line
    → WatchFits (record { n1 = w.n1; initiator = to; responder = from }) (caught stamp d f ∷ line)
watch_from w stamp FromModem f from to e p line h = let both = p.fits line h.responder h.initiator in record { initiator = both.1; responder = both.0 }
watch_from w stamp ToModem f from to e p line h = cc

-- a frame to the modem is judged as by all that passed
pub judged_to : (w : Watch) (stamp : Stamp) (d : Direction) (f : Frame) (faults : Faults) → d ≡ ToModem
    → JudgedBy w.n1 (caught stamp d f) w.initiator w.responder faults
    → (line : List Caught) → WatchFits w line → faults ≡ faults_of w.n1 line (caught stamp d f)
judged_to w stamp ToModem f faults e j line h = j.says line h.initiator h.responder
judged_to w stamp FromModem f faults e j line h = cc

-- so is one from there
pub judged_from : (w : Watch) (stamp : Stamp) (d : Direction) (f : Frame) (faults : Faults) → d ≡ FromModem
    → JudgedBy w.n1 (caught stamp d f) w.responder w.initiator faults
    → (line : List Caught) → WatchFits w line → faults ≡ faults_of w.n1 line (caught stamp d f)
judged_from w stamp FromModem f faults e j line h = j.says line h.responder h.initiator
judged_from w stamp ToModem f faults e j line h = cc

-- ## What is open and stopped

-- what is kept of an end says what is open for it
pub open_by : (e : End) (r : Role) (line : List Caught) (d : ℕ) → EndFits e (own r line) → e.role ≡ r → d < 62
    → is_open_at e d ≡ is_open r d (own r line)
open_by e r line d h k l = open_fits e (own r line) d h l ∙ ap (λ (s : Role). is_open s d (own r line)) k

-- and what is stopped
pub stopped_by : (e : End) (r : Role) (line : List Caught) (d : ℕ) → EndFits e (own r line) → e.role ≡ r → d < 62
    → is_stopped_at e d ≡ is_stopped r d (own r line)
stopped_by e r line d h k l = stopped_fits e (own r line) d h l ∙ ap (λ (s : Role). is_stopped s d (own r line)) k
