-- What is next, and how much of it there is.
use Rattle.std.specs.Prelude.{suc, ◌≡◌, ℕ, ◌+◌, ◌<◌, ◌≤◌, ◌==◌, true, List, [], ◌∷◌, length, refl, Some, option_map}
use Rattle.std.proofs.Common.{◌∙◌, ap, sym, arith, length-append, eqb-true}
use Rattle.mux_frame.specs.Frames.{Frame}
use Rattle.mux_station.specs.Acts.{Act}
use Rattle.mux_station.specs.Opening.{is_open}
use Rattle.mux_station.specs.States.{is_opened}
use Rattle.mux_station.specs.Sending.{queue, StationComplete}
use Rattle.mux_station.specs.Offering.{offered, data_out}
use Rattle.mux_station.specs.Stations.{Station, channel_at}
use Rattle.mux_station.specs.Fitting.{StationFits}
use Rattle.mux_station.specs.GivenFrames.{Turn, Control, Data}
use Rattle.mux_station.specs.Giving.{next_turn, turn_at, Waits, SendsNext, GoesNext, GivesOn}
use Rattle.mux_station.proofs.states.StationPasts.{open_fits, stopped_fits}
use Rattle.mux_station.proofs.turns.ReadyConnections.{control_waits, data_turn}
use Rattle.mux_station.proofs.turns.FramesGivenOn.{Ready, turn_is_ready, some_long, given_next}

-- where no control frame waits it is the turn of data
pub turn_alone : (v : Station) (fs : List Frame) → (length fs == 0) ≡ true → turn_at v fs ≡ option_map Data (next_turn v)
turn_alone v [] h = refl
turn_alone v (f ∷ fs) h = absurd (none_long (length fs) h)
  where
    none_long : (n : ℕ) → (suc n == 0) ≡ true → ⊥
    none_long n h = let e : suc n ≡ 0 = eqb-true (suc n) 0 h in omega (arith, e)

ring_counted : (v : Station) (past : List Act) (d : ℕ) → StationFits v past → d < 62 → is_open v.role d past ≡ true
    → length (data_out v.role d past) + length (channel_at v d).waiting ≡ length (offered v.role d past)
ring_counted v past d h l o =
    let opened : is_opened (channel_at v d).state ≡ true = sym (open_fits v past d h l) ∙ o in
    sym (ap length ((h.channels_are d l).ring_is opened) ∙ length-append (data_out v.role d past) (channel_at v d).waiting)

-- as many octets wait in d's ring as were offered and not given on, in each past that the station fits
pub waits_in : (v : Station) (past : List Act) (d n : ℕ) → d < 62 → n ≡ length (channel_at v d).waiting → StationFits v past → Waits v.role d past n
unfolding Waits
waits_in v past d n l e h o = ap (λ (m : ℕ). length (data_out v.role d past) + m) e ∙ ring_counted v past d h l o

sender_is : (v : Station) (past : List Act) (d : ℕ) → queue past ≡ [] → Ready v d → StationFits v past → SendsNext v.role d past
sender_is v past d q r h =
    let o : is_open v.role d past ≡ true = open_fits v past d h r.in_range ∙ r.opened in
    let counted = ring_counted v past d h r.in_range o in
    let some = some_long (length (channel_at v d).waiting) r.some in
    record {
      in_range = r.in_range;
      no_zero = r.no_zero;
      is_open = o;
      goes = sym (stopped_fits v past d h r.in_range) ∙ r.goes;
      some = omega (arith, counted, some);
      alone = q;
    }

by_queue : (v : Station) (past : List Act) (t : Turn) (fs : List Frame) → v.queue ≡ fs → v.last < 62 → StationFits v past → turn_at v fs ≡ Some t → GoesNext v.role past t
by_queue v past Control fs q l h e = λ (none : queue past ≡ []). control_waits v fs e (sym q ∙ (sym h.queue_is ∙ none))
by_queue v past (Data d) [] q l h e = sender_is v past d (h.queue_is ∙ q) (turn_is_ready v d l (data_turn (next_turn v) d e)) h
by_queue v past (Data d) (f ∷ fs) q l h e = cc

-- whose turn it is at a station may go out next, in each past that it fits
pub goes_next : (v : Station) (past : List Act) (t : Turn) → v.last < 62 → StationFits v past → turn_at v v.queue ≡ Some t → GoesNext v.role past t
goes_next v past t l h e = by_queue v past t v.queue refl l h e

-- in each past that a station fits what is next may go out, and it gives that on; a lawful and complete one stays so
pub gives_on : (v : Station) → length v.channels ≡ 62 → 31 ≤ v.n1 → v.last < 62 → GivesOn v
unfolding StationComplete
gives_on v all low last = record {
  next = λ past t h e. goes_next v past t last h e;
  fits = λ past h. (given_next v v.queue past refl all low last).fits h;
  lawful = λ past h l c. (given_next v v.queue past refl all low last).lawful h l c;
  complete = λ past h l c. (given_next v v.queue past refl all low last).complete h c;
}
