-- Where all is written the next frame is put into the output.
use Rattle.std.specs.Prelude.{◌≡◌, ◌≢◌, ℕ, ◌<◌, ◌≤◌, ◌==◌, Bool, true, false, List, [], ◌∷◌, ◌++◌, length, Some, None, option_map, refl}
use Rattle.std.specs.List.{list_any}
use Rattle.std.proofs.Common.{arith, sym, ap, ◌∙◌, subst, append-nil}
use Rattle.std.proofs.lemmas.Bool.Decides.{nat_tests}
use Rattle.mux_frame.specs.Frames.{Frame}
use Rattle.mux_frame.specs.Spelling as spelling
use Rattle.mux_station.specs.declared.role.Role.TheVariants.{Responder}
use Rattle.mux_station.specs.Stations as stations
use Rattle.mux_station.specs.Offering.{offered, data_out}
use Rattle.mux_station.specs.Giving.{next_given}
use Rattle.mux_station.specs.GivenFrames.{Outgoing, with_freshness}
use Rattle.mux_station.specs.Acts as station
use Rattle.modem_sim.specs.Acts.{Act, Wire, End, any_act, is_handing, is_open_at_modem, wire}
use Rattle.modem_sim.specs.Pieces.{pieces_octets}
use Rattle.modem_sim.specs.Outboxes.{outbox}
use Rattle.modem_sim.specs.Cores.{Core, Fits, GivesOut, IsGivenOn, IsLater, Wired, box_at, from_queue, gone_on, sent_now}
use Rattle.modem_sim.specs.Sims.{SimMachine, SimMachineFits, SimMachineGoes}
use Rattle.modem_sim.specs.Turns.{HandsOn, NoneIsThere}
use Rattle.modem_sim.specs.Stills.{AllHanded, HandsFrom, Loads, LoadsBy, OffersAll, let_go, puts, puts_none, some_wait}
use Rattle.modem_sim.proofs.connections.ControlChannel.{none_given, says_none}
use Rattle.modem_sim.proofs.ends.EndAfterFrame.{opened_is}
use Rattle.modem_sim.proofs.ends.HandedOctets.{ring_is, same_ring}
use Rattle.modem_sim.proofs.ends.OfferedPieces.{later_then, said_is}
use Rattle.modem_sim.proofs.sims.IdleTurns.{none_queued, sent_all}
use Rattle.modem_sim.proofs.sims.SimPasts.{all_any, fetched_some, fetched_nothing, none_mapped}

-- what is said on an open connection of which all is handed on
all_said : (e : End) (w : Wired) (c : Core) (past : List Act) (d : ℕ) (here : Bool) → (d == 0) ≡ here → d < 62 → AllHanded c → Fits e w c past → is_open_at_modem d past ≡ true → data_out Responder d (wire past) ≡ offered Responder d (wire past) → pieces_octets (outbox e d past).said ≡ offered Responder d (wire past)
all_said e w c past d true is small all fits there left =
    let zero_is : 0 ≡ d = grind (arith, nat_tests) in
    let At : ℕ → Type 0 = λ n. pieces_octets (outbox e n past).said ≡ data_out Responder n (wire past) in
    subst At zero_is (ap pieces_octets (says_none e past fits.allowed).said ∙ sym (none_given (wire past))) ∙ left
all_said e w c past d false is small all fits there left =
    let opened = opened_is e w c past d small fits ∙ there in
    let on = all d small opened in
    let ring = ring_is e w c past d small opened fits in
    let none = same_ring (data_out Responder d (wire past)) (stations.channel_at c.station d).waiting (offered Responder d (wire past)) ring (sym left) in
    said_is e d past (box_at c d) on.released (fits.boxes_are d small there)
    ∙ ap (λ xs. offered Responder d (wire past) ++ xs) (on.unsent is none) ∙ append-nil (offered Responder d (wire past))

hands_on : (e : End) (w : Wired) (past : List Act) (c : Core) (some : Bool) (h : HandsFrom e w past c some) → HandsOn e past h.from.now
hands_on e w past c some h = record {
  later = h.from.later;
  only = h.from.only;
  all = λ d small there left. all_said e w c h.from.now d (d == 0) refl small h.all h.from.fits there left;
}

none_is_there : (e : End) (w : Wired) (c : Core) (past : List Act) → next_given c.station c.station.queue ≡ None → Fits e w c past → NoneIsThere past
none_is_there e w c past none fits = record {
  queue = fits.station_is.queue_is ∙ none_queued c.station c.station.queue none;
  sent = λ d small other there goes. sent_all e w c past none fits d small other there goes;
}

at_core : (e : End) (came went : List ℕ) (old : SimMachine) (past now : List Act) (core : Core) (fits : SimMachineFits e came went old past) → Fits e fits.wired core now → SimMachineFits e came went (record old { core = core }) now
at_core e came went old past now core fits there = record {
  wired = fits.wired;
  core_fits = there;
  n1_is = fits.n1_is;
  taken = fits.taken;
  came_is = fits.came_is;
  deframes = fits.deframes;
  went_is = fits.went_is;
}

hands_brings : (e : End) (w : Wired) (past : List Act) (c : Core) (some : Bool) (h : HandsFrom e w past c some) → list_any is_handing (hands_on e w past c some h).later.newer ≡ some
unfolding hands_on
hands_brings e w past c some h = h.brings

-- the next frame is put into the output, where all is written
pub loads_frame : (old : SimMachine) (mid core : Core) (offered_any fresh : Bool) (g : Outgoing) (out : List ℕ) → old.out ≡ [] → (offers : OffersAll old.core mid offered_any) → Some g ≡ option_map (with_freshness fresh) (next_given mid.station mid.station.queue) → length g.frame.info ≤ 1024 → (length g.frame.info ≤ spelling.most_info 1024 g.frame.kind → out ≡ spelling.spelled g.frame) → GivesOut mid → core ≡ gone_on mid → Loads old (record old { core = core; out = out }) offers.some
loads_frame old mid core offered_any fresh g out none offers some short writes gives is = puts offers.some none (λ e came went past fits.
    let h = offers.hands e fits.wired past fits.core_fits in
    let gave = fetched_some old mid core fresh g out none some short writes gives is e came went h.from.now (at_core e came went old past h.from.now mid fits h.from.fits) in
    record {
      between = h.from.now;
      hands = hands_on e fits.wired past mid offers.some h;
      brings = hands_brings e fits.wired past mid offers.some h;
      now = gave.now;
      frame = g.frame;
      given = gave.given;
      out = gave.written;
      fits = gave.fits;
    })

-- where none is next none is put there, and it says whether octets were handed on
pub loads_no_frame : (old : SimMachine) (mid core : Core) (offered_any fresh : Bool) → old.out ≡ [] → (offers : OffersAll old.core mid offered_any) → None ≡ option_map (with_freshness fresh) (next_given mid.station mid.station.queue) → core ≡ gone_on mid → LoadsBy old (record old { core = core }) offered_any
loads_no_frame old mid core offered_any fresh none offers no_frame is =
    let At : Core → Type 0 = λ c. LoadsBy old (record old { core = c }) offered_any in
    subst At (sym (fetched_nothing mid mid core fresh refl no_frame is))
    (record {
      some = offers.some;
      loads = puts_none offers.some none (λ e came went past fits.
          let h = offers.hands e fits.wired past fits.core_fits in
          record {
            now = h.from.now;
            hands = hands_on e fits.wired past mid offers.some h;
            brings = hands_brings e fits.wired past mid offers.some h;
            none = none_is_there e fits.wired mid h.from.now (none_mapped (with_freshness fresh) (next_given mid.station mid.station.queue) no_frame) h.from.fits;
            out = none;
            fits = at_core e came went old past h.from.now mid fits h.from.fits;
          });
      has_loaded = λ moved nothing. let_go refl (offers.lets_go moved nothing);
      none = offers.none;
    })

-- octets wait for the line
pub loads_nothing_yet : (k : SimMachine) → k.out ≢ [] → LoadsBy k k false
loads_nothing_yet k some = record { some = false; loads = some_wait some refl; has_loaded = λ moved. cc; none = λ still. refl }

-- which goes on
given_later : (past now : List Act) (f : Frame) → IsGivenOn past f now → IsLater past now
given_later past now f (from_queue later is) = record { newer = Wire station.Given ∷ []; joins = refl }
given_later past now f (sent_now is) = record { newer = Wire (station.Sent f) ∷ []; joins = refl }

-- however it was loaded, the machine goes on
pub loaded_goes : (old new : SimMachine) (some : Bool) → Loads old new some → SimMachineGoes any_act old new
loaded_goes old new _ (some_wait some same) e came went past fits =
    let At : SimMachine → Type 0 = λ k. SimMachineFits e came went k past in
    record { now = past; later = record { newer = []; joins = refl }; only = refl; fits = subst At (sym same) fits }
loaded_goes old new _ (puts some none goes) e came went past fits =
    let went_on = goes e came went past fits in
    let later = later_then past went_on.between went_on.now went_on.hands.later (given_later went_on.between went_on.now went_on.frame went_on.given) in
    record { now = went_on.now; later = later; only = all_any later.newer; fits = went_on.fits }
loaded_goes old new _ (puts_none some none goes) e came went past fits =
    let went_on = goes e came went past fits in
    record { now = went_on.now; later = went_on.hands.later; only = all_any went_on.hands.later.newer; fits = went_on.fits }
