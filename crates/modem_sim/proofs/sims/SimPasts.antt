-- A simulated modem at its line goes on.
use Rattle.std.specs.Prelude.{◌≡◌, ℕ, ◌≤◌, ◌==◌, ◌&&◌, Bool, true, List, [], ◌∷◌, ◌++◌, Option, Some, None, is_none, option_map, Result, Ok, Err, IfOk, OnOk, OnErr, take, drop, length, refl}
use Rattle.std.specs.List.{flat_map, list_all}
use Rattle.std.proofs.Common.{arith, sym, ap, ◌∙◌, subst, append_assoc, append-nil, take-append-drop}
use Rattle.std.proofs.lemmas.Grind.{flat_map-append}
use Rattle.mux_frame.specs.Frames.{Frame}
use Rattle.mux_frame.specs.Deframing.{Deframing, HandsOver, TakesIn}
use Rattle.mux_frame.specs.Spelling as spelling
use Rattle.mux_frame.specs.Reading.{Reads}
use Rattle.mux_frame.proofs.readings.ComputedReadings.{total_reading}
use Rattle.at_cmds.proofs.command_texts.CommandLines.{both_true}
use Rattle.std.proofs.lemmas.Bool.Decides.{nat_tests}
use Rattle.serial_line.specs.LineViews.{LineView, after_fault}
use Rattle.modem_sim.specs.Histories.{got, sent}
use Rattle.mux_station.specs.Acts as station
use Rattle.mux_station.specs.Sending as sending
use Rattle.mux_station.specs.Sending.{got_refused}
use Rattle.mux_station.specs.Stations as stations
use Rattle.mux_station.specs.Giving.{data_frame, data_given, station_after, next_given, next_turn}
use Rattle.mux_station.specs.GivenFrames.{Outgoing, with_freshness}
use Rattle.modem_sim.specs.Acts.{Act, Wire, End, any_act, setting, wire}
use Rattle.modem_sim.specs.Cores.{Core, Goes, EndGoesOn, GivesOut, IsGivenOn, IsLater, after_wire_act, gone_on}
use Rattle.modem_sim.specs.Sims.{SimMachine, SimMachineFits, SimMachineGoes, SimState, SimGoes, Simulates, IsOver, is_ended}
use Rattle.modem_sim.specs.Stills.{ReadsOnce, SimMachineStays, TakesFrame, Writes}
use Rattle.modem_sim.specs.Turns.{left_of}
use Rattle.modem_sim.proofs.ends.EndAfterFrame.{later-sent_after}
use Rattle.modem_sim.proofs.ends.OfferedPieces.{later_then}
use Rattle.mux_station.proofs.law_proofs.PlainFrames.{plain_within}
use Rattle.modem_sim.proofs.sims.WrittenFrames.{goes_out_plain}
use Rattle.modem_history.specs.Turns.{octets_read, octets_written}

-- all acts are of any kind
pub all_any : (acts : List Act) → list_all any_act acts ≡ true
all_any [] = refl
all_any (a ∷ acts) = all_any acts

-- a machine goes on by no act
pub machine_none : (may : Act → Bool) (k : SimMachine) → SimMachineGoes may k k
machine_none may k e came went past fits = record { now = past; later = record { newer = []; joins = refl }; only = refl; fits = fits }

-- by acts of any kind
pub machine_any : (may : Act → Bool) (a b : SimMachine) → SimMachineGoes may a b → SimMachineGoes any_act a b
machine_any may a b goes e came went past fits =
    let from = goes e came went past fits in
    record { now = from.now; later = from.later; only = all_any from.later.newer; fits = from.fits }

-- where its end goes on by itself
pub machine_core : (may : Act → Bool) (old : SimMachine) (core : Core) → Goes may old.core core → SimMachineGoes may old (record old { core = core })
machine_core may old core goes e came went past fits =
    let went_on = goes e fits.wired past fits.core_fits in
    record {
      now = went_on.now;
      later = went_on.later;
      only = went_on.only;
      fits = record {
        wired = fits.wired;
        core_fits = went_on.fits;
        n1_is = fits.n1_is;
        taken = fits.taken;
        came_is = fits.came_is;
        deframes = fits.deframes;
        went_is = fits.went_is;
      };
    }

-- where it takes the frame at hand
pub took_fits : (old : SimMachine) (core : Core) (d : Deframing) (f : Frame) → old.deframer.next ≡ Some f → EndGoesOn old.core core f → HandsOver old.deframer d → d.n1 ≡ old.deframer.n1 → (e : End) (came went : List ℕ) (past : List Act) → SimMachineFits e came went old past → SimMachineFits e came went (record old { core = core; deframer = d }) (after_wire_act e past (station.Got f))
took_fits old core d f hand goes hands same e came went past fits = record {
  wired = record fits.wired { came = fits.wired.came ++ f ∷ [] };
  core_fits = goes e fits.wired past fits.core_fits;
  n1_is = same ∙ fits.n1_is;
  taken = fits.taken;
  came_is = fits.came_is;
  deframes = hands fits.taken fits.wired.came f hand fits.deframes;
  went_is = fits.went_is;
}

-- what is none is None
pub none_so : {A : Type 0} (o : Option A) → is_none o ≡ true → o ≡ None
none_so None is = refl
none_so (Some x) is = cc

-- so the frame at hand is taken, where what it calls for finds room
pub takes_frame : (old : SimMachine) (core : Core) (d : Deframing) (f : Frame) → old.deframer.next ≡ Some f → EndGoesOn old.core core f → HandsOver old.deframer d → d.n1 ≡ old.deframer.n1 → got_refused (stations.setting_of old.core.station) (stations.seen_in old.core.station) f ≡ None → TakesFrame old (record old { core = core; deframer = d })
takes_frame old core d f hand goes hands same room = record { frame = f; hand = hand; room = room; goes = took_fits old core d f hand goes hands same }

-- a past goes on with an act of the station and all that it calls for
unfoldable pub later_act : (e : End) (past : List Act) (a : station.Act) → IsLater past (after_wire_act e past a)
later_act e past a =
    let begun = later-sent_after (sending.called_frames (setting e) (wire past) a) (Wire a ∷ past) in
    record { newer = begun.newer ++ Wire a ∷ []; joins = append_assoc begun.newer (Wire a ∷ []) past ∙ begun.joins }

-- a machine goes on by the frame at hand
pub machine_took : (old : SimMachine) (core : Core) (d : Deframing) (f : Frame) → old.deframer.next ≡ Some f → EndGoesOn old.core core f → HandsOver old.deframer d → d.n1 ≡ old.deframer.n1 → SimMachineGoes any_act old (record old { core = core; deframer = d })
machine_took old core d f hand goes hands same e came went past fits =
    let later = later_act e past (station.Got f) in
    record {
      now = after_wire_act e past (station.Got f);
      later = later;
      only = all_any later.newer;
      fits = took_fits old core d f hand goes hands same e came went past fits;
    }

-- where its end gives a frame on, whose octets are to be written
pub record Gave (e : End) (came went : List ℕ) (past : List Act) (f : Frame) (k : SimMachine) : Type 0 where
  pub now : List Act
  pub given : IsGivenOn past f now
  pub written : k.out ≡ spelling.spelled f
  pub fits : SimMachineFits e came went k now

-- the frame that its end gives on is written, where all before it is
pub gave_fits : (old : SimMachine) (f : Frame) (out : List ℕ) → old.out ≡ [] → next_given old.core.station old.core.station.queue ≡ Some f → length f.info ≤ 1024 → (length f.info ≤ spelling.most_info 1024 f.kind → out ≡ spelling.spelled f) → GivesOut old.core → (e : End) (came went : List ℕ) (past : List Act) → SimMachineFits e came went old past → Gave e came went past f (record old { core = gone_on old.core; out = out })
gave_fits old f out none next short writes gives e came went past fits =
    let went_on = gives f next e fits.wired past fits.core_fits in
    let written = writes (plain_within f (goes_out_plain e fits.wired old.core past f fits.core_fits next) short) in
    record {
      now = went_on.now;
      given = went_on.given;
      written = written;
      fits = record {
        wired = record fits.wired { gone = fits.wired.gone ++ f ∷ [] };
        core_fits = went_on.fits;
        n1_is = fits.n1_is;
        taken = fits.taken;
        came_is = fits.came_is;
        deframes = fits.deframes;
        went_is = ap (λ x. went ++ x) written
            ∙ ap (λ x. x ++ spelling.spelled f) (sym (append-nil went) ∙ ap (λ x. went ++ x) (sym none) ∙ fits.went_is)
            ∙ ap (λ x. flat_map spelling.spelled fits.wired.gone ++ x) (sym (append-nil (spelling.spelled f)))
            ∙ sym (flat_map-append spelling.spelled fits.wired.gone (f ∷ []));
      };
    }

-- where its deframer takes octets
pub fed_fits : (old : SimMachine) (d : Deframing) (n : ℕ) → TakesIn old.deframer (take n old.unfed) d → d.n1 ≡ old.deframer.n1 → SimMachineStays old (record old { unfed = drop n old.unfed; deframer = d })
fed_fits old d n takes same e came went past fits = record {
  wired = fits.wired;
  core_fits = fits.core_fits;
  n1_is = same ∙ fits.n1_is;
  taken = fits.taken ++ take n old.unfed;
  came_is = fits.came_is ∙ ap (λ x. fits.taken ++ x) (sym (take-append-drop n old.unfed)) ∙ sym (append_assoc fits.taken (take n old.unfed) (drop n old.unfed));
  deframes = takes fits.taken fits.wired.came fits.deframes;
  went_is = fits.went_is;
}

-- so it goes on
pub machine_fed : (old : SimMachine) (d : Deframing) (n : ℕ) → TakesIn old.deframer (take n old.unfed) d → d.n1 ≡ old.deframer.n1 → SimMachineGoes any_act old (record old { unfed = drop n old.unfed; deframer = d })
machine_fed old d n takes same e came went past fits = record {
  now = past;
  later = record { newer = []; joins = refl };
  only = refl;
  fits = fed_fits old d n takes same e came went past fits;
}

-- ## With the line

-- octets came
pub machine_read : (e : End) (came went : List ℕ) (past : List Act) (old : SimMachine) (octets : List ℕ) → SimMachineFits e came went old past → SimMachineFits e (came ++ octets) went (record old { unfed = old.unfed ++ octets }) past
machine_read e came went past old octets fits = record {
  wired = fits.wired;
  core_fits = fits.core_fits;
  n1_is = fits.n1_is;
  taken = fits.taken;
  came_is = ap (λ x. x ++ octets) fits.came_is ∙ append_assoc fits.taken old.unfed octets;
  deframes = fits.deframes;
  went_is = fits.went_is;
}

-- octets went, and others are left
pub machine_wrote : (e : End) (came went : List ℕ) (past : List Act) (old : SimMachine) (gone left : List ℕ) → gone ++ left ≡ old.out → SimMachineFits e came went old past → SimMachineFits e came (went ++ gone) (record old { out = left }) past
machine_wrote e came went past old gone left parts fits = record {
  wired = fits.wired;
  core_fits = fits.core_fits;
  n1_is = fits.n1_is;
  taken = fits.taken;
  came_is = fits.came_is;
  deframes = fits.deframes;
  went_is = append_assoc went gone left ∙ ap (λ x. went ++ x) parts ∙ fits.went_is;
}

-- a simulated modem goes on by nothing
pub sim_none : {X : Type 0} (look : X → LineView) (s : SimState X) → SimGoes look s s
sim_none look s at e past fits = record { now = past; later = record { newer = []; joins = refl }; fits = fits }

-- and by one thing after another
pub sim_then : {X : Type 0} (look : X → LineView) (a b c : SimState X) → SimGoes look a b → SimGoes look b c → SimGoes look a c
sim_then look a b c p q at e past fits =
    let first = p at e past fits in
    let second = q at e first.now first.fits in
    record { now = second.now; later = later_then past first.now second.now first.later second.later; fits = second.fits }

-- the line as it was
pub sim_machine_goes : {X : Type 0} (look : X → LineView) (s : SimState X) (may : Act → Bool) (k : SimMachine) → SimMachineGoes may s.machine k → SimGoes look s (record s { machine = k })
sim_machine_goes look s may k goes at e past fits =
    let went_on = goes e fits.came fits.went past fits.machine_fits in
    record {
      now = went_on.now;
      later = went_on.later;
      fits = record { came = fits.came; went = fits.went; received_is = fits.received_is; sent_is = fits.sent_is; machine_fits = went_on.fits };
    }

-- a flag that says nothing of the past
pub machine_failed : (k : SimMachine) → SimMachineGoes any_act k (record k { failed = true })
machine_failed k e came went past fits = record {
  now = past;
  later = record { newer = []; joins = refl };
  only = refl;
  fits = record {
    wired = fits.wired;
    core_fits = fits.core_fits;
    n1_is = fits.n1_is;
    taken = fits.taken;
    came_is = fits.came_is;
    deframes = fits.deframes;
    went_is = fits.went_is;
  };
}

-- another line on which the same came and went
pub sim_line : {X : Type 0} (look : X → LineView) (s : SimState X) (line : X) → (look line).received ≡ (look s.line).received → (look line).sent ≡ (look s.line).sent → SimGoes look s (record s { line = line })
sim_line look s line came went at e past fits = record {
  now = past;
  later = record { newer = []; joins = refl };
  fits = record { came = fits.came; went = fits.went; received_is = came ∙ fits.received_is; sent_is = went ∙ fits.sent_is; machine_fits = fits.machine_fits };
}

-- octets came, which wait for the deframer
pub sim_read : {X : Type 0} (look : X → LineView) (s : SimState X) (line : X) (k : SimMachine) (came : Bool) → ReadsOnce (look s.line) (look line) s.machine k came → SimGoes look s (record { line = line; machine = k })
sim_read look s line k came got at e past fits =
    let fresh = octets_read got.read in
    let At : SimMachine → Type 0 = λ x. SimMachineFits e (fits.came ++ fresh) fits.went x past in
    record {
      now = past;
      later = record { newer = []; joins = refl };
      fits = record {
        came = fits.came ++ fresh;
        went = fits.went;
        received_is = got.came_are ∙ ap (λ x. x ++ fresh) fits.received_is ∙ append_assoc at.received fits.came fresh;
        sent_is = got.none_went ∙ fits.sent_is;
        machine_fits = subst At (sym got.kept) (machine_read e fits.came fits.went past s.machine fresh fits.machine_fits);
      };
    }

-- the line took some of the octets that wait for it
pub sim_wrote : {X : Type 0} (look : X → LineView) (s : SimState X) (line : X) (k : SimMachine) (n : ℕ) → Writes (look s.line) (look line) s.machine k n → SimGoes look s (record { line = line; machine = k })
sim_wrote look s line k n wrote at e past fits =
    let gone = octets_written wrote.write in
    let At : SimMachine → Type 0 = λ x. SimMachineFits e fits.came (fits.went ++ gone) x past in
    record {
      now = past;
      later = record { newer = []; joins = refl };
      fits = record {
        came = fits.came;
        went = fits.went ++ gone;
        received_is = wrote.none_came ∙ fits.received_is;
        sent_is = wrote.went ∙ ap (λ x. x ++ gone) fits.sent_is ∙ append_assoc at.sent fits.went gone;
        machine_fits = subst At (sym wrote.kept) (machine_wrote e fits.came fits.went past s.machine gone (left_of wrote.write s.machine.out) wrote.parts fits.machine_fits);
      };
    }

-- the line failed
pub sim_failed : {X : Type 0} (look : X → LineView) (s : SimState X) (line : X) (k : SimMachine) → look line ≡ after_fault (look s.line) → k ≡ record s.machine { failed = true } → SimGoes look s (record { line = line; machine = k })
sim_failed look s line k fault is =
    let At : SimMachine → Type 0 = λ x. SimGoes look s (record { line = line; machine = x }) in
    let there : SimState _ = record s { line = line } in
    subst At (sym is)
    (sim_then look s there (record { line = line; machine = record s.machine { failed = true } })
    (sim_line look s line (ap (λ (v : LineView). v.received) fault) (ap (λ (v : LineView). v.sent) fault))
    (sim_machine_goes look there any_act (record s.machine { failed = true }) (machine_failed s.machine)))

-- the line took some, or failed
pub sim_wrote_by : {X E : Type 0} (look : X → LineView) (s : SimState X) (line : X) (k : SimMachine) (r : Result ℕ E) → IfOk r (λ n. Writes (look s.line) (look line) s.machine k n) → OnErr r (look line ≡ after_fault (look s.line)) → OnErr r (k ≡ record s.machine { failed = true }) → SimGoes look s (record { line = line; machine = k })
sim_wrote_by look s line k (Ok n) wrote fault failed = sim_wrote look s line k n wrote
sim_wrote_by look s line k (Err why) wrote fault failed = sim_failed look s line k fault failed

-- octets came, or the line failed
pub sim_read_by : {X E : Type 0} (look : X → LineView) (s : SimState X) (line : X) (k : SimMachine) (r : Result Bool E) → IfOk r (λ came. ReadsOnce (look s.line) (look line) s.machine k came) → OnErr r (look line ≡ after_fault (look s.line)) → OnErr r (k ≡ record s.machine { failed = true }) → SimGoes look s (record { line = line; machine = k })
sim_read_by look s line k (Ok came) read fault failed = sim_read look s line k came read
sim_read_by look s line k (Err why) read fault failed = sim_failed look s line k fault failed

-- ## The next frame

-- where nothing comes of it there was none
pub none_mapped : {A B : Type 0} (f : A → B) (o : Option A) → None ≡ option_map f o → o ≡ None
none_mapped f None is = refl
none_mapped f (Some x) is = cc

some_mapped : (fresh : Bool) (g : Outgoing) (o : Option Frame) → Some g ≡ option_map (with_freshness fresh) o → o ≡ Some g.frame
some_mapped fresh g None is = cc
some_mapped fresh g (Some x) is = ap (λ (y : Option Outgoing). option_map (λ (z : Outgoing). z.frame) y) (sym is)

given_none_at : (v : stations.Station) (q : List Frame) (o : Option ℕ) → v.queue ≡ q → next_turn v ≡ o → next_given v q ≡ None → station_after v q ≡ v
given_none_at v [] None queue turn none = ap (data_given v) turn
given_none_at v [] (Some d) queue turn none = no (sym (ap (λ (o : Option ℕ). option_map (data_frame v) o) turn) ∙ none)
  where
    no : {P : Type 0} → Some (data_frame v d) ≡ None → P
    no is = cc
given_none_at v (f ∷ q) o queue turn none = cc

data_n1 : (v : stations.Station) (o : Option ℕ) → (data_given v o).n1 ≡ v.n1
data_n1 v None = refl
data_n1 v (Some d) = refl

after_n1 : (v : stations.Station) (q : List Frame) → (station_after v q).n1 ≡ v.n1
after_n1 v [] = data_n1 v (next_turn v)
after_n1 v (f ∷ q) = refl

-- it keeps its N1
pub gone_n1 : (mid core : Core) (n : ℕ) → core ≡ gone_on mid → mid.station.n1 ≡ n → core.station.n1 ≡ n
gone_n1 mid core n is same = ap (λ (c : Core). c.station.n1) is ∙ after_n1 mid.station mid.station.queue ∙ same

gone_none : (c : Core) → next_given c.station c.station.queue ≡ None → gone_on c ≡ c
gone_none c none = ap (λ (v : stations.Station). record c { station = v }) (given_none_at c.station c.station.queue (next_turn c.station) refl refl none)

-- where none is there nothing changes
pub fetched_nothing : (old mid core : Core) (fresh : Bool) → mid ≡ old → None ≡ option_map (with_freshness fresh) (next_given mid.station mid.station.queue) → core ≡ gone_on mid → core ≡ old
fetched_nothing old mid core fresh same none is = is ∙ gone_none mid (none_mapped (with_freshness fresh) (next_given mid.station mid.station.queue) none) ∙ same

-- the station as it was, where none is there
pub fetched_none : (old mid core : Core) (may : Act → Bool) (fresh : Bool) → Goes may old mid → None ≡ option_map (with_freshness fresh) (next_given mid.station mid.station.queue) → core ≡ gone_on mid → Goes may old core
fetched_none old mid core may fresh goes none is =
    subst (Goes may old) (sym (is ∙ gone_none mid (none_mapped (with_freshness fresh) (next_given mid.station mid.station.queue) none))) goes

-- the frame that is there is given on
pub fetched_some : (old : SimMachine) (mid core : Core) (fresh : Bool) (g : Outgoing) (out : List ℕ) → old.out ≡ [] → Some g ≡ option_map (with_freshness fresh) (next_given mid.station mid.station.queue) → length g.frame.info ≤ 1024 → (length g.frame.info ≤ spelling.most_info 1024 g.frame.kind → out ≡ spelling.spelled g.frame) → GivesOut mid → core ≡ gone_on mid → (e : End) (came went : List ℕ) (past : List Act) → SimMachineFits e came went (record old { core = mid }) past → Gave e came went past g.frame (record old { core = core; out = out })
fetched_some old mid core fresh g out none some short writes gives is e came went past fits =
    let At : Core → Type 0 = λ c. Gave e came went past g.frame (record old { core = c; out = out }) in
    subst At (sym is)
    (gave_fits (record old { core = mid }) g.frame out none (some_mapped fresh g (next_given mid.station mid.station.queue) some) short writes gives e came went past fits)

-- ## What that comes to

-- a machine fits no past that isn't a simulated modem's
pub simulates : (e : End) (came went : List ℕ) (k : SimMachine) (past : List Act) → SimMachineFits e came went k past → Simulates e came went k past
simulates e came went k past fits =
    let rest = total_reading k.deframer.n1 k.deframer.undecided fits.deframes.octets in
    let Undecided : List ℕ → Type 0 = λ x. Reads k.deframer.n1 x rest.frames rest.rest in
    let At : ℕ → Type 0 = λ n. Reads n fits.taken (got past ++ rest.frames) rest.rest in
    let Taken : List ℕ → Type 0 = λ x. Reads k.deframer.n1 x (got past ++ rest.frames) rest.rest in
    let Came : List Frame → Type 0 = λ fs. Reads k.deframer.n1 (fits.taken ++ []) (fs ++ rest.frames) rest.rest in
    let core = fits.core_fits in
    record {
      lawful = record { at_station = core.lawful; acts = core.allowed };
      complete = record { at_station = core.complete; called = core.free };
      taken = fits.taken;
      came_is = fits.came_is;
      octets = record {
        coming = rest.frames;
        rest = rest.rest;
        reads = subst At fits.n1_is
            (subst Taken (append-nil fits.taken)
            (subst Came (sym core.came_are) (fits.deframes.reads [] rest.frames rest.rest (subst Undecided (sym (append-nil k.deframer.undecided)) rest.reads))));
        unwritten = k.out ++ flat_map spelling.spelled k.core.station.queue;
        written = sym (append_assoc went k.out (flat_map spelling.spelled k.core.station.queue))
            ∙ ap (λ x. x ++ flat_map spelling.spelled k.core.station.queue) fits.went_is
            ∙ sym (flat_map-append spelling.spelled fits.wired.gone k.core.station.queue)
            ∙ ap (flat_map spelling.spelled) (sym core.gone_are);
      };
      modem_is = core.modem_is;
    }

none_queued : (fs : List Frame) → (length fs == 0) ≡ true → fs ≡ []
none_queued [] is = refl
none_queued (f ∷ fs) is = absurd (omega (arith, some))
  where
    some : length (f ∷ fs) ≡ 0
    some = grind (arith, nat_tests)

none_written : (xs : List ℕ) → (length xs == 0) ≡ true → xs ≡ []
none_written [] is = refl
none_written (x ∷ xs) is = absurd (omega (arith, some))
  where
    some : length (x ∷ xs) ≡ 0
    some = grind (arith, nat_tests)

-- an end that is over has closed down and written all
pub is_over : (e : End) (came went : List ℕ) (k : SimMachine) (past : List Act) → is_ended k ≡ true → SimMachineFits e came went k past → IsOver went past
is_over e came went k past ended fits =
    let first = both_true k.core.closed ((length k.out == 0) && (length k.core.station.queue == 0)) ended in
    let third = both_true (length k.out == 0) (length k.core.station.queue == 0) first.1 in
    let core = fits.core_fits in
    record {
      closed = core.closed_is ∙ first.0;
      written = sym (append-nil went)
          ∙ ap (λ x. went ++ x) (sym (none_written k.out third.0))
          ∙ fits.went_is
          ∙ ap (flat_map spelling.spelled) (sym (append-nil fits.wired.gone) ∙ ap (λ q. fits.wired.gone ++ q) (sym (none_queued k.core.station.queue third.1)) ∙ sym core.gone_are);
    }
