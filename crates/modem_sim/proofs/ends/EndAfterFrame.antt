-- An end goes on with a frame and the frames that it calls for.
use Rattle.std.specs.Prelude.{◌≡◌, ◌≢◌, ℕ, zero, suc, ◌+◌, ◌-◌, ◌^◌, ◌<◌, nat_le, ◌==◌, Result, Ok, Err, OnOk, is_ok, ◌&&◌, ◌||◌, not, Bool, true, false, List, [], ◌∷◌, ◌++◌, length, drop, map, Option, None, Some, slice_index_or, slice_set, refl, if◌then◌else◌}
use Rattle.std.specs.List.{list_all}
use Rattle.std.proofs.Common.{lit<, arith, sym, ap, ◌∙◌, subst, append_assoc, append-nil}
use Rattle.std.proofs.Math.ListN.{get_or-map}
use Rattle.at_cmds.proofs.command_texts.CommandLines.{both_true}
use Rattle.std.proofs.lemmas.Bool.Decides.{nat_tests}
use Rattle.mux_frame.specs.Frames.{Frame}
use Rattle.mux_station.specs.Acts as station
use Rattle.mux_station.specs.Sending as sending
use Rattle.mux_station.specs.Stations as stations
use Rattle.mux_station.specs.Fitting as fitting
use Rattle.mux_frame.specs.declared.frame.Kind.TheVariants.{Sabm, Uih}
use Rattle.std.proofs.lemmas.List.{get_or-set_same, get_or-set_other}
use Rattle.mux_station.specs.Opening as opening
use Rattle.mux_station.specs.declared.role.Role.TheVariants.{Responder}
use Rattle.mux_station.specs.declared.role.Role.{Role}
use Rattle.mux_station.specs.declared.noted.Noted.{Noted}
use Rattle.mux_station.specs.declared.noted.Noted.TheVariants.{AllClosed, ProbeBack, ProbeRefused, Nothing}
use Rattle.mux_station.specs.States.{State, IsShut, IsOpening, IsOpened, IsClosing, IsStopping, is_opened}
use Rattle.mux_station.specs.Messages.{Message, cld, brings_command, message_of, octet_is}
use Rattle.mux_station.specs.Noting.{noted_of, noted_of_probe, noted_by_message, noted_by_table}
use Rattle.mux_station.specs.Written.{is_data_frame, is_kind, is_on}
use Rattle.mux_station.specs.Opening.{opens_now}
use Rattle.mux_station.proofs.law_proofs.OwedFrames.{answers_keep, calls_control}
use Rattle.at_text.specs.Lines.{lines, kept_run}
use Rattle.modem_history.specs.Connections.{unfinished_on}
use Rattle.modem_sim.specs.declared.state.ModemState.{ModemState}
use Rattle.modem_sim.specs.Laws.{after_lines}
use Rattle.modem_sim.specs.Outboxes.{any_call}
use Rattle.modem_sim.specs.Pieces.{pieces_octets, replies}
use Rattle.modem_sim.proofs.connections.OctetReplies.{no_lines, kept_again}
use Rattle.modem_sim.specs.Acts.{Act, Wire, End, setting, wire, is_open_at_modem}
use Rattle.modem_sim.specs.Heard.{heard, texts_of, texts_with, modem_after}
use Rattle.modem_sim.specs.Boxes.{Box, Brought, FitsOpen, fresh_box, queue_of, box_turned, box_heard}
use Rattle.modem_sim.specs.Doing.{call_owed, done, is_closed_down}
use Rattle.modem_sim.specs.Histories.{EachAllowed, got, sent}
use Rattle.serial_line.specs.Counts.{saturated}
use Rattle.modem_sim.specs.Cores.{Core, Wired, IsLater, Fits, EndGoesOn, Takes, box_at, brought, closes_in, closes_all, kept_in, lines_in, octets_in, opens_in, wire_after, after_wire_act, nothing_wired, that_act}
use Rattle.modem_sim.proofs.connections.BoxesAfterFrame.{IsBrought, box_goes_on, count_goes_on, modem_goes_on, texts_are, box_still, sent_still}

-- the station's past goes on by the frames that are sent
pub wire-sent_after : (fs : List Frame) (past : List Act) → wire (wire_after fs past) ≡ sending.sent_after fs (wire past)
wire-sent_after [] past = refl
wire-sent_after (f ∷ fs) past = wire-sent_after fs (Wire (station.Sent f) ∷ past)

-- no line ends in them
pub heard-sent_after : (fs : List Frame) (past : List Act) → heard (wire_after fs past) ≡ heard past
heard-sent_after [] past = refl
heard-sent_after (f ∷ fs) past = heard-sent_after fs (Wire (station.Sent f) ∷ past)

-- behind an act of the station and them no call is owed
pub owed-sent_after : (fs : List Frame) (a : station.Act) (past : List Act) → call_owed (wire_after fs (Wire a ∷ past)) ≡ None
owed-sent_after [] a past = refl
owed-sent_after (f ∷ fs) a past = owed-sent_after fs (station.Sent f) (Wire a ∷ past)

-- where that act may follow each of them may
pub allowed-sent_after : (e : End) (fs : List Frame) (a : station.Act) (past : List Act) → EachAllowed e (Wire a ∷ past) → EachAllowed e (wire_after fs (Wire a ∷ past))
allowed-sent_after e [] a past each = each
allowed-sent_after e (f ∷ fs) a past each =
    allowed-sent_after e fs (station.Sent f) (Wire a ∷ past) (refl, each)

-- no step is done by them
pub done-sent_after : (fs : List Frame) (past : List Act) → done (wire_after fs past) ≡ done past
done-sent_after [] past = refl
done-sent_after (f ∷ fs) past = done-sent_after fs (Wire (station.Sent f) ∷ past)

-- they close nothing down
pub closed-sent_after : (fs : List Frame) (past : List Act) → is_closed_down (wire_after fs past) ≡ is_closed_down past
closed-sent_after [] past = refl
closed-sent_after (f ∷ fs) past = closed-sent_after fs (Wire (station.Sent f) ∷ past)

-- no frame comes by them
pub got-sent_after : (fs : List Frame) (past : List Act) → got (wire_after fs past) ≡ got past
got-sent_after [] past = refl
got-sent_after (f ∷ fs) past = got-sent_after fs (Wire (station.Sent f) ∷ past)

sent-sent_after : (fs : List Frame) (past : List Act) → sent (wire_after fs past) ≡ sent past ++ fs
sent-sent_after [] past = sym (append-nil (sent past))
sent-sent_after (f ∷ fs) past = sent-sent_after fs (Wire (station.Sent f) ∷ past) ∙ append_assoc (sent past) (f ∷ []) fs

-- the past goes on with frames that are sent
pub later-sent_after : (fs : List Frame) (past : List Act) → IsLater past (wire_after fs past)
later-sent_after [] past = record { newer = []; joins = refl }
later-sent_after (f ∷ fs) past =
    let more = later-sent_after fs (Wire (station.Sent f) ∷ past) in
    record { newer = more.newer ++ Wire (station.Sent f) ∷ []; joins = append_assoc more.newer (Wire (station.Sent f) ∷ []) past ∙ more.joins }

-- the acts by which it goes on are of a kind, if frames sent are
pub only_sent : (may : Act → Bool) → ((f : Frame) → may (Wire (station.Sent f)) ≡ true) → (fs : List Frame) (past : List Act) → list_all may (later-sent_after fs past).newer ≡ true
unfolding later-sent_after
only_sent may each [] past = refl
only_sent may each (f ∷ fs) past = all_behind may (later-sent_after fs (Wire (station.Sent f) ∷ past)).newer (Wire (station.Sent f)) (only_sent may each fs (Wire (station.Sent f) ∷ past)) (each f)
  where
    all_behind : (may : Act → Bool) (xs : List Act) (x : Act) → list_all may xs ≡ true → may x ≡ true → list_all may (xs ++ x ∷ []) ≡ true
    all_behind may [] x all is = ap (λ (b : Bool). b && true) is
    all_behind may (y ∷ xs) x all is =
        let both = both_true (may y) (list_all may xs) all in
        ap (λ (b : Bool). b && list_all may (xs ++ x ∷ [])) both.0 ∙ all_behind may xs x both.1 is

abbrev is_control : Frame → Bool
is_control f = not (is_data_frame f)

-- control frames that are sent wait in the control queue
queued-sent_after : (fs : List Frame) (past : List station.Act) → list_all is_control fs ≡ true → sending.queue (sending.sent_after fs past) ≡ sending.queue past ++ fs
queued-sent_after [] past control = sym (append-nil (sending.queue past))
queued-sent_after (f ∷ fs) past control =
    let both = both_true (is_control f) (list_all is_control fs) control in
    queued-sent_after fs (station.Sent f ∷ past) both.1
    ∙ ap (λ (b : Bool). (sending.queue past ++ (if b then [] else f ∷ [])) ++ fs) (no_data (is_data_frame f) both.0)
    ∙ append_assoc (sending.queue past) (f ∷ []) fs
  where
    no_data : (b : Bool) → not b ≡ true → b ≡ false
    no_data false is = refl
    no_data true is = cc

-- so those that an end sends are those that its queue gets
pub sent_queued : (e : End) (was now : stations.Station) (past : List Act) (a : station.Act) (gone : List Frame) → fitting.StationFits was (wire past) → fitting.StationFits now (sending.after_act (setting e) (wire past) a) → (sent (Wire a ∷ past) ≡ sent past) → sending.queue (a ∷ wire past) ≡ sending.queue (wire past) → sent past ≡ gone ++ was.queue → sent (after_wire_act e past a) ≡ gone ++ now.queue
sent_queued e was now past a gone before after none same gone_are =
    let fs = sending.called_frames (setting e) (wire past) a in
    let queue : now.queue ≡ was.queue ++ fs =
    sym after.queue_is ∙ queued-sent_after fs (a ∷ wire past) (calls_control (setting e) (wire past) a)
    ∙ ap (λ q. q ++ fs) (same ∙ before.queue_is) in
    sent-sent_after fs (Wire a ∷ past) ∙ ap (λ x. x ++ fs) (none ∙ gone_are) ∙ append_assoc gone was.queue fs ∙ ap (λ q. gone ++ q) (sym queue)

-- what is kept of a connection fits behind them too
pub box-sent_after : (e : End) (fs : List Frame) (past : List Act) (d : ℕ) (b : Box) → FitsOpen e d past b → FitsOpen e d (wire_after fs past) b
box-sent_after e [] past d b fits = fits
box-sent_after e (f ∷ fs) past d b fits =
    box-sent_after e fs (Wire (station.Sent f) ∷ past) d b (box_still e past (station.Sent f) d b b.unsent (sent_still d past f) refl fits)

-- ## The beginning

shut_at_first : (d : ℕ) (b : Box) (e : End) → FitsOpen e d [] b
shut_at_first d b e there = cc

-- an end to which nothing has happened
pub fits_nothing : (e : End) (c : Core) → c.station ≡ stations.new_station Responder e.n1 → fitting.StationFits c.station [] → c.echo ≡ e.echo → c.modem ≡ e.modem → c.come ≡ 0 → c.steps ≡ e.steps → c.closed ≡ false → Fits e nothing_wired c []
unfolding sending.StationLawful sending.StationComplete
fits_nothing e c station fits echo modem come steps closed = record {
  setting_is = ap stations.setting_of station;
  echo_is = echo;
  station_is = fits;
  lawful = tt;
  complete = refl;
  allowed = tt;
  free = refl;
  modem_is = sym modem;
  boxes_are = λ d small. shut_at_first d (box_at c d) e;
  come_is = sym come;
  left_is = ap that_act (sym steps);
  closed_is = sym closed;
  came_are = refl;
  gone_are = sym (ap (λ (v : stations.Station). v.queue) station);
}

-- ## A frame that comes

role_is : (c : Core) (e : End) → stations.setting_of c.station ≡ setting e → c.station.role ≡ Responder
role_is c e is = ap (λ s. s.role) is

-- the station says which connections are open
pub opened_is : (e : End) (w : Wired) (c : Core) (past : List Act) (d : ℕ) → d < 62 → Fits e w c past → is_opened (stations.channel_at c.station d).state ≡ is_open_at_modem d past
opened_is e w c past d small fits =
    ap is_opened (sym (fits.station_is.channels_are d small).state_is)
    ∙ ap (λ r. opening.is_open r d (wire past)) (role_is c e fits.setting_is)

lines_at : (e : End) (past : List Act) (d : ℕ) (b : Box) (info : List ℕ) (data_is there : Bool) → kept_run b.run ≡ b.run → is_open_at_modem d past ≡ there → FitsOpen e d past b → lines (b.run ++ (if data_is && there then info else [])) ≡ (if data_is && there then lines (unfinished_on Responder d (wire past) ++ info) else [])
lines_at e past d b info true true kept is fits = ap (λ r. lines (r ++ info)) (sym (fits is).run_is)
lines_at e past d b info true false kept is fits = ap lines (append-nil b.run) ∙ no_lines b.run kept
lines_at e past d b info false there kept is fits = ap lines (append-nil b.run) ∙ no_lines b.run kept

-- the lines that it finds are those that end
lines_are : (e : End) (w : Wired) (c : Core) (past : List Act) (f : Frame) → f.dlci < 62 → kept_run (box_at c f.dlci).run ≡ (box_at c f.dlci).run → Fits e w c past → lines_in c f ≡ texts_with past f
lines_are e w c past f small kept fits =
    ap (λ (o : Bool). lines ((box_at c f.dlci).run ++ (if is_data_frame f && o then f.info else []))) (opened_is e w c past f.dlci small fits)
    ∙ lines_at e past f.dlci (box_at c f.dlci) f.info (is_data_frame f) (is_open_at_modem f.dlci past) kept refl (fits.boxes_are f.dlci small)
    ∙ sym (texts_are past f)

run_at : (d : ℕ) (past : List Act) (run info : List ℕ) (data_is there : Bool) → there ≡ true → unfinished_on Responder d (wire past) ≡ run → kept_run (run ++ (if data_is && there then info else [])) ≡ kept_run (unfinished_on Responder d (wire past) ++ (if data_is then info else []))
run_at d past run info true true is same = ap (λ r. kept_run (r ++ info)) (sym same)
run_at d past run info false there is same = ap (λ r. kept_run (r ++ [])) (sym same)
run_at d past run info true false is same = cc

is_brought : (e : End) (w : Wired) (c : Core) (past : List Act) (f : Frame) → f.dlci < 62 → kept_run (box_at c f.dlci).run ≡ (box_at c f.dlci).run → Fits e w c past → IsBrought e past f (brought c f)
is_brought e w c past f small kept fits = record {
  run_is = λ there.
      ap (λ (o : Bool). kept_run ((box_at c f.dlci).run ++ (if is_data_frame f && o then f.info else []))) (opened_is e w c past f.dlci small fits)
      ∙ run_at f.dlci past (box_at c f.dlci).run f.info (is_data_frame f) (is_open_at_modem f.dlci past) there (fits.boxes_are f.dlci small there).run_is;
  said_is =
      ap (λ ls. pieces_octets (replies c.echo c.modem ls)) (lines_are e w c past f small kept fits)
      ∙ ap (λ (o : Bool). pieces_octets (replies o c.modem (texts_with past f))) fits.echo_is
      ∙ ap (λ m. pieces_octets (replies e.echo m (texts_with past f))) (sym fits.modem_is);
  calls_is = ap (any_call c.modem) (lines_are e w c past f small kept fits) ∙ ap (λ m. any_call m (texts_with past f)) (sym fits.modem_is);
}

-- a frame opens no other connection
opens_other : (past : List station.Act) (d : ℕ) (f : Frame) → (f.dlci == d) ≡ false → opens_now Responder d past (station.Got f) ≡ false
opens_other past d f other = rw other (none (is_kind f.kind Sabm) _)
  where
    none : (a b : Bool) → ((a && false) && b) ≡ false
    none true b = refl
    none false b = refl

-- where a box was put among others, it is found at its place, and each other one at its own
pub box_here : (boxes : List Box) (d n : ℕ) (b : Box) (here : Bool) → (n == d) ≡ here → n < length boxes → slice_index_or (slice_set boxes n b) d fresh_box ≡ (if here then b else slice_index_or boxes d fresh_box)
box_here boxes d n b true is inside =
    let same : n ≡ d = grind (arith, nat_tests) in
    ap (λ m. slice_index_or (slice_set boxes n b) m fresh_box) (sym same) ∙ get_or-set_same boxes n b fresh_box inside
box_here boxes d n b false is inside =
    let other : d ≢ n = λ same. no (sym is ∙ equal n d (sym same)) in
    get_or-set_other boxes n d b fresh_box other
  where
    no : false ≡ true → ⊥
    no h = cc

    equal : (m k : ℕ) → m ≡ k → (m == k) ≡ true
    equal m k h = grind (arith, nat_tests)

-- what is kept of each connection afterwards
turned_at : (boxes : List Box) (b : Box) (x : Brought) (f : Frame) (past : List station.Act) (opens : Bool) (d : ℕ) (here : Bool) → (f.dlci == d) ≡ here → opens ≡ opens_now Responder f.dlci past (station.Got f) → f.dlci < length boxes → b ≡ slice_index_or boxes f.dlci fresh_box → slice_index_or (slice_set boxes f.dlci (box_turned opens true x b)) d fresh_box ≡ box_turned (opens_now Responder d past (station.Got f)) (f.dlci == d) x (slice_index_or boxes d fresh_box)
turned_at boxes b x f past opens d true is opened inside was =
    let same : f.dlci ≡ d = grind (arith, nat_tests) in
    let Turned : ℕ → Type 0 = λ n. slice_index_or (slice_set boxes f.dlci (box_turned opens true x b)) n fresh_box ≡ box_turned (opens_now Responder n past (station.Got f)) true x (slice_index_or boxes n fresh_box) in
    let there : Turned f.dlci =
    get_or-set_same boxes f.dlci (box_turned opens true x b) fresh_box inside
    ∙ ap (λ o. box_turned o true x b) opened
    ∙ ap (λ y. box_turned (opens_now Responder f.dlci past (station.Got f)) true x y) was in
    subst Turned same there ∙ ap (λ (h : Bool). box_turned (opens_now Responder d past (station.Got f)) h x (slice_index_or boxes d fresh_box)) (sym is)
turned_at boxes b x f past opens d false is opened inside was =
    let none = opens_other past d f is in
    rw (none, is) (box_here boxes d f.dlci (box_turned opens true x b) false is inside)

heard_at : (old new : Core) (f : Frame) (past : List station.Act) (d : ℕ) → f.dlci < length old.boxes → opens_in old f ≡ opens_now Responder f.dlci past (station.Got f) → Takes old new f → box_at new d ≡ box_heard f.dlci (length (lines_in old f)) (box_turned (opens_now Responder d past (station.Got f)) (f.dlci == d) (brought old f) (box_at old d))
heard_at old new f past d inside opened takes =
    let b = box_turned (opens_in old f) true (brought old f) (box_at old f.dlci) in
    ap (λ bs. slice_index_or bs d fresh_box) takes.boxes_are
    ∙ get_or-map (box_heard f.dlci (length (lines_in old f))) (slice_set old.boxes f.dlci b) d fresh_box
    ∙ ap (box_heard f.dlci (length (lines_in old f))) (turned_at old.boxes (box_at old f.dlci) (brought old f) f past (opens_in old f) d (f.dlci == d) refl opened inside refl)

-- the frame opens its connection where the end says so
opens_are : (e : End) (w : Wired) (c : Core) (past : List Act) (f : Frame) → Fits e w c past → opens_in c f ≡ opens_now Responder f.dlci (wire past) (station.Got f)
opens_are e w c past f fits =
    let zero = opened_is e w c past 0 (lit< tt) fits in
    ap (λ (o : Bool). is_on Sabm f.dlci f && ((f.dlci == 0) || o)) zero

capped : (m n : ℕ) (a : Bool) → nat_le (2 ^ 64 - 1) m ≡ a → saturated (m + n) ≡ saturated (saturated m + n)
capped m n a is = omega arith

-- whether it closes down
closes_are : (e : End) (w : Wired) (c : Core) (past : List Act) (f : Frame) → Fits e w c past → closes_in c f ≡ (is_open_at_modem 0 past && brings_command cld f)
closes_are e w c past f fits = ap (λ (o : Bool). o && brings_command cld f) (opened_is e w c past 0 (lit< tt) fits)

-- in either order
pub either_way : (a b : Bool) → (a || b) ≡ (b || a)
either_way true true = refl
either_way true false = refl
either_way false true = refl
either_way false false = refl

-- an end that takes a frame goes on with it and with all that it calls for
pub takes_goes_on : (old new : Core) (f : Frame) → f.dlci < 62 → length old.boxes ≡ 62 → kept_run (box_at old f.dlci).run ≡ (box_at old f.dlci).run → Takes old new f → EndGoesOn old new f
takes_goes_on old new f small all kept takes e w past fits =
    let fs = sending.called_frames (setting e) (wire past) (station.Got f) in
    let keeps = answers_keep (setting e) (wire past) (station.Got f) in
    let heard_is = heard-sent_after fs (Wire (station.Got f) ∷ past) in
    let There : List station.Act → Type 0 = λ p. fitting.StationFits new.station p in
    let LawfulAt : List station.Act → Type 0 = λ p. sending.StationLawful (setting e) p in
    let CompleteAt : List station.Act → Type 0 = λ p. sending.StationComplete (setting e) p in
    let By : sending.StationSetting → Type 0 = λ s. fitting.StationFits new.station (sending.after_act s (wire past) (station.Got f)) in
    let whole = sym (wire-sent_after fs (Wire (station.Got f) ∷ past)) in
    let inside : f.dlci < length old.boxes = omega arith in
    let lines = lines_are e w old past f small kept fits in
    let count : length (lines_in old f) ≡ length (texts_with past f) = ap length lines in
    let station_fits = subst By fits.setting_is (takes.at_station.fits (wire past) fits.station_is) in
    record {
      setting_is = takes.at_station.setting ∙ fits.setting_is;
      echo_is = takes.echo_is ∙ fits.echo_is;
      station_is = subst There whole station_fits;
      lawful = subst LawfulAt whole (keeps.lawful refl fits.lawful fits.complete);
      complete = subst CompleteAt whole (keeps.complete refl fits.lawful fits.complete);
      allowed = allowed-sent_after e fs (station.Got f) past (fits.free, fits.allowed);
      free = owed-sent_after fs (station.Got f) past;
      modem_is = ap (λ hs. after_lines e.modem (texts_of hs)) heard_is
          ∙ modem_goes_on e past f
          ∙ ap (λ ls. after_lines (modem_after e past) ls) (sym lines)
          ∙ ap (λ m. after_lines m (lines_in old f)) fits.modem_is
          ∙ sym takes.modem_is;
      boxes_are = λ d d_small.
          let turned = heard_at old new f (wire past) d inside (opens_are e w old past f fits) takes in
          let OpenWith : Box → Type 0 = λ b. FitsOpen e d (Wire (station.Got f) ∷ past) b in
          let heard_so = ap (λ n. box_heard f.dlci n (box_turned (opens_now Responder d (wire past) (station.Got f)) (f.dlci == d) (brought old f) (box_at old d))) count in
          box-sent_after e fs (Wire (station.Got f) ∷ past) d (box_at new d)
          (subst OpenWith (sym (turned ∙ heard_so)) (box_goes_on e past f (brought old f) d (box_at old d) (is_brought e w old past f small kept fits) (fits.boxes_are d d_small)));
      come_is = ap (λ hs. saturated (length hs)) heard_is
          ∙ ap saturated (count_goes_on past f)
          ∙ capped (length (heard past)) (length (texts_with past f)) (nat_le (2 ^ 64 - 1) (length (heard past))) refl
          ∙ ap (λ n. saturated (n + length (texts_with past f))) fits.come_is
          ∙ ap (λ n. saturated (old.come + n)) (sym count)
          ∙ sym takes.come_is;
      left_is = ap (λ ds. drop (length ds) (that_act e.steps)) (done-sent_after fs (Wire (station.Got f) ∷ past)) ∙ fits.left_is ∙ ap that_act (sym takes.steps_are);
      closed_is = closed-sent_after fs (Wire (station.Got f) ∷ past)
          ∙ ap (λ (b : Bool). (is_open_at_modem 0 past && brings_command cld f) || b) fits.closed_is
          ∙ ap (λ (b : Bool). b || old.closed) (sym (closes_are e w old past f fits))
          ∙ either_way (closes_in old f) old.closed
          ∙ sym takes.closed_is;
      came_are = got-sent_after fs (Wire (station.Got f) ∷ past) ∙ ap (λ fs. fs ++ f ∷ []) fits.came_are;
      gone_are = sent_queued e old.station new.station past (station.Got f) w.gone fits.station_is station_fits refl refl fits.gone_are;
    }

-- it is noted that all are closed where the frame is a CLD
pub closing_noted : (r : Role) (v : sending.StationView) (f : Frame) (n : Noted) → n ≡ noted_of r v f → (is_opened (v.state 0) && (is_on Uih 0 f && closes_all n)) ≡ (is_opened (v.state 0) && brings_command cld f)
closing_noted r v f n is = ap (λ m. is_opened (v.state 0) && (is_on Uih 0 f && closes_all m)) is ∙ by_kind (is_on Uih 0 f) (v.state 0) (message_of f.info)
  where
    probe_closes_none : (p : Option sending.Waiting) (m : Message) → closes_all (noted_of_probe p (Some m)) ≡ false
    probe_closes_none None m = refl
    probe_closes_none (Some w) m = by_answer (sending.brings_probe_back w.data_octets (Some m)) (sending.refuses_probe (Some m))
      where
        by_answer : (a b : Bool) → closes_all (if a then ProbeBack else if b then ProbeRefused else Nothing) ≡ false
        by_answer true b = refl
        by_answer false true = refl
        by_answer false false = refl

    by_octet : (b : Bool) (p : Option sending.Waiting) (m : Message) → closes_all (if b then AllClosed else noted_of_probe p (Some m)) ≡ b
    by_octet true p m = refl
    by_octet false p m = probe_closes_none p m

    by_message : (m : Option Message) → closes_all (noted_by_message IsOpened v.probe m) ≡ octet_is (λ n. n) cld m
    by_message None = refl
    by_message (Some m) = by_octet (m.octet == cld) v.probe m

    by_state : (s : State) (m : Option Message) → (is_opened s && closes_all (noted_by_message s v.probe m)) ≡ (is_opened s && octet_is (λ n. n) cld m)
    by_state IsOpened m = by_message m
    by_state IsShut m = refl
    by_state (IsOpening k) m = refl
    by_state (IsClosing k) m = refl
    by_state (IsStopping k) m = refl

    neither : (b : Bool) → (b && false) ≡ (b && false)
    neither b = refl

    by_kind : (b : Bool) (s : State) (m : Option Message) → (is_opened s && (b && closes_all (if b then noted_by_message s v.probe m else noted_by_table r f.dlci (v.state 0) (v.state f.dlci) f.kind))) ≡ (is_opened s && (b && octet_is (λ n. n) cld m))
    by_kind true s m = by_state s m
    by_kind false s m = refl

-- what an end does that takes a frame
pub kept_takes : (old mid new : Core) (f : Frame) (m : ModemState) (reader said : List ℕ) (calls opens closes : Bool) (ended : ℕ) → mid ≡ record old { station = mid.station } → fitting.StationHandles old.station mid.station (station.Got f) → opens ≡ opens_in old f → closes ≡ closes_in old f → m ≡ after_lines old.modem (lines_in old f) → ended ≡ length (lines_in old f) → reader ≡ kept_run ((box_at old f.dlci).run ++ octets_in old f) → said ≡ queue_of (box_at old f.dlci) ++ pieces_octets (replies old.echo old.modem (lines_in old f)) → calls ≡ any_call old.modem (lines_in old f) → ((octets : List ℕ) → said ≡ queue_of (box_at mid f.dlci) ++ octets → new ≡ kept_in mid f.dlci m (box_turned opens true (record { run = reader; said = octets; calls = calls }) (box_at mid f.dlci)) ended closes) → Takes old new f
kept_takes old mid new f m reader said calls opens closes ended same handles opened closed modem count run tells called keeps =
    let octets = pieces_octets (replies old.echo old.modem (lines_in old f)) in
    let boxes : mid.boxes ≡ old.boxes = ap (λ (c : Core). c.boxes) same in
    let box : box_at mid f.dlci ≡ box_at old f.dlci = ap (λ (c : Core). box_at c f.dlci) same in
    let is = keeps octets (tells ∙ ap (λ b. queue_of b ++ octets) (sym box)) in
    let Station : stations.Station → Type 0 = λ s. fitting.StationHandles old.station s (station.Got f) in
    record {
      at_station = subst Station (sym (ap (λ (c : Core). c.station) is)) handles;
      modem_is = ap (λ (c : Core). c.modem) is ∙ modem;
      echo_is = ap (λ (c : Core). c.echo) is ∙ ap (λ (c : Core). c.echo) same;
      boxes_are = ap (λ (c : Core). c.boxes) is
          ∙ ap (λ bs. map (box_heard f.dlci ended) (slice_set bs f.dlci (box_turned opens true (record { run = reader; said = octets; calls = calls }) (box_at mid f.dlci)))) boxes
          ∙ ap (λ b. map (box_heard f.dlci ended) (slice_set old.boxes f.dlci (box_turned opens true (record { run = reader; said = octets; calls = calls }) b))) box
          ∙ ap (λ o. map (box_heard f.dlci ended) (slice_set old.boxes f.dlci (box_turned o true (record { run = reader; said = octets; calls = calls }) (box_at old f.dlci)))) opened
          ∙ ap (λ r. map (box_heard f.dlci ended) (slice_set old.boxes f.dlci (box_turned (opens_in old f) true (record { run = r; said = octets; calls = calls }) (box_at old f.dlci)))) run
          ∙ ap (λ y. map (box_heard f.dlci ended) (slice_set old.boxes f.dlci (box_turned (opens_in old f) true (record { run = (brought old f).run; said = octets; calls = y }) (box_at old f.dlci)))) called
          ∙ ap (λ n. map (box_heard f.dlci n) (slice_set old.boxes f.dlci (box_turned (opens_in old f) true (brought old f) (box_at old f.dlci)))) count;
      come_is = ap (λ (c : Core). c.come) is ∙ ap (λ (c : Core). saturated (c.come + ended)) same ∙ ap (λ n. saturated (old.come + n)) count;
      steps_are = ap (λ (c : Core). c.steps) is ∙ ap (λ (c : Core). c.steps) same;
      closed_is = ap (λ (c : Core). c.closed) is ∙ ap (λ (c : Core). c.closed || closes) same ∙ ap (λ (b : Bool). old.closed || b) closed;
    }

-- what is kept of a text is that, read anew
pub kept_of : (reader text : List ℕ) → reader ≡ kept_run text → kept_run reader ≡ reader
kept_of reader text is = ap kept_run is ∙ kept_again text ∙ sym is

-- inside the boxes, what stands for one that isn't there doesn't matter
pub any_default : (boxes : List Box) (i : ℕ) (a b : Box) → i < length boxes → slice_index_or boxes i a ≡ slice_index_or boxes i b
any_default [] i a b inside = absurd (omega (arith, inside))
any_default (x ∷ boxes) zero a b inside = refl
any_default (x ∷ boxes) (suc i) a b inside = any_default boxes i a b (omega arith)

-- what was learnt on the way makes an end that goes on
pub got_goes_on : (old mid new : Core) (copy m' : ModemState) (f : Frame) (b : Box) (octets reader said : List ℕ) (calls opens closes : Bool) (ended : ℕ) → length old.boxes ≡ 62 → f.dlci < 62 → mid ≡ record old { station = mid.station } → b ≡ slice_index_or old.boxes f.dlci b → octets ≡ octets_in old f → opens ≡ opens_in old f → closes ≡ closes_in old f → copy ≡ old.modem → kept_run b.run ≡ b.run → m' ≡ after_lines copy (lines (b.run ++ octets)) → ended ≡ length (lines (b.run ++ octets)) → reader ≡ kept_run (b.run ++ octets) → said ≡ queue_of b ++ pieces_octets (replies old.echo copy (lines (b.run ++ octets))) → calls ≡ any_call copy (lines (b.run ++ octets)) → fitting.StationHandles old.station mid.station (station.Got f) → ((o : List ℕ) → said ≡ queue_of (box_at mid f.dlci) ++ o → new ≡ kept_in mid f.dlci m' (box_turned opens true (record { run = reader; said = o; calls = calls }) (box_at mid f.dlci)) ended closes) → EndGoesOn old new f
got_goes_on old mid new copy m' f b octets reader said calls opens closes ended all small same here octets_are opened closed copied kept modem count run tells called handles keeps =
    let box : b ≡ box_at old f.dlci = here ∙ any_default old.boxes f.dlci b fresh_box (omega arith) in
    let text : b.run ++ octets ≡ (box_at old f.dlci).run ++ octets_in old f = ap (λ x. x.run ++ octets) box ∙ ap (λ x. (box_at old f.dlci).run ++ x) octets_are in
    let ls = ap lines text in
    takes_goes_on old new f small all (sym (ap (λ x. kept_run x.run) box) ∙ kept ∙ ap (λ (x : Box). x.run) box)
    (kept_takes old mid new f m' reader said calls opens closes ended same handles opened closed
    (modem ∙ ap (λ x. after_lines x (lines (b.run ++ octets))) copied ∙ ap (after_lines old.modem) ls)
    (count ∙ ap length ls)
    (run ∙ ap kept_run text)
    (tells ∙ ap (λ x. queue_of x ++ pieces_octets (replies old.echo copy (lines (b.run ++ octets)))) box
    ∙ ap (λ x. queue_of (box_at old f.dlci) ++ pieces_octets (replies old.echo x (lines (b.run ++ octets)))) copied
    ∙ ap (λ x. queue_of (box_at old f.dlci) ++ pieces_octets (replies old.echo old.modem x)) ls)
    (called ∙ ap (λ x. any_call x (lines (b.run ++ octets))) copied ∙ ap (any_call old.modem) ls)
    keeps)

-- what holds where a call went well holds, where it did
pub is_handled : {A E : Type 0} (r : Result A E) (P : Type 0) → OnOk r P → is_ok r ≡ true → P
is_handled (Ok a) P is ok = is
is_handled (Err why) P is ok = cc
