-- Each call of a pipe leads on.
use Rattle.std.specs.Prelude.{◌≡◌, ℕ, ◌==◌, ◌&&◌, not, Bool, true, false, List, [], ◌∷◌, ◌++◌, Some, None, refl, if◌then◌else◌, unwrap_or}
use Rattle.std.proofs.Common.{ap, sym, ◌∙◌, subst}
use Rattle.std.proofs.lemmas.Bool.{eqb-true}
use Rattle.std.proofs.lemmas.List.{append_assoc, append-nil}
use Rattle.mux_frame.specs.Frames.{Frame}
use Rattle.mux_frame.specs.declared.frame.Kind.{Kind}
use Rattle.mux_frame.specs.declared.frame.Kind.TheVariants.{Sabm, Ua, Dm, Disc, Uih}
use Rattle.mux_station.specs.declared.role.Role.{Role}
use Rattle.mux_station.specs.Acts as station
use Rattle.mux_station.specs.Written.{is_kind, is_on}
use Rattle.mux_station.specs.Opening.{is_open}
use Rattle.mux_station.specs.Stopping.{got_says, msc_says}
use Rattle.modem_data.specs.Switching.{Carries, Idle, Lines, Ended, Data, Prompts, Marked, Sends, Owes, Owns, Answered, IsCut, is_idle, without_carrier, data_of, carries_after}
use Rattle.modem_data.specs.declared.switch.LineCut.{LineCut}
use Rattle.modem_data.specs.declared.begin.Until.{Until}
use Rattle.modem_data.specs.declared.begin.Until.TheVariants.{Close}
use Rattle.modem_data.specs.DataLanes.{DataLane, TakesInfo}
use Rattle.modem_data.specs.Watching.{HasWatched, loses_carrier, watched, watch_ends, watch_loses, watch_opens}
use Rattle.modem_data.specs.Passing.{Pass, Came, Went, Flowed, Lost, wire, is_info, is_data, opens_here, ends_here, drops_here, until_of, is_by_carrier, carries, carries_behind, carries_gone, data_came, data_read, left, holds, driver_holds, AllowsPass, LawfulPasses}
use Rattle.modem_data.specs.Pipes.{Pipe, PipeFits, BeginsPipe, Leads, HandsOn, lane_over, lane_behind, lane_gone, pipe_drops, saw_pipe, sent_pipe, flowed_pipe, lost_pipe}
use Rattle.modem_data.proofs.Watching.{goes, info_said, open_said, opens_said, ends_said, loses_said, watched_info, info_ends_none, info_loses_none, info_opens_none}

-- a new pipe of a connection other than 0 begins there
pub new_fits : (role : Role) (d : ℕ) (v : Pipe) → (d == 0) ≡ false → v.watch.role ≡ role → v.watch.dlci ≡ d → HasWatched v.watch [] → v.lane.carries ≡ Idle → v.lane.came ≡ [] → v.lane.to_go ≡ [] → v.until ≡ Close → v.held ≡ false → v.by_driver ≡ false → BeginsPipe role d v
unfolding BeginsPipe LawfulPasses
new_fits role d v z r e w c came go until held by n1 = record { role_is = r; dlci_is = e; not_control = z; lawful = tt; watched = w; carries_is = c; until_is = until; came_is = came; to_go_is = go; held_is = held; by_driver_is = by }

-- ## What a watch says of a past that a pipe fits

info_here : (role : Role) (n1 d : ℕ) (v : Pipe) (past : List Pass) (f : Frame) → PipeFits role n1 d v past → (is_on Uih v.watch.dlci f && v.watch.own.is_open) ≡ is_info role d past f
info_here role n1 d v past f h = info_said v.watch (wire past) f h.watched ∙ (ap (λ r. is_info r v.watch.dlci past f) h.role_is ∙ ap (λ e. is_info role e past f) h.dlci_is)

-- a pipe's watch says whether its connection is open
pub open_there : (role : Role) (n1 d : ℕ) (v : Pipe) (past : List Pass) → PipeFits role n1 d v past → v.watch.own.is_open ≡ is_open role d (wire past)
open_there role n1 d v past h = open_said v.watch (wire past) h.watched ∙ (ap (λ r. is_open r v.watch.dlci (wire past)) h.role_is ∙ ap (λ e. is_open role e (wire past)) h.dlci_is)

opening : (role : Role) (n1 d : ℕ) (v : Pipe) (past : List Pass) (a : station.Act) → PipeFits role n1 d v past → watch_opens v.watch a ≡ opens_here role d past a
opening role n1 d v past a h = opens_said v.watch (wire past) a h.watched ∙ (ap (λ r. opens_here r v.watch.dlci past a) h.role_is ∙ ap (λ e. opens_here role e past a) h.dlci_is)

ending : (role : Role) (n1 d : ℕ) (v : Pipe) (past : List Pass) (a : station.Act) → PipeFits role n1 d v past → watch_ends v.watch a ≡ ends_here role d past a
ending role n1 d v past a h = ends_said v.watch (wire past) a h.watched ∙ (ap (λ r. ends_here r v.watch.dlci past a) h.role_is ∙ ap (λ e. ends_here role e past a) h.dlci_is)

dropping : (role : Role) (n1 d : ℕ) (v : Pipe) (past : List Pass) (f : Frame) → PipeFits role n1 d v past → pipe_drops v f ≡ drops_here role d past f
dropping role n1 d v past f h =
    ap (λ (u : Until). is_by_carrier u && watch_loses v.watch (station.Got f)) h.until_is
    ∙ ap (λ b. is_by_carrier (until_of d past) && b) (loses_said v.watch (wire past) (station.Got f) h.watched ∙ (ap (λ r. loses_carrier r v.watch.dlci (wire past) (station.Got f)) h.role_is ∙ ap (λ e. loses_carrier role e (wire past) (station.Got f)) h.dlci_is))

watched_on : (role : Role) (n1 d : ℕ) (v : Pipe) (past : List Pass) (a : station.Act) → PipeFits role n1 d v past → HasWatched (watched v.watch a) (a ∷ wire past)
watched_on role n1 d v past a h = goes v.watch (wire past) a h.watched

not_here : (role : Role) (d e : ℕ) (past : List Pass) (f : Frame) → e ≡ d → is_on Uih e f ≡ false → is_info role d past f ≡ false
not_here role d e past f is off = rw (sym is) (rw off refl)

-- ## Frames that are no information on the connection

over_came : (b : Bool) (l : DataLane) → (lane_over b l).came ≡ l.came
over_came true l = refl
over_came false l = refl

over_to_go : (b : Bool) (l : DataLane) → (lane_over b l).to_go ≡ l.to_go
over_to_go true l = refl
over_to_go false l = refl

behind_came : (b x : Bool) (l : DataLane) → (lane_behind b x l).came ≡ l.came
behind_came true x l = refl
behind_came false true l = refl
behind_came false false l = refl

behind_to_go : (b x : Bool) (l : DataLane) → (lane_behind b x l).to_go ≡ l.to_go
behind_to_go true x l = refl
behind_to_go false true l = refl
behind_to_go false false l = refl

behind_carries : (b x : Bool) (l : DataLane) (m : Carries) (info : List ℕ) → l.carries ≡ m → (lane_behind b x l).carries ≡ carries_behind false b x m info
behind_carries true x l m info is = refl
behind_carries false true l m info is = ap without_carrier is
behind_carries false false l m info is = is

over_sent : (b c : Bool) (l : DataLane) (m : Carries) → b ≡ c → l.carries ≡ m → (lane_over b l).carries ≡ (if c then Idle else m)
over_sent true true l m e is = refl
over_sent true false l m e is = cc
over_sent false true l m e is = cc
over_sent false false l m e is = is

gone_came : (b x : Bool) (info : List ℕ) (l : DataLane) → (lane_gone b x info l).came ≡ l.came
gone_came true x info l = refl
gone_came false true info l = refl
gone_came false false info l = refl

gone_to_go : (b x : Bool) (info : List ℕ) (l : DataLane) → (lane_gone b x info l).to_go ≡ l.to_go
gone_to_go true x info l = refl
gone_to_go false true info l = refl
gone_to_go false false info l = refl

gone_carries : (b x : Bool) (info : List ℕ) (l : DataLane) → (lane_gone b x info l).carries ≡ carries_gone b x l.carries info
gone_carries true x info l = refl
gone_carries false true info l = refl
gone_carries false false info l = refl

held_behind : (b c held was : Bool) → b ≡ c → held ≡ was → (if b then false else held) ≡ (if c then false else was)
held_behind b c held was e is = rw (e, is) refl

-- a pipe that has seen a frame that came, no information on its connection, fits the past with it
pub saw_fits : (role : Role) (n1 d : ℕ) (v : Pipe) (past : List Pass) (f : Frame) → is_on Uih v.watch.dlci f ≡ false → PipeFits role n1 d v past → PipeFits role n1 d (saw_pipe f v) (Came f ∷ past)
unfolding LawfulPasses
saw_fits role n1 d v past f off h =
    let here = not_here role d v.watch.dlci past f h.dlci_is off in
    let b = watch_ends v.watch (station.Got f) in
    let x = pipe_drops v f in
    record {
      role_is = h.role_is;
      dlci_is = h.dlci_is;
      not_control = h.not_control;
      lawful = (tt, h.lawful);
      watched = watched_on role n1 d v past (station.Got f) h;
      carries_is = rw here
          (ap (λ c. (lane_behind c x v.lane).carries) (ending role n1 d v past (station.Got f) h)
          ∙ (ap (λ y. (lane_behind (ends_here role d past (station.Got f)) y v.lane).carries) (dropping role n1 d v past f h)
          ∙ behind_carries (ends_here role d past (station.Got f)) (drops_here role d past f) v.lane (carries role d past) f.info h.carries_is));
      until_is = h.until_is;
      came_is = rw here (ap (λ y. data_read d past ++ y) (behind_came b x v.lane) ∙ h.came_is);
      to_go_is = ap (λ y. left d past ++ y) (behind_to_go b x v.lane) ∙ h.to_go_is;
      held_is = held_behind (watch_opens v.watch (station.Got f)) (opens_here role d past (station.Got f)) v.held (holds role d past) (opening role n1 d v past (station.Got f) h) h.held_is;
      by_driver_is = held_behind (watch_opens v.watch (station.Got f)) (opens_here role d past (station.Got f)) v.by_driver (driver_holds role d past) (opening role n1 d v past (station.Got f) h) h.by_driver_is;
    }

-- so it leads on by that frame
pub leads_saw : (v w : Pipe) (f : Frame) → is_on Uih v.watch.dlci f ≡ false → w ≡ saw_pipe f v → Leads v w (Came f)
unfolding Leads
leads_saw v w f off e role n1 d past h = subst (λ (x : Pipe). PipeFits role n1 d x (Came f ∷ past)) (sym e) (saw_fits role n1 d v past f off h)

-- what a frame that goes says of the flow
said_on : (role : Role) (n1 d : ℕ) (v : Pipe) (past : List Pass) (f : Frame) (held was : Bool) → PipeFits role n1 d v past → held ≡ was → unwrap_or (got_says (msc_says v.watch.dlci) (station.Got f)) held ≡ unwrap_or (got_says (msc_says d) (station.Got f)) was
said_on role n1 d v past f held was h is = rw is (ap (λ e. unwrap_or (got_says (msc_says e) (station.Got f)) was) h.dlci_is)

-- a pipe that has seen a frame of the driver's that goes fits the past with it
pub went_fits : (role : Role) (n1 d : ℕ) (v : Pipe) (past : List Pass) (f : Frame) → PipeFits role n1 d v past → PipeFits role n1 d (sent_pipe f v) (Went f ∷ past)
unfolding LawfulPasses
went_fits role n1 d v past f h =
    let b = watch_ends v.watch (station.Sent f) in
    let x = is_on Uih v.watch.dlci f && v.watch.own.is_open in
    record {
      role_is = h.role_is;
      dlci_is = h.dlci_is;
      not_control = h.not_control;
      lawful = (tt, h.lawful);
      watched = watched_on role n1 d v past (station.Sent f) h;
      carries_is = gone_carries b x f.info v.lane
          ∙ (ap (λ c. carries_gone c x v.lane.carries f.info) (ending role n1 d v past (station.Sent f) h)
          ∙ (ap (λ y. carries_gone (ends_here role d past (station.Sent f)) y v.lane.carries f.info) (info_here role n1 d v past f h)
          ∙ ap (λ m. carries_gone (ends_here role d past (station.Sent f)) (is_info role d past f) m f.info) h.carries_is));
      until_is = h.until_is;
      came_is = ap (λ y. data_read d past ++ y) (gone_came b x f.info v.lane) ∙ h.came_is;
      to_go_is = ap (λ y. left d past ++ y) (gone_to_go b x f.info v.lane) ∙ h.to_go_is;
      held_is = said_on role n1 d v past f v.held (holds role d past) h h.held_is;
      by_driver_is = said_on role n1 d v past f v.by_driver (driver_holds role d past) h h.by_driver_is;
    }

-- so it leads on by that frame
pub leads_went : (v w : Pipe) (f : Frame) → w ≡ sent_pipe f v → Leads v w (Went f)
unfolding Leads
leads_went v w f e role n1 d past h = subst (λ (x : Pipe). PipeFits role n1 d x (Went f ∷ past)) (sym e) (went_fits role n1 d v past f h)

-- so does one that has seen a word of flow go that was due
pub flowed_fits : (role : Role) (n1 d : ℕ) (v : Pipe) (past : List Pass) (f : Frame) → AllowsPass role n1 past (Flowed f) → PipeFits role n1 d v past → PipeFits role n1 d (flowed_pipe f v) (Flowed f ∷ past)
unfolding LawfulPasses
flowed_fits role n1 d v past f allowed h =
    let b = watch_ends v.watch (station.Sent f) in
    record {
      role_is = h.role_is;
      dlci_is = h.dlci_is;
      not_control = h.not_control;
      lawful = (allowed, h.lawful);
      watched = watched_on role n1 d v past (station.Sent f) h;
      carries_is = over_sent b (ends_here role d past (station.Sent f)) v.lane (carries role d past) (ending role n1 d v past (station.Sent f) h) h.carries_is;
      until_is = h.until_is;
      came_is = ap (λ x. data_read d past ++ x) (over_came b v.lane) ∙ h.came_is;
      to_go_is = ap (λ x. left d past ++ x) (over_to_go b v.lane) ∙ h.to_go_is;
      held_is = said_on role n1 d v past f v.held (holds role d past) h h.held_is;
      by_driver_is = h.by_driver_is;
    }

-- and one that has seen the loss of the line
pub lost_fits : (role : Role) (n1 d : ℕ) (v : Pipe) (past : List Pass) → PipeFits role n1 d v past → PipeFits role n1 d (lost_pipe v) (Lost ∷ past)
unfolding LawfulPasses
lost_fits role n1 d v past h = record {
  role_is = h.role_is;
  dlci_is = h.dlci_is;
  not_control = h.not_control;
  lawful = (tt, h.lawful);
  watched = watched_on role n1 d v past station.Lost h;
  carries_is = refl;
  until_is = h.until_is;
  came_is = h.came_is;
  to_go_is = h.to_go_is;
  held_is = h.held_is;
  by_driver_is = h.by_driver_is;
}

-- so it leads on by the loss
pub leads_lost : (v w : Pipe) → w ≡ lost_pipe v → Leads v w Lost
unfolding Leads
leads_lost v w e role n1 d past h = subst (λ (x : Pipe). PipeFits role n1 d x (Lost ∷ past)) (sym e) (lost_fits role n1 d v past h)

-- ## Information

-- what is of kind UIH, and something else besides, is UIH
pub kind_of : (k : Kind) (b : Bool) → is_kind k Uih && b ≡ true → k ≡ Uih
kind_of Sabm b e = cc
kind_of Ua b e = cc
kind_of Dm b e = cc
kind_of Disc b e = cc
kind_of Uih b e = refl

dlci_of : (k : Kind) (b : Bool) → is_kind k Uih && b ≡ true → b ≡ true
dlci_of Sabm b e = cc
dlci_of Ua b e = cc
dlci_of Dm b e = cc
dlci_of Disc b e = cc
dlci_of Uih b e = e

-- information on a connection is a UIH frame
pub is_info_kind : (d : ℕ) (f : Frame) → is_on Uih d f ≡ true → f.kind ≡ Uih
is_info_kind d f on = kind_of f.kind (f.dlci == d) on

-- and of that connection
pub is_info_dlci : (d : ℕ) (f : Frame) → is_on Uih d f ≡ true → f.dlci ≡ d
is_info_dlci d f on = eqb-true f.dlci d (dlci_of f.kind (f.dlci == d) on)

-- an idle lane is Idle
pub idle_is : (c : Carries) → is_idle c ≡ true → c ≡ Idle
idle_is Idle e = refl
idle_is (Lines kept) e = cc
idle_is (Ended by) e = cc
idle_is Data e = cc
idle_is (Prompts starts) e = cc
idle_is Marked e = cc
idle_is Sends e = cc
idle_is Owes e = cc
idle_is (Owns kept) e = cc
idle_is Answered e = cc

-- information that is no data of d changes nothing there
stays_carried : (here : Bool) (c : Carries) (info : List ℕ) → here && not (is_idle c) ≡ false → c ≡ carries_behind here false false c info
stays_carried true Idle info e = refl
stays_carried true (Lines kept) info e = cc
stays_carried true (Ended by) info e = cc
stays_carried true Data info e = cc
stays_carried true (Prompts starts) info e = cc
stays_carried true Marked info e = cc
stays_carried true Sends info e = cc
stays_carried true Owes info e = cc
stays_carried true (Owns kept) info e = cc
stays_carried true Answered info e = cc
stays_carried false c info e = refl

stays_came : (here : Bool) (c : Carries) (came info : List ℕ) → here && not (is_idle c) ≡ false → came ≡ (if here then came ++ data_of c info else came)
stays_came true Idle came info e = sym (append-nil came)
stays_came true (Lines kept) came info e = cc
stays_came true (Ended by) came info e = cc
stays_came true Data came info e = cc
stays_came true (Prompts starts) came info e = cc
stays_came true Marked came info e = cc
stays_came true Sends came info e = cc
stays_came true Owes came info e = cc
stays_came true (Owns kept) came info e = cc
stays_came true Answered came info e = cc
stays_came false c came info e = refl

none_drops : (b : Bool) → b && false ≡ false
none_drops true = refl
none_drops false = refl

info_drops_none : (role : Role) (d : ℕ) (past : List Pass) (f : Frame) → f.kind ≡ Uih → (f.dlci == 0) ≡ false → drops_here role d past f ≡ false
info_drops_none role d past f k z = ap (λ b. is_by_carrier (until_of d past) && b) (info_loses_none role d (wire past) f k z) ∙ none_drops (is_by_carrier (until_of d past))

-- information that is no data of d, and not on 0, comes: the pipe stays as it is, and fits
pub other_came : (role : Role) (n1 d : ℕ) (v : Pipe) (past : List Pass) (f : Frame) → f.kind ≡ Uih → (f.dlci == 0) ≡ false → is_data role d past f ≡ false → PipeFits role n1 d v past → PipeFits role n1 d v (Came f ∷ past)
unfolding LawfulPasses
other_came role n1 d v past f k z none h =
    let ends = info_ends_none role d (wire past) f k z in
    let drops = info_drops_none role d past f k z in
    let opens = info_opens_none role d (wire past) f k in
    record {
      role_is = h.role_is;
      dlci_is = h.dlci_is;
      not_control = h.not_control;
      lawful = (tt, h.lawful);
      watched = watched_info v.watch (wire past) f k z h.watched;
      carries_is = rw (ends, drops) (h.carries_is ∙ stays_carried (is_info role d past f) (carries role d past) f.info none);
      until_is = h.until_is;
      came_is = h.came_is ∙ stays_came (is_info role d past f) (carries role d past) (data_came role d past) f.info none;
      to_go_is = h.to_go_is;
      held_is = rw opens h.held_is;
      by_driver_is = rw opens h.by_driver_is;
    }

not_zero : (role : Role) (n1 d : ℕ) (v : Pipe) (past : List Pass) (f : Frame) → is_on Uih v.watch.dlci f ≡ true → PipeFits role n1 d v past → (f.dlci == 0) ≡ false
not_zero role n1 d v past f on h = ap (λ e. e == 0) (is_info_dlci v.watch.dlci f on ∙ h.dlci_is) ∙ h.not_control

no_data : (a b : Bool) → a ≡ false → a && b ≡ false
no_data true b e = cc
no_data false b e = refl

no_lane : (a : Bool) (c : Carries) → is_idle c ≡ true → a && not (is_idle c) ≡ false
no_lane true c e = rw e refl
no_lane false c e = refl

shut_data : (role : Role) (n1 d : ℕ) (v : Pipe) (past : List Pass) (f : Frame) → (is_on Uih v.watch.dlci f && v.watch.own.is_open) ≡ false → PipeFits role n1 d v past → is_data role d past f ≡ false
shut_data role n1 d v past f shut h = no_data (is_info role d past f) (not (is_idle (carries role d past))) (sym (info_here role n1 d v past f h) ∙ shut)

idle_data : (role : Role) (n1 d : ℕ) (v : Pipe) (past : List Pass) (f : Frame) → is_idle v.lane.carries ≡ true → PipeFits role n1 d v past → is_data role d past f ≡ false
idle_data role n1 d v past f idle h = no_lane (is_info role d past f) (carries role d past) (ap is_idle (sym h.carries_is) ∙ idle)

-- information comes while the connection is shut: the pipe stays as it is
pub leads_shut : (v : Pipe) (f : Frame) → is_on Uih v.watch.dlci f ≡ true → (is_on Uih v.watch.dlci f && v.watch.own.is_open) ≡ false → Leads v v (Came f)
unfolding Leads
leads_shut v f on shut role n1 d past h = other_came role n1 d v past f (is_info_kind v.watch.dlci f on) (not_zero role n1 d v past f on h) (shut_data role n1 d v past f shut h) h

-- or while it has no lane
pub leads_idle : (v : Pipe) (f : Frame) → is_on Uih v.watch.dlci f ≡ true → is_idle v.lane.carries ≡ true → Leads v v (Came f)
unfolding Leads
leads_idle v f on idle role n1 d past h = other_came role n1 d v past f (is_info_kind v.watch.dlci f on) (not_zero role n1 d v past f on h) (idle_data role n1 d v past f idle h) h

-- information comes while it is open: the lane takes it
pub leads_info : (v : Pipe) (l : DataLane) (f : Frame) (cut : LineCut) → is_on Uih v.watch.dlci f ≡ true → (is_on Uih v.watch.dlci f && v.watch.own.is_open) ≡ true → TakesInfo v.lane l f.info cut → Leads v (record v { lane = l }) (Came f)
unfolding Leads LawfulPasses
leads_info v l f cut on up t role n1 d past h =
    let here : is_info role d past f ≡ true = sym (info_here role n1 d v past f h) ∙ up in
    let k = is_info_kind v.watch.dlci f on in
    let z = not_zero role n1 d v past f on h in
    let opens = info_opens_none role d (wire past) f k in
    record {
      role_is = h.role_is;
      dlci_is = h.dlci_is;
      not_control = h.not_control;
      lawful = (tt, h.lawful);
      watched = watched_info v.watch (wire past) f k z h.watched;
      carries_is = rw here (t.stands ∙ ap (λ c. carries_after c f.info) h.carries_is);
      until_is = h.until_is;
      came_is = rw here (ap (λ o. data_read d past ++ o) t.waits ∙ (sym (append_assoc (data_read d past) v.lane.came (data_of v.lane.carries f.info)) ∙ (ap (λ o. o ++ data_of v.lane.carries f.info) h.came_is ∙ ap (λ c. data_came role d past ++ data_of c f.info) h.carries_is)));
      to_go_is = ap (λ o. left d past ++ o) t.stays ∙ h.to_go_is;
      held_is = rw opens h.held_is;
      by_driver_is = rw opens h.by_driver_is;
    }

-- ## A connection that carries no lane

-- it stays idle behind any frame that comes
pub idle_behind : (info_here ending dropping : Bool) (c : Carries) (info : List ℕ) → c ≡ Idle → carries_behind info_here ending dropping c info ≡ Idle
idle_behind true ending dropping c info e = rw e refl
idle_behind false true dropping c info e = refl
idle_behind false false true c info e = rw e refl
idle_behind false false false c info e = e

-- and behind one of the driver's that goes
pub idle_gone : (ending info_here : Bool) (c : Carries) (info : List ℕ) → c ≡ Idle → carries_gone ending info_here c info ≡ Idle
idle_gone true info_here c info e = refl
idle_gone false true c info e = rw e refl
idle_gone false false c info e = e

-- and behind one that goes and may end its opening
pub idle_sent : (ending : Bool) (c : Carries) → c ≡ Idle → (if ending then Idle else c) ≡ Idle
idle_sent true c e = refl
idle_sent false c e = e

-- ## What goes on to the driver

-- of information of a lane the lines go on
pub hands_lines : (v : Pipe) (f : Frame) (cut : LineCut) → (is_on Uih v.watch.dlci f && v.watch.own.is_open) ≡ true → is_idle v.lane.carries ≡ false → IsCut cut v.lane.carries f.info → HandsOn v f (Some cut)
unfolding HandsOn
hands_lines v f cut up lane t role n1 d past h =
    let here : is_info role d past f ≡ true = sym (info_here role n1 d v past f h) ∙ up in
    let some : is_idle (carries role d past) ≡ false = ap is_idle (sym h.carries_is) ∙ lane in
    (rw (here, some) refl, subst (λ (c : Carries). IsCut cut c f.info) h.carries_is t)

-- a frame goes on whole where it is no information on the pipe's open connection
pub hands_shut : (v : Pipe) (f : Frame) → (is_on Uih v.watch.dlci f && v.watch.own.is_open) ≡ false → HandsOn v f None
unfolding HandsOn
hands_shut v f shut role n1 d past h = shut_data role n1 d v past f shut h

-- or where there is no lane
pub hands_idle : (v : Pipe) (f : Frame) → is_idle v.lane.carries ≡ true → HandsOn v f None
unfolding HandsOn
hands_idle v f idle role n1 d past h = idle_data role n1 d v past f idle h

-- or where it is no information on that connection at all
pub hands_other : (v : Pipe) (f : Frame) → is_on Uih v.watch.dlci f ≡ false → HandsOn v f None
unfolding HandsOn
hands_other v f off role n1 d past h = shut_data role n1 d v past f (no_data (is_on Uih v.watch.dlci f) v.watch.own.is_open off) h
