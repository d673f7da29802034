-- A watch that has seen a past sees each act behind it.
use Rattle.std.specs.Prelude.{◌≡◌, ℕ, ◌==◌, ◌&&◌, ◌||◌, not, Bool, true, false, List, [], ◌∷◌, Option, None, refl, unwrap_or}
use Rattle.std.proofs.Common.{ap, sym, subst, ◌∙◌}
use Rattle.mux_station.specs.declared.role.Role.{Role}
use Rattle.mux_station.specs.declared.role.Role.TheVariants.{Initiator, Responder}
use Rattle.mux_station.specs.Acts.{Act, Got, Sent, Lost}
use Rattle.mux_station.specs.Messages.{Message}
use Rattle.mux_frame.specs.Frames.{Frame}
use Rattle.mux_frame.specs.declared.frame.Kind.{Kind}
use Rattle.mux_frame.specs.declared.frame.Kind.TheVariants.{Uih}
use Rattle.mux_station.specs.Written.{is_on}
use Rattle.mux_station.specs.Opening.{asks, is_mode_frame, since, since_after, opens, ends, opens_now, belongs, is_open, is_asked}
use Rattle.mux_station.specs.OpeningRule.{Standing, not_open, standing_after}
use Rattle.mux_station.proofs.states.OpeningSteps.{stands_after}
use Rattle.mux_station.specs.Stopping.{last_said, got_says, msc_says, flow_says}
use Rattle.modem_data.specs.Watching.{Watch, HasWatched, Watches, dv_says, has_carrier, loses_carrier, watched, watch_opens, watch_ends, watch_loses, ends_now, said_last, SaysMayLeave}

-- what the last of the acts says, one act further
said_after : (say : Act → Option Bool) (opening belonging : Bool) (a : Act) (rest : List Act) → last_said say (since_after opening belonging a rest) ≡ said_last opening belonging (say a) (last_said say rest)
said_after say true belonging a rest = refl
said_after say false true a rest = refl
said_after say false false a rest = refl

-- the same of what is said of the connection itself
own_last : (say : Message → Option Bool) (was : Bool) (w : Watch) (past : List Act) (a : Act) → HasWatched w past → was ≡ last_said (got_says say) (since w.role w.dlci past) → said_last (opens w.role w.zero.is_open w.own.is_asked w.dlci a) (w.own.is_open && not (ends w.zero.is_open w.dlci a)) (got_says say a) was ≡ last_said (got_says say) (since w.role w.dlci (a ∷ past))
own_last say was w past a h is =
    ap (λ s. said_last (opens w.role s.is_open w.own.is_asked w.dlci a) (w.own.is_open && not (ends s.is_open w.dlci a)) (got_says say a) was) h.zero_is
    ∙ (ap (λ s. said_last (opens w.role (is_open w.role 0 past) s.is_asked w.dlci a) (s.is_open && not (ends (is_open w.role 0 past) w.dlci a)) (got_says say a) was) h.own_is
    ∙ (ap (λ b. said_last (opens_now w.role w.dlci past a) (belongs w.role w.dlci past a) (got_says say a) b) is
    ∙ sym (said_after (got_says say) (opens_now w.role w.dlci past a) (belongs w.role w.dlci past a) a (since w.role w.dlci past))))

all_stopped : (w : Watch) (past : List Act) (a : Act) → HasWatched w past → (watched w a).all_stop ≡ last_said (got_says flow_says) (since w.role 0 (a ∷ past))
all_stopped w past a h =
    ap (λ s. said_last (opens w.role s.is_open w.zero.is_asked 0 a) (w.zero.is_open && not (ends s.is_open 0 a)) (got_says flow_says a) w.all_stop) h.zero_is
    ∙ (ap (λ s. said_last (opens w.role (is_open w.role 0 past) s.is_asked 0 a) (s.is_open && not (ends (is_open w.role 0 past) 0 a)) (got_says flow_says a) w.all_stop) h.zero_is
    ∙ (ap (λ b. said_last (opens_now w.role 0 past a) (belongs w.role 0 past a) (got_says flow_says a) b) h.all_stop_is
    ∙ sym (said_after (got_says flow_says) (opens_now w.role 0 past a) (belongs w.role 0 past a) a (since w.role 0 past))))

-- what a watch keeps behind an act is what the past with the act says
pub goes : (w : Watch) (past : List Act) (a : Act) → HasWatched w past → HasWatched (watched w a) (a ∷ past)
goes w past a h = record {
  zero_is = ap (λ s. standing_after w.role s.is_open 0 s a) h.zero_is ∙ sym (stands_after w.role 0 past a);
  own_is =
      ap (λ s. standing_after w.role s.is_open w.dlci w.own a) h.zero_is
      ∙ (ap (λ s. standing_after w.role (is_open w.role 0 past) w.dlci s a) h.own_is ∙ sym (stands_after w.role w.dlci past a));
  own_stop_is = own_last (msc_says w.dlci) w.own_stop w past a h h.own_stop_is;
  all_stop_is = all_stopped w past a h;
  carrier_is = own_last (dv_says w.dlci) w.carrier w past a h h.carrier_is;
}

-- so a watch set to that sees the act
pub watches : (w v : Watch) (a : Act) → v ≡ watched w a → Watches w v a
unfolding Watches
watches w v a e past h = rw e (goes w past a h)

may_at : (x o s z t : Bool) → (x && (o && (not s && not (z && t)))) ≡ (x && (o && not (x && ((o && s) || (z && t)))))
may_at true true true z t = refl
may_at true true false z t = refl
may_at true false s z t = refl
may_at false o s z t = refl

-- a watch says whether data may leave its connection
pub says_may_leave : (w : Watch) (b : Bool) → b ≡ (not (w.dlci == 0) && (w.own.is_open && (not w.own_stop && not (w.zero.is_open && w.all_stop)))) → SaysMayLeave w b
unfolding SaysMayLeave
says_may_leave w b e past h =
    e ∙ (may_at (not (w.dlci == 0)) w.own.is_open w.own_stop w.zero.is_open w.all_stop
    ∙ (ap (λ s. not (w.dlci == 0) && (w.own.is_open && not (not (w.dlci == 0) && ((w.own.is_open && w.own_stop) || (s.is_open && w.all_stop))))) h.zero_is
    ∙ (ap (λ s. not (w.dlci == 0) && (s.is_open && not (not (w.dlci == 0) && ((s.is_open && w.own_stop) || (is_open w.role 0 past && w.all_stop))))) h.own_is
    ∙ (ap (λ c. not (w.dlci == 0) && (is_open w.role w.dlci past && not (not (w.dlci == 0) && ((is_open w.role w.dlci past && c) || (is_open w.role 0 past && w.all_stop))))) h.own_stop_is
    ∙ ap (λ c. not (w.dlci == 0) && (is_open w.role w.dlci past && not (not (w.dlci == 0) && ((is_open w.role w.dlci past && last_said (got_says (msc_says w.dlci)) (since w.role w.dlci past)) || (is_open w.role 0 past && c))))) h.all_stop_is))))

-- it says whether a frame is information on its open connection
pub info_said : (w : Watch) (past : List Act) (f : Frame) → HasWatched w past → (is_on Uih w.dlci f && w.own.is_open) ≡ (is_on Uih w.dlci f && is_open w.role w.dlci past)
info_said w past f h = ap (λ (s : Standing). is_on Uih w.dlci f && s.is_open) h.own_is

-- whether that is open
pub open_said : (w : Watch) (past : List Act) → HasWatched w past → w.own.is_open ≡ is_open w.role w.dlci past
open_said w past h = ap (λ (s : Standing). s.is_open) h.own_is

-- whether an act opens it
pub opens_said : (w : Watch) (past : List Act) (a : Act) → HasWatched w past → watch_opens w a ≡ opens_now w.role w.dlci past a
opens_said w past a h =
    ap (λ s. opens w.role s.is_open w.own.is_asked w.dlci a) h.zero_is
    ∙ ap (λ s. opens w.role (is_open w.role 0 past) s.is_asked w.dlci a) h.own_is

-- whether an act ends its opening
pub ends_said : (w : Watch) (past : List Act) (a : Act) → HasWatched w past → watch_ends w a ≡ ends_now w.role w.dlci past a
ends_said w past a h =
    ap (λ o. w.own.is_open && (o || not (w.own.is_open && not (ends w.zero.is_open w.dlci a)))) (opens_said w past a h)
    ∙ (ap (λ (s : Standing). w.own.is_open && (opens_now w.role w.dlci past a || not (w.own.is_open && not (ends s.is_open w.dlci a)))) h.zero_is
    ∙ ap (λ (s : Standing). s.is_open && (opens_now w.role w.dlci past a || not (s.is_open && not (ends (is_open w.role 0 past) w.dlci a)))) h.own_is)

-- and whether an act takes its carrier
pub loses_said : (w : Watch) (past : List Act) (a : Act) → HasWatched w past → watch_loses w a ≡ loses_carrier w.role w.dlci past a
loses_said w past a h =
    ap (λ (s : Standing). (s.is_open && w.carrier) && not (unwrap_or (got_says (dv_says w.dlci) a) true)) h.own_is
    ∙ ap (λ b. (is_open w.role w.dlci past && b) && not (unwrap_or (got_says (dv_says w.dlci) a) true)) h.carrier_is

-- ## Data changes nothing

no_command : (z : Bool) → (z && false) ≡ false
no_command true = refl
no_command false = refl

stays_on : (b : Bool) → (b && true) ≡ b
stays_on true = refl
stays_on false = refl

none_stops : (b was : Bool) → said_last false b None was ≡ was
none_stops true was = refl
none_stops false was = refl

same_standing : (s : Standing) → record { is_open = s.is_open && true; is_asked = s.is_asked && true } ≡ s
same_standing s = rw (stays_on s.is_open, stays_on s.is_asked) refl

-- a frame that goes opens none, nor does information that comes
pub sent_opens_none : (r : Role) (z asked : Bool) (d : ℕ) (f : Frame) → opens r z asked d (Sent f) ≡ false
sent_opens_none Initiator z asked d f = refl
sent_opens_none Responder z asked d f = refl

-- nor does a loss of the line
pub lost_opens_none : (r : Role) (z asked : Bool) (d : ℕ) → opens r z asked d Lost ≡ false
lost_opens_none Initiator z asked d = refl
lost_opens_none Responder z asked d = refl

-- how a connection stands behind a frame that goes
pub stands_as_sent : (role : Role) (zero : Bool) (d : ℕ) (s x : Standing) (f : Frame) → x ≡ record { is_open = s.is_open && not (ends zero d (Sent f)); is_asked = asks d (Sent f) || (s.is_asked && not (is_mode_frame d (Sent f) || ends zero d (Sent f))) } → x ≡ standing_after role zero d s (Sent f)
stands_as_sent role zero d s x f e = e ∙ ap (λ b. record { is_open = b || (s.is_open && not (ends zero d (Sent f))); is_asked = asks d (Sent f) || (s.is_asked && not (is_mode_frame d (Sent f) || ends zero d (Sent f))) }) (sym (sent_opens_none role zero s.is_asked d f))

-- what a watch keeps behind it, and behind a loss
abbrev sent_watch : Watch → Frame → Watch
sent_watch w f = record {
  role = w.role;
  dlci = w.dlci;
  zero = standing_after w.role w.zero.is_open 0 w.zero (Sent f);
  own = standing_after w.role w.zero.is_open w.dlci w.own (Sent f);
  own_stop = said_last false (w.own.is_open && not (ends w.zero.is_open w.dlci (Sent f))) None w.own_stop;
  all_stop = said_last false (w.zero.is_open && not (ends w.zero.is_open 0 (Sent f))) None w.all_stop;
  carrier = said_last false (w.own.is_open && not (ends w.zero.is_open w.dlci (Sent f))) None w.carrier;
}

-- that is what the watch keeps behind a frame that goes
pub after_sent : (w v : Watch) (f : Frame) → v ≡ sent_watch w f → v ≡ watched w (Sent f)
after_sent w v f e = e ∙ rw (sent_opens_none w.role w.zero.is_open w.own.is_asked w.dlci f, sent_opens_none w.role w.zero.is_open w.zero.is_asked 0 f) refl

-- so it sees the frame
pub watches_sent : (w v : Watch) (f : Frame) → v ≡ sent_watch w f → Watches w v (Sent f)
watches_sent w v f e = watches w v (Sent f) (after_sent w v f e)

-- behind a loss both 0 and the connection are shut
pub after_lost : (w v : Watch) → v ≡ record w { zero = not_open; own = not_open } → v ≡ watched w Lost
after_lost w v e = e ∙ rw (lost_opens_none w.role w.zero.is_open w.own.is_asked w.dlci, lost_opens_none w.role w.zero.is_open w.zero.is_asked 0)
    (rw (no_command w.own.is_open, no_command w.own.is_asked, no_command w.zero.is_open, no_command w.zero.is_asked) refl)

-- so the watch sees the loss
pub watches_lost : (w v : Watch) → v ≡ record w { zero = not_open; own = not_open } → Watches w v Lost
watches_lost w v e = watches w v Lost (after_lost w v e)

uih_opens_none : (r : Role) (z asked : Bool) (d e : ℕ) (cr pf : Bool) (info : List ℕ) → opens r z asked d (Got (record { dlci = e; kind = Uih; cr = cr; pf = pf; info = info })) ≡ false
uih_opens_none Initiator z asked d e cr pf info = refl
uih_opens_none Responder z asked d e cr pf info = refl

opens_of_kind : (r : Role) (z asked : Bool) (d : ℕ) (f : Frame) → f.kind ≡ Uih → opens r z asked d (Got f) ≡ false
opens_of_kind r z asked d f k = subst (λ (k : Kind). opens r z asked d (Got (record f { kind = k })) ≡ false) (sym k) (uih_opens_none r z asked d f.dlci f.cr f.pf f.info)

-- information on a connection other than 0 ends none
ends_none : (z : Bool) (d e : ℕ) (cr pf : Bool) (info : List ℕ) → (e == 0) ≡ false → ends z d (Got (record { dlci = e; kind = Uih; cr = cr; pf = pf; info = info })) ≡ false
ends_none z d e cr pf info n = rw n (rw (no_command z) (no_command (not (d == 0))))

same_watched : (w : Watch) (e : ℕ) (cr pf : Bool) (info : List ℕ) → (e == 0) ≡ false → watched w (Got (record { dlci = e; kind = Uih; cr = cr; pf = pf; info = info })) ≡ w
same_watched w e cr pf info n =
    rw (uih_opens_none w.role w.zero.is_open w.zero.is_asked 0 e cr pf info, uih_opens_none w.role w.zero.is_open w.own.is_asked w.dlci e cr pf info, ends_none w.zero.is_open 0 e cr pf info n, ends_none w.zero.is_open w.dlci e cr pf info n, n)
    (rw (same_standing w.zero, same_standing w.own, none_stops (w.own.is_open && true) w.own_stop, none_stops (w.zero.is_open && true) w.all_stop, none_stops (w.own.is_open && true) w.carrier) refl)

of_kind : (w : Watch) (f : Frame) → f.kind ≡ Uih → (f.dlci == 0) ≡ false → watched w (Got f) ≡ w
of_kind w f k n = subst (λ (k : Kind). watched w (Got (record f { kind = k })) ≡ w) (sym k) (same_watched w f.dlci f.cr f.pf f.info n)

-- information that comes on a connection other than 0 leaves a watch as it is
pub watched_info : (w : Watch) (past : List Act) (f : Frame) → f.kind ≡ Uih → (f.dlci == 0) ≡ false → HasWatched w past → HasWatched w (Got f ∷ past)
watched_info w past f k n h = subst (λ (v : Watch). HasWatched v (Got f ∷ past)) (of_kind w f k n) (goes w past (Got f) h)

-- nor where it goes
sent_ends_none : (z : Bool) (d e : ℕ) (cr pf : Bool) (info : List ℕ) → (e == 0) ≡ false → ends z d (Sent (record { dlci = e; kind = Uih; cr = cr; pf = pf; info = info })) ≡ false
sent_ends_none z d e cr pf info n = rw n (no_command (not (d == 0)))

same_sent : (w : Watch) (e : ℕ) (cr pf : Bool) (info : List ℕ) → (e == 0) ≡ false → watched w (Sent (record { dlci = e; kind = Uih; cr = cr; pf = pf; info = info })) ≡ w
same_sent w e cr pf info n =
    let f : Frame = record { dlci = e; kind = Uih; cr = cr; pf = pf; info = info } in
    rw (sent_opens_none w.role w.zero.is_open w.zero.is_asked 0 f, sent_opens_none w.role w.zero.is_open w.own.is_asked w.dlci f, sent_ends_none w.zero.is_open 0 e cr pf info n, sent_ends_none w.zero.is_open w.dlci e cr pf info n)
    (rw (same_standing w.zero, same_standing w.own, none_stops (w.own.is_open && true) w.own_stop, none_stops (w.zero.is_open && true) w.all_stop, none_stops (w.own.is_open && true) w.carrier) refl)

sent_of_kind : (w : Watch) (f : Frame) → f.kind ≡ Uih → (f.dlci == 0) ≡ false → watched w (Sent f) ≡ w
sent_of_kind w f k n = subst (λ (k : Kind). watched w (Sent (record f { kind = k })) ≡ w) (sym k) (same_sent w f.dlci f.cr f.pf f.info n)

-- so does information that goes there
pub watched_sent_info : (w : Watch) (past : List Act) (f : Frame) → f.kind ≡ Uih → (f.dlci == 0) ≡ false → HasWatched w past → HasWatched w (Sent f ∷ past)
watched_sent_info w past f k n h = subst (λ (v : Watch). HasWatched v (Sent f ∷ past)) (sent_of_kind w f k n) (goes w past (Sent f) h)

-- information on a connection other than 0 opens and ends no connection
pub info_opens_none : (role : Role) (d : ℕ) (past : List Act) (f : Frame) → f.kind ≡ Uih → opens_now role d past (Got f) ≡ false
info_opens_none role d past f k = opens_of_kind role (is_open role 0 past) (is_asked role d past) d f k

none_end : (o : Bool) → o && (false || not (o && not false)) ≡ false
none_end true = refl
none_end false = refl

ends_of_kind : (z : Bool) (d : ℕ) (f : Frame) → f.kind ≡ Uih → (f.dlci == 0) ≡ false → ends z d (Got f) ≡ false
ends_of_kind z d f k n = subst (λ (k : Kind). ends z d (Got (record f { kind = k })) ≡ false) (sym k) (ends_none z d f.dlci f.cr f.pf f.info n)

-- on a connection other than 0 it ends no opening
pub info_ends_none : (role : Role) (d : ℕ) (past : List Act) (f : Frame) → f.kind ≡ Uih → (f.dlci == 0) ≡ false → ends_now role d past (Got f) ≡ false
info_ends_none role d past f k n =
    ap (λ b. is_open role d past && (b || not (is_open role d past && not (ends (is_open role 0 past) d (Got f))))) (info_opens_none role d past f k)
    ∙ (ap (λ b. is_open role d past && (false || not (is_open role d past && not b))) (ends_of_kind (is_open role 0 past) d f k n)
    ∙ none_end (is_open role d past))

-- and takes no carrier
loses_none : (b : Bool) (d e : ℕ) (cr pf : Bool) (info : List ℕ) → (e == 0) ≡ false → b && not (unwrap_or (got_says (dv_says d) (Got (record { dlci = e; kind = Uih; cr = cr; pf = pf; info = info }))) true) ≡ false
loses_none b d e cr pf info n = rw n (no_command b)

-- so information there takes no carrier
pub info_loses_none : (role : Role) (d : ℕ) (past : List Act) (f : Frame) → f.kind ≡ Uih → (f.dlci == 0) ≡ false → loses_carrier role d past (Got f) ≡ false
info_loses_none role d past f k n = subst (λ (k : Kind). has_carrier role d past && not (unwrap_or (got_says (dv_says d) (Got (record f { kind = k }))) true) ≡ false) (sym k) (loses_none (has_carrier role d past) d f.dlci f.cr f.pf f.info n)
