-- No SABM is sent on a connection that is open, so no UA opens it anew.
use Rattle.std.specs.Prelude.{◌≡◌, ℕ, zero, suc, ◌+◌, ◌==◌, ◌&&◌, ◌||◌, not, nat_le, Bool, true, false, List, [], ◌∷◌, ◌++◌, length, map, refl, if◌then◌else◌, Option, Some, None, is_none}
use Rattle.std.specs.List.{list_all}
use Rattle.std.proofs.Common.{ap, ◌∙◌, eqb-true, sym}
use Rattle.std.proofs.lemmas.Bool.{and_parts, and_from}
use Rattle.std.proofs.lemmas.List.Folds.{list_all-append}
use Rattle.mux_frame.specs.Frames.{Frame}
use Rattle.mux_frame.specs.declared.frame.Kind.{Kind}
use Rattle.mux_frame.specs.declared.frame.Kind.TheVariants.{Sabm, Ua, Dm, Disc, Uih}
use Rattle.mux_station.specs.declared.role.Role.{Role}
use Rattle.mux_station.specs.declared.role.Role.TheVariants.{Initiator, Responder}
use Rattle.mux_station.specs.Written.{is_on, written}
use Rattle.mux_station.specs.Messages.{Message, is_command, nsc, cld, brings_command, message_in, response_of}
use Rattle.mux_station.specs.Acts as station
use Rattle.mux_station.specs.Opening.{ends, opens_now, is_asked, is_open, is_mode_frame_on}
use Rattle.mux_station.proofs.states.OpeningSteps.{is_open_after}
use Rattle.mux_station.specs.States.{State, IsShut, IsOpening, IsOpened, IsClosing, IsStopping, is_opened}
use Rattle.mux_station.specs.Tables.{by_message, by_table, response_to, is_supported, ua_or_dm, msc_after_opening, is_opening, ticked, if_room, again, has_room, octets_of, msc_frame, message_frame, ready, held_up}
use Rattle.modem_desk.specs.declared.request.Ask.{Ask}
use Rattle.modem_desk.specs.declared.request.Ask.TheVariants.{OpenChannel, CloseChannel, Command, Probe, Stop}
use Rattle.modem_desk.specs.declared.request.Request.{Request}
use Rattle.modem_desk.specs.declared.request.Answer.{Answer}
use Rattle.modem_desk.specs.declared.request.Answer.TheVariants.{NotOpen, AlreadyOpen, LineLost, Busy}
use Rattle.modem_history.specs.Acts.{Act, Took, Got, Sent, Tick, Held, Freed, after, wire}
use Rattle.modem_history.specs.Calls.{Setting, HistoryView, frames, frames_by, asking, at_once, refused_ask}

-- it isn't a SABM on d
abbrev pub is_free : ℕ → Frame → Bool
is_free d f = not (is_on Sabm d f)

-- none of these is a SABM on d
abbrev pub Free : ℕ → List Frame → Type 0
Free d fs = list_all (is_free d) fs ≡ true

free_both : (d : ℕ) (fs gs : List Frame) → Free d fs → Free d gs → Free d (fs ++ gs)
free_both d fs gs h k = list_all-append (is_free d) fs gs ∙ and_from (list_all (is_free d) fs) (list_all (is_free d) gs) h k

free_if : (d : ℕ) (b : Bool) (fs gs : List Frame) → Free d fs → Free d gs → Free d (if b then fs else gs)
free_if d true fs gs h k = h
free_if d false fs gs h k = k

two : (d : ℕ) (f : Frame) (fs : List Frame) → is_free d f ≡ true → Free d fs → Free d (f ∷ fs)
two d f fs h k = and_from (is_free d f) (list_all (is_free d) fs) h k

-- ## Frames that answer a frame

answered : (r : Role) (d e : ℕ) (b : Bool) → is_free d (ua_or_dm r e b) ≡ true
answered r d e true = refl
answered r d e false = refl

opened : (r : Role) (d e : ℕ) → Free d (msc_after_opening r e)
opened r d e = free_if d (e == 0) [] (msc_frame r e 0x8d ∷ []) refl refl

tabled : (r : Role) (d e : ℕ) (channel own : State) (k : Kind) → Free d (by_table r e channel own k)
tabled Initiator d e channel own Ua = free_if d (is_opening own) (msc_after_opening Initiator e) [] (opened Initiator d e) refl
tabled Initiator d e channel own Sabm = refl
tabled Initiator d e channel own Dm = refl
tabled Initiator d e channel own Uih = refl
tabled Initiator d e channel own Disc = two d (ua_or_dm Initiator e (is_opened own)) [] (answered Initiator d e (is_opened own)) refl
tabled Responder d e channel own Ua = refl
tabled Responder d e channel own Dm = refl
tabled Responder d e channel own Uih = refl
tabled Responder d e channel own Disc = two d (ua_or_dm Responder e (is_opened own)) [] (answered Responder d e (is_opened own)) refl
tabled Responder d e channel own Sabm =
    free_if d ((e == 0) || is_opened channel) (ua_or_dm Responder e true ∷ msc_after_opening Responder e) (ua_or_dm Responder e false ∷ [])
    (two d (ua_or_dm Responder e true) (msc_after_opening Responder e) refl (opened Responder d e)) refl

responded : (r : Role) (d : ℕ) (m : Option Message) → Free d (response_to r m)
responded r d None = refl
responded r d (Some m) =
    free_if d (is_supported m.octet) _ (if is_command m && not (m.octet == nsc) then message_frame r (response_of nsc) (m.octet ∷ []) ∷ [] else []) refl
    (free_if d (is_command m && not (m.octet == nsc)) (message_frame r (response_of nsc) (m.octet ∷ []) ∷ []) [] refl refl)

messaged : (r : Role) (d : ℕ) (s : State) (f : Frame) → Free d (by_message r s f)
messaged r d IsOpened f = responded r d (message_in f)
messaged r d (IsStopping n) f = free_if d (brings_command cld f) (response_to r (message_in f)) [] (responded r d (message_in f)) refl
messaged r d IsShut f = refl
messaged r d (IsOpening n) f = refl
messaged r d (IsClosing n) f = refl

alive : (s : Setting) (v : HistoryView) (a : Act) (d : ℕ) → Free d (frames_by s v a) → Free d (frames s v a)
alive s v a d h = free_if d v.lost [] (frames_by s v a) refl h

-- a frame that comes calls for no SABM
pub got_free : (s : Setting) (v : HistoryView) (f : Frame) (d : ℕ) → Free d (frames s v (Got f))
got_free s v f d =
    alive s v (Got f) d
    (free_if d (is_on Uih 0 f) (by_message s.role (v.state 0) f) (by_table s.role f.dlci (v.state 0) (v.state f.dlci) f.kind)
    (messaged s.role d (v.state 0) f) (tabled s.role d f.dlci (v.state 0) (v.state f.dlci) f.kind))

-- ## Frames of a tick

again_free : (r : Role) (n1 queued d e : ℕ) (own : State) → ((e == d) ≡ true → is_opened own ≡ true) → Free d (if_room n1 queued (again r e own))
again_free r n1 queued d e IsShut h = refl
again_free r n1 queued d e IsOpened h = refl
again_free r n1 queued d e (IsStopping n) h = refl
again_free r n1 queued d e (IsOpening n) h = by_same (e == d) (n == 3) refl
  where
    if_one : (b : Bool) (f : Frame) → is_free d f ≡ true → Free d (if b then f ∷ [] else [])
    if_one true f k = two d f [] k refl
    if_one false f k = refl

    sabm : (b : Bool) → (e == d) ≡ b → b ≡ false → is_free d (written r Sabm e []) ≡ true
    sabm false k g = ap not k
    sabm true k g = cc

    by_same : (b c : Bool) → (e == d) ≡ b → Free d (if has_room n1 queued (written r (if c then Disc else Sabm) e []) then written r (if c then Disc else Sabm) e [] ∷ [] else [])
    by_same b true k = if_one (has_room n1 queued (written r Disc e [])) (written r Disc e []) refl
    by_same false false k = if_one (has_room n1 queued (written r Sabm e [])) (written r Sabm e []) (sabm false k refl)
    by_same true false k = absurd (let g : false ≡ true = h k in cc)
again_free r n1 queued d e (IsClosing n) h = closing (n == 3)
  where
    closing : (b : Bool) → Free d (if_room n1 queued (if b then None else Some (written r Disc e [])))
    closing true = refl
    closing false = free_if d (has_room n1 queued (written r Disc e [])) (written r Disc e [] ∷ []) [] refl refl

ticked_free : (r : Role) (n1 : ℕ) (state : ℕ → State) (queued d e count : ℕ) → is_opened (state d) ≡ true → Free d (ticked r n1 state queued e count)
ticked_free r n1 state queued d e zero h = refl
ticked_free r n1 state queued d e (suc count) h =
    let here = if_room n1 queued (again r e (state e)) in
    free_both d here (ticked r n1 state (queued + octets_of here) (e + 1) count)
    (again_free r n1 queued d e (state e) (λ g. ap (λ (n : ℕ). is_opened (state n)) (eqb-true e d g) ∙ h)) (ticked_free r n1 state (queued + octets_of here) d (e + 1) count h)

-- ## Frames of a request

some_answer : (a b c d e : Bool) (rest : Option Answer) → d ≡ true
    → is_none (if a then Some LineLost else (if b then Some Busy else (if c then Some NotOpen else (if d then Some AlreadyOpen else (if e then Some Busy else rest))))) ≡ false
some_answer true b c d e rest h = refl
some_answer false true c d e rest h = refl
some_answer false false true d e rest h = refl
some_answer false false false true e rest h = refl
some_answer false false false false e rest h = cc

none_asked : (d : ℕ) (b : Bool) (fs : List Frame) → b ≡ false → Free d (if b then fs else [])
none_asked d false fs h = refl
none_asked d true fs h = cc

took_free_by : (s : Setting) (v : HistoryView) (q : Request) (d : ℕ) → is_opened (v.state d) ≡ true → (ask : Ask) → q.ask ≡ ask → Free d (if is_none (at_once s v q) then asking s.role ask else [])
took_free_by s v q d h (OpenChannel e) k = by_same (e.number == d) refl
  where
    refused : (e.number == d) ≡ true → is_none (at_once s v q) ≡ false
    refused g =
        let here : is_opened (v.state e.number) ≡ true = ap (λ (n : ℕ). is_opened (v.state n)) (eqb-true e.number d g) ∙ h in
        ap (λ (x : Ask). is_none (if v.lost then Some LineLost else (if nat_le 128 (length v.hand) then Some Busy else refused_ask s v x))) k
        ∙ some_answer v.lost (nat_le 128 (length v.hand)) (not (e.number == 0) && not (is_opened (v.state 0))) (is_opened (v.state e.number)) _ None here

    by_same : (b : Bool) → (e.number == d) ≡ b → Free d (if is_none (at_once s v q) then asking s.role (OpenChannel e) else [])
    by_same true g = none_asked d (is_none (at_once s v q)) (asking s.role (OpenChannel e)) (refused g)
    by_same false g = free_if d (is_none (at_once s v q)) (asking s.role (OpenChannel e)) [] (two d (written s.role Sabm e.number []) [] (ap not g) refl) refl
took_free_by s v q d h (CloseChannel e) k = free_if d (is_none (at_once s v q)) (asking s.role (CloseChannel e)) [] refl refl
took_free_by s v q d h (Command e line) k = free_if d (is_none (at_once s v q)) [] [] refl refl
took_free_by s v q d h (Probe octets) k = free_if d (is_none (at_once s v q)) (asking s.role (Probe octets)) [] refl refl
took_free_by s v q d h Stop k = free_if d (is_none (at_once s v q)) (asking s.role Stop) [] refl refl

-- ## Any call on a connection that is open

-- a request calls for no SABM on d while d is Opened
pub took_free : (s : Setting) (v : HistoryView) (q : Request) (d : ℕ) → is_opened (v.state d) ≡ true → Free d (frames s v (Took q))
took_free s v q d h = alive s v (Took q) d (took_free_by s v q d h q.ask refl)

-- nor does a tick
pub tick_free : (s : Setting) (v : HistoryView) (d : ℕ) → is_opened (v.state d) ≡ true → Free d (frames s v Tick)
tick_free s v d h = alive s v Tick d (ticked_free s.role s.n1 v.state v.queued d 0 62 h)

-- a hold calls for no SABM, whatever it holds
pub held_free : (s : Setting) (v : HistoryView) (d e : ℕ) → Free d (frames s v (Held e))
held_free s v d e = alive s v (Held e) d (free_if d (is_opened (v.state e)) (msc_frame s.role e held_up ∷ []) [] refl refl)

-- nor does its end
pub freed_free : (s : Setting) (v : HistoryView) (d e : ℕ) → Free d (frames s v (Freed e))
freed_free s v d e = alive s v (Freed e) d (free_if d (is_opened (v.state e)) (msc_frame s.role e ready ∷ []) [] refl refl)

-- ## Asked or not

not_asked : (b x c : Bool) → not b ≡ true → x ≡ false → (b || (x && c)) ≡ false
not_asked false false c h k = refl
not_asked false true c h k = cc
not_asked true x c h k = cc

-- where d isn't asked for, frames sent without a SABM on it don't ask for it
pub sent_unasked : (r : Role) (d : ℕ) (fs : List Frame) (past : List Act) → Free d fs → is_asked r d (wire past) ≡ false → is_asked r d (wire (after past (map Sent fs))) ≡ false
sent_unasked r d [] past h k = k
sent_unasked r d (f ∷ fs) past h k =
    let hs = and_parts (is_free d f) (list_all (is_free d) fs) h in
    sent_unasked r d fs (Sent f ∷ past) hs.1 (not_asked (is_on Sabm d f) (is_asked r d (wire past)) _ hs.0 k)

-- a frame that comes
mode_frame_answers : (x b c : Bool) → b ≡ true → (x && not (b || c)) ≡ false
mode_frame_answers true true c h = refl
mode_frame_answers false true c h = refl
mode_frame_answers x false c h = cc

ua_is_mode_frame : (d : ℕ) (f : Frame) (b : Bool) → is_on Ua d f ≡ b → b ≡ true → is_mode_frame_on d f ≡ true
ua_is_mode_frame d f true h k = or_ua (is_on Sabm d f) (is_on Ua d f) _ h
  where
    or_ua : (x y z : Bool) → y ≡ true → (x || (y || z)) ≡ true
    or_ua true y z g = refl
    or_ua false true z g = refl
    or_ua false false z g = cc
ua_is_mode_frame d f false h k = cc

by_opening : (d : ℕ) (f : Frame) (asked is e g : Bool) → ((is_on Ua d f && asked) || (is && e)) ≡ true → (is ≡ true → asked ≡ false) → (asked && not (is_mode_frame_on d f || g)) ≡ false
by_opening d f false is e g h k = refl
by_opening d f true true e g h k = absurd (let x : true ≡ false = k refl in cc)
by_opening d f true false e g h k = mode_frame_answers true (is_mode_frame_on d f) g (ua_is_mode_frame d f (is_on Ua d f) refl (is_ua (is_on Ua d f) h))
  where
    is_ua : (b : Bool) → ((b && true) || (false && e)) ≡ true → b ≡ true
    is_ua true x = refl
    is_ua false x = cc

-- at an initiator where an open d isn't asked for, neither is a d that is open after a frame that comes
pub got_unasked : (d : ℕ) (f : Frame) (w : List station.Act) → (is_open Initiator d w ≡ true → is_asked Initiator d w ≡ false) → is_open Initiator d (station.Got f ∷ w) ≡ true
    → is_asked Initiator d (station.Got f ∷ w) ≡ false
got_unasked d f w h k =
    by_opening d f (is_asked Initiator d w) (is_open Initiator d w) (not (ends (is_open Initiator 0 w) d (station.Got f))) (ends (is_open Initiator 0 w) d (station.Got f)) (sym (is_open_after Initiator d w (station.Got f)) ∙ k) h

-- where d isn't asked for, a tick doesn't ask for it
pub tick_unasked : (r : Role) (d : ℕ) (w : List station.Act) → is_asked r d w ≡ false → is_asked r d (station.Tick ∷ w) ≡ false
tick_unasked r d w h = not_asked false (is_asked r d w) _ refl h

-- nothing that is open is opened anew
pub opens_shut : (d : ℕ) (f : Frame) (w : List station.Act) → (is_open Initiator d w ≡ true → is_asked Initiator d w ≡ false) → opens_now Initiator d w (station.Got f) ≡ true → is_open Initiator d w ≡ false
opens_shut d f w h k = by_cases (is_open Initiator d w) (is_asked Initiator d w) (is_on Ua d f) h k
  where
    by_cases : (is asked ua : Bool) → (is ≡ true → asked ≡ false) → (ua && asked) ≡ true → is ≡ false
    by_cases false asked ua x y = refl
    by_cases true true ua x y = absurd (let z : true ≡ false = x refl in cc)
    by_cases true false true x y = cc
    by_cases true false false x y = cc
