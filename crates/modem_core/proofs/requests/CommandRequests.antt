-- A command is to be sent.
use Rattle.std.specs.Prelude.{◌≡◌, ℕ, ◌+◌, ◌<◌, ◌≤◌, ◌==◌, ◌&&◌, ◌||◌, not, nat_le, nat_lt, Bool, true, false, List, [], ◌∷◌, ◌++◌, length, map, take, refl, Some, None, if◌then◌else◌, Result, Ok, Err, OnOk, OnErr}
use Rattle.std.specs.List.{list_all, list_any, concat}
use Rattle.std.specs.Result.{result_err}
use Rattle.std.proofs.Common.{ap, sym, ◌∙◌, subst, arith, append-nil, append_assoc, length-append, eqb-true}
use Rattle.std.proofs.lemmas.Bool.{eq-eqb}
use Rattle.std.proofs.lemmas.Bool.Decides.{nat_tests}
use Rattle.std.proofs.lemmas.List.{take_all, take-append-le}
use Rattle.mux_frame.specs.Frames.{Frame}
use Rattle.mux_frame.specs.declared.dlci.Dlci.{Dlci}
use Rattle.mux_station.specs.declared.role.Role.{Role}
use Rattle.mux_station.specs.declared.role.Role.TheVariants.{Initiator}
use Rattle.mux_station.specs.declared.role.ChannelState.{ChannelState}
use Rattle.mux_station.specs.declared.error.StationError.{StationError}
use Rattle.mux_station.specs.declared.error.StationError.TheVariants as why
use Rattle.mux_station.specs.Acts as station
use Rattle.mux_station.specs.Acts.{Called, Offer}
use Rattle.mux_station.specs.Opening.{is_open}
use Rattle.mux_station.specs.States.{State, is_opened, state_of}
use Rattle.mux_station.specs.Stages.{as_shown}
use Rattle.mux_station.specs.Offering.{offered}
use Rattle.mux_station.specs.Sending as sending
use Rattle.mux_station.specs.Sending.{refused, or_else, sent_after, probe_of}
use Rattle.mux_station.specs.Stations.{Station, channel_at, setting_of, seen_in, offer_refused}
use Rattle.mux_station.specs.Fitting as station_fits
use Rattle.mux_station.specs.Traces.{without_calls}
use Rattle.mux_station.proofs.user_calls.CallFrames.{state_called, probe_called}
use Rattle.at_text.specs.Dialects.{Dialect}
use Rattle.at_text.specs.Windows.{answered}
use Rattle.at_text.specs.declared.error.TextError.TheVariants.{TooLong, BadOctet, NoAt}
use Rattle.at_text.specs.Commands.{refusal_of, has_at, is_printable}
use Rattle.modem_desk.specs.declared.request.Ask.{Ask}
use Rattle.modem_desk.specs.declared.request.Ask.TheVariants.{Command}
use Rattle.modem_desk.specs.declared.request.Request.{Request}
use Rattle.modem_desk.specs.declared.request.Answer.{Answer}
use Rattle.modem_desk.specs.declared.request.Answer.TheVariants.{NotOpen, ControlChannel}
use Rattle.modem_history.specs.declared.act.Act as code
use Rattle.modem_history.specs.Acts.{Act, Took, Sent, act_of, wire, in_hand}
use Rattle.modem_history.specs.Information.{accepted, command_on, texts, line_of}
use Rattle.modem_history.specs.Placing.{marks}
use Rattle.modem_history.specs.Calls.{Setting, seen, asking, at_once, refused_ask}
use Rattle.modem_history.specs.Requests.{commands_on}
use Rattle.modem_history.specs.Wholes.{commands_for, InStep}
use Rattle.modem_core.specs.Doing.{AsksAlone, MayTake}
use Rattle.modem_core.specs.Offers.{refused_command, TakesLine, Enters, OffersFirstCommand}
use Rattle.modem_core.specs.Cores.{dialect_in, Core, MayCome, Handles, may_wait, shows_opened as channel_opened, state_shown, probe_in}
use Rattle.modem_history.proofs.calls.CallEnds.{now_in, ended}
use Rattle.modem_core.proofs.cores.UnchangedParts.{open_plain, offered_called, is_probe, probe_more}
use Rattle.modem_core.proofs.requests.TakenRequests.{Live, AllWait, none_told, all_left, asked_frames, probe_kept}
use Rattle.modem_core.proofs.requests.AcceptedRequests.{Accepts, called_fits, once_is, state_then, refused_alone, accepted_handles, unaccepted_by}
use Rattle.modem_core.proofs.requests.CloseRequests.{and_not}
use Rattle.modem_core.proofs.requests.ProbeRequests.{all_same, opened_shown}
use Rattle.modem_core.proofs.commands.EmptyRings.{in_step_of, ring_empty}

-- ## What the code finds

not_long : (n : ℕ) → nat_lt 256 n ≡ false → n ≤ 256
not_long n h = grind (arith, nat_tests)

no_refusal : (a b c : Bool) → (if a then (if b then (if c then Some TooLong else None) else Some BadOctet) else Some NoAt) ≡ None → c ≡ false
no_refusal true true false h = refl
no_refusal true true true h = cc
no_refusal true false c h = cc
no_refusal false b c h = cc

-- a command line has 256 octets at most
pub short_line : (text : List ℕ) → refusal_of text ≡ None → length text ≤ 256
short_line text h = not_long (length text) (no_refusal (has_at text) (list_all is_printable text) (nat_lt 256 (length text)) h)

-- as the states are shown
pub shown_refused : (v : Station) (d : ℕ) → (d == 0) ≡ false → (c : ChannelState) → c ≡ as_shown (channel_at v d).state → refused_command v d ≡ (if channel_opened c then None else Some NotOpen)
shown_refused v d z c e =
    ap (λ (b : Bool). if b then Some ControlChannel else (if not (is_opened (channel_at v d).state) then Some NotOpen else None)) z
    ∙ (flipped (is_opened (channel_at v d).state) ∙ ap (λ (b : Bool). if b then None else Some NotOpen) (sym (ap channel_opened e ∙ opened_shown (channel_at v d).state)))
  where
    flipped : (b : Bool) → (if not b then Some NotOpen else None) ≡ (if b then None else Some NotOpen)
    flipped true = refl
    flipped false = refl

-- ## An offer

offer_on : {A : Type 0} (old mid : Station) (d : ℕ) (octets : List ℕ) (r : Result A StationError) → result_err r ≡ offer_refused old d octets → OnOk r (station_fits.StationHandles old mid (Called (Offer d octets)))
    → offer_refused old d octets ≡ None → station_fits.StationHandles old mid (Called (Offer d octets))
offer_on old mid d octets (Ok a) e h n = h
offer_on old mid d octets (Err x) e h n = absurd (let k : Some x ≡ None = e ∙ n in cc)

-- an offer leaves the setting as it is
pub offer_setting : {A : Type 0} (old new : Station) (c : station.Call) (r : Result A StationError) → OnOk r (station_fits.StationHandles old new (Called c)) → OnErr r (new ≡ old) → setting_of new ≡ setting_of old
offer_setting old new c (Ok a) h k = h.setting
offer_setting old new c (Err x) h k = ap setting_of k

-- the station that was offered the line has taken it, where it didn't refuse it
pub line_taken : {A : Type 0} (old new : Station) (d : ℕ) (line : List ℕ) (r : Result A StationError)
    → result_err r ≡ offer_refused old d line → OnOk r (station_fits.StationHandles old new (Called (Offer d line))) → TakesLine old new d line
line_taken old new d line r e h = record { taken = offer_on old new d line r e h }

offer_free_by : (b o r : Bool) → b ≡ false → o ≡ true → r ≡ true
    → or_else (or_else (if b then Some why.ControlChannel else if not o then Some why.NotOpen else None) None) (if r then None else Some why.NoRoom) ≡ None
offer_free_by false true true h k e = refl
offer_free_by true o r h k e = cc
offer_free_by false false r h k e = cc
offer_free_by false true false h k e = cc

fits_so : (n m : ℕ) → n + m ≤ 1024 → nat_le (n + m) 1024 ≡ true
fits_so n m h = grind (arith, nat_tests)

offer_free : (v : Station) (d : ℕ) (octets : List ℕ) → (d == 0) ≡ false → is_opened (channel_at v d).state ≡ true → length (channel_at v d).waiting + length octets ≤ 1024 → offer_refused v d octets ≡ None
offer_free v d octets z o h = offer_free_by (d == 0) (is_opened (channel_at v d).state) (nat_le (length (channel_at v d).waiting + length octets) 1024) z o (fits_so _ _ h)

offer_taken : (v : Station) (d : ℕ) (octets : List ℕ) → (d == 0) ≡ false → is_opened (channel_at v d).state ≡ true → refused (setting_of v) (seen_in v) (Offer d octets) ≡ None
offer_taken v d octets z o = by_tests (d == 0) (is_opened (channel_at v d).state) z o
  where
    by_tests : (b x : Bool) → b ≡ false → x ≡ true → or_else (if b then Some why.ControlChannel else if not x then Some why.NotOpen else None) None ≡ None
    by_tests false true h k = refl
    by_tests true x h k = cc
    by_tests false false h k = cc

-- ## Who is in hand

-- where no request is a command on d, there are no commands for d
pub any_none : (d : ℕ) (rs : List Request) → list_any (commands_on d) rs ≡ false → commands_for d rs ≡ []
any_none d [] h = refl
any_none d (r ∷ rs) h = by_test (command_on d r.ask) h (any_none d rs)
  where
    by_test : (b : Bool) → (b || list_any (commands_on d) rs) ≡ false → (list_any (commands_on d) rs ≡ false → commands_for d rs ≡ []) → (if b then r ∷ commands_for d rs else commands_for d rs) ≡ []
    by_test true k more = cc
    by_test false k more = more k

-- and where one is, there are some
pub any_some : (d : ℕ) (rs : List Request) → list_any (commands_on d) rs ≡ true → 0 < length (commands_for d rs)
any_some d [] h = cc
any_some d (r ∷ rs) h = by_test (command_on d r.ask) h (any_some d rs)
  where
    by_test : (b : Bool) → (b || list_any (commands_on d) rs) ≡ true → (list_any (commands_on d) rs ≡ true → 0 < length (commands_for d rs)) → 0 < length (if b then r ∷ commands_for d rs else commands_for d rs)
    by_test true k more = omega arith
    by_test false k more = more k

-- ## The command is accepted

accepted_by : {X : Type 0} → (io on room : Bool) (acc more : X) → io ≡ true → on ≡ true → room ≡ true → (if io && (on && room) then more else acc) ≡ more
accepted_by true true true acc more h k e = refl
accepted_by false on room acc more h k e = cc
accepted_by true false room acc more h k e = cc
accepted_by true true false acc more h k e = cc

few_so : (n : ℕ) → n < 128 → nat_lt n 128 ≡ true
few_so n h = grind (arith, nat_tests)

-- on its connection
accepted_here : (s : Setting) (v : Core) (past : List Act) (q : Request) (d : Dlci) → Live s v past → length v.hand < 128 → q.ask ≡ Command d (line_of q) → is_open Initiator d.number (wire past) ≡ true
    → accepted Initiator d.number (Took q ∷ past) ≡ accepted Initiator d.number past ++ q ∷ []
accepted_here s v past q d l few asks o =
    accepted_by (is_open Initiator d.number (wire past)) (command_on d.number q.ask) (nat_lt (length (in_hand past)) 128) (accepted Initiator d.number past) (accepted Initiator d.number past ++ q ∷ []) o
    (ap (command_on d.number) asks ∙ eq-eqb d.number d.number refl) (ap (λ (rs : List Request). nat_lt (length rs) 128) l.hand_is ∙ few_so (length v.hand) few)

-- and on no other
accepted_beside : (past : List Act) (q : Request) (d : Dlci) (e : ℕ) → q.ask ≡ Command d (line_of q) → (d.number == e) ≡ false → accepted Initiator e (Took q ∷ past) ≡ accepted Initiator e past
accepted_beside past q d e asks z =
    unaccepted_by (is_open Initiator e (wire past)) (command_on e q.ask) (nat_lt (length (in_hand past)) 128) (accepted Initiator e past) (accepted Initiator e past ++ q ∷ []) (ap (command_on e) asks ∙ z)

text_more : (qs : List Request) (q : Request) → concat (texts (qs ++ q ∷ [])) ≡ concat (texts qs) ++ (line_of q ++ 13 ∷ [])
text_more [] q = append-nil (line_of q ++ 13 ∷ [])
text_more (r ∷ rs) q =
    let text = line_of r ++ 13 ∷ [] in
    ap (λ (x : List ℕ). text ++ x) (text_more rs q) ∙ sym (append_assoc text (concat (texts rs)) (line_of q ++ 13 ∷ []))

-- where the station has come to
pub record Reaches (s : Setting) (v : Core) (past : List Act) (q : Request) (w : Station) : Type 0 where
  pub acts_seen : List station.Act
  pub fits : station_fits.StationFits w acts_seen
  pub same : without_calls acts_seen ≡ wire past
  pub states : (e : ℕ) → e < 62 → (channel_at w e).state ≡ (channel_at v.station e).state
  pub probe : w.probe ≡ v.station.probe
  pub offered_are : (e : ℕ) → e < 62 → (e == 0) ≡ false → is_open Initiator e (wire past) ≡ true
      → offered Initiator e acts_seen ≡ concat (texts (take (answered (dialect_in v) (marks Initiator e past) + 1) (accepted Initiator e (Took q ∷ past))))

-- ## Another command is in hand

waits_so : (s : Setting) (v : Core) (past : List Act) (q : Request) (d : Dlci) → (l : Live s v past) → MayCome s v past (Took q) → length v.hand < 128 → q.ask ≡ Command d (line_of q)
    → list_any (commands_on d.number) v.hand ≡ true → (e : ℕ) → e < 62 → (e == 0) ≡ false → is_open Initiator e (wire past) ≡ true → (b : Bool) → (d.number == e) ≡ b
    → offered Initiator e l.runs.seen ≡ concat (texts (take (answered (dialect_in v) (marks Initiator e past) + 1) (accepted Initiator e (Took q ∷ past))))
waits_so s v past q d l m few asks any e b z o false k =
    (l.runs.lanes_fit e b z o).offered_is ∙ ap (λ (qs : List Request). concat (texts (take (answered (dialect_in v) (marks Initiator e past) + 1) qs))) (sym (accepted_beside past q d e asks k))
waits_so s v past q d l m few asks any e b z o true k =
    let n = d.number in
    let place : n ≡ e = eqb-true n e k in
    let there : is_open s.role e (wire past) ≡ true = ap (λ (r : Role). is_open r e (wire past)) l.role_is ∙ o in
    let i : InStep s e past = in_step_of s v past e l m.run z there in
    let some : 0 < length (commands_for e (in_hand past)) = subst (λ (rs : List Request). 0 < length (commands_for e rs)) (sym l.hand_is) (any_some e v.hand (ap (λ (x : ℕ). list_any (commands_on x) v.hand) (sym place) ∙ any)) in
    let acc = accepted Initiator e past in
    let count : length acc ≡ length i.before + length (commands_for e (in_hand past))
    = ap (λ (r : Role). length (accepted r e past)) (sym l.role_is) ∙ (ap length i.accepted_are ∙ length-append i.before (commands_for e (in_hand past))) in
    let whole : answered (dialect_in v) (marks Initiator e past) ≡ length i.before = ap (λ (r : Role). answered (dialect_in v) (marks r e past)) (sym l.role_is) ∙ (ap (λ (c : Dialect). answered c (marks s.role e past)) (sym l.dialect_is) ∙ i.answered_are) in
    let more : accepted Initiator e (Took q ∷ past) ≡ acc ++ q ∷ []
    = subst (λ (x : ℕ). accepted Initiator x (Took q ∷ past) ≡ accepted Initiator x past ++ q ∷ []) place (accepted_here s v past q d l few asks (ap (λ (x : ℕ). is_open Initiator x (wire past)) place ∙ o)) in
    (l.runs.lanes_fit e b z o).offered_is
    ∙ ap (λ (qs : List Request). concat (texts qs)) (sym (ap (take (answered (dialect_in v) (marks Initiator e past) + 1)) more ∙ take-append-le (answered (dialect_in v) (marks Initiator e past) + 1) acc (q ∷ []) (omega (arith, some, count, whole))))

waits_reaches : (s : Setting) (v : Core) (past : List Act) (q : Request) (d : Dlci) → Live s v past → MayCome s v past (Took q) → length v.hand < 128 → q.ask ≡ Command d (line_of q)
    → list_any (commands_on d.number) v.hand ≡ true → Reaches s v past q v.station
waits_reaches s v past q d l m few asks any = record {
  acts_seen = l.runs.seen;
  fits = l.runs.fits;
  same = l.runs.same;
  states = λ e b. refl;
  probe = refl;
  offered_are = λ e b z o. waits_so s v past q d l m few asks any e b z o (d.number == e) refl;
}

-- ## No other is in hand: it enters the ring

record Mid (s : Setting) (v : Core) (past : List Act) (l : Live s v past) (mid : Station) (n : ℕ) (text : List ℕ) : Type 0 where
  handles : station_fits.StationHandles v.station mid (Called (Offer n text))
  fits : station_fits.StationFits mid (Called (Offer n text) ∷ l.runs.seen)
  states : (e : ℕ) → e < 62 → (channel_at mid e).state ≡ (channel_at v.station e).state

mid_of : (s : Setting) (v : Core) (past : List Act) (l : Live s v past) (mid : Station) (n : ℕ) (text : List ℕ) → n < 62 → (n == 0) ≡ false → is_opened (channel_at v.station n).state ≡ true
    → station_fits.StationHandles v.station mid (Called (Offer n text)) → Mid s v past l mid n text
mid_of s v past l mid n text b z o h =
    let st = v.station in
    let c = Offer n text in
    let one = Called c ∷ l.runs.seen in
    let f : station_fits.StationFits mid one = called_fits st mid l.runs.seen c l.runs.fits b (offer_taken st n text z o) h in
    let states : (e : ℕ) → e < 62 → (channel_at mid e).state ≡ (channel_at st e).state
    = λ e k. sym (f.channels_are e k).state_is ∙ (ap (λ (x : sending.StationSetting). state_of x.role e one) h.setting ∙ (state_called st.role e l.runs.seen c ∙ (l.runs.fits.channels_are e k).state_is)) in
    record { handles = h; fits = f; states = states }

enters_so : (s : Setting) (v : Core) (past : List Act) (q : Request) (d : Dlci) → (l : Live s v past) → MayCome s v past (Took q) → length v.hand < 128 → q.ask ≡ Command d (line_of q)
    → list_any (commands_on d.number) v.hand ≡ false → (e : ℕ) → e < 62 → (e == 0) ≡ false → is_open Initiator e (wire past) ≡ true → (b : Bool) → (d.number == e) ≡ b
    → offered Initiator e (Called (Offer d.number (line_of q ++ 13 ∷ [])) ∷ l.runs.seen) ≡ concat (texts (take (answered (dialect_in v) (marks Initiator e past) + 1) (accepted Initiator e (Took q ∷ past))))
enters_so s v past q d l m few asks any e b z o false k =
    let n = d.number in
    let line = line_of q ++ 13 ∷ [] in
    let one = Called (Offer n line) ∷ l.runs.seen in
    let here : is_open Initiator e one ≡ true = open_plain Initiator e one ∙ (ap (is_open Initiator e) l.runs.same ∙ o) in
    let before = offered Initiator e l.runs.seen in
    offered_called Initiator e (Offer n line) l.runs.seen here
    ∙ (ap (λ (x : Bool). before ++ (if x then line else [])) k
    ∙ (append-nil before
    ∙ ((l.runs.lanes_fit e b z o).offered_is ∙ ap (λ (qs : List Request). concat (texts (take (answered (dialect_in v) (marks Initiator e past) + 1) qs))) (sym (accepted_beside past q d e asks k)))))
enters_so s v past q d l m few asks any e b z o true k =
    let n = d.number in
    let line = line_of q ++ 13 ∷ [] in
    let one = Called (Offer n line) ∷ l.runs.seen in
    let here : is_open Initiator e one ≡ true = open_plain Initiator e one ∙ (ap (is_open Initiator e) l.runs.same ∙ o) in
    let before = offered Initiator e l.runs.seen in
    let place : n ≡ e = eqb-true n e k in
    let there : is_open s.role e (wire past) ≡ true = ap (λ (r : Role). is_open r e (wire past)) l.role_is ∙ o in
    let i : InStep s e past = in_step_of s v past e l m.run z there in
    let none : commands_for e (in_hand past) ≡ [] = ap (commands_for e) l.hand_is ∙ any_none e v.hand (ap (λ (x : ℕ). list_any (commands_on x) v.hand) (sym place) ∙ any) in
    let acc = accepted Initiator e past in
    let count : length acc ≡ length i.before
    = ap (λ (r : Role). length (accepted r e past)) (sym l.role_is) ∙ (ap length i.accepted_are ∙ (ap (λ (rs : List Request). length (i.before ++ rs)) none ∙ ap length (append-nil i.before))) in
    let whole : answered (dialect_in v) (marks Initiator e past) ≡ length i.before = ap (λ (r : Role). answered (dialect_in v) (marks r e past)) (sym l.role_is) ∙ (ap (λ (c : Dialect). answered c (marks s.role e past)) (sym l.dialect_is) ∙ i.answered_are) in
    let more : accepted Initiator e (Took q ∷ past) ≡ acc ++ q ∷ []
    = subst (λ (x : ℕ). accepted Initiator x (Took q ∷ past) ≡ accepted Initiator x past ++ q ∷ []) place (accepted_here s v past q d l few asks (ap (λ (x : ℕ). is_open Initiator x (wire past)) place ∙ o)) in
    let all : take (answered (dialect_in v) (marks Initiator e past) + 1) (accepted Initiator e (Took q ∷ past)) ≡ acc ++ q ∷ []
    = ap (take (answered (dialect_in v) (marks Initiator e past) + 1)) more ∙ take_all (answered (dialect_in v) (marks Initiator e past) + 1) (acc ++ q ∷ []) (let a = length-append acc (q ∷ []) in omega (arith, a, count, whole)) in
    let old : before ≡ concat (texts acc) = (l.runs.lanes_fit e b z o).offered_is ∙ ap (λ (qs : List Request). concat (texts qs)) (take_all (answered (dialect_in v) (marks Initiator e past) + 1) acc (omega (arith, count, whole))) in
    offered_called Initiator e (Offer n line) l.runs.seen here
    ∙ (ap (λ (x : Bool). before ++ (if x then line else [])) k
    ∙ (ap (λ (x : List ℕ). x ++ line) old ∙ (sym (text_more acc q) ∙ ap (λ (qs : List Request). concat (texts qs)) (sym all))))

enters_reaches : (s : Setting) (v : Core) (past : List Act) (q : Request) (d : Dlci) (w : Station) → Live s v past → MayCome s v past (Took q) → length v.hand < 128 → q.ask ≡ Command d (line_of q)
    → (d.number == 0) ≡ false → is_opened (channel_at v.station d.number).state ≡ true → length (line_of q) ≤ 256
    → list_any (commands_on d.number) v.hand ≡ false → TakesLine v.station w d.number (line_of q ++ 13 ∷ []) → Reaches s v past q w
enters_reaches s v past q d w l m few asks z o short any t =
    let st = v.station in
    let n = d.number in
    let line = line_of q ++ 13 ∷ [] in
    let there : is_open s.role n (wire past) ≡ true = (ap is_opened (l.states_are n d.in_range) ∙ o) in
    let none : commands_for n (in_hand past) ≡ [] = ap (commands_for n) l.hand_is ∙ any_none n v.hand any in
    let empty : (channel_at st n).waiting ≡ [] = ring_empty s v past n l m.run d.in_range z there none in
    let size = ap length empty in
    let long = length-append (line_of q) (13 ∷ []) in
    let taken = t.taken (offer_free st n line z o (omega (arith, size, short, long))) in
    let mid = mid_of s v past l w n line d.in_range z o taken in
    record {
      acts_seen = Called (Offer n line) ∷ l.runs.seen;
      fits = mid.fits;
      same = l.runs.same;
      states = mid.states;
      probe = sym mid.fits.probe_is ∙ (ap (λ (x : sending.StationSetting). probe_of x (Called (Offer n line) ∷ l.runs.seen)) taken.setting
          ∙ (probe_called (setting_of st) l.runs.seen (Offer n line) refl ∙ l.runs.fits.probe_is));
      offered_are = λ e k y h. enters_so s v past q d l m few asks any e k y h (d.number == e) refl;
    }

-- ## Both

-- the call was taken
pub record Commands (v : Core) (w : Station) (q : Request) (d : Dlci) : Type 0 where
  pub asks : q.ask ≡ Command d (line_of q)
  pub taken_on : refused_command v.station d.number ≡ None
  pub short : length (line_of q) ≤ 256
  pub offers : OffersFirstCommand v.hand v.station w d.number (line_of q ++ 13 ∷ [])

record Free (zero opened : Bool) : Type 0 where
  not_zero : zero ≡ false
  was_opened : opened ≡ true

free_by : (b o : Bool) → (if b then Some ControlChannel else if not o then Some NotOpen else None) ≡ None → Free b o
free_by true o h = cc
free_by false false h = cc
free_by false true h = record { not_zero = refl; was_opened = refl }

command_reaches : (s : Setting) (v : Core) (past : List Act) (q : Request) (d : Dlci) (w : Station) → Live s v past → MayCome s v past (Took q) → length v.hand < 128 → Commands v w q d → Reaches s v past q w
command_reaches s v past q d w l m few o = by_any (list_any (commands_on d.number) v.hand) refl o.offers.enters
  where
    by_any : (b : Bool) → list_any (commands_on d.number) v.hand ≡ b → Enters b v.station w d.number (line_of q ++ 13 ∷ []) → Reaches s v past q w
    by_any true k e = subst (λ (x : Station). Reaches s v past q x) (sym e) (waits_reaches s v past q d l m few o.asks k)
    by_any false k e =
        let free = free_by (d.number == 0) (is_opened (channel_at v.station d.number).state) o.taken_on in
        enters_reaches s v past q d w l m few o.asks free.not_zero free.was_opened o.short k e

-- what the past tells a command at once is what it is told by the state of its connection
pub command_told : (s : Setting) (v : Core) (past : List Act) (d : Dlci) (line : List ℕ) → Live s v past → refused_ask s (seen s past) (Command d line) ≡ refused_command v.station d.number
command_told s v past d line l = ap (λ (x : State). if d.number == 0 then Some ControlChannel else if not (is_opened x) then Some NotOpen else None) (l.states_are d.number d.in_range)

wait_on : (s : Setting) (v : Core) (past : List Act) (q : Request) (w : Station) → Live s v past → Reaches s v past q w → AllWait (state_shown w false) v.hand
wait_on s v past q w l r = all_same (state_shown v.station false) (state_shown w false) (λ e b. ap as_shown (r.states e b)) v.hand l.runs.waits

command_accepts : (v : Core) (w : Station) (q : Request) (d : Dlci) → length v.hand < 128 → Commands v w q d → (s : Setting) (past : List Act) → Live s v past → MayCome s v past (Took q) → Accepts s v past q w false
command_accepts v w q d few o s past l m =
    let n = d.number in
    let r = command_reaches s v past q d w l m few o in
    let free = free_by (n == 0) (is_opened (channel_at v.station n).state) o.taken_on in
    let none : asking s.role q.ask ≡ [] = ap (asking s.role) o.asks in
    let once : at_once s (seen s past) q ≡ None = once_is s v past q l few ∙ (ap (refused_ask s (seen s past)) o.asks ∙ (command_told s v past d (line_of q) l ∙ o.taken_on)) in
    let now0 : now_in s past (Took q) 0 ≡ state_of s.role 0 (wire past) = state_then s past q [] 0 (asked_frames s past q l.lost_is once ∙ none) in
    let past' = ended s past (Took q) in
    record {
      once = once;
      acts_seen = r.acts_seen;
      fits = r.fits;
      setting = o.offers.setting;
      same = r.same ∙ sym (ap (λ (gs : List Frame). sent_after gs (wire past)) none);
      ends = ap (λ (x : State). is_opened (state_of s.role 0 (wire past)) && not (is_opened x)) now0 ∙ and_not (is_opened (state_of s.role 0 (wire past)));
      waits = ap (may_wait (state_shown w false)) o.asks ∙ (ap (λ (x : State). channel_opened (as_shown x)) (r.states n d.in_range) ∙ (opened_shown (channel_at v.station n).state ∙ free.was_opened));
      probe_is = ap (λ (rs : List Request). probe_in past' (rs ++ q ∷ [])) (all_left (state_shown w false) false v.hand (wait_on s v past q w l r))
          ∙ (probe_more past' v.hand q (ap is_probe o.asks) ∙ (probe_kept s v past q m ∙ (l.runs.probe_is ∙ sym r.probe)));
      offered_are = λ e b z h. r.offered_are e b z (ap (λ (gs : List Frame). is_open Initiator e (sent_after gs (wire past))) (sym none) ∙ h);
    }

-- a command that is accepted goes into hand, and no frame is sent for it
pub command_handles : (v new : Core) (w : Station) (q : Request) (d : Dlci) (acts : List code.Act) → v.station.role ≡ Initiator → v.lost ≡ false → length v.hand < 128 → Commands v w q d
    → new ≡ record v { station = w; hand = v.hand ++ q ∷ [] } → acts ≡ code.TheVariants.Took q ∷ [] → Handles v new (Took q) (map act_of acts)
command_handles v new w q d acts role lost few o n h =
    accepted_handles v new q w false acts role lost (command_accepts v w q d few o)
    (λ s past l m.
    let waits = wait_on s v past q w l (command_reaches s v past q d w l m few o) in
    record {
      new_is = n ∙ ap (λ (rs : List Request). record v { station = w; hand = rs ++ q ∷ [] }) (sym (all_left (state_shown w false) false v.hand waits));
      acts_are = ap (map act_of) h
          ∙ (ap (λ (ask : Ask). Took q ∷ map Sent (asking Initiator ask)) (sym o.asks)
          ∙ (ap (λ (x : List Act). Took q ∷ x) (sym (append-nil (map Sent (asking Initiator q.ask))))
          ∙ ap (λ (x : List code.Act). Took q ∷ (map Sent (asking Initiator q.ask) ++ map act_of x)) (sym (none_told (state_shown w false) false v.hand waits))));
    })

-- ## It is refused

-- one that isn't is handled by telling it why
pub command_refused : (v : Core) (q : Request) (d : Dlci) (why : Answer) → v.station.role ≡ Initiator → MayTake v q (Command d (line_of q))
    → refused_command v.station d.number ≡ Some why → AsksAlone v v q (Some why)
command_refused v q d why role may h = refused_alone v v q (Command d (line_of q)) why role may refl (λ s past l. command_told s v past d (line_of q) l ∙ h)
