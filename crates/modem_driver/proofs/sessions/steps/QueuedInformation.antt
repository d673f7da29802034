-- No frame that waits in the control queue has information but a UIH.
use Rattle.std.proofs.Common.{ap, sym, ◌∙◌}
use Rattle.std.proofs.lemmas.Bool.{and_from, and_parts}
use Rattle.std.proofs.lemmas.List.Folds.{list_all-append, list_all-map}
use Rattle.std.specs.Prelude.{◌≡◌, not, Bool, true, false, List, [], ◌∷◌, ◌++◌, map, drop, refl, if◌then◌else◌, is_none}
use Rattle.std.specs.List.{list_all}
use Rattle.mux_frame.specs.Frames.{Frame}
use Rattle.mux_station.specs.declared.role.Role.{Role}
use Rattle.mux_station.specs.Written.{is_data_frame}
use Rattle.mux_station.proofs.law_proofs.ControlFrames.{is_plain, plain_passes, all_both, all_if, all_more, all_of_frame, all_of_tick, all_of_flow}
use Rattle.mux_station.specs.Sending.{queue}
use Rattle.mux_station.specs.Tables.{ready, held_up}
use Rattle.modem_desk.specs.declared.request.Ask.{Ask}
use Rattle.modem_desk.specs.declared.request.Ask.TheVariants.{OpenChannel, CloseChannel, Command, Probe, Stop}
use Rattle.modem_history.specs.Acts.{Act, Took, Got, Sent, Told, Heard, Tick, Lost, Held, Freed, Given, wire}
use Rattle.modem_history.specs.Calls.{Setting, HistoryView, calls_seeing, states_now, frames, frames_by, asking, at_once, said_at_once, lines_said, tolds, seen_behind}
use Rattle.modem_history.specs.Lawful.{Lawful, IsNext, When, unsent, owed, owed_after}
use Rattle.modem_history.proofs.calls.CalledActs.{Deliveries, spoken}

abbrev Plains : List Frame → Type 0
Plains fs = list_all is_plain fs ≡ true

-- ## The frames that an act calls for

asked : (r : Role) (a : Ask) → Plains (asking r a)
asked r (OpenChannel d) = refl
asked r (CloseChannel d) = refl
asked r (Command d line) = refl
asked r (Probe octets) = refl
asked r Stop = refl

framed : (s : Setting) (v : HistoryView) (a : Act) → Plains (frames_by s v a)
framed s v (Took r) = all_if is_plain (is_none (at_once s v r)) (asking s.role r.ask) [] (asked s.role r.ask) refl
framed s v (Got f) = all_of_frame is_plain plain_passes s.role v.state f
framed s v Tick = all_of_tick is_plain plain_passes s.role s.n1 v.state v.queued 0 62
framed s v (Held d) = all_of_flow is_plain plain_passes s.role v.state d held_up
framed s v (Freed d) = all_of_flow is_plain plain_passes s.role v.state d ready
framed s v Lost = refl
framed s v (Sent f) = refl
framed s v (Told o) = refl
framed s v (Heard k d l) = refl
framed s v Given = refl

-- ## What is owed

-- a frame among them is plain
abbrev is_plain_act : Act → Bool
is_plain_act (Sent f) = is_plain f
is_plain_act a = true

abbrev PlainActs : List Act → Type 0
PlainActs acts = list_all is_plain_act acts ≡ true

acts_both : (xs ys : List Act) → PlainActs xs → PlainActs ys → PlainActs (xs ++ ys)
acts_both xs ys h k = list_all-append is_plain_act xs ys ∙ and_from (list_all is_plain_act xs) (list_all is_plain_act ys) h k

no_delivery : {P : Type 0} → false ≡ true → P
no_delivery e = cc

deliveries_plain : (acts : List Act) → Deliveries acts → PlainActs acts
deliveries_plain [] h = refl
deliveries_plain (Told o ∷ acts) h = deliveries_plain acts h
deliveries_plain (Heard k d line ∷ acts) h = deliveries_plain acts h
deliveries_plain (Took r ∷ acts) h = no_delivery h
deliveries_plain (Got f ∷ acts) h = no_delivery h
deliveries_plain (Sent f ∷ acts) h = no_delivery h
deliveries_plain (Tick ∷ acts) h = no_delivery h
deliveries_plain (Lost ∷ acts) h = no_delivery h
deliveries_plain (Held d ∷ acts) h = no_delivery h
deliveries_plain (Freed d ∷ acts) h = no_delivery h
deliveries_plain (Given ∷ acts) h = no_delivery h

calls_plain : (s : Setting) (v : HistoryView) (a : Act) → PlainActs (calls_seeing s v a)
calls_plain s v a =
    let sent = map Sent (frames s v a) in
    let now = states_now s v (a ∷ sent) in
    let deliveries = said_at_once s v a ++ (lines_said s v a ++ tolds v now a) in
    acts_both sent deliveries (list_all-map is_plain_act Sent (frames s v a) ∙ all_if is_plain v.lost [] (frames_by s v a) refl (framed s v a)) (deliveries_plain deliveries (spoken s v a now))

one_less : (acts : List Act) → PlainActs acts → PlainActs (drop 1 acts)
one_less [] h = refl
one_less (a ∷ acts) h = (and_parts (is_plain_act a) (list_all is_plain_act acts) h).1

unsent_plain : (acts : List Act) → PlainActs acts → PlainActs (unsent acts)
unsent_plain [] h = refl
unsent_plain (Sent f ∷ acts) h = unsent_plain acts (and_parts (is_plain f) (list_all is_plain_act acts) h).1
unsent_plain (Took r ∷ acts) h = unsent_plain acts h
unsent_plain (Got f ∷ acts) h = unsent_plain acts h
unsent_plain (Told o ∷ acts) h = unsent_plain acts h
unsent_plain (Heard k d line ∷ acts) h = unsent_plain acts h
unsent_plain (Tick ∷ acts) h = unsent_plain acts h
unsent_plain (Lost ∷ acts) h = unsent_plain acts h
unsent_plain (Held d ∷ acts) h = unsent_plain acts h
unsent_plain (Freed d ∷ acts) h = unsent_plain acts h
unsent_plain (Given ∷ acts) h = unsent_plain acts h

owed_then : (s : Setting) (past owing : List Act) (a : Act) → PlainActs owing → PlainActs (owed_after s past owing a)
owed_then s past owing (Sent f) h = by_test (is_data_frame f)
  where
    by_test : (b : Bool) → PlainActs (if b then owing else drop 1 owing)
    by_test true = h
    by_test false = one_less owing h
owed_then s past owing (Told o) h = one_less owing h
owed_then s past owing (Heard k d line) h = one_less owing h
owed_then s past owing Given h = h
owed_then s past owing Lost h = acts_both (unsent owing) (calls_seeing s (seen_behind s past owing) Lost) (unsent_plain owing h) (calls_plain s (seen_behind s past owing) Lost)
owed_then s past owing (Took r) h = acts_both owing (calls_seeing s (seen_behind s past owing) (Took r)) h (calls_plain s (seen_behind s past owing) (Took r))
owed_then s past owing (Got f) h = acts_both owing (calls_seeing s (seen_behind s past owing) (Got f)) h (calls_plain s (seen_behind s past owing) (Got f))
owed_then s past owing Tick h = acts_both owing (calls_seeing s (seen_behind s past owing) Tick) h (calls_plain s (seen_behind s past owing) Tick)
owed_then s past owing (Held d) h = acts_both owing (calls_seeing s (seen_behind s past owing) (Held d)) h (calls_plain s (seen_behind s past owing) (Held d))
owed_then s past owing (Freed d) h = acts_both owing (calls_seeing s (seen_behind s past owing) (Freed d)) h (calls_plain s (seen_behind s past owing) (Freed d))

owed_plain : (s : Setting) (past : List Act) → PlainActs (owed s past)
owed_plain s [] = refl
owed_plain s (a ∷ past) = owed_then s past (owed s past) a (owed_plain s past)

next_plain : (owing : List Act) (f : Frame) → PlainActs owing → IsNext owing (Sent f) → is_plain f ≡ true
next_plain owing f h n = (and_parts (is_plain f) (list_all is_plain_act n.later) (sym (ap (list_all is_plain_act) n.is_next) ∙ h)).0

-- ## The control queue

fewer : (fs : List Frame) → Plains fs → Plains (drop 1 fs)
fewer [] h = refl
fewer (f ∷ fs) h = (and_parts (is_plain f) (list_all is_plain fs) h).1

one_more : (s : Setting) (past : List Act) (f : Frame) (b : Bool) → Plains (queue (wire past)) → When (not b) (IsNext (owed s past) (Sent f)) → Plains (queue (wire past) ++ (if b then [] else f ∷ []))
one_more s past f true h n = all_both is_plain (queue (wire past)) [] h refl
one_more s past f false h n = all_both is_plain (queue (wire past)) (f ∷ []) h (all_more is_plain f [] (next_plain (owed s past) f (owed_plain s past) n) refl)

-- so it is in every lawful history
pub queue_plain : (s : Setting) (past : List Act) → Lawful s past → list_all is_plain (queue (wire past)) ≡ true
unfolding Lawful
queue_plain s [] h = refl
queue_plain s (Sent f ∷ past) h = one_more s past f (is_data_frame f) (queue_plain s past h.1) h.0.controlled
queue_plain s (Took r ∷ past) h = queue_plain s past h.1
queue_plain s (Got f ∷ past) h = queue_plain s past h.1
queue_plain s (Told o ∷ past) h = queue_plain s past h.1
queue_plain s (Heard k d line ∷ past) h = queue_plain s past h.1
queue_plain s (Tick ∷ past) h = queue_plain s past h.1
queue_plain s (Lost ∷ past) h = refl
queue_plain s (Held d ∷ past) h = queue_plain s past h.1
queue_plain s (Freed d ∷ past) h = queue_plain s past h.1
queue_plain s (Given ∷ past) h = fewer (queue (wire past)) (queue_plain s past h.1)
