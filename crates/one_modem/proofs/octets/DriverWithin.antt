-- The frames that a driver sends are such as its N1 reads.
use Rattle.std.proofs.Common.{ap, sym, ◌∙◌, arith}
use Rattle.std.proofs.lemmas.Bool.{and_from, and_parts}
use Rattle.std.proofs.lemmas.List.Folds.{list_all-append, list_all-map}
use Rattle.std.specs.Prelude.{◌≡◌, ℕ, ◌≤◌, not, Bool, true, false, List, [], ◌∷◌, ◌++◌, length, map, drop, refl, is_none, if◌then◌else◌}
use Rattle.std.specs.List.{list_all}
use Rattle.mux_frame.specs.Frames.{Frame}
use Rattle.mux_frame.specs.declared.frame.Kind.TheVariants.{Sabm, Disc}
use Rattle.mux_station.specs.declared.role.Role.{Role}
use Rattle.mux_station.specs.Written.{is_data_frame, written}
use Rattle.mux_station.specs.Messages.{cld, test}
use Rattle.mux_station.specs.Tables.{held_up, ready, message_frame}
use Rattle.mux_station.proofs.law_proofs.ControlFrames.{all_both, all_if, all_more}
use Rattle.modem_desk.specs.declared.request.Ask.{Ask}
use Rattle.modem_desk.specs.declared.request.Ask.TheVariants.{OpenChannel, CloseChannel, Command, Probe, Stop}
use Rattle.modem_history.specs.Acts.{Act, Took, Got, Sent, Told, Heard, Tick, Lost, Held, Freed, Given, wire}
use Rattle.modem_history.specs.Calls.{Setting, HistoryView, asking, at_once, calls_behind, calls_seeing, frames, frames_by, lines_said, said_at_once, seen_behind, states_now, tolds}
use Rattle.modem_history.specs.Lawful.{Gated, IsNext, Lawful, When, owed, unsent}
use Rattle.modem_history.specs.Sessions.{gots, sents}
use Rattle.modem_history.specs.TwoEnds.{frames_got}
use Rattle.modem_history.proofs.calls.CalledActs.{Deliveries, spoken}
use Rattle.one_modem.proofs.octets.WithinFrames.{Within, is_within}
use Rattle.one_modem.proofs.octets.CalledWithin.{data_within, flow_within, frame_within, last_within, message_within, mode_within, tick_within}

-- ## What is asked for

-- a probe has at most 16 octets
abbrev pub IsShortAsk : Ask → Type 0
IsShortAsk (Probe octets) = length octets ≤ 16
IsShortAsk _ = Unit {0}

-- each probe that was taken is such
abbrev pub TakesShort : List Act → Type 0
TakesShort [] = Unit {0}
TakesShort (Took q ∷ past) = IsShortAsk q.ask × TakesShort past
TakesShort (_ ∷ past) = TakesShort past

asked : (n1 : ℕ) (r : Role) (a : Ask) → 31 ≤ n1 → IsShortAsk a → Within n1 (asking r a)
asked n1 r (OpenChannel d) low h = all_more (is_within n1) (written r Sabm d.number []) [] (mode_within n1 d.number r Sabm d.in_range) refl
asked n1 r (CloseChannel d) low h = all_more (is_within n1) (written r Disc d.number []) [] (mode_within n1 d.number r Disc d.in_range) refl
asked n1 r (Command d line) low h = refl
asked n1 r (Probe octets) low h = all_more (is_within n1) (message_frame r test octets) [] (message_within n1 r test octets (omega (arith, low, h))) refl
asked n1 r Stop low h = all_more (is_within n1) (message_frame r cld []) [] (message_within n1 r cld [] (omega (arith, low))) refl

-- ## What is owed

abbrev sends_within : ℕ → Act → Bool
sends_within n1 (Sent f) = is_within n1 f
sends_within n1 _ = true

abbrev SendsWithin : ℕ → List Act → Type 0
SendsWithin n1 acts = list_all (sends_within n1) acts ≡ true

both : (n1 : ℕ) (xs ys : List Act) → SendsWithin n1 xs → SendsWithin n1 ys → SendsWithin n1 (xs ++ ys)
both n1 xs ys h k = list_all-append (sends_within n1) xs ys ∙ and_from (list_all (sends_within n1) xs) (list_all (sends_within n1) ys) h k

never : {P : Type 0} → false ≡ true → P
never e = cc

none_sent : (n1 : ℕ) (acts : List Act) → Deliveries acts → SendsWithin n1 acts
none_sent n1 [] h = refl
none_sent n1 (Told o ∷ acts) h = none_sent n1 acts h
none_sent n1 (Heard k d line ∷ acts) h = none_sent n1 acts h
none_sent n1 (Took r ∷ acts) h = never h
none_sent n1 (Got f ∷ acts) h = never h
none_sent n1 (Sent f ∷ acts) h = never h
none_sent n1 (Tick ∷ acts) h = never h
none_sent n1 (Lost ∷ acts) h = never h
none_sent n1 (Held d ∷ acts) h = never h
none_sent n1 (Freed d ∷ acts) h = never h
none_sent n1 (Given ∷ acts) h = never h

-- the frames by which an act may be followed are those for which it calls
called_in : (n1 : ℕ) (s : Setting) (v : HistoryView) (a : Act) → Within n1 (frames_by s v a) → SendsWithin n1 (calls_seeing s v a)
called_in n1 s v a h =
    let sent = map Sent (frames s v a) in
    let now = states_now s v (a ∷ sent) in
    both n1 sent (said_at_once s v a ++ (lines_said s v a ++ tolds v now a))
    (list_all-map (sends_within n1) Sent (frames s v a) ∙ all_if (is_within n1) v.lost [] (frames_by s v a) refl h)
    (none_sent n1 (said_at_once s v a ++ (lines_said s v a ++ tolds v now a)) (spoken s v a now))

more : (n1 : ℕ) (s : Setting) (past owing : List Act) (a : Act) → SendsWithin n1 owing → Within n1 (frames_by s (seen_behind s past owing) a) → SendsWithin n1 (owing ++ calls_behind s past owing a)
more n1 s past owing a h k = both n1 owing (calls_behind s past owing a) h (called_in n1 s (seen_behind s past owing) a k)

fewer : (n1 : ℕ) (acts : List Act) → SendsWithin n1 acts → SendsWithin n1 (drop 1 acts)
fewer n1 [] h = refl
fewer n1 (a ∷ acts) h = (and_parts (sends_within n1 a) (list_all (sends_within n1) acts) h).1

fewer_or : (n1 : ℕ) (b : Bool) (acts : List Act) → SendsWithin n1 acts → SendsWithin n1 (if b then acts else drop 1 acts)
fewer_or n1 true acts h = h
fewer_or n1 false acts h = fewer n1 acts h

unsent_sends : (n1 : ℕ) (acts : List Act) → SendsWithin n1 (unsent acts)
unsent_sends n1 [] = refl
unsent_sends n1 (Sent f ∷ acts) = unsent_sends n1 acts
unsent_sends n1 (Told o ∷ acts) = unsent_sends n1 acts
unsent_sends n1 (Heard k d line ∷ acts) = unsent_sends n1 acts
unsent_sends n1 (Took r ∷ acts) = unsent_sends n1 acts
unsent_sends n1 (Got f ∷ acts) = unsent_sends n1 acts
unsent_sends n1 (Tick ∷ acts) = unsent_sends n1 acts
unsent_sends n1 (Lost ∷ acts) = unsent_sends n1 acts
unsent_sends n1 (Held d ∷ acts) = unsent_sends n1 acts
unsent_sends n1 (Freed d ∷ acts) = unsent_sends n1 acts
unsent_sends n1 (Given ∷ acts) = unsent_sends n1 acts

owed_within : (s : Setting) (past : List Act) → 31 ≤ s.n1 → Within s.n1 (gots past) → TakesShort past → SendsWithin s.n1 (owed s past)
owed_within s [] low w t = refl
owed_within s (Sent f ∷ past) low w t = fewer_or s.n1 (is_data_frame f) (owed s past) (owed_within s past low w t)
owed_within s (Told o ∷ past) low w t = fewer s.n1 (owed s past) (owed_within s past low w t)
owed_within s (Heard k d line ∷ past) low w t = fewer s.n1 (owed s past) (owed_within s past low w t)
owed_within s (Given ∷ past) low w t = owed_within s past low w t
owed_within s (Lost ∷ past) low w t = both s.n1 (unsent (owed s past)) (calls_behind s past (owed s past) Lost) (unsent_sends s.n1 (owed s past)) (called_in s.n1 s (seen_behind s past (owed s past)) Lost refl)
owed_within s (Took r ∷ past) low w t =
    let v = seen_behind s past (owed s past) in
    more s.n1 s past (owed s past) (Took r) (owed_within s past low w t.1) (all_if (is_within s.n1) (is_none (at_once s v r)) (asking s.role r.ask) [] (asked s.n1 s.role r.ask low t.0) refl)
owed_within s (Got f ∷ past) low w t =
    let p = last_within s.n1 (gots past) f w in
    let v = seen_behind s past (owed s past) in
    more s.n1 s past (owed s past) (Got f) (owed_within s past low p.0 t) (frame_within s.n1 s.role v.state f low p.1)
owed_within s (Tick ∷ past) low w t =
    let v = seen_behind s past (owed s past) in
    more s.n1 s past (owed s past) Tick (owed_within s past low w t) (tick_within s.n1 s.n1 s.role v.state v.queued 0 62 (omega arith))
owed_within s (Held d ∷ past) low w t =
    let v = seen_behind s past (owed s past) in
    more s.n1 s past (owed s past) (Held d) (owed_within s past low w t) (flow_within s.n1 s.role v.state d held_up low)
owed_within s (Freed d ∷ past) low w t =
    let v = seen_behind s past (owed s past) in
    more s.n1 s past (owed s past) (Freed d) (owed_within s past low w t) (flow_within s.n1 s.role v.state d ready low)

-- ## What is sent

-- the frames got, as the station has them
wire_within : (n1 : ℕ) (past : List Act) → Within n1 (gots past) → Within n1 (frames_got (wire past))
wire_within n1 [] w = refl
wire_within n1 (Got f ∷ past) w =
    let p = last_within n1 (gots past) f w in
    and_from (is_within n1 f) (list_all (is_within n1) (frames_got (wire past))) p.1 (wire_within n1 past p.0)
wire_within n1 (Sent f ∷ past) w = wire_within n1 past w
wire_within n1 (Told o ∷ past) w = wire_within n1 past w
wire_within n1 (Heard k d line ∷ past) w = wire_within n1 past w
wire_within n1 (Given ∷ past) w = wire_within n1 past w
wire_within n1 (Lost ∷ past) w = wire_within n1 past w
wire_within n1 (Took r ∷ past) w = wire_within n1 past w
wire_within n1 (Tick ∷ past) w = wire_within n1 past w
wire_within n1 (Held d ∷ past) w = wire_within n1 past w
wire_within n1 (Freed d ∷ past) w = wire_within n1 past w

sent_by : (s : Setting) (past : List Act) (f : Frame) (b : Bool) → Within s.n1 (gots past) → SendsWithin s.n1 (owed s past) → When b (Gated s past (owed s past) f) → When (not b) (IsNext (owed s past) (Sent f)) → is_within s.n1 f ≡ true
sent_by s past f true w o g n = data_within s.n1 s.role (wire past) f (wire_within s.n1 past w) g.is_open g.as_written g.fits
sent_by s past f false w o g n = (and_parts (is_within s.n1 f) (list_all (sends_within s.n1) n.later) (sym (ap (list_all (sends_within s.n1)) n.is_next) ∙ o)).0

-- a lawful driver that got such frames as its N1 reads, and took short probes, sent such alone
pub sents_within : (s : Setting) (past : List Act) → 31 ≤ s.n1 → Lawful s past → Within s.n1 (gots past) → TakesShort past → Within s.n1 (sents past)
unfolding Lawful
sents_within s [] low l w t = refl
sents_within s (Sent f ∷ past) low l w t =
    all_both (is_within s.n1) (sents past) (f ∷ []) (sents_within s past low l.1 w t)
    (all_more (is_within s.n1) f [] (sent_by s past f (is_data_frame f) w (owed_within s past low w t) l.0.gated l.0.controlled) refl)
sents_within s (Got f ∷ past) low l w t = sents_within s past low l.1 (last_within s.n1 (gots past) f w).0 t
sents_within s (Took r ∷ past) low l w t = sents_within s past low l.1 w t.1
sents_within s (Told o ∷ past) low l w t = sents_within s past low l.1 w t
sents_within s (Heard k d line ∷ past) low l w t = sents_within s past low l.1 w t
sents_within s (Given ∷ past) low l w t = sents_within s past low l.1 w t
sents_within s (Lost ∷ past) low l w t = sents_within s past low l.1 w t
sents_within s (Tick ∷ past) low l w t = sents_within s past low l.1 w t
sents_within s (Held d ∷ past) low l w t = sents_within s past low l.1 w t
sents_within s (Freed d ∷ past) low l w t = sents_within s past low l.1 w t
