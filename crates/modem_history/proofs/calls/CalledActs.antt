-- What an act calls for is frames that are no data, outcomes and lines.
use Rattle.std.specs.Prelude.{◌≡◌, ℕ, ◌&&◌, not, Bool, true, false, List, [], ◌∷◌, ◌++◌, refl, if◌then◌else◌, map, Option, Some, None, filter_map, option_map, is_none}
use Rattle.std.specs.List.{list_all, cons_option}
use Rattle.std.proofs.Common.{◌∙◌, ap}
use Rattle.std.proofs.lemmas.Bool.{and_from}
use Rattle.std.proofs.lemmas.List.Folds.{list_all-append, list_all-map}
use Rattle.mux_frame.specs.Frames.{Frame}
use Rattle.mux_station.specs.declared.role.Role.{Role}
use Rattle.mux_station.specs.Written.{is_data_frame}
use Rattle.mux_station.specs.States.{State, is_opened}
use Rattle.mux_station.specs.Tables.{ready, held_up}
use Rattle.mux_station.proofs.law_proofs.ControlFrames.{control_passes, all_if, all_of_frame, all_of_tick, all_of_flow}
use Rattle.at_text.specs.declared.answer.AnswerLine.{AnswerLine}
use Rattle.at_text.specs.declared.unsolicited.UrcKind.{UrcKind}
use Rattle.at_text.specs.declared.unsolicited.UrcKind.TheVariants.{Other}
use Rattle.at_text.specs.declared.window.Seen as line_is
use Rattle.at_text.specs.declared.window.Seen.TheVariants.{Echo, Kept, Unsolicited}
use Rattle.at_text.specs.Lines.{lines}
use Rattle.at_text.specs.Windows.{Mark, Line}
use Rattle.at_text.specs.Seeing.{seen_after}
use Rattle.modem_desk.specs.declared.request.Ask.{Ask}
use Rattle.modem_desk.specs.declared.request.Ask.TheVariants.{OpenChannel, CloseChannel, Command, Probe, Stop}
use Rattle.modem_desk.specs.declared.request.Request.{Request}
use Rattle.modem_desk.specs.declared.request.Answer.{Answer}
use Rattle.modem_history.specs.Acts.{Act, Took, Got, Sent, Told, Heard, Tick, Lost, Held, Freed, Given, told}
use Rattle.modem_history.specs.Calls.{Setting, HistoryView, calls_seeing, states_now, frames, frames_by, asking, at_once, said_of, said_at_once, lines_said, by_lines, by_seen, heard, done, first_on, tolds, told_later, later}
use Rattle.modem_history.specs.Wholes.{is_said}

-- the frame is no data: a control frame
abbrev pub is_control : Frame → Bool
is_control f = not (is_data_frame f)

-- all of these are control frames
abbrev pub Controls : List Frame → Type 0
Controls fs = list_all is_control fs ≡ true

-- each of these acts may be called for: a control frame sent, an outcome or a line heard
abbrev pub Saids : List Act → Type 0
Saids acts = list_all is_said acts ≡ true

-- an outcome or a line
abbrev pub is_delivery : Act → Bool
is_delivery (Told o) = true
is_delivery (Heard k d line) = true
is_delivery a = false

-- each of these acts is an outcome or a line
abbrev pub Deliveries : List Act → Type 0
Deliveries acts = list_all is_delivery acts ≡ true

-- outcomes and lines joined are outcomes and lines
pub deliveries_both : (xs ys : List Act) → Deliveries xs → Deliveries ys → Deliveries (xs ++ ys)
deliveries_both xs ys h k = list_all-append is_delivery xs ys ∙ and_from (list_all is_delivery xs) (list_all is_delivery ys) h k

-- acts that may be called for may be so joined
pub saids_both : (xs ys : List Act) → Saids xs → Saids ys → Saids (xs ++ ys)
saids_both xs ys h k = list_all-append is_said xs ys ∙ and_from (list_all is_said xs) (list_all is_said ys) h k

deliveries_if : (b : Bool) (xs ys : List Act) → Deliveries xs → Deliveries ys → Deliveries (if b then xs else ys)
deliveries_if true xs ys h k = h
deliveries_if false xs ys h k = k

asked : (r : Role) (a : Ask) → Controls (asking r a)
asked r (OpenChannel d) = refl
asked r (CloseChannel d) = refl
asked r (Command d line) = refl
asked r (Probe octets) = refl
asked r Stop = refl

framed : (s : Setting) (v : HistoryView) (a : Act) → Controls (frames_by s v a)
framed s v (Took r) = all_if is_control (is_none (at_once s v r)) (asking s.role r.ask) [] (asked s.role r.ask) refl
framed s v (Got f) = all_of_frame is_control control_passes s.role v.state f
framed s v Tick = all_of_tick is_control control_passes s.role s.n1 v.state v.queued 0 62
framed s v (Held d) = all_of_flow is_control control_passes s.role v.state d held_up
framed s v (Freed d) = all_of_flow is_control control_passes s.role v.state d ready
framed s v Lost = refl
framed s v (Sent f) = refl
framed s v (Told o) = refl
framed s v (Heard k d l) = refl
framed s v Given = refl

at_once_said : (r : Request) (o : Option Answer) → Deliveries (said_of r o)
at_once_said r None = refl
at_once_said r (Some a) = refl

once_said : (s : Setting) (v : HistoryView) (a : Act) → Deliveries (said_at_once s v a)
once_said s v (Took r) = at_once_said r (at_once s v r)
once_said s v (Got f) = refl
once_said s v (Sent f) = refl
once_said s v (Told f) = refl
once_said s v (Heard k d l) = refl
once_said s v Tick = refl
once_said s v Lost = refl
once_said s v (Held f) = refl
once_said s v (Freed f) = refl
once_said s v Given = refl

heard_said : (s : Setting) (d : ℕ) (k : UrcKind) (line : List ℕ) → Deliveries (heard s d k line)
heard_said s d k line = deliveries_if (s.listens k) (Heard k d line ∷ []) [] refl refl

done_said : (o : Option Request) (ls : List AnswerLine) → Deliveries (done o ls)
done_said None ls = refl
done_said (Some r) ls = refl

-- whatever a line is seen as, it calls for outcomes and lines alone
pub line_said : (s : Setting) (d : ℕ) (owner : Option Request) (line : List ℕ) (v : line_is.Seen) → Deliveries (by_seen s d owner line v)
line_said s d owner line Echo = refl
line_said s d owner line Kept = refl
line_said s d owner line (line_is.TheVariants.Done ls) = done_said owner ls
line_said s d owner line (Unsolicited k) = heard_said s d k line
line_said s d owner line line_is.TheVariants.Other = heard_said s d Other line

lines_each_said : (s : Setting) (d : ℕ) (owner : Option Request) (ms : List Mark) (ls : List (List ℕ)) → Deliveries (by_lines s d owner ms ls)
lines_each_said s d owner ms [] = refl
lines_each_said s d owner ms (line ∷ rest) =
    deliveries_both (by_seen s d owner line (seen_after s.dialect ms line)) (by_lines s d owner (ms ++ Line line ∷ []) rest)
    (line_said s d owner line (seen_after s.dialect ms line)) (lines_each_said s d owner (ms ++ Line line ∷ []) rest)

lines_all_said : (s : Setting) (v : HistoryView) (a : Act) → Deliveries (lines_said s v a)
lines_all_said s v (Got f) =
    deliveries_if (is_opened (v.state f.dlci) && is_data_frame f) (by_lines s f.dlci (first_on f.dlci v.waiting) (v.marks f.dlci) (lines (v.run f.dlci ++ f.info))) []
    (lines_each_said s f.dlci (first_on f.dlci v.waiting) (v.marks f.dlci) (lines (v.run f.dlci ++ f.info))) refl
lines_all_said s v (Took r) = refl
lines_all_said s v (Sent f) = refl
lines_all_said s v (Told f) = refl
lines_all_said s v (Heard k d l) = refl
lines_all_said s v Tick = refl
lines_all_said s v Lost = refl
lines_all_said s v (Held f) = refl
lines_all_said s v (Freed f) = refl
lines_all_said s v Given = refl

one_told : (r : Request) (o : Option Answer) (rest : List Act) → Deliveries rest → Deliveries (cons_option (option_map (told r) o) rest)
one_told r None rest h = h
one_told r (Some a) rest h = h

tolds_said : (v : HistoryView) (now : ℕ → State) (a : Act) (rs : List Request) → Deliveries (filter_map (told_later v now a) rs)
tolds_said v now a [] = refl
tolds_said v now a (r ∷ rs) = one_told r (later v now a r r.ask) (filter_map (told_later v now a) rs) (tolds_said v now a rs)

-- what an act calls for besides frames
pub spoken : (s : Setting) (v : HistoryView) (a : Act) (now : ℕ → State) → Deliveries (said_at_once s v a ++ (lines_said s v a ++ tolds v now a))
spoken s v a now =
    deliveries_both (said_at_once s v a) (lines_said s v a ++ tolds v now a) (once_said s v a)
    (deliveries_both (lines_said s v a) (tolds v now a) (lines_all_said s v a) (tolds_said v now a v.waiting))

-- outcomes and lines may be called for
pub deliveries_said : (acts : List Act) → Deliveries acts → Saids acts
deliveries_said [] h = refl
deliveries_said (Told o ∷ acts) h = deliveries_said acts h
deliveries_said (Heard k d line ∷ acts) h = deliveries_said acts h
deliveries_said (Took r ∷ acts) h = absurd (let e : false ≡ true = h in cc)
deliveries_said (Got f ∷ acts) h = absurd (let e : false ≡ true = h in cc)
deliveries_said (Sent f ∷ acts) h = absurd (let e : false ≡ true = h in cc)
deliveries_said (Tick ∷ acts) h = absurd (let e : false ≡ true = h in cc)
deliveries_said (Lost ∷ acts) h = absurd (let e : false ≡ true = h in cc)
deliveries_said (Held d ∷ acts) h = absurd (let e : false ≡ true = h in cc)
deliveries_said (Freed d ∷ acts) h = absurd (let e : false ≡ true = h in cc)
deliveries_said (Given ∷ acts) h = absurd (let e : false ≡ true = h in cc)

-- the frames that it calls for are no data
pub frames_control : (s : Setting) (v : HistoryView) (a : Act) → Controls (frames s v a)
frames_control s v a = all_if is_control v.lost [] (frames_by s v a) refl (framed s v a)

-- what an act calls for is what a call may be called for
pub calls_said : (s : Setting) (v : HistoryView) (a : Act) → Saids (calls_seeing s v a)
calls_said s v a =
    let sent = map Sent (frames s v a) in
    let now = states_now s v (a ∷ sent) in
    let first : Saids sent = list_all-map is_said Sent (frames s v a) ∙ frames_control s v a in
    let deliveries = said_at_once s v a ++ (lines_said s v a ++ tolds v now a) in
    saids_both sent deliveries first (deliveries_said deliveries (spoken s v a now))

-- and no frames where it calls for none
pub calls_deliveries : (s : Setting) (v : HistoryView) (a : Act) → frames s v a ≡ [] → Deliveries (calls_seeing s v a)
calls_deliveries s v a e =
    let sent = map Sent (frames s v a) in
    let now = states_now s v (a ∷ sent) in
    let none : sent ≡ [] = ap (λ (fs : List Frame). map Sent fs) e in
    ap (λ (fs : List Act). list_all is_delivery (fs ++ (said_at_once s v a ++ (lines_said s v a ++ tolds v now a)))) none ∙ spoken s v a now
