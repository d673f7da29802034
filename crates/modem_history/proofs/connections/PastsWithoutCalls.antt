-- Information, lines and places are the same without the calls of a station's user.
use Rattle.std.specs.Prelude.{◌≡◌, ℕ, ◌+◌, ◌&&◌, Bool, false, List, [], ◌∷◌, ◌++◌, length, map, drop, refl, if◌then◌else◌}
use Rattle.std.proofs.Common.{ap, ◌∙◌}
use Rattle.mux_frame.specs.Frames.{Frame}
use Rattle.mux_station.specs.declared.role.Role.{Role}
use Rattle.mux_station.specs.Acts.{Act, Called, Got, Sent, Tick, Lost, Given}
use Rattle.mux_station.specs.Opening.{since, is_asked, is_open, opens, opens_now}
use Rattle.mux_station.specs.Traces.{without_calls}
use Rattle.mux_station.proofs.law_proofs.PastsWithoutCalls.{same_asked, same_open, same_since}
use Rattle.at_text.specs.Lines.{lines, kept_run}
use Rattle.at_text.specs.Windows.{Mark, Line, Begun}
use Rattle.modem_history.specs.Connections.{carries, info_of, info_got, info_sent, information_got, information_sent, lines_ended, lines_with, lines_got, with_cr, whole_in, wholly_sent, commands_ended, placed, NeedsNoCalls}

-- ## Information

got_alike : (d : ℕ) (acts : List Act) → info_got d (without_calls acts) ≡ info_got d acts
got_alike d [] = refl
got_alike d (Called c ∷ acts) = got_alike d acts
got_alike d (Got f ∷ acts) = ap (λ (v : List ℕ). v ++ info_of d f) (got_alike d acts)
got_alike d (Sent f ∷ acts) = got_alike d acts
got_alike d (Tick ∷ acts) = got_alike d acts
got_alike d (Lost ∷ acts) = got_alike d acts
got_alike d (Given ∷ acts) = got_alike d acts

sent_alike : (d : ℕ) (acts : List Act) → info_sent d (without_calls acts) ≡ info_sent d acts
sent_alike d [] = refl
sent_alike d (Called c ∷ acts) = sent_alike d acts
sent_alike d (Sent f ∷ acts) = ap (λ (v : List ℕ). v ++ info_of d f) (sent_alike d acts)
sent_alike d (Got f ∷ acts) = sent_alike d acts
sent_alike d (Tick ∷ acts) = sent_alike d acts
sent_alike d (Lost ∷ acts) = sent_alike d acts
sent_alike d (Given ∷ acts) = sent_alike d acts

all_got : (r : Role) (d : ℕ) (past : List Act) → information_got r d (without_calls past) ≡ information_got r d past
all_got r d past = ap (info_got d) (same_since r d past) ∙ got_alike d (since r d past)

all_sent : (r : Role) (d : ℕ) (past : List Act) → information_sent r d (without_calls past) ≡ information_sent r d past
all_sent r d past = ap (info_sent d) (same_since r d past) ∙ sent_alike d (since r d past)

-- ## Lines

open_alike : (r : Role) (d : ℕ) (past : List Act) → is_open r d (without_calls past) ≡ is_open r d past
open_alike r d past = same_open r d past

opens_alike : (r : Role) (d : ℕ) (past : List Act) (a : Act) → opens_now r d (without_calls past) a ≡ opens_now r d past a
opens_alike r d past a =
    ap (λ (z : Bool). opens r z (is_asked r d (without_calls past)) d a) (same_open r 0 past)
    ∙ ap (λ (k : Bool). opens r (is_open r 0 past) k d a) (same_asked r d past)

ended_alike : (r : Role) (d : ℕ) (past : List Act) (f : Frame) → lines_ended r d (without_calls past) f ≡ lines_ended r d past f
ended_alike r d past f = ap (λ (v : List ℕ). lines (kept_run v ++ f.info)) (all_got r d past)

with_alike : (r : Role) (past : List Act) (f : Frame) → lines_with r (without_calls past) f ≡ lines_with r past f
with_alike r past f =
    ap (λ (b : Bool). if carries f.dlci f && b then map (λ (l : List ℕ). (f.dlci, l)) (lines_ended r f.dlci (without_calls past) f) else []) (open_alike r f.dlci past)
    ∙ ap (λ (ls : List (List ℕ)). if carries f.dlci f && is_open r f.dlci past then map (λ (l : List ℕ). (f.dlci, l)) ls else []) (ended_alike r f.dlci past f)

lines_alike : (r : Role) (past : List Act) → lines_got r (without_calls past) ≡ lines_got r past
lines_alike r [] = refl
lines_alike r (Called c ∷ past) = lines_alike r past
lines_alike r (Sent f ∷ past) = lines_alike r past
lines_alike r (Tick ∷ past) = lines_alike r past
lines_alike r (Lost ∷ past) = lines_alike r past
lines_alike r (Given ∷ past) = lines_alike r past
lines_alike r (Got f ∷ past) =
    ap (λ (v : List (ℕ × List ℕ)). v ++ lines_with r (without_calls past) f) (lines_alike r past) ∙ ap (λ (v : List (ℕ × List ℕ)). lines_got r past ++ v) (with_alike r past f)

-- ## Places

ended_by : (r : Role) (d : ℕ) (cs : List (List ℕ)) (past : List Act) (f : Frame) → commands_ended r d cs (without_calls past) f ≡ commands_ended r d cs past f
ended_by r d cs past f =
    ap (λ (out : List ℕ). drop (whole_in (length out) (with_cr cs)) (wholly_sent (length out + length f.info) cs)) (all_sent r d past)

-- by whether d opens, and is open
got_place : (o p b c : Bool) (ms ns xs ys : List Mark) → o ≡ p → b ≡ c → ms ≡ ns → xs ≡ ys
    → (if o then [] else (if b then ms ++ xs else ms)) ≡ (if p then [] else (if c then ns ++ ys else ns))
got_place o p b c ms ns xs ys e f g h =
    ap (λ (x : Bool). if x then [] else (if b then ms ++ xs else ms)) e
    ∙ (ap (λ (x : Bool). if p then [] else (if x then ms ++ xs else ms)) f
    ∙ (ap (λ (v : List Mark). if p then [] else (if c then v ++ xs else v)) g ∙ ap (λ (v : List Mark). if p then [] else (if c then ns ++ v else ns)) h))

carried_alike : (r : Role) (d : ℕ) (past : List Act) (f : Frame) → (carries d f && is_open r d (without_calls past)) ≡ (carries d f && is_open r d past)
carried_alike r d past f = ap (λ (b : Bool). carries d f && b) (open_alike r d past)

placed_alike : (r : Role) (d : ℕ) (cs : List (List ℕ)) (past : List Act) → placed r d cs (without_calls past) ≡ placed r d cs past
placed_alike r d cs [] = refl
placed_alike r d cs (Called c ∷ past) = placed_alike r d cs past
placed_alike r d cs (Tick ∷ past) = placed_alike r d cs past
placed_alike r d cs (Lost ∷ past) = placed_alike r d cs past
placed_alike r d cs (Given ∷ past) = placed_alike r d cs past
placed_alike r d cs (Got f ∷ past) =
    got_place (opens_now r d (without_calls past) (Got f)) (opens_now r d past (Got f)) (carries d f && is_open r d (without_calls past)) (carries d f && is_open r d past)
    (placed r d cs (without_calls past)) (placed r d cs past) (map Line (lines_ended r d (without_calls past) f)) (map Line (lines_ended r d past f))
    (opens_alike r d past (Got f)) (carried_alike r d past f) (placed_alike r d cs past) (ap (map Line) (ended_alike r d past f))
placed_alike r d cs (Sent f ∷ past) =
    got_place false false (carries d f && is_open r d (without_calls past)) (carries d f && is_open r d past)
    (placed r d cs (without_calls past)) (placed r d cs past) (map Begun (commands_ended r d cs (without_calls past) f)) (map Begun (commands_ended r d cs past f))
    refl (carried_alike r d past f) (placed_alike r d cs past) (ap (map Begun) (ended_by r d cs past f))

-- information, lines and places on all connections are the same with a station's calls and without
pub needs_no_calls : (r : Role) (past : List Act) → NeedsNoCalls r past
unfolding NeedsNoCalls
needs_no_calls r past = record {
  got_same = λ d. all_got r d past;
  sent_same = λ d. all_sent r d past;
  lines_same = lines_alike r past;
  placed_same = λ d cs. placed_alike r d cs past;
}
