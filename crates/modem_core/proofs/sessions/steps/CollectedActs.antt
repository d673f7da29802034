-- What is told and heard waits.
use Rattle.std.proofs.Common.{ap, sym, ◌∙◌, subst}
use Rattle.std.proofs.lemmas.Bool.{or_parts}
use Rattle.std.proofs.lemmas.List.{drop-map, take-append-drop, take-map}
use Rattle.std.proofs.lemmas.List.Folds.{list_any-append}
use Rattle.std.specs.Prelude.{◌≡◌, ◌+◌, ◌≤◌, ◌==◌, ◌&&◌, ◌||◌, Bool, true, false, List, [], ◌∷◌, ◌++◌, length, map, take, drop, refl, Option, Some, None, IfSome}
use Rattle.std.specs.List.{list_any}
use Rattle.mux_frame.specs.Frames.{Frame}
use Rattle.modem_desk.specs.declared.request.Urc.{Urc}
use Rattle.modem_desk.specs.declared.request.Outcome.{Outcome}
use Rattle.modem_history.specs.Acts.{Act, Took, Got, Sent, Told, Heard, Tick, Lost, Held, Freed, Given}
use Rattle.modem_history.specs.Sessions.{heard_as}
use Rattle.modem_history.specs.Turns.{outcomes_told, lines_heard}
use Rattle.modem_queues.specs.declared.asker.Asker.{Asker}
use Rattle.modem_queues.specs.Stops.{ends_stop, is_answered, is_end_of}
use Rattle.modem_core.specs.declared.settling.Answered.{Answered}
use Rattle.modem_core.specs.Cores.{Core}
use Rattle.modem_core.specs.Doing.{Adds, GetsData, stop_in}
use Rattle.modem_core.specs.Receiving.{Brings}
use Rattle.modem_core.specs.Settling.{with_told}
use Rattle.modem_core.specs.WaitingLists.{WaitingLists}
use Rattle.modem_core.proofs.sessions.steps.ListenedLines.{heard_both}

-- the outcomes of joined acts are joined
pub told_both : (xs ys : List Act) → outcomes_told (xs ++ ys) ≡ outcomes_told xs ++ outcomes_told ys
told_both [] ys = refl
told_both (Told o ∷ xs) ys = ap (λ (os : List Outcome). o ∷ os) (told_both xs ys)
told_both (Took r ∷ xs) ys = told_both xs ys
told_both (Got f ∷ xs) ys = told_both xs ys
told_both (Sent f ∷ xs) ys = told_both xs ys
told_both (Heard k d line ∷ xs) ys = told_both xs ys
told_both (Tick ∷ xs) ys = told_both xs ys
told_both (Lost ∷ xs) ys = told_both xs ys
told_both (Held d ∷ xs) ys = told_both xs ys
told_both (Freed d ∷ xs) ys = told_both xs ys
told_both (Given ∷ xs) ys = told_both xs ys

-- ## What data of an open connection brings

-- what is told by it
abbrev pub told_then : Option Answered → List Outcome
told_then None = []
told_then (Some a) = a.outcome ∷ []

all_heard : (us : List Urc) → lines_heard (map heard_as us) ≡ map heard_as us
all_heard [] = refl
all_heard (u ∷ us) = ap (λ (acts : List Act). heard_as u ∷ acts) (all_heard us)

lines_untold : (us : List Urc) → outcomes_told (map heard_as us) ≡ []
lines_untold [] = refl
lines_untold (u ∷ us) = lines_untold us

no_line_ends : (s : Asker) (us : List Urc) → list_any (is_end_of s) (map heard_as us) ≡ false
no_line_ends s [] = refl
no_line_ends s (u ∷ us) = no_line_ends s us

-- an outcome among lines is no line
heard_beside : (answered : Option Answered) (heard : List Act) → lines_heard (with_told answered heard) ≡ lines_heard heard
heard_beside None heard = refl
heard_beside (Some a) heard =
    heard_both (take a.place heard) (Told a.outcome ∷ drop a.place heard)
    ∙ (sym (heard_both (take a.place heard) (drop a.place heard)) ∙ ap lines_heard (take-append-drop a.place heard))

-- and all that is told
told_beside : (answered : Option Answered) (us : List Urc) → outcomes_told (with_told answered (map heard_as us)) ≡ told_then answered
told_beside None us = lines_untold us
told_beside (Some a) us =
    let before : outcomes_told (take a.place (map heard_as us)) ≡ [] = ap outcomes_told (take-map heard_as a.place us) ∙ lines_untold (take a.place us) in
    let behind : outcomes_told (drop a.place (map heard_as us)) ≡ [] = ap outcomes_told (drop-map heard_as a.place us) ∙ lines_untold (drop a.place us) in
    told_both (take a.place (map heard_as us)) (Told a.outcome ∷ drop a.place (map heard_as us))
    ∙ (ap (λ (os : List Outcome). os ++ a.outcome ∷ outcomes_told (drop a.place (map heard_as us))) before
    ∙ ap (λ (os : List Outcome). a.outcome ∷ os) behind)

ends_so : (s : Asker) (acts : List Act) (o : Outcome) → ends_stop o.answer ≡ false → list_any (is_end_of s) (Told o ∷ acts) ≡ list_any (is_end_of s) acts
ends_so s acts o e = ap (λ (b : Bool). (((s.caller == o.caller) && (s.number == o.number)) && b) || list_any (is_end_of s) acts) e ∙ ap (λ (b : Bool). b || list_any (is_end_of s) acts) (and_false ((s.caller == o.caller) && (s.number == o.number)))
  where
    and_false : (b : Bool) → (b && false) ≡ false
    and_false true = refl
    and_false false = refl

-- it ends no Stop
ends_beside : (s : Asker) (answered : Option Answered) (us : List Urc) → IfSome answered (λ a. ends_stop a.outcome.answer ≡ false) → list_any (is_end_of s) (with_told answered (map heard_as us)) ≡ false
ends_beside s None us e = no_line_ends s us
ends_beside s (Some a) us e =
    let before : list_any (is_end_of s) (take a.place (map heard_as us)) ≡ false = ap (list_any (is_end_of s)) (take-map heard_as a.place us) ∙ no_line_ends s (take a.place us) in
    let behind : list_any (is_end_of s) (drop a.place (map heard_as us)) ≡ false = ap (list_any (is_end_of s)) (drop-map heard_as a.place us) ∙ no_line_ends s (drop a.place us) in
    list_any-append (is_end_of s) (take a.place (map heard_as us)) (Told a.outcome ∷ drop a.place (map heard_as us))
    ∙ (ap (λ (b : Bool). b || list_any (is_end_of s) (Told a.outcome ∷ drop a.place (map heard_as us))) before
    ∙ (ends_so s (drop a.place (map heard_as us)) a.outcome e ∙ behind))

-- what the lines and the answer of a frame told and announced waits behind what waited
pub gets_data : (old new : Core) (f : Frame) (was now : WaitingLists) (answered : Option Answered) → Brings old new f (map heard_as was.lines) (with_told answered (map heard_as now.lines))
    → IfSome answered (λ a. ends_stop a.outcome.answer ≡ false) → Adds was.outcomes now.outcomes (told_then answered) → GetsData old new was now (Got f)
gets_data old new f was now answered b none adds = record {
  acts = Got f ∷ b.said;
  past = b.past;
  holds = b.holds;
  keeps = record {
    outcomes = λ few. adds (subst (λ (os : List Outcome). length was.outcomes + length os ≤ 128) told few) ∙ ap (λ (os : List Outcome). was.outcomes ++ os) (sym told);
    lines =
        sym (all_heard now.lines)
        ∙ (sym (heard_beside answered (map heard_as now.lines))
        ∙ (ap lines_heard b.now_is
        ∙ (heard_both (map heard_as was.lines) b.said ∙ ap (λ (acts : List Act). acts ++ lines_heard b.said) (all_heard was.lines))));
  };
  answered_is = by_stop (stop_in old);
}
  where
    told : outcomes_told b.said ≡ told_then answered
    told =
        sym (ap (λ (os : List Outcome). os ++ outcomes_told b.said) (lines_untold was.lines))
        ∙ (sym (told_both (map heard_as was.lines) b.said) ∙ (sym (ap outcomes_told b.now_is) ∙ told_beside answered now.lines))

    by_stop : (stop : Option Asker) → is_answered stop (Got f ∷ b.said) ≡ false
    by_stop None = refl
    by_stop (Some s) =
        (or_parts (list_any (is_end_of s) (map heard_as was.lines)) (list_any (is_end_of s) b.said)
        (sym (list_any-append (is_end_of s) (map heard_as was.lines) b.said) ∙ (sym (ap (list_any (is_end_of s)) b.now_is) ∙ ends_beside s answered now.lines none))).1
