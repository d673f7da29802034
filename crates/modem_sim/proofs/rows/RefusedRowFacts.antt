-- The histories of wrong simulated modems are refused.
use Rattle.std.specs.Prelude.{◌≡◌, ℕ, ◌==◌, true, false, List, [], ◌∷◌, Option, Some, None, length, nat_le, refl}
use Rattle.std.specs.Fmt.{digits}
use Rattle.std.proofs.lemmas.Bool.Decides.{nat_tests}
use Rattle.std.proofs.Common.{arith, ap, ◌∙◌, lit<}
use Rattle.at_cmds.specs.Params.{parameters, unquoted}
use Rattle.at_cmds.specs.Forms.{numeral_in}
use Rattle.at_cmds.specs.Values.{command_in, command_of}
use Rattle.mux_frame.specs.Frames.{Frame}
use Rattle.mux_station.specs.Written.{kind_place}
use Rattle.mux_station.specs.Sending.{StationLawful as LawfulThere, StationComplete as CompleteThere, Sends}
use Rattle.modem_sim.specs.HistoryRows.{plain, simulated, announcing, holding, asking, one, two, IsRefused, WrongAnswers, WrongSteps, WrongOtherwise, answered_twice, answered_unasked, modem_for_each, answered_early, repeated_unasked, not_repeated, unframed, answered_elsewhere, answered_held, answered_after_reopening, answered_while_stopped, done_early, done_twice, done_while_shut, announced_otherwise, closed_unasked, done_without_asking, marked_alone, offered_nothing, ticked, refused_opening, silent, without_msc}
use Rattle.modem_sim.specs.declared.script.Step.{Step}
use Rattle.modem_sim.specs.Acts.{after}
use Rattle.modem_sim.specs.Histories.{SimComplete, AllIsOut}

no : false ≡ true → ⊥
no is = cc

apart : (m n : ℕ) → m ≡ n → (m == n) ≡ false → ⊥
apart m n same other = grind (arith, nat_tests)

nothing_left : {A : Type 0} (x : A) (xs : List A) → [] ≡ x ∷ xs → ⊥
nothing_left x xs is = cc

twice_refused : IsRefused plain answered_twice
unfolding command_of command_in numeral_in unquoted parameters digits
twice_refused lawful = no lawful.acts.0.next

unasked_refused : IsRefused plain answered_unasked
unasked_refused lawful = no lawful.acts.0.next

each_refused : IsRefused plain modem_for_each
unfolding command_of command_in numeral_in unquoted parameters digits
each_refused lawful = no lawful.acts.0.next

early_refused : IsRefused plain answered_early
unfolding command_of command_in numeral_in unquoted parameters digits
early_refused lawful = no lawful.acts.0.next

repeated_refused : IsRefused plain repeated_unasked
unfolding command_of command_in numeral_in unquoted parameters digits
repeated_refused lawful = no lawful.acts.0.next

not_repeated_refused : IsRefused (simulated true []) not_repeated
unfolding command_of command_in numeral_in unquoted parameters digits
not_repeated_refused lawful = no lawful.acts.0.next

unframed_refused : IsRefused plain unframed
unfolding command_of command_in numeral_in unquoted parameters digits
unframed_refused lawful = no lawful.acts.0.next

elsewhere_refused : IsRefused plain answered_elsewhere
unfolding command_of command_in numeral_in unquoted parameters digits
elsewhere_refused lawful = no lawful.acts.0.next

held_refused : IsRefused holding answered_held
unfolding command_of command_in numeral_in unquoted parameters digits
held_refused lawful = no lawful.acts.0.next

reopened_refused : IsRefused plain answered_after_reopening
unfolding command_of command_in numeral_in unquoted parameters digits
reopened_refused lawful = no lawful.acts.0.next

stopped_refused : IsRefused plain answered_while_stopped
unfolding LawfulThere Sends
stopped_refused lawful = no lawful.at_station.0.goes

-- no history of a simulated modem that answers wrongly is lawful
pub wrong_answers : WrongAnswers
wrong_answers = (
  twice_refused,
  unasked_refused,
  each_refused,
  early_refused,
  repeated_refused,
  not_repeated_refused,
  unframed_refused,
  elsewhere_refused,
  held_refused,
  reopened_refused,
  stopped_refused,
)

-- when the first step is due
abbrev first_after : List Step → ℕ
first_after [] = 0
first_after (step ∷ steps) = step.after

early_step_refused : IsRefused (announcing 1 one) done_early
early_step_refused lawful =
    let due = lawful.acts.0.due in
    let first : false ≡ nat_le due.next.after 0 = ap (λ steps. nat_le (first_after steps) 0) due.is_first in
    no (first ∙ due.come)

twice_done_refused : IsRefused (announcing 0 one) done_twice
twice_done_refused lawful = nothing_left _ _ lawful.acts.0.due.is_first

shut_refused : IsRefused (announcing 0 two) done_while_shut
shut_refused lawful = no lawful.acts.0.due.open_are

otherwise_refused : IsRefused (announcing 0 one) announced_otherwise
otherwise_refused lawful = no lawful.acts.0.next

none_asked : {A : Type 0} (x : A) → (let o : Option A = None in o ≡ Some x) → ⊥
none_asked x is = cc

some_asked : {A : Type 0} (x : A) → (let o : Option A = None in Some x ≡ o) → ⊥
some_asked x is = cc

close_refused : IsRefused plain closed_unasked
close_refused lawful = none_asked _ lawful.acts.0.owed

without_asking_refused : IsRefused asking done_without_asking
without_asking_refused lawful = some_asked _ lawful.acts.0

-- nor is one of a modem that does its steps wrongly
pub wrong_steps : WrongSteps
wrong_steps = (early_step_refused, twice_done_refused, shut_refused, otherwise_refused, close_refused, without_asking_refused)

tick_refused : IsRefused plain ticked
tick_refused lawful = lawful.acts.0

-- the place of the first frame's kind
abbrev first_kind : List Frame → ℕ
first_kind [] = 5
first_kind (f ∷ fs) = kind_place f.kind

opening_refused : IsRefused plain refused_opening
unfolding LawfulThere Sends
opening_refused lawful = apart 1 2 (ap first_kind lawful.at_station.0.is_next) refl

-- where a command isn't answered not all is out
pub said_nothing : ¬ AllIsOut plain (after [] silent)
unfolding command_of command_in numeral_in unquoted parameters digits
said_nothing out = apart 0 6 (ap length (out 1 (lit< tt) refl refl refl)) refl

msc_missing : ¬ SimComplete plain (after [] without_msc)
unfolding CompleteThere
msc_missing complete = apart 1 0 (ap length complete.at_station) refl

mark_refused : IsRefused plain marked_alone
mark_refused lawful = lawful.acts.0.waits refl

offer_refused : IsRefused plain offered_nothing
offer_refused lawful = lawful.acts.0.some refl

-- nor one with a tick, a refused opening, a mark for nothing or an empty offer; without an answer or an MSC not all is done
pub wrong_otherwise : WrongOtherwise
wrong_otherwise = (tick_refused, opening_refused, mark_refused, offer_refused, said_nothing, msc_missing)
