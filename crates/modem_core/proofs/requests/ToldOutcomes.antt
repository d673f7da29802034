-- The outcomes of requests in hand are put behind those that wait, without memory.
use Rattle.std.specs.Prelude.{◌≡◌, ℕ, ◌+◌, ◌-◌, ◌<◌, ◌≤◌, ◌||◌, Bool, true, false, List, [], ◌∷◌, ◌++◌, length, map, refl, Option, Some, None, remove, slice_index_or}
use Rattle.std.specs.List.{list_any}
use Rattle.std.proofs.Common.{ap, sym, ◌∙◌, arith}
use Rattle.std.proofs.lemmas.List.{map-append, append_assoc, length-append}
use Rattle.modem_desk.specs.declared.request.Request.{Request}
use Rattle.modem_desk.specs.declared.request.Outcome.{Outcome}
use Rattle.modem_desk.specs.declared.request.Answer.{Answer}
use Rattle.modem_history.specs.declared.act.Act as code
use Rattle.modem_history.specs.declared.act.Act.TheVariants as act
use Rattle.modem_history.specs.Acts.{Act, Told, act_of}
use Rattle.modem_history.specs.Turns.{outcomes_told}
use Rattle.modem_queues.specs.declared.asker.Asker.{Asker}
use Rattle.modem_core.specs.ActLists.{ActList}
use Rattle.modem_core.specs.Doing.{Adds, outcomes_to, TellingOn}
use Rattle.modem_queues.specs.Stops.{is_answered, is_end_of}
use Rattle.modem_core.specs.Telling.{said_to, told_to, left_by, Telling}
use Rattle.modem_core.proofs.requests.ToldRequests.{Words, begins, waits_on, told_on}
use Rattle.modem_core.proofs.sessions.steps.CollectedActs.{told_both}

-- before the first is looked at
pub begins_on : (says : Words) (stop : Option Asker) (hand : List Request) (told : List Outcome) → TellingOn says stop 0 hand hand told told false
begins_on says stop hand told = record {
  acts = record { acts = []; left = length hand };
  telling = begins says hand (record { acts = []; left = length hand }) (omega arith);
  answered_is = none stop;
  told_is = λ few. sym (append-nil told);
}
  where
    none : (s : Option Asker) → false ≡ is_answered s []
    none None = refl
    none (Some s) = refl

    append-nil : (xs : List Outcome) → xs ++ [] ≡ xs
    append-nil [] = refl
    append-nil (x ∷ xs) = ap (λ (ys : List Outcome). x ∷ ys) (append-nil xs)

-- the next is told nothing, and stays
pub waits_further : (says : Words) (stop : Option Asker) (place : ℕ) (hand hand0 : List Request) (told told0 : List Outcome) (answered : Bool) → TellingOn says stop place hand hand0 told told0 answered → place < length hand
    → (d : Request) → says (slice_index_or hand place d).ask ≡ None → TellingOn says stop (place + 1) hand hand0 told told0 answered
waits_further says stop place hand hand0 told told0 answered t l d none = record {
  acts = t.acts;
  telling = waits_on says place hand hand0 t.acts (record { acts = []; left = length hand0 }) t.telling l d none;
  answered_is = t.answered_is;
  told_is = t.told_is;
}

either_both : (p : Act → Bool) (xs ys : List Act) → list_any p (xs ++ ys) ≡ (list_any p xs || list_any p ys)
either_both p [] ys = refl
either_both p (x ∷ xs) ys = by_first (p x) (either_both p xs ys)
  where
    by_first : (b : Bool) → list_any p (xs ++ ys) ≡ (list_any p xs || list_any p ys) → (b || list_any p (xs ++ ys)) ≡ ((b || list_any p xs) || list_any p ys)
    by_first true h = refl
    by_first false h = h

-- joined acts end the Stop where the first or the second do
pub answered_both : (stop : Option Asker) (xs ys : List Act) → is_answered stop (xs ++ ys) ≡ (is_answered stop xs || is_answered stop ys)
answered_both None xs ys = refl
answered_both (Some s) xs ys = either_both (is_end_of s) xs ys

outcomes_both : (xs ys : List code.Act) → outcomes_told (map act_of (xs ++ ys)) ≡ outcomes_told (map act_of xs) ++ outcomes_told (map act_of ys)
outcomes_both xs ys = ap outcomes_told (map-append act_of xs ys) ∙ told_both (map act_of xs) (map act_of ys)

-- the next is told this, and its outcome is put behind the others
pub told_further : (says : Words) (stop : Option Asker) (place : ℕ) (hand hand0 : List Request) (told told0 : List Outcome) (answered : Bool) → TellingOn says stop place hand hand0 told told0 answered → place < length hand
    → (q r : Request) (answer : Answer) (left : List Request) (now : List Outcome) (also : Bool) → q ≡ slice_index_or hand place q → says q.ask ≡ Some answer → r ≡ slice_index_or hand place r → left ≡ remove hand place
    → (o : Outcome) → o ≡ record { caller = r.caller; number = r.number; answer = answer }
    → (length told < 128 → now ≡ told ++ o ∷ []) → also ≡ (answered || is_answered stop (Told o ∷ []))
    → TellingOn says stop place left hand0 now told0 also
told_further says stop place hand hand0 told told0 answered t l q r answer left now also looked some taken rest o is put ends =
    let first : ActList = record { acts = []; left = length hand0 } in
    let more : ActList = record { acts = t.acts.acts ++ act.Told o ∷ []; left = t.acts.left - 1 } in
    let on : Telling says place left hand0 more first
    = told_on says place hand hand0 t.acts first t.telling l q r answer left more looked some taken rest (ap (λ (x : Outcome). let m : ActList = record { acts = t.acts.acts ++ act.Told x ∷ []; left = t.acts.left - 1 } in m) is) in
    let grown : outcomes_told (map act_of more.acts) ≡ outcomes_told (map act_of t.acts.acts) ++ o ∷ [] = outcomes_both t.acts.acts (act.Told o ∷ []) in
    let whole : outcomes_told (map act_of more.acts) ++ outcomes_to says on.back ≡ outcomes_to says hand0
    = sym (outcomes_both more.acts (told_to says on.back)) ∙ ap (λ (xs : List code.Act). outcomes_told (map act_of xs)) on.acts_same in
    let one = ap (length {A = Outcome}) grown ∙ length-append (outcomes_told (map act_of t.acts.acts)) (o ∷ []) in
    let all = sym (length-append (outcomes_told (map act_of more.acts)) (outcomes_to says on.back)) ∙ ap (length {A = Outcome}) whole in
    record {
      acts = more;
      telling = on;
      answered_is = ends
          ∙ (ap (λ (b : Bool). b || is_answered stop (Told o ∷ [])) t.answered_is
          ∙ (sym (answered_both stop (map act_of t.acts.acts) (Told o ∷ [])) ∙ ap (is_answered stop) (sym (map-append act_of t.acts.acts (act.Told o ∷ [])))));
      told_is = λ few.
          let before = t.told_is few in
          let long = ap (length {A = Outcome}) before ∙ length-append told0 (outcomes_told (map act_of t.acts.acts)) in
          put (omega arith)
          ∙ (ap (λ (x : List Outcome). x ++ o ∷ []) before
          ∙ (append_assoc told0 (outcomes_told (map act_of t.acts.acts)) (o ∷ []) ∙ ap (λ (x : List Outcome). told0 ++ x) (sym grown)));
    }

-- all were told
pub record AllToldOn (says : Words) (stop : Option Asker) (hand hand0 : List Request) (told told0 : List Outcome) (answered : Bool) : Type 0 where
  pub left_is : hand ≡ left_by says hand0
  pub adds : Adds told0 told (outcomes_to says hand0)
  pub answered_is : answered ≡ is_answered stop (map act_of (told_to says hand0))

-- the acts that tell them are their outcomes
pub told_back : (says : Words) (rs : List Request) → map Told (outcomes_to says rs) ≡ map act_of (told_to says rs)
told_back says [] = refl
told_back says (r ∷ rs) = by_said (says r.ask) (told_back says rs)
  where
    by_said : (o : Option Answer) → map Told (outcomes_to says rs) ≡ map act_of (told_to says rs)
        → map Told (outcomes_told (map act_of (said_to r o ++ told_to says rs))) ≡ map act_of (said_to r o ++ told_to says rs)
    by_said None h = h
    by_said (Some answer) h = ap (λ (x : List Act). Told (record { caller = r.caller; number = r.number; answer = answer }) ∷ x) h

-- they are no more than the requests
pub few_outcomes : (says : Words) (rs : List Request) → length (outcomes_to says rs) ≤ length rs
few_outcomes says [] = omega arith
few_outcomes says (r ∷ rs) = by_said (says r.ask) (few_outcomes says rs)
  where
    by_said : (o : Option Answer) → length (outcomes_to says rs) ≤ length rs → length (outcomes_told (map act_of (said_to r o ++ told_to says rs))) ≤ length (r ∷ rs)
    by_said None h = omega (arith, h)
    by_said (Some answer) h = omega (arith, h)
