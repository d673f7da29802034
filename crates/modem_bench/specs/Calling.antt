-- What the callers of a bench do.
use Rattle.std.specs.Prelude.{◌≡◌, ◌⊎◌, ℕ, List, [], ◌∷◌, ◌++◌, All, length, map}
use Rattle.std.specs.List.Sorted.{IsPermutation}
use Rattle.modem_desk.specs.declared.request.Ask.{Ask}
use Rattle.modem_desk.specs.declared.request.Ask.TheVariants as ask
use Rattle.modem_desk.specs.declared.request.Answer.TheVariants as answer
use Rattle.modem_desk.specs.declared.request.Outcome.{Outcome}
use Rattle.modem_desk.specs.Ends.{CallerView}
use Rattle.modem_bench.specs.Asks.{AreOpenings}
use Rattle.modem_bench.specs.declared.submission.Submission.{Submission}

-- what a caller asked for so far
abbrev pub asked : CallerView → List Ask
asked c = map (λ r. r.ask) c.submitted

-- the numbers of its requests so far
abbrev pub numbered : CallerView → List ℕ
numbered c = map (λ r. r.number) c.submitted

-- these outcomes answer the requests of these numbers, each the one at its place
abbrev pub AreAnswers : List ℕ → List Outcome → Type 0
AreAnswers numbers outcomes = map (λ (o : Outcome). o.number) outcomes ≡ numbers

-- what was taken is put behind these outcomes, and nothing else
abbrev pub PutsBehind : (old new : CallerView) → (before after : List Outcome) → Type 0
PutsBehind old new before after =
    (first : List Outcome) → old.got ≡ first ++ before → new.got ≡ first ++ after

-- the caller asked for these things more, in order, by requests of these numbers, and put what it took behind
-- these outcomes
pub record Asks (old new : CallerView) (asks : List Ask) (numbers : List ℕ) (before after : List Outcome) :
    Type 0 where
  pub place : new.place ≡ old.place
  pub asked_are : asked new ≡ asked old ++ asks
  pub numbers_are : numbered new ≡ numbered old ++ numbers
  pub puts : PutsBehind old new before after

-- the caller asked for these things more, in order; these are the outcomes that it took meanwhile, and each
-- answers the request for the thing at its place
pub record Works (old new : CallerView) (asks : List Ask) (outcomes : List Outcome) : Type 0 where
  pub place : new.place ≡ old.place
  pub asked_are : asked new ≡ asked old ++ asks
  pub numbers : List ℕ
  pub numbers_are : numbered new ≡ numbered old ++ numbers
  pub answers : AreAnswers numbers outcomes
  pub taken : List Outcome
  pub got : new.got ≡ old.got ++ taken
  pub same : IsPermutation taken outcomes

-- the caller asked for these openings more, in order, and each was told Opened
pub record Opens (old new : CallerView) (asks : List Ask) : Type 0 where
  pub place : new.place ≡ old.place
  pub asked_are : asked new ≡ asked old ++ asks
  pub told : List Outcome
  pub got : new.got ≡ old.got ++ told
  pub one_each : length told ≡ length asks
  pub opened : All (λ (o : Outcome). o.answer ≡ answer.Opened) told

-- the caller opened 0, and then each connection below n that the submissions are for, in rising order
pub record OpensAll (all : List Submission) (n : ℕ) (old new : CallerView) : Type 0 where
  pub openings : List Ask
  pub are_openings : AreOpenings all n openings
  pub opens : Opens old new openings

-- the caller asked for a Stop more, and was told Stopped or NoAnswer
pub record Stops (old new : CallerView) : Type 0 where
  pub place : new.place ≡ old.place
  pub asked_are : asked new ≡ asked old ++ ask.Stop ∷ []
  pub told : Outcome
  pub got : new.got ≡ old.got ++ told ∷ []
  pub ended : (told.answer ≡ answer.Stopped) ⊎ (told.answer ≡ answer.NoAnswer)
