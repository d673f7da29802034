-- A turn handles one frame at most.
use Rattle.std.proofs.Common.{ap, sym, ◌∙◌, arith}
use Rattle.std.proofs.lemmas.Bool.{and_parts}
use Rattle.std.proofs.lemmas.List.{append_assoc, append-nil, length-append}
use Rattle.std.specs.Prelude.{◌≡◌, ℕ, ◌+◌, ◌≤◌, false, true, List, [], ◌∷◌, ◌++◌, length, refl}
use Rattle.std.specs.List.{list_all}
use Rattle.mux_frame.specs.Frames.{Frame}
use Rattle.modem_history.specs.Acts.{Act, Took, Got, Sent, Told, Heard, Tick, Lost, Held, Freed, Given}
use Rattle.modem_history.specs.Sessions.{gots}
use Rattle.modem_history.specs.Wholes.{is_said}
use Rattle.modem_history.proofs.calls.CalledActs.{Saids}

-- of a past the frames that came earlier come first
pub got_both : (xs ys : List Act) → gots (xs ++ ys) ≡ gots ys ++ gots xs
got_both [] ys = sym (append-nil (gots ys))
got_both (Got f ∷ xs) ys = ap (λ (fs : List Frame). fs ++ f ∷ []) (got_both xs ys) ∙ append_assoc (gots ys) (gots xs) (f ∷ [])
got_both (Took r ∷ xs) ys = got_both xs ys
got_both (Sent f ∷ xs) ys = got_both xs ys
got_both (Told o ∷ xs) ys = got_both xs ys
got_both (Heard k d line ∷ xs) ys = got_both xs ys
got_both (Tick ∷ xs) ys = got_both xs ys
got_both (Lost ∷ xs) ys = got_both xs ys
got_both (Held d ∷ xs) ys = got_both xs ys
got_both (Freed d ∷ xs) ys = got_both xs ys
got_both (Given ∷ xs) ys = got_both xs ys

-- in two stretches there are no more than in each together
pub few_both : (xs ys : List Act) (n m : ℕ) → length (gots xs) ≤ n → length (gots ys) ≤ m → length (gots (xs ++ ys)) ≤ n + m
few_both xs ys n m few more = let all = ap length (got_both xs ys) ∙ length-append (gots ys) (gots xs) in omega arith

-- and none where there are none in either
pub none_both : (xs ys : List Act) → gots xs ≡ [] → gots ys ≡ [] → gots (xs ++ ys) ≡ []
none_both xs ys none more = got_both xs ys ∙ (ap (λ (fs : List Frame). fs ++ gots xs) more ∙ none)

out : {P : Type 0} → false ≡ true → P
out e = cc

-- what a call says has no frame that came
pub said_none : (more : List Act) → Saids more → gots more ≡ []
said_none [] h = refl
said_none (Sent f ∷ more) h = said_none more (and_parts (is_said (Sent f)) (list_all is_said more) h).1
said_none (Told o ∷ more) h = said_none more h
said_none (Heard k d line ∷ more) h = said_none more h
said_none (Took r ∷ more) h = out h
said_none (Got f ∷ more) h = out h
said_none (Tick ∷ more) h = out h
said_none (Lost ∷ more) h = out h
said_none (Held d ∷ more) h = out h
said_none (Freed d ∷ more) h = out h
said_none (Given ∷ more) h = out h

-- so it has no more than any number
pub said_few : (more : List Act) (n : ℕ) → Saids more → length (gots more) ≤ n
said_few more n h = let none = ap length (said_none more h) in omega arith

-- a frame that came and what was said of it are one frame
pub one_few : (f : Frame) (more : List Act) → Saids more → length (gots (Got f ∷ more)) ≤ 1
one_few f more h = let all = ap (λ (fs : List Frame). length (fs ++ f ∷ [])) (said_none more h) in omega arith
