-- A responder's answers UA and DM, and the SABM that is answered first.
use Rattle.std.specs.Prelude.{◌≡◌, ℕ, ◌==◌, ◌≤◌, ◌&&◌, ◌||◌, not, Bool, true, false, List, [], ◌∷◌, Option, Some, refl, if◌then◌else◌}
use Rattle.std.proofs.Common.{ap, arith, ◌∙◌}
use Rattle.std.proofs.lemmas.Bool.{and_from}
use Rattle.mux_frame.specs.Frames.{Frame}
use Rattle.mux_frame.specs.declared.frame.Kind.TheVariants.{Sabm, Ua, Dm}
use Rattle.mux_station.specs.declared.role.Role.TheVariants.{Responder}
use Rattle.mux_station.specs.Acts.{Act, Got}
use Rattle.mux_station.proofs.states.OpeningSteps.{is_open_after}
use Rattle.mux_station.specs.Opening.{ends, is_open}
use Rattle.mux_station.specs.Written.{is_kind, is_on}
use Rattle.modem_show.specs.Asking.{Ask, is_mode_answer, is_mode_command}
use Rattle.modem_show.specs.Ends.{handled}
use Rattle.show_laws.proofs.counts.ManyFrames.{many, unit}

-- d is open at a responder of this past
abbrev pub open_m : ℕ → List Act → Bool
open_m d past = is_open Responder d past

-- 0 is
abbrev pub zero_m : ℕ → List Act → Bool
zero_m d past = is_open Responder 0 past

-- a UA or DM on d; a SABM or DISC on d
abbrev pub answer_on : ℕ → Frame → Bool
answer_on d g = is_mode_answer g && (g.dlci == d)

-- a SABM or DISC on d
abbrev pub ask_on : ℕ → Frame → Bool
ask_on d f = is_mode_command f && (f.dlci == d)

ua_answers : (d : ℕ) (f : Frame) → unit (is_on Ua d f) ≤ unit (answer_on d f)
ua_answers d f = fewer (is_kind f.kind Ua) (is_kind f.kind Dm) (f.dlci == d)
  where
    fewer : (a b c : Bool) → unit (a && c) ≤ unit ((a || b) && c)
    fewer true b c = omega arith
    fewer false b c = omega arith

-- each UA on d is one of the UA and DM on it
pub uas_fewer : (d : ℕ) (fs : List Frame) → many (is_on Ua d) fs ≤ many (answer_on d) fs
uas_fewer d [] = omega arith
uas_fewer d (f ∷ fs) = let x = ua_answers d f in let y = uas_fewer d fs in omega (arith, x, y)

-- the ask that is answered: a SABM on d that wasn't answered before
pub record IsSabm (d : ℕ) (o : Option Ask) : Type 0 where
  pub ask : Ask
  pub is : o ≡ Some ask
  pub sabm : is_on Sabm d ask.frame ≡ true
  pub new : ask.is_excused ≡ false

-- an ask that is answered and isn't excused was read just then
pub read_alone : (o : Option Ask) (a : Ask) → o ≡ Some a → a.is_excused ≡ false → handled o ≡ Got a.frame ∷ []
read_alone o a e new = ap handled e ∙ ap (λ (b : Bool). if b then [] else Got a.frame ∷ []) (second (is_mode_command a.frame) a.is_excused new)
  where
    second : (x y : Bool) → y ≡ false → (x && y) ≡ false
    second true y e = e
    second false y e = refl

-- a SABM on d that comes to a responder opens d, if d is 0 or 0 is open
pub opened_there : (d : ℕ) (f : Frame) (q : List Act) → is_on Sabm d f ≡ true → ((d == 0) || zero_m d q) ≡ true → open_m d (Got f ∷ q) ≡ true
opened_there d f q is z = is_open_after Responder d q (Got f) ∙ ap (λ (b : Bool). b || (open_m d q && not (ends (zero_m d q) d (Got f)))) (and_from (is_on Sabm d f) ((d == 0) || zero_m d q) is z)
