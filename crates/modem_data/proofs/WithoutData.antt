-- A relay without connections of data passes frames as they come and go.
use Rattle.std.specs.Prelude.{◌≡◌, ℕ, ◌==◌, ◌&&◌, true, false, Bool, List, [], ◌∷◌, ◌++◌, refl}
use Rattle.std.proofs.Common.{ap, sym, ◌∙◌, arith}
use Rattle.std.proofs.lemmas.List.{append-nil}
use Rattle.mux_frame.specs.Frames.{Frame}
use Rattle.mux_station.specs.declared.role.Role.{Role}
use Rattle.modem_data.specs.Switching.{Idle}
use Rattle.modem_data.specs.Passing.{Pass, Came, Went, Flowed, Left, Lost, Began, EndedLane, Gave, Read, is_info, carries, LawfulPasses}
use Rattle.modem_data.specs.Hops.{Hop, Fed, Handed, Took, Wrote, Passed, LawfulHops, PassesAll, AddsNothing, passes, came, due, for_driver, for_line, went}
use Rattle.modem_data.specs.PipeSets.{IsPlain}
use Rattle.modem_data.proofs.PipeSets.{plain_came, plain_went, plain_flowed, plain_due}
use Rattle.modem_data.proofs.PipeSetCalls.{still_idle}

plain : (role : Role) (n1 : ℕ) (past : List Hop) → LawfulHops role n1 [] past → LawfulPasses role n1 (passes past) → (e : ℕ) → IsPlain role e (passes past)
unfolding LawfulHops LawfulPasses
plain role n1 [] h k e = record { idle = refl; held_is = refl }
plain role n1 (Passed (Came f) ∷ past) h k e = plain_came role e (passes past) f (plain role n1 past h.1 k.1 e)
plain role n1 (Passed (Went f) ∷ past) h k e = plain_went role e (passes past) f (plain role n1 past h.1 k.1 e)
plain role n1 (Passed (Flowed f) ∷ past) h k e = plain_flowed role n1 e (passes past) f k.0 (plain role n1 past h.1 k.1 e)
plain role n1 (Passed (Left f) ∷ past) h k e = let p = plain role n1 past h.1 k.1 e in record { idle = p.idle; held_is = p.held_is }
plain role n1 (Passed Lost ∷ past) h k e = let p = plain role n1 past h.1 k.1 e in record { idle = refl; held_is = p.held_is }
plain role n1 (Passed (Began d how until) ∷ past) h k e = let none = h.0.there in absurd (omega (arith, none))
plain role n1 (Passed (EndedLane d) ∷ past) h k e = let p = plain role n1 past h.1 k.1 e in record { idle = still_idle (d == e) (carries role e (passes past)) p.idle; held_is = p.held_is }
plain role n1 (Passed (Gave d octets) ∷ past) h k e = let p = plain role n1 past h.1 k.1 e in record { idle = p.idle; held_is = p.held_is }
plain role n1 (Passed (Read d octets) ∷ past) h k e = let p = plain role n1 past h.1 k.1 e in record { idle = p.idle; held_is = p.held_is }
plain role n1 (Fed octets ∷ past) h k e = plain role n1 past h.1 k e
plain role n1 (Handed octets ∷ past) h k e = plain role n1 past h.1 k e
plain role n1 (Took octets ∷ past) h k e = plain role n1 past h.1 k e
plain role n1 (Wrote octets ∷ past) h k e = plain role n1 past h.1 k e

nothing : (x : Bool) → x && false ≡ false
nothing true = refl
nothing false = refl

due_all : (role : Role) (p : List Pass) (f : Frame) → carries role f.dlci p ≡ Idle → due role p f ≡ f ∷ []
due_all role p f e = rw e (rw (nothing (is_info role f.dlci p f)) refl)

-- an act that passes no frame
by_it : (role : Role) (past : List Hop) (a : Hop) → PassesAll role past → for_driver role (a ∷ past) ≡ for_driver role past → came (a ∷ past) ≡ came past ++ [] → for_line (a ∷ past) ≡ for_line past ++ [] → went (a ∷ past) ≡ went past ++ [] → PassesAll role (a ∷ past)
by_it role past a r d c l w = record {
  to_driver = d ∙ (r.to_driver ∙ (sym (append-nil (came past)) ∙ sym c));
  to_line = l ∙ (ap (λ fs. fs ++ []) r.to_line ∙ sym w);
}

all : (role : Role) (n1 : ℕ) (past : List Hop) → LawfulHops role n1 [] past → LawfulPasses role n1 (passes past) → PassesAll role past
unfolding LawfulHops LawfulPasses
all role n1 [] h k = record { to_driver = refl; to_line = refl }
all role n1 (Passed (Came f) ∷ past) h k =
    let r = all role n1 past h.1 k.1 in
    record {
      to_driver = ap (λ fs. fs ++ due role (passes past) f) r.to_driver ∙ ap (λ fs. came past ++ fs) (due_all role (passes past) f (plain role n1 past h.1 k.1 f.dlci).idle);
      to_line = ap (λ fs. fs ++ []) r.to_line;
    }
all role n1 (Passed (Went f) ∷ past) h k =
    let r = all role n1 past h.1 k.1 in
    record { to_driver = r.to_driver ∙ sym (append-nil (came past)); to_line = ap (λ fs. fs ++ f ∷ []) r.to_line }
all role n1 (Passed (Flowed f) ∷ past) h k =
    let due_there = k.0 in
    absurd (plain_due role due_there.dlci (passes past) due_there.go (plain role n1 past h.1 k.1 due_there.dlci) due_there.is_due)
all role n1 (Passed (Left f) ∷ past) h k = let none = h.0.1.there in absurd (omega (arith, none))
all role n1 (Passed Lost ∷ past) h k = by_it role past (Passed Lost) (all role n1 past h.1 k.1) refl refl refl refl
all role n1 (Passed (Began d c u) ∷ past) h k = by_it role past (Passed (Began d c u)) (all role n1 past h.1 k.1) refl refl refl refl
all role n1 (Passed (EndedLane d) ∷ past) h k = by_it role past (Passed (EndedLane d)) (all role n1 past h.1 k.1) refl refl refl refl
all role n1 (Passed (Gave d o) ∷ past) h k = by_it role past (Passed (Gave d o)) (all role n1 past h.1 k.1) refl refl refl refl
all role n1 (Passed (Read d o) ∷ past) h k = by_it role past (Passed (Read d o)) (all role n1 past h.1 k.1) refl refl refl refl
all role n1 (Fed o ∷ past) h k = by_it role past (Fed o) (all role n1 past h.1 k) refl refl refl refl
all role n1 (Handed o ∷ past) h k = by_it role past (Handed o) (all role n1 past h.1 k) refl refl refl refl
all role n1 (Took o ∷ past) h k = by_it role past (Took o) (all role n1 past h.1 k) refl refl refl refl
all role n1 (Wrote o ∷ past) h k = by_it role past (Wrote o) (all role n1 past h.1 k) refl refl refl refl

-- without connections of data a relay passes frames as they come and go, and adds none
pub adds_nothing : AddsNothing
unfolding AddsNothing
adds_nothing role n1 v past h = all role n1 past h.lawful h.pipes_fit.lawful
