-- Turns of a simulated modem at a line in memory that are given up.
use Rattle.std.specs.Prelude.{◌≡◌, ◌≢◌, ◌⊎◌, ℕ, ◌+◌, ◌-◌, ◌<◌, ◌≤◌, ◌^◌, Bool, true, false, List, [], drop, length, Result, Err, IfErr, IsErrOf, refl}
use Rattle.std.proofs.Common.{inl, inr, arith, ap, sym, subst, ◌∙◌, length-drop}
use Rattle.std.proofs.lemmas.Bool.{false≢true}
use Rattle.modem_sim.specs.declared.error.SimError.{SimError}
use Rattle.modem_sim.specs.declared.error.SimError.TheVariants as why
use Rattle.modem_sim.specs.declared.sim.SimTurn.{SimTurn}
use Rattle.modem_sim.specs.Polls.{Turned, moves_none, moves_once}
use Rattle.modem_sim.specs.Sims.{SimState, has_ended, has_failed}
use Rattle.ctl_sim.specs.declared.fault.ServeFault.{ServeFault}
use Rattle.ctl_sim.specs.Endless.{ComesToLack, GoesOn, IsEndless, IsEndlessAt, IsGivenUpFor, IsUnanswered, LacksMemory, MovesFor, at_end, at_rest, for_piece, handed_in, in_modem, in_turn}
use Rattle.ctl_sim.specs.HeldLine.{HeldState, held_side, held_view}
use Rattle.ctl_sim.specs.Leaving.{IsOfModemBy}
use Rattle.ctl_sim.specs.Muxes.{ComesToRest}

-- octets that aren't read are left
pub some_left : (n : ℕ) (xs : List ℕ) → n ≤ length xs → n ≢ length xs → drop n xs ≢ []
some_left n xs bound other none =
    let left = length-drop n xs in
    let size : length (drop n xs) ≡ 0 = ap length none in
    other (omega (arith, left, size, bound))

-- ## One turn

no_other : IsErrOf {T = SimTurn} (Err why.BadN1) why.Line ⊎ (IsErrOf {T = SimTurn} (Err why.BadN1) why.NoMemory ⊎ IsErrOf {T = SimTurn} (Err why.BadN1) why.Failed) → ⊥
no_other (inl is) = cc
no_other (inr (inl is)) = cc
no_other (inr (inr is)) = cc

none_fails : (old new : SimState HeldState) → Turned held_view old new (Err why.Line) → ⊥
none_fails old new t = let one : 0 ≡ 0 + 1 = t.failure refl in omega (arith, one)

-- memory alone is refused on a line that hasn't failed
pub lacks_by : (old new : SimState HeldState) (fault : SimError) → Turned held_view old new (Err fault) → has_failed old ≡ false → LacksMemory old new
lacks_by old new why.NoMemory t sound = in_modem t
lacks_by old new why.BadN1 t sound = absurd (no_other t.others)
lacks_by old new why.Line t sound = absurd (none_fails old new t)
lacks_by old new why.Failed t sound = absurd (false≢true (sym sound ∙ t.failed.0 refl))

-- and no turn fails
pub sound_by : (old new : SimState HeldState) (fault : SimError) → Turned held_view old new (Err fault) → has_failed new ≡ has_failed old
sound_by old new why.NoMemory t = t.fails
sound_by old new why.BadN1 t = t.fails
sound_by old new why.Line t = absurd (none_fails old new t)
sound_by old new why.Failed t = t.fails

-- ## Turns

pub moves_not : (s : SimState HeldState) → MovesFor 0 s s
moves_not s = record { moves = moves_none; side = refl }

pub moves_more : (n : ℕ) (a b c : SimState HeldState) → MovesFor n a b → GoesOn b c → held_side c.line ≡ held_side b.line → MovesFor (n + 1) a c
moves_more n a b c so_far turn side = record { moves = moves_once n b c so_far.moves turn; side = side ∙ so_far.side }

pub lacks_then : (n : ℕ) (a b c : SimState HeldState) → n < 2 ^ 64 - 1 → MovesFor n a b → (has_failed b ≡ has_failed a) → (has_failed b ≡ false → LacksMemory b c) → has_failed a ≡ false → ComesToLack a c
lacks_then n a b c few moves sound lacks failed = record { turns = n; few = few; mid = b; moves = moves; lacks = lacks (sound ∙ failed) }

pub endless_then : (n : ℕ) (a b : SimState HeldState) → n ≡ 2 ^ 64 - 1 → MovesFor n a b → IsEndless a b
endless_then n a b all moves = subst (λ k. MovesFor k a b) all moves

-- ## Octets that are handed in

-- a state to which they were handed
pub unanswered : (fault : ServeFault) (old into new : SimState HeldState) (piece : List ℕ) → into ≡ handed_in old piece → IsGivenUpFor fault into new → IsUnanswered fault old new piece
unanswered ServeFault.NoMemory old into new piece is lacks = λ sound.
    in_turn (subst (λ (s : SimState HeldState). ComesToLack s new) is (lacks (ap (λ (s : SimState HeldState). has_failed s) is ∙ sound)))
unanswered ServeFault.EndlessModem old into new piece is moves = subst (λ (s : SimState HeldState). IsEndless s new) is moves
unanswered ServeFault.Input old into new piece is h = h
unanswered ServeFault.EndlessInput old into new piece is h = h
unanswered ServeFault.Output old into new piece is h = h
unanswered ServeFault.Capture old into new piece is h = h

-- memory was refused before anything was done
pub not_handed : (old : SimState HeldState) (line : HeldState) (piece : List ℕ) → line ≡ old.line → IsUnanswered ServeFault.NoMemory old (record old { line = line }) piece
not_handed old line piece same sound = for_piece (ap (λ (l : HeldState). record old { line = l }) same)

-- it had come to its end, or to rest, and memory was refused for what goes out
pub not_taken : (ended : Bool) (old into b new : SimState HeldState) (piece : List ℕ) → into ≡ handed_in old piece → (ended ≡ false → ComesToRest into b) → (ended ≡ true → has_ended b ≡ true) → new ≡ b → IsUnanswered ServeFault.NoMemory old new piece
not_taken false old into b new piece is rests ends same sound =
    at_rest (subst (λ (s : SimState HeldState). ComesToRest (handed_in old piece) s) (sym same) (subst (λ (s : SimState HeldState). ComesToRest s b) is (rests refl)))
not_taken true old into b new piece is rests ends same sound = at_end (ap has_ended same ∙ ends refl)

-- whoever lets go of it says that much
pub endless_at : (fault : ServeFault) (old new : SimState HeldState) (piece : List ℕ) → IsUnanswered fault old new piece → IsOfModemBy (IsEndlessAt old piece) fault
endless_at ServeFault.NoMemory old new piece h = tt
endless_at ServeFault.EndlessModem old new piece h = record { new = new; endless = h }
endless_at ServeFault.Input old new piece h = h
endless_at ServeFault.EndlessInput old new piece h = h
endless_at ServeFault.Output old new piece h = h
endless_at ServeFault.Capture old new piece h = h

pub let_go : (fed : Result Bool ServeFault) (fault : ServeFault) (old new : SimState HeldState) (piece : List ℕ) → fed ≡ Err fault → IfErr fed (λ f. IsUnanswered f old new piece) → IsOfModemBy (IsEndlessAt old piece) fault
let_go fed fault old new piece is h = endless_at fault old new piece (subst (λ r. IfErr r (λ f. IsUnanswered f old new piece)) is h)
