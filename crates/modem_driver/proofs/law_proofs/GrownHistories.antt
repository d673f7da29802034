-- A history that grew fits what was seen last, and that of a session's calls grew.
use Rattle.std.proofs.Common.{ap, sym, ◌∙◌, subst}
use Rattle.std.specs.Prelude.{◌≡◌, List, [], ◌∷◌, ◌++◌, refl}
use Rattle.modem_history.specs.Acts.{Act, after}
use Rattle.modem_history.specs.Sessions.{Beginning, SessionFits, SessionView}
use Rattle.modem_history.proofs.calls.StatesAfterActs.{after_both}
use Rattle.modem_driver.specs.Grown.{HasGrown, seen_first, seen_later}
use Rattle.modem_driver.specs.OneSession.{Adds, CallKind, HasLived, LivedGrows, SessionCall, begun, by_fault, by_tick, by_turn, fault_more, lived_on, no_turn, seen_after, seen_by_calls, turn_more}

-- the session as it was seen last fits the history
pub fits_in : {b : Beginning} {v : SessionView} {seen : List SessionView} {past : List Act} → HasGrown b (v ∷ seen) past → SessionFits b v past
fits_in (seen_first v f) = f
fits_in (seen_later v seen past acts before f) = f

-- what a call adds are some acts behind what was, and the session fits the longer history
record AddsSome (b : Beginning) (past : List Act) (new : SessionView) (now : List Act) : Type 0 where
  acts : List Act
  now_is : now ≡ after past acts
  fits : SessionFits b new now

then : (b : Beginning) (past before now : List Act) (mid new : SessionView) → AddsSome b past mid before → AddsSome b before new now → AddsSome b past new now
then b past before now mid new x y = record {
  acts = x.acts ++ y.acts;
  now_is = y.now_is ∙ (ap (λ (p : List Act). after p y.acts) x.now_is ∙ sym (after_both x.acts y.acts past));
  fits = y.fits;
}

adds_some : (b : Beginning) (old : SessionView) (past : List Act) (new : SessionView) (kind : CallKind) (now : List Act) → SessionFits b old past → Adds b old past new kind now → AddsSome b past new now
adds_some b _ _ _ _ _ f (by_turn old new t past acts says turn steps g) = record { acts = acts; now_is = refl; fits = g }
adds_some b _ _ _ _ _ f (by_fault old new t past acts why turn offers g) = record { acts = acts; now_is = refl; fits = g }
adds_some b _ _ _ _ _ f (by_tick old new past acts tick g) = record { acts = acts; now_is = refl; fits = g }
adds_some b _ _ _ _ _ f (no_turn old past) = record { acts = []; now_is = refl; fits = f }
adds_some b _ _ _ _ _ f (turn_more old mid new past before now says polled one) =
    let x = adds_some b old past mid _ before f polled in
    then b past before now mid new x (adds_some b mid before new _ now x.fits one)
adds_some b _ _ _ _ _ f (fault_more old mid new past before now why polled one) =
    let x = adds_some b old past mid _ before f polled in
    then b past before now mid new x (adds_some b mid before new _ now x.fits one)

-- the first sight of these
sights : (first : SessionView) (calls : List SessionCall) (b : Beginning) (past : List Act) → HasGrown b (seen_by_calls first calls) past → SessionFits b (seen_after first calls) past
sights first [] b past g = fits_in g
sights first (c ∷ calls) b past g = fits_in g

grows : (b : Beginning) (first : SessionView) (calls : List SessionCall) (past : List Act) → HasLived b first calls past → HasGrown b (seen_by_calls first calls) past
grows b first _ _ (begun f) = seen_first first f
grows b first _ _ (lived_on calls c past now lived adds) =
    let g = grows b first calls past lived in
    let x = adds_some b (seen_after first calls) past c.now c.kind now (sights first calls b past g) adds in
    subst (HasGrown b (c.now ∷ seen_by_calls first calls)) (sym x.now_is) (seen_later c.now (seen_by_calls first calls) past x.acts g (subst (SessionFits b c.now) x.now_is x.fits))

-- the history of a session's calls grew from sight to sight
pub lived_grows : LivedGrows
unfolding LivedGrows
lived_grows b first calls past lived = grows b first calls past lived
