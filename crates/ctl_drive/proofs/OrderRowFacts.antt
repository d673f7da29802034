-- The worked callers and listeners.
use Rattle.std.specs.Prelude.{◌≡◌, ℕ, ◌<◌, zero, suc, true, false, List, [], ◌∷◌, refl, slice_index_or}
use Rattle.std.proofs.Common.{arith, ap, sym, subst, ◌∙◌}
use Rattle.std.proofs.lemmas.Bool.{eqb-true}
use mathlib.Core.Option.{some}
use lib.ListN.{get_elem?}
use Rattle.modem_desk.specs.Ends.{CallerView, Place, Subscription}
use Rattle.modem_desk.specs.declared.request.Ask.TheVariants.{Stop}
use Rattle.modem_desk.specs.declared.request.Request.{Request}
use Rattle.ctl_drive.specs.Asking.{is_on}
use Rattle.ctl_drive.specs.Channels.{HasToldOpening, OpensFirst, StopsLast}
use Rattle.ctl_drive.specs.OrderRows.{WereNot, WereTold, asker, asks, commands_one, idler, one, opens_one, told_opened}

-- a caller that takes what the opening was told and then submits a command
abbrev opener : Place → CallerView
opener p = asker p (opens_one ∷ commands_one 2 ∷ []) (0 ∷ 1 ∷ []) (told_opened ∷ [])

told_one : (p : Place) (d : ℕ) → 1 ≡ d → HasToldOpening (opener p) 1 d
told_one p d same = record {
  dlci = one;
  dlci_is = same;
  outcome = told_opened;
  asked = record { before = []; request = opens_one; later = commands_one 2 ∷ []; submitted_are = refl; number_is = refl; ask_is = refl };
  place = 0;
  taken = refl;
  early = omega arith;
}

opened : (p : Place) → OpensFirst (opener p)
opened p zero r e d is = let f : opens_one ≡ r = cc in let x : false ≡ true = ap (λ (q : Request). is_on d q.ask) f ∙ is in cc
opened p (suc zero) r e d is =
    let f : commands_one 2 ≡ r = cc in
    told_one p d (eqb-true 1 d (ap (λ (q : Request). is_on d q.ask) f ∙ is))
opened p (suc (suc n)) r e d is = cc

-- a caller that takes the outcome of all that it submitted and then submits a Stop
stopped : (p : Place) → StopsLast (asker p (opens_one ∷ asks 2 Stop ∷ []) (0 ∷ 1 ∷ []) (told_opened ∷ []))
stopped p zero r e is = let f : opens_one ≡ r = cc in let x : opens_one.ask ≡ Stop = ap (λ (q : Request). q.ask) f ∙ is in cc
stopped p (suc zero) r e is = refl
stopped p (suc (suc n)) r e is = cc

-- these were told enough
pub told : (p : Place) → WereTold p
told p = record { opened = opened p; stopped = stopped p }

-- and these not
pub not_told : (p : Place) (e : Subscription) → WereNot p e
not_told p e = record {
  never_asked = λ h. let k = h 0 (commands_one 1) refl 1 refl in let early = k.early in omega (arith, early);
  too_early = λ h. let k = h 1 (commands_one 2) refl 1 refl in let early = k.early in omega (arith, early);
  own_stop = λ h. let x : 1 ≡ 2 = h 2 (asks 3 Stop) refl refl in omega (arith, x);
  unheard = λ h. let x = h 0 (idler e) refl in cc;
}
