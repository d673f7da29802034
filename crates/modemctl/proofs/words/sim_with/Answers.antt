use Rattle.std.proofs.Common.{◌≡◌, List, Option, None, Some, ℕ, refl, subst, sym, is_some, true}
use Rattle.clap.specs.Words.{Text}
use Rattle.ctl_sim.specs.Leaving.{EndsFor}
use Rattle.ctl_sim.specs.declared.serving.SimOptions.{SimOptions}
use Rattle.ctl_sim.specs.Watching.{CapturesClient, IsCaptured}
use Rattle.mux_capture.specs.Passing.{CaptureState}
use Rattle.modemctl.specs.Captures.{HasBegunWith, SaysNoCapture}
use Rattle.modemctl.specs.Sims.{HasNoCapture}
use Rattle.modemctl.specs.declared.words.files.NoCapture.{NoCapture}

-- no capture is wanted
not_wanted : (given : Option Text) (options : SimOptions) (input before after : Option (List ℕ)) → None ≡ given → CapturesClient (is_some given) options input before after
not_wanted given options input before after none = subst (λ (t : Option Text). CapturesClient (is_some t) options input before after) none tt

-- one is, and has captured
wanted : (given : Option Text) (path : Text) (options : SimOptions) (input before after : Option (List ℕ)) (first last : CaptureState) → Some path ≡ given → HasBegunWith options.n1 first → IsCaptured options input before after first last
    → CapturesClient (is_some given) options input before after
wanted given path options input before after first last some begun captured =
    subst (λ (t : Option Text). CapturesClient (is_some t) options input before after) some
    (record { at_first = begun.at_first; first = first; last = last; begun = begun.begun; n1 = begun.n1_is; captured = captured })

-- for less
fails_by : (P Q : Type 0) (options : SimOptions) (input rest before after told_before told_after : Option (List ℕ)) → (P → Q) → EndsFor P options input rest before after told_before told_after → EndsFor Q options input rest before after told_before told_after
fails_by P Q options input rest before after told_before told_after f ends = record { fault = ends.fault; said = ends.said; left = ends.left; capture = λ is. f (ends.capture is) }

is_wanted : (given : Option Text) (path : Text) → Some path ≡ given → is_some given ≡ true
is_wanted given path some = subst (λ (t : Option Text). is_some t ≡ true) some refl

no_capture : (given : Option Text) (path : Text) (fault : NoCapture) (before after : Option (List ℕ)) → Some path ≡ given → SaysNoCapture fault path before after → HasNoCapture given before after
no_capture given path fault before after some said = record { named = path; path_is = sym some; cause = fault; said = said }
