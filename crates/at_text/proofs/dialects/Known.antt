-- No line is both in the dialects that come ready.
use Rattle.std.specs.Prelude.{refl}
use Rattle.std.proofs.Common.{arith}
use Rattle.at_text.specs.Refusals.{IsSound}
use Rattle.at_text.specs.Deciding.{can_meet}
use Rattle.at_text.specs.KnownRules.{common, dialling}
use Rattle.at_text.proofs.dialects.Sound.{sound_by}

-- the rules of `common` are sound
pub sound_common : IsSound common
unfolding can_meet
sound_common = sound_by common (record {
  few = omega arith;
  short_finals = refl;
  short_urcs = refl;
  names = refl;
  named = (refl, (refl, (refl, (refl, (refl, (refl, (refl, (refl, tt))))))));
  standard_own = refl;
  own_standard = refl;
  own_own = refl;
  command_finals = refl;
  command_urcs = refl;
})

-- and those of `dialling`
pub sound_dialling : IsSound dialling
unfolding can_meet
sound_dialling = sound_by dialling (record {
  few = omega arith;
  short_finals = refl;
  short_urcs = refl;
  names = refl;
  named = (refl, (refl, (refl, (refl, (refl, (refl, (refl, (refl, tt))))))));
  standard_own = refl;
  own_standard = refl;
  own_own = refl;
  command_finals = refl;
  command_urcs = refl;
})
