-- The worked examples of dialects compute.
use Rattle.std.specs.Prelude.{refl, codes}
use Rattle.at_text.specs.declared.rules.Form.TheVariants.{Line, Prefix, Quoted, Report}
use Rattle.at_text.specs.Rules.{FinalRule, UrcRule, no_rules}
use Rattle.at_text.specs.KnownRules.{common}
use Rattle.at_text.specs.Deciding.{can_meet}
use Rattle.at_text.specs.DialectRows.{AreKnownFinals, AreKnownKinds, IsVendor, AreRefused, AreTaken}
use Rattle.at_text.proofs.dialects.Sound.{sound_standard}
use Rattle.at_text.proofs.dialects.Known.{sound_common}
use Rattle.at_text.proofs.dialects.Refusing.{refused, not_refused}

-- these lines are final codes of the dialects that come ready, or aren't
pub are_known_finals : AreKnownFinals
are_known_finals = record {
  message = refl;
  good = refl;
  equipment = refl;
  no_call = refl;
  gone = refl;
  busy = refl;
  silent = refl;
  dead = refl;
  longer = refl;
  connect = refl;
}

-- these are of their kinds, or of none
pub are_known_kinds : AreKnownKinds
are_known_kinds = record {
  eps = refl;
  eps_cell = refl;
  eps_cause = refl;
  eps_query = refl;
  eps_query_cell = refl;
  eps_test = refl;
  five = refl;
  message = refl;
  report = refl;
  caller = refl;
  caller_query = refl;
  waiting = refl;
  waiting_query = refl;
  zone = refl;
  summer = refl;
  ring = refl;
  two_lines = refl;
  name = refl;
}

-- a vendor's rules take what the standard leaves, and those of one name share a kind
pub is_vendor : IsVendor
is_vendor = record {
  failed = refl;
  ready = refl;
  shared = refl;
  name = refl;
  standard_first = refl;
  behind = refl;
}

-- these rules are refused, for these reasons
pub are_refused : AreRefused
unfolding can_meet
are_refused = record {
  empty = refused _ _ _ sound_standard refl;
  two_lines = refused _ _ _ sound_standard refl;
  no_name = refused _ _ _ sound_standard refl;
  blank_name = refused _ _ _ sound_standard refl;
  echo = refused _ _ _ sound_standard refl;
  any_echo = refused _ _ _ sound_standard refl;
  swallows = refused _ _ _ sound_standard refl;
  error = refused _ _ _ sound_standard refl;
  report = refused _ _ _ sound_standard refl;
  own = refused _ _ _ sound_common refl;
}

-- and these for none
pub are_taken : AreTaken
unfolding can_meet
are_taken = record {
  line = not_refused no_rules (FinalRule Line (codes "SEND FAIL")) sound_standard refl;
  query = not_refused no_rules (FinalRule Line (codes "+CREG: 0,1")) sound_standard refl;
  report = not_refused no_rules (FinalRule Report (codes "+CREG: 0,")) sound_standard refl;
  quoted = not_refused common (UrcRule Quoted (codes "+CMS") (codes "SMS")) sound_common refl;
  repeated = not_refused common (FinalRule Prefix (codes "+CMS ERROR:")) sound_common refl;
}
