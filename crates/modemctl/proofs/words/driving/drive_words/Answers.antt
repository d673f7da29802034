-- A drive by the words.
use Rattle.std.proofs.Common.{ap, ◌≡◌, ℕ, Bool, List, Option, arith, codes, false, inl, inr, is_some, refl, subst, true, ⊎_elim}
use Rattle.clap.specs.Words.{Text, first_value, found_of, one_text}
use Rattle.clap.specs.declared.ArgMatches.{ArgMatches}
use Rattle.at_text.specs.Rules.{Rules}
use Rattle.ctl_drive.specs.Driving.{period_of}
use Rattle.ctl_drive.specs.Entry.{entry_for}
use Rattle.modemctl.specs.Drives.{DrivesWith, IsDriveDialect, IsTick, RanWith}
use Rattle.modemctl.specs.Words.{is_set}
use Rattle.modemctl.proofs.FileFaults.{names_cause}
use Rattle.modemctl.proofs.Refused.{undriven}
use Rattle.modemctl.proofs.words.driving.drive_words.Goals as goal

-- what the settings have is that of the words
pub record AreOf (texts : Text → Option (List ℕ)) (m : ArgMatches) (n1 n nanos : ℕ) (rules own : Rules) (entry capture : Option (List ℕ)) : Type 0 where
  pub same_n1 : n ≡ n1
  pub ticks : IsTick (one_text (found_of m) (codes "tick")) nanos
  pub same_rules : own ≡ rules
  pub same_entry : entry ≡ first_value (found_of m) (codes "entry")
  pub same_capture : capture ≡ first_value (found_of m) (codes "capture")
  pub named : IsDriveDialect texts (first_value (found_of m) (codes "dialect")) (is_set (first_value (found_of m) (codes "arm"))) rules

drives_with : (texts : Text → Option (List ℕ)) (m : ArgMatches) (n1 n nanos : ℕ) (rules own : Rules) (entry capture before after silent said : Option (List ℕ)) (was_bad : Bool) → AreOf texts m n1 n nanos rules own entry capture
    → RanWith m (is_some capture) own (entry_for entry n) n (period_of nanos) before after silent said was_bad → DrivesWith texts n1 m before after silent said was_bad
drives_with texts m n1 n nanos rules own entry capture before after silent said was_bad are drove = record {
  rules = rules;
  named = are.named;
  tick = are.ticks.tick;
  ticks = are.ticks.said;
  drove =
      subst (λ (x : ℕ × Rules × Option (List ℕ) × Option (List ℕ) × ℕ). RanWith m (is_some x.3) x.1 (entry_for x.2 x.0) x.0 (period_of x.4) before after silent said was_bad)
      (λ i. (are.same_n1 i, are.same_rules i, are.same_entry i, are.same_capture i, are.ticks.same i)) drove;
}

-- behind a dialect that said nothing
behind : (texts : Text → Option (List ℕ)) (n1 : ℕ) (m : ArgMatches) (before after first silent said : Option (List ℕ)) (was_bad : Bool) → silent ≡ first
    → DrivesWith texts n1 m before after silent said was_bad → DrivesWith texts n1 m before after first said was_bad
behind texts n1 m before after first silent said was_bad same drives =
    subst (λ (s : Option (List ℕ)). DrivesWith texts n1 m before after s said was_bad) same drives

pub returns-in-Ok-drive_dialect-clause-done : goal.returns-in-Ok-drive_dialect-clause-done
returns-in-Ok-drive_dialect-clause-done g c zero =
    behind (g.R.TextFiles.text_of c.args.rt.now) _ _ _ _ _ _ _ false (ap g.E.Write.contents c.in-Ok-drive_dialect.ensures.silent)
    (drives_with (g.R.TextFiles.text_of c.args.rt.now) _ _ _ _ _ _ _ _ _ _ _ _ false
    (record {
      same_n1 = refl;
      ticks = c.in-Ok.ensures;
      same_rules = refl;
      same_entry = c.get_str-in-Ok-drive_dialect.ensures;
      same_capture = c.get_str-in-Ok-drive_dialect-2.ensures;
      named = c.in-Ok-drive_dialect.ensures.given;
    })
    (c.drive_on.ensures.done zero))

pub returns-in-Ok-drive_dialect-clause-bad : goal.returns-in-Ok-drive_dialect-clause-bad
returns-in-Ok-drive_dialect-clause-bad g c two =
    ⊎_elim (λ same. inl same)
    (λ ran. inr
    (behind (g.R.TextFiles.text_of c.args.rt.now) _ _ _ _ _ _ _ true (ap g.E.Write.contents c.in-Ok-drive_dialect.ensures.silent)
    (drives_with (g.R.TextFiles.text_of c.args.rt.now) _ _ _ _ _ _ _ _ _ _ _ _ true
    (record {
      same_n1 = refl;
      ticks = c.in-Ok.ensures;
      same_rules = refl;
      same_entry = c.get_str-in-Ok-drive_dialect.ensures;
      same_capture = c.get_str-in-Ok-drive_dialect-2.ensures;
      named = c.in-Ok-drive_dialect.ensures.given;
    })
    ran)))
    (c.drive_on.ensures.bad two)

pub returns-in-Err-drive_dialect-clause-done : goal.returns-in-Err-drive_dialect-clause-done
returns-in-Err-drive_dialect-clause-done g c zero = let some = c.in-Err-drive_dialect.ensures.bad.0 in absurd (omega (arith, some, zero))

pub returns-in-Err-drive_dialect-clause-unread : goal.returns-in-Err-drive_dialect-clause-unread
returns-in-Err-drive_dialect-clause-unread g c shut one = names_cause true _ c.args.output.now _ _ _ (c.in-Err-drive_dialect.ensures.refused shut)

pub returns-in-Ok-drive_dialect-clause-fault : goal.returns-in-Ok-drive_dialect-clause-fault
returns-in-Ok-drive_dialect-clause-fault g c one =
    undriven _ _ _ _ _ _ _ _ _ _ _ c.in-Some.ensures c.get_str-in-Ok-drive_dialect-2.ensures (ap g.E.Write.contents c.in-Ok-drive_dialect.ensures.silent) (c.drive_on.ensures.fault one)

pub returns-in-Err-drive_dialect-clause-fault : goal.returns-in-Err-drive_dialect-clause-fault
returns-in-Err-drive_dialect-clause-fault g c one = inl (c.in-Err-drive_dialect.ensures.said one)
