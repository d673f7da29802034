-- No final code has come yet.
use Rattle.std.specs.Prelude.{◌≡◌, ◌≤◌, ◌-◌, length, take}
use Rattle.modem_driver.specs.declared.entry.EntryStep.TheVariants.{Moved}
use Rattle.modem_c.specs.Entries.{Hears}
use Rattle.modem_c.proofs.entries.asking.Asking.hear.Given as goal

abbrev pub invariant-loop-taken : goal.invariant-loop-taken
invariant-loop-taken l = record {
  hears : Hears l.initial.self l.self (take l.taken l.octets) Moved;
  few : l.taken ≤ length l.octets;
  text : l.self.text ≡ l.initial.self.text;
  written : l.self.written ≡ l.initial.self.written;
}

abbrev pub decreases-loop-taken : goal.decreases-loop-taken
decreases-loop-taken l = length l.octets - l.taken
