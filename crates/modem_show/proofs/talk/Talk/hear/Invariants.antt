-- What is still to come makes of what is kept what all octets make of it.
use Rattle.std.specs.Prelude.{◌≡◌, ◌++◌, drop}
use Rattle.at_text.specs.Rules.{dialect_of}
use Rattle.modem_show.specs.Talking.{told_each, heard_each}
use Rattle.modem_show.proofs.talk.Talk.hear.Given as goal

abbrev pub invariant-loop-octet : goal.invariant-loop-octet
invariant-loop-octet l = record {
  kept : heard_each (dialect_of l.dialect) l.direction l.self (drop l.octet-index l.octets) ≡ heard_each (dialect_of l.dialect) l.direction l.initial.self l.octets;
  told : l.out.items ++ told_each (dialect_of l.dialect) l.direction l.self (drop l.octet-index l.octets) ≡ l.initial.out.items ++ told_each (dialect_of l.dialect) l.direction l.initial.self l.octets;
}
