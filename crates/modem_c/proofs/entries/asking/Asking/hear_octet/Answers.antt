-- An octet comes behind the text.
use Rattle.modem_c.proofs.Heard.{hears_one}
use Rattle.modem_c.proofs.entries.asking.Asking.hear_octet.Goals as goal

pub returns-clause-hears : goal.returns-clause-hears
returns-clause-hears c =
    hears_one record { text = c.self.inside.text.items; written = c.self.inside.written; kept = c.self.inside.reader } c.args.self.now c.see.new.reader c.args.octet c.see.result
    c.self.view_is c.requires c.see.ensures.keeps c.see.ensures.given
