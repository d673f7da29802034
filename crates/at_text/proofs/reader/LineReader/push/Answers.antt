-- An octet is kept, or ends a line.
use Rattle.std.proofs.Common.{[], refl, sym}
use Rattle.at_text.proofs.lines.KeptOctets.{lines-push}
use Rattle.at_text.proofs.reader.LineReader.push.Goals as goal

pub returns-then-not-ends_line : goal.returns-then-not-ends_line
returns-then-not-ends_line c =
    let said = sym c.keep_one.ensures.none in
    rw (← c.self.view_is) (
      (refl, λ _. tt, c.keep_one.ensures.kept),
      record { line = said; past = λ octets read. lines-push _ octets c.args.octet [] read said; after = tt },
    )

pub returns : goal.returns
returns c =
    let e = sym c.if-not-ends_line.ensures in
    let said = c.end.ensures.line c.args.octet e in
    rw (← c.self.view_is) (
      (refl, λ _. tt, c.end.follows.holds-at-none.0 c.args.octet e),
      record { line = said; past = λ octets read. lines-push _ octets c.args.octet _ read said; after = tt },
    )
