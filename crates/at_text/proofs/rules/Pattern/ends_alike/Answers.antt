use Rattle.std.proofs.Common.{rules, ◌<◌, length}
use Rattle.at_text.proofs.dialects.Heading.{last_same}
use Rattle.at_text.proofs.rules.Pattern.ends_alike.Goals as goal

pub returns-then-last-line : goal.returns-then-last-line
returns-then-last-line c =
    let long : 0 < length c.args.self.now.text = search (rules) in
    rw c.as_slice-text.ensures (last_same c.args.self.now c.args.line.now long)
