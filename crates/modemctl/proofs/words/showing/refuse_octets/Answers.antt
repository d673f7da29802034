-- What is said of a file of octets that can't be opened.
use Rattle.modemctl.proofs.ShownFiles.{says_closed}
use Rattle.modemctl.proofs.words.showing.refuse_octets.Goals as goal

pub returns-clause-said : goal.returns-clause-said
returns-clause-said g c = says_closed _ _ c.args.kind _ _ _ c.refuse_file.ensures.said
