-- What is said of files that aren't shown to their end.
use Rattle.modemctl.proofs.words.showing.show_files.Goals as goal

pub returns-in-Some-clause-said : goal.returns-in-Some-clause-said
returns-in-Some-clause-said g c = λ one. rw c.in-Some.is (c.show_octets.ensures.said one)

pub returns-in-None-clause-said : goal.returns-in-None-clause-said
returns-in-None-clause-said g c = λ one. rw c.in-None.is (c.show_file.ensures.said one)
