-- What is said of octets that aren't shown to their end.
use Rattle.std.proofs.Common.{inl, inr}
use Rattle.modemctl.proofs.words.showing.show_octets.Goals as goal

pub returns-in-Ok-clause-said : goal.returns-in-Ok-clause-said
returns-in-Ok-clause-said g c = λ one. inr (c.show_beside.ensures.said one)

pub returns-in-Err-clause-said : goal.returns-in-Err-clause-said
returns-in-Err-clause-said g c = λ one. inl c.refuse_octets.ensures.said
