-- What is said where the words don't say how a capture is to be shown.
use Rattle.std.proofs.Common.{codes, inl, inr, refl}
use Rattle.modemctl.proofs.Refused.{no_text_two, told_given}
use Rattle.modemctl.proofs.words.showing.wanted.Goals as goal

pub returns-in-Err-clause-told : goal.returns-in-Err-clause-told
returns-in-Err-clause-told g c = λ two. inl (record { option = codes "data"; said = c.refuse_channels.ensures.told two })

pub returns-in_err-dialect-clause-told : goal.returns-in_err-dialect-clause-told
returns-in_err-dialect-clause-told g c = told_given _ _ _ c.from_residual.ensures.1 (λ two. inr (no_text_two _ _ _ _ _ _ _ refl two c.in_err-dialect.ensures.refused))
