-- What is shown of the files that the words name.
use Rattle.std.proofs.Common.{◌≡◌, ℕ, List, Option, inl, inr, refl, subst, sym, ⊎_elim}
use Rattle.clap.specs.Words.{Text}
use Rattle.modemctl.specs.Shows.{SaysUnshown}
use Rattle.modemctl.proofs.Refused.{unshown_two}
use Rattle.modemctl.proofs.ShownFiles.{files_unread, shows_with}
use Rattle.modemctl.proofs.words.showing.show_words.Goals as goal

-- behind words that said nothing
behind : {E : Type 0} (contents : E → Option (List ℕ)) (dialect raw file : Option Text) (first before after : E) (status : ℕ) → before ≡ first
    → SaysUnshown dialect raw file (contents before) (contents after) status → SaysUnshown dialect raw file (contents first) (contents after) status
behind contents dialect raw file first before after status same h = subst (λ (e : _). SaysUnshown dialect raw file (contents e) (contents after) status) same h

pub returns-in-Ok-clause-shown : goal.returns-in-Ok-clause-shown
returns-in-Ok-clause-shown g c = λ h. shows_with _ _ _ _ _ _ c.in-Ok.options c.in-Some.path.now _ c.in-Ok.ensures.wanted c.in-Some.ensures c.get_str-in-Ok.ensures (c.show_files.ensures.shown h)

pub returns-in-Ok-clause-refused : goal.returns-in-Ok-clause-refused
returns-in-Ok-clause-refused g c two =
    inr (inr (unshown_two _ _ _ _ _ _ two
    (behind g.E.Write.contents _ _ _ _ _ _ _ c.in-Ok.ensures.silent
    (files_unread _ _ _ _ c.in-Some.path.now _ _ _ c.in-Some.ensures c.get_str-in-Ok.ensures (c.show_files.ensures.said (inr two))))))

pub returns-in-Ok-clause-said : goal.returns-in-Ok-clause-said
returns-in-Ok-clause-said g c = λ one.
    behind g.E.Write.contents _ _ _ _ _ _ _ c.in-Ok.ensures.silent
    (files_unread _ _ _ _ c.in-Some.path.now _ _ _ c.in-Some.ensures c.get_str-in-Ok.ensures (c.show_files.ensures.said (inl one)))

pub returns-in_default-clause-refused : goal.returns-in_default-clause-refused
returns-in_default-clause-refused g c two = inl (sym c.in_default.ensures, refl)

pub returns-in-Err-clause-refused : goal.returns-in-Err-clause-refused
returns-in-Err-clause-refused g c two = inr (⊎_elim (λ number. inl number) (λ text. inr (inl text)) (c.in-Err.ensures.told two))
