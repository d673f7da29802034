-- What answers octets: laws of the trait, whose proofs have to stand here.
use Rattle.std.specs.Prelude.{◌≡◌, ℕ, List, [], ◌∷◌, ◌++◌, refl}
use Rattle.std.proofs.Common.{ap, sym, ◌∙◌, append_assoc, subst}
use Rattle.mux_frame.specs.Reading.{no_flag}
use Rattle.ctl_sim.specs.declared.server.Mode.{Mode}
use Rattle.ctl_sim.specs.declared.server.Mode.TheVariants.{Lines, Mux}
use Rattle.ctl_sim.specs.Serving as stage
use Rattle.ctl_sim.specs.Serving.{AnswersFrom, Entry, Setting, with_more}
use Rattle.ctl_sim.specs.Standing.{MayBeFrame, Stands, undecided}

pub more_twice : (a b c d : List ℕ) (es : List Entry) → with_more c d (with_more a b es) ≡ with_more (a ++ c) (b ++ d) es
more_twice a b c d [] = refl
more_twice a b c d (e ∷ es) =
    ap (λ (l : List ℕ). (record { n1 = e.n1; came = l; went = (e.went ++ b) ++ d }) ∷ with_more c d (with_more a b es)) (append_assoc e.came a c)
    ∙ ap (λ (l : List ℕ). (record { n1 = e.n1; came = e.came ++ (a ++ c); went = l }) ∷ with_more c d (with_more a b es)) (append_assoc e.went b d)
    ∙ ap (λ (l : List Entry). (record { n1 = e.n1; came = e.came ++ (a ++ c); went = e.went ++ (b ++ d) }) ∷ l) (more_twice a b c d es)

comes : (s : Setting) (came went octets later more : List ℕ) (entries es : List Entry)
    → AnswersFrom s (stage.Lines s.modem) (came ++ (octets ++ later)) (went ++ more) (with_more (octets ++ later) more entries ++ es)
    → AnswersFrom s (stage.Lines s.modem) ((came ++ octets) ++ later) (went ++ more) (with_more later more (with_more octets [] entries) ++ es)
comes s came went octets later more entries es answers =
    subst (λ (l : List ℕ). AnswersFrom s (stage.Lines s.modem) l (went ++ more) (with_more later more (with_more octets [] entries) ++ es)) (sym (append_assoc came octets later))
    (subst (λ (l : List Entry). AnswersFrom s (stage.Lines s.modem) (came ++ (octets ++ later)) (went ++ more) (l ++ es)) (sym (more_twice octets [] later more entries)) answers)

pub stands_before : (s : Setting) (came went : List ℕ) (entries : List Entry) (octets : List ℕ) (mode : Mode) → Stands s came went entries mode [] → Stands s (came ++ octets) went (with_more octets [] entries) mode octets
stands_before s came went entries octets (Lines p) at = record {
  modem = at.modem;
  lines = at.lines;
  none = at.none;
  plain_is = at.plain_is;
  leads = λ later more es answers. comes s came went octets later more entries es (at.leads (octets ++ later) more es answers);
}
stands_before s came went entries octets (Mux mux) at = record {
  modem = at.modem;
  past = at.past;
  handed = at.handed;
  fits = at.fits;
  octets_are = at.octets_are;
  next = at.next;
  kept = at.kept;
  leads = λ later more es answers. comes s came went octets later more entries es (at.leads (octets ++ later) more es answers);
}

-- what isn't decided may become a frame
pub may_be_frame : (s : Setting) (came went : List ℕ) (entries : List Entry) (mode : Mode) (left : List ℕ) → Stands s came went entries mode left → MayBeFrame (undecided mode)
may_be_frame s came went entries (Lines p) left at = record { n1 = 0; text = []; can = no_flag [] refl; is = refl }
may_be_frame s came went entries (Mux mux) left at = record { n1 = mux.n1; text = mux.kept; can = at.kept; is = refl }
