-- What is said piece by piece is what is said to all.
use Rattle.std.specs.Prelude.{◌≡◌, ℕ, List, [], ◌∷◌, ◌++◌, fold, Option, Some, None, refl}
use Rattle.std.proofs.Common.{ap, sym, ◌∙◌, append_assoc, append-nil, subst}
use Rattle.std.proofs.lemmas.List.Sums.{fold-append}
use Rattle.std.proofs.KnownBytes.{Consumes-kept, Consumes-nil, Consumes-trans}
use Rattle.std.specs.Io.KnownBytes.{Consumes, Keeps}
use Rattle.ctl_sim.specs.Plain.{Plain, plain_after, plain_by, plain_octet}
use Rattle.modem_sim.specs.declared.state.ModemState.{ModemState}
use Rattle.ctl_sim.specs.declared.server.Mode.{Mode}
use Rattle.ctl_sim.specs.declared.server.Mode.TheVariants.{Lines, Mux}
use Rattle.ctl_sim.specs.Plain.{plain_begun}
use Rattle.ctl_sim.specs.InMux.{mux_end}
use Rattle.ctl_sim.specs.Serving as stage
use Rattle.ctl_sim.specs.Serving.{Answers, AnswersEntering, AnswersFrom, Entry, Setting, plain_by_now, with_more}
use Rattle.ctl_sim.specs.Standing.{AtLines, IsAtLines, Stands, setting_by, undecided, unsaid, with_said}
use Rattle.ctl_sim.proofs.Entries.{none_more}
use Rattle.ctl_sim.specs.declared.server.Setup.{Setup}

-- ## Known octets

-- a reader that keeps what it has gave nothing
pub consumed_none : (a b : Option (List ℕ)) → Keeps a b → Consumes a b []
consumed_none a b keeps = Consumes-kept a a b [] (Consumes-nil a) keeps

-- one that gives some octets, and then others, gives both: a name for tactics
pub consumed_more : (a b c : Option (List ℕ)) (xs ys : List ℕ) → Consumes a b xs → Consumes b c ys → Consumes a c (xs ++ ys)
consumed_more a b c xs ys p q = Consumes-trans a b c xs ys p q

-- ## Plain lines

said_octet_at : (o : Option ℕ) (s : List ℕ) (p : Plain) (c : ℕ) → p.entered ≡ o → plain_by o (with_said s p) c ≡ with_said s (plain_by o p c)
said_octet_at (Some n1) s p c is = refl
said_octet_at None s p c is = ap (λ x. record (plain_by None p c) { said = x }) (append_assoc s p.said _)

said_octet : (s : List ℕ) (p : Plain) (c : ℕ) → plain_octet (with_said s p) c ≡ with_said s (plain_octet p c)
said_octet s p c = said_octet_at p.entered s p c refl

said_fold : (s : List ℕ) (p : Plain) (octets : List ℕ) → fold plain_octet (with_said s p) octets ≡ with_said s (fold plain_octet p octets)
said_fold s p [] = refl
said_fold s p (c ∷ octets) = ap (λ q. fold plain_octet q octets) (said_octet s p c) ∙ said_fold s (plain_octet p c) octets

-- octets go on from where what was said is handed out
goes_on : (p : Plain) (octets : List ℕ) → plain_after p octets ≡ with_said p.said (plain_after (unsaid p) octets)
unfolding plain_after
goes_on p octets =
    ap (λ x. fold plain_octet (record p { said = x }) octets) (sym (append-nil p.said)) ∙ said_fold p.said (unsaid p) octets

-- octets taken in two pieces are as those taken at once
pub after_both : (p : Plain) (xs ys : List ℕ) → plain_after p (xs ++ ys) ≡ plain_after (plain_after p xs) ys
unfolding plain_after
after_both p xs ys = fold-append plain_octet p xs ys

-- no octets leave plain lines as they are
pub after_none : (p : Plain) → plain_after p [] ≡ p
unfolding plain_after
after_none p = refl

-- octets taken in two pieces, what was said to the first handed out between them, are as those taken at once
pub both_served : (p : Plain) (xs ys : List ℕ) → plain_after p (xs ++ ys) ≡ with_said (plain_after p xs).said (plain_after (unsaid (plain_after p xs)) ys)
both_served p xs ys = after_both p xs ys ∙ goes_on (plain_after p xs) ys

-- ## All of the input

answered_all : (s : Setting) (came went : List ℕ) (entries : List Entry) → AnswersFrom s (stage.Lines s.modem) (came ++ []) (went ++ []) (with_more [] [] entries ++ []) → AnswersEntering s came went entries
answered_all s came went entries answers =
    subst (λ (l : List ℕ). AnswersFrom s (stage.Lines s.modem) l went entries) (append-nil came)
    (subst (λ (l : List ℕ). AnswersFrom s (stage.Lines s.modem) (came ++ []) l entries) (append-nil went)
    (subst (λ (l : List Entry). AnswersFrom s (stage.Lines s.modem) (came ++ []) (went ++ []) l) (append-nil (with_more [] [] entries) ∙ none_more entries) answers))

-- what it came to, where all octets are taken
pub answers_entering : (s : Setting) (came went : List ℕ) (entries : List Entry) (mode : Mode) → Stands s came went entries mode [] → AnswersEntering s came went entries
answers_entering s came went entries (Lines p) at =
    answered_all s came went entries
    (at.leads [] [] [] (subst (λ (l : List ℕ). AnswersFrom s (stage.Lines at.modem) (at.lines ++ []) l []) (sym (append-nil (plain_by_now s at.modem at.lines).said))
    (subst (λ (l : List ℕ). AnswersFrom s (stage.Lines at.modem) l (plain_by_now s at.modem at.lines).said []) (sym (append-nil at.lines))
    (stage.at_lines at.modem at.lines at.none))))
answers_entering s came went entries (Mux mux) at =
    answered_all s came went entries
    (at.leads [] [] [] (subst (λ (l : List ℕ). AnswersFrom s (stage.Mux (mux_end mux.n1 at.modem s.steps) at.past) l [] []) (sym (append-nil mux.kept))
    (stage.no_frame (mux_end mux.n1 at.modem s.steps) at.past mux.kept mux.kept at.kept)))

-- so all that came is answered by what went
pub answers_by : (s : Setting) (came went : List ℕ) (entries : List Entry) (mode : Mode) → Stands s came went entries mode [] → Answers s came went
answers_by s came went entries mode at = record { entries = entries; entering = answers_entering s came went entries mode at }

-- plain lines that have begun stand where nothing came or went
pub begun_at : (s : Setting) (p : Plain) → p ≡ plain_begun s.n1 s.modem → AtLines s [] [] [] p []
begun_at s p is =
    let none = after_none (plain_begun s.n1 s.modem) in
    record {
      modem = s.modem;
      lines = [];
      none = ap (λ (q : Plain). q.entered) none;
      plain_is = is ∙ ap unsaid (sym none);
      leads = λ later more es answers. subst (λ (l : List ℕ). AnswersFrom s (stage.Lines s.modem) later l es) (ap (λ (q : Plain). q.said ++ more) none) answers;
    }

-- plain lines that were begun so
pub begun_mode : (setup : Setup) (m : ModemState) (mode : Mode) → IsAtLines setup m mode → Stands (setting_by setup m) [] [] [] mode []
begun_mode setup m mode is = subst (λ (o : Mode). Stands (setting_by setup m) [] [] [] o []) (sym is) (begun_at (setting_by setup m) (plain_begun setup.n1.octets m) refl)

-- of their octets none is undecided
pub none_undecided : (setup : Setup) (m : ModemState) (mode : Mode) → IsAtLines setup m mode → undecided mode ≡ []
none_undecided setup m mode is = ap undecided is
