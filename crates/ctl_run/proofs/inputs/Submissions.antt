-- What the lines of a bench's input submit, read line by line.
use Rattle.std.specs.Prelude.{◌≡◌, ◌≢◌, ℕ, ◌+◌, ◌<◌, nat_lt, List, [], ◌∷◌, ◌++◌, length, refl}
use Rattle.std.proofs.Common.{sym, subst, ◌∙◌}
use Rattle.std.proofs.lemmas.List.{append_assoc, append-nil}
use Rattle.modem_bench.specs.declared.submission.Submission.{Submission}
use Rattle.ctl_text.specs.Words.{IsCommand, IsNoCommand, number_text}
use Rattle.ctl_run.specs.Bench.{AreSubmitted, IsNoSubmission, Submits, SubmitsNothing}
use Rattle.ctl_text.specs.Input.{input_lines}
use Rattle.ctl_text.specs.LineFaults.{behind_word, first_word}
use Rattle.ctl_text.proofs.CommandWords.{joined_words, lacks_number}
use Rattle.ctl_text.proofs.FirstWords.{behind_front, first_front}
use Rattle.ctl_run.specs.LineFaults.{SubmissionFault}
use Rattle.ctl_run.proofs.inputs.ReadLines.{IsRead, read_more}

-- so many lines are read, and what they submit
pub record ReadSubmissions (callers : ℕ) (input left : List ℕ) (all : List Submission) (place : ℕ) : Type 0 where
  pub read : IsRead (IsNoSubmission callers) (SubmissionFault callers) input left place
  pub said : (more : List Submission) → AreSubmitted callers (input_lines left) more → AreSubmitted callers (input_lines input) (all ++ more)

-- nothing is left: these are what the whole input submits
pub all_submitted : (callers : ℕ) (input left : List ℕ) (all : List Submission) (place : ℕ) → ReadSubmissions callers input left all place → left ≡ [] → AreSubmitted callers (input_lines input) all
all_submitted callers input left all place h e =
    let whole : AreSubmitted callers (input_lines input) (all ++ []) = h.said [] (rw e tt) in
    rw (sym (append-nil all)) whole

-- an empty line
pub passed_over : (callers : ℕ) (input left line rest : List ℕ) (all : List Submission) (place : ℕ) → ReadSubmissions callers input left all place → input_lines left ≡ line ∷ input_lines rest → length rest < length left → line ≡ [] → ReadSubmissions callers input rest all (place + 1)
passed_over callers input left line rest all place h e l n = record {
  read = read_more (IsNoSubmission callers) (SubmissionFault callers) input left line rest place h.read e l (λ b. b.0 n);
  said = λ more i. h.said more (rw (e, n) i);
}

submits : (callers : ℕ) (line : List ℕ) (lines : List (List ℕ)) (s : Submission) (all : List Submission) → line ≢ [] → Submits callers line s → AreSubmitted callers lines all → AreSubmitted callers (line ∷ lines) (s ∷ all)
submits callers [] lines s all f h rest = absurd (f refl)
submits callers (c ∷ line) lines s all f h rest = (h, rest)

-- a line that submits something
pub submitted_next : (callers : ℕ) (input left line rest : List ℕ) (all later : List Submission) (place : ℕ) (s : Submission) → ReadSubmissions callers input left all place → input_lines left ≡ line ∷ input_lines rest → length rest < length left → line ≢ [] → Submits callers line s → later ≡ all ++ s ∷ [] → ReadSubmissions callers input rest later (place + 1)
submitted_next callers input left line rest all later place s h e l f says n = record {
  read = read_more (IsNoSubmission callers) (SubmissionFault callers) input left line rest place h.read e l (λ b. b.1 s says);
  said = λ more i.
      rw (n, append_assoc all (s ∷ []) more)
      (h.said (s ∷ more) (rw e (submits callers line (input_lines rest) s more f says i)));
}

-- What a line submits.

-- what stands first and what behind it
parts : (callers : ℕ) (line : List ℕ) (s : Submission) (c : Submits callers line s) → (first_word line ≡ number_text s.caller) × (behind_word line ≡ c.words)
parts callers line s c =
    rw c.line_is (first_front (number_text s.caller) c.words (lacks_number (nat_lt s.caller 10) s.caller), behind_front (number_text s.caller) c.words (lacks_number (nat_lt s.caller 10) s.caller))

-- what follows it is no command on a connection
pub no_command : (callers : ℕ) (line : List ℕ) → IsNoCommand (behind_word line) → SubmitsNothing callers line
no_command callers line none s c = none s.dlci.number s.line (rw (parts callers line s c).1 c.command)

command_some : (words : List ℕ) (d : ℕ) (line : List ℕ) → IsCommand words d line → words ≢ []
command_some words d line c e = cut_some (number_text d) line (sym e ∙ c.words_are)
  where
    cut_some : (front back : List ℕ) → [] ≡ front ++ 32 ∷ back → ⊥
    cut_some [] back same = cc
    cut_some (x ∷ front) back same = cc

-- a caller, and a command on a connection behind it, submit that command
pub submits_so : (callers : ℕ) (line : List ℕ) (s : Submission) → first_word line ≡ number_text s.caller → s.caller < callers → IsCommand (behind_word line) s.dlci.number s.line → Submits callers line s
submits_so callers line s e below c = record {
  caller = below;
  words = behind_word line;
  line_is = joined_words line (number_text s.caller) (behind_word line) e refl (command_some (behind_word line) s.dlci.number s.line c);
  command = c;
}

-- the same of the words that were cut
pub submits_cut : (callers : ℕ) (line word words : List ℕ) (s : Submission) → word ≡ first_word line → words ≡ behind_word line → (s.caller < callers) × (word ≡ number_text s.caller) → IsCommand words s.dlci.number s.line → Submits callers line s
submits_cut callers line word words s e b is c = submits_so callers line s (sym e ∙ is.1) is.0 (subst (λ (l : List ℕ). IsCommand l s.dlci.number s.line) b c)
