-- What a line of a script says.
use Rattle.std.specs.Prelude.{◌≡◌, ◌≢◌, ℕ, ◌<◌, nat_lt, List, [], ◌∷◌, ◌++◌, drop, codes, None, refl}
use Rattle.std.proofs.Common.{sym, ap, arith, inl, inr, subst, ◌∙◌}
use Rattle.at_text.specs.Commands.{refusal_of}
use Rattle.modem_desk.specs.declared.request.Ask.TheVariants as ask
use Rattle.ctl_run.specs.declared.script.Order.TheVariants as order
use Rattle.ctl_text.specs.Words.{number_text}
use Rattle.ctl_run.specs.Script.{ArePairsOf, SaysNothing}
use Rattle.ctl_text.specs.LineFaults.{behind_word, first_word}
use Rattle.ctl_text.specs.declared.expected.Expected.{Expected}
use Rattle.ctl_run.specs.LineFaults.{TextFault}
use Rattle.ctl_text.proofs.CommandWords.{is_connection, lacks_number}
use Rattle.ctl_text.proofs.FirstWords.{behind_front, first_front}

abbrev head_of : List ℕ → ℕ
head_of [] = 0
head_of (c ∷ text) = c

abbrev second_of : List ℕ → ℕ
second_of text = head_of (drop 1 text)

-- words after `cmd` that are no connection, blank and command line
abbrev AreNoCommand : List ℕ → Type 0
AreNoCommand words = (n : ℕ) (text : List ℕ) → n < 62 → refusal_of text ≡ None → words ≢ number_text n ++ 32 ∷ text

-- the first word is no connection
pub no_connection : (words : List ℕ) → ((n : ℕ) → n < 62 → first_word words ≢ number_text n) → AreNoCommand words
no_connection words unknown n text s r e = unknown n s (ap first_word e ∙ first_front (number_text n) text (lacks_number (nat_lt n 10) n))

-- what follows it is no command line
pub no_command_text : (words : List ℕ) → refusal_of (behind_word words) ≢ None → AreNoCommand words
no_command_text words refused n text s r e =
    refused (ap (λ (l : List ℕ). refusal_of (behind_word l)) e ∙ ap refusal_of (behind_front (number_text n) text (lacks_number (nat_lt n 10) n)) ∙ r)

-- behind a connection it is the command line that isn't as it must be
pub text_fault : (words : List ℕ) (d : ℕ) → first_word words ≡ number_text d → d < 62 → refusal_of (behind_word words) ≢ None → TextFault words Expected.Command
text_fault words d e known refused = inr (is_connection words d e known, inl (refused, refl))

-- words after `in` that are no octets
pub in_nothing : (word : List ℕ) → ((x : List ℕ) → ArePairsOf x word → ⊥) → SaysNothing (codes "in " ++ word)
in_nothing word h (order.Ask (ask.OpenChannel d)) s = absurd (let e = ap head_of s in omega (arith, e))
in_nothing word h (order.Ask (ask.CloseChannel d)) s = absurd (let e = ap head_of s in omega (arith, e))
in_nothing word h (order.Ask (ask.Command d text)) s = absurd (let e = ap head_of s.1 in omega (arith, e))
in_nothing word h (order.Ask (ask.Probe x)) s = absurd (let e = ap head_of s.1 in omega (arith, e))
in_nothing word h (order.Ask ask.Stop) s = absurd (let e = ap head_of s in omega (arith, e))
in_nothing word h (order.Octets x) s = h x (subst (ArePairsOf x) (sym (ap (drop 3) s.1)) s.2)
in_nothing word h order.Tick s = absurd (let e = ap head_of s in omega (arith, e))
in_nothing word h order.Lost s = absurd (let e = ap head_of s in omega (arith, e))
