-- Which words are a command on a connection.
use Rattle.std.specs.Prelude.{◌≡◌, ◌≢◌, ℕ, ◌+◌, ◌/◌, ◌%◌, ◌<◌, ◌≤◌, nat_lt, Bool, true, false, List, [], ◌∷◌, ◌++◌, length, Option, Some, None, MatchOption, refl, if◌then◌else◌}
use Rattle.std.proofs.Common.{sym, ap, arith, inl, inr, ◌∙◌}
use Rattle.std.specs.Str.Iter.{LacksByte}
use Rattle.at_text.specs.Commands.{refusal_of}
use Rattle.at_text.specs.declared.error.TextError.{TextError}
use Rattle.ctl_text.specs.LineFaults.{CommandFault, IsConnection, behind_word, first_word}
use Rattle.ctl_text.specs.Words.{IsCommand, IsNoCommand, number_text}
use Rattle.ctl_text.specs.declared.expected.Expected.{Expected}
use Rattle.ctl_text.proofs.CutTexts.{lacks_cons, lacks_head, lacks_nil, lacks_tail}
use Rattle.ctl_text.proofs.FirstWords.{as_long, behind_front, first_alone, first_front, not_alone, shorter, whole}

heads : (c d : ℕ) (xs ys : List ℕ) → c ∷ xs ≡ d ∷ ys → c ≡ d
heads c d xs ys e = cc

tails : (c d : ℕ) (xs ys : List ℕ) → c ∷ xs ≡ d ∷ ys → xs ≡ ys
tails c d xs ys e = cc

-- Numbers.

-- the digits of a number have no blank among them
pub lacks_number : (b : Bool) (n : ℕ) → LacksByte 32 (if b then (48 + n) ∷ [] else (48 + n / 10) ∷ (48 + n % 10) ∷ [])
lacks_number true n = lacks_cons 32 (48 + n) [] (λ e. omega (arith, e)) (lacks_nil 32)
lacks_number false n =
    lacks_cons 32 (48 + n / 10) ((48 + n % 10) ∷ []) (λ e. omega (arith, e))
    (lacks_cons 32 (48 + n % 10) [] (λ e. omega (arith, e)) (lacks_nil 32))

-- Cuts at the first blank.

-- a text has the octet that stands between two parts of it
pub lacks_middle : (c : ℕ) (f t : List ℕ) → LacksByte c (f ++ c ∷ t) → ⊥
lacks_middle c [] t h = h 0 (omega arith) refl
lacks_middle c (x ∷ f) t h = lacks_middle c f t (lacks_tail c x (f ++ c ∷ t) h)

-- a text is cut at its first such octet in one way
pub same_front : (c : ℕ) (f g t u : List ℕ) → LacksByte c f → LacksByte c g → f ++ c ∷ t ≡ g ++ c ∷ u → (f ≡ g) × (t ≡ u)
same_front c [] [] t u h i e = (refl, tails c c t u e)
same_front c [] (y ∷ g) t u h i e = absurd (lacks_head c y g i (sym (heads c y t (g ++ c ∷ u) e)))
same_front c (x ∷ f) [] t u h i e = absurd (lacks_head c x f h (heads x c (f ++ c ∷ t) u e))
same_front c (x ∷ f) (y ∷ g) t u h i e =
    let later = same_front c f g t u (lacks_tail c x f h) (lacks_tail c y g i) (tails x y (f ++ c ∷ t) (g ++ c ∷ u) e) in
    let first : x ≡ y = heads x y (f ++ c ∷ t) (g ++ c ∷ u) e in
    (rw (first, later.0) refl, later.1)

-- the number of a connection is one word
pub first_number : (n : ℕ) → first_word (number_text n) ≡ number_text n
first_number n = first_alone (number_text n) (lacks_number (nat_lt n 10) n)

-- Words that are a command, and such as are none.

-- a command line isn't empty
pub some_line : (text : List ℕ) → refusal_of text ≡ None → text ≢ []
some_line text h e = none_isnt (sym (ap refusal_of e) ∙ h)
  where
    none_isnt : refusal_of [] ≡ None → ⊥
    none_isnt same = cc

-- a word, and what stands behind it, where that isn't empty
pub joined_words : (words word text : List ℕ) → first_word words ≡ word → behind_word words ≡ text → text ≢ [] → words ≡ word ++ 32 ∷ text
joined_words words word text e b n =
    whole words (not_alone words (λ same. n (sym b ∙ same)))
    ∙ ap (λ (w : List ℕ). w ++ 32 ∷ behind_word words) e ∙ ap (λ (l : List ℕ). word ++ 32 ∷ l) b

-- a connection that carries commands, a blank and a command line are a command
pub is_command : (words : List ℕ) (d : ℕ) (line : List ℕ) → first_word words ≡ number_text d → behind_word words ≡ line → 1 ≤ d → d < 62 → refusal_of line ≡ None → IsCommand words d line
is_command words d line e b carries known good = record {
  carries = carries;
  known = known;
  is_line = good;
  words_are = joined_words words (number_text d) line e b (some_line line good);
}

-- the first word is the connection, and the line stands behind it
pub command_parts : (words : List ℕ) (d : ℕ) (line : List ℕ) → IsCommand words d line → (first_word words ≡ number_text d) × (behind_word words ≡ line)
command_parts words d line c =
    rw c.words_are (first_front (number_text d) line (lacks_number (nat_lt d 10) d), behind_front (number_text d) line (lacks_number (nat_lt d 10) d))

-- it is one
pub is_connection : (words : List ℕ) (d : ℕ) → first_word words ≡ number_text d → d < 62 → IsConnection (first_word words)
is_connection words d e known = record { number = d; known = known; word_is = e }

-- words that go on behind a connection are none
pub no_last : (words : List ℕ) → length (first_word words) < length words → (n : ℕ) → n < 62 → words ≢ number_text n
no_last words l n known e = shorter words l (ap first_word e ∙ first_number n ∙ sym e)

-- words that end with it are its number
pub last_number : (words word : List ℕ) (d : ℕ) → word ≡ first_word words → word ≡ number_text d → length words ≤ length word → words ≡ number_text d
last_number words word d first e l = sym (as_long words (let n = ap length first in omega (arith, l, n))) ∙ sym first ∙ e

-- words whose first word is no connection are none
pub no_first : (words : List ℕ) → ((n : ℕ) → n < 62 → first_word words ≢ number_text n) → (n : ℕ) → n < 62 → words ≢ number_text n
no_first words unknown n known e = unknown n known (ap first_word e ∙ first_number n)

-- the first word is no connection that carries commands
pub no_carrier : (words : List ℕ) → ((n : ℕ) → 1 ≤ n → n < 62 → first_word words ≢ number_text n) → IsNoCommand words
no_carrier words unknown d line c = unknown d c.carries c.known (command_parts words d line c).0

-- what follows it is no command line
pub no_line : (words : List ℕ) → refusal_of (behind_word words) ≢ None → IsNoCommand words
no_line words refused d line c = refused (ap refusal_of (command_parts words d line c).1 ∙ c.is_line)

-- and behind a connection that is the fault
pub line_fault : (words : List ℕ) (d : ℕ) → first_word words ≡ number_text d → 1 ≤ d → d < 62 → refusal_of (behind_word words) ≢ None → CommandFault words Expected.Command
line_fault words d e carries known refused =
    inr (record { number = d; carries = carries; known = known; word_is = e }, inl (refused, refl))

-- a text that was taken as a line
pub taken_line : (o : Option TextError) (line text : List ℕ) (Refused : TextError → Type 0) → ((why : TextError) → Refused why → ⊥) → MatchOption o (line ≡ text) Refused → (o ≡ None) × (line ≡ text)
taken_line None line text Refused n h = (refl, h)
taken_line (Some why) line text Refused n h = absurd (n why h)
