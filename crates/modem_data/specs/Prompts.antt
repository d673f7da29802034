-- The prompt for a text, among octets that come: `>` and a blank, 3E 20, at the beginning of a line (27.005, 3.3.1, 3.5.1).
use Rattle.std.specs.Prelude.{◌≡◌, ℕ, ◌==◌, ◌&&◌, Bool, true, false, List, [], ◌∷◌, ◌++◌, drop, if◌then◌else◌}
use Rattle.std.specs.Str.{bytes_eq}
use Rattle.at_text.specs.Lines.{is_line_end, kept_run}

-- ## Octet by octet

-- what stands behind a `>` that begins a line: nothing yet, or the blank of the prompt
abbrev pub may_prompt : List ℕ → Bool
may_prompt [] = true
may_prompt (c ∷ text) = c == 32

-- an octet is the prompt's `>`, or may be; whether it begins a line is given
abbrev pub is_mark : (starts : Bool) → ℕ → List ℕ → Bool
is_mark starts c text = starts && ((c == 62) && may_prompt text)

-- what stands before the prompt; where there is none all, but for a last `>` that may be its first octet
abbrev pub before_prompt : (starts : Bool) → List ℕ → List ℕ
before_prompt starts [] = []
before_prompt starts (c ∷ text) = if is_mark starts c text then [] else c ∷ before_prompt (is_line_end c) text

-- what stands behind it
abbrev pub behind_prompt : (starts : Bool) → List ℕ → List ℕ
behind_prompt starts [] = []
behind_prompt starts (c ∷ text) = if is_mark starts c text then drop 1 text else behind_prompt (is_line_end c) text

-- ## What it comes to

-- the line that hasn't ended at the end of a text is the prompt, or a `>` alone
abbrev pub prompts : List ℕ → Bool
prompts text = bytes_eq (kept_run text) (62 ∷ 32 ∷ [])

abbrev pub ends_with_mark : List ℕ → Bool
ends_with_mark text = bytes_eq (kept_run text) (62 ∷ [])

-- a `>` that is held back, or nothing
abbrev pub mark_if : Bool → List ℕ
mark_if true = 62 ∷ []
mark_if false = []

-- no beginning of a text is the prompt
unfoldable pub NeverPrompts : List ℕ → Type 0
NeverPrompts text = (x y : List ℕ) → text ≡ x ++ y → prompts x ≡ false

-- there is no prompt: all octets are lines, but for a last `>` alone in its line, which is held back
pub record IsUnprompted (text line_octets : List ℕ) : Type 0 where
  pub none : NeverPrompts text
  pub all : text ≡ line_octets ++ mark_if (ends_with_mark text)

-- the two octets of the first prompt are no lines, and all others are
pub record IsPrompted (text line_octets : List ℕ) : Type 0 where
  pub before : List ℕ
  pub behind : List ℕ
  pub joins : text ≡ before ++ (62 ∷ 32 ∷ behind)
  pub here : prompts (before ++ (62 ∷ 32 ∷ [])) ≡ true
  pub none_before : NeverPrompts (before ++ (62 ∷ []))
  pub lines_are : line_octets ≡ before ++ behind

-- the prompt has come, or it hasn't: these are then the octets of lines
abbrev pub IsPromptSplit : (text line_octets : List ℕ) → (has_come : Bool) → Type 0
IsPromptSplit text line_octets true = IsPrompted text line_octets
IsPromptSplit text line_octets false = IsUnprompted text line_octets
