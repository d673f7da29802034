-- The first word of a line, and what it wants behind it.
use Rattle.std.specs.Prelude.{◌≡◌, ◌≢◌, ℕ, Bool, true, false, List, [], ◌∷◌, ◌++◌, drop, codes, Option, Some, Result, Ok, refl, if◌then◌else◌}
use Rattle.std.proofs.Common.{sym, ap, inl, subst, ◌∙◌}
use Rattle.std.proofs.lemmas.Bool.{false≢true}
use Rattle.std.specs.Cmp.Lexicographic.{bytes_decides}
use Rattle.std.specs.Str.{bytes_eq}
use Rattle.hex.specs.Hex.{decode_of, decode_pairs}
use Rattle.hex.specs.declared.error.FromHexError.{FromHexError}
use Rattle.ctl_text.specs.LineFaults.{IsConnection, behind_word, first_word}
use Rattle.ctl_text.specs.declared.expected.Expected.{Expected}
use Rattle.ctl_text.proofs.FirstWords.{nothing_behind, whole}
use Rattle.ctl_run.specs.LineFaults.{DeedFault, EventFault, Follows, HasOctets, WordFault, deeds, events, follows, lone_fault}
use Rattle.ctl_run.specs.Script.{BeginsNone, IsNoWord}
use Rattle.ctl_run.specs.Steps.{ActsNone}

-- ## Rows

-- what holds where the word is that of the first row, and where it is looked for in the others
at_row : (word : List ℕ) (row : List ℕ × Follows) (rows : List (List ℕ × Follows)) (P : Option Follows → Type 0) → (word ≡ row.0 → P (Some row.1)) → P (follows rows word) → P (follows (row ∷ rows) word)
at_row word row rows P here later = by_test (bytes_eq word row.0) refl
  where
    by_test : (b : Bool) → bytes_eq word row.0 ≡ b → P (if b then Some row.1 else follows rows word)
    by_test true t = here ((bytes_decides word row.0).0 t)
    by_test false t = later

-- ## A line without a blank behind its first word

lone_word : (line word : List ℕ) → first_word line ≡ word → ((rest : List ℕ) → line ≢ word ++ 32 ∷ rest) → first_word line ≡ line
lone_word line word e none = by_word (bytes_eq (first_word line) line) refl
  where
    by_word : (b : Bool) → bytes_eq (first_word line) line ≡ b → first_word line ≡ line
    by_word true t = (bytes_decides (first_word line) line).0 t
    by_word false t =
        absurd (none (behind_word line)
        (whole line (λ same. false≢true (sym t ∙ (bytes_decides (first_word line) line).1 same)) ∙ ap (λ (w : List ℕ). w ++ 32 ∷ behind_word line) e))

bare : (line word : List ℕ) → first_word line ≡ word → ((rest : List ℕ) → line ≢ word ++ 32 ∷ rest) → behind_word line ≡ []
bare line word e none = nothing_behind line (lone_word line word e none)

empty_at : (b : Bool) (high low one : ℕ) → [] ≡ (if b then one ∷ [] else high ∷ low ∷ []) → ⊥
empty_at true high low one e = cc
empty_at false high low one e = cc

no_empty : IsConnection [] → ⊥
no_empty h = empty_at _ _ _ _ h.word_is

-- no connection stands behind it
no_connection : (line word : List ℕ) → first_word line ≡ word → ((rest : List ℕ) → line ≢ word ++ 32 ∷ rest) → IsConnection (first_word (behind_word line)) → ⊥
no_connection line word e none h = no_empty (subst (λ (l : List ℕ). IsConnection (first_word l)) (bare line word e none) h)

empty_is : (x : List ℕ) (r : Result (List ℕ) FromHexError) → r ≡ Ok [] → r ≡ Ok x → x ≡ []
empty_is x r e f = let same : Ok [] ≡ Ok x = sym e ∙ f in cc

empty_decodes : decode_of [] ≡ Ok []
unfolding decode_pairs
empty_decodes = refl

-- no digits are no octets
pub no_octets : HasOctets [] → ⊥
no_octets h = h.are.1 (empty_is h.octets (decode_of []) empty_decodes h.are.0)

-- no octets stand behind it
none_behind : (line word : List ℕ) → first_word line ≡ word → ((rest : List ℕ) → line ≢ word ++ 32 ∷ rest) → HasOctets (behind_word line) → ⊥
none_behind line word e none h = no_octets (subst HasOctets (bare line word e none) h)

-- more than the word stands there
more_behind : (line word : List ℕ) → first_word line ≡ word → line ≢ word → first_word line ≢ line
more_behind line word e n same = n (sym same ∙ e)

-- ## The rows

-- what is said of a row
abbrev Says : Expected → (line : List ℕ) → Option Follows → Type 0
Says unknown line o = WordFault unknown o line (lone_fault unknown o)

-- a line that begins as no event does has the fault of its first word
pub event_row : (line : List ℕ) → BeginsNone line → IsNoWord line → Says Expected.Event line (follows events (first_word line))
event_row line none alone =
    at_row (first_word line) (codes "open", Follows.Connection) (drop 1 events) (Says Expected.Event line) (λ e. inl (no_connection line (codes "open") e none.no_open, refl))
    (at_row (first_word line) (codes "close", Follows.Connection) (drop 2 events) (Says Expected.Event line) (λ e. inl (no_connection line (codes "close") e none.no_close, refl))
    (at_row (first_word line) (codes "cmd", Follows.Command) (drop 3 events) (Says Expected.Event line) (λ e. inl (no_connection line (codes "cmd") e none.no_cmd, refl))
    (at_row (first_word line) (codes "probe", Follows.Probe) (drop 4 events) (Says Expected.Event line) (λ e. inl (none_behind line (codes "probe") e none.no_probe, refl))
    (at_row (first_word line) (codes "in", Follows.Octets) (drop 5 events) (Says Expected.Event line) (λ e. inl (none_behind line (codes "in") e none.no_in, refl))
    (at_row (first_word line) (codes "stop", Follows.Nothing) (drop 6 events) (Says Expected.Event line) (λ e. inl (more_behind line (codes "stop") e alone.0, refl))
    (at_row (first_word line) (codes "tick", Follows.Nothing) (drop 7 events) (Says Expected.Event line) (λ e. inl (more_behind line (codes "tick") e alone.1, refl))
    (at_row (first_word line) (codes "lost", Follows.Nothing) (drop 8 events) (Says Expected.Event line) (λ e. inl (more_behind line (codes "lost") e alone.2, refl)) refl)))))))

-- and words that begin as nothing does that a modem does
pub deed_row : (words : List ℕ) → ActsNone words → words ≢ codes "closedown" → Says Expected.Deed words (follows deeds (first_word words))
deed_row words none alone =
    at_row (first_word words) (codes "announce", Follows.Announcement) (drop 1 deeds) (Says Expected.Deed words) (λ e. inl (no_connection words (codes "announce") e none.no_announce, refl))
    (at_row (first_word words) (codes "stop", Follows.Connection) (drop 2 deeds) (Says Expected.Deed words) (λ e. inl (no_connection words (codes "stop") e none.no_stop, refl))
    (at_row (first_word words) (codes "go", Follows.Connection) (drop 3 deeds) (Says Expected.Deed words) (λ e. inl (no_connection words (codes "go") e none.no_go, refl))
    (at_row (first_word words) (codes "hold", Follows.Connections) (drop 4 deeds) (Says Expected.Deed words) (λ e. inl (no_connection words (codes "hold") e none.no_hold, refl))
    (at_row (first_word words) (codes "disconnect", Follows.Connection) (drop 5 deeds) (Says Expected.Deed words) (λ e. inl (no_connection words (codes "disconnect") e none.no_disconnect, refl))
    (at_row (first_word words) (codes "closedown", Follows.Nothing) (drop 6 deeds) (Says Expected.Deed words) (λ e. inl (more_behind words (codes "closedown") e alone, refl)) refl)))))

-- the same of a word that is known to be the first one
pub event_at : (line word : List ℕ) (fault : Expected) → word ≡ first_word line → fault ≡ lone_fault Expected.Event (follows events word) → BeginsNone line → IsNoWord line → EventFault line fault
event_at line word fault e f none alone = subst (EventFault line) (sym (f ∙ ap (λ (w : List ℕ). lone_fault Expected.Event (follows events w)) e)) (event_row line none alone)

-- and of the words of a modem's script
pub deed_at : (words word : List ℕ) (fault : Expected) → word ≡ first_word words → fault ≡ lone_fault Expected.Deed (follows deeds word) → ActsNone words → words ≢ codes "closedown" → DeedFault words fault
deed_at words word fault e f none alone = subst (DeedFault words) (sym (f ∙ ap (λ (w : List ℕ). lone_fault Expected.Deed (follows deeds w)) e)) (deed_row words none alone)
