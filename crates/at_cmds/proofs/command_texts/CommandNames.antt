-- Texts in either case, and the names that they begin with.
use Rattle.std.specs.Prelude.{◌≡◌, ℕ, nat_lt, Bool, true, false, List, [], ◌∷◌, ◌++◌, length, take, drop, map, find, cond, Option, Some, None, IfSome, refl}
use Rattle.std.specs.Char.{to_ascii_lowercase}
use Rattle.std.specs.List.{list_all}
use Rattle.std.specs.Str.{bytes_eq}
use Rattle.std.proofs.Common.{arith, sym, ap, ◌∙◌}
use Rattle.std.proofs.lemmas.Bool.Decides.{nat_tests}
use Rattle.std.proofs.lemmas.List.{take-append-drop, take-map, drop-map, map-append}
use Rattle.at_cmds.specs.declared.command.Command.{Command}
use Rattle.at_cmds.specs.declared.command.Command.TheVariants.{PinEnter, RegReport, OperChoose, ContextSet, ErrorMode}
use Rattle.at_cmds.specs.declared.command.OperChoice.TheVariants.{Manual}
use Rattle.at_cmds.specs.Forms.{lowered}
use Rattle.at_cmds.specs.Commands.{IsEqualBehind, text_of, name_end}
use Rattle.at_cmds.specs.Values.{Name, Cpin, Creg, Cops, Cgdcont, Cmee, head, names, HasHead, has_name}
use Rattle.at_cmds.proofs.command_texts.CommandLines.{both_true}
use Rattle.at_cmds.proofs.values_read.ValueForms.{same_octets}

-- ## Letters in either case

lowered-split : (n : ℕ) (text : List ℕ) → lowered text ≡ lowered (take n text) ++ lowered (drop n text)
lowered-split n text =
    ap (map to_ascii_lowercase) (sym (take-append-drop n text))
    ∙ map-append to_ascii_lowercase (take n text) (drop n text)

-- texts that are equal but for the case of letters in their beginning are the same in lower case
pub lowered_equal : (n : ℕ) (a b : List ℕ) → IsEqualBehind n a b → lowered a ≡ lowered b
lowered_equal n a b is =
    lowered-split n a
    ∙ ap (λ x. x ++ lowered (drop n a)) is.letters
    ∙ ap (λ x. lowered (take n b) ++ lowered x) is.rest
    ∙ sym (lowered-split n b)

-- an octet that isn't a letter, since it is below them
abbrev pub is_below : ℕ → Bool
is_below c = nat_lt c 65

same_octet : (x y : ℕ) → to_ascii_lowercase x ≡ to_ascii_lowercase y → is_below y ≡ true → x ≡ y
same_octet x y same below = grind (arith, nat_tests)

same_below : (a b : List ℕ) → lowered a ≡ lowered b → list_all is_below b ≡ true → a ≡ b
same_below [] [] same below = refl
same_below [] (y ∷ b) same below = cc
same_below (x ∷ a) [] same below = cc
same_below (x ∷ a) (y ∷ b) same below =
    let parts = both_true (is_below y) (list_all is_below b) below in
    let first : to_ascii_lowercase x ≡ to_ascii_lowercase y = cc in
    let rest : lowered a ≡ lowered b = cc in
    ap (λ z. z ∷ a) (same_octet x y first parts.0) ∙ ap (λ z. y ∷ z) (same_below a b rest parts.1)

-- where the second has no letters behind such a beginning, the reverse holds
pub equal_lowered : (n : ℕ) (a b : List ℕ) → lowered a ≡ lowered b → list_all is_below (drop n b) ≡ true → IsEqualBehind n a b
equal_lowered n a b same below = record {
  letters = sym (take-map to_ascii_lowercase n a) ∙ ap (take n) same ∙ take-map to_ascii_lowercase n b;
  rest = same_below (drop n a) (drop n b)
      (sym (drop-map to_ascii_lowercase n a) ∙ ap (drop n) same ∙ drop-map to_ascii_lowercase n b)
      below;
}

-- ## The first that passes

found_step : {A : Type 0} (test : A → Bool) (x y : A) (o : Option A) (b : Bool) → test x ≡ b → (o ≡ Some y → test y ≡ true) → cond b (Some x) o ≡ Some y → test y ≡ true
found_step test x y o true is later found =
    let same : y ≡ x = cc in
    ap test same ∙ is
found_step test x y o false is later found = later found

-- what is found passes the test
pub found_passes : {A : Type 0} (test : A → Bool) (xs : List A) (y : A) → find test xs ≡ Some y → test y ≡ true
found_passes test [] y found = cc
found_passes test (x ∷ xs) y found = found_step test x y (find test xs) (test x) refl (found_passes test xs y) found

kept_step : {A : Type 0} (test good : A → Bool) (x y : A) (o : Option A) (b : Bool) → good x ≡ true → (o ≡ Some y → good y ≡ true) → cond b (Some x) o ≡ Some y → good y ≡ true
kept_step test good x y o true is later found =
    let same : y ≡ x = cc in
    ap good same ∙ is
kept_step test good x y o false is later found = later found

-- what holds of all holds of what is found
pub found_good : {A : Type 0} (test good : A → Bool) (xs : List A) (y : A) → list_all good xs ≡ true → find test xs ≡ Some y → good y ≡ true
found_good test good [] y all found = cc
found_good test good (x ∷ xs) y all found =
    let parts = both_true (good x) (list_all good xs) all in
    kept_step test good x y (find test xs) (test x) parts.0 (found_good test good xs y parts.1) found

-- ## Names

-- the name of a command that sets values
abbrev pub name_of : Command → Option Name
name_of (PinEnter pin) = Some Cpin
name_of (RegReport n) = Some Creg
name_of (OperChoose (Manual oper)) = Some Cops
name_of (ContextSet cid pdp apn) = Some Cgdcont
name_of (ErrorMode n) = Some Cmee
name_of _ = None

-- a command's text begins with this name
pub record Begins (c : Command) (n : Name) : Type 0 where
  pub end : name_end (text_of c) ≡ length (head n)
  pub start : take (length (head n)) (text_of c) ≡ head n

-- a command that sets values begins with its name
pub begins : (c : Command) → IfSome (name_of c) (Begins c)
begins (PinEnter pin) = record { end = refl; start = refl }
begins (RegReport n) = record { end = refl; start = refl }
begins (OperChoose (Manual oper)) = record { end = refl; start = refl }
begins (ContextSet cid pdp apn) = record { end = refl; start = refl }
begins (ErrorMode n) = record { end = refl; start = refl }
begins c = tt

-- the name that letters in lower case begin with
abbrev named_in : List ℕ → Option Name
named_in letters = find (λ n. bytes_eq (take (length (head n)) letters) (lowered (head n))) names

named-head : (n : Name) (rest : List ℕ) → named_in (lowered (head n) ++ rest) ≡ Some n
named-head Cpin rest = refl
named-head n rest = refl

-- a text that begins with a name has that name and no other
pub named : (n : Name) (text : List ℕ) → HasHead (head n) text → find (has_name text) names ≡ Some n
named n text has =
    let k = length (head n) in
    ap named_in (lowered-split k text ∙ ap (λ x. x ++ lowered (drop k text)) has)
    ∙ named-head n (lowered (drop k text))

-- a text that has a name begins with it
pub has_head : (n : Name) (text : List ℕ) → has_name text n ≡ true → HasHead (head n) text
has_head n text is =
    let k = length (head n) in
    sym (take-map to_ascii_lowercase k text) ∙ same_octets (take k (lowered text)) (lowered (head n)) is

unnamed-at : (text : List ℕ) (o : Option Name) → find (has_name text) names ≡ o → ((n : Name) → ¬ HasHead (head n) text) → o ≡ None
unnamed-at text None found none = refl
unnamed-at text (Some n) found none = absurd (none n (has_head n text (found_passes (has_name text) names n found)))

-- a text that begins with none of the names has none
pub unnamed : (text : List ℕ) → ((n : Name) → ¬ HasHead (head n) text) → find (has_name text) names ≡ None
unnamed text none = unnamed-at text (find (has_name text) names) refl none
