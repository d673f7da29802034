-- A text is read as the only command whose text it is.
use Rattle.std.specs.Prelude.{◌≡◌, ℕ, ◌&&◌, Bool, true, false, List, length, drop, find, is_none, Option, Some, None, Result, Ok, Err, refl, codes}
use Rattle.std.specs.List.{list_all}
use Rattle.std.specs.Option.{option_map_or, option_or}
use Rattle.std.specs.Str.{bytes_eq}
use Rattle.std.proofs.Common.{sym, ap, ◌∙◌, subst}
use Rattle.at_cmds.specs.declared.command.Command.{Command}
use Rattle.at_cmds.specs.declared.command.Command.TheVariants.{PinEnter, RegReport, OperChoose, ContextSet, AttachSet, ErrorMode}
use Rattle.at_cmds.specs.declared.command.OperChoice.TheVariants.{Manual}
use Rattle.at_cmds.specs.declared.error.CmdError.{CmdError}
use Rattle.at_cmds.specs.Params.{◌>>=◌}
use Rattle.at_cmds.specs.Forms.{lowered, is_same}
use Rattle.at_cmds.specs.Commands.{text_of, fixed_text, fixed_commands, name_end, refused_for, IsEqualBehind, IsTextOf, IsOnly, IsUnread, Reads, has_own_text}
use Rattle.at_cmds.specs.Values.{Name, Cpin, Creg, Cops, Cgdcont, Cmee, head, names, HasHead, has_name, command_in, set_in, fixed_in, command_of, Gives}
use Rattle.at_cmds.proofs.values_read.ValueForms.{holds_of, same_octets}
use Rattle.at_cmds.proofs.command_texts.CommandLines.{both_true}
use Rattle.at_cmds.proofs.command_texts.CommandNames.{lowered_equal, equal_lowered, is_below, found_passes, found_good, name_of, Begins, begins, named, has_head, unnamed}
use Rattle.at_cmds.proofs.command_texts.TextTable.{IsOf, IsRead, complete, sound}

-- ## A command whose text it is, is read

-- a command among those whose text is fixed, unless it has a name of those that set values
abbrev fixed_unless : Option Name → Command → Option Command
fixed_unless None c = Some c
fixed_unless (Some n) c = None

fixed-own : (c : Command) → fixed_in (text_of c) ≡ fixed_unless (name_of c) c
fixed-own (PinEnter pin) = refl
fixed-own (RegReport n) = refl
fixed-own (OperChoose (Manual oper)) = refl
fixed-own (ContextSet cid pdp apn) = refl
fixed-own (AttachSet true) = refl
fixed-own (ErrorMode n) = refl
fixed-own c = refl

fixed-text : (text : List ℕ) (c : Command) → IsTextOf text c → fixed_in text ≡ fixed_unless (name_of c) c
fixed-text text c is =
    ap (λ x. find (λ d. bytes_eq x (lowered (fixed_text d))) fixed_commands) (lowered_equal (name_end (text_of c)) text (text_of c) is.equal)
    ∙ fixed-own c

set-text : (n : Name) (text : List ℕ) (c : Command) → name_of c ≡ Some n → IsTextOf text c → set_in text ≡ Some c
set-text n text c name is =
    let b = holds_of (name_of c) (Begins c) (begins c) n name in
    let equal = subst (λ k. IsEqualBehind k text (text_of c)) b.end is.equal in
    let has : HasHead (head n) text = equal.letters ∙ ap lowered b.start in
    ap (λ o. o >>= (λ m. command_in m (drop (length (head m)) text))) (named n text has)
    ∙ ap (command_in n) equal.rest
    ∙ holds_of (name_of c) (IsRead c) (complete c is.written) n name

read-text : (o : Option Name) (text : List ℕ) (c : Command) → name_of c ≡ o → IsTextOf text c → option_or (fixed_in text) (set_in text) ≡ Some c
read-text None text c name is = ap (λ x. option_or x (set_in text)) (fixed-text text c is ∙ ap (λ o. fixed_unless o c) name)
read-text (Some n) text c name is =
    ap (λ x. option_or x (set_in text)) (fixed-text text c is ∙ ap (λ o. fixed_unless o c) name)
    ∙ set-text n text c name is

-- a command whose text it is, is the command of a text
pub read_only : (text : List ℕ) (c : Command) → IsTextOf text c → command_of text ≡ Some c
unfolding command_of
read_only text c is = read-text (name_of c) text c refl is

-- ## What is read is a command whose text it is

-- a command whose text is fixed may be written, and has no letters behind its name
abbrev is_row : Command → Bool
is_row c = bytes_eq (text_of c) (fixed_text c) && (is_none (refused_for c) && list_all is_below (drop (name_end (text_of c)) (text_of c)))

none_is : {A : Type 0} (o : Option A) → is_none o ≡ true → o ≡ None
none_is None is = refl
none_is (Some x) is = cc

fixed-is : (text : List ℕ) (c : Command) → fixed_in text ≡ Some c → IsTextOf text c
fixed-is text c found =
    let row : is_row c ≡ true = found_good (λ d. is_same text (fixed_text d)) is_row fixed_commands c refl found in
    let first = both_true (bytes_eq (text_of c) (fixed_text c)) (is_none (refused_for c) && list_all is_below (drop (name_end (text_of c)) (text_of c))) row in
    let second = both_true (is_none (refused_for c)) (list_all is_below (drop (name_end (text_of c)) (text_of c))) first.1 in
    let same : lowered text ≡ lowered (fixed_text c) = same_octets (lowered text) (lowered (fixed_text c)) (found_passes (λ d. is_same text (fixed_text d)) fixed_commands c found) in
    record {
      written = none_is (refused_for c) second.0;
      equal = equal_lowered (name_end (text_of c)) text (text_of c) (same ∙ sym (ap lowered (same_octets (text_of c) (fixed_text c) first.0))) second.1;
    }

set-named : (n : Name) (text : List ℕ) (c : Command) → HasHead (head n) text → command_in n (drop (length (head n)) text) ≡ Some c → IsTextOf text c
set-named n text c has read =
    let value = drop (length (head n)) text in
    let found = holds_of (command_in n value) (IsOf n value) (sound n value) c read in
    let b = holds_of (name_of c) (Begins c) (begins c) n found.name in
    record {
      written = found.written;
      equal = subst (λ k. IsEqualBehind k text (text_of c)) (sym b.end) (record { letters = has ∙ sym (ap lowered b.start); rest = sym found.valued });
    }

set-is : (o : Option Name) (text : List ℕ) (c : Command) → find (has_name text) names ≡ o → (o >>= (λ n. command_in n (drop (length (head n)) text))) ≡ Some c → IsTextOf text c
set-is None text c found read = cc
set-is (Some n) text c found read = set-named n text c (has_head n text (found_passes (has_name text) names n found)) read

read-is : (o : Option Command) (text : List ℕ) (c : Command) → fixed_in text ≡ o → option_or o (set_in text) ≡ Some c → IsTextOf text c
read-is None text c found read = set-is (find (has_name text) names) text c refl read
read-is (Some d) text c found read =
    let same : d ≡ c = cc in
    subst (IsTextOf text) same (fixed-is text d found)

-- the command of a text is one whose text it is
pub read_is : (text : List ℕ) (c : Command) → command_of text ≡ Some c → IsTextOf text c
unfolding command_of
read_is text c read = read-is (fixed_in text) text c refl read

-- ## What reading answers

the_only : (text : List ℕ) (c : Command) → command_of text ≡ Some c → IsOnly (IsTextOf text) c
the_only text c read = record {
  is = read_is text c read;
  only = λ d is. let other = read_only text d is in cc;
}

unread : (text : List ℕ) (o : Option Command) → command_of text ≡ o → option_map_or has_own_text o false ≡ true → (c : Command) × IsUnread (IsTextOf text) c
unread text (Some c) read kept = (c, record { only = the_only text c read; has_text = kept })
unread text None read kept = cc

-- who answers the command of a text answers the only command whose text it is
pub reads : (text : List ℕ) (r : Result (Option Command) CmdError) → Gives r (command_of text) → Reads (IsTextOf text) r
reads text (Ok None) gives = λ c is. let other = read_only text c is in cc
reads text (Ok (Some c)) gives = the_only text c (sym gives)
reads text (Err why) gives =
    let found = unread text (command_of text) refl gives.1 in
    (gives.0, found.0, found.1)

-- the command of a text is the only one whose text it is, and there is none where it is none's
pub command_reads : (text : List ℕ) → Reads (IsTextOf text) (Ok (command_of text))
command_reads text = reads text (Ok (command_of text)) refl

-- a command whose text is fixed is that of its text
pub gives_fixed : (text : List ℕ) (c : Command) → Some c ≡ fixed_in text → Gives (Ok (Some c)) (command_of text)
unfolding command_of
gives_fixed text c found = ap (λ o. option_or o (set_in text)) found

-- where there is none, a command that sets values is
pub gives_set : (text : List ℕ) (r : Result (Option Command) CmdError) → None ≡ fixed_in text → Gives r (set_in text) → Gives r (command_of text)
unfolding command_of
gives_set text r none gives = subst (λ o. Gives r (option_or o (set_in text))) none gives

-- a text with a name sets what its value says
pub set_as : (n : Name) (text value : List ℕ) (r : Result (Option Command) CmdError) → HasHead (head n) text → value ≡ drop (length (head n)) text → Gives r (command_in n value) → Gives r (set_in text)
set_as n text value r has is gives =
    let P : Option Name → Type 0 = λ o. Gives r (o >>= (λ m. command_in m (drop (length (head m)) text))) in
    subst P (sym (named n text has)) (subst (λ v. Gives r (command_in n v)) is gives)

lacks : (n : Name) (text : List ℕ) → ¬ HasHead (codes "AT+CPIN") text → ¬ HasHead (codes "AT+CREG") text → ¬ HasHead (codes "AT+COPS") text → ¬ HasHead (codes "AT+CGDCONT") text → ¬ HasHead (codes "AT+CMEE") text → ¬ HasHead (head n) text
lacks Cpin text p r o d e = p
lacks Creg text p r o d e = r
lacks Cops text p r o d e = o
lacks Cgdcont text p r o d e = d
lacks Cmee text p r o d e = e

-- a text with none of the names sets nothing
pub set_none : (text : List ℕ) → ¬ HasHead (codes "AT+CPIN") text → ¬ HasHead (codes "AT+CREG") text → ¬ HasHead (codes "AT+COPS") text → ¬ HasHead (codes "AT+CGDCONT") text → ¬ HasHead (codes "AT+CMEE") text → Gives (Ok None) (set_in text)
set_none text p r o d e =
    sym (ap (λ x. x >>= (λ m. command_in m (drop (length (head m)) text))) (unnamed text (λ n. lacks n text p r o d e)))
