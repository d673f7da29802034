-- Commands that set values, and their texts, both ways.
use Rattle.std.specs.Prelude.{◌≡◌, ℕ, ◌<◌, ◌==◌, nat_eq, Bool, true, false, List, [], ◌∷◌, ◌++◌, length, take, drop, Some, None, IfSome, refl, if◌then◌else◌, codes}
use Rattle.std.specs.List.{list_all, list_any, starts_with}
use Rattle.std.specs.Str.{bytes_eq}
use Rattle.std.proofs.Common.{arith, sym, ap, ◌∙◌}
use Rattle.std.proofs.lemmas.Bool.Decides.{nat_tests}
use Rattle.std.proofs.lemmas.List.{take-append-drop}
use Rattle.std.proofs.lemmas.Option.{IfSome_then}
use Rattle.at_text.specs.Octets.{is_digit, is_quote}
use Rattle.at_cmds.specs.declared.command.Command.{Command}
use Rattle.at_cmds.specs.declared.command.Command.TheVariants.{PinEnter, RegReport, OperChoose, ContextSet, ErrorMode}
use Rattle.at_cmds.specs.declared.command.OperChoice.TheVariants.{Manual}
use Rattle.at_cmds.specs.declared.command.Pdp.{Pdp}
use Rattle.at_cmds.specs.declared.command.Pdp.TheVariants.{Ip, Ipv6, Ipv4v6}
use Rattle.at_cmds.specs.declared.error.CmdError.{CmdError}
use Rattle.at_cmds.specs.declared.error.CmdError.TheVariants.{BadPin, BadApn, BadNumber}
use Rattle.at_cmds.specs.Params.{◌>>=◌, parameters, divided, unquoted}
use Rattle.at_cmds.specs.Forms.{numeral, numeral_in, cid_in, in_quotes, is_pin, is_oper, is_apn, is_in_apn, is_cid, is_mode}
use Rattle.at_cmds.specs.Commands.{text_of, context_text, pdp_text, refused_for}
use Rattle.at_cmds.specs.Values.{Name, Cpin, Creg, Cops, Cgdcont, Cmee, head, command_in, pin_in, mode_in, oper_in, pdp_in, context_value, context_set_in, after_equals}
use Rattle.at_cmds.proofs.command_texts.CommandLines.{both_true, all_weaker, run_is, numeral_digits, cid_small, behind_cid, context_text-split}
use Rattle.at_cmds.proofs.command_texts.CommandNames.{name_of}
use Rattle.at_cmds.proofs.values_read.ValueForms.{numeral_back, unquoted_back, IsNumeral, numeral_is, IsQuoted, quoted_is, if_some, bind_some, holds_of, same_octets}
use Rattle.at_cmds.proofs.values_read.Parameters.{is_plain, divided-plain, put_text-ended, parameters-quoted, joined, joined-parameters}

-- what is refused unless a test passes
pub not_refused : (b : Bool) (why : CmdError) → (if b then None else Some why) ≡ None → b ≡ true
not_refused true why is = refl
not_refused false why is = cc

-- a digit is no quote
pub digit_not_quote : (c : ℕ) → is_digit c ≡ true → is_quote c ≡ false
digit_not_quote c is = grind (arith, nat_tests)

-- nor is what may stand in the name of an access point
pub apn_not_quote : (c : ℕ) → is_in_apn c ≡ true → is_quote c ≡ false
apn_not_quote c is = grind (arith, nat_tests)

digit_plain : (c : ℕ) → is_digit c ≡ true → is_plain c ≡ true
digit_plain c is = grind (arith, nat_tests)

-- octets that are no quotes hold none
pub none_quoted : (test : ℕ → Bool) → ((c : ℕ) → test c ≡ true → is_quote c ≡ false) → (text : List ℕ) → list_all test text ≡ true → list_any is_quote text ≡ false
none_quoted test apart [] all = refl
none_quoted test apart (c ∷ text) all =
    let parts = both_true (test c) (list_all test text) all in
    rw (apart c parts.0) (none_quoted test apart text parts.1)

pin_back : (pin : List ℕ) → is_pin pin ≡ true → pin_in (61 ∷ in_quotes pin) ≡ Some pin
pin_back pin good =
    let read : unquoted (in_quotes pin) ≡ Some pin = unquoted_back pin (none_quoted is_digit digit_not_quote pin (run_is is_digit 4 8 pin good).all) in
    rw (read, good) refl

oper_back : (oper : List ℕ) → is_oper oper ≡ true → oper_in (codes "=1,2," ++ in_quotes oper) ≡ Some oper
oper_back oper good =
    let read : unquoted (in_quotes oper) ≡ Some oper = unquoted_back oper (none_quoted is_digit digit_not_quote oper (run_is is_digit 5 6 oper good).all) in
    rw (read, good) refl

mode_back : (n : ℕ) → is_mode n ≡ true → mode_in (61 ∷ numeral n) ≡ Some n
mode_back n good =
    let small : n < 100 = grind (arith, nat_tests) in
    rw (numeral_back n small, good) refl

-- a context that may be written has a number and an access point of their forms
pub context_may-at : (number name : Bool) → (if name then (if number then None else Some BadNumber) else Some BadApn) ≡ None → (number ≡ true) × (name ≡ true)
context_may-at true true may = (refl, refl)
context_may-at false true may = cc
context_may-at true false may = cc
context_may-at false false may = cc

-- the names of kinds hold no quote
pub pdp_not_quoted : (pdp : Pdp) → list_any is_quote (pdp_text pdp) ≡ false
pdp_not_quoted Ip = refl
pdp_not_quoted Ipv6 = refl
pdp_not_quoted Ipv4v6 = refl

pdp_back : (pdp : Pdp) → pdp_in (pdp_text pdp) ≡ Some pdp
pdp_back Ip = refl
pdp_back Ipv6 = refl
pdp_back Ipv4v6 = refl

second_param : (pdp : Pdp) (apn : List ℕ) → divided false (in_quotes apn) ≡ in_quotes apn ∷ [] → divided false (in_quotes (pdp_text pdp) ++ (codes "," ++ in_quotes apn)) ≡ in_quotes (pdp_text pdp) ∷ in_quotes apn ∷ []
second_param Ip apn last = ap (λ x. in_quotes (codes "IP") ∷ x) last
second_param Ipv6 apn last = ap (λ x. in_quotes (codes "IPV6") ∷ x) last
second_param Ipv4v6 apn last = ap (λ x. in_quotes (codes "IPV4V6") ∷ x) last

context_may : (cid : ℕ) (apn : List ℕ) → (if is_apn apn then (if is_cid cid then None else Some BadNumber) else Some BadApn) ≡ None → (is_cid cid ≡ true) × (is_apn apn ≡ true)
context_may cid apn may = context_may-at (is_cid cid) (is_apn apn) may

context_params : (cid : ℕ) (pdp : Pdp) (apn : List ℕ) → is_cid cid ≡ true → is_apn apn ≡ true → parameters (numeral cid ++ behind_cid pdp apn) ≡ numeral cid ∷ in_quotes (pdp_text pdp) ∷ in_quotes apn ∷ []
unfolding parameters
context_params cid pdp apn number name =
    let small = cid_small cid number in
    let digits : list_all is_plain (numeral cid) ≡ true = all_weaker is_digit is_plain digit_plain (numeral cid) (numeral_digits cid (omega arith)) in
    let last : divided false (in_quotes apn) ≡ in_quotes apn ∷ [] = parameters-quoted apn (none_quoted is_in_apn apn_not_quote apn (run_is is_in_apn 1 63 apn name).all) in
    divided-plain false (numeral cid) (behind_cid pdp apn) digits
    ∙ put_text-ended (numeral cid) (divided false (in_quotes (pdp_text pdp) ++ (codes "," ++ in_quotes apn)))
    ∙ ap (λ x. numeral cid ∷ x) (second_param pdp apn last)

context_back : (cid : ℕ) (pdp : Pdp) (apn : List ℕ) → is_cid cid ≡ true → is_apn apn ≡ true → context_value (numeral cid ∷ in_quotes (pdp_text pdp) ∷ in_quotes apn ∷ []) ≡ Some (cid, pdp, apn)
context_back cid pdp apn number name =
    let small = cid_small cid number in
    let first : numeral_in (numeral cid) ≡ Some cid = numeral_back cid (omega arith) in
    let second : unquoted (in_quotes (pdp_text pdp)) ≡ Some (pdp_text pdp) = unquoted_back (pdp_text pdp) (pdp_not_quoted pdp) in
    let third : unquoted (in_quotes apn) ≡ Some apn = unquoted_back apn (none_quoted is_in_apn apn_not_quote apn (run_is is_in_apn 1 63 apn name).all) in
    let read : cid_in (numeral cid) ≡ Some cid = rw (first, number) refl in
    rw (read, second, pdp_back pdp, third, name) refl

context_set_back : (cid : ℕ) (pdp : Pdp) (apn : List ℕ) → is_cid cid ≡ true → is_apn apn ≡ true → context_set_in (drop 10 (context_text cid pdp apn)) ≡ Some (cid, pdp, apn)
context_set_back cid pdp apn number name =
    ap (λ x. context_set_in (drop 10 x)) (context_text-split cid pdp apn)
    ∙ ap context_value (context_params cid pdp apn number name)
    ∙ context_back cid pdp apn number name

-- what stands behind this name in a command's text is read as the command
abbrev pub IsRead : Command → Name → Type 0
IsRead c n = command_in n (drop (length (head n)) (text_of c)) ≡ Some c

-- a command that sets values, and may be written, is the one that its value stands for
pub complete : (c : Command) → refused_for c ≡ None → IfSome (name_of c) (IsRead c)
unfolding command_in
complete (PinEnter pin) may = rw (pin_back pin (not_refused (is_pin pin) BadPin may)) refl
complete (RegReport n) may = rw (mode_back n (not_refused (is_mode n) BadNumber may)) refl
complete (OperChoose (Manual oper)) may = rw (oper_back oper (not_refused (is_oper oper) BadNumber may)) refl
complete (ContextSet cid pdp apn) may =
    let tests = context_may cid apn may in
    rw (context_set_back cid pdp apn tests.0 tests.1) refl
complete (ErrorMode n) may = rw (mode_back n (not_refused (is_mode n) BadNumber may)) refl
complete c may = tt

-- a text that begins with another one
pub started : (text start : List ℕ) → starts_with nat_eq text start ≡ true → text ≡ start ++ drop (length start) text
started text start begins =
    sym (take-append-drop (length start) text)
    ∙ ap (λ x. x ++ drop (length start) text) (sym (same_octets start (take (length start) text) begins))

-- a command of this name and this value, which may be written
pub record IsOf (n : Name) (value : List ℕ) (c : Command) : Type 0 where
  pub name : name_of c ≡ Some n
  pub valued : drop (length (head n)) (text_of c) ≡ value
  pub written : refused_for c ≡ None

after_is : (value : List ℕ) → IfSome (after_equals value) (λ text. value ≡ 61 ∷ text)
after_is [] = tt
after_is (c ∷ text) = if_some (c == 61) (Some text) None (λ behind. c ∷ text ≡ 61 ∷ behind) (λ is. let e : c ≡ 61 = grind (arith, nat_tests) in ap (λ x. x ∷ text) e) (λ is. tt)

record IsPinValue (value pin : List ℕ) : Type 0 where
  spelt : value ≡ 61 ∷ in_quotes pin
  good : is_pin pin ≡ true

pin_is : (value : List ℕ) → IfSome (pin_in value) (IsPinValue value)
pin_is value =
    bind_some (after_equals value) (λ text. unquoted text >>= (λ pin. if is_pin pin then Some pin else None)) (IsPinValue value) (λ text after.
    bind_some (unquoted text) (λ pin. if is_pin pin then Some pin else None) (IsPinValue value) (λ pin quoted.
    if_some (is_pin pin) (Some pin) None (IsPinValue value)
    (λ good. record {
      spelt = holds_of (after_equals value) (λ behind. value ≡ 61 ∷ behind) (after_is value) text after
          ∙ ap (λ x. 61 ∷ x) (holds_of (unquoted text) (IsQuoted text) (quoted_is text) pin quoted).spelt;
      good = good;
    })
    (λ bad. tt)))

record IsModeValue (value : List ℕ) (n : ℕ) : Type 0 where
  spelt : value ≡ 61 ∷ numeral n
  good : is_mode n ≡ true

mode_is : (value : List ℕ) → IfSome (mode_in value) (IsModeValue value)
mode_is value =
    bind_some (after_equals value) (λ text. numeral_in text >>= (λ n. if is_mode n then Some n else None)) (IsModeValue value) (λ text after.
    bind_some (numeral_in text) (λ n. if is_mode n then Some n else None) (IsModeValue value) (λ n read.
    if_some (is_mode n) (Some n) None (IsModeValue value)
    (λ good. record {
      spelt = holds_of (after_equals value) (λ behind. value ≡ 61 ∷ behind) (after_is value) text after
          ∙ ap (λ x. 61 ∷ x) (holds_of (numeral_in text) (IsNumeral text) (numeral_is text) n read).spelt;
      good = good;
    })
    (λ bad. tt)))

record IsOperValue (value oper : List ℕ) : Type 0 where
  spelt : value ≡ codes "=1,2," ++ in_quotes oper
  good : is_oper oper ≡ true

oper_is : (value : List ℕ) → IfSome (oper_in value) (IsOperValue value)
oper_is value =
    if_some (starts_with nat_eq value (codes "=1,2,")) (unquoted (drop 5 value) >>= (λ oper. if is_oper oper then Some oper else None)) None (IsOperValue value)
    (λ starts.
    bind_some (unquoted (drop 5 value)) (λ oper. if is_oper oper then Some oper else None) (IsOperValue value) (λ oper quoted.
    if_some (is_oper oper) (Some oper) None (IsOperValue value)
    (λ good. record {
      spelt = started value (codes "=1,2,") starts
          ∙ ap (λ x. codes "=1,2," ++ x) (holds_of (unquoted (drop 5 value)) (IsQuoted (drop 5 value)) (quoted_is (drop 5 value)) oper quoted).spelt;
      good = good;
    })
    (λ bad. tt)))
    (λ other. tt)

pdp_is : (text : List ℕ) → IfSome (pdp_in text) (λ pdp. text ≡ pdp_text pdp)
pdp_is text =
    let Holds : Pdp → Type 0 = λ pdp. text ≡ pdp_text pdp in
    if_some (bytes_eq text (codes "IP")) (Some Ip) (if bytes_eq text (codes "IPV6") then Some Ipv6 else (if bytes_eq text (codes "IPV4V6") then Some Ipv4v6 else None)) Holds
    (same_octets text (codes "IP"))
    (λ other.
    if_some (bytes_eq text (codes "IPV6")) (Some Ipv6) (if bytes_eq text (codes "IPV4V6") then Some Ipv4v6 else None) Holds
    (same_octets text (codes "IPV6"))
    (λ others.
    if_some (bytes_eq text (codes "IPV4V6")) (Some Ipv4v6) None Holds (same_octets text (codes "IPV4V6")) (λ none. tt)))

record IsCid (text : List ℕ) (n : ℕ) : Type 0 where
  spelt : text ≡ numeral n
  good : is_cid n ≡ true

cid_is : (text : List ℕ) → IfSome (cid_in text) (IsCid text)
cid_is text =
    bind_some (numeral_in text) (λ n. if is_cid n then Some n else None) (IsCid text) (λ n read.
    if_some (is_cid n) (Some n) None (IsCid text)
    (λ good. record {
      spelt = (holds_of (numeral_in text) (IsNumeral text) (numeral_is text) n read).spelt;
      good = good;
    })
    (λ bad. tt))

record AreContextParams (params : List (List ℕ)) (x : ℕ × Pdp × List ℕ) : Type 0 where
  spelt : joined params ≡ numeral x.0 ++ behind_cid x.1 x.2
  number : is_cid x.0 ≡ true
  name : is_apn x.2 ≡ true

three_params : (cid pdp apn : List ℕ) (n : ℕ) (k : Pdp) (kind a : List ℕ) → cid ≡ numeral n → pdp ≡ in_quotes kind → kind ≡ pdp_text k → apn ≡ in_quotes a → joined (cid ∷ pdp ∷ apn ∷ []) ≡ numeral n ++ behind_cid k a
three_params cid pdp apn n k kind a first second which third =
    ap (λ x. x ++ 44 ∷ (pdp ++ 44 ∷ apn)) first
    ∙ ap (λ x. numeral n ++ 44 ∷ (x ++ 44 ∷ apn)) (second ∙ ap in_quotes which)
    ∙ ap (λ x. numeral n ++ 44 ∷ (in_quotes (pdp_text k) ++ 44 ∷ x)) third

context_params_are : (params : List (List ℕ)) → IfSome (context_value params) (AreContextParams params)
context_params_are [] = tt
context_params_are (cid ∷ []) = tt
context_params_are (cid ∷ pdp ∷ []) = tt
context_params_are (cid ∷ pdp ∷ apn ∷ []) =
    let Holds = AreContextParams (cid ∷ pdp ∷ apn ∷ []) in
    bind_some (cid_in cid) (λ n. unquoted pdp >>= (λ kind. pdp_in kind >>= (λ k. unquoted apn >>= (λ a. if is_apn a then Some (n, k, a) else None)))) Holds (λ n number_read.
    bind_some (unquoted pdp) (λ kind. pdp_in kind >>= (λ k. unquoted apn >>= (λ a. if is_apn a then Some (n, k, a) else None))) Holds (λ kind kind_read.
    bind_some (pdp_in kind) (λ k. unquoted apn >>= (λ a. if is_apn a then Some (n, k, a) else None)) Holds (λ k which.
    bind_some (unquoted apn) (λ a. if is_apn a then Some (n, k, a) else None) Holds (λ a name_read.
    if_some (is_apn a) (Some (n, k, a)) None Holds
    (λ good.
    let number = holds_of (cid_in cid) (IsCid cid) (cid_is cid) n number_read in
    record {
      spelt = three_params cid pdp apn n k kind a
          number.spelt
          (holds_of (unquoted pdp) (IsQuoted pdp) (quoted_is pdp) kind kind_read).spelt
          (holds_of (pdp_in kind) (λ x. kind ≡ pdp_text x) (pdp_is kind) k which)
          (holds_of (unquoted apn) (IsQuoted apn) (quoted_is apn) a name_read).spelt;
      number = number.good;
      name = good;
    })
    (λ bad. tt)))))
context_params_are (cid ∷ pdp ∷ apn ∷ fourth ∷ more) = tt

record IsContextValue (value : List ℕ) (x : ℕ × Pdp × List ℕ) : Type 0 where
  spelt : value ≡ 61 ∷ (numeral x.0 ++ behind_cid x.1 x.2)
  number : is_cid x.0 ≡ true
  name : is_apn x.2 ≡ true

context_split : (value : List ℕ) → IfSome (context_set_in value) (IsContextValue value)
context_split value =
    bind_some (after_equals value) (λ text. context_value (parameters text)) (IsContextValue value) (λ text after.
    IfSome_then (context_value (parameters text)) (context_params_are (parameters text)) (λ x found. record {
      spelt = holds_of (after_equals value) (λ behind. value ≡ 61 ∷ behind) (after_is value) text after
          ∙ ap (λ y. 61 ∷ y) (sym (joined-parameters text) ∙ found.spelt);
      number = found.number;
      name = found.name;
    }))

context_valued : (value : List ℕ) (cid : ℕ) (pdp : Pdp) (apn : List ℕ) → value ≡ 61 ∷ (numeral cid ++ behind_cid pdp apn) → drop 10 (context_text cid pdp apn) ≡ value
context_valued value cid pdp apn spelt = ap (drop 10) (context_text-split cid pdp apn) ∙ sym spelt

-- what a value stands for is a command that may be written, with this value
pub sound : (n : Name) (value : List ℕ) → IfSome (command_in n value) (IsOf n value)
unfolding command_in
sound Cpin value =
    bind_some (pin_in value) (λ pin. Some (PinEnter pin)) (IsOf Cpin value) (λ pin read.
    let found = holds_of (pin_in value) (IsPinValue value) (pin_is value) pin read in
    record { name = refl; valued = sym found.spelt; written = rw found.good refl })
sound Creg value =
    bind_some (mode_in value) (λ n. Some (RegReport n)) (IsOf Creg value) (λ n read.
    let found = holds_of (mode_in value) (IsModeValue value) (mode_is value) n read in
    record { name = refl; valued = sym found.spelt; written = rw found.good refl })
sound Cops value =
    bind_some (oper_in value) (λ oper. Some (OperChoose (Manual oper))) (IsOf Cops value) (λ oper read.
    let found = holds_of (oper_in value) (IsOperValue value) (oper_is value) oper read in
    record { name = refl; valued = sym found.spelt; written = rw found.good refl })
sound Cgdcont value =
    bind_some (context_set_in value) (λ x. Some (ContextSet x.0 x.1 x.2)) (IsOf Cgdcont value) (λ x read.
    let found = holds_of (context_set_in value) (IsContextValue value) (context_split value) x read in
    record { name = refl; valued = context_valued value x.0 x.1 x.2 found.spelt; written = rw (found.name, found.number) refl })
sound Cmee value =
    bind_some (mode_in value) (λ n. Some (ErrorMode n)) (IsOf Cmee value) (λ n read.
    let found = holds_of (mode_in value) (IsModeValue value) (mode_is value) n read in
    record { name = refl; valued = sym found.spelt; written = rw found.good refl })
