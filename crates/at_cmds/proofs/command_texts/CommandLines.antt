-- The texts of commands are command lines.
use Rattle.std.specs.Prelude.{◌≡◌, ℕ, ◌<◌, ◌≤◌, ◌&&◌, Bool, true, false, List, [], ◌∷◌, ◌++◌, length, nat_le, None, refl, codes}
use Rattle.std.specs.List.{list_all}
use Rattle.std.proofs.Common.{arith, length-append, append_assoc, ap, ◌∙◌}
use Rattle.std.proofs.lemmas.Bool.Decides.{nat_tests}
use Rattle.at_text.specs.Octets.{is_digit}
use Rattle.at_text.specs.Commands.{has_at, refusal_of, is_printable}
use Rattle.at_cmds.specs.declared.command.Pdp.{Pdp}
use Rattle.at_cmds.specs.declared.command.Pdp.TheVariants.{Ip, Ipv6, Ipv4v6}
use Rattle.at_cmds.specs.Forms.{numeral, in_quotes, is_run, is_pin, is_oper, is_apn, is_in_apn, is_cid}
use Rattle.at_cmds.specs.Commands.{pdp_text, context_text}

-- if two tests hold together, each holds
pub both_true : (a b : Bool) → (a && b) ≡ true → (a ≡ true) × (b ≡ true)
both_true true b h = (refl, h)
both_true false b h = cc

-- octets that all pass, behind others that do, all pass
pub all_append : (test : ℕ → Bool) (a b : List ℕ) → list_all test a ≡ true → list_all test b ≡ true → list_all test (a ++ b) ≡ true
all_append test [] b first second = second
all_append test (c ∷ a) b first second =
    let parts = both_true (test c) (list_all test a) first in
    rw (parts.0) (all_append test a b parts.1 second)

-- octets that pass a test pass a weaker one
pub all_weaker : (strong weak : ℕ → Bool) → ((c : ℕ) → strong c ≡ true → weak c ≡ true) → (text : List ℕ) → list_all strong text ≡ true → list_all weak text ≡ true
all_weaker strong weak follows [] all = refl
all_weaker strong weak follows (c ∷ text) all =
    let parts = both_true (strong c) (list_all strong text) all in
    rw (follows c parts.0) (all_weaker strong weak follows text parts.1)

-- a digit is printable
pub digit_printable : (c : ℕ) → is_digit c ≡ true → is_printable c ≡ true
digit_printable c is = grind (arith, nat_tests)

-- and so is what may stand in the name of an access point
pub apn_printable : (c : ℕ) → is_in_apn c ≡ true → is_printable c ≡ true
apn_printable c is = grind (arith, nat_tests)

-- what a run is
pub record Run (test : ℕ → Bool) (low high : ℕ) (text : List ℕ) : Type 0 where
  pub all : list_all test text ≡ true
  pub least : low ≤ length text
  pub most : length text ≤ high

-- a text that is a run has octets of that sort alone, so many at least and so many at most
pub run_is : (test : ℕ → Bool) (least most : ℕ) (text : List ℕ) → is_run test least most text ≡ true → Run test least most text
run_is test least most text good =
    let parts = both_true (list_all test text) (nat_le least (length text) && nat_le (length text) most) good in
    let bounds = both_true (nat_le least (length text)) (nat_le (length text) most) parts.1 in
    record { all = parts.0; least = grind (arith, nat_tests); most = grind (arith, nat_tests) }

-- a text with AT in front, printable and of at most 256 octets, is a command line
pub line_fits : (text : List ℕ) → has_at text ≡ true → list_all is_printable text ≡ true → length text ≤ 256 → refusal_of text ≡ None
line_fits text at good short = rw (at, good) (grind (arith, nat_tests))

-- a printable text and a quote behind it
closed : (text : List ℕ) → list_all is_printable text ≡ true → list_all is_printable (text ++ 34 ∷ []) ≡ true
closed text good = all_append is_printable text (34 ∷ []) good refl

-- the text that enters a PIN is a command line
pub pin_fits : (pin : List ℕ) → is_pin pin ≡ true → refusal_of (codes "AT+CPIN=" ++ in_quotes pin) ≡ None
pin_fits pin good =
    let run = run_is is_digit 4 8 pin good in
    let short : length (pin ++ 34 ∷ []) ≤ 9 = rw length-append (omega (arith, run.most)) in
    line_fits (codes "AT+CPIN=" ++ in_quotes pin) refl (closed pin (all_weaker is_digit is_printable digit_printable pin run.all)) (omega arith)

-- and so is that which chooses an operator
pub oper_fits : (oper : List ℕ) → is_oper oper ≡ true → refusal_of (codes "AT+COPS=1,2," ++ in_quotes oper) ≡ None
oper_fits oper good =
    let run = run_is is_digit 5 6 oper good in
    let short : length (oper ++ 34 ∷ []) ≤ 7 = rw length-append (omega (arith, run.most)) in
    line_fits (codes "AT+COPS=1,2," ++ in_quotes oper) refl (closed oper (all_weaker is_digit is_printable digit_printable oper run.all)) (omega arith)

-- the numeral of a number below 100 has digits alone
pub numeral_digits : (n : ℕ) → n < 100 → list_all is_digit (numeral n) ≡ true
numeral_digits n small = grind (arith, nat_tests)

-- a numeral has two octets at most
pub length-numeral : (n : ℕ) → length (numeral n) ≤ 2
length-numeral n = grind (arith, nat_tests)

-- a context's number is 1 to 15
pub cid_small : (cid : ℕ) → is_cid cid ≡ true → (1 ≤ cid) × (cid ≤ 15)
cid_small cid number = let parts = both_true (nat_le 1 cid) (nat_le cid 15) number in (grind (arith, nat_tests), grind (arith, nat_tests))

-- what stands behind the number of a context
abbrev pub behind_cid : Pdp → List ℕ → List ℕ
behind_cid pdp apn = codes "," ++ (in_quotes (pdp_text pdp) ++ (codes "," ++ in_quotes apn))

regroup : (h a b c d e : List ℕ) → ((((h ++ a) ++ b) ++ c) ++ d) ++ e ≡ h ++ (a ++ (b ++ (c ++ (d ++ e))))
regroup h a b c d e = simp append_assoc

-- the text that defines a context is its head, the context's number and what stands behind that
pub context_text-split : (cid : ℕ) (pdp : Pdp) (apn : List ℕ) → context_text cid pdp apn ≡ codes "AT+CGDCONT=" ++ (numeral cid ++ behind_cid pdp apn)
context_text-split cid pdp apn = regroup (codes "AT+CGDCONT=") (numeral cid) (codes ",") (in_quotes (pdp_text pdp)) (codes ",") (in_quotes apn)

pdp_printable : (pdp : Pdp) (apn : List ℕ) → list_all is_printable (apn ++ 34 ∷ []) ≡ true → list_all is_printable (behind_cid pdp apn) ≡ true
pdp_printable Ip apn good = good
pdp_printable Ipv6 apn good = good
pdp_printable Ipv4v6 apn good = good

length-behind : (pdp : Pdp) (apn : List ℕ) → length (apn ++ 34 ∷ []) ≤ 64 → length (behind_cid pdp apn) ≤ 80
length-behind Ip apn short = omega arith
length-behind Ipv6 apn short = omega arith
length-behind Ipv4v6 apn short = omega arith

context_fits_split : (cid : ℕ) (pdp : Pdp) (apn : List ℕ) → is_cid cid ≡ true → is_apn apn ≡ true → refusal_of (codes "AT+CGDCONT=" ++ (numeral cid ++ behind_cid pdp apn)) ≡ None
context_fits_split cid pdp apn number name =
    let run = run_is is_in_apn 1 63 apn name in
    let small = cid_small cid number in
    let end_good : list_all is_printable (apn ++ 34 ∷ []) ≡ true = closed apn (all_weaker is_in_apn is_printable apn_printable apn run.all) in
    let number_good : list_all is_printable (numeral cid) ≡ true = all_weaker is_digit is_printable digit_printable (numeral cid) (numeral_digits cid (omega arith)) in
    let end_short : length (apn ++ 34 ∷ []) ≤ 64 = rw length-append (omega (arith, run.most)) in
    let rest_short : length (behind_cid pdp apn) ≤ 80 = length-behind pdp apn end_short in
    let short : length (numeral cid ++ behind_cid pdp apn) ≤ 100 = rw length-append (omega (arith, length-numeral cid)) in
    line_fits (codes "AT+CGDCONT=" ++ (numeral cid ++ behind_cid pdp apn)) refl (all_append is_printable (numeral cid) (behind_cid pdp apn) number_good (pdp_printable pdp apn end_good)) (omega arith)

-- and is a command line, where the context's number and its access point have their forms
pub context_fits : (cid : ℕ) (pdp : Pdp) (apn : List ℕ) → is_cid cid ≡ true → is_apn apn ≡ true → refusal_of (context_text cid pdp apn) ≡ None
context_fits cid pdp apn number name = ap refusal_of (context_text-split cid pdp apn) ∙ context_fits_split cid pdp apn number name
