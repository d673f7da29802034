-- Command lines that go out are read as those of them that are wholly sent.
use Rattle.std.specs.Prelude.{◌≡◌, ℕ, suc, ◌+◌, ◌-◌, ◌<◌, ◌≤◌, nat_le, nat_lt, Bool, true, false, List, [], ◌∷◌, ◌++◌, length, map, filter, take, drop, refl, if◌then◌else◌, Some, None}
use Rattle.std.specs.List.{concat, list_all}
use Rattle.std.proofs.Common.{ap, sym, ◌∙◌, arith, append-nil, append_assoc, length-append}
use Rattle.std.proofs.lemmas.Bool.{and_parts}
use Rattle.std.proofs.lemmas.Bool.Decides.{nat_tests}
use Rattle.std.proofs.lemmas.List.{take_all, take-append-le, take-append-drop, take-map}
use Rattle.std.proofs.Math.Seq.{drop-append_seam}
use Rattle.at_text.specs.declared.error.TextError.TheVariants.{NoAt, BadOctet, TooLong}
use Rattle.at_text.specs.Lines.{is_line_end, ended_runs, is_filled, cut, lines}
use Rattle.at_text.specs.Commands.{has_at, is_printable, refusal_of}
use Rattle.at_text.proofs.lines.UnfinishedLines.{has_end, no_run, has_end-take, ended_runs-behind}
use Rattle.modem_history.specs.Acts.{Act}
use Rattle.modem_history.specs.Connections.{with_cr, whole_in, wholly_sent}
use Rattle.modem_history.specs.Information.{accepted, line_of, information_out, texts}
use Rattle.modem_history.specs.Calls.{Setting}
use Rattle.modem_history.specs.Lawful.{Lawful}
use Rattle.modem_history.specs.Placements.{AreCommandLines, AreReadAsSent, ReadsAccepted}
use Rattle.modem_history.proofs.commands.TextCounts.{whole_none}
use Rattle.modem_history.proofs.commands.SentPrefixes.{leaves_once}
use Rattle.modem_history.proofs.lines.MarkPlaces.{texts_are}

-- ## A command line

-- it has octets, none of them ends a line, and it isn't cut
pub record IsLine (c : List ℕ) : Type 0 where
  pub filled : is_filled c ≡ true
  pub no_end : has_end c ≡ false
  pub short : length c ≤ 512

record Parts (a b l : Bool) : Type 0 where
  first : a ≡ true
  second : b ≡ true
  third : l ≡ false

parts_of : (a b l : Bool) → (if a then (if b then (if l then Some TooLong else None) else Some BadOctet) else Some NoAt) ≡ None → Parts a b l
parts_of true true false e = record { first = refl; second = refl; third = refl }
parts_of true true true e = cc
parts_of true false l e = cc
parts_of false b l e = cc

printable_inside : (c : ℕ) → is_printable c ≡ true → is_line_end c ≡ false
printable_inside c h = grind (arith, nat_tests)

none_ends : (c : List ℕ) → list_all is_printable c ≡ true → has_end c ≡ false
none_ends [] h = refl
none_ends (x ∷ c) h =
    let parts = and_parts (is_printable x) (list_all is_printable c) h in
    rw (printable_inside x parts.0) (none_ends c parts.1)

at_filled : (c : List ℕ) → has_at c ≡ true → is_filled c ≡ true
at_filled [] h = absurd (let e : false ≡ true = h in cc)
at_filled (x ∷ c) h = refl

not_longer : (n : ℕ) → nat_lt 256 n ≡ false → n ≤ 512
not_longer n h = let few : n ≤ 256 = grind (arith, nat_tests) in omega arith

command_line : (c : List ℕ) → refusal_of c ≡ None → IsLine c
command_line c e =
    let p = parts_of (has_at c) (list_all is_printable c) (nat_lt 256 (length c)) e in
    record { filled = at_filled c p.first; no_end = none_ends c p.second; short = not_longer (length c) p.third }

-- ## What stands behind it, and less than it

filled_more : (c : List ℕ) → is_filled c ≡ true → (runs : List (List ℕ)) → map cut (filter is_filled (c ∷ runs)) ≡ cut c ∷ map cut (filter is_filled runs)
filled_more [] h runs = absurd (let e : false ≡ true = h in cc)
filled_more (x ∷ c) h runs = refl

-- a command line and its CR are read as that line, and what stands behind as without them
pub line_more : (c y : List ℕ) → IsLine c → lines ((c ++ 13 ∷ []) ++ y) ≡ c ∷ lines y
line_more c y l =
    let runs : ended_runs (c ++ 13 ∷ y) ≡ (c ++ []) ∷ ended_runs y = ended_runs-behind c (13 ∷ y) l.no_end in
    ap lines (append_assoc c (13 ∷ []) y)
    ∙ (ap (λ (v : List (List ℕ)). map cut (filter is_filled v)) (runs ∙ ap (λ (v : List ℕ). v ∷ ended_runs y) (append-nil c))
    ∙ (filled_more c l.filled (ended_runs y)
    ∙ ap (λ (v : List ℕ). v ∷ lines y) (take_all 512 c l.short)))

lines_less : (out : List ℕ) → has_end out ≡ false → lines out ≡ []
lines_less out h = ap (λ (v : List (List ℕ)). map cut (filter is_filled v)) (no_run out h)

-- ## Whole texts

whole_first : (t : List ℕ) (ts : List (List ℕ)) (k : ℕ) → whole_in (length t + k) (t ∷ ts) ≡ whole_in k ts + 1
whole_first t ts k =
    let less : (length t + k) - length t ≡ k = omega arith in
    let enough : length t ≤ length t + k = omega arith in
    if_le (length t) (length t + k) (whole_in ((length t + k) - length t) ts + 1) 0 enough ∙ ap (λ (n : ℕ). whole_in n ts + 1) less
  where
    if_le : (a b : ℕ) (x y : ℕ) → a ≤ b → (if nat_le a b then x else y) ≡ x
    if_le a b x y h = grind (arith, nat_tests)

sent_first : (c : List ℕ) (cs : List (List ℕ)) (k : ℕ) → wholly_sent (length (c ++ 13 ∷ []) + k) (c ∷ cs) ≡ c ∷ wholly_sent k cs
sent_first c cs k = ap (λ (n : ℕ). take n (c ∷ cs)) (whole_first (c ++ 13 ∷ []) (with_cr cs) k ∙ one_more (whole_in k (with_cr cs)))
  where
    one_more : (n : ℕ) → n + 1 ≡ suc n
    one_more n = omega arith

sent_none : (c : List ℕ) (cs : List (List ℕ)) (k : ℕ) → k < length (c ++ 13 ∷ []) → wholly_sent k (c ∷ cs) ≡ []
sent_none c cs k h = ap (λ (n : ℕ). take n (c ∷ cs)) (whole_none (c ++ 13 ∷ []) (with_cr cs) k h)

-- ## All of them

abbrev Reads : List (List ℕ) → List ℕ → Type 0
Reads cs out = lines out ≡ wholly_sent (length out) cs

-- what is out goes as far as behind the first command
record GoesOn (t out more rest : List ℕ) : Type 0 where
  later : List ℕ
  begins : out ≡ t ++ later
  joins : later ++ rest ≡ more

goes_on : (t out more rest : List ℕ) → out ++ rest ≡ t ++ more → length t ≤ length out → GoesOn t out more rest
goes_on t out more rest e l =
    let n = length t in
    let first : take n out ≡ t = sym (take-append-le n out rest l) ∙ (ap (take n) e ∙ (take-append-le n t more (omega arith) ∙ take_all n t (omega arith))) in
    let split : out ≡ t ++ drop n out = sym (take-append-drop n out) ∙ ap (λ (v : List ℕ). v ++ drop n out) first in
    let all : t ++ (drop n out ++ rest) ≡ t ++ more = sym (append_assoc t (drop n out) rest) ∙ (ap (λ (v : List ℕ). v ++ rest) (sym split) ∙ e) in
    record { later = drop n out; begins = split; joins = sym (drop-append_seam t (drop n out ++ rest)) ∙ (ap (drop n) all ∙ drop-append_seam t more) }

-- or it ends inside of it
less_of : (c out more rest : List ℕ) → out ++ rest ≡ (c ++ 13 ∷ []) ++ more → length out < length (c ++ 13 ∷ []) → out ≡ take (length out) c
less_of c out more rest e l =
    let n = length out in
    let size : length (c ++ 13 ∷ []) ≡ length c + 1 = length-append c (13 ∷ []) in
    sym (take_all n out (omega arith))
    ∙ (sym (take-append-le n out rest (omega arith))
    ∙ (ap (take n) e
    ∙ (take-append-le n (c ++ 13 ∷ []) more (omega (arith, l)) ∙ take-append-le n c (13 ∷ []) (omega (arith, l, size)))))

read_on : (c : List ℕ) (cs : List (List ℕ)) (out rest : List ℕ) → IsLine c → ((later : List ℕ) → later ++ rest ≡ concat (with_cr cs) → Reads cs later)
    → out ++ rest ≡ (c ++ 13 ∷ []) ++ concat (with_cr cs) → (b : Bool) → nat_le (length (c ++ 13 ∷ [])) (length out) ≡ b → Reads (c ∷ cs) out
read_on c cs out rest l more e true h =
    let t = c ++ 13 ∷ [] in
    let g = goes_on t out (concat (with_cr cs)) rest e (at_most (length t) (length out) h) in
    let here : lines out ≡ c ∷ lines g.later = ap lines g.begins ∙ line_more c g.later l in
    let size : length out ≡ length t + length g.later = ap length g.begins ∙ length-append t g.later in
    here
    ∙ (ap (λ (v : List (List ℕ)). c ∷ v) (more g.later g.joins)
    ∙ (sym (sent_first c cs (length g.later)) ∙ ap (λ (n : ℕ). wholly_sent n (c ∷ cs)) (sym size)))
  where
    at_most : (a b : ℕ) → nat_le a b ≡ true → a ≤ b
    at_most a b h = grind (arith, nat_tests)
read_on c cs out rest l more e false h =
    let small = less (length (c ++ 13 ∷ [])) (length out) h in
    let inside : out ≡ take (length out) c = less_of c out (concat (with_cr cs)) rest e small in
    lines_less out (ap has_end inside ∙ has_end-take (length out) c l.no_end) ∙ sym (sent_none c cs (length out) small)
  where
    less : (a b : ℕ) → nat_le a b ≡ false → b < a
    less a b h = grind (arith, nat_tests)

none_out : (out rest : List ℕ) → out ++ rest ≡ [] → out ≡ []
none_out [] rest e = refl
none_out (x ∷ out) rest e = cc

read_as : (cs : List (List ℕ)) (out rest : List ℕ) → AreCommandLines cs → out ++ rest ≡ concat (with_cr cs) → Reads cs out
read_as [] out rest a e = ap lines (none_out out rest e) ∙ ap (λ (v : List ℕ). wholly_sent (length v) []) (sym (none_out out rest e))
read_as (c ∷ cs) out rest a e =
    read_on c cs out rest (command_line c a.0) (λ later k. read_as cs later rest a.1 k) e (nat_le (length (c ++ 13 ∷ [])) (length out)) refl

-- of command lines that go out, just those wholly sent are read, wherever they are cut
pub are_read_as_sent : (cs : List (List ℕ)) (out : List ℕ) → AreReadAsSent cs out
unfolding AreReadAsSent
are_read_as_sent cs out a p = read_as cs out p.rest a p.joins

-- and so, in a lawful history, of command lines accepted on each connection
pub reads_accepted : (s : Setting) (past : List Act) → Lawful s past → ReadsAccepted s past
unfolding ReadsAccepted
reads_accepted s past l d a =
    let qs = accepted s.role d past in
    let out = information_out s.role d past in
    let p = leaves_once s past l d in
    read_as (map line_of qs) out p.rest a (p.joins ∙ ap concat (texts_are qs))
    ∙ (ap (λ (ts : List (List ℕ)). take (whole_in (length out) ts) (map line_of qs)) (sym (texts_are qs)) ∙ take-map line_of (whole_in (length out) (texts qs)) qs)
