-- What later marks announce, and what lines call for on a connection.
use Rattle.std.specs.Prelude.{◌≡◌, ℕ, ◌==◌, Bool, true, false, List, [], ◌∷◌, ◌++◌, map, refl, if◌then◌else◌, Option, Some, None, option_map}
use Rattle.std.specs.List.{cons_option}
use Rattle.std.proofs.Common.{ap, sym, ◌∙◌, append_assoc, append-nil}
use Rattle.std.proofs.lemmas.Bool.{eq-eqb}
use Rattle.std.proofs.lemmas.List.Elements.{filter-append}
use Rattle.at_text.specs.declared.answer.AnswerLine.{AnswerLine}
use Rattle.at_text.specs.declared.unsolicited.UrcKind.{UrcKind}
use Rattle.at_text.specs.declared.unsolicited.UrcKind.TheVariants.{Other}
use Rattle.at_text.specs.declared.window.Seen as line_is
use Rattle.at_text.specs.declared.window.Seen.TheVariants.{Echo, Kept, Unsolicited}
use Rattle.at_text.specs.Dialects.{Dialect}
use Rattle.at_text.specs.Windows.{Mark, Line, Begun, lines_of}
use Rattle.at_text.specs.Seeing.{seen_after, seen_from, kind_of}
use Rattle.at_text.specs.Whole.{announced}
use Rattle.modem_desk.specs.declared.request.Request.{Request}
use Rattle.modem_history.specs.Acts.{Act, Took, Got, Sent, Told, Heard, Tick, Lost, Held, Freed, Given}
use Rattle.modem_history.specs.Information.{line_of}
use Rattle.modem_history.specs.Calls.{Setting, by_lines, by_seen, done, heard}
use Rattle.modem_history.specs.Hearing.{to_be_heard, listened}

-- ## Marks

-- a line is announced, or it isn't, before others that are
abbrev pub announced_one : line_is.Seen → List ℕ → List (UrcKind × List ℕ) → List (UrcKind × List ℕ)
announced_one x line rest = cons_option (option_map (λ (kind : UrcKind). (kind, line)) (kind_of x)) rest

-- what later marks announce, after earlier ones
abbrev pub announced_from : Dialect → List Mark → List Mark → List (UrcKind × List ℕ)
announced_from dialect past ms = announced (lines_of ms) (seen_from dialect past ms)

one_before : (o : Option (UrcKind × List ℕ)) (xs ys : List (UrcKind × List ℕ)) → cons_option o (xs ++ ys) ≡ cons_option o xs ++ ys
one_before None xs ys = refl
one_before (Some p) xs ys = refl

-- marks joined announce what the first do, and then what the second do behind these
pub announced_both : (dialect : Dialect) (past xs ys : List Mark) → announced_from dialect past (xs ++ ys) ≡ announced_from dialect past xs ++ announced_from dialect (past ++ xs) ys
announced_both dialect past [] ys = ap (λ (v : List Mark). announced_from dialect v ys) (sym (append-nil past))
announced_both dialect past (Line l ∷ xs) ys =
    let next = past ++ Line l ∷ [] in
    let x = seen_after dialect past l in
    ap (announced_one x l) (announced_both dialect next xs ys ∙ ap (λ (v : List Mark). announced_from dialect next xs ++ announced_from dialect v ys) (append_assoc past (Line l ∷ []) xs))
    ∙ one_before (option_map (λ (kind : UrcKind). (kind, l)) (kind_of x)) (announced_from dialect next xs) (announced_from dialect (past ++ Line l ∷ xs) ys)
announced_both dialect past (Begun c ∷ xs) ys =
    let next = past ++ Begun c ∷ [] in
    announced_both dialect next xs ys ∙ ap (λ (v : List Mark). announced_from dialect next xs ++ announced_from dialect v ys) (append_assoc past (Begun c ∷ []) xs)

-- commands announce nothing
pub announced_commands : (dialect : Dialect) (past : List Mark) (qs : List Request) → announced_from dialect past (map (λ (q : Request). Begun (line_of q)) qs) ≡ []
announced_commands dialect past [] = refl
announced_commands dialect past (q ∷ qs) = announced_commands dialect (past ++ Begun (line_of q) ∷ []) qs

-- ## What is to be heard

-- what is to be heard on d of joined acts is that of the first, and then that of the second
pub heard_both : (d : ℕ) (xs ys : List Act) → to_be_heard d (xs ++ ys) ≡ to_be_heard d xs ++ to_be_heard d ys
heard_both d [] ys = refl
heard_both d (Heard kind e line ∷ xs) ys =
    let here : List (UrcKind × List ℕ) = if e == d then (kind, line) ∷ [] else [] in
    ap (λ (v : List (UrcKind × List ℕ)). here ++ v) (heard_both d xs ys) ∙ sym (append_assoc here (to_be_heard d xs) (to_be_heard d ys))
heard_both d (Took r ∷ xs) ys = heard_both d xs ys
heard_both d (Got f ∷ xs) ys = heard_both d xs ys
heard_both d (Sent f ∷ xs) ys = heard_both d xs ys
heard_both d (Told o ∷ xs) ys = heard_both d xs ys
heard_both d (Tick ∷ xs) ys = heard_both d xs ys
heard_both d (Lost ∷ xs) ys = heard_both d xs ys
heard_both d (Held e ∷ xs) ys = heard_both d xs ys
heard_both d (Freed e ∷ xs) ys = heard_both d xs ys
heard_both d (Given ∷ xs) ys = heard_both d xs ys

done_silent : (d : ℕ) (owner : Option Request) (ls : List AnswerLine) → to_be_heard d (done owner ls) ≡ []
done_silent d None ls = refl
done_silent d (Some r) ls = refl

kind_heard : (b c : Bool) (p : UrcKind × List ℕ) → c ≡ true → (if b then (if c then p ∷ [] else []) ++ [] else []) ≡ (if b then p ∷ [] else [])
kind_heard true true p e = refl
kind_heard false true p e = refl
kind_heard b false p e = cc

if_heard : (b : Bool) (d e : ℕ) (kind : UrcKind) (line : List ℕ) → to_be_heard d (if b then Heard kind e line ∷ [] else []) ≡ (if b then (if e == d then (kind, line) ∷ [] else []) ++ [] else [])
if_heard true d e kind line = refl
if_heard false d e kind line = refl

listened_kind : (s : Setting) (d : ℕ) (kind : UrcKind) (line : List ℕ) → to_be_heard d (heard s d kind line) ≡ listened s ((kind, line) ∷ [])
listened_kind s d kind line = if_heard (s.listens kind) d d kind line ∙ kind_heard (s.listens kind) (d == d) (kind, line) (eq-eqb d d refl)

line_heard : (s : Setting) (d : ℕ) (owner : Option Request) (line : List ℕ) (x : line_is.Seen) → to_be_heard d (by_seen s d owner line x) ≡ listened s (announced_one x line [])
line_heard s d owner line Echo = refl
line_heard s d owner line Kept = refl
line_heard s d owner line (line_is.TheVariants.Done ls) = done_silent d owner ls
line_heard s d owner line (Unsolicited kind) = listened_kind s d kind line
line_heard s d owner line line_is.TheVariants.Other = listened_kind s d Other line

-- the listened lines of two lists joined are those of the first, and then those of the second
pub listened_both : (s : Setting) (xs ys : List (UrcKind × List ℕ)) → listened s (xs ++ ys) ≡ listened s xs ++ listened s ys
listened_both s xs ys = filter-append (λ (p : UrcKind × List ℕ). s.listens p.0) xs ys

one_first : (o : Option (UrcKind × List ℕ)) (rest : List (UrcKind × List ℕ)) → cons_option o [] ++ rest ≡ cons_option o rest
one_first None rest = refl
one_first (Some p) rest = refl

-- what lines call for on their connection is what they announce
pub lines_heard : (s : Setting) (d : ℕ) (owner : Option Request) (ms : List Mark) (ls : List (List ℕ)) → to_be_heard d (by_lines s d owner ms ls) ≡ listened s (announced_from s.dialect ms (map Line ls))
lines_heard s d owner ms [] = refl
lines_heard s d owner ms (l ∷ ls) =
    let x = seen_after s.dialect ms l in
    let next = ms ++ Line l ∷ [] in
    let rest = announced_from s.dialect next (map Line ls) in
    heard_both d (by_seen s d owner l x) (by_lines s d owner next ls)
    ∙ (ap (λ (v : List (UrcKind × List ℕ)). v ++ to_be_heard d (by_lines s d owner next ls)) (line_heard s d owner l x)
    ∙ (ap (λ (v : List (UrcKind × List ℕ)). listened s (announced_one x l []) ++ v) (lines_heard s d owner next ls)
    ∙ (sym (listened_both s (announced_one x l []) rest) ∙ ap (listened s) (one_first (option_map (λ (kind : UrcKind). (kind, l)) (kind_of x)) rest))))

-- and nothing on any other

elsewhere_heard : (b c : Bool) (p : UrcKind × List ℕ) → c ≡ false → (if b then (if c then p ∷ [] else []) ++ [] else []) ≡ []
elsewhere_heard true false p e = refl
elsewhere_heard false false p e = refl
elsewhere_heard b true p e = cc

kind_elsewhere : (s : Setting) (d e : ℕ) (kind : UrcKind) (line : List ℕ) → (e == d) ≡ false → to_be_heard d (heard s e kind line) ≡ []
kind_elsewhere s d e kind line h = if_heard (s.listens kind) d e kind line ∙ elsewhere_heard (s.listens kind) (e == d) (kind, line) h

line_elsewhere : (s : Setting) (d e : ℕ) (owner : Option Request) (line : List ℕ) (x : line_is.Seen) → (e == d) ≡ false → to_be_heard d (by_seen s e owner line x) ≡ []
line_elsewhere s d e owner line Echo h = refl
line_elsewhere s d e owner line Kept h = refl
line_elsewhere s d e owner line (line_is.TheVariants.Done ls) h = done_silent d owner ls
line_elsewhere s d e owner line (Unsolicited kind) h = kind_elsewhere s d e kind line h
line_elsewhere s d e owner line line_is.TheVariants.Other h = kind_elsewhere s d e Other line h

none_both : (xs ys : List (UrcKind × List ℕ)) → xs ≡ [] → ys ≡ [] → xs ++ ys ≡ []
none_both [] ys e f = f
none_both (x ∷ xs) ys e f = cc

-- lines on e call for nothing to be heard on another connection d
pub lines_elsewhere : (s : Setting) (d e : ℕ) (owner : Option Request) (ms : List Mark) (ls : List (List ℕ)) → (e == d) ≡ false → to_be_heard d (by_lines s e owner ms ls) ≡ []
lines_elsewhere s d e owner ms [] h = refl
lines_elsewhere s d e owner ms (l ∷ ls) h =
    let x = seen_after s.dialect ms l in
    let rest = by_lines s e owner (ms ++ Line l ∷ []) ls in
    heard_both d (by_seen s e owner l x) rest
    ∙ none_both (to_be_heard d (by_seen s e owner l x)) (to_be_heard d rest) (line_elsewhere s d e owner l x h) (lines_elsewhere s d e owner (ms ++ Line l ∷ []) ls h)
