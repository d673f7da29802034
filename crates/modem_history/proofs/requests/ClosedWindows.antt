-- Lines that close a window take its request off.
use Rattle.std.specs.Prelude.{◌≡◌, ℕ, Bool, true, false, List, [], ◌∷◌, ◌++◌, map, refl, if◌then◌else◌, Option, Some, None, is_some, is_none, option_map}
use Rattle.std.proofs.Common.{ap, sym, ◌∙◌, append-nil, append_assoc}
use Rattle.at_text.specs.declared.answer.AnswerLine.{AnswerLine}
use Rattle.at_text.specs.declared.unsolicited.UrcKind.{UrcKind}
use Rattle.at_text.specs.declared.unsolicited.UrcKind.TheVariants.{Other}
use Rattle.at_text.specs.declared.window.Seen as line_is
use Rattle.at_text.specs.declared.window.Seen.TheVariants.{Echo, Kept, Done, Unsolicited}
use Rattle.at_text.specs.Dialects.{Dialect}
use Rattle.at_text.specs.Windows.{Mark, Line, Window, open_window}
use Rattle.at_text.specs.Seeing.{by_kind, seen_after}
use Rattle.at_text.specs.OpenWindow.{OpenWindow, shown, is_echo, with_line, seen_by, after_line}
use Rattle.at_text.proofs.windows.AnswerWindows.{shows_line, seen_line}
use Rattle.modem_desk.specs.declared.request.Request.{Request}
use Rattle.modem_desk.specs.declared.request.Answer.TheVariants.{Opened}
use Rattle.modem_history.specs.Acts.{Heard, without}
use Rattle.modem_history.specs.Calls.{Setting, by_lines, by_seen, done}
use Rattle.modem_history.proofs.calls.CalledActs.{line_said}
use Rattle.modem_history.proofs.requests.RequestsInHand.{outcome_of}
use Rattle.modem_history.proofs.outcomes.OutcomesAndLines.{taken_off, off_both}
use Rattle.modem_history.proofs.outcomes.OutcomeCounts.{done_closes, stays_closed, closed_tells_none}

-- the requests without the one that owned the window
abbrev pub minus : Option Request → List Request → List Request
minus None hand = hand
minus (Some r) hand = without (outcome_of r Opened) hand

done_off : (owner : Option Request) (ls : List AnswerLine) (hand : List Request) → taken_off (done owner ls) hand ≡ minus owner hand
done_off None ls hand = refl
done_off (Some r) ls hand = refl

heard_off : (b : Bool) (k : UrcKind) (d : ℕ) (l : List ℕ) (hand : List Request) → taken_off (if b then Heard k d l ∷ [] else []) hand ≡ hand
heard_off true k d l hand = refl
heard_off false k d l hand = refl

-- any other line takes none off
other_off : (s : Setting) (d : ℕ) (owner : Option Request) (l : List ℕ) (x : line_is.Seen) (hand : List Request) → ((ls : List AnswerLine) → x ≡ Done ls → ⊥) → taken_off (by_seen s d owner l x) hand ≡ hand
other_off s d owner l Echo hand h = refl
other_off s d owner l Kept hand h = refl
other_off s d owner l (Done ls) hand h = absurd (h ls refl)
other_off s d owner l (Unsolicited k) hand h = heard_off (s.listens k) k d l hand
other_off s d owner l line_is.TheVariants.Other hand h = heard_off (s.listens Other) Other d l hand

-- the first line, and then the others
line_first : (s : Setting) (d : ℕ) (owner : Option Request) (ms : List Mark) (l : List ℕ) (ls : List (List ℕ)) (hand : List Request)
    → taken_off (by_lines s d owner ms (l ∷ ls)) hand ≡ taken_off (by_lines s d owner (ms ++ Line l ∷ []) ls) (taken_off (by_seen s d owner l (seen_after s.dialect ms l)) hand)
line_first s d owner ms l ls hand = off_both (by_seen s d owner l (seen_after s.dialect ms l)) (by_lines s d owner (ms ++ Line l ∷ []) ls) hand (line_said s d owner l (seen_after s.dialect ms l))

regroup : (ms : List Mark) (l : List ℕ) (ls : List (List ℕ)) → (ms ++ Line l ∷ []) ++ map Line ls ≡ ms ++ map Line (l ∷ ls)
regroup ms l ls = append_assoc ms (Line l ∷ []) (map Line ls)

-- ## No window

-- where no window is open, lines take no request off
pub closed_off : (s : Setting) (d : ℕ) (owner : Option Request) (ms : List Mark) (ls : List (List ℕ)) (hand : List Request) → open_window s.dialect ms ≡ None → taken_off (by_lines s d owner ms ls) hand ≡ hand
closed_off s d owner ms [] hand e = refl
closed_off s d owner ms (l ∷ ls) hand e =
    line_first s d owner ms l ls hand
    ∙ (ap (taken_off (by_lines s d owner (ms ++ Line l ∷ []) ls)) (other_off s d owner l (seen_after s.dialect ms l) hand (λ got. closed_tells_none s.dialect ms l got e))
    ∙ closed_off s d owner (ms ++ Line l ∷ []) ls hand (stays_closed s.dialect ms l e))

-- and none opens by them
pub closed_stays : (dialect : Dialect) (ms : List Mark) (ls : List (List ℕ)) → open_window dialect ms ≡ None → open_window dialect (ms ++ map Line ls) ≡ None
closed_stays dialect ms [] e = ap (open_window dialect) (append-nil ms) ∙ e
closed_stays dialect ms (l ∷ ls) e = ap (open_window dialect) (sym (regroup ms l ls)) ∙ closed_stays dialect (ms ++ Line l ∷ []) ls (stays_closed dialect ms l e)

-- ## An open window

still_open : (k : Option UrcKind) (echo final : Bool) (o x y : OpenWindow) (got : List AnswerLine) → ((ls : List AnswerLine) → by_kind k (if echo then Echo else (if final then Done got else Kept)) ≡ Done ls → ⊥)
    → is_some (if is_none k then (if echo then Some x else (if final then None else Some y)) else Some o) ≡ true
still_open None true final o x y got h = refl
still_open None false true o x y got h = absurd (h got refl)
still_open None false false o x y got h = refl
still_open (Some k) echo final o x y got h = refl

some_shown : (dialect : Dialect) (w : Option Window) → is_some (option_map (shown dialect) w) ≡ is_some w
some_shown dialect None = refl
some_shown dialect (Some w) = refl

stays_open : (dialect : Dialect) (ms : List Mark) (w : Window) (l : List ℕ) → open_window dialect ms ≡ Some w → ((ls : List AnswerLine) → seen_after dialect ms l ≡ Done ls → ⊥) → is_some (open_window dialect (ms ++ Line l ∷ [])) ≡ true
stays_open dialect ms w l e h =
    let o = shown dialect w in
    let sees : seen_by dialect (Some o) l ≡ seen_after dialect ms l = ap (λ (v : Option Window). seen_by dialect (option_map (shown dialect) v) l) (sym e) ∙ seen_line dialect ms l in
    let never : (ls : List AnswerLine) → seen_by dialect (Some o) l ≡ Done ls → ⊥ = λ ls k. h ls (sym sees ∙ k) in
    sym (some_shown dialect (open_window dialect (ms ++ Line l ∷ [])))
    ∙ (ap is_some (sym (shows_line dialect ms l))
    ∙ (ap (λ (v : Option Window). is_some (after_line dialect (option_map (shown dialect) v) l)) e
    ∙ still_open (dialect.kind_of l) (is_echo o l) (dialect.is_final l) o (record o { fresh = false }) (with_line o l) (with_line o l).lines never))

is_window : (w : Option Window) → is_some w ≡ true → (v : Window) × (w ≡ Some v)
is_window None h = cc
is_window (Some v) h = (v, refl)

-- where lines close the window its request is taken off, and else none
pub open_off : (s : Setting) (d : ℕ) (owner : Option Request) (ms : List Mark) (ls : List (List ℕ)) (hand : List Request) (w : Window) → open_window s.dialect ms ≡ Some w
    → taken_off (by_lines s d owner ms ls) hand ≡ (if is_some (open_window s.dialect (ms ++ map Line ls)) then hand else minus owner hand)
open_off s d owner ms [] hand w e = sym (ap (λ (v : Option Window). if is_some v then hand else minus owner hand) (ap (open_window s.dialect) (append-nil ms) ∙ e))
open_off s d owner ms (l ∷ ls) hand w e =
    line_first s d owner ms l ls hand
    ∙ (by_line (seen_after s.dialect ms l) refl (λ v g. open_off s d owner (ms ++ Line l ∷ []) ls hand v g)
    ∙ ap (λ (v : List Mark). if is_some (open_window s.dialect v) then hand else minus owner hand) (regroup ms l ls))
  where
    next : List Mark
    next = ms ++ Line l ∷ []

    goes_on : (x : line_is.Seen) → ((got : List AnswerLine) → x ≡ Done got → ⊥) → seen_after s.dialect ms l ≡ x
        → ((v : Window) → open_window s.dialect next ≡ Some v → taken_off (by_lines s d owner next ls) hand ≡ (if is_some (open_window s.dialect (next ++ map Line ls)) then hand else minus owner hand))
        → taken_off (by_lines s d owner next ls) (taken_off (by_seen s d owner l x) hand) ≡ (if is_some (open_window s.dialect (next ++ map Line ls)) then hand else minus owner hand)
    goes_on x never g more =
        let here = is_window (open_window s.dialect next) (stays_open s.dialect ms w l e (λ got k. never got (sym g ∙ k))) in
        ap (taken_off (by_lines s d owner next ls)) (other_off s d owner l x hand never) ∙ more here.0 here.1

    by_line : (x : line_is.Seen) → seen_after s.dialect ms l ≡ x
        → ((v : Window) → open_window s.dialect next ≡ Some v → taken_off (by_lines s d owner next ls) hand ≡ (if is_some (open_window s.dialect (next ++ map Line ls)) then hand else minus owner hand))
        → taken_off (by_lines s d owner next ls) (taken_off (by_seen s d owner l x) hand) ≡ (if is_some (open_window s.dialect (next ++ map Line ls)) then hand else minus owner hand)
    by_line (Done got) g more =
        let none : open_window s.dialect next ≡ None = done_closes s.dialect ms l got g in
        ap (taken_off (by_lines s d owner next ls)) (done_off owner got hand)
        ∙ (closed_off s d owner next ls (minus owner hand) none
        ∙ sym (ap (λ (v : Option Window). if is_some v then hand else minus owner hand) (closed_stays s.dialect next ls none)))
    by_line Echo g more = goes_on Echo (λ got k. let x : Echo ≡ Done got = k in cc) g more
    by_line Kept g more = goes_on Kept (λ got k. let x : Kept ≡ Done got = k in cc) g more
    by_line (Unsolicited kind) g more = goes_on (Unsolicited kind) (λ got k. let x : Unsolicited kind ≡ Done got = k in cc) g more
    by_line line_is.TheVariants.Other g more = goes_on line_is.TheVariants.Other (λ got k. let x : line_is.TheVariants.Other ≡ Done got = k in cc) g more
