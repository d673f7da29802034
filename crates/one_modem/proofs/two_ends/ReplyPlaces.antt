-- Commands, lines and replies at their places.
use Rattle.std.specs.Prelude.{◌≡◌, ℕ, suc, ◌==◌, ◌||◌, not, nat_eq, Bool, true, false, List, [], ◌∷◌, ◌++◌, length, map, filter, Option, Some, None, refl, if◌then◌else◌, codes}
use Rattle.std.specs.List.{last_or, list_all, list_any, starts_with}
use Rattle.std.specs.Str.{bytes_eq}
use Rattle.std.proofs.Common.{arith, sym, ap, ◌∙◌, subst, append_assoc, append-nil, eqb-true}
use Rattle.std.proofs.lemmas.Slice.Eq.{bytes_eq-Decides}
use Rattle.std.proofs.lemmas.Bool.{and_parts}
use Rattle.std.proofs.lemmas.List.{map-append}
use Rattle.std.proofs.lemmas.List.Elements.{filter-append}
use Rattle.at_text.specs.declared.answer.AnswerLine.{AnswerLine}
use Rattle.at_text.specs.declared.error.TextError.TheVariants.{NoAt}
use Rattle.at_text.specs.Dialects.{standard, is_solicited}
use Rattle.at_text.specs.Commands.{has_at, refusal_of}
use Rattle.at_text.specs.Finals.{is_final}
use Rattle.at_text.specs.Seeing.{answer_lines}
use Rattle.at_text.specs.Windows.{Mark, Line, Begun, Window, IsInTurn, answered, last_window, lines_of, open_window, up_to_final, windows, without_echo}
use Rattle.at_cmds.proofs.command_texts.TextTable.{started}
use Rattle.at_cmds.proofs.values_read.ValueForms.{same_octets}
use Rattle.modem_history.specs.Begun.{IsInOrder}
use Rattle.modem_history.specs.Connections.{begun_in, lines_on}
use Rattle.modem_history.proofs.commands.BegunCommands.{begun_counted}
use Rattle.modem_history.proofs.commands.CommandOrder.{counts, open_count, order_begun, order_line}
use Rattle.modem_history.proofs.lines.LinePlaces.{lines_placed_are}
use Rattle.modem_sim.specs.declared.modem.ModemStart.{ModemStart}
use Rattle.modem_sim.specs.declared.state.ModemState.{ModemState}
use Rattle.modem_sim.specs.Doing.{is_line}
use Rattle.modem_sim.specs.Heard.{texts_of}
use Rattle.modem_sim.specs.Laws.{EndsOnce, IsStart, after_lines, reached}
use Rattle.modem_sim.specs.Pieces.{answers, echoed}
use Rattle.modem_sim.specs.LineSteps.{step}
use Rattle.modem_sim.specs.Replied.{all_of, is_answer_line, replied_on, text_of, written_for}
use Rattle.modem_sim.proofs.replies.AnswerEnds.{reached_answers_well}
use Rattle.modem_sim.proofs.connections.OctetReplies.{after_lines-append}
use Rattle.modem_sim.proofs.replies.AnswerTexts.{answers_in_lines}
use Rattle.modem_sim.proofs.modem_steps.StandardModems.{repeats_standard}
use Rattle.one_modem.proofs.two_ends.FinalCodes.{AllEnd, Ends, ended_whole}

-- ## Marks

-- the marks before the last command, and the lines behind it
pub record LastBegun (ms : List Mark) (c : List ℕ) (earlier : List (List ℕ)) : Type 0 where
  pub before : List Mark
  pub behind : List (List ℕ)
  pub joins : ms ≡ before ++ Begun c ∷ map Line behind
  pub begun : begun_in before ≡ earlier

only_lines : (ms : List Mark) → begun_in ms ≡ [] → ms ≡ map Line (lines_of ms)
only_lines [] e = refl
only_lines (Line l ∷ ms) e = ap (λ z. Line l ∷ z) (only_lines ms e)
only_lines (Begun c ∷ ms) e = cc

-- so it is where the command began last
pub last_begun : (ms : List Mark) (earlier : List (List ℕ)) (c : List ℕ) → begun_in ms ≡ earlier ++ c ∷ [] → LastBegun ms c earlier
last_begun [] [] c e = cc
last_begun [] (x ∷ xs) c e = cc
last_begun (Line l ∷ ms) xs c e =
    let h = last_begun ms xs c e in
    record { before = Line l ∷ h.before; behind = h.behind; joins = ap (λ z. Line l ∷ z) h.joins; begun = h.begun }
last_begun (Begun b ∷ ms) [] c e =
    let same : b ≡ c = cc in
    let rest : begun_in ms ≡ [] = cc in
    record { before = []; behind = lines_of ms; joins = ap (λ z. Begun z ∷ ms) same ∙ ap (λ z. Begun c ∷ z) (only_lines ms rest); begun = refl }
last_begun (Begun b ∷ ms) (x ∷ xs) c e =
    let same : b ≡ x = cc in
    let rest : begun_in ms ≡ xs ++ c ∷ [] = cc in
    let h = last_begun ms xs c rest in
    record { before = Begun b ∷ h.before; behind = h.behind; joins = ap (λ z. Begun b ∷ z) h.joins; begun = ap (λ z. z ∷ begun_in h.before) same ∙ ap (λ z. x ∷ z) h.begun }

no_windows : (ls : List (List ℕ)) → windows (map Line ls) ≡ []
no_windows [] = refl
no_windows (l ∷ ls) = no_windows ls

window_at : (o : Option Window) (ms : List Mark) (c : List ℕ) (ls : List (List ℕ)) → last_or o (windows (ms ++ Begun c ∷ map Line ls)) ≡ Some (record { command = c; after = ls })
window_at o [] c ls =
    ap (λ ws. last_or o (record { command = c; after = lines_of (map Line ls) } ∷ ws)) (no_windows ls)
    ∙ ap (λ z. Some (record { command = c; after = z })) (lines_placed_are ls)
window_at o (Line l ∷ ms) c ls = window_at o ms c ls
window_at o (Begun b ∷ ms) c ls = window_at (Some (record { command = b; after = lines_of (ms ++ Begun c ∷ map Line ls) })) ms c ls

-- the window of the last command has the lines behind it
pub last_at : (ms : List Mark) (c : List ℕ) (ls : List (List ℕ)) → last_window (ms ++ Begun c ∷ map Line ls) ≡ Some (record { command = c; after = ls })
last_at ms c ls = window_at None ms c ls

-- where all marks are in turn the first of them are
pub turn_before : (ms more : List Mark) → IsInTurn standard (ms ++ more) → IsInTurn standard ms
turn_before ms more t before after c e = t before (after ++ more) c (ap (λ z. z ++ more) e ∙ append_assoc before (Begun c ∷ after) more)

ordered : (done rest : List Mark) → IsInTurn standard (done ++ rest) → IsInOrder standard done → IsInOrder standard (done ++ rest)
ordered done [] t o = subst (λ z. IsInOrder standard z) (sym (append-nil done)) o
ordered done (Line l ∷ rest) t o =
    let joins = append_assoc done (Line l ∷ []) rest in
    subst (λ z. IsInOrder standard z) joins (ordered (done ++ Line l ∷ []) rest (subst (λ z. IsInTurn standard z) (sym joins) t) (order_line standard done l o))
ordered done (Begun c ∷ rest) t o =
    let joins = append_assoc done (Begun c ∷ []) rest in
    subst (λ z. IsInOrder standard z) joins (ordered (done ++ Begun c ∷ []) rest (subst (λ z. IsInTurn standard z) (sym joins) t) (order_begun standard done c (t done rest c refl) o))

-- where a command begins all before it have their answers
pub answered_before : (ms : List Mark) (c : List ℕ) (more : List Mark) → IsInTurn standard (ms ++ Begun c ∷ more) → answered standard ms ≡ length (begun_in ms)
answered_before ms c more t =
    let own = turn_before ms (Begun c ∷ more) t in
    let order = ordered [] ms own tt in
    let none : open_count (open_window standard ms) ≡ 0 = ap open_count (t ms more c refl) in
    let all = counts standard ms order in
    let size = begun_counted ms in
    omega arith

-- ## Command lines

-- each of these lines begins with AT
abbrev pub AllAt : List (List ℕ) → Type 0
AllAt [] = Unit {0}
AllAt (l ∷ ls) = (has_at l ≡ true) × AllAt ls

-- a command line is neither unsolicited nor a final code
pub record IsPlainCommand (line : List ℕ) : Type 0 where
  pub solicited : is_solicited standard line ≡ true
  pub no_final : is_final line ≡ false

either_way : (a b : Bool) → (a || b) ≡ true → (P : Type 0) → (a ≡ true → P) → (b ≡ true → P) → P
either_way true b is P first second = first refl
either_way false b is P first second = second is

-- so it is of a line that begins with AT
pub plain_command : (line : List ℕ) → has_at line ≡ true → IsPlainCommand line
plain_command line at =
    either_way (starts_with nat_eq line (codes "AT")) (starts_with nat_eq line (codes "at")) at (IsPlainCommand line)
    (λ big. subst (λ z. IsPlainCommand z) (sym (started line (codes "AT") big)) (record { solicited = refl; no_final = refl }))
    (λ small. subst (λ z. IsPlainCommand z) (sym (started line (codes "at") small)) (record { solicited = refl; no_final = refl }))

-- a command line begins with AT
pub at_of : (text : List ℕ) → refusal_of text ≡ None → has_at text ≡ true
at_of text is = by_at (has_at text) _ is
  where
    by_at : (b : Bool) (o : Option _) → (if b then o else Some NoAt) ≡ None → b ≡ true
    by_at true o e = refl
    by_at false o e = cc

-- ## A reply

-- the texts of the lines of an answer
abbrev pub texts_in : List AnswerLine → List (List ℕ)
texts_in ls = map (λ (l : AnswerLine). l.text) ls

written_texts : (ls : List AnswerLine) → map text_of (answers ls) ≡ texts_in ls
written_texts [] = refl
written_texts (l ∷ ls) = ap (λ z. l.text ∷ z) (written_texts ls)

all_solicited : (ls : List AnswerLine) → list_all (λ (l : AnswerLine). is_solicited standard l.text) ls ≡ true → filter (is_solicited standard) (texts_in ls) ≡ texts_in ls
all_solicited [] all = refl
all_solicited (l ∷ ls) all =
    let parts = and_parts (is_solicited standard l.text) (list_all (λ (x : AnswerLine). is_solicited standard x.text) ls) all in
    ap (λ (b : Bool). if b then l.text ∷ filter (is_solicited standard) (texts_in ls) else filter (is_solicited standard) (texts_in ls)) parts.0 ∙ ap (λ z. l.text ∷ z) (all_solicited ls parts.1)

-- what is written for a command: it repeated, or not, and the answer
pub solicited_reply : (start : ModemStart) → IsStart start → (before : List (List ℕ)) (echo : Bool) (line : List ℕ) → has_at line ≡ true
    → filter (is_solicited standard) (written_for echo (reached start before) line) ≡ (if echo then line ∷ [] else []) ++ texts_in (step (reached start before) line).answer
solicited_reply start is before true line at =
    let ls = (step (reached start before) line).answer in
    let rest = filter (is_solicited standard) (map text_of (answers ls)) in
    ap (λ (b : Bool). if b then line ∷ rest else rest) (plain_command line at).solicited
    ∙ ap (λ z. line ∷ z) (ap (filter (is_solicited standard)) (written_texts ls) ∙ all_solicited ls (reached_answers_well start is before line).solicited)
solicited_reply start is before false line at =
    let ls = (step (reached start before) line).answer in
    ap (λ (b : Bool). filter (is_solicited standard) (map text_of (echoed b line ++ answers ls))) (repeats_standard start before line)
    ∙ ap (filter (is_solicited standard)) (written_texts ls) ∙ all_solicited ls (reached_answers_well start is before line).solicited

no_codes : (ls : List AnswerLine) → list_any is_final (texts_in ls) ≡ list_any (λ (l : AnswerLine). is_final l.text) ls
no_codes [] = refl
no_codes (l ∷ ls) = ap (λ (b : Bool). is_final l.text || b) (no_codes ls)

answer_ends : (ls : List AnswerLine) → EndsOnce ls → Ends (texts_in ls)
answer_ends ls e = record {
  front = texts_in e.front;
  code = e.code.text;
  parts = ap texts_in e.parts ∙ map-append (λ (l : AnswerLine). l.text) e.front (e.code ∷ []);
  before = no_codes e.front ∙ e.before;
  last = e.last;
}

echo_ends : (line : List ℕ) (ls : List (List ℕ)) → is_final line ≡ false → Ends ls → Ends (line ∷ ls)
echo_ends line ls off e = record {
  front = line ∷ e.front;
  code = e.code;
  parts = ap (λ z. line ∷ z) e.parts;
  before = ap (λ (b : Bool). b || list_any is_final e.front) off ∙ e.before;
  last = e.last;
}

-- a reply ends with its only final code
pub reply_ends : (start : ModemStart) → IsStart start → (before : List (List ℕ)) (echo : Bool) (line : List ℕ) → has_at line ≡ true → Ends (filter (is_solicited standard) (written_for echo (reached start before) line))
reply_ends start is before echo line at = subst (λ z. Ends z) (sym (solicited_reply start is before echo line at)) (by_echo echo)
  where
    own : Ends (texts_in (step (reached start before) line).answer)
    own = answer_ends (step (reached start before) line).answer (reached_answers_well start is before line).ends

    by_echo : (b : Bool) → Ends ((if b then line ∷ [] else []) ++ texts_in (step (reached start before) line).answer)
    by_echo true = echo_ends line (texts_in (step (reached start before) line).answer) (plain_command line at).no_final own
    by_echo false = own

same_text : (line : List ℕ) → bytes_eq line line ≡ true
same_text line = (bytes_eq-Decides line line).1 refl

other_text : (t line : List ℕ) → has_at t ≡ false → has_at line ≡ true → bytes_eq t line ≡ false
other_text t line off at = by_same (bytes_eq t line) refl
  where
    by_same : (b : Bool) → bytes_eq t line ≡ b → b ≡ false
    by_same false e = refl
    by_same true e = let x : false ≡ true = sym off ∙ (ap has_at (same_octets t line e) ∙ at) in absurd (let g : false ≡ true = x in cc)

no_at : (ls : List AnswerLine) (line : List ℕ) → list_all is_answer_line ls ≡ true → has_at line ≡ true → without_echo line (texts_in ls) ≡ texts_in ls
no_at [] line all at = refl
no_at (l ∷ ls) line all at =
    let parts = and_parts (is_answer_line l) (list_all is_answer_line ls) all in
    let off = negated (has_at l.text) (and_parts (is_line l.text) (not (has_at l.text)) parts.0).1 in
    ap (λ (b : Bool). if b then texts_in ls else l.text ∷ texts_in ls) (other_text l.text line off at)
  where
    negated : (b : Bool) → not b ≡ true → b ≡ false
    negated true is = cc
    negated false is = refl

back_again : (ls : List AnswerLine) → answer_lines (texts_in ls) ≡ ls
back_again [] = refl
back_again (l ∷ ls) = ap (λ z. l ∷ z) (back_again ls)

-- of the whole reply the answer is what the modem's step gives
pub reply_answer : (start : ModemStart) → IsStart start → (before : List (List ℕ)) (echo : Bool) (line : List ℕ) → has_at line ≡ true
    → answer_lines (up_to_final standard (without_echo line (filter (is_solicited standard) (written_for echo (reached start before) line)))) ≡ (step (reached start before) line).answer
reply_answer start is before echo line at =
    ap (λ z. answer_lines (up_to_final standard (without_echo line z))) (solicited_reply start is before echo line at)
    ∙ (ap (λ z. answer_lines (up_to_final standard z)) (by_echo echo)
    ∙ (ap answer_lines (ended_whole (texts_in ls) (answer_ends ls (reached_answers_well start is before line).ends))
    ∙ back_again ls))
  where
    ls : List AnswerLine
    ls = (step (reached start before) line).answer

    by_echo : (b : Bool) → without_echo line ((if b then line ∷ [] else []) ++ texts_in (step (reached start before) line).answer) ≡ texts_in (step (reached start before) line).answer
    by_echo true = ap (λ (b : Bool). if b then texts_in (step (reached start before) line).answer else line ∷ texts_in (step (reached start before) line).answer) (same_text line)
    by_echo false = no_at (step (reached start before) line).answer line (answers_in_lines start is before line) at

-- ## All replies

-- each reply without its unsolicited lines
abbrev pub solicited_in : List (List (List ℕ)) → List (List (List ℕ))
solicited_in rs = map (λ (r : List (List ℕ)). filter (is_solicited standard) r) rs

-- all replies without unsolicited lines are each one without, joined
pub all_solicited_in : (rs : List (List (List ℕ))) → filter (is_solicited standard) (all_of rs) ≡ all_of (solicited_in rs)
all_solicited_in [] = refl
all_solicited_in (r ∷ rs) = filter-append (is_solicited standard) r (all_of rs) ∙ ap (λ z. filter (is_solicited standard) r ++ z) (all_solicited_in rs)

-- a line stands among those on d where it came on d
pub line_on : (d : ℕ) (p : ℕ × List ℕ) (ls : List (ℕ × List ℕ)) (b : Bool) → (p.0 == d) ≡ b → lines_on d (p ∷ ls) ≡ (if b then p.1 ∷ lines_on d ls else lines_on d ls)
line_on d p ls true e = rw e refl
line_on d p ls false e = rw e refl

-- the replies to lines on d that begin with AT each end with their only final code
pub all_end : (start : ModemStart) → IsStart start → (echo : Bool) (d : ℕ) (before : List (List ℕ)) (m : ModemState) (ls : List (ℕ × List ℕ)) → m ≡ reached start before → AllAt (lines_on d ls) → AllEnd (solicited_in (replied_on echo d m ls))
all_end start is echo d before m [] same at = tt
all_end start is echo d before m (p ∷ ls) same at =
    by_here (p.0 == d) refl at (all_end start is echo d (before ++ p.1 ∷ []) (step m p.1).state ls next)
  where
    next : (step m p.1).state ≡ reached start (before ++ p.1 ∷ [])
    next = ap (λ x. (step x p.1).state) same ∙ sym (after_lines-append _ before (p.1 ∷ []))

    by_here : (b : Bool) → (p.0 == d) ≡ b → AllAt (lines_on d (p ∷ ls)) → (AllAt (lines_on d ls) → AllEnd (solicited_in (replied_on echo d (step m p.1).state ls))) → AllEnd (solicited_in ((if b then written_for echo m p.1 ∷ [] else []) ++ replied_on echo d (step m p.1).state ls))
    by_here true e h rest =
        let here = subst (λ z. AllAt z) (line_on d p ls true e) h in
        (subst (λ x. Ends (filter (is_solicited standard) (written_for echo x p.1))) (sym same) (reply_ends start is before echo p.1 here.0), rest here.1)
    by_here false e h rest = rest (subst (λ z. AllAt z) (line_on d p ls false e) h)

-- as many as lines on d
pub replied_count : (echo : Bool) (d : ℕ) (m : ModemState) (ls : List (ℕ × List ℕ)) → length (replied_on echo d m ls) ≡ length (lines_on d ls)
replied_count echo d m [] = refl
replied_count echo d m (p ∷ ls) = by_here (p.0 == d) refl (replied_count echo d (step m p.1).state ls)
  where
    by_here : (b : Bool) → (p.0 == d) ≡ b → length (replied_on echo d (step m p.1).state ls) ≡ length (lines_on d ls) → length ((if b then written_for echo m p.1 ∷ [] else []) ++ replied_on echo d (step m p.1).state ls) ≡ length (lines_on d (p ∷ ls))
    by_here true e rest = ap (λ n. suc n) rest ∙ ap length (sym (line_on d p ls true e))
    by_here false e rest = rest ∙ ap length (sym (line_on d p ls false e))

-- a reply, and the line at its place
pub record RepliesAt (echo : Bool) (d : ℕ) (m : ModemState) (ls : List (ℕ × List ℕ)) (place : ℕ) (r : List (List ℕ)) : Type 0 where
  pub before : List (ℕ × List ℕ)
  pub line : List ℕ
  pub later : List (ℕ × List ℕ)
  pub joins : ls ≡ before ++ (d, line) ∷ later
  pub place_is : length (lines_on d before) ≡ place
  pub is : r ≡ written_for echo (after_lines m (texts_of before)) line

-- the reply behind so many is that to the line behind as many on d
pub replies_at_place : (echo : Bool) (d : ℕ) (m : ModemState) (ls : List (ℕ × List ℕ)) (rs : List (List (List ℕ))) (r : List (List ℕ)) (more : List (List (List ℕ))) → replied_on echo d m ls ≡ rs ++ r ∷ more → RepliesAt echo d m ls (length rs) r
replies_at_place echo d m [] [] r more e = cc
replies_at_place echo d m [] (x ∷ rs) r more e = cc
replies_at_place echo d m (p ∷ ls) rs r more e =
    by_here echo d m p ls r more (p.0 == d) refl rs e (λ qs g. replies_at_place echo d (step m p.1).state ls qs r more g)
  where
    by_here : (echo : Bool) (d : ℕ) (m : ModemState) (p : ℕ × List ℕ) (ls : List (ℕ × List ℕ)) (r : List (List ℕ)) (more : List (List (List ℕ))) (b : Bool) → (p.0 == d) ≡ b → (rs : List (List (List ℕ)))
        → (if b then written_for echo m p.1 ∷ [] else []) ++ replied_on echo d (step m p.1).state ls ≡ rs ++ r ∷ more
        → ((qs : List (List (List ℕ))) → replied_on echo d (step m p.1).state ls ≡ qs ++ r ∷ more → RepliesAt echo d (step m p.1).state ls (length qs) r)
        → RepliesAt echo d m (p ∷ ls) (length rs) r
    by_here echo d m p ls r more true here [] e rest =
        let first : written_for echo m p.1 ≡ r = cc in
        record { before = []; line = p.1; later = ls; joins = ap (λ (n : ℕ). (n, p.1) ∷ ls) (eqb-true p.0 d here); place_is = refl; is = sym first }
    by_here echo d m p ls r more true here (q ∷ qs) e rest =
        let tail : replied_on echo d (step m p.1).state ls ≡ qs ++ r ∷ more = cc in
        let h = rest qs tail in
        record { before = p ∷ h.before; line = h.line; later = h.later; joins = ap (λ z. p ∷ z) h.joins; place_is = ap length (line_on d p h.before true here) ∙ ap (λ n. suc n) h.place_is; is = h.is }
    by_here echo d m p ls r more false here rs e rest =
        let h = rest rs e in
        record { before = p ∷ h.before; line = h.line; later = h.later; joins = ap (λ z. p ∷ z) h.joins; place_is = ap length (line_on d p h.before false here) ∙ h.place_is; is = h.is }
