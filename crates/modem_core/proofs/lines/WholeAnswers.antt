-- An answer that is whole stands in its window until the lane is settled: what is said meanwhile.
use Rattle.std.specs.Prelude.{◌≡◌, ℕ, ◌≤◌, ◌&&◌, Bool, true, false, List, [], ◌∷◌, ◌++◌, length, map, take, drop, refl, Option, None, Some, is_some, is_none, Result, Ok, Err, OnOk, OnErr, ◌⊎◌, if◌then◌else◌}
use Rattle.std.specs.List.{insert}
use Rattle.std.proofs.Common.{ap, sym, ◌∙◌, subst, arith, inl, inr}
use Rattle.std.proofs.Math.Seq.{take-length, drop-length}
use Rattle.std.proofs.lemmas.List.{append_assoc, append-nil, drop-append-le, length-take, take-append-drop, take-append-le, take-map, drop-map, map-append}
use Rattle.at_text.specs.declared.answer.AnswerLine.{AnswerLine}
use Rattle.at_text.specs.declared.unsolicited.UrcKind.{UrcKind}
use Rattle.at_text.specs.declared.unsolicited.UrcKind.TheVariants.{Other}
use Rattle.at_text.specs.declared.under_way.Placed.{Placed}
use Rattle.at_text.specs.declared.under_way.Placed.TheVariants as is
use Rattle.at_text.specs.declared.window.Seen as line_is
use Rattle.at_text.specs.Dialects.{Dialect, is_solicited}
use Rattle.at_text.specs.OpenWindow.{OpenWindow, seen_by, after_line}
use Rattle.at_text.specs.UnderWay.{UnderWay, window_of}
use Rattle.at_text.specs.InPlace.{lines_so_far, left_where, placed_as, placed_by, said_where, Grows, GrowsOn}
use Rattle.at_text.specs.Lines.{lines, kept_run}
use Rattle.at_text.specs.Seeing.{by_kind}
use Rattle.at_text.proofs.lines.UnfinishedLines.{reads_on}
use Rattle.modem_history.specs.declared.act.Act as code
use Rattle.modem_history.specs.Acts.{Act, Told, act_of}
use Rattle.modem_queues.specs.declared.asker.Asker.{Asker}
use Rattle.modem_core.specs.declared.settling.Answered.{Answered}
use Rattle.modem_core.specs.declared.settling.Whole.{Whole}
use Rattle.modem_core.specs.Lanes.{Lane}
use Rattle.modem_core.specs.Reports.{done_by, heard_by, said_as, Read, ReadingView, ReadsAll, ReportSays}
use Rattle.modem_core.specs.Settling.{said_acts, settled, settled_lane, with_told, with_whole, SaysPlaced, Stands, StartsWith}
use Rattle.modem_core.proofs.lines.ReportedLines.{line_ends, nothing_said, said_so}

-- ## Lists that grow

-- what starts another isn't longer
pub starts_long : (was new : List Act) → StartsWith was new → length was ≤ length new
starts_long was new s =
    let many : length (take (length was) new) ≡ length was = ap length s in
    let few = length-take (length was) new in
    omega (arith, many, few)

-- a list with more behind it still starts so
pub starts_more : (was old more new : List Act) → new ≡ old ++ more → StartsWith was old → StartsWith was new
starts_more was old more new e s = ap (take (length was)) e ∙ (take-append-le (length was) old more (starts_long was old s) ∙ s)

-- so it does where a line is heard behind it, or none
pub starts_on : {A E : Type 0} (r : Result A E) (was old new : List Act) (a : Act) → OnOk r (new ≡ old ++ a ∷ []) → OnErr r (new ≡ old) → StartsWith was old → StartsWith was new
starts_on (Ok x) was old new a e f s = starts_more was old (a ∷ []) new e s
starts_on (Err x) was old new a e f s = subst (StartsWith was) (sym f) s

-- an answer that stands behind lines stands so behind more
pub stands_more : (answer : Option ℕ) (w : Option OpenWindow) (old new : List Act) → StartsWith old new → Stands answer w old → Stands answer w new
stands_more None w old new s a = tt
stands_more (Some n) w old new s a = record { opened = a.opened; within = (let long = starts_long old new s in let few = a.within in omega (arith, long, few)) }

-- ## What a placed line says

-- an echo, or a line that an answer keeps, says nothing
pub quiet_placed : (r : ReadingView) (line : List ℕ) (placed : Placed) (w : Option OpenWindow) (heard : List Act) (answer : Option ℕ) → answer ≡ None → (placed ≡ is.Echo) ⊎ (placed ≡ is.Kept) → SaysPlaced r line placed w heard answer heard
quiet_placed r line placed w heard answer n (inl e) =
    subst (λ (p : Placed). SaysPlaced r line p w heard answer heard) (sym e)
    (subst (λ (a : Option ℕ). SaysPlaced r line is.Echo w heard a heard) (sym n) (record { window_is = refl; says = nothing_said r heard; stands = λ o. tt }))
quiet_placed r line placed w heard answer n (inr e) =
    subst (λ (p : Placed). SaysPlaced r line p w heard answer heard) (sym e)
    (subst (λ (a : Option ℕ). SaysPlaced r line is.Kept w heard a heard) (sym n) (record { window_is = refl; says = nothing_said r heard; stands = λ o. tt }))

-- an unsolicited line is heard, where its kind is listened to
pub unsolicited_placed : (r : ReadingView) (line : List ℕ) (placed : Placed) (kind : UrcKind) (w : Option OpenWindow) (old new : List Act) (answer : Option ℕ) → answer ≡ None → placed ≡ is.Unsolicited kind
    → ReportSays r (λ listens. heard_by listens r.dlci kind line) old new → SaysPlaced r line placed w old answer new
unsolicited_placed r line placed kind w old new answer n e says =
    subst (λ (p : Placed). SaysPlaced r line p w old answer new) (sym e)
    (subst (λ (a : Option ℕ). SaysPlaced r line (is.Unsolicited kind) w old a new) (sym n) (record { window_is = refl; says = says; stands = λ o. tt }))

-- any other line is heard, where Other is listened to
pub other_placed : (r : ReadingView) (line : List ℕ) (placed : Placed) (w : Option OpenWindow) (old new : List Act) (answer : Option ℕ) → answer ≡ None → placed ≡ is.Other
    → ReportSays r (λ listens. heard_by listens r.dlci Other line) old new → SaysPlaced r line placed w old answer new
other_placed r line placed w old new answer n e says =
    subst (λ (p : Placed). SaysPlaced r line p w old answer new) (sym e)
    (subst (λ (a : Option ℕ). SaysPlaced r line is.Other w old a new) (sym n) (record { window_is = refl; says = says; stands = λ o. tt }))

-- an answer that comes behind all that is heard so far
told_last : (owner : Option Asker) (ls : List AnswerLine) (heard : List Act) → said_acts owner ls (Some (length heard)) heard ≡ heard ++ done_by owner ls
told_last owner ls heard =
    ap (λ (xs : List Act). xs ++ (done_by owner ls ++ drop (length heard) heard)) (take-length heard)
    ∙ ap (λ (xs : List Act). heard ++ xs) (ap (λ (xs : List Act). done_by owner ls ++ xs) (drop-length heard) ∙ append-nil (done_by owner ls))

-- the line that makes an answer whole tells it
pub whole_placed : (r : ReadingView) (line : List ℕ) (placed : Placed) (w : Option OpenWindow) (heard : List Act) (n : ℕ) → placed ≡ is.Whole → n ≡ length heard → SaysPlaced r line placed w heard (Some n) heard
whole_placed r line placed w heard n e many =
    subst (λ (p : Placed). SaysPlaced r line p w heard (Some n) heard) (sym e)
    (subst (λ (k : ℕ). SaysPlaced r line is.Whole w heard (Some k) heard) (sym many) (record {
      window_is = refl;
      says = said_so r (done_by r.owner (lines_so_far w)) heard (said_acts r.owner (lines_so_far w) (Some (length heard)) heard) (told_last r.owner (lines_so_far w) heard);
      stands = λ opened. record { opened = opened refl; within = omega arith };
    }))

-- a line makes an answer whole only where a window is open
pub whole_opened : (dialect : Dialect) (w : Option OpenWindow) (line : List ℕ) (placed : Placed) → placed ≡ placed_by dialect w line → placed ≡ is.Whole → is_some w ≡ true
whole_opened dialect (Some o) line placed e h = refl
whole_opened dialect None line placed e h = absurd (by_kind_none (dialect.kind_of line) (sym h ∙ e))
  where
    by_kind_none : (kind : Option UrcKind) → is.Whole ≡ placed_as (by_kind kind line_is.TheVariants.Other) → ⊥
    by_kind_none None e = cc
    by_kind_none (Some kind) e = cc

said_more : (owner : Option Asker) (ls : List AnswerLine) (n : ℕ) (old more : List Act) → n ≤ length old → said_acts owner ls (Some n) (old ++ more) ≡ said_acts owner ls (Some n) old ++ more
said_more owner ls n old more few =
    ap (λ (xs : List Act). xs ++ (done_by owner ls ++ drop n (old ++ more))) (take-append-le n old more few)
    ∙ (ap (λ (xs : List Act). take n old ++ (done_by owner ls ++ xs)) (drop-append-le n old more few)
    ∙ (ap (λ (xs : List Act). take n old ++ xs) (sym (append_assoc (done_by owner ls) (drop n old) more))
    ∙ sym (append_assoc (take n old) (done_by owner ls ++ drop n old) more)))

-- a line behind an answer that is whole
pub behind_says : (r : ReadingView) (ls : List AnswerLine) (said : (UrcKind → Bool) → List Act) (answer : Option ℕ) (w : Option OpenWindow) (old new : List Act) → is_some answer ≡ true → Stands answer w old → ReportSays r said old new
    → ReportSays r said (said_acts r.owner ls answer old) (said_acts r.owner ls answer new)
unfolding ReportSays
behind_says r ls said None w old new e a says listens h = cc
behind_says r ls said (Some n) w old new e a says listens h = ap (said_acts r.owner ls (Some n)) (says listens h) ∙ said_more r.owner ls n old (said listens) a.within

either : (b : Bool) (w : Option OpenWindow) → w ≡ (if b then w else w)
either true w = refl
either false w = refl

-- a line opens no window
pub none_after : (dialect : Dialect) (line : List ℕ) → None ≡ after_line dialect None line
none_after dialect line = either (is_solicited dialect line) None

-- octets that end a line behind an answer that is whole
pub line_behind : (r : ReadingView) (octets l was kept : List ℕ) (w : Option OpenWindow) (answer : Option ℕ) (old new : List Act) → is_some answer ≡ true → Stands answer w old → was ≡ kept_run was → lines (was ++ octets) ≡ l ∷ [] → kept ≡ kept_run (was ++ octets)
    → ReportSays r (λ listens. said_as listens r.dlci r.owner l (seen_by r.dialect None l)) old new → ReadsAll r octets (settled r.owner was w answer old) (settled r.owner kept w answer new)
line_behind r octets l was kept w None old new e a before ends k says = cc
line_behind r octets l was kept w (Some n) old new e a before ends k says =
    line_ends r (settled r.owner was w (Some n) old) (settled r.owner kept w (Some n) new) octets l reads_on before ends k (none_after r.dialect l)
    (behind_says r (lines_so_far w) (λ listens. said_as listens r.dlci r.owner l (seen_by r.dialect None l)) (Some n) w old new refl a says)

-- octets that end a line, before which no answer is whole
pub line_placed : (r : ReadingView) (octets l was kept : List ℕ) (w v : Option OpenWindow) (placed : Placed) (before after : Option ℕ) (old new : List Act) → is_some before ≡ false → was ≡ kept_run was → lines (was ++ octets) ≡ l ∷ [] → kept ≡ kept_run (was ++ octets)
    → after_line r.dialect w l ≡ left_where placed v → seen_by r.dialect w l ≡ said_where placed v → SaysPlaced r l placed v old after new → ReadsAll r octets (settled r.owner was w before old) (settled r.owner kept v after new)
line_placed r octets l was kept w v placed (Some n) after old new e so_far ends k left said s = cc
line_placed r octets l was kept w v placed None after old new e so_far ends k left said s =
    line_ends r (settled r.owner was w None old) (settled r.owner kept v after new) octets l reads_on so_far ends k (s.window_is ∙ sym left)
    (subst (λ (x : line_is.Seen). ReportSays r (λ listens. said_as listens r.dlci r.owner l x) old (said_acts r.owner (lines_so_far v) after new)) (sym said) s.says)

-- ## A window that grows

-- a window that grows, and then grows on, has grown
pub grown_on : (a b c : Option OpenWindow) → Grows a b → Grows b c → Grows a c
unfolding Grows
grown_on None b c g h = grown_none b c g h
  where
    grown_none : (b c : Option OpenWindow) → b ≡ None → Grows b c → c ≡ None
    grown_none None c e h = h
    grown_none (Some o) c e h = cc
grown_on (Some o) b c g h =
    let after : GrowsOn (record { command = o.command; lines = o.lines ++ g.more; fresh = g.fresh }) c = subst (λ (w : Option OpenWindow). Grows w c) g.window_is h in
    record {
      more = g.more ++ after.more;
      fresh = after.fresh;
      window_is = after.window_is ∙ ap (λ (ls : List AnswerLine). Some (record { command = o.command; lines = ls; fresh = after.fresh })) (append_assoc o.lines g.more after.more);
    }

-- a window that grows stays open
pub grown_opened : (a b : Option OpenWindow) → Grows a b → is_some a ≡ true → is_some b ≡ true
unfolding Grows
grown_opened None b g h = cc
grown_opened (Some o) b g h = ap is_some g.window_is

-- an answer is whole where its command was under way and is no more once the lane is settled
pub settled_done : (command : List ℕ) (was now : Option UnderWay) (answer : Option ℕ) (heard : List Act) → Grows (window_of command was) (window_of command now) → Stands answer (window_of command now) heard
    → is_some answer ≡ (is_some was && is_none (if is_some answer then None else now))
unfolding Grows
settled_done command None None None heard g a = refl
settled_done command None None (Some n) heard g a = let opened = a.opened in cc
settled_done command None (Some u) answer heard g a = cc
settled_done command (Some u) None answer heard g a = let none = g.window_is in cc
settled_done command (Some u) (Some v) None heard g a = refl
settled_done command (Some u) (Some v) (Some n) heard g a = refl

settled_with : (command : List ℕ) (b : Bool) (u : Option UnderWay) → (if b then None else window_of command u) ≡ window_of command (if b then None else u)
settled_with command true u = refl
settled_with command false u = refl

-- a lane that is settled keeps what was read
pub settled_read : (command : List ℕ) (owner : Option Asker) (answer : Option ℕ) (lane new : Lane) (heard more : List Act) → new ≡ settled_lane answer lane → more ≡ said_acts owner (lines_so_far (window_of command lane.under_way)) answer heard
    → (let v : Read = record { kept = new.kept; window = window_of command new.under_way; acts = more } in settled owner lane.kept (window_of command lane.under_way) answer heard ≡ v)
settled_read command owner answer lane new heard more e a =
    let said = said_acts owner (lines_so_far (window_of command lane.under_way)) answer heard in
    ap (λ (w : Option OpenWindow). let v : Read = record { kept = lane.kept; window = w; acts = said } in v) (settled_with command (is_some answer) lane.under_way)
    ∙ (ap (λ (l : Lane). let v : Read = record { kept = l.kept; window = window_of command l.under_way; acts = said } in v) (sym e)
    ∙ ap (λ (xs : List Act). let v : Read = record { kept = new.kept; window = window_of command new.under_way; acts = xs } in v) (sym a))

-- ## An answer that is told

-- the way back: only those first ones are left
pub heard_back : (was mid new : List Act) (count : ℕ) → count ≡ length was → new ≡ take count mid → StartsWith was mid → new ≡ was
heard_back was mid new count many cut s = cut ∙ (ap (λ (n : ℕ). take n mid) many ∙ s)

-- where nobody asked for it, none is told
pub told_nobody : (w : Whole) (owner : Option Asker) (heard : List Act) → None ≡ owner → heard ≡ with_whole owner (Some w) heard
told_nobody w owner heard e = sym (take-append-drop w.place heard) ∙ ap (λ (o : Option Asker). with_whole o (Some w) heard) e

-- the act that tells it stands at its place
pub told_at : (answered : Answered) (acts : List code.Act) → map act_of (insert acts answered.place (code.TheVariants.Told answered.outcome)) ≡ with_told (Some answered) (map act_of acts)
told_at answered acts =
    let n = answered.place in
    let told = Told answered.outcome in
    map-append act_of (take n acts) (code.TheVariants.Told answered.outcome ∷ drop n acts)
    ∙ (ap (λ (xs : List Act). xs ++ told ∷ map act_of (drop n acts)) (sym (take-map act_of n acts))
    ∙ ap (λ (xs : List Act). take n (map act_of acts) ++ told ∷ xs) (sym (drop-map act_of n acts)))
