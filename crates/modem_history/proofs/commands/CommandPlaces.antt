-- The commands that are placed are those that are wholly sent, and so they are where more are accepted later.
use Rattle.std.specs.Prelude.{◌≡◌, ℕ, suc, ◌+◌, ◌<◌, ◌≤◌, ◌&&◌, Bool, true, false, List, [], ◌∷◌, ◌++◌, length, map, take, drop, refl, if◌then◌else◌}
use Rattle.std.specs.List.{concat}
use Rattle.std.proofs.Common.{ap, sym, ◌∙◌, subst, arith, append-nil, length-append}
use Rattle.std.proofs.lemmas.List.{take-append-drop, take-append-le, map-append}
use Rattle.mux_station.specs.declared.role.Role.{Role}
use Rattle.mux_station.specs.Acts.{Act, Called, Got, Sent, Tick, Lost, Given}
use Rattle.mux_station.specs.Opening.{is_open, opens_now}
use Rattle.at_text.specs.Windows.{Mark, Line, Begun}
use Rattle.modem_history.specs.Connections.{carries, information_sent, with_cr, whole_in, wholly_sent, lines_ended, placed, begun_in, PlacesAll}
use Rattle.modem_history.proofs.commands.TextCounts.{AllFilled, whole_at_zero}
use Rattle.modem_history.proofs.commands.WholeTexts.{whole_few, whole_more, whole_push, take_within}
use Rattle.modem_history.proofs.commands.BegunCommands.{begun_append, begun_lines}
use Rattle.modem_history.proofs.connections.InformationGrowth.{is_got, is_sent, sent_grows, sent_same, sent_still}
use Rattle.modem_history.proofs.lines.LinePlaces.{placed_lines}

-- ## Counts

some_octet : (text : List ℕ) → 0 < length (text ++ 13 ∷ [])
some_octet text = omega (arith, length-append text (13 ∷ []))

cr_filled : (cs : List (List ℕ)) → AllFilled (with_cr cs)
cr_filled [] = tt
cr_filled (c ∷ cs) = (some_octet c, cr_filled cs)

cr_counted : (cs : List (List ℕ)) → length (with_cr cs) ≡ length cs
cr_counted [] = refl
cr_counted (c ∷ cs) = ap suc (cr_counted cs)

none_whole : (cs : List (List ℕ)) → wholly_sent 0 cs ≡ []
none_whole cs = ap (λ (n : ℕ). take n cs) (whole_at_zero (with_cr cs) (cr_filled cs))

-- what is wholly sent grows by what the next octets make whole
pub whole_grows : (n k : ℕ) (cs : List (List ℕ)) → wholly_sent n cs ++ drop (whole_in n (with_cr cs)) (wholly_sent (n + k) cs) ≡ wholly_sent (n + k) cs
whole_grows n k cs =
    let before = whole_in n (with_cr cs) in
    let after = whole_in (n + k) (with_cr cs) in
    let more : before ≤ after = whole_more n (n + k) (with_cr cs) (omega arith) in
    ap (λ (v : List (List ℕ)). v ++ drop before (wholly_sent (n + k) cs)) (sym (take_within before after cs more)) ∙ take-append-drop before (wholly_sent (n + k) cs)

-- ## Commands that are placed

begun_commands : (cs : List (List ℕ)) → begun_in (map Begun cs) ≡ cs
begun_commands [] = refl
begun_commands (c ∷ cs) = ap (λ (v : List (List ℕ)). c ∷ v) (begun_commands cs)

sent_by : (c : Bool) (ms : List Mark) (out info : List ℕ) (cs : List (List ℕ)) → begun_in ms ≡ wholly_sent (length out) cs
    → begun_in (if c then ms ++ map Begun (drop (whole_in (length out) (with_cr cs)) (wholly_sent (length out + length info) cs)) else ms) ≡ wholly_sent (length (if c then out ++ info else out)) cs
sent_by false ms out info cs h = h
sent_by true ms out info cs h =
    let new = drop (whole_in (length out) (with_cr cs)) (wholly_sent (length out + length info) cs) in
    begun_append ms (map Begun new)
    ∙ (ap (λ (v : List (List ℕ)). begun_in ms ++ v) (begun_commands new)
    ∙ (ap (λ (v : List (List ℕ)). v ++ new) h
    ∙ (whole_grows (length out) (length info) cs ∙ ap (λ (n : ℕ). wholly_sent n cs) (sym (length-append out info)))))

got_by : (o c : Bool) (ms : List Mark) (out : List ℕ) (ls cs : List (List ℕ)) → begun_in ms ≡ wholly_sent (length out) cs
    → begun_in (if o then [] else (if c then ms ++ map Line ls else ms)) ≡ wholly_sent (length (if o then [] else out)) cs
got_by true c ms out ls cs h = sym (none_whole cs)
got_by false true ms out ls cs h = begun_append ms (map Line ls) ∙ (ap (λ (v : List (List ℕ)). begun_in ms ++ v) (begun_lines ls) ∙ (append-nil (begun_in ms) ∙ h))
got_by false false ms out ls cs h = h

abbrev After : List (List ℕ) → List ℕ → List (List ℕ)
After cs out = wholly_sent (length out) cs

still : (r : Role) (d : ℕ) (past : List Act) (a : Act) (cs bs : List (List ℕ)) → is_got a ≡ false → is_sent a ≡ false → bs ≡ After cs (information_sent r d past) → bs ≡ After cs (information_sent r d (a ∷ past))
still r d past a cs bs g s h = h ∙ ap (After cs) (sym (sent_still r d past a g s))

-- of some commands those placed on d are the ones wholly sent since it opened
pub placed_commands : (r : Role) (d : ℕ) (cs : List (List ℕ)) (past : List Act) → begun_in (placed r d cs past) ≡ After cs (information_sent r d past)
placed_commands r d cs [] = sym (none_whole cs)
placed_commands r d cs (Got f ∷ past) =
    got_by (opens_now r d past (Got f)) (carries d f && is_open r d past) (placed r d cs past) (information_sent r d past) (lines_ended r d past f) cs (placed_commands r d cs past)
    ∙ ap (After cs) (sym (sent_same r d past (Got f) refl))
placed_commands r d cs (Sent f ∷ past) =
    sent_by (carries d f && is_open r d past) (placed r d cs past) (information_sent r d past) f.info cs (placed_commands r d cs past) ∙ ap (After cs) (sym (sent_grows r d past f))
placed_commands r d cs (Called c ∷ past) = still r d past (Called c) cs _ refl refl (placed_commands r d cs past)
placed_commands r d cs (Tick ∷ past) = still r d past Tick cs _ refl refl (placed_commands r d cs past)
placed_commands r d cs (Lost ∷ past) = still r d past Lost cs _ refl refl (placed_commands r d cs past)
placed_commands r d cs (Given ∷ past) = still r d past Given cs _ refl refl (placed_commands r d cs past)

-- so on every connection the lines that came and the commands wholly sent are placed, whichever commands go out
pub places_all : (r : Role) (past : List Act) → PlacesAll r past
unfolding PlacesAll
places_all r past d cs = record { lines_are = placed_lines r d cs past; commands_are = placed_commands r d cs past }

-- ## A command more

cr_more : (cs : List (List ℕ)) (c : List ℕ) → with_cr (cs ++ c ∷ []) ≡ with_cr cs ++ (c ++ 13 ∷ []) ∷ []
cr_more cs c = map-append (λ (text : List ℕ). text ++ 13 ∷ []) cs (c ∷ [])

same_whole : (n : ℕ) (cs : List (List ℕ)) (c : List ℕ) → n ≤ length (concat (with_cr cs)) → whole_in n (with_cr (cs ++ c ∷ [])) ≡ whole_in n (with_cr cs)
same_whole n cs c h = ap (whole_in n) (cr_more cs c) ∙ whole_push n (with_cr cs) (c ++ 13 ∷ []) h (some_octet c)

-- it changes nothing of what is wholly sent before it
same_wholly : (n : ℕ) (cs : List (List ℕ)) (c : List ℕ) → n ≤ length (concat (with_cr cs)) → wholly_sent n (cs ++ c ∷ []) ≡ wholly_sent n cs
same_wholly n cs c h =
    let few : whole_in n (with_cr cs) ≤ length cs = omega (arith, whole_few n (with_cr cs), cr_counted cs) in
    ap (λ (m : ℕ). take m (cs ++ c ∷ [])) (same_whole n cs c h) ∙ take-append-le (whole_in n (with_cr cs)) cs (c ∷ []) few

abbrev Within : List (List ℕ) → List ℕ → Type 0
Within cs out = length out ≤ length (concat (with_cr cs))

more_sent : (b : Bool) (ms ns : List Mark) (out info : List ℕ) (cs : List (List ℕ)) (c : List ℕ) → Within cs (if b then out ++ info else out) → (Within cs out → ms ≡ ns)
    → (if b then ms ++ map Begun (drop (whole_in (length out) (with_cr (cs ++ c ∷ []))) (wholly_sent (length out + length info) (cs ++ c ∷ []))) else ms)
    ≡ (if b then ns ++ map Begun (drop (whole_in (length out) (with_cr cs)) (wholly_sent (length out + length info) cs)) else ns)
more_sent false ms ns out info cs c h same = same h
more_sent true ms ns out info cs c h same =
    let size : length (out ++ info) ≡ length out + length info = length-append out info in
    let all : length out + length info ≤ length (concat (with_cr cs)) = omega (arith, h, size) in
    let first : length out ≤ length (concat (with_cr cs)) = omega (arith, all) in
    ap (λ (v : List Mark). v ++ map Begun (drop (whole_in (length out) (with_cr (cs ++ c ∷ []))) (wholly_sent (length out + length info) (cs ++ c ∷ [])))) (same first)
    ∙ (ap (λ (n : ℕ). ns ++ map Begun (drop n (wholly_sent (length out + length info) (cs ++ c ∷ [])))) (same_whole (length out) cs c first)
    ∙ ap (λ (v : List (List ℕ)). ns ++ map Begun (drop (whole_in (length out) (with_cr cs)) v)) (same_wholly (length out + length info) cs c all))

more_got : (o b : Bool) (ms ns : List Mark) (out : List ℕ) (ls cs : List (List ℕ)) → Within cs (if o then [] else out) → (Within cs out → ms ≡ ns)
    → (if o then [] else (if b then ms ++ map Line ls else ms)) ≡ (if o then [] else (if b then ns ++ map Line ls else ns))
more_got true b ms ns out ls cs h same = refl
more_got false true ms ns out ls cs h same = ap (λ (v : List Mark). v ++ map Line ls) (same h)
more_got false false ms ns out ls cs h same = same h

was_within : (r : Role) (d : ℕ) (past : List Act) (a : Act) (cs : List (List ℕ)) → is_got a ≡ false → is_sent a ≡ false → Within cs (information_sent r d (a ∷ past)) → Within cs (information_sent r d past)
was_within r d past a cs g s h = subst (Within cs) (sent_still r d past a g s) h

-- a command more, behind all that was sent, changes nothing that is placed
pub placed_more : (r : Role) (d : ℕ) (cs : List (List ℕ)) (c : List ℕ) (past : List Act) → Within cs (information_sent r d past) → placed r d (cs ++ c ∷ []) past ≡ placed r d cs past
placed_more r d cs c [] h = refl
placed_more r d cs c (Got f ∷ past) h =
    more_got (opens_now r d past (Got f)) (carries d f && is_open r d past) (placed r d (cs ++ c ∷ []) past) (placed r d cs past) (information_sent r d past) (lines_ended r d past f) cs
    (subst (Within cs) (sent_same r d past (Got f) refl) h) (placed_more r d cs c past)
placed_more r d cs c (Sent f ∷ past) h =
    more_sent (carries d f && is_open r d past) (placed r d (cs ++ c ∷ []) past) (placed r d cs past) (information_sent r d past) f.info cs c
    (subst (Within cs) (sent_grows r d past f) h) (placed_more r d cs c past)
placed_more r d cs c (Called x ∷ past) h = placed_more r d cs c past (was_within r d past (Called x) cs refl refl h)
placed_more r d cs c (Tick ∷ past) h = placed_more r d cs c past (was_within r d past Tick cs refl refl h)
placed_more r d cs c (Lost ∷ past) h = placed_more r d cs c past (was_within r d past Lost cs refl refl h)
placed_more r d cs c (Given ∷ past) h = placed_more r d cs c past (was_within r d past Given cs refl refl h)
