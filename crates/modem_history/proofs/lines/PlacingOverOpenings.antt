-- What is placed in each opening, at an end of the line and in a history.
use Rattle.std.specs.Prelude.{◌≡◌, ℕ, ◌+◌, Bool, true, false, List, [], ◌∷◌, ◌++◌, length, map, refl, if◌then◌else◌}
use Rattle.std.specs.List.{zip}
use Rattle.std.proofs.Common.{ap, sym, ◌∙◌, arith, append-nil, length-append}
use Rattle.std.proofs.lemmas.List.{map-append, length-map}
use Rattle.mux_station.specs.declared.role.Role.{Role}
use Rattle.mux_station.specs.Acts as station
use Rattle.mux_station.specs.Opening.{since, opens_now}
use Rattle.at_text.specs.Lines.{lines}
use Rattle.at_text.specs.Windows.{Mark, lines_of}
use Rattle.modem_desk.specs.declared.request.Request.{Request}
use Rattle.modem_history.specs.Acts.{Act, Took, Got, Sent, Told, Heard, Tick, Lost, Held, Freed, Given, wire}
use Rattle.modem_history.specs.Connections.{info_got, info_sent, information_got, information_sent, earlier_openings, openings, earlier_pasts, placed, placed_at, begun_in, wholly_sent, PlacesEach}
use Rattle.modem_history.specs.Information.{accepted, earlier_accepted, line_of, lines_by_opening, opens_here}
use Rattle.modem_history.specs.Placing.{marks}
use Rattle.modem_history.specs.Calls.{Setting}
use Rattle.modem_history.specs.Lawful.{Lawful}
use Rattle.modem_history.specs.Hearing.{earlier_marks}
use Rattle.modem_history.specs.Placements.{AreAllMarksPlaced}
use Rattle.modem_history.proofs.connections.InformationGrowth.{is_got, not_opened}
use Rattle.modem_history.proofs.lines.LinePlaces.{placed_lines}
use Rattle.modem_history.proofs.commands.CommandPlaces.{placed_commands}
use Rattle.modem_history.proofs.lines.MarkPlaces.{are_placed}

zip_more : {A B : Type 0} (xs : List A) (ys : List B) (x : A) (y : B) → length xs ≡ length ys → zip (xs ++ x ∷ []) (ys ++ y ∷ []) ≡ zip xs ys ++ (x, y) ∷ []
zip_more [] [] x y e = refl
zip_more [] (b ∷ ys) x y e = absurd (let z : ⊥ = omega (arith, e) in z)
zip_more (a ∷ xs) [] x y e = absurd (let z : ⊥ = omega (arith, e) in z)
zip_more {A} {B} (a ∷ xs) (b ∷ ys) x y e = ap (λ (v : List (A × B)). (a, b) ∷ v) (zip_more xs ys x y (omega (arith, e)))

-- the marks of some openings are placed, one by one
record ArePlaced (r : Role) (d : ℕ) (before : List (List Mark)) (qss : List (List Request)) (pasts : List (List station.Act)) : Type 0 where
  same : before ≡ placed_at r d (lines_by_opening qss) pasts
  beside : length qss ≡ length pasts

-- and so are those of one opening more
one_more : (r : Role) (d : ℕ) (before : List (List Mark)) (qss : List (List Request)) (pasts : List (List station.Act)) (ms : List Mark) (qs : List Request) (past : List station.Act)
    → ArePlaced r d before qss pasts → ms ≡ placed r d (map line_of qs) past → ArePlaced r d (before ++ ms ∷ []) (qss ++ qs ∷ []) (pasts ++ past ∷ [])
one_more r d before qss pasts ms qs past a e =
    let by = λ (p : List (List ℕ) × List station.Act). placed r d p.0 p.1 in
    let lines = λ (v : List Request). map line_of v in
    let beside : length (map lines qss) ≡ length pasts = length-map qss lines ∙ a.beside in
    let whole : placed_at r d (lines_by_opening (qss ++ qs ∷ [])) (pasts ++ past ∷ []) ≡ placed_at r d (lines_by_opening qss) pasts ++ placed r d (map line_of qs) past ∷ [] =
    ap (λ (v : List (List (List ℕ))). map by (zip v (pasts ++ past ∷ []))) (map-append lines qss (qs ∷ []))
    ∙ (ap (map by) (zip_more (map lines qss) pasts (map line_of qs) past beside)
    ∙ map-append by (zip (map lines qss) pasts) ((map line_of qs, past) ∷ [])) in
    record {
      same = ap (λ (v : List (List Mark)). v ++ ms ∷ []) a.same ∙ (ap (λ (v : List Mark). placed_at r d (lines_by_opening qss) pasts ++ v ∷ []) e ∙ sym whole);
      beside = length-append qss (qs ∷ []) ∙ (ap (λ (n : ℕ). n + 1) a.beside ∙ sym (length-append pasts (past ∷ [])));
    }

by_opening : (r : Role) (d : ℕ) (o : Bool) (before : List (List Mark)) (qss : List (List Request)) (pasts : List (List station.Act)) (ms : List Mark) (qs : List Request) (past : List station.Act)
    → ArePlaced r d before qss pasts → ms ≡ placed r d (map line_of qs) past
    → ArePlaced r d (before ++ (if o then ms ∷ [] else [])) (qss ++ (if o then qs ∷ [] else [])) (pasts ++ (if o then past ∷ [] else []))
by_opening r d true before qss pasts ms qs past a e = one_more r d before qss pasts ms qs past a e
by_opening r d false before qss pasts ms qs past a e = rw (append-nil before) (rw (append-nil qss) (rw (append-nil pasts) a))

earlier_placed : (s : Setting) (past : List Act) → Lawful s past → (d : ℕ) → ArePlaced s.role d (earlier_marks s.role d past) (earlier_accepted s.role d past) (earlier_pasts s.role d (wire past))
unfolding Lawful
earlier_placed s [] l d = record { same = refl; beside = refl }
earlier_placed s (Got f ∷ past) l d =
    by_opening s.role d (opens_here s.role d past (Got f)) (earlier_marks s.role d past) (earlier_accepted s.role d past) (earlier_pasts s.role d (wire past))
    (marks s.role d past) (accepted s.role d past) (wire past) (earlier_placed s past l.1 d) (are_placed s past l.1 d)
earlier_placed s (Took r ∷ past) l d = earlier_placed s past l.1 d
earlier_placed s (Sent f ∷ past) l d = earlier_placed s past l.1 d
earlier_placed s (Told o ∷ past) l d = earlier_placed s past l.1 d
earlier_placed s (Heard k e line ∷ past) l d = earlier_placed s past l.1 d
earlier_placed s (Tick ∷ past) l d = earlier_placed s past l.1 d
earlier_placed s (Lost ∷ past) l d = earlier_placed s past l.1 d
earlier_placed s (Held e ∷ past) l d = earlier_placed s past l.1 d
earlier_placed s (Freed e ∷ past) l d = earlier_placed s past l.1 d
earlier_placed s (Given ∷ past) l d = earlier_placed s past l.1 d

-- in a lawful history what is marked in each opening are its lines and the commands accepted in it, placed over the wire
pub are_all_marks_placed : (s : Setting) (past : List Act) → Lawful s past → AreAllMarksPlaced s past
unfolding AreAllMarksPlaced
are_all_marks_placed s past l d =
    (one_more s.role d (earlier_marks s.role d past) (earlier_accepted s.role d past) (earlier_pasts s.role d (wire past)) (marks s.role d past) (accepted s.role d past) (wire past)
    (earlier_placed s past l d) (are_placed s past l d)).same

-- ## What they are

none_opens : (r : Role) (d : ℕ) (a : station.Act) (past : List station.Act) → is_got a ≡ false → earlier_openings r d past ≡ map (since r d) (earlier_pasts r d past)
    → earlier_openings r d (a ∷ past) ≡ map (since r d) (earlier_pasts r d past)
none_opens r d a past g e =
    ap (λ (v : List (List station.Act)). earlier_openings r d past ++ v) (not_opened r d past a (since r d past ∷ []) [] g)
    ∙ (append-nil (earlier_openings r d past) ∙ e)

openings_same : (r : Role) (d : ℕ) (past : List station.Act) → earlier_openings r d past ≡ map (since r d) (earlier_pasts r d past)
openings_same r d [] = refl
openings_same r d (station.Got f ∷ past) = by_opened (opens_now r d past (station.Got f)) (openings_same r d past)
  where
    by_opened : (o : Bool) → earlier_openings r d past ≡ map (since r d) (earlier_pasts r d past)
        → earlier_openings r d past ++ (if o then since r d past ∷ [] else []) ≡ map (since r d) (earlier_pasts r d past ++ (if o then past ∷ [] else []))
    by_opened true e = ap (λ (v : List (List station.Act)). v ++ since r d past ∷ []) e ∙ sym (map-append (since r d) (earlier_pasts r d past) (past ∷ []))
    by_opened false e = append-nil (earlier_openings r d past) ∙ (e ∙ ap (map (since r d)) (sym (append-nil (earlier_pasts r d past))))
openings_same r d (station.Called c ∷ past) = none_opens r d (station.Called c) past refl (openings_same r d past)
openings_same r d (station.Sent f ∷ past) = none_opens r d (station.Sent f) past refl (openings_same r d past)
openings_same r d (station.Tick ∷ past) = none_opens r d station.Tick past refl (openings_same r d past)
openings_same r d (station.Lost ∷ past) = none_opens r d station.Lost past refl (openings_same r d past)
openings_same r d (station.Given ∷ past) = none_opens r d station.Given past refl (openings_same r d past)

all_openings : (r : Role) (d : ℕ) (past : List station.Act) → openings r d past ≡ map (since r d) (earlier_pasts r d past ++ past ∷ [])
all_openings r d past =
    ap (λ (v : List (List station.Act)). v ++ since r d past ∷ []) (openings_same r d past)
    ∙ sym (map-append (since r d) (earlier_pasts r d past) (past ∷ []))

lines_each : (r : Role) (d : ℕ) (css : List (List (List ℕ))) (pasts : List (List station.Act)) → length css ≡ length pasts
    → map lines_of (placed_at r d css pasts) ≡ map lines (map (info_got d) (map (since r d) pasts))
lines_each r d [] [] e = refl
lines_each r d [] (p ∷ ps) e = absurd (let z : ⊥ = omega (arith, e) in z)
lines_each r d (c ∷ cs) [] e = absurd (let z : ⊥ = omega (arith, e) in z)
lines_each r d (c ∷ cs) (p ∷ ps) e =
    let first : lines_of (placed r d c p) ≡ lines (information_got r d p) = placed_lines r d c p in
    let rest = lines_each r d cs ps (omega (arith, e)) in
    ap (λ (v : List (List ℕ)). v ∷ map lines_of (placed_at r d cs ps)) first
    ∙ ap (λ (v : List (List (List ℕ))). lines (information_got r d p) ∷ v) rest

-- the commands that are wholly sent in such an opening
abbrev wholly : List (List ℕ) × List ℕ → List (List ℕ)
wholly p = wholly_sent (length p.1) p.0

commands_each : (r : Role) (d : ℕ) (css : List (List (List ℕ))) (pasts : List (List station.Act))
    → map begun_in (placed_at r d css pasts) ≡ map wholly (zip css (map (info_sent d) (map (since r d) pasts)))
commands_each r d [] [] = refl
commands_each r d [] (p ∷ ps) = refl
commands_each r d (c ∷ cs) [] = refl
commands_each r d (c ∷ cs) (p ∷ ps) =
    let first : begun_in (placed r d c p) ≡ wholly_sent (length (information_sent r d p)) c = placed_commands r d c p in
    let rest = commands_each r d cs ps in
    ap (λ (v : List (List ℕ)). v ∷ map begun_in (placed_at r d cs ps)) first
    ∙ ap (λ (v : List (List (List ℕ))). wholly_sent (length (information_sent r d p)) c ∷ v) rest

-- what is placed in each opening are its lines, and the commands beside it that are wholly sent
pub places_each : (r : Role) (past : List station.Act) → PlacesEach r past
unfolding PlacesEach
places_each r past d css e =
    let pasts = earlier_pasts r d past ++ past ∷ [] in
    let same = all_openings r d past in
    let beside : length css ≡ length pasts = e ∙ (ap length same ∙ length-map pasts (since r d)) in
    record {
      lines_are = lines_each r d css pasts beside ∙ ap (λ (v : List (List station.Act)). map lines (map (info_got d) v)) (sym same);
      commands_are = commands_each r d css pasts ∙ ap (λ (v : List (List station.Act)). map wholly (zip css (map (info_sent d) v))) (sym same);
    }
