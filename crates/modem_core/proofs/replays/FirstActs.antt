-- What begins a call in a replay was brought by an event.
use Rattle.std.specs.Prelude.{◌≡◌, ℕ, not, Bool, true, false, List, [], ◌∷◌, ◌++◌, map, filter, refl, if◌then◌else◌}
use Rattle.std.specs.List.{list_all, flat_map}
use Rattle.std.proofs.Common.{ap, sym, ◌∙◌, subst}
use Rattle.std.proofs.lemmas.Bool.{and_parts, and_from}
use Rattle.std.proofs.lemmas.List.Elements.{filter-append}
use Rattle.std.proofs.lemmas.List.Folds.{list_all-append}
use Rattle.mux_frame.specs.Frames.{Frame}
use Rattle.mux_station.specs.Written.{is_data_frame}
use Rattle.modem_desk.specs.declared.request.Request.{Request}
use Rattle.modem_history.specs.Acts.{Act, Took, Got, Sent, Told, Heard, Tick, Lost, Held, Freed, Given}
use Rattle.modem_history.specs.Calls.{Setting, replaying}
use Rattle.modem_history.specs.Wholes.{is_first, is_said}
use Rattle.modem_core.specs.declared.event.Event.{Event}
use Rattle.modem_core.specs.declared.event.Event.TheVariants as event
use Rattle.modem_core.specs.Replays.{Piece, acts_in, first_of, BegunBy, ends, asks, hears, ticks, loses, with_piece, ArePieces, Replays, Brought}
use Rattle.modem_core.specs.ReplayRows.{two_requests, lost_by_itself, one_request, frame_invented, request_dropped, NoReplay}

-- ## A piece has one first act

none_first : (acts : List Act) → list_all is_said acts ≡ true → filter is_first acts ≡ []
none_first [] h = refl
none_first (Sent f ∷ acts) h = none_first acts (and_parts (not (is_data_frame f)) (list_all is_said acts) h).1
none_first (Told o ∷ acts) h = none_first acts h
none_first (Heard k d line ∷ acts) h = none_first acts h
none_first (Took r ∷ acts) h = absurd (let e : false ≡ true = h in cc)
none_first (Got f ∷ acts) h = absurd (let e : false ≡ true = h in cc)
none_first (Tick ∷ acts) h = absurd (let e : false ≡ true = h in cc)
none_first (Lost ∷ acts) h = absurd (let e : false ≡ true = h in cc)
none_first (Held d ∷ acts) h = absurd (let e : false ≡ true = h in cc)
none_first (Freed d ∷ acts) h = absurd (let e : false ≡ true = h in cc)
none_first (Given ∷ acts) h = absurd (let e : false ≡ true = h in cc)

sent_first : (fs : List Frame) → filter is_first (map Sent fs) ≡ []
sent_first [] = refl
sent_first (f ∷ fs) = sent_first fs

kept_first : (b : Bool) (a : Act) (acts : List Act) → b ≡ true → (if b then a ∷ acts else acts) ≡ a ∷ acts
kept_first true a acts h = refl
kept_first false a acts h = cc

piece_first : (p : Piece) → is_first p.first ≡ true → list_all is_said p.more ≡ true → filter is_first (acts_in p) ≡ p.first ∷ []
piece_first p h k =
    let rest : filter is_first (p.more ++ map Sent p.data_frames) ≡ [] =
    filter-append is_first p.more (map Sent p.data_frames)
    ∙ (ap (λ (v : List Act). v ++ filter is_first (map Sent p.data_frames)) (none_first p.more k) ∙ sent_first p.data_frames) in
    kept_first (is_first p.first) p.first (filter is_first (p.more ++ map Sent p.data_frames)) h ∙ ap (λ (v : List Act). p.first ∷ v) rest

firsts_of : (s : Setting) (ps : List Piece) (past : List Act) → list_all is_first (map first_of ps) ≡ true → ArePieces s past ps → filter is_first (flat_map acts_in ps) ≡ map first_of ps
firsts_of s [] past h k = refl
firsts_of s (p ∷ ps) past h k =
    let parts = and_parts (is_first p.first) (list_all is_first (map first_of ps)) h in
    filter-append is_first (acts_in p) (flat_map acts_in ps)
    ∙ (ap (λ (v : List Act). v ++ filter is_first (flat_map acts_in ps)) (piece_first p parts.0 k.0.follow)
    ∙ ap (λ (v : List Act). p.first ∷ v) (firsts_of s ps (with_piece past p) parts.1 k.1))

-- ## What events bring begins a call

got_first : (fs : List Frame) → list_all is_first (map Got fs) ≡ true
got_first [] = refl
got_first (f ∷ fs) = got_first fs

-- all that events bring are acts that a call begins with
pub brought_first : (n1 : ℕ) (heard : List ℕ) (events : List Event) (firsts : List Act) → BegunBy n1 heard events firsts → list_all is_first firsts ≡ true
brought_first n1 _ _ _ (ends heard) = refl
brought_first n1 _ _ _ (asks heard q events firsts b) = brought_first n1 heard events firsts b
brought_first n1 _ _ _ (ticks heard events firsts b) = brought_first n1 heard events firsts b
brought_first n1 _ _ _ (loses heard events firsts b) = brought_first n1 heard events firsts b
brought_first n1 _ _ _ (hears heard x fs gs rest last events firsts h k b) =
    list_all-append is_first (map Got gs) firsts ∙ and_from (list_all is_first (map Got gs)) (list_all is_first firsts) (got_first gs) (brought_first n1 (heard ++ x) events firsts b)

-- those among the acts of a replay are what its events bring
pub brought : (n1 : ℕ) (events : List Event) (acts : List Act) → Replays n1 events acts → Brought n1 events acts
unfolding Brought
brought n1 events acts r =
    let all = brought_first n1 [] events (map first_of r.pieces) r.begins in
    subst (BegunBy n1 [] events) (sym (firsts_of (replaying n1) r.pieces [] all r.are_pieces) ∙ ap (filter is_first) r.joins) r.begins

-- ## Rows

record Asked (n1 : ℕ) (heard : List ℕ) (q : Request) (events : List Event) (firsts : List Act) : Type 0 where
  later : List Act
  first_is : firsts ≡ Took q ∷ later
  begins : BegunBy n1 heard events later

asked : (n1 : ℕ) (heard : List ℕ) (es : List Event) (firsts : List Act) → BegunBy n1 heard es firsts → (q : Request) (events : List Event) → es ≡ event.Ask q ∷ events → Asked n1 heard q events firsts
asked n1 _ _ _ (ends heard) q events e = cc
asked n1 _ _ _ (asks heard r rest firsts b) q events e =
    let same : r ≡ q = cc in
    let tail : rest ≡ events = cc in
    record { later = firsts; first_is = ap (λ (x : Request). Took x ∷ firsts) same; begins = subst (λ (es : List Event). BegunBy n1 heard es firsts) tail b }
asked n1 _ _ _ (hears heard x fs gs rest last more firsts h k b) q events e = cc
asked n1 _ _ _ (ticks heard more firsts b) q events e = cc
asked n1 _ _ _ (loses heard more firsts b) q events e = cc

ended : (n1 : ℕ) (heard : List ℕ) (es : List Event) (firsts : List Act) → BegunBy n1 heard es firsts → es ≡ [] → firsts ≡ []
ended n1 _ _ _ (ends heard) e = refl
ended n1 _ _ _ (asks heard r rest firsts b) e = cc
ended n1 _ _ _ (hears heard x fs gs rest last more firsts h k b) e = cc
ended n1 _ _ _ (ticks heard more firsts b) e = cc
ended n1 _ _ _ (loses heard more firsts b) e = cc

-- in no replay the line is lost without an event
pub no_loss : NoReplay two_requests lost_by_itself
unfolding Brought
no_loss r =
    let one = asked 31 [] _ _ (brought 31 two_requests lost_by_itself r) _ _ refl in
    let two = asked 31 [] _ _ one.begins _ _ refl in
    let first = one.first_is in
    let second = two.first_is in
    cc

-- in none a frame is got that no octets bring
pub no_invention : NoReplay one_request frame_invented
unfolding Brought
no_invention r =
    let one = asked 31 [] _ _ (brought 31 one_request frame_invented r) _ _ refl in
    let none = ended 31 [] _ _ one.begins refl in
    let first = one.first_is in
    cc

-- in none a request among the events is left out
pub no_request_dropped : NoReplay two_requests request_dropped
unfolding Brought
no_request_dropped r =
    let one = asked 31 [] _ _ (brought 31 two_requests request_dropped r) _ _ refl in
    let two = asked 31 [] _ _ one.begins _ _ refl in
    let first = one.first_is in
    let second = two.first_is in
    cc
