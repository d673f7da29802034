-- The replay so far: before any event, after one more, and after the last.
use Rattle.std.specs.Prelude.{◌≡◌, ℕ, ◌+◌, ◌<◌, Bool, true, false, List, [], ◌∷◌, ◌++◌, length, take, drop, get_or, map, filter, refl, None, if◌then◌else◌}
use Rattle.std.specs.List.{list_all, flat_map}
use Rattle.std.proofs.Common.{ap, sym, ◌∙◌, subst, arith, append_assoc, append-nil, length-append}
use Rattle.std.proofs.lemmas.Bool.{and_parts}
use Rattle.std.proofs.lemmas.List.{take-append-drop, take_more, map-append}
use Rattle.std.proofs.lemmas.List.Elements.{filter-append, filter_map-append}
use Rattle.std.proofs.lemmas.Grind.{flat_map-append}
use Rattle.mux_frame.specs.Frames.{Frame}
use Rattle.mux_frame.specs.Reading.{Reads}
use Rattle.mux_frame.specs.Deframing.{Deframing, Deframes, AtHand}
use Rattle.mux_station.specs.Written.{is_data_frame}
use Rattle.modem_desk.specs.declared.request.Request.{Request}
use Rattle.modem_core.specs.declared.event.Event.{Event}
use Rattle.modem_core.specs.declared.event.Event.TheVariants as event
use Rattle.modem_history.specs.Acts.{Act, Took, Got, Sent, Told, Heard, Tick, Lost, Held, Freed, Given, after}
use Rattle.modem_history.specs.Calls.{Setting, replaying}
use Rattle.modem_history.specs.Lawful.{Lawful, Complete}
use Rattle.modem_history.specs.Wholes.{UsesOnce, taken_requests, is_same, is_said}
use Rattle.modem_core.specs.Cores.{Core}
use Rattle.modem_core.specs.Replays.{Piece, acts_in, first_of, marks_for, with_piece, past_of, ArePieces, BegunBy, ends, asks, hears, ticks, loses, Replays, request_in, requests, event_octets, octets}
use Rattle.modem_core.specs.Running.{Running, Drained, Goes, Steps, StepAll, none_more, one_more, HandlesEvent, RunsReplay, SoFar}

-- ## Events

requests_more : (done : List Event) (e : Event) → requests (done ++ e ∷ []) ≡ requests done ++ requests (e ∷ [])
requests_more done e = filter_map-append request_in done (e ∷ [])

-- one event more brings its octets behind the others
pub octets_more : (done : List Event) (e : Event) → octets (done ++ e ∷ []) ≡ octets done ++ octets (e ∷ [])
octets_more done e = flat_map-append event_octets done (e ∷ [])

begins_ask : (n1 : ℕ) (heard : List ℕ) (done : List Event) (firsts : List Act) (q : Request) → BegunBy n1 heard done firsts → BegunBy n1 heard (done ++ event.Ask q ∷ []) (firsts ++ Took q ∷ [])
begins_ask n1 _ _ _ q (ends heard) = asks heard q [] [] (ends heard)
begins_ask n1 _ _ _ q (asks heard r events firsts b) = asks heard r (events ++ event.Ask q ∷ []) (firsts ++ Took q ∷ []) (begins_ask n1 heard events firsts q b)
begins_ask n1 _ _ _ q (hears heard x fs gs rest last events firsts h k b) =
    subst (BegunBy n1 heard (event.Octets x ∷ (events ++ event.Ask q ∷ []))) (sym (append_assoc (map Got gs) firsts (Took q ∷ [])))
    (hears heard x fs gs rest last (events ++ event.Ask q ∷ []) (firsts ++ Took q ∷ []) h k (begins_ask n1 (heard ++ x) events firsts q b))
begins_ask n1 _ _ _ q (ticks heard events firsts b) = ticks heard (events ++ event.Ask q ∷ []) (firsts ++ Took q ∷ []) (begins_ask n1 heard events firsts q b)
begins_ask n1 _ _ _ q (loses heard events firsts b) = loses heard (events ++ event.Ask q ∷ []) (firsts ++ Took q ∷ []) (begins_ask n1 heard events firsts q b)

begins_octets : (n1 : ℕ) (heard : List ℕ) (done : List Event) (firsts : List Act) (x : List ℕ) (fs gs : List Frame) (rest last : List ℕ)
    → BegunBy n1 heard done firsts → Reads n1 (heard ++ octets done) fs rest → Reads n1 ((heard ++ octets done) ++ x) (fs ++ gs) last
    → BegunBy n1 heard (done ++ event.Octets x ∷ []) (firsts ++ map Got gs)
begins_octets n1 _ _ _ x fs gs rest last (ends heard) h k =
    let nil : heard ++ [] ≡ heard = append-nil heard in
    subst (BegunBy n1 heard (event.Octets x ∷ [])) (append-nil (map Got gs))
    (hears heard x fs gs rest last [] [] (subst (λ (t : List ℕ). Reads n1 t fs rest) nil h) (subst (λ (t : List ℕ). Reads n1 (t ++ x) (fs ++ gs) last) nil k) (ends (heard ++ x)))
begins_octets n1 _ _ _ x fs gs rest last (asks heard q events firsts b) h k = asks heard q (events ++ event.Octets x ∷ []) (firsts ++ map Got gs) (begins_octets n1 heard events firsts x fs gs rest last b h k)
begins_octets n1 _ _ _ x fs gs rest last (hears heard y fs' gs' rest' last' events firsts h' k' b) h k =
    let regroup : heard ++ (y ++ octets events) ≡ (heard ++ y) ++ octets events = sym (append_assoc heard y (octets events)) in
    subst (BegunBy n1 heard (event.Octets y ∷ (events ++ event.Octets x ∷ []))) (sym (append_assoc (map Got gs') firsts (map Got gs)))
    (hears heard y fs' gs' rest' last' (events ++ event.Octets x ∷ []) (firsts ++ map Got gs) h' k'
    (begins_octets n1 (heard ++ y) events firsts x fs gs rest last b (subst (λ (t : List ℕ). Reads n1 t fs rest) regroup h) (subst (λ (t : List ℕ). Reads n1 (t ++ x) (fs ++ gs) last) regroup k)))
begins_octets n1 _ _ _ x fs gs rest last (ticks heard events firsts b) h k = ticks heard (events ++ event.Octets x ∷ []) (firsts ++ map Got gs) (begins_octets n1 heard events firsts x fs gs rest last b h k)
begins_octets n1 _ _ _ x fs gs rest last (loses heard events firsts b) h k = loses heard (events ++ event.Octets x ∷ []) (firsts ++ map Got gs) (begins_octets n1 heard events firsts x fs gs rest last b h k)

begins_tick : (n1 : ℕ) (heard : List ℕ) (done : List Event) (firsts : List Act) → BegunBy n1 heard done firsts → BegunBy n1 heard (done ++ event.Tick ∷ []) (firsts ++ Tick ∷ [])
begins_tick n1 _ _ _ (ends heard) = ticks heard [] [] (ends heard)
begins_tick n1 _ _ _ (asks heard r events firsts b) = asks heard r (events ++ event.Tick ∷ []) (firsts ++ Tick ∷ []) (begins_tick n1 heard events firsts b)
begins_tick n1 _ _ _ (ticks heard events firsts b) = ticks heard (events ++ event.Tick ∷ []) (firsts ++ Tick ∷ []) (begins_tick n1 heard events firsts b)
begins_tick n1 _ _ _ (loses heard events firsts b) = loses heard (events ++ event.Tick ∷ []) (firsts ++ Tick ∷ []) (begins_tick n1 heard events firsts b)
begins_tick n1 _ _ _ (hears heard x fs gs rest last events firsts h k b) =
    subst (BegunBy n1 heard (event.Octets x ∷ (events ++ event.Tick ∷ []))) (sym (append_assoc (map Got gs) firsts (Tick ∷ [])))
    (hears heard x fs gs rest last (events ++ event.Tick ∷ []) (firsts ++ Tick ∷ []) h k (begins_tick n1 (heard ++ x) events firsts b))

begins_loss : (n1 : ℕ) (heard : List ℕ) (done : List Event) (firsts : List Act) → BegunBy n1 heard done firsts → BegunBy n1 heard (done ++ event.Lost ∷ []) (firsts ++ Lost ∷ [])
begins_loss n1 _ _ _ (ends heard) = loses heard [] [] (ends heard)
begins_loss n1 _ _ _ (asks heard r events firsts b) = asks heard r (events ++ event.Lost ∷ []) (firsts ++ Lost ∷ []) (begins_loss n1 heard events firsts b)
begins_loss n1 _ _ _ (ticks heard events firsts b) = ticks heard (events ++ event.Lost ∷ []) (firsts ++ Lost ∷ []) (begins_loss n1 heard events firsts b)
begins_loss n1 _ _ _ (loses heard events firsts b) = loses heard (events ++ event.Lost ∷ []) (firsts ++ Lost ∷ []) (begins_loss n1 heard events firsts b)
begins_loss n1 _ _ _ (hears heard x fs gs rest last events firsts h k b) =
    subst (BegunBy n1 heard (event.Octets x ∷ (events ++ event.Lost ∷ []))) (sym (append_assoc (map Got gs) firsts (Lost ∷ [])))
    (hears heard x fs gs rest last (events ++ event.Lost ∷ []) (firsts ++ Lost ∷ []) h k (begins_loss n1 (heard ++ x) events firsts b))

-- ## Requests

few_front : (xs ys : List Request) → UsesOnce (xs ++ ys) → UsesOnce xs
few_front xs ys h r = let k = h r in let e = ap length (filter-append (is_same r) xs ys) ∙ length-append (filter (is_same r) xs) (filter (is_same r) ys) in omega (arith, k, e)

taken_said : (acts past : List Act) → list_all is_said acts ≡ true → taken_requests (after past acts) ≡ taken_requests past
taken_said [] past h = refl
taken_said (Sent f ∷ acts) past h = taken_said acts (Sent f ∷ past) (and_parts _ (list_all is_said acts) h).1
taken_said (Told o ∷ acts) past h = taken_said acts (Told o ∷ past) h
taken_said (Heard k d line ∷ acts) past h = taken_said acts (Heard k d line ∷ past) h
taken_said (Took q ∷ acts) past h = absurd (let e : false ≡ true = h in cc)
taken_said (Got f ∷ acts) past h = absurd (let e : false ≡ true = h in cc)
taken_said (Tick ∷ acts) past h = absurd (let e : false ≡ true = h in cc)
taken_said (Lost ∷ acts) past h = absurd (let e : false ≡ true = h in cc)
taken_said (Held d ∷ acts) past h = absurd (let e : false ≡ true = h in cc)
taken_said (Freed d ∷ acts) past h = absurd (let e : false ≡ true = h in cc)
taken_said (Given ∷ acts) past h = absurd (let e : false ≡ true = h in cc)

taken_if : (b : Bool) (xs ys : List Act) (past : List Act) → taken_requests (after past xs) ≡ taken_requests past → taken_requests (after (Given ∷ past) ys) ≡ taken_requests past → taken_requests (after past (if b then xs else Given ∷ ys)) ≡ taken_requests past
taken_if true xs ys past h k = h
taken_if false xs ys past h k = k

taken_marks : (acts past : List Act) → taken_requests (after past (marks_for acts)) ≡ taken_requests past
taken_marks [] past = refl
taken_marks (Sent f ∷ acts) past = taken_if (is_data_frame f) (marks_for acts) (marks_for acts) past (taken_marks acts past) (taken_marks acts (Given ∷ past))
taken_marks (Told o ∷ acts) past = taken_marks acts past
taken_marks (Heard k d line ∷ acts) past = taken_marks acts past
taken_marks (Took q ∷ acts) past = taken_marks acts past
taken_marks (Got f ∷ acts) past = taken_marks acts past
taken_marks (Tick ∷ acts) past = taken_marks acts past
taken_marks (Lost ∷ acts) past = taken_marks acts past
taken_marks (Held d ∷ acts) past = taken_marks acts past
taken_marks (Freed d ∷ acts) past = taken_marks acts past
taken_marks (Given ∷ acts) past = taken_marks acts past

taken_sent : (fs : List Frame) (past : List Act) → taken_requests (after past (map Sent fs)) ≡ taken_requests past
taken_sent [] past = refl
taken_sent (f ∷ fs) past = taken_sent fs (Sent f ∷ past)

taken_piece : (past : List Act) (p : Piece) → list_all is_said p.more ≡ true → taken_requests (with_piece past p) ≡ taken_requests (p.first ∷ past)
taken_piece past p h =
    taken_sent p.data_frames (after (after past (p.first ∷ p.more)) (marks_for p.more))
    ∙ (taken_marks p.more (after past (p.first ∷ p.more)) ∙ taken_said p.more (p.first ∷ past) h)

-- ## Pieces

past_more : (past : List Act) (ps qs : List Piece) → past_of past (ps ++ qs) ≡ past_of (past_of past ps) qs
past_more past [] qs = refl
past_more past (p ∷ ps) qs = past_more (with_piece past p) ps qs

pieces_more : (s : Setting) (ps : List Piece) (past : List Act) (qs : List Piece) → ArePieces s past ps → ArePieces s (past_of past ps) qs → ArePieces s past (ps ++ qs)
pieces_more s [] past qs h k = k
pieces_more s (p ∷ ps) past qs h k = (h.0, pieces_more s ps (with_piece past p) qs h.1 k)

-- pieces that begin with these acts
record Went (s : Setting) (past : List Act) (firsts : List Act) (old new : Running) : Type 0 where
  pieces : List Piece
  firsts_are : map first_of pieces ≡ firsts
  acts_are : new.acts ≡ old.acts ++ flat_map acts_in pieces
  are_pieces : ArePieces s past pieces
  drained : Drained s new.core (past_of past pieces)
  taken_same : taken_requests (past_of past pieces) ≡ taken_requests (after past firsts)

went_one : (s : Setting) (past : List Act) (a : Act) (old new : Running) → Goes s past a old new → Went s past (a ∷ []) old new
went_one s past a old new g = record {
  pieces = g.piece ∷ [];
  firsts_are = ap (λ (x : Act). x ∷ []) g.first_is;
  acts_are = g.acts_are ∙ ap (λ (x : List Act). old.acts ++ x) (sym (append-nil (acts_in g.piece)));
  are_pieces = (g.is_piece, tt);
  drained = g.drained;
  taken_same = taken_piece past g.piece g.is_piece.follow ∙ ap (λ (x : Act). taken_requests (x ∷ past)) g.first_is;
}

taken_got : (fs : List Frame) (past : List Act) → taken_requests (after past (map Got fs)) ≡ taken_requests past
taken_got [] past = refl
taken_got (f ∷ fs) past = taken_got fs (Got f ∷ past)

went_all : (s : Setting) (fs : List Frame) (past : List Act) (old new : Running) → StepAll fs old new → UsesOnce (taken_requests past) → Drained s old.core past → Went s past (map Got fs) old new
unfolding Steps
went_all s _ past _ _ (none_more v) u d = record { pieces = []; firsts_are = refl; acts_are = sym (append-nil v.acts); are_pieces = tt; drained = d; taken_same = refl }
went_all s _ past _ _ (one_more f fs old mid new first later) u d =
    let g = first s past d u in
    let same : taken_requests (with_piece past g.piece) ≡ taken_requests past = taken_piece past g.piece g.is_piece.follow ∙ ap (λ (x : Act). taken_requests (x ∷ past)) g.first_is in
    let w = went_all s fs (with_piece past g.piece) mid new later (subst UsesOnce (sym same) u) g.drained in
    record {
      pieces = g.piece ∷ w.pieces;
      firsts_are = ap (λ (x : Act). x ∷ map first_of w.pieces) g.first_is ∙ ap (λ (x : List Act). Got f ∷ x) w.firsts_are;
      acts_are = w.acts_are ∙ (ap (λ (x : List Act). x ++ flat_map acts_in w.pieces) g.acts_are ∙ append_assoc old.acts (acts_in g.piece) (flat_map acts_in w.pieces));
      are_pieces = (g.is_piece, w.are_pieces);
      drained = w.drained;
      taken_same = w.taken_same ∙ (taken_got fs (with_piece past g.piece) ∙ (same ∙ sym (taken_got fs (Got f ∷ past))));
    }

-- the run goes on
run_more : (s : Setting) (done more : List Event) (firsts : List Act) (v v' : Running) → (r : RunsReplay s done v) → Went s (past_of [] r.pieces) firsts v v'
    → BegunBy s.n1 [] (done ++ more) (map first_of r.pieces ++ firsts) → taken_requests (after (past_of [] r.pieces) firsts) ≡ requests (done ++ more) → RunsReplay s (done ++ more) v'
run_more s done more firsts v v' r w b t = record {
  pieces = r.pieces ++ w.pieces;
  joins = flat_map-append acts_in r.pieces w.pieces ∙ (ap (λ (x : List Act). x ++ flat_map acts_in w.pieces) r.joins ∙ sym w.acts_are);
  begins = subst (BegunBy s.n1 [] (done ++ more)) (sym (map-append first_of r.pieces w.pieces ∙ ap (λ (x : List Act). map first_of r.pieces ++ x) w.firsts_are)) b;
  are_pieces = pieces_more s r.pieces [] w.pieces r.are_pieces w.are_pieces;
  drained = subst (Drained s v'.core) (sym (past_more [] r.pieces w.pieces)) w.drained;
  taken_are = ap taken_requests (past_more [] r.pieces w.pieces) ∙ (w.taken_same ∙ t);
}

-- ## Before any event

nothing_lawful : (n1 : ℕ) → Lawful (replaying n1) []
unfolding Lawful
nothing_lawful n1 = tt

nothing_complete : (n1 : ℕ) → Complete (replaying n1) []
unfolding Complete
nothing_complete n1 = refl

-- a new core stands in the past in which nothing has happened, and nothing may go out
pub record Starts (n1 : ℕ) (v : Core) : Type 0 where
  pub drained : Drained (replaying n1) v []

runs_nothing : (s : Setting) (v : Running) → v.acts ≡ [] → Drained s v.core [] → RunsReplay s [] v
runs_nothing s v e d = record {
  pieces = [];
  joins = sym e;
  begins = ends [];
  are_pieces = tt;
  drained = d;
  taken_are = refl;
}

-- the replay before any event
pub so_far_start : (s : Setting) (events : List Event) (v : Running) (d : Deframing) → v.acts ≡ [] → Drained s v.core [] → Deframes [] [] d → d.next ≡ None → d.n1 ≡ s.n1 → SoFar s events 0 v d
so_far_start s events v d e h p idle bound = record { frames = []; deframes = p; idle = idle; bound = bound; runs = λ f. runs_nothing s v e h }

-- what the deframer handed out is what is read
reads_so : (n1 : ℕ) (taken_requests : List ℕ) (handed : List Frame) (d : Deframing) → d.n1 ≡ n1 → d.next ≡ None → Deframes taken_requests handed d → Reads n1 taken_requests handed d.undecided
reads_so n1 taken_requests handed d bound idle h =
    let hand : Reads d.n1 d.undecided [] d.undecided = subst (AtHand d.n1 d.undecided) idle h.at_hand in
    let reads : Reads d.n1 (taken_requests ++ []) (handed ++ []) d.undecided = h.reads [] [] d.undecided (subst (λ (t : List ℕ). Reads d.n1 t [] d.undecided) (sym (append-nil d.undecided)) hand) in
    subst (λ (n : ℕ). Reads n taken_requests handed d.undecided) bound
    (subst (λ (t : List ℕ). Reads d.n1 t handed d.undecided) (append-nil taken_requests) (subst (λ (fs : List Frame). Reads d.n1 (taken_requests ++ []) fs d.undecided) (append-nil handed) reads))

-- ## One event more

-- the events are those done, this one and some later ones
pub record At (events : List Event) (k : ℕ) (e : Event) : Type 0 where
  pub next : take (k + 1) events ≡ take k events ++ e ∷ []
  pub whole : events ≡ take k events ++ e ∷ drop (k + 1) events
  pub split : events ≡ (take k events ++ e ∷ []) ++ drop (k + 1) events

event_at : (events : List Event) (k : ℕ) (e : Event) → k < length events → e ≡ get_or events k e → At events k e
event_at events k e h is =
    let next : take (k + 1) events ≡ take k events ++ e ∷ [] = take_more events k e h ∙ ap (λ (x : Event). take k events ++ x ∷ []) (sym is) in
    record {
      next = next;
      split = sym (take-append-drop (k + 1) events) ∙ ap (λ (es : List Event). es ++ drop (k + 1) events) next;
      whole = sym (take-append-drop (k + 1) events) ∙ (ap (λ (es : List Event). es ++ drop (k + 1) events) next ∙ append_assoc (take k events) (e ∷ []) (drop (k + 1) events));
    }

-- an event that brings no octets
unheard : (s : Setting) (events : List Event) (k : ℕ) (e : Event) (a : Act) (v v' : Running) (d d' : Deframing)
    → At events k e → SoFar s events k v d → d' ≡ d → octets (e ∷ []) ≡ [] → d'.next ≡ None → Steps a v v'
    → ((firsts : List Act) (done : List Event) → BegunBy s.n1 [] done firsts → BegunBy s.n1 [] (done ++ e ∷ []) (firsts ++ a ∷ []))
    → ((past : List Act) (done : List Event) → taken_requests past ≡ requests done → taken_requests (a ∷ past) ≡ requests (done ++ e ∷ []))
    → SoFar s events (k + 1) v' d'
unfolding Steps
unheard s events k e a v v' d d' at so unchanged none idle steps begins takes =
    let now = take k events in
    let same : octets (take (k + 1) events) ≡ octets now = ap octets at.next ∙ (octets_more now e ∙ (ap (λ (t : List ℕ). octets now ++ t) none ∙ append-nil (octets now))) in
    record {
      frames = so.frames;
      deframes = subst (λ (t : List ℕ). Deframes t so.frames d') (sym same) (subst (Deframes (octets now) so.frames) (sym unchanged) so.deframes);
      idle = idle;
      bound = ap (λ (x : Deframing). x.n1) unchanged ∙ so.bound;
      runs = λ f.
          let r = so.runs f in
          let past = past_of [] r.pieces in
          let t = takes past now r.taken_are in
          let few : UsesOnce (requests (now ++ e ∷ [])) = few_front (requests (now ++ e ∷ [])) (requests (drop (k + 1) events)) (subst UsesOnce (ap requests at.split ∙ filter_map-append request_in (now ++ e ∷ []) (drop (k + 1) events)) f) in
          let g = steps s past r.drained (subst UsesOnce (sym t) few) in
          subst (λ (es : List Event). RunsReplay s es v') (sym at.next)
          (run_more s now (e ∷ []) (a ∷ []) v v' r (went_one s past a v v' g) (begins (map first_of r.pieces) now r.begins) t);
    }

takes_none : (e : Event) (past : List Act) (done : List Event) → requests (e ∷ []) ≡ [] → taken_requests past ≡ requests done → taken_requests past ≡ requests (done ++ e ∷ [])
takes_none e past done none h = h ∙ (sym (append-nil (requests done)) ∙ (ap (λ (x : List Request). requests done ++ x) (sym none) ∙ sym (requests_more done e)))

after_event : (s : Setting) (events : List Event) (k : ℕ) (e : Event) (v v' : Running) (d d' : Deframing)
    → At events k e → SoFar s events k v d → HandlesEvent e d d' v v' → d'.next ≡ None → SoFar s events (k + 1) v' d'
after_event s events k (event.Ask q) v v' d d' at so h idle =
    unheard s events k (event.Ask q) (Took q) v v' d d' at so h.same refl idle h.steps (λ firsts done b. begins_ask s.n1 [] done firsts q b)
    (λ past done t. ap (λ (x : List Request). x ++ q ∷ []) t ∙ sym (requests_more done (event.Ask q)))
after_event s events k event.Tick v v' d d' at so h idle =
    unheard s events k event.Tick Tick v v' d d' at so h.same refl idle h.steps (λ firsts done b. begins_tick s.n1 [] done firsts b) (λ past done t. takes_none event.Tick past done refl t)
after_event s events k event.Lost v v' d d' at so h idle =
    unheard s events k event.Lost Lost v v' d d' at so h.same refl idle h.steps (λ firsts done b. begins_loss s.n1 [] done firsts b) (λ past done t. takes_none event.Lost past done refl t)
after_event s events k (event.Octets x) v v' d d' at so h idle =
    let now = take k events in
    let bound : d'.n1 ≡ s.n1 = h.bound ∙ so.bound in
    let more : octets (take (k + 1) events) ≡ octets now ++ x = ap octets at.next ∙ (octets_more now (event.Octets x) ∙ ap (λ (t : List ℕ). octets now ++ t) (append-nil x)) in
    let deframes : Deframes (octets now ++ x) (so.frames ++ h.frames) d' = h.past (octets now) so.frames so.deframes in
    let before : Reads s.n1 (octets now) so.frames d.undecided = reads_so s.n1 (octets now) so.frames d so.bound so.idle so.deframes in
    let reads : Reads s.n1 (octets now ++ x) (so.frames ++ h.frames) d'.undecided = reads_so s.n1 (octets now ++ x) (so.frames ++ h.frames) d' bound idle deframes in
    record {
      frames = so.frames ++ h.frames;
      deframes = subst (λ (t : List ℕ). Deframes t (so.frames ++ h.frames) d') (sym more) deframes;
      idle = idle;
      bound = bound;
      runs = λ f.
          let r = so.runs f in
          let past = past_of [] r.pieces in
          let few : UsesOnce (requests now) = few_front (requests now) (requests (event.Octets x ∷ drop (k + 1) events)) (subst UsesOnce (ap requests at.whole ∙ filter_map-append request_in now (event.Octets x ∷ drop (k + 1) events)) f) in
          let w = went_all s h.frames past v v' h.come (subst UsesOnce (sym r.taken_are) few) r.drained in
          let t : taken_requests (after past (map Got h.frames)) ≡ requests (now ++ event.Octets x ∷ []) = taken_got h.frames past ∙ takes_none (event.Octets x) past now refl r.taken_are in
          subst (λ (es : List Event). RunsReplay s es v') (sym at.next)
          (run_more s now (event.Octets x ∷ []) (map Got h.frames) v v' r w (begins_octets s.n1 [] now (map first_of r.pieces) x so.frames h.frames d.undecided d'.undecided r.begins before reads) t);
    }

-- after one event more
pub so_far_step : (s : Setting) (events : List Event) (k : ℕ) (e : Event) (v v' : Running) (d d' : Deframing)
    → k < length events → e ≡ get_or events k e → SoFar s events k v d → HandlesEvent e d d' v v' → d'.next ≡ None → SoFar s events (k + 1) v' d'
so_far_step s events k e v v' d d' h is so handles idle = after_event s events k e v v' d d' (event_at events k e h is) so handles idle

-- ## The end

-- after the last event its acts are a replay of them, where no caller uses a number twice
pub so_far_end : (n1 : ℕ) (events : List Event) (v : Running) (d : Deframing) (acts : List Act)
    → take (length events) events ≡ events → v.acts ≡ acts → SoFar (replaying n1) events (length events) v d → UsesOnce (requests events) → Replays n1 events acts
so_far_end n1 events v d acts all same so f =
    let run = so.runs f in
    record { pieces = run.pieces; joins = run.joins ∙ same; begins = subst (λ (es : List Event). BegunBy n1 [] es (map first_of run.pieces)) all run.begins; are_pieces = run.are_pieces }
