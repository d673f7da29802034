-- Of each command all data frames but the last have N1 octets of information.
use Rattle.std.specs.Prelude.{◌≡◌, ℕ, zero, suc, ◌+◌, ◌==◌, ◌&&◌, ◌||◌, ◌⊎◌, not, Bool, true, false, List, [], ◌∷◌, ◌++◌, length, take, drop, map, find, refl, Option, Some, None, option_map, if◌then◌else◌}
use Rattle.std.specs.List.{concat, list_all, flat_map}
use Rattle.std.proofs.Common.{ap, sym, ◌∙◌, subst, inl, inr, append-nil}
use Rattle.std.proofs.lemmas.Bool.{and_from, and_parts, eq-eqb}
use Rattle.std.proofs.lemmas.List.Folds.{list_all-append}
use Rattle.mux_frame.specs.Frames.{Frame}
use Rattle.mux_station.specs.declared.role.Role.{Role}
use Rattle.mux_station.specs.Written.{is_data_frame}
use Rattle.mux_station.specs.Opening.{is_open}
use Rattle.mux_station.specs.Stopping.{is_stopped}
use Rattle.mux_station.specs.Offering.{last_sender}
use Rattle.mux_station.specs.Sending.{queue}
use Rattle.mux_station.specs.GivenFrames.{with_freshness}
use Rattle.at_text.specs.Dialects.{Dialect}
use Rattle.at_text.specs.Windows.{answered}
use Rattle.modem_desk.specs.declared.request.Request.{Request}
use Rattle.modem_history.specs.Acts.{Act, Took, Got, Sent, Told, Heard, Tick, Lost, Held, Freed, Given, wire}
use Rattle.modem_history.specs.Calls.{Setting, replaying}
use Rattle.modem_history.specs.Information.{accepted, texts, line_of, information_out}
use Rattle.modem_history.specs.Placing.{marks}
use Rattle.modem_history.specs.Wholes.{is_first, is_said}
use Rattle.modem_core.specs.declared.event.Event.{Event}
use Rattle.modem_history.specs.Lawful.{When}
use Rattle.modem_history.specs.GoingOut.{SendsInTurn, waits_on, may_send, from_on, next_to_send, data_of, out_by, next_out}
use Rattle.modem_core.specs.Replays.{Piece, acts_in, first_of, after_call, with_piece, GoOutInTurn, ArePieces, Replays, AreFull, ends_command, is_full}
use Rattle.modem_core.specs.ReplayRows.{half_frames, NoReplayOfAny}
use Rattle.modem_core.proofs.replays.FirstActs.{brought_first}
use Rattle.modem_core.proofs.replays.Pieces.{turn_found, next_live, frame_out, data_next}

-- ## What waits ends with a CR

-- what stands before doesn't change how octets end
behind : (xs ys : List ℕ) → ends_command ys ≡ true → ends_command (xs ++ ys) ≡ true
behind [] ys h = h
behind (x ∷ []) [] h = cc
behind (x ∷ []) (y ∷ ys) h = h
behind (x ∷ z ∷ xs) ys h = behind (z ∷ xs) ys h

dropped_none : (k : ℕ) → drop {A = ℕ} k [] ≡ []
dropped_none zero = refl
dropped_none (suc k) = refl

-- what is left of them ends as they do, or nothing is left
left : (k : ℕ) (xs : List ℕ) → ends_command xs ≡ true → (drop k xs ≡ []) ⊎ (ends_command (drop k xs) ≡ true)
left zero xs h = inr h
left (suc k) [] h = inl refl
left (suc k) (x ∷ []) h = inl (dropped_none k)
left (suc k) (x ∷ y ∷ xs) h = left k (y ∷ xs) h

all_end : (q : Request) (qs : List Request) → ends_command (concat (texts (q ∷ qs))) ≡ true
all_end q [] = subst (λ (xs : List ℕ). ends_command xs ≡ true) (sym (append-nil (line_of q ++ 13 ∷ []))) (behind (line_of q) (13 ∷ []) refl)
all_end q (r ∷ rs) = behind (line_of q ++ 13 ∷ []) (concat (texts (r ∷ rs))) (all_end r rs)

left_of : (k : ℕ) (qs : List Request) → (drop k (concat (texts qs)) ≡ []) ⊎ (ends_command (drop k (concat (texts qs))) ≡ true)
left_of k [] = inl (dropped_none k)
left_of k (q ∷ qs) = left k (concat (texts (q ∷ qs))) (all_end q qs)

waits_end : (dialect : Dialect) (r : Role) (d : ℕ) (past : List Act) → (waits_on dialect r d past ≡ []) ⊎ (ends_command (waits_on dialect r d past) ≡ true)
waits_end dialect r d past = left_of (length (information_out r d past)) (take (answered dialect (marks r d past) + 1) (accepted r d past))

-- ## The frame that goes out

take_full : (n : ℕ) (w : List ℕ) → (length (take n w) ≡ n) ⊎ (take n w ≡ w)
take_full zero w = inl refl
take_full (suc n) [] = inr refl
take_full (suc n) (x ∷ w) = longer (take_full n w)
  where
    longer : (length (take n w) ≡ n) ⊎ (take n w ≡ w) → (length (x ∷ take n w) ≡ suc n) ⊎ ((x ∷ take n w) ≡ x ∷ w)
    longer (inl e) = inl (ap suc e)
    longer (inr e) = inr (ap (λ (v : List ℕ). x ∷ v) e)

or_first : (a b : Bool) → a ≡ true → (a || b) ≡ true
or_first true b h = refl
or_first false b h = cc

or_second : (a b : Bool) → b ≡ true → (a || b) ≡ true
or_second true b h = refl
or_second false b h = h

some_full : (n : ℕ) (w : List ℕ) → not (length w == 0) ≡ true → (w ≡ []) ⊎ (ends_command w ≡ true) → ((length (take n w) == n) || ends_command (take n w)) ≡ true
some_full n w some ends = by_size (take_full n w) ends
  where
    by_size : (length (take n w) ≡ n) ⊎ (take n w ≡ w) → (w ≡ []) ⊎ (ends_command w ≡ true) → ((length (take n w) == n) || ends_command (take n w)) ≡ true
    by_size (inl e) x = or_first (length (take n w) == n) (ends_command (take n w)) (eq-eqb (length (take n w)) n e)
    by_size (inr e) (inl none) = absurd (let x : false ≡ true = subst (λ (v : List ℕ). not (length v == 0) ≡ true) none some in cc)
    by_size (inr e) (inr k) = or_second (length (take n w) == n) (ends_command (take n w)) (subst (λ (v : List ℕ). ends_command v ≡ true) (sym e) k)

found : (test : ℕ → Bool) (ds : List ℕ) (d : ℕ) → find test ds ≡ Some d → test d ≡ true
found test [] d h = cc
found test (e ∷ ds) d h = by_test (test e) refl (found test ds d) h
  where
    by_test : (b : Bool) → test e ≡ b → (find test ds ≡ Some d → test d ≡ true) → (if b then Some e else find test ds) ≡ Some d → test d ≡ true
    by_test true t k h = let same : e ≡ d = cc in subst (λ (x : ℕ). test x ≡ true) same t
    by_test false t k h = k h

turn_ready : (dialect : Dialect) (r : Role) (past : List Act) (d : ℕ) → next_to_send dialect r past ≡ Some d → may_send dialect r past d ≡ true
turn_ready dialect r past d h = by_case (turn_found (find (may_send dialect r past) (from_on (last_sender (wire past) + 1))) (find (may_send dialect r past) (from_on 1)) d h)
  where
    by_case : (find (may_send dialect r past) (from_on (last_sender (wire past) + 1)) ≡ Some d) ⊎ (find (may_send dialect r past) (from_on 1) ≡ Some d) → may_send dialect r past d ≡ true
    by_case (inl k) = found (may_send dialect r past) (from_on (last_sender (wire past) + 1)) d k
    by_case (inr k) = found (may_send dialect r past) (from_on 1) d k

data_full : (s : Setting) (past : List Act) (d : ℕ) → may_send s.dialect s.role past d ≡ true → is_full s.n1 (Sent (data_of s past d)) ≡ true
data_full s past d h =
    let w = waits_on s.dialect s.role d past in
    let open_parts = and_parts (is_open s.role d (wire past)) (not (is_stopped s.role d (wire past)) && not (length w == 0)) h in
    let some = (and_parts (not (is_stopped s.role d (wire past))) (not (length w == 0)) open_parts.1).1 in
    or_second (not (is_data_frame (data_of s past d))) ((length (take s.n1 w) == s.n1) || ends_command (take s.n1 w)) (some_full s.n1 w some (waits_end s.dialect s.role d past))

sent_full : (s : Setting) (past : List Act) (f : Frame) → next_out s past ≡ Some (with_freshness true f) → is_full s.n1 (Sent f) ≡ true
sent_full s past f h =
    let now = next_live s past (with_freshness true f) h in
    let none = (data_next s past (queue (wire past)) f now.1).0 in
    by_turn (next_to_send s.dialect s.role past) refl (ap (λ (fs : List Frame). out_by s past fs) (sym none) ∙ now.1)
  where
    by_turn : (o : Option ℕ) → next_to_send s.dialect s.role past ≡ o → option_map (λ (d : ℕ). with_freshness true (data_of s past d)) o ≡ Some (with_freshness true f) → is_full s.n1 (Sent f) ≡ true
    by_turn None e k = cc
    by_turn (Some d) e k =
        let same : data_of s past d ≡ f = ap (frame_out f) k in
        subst (λ (g : Frame). is_full s.n1 (Sent g) ≡ true) same (data_full s past d (turn_ready s.dialect s.role past d e))

-- ## Pieces

data_are_full : (s : Setting) (past : List Act) (fs : List Frame) → GoOutInTurn s past fs → AreFull s.n1 (map Sent fs)
data_are_full s past [] h = refl
data_are_full s past (f ∷ fs) h = and_from (is_full s.n1 (Sent f)) (list_all (is_full s.n1) (map Sent fs)) (sent_full s past f h.0) (data_are_full s (Sent f ∷ past) fs h.1)

first_full : (n1 : ℕ) (a : Act) → is_first a ≡ true → is_full n1 a ≡ true
first_full n1 (Sent f) h = absurd (let e : false ≡ true = h in cc)
first_full n1 (Took r) h = refl
first_full n1 (Got f) h = refl
first_full n1 (Told o) h = refl
first_full n1 (Heard k d line) h = refl
first_full n1 Tick h = refl
first_full n1 Lost h = refl
first_full n1 (Held d) h = refl
first_full n1 (Freed d) h = refl
first_full n1 Given h = refl

one_said : (n1 : ℕ) (a : Act) → is_said a ≡ true → is_full n1 a ≡ true
one_said n1 (Sent f) h = or_first (not (is_data_frame f)) ((length f.info == n1) || ends_command f.info) h
one_said n1 (Took r) h = refl
one_said n1 (Got f) h = refl
one_said n1 (Told o) h = refl
one_said n1 (Heard k d line) h = refl
one_said n1 Tick h = refl
one_said n1 Lost h = refl
one_said n1 (Held d) h = refl
one_said n1 (Freed d) h = refl
one_said n1 Given h = refl

said_are_full : (n1 : ℕ) (acts : List Act) → list_all is_said acts ≡ true → AreFull n1 acts
said_are_full n1 [] h = refl
said_are_full n1 (a ∷ acts) h =
    let parts = and_parts (is_said a) (list_all is_said acts) h in
    and_from (is_full n1 a) (list_all (is_full n1) acts) (one_said n1 a parts.0) (said_are_full n1 acts parts.1)

both_full : (n1 : ℕ) (xs ys : List Act) → AreFull n1 xs → AreFull n1 ys → AreFull n1 (xs ++ ys)
both_full n1 xs ys h k = list_all-append (is_full n1) xs ys ∙ and_from (list_all (is_full n1) xs) (list_all (is_full n1) ys) h k

pieces_are_full : (s : Setting) (ps : List Piece) (past : List Act) → list_all is_first (map first_of ps) ≡ true → ArePieces s past ps → AreFull s.n1 (flat_map acts_in ps)
pieces_are_full s [] past h k = refl
pieces_are_full s (p ∷ ps) past h k =
    let parts = and_parts (is_first p.first) (list_all is_first (map first_of ps)) h in
    let more : AreFull s.n1 (p.more ++ map Sent p.data_frames) = both_full s.n1 p.more (map Sent p.data_frames) (said_are_full s.n1 p.more k.0.follow) (data_are_full s (after_call past p) p.data_frames k.0.goes_out) in
    both_full s.n1 (acts_in p) (flat_map acts_in ps)
    (and_from (is_full s.n1 p.first) (list_all (is_full s.n1) (p.more ++ map Sent p.data_frames)) (first_full s.n1 p.first parts.0) more)
    (pieces_are_full s ps (with_piece past p) parts.1 k.1)

-- so it is in every replay
pub full : (n1 : ℕ) (events : List Event) (acts : List Act) → Replays n1 events acts → AreFull n1 acts
full n1 events acts r =
    let all = brought_first n1 [] events (map first_of r.pieces) r.begins in
    subst (AreFull n1) r.joins (pieces_are_full (replaying n1) r.pieces [] all r.are_pieces)

-- ## Histories

-- where each data frame was the next to go out
pub turns_are_full : (s : Setting) (past : List Act) → SendsInTurn s past → AreFull s.n1 past
turns_are_full s [] h = refl
turns_are_full s (Sent f ∷ past) h =
    and_from (is_full s.n1 (Sent f)) (list_all (is_full s.n1) past) (by_kind (is_data_frame f) refl h.0) (turns_are_full s past h.1)
  where
    by_kind : (b : Bool) → is_data_frame f ≡ b → When b (next_out s past ≡ Some (with_freshness true f)) → is_full s.n1 (Sent f) ≡ true
    by_kind true e next = sent_full s past f next
    by_kind false e next = or_first (not (is_data_frame f)) ((length f.info == s.n1) || ends_command f.info) (ap not e)
turns_are_full s (Took r ∷ past) h = turns_are_full s past h.1
turns_are_full s (Got f ∷ past) h = turns_are_full s past h.1
turns_are_full s (Told o ∷ past) h = turns_are_full s past h.1
turns_are_full s (Heard k d line ∷ past) h = turns_are_full s past h.1
turns_are_full s (Tick ∷ past) h = turns_are_full s past h.1
turns_are_full s (Lost ∷ past) h = turns_are_full s past h.1
turns_are_full s (Held d ∷ past) h = turns_are_full s past h.1
turns_are_full s (Freed d ∷ past) h = turns_are_full s past h.1
turns_are_full s (Given ∷ past) h = turns_are_full s past h.1

-- ## Rows

-- no replay sends a command in frames of fewer octets than N1 before its last
pub no_halves : NoReplayOfAny half_frames
no_halves events r = let e : false ≡ true = full 31 events half_frames r in cc
