-- Whether a session fits a history, by tests that compute.
use Rattle.std.proofs.Common.{ap, sym, ◌∙◌, subst, arith, lit<, lit≤, eqb-true}
use Rattle.std.specs.Prelude.{◌≡◌, ℕ, zero, suc, ◌+◌, ◌<◌, ◌≤◌, ◌==◌, ◌&&◌, ◌||◌, not, nat_lt, nat_le, Bool, true, false, List, [], ◌∷◌, ◌++◌, length, drop, filter, flat_map, map, refl, Option, None, Some}
use Rattle.std.specs.List.{list_all}
use Rattle.std.specs.Str.{bytes_eq}
use Rattle.std.proofs.lemmas.Bool.{and_parts, ltb-true, leb-true}
use Rattle.std.proofs.lemmas.Bool.Decides.{not_from_Decides}
use Rattle.std.proofs.lemmas.Slice.Eq.{bytes_eq-Decides}
use Rattle.std.proofs.lemmas.List.{append_cancel_left, append_cancel_right, get_or_past}
use mathlib.Core.Option.{some}
use lib.ListN.{get_elem?}
use Rattle.mux_frame.specs.Frames.{Frame}
use Rattle.mux_frame.specs.Reading.{Reads}
use Rattle.mux_frame.specs.Laws.{AreOctets}
use Rattle.mux_frame.specs.Deframing.{Deframing, Deframes}
use Rattle.mux_frame.proofs.readings.ComputedReadings.{found_in, found_reads}
use Rattle.mux_frame.proofs.readings.LaterTexts.{reads_on}
use Rattle.mux_frame.proofs.readings.TextReadings.{one_reading}
use Rattle.mux_frame.proofs.deframers.DeframerPasts.{past_all}
use Rattle.at_text.specs.declared.unsolicited.UrcKind.{UrcKind}
use Rattle.at_text.specs.declared.unsolicited.UrcKind.TheVariants.{Ring, Creg}
use Rattle.modem_desk.specs.declared.request.Request.{Request}
use Rattle.modem_desk.specs.declared.request.Outcome.{Outcome}
use Rattle.modem_desk.specs.declared.request.Urc.{Urc}
use Rattle.modem_history.specs.Acts.{Act, Took, Got, Sent, Told, Heard, Tick, Lost, Held, Freed, Given, after, in_hand}
use Rattle.modem_history.specs.Calls.{Setting, is_loss, is_lost}
use Rattle.modem_history.specs.Lawful.{When, owed}
use Rattle.modem_history.specs.GoingOut.{SendsInTurn, next_out}
use Rattle.mux_station.specs.Written.{is_data_frame}
use Rattle.mux_station.specs.GivenFrames.{Outgoing, with_freshness}
use Rattle.modem_history.specs.Wholes.{CompleteCalls, is_said, taken_requests, outcomes}
use Rattle.modem_history.specs.Requests.{are_distinct}
use Rattle.modem_history.specs.Kinds.{is_listened, of_kind}
use Rattle.modem_history.specs.Entering.{entry_text}
use Rattle.modem_history.specs.Sessions.{Beginning, AnnouncedTo, driving, gots, given_on, octets_of_frames, last_octets, heards, heard_as, heard_behind, announced_of, TakesWithRoom, caller_outcomes, at_place}
use Rattle.modem_history.specs.Rules.{Made}
use Rattle.modem_history.proofs.rules.LawfulHistories.{made_by}
use Rattle.modem_history.specs.SessionRows.{SessionRow, IsRight, beginning, entry_answer}
use Rattle.modem_history.proofs.rows.HistoryTests.{good, steps_of, steps_test, run, quiet_test, is_nil, act_code}

-- ## Lists that differ

same_octets : (xs ys : List ℕ) → xs ≡ ys → bytes_eq xs ys ≡ true
same_octets xs ys e = by_test (bytes_eq xs ys) refl
  where
    by_test : (b : Bool) → bytes_eq xs ys ≡ b → b ≡ true
    by_test true h = refl
    by_test false h = absurd (not_from_Decides (bytes_eq xs ys) (bytes_eq-Decides xs ys) h e)

clash : (b : Bool) → b ≡ false → b ≡ true → ⊥
clash true h k = cc
clash false h k = cc

-- octets that fail to be equal one by one aren't the same
pub octets_differ : (xs ys : List ℕ) → bytes_eq xs ys ≡ false → xs ≡ ys → ⊥
octets_differ xs ys h e = clash (bytes_eq xs ys) h (same_octets xs ys e)

-- numbers of all these acts, joined
abbrev pub acts_code : List Act → List ℕ
acts_code acts = flat_map act_code acts

-- acts with other numbers aren't the same
pub acts_differ : (xs ys : List Act) → bytes_eq (acts_code xs) (acts_code ys) ≡ false → xs ≡ ys → ⊥
acts_differ xs ys h e = octets_differ (acts_code xs) (acts_code ys) h (ap acts_code e)

-- numbers of outcomes, as those of the acts that tell them
abbrev pub outcomes_code : List Outcome → List ℕ
outcomes_code os = acts_code (map Told os)

-- outcomes with other numbers aren't the same
pub outcomes_differ : (xs ys : List Outcome) → bytes_eq (outcomes_code xs) (outcomes_code ys) ≡ false → xs ≡ ys → ⊥
outcomes_differ xs ys h e = octets_differ (outcomes_code xs) (outcomes_code ys) h (ap outcomes_code e)

-- the number of each of these requests
abbrev pub numbers_of : List Request → List ℕ
numbers_of qs = map (λ (q : Request). q.number) qs

-- requests with other numbers aren't the same
pub requests_differ : (xs ys : List Request) → bytes_eq (numbers_of xs) (numbers_of ys) ≡ false → xs ≡ ys → ⊥
requests_differ xs ys h e = octets_differ (numbers_of xs) (numbers_of ys) h (ap numbers_of e)

-- ## Histories

-- nothing was owed where something else began
abbrev pub calls_test : Setting → List Act → Bool
calls_test s [] = true
calls_test s (a ∷ past) = (is_said a || is_nil (owed s past)) && calls_test s past

nil_of : {A : Type 0} (xs : List A) → is_nil xs ≡ true → xs ≡ []
nil_of [] h = refl
nil_of (x ∷ xs) h = cc

by_second : (said : Bool) (owing : List Act) → (said || is_nil owing) ≡ true → said ≡ false → owing ≡ []
by_second true owing h e = cc
by_second false owing h e = nil_of owing h

complete_calls : (s : Setting) (past : List Act) → calls_test s past ≡ true → CompleteCalls s past
complete_calls s [] h = tt
complete_calls s (a ∷ past) h =
    let parts = and_parts (is_said a || is_nil (owed s past)) (calls_test s past) h in
    (by_second (is_said a) (owed s past) parts.0, complete_calls s past parts.1)

-- each request was taken where fewer than 128 were in hand
abbrev pub room_test : List Act → Bool
room_test [] = true
room_test (Took r ∷ past) = nat_lt (length (in_hand past)) 128 && room_test past
room_test (_ ∷ past) = room_test past

takes_with_room : (past : List Act) → room_test past ≡ true → TakesWithRoom past
takes_with_room [] h = tt
takes_with_room (Took r ∷ past) h =
    let parts = and_parts (nat_lt (length (in_hand past)) 128) (room_test past) h in
    (ltb-true (length (in_hand past)) 128 parts.0, takes_with_room past parts.1)
takes_with_room (Got f ∷ past) h = takes_with_room past h
takes_with_room (Sent f ∷ past) h = takes_with_room past h
takes_with_room (Told o ∷ past) h = takes_with_room past h
takes_with_room (Heard k d line ∷ past) h = takes_with_room past h
takes_with_room (Tick ∷ past) h = takes_with_room past h
takes_with_room (Lost ∷ past) h = takes_with_room past h
takes_with_room (Held d ∷ past) h = takes_with_room past h
takes_with_room (Freed d ∷ past) h = takes_with_room past h
takes_with_room (Given ∷ past) h = takes_with_room past h

-- the data frames that were sent, each as it goes out, and what the next one was at each of them
abbrev pub one_out : Frame → Bool → List (Option Outgoing)
one_out f true = Some (with_freshness true f) ∷ []
one_out f false = []

-- those that were sent
abbrev pub data_out : List Act → List (Option Outgoing)
data_out [] = []
data_out (Sent f ∷ past) = one_out f (is_data_frame f) ++ data_out past
data_out (_ ∷ past) = data_out past

-- what was next before a frame, where it is data; else nothing
abbrev pub one_next : Setting → List Act → Bool → List (Option Outgoing)
one_next s past true = next_out s past ∷ []
one_next s past false = []

-- what the next one was at each of them
abbrev pub next_outs : Setting → List Act → List (Option Outgoing)
next_outs s [] = []
next_outs s (Sent f ∷ past) = one_next s past (is_data_frame f) ++ next_outs s past
next_outs s (_ ∷ past) = next_outs s past

abbrev first_out : List (Option Outgoing) → Option Outgoing
first_out [] = None
first_out (o ∷ os) = o

one_in_turn : (s : Setting) (past : List Act) (f : Frame) (b : Bool) → (data_out past ≡ next_outs s past → SendsInTurn s past)
    → one_out f b ++ data_out past ≡ one_next s past b ++ next_outs s past → When b (next_out s past ≡ Some (with_freshness true f)) × SendsInTurn s past
one_in_turn s past f true more e = (sym (ap first_out e), more (ap (drop 1) e))
one_in_turn s past f false more e = (tt, more e)

sends_in_turn : (s : Setting) (past : List Act) → data_out past ≡ next_outs s past → SendsInTurn s past
sends_in_turn s [] e = tt
sends_in_turn s (Sent f ∷ past) e = one_in_turn s past f (is_data_frame f) (sends_in_turn s past) e
sends_in_turn s (Took r ∷ past) e = (tt, sends_in_turn s past e)
sends_in_turn s (Got f ∷ past) e = (tt, sends_in_turn s past e)
sends_in_turn s (Told o ∷ past) e = (tt, sends_in_turn s past e)
sends_in_turn s (Heard k d line ∷ past) e = (tt, sends_in_turn s past e)
sends_in_turn s (Tick ∷ past) e = (tt, sends_in_turn s past e)
sends_in_turn s (Lost ∷ past) e = (tt, sends_in_turn s past e)
sends_in_turn s (Held d ∷ past) e = (tt, sends_in_turn s past e)
sends_in_turn s (Freed d ∷ past) e = (tt, sends_in_turn s past e)
sends_in_turn s (Given ∷ past) e = (tt, sends_in_turn s past e)

-- the rules make a history whose steps may follow and lead to it, that is quiet, of whole calls with room, and with data in turn
pub history_is : (b : Beginning) (acts : List Act) → 1 ≤ b.n1 → steps_test (driving b) [] (steps_of acts) ≡ true
    → run (driving b) [] (steps_of acts) ≡ after [] acts → quiet_test (driving b) (after [] acts) ≡ true
    → (calls_test (driving b) (after [] acts) && room_test (after [] acts)) ≡ true → data_out (after [] acts) ≡ next_outs (driving b) (after [] acts) → Made (driving b) (after [] acts)
history_is b acts low h e q k n =
    let keeps = good (driving b) acts h e q in
    let parts = and_parts (calls_test (driving b) (after [] acts)) (room_test (after [] acts)) k in
    made_by (driving b) (after [] acts) low (record {
      lawful = keeps.lawful;
      complete = keeps.complete;
      calls = complete_calls (driving b) (after [] acts) parts.0;
      room = takes_with_room (after [] acts) parts.1;
      in_turn = sends_in_turn (driving b) (after [] acts) n;
    })

-- ## Octets that come

-- all are less than 256
abbrev pub all_small : List ℕ → Bool
all_small [] = true
all_small (x ∷ xs) = nat_lt x 256 && all_small xs

-- numbers less than 256 are octets
pub small_octets : (xs : List ℕ) → all_small xs ≡ true → AreOctets xs
small_octets [] e i = lit< tt
small_octets (x ∷ xs) e zero = ltb-true x 256 (and_parts (nat_lt x 256) (all_small xs) e).0
small_octets (x ∷ xs) e (suc i) = small_octets xs (and_parts (nat_lt x 256) (all_small xs) e).1 i

-- what is read in octets, with N1 31
abbrev pub frames_read : List ℕ → List Frame
frames_read s = (found_in 31 (length s) s).frames

-- and what is left behind it
abbrev pub rest_of : List ℕ → List ℕ
rest_of s = (found_in 31 (length s) s).rest

-- octets are read so, with N1 31
pub read_in : (s : List ℕ) → all_small s ≡ true → Reads 31 s (frames_read s) (rest_of s)
read_in s e = found_reads 31 (length s) s (omega arith) (small_octets s e)

-- all that was taken is read as what was handed out, and none is at hand
pub all_handed : (taken_requests : List ℕ) (handed : List Frame) (kept : List ℕ) → Reads 31 taken_requests handed kept → all_small kept ≡ true → Reads 31 kept [] kept
    → Deframes taken_requests handed (record { n1 = 31; undecided = kept; next = None })
all_handed taken_requests handed kept reads small again = record {
  reads = λ x gs rest more. reads_on 31 taken_requests x handed gs kept rest reads more;
  at_hand = again;
  octets = small_octets kept small;
}

-- what a deframer without a frame at hand has taken is read as what it handed out, with what it keeps as rest
pub record IsRead (taken_requests : List ℕ) (handed : List Frame) (kept : List ℕ) : Type 0 where
  pub frames : frames_read taken_requests ≡ handed
  pub rest : rest_of taken_requests ≡ kept

-- so it is, with N1 31
pub read_by : (taken_requests : List ℕ) (handed : List Frame) (d : Deframing) → Deframes taken_requests handed d → d.n1 ≡ 31 → d.next ≡ None → all_small taken_requests ≡ true → IsRead taken_requests handed d.undecided
read_by taken_requests handed d deframes n1 none small =
    let reads = subst (λ n. Reads n taken_requests handed d.undecided) n1 (past_all taken_requests handed d deframes none) in
    let same = one_reading 31 taken_requests (frames_read taken_requests) handed (rest_of taken_requests) d.undecided (read_in taken_requests small) reads in
    record { frames = same.0; rest = same.1 }

-- what was fed
pub fed_is : (before fed other unfed received : List ℕ) → received ≡ before ++ fed ++ unfed → received ≡ before ++ other ++ unfed → fed ≡ other
fed_is before fed other unfed received e h = append_cancel_left before fed other (append_cancel_right (before ++ fed) (before ++ other) unfed (sym e ∙ h))

-- ## Callers

other_caller : (n m c : ℕ) (b : Bool) → (m == c) ≡ b → m < n → n ≤ c → b ≡ false
other_caller n m c true e small le = let same : m ≡ c = eqb-true m c e in let x : ⊥ = omega arith in absurd x
other_caller n m c false e small le = refl

passed_over : (test : Outcome → Bool) (o : Outcome) (os : List Outcome) → test o ≡ false → filter test os ≡ [] → filter test (o ∷ os) ≡ []
passed_over test o os e h = rw e h

-- of a caller past all of them there is no outcome
pub other_callers : (n c : ℕ) (os : List Outcome) → n ≤ c → list_all (λ (o : Outcome). nat_lt o.caller n) os ≡ true → caller_outcomes c os ≡ []
other_callers n c [] le h = refl
other_callers n c (o ∷ os) le h =
    let parts = and_parts (nat_lt o.caller n) (list_all (λ (o : Outcome). nat_lt o.caller n) os) h in
    passed_over (λ (o : Outcome). o.caller == c) o os (other_caller n o.caller c (o.caller == c) refl (ltb-true o.caller n parts.0) le) (other_callers n c os le parts.1)

-- told, waiting and said to two callers
pub record OfTwo (told : List (List Outcome)) (waiting said : List Outcome) : Type 0 where
  pub zero : at_place 0 told ++ caller_outcomes 0 waiting ≡ caller_outcomes 0 said
  pub one : at_place 1 told ++ caller_outcomes 1 waiting ≡ caller_outcomes 1 said
  pub told_two : nat_le (length told) 2 ≡ true
  pub waiting_two : list_all (λ (o : Outcome). nat_lt o.caller 2) waiting ≡ true
  pub said_two : list_all (λ (o : Outcome). nat_lt o.caller 2) said ≡ true

nothing_beyond : (xss : List (List Outcome)) (os : List Outcome) (c : ℕ) → nat_le (length xss) 2 ≡ true → 2 ≤ c → list_all (λ (o : Outcome). nat_lt o.caller 2) os ≡ true → at_place c xss ++ caller_outcomes c os ≡ []
nothing_beyond xss os c few le h =
    let short : length xss ≤ 2 = leb-true (length xss) 2 few in
    let e : at_place c xss ≡ [] = get_or_past xss c [] (omega arith) in
    let f : caller_outcomes c os ≡ [] = other_callers 2 c os le h in
    rw e f

-- is all that is told to any caller
pub told_is : (told : List (List Outcome)) (waiting said : List Outcome) → OfTwo told waiting said → (c : ℕ) → at_place c told ++ caller_outcomes c waiting ≡ caller_outcomes c said
told_is told waiting said two zero = two.zero
told_is told waiting said two (suc zero) = two.one
told_is told waiting said two (suc (suc c)) =
    nothing_beyond told waiting (suc (suc c)) two.told_two (omega arith) two.waiting_two
    ∙ sym (other_callers 2 (suc (suc c)) said (omega arith) two.said_two)

-- nothing was told before
pub nothing_before : (c : ℕ) → at_place c beginning.desk.told ≡ []
nothing_before zero = refl
nothing_before (suc zero) = refl
nothing_before (suc (suc c)) = get_or_past beginning.desk.told (suc (suc c)) [] (omega arith)

-- ## Listeners

-- P of each kind of a list, by its place
abbrev pub AtEach : (ℕ → UrcKind → Type 0) → List UrcKind → Type 0
AtEach P [] = Unit {0}
AtEach P (k ∷ ks) = P zero k × AtEach (λ i. P (suc i)) ks

some_is : (k m : UrcKind) (P : UrcKind → Type 0) → some k ≡ some m → P k → P m
some_is k m P e p = subst P (some_eq e) p
  where
    some_eq : some k ≡ some m → k ≡ m
    some_eq h = cc

-- what holds at each place of a list holds of the kind found there
pub at_each : (P : ℕ → UrcKind → Type 0) (ks : List UrcKind) → AtEach P ks → (i : ℕ) (m : UrcKind) → get_elem? ks i ≡ some m → P i m
at_each P [] h i m e = cc
at_each P (k ∷ ks) h zero m e = some_is k m (P zero) e h.0
at_each P (k ∷ ks) h (suc i) m e = at_each (λ j. P (suc j)) ks h.1 i m e

-- beyond two listeners nothing was announced
nothing_announced : (xss : List (List Urc)) (i : ℕ) → length xss ≤ 2 → 2 ≤ i → at_place i xss ≡ at_place i beginning.desk.announced
nothing_announced xss i few far = get_or_past xss i [] (omega arith) ∙ sym (get_or_past beginning.desk.announced i [] far)

-- ## Sessions

-- all tests of a session and a history
abbrev pub row_test : SessionRow → Bool
row_test row =
    let past = after [] row.acts in
    let v = row.view in
    steps_test (driving beginning) [] (steps_of row.acts)
    && (quiet_test (driving beginning) past
    && ((calls_test (driving beginning) past && room_test past)
    && ((nat_le (length (filter is_loss past)) 1 && (not (is_lost past) || nat_lt 0 v.line.failures))
    && (are_distinct v.desk.taken
    && (list_all (λ (q : Request). nat_lt q.caller 2) v.desk.taken
    && (nat_le (length (in_hand past) + length v.unplaced) 128
    && (list_all (λ (u : Urc). is_listened beginning.kinds u.kind) v.unannounced
    && (nat_le (length v.desk.announced) 2
    && (nat_le (length v.desk.told) 2
    && (list_all (λ (o : Outcome). nat_lt o.caller 2) v.unplaced
    && list_all (λ (o : Outcome). nat_lt o.caller 2) (outcomes past)))))))))))

-- what two sides have of a session
pub record Sides : Type 0 where
  pub acts : List Act
  pub requests : List Request
  pub received : List ℕ
  pub bound : ℕ
  pub sent : List ℕ
  pub left : List ℕ
  pub unwritten : List ℕ
  pub told_zero : List Outcome
  pub told_one : List Outcome
  pub next : List (Option Outgoing)
  pub rings : List Act
  pub cregs : List Act
  pub lines : List Act

-- what is seen of it
abbrev pub seen_side : SessionRow → Sides
seen_side row =
    let v = row.view in
    record {
      acts = after [] row.acts;
      requests = v.desk.taken;
      received = v.line.received;
      bound = v.deframer.n1;
      sent = v.line.sent;
      left = drop (length entry_text) v.line.sent ++ v.unwritten;
      unwritten = v.unwritten;
      told_zero = at_place 0 v.desk.told ++ caller_outcomes 0 v.unplaced;
      told_one = at_place 1 v.desk.told ++ caller_outcomes 1 v.unplaced;
      next = data_out (after [] row.acts);
      rings = map heard_as (at_place 0 v.desk.announced ++ of_kind Ring v.unannounced);
      cregs = map heard_as (at_place 1 v.desk.announced ++ of_kind Creg v.unannounced);
      lines = map heard_as v.unannounced;
    }

-- and what the history says
abbrev pub told_side : SessionRow → (fed : List ℕ) → (written : ℕ) → Sides
told_side row fed written =
    let past = after [] row.acts in
    record {
      acts = run (driving beginning) [] (steps_of row.acts);
      requests = taken_requests past;
      received = entry_answer ++ fed ++ row.view.unfed;
      bound = 31;
      sent = entry_text ++ drop (length entry_text) row.view.line.sent;
      left = octets_of_frames (given_on past);
      unwritten = drop written (last_octets (given_on past));
      told_zero = caller_outcomes 0 (outcomes past);
      told_one = caller_outcomes 1 (outcomes past);
      next = next_outs (driving beginning) past;
      rings = heards Ring past;
      cregs = heards Creg past;
      lines = heard_behind (announced_of row.view past) past;
    }

lost_by : (lost : Bool) (failures : ℕ) → (not lost || nat_lt 0 failures) ≡ true → lost ≡ true → 0 < failures
lost_by true failures h e = ltb-true 0 failures h
lost_by false failures h e = cc

-- a row fits where its tests pass, both sides agree and its deframer took what was fed
pub fits_by : (row : SessionRow) (fed : List ℕ) (written : ℕ) → row_test row ≡ true → seen_side row ≡ told_side row fed written
    → Deframes fed (gots (after [] row.acts)) row.view.deframer → IsRight row
fits_by row fed written h e deframes =
    let p1 = and_parts _ _ h in
    let p2 = and_parts _ _ p1.1 in
    let p3 = and_parts _ _ p2.1 in
    let p4 = and_parts _ _ p3.1 in
    let p5 = and_parts _ _ p4.1 in
    let p6 = and_parts _ _ p5.1 in
    let p7 = and_parts _ _ p6.1 in
    let p8 = and_parts _ _ p7.1 in
    let p9 = and_parts _ _ p8.1 in
    let p10 = and_parts _ _ p9.1 in
    let p11 = and_parts _ _ p10.1 in
    let lost = and_parts _ _ p4.0 in
    record {
      history = history_is beginning row.acts (lit≤ tt) p1.0 (sym (ap (λ (x : Sides). x.acts) e)) p2.0 p3.0 (ap (λ (x : Sides). x.next) e);
      loss = record { one = leb-true _ 1 lost.0; by_fault = λ gone. lost_by (is_lost (after [] row.acts)) row.view.line.failures lost.1 gone };
      requests = record { taken_are = ap (λ (x : Sides). x.requests) e; once = p5.0; callers = p6.0; few = leb-true _ 128 p7.0 };
      received = record { fed = fed; received_are = ap (λ (x : Sides). x.received) e; bound = ap (λ (x : Sides). x.bound) e; deframes = deframes };
      sent = record {
        since = drop (length entry_text) row.view.line.sent;
        sent_are = ap (λ (x : Sides). x.sent) e;
        frames_are = ap (λ (x : Sides). x.left) e;
        written = written;
        of_last = ap (λ (x : Sides). x.unwritten) e;
      };
      told = record {
        each = λ c. record {
          since = at_place c row.view.desk.told;
          told_are = sym (ap (λ (xs : List Outcome). xs ++ at_place c row.view.desk.told) (nothing_before c));
          outcomes_are = told_is row.view.desk.told row.view.unplaced (outcomes (after [] row.acts)) (record {
            zero = ap (λ (x : Sides). x.told_zero) e;
            one = ap (λ (x : Sides). x.told_one) e;
            told_two = p10.0;
            waiting_two = p11.0;
            said_two = p11.1;
          }) c;
        };
        callers = p11.0;
      };
      heard = record {
        each = at_each (AnnouncedTo beginning row.view (after [] row.acts)) (Ring ∷ Creg ∷ []) (
          record { since = at_place 0 row.view.desk.announced; announced_are = refl; lines_are = ap (λ (x : Sides). x.rings) e },
          (record { since = at_place 1 row.view.desk.announced; announced_are = refl; lines_are = ap (λ (x : Sides). x.cregs) e }, tt),
        );
        listened = p8.0;
        in_order = ap (λ (x : Sides). x.lines) e;
        nowhere_else = λ i far. nothing_announced row.view.desk.announced i (leb-true _ 2 p9.0) far;
      };
    }

-- where no frame is at hand
pub fits_none : (row : SessionRow) (fed kept : List ℕ) (written : ℕ) → row_test row ≡ true → seen_side row ≡ told_side row fed written
    → row.view.deframer ≡ record { n1 = 31; undecided = kept; next = None } → Reads 31 fed (gots (after [] row.acts)) kept → Reads 31 kept [] kept → all_small kept ≡ true → IsRight row
fits_none row fed kept written h e d reads again small =
    fits_by row fed written h e (subst (Deframes fed (gots (after [] row.acts))) (sym d) (all_handed fed (gots (after [] row.acts)) kept reads small again))
