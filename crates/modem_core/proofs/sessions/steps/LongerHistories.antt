-- What is read off a history after some acts more.
use Rattle.std.proofs.Common.{ap, sym, ◌∙◌}
use Rattle.std.proofs.lemmas.Bool.{and_parts}
use Rattle.std.proofs.lemmas.List.{append_assoc, append-nil}
use Rattle.std.specs.Prelude.{◌≡◌, ℕ, ◌&&◌, not, Bool, true, false, List, [], ◌∷◌, ◌++◌, filter, map, refl, Some, if◌then◌else◌}
use Rattle.std.specs.List.{list_all}
use Rattle.mux_frame.specs.Frames.{Frame}
use Rattle.mux_station.specs.Written.{is_data_frame}
use Rattle.mux_station.specs.GivenFrames.{with_freshness}
use Rattle.at_text.specs.declared.unsolicited.UrcKind.{UrcKind}
use Rattle.modem_desk.specs.declared.request.Urc.{Urc}
use Rattle.modem_history.specs.Acts.{Act, Took, Got, Sent, Told, Heard, Tick, Lost, Held, Freed, Given, after}
use Rattle.modem_history.specs.Calls.{Setting, is_loss, is_lost}
use Rattle.modem_history.specs.Lawful.{When}
use Rattle.modem_history.specs.GoingOut.{SendsInTurn, next_out}
use Rattle.at_text.specs.Kinds.{is_same_kind}
use Rattle.modem_history.specs.Kinds.{of_kind, is_listened}
use Rattle.modem_history.specs.Wholes.{is_said, taken_requests, outcomes}
use Rattle.modem_history.specs.Sessions.{TakesWithRoom, gots, given_on, heards, heard_as}
use Rattle.modem_history.specs.Turns.{outcomes_told, lines_heard}
use Rattle.modem_history.proofs.calls.CalledActs.{Saids}

-- ## What no call says more of

-- what an act that is said leaves as it is, acts that are said leave so
pub stays : {A : Type 0} (of : List Act → A) → ((a : Act) (past : List Act) → is_said a ≡ true → of (a ∷ past) ≡ of past) → (more past : List Act) → Saids more → of (after past more) ≡ of past
stays of one [] past h = refl
stays of one (a ∷ more) past h =
    let parts = and_parts (is_said a) (list_all is_said more) h in
    stays of one more (a ∷ past) parts.1 ∙ one a past parts.0

unsaid : {P : Type 0} → false ≡ true → P
unsaid e = cc

got_stays : (a : Act) (past : List Act) → is_said a ≡ true → gots (a ∷ past) ≡ gots past
got_stays (Got f) past h = unsaid h
got_stays (Took r) past h = refl
got_stays (Sent f) past h = refl
got_stays (Told o) past h = refl
got_stays (Heard k d line) past h = refl
got_stays Tick past h = refl
got_stays Lost past h = refl
got_stays (Held d) past h = refl
got_stays (Freed d) past h = refl
got_stays Given past h = refl

taken_stays : (a : Act) (past : List Act) → is_said a ≡ true → taken_requests (a ∷ past) ≡ taken_requests past
taken_stays (Took r) past h = unsaid h
taken_stays (Got f) past h = refl
taken_stays (Sent f) past h = refl
taken_stays (Told o) past h = refl
taken_stays (Heard k d line) past h = refl
taken_stays Tick past h = refl
taken_stays Lost past h = refl
taken_stays (Held d) past h = refl
taken_stays (Freed d) past h = refl
taken_stays Given past h = refl

not_data : (f : Frame) (past : List Act) (b : Bool) → not b ≡ true → (if b then given_on past ++ f ∷ [] else given_on past) ≡ given_on past
not_data f past false h = refl
not_data f past true h = unsaid h

given_stays : (a : Act) (past : List Act) → is_said a ≡ true → given_on (a ∷ past) ≡ given_on past
given_stays (Sent f) past h = not_data f past (is_data_frame f) h
given_stays Given past h = unsaid h
given_stays (Took r) past h = refl
given_stays (Got f) past h = refl
given_stays (Told o) past h = refl
given_stays (Heard k d line) past h = refl
given_stays Tick past h = refl
given_stays Lost past h = refl
given_stays (Held d) past h = refl
given_stays (Freed d) past h = refl

losses_stay : (a : Act) (past : List Act) → is_said a ≡ true → filter is_loss (a ∷ past) ≡ filter is_loss past
losses_stay Lost past h = unsaid h
losses_stay (Sent f) past h = refl
losses_stay Given past h = refl
losses_stay (Took r) past h = refl
losses_stay (Got f) past h = refl
losses_stay (Told o) past h = refl
losses_stay (Heard k d line) past h = refl
losses_stay Tick past h = refl
losses_stay (Held d) past h = refl
losses_stay (Freed d) past h = refl

lost_stays : (a : Act) (past : List Act) → is_said a ≡ true → is_lost (a ∷ past) ≡ is_lost past
lost_stays Lost past h = unsaid h
lost_stays (Sent f) past h = refl
lost_stays Given past h = refl
lost_stays (Took r) past h = refl
lost_stays (Got f) past h = refl
lost_stays (Told o) past h = refl
lost_stays (Heard k d line) past h = refl
lost_stays Tick past h = refl
lost_stays (Held d) past h = refl
lost_stays (Freed d) past h = refl

room_stays : (a : Act) (past : List Act) → is_said a ≡ true → TakesWithRoom past → TakesWithRoom (a ∷ past)
room_stays (Took r) past h room = unsaid h
room_stays Lost past h room = room
room_stays (Sent f) past h room = room
room_stays Given past h room = room
room_stays (Got f) past h room = room
room_stays (Told o) past h room = room
room_stays (Heard k d line) past h room = room
room_stays Tick past h room = room
room_stays (Held d) past h room = room
room_stays (Freed d) past h room = room

-- so requests were taken with room, where they were before
pub room_after : (more past : List Act) → Saids more → TakesWithRoom past → TakesWithRoom (after past more)
room_after [] past h room = room
room_after (a ∷ more) past h room =
    let parts = and_parts (is_said a) (list_all is_said more) h in
    room_after more (a ∷ past) parts.1 (room_stays a past parts.0 room)

-- data alone is sent in turn, and no call says any
turn_stays : (s : Setting) (a : Act) (past : List Act) → is_said a ≡ true → SendsInTurn s past → SendsInTurn s (a ∷ past)
turn_stays s (Took r) past h turn = unsaid h
turn_stays s Lost past h turn = (tt, turn)
turn_stays s (Sent f) past h turn = (no_data (is_data_frame f) h, turn)
  where
    no_data : (b : Bool) → not b ≡ true → When b (next_out s past ≡ Some (with_freshness true f))
    no_data false h = tt
    no_data true h = unsaid h
turn_stays s Given past h turn = (tt, turn)
turn_stays s (Got f) past h turn = (tt, turn)
turn_stays s (Told o) past h turn = (tt, turn)
turn_stays s (Heard k d line) past h turn = (tt, turn)
turn_stays s Tick past h turn = (tt, turn)
turn_stays s (Held d) past h turn = (tt, turn)
turn_stays s (Freed d) past h turn = (tt, turn)

-- and data was sent in turn
pub turn_after : (s : Setting) (more past : List Act) → Saids more → SendsInTurn s past → SendsInTurn s (after past more)
turn_after s [] past h turn = turn
turn_after s (a ∷ more) past h turn =
    let parts = and_parts (is_said a) (list_all is_said more) h in
    turn_after s more (a ∷ past) parts.1 (turn_stays s a past parts.0 turn)

-- the same frames came
pub gots_after : (more past : List Act) → Saids more → gots (after past more) ≡ gots past
gots_after more past h = stays gots got_stays more past h

-- the same requests were taken
pub taken_after : (more past : List Act) → Saids more → taken_requests (after past more) ≡ taken_requests past
taken_after more past h = stays taken_requests taken_stays more past h

-- the same frames were given on
pub given_after : (more past : List Act) → Saids more → given_on (after past more) ≡ given_on past
given_after more past h = stays given_on given_stays more past h

-- the line was lost as often
pub losses_after : (more past : List Act) → Saids more → filter is_loss (after past more) ≡ filter is_loss past
losses_after more past h = stays (filter is_loss) losses_stay more past h

-- and is lost just where it was
pub lost_after : (more past : List Act) → Saids more → is_lost (after past more) ≡ is_lost past
lost_after more past h = stays is_lost lost_stays more past h

-- ## What was told and heard

-- one act, and then others
pub outcomes_after : (acts past : List Act) → outcomes (after past acts) ≡ outcomes past ++ outcomes_told acts
outcomes_after [] past = sym (append-nil (outcomes past))
outcomes_after (Told o ∷ acts) past = outcomes_after acts (Told o ∷ past) ∙ append_assoc (outcomes past) (o ∷ []) (outcomes_told acts)
outcomes_after (Took r ∷ acts) past = outcomes_after acts (Took r ∷ past)
outcomes_after (Got f ∷ acts) past = outcomes_after acts (Got f ∷ past)
outcomes_after (Sent f ∷ acts) past = outcomes_after acts (Sent f ∷ past)
outcomes_after (Heard k d line ∷ acts) past = outcomes_after acts (Heard k d line ∷ past)
outcomes_after (Tick ∷ acts) past = outcomes_after acts (Tick ∷ past)
outcomes_after (Lost ∷ acts) past = outcomes_after acts (Lost ∷ past)
outcomes_after (Held d ∷ acts) past = outcomes_after acts (Held d ∷ past)
outcomes_after (Freed d ∷ acts) past = outcomes_after acts (Freed d ∷ past)
outcomes_after (Given ∷ acts) past = outcomes_after acts (Given ∷ past)

-- a line that was heard, of this kind
abbrev pub is_heard_as : UrcKind → Act → Bool
is_heard_as k (Heard m d line) = is_same_kind k m
is_heard_as k _ = false

-- those of this kind among lines that were heard
abbrev pub heard_of : UrcKind → List Act → List Act
heard_of k acts = filter (is_heard_as k) (lines_heard acts)

one_heard : (k m : UrcKind) (d : ℕ) (line : List ℕ) (past acts later : List Act) (b : Bool)
    → heards k later ≡ (if b then heards k past ++ Heard m d line ∷ [] else heards k past) ++ acts
    → heards k later ≡ heards k past ++ (if b then Heard m d line ∷ acts else acts)
one_heard k m d line past acts later true h = h ∙ append_assoc (heards k past) (Heard m d line ∷ []) acts
one_heard k m d line past acts later false h = h

-- of each kind, what was heard before, and then what the acts heard
pub heards_after : (k : UrcKind) (acts past : List Act) → heards k (after past acts) ≡ heards k past ++ heard_of k acts
heards_after k [] past = sym (append-nil (heards k past))
heards_after k (Heard m d line ∷ acts) past = one_heard k m d line past (heard_of k acts) (after (Heard m d line ∷ past) acts) (is_same_kind k m) (heards_after k acts (Heard m d line ∷ past))
heards_after k (Told o ∷ acts) past = heards_after k acts (Told o ∷ past)
heards_after k (Took r ∷ acts) past = heards_after k acts (Took r ∷ past)
heards_after k (Got f ∷ acts) past = heards_after k acts (Got f ∷ past)
heards_after k (Sent f ∷ acts) past = heards_after k acts (Sent f ∷ past)
heards_after k (Tick ∷ acts) past = heards_after k acts (Tick ∷ past)
heards_after k (Lost ∷ acts) past = heards_after k acts (Lost ∷ past)
heards_after k (Held d ∷ acts) past = heards_after k acts (Held d ∷ past)
heards_after k (Freed d ∷ acts) past = heards_after k acts (Freed d ∷ past)
heards_after k (Given ∷ acts) past = heards_after k acts (Given ∷ past)

-- lines of a kind, as they were heard
pub kind_heard : (k : UrcKind) (us : List Urc) → map heard_as (of_kind k us) ≡ filter (is_heard_as k) (map heard_as us)
kind_heard k [] = refl
kind_heard k (u ∷ us) = by_test (is_same_kind k u.kind) (kind_heard k us)
  where
    by_test : (b : Bool) → map heard_as (of_kind k us) ≡ filter (is_heard_as k) (map heard_as us)
        → map heard_as (if b then u ∷ of_kind k us else of_kind k us) ≡ (if b then heard_as u ∷ filter (is_heard_as k) (map heard_as us) else filter (is_heard_as k) (map heard_as us))
    by_test true h = ap (λ (xs : List Act). heard_as u ∷ xs) h
    by_test false h = h

-- a line that was heard is of a kind that is listened to
abbrev pub has_listener : List UrcKind → Act → Bool
has_listener kinds (Heard m d line) = is_listened kinds m
has_listener kinds _ = true

-- lines are of kinds that are listened to just where they are so as they were heard
pub listened_heard : (kinds : List UrcKind) (us : List Urc) → list_all (λ (u : Urc). is_listened kinds u.kind) us ≡ list_all (has_listener kinds) (map heard_as us)
listened_heard kinds [] = refl
listened_heard kinds (u ∷ us) = ap (λ (b : Bool). is_listened kinds u.kind && b) (listened_heard kinds us)
