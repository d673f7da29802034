-- What keeps the laws the rules make.
use Rattle.std.specs.Prelude.{◌≡◌, ◌≤◌, not, Bool, true, false, List, [], ◌∷◌, ◌++◌, length, drop, refl, Some}
use Rattle.std.proofs.Common.{ap, sym, ◌∙◌, subst}
use Rattle.std.proofs.lemmas.Bool.{lt-ltb}
use Rattle.std.proofs.lemmas.List.{append-nil}
use Rattle.mux_frame.specs.Frames.{Frame}
use Rattle.mux_station.specs.Written.{is_data_frame}
use Rattle.mux_station.specs.GivenFrames.{with_freshness}
use Rattle.modem_history.specs.Acts.{Act, Took, Got, Sent, Told, Heard, Tick, Lost, Held, Freed, Given, after, in_hand}
use Rattle.modem_history.specs.Calls.{Setting, calls, calls_behind}
use Rattle.modem_history.specs.Lawful.{Lawful, Complete, IsNext, owed, unsent}
use Rattle.modem_history.specs.GoingOut.{SendsInTurn, next_out}
use Rattle.modem_history.specs.Wholes.{CompleteCalls}
use Rattle.modem_history.specs.Sessions.{TakesWithRoom}
use Rattle.modem_history.specs.Rules.{Made, may_begin, nothing, call, goes_out}
use Rattle.modem_history.specs.RuleLaws.{KeepsLaws, LawfulIsMade}
use Rattle.modem_history.proofs.calls.StatesAfterActs.{after_both}
use Rattle.modem_history.proofs.commands.SentPrefixes.{when_true}
use Rattle.modem_history.proofs.law_proofs.WholeHistories.{moved, if_true, if_fails}
use Rattle.modem_history.proofs.rules.NextFrames.{waits_first}

-- the past is made; or a call is under way, of which the acts that are still owed lack
data Stands (s : Setting) (past : List Act) : Type 0 where
  whole : Made s past → owed s past ≡ [] → Stands s past
  within :
      (older : List Act) (a : Act) (said : List Act) → Made s older → may_begin s older a ≡ true → past ≡ after older (a ∷ said)
      → said ++ owed s past ≡ calls s older a → Stands s past

-- where nothing is owed it is made
made : (s : Setting) (past : List Act) → Stands s past → owed s past ≡ [] → Made s past
made s past (whole m e) none = m
made s past (within older a said m b joins owes) none =
    let all : calls s older a ≡ said = sym owes ∙ (ap (λ (acts : List Act). said ++ acts) none ∙ append-nil said) in
    subst (Made s) (ap (λ (acts : List Act). after older (a ∷ acts)) all ∙ sym joins) (call older a m b)

-- ## The steps

-- a call begins
begun : (s : Setting) (past : List Act) (a : Act) → Made s past → may_begin s past a ≡ true → owed s (a ∷ past) ≡ calls s past a → Stands s (a ∷ past)
begun s past a m b owes = within past a [] m b refl owes

-- what is called for where nothing else is owed
alone : (s : Setting) (past owing : List Act) (a : Act) → owing ≡ [] → owing ++ calls_behind s past owing a ≡ calls s past a
alone s past owing a none = ap (λ (acts : List Act). acts ++ calls_behind s past acts a) none

alone_lost : (s : Setting) (past owing : List Act) → owing ≡ [] → unsent owing ++ calls_behind s past owing Lost ≡ calls s past Lost
alone_lost s past owing none = ap (λ (acts : List Act). unsent acts ++ calls_behind s past acts Lost) none

-- the next act that is owed
goes_on : (s : Setting) (past : List Act) (a : Act) → Stands s past → IsNext (owed s past) a → owed s (a ∷ past) ≡ drop 1 (owed s past) → Stands s (a ∷ past)
goes_on s past a (whole m e) n owes = absurd (let x : [] ≡ a ∷ n.later = sym e ∙ n.is_next in cc)
goes_on s past a (within older b said m h joins all) n owes =
    within older b (said ++ a ∷ []) m h (ap (λ (acts : List Act). a ∷ acts) joins ∙ sym (after_both (b ∷ said) (a ∷ []) older))
    (ap (λ (acts : List Act). (said ++ a ∷ []) ++ acts) owes ∙ moved said (owed s past) (calls s older b) a all n)

-- what goes out
sent_out : (s : Setting) (past : List Act) (f : Frame) → Made s past → owed s past ≡ [] → next_out s past ≡ Some (with_freshness true f) → is_data_frame f ≡ true → Stands s (Sent f ∷ past)
sent_out s past f m none next fresh =
    whole (goes_out past (with_freshness true f) m next) (if_true (is_data_frame f) (owed s past) (drop 1 (owed s past)) fresh ∙ none)

-- ## The law

record Laws (s : Setting) (past : List Act) : Type 0 where
  lawful : Lawful s past
  calls : CompleteCalls s past
  room : TakesWithRoom past
  in_turn : SendsInTurn s past

room_before : (a : Act) (past : List Act) → TakesWithRoom (a ∷ past) → TakesWithRoom past
room_before (Took r) past room = room.1
room_before (Got f) past room = room
room_before (Sent f) past room = room
room_before (Told o) past room = room
room_before (Heard k d line) past room = room
room_before Tick past room = room
room_before Lost past room = room
room_before (Held d) past room = room
room_before (Freed d) past room = room
room_before Given past room = room

before : (s : Setting) (a : Act) (past : List Act) → Laws s (a ∷ past) → Laws s past
unfolding Lawful
before s a past l = record { lawful = l.lawful.1; calls = l.calls.1; room = room_before a past l.room; in_turn = l.in_turn.1 }

stands : (s : Setting) (past : List Act) → 1 ≤ s.n1 → Laws s past → Stands s past
unfolding Lawful
stands s [] n l = whole (nothing n) refl
stands s (Took r ∷ past) n l =
    let none = l.calls.0 refl in
    begun s past (Took r) (made s past (stands s past n (before s (Took r) past l)) none) (lt-ltb (length (in_hand past)) 128 l.room.0) (alone s past (owed s past) (Took r) none)
stands s (Got f ∷ past) n l =
    let none = l.calls.0 refl in
    begun s past (Got f) (made s past (stands s past n (before s (Got f) past l)) none) refl (alone s past (owed s past) (Got f) none)
stands s (Tick ∷ past) n l =
    let none = l.calls.0 refl in
    begun s past Tick (made s past (stands s past n (before s Tick past l)) none) refl (alone s past (owed s past) Tick none)
stands s (Lost ∷ past) n l =
    let none = l.calls.0 refl in
    begun s past Lost (made s past (stands s past n (before s Lost past l)) none) refl (alone_lost s past (owed s past) none)
stands s (Held d ∷ past) n l =
    let none = l.calls.0 refl in
    begun s past (Held d) (made s past (stands s past n (before s (Held d) past l)) none) l.lawful.0.held (alone s past (owed s past) (Held d) none)
stands s (Freed d ∷ past) n l =
    let none = l.calls.0 refl in
    begun s past (Freed d) (made s past (stands s past n (before s (Freed d) past l)) none) l.lawful.0.held (alone s past (owed s past) (Freed d) none)
stands s (Given ∷ past) n l =
    let none = l.calls.0 refl in
    let first = waits_first s past l.lawful.1 l.lawful.0.marked in
    whole (goes_out past (with_freshness false first.frame) (made s past (stands s past n (before s Given past l)) none) first.goes) none
stands s (Told o ∷ past) n l = goes_on s past (Told o) (stands s past n (before s (Told o) past l)) l.lawful.0.answered refl
stands s (Heard k d line ∷ past) n l = goes_on s past (Heard k d line) (stands s past n (before s (Heard k d line) past l)) l.lawful.0.heard refl
stands s (Sent f ∷ past) n l = by_kind (is_data_frame f) refl (stands s past n (before s (Sent f) past l))
  where
    by_kind : (b : Bool) → is_data_frame f ≡ b → Stands s past → Stands s (Sent f ∷ past)
    by_kind true e earlier =
        let none = l.calls.0 (ap not e) in
        sent_out s past f (made s past earlier none) none (when_true (is_data_frame f) e l.in_turn.0) e
    by_kind false e earlier =
        goes_on s past (Sent f) earlier (when_true (not (is_data_frame f)) (ap not e) l.lawful.0.controlled) (if_fails (is_data_frame f) (owed s past) (drop 1 (owed s past)) e)

-- so what keeps the laws the rules make, where a frame takes an octet at least
pub made_by : (s : Setting) (past : List Act) → 1 ≤ s.n1 → KeepsLaws s past → Made s past
unfolding Complete
made_by s past n k = made s past (stands s past n (record { lawful = k.lawful; calls = k.calls; room = k.room; in_turn = k.in_turn })) k.complete

-- and that is the law, of each setting and history
pub lawful_is_made : (s : Setting) (past : List Act) → LawfulIsMade s past
unfolding LawfulIsMade
lawful_is_made s past n k = made_by s past n k
