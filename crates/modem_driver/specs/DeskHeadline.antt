-- The headline: what a desk and its sessions, one or several, one after the other, come to, from its opening to its
-- settlement.
use Rattle.std.specs.Prelude.{◌≡◌, ℕ, true, List, [], ◌∷◌, ◌++◌, length, map, flat_map, slice_index_or, nat_lt, Contains}
use Rattle.std.specs.List.{list_all, list_any}
use Rattle.at_text.specs.declared.unsolicited.UrcKind.{UrcKind}
use Rattle.modem_desk.specs.declared.request.Request.{Request}
use Rattle.modem_desk.specs.declared.request.Outcome.{Outcome}
use Rattle.modem_desk.specs.declared.request.Urc.{Urc}
use Rattle.modem_desk.specs.Ends.{AreSubscribed, CallerView, DriverView, Each, IsWhole, ListenerView, subscription_of, place_of}
use Rattle.modem_desk.specs.Books.{DeskBooks}
use Rattle.modem_history.specs.Acts.{Act, is_for}
use Rattle.modem_history.specs.Kinds.{of_kind}
use Rattle.modem_history.specs.Sessions as session
use Rattle.modem_history.specs.Sessions.{Beginning, EndView, Finishes, Leftovers, SessionFits, SessionView, heard_as, heards, taken_since}
use Rattle.modem_driver.specs.Grown.{HasGrown}
use Rattle.modem_driver.specs.Headline.{AnswersOwn, HasOnePlace, HearsEach, Leaves, NoneAfterClose, Settlement}
use Rattle.modem_driver.specs.SessionStates.{end_of}
use Rattle.modem_driver.specs.TurningAway.{Offline, TurnsAway, offline_from}

-- ## Sessions on a desk

-- the desk's end once a session is over, and what that session left undone: the requests that were told nothing, and
-- the outcomes and lines that weren't placed
pub record Rest : Type 0 where
  pub desk : EndView
  pub in_hand : List Request
  pub unplaced : List Outcome
  pub unannounced : List Urc

-- a session on the desk: how it began, how it stood at its end and between its calls before, newest first, its history, what `finish` gave, and what rests
-- when the next one begins or the desk is settled
pub record Spell : Type 0 where
  pub start : Beginning
  pub session : SessionView
  pub earlier : List SessionView
  pub past : List Act
  pub leftovers : Leftovers
  pub rest : Rest

-- all that `finish` gave
abbrev pub whole_rest : Leftovers → Rest
whole_rest f = record { desk = f.desk; in_hand = f.in_hand; unplaced = f.unplaced; unannounced = f.unannounced }

-- what rests is all that `finish` gave; or what is left where a desk without a line, which began with that, has
-- turned away what it could
pub data RestsOf (kinds : List UrcKind) (callers : ℕ) : Leftovers → Rest → Type 0 where
  rests_whole : (f : Leftovers) → RestsOf kinds callers f (whole_rest f)
  turned_away : (f : Leftovers) (left : Offline) (before after : DriverView) (taken : List Request)
      → end_of before ≡ f.desk → before.desk.kinds ≡ kinds → length before.desk.rings ≡ callers
      → TurnsAway (offline_from f.in_hand f.unplaced f.unannounced) left before after taken
      → RestsOf kinds callers f
      (record { desk = end_of after; in_hand = []; unplaced = left.unplaced; unannounced = left.unannounced })

-- The session began on this end of the desk, which listens to these kinds and has so many callers. Each request that it
-- took is of one of them. The session has this history, `finish` gave what the history says, and this rest is what
-- rests of that.
pub record IsSpell (kinds : List UrcKind) (callers : ℕ) (desk : EndView) (s : Spell) : Type 0 where
  pub begins : s.start.desk ≡ desk
  pub kinds_are : s.start.kinds ≡ kinds
  pub callers_are : list_all (λ (q : Request). nat_lt q.caller callers) (taken_since s.start s.session) ≡ true
  pub grown : HasGrown s.start (s.session ∷ s.earlier) s.past
  pub finishes : Finishes s.session s.past s.leftovers
  pub rests : RestsOf kinds callers s.leftovers s.rest

-- each session began on the desk's end as the one before left it
abbrev pub Follow : List UrcKind → (callers : ℕ) → (first : EndView) → List Spell → (last : EndView) → Type 0
Follow kinds callers first [] last = last ≡ first
Follow kinds callers first (s ∷ ss) last = IsSpell kinds callers first s × Follow kinds callers s.rest.desk ss last

-- a desk: its sessions, one after the other, how its end stood before them and after them; the driver's end, the
-- callers and the listeners that were handed in for settlement, and what that gave
pub record DeskRun : Type 0 where
  pub first : EndView
  pub spells : List Spell
  pub last : EndView
  pub driver : DriverView
  pub callers : List CallerView
  pub listeners : List ListenerView
  pub settlement : Settlement

-- The desk had done nothing before its first session. Its sessions followed one another, and it was settled with
-- the driver's end as the last one left it, and with all callers.
pub record IsDeskSettled (run : DeskRun) : Type 0 where
  pub none_taken : run.first.taken ≡ []
  pub none_told : (c : ℕ) → slice_index_or run.first.told c [] ≡ []
  pub none_announced : (i : ℕ) → slice_index_or run.first.announced i [] ≡ []
  pub follow : Follow run.driver.desk.kinds (length run.driver.desk.rings) run.first run.spells run.last
  pub taken : run.driver.taken ≡ run.last.taken
  pub told : run.driver.told ≡ run.last.told
  pub announced : run.driver.announced ≡ run.last.announced
  pub whole : IsWhole run.driver.desk (map place_of run.callers)
  pub subscribed : AreSubscribed run.driver.desk (map subscription_of run.listeners)
  pub books : DeskBooks run.driver run.callers run.listeners run.settlement.left run.settlement.untaken
      run.settlement.unheard

-- ## What they come to

-- what the headline says of each session
pub record SpellHeadline (callers : List CallerView) (s : Spell) : Type 0 where
  pub leaves : (newer older : List Act) → s.past ≡ newer ++ older → (d : ℕ) → Leaves d older callers
  pub none_after_close : NoneAfterClose s.past
  pub answers : AnswersOwn s.start s.past
  pub hears : HearsEach s.start s.past

-- these lines were announced to the listener of this kind in the sessions, one after the other: in each, with
-- those that weren't placed, the lines of that kind that it heard, each once and in order
pub data AnnouncedOver (k : UrcKind) : List Spell → List Urc → Type 0 where
  over_none : AnnouncedOver k [] []
  over_one : (s : Spell) (ss : List Spell) (here later : List Urc)
      → map heard_as (here ++ of_kind k s.rest.unannounced) ≡ heards k s.past → AnnouncedOver k ss later
      → AnnouncedOver k (s ∷ ss) (here ++ later)

-- the outcomes that the caller took, those that waited for it, and those that weren't placed in any session
abbrev pub outcomes_over : DeskRun → ℕ → CallerView → List Outcome
outcomes_over run i c =
    c.got ++ slice_index_or run.settlement.untaken i [] ++
    session.caller_outcomes c.place.number (flat_map (λ (s : Spell). s.rest.unplaced) run.spells)

-- each request that the caller submitted has one place over all sessions, and each outcome answers one of them
pub record HoldsOver (run : DeskRun) (i : ℕ) (c : CallerView) : Type 0 where
  pub each : (r : Request) → Contains c.submitted r
      → HasOnePlace (outcomes_over run i c) (flat_map (λ (s : Spell). s.rest.in_hand) run.spells)
      run.settlement.left r
  pub own : list_all (λ o. list_any (λ r. is_for r o) c.submitted) (outcomes_over run i c) ≡ true

-- The headline of a desk, whatever sessions it had, whether or not their lines failed. In each session the octets that
-- left on a connection since it opened are a prefix of its callers' command lines taken since then: each line once,
-- each caller's in its submitted order, none after a close. Each answered command has exactly its solicited lines up to
-- its final code. Over all sessions each subscribed unsolicited line is announced once. At settle every caller holds
-- each of its outcomes once.
pub record DeskHeadline (run : DeskRun) : Type 0 where
  pub each : Each (λ _ s. SpellHeadline run.callers s) run.spells
  pub announces : Each
      (λ i l. AnnouncedOver l.subscription.kind run.spells (l.heard ++ slice_index_or run.settlement.unheard i []))
      run.listeners
  pub holds : Each (HoldsOver run) run.callers

-- the law: every settled desk has its headline
unfoldable pub IsDeskHeadline : DeskRun → Type 0
IsDeskHeadline run = IsDeskSettled run → DeskHeadline run
