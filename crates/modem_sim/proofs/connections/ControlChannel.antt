-- Connection 0 says nothing.
use Rattle.std.specs.Prelude.{◌≡◌, ℕ, zero, suc, ◌==◌, ◌&&◌, not, Bool, true, false, List, [], ◌∷◌, ◌++◌, length, drop, filter, map, refl, if◌then◌else◌}
use Rattle.std.proofs.Common.{ap, sym, ◌∙◌}
use Rattle.mux_frame.specs.Frames.{Frame}
use Rattle.mux_frame.specs.declared.frame.Kind.TheVariants.{Uih}
use Rattle.mux_station.specs.declared.role.Role.TheVariants.{Responder}
use Rattle.mux_station.specs.Acts as station
use Rattle.mux_station.specs.Written.{is_kind, is_on}
use Rattle.mux_station.specs.Opening.{opens_now, belongs, since}
use Rattle.mux_station.specs.Offering.{data_out, joined_octets, octets_sent}
use Rattle.modem_sim.specs.declared.script.Step.{Step}
use Rattle.modem_sim.specs.declared.script.StepAct.{StepAct}
use Rattle.modem_sim.specs.declared.script.StepAct.TheVariants.{Announce, Flow, Hold, Disconnect, CloseDown}
use Rattle.modem_sim.specs.Acts.{Act, Wire, Did, End, wire, is_open_at_modem}
use Rattle.modem_sim.specs.Heard.{modem_after, texts_of}
use Rattle.modem_sim.specs.Pieces.{Piece, replies}
use Rattle.modem_sim.specs.Outboxes.{Outbox, empty_box, outbox, dropped, said_after, say, replies_by, hold_on, is_holding}
use Rattle.modem_sim.specs.Doing.{acts, done as steps_done}
use Rattle.modem_sim.specs.Histories.{EachAllowed, MayDo}
use Rattle.modem_history.specs.Connections.{lines_ended}

-- ## What left

no_data_on : (f : Frame) (k zero_there : Bool) → ((k && not zero_there) && zero_there) ≡ false
no_data_on f true true = refl
no_data_on f true false = refl
no_data_on f false b = refl

none_sent : (a : station.Act) → octets_sent 0 a ≡ []
none_sent (station.Sent f) = ap (λ (b : Bool). if b then f.info else []) (no_data_on f (is_kind f.kind Uih) (f.dlci == 0))
none_sent (station.Called c) = refl
none_sent (station.Got f) = refl
none_sent station.Given = refl
none_sent station.Tick = refl
none_sent station.Lost = refl

none_joined : (done : List station.Act) → joined_octets (octets_sent 0) done ≡ []
none_joined [] = refl
none_joined (a ∷ done) = ap (λ xs. xs ++ octets_sent 0 a) (none_joined done) ∙ none_sent a

-- no data left on 0
pub none_given : (past : List station.Act) → data_out Responder 0 past ≡ []
none_given past = none_joined (since Responder 0 past)

-- ## What is said

pub record SaysNone (b : Outbox) : Type 0 where
  pub said : b.said ≡ []
  pub held : b.held ≡ []

first_acts_at : (steps : List Step) (n : ℕ) (next : Step) (later : List Step) → drop n (filter (λ (s : Step). acts s.act) steps) ≡ next ∷ later → acts next.act ≡ true
first_acts_at [] zero next later is = cc
first_acts_at [] (suc n) next later is = cc
first_acts_at (s ∷ steps) n next later is = by_test (λ m same. first_acts_at steps m next later same) (acts s.act) refl n is
  where
    head : (x y : Step) (xs ys : List Step) → x ∷ xs ≡ y ∷ ys → x ≡ y
    head x y xs ys same = cc

    by_test : ((m : ℕ) → drop m (filter (λ (s : Step). acts s.act) steps) ≡ next ∷ later → acts next.act ≡ true) → (b : Bool) → acts s.act ≡ b → (n : ℕ) → drop n (if b then s ∷ filter (λ (s : Step). acts s.act) steps else filter (λ (s : Step). acts s.act) steps) ≡ next ∷ later → acts next.act ≡ true
    by_test others true does zero same = ap (λ (x : Step). acts x.act) (sym (head s next (filter (λ (s : Step). acts s.act) steps) later same)) ∙ does
    by_test others true does (suc n) same = others n same
    by_test others false does n same = others n same

-- a step that is done acts
pub does_act : (e : End) (past : List Act) (act : StepAct) → MayDo e past act → acts act ≡ true
does_act e past act may =
    ap acts (sym may.due.is_its) ∙ first_acts_at e.steps (length (steps_done past)) may.due.next may.due.later may.due.is_first

not_zero : (a b : Bool) → (not a && b) ≡ true → a ≡ false
not_zero true b is = cc
not_zero false b is = refl

none_by : (e : End) (past : List Act) (f : Frame) → replies_by e 0 past f ≡ []
none_by e past f = by_test (f.dlci == 0) (is_on Uih f.dlci f) (is_open_at_modem f.dlci past)
  where
    by_test : (here k there : Bool) → (if here then replies e.echo (modem_after e past) (texts_of (if (not here && k) && there then map (λ l. (f.dlci, l)) (lines_ended Responder f.dlci (wire past) f) else [])) else []) ≡ []
    by_test true k there = refl
    by_test false k there = refl

says_none_more : (holds : Bool) (b : Outbox) (pieces : List Piece) → pieces ≡ [] → SaysNone b → SaysNone (say holds b pieces)
says_none_more true b pieces none before = record { said = before.said; held = ap (λ xs. xs ++ pieces) before.held ∙ none }
says_none_more false b pieces none before = record { said = ap (λ xs. xs ++ (b.held ++ pieces)) before.said ∙ ap (λ xs. xs ++ pieces) before.held ∙ none; held = refl }

none_after : (e : End) (past : List Act) (a : station.Act) (b : Outbox) → SaysNone b → SaysNone (said_after e 0 past a b)
none_after e past (station.Got f) b before = says_none_more (is_holding (hold_on 0 (Wire (station.Got f) ∷ past))) b (replies_by e 0 past f) (none_by e past f) before
none_after e past (station.Called c) b before = before
none_after e past (station.Sent f) b before = before
none_after e past station.Given b before = before
none_after e past station.Tick b before = before
none_after e past station.Lost b before = before

none_in : (e : End) (past : List Act) (a : station.Act) (b : Outbox) (opens there : Bool) → SaysNone b → SaysNone (if opens then empty_box else if there && not opens then said_after e 0 past a b else dropped b)
none_in e past a b true there before = record { said = refl; held = refl }
none_in e past a b false true before = none_after e past a b before
none_in e past a b false false before = record { said = before.said; held = refl }

not_here : (o : Outbox) (more : Outbox) (here : Bool) → here ≡ false → SaysNone o → SaysNone (if here then more else o)
not_here o more true is before = cc
not_here o more false is before = before

-- nothing is said on 0, nor held back
pub says_none : (e : End) (past : List Act) → EachAllowed e past → SaysNone (outbox e 0 past)
says_none e [] allowed = record { said = refl; held = refl }
says_none e (Did (Announce x line) ∷ past) allowed =
    not_here (outbox e 0 past) _ (x.number == 0) (not_zero (x.number == 0) _ (does_act e past (Announce x line) allowed.0)) (says_none e past allowed.1)
says_none e (Did (Flow x go) ∷ past) allowed = says_none e past allowed.1
says_none e (Did (Hold x y) ∷ past) allowed = says_none e past allowed.1
says_none e (Did (Disconnect x) ∷ past) allowed = says_none e past allowed.1
says_none e (Did CloseDown ∷ past) allowed = says_none e past allowed.1
says_none e (Wire a ∷ past) allowed =
    none_in e past a (outbox e 0 past) (opens_now Responder 0 (wire past) a) (belongs Responder 0 (wire past) a) (says_none e past allowed.1)
