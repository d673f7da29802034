-- Turns that take their steps, and turns that leave one out, whatever they exchanged with their line and their
-- desk.
use Rattle.std.specs.Prelude.{ℕ, List, [], ◌∷◌, ◌++◌, Some, None, take, drop, flat_map, replicate}
use Rattle.std.specs.List.{concat}
use Rattle.mux_frame.specs.declared.frame.Kind.TheVariants.{Ua, Uih}
use Rattle.mux_station.specs.declared.role.Role.TheVariants.{Responder}
use Rattle.mux_station.specs.Written.{written}
use Rattle.at_text.specs.declared.unsolicited.UrcKind.TheVariants.{Ring}
use Rattle.modem_desk.specs.declared.request.Answer.TheVariants.{Opened}
use Rattle.modem_history.specs.Acts.{Act, Heard, Given, after}
use Rattle.modem_history.specs.Sessions.{SessionView}
use Rattle.modem_history.specs.Turns.{Exchange, IsTurn, Moved}
use Rattle.modem_history.specs.EveryTurn.{TakesSteps}
use Rattle.modem_history.specs.Rows.{comes, framed, opening_zero, opening_one}
use Rattle.modem_history.specs.SessionRows.{TurnRow, beginning, settled, lf_octet, zero_came, one_came, sabm_zero, sabm_one, msc_one, ua_zero, ring_one, first_request, second_request, opened_zero, opened_both, outcome_of, ring, last_flag}
use Rattle.modem_history.specs.GoodSessions.{asked_zero, left_zero, sabm_queued, sabm_half_sent, outcome_waits}
use Rattle.modem_history.specs.GoodTurns.{at_calls, exchanged, offers, outcome_back, writes_on, takes_request, gets_frame, places_outcome, gives_on_in_vain, waits_for_zero}
use Rattle.modem_history.specs.BadTurns.{at_hand}

-- ## Counts

-- so many reads were empty, so many writes stalled, so often no request was found, and so many outcomes of
-- each caller were handed back
abbrev pub counting : (empty stalled none : ℕ) → (back : List ℕ) → SessionView → SessionView
counting empty stalled none back v = record v {
  line = record v.line { empty_reads = empty; stalled_writes = stalled };
  desk = record v.desk { found_none = none; told_back = back };
}

abbrev pub none_back : List ℕ
none_back = 0 ∷ 0 ∷ []

-- the turn, and how it leaves these counts
abbrev pub raising : (empty stalled none : ℕ) → (back : List ℕ) → TurnRow → TurnRow
raising empty stalled none back row = record row { new = counting empty stalled none back row.new }

-- ## Steps that are taken

abbrev pub StepsBy : TurnRow → Exchange → Type 0
StepsBy row t = TakesSteps beginning row.old row.new t (after [] row.before) row.acts

-- a read that gave none, an offer of which none was taken, a desk that had no request and an outcome that was
-- handed back raise their counts by one, and nothing else does
pub record TakeTheirSteps : Type 0 where
  pub writes : StepsBy (raising 1 0 1 none_back writes_on) (exchanged (offers (drop 2 sabm_zero) 4) None)
  pub stalls : StepsBy (raising 1 1 1 none_back gives_on_in_vain) (exchanged (offers sabm_zero 0) None)
  pub takes : StepsBy (raising 1 0 0 none_back takes_request) (exchanged None (Some first_request))
  pub gets : StepsBy (raising 1 0 1 none_back gets_frame) (exchanged None None)
  pub places : StepsBy (raising 1 0 1 none_back places_outcome) (exchanged None None)
  pub waits : StepsBy (raising 1 0 1 (1 ∷ 0 ∷ []) waits_for_zero) (outcome_back (outcome_of 1 Opened))

-- ## Steps that are left out

-- the turn ends in its answer, by some exchange with its line and its desk
pub record SeemsATurn (row : TurnRow) : Type 0 where
  pub exchange : Exchange
  pub turn : IsTurn beginning row.old row.new exchange (after [] row.before) row.acts row.says

-- and yet, whatever it exchanged, it leaves a step out
abbrev pub SkipsAStep : TurnRow → Type 0
SkipsAStep row =
    (t : Exchange) → IsTurn beginning row.old row.new t (after [] row.before) row.acts row.says
    → ¬ TakesSteps beginning row.old row.new t (after [] row.before) row.acts

-- octets wait, and the line was offered none: a UA came
abbrev pub ua_came : SessionView
ua_came =
    record (at_hand (settled zero_came (take 2 sabm_zero) (first_request ∷ []) [] [] [] []) ua_zero
    (written Responder Ua 0 [])) {
      unwritten = drop 2 sabm_zero;
    }

abbrev pub offers_nothing : TurnRow
offers_nothing = record {
  old = sabm_half_sent.view;
  new = at_calls 42 (counting 0 0 1 none_back ua_came);
  before = left_zero;
  acts = [];
  says = Moved;
}

-- the line was called without room for an octet: a request was taken
abbrev pub reads_without_room : TurnRow
reads_without_room = raising 0 0 0 none_back takes_request

-- no request was asked for: octets were written
abbrev pub asks_for_none : TurnRow
asks_for_none = raising 1 0 0 none_back writes_on

-- RING came 256 times and waits, its connection isn't held, and an MSC had a place: the last flag was written
abbrev pub rings_came : List Act
rings_came =
    opening_one ++
    flat_map (λ (acts : List Act). acts)
    (replicate 256 (comes Uih 1 (framed ring.line) ∷ Heard Ring 1 ring.line ∷ []))

abbrev pub rings_wait : (left unwritten : List ℕ) → SessionView
rings_wait left unwritten =
    record (settled (one_came ++ concat (replicate 256 ring_one))
    (sabm_zero ++ sabm_one ++ left) (first_request ∷ second_request ∷ []) opened_both [] [] last_flag) {
      unwritten = unwritten;
      unannounced = replicate 256 ring;
    }

-- the first RING that waits was handed back
abbrev pub ring_back : SessionView → SessionView
ring_back v = record v { desk = record v.desk { announced_back = 1 ∷ 0 ∷ [] } }

abbrev pub looks_at_no_backlog : TurnRow
looks_at_no_backlog = record {
  old = rings_wait (take 9 msc_one) last_flag;
  new = at_calls 42 (ring_back (counting 1 0 1 none_back (rings_wait msc_one [])));
  before = rings_came;
  acts = [];
  says = Moved;
}

-- of the SABM the first half went into the output: the LF came
abbrev pub puts_half : TurnRow
puts_half = record {
  old = settled [] [] (first_request ∷ []) [] [] [] [];
  new = at_calls 42 (counting 0 1 1 none_back (record sabm_queued.view { unwritten = take 3 sabm_zero }));
  before = asked_zero;
  acts = Given ∷ [];
  says = Moved;
}

-- the outcome that waited still does, and wasn't handed back: an octet came
abbrev pub octet_came : SessionView
octet_came =
    record (settled (zero_came ++ lf_octet) sabm_zero (first_request ∷ []) [] [] []
    (last_flag ++ lf_octet)) {
      unplaced = opened_zero;
    }

abbrev pub leaves_an_outcome : TurnRow
leaves_an_outcome = record {
  old = outcome_waits.view;
  new = at_calls 41 (counting 0 0 1 none_back octet_came);
  before = opening_zero;
  acts = [];
  says = Moved;
}

abbrev pub skipping_turns : List TurnRow
skipping_turns =
    offers_nothing ∷ reads_without_room ∷ asks_for_none ∷ looks_at_no_backlog ∷ puts_half ∷
    leaves_an_outcome ∷ []
