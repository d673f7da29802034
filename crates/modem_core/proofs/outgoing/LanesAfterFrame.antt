-- What a frame that goes out makes of what is kept of a connection.
use Rattle.std.specs.Prelude.{◌≡◌, ℕ, ◌+◌, ◌<◌, ◌==◌, ◌&&◌, not, Bool, true, false, List, [], ◌∷◌, ◌++◌, length, take, refl, Option, None, Some, option_map, is_some, if◌then◌else◌}
use Rattle.std.specs.List.{concat, list_all}
use Rattle.std.proofs.Common.{ap, sym, ◌∙◌, subst, arith, append-nil}
use Rattle.std.proofs.lemmas.Bool.{and_from, eq-eqb}
use Rattle.mux_frame.specs.declared.frame.Kind.TheVariants.{Uih}
use Rattle.mux_station.specs.declared.role.ChannelState.{ChannelState}
use Rattle.mux_station.specs.declared.role.Role.TheVariants.{Initiator}
use Rattle.mux_station.specs.Acts as station
use Rattle.mux_station.specs.Written.{written}
use Rattle.mux_station.specs.Opening.{since, since_after, belongs, is_open}
use Rattle.mux_station.specs.Offering.{octets_offered, joined_octets}
use Rattle.mux_station.specs.Sending.{Waiting}
use Rattle.at_text.specs.Dialects.{Dialect}
use Rattle.at_text.specs.Windows.{Mark, answered, open_window}
use Rattle.at_text.specs.UnderWay.{UnderWay, unanswered, answer_shown, FitsUnderWay}
use Rattle.at_text.proofs.windows.AnswersUnderWay.{answer_begins}
use Rattle.modem_desk.specs.declared.request.Ask.{Ask}
use Rattle.modem_desk.specs.declared.request.Ask.TheVariants.{OpenChannel, CloseChannel, Command, Probe, Stop}
use Rattle.modem_desk.specs.declared.request.Request.{Request}
use Rattle.modem_core.specs.Lanes.{Lane}
use Rattle.modem_history.specs.Acts.{Act, Sent, Given, wire}
use Rattle.modem_history.specs.Information.{info_got, information_out, carries, accepted, texts, line_of}
use Rattle.modem_history.specs.Placing.{marks, begun_placed}
use Rattle.at_text.specs.Lines.{kept_run}
use Rattle.modem_history.specs.Calls.{ticks_since}
use Rattle.modem_core.specs.Cores.{LaneFits, may_wait, shows_opening, is_closing, shows_opened, shows_stopping, probe_or, probe_in}
use Rattle.modem_history.proofs.requests.StepsOfHistory.{answered_begun}
use Rattle.modem_core.proofs.commands.SentTexts.{begun_in as begun_between}
use Rattle.modem_core.proofs.commands.NextCommand.{begins_at}

-- ## Those who wait

-- the probe among them, where no tick came
pub probe_untimed : (a : Act) (past : List Act) → ((r : Request) → ticks_since r (a ∷ past) ≡ ticks_since r past) → (rs : List Request) → probe_in (a ∷ past) rs ≡ probe_in past rs
probe_untimed a past h [] = refl
probe_untimed a past h (r ∷ rs) = by_ask r.ask (probe_untimed a past h rs)
  where
    by_ask : (ask : Ask) → probe_in (a ∷ past) rs ≡ probe_in past rs → probe_or (a ∷ past) r ask (probe_in (a ∷ past) rs) ≡ probe_or past r ask (probe_in past rs)
    by_ask (Probe octets) k = ap (λ (n : ℕ). let w : Waiting = record { data_octets = octets; ticks = n } in Some w) (h r)
    by_ask (OpenChannel d) k = k
    by_ask (CloseChannel d) k = k
    by_ask (Command d line) k = k
    by_ask Stop k = k

may_same : (x y : ℕ → ChannelState) → ((d : ℕ) → d < 62 → x d ≡ y d) → (ask : Ask) → may_wait x ask ≡ may_wait y ask
may_same x y h (OpenChannel d) = ap shows_opening (h d.number d.in_range)
may_same x y h (CloseChannel d) = ap is_closing (h d.number d.in_range)
may_same x y h (Command d line) = ap shows_opened (h d.number d.in_range)
may_same x y h (Probe octets) = ap shows_opened (h 0 (omega arith))
may_same x y h Stop = ap shows_stopping (h 0 (omega arith))

-- all may wait on, where the connections stand as they stood
pub waits_same : (x y : ℕ → ChannelState) → ((d : ℕ) → d < 62 → x d ≡ y d) → (rs : List Request) → list_all (λ (r : Request). may_wait x r.ask) rs ≡ list_all (λ (r : Request). may_wait y r.ask) rs
waits_same x y h [] = refl
waits_same x y h (r ∷ rs) = ap (λ (b : Bool). b && list_all (λ (q : Request). may_wait x q.ask) rs) (may_same x y h r.ask) ∙ ap (λ (b : Bool). may_wait y r.ask && b) (waits_same x y h rs)

-- ## An act that neither opens nor comes

-- where it brings no information on d, the same came there
pub got_after : (b : Bool) (a : station.Act) (d : ℕ) (rest : List station.Act) → info_got d (a ∷ rest) ≡ info_got d rest → info_got d (since_after false b a rest) ≡ info_got d rest
got_after true a d rest h = h
got_after false a d rest h = refl

-- where it offers none, the same was offered
pub offered_after : (b : Bool) (a : station.Act) (d : ℕ) (rest : List station.Act) → octets_offered d a ≡ [] → joined_octets (octets_offered d) (since_after false b a rest) ≡ joined_octets (octets_offered d) rest
offered_after true a d rest h = ap (λ (v : List ℕ). joined_octets (octets_offered d) rest ++ v) h ∙ append-nil (joined_octets (octets_offered d) rest)
offered_after false a d rest h = refl

-- so a control frame that is given on leaves the lane of d fitting
pub lane_given : (dialect : Dialect) (d : ℕ) (seen : List station.Act) (past : List Act) (lane : Lane) → LaneFits dialect d seen past lane → LaneFits dialect d (station.Given ∷ seen) (Given ∷ past) lane
lane_given dialect d seen past lane f = record {
  kept_is = ap kept_run (got_after (belongs Initiator d (wire past) station.Given) station.Given d (since Initiator d (wire past)) refl) ∙ f.kept_is;
  under_way_fits = f.under_way_fits;
  offered_is = offered_after (belongs Initiator d seen station.Given) station.Given d (since Initiator d seen) refl ∙ f.offered_is;
}

-- ## Data

and_off : (b : Bool) → (b && false) ≡ false
and_off true = refl
and_off false = refl

if_not : (b : Bool) (x y : List Mark) → b ≡ false → (if b then x else y) ≡ y
if_not false x y h = refl
if_not true x y h = cc

if_so : (b : Bool) (x y : List Mark) → b ≡ true → (if b then x else y) ≡ x
if_so true x y h = refl
if_so false x y h = cc

-- what is kept of another connection
pub lane_other : (dialect : Dialect) (d e : ℕ) (info : List ℕ) (seen : List station.Act) (past : List Act) (lane : Lane) → (e == d) ≡ false → LaneFits dialect d seen past lane
    → LaneFits dialect d (station.Sent (written Initiator Uih e info) ∷ seen) (Sent (written Initiator Uih e info) ∷ past) lane
lane_other dialect d e info seen past lane n f =
    let g = written Initiator Uih e info in
    let none : (carries d g && is_open Initiator d (wire past)) ≡ false
    = ap (λ (b : Bool). (not (d == 0) && b) && is_open Initiator d (wire past)) n ∙ ap (λ (b : Bool). b && is_open Initiator d (wire past)) (and_off (not (d == 0))) in
    let same : marks Initiator d (Sent g ∷ past) ≡ marks Initiator d past = if_not (carries d g && is_open Initiator d (wire past)) (marks Initiator d past ++ begun_placed Initiator d past g) (marks Initiator d past) none in
    record {
      kept_is = ap kept_run (got_after (belongs Initiator d (wire past) (station.Sent g)) (station.Sent g) d (since Initiator d (wire past)) refl) ∙ f.kept_is;
      under_way_fits = subst (λ (ms : List Mark). FitsUnderWay dialect lane.under_way ms) (sym same) f.under_way_fits;
      offered_is =
          offered_after (belongs Initiator d seen (station.Sent g)) (station.Sent g) d (since Initiator d seen) refl
          ∙ (f.offered_is ∙ ap (λ (ms : List Mark). concat (texts (take (answered dialect ms + 1) (accepted Initiator d past)))) (sym same));
    }

-- a command that begins, or not
abbrev pub under_way_then : Bool → Option UnderWay → Option UnderWay
under_way_then true u = Some unanswered
under_way_then false u = u

begun_fits : (dialect : Dialect) (b : Bool) (c : Request) (u : Option UnderWay) (ms : List Mark) → open_window dialect ms ≡ None → FitsUnderWay dialect u ms → FitsUnderWay dialect (under_way_then b u) (ms ++ begins_at b c)
begun_fits dialect true c u ms none f = answer_begins dialect u (Some unanswered) ms (line_of c) f (ap is_some (f.shows ∙ ap (option_map (answer_shown dialect)) none)) refl
begun_fits dialect false c u ms none f = subst (λ (v : List Mark). FitsUnderWay dialect u v) (sym (append-nil ms)) f

answered_same : (dialect : Dialect) (b : Bool) (c : Request) (ms : List Mark) → answered dialect (ms ++ begins_at b c) ≡ answered dialect ms
answered_same dialect true c ms = answered_begun dialect ms (line_of c)
answered_same dialect false c ms = ap (answered dialect) (append-nil ms)

-- and of its own: with the last octets the command's window begins
pub lane_own : (dialect : Dialect) (d : ℕ) (info : List ℕ) (b : Bool) (c : Request) (seen : List station.Act) (past : List Act) (lane : Lane) → (d == 0) ≡ false → is_open Initiator d (wire past) ≡ true
    → open_window dialect (marks Initiator d past) ≡ None
    → begun_between (accepted Initiator d past) (length (information_out Initiator d past)) (length (information_out Initiator d past) + length info) ≡ begins_at b c → LaneFits dialect d seen past lane
    → LaneFits dialect d (station.Sent (written Initiator Uih d info) ∷ seen) (Sent (written Initiator Uih d info) ∷ past) (record lane { under_way = under_way_then b lane.under_way })
lane_own dialect d info b c seen past lane z o none begun f =
    let g = written Initiator Uih d info in
    let ms = marks Initiator d past in
    let here : (carries d g && is_open Initiator d (wire past)) ≡ true
    = and_from (carries d g) (is_open Initiator d (wire past)) (and_from (not (d == 0)) (d == d) (ap not z) (eq-eqb d d refl)) o in
    let more : marks Initiator d (Sent g ∷ past) ≡ ms ++ begins_at b c
    = if_so (carries d g && is_open Initiator d (wire past)) (ms ++ begun_placed Initiator d past g) ms here ∙ ap (λ (v : List Mark). ms ++ v) begun in
    record {
      kept_is = ap kept_run (got_after (belongs Initiator d (wire past) (station.Sent g)) (station.Sent g) d (since Initiator d (wire past)) refl) ∙ f.kept_is;
      under_way_fits = subst (λ (v : List Mark). FitsUnderWay dialect (under_way_then b lane.under_way) v) (sym more) (begun_fits dialect b c lane.under_way ms none f.under_way_fits);
      offered_is =
          offered_after (belongs Initiator d seen (station.Sent g)) (station.Sent g) d (since Initiator d seen) refl
          ∙ (f.offered_is ∙ (ap (λ (n : ℕ). concat (texts (take (n + 1) (accepted Initiator d past)))) (sym (answered_same dialect b c ms))
          ∙ ap (λ (v : List Mark). concat (texts (take (answered dialect v + 1) (accepted Initiator d past)))) (sym more)));
    }
