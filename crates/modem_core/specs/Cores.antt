-- What a core keeps, and which histories it fits.
use Rattle.std.specs.Prelude.{◌≡◌, ℕ, ◌+◌, ◌<◌, ◌==◌, ◌↔◌, Bool, true, false, List, [], ◌∷◌, take, Option, None, Some, if◌then◌else◌, slice_index_or, replicate}
use Rattle.std.specs.List.{list_all, concat, Contains}
use Rattle.at_text.specs.declared.unsolicited.UrcKind.{UrcKind}
use Rattle.at_text.specs.Dialects.{Dialect}
use Rattle.at_text.specs.Rules.{Rules, no_rules, dialect_of}
use Rattle.at_text.specs.UnderWay.{FitsUnderWay}
use Rattle.at_text.specs.Windows.{answered}
use Rattle.mux_station.specs.declared.role.Role.TheVariants.{Initiator}
use Rattle.mux_station.specs.declared.role.ChannelState.{ChannelState}
use Rattle.mux_station.specs.declared.role.ChannelState.TheVariants as is
use Rattle.mux_station.specs.Acts as station
use Rattle.mux_station.specs.Opening.{is_open}
use Rattle.mux_station.specs.Offering.{offered}
use Rattle.mux_station.specs.Sending.{Waiting}
use Rattle.mux_station.specs.Stages.{as_shown}
use Rattle.mux_station.specs.Stations.{Station, new_station, channel_at}
use Rattle.mux_station.specs.Fitting as station_fits
use Rattle.mux_station.specs.Traces.{without_calls}
use Rattle.modem_desk.specs.declared.request.Ask.{Ask}
use Rattle.modem_desk.specs.declared.request.Ask.TheVariants.{OpenChannel, CloseChannel, Command, Probe, Stop}
use Rattle.modem_desk.specs.declared.request.Request.{Request}
use Rattle.modem_core.specs.Lanes.{Lane, new_lane}
use Rattle.modem_history.specs.Acts.{Act, wire, in_hand, after}
use Rattle.modem_history.specs.Information.{accepted, texts}
use Rattle.modem_history.specs.Placing.{marks, run_on}
use Rattle.modem_history.specs.Calls.{Setting, calls, is_lost, ticks_since}
use Rattle.modem_history.specs.Lawful.{Lawful, Complete}
use Rattle.modem_history.specs.Wholes.{CompleteCalls, UsesOnce, taken_requests}

-- ## What is kept

-- what a core keeps: its station, the lanes of the connections 0 to 61, the requests in hand, the dialect's
-- own rules, the kinds that are listened to, and whether the line is lost
pub record Core : Type 0 where
  pub station : Station
  pub lanes : List Lane
  pub hand : List Request
  pub rules : Rules
  pub kinds : List UrcKind
  pub lost : Bool

-- the codes of the modem: the standard's, and the rules'
abbrev pub dialect_in : Core → Dialect
dialect_in v = dialect_of v.rules

-- a new core, with these rules of a dialect
abbrev pub core_by : Rules → ℕ → List UrcKind → Core
core_by rules n1 kinds = record {
  station = new_station Initiator n1;
  lanes = replicate 62 new_lane;
  hand = [];
  rules = rules;
  kinds = kinds;
  lost = false;
}

-- a new core, by the standard's codes
abbrev pub new_core : ℕ → List UrcKind → Core
new_core n1 kinds = core_by no_rules n1 kinds

-- the lane of d
abbrev pub lane_at : Core → ℕ → Lane
lane_at v d = slice_index_or v.lanes d new_lane

-- how a connection stands: all are Shut once the line is lost
abbrev pub state_shown : Station → (lost : Bool) → ℕ → ChannelState
state_shown v lost d = if lost then is.Shut else as_shown (channel_at v d).state

-- ## Which histories it fits

-- the state that is shown is Opening
abbrev pub shows_opening : ChannelState → Bool
shows_opening is.Opening = true
shows_opening _ = false

abbrev pub is_closing : ChannelState → Bool
is_closing is.Closing = true
is_closing _ = false

-- the state that is shown is Opened
abbrev pub shows_opened : ChannelState → Bool
shows_opened is.Opened = true
shows_opened _ = false

abbrev pub shows_stopping : ChannelState → Bool
shows_stopping is.Stopping = true
shows_stopping _ = false

-- a request may wait while the connections stand so
abbrev pub may_wait : (ℕ → ChannelState) → Ask → Bool
may_wait now (OpenChannel d) = shows_opening (now d.number)
may_wait now (CloseChannel d) = is_closing (now d.number)
may_wait now (Command d line) = shows_opened (now d.number)
may_wait now (Probe octets) = shows_opened (now 0)
may_wait now Stop = shows_stopping (now 0)

-- the probe among the requests: its octets, and how many ticks came since it was taken
abbrev pub probe_or : List Act → Request → Ask → Option Waiting → Option Waiting
probe_or past r (Probe octets) later = Some (record { data_octets = octets; ticks = ticks_since r past })
probe_or past r _ later = later

abbrev pub probe_in : List Act → List Request → Option Waiting
probe_in past [] = None
probe_in past (r ∷ rs) = probe_or past r r.ask (probe_in past rs)

-- an open connection: what is kept of its unfinished line and of the answer under way is what the past says, and its
-- accepted commands were put into the station's ring as far as the first one whose answer isn't whole
pub record LaneFits (dialect : Dialect) (d : ℕ) (seen : List station.Act) (past : List Act) (lane : Lane) : Type 0 where
  pub kept_is : run_on Initiator d past ≡ lane.kept
  pub under_way_fits : FitsUnderWay dialect lane.under_way (marks Initiator d past)
  pub offered_is : offered Initiator d seen
      ≡ concat (texts (take (answered dialect (marks Initiator d past) + 1) (accepted Initiator d past)))

-- the line isn't lost: the station has seen the same, and the calls that the core made of it
pub record Runs (v : Core) (past : List Act) : Type 0 where
  pub seen : List station.Act
  pub fits : station_fits.StationFits v.station seen
  pub same : without_calls seen ≡ wire past
  pub waits : list_all (λ (r : Request). may_wait (state_shown v.station false) r.ask) v.hand ≡ true
  pub probe_is : probe_in past v.hand ≡ v.station.probe
  pub lanes_fit : (d : ℕ) → d < 62 → (d == 0) ≡ false → is_open Initiator d (wire past) ≡ true
      → LaneFits (dialect_in v) d seen past (lane_at v d)

abbrev pub RunsUnless : Bool → Core → List Act → Type 0
RunsUnless true v past = v.hand ≡ []
RunsUnless false v past = Runs v past

-- a core fits a past: each thing that it keeps is what the past says
pub record Fits (v : Core) (past : List Act) : Type 0 where
  pub hand_is : in_hand past ≡ v.hand
  pub lost_is : is_lost past ≡ v.lost
  pub runs : RunsUnless v.lost v past

-- ## What a call comes to

-- a history of whole calls in which no caller uses a number twice
pub record IsRun (s : Setting) (past : List Act) : Type 0 where
  pub lawful : Lawful s past
  pub complete : Complete s past
  pub whole : CompleteCalls s past
  pub numbers : UsesOnce (taken_requests past)

-- the setting of a core's histories: an initiator with the core's N1 and its modem's codes, which listens to its kinds
pub record IsSettingOf (s : Setting) (v : Core) : Type 0 where
  pub role_is : s.role ≡ Initiator
  pub n1_is : s.n1 ≡ v.station.n1
  pub dialect_is : s.dialect ≡ dialect_in v
  pub listens_are : (kind : UrcKind) → (s.listens kind ≡ true) ↔ Contains v.kinds kind

-- a call that begins with this act may come after a past
pub record MayCome (s : Setting) (v : Core) (past : List Act) (a : Act) : Type 0 where
  pub setting : IsSettingOf s v
  pub fits : Fits v past
  pub run : IsRun s past
  pub numbers : UsesOnce (taken_requests (a ∷ past))

-- what is promised after the act: the acts are this one and all that it calls for, and the core fits them too
pub record GoesOn (s : Setting) (new : Core) (past : List Act) (a : Act) (acts : List Act) : Type 0 where
  pub called : acts ≡ a ∷ calls s past a
  pub setting : IsSettingOf s new
  pub fits : Fits new (after past acts)
  pub run : IsRun s (after past acts)

-- in every setting, and after every past in which the act may come, the core goes on with the act and all
-- that it calls for
unfoldable pub Handles : Core → Core → Act → List Act → Type 0
Handles old new a acts = (s : Setting) (past : List Act) → MayCome s old past a → GoesOn s new past a acts
