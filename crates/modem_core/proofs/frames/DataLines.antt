-- Data of an open connection: its lines, and those who wait.
use Rattle.std.specs.Prelude.{◌≡◌, ℕ, ◌==◌, ◌&&◌, not, Bool, true, false, List, [], ◌∷◌, ◌++◌, map, refl, Option, None, Some, option_map, is_some, is_none, if◌then◌else◌}
use Rattle.std.specs.List.{list_all}
use Rattle.std.proofs.Common.{ap, sym, ◌∙◌, subst, append-nil, append_assoc, eqb-true}
use Rattle.std.proofs.lemmas.Bool.{and_parts}
use Rattle.mux_frame.specs.Frames.{Frame}
use Rattle.mux_frame.specs.declared.frame.Kind.TheVariants.{Uih}
use Rattle.mux_station.specs.declared.role.Role.TheVariants.{Initiator}
use Rattle.mux_station.specs.declared.role.ChannelState.{ChannelState}
use Rattle.mux_station.specs.declared.role.ChannelState.TheVariants as is
use Rattle.mux_station.specs.declared.noted.Noted.{Noted}
use Rattle.mux_station.specs.Acts as station
use Rattle.mux_station.specs.Written.{is_on, is_data_frame}
use Rattle.mux_station.specs.States.{State, IsShut, IsOpening, IsOpened, IsClosing, IsStopping, state_of, at_got}
use Rattle.mux_station.specs.Tables.{by_frame, by_message, by_table}
use Rattle.mux_station.specs.Messages.{message_of}
use Rattle.mux_station.specs.Sending.{StationView}
use Rattle.mux_station.specs.Noting.{noted_of, noted_by_message, noted_by_table}
use Rattle.mux_station.proofs.received.StatesAfterFrames.{state_own, state_other}
use Rattle.at_text.specs.declared.answer.AnswerLine.{AnswerLine}
use Rattle.at_text.specs.declared.window.Seen as line_is
use Rattle.at_text.specs.declared.window.Seen.TheVariants.{Echo, Kept, Unsolicited}
use Rattle.at_text.specs.Dialects.{Dialect}
use Rattle.at_text.specs.Windows.{Mark, Line, Window, open_window}
use Rattle.at_text.specs.OpenWindow.{OpenWindow, shown, seen_by, after_line}
use Rattle.at_text.specs.Seeing.{seen_after}
use Rattle.at_text.proofs.windows.AnswerWindows.{seen_line, shows_line}
use Rattle.modem_desk.specs.declared.request.Ask.{Ask}
use Rattle.modem_desk.specs.declared.request.Ask.TheVariants.{OpenChannel, CloseChannel, Command, Probe, Stop}
use Rattle.modem_desk.specs.declared.request.Request.{Request}
use Rattle.modem_desk.specs.declared.request.Answer.{Answer}
use Rattle.modem_desk.specs.declared.request.Answer.TheVariants.{Opened}
use Rattle.modem_core.specs.declared.telling.Happened.TheVariants as happened
use Rattle.modem_history.specs.Acts.{Act}
use Rattle.modem_history.specs.Information.{command_on}
use Rattle.modem_history.specs.Calls.{Setting, first_on, done, by_seen, by_lines}
use Rattle.modem_history.specs.Requests.{is_apart, are_distinct, commands_on, without_first}
use Rattle.modem_core.specs.Telling.{told_by, told_to, left_by, said_to, probe_noted, open_told, close_told, command_told, probe_told, stop_told}
use Rattle.modem_core.specs.Cores as cores
use Rattle.modem_core.specs.Cores.{may_wait}
use Rattle.modem_queues.specs.Stops.{asker_of}
use Rattle.modem_core.specs.Reports.{done_by, said_as, said_lines, after_all}
use Rattle.modem_history.proofs.outcomes.OutcomeCounts.{is_data}
use Rattle.modem_history.proofs.requests.RequestsInHand.{all_swap}
use Rattle.modem_history.proofs.requests.RequestsAfterCalls.{off_between, first_passes}
use Rattle.modem_history.proofs.requests.ClosedWindows.{minus}
use Rattle.modem_history.proofs.requests.StepsOfHistory.{not_on_zero}
use Rattle.modem_core.proofs.probes.ProbeAnswers.{table_says}

-- ## Lines

same_done : (owner : Option Request) (ls : List AnswerLine) → done_by (option_map asker_of owner) ls ≡ done owner ls
same_done None ls = refl
same_done (Some r) ls = refl

same_said : (s : Setting) (d : ℕ) (owner : Option Request) (line : List ℕ) (v : line_is.Seen) → said_as s.listens d (option_map asker_of owner) line v ≡ by_seen s d owner line v
same_said s d owner line Echo = refl
same_said s d owner line Kept = refl
same_said s d owner line (line_is.TheVariants.Done ls) = same_done owner ls
same_said s d owner line (Unsolicited kind) = refl
same_said s d owner line line_is.TheVariants.Other = refl

abbrev Shows : Dialect → Option OpenWindow → List Mark → Type 0
Shows dialect w ms = w ≡ option_map (shown dialect) (open_window dialect ms)

-- what is said by the window is what is said by what was placed
pub said_is : (s : Setting) (d : ℕ) (owner : Option Request) (ls : List (List ℕ)) (w : Option OpenWindow) (ms : List Mark) → w ≡ option_map (shown s.dialect) (open_window s.dialect ms)
    → said_lines s.dialect s.listens d (option_map asker_of owner) w ls ≡ by_lines s d owner ms ls
said_is s d owner [] w ms f = refl
said_is s d owner (l ∷ ls) w ms f =
    let sees : seen_by s.dialect w l ≡ seen_after s.dialect ms l = ap (λ (v : Option OpenWindow). seen_by s.dialect v l) f ∙ seen_line s.dialect ms l in
    let fits : Shows s.dialect (after_line s.dialect w l) (ms ++ Line l ∷ []) = ap (λ (v : Option OpenWindow). after_line s.dialect v l) f ∙ shows_line s.dialect ms l in
    ap (λ (v : line_is.Seen). said_as s.listens d (option_map asker_of owner) l v ++ said_lines s.dialect s.listens d (option_map asker_of owner) (after_line s.dialect w l) ls) sees
    ∙ (ap (λ (v : List Act). v ++ said_lines s.dialect s.listens d (option_map asker_of owner) (after_line s.dialect w l) ls) (same_said s d owner l (seen_after s.dialect ms l))
    ∙ ap (λ (v : List Act). by_seen s d owner l (seen_after s.dialect ms l) ++ v) (said_is s d owner ls (after_line s.dialect w l) (ms ++ Line l ∷ []) fits))

-- a window that shows what is open shows it after lines too
pub shows_after : (dialect : Dialect) (ls : List (List ℕ)) (w : Option OpenWindow) (ms : List Mark) → w ≡ option_map (shown dialect) (open_window dialect ms) → after_all dialect w ls ≡ option_map (shown dialect) (open_window dialect (ms ++ map Line ls))
shows_after dialect [] w ms f = f ∙ ap (λ (v : List Mark). option_map (shown dialect) (open_window dialect v)) (sym (append-nil ms))
shows_after dialect (l ∷ ls) w ms f =
    let fits : Shows dialect (after_line dialect w l) (ms ++ Line l ∷ []) = ap (λ (v : Option OpenWindow). after_line dialect v l) f ∙ shows_line dialect ms l in
    shows_after dialect ls (after_line dialect w l) (ms ++ Line l ∷ []) fits ∙ ap (λ (v : List Mark). option_map (shown dialect) (open_window dialect v)) (append_assoc ms (Line l ∷ []) (map Line ls))

some_shown : (dialect : Dialect) (o : Option Window) → is_some (option_map (shown dialect) o) ≡ is_some o
some_shown dialect None = refl
some_shown dialect (Some w) = refl

none_shown : (dialect : Dialect) (o : Option Window) → is_none (option_map (shown dialect) o) ≡ not (is_some o)
none_shown dialect None = refl
none_shown dialect (Some w) = refl

-- the window closes where it shows so
pub closes_shown : (dialect : Dialect) (w v : Option OpenWindow) (ms more : List Mark) → w ≡ option_map (shown dialect) (open_window dialect ms) → v ≡ option_map (shown dialect) (open_window dialect more)
    → (is_some w && is_none v) ≡ (is_some (open_window dialect ms) && not (is_some (open_window dialect more)))
closes_shown dialect w v ms more e g =
    ap (λ (b : Bool). b && is_none v) (ap is_some e ∙ some_shown dialect (open_window dialect ms)) ∙ ap (λ (b : Bool). is_some (open_window dialect ms) && b) (ap is_none g ∙ none_shown dialect (open_window dialect more))

-- ## Data changes no state, and calls for no frame

off_zero : (f : Frame) → is_data_frame f ≡ true → is_on Uih 0 f ≡ false
off_zero f h = ap (is_on Uih 0) (is_data f h) ∙ not_on_zero f h

same_got : (s : State) → at_got s Uih ≡ s
same_got IsShut = refl
same_got (IsOpening n) = refl
same_got IsOpened = refl
same_got (IsClosing n) = refl
same_got (IsStopping n) = refl

-- no connection's state is changed by data
pub data_state : (f : Frame) (past : List station.Act) (e : ℕ) → is_data_frame f ≡ true → state_of Initiator e (station.Got f ∷ past) ≡ state_of Initiator e past
data_state f past e h = by_same (f.dlci == e) refl
  where
    by_same : (b : Bool) → (f.dlci == e) ≡ b → state_of Initiator e (station.Got f ∷ past) ≡ state_of Initiator e past
    by_same false n = state_other Initiator e past f (not_on_zero f h) n
    by_same true n =
        let own : state_of Initiator f.dlci (station.Got f ∷ past) ≡ state_of Initiator f.dlci past
        = state_own Initiator past f (off_zero f h)
        ∙ (ap (λ (g : Frame). at_got (state_of Initiator f.dlci past) g.kind) (is_data f h) ∙ same_got (state_of Initiator f.dlci past)) in
        subst (λ (m : ℕ). state_of Initiator m (station.Got f ∷ past) ≡ state_of Initiator m past) (eqb-true f.dlci e n) own

-- and no frame is called for
pub data_frames : (x : ℕ → State) (f : Frame) → is_data_frame f ≡ true → by_frame Initiator x f ≡ []
data_frames x f h =
    ap (λ (b : Bool). if b then by_message Initiator (x 0) f else by_table Initiator f.dlci (x 0) (x f.dlci) f.kind) (off_zero f h)
    ∙ ap (λ (g : Frame). by_table Initiator f.dlci (x 0) (x f.dlci) g.kind) (is_data f h)

-- nothing that is noted of it tells a probe
pub data_noted : (x : StationView) (f : Frame) → is_data_frame f ≡ true → probe_noted (noted_of Initiator x f) ≡ None
data_noted x f h =
    ap (λ (b : Bool). probe_noted (if b then noted_by_message (x.state 0) x.probe (message_of f.info) else noted_by_table Initiator f.dlci (x.state 0) (x.state f.dlci) f.kind)) (off_zero f h)
    ∙ table_says f.dlci (x.state f.dlci) f.kind

-- ## Those who wait wait on

opening_waits : (c : ChannelState) (why : Answer) → cores.shows_opening c ≡ true → open_told c why ≡ None
opening_waits is.Opening why h = refl
opening_waits is.Opened why h = cc
opening_waits is.Shut why h = cc
opening_waits is.Closing why h = cc
opening_waits is.Stopping why h = cc

closing_waits : (c : ChannelState) (why : Answer) → cores.is_closing c ≡ true → close_told c why ≡ None
closing_waits is.Closing why h = refl
closing_waits is.Opened why h = cc
closing_waits is.Shut why h = cc
closing_waits is.Opening why h = cc
closing_waits is.Stopping why h = cc

command_waits : (c : ChannelState) (why : Answer) → cores.shows_opened c ≡ true → command_told c why ≡ None
command_waits is.Opened why h = refl
command_waits is.Closing why h = cc
command_waits is.Shut why h = cc
command_waits is.Opening why h = cc
command_waits is.Stopping why h = cc

-- a probe waits on while 0 is Opened and the frame tells it nothing
pub probe_waits : (c : ChannelState) (n : Noted) (why : Answer) → probe_noted n ≡ None → cores.shows_opened c ≡ true → probe_told c (happened.Got n) why ≡ None
probe_waits is.Opened n why e h = e
probe_waits is.Closing n why e h = cc
probe_waits is.Shut n why e h = cc
probe_waits is.Opening n why e h = cc
probe_waits is.Stopping n why e h = cc

stop_waits : (c : ChannelState) (n : Noted) → cores.shows_stopping c ≡ true → stop_told c (happened.Got n) ≡ None
stop_waits is.Stopping n h = refl
stop_waits is.Opened n h = cc
stop_waits is.Shut n h = cc
stop_waits is.Opening n h = cc
stop_waits is.Closing n h = cc

untold : (n : Noted) (ended : Bool) (now : ℕ → ChannelState) (ask : Ask) → probe_noted n ≡ None → may_wait now ask ≡ true → told_by (happened.Got n) ended now ask ≡ None
untold n ended now (OpenChannel d) e h = opening_waits (now d.number) _ h
untold n ended now (CloseChannel d) e h = closing_waits (now d.number) _ h
untold n ended now (Command d line) e h = command_waits (now d.number) _ h
untold n ended now (Probe octets) e h = probe_waits (now 0) n _ e h
untold n ended now Stop e h = stop_waits (now 0) n h

pub record Quiet (says : Ask → Option Answer) (rs : List Request) : Type 0 where
  pub untold : told_to says rs ≡ []
  pub left : left_by says rs ≡ rs

-- so those who may wait are told nothing by a frame that tells no probe, and all stay in hand
pub all_quiet : (n : Noted) (ended : Bool) (now : ℕ → ChannelState) (rs : List Request) → probe_noted n ≡ None → list_all (λ (r : Request). may_wait now r.ask) rs ≡ true → Quiet (told_by (happened.Got n) ended now) rs
all_quiet n ended now [] e h = record { untold = refl; left = refl }
all_quiet n ended now (r ∷ rs) e h =
    let hs = and_parts (may_wait now r.ask) (list_all (λ (q : Request). may_wait now q.ask) rs) h in
    let more = all_quiet n ended now rs e hs.1 in
    let none = untold n ended now r.ask e hs.0 in
    let says = told_by (happened.Got n) ended now in
    record {
      untold = ap (λ (o : Option Answer). said_to r o ++ told_to says rs) none ∙ more.untold;
      left = ap (λ (o : Option Answer). if is_none o then r ∷ left_by says rs else left_by says rs) none ∙ ap (λ (qs : List Request). r ∷ qs) more.left;
    }

-- ## The request that is answered

-- it is the first command on d that is in hand no more
pub minus_first : (d : ℕ) (hand : List Request) → are_distinct hand ≡ true → minus (first_on d hand) hand ≡ without_first (commands_on d) hand
minus_first d [] h = refl
minus_first d (r ∷ rs) h =
    let hs = and_parts (list_all (is_apart r) rs) (are_distinct rs) h in
    by_command (command_on d r.ask) hs.0 (minus_first d rs hs.1) (first_on d rs) refl
  where
    dropped : (q : Request) → is_apart r q ≡ true → minus (Some q) (r ∷ rs) ≡ r ∷ minus (Some q) rs
    dropped q a = ap (λ (b : Bool). if b then r ∷ minus (Some q) rs else minus (Some q) rs) a

    by_command : (b : Bool) → list_all (is_apart r) rs ≡ true → minus (first_on d rs) rs ≡ without_first (commands_on d) rs → (o : Option Request) → first_on d rs ≡ o
        → minus (if b then Some r else first_on d rs) (r ∷ rs) ≡ (if b then rs else r ∷ without_first (commands_on d) rs)
    by_command true a k o e = off_between r Opened [] rs refl (all_swap r rs a)
    by_command false a k None e = ap (λ (x : Option Request). minus x (r ∷ rs)) e ∙ ap (λ (qs : List Request). r ∷ qs) (ap (λ (x : Option Request). minus x rs) (sym e) ∙ k)
    by_command false a k (Some q) e =
        ap (λ (x : Option Request). minus x (r ∷ rs)) e
        ∙ (dropped q (first_passes (is_apart r) d rs q a e) ∙ ap (λ (qs : List Request). r ∷ qs) (ap (λ (x : Option Request). minus x rs) (sym e) ∙ k))
