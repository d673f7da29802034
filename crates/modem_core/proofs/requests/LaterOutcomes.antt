-- What the requests in hand are told is what the history calls for.
use Rattle.std.specs.Prelude.{◌≡◌, ℕ, ◌<◌, ◌&&◌, not, Bool, true, false, List, [], ◌∷◌, ◌++◌, map, filter_map, refl, Option, Some, None, option_map, if◌then◌else◌}
use Rattle.std.specs.List.{cons_option}
use Rattle.std.proofs.Common.{ap, ◌∙◌, arith}
use Rattle.mux_station.specs.declared.role.ChannelState.{ChannelState}
use Rattle.mux_station.specs.States.{State, IsShut, IsOpening, IsOpened, IsClosing, IsStopping, is_opened, is_stopping}
use Rattle.mux_station.specs.Stages.{as_shown}
use Rattle.modem_desk.specs.declared.request.Ask.{Ask}
use Rattle.modem_desk.specs.declared.request.Ask.TheVariants.{OpenChannel, CloseChannel, Command, Probe, Stop}
use Rattle.modem_desk.specs.declared.request.Request.{Request}
use Rattle.modem_desk.specs.declared.request.Answer.{Answer}
use Rattle.modem_desk.specs.declared.request.Answer.TheVariants.{Shut, Refused, Closed}
use Rattle.modem_history.specs.Acts.{Act, act_of, told}
use Rattle.modem_history.specs.Calls.{HistoryView, cause, open_later, close_later, probe_later, stop_ended, later, told_later}
use Rattle.modem_history.specs.declared.act.Act as code
use Rattle.modem_core.specs.declared.telling.Happened.{Happened}
use Rattle.modem_core.specs.Telling as telling
use Rattle.modem_core.specs.Telling.{why_shut, open_told, close_told, command_told, probe_told, probe_happened, stop_told, told_by, said_to, told_to}

-- ## States as they are shown

open_shown : (s : State) (why : Answer) → open_later s why ≡ open_told (as_shown s) why
open_shown IsShut why = refl
open_shown (IsOpening n) why = refl
open_shown IsOpened why = refl
open_shown (IsClosing n) why = refl
open_shown (IsStopping n) why = refl

close_shown : (s : State) (why : Answer) → close_later s why ≡ close_told (as_shown s) why
close_shown IsShut why = refl
close_shown (IsOpening n) why = refl
close_shown IsOpened why = refl
close_shown (IsClosing n) why = refl
close_shown (IsStopping n) why = refl

command_shown : (s : State) (why : Answer) → (if is_opened s then None else Some why) ≡ command_told (as_shown s) why
command_shown IsShut why = refl
command_shown (IsOpening n) why = refl
command_shown IsOpened why = refl
command_shown (IsClosing n) why = refl
command_shown (IsStopping n) why = refl

probe_shown : (s : State) (h : Happened) (why : Answer) → (if is_opened s then probe_happened h else Some why) ≡ probe_told (as_shown s) h why
probe_shown IsShut h why = refl
probe_shown (IsOpening n) h why = refl
probe_shown IsOpened h why = refl
probe_shown (IsClosing n) h why = refl
probe_shown (IsStopping n) h why = refl

stop_shown : (s : State) (h : Happened) → (if is_stopping s then None else Some (telling.stop_outcome h)) ≡ stop_told (as_shown s) h
stop_shown IsShut h = refl
stop_shown (IsOpening n) h = refl
stop_shown IsOpened h = refl
stop_shown (IsClosing n) h = refl
stop_shown (IsStopping n) h = refl

-- ## One request

-- 0 was Opened before and isn't any more
abbrev pub has_ended : HistoryView → (ℕ → State) → Bool
has_ended v now = is_opened (v.state 0) && not (is_opened (now 0))

-- the core's words for what happened say what the act says
pub record Says (v : HistoryView) (now : ℕ → State) (a : Act) (h : Happened) : Type 0 where
  pub cause_is : (why : Answer) → cause v now a why ≡ why_shut h (has_ended v now) why
  pub stop_is : stop_ended a ≡ telling.stop_outcome h

-- where the words for what happened fit, and the probe is told so too, a request is told what the history calls for
pub later_is : (v : HistoryView) (now : ℕ → State) (a : Act) (h : Happened) (shown : ℕ → ChannelState) → Says v now a h → ((d : ℕ) → d < 62 → as_shown (now d) ≡ shown d)
    → (r : Request) (ask : Ask) → ((octets : List ℕ) → probe_later r octets v a ≡ probe_happened h) → later v now a r ask ≡ told_by h (has_ended v now) shown ask
later_is v now a h shown s e r (OpenChannel d) p =
    ap (open_later (now d.number)) (s.cause_is Refused) ∙ (open_shown (now d.number) _ ∙ ap (λ (c : ChannelState). open_told c (why_shut h (has_ended v now) Refused)) (e d.number d.in_range))
later_is v now a h shown s e r (CloseChannel d) p =
    ap (close_later (now d.number)) (s.cause_is Shut) ∙ (close_shown (now d.number) _ ∙ ap (λ (c : ChannelState). close_told c (why_shut h (has_ended v now) Shut)) (e d.number d.in_range))
later_is v now a h shown s e r (Command d line) p =
    ap (λ (w : Answer). if is_opened (now d.number) then None else Some w) (s.cause_is Closed) ∙ (command_shown (now d.number) _ ∙ ap (λ (c : ChannelState). command_told c (why_shut h (has_ended v now) Closed)) (e d.number d.in_range))
later_is v now a h shown s e r (Probe octets) p =
    ap (λ (w : Option Answer). if is_opened (now 0) then w else Some (cause v now a Closed)) (p octets)
    ∙ (ap (λ (w : Answer). if is_opened (now 0) then probe_happened h else Some w) (s.cause_is Closed)
    ∙ (probe_shown (now 0) h _ ∙ ap (λ (c : ChannelState). probe_told c h (why_shut h (has_ended v now) Closed)) (e 0 (omega arith))))
later_is v now a h shown s e r Stop p =
    ap (λ (w : Answer). if is_stopping (now 0) then None else Some w) s.stop_is ∙ (stop_shown (now 0) h ∙ ap (λ (c : ChannelState). stop_told c h) (e 0 (omega arith)))

-- where a probe is told what the act says of its octets
pub later_where : (v : HistoryView) (now : ℕ → State) (a : Act) (h : Happened) (shown : ℕ → ChannelState) → Says v now a h → ((d : ℕ) → d < 62 → as_shown (now d) ≡ shown d)
    → (r : Request) (ask : Ask) → ((octets : List ℕ) → ask ≡ Probe octets → is_opened (now 0) ≡ true → probe_later r octets v a ≡ probe_happened h) → later v now a r ask ≡ told_by h (has_ended v now) shown ask
later_where v now a h shown s e r (OpenChannel d) p =
    ap (open_later (now d.number)) (s.cause_is Refused) ∙ (open_shown (now d.number) _ ∙ ap (λ (c : ChannelState). open_told c (why_shut h (has_ended v now) Refused)) (e d.number d.in_range))
later_where v now a h shown s e r (CloseChannel d) p =
    ap (close_later (now d.number)) (s.cause_is Shut) ∙ (close_shown (now d.number) _ ∙ ap (λ (c : ChannelState). close_told c (why_shut h (has_ended v now) Shut)) (e d.number d.in_range))
later_where v now a h shown s e r (Command d line) p =
    ap (λ (w : Answer). if is_opened (now d.number) then None else Some w) (s.cause_is Closed) ∙ (command_shown (now d.number) _ ∙ ap (λ (c : ChannelState). command_told c (why_shut h (has_ended v now) Closed)) (e d.number d.in_range))
later_where v now a h shown s e r (Probe octets) p =
    while_opened (is_opened (now 0)) (probe_later r octets v a) (probe_happened h) (Some (cause v now a Closed)) (p octets refl)
    ∙ (ap (λ (w : Answer). if is_opened (now 0) then probe_happened h else Some w) (s.cause_is Closed)
    ∙ (probe_shown (now 0) h _ ∙ ap (λ (c : ChannelState). probe_told c h (why_shut h (has_ended v now) Closed)) (e 0 (omega arith))))
  where
    while_opened : (b : Bool) (x y z : Option Answer) → (b ≡ true → x ≡ y) → (if b then x else z) ≡ (if b then y else z)
    while_opened true x y z k = k refl
    while_opened false x y z k = refl
later_where v now a h shown s e r Stop p =
    ap (λ (w : Option Answer). if is_stopping (now 0) then None else w) (ap (λ (w : Answer). Some w) s.stop_is) ∙ (stop_shown (now 0) h ∙ ap (λ (c : ChannelState). stop_told c h) (e 0 (omega arith)))

-- ## All

one_told : (r : Request) (o : Option Answer) (rest : List Act) (more : List code.Act) → rest ≡ map act_of more → cons_option (option_map (told r) o) rest ≡ map act_of (said_to r o ++ more)
one_told r None rest more h = h
one_told r (Some answer) rest more h = ap (λ (v : List Act). told r answer ∷ v) h

-- each of them is told what the act calls for
abbrev pub AllSay : HistoryView → (ℕ → State) → Act → (Ask → Option Answer) → List Request → Type 0
AllSay v now a says [] = Unit {0}
AllSay v now a says (r ∷ rs) = (later v now a r r.ask ≡ says r.ask) × AllSay v now a says rs

-- so what the history calls for are the outcomes that they are told
pub tolds_are : (v : HistoryView) (now : ℕ → State) (a : Act) (says : Ask → Option Answer) (rs : List Request) → AllSay v now a says rs → filter_map (told_later v now a) rs ≡ map act_of (told_to says rs)
tolds_are v now a says [] h = refl
tolds_are v now a says (r ∷ rs) h =
    ap (λ (o : Option Answer). cons_option (option_map (told r) o) (filter_map (told_later v now a) rs)) h.0
    ∙ one_told r (says r.ask) (filter_map (told_later v now a) rs) (told_to says rs) (tolds_are v now a says rs h.1)

-- where no probe is told anything of its own
pub all_say : (v : HistoryView) (now : ℕ → State) (a : Act) (h : Happened) (shown : ℕ → ChannelState) → Says v now a h → ((d : ℕ) → d < 62 → as_shown (now d) ≡ shown d)
    → ((r : Request) (octets : List ℕ) → probe_later r octets v a ≡ probe_happened h) → (rs : List Request) → AllSay v now a (told_by h (has_ended v now) shown) rs
all_say v now a h shown s e p [] = tt
all_say v now a h shown s e p (r ∷ rs) = (later_is v now a h shown s e r r.ask (p r), all_say v now a h shown s e p rs)
