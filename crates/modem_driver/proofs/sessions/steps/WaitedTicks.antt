-- What is kept of how long commands have waited is what the history says.
use Rattle.std.proofs.Common.{ap, sym, ◌∙◌, subst, arith, inl, inr}
use Rattle.std.proofs.lemmas.Bool.{and_parts, cases_eq, eqb-true}
use Rattle.std.proofs.lemmas.List.{get_or-replicate, get_or-set_same, get_or-set_other, length-set}
use Rattle.std.specs.Prelude.{◌≡◌, ◌≢◌, ◌⊎◌, ℕ, ◌+◌, ◌<◌, ◌==◌, Bool, true, false, List, [], ◌∷◌, refl, replicate, Option, None, Some, option_map, if◌then◌else◌, length, slice_set}
use Rattle.std.specs.List.{list_all}
use Rattle.modem_desk.specs.declared.request.Request.{Request}
use Rattle.modem_history.specs.Acts.{Act, Took, Got, Sent, Told, Heard, Tick, Lost, Held, Freed, Given, after, in_hand}
use Rattle.modem_history.specs.Wholes.{is_said}
use Rattle.modem_history.proofs.calls.CalledActs.{Saids}
use Rattle.modem_core.specs.Holding.{flow_act}
use Rattle.modem_desk.specs.Ends.{DriverView}
use Rattle.modem_history.specs.Sessions.{Beginning, LineView}
use Rattle.modem_driver.specs.Endpoints.{EndpointFits, EndpointState}
use Rattle.modem_driver.specs.SessionStates.{FitsAll, Machine, SessionState}
use Rattle.serial_line.specs.Counts.{one_more}
use Rattle.modem_driver.specs.WaitingTicks.{AreDelays, CountsTick, delay_after, delay_at, first_command, is_first, is_same, ticks_kept, ticks_shown, ticks_waited, waiting_ticks}
use Rattle.modem_queues.specs.declared.asker.Asker.{Asker}
use Rattle.modem_driver.specs.declared.machine.delays.Delay.{Delay}

out : {P : Type 0} → false ≡ true → P
out e = cc

-- what is said in a call is no tick
pub ticks_after : (more past : List Act) → Saids more → (d : ℕ) (who : Asker) → ticks_waited d who (after past more) ≡ ticks_waited d who past
ticks_after [] past h d who = refl
ticks_after (Told o ∷ more) past h d who = ticks_after more (Told o ∷ past) h d who
ticks_after (Sent f ∷ more) past h d who = ticks_after more (Sent f ∷ past) (and_parts (is_said (Sent f)) (list_all is_said more) h).1 d who
ticks_after (Heard k n line ∷ more) past h d who = ticks_after more (Heard k n line ∷ past) h d who
ticks_after (Took r ∷ more) past h d who = out h
ticks_after (Got f ∷ more) past h d who = out h
ticks_after (Tick ∷ more) past h d who = out h
ticks_after (Lost ∷ more) past h d who = out h
ticks_after (Held n ∷ more) past h d who = out h
ticks_after (Freed n ∷ more) past h d who = out h
ticks_after (Given ∷ more) past h d who = out h

-- so what is kept stays right
pub delays_after : (delays : List (Option Delay)) (more past : List Act) → Saids more → AreDelays delays past → AreDelays delays (after past more)
delays_after delays more past said are d small who = are d small who ∙ sym (ticks_after more past said d who)

-- nor is it a tick that a connection is held or freed
pub delays_flow : (delays : List (Option Delay)) (n : ℕ) (go : Bool) (past : List Act) → AreDelays delays past → AreDelays delays (flow_act n go ∷ past)
delays_flow delays n true past are = are
delays_flow delays n false past are = are

-- ## A tick

asker : ℕ → ℕ → Asker
asker c n = record { caller = c; number = n }

same_asker : (who other : Asker) → is_same who other ≡ true → who ≡ other
unfolding asker
same_asker who other h =
    let parts = and_parts (who.caller == other.caller) (who.number == other.number) h in
    ap (λ (c : ℕ). asker c who.number) (eqb-true who.caller other.caller parts.0) ∙ ap (asker other.caller) (eqb-true who.number other.number parts.1)

counted_so : (delay : Option Delay) (first : Option Asker) (who : Asker) → ticks_kept (delay_after delay first) who ≡ (if is_first who first then one_more (ticks_kept delay who) else 0)
counted_so delay None who = refl
counted_so delay (Some x) who = by_test (is_same who x) refl
  where
    by_test : (c : Bool) → is_same who x ≡ c → (if c then one_more (ticks_kept delay x) else 0) ≡ (if c then one_more (ticks_kept delay who) else 0)
    by_test true h = ap (λ (y : Asker). one_more (ticks_kept delay y)) (sym (same_asker who x h))
    by_test false h = refl

-- what is counted at a tick is right after it
pub delays_tick : (old new : List (Option Delay)) (hand : List Request) (past : List Act) → in_hand past ≡ hand → CountsTick old new hand → AreDelays old past → AreDelays new (Tick ∷ past)
delays_tick old new hand past is counts are d small who =
    ap (λ (e : Option Delay). ticks_kept e who) (counts d small)
    ∙ (counted_so (delay_at old d) (first_command d hand) who
    ∙ (ap (λ (n : ℕ). if is_first who (first_command d hand) then one_more n else 0) (are d small who)
    ∙ ap (λ (qs : List Request). if is_first who (first_command d qs) then one_more (ticks_waited d who past) else 0) (sym is)))

-- the connections below a number are counted
pub record CountedSo (old now : List (Option Delay)) (hand : List Request) (n : ℕ) : Type 0 where
  pub long : length now ≡ 62
  pub below : (d : ℕ) → d < n → delay_at now d ≡ delay_after (delay_at old d) (first_command d hand)

-- at first none is counted
pub counted_none : (old : List (Option Delay)) (hand : List Request) → length old ≡ 62 → CountedSo old old hand 0
counted_none old hand long = record { long = long; below = λ d small. absurd (none d small) }
  where
    none : (d : ℕ) → d < 0 → ⊥
    none d small = omega (arith, small)

-- one connection more is counted
pub counted_more : (old now : List (Option Delay)) (hand : List Request) (n : ℕ) (delay : Option Delay) → n < 62 → delay ≡ delay_after (delay_at old n) (first_command n hand)
    → CountedSo old now hand n → CountedSo old (slice_set now n delay) hand (n + 1)
counted_more old now hand n delay small is so = record {
  long = length-set now n delay ∙ so.long;
  below = λ d le. by_place d le (cases_eq d n);
}
  where
    by_place : (d : ℕ) → d < n + 1 → (d ≡ n) ⊎ (d ≢ n) → delay_at (slice_set now n delay) d ≡ delay_after (delay_at old d) (first_command d hand)
    by_place d le (inl e) = subst (λ (m : ℕ). delay_at (slice_set now n delay) m ≡ delay_after (delay_at old m) (first_command m hand)) (sym e)
        (get_or-set_same now n delay None (subst (λ (m : ℕ). n < m) (sym so.long) small) ∙ is)
    by_place d le (inr ne) = get_or-set_other now n d delay None ne ∙ so.below d (omega arith)

-- ## The beginning

-- before the first tick no command has waited
pub delays_none : AreDelays (replicate 62 None) []
delays_none d small who = ap (λ (e : Option Delay). ticks_kept e who) (get_or-replicate 62 d None None small)

-- ## What is answered

-- the ticks that are answered for a connection are those of the history
pub shown_so : (k : Machine) (past : List Act) → AreDelays k.delays past → in_hand past ≡ k.core.hand → (d : ℕ) → d < 62 → ticks_shown k.delays k.core.hand d ≡ waiting_ticks d past
shown_so k past are is d small =
    each (first_command d k.core.hand) ∙ ap (λ (qs : List Request). option_map (λ who. ticks_waited d who past) (first_command d qs)) (sym is)
  where
    each : (o : Option Asker) → option_map (ticks_kept (delay_at k.delays d)) o ≡ option_map (λ who. ticks_waited d who past) o
    each None = refl
    each (Some who) = ap (λ (n : ℕ). Some n) (are d small who)

-- so they are of a session
pub session_shows : {X : Type 0} (look : X → LineView) (s : SessionState X) (d : ℕ) (says : Option ℕ) → d < 62 → says ≡ ticks_shown s.machine.delays s.machine.core.hand d
    → (b : Beginning) (past : List Act) → FitsAll b look s past → says ≡ waiting_ticks d past
session_shows look s d says small is b past f = is ∙ shown_so s.machine past f.inside.delays_are f.inside.fits.hand_is d small

-- and of an endpoint
pub endpoint_shows : (e : EndpointState) (n : ℕ) (says : Option ℕ) → n < 62 → says ≡ ticks_shown e.machine.delays e.machine.core.hand n
    → (b : Beginning) (l : LineView) (d : DriverView) (past : List Act) → EndpointFits b l d e past → says ≡ waiting_ticks n past
endpoint_shows e n says small is b l d past f = is ∙ shown_so e.machine past f.stands.inside.delays_are f.stands.inside.fits.hand_is n small
