-- Events of a script, read line by line.
use Rattle.std.specs.Prelude.{◌≡◌, ◌≢◌, ℕ, ◌+◌, ◌==◌, true, false, ◌<◌, ◌≤◌, List, [], ◌∷◌, ◌++◌, length, refl}
use Rattle.std.proofs.Common.{sym, ap, arith, ◌∙◌}
use Rattle.std.proofs.lemmas.Bool.{eqb-true, false≢true}
use Rattle.std.proofs.lemmas.List.{append_assoc, append-nil}
use Rattle.modem_desk.specs.declared.request.Request.{Request}
use Rattle.modem_core.specs.declared.event.Event.{Event}
use Rattle.modem_core.specs.declared.event.Event.TheVariants as event
use Rattle.ctl_run.specs.declared.script.Order.TheVariants as order
use Rattle.ctl_text.specs.Input.{input_lines}
use Rattle.ctl_run.specs.Script.{IsNoOrder, IsScript, Says}
use Rattle.ctl_run.specs.LineFaults.{EventFault}
use Rattle.ctl_run.proofs.inputs.ReadLines.{IsRead, read_more}

-- so many lines are read, and the events of so many requests with them
pub record AreEvents (script left : List ℕ) (events : List Event) (asked place : ℕ) : Type 0 where
  pub read : IsRead IsNoOrder EventFault script left place
  pub said : (more : List Event) → IsScript (asked + 1) (input_lines left) more → IsScript 1 (input_lines script) (events ++ more)
  pub few : asked ≤ place

-- nothing is left: these are the events of the whole script
pub all_events : (script left : List ℕ) (events : List Event) (asked place : ℕ) → AreEvents script left events asked place → left ≡ [] → IsScript 1 (input_lines script) events
all_events script left events asked place h e =
    let all : IsScript 1 (input_lines script) (events ++ []) = h.said [] (rw e tt) in
    rw (sym (append-nil events)) all

nil : (line : List ℕ) → length line ≡ 0 → line ≡ []
nil [] e = refl
nil (c ∷ line) e = cc

-- a line of no octets is empty
pub no_line : (line : List ℕ) → true ≡ (length line == 0) → line ≡ []
no_line line e = nil line (eqb-true (length line) 0 (sym e))

-- one of some isn't
pub some_line : (line : List ℕ) → false ≡ (length line == 0) → line ≢ []
some_line line e n = false≢true (e ∙ ap (λ (l : List ℕ). length l == 0) n)

-- an empty line
pub skipped : (script left line rest : List ℕ) (events : List Event) (asked place : ℕ) → AreEvents script left events asked place → input_lines left ≡ line ∷ input_lines rest → length rest < length left → line ≡ [] → AreEvents script rest events asked (place + 1)
skipped script left line rest events asked place h e l n = record {
  read = read_more IsNoOrder EventFault script left line rest place h.read e l (λ b. b.0 n);
  said = λ more i. h.said more (rw (e, n) i);
  few = let f = h.few in omega (arith, f);
}

says_asked : (line : List ℕ) (lines : List (List ℕ)) (q : Request) (events : List Event) (n : ℕ) → line ≢ [] → Says line (order.Ask q.ask) → q.caller ≡ 0 → q.number ≡ n → IsScript (n + 1) lines events → IsScript n (line ∷ lines) (event.Ask q ∷ events)
says_asked [] lines q events n f s c m h = absurd (f refl)
says_asked (x ∷ line) lines q events n f s c m h = (s, c, m, h)

says_octets : (line : List ℕ) (lines : List (List ℕ)) (x : List ℕ) (events : List Event) (n : ℕ) → line ≢ [] → Says line (order.Octets x) → IsScript n lines events → IsScript n (line ∷ lines) (event.Octets x ∷ events)
says_octets [] lines x events n f s h = absurd (f refl)
says_octets (c ∷ line) lines x events n f s h = (s, h)

says_tick : (line : List ℕ) (lines : List (List ℕ)) (events : List Event) (n : ℕ) → line ≢ [] → Says line order.Tick → IsScript n lines events → IsScript n (line ∷ lines) (event.Tick ∷ events)
says_tick [] lines events n f s h = absurd (f refl)
says_tick (c ∷ line) lines events n f s h = (s, h)

says_lost : (line : List ℕ) (lines : List (List ℕ)) (events : List Event) (n : ℕ) → line ≢ [] → Says line order.Lost → IsScript n lines events → IsScript n (line ∷ lines) (event.Lost ∷ events)
says_lost [] lines events n f s h = absurd (f refl)
says_lost (c ∷ line) lines events n f s h = (s, h)

-- a line with a request
pub asked_next : (script left line rest : List ℕ) (events later : List Event) (asked place : ℕ) (q : Request) → AreEvents script left events asked place → input_lines left ≡ line ∷ input_lines rest → length rest < length left → line ≢ [] → Says line (order.Ask q.ask) → q.caller ≡ 0 → q.number ≡ asked + 1 → later ≡ events ++ event.Ask q ∷ [] → AreEvents script rest later (asked + 1) (place + 1)
asked_next script left line rest events later asked place q h e l f s c m n = record {
  read = read_more IsNoOrder EventFault script left line rest place h.read e l (λ b. b.1 (order.Ask q.ask) s);
  said = λ more i.
      rw (n, append_assoc events (event.Ask q ∷ []) more)
      (h.said (event.Ask q ∷ more) (rw e (says_asked line (input_lines rest) q more (asked + 1) f s c m i)));
  few = let g = h.few in omega (arith, g);
}

-- a line with octets
pub heard_next : (script left line rest : List ℕ) (events later : List Event) (asked place : ℕ) (x : List ℕ) → AreEvents script left events asked place → input_lines left ≡ line ∷ input_lines rest → length rest < length left → line ≢ [] → Says line (order.Octets x) → later ≡ events ++ event.Octets x ∷ [] → AreEvents script rest later asked (place + 1)
heard_next script left line rest events later asked place x h e l f s n = record {
  read = read_more IsNoOrder EventFault script left line rest place h.read e l (λ b. b.1 (order.Octets x) s);
  said = λ more i.
      rw (n, append_assoc events (event.Octets x ∷ []) more)
      (h.said (event.Octets x ∷ more) (rw e (says_octets line (input_lines rest) x more (asked + 1) f s i)));
  few = let g = h.few in omega (arith, g);
}

-- a tick
pub ticked_next : (script left line rest : List ℕ) (events later : List Event) (asked place : ℕ) → AreEvents script left events asked place → input_lines left ≡ line ∷ input_lines rest → length rest < length left → line ≢ [] → Says line order.Tick → later ≡ events ++ event.Tick ∷ [] → AreEvents script rest later asked (place + 1)
ticked_next script left line rest events later asked place h e l f s n = record {
  read = read_more IsNoOrder EventFault script left line rest place h.read e l (λ b. b.1 order.Tick s);
  said = λ more i.
      rw (n, append_assoc events (event.Tick ∷ []) more)
      (h.said (event.Tick ∷ more) (rw e (says_tick line (input_lines rest) more (asked + 1) f s i)));
  few = let g = h.few in omega (arith, g);
}

-- a loss
pub lost_next : (script left line rest : List ℕ) (events later : List Event) (asked place : ℕ) → AreEvents script left events asked place → input_lines left ≡ line ∷ input_lines rest → length rest < length left → line ≢ [] → Says line order.Lost → later ≡ events ++ event.Lost ∷ [] → AreEvents script rest later asked (place + 1)
lost_next script left line rest events later asked place h e l f s n = record {
  read = read_more IsNoOrder EventFault script left line rest place h.read e l (λ b. b.1 order.Lost s);
  said = λ more i.
      rw (n, append_assoc events (event.Lost ∷ []) more)
      (h.said (event.Lost ∷ more) (rw e (says_lost line (input_lines rest) more (asked + 1) f s i)));
  few = let g = h.few in omega (arith, g);
}
