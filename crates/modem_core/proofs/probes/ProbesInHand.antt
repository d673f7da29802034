-- Of the requests in hand one at most is a probe.
use Rattle.std.specs.Prelude.{◌≡◌, ℕ, ◌+◌, ◌≤◌, ◌||◌, not, nat_le, Bool, true, false, List, [], ◌∷◌, ◌++◌, length, filter, drop, refl, Option, Some, None, if◌then◌else◌}
use Rattle.std.specs.List.{list_all}
use Rattle.std.proofs.Common.{ap, sym, ◌∙◌, subst, arith}
use Rattle.std.proofs.lemmas.Bool.{and_parts}
use Rattle.mux_frame.specs.Frames.{Frame}
use Rattle.mux_station.specs.Written.{is_data_frame}
use Rattle.mux_station.specs.States.{is_opened}
use Rattle.modem_desk.specs.declared.request.Ask.{Ask}
use Rattle.modem_desk.specs.declared.request.Ask.TheVariants.{OpenChannel, CloseChannel, Command, Probe, Stop}
use Rattle.modem_desk.specs.declared.request.Request.{Request}
use Rattle.modem_desk.specs.declared.request.Answer.{Answer}
use Rattle.modem_desk.specs.declared.request.Answer.TheVariants.{NotOpen, LineLost, Busy}
use Rattle.modem_history.specs.Acts.{Act, Took, Got, Sent, Told, Heard, Tick, Lost, Held, Freed, Given, is_for, after, in_hand}
use Rattle.modem_history.specs.Calls.{Setting, seen, asks_probe, probe_waits, calls, calls_behind, at_once, refused_ask, asking, all_have_room}
use Rattle.modem_history.specs.Lawful.{Lawful, Gated, IsNext, When, Complete, owed, unsent}
use Rattle.modem_history.specs.Wholes.{taken_requests, is_said, CompleteCalls}
use Rattle.modem_core.specs.Cores.{IsRun}
use Rattle.modem_history.proofs.calls.CalledActs.{calls_said}
use Rattle.modem_history.proofs.calls.CallEnds.{ended}
use Rattle.modem_history.proofs.requests.CommandsInStep.{left_in}
use Rattle.modem_history.proofs.requests.StepOfRequest.{if_none, took_hand}
use Rattle.modem_history.proofs.requests.StepsOfHistory.{Few, few_once, few_hand, few_before, distinct_few}

-- how many there are
unfoldable pub probes_in : List Request → ℕ
probes_in [] = 0
probes_in (r ∷ rs) = (if asks_probe r.ask then 1 else 0) + probes_in rs

probes_both : (xs ys : List Request) → probes_in (xs ++ ys) ≡ probes_in xs + probes_in ys
unfolding probes_in
probes_both [] ys = omega arith
probes_both (x ∷ xs) ys = let h = probes_both xs ys in omega (arith, h)

probes_filter : (test : Request → Bool) (xs : List Request) → probes_in (filter test xs) ≤ probes_in xs
unfolding probes_in
probes_filter test [] = omega arith
probes_filter test (x ∷ xs) = by_test (test x) (probes_filter test xs)
  where
    by_test : (b : Bool) → probes_in (filter test xs) ≤ probes_in xs → probes_in (if b then x ∷ filter test xs else filter test xs) ≤ (if asks_probe x.ask then 1 else 0) + probes_in xs
    by_test true h = omega (arith, h)
    by_test false h = omega (arith, h)

none_waits : (rs : List Request) → probe_waits rs ≡ false → probes_in rs ≡ 0
unfolding probes_in
none_waits [] h = refl
none_waits (r ∷ rs) h = by_test (asks_probe r.ask) h (none_waits rs)
  where
    by_test : (b : Bool) → (b || probe_waits rs) ≡ false → (probe_waits rs ≡ false → probes_in rs ≡ 0) → (if b then 1 else 0) + probes_in rs ≡ 0
    by_test true k more = cc
    by_test false k more = let m = more k in omega (arith, m)

-- what is called for adds none
said_few : (acts past : List Act) → list_all is_said acts ≡ true → probes_in (in_hand (after past acts)) ≤ probes_in (in_hand past)
said_few [] past h = omega arith
said_few (Sent f ∷ acts) past h = said_few acts (Sent f ∷ past) (and_parts (is_said (Sent f)) (list_all is_said acts) h).1
said_few (Told o ∷ acts) past h = let a = said_few acts (Told o ∷ past) h in let b = probes_filter (λ (r : Request). not (is_for r o)) (in_hand past) in omega (arith, a, b)
said_few (Heard k d line ∷ acts) past h = said_few acts (Heard k d line ∷ past) h
said_few (Took q ∷ acts) past h = absurd (let e : false ≡ true = h in cc)
said_few (Got f ∷ acts) past h = absurd (let e : false ≡ true = h in cc)
said_few (Tick ∷ acts) past h = absurd (let e : false ≡ true = h in cc)
said_few (Lost ∷ acts) past h = absurd (let e : false ≡ true = h in cc)
said_few (Held d ∷ acts) past h = absurd (let e : false ≡ true = h in cc)
said_few (Freed d ∷ acts) past h = absurd (let e : false ≡ true = h in cc)
said_few (Given ∷ acts) past h = absurd (let e : false ≡ true = h in cc)

call_few : (s : Setting) (past : List Act) (a : Act) → probes_in (in_hand (ended s past a)) ≤ probes_in (in_hand (a ∷ past))
call_few s past a = said_few (calls s past a) (a ∷ past) (calls_said s (seen s past) a)

-- a probe that isn't told at once is alone
alone_by : (lost full running waits room : Bool) → (if lost then Some LineLost else (if full then Some Busy else (if not running then Some NotOpen else (if waits || not room then Some Busy else None)))) ≡ None → waits ≡ false
alone_by true full running waits room h = cc
alone_by false true running waits room h = cc
alone_by false false false waits room h = cc
alone_by false false true true room h = cc
alone_by false false true false room h = refl

alone : (s : Setting) (past : List Act) (q : Request) (ask : Ask) → q.ask ≡ ask → asks_probe ask ≡ true → at_once s (seen s past) q ≡ None → probe_waits (in_hand past) ≡ false
alone s past q (Probe octets) e k h =
    let v = seen s past in
    alone_by v.lost (nat_le 128 (length v.hand)) (is_opened (v.state 0)) (probe_waits (in_hand past)) (all_have_room s v (asking s.role (Probe octets)))
    (ap (λ (x : Ask). if v.lost then Some LineLost else (if nat_le 128 (length v.hand) then Some Busy else refused_ask s v x)) (sym e) ∙ h)
alone s past q (OpenChannel d) e k h = cc
alone s past q (CloseChannel d) e k h = cc
alone s past q (Command d line) e k h = cc
alone s past q Stop e k h = cc

took_few : (s : Setting) (past : List Act) (q : Request) → in_hand (ended s past (Took q)) ≡ left_in s past (Took q) ++ if_none (at_once s (seen s past) q) q → probes_in (in_hand past) ≤ 1 → probes_in (in_hand (ended s past (Took q))) ≤ 1
unfolding probes_in
took_few s past q h few = by_once (at_once s (seen s past) q) refl (asks_probe q.ask) refl
  where
    left : probes_in (left_in s past (Took q)) ≤ probes_in (in_hand past)
    left = probes_filter _ (in_hand past)

    by_once : (o : Option Answer) → at_once s (seen s past) q ≡ o → (b : Bool) → asks_probe q.ask ≡ b → probes_in (in_hand (ended s past (Took q))) ≤ 1
    by_once (Some why) e b k =
        let hand : in_hand (ended s past (Took q)) ≡ left_in s past (Took q) ++ [] = h ∙ ap (λ (o : Option Answer). left_in s past (Took q) ++ if_none o q) e in
        let size = ap probes_in hand ∙ probes_both (left_in s past (Took q)) [] in
        let l = left in
        omega (arith, size, l, few)
    by_once None e false k =
        let hand : in_hand (ended s past (Took q)) ≡ left_in s past (Took q) ++ q ∷ [] = h ∙ ap (λ (o : Option Answer). left_in s past (Took q) ++ if_none o q) e in
        let size = ap probes_in hand ∙ probes_both (left_in s past (Took q)) (q ∷ []) in
        let one : probes_in (q ∷ []) ≡ 0 = ap (λ (b : Bool). (if b then 1 else 0) + 0) k in
        let l = left in
        omega (arith, size, one, l, few)
    by_once None e true k =
        let hand : in_hand (ended s past (Took q)) ≡ left_in s past (Took q) ++ q ∷ [] = h ∙ ap (λ (o : Option Answer). left_in s past (Took q) ++ if_none o q) e in
        let size = ap probes_in hand ∙ probes_both (left_in s past (Took q)) (q ∷ []) in
        let one : probes_in (q ∷ []) ≡ 1 = ap (λ (b : Bool). (if b then 1 else 0) + 0) k in
        let none = none_waits (in_hand past) (alone s past q q.ask refl k e) in
        let l = left in
        omega (arith, size, one, l, none)

-- ## Whole histories

OneIn : List Act → List Act → Type 0
OneIn past acts = probes_in (in_hand (after past acts)) ≤ 1

paid : (s : Setting) (past : List Act) (a : Act) → IsNext (owed s past) a → OneIn past (owed s past) → OneIn (a ∷ past) (drop 1 (owed s past))
unfolding OneIn
paid s past a n k =
    let rest : drop 1 (owed s past) ≡ n.later = ap (drop 1) n.is_next in
    subst (λ (acts : List Act). OneIn (a ∷ past) acts) (sym rest) (subst (λ (acts : List Act). OneIn past acts) n.is_next k)

called : (s : Setting) (past : List Act) (a : Act) → owed s past ≡ [] → probes_in (in_hand (ended s past a)) ≤ 1 → OneIn (a ∷ past) (owed s past ++ calls_behind s past (owed s past) a)
unfolding OneIn
called s past a e k = subst (λ (owing : List Act). OneIn (a ∷ past) (owing ++ calls_behind s past owing a)) (sym e) k

here : (s : Setting) (past : List Act) → owed s past ≡ [] → OneIn past (owed s past) → probes_in (in_hand past) ≤ 1
unfolding OneIn
here s past e k = subst (λ (acts : List Act). OneIn past acts) e k

one_sent : (s : Setting) (past : List Act) (f : Frame) (b : Bool) → When b (Gated s past (owed s past) f) → When (not b) (IsNext (owed s past) (Sent f)) → OneIn past (owed s past)
    → OneIn (Sent f ∷ past) (if b then owed s past else drop 1 (owed s past))
unfolding OneIn
one_sent s past f true g n k = let none : owed s past ≡ [] = g.behind in subst (λ (acts : List Act). OneIn (Sent f ∷ past) acts) (sym none) (here s past none k)
one_sent s past f false g n k = paid s past (Sent f) n k

one_all : (s : Setting) (past : List Act) → Lawful s past → CompleteCalls s past → Few (taken_requests past) → OneIn past (owed s past)
unfolding Lawful OneIn probes_in
one_all s [] l c u = omega arith
one_all s (Sent f ∷ past) l c u = one_sent s past f (is_data_frame f) l.0.gated l.0.controlled (one_all s past l.1 c.1 u)
one_all s (Told o ∷ past) l c u = paid s past (Told o) l.0.answered (one_all s past l.1 c.1 u)
one_all s (Heard k d line ∷ past) l c u = paid s past (Heard k d line) l.0.heard (one_all s past l.1 c.1 u)
one_all s (Given ∷ past) l c u =
    let none = c.0 refl in
    subst (λ (acts : List Act). OneIn (Given ∷ past) acts) (sym none) (here s past none (one_all s past l.1 c.1 u))
one_all s (Took q ∷ past) l c u =
    let none = c.0 refl in
    let before = here s past none (one_all s past l.1 c.1 (few_before past q u)) in
    called s past (Took q) none (took_few s past q (took_hand s past q (distinct_few (in_hand (Took q ∷ past)) (few_hand (Took q ∷ past) u))) before)
one_all s (Got f ∷ past) l c u =
    let none = c.0 refl in let a = call_few s past (Got f) in let b = here s past none (one_all s past l.1 c.1 u) in called s past (Got f) none (omega (arith, a, b))
one_all s (Tick ∷ past) l c u =
    let none = c.0 refl in let a = call_few s past Tick in let b = here s past none (one_all s past l.1 c.1 u) in called s past Tick none (omega (arith, a, b))
one_all s (Held d ∷ past) l c u =
    let none = c.0 refl in let a = call_few s past (Held d) in let b = here s past none (one_all s past l.1 c.1 u) in called s past (Held d) none (omega (arith, a, b))
one_all s (Freed d ∷ past) l c u =
    let none = c.0 refl in let a = call_few s past (Freed d) in let b = here s past none (one_all s past l.1 c.1 u) in called s past (Freed d) none (omega (arith, a, b))
one_all s (Lost ∷ past) l c u =
    let none = c.0 refl in
    let a = call_few s past Lost in
    let b = here s past none (one_all s past l.1 c.1 u) in
    let k : probes_in (in_hand (ended s past Lost)) ≤ 1 = omega (arith, a, b) in
    subst (λ (owing : List Act). OneIn (Lost ∷ past) (unsent owing ++ calls_behind s past owing Lost)) (sym none) k

-- after each history of whole calls there is one at most
pub few_in_hand : (s : Setting) (past : List Act) → IsRun s past → probes_in (in_hand past) ≤ 1
unfolding Complete
few_in_hand s past r = here s past r.complete (one_all s past r.lawful r.whole (few_once (taken_requests past) r.numbers))

-- behind a probe there is none
pub first_alone : (octets : List ℕ) (r : Request) (rs : List Request) → r.ask ≡ Probe octets → probes_in (r ∷ rs) ≤ 1 → probes_in rs ≡ 0
unfolding probes_in
first_alone octets r rs e h = let one = ap {B = ℕ} (λ (x : Ask). if asks_probe x then 1 else 0) e in omega (arith, h, one)

-- without the first request there are no more
pub rest_few : (r : Request) (rs : List Request) (n : ℕ) → probes_in (r ∷ rs) ≤ n → probes_in rs ≤ n
unfolding probes_in
rest_few r rs n h = omega (arith, h)

-- where there is none, the first is none
pub no_probe : (octets : List ℕ) (r : Request) (rs : List Request) → r.ask ≡ Probe octets → probes_in (r ∷ rs) ≡ 0 → ⊥
unfolding probes_in
no_probe octets r rs e h = let one = ap {B = ℕ} (λ (x : Ask). if asks_probe x then 1 else 0) e in omega (arith, h, one)
