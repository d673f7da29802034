-- A request is taken, and the commands stay in step.
use Rattle.std.specs.Prelude.{◌≡◌, ℕ, ◌==◌, ◌&&◌, not, nat_le, nat_lt, Bool, true, false, List, [], ◌∷◌, ◌++◌, length, map, refl, if◌then◌else◌, Option, Some, None, is_none}
use Rattle.std.proofs.Common.{ap, sym, ◌∙◌, arith, append_assoc, append-nil, eqb-true}
use Rattle.std.proofs.lemmas.Bool.Decides.{nat_tests}
use Rattle.std.proofs.lemmas.List.Elements.{filter-append}
use Rattle.mux_frame.specs.Frames.{Frame}
use Rattle.mux_station.specs.Opening.{is_open}
use Rattle.mux_station.specs.States.{is_opened}
use Rattle.modem_desk.specs.declared.request.Ask.{Ask}
use Rattle.modem_desk.specs.declared.request.Ask.TheVariants.{OpenChannel, CloseChannel, Command, Probe, Stop}
use Rattle.modem_desk.specs.declared.request.Request.{Request}
use Rattle.modem_desk.specs.declared.request.Answer.{Answer}
use Rattle.modem_desk.specs.declared.request.Answer.TheVariants.{NotOpen, ControlChannel, LineLost, Busy}
use Rattle.at_text.specs.Windows.{answered}
use Rattle.modem_history.specs.Acts.{Act, Took, Sent, after, wire, in_hand}
use Rattle.modem_history.specs.Information.{accepted, command_on}
use Rattle.modem_history.specs.Calls.{Setting, HistoryView, seen, is_lost, asking, at_once, refused_ask, said_of, tolds}
use Rattle.modem_history.specs.Requests.{are_distinct, commands_on}
use Rattle.modem_history.specs.Wholes.{commands_for, InStep}
use Rattle.modem_history.proofs.outcomes.OutcomesAndLines.{taken_off}
use Rattle.modem_history.proofs.requests.RequestsAfterCalls.{off_between, distinct_ends, commands_stay, commands_go}
use Rattle.modem_history.proofs.connections.NoSecondOpening.{took_free}
use Rattle.modem_history.proofs.calls.CallEnds.{frames_in, now_in, ended, end_of}
use Rattle.modem_history.proofs.requests.CommandsInStep.{Kept, told_off, told_off_all, left_in, seen_open, open_first, unasked_end}

-- ## Who is in hand then

-- the request, where it is told nothing; else none
abbrev pub if_none : Option Answer → Request → List Request
if_none o q = if is_none o then q ∷ [] else []

-- at the end are in hand the requests that weren't told, and the one taken where it isn't told at once
pub took_hand : (s : Setting) (past : List Act) (q : Request) → are_distinct (in_hand past ++ q ∷ []) ≡ true → in_hand (ended s past (Took q)) ≡ left_in s past (Took q) ++ if_none (at_once s (seen s past) q) q
took_hand s past q h = (end_of s past (Took q) 0).hand_is ∙ by_answer (at_once s (seen s past) q)
  where
    by_answer : (o : Option Answer)
        → taken_off (tolds (seen s past) (now_in s past (Took q)) (Took q)) (taken_off (said_of q o) (in_hand past ++ q ∷ [])) ≡ left_in s past (Took q) ++ if_none o q
    by_answer None = told_off s past (Took q) (q ∷ []) h
    by_answer (Some why) =
        let ends = distinct_ends (in_hand past) q h in
        ap (taken_off (tolds (seen s past) (now_in s past (Took q)) (Took q))) (off_between q why (in_hand past) [] ends.1 refl ∙ append-nil (in_hand past))
        ∙ (told_off_all s past (Took q) ends.0 ∙ sym (append-nil (left_in s past (Took q))))

commands_both : (d : ℕ) (xs ys : List Request) → commands_for d (xs ++ ys) ≡ commands_for d xs ++ commands_for d ys
commands_both d xs ys = filter-append (commands_on d) xs ys

-- ## A command on d

-- while d is open it is accepted, but for want of a place
pub command_once : (s : Setting) (v : HistoryView) (q : Request) (d : ℕ) → v.lost ≡ false → (d == 0) ≡ false → is_opened (v.state d) ≡ true → (ask : Ask) → q.ask ≡ ask → command_on d ask ≡ true
    → at_once s v q ≡ (if nat_le 128 (length v.hand) then Some Busy else None)
command_once s v q d live z h (Command e line) k c =
    let same : e.number ≡ d = eqb-true e.number d c in
    ap (λ (b : Bool). if b then Some LineLost else (if nat_le 128 (length v.hand) then Some Busy else refused_ask s v q.ask)) live
    ∙ (ap (λ (x : Ask). if nat_le 128 (length v.hand) then Some Busy else refused_ask s v x) k
    ∙ (ap (λ (n : ℕ). if nat_le 128 (length v.hand) then Some Busy else (if n == 0 then Some ControlChannel else (if not (is_opened (v.state n)) then Some NotOpen else None))) same
    ∙ (ap (λ (b : Bool). if nat_le 128 (length v.hand) then Some Busy else (if b then Some ControlChannel else (if not (is_opened (v.state d)) then Some NotOpen else None))) z
    ∙ ap (λ (b : Bool). if nat_le 128 (length v.hand) then Some Busy else (if not b then Some NotOpen else None)) h)))
command_once s v q d live z h (OpenChannel e) k c = cc
command_once s v q d live z h (CloseChannel e) k c = cc
command_once s v q d live z h (Probe octets) k c = cc
command_once s v q d live z h Stop k c = cc

-- where it is shut it is told at once
command_shut : (s : Setting) (v : HistoryView) (q : Request) (d : ℕ) → is_opened (v.state d) ≡ false → (ask : Ask) → q.ask ≡ ask → command_on d ask ≡ true → is_none (at_once s v q) ≡ false
command_shut s v q d h (Command e line) k c =
    let here : is_opened (v.state e.number) ≡ false = ap (λ (n : ℕ). is_opened (v.state n)) (eqb-true e.number d c) ∙ h in
    ap (λ (x : Ask). is_none (if v.lost then Some LineLost else (if nat_le 128 (length v.hand) then Some Busy else refused_ask s v x))) k
    ∙ told v.lost (nat_le 128 (length v.hand)) (e.number == 0) (is_opened (v.state e.number)) here
  where
    told : (a b x y : Bool) → y ≡ false → is_none (if a then Some LineLost else (if b then Some Busy else (if x then Some ControlChannel else (if not y then Some NotOpen else None)))) ≡ false
    told true b x y g = refl
    told false true x y g = refl
    told false false true y g = refl
    told false false false false g = refl
    told false false false true g = cc
command_shut s v q d h (OpenChannel e) k c = cc
command_shut s v q d h (CloseChannel e) k c = cc
command_shut s v q d h (Probe octets) k c = cc
command_shut s v q d h Stop k c = cc

-- a command calls for no frame
no_frame : (s : Setting) (past : List Act) (q : Request) (d : ℕ) (ask : Ask) → q.ask ≡ ask → command_on d ask ≡ true → frames_in s past (Took q) ≡ []
no_frame s past q d (Command e line) k c =
    ap (λ (x : Ask). if (seen s past).lost then [] else (if is_none (at_once s (seen s past) q) then asking s.role x else [])) k ∙ nothing (seen s past).lost (is_none (at_once s (seen s past) q))
  where
    nothing : (a b : Bool) → (if a then [] else (if b then asking s.role (Command e line) else [])) ≡ []
    nothing true b = refl
    nothing false true = refl
    nothing false false = refl
no_frame s past q d (OpenChannel e) k c = cc
no_frame s past q d (CloseChannel e) k c = cc
no_frame s past q d (Probe octets) k c = cc
no_frame s past q d Stop k c = cc

-- ## While d is open

-- a number is less than another just where the other isn't at most it
pub less_not : (n m : ℕ) → nat_lt n m ≡ not (nat_le m n)
less_not n m = grind (arith, nat_tests)

-- what is accepted more is what is in hand more
more_is : (d : ℕ) (q : Request) (o : Option Answer) (is on full : Bool) (acc before cs : List Request) → is ≡ true → command_on d q.ask ≡ on → (on ≡ true → o ≡ (if full then Some Busy else None))
    → acc ≡ before ++ cs → (if is && (on && not full) then acc ++ q ∷ [] else acc) ≡ before ++ (cs ++ commands_for d (if_none o q))
more_is d q o false on full acc before cs i e f h = cc
more_is d q None true false full acc before cs i e f h =
    h ∙ ap (λ (v : List Request). before ++ v) (sym (ap (λ (b : Bool). cs ++ (if b then q ∷ [] else [])) e ∙ append-nil cs))
more_is d q (Some why) true false full acc before cs i e f h = h ∙ ap (λ (v : List Request). before ++ v) (sym (append-nil cs))
more_is d q o true true true acc before cs i e f h =
    h ∙ ap (λ (v : List Request). before ++ v) (sym (ap (λ (x : Option Answer). cs ++ commands_for d (if_none x q)) (f refl) ∙ append-nil cs))
more_is d q o true true false acc before cs i e f h =
    ap (λ (v : List Request). v ++ q ∷ []) h
    ∙ (append_assoc before cs (q ∷ [])
    ∙ ap (λ (v : List Request). before ++ v) (sym (ap (λ (x : Option Answer). cs ++ commands_for d (if_none x q)) (f refl) ∙ ap (λ (b : Bool). cs ++ (if b then q ∷ [] else [])) e)))

taken_open : (s : Setting) (d : ℕ) (past : List Act) (q : Request) → is_lost past ≡ false → (d == 0) ≡ false → are_distinct (in_hand past ++ q ∷ []) ≡ true → Kept s d past
    → is_open s.role d (wire (ended s past (Took q))) ≡ true → is_open s.role d (wire past) ≡ true → InStep s d (ended s past (Took q))
taken_open s d past q live z h k o was =
    let a = Took q in
    let e = end_of s past a d in
    let v = seen s past in
    let i = k.on.while_open was in
    let hand = in_hand past in
    let once = at_once s v q in
    let full = nat_le 128 (length hand) in
    let commands : commands_for d (in_hand (ended s past a)) ≡ commands_for d hand ++ commands_for d (if_none once q) =
    ap (commands_for d) (took_hand s past q h)
    ∙ (commands_both d (left_in s past a) (if_none once q)
    ∙ ap (λ (x : List Request). x ++ commands_for d (if_none once q)) (commands_stay v (now_in s past a) a d hand (sym e.open_is ∙ o))) in
    let accepts : accepted s.role d (a ∷ past) ≡ (if is_open s.role d (wire past) && (command_on d q.ask && not full) then accepted s.role d past ++ q ∷ [] else accepted s.role d past) =
    ap (λ (b : Bool). if is_open s.role d (wire past) && (command_on d q.ask && b) then accepted s.role d past ++ q ∷ [] else accepted s.role d past) (less_not (length hand) 128) in
    record {
      before = i.before;
      accepted_are =
          e.accepted_is
          ∙ (accepts
          ∙ (more_is d q once (is_open s.role d (wire past)) (command_on d q.ask) full (accepted s.role d past) i.before (commands_for d hand) was refl
          (λ c. command_once s v q d live z (seen_open s d past was) q.ask refl c) i.accepted_are
          ∙ ap (λ (x : List Request). i.before ++ x) (sym commands)));
      answered_are = ap (answered s.dialect) e.marks_are ∙ i.answered_are;
    }

-- ## Where d is shut at the end

none_more : (d : ℕ) (q : Request) (o : Option Answer) (on : Bool) → command_on d q.ask ≡ on → (on ≡ true → is_none o ≡ false) → commands_for d (if_none o q) ≡ []
none_more d q (Some why) on e h = refl
none_more d q None false e h = ap (λ (b : Bool). if b then q ∷ [] else []) e
none_more d q None true e h = absurd (let x : true ≡ false = h refl in cc)

told_or_shut : (s : Setting) (d : ℕ) (past : List Act) (q : Request) (b : Bool) → is_open s.role d (wire past) ≡ b → is_open s.role d (wire (ended s past (Took q))) ≡ false → command_on d q.ask ≡ true
    → is_none (at_once s (seen s past) q) ≡ false
told_or_shut s d past q false g o c = command_shut s (seen s past) q d g q.ask refl c
told_or_shut s d past q true g o c =
    let same : wire (ended s past (Took q)) ≡ wire past =
    (end_of s past (Took q) d).wire_is ∙ ap (λ (fs : List Frame). wire (after (Took q ∷ past) (map Sent fs))) (no_frame s past q d q.ask refl c) in
    absurd (let x : false ≡ true = sym o ∙ (ap (is_open s.role d) same ∙ g) in cc)

taken_shut : (s : Setting) (d : ℕ) (past : List Act) (q : Request) → are_distinct (in_hand past ++ q ∷ []) ≡ true → is_open s.role d (wire (ended s past (Took q))) ≡ false
    → commands_for d (in_hand (ended s past (Took q))) ≡ []
taken_shut s d past q h o =
    let a = Took q in
    let once = at_once s (seen s past) q in
    ap (commands_for d) (took_hand s past q h)
    ∙ (commands_both d (left_in s past a) (if_none once q)
    ∙ (ap (λ (x : List Request). x ++ commands_for d (if_none once q)) (commands_go (seen s past) (now_in s past a) a d (in_hand past) (sym (end_of s past a d).open_is ∙ o))
    ∙ none_more d q once (command_on d q.ask) refl (λ c. told_or_shut s d past q (is_open s.role d (wire past)) refl o c)))

-- a request that is taken, with all that it calls for, keeps the commands on d in step while the line is live
pub kept_took : (s : Setting) (d : ℕ) (past : List Act) (q : Request) → is_lost past ≡ false → (d == 0) ≡ false → are_distinct (in_hand past ++ q ∷ []) ≡ true → Kept s d past → Kept s d (ended s past (Took q))
kept_took s d past q live z h k =
    let was : is_open s.role d (wire (ended s past (Took q))) ≡ true → is_open s.role d (wire past) ≡ true = λ o. open_first s d past (Took q) o in
    record {
      on = record { while_open = λ o. taken_open s d past q live z h k o (was o); while_shut = λ o. taken_shut s d past q h o };
      unasked = λ o. unasked_end s d past (Took q) (took_free s (seen s past) q d (seen_open s d past (was o))) (k.unasked (was o));
    }
