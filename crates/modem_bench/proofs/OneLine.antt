-- The joint list of a session and a simulated modem stays one line's.
use Rattle.std.proofs.Common.{◌∙◌, append_assoc, append-nil, sym, subst, ap, take-append-drop}
use Rattle.std.proofs.Math.Seq.{take-add}
use Rattle.std.proofs.lemmas.List.{append_cancel_left}
use Rattle.std.specs.Prelude.{◌≡◌, ℕ, ◌+◌, true, false, List, [], ◌∷◌, ◌++◌, drop, take, None, min, refl}
use Rattle.mux_frame.specs.Laws.{AreOctets}
use Rattle.serial_line.specs.CutLine.{CutState, after_carry, carried, cut_view, other_side_of, unmoved}
use Rattle.serial_line.specs.OtherSide.{OtherSide}
use Rattle.at_text.specs.Commands.{refusal_of}
use Rattle.modem_desk.specs.Ends.{DriverView}
use Rattle.modem_desk.specs.declared.request.Ask.{Ask}
use Rattle.modem_desk.specs.declared.request.Ask.TheVariants.{OpenChannel, CloseChannel, Command, Probe, Stop}
use Rattle.modem_desk.specs.declared.request.Request.{Request}
use Rattle.modem_history.specs.Acts as driver
use Rattle.modem_history.specs.Acts.{Took, Got, Sent, Told, Heard, Tick, Lost, Held, Freed, Given, after, wire}
use Rattle.modem_history.specs.Information.{command_on, line_in}
use Rattle.modem_history.specs.Sessions.{Beginning, LineView, driving}
use Rattle.modem_history.specs.TwoEnds.{AsksOnce, ComesInOrder, TakesCommandLines}
use Rattle.modem_history.specs.Wholes.{taken_requests}
use Rattle.modem_driver.specs.Polls.{SessionGoesOn}
use Rattle.modem_driver.specs.SessionStates.{AreFormed, FitsAll, IsFormedAsk, SessionState, TakesMore, session_view}
use Rattle.modem_driver.proofs.sessions.steps.CoreCalls.{is_run}
use Rattle.modem_sim.specs.Acts as modem
use Rattle.modem_sim.specs.Acts.{End}
use Rattle.modem_sim.specs.Replied.{AnnouncesUnsolicited}
use Rattle.modem_sim.specs.Sims.{FitsSim, SimGoes, SimState}
use Rattle.one_modem.specs.OneModem.{EndAct, IsOneModem, TellsModem, driver_past, driver_wire, modem_past}
use Rattle.one_modem.proofs.law_proofs.OneModem.{tells_modem}
use Rattle.one_modem.proofs.octets.DriverWithin.{IsShortAsk, TakesShort}
use Rattle.one_modem.proofs.octets.FramesInOrder.{driver_gets, modem_gets}
use Rattle.one_modem.proofs.octets.LineGoesOn.{after_near, at_far, far_line, near_line}
use Rattle.modem_bench.specs.OneLine.{AreOnOneLine, BeginsOnOneLine, StaysOneLine, TellsModemTo, TookFormed}
use Rattle.modem_bench.specs.Rounds.{Pair, carried_between, pair}
use Rattle.modem_bench.proofs.JointLists.{far_other, far_past, near_joins, near_other, near_past}

-- ## Requests have their form

formed_both : (qs rs : List Request) → AreFormed qs → AreFormed rs → AreFormed (qs ++ rs)
formed_both [] rs h k = k
formed_both (q ∷ qs) rs h k = (h.0, formed_both qs rs h.1 k)

formed_last : (qs : List Request) (q : Request) → AreFormed (qs ++ q ∷ []) → AreFormed qs × IsFormedAsk q.ask
formed_last [] q h = (tt, h.0)
formed_last (r ∷ qs) q h = let p = formed_last qs q h.1 in ((h.0, p.0), p.1)

never : {P : Type 0} → false ≡ true → P
never e = cc

line_formed : (a : Ask) → IsFormedAsk a → (d : ℕ) → command_on d a ≡ true → refusal_of (line_in a) ≡ None
line_formed (Command e line) h d on = h
line_formed (OpenChannel e) h d on = never on
line_formed (CloseChannel e) h d on = never on
line_formed (Probe octets) h d on = never on
line_formed Stop h d on = never on

probe_formed : (a : Ask) → IsFormedAsk a → IsShortAsk a
probe_formed (Command e line) h = tt
probe_formed (OpenChannel e) h = tt
probe_formed (CloseChannel e) h = tt
probe_formed (Probe octets) h = h
probe_formed Stop h = tt

takes_lines : (past : List driver.Act) → AreFormed (taken_requests past) → TakesCommandLines past
takes_lines [] h = tt
takes_lines (Took q ∷ past) h = let p = formed_last (taken_requests past) q h in (λ d on. line_formed q.ask p.1 d on, takes_lines past p.0)
takes_lines (Got f ∷ past) h = takes_lines past h
takes_lines (Sent f ∷ past) h = takes_lines past h
takes_lines (Told o ∷ past) h = takes_lines past h
takes_lines (Heard k d line ∷ past) h = takes_lines past h
takes_lines (Tick ∷ past) h = takes_lines past h
takes_lines (Lost ∷ past) h = takes_lines past h
takes_lines (Held d ∷ past) h = takes_lines past h
takes_lines (Freed d ∷ past) h = takes_lines past h
takes_lines (Given ∷ past) h = takes_lines past h

takes_short : (past : List driver.Act) → AreFormed (taken_requests past) → TakesShort past
takes_short [] h = tt
takes_short (Took q ∷ past) h = let p = formed_last (taken_requests past) q h in (probe_formed q.ask p.1, takes_short past p.0)
takes_short (Got f ∷ past) h = takes_short past h
takes_short (Sent f ∷ past) h = takes_short past h
takes_short (Told o ∷ past) h = takes_short past h
takes_short (Heard k d line ∷ past) h = takes_short past h
takes_short (Tick ∷ past) h = takes_short past h
takes_short (Lost ∷ past) h = takes_short past h
takes_short (Held d ∷ past) h = takes_short past h
takes_short (Freed d ∷ past) h = takes_short past h
takes_short (Given ∷ past) h = takes_short past h

-- what its history took has its form
history_formed : (b : Beginning) (s : SessionState CutState) (past : List driver.Act) → FitsAll b cut_view s past → TookFormed b s → AreFormed (taken_requests past)
history_formed b s past f t =
    let r = f.session.requests in
    subst AreFormed (append_cancel_left b.desk.taken t.since (taken_requests past) (sym t.taken_are ∙ r.taken_are)) t.formed

took_more : (b : Beginning) (old new : SessionState CutState) → TookFormed b old → TakesMore old.driver new.driver → TookFormed b new
took_more b old new t m = record {
  since = t.since ++ m.more;
  taken_are = m.taken ∙ (ap (λ (qs : List Request). qs ++ m.more) t.taken_are ∙ append_assoc b.desk.taken t.since m.more);
  formed = formed_both t.since m.more t.formed m.formed;
}

-- ## The session's acts

-- of what a line took what was given on is the beginning
behind_read : (received waiting sent : List ℕ) (moved : ℕ) → received ++ waiting ≡ take moved sent → received ++ (waiting ++ drop moved sent) ≡ sent
behind_read received waiting sent moved e =
    sym (append_assoc received waiting (drop moved sent))
    ∙ (ap (λ (xs : List ℕ). xs ++ drop moved sent) e ∙ take-append-drop moved sent)

-- the session goes on by what its line was given, and takes requests: the joint list stays one line's
pub near_goes : (old new : SessionState CutState) (far : SimState CutState) → SessionGoesOn cut_view old new → TakesMore old.driver new.driver → other_side_of new.line ≡ other_side_of old.line → AreOctets far.line.sent → AreOctets far.machine.out
    → StaysOneLine (pair old far) (pair new far)
unfolding SessionGoesOn StaysOneLine
near_goes old new far goes takes beyond octets waiting b at e line on =
    let acts = goes.acts in
    let j = on.joined in
    let later = after_near line acts in
    let fits : FitsAll b cut_view new (driver_past later) = subst (FitsAll b cut_view new) (sym (near_past line acts)) (goes.goes b (driver_past line) j.near) in
    let given : new.line.received ++ new.line.waiting ≡ take far.line.moved far.line.sent = ap (λ (o : OtherSide). o.given) beyond ∙ on.crossed.to_near in
    let went : far.line.sent ≡ j.far.went = j.far.sent_is ∙ ap (λ (xs : List ℕ). xs ++ j.far.went) on.began.far_sent in
    let joins : new.line.received ++ (new.line.waiting ++ drop far.line.moved far.line.sent) ≡ j.far.went = behind_read new.line.received new.line.waiting far.line.sent far.line.moved given ∙ went in
    let gets : ComesInOrder (modem.wire (modem_past line)) (driver.wire (driver_past later)) =
    driver_gets b (session_view cut_view new) (driver_past later) e j.far.came j.far.went (new.line.waiting ++ drop far.line.moved far.line.sent) far.machine (modem_past line) fits.session j.far.machine_fits
    on.began.low on.began.high on.began.same on.began.near_received joins (subst AreOctets went octets) waiting in
    let now : AreOnOneLine b at e later (pair new far) = record {
      began = on.began;
      joined = record { near = fits; far = subst (FitsSim cut_view at e far) (sym (near_other line acts)) j.far };
      one_line = near_line line acts on.one_line gets;
      crossed = record { to_far = on.crossed.to_far ∙ sym (ap (λ (o : OtherSide). o.passed_on) beyond); to_near = given };
      taken = took_more b old new on.taken takes;
    } in
    record { newer = after_near [] acts; on = subst (λ (l : List EndAct). AreOnOneLine b at e l (pair new far)) (near_joins line [] acts) now }

-- ## The modem's acts

-- the modem goes on by what its line was given: so it does
pub far_goes : (near : SessionState CutState) (old new : SimState CutState) → SimGoes cut_view old new → other_side_of new.line ≡ other_side_of old.line → AreOctets near.line.sent → AreOctets near.machine.unwritten
    → StaysOneLine (pair near old) (pair near new)
unfolding StaysOneLine
far_goes near old new goes beyond octets waiting b at e line on =
    let j = on.joined in
    let from = goes at e (modem_past line) j.far in
    let acts = from.later.newer in
    let later = at_far acts ++ line in
    let fits : FitsSim cut_view at e new (modem_past later) = subst (FitsSim cut_view at e new) (sym (far_past line acts ∙ from.later.joins)) from.fits in
    let given : new.line.received ++ new.line.waiting ≡ take near.line.moved near.line.sent = ap (λ (o : OtherSide). o.given) beyond ∙ on.crossed.to_far in
    let came : new.line.received ≡ fits.came = fits.received_is ∙ ap (λ (xs : List ℕ). xs ++ fits.came) on.began.far_received in
    let joins : fits.came ++ (new.line.waiting ++ drop near.line.moved near.line.sent) ≡ near.line.sent =
    ap (λ (xs : List ℕ). xs ++ (new.line.waiting ++ drop near.line.moved near.line.sent)) (sym came) ∙ behind_read new.line.received new.line.waiting near.line.sent near.line.moved given in
    let gets : ComesInOrder (driver.wire (driver_past line)) (modem.wire (modem_past later)) =
    modem_gets b (session_view cut_view near) (driver_past line) e fits.came fits.went (new.line.waiting ++ drop near.line.moved near.line.sent) new.machine (modem_past later) j.near.session fits.machine_fits
    on.began.low on.began.high on.began.same (takes_short (driver_past line) (history_formed b near (driver_past line) j.near on.taken)) on.began.near_sent joins octets waiting in
    record {
      newer = at_far acts;
      on = record {
        began = on.began;
        joined = record { near = subst (FitsAll b cut_view near) (sym (far_other line acts)) j.near; far = fits };
        one_line = far_line line acts on.one_line gets (λ more. ap driver.wire (far_other line more));
        crossed = record { to_far = given; to_near = on.crossed.to_near ∙ sym (ap (λ (o : OtherSide). o.passed_on) beyond) };
        taken = on.taken;
      };
    }

-- ## Octets are carried

-- what is given on more at the one end comes at the other
pub carried_one : (cut : ℕ) (from to : CutState) → to.received ++ to.waiting ≡ take from.moved from.sent → to.received ++ (to.waiting ++ take (carried cut from to) (unmoved from)) ≡ take (from.moved + carried cut from to) from.sent
carried_one cut from to e =
    sym (append_assoc to.received to.waiting (take (carried cut from to) (unmoved from)))
    ∙ (ap (λ (xs : List ℕ). xs ++ take (carried cut from to) (unmoved from)) e
    ∙ sym (take-add from.moved (carried cut from to) from.sent))

-- octets are carried between the lines: so it does
pub carried_goes : (cut : ℕ) (p : Pair) → StaysOneLine p (carried_between cut p)
unfolding StaysOneLine
carried_goes cut p b at e line on = record {
  newer = [];
  on = record {
    began = on.began;
    joined = record {
      near = on.joined.near;
      far = record {
        came = on.joined.far.came;
        went = on.joined.far.went;
        received_is = on.joined.far.received_is;
        sent_is = on.joined.far.sent_is;
        machine_fits = on.joined.far.machine_fits;
      };
    };
    one_line = on.one_line;
    crossed = record {
      to_far = carried_one cut p.near.line p.far.line on.crossed.to_far;
      to_near = carried_one cut p.far.line p.near.line on.crossed.to_near;
    };
    taken = record { since = on.taken.since; taken_are = on.taken.taken_are; formed = on.taken.formed };
  };
}

-- the same of lines taken out and put back
pub carried_goes_so : (cut : ℕ) (near : SessionState CutState) (far : SimState CutState) (a b c d : CutState) → a ≡ near.line → b ≡ far.line → c ≡ after_carry cut a b → d ≡ after_carry cut b a
    → StaysOneLine (pair near far) (pair (record near { line = c }) (record far { line = d }))
carried_goes_so cut near far a b c d here there carried back =
    let one : c ≡ after_carry cut near.line far.line = carried ∙ (λ i. after_carry cut (here i) (there i)) in
    let two : d ≡ after_carry cut far.line near.line = back ∙ (λ i. after_carry cut (there i) (here i)) in
    subst (λ (x : CutState × CutState). StaysOneLine (pair near far) (pair (record near { line = x.0 }) (record far { line = x.1 }))) (λ i. (sym one i, sym two i)) (carried_goes cut (pair near far))

-- ## One after the other

-- nothing happens
pub stays_none : (p : Pair) → StaysOneLine p p
unfolding StaysOneLine
stays_none p b at e line on = record { newer = []; on = on }

-- it stays so by two steps
pub stays_then : (p q r : Pair) → StaysOneLine p q → StaysOneLine q r → StaysOneLine p r
unfolding StaysOneLine
stays_then p q r f g b at e line on =
    let one = f b at e line on in
    let two = g b at e (one.newer ++ line) one.on in
    record { newer = two.newer ++ one.newer; on = subst (λ (l : List EndAct). AreOnOneLine b at e l r) (sym (append_assoc two.newer one.newer line)) two.on }

-- ## The beginning

nil_first : (xs ys : List ℕ) → xs ++ ys ≡ [] → xs ≡ []
nil_first [] ys e = refl
nil_first (x ∷ xs) ys e = cc

no_input : (room : ℕ) → take (min 0 room) (let none : List ℕ = [] in none) ≡ []
no_input room = nil_first (take (min 0 room) []) (drop (min 0 room) []) (take-append-drop (min 0 room) [])

-- a session and a modem that were just made, at new lines, have the empty list
pub begins_on_one_line : BeginsOnOneLine
unfolding BeginsOnOneLine
begins_on_one_line n1 near_room far_room near_reads near_writes far_reads far_writes d start script s m low high is_start near_line driver near_fits far_line far_fits = record {
  began = record {
    near_received = refl;
    near_sent = refl;
    far_received = refl;
    far_sent = refl;
    low = low;
    high = high;
    same = refl;
    codes = refl;
    modem_is = record { start = start; before = []; is_start = is_start; is = refl };
  };
  joined = record { near = near_fits; far = far_fits };
  one_line = tt;
  crossed = record {
    to_far = ap (λ (l : CutState). l.received ++ l.waiting) far_line ∙ (no_input far_room ∙ sym (ap (λ (l : CutState). take l.moved l.sent) near_line));
    to_near = ap (λ (l : CutState). l.received ++ l.waiting) near_line ∙ (no_input near_room ∙ sym (ap (λ (l : CutState). take l.moved l.sent) far_line));
  };
  taken = record { since = []; taken_are = ap (λ (x : DriverView). x.taken) driver ∙ sym (append-nil d.taken); formed = tt };
}

-- ## One modem

is_one_modem : (p : Pair) (b : Beginning) (at : LineView) (e : End) (line : List EndAct) → AreOnOneLine b at e line p → AsksOnce (driver_wire line) → AnnouncesUnsolicited (modem_past line) → IsOneModem (driving b) e line
is_one_modem p b at e line on once announced =
    let run = is_run b (cut_view p.near.line) p.near.driver p.near.machine (driver_past line) on.joined.near in
    record {
      is_initiator = refl;
      codes = on.began.codes;
      driver_lawful = run.lawful;
      calls = run.whole;
      numbers = run.numbers;
      commands = takes_lines (driver_past line) (history_formed b p.near (driver_past line) on.joined.near on.taken);
      modem_lawful = record { at_station = on.joined.far.machine_fits.core_fits.lawful; acts = on.joined.far.machine_fits.core_fits.allowed };
      modem_is = on.began.modem_is;
      announced = announced;
      one_line = on.one_line;
      once = once;
    }

-- on one line each command told Done was read by the modem, and answered by its step
pub tells_modem_to : (p : Pair) → TellsModemTo p
unfolding TellsModemTo TellsModem
tells_modem_to p b at e line on once announced = tells_modem (driving b) e line (is_one_modem p b at e line on once announced)
