-- Requests that the desk's end took more.
use Rattle.std.proofs.Common.{ap, sym, ◌∙◌, subst}
use Rattle.std.proofs.lemmas.Bool.{and_from}
use Rattle.std.proofs.lemmas.List.{append-nil, append_assoc}
use Rattle.std.proofs.lemmas.List.Folds.{list_all-append}
use Rattle.std.specs.Prelude.{◌≡◌, Bool, true, List, [], ◌∷◌, ◌++◌, length, refl}
use Rattle.std.specs.List.{list_all}
use Rattle.modem_desk.specs.declared.request.Request.{Request}
use Rattle.modem_desk.specs.Ends.{DeskId, DriverView}
use Rattle.modem_history.specs.Turns.{request_given}
use Rattle.modem_driver.specs.declared.session.error.SessionFault.{SessionFault}
use Rattle.modem_driver.specs.SessionStates.{AreFormed, TakesMore}
use Rattle.modem_driver.specs.SessionTurns.{LosesOr}
use Rattle.modem_driver.specs.TurnSteps.{TurnState, Places, Checks, SendsOn, Writes, Gets, ReadsOn, TakesOne}
use Rattle.modem_core.proofs.sessions.steps.OutcomeCounts.{is_caller}

-- ## None, and one after the other

formed_both : (qs rs : List Request) → AreFormed qs → AreFormed rs → AreFormed (qs ++ rs)
formed_both [] rs h k = k
formed_both (q ∷ qs) rs h k = (h.0, formed_both qs rs h.1 k)

-- where desk and requests stay none was taken
pub takes_same : (d e : DriverView) → e.desk ≡ d.desk → e.taken ≡ d.taken → TakesMore d e
takes_same d e desk taken = record { desk = desk; more = []; taken = taken ∙ sym (append-nil d.taken); callers = refl; formed = tt }

-- nor where nothing happened
pub takes_none : (d : DriverView) → TakesMore d d
takes_none d = takes_same d d refl refl

-- some were taken, and then others
pub takes_then : (d e f : DriverView) → TakesMore d e → TakesMore e f → TakesMore d f
takes_then d e f a b =
    let callers : list_all (is_caller (length d.desk.rings)) b.more ≡ true = subst (λ (x : DeskId). list_all (is_caller (length x.rings)) b.more ≡ true) a.desk b.callers in
    record {
      desk = b.desk ∙ a.desk;
      more = a.more ++ b.more;
      taken = b.taken ∙ (ap (λ (qs : List Request). qs ++ b.more) a.taken ∙ append_assoc d.taken a.more b.more);
      callers = list_all-append (is_caller (length d.desk.rings)) a.more b.more
          ∙ and_from (list_all (is_caller (length d.desk.rings)) a.more) (list_all (is_caller (length d.desk.rings)) b.more) a.callers callers;
      formed = formed_both a.more b.more a.formed b.formed;
    }

-- ## Over the steps of a turn

-- offering what waits takes none
pub took_none : {s0 s1 : TurnState} {m1 : Bool} → (s : TurnState) → Places s0 s1 m1 → s.driver ≡ s1.driver → TakesMore s0.driver s.driver
took_none {s0} {s1} {m1} s p same = takes_same s0.driver s.driver (ap (λ (d : DriverView). d.desk) same ∙ p.desk_stays) (ap (λ (d : DriverView). d.taken) same ∙ p.taken_stays)

-- nor does the loss of the line
pub lost_driver : (why : SessionFault) (old new : TurnState) → LosesOr why old new → new.driver ≡ old.driver
lost_driver SessionFault.Line old new h = ap (λ (s : TurnState). s.driver) h.0
lost_driver SessionFault.NoMemory old new h = absurd h
lost_driver SessionFault.Failed old new h = ap (λ (s : TurnState). s.driver) h.0

-- checking backlogs leaves the desk's end
pub checked_driver : {s1 s2 : TurnState} {m2 : Bool} → Checks s1 s2 m2 → s2.driver ≡ s1.driver
checked_driver {s1} {s2} {m2} k = ap (λ (s : TurnState). s.driver) k.stays

-- so do sending and writing behind that
pub wrote_driver : {s1 s2 s3 s4 : TurnState} {m2 m3 m4 : Bool} → Checks s1 s2 m2 → SendsOn s2 s3 m3 → Writes s3 s4 m4 → s4.driver ≡ s1.driver
wrote_driver {s1} {s2} {s3} {s4} {m2} {m3} {m4} k n w = ap (λ (s : TurnState). s.driver) w.stays ∙ (ap (λ (s : TurnState). s.driver) n.stays ∙ checked_driver k)

-- and handling a frame and reading
pub read_driver : {s1 s2 s3 s4 s5 s6 : TurnState} {m2 m3 m4 m5 m6 : Bool} → Checks s1 s2 m2 → SendsOn s2 s3 m3 → Writes s3 s4 m4 → Gets s4 s5 m5 → ReadsOn s5 s6 m6 → s6.driver ≡ s1.driver
read_driver {s1} {s2} {s3} {s4} {s5} {s6} {m2} {m3} {m4} {m5} {m6} k n w g r = ap (λ (s : TurnState). s.driver) r.stays ∙ (ap (λ (s : TurnState). s.driver) g.stays ∙ wrote_driver k n w)

-- a request that is taken
pub took_one : (s0 s s7 : TurnState) {m7 : Bool} → TakesMore s0.driver s.driver → TakesOne s s7 m7 → TakesMore s0.driver s7.driver
took_one s0 s s7 {m7} before q =
    takes_then s0.driver s.driver s7.driver before (record { desk = q.desk_stays.0; more = request_given q.next; taken = q.taken; callers = q.callers; formed = q.formed })
