-- One history tells all that an endpoint's calls did.
use Rattle.std.proofs.Common.{ap, sym, ◌∙◌, subst}
use Rattle.std.specs.Prelude.{◌≡◌, ◌≤◌, List, [], ◌++◌, length, refl}
use Rattle.modem_desk.specs.Ends.{DriverView, DeskId}
use Rattle.modem_history.specs.Acts.{Act, after}
use Rattle.modem_history.specs.Sessions.{Beginning, LineView}
use Rattle.modem_history.proofs.calls.StatesAfterActs.{after_both}
use Rattle.modem_driver.specs.EndpointLaws.{Call, Calls, World, WentOn, OneHistory, TellsAll, none_called, called_more, gave_octets, took_octets, took_request, refused, ticked, lost, gave_outcome, gave_line}
use Rattle.modem_driver.specs.Endpoints.{EndpointState, EndpointFits, BeginsBy, HandlesAll, LeadsOver}
use Rattle.modem_driver.specs.SessionStates.{beginning_by}

-- what a call adds, and that the desk stays
record Adds (b : Beginning) (w v : World) : Type 0 where
  desk : v.driver.desk ≡ w.driver.desk
  goes : (past : List Act) → 1 ≤ length w.driver.desk.rings → EndpointFits b w.line w.driver w.endpoint past → WentOn b v past

by_acts : (b : Beginning) (l m : LineView) (d c : DriverView) (e f : EndpointState) (acts past : List Act) → LeadsOver l m d c e f acts → EndpointFits b l d e past → WentOn b (record { line = m; driver = c; endpoint = f }) past
unfolding LeadsOver
by_acts b l m d c e f acts past leads fit = record { acts = acts; fits = leads b past fit }

-- frames at hand were handled first
behind_frames : (b : Beginning) (l m : LineView) (d c : DriverView) (e f g : EndpointState) (acts past : List Act) → HandlesAll l d e f → LeadsOver l m d c f g acts → EndpointFits b l d e past → WentOn b (record { line = m; driver = c; endpoint = g }) past
unfolding LeadsOver
behind_frames b l m d c e f g acts past h leads fit =
    let frames = h.alone.acts in
    record {
      acts = frames ++ acts;
      fits = subst (EndpointFits b m c g) (sym (after_both frames acts past)) (leads b (after past frames) (h.alone.leads b past fit));
    }

one_call : (b : Beginning) (w v : World) → Call w v → Adds b w v
one_call b _ _ (gave_octets l d e f octets g) = record { desk = refl; goes = λ past some fit. by_acts b l _ d d e f g.acts past g.leads fit }
one_call b _ _ (took_octets l d e f octets blocked g) = record { desk = refl; goes = λ past some fit. by_acts b l _ d d e f g.acts past g.leads fit }
one_call b _ _ (took_request l d e f ask n g) = record { desk = refl; goes = λ past some fit. let t = g.takes l d in behind_frames b l l d _ e t.between f t.acts past t.frames (t.leads some) fit }
one_call b _ _ (refused l d e f g) = record { desk = refl; goes = λ past some fit. by_acts b l l d d e f g.acts past g.leads fit }
one_call b _ _ (ticked l d e f g) = record { desk = refl; goes = λ past some fit. behind_frames b l l d d e g.between f g.acts past g.frames g.leads fit }
one_call b _ _ (lost l d e f g) = record { desk = refl; goes = λ past some fit. behind_frames b l _ d d e g.between f g.acts past g.frames g.leads fit }
one_call b _ _ (gave_outcome l d c e f o t g) = record { desk = ap (λ (x : DriverView). x.desk) t.stays; goes = λ past some fit. by_acts b l l d c e f [] past (g.leads l d c t) fit }
one_call b _ _ (gave_line l d c e f u t g) = record { desk = ap (λ (x : DriverView). x.desk) t.stays; goes = λ past some fit. by_acts b l l d c e f [] past (g.leads l d c t) fit }

all_calls : (b : Beginning) (w v : World) → Calls w v → Adds b w v
all_calls b w _ (none_called _) = record { desk = refl; goes = λ past some fit. record { acts = []; fits = fit } }
all_calls b w u (called_more _ v _ before one) =
    let xs = all_calls b w v before in
    let x = one_call b v u one in
    record {
      desk = x.desk ∙ xs.desk;
      goes = λ past some fit.
          let g = xs.goes past some fit in
          let h = x.goes (after past g.acts) (subst (λ (k : DeskId). 1 ≤ length k.rings) (sym xs.desk) some) g.fits in
          record { acts = g.acts ++ h.acts; fits = subst (EndpointFits b u.line u.driver u.endpoint) (sym (after_both g.acts h.acts past)) h.fits };
    }

-- whatever history an endpoint fits before some calls goes on to one that it fits after them
pub one_history : OneHistory
unfolding OneHistory
one_history b w v past some fit calls = (all_calls b w v calls).goes past some fit

-- and one that was begun has one history of all its calls
pub tells_all : TellsAll
unfolding TellsAll BeginsBy
tells_all dialect n1 kinds w v same some begins calls =
    let b = beginning_by dialect n1 w.line w.driver in
    let g = (all_calls b w v calls).goes [] some (begins w.line w.driver same) in
    record { past = after [] g.acts; fits = g.fits.stands.session }
