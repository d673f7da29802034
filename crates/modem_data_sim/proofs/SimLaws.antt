-- A simulated modem behind a relay got and gave on the line's frames but data, and repeats no CONNECT.
use Rattle.std.specs.Prelude.{List}
use Rattle.std.proofs.Common.{sym, ◌∙◌, subst}
use Rattle.mux_frame.specs.Frames.{Frame}
use Rattle.mux_frame.specs.Deframing.{Deframes, IsDeframed}
use Rattle.mux_station.specs.declared.role.Role.TheVariants.{Responder}
use Rattle.serial_line.specs.LineViews.{LineView}
use Rattle.modem_sim.specs.Histories.{got}
use Rattle.modem_sim.proofs.modem_steps.StandardModems.{repeats_no_connect}
use Rattle.modem_data_endpoint.proofs.Besides.{behind_told}
use Rattle.modem_data_sim.specs.SimLaws.{RepeatsNone, TellsSim}

-- a simulated modem behind a relay got the frames of the line but data, and its own went to the line
pub tells_sim : {X : Type 0} (look : X → LineView) → IsDeframed → TellsSim look
unfolding TellsSim
tells_sim look law n1 ds before e s past hops high same fits line =
    let m = fits.machine_fits in
    record {
      given = m.wired.gone;
      sent_are = m.core_fits.gone_are;
      frames =
          behind_told law Responder n1 ds s.machine.unfed m.taken s.machine.deframer s.machine.out fits.went s.line.relay hops (got past) m.wired.gone high line.relay_fits (m.n1_is ∙ same)
          (subst (λ (fs : List Frame). Deframes m.taken fs s.machine.deframer) (sym m.core_fits.came_are) m.deframes)
          (sym line.read_are ∙ (fits.received_is ∙ m.came_is)) (sym line.sent_are ∙ fits.sent_is) m.went_is;
    }

-- a line that a modem repeats, though it isn't to repeat all, is no CONNECT
pub repeats_none : RepeatsNone
repeats_none m line is = repeats_no_connect m line is
