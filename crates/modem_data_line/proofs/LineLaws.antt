-- Any calls have one past; a session behind it reads the line's frames but data.
use Rattle.std.specs.Prelude.{◌≡◌, ℕ, List, [], ◌∷◌, ◌++◌, refl}
use Rattle.std.proofs.Common.{ap, sym, ◌∙◌}
use Rattle.std.proofs.lemmas.List.{append-nil}
use Rattle.mux_station.specs.declared.role.Role.{Role}
use Rattle.mux_frame.specs.Deframing.{IsDeframed}
use Rattle.serial_line.specs.LineViews.{LineView}
use Rattle.modem_data.specs.Hops.{Relay, Passed, BeginsAs, handed_over, taken}
use Rattle.modem_data_endpoint.proofs.Besides.{frames_told}
use Rattle.modem_data_line.specs.DataLines.{DataLineState, new_data_line, Before, with_taken}
use Rattle.modem_data_line.specs.LineLaws.{LineCall, led, took, of_lanes, LineCalls, no_call, more_calls, before_of, HasPast, HaveOnePast, TellsSession}
use Rattle.modem_data_line.proofs.Leads.{lanes_lead}

call_on : {X : Type 0} (look : X → LineView) (role : Role) (n1 : ℕ) (ds : List ℕ) (b : Before) (v w : DataLineState X) → HasPast look role n1 ds b v → LineCall look v w → HasPast look role n1 ds b w
call_on look role n1 ds b v w h (led kind l) = record { past = l.hops ++ h.past; fits = l.leads role n1 ds b h.past h.fits }
call_on look role n1 ds b v w h (took octets t) = record { past = t.after ++ with_taken octets (t.before ++ h.past); fits = t.leads role n1 ds b h.past h.fits }
call_on look role n1 ds b v w h (of_lanes a hop e) = record { past = Passed a ∷ h.past; fits = lanes_lead look v w a hop e role n1 ds b h.past h.fits }

calls_on : {X : Type 0} (look : X → LineView) (role : Role) (n1 : ℕ) (ds : List ℕ) (b : Before) (v w : DataLineState X) → HasPast look role n1 ds b v → LineCalls look v w → HasPast look role n1 ds b w
calls_on look role n1 ds b v _ h (no_call _) = h
calls_on look role n1 ds b v w h (more_calls _ u _ calls c) = call_on look role n1 ds b u w (calls_on look role n1 ds b v u h calls) c

begins : {X : Type 0} (look : X → LineView) (role : Role) (n1 : ℕ) (ds : List ℕ) (line : X) (relay : Relay) → BeginsAs role n1 ds relay → HasPast look role n1 ds (before_of look line) (new_data_line line relay)
unfolding BeginsAs
begins look role n1 ds line relay h = record {
  past = [];
  fits = record { relay_fits = h; came = sym (append-nil (look line).received); went = sym (append-nil (look line).sent); read_are = refl; sent_are = refl };
}

-- any calls of a new line with a new relay have one past
pub have_one_past : {X : Type 0} (look : X → LineView) → HaveOnePast look
unfolding HaveOnePast
have_one_past look role n1 ds line relay v h calls = calls_on look role n1 ds (before_of look line) (new_data_line line relay) v (begins look role n1 ds line relay h) calls

from_none : (line since before : List ℕ) → before ≡ [] → line ≡ since → line ≡ before ++ since
from_none line since before none e = e ∙ ap (λ (xs : List ℕ). xs ++ since) (sym none)

-- a session over it got the frames of the line but data, and its own went to the line
pub tells_session : {X : Type 0} (look : X → LineView) → IsDeframed → TellsSession look
unfolding TellsSession
tells_session look law n1 ds before b s v past hops high same none_in none_out read sent_all fits line = frames_told law n1 ds b s v.relay hops past high fits line.relay_fits same
    (from_none s.line.received (handed_over hops) b.line.received none_in (read ∙ line.read_are)) (from_none s.line.sent (taken hops) b.line.sent none_out (sent_all ∙ line.sent_are))
