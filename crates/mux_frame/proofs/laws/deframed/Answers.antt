use Rattle.mux_frame.proofs.deframers.DeframerPasts.{past_all, past_next}
use Rattle.mux_frame.proofs.laws.deframed.Goals as goal

pub returns : goal.returns
returns c = λ taken handed d p. record { next = λ f e. past_next taken handed d f p e; all = λ e. past_all taken handed d p e }
