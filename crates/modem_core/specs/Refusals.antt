-- What a request that is refused at once is told.
use Rattle.mux_station.specs.declared.error.StationError.{StationError}
use Rattle.mux_station.specs.declared.error.StationError.TheVariants as station
use Rattle.modem_desk.specs.declared.request.Request.{Request}
use Rattle.modem_desk.specs.declared.request.Answer.{Answer}
use Rattle.modem_desk.specs.declared.request.Answer.TheVariants.{NotOpen, AlreadyOpen, ControlChannel, Busy}
use Rattle.modem_history.specs.declared.act.Act.{Act}
use Rattle.modem_history.specs.declared.act.Act.TheVariants as act

-- what a station's refusal is for the caller: want of room is Busy
abbrev pub refusal_answer : StationError → Answer
refusal_answer station.NotOpen = NotOpen
refusal_answer station.AlreadyOpen = AlreadyOpen
refusal_answer station.ControlChannel = ControlChannel
refusal_answer _ = Busy

-- the act by which a request is told this
abbrev pub told_act : Request → Answer → Act
told_act r answer = act.Told (record { caller = r.caller; number = r.number; answer = answer })
