-- The second frame has room behind the first.
use Rattle.std.specs.Prelude.{◌≡◌, true}
use Rattle.std.proofs.Common.{◌∙◌, ap, sym}
use Rattle.mux_station.specs.Tables.{octets_of, have_room}
use Rattle.mux_station.specs.AnswersSent.{frames_in, answers_sent}
use Rattle.mux_station.specs.Stations.{Station}
use Rattle.mux_station.proofs.queues.QueueRoom.{room_behind}
use Rattle.mux_station.proofs.station.Station.answer.Goals as goal

pub push-requires-2 : goal.push-requires-2
push-requires-2 c =
    let v = c.args.self.now in
    let a = c.args.answers in
    let all : have_room v.n1 (octets_of v.queue) (answers_sent a) ≡ true = sym c.fits.ensures ∙ c.if-not-fits.false in
    ap (λ (w : Station). have_room w.n1 (octets_of w.queue) (frames_in a.second)) c.push.ensures
    ∙ room_behind v.n1 v.queue (frames_in a.first) (frames_in a.second) all
