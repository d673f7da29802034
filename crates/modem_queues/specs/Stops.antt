-- A Stop that has ended: it was answered, or given up.
use Rattle.std.specs.Prelude.{◌==◌, ◌&&◌, Bool, true, false, List, Option, Some, None}
use Rattle.std.specs.List.{list_any}
use Rattle.modem_desk.specs.declared.request.Ask.{Ask}
use Rattle.modem_desk.specs.declared.request.Ask.TheVariants.{Stop}
use Rattle.modem_desk.specs.declared.request.Request.{Request}
use Rattle.modem_desk.specs.declared.request.Answer.{Answer}
use Rattle.modem_desk.specs.declared.request.Answer.TheVariants.{Stopped, NoAnswer}
use Rattle.modem_desk.specs.declared.request.Outcome.{Outcome}
use Rattle.modem_history.specs.Acts.{Act, Told, is_for}
use Rattle.modem_history.specs.Wholes.{taken_requests, outcomes}
use Rattle.modem_queues.specs.declared.asker.Asker.{Asker}

abbrev pub asks_stop : Ask → Bool
asks_stop Stop = true
asks_stop _ = false

-- the request asks for a Stop
abbrev pub is_stop : Request → Bool
is_stop q = asks_stop q.ask

-- by this answer a Stop has ended: it was answered, or given up at the fourth tick
abbrev pub ends_stop : Answer → Bool
ends_stop Stopped = true
ends_stop NoAnswer = true
ends_stop _ = false

-- the request is a Stop, and one of the outcomes answers it by Stopped or NoAnswer
abbrev pub is_stopped_by : List Outcome → Request → Bool
is_stopped_by os q = is_stop q && list_any (λ (o : Outcome). is_for q o && ends_stop o.answer) os

-- a Stop that was taken was answered by Stopped or NoAnswer
abbrev pub has_stopped : List Act → Bool
has_stopped past = list_any (is_stopped_by (outcomes past)) (taken_requests past)

-- the asker of a request: its caller, and its number there
abbrev pub asker_of : Request → Asker
asker_of q = record { caller = q.caller; number = q.number }

-- the act tells this asker that its Stop has ended
abbrev pub is_end_of : Asker → Act → Bool
is_end_of s (Told o) = ((s.caller == o.caller) && (s.number == o.number)) && ends_stop o.answer
is_end_of s _ = false

-- one of the acts tells the asker of the Stop in hand that it has ended
abbrev pub is_answered : Option Asker → List Act → Bool
is_answered None acts = false
is_answered (Some s) acts = list_any (is_end_of s) acts
