-- What a modem's state says to a command, as a reply (27.007, 7.2, 7.3, 8.3, 8.5, 9.1, 9.2, 10.1.1, 10.1.9).
use Rattle.std.specs.Prelude.{ℕ, ◌==◌, Bool, true, false, List, map, Option, Some, None, Result, Ok, Err, if◌then◌else◌, codes}
use Rattle.at_cmds.specs.declared.command.Command.{Command}
use Rattle.at_cmds.specs.declared.command.Command.TheVariants.{PinQuery, RegQuery, Signal as SignalQuery, OperQuery, ContextQuery, AttachQuery}
use Rattle.at_cmds.specs.declared.command.OperChoice.{OperChoice}
use Rattle.at_cmds.specs.declared.command.OperChoice.TheVariants.{Automatic, Deregister, Manual}
use Rattle.at_cmds.specs.declared.error.ReplyFault.{ReplyFault}
use Rattle.at_cmds.specs.declared.error.ReplyFault.TheVariants.{Cme, PlainError}
use Rattle.at_cmds.specs.declared.registration.Registration.{Registration}
use Rattle.at_cmds.specs.declared.reply.Reply.{Reply}
use Rattle.at_cmds.specs.declared.reply.Reply.TheVariants.{Accepted, Pin, Reg, Signal, Oper, Contexts, Attached}
use Rattle.at_cmds.specs.declared.reply.PinState.{PinState}
use Rattle.at_cmds.specs.declared.reply.PinState.TheVariants as state
use Rattle.at_cmds.specs.declared.reply.NamedOper.{NamedOper}
use Rattle.at_cmds.specs.declared.reply.Context.{Context}
use Rattle.at_cmds.specs.Commands.{pdp_text}
use Rattle.modem_sim.specs.declared.contexts.PdpContext.{PdpContext}
use Rattle.modem_sim.specs.declared.state.Lock.{Lock}
use Rattle.modem_sim.specs.declared.state.Lock.TheVariants.{Ready, NeedPin, NeedPuk}
use Rattle.modem_sim.specs.declared.state.ModemState.{ModemState}
use Rattle.modem_sim.specs.Steps.{is_registered, refusal_of}

-- which PIN is wanted
abbrev pub wanted_pin : Lock → PinState
wanted_pin Ready = state.Ready
wanted_pin (NeedPin pin tries) = state.SimPin
wanted_pin NeedPuk = state.SimPuk

-- a registration that tells its status alone
abbrev pub bare_registration : ℕ → Registration
bare_registration stat = record { stat = stat; lac = None; ci = None; act = None }

-- where the modem is registered: area A1 hex, cell 1B2C3D4 hex, over E-UTRAN
abbrev pub cell_registration : Registration
cell_registration = record { stat = 1; lac = Some 161; ci = Some 28492756; act = Some 7 }

-- the registration, as reports of this mode tell it
abbrev pub registration : ℕ → Bool → Registration
registration n false = bare_registration 0
registration n true = if n == 2 then cell_registration else bare_registration 1

-- an operator by its number, over E-UTRAN
abbrev pub numbered : List ℕ → Option NamedOper
numbered oper = Some (record { format = 2; oper = oper; act = Some 7 })

abbrev pub oper_reply : OperChoice → Reply
oper_reply Automatic = Oper 0 (numbered (codes "00101"))
oper_reply (Manual oper) = Oper 1 (numbered oper)
oper_reply Deregister = Oper 2 None

abbrev pub told_context : PdpContext → Context
told_context c = record { cid = c.cid; pdp = pdp_text c.pdp; apn = c.apn }

-- what the state says to a command that isn't refused
abbrev pub told_reply : ModemState → Command → Reply
told_reply s PinQuery = Pin (wanted_pin s.lock)
told_reply s RegQuery = Reg s.reports (registration s.reports (is_registered s.lock s.oper))
told_reply s SignalQuery = Signal s.rssi s.ber
told_reply s OperQuery = oper_reply s.oper
told_reply s ContextQuery = Contexts (map told_context s.contexts)
told_reply s AttachQuery = Attached s.attached
told_reply s _ = Accepted

-- an error as its mode lets it be read: without its number at mode 0
abbrev pub told_fault : ℕ → ℕ → ReplyFault
told_fault mode number = if mode == 0 then PlainError else Cme number

abbrev pub meant_unless : Option ℕ → ModemState → Command → Result Reply ReplyFault
meant_unless None s c = Ok (told_reply s c)
meant_unless (Some number) s c = Err (told_fault s.errors number)

-- what the state says to a command: that it is refused, or a reply
abbrev pub meant : ModemState → Command → Result Reply ReplyFault
meant s c = meant_unless (refusal_of s c) s c
