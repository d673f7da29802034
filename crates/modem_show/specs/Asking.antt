-- Frames that ask for an answer, and their answers (27.010, 5.4.1, 5.4.2 and 5.4.6).
use Rattle.std.specs.Prelude.{ℕ, ◌==◌, ◌&&◌, ◌||◌, not, Bool, false, List, [], ◌∷◌, ◌++◌, map, Option, None, Some, option_map, if◌then◌else◌}
use Rattle.std.specs.List.{find, list_any, position_or_len, remove}
use Rattle.std.specs.Str.{bytes_eq}
use Rattle.mux_frame.specs.Frames.{Frame}
use Rattle.mux_frame.specs.declared.frame.Kind.{Kind}
use Rattle.mux_frame.specs.declared.frame.Kind.TheVariants.{Sabm, Ua, Dm, Disc, Uih}
use Rattle.mux_capture.specs.declared.packet.Stamp.{Stamp}
use Rattle.mux_capture.specs.Passing.{Caught}
use Rattle.mux_station.specs.declared.role.Role.{Role}
use Rattle.mux_station.specs.Acts.{Act, Got, Sent}
use Rattle.mux_station.specs.Written.{is_kind}
use Rattle.mux_station.specs.Messages.{Message, message_in, is_command, response_of, nsc, cld, brings_command, brings_response}
use Rattle.mux_station.specs.Opening.{is_mode_frame_on}
use Rattle.mux_station.specs.Tables.{is_supported}
use Rattle.modem_show.specs.Ways.{is_from, other, sender}

-- a SABM or a DISC, which UA or DM answers
abbrev pub is_mode_command : Frame → Bool
is_mode_command f = is_kind f.kind Sabm || is_kind f.kind Disc

abbrev pub is_mode_answer : Frame → Bool
is_mode_answer f = is_kind f.kind Ua || is_kind f.kind Dm

-- every control command but NSC asks for its response
abbrev pub message_asks : Option Message → Bool
message_asks None = false
message_asks (Some m) = is_command m && not (m.octet == nsc)

abbrev pub message_answers : Option Message → Bool
message_answers None = false
message_answers (Some m) = not (is_command m)

-- the frame asks for an answer; the frame is an answer
abbrev pub is_ask : Frame → Bool
is_ask f = is_mode_command f || message_asks (message_in f)

abbrev pub is_answer : Frame → Bool
is_answer f = is_mode_answer f || message_answers (message_in f)

-- the value of an NSC names this type, as a command or as its response
abbrev pub names : ℕ → List ℕ → Bool
names octet (x ∷ []) = (x == octet) || (x == response_of octet)
names octet _ = false

-- a message responds to a command: it is its response, with the same value where the table has the command, or an NSC that names it
abbrev pub responds : Message → Message → Bool
responds command m =
    ((m.octet == response_of command.octet) && (not (is_supported command.octet) || bytes_eq m.value command.value))
    || ((m.octet == response_of nsc) && names command.octet m.value)

abbrev pub both_respond : Option Message → Option Message → Bool
both_respond None m = false
both_respond (Some a) None = false
both_respond (Some a) (Some m) = message_asks (Some a) && responds a m

-- g answers f
abbrev pub answers : Frame → Frame → Bool
answers f g =
    ((is_mode_command f && is_mode_answer g) && (f.dlci == g.dlci)) || both_respond (message_in f) (message_in g)

-- A frame that asks and waits for its answer. It is excused where none has to come any more: another one like it was answered,
-- or it is a message and 0 was closed or opened anew.
pub record Ask : Type 0 where
  pub stamp : Stamp
  pub frame : Frame
  pub is_excused : Bool

-- a SABM or DISC that may have been answered before: another one like it was, so that it was sent again, or was lost
abbrev pub is_again : Ask → Bool
is_again a = is_mode_command a.frame && a.is_excused

-- one of d waits
abbrev pub is_in_doubt : ℕ → List Ask → Bool
is_in_doubt d asks = list_any (λ a. is_again a && (a.frame.dlci == d)) asks

-- 0 is closed or opened anew by this frame, so that the messages before it needn't be answered any more. An end that has sent a CLD
-- answers nothing but a CLD, so what comes to it drops at the response. One that is closed down by a CLD has that answered.
abbrev pub drops : Frame → Frame → Bool
drops g f =
    is_kind f.kind Uih
    && (is_mode_frame_on 0 g || ((brings_command cld g || brings_response cld g) && not (brings_command cld f)))

-- Behind this act of an end no answer to its f has to come. What it sends answers nothing that it asked itself.
abbrev pub excuses : Act → Frame → Bool
excuses (Got g) f = answers f g || drops g f
excuses (Sent g) f = drops g f
excuses _ f = false

-- an ask of an end behind this act of it
abbrev pub excused_by : Act → Ask → Ask
excused_by act a = record a { is_excused = a.is_excused || excuses act a.frame }

-- the ask that a frame answers: the newest that it can answer
abbrev pub answered_by : Frame → List Ask → Option Ask
answered_by g asks = find (λ a. answers a.frame g) asks

-- the asks without it
abbrev pub unanswered_by : Frame → List Ask → List Ask
unanswered_by g asks = remove asks (position_or_len (λ a. answers a.frame g) asks)

-- what is newly asked with a frame that passes at this time
abbrev pub asked_with : Stamp → Frame → List Ask
asked_with stamp f = if is_ask f then record { stamp = stamp; frame = f; is_excused = false } ∷ [] else []

-- the asks of an end that wait for their answer, the newest first
abbrev pub waiting : Role → List Caught → List Ask
waiting r [] = []
waiting r (c ∷ line) =
    if is_from r c then map (excused_by (Sent c.frame)) (asked_with c.stamp c.frame ++ waiting r line)
    else map (excused_by (Got c.frame)) (unanswered_by c.frame (waiting r line))

-- the kind of the frame that a frame answers, behind those that passed before it
abbrev pub answered_kind : List Caught → Caught → Option Kind
answered_kind line c =
    option_map (λ a. a.frame.kind) (answered_by c.frame (waiting (other (sender c.direction)) line))
