-- The laws of a history.
use Rattle.std.specs.Prelude.{◌≡◌, ℕ, ◌+◌, ◌<◌, ◌==◌, ◌||◌, not, nat_eq, nat_le, Bool, true, false, IsTrue, List, [], ◌∷◌, ◌++◌, length, drop, if◌then◌else◌}
use Rattle.std.specs.List.{starts_with, concat}
use Rattle.mux_frame.specs.Frames.{Frame}
use Rattle.mux_frame.specs.declared.frame.Kind.TheVariants.{Uih}
use Rattle.mux_station.specs.Written.{written, is_data_frame}
use Rattle.mux_station.specs.Opening.{is_open}
use Rattle.mux_station.specs.Stopping.{is_stopped}
use Rattle.at_text.specs.Windows.{answered}
use Rattle.mux_station.specs.Sending.{queue}
use Rattle.modem_history.specs.Acts.{Act, Took, Got, Sent, Told, Heard, Tick, Lost, Held, Freed, Given, wire}
use Rattle.modem_history.specs.Information.{accepted, texts, information_out}
use Rattle.modem_history.specs.Placing.{marks, reached_in, whole_in}
use Rattle.modem_history.specs.Holding.{OnHeld}
use Rattle.modem_history.specs.Calls.{Setting, calls_behind, is_lost}

-- the acts that send no frame: a loss of the line leaves no frame to be sent
abbrev pub unsent : List Act → List Act
unsent [] = []
unsent (Sent f ∷ acts) = unsent acts
unsent (a ∷ acts) = a ∷ unsent acts

-- what is owed after one act more: what was called for and doesn't stand in the past yet, in order
abbrev pub owed_after : Setting → List Act → List Act → Act → List Act
owed_after s past owing (Sent f) = if is_data_frame f then owing else drop 1 owing
owed_after s past owing (Told o) = drop 1 owing
owed_after s past owing (Heard kind d line) = drop 1 owing
owed_after s past owing Given = owing
owed_after s past owing Lost = unsent owing ++ calls_behind s past owing Lost
owed_after s past owing a = owing ++ calls_behind s past owing a

abbrev pub owed : Setting → List Act → List Act
owed s [] = []
owed s (a ∷ past) = owed_after s past (owed s past) a

-- ## The laws of a data frame

-- The line isn't lost. The frame leaves an open connection that isn't stopped, as this end writes it, with 1 to N1
-- octets of information. Nothing is owed, and every control frame is given on: so the order of frames sent is that on
-- the line.
pub record Gated (s : Setting) (past owing : List Act) (f : Frame) : Type 0 where
  pub live : is_lost past ≡ false
  pub is_open : is_open s.role f.dlci (wire past) ≡ true
  pub goes : is_stopped s.role f.dlci (wire past) ≡ false
  pub as_written : f ≡ written s.role Uih f.dlci f.info
  pub some : IsTrue (nat_le 1 (length f.info))
  pub fits : IsTrue (nat_le (length f.info) s.n1)
  pub behind : owing ≡ []
  pub alone : queue (wire past) ≡ []

-- what left goes on to be a prefix of what was accepted
abbrev pub Once : Setting → List Act → Frame → Type 0
Once s past f =
    IsTrue (starts_with nat_eq (concat (texts (accepted s.role f.dlci past)))
    (information_out s.role f.dlci past ++ f.info))

-- a data frame reaches into a command only if the commands before have their final codes
abbrev pub InTurn : Setting → List Act → Frame → Type 0
InTurn s past f =
    IsTrue (nat_le (reached_in (length (information_out s.role f.dlci past ++ f.info))
    (texts (accepted s.role f.dlci past))) (answered s.dialect (marks s.role f.dlci past) + 1))

-- ## The laws of an act

-- the act is the next of what is owed
pub record IsNext (owing : List Act) (a : Act) : Type 0 where
  pub later : List Act
  pub is_next : owing ≡ a ∷ later

-- a fact, or nothing
abbrev pub When : Bool → Type 0 → Type 0
When true P = P
When false P = Unit {0}

-- the law of each data frame
abbrev pub OnData : (Frame → Type 0) → Act → Type 0
OnData law (Sent f) = When (is_data_frame f) (law f)
OnData law _ = Unit {0}

abbrev pub OnControl : List Act → Act → Type 0
OnControl owing (Sent f) = When (not (is_data_frame f)) (IsNext owing (Sent f))
OnControl owing _ = Unit {0}

abbrev pub OnTold : List Act → Act → Type 0
OnTold owing (Told o) = IsNext owing (Told o)
OnTold owing _ = Unit {0}

abbrev pub OnHeard : List Act → Act → Type 0
OnHeard owing (Heard kind d line) = IsNext owing (Heard kind d line)
OnHeard owing _ = Unit {0}

-- a frame is owed
abbrev pub owes_frame : List Act → Bool
owes_frame [] = false
owes_frame (Sent f ∷ owing) = true
owes_frame (_ ∷ owing) = owes_frame owing

-- a call begins where no frame is owed, since what it calls for goes by the states after all frames; outcomes
-- and lines may be late, and a loss of the line may come at any time
abbrev pub OnFirst : List Act → Act → Type 0
OnFirst owing (Took r) = owes_frame owing ≡ false
OnFirst owing (Got f) = owes_frame owing ≡ false
OnFirst owing Tick = owes_frame owing ≡ false
OnFirst owing (Held d) = owes_frame owing ≡ false
OnFirst owing (Freed d) = owes_frame owing ≡ false
OnFirst owing _ = Unit {0}

abbrev pub some_wait : List Frame → Bool
some_wait [] = false
some_wait (f ∷ fs) = true

-- a frame is given on where one waits
abbrev pub OnGiven : List Act → Act → Type 0
OnGiven past Given = some_wait (queue (wire past)) ≡ true
OnGiven past _ = Unit {0}

-- the act may follow the past, where this is owed: a control frame, an outcome or a line is the next act owed
pub record Allows (s : Setting) (past owing : List Act) (a : Act) : Type 0 where
  pub gated : OnData (Gated s past owing) a
  pub once : OnData (Once s past) a
  pub in_turn : OnData (InTurn s past) a
  pub controlled : OnControl owing a
  pub answered : OnTold owing a
  pub heard : OnHeard owing a
  pub prompt : OnFirst owing a
  pub held : OnHeld s.role past a
  pub marked : OnGiven past a

-- each act may follow what went before it
unfoldable pub Lawful : Setting → List Act → Type 0
Lawful s [] = Unit {0}
Lawful s (a ∷ past) = Allows s past (owed s past) a × Lawful s past

-- nothing is owed
unfoldable pub Complete : Setting → List Act → Type 0
Complete s past = owed s past ≡ []

-- each open connection but 0 that isn't stopped waits for one answer, or has them all
abbrev pub is_quiet_on : Setting → ℕ → List Act → Bool
is_quiet_on s d past =
    let ts = texts (accepted s.role d past) in
    let given = answered s.dialect (marks s.role d past) in
    (length ts == given) || (whole_in (length (information_out s.role d past)) ts == given + 1)

unfoldable pub Quiet : Setting → List Act → Type 0
Quiet s past =
    (d : ℕ) → d < 62 → (d == 0) ≡ false → is_open s.role d (wire past) ≡ true
    → is_stopped s.role d (wire past) ≡ false
    → is_quiet_on s d past ≡ true

-- the history is lawful, complete and quiet
pub record Keeps (s : Setting) (past : List Act) : Type 0 where
  pub lawful : Lawful s past
  pub complete : Complete s past
  pub quiet : Quiet s past
