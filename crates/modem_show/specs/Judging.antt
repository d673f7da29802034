-- What is wrong with a frame, behind the frames that passed before it.
use Rattle.std.specs.Prelude.{◌≡◌, ℕ, ◌+◌, ◌==◌, ◌&&◌, ◌||◌, not, nat_lt, is_none, Bool, false, List, [], ◌∷◌, length, filter, Option, None, Some}
use Rattle.std.specs.List.{list_all}
use Rattle.mux_frame.specs.Frames.{Frame}
use Rattle.mux_capture.specs.Passing.{Caught}
use Rattle.mux_station.specs.declared.role.Role.{Role}
use Rattle.mux_station.specs.declared.role.Role.TheVariants.{Initiator, Responder}
use Rattle.mux_station.specs.Written.{is_data_frame}
use Rattle.mux_station.specs.Messages.{Message, message_of}
use Rattle.mux_station.specs.Tables.{is_supported}
use Rattle.mux_station.specs.Opening.{is_open}
use Rattle.mux_station.specs.Stopping.{is_stopped}
use Rattle.at_text.specs.Commands.{is_printable}
use Rattle.at_text.specs.Lines.{is_line_end}
use Rattle.modem_show.specs.declared.faults.Faults.{Faults}
use Rattle.modem_show.specs.Ways.{sender, other}
use Rattle.modem_show.specs.Asking.{Ask, is_answer, is_in_doubt, answered_by, waiting}
use Rattle.modem_show.specs.Ends.{End, EndFits, own, is_open_at, is_stopped_at}

-- an answer that nothing waits for: it came twice, or unasked
abbrev pub is_unasked : List Caught → Caught → Bool
is_unasked line c =
    is_answer c.frame && is_none (answered_by c.frame (waiting (other (sender c.direction)) line))

-- Data on a connection that isn't open for the end that sends it, nor may be so because a SABM or DISC was sent to it again, whose
-- answer isn't told from that of another one.
abbrev pub is_unopened : List Caught → Caught → Bool
is_unopened line c =
    let r = sender c.direction in
    is_data_frame c.frame
    && not (is_open r c.frame.dlci (own r line) || is_in_doubt c.frame.dlci (waiting (other r) line))

-- data of an end that has answered what stops it
abbrev pub is_unstopped : List Caught → Caught → Bool
is_unstopped line c =
    let r = sender c.direction in is_data_frame c.frame && is_stopped r c.frame.dlci (own r line)

-- more information than N1 allows
abbrev pub is_too_long : ℕ → Caught → Bool
is_too_long n1 c = nat_lt n1 (length c.frame.info)

-- the information is one whole control message, of a supported type
abbrev pub is_message : List ℕ → Option Message → Bool
is_message info None = false
is_message info (Some m) = is_supported m.octet && (length info == length m.value + 2)

-- octets of lines: printable ones, CR and LF
abbrev pub is_text : List ℕ → Bool
is_text octets = list_all (λ c. is_printable c || is_line_end c) octets

-- a control message on a connection of data, which a part of a line isn't
abbrev pub is_astray : Frame → Bool
is_astray f = is_data_frame f && (is_message f.info (message_of f.info) && not (is_text f.info))

-- all that is wrong with it
abbrev pub faults_of : ℕ → List Caught → Caught → Faults
faults_of n1 line c = record {
  unasked = is_unasked line c;
  unopened = is_unopened line c;
  unstopped = is_unstopped line c;
  too_long = is_too_long n1 c;
  astray = is_astray c.frame;
}

-- what is wrong with each of these frames, the first of which comes first, behind those that passed before
abbrev pub faults_from : ℕ → List Caught → List Caught → List Faults
faults_from n1 line [] = []
faults_from n1 line (c ∷ more) = faults_of n1 line c ∷ faults_from n1 (c ∷ line) more

-- what an end asked and was never answered, the newest first
abbrev pub unanswered : Role → List Caught → List Ask
unanswered r line = filter (λ a. not a.is_excused) (waiting r line)

-- ## What is kept of a line

-- of one end: the end, and what it asked
pub record Side : Type 0 where
  pub end : End
  pub asks : List Ask

-- what is kept of an end is what these frames say
pub record SideFits (r : Role) (s : Side) (line : List Caught) : Type 0 where
  pub role : s.end.role ≡ r
  pub asks : s.asks ≡ waiting r line
  pub end : EndFits s.end (own r line)

-- what is wrong with a frame of an end, by what is kept of it, and whether it is unasked, or its connection in doubt
abbrev pub faults_at : ℕ → Side → Frame → (unasked in_doubt : Bool) → Faults
faults_at n1 s f unasked in_doubt = record {
  unasked = unasked;
  unopened = is_data_frame f && not (is_open_at s.end f.dlci || in_doubt);
  unstopped = is_data_frame f && is_stopped_at s.end f.dlci;
  too_long = nat_lt n1 (length f.info);
  astray = is_astray f;
}

-- N1, and both ends
pub record Watch : Type 0 where
  pub n1 : ℕ
  pub initiator : Side
  pub responder : Side

-- what is kept is what these frames say
pub record WatchFits (w : Watch) (line : List Caught) : Type 0 where
  pub initiator : SideFits Initiator w.initiator line
  pub responder : SideFits Responder w.responder line

-- both ends are kept on by a frame of the first
pub record Passes (c : Caught) (from to from_after to_after : Side) : Type 0 where
  pub fits :
      (line : List Caught) → SideFits (sender c.direction) from line → SideFits (other (sender c.direction)) to line
      → SideFits (sender c.direction) from_after (c ∷ line)
      × SideFits (other (sender c.direction)) to_after (c ∷ line)

-- what is wrong with a frame of the first end
pub record JudgedBy (n1 : ℕ) (c : Caught) (from to : Side) (faults : Faults) : Type 0 where
  pub says :
      (line : List Caught) → SideFits (sender c.direction) from line → SideFits (other (sender c.direction)) to line
      → faults ≡ faults_of n1 line c
