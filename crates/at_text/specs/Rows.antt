-- Worked examples of lines and windows.
use Rattle.std.specs.Prelude.{◌≡◌, ℕ, List, [], ◌∷◌, ◌++◌, Some, None, codes}
use Rattle.at_text.specs.declared.finals.Final.TheVariants.{Good, Error, Cme}
use Rattle.at_text.specs.declared.unsolicited.UrcKind.TheVariants.{Ring, Creg, Cgreg}
use Rattle.at_text.specs.declared.window.Seen.{Seen}
use Rattle.at_text.specs.declared.window.Seen.TheVariants.{Echo, Kept, Done, Unsolicited, Other}
use Rattle.at_text.specs.Dialects.{standard}
use Rattle.at_text.specs.Finals.{final_of}
use Rattle.at_text.specs.Lines.{lines, unfinished}
use Rattle.at_text.specs.Unsolicited.{unsolicited_of}
use Rattle.at_text.specs.Windows.{Mark, Line, Begun, answers}
use Rattle.at_text.specs.Seeing.{answer_lines, seen_in}

-- a line as a modem writes it (V.250, 5.7.1)
abbrev pub written : List ℕ → List ℕ
written line = 13 ∷ 10 ∷ line ++ 13 ∷ 10 ∷ []

pub record AreLines : Type 0 where
  pub two :
      lines (written (codes "+CSQ: 18,99") ++ written (codes "OK")) ≡ codes "+CSQ: 18,99" ∷ codes "OK" ∷ []
  pub none : lines (13 ∷ 10 ∷ 13 ∷ 10 ∷ []) ≡ []
  pub by_lf : lines (codes "RING" ++ 10 ∷ codes "OK") ≡ codes "RING" ∷ []
  pub rest : unfinished (codes "RING" ++ 10 ∷ codes "OK") ≡ codes "OK"

pub record AreFinals : Type 0 where
  pub good : final_of (codes "OK") ≡ Some Good
  pub error : final_of (codes "ERROR") ≡ Some Error
  pub lower : final_of (codes "ok") ≡ None
  pub longer : final_of (codes "OK ") ≡ None
  pub one_digit : final_of (codes "+CME ERROR: 3") ≡ Some (Cme (Some 3))
  pub no_blank : final_of (codes "+CME ERROR:30") ≡ Some (Cme (Some 30))
  pub nine_digits : final_of (codes "+CME ERROR:  123456789") ≡ Some (Cme (Some 123456789))
  pub ten_digits : final_of (codes "+CME ERROR: 1234567890") ≡ Some (Cme None)
  pub behind : final_of (codes "+CME ERROR: 3 ") ≡ Some (Cme None)
  pub words : final_of (codes "+CME ERROR: SIM PIN required") ≡ Some (Cme None)
  pub nothing : final_of (codes "+CME ERROR:") ≡ Some (Cme None)

pub record AreReports : Type 0 where
  pub status : unsolicited_of (codes "+CREG: 2") ≡ Some Creg
  pub no_blank : unsolicited_of (codes "+CREG:2") ≡ Some Creg
  pub cell : unsolicited_of (codes "+CREG: 1, \"00A1\",\"01B2C3D4\",7") ≡ Some Creg
  pub query : unsolicited_of (codes "+CREG: 0,1") ≡ None
  pub query_cell : unsolicited_of (codes "+CREG: 2,1,\"00A1\",\"01B2C3D4\"") ≡ None
  pub test : unsolicited_of (codes "+CREG: (0-2)") ≡ None
  pub empty : unsolicited_of (codes "+CREG:") ≡ None
  pub packet : unsolicited_of (codes "+CGREG: 5") ≡ Some Cgreg
  pub packet_query : unsolicited_of (codes "+CGREG: 0,5") ≡ None

-- what the lines are, and what the commands' answers are
pub record Reads (marks : List Mark) (seen : List Seen) (given : List (List (List ℕ))) : Type 0 where
  pub each : seen_in standard marks ≡ seen
  pub all : answers standard marks ≡ given

abbrev pub done : List (List ℕ) → Seen
done ls = Done (answer_lines ls)

abbrev pub signal : List (List ℕ)
signal = codes "+CSQ: 18,99" ∷ codes "OK" ∷ []

abbrev pub RingInside : Type 0
RingInside =
    Reads
    (Begun (codes "AT+CSQ") ∷ Line (codes "+CSQ: 18,99") ∷ Line (codes "RING") ∷ Line (codes "OK") ∷ [])
    (Kept ∷ Unsolicited Ring ∷ done signal ∷ [])
    (signal ∷ [])

abbrev pub CregBoth : Type 0
CregBoth =
    Reads
    (Begun (codes "AT+CREG?") ∷ Line (codes "+CREG: 2") ∷ Line (codes "+CREG: 0,1") ∷ Line (codes "OK") ∷ [])
    (Unsolicited Creg ∷ Kept ∷ done (codes "+CREG: 0,1" ∷ codes "OK" ∷ []) ∷ [])
    ((codes "+CREG: 0,1" ∷ codes "OK" ∷ []) ∷ [])

abbrev pub CgregBoth : Type 0
CgregBoth =
    Reads
    (Begun (codes "AT+CGREG?") ∷ Line (codes "+CGREG: 2") ∷ Line (codes "+CGREG: 0,1") ∷ Line (codes "OK")
    ∷ [])
    (Unsolicited Cgreg ∷ Kept ∷ done (codes "+CGREG: 0,1" ∷ codes "OK" ∷ []) ∷ [])
    ((codes "+CGREG: 0,1" ∷ codes "OK" ∷ []) ∷ [])

abbrev pub EarlyOk : Type 0
EarlyOk =
    Reads
    (Line (codes "OK") ∷ Begun (codes "AT+CSQ") ∷ Line (codes "OK") ∷ Line (codes "OK") ∷ [])
    (Other ∷ done (codes "OK" ∷ []) ∷ Other ∷ [])
    ((codes "OK" ∷ []) ∷ [])

abbrev pub EchoOnce : Type 0
EchoOnce =
    Reads
    (Begun (codes "AT+CSQ") ∷ Line (codes "RING") ∷ Line (codes "AT+CSQ") ∷ Line (codes "AT+CSQ")
    ∷ Line (codes "OK") ∷ [])
    (Unsolicited Ring ∷ Echo ∷ Kept ∷ done (codes "AT+CSQ" ∷ codes "OK" ∷ []) ∷ [])
    ((codes "AT+CSQ" ∷ codes "OK" ∷ []) ∷ [])

abbrev pub TwoCommands : Type 0
TwoCommands =
    Reads
    (Begun (codes "AT") ∷ Line (codes "ERROR") ∷ Begun (codes "AT+CSQ") ∷ Line (codes "+CSQ: 18,99")
    ∷ Line (codes "OK") ∷ [])
    (done (codes "ERROR" ∷ []) ∷ Kept ∷ done signal ∷ [])
    ((codes "ERROR" ∷ []) ∷ signal ∷ [])
