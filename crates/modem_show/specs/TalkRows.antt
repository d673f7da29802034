-- Worked examples of what is said on a connection.
use Rattle.std.specs.Prelude.{◌≡◌, ℕ, true, false, Bool, List, [], ◌∷◌, ◌++◌, map, codes}
use Rattle.std.proofs.Common.{lit<}
use Rattle.mux_frame.specs.declared.dlci.Dlci.{Dlci}
use Rattle.mux_frame.specs.declared.frame.Kind.TheVariants.{Sabm, Ua, Disc, Uih}
use Rattle.mux_capture.specs.Passing.{Caught}
use Rattle.at_text.specs.Dialects.{standard}
use Rattle.at_text.specs.Seeing.{answer_lines}
use Rattle.at_text.specs.declared.unsolicited.UrcKind.TheVariants.{Ring}
use Rattle.at_text.specs.declared.window.Seen.TheVariants.{Echo, Done, Unsolicited}
use Rattle.modem_show.specs.declared.told.Told.{Told}
use Rattle.modem_show.specs.declared.told.Told.TheVariants.{Command, Text, Line}
use Rattle.modem_show.specs.Rows.{out, back, opened_0, opened_1, lines_of}
use Rattle.modem_show.specs.Talking.{told_in, overlaps, is_unprompted, is_unfinished}

-- what each of these frames tells, the first of which comes first, behind those that passed before
abbrev pub told_from : List Dlci → List Caught → List Caught → List Told
told_from data_channels line [] = []
told_from data_channels line (c ∷ more) =
    told_in standard data_channels line c ++ told_from data_channels (c ∷ line) more

-- frames of 1, once it is open
abbrev pub told_of_1 : List Caught → List Told
told_of_1 frames = told_from [] [] (opened_1 ++ frames)

-- a line of the driver, and one of the modem
abbrev pub asks : List ℕ → Caught
asks text = out Uih 1 (text ++ 13 ∷ [])

abbrev pub says : List ℕ → Caught
says text = back Uih 1 (13 ∷ 10 ∷ (text ++ 13 ∷ 10 ∷ []))

abbrev pub at : List ℕ
at = codes "AT"

abbrev pub ok : List ℕ
ok = codes "OK"

-- the command, with none under way, and the line that ends its answer
abbrev pub command : Told
command = Command at false

abbrev pub done : Told
done = Line ok (Done (answer_lines (ok ∷ [])))

abbrev pub which_overlap : List Told → List Bool
which_overlap told = map overlaps told

abbrev pub which_unprompted : List Told → List Bool
which_unprompted told = map (is_unprompted standard) told

pub record AreTold : Type 0 where
  pub answered : told_of_1 (asks at ∷ says ok ∷ []) ≡ command ∷ done ∷ []
  -- a second command before the answer, and after it
  pub overlapping : which_overlap (told_of_1 (asks at ∷ asks at ∷ [])) ≡ false ∷ true ∷ []
  pub in_turn : which_overlap (told_of_1 (asks at ∷ says ok ∷ asks at ∷ [])) ≡ false ∷ false ∷ false ∷ []
  -- an answer to nothing; a report to nothing, and one among the lines of an answer
  pub alone : which_unprompted (told_of_1 (says ok ∷ [])) ≡ true ∷ []
  pub report : which_unprompted (told_of_1 (says (codes "RING") ∷ [])) ≡ false ∷ []
  pub report_inside :
      told_of_1 (asks at ∷ says (codes "RING") ∷ says ok ∷ [])
      ≡ command ∷ Line (codes "RING") (Unsolicited Ring) ∷ done ∷ []
  pub echo : told_of_1 (asks at ∷ says at ∷ says ok ∷ []) ≡ command ∷ Line at Echo ∷ done ∷ []
  -- octets cut between frames
  pub cut_anywhere :
      told_of_1 (out Uih 1 (65 ∷ []) ∷ asks (84 ∷ []) ∷ back Uih 1 (13 ∷ 10 ∷ 79 ∷ []) ∷ back Uih 1 (75 ∷ 13 ∷ []) ∷ [])
      ≡ command ∷ done ∷ []
  -- an answer that comes once the connection was closed and opened again answers nothing
  pub reopened :
      which_unprompted
      (told_of_1 (asks at ∷ out Disc 1 [] ∷ back Ua 1 [] ∷ out Sabm 1 [] ∷ back Ua 1 [] ∷ says ok ∷ []))
      ≡ false ∷ true ∷ []
  -- a SABM that was sent again, whose UA comes behind the command
  pub sent_again :
      which_unprompted
      (told_from [] []
      (opened_0 ++ (out Sabm 1 [] ∷ out Sabm 1 [] ∷ back Ua 1 [] ∷ asks at ∷ back Ua 1 [] ∷ says ok ∷ [])))
      ≡ false ∷ false ∷ []
  -- one that crosses the DISC of its connection, or the CLD, answers its command; once that is answered it doesn't
  pub crosses_close :
      which_unprompted (told_of_1 (asks at ∷ out Disc 1 [] ∷ says ok ∷ [])) ≡ false ∷ false ∷ []
  pub crosses_down :
      which_unprompted (told_of_1 (asks at ∷ out Uih 0 (0xc3 ∷ 1 ∷ []) ∷ says ok ∷ [])) ≡ false ∷ false ∷ []
  pub behind_close :
      which_unprompted (told_of_1 (asks at ∷ out Disc 1 [] ∷ back Ua 1 [] ∷ says ok ∷ [])) ≡ false ∷ true ∷ []
  -- data has no lines, and another text of the driver is no command
  pub as_data : told_from (record { number = 1; in_range = lit< tt } ∷ []) [] (opened_1 ++ (asks at ∷ says ok ∷ [])) ≡ []
  pub other_text : told_of_1 (asks (codes "hello") ∷ []) ≡ Text (codes "hello") ∷ []
  -- a command without an answer at the end, and with it
  pub unfinished : is_unfinished standard [] 1 (lines_of [] (opened_1 ++ asks at ∷ [])) ≡ true
  pub finished : is_unfinished standard [] 1 (lines_of [] (opened_1 ++ (asks at ∷ says ok ∷ []))) ≡ false
