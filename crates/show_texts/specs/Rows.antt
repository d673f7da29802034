-- Worked examples of what is printed. All times are 0.
use Rattle.std.specs.Prelude.{◌≡◌, List, ℕ, [], ◌∷◌, ◌++◌, codes}
use Rattle.std.proofs.Common.{lit<}
use Rattle.at_text.specs.Rules.{no_rules}
use Rattle.mux_frame.specs.declared.frame.Kind.TheVariants.{Sabm, Ua, Dm, Disc, Uih}
use Rattle.mux_capture.specs.Passing.{Caught}
use Rattle.modem_show.specs.Rows.{back, lines_of, opened_0, opened_1, out, probe, stop, text}
use Rattle.show_texts.specs.Tallies.{no_tally, total_text}
use Rattle.show_texts.specs.Telling.{Setting, frame_text}
use Rattle.show_texts.specs.Words.{span_text, time_text}

-- N1 is 31, there are no codes but the standard's, and no connection is one of data
abbrev pub plain : Setting
plain = record { n1 = 31; rules = no_rules; data_channels = [] }

-- 1 is one of data
abbrev pub with_data : Setting
with_data = record plain { data_channels = record { number = 1; in_range = lit< tt } ∷ [] }

-- what is printed of a frame behind these, the first of which comes first
abbrev pub printed : Setting → List Caught → Caught → List ℕ
printed s before c = frame_text s (lines_of [] before) c

abbrev pub line : List ℕ → List ℕ
line said = 13 ∷ 10 ∷ (said ++ 13 ∷ 10 ∷ [])

pub record ArePrinted : Type 0 where
  pub time : time_text (record { seconds = 1795709759; micros = 100 }) ≡ codes "1795709759.000100"
  pub span : span_text 61250100 ≡ codes "61.250100"
  -- openings and closings, and an answer to nothing
  pub asked : printed plain [] (out Sabm 1 []) ≡ codes "0.000000 > open 1\n"
  pub opened : printed plain (out Sabm 1 [] ∷ []) (back Ua 1 []) ≡ codes "0.000000 < opened 1\n"
  pub refused : printed plain (out Sabm 1 [] ∷ []) (back Dm 1 []) ≡ codes "0.000000 < refused 1\n"
  pub closed : printed plain (out Disc 1 [] ∷ []) (back Ua 1 []) ≡ codes "0.000000 < closed 1\n"
  pub unasked :
      printed plain opened_0 (back Ua 0 [])
      ≡ codes "0.000000 < UA 0\n0.000000 < ! 0 an answer that nothing waits for: it came twice, or unasked: f9037301d7f9\n"
  -- control messages
  pub stopped : printed plain opened_1 (back Uih 0 stop) ≡ codes "0.000000 < status 1 stop\n"
  pub probed : printed plain opened_1 (out Uih 0 probe) ≡ codes "0.000000 > test 41\n"
  -- lines
  pub command : printed plain opened_1 (out Uih 1 text) ≡ codes "0.000000 > command 1 AT\n"
  pub answered :
      printed plain (opened_1 ++ out Uih 1 text ∷ []) (back Uih 1 (line (codes "OK")))
      ≡ codes "0.000000 < answered 1 0.000000 OK\n"
  pub heard : printed plain opened_1 (back Uih 1 (line (codes "RING"))) ≡ codes "0.000000 < heard RING 1 RING\n"
  pub cut : printed plain opened_1 (out Uih 1 (codes "A")) ≡ []
  pub unopened :
      printed plain opened_0 (out Uih 1 text)
      ≡ codes "0.000000 > command 1 AT\n0.000000 > ! 1 data on a connection that isn't open: f907ef0741540dd3f9\n"
  pub data_counted : printed with_data opened_1 (out Uih 1 text) ≡ codes "0.000000 > data 1 3\n"
  -- the counts of a connection; of one of which nothing came nothing is printed
  pub total :
      total_text 1 (record no_tally { commands = 2; answered = 1; longest = 250100; reports = 1 })
      ≡ codes "total 1 commands 2 answered 1 longest 0.250100 reports 1 data 0\n"
  pub no_total : total_text 1 no_tally ≡ []
