-- What is printed.
use Rattle.std.specs.Prelude.{ℕ, List, [], ◌∷◌, ◌++◌, codes}
use Rattle.std.specs.List.{flat_map}
use Rattle.std.specs.Int.{from_bool}
use Rattle.std.specs.Fmt.{decimal}
use Rattle.hex.specs.Hex.{encode_lower}
use Rattle.at_text.specs.Rules.{Rules, name_of}
use Rattle.mux_frame.specs.Frames.{Frame}
use Rattle.mux_frame.specs.Spelling.{spelled}
use Rattle.mux_frame.specs.declared.frame.Kind.{Kind}
use Rattle.modem_desk.specs.declared.request.Ask.{Ask}
use Rattle.modem_desk.specs.declared.request.Ask.TheVariants as ask
use Rattle.ctl_text.specs.Texts.{answer_text, line_text, lines_text, named_text, urc_text}
use Rattle.modem_history.specs.Acts.{Act}

abbrev pub kind_text : Kind → List ℕ
kind_text Kind.Sabm = codes "SABM"
kind_text Kind.Ua = codes "UA"
kind_text Kind.Dm = codes "DM"
kind_text Kind.Disc = codes "DISC"
kind_text Kind.Uih = codes "UIH"

-- octets in hexadecimal, or `-` where there is none
abbrev pub octets_text : List ℕ → List ℕ
octets_text [] = codes "-"
octets_text (x ∷ octets) = encode_lower (x ∷ octets)

-- a frame: connection, kind, C/R, P/F and information
abbrev pub frame_text : Frame → List ℕ
frame_text f =
    decimal f.dlci ++ codes " " ++ kind_text f.kind ++ codes " " ++ decimal (from_bool f.cr) ++ codes " "
    ++ decimal (from_bool f.pf) ++ codes " "
    ++ octets_text f.info ++ codes "\n"

abbrev pub rest_text : List ℕ → List ℕ
rest_text rest = codes "rest " ++ octets_text rest ++ codes "\n"

-- what `frames` prints
abbrev pub frames_text : List Frame → List ℕ → List ℕ
frames_text frames rest = flat_map frame_text frames ++ rest_text rest

abbrev pub ask_text : Ask → List ℕ
ask_text (ask.OpenChannel d) = codes "open " ++ decimal d.number
ask_text (ask.CloseChannel d) = codes "close " ++ decimal d.number
ask_text (ask.Command d line) = codes "cmd " ++ decimal d.number ++ codes " " ++ line_text line
ask_text (ask.Probe octets) = codes "probe " ++ encode_lower octets
ask_text ask.Stop = codes "stop"

-- an act; `Given` isn't one
abbrev pub act_text : Act → List ℕ
act_text (Act.Took q) = codes "took " ++ decimal q.number ++ codes " " ++ ask_text q.ask ++ codes "\n"
act_text (Act.Got f) = codes "got " ++ frame_text f
act_text (Act.Sent f) = codes "sent " ++ encode_lower (spelled f) ++ codes "\n"
act_text (Act.Told o) =
    codes "told " ++ decimal o.number ++ codes " " ++ answer_text o.answer ++ codes "\n"
    ++ lines_text o.answer
act_text (Act.Heard kind d line) =
    codes "heard " ++ urc_text kind ++ codes " " ++ decimal d ++ codes " " ++ line_text line ++ codes "\n"
act_text Act.Tick = codes "tick\n"
act_text Act.Lost = codes "lost\n"
act_text (Act.Held d) = codes "held " ++ decimal d ++ codes "\n"
act_text (Act.Freed d) = codes "freed " ++ decimal d ++ codes "\n"
act_text Act.Given = []

-- what `replay` prints
abbrev pub acts_text : List Act → List ℕ
acts_text acts = flat_map act_text acts

-- ## At a modem with rules of its own

-- an act: lines of its own kinds are heard under their names
abbrev pub act_text_by : Rules → Act → List ℕ
act_text_by rules (Act.Heard kind d line) =
    codes "heard " ++ named_text (name_of rules kind) kind ++ codes " " ++ decimal d ++ codes " " ++ line_text line
    ++ codes "\n"
act_text_by rules a = act_text a

abbrev pub acts_text_by : Rules → List Act → List ℕ
acts_text_by rules acts = flat_map (act_text_by rules) acts
