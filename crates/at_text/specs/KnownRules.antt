-- The rules of the dialects that come ready.
use Rattle.std.specs.Prelude.{List, [], ◌∷◌, codes}
use Rattle.at_text.specs.declared.rules.Form.TheVariants.{Line, Prefix, Quoted, OpenReport}
use Rattle.at_text.specs.declared.rules.Pattern.{Pattern}
use Rattle.at_text.specs.declared.rules.Urc.{Urc}
use Rattle.at_text.specs.Rules.{Rules, pattern, urc}

-- message service failures (27.005, 3.2.5)
abbrev pub cms_error : Pattern
cms_error = pattern Prefix (codes "+CMS ERROR:")

-- the final codes of a call (V.250, 5.7.1)
abbrev pub call_codes : List Pattern
call_codes =
    pattern Line (codes "NO CARRIER") ∷ pattern Line (codes "BUSY") ∷ pattern Line (codes "NO ANSWER")
    ∷ pattern Line (codes "NO DIALTONE") ∷ []

-- registration in EPS and 5GS (27.007, 10.1.22, 10.1.47)
-- new messages and status reports that are stored (27.005, 3.4.1)
-- a caller's number, and that of one who waits (27.007, 7.6, 7.12); their queries answer with digits
-- the time zone, with daylight saving or without (27.007, 8.41)
abbrev pub common_urcs : List Urc
common_urcs =
    urc 0 (codes "CEREG") (pattern OpenReport (codes "+CEREG:"))
    ∷ urc 1 (codes "C5GREG") (pattern OpenReport (codes "+C5GREG:"))
    ∷ urc 2 (codes "CMTI") (pattern Prefix (codes "+CMTI:"))
    ∷ urc 3 (codes "CDSI") (pattern Prefix (codes "+CDSI:"))
    ∷ urc 4 (codes "CLIP") (pattern Quoted (codes "+CLIP:"))
    ∷ urc 5 (codes "CCWA") (pattern Quoted (codes "+CCWA:"))
    ∷ urc 6 (codes "CTZV") (pattern Prefix (codes "+CTZV:"))
    ∷ urc 7 (codes "CTZE") (pattern Prefix (codes "+CTZE:"))
    ∷ []

-- the rules of `Dialect::common`
abbrev pub common : Rules
common = record { finals = cms_error ∷ []; urcs = common_urcs }

-- the rules of `Dialect::dialling`
abbrev pub dialling : Rules
dialling = record { finals = cms_error ∷ call_codes; urcs = common_urcs }
