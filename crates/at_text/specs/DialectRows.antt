-- Worked examples of dialects.
use Rattle.std.specs.Prelude.{◌≡◌, [], ◌∷◌, ◌++◌, Some, None, codes}
use Rattle.at_text.specs.declared.dialect_error.DialectError.TheVariants.{NoText, LineEnd, BadName, Command, Ambiguous}
use Rattle.at_text.specs.declared.finals.Final.TheVariants.{Good, Cme, Named}
use Rattle.at_text.specs.declared.rules.Form.TheVariants.{Line, Prefix, Quoted, Report, OpenReport}
use Rattle.at_text.specs.declared.unsolicited.UrcKind.TheVariants.{Ring, Creg, Own}
use Rattle.at_text.specs.Rules.{Rules, FinalRule, UrcRule, no_rules, with_rule, final_by, kind_by, name_at}
use Rattle.at_text.specs.Refusals.{IsRefused, HasNoReasonBelow}
use Rattle.at_text.specs.KnownRules.{common, dialling}

-- what lines say as final codes by the dialects that come ready
pub record AreKnownFinals : Type 0 where
  pub message : final_by common (codes "+CMS ERROR: 500") ≡ Some (Named 0)
  pub good : final_by common (codes "OK") ≡ Some Good
  pub equipment : final_by common (codes "+CME ERROR: 3") ≡ Some (Cme (Some 3))
  pub no_call : final_by common (codes "NO CARRIER") ≡ None
  pub gone : final_by dialling (codes "NO CARRIER") ≡ Some (Named 1)
  pub busy : final_by dialling (codes "BUSY") ≡ Some (Named 2)
  pub silent : final_by dialling (codes "NO ANSWER") ≡ Some (Named 3)
  pub dead : final_by dialling (codes "NO DIALTONE") ≡ Some (Named 4)
  pub longer : final_by dialling (codes "BUSY ") ≡ None
  pub connect : final_by dialling (codes "CONNECT") ≡ None

-- what kinds lines are of, by the dialects that come ready
pub record AreKnownKinds : Type 0 where
  pub eps : kind_by common (codes "+CEREG: 2") ≡ Some (Own 0)
  pub eps_cell : kind_by common (codes "+CEREG: 1,\"00A1\",\"01B2C3D4\",7") ≡ Some (Own 0)
  pub eps_cause : kind_by common (codes "+CEREG: 3,,,,0,11") ≡ Some (Own 0)
  pub eps_query : kind_by common (codes "+CEREG: 0,1") ≡ None
  pub eps_query_cell : kind_by common (codes "+CEREG: 2,1,\"00A1\",\"01B2C3D4\",7") ≡ None
  pub eps_test : kind_by common (codes "+CEREG: (0-3)") ≡ None
  pub five : kind_by common (codes "+C5GREG: 1") ≡ Some (Own 1)
  pub message : kind_by common (codes "+CMTI: \"SM\",3") ≡ Some (Own 2)
  pub report : kind_by common (codes "+CDSI: \"SM\",4") ≡ Some (Own 3)
  pub caller : kind_by common (codes "+CLIP: \"+4930123456\",145") ≡ Some (Own 4)
  pub caller_query : kind_by common (codes "+CLIP: 1,1") ≡ None
  pub waiting : kind_by common (codes "+CCWA: \"0301234\",129,1") ≡ Some (Own 5)
  pub waiting_query : kind_by common (codes "+CCWA: 1,1") ≡ None
  pub zone : kind_by common (codes "+CTZV: +08") ≡ Some (Own 6)
  pub summer : kind_by common (codes "+CTZE: +08,1") ≡ Some (Own 7)
  pub ring : kind_by common (codes "RING") ≡ Some Ring
  pub two_lines : kind_by common (codes "+CMT: \"+4930123456\",,\"26/11/26,10:00:00+04\"") ≡ None
  pub name : name_at common 4 ≡ Some (codes "CLIP")

-- a vendor's modem: two rules of one kind, and a report whose prefix the standard has too
abbrev pub vendor : Rules
vendor =
    with_rule
    (with_rule
    (with_rule (with_rule no_rules (FinalRule Line (codes "SEND FAIL"))) (UrcRule Line (codes "RDY") (codes "READY")))
    (UrcRule Prefix (codes "+CREG") (codes "REGISTERED")))
    (UrcRule Prefix (codes "+QIND:") (codes "READY"))

-- the standard's rules are looked at first, and rules of one name share a kind
pub record IsVendor : Type 0 where
  pub failed : final_by vendor (codes "SEND FAIL") ≡ Some (Named 0)
  pub ready : kind_by vendor (codes "RDY") ≡ Some (Own 0)
  pub shared : kind_by vendor (codes "+QIND: \"ready\"") ≡ Some (Own 0)
  pub name : name_at vendor 0 ≡ Some (codes "READY")
  pub standard_first : kind_by vendor (codes "+CREG: 2") ≡ Some Creg
  pub behind : kind_by vendor (codes "+CREG: 0,1") ≡ Some (Own 1)

-- rules that are refused beside the standard
pub record AreRefused : Type 0 where
  pub empty : IsRefused no_rules (FinalRule Prefix []) NoText
  pub two_lines : IsRefused no_rules (FinalRule Line (codes "BUSY" ++ 13 ∷ 10 ∷ [])) LineEnd
  pub no_name : IsRefused no_rules (UrcRule Line (codes "RDY") []) BadName
  pub blank_name : IsRefused no_rules (UrcRule Line (codes "RDY") (codes "IS READY")) BadName
  pub echo : IsRefused no_rules (FinalRule Prefix (codes "ATE")) Command
  pub any_echo : IsRefused no_rules (UrcRule Prefix (codes "a") (codes "LOW")) Command
  pub swallows : IsRefused no_rules (UrcRule Prefix (codes "O") (codes "ALL")) Ambiguous
  pub error : IsRefused no_rules (UrcRule Prefix (codes "+CME ERROR: 3") (codes "LOST")) Ambiguous
  pub report : IsRefused no_rules (FinalRule OpenReport (codes "+CREG:  ")) Ambiguous
  pub own : IsRefused common (UrcRule Prefix (codes "+CMS") (codes "SMS")) Ambiguous

-- and rules that aren't: no line is both
pub record AreTaken : Type 0 where
  pub line : HasNoReasonBelow 8 no_rules (FinalRule Line (codes "SEND FAIL"))
  pub query : HasNoReasonBelow 8 no_rules (FinalRule Line (codes "+CREG: 0,1"))
  pub report : HasNoReasonBelow 8 no_rules (FinalRule Report (codes "+CREG: 0,"))
  pub quoted : HasNoReasonBelow 8 common (UrcRule Quoted (codes "+CMS") (codes "SMS"))
  pub repeated : HasNoReasonBelow 8 common (FinalRule Prefix (codes "+CMS ERROR:"))
