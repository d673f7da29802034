pub mod CutTexts
pub mod FirstWords
pub mod CommandWords
pub mod OneFault
pub mod RuleLines
pub mod DialectLines
pub mod Written
pub mod CommonLines
