pub mod SimLaws
