-- What the public laws of histories and sessions rest on.
pub mod WholeHistories
pub mod SessionLaws
