mod Leads
mod Asked
mod Lost
mod LineLaws
