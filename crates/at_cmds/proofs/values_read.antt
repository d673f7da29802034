-- Values of commands: numbers, parameters and forms.
pub mod ShortNumbers
pub mod Parameters
pub mod ParameterCounts
pub mod ValueForms
