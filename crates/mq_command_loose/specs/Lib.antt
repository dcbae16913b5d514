pub mod SaysOfLoose
