pub mod SettledCuts
