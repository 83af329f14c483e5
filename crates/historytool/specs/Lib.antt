pub mod HistorytoolCommands
