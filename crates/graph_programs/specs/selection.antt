pub mod ProgramUpdates
