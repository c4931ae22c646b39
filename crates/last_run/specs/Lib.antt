pub mod LastRun
