pub mod HostKeeper
