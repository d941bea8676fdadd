pub mod HardwareLists
