mod PortEntries
mod Settled
