mod AbsentRoutes
mod AbsentRules
mod ByName
mod ConnectedSubnets
mod Indexed
mod Narrowed
mod SameKeys
