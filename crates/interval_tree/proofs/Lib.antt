mod Apart
mod IdsAttached
mod IdsKept
mod IndexCarried
mod IndexFilled
mod IndexFirst
mod IndexLaws
mod IndexRenamed
mod IndexSeats
mod IndexSeen
mod NamedPlaces
mod NumberMoves
mod NumberOrder
mod OrderLaws
mod QueryEdges
pub mod QueryLists
mod QueryOrder
mod QueryPlaces
pub mod QueryRows
mod QuerySeats
pub mod Ranges
mod Renamed
mod Spares
