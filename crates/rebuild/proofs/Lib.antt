mod OwnBytes
mod RowMade
mod RowsAdded
mod DealtRow
mod DealtBlock
