pub mod FirstTile
