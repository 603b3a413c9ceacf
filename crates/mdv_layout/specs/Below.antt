-- The words of the crates below in which this crate speaks, so that a file of it needs one line of import.
pub use Rattle.mdv_config.specs.Slices.{IsSound}
pub use Rattle.mdv_config.specs.Table.{IsPartOn, IsRowOf, first_blocks, row_depth, width}
pub use Rattle.mdv_dev.specs.Pieces.{IsOneCopy, IsPiece}
pub use Rattle.mdv_dev.specs.Together.{LieTogether, LiesAs}
pub use Rattle.mdv_dev.specs.declared.piece.Piece.{Piece}
pub use Rattle.mdv_layout_law.specs.Chained.{blocks_in, chained}
pub use Rattle.mdv_layout_law.specs.Layout.{at_map, component_map, row_map}
pub use Rattle.mdv_map.specs.Maps.{Map, chain_map, column_at, no_map, run_map}
pub use Rattle.mdv_name.specs.SliceIndex.{slice_at}
pub use Rattle.mdv_name.specs.declared.geometry.Geometry.{Geometry}
pub use Rattle.mdv_name.specs.declared.slice_lines.SliceAt.{SliceAt}
pub use Rattle.mdv_plan.specs.declared.plan.Plan.{Plan}
pub use Rattle.mdv_plan.specs.declared.volume.Base.{Base}
pub use Rattle.mdv_plan.specs.declared.volume.Base.TheVariants.{Slice, Volume}
pub use Rattle.mdv_plan.specs.declared.volume.Component.{Component}
pub use Rattle.mdv_plan.specs.declared.volume.Row.{Row}
pub use Rattle.mdv_stripe.specs.Stripes.{IsStripe, maps_of, striped}
