-- The words of the crates below in which this crate speaks, so that a file of it needs one line of import.
pub use Rattle.mdv_base.specs.Mark.{IsBelow}
pub use Rattle.mdv_base.specs.declared.drive.DriveNo.{DriveNo}
pub use Rattle.mdv_base.specs.declared.mark.Mark.{Mark}
pub use Rattle.mdv_votes.specs.Family.{blank_place, boot_of, change_at, changed_at, formatted, greatest_of, is_above, knows_above, mark_below, newer}
pub use Rattle.mdv_votes.specs.Family.{newest_of, no_table, place_at, put_at, raised, shown, since_after, table_at, wiped, with_claim, with_newest}
pub use Rattle.mdv_votes.specs.Family.{with_since}
pub use Rattle.mdv_votes.specs.Quorum.{is_claimed, is_read, is_read_list, is_written}
pub use Rattle.mdv_votes.specs.Spots.{in_second, is_half, is_in, is_majority, is_named, is_none, last_list, last_or, same_spot, same_spots}
pub use Rattle.mdv_votes.specs.declared.spot.Spot.{Spot}
pub use Rattle.mdv_votes.specs.declared.spot.SpotLists.{SpotLists}
pub use Rattle.mdv_votes.specs.declared.version.Since.{Since}
pub use Rattle.mdv_votes.specs.declared.version.Since.TheVariants.{Dropped, Listed, Never}
pub use Rattle.mdv_votes.specs.declared.version.SpotState.{SpotState}
pub use Rattle.mdv_votes.specs.declared.version.Version.{Version}
