-- How the worlds of all images go on together, call by call.
use Rattle.std.proofs.Common.{ℕ, List}
use Rattle.mdv_standing.specs.Below.{Core, Event, Identity, Image, IsImage, Leaves, Log, Site, Table, Tale, after_all}
use Rattle.mdv_standing.specs.Standing.{Covers, CoversWith}
use Rattle.mdv_standing.specs.Worlds.{IsWorld, Turned}

module _ (Spells : List ℕ → Table → Type 0) (site : Site) (identity : Identity) where
  -- a call whose images come by this change from those before it
  pub turn_each : (Change : Image → Image → Type 0) (Known Then : Image → Core → Type 0) (Are : List Event → Type 0) (log next : Log) (t m : Tale) → Leaves Change t m
      → ((w : Core) (old new : Image) → IsWorld Spells site identity log w old → Known old w → Change old new → Turned Spells site identity next w new Are (Then new))
      → CoversWith Spells site identity Known log t → CoversWith Spells site identity Then next m
  turn_each Change Known Then Are log next t m leaves step covers image is =
      let from = leaves image is in
      let w = covers from.0 from.1 in
      let to = step w.0 from.0 image w.1 w.2 from.2 in
      (after_all w.0 to.events, to.world, to.known)

  -- what becomes known of an image, or of the log, with no call
  pub turn_here : (Known Then : Image → Core → Type 0) (Are : List Event → Type 0) (log next : Log) (t : Tale)
      → ((w : Core) (image : Image) → IsImage t image → IsWorld Spells site identity log w image → Known image w → Turned Spells site identity next w image Are (Then image))
      → CoversWith Spells site identity Known log t → CoversWith Spells site identity Then next t
  turn_here Known Then Are log next t step covers image is =
      let w = covers image is in
      let to = step w.0 image is w.1 w.2 in
      (after_all w.0 to.events, to.world, to.known)

  pub covers_known : (Known : Image → Core → Type 0) (log : Log) (t : Tale) → CoversWith Spells site identity Known log t → Covers Spells site identity log t
  covers_known Known log t covers image is = (let w = covers image is in (w.0, w.1))

  -- less is known
  pub known_weaker : (Known Less : Image → Core → Type 0) (log : Log) (t : Tale) → ((image : Image) (w : Core) → IsImage t image → IsWorld Spells site identity log w image → Known image w → Less image w)
      → CoversWith Spells site identity Known log t → CoversWith Spells site identity Less log t
  known_weaker Known Less log t weaker covers image is = (let w = covers image is in (w.0, w.1, weaker image w.0 is w.1 w.2))
