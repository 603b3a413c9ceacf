-- A log and the worlds of all images go on together while a database is created.
use Rattle.std.proofs.Common.{◌≡◌, ℕ, false, true, List, [], ◌∷◌, refl, subst, Option, None}
use Rattle.mdv_quorum.specs.Standing.{BootsAt}
use Rattle.mdv_shelf.specs.Tale.{last}
use Rattle.mdv_shelf.proofs.Everywhere.{last_image}
use Rattle.mdv_store_law.specs.Log.{IsEmpty, IsNotOver}
use Rattle.mdv_standing.specs.Below.{Core, Everywhere, FirstIs, Formats, Geometry, Identity, Image, IsImage, Leaves, Lists, Log, Master, MayFormat, Site, SliceLine, Spot, Table, Tale, after_all, is_in, is_named, is_none, master_on, place_on, spot_on}
use Rattle.mdv_standing.specs.Creating.{AreAllPlaced, IsCreating, IsFormatting, first_mark, issued_log}
use Rattle.mdv_standing.specs.Forming.{IsBehind, IsForming, IsToFormat}
use Rattle.mdv_standing.specs.Laws.{HasNone}
use Rattle.mdv_standing.specs.Matching.{spots_of}
use Rattle.mdv_standing.specs.Standing.{Covers, CoversWith}
use Rattle.mdv_standing.specs.Turning.{Begins}
use Rattle.mdv_standing.specs.Worlds.{IsWorld}
use Rattle.mdv_standing.proofs.Creating.{begins, first_formatted, first_formatting, later_formatted, later_formatting, may_write_first, writes_first}
use Rattle.mdv_standing.proofs.Listed.{not_over}
use Rattle.mdv_standing.proofs.Reaching.{standing}

module _ (Spells : List ℕ → Table → Type 0) (site : Site) (identity : Identity) where
  pub all_form : (t : Tale) (lists : Lists) → Everywhere (λ image. HasNone Spells site identity image) t → IsForming Spells site identity (issued_log identity) t lists []
  all_form t lists none = record {
    issued = refl;
    empty = refl;
    each = λ image is. (let to = begins Spells site identity image (none image is) lists in (after_all _ to.events, to.world, to.known));
  }

  module _ (log : Log) (t m : Tale) (line : SliceLine) (lists : Lists) (done : List Spot) (forming : IsForming Spells site identity log t lists done) where
    formed : (more : List Spot) → CoversWith Spells site identity (λ image w. IsCreating (spots_of site lists) more w) log m → IsForming Spells site identity log m lists more
    formed more each = record { issued = forming.issued; empty = forming.empty; each = each }

    module _ (blocks count k : ℕ) (place : IsToFormat site identity t line blocks count k lists done) where
      formatting : (w : Core) (old : Image) → IsImage t old → IsWorld Spells site identity log w old → IsCreating (spots_of site lists) done w → IsFormatting Spells site identity log w old line blocks count k lists done
      formatting w old is world known = record {
        creation = record { world = world; empty = forming.empty; known = known };
        format = place.format old is;
        named = place.named;
        before = place.before;
      }

    module _ (blocks count : ℕ) (before : Option Master) (place : IsToFormat site identity t line blocks count 0 lists done) (located : Everywhere (λ image. FirstIs site image line before) t) where
      pub all_first : Leaves (MayFormat (place_on line blocks count 0) (master_on site identity line blocks count 0) 1) t m → Covers Spells site identity log m
      all_first leaves image is =
          let from = leaves image is in
          let w = forming.each from.0 from.1 in
          let to = first_formatting Spells site identity log w.0 from.0 line blocks count lists done before (formatting blocks count 0 place w.0 from.0 from.1 w.1 w.2) (located from.0 from.1) image from.2 in
          (after_all w.0 to.events, to.world)

      pub all_first_done : Leaves (Formats (place_on line blocks count 0) (master_on site identity line blocks count 0) 1) t m → IsForming Spells site identity log m lists (spot_on line blocks 0 ∷ done)
      all_first_done leaves = formed (spot_on line blocks 0 ∷ done) (λ image is.
          let from = leaves image is in
          let w = forming.each from.0 from.1 in
          let to = first_formatted Spells site identity log w.0 from.0 line blocks count lists done before (formatting blocks count 0 place w.0 from.0 from.1 w.1 w.2) (located from.0 from.1) image from.2 in
          (after_all w.0 to.events, to.world, to.known))

    module _ (k : ℕ) (first : Master) (place : IsToFormat site identity t line first.blocks first.count k lists done) (behind : IsBehind Spells site t line k first) where
      pub all_later : Leaves (MayFormat (place_on line first.blocks first.count k) (master_on site identity line first.blocks first.count k) 1) t m → Covers Spells site identity log m
      all_later leaves image is =
          let from = leaves image is in
          let w = forming.each from.0 from.1 in
          let to = later_formatting Spells site identity log w.0 from.0 line k first lists done behind.later (formatting first.blocks first.count k place w.0 from.0 from.1 w.1 w.2) (behind.has from.0 from.1) (behind.chain from.0 from.1) image from.2 in
          (after_all w.0 to.events, to.world)

      pub all_later_done : Leaves (Formats (place_on line first.blocks first.count k) (master_on site identity line first.blocks first.count k) 1) t m → IsForming Spells site identity log m lists (spot_on line first.blocks k ∷ done)
      all_later_done leaves = formed (spot_on line first.blocks k ∷ done) (λ image is.
          let from = leaves image is in
          let w = forming.each from.0 from.1 in
          let to = later_formatted Spells site identity log w.0 from.0 line k first lists done behind.later (formatting first.blocks first.count k place w.0 from.0 from.1 w.1 w.2) (behind.has from.0 from.1) (behind.chain from.0 from.1) image from.2 in
          (after_all w.0 to.events, to.world, to.known))

  -- it is being created, so it isn't over
  forming_there : (log : Log) (t : Tale) (lists : Lists) (done : List Spot) → IsForming Spells site identity log t lists done → IsNotOver log.fate
  forming_there log t lists done forming =
      let w = forming.each (last t) (last_image t) in
      not_over site log w.0 w.1.matches (subst (BootsAt w.0) w.2.stage (standing site w.0 w.1.reached).boots)

  pub all_formed : (g : Geometry) (log : Log) (t : Tale) (p : Spot) (table : Table) (done : List Spot) → IsEmpty table → is_none (spots_of site table.plan.lists).first ≡ false → is_in done p ≡ true → is_named (spots_of site table.plan.lists) p ≡ true
      → Everywhere (AreAllPlaced Spells site identity table.plan.lists) t → IsForming Spells site identity log t table.plan.lists done → Begins Spells g site identity false log t first_mark None table
  all_formed g log t p table done none some has named formed forming = record {
    before = [];
    may = may_write_first g identity log table forming.issued forming.empty (forming_there log t table.plan.lists done forming) none;
    writing = record {
      newest = record { version = _; older = log.family; family = refl; marked = refl; same = refl };
      each = λ image is.
          let w = forming.each image is in
          let to = writes_first Spells site identity log w.0 image p table done (record { world = w.1; empty = forming.empty; known = w.2 }) some has named (formed image is) in
          (after_all w.0 to.events, to.world, to.known);
    };
  }
