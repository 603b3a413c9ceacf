-- The site of a table lies on drives of the table's sizes.
use Rattle.std.proofs.Common.{◌≡◌, ℕ, List, sym, ◌∙◌, ap, subst}
use Rattle.std.proofs.lemmas.List.Elements.{All-contains}
use Rattle.std.specs.Prelude.{◌+◌, ◌≤◌, ◌<◌, ◌^◌, All, Contains, slice_index_or}
use Rattle.mdv_home.specs.Drives.{sizes_of}
use Rattle.mdv_name.specs.Sound.{IsSound}
use Rattle.mdv_name.specs.declared.geometry.Geometry.{Geometry}
use Rattle.mdv_shelf.specs.Drives.{AreDrives}
use Rattle.mdv_shown.specs.Site.{IsSite}
use Rattle.mdv_shown.specs.Sites.{SitesAre, site_of}
use Rattle.mdv_shown.specs.declared.site.Site.{Site}
use Rattle.mdv_survey.specs.Replica.{IsOnShelf}
use Rattle.mdv_store_tests.specs.Lines.{EndsWithin}

module _ (sizes : List ℕ) (g : Geometry) (site : Site) (are : SitesAre) (sound : IsSound g) (of : site ≡ site_of g site.key) (same : sizes ≡ sizes_of g) where
  same_sizes : sizes ≡ site.sizes
  same_sizes = same ∙ sym (ap (λ (s : Site). s.sizes) of)

  pub lies_on : AreDrives sizes site.drives → All (EndsWithin sizes) site.lines → IsOnShelf sizes site
  lies_on drives ends = record {
    site_is = subst IsSite (sym of) (are.sites g site.key sound);
    sizes_are = sym same_sizes;
    drives = drives;
    brought = λ line one_of. subst (λ (s : Site). Contains s.lines line → Contains s.drives line.at.drive) (sym of) (are.brought g site.key line) one_of;
    within = λ line one_of. subst (λ (xs : List ℕ). line.at.start + line.at.blocks ≤ slice_index_or xs line.at.drive.0 0) same_sizes (All-contains (EndsWithin sizes) site.lines line ends one_of).within;
    small = λ line one_of. subst (λ (xs : List ℕ). slice_index_or xs line.at.drive.0 0 < 2 ^ 64) same_sizes (All-contains (EndsWithin sizes) site.lines line ends one_of).small;
  }
