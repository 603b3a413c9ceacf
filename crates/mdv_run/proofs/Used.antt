-- The words and the table of drives that a run was given settle its host.
use Rattle.std.proofs.Common.{◌≡◌, ◌<◌, ◌^◌, ◌∷◌, [], ℕ, List, Result, Ok, Err, IfOk, sym, ◌∙◌, ap, subst}
use Rattle.mdv_base.specs.declared.drive.DriveNo.{DriveNo}
use Rattle.mdv_base.specs.declared.name.Key.{Key}
use Rattle.mdv_base.specs.declared.name.Key.TheVariants.{Local}
use Rattle.mdv_engine_law.specs.Below.{IsOnShelf}
use Rattle.mdv_home.proofs.Siting.{sites_are_own}
use Rattle.mdv_home.proofs.Viewing.{view_is_own}
use Rattle.mdv_home.specs.Drives.{own_drives}
use Rattle.mdv_home.specs.View.{view_on}
use Rattle.mdv_name.specs.Sound.{IsSound}
use Rattle.mdv_name.proofs.OneTable.{one_table}
use Rattle.mdv_name.proofs.Sound.{sound_geometry}
use Rattle.mdv_run.specs.Below.{Geometry, Host, IsReady, IsUsed, Site, host_of, key_of, own_view, site_of}
use Rattle.mdv_run.specs.Promise.{IsSeen, IsStart}
use Rattle.mdv_run.specs.declared.session.Start.{Start}
use Rattle.mdv_run.specs.declared.session.Unusable.{Unusable}

-- what a host sees of a table by its own drives
pub own_seen : (table : Geometry) (name bytes : List ℕ) (own : List DriveNo) {view : Geometry} → bytes ≡ name → own ≡ own_drives table bytes → view ≡ view_on own table → view ≡ own_view table name
own_seen table name bytes own same is seen = seen ∙ ap (λ (drives : List DriveNo). view_on drives table) (is ∙ ap (own_drives table) same)

-- what begins of a use, whose host sees that
pub start_with : {words : List (List ℕ)} {text sizes : List ℕ} {table : Geometry} {name : List ℕ} (result : Result Start Unusable) → IsUsed words text sizes table name → IfOk result (λ used. IsSeen table name used.drives used.site) → IfOk result (λ used. IsStart words text sizes used.drives used.site)
start_with {words} {text} {sizes} {table} {name} (Ok used) is seen = record { table = table; name = name; used = is; seen = seen }
start_with (Err why) is seen = tt

-- one list of a name is of one name
one_name : (words : List (List ℕ)) (a b : List ℕ) → words ≡ a ∷ [] → words ≡ b ∷ [] → a ≡ b
one_name words a b first second = let both : a ∷ [] ≡ b ∷ [] = sym first ∙ second in cc (both)

module _ (words : List (List ℕ)) (text sizes : List ℕ) (fresh : ℕ) (view : Geometry) (site : Site) (start : IsStart words text sizes view site) where
  -- the host of the run that begins so
  abbrev begins : Host
  begins = record { drives = view; site = site; fresh = fresh }

  pub one_host : (drives : Geometry) (name : List ℕ) → IsUsed words text sizes drives name → begins ≡ host_of drives name fresh
  one_host drives name used =
      let tables : start.table ≡ drives = one_table text start.table drives start.used.table used.table in
      let names : start.name ≡ name = one_name words start.name name start.used.host used.host in
      let views : own_view start.table start.name ≡ own_view drives name = λ i. own_view (tables i) (names i) in
      let view_is : view ≡ own_view drives name = start.seen.view_is ∙ views in
      let sites : site_of view (Local start.name) ≡ site_of (own_view drives name) (Local name) = λ i. site_of (view_is i) (Local (names i)) in
      let site_is : site ≡ site_of (own_view drives name) (Local name) = start.seen.site_is ∙ sites in
      λ i. record { drives = view_is i; site = site_is i; fresh = fresh }

  -- its site is the one that the whole table has
  whole_site : site ≡ site_of start.table (Local start.name)
  whole_site = start.seen.site_is ∙ ap (λ (g : Geometry). site_of g (Local start.name)) start.seen.view_is ∙ sites_are_own.seen start.table start.name (sound_geometry text start.table start.used.table)

  its_key : key_of begins ≡ Local start.name
  its_key = ap (λ (s : Site). s.key) start.seen.site_is

  pub ready_host : fresh < 2 ^ 64 → IsReady begins sizes
  ready_host fits = record {
    table = start.table;
    text = text;
    read = start.used.table;
    name = start.name;
    one_of = start.used.one_of;
    key = its_key;
    view = start.seen.view_is;
    site = start.seen.site_is ∙ ap (λ (k : Key). site_of view k) (sym its_key);
    sound = subst IsSound (sym start.seen.view_is) (view_is_own.sound start.table start.name (sound_geometry text start.table start.used.table));
    on_shelf = subst (IsOnShelf sizes) (sym whole_site) (subst (λ (s : List ℕ). IsOnShelf s (site_of start.table (Local start.name))) (sym start.used.shelf) (sites_are_own.on_shelf text start.table start.name start.used.table));
    fresh = fits;
    drives = start.used.shelf;
  }
