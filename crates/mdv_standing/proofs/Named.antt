-- Each slice of a site is found by its name.
use Rattle.std.proofs.Common.{◌≡◌, Bool, List, Contains, Some}
use Rattle.std.specs.Prelude.{filter}
use Rattle.std.proofs.lemmas.List.Elements.{All-contains, All-contains_itself, All-filter}
use Rattle.mdv_name.specs.Sound.{IsSound}
use Rattle.mdv_name.proofs.Finding.{slice_at-some}
use Rattle.mdv_shown.specs.Sites.{is_line_of, site_of}
use Rattle.mdv_standing.specs.Below.{Geometry, Key, SliceLine, slice_at}

-- what passes a test was there
pub of_filter : {X : Type 0} (p : X → Bool) (xs : List X) (x : X) → Contains (filter p xs) x → Contains xs x
of_filter p xs x has = All-contains (Contains xs) (filter p xs) x (All-filter p (Contains xs) xs (All-contains_itself xs)) has

module _ (g : Geometry) (sound : IsSound g) (key : Key) where
  abbrev of_site : Geometry
  of_site = record g { slices = (site_of g key).lines }

  was : (line : SliceLine) → Contains (site_of g key).lines line → Contains g.slices line
  was line has = of_filter (is_line_of g key) g.slices line has

  sound_site : IsSound of_site
  sound_site = record {
    each = λ name at has. sound.each name at (was (record { name = name; at = at }) has);
    once = λ name a b in_a in_b. sound.once name a b (was (record { name = name; at = a }) in_a) (was (record { name = name; at = b }) in_b);
    drives = λ m n a b in_a in_b same. sound.drives m n a b (was (record { name = m; at = a }) in_a) (was (record { name = n; at = b }) in_b) same;
  }

  pub line_found : (line : SliceLine) → Contains (site_of g key).lines line → slice_at (site_of g key).lines line.name ≡ Some line.at
  line_found line has = (slice_at-some of_site line.name line.at sound_site).1 has
