-- Replicas that were formatted, while others are formatted or blanked.
use Rattle.std.specs.Prelude.{ℕ, ◌+◌, ◌*◌, ◌<◌, ◌≤◌, List, Option}
use Rattle.mdv_replica.specs.Form.{formatted_head}
use Rattle.mdv_shown.specs.Site.{line_area}
use Rattle.mdv_standing.specs.Below.{AreApart, Everywhere, FirstIs, Formats, Head, Identity, IsFormat, IsOwn, IsSite, Leaves, Master, MayFormat, MayWipe, Reads, Site, SliceLine, Table, Tale, master_on, place_on}
use Rattle.mdv_standing.specs.Forming.{IsBehind}

pub record FormedStay : Type 0 where
  -- the first place of a slice has a replica once it is formatted, which shows no table, and so has a later one
  pub first : (read : List ℕ → Option Table) (site : Site) (identity : Identity) (t m : Tale) (line : SliceLine) (blocks count number : ℕ) (before : Option Master)
      → Everywhere (λ image. IsFormat site identity image line blocks count 0 number) t → Everywhere (λ image. FirstIs site image line before) t → Leaves (Formats (place_on line blocks count 0) (master_on site identity line blocks count 0) number) t m
      → Everywhere (λ image. IsOwn (Reads read) site identity line 0 image (master_on site identity line blocks count 0) (formatted_head (place_on line blocks count 0) site.key identity number)) m
  pub later : (read : List ℕ → Option Table) (site : Site) (identity : Identity) (t m : Tale) (line : SliceLine) (k number : ℕ) (first : Master)
      → Everywhere (λ image. IsFormat site identity image line first.blocks first.count k number) t → IsBehind (Reads read) site t line k first → Leaves (Formats (place_on line first.blocks first.count k) (master_on site identity line first.blocks first.count k) number) t m
      → Everywhere (λ image. IsOwn (Reads read) site identity line k image first (formatted_head (place_on line first.blocks first.count k) site.key identity number)) m
  -- the next place of the slice is behind it
  pub behind : (read : List ℕ → Option Table) (site : Site) (identity : Identity) (t : Tale) (line : SliceLine) (k : ℕ) (first : Master) (head : Head) → IsSite site → Everywhere (λ image. IsOwn (Reads read) site identity line k image first head) t
      → IsBehind (Reads read) site t line (k + 1) first
  -- it stays while a place behind it is formatted, or one of another slice
  pub formatting : (read : List ℕ → Option Table) (site : Site) (identity : Identity) (t m : Tale) (line : SliceLine) (j k number : ℕ) (first master : Master) (head : Head) → j < k
      → Everywhere (λ image. IsOwn (Reads read) site identity line j image first head) t → Leaves (MayFormat (place_on line first.blocks first.count k) master number) t m
      → Everywhere (λ image. IsOwn (Reads read) site identity line j image first head) m
  -- or while a place behind it is blanked, or one of another slice
  pub wiping : (read : List ℕ → Option Table) (site : Site) (identity : Identity) (t m : Tale) (line : SliceLine) (j k : ℕ) (first : Master) (head : Head) → j < k
      → Everywhere (λ image. IsOwn (Reads read) site identity line j image first head) t → Leaves (MayWipe (place_on line first.blocks first.count k)) t m
      → Everywhere (λ image. IsOwn (Reads read) site identity line j image first head) m
  pub wiping_beside : (read : List ℕ → Option Table) (site : Site) (identity : Identity) (t m : Tale) (line other : SliceLine) (j its many k : ℕ) (first : Master) (head : Head) → AreApart (line_area other) (line_area line) → 16 + k * its < other.at.blocks
      → Everywhere (λ image. IsOwn (Reads read) site identity line j image first head) t → Leaves (MayWipe (place_on other its many k)) t m
      → Everywhere (λ image. IsOwn (Reads read) site identity line j image first head) m
  pub beside : (read : List ℕ → Option Table) (site : Site) (identity : Identity) (t m : Tale) (line other : SliceLine) (j its many k number : ℕ) (first master : Master) (head : Head) → AreApart (line_area other) (line_area line) → 16 ≤ its → 16 + k * its + its ≤ other.at.blocks
      → Everywhere (λ image. IsOwn (Reads read) site identity line j image first head) t → Leaves (MayFormat (place_on other its many k) master number) t m
      → Everywhere (λ image. IsOwn (Reads read) site identity line j image first head) m
