-- What an image shows rests on the blocks of the site's slices.
use Rattle.std.proofs.Common.{◌≡◌, ℕ, ◌+◌, ◌-◌, ◌<◌, ◌≤◌, Bool, true, sym, List, arith}
use Rattle.std.proofs.lemmas.List.Folds.{list_any-from_Any}
use Rattle.std.specs.Prelude.{Contains}
use Rattle.std.specs.List.{list_any}
use Rattle.mdv_shown.specs.Below.{Identity, SliceLine, Master, Head, Image, IsSame, RestsOn, range, place_at, SpotState, Version}
use Rattle.mdv_shown.specs.Site.{Site, site_area, place_on, spot_on}
use Rattle.mdv_shown.specs.Found.{IsFound}
use Rattle.mdv_shown.specs.Shown.{ShowsPlaces}
use Rattle.mdv_shown.proofs.Elsewhere.{found_kept, range_has}
use Rattle.mdv_shown.proofs.Rewritten.{place_same}

any_of : {X : Type 0} (p : X → Bool) (xs : List X) (x : X) → Contains xs x → p x ≡ true → list_any p xs ≡ true
any_of p xs x has is = list_any-from_Any p xs (has.0, x, has.1, has.2, is)

module _ {Table : Type 0} (Spells : List ℕ → Table → Type 0) (site : Site) (identity : Identity) (old new : Image)
    (same : (drive block : ℕ) → site_area site drive block ≡ true → new drive block ≡ old drive block) where
  line_same : (line : SliceLine) → Contains site.lines line → (block : ℕ) → line.at.start + 16 ≤ block → block < line.at.start + line.at.blocks → new line.at.drive.0 block ≡ old line.at.drive.0 block
  line_same line one_of block from to =
      same line.at.drive.0 block (any_of (λ (l : SliceLine). range l.at.drive.0 (l.at.start + 16) (l.at.blocks - 16) line.at.drive.0 block) site.lines line one_of
      (range_has line.at.drive.0 (line.at.start + 16) (line.at.blocks - 16) block from (omega (arith, from, to))))

  pub found_same : (line : SliceLine) (k : ℕ) (first : Master) (head : Head) → IsFound Spells site line k (old line.at.drive.0) first head → IsFound Spells site line k (new line.at.drive.0) first head
  found_same line k first head is =
      let within = is.within in
      found_kept Spells site line (old line.at.drive.0) (new line.at.drive.0) first k head (λ block from to. line_same line is.one_of block from (omega (arith, to, within))) is

module _ {Table : Type 0} (Spells : List ℕ → Table → Type 0) (site : Site) (identity : Identity) (tables : ℕ → Table) (family : List Version) (places : List SpotState) where
  pub shows_rest : RestsOn (site_area site) (ShowsPlaces Spells site identity tables family places)
  shows_rest old new same shows = record {
    each = λ line k first head own.
        let d = line.at.drive.0 in
        let f = own.found in
        let within = f.within in
        let back = found_same Spells site identity new old (λ drive block has. sym (same drive block has)) line k first head f in
        place_same Spells tables family (place_on line first.blocks first.count k) (old d) (new d) head (place_at places (spot_on line first.blocks k)) f.located.lies.least
        (λ block from to. line_same Spells site identity old new same line f.one_of block (omega (arith, from)) (omega (arith, to, within)))
        (shows.each line k first head (record { found = back; of_identity = own.of_identity }));
    only = λ p kind holds.
        let was = shows.only p kind holds in
        record {
          line = was.line;
          number = was.number;
          first = was.first;
          head = was.head;
          own = record { found = found_same Spells site identity old new same was.line was.number was.first was.head was.own.found; of_identity = was.own.of_identity };
          spot = was.spot;
        };
    seats = shows.seats;
  }

  pub shows_same : (old new : Image) → IsSame old new → ShowsPlaces Spells site identity tables family places old → ShowsPlaces Spells site identity tables family places new
  shows_same old new same shows = shows_rest old new (λ drive block has. same drive block) shows
