-- Where the replicas of a site lie on the shelf.
use Rattle.std.proofs.Common.{◌≡◌, ◌⊎◌, inl, ℕ, ◌+◌, ◌*◌, ◌<◌, ◌≤◌, ◌^◌, List, [], length, refl, sym, ap, subst, arith}
use Rattle.std.specs.Prelude.{Contains, slice_index_or}
use Rattle.std.proofs.lemmas.Nat.{mul-lt}
use Rattle.mdv_survey.specs.Below.{Head, IsFormed, IsPlaced, Site, SliceLine, size_on}
use Rattle.mdv_survey.specs.Replica.{IsOnShelf, IsSeated, at_of}
use Rattle.mdv_survey.specs.Others.{first_at, most_on}
use Rattle.mdv_survey.specs.declared.replica.Replica.{Replica}
use Rattle.mdv_survey.proofs.Chains.{lies_at_zero}

-- a place's start fits its type
pub start_fits : (number blocks : ℕ) → number < 256 → blocks ≤ 8192 → number * blocks < 2 ^ 31
start_fits number blocks few most = let product = mul-lt number blocks 256 8193 few (omega (arith, most)) in omega (arith, product)

module _ (sizes : List ℕ) (site : Site) (on : IsOnShelf sizes site) where
  pub size_is : (line : SliceLine) → size_on site line ≡ slice_index_or sizes line.at.drive.0 0
  size_is line = ap (λ (s : List ℕ). slice_index_or s line.at.drive.0 0) on.sizes_are

  pub known_drive : (line : SliceLine) → Contains site.lines line → line.at.drive.0 < length sizes
  known_drive line one_of = (on.drives.each line.at.drive (on.brought line one_of)).known

  -- a block of the slice is one of the drive
  pub in_drive : (line : SliceLine) → Contains site.lines line → (block : ℕ) → block < line.at.blocks → line.at.start + block < slice_index_or sizes line.at.drive.0 0
  in_drive line one_of block less =
      let within = on.within line one_of in
      let same = size_is line in
      omega (arith, within, same, less)

  pub small_drive : (line : SliceLine) → Contains site.lines line → slice_index_or sizes line.at.drive.0 0 < 2 ^ 64
  small_drive line one_of = let small = on.small line one_of in let same = size_is line in omega (arith, small, same)

  module _ (r : Replica) (seated : IsSeated site r) where
    pub placed_of : IsPlaced sizes (at_of r)
    placed_of =
        let length = seated.length in
        let least = seated.formed.of_place.least in
        let within = seated.formed.of_place.within in
        let same = size_is r.line in
        record {
          drive = known_drive r.line seated.one_of;
          least = omega (arith, length, least);
          within = omega (arith, length, within, same);
          size = small_drive r.line seated.one_of;
        }

    pub few_blocks : r.first.blocks ≤ 8192
    few_blocks = let length = seated.length in let most = seated.formed.of_place.most in omega (arith, length, most)

    pub least_blocks : 16 ≤ r.first.blocks
    least_blocks = let length = seated.length in let least = seated.formed.of_place.least in omega (arith, length, least)

    pub first_fits : r.line.at.start + (16 + r.number * r.first.blocks) < 2 ^ 64
    first_fits = let placed = placed_of in let within = placed.within in let small = placed.size in let least = placed.least in omega (arith, within, small, least)

  -- a replica whose head was read where one of its number may lie
  pub seat : (r : Replica) → Contains site.lines r.line → (r.number ≡ 0) ⊎ (r.number < r.first.count) → 16 + r.number * r.first.blocks + r.first.blocks ≤ r.line.at.blocks
      → IsFormed (at_of r) (slice_index_or sizes r.line.at.drive.0 0) r.head → r.head.master.blocks ≡ r.first.blocks → IsSeated site r
  seat r one_of numbered within formed length = record {
    one_of = one_of;
    numbered = numbered;
    within = within;
    formed = subst (λ (n : ℕ). IsFormed (at_of r) n r.head) (sym (size_is r.line)) formed;
    length = length;
  }

-- the first replica of a slice, whose head was read
pub first_seat : (sizes : List ℕ) (site : Site) (on : IsOnShelf sizes site) (line : SliceLine) (head : Head) → Contains site.lines line → IsFormed (first_at line (most_on line)) (slice_index_or sizes line.at.drive.0 0) head
    → IsSeated site (record { line = line; number = 0; first = head.master; head = head })
first_seat sizes site on line head one_of formed =
    let long = on.site_is.long line one_of in
    let fits = formed.of_place.in_place in
    let size = slice_index_or sizes line.at.drive.0 0 in
    seat sizes site on (record { line = line; number = 0; first = head.master; head = head }) one_of (inl refl) (omega (arith, long, fits)) (record {
      of_master = formed.of_master;
      of_place = lies_at_zero line size (λ n. []) head head.master.blocks head.master.count (most_on line) formed.of_place (omega arith);
      of_claim = formed.of_claim;
      of_first = formed.of_first;
      of_second = formed.of_second;
    }) refl
