-- Once the only place of a database is blank, its slice shows nothing: so no replica of its key shows a table where none but those of that slice did.
use Rattle.std.proofs.Common.{◌≡◌, inl, inr, ◌<◌, ◌≤◌, ◌+◌, ◌*◌, ℕ, zero, suc, true, false, List, [], ◌∷◌, Option, Some, Contains, refl, sym, ◌∙◌, ap, subst, arith}
use Rattle.std.proofs.lemmas.Bool.{false_from_ne_true, false≢true, or_cases}
use Rattle.mdv_places.proofs.Staying.{have_open}
use Rattle.mdv_places.specs.Ending.{EndEnds, IsSole}
use Rattle.mdv_places.specs.Moments.{IsFront, StandsOpen}
use Rattle.mdv_places.specs.Asked.{KeepsFirst}
use Rattle.mdv_encoding.specs.Parsing.{read_of}
use Rattle.mdv_replica.proofs.Leaving.{leaves_settled}
use Rattle.mdv_replica.specs.Form.{shows}
use Rattle.mdv_replica.specs.Images.{Wipes}
use Rattle.mdv_replica.specs.Replica.{blank_master}
use Rattle.mdv_shelf.proofs.Everywhere.{last_image}
use Rattle.mdv_shelf.specs.Everywhere.{Leaves}
use Rattle.mdv_shelf.specs.Area.{range}
use Rattle.mdv_shelf.specs.Tale.{last}
use Rattle.mdv_shown.proofs.Elsewhere.{places_step, range_has}
use Rattle.mdv_shown.proofs.Sites.{site_is}
use Rattle.mdv_shown.specs.Found.{IsFound}
use Rattle.mdv_shown.specs.Site.{place_on}
use Rattle.mdv_shown.specs.declared.site.Site.{Site}
use Rattle.mdv_standing.proofs.Blanking.{first_place_before, no_first_now}
use Rattle.mdv_standing.proofs.Named.{line_found}
use Rattle.mdv_standing.specs.Below.{Head, Master, Spot, is_in, is_named, same_spot}
use Rattle.mdv_standing.specs.Listed.{HasPlace}
use Rattle.mdv_standing.specs.Matching.{spot_in, spots_of as lists_of_spots}
use Rattle.mdv_store.specs.Seats.{replicas_of, spot_of}
use Rattle.mdv_store.proofs.Sitting.{contains_first}
use Rattle.mdv_survey.specs.Replica.{at_of}
use Rattle.mdv_config.specs.Lists.{last_of, places_of}
use Rattle.mdv_votes.proofs.Meeting.{same_is}
use Rattle.mdv_databases.specs.Below.{Geometry, Image, IsImage, IsOpenedAt, Lists, One, Opened, Place, Replica, Seat, SliceAt, SliceLine, Spells, Tale, site_of, slice_at}
use Rattle.mdv_databases.specs.Ending.{ShowsThere}
use Rattle.mdv_databases.specs.Lasting.{HasNoTable}

-- a place that begins where the first one of its slice does is the first one
first_number : (n blocks : ℕ) → n * blocks ≡ 0 → 16 ≤ blocks → n ≡ 0
first_number zero blocks is least = refl
first_number (suc n) blocks is least = absurd (let step = places_step 0 (suc n) blocks (omega arith) in omega (arith, step, is, least))

module _ (g : Geometry) (o : Opened) (t : Tale) (stands : StandsOpen g o t) (opened : IsOpenedAt g o t) (front : IsFront KeepsFirst (last_of o.table.plan.lists)) (s : IsSole o) where
  abbrev site : Site
  site = site_of g o.key

  abbrev r : Replica
  r = s.replica

  abbrev found : IsFound (Spells g) site r.line r.number (last t r.line.at.drive.0) r.first r.head
  found = (opened.held.each r (subst (λ (ss : List Seat). Contains (replicas_of ss) r) (sym s.seats) (contains_first r [])) (last t) (last_image t)).found

  has : HasPlace (Spells g) site o.identity (last t) s.place
  has = have_open g o t stands (last t) (last_image t) s.place (subst (λ (l : Lists). Contains (places_of l) s.place) (sym s.only) (contains_first s.place []))

  abbrev its : Spot
  its = spot_in (slice_at site.lines s.place.slice) s.place

  -- where it lies by its slice
  its_here : its ≡ spot_in (Some has.line.at) s.place
  its_here =
      ap (λ (at : Option SliceAt). spot_in at s.place)
      (ap (λ (p : Place). slice_at site.lines p.slice) has.is ∙ line_found g opened.sound o.key has.line has.own.found.one_of)

  named : its ≡ spot_of r
  named =
      let is = opened.named r (subst (λ (ss : List Seat). Contains (replicas_of ss) r) (sym s.seats) (contains_first r [])) in
      let one : is_named (lists_of_spots site (One (s.place ∷ []))) (spot_of r) ≡ true = subst (λ (l : Lists). is_named (lists_of_spots site l) (spot_of r) ≡ true) s.only is in
      elim (or_cases (is_in (its ∷ []) (spot_of r)) false one) [
        | inl in_one ↦ elim (or_cases (same_spot its (spot_of r)) false in_one) [ inl same ↦ same_is its (spot_of r) same | inr none ↦ absurd (false≢true none) ]
        | inr none ↦ absurd (false≢true none)
      ]

  starts : s.place.start ≡ 16
  starts = subst (λ (l : Lists). IsFront KeepsFirst (last_of l)) s.only front

  same_drive : has.line.at.drive.0 ≡ r.line.at.drive.0
  same_drive = ap (λ (p : Spot). p.drive.0) (sym its_here ∙ named)

  same_first : has.line.at.start + s.place.start ≡ r.line.at.start + (16 + r.number * r.first.blocks)
  same_first = ap (λ (p : Spot). p.first) (sym its_here ∙ named)

  -- so it is the first one of its slice
  pub first_one : r.number ≡ 0
  first_one = elim ((site_is g o.key opened.sound).apart r.line has.line found.one_of has.own.found.one_of) [
    | inl same ↦
        let start : r.line.at.start ≡ has.line.at.start = ap (λ (l : SliceLine). l.at.start) same in
        let first = same_first in
        let at = starts in
        first_number r.number r.first.blocks (omega (arith, start, first, at)) found.located.lies.least
    | inr apart ↦
        let block = r.line.at.start + (16 + r.number * r.first.blocks) in
        let first = same_first in
        let at = starts in
        let here = found.within in
        let there = has.own.found.within in
        let is : s.place.start ≡ 16 + has.number * has.first.blocks = ap (λ (p : Place). p.start) has.is in
        let least = found.located.lies.least in
        let other = has.own.found.located.lies.least in
        absurd (apart r.line.at.drive.0 block (range_has r.line.at.drive.0 r.line.at.start r.line.at.blocks block (omega arith) (omega (arith, here, least)))
        (subst (λ (d : ℕ). range d has.line.at.start has.line.at.blocks r.line.at.drive.0 block ≡ true) (sym same_drive) (range_has r.line.at.drive.0 has.line.at.start has.line.at.blocks block (omega (arith, first)) (omega (arith, first, there, is, other)))))
  ]

  within : 16 + 0 * r.first.blocks < r.line.at.blocks
  within = (let fits = found.within in let least = found.located.lies.least in omega (arith, fits, least))

  -- its master is blank
  module _ (u : Tale) (ends : EndEnds o t u) where
    wiped : Leaves (Wipes (place_on r.line r.first.blocks r.first.count 0)) t u
    wiped = let done = ends.only s in
        subst (λ (n : ℕ). Leaves (Wipes (place_on r.line r.first.blocks r.first.count n)) t u) first_one
        (subst (λ (v : Tale). Leaves (Wipes (at_of r)) t v) (sym done.2) (leaves_settled (at_of r).drive.0 (at_of r).first blank_master t done.0 done.1.0.outside done.1.1))

    none_there : (image : Image) → IsImage u image → (k : ℕ) (first : Master) (head : Head) → IsFound (Spells g) site r.line k (image r.line.at.drive.0) first head → ⊥
    none_there image is k first head there =
        let from = wiped image is in
        no_first_now site r.line r.first.blocks r.first.count from.0 image from.2 first there.located

    pub table_none : ShowsThere g o.key r.line t → HasNoTable g o.key u
    table_none there identity image is line k first head own = false_from_ne_true (shows head) (λ shown.
        let from = wiped image is in
        let before = first_place_before (read_of g) g opened.sound o.key r.line found.one_of from.0 image r.first.blocks r.first.count within (inr from.2) o.key line k first head own.found in
        let same = there from.0 from.1 line k first head before shown in
        none_there image is k first head (subst (λ (l : SliceLine). IsFound (Spells g) site l k (image l.at.drive.0) first head) same own.found))
