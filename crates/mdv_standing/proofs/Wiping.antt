-- A place is blanked from where on nothing is found on the slice but replicas of another database: this one's world stays.
use Rattle.std.proofs.Common.{◌≡◌, inl, inr, ⊎_elim, ℕ, ◌+◌, ◌-◌, ◌*◌, ◌<◌, ◌≤◌, true, List, sym, ◌∙◌, ap, subst, Contains, arith}
use Rattle.std.proofs.lemmas.Bool.{cases_Bool, cases_lt, false_from_ne_true}
use Rattle.std.specs.Prelude.{max}
use Rattle.mdv_name.specs.Sound.{IsSound}
use Rattle.mdv_replica.specs.Images.{Wipes}
use Rattle.mdv_shelf.proofs.Frame.{before_range}
use Rattle.mdv_shown.specs.Shown.{ShowsPlaces}
use Rattle.mdv_shown.specs.Site.{size_on}
use Rattle.mdv_shown.specs.Sites.{site_of}
use Rattle.mdv_shown.specs.Wipes.{spots_behind, wiped_all}
use Rattle.mdv_shown.proofs.Elsewhere.{found_kept, one_master, places_step}
use Rattle.mdv_shown.proofs.Sites.{lines_apart, site_is}
use Rattle.mdv_shown.proofs.Wiped.{IsWiped, all_wiped, in_from, lines_spots, wipe_goes}
use Rattle.mdv_standing.specs.Below.{Core, FamilyTable, Geometry, HasFirst, Head, Identity, Image, IsOwn, Key, Log, Master, MayWipe, PlaceAt, Shows, Site, SliceLine, Spot, Table, after_all, is_in, place_at, place_on, spot_on}
use Rattle.mdv_standing.specs.Matching.{tables_of}
use Rattle.mdv_standing.specs.Others.{IsAlone}
use Rattle.mdv_standing.specs.Worlds.{IsWorld}
use Rattle.mdv_standing.proofs.Creating.{places_agree}
use Rattle.mdv_standing.proofs.Listed.{AreStill, listed_still}
use Rattle.mdv_standing.proofs.Others.{world_apart}
use Rattle.mdv_standing.proofs.Unlisting.{behind_places}
use Rattle.mdv_standing.proofs.Within.{apart_or_in, line_still, wipe_within}

module _ (Spells : List ℕ → Table → Type 0) (g : Geometry) (sound : IsSound g) (key : Key) (identity : Identity) (log : Log) (w : Core) (old new : Image) (other : Key) (its : Identity) (line : SliceLine) (k : ℕ) (first : Master)
    (another : its ≡ identity → ⊥) (has : HasFirst (site_of g other) old line first) (within : 16 + k * first.blocks < line.at.blocks) (alone : IsAlone Spells g its old line k) (world : IsWorld Spells (site_of g key) identity log w old)
    (change : MayWipe (place_on line first.blocks first.count k) old new) where
  abbrev site : Site
  site = site_of g key

  abbrev at : PlaceAt
  at = place_on line first.blocks first.count k

  abbrev spots : List Spot
  spots = spots_behind line first k

  front : (block : ℕ) → block < at.first → new line.at.drive.0 block ≡ old line.at.drive.0 block
  front block below = ⊎_elim (λ same. same line.at.drive.0 block) (λ (wipes : Wipes at old new). wipes.elsewhere line.at.drive.0 block (before_range line.at.drive.0 at.first 1 block below)) change

  -- where a boot of the key looks on the slice
  module _ (looks : Contains site.lines line) where
    mine : HasFirst site old line first
    mine = record { site_is = site_is g key sound; one_of = looks; located = has.located }

    -- a replica of this database on the slice lies in front
    in_front : (j : ℕ) (m : Master) (head : Head) → IsOwn Spells site identity line j old m head → j < k
    in_front j m head own = elim (cases_lt j k) [
      | inl less ↦ less
      | inr more ↦ absurd (another (sym (alone key j m head more own.found) ∙ own.of_identity))
    ]

    one_first : (j : ℕ) (m : Master) (head : Head) → IsOwn Spells site identity line j old m head → m ≡ first
    one_first j m head own = one_master line (size_on site line) (old line.at.drive.0 (line.at.start + 16)) m first own.found.located has.located

    still : AreStill Spells site identity old new
    still l j m head own = elim (mine.site_is.apart line l looks own.found.one_of) [
      | inr apart ↦
          let fits = own.found.within in (
            head,
            record {
              found = found_kept Spells site l (old l.at.drive.0) (new l.at.drive.0) m j head
                  (λ block from to. line_still line l apart old new (wipe_within line k first.blocks first.count old new within change) block (omega (arith, from)) (omega (arith, to, fits))) own.found;
              of_identity = own.of_identity;
            },
          )
      | inl same ↦ (head, subst (λ (x : SliceLine). IsOwn Spells site identity x j new m head) same (on_slice j m head (subst (λ (x : SliceLine). IsOwn Spells site identity x j old m head) (sym same) own)))
    ]
      where
        on_slice : (j : ℕ) (m : Master) (head : Head) → IsOwn Spells site identity line j old m head → IsOwn Spells site identity line j new m head
        on_slice j m head own =
            let blocks : m.blocks ≡ first.blocks = ap (λ (x : Master). x.blocks) (one_first j m head own) in
            let step = places_step j k first.blocks (in_front j m head own) in
            let end : line.at.start + (16 + j * m.blocks) + m.blocks ≡ line.at.start + (16 + j * first.blocks) + first.blocks = ap (λ (b : ℕ). line.at.start + (16 + j * b) + b) blocks in
            record {
              found = found_kept Spells site line (old line.at.drive.0) (new line.at.drive.0) m j head (λ block from to. front block (omega (arith, to, end, step))) own.found;
              of_identity = own.of_identity;
            }

    -- none of the places that are lost is held
    unheld : (q : Spot) → is_in spots q ≡ true → (place_at w.places q).holds ≡ true → ⊥
    unheld q inside holds =
        let o = world.shows.only q (behind_places line first k q inside) holds in
        let from = in_from line first.blocks k (max 1 first.count - k) q inside in
        let spot : spot_on line first.blocks from.number ≡ spot_on o.line o.first.blocks o.number = from.spot ∙ o.spot in
        elim (mine.site_is.apart line o.line looks o.own.found.one_of) [
          | inr apart ↦ lines_spots line o.line apart from.number first.blocks o.number o.first.blocks from.within has.located.lies.least o.own.found.within o.own.found.located.lies.least spot
          | inl same ↦
              let own = subst (λ (x : SliceLine). IsOwn Spells site identity x o.number old o.first o.head) (sym same) o.own in
              let one = one_first o.number o.first o.head own in
              let there : spot_on line first.blocks from.number ≡ spot_on line first.blocks o.number =
              spot ∙ ap (λ (x : SliceLine). spot_on x o.first.blocks o.number) (sym same) ∙ ap (λ (x : Master). spot_on line x.blocks o.number) one in
              behind from.number o.number from.from (in_front o.number o.first o.head own) (ap (λ (x : Spot). x.first) there)
        ]
      where
        behind : (a b : ℕ) → k ≤ a → b < k → line.at.start + (16 + a * first.blocks) ≡ line.at.start + (16 + b * first.blocks) → ⊥
        behind a b up low same =
            let least = has.located.lies.least in
            let step = places_step b a first.blocks (omega (arith, up, low)) in
            omega (arith, same, least, step)

    abbrev cut : Core
    cut = after_all w (wiped_all spots)

    shows_uncut : Shows Spells site identity (tables_of log.family) cut new → Shows Spells site identity (tables_of log.family) w new
    shows_uncut shown =
        let is : IsWiped w cut spots = all_wiped w spots in
        places_agree Spells site identity (tables_of log.family) w.family cut.places w.places new
        (λ q. record {
          holds = elim (cases_Bool (is_in spots q)) [
            | inr out ↦ sym (is.kept q out)
            | inl inside ↦ false_from_ne_true (place_at w.places q).holds (λ h. unheld q inside h) ∙ sym (false_from_ne_true (place_at cut.places q).holds (λ h. is.gone q inside h))
          ];
          claim = sym (is.claim q);
          newest = sym (is.newest q);
        })
        (subst (λ (f : List FamilyTable). ShowsPlaces Spells site identity (tables_of log.family) f cut.places new) is.family shown)

    world_looked : IsWorld Spells site identity log w new
    world_looked = record {
      reached = world.reached;
      matches = world.matches;
      shows = ⊎_elim (λ same. same) shows_uncut (wipe_goes Spells site identity (tables_of log.family) w old new line k first mine within world.shows change);
      listed = listed_still Spells site identity log w old new still world.listed;
    }

  pub wipes_leave : IsWorld Spells site identity log w new
  wipes_leave = elim (apart_or_in site.lines line (λ b looks. lines_apart g sound other key line b has.one_of looks)) [
    | inl looks ↦ world_looked looks
    | inr apart ↦ world_apart Spells g key identity log w old new line apart (wipe_within line k first.blocks first.count old new within change) world
  ]
