-- The master of a place that isn't listed any more is blanked: what is found, and what of the other databases, and of this one.
use Rattle.std.proofs.Common.{◌≡◌, ◌⊎◌, inl, inr, ⊎_elim, ℕ, ◌+◌, ◌-◌, ◌*◌, ◌<◌, ◌≤◌, true, false, List, [], sym, ◌∙◌, ap, subst, Contains, None, arith}
use Rattle.std.specs.Prelude.{max}
use Rattle.std.proofs.lemmas.Bool.{false≢true}
use Rattle.mdv_acts.specs.Wipes.{place_in}
use Rattle.mdv_name.specs.Sound.{IsSound}
use Rattle.mdv_encoding.specs.Parsing.{read_of}
use Rattle.mdv_replica.specs.Images.{MayWipe, Overwrites, SameOutside, Wipes}
use Rattle.mdv_replica.specs.Replica.{blank_master}
use Rattle.mdv_replica.proofs.Heads.{no_blank_master}
use Rattle.mdv_shown.specs.Shown.{Shows}
use Rattle.mdv_shown.specs.Site.{line_area, place_on}
use Rattle.mdv_shown.specs.Wipes.{FirstIs, HasFirst, spots_behind, spots_from, wiped_all}
use Rattle.mdv_shown.proofs.Elsewhere.{found_kept}
use Rattle.mdv_shown.proofs.Made.{blank_before}
use Rattle.mdv_shown.proofs.Sites.{lines_apart, site_is}
use Rattle.mdv_shown.proofs.Wiped.{in_from, wipe_goes}
use Rattle.mdv_standing.specs.Below.{Core, Master, after_all, is_in}
use Rattle.mdv_standing.specs.Holding.{HasWorld}
use Rattle.mdv_standing.specs.Matching.{tables_of}
use Rattle.mdv_standing.specs.Others.{Anything, IsLoss, MayLose}
use Rattle.mdv_standing.specs.Rest.{HoldsRest, IsRest, MayBeTaken}
use Rattle.mdv_standing.specs.Worlds.{IsWorld, Turned}
use Rattle.mdv_standing.proofs.Blanking.{AreAllBefore, all_before, no_first_still, rest_later, unled_before, wiped_or_same}
use Rattle.mdv_standing.proofs.Knowing.{known_wipes}
use Rattle.mdv_standing.proofs.Others.{ArePlaces, from_places, loses, none_places, world_apart}
use Rattle.mdv_standing.proofs.Shedding.{IsOnLine, sheds}
use Rattle.mdv_standing.proofs.Within.{apart_or_in, wipe_within}
use Rattle.mdv_store.specs.Below.{Database, Geometry, Identity, Image, Key, Site, SliceLine, Spot, site_of}
use Rattle.mdv_store.specs.Records.{Spells}
use Rattle.mdv_places.specs.Below.{Place, PlaceAt}

-- the block is where a number of the slice's first master begins
pub record IsNumbered (site : Site) (image : Image) (line : SliceLine) (start : ℕ) : Type 0 where
  pub first : Master
  pub has : HasFirst site image line first
  pub number : ℕ
  pub is : start ≡ 16 + number * first.blocks

-- or the slice has none
abbrev pub IsDue : Site → Image → SliceLine → ℕ → Type 0
IsDue site image line start = FirstIs site image line None ⊎ IsNumbered site image line start

-- the spots of so many numbers of a slice
on_line : (line : SliceLine) (b from n : ℕ) → 16 ≤ b → (q : Spot) → is_in (spots_from line b from n) q ≡ true → (q.mediator ≡ false) × IsOnLine line q
on_line line b from n least q e =
    let is = in_from line b from n q e in
    (ap (λ (s : Spot). s.mediator) (sym is.spot), record { number = is.number; blocks = b; least = least; within = is.within; spot = is.spot })

none_on : (line : SliceLine) (q : Spot) → is_in [] q ≡ true → (q.mediator ≡ false) × IsOnLine line q
none_on line q e = absurd (false≢true e)

-- A master is blanked, of whatever slice.
module _ (at : PlaceAt) (old new : Image) (change : MayWipe at old new) where
  -- what is due stays so
  pub due_still : (site : Site) (line : SliceLine) (start : ℕ) → IsDue site old line start → IsDue site new line start
  due_still site line start (inl none) = inl (no_first_still site line at old new change none)
  due_still site line start (inr n) = elim (wiped_or_same at old new change line.at.drive.0 (line.at.start + 16)) [
    | inl same ↦ inr (record {
      first = n.first;
      has = record { site_is = n.has.site_is; one_of = n.has.one_of; located = record { form = n.has.located.form; spelled = same ∙ n.has.located.spelled; lies = n.has.located.lies } };
      number = n.number;
      is = n.is;
    })
    | inr blank ↦ inl (λ m is. no_blank_master m (sym blank ∙ is.spelled))
  ]

-- A place of a slice of the site, as its first master numbers it.
module _ (line : SliceLine) (p : Place) (old new : Image) (change : MayWipe (place_in line.at p) old new) where
  pub as_number : (blocks count k : ℕ) → p.start ≡ 16 + k * blocks → MayWipe (place_on line blocks count k) old new
  as_number blocks count k is =
      let same : line.at.start + p.start ≡ line.at.start + (16 + k * blocks) = ap (λ (n : ℕ). line.at.start + n) is in
      ⊎_elim (λ kept. inl kept) (λ (wipes : Wipes (place_in line.at p) old new). inr (subst (λ (n : ℕ). Overwrites line.at.drive.0 n blank_master old new) same wipes)) change

  -- no matter which, where the slice has none
  pub as_any : 16 ≤ p.start → MayWipe (place_on line (p.start - 16) 1 1) old new
  as_any from = as_number (p.start - 16) 1 1 (omega (arith, from))

  module _ (g : Geometry) (sound : IsSound g) (key : Key) (looks : Contains (site_of g key).lines line) (from : 16 ≤ p.start) (to : p.start < line.at.blocks) (due : IsDue (site_of g key) old line p.start) where
    any_within : 16 + 1 * (p.start - 16) < line.at.blocks
    any_within = omega (arith, from, to)

    number_within : (n : IsNumbered (site_of g key) old line p.start) → 16 + n.number * n.first.blocks < line.at.blocks
    number_within n = subst (λ (s : ℕ). s < line.at.blocks) n.is to

    outside : SameOutside (line_area line) old new
    outside = wipe_within line 1 (p.start - 16) 1 old new any_within (as_any from)

    -- nothing is found that wasn't
    pub wiped_before : AreAllBefore (Spells g) g old new
    wiped_before = elim due [
      | inl none ↦ unled_before (read_of g) g sound key line looks old new (p.start - 16) 1 1 any_within none (as_any from)
      | inr n ↦ by n (as_number n.first.blocks n.first.count n.number n.is)
    ]
      where
        by : (n : IsNumbered (site_of g key) old line p.start) → MayWipe (place_on line n.first.blocks n.first.count n.number) old new → AreAllBefore (Spells g) g old new
        by n (inl same) = λ ask l j m h found. found_kept (Spells g) (site_of g ask) l (new l.at.drive.0) (old l.at.drive.0) m j h (λ block low high. sym (same l.at.drive.0 block)) found
        by n (inr wipes) = all_before (Spells g) g old new sound key line looks outside (λ ask its j m h found.
            blank_before (Spells g) (site_of g ask) line n.number n.first old new 1 (record { site_is = site_is g ask sound; one_of = its; located = n.has.located }) (let within = number_within n in omega (arith, within)) wipes.elsewhere
            (ap (new line.at.drive.0) (omega arith) ∙ wipes.here 0 (omega arith)) line j m h found)

    module _ (all : List Database) (identity : Identity) (rest : HoldsRest (Spells g) g all identity old) (taken : (d : Database) → IsRest all identity d → MayBeTaken (Spells g) g line old d) where
      -- what lay there is lost to another database, or nothing is
      module _ (d : Database) (is : IsRest all identity d) (w : Core) (world : IsWorld (Spells g) (site_of g d.key) d.identity d.log w old) where
        abbrev site : Site
        site = site_of g d.key

        lost_by : MayLose (Spells g) g d.key d.identity d.log old line → (spots : List Spot) → Contains site.lines line → ((q : Spot) → is_in spots q ≡ true → (q.mediator ≡ false) × IsOnLine line q) → ArePlaces spots
            → Shows (Spells g) site d.identity (tables_of d.log.family) (after_all w (wiped_all spots)) new → Turned (Spells g) site d.identity d.log w new IsLoss Anything
        lost_by lose spots has on are shown = elim lose [
          | inl (lives, none) ↦ loses (Spells g) site d.identity d.log w old new world lives none spots are shown
          | inr loose ↦ sheds (Spells g) g sound d.key d.identity d.log w old new world line has loose outside spots on shown
        ]

        by_turn : Turned (Spells g) site d.identity d.log w new IsLoss Anything → HasWorld (Spells g) g new d
        by_turn to = (after_all w to.events, to.world)

        looked : (n : IsNumbered (site_of g key) old line p.start) → Contains site.lines line → MayLose (Spells g) g d.key d.identity d.log old line → HasWorld (Spells g) g new d
        looked n has lose =
            let first : HasFirst site old line n.first = record { site_is = site_is g d.key sound; one_of = has; located = n.has.located } in
            elim (wipe_goes (Spells g) site d.identity (tables_of d.log.family) w old new line n.number n.first first (number_within n) world.shows (as_number n.first.blocks n.first.count n.number n.is)) [
              | inl same ↦ by_turn (lost_by lose [] has (none_on line) none_places same)
              | inr cut ↦ by_turn (lost_by lose (spots_behind line n.first n.number) has (on_line line n.first.blocks n.number (max 1 n.first.count - n.number) n.has.located.lies.least) (from_places line n.first.blocks n.number (max 1 n.first.count - n.number)) cut)
            ]

        stays : (n : IsNumbered (site_of g key) old line p.start) → HasWorld (Spells g) g new d
        stays n = elim (apart_or_in site.lines line (λ b has. lines_apart g sound key d.key line b looks has)) [
          | inr apart ↦ (w, world_apart (Spells g) g d.key d.identity d.log w old new line apart outside world)
          | inl has ↦ elim (taken d is) [
            | inl out ↦ absurd (out has)
            | inr lose ↦ looked n has lose
          ]
        ]

      -- so the rest stands
      pub rest_wiped : HoldsRest (Spells g) g all identity new
      rest_wiped = elim due [
        | inl none ↦ rest_later (read_of g) g sound key line looks old new all identity rest (p.start - 16) 1 1 any_within none (as_any from)
        | inr n ↦ record {
          worlds = λ d is. (let w = rest.worlds d is in stays d is w.0 w.1 n);
          known = known_wipes (Spells g) g all old new sound rest.known key line n.number n.first n.has (number_within n) (as_number n.first.blocks n.first.count n.number n.is);
          once = rest.once;
        }
      ]
