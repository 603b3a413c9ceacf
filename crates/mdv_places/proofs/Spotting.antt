-- Where the dropped places lie, and that none that is still listed lies behind one of them on its slice.
use Rattle.std.proofs.Common.{◌≡◌, inl, inr, ◌+◌, ◌*◌, ◌<◌, true, List, [], ◌∷◌, take, filter_map, Contains, Option, Some, refl, sym, ◌∙◌, ap, subst, arith}
use Rattle.std.proofs.lemmas.Bool.{cases_lt, false≢true}
use Rattle.std.proofs.lemmas.List.Elements.{Contains-append_left}
use Rattle.std.specs.Prelude.{not}
use Rattle.std.specs.List.{cons_option, list_any}
use Rattle.mdv_acts.proofs.Members.{contains_behind, contains_first, first_or_behind}
use Rattle.mdv_acts.specs.Wipes.{AreFoundAt, IsFoundAt, place_in}
use Rattle.mdv_name.specs.SliceIndex.{HasSlice}
use Rattle.mdv_name.specs.Sound.{IsSound}
use Rattle.mdv_name.proofs.Finding.{slice_at-some}
use Rattle.mdv_shelf.proofs.Everywhere.{last_image}
use Rattle.mdv_shelf.specs.Tale.{last}
use Rattle.mdv_shown.specs.Site.{place_on, size_on}
use Rattle.mdv_shown.specs.Sites.{is_line_of}
use Rattle.mdv_shown.specs.Below.{IsMasterAt}
use Rattle.mdv_shown.proofs.Elsewhere.{one_master}
use Rattle.mdv_shown.proofs.Sites.{site_is}
use Rattle.mdv_standing.specs.Below.{Master}
use Rattle.mdv_standing.specs.Listed.{HasPlace}
use Rattle.mdv_standing.proofs.Named.{of_filter}
use Rattle.mdv_store.specs.Below.{Everywhere, Geometry, Identity, Image, Key, Site, Tale, site_of}
use Rattle.mdv_store.specs.Records.{Spells}
use Rattle.mdv_config.proofs.Beside.{among-true}
use Rattle.mdv_places.specs.Asked.{Adds, Asks, Drops, KeepsFirst, dropped, is_on, list_after, places_asked}
use Rattle.mdv_places.specs.Below.{Opened, Place, PlaceAt, SliceAt, SliceLine, SliceName, last_of, same_slice, slice_at}
use Rattle.mdv_places.specs.Moments.{IsFront, found_at, places_dropped}
use Rattle.mdv_places.proofs.Coming.{keeps, passes}
use Rattle.mdv_places.proofs.Dropping.{dropped_lacks}
use Rattle.mdv_places.proofs.Emptying.{AreDue, AreSpotted, IsSpotted}
use Rattle.mdv_places.proofs.Staying.{HaveAll}

-- each of these that were found is that of one of the places
pub found_one : (g : Geometry) (places : List Place) (at : List PlaceAt) (a : PlaceAt) → AreFoundAt g places at → Contains at a → (p : Place) × Contains places p × IsFoundAt g p a
found_one g [] [] a found has = absurd (omega (arith, has.1))
found_one g [] (b ∷ rest) a found has = absurd found
found_one g (p ∷ ps) [] a found has = absurd found
found_one g (p ∷ ps) (b ∷ rest) a found has = elim (first_or_behind b a rest has) [
  | inl here ↦ (p, contains_first p ps, subst (IsFoundAt g p) here found.0)
  | inr behind ↦ (let one = found_one g ps rest a found.1 behind in (one.0, contains_behind p one.0 ps one.1, one.2))
]

-- by the table of drives, in which each slice is named once
pub found_are : (g : Geometry) → IsSound g → (places : List Place) (at : List PlaceAt) → AreFoundAt g places at → filter_map (λ (p : Place). found_at p (slice_at g.slices p.slice)) places ≡ at
found_are g sound [] [] found = refl
found_are g sound [] (b ∷ rest) found = absurd found
found_are g sound (p ∷ ps) [] found = absurd found
found_are g sound (p ∷ ps) (b ∷ rest) found =
    let one = found.0 in
    let is : slice_at g.slices p.slice ≡ Some one.0 = (slice_at-some g p.slice one.0 sound).1 one.1 in
    ap (λ (o : Option SliceAt). cons_option (found_at p o) (filter_map (λ (q : Place). found_at q (slice_at g.slices q.slice)) ps)) is
    ∙ ap (λ (l : List PlaceAt). place_in one.0 p ∷ l) (found_are g sound ps rest found.1) ∙ ap (λ (x : PlaceAt). x ∷ rest) (sym one.2)

pub dropped_at : (g : Geometry) (o : Opened) (asked : Asks) → IsSound g → (at : List PlaceAt) → AreFoundAt g (dropped asked (last_of o.table.plan.lists)) at → places_dropped g o asked ≡ at
dropped_at g o asked sound at found = found_are g sound (dropped asked (last_of o.table.plan.lists)) at found

module _ (g : Geometry) (sound : IsSound g) (key : Key) where
  abbrev site : Site
  site = site_of g key

  -- two slices of the site with one name are one
  pub one_line : (a b : SliceLine) → Contains site.lines a → Contains site.lines b → a.name ≡ b.name → a ≡ b
  one_line a b in_a in_b same =
      let was = λ (l : SliceLine) (has : Contains site.lines l). of_filter (is_line_of g key) g.slices l has in
      let at : a.at ≡ b.at = sound.once b.name a.at b.at (subst (λ (n : SliceName). HasSlice g.slices n a.at) same (was a in_a)) (was b in_b) in
      λ i. record { name = same i; at = at i }

  module _ (identity : Identity) (places : List Place) (t : Tale) (have : Everywhere (HaveAll g key identity places) t) (at : List PlaceAt) (found : AreFoundAt g places at) where
    abbrev Has : Place → Image → Type 0
    Has p image = HasPlace (Spells g) site identity image p

    spot_by : (p : Place) (a : PlaceAt) → IsFoundAt g p a → (image : Image) → Has p image → IsSpotted site a
    spot_by p a is image has =
        let place : a.place ≡ p = ap (λ (x : PlaceAt). x.place) is.2 in
        let slice : p.slice ≡ has.line.name = ap (λ (x : Place). x.slice) has.is in
        let start : p.start ≡ 16 + has.number * has.first.blocks = ap (λ (x : Place). x.start) has.is in
        let its : a.place.start ≡ p.start = ap (λ (x : Place). x.start) place in
        let line_at : is.0 ≡ has.line.at = sound.once p.slice is.0 has.line.at is.1 (subst (λ (n : SliceName). HasSlice g.slices n has.line.at) (sym slice) (of_filter (is_line_of g key) g.slices has.line has.own.found.one_of)) in
        let fits = has.own.found.within in
        let least = has.own.found.located.lies.least in
        record {
          line = has.line;
          one_of = has.own.found.one_of;
          is = is.2 ∙ ap (λ (x : SliceAt). place_in x p) line_at ∙ ap (place_in has.line.at) (sym place);
          slice = ap (λ (x : Place). x.slice) place ∙ slice;
          from = omega (arith, its, start);
          to = omega (arith, its, start, fits, least);
        }

    pub spotted : AreSpotted site at
    spotted a has = (let one = found_one g places at a found has in spot_by one.0 a one.2 (last t) (have (last t) (last_image t) one.0 one.1))

    pub place_is : (a : PlaceAt) (has : Contains at a) → (p : Place) × Contains places p × (a.place ≡ p)
    place_is a has = (let one = found_one g places at a found has in (one.0, one.1, ap (λ (x : PlaceAt). x.place) one.2.2))

    -- its replica lies on that slice
    on_line : (a : PlaceAt) (has : Contains at a) (image : Image) (p : Place) → a.place ≡ p → (h : Has p image) → h.line ≡ (spotted a has).line
    on_line a has image p place h =
        one_line h.line (spotted a has).line h.own.found.one_of (spotted a has).one_of (sym (ap (λ (x : Place). x.slice) h.is) ∙ ap (λ (x : Place). x.slice) (sym place) ∙ (spotted a has).slice)

    pub due : Everywhere (AreDue g sound key at spotted) t
    due image is a has =
        let p = place_is a has in
        let h = have image is p.0 p.1 in
        inr (record {
          first = h.first;
          has = record { site_is = site_is g key sound; one_of = (spotted a has).one_of; located = subst (λ (l : SliceLine). IsMasterAt (place_on l 8192 0 0) (size_on site l) (image l.at.drive.0 (l.at.start + 16)) h.first) (on_line a has image p.0 p.2 h) h.own.found.located };
          number = h.number;
          is = ap (λ (x : Place). x.start) p.2 ∙ ap (λ (x : Place). x.start) h.is;
        })

  -- two places of one slice that begin where its first replica does are one
  pub both_first : (identity : Identity) (p q : Place) (image : Image) → HasPlace (Spells g) site identity image p → HasPlace (Spells g) site identity image q → p.slice ≡ q.slice → p.start ≡ 16 → q.start ≡ 16 → p ≡ q
  both_first identity p q image a b slice one other =
      let same : a.line ≡ b.line = one_line a.line b.line a.own.found.one_of b.own.found.one_of (sym (ap (λ (x : Place). x.slice) a.is) ∙ slice ∙ ap (λ (x : Place). x.slice) b.is) in
      let located = subst (λ (l : SliceLine). IsMasterAt (place_on l 8192 0 0) (size_on site l) (image l.at.drive.0 (l.at.start + 16)) a.first) same a.own.found.located in
      let first : a.first ≡ b.first = one_master b.line (size_on site b.line) (image b.line.at.drive.0 (b.line.at.start + 16)) a.first b.first located b.own.found.located in
      let blocks : p.blocks ≡ q.blocks = ap (λ (x : Place). x.blocks) a.is ∙ ap (λ (m : Master). m.blocks) first ∙ sym (ap (λ (x : Place). x.blocks) b.is) in
      let start : p.start ≡ q.start = one ∙ sym other in
      λ i. record { slice = slice i; start = start i; blocks = blocks i }

  -- none of the list that comes lies on the slice of a dropped one, but in front of it
  module _ (identity : Identity) (list : List Place) (t : Tale) (have : Everywhere (HaveAll g key identity list) t) where
    pub listed_not : (asked : Asks) (p : Place) → Contains (dropped asked list) p → Contains (list_after asked list) p → ⊥
    listed_not asked p gone has = false≢true (sym (ap not ((among-true (list_after asked list) p).1 has)) ∙ (dropped_lacks asked list p gone).1)

    pub in_front : (asked : Asks) → IsFront asked list → (p q : Place) → Contains (dropped asked list) p → Contains (list_after asked list) q → q.slice ≡ p.slice → q.start < p.start
    in_front (Adds lines count blocks) front p q gone has same = absurd (listed_not (Adds lines count blocks) p gone (Contains-append_left list (places_asked lines count blocks) p (dropped_lacks (Adds lines count blocks) list p gone).0))
    in_front (Drops slices) front p q gone has same =
        let test = λ (x : Place). not (is_on slices x) in
        let off : test p ≡ true = subst (λ (s : SliceName). not (list_any (same_slice s) slices) ≡ true) same (passes test list q has).1 in
        absurd (listed_not (Drops slices) p gone (keeps test list p (dropped_lacks (Drops slices) list p gone).0 off))
    in_front KeepsFirst front p q gone has same = by list refl front has where
      by : (l : List Place) → list ≡ l → IsFront KeepsFirst l → Contains (take 1 l) q → q.start < p.start
      by [] is at in_it = absurd (omega (arith, in_it.1))
      by (x ∷ xs) is at in_it = elim (first_or_behind x q [] in_it) [
        | inr none ↦ absurd (omega (arith, none.1))
        | inl here ↦
            let its : q.start ≡ 16 = ap (λ (y : Place). y.start) (sym here) ∙ at in
            let image = last t in
            let is_it = last_image t in
            let hp = have image is_it p (dropped_lacks KeepsFirst list p gone).0 in
            let hq = have image is_it q (subst (λ (m : List Place). Contains m q) (sym is) (subst (Contains (x ∷ xs)) here (contains_first x xs))) in
            let start : p.start ≡ 16 + hp.number * hp.first.blocks = ap (λ (y : Place). y.start) hp.is in
            elim (cases_lt 16 p.start) [
              | inl more ↦ omega (arith, its, more)
              | inr less ↦
                  let same_start : p.start ≡ 16 = omega (arith, less, start) in
                  let one = both_first identity p q image hp hq (sym same) same_start its in
                  absurd (listed_not KeepsFirst p gone (subst (Contains (take 1 list)) (sym one) has))
            ]
      ]
