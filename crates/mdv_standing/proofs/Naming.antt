-- Which spots a version names, by the places that it lists.
use Rattle.std.proofs.Common.{◌≡◌, ◌⊎◌, inl, inr, ℕ, suc, ◌+◌, ◌-◌, ◌*◌, ◌<◌, ◌≤◌, ◌||◌, Bool, true, false, List, [], ◌∷◌, refl, sym, ◌∙◌, ap, subst, Contains, Option, Some, arith}
use Rattle.std.proofs.lemmas.Bool.{cases_lt, cond-false, false≢true, false_from_ne_true, or_cases}
use Rattle.std.specs.Prelude.{cond, max}
use Rattle.mdv_shown.specs.Site.{line_area}
use Rattle.mdv_shown.specs.Wipes.{HasFirst}
use Rattle.mdv_shown.proofs.Elsewhere.{places_step, range_has}
use Rattle.mdv_shown.proofs.Wiped.{in_from}
use Rattle.mdv_config.specs.Lists.{first_of, last_of}
use Rattle.mdv_votes.specs.Spots.{in_second}
use Rattle.mdv_votes.proofs.Meeting.{same_is}
use Rattle.mdv_standing.specs.Below.{Image, IsSite, Lists, Master, One, Place, Site, SliceAt, SliceLine, Spot, Two, Version, is_in, is_named, same_spot, slice_at}
use Rattle.mdv_standing.specs.Matching.{lists_of, spot_in, spot_of_place, spots_in, spots_of}
use Rattle.mdv_standing.specs.Placing.{AllLie, AreNamed, IsBare, IsUnlisted, LieInFront}

module _ (site : Site) where
  -- a spot of a list is that of one of its places
  place_at_spot : (list : List Place) (q : Spot) → is_in (spots_in site list) q ≡ true → (place : Place) × Contains list place × (spot_of_place site place ≡ q)
  place_at_spot [] q e = absurd (false≢true e)
  place_at_spot (x ∷ list) q e = elim (or_cases (same_spot (spot_of_place site x) q) (is_in (spots_in site list) q) e) [
    | inl here ↦ (x, (0, omega arith, refl), same_is (spot_of_place site x) q here)
    | inr rest ↦ (let more = place_at_spot list q rest in (more.0, (suc more.1.0, omega (arith, more.1.1), more.1.2), more.2))
  ]

  -- so a spot that lists name is that of a place of the one list or the other
  place_named_at : (lists : Lists) (q : Spot) → is_named (spots_of site lists) q ≡ true → (place : Place) × (Contains (first_of lists) place ⊎ Contains (last_of lists) place) × (spot_of_place site place ≡ q)
  place_named_at lists q e = by_kind q.mediator refl
    where
      of_places : (l : Lists) → is_in (spots_of site l).first q || in_second (spots_of site l).second q ≡ true → (place : Place) × (Contains (first_of l) place ⊎ Contains (last_of l) place) × (spot_of_place site place ≡ q)
      of_places (One list) is = elim (or_cases (is_in (spots_in site list) q) false is) [
        | inl here ↦ (let at = place_at_spot list q here in (at.0, inl at.1, at.2))
        | inr never ↦ absurd (false≢true never)
      ]
      of_places (Two old new) is = elim (or_cases (is_in (spots_in site old) q) (is_in (spots_in site new) q) is) [
        | inl here ↦ (let at = place_at_spot old q here in (at.0, inl at.1, at.2))
        | inr there ↦ (let at = place_at_spot new q there in (at.0, inr at.1, at.2))
      ]

      none_seated : (l : Lists) → is_in (spots_of site l).mediators q ≡ false
      none_seated (One list) = refl
      none_seated (Two old new) = refl

      by_kind : (b : Bool) → q.mediator ≡ b → (place : Place) × (Contains (first_of lists) place ⊎ Contains (last_of lists) place) × (spot_of_place site place ≡ q)
      by_kind true kind =
          let l = spots_of site lists in
          let seat : is_named l q ≡ is_in l.mediators q = ap (λ (b : Bool). cond b (is_in l.mediators q) (is_in l.first q || in_second l.second q)) kind in
          absurd (false≢true (sym (none_seated lists) ∙ sym seat ∙ e))
      by_kind false kind =
          let l = spots_of site lists in
          of_places lists (sym (cond-false q.mediator (is_in l.mediators q) (is_in l.first q || in_second l.second q) kind) ∙ e)

module _ (site : Site) (ok : IsSite site) (lines : AreNamed site) (v : Version) (lie : AllLie site v) (line : SliceLine) (looks : Contains site.lines line) where
  -- a spot of the slice that is named is that of a listed place of the slice
  pub on_slice : (q : Spot) → is_named (lists_of site v) q ≡ true → q.drive.0 ≡ line.at.drive.0 → line.at.start ≤ q.first → q.first < line.at.start + line.at.blocks
      → (place : Place) × (Contains (first_of v.table.plan.lists) place ⊎ Contains (last_of v.table.plan.lists) place) × (place.slice ≡ line.name) × (q.first ≡ line.at.start + place.start)
  on_slice q named drive from to =
      let p = place_named_at site v.table.plan.lists q named in
      let at = lie p.0 p.1 in
      let found : slice_at site.lines p.0.slice ≡ Some at.line.at = ap (slice_at site.lines) at.slice ∙ lines at.line at.one_of in
      let spot : q ≡ record { drive = at.line.at.drive; first = at.line.at.start + p.0.start; mediator = false } = sym p.2 ∙ ap (λ (o : Option SliceAt). spot_in o p.0) found in
      let first : q.first ≡ at.line.at.start + p.0.start = ap (λ (s : Spot). s.first) spot in
      elim (ok.apart line at.line looks at.one_of) [
        | inl same ↦
            let start : at.line.at.start ≡ line.at.start = ap (λ (l : SliceLine). l.at.start) (sym same) in
            (p.0, p.1, at.slice ∙ ap (λ (l : SliceLine). l.name) (sym same), omega (arith, first, start))
        | inr apart ↦
            let its : q.drive.0 ≡ at.line.at.drive.0 = ap (λ (s : Spot). s.drive.0) spot in
            absurd (apart line.at.drive.0 q.first (range_has line.at.drive.0 line.at.start line.at.blocks q.first from to)
            (subst (λ (d : ℕ). line_area at.line d q.first ≡ true) (sym its ∙ drive)
            (range_has at.line.at.drive.0 at.line.at.start at.line.at.blocks q.first (omega (arith, first)) (omega (arith, first, at.to, at.long)))))
      ]

  -- none lies on a slice that none of them names
  pub bare_named : LieInFront v line 0 → IsBare site v line
  bare_named none q named drive from to = (let p = on_slice q named drive from to in let never = none p.0 p.1 p.2 in absurd (omega (arith, never)))

  -- nor from a number on, if those on the slice lie in front
  pub unlisted_named : (image : Image) (k : ℕ) (first : Master) → HasFirst site image line first → 16 + k * first.blocks < line.at.blocks
      → LieInFront v line (16 + k * first.blocks) → IsUnlisted site v image line k first
  unlisted_named image k first has within front = record {
    has = has;
    within = within;
    none = λ q inside. false_from_ne_true (is_named (lists_of site v) q) (λ named.
        let is = in_from line first.blocks k (max 1 first.count - k) q inside in
        let least = has.located.lies.least in
        let fits = is.within in
        let at : line.at.start + (16 + is.number * first.blocks) ≡ q.first = ap (λ (s : Spot). s.first) is.spot in
        let p = on_slice q named (ap (λ (s : Spot). s.drive.0) (sym is.spot)) (omega (arith, at)) (omega (arith, at, fits, least)) in
        let low = front p.0 p.1 p.2 in
        let where_it_is = p.3 in
        let up = row_least k is.number first.blocks is.from in
        absurd (omega (arith, at, low, where_it_is, up)));
  }
    where
      row_least : (a b n : ℕ) → a ≤ b → a * n ≤ b * n
      row_least a b n le = elim (cases_lt a b) [
        | inl less ↦ (let step = places_step a b n less in omega (arith, step))
        | inr more ↦ (let same : a ≡ b = omega (arith, le, more) in subst (λ (x : ℕ). a * n ≤ x * n) same (omega arith))
      ]
