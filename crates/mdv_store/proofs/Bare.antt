-- What a boot of a key finds while a place is formatted for it: it was found before, or it is new there and shows no table.
use Rattle.std.proofs.Common.{◌≡◌, ◌⊎◌, inl, inr, ℕ, ◌+◌, ◌*◌, ◌<◌, false, List, sym, ◌∙◌, ap, subst, Contains, Option, arith}
use Rattle.mdv_replica.specs.Form.{shows}
use Rattle.mdv_replica.specs.Images.{MayFormat, SameOutside, blanked, formatted, untouched}
use Rattle.mdv_replica.specs.declared.forms.Master.{Master}
use Rattle.mdv_replica.proofs.Heads.{no_blank_master}
use Rattle.mdv_shelf.proofs.Frame.{before_range}
use Rattle.mdv_shown.specs.Formats.{IsFormat, master_on}
use Rattle.mdv_shown.specs.Found.{IsFound}
use Rattle.mdv_shown.specs.Site.{IsSite, line_area}
use Rattle.mdv_shown.specs.Wipes.{FirstIs, HasFirst}
use Rattle.mdv_shown.proofs.Elsewhere.{found_kept, places_step, there_of}
use Rattle.mdv_shown.proofs.Formatting.{first_now, later_now}
use Rattle.mdv_shown.proofs.Made.{blank_before}
use Rattle.mdv_standing.specs.Laws.{ShowsNoTable}
use Rattle.mdv_standing.proofs.Within.{format_within, line_still}
use Rattle.mdv_store.specs.Below.{Head, Identity, Image, Site, SliceLine, Table, place_on}

module _ (Spells : List ℕ → Table → Type 0) (site : Site) (identity : Identity) (line : SliceLine) (old new : Image) where
  abbrev IsBare : SliceLine → ℕ → Master → Head → Type 0
  IsBare l j m h = IsFound Spells site l j (old l.at.drive.0) m h ⊎ (shows h ≡ false)

  -- on each slice
  abbrev pub AreBare : Type 0
  AreBare = (l : SliceLine) (j : ℕ) (m : Master) (h : Head) → IsFound Spells site l j (new l.at.drive.0) m h → IsBare l j m h

  -- what is found on this slice decides
  by_slice : IsSite site → Contains site.lines line → SameOutside (line_area line) old new → ((j : ℕ) (m : Master) (h : Head) → IsFound Spells site line j (new line.at.drive.0) m h → IsBare line j m h) → AreBare
  by_slice ok has outside here l j m h found = elim (ok.apart line l has found.one_of) [
    | inl e ↦ subst (λ (x : SliceLine). IsFound Spells site x j (new x.at.drive.0) m h → IsBare x j m h) e (here j m h) found
    | inr apart ↦
        let fits = found.within in
        inl (found_kept Spells site l (new l.at.drive.0) (old l.at.drive.0) m j h (λ block from to. sym (line_still line l apart old new outside block (omega (arith, from)) (omega (arith, to, fits)))) found)
  ]

  same_bare : ((drive block : ℕ) → new drive block ≡ old drive block) → AreBare
  same_bare same l j m h found = inl (found_kept Spells site l (new l.at.drive.0) (old l.at.drive.0) m j h (λ block from to. sym (same l.at.drive.0 block)) found)

  -- the first place of the slice
  pub first_bare : (blocks count number : ℕ) (before : Option Master) → IsFormat site identity old line blocks count 0 number → FirstIs site old line before
      → MayFormat (place_on line blocks count 0) (master_on site identity line blocks count 0) number old new → AreBare
  first_bare blocks count number before f known (untouched same) = same_bare same
  first_bare blocks count number before f known (blanked outside blank) =
      by_slice f.site_is f.one_of (format_within line 0 blocks count old new f.within f.lies.least (master_on site identity line blocks count 0) number (blanked outside blank))
      (λ j m h found. absurd (no_blank_master m (sym blank ∙ ap (new line.at.drive.0) (omega arith) ∙ found.located.spelled)))
  first_bare blocks count number before f known (formatted formats) =
      by_slice f.site_is f.one_of (format_within line 0 blocks count old new f.within f.lies.least (master_on site identity line blocks count 0) number (formatted formats))
      (λ j m h found. elim (first_now Spells site identity line blocks count number before old new f known formats j m h (there_of Spells site site.key line j (new line.at.drive.0) m h found)) [
        | inl c ↦ absurd (omega (arith, c.0))
        | inr c ↦ inr (ap shows c.2)
      ])

  -- a later one
  module _ (k number : ℕ) (first : Master) (some : 0 < k) (f : IsFormat site identity old line first.blocks first.count k number) (has : HasFirst site old line first) where
    front : ((block : ℕ) → block < line.at.start + (16 + k * first.blocks) → new line.at.drive.0 block ≡ old line.at.drive.0 block) → (j : ℕ) (m : Master) (h : Head) → j < k → m ≡ first
        → IsFound Spells site line j (new line.at.drive.0) m h → IsFound Spells site line j (old line.at.drive.0) m h
    front same j m h lt is =
        let step = places_step j k first.blocks lt in
        subst (λ (x : Master). IsFound Spells site line j (new line.at.drive.0) x h → IsFound Spells site line j (old line.at.drive.0) x h) (sym is)
        (λ found. found_kept Spells site line (new line.at.drive.0) (old line.at.drive.0) first j h (λ block from to. sym (same block (omega (arith, to, step)))) found)

    pub later_bare : MayFormat (place_on line first.blocks first.count k) (master_on site identity line first.blocks first.count k) number old new → AreBare
    later_bare (untouched same) = same_bare same
    later_bare (blanked outside blank) =
        let fits = f.within in
        let least = f.lies.least in
        λ l j m h found. inl (blank_before Spells site line k first old new 4 has (omega (arith, fits, least)) outside blank l j m h found)
    later_bare (formatted formats) =
        let area = format_within line k first.blocks first.count old new f.within f.lies.least (master_on site identity line first.blocks first.count k) number (formatted formats) in
        by_slice f.site_is f.one_of area
        (λ j m h found. elim (later_now Spells site identity line k number first old new some f has formats j m h (there_of Spells site site.key line j (new line.at.drive.0) m h found)) [
          | inl c ↦ inl (front (λ block to. formats.elsewhere line.at.drive.0 block (before_range line.at.drive.0 (line.at.start + (16 + k * first.blocks)) 4 block to)) j m h c.0 c.1 found)
          | inr c ↦ inr (ap shows c.2)
        ])

  -- so what showed no table shows none
  pub bare_blank : AreBare → (whose : Identity) → ShowsNoTable Spells site whose old → ShowsNoTable Spells site whose new
  bare_blank bare whose blank l j m h own = elim (bare l j m h own.found) [
    | inl was ↦ blank l j m h (record { found = was; of_identity = own.of_identity })
    | inr none ↦ none
  ]
