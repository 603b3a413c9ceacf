-- What is found while a master is blanked or a place is formatted, whosever it is.
use Rattle.std.proofs.Common.{◌≡◌, ◌⊎◌, inl, inr, ⊎_elim, ℕ, ◌+◌, ◌*◌, ◌<◌, ◌≤◌, refl, sym, ◌∙◌, ap, subst, List, [], Contains, Option, None, Some, arith}
use Rattle.mdv_shown.specs.Below.{AreApart, Identity, Key, SliceLine, IsSame, MayFormat, MayWipe, Wipes, untouched, blanked, formatted, formatted_head, block_of, Master, Head, Image, SameOutside, range}
use Rattle.mdv_shelf.proofs.Frame.{before_range}
use Rattle.mdv_replica.proofs.Heads.{no_blank_master}
use Rattle.mdv_shown.specs.Site.{Site, IsSite, line_area, place_on}
use Rattle.mdv_shown.specs.Found.{IsFound}
use Rattle.mdv_shown.specs.Formats.{IsFormat, master_on}
use Rattle.mdv_shown.specs.Kept.{AreFoundBefore, AreFoundOrMade, FormatsStay}
use Rattle.mdv_shown.specs.Laws.{Reads}
use Rattle.mdv_shown.specs.Wipes.{FirstIs, HasFirst}
use Rattle.mdv_shown.proofs.Elsewhere.{found_kept, places_step, there_of}
use Rattle.mdv_shown.proofs.Formatting.{first_now, later_now}
use Rattle.mdv_shown.proofs.Wiped.{others_same, wipe_cuts}

module _ {Table : Type 0} (Spells : List ℕ → Table → Type 0) (site : Site) (ok : IsSite site) (old new : Image) where
  same_found : IsSame old new → (l : SliceLine) (j : ℕ) (m : Master) (h : Head) → IsFound Spells site l j (new l.at.drive.0) m h → IsFound Spells site l j (old l.at.drive.0) m h
  same_found same l j m h found = found_kept Spells site l (new l.at.drive.0) (old l.at.drive.0) m j h (λ block from to. sym (same l.at.drive.0 block)) found

  -- what is done within some blocks of one slice leaves what is found on the others
  module _ (line : SliceLine) (k blocks count : ℕ) (has : Contains site.lines line) (within : 16 + k * blocks + count ≤ line.at.blocks)
      (outside : SameOutside (range line.at.drive.0 (line.at.start + (16 + k * blocks)) count) old new) where
    other_before : (l : SliceLine) → AreApart (line_area line) (line_area l) → (j : ℕ) (m : Master) (h : Head) → IsFound Spells site l j (new l.at.drive.0) m h → IsFound Spells site l j (old l.at.drive.0) m h
    other_before l apart j m h found =
        let fits = found.within in
        found_kept Spells site l (new l.at.drive.0) (old l.at.drive.0) m j h (λ block from to. sym (others_same line l apart k blocks count old new within outside block (omega (arith, from)) (omega (arith, to, fits)))) found

    -- and in front of them
    front_before : (j : ℕ) (m : Master) (h : Head) → j < k → m.blocks ≡ blocks → IsFound Spells site line j (new line.at.drive.0) m h → IsFound Spells site line j (old line.at.drive.0) m h
    front_before j m h lt same found =
        let step = subst (λ (b : ℕ). j * b + b ≤ k * b) (sym same) (places_step j k blocks lt) in
        let up : k * m.blocks ≡ k * blocks = ap (λ (b : ℕ). k * b) same in
        found_kept Spells site line (new line.at.drive.0) (old line.at.drive.0) m j h
        (λ block from to. sym (outside line.at.drive.0 block (before_range line.at.drive.0 (line.at.start + (16 + k * blocks)) count block (omega (arith, to, step, up))))) found

    -- what is found on the slice decides
    by_slice : (P : SliceLine → ℕ → Master → Head → Type 0) → ((l : SliceLine) (j : ℕ) (m : Master) (h : Head) → IsFound Spells site l j (old l.at.drive.0) m h → P l j m h)
        → ((j : ℕ) (m : Master) (h : Head) → IsFound Spells site line j (new line.at.drive.0) m h → P line j m h)
        → (l : SliceLine) (j : ℕ) (m : Master) (h : Head) → IsFound Spells site l j (new l.at.drive.0) m h → P l j m h
    by_slice P before here l j m h found = elim (ok.apart line l has found.one_of) [
      | inr apart ↦ before l j m h (other_before l apart j m h found)
      | inl e ↦ subst (λ (x : SliceLine). IsFound Spells site x j (new x.at.drive.0) m h → P x j m h) e (here j m h) found
    ]

-- a master is blanked: what is found on the slice is in front of it
module _ {Table : Type 0} (Spells : List ℕ → Table → Type 0) (site : Site) (line : SliceLine) (k : ℕ) (first : Master) (old new : Image) (count : ℕ) (has : HasFirst site old line first)
    (within : 16 + k * first.blocks + count ≤ line.at.blocks) (outside : SameOutside (range line.at.drive.0 (line.at.start + (16 + k * first.blocks)) count) old new)
    (blank : new line.at.drive.0 (line.at.start + (16 + k * first.blocks)) ≡ block_of []) where
  pub blank_before : (l : SliceLine) (j : ℕ) (m : Master) (h : Head) → IsFound Spells site l j (new l.at.drive.0) m h → IsFound Spells site l j (old l.at.drive.0) m h
  blank_before =
      by_slice Spells site has.site_is old new line k first.blocks count has.one_of within outside (λ l j m h. IsFound Spells site l j (old l.at.drive.0) m h) (λ l j m h found. found)
      (λ j m h found.
      let cut = (wipe_cuts Spells site line k first old new has count within outside blank h.master.identity).cut j m h (record { found = found; of_identity = refl }) in
      front_before Spells site has.site_is old new line k first.blocks count has.one_of within outside j m h cut.0 (ap (λ (n : Master). n.blocks) cut.1) found)

module _ {Table : Type 0} (Spells : List ℕ → Table → Type 0) (site : Site) (line : SliceLine) (old new : Image) where
  pub wipes_before : (k : ℕ) (first : Master) → HasFirst site old line first → 16 + k * first.blocks < line.at.blocks → MayWipe (place_on line first.blocks first.count k) old new → AreFoundBefore Spells site old new
  wipes_before k first has within change l j m h found = (
    h,
    ⊎_elim (λ same. same_found Spells site has.site_is old new same l j m h found)
        (λ (wipes : Wipes (place_on line first.blocks first.count k) old new).
        blank_before Spells site line k first old new 1 has (omega (arith, within)) wipes.elsewhere (ap (new line.at.drive.0) (omega arith) ∙ wipes.here 0 (omega arith)) l j m h found) change,
    refl,
  )

  module _ (key : Key) (identity : Identity) where
    abbrev theirs : Site
    theirs = record site { key = key }

    abbrev Now : SliceLine → ℕ → Master → Head → Type 0
    Now l j m h = IsFound Spells site l j (old l.at.drive.0) m h ⊎ ((h.master.key ≡ key) × (h.master.identity ≡ identity))

    made : (blocks count k number : ℕ) (h : Head) → h ≡ formatted_head (place_on line blocks count k) key identity number → (h.master.key ≡ key) × (h.master.identity ≡ identity)
    made blocks count k number h e = (ap (λ (x : Head). x.master.key) e, ap (λ (x : Head). x.master.identity) e)

    mine : IsSite theirs → IsSite site
    mine is = record { apart = is.apart; long = is.long }

    pub first_before : (blocks count number : ℕ) (before : Option Master) → IsFormat theirs identity old line blocks count 0 number → FirstIs site old line before
        → MayFormat (place_on line blocks count 0) (master_on theirs identity line blocks count 0) number old new → AreFoundOrMade Spells site key identity old new
    first_before blocks count number before f known (untouched same) l j m h found = inl (same_found Spells site (mine f.site_is) old new same l j m h found)
    first_before blocks count number before f known (blanked outside blank) l j m h found =
        let fits = f.within in
        let least = f.lies.least in
        by_slice Spells site (mine f.site_is) old new line 0 blocks 4 f.one_of (omega (arith, fits, least)) outside Now (λ l j m h was. inl was)
        (λ j m h found. absurd (no_blank_master m (sym blank ∙ ap (new line.at.drive.0) (omega arith) ∙ found.located.spelled))) l j m h found
    first_before blocks count number before f known (formatted formats) l j m h found =
        let fits = f.within in
        let least = f.lies.least in
        by_slice Spells site (mine f.site_is) old new line 0 blocks 4 f.one_of (omega (arith, fits, least)) formats.elsewhere Now (λ l j m h was. inl was)
        (λ j m h found. elim (first_now Spells theirs identity line blocks count number before old new f (their_first before known) formats j m h (there_of Spells theirs site.key line j (new line.at.drive.0) m h found)) [
          | inl c ↦ absurd (omega (arith, c.0))
          | inr c ↦ inr (made blocks count 0 number h c.2)
        ]) l j m h found
      where
        their_first : (o : Option Master) → FirstIs site old line o → FirstIs theirs old line o
        their_first None is = is
        their_first (Some x) is = is

    pub later_before : (k number : ℕ) (first : Master) → 0 < k → IsFormat theirs identity old line first.blocks first.count k number → HasFirst site old line first
        → MayFormat (place_on line first.blocks first.count k) (master_on theirs identity line first.blocks first.count k) number old new → AreFoundOrMade Spells site key identity old new
    later_before k number first some f has (untouched same) l j m h found = inl (same_found Spells site has.site_is old new same l j m h found)
    later_before k number first some f has (blanked outside blank) l j m h found =
        let fits = f.within in
        let least = f.lies.least in
        inl (blank_before Spells site line k first old new 4 has (omega (arith, fits, least)) outside blank l j m h found)
    later_before k number first some f has (formatted formats) l j m h found =
        let fits = f.within in
        let least = f.lies.least in
        let its : HasFirst theirs old line first = record { site_is = f.site_is; one_of = has.one_of; located = has.located } in
        by_slice Spells site has.site_is old new line k first.blocks 4 f.one_of (omega (arith, fits, least)) formats.elsewhere Now (λ l j m h was. inl was)
        (λ j m h found. elim (later_now Spells theirs identity line k number first old new some f its formats j m h (there_of Spells theirs site.key line j (new line.at.drive.0) m h found)) [
          | inl c ↦ inl (front_before Spells site has.site_is old new line k first.blocks 4 f.one_of (omega (arith, fits, least)) formats.elsewhere j m h c.0 (ap (λ (n : Master). n.blocks) c.1) found)
          | inr c ↦ inr (made first.blocks first.count k number h c.2)
        ]) l j m h found

pub law_formats_stay : (T : Type 0) → FormatsStay T
law_formats_stay T = record {
  wipes = λ read site old new line k first. wipes_before (Reads read) site line old new k first;
  first = λ read site old new line blocks count number before key identity. first_before (Reads read) site line old new key identity blocks count number before;
  later = λ read site old new line k number first key identity. later_before (Reads read) site line old new key identity k number first;
}
