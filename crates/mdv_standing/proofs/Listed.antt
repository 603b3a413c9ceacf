-- The replicas of a database stay where one is claimed or written, whosever it is, and where something is done elsewhere.
use Rattle.std.proofs.Common.{◌≡◌, ◌⊎◌, inl, inr, ⊎_elim, ℕ, zero, suc, ◌+◌, ◌<◌, ◌^◌, true, List, [], ◌∷◌, refl, sym, ◌∙◌, ap, subst, Contains, None, arith}
use Rattle.std.proofs.lemmas.List.Elements.{All-cons, All-head, All-tail}
use Rattle.mdv_quorum.specs.Standing.{BootsAt}
use Rattle.mdv_replica.specs.Images.{IsSame, SameOutside, closed, filled, untouched}
use Rattle.mdv_replica.specs.Seen.{IsMasterAt}
use Rattle.mdv_replica.proofs.Heads.{one_head}
use Rattle.mdv_shown.specs.Found.{Counts, IsFound}
use Rattle.mdv_shown.specs.Kept.{AreFoundStill}
use Rattle.mdv_shown.specs.Site.{line_area, size_on}
use Rattle.mdv_shown.proofs.Elsewhere.{found_kept, one_master}
use Rattle.mdv_shown.proofs.Framed.{found_same}
use Rattle.mdv_shown.proofs.Kept.{IsRewrite, claim_rewrites, claims_still, closed_rewrites, filled_rewrites, slots_still}
use Rattle.mdv_shown.proofs.Rewritten.{own_new}
use Rattle.mdv_store_law.specs.Log.{IsNotOlder, IsNotOver, answered}
use Rattle.mdv_config.specs.Lists.{places_of}
use Rattle.mdv_standing.specs.Below.{Claiming, Core, Creating, IsBelow, Ready, Writing, Claims, FirstIs, Head, Identity, Image, IsOwn, IsSite, IsTable, Key, Log, Mark, Master, MayClaim, MayFill, Place, PlaceAt, Reading, Site, SliceLine, Slot, Spot, Stage, Table, Version, place_on, site_area}
use Rattle.mdv_standing.specs.Listed.{HasPlace, HavePlaces, IsShut}
use Rattle.mdv_standing.specs.Matching.{LiesOn, Matches, Reached}
use Rattle.mdv_standing.proofs.Reaching.{standing}
use Rattle.mdv_standing.proofs.Within.{line_still}

-- where a boot has gone past reading
pub live_at : (w : Core) (s : Stage) → BootsAt w s → ((read : List Spot) → s ≡ Reading read → ⊥) → w.deleted ≡ None
live_at w (Reading read) boots past = absurd (past read refl)
live_at w (Creating next) boots past = boots
live_at w (Claiming i next claimed) boots past = boots.0.there
live_at w (Writing boot took) boots past = boots.0
live_at w (Ready next) boots past = boots

pub past_reading : (site : Site) (w : Core) → Reached site w → (s : Stage) → w.stage ≡ s → ((read : List Spot) → s ≡ Reading read → ⊥) → IsShut w → ⊥
past_reading site w reached s is past (inl none) = past none.read (sym is ∙ none.stage)
past_reading site w reached s is past (inr (p, gone)) = (let live = live_at w s (subst (BootsAt w) is (standing site w reached).boots) past in cc (gone, live))

-- where a database is there its log isn't over
pub not_over : (site : Site) (log : Log) (w : Core) → Matches site log w → w.deleted ≡ None → IsNotOver log.fate
not_over site log w matches live over = (let gone = matches.gone over in cc (live, gone.1))

-- a table that no answered one is above had none above it before the last one was answered
unanswered_before : (mark : Mark) (family : List Version) → IsNotOlder mark (answered family) → IsNotOlder mark family
unanswered_before mark [] none = none
unanswered_before mark (v ∷ older) none =
    let P = λ (x : Version). x.is_written ≡ true → IsBelow mark x.mark → ⊥ in
    All-cons P v older (λ written. All-head P (record v { is_written = true }) older none refl) (All-tail P (record v { is_written = true }) older none)

module _ (Spells : List ℕ → Table → Type 0) (site : Site) (identity : Identity) where
  -- each replica of the database is still found, under one head or another
  abbrev pub AreStill : Image → Image → Type 0
  AreStill old new = (line : SliceLine) (k : ℕ) (first : Master) (head : Head) → IsOwn Spells site identity line k old first head → (now : Head) × IsOwn Spells site identity line k new first now

  pub places_still : (log : Log) (old new : Image) → AreStill old new → HavePlaces Spells site identity log old → HavePlaces Spells site identity log new
  places_still log old new still have v place one_of found listed =
      let was = have v place one_of found listed in
      let now = still was.line was.number was.first was.head was.own in
      record { line = was.line; number = was.number; first = was.first; head = now.0; own = now.1; is = was.is }

  pub listed_still : (log : Log) (w : Core) (old new : Image) → AreStill old new → HavePlaces Spells site identity log old ⊎ IsShut w → HavePlaces Spells site identity log new ⊎ IsShut w
  listed_still log w old new still listed = ⊎_elim (λ have. inl (places_still log old new still have)) (λ none. inr none) listed

  -- a log without a table lists none
  pub places_none : (log : Log) (image : Image) → log.family ≡ [] → HavePlaces Spells site identity log image
  places_none log image empty v place one_of found listed = absurd (none (subst (λ (l : List Version). Contains l v) empty one_of))
    where
      none : Contains [] v → ⊥
      none has = absurd (omega (arith, has.1))

  -- one table more
  pub places_more : (log : Log) (image : Image) (v : Version) → HavePlaces Spells site identity log image → ((place : Place) → Contains (places_of v.table.plan.lists) place → HasPlace Spells site identity image place)
      → HavePlaces Spells site identity (record log { family = v ∷ log.family }) image
  places_more log image v have its x place (zero, lt, e) found listed = its place (subst (λ (y : Version). Contains (places_of y.table.plan.lists) place) (sym e) listed)
  places_more log image v have its x place (suc i, lt, e) found listed = have x place (i, omega (arith, lt), e) (All-tail (λ (y : Version). y.is_written ≡ true → IsBelow x.mark y.mark → ⊥) v log.family found) listed

  -- the newest one's write was answered
  pub places_answered : (log : Log) (image : Image) → HavePlaces Spells site identity log image → HavePlaces Spells site identity (record log { family = answered log.family }) image
  places_answered log image have = by log.family refl
    where
      by : (family : List Version) → log.family ≡ family → HavePlaces Spells site identity (record log { family = answered family }) image
      by [] e x place one_of found listed = places_none (record log { family = [] }) image refl x place one_of found listed
      by (v ∷ older) e x place (zero, lt, is) found listed =
          have v place (subst (λ (l : List Version). Contains l v) (sym e) (0, omega arith, refl))
          (subst (IsNotOlder v.mark) (sym e) (unanswered_before v.mark (v ∷ older) (subst (λ (y : Version). IsNotOlder y.mark (answered (v ∷ older))) (sym is) found)))
          (subst (λ (y : Version). Contains (places_of y.table.plan.lists) place) (sym is) listed)
      by (v ∷ older) e x place (suc i, lt, is) found listed =
          have x place (subst (λ (l : List Version). Contains l x) (sym e) (suc i, omega (arith, lt), is)) (subst (IsNotOlder x.mark) (sym e) (unanswered_before x.mark (v ∷ older) found)) listed

  module _ (old new : Image) where
    -- what isn't on the site's slices changes
    pub frame_still : ((drive block : ℕ) → site_area site drive block ≡ true → new drive block ≡ old drive block) → AreStill old new
    frame_still same line k first head own = (head, record { found = found_same Spells site identity old new same line k first head own.found; of_identity = own.of_identity })

    -- a slice changes on which nothing is found
    pub blank_still : IsSite site → (line : SliceLine) → Contains site.lines line → FirstIs site old line None → SameOutside (line_area line) old new → AreStill old new
    blank_still ok line has none outside l j f h own = elim (ok.apart line l has own.found.one_of) [
      | inl same ↦ absurd (none f (subst (λ (x : SliceLine). IsMasterAt (place_on x 8192 0 0) (size_on site x) (old x.at.drive.0 (x.at.start + 16)) f) (sym same) own.found.located))
      | inr apart ↦
          let fits = own.found.within in
          (h, record { found = found_kept Spells site l (old l.at.drive.0) (new l.at.drive.0) f j h (λ block from to. line_still line l apart old new outside block (omega (arith, from)) (omega (arith, to, fits))) own.found; of_identity = own.of_identity })
    ]

    -- a replica is claimed or written that a boot of its own key finds
    module _ (ok : IsSite site) (line : SliceLine) (k : ℕ) (first : Master) (head : Head) (its : IsFound Spells (record site { key = head.master.key }) line k (old line.at.drive.0) first head) where
      abbrev at : PlaceAt
      at = place_on line first.blocks first.count k

      -- that one, where it is the database's
      here_still : IsRewrite Spells site line k first head old new its → (h : Head) → IsOwn Spells site identity line k old first h → (now : Head) × IsOwn Spells site identity line k new first now
      here_still w h own =
          let c = old line.at.drive.0 in
          let same : h ≡ head = one_head at (size_on site line) (c at.first) (c (at.first + 1)) (c (at.first + 2)) (c (at.first + 3)) h head own.found.here.readable.of_head its.here.readable.of_head in (
            w.next,
            own_new Spells site ok identity line k first h w.next old new (record { own = own; elsewhere = w.behind; now = w.now; master = w.master ∙ ap (λ (x : Head). x.master) (sym same) }),
          )

      same_still : IsSame old new → AreStill old new
      same_still same l j f h own = (h, subst (λ (x : Image). IsOwn Spells site identity l j x f h) (λ i drive block. sym (same drive block) i) own)

      all_still : IsRewrite Spells site line k first head old new its → AreFoundStill Spells site line k old new → AreStill old new
      all_still w still l j f h own = elim (still l j f h own.found) [
        | inr kept ↦ (h, record { found = kept.found; of_identity = own.of_identity })
        | inl same ↦
            let located = subst (λ (x : SliceLine). IsMasterAt (place_on x 8192 0 0) (size_on site x) (old x.at.drive.0 (x.at.start + 16)) f) same.0 own.found.located in
            let one : f ≡ first = one_master line (size_on site line) (old line.at.drive.0 (line.at.start + 16)) f first located its.located in
            let mine =
            subst (λ (x : Master). IsOwn Spells site identity line k old x h) one
            (subst (λ (n : ℕ). IsOwn Spells site identity line n old f h) same.1 (subst (λ (x : SliceLine). IsOwn Spells site identity x j old f h) same.0 own)) in
            let now = here_still w h mine in (
              now.0,
              subst (λ (x : SliceLine). IsOwn Spells site identity x j new f now.0) (sym same.0)
                  (subst (λ (n : ℕ). IsOwn Spells site identity line n new f now.0) (sym same.1) (subst (λ (x : Master). IsOwn Spells site identity line k new x now.0) (sym one) now.1)),
            )
      ]

      pub claim_still : (number : ℕ) → number < 2 ^ 63 → MayClaim at number old new → AreStill old new
      claim_still number small change =
          ⊎_elim (λ same. same_still same) (λ (claims : Claims at number old new). all_still (claim_rewrites Spells site line k first head old new its number small claims) (claims_still Spells site line k first head old new its ok number small change)) change

      module _ (slot : Slot) (mark : Mark) (bytes : ℕ) (body : List (List ℕ)) (table : IsTable (Counts Spells) at mark bytes body) where
        pub slot_still : MayFill at slot mark bytes body old new → AreStill old new
        slot_still (untouched same) = same_still same
        slot_still (closed others shut) = all_still (closed_rewrites Spells site line k first head old new its slot mark bytes body table others shut) (slots_still Spells site line k first head old new its ok slot mark bytes body table (closed others shut))
        slot_still (filled fills) = all_still (filled_rewrites Spells site line k first head old new its slot mark bytes body table fills) (slots_still Spells site line k first head old new its ok slot mark bytes body table (filled fills))

-- a place that has a replica lies on its slice
pub has_lies : (Spells : List ℕ → Table → Type 0) (site : Site) (identity : Identity) (image : Image) (place : Place) → HasPlace Spells site identity image place → LiesOn site place
has_lies Spells site identity image place has = subst (LiesOn site) (sym has.is) (record {
  line = has.line;
  one_of = has.own.found.one_of;
  slice = refl;
  from = omega arith;
  long = has.own.found.located.lies.least;
  to = has.own.found.within;
})

-- the replica as one that a boot of its own key finds
pub own_found : (Spells : List ℕ → Table → Type 0) (site : Site) (identity : Identity) (line : SliceLine) (k : ℕ) (image : Image) (first : Master) (head : Head) → IsOwn Spells site identity line k image first head
    → IsFound Spells (record site { key = head.master.key }) line k (image line.at.drive.0) first head
own_found Spells site identity line k image first head own = subst (λ (key : Key). IsFound Spells (record site { key = key }) line k (image line.at.drive.0) first head) (sym own.found.of_key) own.found
