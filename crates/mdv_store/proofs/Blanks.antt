-- A database that shows no table shows none while a replica of another one is claimed or written, or a place is blanked or formatted for it.
use Rattle.std.proofs.Common.{◌≡◌, inl, inr, ℕ, ◌+◌, ◌<◌, ◌^◌, List, Contains, sym, ◌∙◌, ap, subst, arith}
use Rattle.std.proofs.lemmas.Bool.{false_from_ne_true}
use Rattle.mdv_name.specs.Sound.{IsSound}
use Rattle.mdv_replica.specs.Form.{IsTable, shows}
use Rattle.mdv_replica.specs.Images.{MayClaim, MayFill, SameOutside}
use Rattle.mdv_replica.specs.declared.forms.Master.{Master}
use Rattle.mdv_replica.proofs.Heads.{one_head}
use Rattle.mdv_shelf.specs.Area.{AreApart}
use Rattle.mdv_shown.specs.Found.{Counts, IsFound}
use Rattle.mdv_shown.specs.Kept.{AreFoundBefore, AreFoundStill}
use Rattle.mdv_shown.specs.Site.{line_area, place_on, size_on}
use Rattle.mdv_shown.proofs.Elsewhere.{found_kept, one_master, range_has}
use Rattle.mdv_shown.proofs.Kept.{claims_before, claims_still, slots_before, slots_still}
use Rattle.mdv_shown.proofs.Sites.{lines_apart, site_is}
use Rattle.mdv_standing.specs.Laws.{ShowsNoTable}
use Rattle.mdv_standing.proofs.Blanking.{AreAllBefore}
use Rattle.mdv_standing.proofs.Within.{apart_or_in, claim_within, fill_within, found_for}
use Rattle.mdv_store.specs.Below.{Geometry, Head, Identity, Image, IsOwn, Key, Mark, Replica, Site, SliceLine, Slot, Tale, at_of, site_of}
use Rattle.mdv_store.specs.Blank.{IsBlank, StayBlank}
use Rattle.mdv_store.specs.Records.{Spells}

module _ (g : Geometry) (ask : Key) (other : Identity) (old new : Image) (blank : ShowsNoTable (Spells g) (site_of g ask) other old) (key : Key) (identity : Identity) (another : other ≡ identity → ⊥) (sound : IsSound g) (r : Replica)
    (mine : IsOwn (Spells g) (site_of g key) identity r.line r.number old r.first r.head) where
  abbrev site : Site
  site = site_of g ask

  -- two heads at one place of one image are one
  same_head : (image : Image) (l : SliceLine) (k : ℕ) (m : Master) (a b : Head) → IsFound (Spells g) site l k (image l.at.drive.0) m a → IsFound (Spells g) site l k (image l.at.drive.0) m b → a ≡ b
  same_head image l k m a b x y =
      let at = place_on l m.blocks m.count k in
      let c = image l.at.drive.0 in
      one_head at (size_on site l) (c at.first) (c (at.first + 1)) (c (at.first + 2)) (c (at.first + 3)) a b x.here.readable.of_head y.here.readable.of_head

  -- the replica that is written isn't of the other database
  not_written : (m : Master) (was : Head) → IsOwn (Spells g) site other r.line r.number old m was → ⊥
  not_written m was its =
      let line = r.line in
      let c = old line.at.drive.0 in
      let first : m ≡ r.first = one_master line (size_on site line) (c (line.at.start + 16)) m r.first its.found.located mine.found.located in
      let there = subst (λ (x : Master). IsOwn (Spells g) site other line r.number old x was) first its in
      let at = at_of r in
      let same : was ≡ r.head = one_head at (size_on site line) (c at.first) (c (at.first + 1)) (c (at.first + 2)) (c (at.first + 3)) was r.head there.found.here.readable.of_head mine.found.here.readable.of_head in
      another (sym there.of_identity ∙ ap (λ (h : Head). h.master.identity) same ∙ mine.of_identity)

  not_at : (l : SliceLine) (k : ℕ) (m : Master) (was : Head) → l ≡ r.line → k ≡ r.number → IsOwn (Spells g) site other l k old m was → ⊥
  not_at l k m was line number its =
      not_written m was
      (subst (λ (i : ℕ). IsOwn (Spells g) site other r.line i old m was) number
      (subst (λ (b : SliceLine). IsOwn (Spells g) site other b k old m was) line its))

  -- where a boot of this key looks on the slice
  looks : AreFoundBefore (Spells g) site old new → AreFoundStill (Spells g) site r.line r.number old new → ShowsNoTable (Spells g) site other new
  looks before still l k m h own =
      let was = before l k m h own.found in
      let its : IsOwn (Spells g) site other l k old m was.0 = record { found = was.1; of_identity = ap (λ (x : Master). x.identity) was.2 ∙ own.of_identity } in
      elim (still l k m was.0 was.1) [
        | inl same ↦ absurd (not_at l k m was.0 same.0 same.1 its)
        | inr kept ↦ ap shows (same_head new l k m h was.0 own.found kept.found) ∙ blank l k m was.0 its
      ]

  -- and where it doesn't
  looks_beside : ((b : SliceLine) → Contains site.lines b → AreApart (line_area r.line) (line_area b)) → SameOutside (line_area r.line) old new → ShowsNoTable (Spells g) site other new
  looks_beside apart outside l k m h own =
      let found = own.found in
      let fits = found.within in
      let was = found_kept (Spells g) site l (new l.at.drive.0) (old l.at.drive.0) m k h
      (λ block from to. sym (outside l.at.drive.0 block (false_from_ne_true (line_area r.line l.at.drive.0 block)
      (λ has. apart l found.one_of l.at.drive.0 block has (range_has l.at.drive.0 l.at.start l.at.blocks block (omega (arith, from)) (omega (arith, to, fits))))))) found in
      blank l k m h (record { found = was; of_identity = own.of_identity })

  stays : SameOutside (line_area r.line) old new → (Contains site.lines r.line → AreFoundBefore (Spells g) site old new × AreFoundStill (Spells g) site r.line r.number old new) → ShowsNoTable (Spells g) site other new
  stays outside found = elim (apart_or_in site.lines r.line (λ b has. lines_apart g sound key ask r.line b mine.found.one_of has)) [
    | inl has ↦ (let both = found has in looks both.0 both.1)
    | inr apart ↦ looks_beside apart outside
  ]

  for_key : Contains site.lines r.line → IsFound (Spells g) (record site { key = r.head.master.key }) r.line r.number (old r.line.at.drive.0) r.first r.head
  for_key has = found_for g key ask r.line has (Spells g) r.number (old r.line.at.drive.0) r.first r.head mine.found

  pub blank_claims : (number : ℕ) → number < 2 ^ 63 → MayClaim (at_of r) number old new → ShowsNoTable (Spells g) site other new
  blank_claims number small change =
      stays (claim_within r.line r.number r.first.blocks r.first.count old new mine.found.within mine.found.located.lies.least number change) (λ has. (
        claims_before (Spells g) site r.line r.number r.first r.head old new (for_key has) (site_is g ask sound) number small change,
        claims_still (Spells g) site r.line r.number r.first r.head old new (for_key has) (site_is g ask sound) number small change,
      ))

  pub blank_slots : (slot : Slot) (mark : Mark) (bytes : ℕ) (body : List (List ℕ)) → IsTable (Counts (Spells g)) (at_of r) mark bytes body → MayFill (at_of r) slot mark bytes body old new → ShowsNoTable (Spells g) site other new
  blank_slots slot mark bytes body table change =
      stays (fill_within r.line r.number r.first.blocks r.first.count old new mine.found.within mine.found.located.lies.least slot mark bytes body table.in_slot change) (λ has. (
        slots_before (Spells g) site r.line r.number r.first r.head old new (for_key has) (site_is g ask sound) slot mark bytes body table change,
        slots_still (Spells g) site r.line r.number r.first r.head old new (for_key has) (site_is g ask sound) slot mark bytes body table change,
      ))

-- What showed no table shows none, where nothing is found that was not found before.
module _ (g : Geometry) (old new : Image) where
  -- nothing is found that wasn't found before
  pub blank_before : AreAllBefore (Spells g) g old new → (ask : Key) (other : Identity) → ShowsNoTable (Spells g) (site_of g ask) other old → ShowsNoTable (Spells g) (site_of g ask) other new
  blank_before before ask other blank l j m h own = blank l j m h (record { found = before ask l j m h own.found; of_identity = own.of_identity })

-- no step, and one behind another
pub stay_blank : (g : Geometry) (identity : Identity) (t : Tale) → StayBlank g identity t t
stay_blank g identity t ask other another blank = blank

pub still_blank : (g : Geometry) (identity : Identity) (t u m : Tale) → StayBlank g identity t u → StayBlank g identity u m → StayBlank g identity t m
still_blank g identity t u m first second ask other another blank = second ask other another (first ask other another blank)

-- others that showed no table show none, nor does the database of this key itself
pub record StayDark (g : Geometry) (key : Key) (identity : Identity) (t m : Tale) : Type 0 where
  pub others : StayBlank g identity t m
  pub own : IsBlank g key identity t → IsBlank g key identity m

pub stay_dark : (g : Geometry) (key : Key) (identity : Identity) (t : Tale) → StayDark g key identity t t
stay_dark g key identity t = record { others = stay_blank g identity t; own = λ blank. blank }

pub still_dark : (g : Geometry) (key : Key) (identity : Identity) (t u m : Tale) → StayDark g key identity t u → StayDark g key identity u m → StayDark g key identity t m
still_dark g key identity t u m first second = record { others = still_blank g identity t u m first.others second.others; own = λ blank. second.own (first.own blank) }
