-- Places are blanked before a creation formats them.
use Rattle.std.proofs.Common.{◌≡◌, ◌⊎◌, inl, inr, ⊎_elim, ℕ, ◌+◌, ◌*◌, ◌<◌, ◌≤◌, List, [], refl, sym, ◌∙◌, ap, subst, Contains, Option, None, Some, arith}
use Rattle.std.proofs.lemmas.Bool.{cases_Bool, cases_eq}
use Rattle.mdv_name.specs.Sound.{IsSound}
use Rattle.mdv_replica.specs.Forms.{block_of}
use Rattle.mdv_replica.specs.Images.{IsSame, SameOutside, Wipes, blanked, formatted, untouched}
use Rattle.mdv_replica.proofs.Heads.{no_blank_master}
use Rattle.mdv_shelf.specs.Area.{AreApart, range}
use Rattle.mdv_shelf.proofs.Everywhere.{covers_one}
use Rattle.mdv_shelf.proofs.Frame.{behind_range, within_range}
use Rattle.mdv_shown.specs.Found.{IsFound}
use Rattle.mdv_shown.specs.Kept.{AreFoundOrMade}
use Rattle.mdv_shown.specs.Site.{line_area}
use Rattle.mdv_shown.specs.Sites.{site_of}
use Rattle.mdv_shown.proofs.Elsewhere.{found_kept, places_step}
use Rattle.mdv_shown.proofs.Formatting.{law_blank}
use Rattle.mdv_shown.proofs.Made.{first_before, later_before}
use Rattle.mdv_shown.proofs.Sites.{lines_apart, site_is}
use Rattle.mdv_standing.specs.Below.{Lives, Everywhere, FirstIs, Geometry, HasFirst, Head, Identity, Image, IsFormat, IsImage, IsSite, Key, Leaves, Master, MayFormat, MayWipe, PlaceAt, Reads, Site, SliceLine, Table, Tale, after_all, master_on, place_on}
use Rattle.mdv_standing.specs.Blanking.{AreBlank, HasNoFirst, IsFormatOn, MayClear}
use Rattle.mdv_standing.specs.Databases.{Database}
use Rattle.mdv_standing.specs.Holding.{AllStand, AreKnown, HasWorld}
use Rattle.mdv_standing.specs.Laws.{HasNone, ShowsNoTable}
use Rattle.mdv_standing.specs.Matching.{tables_of}
use Rattle.mdv_standing.specs.Rest.{HoldsRest, IsRest, MayBeTaken}
use Rattle.mdv_standing.proofs.Holding.{joined}
use Rattle.mdv_standing.proofs.Lawful.{world_none}
use Rattle.mdv_standing.proofs.Listed.{blank_still, listed_still}
use Rattle.mdv_standing.proofs.Others.{first_formats_take, world_apart}
use Rattle.mdv_standing.proofs.Within.{apart_or_in, format_for, format_within, line_still, wipe_within}

blank_here : (at : PlaceAt) (old new : Image) → Wipes at old new → new at.drive.0 at.first ≡ block_of []
blank_here at old new wipes = ap (new at.drive.0) (omega arith) ∙ wipes.here 0 (omega arith)

-- a blanking leaves a block, or blanks it
pub wiped_or_same : (at : PlaceAt) (old new : Image) → MayWipe at old new → (drive block : ℕ) → (new drive block ≡ old drive block) ⊎ (new drive block ≡ block_of [])
wiped_or_same at old new change drive block = ⊎_elim (λ same. inl (same drive block)) wiped change
  where
    wiped : Wipes at old new → (new drive block ≡ old drive block) ⊎ (new drive block ≡ block_of [])
    wiped wipes = elim (cases_Bool (range at.drive.0 at.first 1 drive block)) [
      | inl is ↦
          let here = covers_one at.drive.0 at.first drive block is in
          inr (subst (λ (d : ℕ). new d block ≡ block_of []) (sym here.0) (subst (λ (b : ℕ). new at.drive.0 b ≡ block_of []) (sym here.1) (blank_here at old new wipes)))
      | inr out ↦ inl (wipes.elsewhere drive block out)
    ]

-- so a slice without a first master stays one
pub no_first_still : (site : Site) (line : SliceLine) (at : PlaceAt) (old new : Image) → MayWipe at old new → FirstIs site old line None → FirstIs site new line None
no_first_still site line at old new change none m is = elim (wiped_or_same at old new change line.at.drive.0 (line.at.start + 16)) [
  | inl same ↦ none m (record { form = is.form; spelled = sym same ∙ is.spelled; lies = is.lies })
  | inr blank ↦ no_blank_master m (sym blank ∙ is.spelled)
]

first_here : (line : SliceLine) (blocks : ℕ) → line.at.start + (16 + 0 * blocks) ≡ line.at.start + 16
first_here line blocks = omega arith

first_blank : (line : SliceLine) (blocks count : ℕ) (old new : Image) → Wipes (place_on line blocks count 0) old new → new line.at.drive.0 (line.at.start + 16) ≡ block_of []
first_blank line blocks count old new wipes = ap (new line.at.drive.0) (sym (first_here line blocks)) ∙ blank_here (place_on line blocks count 0) old new wipes

-- and one whose first place was blanked is one
pub no_first_now : (site : Site) (line : SliceLine) (blocks count : ℕ) (old new : Image) → Wipes (place_on line blocks count 0) old new → FirstIs site new line None
no_first_now site line blocks count old new wipes m is = no_blank_master m (sym (first_blank line blocks count old new wipes) ∙ is.spelled)

-- a format writes four blocks
pub format_outside : (line : SliceLine) (blocks count k number : ℕ) (master : Master) (old new : Image) → MayFormat (place_on line blocks count k) master number old new → SameOutside (range line.at.drive.0 (line.at.start + (16 + k * blocks)) 4) old new
format_outside line blocks count k number master old new (untouched same) = λ drive block out. same drive block
format_outside line blocks count k number master old new (blanked others blank) = others
format_outside line blocks count k number master old new (formatted formats) = formats.elsewhere

-- Blank masters.
module _ (line : SliceLine) (blocks from count : ℕ) (old new : Image) where
  pub blank_wiping : (at : PlaceAt) → MayWipe at old new → AreBlank line blocks from count old → AreBlank line blocks from count new
  blank_wiping at change blank j up lt fits = elim (wiped_or_same at old new change line.at.drive.0 (line.at.start + (16 + j * blocks))) [
    | inl same ↦ same ∙ blank j up lt fits
    | inr is ↦ is
  ]

  -- a place in front of them is formatted
  pub blank_formatting : (k number : ℕ) (master : Master) → 16 ≤ blocks → k < from → MayFormat (place_on line blocks count k) master number old new → AreBlank line blocks from count old → AreBlank line blocks from count new
  blank_formatting k number master least front change blank j up lt fits =
      format_outside line blocks count k number master old new change line.at.drive.0 (line.at.start + (16 + j * blocks))
      (behind_range line.at.drive.0 (line.at.start + (16 + k * blocks)) 4 (line.at.start + (16 + j * blocks)) (let step = places_step k j blocks (omega (arith, front, up)) in omega (arith, step, least)))
      ∙ blank j up lt fits

pub blank_more : (line : SliceLine) (blocks count k : ℕ) (old new : Image) → Wipes (place_on line blocks count k) old new → AreBlank line blocks (k + 1) count old → AreBlank line blocks k count new
blank_more line blocks count k old new wipes blank j up lt fits = elim (cases_eq j k) [
  | inl e ↦ subst (λ (i : ℕ). new line.at.drive.0 (line.at.start + (16 + i * blocks)) ≡ block_of []) (sym e) (blank_here (place_on line blocks count k) old new wipes)
  | inr other ↦ blank_wiping line blocks (k + 1) count old new (place_on line blocks count k) (inr wipes) blank j (omega (arith, up, other)) lt fits
]

module _ (other line : SliceLine) (apart : AreApart (line_area other) (line_area line)) (old new : Image) (outside : SameOutside (line_area other) old new) where
  pub blank_beside : (blocks from count : ℕ) → 16 ≤ blocks → AreBlank line blocks from count old → AreBlank line blocks from count new
  blank_beside blocks from count least blank j up lt fits = line_still other line apart old new outside (line.at.start + (16 + j * blocks)) (omega arith) (omega (arith, fits, least)) ∙ blank j up lt fits

  pub first_beside : (site : Site) → IsSite site → Contains site.lines line → (before : Option Master) → FirstIs site old line before → FirstIs site new line before
  first_beside site is has before known = by before known
    where
      same : new line.at.drive.0 (line.at.start + 16) ≡ old line.at.drive.0 (line.at.start + 16)
      same = (let long = is.long line has in line_still other line apart old new outside (line.at.start + 16) (omega arith) (omega (arith, long)))

      by : (o : Option Master) → FirstIs site old line o → FirstIs site new line o
      by None none = λ m is. none m (record { form = is.form; spelled = sym same ∙ is.spelled; lies = is.lies })
      by (Some m) is = record { form = is.form; spelled = same ∙ is.spelled; lies = is.lies }

-- each replica that is found was found before, under the same head
abbrev pub AreAllBefore : (List ℕ → Table → Type 0) → Geometry → Image → Image → Type 0
AreAllBefore Spells g old new = (ask : Key) (l : SliceLine) (j : ℕ) (m : Master) (h : Head) → IsFound Spells (site_of g ask) l j (new l.at.drive.0) m h → IsFound Spells (site_of g ask) l j (old l.at.drive.0) m h

module _ (Spells : List ℕ → Table → Type 0) (g : Geometry) (old new : Image) where
  -- what comes of that
  module _ (before : AreAllBefore Spells g old new) where
    pub known_before : (all : List Database) → AreKnown Spells g all old → AreKnown Spells g all new
    known_before all known ask l j m h found = known ask l j m h (before ask l j m h found)

    pub none_before : (key : Key) (identity : Identity) → HasNone Spells (site_of g key) identity old → HasNone Spells (site_of g key) identity new
    none_before key identity none l j m h own = none l j m h (record { found = before key l j m h own.found; of_identity = own.of_identity })

    pub taken_before : (line : SliceLine) (d : Database) → MayBeTaken Spells g line old d → MayBeTaken Spells g line new d
    taken_before line d taken = elim taken [
      | inl out ↦ inl out
      | inr (inl (lives, none)) ↦ inr (inl (lives, λ l j m h own. none l j m h (record { found = before d.key l j m h own.found; of_identity = own.of_identity })))
      | inr (inr loose) ↦ inr (inr (λ v has found j m h own. loose v has found j m h (record { found = before d.key line j m h own.found; of_identity = own.of_identity })))
    ]

  module _ (sound : IsSound g) (key : Key) (line : SliceLine) (has : Contains (site_of g key).lines line) (outside : SameOutside (line_area line) old new) where
    -- what is done on a slice leaves what is found on the others
    pub all_before : ((ask : Key) → Contains (site_of g ask).lines line → (j : ℕ) (m : Master) (h : Head) → IsFound Spells (site_of g ask) line j (new line.at.drive.0) m h → IsFound Spells (site_of g ask) line j (old line.at.drive.0) m h) → AreAllBefore Spells g old new
    all_before here ask l j m h found = elim (lines_apart g sound key ask line l has found.one_of) [
      | inl e ↦ subst (λ (x : SliceLine). IsFound Spells (site_of g ask) x j (new x.at.drive.0) m h → IsFound Spells (site_of g ask) x j (old x.at.drive.0) m h) e (λ mine. here ask mine.one_of j m h mine) found
      | inr apart ↦
          let fits = found.within in
          found_kept Spells (site_of g ask) l (new l.at.drive.0) (old l.at.drive.0) m j h (λ block from to. sym (line_still line l apart old new outside block (omega (arith, from)) (omega (arith, to, fits)))) found
    ]

    -- where it has no first master in the end, none is found there
    pub none_now : FirstIs (site_of g key) new line None → AreAllBefore Spells g old new
    none_now none = all_before (λ ask looks j m h found. absurd (none m found.located))

same_before : (Spells : List ℕ → Table → Type 0) (g : Geometry) (old new : Image) → IsSame old new → AreAllBefore Spells g old new
same_before Spells g old new same ask l j m h found = found_kept Spells (site_of g ask) l (new l.at.drive.0) (old l.at.drive.0) m j h (λ block from to. sym (same l.at.drive.0 block)) found

-- The first place of a slice is blanked: that is what a format of it begins with, be it that of one place.
single : (site : Site) (identity : Identity) (line : SliceLine) (blocks count number : ℕ) → IsFormatOn site identity line blocks count 0 number → (image : Image) → IsFormat site identity image line blocks 1 0 number
single site identity line blocks count number f image = record {
  site_is = f.site_is;
  one_of = f.one_of;
  within = f.within;
  numbered = inl refl;
  form = (let m = f.form in record { fresh = m.fresh; number = m.number; name = m.name; controller = m.controller; target = m.target; disk = m.disk; slice = m.slice; start = m.start; blocks = m.blocks; index = m.index; count = omega arith });
  lies = (let l = f.lies in record { slice = l.slice; start = l.start; least = l.least; most = l.most; in_place = l.in_place; within = l.within });
  small = f.small;
  behind = λ j up lt fits. absurd (omega (arith, up, lt));
}

as_format : (line : SliceLine) (blocks count number : ℕ) (master : Master) (old new : Image) → MayWipe (place_on line blocks count 0) old new → MayFormat (place_on line blocks 1 0) master number old new
as_format line blocks count number master old new change =
    ⊎_elim (λ same. untouched same)
    (λ (wipes : Wipes (place_on line blocks count 0) old new).
    blanked (λ drive block out. wipes.elsewhere drive block (within_range line.at.drive.0 (line.at.start + (16 + 0 * blocks)) 1 (line.at.start + (16 + 0 * blocks)) 4 drive block (omega arith) (omega arith) out))
    (blank_here (place_on line blocks count 0) old new wipes)) change

module _ (read : List ℕ → Option Table) (g : Geometry) (sound : IsSound g) (key : Key) (line : SliceLine) (has : Contains (site_of g key).lines line) (old new : Image) where
  abbrev Spells : List ℕ → Table → Type 0
  Spells = Reads read

  where_looked : (ask : Key) → Contains (site_of g ask).lines line ⊎ ((b : SliceLine) → Contains (site_of g ask).lines b → AreApart (line_area line) (line_area b))
  where_looked ask = apart_or_in (site_of g ask).lines line (λ b looks. lines_apart g sound key ask line b has looks)

  -- a slice without a first master shows nothing
  blank_world : FirstIs (site_of g key) old line None → FirstIs (site_of g key) new line None → SameOutside (line_area line) old new → (d : Database) → HasWorld Spells g old d → HasWorld Spells g new d
  blank_world none still outside d w = elim (where_looked d.key) [
    | inl looks ↦ (w.0, record { reached = w.1.reached; matches = w.1.matches; shows = law_blank Table read (site_of g d.key) d.identity (tables_of d.log.family) w.0 old new line (site_is g d.key sound) looks none still outside w.1.shows; listed = listed_still Spells (site_of g d.key) d.identity d.log w.0 old new (blank_still Spells (site_of g d.key) d.identity old new (site_is g d.key sound) line looks none outside) w.1.listed })
    | inr apart ↦ (w.0, world_apart Spells g d.key d.identity d.log w.0 old new line apart outside w.1)
  ]

  pub unled_before : (blocks count k : ℕ) → 16 + k * blocks < line.at.blocks → FirstIs (site_of g key) old line None → MayWipe (place_on line blocks count k) old new → AreAllBefore Spells g old new
  unled_before blocks count k within none change =
      none_now Spells g old new sound key line has (wipe_within line k blocks count old new within change) (no_first_still (site_of g key) line (place_on line blocks count k) old new change none)

  pub first_place_before : (blocks count : ℕ) → 16 + 0 * blocks < line.at.blocks → MayWipe (place_on line blocks count 0) old new → AreAllBefore Spells g old new
  first_place_before blocks count within change =
      ⊎_elim (λ same. same_before Spells g old new same)
      (λ (wipes : Wipes (place_on line blocks count 0) old new). none_now Spells g old new sound key line has (wipe_within line 0 blocks count old new within (inr wipes)) (no_first_now (site_of g key) line blocks count old new wipes)) change

  module _ (all : List Database) (identity : Identity) (rest : HoldsRest Spells g all identity old) where
    held : AreAllBefore Spells g old new → ((d : Database) → IsRest all identity d → HasWorld Spells g old d → HasWorld Spells g new d) → HoldsRest Spells g all identity new
    held before worlds = record { worlds = λ d is. worlds d is (rest.worlds d is); known = known_before Spells g old new before all rest.known; once = rest.once }

    -- whatever the first master leads to
    pub rest_first_place : (blocks count number : ℕ) (before : Option Master) → IsFormatOn (site_of g key) identity line blocks count 0 number → FirstIs (site_of g key) old line before → ((d : Database) → IsRest all identity d → MayBeTaken Spells g line old d)
        → MayWipe (place_on line blocks count 0) old new → HoldsRest Spells g all identity new
    rest_first_place blocks count number before f located taken change =
        let within : 16 + 0 * blocks < line.at.blocks = (let fits = f.within in let least = f.lies.least in omega (arith, fits, least)) in
        held (first_place_before blocks count within change) (λ d is w. elim (taken d is) [
          | inl out ↦ elim (where_looked d.key) [
            | inl looks ↦ absurd (out looks)
            | inr apart ↦ (w.0, world_apart Spells g d.key d.identity d.log w.0 old new line apart (wipe_within line 0 blocks count old new within change) w.1)
          ]
          | inr lose ↦
              let to = first_formats_take Spells g d.key d.identity d.log w.0 old new key identity line sound (λ at same. is.1 (sym same)) w.1 lose blocks 1 number before (single (site_of g key) identity line blocks count number f old) located
              (as_format line blocks count number (master_on (site_of g key) identity line blocks 1 0) old new change) in
              (after_all w.0 to.events, to.world)
        ])

    pub rest_later : (blocks count k : ℕ) → 16 + k * blocks < line.at.blocks → FirstIs (site_of g key) old line None → MayWipe (place_on line blocks count k) old new → HoldsRest Spells g all identity new
    rest_later blocks count k within none change =
        let outside = wipe_within line k blocks count old new within change in
        let still = no_first_still (site_of g key) line (place_on line blocks count k) old new change none in
        held (none_now Spells g old new sound key line has outside still) (λ d is w. blank_world none still outside d w)

-- A creation clears slices.
module _ (read : List ℕ → Option Table) (g : Geometry) (all : List Database) (key : Key) (identity : Identity) (lines : List SliceLine) (t m : Tale) (clear : MayClear (Reads read) g all key identity lines t) where
  clears : (Change : Image → Image → Type 0) → Leaves Change t m
      → ((old new : Image) → IsImage t old → Change old new → AreAllBefore (Reads read) g old new × (HoldsRest (Reads read) g all identity old → HoldsRest (Reads read) g all identity new)) → MayClear (Reads read) g all key identity lines m
  clears Change leaves step = record {
    none = λ image is. (let from = leaves image is in none_before (Reads read) g from.0 image (step from.0 image from.1 from.2).0 key identity (clear.none from.0 from.1));
    rest = λ image is. (let from = leaves image is in (step from.0 image from.1 from.2).1 (clear.rest from.0 from.1));
    taken = λ line has image is d rest. (let from = leaves image is in taken_before (Reads read) g from.0 image (step from.0 image from.1 from.2).0 line d (clear.taken line has from.0 from.1 d rest));
  }

  module _ (sound : IsSound g) (line : SliceLine) where
    pub clears_later : (blocks count k : ℕ) → Contains (site_of g key).lines line → 16 + k * blocks < line.at.blocks → HasNoFirst (site_of g key) line t → Leaves (MayWipe (place_on line blocks count k)) t m → MayClear (Reads read) g all key identity lines m
    clears_later blocks count k has within none leaves = clears (MayWipe (place_on line blocks count k)) leaves (λ old new from change. (
      unled_before read g sound key line has old new blocks count k within (none old from) change,
      λ rest. rest_later read g sound key line has old new all identity rest blocks count k within (none old from) change,
    ))

    pub clears_first : (blocks count number : ℕ) (before : Option Master) → Contains lines line → IsFormatOn (site_of g key) identity line blocks count 0 number → Everywhere (λ image. FirstIs (site_of g key) image line before) t
        → Leaves (MayWipe (place_on line blocks count 0)) t m → MayClear (Reads read) g all key identity lines m
    clears_first blocks count number before among f located leaves = clears (MayWipe (place_on line blocks count 0)) leaves (λ old new from change. (
      first_place_before read g sound key line f.one_of old new blocks count (let fits = f.within in let least = f.lies.least in omega (arith, fits, least)) change,
      λ rest. rest_first_place read g sound key line f.one_of old new all identity rest blocks count number before f (located old from) (clear.taken line among old from) change,
    ))

-- meanwhile all stand
pub clear_stands : (read : List ℕ → Option Table) (g : Geometry) (all : List Database) (d : Database) (lines : List SliceLine) (t : Tale) → Contains all d → d.log.family ≡ [] → d.log.fate ≡ Lives → MayClear (Reads read) g all d.key d.identity lines t → AllStand (Reads read) g all t
clear_stands read g all d lines t has empty lives clear =
    joined (Reads read) g all t d clear.rest has (λ image is. (_, world_none (Reads read) (site_of g d.key) d.identity d.log empty lives image (clear.none image is)))

-- A place is formatted for a database: what is found of the others was found before.
module _ (Spells : List ℕ → Table → Type 0) (g : Geometry) (sound : IsSound g) (key : Key) (identity : Identity) (line : SliceLine) (old new : Image) where
  made_before : Contains (site_of g key).lines line → SameOutside (line_area line) old new → ((ask : Key) → Contains (site_of g ask).lines line → AreFoundOrMade Spells (site_of g ask) key identity old new)
      → (ask : Key) → AreFoundOrMade Spells (site_of g ask) key identity old new
  made_before has outside here ask l j m h found = elim (apart_or_in (site_of g ask).lines line (λ b looks. lines_apart g sound key ask line b has looks)) [
    | inl looks ↦ here ask looks l j m h found
    | inr apart ↦
        let fits = found.within in
        inl (found_kept Spells (site_of g ask) l (new l.at.drive.0) (old l.at.drive.0) m j h
        (λ block from to. sym (line_still line l (apart l found.one_of) old new outside block (omega (arith, from)) (omega (arith, to, fits)))) found)
  ]

  -- another database shows no table that showed none
  blank_made : ((ask : Key) → AreFoundOrMade Spells (site_of g ask) key identity old new) → (ask : Key) (other : Identity) → (other ≡ identity → ⊥) → ShowsNoTable Spells (site_of g ask) other old → ShowsNoTable Spells (site_of g ask) other new
  blank_made before ask other another none l j m h own = elim (before ask l j m h own.found) [
    | inl was ↦ none l j m h (record { found = was; of_identity = own.of_identity })
    | inr made ↦ absurd (another (sym own.of_identity ∙ made.1))
  ]

  taken_made : ((ask : Key) → AreFoundOrMade Spells (site_of g ask) key identity old new) → (other : SliceLine) (d : Database) → (d.identity ≡ identity → ⊥) → MayBeTaken Spells g other old d → MayBeTaken Spells g other new d
  taken_made before other d another taken = elim taken [
    | inl out ↦ inl out
    | inr (inl (lives, none)) ↦ inr (inl (lives, blank_made before d.key d.identity another none))
    | inr (inr loose) ↦ inr (inr (λ v has found j m h own. elim (before d.key other j m h own.found) [
      | inl was ↦ loose v has found j m h (record { found = was; of_identity = own.of_identity })
      | inr made ↦ absurd (another (sym own.of_identity ∙ made.1))
    ]))
  ]

  pub first_made : (blocks count number : ℕ) (before : Option Master) → IsFormat (site_of g key) identity old line blocks count 0 number → FirstIs (site_of g key) old line before
      → MayFormat (place_on line blocks count 0) (master_on (site_of g key) identity line blocks count 0) number old new → (ask : Key) → AreFoundOrMade Spells (site_of g ask) key identity old new
  first_made blocks count number before f located change =
      made_before f.one_of (format_within line 0 blocks count old new f.within f.lies.least (master_on (site_of g key) identity line blocks count 0) number change) (λ ask looks.
      first_before Spells (site_of g ask) line old new key identity blocks count number before (format_for g key ask line looks sound identity old blocks count 0 number f) (first_for ask before located) change)
    where
      first_for : (ask : Key) (o : Option Master) → FirstIs (site_of g key) old line o → FirstIs (site_of g ask) old line o
      first_for ask None is = is
      first_for ask (Some x) is = is

  pub later_made : (k number : ℕ) (first : Master) → 0 < k → IsFormat (site_of g key) identity old line first.blocks first.count k number → HasFirst (site_of g key) old line first
      → MayFormat (place_on line first.blocks first.count k) (master_on (site_of g key) identity line first.blocks first.count k) number old new → (ask : Key) → AreFoundOrMade Spells (site_of g ask) key identity old new
  later_made k number first some f has change =
      made_before f.one_of (format_within line k first.blocks first.count old new f.within f.lies.least (master_on (site_of g key) identity line first.blocks first.count k) number change) (λ ask looks.
      later_before Spells (site_of g ask) line old new key identity k number first some (format_for g key ask line looks sound identity old first.blocks first.count k number f)
      (record { site_is = site_is g ask sound; one_of = looks; located = has.located }) change)

  module _ (blocks count number : ℕ) (before : Option Master) (f : IsFormat (site_of g key) identity old line blocks count 0 number) (located : FirstIs (site_of g key) old line before)
      (change : MayFormat (place_on line blocks count 0) (master_on (site_of g key) identity line blocks count 0) number old new) where
    pub first_taken : (other : SliceLine) (d : Database) → (d.identity ≡ identity → ⊥) → MayBeTaken Spells g other old d → MayBeTaken Spells g other new d
    first_taken = taken_made (first_made blocks count number before f located change)

    pub first_unshown : (ask : Key) (other : Identity) → (other ≡ identity → ⊥) → ShowsNoTable Spells (site_of g ask) other old → ShowsNoTable Spells (site_of g ask) other new
    first_unshown = blank_made (first_made blocks count number before f located change)

  module _ (k number : ℕ) (first : Master) (some : 0 < k) (f : IsFormat (site_of g key) identity old line first.blocks first.count k number) (has : HasFirst (site_of g key) old line first)
      (change : MayFormat (place_on line first.blocks first.count k) (master_on (site_of g key) identity line first.blocks first.count k) number old new) where
    pub later_taken : (other : SliceLine) (d : Database) → (d.identity ≡ identity → ⊥) → MayBeTaken Spells g other old d → MayBeTaken Spells g other new d
    later_taken = taken_made (later_made k number first some f has change)

    pub later_unshown : (ask : Key) (other : Identity) → (other ≡ identity → ⊥) → ShowsNoTable Spells (site_of g ask) other old → ShowsNoTable Spells (site_of g ask) other new
    later_unshown = blank_made (later_made k number first some f has change)
