-- What is found stays one of the databases that were begun.
use Rattle.std.proofs.Common.{inl, inr, ℕ, ◌+◌, ◌*◌, ◌<◌, ◌≤◌, ◌^◌, List, sym, ◌∙◌, ap, subst, Contains, Option, None, Some, arith}
use Rattle.std.proofs.lemmas.Bool.{false_from_ne_true}
use Rattle.mdv_name.specs.Sound.{IsSound}
use Rattle.mdv_replica.specs.Images.{SameOutside}
use Rattle.mdv_shelf.specs.Area.{AreApart}
use Rattle.mdv_shown.specs.Found.{Counts, IsFound}
use Rattle.mdv_shown.specs.Kept.{AreFoundBefore, AreFoundOrMade}
use Rattle.mdv_shown.specs.Site.{line_area}
use Rattle.mdv_shown.specs.Sites.{site_of}
use Rattle.mdv_shown.proofs.Elsewhere.{found_kept, range_has}
use Rattle.mdv_shown.proofs.Kept.{claims_before, slots_before}
use Rattle.mdv_shown.proofs.Made.{first_before, later_before, wipes_before}
use Rattle.mdv_shown.proofs.Sites.{lines_apart, site_is}
use Rattle.mdv_standing.specs.Below.{FirstIs, Geometry, HasFirst, Head, Identity, Image, IsFormat, IsTable, Key, Mark, Master, MayClaim, MayFill, MayFormat, MayWipe, PlaceAt, SliceLine, Slot, Table, master_on, place_on}
use Rattle.mdv_standing.specs.Databases.{Database}
use Rattle.mdv_standing.specs.Holding.{AreKnown, IsOneOf}
use Rattle.mdv_standing.proofs.Within.{apart_or_in, claim_within, fill_within, format_for, format_within, found_for, wipe_within}

module _ (Spells : List ℕ → Table → Type 0) (g : Geometry) (all : List Database) (old new : Image) (sound : IsSound g) (known : AreKnown Spells g all old) (key : Key) (line : SliceLine) where
  -- a slice on which no boot of this key looks
  apart_before : (ask : Key) → ((b : SliceLine) → Contains (site_of g ask).lines b → AreApart (line_area line) (line_area b)) → SameOutside (line_area line) old new
      → (l : SliceLine) (j : ℕ) (m : Master) (h : Head) → IsFound Spells (site_of g ask) l j (new l.at.drive.0) m h → IsFound Spells (site_of g ask) l j (old l.at.drive.0) m h
  apart_before ask apart outside l j m h found =
      let fits = found.within in
      found_kept Spells (site_of g ask) l (new l.at.drive.0) (old l.at.drive.0) m j h
      (λ block from to. sym (outside l.at.drive.0 block (false_from_ne_true (line_area line l.at.drive.0 block)
      (λ has. apart l found.one_of l.at.drive.0 block has (range_has l.at.drive.0 l.at.start l.at.blocks block (omega (arith, from)) (omega (arith, to, fits))))))) found

  -- what each key's boots find is known, where its boots look there and where they don't
  by_key : Contains (site_of g key).lines line → SameOutside (line_area line) old new
      → ((ask : Key) → Contains (site_of g ask).lines line → (l : SliceLine) (j : ℕ) (m : Master) (h : Head) → IsFound Spells (site_of g ask) l j (new l.at.drive.0) m h → IsOneOf all ask h.master.identity)
      → AreKnown Spells g all new
  by_key here outside look ask l j m h found = elim (apart_or_in (site_of g ask).lines line (λ b has. lines_apart g sound key ask line b here has)) [
    | inl has ↦ look ask has l j m h found
    | inr apart ↦ known ask l j m h (apart_before ask apart outside l j m h found)
  ]

  same_identity : (ask : Key) → AreFoundBefore Spells (site_of g ask) old new → (l : SliceLine) (j : ℕ) (m : Master) (h : Head) → IsFound Spells (site_of g ask) l j (new l.at.drive.0) m h → IsOneOf all ask h.master.identity
  same_identity ask before l j m h found =
      let was = before l j m h found in
      subst (λ (i : Identity). IsOneOf all ask i) (ap (λ (x : Master). x.identity) was.2) (known ask l j m was.0 was.1)

  module _ (k : ℕ) (first : Master) (head : Head) (its : IsFound Spells (site_of g key) line k (old line.at.drive.0) first head) where
    abbrev at : PlaceAt
    at = place_on line first.blocks first.count k

    least : 16 ≤ first.blocks
    least = its.located.lies.least

    for_key : (ask : Key) → Contains (site_of g ask).lines line → IsFound Spells (record (site_of g ask) { key = head.master.key }) line k (old line.at.drive.0) first head
    for_key ask has = found_for g key ask line has Spells k (old line.at.drive.0) first head its

    pub known_claims : (number : ℕ) → number < 2 ^ 63 → MayClaim at number old new → AreKnown Spells g all new
    known_claims number small change = by_key its.one_of (claim_within line k first.blocks first.count old new its.within least number change)
        (λ ask has. same_identity ask (claims_before Spells (site_of g ask) line k first head old new (for_key ask has) (site_is g ask sound) number small change))

    pub known_slots : (slot : Slot) (mark : Mark) (bytes : ℕ) (body : List (List ℕ)) → IsTable (Counts Spells) at mark bytes body → MayFill at slot mark bytes body old new → AreKnown Spells g all new
    known_slots slot mark bytes body table change = by_key its.one_of (fill_within line k first.blocks first.count old new its.within least slot mark bytes body table.in_slot change)
        (λ ask has. same_identity ask (slots_before Spells (site_of g ask) line k first head old new (for_key ask has) (site_is g ask sound) slot mark bytes body table change))

  pub known_wipes : (k : ℕ) (first : Master) → HasFirst (site_of g key) old line first → 16 + k * first.blocks < line.at.blocks → MayWipe (place_on line first.blocks first.count k) old new → AreKnown Spells g all new
  known_wipes k first has within change = by_key has.one_of (wipe_within line k first.blocks first.count old new within change)
      (λ ask looks. same_identity ask (wipes_before Spells (site_of g ask) line old new k first (record { site_is = site_is g ask sound; one_of = looks; located = has.located }) within change))

  -- a place is formatted for one of the databases
  module _ (identity : Identity) (one : IsOneOf all key identity) where
    made_or_known : (ask : Key) → AreFoundOrMade Spells (site_of g ask) key identity old new → (l : SliceLine) (j : ℕ) (m : Master) (h : Head) → IsFound Spells (site_of g ask) l j (new l.at.drive.0) m h → IsOneOf all ask h.master.identity
    made_or_known ask before l j m h found = elim (before l j m h found) [
      | inl was ↦ known ask l j m h was
      | inr made ↦ subst (λ (i : Identity). IsOneOf all ask i) (sym made.1) (subst (λ (n : Key). IsOneOf all n identity) (sym made.0 ∙ found.of_key) one)
    ]

    pub known_first : (blocks count number : ℕ) (before : Option Master) → IsFormat (site_of g key) identity old line blocks count 0 number → FirstIs (site_of g key) old line before
        → MayFormat (place_on line blocks count 0) (master_on (site_of g key) identity line blocks count 0) number old new → AreKnown Spells g all new
    known_first blocks count number before f located change = by_key f.one_of (format_within line 0 blocks count old new f.within f.lies.least (master_on (site_of g key) identity line blocks count 0) number change)
        (λ ask has. made_or_known ask (first_before Spells (site_of g ask) line old new key identity blocks count number before (format_for g key ask line has sound identity old blocks count 0 number f) (first_for ask before located) change))
      where
        first_for : (ask : Key) (o : Option Master) → FirstIs (site_of g key) old line o → FirstIs (site_of g ask) old line o
        first_for ask None is = is
        first_for ask (Some x) is = is

    pub known_later : (k number : ℕ) (first : Master) → 0 < k → IsFormat (site_of g key) identity old line first.blocks first.count k number → HasFirst (site_of g key) old line first
        → MayFormat (place_on line first.blocks first.count k) (master_on (site_of g key) identity line first.blocks first.count k) number old new → AreKnown Spells g all new
    known_later k number first some f has change = by_key f.one_of (format_within line k first.blocks first.count old new f.within f.lies.least (master_on (site_of g key) identity line first.blocks first.count k) number change)
        (λ ask looks. made_or_known ask (later_before Spells (site_of g ask) line old new key identity k number first some (format_for g key ask line looks sound identity old first.blocks first.count k number f)
        (record { site_is = site_is g ask sound; one_of = looks; located = has.located }) change))
