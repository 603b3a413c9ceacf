-- What is written at a place of a slice stays on the slice, and how a replica or a format there is one for another key's boots.
use Rattle.std.proofs.Common.{◌≡◌, ◌⊎◌, inl, inr, ⊎_elim, ℕ, zero, suc, ◌+◌, ◌-◌, ◌*◌, ◌<◌, ◌≤◌, false, List, [], ◌∷◌, length, refl, sym, subst, Contains, arith}
use Rattle.std.proofs.lemmas.Bool.{false_from_ne_true}
use Rattle.std.specs.Prelude.{slice_index_or}
use Rattle.mdv_name.specs.Sound.{IsSound}
use Rattle.mdv_replica.specs.Images.{SameOutside, Wipes, blanked, closed, filled, formatted, untouched}
use Rattle.mdv_replica.specs.Replica.{slot_area, slot_blocks}
use Rattle.mdv_shelf.specs.Area.{AreApart, range}
use Rattle.mdv_shelf.proofs.Frame.{within_range}
use Rattle.mdv_shown.specs.Found.{IsFound}
use Rattle.mdv_shown.specs.Site.{line_area}
use Rattle.mdv_shown.specs.Sites.{site_of}
use Rattle.mdv_shown.proofs.Elsewhere.{range_has}
use Rattle.mdv_shown.proofs.Sites.{site_is}
use Rattle.mdv_shown.proofs.Writes.{slot_within}
use Rattle.mdv_standing.specs.Below.{Claims, Geometry, Head, Identity, Image, IsFormat, Key, Mark, Master, MayClaim, MayFill, MayFormat, MayWipe, PlaceAt, SliceLine, Slot, Table, place_on}

-- a list has the slice, or all of its slices lie apart from it
pub apart_or_in : (xs : List SliceLine) (L : SliceLine) → ((b : SliceLine) → Contains xs b → (L ≡ b) ⊎ AreApart (line_area L) (line_area b)) → Contains xs L ⊎ ((b : SliceLine) → Contains xs b → AreApart (line_area L) (line_area b))
apart_or_in [] L each = inr (λ b has. absurd (omega (arith, has.1)))
apart_or_in (x ∷ xs) L each =
    elim (each x (0, omega arith, refl)) [
      | inl here ↦ inl (0, omega arith, sym here)
      | inr apart ↦ elim (apart_or_in xs L (λ b has. each b (suc has.0, omega (arith, has.1), has.2))) [
        | inl more ↦ inl (suc more.0, omega (arith, more.1), more.2)
        | inr all ↦ inr (λ b has. by b has.0 has.1 has.2 apart all)
      ]
    ]
  where
    by : (b : SliceLine) (k : ℕ) → k < length (x ∷ xs) → slice_index_or (x ∷ xs) k b ≡ b → AreApart (line_area L) (line_area x) → ((c : SliceLine) → Contains xs c → AreApart (line_area L) (line_area c)) → AreApart (line_area L) (line_area b)
    by b zero lt e apart all = subst (λ (l : SliceLine). AreApart (line_area L) (line_area l)) e apart
    by b (suc k) lt e apart all = all b (k, omega (arith, lt), e)

-- what is done on another slice leaves the blocks of this one
pub line_still : (other line : SliceLine) → AreApart (line_area other) (line_area line) → (old new : Image) → SameOutside (line_area other) old new
    → (block : ℕ) → line.at.start ≤ block → block < line.at.start + line.at.blocks → new line.at.drive.0 block ≡ old line.at.drive.0 block
line_still other line apart old new outside block from to =
    outside line.at.drive.0 block (false_from_ne_true (line_area other line.at.drive.0 block) (λ has. apart line.at.drive.0 block has (range_has line.at.drive.0 line.at.start line.at.blocks block from to)))

module _ (line : SliceLine) (k blocks count : ℕ) (old new : Image) where
  abbrev at : PlaceAt
  at = place_on line blocks count k

  -- so many blocks from the place on
  front : (n : ℕ) → 16 + k * blocks + n ≤ line.at.blocks → SameOutside (range line.at.drive.0 (line.at.start + (16 + k * blocks)) n) old new → SameOutside (line_area line) old new
  front n fits outside drive block out = outside drive block (within_range line.at.drive.0 (line.at.start + (16 + k * blocks)) n line.at.start line.at.blocks drive block (omega arith) (omega (arith, fits)) out)

  module _ (fits : 16 + k * blocks + blocks ≤ line.at.blocks) (least : 16 ≤ blocks) where
    -- the blocks behind its master
    behind : (drive block : ℕ) → line_area line drive block ≡ false → range line.at.drive.0 (at.first + 1) (blocks - 1) drive block ≡ false
    behind drive block out = within_range line.at.drive.0 (at.first + 1) (blocks - 1) line.at.start line.at.blocks drive block (omega arith) (omega (arith, fits, least)) out

    pub claim_within : (number : ℕ) → MayClaim at number old new → SameOutside (line_area line) old new
    claim_within number change = ⊎_elim (λ same drive block out. same drive block)
        (λ (c : Claims at number old new) drive block out. c.elsewhere drive block (within_range line.at.drive.0 (at.first + 1) 1 (at.first + 1) (blocks - 1) drive block (omega arith) (omega (arith, least)) (behind drive block out))) change

    pub fill_within : (slot : Slot) (mark : Mark) (bytes : ℕ) (body : List (List ℕ)) → length body ≤ slot_blocks blocks → MayFill at slot mark bytes body old new → SameOutside (line_area line) old new
    fill_within slot mark bytes body few change drive block out = by change drive block (slot_within at slot (length body) drive block few least (behind drive block out))
      where
        by : MayFill at slot mark bytes body old new → SameOutside (slot_area at slot (length body)) old new
        by (untouched same) = λ other at_block isnt. same other at_block
        by (closed others shut) = others
        by (filled fills) = fills.elsewhere

    pub format_within : (master : Master) (number : ℕ) → MayFormat at master number old new → SameOutside (line_area line) old new
    format_within master number change = front 4 (omega (arith, fits, least)) (by change)
      where
        by : MayFormat at master number old new → SameOutside (range line.at.drive.0 (line.at.start + (16 + k * blocks)) 4) old new
        by (untouched same) = λ drive block out. same drive block
        by (blanked others blank) = others
        by (formatted formats) = formats.elsewhere

  pub wipe_within : 16 + k * blocks < line.at.blocks → MayWipe at old new → SameOutside (line_area line) old new
  wipe_within fits change = ⊎_elim (λ same drive block out. same drive block) (λ (w : Wipes at old new). front 1 (omega (arith, fits)) w.elsewhere) change

module _ (g : Geometry) (key ask : Key) (line : SliceLine) (has : Contains (site_of g ask).lines line) where
  -- the replica as one that a boot of another key comes by
  pub found_for : (Spells : List ℕ → Table → Type 0) (k : ℕ) (content : ℕ → List ℕ) (first : Master) (head : Head) → IsFound Spells (site_of g key) line k content first head
      → IsFound Spells (record (site_of g ask) { key = head.master.key }) line k content first head
  found_for Spells k content first head its = record {
    one_of = has;
    located = its.located;
    numbered = its.numbered;
    within = its.within;
    before = λ j lt. (let c = its.before j lt in (c.0, record { readable = c.1.readable; length = c.1.length }));
    here = record { readable = its.here.readable; length = its.here.length };
    of_key = refl;
  }

  -- and the format
  pub format_for : IsSound g → (identity : Identity) (old : Image) (blocks count k number : ℕ) → IsFormat (site_of g key) identity old line blocks count k number
      → IsFormat (record (site_of g ask) { key = key }) identity old line blocks count k number
  format_for sound identity old blocks count k number f = record {
    site_is = (let is = site_is g ask sound in record { apart = is.apart; long = is.long });
    one_of = has;
    within = f.within;
    numbered = f.numbered;
    form = f.form;
    lies = f.lies;
    small = f.small;
    behind = f.behind;
  }
