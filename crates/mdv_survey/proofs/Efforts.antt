-- How many calls a slice takes, and all slices.
use Rattle.std.proofs.Common.{◌≡◌, inr, ℕ, ◌+◌, ◌≤◌, Bool, true, false, List, [], ◌∷◌, ◌++◌, refl, sym, ◌∙◌, ap, subst, Option, Some, arith, add-one}
use Rattle.std.specs.Bool.{MatchBool}
use Rattle.mdv_replica.proofs.Heads.{one_head}
use Rattle.mdv_shelf.specs.Shelves.{MadeCalls}
use Rattle.mdv_survey.specs.Below.{Drives, Geometry, Ghosts, Head, IsHead, IsMasterAt, Master, PlaceAt, Site, SliceLine, Tale, has_drive, place_on, size_on}
use Rattle.mdv_survey.specs.Counts.{AreLinesBy, EndsBy, IsCounted, IsLineBy, HasNoPlace, IsNumberBy, IsSliceBy, IsUnfitBy, IsUnreadableBy, IsVisitBy, IsWalkedBy, ReadableBy}
use Rattle.mdv_survey.specs.Replica.{Contents}
use Rattle.mdv_survey.specs.Slice.{IsChained, IsHeadThere}
use Rattle.mdv_survey.proofs.Counting.{reads_more}

module _ {S : Type 0} (shelf : Ghosts S) where
  pub counted_none : (a : S) (most : ℕ) (Q : Tale → ℕ → Type 0) → ((t : Tale) → Q t 0) → IsCounted shelf a a most Q
  counted_none a most Q by = record { calls = 0; few = omega arith; made = refl; by = λ t is. by t }

  -- one stretch after another
  pub counted_more : (a b c : S) (j k most : ℕ) (P Q R : Tale → ℕ → Type 0) → j + k ≤ most → shelf.tale b ≡ shelf.tale a → ((t : Tale) (m n : ℕ) → shelf.tale a ≡ Some t → P t m → Q t n → R t (m + n))
      → IsCounted shelf a b j P → IsCounted shelf b c k Q → IsCounted shelf a c most R
  counted_more a b c j k most P Q R fits same both first second =
      let one = first.few in let two = second.few in
      record {
        calls = first.calls + second.calls;
        few = omega (arith, one, two, fits);
        made = reads_more shelf a b c first.calls second.calls (first.calls + second.calls) refl first.made second.made;
        by = λ t is. both t first.calls second.calls is (first.by t is) (second.by t (same ∙ is));
      }

  -- the read of a head is one call
  pub counted_one : (a b : S) (most : ℕ) (Q : Tale → ℕ → Type 0) → 1 ≤ most → MadeCalls shelf a b 1 0 → ((t : Tale) → shelf.tale a ≡ Some t → Q t 1) → IsCounted shelf a b most Q
  counted_one a b most Q fits made by = record { calls = 1; few = fits; made = made; by = by }

  pub counted_weaker : (a b : S) (j most : ℕ) (P Q : Tale → ℕ → Type 0) → j ≤ most → ((t : Tale) (n : ℕ) → shelf.tale a ≡ Some t → P t n → Q t n) → IsCounted shelf a b j P → IsCounted shelf a b most Q
  counted_weaker a b j most P Q fits by counted = let few = counted.few in record {
    calls = counted.calls;
    few = omega (arith, few, fits);
    made = counted.made;
    by = λ t is. by t counted.calls is (counted.by t is);
  }

module _ (g : Geometry) (site : Site) (line : SliceLine) (first : Master) (content : ℕ → List ℕ) where
  abbrev at_number : ℕ → PlaceAt
  at_number k = place_on line first.blocks first.count k

  pub one_there : (k : ℕ) (a b : Head) → IsHead (at_number k) (size_on site line) content a → IsHead (at_number k) (size_on site line) content b → a ≡ b
  one_there k a b one other =
      let at = at_number k in
      one_head at (size_on site line) (content at.first) (content (at.first + 1)) (content (at.first + 2)) (content (at.first + 3)) a b one other

  -- no head of the slice's length is there
  pub unreadable_unread : (k : ℕ) (seen : Option Head) → (HasNoPlace line first k → ⊥) → IsHeadThere (at_number k) (size_on site line) content seen → ((head : Head) → seen ≡ Some head → head.master.blocks ≡ first.blocks → ⊥) → IsUnreadableBy g site line first content k 1
  unreadable_unread k seen place there none = record {
    place = place;
    never = λ h chain. none h (there.spelled h chain.readable.of_head) chain.length;
    headless = λ never. refl;
    headed = λ h is long. absurd (none h (there.spelled h is) long);
  }

  -- one whose slots don't fit
  pub unreadable_slots : (k n : ℕ) (head : Head) → (HasNoPlace line first k → ⊥) → IsHead (at_number k) (size_on site line) content head → head.master.blocks ≡ first.blocks → IsChained g site line first k content head false → IsUnfitBy g (at_number k) head content n → IsUnreadableBy g site line first content k (1 + n)
  unreadable_slots k n head place is length never by = record {
    place = place;
    never = never;
    headless = λ none. absurd (none head is length);
    headed = λ h also long. (n, subst (λ (x : Head). IsUnfitBy g (at_number k) x content n) (one_there k head h is also) by, refl);
  }

  pub number_by : (k n : ℕ) (head : Head) (readable : Bool) → (HasNoPlace line first k → ⊥) → IsHead (at_number k) (size_on site line) content head → head.master.blocks ≡ first.blocks → IsChained g site line first k content head readable → IsVisitBy g (at_number k) content head readable n
      → IsNumberBy g site line first content k readable (1 + n)
  number_by k n head true place is length chain by = (head, place, chain, ap (λ (x : ℕ). 1 + x) by)
  number_by k n head false place is length never by = inr (unreadable_slots k n head place is length never by)

  -- one more is readable
  pub readable_more : (k m n : ℕ) → ReadableBy g site line first content k m → IsNumberBy g site line first content k true n → ReadableBy g site line first content (k + 1) (m + n)
  readable_more k m n before (h, place, chain, is) =
      subst (λ (j : ℕ). ReadableBy g site line first content j (m + n)) (sym (add-one k)) (h, m, place, chain, before, ap (λ (x : ℕ). m + x) is)

  -- there the look ends
  pub walked_to : (k m n : ℕ) → IsMasterAt (place_on line 8192 0 0) (size_on site line) (content (line.at.start + 16)) first → (HasNoPlace line first 0 → ⊥) → ReadableBy g site line first content k m → EndsBy g site line first content k n → IsWalkedBy g site line first content (m + n)
  walked_to k m n located begins readable ends = record { located = located; begins = begins; number = k; calls = m; more = n; readable = readable; ends = ends; all = refl }

-- the slices one after another
module _ (g : Geometry) (site : Site) (up : Drives) (content : Contents) where
  pub lines_more : (failed : Drives) (lines : List SliceLine) (line : SliceLine) (n m : ℕ) → AreLinesBy g site up failed content lines n → IsLineBy g site up failed content line m → AreLinesBy g site up failed content (lines ++ line ∷ []) (n + m)
  lines_more failed [] line n m none is = (m, 0, is, refl, omega (arith, none))
  lines_more failed (l ∷ lines) line n m (j, k, here, rest, all) is = (j, k + m, here, lines_more failed lines line k m rest is, omega (arith, all))

  line_later : (before now : Drives) (line : SliceLine) (n : ℕ) → (has_drive now line.at.drive ≡ false → has_drive before line.at.drive ≡ false) → IsLineBy g site up before content line n → IsLineBy g site up now content line n
  line_later before now line n still is = by (has_drive up line.at.drive) is
    where
      by : (b : Bool) → MatchBool b ((n ≤ 765) × (has_drive before line.at.drive ≡ false → IsSliceBy g site line (content line.at.drive.0) n)) (n ≡ 0)
          → MatchBool b ((n ≤ 765) × (has_drive now line.at.drive ≡ false → IsSliceBy g site line (content line.at.drive.0) n)) (n ≡ 0)
      by true (few, exact) = (few, λ not. exact (still not))
      by false none = none

  -- where more drives have failed less is said
  pub lines_later : (before now : Drives) → ((line : SliceLine) → has_drive now line.at.drive ≡ false → has_drive before line.at.drive ≡ false) → (lines : List SliceLine) (n : ℕ) → AreLinesBy g site up before content lines n → AreLinesBy g site up now content lines n
  lines_later before now still [] n none = none
  lines_later before now still (line ∷ lines) n (m, k, here, rest, all) = (m, k, line_later before now line m (still line) here, lines_later before now still lines k rest, all)
