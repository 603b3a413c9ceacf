-- The look at a slice, from its first replica on.
use Rattle.std.proofs.Common.{◌≡◌, inl, inr, ℕ, ◌+◌, ◌≤◌, Bool, true, false, List, refl, sym, subst, Option, Some, None, Result, Ok, Err, arith}
use Rattle.std.specs.Prelude.{Contains, IfSome, slice_index_or}
use Rattle.mdv_replica.specs.declared.looking.Seen.{Seen}
use Rattle.mdv_shelf.specs.Shelves.{MadeCalls}
use Rattle.mdv_survey.specs.Below.{Flags, Geometry, Ghosts, Head, IsHead, PlaceAt, Site, SliceLine, Tale, last, size_on}
use Rattle.mdv_survey.specs.Counts.{HasNoPlace, IsBehindBy, IsCounted, IsNumberBy, IsSliceBy, IsUnfitBy, IsVisitBy, open_slots}
use Rattle.mdv_survey.specs.Replica.{Contents, IsOnShelf, at_of}
use Rattle.mdv_survey.specs.Others.{IsAhead, first_at, first_of, most_on}
use Rattle.mdv_survey.specs.Slice.{IsHeadThere, IsSeenThere, ListsNext, ListsRest, LooksAtAll, LooksBehind, Visits}
use Rattle.mdv_survey.specs.declared.body.ReadFault.{ReadFault}
use Rattle.mdv_survey.specs.declared.replica.Finds.{Finds}
use Rattle.mdv_survey.specs.declared.replica.Replica.{Replica}
use Rattle.mdv_survey.proofs.Chains.{found_end, found_other, head_at_zero, located_first}
use Rattle.mdv_survey.proofs.Coming.{comes_headless}
use Rattle.mdv_survey.proofs.Efforts.{counted_more, counted_one, number_by}
use Rattle.mdv_survey.proofs.Listing.{listed_end, listed_other}
use Rattle.mdv_survey.proofs.Places.{seen_here}
use Rattle.mdv_survey.proofs.Seeing.{first_is_other}
use Rattle.mdv_survey.proofs.Seating.{size_is}
use Rattle.mdv_survey.proofs.Told.{with_other}

-- what was read at a place, by the site's sizes
pub there_on : (sizes : List ℕ) (site : Site) → IsOnShelf sizes site → (line : SliceLine) (at : PlaceAt) (c : ℕ → List ℕ) (seen : Seen) → IsSeenThere at (slice_index_or sizes line.at.drive.0 0) c seen → IsSeenThere at (size_on site line) c seen
there_on sizes site on line at c seen there = subst (λ (n : ℕ). IsSeenThere at n c seen) (sym (size_is sizes site on line)) there

-- a head that was
pub head_of : (at : PlaceAt) (size : ℕ) (c : ℕ → List ℕ) (seen : Seen) (head : Head) → seen.head ≡ Some head → IsSeenThere at size c seen → IsHead at size c head
head_of at size c seen head is there = (let value = there.there.value in subst (λ (o : Option Head). IfSome o (IsHead at size c)) is value)

-- at a slice's first place
pub first_there : (sizes : List ℕ) (site : Site) → IsOnShelf sizes site → (line : SliceLine) (at : PlaceAt) → at ≡ first_at line (most_on line) → (t : Tale) (seen : Seen)
    → IsSeenThere at (slice_index_or sizes at.drive.0 0) (last t at.drive.0) seen → IsSeenThere (first_at line (most_on line)) (size_on site line) (last t line.at.drive.0) seen
first_there sizes site on line at same t seen there = there_on sizes site on line (first_at line (most_on line)) (last t line.at.drive.0) seen (seen_here at (first_at line (most_on line)) same sizes t seen there)

module _ (g : Geometry) (site : Site) (line : SliceLine) where
  headless_there : (c : ℕ → List ℕ) (seen : Seen) → seen.head ≡ None → IsSeenThere (first_at line (most_on line)) (size_on site line) c seen → IsHeadThere (first_at line (most_on line)) (size_on site line) c None
  headless_there c seen none is = subst (IsHeadThere (first_at line (most_on line)) (size_on site line) c) none is.there

  -- no head is at the first place
  pub slice_headless : Contains site.lines line → 17 ≤ line.at.blocks → (content : Contents) (old : Finds) (seen : Seen) → seen.head ≡ None → IsSeenThere (first_at line (most_on line)) (size_on site line) (content line.at.drive.0) seen
      → LooksAtAll {E = ReadFault} g site line content old (with_other old (first_of line seen.flags)) (Ok tt)
  slice_headless one_of long content old seen none is answers lines found =
      let other = first_of line seen.flags in
      found_end g site content line answers lines (0 + 1) (with_other old other) (comes_headless g site line (content line.at.drive.0) (headless_there (content line.at.drive.0) seen none is))
      (found_other g site content line answers lines old other refl (first_is_other g site line content one_of long seen is none) found)

  pub lists_first : (old : Finds) (flags : Flags) → ListsNext site line 0 old (with_other old (first_of line flags))
  lists_first old flags up lines rest split is_up listed = listed_other site up lines line 0 rest split is_up old (first_of line flags) refl listed

  pub headless_by : (c : ℕ → List ℕ) (seen : Seen) → seen.head ≡ None → IsSeenThere (first_at line (most_on line)) (size_on site line) c seen → IsSliceBy g site line c 1
  headless_by c seen none is = inl (λ h there. (let never = (headless_there c seen none is).spelled h there in absurd (cc (never))), refl)

  pub rest_none : (finds : Finds) → ListsRest site line 0 finds finds
  rest_none finds up lines rest split is_up listed = listed_end site up lines line 0 finds listed

  pub rest_more : (a b c : Finds) → ListsNext site line 0 a b → ListsRest site line 1 b c → ListsRest site line 0 a c
  rest_more a b c one more up lines rest split is_up listed = more up lines rest split is_up (one up lines rest split is_up listed)

  pub rest_one : (a b : Finds) → ListsNext site line 0 a b → ListsRest site line 0 a b
  rest_one a b one up lines rest split is_up listed = listed_end site up lines line 1 b (one up lines rest split is_up listed)

  -- one is
  module _ (head : Head) where
    abbrev pub first_replica : Replica
    first_replica = record { line = line; number = 0; first = head.master; head = head }

    pub first_head : (c : ℕ → List ℕ) → IsHead (first_at line (most_on line)) (size_on site line) c head → IsHead (at_of first_replica) (size_on site line) c head
    first_head c is = head_at_zero line (size_on site line) c head head.master.blocks head.master.count (most_on line) is (omega arith)

    -- the slice has its place
    begins_first : (c : ℕ → List ℕ) → IsHead (first_at line (most_on line)) (size_on site line) c head → HasNoPlace line head.master 0 → ⊥
    begins_first c is (inl short) =
        let fits = is.lies.in_place in
        let least = is.lies.least in
        omega (arith, short, fits, least)
    begins_first c is (inr (some, past)) = omega (arith, some)

    first_ahead : (c : ℕ → List ℕ) → IsHead (first_at line (most_on line)) (size_on site line) c head → IsAhead g site line head.master 0 c
    first_ahead c is = record { located = located_first line (size_on site line) c head (most_on line) is; before = λ j less. absurd (omega (arith, less)); within = (let least = is.lies.least in let most = is.lies.in_place in omega (arith, least, most)) }

    module _ (content : Contents) (is : IsHead (first_at line (most_on line)) (size_on site line) (content line.at.drive.0) head) where
      -- it isn't readable
      pub slice_unreadable : (old new : Finds) → Visits g site first_replica content old new false → LooksAtAll {E = ReadFault} g site line content old new (Ok tt)
      slice_unreadable old new visits answers lines found = visits.looks (first_head (content line.at.drive.0) is) (first_ahead (content line.at.drive.0) is) answers lines found

      -- it is, and those behind it were looked at
      pub slice_all : (old mid new : Finds) (result : Result (Unit {0}) ReadFault) → Visits g site first_replica content old mid true → LooksBehind g site line head.master content mid new result → LooksAtAll g site line content old new result
      slice_all old mid new (Ok done) visits behind = λ answers lines found.
          let looked = visits.looks (first_head (content line.at.drive.0) is) (first_ahead (content line.at.drive.0) is) in
          behind looked.0 answers lines (looked.1 answers lines found)
      slice_all old mid new (Err fault) visits behind = λ answers lines found.
          let looked = visits.looks (first_head (content line.at.drive.0) is) (first_ahead (content line.at.drive.0) is) in
          behind looked.0 answers lines (looked.1 answers lines found)

      first_by : (old new : Finds) (readable : Bool) (n : ℕ) → Visits g site first_replica content old new readable → IsVisitBy g (at_of first_replica) (content line.at.drive.0) head readable n → IsNumberBy g site line head.master (content line.at.drive.0) 0 readable (1 + n)
      first_by old new readable n visits by =
          number_by g site line head.master (content line.at.drive.0) 0 n head readable (begins_first (content line.at.drive.0) is) (first_head (content line.at.drive.0) is) refl (visits.chained (first_head (content line.at.drive.0) is)) by

      pub unreadable_by : (old new : Finds) (n : ℕ) → Visits g site first_replica content old new false → IsUnfitBy g (at_of first_replica) head (content line.at.drive.0) n → IsSliceBy g site line (content line.at.drive.0) (1 + n)
      unreadable_by old new n visits by = inr (
        head.master,
        record {
          located = (first_ahead (content line.at.drive.0) is).located;
          number = 0;
          calls = 0;
          more = 1 + n;
          begins = begins_first (content line.at.drive.0) is;
          readable = refl;
          ends = first_by old new false n visits by;
          all = omega arith;
        },
      )

      pub all_by : (old new : Finds) (n m : ℕ) → Visits g site first_replica content old new true → n ≡ open_slots head → IsBehindBy g site line head.master (content line.at.drive.0) m → IsSliceBy g site line (content line.at.drive.0) (1 + n + m)
      all_by old new n m visits by behind =
          let one = first_by old new true n visits by in
          let slots = one.3 in
          inr (head.master, behind (first_ahead (content line.at.drive.0) is).located (1 + n) (one.0, 0, one.1, one.2, refl, omega (arith, slots)))

-- so many calls behind the head's read: for the slots of the first replica, and for those behind it
abbrev AllBy : Geometry → Site → SliceLine → Head → Tale → ℕ → Type 0
AllBy g site line head t k = (n : ℕ) × (m : ℕ) × (k ≡ n + m) × (n ≡ open_slots head) × IsBehindBy g site line head.master (last t line.at.drive.0) m

-- how many calls the look at a slice takes, whose first place has a head
module _ {S : Type 0} (shelf : Ghosts S) (a b c : S) (same : shelf.tale b ≡ shelf.tale a) (made : MadeCalls shelf a b 1 0) where
  -- it couldn't be ended
  pub failed_counted : (k most : ℕ) → 1 + k ≤ most → IsCounted shelf b c k (λ t n. Unit {0}) → IsCounted shelf a c most (λ t n. (1 ≤ n) × Unit {0})
  failed_counted k most fits counted =
      counted_more shelf a b c 1 k most (λ t n. 1 ≤ n) (λ t n. Unit {0}) (λ t n. (1 ≤ n) × Unit {0}) fits same (λ t m n is one by. (omega (arith, one), tt)) (counted_one shelf a b 1 (λ t n. 1 ≤ n) (omega arith) made (λ t is. omega arith)) counted

  module _ (g : Geometry) (site : Site) (line : SliceLine) (head : Head) (there : (t : Tale) → shelf.tale a ≡ Some t → IsHead (first_at line (most_on line)) (size_on site line) (last t line.at.drive.0) head) (old mid : Finds) where
    -- the first replica isn't readable
    pub unreadable_counted : ((t : Tale) → shelf.tale a ≡ Some t → Visits g site (first_replica g site line head) (last t) old mid false) → IsCounted shelf b c 2 (λ t n. IsUnfitBy g (at_of (first_replica g site line head)) head (last t line.at.drive.0) n)
        → IsCounted shelf a c 765 (λ t n. (1 ≤ n) × IsSliceBy g site line (last t line.at.drive.0) n)
    unreadable_counted visits counted =
        counted_more shelf a b c 1 2 765 (λ t n. n ≡ 1) (λ t n. IsUnfitBy g (at_of (first_replica g site line head)) head (last t line.at.drive.0) n) (λ t n. (1 ≤ n) × IsSliceBy g site line (last t line.at.drive.0) n) (omega arith) same
        (λ t m n is one by. (omega (arith, one), subst (λ (k : ℕ). IsSliceBy g site line (last t line.at.drive.0) (k + n)) (sym one) (unreadable_by g site line head (last t) (there t is) old mid n (visits t is) by)))
        (counted_one shelf a b 1 (λ t n. n ≡ 1) (omega arith) made (λ t is. refl)) counted

    -- it is, and those behind it were looked at
    pub all_counted : (d : S) → shelf.tale c ≡ shelf.tale b → ((t : Tale) → shelf.tale a ≡ Some t → Visits g site (first_replica g site line head) (last t) old mid true) → IsCounted shelf b c 2 (λ t n. n ≡ open_slots head)
        → IsCounted shelf c d 762 (λ t n. IsBehindBy g site line head.master (last t line.at.drive.0) n) → IsCounted shelf a d 765 (λ t n. (1 ≤ n) × IsSliceBy g site line (last t line.at.drive.0) n)
    all_counted d still visits first behind =
        counted_more shelf a b d 1 764 765 (λ t n. n ≡ 1) (AllBy g site line head) (λ t n. (1 ≤ n) × IsSliceBy g site line (last t line.at.drive.0) n) (omega arith) same
        (λ t m n is one both. (
          omega (arith, one),
          (
              let all = both.2 in
              let equal : 1 + both.0 + both.1 ≡ m + n = omega (arith, one, all) in
              subst (IsSliceBy g site line (last t line.at.drive.0)) equal (all_by g site line head (last t) (there t is) old mid both.0 both.1 (visits t is) both.3 both.4)),
        ))
        (counted_one shelf a b 1 (λ t n. n ≡ 1) (omega arith) made (λ t is. refl))
        (counted_more shelf b c d 2 762 764 (λ t n. n ≡ open_slots head) (λ t n. IsBehindBy g site line head.master (last t line.at.drive.0) n) (AllBy g site line head) (omega arith) still (λ t m n is one other. (m, n, refl, one, other)) first behind)
