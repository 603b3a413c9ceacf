-- What the look at one replica says, whose head was read.
use Rattle.std.proofs.Common.{◌≡◌, ◌↔◌, inl, inr, ℕ, ◌+◌, ◌*◌, ◌<◌, ◌≤◌, Bool, true, false, List, [], ◌∷◌, ◌++◌, refl, sym, ◌∙◌, subst, Some, Result, Ok, Err, IfOk, IsTrue, arith}
use Rattle.std.proofs.lemmas.Bool.{and_from, and_parts, cases_lt}
use Rattle.std.proofs.lemmas.Bool.Decides.{nat_tests}
use Rattle.std.specs.Prelude.{◌==◌, ◌&&◌, Contains, slice_index_or}
use Rattle.mdv_replica.specs.declared.looking.Seen.{Seen}
use Rattle.mdv_shelf.specs.Shelves.{MadeCalls}
use Rattle.mdv_survey.specs.Below.{Flags, Geometry, Ghosts, Head, IsHead, IsInChain, IsTextOf, Master, PlaceAt, Site, SliceLine, Tale, last, place_on, size_on}
use Rattle.mdv_survey.specs.Newest.{HasTable, IsMarked}
use Rattle.mdv_survey.specs.Counts.{HasNoPlace, IsCounted, IsNumberBy, IsVisitBy}
use Rattle.mdv_survey.specs.Replica.{Contents, IsFoundIn, IsOnShelf, IsSeated, at_of, other_of}
use Rattle.mdv_survey.specs.Others.{AreSeen, IsAhead, IsLong, headed_flags, unread_flags}
use Rattle.mdv_survey.specs.Slice.{IsChained, IsSeenThere, ListsNext, Looks, Visits}
use Rattle.mdv_survey.specs.Slots.{BothFit}
use Rattle.mdv_survey.specs.declared.body.ReadFault.{ReadFault}
use Rattle.mdv_survey.specs.declared.replica.Finds.{Finds}
use Rattle.mdv_survey.specs.declared.replica.Replica.{Replica}
use Rattle.mdv_survey.proofs.Chains.{ahead_more, chain_of, found_end, found_more, found_other, never_key, none_beyond, none_unreadable, unchained}
use Rattle.mdv_survey.proofs.Efforts.{counted_more, counted_one, number_by}
use Rattle.mdv_survey.proofs.Listing.{listed_more, listed_other, listed_skip}
use Rattle.mdv_survey.proofs.Places.{seen_here}
use Rattle.mdv_survey.proofs.Coming.{comes_beyond, comes_unreadable}
use Rattle.mdv_survey.proofs.Seeing.{headed_is_other, later_is_other, seen_none}
use Rattle.mdv_survey.proofs.Slicing.{there_on}
use Rattle.mdv_survey.proofs.Told.{with_other}

-- the replica of another number on the same slice
abbrev pub numbered : Replica → ℕ → Replica
numbered first number = record { line = first.line; number = number; first = first.first; head = first.head }

-- the slice has the place of that number
pub placed_of : (r : Replica) → r.number < r.first.count → 16 + r.number * r.first.blocks + r.first.blocks ≤ r.line.at.blocks → HasNoPlace r.line r.first r.number → ⊥
placed_of r less within (inl beyond) = omega (arith, within, beyond)
placed_of r less within (inr (some, most)) = omega (arith, less, most)

-- the slice ends before the replica would
pub beyond_of : (r : Replica) (fits : Bool) → fits ≡ false → IsTrue fits ↔ (16 + r.number * r.first.blocks + r.first.blocks ≤ r.line.at.blocks) → r.line.at.blocks < 16 + r.number * r.first.blocks + r.first.blocks
beyond_of r fits not test = elim (cases_lt r.line.at.blocks (16 + r.number * r.first.blocks + r.first.blocks)) [ inl less ↦ less | inr most ↦ absurd (cc (test.1 most, not)) ]

-- what was read at the place of a replica
pub there_of : (sizes : List ℕ) (site : Site) → IsOnShelf sizes site → (r : Replica) (at : PlaceAt) → at ≡ at_of r → (t : Tale) (seen : Seen)
    → IsSeenThere at (slice_index_or sizes at.drive.0 0) (last t at.drive.0) seen → IsSeenThere (at_of r) (size_on site r.line) (last t r.line.at.drive.0) seen
there_of sizes site on r at same t seen there = there_on sizes site on r.line (at_of r) (last t r.line.at.drive.0) seen (seen_here at (at_of r) same sizes t seen there)

module _ (g : Geometry) (site : Site) (r : Replica) (seated : IsSeated site r) where
  found_is : (content : Contents) → IsAhead g site r.line r.first r.number (content r.line.at.drive.0) → IsHead (at_of r) (size_on site r.line) (content r.line.at.drive.0) r.head → BothFit g (at_of r) r.head (content r.line.at.drive.0)
      → r.head.master.key ≡ site.key → IsFoundIn g site content r
  found_is content ahead is both key = record {
    one_of = seated.one_of;
    located = ahead.located;
    numbered = seated.numbered;
    within = seated.within;
    before = ahead.before;
    here = chain_of g site r (content r.line.at.drive.0) is seated.length both;
    of_key = key;
  }

  -- its slots don't both fit
  pub visits_not : (content : Contents) (old : Finds) → (BothFit g (at_of r) r.head (content r.line.at.drive.0) → ⊥) → Visits g site r content old (with_other old (other_of r (headed_flags true))) false
  visits_not content old never = record {
    chained = λ is. unchained g site r (content r.line.at.drive.0) is seated.length never;
    looks = λ is ahead answers lines found.
        let other = other_of r (headed_flags true) in
        let away = unchained g site r (content r.line.at.drive.0) is seated.length never in
        found_end g site content r.line answers lines (r.number + 1) (with_other old other) (comes_unreadable g site r.line (content r.line.at.drive.0) r.first ahead.located r.number away)
        (found_other g site content r.line answers lines old other refl
        (headed_is_other g site r content seated is ahead true (λ bad. never) (λ good. absurd (cc (good))) (λ s same numbered. none_unreadable g site content r.line r.first ahead.located r.number away s same (omega (arith, numbered)))) found);
  }

  -- it is readable, and of another key
  pub visits_other : (content : Contents) (old : Finds) → BothFit g (at_of r) r.head (content r.line.at.drive.0) → (r.head.master.key ≡ site.key → ⊥) → Visits g site r content old (with_other old (other_of r (headed_flags false))) true
  visits_other content old both other = record {
    chained = λ is. chain_of g site r (content r.line.at.drive.0) is seated.length both;
    looks = λ is ahead.
        let chain = chain_of g site r (content r.line.at.drive.0) is seated.length both in (
          ahead_more g site content r.line r.first ahead.located r.number r.head chain seated.within ahead,
          λ answers lines found. found_other g site content r.line answers lines old (other_of r (headed_flags false)) refl
              (headed_is_other g site r content seated is ahead false (λ bad. absurd (cc (bad))) (λ good. both) (never_key g site content r.line r.first ahead.located r.number r.head chain other)) found,
        );
  }

  -- it was added
  pub visits_added : (content : Contents) (old new : Finds) → BothFit g (at_of r) r.head (content r.line.at.drive.0) → r.head.master.key ≡ site.key → new.replicas ≡ old.replicas ++ r ∷ [] → new.others ≡ old.others
      → (HasTable g content old.replicas old.newest → HasTable g content new.replicas new.newest) → Visits g site r content old new true
  visits_added content old new both key more others table = record {
    chained = λ is. chain_of g site r (content r.line.at.drive.0) is seated.length both;
    looks = λ is ahead.
        let chain = chain_of g site r (content r.line.at.drive.0) is seated.length both in (
          ahead_more g site content r.line r.first ahead.located r.number r.head chain seated.within ahead,
          λ answers lines found. found_more g site content r.line r.first ahead.located r.number r.head chain answers lines old new (found_is content ahead is both key) more others table found,
        );
  }

module _ (site : Site) (r : Replica) where
  pub lists_skip : (finds : Finds) → ListsNext site r.line r.number finds finds
  lists_skip finds up lines rest split is_up listed = listed_skip site up lines r.line r.number finds listed

  -- another place of its number was added
  pub lists_other : (old : Finds) (flags : Flags) → ListsNext site r.line r.number old (with_other old (other_of r flags))
  lists_other old flags up lines rest split is_up listed = listed_other site up lines r.line r.number rest split is_up old (other_of r flags) refl listed

  pub lists_added : (old new : Finds) → IsSeated site r → r.head.master.key ≡ site.key → new.replicas ≡ old.replicas ++ r ∷ [] → new.others ≡ old.others → (IsMarked old.replicas old.newest → IsMarked new.replicas new.newest) → ListsNext site r.line r.number old new
  lists_added old new seated key more others marked up lines rest split is_up listed =
      listed_more site up lines r.line r.number rest split old new r (record { seated = seated; is_up = is_up; of_key = key }) refl refl more others marked listed

equal_of : (a b : ℕ) → (a == b) ≡ true → a ≡ b
equal_of a b is = grind (arith, nat_tests)

equal_is : (a b : ℕ) → a ≡ b → (a == b) ≡ true
equal_is a b is = grind (arith, nat_tests)

-- the place of its number behind the first one, that has no head of the slice's length
module _ (g : Geometry) (site : Site) (r : Replica) (one_of : Contains site.lines r.line) (some : 0 < r.number) (numbered : r.number < r.first.count) (content : Contents) (old : Finds) where
  -- the slice ends before
  pub looks_beyond : r.line.at.blocks < 16 + r.number * r.first.blocks + r.first.blocks → Looks g site r.line r.first r.number content false old (with_other old (other_of r (unread_flags false false)))
  looks_beyond beyond ahead answers lines found =
      let other = other_of r (unread_flags false false) in
      found_end g site content r.line answers lines (r.number + 1) (with_other old other) (comes_beyond g site r.line (content r.line.at.drive.0) r.first ahead.located r.number beyond)
      (found_other g site content r.line answers lines old other refl
      (later_is_other g site r content some one_of numbered ahead (λ s same equal. none_beyond g site content r.line r.first ahead.located r.number beyond s same (omega (arith, equal))) (unread_flags false false) (inl (beyond, refl))) found)

  -- it was read
  module _ (within : 16 + r.number * r.first.blocks + r.first.blocks ≤ r.line.at.blocks) (seen : Seen) (none : (head : Head) → seen.head ≡ Some head → head.master.blocks ≡ r.first.blocks → ⊥) (located : Bool)
      (is : located ≡ (seen.flags.located && (seen.place.blocks == r.first.blocks))) where
    abbrev its_length : (blocks : ℕ) → IsLong r.number (at_of r) blocks → blocks ≡ r.first.blocks
    its_length blocks (inl zero) = absurd (omega (arith, zero, some))
    its_length blocks (inr equal) = equal

    pub looks_unread : IsSeenThere (at_of r) (size_on site r.line) (content r.line.at.drive.0) seen → Looks g site r.line r.first r.number content false old (with_other old (other_of r (unread_flags located seen.flags.form_fault)))
    looks_unread there ahead answers lines found =
        let other = other_of r (unread_flags located seen.flags.form_fault) in
        let away : (h : Head) → IsInChain (IsTextOf g) site r.line r.number (content r.line.at.drive.0) r.first h → ⊥ = λ h chain. none h (there.there.spelled h chain.readable.of_head) chain.length in
        let letters : AreSeen g (at_of r) (size_on site r.line) r.number (content r.line.at.drive.0) (unread_flags located seen.flags.form_fault) =
        seen_none g (at_of r) (size_on site r.line) r.number (content r.line.at.drive.0) seen there.look (λ head read long. none head read (its_length head.master.blocks long)) located
        (λ yes. let both = and_parts seen.flags.located (seen.place.blocks == r.first.blocks) (sym is ∙ yes) in (both.0, inr (equal_of seen.place.blocks r.first.blocks both.1)))
        (λ yes long. is ∙ and_from seen.flags.located (seen.place.blocks == r.first.blocks) yes (equal_is seen.place.blocks r.first.blocks (its_length seen.place.blocks long))) in
        found_end g site content r.line answers lines (r.number + 1) (with_other old other) (comes_unreadable g site r.line (content r.line.at.drive.0) r.first ahead.located r.number away)
        (found_other g site content r.line answers lines old other refl
        (later_is_other g site r content some one_of numbered ahead (λ s same equal. none_unreadable g site content r.line r.first ahead.located r.number away s same (omega (arith, equal)))
        (unread_flags located seen.flags.form_fault) (inr (within, letters))) found)

-- a replica is in the chain, or none of its number is, where the look at it was answered
pub chained_of : (g : Geometry) (site : Site) (r : Replica) (content : Contents) (old new : Finds) → IsHead (at_of r) (size_on site r.line) (content r.line.at.drive.0) r.head → (result : Result Bool ReadFault)
    → IfOk result (Visits g site r content old new) → IfOk result (IsChained g site r.line r.first r.number (content r.line.at.drive.0) r.head)
chained_of g site r content old new is (Ok readable) visits = visits.chained is
chained_of g site r content old new is (Err fault) none = tt

-- the read of its head, and then of its slots
pub number_counted : {S : Type 0} (shelf : Ghosts S) (g : Geometry) (site : Site) (line : SliceLine) (first : Master) (number : ℕ) (head : Head) (a b c : S) (result : Result Bool ReadFault)
    → shelf.tale b ≡ shelf.tale a → MadeCalls shelf a b 1 0 → (HasNoPlace line first number → ⊥)
    → ((t : Tale) → shelf.tale a ≡ Some t → IsHead (place_on line first.blocks first.count number) (size_on site line) (last t line.at.drive.0) head) → head.master.blocks ≡ first.blocks
    → ((t : Tale) → shelf.tale a ≡ Some t → IfOk result (IsChained g site line first number (last t line.at.drive.0) head)) → IsCounted shelf b c 2 (λ t n. IfOk result (λ readable. IsVisitBy g (place_on line first.blocks first.count number) (last t line.at.drive.0) head readable n))
    → IsCounted shelf a c 3 (λ t n. IfOk result (λ readable. IsNumberBy g site line first (last t line.at.drive.0) number readable n))
number_counted shelf g site line first number head a b c (Err fault) same made place there length chained counted =
    counted_more shelf a b c 1 2 3 (λ t n. Unit {0}) (λ t n. Unit {0}) (λ t n. Unit {0}) (omega arith) same (λ t m n is one by. tt) (counted_one shelf a b 1 (λ t n. Unit {0}) (omega arith) made (λ t is. tt)) counted
number_counted shelf g site line first number head a b c (Ok readable) same made place there length chained counted =
    counted_more shelf a b c 1 2 3 (λ t n. n ≡ 1) (λ t n. IsVisitBy g (place_on line first.blocks first.count number) (last t line.at.drive.0) head readable n) (λ t n. IsNumberBy g site line first (last t line.at.drive.0) number readable n) (omega arith) same
    (λ t m n is one by. subst (λ (k : ℕ). IsNumberBy g site line first (last t line.at.drive.0) number readable (k + n)) (sym one)
    (number_by g site line first (last t line.at.drive.0) number n head readable place (there t is) length (chained t is) by))
    (counted_one shelf a b 1 (λ t n. n ≡ 1) (omega arith) made (λ t is. refl)) counted
