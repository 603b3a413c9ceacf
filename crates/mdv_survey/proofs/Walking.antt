-- How far the look at a slice has come behind its first replica.
use Rattle.std.proofs.Common.{◌≡◌, inl, inr, ℕ, ◌+◌, ◌-◌, ◌*◌, ◌≤◌, Bool, true, false, List, ◌∷◌, ◌++◌, refl, sym, ◌∙◌, subst, Ok, Err, arith}
use Rattle.mdv_shelf.specs.Calls.{OnDrive}
use Rattle.mdv_survey.specs.Below.{DriveNo, Drives, Geometry, Ghosts, IsMasterAt, Master, Site, SliceLine, Tale, has_drive, last, place_on, size_on}
use Rattle.mdv_survey.specs.Counts.{IsBehindBy, IsCounted, IsNumberBy, IsWalkedBy, ReadOn, ReadableBy}
use Rattle.mdv_survey.specs.Others.{IsAhead}
use Rattle.mdv_survey.specs.Slice.{AreFound, AreListed, ListsNext, ListsRest, Looks, LooksBehind}
use Rattle.mdv_survey.specs.Slots.{OnlyReads}
use Rattle.mdv_survey.specs.declared.body.ReadFault.{ReadFault}
use Rattle.mdv_survey.specs.declared.replica.Finds.{Finds}
use Rattle.mdv_survey.proofs.Chains.{found_end, found_fewer}
use Rattle.mdv_survey.proofs.Coming.{comes_behind}
use Rattle.mdv_survey.proofs.Ending.{read_on_more, read_on_none}
use Rattle.mdv_survey.proofs.Efforts.{counted_more, counted_none, counted_weaker, readable_more, walked_to}
use Rattle.mdv_survey.proofs.Listing.{listed_end}

-- what was found so far, and that each replica so far is readable
abbrev pub FoundBefore : Geometry → Site → SliceLine → Master → ℕ → (ℕ → ℕ → List ℕ) → Finds → Finds → Type 0
FoundBefore g site line first number content old new =
    IsAhead g site line first 1 (content line.at.drive.0) → IsAhead g site line first number (content line.at.drive.0)
    × ((answers : DriveNo → Bool) (lines : List SliceLine) → AreFound g site answers lines line 1 content old → AreFound g site answers lines line number content new)

-- how many calls that took
abbrev pub ReadBefore : Geometry → Site → SliceLine → Master → ℕ → (ℕ → List ℕ) → ℕ → Type 0
ReadBefore g site line first number content n =
    IsMasterAt (place_on line 8192 0 0) (size_on site line) (content (line.at.start + 16)) first → (m : ℕ) → ReadableBy g site line first content 1 m → ReadableBy g site line first content number (m + n)

pub record SoFar {S : Type 0} (shelf : Ghosts S) (g : Geometry) (site : Site) (line : SliceLine) (first : Master) (number : ℕ) (start now : S) (old new : Finds) : Type 0 where
  pub reads : OnlyReads shelf (λ t. FoundBefore g site line first number (last t) old new) start now
  pub calm : shelf.faults now (OnDrive line.at.drive.0) ≡ shelf.faults start (OnDrive line.at.drive.0)
  pub kept : ReadOn shelf start now line.at.drive.0
  pub listed : (up : Drives) (lines rest : List SliceLine) → site.lines ≡ lines ++ line ∷ rest → has_drive up line.at.drive ≡ true → AreListed site up lines line 1 old → AreListed site up lines line number new
  pub counted : IsCounted shelf start now (3 * (number - 1)) (λ t n. ReadBefore g site line first number (last t line.at.drive.0) n)

module _ {S : Type 0} (shelf : Ghosts S) (g : Geometry) (site : Site) (line : SliceLine) (first : Master) where
  pub so_far_none : (start : S) (old : Finds) → SoFar shelf g site line first 1 start start old old
  so_far_none start old = record {
    reads = record { same = refl; gave = λ t is ahead. (ahead, λ answers lines found. found) };
    calm = refl;
    kept = read_on_none shelf start line.at.drive.0;
    listed = λ up lines rest split is_up listed. listed;
    counted = counted_none shelf start (3 * (1 - 1)) (λ t n. ReadBefore g site line first 1 (last t line.at.drive.0) n)
        (λ t located m readable. subst (ReadableBy g site line first (last t line.at.drive.0) 1) (omega arith) readable);
  }

  module _ (number : ℕ) (some : 1 ≤ number) (start mid : S) (old finds : Finds) (so : SoFar shelf g site line first number start mid old finds) where
    -- all that there are were looked at
    pub rest_done : first.count ≤ number → OnlyReads shelf (λ t. LooksBehind {E = ReadFault} g site line first (last t) old finds (Ok tt)) start mid
    rest_done last_one = record {
      same = so.reads.same;
      gave = λ t is ahead answers lines found. (
          let here = so.reads.gave t is ahead in
          found_end g site (last t) line answers lines number finds (comes_behind g site line (last t line.at.drive.0) first ahead.located number (omega arith) last_one) (here.1 answers lines found));
    }

    pub counted_done : first.count ≤ number → (most : ℕ) → 3 * (number - 1) ≤ most → IsCounted shelf start mid most (λ t n. IsBehindBy g site line first (last t line.at.drive.0) n)
    counted_done last_one most fits = counted_weaker shelf start mid (3 * (number - 1)) most _ _ fits
        (λ t n is before located m readable. subst (IsWalkedBy g site line first (last t line.at.drive.0)) (omega arith)
        (walked_to g site line first (last t line.at.drive.0) number (m + n) 0 located readable.2 (before located m readable) (inl (inr (omega arith, last_one), refl))))
        so.counted

    pub listed_done : ListsRest site line 1 old finds
    listed_done up lines rest split is_up listed = listed_end site up lines line number finds (so.listed up lines rest split is_up listed)

    module _ (now : S) (new : Finds) (kept : ReadOn shelf mid now line.at.drive.0) (next : ListsNext site line number finds new) where
      pub kept_then : ReadOn shelf start now line.at.drive.0
      kept_then = read_on_more shelf start mid now line.at.drive.0 so.counted.calls so.counted.made so.calm so.kept kept

      pub counted_failed : (most : ℕ) → 3 * number ≤ most → (Q : Tale → ℕ → Type 0) → shelf.tale mid ≡ shelf.tale start → IsCounted shelf mid now 3 Q → IsCounted shelf start now most (λ t n. Unit {0})
      counted_failed most fits Q same counted = counted_more shelf start mid now (3 * (number - 1)) 3 most _ Q (λ t n. Unit {0}) (omega (arith, some, fits)) same (λ t m n is before by. tt) so.counted counted

      pub counted_ended : (most : ℕ) → 3 * number ≤ most → IsCounted shelf mid now 3 (λ t n. IsNumberBy g site line first (last t line.at.drive.0) number false n) → IsCounted shelf start now most (λ t n. IsBehindBy g site line first (last t line.at.drive.0) n)
      counted_ended most fits counted = counted_more shelf start mid now (3 * (number - 1)) 3 most _ (λ t n. IsNumberBy g site line first (last t line.at.drive.0) number false n) _ (omega (arith, some, fits)) so.reads.same
          (λ t k n is before ends located m readable. subst (IsWalkedBy g site line first (last t line.at.drive.0)) (omega arith)
          (walked_to g site line first (last t line.at.drive.0) number (m + k) n located readable.2 (before located m readable) ends))
          so.counted counted

      counted_next : IsCounted shelf mid now 3 (λ t n. IsNumberBy g site line first (last t line.at.drive.0) number true n) → IsCounted shelf start now (3 * (number + 1 - 1)) (λ t n. ReadBefore g site line first (number + 1) (last t line.at.drive.0) n)
      counted_next counted = counted_more shelf start mid now (3 * (number - 1)) 3 (3 * (number + 1 - 1)) _ (λ t n. IsNumberBy g site line first (last t line.at.drive.0) number true n) _ (omega (arith, some)) so.reads.same
          (λ t k n is before by located m readable. subst (ReadableBy g site line first (last t line.at.drive.0) (number + 1)) (omega arith)
          (readable_more g site line first (last t line.at.drive.0) number (m + k) n (before located m readable) by))
          so.counted counted

      pub listed_next : (up : Drives) (lines rest : List SliceLine) → site.lines ≡ lines ++ line ∷ rest → has_drive up line.at.drive ≡ true → AreListed site up lines line 1 old → AreListed site up lines line (number + 1) new
      listed_next up lines rest split is_up listed = next up lines rest split is_up (so.listed up lines rest split is_up listed)

      pub listed_then : ListsRest site line 1 old new
      listed_then up lines rest split is_up listed = listed_end site up lines line (number + 1) new (listed_next up lines rest split is_up listed)

      -- the next one is readable
      pub so_far_more : shelf.faults now (OnDrive line.at.drive.0) ≡ shelf.faults mid (OnDrive line.at.drive.0) → OnlyReads shelf (λ t. Looks g site line first number (last t) true finds new) mid now
          → IsCounted shelf mid now 3 (λ t n. IsNumberBy g site line first (last t line.at.drive.0) number true n) → SoFar shelf g site line first (number + 1) start now old new
      so_far_more calm reads counted = record {
        reads = record {
          same = reads.same ∙ so.reads.same;
          gave = λ t is ahead. (
              let here = so.reads.gave t is ahead in
              let more = reads.gave t (so.reads.same ∙ is) here.0 in
              (more.0, λ answers lines found. more.1 answers lines (here.1 answers lines found)));
        };
        calm = calm ∙ so.calm;
        kept = kept_then;
        listed = listed_next;
        counted = counted_next counted;
      }

      -- it isn't
      pub rest_ended : OnlyReads shelf (λ t. Looks g site line first number (last t) false finds new) mid now → OnlyReads shelf (λ t. LooksBehind {E = ReadFault} g site line first (last t) old new (Ok tt)) start now
      rest_ended reads = record {
        same = reads.same ∙ so.reads.same;
        gave = λ t is ahead answers lines found. (
            let here = so.reads.gave t is ahead in
            reads.gave t (so.reads.same ∙ is) here.0 answers lines (here.1 answers lines found));
      }

      -- it couldn't be read
      pub rest_failed : (fault : ReadFault) → shelf.tale now ≡ shelf.tale mid → new ≡ finds → OnlyReads shelf (λ t. LooksBehind g site line first (last t) old new (Err fault)) start now
      rest_failed fault same none = record {
        same = same ∙ so.reads.same;
        gave = λ t is ahead answers lines found. (
            let here = so.reads.gave t is ahead in
            subst (λ (x : Finds). AreFound g site answers lines line 0 (last t) x) (sym none) (found_fewer g site (last t) line answers lines number finds (here.1 answers lines found)));
      }
