-- Reads on one of several drives, whatever came of those before.
use Rattle.std.proofs.Common.{◌≡◌, ◌≢◌, ℕ, ◌+◌, List, [], ◌∷◌, length, Some, Contains, refl, sym, ◌∙◌, ap, subst, arith}
use Rattle.std.specs.Option.{option_map}
use Rattle.mdv_base.specs.declared.drive.DriveNo.{DriveNo}
use Rattle.mdv_shelf.specs.Calls.{Part, OnDrive}
use Rattle.mdv_shelf.specs.Drives.{IsAmong, KeptAmong}
use Rattle.mdv_shelf.specs.Shelves.{KeptOn}
use Rattle.mdv_shelf.specs.Story.{AreMadeAt, InTime, Mark, Story, marked, tale_of}
use Rattle.mdv_shelf.specs.Tale.{Begun, Tale, Then}
use Rattle.mdv_shelf.specs.declared.shelf.Shelf.{Ghosts}
use Rattle.mdv_shelf.proofs.InTime.{in_time_more}
use Rattle.mdv_shelf.proofs.Noted.{goes_on_more, keeps_more}

how_many : Tale → ℕ
how_many (Begun start) = 0
how_many (Then t c) = how_many t + 1

marks_count : (s : Story) (ms : List Mark) → how_many (tale_of (marked s ms)) ≡ length ms + how_many (tale_of s)
unfolding how_many
marks_count s [] = let none : length {A = Mark} [] ≡ 0 = refl in omega (arith, none)
marks_count s (m ∷ ms) = let more = marks_count s ms in omega (arith, more)

no_marks : (s : Story) (ms : List Mark) → tale_of (marked s ms) ≡ tale_of s → ms ≡ []
no_marks s [] same = refl
no_marks s (m ∷ ms) same = let count = marks_count s (m ∷ ms) in let equal = ap how_many same in absurd (omega (arith, count, equal))

module _ {S : Type 0} (shelf : Ghosts S) (telling : (s : S) → shelf.tale s ≡ option_map tale_of (shelf.story s)) where
  -- reads leave the story as it is
  no_calls : (b c : S) (part : Part) → KeptOn shelf b c part → shelf.tale c ≡ shelf.tale b → (other : Part) (count : ℕ) → InTime other count (shelf.story b) (shelf.story c)
  no_calls b c part kept same other count s is =
      let got = kept.in_time s is in
      let before : shelf.tale b ≡ Some (tale_of s) = telling b ∙ ap (option_map tale_of) is in
      let after : shelf.tale c ≡ Some (tale_of (marked s got.0)) = telling c ∙ ap (option_map tale_of) got.1 in
      let both : Some (tale_of (marked s got.0)) ≡ Some (tale_of s) = sym after ∙ same ∙ before in
      let none : got.0 ≡ [] = no_marks s got.0 (cc (both)) in
      (got.0, got.1, subst (AreMadeAt other count) (sym none) tt)

  outside : (drives : List DriveNo) (drive : DriveNo) → Contains drives drive → (other : Part) → (IsAmong drives other → ⊥) → other ≢ OnDrive drive.0
  outside drives drive one_of other out same = out (drive, one_of, same)

  pub among_reads : (a b c : S) (drives : List DriveNo) (drive : DriveNo) → Contains drives drive → shelf.tale c ≡ shelf.tale b → KeptOn shelf b c (OnDrive drive.0) → KeptAmong shelf a b drives → KeptAmong shelf a c drives
  among_reads a b c drives drive one_of same kept among = record {
    keeps = keeps_more shelf a b c among.keeps kept.keeps;
    goes = goes_on_more shelf a b c among.goes kept.goes;
    in_time = λ part. in_time_more part (shelf.faults a part) (shelf.story a) (shelf.story b) (shelf.story c) (among.in_time part) (no_calls b c (OnDrive drive.0) kept same part (shelf.faults a part));
    others = λ other out. kept.others other (outside drives drive one_of other out) ∙ among.others other out;
    elsewhere = λ other out count. in_time_more other count (shelf.story a) (shelf.story b) (shelf.story c) (among.elsewhere other out count) (no_calls b c (OnDrive drive.0) kept same other count);
  }
