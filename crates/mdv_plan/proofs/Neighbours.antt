-- Slices of two drives share no block, and those of one drive are known by their numbers.
use Rattle.std.proofs.Common.{◌≡◌, ◌<◌, ◌≤◌, ◌+◌, ◌==◌, ◌&&◌, ℕ, Bool, true, false, refl, sym, ◌∙◌, ap, subst, List, None, Some, arith}
use Rattle.std.proofs.lemmas.Bool.{and_parts, false_from_ne_true, false≢true, not-true, true_from_ne_false}
use Rattle.std.proofs.lemmas.Bool.Decides.{nat_tests}
use Rattle.std.proofs.lemmas.List.Folds.{Any-from_list_any, list_any-from_Any}
use Rattle.std.specs.Prelude.{not, nat_lt, slice_index_or}
use Rattle.mdv_name.proofs.Finding.{slice_at-some}
use Rattle.mdv_plan.specs.Below.{DriveName, SliceName, Geometry, SliceAt, SliceLine}
use Rattle.mdv_plan.specs.Slices.{AreNeighbours, HasSlice, IsDb, IsSound, beside, can_share, clashes_with, is_other_db, meets_db, overlap, overlap_at, same_drive, share_a_block, slice_at}
use Rattle.mdv_plan.specs.Uses.{same_slice}
use Rattle.mdv_plan.specs.declared.clash.Asked.{Asked}
use Rattle.mdv_plan.specs.declared.uses.SliceUse.{SliceUse}

same_drive-refl : (d : DriveName) → same_drive d d ≡ true
same_drive-refl d = grind (arith, nat_tests)

same_drive-equal : (a b : DriveName) → same_drive a b ≡ true → a ≡ b
same_drive-equal a b same =
    let one : a.controller ≡ b.controller = grind (arith, nat_tests) in
    let two : a.target ≡ b.target = grind (arith, nat_tests) in
    let three : a.disk ≡ b.disk = grind (arith, nat_tests) in
    λ i. record { controller = one i; target = two i; disk = three i }

beside_other : (name other : SliceName) → same_drive other.drive name.drive ≡ true → beside name other.slice ≡ other
beside_other name other drives =
    let named = same_drive-equal other.drive name.drive drives in
    λ i. record { drive = sym named i; slice = other.slice }

-- they lie on drives of two numbers
lie_apart : (g : Geometry) (m n : SliceName) (a b : SliceAt) → IsSound g → same_drive m.drive n.drive ≡ false → slice_at g.slices m ≡ Some a → slice_at g.slices n ≡ Some b → share_a_block a b ≡ false
lie_apart g m n a b sound other at_m at_n =
    elim (a.drive.0 == b.drive.0) as (λ t. (a.drive.0 == b.drive.0) ≡ t → (t && (nat_lt a.start (b.start + b.blocks) && nat_lt b.start (a.start + a.blocks))) ≡ false) [
      | true ↦ λ is.
          let numbers : a.drive.0 ≡ b.drive.0 = grind (arith, nat_tests) in
          let named = sound.drives m n a b ((slice_at-some g m a sound).0 at_m) ((slice_at-some g n b sound).0 at_n) (λ i. record { 0 = numbers i }) in
          let same : same_drive m.drive n.drive ≡ true = subst (λ (d : DriveName). same_drive m.drive d ≡ true) named (same_drive-refl m.drive) in
          cc (same, other)
      | false ↦ λ _. refl
    ] refl

pub apart : (g : Geometry) (m n : SliceName) → IsSound g → same_drive m.drive n.drive ≡ false → overlap g m n ≡ false
apart g m n sound other =
    elim (slice_at g.slices m) as (λ o. slice_at g.slices m ≡ o → overlap_at o (slice_at g.slices n) ≡ false) [
      | None ↦ λ _. refl
      | Some a ↦ λ at_m. elim (slice_at g.slices n) as (λ o. slice_at g.slices n ≡ o → overlap_at (Some a) o ≡ false) [
        | None ↦ λ _. refl
        | Some b ↦ λ at_n. lie_apart g m n a b sound other at_m at_n
      ] refl
    ] refl

-- a use of a slice of another drive
pub clash_apart : (g : Geometry) (asked : Asked) (name : SliceName) (u : SliceUse) → IsSound g → same_drive u.slice.drive name.drive ≡ false → false ≡ clashes_with g asked name u
clash_apart g asked name u sound other =
    let none : overlap g u.slice name ≡ false = apart g u.slice name sound other in
    let differs : same_slice u.slice name ≡ false = grind (arith, nat_tests, other) in
    cc (none, differs)

-- a use of the same slice
pub clash_here : (g : Geometry) (asked : Asked) (name : SliceName) (u : SliceUse) → same_drive u.slice.drive name.drive ≡ true → u.slice.slice ≡ name.slice → not (can_share asked u.by u.start) ≡ clashes_with g asked name u
clash_here g asked name u drives numbers =
    let same : same_slice u.slice name ≡ true = grind (arith, nat_tests, drives) in
    cc (same)

-- a use of another slice of the same drive
pub clash_there : (g : Geometry) (asked : Asked) (name : SliceName) (u : SliceUse) → same_drive u.slice.drive name.drive ≡ true → (u.slice.slice ≡ name.slice → ⊥) → overlap g u.slice name ≡ clashes_with g asked name u
clash_there g asked name u drives numbers =
    let differs : same_slice u.slice name ≡ false = grind (arith, nat_tests) in
    cc (differs)

-- what is marked of a slice of the same drive
pub marked_beside : (g : Geometry) (name other : SliceName) (marks : List Bool) → AreNeighbours g name marks → same_drive other.drive name.drive ≡ true → other.slice < 8 → slice_index_or marks other.slice false ≡ overlap g other name
marked_beside g name other marks are drives within =
    let is = beside_other name other drives in
    are.marked other.slice within ∙ ap (λ (s : SliceName). overlap g s name) is

-- drives have no slices numbered 8 or more
pub past_none : (g : Geometry) (m n : SliceName) → IsSound g → 8 ≤ m.slice → overlap g m n ≡ false
past_none g m n sound past =
    elim (slice_at g.slices m) as (λ o. slice_at g.slices m ≡ o → overlap_at o (slice_at g.slices n) ≡ false) [
      | None ↦ λ _. refl
      | Some a ↦ λ at_m.
          let within = (sound.each m a ((slice_at-some g m a sound).0 at_m)).named.slice in
          absurd (omega (arith, within, past))
    ] refl

-- another slice of its drive that overlaps the slice is set aside for replicas
pub record IsDbBeside (g : Geometry) (marks : List Bool) (name : SliceName) (number : ℕ) : Type 0 where
  pub marked : slice_index_or marks number false ≡ true
  pub other : number ≡ name.slice → ⊥
  pub db : IsDb g (beside name number)

module _ (g : Geometry) (sound : IsSound g) (name : SliceName) (marks : List Bool) (are : AreNeighbours g name marks) where
  pub meets_by : (number : ℕ) → number < 8 → IsDbBeside g marks name number → meets_db g name ≡ true
  meets_by number within it =
      let line : SliceLine = record { name = beside name number; at = it.db.at } in
      let differs : same_slice line.name name ≡ false = grind (arith, nat_tests, it.other) in
      let over : overlap g line.name name ≡ true = sym (are.marked number within) ∙ it.marked in
      let is : is_other_db g name line ≡ true = ap (λ b. (b && not (same_slice line.name name)) && overlap g line.name name) it.db.db ∙ ap (λ b. not b && overlap g line.name name) differs ∙ over in
      list_any-from_Any (is_other_db g name) g.slices (it.db.has.0, line, it.db.has.1, it.db.has.2, is)

  pub meets_none : ((number : ℕ) → number < 8 → IsDbBeside g marks name number → ⊥) → meets_db g name ≡ false
  meets_none none = false_from_ne_true (meets_db g name) (λ meets.
      let any = Any-from_list_any (is_other_db g name) g.slices meets in
      let line = any.1 in
      let there : HasSlice g.slices line.name line.at = (any.0, any.2, any.3) in
      let parts = and_parts (line.at.db && not (same_slice line.name name)) (overlap g line.name name) any.4 in
      let both = and_parts line.at.db (not (same_slice line.name name)) parts.0 in
      let drives : same_drive line.name.drive name.drive ≡ true = true_from_ne_false (same_drive line.name.drive name.drive) (λ other. false≢true (sym (apart g line.name name sound other) ∙ parts.1)) in
      let is = beside_other name line.name drives in
      let within = (sound.each line.name line.at there).named.slice in
      none line.name.slice within (record {
        marked = marked_beside g name line.name marks are drives within ∙ parts.1;
        other = λ same. differ line.name drives (not-true (same_slice line.name name) both.1) same;
        db = record { at = line.at; has = subst (λ (s : SliceName). HasSlice g.slices s line.at) (sym is) there; db = both.0 };
      }))
    where
      differ : (other : SliceName) → same_drive other.drive name.drive ≡ true → same_slice other name ≡ false → other.slice ≡ name.slice → ⊥
      differ other drives not_same same =
          let alike : same_slice other name ≡ true = grind (arith, nat_tests, drives) in
          false≢true (sym not_same ∙ alike)
