-- What hinders a use that is the first of its slice.
use Rattle.std.proofs.Common.{◌≡◌, ◌<◌, ◌==◌, ◌&&◌, ◌||◌, ℕ, zero, suc, Bool, true, false, not, cond, Option, None, Some, List, [], ◌∷◌, length, get_or, refl, sym, ◌∙◌, ap, subst, inl, inr, ◌⊎◌, arith}
use Rattle.std.proofs.lemmas.Bool.Decides.{nat_tests}
use Rattle.std.proofs.lemmas.List.Folds.{Any-from_list_any, list_any_at}
use Rattle.mdv_fitting.specs.Held.{held}
use Rattle.mdv_fitting.specs.declared.held.Held.{Held}
use Rattle.std.specs.List.{All, find}
use Rattle.std.specs.Option.{option_map}
use Rattle.std.specs.Prelude.{is_some}
use Rattle.mdv_name.proofs.Finding.{same_slice-equal, same_slice-refl, slice_at-some}
use Rattle.mdv_name.proofs.Places.{slice_code_injective}
use Rattle.mdv_name.specs.Drive.{IsSliceName}
use Rattle.mdv_name.specs.SliceIndex.{HasSlice}
use Rattle.mdv_name.specs.declared.slice_lines.SliceLine.{SliceLine}
use Rattle.mdv_plan.specs.Slices.{is_other_db, overlap_at, share_a_block}
use Rattle.mdv_fitting.specs.Below.{Geometry, IsSound, SliceAt, SliceName, SliceUse, User, beside, meets_db, overlap, same_slice, slice_at, slice_code}
use Rattle.mdv_fitting.specs.Beside.{IsNamed}
use Rattle.mdv_fitting.specs.Firsts.{AreFirsts, IsHindered, first_user, is_db_at, is_taken, use_key, user_of}

pub false_unless : (b : Bool) → (b ≡ true → ⊥) → b ≡ false
false_unless true never = absurd (never refl)
false_unless false never = refl

pub all_three : (a b c : Bool) → a ≡ true → b ≡ true → c ≡ true → (a && (b && c)) ≡ true
all_three a b c one two three = cc

-- a use of the list is the first of its slice, or another is
pub some_first : (xs : List SliceUse) (k i : ℕ) (d : SliceUse) → i < length xs → use_key (get_or xs i d) ≡ k → is_some (first_user xs k) ≡ true
some_first [] k i d within here = absurd (omega arith)
some_first (x ∷ xs) k zero d within here =
    let same : (use_key x == k) ≡ true = grind (arith, nat_tests) in
    ap (λ (b : Bool). is_some (option_map user_of (cond b (Some x) (find (λ u. use_key u == k) xs)))) same
some_first (x ∷ xs) k (suc i) d within here =
    elim (use_key x == k) as (λ b. is_some (option_map user_of (cond b (Some x) (find (λ u. use_key u == k) xs))) ≡ true) [ true ↦ refl | false ↦ some_first xs k i d (omega arith) here ]

-- where the first use of a slice stands
pub record First (xs : List SliceUse) (k : ℕ) (user : User) : Type 0 where
  pub place : ℕ
  pub within : place < length xs
  pub key : (d : SliceUse) → use_key (get_or xs place d) ≡ k
  pub by : (d : SliceUse) → (get_or xs place d).by ≡ user

pub first_stands : (xs : List SliceUse) (k : ℕ) (by : User) → first_user xs k ≡ Some by → First xs k by
first_stands [] k by is = cc
first_stands (x ∷ xs) k by is =
    elim (use_key x == k) as (λ b. (use_key x == k) ≡ b → option_map user_of (cond b (Some x) (find (λ u. use_key u == k) xs)) ≡ Some by → First (x ∷ xs) k by) [
      | true ↦ λ here some.
          let same : use_key x ≡ k = grind (arith, nat_tests) in
          let used : x.by ≡ by = cc (some) in
          record { place = 0; within = omega arith; key = λ d. same; by = λ d. used }
      | false ↦ λ _ some.
          let rest = first_stands xs k by some in
          record { place = suc rest.place; within = omega (arith, rest.within); key = λ d. rest.key d; by = λ d. rest.by d }
    ] refl is

one_key : (s t : SliceName) → IsSliceName s → IsSliceName t → slice_code s ≡ slice_code t → s ≡ t
one_key s t first second same = slice_code_injective s t first.drive second.drive (omega (arith, first.slice)) (omega (arith, second.slice)) same

-- two uses of slices of one number are of one slice
pub one_slice : (u v : SliceUse) → IsNamed u → IsNamed v → use_key u ≡ use_key v → u.slice ≡ v.slice
one_slice u v first second same = one_key u.slice v.slice first second same

share_either : (a b : SliceAt) → share_a_block a b ≡ share_a_block b a
share_either a b = grind (arith, nat_tests)

overlap_either : (o p : Option SliceAt) → overlap_at o p ≡ overlap_at p o
overlap_either None None = refl
overlap_either None (Some b) = refl
overlap_either (Some a) None = refl
overlap_either (Some a) (Some b) = share_either a b

-- each overlaps the other
pub overlap-comm : (g : Geometry) (m n : SliceName) → overlap g m n ≡ overlap g n m
overlap-comm g m n = overlap_either (slice_at g.slices m) (slice_at g.slices n)

-- slices that overlap lie on one drive
one_drive : (g : Geometry) (m n : SliceName) → IsSound g → overlap g m n ≡ true → m.drive ≡ n.drive
one_drive g m n sound over =
    elim (slice_at g.slices m) as (λ o. slice_at g.slices m ≡ o → overlap_at o (slice_at g.slices n) ≡ true → m.drive ≡ n.drive) [
      | None ↦ λ _ never. cc (never)
      | Some a ↦ λ at_m. elim (slice_at g.slices n) as (λ o. slice_at g.slices n ≡ o → overlap_at (Some a) o ≡ true → m.drive ≡ n.drive) [
        | None ↦ λ _ never. cc (never)
        | Some b ↦ λ at_n shared.
            let numbers : a.drive.0 ≡ b.drive.0 = grind (arith, nat_tests) in
            sound.drives m n a b ((slice_at-some g m a sound).0 at_m) ((slice_at-some g n b sound).0 at_n) (λ i. record { 0 = numbers i })
      ] refl
    ] refl over

beside_is : (s t : SliceName) → t.drive ≡ s.drive → beside s t.slice ≡ t
beside_is s t drives = λ i. record { drive = sym drives i; slice = t.slice }

same_is : (s t : SliceName) → t.drive ≡ s.drive → t.slice ≡ s.slice → t ≡ s
same_is s t drives numbers = λ i. record { drive = drives i; slice = numbers i }

other_number : (s t : SliceName) → t.drive ≡ s.drive → same_slice t s ≡ false → not (t.slice == s.slice) ≡ true
other_number s t drives differs =
    elim (t.slice == s.slice) as (λ b. (t.slice == s.slice) ≡ b → not b ≡ true) [
      | true ↦ λ here.
          let numbers : t.slice ≡ s.slice = grind (arith, nat_tests) in
          let one = same_is s t drives numbers in
          let same : same_slice t s ≡ true = subst (λ (n : SliceName). same_slice n s ≡ true) (sym one) (same_slice-refl s) in
          cc (same, differs)
      | false ↦ λ _. refl
    ] refl

-- a slice that overlaps another one and is taken hinders it
pub hinders_it : (g : Geometry) (m : Held User) (s t : SliceName) → IsSound g → IsSliceName t → overlap g t s ≡ true → same_slice t s ≡ false → is_taken g m t ≡ true → IsHindered g m s
hinders_it g m s t sound named over differs taken =
    let drives = one_drive g t s sound over in
    let other = other_number s t drives differs in (
      t.slice,
      named.slice,
      subst (λ (n : SliceName). (not (t.slice == s.slice) && (overlap g n s && is_taken g m n)) ≡ true) (sym (beside_is s t drives)) (all_three (not (t.slice == s.slice)) (overlap g t s) (is_taken g m t) other over taken),
    )

taken_first : (g : Geometry) (m : Held User) (t : SliceName) → is_some (held m (slice_code t)) ≡ true → is_taken g m t ≡ true
taken_first g m t some = ap (λ (b : Bool). b || is_db_at (slice_at g.slices t)) some

taken_db : (g : Geometry) (m : Held User) (t : SliceName) → is_db_at (slice_at g.slices t) ≡ true → is_taken g m t ≡ true
taken_db g m t db = elim (is_some (held m (slice_code t))) as (λ b. (b || is_db_at (slice_at g.slices t)) ≡ true) [ true ↦ refl | false ↦ db ]

-- what nothing hinders overlaps no other slice in use
pub free_of_uses : (g : Geometry) (m : Held User) (xs : List SliceUse) (s : SliceName) → IsSound g → All IsNamed xs → AreFirsts xs m → (IsHindered g m s → ⊥) → All (λ u. same_slice u.slice s ≡ false → overlap g u.slice s ≡ false) xs
free_of_uses g m xs s sound named firsts free i d within differs =
    let u = get_or xs i d in
    let some : is_some (held m (use_key u)) ≡ true = ap is_some (firsts (use_key u)) ∙ some_first xs (use_key u) i d within refl in
    false_unless (overlap g u.slice s) (λ over. free (hinders_it g m s u.slice sound (named i d within) over differs (taken_first g m u.slice some)))

other_parts : (a b c : Bool) → ((a && b) && c) ≡ true → (a ≡ true) × (b ≡ true) × (c ≡ true)
other_parts true true true is = (refl, refl, refl)
other_parts true true false is = cc
other_parts true false c is = cc
other_parts false b c is = cc

not_true : (b : Bool) → not b ≡ true → b ≡ false
not_true true is = cc
not_true false is = refl

-- and no other one that is set aside for replicas
pub free_of_dbs : (g : Geometry) (m : Held User) (s : SliceName) → IsSound g → (IsHindered g m s → ⊥) → meets_db g s ≡ false
free_of_dbs g m s sound free = false_unless (meets_db g s) (λ meets.
    let found = Any-from_list_any (is_other_db g s) g.slices meets in
    let line = found.1 in
    let parts = other_parts line.at.db (not (same_slice line.name s)) (overlap g line.name s) found.4 in
    let has : HasSlice g.slices line.name line.at = (found.0, found.2, found.3) in
    let stands : slice_at g.slices line.name ≡ Some line.at = (slice_at-some g line.name line.at sound).1 has in
    let db : is_db_at (slice_at g.slices line.name) ≡ true = ap is_db_at stands ∙ parts.0 in
    free (hinders_it g m s line.name sound (sound.each line.name line.at has).named parts.2 (not_true (same_slice line.name s) parts.1) (taken_db g m line.name db)))

three_parts : (a b c : Bool) → (a && (b && c)) ≡ true → (a ≡ true) × (b ≡ true) × (c ≡ true)
three_parts true true true is = (refl, refl, refl)
three_parts true true false is = cc
three_parts true false c is = cc
three_parts false b c is = cc

-- a slice of another number isn't the same
beside_differs : (s : SliceName) (i : ℕ) → not (i == s.slice) ≡ true → same_slice (beside s i) s ≡ false
beside_differs s i other = false_unless (same_slice (beside s i) s) (λ same.
    let numbers : i ≡ s.slice = ap (λ (n : SliceName). n.slice) (same_slice-equal (beside s i) s same) in
    let here : (i == s.slice) ≡ true = grind (arith, nat_tests) in
    cc (here, other))

is_found : (o : Option User) → is_some o ≡ true → (u : User) × (o ≡ Some u)
is_found None is = cc
is_found (Some u) is = (u, refl)

is_set_aside : (o : Option SliceAt) → is_db_at o ≡ true → (at : SliceAt) × (o ≡ Some at) × (at.db ≡ true)
is_set_aside None is = cc
is_set_aside (Some at) is = (at, refl, is)

either : (a b : Bool) → (a || b) ≡ true → (a ≡ true) ⊎ (b ≡ true)
either true b is = inl refl
either false b is = inr is

-- what stands in nothing's way and is clear of replicas isn't hindered
pub never_hindered : (g : Geometry) (m : Held User) (xs : List SliceUse) (s : SliceName) → IsSound g → IsSliceName s → All IsNamed xs → AreFirsts xs m → All (λ u. same_slice u.slice s ≡ false → overlap g u.slice s ≡ false) xs → meets_db g s ≡ false → IsHindered g m s → ⊥
never_hindered g m xs s sound form named firsts clear no_db (i, few, is) =
    let other = beside s i in
    let parts = three_parts (not (i == s.slice)) (overlap g other s) (is_taken g m other) is in
    let differs = beside_differs s i parts.0 in
    elim (either (is_some (held m (slice_code other))) (is_db_at (slice_at g.slices other)) parts.2) [
      | inl some ↦
          let by = is_found (held m (slice_code other)) some in
          let first = first_stands xs (slice_code other) by.0 (sym (firsts (slice_code other)) ∙ by.1) in
          let d : SliceUse = record { slice = s; start = 0; run = record { at = 0; blocks = 0 }; by = by.0 } in
          let u = get_or xs first.place d in
          let there : IsSliceName other = record { drive = form.drive; slice = few } in
          let same : u.slice ≡ other = one_key u.slice other (named first.place d first.within) there (first.key d) in
          let apart : overlap g u.slice s ≡ false = clear first.place d first.within (ap (λ (n : SliceName). same_slice n s) same ∙ differs) in
          let over : overlap g u.slice s ≡ true = ap (λ (n : SliceName). overlap g n s) same ∙ parts.1 in
          cc (apart, over)
      | inr db ↦
          let at = is_set_aside (slice_at g.slices other) db in
          let has = (slice_at-some g other at.0 sound).0 at.1 in
          let line : SliceLine = record { name = other; at = at.0 } in
          let it : is_other_db g s line ≡ true = met at.0.db (same_slice other s) (overlap g other s) at.2 differs parts.1 in
          let meets = list_any_at (is_other_db g s) g.slices has.0 line has.1 (ap (is_other_db g s) has.2 ∙ it) in
          cc (meets, no_db)
    ]
  where
    met : (a b c : Bool) → a ≡ true → b ≡ false → c ≡ true → ((a && not b) && c) ≡ true
    met a b c one two three = cc
