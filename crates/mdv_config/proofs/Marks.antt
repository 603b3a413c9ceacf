-- The marks of the slices in use tell which slices overlap one in use.
use Rattle.std.proofs.Common.{◌≡◌, ◌<◌, ◌+◌, ◌*◌, ℕ, zero, suc, Bool, true, false, refl, sym, ◌∙◌, ap, subst, List, [], ◌∷◌, ◌++◌, length, get_or, set, replicate, inl, inr, Contains, arith, get_or-set_same, get_or-set_other}
use Rattle.std.proofs.lemmas.Bool.{cases_eq}
use Rattle.std.proofs.lemmas.List.Elements.{Contains-append_left, Contains-push, Contains-push_cases}
use Rattle.mdv_config.specs.Below.{DriveNo, SliceName, Geometry, SliceAt, SliceLine, HasSlice, HasNoSlice}
use Rattle.mdv_config.specs.Marks.{IsMarked, mark_place, mark_at}
use Rattle.mdv_config.specs.Lists.{IsInUse}
use Rattle.mdv_config.specs.Slices.{IsSound, Overlap, OverlapsAt}

pub unmarked : (n place : ℕ) → get_or (replicate n false) place false ≡ false
unmarked zero place = refl
unmarked (suc n) zero = refl
unmarked (suc n) (suc place) = unmarked n place

-- where nothing is marked, nothing is in use
pub none_marked : (lines : List SliceLine) (marks : List Bool) → ((place : ℕ) → get_or marks place false ≡ false) → IsMarked lines marks []
none_marked lines marks none = record {
  used = λ name at has is. let n = none (mark_place at name.slice) in cc;
  marked = λ name at has used. absurd (omega (arith, used.1));
}

-- each slice has a mark
pub has_mark : (g : Geometry) (name : SliceName) (at : SliceAt) (n : ℕ) → IsSound g → HasSlice g.slices name at → n < 8 → mark_place at n < 2048
has_mark g name at n sound has below = omega (arith, (sound.each name at has).drive)

-- slices with one mark are one slice
one_mark : (g : Geometry) (m n : SliceName) (a b : SliceAt) → IsSound g → HasSlice g.slices m a → HasSlice g.slices n b → mark_place a m.slice ≡ mark_place b n.slice → m ≡ n
one_mark g m n a b sound first second is =
    let below = (sound.each m a first).named.slice in
    let also = (sound.each n b second).named.slice in
    let drive : a.drive.0 ≡ b.drive.0 = omega (arith, below, also) in
    let slice : m.slice ≡ n.slice = omega (arith, below, also) in
    let drives : m.drive ≡ n.drive = sound.drives m n a b first second (λ i. record { 0 = drive i }) in
    λ i. record { drive = drives i; slice = slice i }

module _ (g : Geometry) (sound : IsSound g) (marks : List Bool) (uses : List SliceName) (is : IsMarked g.slices marks uses) (name : SliceName) where
  -- one slice more is in use, and its mark is set
  pub marked_more : (at : SliceAt) → HasSlice g.slices name at → length marks ≡ 2048 → IsMarked g.slices (set marks (mark_place at name.slice) true) (uses ++ name ∷ [])
  marked_more at has size = record {
    used = λ m a there set. elim (cases_eq (mark_place a m.slice) (mark_place at name.slice)) [
      | inl same ↦ subst (Contains (uses ++ name ∷ [])) (sym (one_mark g m name a at sound there has same)) (Contains-push uses name)
      | inr other ↦ Contains-append_left uses (name ∷ []) m (is.used m a there (sym (get_or-set_other marks (mark_place at name.slice) (mark_place a m.slice) true false other) ∙ set))
    ];
    marked = λ m a there used. elim (cases_eq (mark_place a m.slice) (mark_place at name.slice)) [
      | inl same ↦ now_set m a same
      | inr other ↦ get_or-set_other marks (mark_place at name.slice) (mark_place a m.slice) true false other ∙ elim (Contains-push_cases uses name m used) [
        | inl before ↦ is.marked m a there before
        | inr it ↦ absurd (other (its_place m a there it))
      ]
    ];
  }
    where
      now_set : (m : SliceName) (a : SliceAt) → mark_place a m.slice ≡ mark_place at name.slice → mark_at (set marks (mark_place at name.slice) true) a m.slice ≡ true
      now_set m a same =
          let room : mark_place at name.slice < length marks = omega (arith, size, has_mark g name at name.slice sound has (sound.each name at has).named.slice) in
          ap (λ (k : ℕ). get_or (set marks (mark_place at name.slice) true) k false) same ∙ get_or-set_same marks (mark_place at name.slice) true false room

      its_place : (m : SliceName) (a : SliceAt) → HasSlice g.slices m a → name ≡ m → mark_place a m.slice ≡ mark_place at name.slice
      its_place m a there it =
          let lies : a ≡ at = sound.once name a at (subst (λ (s : SliceName). HasSlice g.slices s a) (sym it) there) has in
          ap (λ (x : SliceAt). mark_place x m.slice) lies ∙ ap (λ (s : SliceName). mark_place at s.slice) (sym it)

  -- a slice that no drive has needs no mark
  pub marked_same : HasNoSlice g.slices name → IsMarked g.slices marks (uses ++ name ∷ [])
  marked_same none = record {
    used = λ m a there set. Contains-append_left uses (name ∷ []) m (is.used m a there set);
    marked = λ m a there used. elim (Contains-push_cases uses name m used) [
      | inl before ↦ is.marked m a there before
      | inr it ↦ absurd (none a (subst (λ (s : SliceName). HasSlice g.slices s a) (sym it) there))
    ];
  }

-- the n-th slice of the drive is marked, and it overlaps
pub record IsClash (lines : List SliceLine) (marks : List Bool) (name : SliceName) (at : SliceAt) (n : ℕ) : Type 0 where
  pub marked : mark_at marks at n ≡ true
  pub overlaps : OverlapsAt lines (record { drive = name.drive; slice = n }) at

module _ (g : Geometry) (sound : IsSound g) (marks : List Bool) (uses : List SliceName) (is : IsMarked g.slices marks uses) (name : SliceName) (at : SliceAt) (has : HasSlice g.slices name at) where
  mark_on : (a : SliceAt) (n : ℕ) → a.drive ≡ at.drive → mark_at marks a n ≡ mark_at marks at n
  mark_on a n same = ap (λ (d : DriveNo). get_or marks (d.0 * 8 + n) false) same

  -- each clash is a use
  pub used_by_clash : (n : ℕ) → IsClash g.slices marks name at n → IsInUse g.slices uses name
  used_by_clash n clash =
      let over = clash.overlaps in
      let other : SliceName = record { drive = name.drive; slice = n } in
      record {
        by = other;
        used = is.used other over.at over.has (mark_on over.at n over.overlap.drive ∙ clash.marked);
        overlaps = record { first = over.at; second = at; has_first = over.has; has_second = has; overlap = over.overlap };
      }

  -- and each use is one of the eight clashes
  pub no_use : ((n : ℕ) → n < 8 → IsClash g.slices marks name at n → ⊥) → IsInUse g.slices uses name → ⊥
  no_use none it =
      let over = it.overlaps in
      let lies : over.second ≡ at = sound.once name over.second at over.has_second has in
      let overlap : Overlap over.first at = subst (Overlap over.first) lies over.overlap in
      let drives : it.by.drive ≡ name.drive = sound.drives it.by name over.first at over.has_first has overlap.drive in
      let by_number : SliceName = record { drive = name.drive; slice = it.by.slice } in
      let here : it.by ≡ by_number = λ i. record { drive = drives i; slice = it.by.slice } in
      none it.by.slice (sound.each it.by over.first over.has_first).named.slice (record {
        marked = sym (mark_on over.first it.by.slice overlap.drive) ∙ is.marked it.by over.first over.has_first it.used;
        overlaps = record { at = over.first; has = subst (λ (s : SliceName). HasSlice g.slices s over.first) here over.has_first; overlap = overlap };
      })
