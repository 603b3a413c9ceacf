-- New components of slices lie apart from each other, from those that there are, and from replicas.
use Rattle.std.proofs.Common.{◌≡◌, ℕ, ◌<◌, ◌+◌, ◌&&◌, Bool, true, false, not, if◌then◌else◌, inl, inr, List, [], ◌∷◌, ◌++◌, get_or, flat_map, Contains, Option, Some, refl, sym, ◌∙◌, ap, subst, arith}
use Rattle.std.specs.Prelude.{All, AllPairs}
use Rattle.std.specs.List.{list_any}
use Rattle.std.proofs.lemmas.Bool.{and_from, cases_Bool, false≢true, not_from_false, or_parts}
use Rattle.std.proofs.lemmas.Bool.Decides.{nat_tests}
use Rattle.std.proofs.lemmas.List.Elements.{All-append, All-cons, All-contains, All-filter, All-nil}
use Rattle.std.proofs.lemmas.List.Folds.{list_any-append}
use Rattle.mdv_components.specs.Bases.{has_meeting, is_slice_in_use, slices_meet}
use Rattle.mdv_config.proofs.Deciding.{some_of}
use Rattle.mdv_config.specs.Lists.{base_slices, beside, component_slices, kind_slices, part_slices, places_of, row_slices, same_place, volume_slices}
use Rattle.mdv_config.specs.Slices.{Overlap, Overlaps}
use Rattle.mdv_config.specs.Table.{IsApart, IsKindOf, IsPart, IsPartOn, IsPlaceOf, IsRowOf, row_depth}
use Rattle.mdv_name.proofs.Finding.{same_slice-equal, slice_at-some}
use Rattle.mdv_plan.proofs.Pairs.{AllPairs-cons}
use Rattle.mdv_plan.specs.Slices.{can_share, clashes, clashes_with, is_other_db, meets_db, overlap, overlap_at, share_a_block}
use Rattle.mdv_plan.specs.Uses.{component_uses, kind_uses, list_uses, pool_uses, row_uses, same_slice, uses_of, volume_uses}
use Rattle.mdv_plan.specs.declared.clash.Asked.TheVariants.{OneComponent}
use Rattle.mdv_plan.specs.declared.lists.Lists.TheVariants.{One, Two}
use Rattle.mdv_plan.specs.declared.plan.Plan.{Plan}
use Rattle.mdv_plan.specs.declared.uses.SliceUse.{SliceUse}
use Rattle.mdv_plan.specs.declared.uses.User.{User}
use Rattle.mdv_plan.specs.declared.uses.User.TheVariants.{Component as ByComponent}
use Rattle.mdv_plan.specs.declared.volume.Component.{Component}
use Rattle.mdv_plan.specs.declared.volume.Row.{Row}
use Rattle.mdv_plan.specs.declared.volume.Volume.{Volume as OneVolume}
use Rattle.mdv_plan.specs.declared.volume.VolumeKind.{VolumeKind}
use Rattle.mdv_plan.specs.declared.volume.VolumeKind.TheVariants.{Stripe, Mirror, Raid, Soft}
use Rattle.mdv_base.specs.declared.name.VolId.{VolId}
use Rattle.mdv_keeping.specs.Below.{Base, Geometry, IsListsOf, IsSound, Lists, Place, Slice, SliceAt, SliceName, Volume, slice_at}
use Rattle.mdv_keeping.proofs.Lists.{flat_all, pairs_put}

-- a test that fails of all of these fails of what each gives
pub flat_never : {X U A : Type 0} (uses : X → List U) (f : X → List A) (p : U → Bool) (P : A → Type 0) → ((x : X) → list_any p (uses x) ≡ false → All P (f x)) → (xs : List X) → list_any p (flat_map uses xs) ≡ false → All P (flat_map f xs)
flat_never uses f p P each [] none = All-nil P
flat_never uses f p P each (x ∷ xs) none =
    let parts = or_parts (list_any p (uses x)) (list_any p (flat_map uses xs)) (sym (list_any-append p (uses x) (flat_map uses xs)) ∙ none) in
    All-append P (f x) (flat_map f xs) (each x parts.0) (flat_never uses f p P each xs parts.1)

-- what holds of a slice that fails a test holds of all of the bases that do
pub bases_all : (P : SliceName → Type 0) (test : Base → Bool) → ((slice : SliceName) → test (Slice slice) ≡ false → P slice) → (bases : List Base) → list_any test bases ≡ false → All P (flat_map base_slices bases)
bases_all P test each [] none = All-nil P
bases_all P test each (b ∷ bs) none = by b (or_parts (test b) (list_any test bs) none).0 (bases_all P test each bs (or_parts (test b) (list_any test bs) none).1) where
  by : (b : Base) → test b ≡ false → All P (flat_map base_slices bs) → All P (base_slices b ++ flat_map base_slices bs)
  by (Slice slice) is rest = All-cons P slice (flat_map base_slices bs) (each slice is) rest
  by (Volume volume) is rest = rest

abbrev pub Never : Geometry → SliceName → SliceName → Type 0
Never g m n = Overlaps g.slices m n → ⊥

module _ (g : Geometry) where
  pub other_way : (m n : SliceName) → Never g m n → Never g n m
  other_way m n never over = never (record {
    first = over.second;
    second = over.first;
    has_first = over.has_second;
    has_second = over.has_first;
    overlap = record { drive = sym over.overlap.drive; block = over.overlap.block; in_first = over.overlap.in_second; in_second = over.overlap.in_first };
  })

module _ (g : Geometry) (sound : IsSound g) where
  shares : (a b : SliceAt) → Overlap a b → share_a_block a b ≡ true
  shares a b over =
      let drive : a.drive.0 ≡ b.drive.0 = λ i. (over.drive i).0 in
      let first : a.start < b.start + b.blocks = omega (arith, over.in_first.first, over.in_second.last) in
      let second : b.start < a.start + a.blocks = omega (arith, over.in_second.first, over.in_first.last) in
      grind (arith, nat_tests)

  pub overlaps : (m n : SliceName) → Overlaps g.slices m n → overlap g m n ≡ true
  overlaps m n over =
      let first = (slice_at-some g m over.first sound).1 over.has_first in
      let second = (slice_at-some g n over.second sound).1 over.has_second in
      ap (λ (o : Option SliceAt). overlap_at o (slice_at g.slices n)) first ∙ ap (overlap_at (Some over.first)) second ∙ shares over.first over.second over.overlap

  pub never_overlap : (m n : SliceName) → overlap g m n ≡ false → Never g m n
  never_overlap m n is over = false≢true (sym is ∙ overlaps m n over)

  -- what doesn't clash with a component shares no block with it
  unclashed : (name : SliceName) (u : SliceUse) (v : VolId) → u.by ≡ ByComponent v → clashes_with g OneComponent name u ≡ false → Never g u.slice name
  unclashed name u v by is = other (same_slice u.slice name) (can_share OneComponent u.by u.start) (ap (λ (w : User). can_share OneComponent w u.start) by) is where
    other : (same share : Bool) → share ≡ false → (if same then not share else overlap g u.slice name) ≡ false → Never g u.slice name
    other true true shared apart = absurd (false≢true (sym shared))
    other true false shared apart = absurd (false≢true (sym apart))
    other false share shared apart = never_overlap u.slice name apart

  module _ (name : SliceName) where
    abbrev hits : SliceUse → Bool
    hits = clashes_with g OneComponent name

    abbrev Clear : SliceName → Type 0
    Clear m = Never g m name

    part_clear : (v : VolId) (c : Component) → list_any hits (component_uses v c) ≡ false → All Clear (part_slices c)
    part_clear v c none = by c.on none where
      by : (base : Base) → list_any hits (component_uses v (record c { on = base })) ≡ false → All Clear (base_slices base)
      by (Slice slice) is =
          let it : SliceUse = record { slice = slice; start = c.start; run = record { at = 0; blocks = c.blocks }; by = ByComponent v } in
          All-cons Clear slice [] (unclashed name it v refl (or_parts (hits it) false is).0) (All-nil Clear)
      by (Volume volume) is = All-nil Clear

    kind_clear : (v : VolId) (kind : VolumeKind) → list_any hits (kind_uses v kind) ≡ false → All Clear (kind_slices kind)
    kind_clear v (Stripe s) none = flat_never (row_uses v) row_slices hits Clear (λ row. flat_never (component_uses v) part_slices hits Clear (part_clear v) row.components) s.rows none
    kind_clear v (Mirror m) none = All-nil Clear
    kind_clear v (Raid r) none = All-nil Clear
    kind_clear v (Soft s) none = All-nil Clear

    -- a slice that clashes with no use overlaps no component
    pub uses_clear : (p : Plan) → clashes g OneComponent name (uses_of p) ≡ false → All Clear (component_slices p.volumes)
    uses_clear p none =
        let volumes = flat_map volume_uses p.volumes in
        let pools = flat_map pool_uses p.pools in
        let lists = list_uses p.lists in
        let all : list_any hits ((lists ++ volumes) ++ pools) ≡ false = none in
        let front = (or_parts (list_any hits (lists ++ volumes)) (list_any hits pools) (sym (list_any-append hits (lists ++ volumes) pools) ∙ all)).0 in
        let own = (or_parts (list_any hits lists) (list_any hits volumes) (sym (list_any-append hits lists volumes) ∙ front)).1 in
        flat_never volume_uses volume_slices hits Clear (λ (v : OneVolume) is. kind_clear v.number v.kind is) p.volumes own

  -- bases that don't meet
  pub unmet : (bases : List Base) → has_meeting g bases ≡ false → AllPairs (Never g) (flat_map base_slices bases)
  unmet [] none = λ i j d below within. absurd (omega arith)
  unmet (Slice slice ∷ bs) none =
      let parts = or_parts (list_any (slices_meet g (Slice slice)) bs) (has_meeting g bs) none in
      AllPairs-cons (Never g) slice (flat_map base_slices bs) (bases_all (Never g slice) (slices_meet g (Slice slice)) (λ other is. never_overlap slice other is) bs parts.0) (unmet bs parts.1)
  unmet (Volume volume ∷ bs) none = unmet bs (or_parts (list_any (slices_meet g (Volume volume)) bs) (has_meeting g bs) none).1

  -- nor is any of them in use
  pub unused : (p : Plan) (bases : List Base) → list_any (is_slice_in_use g (uses_of p)) bases ≡ false → (m n : SliceName) → Contains (component_slices p.volumes) m → Contains (flat_map base_slices bases) n → Never g m n × Never g n m
  unused p bases none m n there here =
      let clear = bases_all (λ o. All (λ k. Never g k o) (component_slices p.volumes)) (is_slice_in_use g (uses_of p)) (λ slice is. uses_clear slice p (or_parts (clashes g OneComponent slice (uses_of p)) (meets_db g slice) is).0) bases none in
      let never = All-contains (λ k. Never g k n) (component_slices p.volumes) m (All-contains (λ o. All (λ k. Never g k o) (component_slices p.volumes)) (flat_map base_slices bases) n clear here) there in
      (never, other_way g m n never)

  -- a replica lies on another slice than a component, and on one that doesn't overlap that
  pub place_clear : (p : Place) (blocks : ℕ) (c : Component) (name : SliceName) → IsPlaceOf g p → IsPart g blocks c name → Never g p.slice name
  place_clear p blocks c name place part over = elim (cases_Bool (same_slice p.slice name)) [
    | inl same ↦
        let one : p.slice ≡ name = same_slice-equal p.slice name same in
        let at : place.at ≡ part.at = sound.once name place.at part.at (subst (λ (s : SliceName). Contains g.slices (record { name = s; at = place.at })) one place.has) part.has in
        false≢true (sym part.lies.plain ∙ ap (λ (a : SliceAt). a.db) (sym at) ∙ place.lies.db)
    | inr differs ↦
        let test : is_other_db g name (record { name = p.slice; at = place.at }) ≡ true =
        and_from (place.at.db && not (same_slice p.slice name)) (overlap g p.slice name) (and_from place.at.db (not (same_slice p.slice name)) place.lies.db (not_from_false (same_slice p.slice name) differs)) (overlaps p.slice name over) in
        false≢true (sym part.clear ∙ some_of (is_other_db g name) g.slices (record { name = p.slice; at = place.at }) place.has test)
  ]

  listed_places : (lists : Lists) → IsListsOf g lists → All (IsPlaceOf g) (places_of lists)
  listed_places (One places) is = is.each
  listed_places (Two old new) is = All-append (IsPlaceOf g) old (beside old new) is.0.each (All-filter (λ p. not (list_any (same_place p) old)) (IsPlaceOf g) new is.1.each)

  module _ (lists : Lists) (are : IsListsOf g lists) where
    abbrev Free : SliceName → Type 0
    Free n = All (λ (p : Place). Never g p.slice n) (places_of lists)

    base_free : (blocks : ℕ) (c : Component) (base : Base) → IsPartOn g blocks c base → All Free (base_slices base)
    base_free blocks c (Slice slice) part =
        let free : Free slice = λ k d within. place_clear (get_or (places_of lists) k d) blocks c slice (listed_places lists are k d within) part in
        All-cons Free slice [] free (All-nil Free)
    base_free blocks c (Volume volume) part = absurd part

    row_free : (row : Row) → IsRowOf g row → All Free (row_slices row)
    row_free row is = flat_all part_slices (λ (c : Component). IsPartOn g (row_depth row) c c.on) Free (λ c part. base_free (row_depth row) c c.on part) row.components is.each

    kind_free : (kind : VolumeKind) → IsKindOf g kind → All Free (kind_slices kind)
    kind_free (Stripe s) is = flat_all row_slices (IsRowOf g) Free row_free s.rows is.each
    kind_free (Mirror m) is = absurd is
    kind_free (Raid r) is = absurd is
    kind_free (Soft s) is = absurd is

    -- wherever the places are that a table of the geometry may list
    pub replicas_clear : (volumes : List OneVolume) → All (λ (v : OneVolume). IsKindOf g v.kind) volumes → All Free (component_slices volumes)
    replicas_clear volumes kinds = flat_all volume_slices (λ (v : OneVolume). IsKindOf g v.kind) Free (λ v is. kind_free v.kind is) volumes kinds

  -- slices of new components come in between
  pub apart_with : (lists : Lists) (p : Plan) (volumes : List OneVolume) (bases : List Base) (xs ys : List SliceName)
      → IsListsOf g lists → All (λ (v : OneVolume). IsKindOf g v.kind) volumes → AllPairs (Never g) (component_slices p.volumes) → has_meeting g bases ≡ false → list_any (is_slice_in_use g (uses_of p)) bases ≡ false
      → component_slices p.volumes ≡ xs ++ ys → component_slices volumes ≡ xs ++ (flat_map base_slices bases ++ ys) → IsApart g (places_of lists) (component_slices volumes)
  apart_with lists p volumes bases xs ys are kinds pairs unmeeting free old new = record {
    components = subst (AllPairs (Never g)) (sym new)
        (pairs_put (Never g) xs (flat_map base_slices bases) ys (subst (AllPairs (Never g)) old pairs) (unmet bases unmeeting)
        (λ m n there here. unused p bases free m n (subst (λ (l : List SliceName). Contains l m) (sym old) there) here));
    replicas = replicas_clear lists are volumes kinds;
  }
