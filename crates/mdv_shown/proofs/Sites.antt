-- The slices of a site share no block: those of one drive are known by their numbers.
use Rattle.std.proofs.Common.{◌≡◌, ◌⊎◌, inl, inr, ◌&&◌, ℕ, zero, suc, ◌+◌, Bool, true, false, sym, ◌∙◌, ap, subst, List, [], ◌∷◌, slice_get, filter, Contains, Option, Some, arith}
use Rattle.std.proofs.lemmas.Bool.Decides.{nat_tests}
use Rattle.std.proofs.lemmas.Bool.{and_parts, and_from, cases_Bool, cond-true, cond-false, false_from_ne_true, false≢true, leb-true, not-true, not_from_false}
use Rattle.std.proofs.lemmas.List.Elements.{All-contains, All-contains_itself, All-filter, filter_passes}
use Rattle.std.proofs.lemmas.List.Folds.{list_any_at}
use Rattle.std.specs.List.{list_any}
use Rattle.std.specs.Prelude.{not, nat_le}
use Rattle.mdv_base.specs.declared.drive.SliceName.{SliceName}
use Rattle.mdv_name.proofs.Finding.{same_slice-equal, slice_at-some}
use Rattle.mdv_name.specs.SliceIndex.{HasSlice, same_slice}
use Rattle.mdv_name.specs.Sound.{IsSound}
use Rattle.mdv_name.specs.declared.drive_line.DriveLine.{DriveLine}
use Rattle.mdv_name.specs.declared.geometry.Geometry.{Geometry}
use Rattle.mdv_name.specs.declared.slice_lines.SliceAt.{SliceAt}
use Rattle.mdv_plan.specs.Slices.{is_other_db, meets_db, overlap, overlap_at, share_a_block, slice_at}
use Rattle.mdv_shown.specs.Below.{AreApart, DriveNo, Key, SliceLine}
use Rattle.mdv_shown.specs.Site.{IsSite, line_area}
use Rattle.mdv_shown.specs.Sites.{SitesAre, drives_from, is_line_of, is_reached, is_reached_at, is_reached_line, is_slice_of, lines_of, site_of, takes_replicas}
use Rattle.mdv_shown.proofs.Elsewhere.{in_range}

some_same : {A : Type 0} (a b : A) → Some a ≡ Some b → a ≡ b
some_same a b e = cc

-- what passes a test was there, and passes it
in_filter : {X : Type 0} (p : X → Bool) (xs : List X) (x : X) → Contains (filter p xs) x → Contains xs x × (p x ≡ true)
in_filter p xs x has = (
  All-contains (Contains xs) (filter p xs) x (All-filter p (Contains xs) xs (All-contains_itself xs)) has,
  All-contains (λ y. p y ≡ true) (filter p xs) x (filter_passes p xs) has,
)

-- a list has it, so the test finds it
any_has : {X : Type 0} (p : X → Bool) (xs : List X) (x : X) → Contains xs x → p x ≡ true → list_any p xs ≡ true
any_has p xs x has is = list_any_at p xs has.0 x has.1 (ap p has.2 ∙ is)

-- slices that share no block are apart
lie_apart : (a b : SliceLine) → share_a_block a.at b.at ≡ false → AreApart (line_area a) (line_area b)
lie_apart a b none drive block in_a in_b =
    let x = in_range a.at.drive.0 a.at.start a.at.blocks drive block in_a in
    let y = in_range b.at.drive.0 b.at.start b.at.blocks drive block in_b in
    let meet : share_a_block a.at b.at ≡ true = grind (arith, nat_tests, x, y) in
    false≢true (sym none ∙ meet)

-- a slice of a site
taken : (g : Geometry) (key : Key) (line : SliceLine) → Contains (lines_of g key) line → Contains g.slices line × (takes_replicas g line ≡ true)
taken g key line has =
    let found = in_filter (is_line_of g key) g.slices line has in
    (found.0, (and_parts (is_slice_of key line.name && is_reached_at g key line.at.drive.0) (takes_replicas g line) found.1).1)

-- two slices that take replicas, whosever they are, are one or apart
pub lines_apart : (g : Geometry) → IsSound g → (key other : Key) (a b : SliceLine) → Contains (lines_of g key) a → Contains (lines_of g other) b → (a ≡ b) ⊎ AreApart (line_area a) (line_area b)
lines_apart g sound key other a b in_a in_b =
    let x = taken g key a in_a in
    let y = taken g other b in_b in
    let of_a = and_parts (a.at.db && nat_le 32 a.at.blocks) (not (meets_db g a.name)) x.1 in
    let of_b = and_parts (b.at.db && nat_le 32 b.at.blocks) (not (meets_db g b.name)) y.1 in
    elim (cases_Bool (same_slice b.name a.name)) [
      | inl same ↦
          let named : b.name ≡ a.name = same_slice-equal b.name a.name same in
          let lies : a.at ≡ b.at = sound.once a.name a.at b.at x.0 (subst (λ (s : SliceName). HasSlice g.slices s b.at) named y.0) in
          inl (λ i. record { name = sym named i; at = lies i })
      | inr differs ↦
          let apart_names : overlap g b.name a.name ≡ false = false_from_ne_true (overlap g b.name a.name) (λ over.
          let db = (and_parts b.at.db (nat_le 32 b.at.blocks) of_b.0).0 in
          let meets = any_has (is_other_db g a.name) g.slices b y.0
          (and_from (b.at.db && not (same_slice b.name a.name)) (overlap g b.name a.name) (and_from b.at.db (not (same_slice b.name a.name)) db (not_from_false (same_slice b.name a.name) differs)) over) in
          false≢true (sym (not-true (meets_db g a.name) of_a.1) ∙ meets)) in
          let at_a : slice_at g.slices a.name ≡ Some a.at = (slice_at-some g a.name a.at sound).1 x.0 in
          let at_b : slice_at g.slices b.name ≡ Some b.at = (slice_at-some g b.name b.at sound).1 y.0 in
          let none : share_a_block b.at a.at ≡ false = sym (ap (λ (o : Option SliceAt). overlap_at o (slice_at g.slices a.name)) at_b ∙ ap (overlap_at (Some b.at)) at_a) ∙ apart_names in
          inr (λ drive block has_a has_b. lie_apart b a none drive block has_b has_a)
    ]

pub site_is : (g : Geometry) (key : Key) → IsSound g → IsSite (site_of g key)
site_is g key sound = record {
  apart = lines_apart g sound key key;
  long = λ line has.
      let parts = and_parts (line.at.db && nat_le 32 line.at.blocks) (not (meets_db g line.name)) (taken g key line has).1 in
      let least = leb-true 32 line.at.blocks (and_parts line.at.db (nat_le 32 line.at.blocks) parts.0).1 in
      omega (arith, least);
}

-- a drive that replicas may lie on is brought up
reached_from : (key : Key) (lines : List DriveLine) (n d : ℕ) → is_reached_line key (slice_get lines d) ≡ true → Contains (drives_from key n lines) (record { 0 = n + d })
reached_from key [] n d is = absurd (false≢true is)
reached_from key (line ∷ lines) n zero is =
    subst (λ (l : List DriveNo). Contains l (record { 0 = n + 0 })) (sym (cond-true (is_reached key line.kind) (record { 0 = n } ∷ drives_from key (n + 1) lines) (drives_from key (n + 1) lines) is))
    (0, omega arith, λ i. record { 0 = zero_more n i })
  where
    zero_more : (m : ℕ) → m ≡ m + 0
    zero_more m = omega arith
reached_from key (line ∷ lines) n (suc d) is =
    let rest = reached_from key lines (n + 1) d is in
    let next : n + 1 + d ≡ n + suc d = omega arith in
    let has : Contains (drives_from key (n + 1) lines) (record { 0 = n + suc d }) = subst (λ (m : ℕ). Contains (drives_from key (n + 1) lines) (record { 0 = m })) next rest in
    elim (cases_Bool (is_reached key line.kind)) [
      | inl does ↦
          subst (λ (l : List DriveNo). Contains l (record { 0 = n + suc d })) (sym (cond-true (is_reached key line.kind) (record { 0 = n } ∷ drives_from key (n + 1) lines) (drives_from key (n + 1) lines) does))
          (suc has.0, omega (arith, has.1), has.2)
      | inr never ↦
          subst (λ (l : List DriveNo). Contains l (record { 0 = n + suc d })) (sym (cond-false (is_reached key line.kind) (record { 0 = n } ∷ drives_from key (n + 1) lines) (drives_from key (n + 1) lines) never)) has
    ]

pub law_sites : SitesAre
law_sites = record {
  sites = site_is;
  brought = λ g key line has.
      let found = in_filter (is_line_of g key) g.slices line has in
      let parts = and_parts (is_slice_of key line.name && is_reached_at g key line.at.drive.0) (takes_replicas g line) found.1 in
      let number : 0 + line.at.drive.0 ≡ line.at.drive.0 = omega arith in
      subst (λ (m : ℕ). Contains (drives_from key 0 g.drives) (record { 0 = m })) number
      (reached_from key g.drives 0 line.at.drive.0 (and_parts (is_slice_of key line.name) (is_reached_at g key line.at.drive.0) parts.0).1);
}
