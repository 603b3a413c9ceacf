-- What a host sees of a table of drives.
use Rattle.std.proofs.Common.{◌≡◌, ◌⊎◌, ◌==◌, ℕ, Bool, true, sym, ◌∙◌, ap, subst, List, [], ◌∷◌, Contains, inl, inr, arith}
use Rattle.std.proofs.lemmas.Bool.Decides.{nat_tests}
use Rattle.std.proofs.lemmas.List.Elements.{Contains-append_cases, Contains-append_left, Contains-append_right, Contains-push}
use Rattle.std.specs.List.{filter}
use Rattle.mdv_base.specs.declared.drive.DriveNo.{DriveNo}
use Rattle.mdv_name.specs.declared.geometry.Geometry.{Geometry}
use Rattle.mdv_name.specs.declared.slice_lines.SliceLine.{SliceLine}
use Rattle.mdv_name.specs.SliceIndex.{is_among}
use Rattle.mdv_shelf.proofs.Blocks.{both_ways}
use Rattle.mdv_home.specs.Drives.{own_drives}
use Rattle.mdv_home.specs.View.{ViewIsOwn, own_view}
use Rattle.mdv_home.proofs.Owning.{no_item, only_item}

pub first : {X : Type 0} (y x : X) (xs : List X) → y ≡ x → Contains (y ∷ xs) x
first {X} y x xs same = subst (Contains (y ∷ xs)) same (Contains-append_left (y ∷ []) xs y (Contains-push [] y))

pub behind : {X : Type 0} (y x : X) (xs : List X) → Contains xs x → Contains (y ∷ xs) x
behind y x xs has = Contains-append_right (y ∷ []) xs x has

first_or_behind : {X : Type 0} (y x : X) (xs : List X) → Contains (y ∷ xs) x → (y ≡ x) ⊎ Contains xs x
first_or_behind y x xs has = elim (Contains-append_cases (y ∷ []) xs x has) [ inl one ↦ inl (only_item y x one) | inr more ↦ inr more ]

-- what passes a test of a list is what is there and passes it
pub in_filter : {X : Type 0} (p : X → Bool) (xs : List X) (x : X) → Contains (filter p xs) x → Contains xs x × (p x ≡ true)
in_filter p [] x = λ has. absurd (no_item x has)
in_filter {X} p (y ∷ xs) x = elim (both_ways (p y)) [
  | inl does ↦ rw does (λ has. elim (first_or_behind y x (filter p xs) has) [
    | inl same ↦ (first y x xs same, ap p (sym same) ∙ does)
    | inr more ↦ let rest = in_filter p xs x more in (behind y x xs rest.0, rest.1)
  ])
  | inr never ↦ rw never (λ has. let rest = in_filter p xs x has in (behind y x xs rest.0, rest.1))
]

still_there : {X : Type 0} (p : X → Bool) (xs : List X) (x : X) → Contains xs x → p x ≡ true → Contains (filter p xs) x
still_there p [] x has passes = absurd (no_item x has)
still_there {X} p (y ∷ xs) x has passes = elim (both_ways (p y)) [
  | inl does ↦ rw does (elim (first_or_behind y x xs has) [ inl same ↦ first y x (filter p xs) same | inr more ↦ behind y x (filter p xs) (still_there p xs x more passes) ])
  | inr never ↦ rw never (elim (first_or_behind y x xs has) [ inl same ↦ absurd (cc (never, ap p same, passes)) | inr more ↦ still_there p xs x more passes ])
]

same_number : (a b : DriveNo) → (a.0 == b.0) ≡ true → a ≡ b
same_number a b is = let same : a.0 ≡ b.0 = grind (arith, nat_tests) in λ i. record { 0 = same i }

pub is_there : (drives : List DriveNo) (drive : DriveNo) → is_among drives drive ≡ true → Contains drives drive
is_there [] drive = λ is. absurd (cc (is))
is_there (d ∷ drives) drive = elim (both_ways (d.0 == drive.0)) [
  | inl same ↦ λ is. first d drive drives (same_number d drive same)
  | inr other ↦ rw other (λ is. behind d drive drives (is_there drives drive is))
]

pub there_is : (drives : List DriveNo) (drive : DriveNo) → Contains drives drive → is_among drives drive ≡ true
there_is [] drive has = absurd (no_item drive has)
there_is (d ∷ drives) drive has = elim (first_or_behind d drive drives has) [
  | inl same ↦ let number : d.0 ≡ drive.0 = ap (λ (n : DriveNo). n.0) same in grind (arith, nat_tests)
  | inr more ↦ let rest = there_is drives drive more in grind (arith, nat_tests)
]

seen : (table : Geometry) (host : List ℕ) (line : SliceLine) → Contains (own_view table host).slices line → Contains table.slices line × Contains (own_drives table host) line.at.drive
seen table host line has =
    let is = in_filter (λ (l : SliceLine). is_among (own_drives table host) l.at.drive) table.slices line has in
    (is.0, is_there (own_drives table host) line.at.drive is.1)

pub view_is_own : ViewIsOwn
view_is_own = record {
  seen = λ table host name at. (
    seen table host (record { name = name; at = at }),
    λ is. still_there (λ (l : SliceLine). is_among (own_drives table host) l.at.drive) table.slices (record { name = name; at = at }) is.0 (there_is (own_drives table host) at.drive is.1),
  );
  sound = λ table host sound. record {
    each = λ name at has. sound.each name at (seen table host (record { name = name; at = at }) has).0;
    once = λ name a b one two. sound.once name a b (seen table host (record { name = name; at = a }) one).0 (seen table host (record { name = name; at = b }) two).0;
    drives = λ m n a b one two. sound.drives m n a b (seen table host (record { name = m; at = a }) one).0 (seen table host (record { name = n; at = b }) two).0;
  };
}
