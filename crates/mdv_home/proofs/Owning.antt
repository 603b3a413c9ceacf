-- The drives that are a host's own.
use Rattle.std.proofs.Common.{◌≡◌, ◌<◌, ◌+◌, ℕ, zero, suc, Bool, true, false, cond, List, [], ◌∷◌, Some, Contains, inl, inr, refl, sym, ◌∙◌, ap, subst, arith}
use Rattle.std.proofs.lemmas.List.{length-map}
use Rattle.std.proofs.lemmas.List.Elements.{Contains-append_cases, Contains-append_left, Contains-append_right, Contains-push, Contains-push_cases}
use Rattle.std.proofs.lemmas.Option.{get_or_from_slice_get, slice_get-map, slice_get_within}
use Rattle.std.proofs.lemmas.Slice.Eq.{bytes_eq-Decides}
use Rattle.std.specs.Prelude.{slice_get}
use Rattle.std.specs.Option.{option_map}
use Rattle.mdv_base.specs.declared.drive.DriveName.{DriveName}
use Rattle.mdv_base.specs.declared.drive.DriveNo.{DriveNo}
use Rattle.mdv_name.specs.declared.drive_line.DriveKind.{DriveKind}
use Rattle.mdv_name.specs.declared.drive_line.DriveKind.TheVariants.{Own, Shared, Mediator}
use Rattle.mdv_name.specs.declared.drive_line.DriveLine.{DriveLine}
use Rattle.mdv_name.specs.declared.geometry.Geometry.{Geometry}
use Rattle.mdv_name.specs.Geometry.{IsGeometry as IsTable}
use Rattle.mdv_shelf.specs.Calls.{InDrive}
use Rattle.mdv_shelf.specs.Drives.{AreDrives}
use Rattle.mdv_home.specs.Drives.{IsOwnDrive, OwnDrives, is_own, own_drives, own_from, sizes_of}
use Rattle.mdv_home.proofs.Read.{IsRead, drive_at, least_some, read_table}

-- one place of a list has one item
one_at : {X : Type 0} (xs : List X) (n : ℕ) (x y : X) → slice_get xs n ≡ Some x → slice_get xs n ≡ Some y → x ≡ y
one_at xs n x y first second = let both : Some x ≡ Some y = sym first ∙ second in cc (both)

-- the kind says so
pub record IsOf (host : List ℕ) (kind : DriveKind) : Type 0 where
  pub name : DriveName
  pub own : kind ≡ Own name host

pub owned : (host : List ℕ) (kind : DriveKind) → is_own host kind ≡ true → IsOf host kind
owned host (Own name owner) so = record { name = name; own = ap (Own name) ((bytes_eq-Decides owner host).0 so) }
owned host (Shared name) so = absurd (cc (so))
owned host (Mediator other) so = absurd (cc (so))

pub of_host : (host : List ℕ) (kind : DriveKind) → IsOf host kind → is_own host kind ≡ true
of_host host kind is = subst (λ (k : DriveKind). is_own host k ≡ true) (sym is.own) ((bytes_eq-Decides host host).1 refl)

-- the line at such a place of these is of a drive of the host's own, whose number is this
record IsAt (number : ℕ) (host : List ℕ) (lines : List DriveLine) (drive : DriveNo) : Type 0 where
  place : ℕ
  is : drive.0 ≡ number + place
  line : DriveLine
  at : slice_get lines place ≡ Some line
  own : IsOf host line.kind

pub no_item : {X : Type 0} (x : X) → Contains [] x → ⊥
no_item x one_of = omega (arith, one_of.1)

pub only_item : {X : Type 0} (x y : X) → Contains (x ∷ []) y → x ≡ y
only_item x y one_of = elim (Contains-push_cases [] x y one_of) [ inl none ↦ absurd (no_item y none) | inr same ↦ same ]

later : (number : ℕ) (host : List ℕ) (line : DriveLine) (lines : List DriveLine) (drive : DriveNo) → IsAt (number + 1) host lines drive → IsAt number host (line ∷ lines) drive
later number host line lines drive is = record { place = suc is.place; is = omega (arith, is.is); line = is.line; at = is.at; own = is.own }

-- the front of the numbers, by whether the first line's drive is the host's own
abbrev own_front : ℕ → Bool → List DriveNo → List DriveNo
own_front number own rest = cond own (record { 0 = number } ∷ rest) rest

in_front : (number : ℕ) (host : List ℕ) (line : DriveLine) (lines : List DriveLine) (drive : DriveNo) (rest : List DriveNo) → (Contains rest drive → IsAt (number + 1) host lines drive)
    → (own : Bool) → is_own host line.kind ≡ own → Contains (own_front number own rest) drive → IsAt number host (line ∷ lines) drive
in_front number host line lines drive rest behind true so one_of = elim (Contains-append_cases (record { 0 = number } ∷ []) rest drive one_of) [
  | inl first ↦ let same = only_item (record { 0 = number }) drive first in
      record { place = 0; is = sym (ap (λ (d : DriveNo). d.0) same) ∙ omega arith; line = line; at = refl; own = owned host line.kind so }
  | inr more ↦ later number host line lines drive (behind more)
]
in_front number host line lines drive rest behind false so one_of = later number host line lines drive (behind one_of)

own_in : (number : ℕ) (host : List ℕ) (lines : List DriveLine) (drive : DriveNo) → Contains (own_from number host lines) drive → IsAt number host lines drive
own_in number host [] drive one_of = absurd (no_item drive one_of)
own_in number host (line ∷ lines) drive one_of = in_front number host line lines drive (own_from (number + 1) host lines) (own_in (number + 1) host lines drive) (is_own host line.kind) refl one_of

front_first : (number : ℕ) (own : Bool) (rest : List DriveNo) (drive : DriveNo) → own ≡ true → drive.0 ≡ number → Contains (own_front number own rest) drive
front_first number true rest drive so is =
    let drives : (record { 0 = number }) ≡ drive = λ i. record { 0 = (sym is) i } in
    subst (Contains (record { 0 = number } ∷ rest)) drives (Contains-append_left (record { 0 = number } ∷ []) rest (record { 0 = number }) (Contains-push [] (record { 0 = number })))
front_first number false rest drive so is = absurd (cc (so))

front_more : (number : ℕ) (own : Bool) (rest : List DriveNo) (drive : DriveNo) → Contains rest drive → Contains (own_front number own rest) drive
front_more number true rest drive one_of = Contains-append_right (record { 0 = number } ∷ []) rest drive one_of
front_more number false rest drive one_of = one_of

own_has : (number : ℕ) (host : List ℕ) (lines : List DriveLine) (place : ℕ) (line : DriveLine) (drive : DriveNo) → slice_get lines place ≡ Some line → IsOf host line.kind → drive.0 ≡ number + place → Contains (own_from number host lines) drive
own_has number host [] place line drive at own is = absurd (cc (at))
own_has number host (first ∷ lines) zero line drive at own is =
    let same : first ≡ line = cc (at) in
    front_first number (is_own host first.kind) (own_from (number + 1) host lines) drive (of_host host first.kind (subst (λ (d : DriveLine). IsOf host d.kind) (sym same) own)) (omega (arith, is))
own_has number host (first ∷ lines) (suc place) line drive at own is =
    front_more number (is_own host first.kind) (own_from (number + 1) host lines) drive (own_has (number + 1) host lines place line drive at own (omega (arith, is)))

-- they ascend, so each is there once
at_contains : {X : Type 0} (xs : List X) (k : ℕ) (x : X) → slice_get xs k ≡ Some x → Contains xs x
at_contains xs k x at = (k, slice_get_within xs k x at, get_or_from_slice_get xs k x x at)

abbrev IsOnce : List DriveNo → Type 0
IsOnce drives = (j k : ℕ) (drive : DriveNo) → slice_get drives j ≡ Some drive → slice_get drives k ≡ Some drive → j ≡ k

once_more : (first : DriveNo) (drives : List DriveNo) → ((drive : DriveNo) → Contains drives drive → first.0 < drive.0) → IsOnce drives → IsOnce (first ∷ drives)
once_more first drives above once zero zero drive one two = refl
once_more first drives above once zero (suc k) drive one two =
    let same : first ≡ drive = cc (one) in
    let less = above drive (at_contains drives k drive two) in
    absurd (omega (arith, less, ap (λ (d : DriveNo). d.0) same))
once_more first drives above once (suc j) zero drive one two =
    let same : first ≡ drive = cc (two) in
    let less = above drive (at_contains drives j drive one) in
    absurd (omega (arith, less, ap (λ (d : DriveNo). d.0) same))
once_more first drives above once (suc j) (suc k) drive one two = ap suc (once j k drive one two)

front_once : (number : ℕ) (own : Bool) (rest : List DriveNo) → ((drive : DriveNo) → Contains rest drive → number < drive.0) → IsOnce rest → IsOnce (own_front number own rest)
front_once number true rest above once = once_more (record { 0 = number }) rest above once
front_once number false rest above once = once

own_once : (number : ℕ) (host : List ℕ) (lines : List DriveLine) → IsOnce (own_from number host lines)
own_once number host [] = λ j k drive one two. absurd (cc (one))
own_once number host (line ∷ lines) = front_once number (is_own host line.kind) (own_from (number + 1) host lines)
    (λ drive one_of. (let is = (own_in (number + 1) host lines drive one_of).is in omega (arith, is))) (own_once (number + 1) host lines)

own_is : (table : Geometry) (host : List ℕ) (drive : DriveNo) → Contains (own_drives table host) drive → IsOwnDrive table host drive
own_is table host drive one_of =
    let is = own_in 0 host table.drives drive one_of in
    let same : is.place ≡ drive.0 = omega (arith, is.is) in
    record { line = is.line; place = subst (λ (n : ℕ). slice_get table.drives n ≡ Some is.line) same is.at; name = is.own.name; own = is.own.own }

is_own_drive : (table : Geometry) (host : List ℕ) (drive : DriveNo) → IsOwnDrive table host drive → Contains (own_drives table host) drive
is_own_drive table host drive is = own_has 0 host table.drives drive.0 is.line drive is.place (record { name = is.name; own = is.own }) (omega arith)

-- the size of a drive of the table
pub size_at : (table : Geometry) (n : ℕ) (line : DriveLine) → slice_get table.drives n ≡ Some line → slice_get (sizes_of table) n ≡ Some line.blocks
size_at table n line place = slice_get-map (λ (l : DriveLine). l.blocks) table.drives n ∙ ap (option_map (λ (l : DriveLine). l.blocks)) place

drive_there : (table : Geometry) → IsRead table → (n : ℕ) (line : DriveLine) → slice_get table.drives n ≡ Some line → InDrive (sizes_of table) n 0 1
drive_there table read n line place =
    let size = size_at table n line place in
    let is = get_or_from_slice_get (sizes_of table) n line.blocks 0 size in
    record { known = slice_get_within (sizes_of table) n line.blocks size; some = omega arith; within = omega (arith, is, (drive_at table read n line place).least, least_some line.kind) }

pub own_lie : (text : List ℕ) (table : Geometry) (host : List ℕ) → IsTable text table → AreDrives (sizes_of table) (own_drives table host)
own_lie text table host is =
    let read = read_table text table is in
    record {
      few = omega (arith, length-map table.drives (λ (l : DriveLine). l.blocks), read.few);
      each = λ drive one_of. (let own = own_is table host drive one_of in drive_there table read drive.0 own.line own.place);
      once = own_once 0 host table.drives;
    }

-- a drive is one host's own
pub one_owner : (table : Geometry) (host other : List ℕ) (drive : DriveNo) → Contains (own_drives table host) drive → Contains (own_drives table other) drive → host ≡ other
one_owner table host other drive first second =
    let one = own_is table host drive first in
    let two = own_is table other drive second in
    let lines = one_at table.drives drive.0 one.line two.line one.place two.place in
    let kinds : Own one.name host ≡ Own two.name other = sym one.own ∙ ap (λ (l : DriveLine). l.kind) lines ∙ two.own in
    cc (kinds)

pub drives_are_own : OwnDrives
drives_are_own = record {
  own = λ table host drive. (own_is table host drive, is_own_drive table host drive);
  one = one_owner;
  drives = own_lie;
}
