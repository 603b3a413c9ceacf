-- Which components lie on spares that go, by a set of their numbers.
use Rattle.std.proofs.Common.{◌≡◌, ◌<◌, ◌==◌, ◌&&◌, ℕ, Bool, true, false, not, refl, ◌∙◌, ap, List, [], length, get_or, arith}
use Rattle.std.proofs.lemmas.Bool.Decides.{nat_tests}
use Rattle.std.proofs.lemmas.List.{nil_from_length}
use Rattle.std.specs.BTreeSet.{BTreeSet}
use Rattle.std.specs.List.{All, list_any}
use Rattle.mdv_keys.proofs.Any.{any_never, any_same}
use Rattle.mdv_keys.specs.Marks.{AreMarked}
use Rattle.mdv_change.specs.Below.{PartStatus, VolId, VolumeStatus, slice_code}
use Rattle.mdv_change.specs.Clear.{is_among, is_left_on, is_named, lies_on, part_spare, parts_of}
use Rattle.mdv_change.specs.Seats.{AreKeys, is_in, is_left_by, lies_by}

lies_is : (set : BTreeSet ℕ) (keys : List ℕ) (part : PartStatus) → AreKeys set keys → lies_by set part ≡ lies_on keys part
lies_is set keys part are = any_same (is_in set) (is_among keys) (part_spare part) (λ i d within. are (slice_code (get_or (part_spare part) i d)))

left_by_is : (volumes : List VolId) (keys : List ℕ) (named : List Bool) (set : BTreeSet ℕ) (s : VolumeStatus) → s.number.0 < 8192 → AreMarked named volumes → AreKeys set keys → is_left_by named set s ≡ is_left_on volumes keys s
left_by_is volumes keys named set s small marked are =
    let parts = parts_of s.kind in
    ap (λ (b : Bool). not b && list_any (lies_by set) parts) (marked.marked s.number.0 small)
    ∙ ap (λ (b : Bool). not (is_named volumes s.number) && b) (any_same (lies_by set) (lies_on keys) parts (λ i d within. lies_is set keys (get_or parts i d) are))

pub left_is : (volumes : List VolId) (keys : List ℕ) (named : List Bool) (set : BTreeSet ℕ) (states : List VolumeStatus) → All (λ s. s.number.0 < 8192) states → AreMarked named volumes → AreKeys set keys → list_any (is_left_by named set) states ≡ list_any (is_left_on volumes keys) states
left_is volumes keys named set states small marked are =
    any_same (is_left_by named set) (is_left_on volumes keys) states (λ i d within. left_by_is volumes keys named set (get_or states i d) (small i d within) marked are)

-- where no spare goes
never : (b : Bool) → (b && false) ≡ false
never true = refl
never false = refl

lies_on_none : (part : PartStatus) → lies_on [] part ≡ false
lies_on_none part = any_never (part_spare part)

left_on_none : (volumes : List VolId) (s : VolumeStatus) → is_left_on volumes [] s ≡ false
left_on_none volumes s =
    let parts = parts_of s.kind in
    ap (λ (b : Bool). not (is_named volumes s.number) && b) (any_same (lies_on []) (λ part. false) parts (λ i d within. lies_on_none (get_or parts i d)) ∙ any_never parts)
    ∙ never (not (is_named volumes s.number))

pub none_left : (volumes : List VolId) (keys : List ℕ) (states : List VolumeStatus) → (length keys == 0) ≡ true → list_any (is_left_on volumes keys) states ≡ false
none_left volumes keys states none =
    let zero : length keys ≡ 0 = grind (arith, nat_tests) in
    ap (λ (ks : List ℕ). list_any (is_left_on volumes ks) states) (nil_from_length keys zero)
    ∙ any_same (is_left_on volumes []) (λ s. false) states (λ i d within. left_on_none volumes (get_or states i d))
    ∙ any_never states
