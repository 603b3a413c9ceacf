-- The blocks of a soft partition are those of its extents.
use Rattle.std.proofs.Common.{◌≡◌, inl, inr, ℕ, zero, suc, ◌+◌, ◌-◌, ◌&&◌, ◌<◌, ◌≤◌, true, false, nat_le, nat_lt, List, [], ◌∷◌, ◌++◌, length, take, refl, sym, ◌∙◌, ap, subst, arith, All}
use Rattle.std.specs.List.{slice_index_or}
use Rattle.std.proofs.lemmas.Bool.{cases_Bool, cases_lt, or_parts, or_from, false≢true, false_from_ne_true}
use Rattle.std.proofs.lemmas.Bool.Decides.{nat_tests}
use Rattle.std.proofs.lemmas.List.Elements.{All-cons, All-nil, All-tail}
use Rattle.mdv_map.specs.Maps.{DriveBlock}
use Rattle.mdv_map.proofs.Combining.{soft_partitions_lie}
use Rattle.mdv_soft.specs.Below.{AreDisjoint, HasDriveBlock, IsApart, IsDisjoint, IsExtent, IsPiece, LieApart, Map, Piece, Run, covers, end_of, has, run_map, takes, with_header}
use Rattle.mdv_soft.specs.Softs.{left_in, picked, soft_on, total}
use Rattle.mdv_soft.specs.OneCopy.{lies_as, picked_behind, picked_first, picked_within, room, total-cons}
use Rattle.mdv_soft.specs.Laws.{AreBeside, ExtentsMatch, IsOnlyBlock, PiecesEnd, SoftsStand}
use Rattle.mdv_soft.proofs.Meeting.{in_front, behind}
use Rattle.mdv_soft.proofs.Spots.{left_behind, left_first}

-- blocks of runs, and those with their headers
has_at : (a m k : ℕ) → k < m → (nat_le a (a + k) && nat_lt (a + k) (a + m)) ≡ true
has_at a m k lt = grind (arith, nat_tests)

has_from : (a m k : ℕ) → (nat_le a k && nat_lt k (a + m)) ≡ true → (k - a < m) × (a + (k - a) ≡ k)
has_from a m k is = grind (arith, nat_tests)

also_with : (a m k : ℕ) → (nat_le a k && nat_lt k (a + m)) ≡ true → (nat_le (a - 1) k && nat_lt k (a - 1 + (m + 1))) ≡ true
also_with a m k is = grind (arith, nat_tests)

one_before : (a m k : ℕ) → 0 < a → (nat_le a k && nat_lt k (a + m)) ≡ true → (nat_le (a - 1) (k - 1) && nat_lt (k - 1) (a - 1 + (m + 1))) ≡ true
one_before a m k some is = grind (arith, nat_tests)

header_in : (a m : ℕ) → (nat_le (a - 1) (a - 1) && nat_lt (a - 1) (a - 1 + (m + 1))) ≡ true
header_in a m = grind (arith, nat_tests)

header_before : (a m : ℕ) → 0 < a → (nat_le a (a - 1) && nat_lt (a - 1) (a + m)) ≡ false
header_before a m some = grind (arith, nat_tests)

last_in : (a m : ℕ) → 0 < m → (nat_le (a - 1) (a + m - 1) && nat_lt (a + m - 1) (a - 1 + (m + 1))) ≡ true
last_in a m some = grind (arith, nat_tests)

taken : (extents : List Run) (k : ℕ) → covers extents k ≡ true → takes extents k ≡ true
taken [] k is = is
taken (r ∷ extents) k is = elim (cases_Bool (has r k)) [
  | inl here ↦ in_front (has (with_header r) k) (takes extents k) (also_with r.at r.blocks k here)
  | inr not ↦
      let rest : covers extents k ≡ true = (rw not at is) in behind (has (with_header r) k) (takes extents k) (taken extents k rest)
]

not_covered : (extents : List Run) (k : ℕ) → takes extents k ≡ false → covers extents k ≡ false
not_covered extents k none = false_from_ne_true (covers extents k) (λ is. false≢true (sym none ∙ taken extents k is))

covered : (extents : List Run) (b : ℕ) → b < total extents → covers extents (picked extents b) ≡ true
covered [] b lt = absurd (omega arith)
covered (r ∷ extents) b lt = elim (cases_lt b r.blocks) [
  | inl below ↦ subst (λ (k : ℕ). covers (r ∷ extents) k ≡ true) (sym (picked_first r extents b below)) (in_front (has r (r.at + b)) (covers extents (r.at + b)) (has_at r.at r.blocks b below))
  | inr le ↦
      let there = covered extents (b - r.blocks) (omega (arith, total-cons r extents)) in
      subst (λ (k : ℕ). covers (r ∷ extents) k ≡ true) (sym (picked_behind r extents b le)) (behind (has r (picked extents (b - r.blocks))) (covers extents (picked extents (b - r.blocks))) there)
]

-- a block of an extent is none of those behind it
not_both : (r : Run) (extents : List Run) (k : ℕ) → IsApart (r ∷ extents) → has r k ≡ true → covers extents k ≡ true → ⊥
not_both r extents k apart here there = false≢true (sym (apart.0 k (also_with r.at r.blocks k here)) ∙ taken extents k there)

first_not_behind : (r : Run) (extents : List Run) (a b : ℕ) → IsApart (r ∷ extents) → a < r.blocks → r.blocks ≤ b → b < total (r ∷ extents) → picked (r ∷ extents) a ≡ picked (r ∷ extents) b → ⊥
first_not_behind r extents a b apart below le lt same =
    let there = covered extents (b - r.blocks) (omega (arith, total-cons r extents)) in
    let moved : picked extents (b - r.blocks) ≡ r.at + a = sym (picked_behind r extents b le) ∙ sym same ∙ picked_first r extents a below in
    not_both r extents (r.at + a) apart (has_at r.at r.blocks a below) (subst (λ (k : ℕ). covers extents k ≡ true) moved there)

one_to_one : (extents : List Run) (a b : ℕ) → IsApart extents → a < total extents → b < total extents → picked extents a ≡ picked extents b → a ≡ b
one_to_one [] a b apart below lt same = absurd (omega arith)
one_to_one (r ∷ extents) a b apart below lt same = elim (cases_lt a r.blocks) [
  | inl a_first ↦ elim (cases_lt b r.blocks) [
    | inl b_first ↦ omega (arith, picked_first r extents a a_first, picked_first r extents b b_first)
    | inr b_behind ↦ absurd (first_not_behind r extents a b apart a_first b_behind lt same)
  ]
  | inr a_behind ↦ elim (cases_lt b r.blocks) [
    | inl b_first ↦ absurd (first_not_behind r extents b a apart b_first a_behind below (sym same))
    | inr b_behind ↦
        let rest : picked extents (a - r.blocks) ≡ picked extents (b - r.blocks) = sym (picked_behind r extents a a_behind) ∙ same ∙ picked_behind r extents b b_behind in
        omega (arith, one_to_one extents (a - r.blocks) (b - r.blocks) apart.1 (omega (arith, total-cons r extents)) (omega (arith, total-cons r extents)) rest)
  ]
]

found : (extents : List Run) (at : ℕ) → covers extents at ≡ true → (b : ℕ) × (b < total extents) × (picked extents b ≡ at)
found [] at is = absurd (false≢true is)
found (r ∷ extents) at is = elim (cases_Bool (has r at)) [
  | inl here ↦
      let inside = has_from r.at r.blocks at here in
      (at - r.at, omega (arith, inside.0, total-cons r extents), picked_first r extents (at - r.at) inside.0 ∙ inside.1)
  | inr not ↦
      let rest : covers extents at ≡ true = (rw not at is) in
      let there = found extents at rest in
      let same : r.blocks + there.0 - r.blocks ≡ there.0 = omega arith in
      (r.blocks + there.0, omega (arith, there.1, total-cons r extents), picked_behind r extents (r.blocks + there.0) (omega arith) ∙ ap (picked extents) same ∙ there.2)
]

each : (blocks : ℕ) (extents : List Run) (at : ℕ) → LieApart blocks extents → covers extents at ≡ true → (b : ℕ) × IsOnlyBlock extents at b
each blocks extents at lie is =
    let there = found extents at is in (
      there.0,
      record {
        below = there.1;
        is = there.2;
        only = λ a lt same. one_to_one extents a there.0 lie.apart lt there.1 (same ∙ sym there.2);
      },
    )

follows : (extents : List Run) (i o : ℕ) (r : Run) → i < length extents → slice_index_or extents i r ≡ r → o < r.blocks → picked extents (total (take i extents) + o) ≡ r.at + o
follows [] i o r lt is below = absurd (omega arith)
follows (s ∷ extents) zero o r lt is below =
    let first : 0 + o ≡ o = omega arith in
    ap (picked (s ∷ extents)) first ∙ subst (λ (t : Run). picked (s ∷ extents) o ≡ t.at + o) is (picked_first s extents o (subst (λ (t : Run). o < t.blocks) (sym is) below))
follows (s ∷ extents) (suc i) o r lt is below =
    let before = total-cons s (take i extents) in
    let same : total (s ∷ take i extents) + o - s.blocks ≡ total (take i extents) + o = omega arith in
    picked_behind s extents (total (s ∷ take i extents) + o) (omega arith) ∙ ap (picked extents) same ∙ follows extents i o r (omega arith) is below

-- headers
abbrev HeaderTaken : List Run → Run → Type 0
HeaderTaken extents r = takes extents (r.at - 1) ≡ true

abbrev HeaderLeft : List Run → Run → Type 0
HeaderLeft extents r = covers extents (r.at - 1) ≡ false

taken_more : (r : Run) (extents : List Run) → All (HeaderTaken extents) extents → All (HeaderTaken (r ∷ extents)) extents
taken_more r extents all k d lt = behind (has (with_header r) ((slice_index_or extents k d).at - 1)) (takes extents ((slice_index_or extents k d).at - 1)) (all k d lt)

headers_taken : (extents : List Run) → All (HeaderTaken extents) extents
headers_taken [] = All-nil (HeaderTaken [])
headers_taken (r ∷ extents) = All-cons (HeaderTaken (r ∷ extents)) r extents (in_front (has (with_header r) (r.at - 1)) (takes extents (r.at - 1)) (header_in r.at r.blocks)) (taken_more r extents (headers_taken extents))

own_left : (n : ℕ) (r : Run) (extents : List Run) → IsExtent n r → IsApart (r ∷ extents) → HeaderLeft (r ∷ extents) r
own_left n r extents extent apart = or_from (has r (r.at - 1)) (covers extents (r.at - 1)) (header_before r.at r.blocks extent.header) (not_covered extents (r.at - 1) (apart.0 (r.at - 1) (header_in r.at r.blocks)))

left_more : (r : Run) (extents : List Run) → IsApart (r ∷ extents) → All (HeaderLeft extents) extents → All (HeaderLeft (r ∷ extents)) extents
left_more r extents apart all k d lt = or_from (has r at) (covers extents at) away (all k d lt)
  where
    at : ℕ
    at = (slice_index_or extents k d).at - 1

    away : has r at ≡ false
    away = false_from_ne_true (has r at) (λ here. false≢true (sym (apart.0 at (also_with r.at r.blocks at here)) ∙ headers_taken extents k d lt))

headers_left : (n : ℕ) (extents : List Run) → All (IsExtent n) extents → IsApart extents → All (HeaderLeft extents) extents
headers_left n [] lie apart = All-nil (HeaderLeft [])
headers_left n (r ∷ extents) lie apart = All-cons (HeaderLeft (r ∷ extents)) r extents (own_left n r extents (lie 0 r (omega arith)) apart) (left_more r extents apart (headers_left n extents (All-tail (IsExtent n) r extents lie) apart.1))

-- two lists of extents that lie apart
takes-front : (xs ys : List Run) (k : ℕ) → takes (xs ++ ys) k ≡ false → takes xs k ≡ false
takes-front [] ys k none = refl
takes-front (r ∷ xs) ys k none =
    let parts = or_parts (has (with_header r) k) (takes (xs ++ ys) k) none in or_from (has (with_header r) k) (takes xs k) parts.0 (takes-front xs ys k parts.1)

takes-back : (xs ys : List Run) (k : ℕ) → takes (xs ++ ys) k ≡ false → takes ys k ≡ false
takes-back [] ys k none = none
takes-back (r ∷ xs) ys k none = takes-back xs ys k (or_parts (has (with_header r) k) (takes (xs ++ ys) k) none).1

front_apart : (xs ys : List Run) → IsApart (xs ++ ys) → IsApart xs
front_apart [] ys apart = tt
front_apart (r ∷ xs) ys apart = (λ k here. takes-front xs ys k (apart.0 k here), front_apart xs ys apart.1)

back_apart : (xs ys : List Run) → IsApart (xs ++ ys) → IsApart ys
back_apart [] ys apart = apart
back_apart (r ∷ xs) ys apart = back_apart xs ys apart.1

are_beside : (xs ys : List Run) → IsApart (xs ++ ys) → AreBeside xs ys
are_beside [] ys apart k is = absurd (false≢true is)
are_beside (r ∷ xs) ys apart k is = elim (cases_Bool (has (with_header r) k)) [
  | inl here ↦ takes-back xs ys k (apart.0 k here)
  | inr not ↦
      let rest : takes xs k ≡ true = (rw not at is) in are_beside xs ys apart.1 k rest
]

front_lies : (n : ℕ) (xs ys : List Run) → All (IsExtent n) (xs ++ ys) → All (IsExtent n) xs
front_lies n [] ys lie = All-nil (IsExtent n)
front_lies n (r ∷ xs) ys lie = All-cons (IsExtent n) r xs (lie 0 r (omega arith)) (front_lies n xs ys (All-tail (IsExtent n) r (xs ++ ys) lie))

back_lies : (n : ℕ) (xs ys : List Run) → All (IsExtent n) (xs ++ ys) → All (IsExtent n) ys
back_lies n [] ys lie = lie
back_lies n (r ∷ xs) ys lie = back_lies n xs ys (All-tail (IsExtent n) r (xs ++ ys) lie)

listed : (blocks : ℕ) (one other : List Run) → LieApart blocks (one ++ other) → LieApart blocks one × LieApart blocks other × AreBeside one other
listed blocks one other lie = (
  record { lie = front_lies blocks one other lie.lie; apart = front_apart one other lie.apart },
  record { lie = back_lies blocks one other lie.lie; apart = back_apart one other lie.apart },
  are_beside one other lie.apart,
)

others_left : (one other : List Run) → AreBeside one other → All (HeaderLeft one) other
others_left one other not_both k d lt =
    let at = (slice_index_or other k d).at - 1 in
    false_from_ne_true (covers one at) (λ is. false≢true (sym (not_both at (taken one at is)) ∙ headers_taken other k d lt))

pub extents_match : ExtentsMatch
extents_match = record {
  follows = follows;
  room = room;
  covered = covered;
  lies = lies_as;
  each = each;
  headers = λ blocks extents lie. headers_left blocks extents lie.lie lie.apart;
  others = others_left;
  listed = listed;
}

-- on the drives
within : (v : Map) (extents : List Run) → LieApart v.blocks extents → (b : ℕ) → b < total extents → picked extents b < v.blocks
within v extents lie b lt = picked_within v.blocks extents b lie.lie lt

others : (v : Map) (extents : List Run) (at : ℕ) → LieApart v.blocks extents → IsDisjoint v → at < v.blocks → covers extents at ≡ false
    → (b drive block : ℕ) → b < total extents → HasDriveBlock ((soft_on v extents).places b) drive block → HasDriveBlock (v.places at) drive block → ⊥
others v extents at lie apart listed none b drive block lt in_b in_at =
    let same = apart.apart (picked extents b) at drive block (within v extents lie b lt) listed in_b in_at in
    false≢true (sym none ∙ subst (λ (k : ℕ). covers extents k ≡ true) same (covered extents b lt))

beside : (v : Map) (one other : List Run) → LieApart v.blocks one → LieApart v.blocks other → AreBeside one other → IsDisjoint v → AreDisjoint (soft_on v one) (soft_on v other)
beside v one other lie_one lie_other not_both apart a b drive block below above in_a in_b =
    let same = apart.apart (picked one a) (picked other b) drive block (within v one lie_one a below) (within v other lie_other b above) in_a in_b in
    let in_one = subst (λ (k : ℕ). takes one k ≡ true) same (taken one (picked one a) (covered one a below)) in
    false≢true (sym (not_both (picked other b) in_one) ∙ taken other (picked other b) (covered other b above))

pub softs_stand : SoftsStand
softs_stand = record {
  on = λ sizes v extents lie on b drive block lt has. on (picked extents b) drive block (within v extents lie b lt) has;
  disjoint = λ v extents lie apart. soft_partitions_lie.disjoint (picked extents) (total extents) v (within v extents lie) (λ a b below lt same. one_to_one extents a b lie.apart below lt same) apart;
  apart = λ v extents u lie apart a b drive block below above in_a in_b. apart (picked extents a) b drive block (within v extents lie a below) above in_a in_b;
  others = others;
  beside = beside;
}

-- behind an extent's last block
taken_before : (n : ℕ) (extents : List Run) (k : ℕ) → All (IsExtent n) extents → covers extents k ≡ true → takes extents (k - 1) ≡ true
taken_before n [] k lie is = is
taken_before n (r ∷ extents) k lie is = elim (cases_Bool (has r k)) [
  | inl here ↦
      let extent : IsExtent n r = lie 0 r (omega arith) in
      in_front (has (with_header r) (k - 1)) (takes extents (k - 1)) (one_before r.at r.blocks k extent.header here)
  | inr not ↦
      let rest : covers extents k ≡ true = (rw not at is) in
      behind (has (with_header r) (k - 1)) (takes extents (k - 1)) (taken_before n extents k (All-tail (IsExtent n) r extents lie) rest)
]

gap : (n : ℕ) (extents : List Run) (b : ℕ) → All (IsExtent n) extents → IsApart extents → b + left_in extents b < total extents → picked extents (b + left_in extents b) ≡ picked extents b + left_in extents b → ⊥
gap n [] b lie apart lt same = absurd (omega arith)
gap n (r ∷ extents) b lie apart lt same = elim (cases_lt b r.blocks) [
  | inl below ↦
      let extent : IsExtent n r = lie 0 r (omega arith) in
      let rest = All-tail (IsExtent n) r extents lie in
      let left = left_first r extents b below in
      let next : b + left_in (r ∷ extents) b ≡ r.blocks = omega arith in
      let zeroth : r.blocks - r.blocks ≡ 0 = omega arith in
      let end : picked extents 0 ≡ end_of r =
      ap (picked extents) (sym zeroth) ∙ sym (picked_behind r extents r.blocks (omega arith)) ∙ ap (picked (r ∷ extents)) (sym next) ∙ same ∙ omega (arith, picked_first r extents b below) in
      let there = subst (λ (k : ℕ). covers extents k ≡ true) end (covered extents 0 (omega (arith, total-cons r extents))) in
      false≢true (sym (apart.0 (end_of r - 1) (last_in r.at r.blocks extent.whole)) ∙ taken_before n extents (end_of r) rest there)
  | inr le ↦
      let left = left_behind r extents b le in
      let next : b + left_in (r ∷ extents) b - r.blocks ≡ b - r.blocks + left_in extents (b - r.blocks) = omega arith in
      let here = picked_behind r extents (b + left_in (r ∷ extents) b) (omega arith) ∙ ap (picked extents) next in
      gap n extents (b - r.blocks) (All-tail (IsExtent n) r extents lie) apart.1 (omega (arith, total-cons r extents)) (sym here ∙ same ∙ omega (arith, picked_behind r extents b le))
]

abbrev block_of : List DriveBlock → ℕ
block_of [] = 0
block_of (s ∷ ss) = s.block

on_run : (drive first count : ℕ) (extents : List Run) (at some : ℕ) (piece : Piece) → LieApart count extents → at + some ≤ total extents
    → IsPiece (soft_on (run_map drive first count) extents) at some piece → piece.count ≤ left_in extents at
on_run drive first count extents at some piece lie inside is = elim (cases_lt (left_in extents at) piece.count) [
  | inr le ↦ le
  | inl more ↦
      let few = is.within in
      let here : first + picked extents (at + 0) ≡ piece.block + 0 = ap block_of (is.lies 0 (omega arith)).copies in
      let there : first + picked extents (at + left_in extents at) ≡ piece.block + left_in extents at = ap block_of (is.lies (left_in extents at) more).copies in
      let zeroth : picked extents (at + 0) ≡ picked extents at = ap (picked extents) (omega arith) in
      absurd (gap count extents at lie.lie lie.apart (omega arith) (omega (arith, here, there, zeroth)))
]

pub pieces_end : PiecesEnd
pieces_end = record {
  gap = λ blocks extents b lie lt same. gap blocks extents b lie.lie lie.apart lt same;
  on_run = on_run;
}
