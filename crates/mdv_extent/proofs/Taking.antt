-- What stays used and what is free once extents are given out.
use Rattle.std.proofs.Common.{◌≡◌, ◌≤◌, ◌<◌, ◌&&◌, ◌||◌, ℕ, Bool, true, false, not, ltb, List, [], ◌∷◌, ◌++◌, length, map, refl, sym, ◌∙◌, ap, arith, All, Ok}
use Rattle.std.proofs.lemmas.List.Elements.{All-cons, All-tail, All-nil, All-append}
use Rattle.std.proofs.lemmas.Bool.{or_parts, or_from, and_parts, not-true, false≢true, false_from_ne_true}
use Rattle.mdv_extent.specs.declared.run.Run.{Run}
use Rattle.mdv_extent.specs.Runs.{end_of, has, covers, takes, with_header, IsInOrder}
use Rattle.mdv_extent.specs.Free.{free_of}
use Rattle.mdv_extent.specs.Share.{allotted}
use Rattle.mdv_extent.specs.Extents.{IsApart, IsExtent, LieApart, IsAllotment}
use Rattle.mdv_extent.specs.Laws.{IsTaken}
use Rattle.mdv_extent.proofs.Covering.{covers-free_of}
use Rattle.mdv_extent.proofs.Spreading.{has_none_before, has_parts, free_of_is_free, order_of_free}
use Rattle.mdv_extent.proofs.Allotting.{IsWhole, allotted_lie_free}

none_before_order : (low high k : ℕ) (runs : List Run) → IsInOrder low high runs → k < low → covers runs k ≡ false
none_before_order low high k [] order lt = refl
none_before_order low high k (r ∷ runs) order lt = or_from (has r k) (covers runs k) (has_none_before r k (omega (arith, order.0))) (none_before_order (end_of r) high k runs order.1 (omega (arith, order.0)))

pub apart_in_order : (low high : ℕ) (extents : List Run) → IsInOrder low high (map with_header extents) → IsApart extents
apart_in_order low high [] order = tt
apart_in_order low high (r ∷ extents) order =
    (λ k is. none_before_order (end_of (with_header r)) high k (map with_header extents) order.1 (has_parts (with_header r) k is).1, apart_in_order (end_of (with_header r)) high extents order.1)

ends_in_order : (low high : ℕ) (runs : List Run) → IsInOrder low high runs → low ≤ high
ends_in_order low high [] order = order
ends_in_order low high (s ∷ runs) order = omega (arith, order.0, ends_in_order (end_of s) high runs order.1)

lie_in_order : (low high : ℕ) (extents : List Run) → All IsWhole extents → IsInOrder low high (map with_header extents) → All (IsExtent high) extents
lie_in_order low high [] whole order = All-nil (IsExtent high)
lie_in_order low high (r ∷ extents) whole order =
    let first = whole 0 r (omega arith) in
    let within = ends_in_order (end_of (with_header r)) high (map with_header extents) order.1 in
    All-cons (IsExtent high) r extents (record { header = first.0; whole = first.1; within = omega (arith, first.0, within) })
    (lie_in_order (end_of (with_header r)) high extents (All-tail IsWhole r extents whole) order.1)

pub takes-append : (xs ys : List Run) (k : ℕ) → takes (xs ++ ys) k ≡ (takes xs k || takes ys k)
takes-append [] ys k = refl
takes-append (r ∷ xs) ys k = ap (λ (b : Bool). has (with_header r) k || b) (takes-append xs ys k) ∙ assoc (has (with_header r) k) (takes xs k) (takes ys k)
  where
    assoc : (a b c : Bool) → (a || (b || c)) ≡ ((a || b) || c)
    assoc true b c = refl
    assoc false b c = refl

apart-append : (xs ys : List Run) → IsApart xs → IsApart ys → ((k : ℕ) → takes ys k ≡ true → takes xs k ≡ false) → IsApart (xs ++ ys)
apart-append [] ys in_xs in_ys between = in_ys
apart-append (r ∷ xs) ys in_xs in_ys between =
    let behind : (k : ℕ) → takes ys k ≡ true → takes xs k ≡ false = λ k is. (or_parts (has (with_header r) k) (takes xs k) (between k is)).1 in (
      λ k is. takes-append xs ys k ∙ or_from (takes xs k) (takes ys k) (in_xs.0 k is) (false_from_ne_true (takes ys k) (λ taken. false≢true (sym (or_parts (has (with_header r) k) (takes xs k) (between k taken)).0 ∙ is))),
      apart-append xs ys in_xs.1 in_ys behind,
    )

less_taken : (a u t : Bool) → (a && not (u || t)) ≡ ((a && not u) && not t)
less_taken true true t = refl
less_taken true false t = refl
less_taken false u t = refl

-- extents of the base that have no block that was used are taken, and all others stay
pub taken_where_apart : (blocks : ℕ) (used taken : List Run) → length taken ≤ 16 → LieApart blocks taken → ((k : ℕ) → takes taken k ≡ true → takes used k ≡ false) → IsTaken blocks used taken
taken_where_apart blocks used taken few on_base unused = record {
  extents = record { few = few; on_base = on_base };
  unused = unused;
  together = λ before. record { lie = All-append (IsExtent blocks) used taken before.lie on_base.lie; apart = apart-append used taken before.apart on_base.apart unused };
  rest = λ k. covers-free_of blocks (used ++ taken) k ∙ ap (λ (b : Bool). ltb k blocks && not b) (takes-append used taken k) ∙ less_taken (ltb k blocks) (takes used k) (takes taken k) ∙ ap (λ (b : Bool). b && not (takes taken k)) (sym (covers-free_of blocks used k));
}

pub taken_from_free : (blocks need : ℕ) (used taken : List Run) → 1 ≤ need → allotted (free_of blocks used) need ≡ Ok taken → IsTaken blocks used taken
taken_from_free blocks need used taken some is =
    let lies : IsAllotment 0 blocks (free_of blocks used) need taken =
    allotted_lie_free 0 blocks need (free_of blocks used) taken (order_of_free blocks blocks used (free_of blocks used) (free_of_is_free blocks used) (omega arith)) some is in
    taken_where_apart blocks used taken lies.few
    (record { lie = lie_in_order 0 blocks taken lies.whole lies.order; apart = apart_in_order 0 blocks taken lies.order })
    (λ k on. not-true (takes used k) (and_parts (ltb k blocks) (not (takes used k)) (sym (covers-free_of blocks used k) ∙ lies.free_before k on)).1)

-- those behind others that all lie apart
all_behind : (blocks : ℕ) (xs ys : List Run) → All (IsExtent blocks) (xs ++ ys) → All (IsExtent blocks) ys
all_behind blocks [] ys lie = lie
all_behind blocks (r ∷ xs) ys lie = all_behind blocks xs ys (All-tail (IsExtent blocks) r (xs ++ ys) lie)

apart_behind : (xs ys : List Run) → IsApart (xs ++ ys) → IsApart ys
apart_behind [] ys apart = apart
apart_behind (r ∷ xs) ys apart = apart_behind xs ys apart.1

none_before_them : (xs ys : List Run) (k : ℕ) → IsApart (xs ++ ys) → takes ys k ≡ true → takes xs k ≡ false
none_before_them [] ys k apart is = refl
none_before_them (r ∷ xs) ys k apart is =
    let away : has (with_header r) k ≡ false = false_from_ne_true (has (with_header r) k) (λ here. false≢true (sym (or_parts (takes xs k) (takes ys k) (sym (takes-append xs ys k) ∙ apart.0 k here)).1 ∙ is)) in
    or_from (has (with_header r) k) (takes xs k) away (none_before_them xs ys k apart.1 is)

pub given_are_taken : (blocks : ℕ) (used given : List Run) → length given ≤ 16 → LieApart blocks (used ++ given) → IsTaken blocks used given
given_are_taken blocks used given few lie =
    taken_where_apart blocks used given few (record { lie = all_behind blocks used given lie.lie; apart = apart_behind used given lie.apart }) (λ k is. none_before_them used given k lie.apart is)
