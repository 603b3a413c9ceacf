-- What a map holds that is filled by keys is the list that is filled by them.
use Rattle.std.proofs.Common.{◌≡◌, ◌<◌, ◌≤◌, ◌+◌, ◌^◌, ◌==◌, ℕ, Bool, true, false, cond, refl, sym, ◌∙◌, ap, subst, List, [], ◌∷◌, length, get_or, take, map, inl, inr, arith}
use Rattle.std.proofs.lemmas.Bool.{cases_eq, cases_lt}
use Rattle.std.proofs.lemmas.Bool.Decides.{nat_tests}
use Rattle.std.proofs.lemmas.List.{get_or-map, length-map, take_all}
use Rattle.std.proofs.lemmas.List.Elements.{All-nil, All-cons, All-head, All-tail}
use Rattle.std.proofs.lemmas.List.Sums.{fold_more}
use Rattle.std.proofs.lemmas.Map.Keys.{below_from_sorted}
use Rattle.std.specs.BTreeMap.{BTreeMap, IsOrdered, insert_entry, values}
use Rattle.std.specs.Cmp.{nat_cmp_is}
use Rattle.std.specs.List.Sorted.{IsStrictlySortedBy}
use Rattle.std.specs.Map.{keys_of, values_of}
use Rattle.std.specs.Ordering.{match_ordering, nat_cmp}
use Rattle.std.specs.declared.cmp.Ordering.{Ordering}
use Rattle.std.specs.declared.cmp.Ordering.TheVariants.{Less, Equal, Greater}
use Rattle.std.specs.Prelude.{All, nat_lt}
use Rattle.mdv_plan.specs.Sorted.{IsSorted, with_put}
use Rattle.mdv_whole.specs.Below.{RecordedPool, RecordedSpare, SpareStatus}
use Rattle.mdv_whole.specs.Held.{HasSpares, Holds, by_key}
use Rattle.mdv_whole.specs.Parted.{noted_spare, spare_states, with_spare, with_spares}
use Rattle.mdv_whole.specs.Sides.{spare_key}

-- one state at its place, in the map and in the list
put_entry : (x : SpareStatus) (xs : List SpareStatus) → insert_entry nat_cmp (map by_key xs) (spare_key x) x ≡ map by_key (with_put spare_key x xs)
put_entry x [] = refl
put_entry x (y ∷ ys) =
    let there = insert_entry nat_cmp (map by_key ys) (spare_key x) x in
    let told = λ (o : Ordering). match_ordering o ((spare_key x, x) ∷ by_key y ∷ map by_key ys) ((spare_key y, x) ∷ map by_key ys) (by_key y ∷ there) in
    let put = λ (first same : Bool). map by_key (cond first (x ∷ y ∷ ys) (cond same (x ∷ ys) (y ∷ with_put spare_key x ys))) in
    elim (cases_lt (spare_key x) (spare_key y)) [
      | inl below ↦
          let less : nat_cmp (spare_key x) (spare_key y) ≡ Less = sym (nat_cmp_is (spare_key x) (spare_key y) Less below) in
          let first : nat_lt (spare_key x) (spare_key y) ≡ true = grind (arith, nat_tests) in
          ap told less ∙ sym (ap (λ (b : Bool). put b (spare_key y == spare_key x)) first)
      | inr at_least ↦
          let behind : nat_lt (spare_key x) (spare_key y) ≡ false = grind (arith, nat_tests) in
          elim (cases_eq (spare_key y) (spare_key x)) [
            | inl same ↦
                let equal : nat_cmp (spare_key x) (spare_key y) ≡ Equal = sym (nat_cmp_is (spare_key x) (spare_key y) Equal (sym same)) in
                let here : (spare_key y == spare_key x) ≡ true = grind (arith, nat_tests) in
                ap told equal ∙ ap (λ (k : ℕ). (k, x) ∷ map by_key ys) same ∙ sym (ap (λ (b : Bool). put b (spare_key y == spare_key x)) behind ∙ ap (put false) here)
            | inr other ↦
                let above : spare_key y < spare_key x = grind arith in
                let greater : nat_cmp (spare_key x) (spare_key y) ≡ Greater = sym (nat_cmp_is (spare_key x) (spare_key y) Greater above) in
                let there_not : (spare_key y == spare_key x) ≡ false = grind (arith, nat_tests) in
                ap told greater ∙ ap (λ (l : List (ℕ × SpareStatus)). by_key y ∷ l) (put_entry x ys) ∙ sym (ap (λ (b : Bool). put b (spare_key y == spare_key x)) behind ∙ ap (put false) there_not)
          ]
    ]

All-put : (P : SpareStatus → Type 0) (x : SpareStatus) (xs : List SpareStatus) → P x → All P xs → All P (with_put spare_key x xs)
All-put P x [] one all = All-cons P x [] one (All-nil P)
All-put P x (y ∷ ys) one all =
    let first = All-cons P x (y ∷ ys) one all in
    let instead = All-cons P x ys one (All-tail P y ys all) in
    let later = All-cons P y (with_put spare_key x ys) (All-head P y ys all) (All-put P x ys one (All-tail P y ys all)) in
    elim (nat_lt (spare_key x) (spare_key y)) as (λ b. All P (cond b (x ∷ y ∷ ys) (cond (spare_key y == spare_key x) (x ∷ ys) (y ∷ with_put spare_key x ys)))) [
      | true ↦ first
      | false ↦ elim (spare_key y == spare_key x) as (λ b. All P (cond b (x ∷ ys) (y ∷ with_put spare_key x ys))) [ true ↦ instead | false ↦ later ]
    ]

pub holds_none : (m : BTreeMap ℕ SpareStatus) → m.entries ≡ [] → Holds m []
holds_none m none = record { entries = none; keys = All-nil _ }

pub holds_more : (m n : BTreeMap ℕ SpareStatus) (x : SpareStatus) (k : ℕ) (xs : List SpareStatus) → Holds m xs → k < 2 ^ 32 → k ≡ spare_key x → n.entries ≡ insert_entry nat_cmp m.entries k x → Holds n (with_put spare_key x xs)
holds_more m n x k xs holds low is put = record {
  entries =
      put
      ∙ ap (λ (i : ℕ). insert_entry nat_cmp m.entries i x) is
      ∙ ap (λ (es : List (ℕ × SpareStatus)). insert_entry nat_cmp es (spare_key x) x) holds.entries
      ∙ put_entry x xs;
  keys = All-put (λ s. spare_key s < 2 ^ 32) x xs (subst (λ (i : ℕ). i < 2 ^ 32) is low) holds.keys;
}

-- one spare more of those that come
pub spares_more : (was m n : BTreeMap ℕ SpareStatus) (ss : List RecordedSpare) (i k : ℕ) (d : RecordedSpare) (x : SpareStatus) → i < length ss → x ≡ noted_spare (get_or ss i d) → k < 2 ^ 32 → k ≡ spare_key x → n.entries ≡ insert_entry nat_cmp m.entries k x → HasSpares was (take i ss) m → HasSpares was (take (i + 1) ss) n
spares_more was m n ss i k d x within noted low key put so_far states holds =
    let now = with_spares states (take i ss) in
    let same : with_spares states (take (i + 1) ss) ≡ with_put spare_key x now =
    fold_more with_spare states ss i d within ∙ ap (λ (y : SpareStatus). with_put spare_key y now) (sym noted)
    in
    subst (Holds n) (sym same) (holds_more m n x k now (so_far states holds) low key put)

values_by_key : (xs : List SpareStatus) → values_of (map by_key xs) ≡ xs
values_by_key [] = refl
values_by_key (x ∷ xs) = ap (λ (l : List SpareStatus). x ∷ l) (values_by_key xs)

keys_by_key : (xs : List SpareStatus) → keys_of (map by_key xs) ≡ map spare_key xs
keys_by_key [] = refl
keys_by_key (x ∷ xs) = ap (λ (l : List ℕ). spare_key x ∷ l) (keys_by_key xs)

values_held : (m : BTreeMap ℕ SpareStatus) (xs : List SpareStatus) → Holds m xs → values m ≡ xs
values_held m xs holds = ap values_of holds.entries ∙ values_by_key xs

held_sorted : (m : BTreeMap ℕ SpareStatus) (xs : List SpareStatus) → Holds m xs → IsOrdered nat_cmp m → IsSorted spare_key 4294967296 xs
held_sorted m xs holds ordered =
    let up : IsStrictlySortedBy nat_cmp (map spare_key xs) = subst (IsStrictlySortedBy nat_cmp) (ap keys_of holds.entries ∙ keys_by_key xs) ordered in
    record {
      ascending = λ i j d before within.
          let inside : j < length (map spare_key xs) = omega (arith, within, length-map xs spare_key) in
          let less = below_from_sorted (map spare_key xs) i j 0 up before inside in
          let first = get_or-map spare_key xs i d 0 (omega (arith, before, within)) in
          let second = get_or-map spare_key xs j d 0 within in
          omega (arith, less, first, second);
      keys = holds.keys;
    }

-- the values of a map that has the spares of all pools
module _ (m : BTreeMap ℕ SpareStatus) (ps : List RecordedPool) (i : ℕ) (items : List SpareStatus) (enough : length ps ≤ i) (holds : Holds m (spare_states (take i ps))) (values_are : items ≡ values m) where
  pub all_held : items ≡ spare_states ps
  all_held = values_are ∙ values_held m (spare_states (take i ps)) holds ∙ ap spare_states (take_all i ps enough)

  pub all_sorted : IsOrdered nat_cmp m → IsSorted spare_key 4294967296 items
  all_sorted ordered = subst (IsSorted spare_key 4294967296) (sym (values_are ∙ values_held m (spare_states (take i ps)) holds)) (held_sorted m (spare_states (take i ps)) holds ordered)
