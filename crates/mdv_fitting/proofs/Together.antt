-- One use more stands together with those before it exactly where it fits beside them.
use Rattle.std.proofs.Common.{◌≡◌, ◌<◌, ◌==◌, ◌&&◌, ◌++◌, ◌+◌, ℕ, Bool, true, false, not, cond, Option, None, Some, List, [], ◌∷◌, length, get_or, take, refl, sym, ◌∙◌, ap, subst, inl, inr, arith, IsTrue}
use Rattle.std.proofs.lemmas.Bool.{cases_eq, cases_lt}
use Rattle.std.proofs.lemmas.List.{get_or-take, get_or_append_left, get_or_at, get_or_default, length-append, length-take, take_more}
use Rattle.std.proofs.lemmas.List.Folds.{find-append, list_all-append}
use Rattle.std.proofs.lemmas.List.Quantifiers.{all_pairs_push}
use Rattle.std.proofs.lemmas.List.Sums.{AllPass-from_list_all, list_all-from_AllPass}
use Rattle.mdv_fitting.specs.Held.{held}
use Rattle.mdv_fitting.specs.declared.held.Held.{Held}
use Rattle.std.specs.List.{All, find, list_all}
use Rattle.std.specs.Option.{option_map, option_or}
use Rattle.std.specs.Prelude.{◌↔◌, MatchOption, is_some}
use Rattle.mdv_name.proofs.Finding.{same_slice-equal, same_slice-refl}
use Rattle.mdv_plan.specs.Slices.{can_share}
use Rattle.mdv_fitting.specs.Below.{Geometry, IsSound, SliceName, SliceUse, User, Replica, Component, Extent, Spare, meets_db, overlap, same_slice, slice_code}
use Rattle.mdv_fitting.specs.Beside.{GoTogether, IsNamed, IsPart, StandTogether, asked_by, hinders, is_clear}
use Rattle.mdv_fitting.specs.Firsts.{AreFirsts, FitsBeside, HasFirst, IsHindered, can_share_slice, first_user, use_key, user_at, user_of}
use Rattle.mdv_fitting.proofs.Hindered.{false_unless, first_stands, free_of_dbs, free_of_uses, never_hindered, one_slice, overlap-comm, some_first}

-- with one use more
firsts_more : (xs : List SliceUse) (u : SliceUse) (m n : Held User) → AreFirsts xs m → HasFirst m u n → AreFirsts (xs ++ u ∷ []) n
firsts_more xs u m n firsts more k =
    more k ∙ ap (λ (o : Option User). option_or o (user_at u k)) (firsts k) ∙ mapped (find (λ v. use_key v == k) xs) (use_key u == k) ∙ ap (option_map user_of) (sym (find-append (λ v. use_key v == k) xs (u ∷ [])))
  where
    mapped : (o : Option SliceUse) (b : Bool) → option_or (option_map user_of o) (cond b (Some u.by) None) ≡ option_map user_of (option_or o (cond b (Some u) None))
    mapped None true = refl
    mapped None false = refl
    mapped (Some v) b = refl

-- whether two uses of one slice go together
share_here : (g : Geometry) (u v : SliceUse) → IsPart u → IsPart v → same_slice u.slice v.slice ≡ true → hinders g u v ≡ not (can_share_slice u.by v.by)
share_here g u v is_part also same =
    ap (λ (b : Bool). cond b (not (can_share (asked_by v v.by) u.by u.start)) (overlap g u.slice v.slice)) same ∙ ap not (by_kind u.by v.by is_part also)
  where
    by_kind : (a b : User) → (a ≡ Replica → ⊥) → (b ≡ Replica → ⊥) → can_share (asked_by v b) a u.start ≡ can_share_slice a b
    by_kind Replica b first also = absurd (first refl)
    by_kind a Replica first also = absurd (also refl)
    by_kind (Component x) (Component y) first also = refl
    by_kind (Component x) (Extent y) first also = refl
    by_kind (Component x) (Spare y) first also = refl
    by_kind (Extent x) (Component y) first also = refl
    by_kind (Extent x) (Extent y) first also = refl
    by_kind (Extent x) (Spare y) first also = refl
    by_kind (Spare x) (Component y) first also = refl
    by_kind (Spare x) (Extent y) first also = refl
    by_kind (Spare x) (Spare y) first also = refl

share_there : (g : Geometry) (u v : SliceUse) → same_slice u.slice v.slice ≡ false → hinders g u v ≡ overlap g u.slice v.slice
share_there g u v differs = ap (λ (b : Bool). cond b (not (can_share (asked_by v v.by) u.by u.start)) (overlap g u.slice v.slice)) differs

same_comm : (s t : SliceName) → same_slice s t ≡ true → same_slice t s ≡ true
same_comm s t same = subst (λ (n : SliceName). same_slice n s ≡ true) (same_slice-equal s t same) (same_slice-refl s)

is_true : (b : Bool) → not b ≡ false → b ≡ true
is_true true is = refl
is_true false is = cc

share_comm : (a b : User) → can_share_slice a b ≡ true → can_share_slice b a ≡ true
share_comm Replica b is = cc
share_comm (Component x) b is = cc
share_comm (Extent x) Replica is = cc
share_comm (Extent x) (Component y) is = cc
share_comm (Extent x) (Extent y) is = refl
share_comm (Extent x) (Spare y) is = cc
share_comm (Spare x) Replica is = cc
share_comm (Spare x) (Component y) is = cc
share_comm (Spare x) (Extent y) is = cc
share_comm (Spare x) (Spare y) is = refl

share_trans : (a b c : User) → can_share_slice a b ≡ true → can_share_slice b c ≡ true → can_share_slice a c ≡ true
share_trans Replica b c one two = cc
share_trans (Component x) b c one two = cc
share_trans (Extent x) Replica c one two = cc
share_trans (Extent x) (Component y) c one two = cc
share_trans (Extent x) (Extent y) c one two = two
share_trans (Extent x) (Spare y) c one two = cc
share_trans (Spare x) Replica c one two = cc
share_trans (Spare x) (Component y) c one two = cc
share_trans (Spare x) (Extent y) c one two = cc
share_trans (Spare x) (Spare y) c one two = two

-- that two uses go together, whichever comes first
pub record Match (g : Geometry) (u v : SliceUse) : Type 0 where
  pub here : same_slice u.slice v.slice ≡ true → can_share_slice u.by v.by ≡ true
  pub there : same_slice u.slice v.slice ≡ false → overlap g u.slice v.slice ≡ false

matched : (g : Geometry) (u v : SliceUse) → IsPart u → IsPart v → GoTogether g u v → Match g u v
matched g u v is_part also go = record {
  here = λ same. is_true (can_share_slice u.by v.by) (sym (share_here g u v is_part also same) ∙ go);
  there = λ differs. sym (share_there g u v differs) ∙ go;
}

goes : (g : Geometry) (u v : SliceUse) → IsPart u → IsPart v → Match g u v → GoTogether g u v
goes g u v is_part also m =
    elim (same_slice u.slice v.slice) as (λ b. same_slice u.slice v.slice ≡ b → GoTogether g u v) [
      | true ↦ λ same. share_here g u v is_part also same ∙ ap not (m.here same)
      | false ↦ λ differs. share_there g u v differs ∙ m.there differs
    ] refl

match_comm : (g : Geometry) (u v : SliceUse) → Match g u v → Match g v u
match_comm g u v m = record {
  here = λ same. share_comm u.by v.by (m.here (same_comm v.slice u.slice same));
  there = λ differs. overlap-comm g v.slice u.slice ∙ m.there (false_unless (same_slice u.slice v.slice) (λ same. let back = same_comm u.slice v.slice same in cc (back, differs)));
}

-- a use beside the first of its slice goes with all that do
match_first : (g : Geometry) (u w v : SliceUse) → w.slice ≡ v.slice → can_share_slice w.by v.by ≡ true → Match g u w → Match g u v
match_first g u w v same share m = record {
  here = λ here. share_trans u.by w.by v.by (m.here (ap (same_slice u.slice) same ∙ here)) share;
  there = λ there. ap (overlap g u.slice) (sym same) ∙ m.there (ap (same_slice u.slice) same ∙ there);
}

-- a use with itself, where it shares its slice with another
match_self : (g : Geometry) (w v : SliceUse) → w.slice ≡ v.slice → can_share_slice w.by v.by ≡ true → Match g w v
match_self g w v same share = record {
  here = λ _. share;
  there = λ differs.
      let is : same_slice w.slice v.slice ≡ true = subst (λ (n : SliceName). same_slice w.slice n ≡ true) same (same_slice-refl w.slice) in
      cc (is, differs);
}

-- of all before it, and of the replicas
record Beside (g : Geometry) (xs : List SliceUse) (v : SliceUse) : Type 0 where
  all : All (λ u. GoTogether g u v) xs
  clear : is_clear g v ≡ true

stand_more : (g : Geometry) (xs : List SliceUse) (v : SliceUse) → StandTogether g xs → Beside g xs v → StandTogether g (xs ++ v ∷ [])
stand_more g xs v stands beside = record {
  pairs = all_pairs_push (GoTogether g) xs v stands.pairs (λ k d within. beside.all k d within);
  clear = list_all-append (is_clear g) xs (v ∷ []) ∙ two (list_all (is_clear g) xs) (is_clear g v) stands.clear beside.clear;
}
  where
    two : (a b : Bool) → a ≡ true → b ≡ true → (a && (b && true)) ≡ true
    two a b one also = cc

stood_more : (g : Geometry) (xs : List SliceUse) (v : SliceUse) → StandTogether g (xs ++ v ∷ []) → Beside g xs v
stood_more g xs v stands = record {
  all = λ k d within.
      let first : get_or (xs ++ v ∷ []) k d ≡ get_or xs k d = get_or_append_left xs (v ∷ []) d k within in
      let last : get_or (xs ++ v ∷ []) (length xs) d ≡ v = get_or_at xs v [] d (length xs) refl in
      let all = length-append xs (v ∷ []) in
      let pair : GoTogether g (get_or (xs ++ v ∷ []) k d) (get_or (xs ++ v ∷ []) (length xs) d) = stands.pairs k (length xs) d within (omega (arith, all)) in
      subst (λ (w : SliceUse). GoTogether g (get_or xs k d) w) last (subst (λ (w : SliceUse). GoTogether g w (get_or (xs ++ v ∷ []) (length xs) d)) first pair);
  clear = last_one (list_all (is_clear g) xs) (is_clear g v) (sym (list_all-append (is_clear g) xs (v ∷ [])) ∙ stands.clear);
}
  where
    last_one : (a b : Bool) → (a && (b && true)) ≡ true → b ≡ true
    last_one true true is = refl
    last_one true false is = is
    last_one false b is = cc

not_false : (b : Bool) → b ≡ false → not b ≡ true
not_false b is = ap not is

-- where its slice is new
beside_new : (g : Geometry) (m : Held User) (xs : List SliceUse) (v : SliceUse) (b : Bool) → IsSound g → All IsNamed xs → IsNamed v → All IsPart xs → IsPart v → AreFirsts xs m → held m (use_key v) ≡ None → IsTrue b ↔ (IsHindered g m v.slice → ⊥) → IsTrue b ↔ Beside g xs v
beside_new g m xs v b sound named also parts is_part firsts none is = (
  λ true_so.
      let free = is.0 true_so in
      let apart = free_of_uses g m xs v.slice sound named firsts free in
      record {
        all = λ k d within. goes g (get_or xs k d) v (parts k d within) is_part (record {
          here = λ same. absurd (other k d within same);
          there = λ differs. apart k d within differs;
        });
        clear = not_false (meets_db g v.slice) (free_of_dbs g m v.slice sound free);
      },
  λ beside.
      let apart = λ (k : ℕ) (d : SliceUse) (within : k < length xs) (differs : same_slice (get_or xs k d).slice v.slice ≡ false). (matched g (get_or xs k d) v (parts k d within) is_part (beside.all k d within)).there differs in
      is.1 (never_hindered g m xs v.slice sound also named firsts apart (clear_of (meets_db g v.slice) beside.clear)),
)
  where
    clear_of : (b : Bool) → not b ≡ true → b ≡ false
    clear_of true is = cc
    clear_of false is = refl

    other : (k : ℕ) (d : SliceUse) → k < length xs → same_slice (get_or xs k d).slice v.slice ≡ true → ⊥
    other k d within same =
        let keys : use_key (get_or xs k d) ≡ use_key v = ap slice_code (same_slice-equal (get_or xs k d).slice v.slice same) in
        let some = some_first xs (use_key v) k d within keys in
        let none_there : first_user xs (use_key v) ≡ None = sym (firsts (use_key v)) ∙ none in
        let never : is_some {T = User} None ≡ true = ap is_some (sym none_there) ∙ some in
        cc (never)

-- where it has a first use
beside_first : (g : Geometry) (m : Held User) (xs : List SliceUse) (v : SliceUse) (b : Bool) (by : User) → All IsNamed xs → IsNamed v → All IsPart xs → IsPart v → AreFirsts xs m → StandTogether g xs → held m (use_key v) ≡ Some by → b ≡ can_share_slice by v.by → IsTrue b ↔ Beside g xs v
beside_first g m xs v b by named also parts is_part firsts stands some is =
    let first = first_stands xs (use_key v) by (sym (firsts (use_key v)) ∙ some) in
    let w = get_or xs first.place v in
    let same : w.slice ≡ v.slice = one_slice w v (named first.place v first.within) also (first.key v) in
    let kind : w.by ≡ by = first.by v in (
      λ true_so.
          let share : can_share_slice w.by v.by ≡ true = ap (λ (a : User). can_share_slice a v.by) kind ∙ sym is ∙ true_so in
          record {
            all = λ k d within. goes g (get_or xs k d) v (parts k d within) is_part (match_any first.place first.within w refl same share k d within);
            clear = ap (λ (n : SliceName). not (meets_db g n)) (sym same) ∙ AllPass-from_list_all (is_clear g) xs stands.clear first.place v first.within;
          },
      λ beside.
          let here : same_slice w.slice v.slice ≡ true = subst (λ (n : SliceName). same_slice w.slice n ≡ true) same (same_slice-refl w.slice) in
          let share = (matched g w v (parts first.place v first.within) is_part (beside.all first.place v first.within)).here here in
          is ∙ ap (λ (a : User). can_share_slice a v.by) (sym kind) ∙ share,
    )
  where
    match_any : (place : ℕ) → place < length xs → (w : SliceUse) → w ≡ get_or xs place v → w.slice ≡ v.slice → can_share_slice w.by v.by ≡ true → (k : ℕ) (d : SliceUse) → k < length xs → Match g (get_or xs k d) v
    match_any place inside w at same share k d within =
        let here : get_or xs place d ≡ w = get_or_default xs place d v inside ∙ sym at in
        elim (cases_eq k place) [
          | inl e ↦
              let is_it : get_or xs k d ≡ w = ap (λ (n : ℕ). get_or xs n d) e ∙ here in
              subst (λ (u : SliceUse). Match g u v) (sym is_it) (match_self g w v same share)
          | inr other ↦ elim (cases_lt k place) [
            | inl before ↦
                let go : GoTogether g (get_or xs k d) (get_or xs place d) = stands.pairs k place d before inside in
                let m = subst (Match g (get_or xs k d)) here (matched g (get_or xs k d) (get_or xs place d) (parts k d within) (parts place d inside) go) in
                match_first g (get_or xs k d) w v same share m
            | inr behind ↦
                let go : GoTogether g (get_or xs place d) (get_or xs k d) = stands.pairs place k d (omega arith) within in
                let m = matched g (get_or xs place d) (get_or xs k d) (parts place d inside) (parts k d within) go in
                match_first g (get_or xs k d) w v same share (subst (Match g (get_or xs k d)) here (match_comm g (get_or xs place d) (get_or xs k d) m))
          ]
        ]

beside_is : (g : Geometry) (m : Held User) (xs : List SliceUse) (v : SliceUse) (b : Bool) → IsSound g → All IsNamed xs → IsNamed v → All IsPart xs → IsPart v → AreFirsts xs m → StandTogether g xs → FitsBeside g m v b → IsTrue b ↔ StandTogether g (xs ++ v ∷ [])
beside_is g m xs v b sound named also parts is_part firsts stands fits =
    let it = cases (held m (use_key v)) refl fits in
    (λ true_so. stand_more g xs v stands (it.0 true_so), λ all. it.1 (stood_more g xs v all))
  where
    cases : (o : Option User) → held m (use_key v) ≡ o → MatchOption o (IsTrue b ↔ (IsHindered g m v.slice → ⊥)) (λ first. b ≡ can_share_slice first v.by) → IsTrue b ↔ Beside g xs v
    cases None none is = beside_new g m xs v b sound named also parts is_part firsts none is
    cases (Some by) some is = beside_first g m xs v b by named also parts is_part firsts stands some is

-- what holds of a list holds of its front
pub stands_front : (g : Geometry) (xs : List SliceUse) (i : ℕ) → StandTogether g xs → StandTogether g (take i xs)
stands_front g xs i stands = record {
  pairs = λ j k d below within.
      let few = length-take i xs in
      let first : get_or (take i xs) j d ≡ get_or xs j d = get_or-take i xs j d (omega (arith, few)) in
      let second : get_or (take i xs) k d ≡ get_or xs k d = get_or-take i xs k d (omega (arith, few)) in
      subst (λ (w : SliceUse). GoTogether g (get_or (take i xs) j d) w) (sym second) (subst (λ (w : SliceUse). GoTogether g w (get_or xs k d)) (sym first) (stands.pairs j k d below (omega (arith, few))));
  clear = list_all-from_AllPass (is_clear g) (take i xs) (λ k d within.
      let few = length-take i xs in
      let same : get_or (take i xs) k d ≡ get_or xs k d = get_or-take i xs k d (omega (arith, few)) in
      ap (is_clear g) same ∙ AllPass-from_list_all (is_clear g) xs stands.clear k d (omega (arith, few)));
}

all_front : (P : SliceUse → Type 0) (xs : List SliceUse) (i : ℕ) → All P xs → All P (take i xs)
all_front P xs i all k d within =
    let few = length-take i xs in
    subst P (sym (get_or-take i xs k d (omega (arith, few)))) (all k d (omega (arith, few)))

-- at a place of a list
pub step_told : (g : Geometry) (m : Held User) (xs : List SliceUse) (i : ℕ) (d : SliceUse) (b : Bool) → i < length xs → IsSound g → All IsNamed xs → All IsPart xs → AreFirsts (take i xs) m → StandTogether g (take i xs) → FitsBeside g m (get_or xs i d) b → IsTrue b ↔ StandTogether g (take (i + 1) xs)
step_told g m xs i d b within sound named parts firsts stands fits =
    let it = beside_is g m (take i xs) (get_or xs i d) b sound (all_front IsNamed xs i named) (named i d within) (all_front IsPart xs i parts) (parts i d within) firsts stands fits in
    let more = take_more xs i d within in
    (λ true_so. subst (StandTogether g) (sym more) (it.0 true_so), λ all. it.1 (subst (StandTogether g) more all))

pub step_firsts : (m n : Held User) (xs : List SliceUse) (i : ℕ) (d : SliceUse) → i < length xs → AreFirsts (take i xs) m → HasFirst m (get_or xs i d) n → AreFirsts (take (i + 1) xs) n
step_firsts m n xs i d within firsts more k = firsts_more (take i xs) (get_or xs i d) m n firsts more k ∙ ap (λ (l : List SliceUse). first_user l k) (sym (take_more xs i d within))
