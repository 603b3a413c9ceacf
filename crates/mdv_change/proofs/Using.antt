-- Which volumes that stay use those that go.
use Rattle.std.proofs.Common.{◌≡◌, ◌<◌, ◌==◌, ◌&&◌, ◌||◌, ℕ, Bool, true, false, not, cond, refl, sym, ◌∙◌, ap, List, [], ◌∷◌, ◌++◌, length, get_or, Some}
use Rattle.std.proofs.lemmas.List.Folds.{list_any-append, list_any_at}
use Rattle.std.specs.List.{All, filter, flat_map, list_any}
use Rattle.std.specs.Prelude.{is_some}
use Rattle.mdv_components.specs.Causes.{form_causes, room_causes, use_causes}
use Rattle.mdv_components.specs.declared.cause.Cause.TheVariants.{NoSuchVolume, NoSuchPool, NoSuchSlice, NameTaken, WrongKind, WrongState, LastCopy}
use Rattle.mdv_keys.proofs.Any.{any_and, any_filter, any_never, any_or, any_same, any_swap}
use Rattle.mdv_keys.proofs.Marking.{found_small, or_false}
use Rattle.mdv_keys.proofs.Users.{pool_used_is, used_is}
use Rattle.mdv_keys.specs.Marks.{AreMarks, AreMarked, below_unmarked, number_of, pools_unmarked}
use Rattle.mdv_change.specs.Below.{Cause, OneVolume, Plan, Pool, PoolId, Table, VolId, first_of, names_pool, names_volume, order, pool_key, pool_of, volume_of}
use Rattle.mdv_change.specs.Clear.{clear_condition, is_left_with, is_named, is_no_pool, is_no_volume}
use Rattle.mdv_change.specs.Levels.{below_of, falls, falls_by, is_used_beside, uses_beside, with_level, with_levels}

abbrev pub IsSmall : OneVolume → Type 0
IsSmall w = w.number.0 < 8192

abbrev pub IsSmallPool : Pool → Type 0
IsSmallPool q = q.number.0 < 1000

none_at : {T : Type 0} (test : T → Bool) (xs : List T) (i : ℕ) (d : T) → list_any test xs ≡ false → i < length xs → test (get_or xs i d) ≡ false
none_at test xs i d none within =
    elim (test (get_or xs i d)) as (λ b. test (get_or xs i d) ≡ b → b ≡ false) [
      | true ↦ λ is. sym (list_any_at test xs i d within is) ∙ none
      | false ↦ λ _. refl
    ] refl

is_there : (b : Bool) → not b ≡ false → b ≡ true
is_there true is = refl
is_there false is = sym is

volumes_small : (p : Plan) (volumes : List VolId) → All IsSmall p.volumes → list_any (is_no_volume p) volumes ≡ false → All (λ v. v.0 < 8192) volumes
volumes_small p volumes small none i d within =
    let v = get_or volumes i d in
    found_small number_of 8192 p.volumes v.0 small (is_there (is_some (volume_of p v)) (none_at (is_no_volume p) volumes i d none within))

pools_small : (p : Plan) (pools : List PoolId) → All IsSmallPool p.pools → list_any (is_no_pool p) pools ≡ false → All (λ q. q.0 < 1000) pools
pools_small p pools small none i d within =
    let q = get_or pools i d in
    found_small (λ (r : Pool). r.number.0) 1000 p.pools q.0 small (is_there (is_some (pool_of p q)) (none_at (is_no_pool p) pools i d none within))

-- of those that go, over those that stay
side : {T : Type 0} (mark : T → Bool) (names : T → OneVolume → Bool) (stays : OneVolume → Bool) (xs : List T) (ws : List OneVolume) → All (λ x. mark x ≡ list_any (λ w. stays w && names x w) ws) xs → list_any mark xs ≡ list_any (λ w. stays w && list_any (λ x. names x w) xs) ws
side mark names stays xs ws each =
    any_same mark (λ x. list_any (λ w. stays w && names x w) ws) xs each
    ∙ any_swap (λ x w. stays w && names x w) xs ws
    ∙ any_same (λ w. list_any (λ x. stays w && names x w) xs) (λ w. stays w && list_any (λ x. names x w) xs) ws (λ i d within. any_and (stays (get_or ws i d)) (λ x. names x (get_or ws i d)) xs)

distribute : (a b c : Bool) → ((a && b) || (a && c)) ≡ (a && (b || c))
distribute true b c = refl
distribute false b c = refl

pub left_is : (p : Plan) (volumes : List VolId) (pools : List PoolId) (named used used_pools : List Bool) → All IsSmall p.volumes → All IsSmallPool p.pools → list_any (is_no_volume p) volumes ≡ false → list_any (is_no_pool p) pools ≡ false → AreMarked named volumes → AreMarked used (below_unmarked named p.volumes) → AreMarks pool_key 1000 used_pools (pools_unmarked named p.volumes) →
    (list_any (λ (v : VolId). get_or used v.0 false) volumes || list_any (λ (q : PoolId). get_or used_pools q.0 false) pools) ≡ list_any (is_left_with volumes pools) p.volumes
left_is p volumes pools named used used_pools small small_pools all all_pools are uses uses_pools =
    let ws = p.volumes in
    let stays : OneVolume → Bool = λ w. not (get_or named w.number.0 false) in
    let by_volumes : OneVolume → Bool = λ w. list_any (λ v. names_volume v w.kind) volumes in
    let by_pools : OneVolume → Bool = λ w. list_any (λ q. names_pool q w.kind) pools in
    let few = volumes_small p volumes small all in
    let few_pools = pools_small p pools small_pools all_pools in
    let one = side (λ (v : VolId). get_or used v.0 false) (λ v w. names_volume v w.kind) stays volumes ws (λ i d within. used_is used named (get_or volumes i d) ws uses (few i d within)) in
    let two = side (λ (q : PoolId). get_or used_pools q.0 false) (λ q w. names_pool q w.kind) stays pools ws (λ i d within. pool_used_is used_pools named (get_or pools i d) ws uses_pools (few_pools i d within)) in
    ap (λ (b : Bool). b || list_any (λ (q : PoolId). get_or used_pools q.0 false) pools) one
    ∙ ap (λ (b : Bool). list_any (λ w. stays w && by_volumes w) ws || b) two
    ∙ sym (any_or (λ w. stays w && by_volumes w) (λ w. stays w && by_pools w) ws)
    ∙ any_same (λ w. (stays w && by_volumes w) || (stays w && by_pools w)) (is_left_with volumes pools) ws
    (λ i d within. let w = get_or ws i d in distribute (stays w) (by_volumes w) (by_pools w) ∙ ap (λ (b : Bool). not b && (by_volumes w || by_pools w)) (are.marked w.number.0 (small i d within)))

used_beside_is : (p : Plan) (volumes : List VolId) (named used : List Bool) (v : VolId) → All IsSmall p.volumes → AreMarked named volumes → AreMarked used (below_unmarked named p.volumes) → v.0 < 8192 → get_or used v.0 false ≡ is_used_beside p volumes v
used_beside_is p volumes named used v small are uses few =
    used_is used named v p.volumes uses few
    ∙ any_same (λ (w : OneVolume). not (get_or named w.number.0 false) && names_volume v w.kind) (uses_beside volumes v) p.volumes
    (λ i d within. let w = get_or p.volumes i d in ap (λ (b : Bool). not b && names_volume v w.kind) (are.marked w.number.0 (small i d within)))

falls_is : (p : Plan) (volumes : List VolId) (named used : List Bool) (v : VolId) → All IsSmall p.volumes → AreMarked named volumes → AreMarked used (below_unmarked named p.volumes) → falls_by p named used v ≡ falls p volumes v
falls_is p volumes named used v small are uses =
    elim (is_some (volume_of p v)) as (λ b. is_some (volume_of p v) ≡ b → (b && (not (get_or named v.0 false) && not (get_or used v.0 false))) ≡ (b && (not (list_any (λ w. w.0 == v.0) volumes) && not (is_used_beside p volumes v)))) [
      | true ↦ λ there.
          let few = found_small number_of 8192 p.volumes v.0 small there in
          ap (λ (b : Bool). not b && not (get_or used v.0 false)) (are.marked v.0 few) ∙ ap (λ (b : Bool). not (list_any (λ w. w.0 == v.0) volumes) && not b) (used_beside_is p volumes named used v small are uses few)
      | false ↦ λ _. refl
    ] refl

pub falling_is : (p : Plan) (volumes : List VolId) (named used : List Bool) (vs : List VolId) → All IsSmall p.volumes → AreMarked named volumes → AreMarked used (below_unmarked named p.volumes) → filter (falls_by p named used) vs ≡ filter (falls p volumes) vs
falling_is p volumes named used [] small are uses = refl
falling_is p volumes named used (v ∷ vs) small are uses =
    ap (λ (b : Bool). cond b (v ∷ filter (falls_by p named used) vs) (filter (falls_by p named used) vs)) (falls_is p volumes named used v small are uses)
    ∙ ap (λ (l : List VolId). cond (falls p volumes v) (v ∷ l) l) (falling_is p volumes named used vs small are uses)

neither : (a b : Bool) → ((a && b) && not a) ≡ false
neither true true = refl
neither true false = refl
neither false b = refl

-- what falls is there
none_falls : (p : Plan) (volumes vs : List VolId) → list_any (is_no_volume p) (filter (falls p volumes) vs) ≡ false
none_falls p volumes vs =
    any_filter (is_no_volume p) (falls p volumes) vs
    ∙ any_same (λ v. falls p volumes v && is_no_volume p v) (λ v. false) vs (λ i d within. let v = get_or vs i d in neither (is_some (volume_of p v)) (not (is_named volumes v) && not (is_used_beside p volumes v)))
    ∙ any_never vs

level_there : (p : Plan) (volumes : List VolId) → list_any (is_no_volume p) (with_level p volumes) ≡ list_any (is_no_volume p) volumes
level_there p volumes =
    let below = flat_map (below_of p) volumes in
    list_any-append (is_no_volume p) volumes (filter (falls p volumes) below) ∙ ap (λ (b : Bool). list_any (is_no_volume p) volumes || b) (none_falls p volumes below) ∙ or_false (list_any (is_no_volume p) volumes)

-- with all below them one is missing exactly where one of them is
pub levels_there : (p : Plan) (volumes : List VolId) → list_any (is_no_volume p) (with_levels p volumes) ≡ list_any (is_no_volume p) volumes
levels_there p volumes = level_there p (with_level p (with_level p volumes)) ∙ level_there p (with_level p volumes) ∙ level_there p volumes

abbrev latest : List Cause
latest = NoSuchSlice ∷ NameTaken ∷ WrongKind ∷ WrongState ∷ LastCopy ∷ (form_causes ++ (use_causes ++ room_causes))

abbrev later : List Cause
later = NoSuchPool ∷ latest

-- the first cause, of volumes that aren't there or else of pools
pub told_volume : (t : Table) (volumes all : List VolId) (pools : List PoolId) → list_any (is_no_volume t.plan) all ≡ list_any (is_no_volume t.plan) volumes → list_any (is_no_volume t.plan) volumes ≡ true → first_of (clear_condition t all pools) order ≡ Some NoSuchVolume
told_volume t volumes all pools same missing = ap (λ (b : Bool). cond b (Some NoSuchVolume) (first_of (clear_condition t all pools) later)) (same ∙ missing)

pub told_pool : (t : Table) (volumes all : List VolId) (pools : List PoolId) → list_any (is_no_volume t.plan) all ≡ list_any (is_no_volume t.plan) volumes → list_any (is_no_volume t.plan) volumes ≡ false → list_any (is_no_pool t.plan) pools ≡ true → first_of (clear_condition t all pools) order ≡ Some NoSuchPool
told_pool t volumes all pools same there missing =
    ap (λ (b : Bool). cond b (Some NoSuchVolume) (first_of (clear_condition t all pools) later)) (same ∙ there)
    ∙ ap (λ (b : Bool). cond b (Some NoSuchPool) (first_of (clear_condition t all pools) latest)) missing
