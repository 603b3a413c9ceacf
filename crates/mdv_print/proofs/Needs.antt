-- Of a plan in layers no entry comes in front of one that it needs.
use Rattle.std.proofs.Common.{◌≡◌, ◌<◌, ◌==◌, ℕ, zero, suc, true, Option, None, Some, refl, sym, ◌∙◌, ap, subst, List, [], ◌∷◌, ◌++◌, length, map, take, inl, inr, arith}
use Rattle.std.specs.Prelude.{slice_get, slice_index}
use Rattle.std.proofs.lemmas.List.{map-append}
use Rattle.std.proofs.lemmas.List.Elements.{All-append, All-cons, All-contains, All-map, All-nil, All-weaker}
use Rattle.std.proofs.lemmas.Option.{get_or_from_slice_get, slice_get_within}
use Rattle.std.specs.List.{All, flat_map}
use Rattle.mdv_base.specs.declared.name.Named.{Named}
use Rattle.mdv_base.specs.declared.name.PoolId.{PoolId}
use Rattle.mdv_base.specs.declared.name.VolId.{VolId}
use Rattle.mdv_parts.specs.declared.component.Component.{Component as TabComponent}
use Rattle.mdv_plan.specs.declared.plan.Plan.{Plan}
use Rattle.mdv_plan.specs.declared.volume.Base.{Base}
use Rattle.mdv_plan.specs.declared.volume.Base.TheVariants.{Slice, Volume}
use Rattle.mdv_plan.specs.declared.volume.Component.{Component}
use Rattle.mdv_plan.specs.declared.volume.Row.{Row}
use Rattle.mdv_plan.specs.declared.volume.Volume.{Volume as OneVolume}
use Rattle.mdv_plan.specs.declared.volume.VolumeKind.{VolumeKind}
use Rattle.mdv_plan.specs.declared.volume.VolumeKind.TheVariants.{Stripe, Mirror, Raid, Soft}
use Rattle.mdv_tab.specs.Order.{IsNext, IsOrderOfNeed, Needs, Remains, Waits, makes, pool_names, stands_on, submirror_names, volumes_of, volumes_of_rows}
use Rattle.mdv_tab.specs.declared.entry.Entry.{Entry}
use Rattle.mdv_print.specs.Entries.{base_named, component_named, entries_of, entry_of_pool, entry_of_volume, kind_entry, row_entry}
use Rattle.mdv_print.specs.Layers.{IsLayered}
use Rattle.mdv_plan.specs.Named.{base_below, component_below, kind_below, row_below}
use Rattle.mdv_print.specs.Order.{is_among, uppermost, with_below}
use Rattle.mdv_print.proofs.Complete.{IsOwn, or_left, or_right, own_at, same_number}
use Rattle.mdv_print.proofs.Printed.{walk_holds}
use Rattle.mdv_keys.proofs.Users.{kind_among}

-- how high what is named stands: pools lowest
abbrev rank_of : (ℕ → ℕ) → Named → ℕ
rank_of height (Named.Volume v) = suc (height v.0)
rank_of height (Named.Pool q) = 0

abbrev rank_made : (ℕ → ℕ) → Option Named → ℕ
rank_made height None = 0
rank_made height (Some named) = rank_of height named

abbrev rank_at : (ℕ → ℕ) → Option Entry → ℕ
rank_at height None = 0
rank_at height (Some e) = rank_made height (makes e)

-- all on which the entry stands is lower
abbrev IsRanked : (ℕ → ℕ) → Entry → Type 0
IsRanked height e = All (λ (named : Named). rank_of height named < rank_made height (makes e)) (stands_on e)

abbrev pub volume_named : VolId → Named
volume_named v = Named.Volume v

abbrev stands_in : Base → List Named → List Named
stands_in (Slice s) ns = ns
stands_in (Volume v) ns = Named.Volume v ∷ ns

base_stands_on : (b : Base) (ns : List Named) (vs : List VolId) → ns ≡ map volume_named vs → stands_in b ns ≡ map volume_named (base_below b ++ vs)
base_stands_on (Slice s) ns vs is = is
base_stands_on (Volume v) ns vs is = ap (λ (l : List Named). Named.Volume v ∷ l) is

base_first : (b : Base) (cs : List TabComponent) → volumes_of (base_named b ∷ cs) ≡ stands_in b (volumes_of cs)
base_first (Slice s) cs = refl
base_first (Volume v) cs = refl

pub components_stand : (cs : List Component) → volumes_of (map component_named cs) ≡ map volume_named (flat_map component_below cs)
components_stand [] = refl
components_stand (c ∷ cs) = base_first c.on (map component_named cs) ∙ base_stands_on c.on (volumes_of (map component_named cs)) (flat_map component_below cs) (components_stand cs)

pub rows_stand : (rows : List Row) → volumes_of_rows (map row_entry rows) ≡ map volume_named (flat_map row_below rows)
rows_stand [] = refl
rows_stand (row ∷ rows) =
    ap (λ (l : List Named). l ++ volumes_of_rows (map row_entry rows)) (components_stand row.components)
    ∙ ap (λ (l : List Named). map volume_named (row_below row) ++ l) (rows_stand rows)
    ∙ sym (map-append volume_named (row_below row) (flat_map row_below rows))

pub submirrors_stand : (vs : List VolId) → submirror_names vs ≡ map volume_named vs
submirrors_stand [] = refl
submirrors_stand (v ∷ vs) = ap (λ (l : List Named). Named.Volume v ∷ l) (submirrors_stand vs)

pub base_stands : (b : Base) → volumes_of (base_named b ∷ []) ≡ map volume_named (base_below b)
base_stands (Slice s) = refl
base_stands (Volume v) = refl

-- each volume of a list is among it
all_among : (vs : List VolId) → All (λ (v : VolId). is_among vs v ≡ true) vs
all_among [] = All-nil (λ (v : VolId). is_among [] v ≡ true)
all_among (u ∷ vs) =
    All-cons (λ (v : VolId). is_among (u ∷ vs) v ≡ true) u vs (or_left (u.0 == u.0) (is_among vs u) (same_number u.0))
    (All-weaker (λ (v : VolId). is_among vs v ≡ true) (λ (v : VolId). is_among (u ∷ vs) v ≡ true) (λ v is. or_right (u.0 == v.0) (is_among vs v) is) vs (all_among vs))

module _ (p : Plan) (layers : IsLayered p) where
  below_ranked : (x : OneVolume) → IsOwn p x → All (λ (named : Named). rank_of layers.height named < suc (layers.height x.number.0)) (map volume_named (kind_below x.kind))
  below_ranked x own =
      All-map (λ (named : Named). rank_of layers.height named < suc (layers.height x.number.0)) volume_named (kind_below x.kind)
      (All-weaker (λ (v : VolId). is_among (kind_below x.kind) v ≡ true) (λ (v : VolId). suc (layers.height v.0) < suc (layers.height x.number.0))
      (λ v is. let lower : layers.height v.0 < layers.height x.number.0 = layers.lower x v own (kind_among v x.kind ∙ is) in omega arith) (kind_below x.kind) (all_among (kind_below x.kind)))

  pool_ranked : (n : ℕ) (spares : Option PoolId) → All (λ (named : Named). rank_of layers.height named < suc n) (pool_names spares)
  pool_ranked n None = All-nil (λ (named : Named). rank_of layers.height named < suc n)
  pool_ranked n (Some q) = All-cons (λ (named : Named). rank_of layers.height named < suc n) (Named.Pool q) [] (omega arith) (All-nil (λ (named : Named). rank_of layers.height named < suc n))

  kind_ranked : (set : Option (List ℕ)) (number : VolId) (kind : VolumeKind) → All (λ (named : Named). rank_of layers.height named < suc (layers.height number.0)) (map volume_named (kind_below kind)) →
      IsRanked layers.height (kind_entry (record { set = set; volume = number }) kind)
  kind_ranked set number (Stripe s) low =
      let P : Named → Type 0 = λ named. rank_of layers.height named < suc (layers.height number.0) in
      All-append P (volumes_of_rows (map row_entry s.rows)) (pool_names s.spares) (subst (All P) (sym (rows_stand s.rows)) low) (pool_ranked (layers.height number.0) s.spares)
  kind_ranked set number (Mirror m) low = let P : Named → Type 0 = λ named. rank_of layers.height named < suc (layers.height number.0) in subst (All P) (sym (submirrors_stand m.submirrors)) low
  kind_ranked set number (Raid r) low =
      let P : Named → Type 0 = λ named. rank_of layers.height named < suc (layers.height number.0) in
      All-append P (volumes_of (map component_named r.columns)) (pool_names r.spares) (subst (All P) (sym (components_stand r.columns)) low) (pool_ranked (layers.height number.0) r.spares)
  kind_ranked set number (Soft s) low = let P : Named → Type 0 = λ named. rank_of layers.height named < suc (layers.height number.0) in subst (All P) (sym (base_stands s.base)) low

  all_ranked : (set : Option (List ℕ)) → All (IsRanked layers.height) (entries_of set p)
  all_ranked set =
      let told = with_below p (uppermost p) in
      let own : All (IsOwn p) told = walk_holds (IsOwn p) p (length p.volumes) [] (uppermost p) (own_at p.volumes layers.ascending) in
      let volumes : All (IsRanked layers.height) (map (entry_of_volume set) told) =
      All-map (IsRanked layers.height) (entry_of_volume set) told (All-weaker (IsOwn p) (λ (x : OneVolume). IsRanked layers.height (entry_of_volume set x)) (λ x is. kind_ranked set x.number x.kind (below_ranked x is)) told own)
      in
      let pools : All (IsRanked layers.height) (map (entry_of_pool set) p.pools) =
      All-map (IsRanked layers.height) (entry_of_pool set) p.pools (λ k q lt. All-nil (λ (named : Named). rank_of layers.height named < 0))
      in
      All-append (IsRanked layers.height) (map (entry_of_volume set) told) (map (entry_of_pool set) p.pools) volumes pools

-- what is needed is lower
needed_lower : (height : ℕ → ℕ) (es : List Entry) (i j : ℕ) → All (IsRanked height) es → Needs es i j → rank_at height (slice_get es j) < rank_at height (slice_get es i)
needed_lower height es i j all need =
    let e = need.entry in
    let within = slice_get_within es i e need.at in
    let here : IsRanked height e = subst (IsRanked height) (get_or_from_slice_get es i e e need.at) (all i e within) in
    let low = All-contains (λ (named : Named). rank_of height named < rank_made height (makes e)) (stands_on e) need.needs.named here need.needs.stands in
    let first : rank_at height (slice_get es i) ≡ rank_made height (makes e) = ap (rank_at height) need.at in
    let second : rank_at height (slice_get es j) ≡ rank_of height need.needs.named = ap (rank_at height) need.below ∙ ap (rank_made height) need.needs.made in
    omega (arith, low, first, second)

-- not all that remain wait
not_all_wait : (needs : ℕ → ℕ → Type 0) (rank : ℕ → ℕ) (count : ℕ) (made : List ℕ) → ((i j : ℕ) → needs i j → rank j < rank i) → ((j : ℕ) → Remains count made j → Waits needs count made j) → (n j : ℕ) → Remains count made j → rank j < n → ⊥
not_all_wait needs rank count made lower all zero j remains less = absurd (omega arith)
not_all_wait needs rank count made lower all (suc n) j remains less =
    let waits = all j remains in
    let below : rank waits.0 < rank j = lower j waits.0 waits.2 in
    not_all_wait needs rank count made lower all n waits.0 waits.1 (omega arith)

next_waits_not : (needs : ℕ → ℕ → Type 0) (rank : ℕ → ℕ) (count : ℕ) (made : List ℕ) (i : ℕ) → ((i j : ℕ) → needs i j → rank j < rank i) → IsNext needs count made i → Waits needs count made i → ⊥
next_waits_not needs rank count made i lower next waits = elim next.first [
  | inl free ↦ free.0 waits
  | inr all ↦ not_all_wait needs rank count made lower all.0 (suc (rank i)) i next.remains (omega arith)
]

pub none_waits : (set : Option (List ℕ)) (p : Plan) (order : List ℕ) → IsLayered p → IsOrderOfNeed (entries_of set p) order → (k : ℕ) → k < length order → Waits (Needs (entries_of set p)) (length (entries_of set p)) (take k order) (slice_index order k) → ⊥
none_waits set p order layers is k within waits =
    let es = entries_of set p in
    next_waits_not (Needs es) (λ i. rank_at layers.height (slice_get es i)) (length es) (take k order) (slice_index order k) (λ i j need. needed_lower layers.height es i j (all_ranked p layers set) need) (is.each k within) waits
