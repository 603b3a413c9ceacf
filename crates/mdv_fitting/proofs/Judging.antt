-- Bases are judged one after another, each at its first soft partition.
use Rattle.std.proofs.Common.{◌≡◌, ◌<◌, ◌≤◌, ◌==◌, ◌++◌, ◌+◌, ◌⊎◌, inl, inr, ℕ, Bool, true, false, cond, List, [], ◌∷◌, length, get_or, refl, sym, ◌∙◌, ap, subst, arith}
use Rattle.std.proofs.lemmas.Bool.{cases_eq}
use Rattle.std.proofs.lemmas.Bool.Decides.{nat_tests}
use Rattle.std.proofs.lemmas.List.{append-nil, append_assoc, get_or_default}
use Rattle.std.specs.List.{All}
use Rattle.std.specs.Prelude.{◌↔◌, IsTrue}
use Rattle.mdv_extent.specs.declared.run.Run.{Run}
use Rattle.mdv_fitting.specs.Below.{Geometry, LieApart, OneSoft, OneVolume, Plan, VolumeKind, Stripe, Mirror, Raid, Soft}
use Rattle.mdv_fitting.specs.Keys.{base_key, kind_runs_at, runs_at, volume_runs_at}
use Rattle.mdv_fitting.specs.Runs.{AreRuns, AreSameSize, HasRuns, IsKindApart, IsSoftApart, IsVolumeApart, Judges, RunMap, SameSize, items_at, soft_size}

pub runs_last : (k : ℕ) (vs : List OneVolume) (v : OneVolume) → runs_at k (vs ++ v ∷ []) ≡ runs_at k vs ++ kind_runs_at k v.kind
runs_last k [] v = append-nil (kind_runs_at k v.kind)
runs_last k (w ∷ vs) v = ap (λ (l : List Run). volume_runs_at k w ++ l) (runs_last k vs v) ∙ sym (append_assoc (volume_runs_at k w) (runs_at k vs) (kind_runs_at k v.kind))

-- with the extents of one volume more
pub runs_more : (vs : List OneVolume) (v : OneVolume) (m n : RunMap) → AreRuns vs m → HasRuns m v.kind n → AreRuns (vs ++ v ∷ []) n
runs_more vs v m n are more k = more k ∙ ap (λ (l : List Run). l ++ kind_runs_at k v.kind) (are k) ∙ sym (runs_last k vs v)

-- a volume that stands in what is lent of the list stands in the list
pub lent : (vs slice : List OneVolume) (i : ℕ) (v : OneVolume) → slice ≡ vs → i < length slice → v ≡ get_or slice i v → (i < length vs) × (v ≡ get_or vs i v)
lent vs slice i v all within is = (subst (λ (l : List OneVolume). i < length l) all within, is ∙ ap (λ (l : List OneVolume). get_or l i v) all)

-- on the base of this number
abbrev pub IsJudgedAt : Geometry → Plan → ℕ → VolumeKind → Type 0
IsJudgedAt g p k (Soft s) = base_key s.base ≡ k → IsSoftApart g p s
IsJudgedAt g p k _ = Unit {0}

abbrev pub IsJudged : Geometry → Plan → ℕ → Type 0
IsJudged g p k = All (λ v. IsJudgedAt g p k v.kind) p.volumes

-- the extents of a base are all there, or were taken out and lie apart
abbrev pub IsLeft : Geometry → Plan → RunMap → ℕ → Type 0
IsLeft g p m k = (items_at m k ≡ runs_at k p.volumes) ⊎ ((items_at m k ≡ []) × IsJudged g p k)

pub record Judged (g : Geometry) (p : Plan) (m : RunMap) (i : ℕ) : Type 0 where
  pub left : (k : ℕ) → IsLeft g p m k
  pub front : (j : ℕ) (d : OneVolume) → j < i → j < length p.volumes → IsVolumeApart g p (get_or p.volumes j d)

pub judged_none : (g : Geometry) (p : Plan) (m : RunMap) (vs : List OneVolume) → vs ≡ p.volumes → AreRuns vs m → Judged g p m 0
judged_none g p m vs is are = record { left = λ k. inl (are k ∙ ap (runs_at k) is); front = λ j d before within. absurd (omega arith) }

none_apart : (blocks : ℕ) → LieApart blocks []
none_apart blocks = record { lie = λ k d within. absurd (omega arith); apart = tt }

-- a base is judged with one soft partition on it
all_judged : (g : Geometry) (p : Plan) (s : OneSoft) → All (λ w. SameSize g p (Soft s) w.kind) p.volumes → IsSoftApart g p s → IsJudged g p (base_key s.base)
all_judged g p s sizes apart k d within = one (get_or p.volumes k d).kind (sizes k d within)
  where
    one : (kind : VolumeKind) → SameSize g p (Soft s) kind → IsJudgedAt g p (base_key s.base) kind
    one (Soft t) size = λ key.
        let blocks : soft_size g p s ≡ soft_size g p t = size (sym key) in
        subst (λ (n : ℕ). LieApart n (runs_at (base_key t.base) p.volumes)) blocks (subst (λ (n : ℕ). LieApart (soft_size g p s) (runs_at n p.volumes)) (sym key) apart)
    one (Stripe t) size = tt
    one (Mirror t) size = tt
    one (Raid t) size = tt

-- what is told of a soft partition is whether its base's extents lie apart
soft_told : (g : Geometry) (p : Plan) (m : RunMap) (s : OneSoft) (answer : Bool) → IsLeft g p m (base_key s.base) → IsJudgedAt g p (base_key s.base) (Soft s) ⊎ (items_at m (base_key s.base) ≡ runs_at (base_key s.base) p.volumes) → IsTrue answer ↔ LieApart (soft_size g p s) (items_at m (base_key s.base)) → IsTrue answer ↔ IsSoftApart g p s
soft_told g p m s answer (inl all) it is = (
  λ true. subst (LieApart (soft_size g p s)) all (is.0 true),
  λ apart. is.1 (subst (LieApart (soft_size g p s)) (sym all) apart),
)
soft_told g p m s answer (inr gone) (inl judged) is = (λ _. judged refl, λ _. is.1 (subst (LieApart (soft_size g p s)) (sym gone.0) (none_apart (soft_size g p s))))
soft_told g p m s answer (inr gone) (inr all) is = (
  λ true. subst (LieApart (soft_size g p s)) all (is.0 true),
  λ apart. is.1 (subst (LieApart (soft_size g p s)) (sym all) apart),
)

at_it : (g : Geometry) (p : Plan) (k i : ℕ) (d : OneVolume) → i < length p.volumes → IsJudged g p k → IsJudgedAt g p k (get_or p.volumes i d).kind
at_it g p k i d within judged = judged i d within

told : (g : Geometry) (p : Plan) (m n : RunMap) (kind : VolumeKind) (answer : Bool) → ((k : ℕ) → IsLeft g p m k) → ((k : ℕ) → IsJudged g p k → IsJudgedAt g p k kind) → Judges g p m kind n answer → IsTrue answer ↔ IsKindApart g p kind
told g p m n (Soft s) answer left at judges = soft_told g p m s answer (left (base_key s.base)) (which (left (base_key s.base))) judges.0
  where
    which : IsLeft g p m (base_key s.base) → IsJudgedAt g p (base_key s.base) (Soft s) ⊎ (items_at m (base_key s.base) ≡ runs_at (base_key s.base) p.volumes)
    which (inl all) = inr all
    which (inr gone) = inl (at (base_key s.base) gone.1)
told g p m n (Stripe s) answer left at judges = (λ _. tt, λ _. judges.0)
told g p m n (Mirror s) answer left at judges = (λ _. tt, λ _. judges.0)
told g p m n (Raid s) answer left at judges = (λ _. tt, λ _. judges.0)

stay : (g : Geometry) (p : Plan) (m n : RunMap) (k : ℕ) → IsLeft g p m k → items_at n k ≡ items_at m k → IsLeft g p n k
stay g p m n k (inl all) same = inl (same ∙ all)
stay g p m n k (inr gone) same = inr (same ∙ gone.0, gone.1)

left_more : (g : Geometry) (p : Plan) (m n : RunMap) (kind : VolumeKind) (answer : Bool) → ((k : ℕ) → IsLeft g p m k) → All (λ w. SameSize g p kind w.kind) p.volumes → IsKindApart g p kind → Judges g p m kind n answer → (k : ℕ) → IsLeft g p n k
left_more g p m n (Soft s) answer left sizes apart judges k = elim (cases_eq (base_key s.base) k) [
  | inl e ↦
      let here : (base_key s.base == k) ≡ true = grind (arith, nat_tests) in
      let gone : items_at n k ≡ [] = judges.1 k ∙ ap (λ (b : Bool). cond b [] (items_at m k)) here in
      inr (gone, subst (IsJudged g p) e (all_judged g p s sizes apart))
  | inr other ↦
      let there : (base_key s.base == k) ≡ false = grind (arith, nat_tests) in
      let stays : items_at n k ≡ items_at m k = judges.1 k ∙ ap (λ (b : Bool). cond b [] (items_at m k)) there in
      stay g p m n k (left k) stays
]
left_more g p m n (Stripe s) answer left sizes apart judges k = stay g p m n k (left k) (judges.1 k)
left_more g p m n (Mirror s) answer left sizes apart judges k = stay g p m n k (left k) (judges.1 k)
left_more g p m n (Raid s) answer left sizes apart judges k = stay g p m n k (left k) (judges.1 k)

pub judged_tells : (g : Geometry) (p : Plan) (m n : RunMap) (i : ℕ) (v : OneVolume) (answer : Bool) → Judged g p m i → i < length p.volumes → v ≡ get_or p.volumes i v → Judges g p m v.kind n answer → IsTrue answer ↔ IsVolumeApart g p v
judged_tells g p m n i v answer so_far within is judges =
    told g p m n v.kind answer so_far.left (λ k judged. subst (λ (w : OneVolume). IsJudgedAt g p k w.kind) (sym is) (judged i v within)) judges

pub judged_more : (g : Geometry) (p : Plan) (m n : RunMap) (i : ℕ) (v : OneVolume) → AreSameSize g p → Judged g p m i → i < length p.volumes → v ≡ get_or p.volumes i v → Judges g p m v.kind n true → Judged g p n (i + 1)
judged_more g p m n i v sizes so_far within is judges =
    let apart = (judged_tells g p m n i v true so_far within is judges).0 refl in
    record {
      left = left_more g p m n v.kind true so_far.left (subst (λ (w : OneVolume). All (λ x. SameSize g p w.kind x.kind) p.volumes) (sym is) (sizes i v within)) apart judges;
      front = λ j d before inside. elim (cases_eq j i) [
        | inl e ↦
            let one : get_or p.volumes j d ≡ v = ap (λ (k : ℕ). get_or p.volumes k d) e ∙ get_or_default p.volumes i d v within ∙ sym is in
            subst (IsVolumeApart g p) (sym one) apart
        | inr other ↦ so_far.front j d (omega arith) inside
      ];
    }

pub judged_all : (g : Geometry) (p : Plan) (m : RunMap) (i : ℕ) → Judged g p m i → length p.volumes ≤ i → All (IsVolumeApart g p) p.volumes
judged_all g p m i so_far past j d within = so_far.front j d (omega arith) within
