-- Extents that come in order on each base lie apart.
use Rattle.std.proofs.Common.{◌≡◌, ◌<◌, ◌≤◌, ◌==◌, ◌++◌, ◌+◌, ℕ, suc, Option, None, Some, unwrap_or, Bool, true, false, cond, List, [], ◌∷◌, length, map, take, get_or, refl, sym, ◌∙◌, ap, subst, arith}
use Rattle.std.proofs.lemmas.Bool.Decides.{nat_tests}
use Rattle.std.proofs.lemmas.List.{append-nil, map-append, take_more}
use Rattle.std.proofs.lemmas.List.Elements.{All-append, All-push, All-weaker}
use Rattle.std.proofs.lemmas.List.Sums.{list_all-from_AllPass}
use Rattle.std.specs.List.{All, list_all}
use Rattle.std.specs.Option.{option_map, option_or}
use Rattle.mdv_extent.proofs.Taking.{apart_in_order}
use Rattle.mdv_extent.specs.Extents.{IsExtent}
use Rattle.mdv_extent.specs.Runs.{IsInOrder, end_of, with_header}
use Rattle.mdv_extent.specs.declared.run.Run.{Run}
use Rattle.mdv_fitting.specs.Below.{Geometry, IsSound, OneSoft, OneVolume, Plan, VolumeKind, Stripe, Mirror, Raid, Soft}
use Rattle.mdv_fitting.specs.Climb.{Climbs, KindClimbs, LastOn, SoftClimbs, StaysEnd, end_at, last_end, last_start, start_by}
use Rattle.mdv_fitting.specs.Held.{PutsValue, held}
use Rattle.mdv_fitting.specs.Keys.{base_key, kind_runs_at, kind_start_at, runs_at, start_at, volume_runs_at}
use Rattle.mdv_fitting.specs.OnBases.{AreOnBases, is_counted, is_kind_counted, may_count}
use Rattle.mdv_fitting.specs.Runs.{AreSameSize, IsKindApart, IsVolumeApart, SameSize, soft_size}
use Rattle.mdv_fitting.specs.Starts.{is_joined_in, is_kind_joined_in, is_some_at}
use Rattle.mdv_fitting.specs.declared.climb.Last.{Last}
use Rattle.mdv_fitting.specs.declared.held.Held.{Held}
use Rattle.mdv_fitting.proofs.Basing.{bases_are, one_size}
use Rattle.mdv_fitting.proofs.Judging.{runs_last}
use Rattle.mdv_fitting.proofs.Starting.{or_none, start_last}

order_ends : (low high : ℕ) (runs : List Run) → IsInOrder low high runs → low ≤ high
order_ends low high [] order = order
order_ends low high (r ∷ runs) order =
    let rest = order_ends (end_of r) high runs order.1 in
    omega (arith, order.0, rest)

order_append : (low mid high : ℕ) (xs ys : List Run) → IsInOrder low mid xs → IsInOrder mid high ys → IsInOrder low high (xs ++ ys)
order_append low mid high [] ys front behind = wider ys behind
  where
    wider : (runs : List Run) → IsInOrder mid high runs → IsInOrder low high runs
    wider [] order = omega (arith, front, order)
    wider (r ∷ runs) order = (omega (arith, front, order.0), order.1)
order_append low mid high (x ∷ xs) ys front behind = (front.0, order_append (end_of x) mid high xs ys front.1 behind)

none_climb : (blocks end : ℕ) → Climbs blocks end end []
none_climb blocks end = record { lie = λ k d within. absurd (omega arith); order = omega arith }

-- with one extent more
climb_more : (blocks end last : ℕ) (runs : List Run) (r : Run) → Climbs blocks end last runs → last < r.at → IsExtent blocks r → Climbs blocks end (r.at + r.blocks) (runs ++ r ∷ [])
climb_more blocks end last runs r climbs behind is =
    let one : IsInOrder last (r.at + r.blocks) (with_header r ∷ []) = (omega (arith, behind), omega (arith, behind)) in
    record {
      lie = All-push (IsExtent blocks) runs r climbs.lie is;
      order = subst (IsInOrder end (r.at + r.blocks)) (sym (map-append with_header runs (r ∷ []))) (order_append end last (r.at + r.blocks) (map with_header runs) (with_header r ∷ []) climbs.order one);
    }

-- at a place of a list
pub climb_step : (blocks end last : ℕ) (runs : List Run) (i : ℕ) (d : Run) → i < length runs → Climbs blocks end last (take i runs) → last < (get_or runs i d).at → IsExtent blocks (get_or runs i d) → Climbs blocks end ((get_or runs i d).at + (get_or runs i d).blocks) (take (i + 1) runs)
climb_step blocks end last runs i d within climbs behind is =
    let r = get_or runs i d in
    subst (Climbs blocks end (r.at + r.blocks)) (sym (take_more runs i d within)) (climb_more blocks end last (take i runs) r climbs behind is)

pub climb_none : (blocks end : ℕ) → Climbs blocks end end []
climb_none blocks end = none_climb blocks end

abbrev pub IsKindLaid : Geometry → Plan → VolumeKind → Type 0
IsKindLaid g p (Soft s) = All (IsExtent (soft_size g p s)) s.extents
IsKindLaid g p _ = Unit {0}

abbrev pub IsVolumeLaid : Geometry → Plan → OneVolume → Type 0
IsVolumeLaid g p w = IsKindLaid g p w.kind

-- a soft partition counts from where its base's first one does
abbrev pub IsKindJoined : Held Last → VolumeKind → Type 0
IsKindJoined m (Soft s) = start_by m (base_key s.base) ≡ Some s.start
IsKindJoined m _ = Unit {0}

abbrev pub IsVolumeJoined : Held Last → OneVolume → Type 0
IsVolumeJoined m w = IsKindJoined m w.kind

-- the extents of these come in order on each base, and are counted from one block there
pub record Climbed (g : Geometry) (p : Plan) (vs : List OneVolume) (m : Held Last) : Type 0 where
  pub order : (k : ℕ) → IsInOrder 0 (end_at m k) (map with_header (runs_at k vs))
  pub starts : (k : ℕ) → start_by m k ≡ start_at k vs
  pub lie : All (IsVolumeLaid g p) vs
  pub counted : All (λ v. is_counted g p.lists v ≡ true) vs
  pub joined : All (IsVolumeJoined m) vs

pub climbed_none : (g : Geometry) (p : Plan) (m : Held Last) → ((k : ℕ) → held m k ≡ None) → Climbed g p [] m
climbed_none g p m none = record {
  order = λ k. omega arith;
  starts = λ k. ap (option_map last_start) (none k);
  lie = λ k d within. absurd (omega arith);
  counted = λ k d within. absurd (omega arith);
  joined = λ k d within. absurd (omega arith);
}

kind_laid : (g : Geometry) (p : Plan) (m n : Held Last) (kind : VolumeKind) → KindClimbs g p m kind n → IsKindLaid g p kind
kind_laid g p m n (Soft s) climbs = climbs.runs.lie
kind_laid g p m n (Stripe s) climbs = tt
kind_laid g p m n (Mirror s) climbs = tt
kind_laid g p m n (Raid s) climbs = tt

stays_order : (m n : Held Last) (k : ℕ) (runs : List Run) → StaysEnd m n k → IsInOrder 0 (end_at m k) (map with_header runs) → IsInOrder 0 (end_at n k) (map with_header (runs ++ []))
stays_order m n k runs stays order = subst (λ (l : List Run). IsInOrder 0 (end_at n k) (map with_header l)) (sym (append-nil runs)) (subst (λ (e : ℕ). IsInOrder 0 e (map with_header runs)) (sym stays) order)

kind_order : (g : Geometry) (p : Plan) (m n : Held Last) (kind : VolumeKind) (k : ℕ) (runs : List Run) → KindClimbs g p m kind n → IsInOrder 0 (end_at m k) (map with_header runs) → IsInOrder 0 (end_at n k) (map with_header (runs ++ kind_runs_at k kind))
kind_order g p m n (Soft s) k runs climbs order =
    elim (base_key s.base == k) as (λ b. (base_key s.base == k) ≡ b → IsInOrder 0 (end_at n k) (map with_header (runs ++ cond b s.extents []))) [
      | true ↦ λ is.
          let key : base_key s.base ≡ k = grind (arith, nat_tests) in
          let behind : IsInOrder (end_at m k) (end_at n k) (map with_header s.extents) = subst (λ (x : ℕ). IsInOrder (end_at m x) (end_at n x) (map with_header s.extents)) key climbs.runs.order in
          subst (IsInOrder 0 (end_at n k)) (sym (map-append with_header runs s.extents)) (order_append 0 (end_at m k) (end_at n k) (map with_header runs) (map with_header s.extents) order behind)
      | false ↦ λ other. stays_order m n k runs (climbs.others k other) order
    ] refl
kind_order g p m n (Stripe s) k runs climbs order = stays_order m n k runs (ap (λ (l : Held Last). end_at l k) climbs) order
kind_order g p m n (Mirror s) k runs climbs order = stays_order m n k runs (ap (λ (l : Held Last). end_at l k) climbs) order
kind_order g p m n (Raid s) k runs climbs order = stays_order m n k runs (ap (λ (l : Held Last). end_at l k) climbs) order

stays_start : (m n : Held Last) (k : ℕ) → n ≡ m → start_by n k ≡ option_or (start_by m k) None
stays_start m n k same = ap (λ (l : Held Last). start_by l k) same ∙ sym (or_none (start_by m k))

kind_starts : (g : Geometry) (p : Plan) (m n : Held Last) (kind : VolumeKind) → KindClimbs g p m kind n → (k : ℕ) → start_by n k ≡ option_or (start_by m k) (kind_start_at k kind)
kind_starts g p m n (Soft s) climbs k = climbs.starts k
kind_starts g p m n (Stripe s) climbs k = stays_start m n k climbs
kind_starts g p m n (Mirror s) climbs k = stays_start m n k climbs
kind_starts g p m n (Raid s) climbs k = stays_start m n k climbs

kind_counted : (g : Geometry) (p : Plan) (m n : Held Last) (kind : VolumeKind) → KindClimbs g p m kind n → is_kind_counted g p.lists kind ≡ true
kind_counted g p m n (Soft s) climbs = climbs.counted
kind_counted g p m n (Stripe s) climbs = refl
kind_counted g p m n (Mirror s) climbs = refl
kind_counted g p m n (Raid s) climbs = refl

kind_joins : (g : Geometry) (p : Plan) (m n : Held Last) (kind : VolumeKind) → KindClimbs g p m kind n → IsKindJoined n kind
kind_joins g p m n (Soft s) climbs = climbs.joined
kind_joins g p m n (Stripe s) climbs = tt
kind_joins g p m n (Mirror s) climbs = tt
kind_joins g p m n (Raid s) climbs = tt

-- who has joined stays so
stays_joined : (m n : Held Last) (more : ℕ → Option ℕ) → ((k : ℕ) → start_by n k ≡ option_or (start_by m k) (more k)) → (kind : VolumeKind) → IsKindJoined m kind → IsKindJoined n kind
stays_joined m n more starts (Soft s) joined = starts (base_key s.base) ∙ ap (λ (o : Option ℕ). option_or o (more (base_key s.base))) joined
stays_joined m n more starts (Stripe s) joined = tt
stays_joined m n more starts (Mirror s) joined = tt
stays_joined m n more starts (Raid s) joined = tt

-- with one volume more
pub climbed_more : (g : Geometry) (p : Plan) (vs : List OneVolume) (v : OneVolume) (m n : Held Last) → Climbed g p vs m → KindClimbs g p m v.kind n → Climbed g p (vs ++ v ∷ []) n
climbed_more g p vs v m n climbed climbs =
    let starts = kind_starts g p m n v.kind climbs in
    record {
      order = λ k. subst (λ (l : List Run). IsInOrder 0 (end_at n k) (map with_header l)) (sym (runs_last k vs v)) (kind_order g p m n v.kind k (runs_at k vs) climbs (climbed.order k));
      starts = λ k. starts k ∙ ap (λ (o : Option ℕ). option_or o (kind_start_at k v.kind)) (climbed.starts k) ∙ sym (start_last k vs v);
      lie = All-push (IsVolumeLaid g p) vs v climbed.lie (kind_laid g p m n v.kind climbs);
      counted = All-push (λ (w : OneVolume). is_counted g p.lists w ≡ true) vs v climbed.counted (kind_counted g p m n v.kind climbs);
      joined = All-push (IsVolumeJoined n) vs v (All-weaker (IsVolumeJoined m) (IsVolumeJoined n) (λ w is. stays_joined m n (λ k. kind_start_at k v.kind) starts w.kind is) vs climbed.joined) (kind_joins g p m n v.kind climbs);
    }

abbrev IsLaidAt : ℕ → ℕ → VolumeKind → Type 0
IsLaidAt k blocks (Soft t) = base_key t.base ≡ k → All (IsExtent blocks) t.extents
IsLaidAt k blocks _ = Unit {0}

none_lie : (blocks : ℕ) → All (IsExtent blocks) []
none_lie blocks k d within = absurd (omega arith)

runs_laid : (k blocks : ℕ) (vs : List OneVolume) → All (λ w. IsLaidAt k blocks w.kind) vs → All (IsExtent blocks) (runs_at k vs)
runs_laid k blocks [] all = none_lie blocks
runs_laid k blocks (v ∷ vs) all = All-append (IsExtent blocks) (volume_runs_at k v) (runs_at k vs) (one v.kind (all 0 v (omega arith))) (runs_laid k blocks vs (λ i d within. all (suc i) d (omega arith)))
  where
    one : (kind : VolumeKind) → IsLaidAt k blocks kind → All (IsExtent blocks) (kind_runs_at k kind)
    one (Soft t) laid = elim (base_key t.base == k) as (λ b. (base_key t.base == k) ≡ b → All (IsExtent blocks) (cond b t.extents [])) [
      | true ↦ λ is. laid (grind (arith, nat_tests))
      | false ↦ λ _. none_lie blocks
    ] refl
    one (Stripe t) laid = none_lie blocks
    one (Mirror t) laid = none_lie blocks
    one (Raid t) laid = none_lie blocks

pub climbed_all : (g : Geometry) (p : Plan) (m : Held Last) → AreSameSize g p → Climbed g p p.volumes m → All (IsVolumeApart g p) p.volumes
climbed_all g p m sizes climbed j d within = kind_apart (get_or p.volumes j d).kind (sizes j d within)
  where
    laid_at : (s : OneSoft) (kind : VolumeKind) → SameSize g p (Soft s) kind → IsKindLaid g p kind → IsLaidAt (base_key s.base) (soft_size g p s) kind
    laid_at s (Soft t) same laid = λ key. subst (λ (n : ℕ). All (IsExtent n) t.extents) (sym (same (sym key))) laid
    laid_at s (Stripe t) same laid = tt
    laid_at s (Mirror t) same laid = tt
    laid_at s (Raid t) same laid = tt

    kind_apart : (kind : VolumeKind) → All (λ w. SameSize g p kind w.kind) p.volumes → IsKindApart g p kind
    kind_apart (Soft s) same = record {
      lie = runs_laid (base_key s.base) (soft_size g p s) p.volumes (λ i e inside. laid_at s (get_or p.volumes i e).kind (same i e inside) (climbed.lie i e inside));
      apart = apart_in_order 0 (end_at m (base_key s.base)) (runs_at (base_key s.base) p.volumes) (climbed.order (base_key s.base));
    }
    kind_apart (Stripe s) same = tt
    kind_apart (Mirror s) same = tt
    kind_apart (Raid s) same = tt

is_same : (n : ℕ) → (n == n) ≡ true
is_same n = grind (arith, nat_tests)

-- a table whose extents all come in order lies on its bases
pub climbed_on : (g : Geometry) (p : Plan) (m : Held Last) → IsSound g → Climbed g p p.volumes m → AreOnBases g p
climbed_on g p m sound climbed = (bases_are g p true sound counted joined (λ _. apart, λ _. refl)).0 refl
  where
    counted : list_all (is_counted g p.lists) p.volumes ≡ true
    counted = list_all-from_AllPass (is_counted g p.lists) p.volumes climbed.counted

    kind_joined : (kind : VolumeKind) → IsKindJoined m kind → is_kind_joined_in p.volumes kind ≡ true
    kind_joined (Soft s) is = ap (is_some_at s.start) (sym (climbed.starts (base_key s.base)) ∙ is) ∙ is_same s.start
    kind_joined (Stripe s) is = refl
    kind_joined (Mirror s) is = refl
    kind_joined (Raid s) is = refl

    joined : list_all (is_joined_in p.volumes) p.volumes ≡ true
    joined = list_all-from_AllPass (is_joined_in p.volumes) p.volumes (λ k d within. kind_joined (get_or p.volumes k d).kind (climbed.joined k d within))

    apart : All (IsVolumeApart g p) p.volumes
    apart = climbed_all g p m (one_size g p sound counted joined) climbed

last_ends : (o : Option Last) (start : ℕ) (last : Last) → last ≡ unwrap_or o (record { start = start; end = 0 }) → last.end ≡ unwrap_or (option_map last_end o) 0
last_ends None start last is = ap last_end is
last_ends (Some l) start last is = ap last_end is

last_starts : (o : Option Last) (start : ℕ) (last : Last) → last ≡ unwrap_or o (record { start = start; end = 0 }) → last.start ≡ start → option_or (option_map last_start o) (Some start) ≡ Some start
last_starts None start last is same = refl
last_starts (Some l) start last is same = ap Some (sym (ap last_start is) ∙ same)

-- where the new last one of its base is put in
pub soft_climbs : (g : Geometry) (p : Plan) (m n : Held Last) (s : OneSoft) (size key : ℕ) (last : Last) (end : ℕ) → may_count g p.lists s.base s.start ≡ true → size ≡ soft_size g p s → key ≡ base_key s.base → LastOn m key s.start last → last.start ≡ s.start → Climbs size last.end end s.extents → PutsValue m key (record { start = s.start; end = end }) n → SoftClimbs g p m s n
soft_climbs g p m n s size key last end counted size_is key_is is same climbs puts = record {
  counted = counted;
  joined = ap (start_by n) (sym key_is) ∙ ap (option_map last_start) put;
  starts = λ k. starts k;
  runs = subst (λ (b : ℕ). Climbs b (end_at m (base_key s.base)) (end_at n (base_key s.base)) s.extents) size_is (subst (λ (k : ℕ). Climbs size (end_at m k) (end_at n k) s.extents) key_is runs);
  others = λ k other. ap (λ (o : Option Last). unwrap_or (option_map last_end o) 0) (puts k ∙ ap (λ (b : Bool). cond b (Some new) (held m k)) (ap (λ (x : ℕ). x == k) key_is ∙ other));
}
  where
    new : Last
    new = record { start = s.start; end = end }

    put : held n key ≡ Some new
    put = puts key ∙ ap (λ (b : Bool). cond b (Some new) (held m key)) (is_same key)

    runs : Climbs size (end_at m key) (end_at n key) s.extents
    runs = subst (λ (e : ℕ). Climbs size e (end_at n key) s.extents) (last_ends (held m key) s.start last is) (subst (λ (e : ℕ). Climbs size last.end e s.extents) (sym (ap (λ (o : Option Last). unwrap_or (option_map last_end o) 0) put)) climbs)

    starts_at : (k : ℕ) → start_by n k ≡ option_or (start_by m k) (cond (key == k) (Some s.start) None)
    starts_at k = elim (key == k) as (λ b. (key == k) ≡ b → start_by n k ≡ option_or (start_by m k) (cond b (Some s.start) None)) [
      | true ↦ λ here.
          let one : key ≡ k = grind (arith, nat_tests) in
          subst (λ (x : ℕ). start_by n x ≡ option_or (start_by m x) (Some s.start)) one (ap (option_map last_start) put ∙ sym (last_starts (held m key) s.start last is same))
      | false ↦ λ other. ap (option_map last_start) (puts k ∙ ap (λ (b : Bool). cond b (Some new) (held m k)) other) ∙ sym (or_none (start_by m k))
    ] refl

    starts : (k : ℕ) → start_by n k ≡ option_or (start_by m k) (kind_start_at k (Soft s))
    starts k = starts_at k ∙ ap (λ (x : ℕ). option_or (start_by m k) (cond (x == k) (Some s.start) None)) key_is
