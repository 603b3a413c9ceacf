-- The table of a record, both ways.
use Rattle.std.proofs.Common.{◌≡◌, ◌<◌, ℕ, true, refl, sym, ◌∙◌, ap, subst, List, [], ◌∷◌, length, get_or, map, Ok, Err, arith}
use Rattle.std.proofs.lemmas.List.{get_or-map, length-map}
use Rattle.std.proofs.lemmas.List.Elements.{All-map}
use Rattle.std.specs.Prelude.{All, AllPairs}
use Rattle.mdv_codec.specs.Record.{record_text, IsRecord, IsRead}
use Rattle.mdv_fields.specs.declared.fault.RecordError.{RecordError}
use Rattle.mdv_fields.specs.declared.fault.RecordError.TheVariants.{NotARecord, Memory}
use Rattle.mdv_plan.specs.Sorted.{IsAscending, IsSorted}
use Rattle.mdv_whole.specs.Below.{Recorded, SpareStatus, VolumeStatus, Table, Pool, Volume}
use Rattle.mdv_whole.specs.Parted.{plan_volume, noted_volume, plan_pool, spare_states, table_of}
use Rattle.mdv_whole.specs.Settled.{are_settled}
use Rattle.mdv_whole.specs.Sides.{recorded_of}
use Rattle.mdv_whole.specs.Text.{table_text, IsTable, IsDecoded}
use Rattle.mdv_whole.proofs.Back.{recorded_back, own_pools}

-- keys that ascend do so of the sides too
pub ascending_sides : {R T : Type 0} (key : T → ℕ) (side : R → T) (rs : List R) → AllPairs (λ x y. key (side x) < key (side y)) rs → IsAscending key (map side rs)
ascending_sides key side [] up i j d before within = absurd (omega arith)
ascending_sides {R} {T} key side (q ∷ qs) up i j d before within =
    let inside : j < length (q ∷ qs) = omega (arith, within, length-map (q ∷ qs) side) in
    let first = get_or-map side (q ∷ qs) i q d (omega (arith, before, inside)) in
    let second = get_or-map side (q ∷ qs) j q d inside in
    subst (λ (b : T). key (get_or (map side (q ∷ qs)) i d) < key b) (sym second) (subst (λ (a : T). key a < key (side (get_or (q ∷ qs) j q))) (sym first) (up i j q before inside))

sorted_sides : {R T : Type 0} (key : T → ℕ) (side : R → T) (limit : ℕ) (rs : List R) → AllPairs (λ x y. key (side x) < key (side y)) rs → All (λ x. key (side x) < limit) rs → IsSorted key limit (map side rs)
sorted_sides key side limit rs up low = record {
  ascending = ascending_sides key side rs up;
  keys = All-map (λ t. key t < limit) side rs low;
}

module _ {r : Recorded} (is : IsRecord r) where
  pub volumes_sorted : IsSorted (λ (v : Volume). v.number.0) 8192 (map plan_volume r.volumes)
  volumes_sorted = sorted_sides (λ v. v.number.0) plan_volume 8192 r.volumes is.fits.volumes.ascending (λ i d within. (is.fits.volumes.list.each i d within).0)

  pub notes_sorted : IsSorted (λ (v : VolumeStatus). v.number.0) 8192 (map noted_volume r.volumes)
  notes_sorted = sorted_sides (λ v. v.number.0) noted_volume 8192 r.volumes is.fits.volumes.ascending (λ i d within. (is.fits.volumes.list.each i d within).0)

  pub pools_sorted : IsSorted (λ (p : Pool). p.number.0) 1000 (map plan_pool r.pools)
  pools_sorted = sorted_sides (λ p. p.number.0) plan_pool 1000 r.pools is.fits.pools.ascending (λ i d within. (is.fits.pools.list.each i d within).0)

module _ {bytes : List ℕ} where
  pub not_read : {e : RecordError} → IsRead bytes (Err e) → IsDecoded bytes (Err e)
  not_read read = record { read = tt; spelled = λ t is text. read.spelled (recorded_of t) is.record_fits text }

  pub no_memory : IsDecoded bytes (Err Memory)
  no_memory = record { read = tt; spelled = λ t is text. refl }

  module _ {r : Recorded} (read : IsRead bytes (Ok r)) where
    same_record : (t : Table) → IsTable t → bytes ≡ table_text t → r ≡ recorded_of t
    same_record t is text = read.spelled (recorded_of t) is.record_fits text

    pub not_settled : (are_settled (spare_states r.pools) r.pools ≡ true → ⊥) → IsDecoded bytes (Err NotARecord)
    not_settled other = record {
      read = tt;
      spelled = λ t is text.
          let same = same_record t is text in
          let states : spare_states (recorded_of t).pools ≡ t.status.spares = ap (λ (u : Table). u.status.spares) is.whole in
          let own : are_settled (spare_states (recorded_of t).pools) (recorded_of t).pools ≡ true =
          ap (λ (s : List SpareStatus). are_settled s (recorded_of t).pools) states ∙ own_pools t.status.spares t.plan.pools in
          absurd (other (ap (λ (u : Recorded). are_settled (spare_states u.pools) u.pools) same ∙ own));
    }

    pub is_table : are_settled (spare_states r.pools) r.pools ≡ true → IsDecoded bytes (Ok (table_of r))
    is_table settled =
        let back = recorded_back r read.read.0 settled in
        record {
          read = (
            record { whole = ap table_of back; record_fits = subst IsRecord (sym back) read.read.0 },
            read.read.1 ∙ ap record_text (sym back),
          );
          spelled = λ t is text. ap table_of (same_record t is text) ∙ is.whole;
        }
