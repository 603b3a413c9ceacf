-- A table of which all is noted is the table of its record.
use Rattle.std.proofs.Common.{◌≡◌, ◌≤◌, ◌+◌, ℕ, refl, sym, ◌∙◌, ap, List, [], ◌∷◌, ◌++◌, length, map, take, drop, ◌⊎◌, Result, Ok, Err, inl, inr, arith}
use Rattle.std.proofs.lemmas.List.{take_all, take-append-drop, length-drop}
use Rattle.std.proofs.lemmas.List.Sums.{sum_by-cons}
use Rattle.std.specs.List.{sum_by, AllZip}
use Rattle.std.specs.Prelude.{flat_map}
use Rattle.mdv_codec.specs.Record.{IsRecord}
use Rattle.mdv_fields.specs.declared.fault.RecordError.{RecordError}
use Rattle.mdv_fields.specs.declared.fault.RecordError.TheVariants.{Memory}
use Rattle.mdv_plan.specs.declared.status.KindStatus.TheVariants.{Stripe as StripeNoted, Mirror as MirrorNoted, Raid as RaidNoted, Soft as SoftNoted}
use Rattle.mdv_plan.specs.declared.volume.VolumeKind.TheVariants.{Stripe as StripeKind, Mirror as MirrorKind, Raid as RaidKind, Soft as SoftKind}
use Rattle.mdv_whole.specs.Below.{KindStatus, PartStatus, VolumeStatus, Table, Row, Spare, SpareStatus, Pool, Volume, VolumeKind}
use Rattle.mdv_whole.specs.Noted.{width, IsKindNoted, IsVolumeNoted, IsNoted}
use Rattle.mdv_whole.specs.Parted.{component_in, status_in, volume_in, offline_in, spare_in, row_in, row_states, kind_in, noted_in, plan_volume, noted_volume, plan_pool}
use Rattle.mdv_whole.specs.Sides.{beside, part_of, rows_of, submirror_of, kind_of, volume_of, spare_of, pool_of, recorded_of}
use Rattle.mdv_whole.specs.Text.{table_text, IsTable, IsDecoded}

module _ {A B R : Type 0} (f : A → B → R) where
  ones : (one : R → A) → ((x : A) (y : B) → one (f x y) ≡ x) → (xs : List A) (ys : List B) → length xs ≤ length ys → map one (beside f xs ys) ≡ xs
  ones one each [] ys within = refl
  ones one each (x ∷ xs) [] within = absurd (omega arith)
  ones one each (x ∷ xs) (y ∷ ys) within = λ i. each x y i ∷ ones one each xs ys (omega arith) i

  others : (other : R → B) → ((x : A) (y : B) → other (f x y) ≡ y) → (xs : List A) (ys : List B) → map other (beside f xs ys) ≡ take (length xs) ys
  others other each [] ys = refl
  others other each (x ∷ xs) [] = refl
  others other each (x ∷ xs) (y ∷ ys) = λ i. each x y i ∷ others other each xs ys i

  all_others : (other : R → B) → ((x : A) (y : B) → other (f x y) ≡ y) → (xs : List A) (ys : List B) → length ys ≤ length xs → map other (beside f xs ys) ≡ ys
  all_others other each xs ys within = others other each xs ys ∙ take_all (length xs) ys within

abbrev rows_width : List Row → ℕ
rows_width [] = 0
rows_width (r ∷ rs) = length r.components + rows_width rs

rows_planned : (rows : List Row) (states : List PartStatus) → rows_width rows ≤ length states → map row_in (rows_of rows states) ≡ rows
rows_planned [] states within = refl
rows_planned (r ∷ rs) states within =
    let here : length r.components ≤ length states = omega arith in
    let behind : rows_width rs ≤ length (drop (length r.components) states) = omega (arith, length-drop (length r.components) states) in
    λ i. record { interlace = r.interlace; components = ones part_of component_in (λ c s. refl) r.components states here i } ∷ rows_planned rs (drop (length r.components) states) behind i

rows_noted : (rows : List Row) (states : List PartStatus) → length states ≡ rows_width rows → flat_map row_states (rows_of rows states) ≡ states
rows_noted [] [] size = refl
rows_noted [] (s ∷ ss) size = absurd (omega arith)
rows_noted (r ∷ rs) states size =
    let n = length r.components in
    let behind : length (drop n states) ≡ rows_width rs = omega (arith, length-drop n states) in
    (λ i. others part_of status_in (λ c s. refl) r.components states i ++ rows_noted rs (drop n states) behind i) ∙ take-append-drop n states

width_is : (rows : List Row) → rows_width rows ≡ sum_by width rows
width_is [] = refl
width_is (r ∷ rs) = ap (λ (n : ℕ). length r.components + n) (width_is rs) ∙ sym (sum_by-cons width r rs)

kind_planned : (k : VolumeKind) (n : KindStatus) → IsKindNoted k n → kind_in (kind_of k n) ≡ k
kind_planned (StripeKind s) (StripeNoted states) is = λ i. StripeKind (record { rows = rows_planned s.rows states (omega (arith, is.0, width_is s.rows)) i; spares = s.spares })
kind_planned (StripeKind s) (MirrorNoted n) is = absurd is
kind_planned (StripeKind s) (RaidNoted n) is = absurd is
kind_planned (StripeKind s) SoftNoted is = absurd is
kind_planned (MirrorKind m) (MirrorNoted n) is = λ i. MirrorKind (record { submirrors = ones submirror_of volume_in (λ v o. refl) m.submirrors n.offline (omega (arith, is)) i; read = m.read; write = m.write; pass = m.pass; blocks = m.blocks })
kind_planned (MirrorKind m) (StripeNoted states) is = absurd is
kind_planned (MirrorKind m) (RaidNoted n) is = absurd is
kind_planned (MirrorKind m) SoftNoted is = absurd is
kind_planned (RaidKind r) (RaidNoted n) is = λ i. RaidKind (record { columns = ones part_of component_in (λ c s. refl) r.columns n.columns (omega (arith, is)) i; interlace = r.interlace; units = r.units; spares = r.spares })
kind_planned (RaidKind r) (StripeNoted states) is = absurd is
kind_planned (RaidKind r) (MirrorNoted n) is = absurd is
kind_planned (RaidKind r) SoftNoted is = absurd is
kind_planned (SoftKind s) SoftNoted is = refl
kind_planned (SoftKind s) (StripeNoted states) is = absurd is
kind_planned (SoftKind s) (MirrorNoted n) is = absurd is
kind_planned (SoftKind s) (RaidNoted n) is = absurd is

kind_noted : (k : VolumeKind) (n : KindStatus) → IsKindNoted k n → noted_in (kind_of k n) ≡ n
kind_noted (StripeKind s) (StripeNoted states) is =
    ap StripeNoted (ap (take 100) (rows_noted s.rows states (is.0 ∙ sym (width_is s.rows))) ∙ take_all 100 states is.1)
kind_noted (StripeKind s) (MirrorNoted n) is = absurd is
kind_noted (StripeKind s) (RaidNoted n) is = absurd is
kind_noted (StripeKind s) SoftNoted is = absurd is
kind_noted (MirrorKind m) (MirrorNoted n) is = λ i. MirrorNoted (record { offline = all_others submirror_of offline_in (λ v o. refl) m.submirrors n.offline (omega (arith, is)) i; dirty = n.dirty })
kind_noted (MirrorKind m) (StripeNoted states) is = absurd is
kind_noted (MirrorKind m) (RaidNoted n) is = absurd is
kind_noted (MirrorKind m) SoftNoted is = absurd is
kind_noted (RaidKind r) (RaidNoted n) is = λ i. RaidNoted (record { state = n.state; columns = all_others part_of status_in (λ c s. refl) r.columns n.columns (omega (arith, is)) i })
kind_noted (RaidKind r) (StripeNoted states) is = absurd is
kind_noted (RaidKind r) (MirrorNoted n) is = absurd is
kind_noted (RaidKind r) SoftNoted is = absurd is
kind_noted (SoftKind s) SoftNoted is = refl
kind_noted (SoftKind s) (StripeNoted states) is = absurd is
kind_noted (SoftKind s) (MirrorNoted n) is = absurd is
kind_noted (SoftKind s) (RaidNoted n) is = absurd is

volumes_planned : (vs : List Volume) (ns : List VolumeStatus) → AllZip IsVolumeNoted vs ns → map plan_volume (beside volume_of vs ns) ≡ vs
volumes_planned [] [] all = refl
volumes_planned [] (n ∷ ns) all = absurd all
volumes_planned (v ∷ vs) [] all = absurd all
volumes_planned (v ∷ vs) (n ∷ ns) all = λ i. record { number = v.number; kind = kind_planned v.kind n.kind all.0.kind i } ∷ volumes_planned vs ns all.1 i

volumes_noted : (vs : List Volume) (ns : List VolumeStatus) → AllZip IsVolumeNoted vs ns → map noted_volume (beside volume_of vs ns) ≡ ns
volumes_noted [] [] all = refl
volumes_noted [] (n ∷ ns) all = absurd all
volumes_noted (v ∷ vs) [] all = absurd all
volumes_noted (v ∷ vs) (n ∷ ns) all = λ i. record { number = sym all.0.number i; kind = kind_noted v.kind n.kind all.0.kind i } ∷ volumes_noted vs ns all.1 i

module _ (states : List SpareStatus) where
  spares_planned : (ss : List Spare) → map spare_in (map (spare_of states) ss) ≡ ss
  spares_planned [] = refl
  spares_planned (s ∷ ss) = ap (λ (l : List Spare). s ∷ l) (spares_planned ss)

  pools_planned : (ps : List Pool) → map plan_pool (map (pool_of states) ps) ≡ ps
  pools_planned [] = refl
  pools_planned (p ∷ ps) = λ i. record { number = p.number; spares = spares_planned p.spares i } ∷ pools_planned ps i

pub noted_is_table : (t : Table) → IsNoted t → IsRecord (recorded_of t) → IsTable t
noted_is_table t noted is = record {
  whole = λ i. record {
    plan = record {
      lists = t.plan.lists;
      set = t.plan.set;
      pending = t.plan.pending;
      pools = pools_planned t.status.spares t.plan.pools i;
      volumes = volumes_planned t.plan.volumes t.status.volumes noted.volumes i;
    };
    status = record { volumes = volumes_noted t.plan.volumes t.status.volumes noted.volumes i; spares = noted.spares i };
  };
  record_fits = is;
}

-- what was written of a table is read again
pub read_again : (t : Table) (answer : Result Table RecordError) → IsTable t → IsDecoded (table_text t) answer → (answer ≡ Ok t) ⊎ (answer ≡ Err Memory)
read_again t (Ok s) is decoded = inl (ap Ok (decoded.spelled t is refl))
read_again t (Err e) is decoded = inr (ap Err (decoded.spelled t is refl))
