-- What came apart is put together again: the record of a record's table is that record.
use Rattle.std.proofs.Common.{◌≡◌, ℕ, true, refl, sym, ◌∙◌, ap, List, [], ◌∷◌, ◌++◌, append_assoc, length, map, drop, arith}
use Rattle.std.proofs.Math.Seq.{drop-append_seam}
use Rattle.std.proofs.lemmas.Bool.{and_parts, and_from}
use Rattle.std.proofs.lemmas.List.{append-nil, length-map, take_all}
use Rattle.std.proofs.lemmas.List.Concat.{length-flat_map}
use Rattle.std.proofs.lemmas.List.Elements.{All-head, All-tail}
use Rattle.std.specs.List.{sum_by, list_all}
use Rattle.std.specs.Prelude.{All, IsTrue, flat_map}
use Rattle.mdv_codec.specs.Record.{IsRecord}
use Rattle.mdv_codec.specs.Recorded.{width_of, StripeFits, KindFits, VolumeFits}
use Rattle.mdv_codec.specs.declared.recorded.RecordedKind.TheVariants.{Stripe, Mirror, Raid, Soft}
use Rattle.mdv_plan.specs.declared.status.SpareState.TheVariants.{Available, InUse, Broken}
use Rattle.mdv_whole.specs.Below.{Recorded, RecordedKind, RecordedPart, RecordedPool, RecordedRow, RecordedSpare, RecordedStripe, RecordedSubmirror, RecordedVolume, PartStatus, Pool, Spare, SpareState, SpareStatus}
use Rattle.mdv_whole.specs.Parted.{component_in, status_in, volume_in, offline_in, spare_in, row_in, row_states, stripe_states, kind_in, noted_in, plan_volume, noted_volume, plan_pool, spare_states, table_of}
use Rattle.mdv_whole.specs.Settled.{is_same, is_settled, is_pool_settled, are_settled}
use Rattle.mdv_whole.specs.Sides.{beside, part_of, rows_of, submirror_of, kind_of, volume_of, state_in, spare_of, pool_of, recorded_of}

-- both sides of each, put together, with more behind the second
module _ {A B R : Type 0} (f : A → B → R) (one : R → A) (other : R → B) where
  pub back : (P : R → Type 0) → ((r : R) → P r → f (one r) (other r) ≡ r) → (rs : List R) (more : List B) → All P rs → beside f (map one rs) (map other rs ++ more) ≡ rs
  back P each [] more all = refl
  back P each (r ∷ rs) more all = λ i. each r (All-head P r rs all) i ∷ back P each rs more (All-tail P r rs all) i

  pub always_back : ((r : R) → f (one r) (other r) ≡ r) → (rs : List R) (more : List B) → beside f (map one rs) (map other rs ++ more) ≡ rs
  always_back each [] more = refl
  always_back each (r ∷ rs) more = λ i. each r i ∷ always_back each rs more i

parts_back : (ps : List RecordedPart) (more : List PartStatus) → beside part_of (map component_in ps) (map status_in ps ++ more) ≡ ps
parts_back ps more = always_back part_of component_in status_in (λ p. refl) ps more

all_parts_back : (ps : List RecordedPart) → beside part_of (map component_in ps) (map status_in ps) ≡ ps
all_parts_back ps = ap (λ (l : List PartStatus). beside part_of (map component_in ps) l) (sym (append-nil (map status_in ps))) ∙ parts_back ps []

submirrors_back : (ss : List RecordedSubmirror) → beside submirror_of (map volume_in ss) (map offline_in ss) ≡ ss
submirrors_back ss = ap (beside submirror_of (map volume_in ss)) (sym (append-nil (map offline_in ss))) ∙ always_back submirror_of volume_in offline_in (λ s. refl) ss []

rows_back : (rows : List RecordedRow) (more : List PartStatus) → rows_of (map row_in rows) (flat_map row_states rows ++ more) ≡ rows
rows_back [] more = refl
rows_back (r ∷ rs) more =
    let rest = flat_map row_states rs ++ more in
    let states : flat_map row_states (r ∷ rs) ++ more ≡ row_states r ++ rest = append_assoc (row_states r) (flat_map row_states rs) more in
    let size : length (map component_in r.parts) ≡ length (row_states r) = length-map r.parts component_in ∙ sym (length-map r.parts status_in) in
    let behind : drop (length (map component_in r.parts)) (row_states r ++ rest) ≡ rest = ap (λ (n : ℕ). drop n (row_states r ++ rest)) size ∙ drop-append_seam (row_states r) rest in
    ap (rows_of (row_in r ∷ map row_in rs)) states
    ∙ (λ i. record { interlace = r.interlace; parts = parts_back r.parts rest i } ∷ rows_of (map row_in rs) (behind i))
    ∙ ap (λ (l : List RecordedRow). r ∷ l) (rows_back rs more)

width-states : (rows : List RecordedRow) → length (flat_map row_states rows) ≡ sum_by width_of rows
width-states rows = length-flat_map row_states rows ∙ ap (λ (f : RecordedRow → ℕ). sum_by f rows) (λ i r. length-map r.parts status_in i)

stripe_back : (s : RecordedStripe) → StripeFits s → rows_of (map row_in s.rows) (stripe_states s.rows) ≡ s.rows
stripe_back s fits =
    let all = flat_map row_states s.rows in
    ap (rows_of (map row_in s.rows)) (take_all 100 all (omega (arith, width-states s.rows, fits.few)) ∙ sym (append-nil all)) ∙ rows_back s.rows []

kind_back : (k : RecordedKind) → KindFits k → kind_of (kind_in k) (noted_in k) ≡ k
kind_back (Stripe s) fits = λ i. Stripe (record { spares = s.spares; rows = stripe_back s fits i })
kind_back (Mirror m) fits = λ i. Mirror (record { options = m.options; submirrors = submirrors_back m.submirrors i; blocks = m.blocks; dirty = m.dirty })
kind_back (Raid r) fits = λ i. Raid (record { spares = r.spares; interlace = r.interlace; columns = record { units = r.columns.units; state = r.columns.state; parts = all_parts_back r.columns.parts i } })
kind_back (Soft s) fits = refl

volume_back : (v : RecordedVolume) → VolumeFits v → volume_of (plan_volume v) (noted_volume v) ≡ v
volume_back v fits = λ i. record { number = v.number; kind = kind_back v.kind fits.1 i }

volumes_back : (vs : List RecordedVolume) → All VolumeFits vs → beside volume_of (map plan_volume vs) (map noted_volume vs) ≡ vs
volumes_back vs all = ap (beside volume_of (map plan_volume vs)) (sym (append-nil (map noted_volume vs))) ∙ back volume_of plan_volume noted_volume VolumeFits volume_back vs [] all

-- states that are the same are equal
same_is : (a b : SpareState) → IsTrue (is_same a b) → a ≡ b
same_is Available Available same = refl
same_is InUse InUse same = refl
same_is Broken Broken same = refl
same_is Available InUse same = cc (same)
same_is Available Broken same = cc (same)
same_is InUse Available same = cc (same)
same_is InUse Broken same = cc (same)
same_is Broken Available same = cc (same)
same_is Broken InUse same = cc (same)

same_self : (a : SpareState) → is_same a a ≡ true
same_self Available = refl
same_self InUse = refl
same_self Broken = refl

module _ (states : List SpareStatus) where
  spares_back : (ss : List RecordedSpare) → list_all (is_settled states) ss ≡ true → map (spare_of states) (map spare_in ss) ≡ ss
  spares_back [] settled = refl
  spares_back (s ∷ ss) settled =
      let both = and_parts (is_settled states s) (list_all (is_settled states) ss) settled in
      λ i. record { spare = s.spare; state = same_is (state_in states s.spare.slice) s.state both.0 i } ∷ spares_back ss both.1 i

  pub pools_back : (ps : List RecordedPool) → are_settled states ps ≡ true → map (pool_of states) (map plan_pool ps) ≡ ps
  pools_back [] settled = refl
  pools_back (p ∷ ps) settled =
      let both = and_parts (is_pool_settled states p) (are_settled states ps) settled in
      λ i. record { number = p.number; spares = spares_back p.spares both.0 i } ∷ pools_back ps both.1 i

  -- a table's own states are settled
  own_spares : (ss : List Spare) → list_all (is_settled states) (map (spare_of states) ss) ≡ true
  own_spares [] = refl
  own_spares (s ∷ ss) = and_from (is_settled states (spare_of states s)) (list_all (is_settled states) (map (spare_of states) ss)) (same_self (state_in states s.slice)) (own_spares ss)

  pub own_pools : (ps : List Pool) → are_settled states (map (pool_of states) ps) ≡ true
  own_pools [] = refl
  own_pools (p ∷ ps) = and_from (is_pool_settled states (pool_of states p)) (are_settled states (map (pool_of states) ps)) (own_spares p.spares) (own_pools ps)

pub recorded_back : (r : Recorded) → IsRecord r → are_settled (spare_states r.pools) r.pools ≡ true → recorded_of (table_of r) ≡ r
recorded_back r is settled = λ i. record {
  front = r.front;
  pools = pools_back (spare_states r.pools) r.pools settled i;
  volumes = volumes_back r.volumes is.fits.volumes.list.each i;
}
