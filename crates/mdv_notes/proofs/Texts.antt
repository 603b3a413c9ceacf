-- The text of a volume whose states have changed is as long as it was.
use Rattle.std.proofs.Common.{◌≡◌, suc, refl, sym, ◌∙◌, ap, Bool, true, false, List, [], ◌∷◌, ◌++◌, length, drop, Option, arith}
use Rattle.std.specs.Prelude.{flat_map}
use Rattle.std.specs.List.{AllZip, sum_by}
use Rattle.std.proofs.lemmas.List.Sums.{sum_by-cons}
use Rattle.mdv_fields.specs.Names.{flag_text, pool_text, slice_text, volume_id_text}
use Rattle.mdv_fields.specs.Numbers.{u16_text, u32_text, u64_text}
use Rattle.mdv_fields.specs.Parts.{component_text, part_status_text, PartStatusFits, raid_state_text, spare_use_text, state_text}
use Rattle.mdv_codec.specs.Recorded.{PartFits, part_text, RowFits, row_body, row_text, stripe_text, SubmirrorFits, submirror_text, mirror_text, options_text, columns_text, raid_text, KindFits, kind_text, VolumeFits, volume_text, width_of}
use Rattle.mdv_codec.specs.declared.recorded.RecordedRow.{RecordedRow}
use Rattle.mdv_fields.specs.Reading.{short_text, long_text}
use Rattle.mdv_plan.specs.declared.status.RaidState.TheVariants.{Okay as Made, Initializing, Keeping}
use Rattle.mdv_plan.specs.declared.volume.Component.{Component}
use Rattle.mdv_plan.specs.declared.volume.Row.{Row}
use Rattle.mdv_plan.specs.declared.volume.VolumeKind.TheVariants.{Stripe as StripeKind, Mirror as MirrorKind, Raid as RaidKind, Soft as SoftKind}
use Rattle.mdv_whole.specs.Sides.{beside, part_of, part_states, row_of, rows_of, submirror_of, offline_of, dirty_of, raid_state_of, kind_of, volume_of}
use Rattle.mdv_notes.specs.Below.{VolId, KindStatus, PartStatus, RaidState, State, Okay, Resyncing, Maintenance, LastErred, Regions, Whole, SpareUse, VolumeKind, OneVolume}
use Rattle.mdv_notes.proofs.Alike.{IsAlike, appended, zip_length, zip_drop, all_fit, texts_size, short_alike, long_alike, counted_size}

-- given what makes the states of a note fit
module _ (Given : Type 0) where
  -- a state that fits where the other does
  abbrev pub IsPartAlike : PartStatus → PartStatus → Type 0
  IsPartAlike p q = Given → PartStatusFits p → PartStatusFits q

  -- two bytes
  state_size : (s : State) → length (state_text s) ≡ 2
  state_size Okay = refl
  state_size (Resyncing Whole) = refl
  state_size (Resyncing Regions) = refl
  state_size Maintenance = refl
  state_size LastErred = refl

  -- a flag, four bytes and eight
  use_size : (o : Option SpareUse) → length (spare_use_text o) ≡ 13
  unfolding slice_text u64_text
  use_size o = refl

  status_size : (p q : PartStatus) → length (part_status_text q) ≡ length (part_status_text p)
  status_size p q = appended (state_text p.state) (spare_use_text p.spare) (state_text q.state) (spare_use_text q.spare) (state_size q.state ∙ sym (state_size p.state)) (use_size q.spare ∙ sym (use_size p.spare))

  part_alike : (c : Component) (p q : PartStatus) → IsPartAlike p q → IsAlike Given PartFits part_text (part_of c p) (part_of c q)
  unfolding part_text
  part_alike c p q alike = record {
    size = appended (component_text c) (part_status_text p) (component_text c) (part_status_text q) refl (status_size p q);
    fits = λ given is. (is.0, alike given is.1);
  }

  parts_alike : (cs : List Component) (ps qs : List PartStatus) → AllZip IsPartAlike ps qs → AllZip (IsAlike Given PartFits part_text) (beside part_of cs ps) (beside part_of cs qs)
  parts_alike [] ps qs all = tt
  parts_alike (c ∷ cs) [] [] all = tt
  parts_alike (c ∷ cs) [] (q ∷ qs) all = absurd all
  parts_alike (c ∷ cs) (p ∷ ps) [] all = absurd all
  parts_alike (c ∷ cs) (p ∷ ps) (q ∷ qs) all = (part_alike c p q all.0, parts_alike cs ps qs all.1)

  record IsRowAlike (a b : RecordedRow) : Type 0 where
    alike : IsAlike Given RowFits row_text a b
    width : length b.parts ≡ length a.parts

  row_alike : (r : Row) (ps qs : List PartStatus) → AllZip IsPartAlike ps qs → IsRowAlike (row_of r ps) (row_of r qs)
  unfolding row_text
  row_alike r ps qs all =
      let a = beside part_of r.components ps in
      let b = beside part_of r.components qs in
      let each = parts_alike r.components ps qs all in
      let same = zip_length (IsAlike Given PartFits part_text) a b each in
      let behind = appended (u32_text r.interlace) (flat_map part_text a) (u32_text r.interlace) (flat_map part_text b) refl (texts_size Given PartFits part_text a b each) in
      record {
        alike = record {
          size = appended (u16_text (length a)) (row_body (row_of r ps)) (u16_text (length b)) (row_body (row_of r qs)) (counted_size Given PartFits part_text a b each) behind;
          fits = λ given is. record { interlace = is.interlace; some = omega (arith, is.some, same); few = omega (arith, is.few, same); each = all_fit Given PartFits part_text a b each given is.each };
        };
        width = same;
      }

  rows_alike : (rs : List Row) (ps qs : List PartStatus) → AllZip IsPartAlike ps qs → AllZip IsRowAlike (rows_of rs ps) (rows_of rs qs)
  rows_alike [] ps qs all = tt
  rows_alike (r ∷ rs) ps qs all =
      let n = length r.components in
      (row_alike r ps qs all, rows_alike rs (drop n ps) (drop n qs) (zip_drop IsPartAlike n ps qs all))

  rows_fit : (xs ys : List RecordedRow) → AllZip IsRowAlike xs ys → AllZip (IsAlike Given RowFits row_text) xs ys
  rows_fit [] [] all = tt
  rows_fit [] (y ∷ ys) all = absurd all
  rows_fit (x ∷ xs) [] all = absurd all
  rows_fit (x ∷ xs) (y ∷ ys) all = (all.0.alike, rows_fit xs ys all.1)

  widths : (xs ys : List RecordedRow) → AllZip IsRowAlike xs ys → sum_by width_of ys ≡ sum_by width_of xs
  widths [] [] all = refl
  widths [] (y ∷ ys) all = absurd all
  widths (x ∷ xs) [] all = absurd all
  widths (x ∷ xs) (y ∷ ys) all = omega (arith, sum_by-cons width_of y ys, sum_by-cons width_of x xs, widths xs ys all.1, all.0.width)

  -- a byte
  flag_size : (flag : Bool) → length (flag_text flag) ≡ 1
  flag_size true = refl
  flag_size false = refl

  submirror_alike : (v : VolId) (f g : Bool) → IsAlike Given SubmirrorFits submirror_text (submirror_of v f) (submirror_of v g)
  unfolding submirror_text
  submirror_alike v f g = record {
    size = appended (volume_id_text v) (flag_text f) (volume_id_text v) (flag_text g) refl (flag_size g ∙ sym (flag_size f));
    fits = λ given is. is;
  }

  submirrors_alike : (vs : List VolId) (fs gs : List Bool) → length gs ≡ length fs → AllZip (IsAlike Given SubmirrorFits submirror_text) (beside submirror_of vs fs) (beside submirror_of vs gs)
  submirrors_alike [] fs gs same = tt
  submirrors_alike (v ∷ vs) [] [] same = tt
  submirrors_alike (v ∷ vs) [] (g ∷ gs) same = absurd (omega (arith, same))
  submirrors_alike (v ∷ vs) (f ∷ fs) [] same = absurd (omega (arith, same))
  submirrors_alike (v ∷ vs) (f ∷ fs) (g ∷ gs) same = (submirror_alike v f g, submirrors_alike vs fs gs (omega (arith, same)))

  made_size : (s : RaidState) → length (raid_state_text s) ≡ 1
  made_size Made = refl
  made_size Initializing = refl
  made_size Keeping = refl

  -- as many states, flags and regions
  pub record IsKindAlike (m n : KindStatus) : Type 0 where
    pub parts : AllZip IsPartAlike (part_states m) (part_states n)
    pub flags : length (offline_of n) ≡ length (offline_of m)
    pub dirty : length (dirty_of n) ≡ length (dirty_of m)

  kind_alike : (k : VolumeKind) (m n : KindStatus) → IsKindAlike m n → IsAlike Given KindFits kind_text (kind_of k m) (kind_of k n)
  unfolding kind_text stripe_text mirror_text raid_text columns_text
  kind_alike (StripeKind s) m n is =
      let a = rows_of s.rows (part_states m) in
      let b = rows_of s.rows (part_states n) in
      let each = rows_alike s.rows (part_states m) (part_states n) is.parts in
      let rows = long_alike Given RowFits row_text 100 a b (rows_fit a b each) in
      let same = zip_length IsRowAlike a b each in
      record {
        size = ap suc (appended (pool_text s.spares) (long_text row_text a) (pool_text s.spares) (long_text row_text b) refl rows.size);
        fits = λ given f. record { spares = f.spares; rows = rows.fits given f.rows; some = omega (arith, f.some, same); few = omega (arith, f.few, widths a b each) };
      }
  kind_alike (MirrorKind s) m n is =
      let a = beside submirror_of s.submirrors (offline_of m) in
      let b = beside submirror_of s.submirrors (offline_of n) in
      let each = submirrors_alike s.submirrors (offline_of m) (offline_of n) is.flags in
      let subs = short_alike Given SubmirrorFits submirror_text 4 a b each in
      let same = zip_length (IsAlike Given SubmirrorFits submirror_text) a b each in
      let behind = appended (u64_text s.blocks) (dirty_of m) (u64_text s.blocks) (dirty_of n) refl is.dirty in
      let text = options_text (record { read = s.read; write = s.write; pass = s.pass }) in
      record {
        size = ap suc (appended text (short_text submirror_text a ++ (u64_text s.blocks ++ dirty_of m)) text (short_text submirror_text b ++ (u64_text s.blocks ++ dirty_of n)) refl
            (appended (short_text submirror_text a) (u64_text s.blocks ++ dirty_of m) (short_text submirror_text b) (u64_text s.blocks ++ dirty_of n) subs.size behind));
        fits = λ given f. record { options = f.options; submirrors = subs.fits given f.submirrors; some = omega (arith, f.some, same); blocks = f.blocks; dirty = is.dirty ∙ f.dirty };
      }
  kind_alike (RaidKind r) m n is =
      let a = beside part_of r.columns (part_states m) in
      let b = beside part_of r.columns (part_states n) in
      let each = parts_alike r.columns (part_states m) (part_states n) is.parts in
      let same = zip_length (IsAlike Given PartFits part_text) a b each in
      let ma = raid_state_text (raid_state_of m) in
      let mb = raid_state_text (raid_state_of n) in
      let states = appended ma (flat_map part_text a) mb (flat_map part_text b) (made_size (raid_state_of n) ∙ sym (made_size (raid_state_of m))) (texts_size Given PartFits part_text a b each) in
      let body = appended (u64_text r.units) (ma ++ flat_map part_text a) (u64_text r.units) (mb ++ flat_map part_text b) refl states in
      let columns = appended (u16_text (length a)) (u64_text r.units ++ (ma ++ flat_map part_text a)) (u16_text (length b)) (u64_text r.units ++ (mb ++ flat_map part_text b)) (counted_size Given PartFits part_text a b each) body in
      let front = appended (u32_text r.interlace) (u16_text (length a) ++ (u64_text r.units ++ (ma ++ flat_map part_text a))) (u32_text r.interlace) (u16_text (length b) ++ (u64_text r.units ++ (mb ++ flat_map part_text b))) refl columns in
      record {
        size = ap suc (appended (pool_text r.spares) (u32_text r.interlace ++ (u16_text (length a) ++ (u64_text r.units ++ (ma ++ flat_map part_text a)))) (pool_text r.spares) (u32_text r.interlace ++ (u16_text (length b) ++ (u64_text r.units ++ (mb ++ flat_map part_text b)))) refl front);
        fits = λ given f. record {
          spares = f.spares;
          interlace = f.interlace;
          columns = record { units = f.columns.units; some = omega (arith, f.columns.some, same); few = omega (arith, f.columns.few, same); each = all_fit Given PartFits part_text a b each given f.columns.each };
        };
      }
  kind_alike (SoftKind s) m n is = record { size = refl; fits = λ given f. f }

  pub volume_alike : (v : OneVolume) (number other : VolId) (m n : KindStatus) → IsKindAlike m n → IsAlike Given VolumeFits volume_text (volume_of v (record { number = number; kind = m })) (volume_of v (record { number = other; kind = n }))
  unfolding volume_text
  volume_alike v number other m n is =
      let alike = kind_alike v.kind m n is in
      record {
        size = appended (volume_id_text v.number) (kind_text (kind_of v.kind m)) (volume_id_text v.number) (kind_text (kind_of v.kind n)) refl alike.size;
        fits = λ given f. (f.0, alike.fits given f.1);
      }
