-- The parts of a line are the entry that the volume or the pool is.
use Rattle.std.proofs.Common.{◌≡◌, ◌<◌, ◌≤◌, ◌==◌, ℕ, Bool, true, false, cond, nat_le, nat_lt, Option, None, Some, refl, sym, ◌∙◌, ap, List, [], ◌∷◌, ◌++◌, length, map, append_assoc, append-nil, arith}
use Rattle.std.proofs.lemmas.Bool.Decides.{nat_tests}
use Rattle.std.proofs.lemmas.List.{length-map}
use Rattle.std.specs.List.{flat_map}
use Rattle.mdv_base.specs.declared.drive.SliceName.{SliceName}
use Rattle.mdv_base.specs.declared.name.PoolId.{PoolId}
use Rattle.mdv_base.specs.declared.name.VolId.{VolId}
use Rattle.mdv_extent.specs.declared.run.Run.{Run}
use Rattle.mdv_name.specs.declared.volume.VolName.{VolName}
use Rattle.mdv_name.specs.declared.volume.PoolName.{PoolName}
use Rattle.mdv_plan.specs.declared.volume.Volume.{Volume as OneVolume}
use Rattle.mdv_plan.specs.declared.pool.Pool.{Pool as OnePool}
use Rattle.mdv_parts.specs.declared.part.Part.{Part}
use Rattle.mdv_parts.specs.declared.component.Component.{Component as Named}
use Rattle.mdv_parts.specs.Options.{at_letter, split_interlace}
use Rattle.mdv_parts.specs.Runs.{component_of, front, grown, passed, behind, pool_of, slice_of, volume_of}
use Rattle.mdv_plan.specs.declared.volume.Base.{Base}
use Rattle.mdv_plan.specs.declared.volume.Component.{Component}
use Rattle.mdv_plan.specs.declared.volume.ReadOption.{ReadOption}
use Rattle.mdv_plan.specs.declared.volume.Row.{Row}
use Rattle.mdv_plan.specs.declared.volume.VolumeKind.{VolumeKind}
use Rattle.mdv_plan.specs.declared.volume.WriteOption.{WriteOption}
use Rattle.mdv_plan.specs.declared.volume.Base.TheVariants.{Slice, Volume}
use Rattle.mdv_plan.specs.declared.volume.ReadOption.TheVariants.{InTurn, Geometric, First}
use Rattle.mdv_plan.specs.declared.volume.VolumeKind.TheVariants.{Stripe, Mirror, Raid, Soft}
use Rattle.mdv_plan.specs.declared.volume.WriteOption.TheVariants.{Parallel, Serial}
use Rattle.mdv_plan.specs.declared.pool.Spare.{Spare}
use Rattle.mdv_tab.specs.Form.{ends_mirror, ends_pool, entry_of, extent_and, extents, mirror_with, raid_with, room_of, volume_entry}
use Rattle.mdv_tab.specs.Options.{mirror_options, on_some, pass_of, raid_options}
use Rattle.mdv_tab.specs.Stripe.{ends_stripe, go_on, row_of_width, row_with, split_row, split_rows, stripe_of, with_rows}
use Rattle.mdv_tab.specs.declared.entry.Entry.{Entry}
use Rattle.mdv_tab.specs.declared.entry.Extent.{Extent}
use Rattle.mdv_tab.specs.declared.entry.Room.{Room}
use Rattle.mdv_tab.specs.declared.entry.Row.{Row as RowEntry}
use Rattle.mdv_print.specs.Entries.{base_named, component_named, entry_of_pool, entry_of_volume, extent_entry, is_serial, IsWholeKind, IsWholeVolume, kind_entry, read_from, row_entry, spare_slice}
use Rattle.mdv_print.specs.Parts.{base_part, component_part, extent_parts, interlace_parts, kind_parts, pool_parts, read_parts, row_parts, spare_part, spares_parts, submirror_part, write_parts}

-- a run of parts of one kind in front of others
run_front : {X A : Type 0} (kind : Part → Option A) (part : X → Part) (named : X → A) → ((x : X) → kind (part x) ≡ Some (named x)) → (xs : List X) (rest : List Part) → front kind (map part xs ++ rest) ≡ map named xs ++ front kind rest
run_front kind part named each [] rest = refl
run_front kind part named each (x ∷ xs) rest =
    ap (λ (o : Option _). grown o (front kind (map part xs ++ rest))) (each x) ∙ ap (λ (l : List _). named x ∷ l) (run_front kind part named each xs rest)

run_behind : {X A : Type 0} (kind : Part → Option A) (part : X → Part) (named : X → A) → ((x : X) → kind (part x) ≡ Some (named x)) → (xs : List X) (rest : List Part) → behind kind (map part xs ++ rest) ≡ behind kind rest
run_behind kind part named each [] rest = refl
run_behind kind part named each (x ∷ xs) rest =
    ap (λ (o : Option _). passed o (part x ∷ (map part xs ++ rest)) (behind kind (map part xs ++ rest))) (each x) ∙ run_behind kind part named each xs rest

base_is : (b : Base) → component_of (base_part b) ≡ Some (base_named b)
base_is (Slice s) = refl
base_is (Volume v) = refl

component_is : (c : Component) → component_of (component_part c) ≡ Some (component_named c)
component_is c = base_is c.on

submirror_is : (v : VolId) → volume_of (submirror_part v) ≡ Some v
submirror_is v = refl

spare_is : (s : Spare) → slice_of (spare_part s) ≡ Some (spare_slice s)
spare_is s = refl

-- neither a component nor an interlace stands in front
record EndsRow (rest : List Part) : Type 0 where
  front_is : front component_of rest ≡ []
  behind_is : behind component_of rest ≡ rest
  interlace_is : split_interlace rest ≡ Some (None, rest)

spares_end : (spares : Option PoolId) → EndsRow (spares_parts spares)
spares_end None = record { front_is = refl; behind_is = refl; interlace_is = refl }
spares_end (Some q) = record { front_is = refl; behind_is = refl; interlace_is = refl }

rows_end : (rows : List Row) (rest : List Part) → EndsRow rest → EndsRow (flat_map row_parts rows ++ rest)
rows_end [] rest ends = ends
rows_end (row ∷ rows) rest ends = record { front_is = refl; behind_is = refl; interlace_is = refl }

abbrev interlace_of : Bool → ℕ → Option ℕ
interlace_of wide blocks = cond wide (Some blocks) None

abbrev wide_parts : Bool → ℕ → List Part
wide_parts wide blocks = cond wide (interlace_parts blocks) []

wide_front : (wide : Bool) (blocks : ℕ) (rest : List Part) → EndsRow rest → front component_of (wide_parts wide blocks ++ rest) ≡ []
wide_front true blocks rest ends = refl
wide_front false blocks rest ends = ends.front_is

wide_behind : (wide : Bool) (blocks : ℕ) (rest : List Part) → EndsRow rest → behind component_of (wide_parts wide blocks ++ rest) ≡ wide_parts wide blocks ++ rest
wide_behind true blocks rest ends = refl
wide_behind false blocks rest ends = ends.behind_is

wide_split : (wide : Bool) (blocks : ℕ) (rest : List Part) → EndsRow rest → split_interlace (wide_parts wide blocks ++ rest) ≡ Some (interlace_of wide blocks, rest)
wide_split true blocks rest ends = refl
wide_split false blocks rest ends = ends.interlace_is

same_count : (n : ℕ) → (n == n) ≡ true
same_count n = grind (arith, nat_tests)

row_splits : (row : Row) (rest : List Part) → EndsRow rest → split_row (row_parts row ++ rest) ≡ Some (row_entry row, rest)
row_splits row rest ends =
    let cs = row.components in
    let wide = nat_lt 1 (length cs) in
    let tail = wide_parts wide row.interlace ++ rest in
    let joined : (map component_part cs ++ wide_parts wide row.interlace) ++ rest ≡ map component_part cs ++ tail = append_assoc (map component_part cs) (wide_parts wide row.interlace) rest in
    let fronts : front component_of (map component_part cs ++ tail) ≡ map component_named cs =
    run_front component_of component_part component_named component_is cs tail ∙ ap (λ (l : List Named). map component_named cs ++ l) (wide_front wide row.interlace rest ends) ∙ append-nil (map component_named cs)
    in
    let behinds : behind component_of (map component_part cs ++ tail) ≡ tail =
    run_behind component_of component_part component_named component_is cs tail ∙ wide_behind wide row.interlace rest ends
    in
    let count : (length (map component_named cs) == length cs) ≡ true = ap (λ (n : ℕ). n == length cs) (length-map cs component_named) ∙ same_count (length cs) in
    ap (λ (ps : List Part). row_of_width (Some (length cs)) (front component_of ps) (behind component_of ps)) joined
    ∙ ap (λ (ns : List Named). row_of_width (Some (length cs)) ns (behind component_of (map component_part cs ++ tail))) fronts
    ∙ ap (λ (ps : List Part). row_of_width (Some (length cs)) (map component_named cs) ps) behinds
    ∙ ap (λ (b : Bool). cond b (row_with (map component_named cs) (split_interlace tail)) None) count
    ∙ ap (row_with (map component_named cs)) (wide_split wide row.interlace rest ends)

rows_split : (rows : List Row) (rest : List Part) → EndsRow rest → split_rows (length rows) (flat_map row_parts rows ++ rest) ≡ Some (map row_entry rows, rest)
rows_split [] rest ends = refl
rows_split (row ∷ rows) rest ends =
    let later = flat_map row_parts rows ++ rest in
    ap (split_rows (length (row ∷ rows))) (append_assoc (row_parts row) (flat_map row_parts rows) rest)
    ∙ ap (λ (o : Option (RowEntry × List Part)). go_on o (split_rows (length rows))) (row_splits row later (rows_end rows rest ends))
    ∙ ap (λ (o : Option (List RowEntry × List Part)). go_on (Some (row_entry row, later)) (λ ps. o)) (rows_split rows rest ends)

at_least_one : (n : ℕ) → 0 < n → nat_le 1 n ≡ true
at_least_one n some = grind (arith, nat_tests)

spares_last : (name : VolName) (rows : List RowEntry) (spares : Option PoolId) → ends_stripe name rows (at_letter 104 pool_of (spares_parts spares)) ≡ Some (Entry.Stripe name rows spares)
spares_last name rows None = refl
spares_last name rows (Some q) = refl

stripe_is : (name : VolName) (rows : List Row) (spares : Option PoolId) → 0 < length rows → stripe_of name (length rows) (flat_map row_parts rows ++ spares_parts spares) ≡ Some (Entry.Stripe name (map row_entry rows) spares)
stripe_is name rows spares some =
    let ps = flat_map row_parts rows ++ spares_parts spares in
    ap (λ (b : Bool). cond b (with_rows name (split_rows (length rows) ps)) None) (at_least_one (length rows) some)
    ∙ ap (with_rows name) (rows_split rows (spares_parts spares) (spares_end spares))
    ∙ spares_last name (map row_entry rows) spares

abbrev mirror_tail : ReadOption → WriteOption → ℕ → List Part
mirror_tail read write pass = read_parts read ++ (write_parts write ++ Part.Number pass ∷ [])

tail_front : (read : ReadOption) (write : WriteOption) (pass : ℕ) → front volume_of (mirror_tail read write pass) ≡ []
tail_front InTurn Parallel pass = refl
tail_front InTurn Serial pass = refl
tail_front Geometric write pass = refl
tail_front First write pass = refl

tail_behind : (read : ReadOption) (write : WriteOption) (pass : ℕ) → behind volume_of (mirror_tail read write pass) ≡ mirror_tail read write pass
tail_behind InTurn Parallel pass = refl
tail_behind InTurn Serial pass = refl
tail_behind Geometric write pass = refl
tail_behind First write pass = refl

tail_options : (read : ReadOption) (write : WriteOption) (pass : ℕ) → mirror_options (mirror_tail read write pass) ≡ (record { read = read_from read; serial = is_serial write }, Part.Number pass ∷ [])
tail_options InTurn Parallel pass = refl
tail_options InTurn Serial pass = refl
tail_options Geometric Parallel pass = refl
tail_options Geometric Serial pass = refl
tail_options First Parallel pass = refl
tail_options First Serial pass = refl

pass_within : (pass : ℕ) → 1 ≤ pass → pass ≤ 9 → pass_of (Part.Number pass ∷ []) ≡ Some pass
pass_within pass least most =
    let low : nat_le 1 pass ≡ true = grind (arith, nat_tests) in
    let high : nat_le pass 9 ≡ true = grind (arith, nat_tests) in
    rw (low, high) refl

map_same : (vs : List VolId) → map (λ (w : VolId). w) vs ≡ vs
map_same [] = refl
map_same (v ∷ vs) = ap (λ (l : List VolId). v ∷ l) (map_same vs)

mirror_is : (name : VolName) (vs : List VolId) (read : ReadOption) (write : WriteOption) (pass : ℕ) → 0 < length vs → 1 ≤ pass → pass ≤ 9 →
    volume_entry name (Part.Letter 109 ∷ (map submirror_part vs ++ mirror_tail read write pass)) ≡ Some (Entry.Mirror name vs (record { read = read_from read; serial = is_serial write }) pass)
mirror_is name [] read write pass some least most = absurd (omega arith)
mirror_is name (v ∷ vs) read write pass some least most =
    let tail = mirror_tail read write pass in
    let ps = map submirror_part (v ∷ vs) ++ tail in
    let same : map (λ (w : VolId). w) vs ≡ vs = map_same vs in
    let fronts : front volume_of ps ≡ v ∷ vs = run_front volume_of submirror_part (λ (w : VolId). w) submirror_is (v ∷ vs) tail ∙ ap (λ (l : List VolId). map (λ (w : VolId). w) (v ∷ vs) ++ l) (tail_front read write pass) ∙ append-nil (map (λ (w : VolId). w) (v ∷ vs)) ∙ ap (λ (l : List VolId). v ∷ l) same in
    let behinds : behind volume_of ps ≡ tail = run_behind volume_of submirror_part (λ (w : VolId). w) submirror_is (v ∷ vs) tail ∙ tail_behind read write pass in
    ap (λ (l : List VolId). mirror_with name l (mirror_options (behind volume_of ps))) fronts
    ∙ ap (λ (l : List Part). mirror_with name (v ∷ vs) (mirror_options l)) behinds
    ∙ ap (mirror_with name (v ∷ vs)) (tail_options read write pass)
    ∙ ap (ends_mirror name (v ∷ vs) (record { read = read_from read; serial = is_serial write })) (pass_within pass least most)

raid_last : (blocks : ℕ) (spares : Option PoolId) → raid_options (Part.Letter 107 ∷ (interlace_parts blocks ++ spares_parts spares)) ≡ Some (record { interlace = Some blocks; spares = spares; keep = true }, [])
raid_last blocks None = refl
raid_last blocks (Some q) = refl

raid_is : (name : VolName) (cs : List Component) (blocks : ℕ) (spares : Option PoolId) → 0 < length cs →
    volume_entry name (Part.Letter 114 ∷ (map component_part cs ++ Part.Letter 107 ∷ (interlace_parts blocks ++ spares_parts spares))) ≡ Some (Entry.Raid name (map component_named cs) (record { interlace = Some blocks; spares = spares; keep = true }))
raid_is name [] blocks spares some = absurd (omega arith)
raid_is name (c ∷ cs) blocks spares some =
    let tail = Part.Letter 107 ∷ (interlace_parts blocks ++ spares_parts spares) in
    let ps = map component_part (c ∷ cs) ++ tail in
    let fronts : front component_of ps ≡ map component_named (c ∷ cs) = run_front component_of component_part component_named component_is (c ∷ cs) tail ∙ append-nil (map component_named (c ∷ cs)) in
    let behinds : behind component_of ps ≡ tail = run_behind component_of component_part component_named component_is (c ∷ cs) tail in
    ap (λ (l : List Named). raid_with name l (raid_options (behind component_of ps))) fronts
    ∙ ap (λ (l : List Part). raid_with name (map component_named (c ∷ cs)) (raid_options l)) behinds
    ∙ ap (raid_with name (map component_named (c ∷ cs))) (raid_last blocks spares)

extents_are : (runs : List Run) → extents (flat_map extent_parts runs) ≡ Some (map extent_entry runs)
extents_are [] = refl
extents_are (run ∷ runs) = ap (λ (o : Option (List Extent)). extent_and (Some (extent_entry run)) o) (extents_are runs)

soft_is : (name : VolName) (base : Base) (runs : List Run) → 0 < length runs → volume_entry name (Part.Letter 112 ∷ base_part base ∷ flat_map extent_parts runs) ≡ Some (Entry.Soft name (base_named base) (Room.Extents (map extent_entry runs)))
soft_is name base [] some = absurd (omega arith)
soft_is name base (run ∷ runs) some =
    let ps = flat_map extent_parts (run ∷ runs) in
    ap (λ (o : Option Named). on_some o (λ b. on_some (room_of ps) (λ room. Some (Entry.Soft name b room)))) (base_is base)
    ∙ ap (λ (o : Option (List Extent)). on_some (on_some o (λ es. Some (Room.Extents es))) (λ room. Some (Entry.Soft name (base_named base) room))) (extents_are (run ∷ runs))

kind_is : (name : VolName) (kind : VolumeKind) → IsWholeKind kind → volume_entry name (kind_parts kind) ≡ Some (kind_entry name kind)
kind_is name (Stripe s) whole = stripe_is name s.rows s.spares whole.0
kind_is name (Mirror m) whole = mirror_is name m.submirrors m.read m.write m.pass whole.0 whole.2 whole.3
kind_is name (Raid r) whole = raid_is name r.columns r.interlace r.spares whole.0
kind_is name (Soft s) whole = soft_is name s.base s.extents whole.1

pub volume_is : (set : Option (List ℕ)) (v : OneVolume) → IsWholeVolume v → entry_of set (Part.Volume v.number ∷ kind_parts v.kind) ≡ Some (entry_of_volume set v)
volume_is set v whole = kind_is (record { set = set; volume = v.number }) v.kind whole.kind

pub pool_is : (set : Option (List ℕ)) (q : OnePool) → entry_of set (Part.Pool q.number ∷ pool_parts q) ≡ Some (entry_of_pool set q)
pool_is set q =
    let name : PoolName = record { set = set; pool = q.number } in
    let whole = append-nil (pool_parts q) in
    let fronts : front slice_of (pool_parts q) ≡ map spare_slice q.spares = ap (front slice_of) (sym whole) ∙ run_front slice_of spare_part spare_slice spare_is q.spares [] ∙ append-nil (map spare_slice q.spares) in
    let behinds : behind slice_of (pool_parts q) ≡ [] = ap (behind slice_of) (sym whole) ∙ run_behind slice_of spare_part spare_slice spare_is q.spares [] in
    ap (λ (l : List SliceName). ends_pool name l (behind slice_of (pool_parts q))) fronts ∙ ap (λ (l : List Part). ends_pool name (map spare_slice q.spares) l) behinds
