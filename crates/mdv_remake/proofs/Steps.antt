-- A volume or a pool of a plan is made as it is where what it needs is there.
use Rattle.std.proofs.Common.{◌≡◌, ◌≢◌, ◌+◌, ◌-◌, ◌/◌, ◌*◌, ◌==◌, ℕ, Bool, true, false, not, Option, None, Some, refl, sym, ◌∙◌, ap, subst, List, [], ◌∷◌, map, length, append-nil}
use Rattle.std.specs.List.{All, filter}
use Rattle.std.proofs.lemmas.Bool.{ne_eqb, not_from_false, not_from_true, eq-eqb, false≢true}
use Rattle.std.proofs.lemmas.List.Elements.{All-head, All-tail}
use Rattle.mdv_components.specs.Bases.{pool_of, volume_of}
use Rattle.mdv_components.specs.Raids.{column_blocks, raid_interlace, raid_on, raid_status, units_of}
use Rattle.mdv_components.specs.Room.{component_on}
use Rattle.mdv_components.specs.Stripes.{all_bases, row_blocks, row_interlace, row_on, stripe_on, stripe_status, used_blocks}
use Rattle.mdv_plan.specs.Named.{base_below, kind_below}
use Rattle.mdv_plan.specs.Sorted.{IsAscending, with_item, with_put}
use Rattle.mdv_plan.specs.declared.status.Status.{Status}
use Rattle.mdv_plan.specs.declared.volume.Mirror.{Mirror as OneMirror}
use Rattle.mdv_plan.specs.declared.volume.Soft.{Soft as OneSoft}
use Rattle.mdv_plan.specs.declared.volume.Stripe.{Stripe as OneStripe}
use Rattle.mdv_print.specs.Entries.{base_named, extent_entry, is_serial, read_from, row_entry, spare_slice}
use Rattle.mdv_softs.specs.Making.{soft_on, soft_status}
use Rattle.mdv_softs.specs.Room.{extents_in, given_room, start_on}
use Rattle.mdv_softs.specs.declared.making.SoftAsked.{SoftAsked}
use Rattle.mdv_spares.specs.Pools.{pool_with}
use Rattle.mdv_submirrors.specs.Mirrors.{mirror_blocks, mirror_on}
use Rattle.mdv_change.specs.Change.{refusal_of}
use Rattle.mdv_remake.specs.Asked.{base_of, mirror_of, row_of, run_of}
use Rattle.mdv_remake.specs.Below.{AddSpares, Base, Slice, Volume, Change, DriveNo, Extents, Geometry, MakeMirror, MakeRaid, MakeSoft, MakeStripe, Mirror, MirrorAsked, OnePool, OneRaid, OneVolume, Plan, PoolId, Raid, RaidAsked, Row, RowAsked, Soft, Stripe, Table, VolId, VolumeKind}
use Rattle.mdv_remake.specs.Making.{after, refused}
use Rattle.mdv_remake.specs.Now.{Fits, IsNow, IsPoolNow, IsRowNow, PoolFits, beside, beside_pool, is_raid, pool_asked, raid_asked, unnoted, volume_asked}
use Rattle.mdv_remake.proofs.Bases.{base_back, bases_in, part_bases, parts_below, read_back, rows_below, runs_back, write_back}
use Rattle.mdv_remake.proofs.Causes.{free_of_causes, not_refused}
use Rattle.mdv_remake.proofs.Components.{raid_free, rows_in, stripe_free}
use Rattle.mdv_remake.proofs.Kept.{filter_all, one_more, put_fresh}
use Rattle.mdv_remake.proofs.Mirrors.{VolumeIn, blocks_kept, mirror_free}
use Rattle.mdv_remake.proofs.Parts.{BaseIn, PoolIn, least_kept, part, pool_gone}
use Rattle.mdv_remake.proofs.Pools.{pool_free, pool_made}
use Rattle.mdv_remake.proofs.Ready.{AreReady, joined_stay_ready, not_initializing, put_ready}
use Rattle.mdv_remake.proofs.Softs.{StartsNow, asked_on, given_there, soft_free, start_kept}

-- all numbers but one
abbrev pub but : ℕ → ℕ → Bool
but k n = not (n == k)

abbrev pub any : ℕ → Bool
any n = true

-- the plan without the volume, and without the pool, is a part of it
pub beside_is : (p : Plan) (w : OneVolume) → part (but w.number.0) any p ≡ beside w p
beside_is p w = λ i. record p { volumes = filter (λ (v : OneVolume). but w.number.0 v.number.0) p.volumes; pools = filter_all (λ (q : OnePool). true) p.pools (λ k d lt. refl) i }

pub beside_pool_is : (p : Plan) (q : OnePool) → part any (but q.number.0) p ≡ beside_pool q p
beside_pool_is p q = λ i. record p { volumes = filter_all (λ (v : OneVolume). true) p.volumes (λ k d lt. refl) i; pools = filter (λ (r : OnePool). but q.number.0 r.number.0) p.pools }

pub others : (vs : ℕ → Bool) (k : ℕ) → vs k ≡ false → (n : ℕ) → vs n ≡ true → but k n ≡ true
others vs k out n there = not_from_false (n == k) (ne_eqb n k (λ is. false≢true (sym out ∙ sym (ap vs is) ∙ there)))

pub all_others : (qs : ℕ → Bool) (n : ℕ) → qs n ≡ true → any n ≡ true
all_others qs n there = refl

-- the pool from which the volume takes its spares
abbrev pub kind_pool : VolumeKind → Option PoolId
kind_pool (Stripe s) = s.spares
kind_pool (Mirror m) = None
kind_pool (Raid r) = r.spares
kind_pool (Soft s) = None

-- it isn't refused, and the plan has it then
pub record IsStep (g : Geometry) (drives : List DriveNo) (p : Plan) (ws rs : ℕ → Bool) (t : Table) (asked : Option Change) : Type 0 where
  pub allowed : refused g drives t asked ≡ None
  pub plan : (after g t asked).plan ≡ part ws rs p
  pub ready : AreReady p (after g t asked).status.volumes

map_same : {X Y : Type 0} (f h : X → Y) (xs : List X) → All (λ x. f x ≡ h x) xs → map f xs ≡ map h xs
map_same f h [] same = refl
map_same f h (x ∷ xs) same = λ i. All-head (λ y. f y ≡ h y) x xs same i ∷ map_same f h xs (All-tail (λ y. f y ≡ h y) x xs same) i

-- Below: of a part of a plan.
module _ (vs qs : ℕ → Bool) (p : Plan) (g : Geometry) where
  component_kept : (n : ℕ) (b : Base) → component_on g (part vs qs p) n b ≡ component_on g p n b
  component_kept n (Slice s) = refl
  component_kept n (Volume v) = refl

  components_kept : (n : ℕ) (bs : List Base) → map (component_on g (part vs qs p) n) bs ≡ map (component_on g p n) bs
  components_kept n bs = map_same (component_on g (part vs qs p) n) (component_on g p n) bs (λ i d lt. component_kept n _)

  row_kept : (r : RowAsked) → All (BaseIn vs) r.components → row_on g (part vs qs p) r ≡ row_on g p r
  row_kept r all =
      let blocks : row_blocks g (part vs qs p) r ≡ row_blocks g p r = ap (used_blocks (length r.components) (row_interlace r)) (least_kept vs qs p g r.components all) in
      let components : map (component_on g (part vs qs p) (row_blocks g (part vs qs p) r)) r.components ≡ map (component_on g p (row_blocks g p r)) r.components =
      ap (λ (n : ℕ). map (component_on g (part vs qs p) n) r.components) blocks ∙ components_kept (row_blocks g p r) r.components
      in
      λ i. record { interlace = row_interlace r; components = components i }

  rows_made : (rows : List Row) → All (λ (r : RowAsked). All (BaseIn vs) r.components) (map row_of (map row_entry rows)) → All (IsRowNow g p) rows → map (row_on g (part vs qs p)) (map row_of (map row_entry rows)) ≡ rows
  rows_made [] all now = refl
  rows_made (row ∷ rows) all now =
      let first = row_kept (row_of (row_entry row)) (All-head (λ (r : RowAsked). All (BaseIn vs) r.components) (row_of (row_entry row)) (map row_of (map row_entry rows)) all) ∙ All-head (IsRowNow g p) row rows now in
      let rest = rows_made rows (All-tail (λ (r : RowAsked). All (BaseIn vs) r.components) (row_of (row_entry row)) (map row_of (map row_entry rows)) all) (All-tail (IsRowNow g p) row rows now) in
      λ i. first i ∷ rest i

  units_kept : (r : RaidAsked) → All (BaseIn vs) r.columns → units_of g (part vs qs p) r ≡ units_of g p r
  units_kept r all = ap (λ (n : ℕ). (n - 136) / raid_interlace r) (least_kept vs qs p g r.columns all)

  columns_made : (r : RaidAsked) → All (BaseIn vs) r.columns → map (component_on g (part vs qs p) (column_blocks g (part vs qs p) r)) r.columns ≡ map (component_on g p (column_blocks g p r)) r.columns
  columns_made r all =
      ap (λ (n : ℕ). map (component_on g (part vs qs p) (136 + n * raid_interlace r)) r.columns) (units_kept r all) ∙ components_kept (column_blocks g p r) r.columns

-- a volume comes to its place
module _ (p : Plan) (w : OneVolume) (vs ws qs : ℕ → Bool) (rises : IsAscending (λ v. v.number.0) p.volumes) (own : volume_of p w.number ≡ Some w) (out : vs w.number.0 ≡ false)
    (made : ws w.number.0 ≡ true) (same : (n : ℕ) → n ≢ w.number.0 → ws n ≡ vs n) where
  volume_comes : (x : OneVolume) → x ≡ w → with_item (λ v. v.number.0) x (filter (λ (v : OneVolume). vs v.number.0) p.volumes) ≡ filter (λ (v : OneVolume). ws v.number.0) p.volumes
  volume_comes x is =
      ap (λ (y : OneVolume). with_item (λ v. v.number.0) y (filter (λ (v : OneVolume). vs v.number.0) p.volumes)) is
      ∙ one_more (λ (v : OneVolume). v.number.0) vs ws w out made same p.volumes rises own

  pub plan_with : (x : OneVolume) → x ≡ w → record (part vs qs p) { volumes = with_item (λ v. v.number.0) x (filter (λ (v : OneVolume). vs v.number.0) p.volumes) } ≡ part ws qs p
  plan_with x is = λ i. record p { volumes = volume_comes x is i; pools = filter (λ (q : OnePool). qs q.number.0) p.pools }

module _ (g : Geometry) (drives : List DriveNo) (p : Plan) (vs ws qs : ℕ → Bool) (rises : IsAscending (λ v. v.number.0) p.volumes) (starts : All (λ (w : OneVolume). StartsNow g p w.kind) p.volumes) (status : Status) (ready : AreReady p status.volumes) where
  abbrev now : Table
  now = record { plan = part vs qs p; status = status }

  module _ (v : VolId) (out : vs v.0 ≡ false) (made : ws v.0 ≡ true) (same : (n : ℕ) → n ≢ v.0 → ws n ≡ vs n) where
    stripe_step : (s : OneStripe) → volume_of p v ≡ Some (record { number = v; kind = Stripe s }) → refused g drives (unnoted (part (but v.0) any p)) (volume_asked (record { number = v; kind = Stripe s })) ≡ None →
        IsNow g p (Stripe s) → All (VolumeIn vs) (kind_below (Stripe s)) → PoolIn qs s.spares → IsStep g drives p ws qs now (volume_asked (record { number = v; kind = Stripe s }))
    stripe_step s own fits rows_now below in_pool =
        let rows : List RowAsked = map row_of (map row_entry s.rows) in
        let change : Change = MakeStripe v rows s.spares in
        let all : All (BaseIn vs) (all_bases rows) = bases_in vs (all_bases rows) (subst (All (VolumeIn vs)) (sym (rows_below s.rows)) below) in
        let built : map (row_on g (part vs qs p)) rows ≡ s.rows = rows_made vs qs p g s.rows (rows_in (BaseIn vs) rows all) rows_now in
        let is : stripe_on g (part vs qs p) v rows s.spares ≡ record { number = v; kind = Stripe s } = λ i. record { number = v; kind = Stripe (record { rows = built i; spares = s.spares }) } in
        record {
          allowed = not_refused g drives now change (stripe_free vs (but v.0) qs any (others vs v.0 out) (all_others qs) p g drives v rows s.spares out all in_pool (free_of_causes g drives (unnoted (part (but v.0) any p)) change fits));
          plan = plan_with p (record { number = v; kind = Stripe s }) vs ws qs rises own out made same (stripe_on g (part vs qs p) v rows s.spares) is;
          ready = put_ready p (stripe_status v rows) status.volumes (λ on. absurd (false≢true on)) ready;
        }

    raid_step : (r : OneRaid) → volume_of p v ≡ Some (record { number = v; kind = Raid r }) → refused g drives (unnoted (part (but v.0) any p)) (volume_asked (record { number = v; kind = Raid r })) ≡ None →
        IsNow g p (Raid r) → All (VolumeIn vs) (kind_below (Raid r)) → PoolIn qs r.spares → IsStep g drives p ws qs now (volume_asked (record { number = v; kind = Raid r }))
    raid_step r own fits is_now below in_pool =
        let asked : RaidAsked = raid_asked r in
        let change : Change = MakeRaid v asked in
        let all : All (BaseIn vs) asked.columns = bases_in vs (part_bases r.columns) (subst (All (VolumeIn vs)) (sym (parts_below r.columns)) below) in
        let units : units_of g (part vs qs p) asked ≡ r.units = units_kept vs qs p g asked all ∙ is_now.0 in
        let columns : map (component_on g (part vs qs p) (column_blocks g (part vs qs p) asked)) asked.columns ≡ r.columns = columns_made vs qs p g asked all ∙ is_now.1 in
        let is : raid_on g (part vs qs p) v asked ≡ record { number = v; kind = Raid r } =
        λ i. record { number = v; kind = Raid (record { columns = columns i; interlace = r.interlace; units = units i; spares = r.spares }) }
        in
        record {
          allowed = not_refused g drives now change (raid_free vs (but v.0) qs any (others vs v.0 out) (all_others qs) p g drives v asked out all in_pool (free_of_causes g drives (unnoted (part (but v.0) any p)) change fits));
          plan = plan_with p (record { number = v; kind = Raid r }) vs ws qs rises own out made same (raid_on g (part vs qs p) v asked) is;
          ready = put_ready p (raid_status v asked) status.volumes (λ on. ap is_raid own) ready;
        }

    mirror_step : (m : OneMirror) → volume_of p v ≡ Some (record { number = v; kind = Mirror m }) → refused g drives (unnoted (part (but v.0) any p)) (volume_asked (record { number = v; kind = Mirror m })) ≡ None →
        IsNow g p (Mirror m) → All (VolumeIn vs) (kind_below (Mirror m)) → IsStep g drives p ws qs now (volume_asked (record { number = v; kind = Mirror m }))
    mirror_step m own fits size below =
        let asked : MirrorAsked = mirror_of m.submirrors (record { read = read_from m.read; serial = is_serial m.write }) m.pass in
        let change : Change = MakeMirror v asked in
        let blocks : mirror_blocks (part vs qs p) m.submirrors ≡ m.blocks = blocks_kept vs qs p m.submirrors below ∙ size in
        let is : mirror_on (part vs qs p) v asked ≡ record { number = v; kind = Mirror m } =
        λ i. record { number = v; kind = Mirror (record { submirrors = m.submirrors; read = read_back m.read i; write = write_back m.write i; pass = m.pass; blocks = blocks i }) }
        in
        record {
          allowed = not_refused g drives now change (mirror_free vs (but v.0) qs any (others vs v.0 out) (all_others qs) p v m.submirrors out below (free_of_causes g drives (unnoted (part (but v.0) any p)) change fits));
          plan = plan_with p (record { number = v; kind = Mirror m }) vs ws qs rises own out made same (mirror_on (part vs qs p) v asked) is;
          ready = joined_stay_ready p status _ m.submirrors (put_ready p _ status.volumes (λ on. absurd (false≢true on)) ready);
        }

    -- given extents, as its print has them
    soft_on_base : (s : OneSoft) → volume_of p v ≡ Some (record { number = v; kind = Soft s }) → refusal_of g drives (unnoted (part (but v.0) any p)) (MakeSoft v (asked_on s.base s.extents)) ≡ None →
        IsNow g p (Soft s) → All (VolumeIn vs) (kind_below (Soft s)) → IsStep g drives p ws qs now (Some (MakeSoft v (asked_on s.base s.extents)))
    soft_on_base s own fits is_now below =
        let change : Change = MakeSoft v (asked_on s.base s.extents) in
        let there : BaseIn vs s.base = All-head (BaseIn vs) s.base [] (bases_in vs (s.base ∷ []) (subst (All (VolumeIn vs)) (sym (append-nil (base_below s.base))) below)) in
        let fresh = not_initializing p status s.base ready is_now.1 in
        let free = free_of_causes g drives (unnoted (part (but v.0) any p)) change fits in
        let given = given_there vs (but v.0) qs any (others vs v.0 out) (all_others qs) p g drives starts v s.base s.extents status out there fresh free in
        let start : start_on g (part vs qs p) s.base ≡ s.start = start_kept g vs qs p s.base starts ∙ is_now.0 in
        let is : soft_on g (part vs qs p) v s.base (given_room g (part vs qs p) s.base s.extents) ≡ record { number = v; kind = Soft s } =
        λ i. record { number = v; kind = Soft (record { base = s.base; start = start i; extents = extents_in (given i) }) }
        in
        record {
          allowed = not_refused g drives now change (soft_free vs (but v.0) qs any (others vs v.0 out) (all_others qs) p g drives starts v s.base s.extents status out there fresh free);
          plan = plan_with p (record { number = v; kind = Soft s }) vs ws qs rises own out made same (soft_on g (part vs qs p) v s.base (given_room g (part vs qs p) s.base s.extents)) is;
          ready = put_ready p (soft_status v) status.volumes (λ on. absurd (false≢true on)) ready;
        }

    soft_step : (s : OneSoft) → volume_of p v ≡ Some (record { number = v; kind = Soft s }) → refused g drives (unnoted (part (but v.0) any p)) (volume_asked (record { number = v; kind = Soft s })) ≡ None →
        IsNow g p (Soft s) → All (VolumeIn vs) (kind_below (Soft s)) → IsStep g drives p ws qs now (volume_asked (record { number = v; kind = Soft s }))
    soft_step s own fits is_now below =
        let asked : SoftAsked = record { base = base_of (base_named s.base); room = Extents (map run_of (map extent_entry s.extents)) } in
        let is_asked : asked ≡ asked_on s.base s.extents = λ i. record { base = base_back s.base i; room = Extents (runs_back s.extents i) } in
        subst (λ (a : SoftAsked). IsStep g drives p ws qs now (Some (MakeSoft v a))) (sym is_asked) (soft_on_base s own (subst (λ (a : SoftAsked). refusal_of g drives (unnoted (part (but v.0) any p)) (MakeSoft v a) ≡ None) is_asked fits) is_now below)

    kind_step : (kind : VolumeKind) → volume_of p v ≡ Some (record { number = v; kind = kind }) → refused g drives (unnoted (part (but v.0) any p)) (volume_asked (record { number = v; kind = kind })) ≡ None →
        IsNow g p kind → All (VolumeIn vs) (kind_below kind) → PoolIn qs (kind_pool kind) → IsStep g drives p ws qs now (volume_asked (record { number = v; kind = kind }))
    kind_step (Stripe s) own fits is_now below in_pool = stripe_step s own fits is_now below in_pool
    kind_step (Mirror m) own fits is_now below in_pool = mirror_step m own fits is_now below
    kind_step (Raid r) own fits is_now below in_pool = raid_step r own fits is_now below in_pool
    kind_step (Soft s) own fits is_now below in_pool = soft_step s own fits is_now below

  -- the next volume
  pub volume_step : (w : OneVolume) → vs w.number.0 ≡ false → ws w.number.0 ≡ true → ((n : ℕ) → n ≢ w.number.0 → ws n ≡ vs n) → volume_of p w.number ≡ Some w → Fits g drives p w → IsNow g p w.kind →
      All (VolumeIn vs) (kind_below w.kind) → PoolIn qs (kind_pool w.kind) → IsStep g drives p ws qs now (volume_asked w)
  volume_step w out made same own fits is_now below in_pool =
      kind_step w.number out made same w.kind own (subst (λ (q : Plan). refused g drives (unnoted q) (volume_asked w) ≡ None) (sym (beside_is p w)) fits) is_now below in_pool

-- and the next pool
module _ (g : Geometry) (drives : List DriveNo) (p : Plan) (vs qs rs : ℕ → Bool) (rises : IsAscending (λ q. q.number.0) p.pools) (pools_now : All (IsPoolNow g p) p.pools) (status : Status) (ready : AreReady p status.volumes)
    (q : OnePool) (own : pool_of p q.number ≡ Some q) (out : qs q.number.0 ≡ false) (made : rs q.number.0 ≡ true) (same : (n : ℕ) → n ≢ q.number.0 → rs n ≡ qs n) where
  abbrev before : Table
  before = record { plan = part vs qs p; status = status }

  pool_comes : (x : OnePool) → x ≡ q → with_put (λ r. r.number.0) x (filter (λ (r : OnePool). qs r.number.0) p.pools) ≡ filter (λ (r : OnePool). rs r.number.0) p.pools
  pool_comes x is =
      ap (λ (y : OnePool). with_put (λ r. r.number.0) y (filter (λ (r : OnePool). qs r.number.0) p.pools)) is
      ∙ put_fresh (λ (r : OnePool). r.number.0) q (filter (λ (r : OnePool). qs r.number.0) p.pools) (pool_gone vs qs p q.number out)
      ∙ one_more (λ (r : OnePool). r.number.0) qs rs q out made same p.pools rises own

  pub pool_step : PoolFits g drives p q → IsPoolNow g p q → IsStep g drives p vs rs before (pool_asked q)
  pool_step fits now =
      let slices = map spare_slice q.spares in
      let change : Change = AddSpares q.number true slices in
      let apart : but q.number.0 q.number.0 ≡ false = not_from_true (q.number.0 == q.number.0) (eq-eqb q.number.0 q.number.0 refl) in
      let free = free_of_causes g drives (unnoted (part any (but q.number.0) p)) change (subst (λ (x : Plan). refused g drives (unnoted x) (pool_asked q) ≡ None) (sym (beside_pool_is p q)) fits) in
      let is : pool_with g (part vs qs p) q.number slices ≡ q = pool_made vs qs p g q out pools_now now in
      record {
        allowed = not_refused g drives before change (pool_free vs any qs (but q.number.0) (all_others vs) (others qs q.number.0 out) p g drives q.number out apart pools_now slices free);
        plan = λ i. record p { volumes = filter (λ (v : OneVolume). vs v.number.0) p.volumes; pools = pool_comes (pool_with g (part vs qs p) q.number slices) is i };
        ready = ready;
      }
