-- Where the blocks of a volume of the open database lie: each at one place, which no replica may have.
use Rattle.std.proofs.Common.{◌≡◌, ◌⊎◌, inl, inr, ℕ, zero, suc, ◌+◌, ◌<◌, false, Option, Some, None, sym, ◌∙◌, subst, arith}
use Rattle.std.proofs.lemmas.Bool.{cases_lt, false≢true}
use Rattle.mdv_dev.specs.Pieces.{LiesAt}
use Rattle.mdv_map.specs.Maps.{HasDriveBlock, has_drive_block}
use Rattle.mdv_map.specs.Requests.{IsOff}
use Rattle.mdv_map.proofs.Covering.{has_of_test, test_of_has}
use Rattle.mdv_run_law.specs.Below.{HasBlocks, Host, Map, Memory, Opened, VolId, site_area}
use Rattle.mdv_shelf.proofs.Blocks.{both_ways}
use Rattle.mdv_volumes.specs.Tables.{AreLaid, IsMapOf}
use Rattle.mdv_volumes.proofs.Maps.{same_map}
use Rattle.mdv_run_law.proofs.Extents.{SeesOwn, block_beside}

pub opened_twice : (opened : Option Opened) (o other : Opened) → opened ≡ Some o → opened ≡ Some other → other ≡ o
opened_twice opened o other one also = cc

pub never_shut : (opened : Option Opened) (o : Opened) → opened ≡ None → opened ≡ Some o → ⊥
never_shut opened o none some = absurd (cc (none, some))

-- a block of a drive belongs to one of so many blocks of the volume, from that one on
abbrev pub IsOneOf : Map → ℕ → ℕ → ℕ → ℕ → Type 0
IsOneOf v at count drive block = (k : ℕ) × (k < count) × HasDriveBlock (v.places (at + k)) drive block

-- it does, or it belongs to none of them
pub off_or_there : (v : Map) (at count drive block : ℕ) → IsOff v at count drive block ⊎ IsOneOf v at count drive block
off_or_there v at zero drive block = inl (λ k below has. omega (arith, below))
off_or_there v at (suc count) drive block = elim (off_or_there v at count drive block) [
  | inr one ↦ (let below = one.1 in inr (one.0, omega (arith, below), one.2))
  | inl off ↦ elim (both_ways (has_drive_block (v.places (at + count)) drive block)) [
    | inl last ↦ inr (count, omega arith, has_of_test (v.places (at + count)) drive block last)
    | inr not_last ↦ inl (λ k below has. elim (cases_lt k count) [
      | inl front ↦ off k front has
      | inr past ↦
          let at_last : HasDriveBlock (v.places (at + count)) drive block = subst (λ (i : ℕ). HasDriveBlock (v.places (at + i)) drive block) (omega (arith, below, past)) has in
          false≢true (sym not_last ∙ test_of_has (v.places (at + count)) drive block at_last)
    ])
  ]
]

module _ (host : Host) (sees : SeesOwn host) (memory : Memory) (volume : VolId) (o : Opened) (opened : memory.opened ≡ Some o) (laid : AreLaid host.drives o.table) (at count : ℕ) where
  abbrev Has : Map → Type 0
  Has = HasBlocks host memory volume at count

  -- it is one of the table that is open
  pub lies_open : (v : Map) → Has v → IsMapOf host.drives o.table volume v
  lies_open v has = subst (λ (x : Opened). IsMapOf host.drives x.table volume v) (opened_twice memory.opened o has.o opened has.opened) has.lies

  -- so it has one map, and each of its blocks one copy
  pub one_map : (v w : Map) → Has v → Has w → v ≡ w
  one_map v w one other = same_map host.drives o.table volume v w (lies_open v one) (lies_open w other)

  module _ (v : Map) (has : Has v) where
    pub one_copy_each : (k : ℕ) → k < count → (drive : ℕ) × (block : ℕ) × LiesAt v (at + k) drive block
    one_copy_each k below = (let within = has.within in laid.one volume v (lies_open v has) (at + k) (omega (arith, within, below)))

    -- the blocks are none that a replica may have
    pub at_beside : (k drive block : ℕ) → k < count → HasDriveBlock (v.places (at + k)) drive block → site_area host.site drive block ≡ false
    at_beside k drive block below there = (let within = has.within in block_beside host sees o.table laid volume v (lies_open v has) (at + k) drive block (omega (arith, within, below)) there)
