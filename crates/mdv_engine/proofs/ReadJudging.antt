-- Why a transfer is refused: a volume that isn't there, then the number of its blocks, and then their end.
use Rattle.std.proofs.Common.{◌≡◌, inl, inr, ◌+◌, ◌<◌, ◌≤◌, ◌++◌, ℕ, Bool, true, false, List, Option, Some, None, refl, sym, ap, ◌∙◌, subst, length, replicate, arith}
use Rattle.std.proofs.lemmas.Bool.{le-ltb, lt-ltb}
use Rattle.std.proofs.lemmas.List.{append-nil, length-replicate}
use Rattle.std.specs.Prelude.{nat_lt}
use Rattle.mdv_base.specs.Order.{first_refusal, where_so}
use Rattle.mdv_base.specs.declared.refusal.Refusal.TheVariants.{NoDatabase, NoSuchVolume, OutOfRange, TooMany}
use Rattle.mdv_words.specs.declared.written.Written.TheVariants.{Filled, One}
use Rattle.mdv_engine_law.specs.Below.{map_of}
use Rattle.mdv_engine_law.specs.Refusals.{blocks_refusal, held_of_blocks, held_past, transfer_refusal}
use Rattle.mdv_engine.specs.Below.{AreCalm, Outcomes, OutOfMemory, VolId, Refusal, Host, Map, Memory, Opened, blocks_of}
use Rattle.mdv_engine.specs.Engine.{FailedBlocks, FailedWrite, HasBlocksCause, HasReadCause}
use Rattle.mdv_engine.specs.Writing.{HasWriteCause, IsFree}

-- why a transfer of too many blocks is refused
abbrev past_many : Option Map → Option Refusal
past_many None = Some NoSuchVolume
past_many (Some v) = Some TooMany

abbrev many_refusal : Host → Option Opened → VolId → Option Refusal
many_refusal host None volume = Some NoDatabase
many_refusal host (Some o) volume = past_many (map_of host.drives o.table volume)

past_first : (past : Bool) → first_refusal (where_so past OutOfRange ++ where_so true TooMany) ≡ Some TooMany
past_first true = refl
past_first false = refl

found_first : (found : Option Map) (end : ℕ) → first_refusal (held_past found end ++ where_so true TooMany) ≡ past_many found
found_first None end = refl
found_first (Some v) end = past_first (nat_lt v.blocks end)

many_first : (host : Host) (opened : Option Opened) (volume : VolId) (end : ℕ) → first_refusal (held_of_blocks host opened volume end ++ where_so true TooMany) ≡ many_refusal host opened volume
many_first host None volume end = refl
many_first host (Some o) volume end = found_first (map_of host.drives o.table volume) end

-- that it is there is known by none of its blocks
none_past : (v : Map) → first_refusal (held_past (Some v) 0) ≡ None
none_past v = ap (λ (past : Bool). first_refusal (where_so past OutOfRange)) (le-ltb v.blocks 0 (omega arith))

there_first : (found : Option Map) (r : Refusal) → first_refusal (held_past found 0) ≡ Some r → past_many found ≡ Some r
there_first None r is = is
there_first (Some v) r is = absurd (cc (sym (none_past v) ∙ is))

there_many : (found : Option Map) → first_refusal (held_past found 0) ≡ None → past_many found ≡ Some TooMany
there_many None is = absurd (cc (is))
there_many (Some v) is = refl

module _ (host : Host) (opened : Option Opened) (volume : VolId) where
  absent_is : (r : Refusal) → blocks_refusal host opened volume 0 ≡ Some r → many_refusal host opened volume ≡ Some r
  absent_is r is = by opened is where
    by : (o : Option Opened) → blocks_refusal host o volume 0 ≡ Some r → many_refusal host o volume ≡ Some r
    by None is = is
    by (Some o) is = there_first (map_of host.drives o.table volume) r is

  there_is : blocks_refusal host opened volume 0 ≡ None → many_refusal host opened volume ≡ Some TooMany
  there_is is = by opened is where
    by : (o : Option Opened) → blocks_refusal host o volume 0 ≡ None → many_refusal host o volume ≡ Some TooMany
    by None is = absurd (cc (is))
    by (Some o) is = there_many (map_of host.drives o.table volume) is

  module _ (at count : ℕ) where
    many_is : 1024 < count → transfer_refusal host opened volume at count ≡ many_refusal host opened volume
    many_is many = ap (λ (more : Bool). first_refusal (held_of_blocks host opened volume (at + count) ++ where_so more TooMany)) (lt-ltb 1024 count many) ∙ many_first host opened volume (at + count)

    -- of too many blocks: for the volume, or else for their number
    pub absent_first : 1024 < count → (r : Refusal) → blocks_refusal host opened volume 0 ≡ Some r → transfer_refusal host opened volume at count ≡ Some r
    absent_first many r is = many_is many ∙ absent_is r is

    pub too_many : 1024 < count → blocks_refusal host opened volume 0 ≡ None → transfer_refusal host opened volume at count ≡ Some TooMany
    too_many many is = many_is many ∙ there_is is

    -- of fewer: as the blocks are
    pub few_is : count ≤ 1024 → transfer_refusal host opened volume at count ≡ blocks_refusal host opened volume (at + count)
    few_is few = ap (λ (more : Bool). first_refusal (held_of_blocks host opened volume (at + count) ++ where_so more TooMany)) (le-ltb 1024 count few) ∙ ap first_refusal (append-nil (held_of_blocks host opened volume (at + count)))

-- blocks that nothing refuses, and that aren't read
module _ (calls : Outcomes) (host : Host) (memory : Memory) (volume : VolId) (at count : ℕ) (r : Refusal) (few : count ≤ 1024) (free : transfer_refusal host memory.opened volume at count ≡ None) where
  pub cause_is : HasBlocksCause FailedBlocks calls host memory volume at count r → HasReadCause calls host memory volume at count r
  cause_is (inl is) = absurd (cc (sym free ∙ few_is host memory.opened volume at count few ∙ is.1))
  cause_is (inr (of, none, fault)) = inr (inl (of, free, fault))

-- how many blocks a `fill` writes
pub filled_length : (count byte : ℕ) → length (blocks_of (Filled count byte)) ≡ count
filled_length count byte = length-replicate count (replicate 512 byte)

-- why a write isn't done, of one block or of many
module _ (calls : Outcomes) (host : Host) (memory : Memory) (volume : VolId) (at : ℕ) where
  one_few : 1 ≤ 1024
  one_few = omega arith

  pub one_free : (block : List ℕ) → blocks_refusal host memory.opened volume (at + 1) ≡ None → IsFree host memory volume at (One block)
  one_free block none = (few_is host memory.opened volume at 1 one_few ∙ none, one_few)

  pub one_cause : (block : List ℕ) (r : Refusal) → HasBlocksCause FailedWrite calls host memory volume at 1 r → HasWriteCause calls host memory volume at (One block) r
  one_cause block r (inl is) = inl (is.0, few_is host memory.opened volume at 1 one_few ∙ is.1)
  one_cause block r (inr (of, none, fault)) = inr (inl (of, one_free block none, fault))

  -- of a `fill`
  module _ (count byte : ℕ) where
    same : length (blocks_of (Filled count byte)) ≡ count
    same = filled_length count byte

    pub filled_free : count ≤ 1024 → transfer_refusal host memory.opened volume at count ≡ None → IsFree host memory volume at (Filled count byte)
    filled_free few free = (subst (λ (n : ℕ). transfer_refusal host memory.opened volume at n ≡ None) (sym same) free, (let count_is = same in omega (arith, few, count_is)))

    -- where nothing refused it before its blocks were made
    pub filled_cause : (r : Refusal) → IsFree host memory volume at (Filled count byte) → HasBlocksCause FailedWrite calls host memory volume at (length (blocks_of (Filled count byte))) r → HasWriteCause calls host memory volume at (Filled count byte) r
    filled_cause r free (inl is) = absurd (cc (sym free.0 ∙ few_is host memory.opened volume at (length (blocks_of (Filled count byte))) free.1 ∙ is.1))
    filled_cause r free (inr (of, none, fault)) = inr (inl (of, free, fault))

    -- or something did
    pub unfilled_cause : (r : Refusal) → transfer_refusal host memory.opened volume at count ≡ Some r → AreCalm calls → HasWriteCause calls host memory volume at (Filled count byte) r
    unfilled_cause r is calm = inl (calm, subst (λ (n : ℕ). transfer_refusal host memory.opened volume at n ≡ Some r) (sym same) is)

    pub wanting_cause : (r : Refusal) → IsFree host memory volume at (Filled count byte) → AreCalm calls → r ≡ OutOfMemory → HasWriteCause calls host memory volume at (Filled count byte) r
    wanting_cause r free calm want = inr (inr (tt, calm, free, want))
