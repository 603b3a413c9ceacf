-- What a list ends as whose values are lent.
use Rattle.std.specs.Prelude.{ℕ, List, ◌++◌, length, take, drop}
use Rattle.std.specs.Borrow.{Lends, Fml, RattleType, MutBor, Array, u8}
use Rattle.mdv_plan.specs.contracts.listed.Listed.{the_row as listed_row}
use Rattle.mdv_plan.specs.contracts.status.Regions.{the_row as regions_row}

-- the values that are left, as many as there were
abbrev pub left_in : {T : Type 0} → List T → List T → List T
left_in was left = take (length was) (left ++ drop (length left) was)

module _ (T MOST : RattleType) (v : MutBor (List T.Denot)) where
  abbrev pub lends_items : MutBor (List T.Denot) → Fml
  lends_items r = Lends (listed_row T MOST) (Array T 0) v r (left_in v.now)

module _ (v : MutBor (List ℕ)) where
  abbrev pub lends_bytes : MutBor (List ℕ) → Fml
  lends_bytes r = Lends regions_row (Array u8 0) v r (left_in v.now)
