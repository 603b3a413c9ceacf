-- Volumes one behind another, and the first blocks of a volume.
use Rattle.std.proofs.Common.{◌≡◌, inl, inr, ℕ, suc, ◌+◌, ◌-◌, ◌<◌, ◌≤◌, List, [], ◌∷◌, ◌++◌, length, sum_by, refl, sym, ◌∙◌, ap, subst, arith}
use Rattle.std.proofs.lemmas.Bool.{cases_lt}
use Rattle.std.proofs.lemmas.List.Sums.{sum_by-cons}
use Rattle.mdv_dev.specs.Together.{lies_where}
use Rattle.mdv_map.proofs.Combining.{chains_lie}
use Rattle.mdv_map.specs.Maps.{DriveBlock}
use Rattle.mdv_layout_law.specs.Below.{AreApart, AreDisjoint, HasDriveBlock, IsDisjoint, IsOneCopy, Map, chain_map, column_at}
use Rattle.mdv_layout_law.specs.Chained.{ChainedLie, FrontsLie, IsFrontOf, LiesInOne, blocks_in, chained, front_map}

blocks : (vs : List Map) → (chained vs).blocks ≡ sum_by blocks_in vs
blocks [] = refl
blocks (v ∷ []) = omega (arith, sum_by-cons blocks_in v [])
blocks (v ∷ w ∷ vs) = omega (arith, sum_by-cons blocks_in v (w ∷ vs), blocks (w ∷ vs))

-- a block behind the first part is one of the second
back_copies : (v w : Map) (b : ℕ) → v.blocks ≤ b → (chain_map v w).copies b ≡ w.copies (b - v.blocks)
back_copies v w b le =
    let is : b ≡ v.blocks + (b - v.blocks) = omega arith in
    ap (chain_map v w).copies is ∙ (chains_lie.back v w (b - v.blocks)).1

back_places : (v w : Map) (b : ℕ) → v.blocks ≤ b → (chain_map v w).places b ≡ w.places (b - v.blocks)
back_places v w b le =
    let is : b ≡ v.blocks + (b - v.blocks) = omega arith in
    ap (chain_map v w).places is ∙ (chains_lie.back v w (b - v.blocks)).0

lies : (vs : List Map) (b : ℕ) → b < (chained vs).blocks → LiesInOne vs b
lies [] b lt = absurd (omega arith)
lies (v ∷ []) b lt = record { index = 0; listed = omega arith; block = b; lies = record { below = lt; copies = refl; places = refl } }
lies (v ∷ w ∷ vs) b lt = elim (cases_lt b v.blocks) [
  | inl front ↦
      let same = chains_lie.front v (chained (w ∷ vs)) b front in
      record { index = 0; listed = omega arith; block = b; lies = record { below = front; copies = same.1; places = same.0 } }
  | inr back ↦
      let rest = lies (w ∷ vs) (b - v.blocks) (omega arith) in
      record {
        index = suc rest.index;
        listed = omega (arith, rest.listed);
        block = rest.block;
        lies = record {
          below = rest.lies.below;
          copies = back_copies v (chained (w ∷ vs)) b back ∙ rest.lies.copies;
          places = back_places v (chained (w ∷ vs)) b back ∙ rest.lies.places;
        };
      }
]

one : (vs : List Map) → ((i : ℕ) → i < length vs → IsOneCopy (column_at vs i)) → IsOneCopy (chained vs)
one vs each b lt =
    let there = lies vs b lt in
    let at = each there.index there.listed there.block there.lies.below in
    (at.0, at.1, lies_where (chained vs) (column_at vs there.index) b there.block at.0 at.1 there.lies at.2)

apart : (vs : List Map) (u : Map) → ((i : ℕ) → i < length vs → AreDisjoint (column_at vs i) u) → AreDisjoint (chained vs) u
apart vs u each a b drive block below above in_a in_b =
    let there = lies vs a below in
    each there.index there.listed there.block b drive block there.lies.below above (subst (λ (ss : List DriveBlock). HasDriveBlock ss drive block) there.lies.places in_a) in_b

other_way : (v w : Map) → AreDisjoint v w → AreDisjoint w v
other_way v w are a b drive block below above in_a in_b = are b a drive block above below in_b in_a

disjoint : (vs : List Map) → AreApart vs → IsDisjoint (chained vs)
disjoint [] are = record { apart = λ a b drive block below above in_a in_b. absurd (omega arith); within = λ b drive block below has. absurd (omega arith) }
disjoint (v ∷ []) are = are.each 0 (omega arith)
disjoint (v ∷ w ∷ vs) are =
    let rest : IsDisjoint (chained (w ∷ vs)) = disjoint (w ∷ vs) (record {
      each = λ i lt. are.each (suc i) (omega arith);
      apart = λ i j lt within differ. are.apart (suc i) (suc j) (omega arith) (omega arith) (λ same. differ (omega arith));
    }) in
    let first : AreDisjoint (chained (w ∷ vs)) v = apart (w ∷ vs) v (λ i lt. are.apart (suc i) 0 (omega arith) (omega arith) (λ same. absurd (omega arith))) in
    chains_lie.disjoint v (chained (w ∷ vs)) (are.each 0 (omega arith)) rest (other_way (chained (w ∷ vs)) v first)

itself : (v : Map) → IsFrontOf v v
itself v = record { blocks = omega arith; copies = λ b lt. refl; places = λ b lt. refl }

-- it is in front of a concatenation with others
first_part : (v w : Map) → IsFrontOf v (chain_map v w)
first_part v w = record { blocks = omega arith; copies = λ b lt. (chains_lie.front v w b lt).1; places = λ b lt. (chains_lie.front v w b lt).0 }

second_part : (v u w : Map) → IsFrontOf u w → IsFrontOf (chain_map v u) (chain_map v w)
second_part v u w is = record {
  blocks = (let more = is.blocks in omega arith);
  copies = λ b lt. elim (cases_lt b v.blocks) [
    | inl front ↦ (chains_lie.front v w b front).1 ∙ sym (chains_lie.front v u b front).1
    | inr back ↦ back_copies v w b back ∙ is.copies (b - v.blocks) (omega arith) ∙ sym (back_copies v u b back)
  ];
  places = λ b lt. elim (cases_lt b v.blocks) [
    | inl front ↦ (chains_lie.front v w b front).0 ∙ sym (chains_lie.front v u b front).0
    | inr back ↦ back_places v w b back ∙ is.places (b - v.blocks) (omega arith) ∙ sym (back_places v u b back)
  ];
}

front : (vs ws : List Map) → IsFrontOf (chained vs) (chained (vs ++ ws))
front [] ws = record { blocks = omega arith; copies = λ b lt. absurd (omega arith); places = λ b lt. absurd (omega arith) }
front (v ∷ []) [] = itself v
front (v ∷ []) (w ∷ ws) = first_part v (chained (w ∷ ws))
front (v ∷ w ∷ vs) ws = second_part v (chained (w ∷ vs)) (chained (w ∷ vs ++ ws)) (front (w ∷ vs) ws)

pub chained_lie : ChainedLie
chained_lie = record { blocks = blocks; lies = lies; one = one; disjoint = disjoint; apart = apart; front = front }

fewer : (count : ℕ) (v : Map) → count ≤ v.blocks → IsFrontOf (front_map count v) v
fewer count v le = record { blocks = le; copies = λ b lt. refl; places = λ b lt. refl }

further : (u w v : Map) → IsFrontOf u w → IsFrontOf w v → IsFrontOf u v
further u w v one other =
    let less = one.blocks in
    let more = other.blocks in record {
      blocks = omega arith;
      copies = λ b lt. other.copies b (omega arith) ∙ one.copies b lt;
      places = λ b lt. other.places b (omega arith) ∙ one.places b lt;
    }

module _ (w v : Map) (is : IsFrontOf w v) where
  abbrev Has : ℕ → ℕ → List DriveBlock → Type 0
  Has drive block ss = HasDriveBlock ss drive block

  front_below : (b : ℕ) → b < w.blocks → b < v.blocks
  front_below b lt = let more = is.blocks in omega arith

  front_disjoint : IsDisjoint v → IsDisjoint w
  front_disjoint are = record {
    apart = λ a b drive block below above in_a in_b.
        are.apart a b drive block (front_below a below) (front_below b above) (subst (Has drive block) (sym (is.places a below)) in_a) (subst (Has drive block) (sym (is.places b above)) in_b);
    within = λ b drive block below has. subst (Has drive block) (is.places b below) (are.within b drive block (front_below b below) (subst (Has drive block) (sym (is.copies b below)) has));
  }

  front_apart : (u : Map) → AreDisjoint v u → AreDisjoint w u
  front_apart u are a b drive block below above in_a in_b = are a b drive block (front_below a below) above (subst (Has drive block) (sym (is.places a below)) in_a) in_b

pub fronts_lie : FrontsLie
fronts_lie = record { itself = itself; front = fewer; further = further; disjoint = λ w v is. front_disjoint w v is; apart = λ w v u is. front_apart w v is u }
